use Rattle.simulation.proofs.TheoremLemmas.{simulates, at_start, one_move, throughout, beginnings, origin_stays}
use Rattle.simulation.proofs.theorem.simulation.Goals as goal

pub returns : goal.returns
returns g c =
    record {
      simulates = λ image. simulates (g.I.Subject.world image) (g.I.Subject.rules image);
      at_start = λ image. at_start (g.I.Subject.world image) (g.I.Subject.rules image);
      one_move = λ image. one_move (g.I.Subject.world image) (g.I.Subject.rules image);
      throughout = λ image. throughout (g.I.Subject.world image) (g.I.Subject.rules image);
      beginnings = λ image. beginnings (g.I.Subject.world image) (g.I.Subject.rules image);
      origin = λ image. origin_stays (g.I.Subject.world image) (g.I.Subject.rules image);
    }
