use Rattle.std.proofs.Common.{ap, ◌∙◌}
use Rattle.std.proofs.lemmas.Result.{on_ok_weaker}
use Rattle.lift_openings.proofs.StillLemmas.{lifted_still, begun_still}
use Rattle.lift_openings.proofs.openings.try_resolved.Goals as goal

pub returns-then-not-branch-clause-lifted : goal.returns-then-not-branch-clause-lifted
returns-then-not-branch-clause-lifted g c =
    let s = g.S.Steps in
    let met = g.met.S.Steps in
    let a = c.args.steps.now in
    let b = c.resolves.new.steps in
    let on = c.resolves.ensures.grows in
    lifted_still (s.meaning a) (s.meaning b) (s.has a) (s.has b) (s.read a) (s.read b) c.args.lift.now
    (met.means a b on) (λ p h. met.stays a b p on h) (λ p h. met.reads a b p on h) c.requires.lifted

pub returns-then-not-branch-clause-begun : goal.returns-then-not-branch-clause-begun
returns-then-not-branch-clause-begun g c address start h =
    let s = g.S.Steps in
    let a = c.args.steps.now in
    let b = c.resolves.new.steps in
    begun_still (s.has a) (s.read a) (s.read b) c.args.lift.now (λ p k. g.met.S.Steps.reads a b p c.resolves.ensures.grows k) c.requires.lifted.found.held address start h

pub try_open-requires : goal.try_open-requires
try_open-requires g c =
    let s = g.S.Steps in
    let met = g.met.S.Steps in
    let a = c.args.steps.now in
    let b = c.resolves.new.steps in
    let on = c.resolves.ensures.grows in
    record {
      lifted = lifted_still (s.meaning a) (s.meaning b) (s.has a) (s.has b) (s.read a) (s.read b) c.args.lift.now
          (met.means a b on) (λ p h. met.stays a b p on h) (λ p h. met.reads a b p on h) c.requires.lifted;
      plain = λ address. ap (λ m. m.forks address) (met.means a b on) ∙ c.requires.plain address;
    }

pub returns-clause-begun : goal.returns-clause-begun
returns-clause-begun g c =
    let s = g.S.Steps in
    let a = c.args.steps.now in
    let b = c.resolves.new.steps in
    on_ok_weaker c.try_open.result
    (λ more address start h. more address start
    (begun_still (s.has a) (s.read a) (s.read b) c.args.lift.now (λ p k. g.met.S.Steps.reads a b p c.resolves.ensures.grows k) c.requires.lifted.found.held address start h))
    c.try_open.ensures.begun
