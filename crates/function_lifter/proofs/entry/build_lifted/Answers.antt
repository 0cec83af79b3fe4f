use Rattle.bank_values.specs.ReadBack.{predicate_at}
use Rattle.lift_rounds.specs.Known.{reading}
use Rattle.image_steps.specs.Walks.{subject_at}
use Rattle.function_lifter.proofs.entry.build_lifted.Goals as goal

pub returns : goal.returns
returns g c =
    let s = subject_at c.args.walk.now in
    let lift = c.args.lift.now in
    let known = reading (predicate_at (g.B.Bank.terms c.args.walk.now.bank.now)) lift.made.items in
    let one = c.in_ok-built.ensures in
    let f = c.in_ok-built.built.function in
    let rest = c.requires.rest in
    record {
      ok = record {
        formed = c.laws_of_lifted.ensures.form s lift.graph known c.args.entry f rest one.built one.looked;
        entry_is = one.built.entry_is;
        unrefused = one.built.unrefused;
        valid = c.laws_of_lifting.ensures.valid s lift.graph known c.args.entry f rest one.built;
        exact = c.laws_of_lifted.ensures.exact s lift.graph known c.args.entry f rest one.built;
        calls = one.calls;
        inside = c.laws_of_lifting.ensures.code s lift.graph known c.args.entry f one.built;
      };
    }
