use Rattle.std.proofs.Common.{◌≡◌}
use Rattle.std.specs.Prelude.{Some}
use Rattle.simulation_example.specs.Machine.{target_of}
use Rattle.simulation_example.proofs.check.call_holds.Goals as goal

pub returns-then-to-target : goal.returns-then-to-target
returns-then-to-target c = λ image.
    let holds = c.after_holds.ensures image in
    let goes : target_of c.args.instr ≡ Some c.args.target = cc in
    (λ yes. record { goes = goes; after = holds.0 yes }, λ all. holds.1 all.after)
