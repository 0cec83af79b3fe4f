use Rattle.std.proofs.Common.{inl, refl}
use Rattle.instr_at.specs.At.{instr_at}
use Rattle.foxdec_commands.proofs.commands.list_output.Goals as goal

pub returns-in-Ok : goal.returns-in-Ok
returns-in-Ok c =
    let image = c.args.image.now in
    inl (record { lines = c.in-Ok.bytes.items; are = record { look_up = instr_at image; found = c.instr_at_laws.ensures.found image; lines_are = c.in-Ok.ensures }; says = refl })
