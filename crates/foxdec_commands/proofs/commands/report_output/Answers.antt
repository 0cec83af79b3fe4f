use Rattle.std.proofs.Common.{inl, refl}
use Rattle.instr_at.specs.At.{instr_at}
use Rattle.foxdec_commands.proofs.commands.report_output.Goals as goal

pub returns-in-Ok : goal.returns-in-Ok
returns-in-Ok c =
    let image = c.args.image.now in
    inl (record { text = c.in-Ok.bytes.items; is = record { look_up = instr_at image; found = c.instr_at_laws.ensures.found image; text_is = c.in-Ok.ensures }; says = refl })
