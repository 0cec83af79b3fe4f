use Rattle.foxdec_commands.proofs.ending.say_write_failed.Goals as goal

pub returns : goal.returns
returns g c = rw (c.as_bytes-number.ensures.value, c.format.ensures.text) at c.put_pieces.ensures
