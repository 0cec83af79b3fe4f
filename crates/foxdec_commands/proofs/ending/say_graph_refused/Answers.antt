use Rattle.foxdec_commands.proofs.ending.say_graph_refused.Goals as goal

pub returns : goal.returns
returns g c = rw (c.as_bytes.ensures.value, c.as_bytes-2.ensures.value, c.as_bytes-3.ensures.value, c.format-line.ensures.text, c.line.ensures, c.name.ensures, c.format-number.ensures.text, c.number.ensures) at c.say_line.ensures
