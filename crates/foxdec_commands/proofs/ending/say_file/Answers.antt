use Rattle.std.proofs.Common.{append_assoc}
use Rattle.foxdec_commands.proofs.ending.say_file.Goals as goal

pub returns : goal.returns
returns g c = simp append_assoc c.put_pieces.ensures
