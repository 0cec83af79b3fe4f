use Rattle.foxdec_commands.proofs.ending.say_refusal.Goals as goal

pub returns-in-NotACommand : goal.returns-in-NotACommand
returns-in-NotACommand g c = rw c.in-NotACommand.is c.put_pieces.ensures

pub returns-in-ReadFailed : goal.returns-in-ReadFailed
returns-in-ReadFailed g c = rw c.in-ReadFailed.is (rw c.as_bytes.ensures.value at c.put_pieces-in-ReadFailed.ensures)

pub returns-in-OutOfMemory : goal.returns-in-OutOfMemory
returns-in-OutOfMemory g c = rw c.in-OutOfMemory.is c.put_pieces-in-OutOfMemory.ensures
