use Rattle.std.proofs.Common.{rules}
use Rattle.wire_io.proofs.FileLemmas.{file_under-plain}
use Rattle.wire_io.proofs.shelves.find_file.Goals as goal

pub returns-in-Some : goal.returns-in-Some
returns-in-Some c = rw (file_under-plain c.args.files.now c.args.name.now) (search rules)

pub returns-in-None : goal.returns-in-None
returns-in-None c = rw (file_under-plain c.args.files.now c.args.name.now) (search rules)
