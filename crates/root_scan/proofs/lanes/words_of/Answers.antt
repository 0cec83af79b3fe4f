-- The lanes of a chunk of 64 bytes are its eight words.
use Rattle.std.proofs.Common.{arith}
use Rattle.root_scan.proofs.ChunkLemmas.{lanes_of_words}
use Rattle.root_scan.proofs.lanes.words_of.Goals as goal

pub returns : goal.returns
returns c = lanes_of_words 8 c.args.chunk.now (omega arith) c.requires
