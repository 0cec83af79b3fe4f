use Rattle.std.proofs.Common.{◌≡◌, drop}
use Rattle.term_text.specs.Names.{named}
use Rattle.term_text.proofs.names.first_named.Given as goal

abbrev pub invariant-loop-keyword : goal.invariant-loop-keyword
invariant-loop-keyword l = named (drop l.keyword-index l.keywords) l.word ≡ named l.keywords l.word
