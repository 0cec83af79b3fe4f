-- The limit on the size of a term.
use Rattle.std.specs.Prelude.{ℕ}

-- the most nodes of a term
abbrev pub most_nodes : ℕ
most_nodes = 32
