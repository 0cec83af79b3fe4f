-- The limits on a graph.
use Rattle.std.specs.Prelude.{ℕ}

-- the most pairs of regions that are taken as separate at a site
abbrev pub most_pairs : ℕ
most_pairs = 64

-- the most regions that a callee is assumed to leave as they were
abbrev pub most_keeps : ℕ
most_keeps = 64

-- the most vertices of a site
abbrev pub most_vertices : ℕ
most_vertices = 8

-- the most edges of a vertex
abbrev pub most_edges : ℕ
most_edges = 1024

-- the most bytes of a frame, to each side of the entry's stack pointer
abbrev pub most_frame : ℕ
most_frame = 1048576
