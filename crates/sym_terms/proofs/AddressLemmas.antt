-- The address of a place is in normal form, and has few nodes.
use Rattle.std.proofs.Common.{ℕ, ◌+◌, ◌<◌, ◌≤◌, ◌^◌, Bool, true, false, arith}
use Rattle.sym_terms.specs.Plain.{PlainSum, sum, none, symbol, single_atom}
use Rattle.sym_terms.specs.Nodes.{nodes}
use Rattle.sym_terms.specs.Normal.{plus, times, IsNormal}
use Rattle.sym_terms.specs.Place.{segment_of, place_of}
use Rattle.sym_terms.proofs.SumLemmas.{plus_times_normal, plus_times_nodes}
use Rattle.sym_terms.proofs.AtomLemmas.{zero_normal, alone_normal}
use Rattle.sym_terms.specs.declared.kinds.Sym.TheVariants.{FsBase}

segment_normal : (fs : Bool) → IsNormal (segment_of fs)
segment_normal true = alone_normal (symbol FsBase) tt
segment_normal false = zero_normal

segment_nodes : (fs : Bool) → nodes (segment_of fs) ≤ 2
segment_nodes true = omega arith
segment_nodes false = omega arith

pub place_normal : (base : PlainSum) (k : ℕ) (index : PlainSum) (disp : ℕ) (fs : Bool) → IsNormal base → IsNormal index → disp < 2 ^ 64 → IsNormal (place_of base k index disp fs)
place_normal base k index disp fs nb ni below =
    plus_times_normal (plus (plus base (times k index)) (sum disp none)) 1 (segment_of fs)
    (plus_times_normal (plus base (times k index)) 1 (sum disp none)
    (plus_times_normal base 1 (times k index) nb (plus_times_normal (sum 0 none) k index zero_normal ni)) (below, tt))
    (segment_normal fs)

pub place_nodes : (base : PlainSum) (k : ℕ) (index : PlainSum) (disp : ℕ) (fs : Bool) → nodes (place_of base k index disp fs) ≤ nodes base + nodes index + 4
place_nodes base k index disp fs =
    omega (arith, plus_times_nodes (plus (plus base (times k index)) (sum disp none)) 1 (segment_of fs), plus_times_nodes (plus base (times k index)) 1 (sum disp none), plus_times_nodes base 1 (times k index), plus_times_nodes (sum 0 none) k index, segment_nodes fs)
