-- What the address of a place in memory is as a term (Intel SDM volume 1, 3.7.5: specifying an offset).
use Rattle.std.specs.Prelude.{ℕ, Bool, true, false}
use Rattle.sym_terms.specs.declared.kinds.Sym.TheVariants.{FsBase}
use Rattle.sym_terms.specs.Plain.{PlainSum, sum, none, symbol, single_atom}
use Rattle.sym_terms.specs.Normal.{plus, times}

-- the base of the segment: the FS base, or 0
abbrev pub segment_of : Bool → PlainSum
segment_of true = single_atom (symbol FsBase)
segment_of false = sum 0 none

-- base + k * index + displacement + segment
abbrev pub place_of : PlainSum → ℕ → PlainSum → ℕ → Bool → PlainSum
place_of base k index disp fs = plus (plus (plus base (times k index)) (sum disp none)) (segment_of fs)
