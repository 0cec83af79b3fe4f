-- The one text of a term.
use Rattle.std.specs.Prelude.{ℕ, ◌-◌, ◌^◌, Bool, true, false, ◌&&◌, not, ◌==◌, nat_lt, if◌then◌else◌, List, [], ◌∷◌, ◌++◌, codes}
use Rattle.std.specs.Fmt.{digits}
use Rattle.sym_terms.specs.declared.kinds.Sym.{Sym}
use Rattle.sym_terms.specs.declared.kinds.Sym.TheVariants.{Entry, Ra, FsBase, Named}
use Rattle.sym_terms.specs.Plain.{PlainSum, sum, Summands, none, more, PlainAtom, symbol, fitted, paired}
use Rattle.term_text.specs.Bytes.{open_paren, close_paren, comma_byte}
use Rattle.term_text.specs.Numbers.{number_text}
use Rattle.term_text.specs.Names.{fixed_name, fit_name, pair_name}

-- read as signed, -9999 to -1
abbrev pub is_negative : ℕ → Bool
is_negative k = nat_lt (2 ^ 64 - 10000) k

-- the number without that sign
abbrev pub magnitude : ℕ → ℕ
magnitude k = if is_negative k then 2 ^ 64 - k else k

-- a minus, or a plus where a piece stands before
abbrev pub sign_text : Bool → ℕ → List ℕ
sign_text first k = if is_negative k then codes "-" else (if first then [] else codes "+")

-- the number before an atom, left out where it is 1
abbrev pub factor_text : ℕ → List ℕ
factor_text m = if m == 1 then [] else number_text m ++ codes "*"

-- a register's name and `0`, `ra`, `fs`, or `v` and an address
abbrev pub symbol_text : Sym → List ℕ
symbol_text (Entry r) = fixed_name (Entry r)
symbol_text Ra = fixed_name Ra
symbol_text FsBase = fixed_name FsBase
symbol_text (Named address) = codes "v" ++ digits 16 false address

-- the constant, left out where it is 0 and there are atoms
abbrev pub constant_text : Bool → ℕ → List ℕ
constant_text first c =
    if not first && (c == 0) then [] else sign_text first c ++ number_text (magnitude c)

-- whether there are no atoms
abbrev pub are_none : Summands → Bool
are_none none = true
are_none (more a k xs) = false

-- pieces in order and the constant last; an atom, its arguments in brackets
abbrev mutual
  pub sum_text : PlainSum → List ℕ
  sum_text (sum c xs) = pieces_text true xs ++ constant_text (are_none xs) c

  pub pieces_text : Bool → Summands → List ℕ
  pieces_text first none = []
  pieces_text first (more a k xs) =
      (sign_text first k ++ (factor_text (magnitude k) ++ atom_text a)) ++ pieces_text false xs

  pub atom_text : PlainAtom → List ℕ
  atom_text (symbol s) = symbol_text s
  atom_text (fitted f a) = fit_name f ++ open_paren ∷ (sum_text a ++ close_paren ∷ [])
  atom_text (paired p a b) =
      pair_name p ++ open_paren ∷ (sum_text a ++ comma_byte ∷ (sum_text b ++ close_paren ∷ []))
