-- The loose grammar of a term: the trees of what may be written for one, the bytes that spell a tree,
-- its loose nodes, and the term that it stands for.
use Rattle.std.specs.Prelude.{◌≡◌, ℕ, ◌+◌, ◌-◌, ◌%◌, ◌^◌, ◌<◌, true, List, [], ◌++◌, codes, Option, Some, None}
use Rattle.sym_terms.specs.declared.kinds.Sym.{Sym}
use Rattle.sym_terms.specs.declared.kinds.Sym.TheVariants.{Entry, Ra, FsBase, Named}
use Rattle.sym_terms.specs.declared.kinds.Fit.{Fit}
use Rattle.sym_terms.specs.declared.kinds.Pair.{Pair}
use Rattle.sym_terms.specs.Plain.{PlainSum, sum, none, symbol, single_atom}
use Rattle.sym_terms.specs.Normal.{plus, times, fit, pair}
use Rattle.term_text.specs.Numbers.{numeral_at, number_at}
use Rattle.term_text.specs.Names.{fixed_name, fit_name, pair_name}

-- + or -
pub data Sign : Type 0 where
  positive : Sign
  negative : Sign

mutual
  -- an optional sign, a piece, and then signs and pieces
  pub data LooseTerm : Type 0 where
    loose_term : (first : Option Sign) → (piece : LoosePiece) → (more : LoosePieces) → LooseTerm

  -- any number of sign and piece
  pub data LoosePieces : Type 0 where
    no_piece : LoosePieces
    one_piece : (sign : Sign) → (piece : LoosePiece) → (more : LoosePieces) → LoosePieces

  -- a number, an atom, or a number times an atom
  pub data LoosePiece : Type 0 where
    loose_number : ℕ → LoosePiece
    loose_atom : LooseAtom → LoosePiece
    loose_multiple : ℕ → LooseAtom → LoosePiece

  -- a symbol, a fit of a term, or a pair of two terms
  pub data LooseAtom : Type 0 where
    loose_symbol : Sym → LooseAtom
    loose_fit : Fit → LooseTerm → LooseAtom
    loose_pair : Pair → LooseTerm → LooseTerm → LooseAtom

-- ---- the bytes that spell a tree

-- bytes in two parts, the one as the first says, and the other after it as the second says
infixr 5 ◌followed_by◌
abbrev pub ◌followed_by◌ : (List ℕ → Type 0) → (List ℕ → Type 0) → List ℕ → Type 0
(P followed_by Q) bytes = (x : List ℕ) × (y : List ℕ) × (bytes ≡ x ++ y) × P x × Q y

-- just this word
abbrev pub exactly : List ℕ → List ℕ → Type 0
exactly word bytes = bytes ≡ word

-- a sign
abbrev pub sign_word : Sign → List ℕ
sign_word positive = codes "+"
sign_word negative = codes "-"

-- a sign, or nothing
abbrev pub SpellsFirst : Option Sign → List ℕ → Type 0
SpellsFirst None = exactly []
SpellsFirst (Some sign) = exactly (sign_word sign)

-- a number below 2^64: decimal digits, or `0x` and hexadecimal digits of either case
abbrev pub SpellsNumber : ℕ → List ℕ → Type 0
SpellsNumber n word = number_at word ≡ Some n

-- the name of a symbol, or `v` and an address in hexadecimal digits of either case
abbrev pub SpellsSymbol : Sym → List ℕ → Type 0
SpellsSymbol (Entry r) word = (r < 16) × (word ≡ fixed_name (Entry r))
SpellsSymbol Ra word = word ≡ fixed_name Ra
SpellsSymbol FsBase word = word ≡ fixed_name FsBase
SpellsSymbol (Named address) word =
    (exactly (codes "v") followed_by (λ digits. numeral_at true digits ≡ Some address)) word

-- a term, what comes after its first piece, a piece, an atom
abbrev mutual
  pub SpellsTerm : LooseTerm → List ℕ → Type 0
  SpellsTerm (loose_term first p ps) =
      SpellsFirst first followed_by SpellsPiece p followed_by SpellsPieces ps

  pub SpellsPieces : LoosePieces → List ℕ → Type 0
  SpellsPieces no_piece = exactly []
  SpellsPieces (one_piece sign p ps) =
      exactly (sign_word sign) followed_by SpellsPiece p followed_by SpellsPieces ps

  pub SpellsPiece : LoosePiece → List ℕ → Type 0
  SpellsPiece (loose_number n) = SpellsNumber n
  SpellsPiece (loose_atom a) = SpellsAtom a
  SpellsPiece (loose_multiple n a) = SpellsNumber n followed_by exactly (codes "*") followed_by SpellsAtom a

  pub SpellsAtom : LooseAtom → List ℕ → Type 0
  SpellsAtom (loose_symbol s) = SpellsSymbol s
  SpellsAtom (loose_fit f t) =
      exactly (fit_name f) followed_by exactly (codes "(") followed_by SpellsTerm t
      followed_by exactly (codes ")")
  SpellsAtom (loose_pair p a b) =
      exactly (pair_name p) followed_by exactly (codes "(") followed_by SpellsTerm a
      followed_by exactly (codes ",") followed_by SpellsTerm b followed_by exactly (codes ")")

-- ---- the loose nodes of a tree

-- 1 for each term, and 1 for each piece that has an atom
abbrev mutual
  pub loose_nodes : LooseTerm → ℕ
  loose_nodes (loose_term first p ps) = 1 + (nodes_of_piece p + nodes_of_more ps)

  pub nodes_of_more : LoosePieces → ℕ
  nodes_of_more no_piece = 0
  nodes_of_more (one_piece sign p ps) = nodes_of_piece p + nodes_of_more ps

  pub nodes_of_piece : LoosePiece → ℕ
  nodes_of_piece (loose_number n) = 0
  nodes_of_piece (loose_atom a) = 1 + nodes_inside a
  nodes_of_piece (loose_multiple n a) = 1 + nodes_inside a

  pub nodes_inside : LooseAtom → ℕ
  nodes_inside (loose_symbol s) = 0
  nodes_inside (loose_fit f t) = loose_nodes t
  nodes_inside (loose_pair p a b) = loose_nodes a + loose_nodes b

-- ---- the term that a tree stands for, in normal form

-- a number after a sign, modulo 2^64
abbrev pub signed_number : Sign → ℕ → ℕ
signed_number positive n = n
signed_number negative n = (2 ^ 64 - n) % 2 ^ 64

-- no sign is +
abbrev pub sign_or_plus : Option Sign → Sign
sign_or_plus None = positive
sign_or_plus (Some sign) = sign

-- the sum of its pieces
abbrev mutual
  pub term_of : LooseTerm → PlainSum
  term_of (loose_term first p ps) = sum_with (term_of_piece (sign_or_plus first) p) ps

  pub sum_with : PlainSum → LoosePieces → PlainSum
  sum_with t no_piece = t
  sum_with t (one_piece sign p ps) = sum_with (plus t (term_of_piece sign p)) ps

  pub term_of_piece : Sign → LoosePiece → PlainSum
  term_of_piece sign (loose_number n) = sum (signed_number sign n) none
  term_of_piece sign (loose_atom a) = times (signed_number sign 1) (term_of_atom a)
  term_of_piece sign (loose_multiple n a) = times (signed_number sign n) (term_of_atom a)

  pub term_of_atom : LooseAtom → PlainSum
  term_of_atom (loose_symbol s) = single_atom (symbol s)
  term_of_atom (loose_fit f t) = fit f (term_of t)
  term_of_atom (loose_pair p a b) = pair p (term_of a) (term_of b)
