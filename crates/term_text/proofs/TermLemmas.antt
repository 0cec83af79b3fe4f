-- The text of a term spells a tree with the term's nodes, which stands for the term; so it is read again.
use Rattle.std.proofs.Common.{◌≡◌, ℕ, ◌+◌, ◌-◌, ◌^◌, ◌<◌, Bool, true, false, ltb, eqb, if◌then◌else◌, List, [], ◌∷◌, ◌++◌, Option, Some, None, Result, Ok, Err, refl, sym, ap, ap₂, ◌∙◌, append_assoc, arith}
use Rattle.std.specs.Str.{bytes_eq}
use Rattle.std.specs.Fmt.{digits}
use Rattle.std.proofs.lemmas.Bool.{le-ltb, ltb-true, eqb-true}
use Rattle.std.proofs.lemmas.List.{append-nil}
use Rattle.std.proofs.lemmas.Slice.Eq.{bytes_eq-Decides}
use Rattle.sym_terms.specs.declared.kinds.Sym.{Sym}
use Rattle.sym_terms.specs.declared.kinds.Sym.TheVariants.{Entry, Ra, FsBase, Named}
use Rattle.sym_terms.specs.Plain.{PlainSum, sum, Summands, none, more, PlainAtom, symbol, fitted, paired, single_atom, IsSymbol}
use Rattle.sym_terms.specs.Nodes.{nodes, nodes_of_pieces, nodes_of_atom}
use Rattle.sym_terms.specs.Normal.{plus, times, fit, pair, IsNormal, AreNormal, IsNormalAtom, IsTerm}
use Rattle.term_text.specs.declared.cause.TextCause.{TextCause}
use Rattle.term_text.specs.declared.cause.TextCause.TheVariants.{NotCanonical, OverLimit}
use Rattle.term_text.specs.Numbers.{number_text}
use Rattle.term_text.specs.Names.{fit_name, pair_name}
use Rattle.term_text.specs.Text.{is_negative, magnitude, sign_text, factor_text, constant_text, symbol_text, sum_text, pieces_text, atom_text}
use Rattle.term_text.specs.Tree.{Sign, positive, negative, LooseTerm, loose_term, LoosePieces, no_piece, one_piece, LoosePiece, loose_number, loose_atom, loose_multiple, LooseAtom, loose_symbol, loose_fit, loose_pair, sign_word, SpellsFirst, SpellsSymbol, SpellsTerm, SpellsPieces, SpellsPiece, SpellsAtom, loose_nodes, nodes_of_more, nodes_of_piece, nodes_inside, signed_number, sign_or_plus, term_of, sum_with, term_of_piece, term_of_atom}
use Rattle.term_text.specs.Parser.{zero_term}
use Rattle.term_text.specs.Reading.{canonical_term, term_at}
use Rattle.term_text.proofs.NumberLemmas.{hex_reads, number_reads}
use Rattle.term_text.proofs.PieceLemmas.{append, append-none, append_assoc_pieces, Apart, apart_none, apart_push, times_alone, plus_is, plus_constant, magnitude_below}
use Rattle.term_text.proofs.TreeRuns.{spelled_runs}

-- ---- what bytes that spell a tree are read as

-- the reading of a tree with so many nodes and this term
abbrev pub read_of : List ℕ → ℕ → PlainSum → Result PlainSum TextCause
read_of bytes n s = if ltb 32 n then Err OverLimit else (if bytes_eq (sum_text s) bytes then Ok s else Err NotCanonical)

-- what bytes that spell a tree are read as
pub spelled_at : (t : LooseTerm) (bytes : List ℕ) → SpellsTerm t bytes → term_at bytes ≡ read_of bytes (loose_nodes t) (term_of t)
unfolding term_at
spelled_at t bytes h = ap (canonical_term bytes) (spelled_runs t bytes h) ∙ by_size (loose_nodes t) (term_of t) (ltb 32 (loose_nodes t)) refl
  where
    by_size : (n : ℕ) (s : PlainSum) (b : Bool) → ltb 32 n ≡ b
        → (if ltb 32 (if b then 33 else n) then Err OverLimit else (if bytes_eq (sum_text (if b then zero_term else s)) bytes then Ok (if b then zero_term else s) else Err NotCanonical)) ≡ (if b then Err OverLimit else (if bytes_eq (sum_text s) bytes then Ok s else Err NotCanonical))
    by_size n s true e = refl
    by_size n s false e = rw e refl

-- ---- the tree of a term's text

-- the sign of a later piece
abbrev sign_of : ℕ → Sign
sign_of k = if is_negative k then negative else positive

-- the sign of the first piece
abbrev first_of : ℕ → Option Sign
first_of k = if is_negative k then Some negative else None

-- an atom, and the number before it
abbrev piece_of : ℕ → LooseAtom → LoosePiece
piece_of m a = if eqb m 1 then loose_atom a else loose_multiple m a

-- a constant after atoms
abbrev constant_of : ℕ → LoosePieces
constant_of c = if eqb c 0 then no_piece else one_piece (sign_of c) (loose_number (magnitude c)) no_piece

abbrev mutual
  -- the tree of a term
  tree_of : PlainSum → LooseTerm
  tree_of (sum c none) = loose_term (first_of c) (loose_number (magnitude c)) no_piece
  tree_of (sum c (more a k xs)) = loose_term (first_of k) (piece_of (magnitude k) (atom_of a)) (more_of xs c)

  -- later pieces, and a constant
  more_of : Summands → ℕ → LoosePieces
  more_of none c = constant_of c
  more_of (more a k xs) c = one_piece (sign_of k) (piece_of (magnitude k) (atom_of a)) (more_of xs c)

  -- an atom
  atom_of : PlainAtom → LooseAtom
  atom_of (symbol s) = loose_symbol s
  atom_of (fitted f a) = loose_fit f (tree_of a)
  atom_of (paired p a b) = loose_pair p (tree_of a) (tree_of b)

-- ---- the text spells it

-- the sign of the first piece
first_spelled : (k : ℕ) → SpellsFirst (first_of k) (sign_text true k)
first_spelled k = by_sign (is_negative k)
  where
    by_sign : (b : Bool) → SpellsFirst (if b then Some negative else None) (if b then 45 ∷ [] else [])
    by_sign true = refl
    by_sign false = refl

-- the sign of a later piece
sign_spelled : (k : ℕ) → sign_text false k ≡ sign_word (sign_of k)
sign_spelled k = by_sign (is_negative k)
  where
    by_sign : (b : Bool) → (if b then 45 ∷ [] else 43 ∷ []) ≡ sign_word (if b then negative else positive)
    by_sign true = refl
    by_sign false = refl

-- a constant after atoms
constant_spelled : (c : ℕ) → c < 2 ^ 64 → SpellsPieces (constant_of c) (constant_text false c)
constant_spelled c lt = by_zero (eqb c 0)
  where
    by_zero : (b : Bool)
        → SpellsPieces (if b then no_piece else one_piece (sign_of c) (loose_number (magnitude c)) no_piece) (if b then [] else sign_text false c ++ number_text (magnitude c))
    by_zero true = refl
    by_zero false =
        let n = number_text (magnitude c) in
        (sign_text false c, n, refl, sign_spelled c, (n, [], sym (append-nil n), number_reads (magnitude c) (magnitude_below c lt), refl))

-- an atom and the number before it
piece_spelled : (m : ℕ) (a : LooseAtom) (x : List ℕ) → m < 2 ^ 64 → SpellsAtom a x → SpellsPiece (piece_of m a) (factor_text m ++ x)
piece_spelled m a x lt h = by_one (eqb m 1)
  where
    by_one : (b : Bool) → SpellsPiece (if b then loose_atom a else loose_multiple m a) ((if b then [] else number_text m ++ 42 ∷ []) ++ x)
    by_one true = h
    by_one false = (number_text m, 42 ∷ x, append_assoc (number_text m) (42 ∷ []) x, number_reads m lt, (42 ∷ [], x, refl, refl, h))

-- a symbol
symbol_spelled : (s : Sym) → IsSymbol s → SpellsSymbol s (symbol_text s)
symbol_spelled (Entry r) is = (is, refl)
symbol_spelled Ra is = refl
symbol_spelled FsBase is = refl
symbol_spelled (Named address) is = (118 ∷ [], digits 16 false address, refl, refl, hex_reads address is)

mutual
  -- the text of a term spells its tree
  sum_spelled : (a : PlainSum) → IsNormal a → SpellsTerm (tree_of a) (sum_text a)
  sum_spelled (sum c none) n =
      let m = number_text (magnitude c) in
      (sign_text true c, m, refl, first_spelled c, (m, [], sym (append-nil m), number_reads (magnitude c) (magnitude_below c n.0), refl))
  sum_spelled (sum c (more a k xs)) n =
      let sign = sign_text true k in
      let piece = factor_text (magnitude k) ++ atom_text a in
      let later = pieces_text false xs in
      let last = constant_text false c in
      let flat : ((sign ++ piece) ++ later) ++ last ≡ sign ++ (piece ++ (later ++ last)) = simp append_assoc in (
        sign,
        piece ++ (later ++ last),
        flat,
        first_spelled k,
        (piece, later ++ last, refl, piece_spelled (magnitude k) (atom_of a) (atom_text a) (magnitude_below k n.1.2) (atom_spelled a n.1.0), more_spelled xs c n.1.4 n.0),
      )

  more_spelled : (xs : Summands) (c : ℕ) → AreNormal xs → c < 2 ^ 64 → SpellsPieces (more_of xs c) (pieces_text false xs ++ constant_text false c)
  more_spelled none c n lt = constant_spelled c lt
  more_spelled (more a k xs) c n lt =
      let sign = sign_text false k in
      let piece = factor_text (magnitude k) ++ atom_text a in
      let later = pieces_text false xs in
      let last = constant_text false c in
      let flat : ((sign ++ piece) ++ later) ++ last ≡ sign ++ (piece ++ (later ++ last)) = simp append_assoc in (
        sign,
        piece ++ (later ++ last),
        flat,
        sign_spelled k,
        (piece, later ++ last, refl, piece_spelled (magnitude k) (atom_of a) (atom_text a) (magnitude_below k n.2) (atom_spelled a n.0), more_spelled xs c n.4 lt),
      )

  atom_spelled : (a : PlainAtom) → IsNormalAtom a → SpellsAtom (atom_of a) (atom_text a)
  atom_spelled (symbol s) n = symbol_spelled s n
  atom_spelled (fitted f a) n = (
    fit_name f,
    40 ∷ (sum_text a ++ 41 ∷ []),
    refl,
    refl,
    (40 ∷ [], sum_text a ++ 41 ∷ [], refl, refl, (sum_text a, 41 ∷ [], refl, sum_spelled a n.0, refl)),
  )
  atom_spelled (paired p a b) n =
      let right = sum_text b ++ 41 ∷ [] in (
        pair_name p,
        40 ∷ (sum_text a ++ 44 ∷ right),
        refl,
        refl,
        (
          40 ∷ [],
          sum_text a ++ 44 ∷ right,
          refl,
          refl,
          (
            sum_text a,
            44 ∷ right,
            refl,
            sum_spelled a n.0,
            (44 ∷ [], right, refl, refl, (sum_text b, 41 ∷ [], refl, sum_spelled b n.1, refl)),
          ),
        ),
      )

-- ---- its nodes

-- a piece has those of its atom
piece_nodes_are : (m : ℕ) (a : LooseAtom) → nodes_of_piece (piece_of m a) ≡ 1 + nodes_inside a
piece_nodes_are m a = by_one (eqb m 1)
  where
    by_one : (b : Bool) → nodes_of_piece (if b then loose_atom a else loose_multiple m a) ≡ 1 + nodes_inside a
    by_one true = refl
    by_one false = refl

-- a constant has none
constant_nodes_are : (c : ℕ) → nodes_of_more (constant_of c) ≡ 0
constant_nodes_are c = by_zero (eqb c 0)
  where
    by_zero : (b : Bool) → nodes_of_more (if b then no_piece else one_piece (sign_of c) (loose_number (magnitude c)) no_piece) ≡ 0
    by_zero true = refl
    by_zero false = refl

mutual
  -- a term has as many nodes as its tree
  sum_nodes_are : (a : PlainSum) → loose_nodes (tree_of a) ≡ nodes a
  sum_nodes_are (sum c none) = refl
  sum_nodes_are (sum c (more a k xs)) =
      omega (arith, piece_nodes_are (magnitude k) (atom_of a), atom_nodes_are a, more_nodes_are xs c)

  more_nodes_are : (xs : Summands) (c : ℕ) → nodes_of_more (more_of xs c) ≡ nodes_of_pieces xs
  more_nodes_are none c = constant_nodes_are c
  more_nodes_are (more a k xs) c =
      omega (arith, piece_nodes_are (magnitude k) (atom_of a), atom_nodes_are a, more_nodes_are xs c)

  atom_nodes_are : (a : PlainAtom) → 1 + nodes_inside (atom_of a) ≡ nodes_of_atom a
  atom_nodes_are (symbol s) = refl
  atom_nodes_are (fitted f a) = omega (arith, sum_nodes_are a)
  atom_nodes_are (paired p a b) = omega (arith, sum_nodes_are a, sum_nodes_are b)

-- ---- its term

-- a magnitude after the sign of a later piece is the number
sign_magnitude : (k : ℕ) → k < 2 ^ 64 → signed_number (sign_of k) (magnitude k) ≡ k
sign_magnitude k lt = by_sign (is_negative k) refl
  where
    by_sign : (b : Bool) → is_negative k ≡ b → signed_number (if b then negative else positive) (if b then 2 ^ 64 - k else k) ≡ k
    by_sign true e = omega (arith, ltb-true _ _ e)
    by_sign false e = refl

-- the sign of the first piece is no other
first_sign : (k : ℕ) → sign_or_plus (first_of k) ≡ sign_of k
first_sign k = by_sign (is_negative k)
  where
    by_sign : (b : Bool) → sign_or_plus (if b then Some negative else None) ≡ (if b then negative else positive)
    by_sign true = refl
    by_sign false = refl

-- a piece stands for the multiple of its atom
piece_term_is : (sign : Sign) (m : ℕ) (a : LooseAtom) → term_of_piece sign (piece_of m a) ≡ times (signed_number sign m) (term_of_atom a)
piece_term_is sign m a = by_one (eqb m 1) refl
  where
    by_one : (b : Bool) → eqb m 1 ≡ b → term_of_piece sign (if b then loose_atom a else loose_multiple m a) ≡ times (signed_number sign m) (term_of_atom a)
    by_one true e = ap (λ (k : ℕ). times (signed_number sign k) (term_of_atom a)) (sym (eqb-true m 1 e))
    by_one false e = refl

-- a piece of a term
piece_is : (k : ℕ) (a : PlainAtom) → 0 < k → k < 2 ^ 64 → term_of_atom (atom_of a) ≡ single_atom a
    → term_of_piece (sign_of k) (piece_of (magnitude k) (atom_of a)) ≡ sum 0 (more a k none)
piece_is k a pos lt e =
    piece_term_is (sign_of k) (magnitude k) (atom_of a) ∙ ap₂ times (sign_magnitude k lt) e ∙ times_alone a k pos lt

-- a constant after atoms
constant_is : (ys : Summands) (c : ℕ) → c < 2 ^ 64 → sum_with (sum 0 ys) (constant_of c) ≡ sum c ys
constant_is ys c lt = by_zero (eqb c 0) refl
  where
    by_zero : (b : Bool) → eqb c 0 ≡ b
        → sum_with (sum 0 ys) (if b then no_piece else one_piece (sign_of c) (loose_number (magnitude c)) no_piece) ≡ sum c ys
    by_zero true e = ap (λ (k : ℕ). sum k ys) (sym (eqb-true c 0 e))
    by_zero false e = ap (λ (k : ℕ). plus (sum 0 ys) (sum k none)) (sign_magnitude c lt) ∙ plus_constant ys c lt

mutual
  -- the tree of a term stands for it
  sum_is : (a : PlainSum) → IsNormal a → term_of (tree_of a) ≡ a
  sum_is (sum c none) n =
      ap (λ s. sum (signed_number s (magnitude c)) none) (first_sign c) ∙ ap (λ (k : ℕ). sum k none) (sign_magnitude c n.0)
  sum_is (sum c (more a k xs)) n =
      ap (λ s. sum_with (term_of_piece s (piece_of (magnitude k) (atom_of a))) (more_of xs c)) (first_sign k)
      ∙ ap (λ t. sum_with t (more_of xs c)) (piece_is k a n.1.1 n.1.2 (atom_is a n.1.0))
      ∙ more_is xs (more a k none) c (apart_push none a k xs (apart_none (more a k xs)) n.1) n.1.4 n.0

  -- so do pieces after others, which all come before them
  more_is : (xs ys : Summands) (c : ℕ) → Apart ys xs → AreNormal xs → c < 2 ^ 64 → sum_with (sum 0 ys) (more_of xs c) ≡ sum c (append ys xs)
  more_is none ys c apart n lt = constant_is ys c lt ∙ ap (sum c) (sym (append-none ys))
  more_is (more a k xs) ys c apart n lt =
      ap (λ t. sum_with (plus (sum 0 ys) t) (more_of xs c)) (piece_is k a n.1 n.2 (atom_is a n.0))
      ∙ ap (λ t. sum_with t (more_of xs c)) (plus_is ys a k n.1 n.2 apart.0)
      ∙ more_is xs (append ys (more a k none)) c (apart_push ys a k xs apart n) n.4 lt
      ∙ ap (sum c) (append_assoc_pieces ys (more a k none) xs)

  atom_is : (a : PlainAtom) → IsNormalAtom a → term_of_atom (atom_of a) ≡ single_atom a
  atom_is (symbol s) n = refl
  atom_is (fitted f a) n = ap (fit f) (sum_is a n.0) ∙ n.1
  atom_is (paired p a b) n = ap₂ (pair p) (sum_is a n.0) (sum_is b n.1) ∙ n.2

-- ---- the whole

-- the text of a term is read as the term
pub term_reads : (t : PlainSum) → IsTerm t → term_at (sum_text t) ≡ Ok t
term_reads t is =
    let few : ltb 32 (nodes t) ≡ false = le-ltb 32 (nodes t) is.small in
    let same : bytes_eq (sum_text t) (sum_text t) ≡ true = (bytes_eq-Decides (sum_text t) (sum_text t)).1 refl in
    spelled_at (tree_of t) (sum_text t) (sum_spelled t is.normal)
    ∙ ap₂ (read_of (sum_text t)) (sum_nodes_are t) (sum_is t is.normal) ∙ rw (few, same) refl
