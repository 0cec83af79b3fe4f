-- What each state of the parser says of the bytes to come, where it accepts them, and what a word that was taken says.
use Rattle.std.proofs.Common.{◌≡◌, ℕ, Bool, true, false, eqb, if◌then◌else◌, List, [], ◌∷◌, ◌++◌, length, Option, Some, None, refl, sym, ap, subst, ◌∙◌, append_assoc, arith}
use Rattle.std.specs.Prelude.{codes}
use Rattle.std.proofs.lemmas.Bool.{eqb-true}
use Rattle.sym_terms.specs.declared.kinds.Fit.{Fit}
use Rattle.sym_terms.specs.declared.kinds.Pair.{Pair}
use Rattle.sym_terms.specs.declared.kinds.Sym.{Sym}
use Rattle.sym_terms.specs.Plain.{symbol, single_atom}
use Rattle.term_text.specs.declared.parser.PendingArgument.{PendingArgument}
use Rattle.term_text.specs.declared.parser.PendingArgument.TheVariants as pending
use Rattle.term_text.specs.declared.parser.OpenCall.{OpenCall}
use Rattle.term_text.specs.declared.parser.ParseState.{ParseState}
use Rattle.term_text.specs.declared.parser.ParseState.TheVariants.{Start, Signed, Counted, Closed}
use Rattle.term_text.specs.declared.parser.TermParser.{TermParser}
use Rattle.term_text.specs.Numbers.{number_at}
use Rattle.term_text.specs.Names.{fit_name, pair_name, symbol_at}
use Rattle.term_text.specs.Tree.{Sign, LooseTerm, loose_term, LoosePieces, one_piece, LoosePiece, loose_number, loose_atom, loose_multiple, LooseAtom, loose_symbol, loose_fit, loose_pair, ◌followed_by◌, exactly, sign_word, SpellsFirst, SpellsTerm, SpellsPieces, SpellsPiece, SpellsAtom}
use Rattle.term_text.specs.Parser.{coefficient, is_counted, add_constant, add_atom, add_symbol, add_word, word_taken, take_word}
use Rattle.term_text.proofs.SpellLemmas.{symbol_back}

-- ---- what is to come

-- bytes that spell a term, a piece, an atom, or later pieces
abbrev pub IsTermText : List ℕ → Type 0
IsTermText x = (t : LooseTerm) × SpellsTerm t x

abbrev pub IsPieceText : List ℕ → Type 0
IsPieceText x = (p : LoosePiece) × SpellsPiece p x

abbrev pub IsAtomText : List ℕ → Type 0
IsAtomText x = (a : LooseAtom) × SpellsAtom a x

abbrev pub ArePieces : List ℕ → Type 0
ArePieces x = (ps : LoosePieces) × SpellsPieces ps x

-- what ends the argument of a call, and what comes after its bracket
abbrev pub EndsCall : PendingArgument → (List ℕ → Type 0) → List ℕ → Type 0
EndsCall (pending.Fit f) Rest = exactly (codes ")") followed_by Rest
EndsCall (pending.First p) Rest = exactly (codes ",") followed_by IsTermText followed_by exactly (codes ")") followed_by Rest
EndsCall (pending.Second p a) Rest = exactly (codes ")") followed_by Rest

-- what ends the term inside of open calls, the innermost first
abbrev pub Ends : List OpenCall → List ℕ → Type 0
Ends [] = exactly []
Ends (f ∷ rs) = EndsCall f.pending (ArePieces followed_by Ends rs)

-- what comes after a piece
abbrev pub GoesOn : List OpenCall → List ℕ → Type 0
GoesOn rs = ArePieces followed_by Ends rs

-- what comes in each state
abbrev pub IsRest : List OpenCall → ParseState → List ℕ → Type 0
IsRest rs Start = IsTermText followed_by Ends rs
IsRest rs Signed = IsPieceText followed_by GoesOn rs
IsRest rs (Counted k) = IsAtomText followed_by GoesOn rs
IsRest rs Closed = GoesOn rs

-- open calls as the parser has them, the innermost last
abbrev pub unwound : List OpenCall → List OpenCall
unwound [] = []
unwound (f ∷ rs) = unwound rs ++ f ∷ []

-- the bytes are what comes in the parser's state
abbrev pub Resumes : List ℕ → TermParser → Type 0
Resumes bs n = (rs : List OpenCall) → n.calls ≡ unwound rs → IsRest rs n.state bs

-- ---- pieces and atoms before the rest

-- an optional sign and a piece begin a term
pub starts : (first : Option Sign) (w : List ℕ) (rs : List OpenCall) (y : List ℕ) → SpellsFirst first w
    → (IsPieceText followed_by GoesOn rs) y → IsRest rs Start (w ++ y)
starts first w rs y sign h =
    let tail = h.4 in
    let e : y ≡ (h.0 ++ tail.0) ++ tail.1 = h.2 ∙ ap (λ z. h.0 ++ z) tail.2 ∙ sym (append_assoc h.0 tail.0 tail.1) in (
      w ++ (h.0 ++ tail.0),
      tail.1,
      ap (λ z. w ++ z) e ∙ sym (append_assoc w (h.0 ++ tail.0) tail.1),
      (loose_term first h.3.0 tail.3.0, (w, h.0 ++ tail.0, refl, sign, (h.0, tail.0, refl, h.3.1, tail.3.1))),
      tail.4,
    )

-- a sign and a piece stand after a piece
pub more_pieces : (sign : Sign) (rs : List OpenCall) (y : List ℕ) → (IsPieceText followed_by GoesOn rs) y → GoesOn rs (sign_word sign ++ y)
more_pieces sign rs y h =
    let tail = h.4 in
    let w = sign_word sign in
    let e : y ≡ (h.0 ++ tail.0) ++ tail.1 = h.2 ∙ ap (λ z. h.0 ++ z) tail.2 ∙ sym (append_assoc h.0 tail.0 tail.1) in (
      w ++ (h.0 ++ tail.0),
      tail.1,
      ap (λ z. w ++ z) e ∙ sym (append_assoc w (h.0 ++ tail.0) tail.1),
      (one_piece sign h.3.0 tail.3.0, (w, h.0 ++ tail.0, refl, refl, (h.0, tail.0, refl, h.3.1, tail.3.1))),
      tail.4,
    )

-- a piece where one can stand
pub before_piece : (rs : List OpenCall) (q : ParseState) (k : ℕ) (y : List ℕ) → coefficient q ≡ Some k → is_counted q ≡ false
    → (IsPieceText followed_by GoesOn rs) y → IsRest rs q y
before_piece rs Start k y e u h = starts None [] rs y refl h
before_piece rs Signed k y e u h = h
before_piece rs (Counted j) k y e u h = absurd (cc)
before_piece rs Closed k y e u h = absurd (cc)

-- an atom where one can stand
pub before_atom : (rs : List OpenCall) (q : ParseState) (k : ℕ) (y : List ℕ) → coefficient q ≡ Some k
    → (IsAtomText followed_by GoesOn rs) y → IsRest rs q y
before_atom rs Start k y e h = starts None [] rs y refl (h.0, h.1, h.2, (loose_atom h.3.0, h.3.1), h.4)
before_atom rs Signed k y e h = (h.0, h.1, h.2, (loose_atom h.3.0, h.3.1), h.4)
before_atom rs (Counted j) k y e h = h
before_atom rs Closed k y e h = absurd (cc)

-- a number, a star and an atom make a piece
pub multiple_piece : (rs : List OpenCall) (q : ParseState) (k v : ℕ) (w bs : List ℕ) → coefficient q ≡ Some k → is_counted q ≡ false
    → number_at w ≡ Some v → (IsAtomText followed_by GoesOn rs) bs → IsRest rs q (w ++ 42 ∷ bs)
multiple_piece rs q k v w bs c u i h =
    let flat : (w ++ 42 ∷ h.0) ++ h.1 ≡ w ++ 42 ∷ (h.0 ++ h.1) = append_assoc w (42 ∷ h.0) h.1 in
    before_piece rs q k (w ++ 42 ∷ bs) c u
    (w ++ 42 ∷ h.0, h.1, ap (λ y. w ++ 42 ∷ y) h.2 ∙ sym flat, (loose_multiple v h.3.0, (w, 42 ∷ h.0, refl, i, (42 ∷ [], h.0, refl, refl, h.3.1))), h.4)

-- the name of a fit and its argument make an atom
pub fit_atom : (rs : List OpenCall) (q : ParseState) (k : ℕ) (f : Fit) (w bs : List ℕ) → coefficient q ≡ Some k → w ≡ fit_name f
    → (IsTermText followed_by exactly (codes ")") followed_by GoesOn rs) bs → IsRest rs q (w ++ 40 ∷ bs)
fit_atom rs q k f w bs c is h =
    let z = h.4 in
    let text = h.0 ++ 41 ∷ [] in
    let ends : bs ≡ h.0 ++ 41 ∷ z.1 = h.2 ∙ ap (λ y. h.0 ++ y) (z.2 ∙ ap (λ y. y ++ z.1) z.3) in
    let flat : (w ++ 40 ∷ text) ++ z.1 ≡ w ++ 40 ∷ (h.0 ++ 41 ∷ z.1) = simp append_assoc in
    before_atom rs q k (w ++ 40 ∷ bs) c (
      w ++ 40 ∷ text,
      z.1,
      ap (λ y. w ++ 40 ∷ y) ends ∙ sym flat,
      (loose_fit f h.3.0, (w, 40 ∷ text, refl, is, (40 ∷ [], text, refl, refl, (h.0, 41 ∷ [], refl, h.3.1, refl)))),
      z.4,
    )

-- the name of a pair and its arguments make an atom
pub pair_atom : (rs : List OpenCall) (q : ParseState) (k : ℕ) (p : Pair) (w bs : List ℕ) → coefficient q ≡ Some k → w ≡ pair_name p
    → (IsTermText followed_by exactly (codes ",") followed_by IsTermText followed_by exactly (codes ")") followed_by GoesOn rs) bs
    → IsRest rs q (w ++ 40 ∷ bs)
pair_atom rs q k p w bs c is h =
    let comma = h.4 in
    let second = comma.4 in
    let z = second.4 in
    let right = second.0 ++ 41 ∷ [] in
    let text = h.0 ++ 44 ∷ right in
    let after : comma.1 ≡ second.0 ++ 41 ∷ z.1 = second.2 ∙ ap (λ y. second.0 ++ y) (z.2 ∙ ap (λ y. y ++ z.1) z.3) in
    let ends : bs ≡ h.0 ++ 44 ∷ (second.0 ++ 41 ∷ z.1) = h.2 ∙ ap (λ y. h.0 ++ y) (comma.2 ∙ ap (λ y. y ++ comma.1) comma.3 ∙ ap (λ y. 44 ∷ y) after) in
    let flat : (w ++ 40 ∷ text) ++ z.1 ≡ w ++ 40 ∷ (h.0 ++ 44 ∷ (second.0 ++ 41 ∷ z.1)) = simp append_assoc in
    before_atom rs q k (w ++ 40 ∷ bs) c (
      w ++ 40 ∷ text,
      z.1,
      ap (λ y. w ++ 40 ∷ y) ends ∙ sym flat,
      (
        loose_pair p h.3.0 second.3.0,
        (
          w,
          40 ∷ text,
          refl,
          is,
          (
            40 ∷ [],
            text,
            refl,
            refl,
            (
              h.0,
              44 ∷ right,
              refl,
              h.3.1,
              (44 ∷ [], right, refl, refl, (second.0, 41 ∷ [], refl, second.3.1, refl)),
            ),
          ),
        ),
      ),
      z.4,
    )

-- ---- a word that ends a piece

-- what a word that was taken says of what comes before and after it
pub record IsTaken (rs : List OpenCall) (m n : TermParser) (w : List ℕ) : Type 0 where
  pub calls : n.calls ≡ m.calls
  pub back : (y : List ℕ) → GoesOn rs y → IsRest rs m.state (w ++ y)

-- only after a piece no atom can stand
pub closed_is : (q : ParseState) → coefficient q ≡ None → q ≡ Closed
closed_is Start e = absurd (cc)
closed_is Signed e = absurd (cc)
closed_is (Counted k) e = absurd (cc)
closed_is Closed e = refl

-- a list of no elements
pub empty_is : (w : List ℕ) → eqb (length w) 0 ≡ true → w ≡ []
empty_is [] e = refl
empty_is (b ∷ w) e = absurd (let i = eqb-true (length (b ∷ w)) 0 e in omega arith)

-- a word that was taken
pub word_back : (rs : List OpenCall) (m n : TermParser) (w : List ℕ) → take_word m w ≡ Some n → IsTaken rs m n w
unfolding take_word
word_back rs m n w e = by_state (coefficient m.state) refl e
  where
    by_empty : (b : Bool) → eqb (length w) 0 ≡ b → coefficient m.state ≡ None → (if b then Some m else None) ≡ Some n → IsTaken rs m n w
    by_empty true i c e =
        let same : m ≡ n = cc in
        record {
          calls = ap (λ x. x.calls) (sym same);
          back = λ y h. subst (λ v. IsRest rs m.state (v ++ y)) (sym (empty_is w i)) (subst (λ q. IsRest rs q y) (sym (closed_is m.state c)) h);
        }
    by_empty false i c e = absurd (cc)

    by_symbol : (k : ℕ) (o : Option Sym) → coefficient m.state ≡ Some k → symbol_at w ≡ o → add_symbol m k o ≡ Some n → IsTaken rs m n w
    by_symbol k None c i e = absurd (cc)
    by_symbol k (Some s) c i e =
        let same : add_atom m k (single_atom (symbol s)) ≡ n = cc in
        record {
          calls = ap (λ x. x.calls) (sym same);
          back = λ y h. before_atom rs m.state k (w ++ y) c (w, y, refl, (loose_symbol s, symbol_back w s i), h);
        }

    by_counted : (k v : ℕ) (b : Bool) → coefficient m.state ≡ Some k → is_counted m.state ≡ b → number_at w ≡ Some v
        → (if b then None else Some (add_constant m v)) ≡ Some n → IsTaken rs m n w
    by_counted k v true c u i e = absurd (cc)
    by_counted k v false c u i e =
        let same : add_constant m v ≡ n = cc in
        record {
          calls = ap (λ x. x.calls) (sym same);
          back = λ y h. before_piece rs m.state k (w ++ y) c u (w, y, refl, (loose_number v, i), h);
        }

    by_number : (k : ℕ) (o : Option ℕ) → coefficient m.state ≡ Some k → number_at w ≡ o → add_word m k w o ≡ Some n → IsTaken rs m n w
    by_number k None c i e = by_symbol k (symbol_at w) c refl e
    by_number k (Some v) c i e = by_counted k v (is_counted m.state) c refl i e

    by_state : (o : Option ℕ) → coefficient m.state ≡ o → word_taken m w o ≡ Some n → IsTaken rs m n w
    by_state None c e = by_empty (eqb (length w) 0) refl c e
    by_state (Some k) c e = by_number k (number_at w) c refl e
