-- Bytes spell one tree at most.
use Rattle.std.proofs.Common.{◌≡◌, ℕ, false, List, [], ◌∷◌, ◌++◌, Option, Some, None, ◌⊎◌, inl, inr, refl, sym, ap, ap₂, subst, ◌∙◌, arith}
use Rattle.std.proofs.lemmas.Bool.{both_ways}
use Rattle.sym_terms.specs.declared.kinds.Fit.{Fit}
use Rattle.sym_terms.specs.declared.kinds.Pair.{Pair}
use Rattle.sym_terms.specs.declared.kinds.Sym.{Sym}
use Rattle.term_text.specs.declared.names.Keyword.TheVariants as word
use Rattle.term_text.specs.Numbers.{number_at}
use Rattle.term_text.specs.Names.{is_word_byte, fit_name, pair_name, keyword_at, symbol_at}
use Rattle.term_text.specs.Tree.{Sign, positive, negative, LooseTerm, loose_term, LoosePieces, no_piece, one_piece, LoosePiece, loose_number, loose_atom, loose_multiple, LooseAtom, loose_symbol, loose_fit, loose_pair, sign_word, SpellsFirst, SpellsTerm, SpellsPieces, SpellsPiece, SpellsAtom}
use Rattle.term_text.specs.Reading.{OneTreeLaw}
use Rattle.term_text.proofs.NumberLemmas.{AreWord}
use Rattle.term_text.proofs.NameLemmas.{fit_reads, pair_reads, fit_word, pair_word}
use Rattle.term_text.proofs.StepLemmas.{IsStop, Stops, stop41, stop44}
use Rattle.term_text.proofs.SpellLemmas.{number_is_word, symbol_taken_as}
use Rattle.term_text.proofs.TreeSteps.{grouped, more_stop}

-- ---- words, and what comes after them

-- no byte of a word comes
abbrev NoWord : List ℕ → Type 0
NoWord [] = Unit {0}
NoWord (b ∷ bs) = is_word_byte b ≡ false

-- such as a separator that ends a piece
stop_no_word : (r : List ℕ) → Stops r → NoWord r
stop_no_word [] stops = tt
stop_no_word (b ∷ bs) stops = stops.no_word

-- a word is as long as it can be
word_apart : (w v r s : List ℕ) → AreWord w → AreWord v → NoWord r → NoWord s → w ++ r ≡ v ++ s → (w ≡ v) × (r ≡ s)
word_apart [] [] r s aw av nr ns e = (refl, e)
word_apart [] (c ∷ v) r s aw av nr ns e = absurd (let n : is_word_byte c ≡ false = subst NoWord e nr in both_ways (is_word_byte c) n av.0)
word_apart (b ∷ w) [] r s aw av nr ns e = absurd (let n : is_word_byte b ≡ false = subst NoWord (sym e) ns in both_ways (is_word_byte b) n aw.0)
word_apart (b ∷ w) (c ∷ v) r s aw av nr ns e =
    let head : b ≡ c = cc in
    let tail : w ++ r ≡ v ++ s = cc in
    let more = word_apart w v r s aw.1 av.1 nr ns tail in
    (ap₂ (λ (x : ℕ) (l : List ℕ). x ∷ l) head more.0, more.1)

-- what comes after a whole term: the end, `)` or `,`
abbrev Outer : List ℕ → Type 0
Outer [] = Unit {0}
Outer (b ∷ bs) = (b ≡ 41) ⊎ (b ≡ 44)

-- it ends a piece
outer_stops : (r : List ℕ) → Outer r → Stops r
outer_stops [] outer = tt
outer_stops (b ∷ bs) (inl e) = subst IsStop (sym e) stop41
outer_stops (b ∷ bs) (inr e) = subst IsStop (sym e) stop44

-- ---- how pieces and atoms begin

-- a word, and what comes after it
abbrev IsAtomHead : LooseAtom → List ℕ → List ℕ → List ℕ → Type 0
IsAtomHead (loose_symbol y) w z r = (symbol_at w ≡ Some y) × (number_at w ≡ None) × (z ≡ r)
IsAtomHead (loose_fit f t) w z r = (keyword_at w ≡ Some (word.Fit f)) × ((x : List ℕ) × (z ≡ 40 ∷ (x ++ 41 ∷ r)) × SpellsTerm t x)
IsAtomHead (loose_pair p a b) w z r =
    (keyword_at w ≡ Some (word.Pair p))
    × ((x : List ℕ) × (y : List ℕ) × (z ≡ 40 ∷ (x ++ 44 ∷ (y ++ 41 ∷ r))) × SpellsTerm a x × SpellsTerm b y)

abbrev IsHead : LoosePiece → List ℕ → List ℕ → List ℕ → Type 0
IsHead (loose_number n) w z r = (number_at w ≡ Some n) × (z ≡ r)
IsHead (loose_atom a) w z r = IsAtomHead a w z r
IsHead (loose_multiple n a) w z r = (number_at w ≡ Some n) × ((x : List ℕ) × (z ≡ 42 ∷ (x ++ r)) × SpellsAtom a x)

-- bytes that begin so
record Headed (Is : List ℕ → List ℕ → Type 0) (bytes : List ℕ) : Type 0 where
  front : List ℕ
  back : List ℕ
  whole : bytes ≡ front ++ back
  words : AreWord front
  stops : NoWord back
  is : Is front back

-- an atom
atom_head : (a : LooseAtom) (x r : List ℕ) → SpellsAtom a x → Stops r → Headed (λ w z. IsAtomHead a w z r) (x ++ r)
atom_head (loose_symbol y) x r h stops =
    let taken = symbol_taken_as y x h in
    record { front = x; back = r; whole = refl; words = taken.word; stops = stop_no_word r stops; is = (taken.reads, taken.none, refl) }
atom_head (loose_fit f t) x r h stops =
    let inside = h.4.4 in
    let argument : h.4.1 ++ r ≡ inside.0 ++ 41 ∷ r = grouped h.4.1 inside.0 inside.1 r inside.2 ∙ ap (λ w. inside.0 ++ (w ++ r)) inside.4 in
    let opens : h.1 ++ r ≡ 40 ∷ (h.4.1 ++ r) = grouped h.1 h.4.0 h.4.1 r h.4.2 ∙ ap (λ w. w ++ (h.4.1 ++ r)) h.4.3 in
    record {
      front = fit_name f;
      back = 40 ∷ (inside.0 ++ 41 ∷ r);
      whole = grouped x h.0 h.1 r h.2 ∙ ap₂ (λ (v w : List ℕ). v ++ w) h.3 (opens ∙ ap (λ w. 40 ∷ w) argument);
      words = fit_word f;
      stops = refl;
      is = (fit_reads f, (inside.0, refl, inside.3));
    }
atom_head (loose_pair p a b) x r h stops =
    let left = h.4.4 in
    let right = left.4.4 in
    let second : left.4.1 ++ r ≡ right.0 ++ 41 ∷ r = grouped left.4.1 right.0 right.1 r right.2 ∙ ap (λ w. right.0 ++ (w ++ r)) right.4 in
    let comma : left.1 ++ r ≡ 44 ∷ (left.4.1 ++ r) = grouped left.1 left.4.0 left.4.1 r left.4.2 ∙ ap (λ w. w ++ (left.4.1 ++ r)) left.4.3 in
    let argument : h.4.1 ++ r ≡ left.0 ++ 44 ∷ (right.0 ++ 41 ∷ r) = grouped h.4.1 left.0 left.1 r left.2 ∙ ap (λ w. left.0 ++ w) (comma ∙ ap (λ w. 44 ∷ w) second) in
    let opens : h.1 ++ r ≡ 40 ∷ (h.4.1 ++ r) = grouped h.1 h.4.0 h.4.1 r h.4.2 ∙ ap (λ w. w ++ (h.4.1 ++ r)) h.4.3 in
    record {
      front = pair_name p;
      back = 40 ∷ (left.0 ++ 44 ∷ (right.0 ++ 41 ∷ r));
      whole = grouped x h.0 h.1 r h.2 ∙ ap₂ (λ (v w : List ℕ). v ++ w) h.3 (opens ∙ ap (λ w. 40 ∷ w) argument);
      words = pair_word p;
      stops = refl;
      is = (pair_reads p, (left.0, right.0, refl, left.3, right.3));
    }

-- a piece
piece_head : (p : LoosePiece) (x r : List ℕ) → SpellsPiece p x → Stops r → Headed (λ w z. IsHead p w z r) (x ++ r)
piece_head (loose_number n) x r h stops =
    record { front = x; back = r; whole = refl; words = (number_is_word x n h).0; stops = stop_no_word r stops; is = (h, refl) }
piece_head (loose_atom a) x r h stops = atom_head a x r h stops
piece_head (loose_multiple n a) x r h stops =
    let tail = h.4 in
    let star : h.1 ++ r ≡ 42 ∷ (tail.1 ++ r) = grouped h.1 tail.0 tail.1 r tail.2 ∙ ap (λ w. w ++ (tail.1 ++ r)) tail.3 in
    record {
      front = h.0;
      back = 42 ∷ (tail.1 ++ r);
      whole = grouped x h.0 h.1 r h.2 ∙ ap (λ w. h.0 ++ w) star;
      words = (number_is_word h.0 n h.3).0;
      stops = refl;
      is = (h.3, (tail.1, refl, tail.4));
    }

-- two beginnings of the same bytes are one
one_head : (P Q : List ℕ → List ℕ → Type 0) (x y : List ℕ) → x ≡ y → Headed P x → Headed Q y
    → (w : List ℕ) × (z : List ℕ) × P w z × Q w z
one_head P Q x y e h k =
    let same = word_apart h.front k.front h.back k.back h.words k.words h.stops k.stops (sym h.whole ∙ e ∙ k.whole) in
    (h.front, h.back, h.is, subst (λ w. Q w h.back) (sym same.0) (subst (λ z. Q k.front z) (sym same.1) k.is))

-- ---- what can't be

-- a star or an open bracket doesn't end a piece
no_star : (r rest : List ℕ) → Stops r → r ≡ 42 ∷ rest → ⊥
no_star r rest stops e = let s : IsStop 42 = subst Stops e stops in let i = s.no_star in absurd (cc)

no_open : (r rest : List ℕ) → Stops r → r ≡ 40 ∷ rest → ⊥
no_open r rest stops e = let s : IsStop 40 = subst Stops e stops in let i = s.no_open in absurd (cc)

-- a sign doesn't end a term
sign_outside : (sign : Sign) (b : ℕ) → (b ≡ 41) ⊎ (b ≡ 44) → b ∷ [] ≡ sign_word sign → ⊥
sign_outside positive b (inl i) e = let j : b ≡ 43 = cc in omega (arith, i, j)
sign_outside positive b (inr i) e = let j : b ≡ 43 = cc in omega (arith, i, j)
sign_outside negative b (inl i) e = let j : b ≡ 45 = cc in omega (arith, i, j)
sign_outside negative b (inr i) e = let j : b ≡ 45 = cc in omega (arith, i, j)

no_sign : (sign : Sign) (r rest : List ℕ) → Outer r → r ≡ sign_word sign ++ rest → ⊥
no_sign positive [] rest outer e = absurd (cc)
no_sign negative [] rest outer e = absurd (cc)
no_sign positive (b ∷ r) rest outer e = let j : b ≡ 43 = cc in sign_outside positive b outer (ap (λ (c : ℕ). c ∷ []) j)
no_sign negative (b ∷ r) rest outer e = let j : b ≡ 45 = cc in sign_outside negative b outer (ap (λ (c : ℕ). c ∷ []) j)

-- a sign is no byte of a word
sign_no_word : (sign : Sign) (rest : List ℕ) → NoWord (sign_word sign ++ rest)
sign_no_word positive rest = refl
sign_no_word negative rest = refl

-- no piece begins with an empty word
no_empty_head : (p : LoosePiece) (z r : List ℕ) → IsHead p [] z r → ⊥
unfolding symbol_at keyword_at
no_empty_head (loose_number n) z r h = let i = h.0 in absurd (cc)
no_empty_head (loose_atom (loose_symbol y)) z r h = let i = h.0 in absurd (cc)
no_empty_head (loose_atom (loose_fit f t)) z r h = let i = h.0 in absurd (cc)
no_empty_head (loose_atom (loose_pair p a b)) z r h = let i = h.0 in absurd (cc)
no_empty_head (loose_multiple n a) z r h = let i = h.0 in absurd (cc)

-- so a sign begins none
sign_begins_none : (sign : Sign) (p : LoosePiece) (x r rest : List ℕ) → SpellsPiece p x → Stops r → x ++ r ≡ sign_word sign ++ rest → ⊥
sign_begins_none sign p x r rest h stops e =
    let head = piece_head p x r h stops in
    let apart = word_apart head.front [] head.back (sign_word sign ++ rest) head.words tt head.stops (sign_no_word sign rest) (sym head.whole ∙ e) in
    no_empty_head p head.back r (subst (λ w. IsHead p w head.back r) apart.0 head.is)

-- a number is no atom
number_or_atom : (n : ℕ) (a : LooseAtom) (w z r s : List ℕ) → Stops r → IsHead (loose_number n) w z r → IsAtomHead a w z s → ⊥
number_or_atom n (loose_symbol y) w z r s stops h k = let i = sym h.0 ∙ k.1 in absurd (cc)
number_or_atom n (loose_fit f t) w z r s stops h k = no_open r _ stops (sym h.1 ∙ k.1.1)
number_or_atom n (loose_pair p a b) w z r s stops h k = no_open r _ stops (sym h.1 ∙ k.1.2)

-- a number before a star is none either
multiple_or_atom : (n : ℕ) (c a : LooseAtom) (w z r s : List ℕ) → IsHead (loose_multiple n c) w z r → IsAtomHead a w z s → ⊥
multiple_or_atom n c (loose_symbol y) w z r s h k = let i = sym h.0 ∙ k.1 in absurd (cc)
multiple_or_atom n c (loose_fit f t) w z r s h k = let i = sym h.1.1 ∙ k.1.1 in let j : ◌≡◌ {A = ℕ} 42 40 = cc in omega (arith, j)
multiple_or_atom n c (loose_pair p a b) w z r s h k = let i = sym h.1.1 ∙ k.1.2 in let j : ◌≡◌ {A = ℕ} 42 40 = cc in omega (arith, j)

-- ---- signs

-- one sign
sign_one : (f g : Sign) (u v : List ℕ) → sign_word f ++ u ≡ sign_word g ++ v → (f ≡ g) × (u ≡ v)
sign_one positive positive u v e = (refl, cc)
sign_one positive negative u v e = absurd (let j : ◌≡◌ {A = ℕ} 43 45 = cc in omega (arith, j))
sign_one negative positive u v e = absurd (let j : ◌≡◌ {A = ℕ} 45 43 = cc in omega (arith, j))
sign_one negative negative u v e = (refl, cc)

-- or none
first_one : (f g : Option Sign) (x y u v : List ℕ) → SpellsFirst f x → SpellsFirst g y
    → ((sign : Sign) (rest : List ℕ) → u ≡ sign_word sign ++ rest → ⊥) → ((sign : Sign) (rest : List ℕ) → v ≡ sign_word sign ++ rest → ⊥)
    → x ++ u ≡ y ++ v → (f ≡ g) × (u ≡ v)
first_one None None x y u v h k nu nv e = (refl, ap (λ w. w ++ u) (sym h) ∙ e ∙ ap (λ w. w ++ v) k)
first_one None (Some g) x y u v h k nu nv e = absurd (nu g v (ap (λ w. w ++ u) (sym h) ∙ e ∙ ap (λ w. w ++ v) k))
first_one (Some f) None x y u v h k nu nv e = absurd (nv f u (sym (ap (λ w. w ++ u) (sym h) ∙ e ∙ ap (λ w. w ++ v) k)))
first_one (Some f) (Some g) x y u v h k nu nv e =
    let same = sign_one f g u v (ap (λ w. w ++ u) (sym h) ∙ e ∙ ap (λ w. w ++ v) k) in
    (ap (λ sign. Some sign) same.0, same.1)

-- ---- trees

-- a word is one number, one symbol and one keyword
one_number : (w : List ℕ) (n m : ℕ) → number_at w ≡ Some n → number_at w ≡ Some m → n ≡ m
one_number w n m e f = let i = sym e ∙ f in cc

one_symbol : (w : List ℕ) (n m : Sym) → symbol_at w ≡ Some n → symbol_at w ≡ Some m → n ≡ m
one_symbol w n m e f = let i = sym e ∙ f in cc

one_fit : (w : List ℕ) (f g : Fit) → keyword_at w ≡ Some (word.Fit f) → keyword_at w ≡ Some (word.Fit g) → f ≡ g
one_fit w f g e k = let i = sym e ∙ k in cc

one_pair : (w : List ℕ) (p q : Pair) → keyword_at w ≡ Some (word.Pair p) → keyword_at w ≡ Some (word.Pair q) → p ≡ q
one_pair w p q e k = let i = sym e ∙ k in cc

fit_or_pair : (w : List ℕ) (f : Fit) (q : Pair) → keyword_at w ≡ Some (word.Fit f) → keyword_at w ≡ Some (word.Pair q) → ⊥
fit_or_pair w f q e k = let i = sym e ∙ k in absurd (cc)

-- what comes after the same byte
one_tail : (b : ℕ) (u v : List ℕ) → b ∷ u ≡ b ∷ v → u ≡ v
one_tail b u v e = cc

mutual
  -- a term, before what ends one
  term_one : (t u : LooseTerm) (x y r s : List ℕ) → SpellsTerm t x → SpellsTerm u y → Outer r → Outer s → x ++ r ≡ y ++ s → (t ≡ u) × (r ≡ s)
  term_one (loose_term f p ps) (loose_term g q qs) x y r s h k ro so e =
      let b = h.4 in
      let c = k.4 in
      let rest = b.1 ++ r in
      let other = c.1 ++ s in
      let stops = more_stop ps b.1 r b.4 (outer_stops r ro) in
      let ends = more_stop qs c.1 s c.4 (outer_stops s so) in
      let left : x ++ r ≡ h.0 ++ (b.0 ++ rest) = grouped x h.0 h.1 r h.2 ∙ ap (λ w. h.0 ++ w) (grouped h.1 b.0 b.1 r b.2) in
      let right : y ++ s ≡ k.0 ++ (c.0 ++ other) = grouped y k.0 k.1 s k.2 ∙ ap (λ w. k.0 ++ w) (grouped k.1 c.0 c.1 s c.2) in
      let first = first_one f g h.0 k.0 (b.0 ++ rest) (c.0 ++ other) h.3 k.3 (λ sign l. sign_begins_none sign p b.0 rest l b.3 stops) (λ sign l. sign_begins_none sign q c.0 other l c.3 ends) (sym left ∙ e ∙ right) in
      let heads = one_head (λ w z. IsHead p w z rest) (λ w z. IsHead q w z other) (b.0 ++ rest) (c.0 ++ other) first.1 (piece_head p b.0 rest b.3 stops) (piece_head q c.0 other c.3 ends) in
      let piece = same_piece p q heads.0 heads.1 rest other stops ends heads.2 heads.3 in
      let more = more_one ps qs b.1 c.1 r s b.4 c.4 ro so piece.1 in
      (ap₂ (λ (i : Option Sign) (j : LoosePiece). loose_term i j ps) first.0 piece.0 ∙ ap (loose_term g q) more.0, more.1)

  -- later pieces
  more_one : (ps qs : LoosePieces) (x y r s : List ℕ) → SpellsPieces ps x → SpellsPieces qs y → Outer r → Outer s → x ++ r ≡ y ++ s → (ps ≡ qs) × (r ≡ s)
  more_one no_piece no_piece x y r s h k ro so e = (refl, ap (λ w. w ++ r) (sym h) ∙ e ∙ ap (λ w. w ++ s) k)
  more_one no_piece (one_piece g q qs) x y r s h k ro so e =
      absurd (no_sign g r (k.1 ++ s) ro (ap (λ w. w ++ r) (sym h) ∙ e ∙ grouped y k.0 k.1 s k.2 ∙ ap (λ w. w ++ (k.1 ++ s)) k.3))
  more_one (one_piece f p ps) no_piece x y r s h k ro so e =
      absurd (no_sign f s (h.1 ++ r) so (ap (λ w. w ++ s) (sym k) ∙ sym e ∙ grouped x h.0 h.1 r h.2 ∙ ap (λ w. w ++ (h.1 ++ r)) h.3))
  more_one (one_piece f p ps) (one_piece g q qs) x y r s h k ro so e =
      let b = h.4 in
      let c = k.4 in
      let rest = b.1 ++ r in
      let other = c.1 ++ s in
      let stops = more_stop ps b.1 r b.4 (outer_stops r ro) in
      let ends = more_stop qs c.1 s c.4 (outer_stops s so) in
      let left : x ++ r ≡ sign_word f ++ (b.0 ++ rest) = grouped x h.0 h.1 r h.2 ∙ ap₂ (λ (v w : List ℕ). v ++ w) h.3 (grouped h.1 b.0 b.1 r b.2) in
      let right : y ++ s ≡ sign_word g ++ (c.0 ++ other) = grouped y k.0 k.1 s k.2 ∙ ap₂ (λ (v w : List ℕ). v ++ w) k.3 (grouped k.1 c.0 c.1 s c.2) in
      let first = sign_one f g (b.0 ++ rest) (c.0 ++ other) (sym left ∙ e ∙ right) in
      let heads = one_head (λ w z. IsHead p w z rest) (λ w z. IsHead q w z other) (b.0 ++ rest) (c.0 ++ other) first.1 (piece_head p b.0 rest b.3 stops) (piece_head q c.0 other c.3 ends) in
      let piece = same_piece p q heads.0 heads.1 rest other stops ends heads.2 heads.3 in
      let more = more_one ps qs b.1 c.1 r s b.4 c.4 ro so piece.1 in
      (ap₂ (λ (i : Sign) (j : LoosePiece). one_piece i j ps) first.0 piece.0 ∙ ap (one_piece g q) more.0, more.1)

  -- a piece, by how it begins
  same_piece : (p q : LoosePiece) (w z r s : List ℕ) → Stops r → Stops s → IsHead p w z r → IsHead q w z s → (p ≡ q) × (r ≡ s)
  same_piece (loose_number n) (loose_number m) w z r s rs ss h k = (ap loose_number (one_number w n m h.0 k.0), sym h.1 ∙ k.1)
  same_piece (loose_number n) (loose_atom b) w z r s rs ss h k = absurd (number_or_atom n b w z r s rs h k)
  same_piece (loose_number n) (loose_multiple m b) w z r s rs ss h k = absurd (no_star r (k.1.0 ++ s) rs (sym h.1 ∙ k.1.1))
  same_piece (loose_atom a) (loose_number m) w z r s rs ss h k = absurd (number_or_atom m a w z s r ss k h)
  same_piece (loose_atom a) (loose_atom b) w z r s rs ss h k = let same = same_atom a b w z r s rs ss h k in (ap loose_atom same.0, same.1)
  same_piece (loose_atom a) (loose_multiple m b) w z r s rs ss h k = absurd (multiple_or_atom m b a w z s r k h)
  same_piece (loose_multiple n a) (loose_number m) w z r s rs ss h k = absurd (no_star s (h.1.0 ++ r) ss (sym k.1 ∙ h.1.1))
  same_piece (loose_multiple n a) (loose_atom b) w z r s rs ss h k = absurd (multiple_or_atom n a b w z r s h k)
  same_piece (loose_multiple n a) (loose_multiple m b) w z r s rs ss h k =
      let x = h.1.0 in
      let y = k.1.0 in
      let e : x ++ r ≡ y ++ s = one_tail 42 (x ++ r) (y ++ s) (sym h.1.1 ∙ k.1.1) in
      let heads = one_head (λ w z. IsAtomHead a w z r) (λ w z. IsAtomHead b w z s) (x ++ r) (y ++ s) e (atom_head a x r h.1.2 rs) (atom_head b y s k.1.2 ss) in
      let same = same_atom a b heads.0 heads.1 r s rs ss heads.2 heads.3 in
      (ap₂ loose_multiple (one_number w n m h.0 k.0) same.0, same.1)

  -- an atom, likewise
  same_atom : (a b : LooseAtom) (w z r s : List ℕ) → Stops r → Stops s → IsAtomHead a w z r → IsAtomHead b w z s → (a ≡ b) × (r ≡ s)
  same_atom (loose_symbol y) (loose_symbol x) w z r s rs ss h k = (ap loose_symbol (one_symbol w y x h.0 k.0), sym h.2 ∙ k.2)
  same_atom (loose_symbol y) (loose_fit g u) w z r s rs ss h k = absurd (no_open r (k.1.0 ++ 41 ∷ s) rs (sym h.2 ∙ k.1.1))
  same_atom (loose_symbol y) (loose_pair q c d) w z r s rs ss h k = absurd (no_open r (k.1.0 ++ 44 ∷ (k.1.1 ++ 41 ∷ s)) rs (sym h.2 ∙ k.1.2))
  same_atom (loose_fit f t) (loose_symbol x) w z r s rs ss h k = absurd (no_open s (h.1.0 ++ 41 ∷ r) ss (sym k.2 ∙ h.1.1))
  same_atom (loose_fit f t) (loose_fit g u) w z r s rs ss h k =
      let e = one_tail 40 (h.1.0 ++ 41 ∷ r) (k.1.0 ++ 41 ∷ s) (sym h.1.1 ∙ k.1.1) in
      let same = term_one t u h.1.0 k.1.0 (41 ∷ r) (41 ∷ s) h.1.2 k.1.2 (inl refl) (inl refl) e in
      (ap₂ loose_fit (one_fit w f g h.0 k.0) same.0, one_tail 41 r s same.1)
  same_atom (loose_fit f t) (loose_pair q c d) w z r s rs ss h k = absurd (fit_or_pair w f q h.0 k.0)
  same_atom (loose_pair p a b) (loose_symbol x) w z r s rs ss h k = absurd (no_open s (h.1.0 ++ 44 ∷ (h.1.1 ++ 41 ∷ r)) ss (sym k.2 ∙ h.1.2))
  same_atom (loose_pair p a b) (loose_fit g u) w z r s rs ss h k = absurd (fit_or_pair w g p k.0 h.0)
  same_atom (loose_pair p a b) (loose_pair q c d) w z r s rs ss h k =
      let behind = h.1.1 ++ 41 ∷ r in
      let beyond = k.1.1 ++ 41 ∷ s in
      let e = one_tail 40 (h.1.0 ++ 44 ∷ behind) (k.1.0 ++ 44 ∷ beyond) (sym h.1.2 ∙ k.1.2) in
      let left = term_one a c h.1.0 k.1.0 (44 ∷ behind) (44 ∷ beyond) h.1.3 k.1.3 (inr refl) (inr refl) e in
      let right = term_one b d h.1.1 k.1.1 (41 ∷ r) (41 ∷ s) h.1.4 k.1.4 (inl refl) (inl refl) (one_tail 44 behind beyond left.1) in
      (ap₂ (λ (i : Pair) (j : LooseTerm). loose_pair i j b) (one_pair w p q h.0 k.0) left.0 ∙ ap (loose_pair q c) right.0, one_tail 41 r s right.1)

-- bytes spell one tree at most
pub one_tree : OneTreeLaw
one_tree bytes a b h k = (term_one a b bytes bytes [] [] h k tt tt refl).0
