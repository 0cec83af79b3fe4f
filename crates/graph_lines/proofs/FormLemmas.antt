-- Forms: what they part, what is read of them, and lists of them.
use Rattle.std.proofs.Common.{◌≡◌, ℕ, zero, suc, ◌<◌, Bool, true, false, not, eqb, if◌then◌else◌, List, [], ◌∷◌, ◌++◌, length, take, drop, Option, Some, None, inl, inr, refl, sym, ap, ap₂, subst, ◌∙◌, arith}
use Rattle.std.specs.Option.{option_map}
use Rattle.std.specs.List.{list_all, flat_map}
use Rattle.std.specs.Str.{bytes_eq}
use Rattle.std.proofs.lemmas.Bool.{and_from, and_parts, eqb-true, cases_Bool, not_from_false}
use Rattle.std.proofs.lemmas.List.{append-nil}
use Rattle.std.proofs.lemmas.Slice.Eq.{bytes_eq-Decides}
use Rattle.term_text.specs.Names.{is_word_byte}
use Rattle.term_text.specs.Numbers.{numeral_at}
use Rattle.term_text.specs.Bind.{◌>>=◌}
use Rattle.term_text.proofs.SpellLemmas.{numeral_word, number_is_word}
use Rattle.graph_data.specs.Parts.{Each}
use Rattle.graph_lines.specs.Words.{split_at, in_first_field, fields, joined, ends_term}
use Rattle.graph_lines.specs.Syntax.{guard, strip, each_at}
use Rattle.graph_lines.specs.Form.{Form, just, ◌before◌, separated, list_of, number_that, any_number, term}
use Rattle.graph_lines.proofs.WordLemmas.{has_none, split_joined, split_whole, fields_some, fields_none}
use Rattle.graph_lines.proofs.ByteLemmas.{all_both}
use Rattle.graph_lines.proofs.TermPartLemmas.{word_free}

-- ---- readings that may find nothing

-- what was found after something else was found
pub bind_some : {A B : Type 0} (o : Option A) (f : A → Option B) (y : B) → (o >>= f) ≡ Some y → (x : A) × (o ≡ Some x) × (f x ≡ Some y)
bind_some None f y e = absurd (cc)
bind_some (Some x) f y e = (x, refl, e)

-- a value where a test held
pub guard_some : {A : Type 0} (test : Bool) (x y : A) → guard test x ≡ Some y → (test ≡ true) × (x ≡ y)
guard_some true x y e = (refl, cc)
guard_some false x y e = absurd (cc)

-- what a split parted
pub split_is : (separator : ℕ) (bytes : List ℕ) (p : List ℕ × List ℕ) → split_at separator bytes ≡ Some p → bytes ≡ p.0 ++ separator ∷ p.1
split_is separator [] p e = absurd (cc)
split_is separator (b ∷ bs) p e = by_test (eqb b separator) (split_at separator bs) refl (λ q is. split_is separator bs q is) refl e
  where
    by_test : (t : Bool) (o : Option (List ℕ × List ℕ)) → eqb b separator ≡ t
        → ((q : List ℕ × List ℕ) → split_at separator bs ≡ Some q → bs ≡ q.0 ++ separator ∷ q.1) → split_at separator bs ≡ o
        → (if t then Some ([], bs) else option_map (λ q. (b ∷ q.0, q.1)) o) ≡ Some p → b ∷ bs ≡ p.0 ++ separator ∷ p.1
    by_test true o i more is e =
        let same : ([], bs) ≡ p = cc in
        subst (λ (q : List ℕ × List ℕ). b ∷ bs ≡ q.0 ++ separator ∷ q.1) same (ap (λ (c : ℕ). c ∷ bs) (eqb-true b separator i))
    by_test false None i more is e = absurd (cc)
    by_test false (Some q) i more is e =
        let same : (b ∷ q.0, q.1) ≡ p = cc in
        subst (λ (q : List ℕ × List ℕ). b ∷ bs ≡ q.0 ++ separator ∷ q.1) same (ap (λ (l : List ℕ). b ∷ l) (more q is))

-- front and rest
take_drop : (n : ℕ) (xs : List ℕ) → xs ≡ take n xs ++ drop n xs
take_drop zero xs = refl
take_drop (suc n) [] = refl
take_drop (suc n) (x ∷ xs) = ap (λ (l : List ℕ). x ∷ l) (take_drop n xs)

-- what stands after a word
pub strip_is : (word bytes rest : List ℕ) → strip word bytes ≡ Some rest → bytes ≡ word ++ rest
strip_is word bytes rest e =
    let h = guard_some (bytes_eq (take (length word) bytes) word) (drop (length word) bytes) rest e in
    take_drop (length word) bytes ∙ ap₂ (λ (x y : List ℕ). x ++ y) ((bytes_eq-Decides (take (length word) bytes) word).0 h.0) h.1

-- ---- no separator

-- no byte is the separator
abbrev pub IsFree : ℕ → Form → Type 0
IsFree separator P = (words : List (List ℕ)) (bytes : List ℕ) → P words bytes → has_none separator bytes ≡ true

-- fixed bytes
pub free_just : (separator : ℕ) (text : List ℕ) → has_none separator text ≡ true → IsFree separator (just text)
free_just separator text none words bytes h = subst (λ (l : List ℕ). has_none separator l ≡ true) (sym h.1) none

-- two forms
pub free_both : (separator : ℕ) (P Q : Form) → IsFree separator P → IsFree separator Q → IsFree separator (P before Q)
free_both separator P Q p q words bytes h =
    subst (λ (l : List ℕ). has_none separator l ≡ true) (sym h.5) (all_both (λ b. not (eqb b separator)) h.2 h.3 (p h.0 h.2 h.6) (q h.1 h.3 h.7))

-- a numeral
pub free_numeral : (separator : ℕ) (hex : Bool) (passes : ℕ → Bool) → is_word_byte separator ≡ false → IsFree separator (number_that (numeral_at hex) passes)
free_numeral separator hex passes none words bytes h = word_free separator none bytes (numeral_word hex bytes h.1.0 h.1.1).0

-- a number
pub free_number : (separator : ℕ) → is_word_byte separator ≡ false → IsFree separator any_number
free_number separator none words bytes h = word_free separator none bytes (number_is_word bytes h.1.0 h.1.1).0

-- a place of a term
pub free_term : (separator : ℕ) → ends_term separator ≡ true → IsFree separator term
free_term separator ends words bytes h = all_other bytes (and_parts (not (eqb (length bytes) 0)) (list_all (λ b. not (ends_term b)) bytes) h.1).1
  where
    other : (b : ℕ) → not (ends_term b) ≡ true → not (eqb b separator) ≡ true
    other b goes = elim (cases_Bool (eqb b separator)) [
      | inl same ↦ absurd (let i : not (ends_term separator) ≡ true = subst (λ (x : ℕ). not (ends_term x) ≡ true) (eqb-true b separator same) goes in let j = rw ends at i in cc)
      | inr differs ↦ not_from_false (eqb b separator) differs
    ]

    all_other : (w : List ℕ) → list_all (λ b. not (ends_term b)) w ≡ true → has_none separator w ≡ true
    all_other [] all = refl
    all_other (b ∷ w) all =
        let p = and_parts (not (ends_term b)) (list_all (λ b. not (ends_term b)) w) all in
        and_from (not (eqb b separator)) (has_none separator w) (other b p.0) (all_other w p.1)

-- a list with another separator
pub free_list : (separator between : ℕ) (P : Form) → not (eqb between separator) ≡ true → IsFree separator P → IsFree separator (list_of between P)
free_list separator between P differs p words bytes h = all_of h.0 words bytes h.1
  where
    comma : has_none separator (between ∷ []) ≡ true
    comma = and_from (not (eqb between separator)) true differs refl

    all_of : (n : ℕ) → IsFree separator (separated between P n)
    all_of zero words bytes h = p words bytes h
    all_of (suc n) words bytes h =
        free_both separator P (just (between ∷ []) before separated between P n) p
        (free_both separator (just (between ∷ [])) (separated between P n) (free_just separator (between ∷ []) comma) (all_of n)) words bytes h

-- ---- parted by a separator

-- the two sides of the first separator
pub record AreParted (separator : ℕ) (P Q : Form) (words : List (List ℕ)) (bytes : List ℕ) : Type 0 where
  pub early : List (List ℕ)
  pub late : List (List ℕ)
  pub front : List ℕ
  pub back : List ℕ
  pub words_are : words ≡ early ++ late
  pub first : P early front
  pub second : Q late back
  pub split : split_at separator bytes ≡ Some (front, back)

-- a form that is free of the separator, and one after it
pub parted : (separator : ℕ) (P Q : Form) → IsFree separator P → (words : List (List ℕ)) (bytes : List ℕ)
    → (P before just (separator ∷ []) before Q) words bytes → AreParted separator P Q words bytes
parted separator P Q free words bytes h =
    let tail = h.7 in
    let whole : bytes ≡ h.2 ++ separator ∷ tail.3 = h.5 ∙ ap (λ (l : List ℕ). h.2 ++ l) (tail.5 ∙ ap (λ (l : List ℕ). l ++ tail.3) tail.6.1) in
    record {
      early = h.0;
      late = tail.1;
      front = h.2;
      back = tail.3;
      words_are = h.4 ∙ ap (λ (l : List (List ℕ)). h.0 ++ l) (tail.4 ∙ ap (λ (l : List (List ℕ)). l ++ tail.1) tail.6.0);
      first = h.6;
      second = tail.7;
      split = ap (split_at separator) whole ∙ split_joined separator h.2 tail.3 (free h.0 h.2 h.6);
    }

-- and back
pub part : (separator : ℕ) (P Q : Form) (v w : List (List ℕ)) (x y bytes : List ℕ) → bytes ≡ x ++ separator ∷ y → P v x → Q w y
    → (P before just (separator ∷ []) before Q) (v ++ w) bytes
part separator P Q v w x y bytes e p q = (v, w, x, separator ∷ y, refl, e, p, ([], w, separator ∷ [], y, refl, refl, (refl, refl), q))

-- ---- what reads a form

-- the function reads just what has the form; what it gives has these words, and fits
pub record ReadsForm {X : Type 0} (P : Form) (read : List ℕ → Option X) (places : X → List (List ℕ)) (Fits : X → Type 0) : Type 0 where
  pub complete : (words : List (List ℕ)) (bytes : List ℕ) → P words bytes → (x : X) × (read bytes ≡ Some x) × (words ≡ places x)
  pub sound : (bytes : List ℕ) (x : X) → read bytes ≡ Some x → P (places x) bytes × Fits x

-- no words
abbrev pub nowhere : {X : Type 0} → X → List (List ℕ)
nowhere x = []

-- a number that is read
pub number_reads_so : (spelled : List ℕ → Option ℕ) (passes : ℕ → Bool) (Fits : ℕ → Type 0)
    → ((bytes : List ℕ) (n : ℕ) → spelled bytes ≡ Some n → passes n ≡ true → Fits n)
    → ReadsForm (number_that spelled passes) (λ bytes. spelled bytes >>= λ n. guard (passes n) n) nowhere Fits
number_reads_so spelled passes Fits fits = record {
  complete = λ words bytes h. (h.1.0, found bytes h.1.0 h.1.1 h.1.2, h.0);
  sound = λ bytes n e.
      let s = bind_some (spelled bytes) (λ n. guard (passes n) n) n e in
      let g = guard_some (passes s.0) s.0 n s.2 in
      let same : spelled bytes ≡ Some n = s.1 ∙ ap (λ (k : ℕ). Some k) g.1 in
      let passed : passes n ≡ true = ap passes (sym g.1) ∙ g.0 in
      ((refl, (n, same, passed)), fits bytes n same passed);
}
  where
    found : (bytes : List ℕ) (n : ℕ) → spelled bytes ≡ Some n → passes n ≡ true → (spelled bytes >>= λ n. guard (passes n) n) ≡ Some n
    found bytes n e passed = rw (e, passed) refl

-- there is a first field
first_field : (separator : ℕ) (bytes : List ℕ) → (w : List ℕ) × (ws : List (List ℕ)) × (fields separator bytes ≡ w ∷ ws)
first_field separator [] = ([], [], refl)
first_field separator (b ∷ bs) = by_test (eqb b separator) (fields separator bs)
  where
    by_test : (t : Bool) (fs : List (List ℕ))
        → (w : List ℕ) × (ws : List (List ℕ)) × ((if t then [] ∷ fs else in_first_field b fs) ≡ w ∷ ws)
    by_test true fs = ([], fs, refl)
    by_test false [] = (b ∷ [], [], refl)
    by_test false (w ∷ ws) = (b ∷ w, ws, refl)

-- fields make the bytes again
joined_fields : (separator : ℕ) (bytes : List ℕ) → joined separator (fields separator bytes) ≡ bytes
joined_fields separator [] = refl
joined_fields separator (b ∷ bs) =
    let f = first_field separator bs in
    let whole = ap (joined separator) (sym f.2) ∙ joined_fields separator bs in
    ap (λ fs. joined separator (if eqb b separator then [] ∷ fs else in_first_field b fs)) f.2 ∙ by_test (eqb b separator) refl f.0 f.1 whole
  where
    by_test : (t : Bool) → eqb b separator ≡ t → (w : List ℕ) (ws : List (List ℕ)) → joined separator (w ∷ ws) ≡ bs
        → joined separator (if t then [] ∷ (w ∷ ws) else in_first_field b (w ∷ ws)) ≡ b ∷ bs
    by_test true i w ws e = ap₂ (λ (c : ℕ) (l : List ℕ). c ∷ l) (sym (eqb-true b separator i)) e
    by_test false i w [] e = ap (λ (l : List ℕ). b ∷ l) e
    by_test false i w (v ∷ vs) e = ap (λ (l : List ℕ). b ∷ l) e

-- a list
pub list_reads : {X : Type 0} (separator : ℕ) (P : Form) (read : List ℕ → Option X) (places : X → List (List ℕ)) (Fits : X → Type 0)
    → IsFree separator P → ReadsForm P read places Fits
    → ReadsForm (list_of separator P) (λ bytes. each_at read (fields separator bytes)) (flat_map places) (λ xs. Each Fits xs × (0 < length xs))
list_reads {X} separator P read places Fits free reads = record {
  complete = λ words bytes h. all_of h.0 words bytes h.1;
  sound = λ bytes xs e.
      let f = first_field separator bytes in
      let s = some_of f.0 f.1 xs (ap (each_at read) (sym f.2) ∙ e) in
      ((length f.1, subst (separated separator P (length f.1) (flat_map places xs)) (ap (joined separator) (sym f.2) ∙ joined_fields separator bytes) s.0), s.1);
}
  where
    pair_read : (w : List ℕ) (ws : List (List ℕ)) (x : X) (xs : List X) → read w ≡ Some x → each_at read ws ≡ Some xs
        → each_at read (w ∷ ws) ≡ Some (x ∷ xs)
    pair_read w ws x xs i j = rw (i, j) refl

    all_of : (n : ℕ) (words : List (List ℕ)) (bytes : List ℕ) → separated separator P n words bytes
        → (xs : List X) × (each_at read (fields separator bytes) ≡ Some xs) × (words ≡ flat_map places xs)
    all_of zero words bytes h =
        let x = reads.complete words bytes h in
        let alone = fields_none separator bytes (split_whole separator bytes (free words bytes h)) in
        (x.0 ∷ [], ap (each_at read) alone ∙ pair_read bytes [] x.0 [] x.1 refl, x.2 ∙ sym (append-nil (places x.0)))
    all_of (suc n) words bytes h =
        let p = parted separator P (separated separator P n) free words bytes h in
        let x = reads.complete p.early p.front p.first in
        let more = all_of n p.late p.back p.second in (
          x.0 ∷ more.0,
          ap (each_at read) (fields_some separator bytes p.front p.back p.split) ∙ pair_read p.front (fields separator p.back) x.0 more.0 x.1 more.1,
          p.words_are ∙ ap₂ (λ (v w : List (List ℕ)). v ++ w) x.2 more.2,
        )

    some_of : (w : List ℕ) (ws : List (List ℕ)) (xs : List X) → each_at read (w ∷ ws) ≡ Some xs
        → separated separator P (length ws) (flat_map places xs) (joined separator (w ∷ ws)) × (Each Fits xs × (0 < length xs))
    some_of w [] xs e =
        let x = bind_some (read w) (λ x. Some (x ∷ [])) xs e in
        let is = reads.sound w x.0 x.1 in
        let same : x.0 ∷ [] ≡ xs = let i = x.2 in cc in
        subst (λ ys. P (flat_map places ys) w × (Each Fits ys × (0 < length ys))) same
        (subst (λ vs. P vs w) (sym (append-nil (places x.0))) is.0, ((is.1, tt), omega arith))
    some_of w (v ∷ vs) xs e =
        let x = bind_some (read w) (λ x. each_at read (v ∷ vs) >>= λ ys. Some (x ∷ ys)) xs e in
        let more = bind_some (each_at read (v ∷ vs)) (λ ys. Some (x.0 ∷ ys)) xs x.2 in
        let is = reads.sound w x.0 x.1 in
        let rest = some_of v vs more.0 more.1 in
        let same : x.0 ∷ more.0 ≡ xs = let i = more.2 in cc in
        subst (λ ys. separated separator P (length (v ∷ vs)) (flat_map places ys) (joined separator (w ∷ v ∷ vs)) × (Each Fits ys × (0 < length ys))) same (
          part separator P (separated separator P (length vs)) (places x.0) (flat_map places more.0) w (joined separator (v ∷ vs)) (w ++ separator ∷ joined separator (v ∷ vs)) refl is.0 rest.0,
          ((is.1, rest.1.0), omega arith),
        )
