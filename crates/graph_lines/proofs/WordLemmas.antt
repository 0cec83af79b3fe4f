-- Words: where bytes are parted, and that parting what was joined gives its fields.
use Rattle.std.proofs.Common.{◌≡◌, ℕ, zero, suc, ◌+◌, ◌-◌, ◌<◌, Bool, true, false, not, eqb, eq-eqb, ◌==◌, if◌then◌else◌, List, [], ◌∷◌, ◌++◌, length, get_or, take, drop, Option, Some, None, refl, sym, ap, ◌∙◌, add-one, arith}
use Rattle.std.specs.List.{list_all}
use Rattle.std.specs.Option.{option_map}
use Rattle.std.proofs.lemmas.List.{take_rest}
use Rattle.std.proofs.lemmas.Bool.{ne_eqb, and_parts, not-true}
use Rattle.graph_lines.specs.Words.{split_at, in_first_field, fields, joined}

-- no byte of a word is the separator
abbrev pub has_none : ℕ → List ℕ → Bool
has_none separator word = list_all (λ b. not (b == separator)) word

-- ---- where bytes are parted

-- at the first byte that is the separator
pub split_found : (separator : ℕ) (bytes : List ℕ) (i : ℕ) → i < length bytes → get_or bytes i 0 ≡ separator → ((k : ℕ) → k < i → get_or bytes k 0 ≡ separator → ⊥)
    → split_at separator bytes ≡ Some (take i bytes, drop (suc i) bytes)
split_found separator [] i lt here before = absurd (omega arith)
split_found separator (b ∷ bs) zero lt here before = let e : eqb b separator ≡ true = rw here (eq-eqb separator separator refl) in rw e refl
split_found separator (b ∷ bs) (suc i) lt here before =
    let e : eqb b separator ≡ false = ne_eqb b separator (before 0 (omega arith)) in
    rw e (ap (option_map (λ p. (b ∷ p.0, p.1))) (split_found separator bs i (omega arith) here (λ k lt. before (suc k) (omega arith))))

pub split_after : (separator : ℕ) (bytes : List ℕ) (i : ℕ) → i < length bytes → get_or bytes i 0 ≡ separator → ((k : ℕ) → k < i → get_or bytes k 0 ≡ separator → ⊥)
    → Some (take i bytes, take (length bytes - (i + 1)) (drop (i + 1) bytes)) ≡ split_at separator bytes
split_after separator bytes i lt here before =
    let e : take (length bytes - (i + 1)) (drop (i + 1) bytes) ≡ drop (i + 1) bytes = take_rest bytes (i + 1) in
    rw (e, add-one) (sym (split_found separator bytes i lt here before))

-- nowhere, where none is
pub split_none : (separator : ℕ) (bytes : List ℕ) → ((k : ℕ) → k < length bytes → get_or bytes k 0 ≡ separator → ⊥) → split_at separator bytes ≡ None
split_none separator [] before = refl
split_none separator (b ∷ bs) before =
    let e : eqb b separator ≡ false = ne_eqb b separator (before 0 (omega arith)) in
    rw e (ap (option_map (λ p. (b ∷ p.0, p.1))) (split_none separator bs (λ k lt. before (suc k) (omega arith))))

-- a word, a separator, and what stands after it
pub split_joined : (separator : ℕ) (w rest : List ℕ) → has_none separator w ≡ true → split_at separator (w ++ separator ∷ rest) ≡ Some (w, rest)
split_joined separator [] rest none = let e : eqb separator separator ≡ true = eq-eqb separator separator refl in rw e refl
split_joined separator (b ∷ w) rest none =
    let h = and_parts (not (eqb b separator)) (has_none separator w) none in
    let e : eqb b separator ≡ false = not-true _ h.0 in
    rw e (ap (option_map (λ p. (b ∷ p.0, p.1))) (split_joined separator w rest h.1))

-- a word alone
pub split_whole : (separator : ℕ) (w : List ℕ) → has_none separator w ≡ true → split_at separator w ≡ None
split_whole separator [] none = refl
split_whole separator (b ∷ w) none =
    let h = and_parts (not (eqb b separator)) (has_none separator w) none in
    let e : eqb b separator ≡ false = not-true _ h.0 in
    rw e (ap (option_map (λ p. (b ∷ p.0, p.1))) (split_whole separator w h.1))

-- ---- fields

-- the parts, by whether a byte is the separator, and the parts of what stands after it
abbrev split_by : ℕ → List ℕ → Bool → Option (List ℕ × List ℕ) → Option (List ℕ × List ℕ)
split_by b bs t o = if t then Some ([], bs) else option_map (λ p. (b ∷ p.0, p.1)) o

-- the first field and the others
pub fields_some : (separator : ℕ) (bytes w rest : List ℕ) → split_at separator bytes ≡ Some (w, rest) → fields separator bytes ≡ w ∷ fields separator rest
fields_some separator [] w rest e = absurd (cc)
fields_some separator (b ∷ bs) w rest e = by_test (eqb b separator) (split_at separator bs) (λ p is. fields_some separator bs p.0 p.1 is) refl e
  where
    by_test : (t : Bool) (o : Option (List ℕ × List ℕ)) → ((p : List ℕ × List ℕ) → split_at separator bs ≡ Some p → fields separator bs ≡ p.0 ∷ fields separator p.1) → split_at separator bs ≡ o
        → split_by b bs t o ≡ Some (w, rest)
        → (if t then [] ∷ fields separator bs else in_first_field b (fields separator bs)) ≡ w ∷ fields separator rest
    by_test true o more is e = let f : ([], bs) ≡ (w, rest) = cc in ap (λ (q : List ℕ × List ℕ). q.0 ∷ fields separator q.1) f
    by_test false None more is e = absurd (cc)
    by_test false (Some p) more is e = let f : (b ∷ p.0, p.1) ≡ (w, rest) = cc in ap (in_first_field b) (more p is) ∙ ap (λ (q : List ℕ × List ℕ). q.0 ∷ fields separator q.1) f

-- one field alone
pub fields_none : (separator : ℕ) (bytes : List ℕ) → split_at separator bytes ≡ None → fields separator bytes ≡ bytes ∷ []
fields_none separator [] e = refl
fields_none separator (b ∷ bs) e = by_test (eqb b separator) (split_at separator bs) (λ is. fields_none separator bs is) refl e
  where
    by_test : (t : Bool) (o : Option (List ℕ × List ℕ)) → (split_at separator bs ≡ None → fields separator bs ≡ bs ∷ []) → split_at separator bs ≡ o
        → split_by b bs t o ≡ None
        → (if t then [] ∷ fields separator bs else in_first_field b (fields separator bs)) ≡ (b ∷ bs) ∷ []
    by_test true o more is e = absurd (cc)
    by_test false None more is e = ap (in_first_field b) (more is)
    by_test false (Some p) more is e = absurd (cc)

-- what was joined has its fields
pub fields_joined : (separator : ℕ) (ws : List (List ℕ)) → 0 < length ws → list_all (has_none separator) ws ≡ true → fields separator (joined separator ws) ≡ ws
fields_joined separator [] some none = absurd (omega arith)
fields_joined separator (w ∷ []) some none = fields_none separator w (split_whole separator w (and_parts (has_none separator w) true none).0)
fields_joined separator (w ∷ v ∷ vs) some none =
    let h = and_parts (has_none separator w) (list_all (has_none separator) (v ∷ vs)) none in
    fields_some separator (w ++ separator ∷ joined separator (v ∷ vs)) w (joined separator (v ∷ vs)) (split_joined separator w (joined separator (v ∷ vs)) h.0)
    ∙ ap (λ (l : List (List ℕ)). w ∷ l) (fields_joined separator (v ∷ vs) (omega arith) h.1)
