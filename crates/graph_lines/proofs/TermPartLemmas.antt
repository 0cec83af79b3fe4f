-- Parts with terms: what is written is read again, and parts nothing.
use Rattle.std.proofs.Common.{◌≡◌, ℕ, zero, suc, ◌^◌, ◌<◌, Bool, true, false, IsTrue, not, ◌&&◌, eqb, List, [], ◌∷◌, ◌++◌, length, map, codes, Option, Some, None, Result, Ok, inl, inr, refl, ap, subst, ◌∙◌, ◌⊎◌, arith, lit<}
use Rattle.std.specs.Fmt.{decimal}
use Rattle.std.specs.List.{list_all}
use Rattle.std.specs.Str.{bytes_eq}
use Rattle.std.proofs.lemmas.Bool.{and_parts, and_from, or_cases, eqb-true, ne_eqb, cases_eq, cases_Bool, both_ways, not-true, not_from_false}
use Rattle.std.proofs.lemmas.Slice.Eq.{bytes_eq-Decides}
use Rattle.bits_core.specs.declared.width.Width.{Width}
use Rattle.bits_core.specs.declared.width.Width.TheVariants.{W8, W16, W32, W64}
use Rattle.bits_core.specs.Width.{bits_of}
use Rattle.sym_terms.specs.Plain.{PlainSum}
use Rattle.sym_terms.specs.Normal.{IsTerm}
use Rattle.memory_regions.specs.declared.region.Region.{Region}
use Rattle.mem_forest.specs.Shape.{is_size}
use Rattle.graph_data.specs.Parts.{Each}
use Rattle.graph_data.specs.WellFormed.{IsKnown, IsRegion}
use Rattle.term_text.specs.declared.cause.TextCause.{TextCause}
use Rattle.term_text.specs.Names.{is_word_byte, is_term_byte, register_name}
use Rattle.term_text.specs.Numbers.{number_text}
use Rattle.term_text.specs.Text.{sum_text}
use Rattle.term_text.proofs.NumberLemmas.{AreWord, decimal_reads, number_word}
use Rattle.term_text.proofs.CleanLemmas.{term_clean, term_begins}
use Rattle.term_text.proofs.TermLemmas.{term_reads}
use Rattle.graph_lines.specs.Words.{ends_term, is_term_word, are_printable}
use Rattle.graph_lines.specs.Line.{IsGiven}
use Rattle.graph_lines.specs.Text.{region_text, value_text, given_text}
use Rattle.graph_lines.specs.Syntax.{strip, each_at, size_at, sized_at, region_at, register_named, all_registers, given_at, width_of}
use Rattle.graph_lines.specs.Steps.{each_read, region_of, given_of}
use Rattle.graph_lines.proofs.WordLemmas.{has_none, split_joined}
use Rattle.graph_lines.proofs.ByteLemmas.{all_clean, clean_free, clean_printable, decimal_free, decimal_printable, all_both}

-- ---- terms

pub term_free : (separator : ℕ) (t : PlainSum) → is_term_byte separator ≡ false → IsTerm t → has_none separator (sum_text t) ≡ true
term_free separator t none is = clean_free separator none (sum_text t) (term_clean t is)

pub term_printable : (t : PlainSum) → IsTerm t → are_printable (sum_text t) ≡ true
term_printable t is = clean_printable (sum_text t) (term_clean t is)

other_separator : (separator b : ℕ) → is_term_byte separator ≡ false → is_term_byte b ≡ true → eqb b separator ≡ false
other_separator separator b none is = not-true _ (and_parts (not (eqb b separator)) true (clean_free separator none (b ∷ []) (and_from (is_term_byte b) true is refl))).0

goes_on : (b : ℕ) → is_term_byte b ≡ true → not (ends_term b) ≡ true
goes_on b is =
    let e1 = other_separator 32 b refl is in
    let e2 = other_separator 91 b refl is in
    let e3 = other_separator 93 b refl is in
    let e4 = other_separator 59 b refl is in
    let e5 = other_separator 124 b refl is in
    let e6 = other_separator 61 b refl is in
    let e7 = other_separator 123 b refl is in
    let e8 = other_separator 125 b refl is in
    rw (e1, e2, e3, e4, e5, e6, e7, e8) refl

word_of : (w : List ℕ) → 0 < length w → list_all (λ b. not (ends_term b)) w ≡ true → is_term_word w ≡ true
word_of [] pos all = absurd (omega arith)
word_of (b ∷ w) pos all = let e : eqb (length (b ∷ w)) 0 ≡ false = ne_eqb (length (b ∷ w)) 0 (λ h. omega (arith, h)) in rw e all

-- the text of a term can stand at the place of a term
pub term_word : (t : PlainSum) → IsTerm t → is_term_word (sum_text t) ≡ true
term_word t is = word_of (sum_text t) (term_begins t is) (all_clean (λ b. not (ends_term b)) goes_on (sum_text t) (term_clean t is))

pub value_word : (v : Option PlainSum) → IsKnown v → is_term_word (value_text v) ≡ true
value_word None known = refl
value_word (Some t) known = term_word t known

pub value_free : (v : Option PlainSum) → IsKnown v → has_none 32 (value_text v) ≡ true
value_free None known = refl
value_free (Some t) known = term_free 32 t refl known

pub value_printable : (v : Option PlainSum) → IsKnown v → are_printable (value_text v) ≡ true
value_printable None known = refl
value_printable (Some t) known = term_printable t known

-- ---- numbers

-- no separator between words parts a word
pub word_free : (separator : ℕ) → is_word_byte separator ≡ false → (w : List ℕ) → AreWord w → has_none separator w ≡ true
word_free separator none [] all = refl
word_free separator none (b ∷ w) all = and_from (not (eqb b separator)) (has_none separator w) (by_test (cases_Bool (eqb b separator))) (word_free separator none w all.1)
  where
    by_test : (eqb b separator ≡ true) ⊎ (eqb b separator ≡ false) → not (eqb b separator) ≡ true
    by_test (inl same) = absurd (both_ways (is_word_byte separator) none (subst (λ (x : ℕ). is_word_byte x ≡ true) (eqb-true b separator same) all.0))
    by_test (inr other) = not_from_false (eqb b separator) other

pub number_free : (separator n : ℕ) → is_word_byte separator ≡ false → n < 2 ^ 64 → has_none separator (number_text n) ≡ true
number_free separator n none lt = word_free separator none (number_text n) (number_word n lt)

pub size_small : (n : ℕ) → IsTrue (is_size n) → n < 2 ^ 64
size_small n is = elim (or_cases (eqb n 1) _ is) [
  | inl one ↦ let e = eqb-true n 1 one in omega (arith, e)
  | inr more ↦ elim (or_cases (eqb n 2) _ more) [
    | inl two ↦ let e = eqb-true n 2 two in omega (arith, e)
    | inr more ↦ elim (or_cases (eqb n 4) _ more) [
      | inl four ↦ let e = eqb-true n 4 four in omega (arith, e)
      | inr eight ↦ let e = eqb-true n 8 eight in omega (arith, e)
    ]
  ]
]

size_reads : (n : ℕ) → IsTrue (is_size n) → size_at (decimal n) ≡ Some n
size_reads n is = let e : is_size n ≡ true = is in rw (decimal_reads n (size_small n is), e) refl

pub width_reads : (w : Width) → width_of (bits_of w) ≡ Some w
width_reads W8 = refl
width_reads W16 = refl
width_reads W32 = refl
width_reads W64 = refl

pub width_small : (w : Width) → bits_of w < 2 ^ 64
width_small W8 = lit< tt
width_small W16 = lit< tt
width_small W32 = lit< tt
width_small W64 = lit< tt

-- ---- regions

pub sized_again : (w rest : List ℕ) (n : ℕ) → has_none 59 w ≡ true → IsTrue (is_size n) → sized_at (w ++ 59 ∷ (decimal n ++ 93 ∷ rest)) ≡ Some (w, (n, rest))
unfolding sized_at
sized_again w rest n free is =
    let first = split_joined 59 w (decimal n ++ 93 ∷ rest) free in
    let second = split_joined 93 (decimal n) rest (decimal_free 93 n refl (size_small n is)) in
    rw (first, second, size_reads n is) refl

pub region_again : (r : Region) → IsRegion r → region_at (region_text r) ≡ Some (sum_text r.at, r.bytes)
unfolding region_at
region_again r is =
    let parts = sized_again (sum_text r.at) [] r.bytes (term_free 59 r.at refl is.at) is.size in
    rw (parts, term_word r.at is.at) refl

pub region_read : (r : Region) → IsRegion r → region_of (sum_text r.at, r.bytes) ≡ Ok r
region_read r is = rw (term_reads r.at is.at) refl

pub region_free : (r : Region) → IsRegion r → has_none 32 (region_text r) ≡ true
region_free r is =
    all_both _ (sum_text r.at) (59 ∷ (decimal r.bytes ++ 93 ∷ [])) (term_free 32 r.at refl is.at)
    (all_both _ (decimal r.bytes) (93 ∷ []) (decimal_free 32 r.bytes refl (size_small r.bytes is.size)) refl)

pub region_printable : (r : Region) → IsRegion r → are_printable (region_text r) ≡ true
region_printable r is =
    all_both _ (sum_text r.at) (59 ∷ (decimal r.bytes ++ 93 ∷ [])) (term_printable r.at is.at)
    (all_both _ (decimal r.bytes) (93 ∷ []) (decimal_printable r.bytes (size_small r.bytes is.size)) refl)

-- ---- registers

-- a test of each number below n
all_below : (ℕ → Bool) → ℕ → Bool
all_below test zero = true
all_below test (suc n) = test n && all_below test n

below_all : (test : ℕ → Bool) (n : ℕ) → all_below test n ≡ true → (r : ℕ) → r < n → test r ≡ true
unfolding all_below
below_all test zero all r lt = absurd (omega arith)
below_all test (suc n) all r lt =
    let h = and_parts (test n) (all_below test n) all in
    elim (cases_eq r n) [
      | inl same ↦ ap test same ∙ h.0
      | inr other ↦ below_all test n h.1 r (omega arith)
    ]

abbrev is_it : ℕ → Option ℕ → Bool
is_it r None = false
is_it r (Some x) = eqb x r

it_is : (r : ℕ) (o : Option ℕ) → is_it r o ≡ true → o ≡ Some r
it_is r None is = absurd (cc)
it_is r (Some x) is = ap Some (eqb-true x r is)

all_registers_named : all_below (λ r. is_it r (register_named all_registers (register_name r))) 16 ≡ true
unfolding all_below
all_registers_named = refl

pub name_reads : (r : ℕ) → r < 16 → register_named all_registers (register_name r) ≡ Some r
name_reads r lt = it_is r _ (below_all (λ r. is_it r (register_named all_registers (register_name r))) 16 all_registers_named r lt)

all_names_clean : all_below (λ r. list_all is_term_byte (register_name r)) 16 ≡ true
unfolding all_below
all_names_clean = refl

pub name_clean : (r : ℕ) → r < 16 → list_all is_term_byte (register_name r) ≡ true
name_clean r lt = below_all (λ r. list_all is_term_byte (register_name r)) 16 all_names_clean r lt

-- the parts of an entry
abbrev pub loose_given : ℕ × Option PlainSum → ℕ × List ℕ
loose_given given = (given.0, value_text given.1)

pub given_again : (g : ℕ × Option PlainSum) → IsGiven g → given_at (given_text g) ≡ Some (loose_given g)
unfolding given_at
given_again g is =
    let parts = split_joined 61 (register_name g.0) (value_text g.1) (clean_free 61 refl (register_name g.0) (name_clean g.0 is.register)) in
    rw (parts, name_reads g.0 is.register, value_word g.1 is.value) refl

-- bytes of a term are not those of something else
unlike : (w v : List ℕ) → list_all is_term_byte v ≡ false → list_all is_term_byte w ≡ true → bytes_eq w v ≡ false
unlike w v none clean = by_test (cases_Bool (bytes_eq w v))
  where
    by_test : (bytes_eq w v ≡ true) ⊎ (bytes_eq w v ≡ false) → bytes_eq w v ≡ false
    by_test (inl same) = absurd (both_ways (list_all is_term_byte v) none (subst (λ (x : List ℕ). list_all is_term_byte x ≡ true) ((bytes_eq-Decides w v).0 same) clean))
    by_test (inr other) = other

pub given_read : (g : ℕ × Option PlainSum) → IsGiven g → given_of (loose_given g) ≡ Ok g
given_read (r, None) is = refl
given_read (r, Some t) is = rw (unlike (sum_text t) (codes "?") refl (term_clean t is.value), term_reads t is.value) refl

pub given_free : (g : ℕ × Option PlainSum) → IsGiven g → has_none 32 (given_text g) ≡ true
given_free g is = all_both _ (register_name g.0) (61 ∷ value_text g.1) (clean_free 32 refl (register_name g.0) (name_clean g.0 is.register)) (value_free g.1 is.value)

pub given_printable : (g : ℕ × Option PlainSum) → IsGiven g → are_printable (given_text g) ≡ true
given_printable g is = all_both _ (register_name g.0) (61 ∷ value_text g.1) (clean_printable (register_name g.0) (name_clean g.0 is.register)) (value_printable g.1 is.value)

-- ---- lists, and a separator before

pub each_seen : {X Y : Type 0} (P : X → Type 0) (text : X → List ℕ) (read : List ℕ → Option Y) (view : X → Y) → ((x : X) → P x → read (text x) ≡ Some (view x)) → (xs : List X) → Each P xs
    → each_at read (map text xs) ≡ Some (map view xs)
each_seen P text read view reads [] all = refl
each_seen P text read view reads (x ∷ xs) all = rw (reads x all.0, each_seen P text read view reads xs all.1) refl

pub each_read_again : {X Y : Type 0} (P : X → Type 0) (view : X → Y) (read : Y → Result X TextCause) → ((x : X) → P x → read (view x) ≡ Ok x) → (xs : List X) → Each P xs
    → each_read read (map view xs) ≡ Ok xs
each_read_again P view read reads [] all = refl
each_read_again P view read reads (x ∷ xs) all = rw (reads x all.0, each_read_again P view read reads xs all.1) refl

pub strip_none : (separator : ℕ) (w rest : List ℕ) → is_term_byte separator ≡ false → list_all is_term_byte w ≡ true → 0 < length w → strip (separator ∷ []) (w ++ rest) ≡ None
strip_none separator [] rest none clean pos = absurd (omega arith)
strip_none separator (b ∷ w) rest none clean pos =
    let h = and_parts (is_term_byte b) (list_all is_term_byte w) clean in
    let e = other_separator separator b none h.0 in
    rw e refl
