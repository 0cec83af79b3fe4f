-- Terms that are read from the left: all of them are, or the first that is at fault tells the cause.
use Rattle.std.proofs.Common.{◌≡◌, ℕ, Bool, true, false, if◌then◌else◌, List, [], ◌∷◌, ◌++◌, Option, Some, None, Result, Ok, Err, inl, inr, refl, sym, ap, ◌∙◌, codes}
use Rattle.std.specs.List.{flat_map}
use Rattle.std.specs.Str.{bytes_eq}
use Rattle.bits_core.specs.declared.width.Width.{Width}
use Rattle.sym_terms.specs.Plain.{PlainSum}
use Rattle.predicates.specs.declared.bound.Values.{Values}
use Rattle.term_text.specs.declared.cause.TextCause.{TextCause}
use Rattle.term_text.specs.declared.cause.TextCause.TheVariants.{BadHead, BadLine, OutOfOrder, Unended, NoMemory}
use Rattle.term_text.specs.Reading.{IsTermReading, term_at}
use Rattle.term_text.proofs.ReadingLemmas.{term_at_law}
use Rattle.graph_data.specs.Parts.{Each}
use Rattle.graph_lines.specs.Then.{and_then}
use Rattle.graph_lines.specs.Steps.{each_read, region_of, pair_of, given_of, fact_of, bound_of, value_of, node_of}
use Rattle.graph_lines.specs.Reading.{IsTermText, IsFirstFault}
use Rattle.graph_lines.proofs.PartForms.{region_place, entry_place}
use Rattle.graph_lines.proofs.SetForms.{value_place, node_places}
use Rattle.graph_lines.proofs.LineForms.{region_places, fact_places, bound_place}

-- what a reading of words from the left tells
abbrev pub Tells : {A : Type 0} → List (List ℕ) → Result A TextCause → Type 0
Tells words (Ok x) = Each IsTermText words
Tells words (Err cause) = IsFirstFault cause words

-- ---- faults

-- a word is not at fault and the text of a term
fault_or_text : (cause : TextCause) (word : List ℕ) → IsTermReading word (Err cause) → IsTermText word → ⊥
fault_or_text cause word fault text =
    let e = sym ((term_at_law word (Err cause)).1 fault) ∙ (term_at_law word (Ok text.0)).1 text.1 in
    absurd (cc)

-- where all words are texts of terms none is at fault
pub fault_or_all : (cause : TextCause) (words : List (List ℕ)) → IsFirstFault cause words → Each IsTermText words → ⊥
fault_or_all cause [] fault all = fault
fault_or_all cause (w ∷ ws) (inl fault) all = fault_or_text cause w fault all.0
fault_or_all cause (w ∷ ws) (inr more) all = fault_or_all cause ws more.1 all.1

-- the first fault is one
faults_same : (c d : TextCause) (words : List (List ℕ)) → IsFirstFault c words → IsFirstFault d words → c ≡ d
faults_same c d [] f g = absurd f
faults_same c d (w ∷ ws) (inl f) (inl g) =
    let e : Err c ≡ Err d = sym ((term_at_law w (Err c)).1 f) ∙ (term_at_law w (Err d)).1 g in cc
faults_same c d (w ∷ ws) (inl f) (inr g) = absurd (fault_or_text c w f g.0)
faults_same c d (w ∷ ws) (inr f) (inl g) = absurd (fault_or_text d w g f.0)
faults_same c d (w ∷ ws) (inr f) (inr g) = faults_same c d ws f.1 g.1

-- what is told where a word is at fault
pub fault_is : {A : Type 0} (cause : TextCause) (words : List (List ℕ)) (r : Result A TextCause) → Tells words r → IsFirstFault cause words
    → r ≡ Err cause
fault_is cause words (Ok x) all fault = absurd (fault_or_all cause words fault all)
fault_is cause words (Err d) told fault = ap Err (faults_same d cause words told fault)

-- and where none is
pub all_is : {A : Type 0} (words : List (List ℕ)) (r : Result A TextCause) → Tells words r → Each IsTermText words → (x : A) × (r ≡ Ok x)
all_is words (Ok x) told all = (x, refl)
all_is words (Err d) told all = absurd (fault_or_all d words told all)

-- no word is at fault with a cause of lines or texts
pub no_line_fault : (words : List (List ℕ)) → IsFirstFault BadLine words → ⊥
no_line_fault [] f = f
no_line_fault (w ∷ ws) (inl f) = f
no_line_fault (w ∷ ws) (inr f) = no_line_fault ws f.1

pub no_head_fault : (words : List (List ℕ)) → IsFirstFault BadHead words → ⊥
no_head_fault [] f = f
no_head_fault (w ∷ ws) (inl f) = f
no_head_fault (w ∷ ws) (inr f) = no_head_fault ws f.1

pub no_order_fault : (words : List (List ℕ)) → IsFirstFault OutOfOrder words → ⊥
no_order_fault [] f = f
no_order_fault (w ∷ ws) (inl f) = f
no_order_fault (w ∷ ws) (inr f) = no_order_fault ws f.1

pub no_end_fault : (words : List (List ℕ)) → IsFirstFault Unended words → ⊥
no_end_fault [] f = f
no_end_fault (w ∷ ws) (inl f) = f
no_end_fault (w ∷ ws) (inr f) = no_end_fault ws f.1

pub no_memory_fault : (words : List (List ℕ)) → IsFirstFault NoMemory words → ⊥
no_memory_fault [] f = f
no_memory_fault (w ∷ ws) (inl f) = f
no_memory_fault (w ∷ ws) (inr f) = no_memory_fault ws f.1

-- ---- readings one after another

-- a word alone
term_tells : (w : List ℕ) → Tells (w ∷ []) (term_at w)
term_tells w = by_read (term_at w) ((term_at_law w (term_at w)).0 refl)
  where
    by_read : (r : Result PlainSum TextCause) → IsTermReading w r → Tells (w ∷ []) r
    by_read (Ok t) is = ((t, is), tt)
    by_read (Err cause) is = inl is

-- words, and what is told of more words after them
more_tells : {A : Type 0} (v w : List (List ℕ)) (r : Result A TextCause) → Each IsTermText v → Tells w r → Tells (v ++ w) r
more_tells {A} [] w r all told = told
more_tells {A} (x ∷ v) w (Ok y) all told = (all.0, more_tells {A = A} v w (Ok y) all.1 told)
more_tells {A} (x ∷ v) w (Err cause) all told = inr (all.0, more_tells {A = A} v w (Err cause) all.1 told)

-- a fault stays the first
fault_stays : (cause : TextCause) (v w : List (List ℕ)) → IsFirstFault cause v → IsFirstFault cause (v ++ w)
fault_stays cause [] w f = absurd f
fault_stays cause (x ∷ v) w (inl f) = inl f
fault_stays cause (x ∷ v) w (inr f) = inr (f.0, fault_stays cause v w f.1)

-- one reading and then another
then_tells : {A B : Type 0} (v w : List (List ℕ)) (r : Result A TextCause) (f : A → Result B TextCause) → Tells v r
    → ((x : A) → Tells w (f x)) → Tells (v ++ w) (and_then r f)
then_tells v w (Ok x) f told next = more_tells v w (f x) told (next x)
then_tells v w (Err cause) f told next = fault_stays cause v w told

-- a list
pub each_tells : {A B : Type 0} (places : A → List (List ℕ)) (read : A → Result B TextCause) → ((x : A) → Tells (places x) (read x))
    → (xs : List A) → Tells (flat_map places xs) (each_read read xs)
each_tells places read tells [] = tt
each_tells places read tells (x ∷ xs) =
    then_tells (places x) (flat_map places xs) (read x) (λ y. and_then (each_read read xs) (λ ys. Ok (y ∷ ys))) (tells x)
    (λ y. keep (flat_map places xs) (each_read read xs) (λ ys. y ∷ ys) (each_tells places read tells xs))
  where
    keep : {C D : Type 0} (words : List (List ℕ)) (r : Result C TextCause) (f : C → D) → Tells words r → Tells words (and_then r (λ c. Ok (f c)))
    keep words (Ok c) f told = told
    keep words (Err cause) f told = told

-- a reading whose value is put to use
pub kept_tells : {A B : Type 0} (words : List (List ℕ)) (r : Result A TextCause) (f : A → B) → Tells words r → Tells words (and_then r (λ x. Ok (f x)))
kept_tells words (Ok x) f told = told
kept_tells words (Err cause) f told = told

-- ---- the parts of lines

-- a region
pub region_tells : (r : List ℕ × ℕ) → Tells (region_place r) (region_of r)
region_tells r = kept_tells (r.0 ∷ []) (term_at r.0) (λ t. record { at = t; bytes = r.1 }) (term_tells r.0)

-- two regions
pub pair_tells : (p : (List ℕ × ℕ) × (List ℕ × ℕ)) → Tells (region_places p) (pair_of p)
pair_tells p =
    then_tells (p.0.0 ∷ []) (p.1.0 ∷ []) (region_of p.0) (λ a. and_then (region_of p.1) (λ b. Ok (a, b))) (region_tells p.0)
    (λ a. kept_tells (p.1.0 ∷ []) (region_of p.1) (λ b. (a, b)) (region_tells p.1))

-- an entry
pub given_tells : (g : ℕ × List ℕ) → Tells (entry_place g) (given_of g)
given_tells g = by_same (bytes_eq g.1 (codes "?"))
  where
    by_same : (b : Bool) → Tells {A = ℕ × Option PlainSum} (if b then [] else g.1 ∷ []) (if b then Ok (g.0, None) else and_then (term_at g.1) (λ t. Ok (g.0, Some t)))
    by_same true = tt
    by_same false = kept_tells (g.1 ∷ []) (term_at g.1) (λ t. (g.0, Some t)) (term_tells g.1)

-- a flag fact
pub fact_tells : (f : Width × (List ℕ × List ℕ)) → Tells (fact_places f) (fact_of f)
fact_tells f =
    then_tells (f.1.0 ∷ []) (f.1.1 ∷ []) (term_at f.1.0) _ (term_tells f.1.0)
    (λ l. kept_tells (f.1.1 ∷ []) (term_at f.1.1) _ (term_tells f.1.1))

-- a bound
pub bound_tells : (b : List ℕ × Values) → Tells (bound_place b) (bound_of b)
bound_tells b = kept_tells (b.0 ∷ []) (term_at b.0) _ (term_tells b.0)

-- the value of a node
value_tells : (v : Option (List ℕ)) → Tells (value_place v) (value_of v)
value_tells None = tt
value_tells (Some w) = kept_tells (w ∷ []) (term_at w) (λ t. Some t) (term_tells w)

-- words one by one
names_tell : (ws : List (List ℕ)) → Tells ws (each_read term_at ws)
names_tell [] = tt
names_tell (w ∷ ws) =
    then_tells (w ∷ []) ws (term_at w) (λ y. and_then (each_read term_at ws) (λ ys. Ok (y ∷ ys))) (term_tells w)
    (λ y. kept_tells ws (each_read term_at ws) (λ ys. y ∷ ys) (names_tell ws))

-- a node
pub node_tells : (n : List (List ℕ) × (ℕ × Option (List ℕ))) → Tells (node_places n) (node_of n)
node_tells n =
    then_tells n.0 (value_place n.1.1) (each_read term_at n.0) _ (names_tell n.0)
    (λ names. kept_tells (value_place n.1.1) (value_of n.1.1) _ (value_tells n.1.1))
