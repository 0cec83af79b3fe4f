-- Whether vertices tell where a jump goes.
use Rattle.std.proofs.Common.{◌≡◌, ◌<◌, ◌≤◌, ◌↔◌, ℕ, zero, suc, ◌+◌, Bool, true, false, List, [], ◌∷◌, ◌++◌, Option, Some, None, map, length, take, get_or, refl, sym, ap, ◌∙◌, subst, arith}
use Rattle.std.specs.Prelude.{IfSome, IsTrue, is_some}
use Rattle.std.specs.List.{All}
use Rattle.std.specs.Option.{option_map}
use Rattle.std.proofs.lemmas.List.{map-append}
use Rattle.std.proofs.lemmas.List.Elements.{All-nil, All-cons, All-head, All-tail, All-append, All-same}
use Rattle.sym_terms.specs.Plain.{PlainSum}
use Rattle.term_bank.specs.Terms.{Grows}
use Rattle.predicates.specs.Predicate.{Predicate}
use Rattle.bank_values.specs.declared.pred.BankPred.{BankPred}
use Rattle.bank_values.specs.ReadBack.{predicate_at}
use Rattle.x86_instr.specs.declared.instr.Instr.{Instr}
use Rattle.instr_at.specs.At.{instr_at}
use Rattle.step_rules.specs.View.{View}
use Rattle.lift_rounds.specs.declared.data.Made.{Made}
use Rattle.lift_rounds.specs.Known.{Known, IsHeld, pred_at, reading}
use Rattle.lift_rounds.proofs.ReadingLemmas.{reading_grows}
use Rattle.site_lines.specs.Subject.{Subject}
use Rattle.site_lines.specs.Kinds.{bare_view}
use Rattle.image_steps.specs.Tells.{gives_cases, tells, AllPass}
use Rattle.image_steps.specs.Walks.{IsNumbered}
use Rattle.image_steps.specs.WalkLaws.{walk_reads}
use Rattle.image_steps.proofs.KnownLemmas.{take_more}

-- a value stays one when it is mapped
pub given : {A C : Type 0} (f : A → C) (o : Option A) → is_some (option_map f o) ≡ is_some o
given f None = refl
given f (Some x) = refl

-- a vertex passes the test, if something is known of it
abbrev pub Passes : (Predicate → Bool) → Option Predicate → Type 0
Passes test k = IfSome k (λ p. test p ≡ true)

-- nothing known passes each test
pub told_nothing : (test : Predicate → Bool) (k : Option Predicate) → k ≡ None → IsTrue true ↔ Passes test k
told_nothing test k e = subst (λ o. IsTrue true ↔ Passes test o) (sym e) (λ h. tt, λ h. refl)

-- what is known passes as its test says
pub told_some : (test : Predicate → Bool) (p : Predicate) (r : Bool) → r ≡ test p → IsTrue r ↔ Passes test (Some p)
told_some test p r e = (λ h. sym e ∙ h, λ h. e ∙ h)

-- what is known reads the same where there are more terms
pub known_same : (old new : List PlainSum) (xs : List (Made BankPred)) → Grows old new → All (λ m. IsHeld (IsNumbered old) m) xs → reading (predicate_at new) xs ≡ reading (predicate_at old) xs
known_same old new xs g h = reading_grows (IsNumbered old) (predicate_at old) (predicate_at new) (λ p k. walk_reads old new p g k) xs h

-- what a vertex told where there are more terms is what it tells
pub told_back : (test : Predicate → Bool) (old new : List PlainSum) (made : List (Made BankPred)) (v : ℕ) (r : Bool) → Grows old new → All (λ m. IsHeld (IsNumbered old) m) made → IsTrue r ↔ Passes test (pred_at (reading (predicate_at new) made) v) → IsTrue r ↔ Passes test (pred_at (reading (predicate_at old) made) v)
told_back test old new made v r g h told = subst (λ (xs : List (Known Predicate)). IsTrue r ↔ Passes test (pred_at xs v)) (known_same old new made g h) told

-- one of them all
pub pass_at : (test : Predicate → Bool) (f : ℕ → Option Predicate) (site : List ℕ) (i d : ℕ) → i < length site → AllPass test (map f site) → Passes test (f (get_or site i d))
pass_at test f [] i d l h = absurd (omega (arith, l))
pass_at test f (v ∷ vs) zero d l h = All-head (Passes test) (f v) (map f vs) h
pass_at test f (v ∷ vs) (suc i) d l h = pass_at test f vs i d (omega (arith, l)) (All-tail (Passes test) (f v) (map f vs) h)

-- one more of them
pub pass_more : (test : Predicate → Bool) (f : ℕ → Option Predicate) (site : List ℕ) (i d : ℕ) → i < length site → AllPass test (map f (take i site)) → Passes test (f (get_or site i d)) → AllPass test (map f (take (i + 1) site))
pass_more test f site i d l h k =
    let one = All-cons (Passes test) (f (get_or site i d)) [] k (All-nil (Passes test)) in
    let e = ap (map f) (take_more site i d l) ∙ map-append f (take i site) (get_or site i d ∷ []) in
    All-same (Passes test) (map f (take (i + 1) site)) (map f (take i site) ++ f (get_or site i d) ∷ []) e
    (All-append (Passes test) (map f (take i site)) (f (get_or site i d) ∷ []) h one)

-- where one doesn't pass not all do
pub none_passes : (test : Predicate → Bool) (f : ℕ → Option Predicate) (site : List ℕ) (i d : ℕ) (r : Bool) → i < length site → IsTrue r ↔ Passes test (f (get_or site i d)) → r ≡ false → IsTrue false ↔ AllPass test (map f site)
none_passes test f site i d r l told e = (λ h. absurd (let z : ⊥ = cc in z), λ all. sym e ∙ told.1 (pass_at test f site i d l all))

take_past : {A : Type 0} (xs : List A) (i : ℕ) → length xs ≤ i → take i xs ≡ xs
take_past [] zero h = refl
take_past [] (suc i) h = refl
take_past (x ∷ xs) zero h = absurd (omega (arith, h))
take_past (x ∷ xs) (suc i) h = ap (λ ys. x ∷ ys) (take_past xs i (omega (arith, h)))

-- where the last was taken all pass
pub all_passed : (test : Predicate → Bool) (f : ℕ → Option Predicate) (site : List ℕ) (i : ℕ) → length site ≤ i → AllPass test (map f (take i site)) → IsTrue true ↔ AllPass test (map f site)
all_passed test f site i l h = (λ e. subst (λ (vs : List ℕ). AllPass test (map f vs)) (take_past site i l) h, λ all. refl)

-- the same of the instruction at an address
pub told_at : (s : Subject) (address : ℕ) (view : View) (i : Option Instr) (known : List (Option Predicate)) (r : Bool) → view ≡ bare_view s.image → i ≡ instr_at s.image address → IsTrue r ↔ AllPass (gives_cases view i) known → IsTrue r ↔ AllPass (tells s address) known
told_at s address view i known r e f h =
    subst (λ (j : Option Instr). IsTrue r ↔ AllPass (gives_cases (bare_view s.image) j) known) f
    (subst (λ (v : View). IsTrue r ↔ AllPass (gives_cases v i) known) e h)
