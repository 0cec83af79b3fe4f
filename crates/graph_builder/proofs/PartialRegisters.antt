-- Registers that are given by number: those that aren't their own entry symbol are just these.
use Rattle.std.proofs.Common.{◌≡◌, ℕ, zero, suc, ◌+◌, ◌<◌, ◌≤◌, true, false, not, Option, Some, None, List, [], ◌∷◌, length, length-set, refl, sym, ap, ◌∙◌, arith, ltb-true}
use Rattle.std.specs.Prelude.{nat_lt, slice_set, IfSome}
use Rattle.std.specs.List.{enumerate_from, filter}
use Rattle.std.proofs.lemmas.Bool.{and_parts, cond-true, cond-false}
use Rattle.sym_terms.specs.declared.kinds.Sym.TheVariants.{Entry}
use Rattle.sym_terms.specs.Plain.{PlainSum, single_atom, symbol}
use Rattle.sym_terms.specs.Normal.{IsTerm}
use Rattle.graph_data.specs.Parts.{Each}
use Rattle.graph_data.specs.WellFormed.{IsKnown}
use Rattle.graph_data.proofs.PartLemmas.{each_push}
use Rattle.predicates.specs.Entry.{entry_registers}
use Rattle.graph_lines.specs.Line.{is_entry_value, IsGiven}
use Rattle.graph_builder.specs.Lines.{given_of}
use Rattle.graph_builder.specs.Partial.{filled, registers_of}
use Rattle.graph_builder.specs.Order.{registers_ascend}
use Rattle.graph_builder.proofs.PartialInvariant.{AreRegisters}

-- the first registers, counted from a number, have their own entry symbols
abbrev Own : ℕ → ℕ → List (Option PlainSum) → Type 0
Own n zero regs = Unit {0}
Own n (suc k) [] = Unit {0}
Own n (suc k) (r ∷ rs) = (is_entry_value (n, r) ≡ true) × Own (n + 1) k rs

own_less : (n j k : ℕ) (regs : List (Option PlainSum)) → j ≤ k → Own n k regs → Own n j regs
own_less n zero k regs le h = tt
own_less n (suc j) zero regs le h = absurd (omega (arith, le))
own_less n (suc j) (suc k) [] le h = tt
own_less n (suc j) (suc k) (r ∷ rs) le h = (h.0, own_less (n + 1) j k rs (omega (arith, le)) h.1)

-- a later register leaves them so
own_set : (n k i : ℕ) (v : Option PlainSum) (regs : List (Option PlainSum)) → k ≤ i → Own n k regs → Own n k (slice_set regs i v)
own_set n zero i v regs le h = tt
own_set n (suc k) i v [] le h = tt
own_set n (suc k) zero v (r ∷ rs) le h = absurd (omega (arith, le))
own_set n (suc k) (suc i) v (r ∷ rs) le h = (h.0, own_set (n + 1) k i v rs (omega (arith, le)) h.1)

-- those that aren't their own entry symbol, counted from a number
abbrev others : ℕ → List (Option PlainSum) → List (ℕ × Option PlainSum)
others n regs = filter (λ given. not (is_entry_value given)) (enumerate_from n regs)

-- one of the first registers more is before of the others
others_set : (n i m : ℕ) (v : Option PlainSum) (regs : List (Option PlainSum)) → m ≡ n + i → i < length regs → Own n (suc i) regs → is_entry_value (m, v) ≡ false
    → others n (slice_set regs i v) ≡ (m, v) ∷ others n regs
others_set n i m v [] is lt h o = absurd (omega (arith, lt))
others_set n zero m v (r ∷ rs) is lt h o =
    let same : n ≡ m = omega (arith, is) in
    let here : is_entry_value (n, v) ≡ false = ap (λ k. is_entry_value (k, v)) same ∙ o in
    cond-true (not (is_entry_value (n, v))) ((n, v) ∷ others (n + 1) rs) (others (n + 1) rs) (ap not here)
    ∙ ap (λ k. (k, v) ∷ others (n + 1) rs) same
    ∙ ap (λ more. (m, v) ∷ more) (sym (cond-false (not (is_entry_value (n, r))) ((n, r) ∷ others (n + 1) rs) (others (n + 1) rs) (ap not h.0)))
others_set n (suc i) m v (r ∷ rs) is lt h o =
    let next : m ≡ n + 1 + i = omega (arith, is) in
    cond-false (not (is_entry_value (n, r))) ((n, r) ∷ others (n + 1) (slice_set rs i v)) (others (n + 1) (slice_set rs i v)) (ap not h.0)
    ∙ others_set (n + 1) i m v rs next (omega (arith, lt)) h.1 o
    ∙ ap (λ more. (m, v) ∷ more) (sym (cond-false (not (is_entry_value (n, r))) ((n, r) ∷ others (n + 1) rs) (others (n + 1) rs) (ap not h.0)))

length_filled : (given : List (ℕ × Option PlainSum)) → length (filled given) ≡ 16
length_filled [] = refl
length_filled (g ∷ more) = length-set (filled more) g.0 g.1 ∙ length_filled more

own_entries : Own 0 16 (entry_registers 16)
own_entries = (refl, (refl, (refl, (refl, (refl, (refl, (refl, (refl, (refl, (refl, (refl, (refl, (refl, (refl, (refl, (refl, tt))))))))))))))))

-- the registers up to the first of those that are given have their own entry symbols after the others
own_filled : (g : ℕ × Option PlainSum) (more : List (ℕ × Option PlainSum)) → Each IsGiven (g ∷ more) → registers_ascend (g ∷ more) ≡ true → Own 0 (suc g.0) (filled more)
own_filled g [] h a = own_less 0 (suc g.0) 16 (entry_registers 16) (omega (arith, h.0.register)) own_entries
own_filled g (d ∷ more) h a =
    let parts = and_parts (nat_lt g.0 d.0) (registers_ascend (d ∷ more)) a in
    let lt = ltb-true g.0 d.0 parts.0 in
    let rest : Own 0 (suc g.0) (filled more) = own_less 0 (suc g.0) (suc d.0) (filled more) (omega (arith, lt)) (own_filled d more h.1 parts.1) in
    own_set 0 (suc g.0) d.0 d.1 (filled more) (omega (arith, lt)) rest

ascend_rest : (g : ℕ × Option PlainSum) (more : List (ℕ × Option PlainSum)) → registers_ascend (g ∷ more) ≡ true → registers_ascend more ≡ true
ascend_rest g [] a = refl
ascend_rest g (d ∷ more) a = (and_parts (nat_lt g.0 d.0) (registers_ascend (d ∷ more)) a).1

-- registers that are given are those that aren't their own entry symbol
pub given_filled : (given : List (ℕ × Option PlainSum)) → Each IsGiven given → registers_ascend given ≡ true → given_of (filled given) ≡ given
given_filled [] h a = refl
given_filled (g ∷ more) h a =
    let fits = length_filled more in
    others_set 0 g.0 g.0 g.1 (filled more) (omega arith) (omega (arith, fits, h.0.register)) (own_filled g more h a) h.0.other
    ∙ ap (λ rest. g ∷ rest) (given_filled more h.1 (ascend_rest g more a))

known_set : (regs : List (Option PlainSum)) (i : ℕ) (v : Option PlainSum) → Each IsKnown regs → IsKnown v → Each IsKnown (slice_set regs i v)
known_set [] i v h k = tt
known_set (r ∷ rs) zero v h k = (k, h.1)
known_set (r ∷ rs) (suc i) v h k = (h.0, known_set rs i v h.1 k)

-- entry symbols are terms
own_symbol : (r : ℕ) → r < 16 → IsTerm (single_atom (symbol (Entry r)))
own_symbol r lt = record { normal = (omega arith, (lt, omega arith, omega arith, tt, tt)); small = omega arith }

known_entries : (n : ℕ) → n ≤ 16 → Each IsKnown (entry_registers n)
known_entries zero le = tt
known_entries (suc n) le = each_push IsKnown (entry_registers n) (Some (single_atom (symbol (Entry n)))) (known_entries n (omega (arith, le))) (own_symbol n (omega (arith, le)))

known_filled : (given : List (ℕ × Option PlainSum)) → Each IsGiven given → Each IsKnown (filled given)
known_filled [] h = known_entries 16 (omega arith)
known_filled (g ∷ more) h = known_set (filled more) g.0 g.1 (known_filled more h.1) h.0.value

-- registers with those that are given are 16, each with a term where one is known
pub registers_filled : (given : List (ℕ × Option PlainSum)) → Each IsGiven given → AreRegisters (filled given)
registers_filled given h = (length_filled given, known_filled given h)

pub registers_closed : (regs : Option (List (Option PlainSum))) → IfSome regs AreRegisters → AreRegisters (registers_of regs)
registers_closed None h = registers_filled [] tt
registers_closed (Some regs) h = h
