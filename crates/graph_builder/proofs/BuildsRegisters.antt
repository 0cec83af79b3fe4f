-- The registers that a line gives, among those that have their entry symbols.
use Rattle.std.proofs.Common.{◌≡◌, ℕ, suc, ◌+◌, ◌<◌, ◌≤◌, Bool, true, false, not, cond, List, [], ◌∷◌, ◌++◌, length, set, append-nil, append_assoc, Option, Some, None, refl, sym, ap, ◌∙◌, add-one, arith}
use Rattle.std.specs.Prelude.{nat_lt}
use Rattle.std.specs.List.{enumerate_from, filter}
use Rattle.std.proofs.lemmas.Bool.{and_from, lt-ltb}
use Rattle.std.proofs.lemmas.List.{set_at}
use Rattle.sym_terms.specs.declared.kinds.Sym.TheVariants.{Entry}
use Rattle.sym_terms.specs.Plain.{PlainSum, single_atom, symbol}
use Rattle.sym_terms.specs.Order.{sum_cmp}
use Rattle.sym_terms.specs.Codes.{sum_same}
use Rattle.mem_forest.proofs.SingleLemmas.{equal_from}
use Rattle.predicates.specs.Bounds.{in_order}
use Rattle.predicates.specs.Entry.{entry_registers}
use Rattle.predicates.proofs.EntryLemmas.{length_entries}
use Rattle.graph_data.specs.Parts.{Each}
use Rattle.graph_data.specs.WellFormed.{IsKnown}
use Rattle.graph_lines.specs.Line.{is_entry_value, IsGiven}
use Rattle.graph_builder.specs.Lines.{given_of}
use Rattle.graph_builder.specs.Partial.{filled}
use Rattle.graph_builder.specs.Order.{registers_ascend}

-- whether a register is given
abbrev is_given : ℕ × Option PlainSum → Bool
is_given given = not (is_entry_value given)

-- those that are given, by number from one on
abbrev pub given_from : ℕ → List (Option PlainSum) → List (ℕ × Option PlainSum)
given_from n regs = filter (λ given. not (is_entry_value given)) (enumerate_from n regs)

own_is : (n : ℕ) (x : Option PlainSum) → is_entry_value (n, x) ≡ true → x ≡ Some (single_atom (symbol (Entry n)))
own_is n None e = absurd (cc)
own_is n (Some t) e = ap Some (sum_same t (single_atom (symbol (Entry n))) (equal_from (sum_cmp t (single_atom (symbol (Entry n)))) e))

-- the registers before one, which have their entry symbols, and those from it on
one_filled : (n : ℕ) (x : Option PlainSum) (xs : List (Option PlainSum)) (own : Bool) → is_entry_value (n, x) ≡ own
    → filled (given_from (n + 1) xs) ≡ entry_registers (n + 1) ++ xs
    → filled (cond (not own) ((n, x) ∷ given_from (n + 1) xs) (given_from (n + 1) xs)) ≡ entry_registers n ++ x ∷ xs
one_filled n x xs true own e =
    e ∙ ap (λ m. entry_registers m ++ xs) (add-one n) ∙ append_assoc (entry_registers n) (Some (single_atom (symbol (Entry n))) ∷ []) xs
    ∙ ap (λ y. entry_registers n ++ y ∷ xs) (sym (own_is n x own))
one_filled n x xs false own e =
    ap (λ l. set l n x) (e ∙ ap (λ m. entry_registers m ++ xs) (add-one n) ∙ append_assoc (entry_registers n) (Some (single_atom (symbol (Entry n))) ∷ []) xs)
    ∙ set_at (entry_registers n) (Some (single_atom (symbol (Entry n)))) xs x n (length_entries n)

filled_from : (n : ℕ) (xs : List (Option PlainSum)) → n + length xs ≡ 16 → filled (given_from n xs) ≡ entry_registers n ++ xs
filled_from n [] e =
    let all : 16 ≡ n = omega (arith, e) in
    ap entry_registers all ∙ sym (append-nil (entry_registers n))
filled_from n (x ∷ xs) e = one_filled n x xs (is_entry_value (n, x)) refl (filled_from (n + 1) xs (omega (arith, e)))

-- the registers that are given make the registers
pub filled_given : (regs : List (Option PlainSum)) → length regs ≡ 16 → filled (given_of regs) ≡ regs
filled_given regs e = filled_from 0 regs (omega (arith, e))

-- ---- their order

abbrev by_number : ℕ × Option PlainSum → ℕ × Option PlainSum → Bool
by_number a b = nat_lt a.0 b.0

after_by : (a : ℕ × Option PlainSum) (n : ℕ) (x : Option PlainSum) (more : List (ℕ × Option PlainSum)) (t : Bool) → a.0 < n
    → in_order by_number ((n, x) ∷ more) ≡ true → in_order by_number (a ∷ more) ≡ true → in_order by_number (a ∷ cond t ((n, x) ∷ more) more) ≡ true
after_by a n x more true h e f = and_from (nat_lt a.0 n) (in_order by_number ((n, x) ∷ more)) (lt-ltb a.0 n h) e
after_by a n x more false h e f = f

after : (a : ℕ × Option PlainSum) (n : ℕ) (xs : List (Option PlainSum)) → a.0 < n → in_order by_number (a ∷ given_from n xs) ≡ true
after a n [] h = refl
after a n (x ∷ xs) h =
    after_by a n x (given_from (n + 1) xs) (is_given (n, x)) h (after (n, x) (n + 1) xs (omega arith)) (after a (n + 1) xs (omega (arith, h)))

ascend_by : (n : ℕ) (x : Option PlainSum) (more : List (ℕ × Option PlainSum)) (t : Bool)
    → in_order by_number ((n, x) ∷ more) ≡ true → in_order by_number more ≡ true → in_order by_number (cond t ((n, x) ∷ more) more) ≡ true
ascend_by n x more true e f = e
ascend_by n x more false e f = f

ascend_from : (n : ℕ) (xs : List (Option PlainSum)) → in_order by_number (given_from n xs) ≡ true
ascend_from n [] = refl
ascend_from n (x ∷ xs) = ascend_by n x (given_from (n + 1) xs) (is_given (n, x)) (after (n, x) (n + 1) xs (omega arith)) (ascend_from (n + 1) xs)

-- those that are given ascend
pub given_ascends : (regs : List (Option PlainSum)) → registers_ascend (given_of regs) ≡ true
given_ascends regs = ascend_from 0 regs

-- ---- each of them

each_by : (n : ℕ) (x : Option PlainSum) (more : List (ℕ × Option PlainSum)) (own : Bool) → is_entry_value (n, x) ≡ own → n < 16 → IsKnown x
    → Each IsGiven more → Each IsGiven (cond (not own) ((n, x) ∷ more) more)
each_by n x more true own h k each = each
each_by n x more false own h k each = (record { register = h; value = k; other = own }, each)

each_from : (n : ℕ) (xs : List (Option PlainSum)) → n + length xs ≤ 16 → Each IsKnown xs → Each IsGiven (given_from n xs)
each_from n [] h k = tt
each_from n (x ∷ xs) h k = each_by n x (given_from (n + 1) xs) (is_entry_value (n, x)) refl (omega (arith, h)) k.0 (each_from (n + 1) xs (omega (arith, h)) k.1)

pub given_each : (regs : List (Option PlainSum)) → length regs ≡ 16 → Each IsKnown regs → Each IsGiven (given_of regs)
given_each regs e k = each_from 0 regs (omega (arith, e)) k

few_by : (x : ℕ × Option PlainSum) (more : List (ℕ × Option PlainSum)) (t : Bool) → length (cond t (x ∷ more) more) ≤ suc (length more)
few_by x more true = omega arith
few_by x more false = omega arith

few_from : (n : ℕ) (xs : List (Option PlainSum)) → length (given_from n xs) ≤ length xs
few_from n [] = omega arith
few_from n (x ∷ xs) = omega (arith, few_by (n, x) (given_from (n + 1) xs) (is_given (n, x)), few_from (n + 1) xs)

-- they are no more than the registers
pub given_few : (regs : List (Option PlainSum)) → length (given_of regs) ≤ length regs
given_few regs = few_from 0 regs
