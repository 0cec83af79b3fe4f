-- The graph of functions that are all done.
use Rattle.std.proofs.Common.{◌≡◌, ◌<◌, ◌⊎◌, ℕ, Bool, true, false, cond, List, [], ◌∷◌, map, length, find, Option, Some, None, refl, sym, ap, ◌∙◌, subst, inl, inr, arith}
use Rattle.std.specs.Prelude.{All, IsSome, ◌==◌, is_some, if◌then◌else◌}
use Rattle.std.specs.List.{Contains, list_any}
use Rattle.std.specs.List.Sorted.{IsStrictlySortedBy}
use Rattle.std.specs.Option.{option_and_then}
use Rattle.std.specs.Ordering.{nat_cmp, is_eq, MatchOrdering}
use Rattle.std.specs.Cmp.{nat_cmp_is, nat_cmp_total, Equal-is, ranks}
use Rattle.std.specs.declared.cmp.Ordering.TheVariants.{Equal, Less, Greater}
use Rattle.std.specs.BTreeMap.{BTreeMap, get, is_at, IsOrdered}
use Rattle.std.specs.BTreeSet.{contains, btree_set_len}
use Rattle.std.specs.Map.{lookup, keys_of}
use Rattle.std.proofs.lemmas.Bool.{cases_Bool, false≢true, eqb-true, eq-eqb}
use Rattle.std.proofs.lemmas.Map.Lookups.{exact_unsigned}
use Rattle.std.proofs.lemmas.Map.Views.{btree_map_get_iff}
use Rattle.std.proofs.lemmas.List.Elements.{All-cons, All-nil, All-head, All-tail, All-weaker, All-contains_itself}
use Rattle.elf_image.specs.declared.image.Image.{Image}
use Rattle.elf_image.specs.Image.{is_code_at}
use Rattle.simulation.specs.Valid.{Valid, FunctionHolds}
use Rattle.simulation.specs.Graph.{callee, unless_refused}
use Rattle.graph_data.specs.declared.graph.Function.{Function}
use Rattle.graph_data.specs.declared.graph.Graph.{Graph}
use Rattle.graph_data.specs.Lookup.{function_at}
use Rattle.graph_data.specs.Parts.{Each, Ascends}
use Rattle.graph_data.specs.WellFormed.{IsFunction, IsWellFormed}
use Rattle.graph_runs.specs.World.{x86}
use Rattle.graph_rules.specs.Rules.{rules}
use Rattle.lifted_parts.specs.Exact.{IsExact}
use Rattle.lifted_parts.specs.Whole.{HasCallees}
use Rattle.function_lifter.specs.Whole.{IsLifted, IsOfEntry}
use Rattle.function_lifter.specs.Tasks.{IsPending, IsDone, IsTask}
use Rattle.function_lifter.specs.declared.functions.Task.{Task}

-- a number that is searched and a key
same_test : (n k : ℕ) → (k == n) ≡ is_eq (nat_cmp n k)
same_test n k = elim (cases_Bool (k == n)) as (λ _. (k == n) ≡ is_eq (nat_cmp n k)) [
  | inl same ↦
      let e : k ≡ n = eqb-true k n same in
      same ∙ subst (λ m. true ≡ is_eq (nat_cmp n m)) (sym e) (ap is_eq (nat_cmp_is n n Equal refl))
  | inr other ↦ elim (cases_Bool (is_eq (nat_cmp n k))) as (λ _. (k == n) ≡ is_eq (nat_cmp n k)) [
    | inr apart ↦ other ∙ sym apart
    | inl alike ↦
        let e : n ≡ k = exact_unsigned n k ((Equal-is (nat_cmp n k)).0 alike) in
        absurd (false≢true (sym other ∙ eq-eqb k n (sym e)))
  ]
]

less_is : (m n : ℕ) → nat_cmp m n ≡ Less → m < n
less_is m n e = subst (λ o. MatchOrdering o (m < n) (m ≡ n) (n < m)) e (ranks m n)

-- functions under their entries are found as the map finds them
found_by : (es : List (ℕ × Function)) (n : ℕ) → All (λ e. e.1.entry ≡ e.0) es → find (λ f. f.entry == n) (map (λ e. e.1) es) ≡ lookup (is_at (nat_cmp n)) es
found_by [] n all = refl
found_by (e ∷ es) n all =
    let here : e.1.entry ≡ e.0 = All-head (λ e. e.1.entry ≡ e.0) e es all in
    let test : (e.1.entry == n) ≡ is_at (nat_cmp n) e.0 = ap (λ k. k == n) here ∙ same_test n e.0 in
    let rest = found_by es n (All-tail (λ e. e.1.entry ≡ e.0) e es all) in
    ap (λ b. cond b (Some e.1) (find (λ f. f.entry == n) (map (λ e. e.1) es))) test
    ∙ ap (λ o. cond (is_at (nat_cmp n) e.0) (Some e.1) o) rest

-- what holds of each entry's value under its key holds of all entries
entries_all : {A : Type 0} (m : BTreeMap ℕ A) (P : ℕ × A → Type 0) → ((k : ℕ) (x : A) → get nat_cmp m k ≡ Some x → P (k, x)) → IsOrdered nat_cmp m → All P m.entries
entries_all m P h ordered =
    All-weaker (Contains m.entries) P (λ e there. h e.0 e.1 ((btree_map_get_iff nat_cmp_total exact_unsigned m ordered e.0 e.1).1 there)) m.entries (All-contains_itself m.entries)

module _ (image : Image) (externs : List ℕ) (t : Task) (task : IsTask image externs t) (waiting : btree_set_len t.waiting ≡ 0) (ordered : IsOrdered nat_cmp t.done) (g : Graph) (same : g.functions ≡ map (λ e. e.1) t.done.entries) where
  -- each entry has a function that is done
  done : All (λ e. IsDone image externs t e.0 e.1) t.done.entries
  done = entries_all t.done (λ e. IsDone image externs t e.0 e.1) task ordered

  named : (es : List (ℕ × Function)) → All (λ e. IsDone image externs t e.0 e.1) es → All (λ e. e.1.entry ≡ e.0) es
  named [] all = All-nil (λ e. e.1.entry ≡ e.0)
  named (e ∷ es) all =
      All-cons (λ e. e.1.entry ≡ e.0) e es (All-head (λ e. IsDone image externs t e.0 e.1) e es all).entry_is (named es (All-tail (λ e. IsDone image externs t e.0 e.1) e es all))

  found : (n : ℕ) → function_at g n ≡ get nat_cmp t.done n
  found n = ap (find (λ f. f.entry == n)) same ∙ found_by t.done.entries n (named t.done.entries done)

  none_waits : (xs : List ℕ) (n : ℕ) → length xs ≡ 0 → list_any (is_at (nat_cmp n)) xs ≡ true → ⊥
  none_waits [] n none there = false≢true there
  none_waits (x ∷ xs) n none there = omega (arith, none)

  -- what is pending is done
  pub pending_found : (n : ℕ) → IsPending t n → IsSome (function_at g n)
  pending_found n (inl there) = absurd (none_waits t.waiting.keys n waiting there)
  pending_found n (inr got) = subst IsSome (sym (found n)) got

  -- a function that is code isn't refused
  not_some : {A : Type 0} (o : Option A) → (IsSome o → ⊥) → is_some o ≡ false
  not_some None h = refl
  not_some (Some x) h = absurd (h refl)

  kept_callee : (f : Function) → is_some f.refused ≡ false → IsSome (if is_some f.refused then None else Some f)
  kept_callee f e = rw e refl

  callee_by : (n : ℕ) → is_code_at image n ≡ true → (o : Option Function) → get nat_cmp t.done n ≡ o → IsSome o → IsSome (option_and_then (unless_refused (x86 image)) o)
  callee_by n code None e some = absurd (false≢true some)
  callee_by n code (Some f) e some =
      let d = task n f e in
      kept_callee f (not_some f.refused (λ refused. false≢true (sym (d.lifted.of_entry.refused.0 refused) ∙ subst (λ m. is_code_at image m ≡ true) (sym d.entry_is) code)))

  callee_found : (n : ℕ) → is_code_at image n ≡ true → IsPending t n → IsSome (callee (x86 image) g n)
  callee_found n code pending =
      let some = subst IsSome (found n) (pending_found n pending) in
      subst (λ o. IsSome (option_and_then (unless_refused (x86 image)) o)) (sym (found n)) (callee_by n code (get nat_cmp t.done n) refl some)

  -- what holds of each function that is done holds of each of the graph
  each_function : (P : Function → Type 0) → ((e : ℕ) (f : Function) → IsDone image externs t e f → P f) → All P g.functions
  each_function P h = subst (All P) (sym same) (over t.done.entries done)
    where
      over : (es : List (ℕ × Function)) → All (λ e. IsDone image externs t e.0 e.1) es → All P (map (λ e. e.1) es)
      over [] all = All-nil P
      over (e ∷ es) all =
          All-cons P e.1 (map (λ e. e.1) es) (h e.0 e.1 (All-head (λ e. IsDone image externs t e.0 e.1) e es all)) (over es (All-tail (λ e. IsDone image externs t e.0 e.1) e es all))

  pub whole_exact : All (IsExact image) g.functions
  whole_exact = each_function (IsExact image) (λ e f d. d.lifted.exact)

  pub whole_of_entry : All (IsOfEntry image) g.functions
  whole_of_entry = each_function (IsOfEntry image) (λ e f d. d.lifted.of_entry)

  none_of : {A : Type 0} (o : Option A) → is_some o ≡ false → o ≡ None
  none_of None e = refl
  none_of (Some x) e = absurd (false≢true (sym e))

  has_callees : (f : Function) (e : ℕ) → IsDone image externs t e f → HasCallees image g f
  has_callees f e d s target member is = callee_found target (d.lifted.inside s target member is).0 (d.called s target member is)

  pub whole_valid : Valid (x86 image) (rules image) g
  whole_valid = each_function (λ f. is_some f.refused ≡ false → FunctionHolds (x86 image) (rules image) g f)
      (λ e f d unrefused. d.lifted.valid (none_of f.refused unrefused) g (has_callees f e d))

  each_of : (P : Function → Type 0) (fs : List Function) → All P fs → Each P fs
  each_of P [] all = tt
  each_of P (f ∷ fs) all = (All-head P f fs all, each_of P fs (All-tail P f fs all))

  -- keys that ascend
  ascends : (ks : List ℕ) → IsStrictlySortedBy nat_cmp ks → Ascends ks
  unfolding IsStrictlySortedBy
  ascends [] sorted = tt
  ascends (k ∷ []) sorted = tt
  ascends (k ∷ n ∷ ks) sorted = (less_is k n sorted.0.0, ascends (n ∷ ks) sorted.1)

  entries_of : (es : List (ℕ × Function)) → All (λ e. e.1.entry ≡ e.0) es → map (λ f. f.entry) (map (λ e. e.1) es) ≡ keys_of es
  entries_of [] all = refl
  entries_of (e ∷ es) all =
      let here = All-head (λ e. e.1.entry ≡ e.0) e es all in
      let rest = entries_of es (All-tail (λ e. e.1.entry ≡ e.0) e es all) in
      ap (λ k. k ∷ map (λ f. f.entry) (map (λ e. e.1) es)) here ∙ ap (λ ks. e.0 ∷ ks) rest

  pub whole_formed : IsWellFormed g
  whole_formed = record {
    functions = each_of IsFunction g.functions (each_function IsFunction (λ e f d. d.lifted.formed));
    ascending = subst Ascends (sym (ap (map (λ f. f.entry)) same ∙ entries_of t.done.entries (named t.done.entries done))) (ascends (keys_of t.done.entries) ordered);
  }

  pub whole_roots : (roots : List ℕ) → ((root : ℕ) → Contains roots root → IsPending t root) → All (λ root. IsSome (function_at g root)) roots
  whole_roots roots pending = All-weaker (Contains roots) (λ root. IsSome (function_at g root)) (λ root there. pending_found root (pending root there)) roots (All-contains_itself roots)
