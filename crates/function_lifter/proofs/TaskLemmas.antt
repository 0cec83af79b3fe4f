-- What is pending, and what is done, as entries are added and functions are put.
use Rattle.std.proofs.Common.{◌≡◌, ◌<◌, ◌+◌, ◌⊎◌, ℕ, zero, suc, [], ◌∷◌, length, slice_index_or, arith, Bool, true, false, cond, List, Option, Some, None, refl, sym, ap, ◌∙◌, subst, inl, inr}
use Rattle.std.specs.Prelude.{IsSome}
use Rattle.std.specs.List.{Contains}
use Rattle.std.specs.Ordering.{nat_cmp, is_eq}
use Rattle.std.specs.Cmp.{nat_cmp_is, Equal-is}
use Rattle.std.specs.declared.cmp.Ordering.TheVariants.{Equal}
use Rattle.std.specs.BTreeMap.{BTreeMap, get, is_at, Updates}
use Rattle.std.specs.BTreeSet.{BTreeSet, contains}
use Rattle.std.specs.BTreeSet as set
use Rattle.std.specs.Map.{lookup}
use Rattle.std.proofs.lemmas.Bool.{cases_Bool, cases_lt, false≢true}
use Rattle.std.proofs.lemmas.Map.Lookups.{exact_unsigned}
use Rattle.elf_image.specs.declared.image.Image.{Image}
use Rattle.graph_data.specs.declared.graph.Function.{Function}
use Rattle.function_lifter.specs.Whole.{IsLifted}
use Rattle.function_lifter.specs.Tasks.{IsPending, Keeps, CallsPending, IsDone, IsTask}
use Rattle.function_lifter.specs.declared.functions.Task.{Task}

-- keys at which a search stops are the one that is searched
at_same : (k n : ℕ) → is_at (nat_cmp k) n ≡ true → k ≡ n
at_same k n e = exact_unsigned k n ((Equal-is (nat_cmp k n)).0 e)

some_is : {A : Type 0} (o : Option A) (x : A) → o ≡ Some x → IsSome o
some_is None x e = absurd (let f : ⊥ = cc in f)
some_is (Some y) x e = refl

none_some : {A : Type 0} {x : A} → None ≡ Some x → ⊥
none_some e = let f : ⊥ = cc in f

some_of : {A : Type 0} (o : Option A) → IsSome o → (x : A) × (o ≡ Some x)
some_of None h = absurd (false≢true h)
some_of (Some x) h = (x, refl)

module _ (old new : Task) (entry : ℕ) where
  -- an entry that is added is to do
  pub waits : set.Updates nat_cmp old.waiting new.waiting entry true → IsPending new entry
  waits u = inl u.1

  -- and what is pending stays so
  kept_by : (n : ℕ) → set.Updates nat_cmp old.waiting new.waiting entry true → new.done ≡ old.done → IsPending old n → IsPending new n
  kept_by n u done (inr got) = inr (subst (λ d. IsSome (get nat_cmp d n)) (sym done) got)
  kept_by n u done (inl there) = elim (cases_Bool (is_at (nat_cmp entry) n)) as (λ _. IsPending new n) [
    | inl same ↦ inl (u.0 n ∙ ap (λ b. cond b true (contains nat_cmp old.waiting n)) same)
    | inr other ↦ inl (u.0 n ∙ ap (λ b. cond b true (contains nat_cmp old.waiting n)) other ∙ there)
  ]

  pub kept_waiting : set.Updates nat_cmp old.waiting new.waiting entry true → new.done ≡ old.done → Keeps old new
  kept_waiting u done n h = kept_by n u done h

  -- an entry whose function is done may go
  struck : (n : ℕ) → set.Updates nat_cmp old.waiting new.waiting entry false → new.done ≡ old.done → IsSome (get nat_cmp old.done entry) → IsPending old n → IsPending new n
  struck n u done got (inr has) = inr (subst (λ d. IsSome (get nat_cmp d n)) (sym done) has)
  struck n u done got (inl there) = elim (cases_Bool (is_at (nat_cmp entry) n)) as (λ _. IsPending new n) [
    | inl same ↦ inr (subst (λ d. IsSome (get nat_cmp d n)) (sym done) (subst (λ k. IsSome (get nat_cmp old.done k)) (at_same entry n same) got))
    | inr other ↦ inl (u.0 n ∙ ap (λ b. cond b false (contains nat_cmp old.waiting n)) other ∙ there)
  ]

  pub kept_done : IsSome (get nat_cmp old.done entry) → set.Updates nat_cmp old.waiting new.waiting entry false → new.done ≡ old.done → Keeps old new
  kept_done got u done n h = struck n u done got h

-- a function without sites calls nothing
pub calls_nothing : (t : Task) (f : Function) → f.sites ≡ [] → CallsPending t f
calls_nothing t f none s target member is = absurd (let m = subst (λ sites. Contains sites s) none member in omega (arith, m.1))

-- what stands at a place of a list is one thing
at_any : (xs : List ℕ) (k d e : ℕ) → k < length xs → slice_index_or xs k d ≡ slice_index_or xs k e
at_any [] k d e l = absurd (omega (arith, l))
at_any (x ∷ xs) zero d e l = refl
at_any (x ∷ xs) (suc k) d e l = at_any xs k d e (omega (arith, l))

-- what holds at the first places and at the next one
pub one_more : (P : ℕ → Type 0) (xs : List ℕ) (i e : ℕ) → i < length xs → ((k d : ℕ) → k < i → P (slice_index_or xs k d)) → P (slice_index_or xs i e) → (k d : ℕ) → k < i + 1 → P (slice_index_or xs k d)
one_more P xs i e l before here k d below = elim (cases_lt k i) as (λ _. P (slice_index_or xs k d)) [
  | inl lower ↦ before k d lower
  | inr upper ↦ (let same : i ≡ k = omega (arith, below, upper) in subst (λ m. P (slice_index_or xs m d)) same (subst P (at_any xs i e d l) here))
]

-- tasks with the same functions and entries to do
pub keeps_trans : (a b c : Task) → Keeps a b → Keeps b c → Keeps a c
keeps_trans a b c h k n p = k n (h n p)

pub keeps_refl : (a : Task) → Keeps a a
keeps_refl a n p = p

-- what is done stays where more is pending
pub task_kept : (image : Image) (externs : List ℕ) (old new : Task) → new.done ≡ old.done → Keeps old new → IsTask image externs old → IsTask image externs new
task_kept image externs old new done keeps task entry f got =
    let d = task entry f (subst (λ m. get nat_cmp m entry ≡ Some f) done got) in
    record { entry_is = d.entry_is; lifted = d.lifted; called = λ s target member is. keeps target (d.called s target member is) }

module _ (old new : Task) (f : Function) (u : Updates nat_cmp old.done new.done f.entry (Some f)) (waiting : new.waiting ≡ old.waiting) where
  -- the function that is put is done
  pub put_done : IsSome (get nat_cmp new.done f.entry)
  put_done = some_is (get nat_cmp new.done f.entry) f u.1

  put_by : (n : ℕ) → IsPending old n → IsPending new n
  put_by n (inl there) = inl (subst (λ w. contains nat_cmp w n ≡ true) (sym waiting) there)
  put_by n (inr got) = elim (cases_Bool (is_at (nat_cmp f.entry) n)) as (λ _. IsPending new n) [
    | inl same ↦ inr (some_is (get nat_cmp new.done n) f (u.0 n ∙ ap (λ b. cond b (Some f) (get nat_cmp old.done n)) same))
    | inr other ↦ inr (subst IsSome (sym (u.0 n ∙ ap (λ b. cond b (Some f) (get nat_cmp old.done n)) other)) got)
  ]

  pub put_keeps : Keeps old new
  put_keeps n h = put_by n h

  module _ (image : Image) (externs : List ℕ) (lifted : IsLifted image externs f) (called : CallsPending old f) where
    put_is : (entry : ℕ) (g : Function) → f.entry ≡ entry → f ≡ g → IsDone image externs new entry g
    put_is entry g at same = subst (λ h. IsDone image externs new entry h) same
        (record { entry_is = at; lifted = lifted; called = λ s target member is. put_keeps target (called s target member is) })

    -- and so all are
    pub put_task : IsTask image externs old → IsTask image externs new
    put_task task entry g got = elim (cases_Bool (is_at (nat_cmp f.entry) entry)) as (λ _. IsDone image externs new entry g) [
      | inl same ↦
          let there : Some f ≡ Some g = sym (u.0 entry ∙ ap (λ b. cond b (Some f) (get nat_cmp old.done entry)) same) ∙ got in
          let e : f ≡ g = cc in
          put_is entry g (at_same f.entry entry same) e
      | inr other ↦
          let d = task entry g (sym (u.0 entry ∙ ap (λ b. cond b (Some f) (get nat_cmp old.done entry)) other) ∙ got) in
          record { entry_is = d.entry_is; lifted = d.lifted; called = λ s target member is. put_keeps target (d.called s target member is) }
    ]

-- nothing is done of an empty map
pub none_done : (image : Image) (externs : List ℕ) (t : Task) → t.done.entries ≡ [] → IsTask image externs t
none_done image externs t none entry f got =
    let empty : lookup (is_at (nat_cmp entry)) t.done.entries ≡ None = ap (lookup (is_at (nat_cmp entry))) none in
    absurd (let f : None ≡ Some f = sym empty ∙ got in none_some f)
