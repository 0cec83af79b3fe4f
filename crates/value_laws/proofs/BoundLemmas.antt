-- What a condition that holds says of a compared term.
use Rattle.std.proofs.Common.{◌≡◌, ◌≢◌, ℕ, ◌+◌, ◌-◌, ◌/◌, ◌%◌, ◌^◌, ◌<◌, ◌≤◌, Bool, true, false, not, ◌&&◌, ◌||◌, cond, eqb, ltb, leb, Option, Some, None, List, [], ◌∷◌, length, max, min, refl, sym, ap, subst, ◌∙◌, arith}
use Rattle.std.proofs.lemmas.Bool.{cond_both, eqb-true, eqb-false, ltb-true, leb-true}
use Rattle.std.proofs.lemmas.List.Elements.{All-cons, All-head, All-tail}
use Rattle.std.specs.Prelude.{IfSome, All}
use Rattle.std.specs.List.{Contains}
use Rattle.std.specs.declared.cmp.Ordering.{Ordering}
use Rattle.std.specs.declared.cmp.Ordering.TheVariants.{Less, Equal, Greater}
use Rattle.bits_core.specs.declared.flags.Flags.{Flags}
use Rattle.bits_core.specs.declared.width.Width.{Width}
use Rattle.bits_core.specs.Width.{bits_of}
use Rattle.bits_core.specs.LowBits.{cut_of}
use Rattle.bits_core.specs.Condition.{test_of, condition_of}
use Rattle.bits_core.specs.Arithmetic.{compared}
use Rattle.sym_terms.specs.Plain.{PlainSum, constant_alone}
use Rattle.sym_terms.specs.Order.{sum_cmp}
use Rattle.sym_terms.specs.Normal.{IsNormal}
use Rattle.sym_terms.specs.Value.{Valuation, IsInRange, value}
use Rattle.predicates.specs.declared.bound.FlagFact.{FlagFact}
use Rattle.predicates.specs.declared.bound.Values.{Values}
use Rattle.predicates.specs.declared.bound.Values.TheVariants.{Range, OneOf}
use Rattle.predicates.specs.declared.bound.Bound.{Bound}
use Rattle.predicates.specs.Predicate.{Predicate}
use Rattle.x86_machine.specs.State.{State}
use Rattle.step_rules.specs.Terms.{cut_term}
use Rattle.predicate_meaning.specs.Sat.{register, FactHolds, IsIn, BoundHolds, Sat}
use Rattle.step_rules.specs.Bounds.{telling, range_of, met, inserted, with_bound, with_bound_if, by_comparison, by_fact, where_holds, opposite_of}
use Rattle.forest_meaning.specs.Holds.{Means, Tells}
use Rattle.value_laws.proofs.Ground.{Ground}
use Rattle.value_laws.proofs.MeansLemmas.{tells_cut}

-- ---- one more bound

met_ranges : (low high least most n : ℕ) → IsIn (Range low high) n → IsIn (Range least most) n → IsIn (met (Range low high) (Range least most)) n
met_ranges low high least most n h k =
    cond_both (leb (max low least) (min high most)) (Range (max low least) (min high most)) (Range low high) (λ v. IsIn v n)
    (λ e. (omega (arith, h.0, k.0), omega (arith, h.1, k.1))) (λ e. h)

is_in_met : (old new : Values) (n : ℕ) → IsIn old n → IsIn new n → IsIn (met old new) n
is_in_met (Range low high) (Range least most) n h k = met_ranges low high least most n h k
is_in_met (Range low high) (OneOf ns) n h k = k
is_in_met (OneOf ns) new n h k = h

module _ (u : Valuation) (same : (a b : PlainSum) → sum_cmp a b ≡ Equal → a ≡ b) where
  abbrev AllHold : List Bound → Type 0
  AllHold bounds = All (λ b. BoundHolds u b) bounds

  inserted_at : (room : Bool) (key : PlainSum) (set : Values) (b : Bound) (bs : List Bound) (o : Ordering) → sum_cmp key b.key ≡ o
      → BoundHolds u (record { key = key; set = set }) → BoundHolds u b → AllHold bs → AllHold (inserted room key set bs)
      → AllHold (elim o as (λ o. List Bound) [
        | Less ↦ cond room (record { key = key; set = set } ∷ b ∷ bs) (b ∷ bs)
        | Equal ↦ record { key = b.key; set = met b.set set } ∷ bs
        | Greater ↦ b ∷ inserted room key set bs
      ])
  inserted_at room key set b bs Less e new h hs rest =
      cond_both room (record { key = key; set = set } ∷ b ∷ bs) (b ∷ bs) AllHold
      (λ _. All-cons (λ b. BoundHolds u b) _ (b ∷ bs) new (All-cons (λ b. BoundHolds u b) b bs h hs))
      (λ _. All-cons (λ b. BoundHolds u b) b bs h hs)
  inserted_at room key set b bs Equal e new h hs rest =
      All-cons (λ b. BoundHolds u b) _ bs (record {
        key = h.key;
        within = is_in_met b.set set (value u b.key) h.within (subst (λ k. IsIn set (value u k)) (same key b.key e) new.within);
      }) hs
  inserted_at room key set b bs Greater e new h hs rest = All-cons (λ b. BoundHolds u b) b _ h rest

  inserted_holds : (room : Bool) (key : PlainSum) (set : Values) (bs : List Bound) → BoundHolds u (record { key = key; set = set })
      → AllHold bs → AllHold (inserted room key set bs)
  inserted_holds room key set [] new h =
      cond_both room (record { key = key; set = set } ∷ []) [] AllHold (λ _. All-cons (λ b. BoundHolds u b) _ [] new h) (λ _. h)
  inserted_holds room key set (b ∷ bs) new h =
      let first = All-head (λ b. BoundHolds u b) b bs h in
      let rest = All-tail (λ b. BoundHolds u b) b bs h in
      inserted_at room key set b bs (sum_cmp key b.key) refl new first rest (inserted_holds room key set bs new rest)

  pub with_bound_holds : (key : PlainSum) (set : Values) (bs : List Bound) → IsNormal key → IsIn set (value u key) → AllHold bs → AllHold (with_bound key set bs)
  unfolding with_bound
  with_bound_holds key set bs normal is h = inserted_holds (ltb (length bs) 16) key set bs (record { key = normal; within = is }) h

-- ---- the range that a condition gives

abbrev Tell : ℕ → Option Values → Type 0
Tell n o = IfSome o (λ set. IsIn set n)

telling_holds : (m low high n : ℕ) → low ≤ n → n ≤ high → Tell n (telling m low high)
telling_holds m low high n h k =
    cond_both (ltb high low || ((eqb low 0) && leb m high)) None (Some (Range low high)) (Tell n) (λ _. tt) (λ _. (h, k))

either : (b : Bool) (x y : Option Values) (n : ℕ) → (b ≡ true → Tell n x) → (b ≡ false → Tell n y) → Tell n (cond b x y)
either b x y n h k = cond_both b x y (Tell n) h k

opposite_bool : (b : Bool) → not b ≡ true → b ≡ false
opposite_bool true e = absurd (cc)
opposite_bool false e = refl

module _ (g : Ground) (w : Width) (x y cc : ℕ) (k : condition_of cc (compared w x y) ≡ true) where
  at_number : (c : ℕ) (b : Bool) → condition_of c (compared w x y) ≡ b → eqb cc c ≡ true → b ≡ true
  at_number c b law e = sym law ∙ ap (λ c. condition_of c (compared w x y)) (sym (eqb-true cc c e)) ∙ k

  not_equal : (a b : ℕ) → not (eqb a b) ≡ true → a ≢ b
  not_equal a b e = eqb-false a b (opposite_bool (eqb a b) e)

  pub range_holds : Tell (cut_of w x) (range_of cc (cut_of w y) (2 ^ bits_of w - 1))
  range_holds =
      let n = cut_of w x in let r = cut_of w y in let m = 2 ^ bits_of w - 1 in
      let top : n ≤ m = omega (arith, g.cut.below w x) in
      either (eqb cc 2) _ _ n
      (λ e. let lt : n < r = ltb-true n r (at_number 2 _ (g.compared.b w x y) e) in
      either (eqb r 0) _ _ n (λ z. absurd (omega (arith, lt, eqb-true r 0 z))) (λ _. telling_holds m 0 (r - 1) n (omega arith) (omega (arith, lt))))
      (λ _. either (eqb cc 3) _ _ n
      (λ e. telling_holds m r m n (leb-true r n (at_number 3 _ (g.compared.ae w x y) e)) top)
      (λ _. either (eqb cc 4) _ _ n
      (λ e. let is : n ≡ r = eqb-true n r (at_number 4 _ (g.compared.e w x y) e) in telling_holds m r r n (omega (arith, is)) (omega (arith, is)))
      (λ _. either (eqb cc 5) _ _ n
      (λ e. let ne : n ≢ r = not_equal n r (at_number 5 _ (g.compared.ne w x y) e) in
      either (eqb r 0) _ _ n
      (λ z. telling_holds m 1 m n (omega (arith, ne, eqb-true r 0 z)) top)
      (λ _. either (eqb r m) _ _ n (λ z. telling_holds m 0 (m - 1) n (omega arith) (omega (arith, ne, top, eqb-true r m z))) (λ _. tt)))
      (λ _. either (eqb cc 6) _ _ n
      (λ e. telling_holds m 0 r n (omega arith) (leb-true n r (at_number 6 _ (g.compared.be w x y) e)))
      (λ _. either (eqb cc 7) _ _ n
      (λ e. telling_holds m (r + 1) m n (let lt : r < n = ltb-true r n (at_number 7 _ (g.compared.a w x y) e) in omega (arith, lt)) top)
      (λ _. tt))))))

-- ---- the bound that a condition gives by a flag fact

module _ (g : Ground) (u : Valuation) (range : IsInRange u) where
  same_key : (a b : PlainSum) → sum_cmp a b ≡ Equal → a ≡ b
  same_key a b e = (g.order.equal a b).0 e

  bound_if : (key : Option PlainSum) (set : Option Values) (n : ℕ) (bs : List Bound) → Tells u key n → Tell n set → All (λ b. BoundHolds u b) bs
      → All (λ b. BoundHolds u b) (with_bound_if key set bs)
  bound_if None set n bs k t h = h
  bound_if (Some key) None n bs k t h = h
  bound_if (Some key) (Some set) n bs k t h = with_bound_holds u same_key key set bs k.normal (subst (IsIn set) (sym k.value) t) h

  compared_bound : (cc : ℕ) (flags : Flags) (f : FlagFact) (l r : Option ℕ) → constant_alone f.left ≡ l → constant_alone f.right ≡ r
      → FactHolds flags u f → condition_of cc flags ≡ true → (bs : List Bound) → All (λ b. BoundHolds u b) bs → All (λ b. BoundHolds u b) (by_comparison cc f l r bs)
  compared_bound cc flags f None None el er fact c bs h = h
  compared_bound cc flags f (Some l) r el er fact c bs h = h
  compared_bound cc flags f None (Some r) el er fact c bs h =
      let right : value u f.right ≡ r = (g.values u range).known f.right r fact.right er in
      let holds : condition_of cc (compared f.width (value u f.left) r) ≡ true = ap (λ n. condition_of cc (compared f.width (value u f.left) n)) (sym right) ∙ ap (condition_of cc) (sym fact.same) ∙ c in
      bound_if (cut_term f.width (Some f.left)) _ (cut_of f.width (value u f.left)) bs
      (tells_cut u g.normal (g.values u range) f.width (Some f.left) (value u f.left) (record { normal = fact.left; value = refl }))
      (range_holds g f.width (value u f.left) r cc holds) h

  fact_bound : (cc : ℕ) (flags : Flags) (f : Option FlagFact) → IfSome f (λ f. FactHolds flags u f) → condition_of cc flags ≡ true
      → (bs : List Bound) → All (λ b. BoundHolds u b) bs → All (λ b. BoundHolds u b) (by_fact cc f bs)
  fact_bound cc flags None fact c bs h = h
  fact_bound cc flags (Some f) fact c bs h = compared_bound cc flags f _ _ refl refl fact c bs h

  -- where the condition holds, so does what it says
  pub sat_where : (cc : ℕ) (p : Predicate) (s : State) → condition_of cc s.flags ≡ true → Sat p s u → Sat (where_holds cc p) s u
  unfolding where_holds register
  sat_where cc p s c h = record {
    range = h.range;
    fs_base = h.fs_base;
    registers = h.registers;
    flags = h.flags;
    bounds = fact_bound cc s.flags p.flags h.flags c p.bounds h.bounds;
    forest = h.forest;
  }

  -- a bound of the name, which is one of these
  pub sat_bound : (key : PlainSum) (ns : List ℕ) (n : ℕ) (p : Predicate) (s : State) → Means u key n → Contains ns n → Sat p s u
      → Sat (record p { bounds = with_bound key (OneOf ns) p.bounds }) s u
  unfolding register
  sat_bound key ns n p s k is h = record {
    range = h.range;
    fs_base = h.fs_base;
    registers = h.registers;
    flags = h.flags;
    bounds = with_bound_holds u same_key key (OneOf ns) p.bounds k.normal (subst (Contains ns) (sym k.value) is) h.bounds;
    forest = h.forest;
  }

-- the opposite condition
even_condition : (c : ℕ) (f : Flags) → c % 2 ≡ 0 → condition_of c f ≡ test_of (c / 2) f
even_condition c f e = ap (λ k. cond (eqb k 1) (not (test_of (c / 2) f)) (test_of (c / 2) f)) e

odd_condition : (c : ℕ) (f : Flags) → c % 2 ≡ 1 → condition_of c f ≡ not (test_of (c / 2) f)
odd_condition c f e = ap (λ k. cond (eqb k 1) (not (test_of (c / 2) f)) (test_of (c / 2) f)) e

not_not : (b : Bool) → not (not b) ≡ b
not_not true = refl
not_not false = refl

opposite_by : (cc : ℕ) (f : Flags) (b : Bool) → eqb (cc % 2) 1 ≡ b → condition_of (cond b (cc - 1) (cc + 1)) f ≡ not (condition_of cc f)
opposite_by cc f true e =
    let odd : cc % 2 ≡ 1 = eqb-true (cc % 2) 1 e in
    let half : (cc - 1) / 2 ≡ cc / 2 = omega (arith, odd) in
    even_condition (cc - 1) f (omega (arith, odd)) ∙ ap (λ h. test_of h f) half ∙ sym (ap not (odd_condition cc f odd) ∙ not_not _)
opposite_by cc f false e =
    let even : cc % 2 ≡ 0 = omega (arith, eqb-false (cc % 2) 1 e) in
    let half : (cc + 1) / 2 ≡ cc / 2 = omega (arith, even) in
    odd_condition (cc + 1) f (omega (arith, even)) ∙ ap (λ h. not (test_of h f)) half ∙ sym (ap not (even_condition cc f even))

pub opposite_holds : (cc : ℕ) (f : Flags) → condition_of cc f ≡ false → condition_of (opposite_of cc) f ≡ true
opposite_holds cc f e = opposite_by cc f (eqb (cc % 2) 1) refl ∙ ap not e
