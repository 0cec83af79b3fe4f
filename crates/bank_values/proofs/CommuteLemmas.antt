-- Numbers of different terms are compared as the terms are, so a predicate of numbers is weakened as the terms say.
use Rattle.std.proofs.Common.{◌≡◌, ℕ, suc, ◌<◌, Bool, true, false, ◌&&◌, ◌||◌, Option, Some, None, List, [], ◌∷◌, length, map, filter, cond, eqb, refl, sym, ap, ap₂, subst, ◌∙◌, inl, inr}
use Rattle.std.specs.Prelude.{nat_le, All, IfSome, ◌==◌, if◌then◌else◌}
use Rattle.std.specs.List.{list_all}
use Rattle.std.specs.Option.{option_map, option_and_then}
use Rattle.std.proofs.lemmas.Bool.Decides.{eqb_tells}
use Rattle.std.proofs.lemmas.List.Elements.{All-head, All-tail}
use Rattle.bits_core.specs.declared.width.Width.{Width}
use Rattle.bits_core.specs.Width.{bits_of}
use Rattle.sym_terms.specs.Plain.{PlainSum}
use Rattle.sym_terms.specs.Equality.{equals_same, equals_equiv}
use Rattle.mem_forest.specs.Plain.{PlainForest, cell, PlainNode}
use Rattle.mem_forest.specs.Search.{has_name}
use Rattle.mem_forest.specs.Holders.{same_term, holds_term, comes_first, sibling, holds_node, holder, weakened}
use Rattle.predicates.specs.Holding.{holds_flags, holds_bound, are_within}
use Rattle.predicates.specs.Weaken.{weaker_registers, weaker_flags, weaker_bounds}
use Rattle.predicates.specs.Bounds.{are_values, are_formed, keys_ascend, values_ascend, numbers_ascend}
use Rattle.predicates.specs.Limits.{most_numbers, most_bounds}
use Rattle.predicates.specs.declared.bound.Values.{Values}
use Rattle.predicates.specs.declared.bound.Values.TheVariants.{Range, OneOf}
use Rattle.bank_values.specs.declared.pred.BankPred.{BankPred}
use Rattle.term_bank.specs.Terms.{term_at, AreApart}
use Rattle.bank_values.specs.Numbered.{NumberForest, empty, spot, NumberNode}
use Rattle.bank_values.specs.ReadBack.{known_at, fact_at, bound_at, forest_at, node_at, predicate_at, IsPred, IsKnownBelow, AreBelow, IsNodeBelow}
use Rattle.bank_values.specs.Weaken.{holds_number, weaker_numbers, holds_fact, weaker_fact, holds_limit, has_number, begins_with, number_sibling, holds_numbers, number_holder, weaker_forest}

-- a term that may be known, by a test of its number
kept_if : (ts : List PlainSum) (b : Bool) (n : Option ℕ) → (if b then known_at ts n else None) ≡ known_at ts (if b then n else None)
kept_if ts true n = refl
kept_if ts false n = refl

fact_if : (ts : List PlainSum) (b : Bool) (f : Option (Width × ℕ × ℕ)) → (if b then option_map (fact_at ts) f else None) ≡ option_map (fact_at ts) (if b then f else None)
fact_if ts true f = refl
fact_if ts false f = refl

module _ (ts : List PlainSum) (apart : AreApart ts) where
  alike : (m n : ℕ) → m ≡ n → same_term (term_at ts m) (term_at ts n) ≡ true
  alike m n e = subst (λ k. same_term (term_at ts m) (term_at ts k) ≡ true) e (equals_equiv.refl (term_at ts m))

  unlike : (m n : ℕ) → m < length ts → n < length ts → (m ≡ n → ⊥) → (b : Bool) → same_term (term_at ts m) (term_at ts n) ≡ b → b ≡ false
  unlike m n lm ln d true e = absurd (d (apart m n lm ln (equals_same (term_at ts m) (term_at ts n) e)))
  unlike m n lm ln d false e = refl

  -- two terms are the same where their numbers are
  same : (m n : ℕ) → m < length ts → n < length ts → same_term (term_at ts m) (term_at ts n) ≡ eqb m n
  same m n lm ln = elim (eqb_tells m n) [
    | inl t ↦ alike m n t.1 ∙ sym t.0
    | inr t ↦ unlike m n lm ln t.1 (same_term (term_at ts m) (term_at ts n)) refl ∙ sym t.0
  ]

  known : (h n : Option ℕ) → IsKnownBelow (length ts) h → IsKnownBelow (length ts) n → holds_term (known_at ts h) (known_at ts n) ≡ holds_number h n
  known h None lh ln = refl
  known None (Some n) lh ln = refl
  known (Some m) (Some n) lh ln = same m n lh ln

  pub regs_at : (hs ns : List (Option ℕ)) → All (IsKnownBelow (length ts)) hs → All (IsKnownBelow (length ts)) ns
      → weaker_registers (map (known_at ts) hs) (map (known_at ts) ns) ≡ map (known_at ts) (weaker_numbers hs ns)
  regs_at hs [] lh ln = refl
  regs_at [] (n ∷ ns) lh ln = ap (λ xs. None ∷ xs) (regs_at [] ns lh (All-tail (IsKnownBelow (length ts)) n ns ln))
  regs_at (h ∷ hs) (n ∷ ns) lh ln =
      let P = IsKnownBelow (length ts) in
      let e = known h n (All-head P h hs lh) (All-head P n ns ln) in
      ap₂ (λ x xs. x ∷ xs) (ap (λ b. if b then known_at ts n else None) e ∙ kept_if ts (holds_number h n) n) (regs_at hs ns (All-tail P h hs lh) (All-tail P n ns ln))

  abbrev IsFactBelow : Option (Width × ℕ × ℕ) → Type 0
  IsFactBelow f = IfSome f (λ f. (f.1 < length ts) × (f.2 < length ts))

  facts : (h f : Option (Width × ℕ × ℕ)) → IsFactBelow h → IsFactBelow f → holds_flags (option_map (fact_at ts) h) (option_map (fact_at ts) f) ≡ holds_fact h f
  facts h None lh lf = refl
  facts None (Some f) lh lf = refl
  facts (Some h) (Some f) lh lf = ap₂ (λ a b. (bits_of h.0 == bits_of f.0) && (a && b)) (same h.1 f.1 lh.0 lf.0) (same h.2 f.2 lh.1 lf.1)

  pub fact_at_weaker : (h f : Option (Width × ℕ × ℕ)) → IsFactBelow h → IsFactBelow f → weaker_flags (option_map (fact_at ts) h) (option_map (fact_at ts) f) ≡ option_map (fact_at ts) (weaker_fact h f)
  fact_at_weaker h f lh lf = ap (λ b. if b then option_map (fact_at ts) f else None) (facts h f lh lf) ∙ fact_if ts (holds_fact h f) f

  abbrev IsLimitBelow : ℕ × Values → Type 0
  IsLimitBelow b = b.0 < length ts

  limit : (hs : List (ℕ × Values)) (b : ℕ × Values) → All IsLimitBelow hs → IsLimitBelow b → holds_bound (map (bound_at ts) hs) (bound_at ts b) ≡ holds_limit hs b
  limit [] b lh lb = refl
  limit (h ∷ hs) b lh lb =
      ap₂ (λ x y. (x && are_within h.1 b.1) || y) (same h.0 b.0 (All-head IsLimitBelow h hs lh) lb) (limit hs b (All-tail IsLimitBelow h hs lh) lb)

  limit_if : (c : Bool) (b : ℕ × Values) (bs : List (ℕ × Values)) → cond c (bound_at ts b ∷ map (bound_at ts) bs) (map (bound_at ts) bs) ≡ map (bound_at ts) (cond c (b ∷ bs) bs)
  limit_if true b bs = refl
  limit_if false b bs = refl

  pub limits_at : (hs bs : List (ℕ × Values)) → All IsLimitBelow hs → All IsLimitBelow bs → weaker_bounds (map (bound_at ts) hs) (map (bound_at ts) bs) ≡ map (bound_at ts) (filter (holds_limit hs) bs)
  limits_at hs [] lh lb = refl
  limits_at hs (b ∷ bs) lh lb =
      ap₂ (λ c xs. cond c (bound_at ts b ∷ xs) xs) (limit hs b lh (All-head IsLimitBelow b bs lb)) (limits_at hs bs lh (All-tail IsLimitBelow b bs lb))
      ∙ limit_if (holds_limit hs b) b (filter (holds_limit hs) bs)

  abbrev IsNameBelow : ℕ → Type 0
  IsNameBelow n = n < length ts

  among : (n : ℕ) (ns : List ℕ) → n < length ts → All IsNameBelow ns → has_name (term_at ts n) (map (term_at ts) ns) ≡ has_number n ns
  among n [] l h = refl
  among n (m ∷ ms) l h = ap₂ (λ a b. a || b) (same m n (All-head IsNameBelow m ms h) l) (among n ms l (All-tail IsNameBelow m ms h))

  all_among : (ns ms : List ℕ) → All IsNameBelow ns → All IsNameBelow ms → list_all (λ t. has_name t (map (term_at ts) ns)) (map (term_at ts) ms) ≡ list_all (λ m. has_number m ns) ms
  all_among ns [] h k = refl
  all_among ns (m ∷ ms) h k = ap₂ (λ a b. a && b) (among m ns (All-head IsNameBelow m ms k) h) (all_among ns ms h (All-tail IsNameBelow m ms k))

  first : (n : ℕ) (ns : List ℕ) → n < length ts → All IsNameBelow ns → comes_first (term_at ts n) (map (term_at ts) ns) ≡ begins_with n ns
  first n [] l h = refl
  first n (m ∷ ms) l h = same m n (All-head IsNameBelow m ms h) l

  sibling_if : (b : Bool) (c : NumberNode) (o : Option PlainNode) (p : Option NumberNode) → o ≡ option_map (node_at ts) p → (if b then Some (node_at ts c) else o) ≡ option_map (node_at ts) (if b then Some c else p)
  sibling_if true c o p e = refl
  sibling_if false c o p e = e

  sibling_at : (n b : ℕ) (f : NumberForest) → n < length ts → AreBelow (length ts) f → sibling (term_at ts n) b (forest_at ts f) ≡ option_map (node_at ts) (number_sibling n b f)
  sibling_at n b empty l h = refl
  sibling_at n b (spot ns c v under rest) l h =
      let node : NumberNode = record { names = ns; bytes = c; value = v; under = under } in
      ap (λ t. if (c == b) && t then Some (node_at ts node) else sibling (term_at ts n) b (forest_at ts rest)) (first n ns l h.0.0)
      ∙ sibling_if ((c == b) && begins_with n ns) node _ _ (sibling_at n b rest l h.1.1)

  found_if : (b : Bool) (c : NumberNode) (p : Option NumberNode) → IsNodeBelow (length ts) c → IfSome p (IsNodeBelow (length ts)) → IfSome (if b then Some c else p) (IsNodeBelow (length ts))
  found_if true c p h k = h
  found_if false c p h k = k

  sibling_below : (n b : ℕ) (f : NumberForest) → AreBelow (length ts) f → IfSome (number_sibling n b f) (IsNodeBelow (length ts))
  sibling_below n b empty h = tt
  sibling_below n b (spot ns c v under rest) h =
      found_if ((c == b) && begins_with n ns) (record { names = ns; bytes = c; value = v; under = under }) (number_sibling n b rest) (h.0, h.1.0) (sibling_below n b rest h.1.1)

  holds : (c : NumberNode) (ns : List ℕ) (v : Option ℕ) → IsNodeBelow (length ts) c → All IsNameBelow ns → IsKnownBelow (length ts) v
      → holds_node (node_at ts c) (map (term_at ts) ns) (known_at ts v) ≡ holds_numbers c ns v
  holds c ns v h k l = ap₂ (λ a b. a && b) (all_among c.names ns h.0.0 k) (known c.value v h.0.1 l)

  held_if : (b : Bool) (c : NumberNode) → (if b then Some (node_at ts c) else None) ≡ option_map (node_at ts) (if b then Some c else None)
  held_if true c = refl
  held_if false c = refl

  holder_by : (o : Option NumberNode) (ns : List ℕ) (v : Option ℕ) → IfSome o (IsNodeBelow (length ts)) → All IsNameBelow ns → IsKnownBelow (length ts) v
      → option_and_then (λ c. if holds_node c (map (term_at ts) ns) (known_at ts v) then Some c else None) (option_map (node_at ts) o)
      ≡ option_map (node_at ts) (option_and_then (λ c. if holds_numbers c ns v then Some c else None) o)
  holder_by None ns v h k l = refl
  holder_by (Some c) ns v h k l = ap (λ b. if b then Some (node_at ts c) else None) (holds c ns v h k l) ∙ held_if (holds_numbers c ns v) c

  holder_at : (f : NumberForest) (ns : List ℕ) (b : ℕ) (v : Option ℕ) → AreBelow (length ts) f → All IsNameBelow ns → IsKnownBelow (length ts) v
      → holder (forest_at ts f) (map (term_at ts) ns) b (known_at ts v) ≡ option_map (node_at ts) (number_holder f ns b v)
  holder_at f [] b v h k l = refl
  holder_at f (n ∷ ns) b v h k l =
      ap (option_and_then (λ c. if holds_node c (map (term_at ts) (n ∷ ns)) (known_at ts v) then Some c else None)) (sibling_at n b f (All-head IsNameBelow n ns k) h)
      ∙ holder_by (number_sibling n b f) (n ∷ ns) v (sibling_below n b f h) k l

  left_if : (b : Bool) (c : NumberNode) → IsNodeBelow (length ts) c → IfSome (if b then Some c else None) (IsNodeBelow (length ts))
  left_if true c h = h
  left_if false c h = tt

  left_by : (o : Option NumberNode) (ns : List ℕ) (v : Option ℕ) → IfSome o (IsNodeBelow (length ts)) → IfSome (option_and_then (λ c. if holds_numbers c ns v then Some c else None) o) (IsNodeBelow (length ts))
  left_by None ns v h = tt
  left_by (Some c) ns v h = left_if (holds_numbers c ns v) c h

  holder_below : (f : NumberForest) (ns : List ℕ) (b : ℕ) (v : Option ℕ) → AreBelow (length ts) f → IfSome (number_holder f ns b v) (IsNodeBelow (length ts))
  holder_below f [] b v h = tt
  holder_below f (n ∷ ns) b v h = left_by (number_sibling n b f) (n ∷ ns) v (sibling_below n b f h)

  abbrev weaker_by : PlainForest → List PlainSum → ℕ → Option PlainSum → PlainForest → PlainForest → Option PlainNode → PlainForest
  weaker_by held ns b v under rest o = elim o as (λ o. PlainForest) [ Some c ↦ cell ns b v (weakened c.under under) (weakened held rest) | None ↦ weakened held rest ]

  pub forest_weaker : (held f : NumberForest) → AreBelow (length ts) held → AreBelow (length ts) f → weakened (forest_at ts held) (forest_at ts f) ≡ forest_at ts (weaker_forest held f)
  forest_weaker held empty lh lf = refl
  forest_weaker held (spot ns b v under rest) lh lf =
      ap (weaker_by (forest_at ts held) (map (term_at ts) ns) b (known_at ts v) (forest_at ts under) (forest_at ts rest)) (holder_at held ns b v lh lf.0.0 lf.0.1)
      ∙ (elim (number_holder held ns b v) as (λ o. IfSome o (IsNodeBelow (length ts)) → weaker_by (forest_at ts held) (map (term_at ts) ns) b (known_at ts v) (forest_at ts under) (forest_at ts rest) (option_map (node_at ts) o)
      ≡ forest_at ts (elim o as (λ o. NumberForest) [ Some c ↦ spot ns b v (weaker_forest c.under under) (weaker_forest held rest) | None ↦ weaker_forest held rest ])) [
        | Some c ↦ λ h. ap₂ (λ x y. cell (map (term_at ts) ns) b (known_at ts v) x y) (forest_weaker c.under under h.1 lf.1.0) (forest_weaker held rest lh lf.1.1)
        | None ↦ λ h. forest_weaker held rest lh lf.1.1
      ]) (holder_below held ns b v lh)

length_map : {A X : Type 0} (f : A → X) (xs : List A) → length (map f xs) ≡ length xs
length_map f [] = refl
length_map f (x ∷ xs) = ap suc (length_map f xs)

first_of : (b c : Bool) → (b && c) ≡ true → b ≡ true
first_of true c e = refl
first_of false c e = e

second_of : (b c : Bool) → (b && c) ≡ true → c ≡ true
second_of true c e = e
second_of false c e = absurd (cc)

values_of : (v : Values) → are_values v ≡ true → values_ascend v ≡ true
values_of (Range low high) e = e
values_of (OneOf ns) e = second_of (nat_le (length ns) most_numbers) (numbers_ascend ns) (second_of (nat_le 1 (length ns)) (nat_le (length ns) most_numbers && numbers_ascend ns) e)

ascend_of : (ts : List PlainSum) (bs : List (ℕ × Values)) → are_formed (map (bound_at ts) bs) ≡ true → list_all (λ b. values_ascend b.1) bs ≡ true
ascend_of ts [] e = refl
ascend_of ts (b ∷ bs) e =
    let own = values_of b.1 (first_of (are_values b.1) (are_formed (map (bound_at ts) bs)) e) in
    let rest = ascend_of ts bs (second_of (are_values b.1) (are_formed (map (bound_at ts) bs)) e) in
    ap₂ (λ x y. x && y) own rest

-- the registers of two predicates in form are as many
pub as_many : (ts : List PlainSum) (p q : BankPred) → IsPred (predicate_at ts p) → IsPred (predicate_at ts q) → length q.regs.items ≡ length p.regs.items
as_many ts p q h k = sym (length_map (known_at ts) q.regs.items) ∙ k.formed.sixteen ∙ sym h.formed.sixteen ∙ length_map (known_at ts) p.regs.items

-- the bounds of a predicate in form have their values in order
pub in_order_of : (ts : List PlainSum) (p : BankPred) → IsPred (predicate_at ts p) → list_all (λ b. values_ascend b.1) p.bounds.items ≡ true
in_order_of ts p h =
    let bs = map (bound_at ts) p.bounds.items in
    ascend_of ts p.bounds.items (second_of (keys_ascend bs) (are_formed bs) (second_of (nat_le (length bs) most_bounds) (keys_ascend bs && are_formed bs) h.formed.bounded))
