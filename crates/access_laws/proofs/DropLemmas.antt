-- What is known without a symbol stays true when the symbol gets another value.
use Rattle.std.proofs.Common.{◌≡◌, ℕ, zero, suc, Bool, true, false, not, ◌||◌, cond, Option, Some, None, List, [], ◌∷◌, map, filter, get_or, refl, sym, ap, subst, ◌∙◌}
use Rattle.std.proofs.lemmas.Bool.{false≢true}
use Rattle.std.specs.Prelude.{IfSome, All}
use Rattle.std.specs.declared.cmp.Ordering.{Ordering}
use Rattle.std.specs.declared.cmp.Ordering.TheVariants.{Less, Equal, Greater}
use Rattle.std.specs.Ordering.{is_eq}
use Rattle.std.proofs.lemmas.List.Elements.{All-filter, filter_passes}
use Rattle.bits_core.specs.declared.flags.Flags.{Flags}
use Rattle.bits_core.specs.Arithmetic.{compared}
use Rattle.sym_terms.specs.declared.kinds.Sym.{Sym}
use Rattle.sym_terms.specs.Codes.{sym_same}
use Rattle.sym_terms.specs.Plain.{PlainSum}
use Rattle.sym_terms.specs.Order.{sym_cmp}
use Rattle.sym_terms.specs.Mentions.{mentions}
use Rattle.sym_terms.specs.Value.{Valuation, IsInRange, value, value_of_symbol}
use Rattle.term_laws.specs.Laws.{MentionLaw}
use Rattle.predicates.specs.declared.bound.FlagFact.{FlagFact}
use Rattle.predicates.specs.declared.bound.Bound.{Bound}
use Rattle.predicates.specs.Predicate.{Predicate}
use Rattle.x86_machine.specs.State.{State, reg}
use Rattle.forest_laws.specs.Laws.{ForgetLaw}
use Rattle.step_rules.specs.Drop.{term_without, fact_without, without}
use Rattle.predicate_meaning.specs.Sat.{register, FactHolds, IsIn, BoundHolds, Sat}
use Rattle.forest_meaning.specs.Holds.{Means, Tells}

is_equal : (o : Ordering) → is_eq o ≡ true → o ≡ Equal
is_equal Less e = absurd (cc)
is_equal Equal e = refl
is_equal Greater e = absurd (cc)

module _ (law : MentionLaw) (s : Sym) (u v : Valuation) (same : (t : Sym) → is_eq (sym_cmp s t) ≡ false → value_of_symbol v t ≡ value_of_symbol u t) where
  -- a symbol of a term that doesn't mention the one is another
  other_symbol : (a : PlainSum) (t : Sym) → mentions s a ≡ false → mentions t a ≡ true → (b : Bool) → is_eq (sym_cmp s t) ≡ b → value_of_symbol u t ≡ value_of_symbol v t
  other_symbol a t none here false e = sym (same t e)
  other_symbol a t none here true e =
      let is : s ≡ t = sym_same s t (is_equal (sym_cmp s t) e) in
      absurd (false≢true (sym none ∙ ap (λ x. mentions x a) is ∙ here))

  pub same_value : (a : PlainSum) → mentions s a ≡ false → value v a ≡ value u a
  same_value a none = sym (law u v a (λ t here. other_symbol a t none here (is_eq (sym_cmp s t)) refl))

  kept_if : (a : PlainSum) (n : ℕ) (b : Bool) → mentions s a ≡ b → Means u a n → Tells v (cond b None (Some a)) n
  kept_if a n true e h = tt
  kept_if a n false e h = record { normal = h.normal; value = same_value a e ∙ h.value }

  kept_term : (t : Option PlainSum) (n : ℕ) → Tells u t n → Tells v (term_without s t) n
  kept_term None n h = tt
  kept_term (Some a) n h = kept_if a n (mentions s a) refl h

  kept_register : (ts : List (Option PlainSum)) (r n : ℕ) → Tells u (get_or ts r None) n → Tells v (get_or (map (term_without s) ts) r None) n
  kept_register [] r n h = tt
  kept_register (t ∷ ts) zero n h = kept_term t n h
  kept_register (t ∷ ts) (suc r) n h = kept_register ts r n h

  kept_fact_if : (at : Flags) (f : FlagFact) (b c : Bool) → mentions s f.left ≡ b → mentions s f.right ≡ c → FactHolds at u f → IfSome (cond (b || c) None (Some f)) (λ f. FactHolds at v f)
  kept_fact_if at f true c d e h = tt
  kept_fact_if at f false true d e h = tt
  kept_fact_if at f false false d e h = record {
    left = h.left;
    right = h.right;
    same = h.same ∙ ap (λ n. compared f.width n (value u f.right)) (sym (same_value f.left d)) ∙ ap (compared f.width (value v f.left)) (sym (same_value f.right e));
  }

  kept_fact : (at : Flags) (f : Option FlagFact) → IfSome f (λ f. FactHolds at u f) → IfSome (fact_without s f) (λ f. FactHolds at v f)
  kept_fact at None h = tt
  kept_fact at (Some f) h = kept_fact_if at f (mentions s f.left) (mentions s f.right) refl refl h

  kept_bound : (b : Bound) → mentions s b.key ≡ false → BoundHolds u b → BoundHolds v b
  kept_bound b e h = record { key = h.key; within = subst (IsIn b.set) (sym (same_value b.key e)) h.within }

  passed : (b : Bool) → not b ≡ true → b ≡ false
  passed true e = absurd (cc)
  passed false e = refl

  kept_bounds : (bs : List Bound) → All (λ b. BoundHolds u b) bs → All (λ b. BoundHolds v b) (filter (λ b. not (mentions s b.key)) bs)
  kept_bounds bs h = λ k d lt.
      let test : Bound → Bool = λ b. not (mentions s b.key) in
      kept_bound (get_or (filter test bs) k d) (passed _ (filter_passes test bs k d lt)) (All-filter test (λ b. BoundHolds u b) bs h k d lt)

  pub sat_without : ForgetLaw → IsInRange v → v.fs ≡ u.fs → (p : Predicate) (at : State) → Sat p at u → Sat (without s p) at v
  unfolding register
  sat_without forget range fs p at h = record {
    range = range;
    fs_base = h.fs_base ∙ sym fs;
    registers = λ r. kept_register p.regs r (reg at r) (h.registers r);
    flags = kept_fact at.flags p.flags h.flags;
    bounds = kept_bounds p.bounds h.bounds;
    forest = forget s u v same at.memory p.forest h.forest;
  }
