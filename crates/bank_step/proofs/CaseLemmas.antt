-- Cases of numbers that are read back stay when the bank grows; and cases are in form where their predicates are.
use Rattle.std.proofs.Common.{◌≡◌, ℕ, ◌+◌, ◌<◌, Option, List, [], ◌∷◌, ◌++◌, length, take, get_or, map, refl, sym, ap, ap₂, ◌∙◌, subst, arith}
use Rattle.std.specs.Prelude.{All, IfSome}
use Rattle.std.specs.Option.{option_map}
use Rattle.std.proofs.lemmas.List.Elements.{All-nil, All-cons, All-head, All-tail, All-append}
use Rattle.std.proofs.lemmas.List.{map-append}
use Rattle.bits_core.specs.declared.width.Width.{Width}
use Rattle.sym_terms.specs.Plain.{PlainSum}
use Rattle.predicates.specs.declared.bound.Values.{Values}
use Rattle.predicates.specs.Predicate.{Predicate}
use Rattle.term_bank.specs.Terms.{Grows}
use Rattle.bank_values.specs.Numbered.{level}
use Rattle.bank_values.specs.ReadBack.{known_at, fact_at, bound_at, forest_at, predicate_at, IsKnownBelow, AreBelow, IsBelow, IsPred}
use Rattle.bank_values.specs.declared.pred.BankPred.{BankPred}
use Rattle.bank_values.proofs.GrowLemmas.{IsStable, Put, put_next, take_more}
use Rattle.bank_values.proofs.StableLemmas.{stable_predicate}
use Rattle.step_rules.specs.Cases.{case}
use Rattle.pred_step.specs.Led.{plain_case}
use Rattle.bank_step.specs.CasesAt.{pair_at, case_at, IsCaseBelow, IsCasePred, AreAlike}

-- an address and the predicate there
pub stable_pair : IsStable pair_at IsCaseBelow
stable_pair = record {
  same = λ old new g c h. ap (λ p. (c.0, p)) (stable_predicate.same old new g c.1 h);
  more = λ m n l c h. stable_predicate.more m n l c.1 h;
}

-- addresses and predicates, each as a case
pub pairs_value : (ts : List PlainSum) (out : List (ℕ × BankPred)) (cs : List (ℕ × Predicate)) → map (pair_at ts) out ≡ cs → map (case_at ts) out ≡ map plain_case cs
pairs_value ts [] cs e = ap (map plain_case) e
pairs_value ts (c ∷ out) cs e = ap (λ xs. case_at ts c ∷ xs) (pairs_value ts out (map (pair_at ts) out) refl) ∙ ap (map plain_case) e

-- they are in form where the predicates are
pub pairs_formed : (ts : List PlainSum) (out : List (ℕ × BankPred)) (cs : List (ℕ × Predicate)) → map (pair_at ts) out ≡ cs → All (λ c. IsPred c.1) cs → All (IsCasePred ts) out
pairs_formed ts [] cs e h = All-nil (IsCasePred ts)
pairs_formed ts (c ∷ out) cs e h =
    let own = subst (λ cs. All (λ c. IsPred c.1) cs) (sym e) h in
    All-cons (IsCasePred ts) c out (All-head (λ c. IsPred c.1) (pair_at ts c) (map (pair_at ts) out) own)
    (pairs_formed ts out (map (pair_at ts) out) refl (All-tail (λ c. IsPred c.1) (pair_at ts c) (map (pair_at ts) out) own))

-- at no address is no case
pub alike_none : (p : BankPred) → AreAlike p [] []
alike_none p = record { value = λ ts. refl; within = λ n h. All-nil (IsCaseBelow n); formed = λ ts h. All-nil (IsCasePred ts) }

-- a copy, whose numbers are the same, is read back the same
module _ (p q : BankPred) (regs : q.regs.items ≡ p.regs.items) (flags : q.flags ≡ p.flags) (bounds : q.bounds.items ≡ p.bounds.items) (nodes : q.nodes.items ≡ p.nodes.items) where
  copy_same : (ts : List PlainSum) → predicate_at ts q ≡ predicate_at ts p
  copy_same ts = λ i. record {
    regs = map (known_at ts) (regs i);
    flags = option_map (fact_at ts) (flags i);
    bounds = map (bound_at ts) (bounds i);
    forest = forest_at ts (level (nodes i));
  }

  copy_below : (n : ℕ) → IsBelow n p → IsBelow n q
  copy_below n h = record {
    regs = subst (λ rs. All (IsKnownBelow n) rs) (sym regs) h.regs;
    flags = subst (λ (f : Option (Width × ℕ × ℕ)). IfSome f (λ f. (f.1 < n) × (f.2 < n))) (sym flags) h.flags;
    bounds = subst (λ (bs : List (ℕ × Values)). All (λ b. b.0 < n) bs) (sym bounds) h.bounds;
    nodes = subst (λ cs. AreBelow n (level cs)) (sym nodes) h.nodes;
  }

  -- one more of the cases that are alike
  pub alike_more : (done : List ℕ) (out : List (ℕ × BankPred)) (a : ℕ) → AreAlike p done out → AreAlike p (done ++ a ∷ []) (out ++ (a, q) ∷ [])
  alike_more done out a h = record {
    value = λ ts. map-append (case_at ts) out ((a, q) ∷ []) ∙ ap₂ (λ xs ys. xs ++ ys) (h.value ts) (λ i. case a (copy_same ts i) ∷ []) ∙ sym (map-append (λ a. case a (predicate_at ts p)) done (a ∷ []));
    within = λ n b. All-append (IsCaseBelow n) out ((a, q) ∷ []) (h.within n b) (All-cons (IsCaseBelow n) (a, q) [] (copy_below n b) (All-nil (IsCaseBelow n)));
    formed = λ ts f. All-append (IsCasePred ts) out ((a, q) ∷ []) (h.formed ts f) (All-cons (IsCasePred ts) (a, q) [] (subst IsPred (sym (copy_same ts)) f) (All-nil (IsCasePred ts)));
  }

-- there are none at no address
pub alike_nowhere : (p : BankPred) (addresses : List ℕ) → length addresses ≡ 0 → AreAlike p addresses []
alike_nowhere p [] e = alike_none p
alike_nowhere p (a ∷ addresses) e = absurd (omega (arith, e))

-- the last of them, with the predicate itself
pub alike_all : (p : BankPred) (addresses others : List ℕ) (a : ℕ) (out more : List (ℕ × BankPred)) → addresses ≡ others ++ a ∷ [] → AreAlike p others out
    → more ≡ out ++ (a, p) ∷ [] → AreAlike p addresses more
alike_all p addresses others a out more is h same =
    let last = alike_more p p refl refl refl refl others out a h in
    subst (λ (cs : List (ℕ × BankPred)). AreAlike p addresses cs) (sym same) (subst (λ (xs : List ℕ). AreAlike p xs (out ++ (a, p) ∷ [])) (sym is) last)

-- one more of them
pub alike_next : (p q : BankPred) → q.regs.items ≡ p.regs.items → q.flags ≡ p.flags → q.bounds.items ≡ p.bounds.items → q.nodes.items ≡ p.nodes.items
    → (addresses : List ℕ) (out more : List (ℕ × BankPred)) (i : ℕ) → AreAlike p (take i addresses) out → i < length addresses
    → more ≡ out ++ (get_or addresses i 0, q) ∷ [] → AreAlike p (take (i + 1) addresses) more
alike_next p q regs flags bounds nodes addresses out more i h inside same =
    rw (same, take_more addresses i 0 inside) (alike_more p q regs flags bounds nodes (take i addresses) out (get_or addresses i 0) h)

-- one more case was put
pub apart_next : (old mid new : List PlainSum) (out more : List (ℕ × BankPred)) (cs : List (ℕ × Predicate)) (i : ℕ) (d : ℕ × Predicate) (q : BankPred)
    → Put pair_at IsCaseBelow old mid out (take i cs) → All (λ c. IsPred c.1) (take i cs) → i < length cs → d ≡ get_or cs i d
    → Grows mid new → IsBelow (length new) q → predicate_at new q ≡ d.1 → IsPred (predicate_at new q) → more ≡ out ++ (d.0, q) ∷ []
    → Put pair_at IsCaseBelow old new more (take (i + 1) cs) × All (λ c. IsPred c.1) (take (i + 1) cs)
apart_next old mid new out more cs i d q put formed inside is g below value form same =
    let own = subst (λ (c : ℕ × Predicate). IsPred c.1) is (subst IsPred value form) in
    let all = All-append (λ c. IsPred c.1) (take i cs) (get_or cs i d ∷ []) formed (All-cons (λ c. IsPred c.1) (get_or cs i d) [] own (All-nil (λ c. IsPred c.1))) in (
      put_next pair_at IsCaseBelow stable_pair old mid new out more cs i d put inside g (d.0, q) below (ap (λ p. (d.0, p)) value ∙ is) same,
      subst (λ (xs : List (ℕ × Predicate)). All (λ c. IsPred c.1) xs) (sym (take_more cs i d inside)) all,
    )
