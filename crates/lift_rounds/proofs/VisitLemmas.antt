-- What a visit makes of a vertex, by its two halves.
use Rattle.std.proofs.Common.{◌≡◌, ◌≢◌, ℕ, Bool, true, cond, List, [], None, IsSome, sym, ap, ◌∙◌, subst, inl, inr}
use Rattle.std.proofs.lemmas.Bool.{cases_eq}
use Rattle.std.specs.declared.vec.Vec.{Vec}
use Rattle.std.specs.declared.alloc.Global.{Global}
use Rattle.lift_graph.specs.Rows.{is_set, items_at}
use Rattle.lift_graph.specs.declared.graph.Place.{Place}
use Rattle.lift_rounds.specs.Meaning.{Meaning}
use Rattle.lift_rounds.specs.Known.{Known, pred_at, cases_at, incoming, gathered, addresses}
use Rattle.lift_rounds.specs.Visit.{HasPred, HasCases, IsVisit, IsOutcome, worse}
use Rattle.lift_rounds.specs.declared.data.Change.{Change}
use Rattle.lift_rounds.specs.declared.data.Change.TheVariants.{Nothing, Made as MadeChange, Head, Found}
use Rattle.lift_rounds.proofs.RoundLemmas.{worse_head, worse_nothing, worse_made, worse_found}

pub visit_made : {R : Type 0} (m : Meaning R) (before mid after : List (Known R)) (places places' : List Place) (keeps keeps' : Bool) (v : ℕ) → places ≡ places' → keeps ≡ keeps' → HasPred m before mid places keeps v → HasCases mid after v → IsVisit m before after places' keeps' v
visit_made m before mid after places places' keeps keeps' v ep ek p c =
    subst (λ ps. IsVisit m before after ps keeps' v) ep
    (subst (λ k. IsVisit m before after places k v) ek (record {
      pred = c.preds v ∙ p.pred;
      other_preds = λ u n. c.preds u ∙ p.others u n;
      other_cases = λ u n. c.others u n ∙ p.cases u;
    }))

-- what the two halves say
pub record AreChanges {R : Type 0} (a b : Change) (keeps : Bool) (before mid after : List (Known R)) (v : ℕ) : Type 0 where
  pub nothing_pred : a ≡ Nothing → pred_at mid v ≡ pred_at before v
  pub known : a ≢ Found → IsSome (pred_at before v)
  pub head : a ≡ Head → (keeps ≡ true) × (pred_at mid v ≢ pred_at before v)
  pub changed_pred : a ≡ MadeChange → (keeps ≢ true) × (pred_at mid v ≢ pred_at before v)
  pub nothing_cases : b ≡ Nothing → cases_at after v ≡ cases_at mid v
  pub edges : b ≢ Found → addresses (cases_at after v) ≡ addresses (cases_at mid v)
  pub changed_cases : b ≡ MadeChange → cases_at after v ≢ cases_at mid v
  pub small : b ≢ Head

pub visit_outcome : {R : Type 0} (m : Meaning R) (before mid after : List (Known R)) (places : List Place) (keeps keeps' : Bool) (v : ℕ) (a b : Change) → keeps ≡ keeps' → HasPred m before mid places keeps v → HasCases mid after v → AreChanges a b keeps before mid after v → IsOutcome (worse a b) keeps' before after v
visit_outcome m before mid after places keeps keeps' v a b ek p c s = subst (λ k. IsOutcome (worse a b) k before after v) ek (record {
  nothing = λ e. let w = worse_nothing a b e in record {
    preds = λ u. elim (cases_eq u v) as (λ _. pred_at after u ≡ pred_at before u) [ inl i ↦ subst (λ x. pred_at after x ≡ pred_at before x) (sym i) (c.preds v ∙ s.nothing_pred w.0) | inr n ↦ c.preds u ∙ p.others u n ];
    cases = λ u. elim (cases_eq u v) as (λ _. cases_at after u ≡ cases_at before u) [ inl i ↦ subst (λ x. cases_at after x ≡ cases_at before x) (sym i) (s.nothing_cases w.1 ∙ p.cases v) | inr n ↦ c.others u n ∙ p.cases u ];
  };
  known = λ n. s.known (worse_found a b n).0;
  edges = λ n. s.edges (worse_found a b n).1 ∙ ap addresses (p.cases v);
  head = λ e. elim (worse_head a b e) as (λ _. (keeps ≡ true) × (pred_at after v ≢ pred_at before v)) [
    | inl h ↦ absurd (s.small h)
    | inr h ↦ (let w = s.head h in (w.0, λ d. w.1 (sym (c.preds v) ∙ d)))
  ];
  held = λ e k. elim ((worse_made a b e).0) as (λ _. pred_at after v ≡ pred_at before v) [
    | inl h ↦ absurd ((s.changed_pred h).0 k)
    | inr h ↦ c.preds v ∙ s.nothing_pred h.0
  ];
  changed = λ e same. elim ((worse_made a b e).0) as (λ _. cases_at after v ≢ cases_at before v) [
    | inl h ↦ absurd ((s.changed_pred h).1 (sym (c.preds v) ∙ same))
    | inr h ↦ (λ d. s.changed_cases h.1 (d ∙ sym (p.cases v)))
  ];
})

-- a vertex that is kept and to which no edge leads has what it had
pub entry_stays : {R : Type 0} (m : Meaning R) (before after : List (Known R)) (inward : List (Vec Place Global)) (keeps : List Bool) (v : ℕ) → IsVisit m before after (items_at inward v) (is_set keeps v) v → items_at inward 0 ≡ [] → is_set keeps 0 ≡ true → pred_at after 0 ≡ pred_at before 0
entry_stays m before after inward keeps v w none kept = elim (cases_eq 0 v) as (λ _. pred_at after 0 ≡ pred_at before 0) [
  | inl e ↦
      (let here : pred_at after 0 ≡ gathered m (cond (is_set keeps 0) (pred_at before 0) None) (incoming before (items_at inward 0)) = subst (λ x. pred_at after x ≡ gathered m (cond (is_set keeps x) (pred_at before x) None) (incoming before (items_at inward x))) (sym e) w.pred in
      here ∙ ap (λ b. gathered m (cond b (pred_at before 0) None) (incoming before (items_at inward 0))) kept ∙ ap (λ ps. gathered m (pred_at before 0) (incoming before ps)) none)
  | inr n ↦ w.other_preds 0 n
]
