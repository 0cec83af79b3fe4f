-- The end of a round that found no edge.
use Rattle.std.proofs.Common.{◌≡◌, ◌≢◌, ◌<◌, ◌≤◌, ℕ, zero, suc, Bool, true, false, cond, List, length, refl, ap, subst, inl, inr, arith}
use Rattle.std.proofs.lemmas.Bool.{cases_eq}
use Rattle.lift_graph.specs.Rows.{is_set}
use Rattle.lift_rounds.specs.Known.{Known, pred_at}
use Rattle.lift_rounds.specs.Round.{Frame, IsLighter, Quiet, IsRound, head_weight, weight_of}
use Rattle.lift_rounds.specs.declared.data.Change.{Change}

abbrev part : {R : Type 0} → Frame R → List (Known R) → ℕ → ℕ
part f made v = cond (is_set f.keeps v) (weight_of f.meaning (pred_at made v)) 0

part_by : {R : Type 0} (f : Frame R) (made first : List (Known R)) (v : ℕ) (b : Bool) → is_set f.keeps v ≡ b → (is_set f.keeps v ≡ true → IsLighter f.meaning (pred_at first v) (pred_at made v)) → part f made v ≤ part f first v
part_by f made first v true e h = rw e (elim (h e) as (λ _. weight_of f.meaning (pred_at made v) ≤ weight_of f.meaning (pred_at first v)) [ inl s ↦ (let w = ap (weight_of f.meaning) s in omega arith) | inr l ↦ omega arith ])
part_by f made first v false e h = rw e (omega arith)

part_below : {R : Type 0} (f : Frame R) (made first : List (Known R)) (v : ℕ) → is_set f.keeps v ≡ true → pred_at made v ≢ pred_at first v → IsLighter f.meaning (pred_at first v) (pred_at made v) → part f made v < part f first v
part_below f made first v e n l = rw e (elim l as (λ _. weight_of f.meaning (pred_at made v) < weight_of f.meaning (pred_at first v)) [ inl s ↦ absurd (n s) | inr k ↦ k ])

weight_le : {R : Type 0} (f : Frame R) (made first : List (Known R)) (n : ℕ) → ((v : ℕ) → part f made v ≤ part f first v) → head_weight f made n ≤ head_weight f first n
weight_le f made first zero h = omega arith
weight_le f made first (suc n) h = let a = weight_le f made first n h in let b = h n in omega arith

weight_lt : {R : Type 0} (f : Frame R) (made first : List (Known R)) (n : ℕ) → ((v : ℕ) → part f made v ≤ part f first v) → (u : ℕ) → u < n → part f made u < part f first u → head_weight f made n < head_weight f first n
weight_lt f made first zero h u l k = absurd (omega arith)
weight_lt f made first (suc n) h u l k =
    elim (cases_eq u n) as (λ _. head_weight f made (suc n) < head_weight f first (suc n)) [
      | inl e ↦ (let a = weight_le f made first n h in let b : part f made n < part f first n = subst (λ x. part f made x < part f first x) e k in omega arith)
      | inr d ↦ (let a = weight_lt f made first n h u (omega arith) k in let b = h n in omega arith)
    ]

weight_same : {R : Type 0} (f : Frame R) (made first : List (Known R)) (n : ℕ) → ((v : ℕ) → is_set f.keeps v ≡ true → pred_at made v ≡ pred_at first v) → head_weight f made n ≡ head_weight f first n
weight_same f made first zero h = refl
weight_same f made first (suc n) h =
    let below = weight_same f made first n h in
    let here : part f made n ≡ part f first n = elim (is_set f.keeps n) as (λ b. is_set f.keeps n ≡ b → part f made n ≡ part f first n) [ true ↦ (λ e. ap (λ o. cond (is_set f.keeps n) (weight_of f.meaning o) 0) (h n e)) | false ↦ (λ e. rw e refl) ] refl in
    omega arith

pub quiet_end : {R : Type 0} (f : Frame R) (first made : List (Known R)) (taken : List Bool) (change : Change) → Quiet f first made taken change → ((v : ℕ) → v < length first → is_set taken v ≡ true) → IsRound f first made change
quiet_end f first made taken change q all =
    let le : (v : ℕ) → part f made v ≤ part f first v = λ v. part_by f made first v (is_set f.keeps v) refl (q.lighter v) in
    record {
      same_length = q.same_length;
      known = λ v l. q.known v (all v l);
      cased = λ s v l. q.cased s v (all v (subst (λ n. v < n) q.same_length l));
      merged = λ v l. q.merged v (all v (subst (λ n. v < n) q.same_length l));
      same_preds = q.nothing_preds;
      still = λ e v l. q.still e v (all v l);
      changed = q.changed;
      lighter = λ e. let w = q.head e in weight_lt f made first (length first) le w.0 w.1 (part_below f made first w.0 w.2 w.3 (q.lighter w.0 w.2));
      held = λ e. weight_same f made first (length first) (q.held e);
    }
