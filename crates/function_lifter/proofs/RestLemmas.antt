-- What is lifted is at rest: no round changes anything any more.
use Rattle.std.proofs.Common.{◌≡◌, ℕ, zero, suc, List, [], ◌∷◌, Option, Some, None, map, length, refl, sym, ap, ◌∙◌, subst, IfSome}
use Rattle.std.specs.List.{All}
use Rattle.std.specs.Option.{option_map}
use Rattle.std.proofs.lemmas.List.Elements.{All-head, All-tail, All-nil, All-cons}
use Rattle.sym_terms.specs.Plain.{PlainSum}
use Rattle.predicates.specs.Predicate.{Predicate}
use Rattle.predicates.specs.Entry.{entry_predicate}
use Rattle.bank_values.specs.ReadBack.{predicate_at}
use Rattle.bank_values.specs.declared.pred.BankPred.{BankPred}
use Rattle.lift_rounds.specs.Known.{IsHeld, case_reading, reading, pred_at, cases_at}
use Rattle.lift_rounds.specs.declared.data.Case.{Case}
use Rattle.lift_rounds.specs.declared.data.Made.{Made}
use Rattle.lift_rounds.proofs.ReadingLemmas.{length_reading}
use Rattle.lift_openings.specs.Lifted.{IsBegun, IsLifted}
use Rattle.lift_openings.specs.declared.lift.Lift.{Lift}
use Rattle.site_lines.specs.Subject.{Subject}
use Rattle.image_steps.specs.Meant.{meaning_of}
use Rattle.image_steps.specs.Walks.{IsNumbered}
use Rattle.lifted_parts.specs.Rest.{AreFormed, HasForm, IsAtRest}

module _ (terms : List PlainSum) where
  -- read back a numbered predicate has its form
  numbered_form : (p : BankPred) → IsNumbered terms p → HasForm (predicate_at terms p)
  numbered_form p h = record { formed = h.formed.formed; forest = h.formed.forest }

  option_form : (o : Option BankPred) → IfSome o (IsNumbered terms) → (p : Predicate) → option_map (predicate_at terms) o ≡ Some p → HasForm p
  option_form None h p e = absurd (let f : ⊥ = cc in f)
  option_form (Some q) h p e = let same : predicate_at terms q ≡ p = cc in subst HasForm same (numbered_form q h)

  cases_form : (cs : List (Case BankPred)) → All (λ c. IsNumbered terms c.pred) cs → All (λ c. HasForm c.pred) (map (case_reading (predicate_at terms)) cs)
  cases_form [] h = All-nil (λ (c : Case Predicate). HasForm c.pred)
  cases_form (c ∷ cs) h =
      All-cons (λ (x : Case Predicate). HasForm x.pred) (case_reading (predicate_at terms) c) (map (case_reading (predicate_at terms)) cs)
      (numbered_form c.pred (All-head (λ (x : Case BankPred). IsNumbered terms x.pred) c cs h))
      (cases_form cs (All-tail (λ (x : Case BankPred). IsNumbered terms x.pred) c cs h))

  preds_form : (ms : List (Made BankPred)) → All (λ m. IsHeld (IsNumbered terms) m) ms → (v : ℕ) (p : Predicate) → pred_at (reading (predicate_at terms) ms) v ≡ Some p → HasForm p
  preds_form [] h v p e = absurd (let f : ⊥ = cc in f)
  preds_form (m ∷ ms) h zero p e = option_form m.pred (All-head (λ (x : Made BankPred). IsHeld (IsNumbered terms) x) m ms h).pred p e
  preds_form (m ∷ ms) h (suc v) p e = preds_form ms (All-tail (λ (x : Made BankPred). IsHeld (IsNumbered terms) x) m ms h) v p e

  all_cases_form : (ms : List (Made BankPred)) → All (λ m. IsHeld (IsNumbered terms) m) ms → (v : ℕ) → All (λ c. HasForm c.pred) (cases_at (reading (predicate_at terms) ms) v)
  all_cases_form [] h v = All-nil (λ (c : Case Predicate). HasForm c.pred)
  all_cases_form (m ∷ ms) h zero = cases_form m.cases.items (All-head (λ (x : Made BankPred). IsHeld (IsNumbered terms) x) m ms h).cases
  all_cases_form (m ∷ ms) h (suc v) = all_cases_form ms (All-tail (λ (x : Made BankPred). IsHeld (IsNumbered terms) x) m ms h) v

  -- what is lifted from an entry is at rest
  pub at_rest : (s : Subject) (l : Lift BankPred) (entry : ℕ) (start : Predicate) → IsLifted (meaning_of s) (IsNumbered terms) (predicate_at terms) l
      → IsBegun (predicate_at terms) l entry start → start ≡ entry_predicate → IsAtRest s l.graph (reading (predicate_at terms) l.made.items) entry
  at_rest s l entry start h b e = record {
    graph = h.found.graph;
    rows = length_reading (predicate_at terms) l.made.items ∙ h.found.rows;
    order = h.settled.0;
    woven = h.settled.1;
    settled = h.settled.2;
    kept = h.kept;
    formed = record { preds = preds_form l.made.items h.found.held; cases = all_cases_form l.made.items h.found.held };
    begins = b.key;
    start = b.pred ∙ ap Some e;
  }
