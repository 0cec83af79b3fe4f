-- What is gathered of cases in form is their merge.
use Rattle.std.proofs.Common.{◌≡◌, true, List, [], ◌∷◌, Some, None, refl, sym, subst, ◌∙◌, inl, inr}
use Rattle.mem_forest.proofs.WeakenLemmas.{weakened_forest}
use Rattle.predicates.specs.Predicate.{Predicate}
use Rattle.predicates.specs.Weaken.{weaken}
use Rattle.predicates.proofs.WeakenLemmas.{as_many}
use Rattle.image_steps.specs.Shaped.{is_shaped}
use Rattle.image_steps.specs.Laws.{shape_of, shaped_by, weakened_both}
use Rattle.image_steps.specs.Meant.{meaning_of}
use Rattle.lift_graph.specs.Search.{IsMember}
use Rattle.lift_rounds.specs.Known.{gathered}
use Rattle.site_lines.specs.Subject.{Subject}
use Rattle.lifted_parts.specs.Exact.{merged_onto, merge_of}
use Rattle.lifted_parts.specs.Rest.{HasForm}

pub form_shaped : (p : Predicate) → HasForm p → is_shaped p ≡ true
form_shaped p h = shaped_by p (record { sixteen = h.formed.sixteen; forest = h.forest })

weaken_shaped : (p q : Predicate) → is_shaped p ≡ true → is_shaped (weaken p q) ≡ true
weaken_shaped p q e =
    let s = shape_of p e in
    shaped_by (weaken p q) (record { sixteen = as_many q.regs p.regs ∙ s.sixteen; forest = weakened_forest q.forest p.forest s.forest })

onto : (s : Subject) (p : Predicate) (cs : List Predicate) → is_shaped p ≡ true → ((c : Predicate) → IsMember c cs → is_shaped c ≡ true) → gathered (meaning_of s) (Some p) cs ≡ Some (merged_onto p cs)
onto s p [] e h = refl
onto s p (c ∷ cs) e h =
    subst (λ q. gathered (meaning_of s) (Some q) cs ≡ Some (merged_onto (weaken p c) cs)) (sym (weakened_both p c (h c (inl refl)) e))
    (onto s (weaken p c) cs (weaken_shaped p c e) (λ d m. h d (inr m)))

pub gathered_merges : (s : Subject) (cs : List Predicate) → ((c : Predicate) → IsMember c cs → is_shaped c ≡ true) → gathered (meaning_of s) None cs ≡ merge_of cs
gathered_merges s [] h = refl
gathered_merges s (c ∷ cs) h = onto s c cs (h c (inl refl)) (λ d m. h d (inr m))
