-- Bounds keep their ranges in order, and those that mention no symbol stay.
use Rattle.std.proofs.Common.{◌≡◌, ℕ, Bool, true, false, ◌||◌, ◌&&◌, List, [], ◌∷◌, length, refl, sym, ap, ◌∙◌}
use Rattle.std.specs.Prelude.{IsTrue, filter, not, cond, nat_le}
use Rattle.std.specs.List.{list_any}
use Rattle.std.proofs.lemmas.Bool.{and_parts, and_from}
use Rattle.sym_terms.specs.declared.kinds.Sym.{Sym}
use Rattle.sym_terms.specs.Mentions.{mentions}
use Rattle.mem_forest.proofs.MentionLemmas.{both_false}
use Rattle.predicates.specs.Limits.{most_bounds}
use Rattle.predicates.specs.Bounds.{are_bounds, are_formed, are_values, keys_ascend}
use Rattle.predicates.specs.declared.bound.Values.{Values}
use Rattle.predicates.specs.declared.bound.Values.TheVariants.{Range, OneOf}
use Rattle.predicates.specs.declared.bound.Bound.{Bound}
use Rattle.step_values.specs.Ordered.{is_ordered, are_ordered}

values_ordered : (v : Values) → are_values v ≡ true → is_ordered v ≡ true
values_ordered (Range low high) e = e
values_ordered (OneOf numbers) e = refl

formed_ordered : (bs : List Bound) → are_formed bs ≡ true → are_ordered bs ≡ true
formed_ordered [] e = refl
formed_ordered (b ∷ bs) e =
    let p = and_parts (are_values b.set) (are_formed bs) e in
    and_from (is_ordered b.set) (are_ordered bs) (values_ordered b.set p.0) (formed_ordered bs p.1)

-- those of a predicate are
pub bounds_ordered : (bs : List Bound) → IsTrue (are_bounds bs) → IsTrue (are_ordered bs)
bounds_ordered bs e =
    let p = and_parts (nat_le (length bs) most_bounds) (keys_ascend bs && are_formed bs) e in
    let q = and_parts (keys_ascend bs) (are_formed bs) p.1 in
    formed_ordered bs q.1

-- and some of them
pub filter_ordered : (t : Bound → Bool) (bs : List Bound) → IsTrue (are_ordered bs) → IsTrue (are_ordered (filter t bs))
filter_ordered t [] e = refl
filter_ordered t (b ∷ bs) e =
    let p = and_parts (is_ordered b.set) (are_ordered bs) e in
    elim (t b) as (λ k. are_ordered (cond k (b ∷ filter t bs) (filter t bs)) ≡ true) [
      | true ↦ and_from (is_ordered b.set) (are_ordered (filter t bs)) p.0 (filter_ordered t bs p.1)
      | false ↦ filter_ordered t bs p.1
    ]

-- where no key mentions a symbol, each bound stays
pub filter_same : (s : Sym) (bs : List Bound) → list_any (λ b. mentions s b.key) bs ≡ false → bs ≡ filter (λ b. not (mentions s b.key)) bs
filter_same s [] e = refl
filter_same s (b ∷ bs) e =
    let p = both_false (mentions s b.key) (list_any (λ b. mentions s b.key) bs) e in
    ap (λ r. b ∷ r) (filter_same s bs p.1)
    ∙ sym (ap (λ t. cond (not t) (b ∷ filter (λ b. not (mentions s b.key)) bs) (filter (λ b. not (mentions s b.key)) bs)) p.0)
