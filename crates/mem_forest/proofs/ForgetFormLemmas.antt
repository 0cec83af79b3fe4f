-- What is left of a forest without a symbol is a forest.
use Rattle.std.proofs.Common.{◌≡◌, ℕ, ◌≤◌, true, ◌||◌, List, [], ◌∷◌, Option, refl, sym, ap, ◌∙◌, eq-eqb, arith}
use Rattle.std.specs.Prelude.{◌==◌}
use Rattle.std.specs.Int.{from_bool}
use Rattle.std.specs.Ordering.{is_eq}
use Rattle.std.specs.Cmp.{tied_itself}
use Rattle.std.proofs.lemmas.Bool.{and_from, and_parts}
use Rattle.sym_terms.specs.declared.kinds.Sym.{Sym}
use Rattle.sym_terms.specs.Plain.{PlainSum}
use Rattle.sym_terms.specs.Codes.{sum_total}
use Rattle.mem_forest.specs.Plain.{PlainForest, none, cell}
use Rattle.mem_forest.specs.Search.{has_name, is_here, count_at}
use Rattle.mem_forest.specs.Shape.{is_formed, shaped, IsForest}
use Rattle.mem_forest.specs.Forget.{unmentioned, unmentioned_value, insert_named, forget}
use Rattle.mem_forest.proofs.WeightLemmas.{each_one, count_weigh, count_at_weigh}
use Rattle.mem_forest.proofs.ShapeLemmas.{shaped_parts, insert_shaped}
use Rattle.mem_forest.proofs.NamesLemmas.{unmentioned_has, forget_weigh, forget_at, formed_unmentioned}

-- a node is at the region of its first name
pub first_here : (n : PlainSum) (ms : List PlainSum) (b : ℕ) → is_here n b (n ∷ ms) b ≡ true
first_here n ms b = and_from (b == b) (has_name n (n ∷ ms)) (eq-eqb b b refl) (ap (λ t. t || has_name n ms) (ap is_eq (tied_itself sum_total n)))

-- where at most one node is at a region that a node is at, none of the others is
pub others_not : (at : PlainSum) (a : ℕ) (ns : List PlainSum) (b : ℕ) (v : Option PlainSum) (under rest : PlainForest) → count_at at a (cell ns b v under rest) ≤ 1 → is_here at a ns b ≡ true → (count_at at a under ≡ 0) × (count_at at a rest ≡ 0)
others_not at a ns b v under rest h e = (omega (arith, h, ap from_bool e), omega (arith, h, ap from_bool e))

pub forget_shaped : (s : Sym) (f : PlainForest) → ((at : PlainSum) (a : ℕ) → count_at at a f ≤ 1) → shaped f ≡ true → shaped (forget s f) ≡ true
forget_shaped s none h g = refl
forget_shaped s (cell ns b v under rest) h g =
    let p = shaped_parts ns b v under rest g in
    let below : shaped (forget s under) ≡ true = forget_shaped s under (λ at a. omega (arith, h at a)) p.below in
    let others : shaped (forget s rest) ≡ true = forget_shaped s rest (λ at a. omega (arith, h at a)) p.others in
    (elim (unmentioned s ns) as (λ ms. unmentioned s ns ≡ ms → shaped (insert_named ms b (unmentioned_value s v) (forget s under) (forget s rest)) ≡ true) [
      | [] ↦ λ e. others
      | n ∷ ms ↦ λ e.
          let there : has_name n ns ≡ true = unmentioned_has s n ns (ap (has_name n) e ∙ (and_parts (b == b) (has_name n (n ∷ ms)) (first_here n ms b)).1) in
          let here : is_here n b ns b ≡ true = and_from (b == b) (has_name n ns) (eq-eqb b b refl) there in
          let z : count_at n b rest ≡ 0 = (others_not n b ns b v under rest (h n b) here).1 in
          let y : count_at n b (forget s rest) ≡ 0 = omega (arith, z, forget_at s n b rest, count_at_weigh n b rest, count_at_weigh n b (forget s rest)) in
          insert_shaped n ms b (unmentioned_value s v) (forget s under) (forget s rest) (ap (λ ks. is_formed ks b) (sym e) ∙ formed_unmentioned s ns b n ms p.formed e) below others y
    ]) refl

pub forget_forest : (s : Sym) (f : PlainForest) → IsForest f → IsForest (forget s f)
forget_forest s f h = record {
  few = omega (arith, forget_weigh s each_one (λ ns b. omega arith) f, count_weigh f, count_weigh (forget s f), h.few);
  in_form = forget_shaped s f h.single h.in_form;
  single = λ t b. omega (arith, forget_at s t b f, count_at_weigh t b f, count_at_weigh t b (forget s f), h.single t b);
}
