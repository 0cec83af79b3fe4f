-- A critical cell is found at its region, with its value.
use Rattle.std.proofs.Common.{◌≡◌, ◌<◌, ◌≤◌, ◌+◌, ◌||◌, ◌==◌, ℕ, zero, suc, Bool, true, false, cond, List, [], ◌∷◌, ◌++◌, Some, None, Option, refl, sym, ap, ◌∙◌, subst, arith}
use Rattle.std.specs.Prelude.{is_some, if◌then◌else◌}
use Rattle.std.specs.Prelude as prelude
use Rattle.std.specs.List.{All}
use Rattle.std.specs.Int.{from_bool}
use Rattle.std.specs.Option.{option_map, option_to_list}
use Rattle.std.specs.Ordering.{is_eq}
use Rattle.std.specs.Cmp.{tied_itself}
use Rattle.std.proofs.lemmas.Bool.{and_from, eq-eqb}
use Rattle.std.proofs.lemmas.List.Elements.{All-nil, All-cons, All-append, All-weaker}
use Rattle.sym_terms.specs.Plain.{PlainSum}
use Rattle.sym_terms.specs.Order.{sum_cmp}
use Rattle.sym_terms.specs.Codes.{sum_total}
use Rattle.memory_regions.specs.declared.region.Region.{Region}
use Rattle.mem_forest.specs.Plain.{PlainForest, none, cell, PlainNode}
use Rattle.mem_forest.specs.Search.{find, is_here, has_name, count_at, value_at, value_of_found}
use Rattle.mem_forest.proofs.SearchLemmas.{find_none}
use Rattle.step_rules.specs.Site.{region_of}
use Rattle.site_lines.specs.Critical.{is_needed, is_on_stack, critical_region, critical_cells}

-- a node that is found counts
counted : (at : PlainSum) (b : ℕ) (f : PlainForest) (c : PlainNode) → find at b f ≡ Some c → 0 < count_at at b f
counted at b f c e = elim (count_at at b f) as (λ n. count_at at b f ≡ n → 0 < n) [
  | zero ↦ λ h. absurd (let w : true ≡ false = sym (ap is_some e) ∙ (find_none at b f).1 h in let z : ⊥ = cc in z)
  | suc n ↦ λ h. omega arith
] refl

module _ (at : PlainSum) (a : ℕ) (ns : List PlainSum) (b : ℕ) (v : Option PlainSum) (under rest : PlainForest) where
  -- what is found of a node, those under it and those beside it
  abbrev found_of : Bool → Option PlainNode → Option PlainNode
  found_of here below =
      elim here as (λ t. Option PlainNode) [
        | true ↦ Some (record { names = ns; bytes = b; value = v; under = under })
        | false ↦ elim below as (λ o. Option PlainNode) [ Some c ↦ Some c | None ↦ find at a rest ]
      ]

  value_here : is_here at a ns b ≡ true → value_at at a (cell ns b v under rest) ≡ v
  value_here e = ap (λ t. value_of_found (found_of t (find at a under))) e

  value_under : (c : PlainNode) → is_here at a ns b ≡ false → find at a under ≡ Some c → value_at at a (cell ns b v under rest) ≡ c.value
  value_under c e h = ap (λ t. value_of_found (found_of t (find at a under))) e ∙ ap (λ o. value_of_found (found_of false o)) h

  value_beside : is_here at a ns b ≡ false → find at a under ≡ None → value_at at a (cell ns b v under rest) ≡ value_at at a rest
  value_beside e h = ap (λ t. value_of_found (found_of t (find at a under))) e ∙ ap (λ o. value_of_found (found_of false o)) h

  twice_here : is_here at a ns b ≡ true → count_at at a (cell ns b v under rest) ≡ count_at at a under + 1 + count_at at a rest
  twice_here e = ap (λ t. count_at at a under + from_bool t + count_at at a rest) e

-- the value at a region is needed
abbrev pub HasNeeded : PlainForest → Region → Type 0
HasNeeded f r = is_needed (value_at r.at r.bytes f) ≡ true

-- a needed value is there
pub needed_some : (o : Option PlainSum) → is_needed o ≡ true → is_some o ≡ true
needed_some None e = absurd (let z : ⊥ = cc in z)
needed_some (Some t) e = refl

needed_found : (o : Option PlainNode) → is_needed (value_of_found o) ≡ true → (c : PlainNode) × (o ≡ Some c) × (is_needed c.value ≡ true)
needed_found None e = absurd (let z : ⊥ = cc in z)
needed_found (Some c) e = (c, refl, e)

name_found : (p : PlainSum → Bool) (ns : List PlainSum) (x : PlainSum) → prelude.find p ns ≡ Some x → has_name x ns ≡ true
name_found p [] x e = absurd (let z : ⊥ = cc in z)
name_found p (n ∷ ns) x e =
    elim (p n) as (λ t. cond t (Some n) (prelude.find p ns) ≡ Some x → has_name x (n ∷ ns) ≡ true) [
      | true ↦ λ h. let same : x ≡ n = let w : n ≡ x = cc in sym w in
          let here : is_eq (sum_cmp n x) ≡ true = subst (λ y. is_eq (sum_cmp n y) ≡ true) (sym same) (ap is_eq (tied_itself sum_total n)) in
          rw here refl
      | false ↦ λ h. let later = name_found p ns x h in
          elim (is_eq (sum_cmp n x)) as (λ t. (t || has_name x ns) ≡ true) [ true ↦ refl | false ↦ later ]
    ] e

-- the region of a critical node is the node's, whose value is needed
abbrev IsNodes : List PlainSum → ℕ → Option PlainSum → Region → Type 0
IsNodes ns b v r = (is_here r.at r.bytes ns b ≡ true) × (is_needed v ≡ true)

named_node : (ns : List PlainSum) (b : ℕ) (v : Option PlainSum) (o : Option PlainSum) → is_needed v ≡ true → prelude.find is_on_stack ns ≡ o → All (IsNodes ns b v) (option_to_list (option_map (region_of b) o))
named_node ns b v None h e = All-nil (IsNodes ns b v)
named_node ns b v (Some x) h e =
    All-cons (IsNodes ns b v) (region_of b x) [] (and_from (b == b) (has_name x ns) (eq-eqb b b refl) (name_found is_on_stack ns x e), h) (All-nil (IsNodes ns b v))

critical_here : (ns : List PlainSum) (b : ℕ) (v : Option PlainSum) → All (IsNodes ns b v) (option_to_list (critical_region ns b v))
critical_here ns b v =
    elim (is_needed v) as (λ t. is_needed v ≡ t → All (IsNodes ns b v) (option_to_list (cond t (option_map (region_of b) (prelude.find is_on_stack ns)) None))) [
      | true ↦ λ h. named_node ns b v (prelude.find is_on_stack ns) h refl
      | false ↦ λ h. All-nil (IsNodes ns b v)
    ] refl

-- each region has at most one node
abbrev pub IsSingle : PlainForest → Type 0
IsSingle f = (at : PlainSum) (bytes : ℕ) → count_at at bytes f ≤ 1

module _ (ns : List PlainSum) (b : ℕ) (v : Option PlainSum) (under rest : PlainForest) (single : IsSingle (cell ns b v under rest)) where
  here_needed : (r : Region) → IsNodes ns b v r → HasNeeded (cell ns b v under rest) r
  here_needed r h = subst (λ o. is_needed o ≡ true) (sym (value_here r.at r.bytes ns b v under rest h.0)) h.1

  under_needed : (r : Region) → HasNeeded under r → HasNeeded (cell ns b v under rest) r
  under_needed r h =
      let c = needed_found (find r.at r.bytes under) h in
      elim (is_here r.at r.bytes ns b) as (λ t. is_here r.at r.bytes ns b ≡ t → HasNeeded (cell ns b v under rest) r) [
        | true ↦ λ e. absurd (
            let n = counted r.at r.bytes under c.0 c.1 in
            let two = twice_here r.at r.bytes ns b v under rest e in
            let one = single r.at r.bytes in
            omega (arith, n, two, one))
        | false ↦ λ e. subst (λ o. is_needed o ≡ true) (sym (value_under r.at r.bytes ns b v under rest c.0 e c.1)) c.2
      ] refl

  beside_needed : (r : Region) → HasNeeded rest r → HasNeeded (cell ns b v under rest) r
  beside_needed r h =
      let c = needed_found (find r.at r.bytes rest) h in
      let n = counted r.at r.bytes rest c.0 c.1 in
      let one = single r.at r.bytes in
      elim (is_here r.at r.bytes ns b) as (λ t. is_here r.at r.bytes ns b ≡ t → HasNeeded (cell ns b v under rest) r) [
        | true ↦ λ e. absurd (let two = twice_here r.at r.bytes ns b v under rest e in omega (arith, n, two, one))
        | false ↦ λ e. elim (find r.at r.bytes under) as (λ o. find r.at r.bytes under ≡ o → HasNeeded (cell ns b v under rest) r) [
          | Some d ↦ λ f. absurd (let m = counted r.at r.bytes under d f in omega (arith, n, m, one))
          | None ↦ λ f. subst (λ o. is_needed o ≡ true) (sym (value_beside r.at r.bytes ns b v under rest e f)) h
        ] refl
      ] refl

-- the value at each critical cell's region is needed
pub critical_needed : (f : PlainForest) → IsSingle f → All (HasNeeded f) (critical_cells f)
critical_needed none single = All-nil (HasNeeded none)
critical_needed (cell ns b v under rest) single =
    let f = cell ns b v under rest in
    All-append (HasNeeded f) (option_to_list (critical_region ns b v)) (critical_cells under ++ critical_cells rest)
    (All-weaker (IsNodes ns b v) (HasNeeded f) (here_needed ns b v under rest single) (option_to_list (critical_region ns b v)) (critical_here ns b v))
    (All-append (HasNeeded f) (critical_cells under) (critical_cells rest)
    (All-weaker (HasNeeded under) (HasNeeded f) (under_needed ns b v under rest single) (critical_cells under) (critical_needed under (λ at n. let one = single at n in omega (arith, one))))
    (All-weaker (HasNeeded rest) (HasNeeded f) (beside_needed ns b v under rest single) (critical_cells rest) (critical_needed rest (λ at n. let one = single at n in omega (arith, one)))))
