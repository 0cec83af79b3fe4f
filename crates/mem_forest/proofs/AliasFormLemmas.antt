-- One more name of a node leaves a forest.
use Rattle.std.proofs.Common.{◌≡◌, ℕ, zero, suc, ◌+◌, ◌≤◌, ◌<◌, ◌⊎◌, Bool, true, false, ◌&&◌, ◌||◌, List, [], ◌∷◌, length, Option, Some, None, refl, sym, ap, ap₂, ◌∙◌, inl, inr, subst, eq-eqb, arith}
use Rattle.std.specs.Prelude.{◌==◌, not, nat_le, nat_lt, if◌then◌else◌, is_some}
use Rattle.std.specs.Int.{from_bool}
use Rattle.std.specs.declared.cmp.Ordering.{Ordering}
use Rattle.std.specs.declared.cmp.Ordering.TheVariants.{Less, Equal, Greater}
use Rattle.std.specs.Ordering.{is_eq, is_lt, ordering_reverse}
use Rattle.std.proofs.lemmas.Bool.{and_parts, and_from, or_cases, eqb-true, le-leb, leb-true, ltb-true, cases_Bool}
use Rattle.sym_terms.specs.Plain.{PlainSum}
use Rattle.sym_terms.specs.Order.{sum_cmp}
use Rattle.sym_terms.specs.Codes.{sum_same, sum_total}
use Rattle.mem_forest.specs.Plain.{PlainForest, none, cell, PlainNode, count}
use Rattle.mem_forest.specs.Search.{has_name, is_here, find, found, count_at}
use Rattle.mem_forest.specs.Shape.{is_size, ascending, are_names, is_formed, shaped, precedes, IsForest}
use Rattle.mem_forest.specs.Levels.{insert}
use Rattle.mem_forest.specs.Alias.{with_name, renamed, has_name_left, can_alias, alias}
use Rattle.mem_forest.proofs.SingleLemmas.{equal_from}
use Rattle.mem_forest.proofs.WeightLemmas.{weigh, each_one, at_region, insert_weigh, count_weigh, count_at_weigh}
use Rattle.mem_forest.proofs.ShapeLemmas.{shaped_parts, shaped_from, insert_shaped, not_here, one_name}
use Rattle.mem_forest.proofs.ForgetFormLemmas.{first_here, others_not}
use Rattle.mem_forest.proofs.FormLemmas.{not_found, with_one, one_region}
use Rattle.mem_forest.proofs.LoadLemmas.{is_some-find}

either : (p q : Bool) → q ≡ true → (p || q) ≡ true
either true q e = refl
either false q e = e

not_true : (p : Bool) → not p ≡ true → p ≡ false
not_true true e = absurd (cc)
not_true false e = refl

no_name_here : (b : ℕ) → is_formed [] b ≡ true → ⊥
no_name_here b e = let p = and_parts (is_size b) (are_names []) e in let q : false ≡ true = p.1 in cc

-- the node that is found is under a node, or beside it
left_under : (o p : Option PlainNode) → is_some o ≡ true → has_name_left (elim o as (λ o. Option PlainNode) [ Some c ↦ Some c | None ↦ p ]) ≡ true → has_name_left o ≡ true
left_under (Some c) p e h = h
left_under None p e h = absurd (cc)

left_rest : (o p : Option PlainNode) → is_some o ≡ false → has_name_left (elim o as (λ o. Option PlainNode) [ Some c ↦ Some c | None ↦ p ]) ≡ true → has_name_left p ≡ true
left_rest (Some c) p e h = absurd (cc)
left_rest None p e h = h

-- ---- names with one more

module _ (t : PlainSum) where
  abbrev by_order : PlainSum → List PlainSum → Ordering → List PlainSum
  by_order n ns o = elim o as (λ o. List PlainSum) [ Less ↦ t ∷ n ∷ ns | Equal ↦ n ∷ ns | Greater ↦ n ∷ with_name t ns ]

  length_with : (ns : List PlainSum) → length (with_name t ns) ≤ length ns + 1
  length_with [] = omega arith
  length_with (n ∷ ns) = elim (sum_cmp t n) as (λ o. length (by_order n ns o) ≤ length (n ∷ ns) + 1) [
    | Less ↦ omega arith
    | Equal ↦ omega arith
    | Greater ↦ omega (arith, length_with ns)
  ]

  -- the first name is the new one or one of the old
  first_with : (ns : List PlainSum) → (k : PlainSum) × (ks : List PlainSum) × (with_name t ns ≡ k ∷ ks) × ((k ≡ t) ⊎ (has_name k ns ≡ true))
  first_with [] = (t, [], refl, inl refl)
  first_with (n ∷ ns) = elim (sum_cmp t n) as (λ o. (k : PlainSum) × (ks : List PlainSum) × (by_order n ns o ≡ k ∷ ks) × ((k ≡ t) ⊎ (has_name k (n ∷ ns) ≡ true))) [
    | Less ↦ (t, n ∷ ns, refl, inl refl)
    | Equal ↦ (n, ns, refl, inr (and_parts (0 == 0) (has_name n (n ∷ ns)) (first_here n ns 0)).1)
    | Greater ↦ (n, with_name t ns, refl, inr (and_parts (0 == 0) (has_name n (n ∷ ns)) (first_here n ns 0)).1)
  ]

  -- a name is the new one or one of the old
  with_has : (x : PlainSum) (ns : List PlainSum) → has_name x (with_name t ns) ≡ true → (has_name x (t ∷ []) ≡ true) ⊎ (has_name x ns ≡ true)
  with_has x [] e = inl e
  with_has x (n ∷ ns) e = elim (sum_cmp t n) as (λ o. has_name x (by_order n ns o) ≡ true → (has_name x (t ∷ []) ≡ true) ⊎ (has_name x (n ∷ ns) ≡ true)) [
    | Less ↦ λ h. elim (or_cases (is_eq (sum_cmp t x)) (has_name x (n ∷ ns)) h) [
      | inl q ↦ inl (ap (λ b. b || false) q)
      | inr q ↦ inr q
    ]
    | Equal ↦ λ h. inr h
    | Greater ↦ λ h. elim (or_cases (is_eq (sum_cmp n x)) (has_name x (with_name t ns)) h) [
      | inl q ↦ inr (ap (λ b. b || has_name x ns) q)
      | inr q ↦ elim (with_has x ns q) [
        | inl r ↦ inl r
        | inr r ↦ inr (either (is_eq (sum_cmp n x)) (has_name x ns) r)
      ]
    ]
  ] e

  -- so it is at one region more at most
  at_with : (x : PlainSum) (y : ℕ) (ns : List PlainSum) (b : ℕ) → at_region x y (with_name t ns) b ≤ at_region x y ns b + at_region x y (t ∷ []) b
  at_with x y ns b =
      elim (b == y) as (λ o. from_bool (o && has_name x (with_name t ns)) ≤ from_bool (o && has_name x ns) + from_bool (o && has_name x (t ∷ []))) [
        | true ↦ (elim (has_name x (with_name t ns)) as (λ o. has_name x (with_name t ns) ≡ o → from_bool o ≤ from_bool (has_name x ns) + from_bool (has_name x (t ∷ []))) [
          | true ↦ λ e. elim (with_has x ns e) [
            | inl r ↦ omega (arith, ap from_bool r)
            | inr r ↦ omega (arith, ap from_bool r)
          ]
          | false ↦ λ e. omega arith
        ]) refl
        | false ↦ omega arith
      ]

  turned : (n : PlainSum) → sum_cmp t n ≡ Greater → is_lt (sum_cmp n t) ≡ true
  turned n e = ap is_lt (sum_total.antisymm n t ∙ ap ordering_reverse e)

  ascending_above : (n : PlainSum) (ms : List PlainSum) → is_lt (sum_cmp n t) ≡ true → ascending (n ∷ ms) ≡ true → ascending (n ∷ with_name t ms) ≡ true
  ascending_above n [] l e = and_from (is_lt (sum_cmp n t)) true l refl
  ascending_above n (m ∷ ms) l e =
      let p = and_parts (is_lt (sum_cmp n m)) (ascending (m ∷ ms)) e in
      (elim (sum_cmp t m) as (λ o. sum_cmp t m ≡ o → ascending (n ∷ by_order m ms o) ≡ true) [
        | Less ↦ λ q. and_from (is_lt (sum_cmp n t)) (ascending (t ∷ m ∷ ms)) l (and_from (is_lt (sum_cmp t m)) (ascending (m ∷ ms)) (ap is_lt q) p.1)
        | Equal ↦ λ q. e
        | Greater ↦ λ q. and_from (is_lt (sum_cmp n m)) (ascending (m ∷ with_name t ms)) p.0 (ascending_above m ms (turned m q) p.1)
      ]) refl

  ascending_with : (ns : List PlainSum) → ascending ns ≡ true → ascending (with_name t ns) ≡ true
  ascending_with [] e = refl
  ascending_with (n ∷ ms) e = (elim (sum_cmp t n) as (λ o. sum_cmp t n ≡ o → ascending (by_order n ms o) ≡ true) [
    | Less ↦ λ q. and_from (is_lt (sum_cmp t n)) (ascending (n ∷ ms)) (ap is_lt q) e
    | Equal ↦ λ q. e
    | Greater ↦ λ q. ascending_above n ms (turned n q) e
  ]) refl

  formed_with : (ns : List PlainSum) (b : ℕ) → is_formed ns b ≡ true → length ns < 8 → is_formed (with_name t ns) b ≡ true
  formed_with ns b f h =
      let p = and_parts (is_size b) (are_names ns) f in
      let q = and_parts (nat_le 1 (length ns)) (nat_le (length ns) 8 && ascending ns) p.1 in
      let r = and_parts (nat_le (length ns) 8) (ascending ns) q.1 in
      let k = first_with ns in
      and_from (is_size b) (are_names (with_name t ns)) p.0
      (and_from (nat_le 1 (length (with_name t ns))) (nat_le (length (with_name t ns)) 8 && ascending (with_name t ns)) (le-leb 1 (length (with_name t ns)) (omega (arith, ap length k.2)))
      (and_from (nat_le (length (with_name t ns)) 8) (ascending (with_name t ns)) (le-leb (length (with_name t ns)) 8 (omega (arith, length_with ns, h)))
      (ascending_with ns r.1)))

-- ---- the nodes

module _ (t at : PlainSum) (b : ℕ) where
  renamed_weigh : (g : List PlainSum → ℕ → ℕ) (k : ℕ) → ((ns : List PlainSum) → g (with_name t ns) b ≤ g ns b + k) → (f : PlainForest) → weigh g (renamed t at b f) ≤ weigh g f + k
  renamed_weigh g k more none = omega arith
  renamed_weigh g k more (cell ns c v under rest) =
      (elim (is_here at b ns c) as (λ o. is_here at b ns c ≡ o → weigh g (if o then insert (with_name t ns) c v under rest
      else if found at b under then cell ns c v (renamed t at b under) rest else insert ns c v under (renamed t at b rest)) ≤ weigh g (cell ns c v under rest) + k) [
        | true ↦ λ e.
            let size : c ≡ b = eqb-true c b (and_parts (c == b) (has_name at ns) e).0 in
            let Q : ℕ → Type 0 = λ d. g (with_name t ns) d ≤ g ns d + k in
            omega (arith, insert_weigh g (with_name t ns) c v under rest, subst Q (sym size) (more ns))
        | false ↦ λ e. elim (found at b under) as (λ o. weigh g (if o then cell ns c v (renamed t at b under) rest else insert ns c v under (renamed t at b rest)) ≤ weigh g (cell ns c v under rest) + k) [
          | true ↦ omega (arith, renamed_weigh g k more under)
          | false ↦ omega (arith, insert_weigh g ns c v under (renamed t at b rest), renamed_weigh g k more rest)
        ]
      ]) refl

  renamed_at : (x : PlainSum) (y : ℕ) (f : PlainForest) → count_at x y (renamed t at b f) ≤ count_at x y f + at_region x y (t ∷ []) b
  renamed_at x y f = omega (arith, renamed_weigh (at_region x y) (at_region x y (t ∷ []) b) (λ ns. at_with t x y ns b) f, count_at_weigh x y f, count_at_weigh x y (renamed t at b f))

  -- a node that is not at the new region is at another by its first name
  other_region : (n : PlainSum) (ns : List PlainSum) (c : ℕ) → is_here t b (n ∷ ns) c ≡ false → at_region n c (t ∷ []) b ≡ 0
  other_region n ns c e = (elim (is_here n c (t ∷ []) b) as (λ o. is_here n c (t ∷ []) b ≡ o → from_bool o ≡ 0) [
    | true ↦ λ h.
        let r = one_region n c t b h in
        let Q : PlainSum → ℕ → Type 0 = λ x d. is_here x d (n ∷ ns) c ≡ true in
        let here : is_here t b (n ∷ ns) c ≡ true = ap₂ (λ x d. is_here x d (n ∷ ns) c) r.0 r.1 ∙ first_here n ns c in
        let no : false ≡ true = sym e ∙ here in
        absurd (cc)
    | false ↦ λ h. refl
  ]) refl

  renamed_shaped : (f : PlainForest) → ((x : PlainSum) (y : ℕ) → count_at x y f ≤ 1) → count_at t b f ≡ 0 → has_name_left (find at b f) ≡ true → shaped f ≡ true → shaped (renamed t at b f) ≡ true
  renamed_shaped none h z l s = refl
  renamed_shaped (cell [] c v under rest) h z l s = absurd (no_name_here c (shaped_parts [] c v under rest s).formed)
  renamed_shaped (cell (n ∷ ns) c v under rest) h z l s =
      let p = shaped_parts (n ∷ ns) c v under rest s in
      let y = not_here t b (n ∷ ns) c v under rest z in
      let node : PlainNode = record { names = n ∷ ns; bytes = c; value = v; under = under } in
      (elim (is_here at b (n ∷ ns) c) as (λ o. is_here at b (n ∷ ns) c ≡ o → has_name_left (elim o as (λ t. Option PlainNode) [
        | true ↦ Some (record { names = n ∷ ns; bytes = c; value = v; under = under })
        | false ↦ elim (find at b under) as (λ o. Option PlainNode) [ Some c ↦ Some c | None ↦ find at b rest ]
      ]) ≡ true → shaped (if o then insert (with_name t (n ∷ ns)) c v under rest
      else if found at b under then cell (n ∷ ns) c v (renamed t at b under) rest else insert (n ∷ ns) c v under (renamed t at b rest)) ≡ true) [
        | true ↦ λ e q.
            let size : c ≡ b = eqb-true c b (and_parts (c == b) (has_name at (n ∷ ns)) e).0 in
            let k = first_with t (n ∷ ns) in
            let formed : is_formed (with_name t (n ∷ ns)) c ≡ true = formed_with t (n ∷ ns) c p.formed (ltb-true (length (n ∷ ns)) 8 q) in
            let zero_rest : count_at k.0 c rest ≡ 0 = elim k.3 [
              | inl r ↦ ap₂ (λ x d. count_at x d rest) r size ∙ y.2
              | inr r ↦ (others_not k.0 c (n ∷ ns) c v under rest (h k.0 c) (and_from (c == c) (has_name k.0 (n ∷ ns)) (eq-eqb c c refl) r)).1
            ] in
            ap (λ ms. shaped (insert ms c v under rest)) k.2 ∙ insert_shaped k.0 k.1 c v under rest (ap (λ ms. is_formed ms c) (sym k.2) ∙ formed) p.below p.others zero_rest
        | false ↦ λ e q. (elim (found at b under) as (λ o. found at b under ≡ o → shaped (if o then cell (n ∷ ns) c v (renamed t at b under) rest else insert (n ∷ ns) c v under (renamed t at b rest)) ≡ true) [
          | true ↦ λ g.
              shaped_from (n ∷ ns) c v (renamed t at b under) rest (record {
                formed = p.formed;
                first = p.first;
                below = renamed_shaped under (λ x d. omega (arith, h x d)) y.1 (left_under (find at b under) (find at b rest) (is_some-find at b under ∙ g) q) p.below;
                others = p.others;
              })
          | false ↦ λ g.
              let own : count_at n c rest ≡ 0 = (others_not n c (n ∷ ns) c v under rest (h n c) (first_here n ns c)).1 in
              let apart : at_region n c (t ∷ []) b ≡ 0 = other_region n ns c y.0 in
              insert_shaped n ns c v under (renamed t at b rest) p.formed p.below
              (renamed_shaped rest (λ x d. omega (arith, h x d)) y.2 (left_rest (find at b under) (find at b rest) (is_some-find at b under ∙ g) q) p.others)
              (omega (arith, renamed_at n c rest, own, apart))
        ]) refl
      ]) refl l

-- a forest to which one region came at most, which none was at, by the number of nodes at each
one_more : (t : PlainSum) (b : ℕ) (f g : PlainForest) → IsForest f → count_at t b f ≡ 0 → ((x : PlainSum) (y : ℕ) → count_at x y g ≤ count_at x y f + at_region x y (t ∷ []) b) → (x : PlainSum) (y : ℕ) → count_at x y g ≤ 1
one_more t b f g h z more x y =
    (elim (is_here x y (t ∷ []) b) as (λ o. is_here x y (t ∷ []) b ≡ o → count_at x y g ≤ count_at x y f + from_bool o → count_at x y g ≤ 1) [
      | true ↦ λ e k.
          let r = one_region x y t b e in
          let zero_there : count_at x y f ≡ 0 = ap₂ (λ n d. count_at n d f) (sym r.0) (sym r.1) ∙ z in
          omega (arith, zero_there, k)
      | false ↦ λ e k. omega (arith, k, h.single x y)
    ]) refl (more x y)

-- a forest in which a node got one more name
pub alias_forest : (t : PlainSum) (a : ℕ) (at : PlainSum) (b : ℕ) (f : PlainForest) → IsForest f → IsForest (alias t a at b f)
alias_forest t a at b f h = (elim (can_alias t a at b f) as (λ o. can_alias t a at b f ≡ o → IsForest (if o then renamed t at b f else f)) [
  | true ↦ λ e.
      let p = and_parts (has_name_left (find at b f)) ((a == b) && not (found t a f)) e in
      let q = and_parts (a == b) (not (found t a f)) p.1 in
      let size : a ≡ b = eqb-true a b q.0 in
      let gone : found t a f ≡ false = not_true (found t a f) q.1 in
      let z : count_at t b f ≡ 0 = ap (λ d. count_at t d f) (sym size) ∙ not_found t a f gone in
      record {
        few = omega (arith, renamed_weigh t at b each_one 0 (λ ns. omega arith) f, count_weigh f, count_weigh (renamed t at b f), h.few);
        in_form = renamed_shaped t at b f h.single z p.0 h.in_form;
        single = one_more t b f (renamed t at b f) h z (λ x y. renamed_at t at b x y f);
      }
  | false ↦ λ e. h
]) refl

named_some : (o : Option PlainNode) → has_name_left o ≡ true → is_some o ≡ true
named_some (Some c) e = refl
named_some None e = absurd (cc)

-- where a node can get one more name it is found
pub alias_found : (t : PlainSum) (a : ℕ) (at : PlainSum) (b : ℕ) (f : PlainForest) → can_alias t a at b f ≡ true → found at b f ≡ true
alias_found t a at b f e =
    let p = and_parts (has_name_left (find at b f)) ((a == b) && not (found t a f)) e in
    sym (is_some-find at b f) ∙ named_some (find at b f) p.0
