-- A level of which only some nodes stay, from the last on.
use Rattle.std.proofs.Common.{◌≡◌, ℕ, zero, suc, ◌+◌, ◌<◌, ◌≤◌, List, [], ◌∷◌, ◌++◌, take, drop, length, Option, Some, None, slice_set, slice_index_or, get_or, refl, sym, ap, ap₂, ◌∙◌, arith}
use Rattle.std.specs.List.{remove}
use Rattle.std.proofs.lemmas.List.{drop-set, take-take, get_or-take, drop-set-lt, append_assoc}
use Rattle.std.proofs.Math.Seq.{take-suc-set, drop-cons}
use Rattle.std.specs.Prelude.{if◌then◌else◌}
use Rattle.bank_values.specs.Numbered.{NumberForest, spot, NumberNode, level}
use Rattle.bank_values.specs.Weaken.{holds_number, weaker_numbers, number_holder, weaker_forest}

take_fewer : {A : Type 0} (xs ys : List A) (i n : ℕ) → i ≤ n → take n xs ≡ take n ys → take i xs ≡ take i ys
take_fewer xs ys i n h e = sym (take-take i n xs h) ∙ ap (take i) e ∙ take-take i n ys h

get_fewer : {A : Type 0} (xs ys : List A) (i n : ℕ) (d : A) → i < n → take n xs ≡ take n ys → slice_index_or xs i d ≡ slice_index_or ys i d
get_fewer xs ys i n d h e = sym (get_or-take n xs i d h) ∙ ap (λ ns. slice_index_or ns i d) e ∙ get_or-take n ys i d h

pub drop_removed : {A : Type 0} (xs : List A) (i : ℕ) → drop i (remove xs i) ≡ drop (i + 1) xs
drop_removed [] zero = refl
drop_removed [] (suc i) = let e : suc i + 1 ≡ suc (i + 1) = omega arith in rw e refl
drop_removed (x ∷ xs) zero = refl
drop_removed (x ∷ xs) (suc i) = let e : suc i + 1 ≡ suc (i + 1) = omega arith in rw e (drop_removed xs i)

pub take_removed : {A : Type 0} (xs : List A) (i : ℕ) → take i (remove xs i) ≡ take i xs
take_removed [] zero = refl
take_removed [] (suc i) = refl
take_removed (x ∷ xs) zero = refl
take_removed (x ∷ xs) (suc i) = ap (λ ns. x ∷ ns) (take_removed xs i)

level_from : (xs : List NumberNode) (i : ℕ) (d z : NumberNode) → z ≡ slice_index_or xs i d → i < length xs → level (drop i xs) ≡ spot z.names z.bytes z.value z.under (level (drop (i + 1) xs))
level_from [] i d z e h = absurd (omega arith)
level_from (x ∷ xs) zero d z e h = ap (λ n. spot n.names n.bytes n.value n.under (level xs)) (sym e)
level_from (x ∷ xs) (suc i) d z e h = let q : suc i + 1 ≡ suc (i + 1) = omega arith in rw q (level_from xs i d z e (omega arith))

module _ (held : NumberForest) (old xs : List NumberNode) (i : ℕ) (d z : NumberNode)
    (is_z : z ≡ slice_index_or xs i d) (within : i < length xs)
    (before : take (i + 1) xs ≡ take (i + 1) old) (inside : i < length old) (after : level (drop (i + 1) xs) ≡ weaker_forest held (level (drop (i + 1) old))) where
  abbrev left_by : Option NumberNode → NumberForest
  left_by o = elim o as (λ o. NumberForest) [
    | Some c ↦ spot z.names z.bytes z.value (weaker_forest c.under z.under) (level (drop (i + 1) xs))
    | None ↦ level (drop (i + 1) xs)
  ]

  from : (o : Option NumberNode) → number_holder held z.names z.bytes z.value ≡ o → weaker_forest held (level (drop i old)) ≡ left_by o
  from o e =
      ap (weaker_forest held) (level_from old i d z (is_z ∙ get_fewer xs old i (i + 1) d (omega arith) before) inside)
      ∙ ap (λ f. elim (number_holder held z.names z.bytes z.value) as (λ o. NumberForest) [ Some c ↦ spot z.names z.bytes z.value (weaker_forest c.under z.under) f | None ↦ f ]) (sym after)
      ∙ ap left_by e

  -- a node with a holder stays
  pub stays : (c y : NumberNode) → number_holder held z.names z.bytes z.value ≡ Some c → y ≡ record { names = z.names; bytes = z.bytes; value = z.value; under = weaker_forest c.under z.under }
      → level (drop i (slice_set xs i y)) ≡ weaker_forest held (level (drop i old))
  stays c y e is_y =
      ap level (drop-set xs i y within) ∙ ap (λ n. spot n.names n.bytes n.value n.under (level (drop (i + 1) xs))) is_y ∙ sym (from (Some c) e)

  -- one without goes
  pub goes : number_holder held z.names z.bytes z.value ≡ None → level (drop i (remove xs i)) ≡ weaker_forest held (level (drop i old))
  goes e = ap level (drop_removed xs i) ∙ sym (from None e)

  -- those before it are as they were
  pub earlier : take i xs ≡ take i old
  earlier = take_fewer xs old i (i + 1) (omega arith) before

module _ (held xs old : List (Option ℕ)) (i : ℕ) (d e : Option ℕ) (inside : i < length xs) (within : i < length held) where
  abbrev y : Option ℕ
  y = if holds_number (get_or held i e) (get_or xs i d) then get_or xs i d else None

  here : weaker_numbers (drop i held) (drop i xs) ≡ y ∷ weaker_numbers (drop (suc i) held) (drop (suc i) xs)
  here = ap₂ weaker_numbers (drop-cons held i e within) (drop-cons xs i d inside)

  -- one more number is weakened
  pub one_weaker : take i xs ++ weaker_numbers (drop i held) (drop i xs) ≡ weaker_numbers held old
      → take (i + 1) (slice_set xs i y) ++ weaker_numbers (drop (i + 1) held) (drop (i + 1) (slice_set xs i y)) ≡ weaker_numbers held old
  one_weaker h =
      let n : i + 1 ≡ suc i = omega arith in
      let first : take (i + 1) (slice_set xs i y) ≡ take i xs ++ y ∷ [] = ap (λ k. take k (slice_set xs i y)) n ∙ take-suc-set xs i y inside in
      let rest : drop (i + 1) (slice_set xs i y) ≡ drop (i + 1) xs = drop-set-lt (i + 1) xs i y (omega arith) in
      ap₂ (λ a b. a ++ weaker_numbers (drop (i + 1) held) b) first rest ∙ append_assoc (take i xs) (y ∷ []) (weaker_numbers (drop (i + 1) held) (drop (i + 1) xs))
      ∙ ap (λ k. take i xs ++ y ∷ weaker_numbers (drop k held) (drop k xs)) n ∙ sym (ap (λ ns. take i xs ++ ns) here) ∙ h
