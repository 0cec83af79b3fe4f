-- A store whose size is the bytes of a width; and a bound that stays where others go.
use Rattle.std.proofs.Common.{◌≡◌, ℕ, ◌+◌, ◌-◌, ◌≤◌, Bool, true, List, ◌∷◌, take, drop, length, Option, Some, slice_index_or, filter, sym, ap, ◌∙◌, subst, arith}
use Rattle.std.specs.Prelude.{cond}
use Rattle.std.proofs.lemmas.List.{drop_more, take-take, get_or-take}
use Rattle.bits_core.specs.declared.width.Width.{Width}
use Rattle.bits_core.specs.Width.{bytes_of}
use Rattle.sym_terms.specs.Plain.{PlainSum}
use Rattle.memory_regions.specs.Relate.{relate}
use Rattle.mem_forest.specs.Plain.{PlainForest}
use Rattle.mem_forest.specs.Store.{store}
use Rattle.predicates.specs.Predicate.{Predicate}
use Rattle.step_rules.specs.View.{View}
use Rattle.step_rules.specs.Access.{with_bytes}

-- a store of n bytes, the bytes of a width, at a known address
pub store_width : (v : View) (p : Predicate) (f : PlainForest) (n : ℕ) (w : Width) (o : Option PlainSum) (at : PlainSum) (t : Option PlainSum)
    → n ≡ bytes_of w → o ≡ Some at → f ≡ store (relate v.known at n) at n t p.forest → record p { forest = f } ≡ with_bytes v p (bytes_of w) o t
unfolding with_bytes
store_width v p f n w o at t e is h =
    let g : f ≡ store (relate v.known at (bytes_of w)) at (bytes_of w) t p.forest = subst (λ n. f ≡ store (relate v.known at n) at n t p.forest) e h in
    subst (λ (o : Option PlainSum). record p { forest = f } ≡ with_bytes v p (bytes_of w) o t) (sym is) (λ i. record p { forest = g i })

-- xs is what is left of old with the items from `left` on done: one more, that passes, stays
module _ {X : Type 0} (p : X → Bool) (old xs : List X) (left : ℕ) (z : X) (some : 1 ≤ left) (within : left ≤ length xs) (inside : left ≤ length old)
    (before : take left xs ≡ take left old) (after : drop left xs ≡ filter p (drop left old)) (is_z : z ≡ slice_index_or xs (left - 1) z) (passes : true ≡ p z) where
  last : left - 1 + 1 ≡ left
  last = omega arith

  same_item : slice_index_or old (left - 1) z ≡ z
  same_item =
      sym (get_or-take left old (left - 1) z (omega arith)) ∙ ap (λ ns. slice_index_or ns (left - 1) z) (sym before) ∙ get_or-take left xs (left - 1) z (omega arith) ∙ sym is_z

  first : (ys : List X) → left ≤ length ys → slice_index_or ys (left - 1) z ≡ z → drop (left - 1) ys ≡ z ∷ drop left ys
  first ys h e = drop_more ys (left - 1) z (omega arith) ∙ ap (λ y. y ∷ drop (left - 1 + 1) ys) e ∙ ap (λ n. z ∷ drop n ys) last

  pub one_stays : record { within : left - 1 ≤ length xs; inside : left - 1 ≤ length old; before : take (left - 1) xs ≡ take (left - 1) old; weaker : drop (left - 1) xs ≡ filter p (drop (left - 1) old) }
  one_stays = record {
    within = omega arith;
    inside = omega arith;
    before = sym (take-take (left - 1) left xs (omega arith)) ∙ ap (take (left - 1)) before ∙ take-take (left - 1) left old (omega arith);
    weaker = first xs within (sym is_z) ∙ ap (λ ys. z ∷ ys) after
        ∙ ap (λ b. cond b (z ∷ filter p (drop left old)) (filter p (drop left old))) passes ∙ ap (filter p) (sym (first old inside same_item));
  }
