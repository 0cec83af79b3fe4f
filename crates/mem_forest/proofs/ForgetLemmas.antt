-- One more node of a level from which a symbol goes, from the last on.
use Rattle.std.proofs.Common.{◌≡◌, ℕ, zero, suc, ◌+◌, ◌<◌, ◌≤◌, List, [], ◌∷◌, take, drop, length, slice_set, slice_index_or, true, false, refl, sym, ap, ◌∙◌, arith}
use Rattle.std.proofs.lemmas.List.{take-take, take-set, drop-set-lt, get_or-take, get_or-set_same}
use Rattle.std.specs.Prelude.{◌==◌}
use Rattle.std.specs.List.{remove}
use Rattle.std.proofs.lemmas.Bool.{eqb-true}
use Rattle.sym_terms.specs.declared.kinds.Sym.{Sym}
use Rattle.sym_terms.specs.Plain.{PlainSum}
use Rattle.mem_forest.specs.Plain.{PlainNode, cells}
use Rattle.mem_forest.specs.Levels.{insert}
use Rattle.mem_forest.specs.Forget.{unmentioned, unmentioned_value, insert_named, forget}
use Rattle.mem_forest.proofs.FrontLemmas.{cells_from}

-- a node without what mentions a symbol
abbrev pub forgotten : Sym → PlainNode → PlainNode
forgotten s z = record { names = unmentioned s z.names; bytes = z.bytes; value = unmentioned_value s z.value; under = forget s z.under }

-- fewer first items are the same where more are
pub take_fewer : (xs ys : List PlainNode) (i n : ℕ) → i ≤ n → take n xs ≡ take n ys → take i xs ≡ take i ys
take_fewer xs ys i n h e = sym (take-take i n xs h) ∙ ap (take i) e ∙ take-take i n ys h

pub get_fewer : (xs ys : List PlainNode) (i n : ℕ) (d : PlainNode) → i < n → take n xs ≡ take n ys → slice_index_or xs i d ≡ slice_index_or ys i d
get_fewer xs ys i n d h e = sym (get_or-take n xs i d h) ∙ ap (λ ns. slice_index_or ns i d) e ∙ get_or-take n ys i d h

-- names that are there have a first one
pub first_name : (ns : List PlainSum) → (length ns == 0) ≡ false → (n : PlainSum) × (ms : List PlainSum) × (ns ≡ n ∷ ms)
first_name [] e = absurd (cc)
first_name (n ∷ ns) e = (n, ns, refl)

pub no_name : (ns : List PlainSum) → (length ns == 0) ≡ true → ns ≡ []
no_name [] e = refl
no_name (n ∷ ns) e = let q : suc (length ns) ≡ 0 = eqb-true (suc (length ns)) 0 e in absurd (omega (arith, q))

-- the items after one that goes
pub drop-removed : (xs : List PlainNode) (i : ℕ) → drop i (remove xs i) ≡ drop (i + 1) xs
drop-removed [] zero = refl
drop-removed [] (suc i) = let e : suc i + 1 ≡ suc (i + 1) = omega arith in rw e refl
drop-removed (x ∷ xs) zero = refl
drop-removed (x ∷ xs) (suc i) = let e : suc i + 1 ≡ suc (i + 1) = omega arith in rw e (drop-removed xs i)

pub take-removed : (xs : List PlainNode) (i : ℕ) → take i (remove xs i) ≡ take i xs
take-removed [] zero = refl
take-removed [] (suc i) = refl
take-removed (x ∷ xs) zero = refl
take-removed (x ∷ xs) (suc i) = ap (λ ns. x ∷ ns) (take-removed xs i)

-- `old` is the level as it was, xs that of which the nodes from i + 1 on are done, z its node i and y what z has become
module _ (s : Sym) (old xs : List PlainNode) (i : ℕ) (d z y : PlainNode)
    (is_z : z ≡ slice_index_or xs i d) (within : i < length xs) (is_y : y ≡ forgotten s z)
    (before : take (i + 1) xs ≡ take (i + 1) old) (inside : i < length old) (after : cells (drop (i + 1) xs) ≡ forget s (cells (drop (i + 1) old))) where
  -- the node that stood there
  forget_from : forget s (cells (drop i old)) ≡ insert_named y.names y.bytes y.value y.under (cells (drop (i + 1) xs))
  forget_from =
      ap (forget s) (cells_from old i d z (is_z ∙ get_fewer xs old i (i + 1) d (omega arith) before) inside)
      ∙ ap (λ f. insert_named (unmentioned s z.names) z.bytes (unmentioned_value s z.value) (forget s z.under) f) (sym after)
      ∙ ap (λ n. insert_named n.names n.bytes n.value n.under (cells (drop (i + 1) xs))) (sym is_y)

  pub take_changed : take i (slice_set xs i y) ≡ take i old
  take_changed = take-set xs i y ∙ take_fewer xs old i (i + 1) (omega arith) before

  -- it goes, where it has no name
  pub forget_gone : y.names ≡ [] → cells (drop i (remove (slice_set xs i y) i)) ≡ forget s (cells (drop i old))
  forget_gone e =
      ap cells (drop-removed (slice_set xs i y) i) ∙ ap cells (drop-set-lt (i + 1) xs i y (omega arith))
      ∙ sym (forget_from ∙ ap (λ ns. insert_named ns y.bytes y.value y.under (cells (drop (i + 1) xs))) e)

  -- else it comes to its place
  pub forget_placed : (ns : List PlainSum) (n : PlainSum) (new : List PlainNode) → y.names ≡ n ∷ ns → ((e : PlainNode) → cells (drop i new) ≡ insert (slice_index_or (slice_set xs i y) i e).names (slice_index_or (slice_set xs i y) i e).bytes (slice_index_or (slice_set xs i y) i e).value (slice_index_or (slice_set xs i y) i e).under (cells (drop (i + 1) (slice_set xs i y))))
      → cells (drop i new) ≡ forget s (cells (drop i old))
  forget_placed ns n new e placed =
      placed d
      ∙ ap (λ m. insert m.names m.bytes m.value m.under (cells (drop (i + 1) (slice_set xs i y)))) (get_or-set_same xs i y d within)
      ∙ ap (λ ms. insert y.names y.bytes y.value y.under (cells ms)) (drop-set-lt (i + 1) xs i y (omega arith))
      ∙ ap (λ ms. insert ms y.bytes y.value y.under (cells (drop (i + 1) xs))) e
      ∙ sym (forget_from ∙ ap (λ ms. insert_named ms y.bytes y.value y.under (cells (drop (i + 1) xs))) e)
