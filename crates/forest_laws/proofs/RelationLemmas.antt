-- What the answers of a relation tell.
use Rattle.std.proofs.Common.{◌≡◌, ℕ, ◌+◌, ◌^◌, ◌<◌, ◌≤◌, ◌⊎◌, inl, inr, Bool, true, false, List, [], ◌∷◌, refl, sym, ap, subst, ◌∙◌, arith}
use Rattle.std.specs.Prelude.{◌==◌, nat_le, if◌then◌else◌}
use Rattle.std.specs.List.{list_any}
use Rattle.std.specs.declared.cmp.Ordering.{Ordering}
use Rattle.std.specs.declared.cmp.Ordering.TheVariants.{Less, Equal, Greater}
use Rattle.std.specs.Ordering.{is_eq}
use Rattle.std.proofs.lemmas.Bool.{leb-true, eqb-true, and_parts, or_cases}
use Rattle.sym_terms.specs.Plain.{PlainSum}
use Rattle.sym_terms.specs.Order.{sum_cmp}
use Rattle.sym_terms.specs.Codes.{sum_same}
use Rattle.sym_terms.specs.Value.{Valuation, value}
use Rattle.memory_regions.specs.declared.region.Relation.{Relation}
use Rattle.memory_regions.specs.declared.region.Relation.TheVariants.{Alias, Separate, Inside, Around, Overlap, Unknown}
use Rattle.memory_regions.specs.Relate.{opposite, by_offset, same}
use Rattle.mem_forest.specs.Search.{is_here}
use Rattle.mem_forest.specs.Levels.{or_else, related, is_separate, is_inside, is_around}
use Rattle.forest_meaning.specs.Separate.{past, Separate as Apart, Within}
use Rattle.forest_meaning.specs.Holds.{AllAre, address}
use Rattle.forest_laws.proofs.AddressLemmas.{address_below}

-- ---- the same term

pub is_equal : (o : Ordering) → is_eq o ≡ true → o ≡ Equal
is_equal Less e = absurd (cc)
is_equal Equal e = refl
is_equal Greater e = absurd (cc)

pub same_term : (s t : PlainSum) → same s t ≡ true → s ≡ t
same_term s t e = sum_same s t (is_equal (sum_cmp s t) e)

pub any_named : (u : Valuation) (x : ℕ) (at : PlainSum) (ns : List PlainSum) → AllAre u x ns → list_any (λ n. same n at) ns ≡ true → x ≡ value u at
any_named u x at [] h e = absurd (cc)
any_named u x at (n ∷ ns) h e = elim (or_cases (same n at) (list_any (λ n. same n at) ns) e) [
  | inl p ↦ sym h.0 ∙ ap (value u) (same_term n at p)
  | inr p ↦ any_named u x at ns h.1 p
]

pub here_bytes : (at : PlainSum) (a : ℕ) (ns : List PlainSum) (b : ℕ) → is_here at a ns b ≡ true → b ≡ a
here_bytes at a ns b e = eqb-true b a (and_parts (b == a) (list_any (λ n. same n at) ns) e).0

pub here_at : (u : Valuation) (at : PlainSum) (a : ℕ) (ns : List PlainSum) (b : ℕ) → AllAre u (address u ns) ns → is_here at a ns b ≡ true → address u ns ≡ value u at
here_at u at a ns b h e = any_named u (address u ns) at ns h (and_parts (b == a) (list_any (λ n. same n at) ns) e).1

-- ---- the answer by both differences

abbrev chosen : Bool → Bool → Bool → Bool → Relation
chosen p q r s = if p then Alias else if q then Separate else if r then Around else if s then Inside else Overlap

chosen_separate : (p q r s : Bool) → chosen p q r s ≡ Separate → q ≡ true
chosen_separate true q r s e = absurd (cc)
chosen_separate false true r s e = refl
chosen_separate false false true s e = absurd (cc)
chosen_separate false false false true e = absurd (cc)
chosen_separate false false false false e = absurd (cc)

chosen_around : (p q r s : Bool) → chosen p q r s ≡ Around → r ≡ true
chosen_around true q r s e = absurd (cc)
chosen_around false true r s e = absurd (cc)
chosen_around false false true s e = refl
chosen_around false false false true e = absurd (cc)
chosen_around false false false false e = absurd (cc)

chosen_inside : (p q r s : Bool) → chosen p q r s ≡ Inside → s ≡ true
chosen_inside true q r s e = absurd (cc)
chosen_inside false true r s e = absurd (cc)
chosen_inside false false true s e = absurd (cc)
chosen_inside false false false true e = refl
chosen_inside false false false false e = absurd (cc)

pub opposite-past : (x y : ℕ) → x < 2 ^ 64 → y < 2 ^ 64 → opposite (past x y) ≡ past y x
opposite-past x y hx hy = omega arith

pub offset_apart : (x a y b : ℕ) → x < 2 ^ 64 → y < 2 ^ 64 → by_offset (past x y) a b ≡ Separate → Apart x a y b
offset_apart x a y b hx hy e =
    let p = and_parts (nat_le a (past x y)) (nat_le b (opposite (past x y))) (chosen_separate _ _ _ _ e) in record {
      after = leb-true a (past x y) p.0;
      before = subst (λ k. b ≤ k) (opposite-past x y hx hy) (leb-true b (opposite (past x y)) p.1);
    }

pub offset_around : (x a y b : ℕ) → by_offset (past x y) a b ≡ Around → Within y b x a
offset_around x a y b e = record { in_it = leb-true (past x y + b) a (chosen_around _ _ _ _ e) }

pub offset_inside : (x a y b : ℕ) → x < 2 ^ 64 → y < 2 ^ 64 → by_offset (past x y) a b ≡ Inside → Within x a y b
offset_inside x a y b hx hy e =
    record { in_it = subst (λ k. k + a ≤ b) (opposite-past x y hx hy) (leb-true (opposite (past x y) + a) b (chosen_inside _ _ _ _ e)) }

-- ---- the relation to a node

-- where the answer isn't Unknown it is k
abbrev pub Answers : Relation → Relation → Type 0
Answers o k = (o ≡ Unknown) ⊎ (o ≡ k)

else_tells : (o r k : Relation) → Answers o k → Answers r k → Answers (or_else o r) k
else_tells Unknown r k p q = q
else_tells Alias r k p q = p
else_tells Separate r k p q = p
else_tells Inside r k p q = p
else_tells Around r k p q = p
else_tells Overlap r k p q = p

-- the relation of a bytes at x to a name and a size, where it isn't Unknown, is that of the values
abbrev pub IsTrueRelation : Valuation → ℕ → ℕ → (PlainSum → ℕ → Relation) → Type 0
IsTrueRelation u x a rel = (n : PlainSum) (b : ℕ) → 1 ≤ b → Answers (rel n b) (by_offset (past x (value u n)) a b)

module _ (u : Valuation) (x a : ℕ) (hx : x < 2 ^ 64) (rel : PlainSum → ℕ → Relation) (is_true : IsTrueRelation u x a rel) where
  related_tells : (y : ℕ) (ns : List PlainSum) (b : ℕ) → 1 ≤ b → AllAre u y ns → Answers (related rel ns b) (by_offset (past x y) a b)
  related_tells y [] b s h = inl refl
  related_tells y (n ∷ ns) b s h =
      else_tells (rel n b) (related rel ns b) (by_offset (past x y) a b)
      (subst (λ z. Answers (rel n b) (by_offset (past x z) a b)) h.0 (is_true n b s)) (related_tells y ns b s h.1)

  separate_from : (o k : Relation) → Answers o k → is_separate o ≡ true → k ≡ Separate
  separate_from Separate k (inl p) e = absurd (cc)
  separate_from Separate k (inr p) e = sym p
  separate_from Unknown k p e = absurd (cc)
  separate_from Alias k p e = absurd (cc)
  separate_from Inside k p e = absurd (cc)
  separate_from Around k p e = absurd (cc)
  separate_from Overlap k p e = absurd (cc)

  inside_from : (o k : Relation) → Answers o k → is_inside o ≡ true → k ≡ Inside
  inside_from Inside k (inl p) e = absurd (cc)
  inside_from Inside k (inr p) e = sym p
  inside_from Unknown k p e = absurd (cc)
  inside_from Alias k p e = absurd (cc)
  inside_from Separate k p e = absurd (cc)
  inside_from Around k p e = absurd (cc)
  inside_from Overlap k p e = absurd (cc)

  around_from : (o k : Relation) → Answers o k → is_around o ≡ true → k ≡ Around
  around_from Around k (inl p) e = absurd (cc)
  around_from Around k (inr p) e = sym p
  around_from Unknown k p e = absurd (cc)
  around_from Alias k p e = absurd (cc)
  around_from Separate k p e = absurd (cc)
  around_from Inside k p e = absurd (cc)
  around_from Overlap k p e = absurd (cc)

  pub separate_tells : (ns : List PlainSum) (b : ℕ) → 1 ≤ b → AllAre u (address u ns) ns → is_separate (related rel ns b) ≡ true → Apart x a (address u ns) b
  separate_tells ns b s h e =
      offset_apart x a (address u ns) b hx (address_below u ns) (separate_from (related rel ns b) _ (related_tells (address u ns) ns b s h) e)

  pub inside_tells : (ns : List PlainSum) (b : ℕ) → 1 ≤ b → AllAre u (address u ns) ns → is_inside (related rel ns b) ≡ true → Within x a (address u ns) b
  inside_tells ns b s h e =
      offset_inside x a (address u ns) b hx (address_below u ns) (inside_from (related rel ns b) _ (related_tells (address u ns) ns b s h) e)

  pub around_tells : (ns : List PlainSum) (b : ℕ) → 1 ≤ b → AllAre u (address u ns) ns → is_around (related rel ns b) ≡ true → Within (address u ns) b x a
  around_tells ns b s h e = offset_around x a (address u ns) b (around_from (related rel ns b) _ (related_tells (address u ns) ns b s h) e)
