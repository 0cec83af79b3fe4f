-- A difference is a constant exactly where the pieces are the same.
use Rattle.std.proofs.Common.{◌≡◌, ℕ, zero, suc, ◌+◌, ◌*◌, ◌-◌, ◌%◌, ◌^◌, ◌<◌, true, false, Some, None, refl, sym, ap, ap₂, subst, ◌∙◌, arith}
use Rattle.std.specs.declared.cmp.Ordering.{Ordering}
use Rattle.std.specs.declared.cmp.Ordering.TheVariants.{Less, Equal, Greater}
use Rattle.std.specs.Ordering.{is_eq}
use Rattle.std.specs.Cmp.{tied_itself}
use Rattle.sym_terms.specs.Plain.{PlainSum, sum, Summands, none, more, PlainAtom, constant_alone}
use Rattle.sym_terms.specs.Order.{atom_cmp, pieces_cmp}
use Rattle.sym_terms.specs.Codes.{atom_same, pieces_same, atom_total, pieces_total}
use Rattle.sym_terms.specs.Normal.{joined, plus_times_pieces, plus_times, minus, IsNormal, AreNormal}
use Rattle.sym_terms.proofs.AtomLemmas.{equal_from}

-- a number less itself is 0
cancelled : (k : ℕ) → (k + (2 ^ 64 - 1) * k) % 2 ^ 64 ≡ 0
cancelled k = omega arith

uncancelled : (k l : ℕ) → k < 2 ^ 64 → 0 < l → l < 2 ^ 64 → (k + (2 ^ 64 - 1) * l) % 2 ^ 64 ≡ 0 → k ≡ l
uncancelled k l h i j e = omega arith

-- a number that isn't 0, times -1, isn't 0
negative : (l : ℕ) → 0 < l → l < 2 ^ 64 → 0 < (2 ^ 64 - 1) * l % 2 ^ 64
negative l h i = omega arith

-- the merge of the pieces a, k, xs and b, l, ys at a factor, by the order of the two atoms
abbrev merged : PlainAtom → ℕ → Summands → PlainAtom → ℕ → Summands → Ordering → Summands
merged a k xs b l ys o = elim o as (λ o. Summands) [
  | Less ↦ more a k (plus_times_pieces xs (2 ^ 64 - 1) (more b l ys))
  | Equal ↦ joined a ((k + (2 ^ 64 - 1) * l) % 2 ^ 64) (plus_times_pieces xs (2 ^ 64 - 1) ys)
  | Greater ↦ joined b ((2 ^ 64 - 1) * l % 2 ^ 64) (plus_times_pieces (more a k xs) (2 ^ 64 - 1) ys)
]

-- pieces less themselves are none
itself_gone : (xs : Summands) → plus_times_pieces xs (2 ^ 64 - 1) xs ≡ none
itself_gone none = refl
itself_gone (more a k xs) =
    ap (merged a k xs a k xs) (tied_itself atom_total a)
    ∙ ap (λ n. joined a n (plus_times_pieces xs (2 ^ 64 - 1) xs)) (cancelled k)
    ∙ itself_gone xs

-- nothing is left of a piece and a rest only where neither is there
joined_none : (a : PlainAtom) (k : ℕ) (xs : Summands) → joined a k xs ≡ none → (k ≡ 0) × (xs ≡ none)
joined_none a zero xs e = (refl, e)
joined_none a (suc k) xs e = absurd (cc)

-- a piece of the second term alone is not gone
still_there : (b : PlainAtom) (l : ℕ) (xs : Summands) → 0 < l → l < 2 ^ 64 → joined b ((2 ^ 64 - 1) * l % 2 ^ 64) xs ≡ none → none ≡ more b l xs
still_there b l xs h i e = let p = joined_none b ((2 ^ 64 - 1) * l % 2 ^ 64) xs e in let n = negative l h i in absurd (omega (arith, p.0))

-- normal pieces whose difference is none are the same
gone_same : (xs ys : Summands) → AreNormal xs → AreNormal ys → plus_times_pieces xs (2 ^ 64 - 1) ys ≡ none → xs ≡ ys
gone_same none none nx ny e = refl
gone_same none (more b l ys) nx ny e = let p = still_there b l (plus_times_pieces none (2 ^ 64 - 1) ys) ny.1 ny.2 e in absurd (cc)
gone_same (more a k xs) none nx ny e = absurd (cc)
gone_same (more a k xs) (more b l ys) nx ny e =
    (elim (atom_cmp a b) as (λ o. atom_cmp a b ≡ o → merged a k xs b l ys o ≡ none → more a k xs ≡ more b l ys) [
      | Less ↦ λ o g. absurd (cc)
      | Equal ↦ λ o g.
          let p = joined_none a ((k + (2 ^ 64 - 1) * l) % 2 ^ 64) (plus_times_pieces xs (2 ^ 64 - 1) ys) g in
          λ i. more (atom_same a b o i) (uncancelled k l nx.2 ny.1 ny.2 p.0 i) (gone_same xs ys nx.4 ny.4 p.1 i)
      | Greater ↦ λ o g. let p = still_there b l (plus_times_pieces (more a k xs) (2 ^ 64 - 1) ys) ny.1 ny.2 g in absurd (cc)
    ]) refl e

-- pieces that are there make no constant
not_none : (c : ℕ) (xs : Summands) → (xs ≡ none → ⊥) → constant_alone (sum c xs) ≡ None
not_none c none h = absurd (h refl)
not_none c (more a k xs) h = refl

-- to add the complement is to add -1 times the number
wrapped : (c d : ℕ) → d < 2 ^ 64 → (c + (2 ^ 64 - d)) % 2 ^ 64 ≡ (c + (2 ^ 64 - 1) * d) % 2 ^ 64
wrapped c d h = omega arith

-- equal pieces have the constant difference
same_offset : (c d : ℕ) (xs ys : Summands) → d < 2 ^ 64 → is_eq (pieces_cmp xs ys) ≡ true → Some ((c + (2 ^ 64 - d)) % 2 ^ 64) ≡ constant_alone (minus (sum c xs) (sum d ys))
unfolding plus_times
same_offset c d xs ys h e =
    ap Some (wrapped c d h)
    ∙ sym (ap (λ zs. constant_alone (sum ((c + (2 ^ 64 - 1) * d) % 2 ^ 64) zs))
    (ap (λ zs. plus_times_pieces zs (2 ^ 64 - 1) ys) (pieces_same xs ys (equal_from _ e)) ∙ itself_gone ys))

-- other pieces have none
other_offset : (c d : ℕ) (xs ys : Summands) → AreNormal xs → AreNormal ys → is_eq (pieces_cmp xs ys) ≡ false → None ≡ constant_alone (minus (sum c xs) (sum d ys))
unfolding plus_times
other_offset c d xs ys nx ny e =
    sym (not_none _ _ (λ g.
    let h : is_eq (pieces_cmp xs ys) ≡ true = ap is_eq (ap (pieces_cmp xs) (sym (gone_same xs ys nx ny g)) ∙ tied_itself pieces_total xs) in
    absurd (cc)))

module _ (a b : PlainSum) (c d : ℕ) (xs ys : Summands) (is_a : sum c xs ≡ a) (is_b : sum d ys ≡ b) (na : IsNormal a) (nb : IsNormal b) where
  -- the first term is normal
  normal_a : IsNormal (sum c xs)
  normal_a = subst IsNormal (sym is_a) na

  -- so is the second
  normal_b : IsNormal (sum d ys)
  normal_b = subst IsNormal (sym is_b) nb

  -- what the code answers, by the comparison of the pieces
  pub offset_known : is_eq (pieces_cmp xs ys) ≡ true → Some ((c + (2 ^ 64 - d)) % 2 ^ 64) ≡ constant_alone (minus a b)
  offset_known e = same_offset c d xs ys normal_b.0 e ∙ ap₂ (λ s t. constant_alone (minus s t)) is_a is_b

  -- and where the pieces differ
  pub offset_unknown : is_eq (pieces_cmp xs ys) ≡ false → None ≡ constant_alone (minus a b)
  offset_unknown e = other_offset c d xs ys normal_a.1 normal_b.1 e ∙ ap₂ (λ s t. constant_alone (minus s t)) is_a is_b
