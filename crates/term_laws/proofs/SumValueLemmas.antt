-- The value of a sum of terms is the sum of their values.
use Rattle.std.proofs.Common.{◌≡◌, ℕ, zero, suc, ◌+◌, ◌*◌, ◌%◌, ◌^◌, refl, sym, ap, ◌∙◌, add_assoc, arith}
use Rattle.std.proofs.Math.Nat.{add-mod-mod, mod-add-mod, add-mul, mul-add, mul_assoc}
use Rattle.std.proofs.lemmas.Nat.{mul-mod_first, mul-mod_second}
use Rattle.std.specs.declared.cmp.Ordering.TheVariants.{Less, Equal, Greater}
use Rattle.sym_terms.specs.Plain.{PlainSum, sum, Summands, none, more, PlainAtom}
use Rattle.sym_terms.specs.Order.{atom_cmp}
use Rattle.sym_terms.specs.Codes.{atom_same}
use Rattle.sym_terms.specs.Value.{Valuation, value, value_of_pieces, value_of_atom}
use Rattle.sym_terms.specs.Normal.{joined, plus_times_pieces, plus_times}

-- numbers of one remainder may stand for one another in a sum
keeps_mod : (z x y m : ℕ) → x % m ≡ y % m → (z + x) % m ≡ (z + y) % m
keeps_mod z x y m e = sym (add-mod-mod z x m) ∙ ap (λ n. (z + n) % m) e ∙ add-mod-mod z y m

-- so may both parts of it
both_mod : (a b c d m : ℕ) → a % m ≡ b % m → c % m ≡ d % m → (a + c) % m ≡ (b + d) % m
both_mod a b c d m e f = sym (mod-add-mod a m c) ∙ ap (λ n. (n + c) % m) e ∙ mod-add-mod b m c ∙ keeps_mod b c d m f

-- nothing is added
no_more : (r m : ℕ) → r ≡ r + m * 0
no_more r m = omega arith

-- a product with a sum of a product
distributed : (m l w s : ℕ) → m * (l * w + s) ≡ m * l * w + m * s
distributed m l w s = mul-add m (l * w) s ∙ ap (λ n. n + m * s) (sym (mul_assoc m l w))

-- a term of a sum, moved
moved : (t r z q : ℕ) → q ≡ t + z → t + (r + z) ≡ r + q
moved t r z q e = omega arith

-- terms of two sums, grouped anew
regrouped : (a t r z q : ℕ) → q ≡ t + z → a + t + (r + z) ≡ a + r + q
regrouped a t r z q e = omega arith

-- a piece of the second term alone, and one of both, each modulo q
piece_of_one : (m l w s r p q : ℕ) → p % q ≡ (r + m * s) % q → (m * l % q * w + p) % q ≡ (r + m * (l * w + s)) % q
piece_of_one m l w s r p q h =
    both_mod (m * l % q * w) (m * l * w) p (r + m * s) q (mul-mod_first (m * l) w q) h
    ∙ ap (λ n. n % q) (moved (m * l * w) r (m * s) _ (distributed m l w s))

-- a piece of both terms
piece_of_both : (k m l v w s r p q : ℕ) → v ≡ w → p % q ≡ (r + m * s) % q
    → ((k + m * l) % q * v + p) % q ≡ (k * v + r + m * (l * w + s)) % q
piece_of_both k m l v w s r p q e h =
    both_mod ((k + m * l) % q * v) ((k + m * l) * v) p (r + m * s) q (mul-mod_first (k + m * l) v q) h
    ∙ ap (λ n. (n + (r + m * s)) % q) (add-mul k (m * l) v)
    ∙ ap (λ n. n % q) (regrouped (k * v) (m * l * v) r (m * s) _ (distributed m l v s))
    ∙ ap (λ n. (k * v + r + m * (l * n + s)) % q) e

-- the constants and the values of the pieces, together
constants : (c m d x y p q : ℕ) → p % q ≡ (x + m * y) % q → ((c + m * d) % q + p) % q ≡ ((c + x) % q + m * ((d + y) % q)) % q
constants c m d x y p q h =
    mod-add-mod (c + m * d) q p ∙ keeps_mod (c + m * d) p (x + m * y) q h
    ∙ ap (λ n. n % q) (regrouped c (m * d) x (m * y) _ (mul-add m d y))
    ∙ sym (keeps_mod (c + x) (m * ((d + y) % q)) (m * (d + y)) q (mul-mod_second m (d + y) q))
    ∙ sym (mod-add-mod (c + x) q (m * ((d + y) % q)))

module _ (u : Valuation) where
  -- the value after a piece is put in front
  joined_value : (a : PlainAtom) (k : ℕ) (xs : Summands) → value_of_pieces u (joined a k xs) ≡ k * value_of_atom u a + value_of_pieces u xs
  joined_value a zero xs = omega arith
  joined_value a (suc k) xs = refl

  -- the merge has the sum of the values
  plus_times_pieces_value : (xs : Summands) (m : ℕ) (ys : Summands)
      → value_of_pieces u (plus_times_pieces xs m ys) % 2 ^ 64 ≡ (value_of_pieces u xs + m * value_of_pieces u ys) % 2 ^ 64
  plus_times_pieces_value none m none = ap (λ n. n % 2 ^ 64) (no_more 0 m)
  plus_times_pieces_value none m (more b l ys) =
      ap (λ n. n % 2 ^ 64) (joined_value b (m * l % 2 ^ 64) (plus_times_pieces none m ys))
      ∙ piece_of_one m l (value_of_atom u b) (value_of_pieces u ys) 0 _ (2 ^ 64) (plus_times_pieces_value none m ys)
  plus_times_pieces_value (more a k xs) m none = ap (λ n. n % 2 ^ 64) (no_more (value_of_pieces u (more a k xs)) m)
  plus_times_pieces_value (more a k xs) m (more b l ys) =
      let va = value_of_atom u a in
      let vb = value_of_atom u b in
      let vx = value_of_pieces u xs in
      let vy = value_of_pieces u ys in
      (elim (atom_cmp a b) as (λ o. atom_cmp a b ≡ o →
      value_of_pieces u (elim o as (λ o. Summands) [
        | Less ↦ more a k (plus_times_pieces xs m (more b l ys))
        | Equal ↦ joined a ((k + m * l) % 2 ^ 64) (plus_times_pieces xs m ys)
        | Greater ↦ joined b (m * l % 2 ^ 64) (plus_times_pieces (more a k xs) m ys)
      ]) % 2 ^ 64 ≡ ((k * va + vx) + m * (l * vb + vy)) % 2 ^ 64) [
        | Less ↦ λ e. keeps_mod (k * va) _ _ (2 ^ 64) (plus_times_pieces_value xs m (more b l ys)) ∙ ap (λ n. n % 2 ^ 64) (sym (add_assoc (k * va) vx (m * (l * vb + vy))))
        | Equal ↦ λ e.
            ap (λ n. n % 2 ^ 64) (joined_value a ((k + m * l) % 2 ^ 64) (plus_times_pieces xs m ys))
            ∙ piece_of_both k m l va vb vy vx _ (2 ^ 64) (ap (value_of_atom u) (atom_same a b e)) (plus_times_pieces_value xs m ys)
        | Greater ↦ λ e.
            ap (λ n. n % 2 ^ 64) (joined_value b (m * l % 2 ^ 64) (plus_times_pieces (more a k xs) m ys))
            ∙ piece_of_one m l vb vy (k * va + vx) _ (2 ^ 64) (plus_times_pieces_value (more a k xs) m ys)
      ]) refl

  -- a + m * b has the value of a plus m times that of b, modulo 2^64
  pub plus_times_value : (a : PlainSum) (m : ℕ) (b : PlainSum) → value u (plus_times a m b) ≡ (value u a + m * value u b) % 2 ^ 64
  unfolding plus_times
  plus_times_value (sum c xs) m (sum d ys) =
      constants c m d (value_of_pieces u xs) (value_of_pieces u ys) _ (2 ^ 64) (plus_times_pieces_value xs m ys)
