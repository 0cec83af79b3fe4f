-- Integers of 128 bits: sums and differences that the code takes lose nothing.
use Rattle.std.proofs.Common.{◌≡◌, ℕ, ◌^◌, true, false, Bool, ℤ, pos, neg_ℤ, ◌+ℤ◌, ◌-ℤ◌, ◌≤ℤ◌, ◌<ℤ◌, to_z, of_z, ap, ◌∙◌, arith}
use Rattle.std.proofs.lemmas.Int.{ints}
use Rattle.std.specs.Int.{w128, from_bool}

-- an integer is of 65 bits: of 64 bits, unsigned or signed, or a carry
pub record IsSmall (n : ℤ) : Type 0 where
  pub least : neg_ℤ (pos (2 ^ 63)) ≤ℤ n
  pub most : n <ℤ pos (2 ^ 64)

-- an integer written to 128 bits and read back
abbrev pub back : ℤ → ℤ
back n = to_z w128 (of_z w128 n)

-- 128 bits hold a sum of small integers
pub sum_back : (x y z : ℤ) → IsSmall x → IsSmall y → IsSmall z → back (back (back x +ℤ back y) +ℤ back z) ≡ x +ℤ y +ℤ z
sum_back x y z h i j = omega (arith, ints)

-- 128 bits hold a difference of small integers
pub difference_back : (x y z : ℤ) → IsSmall x → IsSmall y → IsSmall z → back (back (back x -ℤ back y) -ℤ back z) ≡ x -ℤ y -ℤ z
difference_back x y z h i j = omega (arith, ints)

-- a carry is small
pub carry_small_at : (b : Bool) (n : ℕ) (z : ℤ) → n ≡ from_bool b → z ≡ pos n → IsSmall z
carry_small_at true n z e f = record { least = omega (arith, ints); most = omega (arith, ints) }
carry_small_at false n z e f = record { least = omega (arith, ints); most = omega (arith, ints) }

-- the sum that the code takes is the exact one
pub sum_of_parts : (x y z a b c : ℤ) → x ≡ a → y ≡ b → z ≡ c → IsSmall x → IsSmall y → IsSmall z → back (back (back x +ℤ back y) +ℤ back z) ≡ a +ℤ b +ℤ c
sum_of_parts x y z a b c e f g h i j =
    sum_back x y z h i j ∙ ap (λ n. n +ℤ y +ℤ z) e ∙ ap (λ n. a +ℤ n +ℤ z) f ∙ ap (λ n. a +ℤ b +ℤ n) g

-- the difference that the code takes is the exact one
pub difference_of_parts : (x y z a b c : ℤ) → x ≡ a → y ≡ b → z ≡ c → IsSmall x → IsSmall y → IsSmall z → back (back (back x -ℤ back y) -ℤ back z) ≡ a -ℤ b -ℤ c
difference_of_parts x y z a b c e f g h i j =
    difference_back x y z h i j ∙ ap (λ n. n -ℤ y -ℤ z) e ∙ ap (λ n. a -ℤ n -ℤ z) f ∙ ap (λ n. a -ℤ b -ℤ n) g
