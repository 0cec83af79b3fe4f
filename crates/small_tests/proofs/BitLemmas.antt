-- How many bits so many bytes can have.
use Rattle.std.proofs.Common.{◌≤◌, ◌<◌, ℕ, suc, ◌*◌, ◌^◌, List, [], ◌∷◌, length, get_or, count_ones, arith}
use Rattle.std.proofs.lemmas.List.Sums.{sum_by-cons}
use Rattle.std.proofs.lemmas.Nat.{ones_le_self}
use Rattle.root_scan.specs.Bits.{bits_set}

-- no byte has more bits than its number
bits_le : (bytes : List ℕ) → ((k : ℕ) → get_or bytes k 0 < 256) → bits_set bytes ≤ 256 * length bytes
bits_le [] fit = omega arith
bits_le (b ∷ bytes) fit =
    let byte : b < 256 = fit 0 in
    let few : count_ones b ≤ b = ones_le_self b in
    let rest : bits_set bytes ≤ 256 * length bytes = bits_le bytes (λ k. fit (suc k)) in
    omega (arith, sum_by-cons count_ones b bytes)

-- the bits of fewer than 1,000 bytes are fewer than 2^64
pub bits_fit : (bytes : List ℕ) → ((k : ℕ) → get_or bytes k 0 < 256) → length bytes < 1000 → bits_set bytes < 2 ^ 64
bits_fit bytes fit few =
    let most : bits_set bytes ≤ 256 * length bytes = bits_le bytes fit in
    omega arith
