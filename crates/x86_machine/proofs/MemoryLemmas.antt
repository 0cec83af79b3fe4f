-- Numbers of bytes, and bytes that are in a map.
use Rattle.std.proofs.Common.{◌≡◌, ◌≢◌, ℕ, zero, suc, ◌-◌, ◌*◌, ◌^◌, ◌≤◌, refl, arith}
use Rattle.std.specs.Prelude.{IsSome}
use Rattle.std.specs.Ordering.{nat_cmp}
use Rattle.std.specs.BTreeMap.{BTreeMap}
use Rattle.std.specs.BTreeMap as tree
use Rattle.std.proofs.Math.Nat.{pow-le-pow_right, pow-succ'}
use Rattle.x86_machine.specs.Memory.{address_plus, HasBytes}

less_one : (n : ℕ) → suc n - 1 ≡ n
less_one n = omega arith

-- one more byte multiplies by 256
pub one_more_byte : (n : ℕ) → n ≢ 0 → 256 ^ n ≡ 256 * 256 ^ (n - 1)
one_more_byte zero h = absurd (h refl)
one_more_byte (suc n) h = rw less_one (pow-succ' 256 n)

-- seven bytes and one more fit 64 bits
pub bytes_fit : (n : ℕ) → n ≤ 8 → n ≢ 0 → 256 ^ (n - 1) ≤ 2 ^ 56
bytes_fit n small some = pow-le-pow_right {n = 256} (omega arith) {i = n - 1} {j = 7} (omega arith)

-- a map with more keys still has the bytes
pub still_has : (a b : BTreeMap ℕ ℕ) → ((q : ℕ) → IsSome (tree.get nat_cmp a q) → IsSome (tree.get nat_cmp b q)) → (n at : ℕ) → HasBytes a n at → HasBytes b n at
still_has a b h zero at x = tt
still_has a b h (suc n) at x = (h at x.0, still_has a b h n (address_plus 1 at) x.1)

-- some bytes are a first one and the rest
pub has_first : (m : BTreeMap ℕ ℕ) (n at : ℕ) → n ≢ 0 → HasBytes m n at → IsSome (tree.get nat_cmp m at) × HasBytes m (n - 1) (address_plus 1 at)
has_first m zero at h x = absurd (h refl)
has_first m (suc n) at h x = rw less_one x

pub has_more : (m : BTreeMap ℕ ℕ) (n at : ℕ) → n ≢ 0 → IsSome (tree.get nat_cmp m at) → HasBytes m (n - 1) (address_plus 1 at) → HasBytes m n at
has_more m zero at h x y = absurd (h refl)
has_more m (suc n) at h x y = (x, rw less_one at y)
