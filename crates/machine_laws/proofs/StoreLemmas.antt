-- What a store keeps, and that it is read back.
use Rattle.std.proofs.Common.{◌≡◌, ◌≢◌, ℕ, zero, suc, ◌+◌, ◌*◌, ◌/◌, ◌%◌, ◌^◌, ◌<◌, ◌≤◌, refl, ap, ◌∙◌, arith}
use Rattle.std.proofs.Math.Nat.{pow-suc}
use Rattle.std.proofs.Math.Arith.{mod-mul}
use Rattle.x86_machine.specs.Memory.{address_plus, put_at, loaded, stored}
use Rattle.x86_machine.specs.Preserves.{IsApart}

put_other : (m : ℕ → ℕ) (at b x : ℕ) → x ≢ at → put_at m at b x ≡ m x
put_other m at b x ne = grind arith

put_same : (m : ℕ → ℕ) (at b : ℕ) → put_at m at b at ≡ b
put_same m at b = grind arith

plus_more : (k at : ℕ) → address_plus k (address_plus 1 at) ≡ address_plus (suc k) at
plus_more k at = omega arith

-- a store keeps the bytes elsewhere
pub store_apart : (memory : ℕ → ℕ) (n at v x : ℕ) → at < 2 ^ 64 → IsApart n at x → stored memory n at v x ≡ memory x
unfolding stored
store_apart m zero at v x small h = refl
store_apart m (suc n) at v x small h =
    let first : x ≢ at = λ e. h zero (omega arith) (e ∙ omega arith) in
    store_apart (put_at m at (v % 256)) n (address_plus 1 at) (v / 256) x (omega arith) (λ k lt e. h (suc k) (omega arith) (e ∙ plus_more k at))
    ∙ put_other m at (v % 256) x first

power_some : (n : ℕ) → 0 < 256 ^ n
power_some zero = omega arith
power_some (suc n) = omega (arith, pow-suc 256 n, power_some n)

-- what was stored is read back
pub store_back : (memory : ℕ → ℕ) (n at v : ℕ) → at < 2 ^ 64 → n ≤ 8 → loaded (stored memory n at v) n at ≡ v % 256 ^ n
unfolding stored loaded
store_back m zero at v small short = omega arith
store_back m (suc n) at v small short =
    let later : IsApart n (address_plus 1 at) at = λ k lt e. omega arith in
    let first : stored (put_at m at (v % 256)) n (address_plus 1 at) (v / 256) at ≡ v % 256 = store_apart (put_at m at (v % 256)) n (address_plus 1 at) (v / 256) at (omega arith) later ∙ put_same m at (v % 256) in
    let rest : loaded (stored (put_at m at (v % 256)) n (address_plus 1 at) (v / 256)) n (address_plus 1 at) ≡ v / 256 % 256 ^ n = store_back (put_at m at (v % 256)) n (address_plus 1 at) (v / 256) (omega arith) (omega arith) in
    let digits : v % (256 ^ n * 256) ≡ v / 256 % 256 ^ n * 256 + v % 256 = mod-mul v {m = 256 ^ n} {c = 256} (power_some n) (omega arith) in
    omega (arith, first, rest, digits, ap (λ k. v % k) (pow-suc 256 n))
