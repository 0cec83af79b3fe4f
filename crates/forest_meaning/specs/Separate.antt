-- How two regions of memory lie, by their addresses (modulo 2^64) and their sizes in bytes.
use Rattle.std.specs.Prelude.{ℕ, ◌+◌, ◌-◌, ◌%◌, ◌^◌, ◌≤◌}

-- how far y is past x
abbrev pub past : ℕ → ℕ → ℕ
past x y = (y + (2 ^ 64 - x)) % 2 ^ 64

-- a bytes at x and b bytes at y have no byte in common
pub record Separate (x a y b : ℕ) : Type 0 where
  pub after : a ≤ past x y
  pub before : b ≤ past y x

-- a bytes at x lie in b bytes at y
pub record Within (x a y b : ℕ) : Type 0 where
  pub in_it : past y x + a ≤ b
