-- Addresses modulo 2^64: what lies apart, and what lies within.
use Rattle.std.proofs.Common.{◌≡◌, ℕ, zero, suc, ◌+◌, ◌*◌, ◌%◌, ◌^◌, ◌<◌, ◌≤◌, List, [], ◌∷◌, refl, sym, subst, ap₂, arith}
use Rattle.std.proofs.Math.Nat.{mod-lt}
use Rattle.std.specs.Prelude.{IsTrue}
use Rattle.sym_terms.specs.Plain.{PlainSum, sum}
use Rattle.sym_terms.specs.Value.{Valuation, value, value_of_pieces}
use Rattle.mem_forest.specs.Plain.{PlainForest, none, cell}
use Rattle.mem_forest.specs.Shape.{is_size}
use Rattle.x86_machine.specs.Memory.{loaded}
use Rattle.forest_meaning.specs.Separate.{past, Separate, Within}
use Rattle.forest_meaning.specs.Holds.{address, EachNode}

-- a written size is some bytes
pub some_bytes : (b : ℕ) → IsTrue (is_size b) → 1 ≤ b
some_bytes zero h = absurd (cc)
some_bytes (suc b) h = omega arith

pub value_below : (u : Valuation) (t : PlainSum) → value u t < 2 ^ 64
value_below u (sum c xs) = mod-lt (c + value_of_pieces u xs) (omega arith)

pub address_below : (u : Valuation) (ns : List PlainSum) → address u ns < 2 ^ 64
address_below u [] = omega arith
address_below u (n ∷ ns) = value_below u n

within_sums : (x a y b z c : ℕ) → x < 2 ^ 64 → y < 2 ^ 64 → z < 2 ^ 64 → past y x + a ≤ b → past z y + b ≤ c → past z x + a ≤ c
within_sums x a y b z c hx hy hz p q = omega arith

pub within_trans : (x a y b z c : ℕ) → x < 2 ^ 64 → y < 2 ^ 64 → z < 2 ^ 64 → Within x a y b → Within y b z c → Within x a z c
within_trans x a y b z c hx hy hz p q = record { in_it = within_sums x a y b z c hx hy hz p.in_it q.in_it }

apart_after : (z c y b x a : ℕ) → z < 2 ^ 64 → y < 2 ^ 64 → x < 2 ^ 64 → 1 ≤ a → c ≤ past z y → b ≤ past y z → past y x + a ≤ b → c ≤ past z x
apart_after z c y b x a hz hy hx s p q r = omega arith

apart_before : (z c y b x a : ℕ) → z < 2 ^ 64 → y < 2 ^ 64 → x < 2 ^ 64 → 1 ≤ a → c ≤ past z y → b ≤ past y z → past y x + a ≤ b → a ≤ past x z
apart_before z c y b x a hz hy hx s p q r = omega arith

-- what lies within one of two separate regions is separate from the other
pub apart_within : (z c y b x a : ℕ) → z < 2 ^ 64 → y < 2 ^ 64 → x < 2 ^ 64 → 1 ≤ a → Separate z c y b → Within x a y b → Separate z c x a
apart_within z c y b x a hz hy hx s p r = record {
  after = apart_after z c y b x a hz hy hx s p.after p.before r.in_it;
  before = apart_before z c y b x a hz hy hx s p.after p.before r.in_it;
}

pub apart_sym : (x a y b : ℕ) → Separate x a y b → Separate y b x a
apart_sym x a y b p = record { after = p.before; before = p.after }

pub each_map : (u : Valuation) (P Q : ℕ → ℕ → Type 0) (f : PlainForest) → ((y c : ℕ) → y < 2 ^ 64 → P y c → Q y c) → EachNode u P f → EachNode u Q f
each_map u P Q none g e = tt
each_map u P Q (cell ns b v under rest) g e = (g _ _ (address_below u ns) e.0, each_map u P Q rest g e.1)

-- a byte of one of two separate regions is none of the other's
byte_apart : (x a y b k : ℕ) → x < 2 ^ 64 → y < 2 ^ 64 → k < b → a ≤ past x y → b ≤ past y x → a ≤ past x ((y + k) % 2 ^ 64)
byte_apart x a y b k hx hy hk p q = omega arith

next_byte : (y k : ℕ) → ((y + 1) % 2 ^ 64 + k) % 2 ^ 64 ≡ (y + suc k) % 2 ^ 64
next_byte y k = omega arith

-- the number in some bytes is the same where each of them is
bytes_kept : (m m' : ℕ → ℕ) (b y : ℕ) → y < 2 ^ 64 → ((k : ℕ) → k < b → m' ((y + k) % 2 ^ 64) ≡ m ((y + k) % 2 ^ 64)) → loaded m' b y ≡ loaded m b y
unfolding loaded
bytes_kept m m' zero y hy e = refl
bytes_kept m m' (suc b) y hy e =
    let own : (y + 0) % 2 ^ 64 ≡ y = omega arith in
    let P : ℕ → Type 0 = λ p. m' p ≡ m p in
    let low : m' y ≡ m y = subst P own (e 0 (omega arith)) in
    ap₂ (λ n d. n + 256 * d) low
    (bytes_kept m m' b ((y + 1) % 2 ^ 64) (mod-lt (y + 1) (omega arith)) (λ k h. subst P (sym (next_byte y k)) (e (suc k) (omega arith))))

-- the number in bytes that are separate from those in which two memories may differ is the same in both
pub number_kept : (m m' : ℕ → ℕ) (x a : ℕ) → x < 2 ^ 64 → ((p : ℕ) → p < 2 ^ 64 → a ≤ past x p → m' p ≡ m p)
    → (y b : ℕ) → y < 2 ^ 64 → Separate x a y b → loaded m' b y ≡ loaded m b y
number_kept m m' x a hx differs y b hy p =
    bytes_kept m m' b y hy (λ k h. differs ((y + k) % 2 ^ 64) (mod-lt (y + k) (omega arith)) (byte_apart x a y b k hx hy h p.after p.before))
