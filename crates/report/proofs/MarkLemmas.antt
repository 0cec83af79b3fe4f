-- Marks that are set.
use Rattle.std.proofs.Common.{◌≡◌, ◌≢◌, ◌<◌, ℕ, ◌*◌, ◌^◌, ◌/◌, ◌%◌, ◌==◌, Bool, true, false, max, List, length, set, get_or, bit_or, arith, refl, w8, ap, ◌∙◌, sym, get_or-set_same, get_or-set_other}
use Rattle.std.specs.Int.{bit_at}
use Rattle.std.proofs.lemmas.Nat.Bits.{bit_at_set_same, bit_at_set_other, bit_at-lt}
use Rattle.report.specs.Marks.{flag, mark_at}

-- a byte with one bit more
with_bit : ℕ → ℕ → ℕ
with_bit byte bit = bit_or byte (1 * 2 ^ bit % 256)

-- in the byte that is changed, one bit is set
set_bit : (byte bit k : ℕ) → bit < 8 → bit_at (bit_or byte (1 * 2 ^ bit % 256)) k ≡ max (bit_at byte k) (flag (k == bit))
set_bit byte bit k small = by (k == bit) refl
  where
    by : (b : Bool) → (k == bit) ≡ b → bit_at (bit_or byte (1 * 2 ^ bit % 256)) k ≡ max (bit_at byte k) (flag (k == bit))
    by true is =
        let same : k ≡ bit = grind (arith, is) in
        let one : bit_at (bit_or byte (1 * 2 ^ bit % 256)) bit ≡ 1 = bit_at_set_same w8 byte bit small in
        let little : bit_at byte k < 2 = bit_at-lt byte k in
        rw is (ap (λ i. bit_at (bit_or byte (1 * 2 ^ bit % 256)) i) same ∙ one ∙ omega arith)
    by false is =
        let other : k ≡ bit → ⊥ = λ e. grind (arith, is, e) in
        rw is (bit_at_set_other w8 byte bit small k other ∙ omega arith)

-- the mark of a place is set, and no other
pub mark_at_set : (bits : List ℕ) (place k : ℕ) → place / 8 < length bits → mark_at (set bits (place / 8) (bit_or (get_or bits (place / 8) 0) (1 * 2 ^ (place % 8) % 256))) k ≡ max (mark_at bits k) (flag (k == place))
mark_at_set bits place k inside = by (k / 8 == place / 8) refl
  where
    by : (b : Bool) → (k / 8 == place / 8) ≡ b → mark_at (set bits (place / 8) (bit_or (get_or bits (place / 8) 0) (1 * 2 ^ (place % 8) % 256))) k ≡ max (mark_at bits k) (flag (k == place))
    by true is =
        let byte : k / 8 ≡ place / 8 = grind (arith, is) in
        let changed : ℕ = bit_or (get_or bits (place / 8) 0) (1 * 2 ^ (place % 8) % 256) in
        let read : get_or (set bits (place / 8) changed) (k / 8) 0 ≡ changed = ap (λ i. get_or (set bits (place / 8) changed) i 0) byte ∙ get_or-set_same bits (place / 8) changed 0 inside in
        let kept : get_or bits (place / 8) 0 ≡ get_or bits (k / 8) 0 = ap (λ i. get_or bits i 0) (sym byte) in
        let places : (k % 8 == place % 8) ≡ (k == place) = grind arith in
        ap (λ b. bit_at b (k % 8)) read
        ∙ set_bit (get_or bits (place / 8) 0) (place % 8) (k % 8) (omega arith)
        ∙ ap (λ b. max (bit_at b (k % 8)) (flag (k % 8 == place % 8))) kept
        ∙ ap (λ b. max (mark_at bits k) (flag b)) places
    by false is =
        let other : k / 8 ≢ place / 8 = λ e. grind (arith, is, e) in
        let changed : ℕ = bit_or (get_or bits (place / 8) 0) (1 * 2 ^ (place % 8) % 256) in
        let read : get_or (set bits (place / 8) changed) (k / 8) 0 ≡ get_or bits (k / 8) 0 = get_or-set_other bits (place / 8) (k / 8) changed 0 other in
        let places : (k == place) ≡ false = grind (arith, other) in
        ap (λ b. bit_at b (k % 8)) read ∙ (rw places (omega arith))
