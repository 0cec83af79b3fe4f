-- Laws of the operations that programs rely on: what a comparison's flags decide, and sums,
-- differences, shifts and products as arithmetic modulo 2^width.
use Rattle.std.specs.Prelude.{◌≡◌, ℕ, ◌+◌, ◌-◌, ◌*◌, ◌/◌, ◌^◌, ◌<◌, ◌≤◌, ◌==◌, nat_lt, nat_le}
use Rattle.std.specs.Prelude.{Bool, true, false, not, pos, int_lt, int_le}
use Rattle.std.specs.Int.{from_bool, int_shr}
use Rattle.bits_core.specs.declared.width.Width.{Width}
use Rattle.bits_core.specs.declared.width.Width.TheVariants.{W64}
use Rattle.bits_core.specs.declared.operations.Shift.TheVariants.{Shl, Shr, Sar}
use Rattle.bits_core.specs.Width.{bits_of}
use Rattle.bits_core.specs.LowBits.{cut_of, sext_of}
use Rattle.bits_core.specs.Integers.{integer_of, residue_of}
use Rattle.bits_core.specs.Arithmetic.{sum_of, difference_of, compared}
use Rattle.bits_core.specs.Condition.{condition_of}
use Rattle.bits_core.specs.Shifts.{shift_of, turned_left, turned_right}
use Rattle.bits_core.specs.Wide.{product_of}

-- after a comparison each condition is the order that its name says, unsigned or signed
pub record ComparisonLaws : Type 0 where
  pub b : (w : Width) (x y : ℕ) → condition_of 2 (compared w x y) ≡ nat_lt (cut_of w x) (cut_of w y)
  pub ae : (w : Width) (x y : ℕ) →
      condition_of 3 (compared w x y) ≡ nat_le (cut_of w y) (cut_of w x)
  pub e : (w : Width) (x y : ℕ) → condition_of 4 (compared w x y) ≡ (cut_of w x == cut_of w y)
  pub ne : (w : Width) (x y : ℕ) → condition_of 5 (compared w x y) ≡ not (cut_of w x == cut_of w y)
  pub be : (w : Width) (x y : ℕ) →
      condition_of 6 (compared w x y) ≡ nat_le (cut_of w x) (cut_of w y)
  pub a : (w : Width) (x y : ℕ) → condition_of 7 (compared w x y) ≡ nat_lt (cut_of w y) (cut_of w x)
  pub l : (w : Width) (x y : ℕ) →
      condition_of 12 (compared w x y) ≡ int_lt (integer_of w true x) (integer_of w true y)
  pub ge : (w : Width) (x y : ℕ) →
      condition_of 13 (compared w x y) ≡ int_le (integer_of w true y) (integer_of w true x)
  pub le : (w : Width) (x y : ℕ) →
      condition_of 14 (compared w x y) ≡ int_le (integer_of w true x) (integer_of w true y)
  pub g : (w : Width) (x y : ℕ) →
      condition_of 15 (compared w x y) ≡ int_lt (integer_of w true y) (integer_of w true x)

-- sums and differences modulo 2^width, and what carries and borrows
pub record SumLaws : Type 0 where
  pub sum : (w : Width) (x y : ℕ) (carry : Bool) →
      (sum_of w x y carry).0 ≡ cut_of w (x + y + from_bool carry)
  pub carries : (w : Width) (x y : ℕ) (carry : Bool) →
      (sum_of w x y carry).1.carry
      ≡ nat_le (2 ^ bits_of w) (cut_of w x + cut_of w y + from_bool carry)
  pub difference : (w : Width) (x y : ℕ) (borrow : Bool) →
      cut_of w ((difference_of w x y borrow).0 + y + from_bool borrow) ≡ cut_of w x
  pub borrows : (w : Width) (x y : ℕ) (borrow : Bool) →
      (difference_of w x y borrow).1.carry ≡ nat_lt (cut_of w x) (cut_of w y + from_bool borrow)

-- integers and their low bits
pub record IntegerLaws : Type 0 where
  -- unsigned, the low bits are the integer
  pub unsigned : (w : Width) (x : ℕ) → integer_of w false x ≡ pos (cut_of w x)
  -- the low bits of the integer that a number stands for are the number's
  pub back : (w : Width) (signed : Bool) (x : ℕ) → residue_of w (integer_of w signed x) ≡ cut_of w x
  -- the extension by the sign is the signed integer modulo 2^64, and stands for the same integer
  pub extension : (w : Width) (x : ℕ) → sext_of w x ≡ residue_of W64 (integer_of w true x)
  pub extended : (w : Width) (x : ℕ) → integer_of W64 true (sext_of w x) ≡ integer_of w true x

-- shifts by less than the width: a product, a quotient, a quotient rounded down; by more, 0
pub record ShiftLaws : Type 0 where
  pub left : (w : Width) (x count : ℕ) → count < bits_of w →
      shift_of Shl w x count ≡ cut_of w (x * 2 ^ count)
  pub right : (w : Width) (x count : ℕ) → count < bits_of w →
      shift_of Shr w x count ≡ cut_of w x / 2 ^ count
  pub arithmetic : (w : Width) (x count : ℕ) → count < bits_of w →
      shift_of Sar w x count ≡ residue_of w (int_shr (integer_of w true x) count)
  pub left_gone : (w : Width) (x by : ℕ) → bits_of w ≤ by → cut_of w (x * 2 ^ by) ≡ 0
  pub right_gone : (w : Width) (x by : ℕ) → bits_of w ≤ by → cut_of w x / 2 ^ by ≡ 0
  -- an arithmetic shift of the extension by the sign has the same low bits
  pub extended : (w : Width) (x count : ℕ) → count < bits_of w →
      cut_of w (shift_of Sar W64 (sext_of w x) count) ≡ shift_of Sar w x count
  -- to turn left is to turn right by the rest of the width
  pub turned : (w : Width) (x by : ℕ) → by ≤ bits_of w →
      turned_left w x (bits_of w - by) ≡ turned_right w x by

-- the low half of a product, unsigned or signed, is the product modulo 2^width
pub record ProductLaws : Type 0 where
  pub low : (w : Width) (signed : Bool) (x y : ℕ) → (product_of w signed x y).0 ≡ cut_of w (x * y)
  pub high : (w : Width) (x y : ℕ) →
      (product_of w false x y).1 ≡ cut_of w x * cut_of w y / 2 ^ bits_of w
