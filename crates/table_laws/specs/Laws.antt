-- What the numbers of a table and the targets of a jump are.
use Rattle.std.specs.Prelude.{◌≡◌, ℕ, ◌+◌, ◌*◌, ◌^◌, ◌≤◌, IsTrue, IsSomeAnd, Some, List}
use Rattle.std.specs.List.{Contains}
use Rattle.std.specs.List.Sorted.{IsStrictlyIncreasing}
use Rattle.bits_core.specs.Width.{bytes_of}
use Rattle.elf_image.specs.declared.image.Image.{Image}
use Rattle.elf_image.specs.Image.{is_code_at}
use Rattle.sym_terms.specs.Plain.{PlainSum, constant_alone}
use Rattle.sym_terms.specs.Normal.{minus}
use Rattle.jump_tables.specs.declared.table.Table.{Table}
use Rattle.jump_tables.specs.Table.{entry_at, table_values}
use Rattle.jump_tables.specs.Targets.{address_after, targets}

-- the numbers of the entries low to high of a table, where there are such
pub record TableLaws : Type 0 where
  -- an entry of the range is fixed, and its number is among them; so a load of it gives one of them
  pub has :
      (image : Image) (t : Table) (low high x : ℕ) (numbers : List ℕ) → table_values image t low high ≡ Some numbers →
      low ≤ x → x ≤ high → IsSomeAnd (entry_at image t x) (Contains numbers)
  -- each of them is the number of an entry of the range
  pub only :
      (image : Image) (t : Table) (low high n : ℕ) (numbers : List ℕ) → table_values image t low high ≡ Some numbers →
      Contains numbers n → (x : ℕ) × (low ≤ x) × (x ≤ high) × (entry_at image t x ≡ Some n)
  -- the last entry ends at 2^64 or below
  pub ends :
      (image : Image) (t : Table) (low high : ℕ) (numbers : List ℕ) → table_values image t low high ≡ Some numbers →
      t.base + t.scale * high + bytes_of t.width ≤ 2 ^ 64
  pub ascending :
      (image : Image) (t : Table) (low high : ℕ) (numbers : List ℕ) → table_values image t low high ≡ Some numbers →
      IsStrictlyIncreasing numbers

-- the targets of a jump that is the constant c after a key
pub record TargetLaws : Type 0 where
  -- where the key is one of the numbers, the jump goes to one of them
  pub has :
      (image : Image) (jump key : PlainSum) (c n : ℕ) (numbers addresses : List ℕ) →
      constant_alone (minus jump key) ≡ Some c → targets image jump key numbers ≡ Some addresses →
      Contains numbers n → Contains addresses (address_after c n)
  -- each of them is code, and c after one of the numbers
  pub only :
      (image : Image) (jump key : PlainSum) (c a : ℕ) (numbers addresses : List ℕ) →
      constant_alone (minus jump key) ≡ Some c → targets image jump key numbers ≡ Some addresses →
      Contains addresses a → IsTrue (is_code_at image a) × ((n : ℕ) × Contains numbers n × (address_after c n ≡ a))
  pub ascending :
      (image : Image) (jump key : PlainSum) (numbers addresses : List ℕ) →
      targets image jump key numbers ≡ Some addresses → IsStrictlyIncreasing addresses
