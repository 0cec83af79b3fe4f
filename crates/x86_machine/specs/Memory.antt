-- The bytes of memory, and the numbers in them, the lowest byte first (Intel SDM volume 1, 1.3.1).
use Rattle.std.specs.Prelude.{ℕ, zero, suc, ◌+◌, ◌*◌, ◌/◌, ◌%◌, ◌^◌, ◌==◌, if◌then◌else◌, IsSome, unwrap_or}
use Rattle.std.specs.Ordering.{nat_cmp}
use Rattle.std.specs.BTreeMap.{BTreeMap}
use Rattle.std.specs.BTreeMap as tree
use Rattle.x86_machine.specs.declared.memory.Memory.{Memory}

-- the byte at each address of an ordered map, 0 where there is none
abbrev pub byte_of : BTreeMap ℕ ℕ → ℕ → ℕ
byte_of bytes at = unwrap_or (tree.get nat_cmp bytes at) 0

-- the byte at each address of a memory
unfoldable pub memory_of : Memory → ℕ → ℕ
memory_of m = byte_of m.bytes

-- the address n bytes after another, modulo 2^64
abbrev pub address_plus : ℕ → ℕ → ℕ
address_plus n at = (at + n) % 2 ^ 64

-- n bytes from an address on are in the map
abbrev pub HasBytes : BTreeMap ℕ ℕ → ℕ → ℕ → Type 0
HasBytes bytes zero at = Unit {0}
HasBytes bytes (suc n) at =
    IsSome (tree.get nat_cmp bytes at) × HasBytes bytes n (address_plus 1 at)

-- the number in n bytes of memory from an address on, the lowest byte first
unfoldable pub loaded : (ℕ → ℕ) → ℕ → ℕ → ℕ
loaded memory zero at = 0
loaded memory (suc n) at = memory at + 256 * loaded memory n (address_plus 1 at)

-- memory with another byte at one address
abbrev pub put_at : (ℕ → ℕ) → ℕ → ℕ → ℕ → ℕ
put_at memory at b = λ x. if x == at then b else memory x

-- memory with the low bytes of a number from an address on, the lowest byte first
unfoldable pub stored : (ℕ → ℕ) → ℕ → ℕ → ℕ → ℕ → ℕ
stored memory zero at v = memory
stored memory (suc n) at v = stored (put_at memory at (v % 256)) n (address_plus 1 at) (v / 256)
