-- The state of the machine (Intel SDM volume 1, 3.4: registers and flags; 3.3.7.1: addresses; 1.3.1: byte order).
use Rattle.std.specs.Prelude.{◌≡◌, ℕ, ◌^◌, ◌<◌, ◌≤◌, List, length, slice_index, slice_set}
use Rattle.bits_core.specs.declared.flags.Flags.{Flags}
pub use Rattle.x86_instr.specs.Registers.{rax, rdx, rsp, rbp}
use Rattle.x86_machine.specs.declared.machine.Machine.{Machine}
use Rattle.x86_machine.specs.Memory.{memory_of, stored}

-- sixteen registers, the address of the next instruction, the flags, the FS base and the byte at each address
pub record State : Type 0 where
  pub regs : List ℕ
  pub rip : ℕ
  pub flags : Flags
  pub fs_base : ℕ
  pub memory : ℕ → ℕ

-- a register's 64 bits
unfoldable pub reg : State → ℕ → ℕ
reg s r = slice_index s.regs r

-- the state with another number in a register
unfoldable pub with_reg : State → ℕ → ℕ → State
with_reg s r v = record s { regs = slice_set s.regs r v }

-- the state with other flags
unfoldable pub with_flags : State → Flags → State
with_flags s f = record s { flags = f }

-- the state with another address in rip
unfoldable pub with_rip : State → ℕ → State
with_rip s at = record s { rip = at }

-- the state with the low n bytes of a number in memory
unfoldable pub with_bytes : State → ℕ → ℕ → ℕ → State
with_bytes s n at v = record s { memory = stored s.memory n at v }

-- the numbers of a state are in range: 64 bits each, and bytes at addresses of 64 bits
pub record IsState (s : State) : Type 0 where
  pub count : length s.regs ≡ 16
  pub regs : (r : ℕ) → slice_index s.regs r < 2 ^ 64
  pub rip : s.rip < 2 ^ 64
  pub fs_base : s.fs_base < 2 ^ 64
  pub bytes : (at : ℕ) → s.memory at < 256
  pub outside : (at : ℕ) → 2 ^ 64 ≤ at → s.memory at ≡ 0

-- what the machine holds
unfoldable pub state_of : Machine → State
state_of m = record {
  regs = m.regs;
  rip = m.rip;
  flags = m.flags;
  fs_base = m.fs_base;
  memory = memory_of m.memory;
}
