-- What shifts, and instructions that move data, do to the state, rip apart (Intel SDM volume 2, chapters 3 to 5).
use Rattle.std.specs.Prelude.{ℕ, ◌+◌, ◌-◌, ◌%◌, ◌^◌, nat_le, ◌==◌, Bool, true, false, ◌&&◌, ◌||◌, if◌then◌else◌}
use Rattle.std.specs.Int.{swap_bytes, w32, w64}
use Rattle.bits_core.specs.declared.width.Width.{Width}
use Rattle.bits_core.specs.declared.width.Width.TheVariants.{W8, W16, W32, W64}
use Rattle.bits_core.specs.declared.flags.Flags.{Flags}
use Rattle.bits_core.specs.declared.operations.Shift.{Shift}
use Rattle.bits_core.specs.declared.operations.Shift.TheVariants.{Rol, Ror, Shl, Shr, Sar}
use Rattle.bits_core.specs.Width.{bits_of}
use Rattle.bits_core.specs.LowBits.{cut_of, sext_of}
use Rattle.bits_core.specs.Condition.{condition_of}
use Rattle.bits_core.specs.Shifts.{shift_of, count_modulus}
use Rattle.x86_instr.specs.declared.instr.Operand.{Operand}
use Rattle.x86_instr.specs.declared.instr.Operand.TheVariants as operand
use Rattle.x86_instr.specs.declared.instr.Operand.TheVariants.{Reg}
use Rattle.x86_instr.specs.declared.instr.Instr.{Instr}
use Rattle.x86_machine.specs.Memory.{loaded, address_plus}
use Rattle.x86_instr.specs.Registers.{rax, rdx, rsp, rbp}
use Rattle.x86_machine.specs.State.{State, reg, with_reg, with_flags, with_bytes}
use Rattle.x86_machine.specs.Access.{read, write}
use Rattle.x86_machine.specs.Steps.{bit, signs_of}

-- rol and ror turn; shl, shr and sar do not
abbrev pub is_turn : Shift → Bool
is_turn Rol = true
is_turn Ror = true
is_turn Shl = false
is_turn Shr = false
is_turn Sar = false

-- CF and OF are free; ZF and SF follow a shift's result where the masked count isn't 0, else stay
unfoldable pub shift_flags : Flags → Width → Bool → ℕ → ℕ → Flags
shift_flags old w stays result choice = record {
  carry = bit choice 0;
  zero = if stays then old.zero else result == 0;
  sign = if stays then old.sign else nat_le (2 ^ (bits_of w - 1)) result;
  over = bit choice 3;
}

-- the count of a shift: the byte that its second operand is
abbrev pub count_of : State → Instr → ℕ
count_of s i = cut_of W8 (read s W8 i.src)

-- the count after masking is 0
abbrev pub is_idle : State → Instr → Bool
is_idle s i = count_of s i % count_modulus i.width == 0

-- a 32-bit operation by a masked count of 0 keeps the upper half, where bit 4 of the choice is set
abbrev pub keeps_upper_at : Width → Bool → ℕ → Bool
keeps_upper_at W8 idle choice = false
keeps_upper_at W16 idle choice = false
keeps_upper_at W32 idle choice = idle && bit choice 4
keeps_upper_at W64 idle choice = false

-- only a count in CL can; an immediate that is 0 after masking keeps nothing
abbrev pub keeps_upper : Operand → Width → Bool → ℕ → Bool
keeps_upper (operand.Reg r) w idle choice = keeps_upper_at w idle choice
keeps_upper operand.None w idle choice = false
keeps_upper (operand.High r) w idle choice = false
keeps_upper (operand.Imm n) w idle choice = false
keeps_upper (operand.Mem p) w idle choice = false

-- the result of a shift or rotation replaces the first operand
abbrev pub shifted : Shift → State → Instr → ℕ → State
shifted op s i choice =
    let result = shift_of op i.width (read s i.width i.dst) (count_of s i) in
    let flags = shift_flags s.flags i.width (is_idle s i || is_turn op) result choice in
    with_flags
    (if keeps_upper i.src i.width (is_idle s i) choice then s else write s i.width i.dst result)
    flags

-- the top of the stack after a push: eight bytes below, modulo 2^64
abbrev pub below_top : State → ℕ
below_top s = (reg s rsp + (2 ^ 64 - 8)) % 2 ^ 64

-- push: a number on the stack
abbrev pub pushed : State → ℕ → State
pushed s v = with_reg (with_bytes s 8 (below_top s) v) rsp (below_top s)

-- the eight bytes at an address
abbrev pub quad_at : State → ℕ → ℕ
quad_at s at = loaded s.memory 8 at

-- the stack without its top
abbrev pub rsp_popped : State → State
rsp_popped s = with_reg s rsp (address_plus 8 (reg s rsp))

-- pop: the top of the stack, which goes before the destination is written
abbrev pub popped : State → Instr → State
popped s i = write (rsp_popped s) W64 i.dst (quad_at s (reg s rsp))

-- leave: rsp is the address after the saved rbp, which comes back
abbrev pub after_leave : State → State
after_leave s = with_reg (with_reg s rsp (address_plus 8 (reg s rbp))) rbp (quad_at s (reg s rbp))

-- cbw, cwde, cdqe: the lower half of rax extended by its sign
abbrev pub half_of : Width → Width
half_of W8 = W8
half_of W16 = W8
half_of W32 = W16
half_of W64 = W32

-- cbw, cwde, cdqe: the lower half of rax, extended by its sign
abbrev pub widened : State → Instr → State
widened s i = write s i.width (Reg rax) (sext_of (half_of i.width) (reg s rax))

-- cwd, cdq, cqo: the sign of rax in all bits of rdx
abbrev pub after_cwd : State → Instr → State
after_cwd s i = write s i.width (Reg rdx) (signs_of i.width (read s i.width (Reg rax)))

-- xchg: both operands are read before the first is written
abbrev pub exchanged : State → Instr → State
exchanged s i =
    write (write s i.width i.dst (read s i.width i.src)) i.width i.src (read s i.width i.dst)

-- bswap: the bytes in the opposite order
abbrev pub swapped_bytes : Width → ℕ → ℕ
swapped_bytes W8 v = v
swapped_bytes W16 v = v
swapped_bytes W32 v = swap_bytes w32 (cut_of W32 v)
swapped_bytes W64 v = swap_bytes w64 v

-- bswap
abbrev pub swapped : State → Instr → State
swapped s i = write s i.width i.dst (swapped_bytes i.width (read s i.width i.dst))

-- the condition of the instruction holds
abbrev pub holds : State → Instr → Bool
holds s i = condition_of i.cc s.flags

-- cmov writes its first operand in either case, so that 32 bits clear the upper half
abbrev pub after_cmov : State → Instr → State
after_cmov s i =
    write s i.width i.dst (if holds s i then read s i.width i.src else read s i.width i.dst)

-- setcc: 1 or 0
abbrev pub after_setcc : State → Instr → State
after_setcc s i = write s W8 i.dst (if holds s i then 1 else 0)
