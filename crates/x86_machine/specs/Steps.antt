-- What the groups of instructions do to the state, rip apart (Intel SDM volume 2, chapters 3 to 5).
use Rattle.std.specs.Prelude.{ℕ, ◌-◌, ◌/◌, ◌%◌, ◌^◌, nat_lt, ◌==◌, Bool, true, false, not, if◌then◌else◌, Option, Some, None}
use Rattle.bits_core.specs.declared.width.Width.{Width}
use Rattle.bits_core.specs.declared.flags.Flags.{Flags}
use Rattle.bits_core.specs.declared.operations.Alu.{Alu}
use Rattle.bits_core.specs.declared.operations.Alu.TheVariants.{Sub}
use Rattle.bits_core.specs.Width.{bits_of}
use Rattle.bits_core.specs.LowBits.{sext_of}
use Rattle.bits_core.specs.Arithmetic.{alu_of}
use Rattle.bits_core.specs.Wide.{product_of, quotient_of}
use Rattle.x86_instr.specs.declared.instr.Operand.TheVariants.{Reg}
use Rattle.x86_instr.specs.declared.instr.Instr.{Instr}
use Rattle.x86_instr.specs.Registers.{rax, rdx}
use Rattle.x86_machine.specs.State.{State, with_flags}
use Rattle.x86_machine.specs.Access.{address_of, read, write}

-- a bit of the choice
abbrev pub bit : ℕ → ℕ → Bool
bit choice k = choice / 2 ^ k % 2 == 1

-- the flags where an instruction leaves them undefined: bits 0 to 3 of the choice
unfoldable pub undefined_flags : ℕ → Flags
undefined_flags choice = record {
  carry = bit choice 0;
  zero = bit choice 1;
  sign = bit choice 2;
  over = bit choice 3;
}

-- a result that replaces the first operand, and the flags after it
abbrev pub gives : State → Instr → ℕ × Flags → State
gives s i r = with_flags (write s i.width i.dst r.0) r.1

-- add, or, adc, sbb, and, sub, xor: what both operands give
abbrev pub operated : Alu → State → Instr → ℕ × Flags
operated op s i = alu_of op i.width (read s i.width i.dst) (read s i.width i.src) s.flags.carry

-- what both operands give replaces the first
abbrev pub combined : Alu → State → Instr → State
combined op s i = gives s i (operated op s i)

-- cmp, test: the flags alone
abbrev pub compared : Alu → State → Instr → State
compared op s i = with_flags s (operated op s i).1

-- mov
abbrev pub moved : State → Instr → State
moved s i = write s i.width i.dst (read s i.width i.src)

-- lea: the address, and no memory
abbrev pub addressed : State → Instr → State
addressed s i = write s i.width i.dst (address_of s i.src)

-- movzx
abbrev pub extended_by_zeros : State → Instr → State
extended_by_zeros s i = write s i.width i.dst (read s i.src_width i.src)

-- movsx
abbrev pub extended_by_sign : State → Instr → State
extended_by_sign s i = write s i.width i.dst (sext_of i.src_width (read s i.src_width i.src))

-- not: the low bits of -1 less the operand, which are its bits flipped
abbrev pub inverted : State → Instr → State
inverted s i =
    write s i.width i.dst (alu_of Sub i.width (2 ^ 64 - 1) (read s i.width i.dst) false).0

-- neg: 0 less the operand
abbrev pub negated : State → Instr → State
negated s i = gives s i (alu_of Sub i.width 0 (read s i.width i.dst) false)

-- inc and dec keep CF
abbrev pub with_carry : ℕ × Flags → Bool → ℕ × Flags
with_carry r carry = (r.0, record r.1 { carry = carry })

-- inc, dec: one more or one less; CF is kept
abbrev pub counted : Alu → State → Instr → State
counted op s i =
    gives s i (with_carry (alu_of op i.width (read s i.width i.dst) 1 false) s.flags.carry)

-- all bits as the highest bit of a number of the width
unfoldable pub signs_of : Width → ℕ → ℕ
signs_of w low = if nat_lt low (2 ^ (bits_of w - 1)) then 0 else 2 ^ bits_of w - 1

-- the upper half of the number that the lower half alone stands for
abbrev pub upper_of : Width → Bool → ℕ → ℕ
upper_of w signed low = if signed then signs_of w low else 0

-- CF and OF say that the lower half does not hold the product; ZF and SF are free
unfoldable pub product_flags : Width → Bool → ℕ × ℕ → ℕ → Flags
product_flags w signed p choice =
    let lost = not (p.1 == upper_of w signed p.0) in
    record (undefined_flags choice) { carry = lost; over = lost }

-- the state with two halves in rdx:rax
abbrev pub with_halves : State → Width → ℕ × ℕ → State
with_halves s w p = write (write s w (Reg rax) p.0) w (Reg rdx) p.1

-- mul, imul with one operand: the product of rax in rdx:rax
abbrev pub multiplied : Bool → State → Instr → ℕ → State
multiplied signed s i choice =
    let p = product_of i.width signed (read s i.width (Reg rax)) (read s i.width i.dst) in
    with_flags (with_halves s i.width p) (product_flags i.width signed p choice)

-- imul with two or three operands: the lower half of the product by a factor
abbrev pub scaled : ℕ → ℕ → State → Instr → ℕ → State
scaled a b s i choice =
    let p = product_of i.width true a b in
    gives s i (p.0, product_flags i.width true p choice)

-- div, idiv of rdx:rax: the quotient in rax, the remainder in rdx, all flags free
abbrev pub quotients : Bool → State → Instr → Option (ℕ × ℕ)
quotients signed s i =
    quotient_of i.width signed (read s i.width (Reg rdx)) (read s i.width (Reg rax))
    (read s i.width i.dst)

-- the halves of a division that has a quotient; all flags are undefined
abbrev pub divided : Option (ℕ × ℕ) → State → Instr → ℕ → Option State
divided None s i choice = None
divided (Some p) s i choice = Some (with_flags (with_halves s i.width p) (undefined_flags choice))
