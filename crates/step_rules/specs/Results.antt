-- What is known of the results of operations, and of the flags that they set; None where nothing is.
use Rattle.std.specs.Prelude.{ℕ, ◌-◌, ◌%◌, ◌^◌, nat_lt, if◌then◌else◌, Option, Some, None}
use Rattle.std.specs.Option.{option_map, option_or}
use Rattle.bits_core.specs.declared.width.Width.{Width}
use Rattle.bits_core.specs.declared.width.Width.TheVariants.{W8, W16, W32, W64}
use Rattle.bits_core.specs.declared.operations.Alu.{Alu}
use Rattle.bits_core.specs.declared.operations.Alu.TheVariants as alu
use Rattle.bits_core.specs.declared.operations.Shift.{Shift}
use Rattle.bits_core.specs.declared.operations.Shift.TheVariants as shift
use Rattle.bits_core.specs.Width.{bits_of}
use Rattle.bits_core.specs.Shifts.{count_modulus}
use Rattle.sym_terms.specs.declared.kinds.Pair.TheVariants.{And, Or, Xor, Mul, Shr, Sar}
use Rattle.sym_terms.specs.Plain.{PlainSum}
use Rattle.sym_terms.specs.Normal.{plus, minus, times, pair}
use Rattle.predicates.specs.declared.bound.FlagFact.{FlagFact}
use Rattle.x86_instr.specs.declared.instr.Operand.{Operand}
use Rattle.x86_instr.specs.declared.instr.Operand.TheVariants as operand
use Rattle.x86_instr.specs.declared.instr.Instr.{Instr}
use Rattle.step_rules.specs.Terms.{number, apply, apply_both, zeros_term, cut_term, sext_term, minus_number}
use Rattle.step_rules.specs.Names.{register_name}

-- ---- results

-- a sum, a difference, or a combination bit by bit, before it is cut; adc and sbb depend on the carry
unfoldable pub whole_term : Alu → Option PlainSum → Option PlainSum → Option PlainSum
whole_term alu.Add a b = apply_both plus a b
whole_term alu.Adc a b = None
whole_term alu.Sub a b = apply_both minus a b
whole_term alu.Sbb a b = None
whole_term alu.And a b = apply_both (pair And) a b
whole_term alu.Or a b = apply_both (pair Or) a b
whole_term alu.Xor a b = apply_both (pair Xor) a b

-- add, or, adc, sbb, and, sub, xor at a width
unfoldable pub alu_term : Alu → Width → Option PlainSum → Option PlainSum → Option PlainSum
alu_term o w a b = cut_term w (whole_term o a b)

-- -a
abbrev pub negative : Option PlainSum → Option PlainSum
negative a = apply (times (2 ^ 64 - 1)) a

-- neg at a width: -a
unfoldable pub negated_term : Width → Option PlainSum → Option PlainSum
negated_term w a = cut_term w (negative a)

-- not at a width: -a - 1
unfoldable pub inverted_term : Width → Option PlainSum → Option PlainSum
inverted_term w a = cut_term w (minus_number 1 (negative a))

-- a product at a width, a multiple where a factor is constant
unfoldable pub product_term : Width → Option PlainSum → Option PlainSum → Option PlainSum
product_term w a b = cut_term w (apply_both (pair Mul) a b)

-- a shift at a width by a count below the width; rotations are unknown
abbrev pub shifted_term : Shift → Width → Option PlainSum → ℕ → Option PlainSum
shifted_term shift.Rol w a k = None
shifted_term shift.Ror w a k = None
shifted_term shift.Shl w a k = cut_term w (apply (times (2 ^ k)) a)
shifted_term shift.Shr w a k = cut_term w (apply (λ t. pair Shr t (number k)) a)
shifted_term shift.Sar w a k = cut_term w (apply (λ t. pair Sar t (number k)) (sext_term w a))

-- the same by an operand: an immediate that is below the width once masked; a count in CL is unknown
unfoldable pub shift_term : Shift → Width → Option PlainSum → Operand → Option PlainSum
shift_term o w a operand.None = None
shift_term o w a (operand.Reg r) = None
shift_term o w a (operand.High r) = None
shift_term o w a (operand.Imm n) =
    if nat_lt (n % count_modulus w) (bits_of w) then shifted_term o w a (n % count_modulus w) else None
shift_term o w a (operand.Mem pl) = None

-- ---- flags

-- the flags of the comparison of two terms, where both are known
abbrev pub comparison : Width → Option PlainSum → Option PlainSum → Option FlagFact
comparison w None b = None
comparison w (Some a) None = None
comparison w (Some a) (Some b) = Some (record { width = w; left = a; right = b })

-- an unknown result of 32 or 64 bits, as the low bits of the name that its register took
abbrev pub name_result : Instr → Width → Operand → Option PlainSum
name_result i w operand.None = None
name_result i W8 (operand.Reg r) = None
name_result i W16 (operand.Reg r) = None
name_result i W32 (operand.Reg r) = option_map (zeros_term W32) (register_name i r)
name_result i W64 (operand.Reg r) = register_name i r
name_result i w (operand.High r) = None
name_result i w (operand.Imm n) = None
name_result i w (operand.Mem pl) = None

-- the flags of the comparison of a result with 0
abbrev pub against_zero : Instr → Option PlainSum → Option FlagFact
against_zero i t = comparison i.width (option_or t (name_result i i.width i.dst)) (Some (number 0))

-- the flags after an operation on a and b with the result t
unfoldable pub alu_fact : Alu → Instr → Option PlainSum → Option PlainSum → Option PlainSum → Option FlagFact
alu_fact alu.Add i a b t = None
alu_fact alu.Adc i a b t = None
alu_fact alu.Sub i a b t = comparison i.width a b
alu_fact alu.Sbb i a b t = None
alu_fact alu.And i a b t = against_zero i t
alu_fact alu.Or i a b t = against_zero i t
alu_fact alu.Xor i a b t = against_zero i t
