-- How control goes on after an operation (Intel SDM volume 1, 5.1.7: control transfer).
use Rattle.x86_instr.specs.declared.instr.Op.{Op}
use Rattle.x86_instr.specs.declared.instr.Op.TheVariants as op
use Rattle.x86_instr.specs.declared.class.Class.{Class}
use Rattle.x86_instr.specs.declared.class.Class.TheVariants.{Calculation, Transfer, Division, Jump, Call, Return, SystemCall, Stop}

-- the class of each operation
abbrev pub class_of : Op → Class
class_of op.Add = Calculation
class_of op.Or = Calculation
class_of op.Adc = Calculation
class_of op.Sbb = Calculation
class_of op.And = Calculation
class_of op.Sub = Calculation
class_of op.Xor = Calculation
class_of op.Cmp = Calculation
class_of op.Test = Calculation
class_of op.Mov = Transfer
class_of op.Lea = Transfer
class_of op.Movzx = Transfer
class_of op.Movsx = Transfer
class_of op.Not = Calculation
class_of op.Neg = Calculation
class_of op.Mul = Calculation
class_of op.Imul1 = Calculation
class_of op.Div = Division
class_of op.Idiv = Division
class_of op.Imul2 = Calculation
class_of op.Imul3 = Calculation
class_of op.Inc = Calculation
class_of op.Dec = Calculation
class_of op.Rol = Calculation
class_of op.Ror = Calculation
class_of op.Shl = Calculation
class_of op.Shr = Calculation
class_of op.Sar = Calculation
class_of op.Push = Transfer
class_of op.Pop = Transfer
class_of op.Leave = Transfer
class_of op.Widen = Transfer
class_of op.Signs = Transfer
class_of op.Xchg = Transfer
class_of op.Bswap = Transfer
class_of op.Cmov = Transfer
class_of op.Setcc = Transfer
class_of op.Jcc = Jump
class_of op.Jmp = Jump
class_of op.Call = Call
class_of op.Ret = Return
class_of op.Nop = Transfer
class_of op.Syscall = SystemCall
class_of op.Hlt = Stop
class_of op.Ud2 = Stop
class_of op.Int3 = Stop

-- an operation of the class goes on at the next instruction, where it goes on
abbrev pub GoesOn : Class → Type 0
GoesOn Calculation = Unit {0}
GoesOn Transfer = Unit {0}
GoesOn Division = Unit {0}
GoesOn Jump = ⊥
GoesOn Call = ⊥
GoesOn Return = ⊥
GoesOn SystemCall = ⊥
GoesOn Stop = ⊥
