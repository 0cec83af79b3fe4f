-- Mnemonics and the names of registers (Intel SDM volume 2, chapters 3 to 5; volume 1, 3.4.1).
use Rattle.std.specs.Prelude.{ℕ, nat_lt, ◌==◌, if◌then◌else◌, List, [], ◌++◌, take, codes}
use Rattle.std.specs.Fmt.{decimal}
use Rattle.bits_core.specs.declared.width.Width.{Width}
use Rattle.bits_core.specs.declared.width.Width.TheVariants.{W8, W16, W32, W64}
use Rattle.x86_instr.specs.declared.instr.Op.{Op}
use Rattle.x86_instr.specs.declared.instr.Op.TheVariants as op
use Rattle.x86_instr.specs.declared.instr.Instr.{Instr}

-- the names of the first eight registers at 16 bits
abbrev pub stem : ℕ → List ℕ
stem r =
    if r == 0 then codes "ax"
    else (if r == 1 then codes "cx"
    else (if r == 2 then codes "dx"
    else (if r == 3 then codes "bx"
    else (if r == 4 then codes "sp"
    else (if r == 5 then codes "bp" else (if r == 6 then codes "si" else codes "di"))))))

-- a register's letter: a, c, d, b
abbrev pub letter : ℕ → List ℕ
letter r = take 1 (stem r)

-- what their 8-bit names have before the l
abbrev pub byte_stem : ℕ → List ℕ
byte_stem r = if nat_lt r 4 then letter r else stem r

-- the names of the first eight registers
abbrev pub first_name : Width → ℕ → List ℕ
first_name W8 r = byte_stem r ++ codes "l"
first_name W16 r = stem r
first_name W32 r = codes "e" ++ stem r
first_name W64 r = codes "r" ++ stem r

-- what the names of r8 to r15 have after the number
abbrev pub suffix : Width → List ℕ
suffix W8 = codes "b"
suffix W16 = codes "w"
suffix W32 = codes "d"
suffix W64 = []

-- the name of a register at a width
abbrev pub register_name : Width → ℕ → List ℕ
register_name w r =
    if nat_lt r 8 then first_name w r else codes "r" ++ (decimal r ++ suffix w)

-- ah, ch, dh, bh
abbrev pub high_name : ℕ → List ℕ
high_name r = letter r ++ codes "h"

-- the conditions: o no b ae e ne be a s ns l ge le g
abbrev pub condition_name : ℕ → List ℕ
condition_name cc =
    if cc == 0 then codes "o"
    else (if cc == 1 then codes "no"
    else (if cc == 2 then codes "b"
    else (if cc == 3 then codes "ae"
    else (if cc == 4 then codes "e"
    else (if cc == 5 then codes "ne"
    else (if cc == 6 then codes "be"
    else (if cc == 7 then codes "a"
    else (if cc == 8 then codes "s"
    else (if cc == 9 then codes "ns"
    else (if cc == 12 then codes "l"
    else (if cc == 13 then codes "ge" else (if cc == 14 then codes "le" else codes "g"))))))))))))

-- cbw, cwde, cdqe
abbrev pub widen_name : Width → List ℕ
widen_name W8 = []
widen_name W16 = codes "cbw"
widen_name W32 = codes "cwde"
widen_name W64 = codes "cdqe"

-- cwd, cdq, cqo
abbrev pub signs_name : Width → List ℕ
signs_name W8 = []
signs_name W16 = codes "cwd"
signs_name W32 = codes "cdq"
signs_name W64 = codes "cqo"

-- the mnemonic without a condition
abbrev pub name : Op → Width → List ℕ
name op.Add w = codes "add"
name op.Or w = codes "or"
name op.Adc w = codes "adc"
name op.Sbb w = codes "sbb"
name op.And w = codes "and"
name op.Sub w = codes "sub"
name op.Xor w = codes "xor"
name op.Cmp w = codes "cmp"
name op.Test w = codes "test"
name op.Mov w = codes "mov"
name op.Lea w = codes "lea"
name op.Movzx w = codes "movzx"
name op.Movsx w = codes "movsx"
name op.Not w = codes "not"
name op.Neg w = codes "neg"
name op.Mul w = codes "mul"
name op.Imul1 w = codes "imul"
name op.Div w = codes "div"
name op.Idiv w = codes "idiv"
name op.Imul2 w = codes "imul"
name op.Imul3 w = codes "imul"
name op.Inc w = codes "inc"
name op.Dec w = codes "dec"
name op.Rol w = codes "rol"
name op.Ror w = codes "ror"
name op.Shl w = codes "shl"
name op.Shr w = codes "shr"
name op.Sar w = codes "sar"
name op.Push w = codes "push"
name op.Pop w = codes "pop"
name op.Leave w = codes "leave"
name op.Widen w = widen_name w
name op.Signs w = signs_name w
name op.Xchg w = codes "xchg"
name op.Bswap w = codes "bswap"
name op.Cmov w = codes "cmov"
name op.Setcc w = codes "set"
name op.Jcc w = codes "j"
name op.Jmp w = codes "jmp"
name op.Call w = codes "call"
name op.Ret w = codes "ret"
name op.Nop w = codes "nop"
name op.Syscall w = codes "syscall"
name op.Hlt w = codes "hlt"
name op.Ud2 w = codes "ud2"
name op.Int3 w = codes "int3"

-- the condition's letters, where there is one
abbrev pub suffix_of : Op → ℕ → List ℕ
suffix_of op.Jcc cc = condition_name cc
suffix_of op.Cmov cc = condition_name cc
suffix_of op.Setcc cc = condition_name cc
suffix_of _ cc = []

-- the whole mnemonic
abbrev pub mnemonic : Instr → List ℕ
mnemonic i = name i.op i.width ++ suffix_of i.op i.cc
