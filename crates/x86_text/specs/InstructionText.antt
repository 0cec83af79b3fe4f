-- The text of an instruction: the mnemonic, then the operands, the first of which is the one that is written.
use Rattle.std.specs.Prelude.{ℕ, ◌-◌, ◌^◌, nat_lt, ◌==◌, Bool, false, not, ◌&&◌, ◌||◌, if◌then◌else◌, List, [], ◌++◌, Option, Some, None, is_some, codes}
use Rattle.std.specs.Fmt.{decimal, digits}
use Rattle.bits_core.specs.declared.width.Width.{Width}
use Rattle.bits_core.specs.declared.width.Width.TheVariants.{W8, W16, W32, W64}
use Rattle.bits_core.specs.LowBits.{sext_of}
use Rattle.x86_instr.specs.declared.instr.Op.{Op}
use Rattle.x86_instr.specs.declared.instr.Op.TheVariants as op
use Rattle.x86_instr.specs.declared.instr.Place.{Place}
use Rattle.x86_instr.specs.declared.instr.Operand.{Operand}
use Rattle.x86_instr.specs.declared.instr.Operand.TheVariants as operand
use Rattle.x86_instr.specs.declared.instr.Instr.{Instr}
use Rattle.x86_text.specs.Names.{mnemonic, register_name, high_name}

-- lower-case hexadecimal without leading zeros
abbrev pub hex_text : ℕ → List ℕ
hex_text n = codes "0x" ++ digits 16 false n

-- a number of 64 bits that is, read as signed, from -9999 to -1
abbrev pub is_small_negative : ℕ → Bool
is_small_negative n = nat_lt (2 ^ 64 - 10000) n

-- a number of 64 bits, read as signed: decimal from -9999 to 9999, else hexadecimal
abbrev pub number_text : ℕ → List ℕ
number_text n =
    if nat_lt n 10000 then decimal n
    else if is_small_negative n then codes "-" ++ decimal (2 ^ 64 - n)
    else hex_text n

-- a plus sign before a number that follows others and has no minus sign
abbrev pub plus_text : Bool → ℕ → List ℕ
plus_text follows n = if follows && not (is_small_negative n) then codes "+" else []

-- the displacement, which is left out where it is 0 and does not stand alone
abbrev pub disp_text : Bool → ℕ → List ℕ
disp_text follows n = if follows && (n == 0) then [] else plus_text follows n ++ number_text n

-- the base register
abbrev pub base_text : Option ℕ → List ℕ
base_text None = []
base_text (Some r) = register_name W64 r

-- the index with its scale
abbrev pub index_text : Bool → Option ℕ → ℕ → List ℕ
index_text follows None scale = []
index_text follows (Some r) scale =
    (if follows then codes "+" else []) ++ (register_name W64 r ++ (codes "*" ++ decimal scale))

-- the segment
abbrev pub segment_text : Bool → List ℕ
segment_text fs = if fs then codes "fs:" else []

-- a place in brackets
abbrev pub place_text : Place → List ℕ
place_text p =
    codes "["
    ++ (segment_text p.fs
    ++ (base_text p.base
    ++ (index_text (is_some p.base) p.index p.scale
    ++ (disp_text (is_some p.base || is_some p.index) p.disp ++ codes "]"))))

-- the size of an operand in memory
abbrev pub size_text : Width → List ℕ
size_text W8 = codes "byte "
size_text W16 = codes "word "
size_text W32 = codes "dword "
size_text W64 = codes "qword "

-- an operand at a width; an immediate is extended by its sign
abbrev pub operand_text : Width → Operand → List ℕ
operand_text w operand.None = []
operand_text w (operand.Reg r) = register_name w r
operand_text w (operand.High r) = high_name r
operand_text w (operand.Imm n) = number_text (sext_of w n)
operand_text w (operand.Mem p) = size_text w ++ place_text p

-- the target of a branch: an address where it is direct
abbrev pub target_text : Operand → List ℕ
target_text operand.None = []
target_text (operand.Reg r) = register_name W64 r
target_text (operand.High r) = high_name r
target_text (operand.Imm n) = hex_text n
target_text (operand.Mem p) = size_text W64 ++ place_text p

-- the count of a shift: an immediate of the width, or cl
abbrev pub count_text : Width → Operand → List ℕ
count_text w operand.None = []
count_text w (operand.Reg r) = register_name W8 r
count_text w (operand.High r) = high_name r
count_text w (operand.Imm n) = number_text (sext_of w n)
count_text w (operand.Mem p) = size_text w ++ place_text p

-- the address that lea takes, without a size
abbrev pub address_text : Width → Operand → List ℕ
address_text w operand.None = []
address_text w (operand.Reg r) = register_name w r
address_text w (operand.High r) = high_name r
address_text w (operand.Imm n) = number_text (sext_of w n)
address_text w (operand.Mem p) = place_text p

-- the first operand
abbrev pub first_text : Op → Instr → List ℕ
first_text op.Jcc i = target_text i.dst
first_text op.Jmp i = target_text i.dst
first_text op.Call i = target_text i.dst
first_text _ i = operand_text i.width i.dst

-- the second operand
abbrev pub second_text : Op → Instr → List ℕ
second_text op.Lea i = address_text i.src_width i.src
second_text op.Rol i = count_text i.width i.src
second_text op.Ror i = count_text i.width i.src
second_text op.Shl i = count_text i.width i.src
second_text op.Shr i = count_text i.width i.src
second_text op.Sar i = count_text i.width i.src
second_text _ i = operand_text i.src_width i.src

-- the factor of a multiplication with three operands
abbrev pub third_text : Op → Instr → List ℕ
third_text op.Imul3 i = codes ", " ++ number_text (sext_of i.width i.extra)
third_text _ i = []

-- an operand after a separator, where there is one
abbrev pub after : List ℕ → Operand → List ℕ → List ℕ
after separator operand.None text = []
after separator (operand.Reg r) text = separator ++ text
after separator (operand.High r) text = separator ++ text
after separator (operand.Imm n) text = separator ++ text
after separator (operand.Mem p) text = separator ++ text

-- the whole text
abbrev pub text_of : Instr → List ℕ
text_of i =
    mnemonic i
    ++ (after (codes " ") i.dst (first_text i.op i)
    ++ (after (codes ", ") i.src (second_text i.op i) ++ third_text i.op i))
