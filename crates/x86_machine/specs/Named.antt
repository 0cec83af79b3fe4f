-- Which value an instruction names for the one who follows its steps: the loaded one, a register's, or an address.
use Rattle.std.specs.Prelude.{ℕ, Bool, true, false, if◌then◌else◌, Option, Some, None}
use Rattle.x86_instr.specs.declared.instr.Op.{Op}
use Rattle.x86_instr.specs.declared.instr.Op.TheVariants as op
use Rattle.x86_instr.specs.declared.instr.Operand.{Operand}
use Rattle.x86_instr.specs.declared.instr.Operand.TheVariants as operand
use Rattle.x86_instr.specs.declared.instr.Instr.{Instr}
use Rattle.x86_instr.specs.Fits.{is_place}
use Rattle.x86_instr.specs.Registers.{rax, rdx, rbp}
use Rattle.x86_machine.specs.State.{State, reg}
use Rattle.x86_machine.specs.Access.{address_of, read}
use Rattle.x86_machine.specs.Moves.{below_top}

-- the loaded number, a register's 64 bits after the step, the address of the store, or nothing
pub data Name : Type 0 where
  Loaded : Name
  Register : ℕ → Name
  Stored : Name
  Nothing : Name

-- a register that is written, the high ones being parts of the first four, or the address of the store
abbrev pub written : Operand → Name
written (operand.Reg r) = Register r
written (operand.High r) = Register r
written (operand.Mem p) = Stored
written operand.None = Nothing
written (operand.Imm n) = Nothing

-- what is loaded where one of the operands is a place in memory
abbrev pub loaded_or : Bool → Name → Name
loaded_or true other = Loaded
loaded_or false other = other

-- xchg of two registers names nothing; with memory it names its register operand
abbrev pub exchange_name : Operand → Operand → Name
exchange_name (operand.Mem p) source = written source
exchange_name operand.None source = Nothing
exchange_name (operand.Reg r) source = Nothing
exchange_name (operand.High r) source = Nothing
exchange_name (operand.Imm n) source = Nothing

-- which value the instruction of an operation names
abbrev pub names_by : Op → Instr → Name
names_by op.Add i = written i.dst
names_by op.Or i = written i.dst
names_by op.Adc i = written i.dst
names_by op.Sbb i = written i.dst
names_by op.And i = written i.dst
names_by op.Sub i = written i.dst
names_by op.Xor i = written i.dst
names_by op.Cmp i = loaded_or (is_place i.dst) (loaded_or (is_place i.src) Nothing)
names_by op.Test i = loaded_or (is_place i.dst) (loaded_or (is_place i.src) Nothing)
names_by op.Mov i = written i.dst
names_by op.Lea i = written i.dst
names_by op.Movzx i = written i.dst
names_by op.Movsx i = written i.dst
names_by op.Not i = written i.dst
names_by op.Neg i = written i.dst
names_by op.Mul i = Register rax
names_by op.Imul1 i = Register rax
names_by op.Div i = Register rax
names_by op.Idiv i = Register rax
names_by op.Imul2 i = written i.dst
names_by op.Imul3 i = written i.dst
names_by op.Inc i = written i.dst
names_by op.Dec i = written i.dst
names_by op.Rol i = written i.dst
names_by op.Ror i = written i.dst
names_by op.Shl i = written i.dst
names_by op.Shr i = written i.dst
names_by op.Sar i = written i.dst
names_by op.Push i = loaded_or (is_place i.dst) Stored
names_by op.Pop i = written i.dst
names_by op.Leave i = Register rbp
names_by op.Widen i = Register rax
names_by op.Signs i = Register rdx
names_by op.Xchg i = exchange_name i.dst i.src
names_by op.Bswap i = written i.dst
names_by op.Cmov i = written i.dst
names_by op.Setcc i = written i.dst
names_by op.Jcc i = Nothing
names_by op.Jmp i = loaded_or (is_place i.dst) Nothing
names_by op.Call i = Register rax
names_by op.Ret i = Nothing
names_by op.Nop i = Nothing
names_by op.Syscall i = Register rax
names_by op.Hlt i = Nothing
names_by op.Ud2 i = Nothing
names_by op.Int3 i = Nothing

-- which value an instruction names
abbrev pub names : Instr → Name
names i = names_by i.op i

-- what a cmp, test, push or jmp loads
abbrev pub loaded_value : State → Instr → ℕ
loaded_value s i =
    if is_place i.dst then read s i.width i.dst else read s i.src_width i.src

-- the address of the store: an operand in memory, or else (push) the new top of the stack
abbrev pub store_address : State → Instr → ℕ
store_address s i = if is_place i.dst then address_of s i.dst else below_top s

-- the value of a name as one state becomes another
abbrev pub value_of : Name → State → Instr → State → Option ℕ
value_of Loaded s i t = Some (loaded_value s i)
value_of (Register r) s i t = Some (reg t r)
value_of Stored s i t = Some (store_address s i)
value_of Nothing s i t = None

-- the value that the instruction names as one state becomes another
abbrev pub named_value : State → Instr → State → Option ℕ
named_value s i t = value_of (names i) s i t
