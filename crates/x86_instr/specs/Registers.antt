-- The numbers of registers that have a part of their own (Intel SDM volume 2, table 2-2).
use Rattle.std.specs.Prelude.{ℕ}

-- the accumulator
abbrev pub rax : ℕ
rax = 0

-- the register of counts, whose low byte is CL
abbrev pub rcx : ℕ
rcx = 1

-- the upper half of a wide product or dividend
abbrev pub rdx : ℕ
rdx = 2

-- the stack pointer, which is never an index
abbrev pub rsp : ℕ
rsp = 4

-- the frame pointer
abbrev pub rbp : ℕ
rbp = 5
