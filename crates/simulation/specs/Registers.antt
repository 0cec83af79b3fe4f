-- The numbers of the registers that calls and returns speak of (Intel SDM volume 2, 3.1.1.1).
use Rattle.std.specs.Prelude.{ℕ}

-- the register of a returned value
abbrev pub rax : ℕ
rax = 0

-- a register that a syscall changes
abbrev pub rcx : ℕ
rcx = 1

-- the first of the six registers that a callee saves (System V x86-64 psABI, 3.2.1)
abbrev pub rbx : ℕ
rbx = 3

-- the stack pointer
abbrev pub rsp : ℕ
rsp = 4

-- saved by a callee
abbrev pub rbp : ℕ
rbp = 5

-- a register that a syscall changes
abbrev pub r11 : ℕ
r11 = 11

-- saved by a callee
abbrev pub r12 : ℕ
r12 = 12

-- saved by a callee
abbrev pub r13 : ℕ
r13 = 13

-- saved by a callee
abbrev pub r14 : ℕ
r14 = 14

-- saved by a callee
abbrev pub r15 : ℕ
r15 = 15
