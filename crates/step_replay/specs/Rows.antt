-- What a recorded row has of a machine, as the head of tools/record_steps.c says it.
use Rattle.std.specs.Prelude.{◌≡◌, ℕ, ◌+◌, List, [], ◌∷◌, map, if◌then◌else◌, bit_and, Option, Some, None}
use Rattle.bits_core.specs.declared.flags.Flags.{Flags}
use Rattle.x86_instr.specs.declared.instr.Instr.{Instr}
use Rattle.x86_machine.specs.declared.machine.Outcome.TheVariants.{DivideFault}
use Rattle.x86_machine.specs.Memory.{loaded}
use Rattle.x86_machine.specs.State.{State, reg}
use Rattle.x86_machine.specs.Next.{next, outcome_of}
use Rattle.x86_spelling.specs.Spells.{SpellsPrefix}
use Rattle.step_replay.specs.declared.rows.Recorded.{Recorded}
use Rattle.step_replay.specs.declared.rows.Goal.{Goal}
use Rattle.step_replay.specs.declared.rows.TheConstants.{CELL, CODE}

-- the flags as a digit: 1 carry, 2 zero, 4 sign, 8 overflow
abbrev pub flags_digit : Flags → ℕ
flags_digit flags =
    (if flags.carry then 1 else 0)
    + (if flags.zero then 2 else 0)
    + (if flags.sign then 4 else 0)
    + (if flags.over then 8 else 0)

-- rax, rcx, rdx, rbx, rsp and rbp
abbrev pub first_registers : State → List ℕ
first_registers s = map (reg s) (0 ∷ 1 ∷ 2 ∷ 3 ∷ 4 ∷ 5 ∷ [])

-- a state has what was recorded, in the flags of the mask
pub record Shows (s : State) (mask : ℕ) (recorded : Recorded) : Type 0 where
  pub regs : first_registers s ≡ recorded.regs
  pub cell : loaded s.memory 8 CELL ≡ recorded.cell
  pub flags : bit_and (flags_digit s.flags) mask ≡ recorded.flags

-- a state in which the recorded step begins
pub record Begins (s : State) (recorded : Recorded) : Type 0 where
  pub shows : Shows s 15 recorded
  pub rip : s.rip ≡ CODE

-- a state to which the recorded step leads
pub record IsAt (s : State) (goal : Goal) : Type 0 where
  pub shows : Shows s goal.mask goal.after
  pub rip : s.rip ≡ goal.rip

-- where the recorded step went: to a fault, or to a state
abbrev pub Reaches : State → Instr → ℕ → Option Goal → Type 0
Reaches s i choice None = outcome_of s i choice ≡ DivideFault
Reaches s i choice (Some goal) =
    (t : State) × (next s i choice ≡ Some t) × IsAt t goal

-- an instruction begins the bytes, and its step went where the recorded one did
abbrev pub Agrees : State → List ℕ → ℕ → Option Goal → Type 0
Agrees s code choice goal =
    (i : Instr) × (i.addr ≡ s.rip) × SpellsPrefix i code × Reaches s i choice goal
