-- What a run tells apart: instructions by class, sites by kind; and what a call pushes.
use Rattle.std.specs.Prelude.{ℕ}
use Rattle.simulation.specs.World as theory
use Rattle.simulation.specs.World.{Class, Ordinary, Calling, System, Returning, Stopping}
use Rattle.x86_instr.specs.declared.class.Class as class
use Rattle.x86_instr.specs.declared.class.Class.TheVariants as way
use Rattle.x86_instr.specs.Classes.{class_of as op_class}
use Rattle.x86_instr.specs.declared.instr.Instr.{Instr}
use Rattle.x86_machine.specs.Memory.{stored}
use Rattle.x86_machine.specs.State.{State}
use Rattle.x86_machine.specs.Moves.{below_top}
use Rattle.x86_machine.specs.Next.{next_address}
use Rattle.predicates.specs.declared.site.Kind.{Kind}
use Rattle.predicates.specs.declared.site.Kind.TheVariants as kind

-- what a run tells of the ways in which control goes on
abbrev pub class_by : class.Class → Class
class_by way.Calculation = Ordinary
class_by way.Transfer = Ordinary
class_by way.Division = Ordinary
class_by way.Jump = Ordinary
class_by way.Call = Calling
class_by way.Return = Returning
class_by way.SystemCall = System
class_by way.Stop = Stopping

-- the class of an instruction
abbrev pub class_of : Instr → Class
class_of i = class_by (op_class i.op)

-- memory when a callee begins: a call pushes the next address, and nothing else pushes
abbrev pub pushed_by : Class → State → Instr → ℕ → ℕ
pushed_by Calling s i = stored s.memory 8 (below_top s) (next_address i)
pushed_by System s i = s.memory
pushed_by Ordinary s i = s.memory
pushed_by Returning s i = s.memory
pushed_by Stopping s i = s.memory

-- the same, of an instruction
abbrev pub pushed : State → Instr → ℕ → ℕ
pushed s i = pushed_by (class_of i) s i

-- the kind of a site, as the theorem has it; why a claim ends makes no difference to it
abbrev pub kind_of : Kind → theory.Kind
kind_of kind.Step = theory.Step
kind_of (kind.Call entry) = theory.Call entry
kind_of kind.Outside = theory.Outside
kind_of kind.Return = theory.Return
kind_of (kind.End reason) = theory.End 0
