-- Where a step goes on, and that it leads to a state exactly where its outcome says so.
use Rattle.std.proofs.Common.{◌≡◌, ℕ, true, false, Option, Some, None, refl, subst}
use Rattle.std.specs.Prelude.{IsSome, ◌↔◌}
use Rattle.x86_instr.specs.declared.class.Class.TheVariants as class
use Rattle.x86_instr.specs.declared.instr.Op.{Op}
use Rattle.x86_instr.specs.declared.instr.Op.TheVariants as op
use Rattle.x86_instr.specs.declared.instr.Instr.{Instr}
use Rattle.x86_instr.specs.Classes.{class_of, GoesOn}
use Rattle.x86_machine.specs.declared.machine.Outcome.TheVariants.{Moved}
use Rattle.x86_machine.specs.State.{State, with_rip}
use Rattle.x86_machine.specs.Steps.{divided, quotients}
use Rattle.x86_machine.specs.Next.{next_address, next_by, goes_on_if, outcome_by}
use Rattle.x86_machine.specs.StepLaws.{OutcomeLaw, PlaceLaw}

-- where there is a state, it is at the address
abbrev AllAt : ℕ → Option State → Type 0
AllAt at None = Unit {0}
AllAt at (Some t) = t.rip ≡ at

all_at : (at : ℕ) (o : Option State) (t : State) → AllAt at o → o ≡ Some t → t.rip ≡ at
all_at at None t h e = absurd (cc)
all_at at (Some u) t h e = let same : u ≡ t = cc in subst (λ (x : State). x.rip ≡ at) same h

at_rip : (s : State) (at : ℕ) → (with_rip s at).rip ≡ at
unfolding with_rip
at_rip s at = refl

at_divided : (o : Option State) (i : Instr) → AllAt (next_address i) (goes_on_if i o)
at_divided None i = tt
at_divided (Some s) i = at_rip s (next_address i)

at_next : (o : Op) (s : State) (i : Instr) (choice : ℕ) → GoesOn (class_of o) → AllAt (next_address i) (next_by o s i choice)
at_next op.Div s i choice h = at_divided (divided (quotients false s i) s i choice) i
at_next op.Idiv s i choice h = at_divided (divided (quotients true s i) s i choice) i
at_next op.Jcc s i choice h = absurd h
at_next op.Jmp s i choice h = absurd h
at_next op.Call s i choice h = absurd h
at_next op.Ret s i choice h = absurd h
at_next op.Syscall s i choice h = absurd h
at_next op.Hlt s i choice h = absurd h
at_next op.Ud2 s i choice h = absurd h
at_next op.Int3 s i choice h = absurd h
at_next _ s i choice h = at_rip _ (next_address i)

pub place_law : PlaceLaw
place_law s t i choice goes e = all_at (next_address i) (next_by i.op s i choice) t (at_next i.op s i choice goes) e

divided_moves : (o : Option State) → (outcome_by class.Division o ≡ Moved) ↔ IsSome o
divided_moves None = (λ e. absurd cc, λ some. absurd cc)
divided_moves (Some t) = (λ e. refl, λ some. refl)

moves : (o : Op) (s : State) (i : Instr) (choice : ℕ) → (outcome_by (class_of o) (next_by o s i choice) ≡ Moved) ↔ IsSome (next_by o s i choice)
moves op.Div s i choice = divided_moves (next_by op.Div s i choice)
moves op.Idiv s i choice = divided_moves (next_by op.Idiv s i choice)
moves op.Syscall s i choice = (λ e. absurd cc, λ some. absurd cc)
moves op.Hlt s i choice = (λ e. absurd cc, λ some. absurd cc)
moves op.Ud2 s i choice = (λ e. absurd cc, λ some. absurd cc)
moves op.Int3 s i choice = (λ e. absurd cc, λ some. absurd cc)
moves _ s i choice = (λ e. refl, λ some. refl)

pub outcome_law : OutcomeLaw
outcome_law s i choice = moves i.op s i choice
