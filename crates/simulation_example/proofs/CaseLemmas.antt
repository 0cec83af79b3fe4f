-- The cases of each ordinary instruction.
use Rattle.std.proofs.Common.{◌≡◌, ℕ, [], ◌∷◌, ◌⊎◌, inl, inr, refl}
use Rattle.std.specs.Prelude.{Some}
use Rattle.simulation.specs.World.{View}
use Rattle.simulation_example.specs.declared.machine.Instr.{Instr}
use Rattle.simulation_example.specs.declared.machine.Instr.TheVariants.{Nop, Draw, Swap, Branch}
use Rattle.simulation_example.specs.declared.predicate.Region.{Region}
use Rattle.simulation_example.specs.declared.predicate.Pred.{Pred}
use Rattle.simulation_example.specs.Machine.{next_of}
use Rattle.simulation_example.specs.Example.{case_to, cases}

-- an instruction that does not branch has one case, at the next address
pub straight_cases :
    (view : View Region) (instr : Instr) (pred : Pred) → (instr ≡ Nop) ⊎ ((instr ≡ Draw) ⊎ (instr ≡ Swap)) →
    cases view instr pred ≡ Some (case_to (next_of view.address) view instr pred ∷ [])
unfolding cases
straight_cases view instr pred (inl is) = rw is refl
straight_cases view instr pred (inr (inl is)) = rw is refl
straight_cases view instr pred (inr (inr is)) = rw is refl

-- a branch has two cases, at the next address and at its target
pub branch_cases :
    (view : View Region) (instr : Instr) (pred : Pred) (target : ℕ) → instr ≡ Branch target →
    cases view instr pred ≡ Some (case_to (next_of view.address) view instr pred ∷ case_to target view instr pred ∷ [])
unfolding cases
branch_cases view instr pred target is = rw is refl
