-- What is known after an instruction that goes on at the next one, by its operation.
use Rattle.std.specs.Prelude.{Some}
use Rattle.predicates.specs.Predicate.{Predicate}
use Rattle.x86_instr.specs.declared.instr.Op.{Op}
use Rattle.x86_instr.specs.declared.instr.Instr.{Instr}
use Rattle.x86_instr.specs.Groups.{Group, Calculates, Moves, Stacks, Controls, group_of}
use Rattle.x86_instr.specs.Groups.{Arithmetic, Combining, Comparing, Inverting, Negating, Counting, Multiplying, Dividing, Scaling, ScalingBy, Shifting}
use Rattle.x86_instr.specs.Groups.{Movement, Copying, ExtendingZeros, ExtendingSign, Addressing, Exchanging, Widening, SignFilling, Swapping, Choosing, Setting}
use Rattle.x86_instr.specs.Groups.{StackMove, Pushing, Popping, Leaving}
use Rattle.step_rules.specs.View.{View}
use Rattle.step_rules.specs.Terms.{number}
use Rattle.step_rules.specs.Access.{read_term}
use Rattle.step_rules.specs.Steps.{combined, compared, inverted, negated, counted, multiplied, divided, scaled, shifted}
use Rattle.step_rules.specs.Moves.{moved, extended_by_zeros, extended_by_sign, addressed, exchanged, operand_pushed, popped, after_leave, widened, after_cwd, swapped, after_cmov, after_setcc}

-- after arithmetic, logic and shifts
abbrev pub calculated : Arithmetic → View → Instr → Predicate → Predicate
calculated (Combining o) v i p = combined o v i p
calculated (Comparing o) v i p = compared o v i p
calculated Inverting v i p = inverted v i p
calculated Negating v i p = negated v i p
calculated (Counting o) v i p = counted o v i p
calculated Multiplying v i p = multiplied v i p
calculated Dividing v i p = divided v i p
calculated Scaling v i p = scaled (read_term v i p i.width i.dst) (read_term v i p i.width i.src) v i p
calculated ScalingBy v i p = scaled (read_term v i p i.width i.src) (Some (number i.extra)) v i p
calculated (Shifting o) v i p = shifted o v i p

-- after moves of data
abbrev pub transferred : Movement → View → Instr → Predicate → Predicate
transferred Copying v i p = moved v i p
transferred ExtendingZeros v i p = extended_by_zeros v i p
transferred ExtendingSign v i p = extended_by_sign v i p
transferred Addressing v i p = addressed v i p
transferred Exchanging v i p = exchanged v i p
transferred Widening v i p = widened v i p
transferred SignFilling v i p = after_cwd v i p
transferred Swapping v i p = swapped v i p
transferred Choosing v i p = after_cmov v i p
transferred Setting v i p = after_setcc v i p

-- after moves that change the stack pointer
abbrev pub stacked : StackMove → View → Instr → Predicate → Predicate
stacked Pushing v i p = operand_pushed v i p
stacked Popping v i p = popped v i p
stacked Leaving v i p = after_leave v i p

-- the same, of any group; one that leads control elsewhere is not asked, and nop does nothing
abbrev pub executed_in : Group → View → Instr → Predicate → Predicate
executed_in (Calculates a) v i p = calculated a v i p
executed_in (Moves m) v i p = transferred m v i p
executed_in (Stacks s) v i p = stacked s v i p
executed_in (Controls c) v i p = p

-- what is known after an instruction that goes on at the next one, from what is known without its site's old name
abbrev pub executed : Op → View → Instr → Predicate → Predicate
executed o v i p = executed_in (group_of o) v i p
