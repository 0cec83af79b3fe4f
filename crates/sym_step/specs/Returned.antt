-- What is known after a call or a system call, of what is known before it without the name of its site.
use Rattle.std.specs.Prelude.{Some, None}
use Rattle.predicates.specs.Predicate.{Predicate}
use Rattle.x86_instr.specs.declared.instr.Instr.{Instr}
use Rattle.x86_instr.specs.Classes.{class_of}
use Rattle.x86_instr.specs.Registers.{rax}
use Rattle.step_rules.specs.View.{View}
use Rattle.step_rules.specs.Names.{name_term}
use Rattle.step_rules.specs.Drop.{dropped}
use Rattle.step_rules.specs.Access.{with_register}
use Rattle.step_rules.specs.Steps.{with_flags}
use Rattle.step_rules.specs.Calls.{begun, changed_by, cleared, with_kept}

-- what is known after the return: the registers and values that a callee keeps, and rax by the name
abbrev pub returned : View → Instr → Predicate → Predicate
returned v i p =
    with_register (dropped i (with_flags (with_kept v (cleared (changed_by (class_of i.op)) (begun (class_of i.op) v i p))) None)) rax (Some (name_term i))
