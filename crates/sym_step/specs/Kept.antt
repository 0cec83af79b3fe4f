-- Whether what a callee keeps is known, as a test.
use Rattle.std.specs.Prelude.{Bool, is_some}
use Rattle.std.specs.List.{list_all}
use Rattle.mem_forest.specs.Search.{value_at}
use Rattle.predicates.specs.Predicate.{Predicate}
use Rattle.x86_instr.specs.declared.instr.Instr.{Instr}
use Rattle.step_rules.specs.View.{View}
use Rattle.step_rules.specs.Calls.{begin}

-- whether each region that the callee keeps is a cell with a value where it begins
abbrev pub are_kept : View → Instr → Predicate → Bool
are_kept v i p = list_all (λ k. is_some (value_at k.at k.bytes (begin v i p).forest)) v.keeps
