-- The tests by which the rules are decided.
use Rattle.std.specs.Prelude.{ℕ, ◌==◌, ◌&&◌, Bool, true, false, is_none, List, [], ◌∷◌, length, Some, None, filter, map}
use Rattle.std.specs.List.{list_all, list_any, zip}
use Rattle.std.specs.Option.{option_map_or}
use Rattle.std.specs.declared.option.Option.{Option}
use Rattle.sym_terms.specs.declared.kinds.Sym.TheVariants.{Entry, Ra}
use Rattle.sym_terms.specs.Plain.{PlainSum}
use Rattle.memory_regions.specs.declared.region.Region.{Region}
use Rattle.memory_regions.specs.declared.region.Relation.{Relation}
use Rattle.memory_regions.specs.declared.region.Relation.TheVariants.{Alias, Separate, Inside, Around, Overlap, Unknown}
use Rattle.memory_regions.specs.Relate.{relate}
use Rattle.mem_forest.specs.Plain.{PlainForest, PlainNode}
use Rattle.mem_forest.specs.Plain as plain
use Rattle.predicates.specs.Predicate.{Predicate}
use Rattle.predicates.specs.declared.site.Kind.{Kind}
use Rattle.predicates.specs.declared.site.Kind.TheVariants as kind
use Rattle.graph_data.specs.declared.graph.Vertex.{Vertex}
use Rattle.graph_data.specs.declared.graph.Refused.{Refused}
use Rattle.graph_data.specs.declared.graph.Function.{Function}
use Rattle.graph_data.specs.declared.graph.Graph.{Graph}
use Rattle.x86_instr.specs.declared.class.Class.{Class}
use Rattle.x86_instr.specs.declared.class.Class.TheVariants.{Calculation, Transfer, Division, Jump, Call, Return, SystemCall, Stop}
use Rattle.step_rules.specs.View.{View}
use Rattle.sym_step.specs.Restored.{is_known}

-- ---- where a function begins

-- the numbers of the sixteen registers
abbrev pub all_registers : List ℕ
all_registers =
    0 ∷ 1 ∷ 2 ∷ 3 ∷ 4 ∷ 5 ∷ 6 ∷ 7 ∷ 8 ∷ 9 ∷ 10 ∷ 11 ∷ 12 ∷ 13 ∷ 14 ∷ 15 ∷ []

-- each of the registers has its entry symbol
abbrev pub are_entries : List (Option PlainSum) → Bool
are_entries regs = list_all (λ x. is_known (Entry x.0) x.1) (zip all_registers regs)

-- the one name is rsp0, the entry symbol of register 4
abbrev pub is_top : List PlainSum → Bool
is_top [] = false
is_top (n ∷ []) = is_known (Entry 4) (Some n)
is_top (n ∷ m ∷ ns) = false

-- there is no node
abbrev pub has_no_node : PlainForest → Bool
has_no_node plain.none = true
has_no_node (plain.cell ns b v under rest) = false

-- a node is the 8 bytes at rsp0 with the return address, and none under it
abbrev pub is_entry_node : PlainNode → Bool
is_entry_node c = is_top c.names && ((c.bytes == 8) && (is_known Ra c.value && has_no_node c.under))

-- there is one node, and it is such a one
abbrev pub is_entry_forest : PlainForest → Bool
is_entry_forest plain.none = false
is_entry_forest (plain.cell ns b v under rest) =
    is_entry_node (record { names = ns; bytes = b; value = v; under = under }) && has_no_node rest

-- the predicate is the entry predicate, where it has 16 registers
abbrev pub is_entry : Predicate → Bool
is_entry p =
    are_entries p.regs && (is_none p.flags && ((length p.bounds == 0) && is_entry_forest p.forest))

-- the vertex is there and is the entry predicate
abbrev pub begins : Option Vertex → Bool
begins None = false
begins (Some v) = is_entry v.pred

-- a function that is refused may begin in any way
abbrev pub begins_unless_refused : Option Refused → Option Vertex → Bool
begins_unless_refused None vertex = begins vertex
begins_unless_refused (Some why) vertex = true

-- ---- which kind may stand at which instruction

-- a step is at an instruction that goes on or jumps
abbrev pub may_step : Class → Bool
may_step Calculation = true
may_step Transfer = true
may_step Division = true
may_step Jump = true
may_step Call = false
may_step Return = false
may_step SystemCall = false
may_step Stop = false

-- a call of a function of the graph is at a call
abbrev pub may_call : Class → Bool
may_call Calculation = false
may_call Transfer = false
may_call Division = false
may_call Jump = false
may_call Call = true
may_call Return = false
may_call SystemCall = false
may_call Stop = false

-- a call of what is outside is at a call or at a system call
abbrev pub may_leave : Class → Bool
may_leave Calculation = false
may_leave Transfer = false
may_leave Division = false
may_leave Jump = false
may_leave Call = true
may_leave Return = false
may_leave SystemCall = true
may_leave Stop = false

-- a verified return is at a return
abbrev pub may_return : Class → Bool
may_return Calculation = false
may_return Transfer = false
may_return Division = false
may_return Jump = false
may_return Call = false
may_return Return = true
may_return SystemCall = false
may_return Stop = false

-- a site of the kind may stand at an instruction of the class; an end may stand anywhere
abbrev pub fits : Kind → Class → Bool
fits kind.Step class = may_step class
fits (kind.Call entry) class = may_call class
fits kind.Outside class = may_leave class
fits kind.Return class = may_return class
fits (kind.End reason) class = true

-- ---- callees and pairs

-- the entries of the functions that are not refused
abbrev pub entries_in : List Function → List ℕ
entries_in fs = map (λ f. f.entry) (filter (λ f. is_none f.refused) fs)

-- the same, of a graph
abbrev pub entries_of : Graph → List ℕ
entries_of g = entries_in g.functions

-- an address is one of these entries
abbrev pub is_callee : List ℕ → ℕ → Bool
is_callee entries target = list_any (λ entry. entry == target) entries

-- a call goes to the address
abbrev pub goes_to : ℕ → Option ℕ → Bool
goes_to target found = option_map_or (λ address. address == target) found false

-- nothing says how two regions lie
abbrev pub is_unknown : Relation → Bool
is_unknown Alias = false
is_unknown Separate = false
is_unknown Inside = false
is_unknown Around = false
is_unknown Overlap = false
is_unknown Unknown = true

-- neither the difference of the addresses nor the frame says how the regions of a pair lie
abbrev pub is_undecided : View → Region × Region → Bool
is_undecided v pair = is_unknown (relate (record v.known { seps = [] }) pair.0.at pair.0.bytes pair.1.at pair.1.bytes)

-- the pairs of a site are undecided: those that are separate, and the one that is told apart
abbrev pub are_undecided : View → Bool
are_undecided v = list_all (is_undecided v) v.known.seps && option_map_or (is_undecided v) v.fork true
