-- That each region has a value, as a test and as a fact.
use Rattle.std.proofs.Common.{◌≡◌, Bool, List, sym, subst}
use Rattle.std.specs.Prelude.{IsTrue, IsSome, is_some, All, ◌↔◌}
use Rattle.std.specs.List.{list_all}
use Rattle.std.proofs.lemmas.List.Sums.{AllPass-from_list_all, list_all-from_AllPass}
use Rattle.memory_regions.specs.declared.region.Region.{Region}
use Rattle.mem_forest.specs.Plain.{PlainForest}
use Rattle.mem_forest.specs.Search.{value_at}
use Rattle.predicates.specs.Predicate.{Predicate}
use Rattle.x86_instr.specs.declared.instr.Instr.{Instr}
use Rattle.step_rules.specs.View.{View}
use Rattle.step_rules.specs.Calls.{begin, KeepsHold}
use Rattle.sym_step.specs.Kept.{are_kept}

pub all_some : (f : PlainForest) (rs : List Region) → IsTrue (list_all (λ r. is_some (value_at r.at r.bytes f)) rs) ↔ All (λ r. IsSome (value_at r.at r.bytes f)) rs
all_some f rs =
    (λ e. AllPass-from_list_all (λ r. is_some (value_at r.at r.bytes f)) rs e, λ h. list_all-from_AllPass (λ r. is_some (value_at r.at r.bytes f)) rs h)

-- the test of an instruction's kept regions is the fact
pub kept_exactly : (v : View) (i : Instr) (p : Predicate) (b : Bool) → b ≡ are_kept v i p → IsTrue b ↔ KeepsHold v i p
kept_exactly v i p b is = subst (λ c. IsTrue c ↔ KeepsHold v i p) (sym is) (all_some (begin v i p).forest v.keeps)
