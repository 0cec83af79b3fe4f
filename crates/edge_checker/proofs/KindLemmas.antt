-- Each test of a site and of a vertex is true exactly where its fact holds.
use Rattle.std.proofs.Common.{◌≡◌, ◌↔◌, ◌⊎◌, inl, inr, ℕ, true, [], Some, None, Option, refl, ap, IfSome}
use Rattle.std.specs.Bool.{Decides}
use Rattle.std.specs.List.{list_all}
use Rattle.std.specs.Option.{option_map_or}
use Rattle.std.proofs.lemmas.Bool.{and_parts, and_from}
use Rattle.std.proofs.lemmas.Bool.Decides.{Decides-by_and, Decides-eqb}
use Rattle.simulation.specs.World.{Ordinary, Calling, System, Returning}
use Rattle.memory_regions.specs.declared.region.Region.{Region}
use Rattle.memory_regions.specs.declared.region.Relation.{Relation}
use Rattle.memory_regions.specs.declared.region.Relation.TheVariants.{Unknown}
use Rattle.memory_regions.specs.Relate.{relate}
use Rattle.predicates.specs.Predicate.{Predicate}
use Rattle.predicate_meaning.specs.Returns.{Returns}
use Rattle.x86_instr.specs.declared.class.Class.{Class}
use Rattle.x86_instr.specs.declared.class.Class.TheVariants as class
use Rattle.x86_instr.specs.declared.instr.Instr.{Instr}
use Rattle.step_rules.specs.View.{View}
use Rattle.step_rules.specs.Calls.{begin, KeepsHold}
use Rattle.step_rules.specs.Site.{IsUndecided, PairsUndecided}
use Rattle.sym_step.specs.Restored.{is_returned}
use Rattle.sym_step.specs.Kept.{are_kept}
use Rattle.sym_step.proofs.SymbolLemmas.{returns_exactly}
use Rattle.sym_step.proofs.CallLemmas.{all_some}
use Rattle.graph_runs.specs.Classes.{class_by}
use Rattle.edge_checker.specs.Decisions.{may_step, may_call, may_leave, may_return, goes_to, is_unknown, is_undecided, are_undecided}

-- ---- which kind may stand at which instruction

pub step_fits : (c : Class) → (may_step c ≡ true) ↔ (class_by c ≡ Ordinary)
step_fits class.Calculation = (λ e. refl, λ e. refl)
step_fits class.Transfer = (λ e. refl, λ e. refl)
step_fits class.Division = (λ e. refl, λ e. refl)
step_fits class.Jump = (λ e. refl, λ e. refl)
step_fits _ = (λ e. absurd (cc), λ e. absurd (cc))

pub call_fits : (c : Class) → (may_call c ≡ true) ↔ (class_by c ≡ Calling)
call_fits class.Call = (λ e. refl, λ e. refl)
call_fits _ = (λ e. absurd (cc), λ e. absurd (cc))

-- neither a call nor a system call
neither : {A B : Type 0} → (A → ⊥) → (B → ⊥) → (A ⊎ B) → ⊥
neither f g (inl a) = f a
neither f g (inr b) = g b

pub leave_fits : (c : Class) → (may_leave c ≡ true) ↔ ((class_by c ≡ Calling) ⊎ (class_by c ≡ System))
leave_fits class.Call = (λ e. inl refl, λ e. refl)
leave_fits class.SystemCall = (λ e. inr refl, λ e. refl)
leave_fits _ = (λ e. absurd (cc), λ either. absurd (neither (λ e. cc) (λ e. cc) either))

pub return_fits : (c : Class) → (may_return c ≡ true) ↔ (class_by c ≡ Returning)
return_fits class.Return = (λ e. refl, λ e. refl)
return_fits _ = (λ e. absurd (cc), λ e. absurd (cc))

-- where a call may stand is a call
pub only_call : (c : Class) → class_by c ≡ Calling → c ≡ class.Call
only_call class.Call e = refl
only_call _ e = absurd (cc)

pub only_syscall : (c : Class) → class_by c ≡ System → c ≡ class.SystemCall
only_syscall class.SystemCall e = refl
only_syscall _ e = absurd (cc)

-- ---- pairs

unknown-Decides : (r : Relation) → Decides (is_unknown r) (r ≡ Unknown)
unknown-Decides Unknown = (λ e. refl, λ e. refl)
unknown-Decides _ = (λ e. absurd (cc), λ e. absurd (cc))

undecided-Decides : (v : View) (pair : Region × Region) → Decides (is_undecided v pair) (IsUndecided v pair)
undecided-Decides v pair =
    unknown-Decides (relate (record v.known { seps = [] }) pair.0.at pair.0.bytes pair.1.at pair.1.bytes)

fork-Decides : (v : View) (fork : Option (Region × Region)) → Decides (option_map_or (is_undecided v) fork true) (IfSome fork (IsUndecided v))
fork-Decides v None = (λ e. tt, λ h. refl)
fork-Decides v (Some pair) = undecided-Decides v pair

pub pairs_undecided : (v : View) → (are_undecided v ≡ true) ↔ PairsUndecided v
pairs_undecided v =
    let seps = Decides-by_and (is_undecided v) (IsUndecided v) (list_all (is_undecided v)) (undecided-Decides v) refl (λ _ _. refl) v.known.seps in
    let fork = fork-Decides v v.fork in (
      λ e.
          let both = and_parts (list_all (is_undecided v) v.known.seps) (option_map_or (is_undecided v) v.fork true) e in
          record { seps = seps.0 both.0; fork = fork.0 both.1 },
      λ h. and_from (list_all (is_undecided v) v.known.seps) (option_map_or (is_undecided v) v.fork true) (seps.1 h.seps) (fork.1 h.fork),
    )

-- ---- a vertex

pub goes : (target : ℕ) (found : Option ℕ) → (goes_to target found ≡ true) ↔ (found ≡ Some target)
goes target None = (λ e. absurd (cc), λ e. absurd (cc))
goes target (Some address) =
    let same = Decides-eqb address target in
    (λ e. ap (λ a. Some a) (same.0 e), λ e. let is : address ≡ target = cc in same.1 is)

pub keeps : (v : View) (i : Instr) (p : Predicate) → (are_kept v i p ≡ true) ↔ KeepsHold v i p
keeps v i p = all_some (begin v i p).forest v.keeps

pub returned : (p : Predicate) → (is_returned p ≡ true) ↔ Returns p
returned p = returns_exactly p
