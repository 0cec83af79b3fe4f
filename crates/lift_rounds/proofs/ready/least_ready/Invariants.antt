use Rattle.std.proofs.Common.{◌≡◌, ◌<◌, ℕ, true, false, length, IfSome, IfNone}
use Rattle.lift_graph.specs.Rows.{is_set}
use Rattle.lift_rounds.specs.Round.{IsReady}
use Rattle.lift_rounds.proofs.ready.least_ready.Given as goal

abbrev pub invariant-loop-vertex : goal.invariant-loop-vertex
invariant-loop-vertex l =
    record {
      found : IfSome l.best (λ v. v < length l.taken);
      untaken : IfSome l.best (λ v. is_set l.taken v ≡ false);
      ready : IfSome l.best (λ v. IsReady l.graph.keeps.items l.graph.inward.items l.taken v);
      none : IfNone l.best ((v : ℕ) → v < l.vertex → IsReady l.graph.keeps.items l.graph.inward.items l.taken v → is_set l.taken v ≡ true);
    }
