use Rattle.std.proofs.Common.{◌≢◌, ◌<◌, ℕ, get_or}
use Rattle.lift_graph.specs.Components.{part_of}
use Rattle.lift_graph.specs.declared.graph.Place.{Place}
use Rattle.lift_graph.proofs.components.Components.have_source_in.Given as goal

abbrev pub invariant-loop-place : goal.invariant-loop-place
invariant-loop-place l = (k : ℕ) (d : Place) → k < l.place-index → part_of l.self (get_or l.places k d).vertex ≢ l.part
