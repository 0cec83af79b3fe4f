-- What holds of what was found holds of a copy.
use Rattle.std.proofs.Common.{◌≡◌, ℕ, length, sym, ap, ◌∙◌, subst}
use Rattle.std.specs.List.{All}
use Rattle.lift_graph.specs.Graph.{IsGraph}
use Rattle.lift_rounds.specs.Meaning.{Meaning}
use Rattle.lift_rounds.specs.Known.{IsHeld, reading}
use Rattle.lift_rounds.specs.Settled.{IsSettled}
use Rattle.lift_rounds.proofs.ReadingLemmas.{length_reading}
use Rattle.lift_openings.specs.Copies.{IsCopy}
use Rattle.lift_openings.specs.Lifted.{IsFound, IsBegun, IsLifted}
use Rattle.lift_openings.specs.declared.lift.Lift.{Lift}
use Rattle.lift_openings.proofs.CopyLemmas.{led_copy}
use Rattle.lift_openings.proofs.SettledLemmas.{woven_copied, settled_copied, kept_copied}

found_copied : {P R : Type 0} (m : Meaning R) (has : P → Type 0) (read : P → R) (old new : Lift P)
    → IsGraph new.graph → IsCopy old.graph new.graph → reading read new.made.items ≡ reading read old.made.items
    → All (λ x. IsHeld has x) new.made.items → IsFound m has read old → IsFound m has read new
found_copied m has read old new graph copy same held h =
    let rows : length new.made.items ≡ length old.made.items = sym (length_reading read new.made.items) ∙ ap length same ∙ length_reading read old.made.items in
    record {
      graph = graph;
      rows = rows ∙ h.rows ∙ sym (ap length copy.keys);
      held = held;
      led = led_copy m old.graph new.graph (reading read old.made.items) (reading read new.made.items) copy same h.led;
    }

pub lifted_copied : {P R : Type 0} (m : Meaning R) (has : P → Type 0) (read : P → R) (old new : Lift P)
    → IsGraph new.graph → IsCopy old.graph new.graph → reading read new.made.items ≡ reading read old.made.items
    → All (λ x. IsHeld has x) new.made.items → IsLifted m has read old → IsLifted m has read new
lifted_copied m has read old new graph copy same held h =
    let order = h.settled.0 in
    record {
      found = found_copied m has read old new graph copy same held h.found;
      settled = (
        order,
        woven_copied old.graph new.graph order copy h.settled.1,
        subst (λ known. IsSettled m new.graph order known) (sym same) (settled_copied m old.graph new.graph order (reading read old.made.items) copy h.settled.2),
      );
      kept = kept_copied old.graph new.graph copy h.kept;
    }

pub begun_copied : {P R : Type 0} (read : P → R) (old new : Lift P)
    → IsCopy old.graph new.graph → reading read new.made.items ≡ reading read old.made.items
    → (address : ℕ) (start : R) → IsBegun read old address start → IsBegun read new address start
begun_copied read old new copy same address start h = record { key = rw copy.keys h.key; pred = rw same h.pred }
