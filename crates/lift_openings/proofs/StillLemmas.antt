-- What holds of what was found stays where the store has more and other jumps are open.
use Rattle.std.proofs.Common.{◌≡◌, ℕ, sym, ap, subst}
use Rattle.std.specs.List.{All}
use Rattle.lift_rounds.specs.Meaning.{Meaning}
use Rattle.lift_rounds.specs.Known.{IsHeld, reading}
use Rattle.lift_rounds.specs.Settled.{IsLed, IsSettled}
use Rattle.lift_rounds.proofs.ReadingLemmas.{reading_grows, held_grows}
use Rattle.lift_openings.specs.Lifted.{IsFound, IsBegun, IsLifted}
use Rattle.lift_openings.specs.declared.lift.Lift.{Lift}
use Rattle.lift_openings.proofs.CopyLemmas.{led_by}

pub found_still : {P R : Type 0} (m n : Meaning R) (has later : P → Type 0) (read after : P → R) (l : Lift P)
    → ((a : ℕ) → n.forks a ≡ m.forks a) → ((p : P) → has p → later p) → ((p : P) → has p → after p ≡ read p)
    → IsFound m has read l → IsFound n later after l
found_still {P} {R} m n has later read after l forks has_more reads h =
    let same : reading after l.made.items ≡ reading read l.made.items = reading_grows has read after reads l.made.items h.held in
    record {
      graph = h.graph;
      rows = h.rows;
      held = held_grows has later has_more l.made.items h.held;
      led = subst (λ known. IsLed n l.graph known) (sym same) (led_by m n l.graph (reading read l.made.items) forks h.led);
    }

pub begun_still : {P R : Type 0} (has : P → Type 0) (read after : P → R) (l : Lift P)
    → ((p : P) → has p → after p ≡ read p) → All (λ m. IsHeld has m) l.made.items
    → (address : ℕ) (start : R) → IsBegun read l address start → IsBegun after l address start
begun_still has read after l reads held address start h =
    let same : reading after l.made.items ≡ reading read l.made.items = reading_grows has read after reads l.made.items held in
    record { key = h.key; pred = rw same h.pred }

-- and where the step means the same nothing has to be done again
pub lifted_still : {P R : Type 0} (m n : Meaning R) (has later : P → Type 0) (read after : P → R) (l : Lift P)
    → n ≡ m → ((p : P) → has p → later p) → ((p : P) → has p → after p ≡ read p)
    → IsLifted m has read l → IsLifted n later after l
lifted_still m n has later read after l e has_more reads h =
    let same : reading after l.made.items ≡ reading read l.made.items = reading_grows has read after reads l.made.items h.found.held in
    let settled = h.settled in
    record {
      found = found_still m n has later read after l (λ a. ap (λ x. x.forks a) e) has_more reads h.found;
      settled = (settled.0, settled.1, subst (λ x. IsSettled x l.graph settled.0 (reading after l.made.items)) (sym e) (subst (λ known. IsSettled m l.graph settled.0 known) (sym same) settled.2));
      kept = h.kept;
    }
