use Rattle.std.proofs.Common.{◌≡◌, drop, IfSome}
use Rattle.std.specs.Option.{option_map}
use Rattle.lift_rounds.specs.Known.{incoming, gathered, reading}
use Rattle.lift_rounds.proofs.gather.gather.Given as goal

-- what is left leads to the same
abbrev pub invariant-loop-place : goal.invariant-loop-place
invariant-loop-place g l =
    let t = g.S.Steps in
    let m = t.meaning l.steps in
    let made = reading (t.read l.steps) l.made in
    record {
      inside : IfSome l.so_far (λ p. t.has l.steps p);
      value : gathered m (option_map (t.read l.steps) l.so_far) (incoming made (drop l.place-index l.places)) ≡ gathered m (option_map (t.read l.steps) l.fn.start) (incoming made l.places);
    }
