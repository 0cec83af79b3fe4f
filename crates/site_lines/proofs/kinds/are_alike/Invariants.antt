use Rattle.std.proofs.Common.{◌≡◌, drop, map}
use Rattle.std.specs.List.{list_all}
use Rattle.step_rules.specs.Calls.{call_target}
use Rattle.site_lines.specs.Kinds.{bare_view, is_same_target}
use Rattle.site_lines.proofs.kinds.are_alike.Given as goal

abbrev pub invariant-loop-pred : goal.invariant-loop-pred
invariant-loop-pred l =
    let targets = map (call_target (bare_view l.program.image.now) l.i) in
    list_all (is_same_target l.target) (targets (drop l.pred-index l.preds)) ≡ list_all (is_same_target l.target) (targets l.preds)
