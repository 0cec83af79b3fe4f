use Rattle.std.proofs.Common.{map, take}
use Rattle.std.specs.Option.{option_copied}
use Rattle.term_bank.specs.Terms.{Grows}
use Rattle.bank_values.specs.ReadBack.{predicate_at}
use Rattle.pred_moves.specs.Views.{view_of}
use Rattle.lift_rounds.specs.Known.{pred_at, reading}
use Rattle.image_steps.specs.Tells.{gives_cases, AllPass}
use Rattle.image_steps.proofs.walk.all_tell.Given as goal

-- the bank only grew, and each vertex so far tells
abbrev pub invariant-loop-vertex : goal.invariant-loop-vertex
invariant-loop-vertex g l =
    let terms = g.B.Bank.terms l.initial.bank in
    Grows terms (g.B.Bank.terms l.bank)
    × AllPass (gives_cases (view_of l.view) (option_copied l.i)) (map (pred_at (reading (predicate_at terms) l.made)) (take l.vertex-index l.site))
