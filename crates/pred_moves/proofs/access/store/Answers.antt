use Rattle.std.proofs.Common.{ap, ◌∙◌}
use Rattle.std.specs.Option.{option_copied}
use Rattle.bits_core.specs.Width.{bytes_of}
use Rattle.predicates.specs.Predicate.{Predicate}
use Rattle.step_rules.specs.Access.{with_bytes}
use Rattle.pred_moves.specs.Views.{view_of}
use Rattle.pred_moves.proofs.StoreLemmas.{store_width}
use Rattle.pred_moves.proofs.access.store.Goals as goal

pub returns : goal.returns
returns c =
    let v = view_of c.args.v.now in
    let t = option_copied c.args.term in
    let p : Predicate = record { regs = c.p.inside.regs; flags = c.p.inside.flags; bounds = c.p.inside.bounds; forest = c.p.inside.forest } in
    store_width v p c.store.new.self c.bytes.result c.args.w c.args.at c.in-Some.at t c.bytes.ensures.value c.in-Some.is c.in_ok-store.ensures.ok
    ∙ ap (λ p. with_bytes v p (bytes_of c.args.w) c.args.at t) c.p.view_is
