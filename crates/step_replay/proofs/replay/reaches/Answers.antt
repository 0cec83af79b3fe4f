-- The instruction is the one that was decoded, the state the one after it.
use Rattle.std.proofs.Common.{◌≡◌, ◌∙◌, Option, Some, IfSome, sym, subst}
use Rattle.x86_spelling.specs.Spells.{SpellsPrefix}
use Rattle.x86_machine.specs.State.{state_of}
use Rattle.step_replay.specs.declared.rows.Goal.{Goal}
use Rattle.step_replay.specs.Rows.{Reaches}
use Rattle.step_replay.proofs.replay.reaches.Goals as goal

pub returns-in-Moved-Some : goal.returns-in-Moved-Some
returns-in-Moved-Some c h =
    let s = state_of c.args.machine.now in
    let i = c.in-Some.i in
    let decoded : (i.addr ≡ c.rip.result) × SpellsPrefix i c.args.code.now =
    subst (λ o. IfSome o (λ x. (x.addr ≡ c.rip.result) × SpellsPrefix x c.args.code.now)) c.in-Some.is c.decode.ensures.found in
    let reached : Reaches s i c.args.choice (Some c.in-Moved-Some.goal) = (state_of c.advance.new.self, c.advance.ensures.moved c.in-Moved-Some.is-0, c.is_reached.ensures h) in
    (i, decoded.0 ∙ c.rip.ensures, decoded.1, subst (λ (goal : Option Goal). Reaches s i c.args.choice goal) (sym c.in-Moved-Some.is-1) reached)
