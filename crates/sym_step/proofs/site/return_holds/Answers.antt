-- The tests in a row are what makes a return verified.
use Rattle.std.proofs.Common.{◌&&◌, sym, ◌∙◌, ap}
use Rattle.predicate_meaning.specs.Sat.{register}
use Rattle.x86_instr.specs.Registers.{rsp}
use Rattle.sym_step.specs.Restored.{is_top_restored}
use Rattle.sym_step.proofs.SymbolLemmas.{returns_exactly}
use Rattle.sym_step.proofs.site.return_holds.Goals as goal

pub returns-then-are_restored-clause-exact : goal.returns-then-are_restored-clause-exact
returns-then-are_restored-clause-exact c =
    let top = is_top_restored c.args.p.now (register c.args.p.now rsp) in
    let is = c.is_top_restored.ensures ∙ sym (ap (λ b. b && top) (sym c.are_restored.ensures ∙ c.if-are_restored.true)) in
    let both = returns_exactly c.args.p.now in
    (λ e. both.0 (sym is ∙ e), λ h. is ∙ both.1 h)

pub returns-else-are_restored-clause-exact : goal.returns-else-are_restored-clause-exact
returns-else-are_restored-clause-exact c =
    let top = is_top_restored c.args.p.now (register c.args.p.now rsp) in
    let is = c.if-are_restored.false ∙ sym (ap (λ b. b && top) (sym c.are_restored.ensures ∙ c.if-are_restored.false)) in
    let both = returns_exactly c.args.p.now in
    (λ e. both.0 (sym is ∙ e), λ h. is ∙ both.1 h)
