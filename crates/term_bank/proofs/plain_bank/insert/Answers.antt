use Rattle.std.proofs.Common.{◌≡◌, ◌∙◌, sym}
use Rattle.term_bank.proofs.TermLemmas.{at_position, no_position}
use Rattle.term_bank.proofs.plain_bank.insert.Goals as goal

pub returns-in-Some-clause-ok : goal.returns-in-Some-clause-ok
returns-in-Some-clause-ok c = sym (at_position c.args.terms.now c.args.t c.in-Some.place (sym c.in-Some.ensures)).1

pub returns-in-Some-clause-place : goal.returns-in-Some-clause-place
returns-in-Some-clause-place c = (at_position c.args.terms.now c.args.t c.in-Some.place (sym c.in-Some.ensures)).0

pub returns-clause-place : goal.returns-clause-place
returns-clause-place c = c.len-place.ensures ∙ (no_position c.args.terms.now c.args.t (sym c.in_default.ensures)).0

pub returns-clause-ok : goal.returns-clause-ok
returns-clause-ok c = c.in_ok-push.ensures.ok ∙ sym (no_position c.args.terms.now c.args.t (sym c.in_default.ensures)).1
