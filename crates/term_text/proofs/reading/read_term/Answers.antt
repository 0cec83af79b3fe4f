use Rattle.std.proofs.Common.{ap, subst, ◌∙◌}
use Rattle.term_text.specs.declared.cause.TextCause.TheVariants.{BadTerm, OverLimit, NotCanonical}
use Rattle.term_text.specs.Reading.{Gives, term_at}
use Rattle.term_text.proofs.TermLemmas.{term_reads}
use Rattle.term_text.proofs.ReadingLemmas.{is_found, fails_just}
use Rattle.term_text.proofs.reading.read_term.Goals as goal

pub returns-clause-found : goal.returns-clause-found
returns-clause-found c = is_found c.args.bytes.now c.canonical_term.result c.canonical_term.ensures

pub returns-clause-only : goal.returns-clause-only
returns-clause-only c = λ t is e. subst (λ f. Gives (λ t. t) c.canonical_term.result f) (ap term_at e ∙ term_reads t is) c.canonical_term.ensures

pub returns-clause-bad_term : goal.returns-clause-bad_term
returns-clause-bad_term c = fails_just c.args.bytes.now BadTerm c.canonical_term.result c.canonical_term.ensures (λ read e g. subst (λ r. Gives (λ t. t) r read) e g)

pub returns-clause-over_limit : goal.returns-clause-over_limit
returns-clause-over_limit c = fails_just c.args.bytes.now OverLimit c.canonical_term.result c.canonical_term.ensures (λ read e g. subst (λ r. Gives (λ t. t) r read) e g)

pub returns-clause-not_canonical : goal.returns-clause-not_canonical
returns-clause-not_canonical c = fails_just c.args.bytes.now NotCanonical c.canonical_term.result c.canonical_term.ensures (λ read e g. subst (λ r. Gives (λ t. t) r read) e g)
