use Rattle.std.proofs.Common.{◌≡◌, sym, subst, OnOk, OnErr, Ok, Err}
use Rattle.term_bank.specs.Terms.{AreApart, with_term}
use Rattle.term_bank.proofs.TermLemmas.{placed, apart_with}
use Rattle.term_bank.proofs.plain_bank.PlainBankBank.put.Goals as goal

pub invariant_of-self : goal.invariant_of-self
invariant_of-self c =
    let old = c.args.self.now.terms in
    let new = c.insert.new.terms in
    record {
      apart = (elim c.insert.result as (λ r. OnOk r (new ≡ with_term old c.args.t) → OnErr r (new ≡ old) → AreApart new) [
        | Ok n ↦ λ ok err. subst AreApart (sym ok) (apart_with old c.args.t c.args.self.now.apart)
        | Err e ↦ λ ok err. subst AreApart (sym err) c.args.self.now.apart
      ]) c.insert.ensures.ok c.insert.ensures.err;
    }

pub returns-clause-found : goal.returns-clause-found
returns-clause-found c =
    rw (c.in_ok-place.ensures.ok, c.in_ok-place.ensures.place) (placed c.args.self.now.terms c.args.t).1

pub returns-clause-within : goal.returns-clause-within
returns-clause-within c =
    rw (c.in_ok-place.ensures.ok, c.in_ok-place.ensures.place) (placed c.args.self.now.terms c.args.t).0
