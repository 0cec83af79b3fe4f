use Rattle.std.proofs.Common.{refl, ◌∙◌}
use Rattle.lift_openings.proofs.StillLemmas.{found_still, begun_still, lifted_still}
use Rattle.lift_openings.proofs.openings.try_open.Goals as goal

pub settle-requires : goal.settle-requires
settle-requires g c =
    let s = g.S.Steps in
    let j = g.met.S.Jumps in
    let a = c.args.steps.now in
    let b = c.open.new.self in
    let on = c.open.ensures.continues in
    record {
      found = found_still (s.meaning a) (s.meaning b) (s.has a) (s.has b) (s.read a) (s.read b) c.args.lift.now
          (λ address. j.forks_still a b address on)
          (λ p h. j.has_still a b p on h)
          (λ p h. j.reads_still a b p on h)
          c.requires.lifted.found;
      plain = λ address. j.forks_still a b address on ∙ c.requires.plain address;
    }

pub returns-in-Ok-clause-begun : goal.returns-in-Ok-clause-begun
returns-in-Ok-clause-begun g c address start h =
    let s = g.S.Steps in
    let j = g.met.S.Jumps in
    let a = c.args.steps.now in
    let b = c.open.new.self in
    c.in-Ok.ensures.begun address start
    (begun_still (s.has a) (s.read a) (s.read b) c.args.lift.now (λ p k. j.reads_still a b p c.open.ensures.continues k) c.requires.lifted.found.held address start h)

pub returns-in-Err-Lost-clause-continues : goal.returns-in-Err-Lost-clause-continues
returns-in-Err-Lost-clause-continues g c =
    let j = g.met.S.Jumps in
    let a = c.args.steps.now in
    let b = c.open.new.self in
    let n = c.settle.new.steps in
    j.further a n c.close.new.self (j.further a b n c.open.ensures.continues (j.grown b n c.settle.ensures.grows)) c.close.ensures.continues

pub returns-in-Err-Lost-clause-shut : goal.returns-in-Err-Lost-clause-shut
returns-in-Err-Lost-clause-shut g c _ =
    let opened = g.S.Jumps.opened in
    let same = g.met.S.Jumps.as_open c.open.new.self c.settle.new.steps c.settle.ensures.grows in
    c.close.ensures.closed (opened c.args.steps.now) c.args.address (same ∙ c.in_ok-open.ensures.opened)

pub returns-in-Err-Lost-clause-lifted : goal.returns-in-Err-Lost-clause-lifted
returns-in-Err-Lost-clause-lifted g c =
    let s = g.S.Steps in
    let j = g.met.S.Jumps in
    let a = c.args.steps.now in
    let b = c.close.new.self in
    let on = returns-in-Err-Lost-clause-continues g c in
    lifted_still (s.meaning a) (s.meaning b) (s.has a) (s.has b) (s.read a) (s.read b) c.in_ok-before.before
    (j.alike a b on (returns-in-Err-Lost-clause-shut g c refl))
    (λ p h. j.has_still a b p on h)
    (λ p h. j.reads_still a b p on h)
    c.in_ok-before.ensures.lifted

pub returns-in-Err-Lost-clause-begun : goal.returns-in-Err-Lost-clause-begun
returns-in-Err-Lost-clause-begun g c address start h =
    let s = g.S.Steps in
    let j = g.met.S.Jumps in
    let a = c.args.steps.now in
    let b = c.close.new.self in
    begun_still (s.has a) (s.read a) (s.read b) c.in_ok-before.before
    (λ p k. j.reads_still a b p (returns-in-Err-Lost-clause-continues g c) k) c.in_ok-before.ensures.lifted.found.held address start
    (c.in_ok-before.ensures.begun address start h)
