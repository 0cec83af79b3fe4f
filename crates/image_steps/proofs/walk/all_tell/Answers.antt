use Rattle.std.proofs.Common.{◌≤◌, length, arith}
use Rattle.std.specs.Option.{option_copied}
use Rattle.bank_values.specs.ReadBack.{predicate_at}
use Rattle.bank_values.proofs.GrowLemmas.{grows_trans}
use Rattle.pred_moves.specs.Views.{view_of}
use Rattle.lift_rounds.specs.Known.{pred_at, reading}
use Rattle.image_steps.specs.Tells.{gives_cases}
use Rattle.image_steps.proofs.KnownLemmas.{held_more}
use Rattle.image_steps.proofs.TellLemmas.{all_passed, none_passes, pass_more, told_back}
use Rattle.image_steps.proofs.walk.all_tell.Goals as goal

pub vertex_tells-requires : goal.vertex_tells-requires
vertex_tells-requires g c =
    let T = g.B.Bank.terms in
    held_more (T c.args.bank.now) (T c.loop-vertex.bank) c.args.made.now c.loop-vertex.invariant.0 c.requires

pub returns-then-not-told-clause-value : goal.returns-then-not-told-clause-value
returns-then-not-told-clause-value g c =
    let T = g.B.Bank.terms in
    let old = T c.args.bank.now in
    let test = gives_cases (view_of c.args.view.now) (option_copied c.args.i) in
    none_passes test (pred_at (reading (predicate_at old) c.args.made.now)) c.args.site.now c.loop-vertex.vertex-index _ c.in_ok-told.told c.loop-vertex-test.true
    (told_back test old (T c.loop-vertex.bank) c.args.made.now _ c.in_ok-told.told c.loop-vertex.invariant.0 c.requires c.in_ok-told.ensures.value)
    c.if-not-told.true

pub loop-vertex-preserved : goal.loop-vertex-preserved
loop-vertex-preserved g c =
    let T = g.B.Bank.terms in
    let old = T c.args.bank.now in
    let now = T c.loop-vertex.bank in
    let test = gives_cases (view_of c.args.view.now) (option_copied c.args.i) in
    let told = told_back test old now c.args.made.now _ c.in_ok-told.told c.loop-vertex.invariant.0 c.requires c.in_ok-told.ensures.value in (
      grows_trans old now (T c.vertex_tells.new.bank) c.loop-vertex.invariant.0 c.in_ok-told.ensures.grows,
      pass_more test (pred_at (reading (predicate_at old) c.args.made.now)) c.args.site.now c.loop-vertex.vertex-index _ c.loop-vertex-test.true c.loop-vertex.invariant.1 (told.0 c.if-not-told.false),
    )

pub returns-clause-value : goal.returns-clause-value
returns-clause-value g c =
    let h = c.loop-vertex-test.false in
    let past : length c.args.site.now ≤ c.loop-vertex.vertex-index = omega (arith, h) in
    all_passed (gives_cases (view_of c.args.view.now) (option_copied c.args.i)) (pred_at (reading (predicate_at (g.B.Bank.terms c.args.bank.now)) c.args.made.now)) c.args.site.now c.loop-vertex.vertex-index past c.loop-vertex.invariant.1
