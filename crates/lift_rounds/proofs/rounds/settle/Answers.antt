use Rattle.std.proofs.Common.{◌≡◌, ◌≢◌, ℕ, Err, [], true, length, sym, ap, ◌∙◌, subst, arith}
use Rattle.lift_graph.specs.Rows.{is_set, items_at}
use Rattle.lift_graph.specs.Heads.{IsRooted}
use Rattle.lift_graph.specs.declared.graph.Graph.{Graph}
use Rattle.lift_rounds.specs.Fixed.{IsFilled, IsFixedAt}
use Rattle.lift_rounds.specs.Known.{reading}
use Rattle.lift_rounds.specs.Round.{IsRound, frame_of}
use Rattle.lift_rounds.specs.Settled.{IsLed}
use Rattle.lift_rounds.specs.declared.data.Change.TheVariants.{Made as MadeChange, Head, Found}
use Rattle.lift_graph.specs.declared.links.Stop.TheVariants.{Lost}
use Rattle.lift_rounds.specs.Meaning.{Meaning}
use Rattle.lift_rounds.proofs.CalmLemmas.{made_formed}
use Rattle.lift_rounds.proofs.FixedLemmas.{round_filled}
use Rattle.lift_rounds.proofs.ReadingLemmas.{told_fault}
use Rattle.lift_rounds.proofs.StuckLemmas.{never_stuck}
use Rattle.lift_rounds.proofs.rounds.settle.Goals as goal

pub round-requires-clause-goes : goal.round-requires-clause-goes
round-requires-clause-goes g c =
    let t = g.S.Steps in
    let inv = c.same.invariant in
    never_stuck (frame_of (t.meaning c.same.steps) c.same.graph) (length c.same.made.items)
    (subst (λ (s : Graph). IsRooted s.inward.items s.keeps.items (length c.same.made.items)) (sym inv.same)
    (subst (IsRooted c.args.graph.now.inward.items c.args.graph.now.keeps.items) (sym inv.rows) c.requires.rooted))

pub round-requires-clause-led : goal.round-requires-clause-led
round-requires-clause-led g c =
    let t = g.S.Steps in
    let inv = c.same.invariant in
    let made = reading (t.read c.same.steps) c.same.made.items in
    let m = g.met.S.Steps.means c.args.steps.now c.same.steps inv.grows in
    subst (λ (s : Graph). IsLed (t.meaning c.same.steps) s made) (sym inv.same) (subst (λ x. IsLed x c.args.graph.now made) (sym m) inv.led)

pub round-requires-clause-alone : goal.round-requires-clause-alone
round-requires-clause-alone g c = subst (λ (s : Graph). items_at s.inward.items 0 ≡ []) (sym c.same.invariant.same) c.requires.alone

pub round-requires-clause-kept : goal.round-requires-clause-kept
round-requires-clause-kept g c = subst (λ (s : Graph). is_set s.keeps.items 0 ≡ true) (sym c.same.invariant.same) c.requires.rooted.entry

pub same-preserved : goal.same-preserved
same-preserved g c =
    let t = g.S.Steps in
    let met = g.met.S.Steps in
    let inv = c.same.invariant in
    let r = c.in_ok-round.ensures in
    let first = c.args.steps.now in
    let now = c.same.steps in
    let next = c.round.new.steps in
    let change = c.in_ok-round.field-0 in
    let apart : change ≢ Found = λ e. let z : MadeChange ≡ Found = sym c.in-Made.is ∙ e in let f : ⊥ = cc in f in
    let old = reading (t.read now) c.same.made.items in
    let new = reading (t.read next) c.round.new.made.items in
    let same : c.round.new.graph ≡ c.args.graph.now = r.edges apart ∙ inv.same in
    let m : t.meaning now ≡ t.meaning first = met.means first now inv.grows in
    let round = subst (λ x. IsRound (frame_of x c.args.graph.now) old new change) m (subst (λ (s : Graph). IsRound (frame_of (t.meaning now) s) old new change) inv.same (r.round apart)) in
    record {
      same = same;
      rows = r.rows ∙ ap (λ (s : Graph). length s.keys.items) same ∙ sym c.requires.rows;
      grows = met.over first now next inv.grows r.grows;
      made = r.made;
      led = subst (λ (s : Graph). IsLed (t.meaning first) s new) same (subst (λ x. IsLed x c.round.new.graph new) m r.led);
      filled = λ f. round_filled met.means first now next c.args.graph.now c.same.graph c.round.new.graph old new inv.grows inv.same same r.filled (inv.filled f);
      entry = r.entry ∙ inv.entry;
      quiet = omega arith;
      formed = λ l plain. made_formed (frame_of (t.meaning first) c.args.graph.now) old new change round c.in-Made.is plain;
    }

pub same-preserved-in-Head : goal.same-preserved-in-Head
same-preserved-in-Head g c =
    let t = g.S.Steps in
    let met = g.met.S.Steps in
    let inv = c.same.invariant in
    let r = c.in_ok-round.ensures in
    let first = c.args.steps.now in
    let now = c.same.steps in
    let next = c.round.new.steps in
    let change = c.in_ok-round.field-0 in
    let apart : change ≢ Found = λ e. let z : Head ≡ Found = sym c.in-Head.is ∙ e in let f : ⊥ = cc in f in
    let old = reading (t.read now) c.same.made.items in
    let new = reading (t.read next) c.round.new.made.items in
    let same : c.round.new.graph ≡ c.args.graph.now = r.edges apart ∙ inv.same in
    let m : t.meaning now ≡ t.meaning first = met.means first now inv.grows in
    record {
      same = same;
      rows = r.rows ∙ ap (λ (s : Graph). length s.keys.items) same ∙ sym c.requires.rows;
      grows = met.over first now next inv.grows r.grows;
      made = r.made;
      led = subst (λ (s : Graph). IsLed (t.meaning first) s new) same (subst (λ x. IsLed x c.round.new.graph new) m r.led);
      filled = λ f. round_filled met.means first now next c.args.graph.now c.same.graph c.round.new.graph old new inv.grows inv.same same r.filled (inv.filled f);
      entry = r.entry ∙ inv.entry;
      quiet = omega arith;
      formed = λ l plain. absurd (omega arith);
    }

pub returns-then-quiet-eq-MOST_ROUNDS-clause-filled : goal.returns-then-quiet-eq-MOST_ROUNDS-clause-filled
returns-then-quiet-eq-MOST_ROUNDS-clause-filled g c = λ f.
    let t = g.S.Steps in
    let met = g.met.S.Steps in
    let inv = c.same.invariant in
    let r = c.in_ok-round.ensures in
    let apart : c.in_ok-round.field-0 ≢ Found = λ e. let z : MadeChange ≡ Found = sym c.in-Made.is ∙ e in let w : ⊥ = cc in w in
    let same = r.edges apart ∙ inv.same in
    subst (λ (s : Graph). IsFilled (t.meaning c.args.steps.now) s.keys.items (reading (t.read c.round.new.steps) c.round.new.made.items)) (sym same)
    (round_filled met.means c.args.steps.now c.same.steps c.round.new.steps c.args.graph.now c.same.graph c.round.new.graph (reading (t.read c.same.steps) c.same.made.items) (reading (t.read c.round.new.steps) c.round.new.made.items) inv.grows inv.same same r.filled (inv.filled f))

pub returns-in_err-round-clause-lost : goal.returns-in_err-round-clause-lost
returns-in_err-round-clause-lost g c = λ e f fixed.
    let t = g.S.Steps in
    let inv = c.same.invariant in
    let lost : c.in_err-round.field-0.0 ≡ Lost = sym (told_fault _ _ Lost e c.from_residual.ensures.1) in
    let m : t.meaning c.same.steps ≡ t.meaning c.args.steps.now = g.met.S.Steps.means c.args.steps.now c.same.steps inv.grows in
    let made = reading (t.read c.same.steps) c.same.made.items in
    c.in_err-round.ensures.lost (ap Err lost)
    (subst (λ (s : Graph). IsFilled (t.meaning c.same.steps) s.keys.items made) (sym inv.same) (subst (λ x. IsFilled x c.args.graph.now.keys.items made) (sym m) (inv.filled f)))
    (subst (λ (x : Meaning g.row.S-Plain.Denot). (a : ℕ) → IsFixedAt x a) (sym m) fixed)
