use Rattle.std.proofs.Common.{◌≡◌, ◌≢◌, ◌<◌, ◌⊎◌, ℕ, Bool, List, Err, true, length, sym, ap, ◌∙◌, subst}
use Rattle.lift_graph.specs.Rows.{is_set}
use Rattle.lift_graph.specs.declared.graph.Graph.{Graph}
use Rattle.lift_graph.specs.Graph.{address_at, tag_at}
use Rattle.lift_graph.specs.Links.{KeepsEdges, keys_after}
use Rattle.lift_graph.specs.declared.links.Stop.TheVariants.{Lost}
use Rattle.lift_rounds.specs.Meaning.{Meaning}
use Rattle.lift_rounds.specs.Fixed.{AreCases, IsFilled, IsUnresolvedAt}
use Rattle.lift_rounds.specs.Known.{reading, addresses, cases_at}
use Rattle.lift_rounds.specs.Round.{IsReady, Quiet, frame_of}
use Rattle.lift_rounds.specs.Settled.{IsLed}
use Rattle.lift_rounds.specs.Visit.{worse}
use Rattle.lift_rounds.specs.declared.data.Change.TheVariants.{Found}
use Rattle.lift_rounds.proofs.ReadingLemmas.{length_reading, told_fault}
use Rattle.lift_rounds.proofs.RoundLemmas.{worse_found, worse_found_right}
use Rattle.lift_rounds.proofs.FillLemmas.{led_same, addresses_stay}
use Rattle.lift_rounds.proofs.FixedLemmas.{always_resolved, edges_kept, filled_one}
use Rattle.lift_rounds.proofs.EndLemmas.{quiet_end}
use Rattle.lift_rounds.proofs.one_round.round.Goals as goal

pub take-requires-clause-ready : goal.take-requires-clause-ready
take-requires-clause-ready g c = subst (λ (ts : List Bool). IsReady c.loop-vertex.graph.keeps.items c.loop-vertex.graph.inward.items ts c.in-Some.vertex) c.as_slice.ensures.value c.in-Some.ensures.ready

pub loop-vertex-preserved : goal.loop-vertex-preserved
loop-vertex-preserved g c =
    let t = g.S.Steps in
    let met = g.met.S.Steps in
    let before = c.loop-vertex.invariant in
    let here = c.in_ok-here.here in
    let e = c.worse_of-change.ensures in
    let first = c.args.steps.now in
    let now = c.loop-vertex.steps in
    let next = c.take.new.steps in
    let m : t.meaning now ≡ t.meaning first = met.means first now before.grows in
    let apart : c.worse_of-change.result ≢ Found → worse c.loop-vertex.change here ≢ Found = λ n. subst (λ x. x ≢ Found) e n in
    let start = reading (t.read first) c.args.made.now.items in
    let old = reading (t.read now) c.loop-vertex.made.items in
    let new = reading (t.read next) c.take.new.made.items in
    let v = c.in-Some.vertex in
    record {
      graph = before.graph;
      rows = c.in_ok-here.ensures.rows ∙ before.rows;
      marks = c.in_ok-here.ensures.marks ∙ before.marks;
      grows = met.over first now next before.grows c.in_ok-here.ensures.grows;
      made = c.in_ok-here.ensures.made;
      led = led_same (t.meaning first) c.loop-vertex.graph old new (addresses_stay old new _ c.in_ok-here.ensures.others (c.in_ok-here.ensures.edges c.in_default-here.not-Found)) before.led;
      filled = λ f.
          let one = subst (λ x. (cases_at new v ≡ cases_at old v) ⊎ AreCases x (address_at c.loop-vertex.graph.keys.items v) (cases_at new v)) m c.in_ok-here.ensures.filled in
          filled_one (t.meaning first) c.loop-vertex.graph.keys.items v old new c.in_ok-here.ensures.others one (before.filled f);
      alone = before.alone;
      kept = before.kept;
      keys = before.keys;
      entry = c.in_ok-here.ensures.entry before.alone before.kept ∙ before.entry;
      same = λ n. before.same (worse_found c.loop-vertex.change here (apart n)).0;
      quiet = λ n.
          let small = (worse_found c.loop-vertex.change here (apart n)).0 in
          let same = before.same small in
          let from = subst (λ (s : Graph). Quiet (frame_of (t.meaning first) s) start old c.loop-vertex.taken.items c.loop-vertex.change) (sym same) (before.quiet small) in
          let to = c.in_ok-here.ensures.step start c.loop-vertex.change (apart n) (subst (λ x. Quiet (frame_of x c.loop-vertex.graph) start old c.loop-vertex.taken.items c.loop-vertex.change) (sym m) from) in
          let back = subst (λ x. Quiet (frame_of x c.loop-vertex.graph) start new c.take.new.taken.items (worse c.loop-vertex.change here)) m to in
          subst (λ x. Quiet (frame_of (t.meaning first) c.args.graph.now) start new c.take.new.taken.items x) (sym e)
          (subst (λ (s : Graph). Quiet (frame_of (t.meaning first) s) start new c.take.new.taken.items (worse c.loop-vertex.change here)) same back);
    }

pub loop-vertex-preserved-in-Continue-branch-3 : goal.loop-vertex-preserved-in-Continue-branch-3
loop-vertex-preserved-in-Continue-branch-3 g c =
    let t = g.S.Steps in
    let met = g.met.S.Steps in
    let before = c.loop-vertex.invariant in
    let first = c.args.steps.now in
    let next = c.take.new.steps in
    let grows = met.over first c.loop-vertex.steps next before.grows c.in_ok-here.ensures.grows in
    let link = c.in_ok-link_cases.ensures in
    let found : c.worse_of-change.result ≡ Found = c.worse_of-change.ensures ∙ ap (worse c.loop-vertex.change) c.in-Found.is ∙ worse_found_right c.loop-vertex.change in
    record {
      graph = link.graph;
      rows = link.rows;
      marks = link.marks;
      grows = grows;
      made = link.made;
      led = subst (λ x. IsLed x c.link_cases.new.graph (reading (t.read next) c.link_cases.new.made.items)) (met.means first next grows) link.led;
      filled = λ f.
          let old = reading (t.read c.loop-vertex.steps) c.loop-vertex.made.items in
          let new = reading (t.read next) c.take.new.made.items in
          let v = c.in-Some.vertex in
          let m : t.meaning c.loop-vertex.steps ≡ t.meaning first = met.means first c.loop-vertex.steps before.grows in
          let one = subst (λ x. (cases_at new v ≡ cases_at old v) ⊎ AreCases x (address_at c.loop-vertex.graph.keys.items v) (cases_at new v)) m c.in_ok-here.ensures.filled in
          let taken = filled_one (t.meaning first) c.loop-vertex.graph.keys.items v old new c.in_ok-here.ensures.others one (before.filled f) in
          let n = met.means first next grows in
          subst (λ x. IsFilled x c.link_cases.new.graph.keys.items (reading (t.read next) c.link_cases.new.made.items)) n
          (link.filled (subst (λ x. IsFilled x c.loop-vertex.graph.keys.items new) (sym n) taken));
      alone = link.entry ∙ before.alone;
      kept = link.keeps ∙ before.kept;
      keys = λ v k e. link.keys v k (before.keys v k e);
      entry = link.preds 0 ∙ c.in_ok-here.ensures.entry before.alone before.kept ∙ before.entry;
      same = λ n. absurd (n found);
      quiet = λ n. absurd (n found);
    }

pub returns-clause-round : goal.returns-clause-round
returns-clause-round g c = λ n.
    let t = g.S.Steps in
    let same = c.loop-vertex.invariant.same n in
    let q = c.loop-vertex.invariant.quiet n in
    let taken = c.loop-vertex.taken.items in
    let first = c.args.steps.now in
    let start = reading (t.read first) c.args.made.now.items in
    let made = reading (t.read c.loop-vertex.steps) c.loop-vertex.made.items in
    let none = subst (λ (ts : List Bool). (v : ℕ) → v < length ts → IsReady c.loop-vertex.graph.keeps.items c.loop-vertex.graph.inward.items ts v → is_set ts v ≡ true) c.as_slice.ensures.value c.in_default.ensures.none in
    let still = subst (λ (s : Graph). (v : ℕ) → v < length taken → IsReady s.keeps.items s.inward.items taken v → is_set taken v ≡ true) same none in
    let marks = c.loop-vertex.invariant.marks ∙ ap (λ (s : Graph). length s.keys.items) same ∙ sym c.requires.rows in
    let all = length_reading (t.read first) c.args.made.now.items in
    quiet_end (frame_of (t.meaning first) c.args.graph.now) start made taken c.loop-vertex.change q
    (λ v l. c.requires.goes taken marks (λ u b r. still u (subst (λ k. u < k) (sym marks) b) r) v (subst (λ k. v < k) all l))

pub returns-in_err-here-clause-lost : goal.returns-in_err-here-clause-lost
returns-in_err-here-clause-lost g c = λ e filled fixed.
    let t = g.S.Steps in
    let lost : c.in_err-here.field-0.0 ≡ Lost = sym (told_fault _ _ Lost e c.from_residual-in_err-here.ensures.1) in
    let m = g.met.S.Steps.means c.args.steps.now c.loop-vertex.steps c.loop-vertex.invariant.grows in
    let at = address_at c.loop-vertex.graph.keys.items c.in-Some.vertex in
    always_resolved (t.meaning c.args.steps.now) at (fixed at) (subst (λ x. IsUnresolvedAt x at) m (c.in_err-here.ensures.lost (ap Err lost)))

pub returns-in_err-link_cases-clause-lost : goal.returns-in_err-link_cases-clause-lost
returns-in_err-link_cases-clause-lost g c = λ e filled fixed.
    let t = g.S.Steps in
    let met = g.met.S.Steps in
    let lost : c.in_err-link_cases.field-0.0 ≡ Lost = sym (told_fault _ _ Lost e c.from_residual-in_err-link_cases.ensures.1) in
    let before = c.loop-vertex.invariant in
    let first = c.args.steps.now in
    let now = c.loop-vertex.steps in
    let next = c.take.new.steps in
    let graph = c.loop-vertex.graph in
    let v = c.in-Some.vertex in
    let old = reading (t.read now) c.loop-vertex.made.items in
    let new = reading (t.read next) c.take.new.made.items in
    let m : t.meaning now ≡ t.meaning first = met.means first now before.grows in
    let n : t.meaning next ≡ t.meaning first = met.means first next (met.over first now next before.grows c.in_ok-here.ensures.grows) in
    let one = subst (λ x. (cases_at new v ≡ cases_at old v) ⊎ AreCases x (address_at graph.keys.items v) (cases_at new v)) m c.in_ok-here.ensures.filled in
    let kept = edges_kept (t.meaning first) graph v old new (fixed (address_at graph.keys.items v)) (before.led v) (before.filled filled v) one in
    c.in_err-link_cases.ensures.lost (ap Err lost) (subst (λ (x : Meaning g.row.S-Plain.Denot). KeepsEdges graph v (keys_after (x.forks (address_at graph.keys.items v)) (tag_at graph.keys.items v) 0 (addresses (cases_at new v)))) (sym n) kept)
