use Rattle.std.proofs.Common.{◌≡◌, ◌≢◌, ◌<◌, ◌↔◌, ℕ, List, Some, Err, false, true, length, slice_get, sym, ap, ◌∙◌, subst}
use Rattle.lift_graph.specs.Edges.{IsWoven}
use Rattle.lift_graph.specs.Heads.{IsKept}
use Rattle.lift_graph.specs.Rows.{is_set}
use Rattle.lift_graph.specs.declared.graph.Graph.{Graph}
use Rattle.std.specs.declared.vec.Vec.{Vec}
use Rattle.std.specs.declared.alloc.Global.{Global}
use Rattle.lift_graph.specs.declared.graph.Key.{Key}
use Rattle.lift_graph.specs.declared.links.Stop.TheVariants.{Lost}
use Rattle.lift_rounds.specs.Fixed.{IsFilled, IsFixedAt}
use Rattle.lift_rounds.specs.Meaning.{Meaning}
use Rattle.lift_rounds.specs.Known.{reading}
use Rattle.lift_rounds.specs.Round.{IsCalm, IsPlain, frame_of}
use Rattle.lift_rounds.specs.Settled.{IsLed}
use Rattle.lift_rounds.specs.declared.rounds.Ended.TheVariants.{Calm, Found, Tired}
use Rattle.lift_rounds.proofs.LawLemmas.{settled_some}
use Rattle.lift_rounds.proofs.PlainLemmas.{plain}
use Rattle.lift_rounds.proofs.ReadingLemmas.{length_reading, told_fault}
use Rattle.lift_rounds.proofs.rounds.run_rounds.Goals as goal

pub returns-in-Calm-clause-settled : goal.returns-in-Calm-clause-settled
returns-in-Calm-clause-settled g c = λ _.
    let t = g.S.Steps in
    let met = g.met.S.Steps in
    let r = c.in_ok-settle.ensures in
    let first = c.args.steps.now in
    let now = c.edges.steps in
    let next = c.settle.new.steps in
    let made = reading (t.read next) c.settle.new.made.items in
    let apart : c.in_ok-settle.field-0 ≢ Found = λ e. let z : Calm ≡ Found = sym c.in-Calm.is ∙ e in let f : ⊥ = cc in f in
    let same : c.settle.new.graph ≡ c.settle_edges.new.graph = r.edges apart in
    let m : t.meaning now ≡ t.meaning first = met.means first now c.edges.invariant.grows in
    let calm = subst (λ x. IsCalm (frame_of x c.settle.new.graph) made) m (subst (λ (s : Graph). IsCalm (frame_of (t.meaning now) s) made) (sym same) (r.calm c.in-Calm.is)) in
    let woven = subst (λ (s : Graph). (order : List ℕ) × IsWoven s order) (sym same) c.in_ok-settle_edges.ensures.woven in
    let led = subst (λ x. IsLed x c.settle.new.graph made) m r.led in
    settled_some (t.meaning first) c.settle.new.graph made (record { itself = met.itself first; through = met.through first; kept = met.kept first; follows = met.follows first }) (length_reading (t.read next) c.settle.new.made.items ∙ r.rows) calm woven led

pub returns-in-Calm-clause-kept : goal.returns-in-Calm-clause-kept
returns-in-Calm-clause-kept g c = λ _.
    let apart : c.in_ok-settle.field-0 ≢ Found = λ e. let z : Calm ≡ Found = sym c.in-Calm.is ∙ e in let f : ⊥ = cc in f in
    subst (λ (s : Graph). (v : ℕ) → v < length s.keys.items → (is_set s.keeps.items v ≡ true) ↔ IsKept s.keys.items s.inward.items v) (sym (c.in_ok-settle.ensures.edges apart)) c.in_ok-settle_edges.ensures.kept

pub returns-in-Tired-clause-tired : goal.returns-in-Tired-clause-tired
returns-in-Tired-clause-tired g c = λ _ none.
    let t = g.S.Steps in
    let met = g.met.S.Steps in
    let r = c.in_ok-settle.ensures in
    let m : t.meaning c.edges.steps ≡ t.meaning c.args.steps.now = met.means c.args.steps.now c.edges.steps c.edges.invariant.grows in
    let apart : c.in_ok-settle.field-0 ≢ Found = λ e. let z : Tired ≡ Found = sym c.in-Tired.is ∙ e in let f : ⊥ = cc in f in
    let graph = c.settle.new.graph in
    let same : graph ≡ c.settle_edges.new.graph = r.edges apart in
    let kept = subst (λ (s : Graph). (v : ℕ) → v < length s.keys.items → (is_set s.keeps.items v ≡ true) ↔ IsKept s.keys.items s.inward.items v) (sym same) c.in_ok-settle_edges.ensures.kept in
    let now = t.meaning c.edges.steps in
    let level = plain now graph (reading (t.read c.settle.new.steps) c.settle.new.made.items) r.graph r.led kept (subst (λ (x : Meaning g.row.S-Plain.Denot). (a : ℕ) → x.forks a ≡ false) (sym m) none) in
    r.tired c.in-Tired.is (subst (λ (s : Graph). IsPlain (frame_of now s)) same level)

pub returns-in_err-settle-clause-lost : goal.returns-in_err-settle-clause-lost
returns-in_err-settle-clause-lost g c = λ e f fixed.
    let t = g.S.Steps in
    let inv = c.edges.invariant in
    let lost : c.in_err-settle.field-0.0 ≡ Lost = sym (told_fault _ _ Lost e c.from_residual-in_err-settle.ensures.1) in
    let m : t.meaning c.edges.steps ≡ t.meaning c.args.steps.now = g.met.S.Steps.means c.args.steps.now c.edges.steps inv.grows in
    let made = reading (t.read c.edges.steps) c.edges.made.items in
    c.in_err-settle.ensures.lost (ap Err lost)
    (subst (λ (ks : Vec Key Global). IsFilled (t.meaning c.edges.steps) ks.items made) (sym c.in_ok-settle_edges.ensures.same.keys) (subst (λ x. IsFilled x c.edges.graph.keys.items made) (sym m) (inv.filled f)))
    (subst (λ (x : Meaning g.row.S-Plain.Denot). (a : ℕ) → IsFixedAt x a) (sym m) fixed)

pub edges-preserved : goal.edges-preserved
edges-preserved g c =
    let t = g.S.Steps in
    let met = g.met.S.Steps in
    let inv = c.edges.invariant in
    let r = c.in_ok-settle.ensures in
    let first = c.args.steps.now in
    let now = c.edges.steps in
    let next = c.settle.new.steps in
    let m : t.meaning now ≡ t.meaning first = met.means first now inv.grows in
    let made = reading (t.read now) c.edges.made.items in
    let new = reading (t.read next) c.settle.new.made.items in
    let keys : c.settle_edges.new.graph.keys ≡ c.edges.graph.keys = c.in_ok-settle_edges.ensures.same.keys in
    record {
      graph = r.graph;
      rows = r.rows;
      grows = met.over first now next inv.grows r.grows;
      made = r.made;
      keys = λ v k e. r.keys v k (subst (λ (ks : Vec Key Global). slice_get ks.items v ≡ Some k) (sym keys) (inv.keys v k e));
      filled = λ f. subst (λ x. IsFilled x c.settle.new.graph.keys.items new) m (r.filled (subst (λ (ks : Vec Key Global). IsFilled (t.meaning now) ks.items made) (sym keys) (subst (λ x. IsFilled x c.edges.graph.keys.items made) (sym m) (inv.filled f))));
      entry = r.entry ∙ inv.entry;
      led = subst (λ x. IsLed x c.settle.new.graph new) m r.led;
    }
