use Rattle.std.proofs.Common.{◌≡◌, ℕ, Bool, List, Err, sym, ap, ◌∙◌, subst, arith}
use Rattle.lift_graph.specs.Graph.{address_at, tag_at}
use Rattle.lift_graph.specs.Links.{IsLinked, KeepsEdges, keys_after}
use Rattle.lift_graph.specs.declared.links.Stop.TheVariants.{Lost}
use Rattle.lift_rounds.specs.Known.{addresses, cases_at, reading}
use Rattle.lift_rounds.proofs.ReadingLemmas.{addresses_reading, cases_at_read, length_reading, told_fault}
use Rattle.lift_rounds.proofs.FixedLemmas.{filled_more}
use Rattle.lift_rounds.proofs.FillLemmas.{kept_more, led_same, linked_led}
use Rattle.lift_rounds.proofs.one_round.link_cases.Goals as goal

pub returns-clause-led : goal.returns-clause-led
returns-clause-led g c =
    let t = g.S.Steps in
    let steps = c.args.steps.now in
    let m = t.meaning steps in
    let old = c.args.graph.now in
    let new = c.link.new.graph in
    let vertex = c.args.vertex in
    let made = reading (t.read steps) c.args.made.now.items in
    let tag = tag_at old.keys.items vertex in
    let at = address_at old.keys.items vertex in
    let forks : c.forks-forks.result ≡ m.forks at = c.forks-forks.ensures ∙ ap m.forks c.address-address.ensures in
    let found : c.as_slice-2.result.now ≡ addresses (cases_at made vertex) =
    c.as_slice-2.ensures.value ∙ c.in_ok-addresses.ensures ∙ ap addresses c.as_slice.ensures.value ∙ sym (ap addresses (cases_at_read (t.read steps) c.args.made.now.items vertex c.index.result.now (omega arith) c.index.ensures) ∙ addresses_reading (t.read steps) _) in
    let linked = subst (λ (as' : List ℕ). IsLinked old new vertex (keys_after (m.forks at) tag 0 as')) found (subst (λ (b : Bool). IsLinked old new vertex (keys_after b tag 0 c.as_slice-2.result.now)) forks c.in_ok-link.ensures.linked) in
    led_same m new made (reading (t.read steps) c.fill.new.made.items) (λ u. ap addresses (c.in_ok-fill.ensures.cases u)) (linked_led m old new vertex made c.requires.graph c.requires.within linked c.requires.others)

pub fill-requires-clause-more : goal.fill-requires-clause-more
fill-requires-clause-more g c =
    let m = kept_more c.args.graph.now.keys.items c.link.new.graph.keys.items c.in_ok-link.ensures.linked.kept in
    omega arith

pub returns-clause-keys : goal.returns-clause-keys
returns-clause-keys g c = c.in_ok-link.ensures.linked.kept

pub returns-clause-entry : goal.returns-clause-entry
returns-clause-entry g c = c.in_ok-link.ensures.linked.entry

pub returns-clause-keeps : goal.returns-clause-keeps
returns-clause-keeps g c = c.in_ok-link.ensures.linked.keeps

pub returns-clause-preds : goal.returns-clause-preds
returns-clause-preds g c = c.in_ok-fill.ensures.preds

pub returns-clause-filled : goal.returns-clause-filled
returns-clause-filled g c = λ f.
    let t = g.S.Steps in
    let read = t.read c.args.steps.now in
    filled_more (t.meaning c.args.steps.now) c.args.graph.now.keys.items c.link.new.graph.keys.items (reading read c.args.made.now.items) (reading read c.fill.new.made.items)
    (length_reading read c.args.made.now.items ∙ c.requires.rows) c.in_ok-link.ensures.linked.kept c.in_ok-fill.ensures.cases f

pub returns-in_err-link-clause-lost : goal.returns-in_err-link-clause-lost
returns-in_err-link-clause-lost g c = λ e.
    let t = g.S.Steps in
    let steps = c.args.steps.now in
    let m = t.meaning steps in
    let old = c.args.graph.now in
    let vertex = c.args.vertex in
    let tag = tag_at old.keys.items vertex in
    let at = address_at old.keys.items vertex in
    let lost : c.in_err-link.field-0.0 ≡ Lost = sym (told_fault _ _ Lost e c.from_residual-in_err-link.ensures.1) in
    let forks : c.forks-forks.result ≡ m.forks at = c.forks-forks.ensures ∙ ap m.forks c.address-address.ensures in
    let found : c.as_slice-2.result.now ≡ addresses (cases_at (reading (t.read steps) c.args.made.now.items) vertex) =
    c.as_slice-2.ensures.value ∙ c.in_ok-addresses.ensures ∙ ap addresses c.as_slice.ensures.value ∙ sym (ap addresses (cases_at_read (t.read steps) c.args.made.now.items vertex c.index.result.now (omega arith) c.index.ensures) ∙ addresses_reading (t.read steps) _) in
    subst (λ (as' : List ℕ). KeepsEdges old vertex (keys_after (m.forks at) tag 0 as') → ⊥) found (subst (λ (b : Bool). KeepsEdges old vertex (keys_after b tag 0 c.as_slice-2.result.now) → ⊥) forks (c.in_err-link.ensures.lost (ap Err lost)))
