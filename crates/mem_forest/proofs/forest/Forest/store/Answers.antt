use Rattle.std.proofs.Common.{◌≡◌, ◌+◌, false, Ok, Err, sym, ap, subst, ◌∙◌}
use Rattle.std.specs.Prelude.{OnOk, OnErr, nat_lt}
use Rattle.memory_regions.specs.Relate.{relate}
use Rattle.memory_regions.specs.Context.{known}
use Rattle.mem_forest.specs.Plain.{PlainForest, cells, count}
use Rattle.mem_forest.specs.Search.{found}
use Rattle.mem_forest.specs.Shape.{IsForest}
use Rattle.mem_forest.specs.Store.{placed}
use Rattle.mem_forest.proofs.FormLemmas.{written_forest, store_placed, store_forest}
use Rattle.mem_forest.proofs.forest.Forest.store.Goals as goal

pub invariant_of-self : goal.invariant_of-self
invariant_of-self c =
    let P : PlainForest → Type 0 = λ f. IsForest f in
    subst P (sym c.write.ensures.nodes) (written_forest false c.args.region.now.at c.args.region.now.bytes c.in_ok-value.value (cells c.self.inside.nodes.items) c.self.invariant)

pub invariant_of-self-2 : goal.invariant_of-self-2
invariant_of-self-2 c =
    let P : PlainForest → Type 0 = λ f. IsForest f in
    let at = c.args.region.now.at in
    let a = c.args.region.now.bytes in
    let rel = relate (known c.args.context.now) at a in
    let same = c.if-write.ensures.unchanged in
    let old = cells c.self.inside.nodes.items in
    let f = cells c.write.new.nodes.items in
    let h : IsForest f = subst P (sym (ap cells same)) c.self.invariant in
    let gone : found at a f ≡ false = ap (λ ns. found at a (cells ns)) same ∙ sym c.if-write.ensures.found in
    let total : c.count_nodes-total.result ≡ count f = c.count_nodes-total.ensures ∙ ap (λ ns. count (cells ns)) c.as_slice.ensures.value in
    let placing : Type 0 = cells c.place.new.nodes.items ≡ placed rel at a c.write.new.value (nat_lt (c.count_nodes-total.result + count (placed rel at a c.write.new.value false f)) (64 + count f)) f in
    let staying : Type 0 = c.place.new.nodes.items ≡ c.write.new.nodes.items in
    (elim c.place.result as (λ r. OnOk r placing → OnErr r staying → IsForest (cells c.place.new.nodes.items)) [
      | Ok x ↦ λ ok err. subst P (sym (store_placed rel at a c.write.new.value c.count_nodes-total.result f (cells c.place.new.nodes.items) gone total ok)) (store_forest rel at a c.write.new.value f c.requires h)
      | Err e ↦ λ ok err. subst P (sym (ap cells err)) h
    ]) c.place.ensures.ok c.place.ensures.err
