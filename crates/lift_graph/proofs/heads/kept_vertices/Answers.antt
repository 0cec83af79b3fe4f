use Rattle.std.proofs.Common.{◌≡◌, ◌+◌, ◌↔◌, Bool, true, length, sym, ap, ◌∙◌, subst, arith, below_more}
use Rattle.lift_graph.specs.Rows.{is_set}
use Rattle.lift_graph.specs.Heads.{IsKept}
use Rattle.lift_graph.proofs.MarkLemmas.{is_set_push, is_set_last, length_more}
use Rattle.lift_graph.proofs.heads.kept_vertices.Goals as goal

pub loop-vertex-preserved : goal.loop-vertex-preserved
loop-vertex-preserved c =
    let keys = c.args.keys.now in
    let inward = c.args.inward.now in
    let before = c.loop-vertex.invariant in
    let keeps = c.loop-vertex.keeps.items in
    let kept = c.in_ok-kept.kept in
    let i = c.loop-vertex.vertex in
    let items = c.in_ok-push.ensures.items in
    let marks = before.marks in
    record {
      marks = ap length items ∙ length_more keeps kept ∙ ap (λ n. n + 1) marks;
      kept = below_more (λ v. (is_set c.push.new.self.items v ≡ true) ↔ IsKept keys inward v) i
          (λ v h. subst (λ (b : Bool). (b ≡ true) ↔ IsKept keys inward v) (sym (ap (λ ms. is_set ms v) items ∙ is_set_push keeps kept v (omega (arith, marks, h)))) (before.kept v h))
          (subst (λ (b : Bool). (b ≡ true) ↔ IsKept keys inward i) (sym (ap (λ ms. is_set ms i) items ∙ is_set_last keeps kept i (sym marks))) c.in_ok-kept.ensures);
    }
