use Rattle.std.proofs.Common.{◌≡◌, ◌<◌, [], false, length, sym, ◌∙◌, subst, arith}
use Rattle.std.proofs.lemmas.List.{nil_from_length, get_or_read}
use Rattle.lift_graph.specs.Search.{IsSearch}
use Rattle.lift_graph.specs.Search.{IsMember}
use Rattle.lift_graph.proofs.MemberLemmas.{member_last}
use Rattle.lift_graph.proofs.SearchLemmas.{is_set_within, search_more, search_all}
use Rattle.lift_graph.proofs.search.leads_back.Goals as goal

pub note_row-requires-in-Some-clause-vertex : goal.note_row-requires-in-Some-clause-vertex
note_row-requires-in-Some-clause-vertex c =
    subst (λ n. c.in-Some.next < n) c.back.invariant.rows (is_set_within c.back.marks.items c.in-Some.next (c.back.invariant.search.marked c.in-Some.next (subst (IsMember c.in-Some.next) (sym c.in-Some.ensures.items) (member_last c.in-Some.next c.pop.new.self.items))))

pub note_row-requires-in-Some-clause-within : goal.note_row-requires-in-Some-clause-within
note_row-requires-in-Some-clause-within c =
    let next = c.in-Some.next in
    let small : next < length c.args.inward.now = subst (λ n. next < n) c.back.invariant.rows (is_set_within c.back.marks.items next (c.back.invariant.search.marked next (subst (IsMember next) (sym c.in-Some.ensures.items) (member_last next c.pop.new.self.items)))) in
    let long = sym c.back.invariant.rows in
    λ k d h. (let t = c.requires.within next small k d h in omega (arith, t, long))

pub back-preserved : goal.back-preserved
back-preserved c = record {
  rows = c.in_ok-note_row-2.ensures.rows ∙ c.back.invariant.rows;
  search = search_more c.args.inward.now c.args.vertex c.in-Some.next c.back.marks.items c.pop.new.self.items c.note_row-in-Some.new.marks.items c.note_row-in-Some.new.waiting.items (subst (IsSearch c.args.inward.now c.args.vertex c.back.marks.items) c.in-Some.ensures.items c.back.invariant.search) c.in_ok-note_row-2.ensures.noted;
}

pub returns-clause-only : goal.returns-clause-only
returns-clause-only c = λ n w.
    let none : c.back.waiting.items ≡ [] = nil_from_length c.back.waiting.items (omega (arith, c.in_default.ensures.cases)) in
    get_or_read c.back.marks.items c.args.vertex c.index.result.now (omega arith) c.index.ensures false ∙ search_all c.args.inward.now c.args.vertex c.back.marks.items (subst (IsSearch c.args.inward.now c.args.vertex c.back.marks.items) none c.back.invariant.search) n c.args.vertex w
