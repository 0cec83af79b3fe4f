use Rattle.std.proofs.Common.{◌∙◌, arith}
use Rattle.lift_graph.proofs.SearchLemmas.{noted_more, noted_all}
use Rattle.lift_graph.proofs.search.note_sources.Goals as goal

pub loop-place-preserved : goal.loop-place-preserved
loop-place-preserved c =
    let before = c.loop-place.invariant in
    record {
      rows = c.in_ok-note.ensures.rows ∙ before.rows;
      noted = noted_more c.args.places.now c.loop-place.place-index _ c.args.marks.now.items c.args.waiting.now.items c.loop-place.marks.items c.loop-place.waiting.items c.note.new.marks.items c.note.new.waiting.items c.loop-place-test.true before.noted c.in_ok-note.ensures.noted;
      room = omega (arith, c.in_ok-note.ensures.room);
    }

pub returns-clause-noted : goal.returns-clause-noted
returns-clause-noted c = noted_all c.args.places.now c.loop-place.place-index c.args.marks.now.items c.args.waiting.now.items c.loop-place.marks.items c.loop-place.waiting.items (omega arith) c.loop-place.invariant.noted
