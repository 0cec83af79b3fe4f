use Rattle.std.proofs.Common.{arith}
use Rattle.wire_io.proofs.SinkLemmas.{Grows-take, KeepsRoom-trans}
use Rattle.wire_io.proofs.writing.put_all.Goals as goal

pub loop-taken-preserved : goal.loop-taken-preserved
loop-taken-preserved g c = record {
  within = omega (arith, c.in-Ok.ensures.fits);
  front = Grows-take _ _ _ c.args.bytes.now c.loop-taken.taken c.in-Ok.count c.loop-taken.invariant.front c.in-Ok.ensures.ok;
  room = KeepsRoom-trans _ _ _ _ _ _ _ _ _ c.in-Ok.ensures.ok c.loop-taken.invariant.room c.put.ensures.room;
  later = omega (arith, c.put.ensures.later);
  stalls_later = omega (arith, c.put.ensures.stalls_later);
}
