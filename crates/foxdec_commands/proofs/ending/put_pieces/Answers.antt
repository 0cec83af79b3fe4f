use Rattle.std.proofs.Common.{◌≡◌, inl, inr, ⊎_elim, ◌+◌, length, take, sym, subst, arith}
use Rattle.std.proofs.lemmas.List.{take_all}
use Rattle.std.specs.List.{flat_map}
use Rattle.wire_io.specs.Sink.{Grows}
use Rattle.wire_io.proofs.SinkLemmas.{Grows-trans}
use Rattle.foxdec_commands.proofs.TextLemmas.{take-flat_map}
use Rattle.foxdec_commands.proofs.ending.put_pieces.Goals as goal

pub returns-in-Err : goal.returns-in-Err
returns-in-Err g c =
    let pieces = c.args.pieces.now in
    let i = c.loop-piece.piece-index in
    let done = c.loop-piece.invariant in
    let taken = c.in-Err.field-0.taken in
    record {
      front = (
        length (flat_map (λ piece. piece.now) (take i pieces)) + taken,
        subst (Grows (g.E.Sink.written c.args.err.now) (g.E.Sink.written c.put_all.new.sink))
            (sym (take-flat_map (λ piece. piece.now) pieces i _ (omega arith) taken (omega (arith, c.in-Err.ensures.proper))))
            (Grows-trans _ _ _ _ _ done.front c.in-Err.ensures.front),
      );
      whole = inl (⊎_elim (λ rose. inl (omega (arith, rose, done.faults))) (λ rose. inr (omega (arith, rose, done.stalls))) c.in-Err.ensures.failed);
    }

pub returns : goal.returns
returns g c =
    let pieces = c.args.pieces.now in
    let i = c.loop-piece.piece-index in
    let text = flat_map (λ piece. piece.now) pieces in
    let Added = Grows (g.E.Sink.written c.args.err.now) (g.E.Sink.written c.loop-piece.err) in
    let all : take i pieces ≡ pieces = take_all i pieces (omega arith) in
    let done : Added text = subst (λ l. Added (flat_map (λ piece. piece.now) l)) all c.loop-piece.invariant.front in
    record {
      front = (length text, subst Added (sym (take_all (length text) text (omega arith))) done);
      whole = inr done;
    }
