use Rattle.std.proofs.Common.{refl, true, false, subst, map, string_bytes}
use Rattle.foxdec_commands.specs.Words.{request_of}
use Rattle.foxdec_commands.specs.Ending.{printed, write_failed}
use Rattle.foxdec_commands.specs.Outside.{files_of, stream_of, HasTrouble}
use Rattle.foxdec_commands.specs.Guarantee.{IsCaused}
use Rattle.foxdec_commands.specs.View.{refused_of}
use Rattle.foxdec_commands.proofs.ShownLemmas.{unwritten, cut_off}
use Rattle.foxdec_commands.proofs.TextLemmas.{Says-nothing, refused_silent}
use Rattle.foxdec_commands.proofs.top.run.Goals as goal

pub returns-then-output-clause-ends : goal.returns-then-output-clause-ends
returns-then-output-clause-ends g c =
    let files = files_of g.S.Shelf c.args.shelf.now c.answer.new.shelf in
    let out = stream_of g.O.Sink c.args.out.now c.put_all.new.sink in
    let request = request_of (map string_bytes c.args.words.now) in
    let ending = printed true c.in-Ok.output.bytes.items in
    let came : IsCaused files ⊥ request ending =
    subst (λ b. IsCaused files ⊥ request (printed b c.in-Ok.output.bytes.items)) c.if-output.true c.in-Ok.ensures in
    record {
      ending = ending;
      caused = unwritten files (HasTrouble out) request ending came;
      gives = record { status_is = refl; output = rw c.deref.ensures.value at c.in-Ok-put_all.ensures.ok; text = Says-nothing _ _ _ };
    }

pub returns-in-Ok-put_all-clause-ends : goal.returns-in-Ok-put_all-clause-ends
returns-in-Ok-put_all-clause-ends g c =
    let files = files_of g.S.Shelf c.args.shelf.now c.answer.new.shelf in
    let out = stream_of g.O.Sink c.args.out.now c.put_all.new.sink in
    let request = request_of (map string_bytes c.args.words.now) in
    let ending = printed false c.in-Ok.output.bytes.items in
    let came : IsCaused files ⊥ request ending =
    subst (λ b. IsCaused files ⊥ request (printed b c.in-Ok.output.bytes.items)) c.if-output.false c.in-Ok.ensures in
    record {
      ending = ending;
      caused = unwritten files (HasTrouble out) request ending came;
      gives = record { status_is = refl; output = rw c.deref.ensures.value at c.in-Ok-put_all.ensures.ok; text = Says-nothing _ _ _ };
    }

pub returns-in-Ok-clause-ends : goal.returns-in-Ok-clause-ends
returns-in-Ok-clause-ends g c =
    let files = files_of g.S.Shelf c.args.shelf.now c.answer.new.shelf in
    let out = stream_of g.O.Sink c.args.out.now c.put_all.new.sink in
    let request = request_of (map string_bytes c.args.words.now) in
    let output = c.in-Ok.output in
    let failed = c.in-Err-put_all in
    record {
      ending = write_failed output.valid output.bytes.items failed.failed.taken;
      caused = cut_off files (HasTrouble out) request output.valid output.bytes.items failed.failed.taken c.in-Ok.ensures
          (rw c.deref.ensures.value at failed.ensures.proper) failed.ensures.failed;
      gives = record { status_is = refl; output = rw c.deref.ensures.value at failed.ensures.front; text = c.say_write_failed.ensures };
    }

pub returns-clause-ends : goal.returns-clause-ends
returns-clause-ends g c =
    let files = files_of g.S.Shelf c.args.shelf.now c.answer.new.shelf in
    let out = stream_of g.O.Sink c.args.out.now c.args.out.now in
    let request = request_of (map string_bytes c.args.words.now) in
    let refusal = c.in-Err.refusal in
    record {
      ending = refused_of refusal;
      caused = unwritten files (HasTrouble out) request (refused_of refusal) c.in-Err.ensures;
      gives = record { status_is = c.status.ensures; output = refused_silent (g.O.Sink.written c.args.out.now) refusal; text = c.say_refusal.ensures };
    }
