-- Files and a stream that never fail: only memory is in the way of what the files decide.
use Rattle.std.proofs.Common.{◌≡◌, ◌⊎◌, inl, inr, ⊎_elim, ℕ, ◌+◌, ◌<◌, ◌≤◌, Bool, List, ◌++◌, length, take, sym, ◌∙◌, ap, subst, Some, arith, length-append, length-take}
use Rattle.std.specs.declared.option.Option.{Option}
use Rattle.std.specs.Io.KnownBytes.{append_known}
use Rattle.wire_io.specs.Counts.{Rose}
use Rattle.wire_io.specs.Sink.{IsFull, KeepsRoom}
use Rattle.foxdec_commands.specs.Words.{Asked}
use Rattle.foxdec_commands.specs.Ending.{Ending, printed, output_of}
use Rattle.foxdec_commands.specs.Outcome.{Decides}
use Rattle.foxdec_commands.specs.Outside.{Files, Stream, ReadFailed, Adds}
use Rattle.foxdec_commands.specs.Guarantee.{Gives, Ends, IsCutOff}
use Rattle.foxdec_commands.proofs.GuaranteeLemmas.{Ways, ways}

module _ (files : Files) (out err : Stream) (status : ℕ) (asked : Asked) (e : Ending) (known : Decides files.known asked e)
    (no_read : (name : List ℕ) → ReadFailed files name → ⊥) (no_fault : Rose out.faults out.later_faults → ⊥) (fresh : out.stalls ≡ 0)
    (room later : Option ℕ) (keeps : KeepsRoom room later out.stalls out.later_stalls out.later_written)
    (most : ℕ) (bytes : List ℕ) (room_is : room ≡ Some most) (written_is : out.written ≡ Some bytes) (fits : length bytes + length (output_of e) ≤ most) where
  -- a stall would show a stream that is full, and it is not
  no_stall : (valid : Bool) (output : List ℕ) (taken : ℕ) → printed valid output ≡ e → taken < length output → Adds out (take taken output) → Rose out.stalls out.later_stalls → ⊥
  no_stall valid output taken same short adds rose = at keeps.stall
    where
      at : (out.later_stalls ≡ out.stalls) ⊎ IsFull later out.later_written → ⊥
      at (inl still) = omega (arith, still, fresh, rose)
      at (inr full) =
          let all : out.later_written ≡ Some (bytes ++ take taken output) = adds ∙ ap (λ (o : Option (List ℕ)). append_known o (take taken output)) written_is in
          let over = full most (bytes ++ take taken output) (keeps.same ∙ room_is) all in
          let long : length (output_of e) ≡ length output = ap (λ (x : Ending). length (output_of x)) (sym same) in
          omega (arith, over, fits, long, short, length-append bytes (take taken output), length-take taken output)

  not_cut : IsCutOff files out err asked → ⊥
  not_cut cut = ⊎_elim no_fault (no_stall cut.valid cut.output cut.taken (cut.due.decided e known) cut.proper cut.front) cut.trouble

  quiet_in : Ways files out err status asked → Gives out err status e ⊎ (status ≡ 7)
  quiet_in (inl way) = inl (subst (Gives out err status) (way.1.due.decided e known) way.1.gives)
  quiet_in (inr (inl way)) = absurd (no_read way.1.name way.1.unreadable.1)
  quiet_in (inr (inr (inl way))) = absurd (not_cut way.1)
  quiet_in (inr (inr (inr way))) = inr way

  -- what the files decide, or out of memory
  pub quiet : Ends files out err (Some asked) status → Gives out err status e ⊎ (status ≡ 7)
  quiet ends = quiet_in (ways files out err status asked ends)
