-- What follows of a command's status from the way in which it ended.
use Rattle.std.proofs.Common.{◌≡◌, ◌⊎◌, ◌↔◌, inl, inr, ℕ, List, [], true, false, refl, sym, ◌∙◌, ap, subst, Some, None, arith}
use Rattle.std.specs.declared.option.Option.{Option}
use Rattle.foxdec_commands.specs.Words.{Asked}
use Rattle.foxdec_commands.specs.Ending.{Ending, printed, not_a_command, read_failed, file_refused, graph_refused, write_failed, out_of_memory, status_of}
use Rattle.foxdec_commands.specs.Outcome.{Decides, IsDue}
use Rattle.foxdec_commands.specs.Outside.{Files, Stream, HasTrouble, Adds}
use Rattle.foxdec_commands.specs.Guarantee.{IsShown, IsUnreadable, Gives, Ends, IsExcused, IsAnswered, IsSilent, GivesDue, SaysUnreadable, IsCutOff}
use Rattle.foxdec_commands.proofs.TextLemmas.{Grows-refl}

-- the status of an answer is none of these
pub answered-not_2 : (s : ℕ) → IsAnswered s → s ≡ 2 → ⊥
answered-not_2 s answered is = grind arith

pub answered-not_3 : (s : ℕ) → IsAnswered s → s ≡ 3 → ⊥
answered-not_3 s answered is = grind arith

pub answered-not_6 : (s : ℕ) → IsAnswered s → s ≡ 6 → ⊥
answered-not_6 s answered is = grind arith

pub answered-not_7 : (s : ℕ) → IsAnswered s → s ≡ 7 → ⊥
answered-not_7 s answered is = grind arith

-- a run that writes nothing has none of these
silent-not_0 : (s : ℕ) → IsSilent s → s ≡ 0 → ⊥
silent-not_0 s silent is = grind arith

silent-not_1 : (s : ℕ) → IsSilent s → s ≡ 1 → ⊥
silent-not_1 s silent is = grind arith

silent-not_6 : (s : ℕ) → IsSilent s → s ≡ 6 → ⊥
silent-not_6 s silent is = grind arith

module _ (files : Files) (out err : Stream) (status : ℕ) where
  -- the four ways in which a command ends
  abbrev pub Ways : Asked → Type 0
  Ways asked =
      (IsAnswered status × GivesDue files out err asked status)
      ⊎ ((status ≡ 3) × SaysUnreadable files err asked)
      ⊎ ((status ≡ 6) × IsCutOff files out err asked)
      ⊎ (status ≡ 7)

  ways_at : (asked : Asked) (e : Ending) → IsShown (IsDue files.known asked) (IsUnreadable files asked) (HasTrouble out) e → Gives out err status e → Ways asked
  ways_at asked (printed true output) c gives = inl (inl gives.status_is, record { ending = printed true output; due = c; gives = gives })
  ways_at asked (printed false output) c gives = inl (inr (inl gives.status_is), record { ending = printed false output; due = c; gives = gives })
  ways_at asked not_a_command c gives = absurd c
  ways_at asked (read_failed name) c gives = inr (inl (gives.status_is, record { name = name; unreadable = c; text = gives.text }))
  ways_at asked (file_refused name refusal) c gives = inl (inr (inr (inl gives.status_is)), record { ending = file_refused name refusal; due = c; gives = gives })
  ways_at asked (graph_refused name fault) c gives = inl (inr (inr (inr gives.status_is)), record { ending = graph_refused name fault; due = c; gives = gives })
  ways_at asked (write_failed valid output taken) c gives =
      inr (inr (inl (gives.status_is, record { valid = valid; output = output; taken = taken; due = c.0; proper = c.1; front = gives.output; trouble = c.2; text = gives.text })))
  ways_at asked out_of_memory c gives = inr (inr (inr gives.status_is))

  pub ways : (asked : Asked) → Ends files out err (Some asked) status → Ways asked
  ways asked ends = ways_at asked ends.ending ends.caused ends.gives

  -- 0, 1, 4 and 5 come with what is due
  answers_in : (asked : Asked) → IsAnswered status → Ways asked → GivesDue files out err asked status
  answers_in asked answered (inl way) = way.1
  answers_in asked answered (inr (inl way)) = absurd (answered-not_3 status answered way.0)
  answers_in asked answered (inr (inr (inl way))) = absurd (answered-not_6 status answered way.0)
  answers_in asked answered (inr (inr (inr way))) = absurd (answered-not_7 status answered way)

  pub answers : (asked : Asked) → IsAnswered status → Ends files out err (Some asked) status → GivesDue files out err asked status
  answers asked answered ends = answers_in asked answered (ways asked ends)

  -- 3 comes with a read that failed
  unreadable_in : (asked : Asked) → status ≡ 3 → Ways asked → SaysUnreadable files err asked
  unreadable_in asked is (inl way) = absurd (answered-not_3 status way.0 is)
  unreadable_in asked is (inr (inl way)) = way.1
  unreadable_in asked is (inr (inr (inl way))) = absurd (omega (arith, is, way.0))
  unreadable_in asked is (inr (inr (inr way))) = absurd (omega (arith, is, way))

  pub unreadable : (asked : Asked) → status ≡ 3 → Ends files out err (Some asked) status → SaysUnreadable files err asked
  unreadable asked is ends = unreadable_in asked is (ways asked ends)

  -- 6 comes with an output that was cut off
  cut_in : (asked : Asked) → status ≡ 6 → Ways asked → IsCutOff files out err asked
  cut_in asked is (inl way) = absurd (answered-not_6 status way.0 is)
  cut_in asked is (inr (inl way)) = absurd (omega (arith, is, way.0))
  cut_in asked is (inr (inr (inl way))) = way.1
  cut_in asked is (inr (inr (inr way))) = absurd (omega (arith, is, way))

  pub cut : (asked : Asked) → status ≡ 6 → Ends files out err (Some asked) status → IsCutOff files out err asked
  cut asked is ends = cut_in asked is (ways asked ends)

  -- what the known files decide is given, but for the excuses
  decides_in : (asked : Asked) (due : Ending) → Decides files.known asked due → Ways asked → Gives out err status due ⊎ IsExcused files out asked status
  decides_in asked due known (inl way) = inl (subst (Gives out err status) (way.1.due.decided due known) way.1.gives)
  decides_in asked due known (inr (inl way)) = inr (inl (way.0, (way.1.name, way.1.unreadable)))
  decides_in asked due known (inr (inr (inl way))) = inr (inr (inl (way.0, way.1.trouble)))
  decides_in asked due known (inr (inr (inr way))) = inr (inr (inr way))

  pub decides : (asked : Asked) (due : Ending) → Decides files.known asked due → Ends files out err (Some asked) status → Gives out err status due ⊎ IsExcused files out asked status
  decides asked due known ends = decides_in asked due known (ways asked ends)

  -- where nothing failed, only memory is in the way
  completes_in : (asked : Asked) → ((name : List ℕ) → IsUnreadable files asked name → ⊥) → (HasTrouble out → ⊥) → Ways asked → IsAnswered status ⊎ (status ≡ 7)
  completes_in asked readable calm (inl way) = inl way.0
  completes_in asked readable calm (inr (inl way)) = absurd (readable way.1.name way.1.unreadable)
  completes_in asked readable calm (inr (inr (inl way))) = absurd (calm way.1.trouble)
  completes_in asked readable calm (inr (inr (inr way))) = inr way

  pub completes : (asked : Asked) → ((name : List ℕ) → IsUnreadable files asked name → ⊥) → (HasTrouble out → ⊥) → Ends files out err (Some asked) status → IsAnswered status ⊎ (status ≡ 7)
  completes asked readable calm ends = completes_in asked readable calm (ways asked ends)

  not_two : (asked : Asked) → status ≡ 2 → Ways asked → ⊥
  not_two asked is (inl way) = answered-not_2 status way.0 is
  not_two asked is (inr (inl way)) = omega (arith, is, way.0)
  not_two asked is (inr (inr (inl way))) = omega (arith, is, way.0)
  not_two asked is (inr (inr (inr way))) = omega (arith, is, way)

  -- 2 comes exactly where there is no request
  pub two : (request : Option Asked) → Ends files out err request status → (status ≡ 2) ↔ (request ≡ None)
  two None ends = (λ is. refl, λ none. ends.gives.status_is ∙ ap status_of ends.caused)
  two (Some asked) ends = (λ is. absurd (not_two asked is (ways asked ends)), λ none. absurd (cc none))

  nothing : Adds out [] → out.later_written ≡ out.written
  nothing adds = adds ∙ sym (Grows-refl out.written)

  silent_at : (e : Ending) → IsSilent status → Gives out err status e → out.later_written ≡ out.written
  silent_at (printed true output) silent gives = absurd (silent-not_0 status silent gives.status_is)
  silent_at (printed false output) silent gives = absurd (silent-not_1 status silent gives.status_is)
  silent_at not_a_command silent gives = nothing gives.output
  silent_at (read_failed name) silent gives = nothing gives.output
  silent_at (file_refused name refusal) silent gives = nothing gives.output
  silent_at (graph_refused name fault) silent gives = nothing gives.output
  silent_at (write_failed valid output taken) silent gives = absurd (silent-not_6 status silent gives.status_is)
  silent_at out_of_memory silent gives = nothing gives.output

  -- at 2, 3, 4, 5, 7 and 9 nothing is written
  pub silent_written : (request : Option Asked) → IsSilent status → Ends files out err request status → out.later_written ≡ out.written
  silent_written request silent ends = silent_at ends.ending silent ends.gives
