-- A text that is written piece by piece, and one that is empty.
use Rattle.std.proofs.Common.{◌≡◌, inr, refl, Some, None, ℕ, ◌+◌, ◌<◌, ◌≤◌, List, [], ◌∷◌, ◌++◌, length, get_or, take, drop, sym, ◌∙◌, ap, append_assoc, add-one, take-append-drop}
use Rattle.std.proofs.lemmas.List.{append-nil, take-append-le}
use Rattle.std.proofs.lemmas.Grind.{flat_map-append}
use Rattle.std.proofs.Math.Seq.{take-suc, take-append-add}
use Rattle.std.specs.List.{flat_map}
use Rattle.std.specs.declared.option.Option.{Option}
use Rattle.wire_io.specs.Sink.{Grows}
use Rattle.foxdec_commands.specs.declared.ending.Refusal.{Refusal}
use Rattle.foxdec_commands.specs.declared.ending.Refusal.TheVariants.{NotACommand, ReadFailed, FileRefused, GraphRefused, OutOfMemory}
use Rattle.foxdec_commands.specs.Ending.{output_of}
use Rattle.foxdec_commands.specs.View.{refused_of}
use Rattle.foxdec_commands.specs.Outside.{Says}

-- a stream that was not written to has grown by nothing
pub Grows-refl : (known : Option (List ℕ)) → Grows known known []
Grows-refl None = refl
Grows-refl (Some bytes) = ap (λ (l : List ℕ). Some l) (sym (append-nil bytes))

-- and no text was said on it
pub Says-nothing : (known : Option (List ℕ)) (faults stalls : ℕ) → Says (record { written = known; later_written = known; faults = faults; later_faults = faults; stalls = stalls; later_stalls = stalls }) []
Says-nothing known faults stalls = record { front = (0, Grows-refl known); whole = inr (Grows-refl known) }

-- a refusal writes nothing to the output
pub refused_silent : (known : Option (List ℕ)) (refusal : Refusal) → Grows known known (output_of (refused_of refusal))
refused_silent known NotACommand = Grows-refl known
refused_silent known (ReadFailed name) = Grows-refl known
refused_silent known (FileRefused name refusal) = Grows-refl known
refused_silent known (GraphRefused name fault) = Grows-refl known
refused_silent known OutOfMemory = Grows-refl known

module _ {X : Type 0} (f : X → List ℕ) (xs : List X) (i : ℕ) (d : X) (at : i < length xs) where
  -- the pieces up to one and that one
  pub flat_map-take-suc : flat_map f (take (i + 1) xs) ≡ flat_map f (take i xs) ++ f (get_or xs i d)
  flat_map-take-suc =
      ap (λ (l : List X). flat_map f l) (rw add-one (take-suc xs i d at))
      ∙ flat_map-append f (take i xs) (get_or xs i d ∷ [])
      ∙ ap (λ (l : List ℕ). flat_map f (take i xs) ++ l) (append-nil (f (get_or xs i d)))

  -- the pieces up to one and the first t bytes of it are the first bytes of all
  pub take-flat_map : (t : ℕ) → t ≤ length (f (get_or xs i d)) → take (length (flat_map f (take i xs)) + t) (flat_map f xs) ≡ flat_map f (take i xs) ++ take t (f (get_or xs i d))
  take-flat_map t fits =
      let before = flat_map f (take i xs) in
      let piece = f (get_or xs i d) in
      let after = flat_map f (drop (i + 1) xs) in
      let all : flat_map f xs ≡ before ++ (piece ++ after) =
      ap (λ (l : List X). flat_map f l) (sym (take-append-drop (i + 1) xs))
      ∙ flat_map-append f (take (i + 1) xs) (drop (i + 1) xs)
      ∙ ap (λ (l : List ℕ). l ++ after) flat_map-take-suc
      ∙ append_assoc before piece after in
      ap (λ (l : List ℕ). take (length before + t) l) all
      ∙ take-append-add before (piece ++ after) t
      ∙ ap (λ (l : List ℕ). before ++ l) (take-append-le t piece after fits)
