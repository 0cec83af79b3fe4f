-- The endings of `lift`, and what follows of its answers.
use Rattle.std.proofs.Common.{◌≡◌, ◌⊎◌, inl, inr, ℕ, List, ◌∷◌, true, refl, sym, ◌∙◌, ap, subst, Some, arith}
use Rattle.std.specs.declared.option.Option.{Option}
use Rattle.elf_image.specs.declared.image.Image.{Image}
use Rattle.elf_image.specs.Loaded.{image_of}
use Rattle.graph_text.specs.Text.{graph_text}
use Rattle.graph_runs.specs.World.{HasSafeRuns}
use Rattle.safe_runs.specs.Laws.{SafeLaw}
use Rattle.edge_checker.specs.Laws.{IsValid}
use Rattle.foxdec_commands.specs.Words.{lift}
use Rattle.foxdec_commands.specs.Ending.{Ending, printed, status_of, output_of}
use Rattle.foxdec_commands.specs.Outcome.{IsExecutable, IsRefusedFile, Tells, Allows, Takes, GivesGraph, ComesTo, IsDue}
use Rattle.foxdec_commands.specs.Outside.{Files, Stream, HasTrouble, Adds}
use Rattle.foxdec_commands.specs.Guarantee.{IsShown, Ends, IsExcused, IsAnswered, GivesDue, AddsGraph}
use Rattle.foxdec_commands.specs.FileResult.{IsTaken, IsRefused}
use Rattle.foxdec_commands.proofs.FileResultLemmas.{refused_allowed, refused_decided, taken_allowed, taken_decided}
use Rattle.foxdec_commands.proofs.GuaranteeLemmas.{Ways, ways, answers}
use Rattle.foxdec_commands.proofs.ImageLemmas.{image_in_form}

module _ (known : List ℕ → Option (List ℕ)) (file roots externs : List ℕ) where
  -- a known file that is refused comes to that
  told : (Next : Image → Type 0) (e : Ending) → Tells (known file) (λ bytes. IsRefusedFile file bytes e) → Tells (known file) (Takes IsExecutable (λ bytes. IsRefusedFile file bytes e) Next)
  told Next e tells = (tells.0, tells.1, inl tells.2)

  -- the executable that is to be lifted is refused
  pub lift_refused : (e : Ending) → IsRefused IsExecutable (IsRefusedFile file) (known file) e → IsDue known (lift file roots externs) e
  lift_refused e refused = record {
    allowed = refused_allowed IsExecutable (IsRefusedFile file) (known file) e refused (λ image. GivesGraph image (image.entry ∷ roots) e);
    decided = λ other tells. refused_decided IsExecutable (IsRefusedFile file) (known file) e refused (λ image. ⊥) other (told (λ image. ⊥) other tells);
  }

  -- a graph of its image
  pub lift_due : (image : Image) → IsTaken IsExecutable (IsRefusedFile file) (known file) image → (e : Ending) → GivesGraph image (image.entry ∷ roots) e → IsDue known (lift file roots externs) e
  lift_due image only e is = record {
    allowed = taken_allowed IsExecutable (IsRefusedFile file) (known file) image only e (λ image. GivesGraph image (image.entry ∷ roots) e) is;
    decided = λ other tells. taken_decided IsExecutable (IsRefusedFile file) (known file) image only e other (λ image. ⊥) (λ none. absurd none) (told (λ image. ⊥) other tells);
  }

-- the ending that prints a graph shows itself
pub graph_shown : (Due : Ending → Type 0) (Failed : List ℕ → Type 0) (image : Image) (entries : List ℕ) (e : Ending) → GivesGraph image entries e → Due e → IsShown Due Failed ⊥ e
graph_shown Due Failed image entries e is due =
    subst (IsShown Due Failed ⊥) (sym is.says) (subst Due is.says due)

module _ (files : Files) (out err : Stream) (file roots externs : List ℕ) (status : ℕ) (safe : SafeLaw) (ends : Ends files out err (Some (lift file roots externs)) status) where
  lifted_at : (e : Ending) → status_of e ≡ 0 → Adds out (output_of e) → ComesTo Allows files.known (lift file roots externs) e → Allows (files.known file) (AddsGraph out roots)
  lifted_at e zero adds (bytes, all, inl refused) = absurd (omega (arith, zero, ap status_of refused.says))
  lifted_at e zero adds (bytes, all, inr taken) =
      let image = taken.0 in
      let is = taken.2 in (
        bytes,
        all,
        record {
          image = image;
          executable = taken.1;
          text = is.bytes;
          is = is.are;
          safe = safe image is.are.graph (image_in_form bytes image taken.1) is.are.formed is.are.valid;
          added = subst (Adds out) (ap output_of is.says) adds;
        },
      )

  lifted_of : status ≡ 0 → GivesDue files out err (lift file roots externs) status → Allows (files.known file) (AddsGraph out roots)
  lifted_of zero given = lifted_at given.ending (sym given.gives.status_is ∙ zero) given.gives.output given.due.allowed

  -- 0 only with a graph of an executable
  pub only_lifted : status ≡ 0 → Allows (files.known file) (AddsGraph out roots)
  only_lifted zero = lifted_of zero (answers files out err status (lift file roots externs) (inl zero) ends)

  -- the file is this executable
  module _ (bytes : List ℕ) (image : Image) (is : files.known file ≡ Some bytes) (form : IsExecutable bytes image) where
    known_graph : Allows (files.known file) (AddsGraph out roots) → AddsGraph out roots bytes
    known_graph (other, all, adds) = subst (AddsGraph out roots) (all bytes is) adds

    printed_only : (e : Ending) → ComesTo Allows files.known (lift file roots externs) e → status_of e ≡ 0
    printed_only e (other, all, inl refused) =
        absurd (let same : other ≡ bytes = all bytes is in let accepted = subst (λ b. IsRefusedFile file b e) same refused in cc (accepted.applies, form.accepted))
    printed_only e (other, all, inr taken) = ap status_of taken.2.says

    all_lifted_in : Ways files out err status (lift file roots externs) → ((status ≡ 0) × AddsGraph out roots bytes) ⊎ IsExcused files out (lift file roots externs) status
    all_lifted_in (inl way) =
        let zero : status ≡ 0 = way.1.gives.status_is ∙ printed_only way.1.ending way.1.due.allowed in
        inl (zero, known_graph (lifted_of zero way.1))
    all_lifted_in (inr (inl way)) = inr (inl (way.0, (way.1.name, way.1.unreadable)))
    all_lifted_in (inr (inr (inl way))) = inr (inr (inl (way.0, way.1.trouble)))
    all_lifted_in (inr (inr (inr way))) = inr (inr (inr way))

    -- then 0 and a graph of it, but for the excuses
    pub all_lifted : ((status ≡ 0) × AddsGraph out roots bytes) ⊎ IsExcused files out (lift file roots externs) status
    all_lifted = all_lifted_in (ways files out err status (lift file roots externs) ends)
