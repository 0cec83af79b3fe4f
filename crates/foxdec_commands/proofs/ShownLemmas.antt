-- How what shows an ending is carried from one step of a command to the whole of it.
use Rattle.std.proofs.Common.{⊎_elim, ℕ, ◌<◌, List, length, Bool, sym, subst, Result, Ok, Err, IfErr, Some, None}
use Rattle.std.specs.declared.option.Option.{Option}
use Rattle.foxdec_commands.specs.Words.{Asked}
use Rattle.foxdec_commands.specs.Ending.{Ending, printed, not_a_command, read_failed, file_refused, graph_refused, write_failed, out_of_memory}
use Rattle.foxdec_commands.specs.Outcome.{IsDue}
use Rattle.foxdec_commands.specs.Outside.{Files}
use Rattle.foxdec_commands.specs.Guarantee.{IsShown, IsUnreadable, IsCaused}
use Rattle.foxdec_commands.specs.FileResult.{IsOrMemory}

-- wider causes show it too
pub IsShown-map : (D E : Ending → Type 0) (F G : List ℕ → Type 0) (T U : Type 0) → ((e : Ending) → D e → E e) → ((name : List ℕ) → F name → G name) → (T → U) → (e : Ending) → IsShown D F T e → IsShown E G U e
IsShown-map D E F G T U d f t (printed valid output) c = d (printed valid output) c
IsShown-map D E F G T U d f t not_a_command c = c
IsShown-map D E F G T U d f t (read_failed name) c = f name c
IsShown-map D E F G T U d f t (file_refused name refusal) c = d (file_refused name refusal) c
IsShown-map D E F G T U d f t (graph_refused name fault) c = d (graph_refused name fault) c
IsShown-map D E F G T U d f t (write_failed valid output taken) c = (d (printed valid output) c.0, c.1, t c.2)
IsShown-map D E F G T U d f t out_of_memory c = c

-- a fact of an error, through a fact that implies it
pub IfErr-map : {A E : Type 0} (P Q : E → Type 0) → ((e : E) → P e → Q e) → (r : Result A E) → IfErr r P → IfErr r Q
IfErr-map P Q h (Ok a) c = c
IfErr-map P Q h (Err e) c = h e c

-- an ending that is due comes, or memory runs out
pub IsShown-or_memory : (D : Ending → Type 0) (F : List ℕ → Type 0) (T : Type 0) (Due : Ending → Type 0) → ((due : Ending) → Due due → IsShown D F T due) → (e : Ending) → IsOrMemory Due e → IsShown D F T e
IsShown-or_memory D F T Due shown e is =
    ⊎_elim (λ due. shown e due) (λ none. subst (IsShown D F T) (sym none) tt) is

module _ (files : Files) (U : Type 0) where
  -- nothing was written
  pub unwritten : (request : Option Asked) (e : Ending) → IsCaused files ⊥ request e → IsCaused files U request e
  unwritten None e c = c
  unwritten (Some asked) e c = IsShown-map (IsDue files.known asked) (IsDue files.known asked) (IsUnreadable files asked) (IsUnreadable files asked) ⊥ U (λ e d. d) (λ name f. f) (λ none. absurd none) e c

  -- an output was cut off
  pub cut_off : (request : Option Asked) (valid : Bool) (output : List ℕ) (taken : ℕ) → IsCaused files ⊥ request (printed valid output) → taken < length output → U
      → IsCaused files U request (write_failed valid output taken)
  cut_off None valid output taken c short u = absurd (cc c)
  cut_off (Some asked) valid output taken c short u = (c, short, u)
