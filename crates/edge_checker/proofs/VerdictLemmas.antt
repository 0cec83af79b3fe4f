-- What holds of the verdict that is given.
use Rattle.std.proofs.Common.{◌≡◌, ◌↔◌, ◌⊎◌, inl, inr, ℕ, List, sym, ◌∙◌, subst}
use Rattle.elf_image.specs.declared.image.Image.{Image}
use Rattle.elf_image.specs.Image.{IsImage}
use Rattle.graph_data.specs.declared.graph.Function.{Function}
use Rattle.graph_data.specs.declared.graph.Graph.{Graph}
use Rattle.graph_data.specs.WellFormed.{IsFunction, IsWellFormed}
use Rattle.graph_verdict.specs.declared.verdict.Verdict.{Verdict}
use Rattle.graph_verdict.specs.declared.verdict.Verdict.TheVariants.{Valid}
use Rattle.instr_at.specs.At.{instr_at, InstrAtLaw}
use Rattle.graph_runs.specs.World.{HasSafeRuns}
use Rattle.safe_runs.specs.Laws.{SafeLaw}
use Rattle.edge_checker.specs.Decisions.{entries_of}
use Rattle.edge_checker.specs.Breaks.{first, function_breaks, breaks_of, verdict_from, IsVerdict, IsFunctionVerdict}
use Rattle.edge_checker.specs.Laws.{IsValid, HoldsIn, OthersHold}
use Rattle.edge_checker.proofs.ValidLemmas.{valid_exactly, function_exactly}

module _ (found : InstrAtLaw) (image : Image) (v : Verdict) where
  module _ (g : Graph) (well : IsWellFormed g) (is : v ≡ verdict_from (first (breaks_of image (instr_at image) g))) where
    pub exact : IsVerdict image g v
    exact = record { look_up = instr_at image; found = found image; verdict_is = is }

    pub valid : (v ≡ Valid) ↔ IsValid image g
    valid =
        let holds = valid_exactly found image g well in
        (λ e. holds.0 (sym is ∙ e), λ h. is ∙ holds.1 h)

    pub safe : SafeLaw → IsImage image → v ≡ Valid → HasSafeRuns image g
    safe theorem formed e = theorem image g formed well (valid.0 e)

  module _ (f : Function) (formed : IsFunction f) (entries : List ℕ) (is : v ≡ verdict_from (first (function_breaks image (instr_at image) entries f))) where
    pub function_exact : IsFunctionVerdict image entries f v
    function_exact = record { look_up = instr_at image; found = found image; verdict_is = is }

    pub function_valid : (g : Graph) → IsWellFormed g → entries_of g ≡ entries → (v ≡ Valid) ↔ HoldsIn image g f
    function_valid g well same =
        let holds = subst (λ es. (verdict_from (first (function_breaks image (instr_at image) es f)) ≡ Valid) ↔ HoldsIn image g f) same (function_exactly found image g well f formed) in
        (λ e. holds.0 (sym is ∙ e), λ h. is ∙ holds.1 h)

    -- a function that is this one, or another that holds
    this_or : (g : Graph) → HoldsIn image g f → (h : Function) → (h ≡ f) ⊎ HoldsIn image g h → HoldsIn image g h
    this_or g holds h (inl same) = subst (HoldsIn image g) (sym same) holds
    this_or g holds h (inr other) = other

    pub function_safe : SafeLaw → IsImage image → v ≡ Valid → (g : Graph) → IsWellFormed g → entries_of g ≡ entries → OthersHold image g f → HasSafeRuns image g
    function_safe theorem shape e g well same others =
        theorem image g shape well (λ k d lt. this_or g ((function_valid g well same).0 e) _ (others k d lt))
