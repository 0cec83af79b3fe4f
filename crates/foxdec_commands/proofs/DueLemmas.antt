-- The endings that are due: the executable refused, the graph refused, or what both give.
use Rattle.std.proofs.Common.{◌≡◌, inr, ℕ, ◌≤◌, List, true, sym, ap, subst, ◌∙◌, arith}
use Rattle.std.specs.declared.option.Option.{Option}
use Rattle.wire_io.specs.Counts.{Rose}
use Rattle.elf_image.specs.declared.image.Image.{Image}
use Rattle.graph_data.specs.declared.graph.Graph.{Graph}
use Rattle.graph_verdict.specs.declared.verdict.Verdict.{Verdict}
use Rattle.graph_verdict.specs.declared.verdict.Verdict.TheVariants.{Valid, Invalid}
use Rattle.instr_at.specs.At.{OneLookupLaw}
use Rattle.edge_checker.specs.Laws.{OneVerdictLaw}
use Rattle.report.specs.Text.{report_text}
use Rattle.foxdec_commands.specs.Words.{check, show, report}
use Rattle.foxdec_commands.specs.Ending.{Ending, printed}
use Rattle.foxdec_commands.specs.VerdictLine.{verdict_ending}
use Rattle.foxdec_commands.specs.Listing.{listing, IsListing}
use Rattle.foxdec_commands.specs.Outcome.{IsExecutable, IsGraphText, IsRefusedFile, IsRefusedGraph, Tells, Allows, Takes, GivesVerdict, GivesListing, GivesReport, BothComeTo, IsDue, ReadsBoth}
use Rattle.foxdec_commands.specs.Guarantee.{IsShown}
use Rattle.foxdec_commands.specs.FileResult.{IsTaken, IsRefused}
use Rattle.foxdec_commands.proofs.FileResultLemmas.{refused_allowed, refused_decided, taken_allowed, taken_decided}

-- a graph has one verdict, and an executable one listing
pub one_verdict : OneVerdictLaw → (image : Image) (g : Graph) (e other : Ending) → GivesVerdict image g e → GivesVerdict image g other → e ≡ other
one_verdict one image g e other this that =
    this.says ∙ ap verdict_ending (one image g this.verdict that.verdict this.is that.is) ∙ sym that.says

pub same_listing : OneLookupLaw → (image : Image) (count address : ℕ) (lines others : List ℕ) → IsListing image count address lines → IsListing image count address others → lines ≡ others
same_listing one image count address lines others this that =
    this.lines_are ∙ ap (λ look_up. listing look_up image count address) (one image this.look_up that.look_up this.found that.found) ∙ sym that.lines_are

one_listing : OneLookupLaw → (image : Image) (count address : ℕ) (e other : Ending) → GivesListing image count address e → GivesListing image count address other → e ≡ other
one_listing one image count address e other this that =
    this.says ∙ ap (printed true) (same_listing one image count address this.lines that.lines this.are that.are) ∙ sym that.says

-- an executable and a graph have one report
pub one_report : OneLookupLaw → (image : Image) (g : Graph) (e other : Ending) → GivesReport image g e → GivesReport image g other → e ≡ other
one_report one image g e other this that =
    let same : this.is.look_up ≡ that.is.look_up = one image this.is.look_up that.is.look_up this.is.found that.is.found in
    this.says ∙ ap (printed true) (this.is.text_is ∙ ap (λ look_up. report_text look_up image g) same ∙ sym that.is.text_is) ∙ sym that.says

-- what an executable and a graph come to, where this is what both give
module _ (known : List ℕ → Option (List ℕ)) (file graph : List ℕ) (Give : Image → Graph → Ending → Type 0) where
  -- what comes of the graph's file once the image is known
  abbrev AfterTold : Ending → Image → Type 0
  AfterTold e image = Allows (known graph) (Takes IsGraphText (λ bytes. IsRefusedGraph graph bytes e) (λ g. Give image g e))

  abbrev AfterTells : Ending → Image → Type 0
  AfterTells e image = Tells (known graph) (Takes IsGraphText (λ bytes. IsRefusedGraph graph bytes e) (λ g. Give image g e))

  -- the ending is the one that they come to
  abbrev pub IsDueOfBoth : Ending → Type 0
  IsDueOfBoth e = BothComeTo Allows known file graph Give e × ((other : Ending) → BothComeTo Tells known file graph Give other → e ≡ other)

  -- the executable is refused
  pub file_due : (e : Ending) → IsRefused IsExecutable (IsRefusedFile file) (known file) e → IsDueOfBoth e
  file_due e refused = (
    refused_allowed IsExecutable (IsRefusedFile file) (known file) e refused (AfterTold e),
    λ other. refused_decided IsExecutable (IsRefusedFile file) (known file) e refused (AfterTells other) other,
  )

  module _ (image : Image) (only : IsTaken IsExecutable (IsRefusedFile file) (known file) image) where
    -- the graph is refused
    pub graph_due : (e : Ending) → IsRefused IsGraphText (IsRefusedGraph graph) (known graph) e → IsDueOfBoth e
    graph_due e refused = (
      taken_allowed IsExecutable (IsRefusedFile file) (known file) image only e (AfterTold e)
          (refused_allowed IsGraphText (IsRefusedGraph graph) (known graph) e refused (λ g. Give image g e)),
      λ other. taken_decided IsExecutable (IsRefusedFile file) (known file) image only e other (AfterTells other)
          (refused_decided IsGraphText (IsRefusedGraph graph) (known graph) e refused (λ g. Give image g other) other),
    )

    -- what both give, where it is one
    pub both_due : ((g : Graph) (e other : Ending) → Give image g e → Give image g other → e ≡ other) → (g : Graph) → IsTaken IsGraphText (IsRefusedGraph graph) (known graph) g → (e : Ending) → Give image g e → IsDueOfBoth e
    both_due one g only_g e is = (
      taken_allowed IsExecutable (IsRefusedFile file) (known file) image only e (AfterTold e)
          (taken_allowed IsGraphText (IsRefusedGraph graph) (known graph) g only_g e (λ h. Give image h e) is),
      λ other. taken_decided IsExecutable (IsRefusedFile file) (known file) image only e other (AfterTells other)
          (taken_decided IsGraphText (IsRefusedGraph graph) (known graph) g only_g e other (λ h. Give image h other) (λ came. one g e other is came)),
    )

    -- the graph is read after the executable
    pub graph_unreadable : (before mid now : List ℕ → ℕ) → ((name : List ℕ) → before name ≤ mid name) → (name : List ℕ) → (name ≡ graph) × Rose (mid name) (now name)
        → ReadsBoth known file graph name × Rose (before name) (now name)
    graph_unreadable before mid now rises name failed = (
      inr (failed.0, (only.0, only.1, (image, only.2.form))),
      omega (arith, rises name, failed.1),
    )

-- so it is for `check` and for `report`
pub check_due : (known : List ℕ → Option (List ℕ)) (file graph : List ℕ) (e : Ending) → IsDueOfBoth known file graph GivesVerdict e → IsDue known (check file graph) e
check_due known file graph e due = record { allowed = due.0; decided = due.1 }

pub report_due : (known : List ℕ → Option (List ℕ)) (file graph : List ℕ) (e : Ending) → IsDueOfBoth known file graph GivesReport e → IsDue known (report file graph) e
report_due known file graph e due = record { allowed = due.0; decided = due.1 }

module _ (known : List ℕ → Option (List ℕ)) (file : List ℕ) (address count : ℕ) where
  -- the executable that is to be shown is refused
  pub show_refused : (e : Ending) → IsRefused IsExecutable (IsRefusedFile file) (known file) e → IsDue known (show file address count) e
  show_refused e refused = record {
    allowed = refused_allowed IsExecutable (IsRefusedFile file) (known file) e refused (λ image. GivesListing image count address e);
    decided = λ other. refused_decided IsExecutable (IsRefusedFile file) (known file) e refused (λ image. GivesListing image count address other) other;
  }

  -- the listing of its image
  pub listing_due : OneLookupLaw → (image : Image) → IsTaken IsExecutable (IsRefusedFile file) (known file) image → (e : Ending) → GivesListing image count address e → IsDue known (show file address count) e
  listing_due one image only e is = record {
    allowed = taken_allowed IsExecutable (IsRefusedFile file) (known file) image only e (λ image. GivesListing image count address e) is;
    decided = λ other. taken_decided IsExecutable (IsRefusedFile file) (known file) image only e other (λ image. GivesListing image count address other) (λ came. one_listing one image count address e other is came);
  }

-- the ending of a verdict shows itself
shown_by : (Due : Ending → Type 0) (Failed : List ℕ → Type 0) (v : Verdict) → Due (verdict_ending v) → IsShown Due Failed ⊥ (verdict_ending v)
shown_by Due Failed Valid due = due
shown_by Due Failed (Invalid broken) due = due

pub verdict_shown : (Due : Ending → Type 0) (Failed : List ℕ → Type 0) (image : Image) (g : Graph) (e : Ending) → GivesVerdict image g e → Due e → IsShown Due Failed ⊥ e
verdict_shown Due Failed image g e is due =
    subst (IsShown Due Failed ⊥) (sym is.says) (shown_by Due Failed is.verdict (subst Due is.says due))

-- and so does a listing
pub listing_shown : (Due : Ending → Type 0) (Failed : List ℕ → Type 0) (image : Image) (count address : ℕ) (e : Ending) → GivesListing image count address e → Due e → IsShown Due Failed ⊥ e
listing_shown Due Failed image count address e is due =
    subst (IsShown Due Failed ⊥) (sym is.says) (subst Due is.says due)

-- and a report
pub report_shown : (Due : Ending → Type 0) (Failed : List ℕ → Type 0) (image : Image) (g : Graph) (e : Ending) → GivesReport image g e → Due e → IsShown Due Failed ⊥ e
report_shown Due Failed image g e is due =
    subst (IsShown Due Failed ⊥) (sym is.says) (subst Due is.says due)
