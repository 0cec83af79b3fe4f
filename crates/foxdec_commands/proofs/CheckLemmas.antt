-- What follows of an answer: refused files, valid graphs, the first broken rule, reports and listings.
use Rattle.std.proofs.Common.{◌≡◌, ◌⊎◌, true, inl, inr, ℕ, ◌<◌, List, refl, sym, ◌∙◌, ap, subst, Some, arith}
use Rattle.std.specs.declared.option.Option.{Option}
use Rattle.wire_io.specs.Shelf.{IsAll}
use Rattle.elf_image.specs.declared.image.Image.{Image}
use Rattle.graph_data.specs.declared.graph.Graph.{Graph}
use Rattle.graph_verdict.specs.declared.verdict.Broken.{Broken}
use Rattle.graph_verdict.specs.declared.verdict.Verdict.{Verdict}
use Rattle.graph_verdict.specs.declared.verdict.Verdict.TheVariants.{Valid, Invalid}
use Rattle.elf_image.specs.Loaded.{image_of}
use Rattle.graph_data.specs.WellFormed.{IsWellFormed}
use Rattle.graph_text.specs.Text.{graph_text}
use Rattle.graph_runs.specs.World.{HasSafeRuns}
use Rattle.safe_runs.specs.Laws.{SafeLaw}
use Rattle.edge_checker.specs.Breaks.{IsVerdict}
use Rattle.edge_checker.specs.Laws.{IsValid, ValidLaw}
use Rattle.report.specs.Text.{IsReport}
use Rattle.foxdec_commands.specs.declared.file_refusal.FileRefusal.{FileRefusal}
use Rattle.foxdec_commands.specs.FileRefusal.{executable_refusal}
use Rattle.foxdec_commands.specs.Words.{Asked, check, show, report, lift}
use Rattle.foxdec_commands.specs.Ending.{Ending, printed, file_refused, status_of, output_of, text_of}
use Rattle.foxdec_commands.specs.Listing.{IsListing}
use Rattle.foxdec_commands.specs.VerdictLine.{verdict_ending, valid_line, invalid_line}
use Rattle.foxdec_commands.specs.Outcome.{IsExecutable, IsGraphText, IsRefusedFile, IsRefusedGraph, Allows, Takes, GivesVerdict, GivesReport, BothComeTo, ComesTo, Decides}
use Rattle.foxdec_commands.specs.Outside.{Files, Stream, Adds, Says}
use Rattle.foxdec_commands.specs.Guarantee.{Gives, Ends, IsExcused, GivesDue, file_of, SaysRefused, AddsListing, HoldsBetween, AllowsBoth, AddsReport, IsFirstBroken}
use Rattle.foxdec_commands.proofs.GuaranteeLemmas.{answers, decides}
use Rattle.foxdec_commands.proofs.ImageLemmas.{image_in_form}

-- the verdict of an ending with status 0
judged-0 : (v : Verdict) → status_of (verdict_ending v) ≡ 0 → v ≡ Valid
judged-0 Valid is = refl
judged-0 (Invalid broken) is = absurd (omega (arith, is))

-- and with status 1
judged-1 : (v : Verdict) → status_of (verdict_ending v) ≡ 1 → (broken : Broken) × (v ≡ Invalid broken)
judged-1 Valid is = absurd (omega (arith, is))
judged-1 (Invalid broken) is = (broken, refl)

-- no verdict has status 4 or 5
pub judged-not_4_5 : (v : Verdict) → (status_of (verdict_ending v) ≡ 4) ⊎ (status_of (verdict_ending v) ≡ 5) → ⊥
judged-not_4_5 Valid is = grind (arith, is)
judged-not_4_5 (Invalid broken) is = grind (arith, is)

-- an ending with status 4 of `check` is a refusal of the executable
module _ (known : List ℕ → Option (List ℕ)) (e : Ending) (four : status_of e ≡ 4) where
  graph_passed : (graph : List ℕ) (Give : Graph → Type 0) → ((g : Graph) → Give g → ⊥) → Allows (known graph) (Takes IsGraphText (λ bytes. IsRefusedGraph graph bytes e) Give) → ⊥
  graph_passed graph Give none (text, all, inl refused) = omega (arith, four, ap status_of refused.says)
  graph_passed graph Give none (text, all, inr taken) = none taken.0 taken.2

  -- of an executable and a graph too
  refused_of_both : (file graph : List ℕ) (Give : Image → Graph → Ending → Type 0) → ((image : Image) (g : Graph) → Give image g e → ⊥) → BothComeTo Allows known file graph Give e → Allows (known file) (λ bytes. IsRefusedFile file bytes e)
  refused_of_both file graph Give none (bytes, all, inl refused) = (bytes, all, refused)
  refused_of_both file graph Give none (bytes, all, inr taken) = absurd (graph_passed graph (λ g. Give taken.0 g e) (none taken.0) taken.2)

  pub refused_file : (asked : Asked) → ComesTo Allows known asked e → Allows (known (file_of asked)) (λ bytes. IsRefusedFile (file_of asked) bytes e)
  refused_file (check file graph) came =
      refused_of_both file graph GivesVerdict (λ image g is. judged-not_4_5 is.verdict (inl (sym (ap status_of is.says) ∙ four))) came
  refused_file (report file graph) came =
      refused_of_both file graph GivesReport (λ image g is. omega (arith, four, ap status_of is.says)) came
  refused_file (show file address count) (bytes, all, inl refused) = (bytes, all, refused)
  refused_file (show file address count) (bytes, all, inr taken) = absurd (omega (arith, four, ap status_of taken.2.says))
  refused_file (lift file roots externs) (bytes, all, inl refused) = (bytes, all, refused)
  refused_file (lift file roots externs) (bytes, all, inr taken) = absurd (omega (arith, four, ap status_of taken.2.says))

-- and the refusal of a known file decides the ending
pub refusal_told : (known : List ℕ → Option (List ℕ)) (asked : Asked) (bytes : List ℕ) (refusal : FileRefusal) → known (file_of asked) ≡ Some bytes → executable_refusal bytes ≡ Some refusal → Decides known asked (file_refused (file_of asked) refusal)
refusal_told known (check file graph) bytes refusal is applies = (bytes, is, inl (record { refusal = refusal; applies = applies; says = refl }))
refusal_told known (report file graph) bytes refusal is applies = (bytes, is, inl (record { refusal = refusal; applies = applies; says = refl }))
refusal_told known (show file address count) bytes refusal is applies = (bytes, is, inl (record { refusal = refusal; applies = applies; says = refl }))
refusal_told known (lift file roots externs) bytes refusal is applies = (bytes, is, record { refusal = refusal; applies = applies; says = refl })

module _ (files : Files) (out err : Stream) (asked : Asked) (status : ℕ) (ends : Ends files out err (Some asked) status) where
  -- 4 only where the executable is refused, as the text says
  says_refused : status ≡ 4 → GivesDue files out err asked status → SaysRefused files err asked
  says_refused four given =
      let e = given.ending in
      let refused = refused_file files.known e (sym given.gives.status_is ∙ four) asked given.due.allowed in
      let why = refused.2 in record {
        refusal = why.refusal;
        applies = (refused.0, refused.1, why.applies);
        text = subst (λ (d : Ending). Says err (text_of d)) why.says given.gives.text;
      }

  pub only_refused : status ≡ 4 → SaysRefused files err asked
  only_refused four = says_refused four (answers files out err status asked (inr (inr (inl four))) ends)

  given_refused : (refusal : FileRefusal) → Gives out err status (file_refused (file_of asked) refusal) ⊎ IsExcused files out asked status
      → ((status ≡ 4) × Says err (text_of (file_refused (file_of asked) refusal))) ⊎ IsExcused files out asked status
  given_refused refusal (inl gives) = inl (gives.status_is, gives.text)
  given_refused refusal (inr excused) = inr excused

  -- everywhere it is refused, 4 and the text
  pub all_refused : (bytes : List ℕ) (refusal : FileRefusal) → files.known (file_of asked) ≡ Some bytes → executable_refusal bytes ≡ Some refusal
      → ((status ≡ 4) × Says err (text_of (file_refused (file_of asked) refusal))) ⊎ IsExcused files out asked status
  all_refused bytes refusal is applies =
      given_refused refusal (decides files out err status asked (file_refused (file_of asked) refusal) (refusal_told files.known asked bytes refusal is applies) ends)

module _ (known : List ℕ → Option (List ℕ)) (file graph : List ℕ) (Give : Image → Graph → Ending → Type 0) (e : Ending) (answer : status_of e < 2) where
  -- an ending that is no refusal is what both give
  abbrev Judges : Image → Graph → Type 0
  Judges image g = Give image g e

  graph_at : (image : Image) (bytes text : List ℕ) → IsAll text (known graph) → IsExecutable bytes image
      → Takes IsGraphText (λ b. IsRefusedGraph graph b e) (Judges image) text → Allows (known graph) (HoldsBetween Judges bytes)
  graph_at image bytes text all form (inl refused) = absurd (omega (arith, answer, ap status_of refused.says))
  graph_at image bytes text all form (inr taken) = (text, all, (image, taken.0, form, taken.1, taken.2))

  file_at : (bytes : List ℕ) → IsAll bytes (known file)
      → Takes IsExecutable (λ b. IsRefusedFile file b e) (λ image. Allows (known graph) (Takes IsGraphText (λ b. IsRefusedGraph graph b e) (Judges image))) bytes
      → AllowsBoth Judges (known file) (known graph)
  file_at bytes all (inl refused) = absurd (omega (arith, answer, ap status_of refused.says))
  file_at bytes all (inr taken) = (bytes, all, graph_at taken.0 bytes taken.2.0 taken.2.1 taken.1 taken.2.2)

  pub judges : BothComeTo Allows known file graph Give e → AllowsBoth Judges (known file) (known graph)
  judges came = file_at came.0 came.1 came.2

module _ (files : Files) (out err : Stream) (file graph : List ℕ) (status : ℕ) (ends : Ends files out err (Some (check file graph)) status) where
  -- 0 only where the graph is valid, and the line is written
  valid_of : ValidLaw → status ≡ 0 → GivesDue files out err (check file graph) status → AllowsBoth IsValid (files.known file) (files.known graph) × Adds out valid_line
  valid_of law zero given =
      let e = given.ending in
      let is_zero : status_of e ≡ 0 = sym given.gives.status_is ∙ zero in
      let both = judges files.known file graph GivesVerdict e (omega (arith, is_zero)) given.due.allowed in
      let of = both.2.2 in
      let v = of.4.verdict in
      let valid : v ≡ Valid = judged-0 v (ap status_of (sym of.4.says) ∙ is_zero) in (
        (both.0, both.1, (both.2.0, both.2.1, (of.0, of.1, of.2, of.3, (law of.0 of.1 of.3.formed).0 (subst (IsVerdict of.0 of.1) valid of.4.is)))),
        subst (Adds out) (ap output_of of.4.says ∙ ap (λ u. output_of (verdict_ending u)) valid) given.gives.output,
      )

  pub only_valid : ValidLaw → status ≡ 0 → AllowsBoth IsValid (files.known file) (files.known graph) × Adds out valid_line
  only_valid law zero = valid_of law zero (answers files out err status (check file graph) (inl zero) ends)

  -- and then every run of the two files is safe
  pub only_safe :
      ValidLaw → SafeLaw → ((g h : Graph) → IsWellFormed g → IsWellFormed h → graph_text g ≡ graph_text h → g ≡ h) → status ≡ 0 →
      (bytes text : List ℕ) (image : Image) (g : Graph) → files.known file ≡ Some bytes → files.known graph ≡ Some text → IsExecutable bytes image → IsGraphText text g → HasSafeRuns image g
  only_safe law theorem one_text zero bytes text image g file_is graph_is executable spelled =
      let both = (only_valid law zero).0 in
      let of = both.2.2 in
      let file_same : both.0 ≡ bytes = both.1 bytes file_is in
      let image_same : of.0 ≡ image = of.2.loaded ∙ ap image_of file_same ∙ sym executable.loaded in
      let text_same : both.2.0 ≡ text = both.2.1 text graph_is in
      let graph_same : of.1 ≡ g = one_text of.1 g of.3.formed spelled.formed (sym of.3.spelled ∙ text_same ∙ spelled.spelled) in
      subst (λ (i : Image). HasSafeRuns i g) image_same (subst (λ (h : Graph). HasSafeRuns of.0 h) graph_same (theorem of.0 of.1 (image_in_form both.0 of.0 of.2) of.3.formed of.4))

  -- 1 only with the first broken rule
  broken_of : status ≡ 1 → GivesDue files out err (check file graph) status
      → (broken : Broken) × AllowsBoth (IsFirstBroken broken) (files.known file) (files.known graph) × Adds out (invalid_line broken)
  broken_of one given =
      let e = given.ending in
      let is_one : status_of e ≡ 1 = sym given.gives.status_is ∙ one in
      let both = judges files.known file graph GivesVerdict e (omega (arith, is_one)) given.due.allowed in
      let of = both.2.2 in
      let v = of.4.verdict in
      let broken = judged-1 v (ap status_of (sym of.4.says) ∙ is_one) in (
        broken.0,
        (both.0, both.1, (both.2.0, both.2.1, (of.0, of.1, of.2, of.3, subst (IsVerdict of.0 of.1) broken.1 of.4.is))),
        subst (Adds out) (ap output_of of.4.says ∙ ap (λ u. output_of (verdict_ending u)) broken.1) given.gives.output,
      )

  pub only_broken : status ≡ 1 → (broken : Broken) × AllowsBoth (IsFirstBroken broken) (files.known file) (files.known graph) × Adds out (invalid_line broken)
  only_broken one = broken_of one (answers files out err status (check file graph) (inr (inl one)) ends)

  -- the verdict of known files is given, but for the excuses
  verdict_given : (bytes text : List ℕ) → files.known file ≡ Some bytes → files.known graph ≡ Some text → (v : Verdict) → HoldsBetween (λ image g. IsVerdict image g v) bytes text
      → Gives out err status (verdict_ending v) ⊎ IsExcused files out (check file graph) status
  verdict_given bytes text file_is graph_is v of =
      decides files out err status (check file graph) (verdict_ending v)
      (bytes, file_is, inr (of.0, of.2, (text, graph_is, inr (of.1, of.3, record { verdict = v; is = of.4; says = refl })))) ends

  valid_given : Gives out err status (verdict_ending Valid) ⊎ IsExcused files out (check file graph) status → ((status ≡ 0) × Adds out valid_line) ⊎ IsExcused files out (check file graph) status
  valid_given (inl gives) = inl (gives.status_is, gives.output)
  valid_given (inr excused) = inr excused

  -- everywhere the graph is valid, 0 and the line
  pub all_valid : ValidLaw → (bytes text : List ℕ) → files.known file ≡ Some bytes → files.known graph ≡ Some text → HoldsBetween IsValid bytes text
      → ((status ≡ 0) × Adds out valid_line) ⊎ IsExcused files out (check file graph) status
  all_valid law bytes text file_is graph_is of =
      valid_given (verdict_given bytes text file_is graph_is Valid (of.0, of.1, of.2, of.3, (law of.0 of.1 of.3.formed).1 of.4))

  broken_given : (broken : Broken) → Gives out err status (verdict_ending (Invalid broken)) ⊎ IsExcused files out (check file graph) status
      → ((status ≡ 1) × Adds out (invalid_line broken)) ⊎ IsExcused files out (check file graph) status
  broken_given broken (inl gives) = inl (gives.status_is, gives.output)
  broken_given broken (inr excused) = inr excused

  -- everywhere a rule is broken, 1 and the line of the first
  pub all_broken : (bytes text : List ℕ) → files.known file ≡ Some bytes → files.known graph ≡ Some text → (broken : Broken) → HoldsBetween (IsFirstBroken broken) bytes text
      → ((status ≡ 1) × Adds out (invalid_line broken)) ⊎ IsExcused files out (check file graph) status
  all_broken bytes text file_is graph_is broken of = broken_given broken (verdict_given bytes text file_is graph_is (Invalid broken) of)

module _ (files : Files) (out err : Stream) (file graph : List ℕ) (status : ℕ) (ends : Ends files out err (Some (report file graph)) status) where
  reported_of : status ≡ 0 → GivesDue files out err (report file graph) status → AllowsBoth (AddsReport out) (files.known file) (files.known graph)
  reported_of zero given =
      let e = given.ending in
      let is_zero : status_of e ≡ 0 = sym given.gives.status_is ∙ zero in
      let both = judges files.known file graph GivesReport e (omega (arith, is_zero)) given.due.allowed in
      let of = both.2.2 in
      (both.0, both.1, (both.2.0, both.2.1, (of.0, of.1, of.2, of.3, (of.4.text, of.4.is, subst (Adds out) (ap output_of of.4.says) given.gives.output))))

  -- 0 only with the report of both
  pub only_reported : status ≡ 0 → AllowsBoth (AddsReport out) (files.known file) (files.known graph)
  only_reported zero = reported_of zero (answers files out err status (report file graph) (inl zero) ends)

  report_given : (lines : List ℕ) → Gives out err status (printed true lines) ⊎ IsExcused files out (report file graph) status
      → ((status ≡ 0) × Adds out lines) ⊎ IsExcused files out (report file graph) status
  report_given lines (inl gives) = inl (gives.status_is, gives.output)
  report_given lines (inr excused) = inr excused

  -- everywhere there is one, 0 and the report
  pub all_reported : (bytes text lines : List ℕ) → files.known file ≡ Some bytes → files.known graph ≡ Some text → HoldsBetween (λ image g. IsReport image g lines) bytes text
      → ((status ≡ 0) × Adds out lines) ⊎ IsExcused files out (report file graph) status
  all_reported bytes text lines file_is graph_is of =
      report_given lines (decides files out err status (report file graph) (printed true lines)
      (bytes, file_is, inr (of.0, of.2, (text, graph_is, inr (of.1, of.3, record { text = lines; is = of.4; says = refl })))) ends)

module _ (files : Files) (out err : Stream) (file : List ℕ) (address count status : ℕ) (ends : Ends files out err (Some (show file address count)) status) where
  shown_at : (e : Ending) → status_of e ≡ 0 → Adds out (output_of e) → ComesTo Allows files.known (show file address count) e → Allows (files.known file) (AddsListing out address count)
  shown_at e zero adds (bytes, all, inl refused) = absurd (omega (arith, zero, ap status_of refused.says))
  shown_at e zero adds (bytes, all, inr taken) =
      (bytes, all, (taken.0, taken.1, (taken.2.lines, taken.2.are, subst (Adds out) (ap output_of taken.2.says) adds)))

  shown_of : status ≡ 0 → GivesDue files out err (show file address count) status → Allows (files.known file) (AddsListing out address count)
  shown_of zero given = shown_at given.ending (sym given.gives.status_is ∙ zero) given.gives.output given.due.allowed

  -- 0 only with the listing of an executable
  pub only_shown : status ≡ 0 → Allows (files.known file) (AddsListing out address count)
  only_shown zero = shown_of zero (answers files out err status (show file address count) (inl zero) ends)

  listing_given : (lines : List ℕ) → Gives out err status (printed true lines) ⊎ IsExcused files out (show file address count) status
      → ((status ≡ 0) × Adds out lines) ⊎ IsExcused files out (show file address count) status
  listing_given lines (inl gives) = inl (gives.status_is, gives.output)
  listing_given lines (inr excused) = inr excused

  -- everywhere the file is one, 0 and the listing
  pub all_shown : (bytes lines : List ℕ) (image : Image) → files.known file ≡ Some bytes → IsExecutable bytes image → IsListing image count address lines
      → ((status ≡ 0) × Adds out lines) ⊎ IsExcused files out (show file address count) status
  all_shown bytes lines image is form are =
      listing_given lines (decides files out err status (show file address count) (printed true lines) (bytes, is, inr (image, form, record { lines = lines; are = are; says = refl })) ends)
