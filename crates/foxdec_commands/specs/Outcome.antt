-- What the files of a command come to, as far as their bytes are known.
use Rattle.std.specs.Prelude.{◌≡◌, ◌⊎◌, ℕ, ◌≤◌, List, ◌∷◌, length, true, Some, None, All, IsSome}
use Rattle.std.specs.declared.option.Option.{Option}
use Rattle.wire_io.specs.Shelf.{IsAll}
use Rattle.elf_image.specs.declared.image.Image.{Image}
use Rattle.elf_image.specs.Loaded.{image_of}
use Rattle.graph_data.specs.declared.graph.Graph.{Graph}
use Rattle.graph_data.specs.WellFormed.{IsWellFormed}
use Rattle.graph_data.specs.Lookup.{function_at}
use Rattle.graph_text.specs.Text.{graph_text}
use Rattle.graph_verdict.specs.declared.verdict.Verdict.{Verdict}
use Rattle.edge_checker.specs.Breaks.{IsVerdict}
use Rattle.edge_checker.specs.Laws.{IsValid}
use Rattle.report.specs.Text.{IsReport}
use Rattle.foxdec_commands.specs.Words.{Asked, check, show, report, lift}
use Rattle.foxdec_commands.specs.declared.file_refusal.FileRefusal.{FileRefusal}
use Rattle.foxdec_commands.specs.FileRefusal.{limit, executable_refusal}
use Rattle.foxdec_commands.specs.declared.graph_fault.GraphFault.{GraphFault}
use Rattle.foxdec_commands.specs.GraphFault.{graph_refusal}
use Rattle.foxdec_commands.specs.Ending.{Ending, printed, file_refused, graph_refused}
use Rattle.foxdec_commands.specs.VerdictLine.{verdict_ending}
use Rattle.foxdec_commands.specs.Listing.{IsListing}

-- No refusal applies to the bytes, and this is their image.
pub record IsExecutable (bytes : List ℕ) (image : Image) : Type 0 where
  pub accepted : executable_refusal bytes ≡ None
  pub loaded : image ≡ image_of bytes

-- the bytes are an executable's
abbrev pub HasImage : List ℕ → Type 0
HasImage bytes = (image : Image) × IsExecutable bytes image

-- A refusal applies to the bytes of the file of this name, and the ending says which.
pub record IsRefusedFile (file bytes : List ℕ) (ending : Ending) : Type 0 where
  pub refusal : FileRefusal
  pub applies : executable_refusal bytes ≡ Some refusal
  pub says : ending ≡ file_refused file refusal

-- The bytes are the text of this well-formed graph, within the limit.
pub record IsGraphText (bytes : List ℕ) (g : Graph) : Type 0 where
  pub within : length bytes ≤ limit
  pub formed : IsWellFormed g
  pub spelled : bytes ≡ graph_text g

-- A refusal applies to the bytes of the graph of this name, and the ending says which.
pub record IsRefusedGraph (graph bytes : List ℕ) (ending : Ending) : Type 0 where
  pub fault : GraphFault
  pub applies : graph_refusal bytes ≡ Some fault
  pub says : ending ≡ graph_refused graph fault

-- a file is known, and this holds of its bytes
abbrev pub Tells : Option (List ℕ) → (List ℕ → Type 0) → Type 0
Tells known Holds = (bytes : List ℕ) × (known ≡ Some bytes) × Holds bytes

-- this holds of bytes that are the file's where it is known
abbrev pub Allows : Option (List ℕ) → (List ℕ → Type 0) → Type 0
Allows known Holds = (bytes : List ℕ) × IsAll bytes known × Holds bytes

-- the bytes are refused, or they are of a value, and what comes next holds of it
abbrev pub Takes : {X : Type 0} → (List ℕ → X → Type 0) → (List ℕ → Type 0) → (X → Type 0)
    → List ℕ → Type 0
Takes {X = X} Form Refused Next bytes = Refused bytes ⊎ ((x : X) × Form bytes x × Next x)

-- The ending is that of the verdict on the graph against the executable.
pub record GivesVerdict (image : Image) (g : Graph) (ending : Ending) : Type 0 where
  pub verdict : Verdict
  pub is : IsVerdict image g verdict
  pub says : ending ≡ verdict_ending verdict

-- The ending prints the lines of at most so many instructions from an address on.
pub record GivesListing (image : Image) (count address : ℕ) (ending : Ending) : Type 0 where
  pub lines : List ℕ
  pub are : IsListing image count address lines
  pub says : ending ≡ printed true lines

-- The ending prints the report of the graph of the executable.
pub record GivesReport (image : Image) (g : Graph) (ending : Ending) : Type 0 where
  pub text : List ℕ
  pub is : IsReport image g text
  pub says : ending ≡ printed true text

-- The bytes are the text of a well-formed graph that is valid of the executable and has a function at each of these entries.
pub record IsGraphOf (image : Image) (entries bytes : List ℕ) : Type 0 where
  pub graph : Graph
  pub formed : IsWellFormed graph
  pub valid : IsValid image graph
  pub entered : All (λ entry. IsSome (function_at graph entry)) entries
  pub spelled : bytes ≡ graph_text graph

-- The ending prints such a text.
pub record GivesGraph (image : Image) (entries : List ℕ) (ending : Ending) : Type 0 where
  pub bytes : List ℕ
  pub are : IsGraphOf image entries bytes
  pub says : ending ≡ printed true bytes

-- The ending that an executable and a graph come to: the executable is taken first, then the graph,
-- and then what both give. `Of` says of which bytes of a file it speaks: the known ones, or any
-- allowed.
abbrev pub BothComeTo : (Option (List ℕ) → (List ℕ → Type 0) → Type 0)
    → (List ℕ → Option (List ℕ)) → List ℕ → List ℕ → (Image → Graph → Ending → Type 0)
    → Ending → Type 0
BothComeTo Of known file graph Give ending =
    Of (known file) (Takes IsExecutable (λ bytes. IsRefusedFile file bytes ending) (λ image.
    Of (known graph) (Takes IsGraphText (λ bytes. IsRefusedGraph graph bytes ending) (λ g.
    Give image g ending))))

-- The ending that files come to: for `check` the verdict of an executable and a graph, for `report`
-- the report of both; `show` takes an executable, and prints its instructions, `lift` a graph of it.
abbrev pub ComesTo : (Option (List ℕ) → (List ℕ → Type 0) → Type 0)
    → (List ℕ → Option (List ℕ)) → Asked → Ending → Type 0
ComesTo Of known (check file graph) ending = BothComeTo Of known file graph GivesVerdict ending
ComesTo Of known (report file graph) ending = BothComeTo Of known file graph GivesReport ending
ComesTo Of known (show file address count) ending =
    Of (known file) (Takes IsExecutable (λ bytes. IsRefusedFile file bytes ending) (λ image.
    GivesListing image count address ending))
ComesTo Of known (lift file roots externs) ending =
    Of (known file) (Takes IsExecutable (λ bytes. IsRefusedFile file bytes ending) (λ image.
    GivesGraph image (image.entry ∷ roots) ending))

-- The one ending that known files decide; an executable has many graphs, so of `lift` they decide a refusal alone.
abbrev pub Decides : (List ℕ → Option (List ℕ)) → Asked → Ending → Type 0
Decides known (check file graph) ending = ComesTo Tells known (check file graph) ending
Decides known (report file graph) ending = ComesTo Tells known (report file graph) ending
Decides known (show file address count) ending = ComesTo Tells known (show file address count) ending
Decides known (lift file roots externs) ending = Tells (known file) (λ bytes. IsRefusedFile file bytes ending)

-- The ending is the one that the files come to, as far as they are known.
pub record IsDue (known : List ℕ → Option (List ℕ)) (asked : Asked) (ending : Ending) : Type 0 where
  -- what is known of them allows it
  pub allowed : ComesTo Allows known asked ending
  -- and where they decide an ending, it is this one
  pub decided : (other : Ending) → Decides known asked other → ending ≡ other

-- of an executable and a graph the graph is read only where the executable is not refused
abbrev pub ReadsBoth : (List ℕ → Option (List ℕ)) → List ℕ → List ℕ → List ℕ → Type 0
ReadsBoth known file graph name =
    (name ≡ file)
    ⊎ ((name ≡ graph) × Allows (known file) HasImage)

-- a command reads this file
abbrev pub Reads : (List ℕ → Option (List ℕ)) → Asked → List ℕ → Type 0
Reads known (check file graph) name = ReadsBoth known file graph name
Reads known (report file graph) name = ReadsBoth known file graph name
Reads known (show file address count) name = name ≡ file
Reads known (lift file roots externs) name = name ≡ file
