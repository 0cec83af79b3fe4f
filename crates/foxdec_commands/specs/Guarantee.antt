-- What the program guarantees of a run: the cause of each way to end, and what it leaves.
use Rattle.std.specs.Prelude.{◌≡◌, ◌⊎◌, ℕ, ◌<◌, Bool, List, ◌∷◌, length, take, Some, None}
use Rattle.std.specs.declared.option.Option.{Option}
use Rattle.elf_image.specs.declared.image.Image.{Image}
use Rattle.graph_data.specs.declared.graph.Graph.{Graph}
use Rattle.graph_runs.specs.World.{HasSafeRuns}
use Rattle.graph_verdict.specs.declared.verdict.Broken.{Broken}
use Rattle.graph_verdict.specs.declared.verdict.Verdict.TheVariants.{Invalid}
use Rattle.edge_checker.specs.Breaks.{IsVerdict}
use Rattle.report.specs.Text.{IsReport}
use Rattle.foxdec_commands.specs.declared.file_refusal.FileRefusal.{FileRefusal}
use Rattle.foxdec_commands.specs.FileRefusal.{executable_refusal}
use Rattle.foxdec_commands.specs.declared.graph_fault.GraphFault.{GraphFault}
use Rattle.foxdec_commands.specs.GraphFault.{graph_refusal}
use Rattle.foxdec_commands.specs.Words.{Asked, check, show, report, lift, TakesBoth}
use Rattle.foxdec_commands.specs.Ending.{Ending, printed, not_a_command, read_failed, file_refused, graph_refused, write_failed, out_of_memory, status_of, output_of, text_of}
use Rattle.foxdec_commands.specs.Listing.{IsListing}
use Rattle.foxdec_commands.specs.Outcome.{Allows, IsExecutable, HasImage, IsGraphText, IsGraphOf, IsDue, Reads}
use Rattle.foxdec_commands.specs.Outside.{Files, Stream, ReadFailed, HasTrouble, Adds, Says}

-- what shows that a command ended so: it is due, a read or the output failed, or nothing for want
-- of memory
abbrev pub IsShown : (Ending → Type 0) → (List ℕ → Type 0) → Type 0 → Ending → Type 0
IsShown Due Failed Trouble (printed valid output) = Due (printed valid output)
IsShown Due Failed Trouble not_a_command = ⊥
IsShown Due Failed Trouble (read_failed name) = Failed name
IsShown Due Failed Trouble (file_refused name refusal) = Due (file_refused name refusal)
IsShown Due Failed Trouble (graph_refused name fault) = Due (graph_refused name fault)
IsShown Due Failed Trouble (write_failed valid output taken) =
    Due (printed valid output) × (taken < length output) × Trouble
IsShown Due Failed Trouble out_of_memory = Unit {0}

-- a command reads a file of which a read failed
abbrev pub IsUnreadable : Files → Asked → List ℕ → Type 0
IsUnreadable files asked name = Reads files.known asked name × ReadFailed files name

-- what shows that the words ended so
abbrev pub IsCaused : Files → Type 0 → Option Asked → Ending → Type 0
IsCaused files Trouble None ending = ending ≡ not_a_command
IsCaused files Trouble (Some asked) ending =
    IsShown (IsDue files.known asked) (IsUnreadable files asked) Trouble ending

-- The status, the output and the text are those of an ending.
pub record Gives (out err : Stream) (status : ℕ) (ending : Ending) : Type 0 where
  pub status_is : status ≡ status_of ending
  pub output : Adds out (output_of ending)
  pub text : Says err (text_of ending)

-- A run ended in one of the ways, which its cause shows, and gave what is its.
pub record Ends (files : Files) (out err : Stream) (request : Option Asked) (status : ℕ)
    : Type 0 where
  pub ending : Ending
  pub caused : IsCaused files (HasTrouble out) request ending
  pub gives : Gives out err status ending

-- why a command may end otherwise than its files decide
abbrev pub IsExcused : Files → Stream → Asked → ℕ → Type 0
IsExcused files out asked status =
    ((status ≡ 3) × ((name : List ℕ) × IsUnreadable files asked name))
    ⊎ ((status ≡ 6) × HasTrouble out)
    ⊎ (status ≡ 7)

-- a run of a command that gives what its files come to
abbrev pub IsAnswered : ℕ → Type 0
IsAnswered status =
    (status ≡ 0) ⊎ (status ≡ 1) ⊎ (status ≡ 4) ⊎ (status ≡ 5)

-- a run that writes nothing
abbrev pub IsSilent : ℕ → Type 0
IsSilent status =
    (status ≡ 2) ⊎ (status ≡ 3) ⊎ (status ≡ 4) ⊎ (status ≡ 5) ⊎ (status ≡ 7)

-- What the files come to was given.
pub record GivesDue (files : Files) (out err : Stream) (asked : Asked) (status : ℕ) : Type 0 where
  pub ending : Ending
  pub due : IsDue files.known asked ending
  pub gives : Gives out err status ending

-- A read failed of a file that the command reads, and the text names it.
pub record SaysUnreadable (files : Files) (err : Stream) (asked : Asked) : Type 0 where
  pub name : List ℕ
  pub unreadable : IsUnreadable files asked name
  pub text : Says err (text_of (read_failed name))

-- the file of the executable that a command reads
abbrev pub file_of : Asked → List ℕ
file_of (check file graph) = file
file_of (show file address count) = file
file_of (report file graph) = file
file_of (lift file roots externs) = file

-- A refusal applies to the executable's file, and the text says which.
pub record SaysRefused (files : Files) (err : Stream) (asked : Asked) : Type 0 where
  pub refusal : FileRefusal
  pub applies : Allows (files.known (file_of asked)) (λ bytes.
      executable_refusal bytes ≡ Some refusal)
  pub text : Says err (text_of (file_refused (file_of asked) refusal))

-- The command takes an executable, and a graph to whose text a refusal applies, and the text on the
-- error stream says which.
pub record SaysFaulted (files : Files) (err : Stream) (asked : Asked) : Type 0 where
  pub file : List ℕ
  pub graph : List ℕ
  pub takes : TakesBoth asked file graph
  pub fault : GraphFault
  pub executable : Allows (files.known file) HasImage
  pub applies : Allows (files.known graph) (λ bytes. graph_refusal bytes ≡ Some fault)
  pub text : Says err (text_of (graph_refused graph fault))

-- The output stream had trouble, and took fewer bytes of the due output than there are.
pub record IsCutOff (files : Files) (out err : Stream) (asked : Asked) : Type 0 where
  pub valid : Bool
  pub output : List ℕ
  pub taken : ℕ
  pub due : IsDue files.known asked (printed valid output)
  pub proper : taken < length output
  pub front : Adds out (take taken output)
  pub trouble : HasTrouble out
  pub text : Says err (text_of (write_failed valid output taken))

-- two files' bytes are an executable and a graph, of which this holds
abbrev pub HoldsBetween : (Image → Graph → Type 0) → List ℕ → List ℕ → Type 0
HoldsBetween Holds file text =
    (image : Image) × (g : Graph) × IsExecutable file image × IsGraphText text g × Holds image g

-- the bytes of two files, the known ones where they are known, are such
abbrev pub AllowsBoth : (Image → Graph → Type 0) → Option (List ℕ) → Option (List ℕ) → Type 0
AllowsBoth Holds file graph = Allows file (λ bytes. Allows graph (HoldsBetween Holds bytes))

-- the bytes are of an executable whose listing was added to the output
abbrev pub AddsListing : Stream → ℕ → ℕ → List ℕ → Type 0
AddsListing out address count bytes =
    (image : Image) × IsExecutable bytes image
    × ((lines : List ℕ) × IsListing image count address lines × Adds out lines)

-- The bytes are of an executable, and the text of a well-formed graph was added to the output: it is valid of the executable,
-- has functions at the file's entry and at these, and every run of the executable that keeps what it prints is safe.
pub record AddsGraph (out : Stream) (roots bytes : List ℕ) : Type 0 where
  pub image : Image
  pub executable : IsExecutable bytes image
  pub text : List ℕ
  pub is : IsGraphOf image (image.entry ∷ roots) text
  pub safe : HasSafeRuns image is.graph
  pub added : Adds out text

-- the report of a graph of an executable was added to the output
abbrev pub AddsReport : Stream → Image → Graph → Type 0
AddsReport out image g = (text : List ℕ) × IsReport image g text × Adds out text

-- this is the first rule that a graph breaks
abbrev pub IsFirstBroken : Broken → Image → Graph → Type 0
IsFirstBroken broken image g = IsVerdict image g (Invalid broken)
