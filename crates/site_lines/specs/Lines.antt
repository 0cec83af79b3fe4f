-- What a site says beside its vertices, and the cases of a vertex there.
use Rattle.std.specs.Prelude.{ℕ, if◌then◌else◌, List, [], Option, Some, None}
use Rattle.elf_image.specs.declared.image.Image.{Image}
use Rattle.predicates.specs.Predicate.{Predicate}
use Rattle.predicates.specs.Kinds.{has_edges, may_keep}
use Rattle.predicates.specs.declared.site.Kind.{Kind}
use Rattle.x86_instr.specs.declared.instr.Instr.{Instr}
use Rattle.instr_at.specs.At.{instr_at}
use Rattle.step_rules.specs.View.{View}
use Rattle.step_rules.specs.Cases.{Case, cases}
use Rattle.site_lines.specs.declared.lines.Lines.{Lines}
use Rattle.site_lines.specs.Subject.{Subject, bare}
use Rattle.site_lines.specs.Pairs.{pairs_of}
use Rattle.site_lines.specs.Saved.{saved_of}
use Rattle.site_lines.specs.Kinds.{kind_at}

-- a kind alone
abbrev pub kind_alone : Kind → Lines
kind_alone kind = record { kind = kind; seps = []; keeps = [] }

-- what the step rules know of a site by its lines
abbrev pub view_with : Image → Lines → View
view_with image lines = record { known = record (bare image) { seps = lines.seps }; fork = None; keeps = lines.keeps }

-- the lines of a kind without regions that a callee keeps
abbrev pub with_pairs : Image → Kind → Instr → List Predicate → Lines
with_pairs image kind i preds = record (kind_alone kind) { seps = pairs_of (bare image) i preds }

-- the same with those regions, which depend on the pairs
abbrev pub with_saved : Image → Lines → Instr → List Predicate → Lines
with_saved image lines i preds =
    record lines { keeps = if may_keep lines.kind then saved_of (view_with image lines) i preds else [] }

-- the lines of a kind at an instruction, from what is known at the vertices
abbrev pub lines_by : Image → Kind → Instr → List Predicate → Lines
lines_by image kind i preds =
    if has_edges kind then with_saved image (with_pairs image kind i preds) i preds else kind_alone kind

-- the same, where there may be no instruction
abbrev pub lines_here : Image → Kind → Option Instr → List Predicate → Lines
lines_here image kind None preds = kind_alone kind
lines_here image kind (Some i) preds = lines_by image kind i preds

-- the lines at an address
abbrev pub lines_at : Subject → ℕ → List Predicate → Lines
lines_at s address preds =
    let i = instr_at s.image address in lines_here s.image (kind_at s address i preds) i preds

-- the cases of a vertex at an instruction; none at a kind without edges
abbrev pub cases_here : Image → Lines → Option Instr → Predicate → Option (List Case)
cases_here image lines None p = Some []
cases_here image lines (Some i) p = if has_edges lines.kind then cases (view_with image lines) i p else Some []

-- the cases of a vertex at an address whose vertices have these predicates; None where an open jump isn't resolved
abbrev pub site_cases : Subject → ℕ → List Predicate → Predicate → Option (List Case)
site_cases s address preds p = cases_here s.image (lines_at s address preds) (instr_at s.image address) p
