-- What is claimed of a lifted function.
use Rattle.std.specs.Prelude.{◌≡◌, ℕ, true, false, List, IsSome}
use Rattle.std.specs.List.{Contains}
use Rattle.elf_image.specs.declared.image.Image.{Image}
use Rattle.elf_image.specs.Image.{is_code_at}
use Rattle.simulation.specs.Valid.{FunctionHolds}
use Rattle.simulation.specs.Graph.{callee}
use Rattle.graph_data.specs.declared.graph.Site.{Site}
use Rattle.graph_data.specs.declared.graph.Function.{Function}
use Rattle.graph_data.specs.declared.graph.Graph.{Graph}
use Rattle.predicates.specs.declared.site.Kind.TheVariants.{Call}
use Rattle.graph_runs.specs.World.{x86}
use Rattle.graph_rules.specs.Rules.{rules}
use Rattle.site_lines.specs.Subject.{is_listed}

-- each function that it calls stands in the graph, and isn't refused
abbrev pub HasCallees : Image → Graph → Function → Type 0
HasCallees image g f = (s : Site) (target : ℕ) → Contains f.sites s → s.kind ≡ Call target → IsSome (callee (x86 image) g target)

-- each rule holds of the function in every graph that has what it calls
abbrev pub IsValidFunction : Image → Function → Type 0
IsValidFunction image f = (g : Graph) → HasCallees image g f → FunctionHolds (x86 image) (rules image) g f

-- each function that it calls is code, and not outside
abbrev pub CallsCode : Image → List ℕ → Function → Type 0
CallsCode image externs f =
    (s : Site) (target : ℕ) → Contains f.sites s → s.kind ≡ Call target →
    (is_code_at image target ≡ true) × (is_listed target externs ≡ false)
