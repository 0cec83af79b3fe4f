-- The predicates of a well-formed graph are in form.
use Rattle.std.proofs.Common.{List, [], ◌∷◌, Option, Some, None, sym, subst}
use Rattle.std.proofs.lemmas.List.Elements.{All-nil, All-cons}
use Rattle.std.specs.Prelude.{All}
use Rattle.simulation.specs.Valid.{HasForms, IsFormedGraph}
use Rattle.elf_image.specs.declared.image.Image.{Image}
use Rattle.graph_data.specs.declared.graph.Site.{Site}
use Rattle.graph_data.specs.declared.graph.Refused.{Refused}
use Rattle.graph_data.specs.declared.graph.Function.{Function}
use Rattle.graph_data.specs.declared.graph.Graph.{Graph}
use Rattle.graph_data.specs.Parts.{Each}
use Rattle.graph_data.specs.WellFormed.{IsPred, IsVertex, IsSite, IsFunction, HasBody, IsWellFormed}
use Rattle.graph_runs.specs.World.{x86}
use Rattle.graph_rules.specs.Rules.{rules}

-- what each element has, and gives, all have
all_of : {X : Type 0} (P Q : X → Type 0) → ((x : X) → P x → Q x) → (xs : List X) → Each P xs → All Q xs
all_of P Q f [] each = All-nil Q
all_of P Q f (x ∷ xs) each = All-cons Q x xs (f x each.0) (all_of P Q f xs each.1)

sites_of : (o : Option Refused) (f : Function) → HasBody o f → Each IsSite f.sites
sites_of None f body = body.sites
sites_of (Some why) f body = subst (Each IsSite) (sym body.sites) tt

vertex_forms : (s : Site) → IsSite s → All (λ v. IsPred v.pred) s.vertices
vertex_forms s formed = all_of (IsVertex s.kind) (λ v. IsPred v.pred) (λ v is. is.pred) s.vertices formed.vertices

function_forms : (image : Image) (f : Function) → IsFunction f → HasForms (x86 image) (rules image) f
function_forms image f formed =
    all_of IsSite (λ s. All (λ v. IsPred v.pred) s.vertices) vertex_forms f.sites (sites_of f.refused f formed.body)

pub graph_forms : (image : Image) (g : Graph) → IsWellFormed g → IsFormedGraph (x86 image) (rules image) g
graph_forms image g formed = all_of IsFunction (HasForms (x86 image) (rules image)) (function_forms image) g.functions formed.functions
