-- What a lifted function, and the graph of all of them, has.
use Rattle.std.specs.Prelude.{◌≡◌, ◌↔◌, ℕ, true, false, List, None, IsSome}
use Rattle.std.specs.List.{Contains}
use Rattle.elf_image.specs.declared.image.Image.{Image}
use Rattle.elf_image.specs.Image.{is_code_at}
use Rattle.graph_data.specs.WellFormed.{IsFunction}
use Rattle.graph_data.specs.declared.graph.Site.{Site}
use Rattle.graph_data.specs.declared.graph.Function.{Function}
use Rattle.graph_data.specs.declared.graph.Graph.{Graph}
use Rattle.predicates.specs.declared.site.Kind.{Kind}
use Rattle.predicates.specs.declared.site.Kind.TheVariants.{Call}
use Rattle.lifted_parts.specs.Exact.{IsExact}
use Rattle.lifted_parts.specs.Whole.{CallsCode, IsValidFunction}

-- a function at an entry, which is refused exactly where that isn't code
pub record IsOfEntry (image : Image) (f : Function) : Type 0 where
  pub refused : (IsSome f.refused) ↔ (is_code_at image f.entry ≡ false)

-- a site that calls a constant notes it
abbrev pub NotesTarget : Kind → List ℕ → List ℕ → Type 0
NotesTarget kind old new =
    ((n : ℕ) → Contains old n → Contains new n) × ((target : ℕ) → kind ≡ Call target → Contains new target)

-- each constant that a site calls is noted
abbrev pub AreCalled : List Site → List ℕ → Type 0
AreCalled sites targets = (s : Site) (target : ℕ) → Contains sites s → s.kind ≡ Call target → Contains targets target

-- each function that it calls is one of these
abbrev pub CallsOnly : Function → List ℕ → Type 0
CallsOnly f targets = AreCalled f.sites targets

-- a function is one of an entry: in form, valid and exact where it isn't refused, and refused exactly where the entry isn't code
pub record IsLifted (image : Image) (externs : List ℕ) (f : Function) : Type 0 where
  pub formed : IsFunction f
  pub of_entry : IsOfEntry image f
  pub valid : f.refused ≡ None → IsValidFunction image f
  pub exact : IsExact image f
  pub inside : CallsCode image externs f
