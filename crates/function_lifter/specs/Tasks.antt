-- What holds while functions are lifted one by one.
use Rattle.std.specs.Prelude.{◌≡◌, ◌⊎◌, ℕ, true, false, List, Some, IsSome}
use Rattle.std.specs.List.{Contains}
use Rattle.std.specs.Ordering.{nat_cmp}
use Rattle.std.specs.BTreeMap.{get}
use Rattle.std.specs.BTreeSet.{contains}
use Rattle.elf_image.specs.declared.image.Image.{Image}
use Rattle.graph_data.specs.declared.graph.Site.{Site}
use Rattle.graph_data.specs.declared.graph.Function.{Function}
use Rattle.predicates.specs.declared.site.Kind.TheVariants.{Call}
use Rattle.function_lifter.specs.Whole.{IsLifted}
use Rattle.function_lifter.specs.declared.functions.Task.{Task}

-- the function at an entry is to do, or done
abbrev pub IsPending : Task → ℕ → Type 0
IsPending t entry = (contains nat_cmp t.waiting entry ≡ true) ⊎ IsSome (get nat_cmp t.done entry)

-- what is pending stays so
abbrev pub Keeps : Task → Task → Type 0
Keeps old new = (n : ℕ) → IsPending old n → IsPending new n

-- each function that it calls is pending
abbrev pub CallsPending : Task → Function → Type 0
CallsPending t f = (s : Site) (target : ℕ) → Contains f.sites s → s.kind ≡ Call target → IsPending t target

-- the function of an entry is lifted, and what it calls is pending
pub record IsDone (image : Image) (externs : List ℕ) (t : Task) (entry : ℕ) (f : Function) : Type 0 where
  pub entry_is : f.entry ≡ entry
  pub lifted : IsLifted image externs f
  pub called : CallsPending t f

-- each function that is done is so
abbrev pub IsTask : Image → List ℕ → Task → Type 0
IsTask image externs t = (entry : ℕ) (f : Function) → get nat_cmp t.done entry ≡ Some f → IsDone image externs t entry f
