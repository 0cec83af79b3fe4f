-- A function that was lifted from an entry, and what is called in it.
use Rattle.std.specs.Prelude.{◌≡◌, ℕ, List, None}
use Rattle.elf_image.specs.declared.image.Image.{Image}
use Rattle.graph_data.specs.WellFormed.{IsFunction}
use Rattle.lifted_parts.specs.Exact.{IsExact}
use Rattle.lifted_parts.specs.Whole.{CallsCode, IsValidFunction}
use Rattle.function_lifter.specs.Whole.{CallsOnly}
use Rattle.function_lifter.specs.declared.build.Built.{Built}

-- it is in form, valid and exact, and what it calls is noted, and code
pub record IsBuiltWell (image : Image) (externs : List ℕ) (entry : ℕ) (b : Built) : Type 0 where
  pub formed : IsFunction b.function
  pub entry_is : b.function.entry ≡ entry
  pub unrefused : b.function.refused ≡ None
  pub valid : IsValidFunction image b.function
  pub exact : IsExact image b.function
  pub calls : CallsOnly b.function b.targets.items
  pub inside : CallsCode image externs b.function
