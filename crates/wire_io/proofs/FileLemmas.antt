-- Files in memory: their plain data and the owned pairs find the same.
use Rattle.std.proofs.Common.{◌≡◌, ℕ, true, false, cond, List, [], ◌∷◌, String, Vec, string_bytes, find, refl}
use Rattle.std.specs.Str.{bytes_eq}
use Rattle.std.specs.Option.{option_map}
use Rattle.std.specs.declared.alloc.Global.{Global}
use Rattle.std.specs.declared.option.Option.TheVariants.{Some}
use Rattle.wire_io.specs.Files.{plain_files, file_under}

-- the bytes under a name are those of the first owned pair with it
pub file_under-plain : (pairs : List (String Global × Vec ℕ Global)) (name : List ℕ) → file_under (plain_files pairs) name ≡ option_map (λ pair. pair.1.items) (find (λ pair. bytes_eq (string_bytes pair.0) name) pairs)
file_under-plain [] name = refl
file_under-plain (pair ∷ pairs) name =
    elim (bytes_eq (string_bytes pair.0) name) as (λ same. option_map (λ p. p.1) (cond same (Some (string_bytes pair.0, pair.1.items)) (find (λ p. bytes_eq p.0 name) (plain_files pairs))) ≡ option_map (λ p. p.1.items) (cond same (Some pair) (find (λ p. bytes_eq (string_bytes p.0) name) pairs)))
    [ true ↦ refl | false ↦ file_under-plain pairs name ]
