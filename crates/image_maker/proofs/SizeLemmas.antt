-- How many bytes functions have.
use Rattle.std.proofs.Common.{◌≡◌, ◌≤◌, ℕ, zero, suc, ◌+◌, ◌*◌, ◌==◌, ◌++◌, List, length, Bool, true, false, arith, refl}
use Rattle.std.proofs.lemmas.List.{length-append}
use Rattle.std.proofs.lemmas.Simd.{length-replicate}
use Rattle.image_maker.specs.declared.functions.Kind.{Kind}
use Rattle.image_maker.specs.declared.functions.Kind.TheVariants.{Saves, Counts, Stores, Branches}
use Rattle.image_maker.specs.Functions.{filled, front_of, back_of, link_of, kind_of, function_of, functions}

-- filled code has the size, where it is no longer
length-filled : (size : ℕ) (code : List ℕ) → length code ≤ size → length (filled size code) ≡ size
length-filled size code fits = omega (arith, length-append {A = ℕ}, length-replicate {A = ℕ})

-- a function of each kind
length-of_kind : (number : ℕ) (kind : Kind) (is_last : Bool) → length (filled 32 (front_of number kind ++ link_of is_last (front_of number kind) ++ back_of kind)) ≡ 32
length-of_kind number Saves true = refl
length-of_kind number Saves false = refl
length-of_kind number Counts true = refl
length-of_kind number Counts false = refl
length-of_kind number Stores true = refl
length-of_kind number Stores false = refl
length-of_kind number Branches true = refl
length-of_kind number Branches false = refl

-- the functions have 32 bytes each
pub length_functions : (count number : ℕ) → length (functions count number) ≡ 32 * number
length_functions count zero = refl
length_functions count (suc number) =
    let before : length (functions count number) ≡ 32 * number = length_functions count number in
    let is_last : Bool = number + 1 == count in
    let one : length (function_of number is_last) ≡ 32 = length-of_kind number (kind_of number) is_last in
    omega (arith, length-append (functions count number) (function_of number is_last))
