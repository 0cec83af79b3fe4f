-- The numbers of a table are a list of a bound: some, ascending, and no more than that may have.
use Rattle.std.proofs.Common.{◌≡◌, ℕ, zero, suc, ◌+◌, ◌-◌, ◌≤◌, true, false, ◌&&◌, ◌==◌, List, [], ◌∷◌, length, Option, Some, None, refl, ap, arith}
use Rattle.std.specs.Prelude.{if◌then◌else◌, IsTrue, nat_le, nat_lt, IfSome}
use Rattle.std.specs.Option.{option_map}
use Rattle.std.proofs.lemmas.Bool.{and_parts, and_from, le-leb}
use Rattle.std.proofs.lemmas.Bool.Decides.{nat_tests}
use Rattle.elf_image.specs.declared.image.Image.{Image}
use Rattle.jump_tables.specs.declared.table.Table.{Table}
use Rattle.jump_tables.specs.Ascending.{with_number, ascending_of}
use Rattle.jump_tables.specs.Table.{entry_at, in_front, entries, is_in_reach, table_values}
use Rattle.predicates.specs.Limits.{most_numbers}
use Rattle.predicates.specs.Bounds.{numbers_ascend, is_list}

-- ---- one more number in order

-- it comes after what it is over
ascend_after : (n m : ℕ) (ms : List ℕ) → nat_lt m n ≡ true → numbers_ascend (m ∷ ms) ≡ true → numbers_ascend (m ∷ with_number n ms) ≡ true
ascend_after n m [] h e = and_from (nat_lt m n) true h refl
ascend_after n m (k ∷ ks) h e =
    let both = and_parts (nat_lt m k) (numbers_ascend (k ∷ ks)) e in
    (elim (nat_lt n k) as (λ t. nat_lt n k ≡ t → numbers_ascend (m ∷ (if t then n ∷ k ∷ ks else if n == k then k ∷ ks else k ∷ with_number n ks)) ≡ true) [
      | true ↦ λ less. and_from (nat_lt m n) (numbers_ascend (n ∷ k ∷ ks)) h (and_from (nat_lt n k) (numbers_ascend (k ∷ ks)) less both.1)
      | false ↦ λ least.
          (elim (n == k) as (λ t. (n == k) ≡ t → numbers_ascend (m ∷ (if t then k ∷ ks else k ∷ with_number n ks)) ≡ true) [
            | true ↦ λ same. e
            | false ↦ λ other.
                let over : nat_lt k n ≡ true = grind (arith, nat_tests) in
                and_from (nat_lt m k) (numbers_ascend (k ∷ with_number n ks)) both.0 (ascend_after n k ks over both.1)
          ]) refl
    ]) refl

ascend_with : (n : ℕ) (ms : List ℕ) → numbers_ascend ms ≡ true → numbers_ascend (with_number n ms) ≡ true
ascend_with n [] e = refl
ascend_with n (k ∷ ks) e =
    (elim (nat_lt n k) as (λ t. nat_lt n k ≡ t → numbers_ascend (if t then n ∷ k ∷ ks else if n == k then k ∷ ks else k ∷ with_number n ks) ≡ true) [
      | true ↦ λ less. and_from (nat_lt n k) (numbers_ascend (k ∷ ks)) less e
      | false ↦ λ least.
          (elim (n == k) as (λ t. (n == k) ≡ t → numbers_ascend (if t then k ∷ ks else k ∷ with_number n ks) ≡ true) [
            | true ↦ λ same. e
            | false ↦ λ other.
                let over : nat_lt k n ≡ true = grind (arith, nat_tests) in
                ascend_after n k ks over e
          ]) refl
    ]) refl

ascend_all : (ns : List ℕ) → numbers_ascend (ascending_of ns) ≡ true
ascend_all [] = refl
ascend_all (n ∷ ns) = ascend_with n (ascending_of ns) (ascend_all ns)

-- ---- how many

few_with : (n : ℕ) (ms : List ℕ) → (1 ≤ length (with_number n ms)) × (length (with_number n ms) ≤ length ms + 1)
few_with n [] = (omega arith, omega arith)
few_with n (k ∷ ks) =
    elim (nat_lt n k) as (λ t. let l = length (if t then n ∷ k ∷ ks else if n == k then k ∷ ks else k ∷ with_number n ks) in (1 ≤ l) × (l ≤ length (k ∷ ks) + 1)) [
      | true ↦ (omega arith, omega arith)
      | false ↦
          elim (n == k) as (λ t. let l = length (if t then k ∷ ks else k ∷ with_number n ks) in (1 ≤ l) × (l ≤ length (k ∷ ks) + 1)) [
            | true ↦ (omega arith, omega arith)
            | false ↦ (omega arith, omega (arith, (few_with n ks).1))
          ]
    ]

few_all : (ns : List ℕ) → length (ascending_of ns) ≤ length ns
few_all [] = omega arith
few_all (n ∷ ns) = omega (arith, (few_with n (ascending_of ns)).1, few_all ns)

some_all : (ns : List ℕ) → 1 ≤ length ns → 1 ≤ length (ascending_of ns)
some_all [] h = absurd (omega arith)
some_all (n ∷ ns) h = (few_with n (ascending_of ns)).0

listed : (ns : List ℕ) → 1 ≤ length ns → length ns ≤ most_numbers → is_list (ascending_of ns) ≡ true
listed ns h g =
    let all = ascending_of ns in
    and_from (nat_le 1 (length all)) (nat_le (length all) most_numbers && numbers_ascend all) (le-leb 1 (length all) (some_all ns h))
    (and_from (nat_le (length all) most_numbers) (numbers_ascend all) (le-leb (length all) most_numbers (omega (arith, few_all ns, g))) (ascend_all ns))

-- ---- of a table

fronted : (o : Option ℕ) (p : Option (List ℕ)) (k : ℕ) → IfSome p (λ ns. length ns ≡ k) → IfSome (in_front o p) (λ ns. length ns ≡ suc k)
fronted None p k h = tt
fronted (Some n) None k h = tt
fronted (Some n) (Some ns) k h = ap suc h

as_many : (image : Image) (t : Table) (x k : ℕ) → IfSome (entries image t x k) (λ ns. length ns ≡ k)
as_many image t x zero = refl
as_many image t x (suc k) = fronted (entry_at image t x) (entries image t (x + 1) k) k (as_many image t (x + 1) k)

each_listed : (o : Option (List ℕ)) (k : ℕ) → IfSome o (λ ns. length ns ≡ k) → 1 ≤ k → k ≤ most_numbers → IfSome (option_map ascending_of o) (λ ns. IsTrue (is_list ns))
each_listed None k h a b = tt
each_listed (Some ns) k h a b = listed ns (omega (arith, h, a)) (omega (arith, h, b))

-- the numbers of a range of entries, where there are such
pub table_listed : (image : Image) (t : Table) (low high : ℕ) → low ≤ high → IfSome (table_values image t low high) (λ ns. IsTrue (is_list ns))
table_listed image t low high h =
    (elim (is_in_reach t low high) as (λ b. is_in_reach t low high ≡ b → IfSome (if b then option_map ascending_of (entries image t low (high + 1 - low)) else None) (λ ns. IsTrue (is_list ns))) [
      | true ↦ λ is.
          let near = and_parts (nat_lt (high - low) 1024) _ is in
          let few : high + 1 - low ≤ most_numbers = grind (arith, nat_tests, near.0) in
          each_listed (entries image t low (high + 1 - low)) (high + 1 - low) (as_many image t low (high + 1 - low)) (omega arith) few
      | false ↦ λ is. tt
    ]) refl
