-- The numbers of a table and the targets of a jump, from the definitions of both.
use Rattle.std.proofs.Common.{◌≡◌, ℕ, zero, suc, ◌+◌, ◌-◌, ◌*◌, ◌^◌, ◌<◌, ◌≤◌, ◌⊎◌, inl, inr, Bool, true, false, cond, Option, Some, None, List, [], ◌∷◌, map, refl, sym, ap, subst, ◌∙◌, arith}
use Rattle.std.specs.Prelude.{IsTrue, IsSomeAnd, nat_lt, nat_le}
use Rattle.std.specs.List.{Contains, list_all}
use Rattle.std.specs.List.Sorted.{IsStrictlyIncreasing}
use Rattle.std.specs.Option.{option_map, option_and_then}
use Rattle.std.proofs.lemmas.Bool.{and_parts, cases_eq, leb-true}
use Rattle.std.proofs.lemmas.List.{length-map}
use Rattle.std.proofs.lemmas.List.Sums.{AllPass-from_list_all}
use Rattle.std.proofs.Math.ListN.{get_or-map}
use Rattle.bits_core.specs.Width.{bytes_of}
use Rattle.elf_image.specs.declared.image.Image.{Image}
use Rattle.elf_image.specs.Image.{is_code_at}
use Rattle.sym_terms.specs.Plain.{PlainSum, constant_alone}
use Rattle.sym_terms.specs.Normal.{minus}
use Rattle.jump_tables.specs.declared.table.Table.{Table}
use Rattle.jump_tables.specs.Ascending.{ascending_of}
use Rattle.jump_tables.specs.Table.{entry_at, in_front, entries, is_in_reach, table_values}
use Rattle.jump_tables.specs.Targets.{address_after, code_after, targets}
use Rattle.jump_tables.proofs.OrderLemmas.{Contains-ascending, Contains-from_ascending, IsStrictlyIncreasing-ascending}
use Rattle.table_laws.specs.Laws.{TableLaws, TargetLaws}

-- ---- what an equation with Some gives

under_cond : {A : Type 0} (b : Bool) (o : Option A) (x : A) → cond b o None ≡ Some x → (b ≡ true) × (o ≡ Some x)
under_cond true o x e = (refl, e)
under_cond false o x e = absurd (cc)

under_map : {A B : Type 0} (f : A → B) (o : Option A) (y : B) → option_map f o ≡ Some y → (x : A) × (o ≡ Some x) × (f x ≡ y)
under_map f None y e = absurd (cc)
under_map f (Some x) y e = (x, refl, cc)

under_front : (o : Option ℕ) (more : Option (List ℕ)) (ns : List ℕ) → in_front o more ≡ Some ns
    → (n : ℕ) × (ms : List ℕ) × (o ≡ Some n) × (more ≡ Some ms) × (n ∷ ms ≡ ns)
under_front None more ns e = absurd (cc)
under_front (Some n) None ns e = absurd (cc)
under_front (Some n) (Some ms) ns e = (n, ms, refl, refl, cc)

some_same : {A : Type 0} (x y : A) → Some x ≡ Some y → x ≡ y
some_same x y e = cc

-- ---- entries

first_or_later : (m x : ℕ) (ms : List ℕ) → Contains (m ∷ ms) x → (m ≡ x) ⊎ Contains ms x
first_or_later m x ms (zero, lt, e) = inl e
first_or_later m x ms (suc k, lt, e) = inr (k, omega (arith, lt), e)

more_contained : (m : ℕ) (ms : List ℕ) (o : Option ℕ) → IsSomeAnd o (Contains ms) → IsSomeAnd o (Contains (m ∷ ms))
more_contained m ms None h = h
more_contained m ms (Some n) h = (suc h.0, omega (arith, h.1), h.2)

module _ (image : Image) (t : Table) where
  entries_has : (k low x : ℕ) (ns : List ℕ) → entries image t low k ≡ Some ns → low ≤ x → x < low + k
      → IsSomeAnd (entry_at image t x) (Contains ns)
  entries_has zero low x ns e a b = absurd (omega (arith, a, b))
  entries_has (suc k) low x ns e a b =
      let (n, ms, here, more, is) = under_front (entry_at image t low) (entries image t (low + 1) k) ns e in
      subst (λ l. IsSomeAnd (entry_at image t x) (Contains l)) is (elim (cases_eq low x) [
        | inl same ↦ subst (λ y. IsSomeAnd (entry_at image t y) (Contains (n ∷ ms))) same
            (subst (λ o. IsSomeAnd o (Contains (n ∷ ms))) (sym here) (0, omega arith, refl))
        | inr other ↦ more_contained n ms (entry_at image t x) (entries_has k (low + 1) x ms more (omega (arith, a, other)) (omega (arith, b)))
      ])

  entries_only : (k low n : ℕ) (ns : List ℕ) → entries image t low k ≡ Some ns → Contains ns n
      → (x : ℕ) × (low ≤ x) × (x < low + k) × (entry_at image t x ≡ Some n)
  entries_only zero low n ns e is =
      let none : [] ≡ ns = cc in
      let k = subst (λ l. Contains l n) (sym none) is in
      absurd (omega (arith, k.1))
  entries_only (suc k) low n ns e is =
      let (m, ms, here, more, whole) = under_front (entry_at image t low) (entries image t (low + 1) k) ns e in
      elim (first_or_later m n ms (subst (λ l. Contains l n) (sym whole) is)) [
        | inl same ↦ (low, omega arith, omega arith, here ∙ ap Some same)
        | inr later ↦
            let (x, low', high', at) = entries_only k (low + 1) n ms more later in
            (x, omega (arith, low'), omega (arith, high'), at)
      ]

  module _ (low high : ℕ) (numbers : List ℕ) (e : table_values image t low high ≡ Some numbers) where
    opened : (is_in_reach t low high ≡ true) × (option_map ascending_of (entries image t low (high + 1 - low)) ≡ Some numbers)
    opened = under_cond (is_in_reach t low high) _ numbers e

    unordered : (ns : List ℕ) × (entries image t low (high + 1 - low) ≡ Some ns) × (ascending_of ns ≡ numbers)
    unordered = under_map ascending_of _ numbers opened.1

    ordered_some : (ns : List ℕ) (o : Option ℕ) → IsSomeAnd o (Contains ns) → IsSomeAnd o (Contains (ascending_of ns))
    ordered_some ns None h = h
    ordered_some ns (Some n) h = Contains-ascending n ns h

    has : (x : ℕ) → low ≤ x → x ≤ high → IsSomeAnd (entry_at image t x) (Contains numbers)
    has x a b =
        subst (λ l. IsSomeAnd (entry_at image t x) (Contains l)) unordered.2
        (ordered_some unordered.0 (entry_at image t x) (entries_has (high + 1 - low) low x unordered.0 unordered.1 a (omega (arith, a, b))))

    only : (n : ℕ) → Contains numbers n → (x : ℕ) × (low ≤ x) × (x ≤ high) × (entry_at image t x ≡ Some n)
    only n k =
        let (x, a, b, at) = entries_only (high + 1 - low) low n unordered.0 unordered.1
        (Contains-from_ascending n unordered.0 (subst (λ l. Contains l n) (sym unordered.2) k)) in
        (x, a, omega (arith, a, b), at)

    ends : t.base + t.scale * high + bytes_of t.width ≤ 2 ^ 64
    ends = leb-true _ _ (and_parts (nat_lt (high - low) 1024) (nat_le (t.base + t.scale * high + bytes_of t.width) (2 ^ 64)) opened.0).1

    ascending : IsStrictlyIncreasing numbers
    ascending = subst IsStrictlyIncreasing unordered.2 (IsStrictlyIncreasing-ascending unordered.0)

pub table_laws : TableLaws
table_laws = record {
  has = λ image t low high x numbers e. has image t low high numbers e x;
  only = λ image t low high n numbers e. only image t low high numbers e n;
  ends = λ image t low high numbers e. ends image t low high numbers e;
  ascending = λ image t low high numbers e. ascending image t low high numbers e;
}

-- ---- targets

mapped_has : (f : ℕ → ℕ) (n : ℕ) (ns : List ℕ) → Contains ns n → Contains (map f ns) (f n)
mapped_has f n ns k = (k.0, omega (arith, k.1, length-map ns f), get_or-map f ns k.0 n ∙ ap f k.2)

mapped_only : (f : ℕ → ℕ) (a : ℕ) (ns : List ℕ) → Contains (map f ns) a → (n : ℕ) × Contains ns n × (f n ≡ a)
mapped_only f a [] k = absurd (omega (arith, k.1))
mapped_only f a (n ∷ ns) k = elim (first_or_later (f n) a (map f ns) k) [
  | inl e ↦ (n, (0, omega arith, refl), e)
  | inr later ↦
      let (m, j, e) = mapped_only f a ns later in
      (m, (suc j.0, omega (arith, j.1), j.2), e)
]

module _ (image : Image) (jump key : PlainSum) (c : ℕ) (numbers addresses : List ℕ) (apart : constant_alone (minus jump key) ≡ Some c)
    (e : targets image jump key numbers ≡ Some addresses) where
  by_constant : option_map ascending_of (code_after image c numbers) ≡ Some addresses
  by_constant = subst (λ o. option_map ascending_of (option_and_then (λ c. code_after image c numbers) o) ≡ Some addresses) apart e

  code : (found : List ℕ) × (code_after image c numbers ≡ Some found) × (ascending_of found ≡ addresses)
  code = under_map ascending_of _ addresses by_constant

  all : (list_all (λ n. is_code_at image (address_after c n)) numbers ≡ true) × (Some (map (address_after c) numbers) ≡ Some code.0)
  all = under_cond _ _ code.0 code.1

  whole : ascending_of (map (address_after c) numbers) ≡ addresses
  whole = ap ascending_of (some_same _ _ all.1) ∙ code.2

  target_has : (n : ℕ) → Contains numbers n → Contains addresses (address_after c n)
  target_has n k = subst (λ l. Contains l (address_after c n)) whole (Contains-ascending _ _ (mapped_has (address_after c) n numbers k))

  passes : (n : ℕ) → Contains numbers n → is_code_at image (address_after c n) ≡ true
  passes n k = subst (λ m. is_code_at image (address_after c m) ≡ true) k.2 (AllPass-from_list_all (λ n. is_code_at image (address_after c n)) numbers all.0 k.0 n k.1)

  target_only : (a : ℕ) → Contains addresses a → IsTrue (is_code_at image a) × ((n : ℕ) × Contains numbers n × (address_after c n ≡ a))
  target_only a k =
      let (n, j, at) = mapped_only (address_after c) a numbers (Contains-from_ascending a _ (subst (λ l. Contains l a) (sym whole) k)) in
      (subst (λ x. is_code_at image x ≡ true) at (passes n j), (n, j, at))

targets_ascend : (image : Image) (jump key : PlainSum) (numbers addresses : List ℕ) (c : Option ℕ) → constant_alone (minus jump key) ≡ c
    → targets image jump key numbers ≡ Some addresses → IsStrictlyIncreasing addresses
targets_ascend image jump key numbers addresses None apart e =
    let none : None ≡ Some addresses = subst (λ o. option_map ascending_of (option_and_then (λ c. code_after image c numbers) o) ≡ Some addresses) apart e in
    absurd (cc)
targets_ascend image jump key numbers addresses (Some c) apart e =
    subst IsStrictlyIncreasing (whole image jump key c numbers addresses apart e) (IsStrictlyIncreasing-ascending (map (address_after c) numbers))

pub target_laws : TargetLaws
target_laws = record {
  has = λ image jump key c n numbers addresses apart e. target_has image jump key c numbers addresses apart e n;
  only = λ image jump key c a numbers addresses apart e. target_only image jump key c numbers addresses apart e a;
  ascending = λ image jump key numbers addresses e. targets_ascend image jump key numbers addresses _ refl e;
}
