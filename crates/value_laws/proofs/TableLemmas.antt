-- A load that takes an entry of a table gives one of the numbers of the table rule, and a jump goes to one of its targets.
use Rattle.std.proofs.Common.{◌≡◌, ℕ, ◌+◌, ◌*◌, ◌%◌, ◌^◌, ◌≤◌, Bool, cond, Option, Some, None, List, [], ◌∷◌, refl, sym, ap, subst, ◌∙◌, arith}
use Rattle.std.proofs.Math.Nat.{mul-le-mul_left}
use Rattle.std.proofs.lemmas.List.Elements.{All-head, All-tail}
use Rattle.std.specs.Prelude.{IfSome, IsSomeAnd, All}
use Rattle.std.specs.List.{Contains}
use Rattle.std.specs.Option.{option_map, option_or, option_and_then}
use Rattle.bits_core.specs.declared.width.Width.{Width}
use Rattle.bits_core.specs.declared.width.Width.TheVariants.{W8, W16, W32, W64}
use Rattle.bits_core.specs.Width.{bytes_of}
use Rattle.bits_core.specs.LowBits.{sext_of}
use Rattle.elf_image.specs.declared.image.Image.{Image}
use Rattle.elf_image.specs.Image.{fixed_of}
use Rattle.sym_terms.specs.Plain.{PlainSum, constant_alone}
use Rattle.sym_terms.specs.Normal.{minus, times, IsNormal}
use Rattle.sym_terms.specs.Value.{Valuation, IsInRange, value}
use Rattle.jump_tables.specs.declared.table.Table.{Table}
use Rattle.jump_tables.specs.Ascending.{ascending_of}
use Rattle.jump_tables.specs.Table.{table_values}
use Rattle.jump_tables.specs.Targets.{code_after, targets}
use Rattle.predicates.specs.declared.bound.Values.{Values}
use Rattle.predicates.specs.declared.bound.Values.TheVariants.{Range, OneOf}
use Rattle.predicates.specs.declared.bound.Bound.{Bound}
use Rattle.x86_machine.specs.Memory.{loaded}
use Rattle.forest_meaning.specs.Holds.{Means}
use Rattle.predicate_meaning.specs.Sat.{IsIn, BoundHolds}
use Rattle.step_rules.specs.Tables.{Choice, choice_by, choice_among, choice_of, chosen, values_of, chosen_values, targets_of, chosen_targets}
use Rattle.value_laws.proofs.Ground.{Ground}
use Rattle.value_laws.proofs.MeansLemmas.{means_times}

-- what holds of each of two holds of the first that is there
one_or : {A : Type 0} (P : A → Type 0) (a b : Option A) → IfSome a P → IfSome b P → IfSome (option_or a b) P
one_or P None b h k = k
one_or P (Some a) b h k = h

-- ---- jumps

swapped_sum : (c x : ℕ) → (c + x) % 2 ^ 64 ≡ (x + c) % 2 ^ 64
swapped_sum c x = ap (λ n. n % 2 ^ 64) (let e : c + x ≡ x + c = omega arith in e)

module _ (g : Ground) (u : Valuation) (range : IsInRange u) (image : Image) (jump : PlainSum) (n : ℕ) (m : Means u jump n) where
  abbrev Has : Option (List ℕ) → Type 0
  Has o = IfSome o (λ addresses. Contains addresses n)

  by_distance : (key : PlainSum) (c : Option ℕ) (ns : List ℕ) (found : Option (List ℕ)) → constant_alone (minus jump key) ≡ c
      → targets image jump key ns ≡ found → IsNormal key → Contains ns (value u key) → Has found
  by_distance key c ns None e f k is = tt
  by_distance key None ns (Some addresses) e f k is =
      let none : None ≡ Some addresses = subst (λ o. option_map ascending_of (option_and_then (λ c. code_after image c ns) o) ≡ Some addresses) e f in
      absurd (cc)
  by_distance key (Some c) ns (Some addresses) e f k is =
      let same : (c + value u key) % 2 ^ 64 ≡ n = swapped_sum c (value u key) ∙ sym ((g.values u range).offsets jump key c m.normal k e) ∙ m.value in
      subst (Contains addresses) same (g.jumps.has image jump key c (value u key) ns addresses e f is)

  by_set : (b : Bound) (set : Values) → b.set ≡ set → BoundHolds u b → Has (targets_of image jump b.key set)
  by_set b (Range low high) e h = tt
  by_set b (OneOf ns) e h = by_distance b.key _ ns _ refl refl h.key (subst (λ set. IsIn set (value u b.key)) e h.within)

  -- the addresses that the bounds tell have the one that is jumped to
  pub targets_tell : (bs : List Bound) → All (λ b. BoundHolds u b) bs → Has (chosen_targets image jump bs)
  targets_tell [] h = tt
  targets_tell (b ∷ bs) h =
      one_or (λ addresses. Contains addresses n) _ _ (by_set b b.set refl (All-head (λ b. BoundHolds u b) b bs h))
      (targets_tell bs (All-tail (λ b. BoundHolds u b) b bs h))

-- ---- loads

-- a loaded number, extended to 64 bits
abbrev pub extended_by : Bool → Width → ℕ → ℕ
extended_by signed w n = cond signed (sext_of w n) n

-- an address below 2^64 is its base and a multiple
unwrapped : (k x base high bytes : ℕ) → k * x ≤ k * high → base + k * high + bytes ≤ 2 ^ 64 → 1 ≤ bytes → (k * x % 2 ^ 64 + base) % 2 ^ 64 ≡ base + k * x
unwrapped k x base high bytes a b c = generalized (k * x) (k * high) base bytes a b c
  where
    generalized : (p q base bytes : ℕ) → p ≤ q → base + q + bytes ≤ 2 ^ 64 → 1 ≤ bytes → (p % 2 ^ 64 + base) % 2 ^ 64 ≡ base + p
    generalized p q base bytes a b c = omega arith

bytes_some : (w : Width) → 1 ≤ bytes_of w
bytes_some W8 = omega arith
bytes_some W16 = omega arith
bytes_some W32 = omega arith
bytes_some W64 = omega arith

module _ (g : Ground) (u : Valuation) (range : IsInRange u) (image : Image) (memory : ℕ → ℕ)
    (fixed : (a n c : ℕ) → fixed_of image a n ≡ Some c → loaded memory n a ≡ c)
    (at : PlainSum) (a : ℕ) (m : Means u at a) (w : Width) (signed : Bool) where
  abbrev number : ℕ → ℕ
  number x = extended_by signed w (loaded memory (bytes_of w) x)

  abbrev Told : Option (List ℕ) → Type 0
  Told o = IfSome o (λ ns. Contains ns (number a))

  abbrev table : ℕ → ℕ → Table
  table base scale = record { width = w; signed = signed; base = base; scale = scale }

  -- the number of an entry is the one in its bytes
  entry_number : (base scale x : ℕ) (ns : List ℕ) (c : Option ℕ) → fixed_of image (base + scale * x) (bytes_of w) ≡ c
      → IsSomeAnd (option_map (λ n. cond signed (sext_of w n) n) c) (Contains ns) → Contains ns (number (base + scale * x))
  entry_number base scale x ns None e h = absurd h
  entry_number base scale x ns (Some c) e h = subst (Contains ns) (ap (extended_by signed w) (sym (fixed _ _ c e))) h

  -- the address is that of the entry whose place is the value of the key
  entry_address : (key : PlainSum) (scale base high : ℕ) → constant_alone (minus at (times scale key)) ≡ Some base → IsNormal key → value u key ≤ high
      → base + scale * high + bytes_of w ≤ 2 ^ 64 → base + scale * value u key ≡ a
  entry_address key scale base high e normal h ends =
      let mk = means_times u g.normal (g.values u range) scale key (value u key) (record { normal = normal; value = refl }) in
      sym (unwrapped scale (value u key) base high (bytes_of w) (mul-le-mul_left scale h) ends (bytes_some w))
      ∙ sym (ap (λ x. (x + base) % 2 ^ 64) mk.value) ∙ sym ((g.values u range).offsets at (times scale key) base m.normal mk.normal e) ∙ m.value

  by_values : (key : PlainSum) (low high scale base : ℕ) (found : Option (List ℕ)) → table_values image (table base scale) low high ≡ found
      → constant_alone (minus at (times scale key)) ≡ Some base → IsNormal key → low ≤ value u key → value u key ≤ high → Told found
  by_values key low high scale base None f e normal l h = tt
  by_values key low high scale base (Some ns) f e normal l h =
      let ends = g.tables.ends image (table base scale) low high ns f in
      subst (λ x. Contains ns (number x)) (entry_address key scale base high e normal h ends)
      (entry_number base scale (value u key) ns _ refl (g.tables.has image (table base scale) low high (value u key) ns f l h))

  -- the numbers of chosen entries have the loaded one
  abbrev ToldBy : Option Choice → Type 0
  ToldBy o = IfSome o (λ c. Told (values_of image w signed c))

  by_scale : (key : PlainSum) (low high scale : ℕ) (base : Option ℕ) → constant_alone (minus at (times scale key)) ≡ base → IsNormal key
      → low ≤ value u key → value u key ≤ high
      → ToldBy (option_map (λ base. let c : Choice = record { base = base; scale = scale; low = low; high = high } in c) base)
  by_scale key low high scale None e normal l h = tt
  by_scale key low high scale (Some base) e normal l h = by_values key low high scale base _ refl e normal l h

  among : (key : PlainSum) (low high : ℕ) (scales : List ℕ) → IsNormal key → low ≤ value u key → value u key ≤ high
      → ToldBy (choice_among at key low high scales)
  among key low high [] normal l h = tt
  among key low high (k ∷ ks) normal l h =
      one_or (λ c. Told (values_of image w signed c)) (choice_by at key low high k) (choice_among at key low high ks)
      (by_scale key low high k _ refl normal l h) (among key low high ks normal l h)

  of_bound : (b : Bound) (set : Values) → b.set ≡ set → BoundHolds u b → ToldBy (choice_of at b.key set)
  of_bound b (Range low high) e h =
      let within = subst (λ set. IsIn set (value u b.key)) e h.within in
      among b.key low high (1 ∷ 2 ∷ 4 ∷ 8 ∷ []) h.key within.0 within.1
  of_bound b (OneOf ns) e h = tt

  chosen_tells : (bs : List Bound) → All (λ b. BoundHolds u b) bs → ToldBy (chosen at bs)
  chosen_tells [] h = tt
  chosen_tells (b ∷ bs) h =
      one_or (λ c. Told (values_of image w signed c)) (choice_of at b.key b.set) (chosen at bs)
      (of_bound b b.set refl (All-head (λ b. BoundHolds u b) b bs h)) (chosen_tells bs (All-tail (λ b. BoundHolds u b) b bs h))

  by_choice : (o : Option Choice) → ToldBy o → Told (option_and_then (values_of image w signed) o)
  by_choice None h = tt
  by_choice (Some c) h = h

  -- the numbers that the bounds tell have the loaded one
  pub values_tell : (bs : List Bound) → All (λ b. BoundHolds u b) bs → Told (chosen_values image at w signed bs)
  values_tell bs h = by_choice (chosen at bs) (chosen_tells bs h)
