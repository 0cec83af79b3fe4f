-- How many numbers a table gives, and how many targets a jump has.
use Rattle.std.proofs.Common.{◌≡◌, ◌≤◌, ◌+◌, ◌-◌, ◌*◌, ◌^◌, ◌==◌, ◌&&◌, ℕ, zero, suc, Bool, true, false, cond, List, [], ◌∷◌, length, filter, Option, Some, None, refl, sym, ap, subst, arith, ltb-true, leb-true, le-leb}
use Rattle.std.specs.Prelude.{if◌then◌else◌, nat_le, nat_lt}
use Rattle.std.specs.List.{list_all}
use Rattle.std.specs.Option.{option_map, option_and_then, option_or}
use Rattle.std.specs.declared.cmp.Ordering.TheVariants.{Less, Equal, Greater}
use Rattle.std.proofs.lemmas.Bool.{and_parts, and_from}
use Rattle.bits_core.specs.declared.width.Width.{Width}
use Rattle.bits_core.specs.Width.{bytes_of}
use Rattle.elf_image.specs.declared.image.Image.{Image}
use Rattle.sym_terms.specs.Plain.{PlainSum, constant_alone}
use Rattle.sym_terms.specs.Normal.{minus, times}
use Rattle.sym_terms.specs.Order.{sum_cmp}
use Rattle.jump_tables.specs.declared.table.Table.{Table}
use Rattle.jump_tables.specs.Ascending.{with_number, ascending_of}
use Rattle.jump_tables.specs.Table.{in_front, entry_at, entries, is_in_reach, table_values}
use Rattle.predicates.specs.Bounds.{are_values, are_formed, numbers_ascend, keys_ascend, are_bounds}
use Rattle.predicates.specs.Limits.{most_bounds, most_numbers}
use Rattle.predicates.specs.declared.bound.Values.{Values}
use Rattle.predicates.specs.declared.bound.Values.TheVariants.{Range, OneOf}
use Rattle.predicates.specs.declared.bound.Bound.{Bound}
use Rattle.step_rules.specs.Bounds.{inserted, met, with_bound}
use Rattle.step_rules.specs.Tables.{Choice, choice_by, choice_among, choice_of, chosen, values_of, chosen_values}

-- between 1 and 1,024 of them
abbrev pub AreFew : {X : Type 0} → List X → Type 0
AreFew xs = (1 ≤ length xs) × (length xs ≤ 1024)

-- ---- ascending numbers

with_number_long : (n : ℕ) (ns : List ℕ) → (1 ≤ length (with_number n ns)) × (length (with_number n ns) ≤ length ns + 1)
with_number_long n [] = (omega arith, omega arith)
with_number_long n (m ∷ ms) =
    let more = with_number_long n ms in
    let p = more.0 in
    let q = more.1 in
    elim (nat_lt n m) as (λ b. (1 ≤ length (if b then n ∷ m ∷ ms else if n == m then m ∷ ms else m ∷ with_number n ms)) × (length (if b then n ∷ m ∷ ms else if n == m then m ∷ ms else m ∷ with_number n ms) ≤ length (m ∷ ms) + 1)) [
      | true ↦ (omega arith, omega arith)
      | false ↦ elim (n == m) as (λ b. (1 ≤ length (if b then m ∷ ms else m ∷ with_number n ms)) × (length (if b then m ∷ ms else m ∷ with_number n ms) ≤ length (m ∷ ms) + 1)) [
        | true ↦ (omega arith, omega arith)
        | false ↦ (omega arith, omega (arith, q))
      ]
    ]

ascending_most : (ns : List ℕ) → length (ascending_of ns) ≤ length ns
ascending_most [] = omega arith
ascending_most (n ∷ ns) =
    let most = (with_number_long n (ascending_of ns)).1 in
    let rest = ascending_most ns in
    omega (arith, most, rest)

ascending_some : (ns : List ℕ) → 1 ≤ length ns → 1 ≤ length (ascending_of ns)
ascending_some [] h = absurd (omega (arith, h))
ascending_some (n ∷ ns) h = (with_number_long n (ascending_of ns)).0

ascending_few : (ns : List ℕ) → AreFew ns → AreFew (ascending_of ns)
ascending_few ns h =
    let most = ascending_most ns in
    let m = h.1 in
    (ascending_some ns h.0, omega (arith, most, m))

-- ---- bounds

-- what is asked of the values of a bound here
abbrev pub counted : Values → Bool
counted (Range low high) = nat_le low high
counted (OneOf numbers) = nat_le 1 (length numbers) && nat_le (length numbers) 1024

abbrev pub AreCounted : List Bound → Type 0
AreCounted bounds = list_all (λ b. counted b.set) bounds ≡ true

values_counted : (v : Values) → are_values v ≡ true → counted v ≡ true
values_counted (Range low high) h = h
values_counted (OneOf numbers) h =
    let a = and_parts (nat_le 1 (length numbers)) (nat_le (length numbers) most_numbers && numbers_ascend numbers) h in
    let b = and_parts (nat_le (length numbers) most_numbers) (numbers_ascend numbers) a.1 in
    and_from (nat_le 1 (length numbers)) (nat_le (length numbers) 1024) a.0 b.0

formed_counted : (bounds : List Bound) → are_formed bounds ≡ true → AreCounted bounds
formed_counted [] h = refl
formed_counted (b ∷ bs) h =
    let a = and_parts (are_values b.set) (are_formed bs) h in
    and_from (counted b.set) (list_all (λ b. counted b.set) bs) (values_counted b.set a.0) (formed_counted bs a.1)

pub bounds_counted : (bounds : List Bound) → are_bounds bounds ≡ true → AreCounted bounds
bounds_counted bounds h =
    let a = and_parts (nat_le (length bounds) most_bounds) (keys_ascend bounds && are_formed bounds) h in
    formed_counted bounds (and_parts (keys_ascend bounds) (are_formed bounds) a.1).1

pub filter_counted : (q : Bound → Bool) (bounds : List Bound) → AreCounted bounds → AreCounted (filter q bounds)
filter_counted q [] h = refl
filter_counted q (b ∷ bs) h =
    let a = and_parts (counted b.set) (list_all (λ b. counted b.set) bs) h in
    let rest = filter_counted q bs a.1 in
    elim (q b) as (λ t. AreCounted (cond t (b ∷ filter q bs) (filter q bs))) [
      | true ↦ and_from (counted b.set) (list_all (λ b. counted b.set) (filter q bs)) a.0 rest
      | false ↦ rest
    ]

met_counted : (old : Values) (numbers : List ℕ) → counted old ≡ true → counted (OneOf numbers) ≡ true → counted (met old (OneOf numbers)) ≡ true
met_counted (Range low high) numbers h k = k
met_counted (OneOf ns) numbers h k = h

room_counted : (room : Bool) (b : Bound) (bs : List Bound) → counted b.set ≡ true → AreCounted bs → AreCounted (if room then b ∷ bs else bs)
room_counted true b bs h k = and_from (counted b.set) (list_all (λ b. counted b.set) bs) h k
room_counted false b bs h k = k

inserted_counted : (room : Bool) (key : PlainSum) (numbers : List ℕ) (bounds : List Bound) → counted (OneOf numbers) ≡ true → AreCounted bounds → AreCounted (inserted room key (OneOf numbers) bounds)
inserted_counted room key numbers [] h k = room_counted room (record { key = key; set = OneOf numbers }) [] h k
inserted_counted room key numbers (b ∷ bs) h k =
    let a = and_parts (counted b.set) (list_all (λ b. counted b.set) bs) k in
    elim (sum_cmp key b.key) as (λ o. AreCounted (elim o as (λ p. List Bound) [
      | Less ↦ if room then record { key = key; set = OneOf numbers } ∷ b ∷ bs else b ∷ bs
      | Equal ↦ record { key = b.key; set = met b.set (OneOf numbers) } ∷ bs
      | Greater ↦ b ∷ inserted room key (OneOf numbers) bs
    ])) [
      | Less ↦ room_counted room (record { key = key; set = OneOf numbers }) (b ∷ bs) h k
      | Equal ↦ and_from (counted (met b.set (OneOf numbers))) (list_all (λ b. counted b.set) bs) (met_counted b.set numbers a.0 h) a.1
      | Greater ↦ and_from (counted b.set) (list_all (λ b. counted b.set) (inserted room key (OneOf numbers) bs)) a.0 (inserted_counted room key numbers bs h a.1)
    ]

pub bound_counted : (key : PlainSum) (numbers : List ℕ) (bounds : List Bound) → AreFew numbers → AreCounted bounds → AreCounted (with_bound key (OneOf numbers) bounds)
unfolding with_bound
bound_counted key numbers bounds h k =
    inserted_counted (nat_lt (length bounds) 16) key numbers bounds
    (and_from (nat_le 1 (length numbers)) (nat_le (length numbers) 1024) (le-leb 1 (length numbers) h.0) (le-leb (length numbers) 1024 h.1)) k

-- ---- tables

entries_long : (image : Image) (t : Table) (x k : ℕ) (ns : List ℕ) → entries image t x k ≡ Some ns → length ns ≡ k
entries_long image t x zero ns h = let e : [] ≡ ns = cc in ap (λ (ms : List ℕ). length ms) (sym e)
entries_long image t x (suc k) ns h =
    in_front_long (entry_at image t x) (entries image t (x + 1) k) k ns (λ ms e. entries_long image t (x + 1) k ms e) h
  where
    in_front_long : (o : Option ℕ) (more : Option (List ℕ)) (k : ℕ) (ns : List ℕ) → ((ms : List ℕ) → more ≡ Some ms → length ms ≡ k) → in_front o more ≡ Some ns → length ns ≡ suc k
    in_front_long None more k ns rest h = absurd (let f : ⊥ = cc in f)
    in_front_long (Some n) None k ns rest h = absurd (let f : ⊥ = cc in f)
    in_front_long (Some n) (Some ms) k ns rest h =
        let e : n ∷ ms ≡ ns = cc in
        let l = rest ms refl in
        let m = ap (λ (xs : List ℕ). length xs) e in
        omega (arith, l, m)

pub mapped_few : (o : Option (List ℕ)) (ns : List ℕ) → ((ms : List ℕ) → o ≡ Some ms → AreFew ms) → option_map ascending_of o ≡ Some ns → AreFew ns
mapped_few None ns h e = absurd (let f : ⊥ = cc in f)
mapped_few (Some ms) ns h e = let s : ascending_of ms ≡ ns = cc in subst AreFew s (ascending_few ms (h ms refl))

table_few : (image : Image) (t : Table) (low high : ℕ) (ns : List ℕ) → low ≤ high → table_values image t low high ≡ Some ns → AreFew ns
table_few image t low high ns l h =
    elim (is_in_reach t low high) as (λ b. is_in_reach t low high ≡ b → (if b then option_map ascending_of (entries image t low (high + 1 - low)) else None) ≡ Some ns → AreFew ns) [
      | true ↦ λ e k.
          let near = ltb-true (high - low) 1024 (and_parts (nat_lt (high - low) 1024) (nat_le (t.base + t.scale * high + bytes_of t.width) (2 ^ 64)) e).0 in
          mapped_few (entries image t low (high + 1 - low)) ns
          (λ ms m. let long = entries_long image t low (high + 1 - low) ms m in (omega (arith, long, l), omega (arith, long, l, near))) k
      | false ↦ λ e k. absurd (let f : ⊥ = cc in f)
    ] refl h

-- a choice whose last entry isn't before the first
abbrev IsOrdered : Option Choice → Type 0
IsOrdered o = (c : Choice) → o ≡ Some c → c.low ≤ c.high

pub first_or : {X : Type 0} (P : X → Type 0) (o p : Option X) → ((x : X) → o ≡ Some x → P x) → ((x : X) → p ≡ Some x → P x) → (x : X) → option_or o p ≡ Some x → P x
first_or P None p h k x e = k x e
first_or P (Some y) p h k x e = let s : y ≡ x = cc in subst P s (h y refl)

choice_made : (low high scale : ℕ) (o : Option ℕ) → low ≤ high → IsOrdered (option_map (λ base. record { base = base; scale = scale; low = low; high = high }) o)
choice_made low high scale None l c e = absurd (let f : ⊥ = cc in f)
choice_made low high scale (Some base) l c e =
    let made : Choice = record { base = base; scale = scale; low = low; high = high } in
    let s : made ≡ c = cc in
    subst (λ (x : Choice). x.low ≤ x.high) s l

among_ordered : (at key : PlainSum) (low high : ℕ) (ks : List ℕ) → low ≤ high → IsOrdered (choice_among at key low high ks)
among_ordered at key low high [] l c e = absurd (let f : ⊥ = cc in f)
among_ordered at key low high (k ∷ ks) l c e =
    first_or (λ (x : Choice). x.low ≤ x.high) (choice_by at key low high k) (choice_among at key low high ks) (choice_made low high k (constant_alone (minus at (times k key))) l) (among_ordered at key low high ks l) c e

choice_ordered : (at key : PlainSum) (v : Values) → counted v ≡ true → IsOrdered (choice_of at key v)
choice_ordered at key (Range low high) h c e = among_ordered at key low high (1 ∷ 2 ∷ 4 ∷ 8 ∷ []) (leb-true low high h) c e
choice_ordered at key (OneOf numbers) h c e = absurd (let f : ⊥ = cc in f)

chosen_ordered : (at : PlainSum) (bounds : List Bound) → AreCounted bounds → IsOrdered (chosen at bounds)
chosen_ordered at [] h c e = absurd (let f : ⊥ = cc in f)
chosen_ordered at (b ∷ bs) h c e =
    let a = and_parts (counted b.set) (list_all (λ b. counted b.set) bs) h in
    first_or (λ (x : Choice). x.low ≤ x.high) (choice_of at b.key b.set) (chosen at bs) (choice_ordered at b.key b.set a.0) (chosen_ordered at bs a.1) c e

-- a load from a table gives few numbers
pub chosen_few : (image : Image) (at : PlainSum) (w : Width) (signed : Bool) (bounds : List Bound) (ns : List ℕ) → AreCounted bounds → chosen_values image at w signed bounds ≡ Some ns → AreFew ns
chosen_few image at w signed bounds ns h e = by (chosen at bounds) (chosen_ordered at bounds h) e
  where
    by : (o : Option Choice) → IsOrdered o → option_and_then (values_of image w signed) o ≡ Some ns → AreFew ns
    by None k e = absurd (let f : ⊥ = cc in f)
    by (Some c) k e = table_few image (record { width = w; signed = signed; base = c.base; scale = c.scale }) c.low c.high ns (k c refl) e
