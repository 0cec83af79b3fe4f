-- An address is an entry that may be called exactly where a call of it begins a function that is not refused.
use Rattle.std.proofs.Common.{◌≡◌, ◌↔◌, ℕ, suc, ◌+◌, ◌<◌, true, false, Bool, ◌&&◌, ◌||◌, cond, eqb, List, [], ◌∷◌, ◌++◌, map, length, get_or, drop, add-one, drop-cons, Some, None, Option, Result, Ok, Err, refl, sym, ap, subst, ◌∙◌, arith, is_some}
use Rattle.std.specs.Prelude.{is_none, is_ok, if◌then◌else◌, IsSome, filter}
use Rattle.std.specs.List.{find}
use Rattle.std.specs.Option.{option_and_then}
use Rattle.std.specs.List.Sorted.{IsBinarySearchResult, IsSearchInRange}
use Rattle.std.specs.Ordering.{nat_cmp}
use Rattle.std.proofs.lemmas.Bool.{eqb-true, ne_eqb}
use Rattle.std.proofs.lemmas.List.{get_or_default}
use Rattle.simulation.specs.Graph.{unless_refused, callee}
use Rattle.elf_image.specs.declared.image.Image.{Image}
use Rattle.graph_data.specs.Parts.{Each, Ascends}
use Rattle.graph_data.specs.WellFormed.{IsWellFormed}
use Rattle.graph_data.specs.declared.graph.Refused.{Refused}
use Rattle.graph_data.specs.declared.graph.Function.{Function}
use Rattle.graph_data.specs.declared.graph.Graph.{Graph}
use Rattle.graph_data.proofs.LookupLemmas.{searched_by_key}
use Rattle.graph_runs.specs.World.{x86}
use Rattle.edge_checker.specs.Decisions.{entries_in, entries_of, is_callee}

-- the functions that are not refused, and whether one has the entry
abbrev open_ones : List Function → List Function
open_ones fs = filter (λ f. is_none f.refused) fs

abbrev any_of : ℕ → List Function → Bool
any_of t fs = is_callee (map (λ f. f.entry) fs) t

-- one more function, where it is not refused
one_more : (t : ℕ) (b : Bool) (f : Function) (fs : List Function) → any_of t (cond b (f ∷ fs) fs) ≡ ((b && eqb f.entry t) || any_of t fs)
one_more t true f fs = refl
one_more t false f fs = refl

-- ---- entries that ascend

weaker : {X : Type 0} (P Q : X → Type 0) → ((x : X) → P x → Q x) → (xs : List X) → Each P xs → Each Q xs
weaker P Q f [] p = tt
weaker P Q f (x ∷ xs) p = (f x p.0, weaker P Q f xs p.1)

above : (n : ℕ) (ms : List ℕ) → Ascends (n ∷ ms) → Each (λ m. n < m) ms
above n [] up = tt
above n (m ∷ ms) up = (up.0, weaker (λ k. m < k) (λ k. n < k) (λ k h. omega (arith, h, up.0)) ms (above m ms up.1))

others : (n : ℕ) (ms : List ℕ) → Ascends (n ∷ ms) → Ascends ms
others n [] up = tt
others n (m ∷ ms) up = up.1

neither : (b x y : Bool) → x ≡ false → y ≡ false → ((b && x) || y) ≡ false
neither b true y e f = absurd (cc)
neither b false true e f = absurd (cc)
neither true false false e f = refl
neither false false false e f = refl

-- below all entries is none
absent : (t : ℕ) (fs : List Function) → Each (λ n. t < n) (map (λ f. f.entry) fs) → any_of t (open_ones fs) ≡ false
absent t [] low = refl
absent t (f ∷ fs) low =
    let other : eqb f.entry t ≡ false = ne_eqb f.entry t (λ same. absurd (omega (arith, low.0, same))) in
    one_more t (is_none f.refused) f (open_ones fs) ∙ neither (is_none f.refused) (eqb f.entry t) (any_of t (open_ones fs)) other (absent t fs low.1)

-- ---- the first function with an entry

-- the function, where it is not refused
abbrev kept : Option Refused → Function → Option Function
kept why f = if (is_some why) then None else Some f

pick : (image : Image) (b : Bool) (f : Function) (o : Option Function) →
    is_some (option_and_then (unless_refused (x86 image)) (cond b (Some f) o)) ≡ cond b (is_some (kept f.refused f)) (is_some (option_and_then (unless_refused (x86 image)) o))
pick image true f o = refl
pick image false f o = refl

first_one : (why : Option Refused) (f : Function) (b y z : Bool) → (b ≡ true → y ≡ false) → y ≡ z → ((is_none why && b) || y) ≡ cond b (is_some (kept why f)) z
first_one None f true y z none_left e = refl
first_one None f false y z none_left e = e
first_one (Some why) f true y z none_left e = none_left refl
first_one (Some why) f false y z none_left e = e

same : (image : Image) (t : ℕ) (fs : List Function) → Ascends (map (λ f. f.entry) fs) →
    any_of t (open_ones fs) ≡ is_some (option_and_then (unless_refused (x86 image)) (find (λ f. eqb f.entry t) fs))
same image t [] up = refl
same image t (f ∷ fs) up =
    let entries = map (λ (h : Function). h.entry) fs in
    let low = above f.entry entries up in
    let none_left : eqb f.entry t ≡ true → any_of t (open_ones fs) ≡ false = λ e.
    absent t fs (weaker (λ n. f.entry < n) (λ n. t < n) (λ n h. omega (arith, h, eqb-true f.entry t e)) entries low) in
    one_more t (is_none f.refused) f (open_ones fs)
    ∙ first_one f.refused f (eqb f.entry t) (any_of t (open_ones fs)) _ none_left (same image t fs (others f.entry entries up))
    ∙ sym (pick image (eqb f.entry t) f (find (λ h. eqb h.entry t) fs))

pub callees : (image : Image) (g : Graph) (t : ℕ) → IsWellFormed g → (is_callee (entries_of g) t ≡ true) ↔ IsSome (callee (x86 image) g t)
callees image g t formed =
    let e = same image t g.functions formed.ascending in
    (λ h. sym e ∙ h, λ h. e ∙ h)

-- ---- the entries ascend, and a search finds them

lead : (n : ℕ) (ms : List ℕ) → Each (λ m. n < m) ms → Ascends ms → Ascends (n ∷ ms)
lead n [] low up = tt
lead n (m ∷ ms) low up = (low.0, up)

-- the entries of some of the functions are above what those of all are
low_ones : (n : ℕ) (fs : List Function) → Each (λ m. n < m) (map (λ f. f.entry) fs) → Each (λ m. n < m) (entries_in fs)
low_ones n [] low = tt
low_ones n (f ∷ fs) low =
    elim (is_none f.refused) as (λ b. Each (λ m. n < m) (map (λ h. h.entry) (cond b (f ∷ open_ones fs) (open_ones fs)))) [
      | true ↦ (low.0, low_ones n fs low.1)
      | false ↦ low_ones n fs low.1
    ]

ascend : (fs : List Function) → Ascends (map (λ f. f.entry) fs) → Ascends (entries_in fs)
ascend [] up = tt
ascend (f ∷ fs) up =
    let entries = map (λ (h : Function). h.entry) fs in
    let rest = ascend fs (others f.entry entries up) in
    elim (is_none f.refused) as (λ b. Ascends (map (λ h. h.entry) (cond b (f ∷ open_ones fs) (open_ones fs)))) [
      | true ↦ lead f.entry (entries_in fs) (low_ones f.entry fs (above f.entry entries up)) rest
      | false ↦ rest
    ]

pub entries_ascend : (g : Graph) → IsWellFormed g → Ascends (entries_of g)
entries_ascend g well = ascend g.functions well.ascending

-- the entries of functions, one more at the front
split_entries : (f : Function) (fs : List Function) → entries_in (f ∷ fs) ≡ entries_in (f ∷ []) ++ entries_in fs
split_entries f fs =
    elim (is_none f.refused) as (λ b. map (λ h. h.entry) (cond b (f ∷ open_ones fs) (open_ones fs)) ≡ map (λ h. h.entry) (cond b (f ∷ []) []) ++ entries_in fs) [
      | true ↦ refl
      | false ↦ refl
    ]

pub entries_at : (fs : List Function) (i : ℕ) (f : Function) → i < length fs → f ≡ get_or fs i f → entries_in (drop i fs) ≡ entries_in (f ∷ []) ++ entries_in (drop (i + 1) fs)
entries_at fs i f lt is =
    ap entries_in (drop-cons fs i f lt) ∙ ap (λ h. entries_in (h ∷ drop (suc i) fs)) (sym is) ∙ split_entries f (drop (suc i) fs)
    ∙ ap (λ n. entries_in (f ∷ []) ++ entries_in (drop n fs)) (sym (add-one i))

-- whether one passes is whether a first one is found
any_found : (t : ℕ) (ns : List ℕ) → is_callee ns t ≡ is_some (find (λ n. eqb n t) ns)
any_found t [] = refl
any_found t (n ∷ ns) =
    elim (eqb n t) as (λ b. (b || is_callee ns t) ≡ is_some (cond b (Some n) (find (λ m. eqb m t) ns))) [
      | true ↦ refl
      | false ↦ any_found t ns
    ]

map_same : (ns : List ℕ) → map (λ n. n) ns ≡ ns
map_same [] = refl
map_same (n ∷ ns) = ap (λ ms. n ∷ ms) (map_same ns)

-- a search by std finds an entry exactly where it may be called
pub searched : (t : ℕ) (ns : List ℕ) (r : Result ℕ ℕ) → Ascends ns → IsSearchInRange r (length ns) → IsBinarySearchResult (λ n. nat_cmp n t) ns r → is_callee ns t ≡ is_ok r
searched t ns (Ok i) up lt at =
    let found = searched_by_key (λ n. n) ns t (Ok i) (subst Ascends (sym (map_same ns)) up) lt at (get_or ns i 0) (get_or_default ns i 0 (get_or ns i 0) lt) in
    any_found t ns ∙ ap is_some (sym found)
searched t ns (Err i) up lt at =
    let found = searched_by_key (λ n. n) ns t (Err i) (subst Ascends (sym (map_same ns)) up) lt at in
    any_found t ns ∙ ap is_some (sym found)
