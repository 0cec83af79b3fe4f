-- The words that lead to executable segments are the roots.
use Rattle.std.proofs.Common.{◌≡◌, ◌<◌, inl, inr, ℕ, suc, ◌+◌, ◌-◌, ◌++◌, ◌||◌, ◌==◌, Bool, true, false, not, cond, List, [], ◌∷◌, length, take, drop, get_or, find, filter, eqb, min, refl, sym, ap, ◌∙◌, subst, arith, Contains}
use Rattle.std.specs.List.{flat_map, list_any, dedup}
use Rattle.std.proofs.lemmas.Grind.{common_steps}
use Rattle.std.proofs.lemmas.List.{length-take, length-drop, append_assoc, append-nil}
use Rattle.std.proofs.lemmas.List.Concat.{flat_map-append}
use Rattle.std.proofs.lemmas.List.Elements.{filter-append, filter_passes, All-contains, All-filter, All-contains_itself, Contains-append_left, Contains-append_right, Contains-append_cases, Contains-push_cases}
use Rattle.std.specs.Ordering.{nat_cmp}
use Rattle.std.specs.List.Sorted.{IsPermutation, IsSorted}
use Rattle.std.proofs.lemmas.List.Kept.{Contains-dedup_nat, Contains-from_dedup}
use Rattle.std.proofs.lemmas.List.Sorted.{Contains-permutation, IsPermutation-sym}
use Rattle.std.proofs.lemmas.Map.Keys.{IsStrictlyIncreasing-dedup}
use Rattle.std.proofs.Math.Seq.{take-suc}
use Rattle.elf_image.specs.Segments.{Executable}
use Rattle.elf_image.specs.declared.image.Segment.{Segment}
use Rattle.elf_image.specs.Image.{has_code_at, code_in}
use Rattle.root_scan.specs.Words.{is_within}
use Rattle.root_scan.specs.Roots.{pointers_to, all_data_words, AreRoots}

-- one element more
take_more : {X : Type 0} (xs : List X) (i : ℕ) (d : X) → i < length xs → take (i + 1) xs ≡ take i xs ++ (get_or xs i d ∷ [])
take_more xs i d inside = let e : i + 1 ≡ suc i = omega arith in ap (λ k. take k xs) e ∙ take-suc xs i d inside

-- a loop that appends what each element gives
pub flat_map_next : {X : Type 0} (f : X → List ℕ) (found : List ℕ) (xs : List X) (i : ℕ) (d : X) → i < length xs → (found ++ flat_map f (take i xs)) ++ f (get_or xs i d) ≡ found ++ flat_map f (take (i + 1) xs)
flat_map_next f found xs i d inside =
    append_assoc found (flat_map f (take i xs)) (f (get_or xs i d))
    ∙ ap (λ ys. found ++ (flat_map f (take i xs) ++ ys)) (sym (append-nil (f (get_or xs i d))))
    ∙ ap (λ ys. found ++ ys) (sym (flat_map-append f (take i xs) (get_or xs i d ∷ [])))
    ∙ ap (λ ys. found ++ flat_map f ys) (sym (take_more xs i d inside))

-- the same behind a filter
pub filtered_next : {X : Type 0} (p : ℕ → Bool) (f : X → List ℕ) (found : List ℕ) (xs : List X) (i : ℕ) (d : X) → i < length xs → (found ++ filter p (flat_map f (take i xs))) ++ filter p (f (get_or xs i d)) ≡ found ++ filter p (flat_map f (take (i + 1) xs))
filtered_next p f found xs i d inside =
    append_assoc found (filter p (flat_map f (take i xs))) (filter p (f (get_or xs i d)))
    ∙ ap (λ ys. found ++ ys) (sym (filter-append p (flat_map f (take i xs)) (f (get_or xs i d))))
    ∙ ap (λ ys. found ++ filter p ys) (flat_map_next f [] xs i d inside)

-- nothing is in an empty list
not_in_nothing : (x : ℕ) → Contains [] x → ⊥
not_in_nothing x (k, below, is) = omega arith

-- what a filter has passes, and is in the list
Contains-from_filter : (p : ℕ → Bool) (xs : List ℕ) (x : ℕ) → Contains (filter p xs) x → Contains xs x × (p x ≡ true)
Contains-from_filter p xs x in_it = (
  All-contains (Contains xs) (filter p xs) x (All-filter p (Contains xs) xs (All-contains_itself xs)) in_it,
  All-contains (λ y. p y ≡ true) (filter p xs) x (filter_passes p xs) in_it,
)

-- what is in the list and passes, the filter has
Contains-filter : (p : ℕ → Bool) (xs : List ℕ) (x : ℕ) → Contains xs x → p x ≡ true → Contains (filter p xs) x
Contains-filter p [] x in_it passes = in_it
Contains-filter p (y ∷ ys) x in_it passes =
    let one : filter p (y ∷ ys) ≡ filter p (y ∷ []) ++ filter p ys = filter-append p (y ∷ []) ys in
    let P : List ℕ → Type 0 = λ zs. Contains zs x in
    subst P (sym one) (elim (Contains-append_cases (y ∷ []) ys x in_it) [
      | inl here ↦ Contains-append_left (filter p (y ∷ [])) (filter p ys) x (elim (Contains-push_cases [] y x here) [
        | inl none ↦ absurd (not_in_nothing x none)
        | inr same ↦
            let passed : p y ≡ true = ap p same ∙ passes in
            let kept : filter p (y ∷ []) ≡ y ∷ [] = rw passed refl in
            subst P (sym kept) here
      ])
      | inr there ↦ Contains-append_right (filter p (y ∷ [])) (filter p ys) x (Contains-filter p ys x there passes)
    ])

-- where a segment has the address among its file bytes, there are bytes from it on
code_there : (root : ℕ) (s : Segment) → has_code_at root s ≡ true → not (length (take 15 (drop (root - s.lo) s.bytes)) == 0) ≡ true
code_there root s has =
    let long : length (take 15 (drop (root - s.lo) s.bytes)) ≡ min 15 (length s.bytes - (root - s.lo)) = omega (arith, length-take 15 (drop (root - s.lo) s.bytes), length-drop (root - s.lo) s.bytes) in
    grind (arith, common_steps)

-- an address is code where an executable segment has it among its file bytes
code_is : (root : ℕ) (segments : List Segment) → not (length (code_in root (find (has_code_at root) segments)) == 0) ≡ list_any (has_code_at root) segments
code_is root [] = refl
code_is root (s ∷ rest) = by (has_code_at root s) refl (code_is root rest)
  where
    by : (b : Bool) → has_code_at root s ≡ b → not (length (code_in root (find (has_code_at root) rest)) == 0) ≡ list_any (has_code_at root) rest → not (length (code_in root (find (has_code_at root) (s ∷ rest))) == 0) ≡ list_any (has_code_at root) (s ∷ rest)
    by true has later = rw has (code_there root s has)
    by false has later = rw has later

-- a test joined by or to one that is true is true
either : (a b : Bool) → b ≡ true → (a || b) ≡ true
either true b e = refl
either false b e = e

-- what leads to a segment is a word of the data, and the segment has code there
pointer_at : (segments : List Segment) (s : Segment) (root : ℕ) → Contains (pointers_to segments s) root → Contains (all_data_words segments) root × (has_code_at root s ≡ true)
pointer_at segments s root here = by (s.exec) refl
  where
    by : (b : Bool) → s.exec ≡ b → Contains (all_data_words segments) root × (has_code_at root s ≡ true)
    by true exec =
        let P : Bool → Type 0 = λ b. Contains (cond b (filter (is_within s.lo (s.lo + length s.bytes)) (all_data_words segments)) []) root in
        let parts = Contains-from_filter (is_within s.lo (s.lo + length s.bytes)) (all_data_words segments) root (subst P exec here) in
        (parts.0, grind (arith, exec, parts.1))
    by false exec =
        let P : Bool → Type 0 = λ b. Contains (cond b (filter (is_within s.lo (s.lo + length s.bytes)) (all_data_words segments)) []) root in
        absurd (not_in_nothing root (subst P exec here))

-- a word of the data leads to a segment that has code there
pointer_from : (segments : List Segment) (s : Segment) (root : ℕ) → Contains (all_data_words segments) root → has_code_at root s ≡ true → Contains (pointers_to segments s) root
pointer_from segments s root word has =
    let exec : s.exec ≡ true = grind (arith, has) in
    let within : is_within s.lo (s.lo + length s.bytes) root ≡ true = grind (arith, has) in
    let P : Bool → Type 0 = λ b. Contains (cond b (filter (is_within s.lo (s.lo + length s.bytes)) (all_data_words segments)) []) root in
    subst P (sym exec) (Contains-filter (is_within s.lo (s.lo + length s.bytes)) (all_data_words segments) root word within)

-- what leads to some segment is a word of the data, and code is there
pointer_is : (segments codes : List Segment) (root : ℕ) → Contains (flat_map (pointers_to segments) codes) root → Contains (all_data_words segments) root × (list_any (has_code_at root) codes ≡ true)
pointer_is segments [] root in_it = absurd (not_in_nothing root in_it)
pointer_is segments (s ∷ rest) root in_it = elim (Contains-append_cases (pointers_to segments s) (flat_map (pointers_to segments) rest) root in_it) [
  | inl here ↦ let at = pointer_at segments s root here in (at.0, rw (at.1) refl)
  | inr there ↦ let later = pointer_is segments rest root there in (later.0, either (has_code_at root s) (list_any (has_code_at root) rest) (later.1))
]

-- a word of the data that is an address of code leads to some segment
pointer_of : (segments codes : List Segment) (root : ℕ) → Contains (all_data_words segments) root → list_any (has_code_at root) codes ≡ true → Contains (flat_map (pointers_to segments) codes) root
pointer_of segments [] root word has = absurd (cc)
pointer_of segments (s ∷ rest) root word has = by (has_code_at root s) refl (pointer_of segments rest root word)
  where
    by : (b : Bool) → has_code_at root s ≡ b → (list_any (has_code_at root) rest ≡ true → Contains (flat_map (pointers_to segments) rest) root) → Contains (flat_map (pointers_to segments) (s ∷ rest)) root
    by true here later = Contains-append_left (pointers_to segments s) (flat_map (pointers_to segments) rest) root (pointer_from segments s root word here)
    by false here later =
        let there : list_any (has_code_at root) rest ≡ true = rw here at has in
        Contains-append_right (pointers_to segments s) (flat_map (pointers_to segments) rest) root (later there)

-- the words that lead to segments, in order and each once, are the roots
pub roots_are : (image : Executable) (found sorted : List ℕ) → found ≡ flat_map (pointers_to image.segs) image.segs → IsPermutation found sorted → IsSorted nat_cmp sorted → AreRoots image (dedup eqb sorted)
roots_are image found sorted are permuted in_order = record {
  ascending = IsStrictlyIncreasing-dedup sorted in_order;
  members = λ root. (
    (λ kept.
        let in_sorted = Contains-from_dedup eqb sorted root kept in
        let in_found = Contains-permutation sorted found root (IsPermutation-sym found sorted permuted) in_sorted in
        let P : List ℕ → Type 0 = λ xs. Contains xs root in
        let parts = pointer_is image.segs image.segs root (subst P are in_found) in
        (parts.0, code_is root image.segs ∙ parts.1)),
    (λ is.
        let P : List ℕ → Type 0 = λ xs. Contains xs root in
        let has : list_any (has_code_at root) image.segs ≡ true = sym (code_is root image.segs) ∙ is.1 in
        let in_found = subst P (sym are) (pointer_of image.segs image.segs root (is.0) has) in
        Contains-dedup_nat sorted root (Contains-permutation found sorted root permuted in_found)),
  );
}
