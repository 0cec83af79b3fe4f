-- Where segments ascend and do not overlap, the first one that ends past an address is the one that may have it.
use Rattle.std.proofs.Common.{◌≡◌, ℕ, zero, suc, ◌+◌, ◌<◌, ◌≤◌, Bool, true, false, cond, ◌&&◌, List, [], ◌∷◌, length, get_or, Option, Some, None, is_some, refl, ◌∙◌, ap, arith, find, slice_get, inl, inr, nat_le}
use Rattle.std.specs.List.{list_any}
use Rattle.std.specs.List.Sorted.{IsPartitionPoint, IsPartitionedBy}
use Rattle.std.proofs.lemmas.Bool.{leb-true, leb-false, le-leb}
use Rattle.std.proofs.lemmas.Bool.Decides.{nat_tests}
use Rattle.elf_image.specs.declared.image.Segment.{Segment}
use Rattle.elf_image.specs.Segments.{AreSegments}
use Rattle.elf_image.specs.Image.{has_code_at, holds_bytes, is_fixed}
use Rattle.elf_image.specs.At.{IsAt, kept}
use Rattle.elf_image.proofs.ListLemmas.{not-true, find-none, list_any-find, below-or-same}

-- whether the segment, if there is one, passes a test
abbrev pub passes : (Segment → Bool) → Option Segment → Bool
passes p None = false
passes p (Some s) = p s

is_some-kept : (p : Segment → Bool) (o : Option Segment) → is_some (kept p o) ≡ passes p o
is_some-kept p None = refl
is_some-kept p (Some s) = elim (p s) as (λ b. is_some (cond b (Some s) None) ≡ b) [ true ↦ refl | false ↦ refl ]

-- a segment of a list passes exactly where the one that may does
pub list_any-kept : (p : Segment → Bool) (segs : List Segment) (o : Option Segment) → find p segs ≡ kept p o → list_any p segs ≡ passes p o
list_any-kept p segs o e = list_any-find p segs ∙ ap is_some e ∙ is_some-kept p o

-- the tests of the look-ups are true only where the segment has the address
pub has_code_at-IsAt : (addr : ℕ) → IsAt addr (has_code_at addr)
has_code_at-IsAt addr = record {
  begins = λ s e. grind (arith, nat_tests);
  ends = λ s segment e. let holds = segment.holds_file in grind (arith, nat_tests);
}

pub holds_bytes-IsAt : (addr n : ℕ) → 1 ≤ n → IsAt addr (holds_bytes addr n)
holds_bytes-IsAt addr n l = record {
  begins = λ s e. grind (arith, nat_tests);
  ends = λ s segment e. grind (arith, nat_tests);
}

pub fixed-IsAt : (addr n : ℕ) → 1 ≤ n → IsAt addr (λ s. is_fixed s && holds_bytes addr n s)
fixed-IsAt addr n l = record {
  begins = λ s e. grind (arith, nat_tests);
  ends = λ s segment e. grind (arith, nat_tests);
}

-- the segments that end by an address come first
pub ends_by-partitioned : (segs : List Segment) → AreSegments segs → (addr : ℕ) → IsPartitionedBy (λ s. nat_le (s.lo + s.size) addr) segs
ends_by-partitioned segs are addr i j d l m e =
    elim (below-or-same i j l) [
      | inl before ↦
          let apart = are.ascend i j d before m in
          let end = leb-true _ _ e in
          le-leb _ _ (omega arith)
      | inr same ↦ rw same e
    ]

only_at : (p : Segment → Bool) (segs : List Segment) (at : ℕ)
    → ((k : ℕ) (d : Segment) → k < at → k < length segs → p (get_or segs k d) ≡ false)
    → ((k : ℕ) (d : Segment) → at < k → k < length segs → p (get_or segs k d) ≡ false)
    → find p segs ≡ kept p (slice_get segs at)
only_at p [] at before after = refl
only_at p (s ∷ segs) zero before after =
    elim (p s) as (λ b. cond b (Some s) (find p segs) ≡ cond b (Some s) None) [
      | true ↦ refl
      | false ↦ find-none p segs (λ k d l. after (suc k) d (omega arith) (omega arith))
    ]
only_at p (s ∷ segs) (suc at) before after =
    let first : p s ≡ false = before zero s (omega arith) (omega arith) in
    rw first (only_at p segs at (λ k d l m. before (suc k) d (omega arith) (omega arith)) (λ k d l m. after (suc k) d (omega arith) (omega arith)))

-- the segment at the place up to which all end by the address is the one that may pass
pub find-at : (segs : List Segment) → AreSegments segs → (addr at : ℕ)
    → IsPartitionPoint (λ s. nat_le (s.lo + s.size) addr ≡ true) (λ s. nat_le (s.lo + s.size) addr ≡ false) segs at
    → (p : Segment → Bool) → IsAt addr p → find p segs ≡ kept p (slice_get segs at)
find-at segs are addr at point p is_at =
    only_at p segs at
    (λ k d l m. not-true _ (λ yes.
    let ended = leb-true _ _ (point.0 k d (omega arith) l) in
    let inside = is_at.ends _ (are.each k d m) yes in
    omega arith))
    (λ k d l m. not-true _ (λ yes.
    let open_end = leb-false _ _ (point.1 at d (omega arith) (omega arith)) in
    let apart = are.ascend at k d l m in
    let begun = is_at.begins _ yes in
    omega arith))
