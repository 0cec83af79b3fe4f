-- The number in bytes of memory, as the forest and as the machine say it, after a store, and in the image.
use Rattle.std.proofs.Common.{◌≡◌, ◌≢◌, ℕ, zero, suc, ◌+◌, ◌-◌, ◌*◌, ◌%◌, ◌^◌, ◌<◌, ◌≤◌, true, false, cond, ◌&&◌, List, [], ◌∷◌, Some, drop, refl, sym, ap, ap₂, ◌∙◌, arith}
use Rattle.std.specs.Prelude.{All, find, nat_le, slice_index}
use Rattle.std.proofs.Math.Nat.{pow-suc}
use Rattle.std.proofs.lemmas.Bool.{leb-true, and_parts}
use Rattle.std.proofs.lemmas.List.{get_or-drop}
use Rattle.byteorder.specs.Endian.{little_number, little_from}
use Rattle.elf_image.specs.declared.image.Segment.{Segment}
use Rattle.elf_image.specs.declared.image.Image.{Image}
use Rattle.elf_image.specs.Image.{IsImage, is_fixed, holds_bytes, memory_of, number_in, fixed_of}
use Rattle.elf_image.specs.Segments.{IsSegment}
use Rattle.x86_machine.specs.Memory.{address_plus, loaded, stored}
use Rattle.x86_machine.specs.StepLaws.{StoreLaws}
use Rattle.forest_meaning.specs.Separate.{past}
use Rattle.forest_meaning.specs.Assumed.{HasSegment, Loaded}

-- a number of n bytes is below 256^n
pub loaded_below : (m : ℕ → ℕ) → ((at : ℕ) → m at < 256) → (n x : ℕ) → loaded m n x < 256 ^ n
unfolding loaded
loaded_below m h zero x = omega arith
loaded_below m h (suc n) x =
    let first : m x < 256 = h x in
    let rest : loaded m n (address_plus 1 x) < 256 ^ n = loaded_below m h n (address_plus 1 x) in
    omega (arith, first, rest, pow-suc 256 n)

-- ---- after a store

module _ (st : StoreLaws) (m : ℕ → ℕ) (a x k : ℕ) (small : a ≤ 8) (low : x < 2 ^ 64) where
  not_behind : (p j : ℕ) → p < 2 ^ 64 → a ≤ past x p → j < a → p ≢ address_plus j x
  not_behind p j lt far near e = omega arith

  pub store_differs : (p : ℕ) → p < 2 ^ 64 → a ≤ past x p → stored m a x k p ≡ m p
  store_differs p lt far = st.apart m a x k p low (λ j near. not_behind p j lt far near)

  pub store_number : loaded (stored m a x k) a x ≡ k % 256 ^ a
  store_number = st.back m a x k low small

-- ---- in the image

little_loaded : (m : ℕ → ℕ) (xs : List ℕ) (c i n : ℕ) → c + i + n < 2 ^ 64 → ((k : ℕ) → k < i + n → m (c + k) ≡ slice_index xs k) → loaded m n (c + i) ≡ little_from i n xs
unfolding loaded
little_loaded m xs c i zero h same = refl
little_loaded m xs c i (suc n) h same =
    let e : address_plus 1 (c + i) ≡ c + suc i = omega arith in
    ap₂ (λ b r. b + 256 * r) (same i (omega arith)) (ap (loaded m n) e ∙ little_loaded m xs c (suc i) n (omega arith) (λ k lt. same k (omega arith)))

segment_number : (m : ℕ → ℕ) (c n : ℕ) (s : Segment) → IsSegment s → HasSegment m s → (is_fixed s && holds_bytes c n s) ≡ true → loaded m n c ≡ little_number n (drop (c - s.lo) (memory_of s))
segment_number m c n s is has e =
    let p = and_parts (is_fixed s) (holds_bytes c n s) e in
    let q = and_parts (nat_le s.lo c) (nat_le (c + n) (s.lo + s.size)) p.1 in
    let low : s.lo ≤ c = leb-true _ _ q.0 in
    let high : c + n ≤ s.lo + s.size = leb-true _ _ q.1 in
    let ends : s.lo + s.size < 2 ^ 64 = is.ends in
    let start : c + 0 ≡ c = omega arith in
    ap (loaded m n) (sym start)
    ∙ little_loaded m (drop (c - s.lo) (memory_of s)) c 0 n (omega arith) (λ k lt.
    let at : c + k ≡ s.lo + (c - s.lo + k) = omega arith in
    ap m at ∙ has.bytes p.0 (c - s.lo + k) (omega arith) ∙ sym (get_or-drop (c - s.lo) (memory_of s) k 0))

number_of : (m : ℕ → ℕ) (c n k : ℕ) (segs : List Segment) → All IsSegment segs → All (λ s. HasSegment m s) segs
    → number_in c n (find (λ s. is_fixed s && holds_bytes c n s) segs) ≡ Some k → loaded m n c ≡ k
number_of m c n k [] is has = λ e. absurd (cc)
number_of m c n k (s ∷ ss) is has =
    (elim (is_fixed s && holds_bytes c n s) as (λ o. (is_fixed s && holds_bytes c n s) ≡ o → number_in c n (cond o (Some s) (find (λ s. is_fixed s && holds_bytes c n s) ss)) ≡ Some k → loaded m n c ≡ k) [
      | true ↦ λ t e. let f : little_number n (drop (c - s.lo) (memory_of s)) ≡ k = cc in segment_number m c n s (is zero s (omega arith)) (has zero s (omega arith)) t ∙ f
      | false ↦ λ t e. number_of m c n k ss (λ j d lt. is (suc j) d (omega arith)) (λ j d lt. has (suc j) d (omega arith)) e
    ]) refl

-- the fixed bytes that the image gives are those of the memory
pub fixed_loaded : (image : Image) (m : ℕ → ℕ) (c n k : ℕ) → IsImage image → Loaded image m → fixed_of image c n ≡ Some k → loaded m n c ≡ k
fixed_loaded image m c n k is has e = number_of m c n k image.segs is.each has e
