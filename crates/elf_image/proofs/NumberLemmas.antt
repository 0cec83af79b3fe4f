-- The number in bytes of which some are those of a file and the rest zeros.
use Rattle.std.proofs.Common.{◌≡◌, ℕ, zero, suc, ◌+◌, ◌-◌, ◌<◌, ◌≤◌, min, List, [], ◌∷◌, ◌++◌, length, take, drop, replicate, slice_index, refl, sym, ◌∙◌, ap, arith, inl, inr, length-take, length-drop}
use Rattle.std.proofs.lemmas.List.{get_or-drop, get_or-take, get_or_past}
use Rattle.byteorder.specs.Endian.{little_number, little_from}
use Rattle.elf_image.specs.declared.image.Segment.{Segment}
use Rattle.elf_image.specs.Image.{memory_of}
use Rattle.elf_image.proofs.ListLemmas.{below-or-from}

-- bytes that are equal place by place give one number
little_from-same : (i n : ℕ) (xs ys : List ℕ) → ((k : ℕ) → k < i + n → slice_index xs k ≡ slice_index ys k) → little_from i n xs ≡ little_from i n ys
little_from-same i zero xs ys same = refl
little_from-same i (suc n) xs ys same =
    let first = same i (omega arith) in
    let rest = little_from-same (suc i) n xs ys (λ k l. same k (omega arith)) in
    cc

-- what stands in a list of zeros, and past its end
zeros-at : (m k : ℕ) → slice_index (replicate m 0) k ≡ 0
zeros-at zero k = refl
zeros-at (suc m) zero = refl
zeros-at (suc m) (suc k) = zeros-at m k

-- zeros after a list are what stands past its end
zeros-after : (xs zeros : List ℕ) → ((k : ℕ) → slice_index zeros k ≡ 0) → (k : ℕ) → slice_index (xs ++ zeros) k ≡ slice_index xs k
zeros-after [] zeros all k = all k
zeros-after (x ∷ xs) zeros all zero = refl
zeros-after (x ∷ xs) zeros all (suc k) = zeros-after xs zeros all k

-- a place that the first elements reach, or that is past the list
within-take : (m k : ℕ) (xs : List ℕ) → (m ≤ k → length xs ≤ k) → slice_index (take m xs) k ≡ slice_index xs k
within-take m k xs past =
    elim (below-or-from k m) [
      | inl inside ↦ get_or-take m xs k 0 inside
      | inr outside ↦
          get_or_past (take m xs) k 0 (omega (arith, length-take m xs))
          ∙ sym (get_or_past xs k 0 (past outside))
    ]

-- the place k after a place, which is the end where it is past that
place-after : (at k : ℕ) (xs : List ℕ) → slice_index (drop (min (length xs) at) xs) k ≡ slice_index xs (at + k)
place-after at k xs =
    elim (below-or-from at (length xs)) [
      | inl inside ↦ let e : min (length xs) at ≡ at = omega arith in rw e (get_or-drop at xs k 0)
      | inr outside ↦
          get_or-drop (min (length xs) at) xs k 0
          ∙ get_or_past xs (min (length xs) at + k) 0 (omega arith)
          ∙ sym (get_or_past xs (at + k) 0 (omega arith))
    ]

-- the first n bytes from a place on, with zeros after them, give the number in the segment there
pub number-padded : (n at from known r : ℕ) (s : Segment)
    → from ≡ min (length s.bytes) at
    → known ≡ min (length (take (length s.bytes - from) (drop from s.bytes))) n
    → little_number n (take known (take (length s.bytes - from) (drop from s.bytes)) ++ drop known (replicate r 0)) ≡ little_number n (drop at (memory_of s))
number-padded n at from known r s from_is known_is =
    let rest = drop from s.bytes in
    let long = length-drop from s.bytes in
    let short = length-take (length s.bytes - from) rest in
    little_from-same 0 n _ _ (λ k l.
    zeros-after (take known (take (length s.bytes - from) rest)) (drop known (replicate r 0)) (λ j. get_or-drop known (replicate r 0) j 0 ∙ zeros-at r (known + j)) k
    ∙ within-take known k (take (length s.bytes - from) rest) (λ past. omega arith)
    ∙ within-take (length s.bytes - from) k rest (λ past. omega arith)
    ∙ ap (λ f. slice_index (drop f s.bytes) k) from_is
    ∙ place-after at k s.bytes
    ∙ sym (zeros-after s.bytes (replicate (s.size - length s.bytes) 0) (zeros-at (s.size - length s.bytes)) (at + k))
    ∙ sym (get_or-drop at (memory_of s) k 0))
