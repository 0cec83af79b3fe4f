-- What is assumed of a function's memory: its frame lies in no segment, and the listed pairs of regions are separate.
use Rattle.std.specs.Prelude.{◌≡◌, ℕ, ◌+◌, ◌^◌, ◌<◌, ◌≤◌, ◌⊎◌, All, List, [], ◌∷◌, true, slice_index}
use Rattle.sym_terms.specs.Value.{Valuation, value}
use Rattle.elf_image.specs.declared.image.Segment.{Segment}
use Rattle.elf_image.specs.declared.image.Image.{Image}
use Rattle.elf_image.specs.Image.{IsImage, is_fixed, memory_of}
use Rattle.memory_regions.specs.declared.region.Region.{Region}
use Rattle.memory_regions.specs.Relate.{Known}
use Rattle.forest_meaning.specs.Separate.{past, Separate}

-- a memory has the bytes of a segment, where the program does not change it
pub record HasSegment (m : ℕ → ℕ) (s : Segment) : Type 0 where
  pub bytes : is_fixed s ≡ true → (k : ℕ) → k < s.size → m (s.lo + k) ≡ slice_index (memory_of s) k

-- a memory has the bytes of each segment that the program does not change
abbrev pub Loaded : Image → (ℕ → ℕ) → Type 0
Loaded image m = All (λ s. HasSegment m s) image.segs

-- an address lies in none of the segments
abbrev pub IsOutside : ℕ → List Segment → Type 0
IsOutside p segments = All (λ s. (p < s.lo) ⊎ (s.lo + s.size ≤ p)) segments

-- an address that is o past the entry's stack pointer lies in the frame
abbrev pub InFrame : ℕ → ℕ → ℕ → Type 0
InFrame below above o = (o < above) ⊎ (2 ^ 64 ≤ o + below)

-- no address of the frame around a stack pointer lies in a segment
abbrev pub Framed : Image → ℕ → ℕ → ℕ → Type 0
Framed image below above stack =
    (p : ℕ) → p < 2 ^ 64 → InFrame below above (past stack p) → IsOutside p image.segs

-- two regions have no byte in common
abbrev pub PairHolds : Valuation → Region × Region → Type 0
PairHolds u pair = Separate (value u pair.0.at) pair.0.bytes (value u pair.1.at) pair.1.bytes

-- the regions of each pair are separate
abbrev pub PairsHold : Valuation → List (Region × Region) → Type 0
PairsHold u [] = Unit {0}
PairsHold u (pair ∷ pairs) = PairHolds u pair × PairsHold u pairs

-- the frame and the pairs of a site hold: rsp0 has 64 bits, no address of the frame lies in a segment, and the regions
-- of each pair are separate
pub record Keeps (u : Valuation) (k : Known) : Type 0 where
  pub image : IsImage k.image
  pub stack : u.entry 4 < 2 ^ 64
  pub frame : Framed k.image k.below k.above (u.entry 4)
  pub pairs : PairsHold u k.seps
