-- A file that is read piece by piece, and what the calls of a shelf keep one after another.
use Rattle.std.proofs.Common.{◌≡◌, ℕ, ◌+◌, ◌<◌, List, ◌++◌, length, take, drop, sym, ◌∙◌, ap, arith, length-append, length-take}
use Rattle.std.proofs.lemmas.List.{take_all}
use Rattle.std.proofs.Math.Seq.{take-add}
use Rattle.std.specs.declared.option.Option.{Option}
use Rattle.wire_io.specs.Shelf.{GivesPiece, GoesOn, IsFront, IsAll, IsLonger}

-- what has come of a file is its front, and n bytes more are read right after it
module _ (told : Option (List ℕ)) (whole old new : List ℕ) (place n : ℕ) (at : place ≡ length whole) (front : IsFront whole told) (piece : GivesPiece told place old new n) (same : length new ≡ length old) where
  -- what has come is n bytes longer
  grown : length (whole ++ take n new) ≡ length whole + n
  grown = omega (arith, length-append whole (take n new), length-take n new, piece.fits)

  -- what has come and the next piece are the file's front
  pub front_grows : IsFront (whole ++ take n new) told
  front_grows file is =
      ap (λ (l : List ℕ). l ++ take n new) (front file is)
      ∙ ap (λ (l : List ℕ). take (length whole) file ++ l) (piece.bytes file is ∙ ap (λ (k : ℕ). take n (drop k file)) at)
      ∙ sym (take-add (length whole) n file)
      ∙ ap (λ (k : ℕ). take k file) (sym grown)

  -- where no byte came, what has come is all
  pub all_at_end : n ≡ 0 → 0 < length old → IsAll (whole ++ take n new) told
  all_at_end none room file is =
      front_grows file is ∙ take_all (length (whole ++ take n new)) file (omega (arith, grown, at, piece.at_end file is none room))

-- a file is longer than a limit that its front is over
pub longer : (told : Option (List ℕ)) (whole : List ℕ) (limit : ℕ) → IsFront whole told → limit < length whole → IsLonger told limit
longer told whole limit front over file is =
    let long : length whole ≡ length (take (length whole) file) = ap length (front file is) in omega (arith, long, length-take (length whole) file)

-- a shelf that was not called goes on
pub GoesOn-refl : (told : List ℕ → Option (List ℕ)) (before : List ℕ → ℕ) → GoesOn told told before before
GoesOn-refl told before = record { same = λ i. told; rises = λ name. omega arith }
