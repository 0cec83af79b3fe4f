-- Files by their names: what a read of a piece gives, and what each call of a shelf keeps.
use Rattle.std.specs.Prelude.{◌≡◌, ℕ, ◌<◌, ◌≤◌, List, length, take, drop, Some}
use Rattle.std.specs.declared.option.Option.{Option}

-- The first n places of a piece have the file's bytes from a place on, where the file is told.
pub record GivesPiece (told : Option (List ℕ)) (place : ℕ) (old new : List ℕ) (n : ℕ) : Type 0 where
  pub fits : n ≤ length old
  -- the other places are as they were
  pub rest : drop n new ≡ drop n old
  pub bytes : (file : List ℕ) → told ≡ Some file → take n new ≡ take n (drop place file)
  -- nothing comes for a piece that isn't empty only at the file's end
  pub at_end : (file : List ℕ) → told ≡ Some file → n ≡ 0 → 0 < length old → length file ≤ place

-- What is told stays told, and the count of no name falls.
pub record GoesOn (told later : List ℕ → Option (List ℕ)) (before now : List ℕ → ℕ) : Type 0 where
  pub same : later ≡ told
  pub rises : (name : List ℕ) → before name ≤ now name

-- the bytes are the first ones of the file, where it is told
abbrev pub IsFront : List ℕ → Option (List ℕ) → Type 0
IsFront bytes told = (file : List ℕ) → told ≡ Some file → bytes ≡ take (length bytes) file

-- the bytes are the whole file, where it is told
abbrev pub IsAll : List ℕ → Option (List ℕ) → Type 0
IsAll bytes told = (file : List ℕ) → told ≡ Some file → bytes ≡ file

-- the file has more bytes than the limit, where it is told
abbrev pub IsLonger : Option (List ℕ) → ℕ → Type 0
IsLonger told limit = (file : List ℕ) → told ≡ Some file → limit < length file
