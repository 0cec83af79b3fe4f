-- What a loop over fields keeps as it reads them.
use Rattle.std.proofs.Common.{ℕ, ◌+◌, List, ◌++◌, length, Option, Some, None}

-- how much is left after a separator
abbrev pub left : Option (List ℕ) → ℕ
left None = 0
left (Some bytes) = length bytes + 1

-- those that were read before, before
abbrev pub after_those : {A : Type 0} → List A → Option (List A) → Option (List A)
after_those xs None = None
after_those xs (Some ys) = Some (xs ++ ys)
