-- The words among bytes, one address after the other.
use Rattle.std.specs.Prelude.{ℕ, ◌+◌, ◌%◌, ◌==◌, ◌&&◌, Bool, if◌then◌else◌, List, [], ◌∷◌, ◌++◌, length, nat_le, nat_lt}
use Rattle.byteorder.specs.Endian.{little_number}

-- eight bytes begin a word where they stand at a multiple of 8
abbrev pub begins_word : ℕ → List ℕ → Bool
begins_word address bytes = address % 8 == 0 && nat_le 8 (length bytes)

-- the little-endian word at an address from which on there are these bytes
abbrev pub word_at : ℕ → List ℕ → List ℕ
word_at address bytes = if begins_word address bytes then little_number 8 bytes ∷ [] else []

-- the words at each address, from that of the first byte on
abbrev pub words_from : ℕ → List ℕ → List ℕ
words_from address [] = []
words_from address (byte ∷ rest) =
    word_at address (byte ∷ rest) ++ words_from (address + 1) rest

-- a number is at least the one and below the other
abbrev pub is_within : ℕ → ℕ → ℕ → Bool
is_within lo hi number = nat_le lo number && nat_lt number hi
