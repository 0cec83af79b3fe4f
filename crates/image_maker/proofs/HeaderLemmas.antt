-- The headers, piece by piece.
use Rattle.std.proofs.Common.{◌≡◌, ℕ, ◌++◌, List}
use Rattle.std.proofs.lemmas.List.{append_assoc}
use Rattle.byteorder.specs.Endian.{little_bytes}
use Rattle.image_maker.specs.declared.headers.TheConstants.{FILE_HEADER, SEGMENT_PLACE}
use Rattle.image_maker.specs.Executable.{file_header, program_header}

-- what is appended piece by piece is appended as a whole
appended : (file place size align : List ℕ) → (((file ++ place) ++ size) ++ size) ++ align ≡ file ++ (((place ++ size) ++ size) ++ align)
appended file place size align = simp append_assoc

-- the headers are made of these pieces
pub parts_of_headers : (file : List ℕ) (size : ℕ) → ((((file ++ FILE_HEADER) ++ SEGMENT_PLACE) ++ little_bytes 8 size) ++ little_bytes 8 size) ++ little_bytes 8 0x1000 ≡ (file ++ file_header) ++ program_header size
unfolding file_header program_header
parts_of_headers file size = appended (file ++ FILE_HEADER) SEGMENT_PLACE (little_bytes 8 size) (little_bytes 8 0x1000)
