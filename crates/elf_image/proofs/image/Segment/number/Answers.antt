-- The bytes that are copied are those of the file, and zeros stand after them in both lists.
use Rattle.std.proofs.Common.{◌≡◌, ◌∙◌, ap, min, length, take, drop, ◌-◌, ◌++◌, replicate, List, ℕ}
use Rattle.byteorder.specs.Endian.{little_number}
use Rattle.elf_image.proofs.NumberLemmas.{number-padded}
use Rattle.elf_image.proofs.image.Segment.number.Goals as goal

pub returns : goal.returns
returns c =
    let n = c.args.n in
    let known = c.min-known.result in
    let from = c.min.result in
    let bytes = c.args.self.now.bytes in
    let whole = c.as_slice-bytes.ensures in
    let from_is : from ≡ min (length bytes) c.args.at = rw whole at c.min.ensures in
    let known_is : known ≡ min (length (take (length bytes - from) (drop from bytes))) n = rw whole at c.min-known.ensures in
    let copied : c.copy_from_slice.new.self ≡ take known (take (length bytes - from) (drop from bytes)) = rw whole at c.copy_from_slice.ensures.after in
    c.read_uint.ensures
    ∙ ap (λ (xs : List ℕ). little_number n (xs ++ drop known (replicate 8 0))) copied
    ∙ number-padded n c.args.at from known 8 c.args.self.now from_is known_is
