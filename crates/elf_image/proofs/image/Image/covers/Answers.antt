-- Some segment has the bytes exactly where the one that may have them does.
use Rattle.std.proofs.Common.{◌∙◌, ap, sym}
use Rattle.std.specs.Option.{option_copied}
use Rattle.elf_image.specs.Image.{holds_bytes}
use Rattle.elf_image.proofs.AddressLemmas.{holds_bytes-IsAt, list_any-kept, passes}
use Rattle.elf_image.proofs.image.Image.covers.Goals as goal

pub returns-in_default : goal.returns-in_default
returns-in_default c =
    let test = holds_bytes c.args.addr c.args.n in
    let found = c.segment_at.ensures test (holds_bytes-IsAt c.args.addr c.args.n c.requires) in
    sym (list_any-kept test c.args.self.now.segs _ found ∙ ap (λ o. passes test (option_copied o)) c.in_default.is)

pub returns : goal.returns
returns c =
    let test = holds_bytes c.args.addr c.args.n in
    let found = c.segment_at.ensures test (holds_bytes-IsAt c.args.addr c.args.n c.requires) in
    c.holds.ensures
    ∙ sym (list_any-kept test c.args.self.now.segs _ found ∙ ap (λ o. passes test (option_copied o)) c.in-Some.is)
