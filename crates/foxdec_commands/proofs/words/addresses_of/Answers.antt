use Rattle.std.proofs.Common.{◌≡◌, ◌++◌, sym, ap, subst, ◌∙◌, string_bytes, append-nil}
use Rattle.foxdec_commands.specs.Words.{addresses_of}
use Rattle.foxdec_commands.proofs.WordLemmas.{none_behind}
use Rattle.foxdec_commands.proofs.words.addresses_of.Goals as goal

pub returns : goal.returns
returns c =
    sym (append-nil c.loop-rest.found.items)
    ∙ ap (λ more. c.loop-rest.found.items ++ more) (sym (none_behind string_bytes c.args.option.now c.loop-rest.rest.now c.in_default.len_below))
    ∙ c.loop-rest.invariant
