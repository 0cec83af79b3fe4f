use Rattle.std.proofs.Common.{◌≡◌, ◌∷◌, ◌∙◌, ap, subst, map, string_bytes, All, IsSome}
use Rattle.elf_image.specs.declared.image.Image.{Image}
use Rattle.graph_data.specs.Lookup.{function_at}
use Rattle.foxdec_commands.specs.Words.{root_word, addresses_of}
use Rattle.foxdec_commands.proofs.commands.lifted_text.Goals as goal

pub returns : goal.returns
returns c =
    let entry : c.image.inside.entry ≡ c.args.image.now.entry = ap {A = Image} (λ i. i.entry) c.image.view_is in
    let entries = c.in_ok-policy.ensures.roots ∙ ap (λ e. e ∷ addresses_of root_word (map string_bytes c.args.words.now)) entry in
    record {
      graph = c.in_ok-g.g;
      formed = c.in_ok-g.ensures.formed;
      valid = c.in_ok-g.ensures.valid;
      entered = subst (λ entries. All (λ entry. IsSome (function_at c.in_ok-g.g entry)) entries) entries c.in_ok-g.ensures.roots;
      spelled = c.in_ok-text.ensures;
    }
