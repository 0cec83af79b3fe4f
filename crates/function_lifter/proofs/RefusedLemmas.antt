-- A function whose entry is no code is refused, and one that was built well is lifted.
use Rattle.std.proofs.Common.{◌≡◌, ◌<◌, ◌^◌, ℕ, true, false, List, [], Some, None, Option, refl, sym, subst, ◌∙◌, arith}
use Rattle.std.specs.Prelude.{IsSome, ◌↔◌}
use Rattle.std.proofs.lemmas.Bool.{false≢true}
use Rattle.elf_image.specs.declared.image.Image.{Image}
use Rattle.elf_image.specs.Image.{is_code_at}
use Rattle.graph_data.specs.declared.graph.Refused.TheVariants.{NotCode}
use Rattle.graph_data.specs.declared.graph.Function.{Function}
use Rattle.function_lifter.specs.Whole.{IsLifted}
use Rattle.function_lifter.specs.Well.{IsBuiltWell}
use Rattle.function_lifter.specs.declared.build.Built.{Built}

none_some : {A : Type 0} (x : A) → None ≡ Some x → ⊥
none_some x e = let f : ⊥ = cc in f

pub refused_lifted : (image : Image) (externs : List ℕ) (entry : ℕ) → entry < 2 ^ 64 → is_code_at image entry ≡ false
    → IsLifted image externs (record { entry = entry; below = 0; above = 0; refused = Some NotCode; sites = [] })
refused_lifted image externs entry small no_code = record {
  formed = record { entry = small; body = record { below = refl; above = refl; sites = refl } };
  of_entry = record { refused = (λ some. no_code, λ no. refl) };
  valid = λ none. absurd (let f : ⊥ = cc in f);
  exact = λ spot v found. absurd (none_some v found);
  inside = λ s target member is. absurd (omega (arith, member.1));
}

-- what isn't refused is code
kept : (image : Image) (n : ℕ) {A : Type 0} (o : Option A) → is_code_at image n ≡ true → o ≡ None → (IsSome o) ↔ (is_code_at image n ≡ false)
kept image n None code none = (λ some. absurd (false≢true some), λ no. absurd (false≢true (sym no ∙ code)))
kept image n (Some x) code none = absurd (none_some x (sym none))

pub lifted_well : (image : Image) (externs : List ℕ) (entry : ℕ) (b : Built) → is_code_at image entry ≡ true → IsBuiltWell image externs entry b → IsLifted image externs b.function
lifted_well image externs entry b code well = record {
  formed = well.formed;
  of_entry = record { refused = kept image b.function.entry b.function.refused (subst (λ n. is_code_at image n ≡ true) (sym well.entry_is) code) well.unrefused };
  valid = λ none. well.valid;
  exact = well.exact;
  inside = well.inside;
}
