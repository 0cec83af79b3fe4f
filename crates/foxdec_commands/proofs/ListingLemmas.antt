-- The first line of a listing, and what comes after it.
use Rattle.std.proofs.Common.{◌≡◌, ℕ, ◌-◌, ◌<◌, zero, suc, List, [], ◌++◌, Some, None, refl, sym, ◌∙◌, ap, arith, append_assoc}
use Rattle.std.proofs.lemmas.List.{append-nil}
use Rattle.elf_image.specs.declared.image.Image.{Image}
use Rattle.elf_image.specs.Image.{code_of}
use Rattle.x86_instr.specs.declared.instr.Instr.{Instr}
use Rattle.instr_at.specs.At.{instr_in, instr_at}
use Rattle.foxdec_commands.specs.Listing.{next_address, instruction_line, none_line, line_then, listing}

-- what was listed and what is left to list are the whole
pub record IsListed (image : Image) (out : List ℕ) (left at : ℕ) (whole : List ℕ) : Type 0 where
  pub same : out ++ listing (instr_at image) image left at ≡ whole

pub begins : (image : Image) (left at : ℕ) → IsListed image [] left at (listing (instr_at image) image left at)
begins image left at = record { same = refl }

-- where no instruction stands, its line is the last
pub stops : (image : Image) (out later code : List ℕ) (left at : ℕ) (whole : List ℕ) → IsListed image out left at whole → 0 < left → code ≡ code_of image at → None ≡ instr_in at code
    → later ≡ out ++ none_line at → later ≡ whole
unfolding listing
stops image out later code zero at whole listed some is none grown = absurd (omega arith)
stops image out later code (suc left) at whole listed some is none grown =
    let here : instr_at image at ≡ None = sym (none ∙ ap (instr_in at) is) in
    grown ∙ sym (ap (λ o. out ++ line_then image at (listing (instr_at image) image left) o) here) ∙ listed.same

-- after an instruction the listing goes on where it ends
pub goes_on : (image : Image) (out later code : List ℕ) (left at next : ℕ) (i : Instr) (whole : List ℕ) → IsListed image out left at whole → 0 < left → code ≡ code_of image at → Some i ≡ instr_in at code
    → later ≡ out ++ instruction_line at code i → next ≡ next_address at i → IsListed image later (left - 1) next whole
unfolding listing
goes_on image out later code zero at next i whole listed some is found grown goes = absurd (omega arith)
goes_on image out later code (suc left) at next i whole listed some is found grown goes =
    let here : instr_at image at ≡ Some i = sym (found ∙ ap (instr_in at) is) in
    let line = instruction_line at (code_of image at) i in
    let rest = listing (instr_at image) image left (next_address at i) in
    let less : suc left - 1 ≡ left = omega arith in
    record {
      same = ap (λ n. later ++ listing (instr_at image) image n next) less ∙ ap (λ a. later ++ listing (instr_at image) image left a) goes
          ∙ ap (λ l. l ++ rest) (grown ∙ ap (λ k. out ++ instruction_line at k i) is) ∙ append_assoc out line rest
          ∙ sym (ap (λ o. out ++ line_then image at (listing (instr_at image) image left) o) here) ∙ listed.same;
    }

-- and where none are left, all is listed
pub ends : (image : Image) (out : List ℕ) (left at : ℕ) (whole : List ℕ) → IsListed image out left at whole → left ≡ 0 → out ≡ whole
unfolding listing
ends image out zero at whole listed none = sym (append-nil out) ∙ listed.same
ends image out (suc left) at whole listed none = absurd (omega (arith, none))
