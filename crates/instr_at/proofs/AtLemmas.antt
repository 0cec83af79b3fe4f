-- What the decoder reads is what a prefix of the code spells.
use Rattle.std.proofs.Common.{◌≡◌, ℕ, ◌<◌, zero, suc, Bool, true, false, cond, ltb, List, [], ◌∷◌, get_or, Option, Some, None, refl, sym, ap, ◌∙◌}
use Rattle.std.proofs.Math.Path.{fun_ext}
use Rattle.std.specs.Prelude.{◌↔◌}
use Rattle.std.proofs.lemmas.Bool.{and_from, lt-ltb, cond-true}
use Rattle.elf_image.specs.Image.{code_of}
use Rattle.x86_instr.specs.declared.instr.Instr.{Instr}
use Rattle.x86_decode.specs.Laws.{ReadLaw, SpelledLaw}
use Rattle.x86_decode.specs.Reading.{are_bytes, first_instr}
use Rattle.instr_at.specs.At.{IsAt, instr_in, InstrAtLaw, OneLookupLaw}

-- bytes pass the test
pub bytes_pass : (numbers : List ℕ) → ((k : ℕ) → get_or numbers k 0 < 256) → are_bytes numbers ≡ true
bytes_pass [] fits = refl
bytes_pass (n ∷ ns) fits = and_from (ltb n 256) (are_bytes ns) (lt-ltb n 256 (fits 0)) (bytes_pass ns (λ k. fits (suc k)))

-- of bytes the decoder's reading is given
pub of_bytes : (at : ℕ) (code : List ℕ) → are_bytes code ≡ true → instr_in at code ≡ first_instr at code
unfolding instr_in
of_bytes at code e = cond-true (are_bytes code) (first_instr at code) None e

given : (b : Bool) (o : Option Instr) (i : Instr) → cond b o None ≡ Some i → (b ≡ true) × (o ≡ Some i)
given true o i e = (refl, e)
given false o i e = absurd cc

-- by the laws of the decoder the function gives what is spelled
pub instr_at_is : ReadLaw → SpelledLaw → InstrAtLaw
unfolding instr_in
instr_at_is read spelled image at i = (λ e. forth e, λ h. of_bytes at (code_of image at) h.bytes ∙ back h)
  where
    forth : instr_in at (code_of image at) ≡ Some i → IsAt image at i
    forth e =
        let both = given (are_bytes (code_of image at)) (first_instr at (code_of image at)) i e in
        let found = read at (code_of image at) i both.1 in
        record { address = found.0; bytes = both.0; spelled = found.1 }

    back : IsAt image at i → first_instr at (code_of image at) ≡ Some i
    back h = ap (λ a. first_instr a (code_of image at)) (sym h.address) ∙ spelled (code_of image at) i h.bytes h.spelled

-- two answers that are the same instructions are one
same_answer : (o p : Option Instr) → ((i : Instr) → (o ≡ Some i) ↔ (p ≡ Some i)) → o ≡ p
same_answer None None same = refl
same_answer None (Some j) same = (same j).1 refl
same_answer (Some i) p same = sym ((same i).0 refl)

pub one_lookup : OneLookupLaw
one_lookup image first second is other =
    fun_ext (λ at. same_answer (first at) (second at) (λ i. (λ e. (other at i).1 ((is at i).0 e), λ e. (is at i).1 ((other at i).0 e))))
