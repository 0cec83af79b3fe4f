-- Cases of numbers, as rounds have them.
use Rattle.std.proofs.Common.{◌≡◌, ℕ, List, [], ◌∷◌, Option, map, length, refl, ap}
use Rattle.std.specs.List.{All}
use Rattle.std.specs.Option.{option_map}
use Rattle.std.proofs.lemmas.List.Elements.{All-nil, All-cons, All-head, All-tail}
use Rattle.sym_terms.specs.Plain.{PlainSum}
use Rattle.predicates.specs.Predicate.{Predicate}
use Rattle.bank_values.specs.declared.pred.BankPred.{BankPred}
use Rattle.bank_values.specs.ReadBack.{predicate_at}
use Rattle.bank_step.specs.CasesAt.{case_at, IsCaseBelow, IsCasePred}
use Rattle.lift_rounds.specs.Known.{case_reading}
use Rattle.lift_rounds.specs.declared.data.Case.{Case}
use Rattle.x86_instr.specs.declared.instr.Instr.{Instr}
use Rattle.instr_at.specs.At.{instr_at}
use Rattle.site_lines.specs.declared.lines.Lines.{Lines}
use Rattle.site_lines.specs.Subject.{Subject}
use Rattle.site_lines.specs.Lines.{cases_here, lines_at, site_cases}
use Rattle.image_steps.specs.Meant.{case_of}
use Rattle.image_steps.specs.Walks.{IsNumbered}

-- an address and what is known there, as a case
abbrev pub as_case : ℕ × BankPred → Case BankPred
as_case c = record { address = c.0; pred = c.1 }

-- cases read the same as pairs
pub read_alike : (terms : List PlainSum) (cs : List (ℕ × BankPred)) → map (case_reading (predicate_at terms)) (map as_case cs) ≡ map case_of (map (case_at terms) cs)
read_alike terms [] = refl
read_alike terms (c ∷ cs) = ap (λ xs. case_of (case_at terms c) ∷ xs) (read_alike terms cs)

-- cases whose numbers are those of terms, and which read back in form
pub numbered_each : (terms : List PlainSum) (cs : List (ℕ × BankPred)) → All (IsCaseBelow (length terms)) cs → All (IsCasePred terms) cs → All (λ c. IsNumbered terms c.pred) (map as_case cs)
numbered_each terms [] h k = All-nil (λ c. IsNumbered terms c.pred)
numbered_each terms (c ∷ cs) h k =
    All-cons (λ c. IsNumbered terms c.pred) (as_case c) (map as_case cs)
    (record { below = All-head (IsCaseBelow (length terms)) c cs h; formed = All-head (IsCasePred terms) c cs k })
    (numbered_each terms cs (All-tail (IsCaseBelow (length terms)) c cs h) (All-tail (IsCasePred terms) c cs k))

-- the cases at the lines of a site and its instruction
pub here_cases : (s : Subject) (address : ℕ) (ps : List Predicate) (p : Predicate) (lines : Lines) (i : Option Instr) → lines ≡ lines_at s address ps → i ≡ instr_at s.image address
    → option_map (map case_of) (cases_here s.image lines i p) ≡ option_map (map case_of) (site_cases s address ps p)
here_cases s address ps p lines i e f = λ k. option_map (map case_of) (cases_here s.image (e k) (f k) p)
