-- Whether what is known tells where an indirect jump goes.
use Rattle.std.specs.Prelude.{◌≡◌, ℕ, Bool, true, false, List, Option, Some, None, is_some, IfSome}
use Rattle.std.specs.List.{All}
use Rattle.predicates.specs.Predicate.{Predicate}
use Rattle.x86_instr.specs.declared.instr.Instr.{Instr}
use Rattle.instr_at.specs.At.{instr_at}
use Rattle.step_rules.specs.View.{View}
use Rattle.step_rules.specs.Cases.{cases}
use Rattle.site_lines.specs.Subject.{Subject}
use Rattle.site_lines.specs.Kinds.{bare_view}

-- whether an instruction has cases where this is known; where none stands there are none
abbrev pub gives_cases : View → Option Instr → Predicate → Bool
gives_cases view None p = false
gives_cases view (Some i) p = is_some (cases view i p)

-- whether a vertex with this predicate tells where the jump at an address goes
abbrev pub tells : Subject → ℕ → Predicate → Bool
tells s address p = gives_cases (bare_view s.image) (instr_at s.image address) p

-- of the vertices of which something is known each passes a test
abbrev pub AllPass : (Predicate → Bool) → List (Option Predicate) → Type 0
AllPass test known = All (λ k. IfSome k (λ p. test p ≡ true)) known
