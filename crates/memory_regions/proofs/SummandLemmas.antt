-- Terms of two or more atoms.
use Rattle.std.proofs.Common.{◌≡◌, ℕ, ◌≤◌, List, [], ◌∷◌, length, None, refl, arith}
use Rattle.sym_terms.specs.declared.sum.Atom.{Atom}
use Rattle.sym_terms.specs.Plain.{sum}
use Rattle.sym_terms.specs.View.{pieces}
use Rattle.memory_regions.specs.Relate.{above_stack}

-- a term of two or more atoms is at no constant distance from rsp0
pub above_stack-long : (c : ℕ) (xs : List (Atom × ℕ)) → 2 ≤ length xs → None ≡ above_stack (sum c (pieces xs))
above_stack-long c [] h = refl
above_stack-long c (x ∷ []) h = absurd (omega arith)
above_stack-long c (x ∷ y ∷ ys) h = refl
