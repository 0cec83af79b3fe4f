use Rattle.std.proofs.Common.{sym, ap, ◌∙◌}
use Rattle.std.specs.Ordering.{is_eq}
use Rattle.sym_terms.proofs.OffsetLemmas.{offset_known, offset_unknown}
use Rattle.sym_terms.proofs.term.Term.offset_from.Goals as goal

pub returns-then-is_eq : goal.returns-then-is_eq
returns-then-is_eq c =
    rw (← c.self.view_is, ← c.other.view_is)
    (offset_known _ _ _ _ _ _ c.left.view_is c.right.view_is c.self.invariant.normal c.other.invariant.normal
    (rw (c.as_slice.ensures, c.as_slice-2.ensures) at (ap is_eq (sym c.compare_pieces.ensures) ∙ sym c.is_eq.ensures ∙ c.if-is_eq.true)))

pub returns-else-is_eq : goal.returns-else-is_eq
returns-else-is_eq c =
    rw (← c.self.view_is, ← c.other.view_is)
    (offset_unknown _ _ _ _ _ _ c.left.view_is c.right.view_is c.self.invariant.normal c.other.invariant.normal
    (rw (c.as_slice.ensures, c.as_slice-2.ensures) at (ap is_eq (sym c.compare_pieces.ensures) ∙ sym c.is_eq.ensures ∙ c.if-is_eq.false)))
