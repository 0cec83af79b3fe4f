-- What holds of one known term or flag fact that says another.
use Rattle.std.proofs.Common.{◌≡◌, true, ◌&&◌, Option, Some, None, refl, ap, ◌∙◌, subst, arith}
use Rattle.std.specs.Prelude.{◌==◌}
use Rattle.std.specs.Ordering.{is_eq}
use Rattle.std.specs.declared.cmp.Ordering.{Ordering}
use Rattle.std.specs.declared.cmp.Ordering.TheVariants.{Less, Equal, Greater}
use Rattle.std.specs.Cmp.{tied_itself}
use Rattle.std.proofs.lemmas.Bool.{and_parts, and_from, eqb-true, eq-eqb}
use Rattle.bits_core.specs.declared.width.Width.{Width}
use Rattle.bits_core.specs.declared.width.Width.TheVariants.{W8, W16, W32, W64}
use Rattle.bits_core.specs.Width.{bits_of}
use Rattle.sym_terms.specs.Plain.{PlainSum}
use Rattle.sym_terms.specs.Order.{sum_cmp}
use Rattle.sym_terms.specs.Codes.{sum_same, sum_total}
use Rattle.predicates.specs.declared.bound.FlagFact.{FlagFact}
use Rattle.predicates.specs.Holding.{same_term, holds_term, same_fact, holds_flags}

equal_from : (o : Ordering) → is_eq o ≡ true → o ≡ Equal
equal_from Less e = absurd (cc)
equal_from Equal e = refl
equal_from Greater e = absurd (cc)

-- the test of two terms passes on the same terms alone
pub same_from : (a b : PlainSum) → same_term a b ≡ true → a ≡ b
same_from a b e = sum_same a b (equal_from (sum_cmp a b) e)

pub same_itself : (a : PlainSum) → same_term a a ≡ true
same_itself a = ap is_eq (tied_itself sum_total a)

pub same_to : (a b : PlainSum) → a ≡ b → same_term a b ≡ true
same_to a b e = let P : PlainSum → Type 0 = λ x. same_term a x ≡ true in subst P e (same_itself a)

-- what is known in the second is so in the first
pub term_known : (held wanted : Option PlainSum) (t : PlainSum) → holds_term held wanted ≡ true → wanted ≡ Some t → held ≡ Some t
term_known held None t h e = absurd (cc)
term_known None (Some w) t h e = absurd (cc)
term_known (Some a) (Some w) t h e = ap Some (same_from a w h) ∙ e

pub term_holds : (held wanted : Option PlainSum) → ((t : PlainSum) → wanted ≡ Some t → held ≡ Some t) → holds_term held wanted ≡ true
term_holds held None h = refl
term_holds None (Some w) h = let e : None ≡ Some w = h w refl in absurd (cc)
term_holds (Some a) (Some w) h =
    let e : Some a ≡ Some w = h w refl in
    let f : a ≡ w = cc in
    same_to a w f

width_same : (v w : Width) → bits_of v ≡ bits_of w → v ≡ w
width_same W8 W8 e = refl
width_same W8 W16 e = absurd (omega arith)
width_same W8 W32 e = absurd (omega arith)
width_same W8 W64 e = absurd (omega arith)
width_same W16 W8 e = absurd (omega arith)
width_same W16 W16 e = refl
width_same W16 W32 e = absurd (omega arith)
width_same W16 W64 e = absurd (omega arith)
width_same W32 W8 e = absurd (omega arith)
width_same W32 W16 e = absurd (omega arith)
width_same W32 W32 e = refl
width_same W32 W64 e = absurd (omega arith)
width_same W64 W8 e = absurd (omega arith)
width_same W64 W16 e = absurd (omega arith)
width_same W64 W32 e = absurd (omega arith)
width_same W64 W64 e = refl

-- the test of two flag facts passes on the same facts alone
fact_same : (f g : FlagFact) → same_fact f g ≡ true → f ≡ g
fact_same f g e =
    let parts = and_parts (bits_of f.width == bits_of g.width) (same_term f.left g.left && same_term f.right g.right) e in
    let terms = and_parts (same_term f.left g.left) (same_term f.right g.right) parts.1 in
    let w = width_same f.width g.width (eqb-true (bits_of f.width) (bits_of g.width) parts.0) in
    let l = same_from f.left g.left terms.0 in
    let r = same_from f.right g.right terms.1 in
    λ i. record { width = w i; left = l i; right = r i }

fact_itself : (f : FlagFact) → same_fact f f ≡ true
fact_itself f =
    and_from (bits_of f.width == bits_of f.width) (same_term f.left f.left && same_term f.right f.right) (eq-eqb (bits_of f.width) (bits_of f.width) refl)
    (and_from (same_term f.left f.left) (same_term f.right f.right) (same_itself f.left) (same_itself f.right))

-- the flag fact of the second is that of the first
pub fact_known : (held wanted : Option FlagFact) (f : FlagFact) → holds_flags held wanted ≡ true → wanted ≡ Some f → held ≡ Some f
fact_known held None f h e = absurd (cc)
fact_known None (Some w) f h e = absurd (cc)
fact_known (Some a) (Some w) f h e = ap Some (fact_same a w h) ∙ e

pub fact_holds : (held wanted : Option FlagFact) → ((f : FlagFact) → wanted ≡ Some f → held ≡ Some f) → holds_flags held wanted ≡ true
fact_holds held None h = refl
fact_holds None (Some w) h = let e : None ≡ Some w = h w refl in absurd (cc)
fact_holds (Some a) (Some w) h =
    let e : Some a ≡ Some w = h w refl in
    let f : a ≡ w = cc in
    let P : FlagFact → Type 0 = λ x. same_fact a x ≡ true in
    subst P f (fact_itself a)

-- what says what says a term says the term
pub term_through : (a b c : Option PlainSum) → holds_term a b ≡ true → holds_term b c ≡ true → holds_term a c ≡ true
term_through a b c h k = term_holds a c (λ t e. term_known a b t h (term_known b c t k e))
