-- Bounds that say a bound: of themselves, through others, and what the test of a list tells.
use Rattle.std.proofs.Common.{◌≡◌, ℕ, Bool, true, ◌&&◌, List, [], ◌∷◌, get_or, refl, sym, ◌∙◌, subst, inl, inr, arith}
use Rattle.std.specs.Prelude.{nat_le, ◌==◌}
use Rattle.std.specs.List.{list_all, Contains}
use Rattle.std.proofs.lemmas.Bool.{and_parts, and_from, or_cases, eq-eqb, eqb-true, leb-true, le-leb}
use Rattle.std.proofs.lemmas.List.Folds.{list_any_at, Any-from_list_any, list_any-from_Any}
use Rattle.predicates.specs.declared.bound.Values.{Values}
use Rattle.predicates.specs.declared.bound.Values.TheVariants.{Range, OneOf}
use Rattle.predicates.specs.declared.bound.Bound.{Bound}
use Rattle.predicates.specs.Holding.{same_term, is_among, are_within, holds_bound}
use Rattle.predicates.proofs.AmongLemmas.{all_from}
use Rattle.predicates.proofs.TermLemmas.{same_from, same_itself, same_to}

-- a weaker test
pub all_weaker : {X : Type 0} (p q : X → Bool) (xs : List X) → ((x : X) → p x ≡ true → q x ≡ true) → list_all p xs ≡ true → list_all q xs ≡ true
all_weaker p q [] w e = refl
all_weaker p q (x ∷ xs) w e =
    let both = and_parts (p x) (list_all p xs) e in
    and_from (q x) (list_all q xs) (w x both.0) (all_weaker p q xs w both.1)

-- a number among those that pass passes
among_passes : (p : ℕ → Bool) (ns : List ℕ) (x : ℕ) → list_all p ns ≡ true → is_among x ns ≡ true → p x ≡ true
among_passes p [] x e h = absurd (cc)
among_passes p (n ∷ ns) x e h =
    let both = and_parts (p n) (list_all p ns) e in
    elim (or_cases (n == x) (is_among x ns) h) as (λ w. p x ≡ true) [
      | inl q ↦ let P : ℕ → Type 0 = λ y. p y ≡ true in subst P (eqb-true n x q) both.0
      | inr q ↦ among_passes p ns x both.1 q
    ]

among_itself : (ns : List ℕ) → list_all (λ n. is_among n ns) ns ≡ true
among_itself ns =
    all_from (λ n. is_among n ns) ns (λ i d h. list_any_at (λ m. m == get_or ns i d) ns i d h (eq-eqb (get_or ns i d) (get_or ns i d) refl))

within_itself : (v : Values) → are_within v v ≡ true
within_itself (Range low high) =
    and_from (nat_le low low) (nat_le high high) (le-leb low low (omega arith)) (le-leb high high (omega arith))
within_itself (OneOf ns) = among_itself ns

within_through : (a b c : Values) → are_within a b ≡ true → are_within b c ≡ true → are_within a c ≡ true
within_through (Range l h) (Range m k) (Range n o) e f =
    let p = and_parts (nat_le m l) (nat_le h k) e in
    let q = and_parts (nat_le n m) (nat_le k o) f in
    let ml = leb-true m l p.0 in
    let hk = leb-true h k p.1 in
    let nm = leb-true n m q.0 in
    let ko = leb-true k o q.1 in
    and_from (nat_le n l) (nat_le h o) (le-leb n l (omega arith)) (le-leb h o (omega arith))
within_through (Range l h) (Range m k) (OneOf os) e f = absurd (cc)
within_through (Range l h) (OneOf ms) c e f = absurd (cc)
within_through (OneOf ls) (Range m k) (Range n o) e f =
    let q = and_parts (nat_le n m) (nat_le k o) f in
    let nm = leb-true n m q.0 in
    let ko = leb-true k o q.1 in
    all_weaker (λ x. nat_le m x && nat_le x k) (λ x. nat_le n x && nat_le x o) ls (λ x t.
    let p = and_parts (nat_le m x) (nat_le x k) t in
    let mx = leb-true m x p.0 in
    let xk = leb-true x k p.1 in
    and_from (nat_le n x) (nat_le x o) (le-leb n x (omega arith)) (le-leb x o (omega arith))) e
within_through (OneOf ls) (Range m k) (OneOf os) e f = absurd (cc)
within_through (OneOf ls) (OneOf ms) (Range n o) e f =
    all_weaker (λ x. is_among x ms) (λ x. nat_le n x && nat_le x o) ls (λ x t. among_passes (λ y. nat_le n y && nat_le y o) ms x f t) e
within_through (OneOf ls) (OneOf ms) (OneOf os) e f =
    all_weaker (λ x. is_among x ms) (λ x. is_among x os) ls (λ x t. among_passes (λ y. is_among y os) ms x f t) e

-- whether a bound says another
abbrev pub says : Bound → Bound → Bool
says b h = same_term h.key b.key && are_within h.set b.set

pub says_itself : (b : Bound) → says b b ≡ true
says_itself b = and_from (same_term b.key b.key) (are_within b.set b.set) (same_itself b.key) (within_itself b.set)

says_through : (a b c : Bound) → says b a ≡ true → says c b ≡ true → says c a ≡ true
says_through a b c e f =
    let p = and_parts (same_term a.key b.key) (are_within a.set b.set) e in
    let q = and_parts (same_term b.key c.key) (are_within b.set c.set) f in
    and_from (same_term a.key c.key) (are_within a.set c.set) (same_to a.key c.key (same_from a.key b.key p.0 ∙ same_from b.key c.key q.0))
    (within_through a.set b.set c.set p.1 q.1)

-- bounds say each of themselves
pub bound_itself : (bs : List Bound) (b : Bound) → Contains bs b → holds_bound bs b ≡ true
bound_itself bs b m =
    let P : Bound → Type 0 = λ x. says b x ≡ true in
    list_any_at (says b) bs m.0 b m.1 (subst P (sym m.2) (says_itself b))

-- what bounds say that other bounds say, the others say
pub bound_through : (ps qs : List Bound) → ((b : Bound) → Contains qs b → holds_bound ps b ≡ true) → (c : Bound) → holds_bound qs c ≡ true → holds_bound ps c ≡ true
bound_through ps qs h c e =
    let m = Any-from_list_any (says c) qs e in
    let k = Any-from_list_any (says (m.1)) ps (h m.1 (m.0, m.2, m.3)) in
    list_any-from_Any (says c) ps (k.0, k.1, k.2, k.3, says_through k.1 m.1 c k.4 m.4)
