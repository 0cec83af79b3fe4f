-- What is known at the vertices of a site tells where its jump goes.
use Rattle.std.proofs.Common.{◌≡◌, ◌↔◌, ℕ, Bool, true, List, [], ◌∷◌, Option, map, IfSome}
use Rattle.std.specs.List.{All, Contains}
use Rattle.std.proofs.lemmas.List.Elements.{All-nil, All-cons, All-head, All-tail, All-map, All-weaker, All-contains, All-contains_itself}
use Rattle.lift_graph.specs.Sites.{IsSite}
use Rattle.lift_rounds.specs.Known.{pred_at, reading}
use Rattle.lift_openings.specs.Lifted.{IsResolved}
use Rattle.lift_openings.specs.declared.lift.Lift.{Lift}

all_mapped : {X Y : Type 0} (P : Y → Type 0) (f : X → Y) (xs : List X) → All P (map f xs) → All (λ x. P (f x)) xs
all_mapped P f [] all = All-nil (λ x. P (f x))
all_mapped P f (x ∷ xs) all =
    All-cons (λ y. P (f y)) x xs (All-head P (f x) (map f xs) all) (all_mapped P f xs (All-tail P (f x) (map f xs) all))

-- each vertex of a site tells it exactly where each vertex at the address does
pub resolved_at : {P R : Type 0} (tells : R → Bool) (read : P → R) (l : Lift P) (address : ℕ) (site : List ℕ) → IsSite l.graph.keys.items address site
    → All (λ known. IfSome known (λ p. tells p ≡ true)) (map (pred_at (reading read l.made.items)) site) ↔ IsResolved tells read l address
resolved_at {R = R} tells read l address site s =
    let known = reading read l.made.items in
    let Tells : Option R → Type 0 = λ o. IfSome o (λ p. tells p ≡ true) in (
      λ all v within here. All-contains (λ u. Tells (pred_at known u)) site v (all_mapped Tells (pred_at known) site all) ((s.exact v).1 (within, here)),
      λ h. All-map Tells (pred_at known) site (All-weaker (Contains site) (λ u. Tells (pred_at known u)) (λ u k. let e = (s.exact u).0 k in h u e.0 e.1) site (All-contains_itself site)),
    )
