-- The cases of the ways of a small program.
use Rattle.std.proofs.Common.{◌≡◌, ◌<◌, ◌≤◌, ◌+◌, ◌==◌, ℕ, suc, cond, List, [], ◌∷◌, length, get_or, drop, map, min, refl, ap, ◌∙◌, arith, drop-cons}
use Rattle.std.proofs.lemmas.List.{drop_all}
use Rattle.lift_rounds.specs.Known.{case_reading}
use Rattle.lift_rounds.specs.declared.data.Case.{Case}
use Rattle.lift_rounds_tests.specs.Toy.{cases_after}
use Rattle.lift_rounds_tests.specs.declared.toy.Way.{Way}

-- a number reads as itself
pub reads_same : (cs : List (Case ℕ)) → map (case_reading (λ p. p)) cs ≡ cs
reads_same [] = refl
reads_same (c ∷ cs) = let e = reads_same cs in cc

-- one way more
pub cases_next : (ws : List Way) (i a p : ℕ) (d : Way) → i < length ws → cases_after (drop i ws) a p ≡ cond ((get_or ws i d).from == a) (record { address = (get_or ws i d).to; pred = min p (get_or ws i d).most } ∷ cases_after (drop (i + 1) ws) a p) (cases_after (drop (i + 1) ws) a p)
cases_next ws i a p d l = let last : suc i ≡ i + 1 = omega arith in ap (λ vs. cases_after vs a p) (drop-cons ws i d l) ∙ ap (λ n. cond ((get_or ws i d).from == a) (record { address = (get_or ws i d).to; pred = min p (get_or ws i d).most } ∷ cases_after (drop n ws) a p) (cases_after (drop n ws) a p)) last

pub cases_end : (ws : List Way) (i a p : ℕ) → length ws ≤ i → cases_after (drop i ws) a p ≡ []
cases_end ws i a p l = ap (λ vs. cases_after vs a p) (drop_all i ws l)
