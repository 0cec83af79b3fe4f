-- A small program: what is known is a number, and a greater one is more.
use Rattle.std.specs.Prelude.{◌==◌, ◌&&◌, ℕ, Bool, false, cond, List, [], ◌∷◌, Some, None, min, nat_le, nat_lt}
use Rattle.lift_rounds.specs.Meaning.{Meaning}
use Rattle.lift_rounds.specs.declared.data.Case.{Case}
use Rattle.lift_rounds_tests.specs.declared.toy.Toy.{Toy}
use Rattle.lift_rounds_tests.specs.declared.toy.Way.{Way}

-- the cases of the ways from an address
abbrev pub cases_after : List Way → ℕ → ℕ → List (Case ℕ)
cases_after [] a p = []
cases_after (w ∷ ws) a p = cond (w.from == a) (record { address = w.to; pred = min p w.most } ∷ cases_after ws a p) (cases_after ws a p)

-- the jump's ways aren't resolved
abbrev pub is_lost : Toy → ℕ → ℕ → Bool
is_lost t a p = a == t.jump && nat_lt p t.least

-- the program's meaning
abbrev pub toy : Toy → Meaning ℕ
toy t =
    record {
      cases_of = λ a site p. cond (is_lost t a p) None (Some (cases_after t.ways.items a p));
      forks = λ a. false;
      weakened = min;
      entails = λ p q. nat_le q p;
      weight = λ p. p;
    }
