-- What is known at the vertices, and the cases that come to them.
use Rattle.std.specs.Prelude.{ℕ, zero, suc, List, [], ◌∷◌, Option, Some, None, map, IfSome, slice_get}
use Rattle.std.specs.List.{All, filter_map}
use Rattle.std.specs.Option.{option_map}
use Rattle.lift_graph.specs.declared.graph.Place.{Place}
use Rattle.lift_rounds.specs.Meaning.{Meaning}
use Rattle.lift_rounds.specs.declared.data.Case.{Case}
use Rattle.lift_rounds.specs.declared.data.Made.{Made}

-- the predicate of a vertex, and its newest cases
pub record Known (R : Type 0) : Type 0 where
  pub pred : Option R
  pub cases : List (Case R)

-- a case as it reads
abbrev pub case_reading : {P R : Type 0} → (P → R) → Case P → Case R
case_reading read c = record { address = c.address; pred = read c.pred }

-- what is known, as it reads
abbrev pub known_of : {P R : Type 0} → (P → R) → Made P → Known R
known_of read m = record { pred = option_map read m.pred; cases = map (case_reading read) m.cases.items }

-- what is known at the vertices, as it reads
abbrev pub reading : {P R : Type 0} → (P → R) → List (Made P) → List (Known R)
reading read made = map (known_of read) made

-- its predicates are such
pub record IsHeld {P : Type 0} (has : P → Type 0) (m : Made P) : Type 0 where
  pub pred : IfSome m.pred has
  pub cases : All (λ c. has c.pred) m.cases.items

-- what is known at a vertex; nothing past the end
abbrev pub pred_at : {R : Type 0} → List (Known R) → ℕ → Option R
pred_at [] v = None
pred_at (x ∷ xs) zero = x.pred
pred_at (x ∷ xs) (suc v) = pred_at xs v

-- the newest cases of a vertex; none past the end
abbrev pub cases_at : {R : Type 0} → List (Known R) → ℕ → List (Case R)
cases_at [] v = []
cases_at (x ∷ xs) zero = x.cases
cases_at (x ∷ xs) (suc v) = cases_at xs v

-- the predicate of a case, where there is one
abbrev pub pred_of : {R : Type 0} → Option (Case R) → Option R
pred_of None = None
pred_of (Some c) = Some c.pred

-- the newest case of an edge
abbrev pub case_at : {R : Type 0} → List (Known R) → Place → Option R
case_at made place = pred_of (slice_get (cases_at made place.vertex) place.case)

-- the newest cases of edges
abbrev pub incoming : {R : Type 0} → List (Known R) → List Place → List R
incoming made places = filter_map (case_at made) places

-- a predicate weakened by cases in turn; the first case where there is none
abbrev pub gathered : {R : Type 0} → Meaning R → Option R → List R → Option R
gathered m start [] = start
gathered m None (c ∷ cs) = gathered m (Some c) cs
gathered m (Some p) (c ∷ cs) = gathered m (Some (m.weakened p c)) cs

-- the addresses of cases, in order
abbrev pub addresses : {R : Type 0} → List (Case R) → List ℕ
addresses cs = map (λ c. c.address) cs

-- the cases at an address, where its vertices have these predicates and the vertex this one
abbrev pub cases_from : {R : Type 0} → Meaning R → ℕ → List (Option R) → Option R → Option (List (Case R))
cases_from m address site None = Some []
cases_from m address site (Some p) = m.cases_of address site p
