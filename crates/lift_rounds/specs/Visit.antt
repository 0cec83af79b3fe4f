-- What a visit makes of a vertex.
use Rattle.std.specs.Prelude.{◌≡◌, ◌≢◌, ℕ, Bool, true, List, None, cond, IsSome}
use Rattle.lift_graph.specs.declared.graph.Place.{Place}
use Rattle.lift_rounds.specs.Meaning.{Meaning}
use Rattle.lift_rounds.specs.Known.{Known, pred_at, cases_at, incoming, gathered, addresses}
use Rattle.lift_rounds.specs.declared.data.Change.{Change}
use Rattle.lift_rounds.specs.declared.data.Change.TheVariants.{Nothing, Made as MadeChange, Head, Found}

-- the vertices know what they knew
pub record IsSame {R : Type 0} (before after : List (Known R)) : Type 0 where
  pub preds : (u : ℕ) → pred_at after u ≡ pred_at before u
  pub cases : (u : ℕ) → cases_at after u ≡ cases_at before u

-- a vertex has the merge of these edges, or is weakened by them where it is kept
pub record HasPred {R : Type 0} (m : Meaning R) (before after : List (Known R)) (places : List Place) (keeps : Bool) (v : ℕ) : Type 0 where
  pub pred : pred_at after v ≡ gathered m (cond keeps (pred_at before v) None) (incoming before places)
  pub others : (u : ℕ) → u ≢ v → pred_at after u ≡ pred_at before u
  pub cases : (u : ℕ) → cases_at after u ≡ cases_at before u

-- the cases of one vertex alone may have changed
pub record HasCases {R : Type 0} (before after : List (Known R)) (v : ℕ) : Type 0 where
  pub others : (u : ℕ) → u ≢ v → cases_at after u ≡ cases_at before u
  pub preds : (u : ℕ) → pred_at after u ≡ pred_at before u

-- a vertex made anew, the others as they were
pub record IsVisit {R : Type 0} (m : Meaning R) (before after : List (Known R)) (places : List Place) (keeps : Bool) (v : ℕ) : Type 0 where
  pub pred : pred_at after v ≡ gathered m (cond keeps (pred_at before v) None) (incoming before places)
  pub other_preds : (u : ℕ) → u ≢ v → pred_at after u ≡ pred_at before u
  pub other_cases : (u : ℕ) → u ≢ v → cases_at after u ≡ cases_at before u

-- the stronger of two changes
abbrev pub worse : Change → Change → Change
worse Nothing c = c
worse MadeChange Nothing = MadeChange
worse MadeChange MadeChange = MadeChange
worse MadeChange Head = Head
worse MadeChange Found = Found
worse Head Nothing = Head
worse Head MadeChange = Head
worse Head Head = Head
worse Head Found = Found
worse Found c = Found

-- what a visit says
pub record IsOutcome {R : Type 0} (c : Change) (keeps : Bool) (before after : List (Known R)) (v : ℕ) : Type 0 where
  pub nothing : c ≡ Nothing → IsSame before after
  pub known : c ≢ Found → IsSome (pred_at before v)
  pub edges : c ≢ Found → addresses (cases_at after v) ≡ addresses (cases_at before v)
  pub head : c ≡ Head → (keeps ≡ true) × (pred_at after v ≢ pred_at before v)
  pub held : c ≡ MadeChange → keeps ≡ true → pred_at after v ≡ pred_at before v
  pub changed : c ≡ MadeChange → pred_at after v ≡ pred_at before v → cases_at after v ≢ cases_at before v
