-- What a round has done so far, where it found no edge.
use Rattle.std.specs.Prelude.{◌≡◌, ◌≢◌, ◌<◌, ◌+◌, ◌⊎◌, ℕ, zero, suc, Bool, true, false, cond, List, Option, Some, None, length, map, IsSome}
use Rattle.std.specs.List.{All, Contains}
use Rattle.std.specs.declared.vec.Vec.{Vec}
use Rattle.std.specs.declared.alloc.Global.{Global}
use Rattle.lift_graph.specs.Rows.{is_set, items_at}
use Rattle.lift_graph.specs.Graph.{address_at}
use Rattle.lift_graph.specs.Sites.{site_at}
use Rattle.lift_graph.specs.declared.graph.Place.{Place}
use Rattle.lift_graph.specs.declared.graph.Graph.{Graph}
use Rattle.lift_rounds.specs.Meaning.{Meaning}
use Rattle.lift_rounds.specs.Known.{Known, pred_at, cases_at, incoming, gathered, cases_from}
use Rattle.lift_rounds.specs.declared.data.Change.{Change}
use Rattle.lift_rounds.specs.declared.data.Change.TheVariants.{Nothing, Made as MadeChange, Head}

-- what the edges fix: addresses, the vertices of an address, the edges to each vertex, and which vertices are kept
pub record Frame (R : Type 0) : Type 0 where
  pub meaning : Meaning R
  pub address : ℕ → ℕ
  pub site : ℕ → List ℕ
  pub inward : List (Vec Place Global)
  pub keeps : List Bool

-- what the edges of a graph fix
abbrev pub frame_of : {R : Type 0} → Meaning R → Graph → Frame R
frame_of m g = record { meaning = m; address = address_at g.keys.items; site = site_at g; inward = g.inward.items; keeps = g.keeps.items }

-- a vertex is kept, or each edge to it comes from a vertex that is taken
abbrev pub IsReady : List Bool → List (Vec Place Global) → List Bool → ℕ → Type 0
IsReady keeps inward taken v = (is_set keeps v ≡ true) ⊎ All (λ p. is_set taken p.vertex ≡ true) (items_at inward v)

-- the cases of a vertex are those of its predicate
abbrev pub IsCased : {R : Type 0} → Frame R → List (Known R) → ℕ → Type 0
IsCased f made v = cases_from f.meaning (f.address v) (map (pred_at made) (f.site v)) (pred_at made v) ≡ Some (cases_at made v)

-- where a vertex isn't kept its predicate is the merge of the cases that come to it
abbrev pub IsMerged : {R : Type 0} → Frame R → List (Known R) → ℕ → Type 0
IsMerged f made v = is_set f.keeps v ≡ false → pred_at made v ≡ gathered f.meaning None (incoming made (items_at f.inward v))

-- each vertex has the cases of its predicate, and each that isn't kept the merge of its cases
pub record AllFormed {R : Type 0} (f : Frame R) (made : List (Known R)) : Type 0 where
  pub cased : (v : ℕ) → v < length made → IsCased f made v
  pub merged : (v : ℕ) → v < length made → IsMerged f made v

-- of several vertices of an address each is kept
abbrev pub IsPlain : {R : Type 0} → Frame R → Type 0
IsPlain f = (u v : ℕ) → u < length f.keeps → Contains (f.site u) v → v ≢ u → is_set f.keeps v ≡ true

-- the number of conjuncts of what is known
abbrev pub weight_of : {R : Type 0} → Meaning R → Option R → ℕ
weight_of m None = 0
weight_of m (Some p) = m.weight p

-- it is as it was, or lost conjuncts
abbrev pub IsLighter : {R : Type 0} → Meaning R → Option R → Option R → Type 0
IsLighter m old new = (new ≡ old) ⊎ (weight_of m new < weight_of m old)

-- a kept vertex isn't weakened by the cases that come to it, another is their merge
abbrev pub IsStill : {R : Type 0} → Frame R → List (Known R) → ℕ → Type 0
IsStill f made v = pred_at made v ≡ gathered f.meaning (cond (is_set f.keeps v) (pred_at made v) None) (incoming made (items_at f.inward v))

-- the changes after which the cases of the vertices that were taken are still those of their predicates
abbrev pub IsSteady : {R : Type 0} → Frame R → Change → Type 0
IsSteady f change = (change ≡ Nothing) ⊎ (IsPlain f × (change ≢ Head))

-- what holds after the vertices that are taken, where no edge was found
pub record Quiet {R : Type 0} (f : Frame R) (first made : List (Known R)) (taken : List Bool) (change : Change) : Type 0 where
  pub same_length : length made ≡ length first
  pub cased : IsSteady f change → (v : ℕ) → is_set taken v ≡ true → IsCased f made v
  pub merged : (v : ℕ) → is_set taken v ≡ true → IsMerged f made v
  pub from_taken : (v : ℕ) → is_set taken v ≡ true → is_set f.keeps v ≡ false → All (λ p. is_set taken p.vertex ≡ true) (items_at f.inward v)
  pub known : (v : ℕ) → is_set taken v ≡ true → IsSome (pred_at first v)
  pub untaken : (v : ℕ) → is_set taken v ≡ false → pred_at made v ≡ pred_at first v
  pub lighter : (v : ℕ) → is_set f.keeps v ≡ true → IsLighter f.meaning (pred_at first v) (pred_at made v)
  pub head : change ≡ Head → (v : ℕ) × (v < length first) × (is_set f.keeps v ≡ true) × (pred_at made v ≢ pred_at first v)
  pub held : change ≡ MadeChange → (v : ℕ) → is_set f.keeps v ≡ true → pred_at made v ≡ pred_at first v
  pub nothing_preds : change ≡ Nothing → (v : ℕ) → pred_at made v ≡ pred_at first v
  pub nothing_cases : change ≡ Nothing → (v : ℕ) → cases_at made v ≡ cases_at first v
  pub still : change ≡ Nothing → (v : ℕ) → is_set taken v ≡ true → IsStill f made v
  pub changed : change ≡ MadeChange → AllFormed f first → ⊥

-- however far a round went, either all vertices are taken or one can be taken
abbrev pub NeverStuck : {R : Type 0} → Frame R → ℕ → Type 0
NeverStuck f n = (taken : List Bool) → length taken ≡ n → ((v : ℕ) → v < n → IsReady f.keeps f.inward taken v → is_set taken v ≡ true) → (v : ℕ) → v < n → is_set taken v ≡ true

-- the conjuncts of the kept vertices below a number
abbrev pub head_weight : {R : Type 0} → Frame R → List (Known R) → ℕ → ℕ
head_weight f made zero = 0
head_weight f made (suc n) = head_weight f made n + cond (is_set f.keeps n) (weight_of f.meaning (pred_at made n)) 0

-- what a round leaves where it found no edge
pub record IsRound {R : Type 0} (f : Frame R) (first made : List (Known R)) (change : Change) : Type 0 where
  pub same_length : length made ≡ length first
  pub known : (v : ℕ) → v < length first → IsSome (pred_at first v)
  pub cased : IsSteady f change → (v : ℕ) → v < length made → IsCased f made v
  pub merged : (v : ℕ) → v < length made → IsMerged f made v
  pub same_preds : change ≡ Nothing → (v : ℕ) → pred_at made v ≡ pred_at first v
  pub still : change ≡ Nothing → (v : ℕ) → v < length first → IsStill f made v
  pub changed : change ≡ MadeChange → AllFormed f first → ⊥
  pub lighter : change ≡ Head → head_weight f made (length first) < head_weight f first (length first)
  pub held : change ≡ MadeChange → head_weight f made (length first) ≡ head_weight f first (length first)

-- what stands after a round that changed nothing
pub record IsCalm {R : Type 0} (f : Frame R) (made : List (Known R)) : Type 0 where
  pub cased : (v : ℕ) → v < length made → IsCased f made v
  pub merged : (v : ℕ) → v < length made → IsMerged f made v
  pub still : (v : ℕ) → v < length made → IsStill f made v
  pub known : (v : ℕ) → v < length made → IsSome (pred_at made v)
