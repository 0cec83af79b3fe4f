-- What rounds leave: each edge holds, and each predicate is exact.
use Rattle.std.specs.Prelude.{◌≡◌, ◌<◌, ℕ, true, false, List, Some, None, length, map, slice_get, IsSome}
use Rattle.lift_graph.specs.Rows.{is_set, items_at}
use Rattle.lift_graph.specs.Graph.{address_at, tag_at}
use Rattle.lift_graph.specs.Links.{keys_after}
use Rattle.lift_graph.specs.Sites.{site_at}
use Rattle.lift_graph.specs.Edges.{places_from}
use Rattle.lift_graph.specs.declared.graph.Graph.{Graph}
use Rattle.lift_rounds.specs.Meaning.{Meaning}
use Rattle.lift_rounds.specs.Known.{Known, pred_at, cases_at, incoming, gathered, addresses, cases_from}
use Rattle.lift_rounds.specs.declared.data.Case.{Case}

-- the edges of a vertex lead to the keys of its cases
abbrev pub IsLedAt : {R : Type 0} → Meaning R → Graph → List (Known R) → ℕ → Type 0
IsLedAt m g made v =
    map (slice_get g.keys.items) (items_at g.targets.items v) ≡ map Some (keys_after (m.forks (address_at g.keys.items v)) (tag_at g.keys.items v) 0 (addresses (cases_at made v)))

-- the edges of each vertex lead to the keys of its cases
abbrev pub IsLed : {R : Type 0} → Meaning R → Graph → List (Known R) → Type 0
IsLed m g made = (v : ℕ) → IsLedAt m g made v

-- where a round changed nothing
pub record IsSettled {R : Type 0} (m : Meaning R) (g : Graph) (order : List ℕ) (made : List (Known R)) : Type 0 where
  -- each vertex has a predicate
  pub known : (v : ℕ) → v < length made → IsSome (pred_at made v)
  -- a vertex has the cases of its predicate, at what is known at the vertices of its address
  pub cases : (v : ℕ) → v < length made → cases_from m (address_at g.keys.items v) (map (pred_at made) (site_at g v)) (pred_at made v) ≡ Some (cases_at made v)
  -- its edges are exactly its cases, each to the vertex of the case's key
  pub led : IsLed m g made
  -- each case entails the predicate of its edge's target
  pub follows : (u k v : ℕ) (c : Case R) (q : R) → u < length made → v < length made → slice_get (cases_at made u) k ≡ Some c → slice_get (items_at g.targets.items u) k ≡ Some v → pred_at made v ≡ Some q → m.entails c.pred q ≡ true
  -- where a vertex isn't kept its predicate is exactly the merge of its incoming cases in written order
  pub exact : (v : ℕ) → v < length made → is_set g.keeps.items v ≡ false → pred_at made v ≡ gathered m None (incoming made (places_from g.targets.items order v))
