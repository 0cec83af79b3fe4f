-- What was found and is known when no round changes anything any more.
use Rattle.std.specs.Prelude.{◌≡◌, ◌<◌, ◌↔◌, ℕ, true, List, Some, length, slice_get}
use Rattle.std.specs.List.{All}
use Rattle.mem_forest.specs.Shape.{IsForest}
use Rattle.predicates.specs.Predicate.{Predicate, IsPredicate}
use Rattle.predicates.specs.Entry.{entry_predicate}
use Rattle.lift_graph.specs.Rows.{is_set}
use Rattle.lift_graph.specs.Graph.{IsGraph}
use Rattle.lift_graph.specs.Edges.{IsWoven}
use Rattle.lift_graph.specs.Heads.{IsKept}
use Rattle.lift_graph.specs.declared.graph.Graph.{Graph}
use Rattle.lift_rounds.specs.Known.{Known, pred_at, cases_at}
use Rattle.lift_rounds.specs.Settled.{IsSettled}
use Rattle.site_lines.specs.Subject.{Subject}
use Rattle.image_steps.specs.Meant.{meaning_of}

-- 16 registers, bounds in form, and a forest
pub record HasForm (p : Predicate) : Type 0 where
  pub formed : IsPredicate p
  pub forest : IsForest p.forest

-- each predicate, and each case's, has that form
pub record AreFormed (known : List (Known Predicate)) : Type 0 where
  pub preds : (v : ℕ) (p : Predicate) → pred_at known v ≡ Some p → HasForm p
  pub cases : (v : ℕ) → All (λ c. HasForm c.pred) (cases_at known v)

-- a round changed nothing: each edge holds, and each predicate that isn't kept is the merge of its cases
pub record IsAtRest (s : Subject) (g : Graph) (known : List (Known Predicate)) (entry : ℕ) : Type 0 where
  pub graph : IsGraph g
  pub rows : length known ≡ length g.keys.items
  pub order : List ℕ
  pub woven : IsWoven g order
  pub settled : IsSettled (meaning_of s) g order known
  pub kept : (v : ℕ) → v < length g.keys.items → (is_set g.keeps.items v ≡ true) ↔ IsKept g.keys.items g.inward.items v
  pub formed : AreFormed known
  -- vertex 0 stands at the entry, with tag 0 and what is known there
  pub begins : slice_get g.keys.items 0 ≡ Some (record { address = entry; tag = 0 })
  pub start : pred_at known 0 ≡ Some entry_predicate
