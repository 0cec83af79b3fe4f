-- What a copy has of what it is a copy of.
use Rattle.std.specs.Prelude.{◌≡◌, List, map}
use Rattle.std.specs.declared.vec.Vec.{Vec}
use Rattle.std.specs.declared.alloc.Global.{Global}
use Rattle.lift_graph.specs.declared.graph.Graph.{Graph}

-- rows as lists
abbrev pub rows_of : {A : Type 0} → List (Vec A Global) → List (List A)
rows_of rows = map (λ row. row.items) rows

-- the same vertices and edges
pub record IsCopy (old new : Graph) : Type 0 where
  pub keys : new.keys.items ≡ old.keys.items
  pub targets : rows_of new.targets.items ≡ rows_of old.targets.items
  pub inward : rows_of new.inward.items ≡ rows_of old.inward.items
  pub keeps : new.keeps.items ≡ old.keeps.items
  pub index : new.index.entries ≡ old.index.entries
  pub tags : new.tags ≡ old.tags
