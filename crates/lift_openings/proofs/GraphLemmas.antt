-- A copy of a graph is one.
use Rattle.std.proofs.Common.{◌≡◌, ◌<◌, ◌↔◌, ℕ, List, [], ◌∷◌, Some, length, slice_get, refl, sym, ap, ◌∙◌, subst, arith}
use Rattle.std.specs.List.{All, Contains}
use Rattle.std.specs.Map.{lookup}
use Rattle.std.specs.BTreeMap.{get, is_at}
use Rattle.std.specs.declared.vec.Vec.{Vec}
use Rattle.std.specs.declared.alloc.Global.{Global}
use Rattle.lift_graph.specs.Rows.{items_at}
use Rattle.lift_graph.specs.Graph.{IsGraph, key_cmp}
use Rattle.lift_graph.specs.declared.graph.Graph.{Graph}
use Rattle.lift_openings.specs.Copies.{rows_of}
use Rattle.lift_openings.proofs.CopyLemmas.{items_same}

rows_long : {A : Type 0} (xs ys : List (Vec A Global)) → rows_of xs ≡ rows_of ys → length xs ≡ length ys
rows_long [] [] e = refl
rows_long [] (y ∷ ys) e = absurd (let f : ⊥ = cc in f)
rows_long (x ∷ xs) [] e = absurd (let f : ⊥ = cc in f)
rows_long (x ∷ xs) (y ∷ ys) e = let t : rows_of xs ≡ rows_of ys = cc in let h = rows_long xs ys t in omega (arith, h)

-- what has the same vertices, edges and index is a graph too
pub graph_copied : (g h : Graph) → h.keys.items ≡ g.keys.items → rows_of h.targets.items ≡ rows_of g.targets.items → rows_of h.inward.items ≡ rows_of g.inward.items → h.keeps.items ≡ g.keeps.items → h.index.entries ≡ g.index.entries → h.tags ≡ g.tags → IsGraph g → IsGraph h
graph_copied g h keys targets inward keeps index tags graph =
    let n : length h.keys.items ≡ length g.keys.items = ap length keys in
    let t = rows_long h.targets.items g.targets.items targets in
    let i = rows_long h.inward.items g.inward.items inward in
    let k : length h.keeps.items ≡ length g.keeps.items = ap length keeps in
    let square = graph.listed.square in
    let rows : (u : ℕ) → items_at g.targets.items u ≡ items_at h.targets.items u = λ u. items_same g.targets.items h.targets.items (sym targets) u in
    record {
      listed = record {
        square = record { targets = t ∙ square.targets ∙ sym n; inward = i ∙ square.inward ∙ sym n; keeps = k ∙ square.keeps ∙ sym n };
        index = λ key v. subst (λ ks. (get key_cmp h.index key ≡ Some v) ↔ (slice_get ks v ≡ Some key)) (sym keys)
            (subst (λ o. (o ≡ Some v) ↔ (slice_get g.keys.items v ≡ Some key)) (ap (lookup (is_at (key_cmp key))) (sym index)) (graph.listed.index key v));
        tags = subst (λ m. All (λ x. x.tag < m) h.keys.items) (sym tags) (subst (λ ks. All (λ x. x.tag < g.tags) ks) (sym keys) graph.listed.tags);
      };
      entry = (graph.entry.0, ap (λ ks. slice_get ks 0) keys ∙ graph.entry.1);
      within = λ u. subst (λ m. All (λ v. (0 < v) × (v < m)) (items_at h.targets.items u)) (sym n) (subst (λ row. All (λ v. (0 < v) × (v < length g.keys.items)) row) (rows u) (graph.within u));
      born = λ v p l.
          let b = graph.born v p (subst (λ m. v < m) n l) in
          (b.0, b.1, subst (λ row. Contains row v) (rows b.0) b.2);
    }
