-- Where a round changed nothing it changes nothing of a copy.
use Rattle.std.proofs.Common.{◌≡◌, ◌<◌, ◌≤◌, ◌↔◌, ◌⊎◌, ◌++◌, ℕ, zero, suc, true, false, List, [], ◌∷◌, None, Some, map, slice_get, length, refl, sym, ap, ◌∙◌, subst, inl, inr}
use Rattle.std.specs.Map.{lookup}
use Rattle.std.specs.Option.{option_to_list}
use Rattle.std.specs.BTreeMap.{BTreeMap, get, is_at}
use Rattle.std.specs.declared.vec.Vec.{Vec}
use Rattle.std.specs.declared.alloc.Global.{Global}
use Rattle.lift_graph.specs.Rows.{is_set, items_at}
use Rattle.lift_graph.specs.Graph.{address_at, key_cmp}
use Rattle.lift_graph.specs.Sites.{site_at, vertices_at}
use Rattle.lift_graph.specs.Edges.{IsWoven, places_from, places_to}
use Rattle.lift_graph.specs.Heads.{IsKept, IsLoopHead, IsSource, Way}
use Rattle.lift_graph.specs.declared.graph.Key.{Key}
use Rattle.lift_graph.specs.declared.graph.Place.{Place}
use Rattle.lift_graph.specs.declared.graph.Graph.{Graph}
use Rattle.lift_rounds.specs.Meaning.{Meaning}
use Rattle.lift_rounds.specs.Known.{Known, cases_from, gathered, incoming, pred_at, cases_at}
use Rattle.lift_rounds.specs.Settled.{IsSettled}
use Rattle.lift_openings.specs.Copies.{IsCopy}
use Rattle.lift_openings.proofs.CopyLemmas.{items_same, led_copy}

-- the same edges lead from vertices of equal rows
places_same : (xs ys : List (Vec ℕ Global)) → ((u : ℕ) → items_at ys u ≡ items_at xs u) → (order : List ℕ) (v : ℕ) → places_from ys order v ≡ places_from xs order v
places_same xs ys e [] v = refl
places_same xs ys e (u ∷ order) v =
    ap (λ row. places_to u 0 row v ++ places_from ys order v) (e u) ∙ ap (λ ps. places_to u 0 (items_at xs u) v ++ ps) (places_same xs ys e order v)

-- and the same ways
way_same : (xs ys : List (Vec Place Global)) → ((u : ℕ) → items_at ys u ≡ items_at xs u) → (n a b : ℕ) → Way xs a b n → Way ys a b n
way_same xs ys e zero a b w = w
way_same xs ys e (suc n) a b w = (w.0, subst (IsSource a) (sym (e w.0)) w.1, way_same xs ys e n w.0 b w.2)

kept_same : (keys : List Key) (xs ys : List (Vec Place Global)) → ((u : ℕ) → items_at ys u ≡ items_at xs u) → (v : ℕ) → IsKept keys xs v → IsKept keys ys v
kept_same keys xs ys e v k =
    elim k as (λ _. IsKept keys ys v) [
      | inl first ↦ inl first
      | inr head ↦ inr (subst (λ row. 2 ≤ length row) (sym (e v)) head.0, (head.1.0, way_same xs ys e (suc head.1.0) v v head.1.1))
    ]

vertices_same : (old new : BTreeMap Key ℕ) → new.entries ≡ old.entries → (address n : ℕ) → vertices_at new address n ≡ vertices_at old address n
vertices_same old new e address zero = refl
vertices_same old new e address (suc n) =
    let key : Key = record { address = address; tag = n } in
    ap (λ vs. vs ++ option_to_list (get key_cmp new key)) (vertices_same old new e address n)
    ∙ ap (λ o. vertices_at old address n ++ option_to_list o) (ap (lookup (is_at (key_cmp key))) e)

site_same : (g h : Graph) → IsCopy g h → (v : ℕ) → site_at h v ≡ site_at g v
site_same g h c v =
    vertices_same g.index h.index c.index (address_at h.keys.items v) h.tags
    ∙ ap (λ ks. vertices_at g.index (address_at ks v) h.tags) c.keys
    ∙ ap (vertices_at g.index (address_at g.keys.items v)) c.tags

pub woven_copied : (g h : Graph) (order : List ℕ) → IsCopy g h → IsWoven g order → IsWoven h order
woven_copied g h order c w =
    let inward = items_same h.inward.items g.inward.items c.inward in
    let targets = items_same h.targets.items g.targets.items c.targets in
    let n : length h.keys.items ≡ length g.keys.items = ap length c.keys in
    record {
      written = rw c.keys w.written;
      all = λ v l. w.all v (subst (λ m. v < m) n l);
      inward = λ v l. inward v ∙ w.inward v (subst (λ m. v < m) n l) ∙ sym (places_same g.targets.items h.targets.items targets order v);
    }

pub settled_copied : {R : Type 0} (m : Meaning R) (g h : Graph) (order : List ℕ) (known : List (Known R)) → IsCopy g h → IsSettled m g order known → IsSettled m h order known
settled_copied m g h order known c s =
    let targets = items_same h.targets.items g.targets.items c.targets in
    record {
      known = s.known;
      cases = λ v l.
          ap (λ ks. cases_from m (address_at ks v) (map (pred_at known) (site_at h v)) (pred_at known v)) c.keys
          ∙ ap (λ vs. cases_from m (address_at g.keys.items v) (map (pred_at known) vs) (pred_at known v)) (site_same g h c v)
          ∙ s.cases v l;
      led = led_copy m g h known known c refl s.led;
      follows = λ u k v case q l n here to known. s.follows u k v case q l n here (rw (sym (targets u)) to) known;
      exact = λ v l keeps.
          s.exact v l (subst (λ marks. is_set marks v ≡ false) c.keeps keeps)
          ∙ ap (λ ps. gathered m None (incoming known ps)) (sym (places_same g.targets.items h.targets.items targets order v));
    }

-- the same vertices are kept
pub kept_copied : (g h : Graph) → IsCopy g h
    → ((v : ℕ) → v < length g.keys.items → (is_set g.keeps.items v ≡ true) ↔ IsKept g.keys.items g.inward.items v)
    → (v : ℕ) → v < length h.keys.items → (is_set h.keeps.items v ≡ true) ↔ IsKept h.keys.items h.inward.items v
kept_copied g h c kept v l =
    let inward = items_same h.inward.items g.inward.items c.inward in
    let here = kept v (subst (λ ks. v < length ks) c.keys l) in
    subst (λ ks. (is_set h.keeps.items v ≡ true) ↔ IsKept ks h.inward.items v) (sym c.keys)
    (subst (λ marks. (is_set marks v ≡ true) ↔ IsKept g.keys.items h.inward.items v) (sym c.keeps)
    (λ e. kept_same g.keys.items g.inward.items h.inward.items inward v (here.0 e), λ k. here.1 (kept_same g.keys.items h.inward.items g.inward.items (λ u. sym (inward u)) v k)))
