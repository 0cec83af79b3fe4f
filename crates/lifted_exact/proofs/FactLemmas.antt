-- The lines of a site are as its kind has them.
use Rattle.std.proofs.Common.{◌≡◌, ◌≤◌, ℕ, zero, suc, Bool, true, false, ◌&&◌, ◌||◌, ◌==◌, List, [], ◌∷◌, length, take, Option, Some, None, refl, arith, le-leb}
use Rattle.std.specs.Prelude.{if◌then◌else◌, nat_le}
use Rattle.std.specs.List.{list_all, flat_map}
use Rattle.std.specs.Prelude.{map}
use Rattle.std.proofs.lemmas.Bool.{and_parts, and_from}
use Rattle.elf_image.specs.declared.image.Image.{Image}
use Rattle.memory_regions.specs.declared.region.Region.{Region}
use Rattle.memory_regions.specs.Relate.{Known}
use Rattle.mem_forest.specs.Shape.{is_size}
use Rattle.predicates.specs.Bounds.{in_order}
use Rattle.predicates.specs.Predicate.{Predicate}
use Rattle.predicates.specs.Kinds.{has_edges, may_keep}
use Rattle.predicates.specs.declared.site.Kind.{Kind}
use Rattle.graph_data.specs.Limits.{most_pairs, most_keeps}
use Rattle.graph_data.specs.Order.{region_cmp, pair_cmp, region_before, pair_before}
use Rattle.graph_data.specs.Parts.{Each}
use Rattle.graph_data.specs.WellFormed.{ArePair, IsRegion, seps_fit, keeps_fit}
use Rattle.x86_instr.specs.declared.instr.Instr.{Instr}
use Rattle.step_rules.specs.View.{View}
use Rattle.site_lines.specs.declared.lines.Lines.{Lines}
use Rattle.site_lines.specs.Ordered.{ordered}
use Rattle.site_lines.specs.Pairs.{pairs_at, pairs_of}
use Rattle.site_lines.specs.Saved.{shared, saved_at, saved_of}
use Rattle.site_lines.specs.Subject.{bare}
use Rattle.site_lines.specs.Lines.{kind_alone, view_with, with_pairs, with_saved, lines_here}
use Rattle.lift_graph.specs.Search.{IsMember}
use Rattle.lifted_parts.specs.Rest.{HasForm}
use Rattle.lifted_exact.specs.Looked.{ArePairTerms, IsRegionTerm}
use Rattle.lifted_exact.proofs.LineLemmas.{sized, pair_sized, pairs_of_sized, saved_of_sized, pairs_ordered, saved_ordered}

-- sizes, orders and numbers
pub record AreLines (l : Lines) : Type 0 where
  pub pairs : list_all pair_sized l.seps ≡ true
  pub seps : seps_fit l.kind l.seps ≡ true
  pub regions : list_all sized l.keeps ≡ true
  pub keeps : keeps_fit l.kind l.keeps ≡ true

or_all : (b : Bool) → ((b || true) && true) ≡ true
or_all true = refl
or_all false = refl

alone_lines : (kind : Kind) → AreLines (kind_alone kind)
alone_lines kind = record { pairs = refl; seps = or_all (has_edges kind); regions = refl; keeps = or_all (may_keep kind) }

take_most : {X : Type 0} (n : ℕ) (xs : List X) → length (take n xs) ≤ n
take_most zero xs = omega arith
take_most (suc n) [] = omega arith
take_most (suc n) (x ∷ xs) = let h = take_most n xs in omega (arith, h)

pairs_few : (known : Known) (i : Instr) (preds : List Predicate) → nat_le (length (pairs_of known i preds)) most_pairs ≡ true
pairs_few known i preds = le-leb (length (pairs_of known i preds)) most_pairs (take_most most_pairs (ordered pair_cmp (flat_map (pairs_at known i) preds)))

saved_few : (v : View) (i : Instr) (preds : List Predicate) → nat_le (length (saved_of v i preds)) most_keeps ≡ true
saved_few v i [] = refl
saved_few v i (p ∷ preds) = le-leb (length (saved_of v i (p ∷ preds))) most_keeps (take_most most_keeps (ordered region_cmp (shared (saved_at v i p) (map (saved_at v i) preds))))

or_left : (a b : Bool) → a ≡ true → (a || b) ≡ true
or_left a b e = rw e refl

saved_lines : (image : Image) (kind : Kind) (i : Instr) (preds : List Predicate) → has_edges kind ≡ true → ((p : Predicate) → IsMember p preds → HasForm p) → AreLines (with_saved image (with_pairs image kind i preds) i preds)
saved_lines image kind i preds e h =
    let pairs = pairs_of (bare image) i preds in
    let view = view_with image (with_pairs image kind i preds) in
    let saved = saved_of view i preds in
    record {
      pairs = pairs_of_sized (bare image) i preds h;
      seps = and_from (has_edges kind || (length pairs == 0)) (nat_le (length pairs) most_pairs && in_order pair_before pairs)
          (or_left (has_edges kind) (length pairs == 0) e)
          (and_from (nat_le (length pairs) most_pairs) (in_order pair_before pairs) (pairs_few (bare image) i preds) (pairs_ordered (bare image) i preds));
      regions = elim (may_keep kind) as (λ b. list_all sized (if b then saved else []) ≡ true) [ true ↦ saved_of_sized view i preds h | false ↦ refl ];
      keeps = elim (may_keep kind) as (λ b. ((b || (length (if b then saved else []) == 0)) && (nat_le (length (if b then saved else [])) most_keeps && in_order region_before (if b then saved else []))) ≡ true) [
        | true ↦ and_from (nat_le (length saved) most_keeps) (in_order region_before saved) (saved_few view i preds) (saved_ordered view i preds)
        | false ↦ refl
      ];
    }

-- the lines at an address
pub are_lines : (image : Image) (kind : Kind) (i : Option Instr) (preds : List Predicate) → ((p : Predicate) → IsMember p preds → HasForm p) → AreLines (lines_here image kind i preds)
are_lines image kind None preds h = alone_lines kind
are_lines image kind (Some i) preds h = elim (has_edges kind) as (λ b. has_edges kind ≡ b → AreLines (if b then with_saved image (with_pairs image kind i preds) i preds else kind_alone kind)) [
  | true ↦ λ e. saved_lines image kind i preds e h
  | false ↦ λ e. alone_lines kind
] refl

-- ---- regions

pub are_pairs : (ps : List (Region × Region)) → Each ArePairTerms ps → list_all pair_sized ps ≡ true → Each ArePair ps
are_pairs [] h k = tt
are_pairs (p ∷ ps) h k =
    let a = and_parts (pair_sized p) (list_all pair_sized ps) k in
    let b = and_parts (is_size p.0.bytes) (is_size p.1.bytes) a.0 in
    ((record { at = h.0.0; size = b.0 }, record { at = h.0.1; size = b.1 }), are_pairs ps h.1 a.1)

pub are_regions : (rs : List Region) → Each IsRegionTerm rs → list_all sized rs ≡ true → Each IsRegion rs
are_regions [] h k = tt
are_regions (r ∷ rs) h k =
    let a = and_parts (sized r) (list_all sized rs) k in
    (record { at = h.0; size = a.0 }, are_regions rs h.1 a.1)
