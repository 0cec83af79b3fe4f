-- The lines of a site by its kind, and its pairs, which nothing decides.
use Rattle.std.proofs.Common.{◌≡◌, true, false, cond, List, filter, Some, None, Option, refl, ap, ◌∙◌}
use Rattle.std.specs.Prelude.{is_none}
use Rattle.std.specs.List.{All, flat_map}
use Rattle.std.proofs.lemmas.Bool.{and_parts}
use Rattle.std.proofs.lemmas.List.Elements.{All-nil, All-take, All-map, All-weaker, filter_passes}
use Rattle.elf_image.specs.declared.image.Image.{Image}
use Rattle.memory_regions.specs.declared.region.Region.{Region}
use Rattle.memory_regions.specs.declared.region.Relation.{Relation}
use Rattle.memory_regions.specs.declared.region.Relation.TheVariants.{Alias, Separate, Inside, Around, Overlap, Unknown}
use Rattle.memory_regions.specs.Relate.{Known, relate}
use Rattle.mem_forest.specs.Plain.{PlainForest}
use Rattle.mem_forest.specs.Search.{find}
use Rattle.predicates.specs.Predicate.{Predicate}
use Rattle.predicates.specs.Kinds.{has_edges}
use Rattle.predicates.specs.declared.site.Kind.{Kind}
use Rattle.graph_data.specs.Limits.{most_pairs}
use Rattle.graph_data.specs.Order.{pair_cmp}
use Rattle.x86_instr.specs.declared.instr.Instr.{Instr}
use Rattle.step_rules.specs.Drop.{dropped}
use Rattle.step_rules.specs.Site.{store_region}
use Rattle.site_lines.specs.Subject.{bare}
use Rattle.site_lines.specs.Critical.{critical_cells}
use Rattle.site_lines.specs.Ordered.{ordered}
use Rattle.site_lines.specs.Pairs.{is_unknown, stored_to, is_threat, threatened, pairs_at, pairs_of}
use Rattle.site_lines.specs.Lines.{lines_here, kind_alone, with_saved, with_pairs}
use Rattle.lifted_rules.proofs.ListLemmas.{all_flat, all_ordered}

-- the kind is the one that was found
pub lines_kind : (image : Image) (k : Kind) (o : Option Instr) (preds : List Predicate) → (lines_here image k o preds).kind ≡ k
lines_kind image k None preds = refl
lines_kind image k (Some i) preds =
    elim (has_edges k) as (λ b. (cond b (with_saved image (with_pairs image k i preds) i preds) (kind_alone k)).kind ≡ k) [ true ↦ refl | false ↦ refl ]

-- the lines of a kind with edges
pub lines_edges : (image : Image) (k : Kind) (o : Option Instr) (i : Instr) (preds : List Predicate) → o ≡ Some i → has_edges k ≡ true → lines_here image k o preds ≡ with_saved image (with_pairs image k i preds) i preds
lines_edges image k o i preds e h = ap (λ x. lines_here image k x preds) e ∙ rw h refl

-- neither the difference of the addresses nor the frame tells two regions apart
abbrev pub Undecided : Known → Region × Region → Type 0
Undecided known pair = relate known pair.0.at pair.0.bytes pair.1.at pair.1.bytes ≡ Unknown

unknown : (r : Relation) → is_unknown r ≡ true → r ≡ Unknown
unknown Alias e = absurd (let z : ⊥ = cc in z)
unknown Separate e = absurd (let z : ⊥ = cc in z)
unknown Inside e = absurd (let z : ⊥ = cc in z)
unknown Around e = absurd (let z : ⊥ = cc in z)
unknown Overlap e = absurd (let z : ⊥ = cc in z)
unknown Unknown e = refl

threats : (known : Known) (f : PlainForest) (o : Option Region) → All (Undecided known) (threatened known f o)
threats known f None = All-nil (Undecided known)
threats known f (Some r) =
    let stored = stored_to known r f in
    let kept = filter (is_threat known stored r) (critical_cells f) in
    let Q : Region → Type 0 = λ a. Undecided known (r, a) in
    All-map (Undecided known) (λ (a : Region). (r, a)) kept
    (All-weaker (λ a. is_threat known stored r a ≡ true) Q
    (λ a h. unknown (relate known r.at r.bytes a.at a.bytes) (and_parts (is_unknown (relate known r.at r.bytes a.at a.bytes)) (is_none (find a.at a.bytes stored)) h).0)
    kept (filter_passes (is_threat known stored r) (critical_cells f)))

-- each pair is undecided
pub pairs_undecided : (known : Known) (i : Instr) (preds : List Predicate) → All (Undecided known) (pairs_of known i preds)
pairs_undecided known i preds =
    let all = flat_map (pairs_at known i) preds in
    All-take (Undecided known) most_pairs (ordered pair_cmp all)
    (all_ordered (Undecided known) pair_cmp all
    (all_flat (Undecided known) (pairs_at known i) preds (λ p. threats known (dropped i p).forest (store_region i p))))

-- so is each pair of a site
pub lines_undecided : (image : Image) (k : Kind) (o : Option Instr) (preds : List Predicate) → All (Undecided (bare image)) (lines_here image k o preds).seps
lines_undecided image k None preds = All-nil (Undecided (bare image))
lines_undecided image k (Some i) preds =
    elim (has_edges k) as (λ b. All (Undecided (bare image)) (cond b (with_saved image (with_pairs image k i preds) i preds) (kind_alone k)).seps) [
      | true ↦ pairs_undecided (bare image) i preds
      | false ↦ All-nil (Undecided (bare image))
    ]
