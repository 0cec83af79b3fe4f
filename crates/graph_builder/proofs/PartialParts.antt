-- A part more of a site or of a vertex leaves it well formed as far as it goes.
use Rattle.std.proofs.Common.{◌≡◌, ℕ, ◌+◌, ◌<◌, ◌≤◌, true, false, ◌&&◌, ◌||◌, Option, List, [], ◌∷◌, ◌++◌, length, length-append, refl, arith}
use Rattle.std.specs.Prelude.{nat_le, nat_lt, ◌==◌}
use Rattle.std.proofs.lemmas.Bool.{and_parts, and_from, or_left, or_right, le-leb, ltb-true}
use Rattle.sym_terms.specs.Plain.{PlainSum}
use Rattle.mem_forest.specs.Plain.{PlainNode}
use Rattle.mem_forest.specs.Shape.{ascending}
use Rattle.memory_regions.specs.declared.region.Region.{Region}
use Rattle.predicates.specs.declared.bound.FlagFact.{FlagFact}
use Rattle.predicates.specs.declared.bound.Values.{Values}
use Rattle.predicates.specs.declared.bound.Values.TheVariants.{Range, OneOf}
use Rattle.predicates.specs.declared.bound.Bound.{Bound}
use Rattle.predicates.specs.declared.site.Kind.{Kind}
use Rattle.predicates.specs.Bounds.{in_order, numbers_ascend, are_values, are_formed, key_before, keys_ascend, values_ascend}
use Rattle.graph_data.specs.declared.graph.Site.{Site}
use Rattle.graph_data.specs.Parts.{Each}
use Rattle.graph_data.specs.Order.{region_before, pair_before, has_edges, may_fork, may_keep}
use Rattle.graph_data.specs.WellFormed.{IsNumber, IsRegion, ArePair, IsFact, IsBound, IsEdge, IsKind, IsVertex}
use Rattle.graph_data.proofs.PartLemmas.{each_push}
use Rattle.graph_lines.specs.Line.{HasNumber, IsGiven, IsNode}
use Rattle.graph_builder.specs.declared.builder.PartialVertex.{PartialVertex}
use Rattle.graph_builder.specs.Partial.{empty_vertex, closed_vertex, closed_site}
use Rattle.graph_builder.specs.Follow.{is_empty, is_whole}
use Rattle.graph_builder.specs.Order.{extends_order, address_extends, node_fits}
use Rattle.graph_lines.specs.LineLimits.{is_within_number_limit}
use Rattle.graph_builder.specs.Limits.{count_of}
use Rattle.graph_builder.specs.Extend.{new_site}
use Rattle.graph_builder.proofs.PartialInvariant.{IsPartialVertex, IsPartialSite}
use Rattle.graph_builder.proofs.PartialOrder.{order_more, all_more}
use Rattle.graph_builder.proofs.PartialLevels.{levels_after}
use Rattle.graph_builder.proofs.PartialForest.{terms_after, forest_after}
use Rattle.graph_builder.proofs.PartialRegisters.{registers_filled}
use Rattle.graph_builder.proofs.PartialClosing.{vertex_closed}
use Rattle.graph_builder.proofs.PartialLines.{with_pair, with_fork, with_keep, with_registers, with_flags, with_bound, with_node_at, with_edges}

-- at most as many as a limit allows, with one more
few_more : {A : Type 0} (n : ℕ) (xs : List A) (x : A) → nat_lt (length xs) n ≡ true → nat_le (length (xs ++ x ∷ [])) n ≡ true
few_more n xs x h =
    let long : length (xs ++ x ∷ []) ≡ length xs + 1 = length-append xs (x ∷ []) in
    le-leb (length (xs ++ x ∷ [])) n (omega (arith, long, ltb-true (length xs) n h))

-- ---- sites

module _ (sites : List Site) (s : Site) (o : IsPartialSite sites s) where
  pub partial_pair : (pair : Region × Region) → ArePair pair → has_edges s.kind ≡ true → nat_lt (length s.seps) 64 ≡ true → extends_order pair_before s.seps pair ≡ true
      → IsPartialSite sites (with_pair pair s)
  partial_pair pair h may room f =
      let more = s.seps ++ pair ∷ [] in
      let parts = and_parts (has_edges s.kind || (length s.seps == 0)) (nat_le (length s.seps) 64 && in_order pair_before s.seps) o.seps_fit in
      let old = and_parts (nat_le (length s.seps) 64) (in_order pair_before s.seps) parts.1 in
      record {
        in_order = o.in_order;
        addr = o.addr;
        kind = o.kind;
        seps = each_push ArePair s.seps pair o.seps h;
        seps_fit = and_from (has_edges s.kind || (length more == 0)) (nat_le (length more) 64 && in_order pair_before more)
            (or_left (has_edges s.kind) (length more == 0) may)
            (and_from (nat_le (length more) 64) (in_order pair_before more) (few_more 64 s.seps pair room) (order_more pair_before s.seps pair old.1 f));
        fork = o.fork;
        fork_fits = o.fork_fits;
        keeps = o.keeps;
        keeps_fit = o.keeps_fit;
        vertices = o.vertices;
        few = o.few;
      }

  pub partial_fork : (pair : Region × Region) → ArePair pair → may_fork s.kind ≡ true → IsPartialSite sites (with_fork pair s)
  partial_fork pair h may = record {
    in_order = o.in_order;
    addr = o.addr;
    kind = o.kind;
    seps = o.seps;
    seps_fit = o.seps_fit;
    fork = h;
    fork_fits = or_left (may_fork s.kind) false may;
    keeps = o.keeps;
    keeps_fit = o.keeps_fit;
    vertices = o.vertices;
    few = o.few;
  }

  pub partial_keep : (r : Region) → IsRegion r → may_keep s.kind ≡ true → nat_lt (length s.keeps) 64 ≡ true → extends_order region_before s.keeps r ≡ true
      → IsPartialSite sites (with_keep r s)
  partial_keep r h may room f =
      let more = s.keeps ++ r ∷ [] in
      let parts = and_parts (may_keep s.kind || (length s.keeps == 0)) (nat_le (length s.keeps) 64 && in_order region_before s.keeps) o.keeps_fit in
      let old = and_parts (nat_le (length s.keeps) 64) (in_order region_before s.keeps) parts.1 in
      record {
        in_order = o.in_order;
        addr = o.addr;
        kind = o.kind;
        seps = o.seps;
        seps_fit = o.seps_fit;
        fork = o.fork;
        fork_fits = o.fork_fits;
        keeps = each_push IsRegion s.keeps r o.keeps h;
        keeps_fit = and_from (may_keep s.kind || (length more == 0)) (nat_le (length more) 64 && in_order region_before more)
            (or_left (may_keep s.kind) (length more == 0) may)
            (and_from (nat_le (length more) 64) (in_order region_before more) (few_more 64 s.keeps r room) (order_more region_before s.keeps r old.1 f));
        vertices = o.vertices;
        few = o.few;
      }

  -- a site with its last vertex, where there is room for one vertex more
  pub partial_next : (v : PartialVertex) → IsPartialVertex s.kind v → is_whole s.kind v ≡ true → length s.vertices + 1 < 8 → IsPartialSite sites (closed_site s v)
  partial_next v h whole room =
      let long : length (s.vertices ++ closed_vertex v ∷ []) ≡ length s.vertices + 1 = length-append s.vertices (closed_vertex v ∷ []) in
      record {
        in_order = o.in_order;
        addr = o.addr;
        kind = o.kind;
        seps = o.seps;
        seps_fit = o.seps_fit;
        fork = o.fork;
        fork_fits = o.fork_fits;
        keeps = o.keeps;
        keeps_fit = o.keeps_fit;
        vertices = each_push (IsVertex s.kind) s.vertices (closed_vertex v) o.vertices (vertex_closed s.kind v h whole);
        few = omega (arith, long, room);
      }

-- a new site
pub partial_site : (sites : List Site) (addr : ℕ) (kind : Kind) → IsNumber addr → IsKind kind → address_extends sites addr ≡ true → IsPartialSite sites (new_site addr kind)
partial_site sites addr kind n k f = record {
  in_order = f;
  addr = n;
  kind = k;
  seps = tt;
  seps_fit = and_from (has_edges kind || true) true (or_right (has_edges kind) true refl) refl;
  fork = tt;
  fork_fits = or_right (may_fork kind) true refl;
  keeps = tt;
  keeps_fit = and_from (may_keep kind || true) true (or_right (may_keep kind) true refl) refl;
  vertices = tt;
  few = omega arith;
}

-- ---- vertices

-- a new vertex
pub partial_empty : (kind : Kind) → IsPartialVertex kind empty_vertex
partial_empty kind = record {
  regs = tt;
  flags = tt;
  formed = refl;
  bounds = tt;
  levels = tt;
  forest = record { few = omega arith; in_form = refl; single = λ at bytes. omega arith };
  terms = tt;
  edges = tt;
  few = omega arith;
  kinds = or_right (has_edges kind) true refl;
}

values_formed : (set : Values) → values_ascend set ≡ true → is_within_number_limit set ≡ true → HasNumber set → are_values set ≡ true
values_formed (Range low high) a f h = a
values_formed (OneOf numbers) a f h =
    and_from (nat_le 1 (length numbers)) (nat_le (length numbers) 1024 && numbers_ascend numbers) (le-leb 1 (length numbers) (omega (arith, h)))
    (and_from (nat_le (length numbers) 1024) (numbers_ascend numbers) f a)

module _ (kind : Kind) (v : PartialVertex) (o : IsPartialVertex kind v) where
  pub partial_registers : (given : List (ℕ × Option PlainSum)) → Each IsGiven given → IsPartialVertex kind (with_registers given v)
  partial_registers given h = record {
    regs = registers_filled given h;
    flags = o.flags;
    formed = o.formed;
    bounds = o.bounds;
    levels = o.levels;
    forest = o.forest;
    terms = o.terms;
    edges = o.edges;
    few = o.few;
    kinds = o.kinds;
  }

  pub partial_flags : (fact : FlagFact) → IsFact fact → IsPartialVertex kind (with_flags fact v)
  partial_flags fact h = record {
    regs = o.regs;
    flags = h;
    formed = o.formed;
    bounds = o.bounds;
    levels = o.levels;
    forest = o.forest;
    terms = o.terms;
    edges = o.edges;
    few = o.few;
    kinds = o.kinds;
  }

  pub partial_bound : (b : Bound) → IsBound b → HasNumber b.set → values_ascend b.set ≡ true → is_within_number_limit b.set ≡ true → nat_lt (length v.bounds) 16 ≡ true
      → extends_order key_before v.bounds b ≡ true → IsPartialVertex kind (with_bound b v)
  partial_bound b h number a few room f =
      let more = v.bounds ++ b ∷ [] in
      let parts = and_parts (nat_le (length v.bounds) 16) (keys_ascend v.bounds && are_formed v.bounds) o.formed in
      let old = and_parts (keys_ascend v.bounds) (are_formed v.bounds) parts.1 in
      record {
        regs = o.regs;
        flags = o.flags;
        formed = and_from (nat_le (length more) 16) (keys_ascend more && are_formed more) (few_more 16 v.bounds b room)
            (and_from (keys_ascend more) (are_formed more) (order_more key_before v.bounds b old.0 f)
            (all_more (λ d. are_values d.set) v.bounds b old.1 (values_formed b.set a few number)));
        bounds = each_push IsBound v.bounds b o.bounds h;
        levels = o.levels;
        forest = o.forest;
        terms = o.terms;
        edges = o.edges;
        few = o.few;
        kinds = o.kinds;
      }

  pub partial_node : (level : ℕ) (c : PlainNode) → IsNode c → level ≤ length v.levels → length c.names ≤ 8 → ascending c.names ≡ true → node_fits level c v.levels ≡ true
      → count_of v.levels < 64 → IsPartialVertex kind (with_node_at level c v)
  partial_node level c h le few a fits room = record {
    regs = o.regs;
    flags = o.flags;
    formed = o.formed;
    bounds = o.bounds;
    levels = levels_after level c v.levels h.single o.levels;
    forest = forest_after level c v.levels h o.levels le o.forest few a fits room;
    terms = terms_after level c v.levels h o.levels le o.terms;
    edges = o.edges;
    few = o.few;
    kinds = o.kinds;
  }

  pub partial_edges : (out : List (ℕ × ℕ)) → Each IsEdge out → has_edges kind ≡ true → length out ≤ 1024 → IsPartialVertex kind (with_edges out v)
  partial_edges out h has few = record {
    regs = o.regs;
    flags = o.flags;
    formed = o.formed;
    bounds = o.bounds;
    levels = o.levels;
    forest = o.forest;
    terms = o.terms;
    edges = h;
    few = few;
    kinds = or_left (has_edges kind) (is_empty out) has;
  }
