-- The lines of a site, one after another.
use Rattle.std.proofs.Common.{◌≡◌, ℕ, ◌+◌, ◌<◌, ◌≤◌, Bool, true, false, ◌&&◌, ◌||◌, List, [], ◌∷◌, ◌++◌, length, length-append, append-nil, append_assoc, map, Option, Some, None, refl, sym, ap, ◌∙◌, subst, arith}
use Rattle.std.specs.Prelude.{◌==◌, nat_le, is_none}
use Rattle.std.specs.List.{flat_map, enumerate_from}
use Rattle.std.specs.declared.result.Result.TheVariants.{Ok}
use Rattle.std.proofs.lemmas.Bool.{and_parts, and_from, lt-ltb, leb-true, eqb-true, eq-eqb}
use Rattle.std.proofs.lemmas.List.Concat.{flat_map_single}
use Rattle.memory_regions.specs.declared.region.Region.{Region}
use Rattle.predicates.specs.declared.site.Kind.{Kind}
use Rattle.predicates.specs.Bounds.{in_order}
use Rattle.graph_data.specs.declared.graph.Vertex.{Vertex}
use Rattle.graph_data.specs.declared.graph.Site.{Site}
use Rattle.graph_data.specs.declared.graph.Function.{Function}
use Rattle.graph_data.specs.Parts.{Each}
use Rattle.graph_data.specs.Order.{region_before, pair_before, has_edges, may_fork, may_keep}
use Rattle.graph_data.specs.WellFormed.{IsVertex, IsSite, fork_fits}
use Rattle.graph_lines.specs.declared.line.Line.TheVariants as line
use Rattle.graph_lines.specs.declared.line.SiteLine.TheVariants as in_site
use Rattle.graph_lines.specs.Line.{keep_line}
use Rattle.graph_builder.specs.declared.builder.PartialVertex.{PartialVertex}
use Rattle.graph_builder.specs.declared.builder.Position.TheVariants as position
use Rattle.graph_builder.specs.declared.builder.Builder.{Builder}
use Rattle.graph_builder.specs.Lines.{pred_lines, edges_lines, vertex_lines, fork_lines}
use Rattle.graph_builder.specs.Partial.{empty_vertex, closed_vertex, with_vertex, closed_site}
use Rattle.graph_builder.specs.Follow.{is_whole}
use Rattle.graph_builder.specs.Order.{extends_order}
use Rattle.graph_builder.specs.Extend.{new_site}
use Rattle.graph_builder.proofs.BuildsLists.{begins_first}
use Rattle.graph_builder.specs.Building.{built_from}
use Rattle.graph_builder.proofs.BuildsSteps.{step_then, steps_then, Reads, elements}
use Rattle.graph_builder.proofs.BuildsVertex.{opened, closed_opened, whole_opened, vertex_then}

-- each element of a list, where nothing holds of no list but one without elements
each_where : {A : Type 0} (t : Bool) (xs : List A) → (t || (length xs == 0)) ≡ true → Each (λ x. t ≡ true) xs
each_where t [] e = tt
each_where true (x ∷ xs) e = (refl, each_where true xs refl)
each_where false (x ∷ xs) e = absurd (omega (arith, eqb-true (length (x ∷ xs)) 0 e))

fork_by : (t : Bool) (pair : Region × Region) → (t || is_none (Some pair)) ≡ true → t ≡ true
fork_by true pair e = refl
fork_by false pair e = absurd (cc)

-- a site with vertices more
abbrev with_more : Site → List Vertex → Site
with_more s vs = record { addr = s.addr; kind = s.kind; seps = s.seps; fork = s.fork; keeps = s.keeps; vertices = s.vertices ++ vs }

-- in a vertex that nothing is missing of, with which the site is the given one
pub record InSite (functions : List Function) (f : Function) (site : Site) (r : Builder) : Type 0 where
  pub partial_site : Site
  pub partial_vertex : PartialVertex
  pub at : r ≡ record { functions = functions; position = position.Vertex f partial_site partial_vertex }
  pub closed : closed_site partial_site partial_vertex ≡ site
  pub whole : is_whole partial_site.kind partial_vertex ≡ true

module _ (functions : List Function) (f : Function) where
  abbrev at_vertex : Site → PartialVertex → Builder
  at_vertex s v = record { functions = functions; position = position.Vertex f s v }

  abbrev pub at_site : Site → Builder
  at_site s = record { functions = functions; position = position.Site f s }

  -- ---- vertices

  vertices_then : (vs : List Vertex) (s : Site) (v : PartialVertex) (n : ℕ) → Each (IsVertex s.kind) vs → is_whole s.kind v ≡ true → n ≡ length s.vertices + 1 → n + length vs ≤ 8
      → Reads (InSite functions f (with_more (closed_site s v) vs)) (at_vertex s v) (flat_map vertex_lines (enumerate_from n vs))
  vertices_then [] s v n each whole number few = record {
    after = at_vertex s v;
    reads = refl;
    holds = record { partial_site = s; partial_vertex = v; at = refl; closed = ap (λ l. record { addr = s.addr; kind = s.kind; seps = s.seps; fork = s.fork; keeps = s.keeps; vertices = l }) (sym (append-nil (s.vertices ++ closed_vertex v ∷ []))); whole = whole };
  }
  vertices_then (x ∷ vs) s v n each whole number few =
      let t : Site = closed_site s v in
      let count : length t.vertices ≡ length s.vertices + 1 = length-append s.vertices (closed_vertex v ∷ []) in
      let h = vertices_then vs t (opened x) (n + 1) each.1 (whole_opened s.kind x each.0) (omega (arith, number, count)) (omega (arith, few)) in
      let same : with_more (closed_site t (opened x)) vs ≡ with_more t (x ∷ vs) =
      ap (λ y. with_more (with_vertex t y) vs) (closed_opened s.kind x each.0)
      ∙ ap (λ l. record { addr = s.addr; kind = s.kind; seps = s.seps; fork = s.fork; keeps = s.keeps; vertices = l }) (append_assoc t.vertices (x ∷ []) vs) in
      record {
        after = h.after;
        reads =
            step_then (at_vertex s v) (line.Vertex n) ((pred_lines x.pred ++ edges_lines x.out) ++ flat_map vertex_lines (enumerate_from (n + 1) vs)) h.after
            whole (eq-eqb n (length s.vertices + 1) number) (lt-ltb n 8 (omega (arith, few)))
            (steps_then (at_vertex t empty_vertex) (pred_lines x.pred ++ edges_lines x.out) (flat_map vertex_lines (enumerate_from (n + 1) vs)) (at_vertex t (opened x)) h.after
            (vertex_then functions f t x each.0) h.reads);
        holds = subst (λ w. InSite functions f w h.after) same h.holds;
      }

  -- the vertices of a site that has none yet, one at least
  first_then : (vs : List Vertex) (s : Site) → s.vertices ≡ [] → Each (IsVertex s.kind) vs → 1 ≤ length vs → length vs ≤ 8
      → Reads (InSite functions f (with_more s vs)) (at_site s) (flat_map vertex_lines (enumerate_from 0 vs))
  first_then [] s e each some few = absurd (omega (arith, some))
  first_then (x ∷ vs) s e each some few =
      let none : length s.vertices ≡ 0 = ap length e in
      let h = vertices_then vs s (opened x) (0 + 1) each.1 (whole_opened s.kind x each.0) (omega (arith, none)) (omega (arith, few)) in
      let same : with_more (closed_site s (opened x)) vs ≡ with_more s (x ∷ vs) =
      ap (λ y. with_more (with_vertex s y) vs) (closed_opened s.kind x each.0)
      ∙ ap (λ l. record { addr = s.addr; kind = s.kind; seps = s.seps; fork = s.fork; keeps = s.keeps; vertices = l }) (append_assoc s.vertices (x ∷ []) vs) in
      record {
        after = h.after;
        reads =
            step_then (at_site s) (line.Vertex 0) ((pred_lines x.pred ++ edges_lines x.out) ++ flat_map vertex_lines (enumerate_from (0 + 1) vs)) h.after
            refl (eq-eqb 0 (length s.vertices) (sym none)) refl
            (steps_then (at_vertex s empty_vertex) (pred_lines x.pred ++ edges_lines x.out) (flat_map vertex_lines (enumerate_from (0 + 1) vs)) (at_vertex s (opened x)) h.after
            (vertex_then functions f s x each.0) h.reads);
        holds = subst (λ w. InSite functions f w h.after) same h.holds;
      }

  -- ---- what is assumed at a site

  module _ (addr : ℕ) (kind : Kind) where
    abbrev with_seps : List (Region × Region) → Site
    with_seps seps = record { addr = addr; kind = kind; seps = seps; fork = None; keeps = []; vertices = [] }

    abbrev HasSeps : List (Region × Region) → Builder → Type 0
    HasSeps done r = r ≡ at_site (with_seps done)

    sep_then : (done : List (Region × Region)) (pair : Region × Region) (r : Builder) → HasSeps done r → has_edges kind ≡ true → extends_order pair_before done pair ≡ true → length done < 64
        → Reads (HasSeps (done ++ pair ∷ [])) r (line.InSite (in_site.Pair pair.0 pair.1) ∷ [])
    sep_then done pair r h e order few = record {
      after = at_site (with_seps (done ++ pair ∷ []));
      reads =
          ap (λ r. built_from r (line.InSite (in_site.Pair pair.0 pair.1) ∷ [])) h
          ∙ step_then (at_site (with_seps done)) (line.InSite (in_site.Pair pair.0 pair.1)) [] (at_site (with_seps (done ++ pair ∷ [])))
          (and_from (has_edges kind) true e refl) order (lt-ltb (length done) 64 few) refl;
      holds = refl;
    }

    seps_then : (seps : List (Region × Region)) → Each (λ pair. has_edges kind ≡ true) seps → in_order pair_before seps ≡ true → length seps ≤ 64
        → built_from (at_site (new_site addr kind)) (map (λ pair. line.InSite (in_site.Pair pair.0 pair.1)) seps) ≡ Ok (at_site (with_seps seps))
    seps_then seps each order few =
        let h = elements HasSeps (λ pair. line.InSite (in_site.Pair pair.0 pair.1) ∷ []) pair_before (λ pair. has_edges kind ≡ true) 64 sep_then seps [] (at_site (new_site addr kind)) refl
        each order (begins_first pair_before seps) (omega (arith, few)) in
        ap (built_from (at_site (new_site addr kind))) (sym (flat_map_single (λ pair. line.InSite (in_site.Pair pair.0 pair.1)) seps)) ∙ h.reads ∙ ap Ok h.holds

    module _ (seps : List (Region × Region)) where
      abbrev with_keeps : Option (Region × Region) → List Region → Site
      with_keeps fork keeps = record { addr = addr; kind = kind; seps = seps; fork = fork; keeps = keeps; vertices = [] }

      fork_then : (fork : Option (Region × Region)) → fork_fits kind fork ≡ true → built_from (at_site (with_seps seps)) (fork_lines fork) ≡ Ok (at_site (with_keeps fork []))
      fork_then None e = refl
      fork_then (Some pair) e =
          step_then (at_site (with_seps seps)) (line.InSite (in_site.Fork pair.0 pair.1)) [] (at_site (with_keeps (Some pair) []))
          (and_from (may_fork kind) true (fork_by (may_fork kind) pair e) refl) refl refl refl

      module _ (fork : Option (Region × Region)) where
        abbrev HasKeeps : List Region → Builder → Type 0
        HasKeeps done r = r ≡ at_site (with_keeps fork done)

        keep_then : (done : List Region) (a : Region) (r : Builder) → HasKeeps done r → may_keep kind ≡ true → extends_order region_before done a ≡ true → length done < 64
            → Reads (HasKeeps (done ++ a ∷ [])) r (line.InSite (in_site.Keep a) ∷ [])
        keep_then done a r h e order few = record {
          after = at_site (with_keeps fork (done ++ a ∷ []));
          reads =
              ap (λ r. built_from r (line.InSite (in_site.Keep a) ∷ [])) h
              ∙ step_then (at_site (with_keeps fork done)) (line.InSite (in_site.Keep a)) [] (at_site (with_keeps fork (done ++ a ∷ []))) e order (lt-ltb (length done) 64 few) refl;
          holds = refl;
        }

        keeps_then : (keeps : List Region) → Each (λ a. may_keep kind ≡ true) keeps → in_order region_before keeps ≡ true → length keeps ≤ 64
            → built_from (at_site (with_keeps fork [])) (map keep_line keeps) ≡ Ok (at_site (with_keeps fork keeps))
        keeps_then keeps each order few =
            let h = elements HasKeeps (λ a. line.InSite (in_site.Keep a) ∷ []) region_before (λ a. may_keep kind ≡ true) 64 keep_then keeps [] (at_site (with_keeps fork [])) refl
            each order (begins_first region_before keeps) (omega (arith, few)) in
            ap (built_from (at_site (with_keeps fork []))) (sym (flat_map_single keep_line keeps)) ∙ h.reads ∙ ap Ok h.holds

  -- the lines of a site after its own
  pub site_then : (s : Site) → IsSite s
      → Reads (InSite functions f s) (at_site (new_site s.addr s.kind))
      (map (λ pair. line.InSite (in_site.Pair pair.0 pair.1)) s.seps ++ (fork_lines s.fork ++ (map keep_line s.keeps ++ flat_map vertex_lines (enumerate_from 0 s.vertices))))
  site_then s h =
      let seps = and_parts (has_edges s.kind || (length s.seps == 0)) (nat_le (length s.seps) 64 && in_order pair_before s.seps) h.seps_fit in
      let seps_order = and_parts (nat_le (length s.seps) 64) (in_order pair_before s.seps) seps.1 in
      let keeps = and_parts (may_keep s.kind || (length s.keeps == 0)) (nat_le (length s.keeps) 64 && in_order region_before s.keeps) h.keeps_fit in
      let keeps_order = and_parts (nat_le (length s.keeps) 64) (in_order region_before s.keeps) keeps.1 in
      let number = and_parts (nat_le 1 (length s.vertices)) (nat_le (length s.vertices) 8) h.vertices_fit in
      let start : Builder = at_site (new_site s.addr s.kind) in
      let paired : Builder = at_site (with_seps s.addr s.kind s.seps) in
      let forked : Builder = at_site (with_keeps s.addr s.kind s.seps s.fork []) in
      let kept : Builder = at_site (with_keeps s.addr s.kind s.seps s.fork s.keeps) in
      let vertices = first_then s.vertices (with_keeps s.addr s.kind s.seps s.fork s.keeps) refl h.vertices (leb-true 1 (length s.vertices) number.0) (leb-true (length s.vertices) 8 number.1) in
      record {
        after = vertices.after;
        reads =
            steps_then start (map (λ pair. line.InSite (in_site.Pair pair.0 pair.1)) s.seps) (fork_lines s.fork ++ (map keep_line s.keeps ++ flat_map vertex_lines (enumerate_from 0 s.vertices))) paired vertices.after
            (seps_then s.addr s.kind s.seps (each_where (has_edges s.kind) s.seps seps.0) seps_order.1 (leb-true (length s.seps) 64 seps_order.0))
            (steps_then paired (fork_lines s.fork) (map keep_line s.keeps ++ flat_map vertex_lines (enumerate_from 0 s.vertices)) forked vertices.after
            (fork_then s.addr s.kind s.seps s.fork h.fork_fits)
            (steps_then forked (map keep_line s.keeps) (flat_map vertex_lines (enumerate_from 0 s.vertices)) kept vertices.after
            (keeps_then s.addr s.kind s.seps s.fork s.keeps (each_where (may_keep s.kind) s.keeps keeps.0) keeps_order.1 (leb-true (length s.keeps) 64 keeps_order.0))
            vertices.reads));
        holds = vertices.holds;
      }
