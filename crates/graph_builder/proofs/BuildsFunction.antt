-- The lines of functions, one after another, and the last line.
use Rattle.std.proofs.Common.{◌≡◌, suc, ◌<◌, Bool, true, List, [], ◌∷◌, ◌++◌, length, append-nil, Option, Some, None, refl, sym, ap, ◌∙◌, subst, arith}
use Rattle.std.specs.Prelude.{nat_lt, nat_le, ⊤}
use Rattle.std.specs.List.{flat_map}
use Rattle.std.specs.declared.result.Result.TheVariants.{Ok}
use Rattle.std.proofs.lemmas.Bool.{and_from, le-leb}
use Rattle.graph_data.specs.declared.graph.Site.{Site}
use Rattle.graph_data.specs.declared.graph.Refused.{Refused}
use Rattle.graph_data.specs.declared.graph.Refused.TheVariants.{NotCode}
use Rattle.graph_data.specs.declared.graph.Function.{Function}
use Rattle.graph_data.specs.declared.graph.Graph.{Graph}
use Rattle.graph_data.specs.WellFormed.{IsSite, HasSites, HasBody, IsFunction, IsWellFormed}
use Rattle.graph_lines.specs.declared.line.Line.TheVariants as line
use Rattle.graph_lines.specs.declared.line_kind.LineKind.TheVariants as line_kind
use Rattle.graph_builder.specs.declared.builder.PartialVertex.{PartialVertex}
use Rattle.graph_builder.specs.declared.builder.Position.{Position}
use Rattle.graph_builder.specs.declared.builder.Position.TheVariants as position
use Rattle.graph_builder.specs.declared.builder.Builder.{Builder}
use Rattle.graph_builder.specs.Lines.{site_lines, body_lines, function_lines, graph_lines}
use Rattle.graph_builder.specs.Partial.{closed_site, closed_function, closed_at, new_builder}
use Rattle.graph_builder.specs.Follow.{follows_at, is_whole}
use Rattle.graph_builder.specs.Order.{extends_order, address_extends, entry_in_order}
use Rattle.graph_builder.specs.Extend.{new_function, refused_function}
use Rattle.graph_builder.proofs.BuildsLists.{extends_key, begins_first, ascends_in_order}
use Rattle.graph_builder.proofs.PartialOrder.{extends_last}
use Rattle.graph_builder.specs.Building.{built_from}
use Rattle.graph_builder.proofs.BuildsSteps.{step_then, steps_then, Reads, elements}
use Rattle.graph_builder.proofs.BuildsSite.{InSite, site_then}

-- a function with these sites
abbrev pub with_sites : Function → List Site → Function
with_sites f sites = record { entry = f.entry; below = f.below; above = f.above; refused = f.refused; sites = sites }

-- whether one site is before another
abbrev site_before : Site → Site → Bool
site_before s t = nat_lt s.addr t.addr

-- in the last site of a function, with which its sites are the given ones
pub record InSites (functions : List Function) (f : Function) (sites : List Site) (r : Builder) : Type 0 where
  pub partial_function : Function
  pub partial_site : Site
  pub partial_vertex : PartialVertex
  pub at : r ≡ record { functions = functions; position = position.Vertex partial_function partial_site partial_vertex }
  pub closed : closed_function partial_function partial_site partial_vertex ≡ with_sites f sites
  pub whole : is_whole partial_site.kind partial_vertex ≡ true

module _ (functions : List Function) (f : Function) (none : f.sites ≡ []) where
  -- after sites of a function, or after its own line
  abbrev HasRead : List Site → Builder → Type 0
  HasRead [] r = r ≡ record { functions = functions; position = position.Function f }
  HasRead (s ∷ sites) r = InSites functions f (s ∷ sites) r

  has_read : (done : List Site) (s : Site) (r : Builder) → InSites functions f (done ++ s ∷ []) r → HasRead (done ++ s ∷ []) r
  has_read [] s r h = h
  has_read (t ∷ done) s r h = h

  -- after a site's lines, which follow its own line
  in_sites : (done : List Site) (s : Site) (g : Function) (r : Builder) → g ≡ with_sites f done → InSite functions g s r → InSites functions f (done ++ s ∷ []) r
  in_sites done s g r same h = record {
    partial_function = g;
    partial_site = h.partial_site;
    partial_vertex = h.partial_vertex;
    at = h.at;
    closed =
        ap (λ t. with_sites g (g.sites ++ t ∷ [])) h.closed
        ∙ ap (λ g. with_sites g (g.sites ++ s ∷ [])) same;
    whole = h.whole;
  }

  one_site : (done : List Site) (s : Site) (r : Builder) → HasRead done r → IsSite s → extends_order site_before done s ≡ true → length done < suc (length done)
      → Reads (HasRead (done ++ s ∷ [])) r (site_lines s)
  one_site [] s r h site order few =
      let rest = site_then functions f s site in
      let start : Builder = record { functions = functions; position = position.Function f } in
      record {
        after = rest.after;
        reads = ap (λ r. built_from r (site_lines s)) h ∙ step_then start (line.Site s.addr s.kind) _ rest.after refl (ap (λ sites. address_extends sites s.addr) none) refl rest.reads;
        holds = has_read [] s rest.after (in_sites [] s f rest.after (λ i. with_sites f (none i)) rest.holds);
      }
  one_site (t ∷ done) s r h site order few =
      let g : Function = closed_function h.partial_function h.partial_site h.partial_vertex in
      let rest = site_then functions g s site in
      let start : Builder = record { functions = functions; position = position.Vertex h.partial_function h.partial_site h.partial_vertex } in
      let all : h.partial_function.sites ++ closed_site h.partial_site h.partial_vertex ∷ [] ≡ t ∷ done = ap (λ g. g.sites) h.closed in
      let before : nat_lt h.partial_site.addr s.addr ≡ true =
      sym (extends_last site_before h.partial_function.sites (closed_site h.partial_site h.partial_vertex) s)
      ∙ ap (λ l. extends_order site_before l s) all ∙ order in
      record {
        after = rest.after;
        reads = ap (λ r. built_from r (site_lines s)) h.at ∙ step_then start (line.Site s.addr s.kind) _ rest.after h.whole before refl rest.reads;
        holds = has_read (t ∷ done) s rest.after (in_sites (t ∷ done) s g rest.after h.closed rest.holds);
      }

  some_read : (sites : List Site) (r : Builder) → 0 < length sites → HasRead sites r → InSites functions f sites r
  some_read [] r h k = absurd (omega (arith, h))
  some_read (s ∷ sites) r h k = k

  -- the lines of a function's sites, after its own
  sites_then : (sites : List Site) → HasSites (with_sites f sites)
      → Reads (InSites functions f sites) (record { functions = functions; position = position.Function f }) (flat_map site_lines sites)
  sites_then sites h =
      let rest = elements HasRead site_lines site_before IsSite (length sites) (λ done s r k site order few. one_site done s r k site order (omega arith)) sites []
      (record { functions = functions; position = position.Function f }) refl h.sites (ascends_in_order (λ s. s.addr) sites h.ascending) (begins_first site_before sites) (omega arith) in
      record { after = rest.after; reads = rest.reads; holds = some_read sites rest.after h.some rest.holds }

-- ---- functions

abbrev function_before : Function → Function → Bool
function_before f g = nat_lt f.entry g.entry

-- whether a function may begin
abbrev Ready : Position → Type 0
Ready position.Between = ⊤
Ready (position.Vertex f s v) = is_whole s.kind v ≡ true
Ready _ = ⊥

-- after functions, the last of which may be open
pub record HasFunctions (functions : List Function) (r : Builder) : Type 0 where
  pub ready : Ready r.position
  pub whole : r.functions ++ closed_at r.position ≡ functions

ready_function : (p : Position) → Ready p → follows_at p line_kind.Function ≡ true
ready_function position.Between h = refl
ready_function (position.Function f) h = absurd h
ready_function (position.Site f s) h = absurd h
ready_function (position.Vertex f s v) h = h
ready_function position.Ended h = absurd h

ready_refused : (p : Position) → Ready p → follows_at p line_kind.Refused ≡ true
ready_refused position.Between h = refl
ready_refused (position.Function f) h = absurd h
ready_refused (position.Site f s) h = absurd h
ready_refused (position.Vertex f s v) h = h
ready_refused position.Ended h = absurd h

ready_end : (p : Position) → Ready p → follows_at p line_kind.End ≡ true
ready_end position.Between h = refl
ready_end (position.Function f) h = absurd h
ready_end (position.Site f s) h = absurd h
ready_end (position.Vertex f s v) h = h
ready_end position.Ended h = absurd h

-- what follows functions in order has a higher entry than the last of them
entry_by : (functions : List Function) (p : Position) (g : Function) → Ready p → extends_order function_before (functions ++ closed_at p) g ≡ true
    → entry_in_order functions p g.entry ≡ true
entry_by functions position.Between g h e =
    sym (extends_key (λ f n. nat_lt f.entry n) (λ g. g.entry) functions g) ∙ ap (λ l. extends_order function_before l g) (sym (append-nil functions)) ∙ e
entry_by functions (position.Function f) g h e = absurd h
entry_by functions (position.Site f s) g h e = absurd h
entry_by functions (position.Vertex f s v) g h e = sym (extends_last function_before functions (closed_function f s v) g) ∙ e
entry_by functions position.Ended g h e = absurd h

module _ (done : List Function) (r : Builder) (h : HasFunctions done r) where
  entry_above : (g : Function) → extends_order function_before done g ≡ true → entry_in_order r.functions r.position g.entry ≡ true
  entry_above g e = entry_by r.functions r.position g h.ready (ap (λ l. extends_order function_before l g) h.whole ∙ e)

  function_then : (f : Function) → f.refused ≡ None → HasSites f → extends_order function_before done f ≡ true
      → Reads (HasFunctions (done ++ f ∷ [])) r (line.Function f.entry f.below f.above ∷ flat_map site_lines f.sites)
  function_then f none has order =
      let new : Function = new_function f.entry f.below f.above in
      let rest = sites_then done new refl f.sites (record { below = has.below; above = has.above; some = has.some; sites = has.sites; ascending = has.ascending }) in
      let same : with_sites new f.sites ≡ f = λ i. record { entry = f.entry; below = f.below; above = f.above; refused = sym none i; sites = f.sites } in
      record {
        after = rest.after;
        reads =
            step_then r (line.Function f.entry f.below f.above) (flat_map site_lines f.sites) rest.after
            (ready_function r.position h.ready) (entry_above f order)
            (and_from (nat_le f.below 1048576) (nat_le f.above 1048576) (le-leb f.below 1048576 has.below) (le-leb f.above 1048576 has.above))
            (ap (λ l. built_from (record { functions = l; position = position.Function new }) (flat_map site_lines f.sites)) h.whole ∙ rest.reads);
        holds = subst (HasFunctions (done ++ f ∷ [])) (sym rest.holds.at) (record {
          ready = rest.holds.whole;
          whole = ap (λ g. done ++ g ∷ []) (rest.holds.closed ∙ same);
        });
      }

  refused_then : (f : Function) → refused_function f.entry ≡ f → extends_order function_before done f ≡ true
      → Reads (HasFunctions (done ++ f ∷ [])) r (line.Refused f.entry ∷ [])
  refused_then f same order = record {
    after = record { functions = done ++ f ∷ []; position = position.Between };
    reads =
        step_then r (line.Refused f.entry) [] (record { functions = done ++ f ∷ []; position = position.Between })
        (ready_refused r.position h.ready) (entry_above f order) refl
        (λ i. Ok (record { functions = h.whole i ++ same i ∷ []; position = position.Between }));
    holds = record { ready = tt; whole = append-nil (done ++ f ∷ []) };
  }

  body_then : (f : Function) (why : Option Refused) → f.refused ≡ why → HasBody why f → extends_order function_before done f ≡ true
      → Reads (HasFunctions (done ++ f ∷ [])) r (body_lines why f)
  body_then f None is has order = function_then f is has order
  body_then f (Some NotCode) is empty order =
      refused_then f (λ i. record { entry = f.entry; below = sym empty.below i; above = sym empty.above i; refused = sym is i; sites = sym empty.sites i }) order

  -- the last line
  end_then : built_from r (line.End ∷ []) ≡ Ok (record { functions = done; position = position.Ended })
  end_then =
      step_then r line.End [] (record { functions = done; position = position.Ended }) (ready_end r.position h.ready) refl refl
      (ap (λ l. Ok (record { functions = l; position = position.Ended })) h.whole)

-- the lines of a graph
pub graph_reads : (g : Graph) → IsWellFormed g → built_from new_builder (graph_lines g) ≡ Ok (record { functions = g.functions; position = position.Ended })
graph_reads g h =
    let rest = elements HasFunctions function_lines function_before IsFunction (length g.functions)
    (λ done f r k function order few. body_then done r k f f.refused refl function.body order) g.functions [] new_builder
    (record { ready = tt; whole = refl }) h.functions (ascends_in_order (λ f. f.entry) g.functions h.ascending) (begins_first function_before g.functions) (omega arith) in
    steps_then new_builder (flat_map function_lines g.functions) (line.End ∷ []) rest.after (record { functions = g.functions; position = position.Ended })
    rest.reads (end_then g.functions rest.after rest.holds)
