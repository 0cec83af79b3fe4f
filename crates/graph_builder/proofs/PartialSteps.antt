-- What a line that can come next, in order and within the limits, leaves: the lines so far with it, well formed as far as they go.
use Rattle.std.proofs.Common.{◌≡◌, ℕ, ◌+◌, true, ◌&&◌, Option, List, [], ◌∷◌, ◌++◌, length, map, length-append, refl, sym, ap, ◌∙◌, subst, arith, append-nil, append_assoc}
use Rattle.std.specs.Prelude.{nat_le, nat_lt, is_none}
use Rattle.std.specs.List.{flat_map}
use Rattle.std.proofs.lemmas.Bool.{and_parts, leb-true, ltb-true, eqb-true}
use Rattle.sym_terms.specs.Plain.{PlainSum}
use Rattle.mem_forest.specs.Plain.{PlainNode}
use Rattle.mem_forest.specs.Shape.{ascending}
use Rattle.memory_regions.specs.declared.region.Region.{Region}
use Rattle.predicates.specs.declared.bound.FlagFact.{FlagFact}
use Rattle.predicates.specs.declared.bound.Bound.{Bound}
use Rattle.predicates.specs.declared.site.Kind.{Kind}
use Rattle.predicates.specs.Bounds.{key_before, values_ascend}
use Rattle.graph_data.specs.declared.graph.Site.{Site}
use Rattle.graph_data.specs.declared.graph.Function.{Function}
use Rattle.graph_data.specs.Parts.{Each, Ascends}
use Rattle.graph_data.specs.Order.{has_edges, may_fork}
use Rattle.graph_data.specs.WellFormed.{IsFunction}
use Rattle.graph_data.proofs.PartLemmas.{each_push}
use Rattle.graph_lines.specs.declared.line.Line.{Line}
use Rattle.graph_lines.specs.declared.line.Line.TheVariants as line
use Rattle.graph_lines.specs.declared.line.SiteLine.TheVariants as in_site
use Rattle.graph_lines.specs.declared.line.VertexLine.TheVariants as in_vertex
use Rattle.graph_lines.specs.declared.line_kind.LineKind.TheVariants as line_kind
use Rattle.graph_lines.specs.Line.{IsLine}
use Rattle.graph_lines.specs.LineLimits.{is_within_number_limit}
use Rattle.graph_lines.specs.LineKind.{kind_of_line}
use Rattle.graph_builder.specs.declared.builder.PartialVertex.{PartialVertex}
use Rattle.graph_builder.specs.declared.builder.Position.{Position}
use Rattle.graph_builder.specs.declared.builder.Position.TheVariants as position
use Rattle.graph_builder.specs.declared.builder.Builder.{Builder}
use Rattle.graph_builder.specs.Lines.{vertex_lines, site_lines, function_lines}
use Rattle.graph_builder.specs.Partial.{empty_vertex, closed_vertex, with_site, closed_site, closed_function, closed_at}
use Rattle.graph_builder.specs.Follow.{is_empty, before_edges, follows_at}
use Rattle.graph_builder.specs.Order.{extends_order, entry_extends, address_extends, entry_in_order, node_fits, is_in_order}
use Rattle.graph_builder.specs.Limits.{count_of, is_within}
use Rattle.graph_builder.specs.Extend.{refused_function, new_site, extended}
use Rattle.graph_builder.specs.Building.{position_lines, lines_of}
use Rattle.graph_builder.proofs.PartialInvariant.{IsPartialVertex, IsPartialSite, IsPartialAt, IsPartial}
use Rattle.graph_builder.proofs.PartialOrder.{extends_last, ascends_more}
use Rattle.graph_builder.proofs.PartialLevels.{lines_after}
use Rattle.graph_builder.proofs.PartialClosing.{site_closed, function_more, function_closed, made_more, site_lines_more, closed_lines}
use Rattle.graph_builder.proofs.PartialLines.{with_pair, with_fork, with_keep, pair_lines, forked_lines, keep_lines, partial_lines, registers_line, flags_line, bound_lines, node_line, edges_line, with_registers, with_flags, with_bound, with_node_at, with_edges}
use Rattle.graph_builder.proofs.PartialParts.{partial_pair, partial_fork, partial_keep, partial_next, partial_site, partial_empty, partial_registers, partial_flags, partial_bound, partial_node, partial_edges}

-- what was read, by its parts
abbrev pub at_position : List Function → Position → Builder
at_position functions p = record { functions = functions; position = p }

-- what is built with a line more, and well formed as far as it goes
abbrev pub Goes : Builder → Line → Builder → Type 0
Goes r l next = IsPartial next × (lines_of next ≡ lines_of r ++ l ∷ [])

-- a line leaves what it should
abbrev pub Steps : Line → List Function → Position → Type 0
Steps l functions p =
    IsPartial (at_position functions p) → IsLine l → follows_at p (kind_of_line l) ≡ true → is_in_order (at_position functions p) l ≡ true → is_within p l ≡ true
    → Goes (at_position functions p) l (extended (at_position functions p) l)

-- ---- what is whole after a position

-- the functions with the one that is closed
record IsWhole (functions : List Function) (p : Position) : Type 0 where
  all : Each IsFunction (functions ++ closed_at p)
  ascending : Ascends (map (λ f. f.entry) (functions ++ closed_at p))
  lines : flat_map function_lines (functions ++ closed_at p) ≡ lines_of (at_position functions p)
  above : (entry : ℕ) → entry_in_order functions p entry ≡ true → entry_extends (functions ++ closed_at p) entry ≡ true

whole : (functions : List Function) (p : Position) → IsPartial (at_position functions p) → follows_at p line_kind.End ≡ true → IsWhole functions p
whole functions position.Between o m = record {
  all = subst (Each IsFunction) (sym (append-nil functions)) o.functions;
  ascending = subst (λ fs. Ascends (map (λ f. f.entry) fs)) (sym (append-nil functions)) o.ascending;
  lines = ap (flat_map function_lines) (append-nil functions) ∙ sym (append-nil (flat_map function_lines functions));
  above = λ entry h. ap (λ fs. entry_extends fs entry) (append-nil functions) ∙ h;
}
whole functions (position.Function f) o m = absurd (cc)
whole functions (position.Site f s) o m = absurd (cc)
whole functions (position.Vertex f s v) o m =
    let at = o.position in
    let last = site_closed f.sites s v at.1.0 at.1.1 m in
    let more = function_more functions f (closed_site s v) at.0 last at.1.0.in_order in
    let long : length (f.sites ++ closed_site s v ∷ []) ≡ length f.sites + 1 = length-append f.sites (closed_site s v ∷ []) in
    let closed = function_closed functions (closed_function f s v) more (omega (arith, long)) in
    record {
      all = each_push IsFunction functions (closed_function f s v) o.functions closed;
      ascending = ascends_more (λ g. g.entry) functions (closed_function f s v) o.ascending at.0.above_those;
      lines = made_more function_lines functions (closed_function f s v) ∙ ap (λ x. flat_map function_lines functions ++ x) (closed_lines f s v at.0.unrefused);
      above = λ entry h. extends_last (λ g n. nat_lt g.entry n) functions (closed_function f s v) entry ∙ h;
    }
whole functions position.Ended o m = absurd (cc)

function_ends : (p : Position) → follows_at p line_kind.Function ≡ true → follows_at p line_kind.End ≡ true
function_ends position.Between m = m
function_ends (position.Function f) m = m
function_ends (position.Site f s) m = m
function_ends (position.Vertex f s v) m = m
function_ends position.Ended m = m

refused_ends : (p : Position) → follows_at p line_kind.Refused ≡ true → follows_at p line_kind.End ≡ true
refused_ends position.Between m = m
refused_ends (position.Function f) m = m
refused_ends (position.Site f s) m = m
refused_ends (position.Vertex f s v) m = m
refused_ends position.Ended m = m

pub function_step : (entry below above : ℕ) (functions : List Function) (p : Position) → Steps (line.Function entry below above) functions p
function_step entry below above functions p o l m n w =
    let are = whole functions p o (function_ends p m) in
    let frame = and_parts (nat_le below 1048576) (nat_le above 1048576) w in (
      record {
        functions = are.all;
        ascending = are.ascending;
        position = (
          record {
            above_those = are.above entry n;
            entry = l.0;
            below = leb-true below 1048576 frame.0;
            above = leb-true above 1048576 frame.1;
            unrefused = refl;
            sites = tt;
            ascending = tt;
          },
          refl,
        );
      },
      ap (λ x. x ++ line.Function entry below above ∷ []) are.lines,
    )

pub refused_step : (entry : ℕ) (functions : List Function) (p : Position) → Steps (line.Refused entry) functions p
refused_step entry functions p o l m n w =
    let are = whole functions p o (refused_ends p m) in
    let gone = functions ++ closed_at p in (
      record {
        functions = each_push IsFunction gone (refused_function entry) are.all (record { entry = l; body = record { below = refl; above = refl; sites = refl } });
        ascending = ascends_more (λ f. f.entry) gone (refused_function entry) are.ascending (are.above entry n);
        position = tt;
      },
      append-nil (flat_map function_lines (gone ++ refused_function entry ∷ []))
          ∙ made_more function_lines gone (refused_function entry)
          ∙ ap (λ x. x ++ line.Refused entry ∷ []) are.lines,
    )

pub end_step : (functions : List Function) (p : Position) → Steps line.End functions p
end_step functions p o l m n w =
    let are = whole functions p o m in
    (record { functions = are.all; ascending = are.ascending; position = tt }, ap (λ x. x ++ line.End ∷ []) are.lines)

-- ---- what goes on in a function

-- a position with a line more after the same functions
goes_on : (functions : List Function) (p q : Position) (l : Line) → IsPartial (at_position functions p) → IsPartialAt functions q → position_lines q ≡ position_lines p ++ l ∷ []
    → Goes (at_position functions p) l (at_position functions q)
goes_on functions p q l o at e =
    let prefix = flat_map function_lines functions in
    (record { functions = o.functions; ascending = o.ascending; position = at }, ap (λ x. prefix ++ x) e ∙ sym (append_assoc prefix (position_lines p) (l ∷ [])))

pub site_step : (addr : ℕ) (kind : Kind) (functions : List Function) (p : Position) → Steps (line.Site addr kind) functions p
site_step addr kind functions position.Between o l m n w = absurd (cc)
site_step addr kind functions (position.Function f) o l m n w =
    let at = o.position in
    let none_before : address_extends f.sites addr ≡ true = ap (λ sites. address_extends sites addr) at.1 in
    goes_on functions (position.Function f) (position.Site f (new_site addr kind)) (line.Site addr kind) o
    (at.0, (partial_site f.sites addr kind l.0 l.1 none_before, refl)) refl
site_step addr kind functions (position.Site f s) o l m n w = absurd (cc)
site_step addr kind functions (position.Vertex f s v) o l m n w =
    let at = o.position in
    let last = site_closed f.sites s v at.1.0 at.1.1 m in
    let after = extends_last (λ t k. nat_lt t.addr k) f.sites (closed_site s v) addr ∙ n in
    goes_on functions (position.Vertex f s v) (position.Site (with_site f (closed_site s v)) (new_site addr kind)) (line.Site addr kind) o
    (function_more functions f (closed_site s v) at.0 last at.1.0.in_order, (partial_site (f.sites ++ closed_site s v ∷ []) addr kind l.0 l.1 after, refl))
    (ap (λ x. x ++ line.Site addr kind ∷ []) (closed_lines f s v at.0.unrefused))
site_step addr kind functions position.Ended o l m n w = absurd (cc)

-- ---- what goes on in a site

in_site_goes : (functions : List Function) (f : Function) (s next : Site) (l : Line) → IsPartial (at_position functions (position.Site f s)) → IsPartialSite f.sites next → next.vertices ≡ []
    → site_lines next ≡ site_lines s ++ l ∷ [] → Goes (at_position functions (position.Site f s)) l (at_position functions (position.Site f next))
in_site_goes functions f s next l o h none_yet e =
    goes_on functions (position.Site f s) (position.Site f next) l o (o.position.0, (h, none_yet))
    (ap (λ x. function_lines f ++ x) e ∙ sym (append_assoc (function_lines f) (site_lines s) (l ∷ [])))

pub pair_step : (a b : Region) (functions : List Function) (p : Position) → Steps (line.InSite (in_site.Pair a b)) functions p
pair_step a b functions position.Between o l m n w = absurd (cc)
pair_step a b functions (position.Function f) o l m n w = absurd (cc)
pair_step a b functions (position.Site f s) o l m n w =
    let at = o.position in
    let parts = and_parts (has_edges s.kind) (is_none s.fork && is_empty s.keeps) m in
    in_site_goes functions f s (with_pair (a, b) s) (line.InSite (in_site.Pair a b)) o (partial_pair f.sites s at.1.0 (a, b) l parts.0 w n) at.1.1 (pair_lines s (a, b) parts.1 at.1.1)
pair_step a b functions (position.Vertex f s v) o l m n w = absurd (cc)
pair_step a b functions position.Ended o l m n w = absurd (cc)

pub fork_step : (a b : Region) (functions : List Function) (p : Position) → Steps (line.InSite (in_site.Fork a b)) functions p
fork_step a b functions position.Between o l m n w = absurd (cc)
fork_step a b functions (position.Function f) o l m n w = absurd (cc)
fork_step a b functions (position.Site f s) o l m n w =
    let at = o.position in
    let parts = and_parts (may_fork s.kind) (is_none s.fork && is_empty s.keeps) m in
    in_site_goes functions f s (with_fork (a, b) s) (line.InSite (in_site.Fork a b)) o (partial_fork f.sites s at.1.0 (a, b) l parts.0) at.1.1 (forked_lines s (a, b) parts.1 at.1.1)
fork_step a b functions (position.Vertex f s v) o l m n w = absurd (cc)
fork_step a b functions position.Ended o l m n w = absurd (cc)

pub keep_step : (r : Region) (functions : List Function) (p : Position) → Steps (line.InSite (in_site.Keep r)) functions p
keep_step r functions position.Between o l m n w = absurd (cc)
keep_step r functions (position.Function f) o l m n w = absurd (cc)
keep_step r functions (position.Site f s) o l m n w =
    let at = o.position in
    in_site_goes functions f s (with_keep r s) (line.InSite (in_site.Keep r)) o (partial_keep f.sites s at.1.0 r l m w n) at.1.1 (keep_lines s r at.1.1)
keep_step r functions (position.Vertex f s v) o l m n w = absurd (cc)
keep_step r functions position.Ended o l m n w = absurd (cc)

pub vertex_step : (k : ℕ) (functions : List Function) (p : Position) → Steps (line.Vertex k) functions p
vertex_step k functions position.Between o l m n w = absurd (cc)
vertex_step k functions (position.Function f) o l m n w = absurd (cc)
vertex_step k functions (position.Site f s) o l m n w =
    let at = o.position in
    let number : length s.vertices ≡ k = sym (eqb-true k (length s.vertices) n) in
    goes_on functions (position.Site f s) (position.Vertex f s empty_vertex) (line.Vertex k) o (at.0, (at.1.0, partial_empty s.kind))
    (ap (λ i. function_lines f ++ (site_lines s ++ line.Vertex i ∷ [])) number ∙ sym (append_assoc (function_lines f) (site_lines s) (line.Vertex k ∷ [])))
vertex_step k functions (position.Vertex f s v) o l m n w =
    let at = o.position in
    let number = eqb-true k (length s.vertices + 1) n in
    let few = ltb-true k 8 w in
    let long : length (s.vertices ++ closed_vertex v ∷ []) ≡ k = length-append s.vertices (closed_vertex v ∷ []) ∙ sym number in
    let next = partial_next f.sites s at.1.0 v at.1.1 m (omega (arith, number, few)) in
    goes_on functions (position.Vertex f s v) (position.Vertex f (closed_site s v) empty_vertex) (line.Vertex k) o (at.0, (next, partial_empty s.kind))
    (ap (λ i. function_lines f ++ (site_lines (closed_site s v) ++ line.Vertex i ∷ [])) long
    ∙ ap (λ x. function_lines f ++ (x ++ line.Vertex k ∷ [])) (site_lines_more s (closed_vertex v))
    ∙ sym (append_assoc (function_lines f) (site_lines s ++ vertex_lines (length s.vertices, closed_vertex v)) (line.Vertex k ∷ [])))
vertex_step k functions position.Ended o l m n w = absurd (cc)

-- ---- what goes on in a vertex

in_vertex_goes : (functions : List Function) (f : Function) (s : Site) (v next : PartialVertex) (l : Line) → IsPartial (at_position functions (position.Vertex f s v)) → IsPartialVertex s.kind next
    → partial_lines (length s.vertices) next ≡ partial_lines (length s.vertices) v ++ l ∷ [] → Goes (at_position functions (position.Vertex f s v)) l (at_position functions (position.Vertex f s next))
in_vertex_goes functions f s v next l o h e =
    let here = partial_lines (length s.vertices) v in
    goes_on functions (position.Vertex f s v) (position.Vertex f s next) l o (o.position.0, (o.position.1.0, h))
    (ap (λ x. function_lines f ++ (site_lines s ++ x)) e
    ∙ ap (λ x. function_lines f ++ x) (sym (append_assoc (site_lines s) here (l ∷ [])))
    ∙ sym (append_assoc (function_lines f) (site_lines s ++ here) (l ∷ [])))

pub registers_step : (given : List (ℕ × Option PlainSum)) (functions : List Function) (p : Position) → Steps (line.InVertex (in_vertex.Registers given)) functions p
registers_step given functions position.Between o l m n w = absurd (cc)
registers_step given functions (position.Function f) o l m n w = absurd (cc)
registers_step given functions (position.Site f s) o l m n w = absurd (cc)
registers_step given functions (position.Vertex f s v) o l m n w =
    in_vertex_goes functions f s v (with_registers given v) (line.InVertex (in_vertex.Registers given)) o (partial_registers s.kind v o.position.1.1 given l.0)
    (registers_line (length s.vertices) v given m l.0 l.1 n)
registers_step given functions position.Ended o l m n w = absurd (cc)

pub flags_step : (fact : FlagFact) (functions : List Function) (p : Position) → Steps (line.InVertex (in_vertex.Flags fact)) functions p
flags_step fact functions position.Between o l m n w = absurd (cc)
flags_step fact functions (position.Function f) o l m n w = absurd (cc)
flags_step fact functions (position.Site f s) o l m n w = absurd (cc)
flags_step fact functions (position.Vertex f s v) o l m n w =
    in_vertex_goes functions f s v (with_flags fact v) (line.InVertex (in_vertex.Flags fact)) o (partial_flags s.kind v o.position.1.1 fact l) (flags_line (length s.vertices) v fact m)
flags_step fact functions position.Ended o l m n w = absurd (cc)

pub bound_step : (b : Bound) (functions : List Function) (p : Position) → Steps (line.InVertex (in_vertex.Bound b)) functions p
bound_step b functions position.Between o l m n w = absurd (cc)
bound_step b functions (position.Function f) o l m n w = absurd (cc)
bound_step b functions (position.Site f s) o l m n w = absurd (cc)
bound_step b functions (position.Vertex f s v) o l m n w =
    let order = and_parts (values_ascend b.set) (extends_order key_before v.bounds b) n in
    let limits = and_parts (is_within_number_limit b.set) (nat_lt (length v.bounds) 16) w in
    in_vertex_goes functions f s v (with_bound b v) (line.InVertex (in_vertex.Bound b)) o (partial_bound s.kind v o.position.1.1 b l.0 l.1 order.0 limits.0 limits.1 order.1)
    (bound_lines (length s.vertices) v b m)
bound_step b functions position.Ended o l m n w = absurd (cc)

pub node_step : (level : ℕ) (c : PlainNode) (functions : List Function) (p : Position) → Steps (line.InVertex (in_vertex.Node level c)) functions p
node_step level c functions position.Between o l m n w = absurd (cc)
node_step level c functions (position.Function f) o l m n w = absurd (cc)
node_step level c functions (position.Site f s) o l m n w = absurd (cc)
node_step level c functions (position.Vertex f s v) o l m n w =
    let stand = and_parts (before_edges v) (nat_le level (length v.levels)) m in
    let le = leb-true level (length v.levels) stand.1 in
    let order = and_parts (ascending c.names) (node_fits level c v.levels) n in
    let limits = and_parts (nat_le (length c.names) 8) (nat_lt (count_of v.levels) 64) w in
    let h = o.position.1.1 in
    let number : level ≡ 0 + level = omega arith in
    in_vertex_goes functions f s v (with_node_at level c v) (line.InVertex (in_vertex.Node level c)) o
    (partial_node s.kind v h level c l.1 le (leb-true (length c.names) 8 limits.0) order.0 order.1 (ltb-true _ 64 limits.1))
    (node_line (length s.vertices) v level c stand.0 (lines_after 0 level level c v.levels number l.1.single h.levels le))
node_step level c functions position.Ended o l m n w = absurd (cc)

pub edges_step : (out : List (ℕ × ℕ)) (functions : List Function) (p : Position) → Steps (line.InVertex (in_vertex.Edges out)) functions p
edges_step out functions position.Between o l m n w = absurd (cc)
edges_step out functions (position.Function f) o l m n w = absurd (cc)
edges_step out functions (position.Site f s) o l m n w = absurd (cc)
edges_step out functions (position.Vertex f s v) o l m n w =
    let stand = and_parts (has_edges s.kind) (before_edges v) m in
    in_vertex_goes functions f s v (with_edges out v) (line.InVertex (in_vertex.Edges out)) o (partial_edges s.kind v o.position.1.1 out l.0 stand.0 (leb-true (length out) 1024 w))
    (edges_line (length s.vertices) v out stand.1 l.1)
edges_step out functions position.Ended o l m n w = absurd (cc)
