-- Closing what is open: a vertex, its site and its function are well formed, with the lines that were read.
use Rattle.std.proofs.Common.{◌≡◌, ℕ, zero, suc, ◌+◌, ◌<◌, ◌≤◌, Bool, true, false, not, ◌&&◌, ◌||◌, None, List, [], ◌∷◌, ◌++◌, length, map, length-append, sym, ap, ◌∙◌, subst, arith, append_assoc}
use Rattle.std.specs.Prelude.{◌==◌, nat_le, if◌then◌else◌}
use Rattle.std.specs.List.{flat_map, enumerate_from}
use Rattle.std.proofs.lemmas.Bool.{and_from, le-leb}
use Rattle.std.proofs.lemmas.List.{flat_map_more}
use Rattle.predicates.specs.declared.site.Kind.{Kind}
use Rattle.graph_data.specs.declared.graph.Vertex.{Vertex}
use Rattle.graph_data.specs.declared.graph.Site.{Site}
use Rattle.graph_data.specs.declared.graph.Function.{Function}
use Rattle.graph_data.specs.Order.{has_edges}
use Rattle.graph_data.specs.WellFormed.{IsVertex, IsSite, IsFunction, HasBody, HasSites}
use Rattle.graph_data.proofs.PartLemmas.{each_push}
use Rattle.graph_lines.specs.declared.line.Line.TheVariants as line
use Rattle.graph_lines.specs.declared.line.SiteLine.TheVariants as in_site
use Rattle.graph_lines.specs.Line.{keep_line}
use Rattle.graph_builder.specs.declared.builder.PartialVertex.{PartialVertex}
use Rattle.graph_builder.specs.declared.builder.Position.TheVariants as position
use Rattle.graph_builder.specs.Lines.{fork_lines, vertex_lines, site_lines, body_lines, function_lines}
use Rattle.graph_builder.specs.Partial.{closed_vertex, with_vertex, with_site, closed_site, closed_function}
use Rattle.graph_builder.specs.Follow.{is_whole}
use Rattle.graph_builder.specs.Order.{address_extends}
use Rattle.graph_builder.specs.Building.{position_lines}
use Rattle.graph_builder.proofs.PartialInvariant.{IsPartialVertex, IsPartialSite, IsPartialFunction}
use Rattle.graph_builder.proofs.PartialOrder.{ascends_more, numbered_more}
use Rattle.graph_builder.proofs.PartialRegisters.{registers_closed}

-- ---- well formed

edges_by : (b : Bool) (n : ℕ) → not (b && (n == 0)) ≡ true → n ≤ 1024 → (b || (n == 0)) ≡ true → (if b then nat_le 1 n && nat_le n 1024 else (n == 0)) ≡ true
edges_by true zero w few k = absurd (cc)
edges_by true (suc n) w few k = and_from (nat_le 1 (suc n)) (nat_le (suc n) 1024) (le-leb 1 (suc n) (omega arith)) (le-leb (suc n) 1024 few)
edges_by false n w few k = k

pub vertex_closed : (kind : Kind) (v : PartialVertex) → IsPartialVertex kind v → is_whole kind v ≡ true → IsVertex kind (closed_vertex v)
vertex_closed kind v h w =
    let regs = registers_closed v.regs h.regs in
    record {
      pred = record {
        formed = record { sixteen = regs.0; bounded = h.formed };
        regs = regs.1;
        flags = h.flags;
        bounds = h.bounds;
        forest = h.forest;
        terms = h.terms;
      };
      edges = h.edges;
      fits = edges_by (has_edges kind) (length v.out) w h.few h.kinds;
    }

fit_vertices : (n : ℕ) → n < 8 → (nat_le 1 (n + 1) && nat_le (n + 1) 8) ≡ true
fit_vertices n lt = and_from (nat_le 1 (n + 1)) (nat_le (n + 1) 8) (le-leb 1 (n + 1) (omega arith)) (le-leb (n + 1) 8 (omega (arith, lt)))

pub site_closed : (sites : List Site) (s : Site) (v : PartialVertex) → IsPartialSite sites s → IsPartialVertex s.kind v → is_whole s.kind v ≡ true → IsSite (closed_site s v)
site_closed sites s v h k w =
    let long : length s.vertices + 1 ≡ length (s.vertices ++ closed_vertex v ∷ []) = sym (length-append s.vertices (closed_vertex v ∷ [])) in
    record {
      addr = h.addr;
      kind = h.kind;
      seps = h.seps;
      seps_fit = h.seps_fit;
      fork = h.fork;
      fork_fits = h.fork_fits;
      keeps = h.keeps;
      keeps_fit = h.keeps_fit;
      vertices = each_push (IsVertex s.kind) s.vertices (closed_vertex v) h.vertices (vertex_closed s.kind v k w);
      vertices_fit = subst (λ n. (nat_le 1 n && nat_le n 8) ≡ true) long (fit_vertices (length s.vertices) h.few);
    }

-- a function with a site more
pub function_more : (functions : List Function) (f : Function) (s : Site) → IsPartialFunction functions f → IsSite s → address_extends f.sites s.addr ≡ true → IsPartialFunction functions (with_site f s)
function_more functions f s h k o = record {
  above_those = h.above_those;
  entry = h.entry;
  below = h.below;
  above = h.above;
  unrefused = h.unrefused;
  sites = each_push IsSite f.sites s h.sites k;
  ascending = ascends_more (λ t. t.addr) f.sites s h.ascending o;
}

pub function_closed : (functions : List Function) (f : Function) → IsPartialFunction functions f → 0 < length f.sites → IsFunction f
function_closed functions f h some =
    let body : HasSites f = record { below = h.below; above = h.above; some = some; sites = h.sites; ascending = h.ascending } in
    record { entry = h.entry; body = subst (λ o. HasBody o f) (sym h.unrefused) body }

-- ---- the lines

-- the last of four parts is followed
pub after_four : {A : Type 0} (a b c d e : List A) → a ++ (b ++ (c ++ (d ++ e))) ≡ (a ++ (b ++ (c ++ d))) ++ e
after_four a b c d e =
    ap (λ x. a ++ (b ++ x)) (sym (append_assoc c d e)) ∙ ap (λ x. a ++ x) (sym (append_assoc b (c ++ d) e)) ∙ sym (append_assoc a (b ++ (c ++ d)) e)

-- what is made of a list with an item more
pub made_more : {A B : Type 0} (f : A → List B) (xs : List A) (x : A) → flat_map f (xs ++ x ∷ []) ≡ flat_map f xs ++ f x
made_more f xs x = sym (flat_map_more f [] xs x)

pub site_lines_more : (s : Site) (v : Vertex) → site_lines (with_vertex s v) ≡ site_lines s ++ vertex_lines (length s.vertices, v)
site_lines_more s v =
    let pairs = map (λ p. line.InSite (in_site.Pair p.0 p.1)) s.seps in
    let number : 0 + length s.vertices ≡ length s.vertices = omega arith in
    let vertices : flat_map vertex_lines (enumerate_from 0 (s.vertices ++ v ∷ [])) ≡ flat_map vertex_lines (enumerate_from 0 s.vertices) ++ vertex_lines (length s.vertices, v) =
    ap (flat_map vertex_lines) (numbered_more 0 s.vertices v)
    ∙ made_more vertex_lines (enumerate_from 0 s.vertices) (0 + length s.vertices, v)
    ∙ ap (λ n. flat_map vertex_lines (enumerate_from 0 s.vertices) ++ vertex_lines (n, v)) number in
    ap (λ x. line.Site s.addr s.kind ∷ pairs ++ (fork_lines s.fork ++ (map keep_line s.keeps ++ x))) vertices
    ∙ after_four (line.Site s.addr s.kind ∷ pairs) (fork_lines s.fork) (map keep_line s.keeps) (flat_map vertex_lines (enumerate_from 0 s.vertices)) (vertex_lines (length s.vertices, v))

pub function_lines_more : (f : Function) (s : Site) → f.refused ≡ None → function_lines (with_site f s) ≡ function_lines f ++ site_lines s
function_lines_more f s e =
    ap (λ o. body_lines o (with_site f s)) e
    ∙ ap (λ x. line.Function f.entry f.below f.above ∷ x) (made_more site_lines f.sites s)
    ∙ ap (λ o. body_lines o f ++ site_lines s) (sym e)

-- the lines of a function with its last site and vertex are those that were read
pub closed_lines : (f : Function) (s : Site) (v : PartialVertex) → f.refused ≡ None → function_lines (closed_function f s v) ≡ position_lines (position.Vertex f s v)
closed_lines f s v e = function_lines_more f (closed_site s v) e ∙ ap (λ x. function_lines f ++ x) (site_lines_more s (closed_vertex v))
