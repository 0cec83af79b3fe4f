-- A part more at a site or at a vertex: its line can stand after those before it.
use Rattle.std.proofs.Common.{◌≡◌, ℕ, ◌<◌, true, ◌&&◌, Option, None, Some, List, [], ◌∷◌, ◌++◌, length, map, sym, ap, ◌∙◌, arith, append-nil, eqb-true}
use Rattle.std.specs.Prelude.{is_none}
use Rattle.std.proofs.lemmas.Bool.{and_parts}
use Rattle.std.proofs.lemmas.List.{map-append}
use Rattle.sym_terms.specs.Plain.{PlainSum}
use Rattle.mem_forest.specs.Plain.{PlainNode}
use Rattle.memory_regions.specs.declared.region.Region.{Region}
use Rattle.predicates.specs.declared.bound.FlagFact.{FlagFact}
use Rattle.predicates.specs.declared.bound.Bound.{Bound}
use Rattle.predicates.specs.declared.site.Kind.{Kind}
use Rattle.graph_data.specs.declared.graph.Vertex.{Vertex}
use Rattle.graph_data.specs.declared.graph.Site.{Site}
use Rattle.graph_data.specs.Parts.{Each}
use Rattle.graph_lines.specs.declared.line.Line.{Line}
use Rattle.graph_lines.specs.declared.line.Line.TheVariants as line
use Rattle.graph_lines.specs.declared.line.SiteLine.TheVariants as in_site
use Rattle.graph_lines.specs.declared.line.VertexLine.TheVariants as in_vertex
use Rattle.graph_lines.specs.Line.{IsGiven, pair_line, keep_line, bound_line}
use Rattle.graph_builder.specs.declared.builder.PartialVertex.{PartialVertex}
use Rattle.graph_builder.specs.Lines.{given_of, registers_lines, flags_lines, fork_lines, node_lines, vertex_lines, site_lines}
use Rattle.graph_builder.specs.Partial.{filled, registers_of, forest_of_levels, closed_vertex}
use Rattle.graph_builder.specs.Follow.{is_empty, before_nodes, before_bounds, before_flags}
use Rattle.graph_builder.specs.Order.{registers_ascend}
use Rattle.graph_builder.specs.Levels.{with_node}
use Rattle.graph_builder.proofs.PartialRegisters.{given_filled}
use Rattle.graph_builder.proofs.PartialClosing.{after_four}

-- a list with an item isn't empty
unempty : {A : Type 0} (x : A) (xs : List A) → is_empty (x ∷ xs) ≡ true → ⊥
unempty x xs h = let e = eqb-true (length (x ∷ xs)) 0 h in omega (arith, e)

-- ---- sites

-- a site with a pair more
abbrev pub with_pair : Region × Region → Site → Site
with_pair pair s = record s { seps = s.seps ++ pair ∷ [] }

-- a site with its fork
abbrev pub with_fork : Region × Region → Site → Site
with_fork pair s = record s { fork = Some pair }

-- a site with a kept region more
abbrev pub with_keep : Region → Site → Site
with_keep r s = record s { keeps = s.keeps ++ r ∷ [] }

abbrev site : ℕ → Kind → List (Region × Region) → Option (Region × Region) → List Region → List Vertex → Site
site addr kind seps fork keeps vertices = record { addr = addr; kind = kind; seps = seps; fork = fork; keeps = keeps; vertices = vertices }

pair_by : (addr : ℕ) (kind : Kind) (seps : List (Region × Region)) (fork : Option (Region × Region)) (keeps : List Region) (vertices : List Vertex) (pair : Region × Region)
    → (is_none fork && is_empty keeps) ≡ true → is_empty vertices ≡ true
    → site_lines (site addr kind (seps ++ pair ∷ []) fork keeps vertices) ≡ site_lines (site addr kind seps fork keeps vertices) ++ pair_line pair ∷ []
pair_by addr kind seps None [] [] pair h k =
    let old = line.Site addr kind ∷ map pair_line seps in
    ap (λ x. (line.Site addr kind ∷ x) ++ []) (map-append pair_line seps (pair ∷ []))
    ∙ append-nil (old ++ pair_line pair ∷ [])
    ∙ ap (λ x. x ++ pair_line pair ∷ []) (sym (append-nil old))
pair_by addr kind seps None [] (v ∷ vs) pair h k = absurd (unempty v vs k)
pair_by addr kind seps None (r ∷ rs) vs pair h k = absurd (unempty r rs h)
pair_by addr kind seps (Some p) rs vs pair h k = absurd (cc)

fork_by : (addr : ℕ) (kind : Kind) (seps : List (Region × Region)) (fork : Option (Region × Region)) (keeps : List Region) (vertices : List Vertex) (pair : Region × Region)
    → (is_none fork && is_empty keeps) ≡ true → is_empty vertices ≡ true
    → site_lines (site addr kind seps (Some pair) keeps vertices) ≡ site_lines (site addr kind seps fork keeps vertices) ++ line.InSite (in_site.Fork pair.0 pair.1) ∷ []
fork_by addr kind seps None [] [] pair h k =
    ap (λ x. x ++ line.InSite (in_site.Fork pair.0 pair.1) ∷ []) (sym (append-nil (line.Site addr kind ∷ map pair_line seps)))
fork_by addr kind seps None [] (v ∷ vs) pair h k = absurd (unempty v vs k)
fork_by addr kind seps None (r ∷ rs) vs pair h k = absurd (unempty r rs h)
fork_by addr kind seps (Some p) rs vs pair h k = absurd (cc)

keep_by : (addr : ℕ) (kind : Kind) (seps : List (Region × Region)) (fork : Option (Region × Region)) (keeps : List Region) (vertices : List Vertex) (r : Region)
    → is_empty vertices ≡ true
    → site_lines (site addr kind seps fork (keeps ++ r ∷ []) vertices) ≡ site_lines (site addr kind seps fork keeps vertices) ++ line.InSite (in_site.Keep r) ∷ []
keep_by addr kind seps fork keeps [] r k =
    let old = line.Site addr kind ∷ map pair_line seps in
    ap (λ x. old ++ (fork_lines fork ++ x)) (append-nil (map keep_line (keeps ++ r ∷ [])) ∙ map-append keep_line keeps (r ∷ []))
    ∙ after_four old (fork_lines fork) (map keep_line keeps) [] (line.InSite (in_site.Keep r) ∷ [])
keep_by addr kind seps fork keeps (v ∷ vs) r k = absurd (unempty v vs k)

-- the lines of a site before its first vertex with a pair, a pair to tell apart, or a kept region more
pub pair_lines : (s : Site) (pair : Region × Region) → (is_none s.fork && is_empty s.keeps) ≡ true → s.vertices ≡ []
    → site_lines (with_pair pair s) ≡ site_lines s ++ line.InSite (in_site.Pair pair.0 pair.1) ∷ []
pair_lines s pair h e = pair_by s.addr s.kind s.seps s.fork s.keeps s.vertices pair h (ap is_empty e)

pub forked_lines : (s : Site) (pair : Region × Region) → (is_none s.fork && is_empty s.keeps) ≡ true → s.vertices ≡ []
    → site_lines (with_fork pair s) ≡ site_lines s ++ line.InSite (in_site.Fork pair.0 pair.1) ∷ []
forked_lines s pair h e = fork_by s.addr s.kind s.seps s.fork s.keeps s.vertices pair h (ap is_empty e)

pub keep_lines : (s : Site) (r : Region) → s.vertices ≡ [] → site_lines (with_keep r s) ≡ site_lines s ++ line.InSite (in_site.Keep r) ∷ []
keep_lines s r e = keep_by s.addr s.kind s.seps s.fork s.keeps s.vertices r (ap is_empty e)

-- ---- vertices

abbrev vertex : Option (List (Option PlainSum)) → Option FlagFact → List Bound → List (List PlainNode) → List (ℕ × ℕ) → PartialVertex
vertex regs flags bounds levels out = record { regs = regs; flags = flags; bounds = bounds; levels = levels; out = out }

-- the lines of a vertex as far as it goes
abbrev pub partial_lines : ℕ → PartialVertex → List Line
partial_lines n v = vertex_lines (n, closed_vertex v)

-- what is empty before a line of a vertex
no_levels : (v : PartialVertex) → before_nodes v ≡ true → (is_empty v.out ≡ true) × (is_empty v.levels ≡ true)
no_levels v h = and_parts (is_empty v.out) (is_empty v.levels) h

no_bounds : (v : PartialVertex) → before_flags v ≡ true → (before_nodes v ≡ true) × ((is_empty v.bounds ≡ true) × (is_none v.flags ≡ true))
no_bounds v h =
    let first = and_parts (before_bounds v) (is_none v.flags) h in
    let second = and_parts (before_nodes v) (is_empty v.bounds) first.0 in
    (second.0, (second.1, first.1))

-- before the line of registers nothing of the vertex was read
fresh : (regs : Option (List (Option PlainSum))) (flags : Option FlagFact) (bounds : List Bound) (levels : List (List PlainNode)) (out : List (ℕ × ℕ))
    → (before_flags (vertex regs flags bounds levels out) && is_none regs) ≡ true → before_flags (vertex regs flags bounds levels out) ≡ true
fresh regs flags bounds levels out h = (and_parts (before_flags (vertex regs flags bounds levels out)) (is_none regs) h).0

registers_by : (n : ℕ) (regs : Option (List (Option PlainSum))) (flags : Option FlagFact) (bounds : List Bound) (levels : List (List PlainNode)) (out : List (ℕ × ℕ)) (given : List (ℕ × Option PlainSum))
    → (before_flags (vertex regs flags bounds levels out) && is_none regs) ≡ true → Each IsGiven given → 0 < length given → registers_ascend given ≡ true
    → partial_lines n (vertex (Some (filled given)) flags bounds levels out) ≡ partial_lines n (vertex regs flags bounds levels out) ++ line.InVertex (in_vertex.Registers given) ∷ []
registers_by n None None [] [] [] [] h g some a = absurd (omega (arith, some))
registers_by n None None [] [] [] (d ∷ ds) h g some a =
    ap (λ x. line.Vertex n ∷ ((registers_lines x ++ []) ++ [])) (given_filled (d ∷ ds) g a)
registers_by n (Some regs) None [] [] [] given h g some a = absurd (cc)
registers_by n regs (Some f) [] [] [] given h g some a = absurd (cc)
registers_by n regs flags (b ∷ bs) [] [] given h g some a = absurd (unempty b bs ((no_bounds (vertex regs flags (b ∷ bs) [] []) (fresh regs flags (b ∷ bs) [] [] h)).1.0))
registers_by n regs flags bounds (l ∷ ls) [] given h g some a =
    absurd (unempty l ls ((no_levels (vertex regs flags bounds (l ∷ ls) []) (no_bounds (vertex regs flags bounds (l ∷ ls) []) (fresh regs flags bounds (l ∷ ls) [] h)).0).1))
registers_by n regs flags bounds levels (e ∷ es) given h g some a =
    absurd (unempty e es ((no_levels (vertex regs flags bounds levels (e ∷ es)) (no_bounds (vertex regs flags bounds levels (e ∷ es)) (fresh regs flags bounds levels (e ∷ es) h)).0).0))

flags_by : (n : ℕ) (regs : Option (List (Option PlainSum))) (flags : Option FlagFact) (bounds : List Bound) (levels : List (List PlainNode)) (out : List (ℕ × ℕ)) (fact : FlagFact)
    → before_flags (vertex regs flags bounds levels out) ≡ true
    → partial_lines n (vertex regs (Some fact) bounds levels out) ≡ partial_lines n (vertex regs flags bounds levels out) ++ line.InVertex (in_vertex.Flags fact) ∷ []
flags_by n regs None [] [] [] fact h =
    let old = line.Vertex n ∷ registers_lines (given_of (registers_of regs)) in
    append-nil (old ++ line.InVertex (in_vertex.Flags fact) ∷ []) ∙ ap (λ x. x ++ line.InVertex (in_vertex.Flags fact) ∷ []) (sym (append-nil (old ++ []) ∙ append-nil old))
flags_by n regs (Some f) [] [] [] fact h = absurd (cc)
flags_by n regs flags (b ∷ bs) [] [] fact h = absurd (unempty b bs ((no_bounds (vertex regs flags (b ∷ bs) [] []) h).1.0))
flags_by n regs flags bounds (l ∷ ls) [] fact h =
    absurd (unempty l ls ((no_levels (vertex regs flags bounds (l ∷ ls) []) (no_bounds (vertex regs flags bounds (l ∷ ls) []) h).0).1))
flags_by n regs flags bounds levels (e ∷ es) fact h =
    absurd (unempty e es ((no_levels (vertex regs flags bounds levels (e ∷ es)) (no_bounds (vertex regs flags bounds levels (e ∷ es)) h).0).0))

-- the last of four parts is followed, before nothing
after_last : {A : Type 0} (a b c d e : List A) → (a ++ (b ++ (c ++ (d ++ e)))) ++ [] ≡ ((a ++ (b ++ (c ++ d))) ++ []) ++ e
after_last a b c d e = append-nil (a ++ (b ++ (c ++ (d ++ e)))) ∙ after_four a b c d e ∙ ap (λ x. x ++ e) (sym (append-nil (a ++ (b ++ (c ++ d)))))

bound_by : (n : ℕ) (regs : Option (List (Option PlainSum))) (flags : Option FlagFact) (bounds : List Bound) (levels : List (List PlainNode)) (out : List (ℕ × ℕ)) (b : Bound)
    → before_nodes (vertex regs flags bounds levels out) ≡ true
    → partial_lines n (vertex regs flags (bounds ++ b ∷ []) levels out) ≡ partial_lines n (vertex regs flags bounds levels out) ++ line.InVertex (in_vertex.Bound b) ∷ []
bound_by n regs flags bounds [] [] b h =
    let old = line.Vertex n ∷ registers_lines (given_of (registers_of regs)) in
    ap (λ x. (old ++ (flags_lines flags ++ x)) ++ []) (append-nil (map bound_line (bounds ++ b ∷ [])) ∙ map-append bound_line bounds (b ∷ []))
    ∙ after_last old (flags_lines flags) (map bound_line bounds) [] (line.InVertex (in_vertex.Bound b) ∷ [])
bound_by n regs flags bounds (l ∷ ls) [] b h = absurd (unempty l ls ((no_levels (vertex regs flags bounds (l ∷ ls) []) h).1))
bound_by n regs flags bounds levels (e ∷ es) b h = absurd (unempty e es ((no_levels (vertex regs flags bounds levels (e ∷ es)) h).0))

node_by : (n : ℕ) (regs : Option (List (Option PlainSum))) (flags : Option FlagFact) (bounds : List Bound) (levels next : List (List PlainNode)) (out : List (ℕ × ℕ)) (level : ℕ) (c : PlainNode)
    → is_empty out ≡ true → node_lines 0 (forest_of_levels next) ≡ node_lines 0 (forest_of_levels levels) ++ line.InVertex (in_vertex.Node level c) ∷ []
    → partial_lines n (vertex regs flags bounds next out) ≡ partial_lines n (vertex regs flags bounds levels out) ++ line.InVertex (in_vertex.Node level c) ∷ []
node_by n regs flags bounds levels next [] level c h e =
    let old = line.Vertex n ∷ registers_lines (given_of (registers_of regs)) in
    ap (λ x. (old ++ (flags_lines flags ++ (map bound_line bounds ++ x))) ++ []) e
    ∙ after_last old (flags_lines flags) (map bound_line bounds) (node_lines 0 (forest_of_levels levels)) (line.InVertex (in_vertex.Node level c) ∷ [])
node_by n regs flags bounds levels next (d ∷ ds) level c h e = absurd (unempty d ds h)

edges_by : (n : ℕ) (regs : Option (List (Option PlainSum))) (flags : Option FlagFact) (bounds : List Bound) (levels : List (List PlainNode)) (old out : List (ℕ × ℕ))
    → is_empty old ≡ true → 0 < length out
    → partial_lines n (vertex regs flags bounds levels out) ≡ partial_lines n (vertex regs flags bounds levels old) ++ line.InVertex (in_vertex.Edges out) ∷ []
edges_by n regs flags bounds levels [] [] h some = absurd (omega (arith, some))
edges_by n regs flags bounds levels [] (d ∷ ds) h some =
    let prefix = line.Vertex n ∷ registers_lines (given_of (registers_of regs)) ++ (flags_lines flags ++ (map bound_line bounds ++ node_lines 0 (forest_of_levels levels))) in
    ap (λ x. x ++ line.InVertex (in_vertex.Edges (d ∷ ds)) ∷ []) (sym (append-nil prefix))
edges_by n regs flags bounds levels (e ∷ es) out h some = absurd (unempty e es h)

-- a vertex with its registers, its flag fact, a bound more, a node more, or its edges
abbrev pub with_registers : List (ℕ × Option PlainSum) → PartialVertex → PartialVertex
with_registers given v = vertex (Some (filled given)) v.flags v.bounds v.levels v.out

abbrev pub with_flags : FlagFact → PartialVertex → PartialVertex
with_flags fact v = vertex v.regs (Some fact) v.bounds v.levels v.out

abbrev pub with_bound : Bound → PartialVertex → PartialVertex
with_bound b v = vertex v.regs v.flags (v.bounds ++ b ∷ []) v.levels v.out

abbrev pub with_node_at : ℕ → PlainNode → PartialVertex → PartialVertex
with_node_at level c v = vertex v.regs v.flags v.bounds (with_node level c v.levels) v.out

abbrev pub with_edges : List (ℕ × ℕ) → PartialVertex → PartialVertex
with_edges out v = vertex v.regs v.flags v.bounds v.levels out

pub registers_line : (n : ℕ) (v : PartialVertex) (given : List (ℕ × Option PlainSum)) → (before_flags v && is_none v.regs) ≡ true → Each IsGiven given → 0 < length given
    → registers_ascend given ≡ true → partial_lines n (with_registers given v) ≡ partial_lines n v ++ line.InVertex (in_vertex.Registers given) ∷ []
registers_line n v given = registers_by n v.regs v.flags v.bounds v.levels v.out given

pub flags_line : (n : ℕ) (v : PartialVertex) (fact : FlagFact) → before_flags v ≡ true → partial_lines n (with_flags fact v) ≡ partial_lines n v ++ line.InVertex (in_vertex.Flags fact) ∷ []
flags_line n v fact = flags_by n v.regs v.flags v.bounds v.levels v.out fact

pub bound_lines : (n : ℕ) (v : PartialVertex) (b : Bound) → before_nodes v ≡ true → partial_lines n (with_bound b v) ≡ partial_lines n v ++ line.InVertex (in_vertex.Bound b) ∷ []
bound_lines n v b = bound_by n v.regs v.flags v.bounds v.levels v.out b

pub node_line : (n : ℕ) (v : PartialVertex) (level : ℕ) (c : PlainNode) → is_empty v.out ≡ true
    → node_lines 0 (forest_of_levels (with_node level c v.levels)) ≡ node_lines 0 (forest_of_levels v.levels) ++ line.InVertex (in_vertex.Node level c) ∷ []
    → partial_lines n (with_node_at level c v) ≡ partial_lines n v ++ line.InVertex (in_vertex.Node level c) ∷ []
node_line n v level c = node_by n v.regs v.flags v.bounds v.levels (with_node level c v.levels) v.out level c

pub edges_line : (n : ℕ) (v : PartialVertex) (out : List (ℕ × ℕ)) → is_empty v.out ≡ true → 0 < length out → partial_lines n (with_edges out v) ≡ partial_lines n v ++ line.InVertex (in_vertex.Edges out) ∷ []
edges_line n v out = edges_by n v.regs v.flags v.bounds v.levels v.out out
