-- What is read of a line of each kind.
use Rattle.std.proofs.Common.{◌≡◌, ℕ, suc, ◌^◌, ◌<◌, Bool, true, false, if◌then◌else◌, IsTrue, List, [], ◌∷◌, ◌++◌, length, drop, replicate, codes, Option, Some, None, Result, Ok, Err, ◌⊎◌, inl, inr, refl, sym, ap, ap₂, subst, ◌∙◌, arith}
use Rattle.std.specs.Prelude.{⊤}
use Rattle.std.specs.List.{flat_map}
use Rattle.std.specs.Str.{bytes_eq}
use Rattle.bits_core.specs.declared.width.Width.{Width}
use Rattle.sym_terms.specs.Plain.{PlainSum}
use Rattle.sym_terms.specs.Normal.{IsTerm}
use Rattle.mem_forest.specs.Plain.{none, PlainNode}
use Rattle.mem_forest.specs.Shape.{is_size}
use Rattle.memory_regions.specs.declared.region.Region.{Region}
use Rattle.predicates.specs.declared.bound.Values.{Values}
use Rattle.term_text.specs.declared.cause.TextCause.{TextCause}
use Rattle.term_text.specs.declared.cause.TextCause.TheVariants.{BadLine}
use Rattle.term_text.specs.Reading.{term_at}
use Rattle.term_text.proofs.ReadingLemmas.{term_at_law}
use Rattle.graph_data.specs.Parts.{Each}
use Rattle.graph_data.specs.WellFormed.{IsKnown, IsRegion, AreNumbers}
use Rattle.graph_lines.specs.declared.line.Line.{Line}
use Rattle.graph_lines.specs.declared.line.Line.TheVariants as line
use Rattle.graph_lines.specs.declared.line.SiteLine.TheVariants as in_site
use Rattle.graph_lines.specs.declared.line.VertexLine.TheVariants as in_vertex
use Rattle.graph_lines.specs.declared.line_kind.LineKind.{LineKind}
use Rattle.graph_lines.specs.declared.line_kind.LineKind.TheVariants as line_kind
use Rattle.graph_lines.specs.declared.line_kind.SiteLineKind.{SiteLineKind}
use Rattle.graph_lines.specs.declared.line_kind.SiteLineKind.TheVariants as site_kind
use Rattle.graph_lines.specs.declared.line_kind.VertexLineKind.TheVariants as vertex_kind
use Rattle.graph_lines.specs.Line.{HasNumber, IsEntry, IsNode, IsLine}
use Rattle.graph_lines.specs.LineKind.{dots}
use Rattle.graph_lines.specs.Syntax.{function_line, refused_line, site_line, vertex_line, edges_line, region_at, regions_at, givens_at, fact_at, bound_at, node_at}
use Rattle.graph_lines.specs.Form.{just, ◌before◌, region, node}
use Rattle.graph_lines.specs.LineForm.{site_line_form, vertex_line_form, line_form, begin_of}
use Rattle.graph_lines.specs.Then.{and_then, or_bad_line}
use Rattle.graph_lines.specs.Steps.{each_read, region_of, pair_of, given_of, fact_of, bound_of, value_of, node_of, loose_site_line, loose_vertex_line, loose_line, restates_entry_value}
use Rattle.graph_lines.proofs.ReadLemmas.{givens_are}
use Rattle.graph_lines.proofs.FormLemmas.{nowhere}
use Rattle.graph_lines.proofs.PartForms.{region_place, region_reader, entry_place}
use Rattle.graph_lines.proofs.SetForms.{node_places, node_reader}
use Rattle.graph_lines.proofs.LineForms.{function_reader, refused_reader, site_reader, vertex_reader, edges_reader, region_places, regions_reader, givens_reader, fact_places, fact_reader, bound_place, bound_reader}
use Rattle.graph_lines.proofs.TellLemmas.{Tells, kept_tells, each_tells, region_tells, pair_tells, given_tells, fact_tells, bound_tells, node_tells}
use Rattle.graph_lines.proofs.JudgeLemmas.{Begins, front_dots, dots_le, Judged, judge}

-- ---- what is read is in form

-- what was read first
and_ok : {A B : Type 0} (r : Result A TextCause) (f : A → Result B TextCause) (y : B) → and_then r f ≡ Ok y → (x : A) × (r ≡ Ok x) × (f x ≡ Ok y)
and_ok (Ok x) f y e = (x, refl, e)
and_ok (Err c) f y e = absurd (cc)

-- a term
is_term : (w : List ℕ) (t : PlainSum) → term_at w ≡ Ok t → IsTerm t
is_term w t e = ((term_at_law w (Ok t)).0 e).0

-- a region
region_is : (r : List ℕ × ℕ) (x : Region) → IsTrue (is_size r.1) → region_of r ≡ Ok x → IsRegion x
region_is r x size e =
    let t = and_ok (term_at r.0) (λ t. Ok (record { at = t; bytes = r.1 })) x e in
    let same : record { at = t.0; bytes = r.1 } ≡ x = let f = t.2 in cc in
    subst IsRegion same (record { at = is_term r.0 t.0 t.1; size = size })

-- two regions
pair_is : (p : (List ℕ × ℕ) × (List ℕ × ℕ)) (x : Region × Region) → IsTrue (is_size p.0.1) × IsTrue (is_size p.1.1) → pair_of p ≡ Ok x
    → IsRegion x.0 × IsRegion x.1
pair_is p x sizes e =
    let a = and_ok (region_of p.0) (λ a. and_then (region_of p.1) (λ b. Ok (a, b))) x e in
    let b = and_ok (region_of p.1) (λ b. Ok (a.0, b)) x a.2 in
    let same : (a.0, b.0) ≡ x = let f = b.2 in cc in
    subst (λ (x : Region × Region). IsRegion x.0 × IsRegion x.1) same (region_is p.0 a.0 sizes.0 a.1, region_is p.1 b.0 sizes.1 b.1)

-- an entry
entry_is : (g : ℕ × List ℕ) (x : ℕ × Option PlainSum) → g.0 < 16 → given_of g ≡ Ok x → IsEntry x
entry_is g x small e = by_same (bytes_eq g.1 (codes "?")) e
  where
    by_same : (b : Bool) → (if b then Ok (g.0, None) else and_then (term_at g.1) (λ t. Ok (g.0, Some t))) ≡ Ok x → IsEntry x
    by_same true e = let same : (g.0, None) ≡ x = cc in subst IsEntry same (small, tt)
    by_same false e =
        let t = and_ok (term_at g.1) (λ t. Ok (g.0, Some t)) x e in
        let same : (g.0, Some (t.0)) ≡ x = let f = t.2 in cc in
        subst IsEntry same (small, is_term g.1 t.0 t.1)

-- each of a list
each_is : {A B : Type 0} (P : A → Type 0) (Q : B → Type 0) (read : A → Result B TextCause) → ((x : A) (y : B) → P x → read x ≡ Ok y → Q y)
    → (xs : List A) (ys : List B) → Each P xs → each_read read xs ≡ Ok ys → Each Q ys × (length ys ≡ length xs)
each_is P Q read reads [] ys all e = let same : [] ≡ ys = cc in subst (λ zs. Each Q zs × (length zs ≡ 0)) same (tt, refl)
each_is P Q read reads (x ∷ xs) ys all e =
    let y = and_ok (read x) (λ y. and_then (each_read read xs) (λ ys. Ok (y ∷ ys))) ys e in
    let more = and_ok (each_read read xs) (λ ys. Ok (y.0 ∷ ys)) ys y.2 in
    let rest = each_is P Q read reads xs more.0 all.1 more.1 in
    let same : y.0 ∷ more.0 ≡ ys = let f = more.2 in cc in
    subst (λ zs. Each Q zs × (length zs ≡ length (x ∷ xs))) same ((reads x y.0 all.0 y.1, rest.0), ap suc rest.1)

-- words of terms
any_words : (ws : List (List ℕ)) → Each (λ w. ⊤) ws
any_words [] = tt
any_words (w ∷ ws) = (tt, any_words ws)

-- the value of a node
value_is : (v : Option (List ℕ)) (x : Option PlainSum) → value_of v ≡ Ok x → IsKnown x
value_is None x e = let same : None ≡ x = cc in subst IsKnown same tt
value_is (Some w) x e =
    let t = and_ok (term_at w) (λ t. Ok (Some t)) x e in
    let same : Some (t.0) ≡ x = let f = t.2 in cc in
    subst IsKnown same (is_term w t.0 t.1)

-- a node
node_is : (n : List (List ℕ) × (ℕ × Option (List ℕ))) (x : PlainNode) → (0 < length n.0) × IsTrue (is_size n.1.0) → node_of n ≡ Ok x → IsNode x
node_is n x fits e =
    let names = and_ok (each_read term_at n.0) (λ names. and_then (value_of n.1.1) (λ value. Ok (record { names = names; bytes = n.1.0; value = value; under = none }))) x e in
    let value = and_ok (value_of n.1.1) (λ value. Ok (record { names = names.0; bytes = n.1.0; value = value; under = none })) x names.2 in
    let same : record { names = names.0; bytes = n.1.0; value = value.0; under = none } ≡ x = let f = value.2 in cc in
    let each = each_is (λ w. ⊤) IsTerm term_at (λ w t any i. is_term w t i) n.0 names.0 (any_words n.0) names.1 in
    subst IsNode same (record { names = each.0; named = omega (arith, each.1, fits.0); size = fits.1; value = value_is n.1.1 value.0 value.1; single = refl })

-- ---- lines

-- a line without terms
plain_made : (x l : Line) → IsLine x → ◌≡◌ {A = Result Line TextCause} (Ok x) (Ok l) → restates_entry_value l ≡ false → IsLine l
plain_made x l is e other = let same : x ≡ l = cc in subst IsLine same is

-- the lines of a site
site_line_judged : (k : SiteLineKind) (begin bytes : List ℕ) → bytes ≡ begin ++ drop 2 bytes → Judged begin (site_line_form k) (loose_site_line k (drop 2 bytes)) bytes
unfolding loose_site_line
site_line_judged site_kind.Pair begin bytes whole =
    judge begin (drop 2 bytes) bytes (site_line_form site_kind.Pair) regions_at region_places (λ p. IsTrue (is_size p.0.1) × IsTrue (is_size p.1.1))
    (λ loose. and_then (pair_of loose) (λ p. Ok (line.InSite (in_site.Pair p.0 p.1)))) _ whole refl regions_reader
    (λ p. kept_tells (region_places p) (pair_of p) _ (pair_tells p)) (λ p l sizes e other. made p l sizes e)
  where
    made : (p : (List ℕ × ℕ) × (List ℕ × ℕ)) (l : Line) → IsTrue (is_size p.0.1) × IsTrue (is_size p.1.1)
        → and_then (pair_of p) (λ p. Ok (line.InSite (in_site.Pair p.0 p.1))) ≡ Ok l → IsLine l
    made p l sizes e =
        let x = and_ok (pair_of p) (λ p. Ok (line.InSite (in_site.Pair p.0 p.1))) l e in
        let same : line.InSite (in_site.Pair x.0.0 x.0.1) ≡ l = let f = x.2 in cc in
        subst IsLine same (pair_is p x.0 sizes x.1)
site_line_judged site_kind.Fork begin bytes whole =
    judge begin (drop 2 bytes) bytes (site_line_form site_kind.Fork) regions_at region_places (λ p. IsTrue (is_size p.0.1) × IsTrue (is_size p.1.1))
    (λ loose. and_then (pair_of loose) (λ p. Ok (line.InSite (in_site.Fork p.0 p.1)))) _ whole refl regions_reader
    (λ p. kept_tells (region_places p) (pair_of p) _ (pair_tells p)) (λ p l sizes e other. made p l sizes e)
  where
    made : (p : (List ℕ × ℕ) × (List ℕ × ℕ)) (l : Line) → IsTrue (is_size p.0.1) × IsTrue (is_size p.1.1)
        → and_then (pair_of p) (λ p. Ok (line.InSite (in_site.Fork p.0 p.1))) ≡ Ok l → IsLine l
    made p l sizes e =
        let x = and_ok (pair_of p) (λ p. Ok (line.InSite (in_site.Fork p.0 p.1))) l e in
        let same : line.InSite (in_site.Fork x.0.0 x.0.1) ≡ l = let f = x.2 in cc in
        subst IsLine same (pair_is p x.0 sizes x.1)
site_line_judged site_kind.Keep begin bytes whole =
    judge begin (drop 2 bytes) bytes region region_at region_place (λ r. IsTrue (is_size r.1))
    (λ loose. and_then (region_of loose) (λ r. Ok (line.InSite (in_site.Keep r)))) _ whole refl region_reader
    (λ r. kept_tells (region_place r) (region_of r) _ (region_tells r)) (λ r l size e other. made r l size e)
  where
    made : (r : List ℕ × ℕ) (l : Line) → IsTrue (is_size r.1) → and_then (region_of r) (λ r. Ok (line.InSite (in_site.Keep r))) ≡ Ok l → IsLine l
    made r l size e =
        let x = and_ok (region_of r) (λ r. Ok (line.InSite (in_site.Keep r))) l e in
        let same : line.InSite (in_site.Keep x.0) ≡ l = let f = x.2 in cc in
        subst IsLine same (region_is r x.0 size x.1)

-- registers
registers_made : (gs : List (ℕ × List ℕ)) (l : Line) → Each (λ g. g.0 < 16) gs × (0 < length gs)
    → and_then (each_read given_of gs) (λ given. Ok (line.InVertex (in_vertex.Registers given))) ≡ Ok l → restates_entry_value l ≡ false → IsLine l
registers_made gs l fits e other =
    let given = and_ok (each_read given_of gs) (λ given. Ok (line.InVertex (in_vertex.Registers given))) l e in
    let same : line.InVertex (in_vertex.Registers given.0) ≡ l = let f = given.2 in cc in
    let each = each_is (λ g. g.0 < 16) IsEntry given_of entry_is gs given.0 fits.0 given.1 in
    let others : restates_entry_value (line.InVertex (in_vertex.Registers given.0)) ≡ false = ap restates_entry_value same ∙ other in
    subst IsLine same (givens_are given.0 each.0 others, omega (arith, each.1, fits.1))

-- flag facts
fact_made : (f : Width × (List ℕ × List ℕ)) (l : Line) → fact_of f ≡ Ok l → IsLine l
fact_made f l e =
    let left = and_ok (term_at f.1.0) (λ a. and_then (term_at f.1.1) (λ b. Ok (line.InVertex (in_vertex.Flags (record { width = f.0; left = a; right = b }))))) l e in
    let right = and_ok (term_at f.1.1) (λ b. Ok (line.InVertex (in_vertex.Flags (record { width = f.0; left = left.0; right = b })))) l left.2 in
    let same : line.InVertex (in_vertex.Flags (record { width = f.0; left = left.0; right = right.0 })) ≡ l = let g = right.2 in cc in
    subst IsLine same (is_term f.1.0 left.0 left.1, is_term f.1.1 right.0 right.1)

-- bounds
bound_made : (b : List ℕ × Values) (l : Line) → AreNumbers b.1 × HasNumber b.1 → bound_of b ≡ Ok l → IsLine l
bound_made b l fits e =
    let t = and_ok (term_at b.0) (λ t. Ok (line.InVertex (in_vertex.Bound (record { key = t; set = b.1 })))) l e in
    let same : line.InVertex (in_vertex.Bound (record { key = t.0; set = b.1 })) ≡ l = let g = t.2 in cc in
    subst IsLine same ((is_term b.0 t.0 t.1, fits.0), fits.1)

-- a node at a level
node_made : (level : ℕ) (n : List (List ℕ) × (ℕ × Option (List ℕ))) (l : Line) → level < 2 ^ 64 → (0 < length n.0) × IsTrue (is_size n.1.0)
    → and_then (node_of n) (λ node. Ok (line.InVertex (in_vertex.Node level node))) ≡ Ok l → IsLine l
node_made level n l small fits e =
    let x = and_ok (node_of n) (λ node. Ok (line.InVertex (in_vertex.Node level node))) l e in
    let same : line.InVertex (in_vertex.Node level x.0) ≡ l = let g = x.2 in cc in
    subst IsLine same (small, node_is n x.0 fits x.1)

-- nodes
node_judged : (level : ℕ) (bytes : List ℕ) → bytes ≡ codes "c " ++ drop 2 bytes → dots (drop 2 bytes) ≡ level → length bytes < 2 ^ 64
    → Judged (codes "c ") (vertex_line_form (vertex_kind.Node level)) (loose_vertex_line (vertex_kind.Node level) (drop 2 bytes)) bytes
unfolding loose_vertex_line
node_judged level bytes whole is small = record {
  tells = λ words h.
      let t = h.7 in
      let text : bytes ≡ (codes "c " ++ replicate level 46) ++ t.3 = h.5 ∙ ap₂ (λ (x y : List ℕ). x ++ y) h.6.1 (t.5 ∙ ap (λ (l : List ℕ). l ++ t.3) t.6.1) in
      let words_are : words ≡ t.1 = h.4 ∙ ap₂ (λ (v w : List (List ℕ)). v ++ w) h.6.0 (t.4 ∙ ap (λ (v : List (List ℕ)). v ++ t.1) t.6.0) in
      inner.tells words ([], t.1, codes "c " ++ replicate level 46, t.3, words_are, text, (refl, refl), t.7);
  formed = by_form inner.formed;
  lines = inner.lines;
}
  where
    rest : List ℕ
    rest = drop level (drop 2 bytes)

    apart : drop 2 bytes ≡ replicate level 46 ++ rest
    apart = subst (λ (n : ℕ). drop 2 bytes ≡ replicate n 46 ++ drop n (drop 2 bytes)) is (front_dots (drop 2 bytes))

    level_small : level < 2 ^ 64
    level_small = omega (arith, is, dots_le (drop 2 bytes), ap length whole, small)

    inner : Judged (codes "c " ++ replicate level 46) node (or_bad_line (node_at rest) (λ loose. and_then (node_of loose) (λ node. Ok (line.InVertex (in_vertex.Node level node))))) bytes
    inner =
        judge (codes "c " ++ replicate level 46) rest bytes node node_at node_places (λ n. (0 < length n.0) × IsTrue (is_size n.1.0))
        (λ loose. and_then (node_of loose) (λ node. Ok (line.InVertex (in_vertex.Node level node)))) _ (whole ∙ ap (λ (l : List ℕ). codes "c " ++ l) apart) refl node_reader
        (λ n. kept_tells (node_places n) (node_of n) _ (node_tells n)) (λ n l fits e other. node_made level n l level_small fits e)

    by_form : {r : Result Line TextCause} → (r ≡ Err BadLine) ⊎ ((words : List (List ℕ)) × (just (codes "c " ++ replicate level 46) before node) words bytes)
        → (r ≡ Err BadLine) ⊎ ((words : List (List ℕ)) × (just (codes "c ") before just (replicate level 46) before node) words bytes)
    by_form (inl e) = inl e
    by_form (inr w) =
        let h = w.1 in
        let text : bytes ≡ codes "c " ++ (replicate level 46 ++ h.3) = h.5 ∙ ap (λ (l : List ℕ). l ++ h.3) h.6.1 in
        inr (
          w.0,
          (
            [],
            w.0,
            codes "c ",
            replicate level 46 ++ h.3,
            refl,
            text,
            (refl, refl),
            (
              [],
              w.0,
              replicate level 46,
              h.3,
              refl,
              refl,
              (refl, refl),
              subst (λ vs. node vs h.3) (sym (h.4 ∙ ap (λ (v : List (List ℕ)). v ++ h.1) h.6.0)) h.7,
            ),
          ),
        )

-- lines of each kind
pub line_judged : (k : LineKind) (bytes : List ℕ) → Begins k bytes → length bytes < 2 ^ 64
    → Judged (begin_of k) (line_form k) (loose_line k (drop 2 bytes)) bytes
unfolding loose_line loose_vertex_line
line_judged line_kind.Function bytes begins small =
    judge (codes "f ") (drop 2 bytes) bytes (line_form line_kind.Function) function_line nowhere IsLine Ok _ begins refl function_reader (λ l. tt) plain_made
line_judged line_kind.Refused bytes begins small =
    judge (codes "x ") (drop 2 bytes) bytes (line_form line_kind.Refused) refused_line nowhere IsLine Ok _ begins refl refused_reader (λ l. tt) plain_made
line_judged line_kind.Site bytes begins small =
    judge (codes "s ") (drop 2 bytes) bytes (line_form line_kind.Site) site_line nowhere IsLine Ok _ begins refl site_reader (λ l. tt) plain_made
line_judged line_kind.Vertex bytes begins small =
    judge (codes "v ") (drop 2 bytes) bytes (line_form line_kind.Vertex) vertex_line nowhere IsLine Ok _ begins refl vertex_reader (λ l. tt) plain_made
line_judged (line_kind.InSite site_kind.Pair) bytes begins small = site_line_judged site_kind.Pair (codes "p ") bytes begins
line_judged (line_kind.InSite site_kind.Fork) bytes begins small = site_line_judged site_kind.Fork (codes "g ") bytes begins
line_judged (line_kind.InSite site_kind.Keep) bytes begins small = site_line_judged site_kind.Keep (codes "k ") bytes begins
line_judged (line_kind.InVertex vertex_kind.Registers) bytes begins small =
    judge (codes "r ") (drop 2 bytes) bytes (vertex_line_form vertex_kind.Registers) givens_at (flat_map entry_place) (λ gs. Each (λ g. g.0 < 16) gs × (0 < length gs))
    (λ loose. and_then (each_read given_of loose) (λ given. Ok (line.InVertex (in_vertex.Registers given)))) _ begins refl givens_reader
    (λ gs. kept_tells (flat_map entry_place gs) (each_read given_of gs) _ (each_tells entry_place given_of given_tells gs)) registers_made
line_judged (line_kind.InVertex vertex_kind.Flags) bytes begins small =
    judge (codes "z ") (drop 2 bytes) bytes (vertex_line_form vertex_kind.Flags) fact_at fact_places (λ f. ⊤) fact_of _ begins refl fact_reader fact_tells
    (λ f l any e other. fact_made f l e)
line_judged (line_kind.InVertex vertex_kind.Bound) bytes begins small =
    judge (codes "b ") (drop 2 bytes) bytes (vertex_line_form vertex_kind.Bound) bound_at bound_place (λ b. AreNumbers b.1 × HasNumber b.1) bound_of _ begins refl bound_reader bound_tells
    (λ b l fits e other. bound_made b l fits e)
line_judged (line_kind.InVertex (vertex_kind.Node level)) bytes begins small = node_judged level bytes begins.0 begins.1 small
line_judged (line_kind.InVertex vertex_kind.Edges) bytes begins small =
    judge (codes "> ") (drop 2 bytes) bytes (vertex_line_form vertex_kind.Edges) edges_line nowhere IsLine Ok _ begins refl edges_reader (λ l. tt) plain_made
line_judged line_kind.End bytes begins small = record {
  tells = λ words h. subst (λ ws. Tells {A = Line} ws (Ok line.End)) (sym (h.4 ∙ ap₂ (λ (v w : List (List ℕ)). v ++ w) h.6.0 h.7.0)) tt;
  formed = inr ([], ([], [], codes "end", [], refl, begins, (refl, refl), (refl, refl)));
  lines = λ l e other. plain_made line.End l tt e other;
}
