-- Lines of each kind: what stands after the letter and the space is read just where it has its form.
use Rattle.std.proofs.Common.{◌≡◌, ℕ, ◌^◌, ◌<◌, true, false, ◌&&◌, ltb, IsTrue, List, [], ◌∷◌, ◌++◌, length, codes, Some, inl, inr, refl, ap, ap₂, subst, ◌∙◌}
use Rattle.std.specs.Prelude.{⊤}
use Rattle.std.specs.List.{flat_map}
use Rattle.std.specs.Str.{bytes_eq}
use Rattle.std.proofs.lemmas.Bool.{and_parts}
use Rattle.std.proofs.lemmas.Slice.Eq.{bytes_eq-Decides}
use Rattle.bits_core.specs.declared.width.Width.{Width}
use Rattle.mem_forest.specs.Shape.{is_size}
use Rattle.predicates.specs.declared.bound.Values.{Values}
use Rattle.graph_data.specs.Parts.{Each}
use Rattle.graph_data.specs.WellFormed.{IsEdge, AreNumbers}
use Rattle.term_text.specs.Bind.{◌>>=◌}
use Rattle.term_text.specs.Numbers.{numeral_at}
use Rattle.graph_lines.specs.declared.line.Line.TheVariants as line
use Rattle.graph_lines.specs.declared.line.VertexLine.TheVariants as in_vertex
use Rattle.graph_lines.specs.declared.line_kind.LineKind.TheVariants as line_kind
use Rattle.graph_lines.specs.declared.line_kind.VertexLineKind.TheVariants as vertex_kind
use Rattle.graph_lines.specs.Words.{split_at, fields, is_term_word}
use Rattle.graph_lines.specs.Line.{HasNumber, IsLine}
use Rattle.graph_lines.specs.Syntax.{each_at, kind_at, function_line, refused_line, site_line, vertex_line, edge_at, edges_line, region_at, regions_at, given_at, givens_at, width_of, fact_at, values_at, bound_at}
use Rattle.graph_lines.specs.Form.{Form, just, ◌before◌, list_of, number_that, address, decimal_number, size, is_width, term, term_or_unknown, region, register, entry, site_claim, values, edge}
use Rattle.graph_lines.specs.LineForm.{vertex_line_form, line_form}
use Rattle.graph_lines.proofs.FormLemmas.{bind_some, guard_some, split_is, IsFree, free_just, free_both, free_numeral, free_term, parted, part, ReadsForm, nowhere, list_reads}
use Rattle.graph_lines.proofs.NumberForms.{numeral_small, in_form, width_complete, width_sound, kind_reader, edge_reader}
use Rattle.graph_lines.proofs.PartForms.{region_reader, free_register, entry_place, entry_reader}
use Rattle.graph_lines.proofs.SetForms.{no_words, values_reader}

-- words of two parts that have none
none_both : (words v w : List (List ℕ)) → words ≡ v ++ w → v ≡ [] → w ≡ [] → words ≡ []
none_both words v w e i j = e ∙ ap₂ (λ (x y : List (List ℕ)). x ++ y) i j

-- ---- lines without terms

-- a space, and a decimal number after it
abbrev SpaceDecimal : Form
SpaceDecimal = just (codes " ") before decimal_number

-- a function
pub function_reader : ReadsForm (line_form line_kind.Function) function_line nowhere IsLine
unfolding function_line
function_reader = record {
  complete = λ words w h.
      let p = parted 32 address (decimal_number before SpaceDecimal) (free_numeral 32 true (λ n. true) refl) words w h in
      let q = parted 32 decimal_number decimal_number (free_numeral 32 false (λ n. true) refl) p.late p.back p.second in (
        line.Function p.first.1.0 q.first.1.0 q.second.1.0,
        rw (p.split, q.split, p.first.1.1, q.first.1.1, q.second.1.1) refl,
        none_both words p.early p.late p.words_are p.first.0 (none_both p.late q.early q.late q.words_are q.first.0 q.second.0),
      );
  sound = λ w l e.
      let a = bind_some (split_at 32 w) _ l e in
      let b = bind_some (split_at 32 a.0.1) _ l a.2 in
      let n = bind_some (numeral_at true a.0.0) _ l b.2 in
      let m = bind_some (numeral_at false b.0.0) _ l n.2 in
      let k = bind_some (numeral_at false b.0.1) _ l m.2 in
      let same : line.Function n.0 m.0 k.0 ≡ l = let f = k.2 in cc in (
        part 32 address (decimal_number before SpaceDecimal) [] [] a.0.0 a.0.1 w (split_is 32 w a.0 a.1) (in_form (numeral_at true) a.0.0 n.0 n.1)
            (part 32 decimal_number decimal_number [] [] b.0.0 b.0.1 a.0.1 (split_is 32 a.0.1 b.0 b.1) (in_form (numeral_at false) b.0.0 m.0 m.1) (in_form (numeral_at false) b.0.1 k.0 k.1)),
        subst IsLine same (numeral_small true a.0.0 n.0 n.1, (numeral_small false b.0.0 m.0 m.1, numeral_small false b.0.1 k.0 k.1)),
      );
}

-- a refused function
pub refused_reader : ReadsForm (line_form line_kind.Refused) refused_line nowhere IsLine
unfolding refused_line
refused_reader = record {
  complete = λ words w h.
      let p = parted 32 address (just (codes "notcode")) (free_numeral 32 true (λ n. true) refl) words w h in
      let same : bytes_eq p.back (codes "notcode") ≡ true = (bytes_eq-Decides p.back (codes "notcode")).1 p.second.1 in
      (line.Refused p.first.1.0, rw (p.split, p.first.1.1, same) refl, none_both words p.early p.late p.words_are p.first.0 p.second.0);
  sound = λ w l e.
      let a = bind_some (split_at 32 w) _ l e in
      let n = bind_some (numeral_at true a.0.0) _ l a.2 in
      let g = guard_some (bytes_eq a.0.1 (codes "notcode")) (line.Refused n.0) l n.2 in (
        part 32 address (just (codes "notcode")) [] [] a.0.0 a.0.1 w (split_is 32 w a.0 a.1) (in_form (numeral_at true) a.0.0 n.0 n.1)
            (refl, (bytes_eq-Decides a.0.1 (codes "notcode")).0 g.0),
        subst IsLine g.1 (numeral_small true a.0.0 n.0 n.1),
      );
}

-- a site
pub site_reader : ReadsForm (line_form line_kind.Site) site_line nowhere IsLine
unfolding site_line
site_reader = record {
  complete = λ words w h.
      let p = parted 32 address site_claim (free_numeral 32 true (λ n. true) refl) words w h in
      let k = kind_reader.complete p.late p.back p.second in
      (line.Site p.first.1.0 k.0, rw (p.split, p.first.1.1, k.1) refl, none_both words p.early p.late p.words_are p.first.0 k.2);
  sound = λ w l e.
      let a = bind_some (split_at 32 w) _ l e in
      let n = bind_some (numeral_at true a.0.0) _ l a.2 in
      let k = bind_some (kind_at a.0.1) _ l n.2 in
      let is = kind_reader.sound a.0.1 k.0 k.1 in
      let same : line.Site n.0 k.0 ≡ l = let f = k.2 in cc in (
        part 32 address site_claim [] [] a.0.0 a.0.1 w (split_is 32 w a.0 a.1) (in_form (numeral_at true) a.0.0 n.0 n.1) is.0,
        subst IsLine same (numeral_small true a.0.0 n.0 n.1, is.1),
      );
}

-- a vertex
pub vertex_reader : ReadsForm (line_form line_kind.Vertex) vertex_line nowhere IsLine
unfolding vertex_line
vertex_reader = record {
  complete = λ words w h. (line.Vertex h.1.0, rw (h.1.1) refl, h.0);
  sound = λ w l e.
      let n = bind_some (numeral_at false w) _ l e in
      let same : line.Vertex n.0 ≡ l = let f = n.2 in cc in
      (in_form (numeral_at false) w n.0 n.1, subst IsLine same (numeral_small false w n.0 n.1));
}

-- an edge has no space
free_edge : IsFree 32 edge
free_edge =
    let Small = number_that (numeral_at false) (λ n. ltb n (2 ^ 32)) in
    free_both 32 address (just (codes ":") before Small) (free_numeral 32 true (λ n. true) refl)
    (free_both 32 (just (codes ":")) Small (free_just 32 (codes ":") refl) (free_numeral 32 false (λ n. ltb n (2 ^ 32)) refl))

-- edges
pub edges_reader : ReadsForm (vertex_line_form vertex_kind.Edges) edges_line nowhere IsLine
unfolding edges_line
edges_reader = record {
  complete = λ words w h.
      let out = each.complete words w h in
      (line.InVertex (in_vertex.Edges out.0), ap (λ o. o >>= λ out. Some (line.InVertex (in_vertex.Edges out))) out.1, out.2 ∙ no_words out.0);
  sound = λ w l e.
      let out = bind_some (each_at edge_at (fields 32 w)) (λ out. Some (line.InVertex (in_vertex.Edges out))) l e in
      let is = each.sound w out.0 out.1 in
      let same : line.InVertex (in_vertex.Edges out.0) ≡ l = let f = out.2 in cc in
      (subst (λ vs. list_of 32 edge vs w) (no_words out.0) is.0, subst IsLine same is.1);
}
  where
    each : ReadsForm (list_of 32 edge) (λ w. each_at edge_at (fields 32 w)) (flat_map nowhere) (λ out. Each IsEdge out × (0 < length out))
    each = list_reads 32 edge edge_at nowhere IsEdge free_edge edge_reader

-- ---- lines with terms

-- a region has no space
free_region : IsFree 32 region
free_region =
    let Close = just (codes "]") in
    let Size = size before Close in
    let Semicolon = just (codes ";") before Size in
    free_both 32 (just (codes "[")) (term before Semicolon) (free_just 32 (codes "[") refl)
    (free_both 32 term Semicolon (free_term 32 refl)
    (free_both 32 (just (codes ";")) Size (free_just 32 (codes ";") refl)
    (free_both 32 size Close (free_numeral 32 false is_size refl) (free_just 32 (codes "]") refl))))

-- the places of two regions' terms
abbrev pub region_places : (List ℕ × ℕ) × (List ℕ × ℕ) → List (List ℕ)
region_places p = p.0.0 ∷ p.1.0 ∷ []

-- two regions
pub regions_reader : ReadsForm (region before just (codes " ") before region) regions_at region_places (λ p. IsTrue (is_size p.0.1) × IsTrue (is_size p.1.1))
unfolding regions_at
regions_reader = record {
  complete = λ words w h.
      let p = parted 32 region region free_region words w h in
      let a = region_reader.complete p.early p.front p.first in
      let b = region_reader.complete p.late p.back p.second in
      ((a.0, b.0), rw (p.split, a.1, b.1) refl, p.words_are ∙ ap₂ (λ (x y : List (List ℕ)). x ++ y) a.2 b.2);
  sound = λ w r e.
      let s = bind_some (split_at 32 w) _ r e in
      let a = bind_some (region_at s.0.0) _ r s.2 in
      let b = bind_some (region_at s.0.1) _ r a.2 in
      let first = region_reader.sound s.0.0 a.0 a.1 in
      let second = region_reader.sound s.0.1 b.0 b.1 in
      let same : (a.0, b.0) ≡ r = let f = b.2 in cc in
      subst (λ r. (region before just (codes " ") before region) (region_places r) w × (IsTrue (is_size r.0.1) × IsTrue (is_size r.1.1))) same
      (part 32 region region (a.0.0 ∷ []) (b.0.0 ∷ []) s.0.0 s.0.1 w (split_is 32 w s.0 s.1) first.0 second.0, (first.1, second.1));
}

-- what stands after the `=` of an entry has no space
free_unknown : IsFree 32 term_or_unknown
free_unknown words w (inl h) = free_just 32 (codes "?") refl words w h
free_unknown words w (inr h) = free_term 32 refl words w h.1

-- nor has the entry
free_entry : IsFree 32 entry
free_entry =
    free_both 32 register (just (codes "=") before term_or_unknown) (free_register 32 refl)
    (free_both 32 (just (codes "=")) term_or_unknown (free_just 32 (codes "=") refl) free_unknown)

-- registers
pub givens_reader : ReadsForm (vertex_line_form vertex_kind.Registers) givens_at (flat_map entry_place) (λ gs. Each (λ g. g.0 < 16) gs × (0 < length gs))
unfolding givens_at
givens_reader = list_reads 32 entry given_at entry_place (λ g. g.0 < 16) free_entry entry_reader

-- the places of a flag fact's terms
abbrev pub fact_places : Width × (List ℕ × List ℕ) → List (List ℕ)
fact_places f = f.1.0 ∷ f.1.1 ∷ []

-- flag facts
pub fact_reader : ReadsForm (vertex_line_form vertex_kind.Flags) fact_at fact_places (λ f. ⊤)
unfolding fact_at
fact_reader = record {
  complete = λ words w h.
      let Bits = number_that (numeral_at false) is_width in
      let p = parted 32 Bits (term before just (codes " ") before term) (free_numeral 32 false is_width refl) words w h in
      let q = parted 32 term term (free_term 32 refl) p.late p.back p.second in
      let k = width_complete p.first.1.0 p.first.1.2 in (
        (k.0, (q.front, q.back)),
        rw (p.split, q.split, p.first.1.1, k.1, q.first.1, q.second.1) refl,
        p.words_are ∙ ap₂ (λ (x y : List (List ℕ)). x ++ y) p.first.0 (q.words_are ∙ ap₂ (λ (x y : List (List ℕ)). x ++ y) q.first.0 q.second.0),
      );
  sound = λ w f e.
      let Bits = number_that (numeral_at false) is_width in
      let a = bind_some (split_at 32 w) _ f e in
      let b = bind_some (split_at 32 a.0.1) _ f a.2 in
      let n = bind_some (numeral_at false a.0.0) _ f b.2 in
      let k = bind_some (width_of n.0) _ f n.2 in
      let g = guard_some (is_term_word b.0.0 && is_term_word b.0.1) (k.0, (b.0.0, b.0.1)) f k.2 in
      let tests = and_parts (is_term_word b.0.0) (is_term_word b.0.1) g.0 in
      subst (λ f. vertex_line_form vertex_kind.Flags (fact_places f) w × ⊤) g.1 (
        part 32 Bits (term before just (codes " ") before term) [] (b.0.0 ∷ b.0.1 ∷ []) a.0.0 a.0.1 w (split_is 32 w a.0 a.1) (refl, (n.0, n.1, width_sound n.0 k.0 k.1))
            (part 32 term term (b.0.0 ∷ []) (b.0.1 ∷ []) b.0.0 b.0.1 a.0.1 (split_is 32 a.0.1 b.0 b.1) (refl, tests.0) (refl, tests.1)),
        tt,
      );
}

-- the place of a bound's term
abbrev pub bound_place : List ℕ × Values → List (List ℕ)
bound_place b = b.0 ∷ []

-- bounds
pub bound_reader : ReadsForm (vertex_line_form vertex_kind.Bound) bound_at bound_place (λ b. AreNumbers b.1 × HasNumber b.1)
unfolding bound_at
bound_reader = record {
  complete = λ words w h.
      let p = parted 32 term values (free_term 32 refl) words w h in
      let v = values_reader.complete p.late p.back p.second in
      ((p.front, v.0), rw (p.split, v.1, p.first.1) refl, p.words_are ∙ ap₂ (λ (x y : List (List ℕ)). x ++ y) p.first.0 v.2);
  sound = λ w b e.
      let a = bind_some (split_at 32 w) _ b e in
      let v = bind_some (values_at a.0.1) _ b a.2 in
      let g = guard_some (is_term_word a.0.0) (a.0.0, v.0) b v.2 in
      let is = values_reader.sound a.0.1 v.0 v.1 in
      subst (λ b. vertex_line_form vertex_kind.Bound (bound_place b) w × (AreNumbers b.1 × HasNumber b.1)) g.1
      (part 32 term values (a.0.0 ∷ []) [] a.0.0 a.0.1 w (split_is 32 w a.0 a.1) (refl, g.0) is.0, is.1);
}
