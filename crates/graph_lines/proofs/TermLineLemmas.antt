-- The lines with terms: what is written is read again, and may stand in a line.
use Rattle.std.proofs.Common.{◌≡◌, ℕ, zero, suc, ◌<◌, true, not, eqb, List, [], ◌∷◌, ◌++◌, length, map, replicate, Option, Some, None, Ok, refl, sym, ap, ◌∙◌, arith}
use Rattle.std.specs.Fmt.{decimal}
use Rattle.std.specs.List.{list_all}
use Rattle.std.proofs.lemmas.List.{length-map, length-replicate, drop_at}
use Rattle.bits_core.specs.Width.{bits_of}
use Rattle.sym_terms.specs.Plain.{PlainSum}
use Rattle.sym_terms.specs.Normal.{IsTerm}
use Rattle.mem_forest.specs.Plain.{PlainForest, PlainNode}
use Rattle.memory_regions.specs.declared.region.Region.{Region}
use Rattle.predicates.specs.declared.bound.FlagFact.{FlagFact}
use Rattle.predicates.specs.declared.bound.Values.{Values}
use Rattle.predicates.specs.declared.bound.Values.TheVariants.{Range, OneOf}
use Rattle.predicates.specs.declared.bound.Bound.{Bound}
use Rattle.graph_data.specs.Parts.{Each}
use Rattle.graph_data.specs.WellFormed.{IsNumber, IsKnown, IsRegion, AreNumbers}
use Rattle.term_text.specs.Numbers.{number_text, number_at}
use Rattle.term_text.specs.Reading.{term_at}
use Rattle.term_text.specs.Text.{sum_text}
use Rattle.term_text.proofs.NumberLemmas.{decimal_reads, number_reads, number_begins}
use Rattle.term_text.proofs.CleanLemmas.{number_clean}
use Rattle.term_text.proofs.TermLemmas.{term_reads}
use Rattle.graph_lines.specs.declared.line.Line.TheVariants as line
use Rattle.graph_lines.specs.declared.line.SiteLine.TheVariants as in_site
use Rattle.graph_lines.specs.declared.line.VertexLine.TheVariants as in_vertex
use Rattle.graph_lines.specs.Words.{joined, is_term_word, is_printable, are_printable}
use Rattle.graph_lines.specs.Line.{IsGiven, IsNode, HasNumber, IsLine}
use Rattle.graph_lines.specs.Text.{region_text, given_text, fact_text, values_text, bound_text, content_text, node_text, line_text}
use Rattle.graph_lines.specs.Syntax.{each_at, regions_at, given_at, givens_at, fact_at, list_at, range_at, values_or, values_at, bound_at, content_at, node_at}
use Rattle.graph_lines.specs.Steps.{each_read, pair_of, region_of, given_of, fact_of, bound_of, value_of, node_of, loose_site_line, loose_vertex_line, loose_line}
use Rattle.graph_lines.specs.Reading.{and_then, or_bad_line}
use Rattle.graph_lines.proofs.WordLemmas.{has_none, split_joined, fields_joined}
use Rattle.graph_lines.proofs.EachLemmas.{each_reads, each_passes}
use Rattle.graph_lines.proofs.ByteLemmas.{clean_printable, decimal_free, decimal_printable, all_both, all_joined}
use Rattle.graph_lines.proofs.PlainLemmas.{Again}
use Rattle.graph_lines.proofs.TermPartLemmas.{term_free, term_printable, term_word, number_free, size_small, width_reads, width_small, sized_again, region_again, region_read, region_free, region_printable, loose_given, given_again, given_read, given_free, given_printable, each_seen, each_read_again, strip_none}

-- ---- regions

regions_again : (a b : Region) → IsRegion a → IsRegion b → regions_at (region_text a ++ 32 ∷ region_text b) ≡ Some ((sum_text a.at, a.bytes), (sum_text b.at, b.bytes))
unfolding regions_at
regions_again a b a_is b_is =
    let parts = split_joined 32 (region_text a) (region_text b) (region_free a a_is) in
    rw (parts, region_again a a_is, region_again b b_is) refl

pair_read : (a b : Region) → IsRegion a → IsRegion b → pair_of ((sum_text a.at, a.bytes), (sum_text b.at, b.bytes)) ≡ Ok (a, b)
pair_read a b a_is b_is = rw (region_read a a_is, region_read b b_is) refl

regions_printable : (a b : Region) → IsRegion a → IsRegion b → are_printable (region_text a ++ 32 ∷ region_text b) ≡ true
regions_printable a b a_is b_is = all_both is_printable (region_text a) (32 ∷ region_text b) (region_printable a a_is) (region_printable b b_is)

pub pair_again : (a b : Region) → IsLine (line.InSite (in_site.Pair a b)) → Again (line.InSite (in_site.Pair a b))
unfolding loose_line loose_site_line
pair_again a b is =
    ap (λ o. or_bad_line o (λ loose. and_then (pair_of loose) (λ p. Ok (line.InSite (in_site.Pair p.0 p.1))))) (regions_again a b is.0 is.1)
    ∙ ap (λ r. and_then r (λ p. Ok (line.InSite (in_site.Pair p.0 p.1)))) (pair_read a b is.0 is.1)

pub pair_printable : (a b : Region) → IsLine (line.InSite (in_site.Pair a b)) → are_printable (line_text (line.InSite (in_site.Pair a b))) ≡ true
pair_printable a b is = regions_printable a b is.0 is.1

pub fork_again : (a b : Region) → IsLine (line.InSite (in_site.Fork a b)) → Again (line.InSite (in_site.Fork a b))
unfolding loose_line loose_site_line
fork_again a b is =
    ap (λ o. or_bad_line o (λ loose. and_then (pair_of loose) (λ p. Ok (line.InSite (in_site.Fork p.0 p.1))))) (regions_again a b is.0 is.1)
    ∙ ap (λ r. and_then r (λ p. Ok (line.InSite (in_site.Fork p.0 p.1)))) (pair_read a b is.0 is.1)

pub fork_printable : (a b : Region) → IsLine (line.InSite (in_site.Fork a b)) → are_printable (line_text (line.InSite (in_site.Fork a b))) ≡ true
fork_printable a b is = regions_printable a b is.0 is.1

pub keep_again : (r : Region) → IsLine (line.InSite (in_site.Keep r)) → Again (line.InSite (in_site.Keep r))
unfolding loose_line loose_site_line
keep_again r is =
    ap (λ o. or_bad_line o (λ loose. and_then (region_of loose) (λ r. Ok (line.InSite (in_site.Keep r))))) (region_again r is)
    ∙ ap (λ x. and_then x (λ r. Ok (line.InSite (in_site.Keep r)))) (region_read r is)

pub keep_printable : (r : Region) → IsLine (line.InSite (in_site.Keep r)) → are_printable (line_text (line.InSite (in_site.Keep r))) ≡ true
keep_printable r is = region_printable r is

-- ---- registers

some_mapped : {X : Type 0} (text : X → List ℕ) (xs : List X) → 0 < length xs → 0 < length (map text xs)
some_mapped text xs some = omega (arith, length-map xs text)

pub registers_again : (given : List (ℕ × Option PlainSum)) → IsLine (line.InVertex (in_vertex.Registers given)) → Again (line.InVertex (in_vertex.Registers given))
unfolding loose_line loose_vertex_line givens_at
registers_again given is =
    ap (λ ps. or_bad_line (each_at given_at ps) (λ loose. and_then (each_read given_of loose) (λ given. Ok (line.InVertex (in_vertex.Registers given)))))
    (fields_joined 32 (map given_text given) (some_mapped given_text given is.1) (each_passes IsGiven given_text (has_none 32) given_free given is.0))
    ∙ ap (λ o. or_bad_line o (λ loose. and_then (each_read given_of loose) (λ given. Ok (line.InVertex (in_vertex.Registers given))))) (each_seen IsGiven given_text given_at loose_given given_again given is.0)
    ∙ ap (λ r. and_then r (λ given. Ok (line.InVertex (in_vertex.Registers given)))) (each_read_again IsGiven loose_given given_of given_read given is.0)

pub registers_printable : (given : List (ℕ × Option PlainSum)) → IsLine (line.InVertex (in_vertex.Registers given)) → are_printable (line_text (line.InVertex (in_vertex.Registers given))) ≡ true
registers_printable given is = all_joined is_printable 32 (map given_text given) refl (each_passes IsGiven given_text are_printable given_printable given is.0)

-- ---- a flag fact

fact_parts : (f : FlagFact) → IsLine (line.InVertex (in_vertex.Flags f)) → fact_at (fact_text f) ≡ Some (f.width, (sum_text f.left, sum_text f.right))
unfolding fact_at
fact_parts f is =
    let first = split_joined 32 (decimal (bits_of f.width)) (sum_text f.left ++ 32 ∷ sum_text f.right) (decimal_free 32 (bits_of f.width) refl (width_small f.width)) in
    let second = split_joined 32 (sum_text f.left) (sum_text f.right) (term_free 32 f.left refl is.0) in
    rw (first, second, decimal_reads (bits_of f.width) (width_small f.width), width_reads f.width, term_word f.left is.0, term_word f.right is.1) refl

fact_read : (f : FlagFact) → IsLine (line.InVertex (in_vertex.Flags f)) → fact_of (f.width, (sum_text f.left, sum_text f.right)) ≡ Ok (line.InVertex (in_vertex.Flags f))
fact_read f is = rw (term_reads f.left is.0, term_reads f.right is.1) refl

pub fact_again : (f : FlagFact) → IsLine (line.InVertex (in_vertex.Flags f)) → Again (line.InVertex (in_vertex.Flags f))
unfolding loose_line loose_vertex_line
fact_again f is = ap (λ o. or_bad_line o fact_of) (fact_parts f is) ∙ fact_read f is

pub fact_printable : (f : FlagFact) → IsLine (line.InVertex (in_vertex.Flags f)) → are_printable (line_text (line.InVertex (in_vertex.Flags f))) ≡ true
fact_printable f is =
    all_both is_printable (decimal (bits_of f.width)) (32 ∷ (sum_text f.left ++ 32 ∷ sum_text f.right)) (decimal_printable (bits_of f.width) (width_small f.width))
    (all_both is_printable (sum_text f.left) (32 ∷ sum_text f.right) (term_printable f.left is.0) (term_printable f.right is.1))

-- ---- a bound

numbers_free : (numbers : List ℕ) → Each IsNumber numbers → list_all (has_none 44) (map number_text numbers) ≡ true
numbers_free numbers all = each_passes IsNumber number_text (has_none 44) (λ n lt. number_free 44 n refl lt) numbers all

list_again : (numbers : List ℕ) → Each IsNumber numbers → 0 < length numbers → list_at (joined 44 (map number_text numbers) ++ 125 ∷ []) ≡ Some (OneOf numbers)
unfolding list_at
list_again numbers all some =
    let inside = joined 44 (map number_text numbers) in
    let parts = split_joined 125 inside [] (all_joined (λ b. not (eqb b 125)) 44 (map number_text numbers) refl (each_passes IsNumber number_text (has_none 125) (λ n lt. number_free 125 n refl lt) numbers all)) in
    let each = fields_joined 44 (map number_text numbers) (some_mapped number_text numbers some) (numbers_free numbers all) in
    rw (parts, each, each_reads IsNumber number_text number_at number_reads numbers all) refl

range_again : (low high : ℕ) → IsNumber low → IsNumber high → range_at (number_text low ++ 46 ∷ 46 ∷ number_text high) ≡ Some (Range low high)
unfolding range_at
range_again low high low_is high_is =
    let parts = split_joined 46 (number_text low) (46 ∷ number_text high) (number_free 46 low refl low_is) in
    rw (parts, number_reads low low_is, number_reads high high_is) refl

values_again : (v : Values) → AreNumbers v → HasNumber v → values_at (values_text v) ≡ Some v
unfolding values_at
values_again (Range low high) all some =
    ap (values_or (number_text low ++ 46 ∷ 46 ∷ number_text high)) (strip_none 123 (number_text low) (46 ∷ 46 ∷ number_text high) refl (number_clean low all.0) (number_begins low all.0))
    ∙ range_again low high all.0 all.1
values_again (OneOf numbers) all some = list_again numbers all some

values_printable : (v : Values) → AreNumbers v → are_printable (values_text v) ≡ true
values_printable (Range low high) all =
    all_both is_printable (number_text low) (46 ∷ 46 ∷ number_text high) (clean_printable (number_text low) (number_clean low all.0)) (clean_printable (number_text high) (number_clean high all.1))
values_printable (OneOf numbers) all =
    all_both is_printable (joined 44 (map number_text numbers)) (125 ∷ [])
    (all_joined is_printable 44 (map number_text numbers) refl (each_passes IsNumber number_text are_printable (λ n lt. clean_printable (number_text n) (number_clean n lt)) numbers all))
    refl

bound_parts : (b : Bound) → IsLine (line.InVertex (in_vertex.Bound b)) → bound_at (bound_text b) ≡ Some (sum_text b.key, b.set)
unfolding bound_at
bound_parts b is =
    let parts = split_joined 32 (sum_text b.key) (values_text b.set) (term_free 32 b.key refl is.0.0) in
    rw (parts, values_again b.set is.0.1 is.1, term_word b.key is.0.0) refl

bound_read : (b : Bound) → IsLine (line.InVertex (in_vertex.Bound b)) → bound_of (sum_text b.key, b.set) ≡ Ok (line.InVertex (in_vertex.Bound b))
bound_read b is = rw (term_reads b.key is.0.0) refl

pub bound_again : (b : Bound) → IsLine (line.InVertex (in_vertex.Bound b)) → Again (line.InVertex (in_vertex.Bound b))
unfolding loose_line loose_vertex_line
bound_again b is = ap (λ o. or_bad_line o bound_of) (bound_parts b is) ∙ bound_read b is

pub bound_printable : (b : Bound) → IsLine (line.InVertex (in_vertex.Bound b)) → are_printable (line_text (line.InVertex (in_vertex.Bound b))) ≡ true
bound_printable b is = all_both is_printable (sum_text b.key) (32 ∷ values_text b.set) (term_printable b.key is.0.0) (values_printable b.set is.0.1)

-- ---- a node

-- the bytes at the place of a value
abbrev loose_value : Option PlainSum → Option (List ℕ)
loose_value None = None
loose_value (Some t) = Some (sum_text t)

content_again : (v : Option PlainSum) → IsKnown v → content_at (content_text v) ≡ Some (loose_value v)
content_again None known = refl
content_again (Some t) known = rw (term_word t known) refl

value_again : (v : Option PlainSum) → IsKnown v → value_of (loose_value v) ≡ Ok v
value_again None known = refl
value_again (Some t) known = rw (term_reads t known) refl

content_printable : (v : Option PlainSum) → IsKnown v → are_printable (content_text v) ≡ true
content_printable None known = refl
content_printable (Some t) known = term_printable t known

node_parts : (node : PlainNode) → IsNode node → node_at (node_text node) ≡ Some (map sum_text node.names, (node.bytes, loose_value node.value))
unfolding node_at
node_parts node is =
    let names = map sum_text node.names in
    let free = all_joined (λ b. not (eqb b 59)) 124 names refl (each_passes IsTerm sum_text (has_none 59) (λ t is. term_free 59 t refl is) node.names is.names) in
    let parts = sized_again (joined 124 names) (content_text node.value) node.bytes free is.size in
    let each = fields_joined 124 names (some_mapped sum_text node.names is.named) (each_passes IsTerm sum_text (has_none 124) (λ t is. term_free 124 t refl is) node.names is.names) in
    let words = each_passes IsTerm sum_text is_term_word term_word node.names is.names in
    rw (parts, content_again node.value is.value, each, words) refl

node_read : (node : PlainNode) → IsNode node → node_of (map sum_text node.names, (node.bytes, loose_value node.value)) ≡ Ok node
node_read node is =
    let names = each_read_again IsTerm sum_text term_at term_reads node.names is.names in
    rw (names, value_again node.value is.value) (ap (λ (u : PlainForest). Ok (record { names = node.names; bytes = node.bytes; value = node.value; under = u })) (sym is.single))

pub node_again : (level : ℕ) (node : PlainNode) → IsLine (line.InVertex (in_vertex.Node level node)) → Again (line.InVertex (in_vertex.Node level node))
unfolding loose_line loose_vertex_line
node_again level node is =
    ap (λ (rest : List ℕ). or_bad_line (node_at rest) (λ loose. and_then (node_of loose) (λ node. Ok (line.InVertex (in_vertex.Node level node))))) (drop_at (replicate level 46) (node_text node) level (length-replicate level 46))
    ∙ ap (λ o. or_bad_line o (λ loose. and_then (node_of loose) (λ node. Ok (line.InVertex (in_vertex.Node level node))))) (node_parts node is.1)
    ∙ ap (λ r. and_then r (λ node. Ok (line.InVertex (in_vertex.Node level node)))) (node_read node is.1)

dots_printable : (level : ℕ) → are_printable (replicate level 46) ≡ true
dots_printable zero = refl
dots_printable (suc n) = dots_printable n

pub node_printable : (level : ℕ) (node : PlainNode) → IsLine (line.InVertex (in_vertex.Node level node)) → are_printable (line_text (line.InVertex (in_vertex.Node level node))) ≡ true
node_printable level node is =
    all_both is_printable (replicate level 46) (node_text node) (dots_printable level)
    (all_both is_printable (joined 124 (map sum_text node.names)) (59 ∷ (decimal node.bytes ++ 93 ∷ content_text node.value))
    (all_joined is_printable 124 (map sum_text node.names) refl (each_passes IsTerm sum_text are_printable term_printable node.names is.1.names))
    (all_both is_printable (decimal node.bytes) (93 ∷ content_text node.value) (decimal_printable node.bytes (size_small node.bytes is.1.size)) (content_printable node.value is.1.value)))
