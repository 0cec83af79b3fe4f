-- The length of a graph's text is that of its pieces.
use Rattle.std.proofs.Common.{◌≡◌, ℕ, ◌+◌, ◌-◌, ◌^◌, ◌<◌, ◌≤◌, length, drop, min, get_or, List, [], ◌∷◌, sym, ap, ◌∙◌, arith, add-zero, lit≤}
use Rattle.std.proofs.Math.ListN.{drop_of_length-le}
use Rattle.std.proofs.lemmas.Grind.{flat_map-append}
use Rattle.std.proofs.lemmas.List.{drop_more, length-append}
use Rattle.std.specs.List.{flat_map}
use Rattle.graph_data.specs.declared.graph.Function.{Function}
use Rattle.graph_data.specs.declared.graph.Graph.{Graph}
use Rattle.graph_lines.specs.declared.line.Line.TheVariants.{End}
use Rattle.graph_lines.specs.Text.{line_text}
use Rattle.graph_builder.specs.Lines.{function_lines, graph_lines}
use Rattle.graph_text.specs.Text.{head, ended, lines_text, function_text, graph_text}

-- the text of functions one after another
abbrev pub functions_text : List Function → List ℕ
functions_text fs = lines_text (flat_map function_lines fs)

-- the functions from one on are that one and those after it
pub function_at : (fs : List Function) (n : ℕ) (f : Function) → n < length fs → f ≡ get_or fs n f
    → length (functions_text (drop n fs)) ≡ length (function_text f) + length (functions_text (drop (n + 1) fs))
function_at fs n f h e =
    let rest = drop (n + 1) fs in
    ap (λ gs. length (functions_text gs)) (drop_more fs n f h ∙ ap (λ g. g ∷ rest) (sym e))
    ∙ ap length (flat_map-append (λ l. ended (line_text l)) (function_lines f) (flat_map function_lines rest))
    ∙ length-append (function_text f) (functions_text rest)

-- the first line, the functions, and the last line
pub graph_length : (g : Graph) → length (graph_text g) ≡ 19 + length (functions_text g.functions)
graph_length g =
    let fs = g.functions in
    let lines : length (lines_text (graph_lines g)) ≡ length (functions_text fs) + 4 =
    ap length (flat_map-append (λ l. ended (line_text l)) (flat_map function_lines fs) (End ∷ []))
    ∙ length-append (functions_text fs) (lines_text (End ∷ [])) in
    length-append (ended head) (lines_text (graph_lines g)) ∙ ap (λ n. 15 + n) lines ∙ omega arith

-- the greatest count
abbrev pub most : ℕ
most = 2 ^ 64 - 1

-- n bytes of the whole, or the most, are counted before the functions from one on
abbrev pub Counted : ℕ → List Function → ℕ → ℕ → Type 0
Counted whole fs n count =
    (count ≤ most) × (min (count + length (functions_text (drop n fs))) most ≡ min whole most)

pub counted_first : (g : Graph) → Counted (length (graph_text g)) g.functions 0 19
counted_first g = (lit≤ tt, ap (λ n. min n most) (sym (graph_length g)))

min_again : (count a b left limit whole : ℕ) → left ≡ a + b → min (count + left) limit ≡ min whole limit
    → min (min (count + a) limit + b) limit ≡ min whole limit
min_again count a b left limit whole e kept = omega arith

pub counted_more : (whole : ℕ) (fs : List Function) (n count : ℕ) (f : Function) → n < length fs → f ≡ get_or fs n f
    → Counted whole fs n count → Counted whole fs (n + 1) (min (count + length (function_text f)) most)
counted_more whole fs n count f h e counted =
    let a = length (function_text f) in
    let b = length (functions_text (drop (n + 1) fs)) in (
      omega arith,
      min_again count a b (length (functions_text (drop n fs))) most whole (function_at fs n f h e) counted.1,
    )

pub counted_all : (whole : ℕ) (fs : List Function) (n count : ℕ) → length fs ≤ n → Counted whole fs n count → count ≡ min whole most
counted_all whole fs n count h counted =
    let left : length (functions_text (drop n fs)) ≡ 0 = ap (λ gs. length (functions_text gs)) (drop_of_length-le fs h) in
    let small : count ≤ most = counted.0 in
    let whole_count : count ≡ min count most = omega arith in
    whole_count ∙ ap (λ n. min n most) (sym (add-zero count) ∙ ap (λ k. count + k) (sym left)) ∙ counted.1
