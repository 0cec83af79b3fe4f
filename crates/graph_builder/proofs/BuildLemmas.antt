-- What lines build, and the law of it.
use Rattle.std.proofs.Common.{◌≡◌, Bool, true, false, List, [], ◌∷◌, ◌++◌, append-nil, append_assoc, refl, sym, ap, ◌∙◌, subst}
use Rattle.std.specs.Prelude.{if◌then◌else◌}
use Rattle.std.specs.declared.result.Result.{Result}
use Rattle.std.specs.declared.result.Result.TheVariants.{Ok, Err}
use Rattle.term_text.specs.declared.cause.TextCause.{TextCause}
use Rattle.term_text.specs.declared.cause.TextCause.TheVariants as cause
use Rattle.graph_data.specs.declared.graph.Function.{Function}
use Rattle.graph_data.specs.declared.graph.Graph.{Graph}
use Rattle.graph_data.specs.Parts.{Each}
use Rattle.graph_data.specs.WellFormed.{IsWellFormed}
use Rattle.graph_data.proofs.PartLemmas.{each_push}
use Rattle.graph_lines.specs.declared.line.Line.{Line}
use Rattle.graph_lines.specs.Line.{IsLine}
use Rattle.graph_lines.specs.LineKind.{kind_of_line}
use Rattle.graph_lines.specs.Reading.{and_then}
use Rattle.graph_builder.specs.declared.builder.Position.{Position}
use Rattle.graph_builder.specs.declared.builder.Position.TheVariants as position
use Rattle.graph_builder.specs.declared.builder.Builder.{Builder}
use Rattle.graph_builder.specs.Lines.{graph_lines}
use Rattle.graph_builder.specs.Partial.{new_builder, CanClose}
use Rattle.graph_builder.specs.Follow.{can_follow}
use Rattle.graph_builder.specs.Order.{is_in_order}
use Rattle.graph_builder.specs.Limits.{is_within}
use Rattle.graph_builder.specs.Extend.{extended}
use Rattle.graph_builder.specs.Building.{judged, pushed, built_from, finished_at, finished, lines_of, IsBuilt, LinesBuild, BuiltHasLines}
use Rattle.graph_builder.proofs.PartialInvariant.{IsPartial}
use Rattle.graph_builder.proofs.PartialLemmas as partial
use Rattle.graph_builder.proofs.BuildsSteps.{steps_then}
use Rattle.graph_builder.proofs.BuildsFunction.{graph_reads}

-- ---- one line

-- what a line that was judged keeps
record IsJudged (b : Builder) (l : Line) (c : Builder) : Type 0 where
  in_order : is_in_order b l ≡ true
  within : is_within b.position l ≡ true
  is : c ≡ extended b l

judged_by : (b c : Builder) (l : Line) (t u : Bool) → is_in_order b l ≡ t → is_within b.position l ≡ u
    → (if t then (if u then Ok (extended b l) else Err cause.OverLimit) else Err cause.OutOfOrder) ≡ Ok c → IsJudged b l c
judged_by b c l true true e f g = record { in_order = e; within = f; is = cc }
judged_by b c l true false e f g = absurd (cc)
judged_by b c l false u e f g = absurd (cc)

judged_parts : (b c : Builder) (l : Line) → judged b l ≡ Ok c → IsJudged b l c
unfolding judged
judged_parts b c l e = judged_by b c l (is_in_order b l) (is_within b.position l) refl refl e

pushed_by : (t : Bool) (o : Result Builder TextCause) (c : Builder) → (if t then o else Err cause.BadLine) ≡ Ok c → (t ≡ true) × (o ≡ Ok c)
pushed_by true o c e = (refl, e)
pushed_by false o c e = absurd (cc)

pushed_partial : (b c : Builder) (l : Line) → IsPartial b → IsLine l → pushed b l ≡ Ok c → IsPartial c × (lines_of c ≡ lines_of b ++ l ∷ [])
pushed_partial b c l o h e =
    let parts = pushed_by (can_follow b (kind_of_line l)) (judged b l) c e in
    let j = judged_parts b c l parts.1 in
    let P : Builder → Type 0 = λ x. IsPartial x × (lines_of x ≡ lines_of b ++ l ∷ []) in
    subst P (sym j.is) (partial.partial_extended b l o h parts.0 j.in_order j.within, partial.lines_extended b l o h parts.0 j.in_order j.within)

-- ---- lines one after another

new_partial : IsPartial new_builder
new_partial = record { functions = tt; ascending = tt; position = tt }

partial_by : (b c : Builder) (l : Line) (ls : List Line) (r : Result Builder TextCause) → IsPartial b → IsLine l → pushed b l ≡ r
    → ((d : Builder) → IsPartial d → built_from d ls ≡ Ok c → IsPartial c × (lines_of c ≡ lines_of d ++ ls))
    → and_then r (λ d. built_from d ls) ≡ Ok c → IsPartial c × (lines_of c ≡ lines_of b ++ l ∷ ls)
partial_by b c l ls (Ok d) o h f more g =
    let first = pushed_partial b d l o h f in
    let rest = more d first.0 g in
    (rest.0, rest.1 ∙ ap (λ x. x ++ ls) first.1 ∙ append_assoc (lines_of b) (l ∷ []) ls)
partial_by b c l ls (Err x) o h f more g = absurd (cc)

built_partial : (ls : List Line) (b c : Builder) → IsPartial b → Each IsLine ls → built_from b ls ≡ Ok c → IsPartial c × (lines_of c ≡ lines_of b ++ ls)
built_partial [] b c o h e =
    let same : b ≡ c = cc in
    (subst IsPartial same o, ap lines_of (sym same) ∙ sym (append-nil (lines_of b)))
built_partial (l ∷ ls) b c o h e = partial_by b c l ls (pushed b l) o h.0 refl (λ d p f. built_partial ls d c p h.1 f) e

-- what is built is well formed as far as it goes
is_partial : (b : Builder) → IsBuilt b → IsPartial b
is_partial b h = (built_partial (lines_of b) new_builder b new_partial h.lines h.built).0

-- a vertex that is being read can be closed
pub can_close : (b : Builder) → IsBuilt b → CanClose b.position
can_close b h = partial.can_close b (is_partial b h)

-- before all lines
pub new_is_built : (b : Builder) → b ≡ new_builder → IsBuilt b × (lines_of b ≡ [])
new_is_built b e =
    let P : Builder → Type 0 = λ x. IsBuilt x × (lines_of x ≡ []) in
    subst P (sym e) (record { lines = tt; built = refl }, refl)

module _ (b : Builder) (l : Line) (h : IsBuilt b) (is : IsLine l) (follows : can_follow b (kind_of_line l) ≡ true) (judgement : judged b l ≡ Ok (extended b l)) where
  pushed_is : pushed b l ≡ Ok (extended b l)
  pushed_is = ap (λ t. if t then judged b l else Err cause.BadLine) follows ∙ judgement

  -- the line is the last of those that were pushed
  pub pushed_lines : lines_of (extended b l) ≡ lines_of b ++ l ∷ []
  pushed_lines = (pushed_partial b (extended b l) l (is_partial b h) is pushed_is).1

  -- and what is built with it is what its lines build
  pub pushed_is_built : IsBuilt (extended b l)
  pushed_is_built = record {
    lines = subst (Each IsLine) (sym pushed_lines) (each_push IsLine (lines_of b) l h.lines is);
    built =
        ap (built_from new_builder) pushed_lines
        ∙ steps_then new_builder (lines_of b) (l ∷ []) b (extended b l) h.built (ap (λ o. and_then o (λ c. built_from c [])) pushed_is);
  }

-- ---- the graph

-- after the last line
pub graph_built : (b : Builder) → IsBuilt b → b.position ≡ position.Ended
    → IsWellFormed (record { functions = b.functions }) × (graph_lines (record { functions = b.functions }) ≡ lines_of b)
graph_built b h e = partial.partial_ended b (is_partial b h) e

-- what was finished had its last line
finished_parts : (functions : List Function) (p : Position) (g : Graph) → finished_at functions p ≡ Ok g → (p ≡ position.Ended) × (record { functions = functions } ≡ g)
finished_parts functions position.Between g e = absurd (cc)
finished_parts functions (position.Function f) g e = absurd (cc)
finished_parts functions (position.Site f s) g e = absurd (cc)
finished_parts functions (position.Vertex f s v) g e = absurd (cc)
finished_parts functions position.Ended g e = (refl, cc)

-- the lines of a well-formed graph build it
pub lines_build : LinesBuild
lines_build g h = ap (λ o. and_then o finished) (graph_reads g h)

-- a graph that lines build is well formed and has just these lines
pub built_has_lines : BuiltHasLines
built_has_lines ls g each e = by (built_from new_builder ls) refl e
  where
    by : (r : Result Builder TextCause) → built_from new_builder ls ≡ r → and_then r finished ≡ Ok g → IsWellFormed g × (graph_lines g ≡ ls)
    by (Ok c) f e =
        let whole = built_partial ls new_builder c new_partial each f in
        let parts = finished_parts c.functions c.position g e in
        let ended = partial.partial_ended c whole.0 parts.0 in
        let P : Graph → Type 0 = λ x. IsWellFormed x × (graph_lines x ≡ ls) in
        subst P parts.1 (ended.0, ended.1 ∙ whole.1)
    by (Err x) f e = absurd (cc)
