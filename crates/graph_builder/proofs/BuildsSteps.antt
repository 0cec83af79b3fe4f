-- One line after another, as lines and no more as bytes.
use Rattle.std.proofs.Common.{◌≡◌, ℕ, ◌+◌, ◌<◌, ◌≤◌, Bool, true, List, [], ◌∷◌, ◌++◌, length, append-nil, append_assoc, length-append, refl, sym, ap, ◌∙◌, subst, arith}
use Rattle.std.specs.List.{flat_map}
use Rattle.std.specs.declared.result.Result.{Result}
use Rattle.std.specs.declared.result.Result.TheVariants.{Ok, Err}
use Rattle.term_text.specs.declared.cause.TextCause.{TextCause}
use Rattle.predicates.specs.Bounds.{in_order}
use Rattle.graph_data.specs.Parts.{Each}
use Rattle.graph_lines.specs.declared.line.Line.{Line}
use Rattle.graph_lines.specs.LineKind.{kind_of_line}
use Rattle.graph_lines.specs.Reading.{and_then}
use Rattle.graph_builder.specs.declared.builder.Builder.{Builder}
use Rattle.graph_builder.specs.Follow.{follows_at}
use Rattle.graph_builder.specs.Order.{extends_order, is_in_order}
use Rattle.graph_builder.specs.Limits.{is_within}
use Rattle.graph_builder.specs.Extend.{extended}
use Rattle.graph_builder.specs.Building.{judged, pushed, built_from}
use Rattle.graph_builder.proofs.BuildsLists.{Begins, begins_next, in_order_rest}

-- a line that can follow, is in order and within the limits
pub step : (r : Builder) (l : Line) → follows_at r.position (kind_of_line l) ≡ true → is_in_order r l ≡ true → is_within r.position l ≡ true → pushed r l ≡ Ok (extended r l)
unfolding judged
step r l a b c = rw (a, b, c) refl

-- such a line, and others after it
pub step_then : (r : Builder) (l : Line) (ls : List Line) (s : Builder) → follows_at r.position (kind_of_line l) ≡ true → is_in_order r l ≡ true → is_within r.position l ≡ true
    → built_from (extended r l) ls ≡ Ok s → built_from r (l ∷ ls) ≡ Ok s
step_then r l ls s a b c e = ap (λ o. and_then o (λ s. built_from s ls)) (step r l a b c) ∙ e

-- lines, and others after them
pub steps_then : (r : Builder) (ls ms : List Line) (s t : Builder) → built_from r ls ≡ Ok s → built_from s ms ≡ Ok t → built_from r (ls ++ ms) ≡ Ok t
steps_then r [] ms s t e f = let same : r ≡ s = cc in ap (λ r. built_from r ms) same ∙ f
steps_then r (l ∷ ls) ms s t e f = by (pushed r l) e (λ q e. steps_then q ls ms s t e f)
  where
    by : (o : Result Builder TextCause) → and_then o (λ s. built_from s ls) ≡ Ok s → ((q : Builder) → built_from q ls ≡ Ok s → built_from q (ls ++ ms) ≡ Ok t)
        → and_then o (λ s. built_from s (ls ++ ms)) ≡ Ok t
    by (Ok q) e rest = rest q e
    by (Err c) e rest = absurd (cc)

-- lines that lead to where a fact holds
pub record Reads (At : Builder → Type 0) (r : Builder) (ls : List Line) : Type 0 where
  pub after : Builder
  pub reads : built_from r ls ≡ Ok after
  pub holds : At after

-- the lines of elements in order, where those of one more lead on
module _ {A : Type 0} (At : List A → Builder → Type 0) (lines : A → List Line) (before : A → A → Bool) (P : A → Type 0) (most : ℕ)
    (one : (done : List A) (x : A) (r : Builder) → At done r → P x → extends_order before done x ≡ true → length done < most → Reads (At (done ++ x ∷ [])) r (lines x)) where
  pub elements : (xs done : List A) (r : Builder) → At done r → Each P xs → in_order before xs ≡ true → Begins before done xs → length done + length xs ≤ most
      → Reads (At (done ++ xs)) r (flat_map lines xs)
  elements [] done r h each order begins few =
      record { after = r; reads = refl; holds = subst (λ d. At d r) (sym (append-nil done)) h }
  elements (x ∷ xs) done r h each order begins few =
      let first = one done x r h each.0 begins (omega (arith, few)) in
      let more : length (done ++ x ∷ []) ≡ length done + 1 = length-append done (x ∷ []) in
      let others = elements xs (done ++ x ∷ []) first.after first.holds each.1 (in_order_rest before x xs order) (begins_next before done x xs order) (omega (arith, few, more)) in
      record {
        after = others.after;
        reads = steps_then r (lines x) (flat_map lines xs) first.after others.after first.reads others.reads;
        holds = subst (λ d. At d others.after) (append_assoc done (x ∷ []) xs) others.holds;
      }
