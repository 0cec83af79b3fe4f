-- The text of a well-formed graph is read as the graph.
use Rattle.std.proofs.Common.{◌≡◌, ℕ, ◌+◌, true, List, [], ◌∷◌, ◌++◌, length, append_assoc, Some, refl, sym, ap, ◌∙◌, subst}
use Rattle.std.specs.Prelude.{if◌then◌else◌}
use Rattle.std.specs.declared.result.Result.{Result}
use Rattle.std.specs.declared.result.Result.TheVariants.{Ok, Err}
use Rattle.std.proofs.lemmas.Bool.{le-ltb}
use Rattle.term_text.specs.declared.cause.TextCause.{TextCause}
use Rattle.term_text.specs.declared.cause.TextCause.TheVariants as cause
use Rattle.graph_data.specs.declared.graph.Graph.{Graph}
use Rattle.graph_data.specs.Parts.{Each}
use Rattle.graph_data.specs.WellFormed.{IsWellFormed}
use Rattle.graph_lines.specs.declared.line.Line.{Line}
use Rattle.graph_lines.specs.Words.{fields}
use Rattle.graph_lines.specs.Line.{IsLine}
use Rattle.graph_lines.specs.LineLimits.{IsWithinLineLimits}
use Rattle.graph_lines.specs.LineKind.{kind_of_bytes, kind_of_line}
use Rattle.graph_lines.specs.Text.{line_text}
use Rattle.graph_lines.specs.Reading.{and_then, or_bad_line, line_of_kind, line_at}
use Rattle.graph_lines.proofs.KindLemmas.{kind_of_text}
use Rattle.graph_lines.proofs.LineLemmas.{line_reads, line_printable}
use Rattle.graph_lines.proofs.LengthLemmas.{line_short}
use Rattle.graph_builder.specs.declared.builder.Builder.{Builder}
use Rattle.graph_builder.specs.Lines.{graph_lines}
use Rattle.graph_builder.specs.Partial.{new_builder}
use Rattle.graph_builder.specs.Follow.{can_follow}
use Rattle.graph_builder.specs.Building.{judged, pushed, built_from, finished, built, LinesBuild, LinesAreShort}
use Rattle.graph_text.specs.declared.refusal.TextRefusal.{TextRefusal}
use Rattle.graph_text.specs.Text.{head, ended, lines_text, graph_text}
use Rattle.graph_text.specs.Reading.{head_taken, next_taken, line_taken, end_taken, at_line, run, run_text, graph_at, GivesGraph}
use Rattle.graph_text.proofs.FieldLemmas.{fields_ended, fields_some, head_by, run_more}

-- a line with its parts in their ranges and limits
abbrev IsWritten : Line → Type 0
IsWritten l = IsLine l × IsWithinLineLimits l

-- the text of a line is read as the line by its kind
kind_reads : (l : Line) → IsLine l → line_of_kind (kind_of_line l) (line_text l) ≡ Ok l
unfolding line_at
kind_reads l h = sym (ap (λ k. or_bad_line k (λ kind. line_of_kind kind (line_text l))) (kind_of_text l)) ∙ line_reads l h

next_line : (b c : Builder) (l : Line) → IsLine l → pushed b l ≡ Ok c → next_taken b (line_text l) ≡ Ok c
unfolding next_taken
next_line b c l h e =
    ap (λ k. or_bad_line k (λ kind. if can_follow b kind then and_then (line_of_kind kind (line_text l)) (judged b) else Err cause.BadLine)) (kind_of_text l)
    ∙ ap (λ o. if can_follow b (kind_of_line l) then and_then o (judged b) else Err cause.BadLine) (kind_reads l h)
    ∙ e

-- a line's text is taken as the line is pushed
taken_line : (b c : Builder) (l : Line) → IsWritten l → pushed b l ≡ Ok c → line_taken b (line_text l) ≡ Ok c
unfolding line_taken
taken_line b c l h e = rw (le-ltb 32768 (length (line_text l)) (line_short l h.0 h.1)) (next_line b c l h.0 e)

ended_reads : (n : ℕ) (b c : Builder) (g : Graph) → built_from b [] ≡ Ok c → finished c ≡ Ok g → run n b (fields 10 []) ≡ Ok g
unfolding end_taken
ended_reads n b c g e f =
    let same : b ≡ c = cc in
    ap (λ x. at_line n (finished x) Ok) same ∙ ap (λ o. at_line n o Ok) f

lines_by : (n : ℕ) (b c : Builder) (g : Graph) (l : Line) (ls : List Line) (o : Result Builder TextCause) → IsWritten l → pushed b l ≡ o
    → ((d : Builder) → built_from d ls ≡ Ok c → run (n + 1) d (fields 10 (lines_text ls)) ≡ Ok g)
    → and_then o (λ d. built_from d ls) ≡ Ok c → run n b (fields 10 (lines_text (l ∷ ls))) ≡ Ok g
lines_by n b c g l ls (Ok d) h f more e =
    run_more n b d (line_text l) (lines_text ls) (line_printable l h.0) (taken_line b d l h f) ∙ more d e
lines_by n b c g l ls (Err x) h f more e = absurd (cc)

run_lines : (ls : List Line) (n : ℕ) (b c : Builder) (g : Graph) → Each IsWritten ls → built_from b ls ≡ Ok c → finished c ≡ Ok g
    → run n b (fields 10 (lines_text ls)) ≡ Ok g
run_lines [] n b c g h e f = ended_reads n b c g e f
run_lines (l ∷ ls) n b c g h e f = lines_by n b c g l ls (pushed b l) h.0 refl (λ d k. run_lines ls (n + 1) d c g h.1 k f) e

head_reads : head_taken head ≡ Ok new_builder
unfolding head_taken
head_reads = refl

head_more : (rest : List ℕ) → graph_at (ended head ++ rest) ≡ run 2 new_builder (fields 10 rest)
unfolding graph_at
head_more rest =
    ap (λ t. run_text (fields 10 t)) (append_assoc head (10 ∷ []) rest)
    ∙ ap run_text (fields_ended head rest refl)
    ∙ head_by new_builder head (fields 10 rest) (fields_some rest) head_reads

text_by : (ls : List Line) (g : Graph) (o : Result Builder TextCause) → Each IsWritten ls → built_from new_builder ls ≡ o → and_then o finished ≡ Ok g
    → graph_at (ended head ++ lines_text ls) ≡ Ok g
text_by ls g (Ok c) h e f = head_more (lines_text ls) ∙ run_lines ls 2 new_builder c g h e f
text_by ls g (Err x) h e f = absurd (cc)

one_graph : (g h : Graph) (read : Result Graph TextRefusal) → read ≡ Ok g → read ≡ Ok h → g ≡ h
one_graph g h read e f = cc

module _ (builds : LinesBuild) (short : LinesAreShort) where
  -- its text gives a well-formed graph again
  pub graph_read : (g : Graph) → IsWellFormed g → graph_at (graph_text g) ≡ Ok g
  graph_read g h = text_by (graph_lines g) g (built_from new_builder (graph_lines g)) (short g h) refl (builds g h)

  -- well-formed graphs with one text are one graph
  pub graph_text_one : (g h : Graph) → IsWellFormed g → IsWellFormed h → graph_text g ≡ graph_text h → g ≡ h
  graph_text_one g h v w e = one_graph g h (graph_at (graph_text g)) (graph_read g v) (ap graph_at e ∙ graph_read h w)

  -- what is read of a well-formed graph's text is the graph
  pub graph_only : (read : Result Graph TextRefusal) (text : List ℕ) → GivesGraph read (graph_at text) → (g : Graph) → IsWellFormed g → text ≡ graph_text g
      → GivesGraph read (Ok g)
  graph_only read text h g w e =
      let P : Result Graph TextRefusal → Type 0 = λ o. GivesGraph read o in
      subst P (ap graph_at e ∙ graph_read g w) h
