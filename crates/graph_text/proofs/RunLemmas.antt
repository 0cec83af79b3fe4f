-- The run over the lines of a text, one line at a time.
use Rattle.std.proofs.Common.{◌≡◌, ℕ, ◌+◌, ◌≤◌, List, [], ◌∷◌, ◌++◌, append_assoc, length, Some, None, refl, sym, ap, ◌∙◌, subst, arith}
use Rattle.std.specs.Prelude.{IfOk}
use Rattle.std.proofs.lemmas.List.{append-nil}
use Rattle.std.specs.declared.result.Result.{Result}
use Rattle.std.specs.declared.result.Result.TheVariants.{Ok, Err}
use Rattle.term_text.specs.declared.cause.TextCause.{TextCause}
use Rattle.term_text.specs.declared.cause.TextCause.TheVariants as cause
use Rattle.term_text.specs.Reading.{Fails}
use Rattle.graph_data.specs.declared.graph.Graph.{Graph}
use Rattle.graph_data.specs.WellFormed.{IsWellFormed}
use Rattle.graph_lines.specs.Words.{split_at, fields}
use Rattle.graph_lines.proofs.WordLemmas as words
use Rattle.graph_builder.specs.declared.builder.Builder.{Builder}
use Rattle.graph_builder.specs.Lines.{graph_lines}
use Rattle.graph_builder.specs.Partial.{new_builder}
use Rattle.graph_builder.specs.Building.{lines_of}
use Rattle.graph_text.specs.declared.refusal.TextRefusal.{TextRefusal}
use Rattle.graph_text.specs.Reading.{head_taken, line_taken, end_taken, headless, at_line, run, run_text, graph_at, GivesGraph, refusal_at}
use Rattle.graph_text.specs.Text.{head, ended, lines_text, graph_text}
use Rattle.graph_text.specs.ConsumedText.{read_text}
use Rattle.graph_text.proofs.FieldLemmas.{fields_some, run_by, head_by, split_is}

-- a refusal of the line of that number
refused : {A : Type 0} (n : ℕ) (c : TextCause) (o : Result A TextCause) (more : A → Result Graph TextRefusal) → Fails c o
    → GivesGraph {Y = Graph} (Err (refusal_at n c)) (at_line n o more)
refused n cause.BadHead o more e = ap (λ o. at_line n o more) e
refused n cause.BadLine o more e = ap (λ o. at_line n o more) e
refused n cause.BadTerm o more e = ap (λ o. at_line n o more) e
refused n cause.NotCanonical o more e = ap (λ o. at_line n o more) e
refused n cause.OutOfOrder o more e = ap (λ o. at_line n o more) e
refused n cause.OverLimit o more e = ap (λ o. at_line n o more) e
refused n cause.Unended o more e = ap (λ o. at_line n o more) e
refused n cause.NoMemory o more e = refl

-- what a reading gives is what another gives that is equal
gives_along : (r read all : Result Graph TextRefusal) → GivesGraph r read → read ≡ all → GivesGraph r all
gives_along r read all g e =
    let P : Result Graph TextRefusal → Type 0 = λ o. GivesGraph r o in
    subst P e g

-- ---- the lines after the head

-- a line that is taken, and the lines after it
pub run_taken : (n : ℕ) (r s : Builder) (rest bytes after : List ℕ) → split_at 10 rest ≡ Some (bytes, after) → line_taken r bytes ≡ Ok s
    → run n r (fields 10 rest) ≡ run (n + 1) s (fields 10 after)
run_taken n r s rest bytes after e f =
    ap (run n r) (words.fields_some 10 rest bytes after e) ∙ run_by n r s bytes (fields 10 after) (fields_some after) f

refused_by : (n : ℕ) (r : Builder) (c : TextCause) (bytes : List ℕ) (ws : List (List ℕ)) → 1 ≤ length ws → Fails c (line_taken r bytes)
    → GivesGraph {Y = Graph} (Err (refusal_at n c)) (run n r (bytes ∷ ws))
refused_by n r c bytes [] h e = absurd (omega arith)
refused_by n r c bytes (w ∷ ws) h e = refused n c (line_taken r bytes) (λ s. run (n + 1) s (w ∷ ws)) e

-- a line that is refused
pub run_refused : (n : ℕ) (r : Builder) (c : TextCause) (rest bytes after : List ℕ) (read : Result Graph TextRefusal)
    → split_at 10 rest ≡ Some (bytes, after) → Fails c (line_taken r bytes) → run n r (fields 10 rest) ≡ read
    → GivesGraph {Y = Graph} (Err (refusal_at n c)) read
run_refused n r c rest bytes after read e f g =
    gives_along (Err (refusal_at n c)) (run n r (bytes ∷ fields 10 after)) read (refused_by n r c bytes (fields 10 after) (fields_some after) f)
    (sym (ap (run n r) (words.fields_some 10 rest bytes after e)) ∙ g)

-- the end of a text that is refused
pub end_refused : (n : ℕ) (r : Builder) (c : TextCause) (rest : List ℕ) (read : Result Graph TextRefusal) → split_at 10 rest ≡ None
    → Fails c (end_taken r rest) → run n r (fields 10 rest) ≡ read → GivesGraph {Y = Graph} (Err (refusal_at n c)) read
end_refused n r c rest read e f g =
    gives_along (Err (refusal_at n c)) (run n r (rest ∷ [])) read (refused n c (end_taken r rest) Ok f) (sym (ap (run n r) (words.fields_none 10 rest e)) ∙ g)

-- the end of a text that is a graph's
pub end_read : (n : ℕ) (r : Builder) (rest : List ℕ) (g : Graph) (read : Result Graph TextRefusal) → split_at 10 rest ≡ None
    → end_taken r rest ≡ Ok g → run n r (fields 10 rest) ≡ read → read ≡ Ok g
end_read n r rest g read e f h = sym h ∙ ap (run n r) (words.fields_none 10 rest e) ∙ ap (λ o. at_line n o Ok) f

-- before all lines
pub run_begins : (r : Builder) (text : List ℕ) → r ≡ new_builder → run 2 r (fields 10 text) ≡ run 2 new_builder (fields 10 text)
run_begins r text e = ap (λ q. run 2 q (fields 10 text)) e

-- nothing was read yet
pub nothing_read : (r : Builder) (text : List ℕ) → lines_of r ≡ [] → text ≡ read_text r ++ text
nothing_read r text e = ap (λ ls. lines_text ls ++ text) (sym e)

-- the text that was read, with one line more
pub text_step : (text rest bytes after read more : List ℕ) → text ≡ read ++ rest → split_at 10 rest ≡ Some (bytes, after) → more ≡ read ++ ended bytes
    → text ≡ more ++ after
text_step text rest bytes after read more e f m =
    e
    ∙ ap (λ t. read ++ t) (split_is 10 rest bytes after f ∙ sym (append_assoc bytes (10 ∷ []) after))
    ∙ sym (append_assoc read (ended bytes) after)
    ∙ ap (λ t. t ++ after) (sym m)

-- the text that was read is that of the graph
pub text_ends : (text rest : List ℕ) (r : Builder) (g : Graph) → text ≡ read_text r ++ rest → rest ≡ [] → graph_lines g ≡ lines_of r
    → text ≡ lines_text (graph_lines g)
text_ends text rest r g e none same =
    e ∙ ap (λ t. read_text r ++ t) none ∙ append-nil (read_text r) ∙ ap lines_text (sym same)

-- ---- the whole text

-- a text without a line feed
pub headless_refused : (c : TextCause) (text : List ℕ) → split_at 10 text ≡ None → Fails c (headless text) → GivesGraph {Y = Graph} (Err (refusal_at 1 c)) (graph_at text)
unfolding graph_at
headless_refused c text e f =
    gives_along (Err (refusal_at 1 c)) (run_text (text ∷ [])) (run_text (fields 10 text)) (refused 1 c (headless text) Ok f) (sym (ap run_text (words.fields_none 10 text e)))

head_refused_by : (c : TextCause) (bytes : List ℕ) (ws : List (List ℕ)) → 1 ≤ length ws → Fails c (head_taken bytes) → GivesGraph {Y = Graph} (Err (refusal_at 1 c)) (run_text (bytes ∷ ws))
head_refused_by c bytes [] h e = absurd (omega arith)
head_refused_by c bytes (w ∷ ws) h e = refused 1 c (head_taken bytes) (λ s. run 2 s (w ∷ ws)) e

-- a head that is refused
pub head_refused : (c : TextCause) (text bytes after : List ℕ) → split_at 10 text ≡ Some (bytes, after) → Fails c (head_taken bytes)
    → GivesGraph {Y = Graph} (Err (refusal_at 1 c)) (graph_at text)
unfolding graph_at
head_refused c text bytes after e f =
    gives_along (Err (refusal_at 1 c)) (run_text (bytes ∷ fields 10 after)) (run_text (fields 10 text))
    (head_refused_by c bytes (fields 10 after) (fields_some after) f) (sym (ap run_text (words.fields_some 10 text bytes after e)))

-- the head, and the lines after it
pub head_read : (r : Result Graph TextRefusal) (text bytes after : List ℕ) → split_at 10 text ≡ Some (bytes, after) → head_taken bytes ≡ Ok new_builder
    → GivesGraph r (run 2 new_builder (fields 10 after)) → GivesGraph r (graph_at text)
unfolding graph_at
head_read r text bytes after e f g =
    gives_along r (run 2 new_builder (fields 10 after)) (run_text (fields 10 text)) g
    (sym (ap run_text (words.fields_some 10 text bytes after e) ∙ head_by new_builder bytes (fields 10 after) (fields_some after) f))

-- the text of a graph by its head and its lines
pub text_is : (text bytes after : List ℕ) (g : Graph) → split_at 10 text ≡ Some (bytes, after) → bytes ≡ head → after ≡ lines_text (graph_lines g) → text ≡ graph_text g
text_is text bytes after g e h lines =
    split_is 10 text bytes after e
    ∙ ap (λ b. b ++ 10 ∷ after) h
    ∙ sym (append_assoc head (10 ∷ []) after)
    ∙ ap (λ t. ended head ++ t) lines

-- what is found of the lines is found of the text
pub found_whole : (r : Result Graph TextRefusal) (text bytes after : List ℕ) → split_at 10 text ≡ Some (bytes, after) → bytes ≡ head
    → IfOk r (λ g. IsWellFormed g × (after ≡ lines_text (graph_lines g))) → IfOk r (λ g. IsWellFormed g × (text ≡ graph_text g))
found_whole (Ok g) text bytes after e h found = (found.0, text_is text bytes after g e h found.1)
found_whole (Err e) text bytes after f h found = tt
