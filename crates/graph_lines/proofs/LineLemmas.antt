-- The text of a line is read as the line, and lines with one text are one.
use Rattle.std.proofs.Common.{◌≡◌, ℕ, true, false, List, [], ◌∷◌, Option, Result, Ok, refl, sym, ap, ◌∙◌}
use Rattle.std.specs.List.{list_any}
use Rattle.std.specs.Str.{bytes_eq}
use Rattle.std.proofs.lemmas.Slice.Eq.{bytes_eq-Decides}
use Rattle.sym_terms.specs.Plain.{PlainSum}
use Rattle.graph_data.specs.Parts.{Each}
use Rattle.term_text.specs.declared.cause.TextCause.{TextCause}
use Rattle.graph_lines.specs.declared.line.Line.{Line}
use Rattle.graph_lines.specs.declared.line.Line.TheVariants as line
use Rattle.graph_lines.specs.declared.line.SiteLine.TheVariants as in_site
use Rattle.graph_lines.specs.declared.line.VertexLine.TheVariants as in_vertex
use Rattle.graph_lines.specs.Words.{are_printable}
use Rattle.graph_lines.specs.Line.{is_entry_value, IsGiven, IsLine}
use Rattle.graph_lines.specs.Text.{line_text}
use Rattle.graph_lines.specs.Steps.{restates_entry_value}
use Rattle.graph_lines.specs.Reading.{line_of_kind, line_at}
use Rattle.graph_lines.proofs.KindLemmas.{kind_of_text}
use Rattle.graph_lines.proofs.PlainLemmas.{Again, function_again, function_printable, refused_again, refused_printable, site_again, site_printable, vertex_again, vertex_printable, edges_again, edges_printable, end_again}
use Rattle.graph_lines.proofs.TermLineLemmas.{pair_again, pair_printable, fork_again, fork_printable, keep_again, keep_printable, registers_again, registers_printable, fact_again, fact_printable, bound_again, bound_printable, node_again, node_printable}

-- each byte of a line may stand in one
pub line_printable : (l : Line) → IsLine l → are_printable (line_text l) ≡ true
line_printable (line.Function entry below above) is = function_printable entry below above is
line_printable (line.Refused entry) is = refused_printable entry is
line_printable (line.Site addr kind) is = site_printable addr kind is
line_printable (line.InSite (in_site.Pair a b)) is = pair_printable a b is
line_printable (line.InSite (in_site.Fork a b)) is = fork_printable a b is
line_printable (line.InSite (in_site.Keep r)) is = keep_printable r is
line_printable (line.Vertex n) is = vertex_printable n is
line_printable (line.InVertex (in_vertex.Registers given)) is = registers_printable given is
line_printable (line.InVertex (in_vertex.Flags f)) is = fact_printable f is
line_printable (line.InVertex (in_vertex.Bound b)) is = bound_printable b is
line_printable (line.InVertex (in_vertex.Node level node)) is = node_printable level node is
line_printable (line.InVertex (in_vertex.Edges out)) is = edges_printable out is
line_printable line.End is = refl

-- a line of each kind is read again after its letter and space
line_again : (l : Line) → IsLine l → Again l
line_again (line.Function entry below above) is = function_again entry below above is
line_again (line.Refused entry) is = refused_again entry is
line_again (line.Site addr kind) is = site_again addr kind is
line_again (line.InSite (in_site.Pair a b)) is = pair_again a b is
line_again (line.InSite (in_site.Fork a b)) is = fork_again a b is
line_again (line.InSite (in_site.Keep r)) is = keep_again r is
line_again (line.Vertex n) is = vertex_again n is
line_again (line.InVertex (in_vertex.Registers given)) is = registers_again given is
line_again (line.InVertex (in_vertex.Flags f)) is = fact_again f is
line_again (line.InVertex (in_vertex.Bound b)) is = bound_again b is
line_again (line.InVertex (in_vertex.Node level node)) is = node_again level node is
line_again (line.InVertex (in_vertex.Edges out)) is = edges_again out is
line_again line.End is = end_again

-- no register of a list is given its own entry symbol
none_restated : (given : List (ℕ × Option PlainSum)) → Each IsGiven given → list_any is_entry_value given ≡ false
none_restated [] all = refl
none_restated (g ∷ given) all = rw all.0.other (none_restated given all.1)

-- nor of a line
restates_none : (l : Line) → IsLine l → restates_entry_value l ≡ false
restates_none (line.Function entry below above) is = refl
restates_none (line.Refused entry) is = refl
restates_none (line.Site addr kind) is = refl
restates_none (line.InSite (in_site.Pair a b)) is = refl
restates_none (line.InSite (in_site.Fork a b)) is = refl
restates_none (line.InSite (in_site.Keep r)) is = refl
restates_none (line.Vertex n) is = refl
restates_none (line.InVertex (in_vertex.Registers given)) is = none_restated given is.0
restates_none (line.InVertex (in_vertex.Flags f)) is = refl
restates_none (line.InVertex (in_vertex.Bound b)) is = refl
restates_none (line.InVertex (in_vertex.Node level node)) is = refl
restates_none (line.InVertex (in_vertex.Edges out)) is = refl
restates_none line.End is = refl

-- bytes are themselves
same_bytes : (w : List ℕ) → bytes_eq w w ≡ true
same_bytes w = (bytes_eq-Decides w w).1 refl

-- the text of a line is read as the line
pub line_reads : (l : Line) → IsLine l → line_at (line_text l) ≡ Ok l
unfolding line_at line_of_kind
line_reads l is = rw (kind_of_text l, line_printable l is, line_again l is, same_bytes (line_text l), restates_none l is) refl

-- a line that is read
abbrev read_as : Line → Result Line TextCause
read_as l = Ok l

-- one reading is of one line
ok_is : (a b : Line) → read_as a ≡ read_as b → a ≡ b
ok_is a b e = cc

-- lines with one text are one
pub line_text_one : (a b : Line) → IsLine a → IsLine b → line_text a ≡ line_text b → a ≡ b
line_text_one a b a_is b_is e = ok_is a b (sym (line_reads a a_is) ∙ ap line_at e ∙ line_reads b b_is)
