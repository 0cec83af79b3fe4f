-- What holds after a line that is taken.
use Rattle.std.proofs.Common.{◌≡◌, ℕ, true, List, [], ◌∷◌, ◌++◌, Some, sym, ap, ◌∙◌, subst}
use Rattle.std.proofs.lemmas.List.{append-nil}
use Rattle.graph_lines.specs.declared.line.Line.{Line}
use Rattle.graph_lines.specs.declared.line_kind.LineKind.{LineKind}
use Rattle.graph_lines.specs.Text.{line_text}
use Rattle.graph_lines.specs.LineKind.{kind_of_bytes, kind_of_line}
use Rattle.graph_lines.proofs.KindLemmas.{kind_of_text}
use Rattle.graph_builder.specs.declared.builder.Builder.{Builder}
use Rattle.graph_builder.specs.Follow.{can_follow}
use Rattle.graph_builder.specs.Building.{lines_of, IsBuilt}
use Rattle.graph_text.specs.Text.{ended, lines_text}
use Rattle.graph_text.specs.ConsumedText.{read_text, Consumes}
use Rattle.graph_text.proofs.WriteLemmas.{lines_append}

one_kind : (kind other : LineKind) → Some kind ≡ Some other → kind ≡ other
one_kind kind other e = cc

-- the kind of a line's text is that of the line
pub kind_follows : (b : Builder) (kind : LineKind) (bytes : List ℕ) (l : Line) → bytes ≡ line_text l → kind_of_bytes bytes ≡ Some kind → can_follow b kind ≡ true
    → can_follow b (kind_of_line l) ≡ true
kind_follows b kind bytes l e k h = ap (can_follow b) (one_kind (kind_of_line l) kind (sym (ap kind_of_bytes e ∙ kind_of_text l) ∙ k)) ∙ h

lines_push : (ls : List Line) (l : Line) → lines_text (ls ++ l ∷ []) ≡ lines_text ls ++ ended (line_text l)
lines_push ls l = lines_append ls (l ∷ []) ∙ ap (λ t. lines_text ls ++ t) (append-nil (ended (line_text l)))

-- a line that is the last of those that were pushed
pub consumes : (b c : Builder) (l : Line) (bytes : List ℕ) → bytes ≡ line_text l → IsBuilt c → lines_of c ≡ lines_of b ++ l ∷ [] → Consumes b bytes c
consumes b c l bytes e is same = record {
  built = is;
  text = ap lines_text same ∙ lines_push (lines_of b) l ∙ ap (λ t. read_text b ++ ended t) (sym e);
}
