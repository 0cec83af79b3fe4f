-- The text of lines one after another, and what a loop over registers keeps as it writes them.
use Rattle.std.proofs.Common.{◌≡◌, ℕ, ◌+◌, ◌<◌, length, drop, get_or, cond, Bool, true, false, not, Option, List, [], ◌∷◌, ◌++◌, append_assoc, codes, filter, map, refl, sym, ap, ◌∙◌}
use Rattle.std.specs.List.{enumerate_from}
use Rattle.std.specs.Prelude.{if◌then◌else◌}
use Rattle.std.proofs.lemmas.List.{append-nil, drop_more}
use Rattle.sym_terms.specs.Plain.{PlainSum}
use Rattle.graph_lines.specs.declared.line.Line.{Line}
use Rattle.graph_lines.specs.Words.{joined}
use Rattle.graph_lines.specs.Line.{is_entry_value}
use Rattle.graph_lines.specs.Text.{line_text, given_text}
use Rattle.graph_lines.proofs.PutLemmas.{to_write}
use Rattle.graph_text.specs.Text.{ended, lines_text}
use Rattle.graph_builder.specs.Lines.{registers_lines}

-- lines one after another
pub lines_append : (ls ms : List Line) → lines_text (ls ++ ms) ≡ lines_text ls ++ lines_text ms
lines_append [] ms = refl
lines_append (l ∷ ls) ms = ap (λ t. ended (line_text l) ++ t) (lines_append ls ms) ∙ sym (append_assoc (ended (line_text l)) (lines_text ls) (lines_text ms))

-- the registers from a number on that aren't their own entry symbol
abbrev pub given_from : ℕ → List (Option PlainSum) → List (ℕ × Option PlainSum)
given_from n regs = filter (λ given. not (is_entry_value given)) (enumerate_from n regs)

-- what is still to be written of them, with the line feed
abbrev pub to_give : Bool → List (ℕ × Option PlainSum) → List ℕ
to_give true given = lines_text (registers_lines given)
to_give false given = to_write false 32 (map given_text given) ++ 10 ∷ []

joined_more : (mark : ℕ) (w : List ℕ) (ws : List (List ℕ)) → joined mark (w ∷ ws) ≡ w ++ to_write false mark ws
joined_more mark w [] = sym (append-nil w)
joined_more mark w (v ∷ vs) = refl

-- one register more
pub give_first : (g : ℕ × Option PlainSum) (given : List (ℕ × Option PlainSum)) → to_give true (g ∷ given) ≡ (codes "r " ++ given_text g) ++ to_give false given
give_first g given =
    append-nil _
    ∙ ap (λ t. (codes "r " ++ t) ++ 10 ∷ []) (joined_more 32 (given_text g) (map given_text given))
    ∙ ap (λ t. codes "r " ++ t) (append_assoc (given_text g) (to_write false 32 (map given_text given)) (10 ∷ []))

pub give_next : (g : ℕ × Option PlainSum) (given : List (ℕ × Option PlainSum)) → to_give false (g ∷ given) ≡ (codes " " ++ given_text g) ++ to_give false given
give_next g given =
    ap (λ t. (32 ∷ t) ++ 10 ∷ []) (joined_more 32 (given_text g) (map given_text given))
    ∙ ap (λ t. 32 ∷ t) (append_assoc (given_text g) (to_write false 32 (map given_text given)) (10 ∷ []))

give_either : (first : Bool) (g : ℕ × Option PlainSum) (given : List (ℕ × Option PlainSum))
    → to_give first (g ∷ given) ≡ ((if first then codes "r " else codes " ") ++ given_text g) ++ to_give false given
give_either true g given = give_first g given
give_either false g given = give_next g given

-- the registers from one on are that one and those after it
given_at : (n : ℕ) (regs : List (Option PlainSum)) (v : Option PlainSum) → n < length regs → v ≡ get_or regs n v
    → given_from n (drop n regs) ≡ given_from n (v ∷ drop (n + 1) regs)
given_at n regs v h e = ap (given_from n) (drop_more regs n v h ∙ ap (λ x. x ∷ drop (n + 1) regs) (sym e))

given_by : (b : Bool) (n : ℕ) (v : Option PlainSum) (vs : List (Option PlainSum)) → is_entry_value (n, v) ≡ b
    → given_from n (v ∷ vs) ≡ cond (not b) ((n, v) ∷ given_from (n + 1) vs) (given_from (n + 1) vs)
given_by b n v vs e = ap (λ t. cond (not t) ((n, v) ∷ given_from (n + 1) vs) (given_from (n + 1) vs)) e

-- a register that is its own entry symbol isn't written
pub own_step : (n : ℕ) (regs : List (Option PlainSum)) (v : Option PlainSum) (first now : Bool) (out more all : List ℕ)
    → n < length regs → v ≡ get_or regs n v → is_entry_value (n, v) ≡ true → out ++ to_give first (given_from n (drop n regs)) ≡ all
    → more ≡ out → now ≡ first → more ++ to_give now (given_from (n + 1) (drop (n + 1) regs)) ≡ all
own_step n regs v first now out more all h e own kept m f =
    ap (λ o. o ++ to_give now (given_from (n + 1) (drop (n + 1) regs))) m
    ∙ ap (λ b. out ++ to_give b (given_from (n + 1) (drop (n + 1) regs))) f
    ∙ ap (λ g. out ++ to_give first g) (sym (given_at n regs v h e ∙ given_by true n v (drop (n + 1) regs) own))
    ∙ kept

-- another one is
pub other_step : (n : ℕ) (regs : List (Option PlainSum)) (v : Option PlainSum) (first now : Bool) (out more all : List ℕ)
    → n < length regs → v ≡ get_or regs n v → is_entry_value (n, v) ≡ false → out ++ to_give first (given_from n (drop n regs)) ≡ all
    → more ≡ out ++ ((if first then codes "r " else codes " ") ++ given_text (n, v)) → now ≡ false
    → more ++ to_give now (given_from (n + 1) (drop (n + 1) regs)) ≡ all
other_step n regs v first now out more all h e own kept m f =
    let rest = given_from (n + 1) (drop (n + 1) regs) in
    ap (λ o. o ++ to_give now rest) m
    ∙ ap (λ b. (out ++ ((if first then codes "r " else codes " ") ++ given_text (n, v))) ++ to_give b rest) f
    ∙ append_assoc out ((if first then codes "r " else codes " ") ++ given_text (n, v)) (to_give false rest)
    ∙ ap (λ t. out ++ t) (sym (give_either first (n, v) rest))
    ∙ ap (λ g. out ++ to_give first g) (sym (given_at n regs v h e ∙ given_by false n v (drop (n + 1) regs) own))
    ∙ kept
