-- The fields of a text, which are its lines.
use Rattle.std.proofs.Common.{◌≡◌, ℕ, ◌+◌, ◌≤◌, Bool, true, false, eqb, Option, List, [], ◌∷◌, ◌++◌, length, append_assoc, Some, None, refl, sym, ap, ◌∙◌, arith}
use Rattle.std.specs.Prelude.{◌==◌, nat_le, if◌then◌else◌}
use Rattle.std.specs.Option.{option_map}
use Rattle.std.specs.declared.result.Result.{Result}
use Rattle.std.specs.declared.result.Result.TheVariants.{Ok}
use Rattle.std.proofs.lemmas.Bool.{and_parts, ne_eqb, eqb-true, leb-true}
use Rattle.graph_lines.specs.Words.{split_at, fields, in_first_field, is_printable, are_printable}
use Rattle.graph_builder.specs.declared.builder.Builder.{Builder}
use Rattle.graph_text.specs.Text.{ended}
use Rattle.graph_text.specs.Reading.{head_taken, line_taken, at_line, run, run_text}

-- ---- the fields of a text

first_cons : (b : ℕ) (w : List ℕ) (ws rest : List (List ℕ)) → rest ≡ w ∷ ws → in_first_field b rest ≡ (b ∷ w) ∷ ws
first_cons b w ws rest e = ap (in_first_field b) e

not_feed : (b : ℕ) → is_printable b ≡ true → (b == 10) ≡ false
not_feed b e = ne_eqb b 10 (λ same. omega (arith, same, leb-true 32 b (and_parts (nat_le 32 b) (nat_le b 126) e).0))

-- printable bytes with a line feed are the first field
pub fields_ended : (w rest : List ℕ) → are_printable w ≡ true → fields 10 (w ++ 10 ∷ rest) ≡ w ∷ fields 10 rest
fields_ended [] rest e = refl
fields_ended (b ∷ w) rest e =
    let parts = and_parts (is_printable b) (are_printable w) e in
    rw (not_feed b parts.0) (first_cons b w (fields 10 rest) (fields 10 (w ++ 10 ∷ rest)) (fields_ended w rest parts.1))

in_first_field_some : (b : ℕ) (ws : List (List ℕ)) → 1 ≤ length (in_first_field b ws)
in_first_field_some b [] = omega arith
in_first_field_some b (w ∷ ws) = omega arith

some_by : (t : Bool) (b : ℕ) (bs : List ℕ) → 1 ≤ length (if t then [] ∷ fields 10 bs else in_first_field b (fields 10 bs))
some_by true b bs = omega arith
some_by false b bs = in_first_field_some b (fields 10 bs)

pub fields_some : (bytes : List ℕ) → 1 ≤ length (fields 10 bytes)
fields_some [] = omega arith
fields_some (b ∷ bs) = some_by (b == 10) b bs

-- ---- one line more

pub run_by : (n : ℕ) (r s : Builder) (bytes : List ℕ) (ws : List (List ℕ)) → 1 ≤ length ws → line_taken r bytes ≡ Ok s → run n r (bytes ∷ ws) ≡ run (n + 1) s ws
run_by n r s bytes [] h e = absurd (omega arith)
run_by n r s bytes (w ∷ ws) h e = ap (λ o. at_line n o (λ s. run (n + 1) s (w ∷ ws))) e

pub head_by : (s : Builder) (bytes : List ℕ) (ws : List (List ℕ)) → 1 ≤ length ws → head_taken bytes ≡ Ok s → run_text (bytes ∷ ws) ≡ run 2 s ws
head_by s bytes [] h e = absurd (omega arith)
head_by s bytes (w ∷ ws) h e = ap (λ o. at_line 1 o (λ s. run 2 s (w ∷ ws))) e

-- a line that is taken, and the lines after it
pub run_more : (n : ℕ) (r s : Builder) (w rest : List ℕ) → are_printable w ≡ true → line_taken r w ≡ Ok s
    → run n r (fields 10 (ended w ++ rest)) ≡ run (n + 1) s (fields 10 rest)
run_more n r s w rest e f =
    ap (λ t. run n r (fields 10 t)) (append_assoc w (10 ∷ []) rest)
    ∙ ap (run n r) (fields_ended w rest e)
    ∙ run_by n r s w (fields 10 rest) (fields_some rest) f

-- ---- where a text is parted

-- the parts, by whether a byte is the separator, and the parts of what is after it
abbrev parts_by : ℕ → List ℕ → Bool → Option (List ℕ × List ℕ) → Option (List ℕ × List ℕ)
parts_by b bs t o = if t then Some ([], bs) else option_map (λ p. (b ∷ p.0, p.1)) o

split_by : (separator b : ℕ) (bs w r : List ℕ) (t : Bool) (o : Option (List ℕ × List ℕ)) → eqb b separator ≡ t
    → ((v : List ℕ) → o ≡ Some (v, r) → bs ≡ v ++ separator ∷ r)
    → parts_by b bs t o ≡ Some (w, r) → b ∷ bs ≡ w ++ separator ∷ r
split_by separator b bs w r true o t more e =
    let f : ([], bs) ≡ (w, r) = cc in
    ap (λ c. c ∷ bs) (eqb-true b separator t) ∙ ap (λ (q : List ℕ × List ℕ). q.0 ++ separator ∷ q.1) f
split_by separator b bs w r false None t more e = absurd (cc)
split_by separator b bs w r false (Some p) t more e =
    let f : (b ∷ p.0, p.1) ≡ (w, r) = cc in
    let g : p.1 ≡ r = ap (λ (q : List ℕ × List ℕ). q.1) f in
    ap (λ x. b ∷ x) (more p.0 (ap (λ q. Some (p.0, q)) g)) ∙ ap (λ (q : List ℕ × List ℕ). q.0 ++ separator ∷ r) f

-- a line, its line feed, and what is after it
pub split_is : (separator : ℕ) (bytes w r : List ℕ) → split_at separator bytes ≡ Some (w, r) → bytes ≡ w ++ separator ∷ r
split_is separator [] w r e = absurd (cc)
split_is separator (b ∷ bs) w r e = split_by separator b bs w r (eqb b separator) (split_at separator bs) refl (λ v h. split_is separator bs v r h) e
