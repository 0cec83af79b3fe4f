-- What is read from the left: each field in its turn, up to the first that fails.
use Rattle.std.proofs.Common.{◌≡◌, ℕ, Bool, true, false, ◌||◌, List, [], ◌∷◌, ◌++◌, Option, Some, None, is_some, Result, Ok, Err, refl, sym, ap, ◌∙◌, append_assoc}
use Rattle.term_text.specs.declared.cause.TextCause.{TextCause}
use Rattle.term_text.specs.declared.cause.TextCause.TheVariants.{BadLine}
use Rattle.sym_terms.specs.Plain.{PlainSum}
use Rattle.graph_data.specs.Parts.{Each}
use Rattle.std.specs.List.{list_any}
use Rattle.graph_lines.specs.declared.line.Line.{Line}
use Rattle.graph_lines.specs.declared.line.Line.TheVariants as line
use Rattle.graph_lines.specs.declared.line.VertexLine.TheVariants as in_vertex
use Rattle.graph_lines.specs.declared.line_kind.VertexLineKind.TheVariants as vertex_kind
use Rattle.graph_lines.specs.Words.{fields}
use Rattle.graph_lines.specs.Line.{is_entry_value, IsEntry, IsGiven}
use Rattle.term_text.specs.Bind.{◌>>=◌}
use Rattle.graph_lines.specs.Syntax.{each_at, given_at, givens_at}
use Rattle.graph_lines.specs.Steps.{each_read, given_of, entry_of, loose_vertex_line}
use Rattle.graph_lines.specs.Reading.{and_then, or_bad_line}

pub and_then_twice : {A B C : Type 0} (r : Result A TextCause) (f : A → Result B TextCause) (g : B → Result C TextCause) → and_then (and_then r f) g ≡ and_then r (λ x. and_then (f x) g)
and_then_twice (Ok x) f g = refl
and_then_twice (Err e) f g = refl

-- those that were read before, before
abbrev pub read_prefix : {A : Type 0} → List A → Result (List A) TextCause → Result (List A) TextCause
read_prefix xs r = and_then r (λ ys. Ok (xs ++ ys))

push_prefix : {A : Type 0} (xs : List A) (x : A) (r : Result (List A) TextCause) → read_prefix (xs ++ x ∷ []) r ≡ read_prefix xs (and_then r (λ ys. Ok (x ∷ ys)))
push_prefix xs x (Ok ys) = ap Ok (append_assoc xs (x ∷ []) ys)
push_prefix xs x (Err e) = refl

-- one more was read
pub read_more : {A B : Type 0} (read : A → Result B TextCause) (xs new : List B) (ws more : List A) (w : A) (x : B) (all : Result (List B) TextCause) → new ≡ xs ++ x ∷ [] → ws ≡ w ∷ more → read w ≡ Ok x
    → read_prefix xs (each_read read ws) ≡ all → read_prefix new (each_read read more) ≡ all
read_more read xs new ws more w x all n e is so_far =
    ap (λ l. read_prefix l (each_read read more)) n
    ∙ push_prefix xs x (each_read read more)
    ∙ ap (λ r. read_prefix xs (and_then r (λ y. and_then (each_read read more) (λ ys. Ok (y ∷ ys))))) (sym is)
    ∙ ap (λ vs. read_prefix xs (each_read read vs)) (sym e) ∙ so_far

-- ---- registers

-- entries that have their form are read from their parts
entries_read : (ws : List (List ℕ)) (f : List (ℕ × Option PlainSum) → Result Line TextCause) → is_some (each_at given_at ws) ≡ true
    → or_bad_line (each_at given_at ws) (λ loose. and_then (each_read given_of loose) f) ≡ and_then (each_read entry_of ws) f
entries_read [] f e = refl
entries_read (w ∷ ws) f e = by_first (given_at w) (each_at given_at ws) e (λ g h. entries_read ws g h)
  where
    by_value : (loose : List (ℕ × List ℕ)) (first : Result (ℕ × Option PlainSum) TextCause)
        → ((g : List (ℕ × Option PlainSum) → Result Line TextCause) → and_then (each_read given_of loose) g ≡ and_then (each_read entry_of ws) g)
        → and_then (and_then first (λ y. and_then (each_read given_of loose) (λ ys. Ok (y ∷ ys)))) f
        ≡ and_then (and_then first (λ y. and_then (each_read entry_of ws) (λ ys. Ok (y ∷ ys)))) f
    by_value loose (Err c) more = refl
    by_value loose (Ok y) more = and_then_twice (each_read given_of loose) (λ ys. Ok (y ∷ ys)) f ∙ more (λ ys. f (y ∷ ys)) ∙ sym (and_then_twice (each_read entry_of ws) (λ ys. Ok (y ∷ ys)) f)

    by_first : (first : Option (ℕ × List ℕ)) (o : Option (List (ℕ × List ℕ)))
        → is_some (first >>= λ x. o >>= λ xs. Some (x ∷ xs)) ≡ true
        → ((g : List (ℕ × Option PlainSum) → Result Line TextCause) → is_some o ≡ true → or_bad_line o (λ loose. and_then (each_read given_of loose) g) ≡ and_then (each_read entry_of ws) g)
        → or_bad_line (first >>= λ x. o >>= λ xs. Some (x ∷ xs)) (λ loose. and_then (each_read given_of loose) f)
        ≡ and_then (and_then (or_bad_line first given_of) (λ y. and_then (each_read entry_of ws) (λ ys. Ok (y ∷ ys)))) f
    by_first None o e more = absurd (cc)
    by_first (Some x) None e more = absurd (cc)
    by_first (Some x) (Some xs) e more = by_value xs (given_of x) (λ g. more g refl)

pub registers_is : (rest : List ℕ) → is_some (givens_at rest) ≡ true → and_then (each_read entry_of (fields 32 rest)) (λ given. Ok (line.InVertex (in_vertex.Registers given))) ≡ loose_vertex_line vertex_kind.Registers rest
unfolding loose_vertex_line givens_at
registers_is rest e = sym (entries_read (fields 32 rest) (λ given. Ok (line.InVertex (in_vertex.Registers given))) e)

pub registers_fail : (rest : List ℕ) → is_some (givens_at rest) ≡ false → loose_vertex_line vertex_kind.Registers rest ≡ Err BadLine
unfolding loose_vertex_line
registers_fail rest e = by_form (givens_at rest) e
  where
    by_form : (o : Option (List (ℕ × List ℕ))) → is_some o ≡ false → or_bad_line o (λ loose. and_then (each_read given_of loose) (λ given. Ok (line.InVertex (in_vertex.Registers given)))) ≡ Err BadLine
    by_form None e = refl
    by_form (Some x) e = absurd (cc)

pub givens_are : (gs : List (ℕ × Option PlainSum)) → Each IsEntry gs → list_any is_entry_value gs ≡ false → Each IsGiven gs
givens_are [] all none = tt
givens_are (g ∷ gs) all none =
    let h = or_parts (is_entry_value g) (list_any is_entry_value gs) none in
    (record { register = all.0.0; value = all.0.1; other = h.0 }, givens_are gs all.1 h.1)
  where
    or_parts : (a b : Bool) → (a || b) ≡ false → (a ≡ false) × (b ≡ false)
    or_parts true b e = absurd (cc)
    or_parts false b e = (refl, e)
