-- The parser in a state, words that it collects, and separators that end a piece.
use Rattle.std.proofs.Common.{◌≡◌, ℕ, ◌<◌, ◌≤◌, Bool, true, false, ◌&&◌, ◌||◌, eqb, List, [], ◌∷◌, ◌++◌, length, Option, Some, inl, inr, refl, sym, ap, ◌∙◌, append_assoc, arith}
use Rattle.std.proofs.lemmas.Bool.{eqb-true, cases_Bool}
use Rattle.std.proofs.lemmas.List.{append-nil}
use Rattle.sym_terms.specs.Plain.{PlainSum, sum}
use Rattle.sym_terms.specs.Nodes.{nodes}
use Rattle.term_text.specs.declared.parser.OpenCall.{OpenCall}
use Rattle.term_text.specs.declared.parser.ParseState.{ParseState}
use Rattle.term_text.specs.declared.parser.ParseState.TheVariants.{Closed}
use Rattle.term_text.specs.declared.parser.TermParser.{TermParser}
use Rattle.term_text.specs.Names.{is_word_byte}
use Rattle.term_text.specs.Bind.{◌>>=◌}
use Rattle.term_text.specs.Parser.{is_start, take_word, take_separator, step, finish, run}
use Rattle.term_text.proofs.RunLemmas.{run_word, run_separator}
use Rattle.term_text.proofs.NumberLemmas.{AreWord}

-- a parser in a given state
abbrev pub at : List OpenCall → PlainSum → ℕ → Bool → ParseState → TermParser
at fs s n b p = record { calls = fs; sum = s; count = n; negative = b; state = p }

-- the bytes of a word are collected
pub run_words : (m : TermParser) (v w rest : List ℕ) → AreWord w → run m v (w ++ rest) ≡ run m (v ++ w) rest
run_words m v [] rest all = ap (λ (x : List ℕ). run m x rest) (sym (append-nil v))
run_words m v (b ∷ w) rest all = run_word m v (w ++ rest) b all.0 ∙ run_words m (v ++ b ∷ []) w rest all.1 ∙ ap (λ (x : List ℕ). run m x rest) (append_assoc v (b ∷ []) w)

-- a separator that ends a piece
pub record IsStop (b : ℕ) : Type 0 where
  pub no_word : is_word_byte b ≡ false
  pub no_star : eqb b 42 ≡ false
  pub no_open : eqb b 40 ≡ false

-- such a separator, or the end
abbrev pub Stops : List ℕ → Type 0
Stops [] = Unit {0}
Stops (b ∷ bs) = IsStop b

-- what a step does at such a separator after a piece
at_stop : (m n : TermParser) (w : List ℕ) (b : ℕ) → IsStop b
    → (is_start m.state && (eqb (length w) 0 && (eqb b 43 || eqb b 45))) ≡ false → take_word m w ≡ Some n
    → step m w b ≡ take_separator n b
unfolding step
at_stop m n w b stop no_sign e = rw (stop.no_star, stop.no_open, no_sign, e) refl

-- after a piece there is no word
closed_takes : (fs : List OpenCall) (s : PlainSum) (n : ℕ) (b : Bool)
    → take_word (at fs s n b Closed) [] ≡ Some (at fs s n b Closed)
unfolding take_word
closed_takes fs s n b = refl

-- three hold together only where the second does
and_false : (a b c : Bool) → b ≡ false → (a && (b && c)) ≡ false
and_false true b c e = rw e refl
and_false false b c e = refl

-- the word before such a separator, or before the end
pub stop_word : (m : TermParser) (w rest : List ℕ) (fs : List OpenCall) (s : PlainSum) (k : ℕ) → eqb (length w) 0 ≡ false
    → take_word m w ≡ Some (at fs s k false Closed) → Stops rest
    → run m w rest ≡ run (at fs s k false Closed) [] rest
unfolding finish
stop_word m w [] fs s k word e stops = rw (e, closed_takes fs s k false) refl
stop_word m w (b ∷ bs) fs s k word e stops =
    let n = at fs s k false Closed in
    run_separator m w bs b stops.no_word
    ∙ ap (λ (o : Option TermParser). o >>= λ x. run x [] bs) (at_stop m n w b stops (and_false (is_start m.state) (eqb (length w) 0) (eqb b 43 || eqb b 45) word) e ∙ sym (at_stop n n [] b stops refl (closed_takes fs s k false)))
    ∙ sym (run_separator n [] bs b stops.no_word)

-- a word that is not empty
pub not_empty : (w : List ℕ) → 0 < length w → eqb (length w) 0 ≡ false
not_empty w lt = elim (cases_Bool (eqb (length w) 0)) [ inl is ↦ absurd (let e = eqb-true (length w) 0 is in omega arith) | inr other ↦ other ]

-- a closing bracket is such a separator
pub stop41 : IsStop 41
stop41 = record { no_word = refl; no_star = refl; no_open = refl }

-- so is a comma
pub stop44 : IsStop 44
stop44 = record { no_word = refl; no_star = refl; no_open = refl }

-- a term has a node
pub nodes_pos : (a : PlainSum) → 1 ≤ nodes a
nodes_pos (sum c xs) = omega arith
