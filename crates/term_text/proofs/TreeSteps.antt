-- What the parser does with signs, words and brackets.
use Rattle.std.proofs.Common.{◌≡◌, ℕ, Bool, false, List, [], ◌∷◌, ◌++◌, Option, Some, None, refl, sym, ap, subst, ◌∙◌, append_assoc}
use Rattle.sym_terms.specs.declared.kinds.Fit.{Fit}
use Rattle.sym_terms.specs.declared.kinds.Pair.{Pair}
use Rattle.sym_terms.specs.declared.kinds.Sym.{Sym}
use Rattle.sym_terms.specs.Plain.{PlainSum, sum, none, symbol, single_atom}
use Rattle.term_text.specs.declared.parser.PendingArgument.{PendingArgument}
use Rattle.term_text.specs.declared.parser.PendingArgument.TheVariants as pending
use Rattle.term_text.specs.declared.parser.OpenCall.{OpenCall}
use Rattle.term_text.specs.declared.parser.ParseState.{ParseState}
use Rattle.term_text.specs.declared.parser.ParseState.TheVariants.{Start, Signed, Counted, Closed}
use Rattle.term_text.specs.Numbers.{number_at}
use Rattle.term_text.specs.Names.{keyword_at}
use Rattle.term_text.specs.Tree.{Sign, positive, negative, LoosePieces, no_piece, one_piece, sign_word, SpellsFirst, SpellsPieces, sign_or_plus}
use Rattle.term_text.specs.Parser.{one_more, zero_term, signed, total, fitted_of, paired_of, coefficient, is_counted, call_for, take_word, with_count, pending_for, open_call, comma, close, take_separator, step, run}
use Rattle.term_text.proofs.RunLemmas.{run_separator, last_of_push}
use Rattle.term_text.proofs.NumberLemmas.{AreWord}
use Rattle.term_text.proofs.StepLemmas.{at, run_words, Stops}
use Rattle.term_text.proofs.SpellLemmas.{IsTakenAs}
use Rattle.term_text.proofs.CountLemmas.{is_minus}

-- ---- signs

-- where the parser is after an optional sign
abbrev pub first_state : Option Sign → ParseState
first_state None = Start
first_state (Some sign) = Signed

-- an optional sign
pub first_runs : (first : Option Sign) (x : List ℕ) (fs : List OpenCall) (s : PlainSum) (n : ℕ) (rest : List ℕ) → SpellsFirst first x
    → run (at fs s n false Start) [] (x ++ rest) ≡ run (at fs s n (is_minus (sign_or_plus first)) (first_state first)) [] rest
unfolding step
first_runs None x fs s n rest h = ap (λ w. run (at fs s n false Start) [] (w ++ rest)) h
first_runs (Some positive) x fs s n rest h = ap (λ w. run (at fs s n false Start) [] (w ++ rest)) h
first_runs (Some negative) x fs s n rest h = ap (λ w. run (at fs s n false Start) [] (w ++ rest)) h

-- after it an atom counts once
pub first_once : (first : Option Sign) → coefficient (first_state first) ≡ Some 1
first_once None = refl
first_once (Some sign) = refl

-- and a number may stand
pub first_uncounted : (first : Option Sign) → is_counted (first_state first) ≡ false
first_uncounted None = refl
first_uncounted (Some sign) = refl

-- the sign of a later piece
pub sign_runs : (sign : Sign) (fs : List OpenCall) (s : PlainSum) (n : ℕ) (rest : List ℕ)
    → run (at fs s n false Closed) [] (sign_word sign ++ rest) ≡ run (at fs s n (is_minus sign) Signed) [] rest
unfolding step take_word take_separator
sign_runs positive fs s n rest = refl
sign_runs negative fs s n rest = refl

-- it is a separator that ends a piece
pub sign_stops : (sign : Sign) (rest : List ℕ) → Stops (sign_word sign ++ rest)
sign_stops positive rest = record { no_word = refl; no_star = refl; no_open = refl }
sign_stops negative rest = record { no_word = refl; no_star = refl; no_open = refl }

-- ---- words and brackets

-- two parts and what is after them
pub grouped : (bytes x y rest : List ℕ) → bytes ≡ x ++ y → bytes ++ rest ≡ x ++ (y ++ rest)
grouped bytes x y rest e = ap (λ w. w ++ rest) e ∙ append_assoc x y rest

-- later pieces begin with such a separator
pub more_stop : (ps : LoosePieces) (x rest : List ℕ) → SpellsPieces ps x → Stops rest → Stops (x ++ rest)
more_stop no_piece x rest h stops = subst (λ w. Stops (w ++ rest)) (sym h) stops
more_stop (one_piece sign p ps) x rest h stops =
    subst Stops (sym (grouped x h.0 h.1 rest h.2 ∙ ap (λ w. w ++ (h.1 ++ rest)) h.3)) (sign_stops sign (h.1 ++ rest))

-- a number is taken
pub number_taken : (fs : List OpenCall) (s : PlainSum) (n : ℕ) (b : Bool) (q : ParseState) (k : ℕ) (w : List ℕ) (v : ℕ)
    → coefficient q ≡ Some k → is_counted q ≡ false → number_at w ≡ Some v
    → take_word (at fs s n b q) w ≡ Some (at fs (total n s 1 (sum (signed b v) none)) n false Closed)
unfolding take_word
number_taken fs s n b q k w v e u i = rw (e, i, u) refl

-- a symbol is taken
pub symbol_taken : (fs : List OpenCall) (s : PlainSum) (n : ℕ) (b : Bool) (q : ParseState) (k : ℕ) (w : List ℕ) (y : Sym)
    → coefficient q ≡ Some k → IsTakenAs y w
    → take_word (at fs s n b q) w ≡ Some (at fs (total (one_more n) s (signed b k) (single_atom (symbol y))) (one_more n) false Closed)
unfolding take_word
symbol_taken fs s n b q k w y e taken = rw (e, taken.none, taken.reads) refl

-- a number and its star
pub star_runs : (fs : List OpenCall) (s : PlainSum) (n : ℕ) (b : Bool) (q : ParseState) (k : ℕ) (w : List ℕ) (v : ℕ) (rest : List ℕ)
    → coefficient q ≡ Some k → is_counted q ≡ false → number_at w ≡ Some v
    → run (at fs s n b q) w (42 ∷ rest) ≡ run (at fs s n b (Counted v)) [] rest
unfolding step with_count
star_runs fs s n b q k w v rest e u i = run_separator (at fs s n b q) w rest 42 refl ∙ rw (u, e, i) refl

-- a name and its bracket
pub name_runs : (fs : List OpenCall) (s : PlainSum) (n : ℕ) (b : Bool) (q : ParseState) (k : ℕ) (w rest : List ℕ) (x : PendingArgument)
    → AreWord w → coefficient q ≡ Some k → pending_for (keyword_at w) ≡ Some x
    → run (at fs s n b q) [] (w ++ 40 ∷ rest) ≡ run (at (fs ++ call_for x s (signed b k) ∷ []) zero_term (one_more (one_more n)) false Start) [] rest
unfolding step open_call
name_runs fs s n b q k w rest x word e h =
    run_words (at fs s n b q) [] w (40 ∷ rest) word ∙ run_separator (at fs s n b q) w rest 40 refl ∙ rw (e, h) refl

-- the bracket after a fit
pub fit_closes : (fs : List OpenCall) (s : PlainSum) (n : ℕ) (f : Fit) (a : PlainSum) (k : ℕ) (rest : List ℕ)
    → run (at (fs ++ call_for (pending.Fit f) s k ∷ []) a n false Closed) [] (41 ∷ rest) ≡ run (at fs (total n s k (fitted_of n f a)) n false Closed) [] rest
unfolding step take_word take_separator close
fit_closes fs s n f a k rest = rw (last_of_push fs (call_for (pending.Fit f) s k)) refl

-- the bracket after a pair
pub pair_closes : (fs : List OpenCall) (s : PlainSum) (n : ℕ) (p : Pair) (a b : PlainSum) (k : ℕ) (rest : List ℕ)
    → run (at (fs ++ call_for (pending.Second p a) s k ∷ []) b n false Closed) [] (41 ∷ rest) ≡ run (at fs (total n s k (paired_of n p a b)) n false Closed) [] rest
unfolding step take_word take_separator close
pair_closes fs s n p a b k rest = rw (last_of_push fs (call_for (pending.Second p a) s k)) refl

-- the comma of a pair
pub comma_runs : (fs : List OpenCall) (s : PlainSum) (n : ℕ) (p : Pair) (a : PlainSum) (k : ℕ) (rest : List ℕ)
    → run (at (fs ++ call_for (pending.First p) s k ∷ []) a n false Closed) [] (44 ∷ rest) ≡ run (at (fs ++ call_for (pending.Second p a) s k ∷ []) zero_term (one_more n) false Start) [] rest
unfolding step take_word take_separator comma
comma_runs fs s n p a k rest = rw (last_of_push fs (call_for (pending.First p) s k)) refl
