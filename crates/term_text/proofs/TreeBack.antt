-- What the parser accepts, some tree spells.
use Rattle.std.proofs.Common.{◌≡◌, ℕ, Bool, true, false, ◌&&◌, ◌||◌, eqb, if◌then◌else◌, List, [], ◌∷◌, ◌++◌, length, Option, Some, None, refl, sym, ap, subst, ◌∙◌, append_assoc, arith}
use Rattle.std.specs.Prelude.{IfSome}
use Rattle.std.proofs.lemmas.Bool.{eqb-true}
use Rattle.std.proofs.lemmas.List.{append-nil, length-append}
use Rattle.sym_terms.specs.Plain.{PlainSum}
use Rattle.term_text.specs.declared.names.Keyword.{Keyword}
use Rattle.term_text.specs.declared.names.Keyword.TheVariants as word
use Rattle.term_text.specs.declared.parser.PendingArgument.{PendingArgument}
use Rattle.term_text.specs.declared.parser.PendingArgument.TheVariants as pending
use Rattle.term_text.specs.declared.parser.OpenCall.{OpenCall}
use Rattle.term_text.specs.declared.parser.ParseState.{ParseState}
use Rattle.term_text.specs.declared.parser.ParseState.TheVariants.{Start, Signed, Counted, Closed}
use Rattle.term_text.specs.declared.parser.TermParser.{TermParser}
use Rattle.term_text.specs.Bind.{◌>>=◌}
use Rattle.term_text.specs.Numbers.{number_at}
use Rattle.term_text.specs.Names.{is_word_byte, name_of, keyword_at}
use Rattle.term_text.specs.Tree.{Sign, positive, negative, LooseTerm, no_piece, sign_word, SpellsTerm}
use Rattle.term_text.specs.Parser.{signed, one_more, coefficient, is_counted, is_start, start, last_of, inner, call_for, take_word, turn, counted, with_count, pending_for, open_call, second_of, comma, closed_at, close, take_separator, is_sign, step, finish, run}
use Rattle.term_text.proofs.RunLemmas.{last_of_push}
use Rattle.term_text.proofs.SpellLemmas.{keyword_is}
use Rattle.term_text.proofs.RestLemmas.{EndsCall, GoesOn, IsRest, unwound, Resumes, starts, more_pieces, multiple_piece, fit_atom, pair_atom, empty_is, word_back}

-- ---- separators

-- a number and a star
star_back : (rs : List OpenCall) (m n : TermParser) (w bs : List ℕ) → m.calls ≡ unwound rs → with_count m w ≡ Some n → Resumes bs n
    → IsRest rs m.state (w ++ 42 ∷ bs)
unfolding with_count
star_back rs m n w bs calls e rest = by_counted (is_counted m.state) refl e
  where
    by_number : (k : ℕ) (o : Option ℕ) → coefficient m.state ≡ Some k → is_counted m.state ≡ false → number_at w ≡ o
        → (o >>= λ v. Some (counted m v)) ≡ Some n → IsRest rs m.state (w ++ 42 ∷ bs)
    by_number k None c u i e = absurd (cc)
    by_number k (Some v) c u i e =
        let same : counted m v ≡ n = cc in
        let resumes : Resumes bs (counted m v) = subst (Resumes bs) (sym same) rest in
        multiple_piece rs m.state k v w bs c u i (resumes rs calls)

    by_state : (o : Option ℕ) → coefficient m.state ≡ o → is_counted m.state ≡ false
        → (o >>= λ k. number_at w >>= λ v. Some (counted m v)) ≡ Some n → IsRest rs m.state (w ++ 42 ∷ bs)
    by_state None c u e = absurd (cc)
    by_state (Some k) c u e = by_number k (number_at w) c u refl e

    by_counted : (b : Bool) → is_counted m.state ≡ b
        → (if b then None else (coefficient m.state >>= λ k. number_at w >>= λ v. Some (counted m v))) ≡ Some n
        → IsRest rs m.state (w ++ 42 ∷ bs)
    by_counted true u e = absurd (cc)
    by_counted false u e = by_state (coefficient m.state) refl u e

-- a name and an open bracket
open_back : (rs : List OpenCall) (m n : TermParser) (w bs : List ℕ) → m.calls ≡ unwound rs → open_call m w ≡ Some n → Resumes bs n
    → IsRest rs m.state (w ++ 40 ∷ bs)
unfolding open_call
open_back rs m n w bs calls e rest = by_state (coefficient m.state) refl e
  where
    opened : ℕ → PendingArgument → TermParser
    opened k x = inner (m.calls ++ call_for x m.sum (signed m.negative k) ∷ []) (one_more (one_more m.count))

    inside : (k : ℕ) (x : PendingArgument) → Some (opened k x) ≡ Some n → IsRest (call_for x m.sum (signed m.negative k) ∷ rs) Start bs
    inside k x e =
        let same : opened k x ≡ n = cc in
        let resumes : Resumes bs (opened k x) = subst (Resumes bs) (sym same) rest in
        let f = call_for x m.sum (signed m.negative k) in
        resumes (f ∷ rs) (ap (λ fs. fs ++ f ∷ []) calls)

    by_keyword : (k : ℕ) (o : Option Keyword) → coefficient m.state ≡ Some k → IfSome o (λ x. w ≡ name_of x)
        → (pending_for o >>= λ x. Some (opened k x)) ≡ Some n → IsRest rs m.state (w ++ 40 ∷ bs)
    by_keyword k None c is e = absurd (cc)
    by_keyword k (Some (word.Symbol s)) c is e = absurd (cc)
    by_keyword k (Some (word.Fit f)) c is e = fit_atom rs m.state k f w bs c is (inside k (pending.Fit f) e)
    by_keyword k (Some (word.Pair p)) c is e = pair_atom rs m.state k p w bs c is (inside k (pending.First p) e)

    by_state : (o : Option ℕ) → coefficient m.state ≡ o
        → (o >>= λ k. pending_for (keyword_at w) >>= λ x. Some (opened k x)) ≡ Some n → IsRest rs m.state (w ++ 40 ∷ bs)
    by_state None c e = absurd (cc)
    by_state (Some k) c e = by_keyword k (keyword_at w) c (keyword_is w) e

-- a comma
comma_back : (rs : List OpenCall) (m n : TermParser) (bs : List ℕ) → m.calls ≡ unwound rs → comma m ≡ Some n → Resumes bs n
    → GoesOn rs (44 ∷ bs)
unfolding comma
comma_back rs m n bs calls e rest =
    by_calls rs (subst (λ fs. (last_of fs >>= λ x. second_of m x.0 x.1.pending x.1.outer x.1.factor) ≡ Some n) calls e)
  where
    by_pending : (fs : List OpenCall) (x : PendingArgument) (outer : PlainSum) (k : ℕ) → second_of m (unwound fs) x outer k ≡ Some n
        → EndsCall x (GoesOn fs) (44 ∷ bs)
    by_pending fs (pending.Fit f) outer k e = absurd (cc)
    by_pending fs (pending.First p) outer k e =
        let f = call_for (pending.Second p m.sum) outer k in
        let same : inner (unwound fs ++ f ∷ []) (one_more m.count) ≡ n = cc in
        let resumes : Resumes bs (inner (unwound fs ++ f ∷ []) (one_more m.count)) = subst (Resumes bs) (sym same) rest in
        (44 ∷ [], bs, refl, refl, resumes (f ∷ fs) refl)
    by_pending fs (pending.Second p a) outer k e = absurd (cc)

    by_calls : (fs : List OpenCall) → (last_of (unwound fs) >>= λ x. second_of m x.0 x.1.pending x.1.outer x.1.factor) ≡ Some n
        → GoesOn fs (44 ∷ bs)
    by_calls [] e = absurd (cc)
    by_calls (f ∷ fs) e =
        let last = subst (λ o. (o >>= λ x. second_of m x.0 x.1.pending x.1.outer x.1.factor) ≡ Some n) (last_of_push (unwound fs) f) e in
        ([], 44 ∷ bs, refl, (no_piece, refl), by_pending fs f.pending f.outer f.factor last)

-- a closing bracket
close_back : (rs : List OpenCall) (m n : TermParser) (bs : List ℕ) → m.calls ≡ unwound rs → close m ≡ Some n → Resumes bs n
    → GoesOn rs (41 ∷ bs)
unfolding close
close_back rs m n bs calls e rest =
    by_calls rs (subst (λ fs. (last_of fs >>= λ x. closed_at m x.0 x.1.pending x.1.outer x.1.factor) ≡ Some n) calls e)
  where
    goes : (fs : List OpenCall) (x : TermParser) → x.calls ≡ unwound fs → x.state ≡ Closed → Some x ≡ Some n → GoesOn fs bs
    goes fs x c q e =
        let same : x ≡ n = cc in
        let resumes : Resumes bs x = subst (Resumes bs) (sym same) rest in
        subst (λ q. IsRest fs q bs) q (resumes fs c)

    by_pending : (fs : List OpenCall) (x : PendingArgument) (outer : PlainSum) (k : ℕ) → closed_at m (unwound fs) x outer k ≡ Some n
        → EndsCall x (GoesOn fs) (41 ∷ bs)
    by_pending fs (pending.Fit f) outer k e = (41 ∷ [], bs, refl, refl, goes fs _ refl refl e)
    by_pending fs (pending.First p) outer k e = absurd (cc)
    by_pending fs (pending.Second p a) outer k e = (41 ∷ [], bs, refl, refl, goes fs _ refl refl e)

    by_calls : (fs : List OpenCall) → (last_of (unwound fs) >>= λ x. closed_at m x.0 x.1.pending x.1.outer x.1.factor) ≡ Some n
        → GoesOn fs (41 ∷ bs)
    by_calls [] e = absurd (cc)
    by_calls (f ∷ fs) e =
        let last = subst (λ o. (o >>= λ x. closed_at m x.0 x.1.pending x.1.outer x.1.factor) ≡ Some n) (last_of_push (unwound fs) f) e in
        ([], 41 ∷ bs, refl, (no_piece, refl), by_pending fs f.pending f.outer f.factor last)

-- a sign after a piece
turn_back : (sign : Sign) (rs : List OpenCall) (m n : TermParser) (minus : Bool) (bs : List ℕ) → m.calls ≡ unwound rs
    → Some (turn m minus) ≡ Some n → Resumes bs n → GoesOn rs (sign_word sign ++ bs)
turn_back sign rs m n minus bs calls e rest =
    let same : turn m minus ≡ n = cc in
    let resumes : Resumes bs (turn m minus) = subst (Resumes bs) (sym same) rest in
    more_pieces sign rs bs (resumes rs calls)

-- a separator after a piece
separator_back : (rs : List OpenCall) (m n : TermParser) (b : ℕ) (bs : List ℕ) → m.calls ≡ unwound rs → take_separator m b ≡ Some n
    → Resumes bs n → GoesOn rs (b ∷ bs)
unfolding take_separator
separator_back rs m n b bs calls e rest = by_separator (eqb b 43) (eqb b 45) (eqb b 44) (eqb b 41) refl refl refl refl e
  where
    is : (c : ℕ) → eqb b c ≡ true → GoesOn rs (c ∷ bs) → GoesOn rs (b ∷ bs)
    is c i h = subst (λ (x : ℕ). GoesOn rs (x ∷ bs)) (sym (eqb-true b c i)) h

    by_separator : (p m1 c d : Bool) → eqb b 43 ≡ p → eqb b 45 ≡ m1 → eqb b 44 ≡ c → eqb b 41 ≡ d
        → (if p then Some (turn m false) else (if m1 then Some (turn m true) else (if c then comma m else (if d then close m else None)))) ≡ Some n
        → GoesOn rs (b ∷ bs)
    by_separator true m1 c d i j k l e = is 43 i (turn_back positive rs m n false bs calls e rest)
    by_separator false true c d i j k l e = is 45 j (turn_back negative rs m n true bs calls e rest)
    by_separator false false true d i j k l e = is 44 k (comma_back rs m n bs calls e rest)
    by_separator false false false true i j k l e = is 41 l (close_back rs m n bs calls e rest)
    by_separator false false false false i j k l e = absurd (cc)

-- before the first piece
start_is : (q : ParseState) → is_start q ≡ true → q ≡ Start
start_is Start e = refl
start_is Signed e = absurd (cc)
start_is (Counted k) e = absurd (cc)
start_is Closed e = absurd (cc)

-- the sign that a byte is
sign_of : (b : ℕ) → is_sign b ≡ true → (sign : Sign) × (b ∷ [] ≡ sign_word sign)
sign_of b e = by_plus (eqb b 43) (eqb b 45) refl refl e
  where
    by_plus : (p m : Bool) → eqb b 43 ≡ p → eqb b 45 ≡ m → (p || m) ≡ true → (sign : Sign) × (b ∷ [] ≡ sign_word sign)
    by_plus true m i j e = (positive, ap (λ (x : ℕ). x ∷ []) (eqb-true b 43 i))
    by_plus false true i j e = (negative, ap (λ (x : ℕ). x ∷ []) (eqb-true b 45 j))
    by_plus false false i j e = absurd (cc)

-- three that hold together
all_three : (a b c : Bool) → (a && (b && c)) ≡ true → (a ≡ true) × (b ≡ true) × (c ≡ true)
all_three true true true e = (refl, refl, refl)
all_three true true false e = absurd (cc)
all_three true false c e = absurd (cc)
all_three false b c e = absurd (cc)

-- a sign before the first piece
first_back : (rs : List OpenCall) (m n : TermParser) (w : List ℕ) (b : ℕ) (bs : List ℕ) (minus : Bool) → m.calls ≡ unwound rs
    → (is_start m.state && (eqb (length w) 0 && is_sign b)) ≡ true → Some (turn m minus) ≡ Some n → Resumes bs n
    → IsRest rs m.state (w ++ b ∷ bs)
first_back rs m n w b bs minus calls is e rest =
    let same : turn m minus ≡ n = cc in
    let resumes : Resumes bs (turn m minus) = subst (Resumes bs) (sym same) rest in
    let parts = all_three (is_start m.state) (eqb (length w) 0) (is_sign b) is in
    let sign = sign_of b parts.2 in
    subst (λ q. IsRest rs q (w ++ b ∷ bs)) (sym (start_is m.state parts.0))
    (subst (λ v. IsRest rs Start (v ++ b ∷ bs)) (sym (empty_is w parts.1)) (starts (Some sign.0) (b ∷ []) rs bs sign.1 (resumes rs calls)))

-- a word and its separator
step_back : (rs : List OpenCall) (m n : TermParser) (w : List ℕ) (b : ℕ) (bs : List ℕ) → m.calls ≡ unwound rs → step m w b ≡ Some n
    → Resumes bs n → IsRest rs m.state (w ++ b ∷ bs)
unfolding step
step_back rs m n w b bs calls e rest =
    by_separator (eqb b 42) (eqb b 40) (is_start m.state && (eqb (length w) 0 && is_sign b)) refl refl refl e
  where
    is : (c : ℕ) → eqb b c ≡ true → IsRest rs m.state (w ++ c ∷ bs) → IsRest rs m.state (w ++ b ∷ bs)
    is c i h = subst (λ (x : ℕ). IsRest rs m.state (w ++ x ∷ bs)) (sym (eqb-true b c i)) h

    by_word : (o : Option TermParser) → take_word m w ≡ o → (o >>= λ x. take_separator x b) ≡ Some n → IsRest rs m.state (w ++ b ∷ bs)
    by_word None i e = absurd (cc)
    by_word (Some x) i e =
        let taken = word_back rs m x w i in
        taken.back (b ∷ bs) (separator_back rs x n b bs (taken.calls ∙ calls) e rest)

    by_separator : (star opens sign : Bool) → eqb b 42 ≡ star → eqb b 40 ≡ opens → (is_start m.state && (eqb (length w) 0 && is_sign b)) ≡ sign
        → (if star then with_count m w else (if opens then open_call m w else (if sign then Some (turn m (eqb b 45)) else (take_word m w >>= λ x. take_separator x b)))) ≡ Some n
        → IsRest rs m.state (w ++ b ∷ bs)
    by_separator true opens sign i j k e = is 42 i (star_back rs m n w bs calls e rest)
    by_separator false true sign i j k e = is 40 j (open_back rs m n w bs calls e rest)
    by_separator false false true i j k e = first_back rs m n w b bs (eqb b 45) calls k e rest
    by_separator false false false i j k e = by_word (take_word m w) refl e

-- no open calls
no_calls : (rs : List OpenCall) (fs : List OpenCall) → fs ≡ unwound rs → eqb (length fs) 0 ≡ true → GoesOn rs []
no_calls [] fs c e = ([], [], refl, (no_piece, refl), refl)
no_calls (f ∷ rs) fs c e =
    let i : length fs ≡ 0 = eqb-true (length fs) 0 e in
    let j : length fs ≡ length (unwound rs ++ f ∷ []) = ap length c in
    absurd (omega (arith, length-append (unwound rs) (f ∷ [])))

-- the last word
finish_back : (rs : List OpenCall) (m n : TermParser) (w : List ℕ) → m.calls ≡ unwound rs → finish m w ≡ Some n → IsRest rs m.state (w ++ [])
unfolding finish
finish_back rs m n w calls e = by_word (take_word m w) refl e
  where
    by_calls : (x : TermParser) (b : Bool) → take_word m w ≡ Some x → eqb (length x.calls) 0 ≡ b → (if b then Some x else None) ≡ Some n
        → IsRest rs m.state (w ++ [])
    by_calls x true i j e =
        let taken = word_back rs m x w i in
        taken.back [] (no_calls rs x.calls (taken.calls ∙ calls) j)
    by_calls x false i j e = absurd (cc)

    by_word : (o : Option TermParser) → take_word m w ≡ o → (o >>= λ x. if eqb (length x.calls) 0 then Some x else None) ≡ Some n
        → IsRest rs m.state (w ++ [])
    by_word None i e = absurd (cc)
    by_word (Some x) i e = by_calls x (eqb (length x.calls) 0) i refl e

-- all bytes
rest_back : (bs w : List ℕ) (rs : List OpenCall) (m n : TermParser) → m.calls ≡ unwound rs → run m w bs ≡ Some n
    → IsRest rs m.state (w ++ bs)
rest_back [] w rs m n calls e = finish_back rs m n w calls e
rest_back (b ∷ bs) w rs m n calls e =
    by_byte (is_word_byte b) (λ i. rest_back bs (w ++ b ∷ []) rs m n calls i) (λ x i fs c. rest_back bs [] fs x n c i) e
  where
    by_step : (o : Option TermParser) → ((x : TermParser) → run x [] bs ≡ Some n → Resumes bs x) → step m w b ≡ o
        → (o >>= λ x. run x [] bs) ≡ Some n → IsRest rs m.state (w ++ b ∷ bs)
    by_step None rest i e = absurd (cc)
    by_step (Some x) rest i e = step_back rs m x w b bs calls i (rest x e)

    by_byte : (c : Bool) → (run m (w ++ b ∷ []) bs ≡ Some n → IsRest rs m.state ((w ++ b ∷ []) ++ bs))
        → ((x : TermParser) → run x [] bs ≡ Some n → Resumes bs x)
        → (if c then run m (w ++ b ∷ []) bs else (step m w b >>= λ x. run x [] bs)) ≡ Some n → IsRest rs m.state (w ++ b ∷ bs)
    by_byte true word rest e = subst (IsRest rs m.state) (append_assoc w (b ∷ []) bs) (word e)
    by_byte false word rest e = by_step (step m w b) rest refl e

-- what the parser accepts, a tree spells
pub accepted_spells : (bytes : List ℕ) (n : TermParser) → run start [] bytes ≡ Some n → (t : LooseTerm) × SpellsTerm t bytes
accepted_spells bytes n e =
    let h = rest_back bytes [] [] start n refl e in
    let same : h.0 ≡ bytes = sym (h.2 ∙ ap (λ y. h.0 ++ y) h.4 ∙ append-nil h.0) in
    (h.3.0, subst (SpellsTerm h.3.0) same h.3.1)
