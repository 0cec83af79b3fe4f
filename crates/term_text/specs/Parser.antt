-- The steps of the reader: it goes over the bytes from separator to separator, and each takes the word
-- before it. A word is letters and digits; a separator is any other byte. What it accepts, counts and
-- gives is what the trees of `Tree` say, by `TermAtLaw` of `Reading`: nothing else is to be read here.
use Rattle.std.specs.Prelude.{ℕ, ◌+◌, ◌-◌, ◌%◌, ◌^◌, Bool, true, false, ◌&&◌, ◌||◌, ◌==◌, nat_le, nat_lt, if◌then◌else◌, List, [], ◌∷◌, ◌++◌, length, Option, Some, None}
use Rattle.sym_terms.specs.declared.kinds.Sym.{Sym}
use Rattle.sym_terms.specs.declared.kinds.Fit.{Fit}
use Rattle.sym_terms.specs.declared.kinds.Pair.{Pair}
use Rattle.sym_terms.specs.Plain.{PlainSum, sum, none, symbol, single_atom}
use Rattle.sym_terms.specs.Limits.{most_nodes}
use Rattle.sym_terms.specs.Normal.{plus, times, fit, pair, within_node_limit}
use Rattle.term_text.specs.declared.names.Keyword.{Keyword}
use Rattle.term_text.specs.declared.names.Keyword.TheVariants as word
use Rattle.term_text.specs.declared.parser.PendingArgument.{PendingArgument}
use Rattle.term_text.specs.declared.parser.PendingArgument.TheVariants as pending
use Rattle.term_text.specs.declared.parser.OpenCall.{OpenCall}
use Rattle.term_text.specs.declared.parser.ParseState.{ParseState}
use Rattle.term_text.specs.declared.parser.ParseState.TheVariants.{Start, Signed, Counted, Closed}
use Rattle.term_text.specs.declared.parser.TermParser.{TermParser}
use Rattle.term_text.specs.Bind.{◌>>=◌}
use Rattle.term_text.specs.Bytes.{open_paren, close_paren, star, plus_sign, comma_byte, minus_sign}
use Rattle.term_text.specs.Numbers.{number_at}
use Rattle.term_text.specs.Names.{is_word_byte, keyword_at, symbol_at}

-- ---- what is built: terms, while there are at most 32 loose nodes, and 0 from then on

-- one more loose node; 33 stands for every count above the limit
abbrev pub one_more : ℕ → ℕ
one_more count = if nat_le count most_nodes then count + 1 else count

-- the term 0
abbrev pub zero_term : PlainSum
zero_term = sum 0 none

-- 0 in the state of what is over the limit
abbrev pub or_zero : Option PlainSum → PlainSum
or_zero (Some t) = t
or_zero None = zero_term

-- a number after a sign
abbrev pub signed : Bool → ℕ → ℕ
signed negative n = if negative then (2 ^ 64 - n) % 2 ^ 64 else n

-- k * t
abbrev pub multiple : ℕ → PlainSum → PlainSum
multiple k t = if k == 1 then t else or_zero (within_node_limit (times k t))

-- s + k * t
unfoldable pub total : ℕ → PlainSum → ℕ → PlainSum → PlainSum
total count s k t =
    if nat_lt most_nodes count then zero_term else or_zero (within_node_limit (plus s (multiple k t)))

-- a fit of a term
unfoldable pub fitted_of : ℕ → Fit → PlainSum → PlainSum
fitted_of count f t =
    if nat_lt most_nodes count then zero_term else or_zero (within_node_limit (fit f t))

-- a pair of terms
unfoldable pub paired_of : ℕ → Pair → PlainSum → PlainSum → PlainSum
paired_of count p a b =
    if nat_lt most_nodes count then zero_term else or_zero (within_node_limit (pair p a b))

-- ---- places and calls

-- what the atom to come is counted with: 1, or the number before its star; None after a piece
abbrev pub coefficient : ParseState → Option ℕ
coefficient Start = Some 1
coefficient Signed = Some 1
coefficient (Counted k) = Some k
coefficient Closed = None

-- after a number and a star
abbrev pub is_counted : ParseState → Bool
is_counted Start = false
is_counted Signed = false
is_counted (Counted k) = true
is_counted Closed = false

-- before the first piece
abbrev pub is_start : ParseState → Bool
is_start Start = true
is_start Signed = false
is_start (Counted k) = false
is_start Closed = false

-- all but the last, and the last
abbrev pub with_first : OpenCall
    → Option (List OpenCall × OpenCall) → Option (List OpenCall × OpenCall)
with_first f None = Some ([], f)
with_first f (Some p) = Some (f ∷ p.0, p.1)

-- the last call, with those before it
abbrev pub last_of : List OpenCall → Option (List OpenCall × OpenCall)
last_of [] = None
last_of (f ∷ fs) = with_first f (last_of fs)

-- an open bracket after the sum outer and the number k
abbrev pub call_for : PendingArgument → PlainSum → ℕ → OpenCall
call_for b outer k = record { pending = b; outer = outer; factor = k }

-- at the start of a term inside of these brackets
abbrev pub inner : List OpenCall → ℕ → TermParser
inner calls count =
    record { calls = calls; sum = zero_term; count = count; negative = false; state = Start }

-- before all bytes
abbrev pub start : TermParser
start = inner [] 1

-- after a piece
abbrev pub after_summand : List OpenCall → PlainSum → ℕ → TermParser
after_summand calls t count =
    record { calls = calls; sum = t; count = count; negative = false; state = Closed }

-- ---- a word before a separator that ends a piece, or before the end

-- an atom of the sum, and its node
abbrev pub add_atom : TermParser → ℕ → PlainSum → TermParser
add_atom m k atom =
    let count = one_more m.count in
    after_summand m.calls (total count m.sum (signed m.negative k) atom) count

-- a number of the sum
abbrev pub add_constant : TermParser → ℕ → TermParser
add_constant m n =
    after_summand m.calls (total m.count m.sum 1 (sum (signed m.negative n) none)) m.count

-- a symbol, if the word is one
abbrev pub add_symbol : TermParser → ℕ → Option Sym → Option TermParser
add_symbol m k None = None
add_symbol m k (Some s) = Some (add_atom m k (single_atom (symbol s)))

-- a number is no atom, so it can't stand after a star
abbrev pub add_word : TermParser → ℕ → List ℕ → Option ℕ → Option TermParser
add_word m k w (Some n) = if is_counted m.state then None else Some (add_constant m n)
add_word m k w None = add_symbol m k (symbol_at w)

-- after a piece there can be no word
abbrev pub word_taken : TermParser → List ℕ → Option ℕ → Option TermParser
word_taken m w None = if length w == 0 then Some m else None
word_taken m w (Some k) = add_word m k w (number_at w)

-- the word before a separator that ends a piece
unfoldable pub take_word : TermParser → List ℕ → Option TermParser
take_word m w = word_taken m w (coefficient m.state)

-- ---- separators

-- a sign
abbrev pub turn : TermParser → Bool → TermParser
turn m negative =
    record { calls = m.calls; sum = m.sum; count = m.count; negative = negative; state = Signed }

-- after a number and its star
abbrev pub counted : TermParser → ℕ → TermParser
counted m n =
    record {
      calls =
          m.calls;
      sum = m.sum;
      count = m.count;
      negative = m.negative;
      state = Counted n;
    }

-- a number and a star
unfoldable pub with_count : TermParser → List ℕ → Option TermParser
with_count m w =
    if is_counted m.state then None
    else coefficient m.state >>= λ k. number_at w >>= λ n. Some (counted m n)

-- what the bracket after a name waits for
abbrev pub pending_for : Option Keyword → Option PendingArgument
pending_for None = None
pending_for (Some (word.Symbol s)) = None
pending_for (Some (word.Fit f)) = Some (pending.Fit f)
pending_for (Some (word.Pair p)) = Some (pending.First p)

-- the name of a fit or a pair and a bracket: an atom, and a term inside
unfoldable pub open_call : TermParser → List ℕ → Option TermParser
open_call m w = do
  k ← coefficient m.state
  b ← pending_for (keyword_at w)
  let calls = m.calls ++ call_for b m.sum (signed m.negative k) ∷ [] in
      Some (inner calls (one_more (one_more m.count)))

-- the call of the first argument becomes that of the second
abbrev pub second_of : TermParser
    → List OpenCall → PendingArgument → PlainSum → ℕ → Option TermParser
second_of m calls (pending.Fit f) outer k = None
second_of m calls (pending.First p) outer k =
    Some (inner (calls ++ call_for (pending.Second p m.sum) outer k ∷ []) (one_more m.count))
second_of m calls (pending.Second p a) outer k = None

-- a comma after the first argument of a pair: a second term inside
unfoldable pub comma : TermParser → Option TermParser
comma m = last_of m.calls >>= λ x. second_of m x.0 x.1.pending x.1.outer x.1.factor

-- the sum before the bracket with the atom that it closes
abbrev pub closed_with : TermParser → List OpenCall → PlainSum → ℕ → PlainSum → Option TermParser
closed_with m calls outer k atom = Some (after_summand calls (total m.count outer k atom) m.count)

-- the atom by its kind
abbrev pub closed_at : TermParser
    → List OpenCall → PendingArgument → PlainSum → ℕ → Option TermParser
closed_at m calls (pending.Fit f) outer k =
    closed_with m calls outer k (fitted_of m.count f m.sum)
closed_at m calls (pending.First p) outer k = None
closed_at m calls (pending.Second p a) outer k =
    closed_with m calls outer k (paired_of m.count p a m.sum)

-- a closing bracket after the argument of a fit or the second one of a pair
unfoldable pub close : TermParser → Option TermParser
close m = last_of m.calls >>= λ x. closed_at m x.0 x.1.pending x.1.outer x.1.factor

-- a separator after a whole piece: + - , )
unfoldable pub take_separator : TermParser → ℕ → Option TermParser
take_separator m b =
    if b == plus_sign then Some (turn m false)
    else (if b == minus_sign then Some (turn m true)
    else (if b == comma_byte then comma m else (if b == close_paren then close m else None)))

-- + and -
abbrev pub is_sign : ℕ → Bool
is_sign b = (b == plus_sign) || (b == minus_sign)

-- a word, maybe empty, and the separator after it
unfoldable pub step : TermParser → List ℕ → ℕ → Option TermParser
step m w b =
    if b == star then with_count m w
    else (if b == open_paren then open_call m w
    else (if is_start m.state && ((length w == 0) && is_sign b) then Some (turn m (b == minus_sign))
    else (take_word m w >>= λ n. take_separator n b)))

-- the last word, outside of all brackets
unfoldable pub finish : TermParser → List ℕ → Option TermParser
finish m w = take_word m w >>= λ n. if length n.calls == 0 then Some n else None

-- the parser after the bytes, where w is the word before them; None where they are in no term
abbrev pub run : TermParser → List ℕ → List ℕ → Option TermParser
run m w [] = finish m w
run m w (b ∷ bs) =
    if is_word_byte b then run m (w ++ b ∷ []) bs else (step m w b >>= λ n. run n [] bs)
