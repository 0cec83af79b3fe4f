-- What bytes are read as, by the tree that they spell, and how a result stands to it.
use Rattle.std.specs.Prelude.{◌≡◌, ◌↔◌, ◌⊎◌, ◌<◌, ◌≤◌, ℕ, nat_lt, if◌then◌else◌, List, [], Option, Some, None, Result, Ok, Err}
use Rattle.std.specs.Str.{bytes_eq}
use Rattle.sym_terms.specs.Limits.{most_nodes}
use Rattle.sym_terms.specs.Plain.{PlainSum}
use Rattle.sym_terms.specs.Normal.{IsTerm}
use Rattle.term_text.specs.declared.cause.TextCause.{TextCause}
use Rattle.term_text.specs.declared.cause.TextCause.TheVariants.{BadHead, BadLine, BadTerm, NotCanonical, OutOfOrder, OverLimit, Unended, NoMemory}
use Rattle.term_text.specs.declared.parser.TermParser.{TermParser}
use Rattle.term_text.specs.Text.{sum_text}
use Rattle.term_text.specs.Tree.{LooseTerm, SpellsTerm, loose_nodes, term_of}
use Rattle.term_text.specs.Parser.{run, start}

-- the cause is that of the reading, unless memory ran out
abbrev pub Fails : {Y : Type 0} → TextCause → Result Y TextCause → Type 0
Fails BadHead read = read ≡ Err BadHead
Fails BadLine read = read ≡ Err BadLine
Fails BadTerm read = read ≡ Err BadTerm
Fails NotCanonical read = read ≡ Err NotCanonical
Fails OutOfOrder read = read ≡ Err OutOfOrder
Fails OverLimit read = read ≡ Err OverLimit
Fails Unended read = read ≡ Err Unended
Fails NoMemory read = Unit {0}

-- what a function returned, seen by view, is what the reading gives, unless memory ran out
abbrev pub Gives : {X Y : Type 0} → (X → Y) → Result X TextCause → Result Y TextCause → Type 0
Gives view (Ok x) read = read ≡ Ok (view x)
Gives view (Err e) read = Fails e read

-- the result is this error just where the reason holds, unless memory ran out
abbrev pub FailsJustWhere : {X : Type 0} → TextCause → Result X TextCause → Type 0 → Type 0
FailsJustWhere cause result reason =
    (result ≡ Err cause → reason) × (reason → (result ≡ Err cause) ⊎ (result ≡ Err NoMemory))

-- the bytes are the text of the term
abbrev pub IsTextOf : PlainSum → List ℕ → Type 0
IsTextOf t bytes = IsTerm t × (bytes ≡ sum_text t)

-- the bytes spell no tree
abbrev pub SpellNone : List ℕ → Type 0
SpellNone bytes = (tree : LooseTerm) → SpellsTerm tree bytes → ⊥

-- they spell a tree with over 32 loose nodes
abbrev pub SpellLarge : List ℕ → Type 0
SpellLarge bytes = (tree : LooseTerm) × SpellsTerm tree bytes × (most_nodes < loose_nodes tree)

-- they spell a tree within that limit, and aren't the text of its term
abbrev pub SpellOtherwise : List ℕ → Type 0
SpellOtherwise bytes =
    (tree : LooseTerm) × SpellsTerm tree bytes × (loose_nodes tree ≤ most_nodes)
    × (bytes ≡ sum_text (term_of tree) → ⊥)

-- the term whose text the bytes are, or the cause why they are none
abbrev pub IsTermReading : List ℕ → Result PlainSum TextCause → Type 0
IsTermReading bytes (Ok t) = IsTextOf t bytes
IsTermReading bytes (Err BadTerm) = SpellNone bytes
IsTermReading bytes (Err OverLimit) = SpellLarge bytes
IsTermReading bytes (Err NotCanonical) = SpellOtherwise bytes
IsTermReading bytes (Err BadHead) = ⊥
IsTermReading bytes (Err BadLine) = ⊥
IsTermReading bytes (Err OutOfOrder) = ⊥
IsTermReading bytes (Err Unended) = ⊥
IsTermReading bytes (Err NoMemory) = ⊥

-- the parser's term, if it has at most 32 loose nodes and the bytes are its text
abbrev pub canonical_term : List ℕ → Option TermParser → Result PlainSum TextCause
canonical_term bytes None = Err BadTerm
canonical_term bytes (Some m) =
    if nat_lt most_nodes m.count then Err OverLimit
    else (if bytes_eq (sum_text m.sum) bytes then Ok m.sum else Err NotCanonical)

-- IsTermReading as a function, to be read by `TermAtLaw` alone
unfoldable pub term_at : List ℕ → Result PlainSum TextCause
term_at bytes = canonical_term bytes (run start [] bytes)

-- the function gives the one reading of the bytes
abbrev pub TermAtLaw : Type 0
TermAtLaw =
    (bytes : List ℕ) (read : Result PlainSum TextCause) → (term_at bytes ≡ read) ↔ IsTermReading bytes read

-- bytes spell one tree at most, so one term with one number of loose nodes
abbrev pub OneTreeLaw : Type 0
OneTreeLaw =
    (bytes : List ℕ) (a b : LooseTerm) → SpellsTerm a bytes → SpellsTerm b bytes → a ≡ b
