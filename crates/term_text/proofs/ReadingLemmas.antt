-- What bytes are read as: the tree that they spell says it.
use Rattle.std.proofs.Common.{◌≡◌, ◌⊎◌, inl, inr, ℕ, Bool, true, false, ltb, if◌then◌else◌, List, [], Option, Some, None, Result, Ok, Err, refl, sym, ap, subst, ◌∙◌, arith}
use Rattle.std.specs.Prelude.{IfOk}
use Rattle.std.specs.Str.{bytes_eq}
use Rattle.std.proofs.lemmas.Bool.{lt-ltb, le-ltb, ltb-true, ltb-false}
use Rattle.std.proofs.lemmas.Slice.Eq.{bytes_eq-Decides}
use Rattle.sym_terms.specs.Plain.{PlainSum}
use Rattle.sym_terms.specs.Normal.{IsTerm}
use Rattle.term_text.specs.declared.cause.TextCause.{TextCause}
use Rattle.term_text.specs.declared.cause.TextCause.TheVariants.{BadHead, BadLine, BadTerm, NotCanonical, OutOfOrder, OverLimit, Unended, NoMemory}
use Rattle.term_text.specs.declared.parser.TermParser.{TermParser}
use Rattle.term_text.specs.Text.{sum_text}
use Rattle.term_text.specs.Tree.{LooseTerm, SpellsTerm, loose_nodes, term_of}
use Rattle.term_text.specs.Parser.{start, run}
use Rattle.term_text.specs.Reading.{Gives, FailsJustWhere, SpellNone, IsTermReading, canonical_term, term_at, TermAtLaw}
use Rattle.term_text.proofs.TermLemmas.{spelled_at, term_reads}
use Rattle.term_text.proofs.TreeLemmas.{tree_normal, tree_nodes}
use Rattle.term_text.proofs.TreeRuns.{spelled_runs}
use Rattle.term_text.proofs.TreeBack.{accepted_spells}

-- what bytes that spell no tree are read as
unspelled_at : (bytes : List ℕ) → SpellNone bytes → term_at bytes ≡ Err BadTerm
unfolding term_at
unspelled_at bytes none = by_run (run start [] bytes) refl
  where
    by_run : (o : Option TermParser) → run start [] bytes ≡ o → canonical_term bytes o ≡ Err BadTerm
    by_run None e = refl
    by_run (Some m) e = let t = accepted_spells bytes m e in absurd (none t.0 t.1)

-- bytes spell a tree or none
spelled_or_not : (bytes : List ℕ) → ((t : LooseTerm) × SpellsTerm t bytes) ⊎ SpellNone bytes
spelled_or_not bytes = by_run (run start [] bytes) refl
  where
    by_run : (o : Option TermParser) → run start [] bytes ≡ o → ((t : LooseTerm) × SpellsTerm t bytes) ⊎ SpellNone bytes
    by_run None e = inr (λ t h. let i = sym e ∙ spelled_runs t bytes h in absurd (cc))
    by_run (Some m) e = inl (accepted_spells bytes m e)

-- a text that another one isn't
other_bytes : (x y : List ℕ) → (y ≡ x → ⊥) → bytes_eq x y ≡ false
other_bytes x y differ = by_same (bytes_eq x y) refl
  where
    by_same : (b : Bool) → bytes_eq x y ≡ b → b ≡ false
    by_same true e = absurd (differ (sym ((bytes_eq-Decides x y).0 e)))
    by_same false e = refl

-- what the bytes are read as is a reading of them
reading_is : (bytes : List ℕ) → IsTermReading bytes (term_at bytes)
reading_is bytes =
    elim (spelled_or_not bytes) [
      | inl tree ↦ subst (IsTermReading bytes) (sym (spelled_at tree.0 bytes tree.1)) (of_tree tree.0 tree.1 (ltb 32 (loose_nodes tree.0)) (bytes_eq (sum_text (term_of tree.0)) bytes) refl refl)
      | inr none ↦ subst (IsTermReading bytes) (sym (unspelled_at bytes none)) none
    ]
  where
    of_tree : (t : LooseTerm) → SpellsTerm t bytes → (b same : Bool) → ltb 32 (loose_nodes t) ≡ b → bytes_eq (sum_text (term_of t)) bytes ≡ same
        → IsTermReading bytes (if b then Err OverLimit else (if same then Ok (term_of t) else Err NotCanonical))
    of_tree t h true same i j = (t, h, ltb-true 32 (loose_nodes t) i)
    of_tree t h false true i j =
        (record { normal = tree_normal t bytes h; small = omega (arith, tree_nodes t, ltb-false 32 (loose_nodes t) i) }, sym ((bytes_eq-Decides (sum_text (term_of t)) bytes).0 j))
    of_tree t h false false i j =
        (t, h, ltb-false 32 (loose_nodes t) i, λ e. let k : bytes_eq (sum_text (term_of t)) bytes ≡ true = (bytes_eq-Decides (sum_text (term_of t)) bytes).1 (sym e) in absurd (cc))

-- and the only one
reading_one : (bytes : List ℕ) (read : Result PlainSum TextCause) → IsTermReading bytes read → term_at bytes ≡ read
reading_one bytes (Ok t) is = ap term_at is.1 ∙ term_reads t is.0
reading_one bytes (Err BadTerm) none = unspelled_at bytes none
reading_one bytes (Err OverLimit) is =
    let large : ltb 32 (loose_nodes is.0) ≡ true = lt-ltb 32 (loose_nodes is.0) is.2 in
    spelled_at is.0 bytes is.1 ∙ rw large refl
reading_one bytes (Err NotCanonical) is =
    let few : ltb 32 (loose_nodes is.0) ≡ false = le-ltb 32 (loose_nodes is.0) is.2 in
    spelled_at is.0 bytes is.1 ∙ rw (few, other_bytes (sum_text (term_of is.0)) bytes is.3) refl
reading_one bytes (Err BadHead) is = absurd is
reading_one bytes (Err BadLine) is = absurd is
reading_one bytes (Err OutOfOrder) is = absurd is
reading_one bytes (Err Unended) is = absurd is
reading_one bytes (Err NoMemory) is = absurd is

-- how the function is to be read
pub term_at_law : TermAtLaw
term_at_law bytes read = (λ e. subst (IsTermReading bytes) e (reading_is bytes), λ is. reading_one bytes read is)

-- a result that is the reading has a cause just where the reading has it
pub fails_just : (bytes : List ℕ) (cause : TextCause) (result : Result PlainSum TextCause) → Gives (λ t. t) result (term_at bytes)
    → ((read : Result PlainSum TextCause) → result ≡ Err cause → Gives (λ t. t) result read → read ≡ Err cause)
    → FailsJustWhere cause result (IsTermReading bytes (Err cause))
fails_just bytes cause result gives fails =
    (λ e. subst (IsTermReading bytes) (fails (term_at bytes) e gives) (reading_is bytes), λ is. by_result result gives (reading_one bytes (Err cause) is))
  where
    by_result : (r : Result PlainSum TextCause) → Gives (λ t. t) r (term_at bytes) → term_at bytes ≡ Err cause
        → (r ≡ Err cause) ⊎ (r ≡ Err NoMemory)
    by_result (Ok t) g e = absurd (let i : Ok t ≡ Err cause = sym g ∙ e in cc)
    by_result (Err BadHead) g e = inl (sym g ∙ e)
    by_result (Err BadLine) g e = inl (sym g ∙ e)
    by_result (Err BadTerm) g e = inl (sym g ∙ e)
    by_result (Err NotCanonical) g e = inl (sym g ∙ e)
    by_result (Err OutOfOrder) g e = inl (sym g ∙ e)
    by_result (Err OverLimit) g e = inl (sym g ∙ e)
    by_result (Err Unended) g e = inl (sym g ∙ e)
    by_result (Err NoMemory) g e = inr refl

-- a result that is the reading is a term whose text the bytes are, where there is one
pub is_found : (bytes : List ℕ) (result : Result PlainSum TextCause) → Gives (λ t. t) result (term_at bytes)
    → IfOk result (λ t. IsTerm t × (bytes ≡ sum_text t))
is_found bytes (Ok t) g = (term_at_law bytes (Ok t)).0 g
is_found bytes (Err e) g = tt
