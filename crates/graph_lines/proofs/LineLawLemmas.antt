-- What a line's bytes are read as: its form and the words at the places of its terms say it.
use Rattle.std.proofs.Common.{◌≡◌, ℕ, ◌^◌, ◌<◌, Bool, true, false, not, ◌&&◌, if◌then◌else◌, List, length, drop, Some, Result, Ok, Err, ◌⊎◌, inl, inr, refl, sym, ap, subst, ◌∙◌}
use Rattle.std.specs.Str.{bytes_eq}
use Rattle.std.proofs.lemmas.Bool.{and_parts, both_ways, not-true}
use Rattle.std.proofs.lemmas.Slice.Eq.{bytes_eq-Decides}
use Rattle.term_text.specs.declared.cause.TextCause.{TextCause}
use Rattle.term_text.specs.declared.cause.TextCause.TheVariants.{BadHead, BadLine, BadTerm, NotCanonical, OutOfOrder, OverLimit, Unended, NoMemory}
use Rattle.graph_lines.specs.declared.line.Line.{Line}
use Rattle.graph_lines.specs.declared.line_kind.LineKind.{LineKind}
use Rattle.graph_lines.specs.Words.{are_printable}
use Rattle.graph_lines.specs.Line.{IsLine}
use Rattle.graph_lines.specs.Text.{line_text}
use Rattle.graph_lines.specs.LineKind.{kind_of_bytes}
use Rattle.graph_lines.specs.Form.{just, ◌before◌}
use Rattle.graph_lines.specs.LineForm.{line_form, begin_of, HasForm}
use Rattle.graph_lines.specs.Then.{and_then, or_bad_line}
use Rattle.graph_lines.specs.Steps.{loose_line, restates_entry_value, spelled}
use Rattle.graph_lines.specs.Reading.{IsFirstFault, HasNoForm, HasFault, IsMisspelled, IsLineReading, line_of_kind, line_at, LineOfKindLaw}
use Rattle.graph_lines.proofs.LineLemmas.{line_reads}
use Rattle.graph_lines.proofs.TellLemmas.{Tells, fault_is, all_is, no_line_fault, no_head_fault, no_order_fault, no_end_fault, no_memory_fault}
use Rattle.graph_lines.proofs.JudgeLemmas.{kind_begins_so, Judged}
use Rattle.graph_lines.proofs.KindJudged.{line_judged}

-- the text of a line of the kind is read as the line
text_reads : (k : LineKind) (bytes : List ℕ) (l : Line) → kind_of_bytes bytes ≡ Some k → IsLine l → bytes ≡ line_text l → line_of_kind k bytes ≡ Ok l
unfolding line_at
text_reads k bytes l kind is e =
    sym (ap (λ o. or_bad_line o (λ k. line_of_kind k bytes)) kind) ∙ ap line_at e ∙ line_reads l is

-- whether a line that was read has these bytes
abbrev is_spelled : List ℕ → Line → Bool
is_spelled bytes l = bytes_eq (line_text l) bytes && not (restates_entry_value l)

module _ (k : LineKind) (bytes : List ℕ) (kind : kind_of_bytes bytes ≡ Some k) (small : length bytes < 2 ^ 64) where
  -- what is read after the beginning
  judged : Judged (begin_of k) (line_form k) (loose_line k (drop 2 bytes)) bytes
  judged = line_judged k bytes (kind_begins_so bytes k kind) small

  -- bytes that can't stand in a line
  unprintable_at : are_printable bytes ≡ false → line_of_kind k bytes ≡ Err BadLine
  unfolding line_of_kind
  unprintable_at e = rw e refl

  -- other bytes
  printable_at : are_printable bytes ≡ true → line_of_kind k bytes ≡ and_then (loose_line k (drop 2 bytes)) (spelled bytes)
  unfolding line_of_kind
  printable_at e = rw e refl

  -- a reading that failed
  failed_at : (c : TextCause) → are_printable bytes ≡ true → loose_line k (drop 2 bytes) ≡ Err c → line_of_kind k bytes ≡ Err c
  failed_at c p e = printable_at p ∙ ap (λ r. and_then r (spelled bytes)) e

  -- a line that was read
  read_at : (l : Line) → are_printable bytes ≡ true → loose_line k (drop 2 bytes) ≡ Ok l
      → line_of_kind k bytes ≡ (if is_spelled bytes l then Ok l else Err NotCanonical)
  read_at l p e = printable_at p ∙ ap (λ r. and_then r (spelled bytes)) e

  -- one that has these bytes
  spelled_line : (l : Line) → loose_line k (drop 2 bytes) ≡ Ok l → is_spelled bytes l ≡ true → IsLine l × (bytes ≡ line_text l)
  spelled_line l e same =
      let tests = and_parts (bytes_eq (line_text l) bytes) (not (restates_entry_value l)) same in
      (judged.lines l e (not-true (restates_entry_value l) tests.1), sym ((bytes_eq-Decides (line_text l) bytes).0 tests.0))

  -- ---- it is a reading

  -- where a reading failed
  of_cause : (c : TextCause) → loose_line k (drop 2 bytes) ≡ Err c → are_printable bytes ≡ true → IsLineReading k bytes (Err c)
  of_cause c e p = by_form judged.formed
    where
      told : (words : List (List ℕ)) → (just (begin_of k) before line_form k) words bytes → IsFirstFault c words
      told words h = subst (λ r. Tells words r) e (judged.tells words h)

      by_cause : (d : TextCause) (words : List (List ℕ)) → HasForm k words bytes → IsFirstFault d words → IsLineReading k bytes (Err d)
      by_cause BadLine words h f = absurd (no_line_fault words f)
      by_cause BadTerm words h f = (words, h, f)
      by_cause OverLimit words h f = (words, h, f)
      by_cause NotCanonical words h f = inl (words, h, f)
      by_cause BadHead words h f = no_head_fault words f
      by_cause OutOfOrder words h f = no_order_fault words f
      by_cause Unended words h f = no_end_fault words f
      by_cause NoMemory words h f = no_memory_fault words f

      by_form : (loose_line k (drop 2 bytes) ≡ Err BadLine) ⊎ ((words : List (List ℕ)) × (just (begin_of k) before line_form k) words bytes)
          → IsLineReading k bytes (Err c)
      by_form (inl bad) =
          let same : BadLine ≡ c = let f = sym bad ∙ e in cc in
          subst (λ d. IsLineReading k bytes (Err d)) same
          (λ words h. no_line_fault words (subst (λ r. Tells words r) bad (judged.tells words h.1)))
      by_form (inr w) = by_cause c w.0 (p, w.1) (told w.0 w.1)

  -- where a line was read
  of_line : (l : Line) (b : Bool) → loose_line k (drop 2 bytes) ≡ Ok l → are_printable bytes ≡ true → is_spelled bytes l ≡ b
      → line_of_kind k bytes ≡ (if b then Ok l else Err NotCanonical) → IsLineReading k bytes (if b then Ok l else Err NotCanonical)
  of_line l true e p same is = spelled_line l e same
  of_line l false e p same is = by_form judged.formed
    where
      by_form : (loose_line k (drop 2 bytes) ≡ Err BadLine) ⊎ ((words : List (List ℕ)) × (just (begin_of k) before line_form k) words bytes)
          → IsLineReading k bytes (Err NotCanonical)
      by_form (inl bad) = absurd (let f = sym bad ∙ e in cc)
      by_form (inr w) =
          inr (
            w.0,
            (p, w.1),
            subst (λ r. Tells w.0 r) e (judged.tells w.0 w.1),
            λ other other_is text. let f = sym is ∙ text_reads k bytes other kind other_is text in absurd (cc),
          )

  -- what the bytes are read as
  reading_is : IsLineReading k bytes (line_of_kind k bytes)
  reading_is = by_printable (are_printable bytes) refl
    where
      by_loose : (r : Result Line TextCause) → loose_line k (drop 2 bytes) ≡ r → are_printable bytes ≡ true → IsLineReading k bytes (line_of_kind k bytes)
      by_loose (Ok l) e p = subst (IsLineReading k bytes) (sym (read_at l p e)) (of_line l (is_spelled bytes l) e p refl (read_at l p e))
      by_loose (Err c) e p = subst (IsLineReading k bytes) (sym (failed_at c p e)) (of_cause c e p)

      by_printable : (b : Bool) → are_printable bytes ≡ b → IsLineReading k bytes (line_of_kind k bytes)
      by_printable true p = by_loose (loose_line k (drop 2 bytes)) refl p
      by_printable false p = subst (IsLineReading k bytes) (sym (unprintable_at p)) (λ words h. both_ways (are_printable bytes) p h.0)

  -- ---- it is the only one

  -- no form
  formless_at : HasNoForm k bytes → line_of_kind k bytes ≡ Err BadLine
  formless_at formless = by_printable (are_printable bytes) refl
    where
      by_form : are_printable bytes ≡ true → (loose_line k (drop 2 bytes) ≡ Err BadLine) ⊎ ((words : List (List ℕ)) × (just (begin_of k) before line_form k) words bytes)
          → line_of_kind k bytes ≡ Err BadLine
      by_form p (inl bad) = failed_at BadLine p bad
      by_form p (inr w) = absurd (formless w.0 (p, w.1))

      by_printable : (b : Bool) → are_printable bytes ≡ b → line_of_kind k bytes ≡ Err BadLine
      by_printable true p = by_form p judged.formed
      by_printable false p = unprintable_at p

  -- a fault
  fault_at : (c : TextCause) → HasFault c k bytes → line_of_kind k bytes ≡ Err c
  fault_at c h = failed_at c h.1.0 (fault_is c h.0 (loose_line k (drop 2 bytes)) (judged.tells h.0 h.1.1) h.2)

  -- another spelling
  other_at : IsMisspelled k bytes → line_of_kind k bytes ≡ Err NotCanonical
  other_at h =
      let l = all_is h.0 (loose_line k (drop 2 bytes)) (judged.tells h.0 h.1.1) h.2 in
      read_at l.0 h.1.0 l.1 ∙ by_same l.0 l.1 (is_spelled bytes l.0) refl
    where
      by_same : (l : Line) → loose_line k (drop 2 bytes) ≡ Ok l → (b : Bool) → is_spelled bytes l ≡ b → (if b then Ok l else Err NotCanonical) ≡ Err NotCanonical
      by_same l e true same = let s = spelled_line l e same in absurd (h.3 l s.0 s.1)
      by_same l e false same = refl

  -- any reading
  reading_one : (read : Result Line TextCause) → IsLineReading k bytes read → line_of_kind k bytes ≡ read
  reading_one (Ok l) is = text_reads k bytes l kind is.0 is.1
  reading_one (Err BadLine) is = formless_at is
  reading_one (Err BadTerm) is = fault_at BadTerm is
  reading_one (Err OverLimit) is = fault_at OverLimit is
  reading_one (Err NotCanonical) (inl is) = fault_at NotCanonical is
  reading_one (Err NotCanonical) (inr is) = other_at is
  reading_one (Err BadHead) is = absurd is
  reading_one (Err OutOfOrder) is = absurd is
  reading_one (Err Unended) is = absurd is
  reading_one (Err NoMemory) is = absurd is

-- how the function is to be read
pub line_of_kind_law : LineOfKindLaw
line_of_kind_law k bytes read kind small =
    (λ e. subst (IsLineReading k bytes) e (reading_is k bytes kind small), λ is. reading_one k bytes kind small read is)
