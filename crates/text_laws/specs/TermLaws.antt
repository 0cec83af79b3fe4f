-- What holds of the texts of numbers and of terms.
use Rattle.std.specs.Prelude.{◌≡◌, ℕ, ◌*◌, ◌^◌, ◌<◌, ◌≤◌, true, false, List, length, Some, Ok}
use Rattle.std.specs.Fmt.{decimal, digits}
use Rattle.std.specs.List.{list_all}
use Rattle.sym_terms.specs.Plain.{PlainSum}
use Rattle.sym_terms.specs.Nodes.{nodes}
use Rattle.sym_terms.specs.Normal.{IsTerm}
use Rattle.term_text.specs.Numbers.{number_text, numeral_at, number_at}
use Rattle.term_text.specs.Names.{is_term_byte}
use Rattle.term_text.specs.Text.{sum_text}
use Rattle.term_text.specs.Reading.{term_at, TermAtLaw, OneTreeLaw}

-- each spelling of a number that is written is read as the number
pub record NumberLaws : Type 0 where
  pub hexadecimal : (n : ℕ) → n < 2 ^ 64 → numeral_at true (digits 16 false n) ≡ Some n
  pub decimals : (n : ℕ) → n < 2 ^ 64 → numeral_at false (decimal n) ≡ Some n
  pub numbers : (n : ℕ) → n < 2 ^ 64 → number_at (number_text n) ≡ Some n

-- `term_at` is the one reading of the bytes, by the tree that they spell, of which there is one at most;
-- so the text of a term is read as the term, and what is read is a term with that text; terms with one
-- text are one
pub record ReadingLaws : Type 0 where
  pub reading : TermAtLaw
  pub trees : OneTreeLaw
  pub read_again : (t : PlainSum) → IsTerm t → term_at (sum_text t) ≡ Ok t
  pub text_of_read : (bytes : List ℕ) (t : PlainSum) → term_at bytes ≡ Ok t
      → IsTerm t × (bytes ≡ sum_text t)
  pub one : (a b : PlainSum) → IsTerm a → IsTerm b → sum_text a ≡ sum_text b → a ≡ b

-- each byte of a term's text is a letter, a digit or one of ( ) * + , -; there is one at least, and
-- at most 40 for each node
pub record ByteLaws : Type 0 where
  pub clean : (t : PlainSum) → IsTerm t → list_all is_term_byte (sum_text t) ≡ true
  pub begins : (t : PlainSum) → IsTerm t → 0 < length (sum_text t)
  pub short : (t : PlainSum) → IsTerm t → length (sum_text t) ≤ 40 * nodes t
