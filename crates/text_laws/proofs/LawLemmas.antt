-- The laws of numbers and terms, gathered.
use Rattle.std.proofs.Common.{◌≡◌, Ok, sym, ap, ◌∙◌}
use Rattle.sym_terms.specs.Plain.{PlainSum}
use Rattle.sym_terms.specs.Normal.{IsTerm}
use Rattle.term_text.specs.Text.{sum_text}
use Rattle.term_text.specs.Reading.{term_at}
use Rattle.text_laws.specs.TermLaws.{NumberLaws, ReadingLaws, ByteLaws}
use Rattle.term_text.proofs.NumberLemmas.{hex_reads, decimal_reads, number_reads}
use Rattle.term_text.proofs.TermLemmas.{term_reads}
use Rattle.term_text.proofs.OneTree.{one_tree}
use Rattle.term_text.proofs.ReadingLemmas.{term_at_law}
use Rattle.term_text.proofs.CleanLemmas.{term_clean, term_begins}
use Rattle.term_text.proofs.ShortLemmas.{term_short}

-- the laws of numbers
pub number_laws : NumberLaws
number_laws = record { hexadecimal = hex_reads; decimals = decimal_reads; numbers = number_reads }

-- terms with one text are one
term_text_one : (a b : PlainSum) → IsTerm a → IsTerm b → sum_text a ≡ sum_text b → a ≡ b
term_text_one a b a_is b_is e = let same = sym (term_reads a a_is) ∙ ap term_at e ∙ term_reads b b_is in cc

-- the laws of reading
pub reading_laws : ReadingLaws
reading_laws = record {
  reading = term_at_law;
  trees = one_tree;
  read_again = term_reads;
  text_of_read = λ bytes t. (term_at_law bytes (Ok t)).0;
  one = term_text_one;
}

-- the laws of bytes
pub byte_laws : ByteLaws
byte_laws = record { clean = term_clean; begins = term_begins; short = term_short }
