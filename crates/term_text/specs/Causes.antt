-- The numbers and names of the causes why a text is refused.
use Rattle.std.specs.Prelude.{ℕ, List, codes}
use Rattle.term_text.specs.declared.cause.TextCause.{TextCause}
use Rattle.term_text.specs.declared.cause.TextCause.TheVariants.{BadHead, BadLine, BadTerm, NotCanonical, OutOfOrder, OverLimit, Unended, NoMemory}

-- 1 to 7 in the order in which the causes are listed, and 0 for want of memory
abbrev pub number_of_cause : TextCause → ℕ
number_of_cause BadHead = 1
number_of_cause BadLine = 2
number_of_cause BadTerm = 3
number_of_cause NotCanonical = 4
number_of_cause OutOfOrder = 5
number_of_cause OverLimit = 6
number_of_cause Unended = 7
number_of_cause NoMemory = 0

-- the name, in ASCII
abbrev pub name_of_cause : TextCause → List ℕ
name_of_cause BadHead = codes "BadHead"
name_of_cause BadLine = codes "BadLine"
name_of_cause BadTerm = codes "BadTerm"
name_of_cause NotCanonical = codes "NotCanonical"
name_of_cause OutOfOrder = codes "OutOfOrder"
name_of_cause OverLimit = codes "OverLimit"
name_of_cause Unended = codes "Unended"
name_of_cause NoMemory = codes "NoMemory"
