-- What is known after arithmetic, comparisons and shifts: the twins of the machine's words.
use Rattle.std.specs.Prelude.{Option, Some, None}
use Rattle.bits_core.specs.declared.operations.Alu.{Alu}
use Rattle.bits_core.specs.declared.operations.Shift.{Shift}
use Rattle.sym_terms.specs.Plain.{PlainSum}
use Rattle.predicates.specs.declared.bound.FlagFact.{FlagFact}
use Rattle.predicates.specs.Predicate.{Predicate}
use Rattle.x86_instr.specs.declared.instr.Operand.TheVariants.{Reg}
use Rattle.x86_instr.specs.declared.instr.Instr.{Instr}
use Rattle.x86_instr.specs.Registers.{rax, rdx}
use Rattle.step_rules.specs.View.{View}
use Rattle.step_rules.specs.Terms.{number}
use Rattle.step_rules.specs.Access.{read_term, after_read, write_term}
use Rattle.step_rules.specs.Results.{alu_term, alu_fact, negated_term, inverted_term, product_term, shift_term, comparison}

-- the predicate with this flag fact, or none
unfoldable pub with_flags : Predicate → Option FlagFact → Predicate
with_flags p f = record p { flags = f }

-- a result that replaces the first operand, and the flags after it
abbrev pub gives : View → Instr → Predicate → Option PlainSum → Option FlagFact → Predicate
gives v i p t f = with_flags (write_term v i p i.width i.dst t) f

-- the result of add, or, adc, sbb, and, sub, xor
abbrev pub operated : Alu → View → Instr → Predicate → Option PlainSum
operated o v i p = alu_term o i.width (read_term v i p i.width i.dst) (read_term v i p i.width i.src)

-- their flags
abbrev pub operated_fact : Alu → View → Instr → Predicate → Option FlagFact
operated_fact o v i p =
    alu_fact o i (read_term v i p i.width i.dst) (read_term v i p i.width i.src) (operated o v i p)

-- add, or, adc, sbb, and, sub, xor
abbrev pub combined : Alu → View → Instr → Predicate → Predicate
combined o v i p = gives v i p (operated o v i p) (operated_fact o v i p)

-- cmp, test: the flags alone
abbrev pub compared : Alu → View → Instr → Predicate → Predicate
compared o v i p =
    with_flags (after_read v i (after_read v i p i.width i.dst) i.width i.src) (operated_fact o v i p)

-- not
abbrev pub inverted : View → Instr → Predicate → Predicate
inverted v i p = write_term v i p i.width i.dst (inverted_term i.width (read_term v i p i.width i.dst))

-- neg: the flags are those of 0 less the operand
abbrev pub negated : View → Instr → Predicate → Predicate
negated v i p =
    let a = read_term v i p i.width i.dst in
    gives v i p (negated_term i.width a) (comparison i.width (Some (number 0)) a)

-- inc and dec
abbrev pub counted : Alu → View → Instr → Predicate → Predicate
counted o v i p = gives v i p (alu_term o i.width (read_term v i p i.width i.dst) (Some (number 1))) None

-- two halves in rdx:rax, of which nothing is known
abbrev pub with_halves : View → Instr → Predicate → Predicate
with_halves v i p = write_term v i (write_term v i p i.width (Reg rax) None) i.width (Reg rdx) None

-- mul, imul with one operand
abbrev pub multiplied : View → Instr → Predicate → Predicate
multiplied v i p = with_flags (with_halves v i p) None

-- div, idiv
abbrev pub divided : View → Instr → Predicate → Predicate
divided v i p = with_flags (with_halves v i p) None

-- imul with two or three operands: the product of two factors
abbrev pub scaled : Option PlainSum → Option PlainSum → View → Instr → Predicate → Predicate
scaled a b v i p = gives v i p (product_term i.width a b) None

-- rol, ror, shl, shr, sar
abbrev pub shifted : Shift → View → Instr → Predicate → Predicate
shifted o v i p = gives v i p (shift_term o i.width (read_term v i p i.width i.dst) i.src) None
