-- What is known after instructions that move data: the twins of the machine's words.
use Rattle.std.specs.Prelude.{ℕ, true, false, Option, Some, None, List}
use Rattle.std.specs.Option.{option_or}
use Rattle.bits_core.specs.declared.width.Width.TheVariants.{W8, W64}
use Rattle.sym_terms.specs.Plain.{PlainSum}
use Rattle.predicates.specs.Predicate.{Predicate}
use Rattle.x86_instr.specs.declared.instr.Operand.TheVariants.{Reg}
use Rattle.x86_instr.specs.declared.instr.Instr.{Instr}
use Rattle.x86_instr.specs.Registers.{rax, rdx, rsp, rbp}
use Rattle.x86_machine.specs.Moves.{half_of}
use Rattle.step_rules.specs.View.{View}
use Rattle.step_rules.specs.Terms.{cut_term, sext_term, plus_number, minus_number}
use Rattle.step_rules.specs.Names.{name_term, store_name}
use Rattle.step_rules.specs.Access.{register, with_register, address_term_of, bytes_term, known_term, read_term, after_read, loaded_from, with_bytes, write_term}
use Rattle.step_rules.specs.Tables.{table_of, with_values}

-- ---- mov and its kin

-- a loaded number that replaces the first operand; one of a table's is the name, which is one of its numbers
abbrev pub by_table : View → Instr → Predicate → Option (List ℕ) → Option PlainSum → Predicate
by_table v i p None t = write_term v i p i.width i.dst t
by_table v i p (Some numbers) t = write_term v i (with_values i numbers p) i.width i.dst None

-- mov
abbrev pub moved : View → Instr → Predicate → Predicate
moved v i p =
    by_table v i (after_read v i p i.src_width i.src) (table_of v i p false)
    (cut_term i.width (read_term v i p i.src_width i.src))

-- movzx, and mov too, whose operands have one width
abbrev pub extended_by_zeros : View → Instr → Predicate → Predicate
extended_by_zeros v i p = moved v i p

-- movsx; a load that is known by the name alone gives an unknown result
abbrev pub extended_by_sign : View → Instr → Predicate → Predicate
extended_by_sign v i p =
    by_table v i (after_read v i p i.src_width i.src) (table_of v i p true)
    (cut_term i.width (sext_term i.src_width (known_term v i p i.src_width i.src)))

-- lea
abbrev pub addressed : View → Instr → Predicate → Predicate
addressed v i p = write_term v i p i.width i.dst (cut_term i.width (address_term_of p i.src))

-- xchg
abbrev pub exchanged : View → Instr → Predicate → Predicate
exchanged v i p =
    write_term v i
    (write_term v i (after_read v i p i.width i.dst) i.width i.dst (read_term v i p i.width i.src))
    i.width i.src (read_term v i p i.width i.dst)

-- ---- the stack

-- the address of the eight bytes that the stack grows by
abbrev pub below_top : Predicate → Option PlainSum
below_top p = minus_number 8 (register p rsp)

-- push of a term; at an unknown address, which is the site's name where that stands for it, rsp stays unknown
abbrev pub pushed : View → Instr → Predicate → Option PlainSum → Predicate
pushed v i p t =
    with_register (with_bytes v p 8 (option_or (below_top p) (store_name i)) t) rsp (below_top p)

-- push of its operand
abbrev pub operand_pushed : View → Instr → Predicate → Predicate
operand_pushed v i p = pushed v i (after_read v i p W64 i.dst) (read_term v i p W64 i.dst)

-- the eight bytes at an address; by the name where they are unknown
abbrev pub quad_at : View → Instr → Predicate → Option PlainSum → Option PlainSum
quad_at v i p at = option_or (bytes_term v p.forest 8 at) (Some (name_term i))

-- the stack without its top
abbrev pub rsp_popped : View → Instr → Predicate → Predicate
rsp_popped v i p =
    with_register (loaded_from v i p W64 (register p rsp)) rsp (plus_number 8 (register p rsp))

-- pop
abbrev pub popped : View → Instr → Predicate → Predicate
popped v i p = write_term v i (rsp_popped v i p) W64 i.dst (quad_at v i p (register p rsp))

-- leave: rsp is the address after the saved rbp, which comes back
abbrev pub after_leave : View → Instr → Predicate → Predicate
after_leave v i p =
    let read = loaded_from v i p W64 (register p rbp) in
    with_register (with_register read rsp (plus_number 8 (register p rbp))) rbp (quad_at v i p (register p rbp))

-- ---- the others

-- cbw, cwde, cdqe
abbrev pub widened : View → Instr → Predicate → Predicate
widened v i p =
    write_term v i p i.width (Reg rax) (cut_term i.width (sext_term (half_of i.width) (register p rax)))

-- cwd, cdq, cqo: nothing is known of the sign
abbrev pub after_cwd : View → Instr → Predicate → Predicate
after_cwd v i p = write_term v i p i.width (Reg rdx) None

-- bswap: nothing is known of the turned bytes
abbrev pub swapped : View → Instr → Predicate → Predicate
swapped v i p = write_term v i p i.width i.dst None

-- cmov: nothing is known of the choice
abbrev pub after_cmov : View → Instr → Predicate → Predicate
after_cmov v i p = write_term v i p i.width i.dst None

-- setcc: nothing is known of the choice
abbrev pub after_setcc : View → Instr → Predicate → Predicate
after_setcc v i p = write_term v i p W8 i.dst None
