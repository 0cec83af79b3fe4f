-- What is known of operands, and what is known after a load and after a write of one: the twins of the machine's words.
use Rattle.std.specs.Prelude.{ℕ, Bool, true, false, if◌then◌else◌, Option, Some, None, slice_set}
use Rattle.std.specs.Option.{option_and_then, option_map, option_or}
use Rattle.bits_core.specs.declared.width.Width.{Width}
use Rattle.bits_core.specs.declared.width.Width.TheVariants.{W8, W16, W32, W64}
use Rattle.bits_core.specs.Width.{bytes_of}
use Rattle.elf_image.specs.Image.{fixed_of}
use Rattle.sym_terms.specs.declared.kinds.Sym.TheVariants.{FsBase}
use Rattle.sym_terms.specs.declared.kinds.Fit.TheVariants.{Zx8}
use Rattle.sym_terms.specs.declared.kinds.Pair.TheVariants.{Shr}
use Rattle.sym_terms.specs.Plain.{PlainSum, single_atom, symbol, constant_alone}
use Rattle.sym_terms.specs.Normal.{plus, times, fit, pair}
use Rattle.memory_regions.specs.Relate.{relate}
use Rattle.mem_forest.specs.Plain.{PlainForest, none}
use Rattle.mem_forest.specs.Search.{value_at}
use Rattle.mem_forest.specs.Store.{store}
use Rattle.mem_forest.specs.Load.{load}
use Rattle.predicates.specs.Predicate.{Predicate}
use Rattle.x86_instr.specs.declared.instr.Place.{Place}
use Rattle.x86_instr.specs.declared.instr.Operand.{Operand}
use Rattle.x86_instr.specs.declared.instr.Operand.TheVariants as operand
use Rattle.x86_instr.specs.declared.instr.Instr.{Instr}
use Rattle.x86_instr.specs.Fits.{is_place}
unfoldable pub use Rattle.predicate_meaning.specs.Sat.{register}
use Rattle.step_rules.specs.View.{View}
use Rattle.step_rules.specs.Terms.{number, apply, apply_both, cut_term}
use Rattle.step_rules.specs.Names.{register_name, store_name, load_name}

-- the predicate with another term for a register
unfoldable pub with_register : Predicate → ℕ → Option PlainSum → Predicate
with_register p r t = record p { regs = slice_set p.regs r t }

-- ---- addresses

-- the term of a base or an index, 0 where there is none
unfoldable pub part_term : Predicate → Option ℕ → Option PlainSum
part_term p None = Some (number 0)
part_term p (Some r) = register p r

-- the base of the segment that a place counts from: the FS base, or 0
abbrev pub segment_term : Bool → PlainSum
segment_term true = single_atom (symbol FsBase)
segment_term false = number 0

-- base + scale * index + displacement + segment; only the whole sum has the limit of 32 nodes
abbrev pub address_sum : Place → PlainSum → PlainSum → PlainSum
address_sum pl base index =
    plus (plus (plus base (times pl.scale index)) (number pl.disp)) (segment_term pl.fs)

-- the effective address of a place; None where a register is unknown or the sum is over the limit
unfoldable pub address_term : Predicate → Place → Option PlainSum
address_term p pl = apply_both (address_sum pl) (part_term p pl.base) (part_term p pl.index)

-- the effective address of an operand; None also where it is not in memory
unfoldable pub address_term_of : Predicate → Operand → Option PlainSum
address_term_of p operand.None = None
address_term_of p (operand.Reg r) = None
address_term_of p (operand.High r) = None
address_term_of p (operand.Imm n) = None
address_term_of p (operand.Mem pl) = address_term p pl

-- the address of a place; an unknown one is the site's name, where that stands for the address of the store
-- (an instruction that only reads its place never names a store, so a place that is read may go by this as well)
abbrev pub store_term : Instr → Predicate → Place → Option PlainSum
store_term i p pl = option_or (address_term p pl) (store_name i)

-- ---- reading

-- the number in fixed bytes; None where the address is not constant or no one fixed segment holds the bytes
abbrev pub fixed_term : View → PlainSum → ℕ → Option PlainSum
fixed_term v at n =
    option_map number (option_and_then (λ c. fixed_of v.known.image c n) (constant_alone at))

-- n bytes at an address: fixed ones, else those of a cell; None where neither is known
unfoldable pub bytes_term : View → PlainForest → ℕ → Option PlainSum → Option PlainSum
bytes_term v f n None = None
bytes_term v f n (Some at) = option_or (fixed_term v at n) (value_at at n f)

-- an operand at a width; None where it is unknown but for the name of a load
unfoldable pub known_term : View → Instr → Predicate → Width → Operand → Option PlainSum
known_term v i p w operand.None = None
known_term v i p w (operand.Reg r) = cut_term w (register p r)
known_term v i p w (operand.High r) =
    apply (fit Zx8) (apply (λ t. pair Shr t (number 8)) (register p r))
known_term v i p w (operand.Imm n) = Some (number n)
known_term v i p w (operand.Mem pl) = bytes_term v p.forest (bytes_of w) (store_term i p pl)

-- an operand in memory by the site's name, where its number is the low bits of that
abbrev pub operand_name : Instr → Width → Operand → Option PlainSum
operand_name i w o = if is_place o then load_name i w else None

-- an operand at a width; a loaded one that is unknown by the site's name, where it is
unfoldable pub read_term : View → Instr → Predicate → Width → Operand → Option PlainSum
read_term v i p w o = option_or (known_term v i p w o) (operand_name i w o)

-- a forest after a load of n bytes, which gives a cell without a value the name; fixed bytes change nothing
abbrev pub forest_after_load : View → PlainSum → ℕ → Option PlainSum → Option PlainSum → PlainForest → PlainForest
forest_after_load v at n (Some t) name f = f
forest_after_load v at n None name f = load (relate v.known at n) at n name f

-- the predicate after a load of a width from an address; a load from an unknown one changes nothing
abbrev pub loaded_from : View → Instr → Predicate → Width → Option PlainSum → Predicate
loaded_from v i p w None = p
loaded_from v i p w (Some at) = record p {
  forest = forest_after_load v at (bytes_of w) (fixed_term v at (bytes_of w)) (load_name i w) p.forest;
}

-- the predicate after an operand was read; one that is not in memory changes nothing
unfoldable pub after_read : View → Instr → Predicate → Width → Operand → Predicate
after_read v i p w o = loaded_from v i p w (address_term_of p o)

-- ---- writing

-- a register after a result of a width: at 32 and 64 bits the result, else the name where that stands for the register;
-- at 8 and 16 bits, which keep the rest, the name alone
unfoldable pub merged_term : Instr → ℕ → Width → Option PlainSum → Option PlainSum
merged_term i r W8 t = register_name i r
merged_term i r W16 t = register_name i r
merged_term i r W32 t = option_or t (register_name i r)
merged_term i r W64 t = option_or t (register_name i r)

-- the predicate after a store of n bytes, whose number may be unknown; after one at an unknown address nothing is known
-- of memory
unfoldable pub with_bytes : View → Predicate → ℕ → Option PlainSum → Option PlainSum → Predicate
with_bytes v p n None t = record p { forest = none }
with_bytes v p n (Some at) t = record p { forest = store (relate v.known at n) at n t p.forest }

-- the predicate after a result, which may be unknown, was written to an operand at a width
unfoldable pub write_term : View → Instr → Predicate → Width → Operand → Option PlainSum → Predicate
write_term v i p w operand.None t = p
write_term v i p w (operand.Reg r) t = with_register p r (merged_term i r w t)
write_term v i p w (operand.High r) t = with_register p r (register_name i r)
write_term v i p w (operand.Imm n) t = p
write_term v i p w (operand.Mem pl) t = with_bytes v p (bytes_of w) (store_term i p pl) t
