-- What a name stands for, by the tests that the machine's code offers; and that its low bits are a small term.
use Rattle.std.proofs.Common.{◌≡◌, ℕ, Bool, true, false, Option, Some, None, refl, sym, subst}
use Rattle.std.specs.Prelude.{if◌then◌else◌, ◌==◌}
use Rattle.std.specs.Option.{option_map}
use Rattle.bits_core.specs.declared.width.Width.{Width}
use Rattle.bits_core.specs.declared.width.Width.TheVariants.{W8, W16, W32, W64}
use Rattle.sym_terms.specs.declared.kinds.Sym.{Sym}
use Rattle.sym_terms.specs.Plain.{PlainSum, single_atom, symbol}
use Rattle.sym_terms.specs.Normal.{within_node_limit, fit}
use Rattle.x86_instr.specs.declared.instr.Instr.{Instr}
use Rattle.x86_machine.specs.Named.{Name, Loaded, Register, Stored, Nothing, names}
use Rattle.x86_machine.specs.NameParts.{named_register, names_store}
use Rattle.step_rules.specs.Terms.{apply, zeros_term, cut_term}
use Rattle.step_rules.specs.Names.{if_register, if_stored, name, name_term, register_name}

-- a term, where the register is the one that is named
abbrev pub if_named : Option ℕ → ℕ → PlainSum → Option PlainSum
if_named None r t = None
if_named (Some q) r t = if r == q then Some t else None

pub register_by_parts : (n : Name) (r : ℕ) (t : PlainSum) → if_register n r t ≡ if_named (named_register n) r t
register_by_parts n r t =
    elim n as (λ n. if_register n r t ≡ if_named (named_register n) r t) [ Loaded ↦ refl | Register q ↦ refl | Stored ↦ refl | Nothing ↦ refl ]

pub store_by_parts : (n : Name) (t : PlainSum) → if_stored n t ≡ (if names_store n then Some t else None)
store_by_parts n t =
    elim n as (λ n. if_stored n t ≡ (if names_store n then Some t else None)) [ Loaded ↦ refl | Register q ↦ refl | Stored ↦ refl | Nothing ↦ refl ]

-- ---- the low bits of a name

pub name_cut : (w : Width) (s : Sym) → within_node_limit (zeros_term w (single_atom (symbol s))) ≡ Some (zeros_term w (single_atom (symbol s)))
unfolding fit within_node_limit
name_cut w s =
    elim w as (λ w. within_node_limit (zeros_term w (single_atom (symbol s))) ≡ Some (zeros_term w (single_atom (symbol s)))) [ W8 ↦ refl | W16 ↦ refl | W32 ↦ refl | W64 ↦ refl ]

cut_if : (b : Bool) (s : Sym) → apply (zeros_term W32) (if b then Some (single_atom (symbol s)) else None) ≡ option_map (zeros_term W32) (if b then Some (single_atom (symbol s)) else None)
cut_if true s = name_cut W32 s
cut_if false s = refl

cut_named : (o : Option ℕ) (r : ℕ) (s : Sym) → apply (zeros_term W32) (if_named o r (single_atom (symbol s))) ≡ option_map (zeros_term W32) (if_named o r (single_atom (symbol s)))
cut_named None r s = refl
cut_named (Some q) r s = cut_if (r == q) s

-- the name of a register is small, where it has one
pub register_name_cut : (i : Instr) (r : ℕ) → cut_term W32 (register_name i r) ≡ option_map (zeros_term W32) (register_name i r)
register_name_cut i r =
    subst (λ (o : Option PlainSum). apply (zeros_term W32) o ≡ option_map (zeros_term W32) o) (sym (register_by_parts (names i) r (name_term i)))
    (cut_named (named_register (names i)) r (name i))
