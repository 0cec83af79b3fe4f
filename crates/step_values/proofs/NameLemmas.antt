-- What the name stands for, by the register or the store alone; and that the low bits of the name are a small term.
use Rattle.std.proofs.Common.{◌≡◌, ℕ, true, false, Bool, Option, Some, None, refl}
use Rattle.std.specs.Prelude.{if◌then◌else◌, ◌==◌}
use Rattle.sym_terms.specs.declared.kinds.Sym.{Sym}
use Rattle.sym_terms.specs.declared.kinds.Fit.{Fit}
use Rattle.sym_terms.specs.declared.kinds.Fit.TheVariants.{Zx8, Zx16, Zx32, Sx8, Sx16, Sx32}
use Rattle.sym_terms.specs.Plain.{PlainSum, single_atom, symbol}
use Rattle.sym_terms.specs.Normal.{within_node_limit, fit}
use Rattle.x86_machine.specs.Named.{Name, Loaded, Register, Stored, Nothing}
use Rattle.x86_machine.specs.NameParts.{named_register, names_store}
use Rattle.step_rules.specs.Names.{if_register, if_stored}

-- the term where the register is the named one
abbrev pub term_for : Option ℕ → ℕ → PlainSum → Option PlainSum
term_for None r t = None
term_for (Some q) r t = if r == q then Some t else None

pub by_register : (n : Name) (r : ℕ) (t : PlainSum) → if_register n r t ≡ term_for (named_register n) r t
by_register Loaded r t = refl
by_register (Register q) r t = refl
by_register Stored r t = refl
by_register Nothing r t = refl

pub by_store : (n : Name) (t : PlainSum) → if_stored n t ≡ (if names_store n then Some t else None)
by_store Loaded t = refl
by_store (Register q) t = refl
by_store Stored t = refl
by_store Nothing t = refl

pub small_name : (f : Fit) (s : Sym) → within_node_limit (fit f (single_atom (symbol s))) ≡ Some (fit f (single_atom (symbol s)))
unfolding fit within_node_limit
small_name Zx8 s = refl
small_name Zx16 s = refl
small_name Zx32 s = refl
small_name Sx8 s = refl
small_name Sx16 s = refl
small_name Sx32 s = refl
