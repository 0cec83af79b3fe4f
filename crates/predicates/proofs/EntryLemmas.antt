-- The registers at the entry, one after another.
use Rattle.std.proofs.Common.{◌≡◌, ℕ, zero, suc, ◌+◌, List, [], ◌∷◌, ◌++◌, length, length-append, Option, Some, refl, sym, ap, ◌∙◌, add-one, arith}
use Rattle.sym_terms.specs.declared.kinds.Sym.TheVariants.{Entry}
use Rattle.sym_terms.specs.Plain.{PlainSum, single_atom, symbol}
use Rattle.predicates.specs.Entry.{entry_registers}

-- there are as many as were asked for
pub length_entries : (n : ℕ) → length (entry_registers n) ≡ n
length_entries zero = refl
length_entries (suc n) =
    let e = length_entries n in
    let f : length (entry_registers n ++ Some (single_atom (symbol (Entry n))) ∷ []) ≡ length (entry_registers n) + 1 = length-append (entry_registers n) _ in
    f ∙ (omega (arith, e))

-- one more register
pub entry_step : (n : ℕ) (rs more : List (Option PlainSum)) → more ≡ rs ++ Some (single_atom (symbol (Entry n))) ∷ [] → rs ≡ entry_registers n → more ≡ entry_registers (n + 1)
entry_step n rs more e h = e ∙ ap (λ x. x ++ Some (single_atom (symbol (Entry n))) ∷ []) h ∙ sym (ap entry_registers (add-one n))
