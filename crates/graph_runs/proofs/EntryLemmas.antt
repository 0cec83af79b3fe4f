-- The entry predicate holds of each state in range, under the valuation that begins there.
use Rattle.std.proofs.Common.{◌≡◌, ℕ, zero, suc, ◌<◌, ◌≤◌, inl, inr, Some, None, [], ◌∷◌, length, get_or, refl, sym, ap, subst, ◌∙◌, arith}
use Rattle.std.proofs.lemmas.Bool.{cases_eq, cases_lt}
use Rattle.std.proofs.lemmas.List.{get_or_past, get_or_at, get_or_append_left, length-append}
use Rattle.sym_terms.specs.declared.kinds.Sym.TheVariants.{Entry, Ra}
use Rattle.sym_terms.specs.Plain.{single_atom, symbol}
use Rattle.sym_terms.specs.Value.{Valuation, IsInRange, value}
use Rattle.term_laws.specs.Laws.{NormalLaws, ValueLaws}
use Rattle.predicates.specs.Entry.{entry_registers, entry_predicate}
use Rattle.x86_machine.specs.Memory.{loaded}
use Rattle.x86_machine.specs.State.{State, IsState, reg, rsp}
use Rattle.machine_laws.proofs.StateLemmas.{reg_below, quad_below}
use Rattle.forest_meaning.specs.Holds.{Means, Tells}
use Rattle.predicate_meaning.specs.Begin.{fresh}
use Rattle.predicate_meaning.specs.Sat.{register, Sat}
use Rattle.graph_runs.specs.Laws.{EntryLaw}

entry_count : (n : ℕ) → length (entry_registers n) ≡ n
entry_count zero = refl
entry_count (suc n) = length-append (entry_registers n) (Some (single_atom (symbol (Entry n))) ∷ []) ∙ omega (arith, entry_count n)

module _ (normal : NormalLaws) (values : (u : Valuation) → IsInRange u → ValueLaws u) (s : State) (is : IsState s) where
  in_range : IsInRange (fresh s)
  in_range = record {
    entries = λ r lt. reg_below s r is;
    return_address = quad_below s (reg s rsp) is;
    fs_base = is.fs_base;
    names = λ a. omega arith;
  }

  entry_means : (r : ℕ) → r < 16 → Means (fresh s) (single_atom (symbol (Entry r))) (reg s r)
  entry_means r lt = record { normal = normal.symbols (Entry r) lt; value = (values (fresh s) in_range).symbols (Entry r) lt }

  entry_tells : (n r : ℕ) → n ≤ 16 → Tells (fresh s) (get_or (entry_registers n) r None) (reg s r)
  entry_tells zero r h = tt
  entry_tells (suc n) r h = elim (cases_lt r n) [
    | inl lt ↦ subst (λ t. Tells (fresh s) t (reg s r)) (sym (get_or_append_left (entry_registers n) (Some (single_atom (symbol (Entry n))) ∷ []) None r (omega (arith, entry_count n)))) (entry_tells n r (omega arith))
    | inr past ↦ elim (cases_eq r n) [
      | inl e ↦
          subst (λ t. Tells (fresh s) t (reg s r)) (sym (get_or_at (entry_registers n) (Some (single_atom (symbol (Entry n)))) [] None r (entry_count n ∙ sym e)))
          (subst (λ m. Tells (fresh s) (Some (single_atom (symbol (Entry m)))) (reg s r)) e (entry_means r (omega arith)))
      | inr ne ↦ subst (λ t. Tells (fresh s) t (reg s r)) (sym (get_or_past (entry_registers (suc n)) r None (omega (arith, entry_count (suc n))))) tt
    ]
  ]

  top : value (fresh s) (single_atom (symbol (Entry 4))) ≡ reg s 4
  top = (values (fresh s) in_range).symbols (Entry 4) (omega arith)

  back : Means (fresh s) (single_atom (symbol Ra)) (loaded s.memory 8 (value (fresh s) (single_atom (symbol (Entry 4)))))
  back = record {
    normal = normal.symbols Ra tt;
    value = (values (fresh s) in_range).symbols Ra tt ∙ ap (λ x. loaded s.memory 8 x) (sym top);
  }

  entry_sat : Sat entry_predicate s (fresh s)
  unfolding register
  entry_sat = record {
    range = in_range;
    fs_base = refl;
    registers = λ r. entry_tells 16 r (omega arith);
    flags = tt;
    bounds = λ k d lt. absurd (omega (arith, lt));
    forest = (record { sized = refl; named = (refl, tt); valued = back; inside = tt; separate = tt }, tt, tt);
  }

pub entry_holds : NormalLaws → ((u : Valuation) → IsInRange u → ValueLaws u) → EntryLaw
entry_holds normal values s is = entry_sat normal values s is
