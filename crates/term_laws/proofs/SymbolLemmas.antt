-- Which terms are a symbol alone.
use Rattle.std.proofs.Common.{◌≡◌, ◌↔◌, Bool, true, false, ◌==◌, ◌&&◌, if◌then◌else◌, Some, None, refl, ap, arith}
use Rattle.std.proofs.lemmas.Bool.Decides.{nat_tests}
use Rattle.sym_terms.specs.declared.kinds.Sym.{Sym}
use Rattle.sym_terms.specs.Plain.{PlainSum, sum, none, more, symbol, fitted, paired, single_atom, symbol_alone}

-- nothing is no symbol, whatever the test
no_symbol : (b : Bool) (s : Sym) → (if b then None else None) ≡ Some s → true ≡ false
no_symbol true s e = absurd (cc)
no_symbol false s e = absurd (cc)

-- what is a symbol alone is that atom
symbol_from : (a : PlainSum) (s : Sym) → symbol_alone a ≡ Some s → a ≡ single_atom (symbol s)
symbol_from (sum c none) s e = absurd (cc)
symbol_from (sum c (more (symbol t) k none)) s e =
    (elim ((c == 0) && (k == 1)) as (λ b. ((c == 0) && (k == 1)) ≡ b → (if b then Some t else None) ≡ Some s → sum c (more (symbol t) k none) ≡ single_atom (symbol s)) [
      | true ↦ λ h f.
          let zero : c ≡ 0 = grind (arith, nat_tests) in
          let one : k ≡ 1 = grind (arith, nat_tests) in
          let same : t ≡ s = cc in
          λ i. sum (zero i) (more (symbol (same i)) (one i) none)
      | false ↦ λ h f. absurd (cc)
    ]) refl e
symbol_from (sum c (more (fitted f x) k none)) s e = let no : true ≡ false = no_symbol ((c == 0) && (k == 1)) s e in absurd (cc)
symbol_from (sum c (more (paired p x y) k none)) s e = let no : true ≡ false = no_symbol ((c == 0) && (k == 1)) s e in absurd (cc)
symbol_from (sum c (more x k (more y l ys))) s e = absurd (cc)

-- and the reverse
pub symbol_exactly : (a : PlainSum) (s : Sym) → (symbol_alone a ≡ Some s) ↔ (a ≡ single_atom (symbol s))
symbol_exactly a s = (symbol_from a s, λ e. ap symbol_alone e)
