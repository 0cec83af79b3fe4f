-- What list stands for a forest of numbers: the logic keeps it so.
use Rattle.std.specs.Prelude.{◌≡◌, ℕ, List, [], ◌∷◌, Option, Some, None}
use Rattle.std.specs.Coded.{Coded, coded_list, coded_ℕ, coded_option, coded×, code_by}
use Rattle.std.proofs.Common.{refl}
use Rattle.bank_values.specs.Numbered.{NumberForest, empty, spot, NumberNode}

-- a node's own parts
abbrev pub Own : Type 0
Own = List ℕ × (ℕ × Option ℕ)

-- how the logic keeps a node's own parts, or the end of a level
abbrev pub coded_own : Coded (Option Own)
coded_own = coded_option (coded× (coded_list coded_ℕ) (coded× coded_ℕ (coded_option coded_ℕ)))

-- a forest in preorder with the ends of its levels, in front of more
abbrev pub preorder : NumberForest → List (Option Own) → List (Option Own)
preorder empty more = None ∷ more
preorder (spot ns b v under rest) more = Some (ns, (b, v)) ∷ preorder under (preorder rest more)

-- forests with one preorder are the same, and so is what follows
pub preorder_same : (a b : NumberForest) (r s : List (Option Own)) → preorder a r ≡ preorder b s → (a ≡ b) × (r ≡ s)
preorder_same empty empty r s e = (refl, cc)
preorder_same empty (spot ns b v under rest) r s e = absurd (cc)
preorder_same (spot ns b v under rest) empty r s e = absurd (cc)
preorder_same (spot ns b v under rest) (spot ms c w below beside) r s e =
    let x : Own = (ns, (b, v)) in
    let y : Own = (ms, (c, w)) in
    let head : Some x ≡ Some y = cc in
    let own : x ≡ y = cc in
    let tail : preorder under (preorder rest r) ≡ preorder below (preorder beside s) = cc in
    let p = preorder_same under below (preorder rest r) (preorder beside s) tail in
    let q = preorder_same rest beside r s p.1 in
    (λ i. spot ((own i).0) ((own i).1.0) ((own i).1.1) (p.0 i) (q.0 i), q.1)

-- how the logic keeps a forest
abbrev pub coded_forest : Coded NumberForest
coded_forest = record {
  code = λ f. (coded_list coded_own).code (preorder f []);
  inj = λ a b e. (preorder_same a b [] [] ((coded_list coded_own).inj _ _ e)).0;
}

-- how the logic keeps a node
abbrev pub coded_node : Coded NumberNode
coded_node =
    code_by (List ℕ × (ℕ × (Option ℕ × NumberForest))) (coded× (coded_list coded_ℕ) (coded× coded_ℕ (coded× (coded_option coded_ℕ) coded_forest)))
    (λ c. (c.names, (c.bytes, (c.value, c.under))))
    (λ p. record { names = p.0; bytes = p.1.0; value = p.1.1.0; under = p.1.1.1 })
    (λ c. refl)
