-- What list stands for a forest: the logic keeps it so.
use Rattle.std.specs.Prelude.{◌≡◌, ℕ, List, [], ◌∷◌, Option, Some, None}
use Rattle.std.specs.Coded.{Coded, coded_list, coded_ℕ, coded_option, coded×, code_by}
use Rattle.std.proofs.Common.{refl}
use Rattle.sym_terms.specs.Plain.{PlainSum}
use Rattle.sym_terms.specs.Codes.{coded_sum}
use Rattle.mem_forest.specs.Plain.{PlainForest, none, cell, PlainNode}

-- a node's own parts, or the end of a level
abbrev pub Mark : Type 0
Mark = Option (List PlainSum × (ℕ × Option PlainSum))

-- how the logic keeps a mark
abbrev pub coded_mark : Coded Mark
coded_mark = coded_option (coded× (coded_list coded_sum) (coded× coded_ℕ (coded_option coded_sum)))

-- the marks of a forest, in front of more
abbrev pub marks : PlainForest → List Mark → List Mark
marks none more = None ∷ more
marks (cell ns b v under rest) more = Some (ns, (b, v)) ∷ marks under (marks rest more)

-- forests with one list of marks are the same, and so is what follows
pub marks_same : (a b : PlainForest) (r s : List Mark) → marks a r ≡ marks b s → (a ≡ b) × (r ≡ s)
marks_same none none r s e = (refl, cc)
marks_same none (cell ns b v under rest) r s e = absurd (cc)
marks_same (cell ns b v under rest) none r s e = absurd (cc)
marks_same (cell ns b v under rest) (cell ms c w below beside) r s e =
    let x : List PlainSum × (ℕ × Option PlainSum) = (ns, (b, v)) in
    let y : List PlainSum × (ℕ × Option PlainSum) = (ms, (c, w)) in
    let head : Some x ≡ Some y = cc in
    let own : x ≡ y = cc in
    let tail : marks under (marks rest r) ≡ marks below (marks beside s) = cc in
    let p = marks_same under below (marks rest r) (marks beside s) tail in
    let q = marks_same rest beside r s p.1 in
    (λ i. cell ((own i).0) ((own i).1.0) ((own i).1.1) (p.0 i) (q.0 i), q.1)

-- how the logic keeps a forest
abbrev pub coded_cells : Coded PlainForest
coded_cells = record {
  code = λ f. (coded_list coded_mark).code (marks f []);
  inj = λ a b e. (marks_same a b [] [] ((coded_list coded_mark).inj _ _ e)).0;
}

-- the parts of a node
abbrev pub parts : PlainNode → (List PlainSum × (ℕ × (Option PlainSum × PlainForest)))
parts c = (c.names, (c.bytes, (c.value, c.under)))

-- the node of its parts
abbrev pub whole : (List PlainSum × (ℕ × (Option PlainSum × PlainForest))) → PlainNode
whole p = record { names = p.0; bytes = p.1.0; value = p.1.1.0; under = p.1.1.1 }

-- how the logic keeps a node
abbrev pub coded_cell : Coded PlainNode
coded_cell =
    code_by (List PlainSum × (ℕ × (Option PlainSum × PlainForest))) (coded× (coded_list coded_sum) (coded× coded_ℕ (coded× (coded_option coded_sum) coded_cells))) parts whole (λ c. refl)
