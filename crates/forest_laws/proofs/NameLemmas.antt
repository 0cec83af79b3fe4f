-- One more name, and a symbol that goes, keep what a forest says.
use Rattle.std.specs.Prelude.{IsTrue, if◌then◌else◌, cond, not}
use Rattle.std.proofs.Common.{◌≡◌, ℕ, ◌+◌, ◌*◌, ◌%◌, ◌^◌, Bool, true, false, ◌||◌, List, [], ◌∷◌, Option, Some, None, refl, sym, ap, ap₂, subst, ◌∙◌}
use Rattle.std.specs.declared.cmp.Ordering.TheVariants.{Less, Equal, Greater}
use Rattle.std.specs.Ordering.{is_eq}
use Rattle.sym_terms.specs.declared.kinds.Sym.{Sym}
use Rattle.sym_terms.specs.Plain.{PlainSum, sum, Summands, none as no_piece, more, PlainAtom, symbol, fitted, paired}
use Rattle.sym_terms.specs.Order.{sum_cmp, sym_cmp}
use Rattle.sym_terms.specs.Numbers.{fit_number, pair_number}
use Rattle.sym_terms.specs.Mentions.{mentions, mentions_in_pieces, mentions_in_atom}
use Rattle.sym_terms.specs.Value.{Valuation, value, value_of_symbol, value_of_pieces, value_of_atom}
use Rattle.mem_forest.specs.Plain.{PlainForest, none, cell}
use Rattle.mem_forest.specs.Shape.{is_size}
use Rattle.mem_forest.specs.Search.{is_here, found}
use Rattle.mem_forest.specs.Levels.{insert}
use Rattle.mem_forest.specs.Alias.{with_name, renamed, can_alias, alias}
use Rattle.mem_forest.specs.Forget.{unmentioned, unmentioned_value, insert_named, forget}
use Rattle.x86_machine.specs.Memory.{loaded}
use Rattle.forest_meaning.specs.Separate.{Separate, Within}
use Rattle.forest_meaning.specs.Holds.{Tells, AllAre, address, EachNode, Holds}
use Rattle.forest_laws.proofs.RelationLemmas.{here_at}
use Rattle.forest_laws.proofs.LevelLemmas.{insert_each, insert_holds}

-- ---- one more name

with_named : (u : Valuation) (x : ℕ) (t : PlainSum) (ns : List PlainSum) → value u t ≡ x → AllAre u x ns → AllAre u x (with_name t ns)
with_named u x t [] e h = (e, tt)
with_named u x t (n ∷ ns) e h = elim (sum_cmp t n) as (λ o. AllAre u x (elim o as (λ o. List PlainSum) [ Less ↦ t ∷ n ∷ ns | Equal ↦ n ∷ ns | Greater ↦ n ∷ with_name t ns ])) [
  | Less ↦ (e, h)
  | Equal ↦ h
  | Greater ↦ (h.0, with_named u x t ns e h.1)
]

add_address : (u : Valuation) (x : ℕ) (t : PlainSum) (ns : List PlainSum) → value u t ≡ x → AllAre u x ns → address u (with_name t ns) ≡ x
add_address u x t [] e h = e
add_address u x t (n ∷ ns) e h = elim (sum_cmp t n) as (λ o. address u (elim o as (λ o. List PlainSum) [ Less ↦ t ∷ n ∷ ns | Equal ↦ n ∷ ns | Greater ↦ n ∷ with_name t ns ]) ≡ x) [
  | Less ↦ e
  | Equal ↦ h.0
  | Greater ↦ h.0
]

module _ (m : ℕ → ℕ) (u : Valuation) (t at : PlainSum) (a : ℕ) (alias : value u t ≡ value u at) where
  pub name_each : (P : ℕ → ℕ → Type 0) (f : PlainForest) → Holds m u f → EachNode u P f → EachNode u P (renamed t at a f)
  name_each P none h e = tt
  name_each P (cell ns b v under rest) h e =
      (elim (is_here at a ns b) as (λ o. is_here at a ns b ≡ o → EachNode u P (if o then insert (with_name t ns) b v under rest
      else if found at a under then cell ns b v (renamed t at a under) rest else insert ns b v under (renamed t at a rest))) [
        | true ↦ λ g. insert_each u P (with_name t ns) b v under rest (subst (λ x. P x b) (sym (add_address u (address u ns) t ns (alias ∙ sym (here_at u at a ns b h.0.named g)) h.0.named)) e.0) e.1
        | false ↦ λ g. elim (found at a under) as (λ o. EachNode u P (if o then cell ns b v (renamed t at a under) rest else insert ns b v under (renamed t at a rest))) [
          | true ↦ e
          | false ↦ insert_each u P ns b v under (renamed t at a rest) e.0 (name_each P rest h.2 e.1)
        ]
      ]) refl

  pub name_holds : (f : PlainForest) → Holds m u f → Holds m u (renamed t at a f)
  name_holds none h = tt
  name_holds (cell ns b v under rest) h =
      (elim (is_here at a ns b) as (λ o. is_here at a ns b ≡ o → Holds m u (if o then insert (with_name t ns) b v under rest
      else if found at a under then cell ns b v (renamed t at a under) rest else insert ns b v under (renamed t at a rest))) [
        | true ↦ λ g.
            let here : value u t ≡ address u ns = alias ∙ sym (here_at u at a ns b h.0.named g) in
            let back : address u ns ≡ address u (with_name t ns) = sym (add_address u (address u ns) t ns here h.0.named) in
            insert_holds m u (with_name t ns) b v under rest (
              record {
                sized = h.0.sized;
                named = subst (λ x. AllAre u x (with_name t ns)) back (with_named u (address u ns) t ns here h.0.named);
                valued = subst (λ x. Tells u v (loaded m b x)) back h.0.valued;
                inside = subst (λ x. EachNode u (λ y c. Within y c x b) under) back h.0.inside;
                separate = subst (λ x. EachNode u (λ y c. Separate x b y c) rest) back h.0.separate;
              },
              h.1,
              h.2,
            )
        | false ↦ λ g. elim (found at a under) as (λ o. Holds m u (if o then cell ns b v (renamed t at a under) rest else insert ns b v under (renamed t at a rest))) [
          | true ↦ (
            record { sized = h.0.sized; named = h.0.named; valued = h.0.valued; inside = name_each (λ z c. Within z c (address u ns) b) under h.1 h.0.inside; separate = h.0.separate },
            name_holds under h.1,
            h.2,
          )
          | false ↦ insert_holds m u ns b v under (renamed t at a rest) (
            record { sized = h.0.sized; named = h.0.named; valued = h.0.valued; inside = h.0.inside; separate = name_each (λ z c. Separate (address u ns) b z c) rest h.2 h.0.separate },
            h.1,
            name_holds rest h.2,
          )
        ]
      ]) refl

pub alias_holds : (m : ℕ → ℕ) (u : Valuation) (t : PlainSum) (a : ℕ) (at : PlainSum) (b : ℕ) → value u t ≡ value u at → (f : PlainForest) → Holds m u f → Holds m u (alias t a at b f)
alias_holds m u t a at b e f h = elim (can_alias t a at b f) as (λ x. Holds m u (if x then renamed t at b f else f)) [
  | true ↦ name_holds m u t at b e f h
  | false ↦ h
]

-- the regions of a level stay as they are
pub alias_each : (m : ℕ → ℕ) (u : Valuation) (P : ℕ → ℕ → Type 0) (t : PlainSum) (a : ℕ) (at : PlainSum) (b : ℕ) → value u t ≡ value u at → (f : PlainForest) → Holds m u f → EachNode u P f → EachNode u P (alias t a at b f)
alias_each m u P t a at b same f h e = elim (can_alias t a at b f) as (λ x. EachNode u P (if x then renamed t at b f else f)) [
  | true ↦ name_each m u t at b same P f h e
  | false ↦ e
]

-- ---- a symbol that goes

or_false : (p q : Bool) → (p || q) ≡ false → (p ≡ false) × (q ≡ false)
or_false true q e = absurd (cc)
or_false false q e = (refl, e)

module _ (s : Sym) (u u' : Valuation) (others : (t : Sym) → is_eq (sym_cmp s t) ≡ false → value_of_symbol u' t ≡ value_of_symbol u t) where
  mutual
    pub value_same : (a : PlainSum) → mentions s a ≡ false → value u' a ≡ value u a
    value_same (sum c xs) e = ap (λ n. (c + n) % 2 ^ 64) (pieces_same xs e)

    pieces_same : (xs : Summands) → mentions_in_pieces s xs ≡ false → value_of_pieces u' xs ≡ value_of_pieces u xs
    pieces_same no_piece e = refl
    pieces_same (more a k xs) e = let p = or_false (mentions_in_atom s a) (mentions_in_pieces s xs) e in ap₂ (λ n r. k * n + r) (atom_same a p.0) (pieces_same xs p.1)

    atom_same : (a : PlainAtom) → mentions_in_atom s a ≡ false → value_of_atom u' a ≡ value_of_atom u a
    atom_same (symbol t) e = others t e
    atom_same (fitted f a) e = ap (fit_number f) (value_same a e)
    atom_same (paired p a b) e = let q = or_false (mentions s a) (mentions s b) e in ap₂ (pair_number p) (value_same a q.0) (value_same b q.1)

  -- the names that stay have one value
  names_same : (x : ℕ) (ns : List PlainSum) → AllAre u x ns → AllAre u' x (unmentioned s ns)
  names_same x [] h = tt
  names_same x (n ∷ ns) h = (elim (mentions s n) as (λ o. mentions s n ≡ o → AllAre u' x (cond (not o) (n ∷ unmentioned s ns) (unmentioned s ns))) [
    | true ↦ λ e. names_same x ns h.1
    | false ↦ λ e. (value_same n e ∙ h.0, names_same x ns h.1)
  ]) refl

  -- the value that stays is the same number
  number_same : (k : ℕ) (v : Option PlainSum) → Tells u v k → Tells u' (unmentioned_value s v) k
  number_same k None h = tt
  number_same k (Some v) h = (elim (mentions s v) as (λ o. mentions s v ≡ o → Tells u' (if o then None else Some v) k) [
    | true ↦ λ e. tt
    | false ↦ λ e. record { normal = h.normal; value = value_same v e ∙ h.value }
  ]) refl

  named_each : (P : ℕ → ℕ → Type 0) (x : ℕ) (ns : List PlainSum) (b : ℕ) (v : Option PlainSum) (under rest : PlainForest) → AllAre u' x ns → P x b → EachNode u' P rest → EachNode u' P (insert_named ns b v under rest)
  named_each P x [] b v under rest h p e = e
  named_each P x (n ∷ ns) b v under rest h p e = insert_each u' P (n ∷ ns) b v under rest (subst (λ y. P y b) (sym h.0) p) e

  pub forget_each : (m : ℕ → ℕ) (P : ℕ → ℕ → Type 0) (f : PlainForest) → Holds m u f → EachNode u P f → EachNode u' P (forget s f)
  forget_each m P none h e = tt
  forget_each m P (cell ns b v under rest) h e =
      named_each P (address u ns) (unmentioned s ns) b (unmentioned_value s v) (forget s under) (forget s rest) (names_same (address u ns) ns h.0.named) e.0 (forget_each m P rest h.2 e.1)

  named_holds : (m : ℕ → ℕ) (x : ℕ) (ns : List PlainSum) (b : ℕ) (v : Option PlainSum) (under rest : PlainForest) → IsTrue (is_size b) → AllAre u' x ns → Tells u' v (loaded m b x)
      → EachNode u' (λ y c. Within y c x b) under → EachNode u' (λ y c. Separate x b y c) rest → Holds m u' under → Holds m u' rest → Holds m u' (insert_named ns b v under rest)
  named_holds m x [] b v under rest s h n i p hu hr = hr
  named_holds m x (t ∷ ns) b v under rest s h n i p hu hr =
      let back : x ≡ value u' t = sym h.0 in
      insert_holds m u' (t ∷ ns) b v under rest (
        record {
          sized = s;
          named = subst (λ y. AllAre u' y (t ∷ ns)) back h;
          valued = subst (λ y. Tells u' v (loaded m b y)) back n;
          inside = subst (λ y. EachNode u' (λ z c. Within z c y b) under) back i;
          separate = subst (λ y. EachNode u' (λ z c. Separate y b z c) rest) back p;
        },
        hu,
        hr,
      )

  pub forget_holds : (m : ℕ → ℕ) (f : PlainForest) → Holds m u f → Holds m u' (forget s f)
  forget_holds m none h = tt
  forget_holds m (cell ns b v under rest) h =
      named_holds m (address u ns) (unmentioned s ns) b (unmentioned_value s v) (forget s under) (forget s rest) h.0.sized (names_same (address u ns) ns h.0.named) (number_same _ v h.0.valued)
      (forget_each m (λ y c. Within y c (address u ns) b) under h.1 h.0.inside) (forget_each m (λ y c. Separate (address u ns) b y c) rest h.2 h.0.separate)
      (forget_holds m under h.1) (forget_holds m rest h.2)
