-- A forest that doesn't mention a symbol is left as it is when that is forgotten.
use Rattle.std.proofs.Common.{◌≡◌, ℕ, Bool, true, false, ◌||◌, ◌&&◌, List, [], ◌∷◌, Option, Some, None, refl, ap, ◌∙◌}
use Rattle.std.specs.Prelude.{if◌then◌else◌, filter, not, cond}
use Rattle.std.proofs.lemmas.Bool.{and_parts}
use Rattle.sym_terms.specs.declared.kinds.Sym.{Sym}
use Rattle.sym_terms.specs.Plain.{PlainSum}
use Rattle.sym_terms.specs.Mentions.{mentions}
use Rattle.mem_forest.specs.Plain.{PlainForest, none, cell}
use Rattle.mem_forest.specs.Shape.{shaped, is_formed, is_size, are_names, precedes, IsForest}
use Rattle.mem_forest.specs.Levels.{insert}
use Rattle.mem_forest.specs.Forget.{forget, unmentioned, unmentioned_value, insert_named}
use Rattle.mem_forest.specs.Mentioned.{forest_mentions, names_mention, value_mentions}

pub both_false : (p q : Bool) → (p || q) ≡ false → (p ≡ false) × (q ≡ false)
both_false true q e = absurd (cc)
both_false false q e = (refl, e)

unmentioned_same : (s : Sym) (ns : List PlainSum) → names_mention s ns ≡ false → unmentioned s ns ≡ ns
unmentioned_same s [] e = refl
unmentioned_same s (n ∷ ns) e =
    let p = both_false (mentions s n) (names_mention s ns) e in
    ap (λ t. cond (not t) (n ∷ unmentioned s ns) (unmentioned s ns)) p.0 ∙ ap (λ m. n ∷ m) (unmentioned_same s ns p.1)

value_same : (s : Sym) (v : Option PlainSum) → value_mentions s v ≡ false → unmentioned_value s v ≡ v
value_same s None e = refl
value_same s (Some v) e = ap (λ t. if t then None else Some v) e

insert_first : (ns : List PlainSum) (b : ℕ) (v : Option PlainSum) (under rest : PlainForest) → precedes ns b rest ≡ true → insert ns b v under rest ≡ cell ns b v under rest
insert_first ns b v under none e = refl
insert_first ns b v under (cell ms c w below rest) e =
    ap (λ t. if t then cell ns b v under (cell ms c w below rest) else cell ms c w below (insert ns b v under rest)) e

named_first : (ns : List PlainSum) (b : ℕ) (v : Option PlainSum) (under rest : PlainForest) → is_formed ns b ≡ true → precedes ns b rest ≡ true → insert_named ns b v under rest ≡ cell ns b v under rest
named_first [] b v under rest f e = absurd (let p = and_parts (is_size b) (are_names []) f in cc)
named_first (n ∷ ns) b v under rest f e = insert_first (n ∷ ns) b v under rest e

same_shaped : (s : Sym) (f : PlainForest) → forest_mentions s f ≡ false → shaped f ≡ true → forget s f ≡ f
same_shaped s none m h = refl
same_shaped s (cell ns b v under rest) m h =
    let p = both_false (names_mention s ns || value_mentions s v) (forest_mentions s under || forest_mentions s rest) m in
    let q = both_false (names_mention s ns) (value_mentions s v) p.0 in
    let r = both_false (forest_mentions s under) (forest_mentions s rest) p.1 in
    let g = and_parts (is_formed ns b && precedes ns b rest) (shaped under && shaped rest) h in
    let k = and_parts (is_formed ns b) (precedes ns b rest) g.0 in
    let l = and_parts (shaped under) (shaped rest) g.1 in
    (λ i. insert_named (unmentioned_same s ns q.0 i) b (value_same s v q.1 i) (same_shaped s under r.0 l.0 i) (same_shaped s rest r.1 l.1 i))
    ∙ named_first ns b v under rest k.0 k.1

-- what a forest doesn't mention can be forgotten with no change
pub forget_same : (s : Sym) (f : PlainForest) → forest_mentions s f ≡ false → IsForest f → forget s f ≡ f
forget_same s f m h = same_shaped s f m h.in_form
