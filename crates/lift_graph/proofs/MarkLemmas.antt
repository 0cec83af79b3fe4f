-- How many vertices aren't taken
use Rattle.std.proofs.Common.{◌≡◌, ◌≢◌, ◌<◌, ◌≤◌, ◌+◌, ℕ, zero, suc, Bool, true, false, List, [], ◌∷◌, ◌++◌, length, set, replicate, refl, sym, ◌∙◌, subst, inl, inr, arith}
use Rattle.std.proofs.lemmas.Bool.{cases_eq, false≢true}
use Rattle.std.proofs.lemmas.List.{get_or-set_same, get_or-set_other}
use Rattle.lift_graph.specs.Rows.{is_set}
use Rattle.lift_graph.specs.Search.{unset}

pub unset_set : (marks : List Bool) (v : ℕ) → v < length marks → is_set marks v ≡ false → unset (set marks v true) + 1 ≡ unset marks
unset_set [] v h e = absurd (omega arith)
unset_set (true ∷ bs) zero h e = absurd (false≢true (sym e))
unset_set (false ∷ bs) zero h e = refl
unset_set (true ∷ bs) (suc v) h e = unset_set bs v (omega arith) e
unset_set (false ∷ bs) (suc v) h e = let t = unset_set bs v (omega arith) e in omega arith

pub unset_push : (marks : List Bool) (b : Bool) → unset (marks ++ b ∷ []) ≤ unset marks + 1
unset_push [] true = omega arith
unset_push [] false = omega arith
unset_push (true ∷ bs) b = unset_push bs b
unset_push (false ∷ bs) b = let t = unset_push bs b in omega arith

pub unmarked : (n v : ℕ) → is_set (replicate n false) v ≡ false
unmarked zero v = refl
unmarked (suc n) zero = refl
unmarked (suc n) (suc v) = unmarked n v

pub is_set_same : (marks : List Bool) (v : ℕ) → v < length marks → is_set (set marks v true) v ≡ true
is_set_same marks v h = get_or-set_same marks v true false h

pub is_set_other : (marks : List Bool) (v u : ℕ) → u ≢ v → is_set (set marks v true) u ≡ is_set marks u
is_set_other marks v u n = get_or-set_other marks v u true false n

pub is_set_grows : (marks : List Bool) (v u : ℕ) → v < length marks → is_set marks u ≡ true → is_set (set marks v true) u ≡ true
is_set_grows marks v u l h = elim (cases_eq u v) as (λ _. is_set (set marks v true) u ≡ true) [ inl e ↦ subst (λ w. is_set (set marks v true) w ≡ true) (sym e) (is_set_same marks v l) | inr n ↦ is_set_other marks v u n ∙ h ]

pub is_set_push : (marks : List Bool) (b : Bool) (v : ℕ) → v < length marks → is_set (marks ++ b ∷ []) v ≡ is_set marks v
is_set_push [] b v h = absurd (omega arith)
is_set_push (x ∷ xs) b zero h = refl
is_set_push (x ∷ xs) b (suc v) h = is_set_push xs b v (omega arith)

-- a mark more that isn't set
pub is_set_push_false : (marks : List Bool) (v : ℕ) → is_set (marks ++ false ∷ []) v ≡ is_set marks v
is_set_push_false [] zero = refl
is_set_push_false [] (suc v) = refl
is_set_push_false (x ∷ xs) zero = refl
is_set_push_false (x ∷ xs) (suc v) = is_set_push_false xs v

pub is_set_last : (marks : List Bool) (b : Bool) (v : ℕ) → v ≡ length marks → is_set (marks ++ b ∷ []) v ≡ b
is_set_last [] b zero h = refl
is_set_last [] b (suc v) h = absurd (omega arith)
is_set_last (x ∷ xs) b zero h = absurd (omega arith)
is_set_last (x ∷ xs) b (suc v) h = is_set_last xs b v (omega arith)

pub length_more : (marks : List Bool) (b : Bool) → length (marks ++ b ∷ []) ≡ length marks + 1
length_more [] b = refl
length_more (x ∷ xs) b = let e = length_more xs b in omega arith
