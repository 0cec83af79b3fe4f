-- Pieces: each is read in its turn.
use Rattle.std.proofs.Common.{◌≡◌, ℕ, Bool, true, List, [], ◌∷◌, ◌++◌, map, Option, Some, refl}
use Rattle.std.specs.List.{list_all}
use Rattle.std.proofs.lemmas.Bool.{and_from}
use Rattle.graph_data.specs.Parts.{Each}
use Rattle.graph_lines.specs.Syntax.{each_at}

-- a fact of one more element
pub each_push : {A : Type 0} (P : A → Type 0) (xs : List A) (x : A) → Each P xs → P x → Each P (xs ++ x ∷ [])
each_push P [] x all is = (is, tt)
each_push P (y ∷ ys) x all is = (all.0, each_push P ys x all.1 is)

-- what is written of each is read again
pub each_reads : {X : Type 0} (P : X → Type 0) (text : X → List ℕ) (read : List ℕ → Option X) → ((x : X) → P x → read (text x) ≡ Some x) → (xs : List X) → Each P xs → each_at read (map text xs) ≡ Some xs
each_reads P text read reads [] all = refl
each_reads P text read reads (x ∷ xs) all = rw (reads x all.0, each_reads P text read reads xs all.1) refl

-- what is written of each passes
pub each_passes : {X : Type 0} (P : X → Type 0) (text : X → List ℕ) (test : List ℕ → Bool) → ((x : X) → P x → test (text x) ≡ true) → (xs : List X) → Each P xs → list_all test (map text xs) ≡ true
each_passes P text test passes [] all = refl
each_passes P text test passes (x ∷ xs) all = and_from (test (text x)) (list_all test (map text xs)) (passes x all.0) (each_passes P text test passes xs all.1)
