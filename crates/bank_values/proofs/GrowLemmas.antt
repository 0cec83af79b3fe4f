-- Lists of terms that grow while one thing after another is put into them.
use Rattle.std.proofs.Common.{◌≡◌, ℕ, suc, ◌+◌, ◌<◌, ◌≤◌, List, [], ◌∷◌, ◌++◌, length, take, get_or, map, refl, ap, ap₂, ◌∙◌, arith}
use Rattle.std.proofs.Math.Seq.{take-suc}
use Rattle.std.specs.Prelude.{All}
use Rattle.std.proofs.lemmas.List.{map-append}
use Rattle.std.proofs.lemmas.List.Elements.{All-nil, All-cons, All-head, All-tail, All-append}
use Rattle.sym_terms.specs.Plain.{PlainSum}
use Rattle.term_bank.specs.Terms.{Grows}

-- a list begins with itself
pub grows_refl : (ts : List PlainSum) → Grows ts ts
grows_refl ts = record { longer = omega arith; same = λ n h. refl }

-- a list that begins with one that begins with another begins with that
pub grows_trans : (a b c : List PlainSum) → Grows a b → Grows b c → Grows a c
grows_trans a b c g h = record { longer = omega (arith, g.longer, h.longer); same = λ n l. h.same n (omega (arith, l, g.longer)) ∙ g.same n l }

-- one fact of each item gives another
pub all_from : {A : Type 0} (P Q : A → Type 0) → ((a : A) → P a → Q a) → (xs : List A) → All P xs → All Q xs
all_from P Q f [] h = All-nil Q
all_from P Q f (x ∷ xs) h = All-cons Q x xs (f x (All-head P x xs h)) (all_from P Q f xs (All-tail P x xs h))

-- what is the same of each item is the same of the list
pub map_same : {A X : Type 0} (P : A → Type 0) (f g : A → X) → ((a : A) → P a → f a ≡ g a) → (xs : List A) → All P xs → map f xs ≡ map g xs
map_same P f g e [] h = refl
map_same P f g e (x ∷ xs) h = ap₂ (λ y ys. y ∷ ys) (e x (All-head P x xs h)) (map_same P f g e xs (All-tail P x xs h))

-- what is read of an item with numbers of terms stays when there are more terms
pub record IsStable {A X : Type 0} (f : List PlainSum → A → X) (P : ℕ → A → Type 0) : Type 0 where
  pub same : (old new : List PlainSum) → Grows old new → (a : A) → P (length old) a → f new a ≡ f old a
  pub more : (m n : ℕ) → m ≤ n → (a : A) → P m a → P n a

-- items that were put, and what is read of them
pub record Put {A X : Type 0} (f : List PlainSum → A → X) (P : ℕ → A → Type 0) (old new : List PlainSum) (out : List A) (xs : List X) : Type 0 where
  pub grows : Grows old new
  pub within : All (P (length new)) out
  pub value : map (f new) out ≡ xs

-- none was put
pub put_none : {A X : Type 0} (f : List PlainSum → A → X) (P : ℕ → A → Type 0) (ts : List PlainSum) → Put f P ts ts [] []
put_none f P ts = record { grows = grows_refl ts; within = All-nil (P (length ts)); value = refl }

-- one more was put
pub put_more : {A X : Type 0} (f : List PlainSum → A → X) (P : ℕ → A → Type 0) → IsStable f P → (old mid new : List PlainSum) (out : List A) (xs : List X)
    → Put f P old mid out xs → Grows mid new → (a : A) (x : X) → P (length new) a → f new a ≡ x → Put f P old new (out ++ a ∷ []) (xs ++ x ∷ [])
put_more f P s old mid new out xs h g a x b e = record {
  grows = grows_trans old mid new h.grows g;
  within = All-append (P (length new)) out (a ∷ []) (all_from (P (length mid)) (P (length new)) (λ a. s.more (length mid) (length new) g.longer a) out h.within) (All-cons (P (length new)) a [] b (All-nil (P (length new))));
  value = map-append (f new) out (a ∷ []) ∙ ap₂ (λ ys zs. ys ++ zs) (map_same (P (length mid)) (f new) (f mid) (s.same mid new g) out h.within ∙ h.value) (ap (λ y. y ∷ []) e);
}

pub take_more : {A : Type 0} (xs : List A) (i : ℕ) (d : A) → i < length xs → take (i + 1) xs ≡ take i xs ++ get_or xs i d ∷ []
take_more xs i d inside = let e : i + 1 ≡ suc i = omega arith in ap (λ k. take k xs) e ∙ take-suc xs i d inside

-- the next item of a list was put
pub put_next : {A X : Type 0} (f : List PlainSum → A → X) (P : ℕ → A → Type 0) → IsStable f P → (old mid new : List PlainSum) (out more : List A) (xs : List X) (i : ℕ) (d : X)
    → Put f P old mid out (take i xs) → i < length xs → Grows mid new → (a : A) → P (length new) a → f new a ≡ get_or xs i d → more ≡ out ++ a ∷ [] → Put f P old new more (take (i + 1) xs)
put_next f P s old mid new out more xs i d h inside g a b e same =
    rw (same, take_more xs i d inside) (put_more f P s old mid new out (take i xs) h g a (get_or xs i d) b e)
