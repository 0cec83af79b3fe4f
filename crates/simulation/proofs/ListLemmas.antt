-- Lemmas on look-ups in lists, and on what is known of an option.
use Rattle.std.proofs.Common.{◌≡◌, ℕ, Bool, true, false, List, [], ◌∷◌, length, refl, sym, cond, subst}
use Rattle.std.specs.Prelude.{Option, Some, None, All, Any, IfSome, slice_get, find}
use Rattle.std.specs.List.{AllZip}
use Rattle.std.specs.Option.{IsSomeAnd, option_and_then}
use Rattle.std.proofs.lemmas.List.Elements.{All-contains, All-get_or, All-head, All-tail}
use Rattle.std.proofs.lemmas.Option.{MatchOption-at_some, slice_get_within, get_or_from_slice_get, slice_get_read}
use Rattle.std.proofs.lemmas.Slice.Zip.{AllZip-left}

-- what is present, with the equation
pub present :
    {A : Type 0} (P : A → Type 0) (o : Option A) → IsSomeAnd o P → (x : A) × (o ≡ Some x) × P x
present P None h = absurd h
present P (Some x) h = (x, refl, h)

-- what is present is the value that is there
pub present_at : {A : Type 0} (P : A → Type 0) (o : Option A) (x : A) → o ≡ Some x → IsSomeAnd o P → P x
present_at P None x e h = absurd h
present_at P (Some y) x e h = let same : y ≡ x = cc in subst P same h

-- a value that is there is present
pub to_present : {A : Type 0} (P : A → Type 0) (o : Option A) (x : A) → o ≡ Some x → P x → IsSomeAnd o P
to_present P None x e h = cc
to_present P (Some y) x e h = let same : x ≡ y = cc in subst P same h

-- what follows from what is present is present
pub present_weaker :
    {A : Type 0} (P Q : A → Type 0) (o : Option A) → ((x : A) → P x → Q x) → IsSomeAnd o P → IsSomeAnd o Q
present_weaker P Q None f h = h
present_weaker P Q (Some x) f h = f x h

-- what is present after two look-ups is present after the second, at what the first found
pub through :
    {A B : Type 0} (P : B → Type 0) (next : A → Option B) (o : Option A) →
    IsSomeAnd (option_and_then next o) P → (x : A) × (o ≡ Some x) × IsSomeAnd (next x) P
through P next None h = absurd h
through P next (Some x) h = (x, refl, h)

-- a fact of the value, if there is one, at the value that is there
pub if_some_at : {A : Type 0} (P : A → Type 0) (o : Option A) (x : A) → o ≡ Some x → IfSome o P → P x
if_some_at P o x e h = MatchOption-at_some (Unit {0}) P x e h

-- a fact of each element, at a place
pub all_at : {A : Type 0} (P : A → Type 0) (xs : List A) (n : ℕ) (x : A) → slice_get xs n ≡ Some x → All P xs → P x
all_at P xs n x e h =
    subst P (get_or_from_slice_get xs n x x e) (All-get_or P xs n x (slice_get_within xs n x e) h)

-- an element with a fact, from its place
pub any_at : {A : Type 0} (P : A → Type 0) (xs : List A) (n : ℕ) (x : A) → slice_get xs n ≡ Some x → P x → Any P xs
any_at P xs n x e p = (n, x, slice_get_within xs n x e, get_or_from_slice_get xs n x x e, p)

-- an element of which a fact holds that some element has, where another holds of each
pub element : {A : Type 0} (P Q : A → Type 0) (xs : List A) → All P xs → Any Q xs → (x : A) × P x × Q x
element P Q xs all some = (some.1, All-contains P xs some.1 all (some.0, some.2, some.3), some.4)

-- two facts of each element, together
pub all_both : {A : Type 0} (P Q : A → Type 0) (xs : List A) → All P xs → All Q xs → All (λ x. P x × Q x) xs
all_both P Q xs p q = λ k d in_list. (p k d in_list, q k d in_list)

-- the only element
pub any_one : {A : Type 0} (P : A → Type 0) (x : A) → P x → Any P (x ∷ [])
any_one P x p = any_at P (x ∷ []) 0 x refl p

-- a pair of two lists that stand beside each other, from an element of the first
pub zipped :
    {A B : Type 0} (R : A → B → Type 0) (P : A → Type 0) (xs : List A) (ys : List B) →
    AllZip R xs ys → Any P xs → (x : A) × (y : B) × R x y × P x
zipped {A} {B} R P xs ys zip some =
    let at : slice_get xs some.0 ≡ Some some.1 = slice_get_read xs (length xs) some.0 some.1 refl some.2 (sym some.3) in
    let there : IsSomeAnd (slice_get ys some.0) (R some.1) = if_some_at (λ (x : A). IsSomeAnd (slice_get ys some.0) (R x)) (slice_get xs some.0) some.1 at (AllZip-left R xs ys zip some.0) in
    let beside : (y : B) × (slice_get ys some.0 ≡ Some y) × R some.1 y = present (R some.1) (slice_get ys some.0) there in
    (some.1, beside.0, beside.2, some.4)

-- what is found passes the test, and has what each element has
pub found :
    {A : Type 0} (P : A → Type 0) (test : A → Bool) (xs : List A) (x : A) →
    find test xs ≡ Some x → All P xs → P x × (test x ≡ true)
found P test [] x e h = cc
found P test (y ∷ ys) x e h =
    go (test y) refl e (λ later. found P test ys x later (All-tail P y ys h))
  where
    go :
        (b : Bool) → test y ≡ b → cond b (Some y) (find test ys) ≡ Some x →
        (find test ys ≡ Some x → P x × (test x ≡ true)) → P x × (test x ≡ true)
    go true t f later = let same : y ≡ x = cc in subst (λ z. P z × (test z ≡ true)) same (All-head P y ys h, t)
    go false t f later = later f
