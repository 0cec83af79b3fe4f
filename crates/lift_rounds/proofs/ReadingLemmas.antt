-- What is known, as it reads: what is read of it, and what a write leaves.
use Rattle.std.proofs.Common.{Result, Err, ◌≡◌, ◌≢◌, ◌<◌, ◌≤◌, ℕ, zero, suc, List, [], ◌∷◌, Option, Some, None, map, length, get_or, set, slice_get, IfSome, refl, sym, ap, ◌∙◌, subst, arith}
use Rattle.std.specs.Result.{IsErrAnd}
use Rattle.std.specs.List.{All}
use Rattle.std.specs.Option.{option_map}
use Rattle.std.proofs.lemmas.List.Elements.{All-head, All-tail, All-weaker}
use Rattle.lift_graph.specs.declared.graph.Place.{Place}
use Rattle.lift_rounds.specs.Known.{Known, IsHeld, case_reading, reading, pred_at, cases_at, pred_of, case_at, addresses, cases_from}
use Rattle.lift_rounds.specs.Meaning.{Meaning}
use Rattle.lift_rounds.specs.Visit.{HasCases}
use Rattle.lift_rounds.specs.declared.data.Case.{Case}
use Rattle.lift_rounds.specs.declared.data.Made.{Made}

pub pred_at_read : {P R : Type 0} (read : P → R) (xs : List (Made P)) (v : ℕ) (x : Made P) → v < length xs → x ≡ get_or xs v x → pred_at (reading read xs) v ≡ option_map read x.pred
pred_at_read read [] v x h e = absurd (omega arith)
pred_at_read read (y ∷ ys) zero x h e = ap (λ m. option_map read m.pred) (sym e)
pred_at_read read (y ∷ ys) (suc v) x h e = pred_at_read read ys v x (omega arith) e

pub cases_at_read : {P R : Type 0} (read : P → R) (xs : List (Made P)) (v : ℕ) (x : Made P) → v < length xs → x ≡ get_or xs v x → cases_at (reading read xs) v ≡ map (case_reading read) x.cases.items
cases_at_read read [] v x h e = absurd (omega arith)
cases_at_read read (y ∷ ys) zero x h e = ap (λ m. map (case_reading read) m.cases.items) (sym e)
cases_at_read read (y ∷ ys) (suc v) x h e = cases_at_read read ys v x (omega arith) e

pub cases_at_past : {R : Type 0} (xs : List (Known R)) (v : ℕ) → length xs ≤ v → cases_at xs v ≡ []
cases_at_past [] v h = refl
cases_at_past (y ∷ ys) zero h = absurd (omega arith)
cases_at_past (y ∷ ys) (suc v) h = cases_at_past ys v (omega arith)

pred_of_read : {P R : Type 0} (read : P → R) (cs : List (Case P)) (k : ℕ) (c : Case P) → k < length cs → c ≡ get_or cs k c → pred_of (slice_get (map (case_reading read) cs) k) ≡ Some (read c.pred)
pred_of_read read [] k c h e = absurd (omega arith)
pred_of_read read (d ∷ ds) zero c h e = ap (λ x. Some (read x.pred)) (sym e)
pred_of_read read (d ∷ ds) (suc k) c h e = pred_of_read read ds k c (omega arith) e

pred_of_past : {P R : Type 0} (read : P → R) (cs : List (Case P)) (k : ℕ) → length cs ≤ k → pred_of (slice_get (map (case_reading read) cs) k) ≡ None
pred_of_past read [] k h = refl
pred_of_past read (d ∷ ds) zero h = absurd (omega arith)
pred_of_past read (d ∷ ds) (suc k) h = pred_of_past read ds k (omega arith)

pub length_reading : {P R : Type 0} (read : P → R) (xs : List (Made P)) → length (reading read xs) ≡ length xs
length_reading read [] = refl
length_reading read (x ∷ xs) = let e = length_reading read xs in omega arith

-- the newest case of an edge, where there is one
pub case_at_some : {P R : Type 0} (read : P → R) (made : List (Made P)) (place : Place) (x : Made P) (c : Case P) → place.vertex < length made → x ≡ get_or made place.vertex x → place.case < length x.cases.items → c ≡ get_or x.cases.items place.case c → Some (read c.pred) ≡ case_at (reading read made) place
case_at_some read made place x c l e k f = sym (ap (λ cs. pred_of (slice_get cs place.case)) (cases_at_read read made place.vertex x l e) ∙ pred_of_read read x.cases.items place.case c k f)

pub case_at_none : {P R : Type 0} (read : P → R) (made : List (Made P)) (place : Place) (x : Made P) → place.vertex < length made → x ≡ get_or made place.vertex x → length x.cases.items ≤ place.case → None ≡ case_at (reading read made) place
case_at_none read made place x l e k = sym (ap (λ cs. pred_of (slice_get cs place.case)) (cases_at_read read made place.vertex x l e) ∙ pred_of_past read x.cases.items place.case k)

pub case_at_past : {P R : Type 0} (read : P → R) (made : List (Made P)) (place : Place) → length made ≤ place.vertex → None ≡ case_at (reading read made) place
case_at_past read made place l = sym (ap (λ cs. pred_of (slice_get cs place.case)) (cases_at_past (reading read made) place.vertex (let e = length_reading read made in omega arith)))

map_same : {A B : Type 0} (f g : A → B) (xs : List A) → ((x : A) → f x ≡ g x) → map f xs ≡ map g xs
map_same f g [] h = refl
map_same f g (x ∷ xs) h = let e = h x in let es = map_same f g xs h in cc

pub pred_at_set_same : {P R : Type 0} (read : P → R) (xs : List (Made P)) (v : ℕ) (x : Made P) → v < length xs → pred_at (reading read (set xs v x)) v ≡ option_map read x.pred
pred_at_set_same read [] v x h = absurd (omega arith)
pred_at_set_same read (y ∷ ys) zero x h = refl
pred_at_set_same read (y ∷ ys) (suc v) x h = pred_at_set_same read ys v x (omega arith)

pub pred_at_set_other : {P R : Type 0} (read : P → R) (xs : List (Made P)) (v : ℕ) (x : Made P) (u : ℕ) → u ≢ v → pred_at (reading read (set xs v x)) u ≡ pred_at (reading read xs) u
pred_at_set_other read [] v x u n = refl
pred_at_set_other read (y ∷ ys) zero x zero n = absurd (n refl)
pred_at_set_other read (y ∷ ys) zero x (suc u) n = refl
pred_at_set_other read (y ∷ ys) (suc v) x zero n = refl
pred_at_set_other read (y ∷ ys) (suc v) x (suc u) n = pred_at_set_other read ys v x u (λ e. n (ap suc e))

pub cases_at_set_same : {P R : Type 0} (read : P → R) (xs : List (Made P)) (v : ℕ) (x : Made P) → v < length xs → cases_at (reading read (set xs v x)) v ≡ map (case_reading read) x.cases.items
cases_at_set_same read [] v x h = absurd (omega arith)
cases_at_set_same read (y ∷ ys) zero x h = refl
cases_at_set_same read (y ∷ ys) (suc v) x h = cases_at_set_same read ys v x (omega arith)

pub cases_at_set_other : {P R : Type 0} (read : P → R) (xs : List (Made P)) (v : ℕ) (x : Made P) (u : ℕ) → u ≢ v → cases_at (reading read (set xs v x)) u ≡ cases_at (reading read xs) u
cases_at_set_other read [] v x u n = refl
cases_at_set_other read (y ∷ ys) zero x zero n = absurd (n refl)
cases_at_set_other read (y ∷ ys) zero x (suc u) n = refl
cases_at_set_other read (y ∷ ys) (suc v) x zero n = refl
cases_at_set_other read (y ∷ ys) (suc v) x (suc u) n = cases_at_set_other read ys v x u (λ e. n (ap suc e))

-- a write that leaves the cases
pub cases_at_set_kept : {P R : Type 0} (read : P → R) (xs : List (Made P)) (v : ℕ) (x y : Made P) → v < length xs → y ≡ get_or xs v y → x.cases ≡ y.cases → (u : ℕ) → cases_at (reading read (set xs v x)) u ≡ cases_at (reading read xs) u
cases_at_set_kept read [] v x y h e k u = refl
cases_at_set_kept read (z ∷ zs) zero x y h e k zero = ap (λ c. map (case_reading read) c.items) k ∙ ap (λ m. map (case_reading read) m.cases.items) e
cases_at_set_kept read (z ∷ zs) zero x y h e k (suc u) = refl
cases_at_set_kept read (z ∷ zs) (suc v) x y h e k zero = refl
cases_at_set_kept read (z ∷ zs) (suc v) x y h e k (suc u) = cases_at_set_kept read zs v x y (omega arith) e k u

-- a write that leaves the predicate
pub pred_at_set_kept : {P R : Type 0} (read : P → R) (xs : List (Made P)) (v : ℕ) (x y : Made P) → v < length xs → y ≡ get_or xs v y → x.pred ≡ y.pred → (u : ℕ) → pred_at (reading read (set xs v x)) u ≡ pred_at (reading read xs) u
pred_at_set_kept read [] v x y h e k u = refl
pred_at_set_kept read (z ∷ zs) zero x y h e k zero = ap (option_map read) k ∙ ap (λ m. option_map read m.pred) e
pred_at_set_kept read (z ∷ zs) zero x y h e k (suc u) = refl
pred_at_set_kept read (z ∷ zs) (suc v) x y h e k zero = refl
pred_at_set_kept read (z ∷ zs) (suc v) x y h e k (suc u) = pred_at_set_kept read zs v x y (omega arith) e k u

cases_grow : {P R : Type 0} (has : P → Type 0) (read later : P → R) → ((p : P) → has p → later p ≡ read p) → (cs : List (Case P)) → All (λ c. has c.pred) cs → map (case_reading later) cs ≡ map (case_reading read) cs
cases_grow has read later h [] all = refl
cases_grow {P = P} {R = R} has read later h (c ∷ cs) all =
    let e = ap {B = Case R} (λ p. record { address = c.address; pred = p }) (h c.pred (All-head (λ (x : Case P). has x.pred) c cs all)) in
    let es = cases_grow has read later h cs (All-tail (λ (x : Case P). has x.pred) c cs all) in
    cc

option_grows : {P R : Type 0} (has : P → Type 0) (read later : P → R) → ((p : P) → has p → later p ≡ read p) → (o : Option P) → IfSome o has → option_map later o ≡ option_map read o
option_grows has read later h None i = refl
option_grows has read later h (Some p) i = ap Some (h p i)

-- what is held reads the same after the store grew
pub reading_grows : {P R : Type 0} (has : P → Type 0) (read later : P → R) → ((p : P) → has p → later p ≡ read p) → (xs : List (Made P)) → All (λ m. IsHeld has m) xs → reading later xs ≡ reading read xs
reading_grows has read later h [] all = refl
reading_grows {P = P} {R = R} has read later h (x ∷ xs) all =
    let held = All-head (λ (m : Made P). IsHeld has m) x xs all in
    let e = ap {B = Known R} (λ o. record { pred = o; cases = map (case_reading later) x.cases.items }) (option_grows has read later h x.pred held.pred) ∙ ap {B = Known R} (λ cs. record { pred = option_map read x.pred; cases = cs }) (cases_grow has read later h x.cases.items held.cases) in
    let es = reading_grows has read later h xs (All-tail (λ (m : Made P). IsHeld has m) x xs all) in
    cc

option_held : {P : Type 0} (has later : P → Type 0) → ((p : P) → has p → later p) → (o : Option P) → IfSome o has → IfSome o later
option_held has later h None i = tt
option_held has later h (Some p) i = h p i

-- and is held
pub held_grows : {P : Type 0} (has later : P → Type 0) → ((p : P) → has p → later p) → (xs : List (Made P)) → All (λ m. IsHeld has m) xs → All (λ m. IsHeld later m) xs
held_grows {P = P} has later h xs all = All-weaker (λ (m : Made P). IsHeld has m) (λ (m : Made P). IsHeld later m) (λ m i. record { pred = option_held has later h m.pred i.pred; cases = All-weaker (λ (c : Case P). has c.pred) (λ (c : Case P). later c.pred) (λ c k. h c.pred k) m.cases.items i.cases }) xs all

pub addresses_reading : {P R : Type 0} (read : P → R) (cs : List (Case P)) → addresses (map (case_reading read) cs) ≡ addresses cs
addresses_reading read [] = refl
addresses_reading read (c ∷ cs) = let e = addresses_reading read cs in cc

-- the cases of one vertex alone changed
pub cases_made : {R : Type 0} (v : ℕ) (before mid after : List (Known R)) → mid ≡ before → ((u : ℕ) → u ≢ v → cases_at after u ≡ cases_at mid u) → ((u : ℕ) → pred_at after u ≡ pred_at mid u) → HasCases before after v
cases_made v before mid after e others preds = record { others = λ u n. others u n ∙ ap (λ l. cases_at l u) e; preds = λ u. preds u ∙ ap (λ l. pred_at l u) e }

-- they are those of its predicate
cased_made : {R : Type 0} (m : Meaning R) (address : ℕ) (site : List ℕ) (v : ℕ) (before mid after : List (Known R)) (cs : List (Case R)) → mid ≡ before → cases_from m address (map (pred_at before) site) (pred_at before v) ≡ Some cs → cases_at after v ≡ cs → ((u : ℕ) → pred_at after u ≡ pred_at mid u) → cases_from m address (map (pred_at after) site) (pred_at after v) ≡ Some (cases_at after v)
cased_made m address site v before mid after cs e value here preds =
    let same : (u : ℕ) → pred_at after u ≡ pred_at before u = λ u. preds u ∙ ap (λ l. pred_at l u) e in
    ap (λ os. cases_from m address os (pred_at after v)) (map_same (pred_at after) (pred_at before) site same) ∙ ap (cases_from m address (map (pred_at before) site)) (same v) ∙ value ∙ ap Some (sym here)

-- what reads as before reads as before under another name
pub grown : {P R : Type 0} (read later : P → R) (xs ys : List (Made P)) → xs ≡ ys → reading later xs ≡ reading read xs → reading later ys ≡ reading read ys
grown {P = P} read later xs ys e h = subst (λ (zs : List (Made P)). reading later zs ≡ reading read zs) e h

-- a vertex has the cases of its predicate, after the store grew
pub has_cases : {P R : Type 0} (m : Meaning R) (read later : P → R) (address : ℕ) (site : List ℕ) (v : ℕ) (slice old new : List (Made P)) (cs : List (Case R)) → slice ≡ old → reading later slice ≡ reading read slice → cases_from m address (map (pred_at (reading read slice)) site) (pred_at (reading read slice) v) ≡ Some cs → cases_at (reading later new) v ≡ cs → ((u : ℕ) → pred_at (reading later new) u ≡ pred_at (reading later old) u) → cases_from m address (map (pred_at (reading later new)) site) (pred_at (reading later new) v) ≡ Some (cases_at (reading later new) v)
has_cases {P = P} m read later address site v slice old new cs e reads value here preds =
    cased_made m address site v (reading read old) (reading later old) (reading later new) cs (grown read later slice old e reads)
    (subst (λ (zs : List (Made P)). cases_from m address (map (pred_at (reading read zs)) site) (pred_at (reading read zs) v) ≡ Some cs) e value) here preds

-- what is told of what there is
pub told : {A : Type 0} (P : A → Type 0) (o : Option A) (x : A) → o ≡ Some x → IfSome o P → P x
told P o x e h = subst (λ y. IfSome y P) e h

-- what is told of the fault that there is
pub told_fault : {A E : Type 0} (P : E → Type 0) (r : Result A E) (x : E) → r ≡ Err x → IsErrAnd r P → P x
told_fault P r x e h = subst (λ y. IsErrAnd y P) e h
