-- One vertex more in a round that found no edge: what holds of the vertices that are taken.
use Rattle.std.proofs.Common.{◌≡◌, ◌≢◌, ◌<◌, ◌⊎◌, ℕ, suc, Bool, true, false, cond, List, [], ◌∷◌, Some, None, length, map, set, get_or, IsSome, refl, sym, ap, ◌∙◌, subst, inl, inr, arith}
use Rattle.std.specs.List.{All, Contains}
use Rattle.std.proofs.lemmas.Bool.{cases_eq, false≢true}
use Rattle.std.proofs.lemmas.List.Elements.{All-weaker}
use Rattle.lift_graph.specs.Rows.{is_set, items_at}
use Rattle.lift_graph.proofs.MarkLemmas.{is_set_same, is_set_other, is_set_grows}
use Rattle.lift_graph.proofs.SearchLemmas.{is_set_within}
use Rattle.lift_graph.specs.declared.graph.Place.{Place}
use Rattle.lift_rounds.specs.Known.{Known, pred_at, cases_at, incoming, gathered, cases_from}
use Rattle.lift_rounds.specs.Visit.{IsVisit, IsSame, IsOutcome, worse}
use Rattle.lift_rounds.specs.Round.{Frame, IsReady, IsCased, IsMerged, AllFormed, IsSteady, IsLighter, IsStill, Quiet}
use Rattle.lift_rounds.specs.declared.data.Change.{Change}
use Rattle.lift_rounds.specs.declared.data.Change.TheVariants.{Nothing, Made as MadeChange, Head, Found}
use Rattle.lift_rounds.proofs.RoundLemmas.{incoming_same, lighter_of, worse_head, worse_nothing, worse_made, worse_not_head}

-- a vertex is taken, and the visit found no edge
pub record Taking {R : Type 0} (f : Frame R) (first made after : List (Known R)) (taken : List Bool) (change c : Change) (v : ℕ) : Type 0 where
  pub quiet : Quiet f first made taken change
  pub rows : length after ≡ length made
  pub within : v < length made
  pub marked : v < length taken
  pub long : length taken ≡ length f.keeps
  pub fresh : is_set taken v ≡ false
  pub ready : IsReady f.keeps f.inward taken v
  pub visit : IsVisit f.meaning made after (items_at f.inward v) (is_set f.keeps v) v
  pub cased : IsCased f after v
  pub outcome : IsOutcome c (is_set f.keeps v) made after v
  pub small : c ≢ Found

-- edges from vertices that were taken before bring what they brought
brings_same : {R : Type 0} {f : Frame R} {first made after : List (Known R)} {taken : List Bool} {change c : Change} {v : ℕ} → Taking f first made after taken change c v → (places : List Place) → All (λ p. is_set taken p.vertex ≡ true) places → incoming after places ≡ incoming made places
brings_same {made = made} {after = after} {taken = taken} {v = v} t places h =
    incoming_same after made places (All-weaker (λ p. is_set taken p.vertex ≡ true) (λ p. cases_at after p.vertex ≡ cases_at made p.vertex) (λ p k. t.visit.other_cases p.vertex (λ e. false≢true (sym t.fresh ∙ subst (λ w. is_set taken w ≡ true) e k))) places h)

-- a taken vertex that isn't kept has all its sources taken
sources : {R : Type 0} {f : Frame R} {first made after : List (Known R)} {taken : List Bool} {change c : Change} {v : ℕ} → Taking f first made after taken change c v → is_set f.keeps v ≡ false → All (λ p. is_set taken p.vertex ≡ true) (items_at f.inward v)
sources {f = f} {taken = taken} {v = v} t k = elim t.ready as (λ _. All (λ p. is_set taken p.vertex ≡ true) (items_at f.inward v)) [ inl e ↦ absurd (false≢true (sym k ∙ e)) | inr a ↦ a ]

merged_here : {R : Type 0} {f : Frame R} {first made after : List (Known R)} {taken : List Bool} {change c : Change} {v : ℕ} → Taking f first made after taken change c v → IsMerged f after v
merged_here {f = f} {made = made} {after = after} {v = v} t =
    λ k. t.visit.pred ∙ ap (λ b. gathered f.meaning (cond b (pred_at made v) None) (incoming made (items_at f.inward v))) k ∙ ap (gathered f.meaning None) (sym (brings_same t (items_at f.inward v) (sources t k)))

merged_there : {R : Type 0} {f : Frame R} {first made after : List (Known R)} {taken : List Bool} {change c : Change} {v : ℕ} → Taking f first made after taken change c v → (u : ℕ) → u ≢ v → is_set taken u ≡ true → IsMerged f after u
merged_there {f = f} {made = made} {after = after} {taken = taken} t u n h =
    λ k. t.visit.other_preds u n ∙ t.quiet.merged u h k ∙ ap (gathered f.meaning None) (sym (brings_same t (items_at f.inward u) (t.quiet.from_taken u h k)))

-- each taken vertex is this one, or another that was taken
which : {R : Type 0} {f : Frame R} {first made after : List (Known R)} {taken : List Bool} {change c : Change} {v : ℕ} → Taking f first made after taken change c v → (u : ℕ) → is_set (set taken v true) u ≡ true → (u ≡ v) ⊎ ((u ≢ v) × (is_set taken u ≡ true))
which {taken = taken} {v = v} t u h = elim (cases_eq u v) as (λ _. (u ≡ v) ⊎ ((u ≢ v) × (is_set taken u ≡ true))) [ inl e ↦ inl e | inr n ↦ inr (n, sym (is_set_other taken v u n) ∙ h) ]

at_first : {R : Type 0} {f : Frame R} {first made after : List (Known R)} {taken : List Bool} {change c : Change} {v : ℕ} → Taking f first made after taken change c v → pred_at made v ≡ pred_at first v
at_first {v = v} t = t.quiet.untaken v t.fresh

known_here : {R : Type 0} {f : Frame R} {first made after : List (Known R)} {taken : List Bool} {change c : Change} {v : ℕ} → Taking f first made after taken change c v → IsSome (pred_at first v)
known_here t = subst (λ o. IsSome o) (at_first t) (t.outcome.known t.small)

head_step : {R : Type 0} {f : Frame R} {first made after : List (Known R)} {taken : List Bool} {change c : Change} {v : ℕ} → Taking f first made after taken change c v → worse change c ≡ Head → (u : ℕ) × (u < length first) × (is_set f.keeps u ≡ true) × (pred_at after u ≢ pred_at first u)
head_step {f = f} {first = first} {made = made} {after = after} {change = change} {c = c} {v = v} t e =
    elim (worse_head change c e) as (λ _. (u : ℕ) × (u < length first) × (is_set f.keeps u ≡ true) × (pred_at after u ≢ pred_at first u)) [
      | inl h ↦ (let o = t.outcome.head h in (v, subst (λ n. v < n) t.quiet.same_length t.within, o.0, λ s. o.1 (s ∙ sym (at_first t))))
      | inr h ↦ (let w = t.quiet.head h in (w.0, w.1, w.2, λ s. w.3 (sym (t.visit.other_preds w.0 (λ same. w.3 (subst (λ u. pred_at made u ≡ pred_at first u) (sym same) (at_first t)))) ∙ s)))
    ]

-- a kept vertex that is taken without a change of what is kept has what it had
held_here : {R : Type 0} {f : Frame R} {first made after : List (Known R)} {taken : List Bool} {change c : Change} {v : ℕ} → Taking f first made after taken change c v → (c ≡ MadeChange) ⊎ (c ≡ Nothing) → is_set f.keeps v ≡ true → pred_at after v ≡ pred_at made v
held_here {made = made} {after = after} {v = v} t e k = elim e as (λ _. pred_at after v ≡ pred_at made v) [
  | inl h ↦ t.outcome.held h k
  | inr h ↦ (t.outcome.nothing h).preds v
]

held_step : {R : Type 0} {f : Frame R} {first made after : List (Known R)} {taken : List Bool} {change c : Change} {v : ℕ} → Taking f first made after taken change c v → worse change c ≡ MadeChange → (u : ℕ) → is_set f.keeps u ≡ true → pred_at after u ≡ pred_at first u
held_step {f = f} {first = first} {made = made} {after = after} {change = change} {c = c} {v = v} t e u k =
    let w = worse_made change c e in
    elim (cases_eq u v) as (λ _. pred_at after u ≡ pred_at first u) [
      | inl same ↦ subst (λ x. pred_at after x ≡ pred_at first x) (sym same) (held_here t w.1 (subst (λ x. is_set f.keeps x ≡ true) same k) ∙ at_first t)
      | inr n ↦ t.visit.other_preds u n ∙ (elim w.0 as (λ _. pred_at made u ≡ pred_at first u) [
        | inl h ↦ t.quiet.held h u k
        | inr h ↦ t.quiet.nothing_preds h.0 u
      ])
    ]

map_on : {A B : Type 0} (f g : A → B) (xs : List A) → ((x : A) → Contains xs x → f x ≡ g x) → map f xs ≡ map g xs
map_on f g [] h = refl
map_on f g (x ∷ xs) h = let e = h x (0, omega arith, refl) in let es = map_on f g xs (λ y c. h y (suc c.0, (let l = c.1 in omega arith), c.2)) in cc

-- where its site knows what it knew, a vertex has the cases that it had
cased_same : {R : Type 0} (f : Frame R) (before after : List (Known R)) (u : ℕ) → ((w : ℕ) → Contains (f.site u) w → pred_at after w ≡ pred_at before w) → pred_at after u ≡ pred_at before u → cases_at after u ≡ cases_at before u → IsCased f before u → IsCased f after u
cased_same f before after u site here cases c =
    ap (λ os. cases_from f.meaning (f.address u) os (pred_at after u)) (map_on (pred_at after) (pred_at before) (f.site u) site) ∙ ap (cases_from f.meaning (f.address u) (map (pred_at before) (f.site u))) here ∙ c ∙ ap Some (sym cases)

which_mild : (c : Change) → c ≢ Head → c ≢ Found → (c ≡ MadeChange) ⊎ (c ≡ Nothing)
which_mild Nothing h f = inr refl
which_mild MadeChange h f = inl refl
which_mild Head h f = absurd (h refl)
which_mild Found h f = absurd (f refl)

cased_there : {R : Type 0} {f : Frame R} {first made after : List (Known R)} {taken : List Bool} {change c : Change} {v : ℕ} → Taking f first made after taken change c v → IsSteady f (worse change c) → worse change c ≢ Found → (u : ℕ) → u ≢ v → is_set taken u ≡ true → IsCased f after u
cased_there {f = f} {first = first} {made = made} {after = after} {taken = taken} {change = change} {c = c} {v = v} t steady small u n h =
    elim steady as (λ _. IsCased f after u) [
      | inl e ↦
          (let w = worse_nothing change c e in
          let same = t.outcome.nothing w.1 in
          cased_same f made after u (λ x _. same.preds x) (same.preds u) (same.cases u) (t.quiet.cased (inl w.0) u h))
      | inr p ↦
          (let w = worse_not_head change c p.1 small in
          let mild : (c ≡ MadeChange) ⊎ (c ≡ Nothing) = which_mild c w.1 t.small in
          cased_same f made after u
          (λ x inside. elim (cases_eq x v) as (λ _. pred_at after x ≡ pred_at made x) [
            | inl s ↦ subst (λ y. pred_at after y ≡ pred_at made y) (sym s) (held_here t mild (p.0 u v (subst (λ n. u < n) t.long (is_set_within taken u h)) (subst (Contains (f.site u)) s inside) (λ e. n (sym e))))
            | inr d ↦ t.visit.other_preds x d
          ])
          (t.visit.other_preds u n) (t.visit.other_cases u n) (t.quiet.cased (inr (p.0, w.0)) u h))
    ]

cased_step : {R : Type 0} {f : Frame R} {first made after : List (Known R)} {taken : List Bool} {change c : Change} {v : ℕ} → Taking f first made after taken change c v → worse change c ≢ Found → IsSteady f (worse change c) → (u : ℕ) → is_set (set taken v true) u ≡ true → IsCased f after u
cased_step {f = f} {after = after} t small steady u h = elim (which t u h) as (λ _. IsCased f after u) [
  | inl e ↦ subst (IsCased f after) (sym e) t.cased
  | inr o ↦ cased_there t steady small u o.0 o.1
]

still_same : {R : Type 0} (f : Frame R) (before after : List (Known R)) (u : ℕ) → IsSame before after → IsStill f before u → IsStill f after u
still_same f before after u same s =
    same.preds u ∙ s ∙ ap (λ o. gathered f.meaning (cond (is_set f.keeps u) o None) (incoming before (items_at f.inward u))) (sym (same.preds u)) ∙ ap (gathered f.meaning (cond (is_set f.keeps u) (pred_at after u) None)) (sym (incoming_same after before (items_at f.inward u) (λ k d l. same.cases (get_or (items_at f.inward u) k d).vertex)))

still_step : {R : Type 0} {f : Frame R} {first made after : List (Known R)} {taken : List Bool} {change c : Change} {v : ℕ} → Taking f first made after taken change c v → worse change c ≡ Nothing → (u : ℕ) → is_set (set taken v true) u ≡ true → IsStill f after u
still_step {f = f} {made = made} {after = after} {change = change} {c = c} {v = v} t e u h =
    let w = worse_nothing change c e in
    let same = t.outcome.nothing w.1 in
    still_same f made after u same (elim (which t u h) as (λ _. IsStill f made u) [
      | inl here ↦ subst (IsStill f made) (sym here) (sym (same.preds v) ∙ t.visit.pred)
      | inr there ↦ t.quiet.still w.0 u there.1
    ])

changed_step : {R : Type 0} {f : Frame R} {first made after : List (Known R)} {taken : List Bool} {change c : Change} {v : ℕ} → Taking f first made after taken change c v → worse change c ≡ MadeChange → AllFormed f first → ⊥
changed_step {f = f} {first = first} {made = made} {after = after} {change = change} {c = c} {v = v} t e all =
    elim ((worse_made change c e).0) as (λ _. ⊥) [
      | inl h ↦ t.quiet.changed h all
      | inr h ↦
          (let within : v < length first = subst (λ n. v < n) t.quiet.same_length t.within in
          let one = t.quiet.nothing_preds h.0 in
          let two = t.quiet.nothing_cases h.0 in
          let brings = incoming_same made first (items_at f.inward v) (λ k d l. two (get_or (items_at f.inward v) k d).vertex) in
          let same : pred_at after v ≡ pred_at made v =
          elim (is_set f.keeps v) as (λ b. is_set f.keeps v ≡ b → pred_at after v ≡ pred_at made v) [
            | true ↦ (λ k. t.outcome.held h.1 k)
            | false ↦ (λ k. t.visit.pred ∙ ap (λ b. gathered f.meaning (cond b (pred_at made v) None) (incoming made (items_at f.inward v))) k ∙ ap (gathered f.meaning None) brings ∙ sym (all.merged v within k) ∙ sym (one v))
          ] refl in
          let preds : (u : ℕ) → pred_at first u ≡ pred_at after u = λ u. elim (cases_eq u v) as (λ _. pred_at first u ≡ pred_at after u) [
            | inl s ↦ subst (λ x. pred_at first x ≡ pred_at after x) (sym s) (sym (one v) ∙ sym same)
            | inr d ↦ sym (one u) ∙ sym (t.visit.other_preds u d)
          ] in
          let cases : Some (cases_at after v) ≡ Some (cases_at first v) =
          sym t.cased ∙ sym (ap (λ os. cases_from f.meaning (f.address v) os (pred_at after v)) (map_on (pred_at first) (pred_at after) (f.site v) (λ x _. preds x))) ∙ ap (cases_from f.meaning (f.address v) (map (pred_at first) (f.site v))) (sym (preds v)) ∙ all.cased v within in
          let equal : cases_at after v ≡ cases_at first v = cc in
          t.outcome.changed h.1 same (equal ∙ sym (two v)))
    ]

-- what holds after one vertex more
pub quiet_step : {R : Type 0} {f : Frame R} {first made after : List (Known R)} {taken : List Bool} {change c : Change} {v : ℕ} → ((p q : R) → (f.meaning.weakened p q ≡ p) ⊎ (f.meaning.weight (f.meaning.weakened p q) < f.meaning.weight p)) → worse change c ≢ Found → Taking f first made after taken change c v → Quiet f first after (set taken v true) (worse change c)
quiet_step {f = f} {first = first} {made = made} {after = after} {taken = taken} {change = change} {c = c} {v = v} falls small t = record {
  same_length = t.rows ∙ t.quiet.same_length;
  cased = cased_step t small;
  merged = λ u h. elim (which t u h) as (λ _. IsMerged f after u) [ inl e ↦ subst (IsMerged f after) (sym e) (merged_here t) | inr o ↦ merged_there t u o.0 o.1 ];
  from_taken = λ u h k. All-weaker (λ p. is_set taken p.vertex ≡ true) (λ p. is_set (set taken v true) p.vertex ≡ true) (λ p s. is_set_grows taken v p.vertex t.marked s) (items_at f.inward u) (elim (which t u h) as (λ _. All (λ p. is_set taken p.vertex ≡ true) (items_at f.inward u)) [ inl e ↦ subst (λ x. All (λ p. is_set taken p.vertex ≡ true) (items_at f.inward x)) (sym e) (sources t (subst (λ x. is_set f.keeps x ≡ false) e k)) | inr o ↦ t.quiet.from_taken u o.1 k ]);
  known = λ u h. elim (which t u h) as (λ _. IsSome (pred_at first u)) [ inl e ↦ subst (λ x. IsSome (pred_at first x)) (sym e) (known_here t) | inr o ↦ t.quiet.known u o.1 ];
  untaken = λ u h. let n : u ≢ v = (λ e. false≢true (sym h ∙ subst (λ x. is_set (set taken v true) x ≡ true) (sym e) (is_set_same taken v t.marked))) in t.visit.other_preds u n ∙ t.quiet.untaken u (sym (is_set_other taken v u n) ∙ h);
  lighter = λ u k. elim (cases_eq u v) as (λ _. IsLighter f.meaning (pred_at first u) (pred_at after u)) [
    | inl e ↦ subst (λ x. IsLighter f.meaning (pred_at first x) (pred_at after x)) (sym e)
        (subst (λ o. IsLighter f.meaning o (pred_at after v)) (at_first t)
        (subst (λ o. IsLighter f.meaning (pred_at made v) o) (sym (t.visit.pred ∙ ap (λ b. gathered f.meaning (cond b (pred_at made v) None) (incoming made (items_at f.inward v))) (subst (λ x. is_set f.keeps x ≡ true) e k)))
        (lighter_of f.meaning falls (pred_at made v) (incoming made (items_at f.inward v)) (t.outcome.known t.small))))
    | inr n ↦ subst (λ o. IsLighter f.meaning (pred_at first u) o) (sym (t.visit.other_preds u n)) (t.quiet.lighter u k)
  ];
  head = head_step t;
  held = held_step t;
  nothing_preds = λ e u. let w = worse_nothing change c e in (t.outcome.nothing w.1).preds u ∙ t.quiet.nothing_preds w.0 u;
  nothing_cases = λ e u. let w = worse_nothing change c e in (t.outcome.nothing w.1).cases u ∙ t.quiet.nothing_cases w.0 u;
  still = still_step t;
  changed = changed_step t;
}
