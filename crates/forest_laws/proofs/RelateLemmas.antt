-- Where relate answers, the answer is true of the values.
use Rattle.std.proofs.Common.{◌≡◌, ℕ, zero, suc, ◌+◌, ◌*◌, ◌-◌, ◌%◌, ◌^◌, ◌<◌, ◌≤◌, ◌⊎◌, inl, inr, true, false, ◌&&◌, ◌||◌, List, [], ◌∷◌, Option, Some, None, refl, sym, ap, subst, ◌∙◌, arith}
use Rattle.std.specs.Prelude.{◌==◌, nat_le, nat_lt, if◌then◌else◌}
use Rattle.std.specs.List.{list_any}
use Rattle.std.proofs.lemmas.Bool.{leb-true, eqb-true, ltb-true, ltb-false, and_parts, or_cases, cases_lt, le-leb, ne_eqb}
use Rattle.std.proofs.Math.Nat.{mod-lt}
use Rattle.sym_terms.specs.declared.kinds.Sym.TheVariants.{Entry}
use Rattle.sym_terms.specs.Plain.{PlainSum, sum, none, more, PlainAtom, symbol, fitted, paired, constant_alone}
use Rattle.term_laws.specs.Laws.{constant_of}
use Rattle.sym_terms.specs.Order.{sym_cmp}
use Rattle.sym_terms.specs.Normal.{minus, plus_times}
use Rattle.sym_terms.specs.Codes.{atom_same}
use Rattle.sym_terms.specs.Value.{Valuation, value, value_of_atom}
use Rattle.term_laws.proofs.SumValueLemmas.{plus_times_value}
use Rattle.memory_regions.specs.declared.region.Region.{Region}
use Rattle.elf_image.specs.declared.image.Segment.{Segment}
use Rattle.elf_image.specs.Image.{holds_bytes, covers_bytes}
use Rattle.elf_image.specs.Segments.{IsSegment}
use Rattle.std.specs.Prelude.{All}
use Rattle.memory_regions.specs.declared.region.Relation.TheVariants.{Separate, Unknown}
use Rattle.memory_regions.specs.Relate.{opposite, by_offset, same, Known, is_stack, above_stack, in_frame, frame_and_constant, framed, is_region, is_pair, listed, told_apart, by_difference, relate}
use Rattle.forest_meaning.specs.Separate.{past, Separate as Apart}
use Rattle.forest_meaning.specs.Assumed.{IsOutside, InFrame, PairsHold, Keeps}
use Rattle.forest_laws.proofs.AddressLemmas.{value_below, apart_sym}
use Rattle.forest_laws.proofs.RelationLemmas.{Answers, same_term, opposite-past, is_equal}

-- ---- a constant difference

is_constant : (t : PlainSum) (d : ℕ) → constant_alone t ≡ Some d → t ≡ sum d none
is_constant (sum c none) d e = let p : c ≡ d = cc in ap (λ k. sum k none) p
is_constant (sum c (more a k xs)) d e = absurd (cc)

minus_below : (a b : PlainSum) → constant_of (minus a b) < 2 ^ 64
unfolding plus_times
minus_below (sum c xs) (sum d ys) = mod-lt (c + (2 ^ 64 - 1) * d) (omega arith)

distance : (d vx vy : ℕ) → d < 2 ^ 64 → vx < 2 ^ 64 → vy < 2 ^ 64 → (d + 0) % 2 ^ 64 ≡ (vy + (2 ^ 64 - 1) * vx) % 2 ^ 64 → d ≡ past vx vy
distance d vx vy hd hx hy e = omega arith

pub minus_past : (u : Valuation) (x y : PlainSum) (d : ℕ) → constant_alone (minus y x) ≡ Some d → d ≡ past (value u x) (value u y)
minus_past u x y d e =
    let s = is_constant (minus y x) d e in
    distance d (value u x) (value u y) (subst (λ t. constant_of t < 2 ^ 64) s (minus_below y x)) (value_below u x) (value_below u y)
    (sym (ap (value u) s) ∙ plus_times_value u y (2 ^ 64 - 1) x)

-- ---- two regions told apart

-- separate regions are separate by the differences
separate_offset : (x a y b : ℕ) → x < 2 ^ 64 → y < 2 ^ 64 → 1 ≤ a → Apart x a y b → Separate ≡ by_offset (past x y) a b
separate_offset x a y b hx hy s p =
    let l = p.after in
    let r : b ≤ opposite (past x y) = subst (λ k. b ≤ k) (sym (opposite-past x y hx hy)) p.before in
    let t : nat_le a (past x y) ≡ true = le-leb _ _ l in
    let w : nat_le b (opposite (past x y)) ≡ true = le-leb _ _ r in
    let z : (past x y == 0) ≡ false = ne_eqb (past x y) 0 (λ e. omega arith) in
    rw (z, t, w)

-- ---- the frame

stack_at : (u : Valuation) (a : PlainAtom) → is_stack a ≡ true → value_of_atom u a ≡ u.entry 4
stack_at u (symbol s) e = ap (value_of_atom u) (atom_same (symbol s) (symbol (Entry 4)) (is_equal (sym_cmp s (Entry 4)) e))
stack_at u (fitted f a) e = absurd (cc)
stack_at u (paired p a b) e = absurd (cc)

at_stack : (m c k v r : ℕ) → m ≡ 1 → v ≡ r → (c + (m * v + 0)) % 2 ^ 64 ≡ (c + r) % 2 ^ 64
at_stack m c k v r e f = rw (e, f) (omega arith)

pub above_value : (u : Valuation) (x : PlainSum) (c : ℕ) → above_stack x ≡ Some c → value u x ≡ (c + u.entry 4) % 2 ^ 64
above_value u (sum d none) c e = absurd (cc)
above_value u (sum d (more a k none)) c e =
    (elim (is_stack a && (k == 1)) as (λ t. is_stack a && (k == 1) ≡ t → (if t then Some d else None) ≡ Some c → (d + (k * value_of_atom u a + 0)) % 2 ^ 64 ≡ (c + u.entry 4) % 2 ^ 64) [
      | true ↦ λ t f.
          let p = and_parts (is_stack a) (k == 1) t in
          let g : d ≡ c = cc in
          at_stack k d k (value_of_atom u a) (u.entry 4) (eqb-true k 1 p.1) (stack_at u a p.0) ∙ ap (λ n. (n + u.entry 4) % 2 ^ 64) g
      | false ↦ λ t f. absurd (cc)
    ]) refl e
above_value u (sum d (more a k (more b l ys))) c e = absurd (cc)

-- a byte of the region is in the frame
low_byte : (c a r d above : ℕ) → r < 2 ^ 64 → d < 2 ^ 64 → c < 2 ^ 63 → c + a ≤ above → past ((c + r) % 2 ^ 64) d < a → past r d < above
low_byte c a r d above hr hd hc h k = omega arith

high_byte : (c a r d below above : ℕ) → r < 2 ^ 64 → d < 2 ^ 64 → 2 ^ 63 ≤ c → 2 ^ 64 - c ≤ below → c + a ≤ above + 2 ^ 64 → past ((c + r) % 2 ^ 64) d < a → above ≤ past r d → 2 ^ 64 ≤ past r d + below
high_byte c a r d below above hr hd hc h g k o = omega arith

frame_byte : (c a r d below above : ℕ) → r < 2 ^ 64 → d < 2 ^ 64 → in_frame below above c a ≡ true → past ((c + r) % 2 ^ 64) d < a → InFrame below above (past r d)
frame_byte c a r d below above hr hd t k =
    (elim (nat_lt c (2 ^ 63)) as (λ o. nat_lt c (2 ^ 63) ≡ o → (if o then nat_le (c + a) above else nat_le (2 ^ 64 - c) below && nat_le (c + a) (above + 2 ^ 64)) ≡ true → InFrame below above (past r d)) [
      | true ↦ λ e f. inl (low_byte c a r d above hr hd (ltb-true c (2 ^ 63) e) (leb-true _ _ f) k)
      | false ↦ λ e f.
          let p = and_parts (nat_le (2 ^ 64 - c) below) (nat_le (c + a) (above + 2 ^ 64)) f in
          elim (cases_lt (past r d) above) [
            | inl o ↦ inl o
            | inr o ↦ inr (high_byte c a r d below above hr hd (ltb-false c (2 ^ 63) e) (leb-true _ _ p.0) (leb-true _ _ p.1) k o)
          ]
    ]) refl t

-- a byte of a region in a segment is in a segment
in_one : (s : Segment) (d b p : ℕ) → holds_bytes d b s ≡ true → d ≤ p → p < d + b → (p < s.lo) ⊎ (s.lo + s.size ≤ p) → ⊥
in_one s d b p t l h o =
    let q = and_parts (nat_le s.lo d) (nat_le (d + b) (s.lo + s.size)) t in
    let i : s.lo ≤ d = leb-true _ _ q.0 in
    let j : d + b ≤ s.lo + s.size = leb-true _ _ q.1 in
    elim o [ inl g ↦ omega arith | inr g ↦ omega arith ]

fits_one : (s : Segment) (d b : ℕ) → holds_bytes d b s ≡ true → IsSegment s → d + b ≤ 2 ^ 64
fits_one s d b t f =
    let q = and_parts (nat_le s.lo d) (nat_le (d + b) (s.lo + s.size)) t in
    let j : d + b ≤ s.lo + s.size = leb-true _ _ q.1 in
    let k : s.lo + s.size < 2 ^ 64 = f.ends in
    omega arith

in_some : (segments : List Segment) (d b p : ℕ) → list_any (holds_bytes d b) segments ≡ true → d ≤ p → p < d + b → IsOutside p segments → ⊥
in_some [] d b p t l h o = absurd (cc)
in_some (s ∷ ss) d b p t l h o = elim (or_cases (holds_bytes d b s) (list_any (holds_bytes d b) ss) t) [
  | inl e ↦ in_one s d b p e l h (o zero s (omega arith))
  | inr e ↦ in_some ss d b p e l h (λ k x lt. o (suc k) x (omega arith))
]

some_fits : (segments : List Segment) (d b : ℕ) → list_any (holds_bytes d b) segments ≡ true → All IsSegment segments → d + b ≤ 2 ^ 64
some_fits [] d b t f = absurd (cc)
some_fits (s ∷ ss) d b t f = elim (or_cases (holds_bytes d b s) (list_any (holds_bytes d b) ss) t) [
  | inl e ↦ fits_one s d b e (f zero s (omega arith))
  | inr e ↦ some_fits ss d b e (λ k x lt. f (suc k) x (omega arith))
]

past_sum : (d x : ℕ) → d < 2 ^ 64 → x < 2 ^ 64 → d + past d x < 2 ^ 64 → d + past d x ≡ x
past_sum d x hd hx h = omega arith

own_byte : (x a : ℕ) → x < 2 ^ 64 → 1 ≤ a → past x x < a
own_byte x a hx h = omega arith

frame_apart : (u : Valuation) (k : Known) → Keeps u k → (c a d b : ℕ) → 1 ≤ a → 1 ≤ b → in_frame k.below k.above c a ≡ true → covers_bytes k.image d b ≡ true → Apart ((c + u.entry 4) % 2 ^ 64) a d b
frame_apart u k h c a d b sa sb f s =
    let r : ℕ = u.entry 4 in
    let hr : u.entry 4 < 2 ^ 64 = h.stack in
    let top : d + b ≤ 2 ^ 64 = some_fits k.image.segs d b s h.image.each in
    let hd : d < 2 ^ 64 = omega arith in
    let x : ℕ = (c + u.entry 4) % 2 ^ 64 in
    let hx : x < 2 ^ 64 = mod-lt (c + u.entry 4) (omega arith) in record {
      after = elim (cases_lt (past x d) a) [
        | inr g ↦ g
        | inl g ↦ absurd (in_some k.image.segs d b d s (omega arith) (omega arith) (h.frame d hd (frame_byte c a (u.entry 4) d k.below k.above hr hd f g)))
      ];
      before = elim (cases_lt (past d x) b) [
        | inr g ↦ g
        | inl g ↦
            let e : d + past d x ≡ x = past_sum d x hd hx (omega arith) in
            absurd (in_some k.image.segs d b x s (omega arith) (omega arith) (h.frame x hx (frame_byte c a (u.entry 4) x k.below k.above hr hx f (own_byte x a hx sa))))
      ];
    }

constant_value : (u : Valuation) (y : PlainSum) (d : ℕ) → constant_alone y ≡ Some d → d < 2 ^ 64 → value u y ≡ d
constant_value u y d e h = ap (value u) (is_constant y d e) ∙ (omega arith)

framed_apart : (u : Valuation) (k : Known) → Keeps u k → (x : PlainSum) (a : ℕ) (y : PlainSum) (b : ℕ) → 1 ≤ a → 1 ≤ b → (p q : Option ℕ) → above_stack x ≡ p → constant_alone y ≡ q → frame_and_constant k p a q b ≡ true
    → Apart (value u x) a (value u y) b
framed_apart u k h x a y b sa sb (Some c) (Some d) ex ey t =
    let p = and_parts (in_frame k.below k.above c a) (nat_le 1 b && covers_bytes k.image d b) t in
    let covered : covers_bytes k.image d b ≡ true = (and_parts (nat_le 1 b) (covers_bytes k.image d b) p.1).1 in
    let top : d + b ≤ 2 ^ 64 = some_fits k.image.segs d b covered h.image.each in
    subst (λ z. Apart z a (value u y) b) (sym (above_value u x c ex)) (subst (λ z. Apart ((c + u.entry 4) % 2 ^ 64) a z b) (sym (constant_value u y d ey (omega arith))) (frame_apart u k h c a d b sa sb p.0 covered))
framed_apart u k h x a y b sa sb (Some c) None ex ey t = absurd (cc)
framed_apart u k h x a y b sa sb None q ex ey t = absurd (cc)

-- ---- the pairs

region_same : (u : Valuation) (r : Region) (x : PlainSum) (a : ℕ) → is_region r x a ≡ true → (r.bytes ≡ a) × (value u r.at ≡ value u x)
region_same u r x a t = let p = and_parts (r.bytes == a) (same r.at x) t in (eqb-true _ _ p.0, ap (value u) (same_term r.at x p.1))

pair_same : (u : Valuation) (p : Region × Region) (x : PlainSum) (a : ℕ) (y : PlainSum) (b : ℕ) → (is_region p.0 x a && is_region p.1 y b) ≡ true
    → Apart (value u p.0.at) p.0.bytes (value u p.1.at) p.1.bytes → Apart (value u x) a (value u y) b
pair_same u p x a y b t h =
    let q = and_parts (is_region p.0 x a) (is_region p.1 y b) t in
    let r = region_same u p.0 x a q.0 in
    let s = region_same u p.1 y b q.1 in
    record { after = subst (λ n. n ≤ past (value u x) (value u y)) r.0 (rw (r.1, s.1) at h.after); before = subst (λ n. n ≤ past (value u y) (value u x)) s.0 (rw (r.1, s.1) at h.before) }

listed_apart : (u : Valuation) (seps : List (Region × Region)) → PairsHold u seps → (x : PlainSum) (a : ℕ) (y : PlainSum) (b : ℕ) → listed seps x a y b ≡ true → Apart (value u x) a (value u y) b
listed_apart u [] h x a y b t = absurd (cc)
listed_apart u (p ∷ ps) h x a y b t = elim (or_cases (is_pair p x a y b) (listed ps x a y b) t) [
  | inl e ↦ elim (or_cases (is_region p.0 x a && is_region p.1 y b) (is_region p.0 y b && is_region p.1 x a) e) [
    | inl f ↦ pair_same u p x a y b f h.0
    | inr f ↦ apart_sym _ _ _ _ (pair_same u p y b x a f h.0)
  ]
  | inr e ↦ listed_apart u ps h.1 x a y b e
]

told : (u : Valuation) (k : Known) → Keeps u k → (x : PlainSum) (a : ℕ) (y : PlainSum) (b : ℕ) → 1 ≤ a → 1 ≤ b → told_apart k x a y b ≡ true → Apart (value u x) a (value u y) b
told u k h x a y b sa sb t = elim (or_cases (framed k x a y b) (framed k y b x a || listed k.seps x a y b) t) [
  | inl e ↦ framed_apart u k h x a y b sa sb (above_stack x) (constant_alone y) refl refl e
  | inr f ↦ elim (or_cases (framed k y b x a) (listed k.seps x a y b) f) [
    | inl e ↦ apart_sym _ _ _ _ (framed_apart u k h y b x a sb sa (above_stack y) (constant_alone x) refl refl e)
    | inr e ↦ listed_apart u k.seps h.pairs x a y b e
  ]
]

distance_tells : (u : Valuation) (k : Known) → Keeps u k → (x : PlainSum) (a : ℕ) (y : PlainSum) (b : ℕ) → 1 ≤ a → 1 ≤ b → (o : Option ℕ) → constant_alone (minus y x) ≡ o
    → Answers (by_difference k x a y b o) (by_offset (past (value u x) (value u y)) a b)
distance_tells u k h x a y b sa sb (Some d) e = inr (ap (λ n. by_offset n a b) (minus_past u x y d e))
distance_tells u k h x a y b sa sb None e =
    (elim (told_apart k x a y b) as (λ t. told_apart k x a y b ≡ t → Answers (if t then Separate else Unknown) (by_offset (past (value u x) (value u y)) a b)) [
      | true ↦ λ t. inr (separate_offset (value u x) a (value u y) b (value_below u x) (value_below u y) sa (told u k h x a y b sa sb t))
      | false ↦ λ t. inl refl
    ]) refl

-- each answer but Unknown is the one by the values
pub relate_tells : (u : Valuation) (k : Known) → Keeps u k → (x : PlainSum) (a : ℕ) (y : PlainSum) (b : ℕ) → 1 ≤ a → 1 ≤ b → Answers (relate k x a y b) (by_offset (past (value u x) (value u y)) a b)
unfolding relate
relate_tells u k h x a y b sa sb = distance_tells u k h x a y b sa sb (constant_alone (minus y x)) refl
