-- Numbers, kinds of sites and edges: each is read just where it has its form.
use Rattle.std.proofs.Common.{◌≡◌, ℕ, ◌^◌, ◌<◌, Bool, true, false, ◌||◌, eqb, ltb, if◌then◌else◌, List, [], ◌∷◌, ◌++◌, codes, Option, Some, None, inl, inr, refl, ap, ap₂, subst, ◌∙◌}
use Rattle.std.specs.Prelude.{IfSome}
use Rattle.std.specs.Str.{bytes_eq}
use Rattle.std.proofs.lemmas.Bool.{ltb-true}
use Rattle.std.proofs.lemmas.Slice.Eq.{bytes_eq-Decides}
use Rattle.bits_core.specs.declared.width.Width.{Width}
use Rattle.bits_core.specs.declared.width.Width.TheVariants.{W8, W16, W32, W64}
use Rattle.predicates.specs.declared.site.Reason.{Reason}
use Rattle.predicates.specs.declared.site.Reason.TheVariants.{Unresolved, BadReturn, Unsupported, Stop, Extern}
use Rattle.predicates.specs.declared.site.Kind.{Kind}
use Rattle.predicates.specs.declared.site.Kind.TheVariants.{Step, Call, Outside, Return, End}
use Rattle.graph_data.specs.WellFormed.{IsKind, IsEdge, IsNumber}
use Rattle.term_text.specs.Bind.{◌>>=◌}
use Rattle.term_text.specs.Numbers.{numeral_at, number_at}
use Rattle.term_text.proofs.BuildLemmas.{numeral_below, number_below}
use Rattle.graph_lines.specs.Words.{split_at}
use Rattle.graph_lines.specs.Text.{reason_text}
use Rattle.graph_lines.specs.Syntax.{reason_at, long_kind, kind_at, edge_at, width_of}
use Rattle.graph_lines.specs.Form.{number_that, address, any_number, is_width, site_claim, edge}
use Rattle.graph_lines.proofs.FormLemmas.{bind_some, guard_some, split_is, free_numeral, parted, part, ReadsForm, nowhere}

-- ---- numbers

-- a numeral has 64 bits
pub numeral_small : (hex : Bool) (w : List ℕ) (n : ℕ) → numeral_at hex w ≡ Some n → n < 2 ^ 64
numeral_small hex w n e = subst (λ o. IfSome o (λ (m : ℕ). m < 2 ^ 64)) e (numeral_below hex w)

-- so has a number
pub number_small : (w : List ℕ) (n : ℕ) → number_at w ≡ Some n → n < 2 ^ 64
number_small w n e = subst (λ o. IfSome o (λ (m : ℕ). m < 2 ^ 64)) e (number_below w)

-- a number in form
pub in_form : (spelled : List ℕ → Option ℕ) (w : List ℕ) (n : ℕ) → spelled w ≡ Some n → number_that spelled (λ n. true) [] w
in_form spelled w n e = (refl, (n, e, refl))

-- numbers
pub number_reader : ReadsForm any_number number_at nowhere IsNumber
number_reader = record {
  complete = λ words w h. (h.1.0, h.1.1, h.0);
  sound = λ w n e. (in_form number_at w n e, number_small w n e);
}

-- the widths are those that are read
pub width_complete : (n : ℕ) → is_width n ≡ true → (w : Width) × (width_of n ≡ Some w)
width_complete n is = by_test (eqb n 8) (eqb n 16) (eqb n 32) (eqb n 64) is
  where
    by_test : (a b c d : Bool) → (a || (b || (c || d))) ≡ true
        → (w : Width) × ((if a then Some W8 else (if b then Some W16 else (if c then Some W32 else (if d then Some W64 else None)))) ≡ Some w)
    by_test true b c d is = (W8, refl)
    by_test false true c d is = (W16, refl)
    by_test false false true d is = (W32, refl)
    by_test false false false true is = (W64, refl)
    by_test false false false false is = absurd (cc)

-- and no others
pub width_sound : (n : ℕ) (w : Width) → width_of n ≡ Some w → is_width n ≡ true
width_sound n w e = by_test (eqb n 8) (eqb n 16) (eqb n 32) (eqb n 64) e
  where
    by_test : (a b c d : Bool) → (if a then Some W8 else (if b then Some W16 else (if c then Some W32 else (if d then Some W64 else None)))) ≡ Some w
        → (a || (b || (c || d))) ≡ true
    by_test true b c d e = refl
    by_test false true c d e = refl
    by_test false false true d e = refl
    by_test false false false true e = refl
    by_test false false false false e = absurd (cc)

-- ---- kinds of sites

-- a reason
reason_reads : (reason : Reason) → kind_at (codes "end " ++ reason_text reason) ≡ Some (End reason)
unfolding kind_at
reason_reads Unresolved = refl
reason_reads BadReturn = refl
reason_reads Unsupported = refl
reason_reads Stop = refl
reason_reads Extern = refl

-- a call
call_reads : (w : List ℕ) (n : ℕ) → numeral_at true w ≡ Some n → kind_at (codes "call " ++ w) ≡ Some (Call n)
unfolding kind_at
call_reads w n e = rw e refl

-- what has the form of a kind is read
kind_complete : (words : List (List ℕ)) (w : List ℕ) → site_claim words w → (k : Kind) × (kind_at w ≡ Some k) × (words ≡ [])
unfolding kind_at
kind_complete words w (inl h) = (Step, ap kind_at h.1, h.0)
kind_complete words w (inr (inl h)) = (Outside, ap kind_at h.1, h.0)
kind_complete words w (inr (inr (inl h))) = (Return, ap kind_at h.1, h.0)
kind_complete words w (inr (inr (inr (inl h)))) =
    let e : w ≡ codes "call " ++ h.3 = h.5 ∙ ap (λ (l : List ℕ). l ++ h.3) h.6.1 in
    (Call h.7.1.0, ap kind_at e ∙ call_reads h.3 h.7.1.0 h.7.1.1, h.4 ∙ ap₂ (λ (x y : List (List ℕ)). x ++ y) h.6.0 h.7.0)
kind_complete words w (inr (inr (inr (inr h)))) = (End h.0, ap kind_at h.1.1 ∙ reason_reads h.0, h.1.0)

-- bytes that are the same
pub same_bytes : (x y : List ℕ) → bytes_eq x y ≡ true → x ≡ y
same_bytes x y e = (bytes_eq-Decides x y).0 e

-- the reason that is read has the text
reason_is : (w : List ℕ) (reason : Reason) → reason_at w ≡ Some reason → w ≡ reason_text reason
reason_is w reason e =
    by_test (bytes_eq w (codes "unresolved")) (bytes_eq w (codes "badreturn")) (bytes_eq w (codes "unsupported")) (bytes_eq w (codes "stop")) (bytes_eq w (codes "extern")) refl refl refl refl refl e
  where
    is : (r : Reason) → bytes_eq w (reason_text r) ≡ true → Some r ≡ Some reason → w ≡ reason_text reason
    is r i e = let same : r ≡ reason = cc in same_bytes w (reason_text r) i ∙ ap reason_text same

    by_test : (a b c d f : Bool) → bytes_eq w (codes "unresolved") ≡ a → bytes_eq w (codes "badreturn") ≡ b → bytes_eq w (codes "unsupported") ≡ c
        → bytes_eq w (codes "stop") ≡ d → bytes_eq w (codes "extern") ≡ f
        → (if a then Some Unresolved else (if b then Some BadReturn else (if c then Some Unsupported else (if d then Some Stop else (if f then Some Extern else None))))) ≡ Some reason
        → w ≡ reason_text reason
    by_test true b c d f i j k l m e = is Unresolved i e
    by_test false true c d f i j k l m e = is BadReturn j e
    by_test false false true d f i j k l m e = is Unsupported k e
    by_test false false false true f i j k l m e = is Stop l e
    by_test false false false false true i j k l m e = is Extern m e
    by_test false false false false false i j k l m e = absurd (cc)

-- a kind of two words
long_sound : (w : List ℕ) (p : List ℕ × List ℕ) (k : Kind) → w ≡ p.0 ++ 32 ∷ p.1 → long_kind p ≡ Some k → site_claim [] w × IsKind k
long_sound w p k whole e = by_test (bytes_eq p.0 (codes "call")) (bytes_eq p.0 (codes "end")) refl refl e
  where
    by_test : (a b : Bool) → bytes_eq p.0 (codes "call") ≡ a → bytes_eq p.0 (codes "end") ≡ b
        → (if a then (numeral_at true p.1 >>= λ entry. Some (Call entry)) else (if b then (reason_at p.1 >>= λ reason. Some (End reason)) else None)) ≡ Some k
        → site_claim [] w × IsKind k
    by_test true b i j e =
        let n = bind_some (numeral_at true p.1) (λ entry. Some (Call entry)) k e in
        let same : Call n.0 ≡ k = let f = n.2 in cc in
        let text : w ≡ codes "call " ++ p.1 = whole ∙ ap (λ (l : List ℕ). l ++ 32 ∷ p.1) (same_bytes p.0 (codes "call") i) in (
          inr (inr (inr (inl ([], [], codes "call ", p.1, refl, text, (refl, refl), in_form (numeral_at true) p.1 n.0 n.1)))),
          subst IsKind same (numeral_small true p.1 n.0 n.1),
        )
    by_test false true i j e =
        let r = bind_some (reason_at p.1) (λ reason. Some (End reason)) k e in
        let same : End r.0 ≡ k = let f = r.2 in cc in
        let text : w ≡ codes "end " ++ reason_text r.0 = whole ∙ ap₂ (λ (x y : List ℕ). x ++ 32 ∷ y) (same_bytes p.0 (codes "end") j) (reason_is p.1 r.0 r.1) in
        (inr (inr (inr (inr (r.0, (refl, text))))), subst IsKind same tt)
    by_test false false i j e = absurd (cc)

-- what is read as a kind has its form
kind_sound : (w : List ℕ) (k : Kind) → kind_at w ≡ Some k → site_claim [] w × IsKind k
unfolding kind_at
kind_sound w k e = by_test (bytes_eq w (codes "step")) (bytes_eq w (codes "outside")) (bytes_eq w (codes "ret")) refl refl refl e
  where
    by_test : (a b c : Bool) → bytes_eq w (codes "step") ≡ a → bytes_eq w (codes "outside") ≡ b → bytes_eq w (codes "ret") ≡ c
        → (if a then Some Step else (if b then Some Outside else (if c then Some Return else (split_at 32 w >>= λ p. long_kind p)))) ≡ Some k
        → site_claim [] w × IsKind k
    by_test true b c i j l e = let same : Step ≡ k = cc in (inl (refl, same_bytes w (codes "step") i), subst IsKind same tt)
    by_test false true c i j l e = let same : Outside ≡ k = cc in (inr (inl (refl, same_bytes w (codes "outside") j)), subst IsKind same tt)
    by_test false false true i j l e = let same : Return ≡ k = cc in (inr (inr (inl (refl, same_bytes w (codes "ret") l))), subst IsKind same tt)
    by_test false false false i j l e =
        let p = bind_some (split_at 32 w) (λ p. long_kind p) k e in
        long_sound w p.0 k (split_is 32 w p.0 p.1) p.2

-- kinds
pub kind_reader : ReadsForm site_claim kind_at nowhere IsKind
kind_reader = record { complete = kind_complete; sound = kind_sound }

-- ---- edges

-- an edge
pub edge_reader : ReadsForm edge edge_at nowhere IsEdge
unfolding edge_at
edge_reader = record {
  complete = λ words w h.
      let small = number_that (numeral_at false) (λ n. ltb n (2 ^ 32)) in
      let p = parted 58 address small (free_numeral 58 true (λ n. true) refl) words w h in
      ((p.first.1.0, p.second.1.0), rw (p.split, p.first.1.1, p.second.1.1, p.second.1.2) refl, p.words_are ∙ ap₂ (λ (x y : List (List ℕ)). x ++ y) p.first.0 p.second.0);
  sound = λ w edge e.
      let small = number_that (numeral_at false) (λ n. ltb n (2 ^ 32)) in
      let a = bind_some (split_at 58 w) _ edge e in
      let n = bind_some (numeral_at true a.0.0) _ edge a.2 in
      let m = bind_some (numeral_at false a.0.1) _ edge n.2 in
      let g = guard_some (ltb m.0 (2 ^ 32)) (n.0, m.0) edge m.2 in (
        part 58 address small [] [] a.0.0 a.0.1 w (split_is 58 w a.0 a.1) (in_form (numeral_at true) a.0.0 n.0 n.1) (refl, (m.0, m.1, g.0)),
        subst IsEdge g.1 (numeral_small true a.0.0 n.0 n.1, ltb-true m.0 (2 ^ 32) g.0),
      );
}
