-- Regions and entries of registers: each is read just where it has its form.
use Rattle.std.proofs.Common.{◌≡◌, ℕ, ◌<◌, Bool, true, false, ◌&&◌, eqb, if◌then◌else◌, IsTrue, List, [], ◌∷◌, ◌++◌, length, codes, Some, inl, inr, refl, sym, ap, ap₂, subst, ◌∙◌, arith, lit<}
use Rattle.std.specs.Str.{bytes_eq}
use Rattle.std.proofs.lemmas.Bool.{and_parts, eqb-true, both_ways}
use Rattle.std.proofs.lemmas.Slice.Eq.{bytes_eq-Decides}
use Rattle.mem_forest.specs.Shape.{is_size}
use Rattle.graph_data.specs.Parts.{Each}
use Rattle.term_text.specs.Names.{is_term_byte, register_name}
use Rattle.term_text.specs.Numbers.{numeral_at}
use Rattle.graph_lines.specs.Words.{split_at, is_term_word}
use Rattle.graph_lines.specs.Syntax.{strip, size_at, sized_at, region_at, register_named, all_registers, given_at}
use Rattle.graph_lines.specs.Form.{just, ◌before◌, size, term, term_or_unknown, region, register, entry}
use Rattle.graph_lines.proofs.WordLemmas.{has_none, split_joined}
use Rattle.graph_lines.proofs.ByteLemmas.{clean_free}
use Rattle.graph_lines.proofs.TermPartLemmas.{name_clean, name_reads}
use Rattle.graph_lines.proofs.FormLemmas.{bind_some, guard_some, split_is, strip_is, IsFree, free_numeral, free_term, parted, part, ReadsForm}
use Rattle.graph_lines.proofs.NumberForms.{same_bytes}

-- ---- sizes and regions

-- a term's place, a size and what stands after
pub sized_complete : (t d rest : List ℕ) (n : ℕ) → has_none 59 t ≡ true → numeral_at false d ≡ Some n → is_size n ≡ true → has_none 93 d ≡ true
    → sized_at (t ++ 59 ∷ (d ++ 93 ∷ rest)) ≡ Some (t, (n, rest))
unfolding sized_at
sized_complete t d rest n free e is none =
    let first = split_joined 59 t (d ++ 93 ∷ rest) free in
    let second = split_joined 93 d rest none in
    rw (first, second, e, is) refl

-- and back
pub sized_sound : (bytes : List ℕ) (p : List ℕ × (ℕ × List ℕ)) → sized_at bytes ≡ Some p
    → (d : List ℕ) × (bytes ≡ p.0 ++ 59 ∷ (d ++ 93 ∷ p.1.1)) × size [] d × IsTrue (is_size p.1.0)
unfolding sized_at
sized_sound bytes p e =
    let a = bind_some (split_at 59 bytes) _ p e in
    let b = bind_some (split_at 93 a.0.1) _ p a.2 in
    let s = bind_some (size_at b.0.0) _ p b.2 in
    let n = bind_some (numeral_at false b.0.0) _ s.0 s.1 in
    let g = guard_some (is_size n.0) n.0 s.0 n.2 in
    let same : (a.0.0, (s.0, b.0.1)) ≡ p = let f = s.2 in cc in
    let passed : is_size s.0 ≡ true = ap is_size (sym g.1) ∙ g.0 in
    subst (λ (q : List ℕ × (ℕ × List ℕ)). (d : List ℕ) × (bytes ≡ q.0 ++ 59 ∷ (d ++ 93 ∷ q.1.1)) × size [] d × IsTrue (is_size q.1.0)) same
    (b.0.0, split_is 59 bytes a.0 a.1 ∙ ap (λ (l : List ℕ). a.0.0 ++ 59 ∷ l) (split_is 93 a.0.1 b.0 b.1), (refl, (n.0, n.1, g.0)), passed)

-- the place of a region's term
abbrev pub region_place : List ℕ × ℕ → List (List ℕ)
region_place r = r.0 ∷ []

-- an empty list
pub is_empty : (l : List ℕ) → eqb (length l) 0 ≡ true → l ≡ []
is_empty [] e = refl
is_empty (b ∷ l) e = absurd (let i = eqb-true (length (b ∷ l)) 0 e in omega arith)

-- regions
pub region_reader : ReadsForm region region_at region_place (λ r. IsTrue (is_size r.1))
unfolding region_at
region_reader = record {
  complete = λ words w h.
      let Tail = size before just (codes "]") in
      let p = parted 59 term Tail (free_term 59 refl) h.1 h.3 h.7 in
      let s = p.second in
      let inner = h.3 in
      let after : p.back ≡ s.2 ++ 93 ∷ [] = s.5 ∙ ap (λ (l : List ℕ). s.2 ++ l) s.7.1 in
      let whole : inner ≡ p.front ++ 59 ∷ (s.2 ++ 93 ∷ []) = split_is 59 inner (p.front, p.back) p.split ∙ ap (λ (l : List ℕ). p.front ++ 59 ∷ l) after in
      let sized : sized_at inner ≡ Some (p.front, (s.6.1.0, [])) = ap sized_at whole ∙ sized_complete p.front s.2 [] s.6.1.0 (free_term 59 refl p.early p.front p.first) s.6.1.1 s.6.1.2 (free_numeral 93 false is_size refl s.0 s.2 s.6) in
      let bytes : w ≡ 91 ∷ inner = h.5 ∙ ap (λ (l : List ℕ). l ++ inner) h.6.1 in
      let late : p.late ≡ [] = s.4 ∙ ap₂ (λ (x y : List (List ℕ)). x ++ y) s.6.0 s.7.0 in (
        (p.front, s.6.1.0),
        ap region_at bytes ∙ rw (sized, p.first.1) refl,
        h.4 ∙ ap₂ (λ (x y : List (List ℕ)). x ++ y) h.6.0 (p.words_are ∙ ap₂ (λ (x y : List (List ℕ)). x ++ y) p.first.0 late),
      );
  sound = λ w r e.
      let Tail = size before just (codes "]") in
      let inner = bind_some (strip (codes "[") w) _ r e in
      let parts = bind_some (sized_at inner.0) _ r inner.2 in
      let g = guard_some (is_term_word parts.0.0 && eqb (length parts.0.1.1) 0) (parts.0.0, parts.0.1.0) r parts.2 in
      let tests = and_parts (is_term_word parts.0.0) (eqb (length parts.0.1.1) 0) g.0 in
      let s = sized_sound inner.0 parts.0 parts.1 in
      let whole : inner.0 ≡ parts.0.0 ++ 59 ∷ (s.0 ++ 93 ∷ []) = s.1 ∙ ap (λ (l : List ℕ). parts.0.0 ++ 59 ∷ (s.0 ++ 93 ∷ l)) (is_empty parts.0.1.1 tests.1) in
      subst (λ (r : List ℕ × ℕ). region (region_place r) w × IsTrue (is_size r.1)) g.1 (
        (
          [],
          parts.0.0 ∷ [],
          codes "[",
          inner.0,
          refl,
          strip_is (codes "[") w inner.0 inner.1,
          (refl, refl),
          part 59 term Tail (parts.0.0 ∷ []) [] parts.0.0 (s.0 ++ 93 ∷ []) inner.0 whole (refl, tests.0) ([], [], s.0, 93 ∷ [], refl, refl, s.2, (refl, refl)),
        ),
        s.3,
      );
}

-- ---- registers

-- a register that is found has the name
register_is : (rs : List ℕ) (w : List ℕ) (r : ℕ) → Each (λ k. k < 16) rs → register_named rs w ≡ Some r → (r < 16) × (w ≡ register_name r)
register_is [] w r all e = absurd (cc)
register_is (k ∷ rs) w r all e = by_name (bytes_eq (register_name k) w) refl (λ i. register_is rs w r all.1 i) e
  where
    by_name : (b : Bool) → bytes_eq (register_name k) w ≡ b → (register_named rs w ≡ Some r → (r < 16) × (w ≡ register_name r))
        → (if b then Some k else register_named rs w) ≡ Some r → (r < 16) × (w ≡ register_name r)
    by_name true i more e = let same : k ≡ r = cc in subst (λ (n : ℕ). (n < 16) × (w ≡ register_name n)) same (all.0, sym (same_bytes (register_name k) w i))
    by_name false i more e = more e

-- their numbers are below 16
all_small : Each (λ k. k < 16) all_registers
all_small = (lit< tt, (lit< tt, (lit< tt, (lit< tt, (lit< tt, (lit< tt, (lit< tt, (lit< tt, (lit< tt, (lit< tt, (lit< tt, (lit< tt, (lit< tt, (lit< tt, (lit< tt, (lit< tt, tt))))))))))))))))

-- no name has a separator of lines
pub free_register : (separator : ℕ) → is_term_byte separator ≡ false → IsFree separator register
free_register separator none words w h =
    subst (λ (l : List ℕ). has_none separator l ≡ true) (sym h.2.1) (clean_free separator none (register_name h.0) (name_clean h.0 h.1))

-- the place of an entry's term, if it isn't unknown
abbrev pub entry_place : ℕ × List ℕ → List (List ℕ)
entry_place g = if bytes_eq g.1 (codes "?") then [] else g.1 ∷ []

-- bytes that are others
other_bytes : (x y : List ℕ) → (x ≡ y → ⊥) → bytes_eq x y ≡ false
other_bytes x y differ = by_same (bytes_eq x y) refl
  where
    by_same : (b : Bool) → bytes_eq x y ≡ b → b ≡ false
    by_same true e = absurd (differ (same_bytes x y e))
    by_same false e = refl

-- what stands after the `=` of an entry
unknown_complete : (words : List (List ℕ)) (w : List ℕ) → term_or_unknown words w
    → (is_term_word w ≡ true) × (words ≡ (if bytes_eq w (codes "?") then [] else w ∷ []))
unknown_complete words w (inl h) = (ap is_term_word h.1, h.0 ∙ ap (λ (l : List ℕ). if bytes_eq l (codes "?") then [] else w ∷ []) (sym h.1))
unknown_complete words w (inr h) = (h.1.1, h.1.0 ∙ ap (λ (b : Bool). if b then [] else w ∷ []) (sym (other_bytes w (codes "?") h.0)))

-- and back
unknown_sound : (w : List ℕ) → is_term_word w ≡ true → term_or_unknown (if bytes_eq w (codes "?") then [] else w ∷ []) w
unknown_sound w is = by_same (bytes_eq w (codes "?")) refl
  where
    by_same : (b : Bool) → bytes_eq w (codes "?") ≡ b → term_or_unknown (if b then [] else w ∷ []) w
    by_same true e = inl (refl, same_bytes w (codes "?") e)
    by_same false e = inr ((λ s. let i : bytes_eq w (codes "?") ≡ true = (bytes_eq-Decides w (codes "?")).1 s in both_ways (bytes_eq w (codes "?")) e i), (refl, is))

-- entries
pub entry_reader : ReadsForm entry given_at entry_place (λ g. g.0 < 16)
unfolding given_at
entry_reader = record {
  complete = λ words w h.
      let p = parted 61 register term_or_unknown (free_register 61 refl) words w h in
      let r = p.first in
      let u = unknown_complete p.late p.back p.second in
      let named : register_named all_registers p.front ≡ Some r.0 = ap (register_named all_registers) r.2.1 ∙ name_reads r.0 r.1 in
      ((r.0, p.back), rw (p.split, named, u.0) refl, p.words_are ∙ ap₂ (λ (x y : List (List ℕ)). x ++ y) r.2.0 u.1);
  sound = λ w g e.
      let a = bind_some (split_at 61 w) _ g e in
      let r = bind_some (register_named all_registers a.0.0) _ g a.2 in
      let t = guard_some (is_term_word a.0.1) (r.0, a.0.1) g r.2 in
      let is = register_is all_registers a.0.0 r.0 all_small r.1 in
      let u = unknown_sound a.0.1 t.0 in
      subst (λ (g : ℕ × List ℕ). entry (entry_place g) w × (g.0 < 16)) t.1
      (part 61 register term_or_unknown [] (entry_place (r.0, a.0.1)) a.0.0 a.0.1 w (split_is 61 w a.0 a.1) (r.0, is.0, (refl, is.1)) u, is.0);
}
