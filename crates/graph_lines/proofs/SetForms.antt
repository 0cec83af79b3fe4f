-- The sets of bounds and the nodes of memory: each is read just where it has its form.
use Rattle.std.proofs.Common.{◌≡◌, ℕ, ◌<◌, Bool, true, false, ◌&&◌, eqb, IsTrue, List, [], ◌∷◌, ◌++◌, length, codes, Option, Some, None, inl, inr, refl, sym, ap, ap₂, subst, ◌∙◌, arith}
use Rattle.std.specs.Prelude.{⊤}
use Rattle.std.specs.List.{list_all, flat_map}
use Rattle.std.proofs.lemmas.Bool.{and_from, and_parts, eqb-true, both_ways}
use Rattle.mem_forest.specs.Shape.{is_size}
use Rattle.predicates.specs.declared.bound.Values.{Values}
use Rattle.predicates.specs.declared.bound.Values.TheVariants.{Range, OneOf}
use Rattle.graph_data.specs.Parts.{Each}
use Rattle.graph_data.specs.WellFormed.{IsNumber, AreNumbers}
use Rattle.term_text.specs.Bind.{◌>>=◌}
use Rattle.term_text.specs.Names.{is_word_byte}
use Rattle.term_text.specs.Numbers.{number_at}
use Rattle.term_text.proofs.NumberLemmas.{AreWord}
use Rattle.term_text.proofs.SpellLemmas.{number_is_word}
use Rattle.graph_lines.specs.Words.{split_at, fields, is_term_word}
use Rattle.graph_lines.specs.Line.{HasNumber}
use Rattle.graph_lines.specs.Syntax.{guard, strip, each_at, sized_at, list_at, range_at, values_or, values_at, content_at, node_at}
use Rattle.graph_lines.specs.Form.{Form, just, ◌before◌, ◌or_else◌, list_of, any_number, size, term, values, node}
use Rattle.graph_lines.proofs.WordLemmas.{split_joined}
use Rattle.graph_lines.proofs.FormLemmas.{bind_some, guard_some, split_is, strip_is, free_numeral, free_number, free_term, free_list, parted, part, ReadsForm, nowhere, list_reads}
use Rattle.graph_lines.proofs.NumberForms.{in_form, number_small, number_reader}
use Rattle.graph_lines.proofs.PartForms.{is_empty, sized_complete, sized_sound}

-- ---- sets of bounds

-- no words, however often
pub no_words : {X : Type 0} (xs : List X) → flat_map nowhere xs ≡ []
no_words [] = refl
no_words (x ∷ xs) = no_words xs

-- numbers with commas between them
numbers_reader : ReadsForm (list_of 44 any_number) (λ w. each_at number_at (fields 44 w)) (flat_map nowhere) (λ xs. Each IsNumber xs × (0 < length xs))
numbers_reader = list_reads 44 any_number number_at nowhere IsNumber (free_number 44 refl) number_reader

-- a word doesn't begin with a brace
no_brace : (x rest : List ℕ) → AreWord x → 0 < length x → strip (codes "{") (x ++ rest) ≡ None
no_brace [] rest all pos = absurd (omega arith)
no_brace (b ∷ x) rest all pos = by_test (eqb b 123) refl
  where
    by_test : (t : Bool) → eqb b 123 ≡ t → guard (t && true) (x ++ rest) ≡ None
    by_test true i = absurd (let e : is_word_byte 123 ≡ true = subst (λ (c : ℕ). is_word_byte c ≡ true) (eqb-true b 123 i) all.0 in both_ways (is_word_byte 123) refl e)
    by_test false i = refl

-- what has the form of a range
range_complete : (words : List (List ℕ)) (w : List ℕ) → (any_number before just (codes "..") before any_number) words w
    → (v : Values) × (values_at w ≡ Some v) × (words ≡ [])
unfolding values_at range_at
range_complete words w h =
    let t = h.7 in
    let low = h.6 in
    let high = t.7 in
    let word = number_is_word h.2 low.1.0 low.1.1 in
    let whole : w ≡ h.2 ++ 46 ∷ 46 ∷ t.3 = h.5 ∙ ap (λ (l : List ℕ). h.2 ++ l) (t.5 ∙ ap (λ (l : List ℕ). l ++ t.3) t.6.1) in
    let split = split_joined 46 h.2 (46 ∷ t.3) (free_number 46 refl h.0 h.2 low) in (
      Range low.1.0 high.1.0,
      ap (λ (l : List ℕ). values_or l (strip (codes "{") l)) whole
          ∙ ap (values_or (h.2 ++ 46 ∷ 46 ∷ t.3)) (no_brace h.2 (46 ∷ 46 ∷ t.3) word.0 word.1)
          ∙ rw (split, low.1.1, high.1.1) refl,
      h.4 ∙ ap₂ (λ (x y : List (List ℕ)). x ++ y) low.0 (t.4 ∙ ap₂ (λ (x y : List (List ℕ)). x ++ y) t.6.0 high.0),
    )

-- what has the form of a list
braces_complete : (words : List (List ℕ)) (w : List ℕ) → (just (codes "{") before list_of 44 any_number before just (codes "}")) words w
    → (v : Values) × (values_at w ≡ Some v) × (words ≡ [])
unfolding values_at list_at
braces_complete words w h =
    let t = h.7 in
    let xs = numbers_reader.complete t.0 t.2 t.6 in
    let whole : w ≡ 123 ∷ (t.2 ++ 125 ∷ []) = h.5 ∙ ap₂ (λ (x y : List ℕ). x ++ y) h.6.1 (t.5 ∙ ap (λ (l : List ℕ). t.2 ++ l) t.7.1) in
    let split = split_joined 125 t.2 [] (free_list 125 44 any_number refl (free_number 125 refl) t.0 t.2 t.6) in (
      OneOf xs.0,
      ap (λ (l : List ℕ). values_or l (strip (codes "{") l)) whole ∙ rw (split, xs.1) refl,
      h.4 ∙ ap₂ (λ (x y : List (List ℕ)). x ++ y) h.6.0 (t.4 ∙ ap₂ (λ (x y : List (List ℕ)). x ++ y) (xs.2 ∙ no_words xs.0) t.7.0),
    )

-- what is read as a list
list_sound : (w inner : List ℕ) (v : Values) → w ≡ 123 ∷ inner → list_at inner ≡ Some v → values [] w × (AreNumbers v × HasNumber v)
unfolding list_at
list_sound w inner v whole e =
    let a = bind_some (split_at 125 inner) _ v e in
    let xs = bind_some (each_at number_at (fields 44 a.0.0)) _ v a.2 in
    let g = guard_some (eqb (length a.0.1) 0) (OneOf xs.0) v xs.2 in
    let is = numbers_reader.sound a.0.0 xs.0 xs.1 in
    let text : inner ≡ a.0.0 ++ 125 ∷ [] = split_is 125 inner a.0 a.1 ∙ ap (λ (l : List ℕ). a.0.0 ++ 125 ∷ l) (is_empty a.0.1 g.0) in
    let inside : list_of 44 any_number [] a.0.0 = subst (λ vs. list_of 44 any_number vs a.0.0) (no_words xs.0) is.0 in (
      inr ([], [], codes "{", inner, refl, whole, (refl, refl), ([], [], a.0.0, 125 ∷ [], refl, text, inside, (refl, refl))),
      subst (λ v. AreNumbers v × HasNumber v) g.1 is.1,
    )

-- what is read as a range
range_sound : (w : List ℕ) (v : Values) → range_at w ≡ Some v → values [] w × (AreNumbers v × HasNumber v)
unfolding range_at
range_sound w v e =
    let a = bind_some (split_at 46 w) _ v e in
    let high = bind_some (strip (codes ".") a.0.1) _ v a.2 in
    let n = bind_some (number_at a.0.0) _ v high.2 in
    let m = bind_some (number_at high.0) _ v n.2 in
    let same : Range n.0 m.0 ≡ v = let f = m.2 in cc in
    let text : w ≡ a.0.0 ++ (codes ".." ++ high.0) = split_is 46 w a.0 a.1 ∙ ap (λ (l : List ℕ). a.0.0 ++ 46 ∷ l) (strip_is (codes ".") a.0.1 high.0 high.1) in (
      inl ([], [], a.0.0, codes ".." ++ high.0, refl, text, in_form number_at a.0.0 n.0 n.1, ([], [], codes "..", high.0, refl, refl, (refl, refl), in_form number_at high.0 m.0 m.1)),
      subst (λ v. AreNumbers v × HasNumber v) same ((number_small a.0.0 n.0 n.1, number_small high.0 m.0 m.1), tt),
    )

-- what is read as a set
values_sound : (w : List ℕ) (v : Values) → values_at w ≡ Some v → values [] w × (AreNumbers v × HasNumber v)
unfolding values_at
values_sound w v e = by_brace (strip (codes "{") w) refl e
  where
    by_brace : (o : Option (List ℕ)) → strip (codes "{") w ≡ o → values_or w o ≡ Some v → values [] w × (AreNumbers v × HasNumber v)
    by_brace None i e = range_sound w v e
    by_brace (Some inner) i e = list_sound w inner v (strip_is (codes "{") w inner i) e

-- sets of bounds
pub values_reader : ReadsForm values values_at nowhere (λ v. AreNumbers v × HasNumber v)
values_reader = record { complete = λ words w h. by_form words w h; sound = values_sound }
  where
    by_form : (words : List (List ℕ)) (w : List ℕ) → values words w → (v : Values) × (values_at w ≡ Some v) × (words ≡ [])
    by_form words w (inl h) = range_complete words w h
    by_form words w (inr h) = braces_complete words w h

-- ---- nodes

-- the value of a node
abbrev content : Form
content = just [] or_else (just (codes "=") before term)

-- its place
abbrev pub value_place : Option (List ℕ) → List (List ℕ)
value_place None = []
value_place (Some w) = w ∷ []

-- values of nodes
content_complete : (words : List (List ℕ)) (w : List ℕ) → content words w → (v : Option (List ℕ)) × (content_at w ≡ Some v) × (words ≡ value_place v)
content_complete words w (inl h) = (None, ap content_at h.1, h.0)
content_complete words w (inr h) =
    let whole : w ≡ 61 ∷ h.3 = h.5 ∙ ap (λ (l : List ℕ). l ++ h.3) h.6.1 in
    (Some h.3, ap content_at whole ∙ rw (h.7.1) refl, h.4 ∙ ap₂ (λ (x y : List (List ℕ)). x ++ y) h.6.0 h.7.0)

content_sound : (w : List ℕ) (v : Option (List ℕ)) → content_at w ≡ Some v → content (value_place v) w
content_sound [] v e = let same : None ≡ v = cc in subst (λ v. content (value_place v) []) same (inl (refl, refl))
content_sound (b ∷ w) v e =
    let g = guard_some (eqb b 61 && is_term_word w) (Some w) v e in
    let tests = and_parts (eqb b 61) (is_term_word w) g.0 in
    subst (λ v. content (value_place v) (b ∷ w)) g.1
    (inr ([], w ∷ [], codes "=", w, refl, ap (λ (c : ℕ). c ∷ w) (eqb-true b 61 tests.0), (refl, refl), (refl, tests.1)))

-- the names of a node, each a word for a term
name_reader : ReadsForm term (λ w. guard (is_term_word w) w) (λ w. w ∷ []) (λ w. ⊤)
name_reader = record {
  complete = λ words w h. (w, rw (h.1) refl, h.0);
  sound = λ w x e. let g = guard_some (is_term_word w) w x e in (subst (λ y. term (y ∷ []) w) g.1 (refl, g.0), tt);
}

-- names with bars between them
names_reader : ReadsForm (list_of 124 term) (λ w. each_at (λ x. guard (is_term_word x) x) (fields 124 w)) (flat_map (λ w. w ∷ [])) (λ xs. Each (λ w. ⊤) xs × (0 < length xs))
names_reader = list_reads 124 term (λ w. guard (is_term_word w) w) (λ w. w ∷ []) (λ w. ⊤) (free_term 124 refl) name_reader

-- words one by one
single_words : (ws : List (List ℕ)) → flat_map (λ w. w ∷ []) ws ≡ ws
single_words [] = refl
single_words (w ∷ ws) = ap (λ (l : List (List ℕ)). w ∷ l) (single_words ws)

-- words that pass are given as they are
pass_all : (ws : List (List ℕ)) → list_all is_term_word ws ≡ true → each_at (λ x. guard (is_term_word x) x) ws ≡ Some ws
pass_all [] all = refl
pass_all (w ∷ ws) all =
    let p = and_parts (is_term_word w) (list_all is_term_word ws) all in
    rw (p.0, pass_all ws p.1) refl

-- and those that are given passed
all_passed : (ws xs : List (List ℕ)) → each_at (λ x. guard (is_term_word x) x) ws ≡ Some xs → (list_all is_term_word ws ≡ true) × (ws ≡ xs)
all_passed [] xs e = (refl, let same : [] ≡ xs = cc in same)
all_passed (w ∷ ws) xs e =
    let x = bind_some (guard (is_term_word w) w) (λ x. each_at (λ x. guard (is_term_word x) x) ws >>= λ ys. Some (x ∷ ys)) xs e in
    let g = guard_some (is_term_word w) w x.0 x.1 in
    let more = bind_some (each_at (λ x. guard (is_term_word x) x) ws) (λ ys. Some (x.0 ∷ ys)) xs x.2 in
    let rest = all_passed ws more.0 more.1 in
    let same : x.0 ∷ more.0 ≡ xs = let f = more.2 in cc in
    (and_from (is_term_word w) (list_all is_term_word ws) g.0 rest.0, ap₂ (λ (y : List ℕ) (ys : List (List ℕ)). y ∷ ys) g.1 rest.1 ∙ same)

-- the places of a node's terms
abbrev pub node_places : List (List ℕ) × (ℕ × Option (List ℕ)) → List (List ℕ)
node_places n = n.0 ++ value_place n.1.1

-- what comes after the names
abbrev AfterNames : Form
AfterNames = size before just (codes "]") before content

-- a node is read where its parts are
node_found : (w inner : List ℕ) (p : List ℕ × (ℕ × List ℕ)) (v : Option (List ℕ)) → w ≡ 91 ∷ inner → sized_at inner ≡ Some p
    → content_at p.1.1 ≡ Some v → list_all is_term_word (fields 124 p.0) ≡ true → node_at w ≡ Some (fields 124 p.0, (p.1.0, v))
unfolding node_at
node_found w inner p v is e c all = ap node_at is ∙ rw (e, c, all) refl

-- nodes
pub node_reader : ReadsForm node node_at node_places (λ n. (0 < length n.0) × IsTrue (is_size n.1.0))
unfolding node_at
node_reader = record {
  complete = λ words w h.
      let inner = h.3 in
      let p = parted 59 (list_of 124 term) AfterNames (free_list 59 124 term refl (free_term 59 refl)) h.1 inner h.7 in
      let names = names_reader.complete p.early p.front p.first in
      let all = all_passed (fields 124 p.front) names.0 names.1 in
      let q = parted 93 size content (free_numeral 93 false is_size refl) p.late p.back p.second in
      let v = content_complete q.late q.back q.second in
      let n = q.first.1.0 in
      let whole : inner ≡ p.front ++ 59 ∷ (q.front ++ 93 ∷ q.back) = split_is 59 inner (p.front, p.back) p.split ∙ ap (λ (l : List ℕ). p.front ++ 59 ∷ l) (split_is 93 p.back (q.front, q.back) q.split) in
      let sized : sized_at inner ≡ Some (p.front, (n, q.back)) = ap sized_at whole ∙ sized_complete p.front q.front q.back n (free_list 59 124 term refl (free_term 59 refl) p.early p.front p.first) q.first.1.1 q.first.1.2 (free_numeral 93 false is_size refl q.early q.front q.first) in
      let bytes : w ≡ 91 ∷ inner = h.5 ∙ ap (λ (l : List ℕ). l ++ inner) h.6.1 in
      let early : p.early ≡ fields 124 p.front = names.2 ∙ single_words names.0 ∙ sym all.1 in
      let late : p.late ≡ value_place v.0 = q.words_are ∙ ap₂ (λ (x y : List (List ℕ)). x ++ y) q.first.0 v.2 in (
        (fields 124 p.front, (n, v.0)),
        node_found w inner (p.front, (n, q.back)) v.0 bytes sized v.1 all.0,
        h.4 ∙ ap₂ (λ (x y : List (List ℕ)). x ++ y) h.6.0 (p.words_are ∙ ap₂ (λ (x y : List (List ℕ)). x ++ y) early late),
      );
  sound = λ w n e.
      let inner = bind_some (strip (codes "[") w) _ n e in
      let parts = bind_some (sized_at inner.0) _ n inner.2 in
      let v = bind_some (content_at parts.0.1.1) _ n parts.2 in
      let ws = fields 124 parts.0.0 in
      let g = guard_some (list_all is_term_word ws) (ws, (parts.0.1.0, v.0)) n v.2 in
      let s = sized_sound inner.0 parts.0 parts.1 in
      let names = names_reader.sound parts.0.0 ws (pass_all ws g.0) in
      let early : list_of 124 term ws parts.0.0 = subst (λ vs. list_of 124 term vs parts.0.0) (single_words ws) names.0 in
      let tail = part 93 size content [] (value_place v.0) s.0 parts.0.1.1 (s.0 ++ 93 ∷ parts.0.1.1) refl s.2 (content_sound parts.0.1.1 v.0 v.1) in
      subst (λ n. node (node_places n) w × ((0 < length n.0) × IsTrue (is_size n.1.0))) g.1 (
        (
          [],
          ws ++ value_place v.0,
          codes "[",
          inner.0,
          refl {a = ws ++ value_place v.0},
          strip_is (codes "[") w inner.0 inner.1,
          (refl, refl),
          part 59 (list_of 124 term) AfterNames ws (value_place v.0) parts.0.0 (s.0 ++ 93 ∷ parts.0.1.1) inner.0 s.1 early tail,
        ),
        (names.1.1, s.3),
      );
}
