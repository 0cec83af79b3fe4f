-- Lines of each kind: what is read after how they begin has their form, tells of their terms, and is a line.
use Rattle.std.proofs.Common.{◌≡◌, ℕ, suc, ◌≤◌, Bool, true, false, eqb, if◌then◌else◌, List, [], ◌∷◌, ◌++◌, length, drop, replicate, codes, Option, Some, None, Result, Ok, Err, ◌⊎◌, inl, inr, refl, sym, ap, ap₂, subst, ◌∙◌, arith}
use Rattle.std.specs.Str.{bytes_eq}
use Rattle.std.proofs.lemmas.Bool.{eqb-true}
use Rattle.std.proofs.lemmas.List.{drop_at}
use Rattle.std.proofs.lemmas.Slice.Eq.{bytes_eq-Decides}
use Rattle.term_text.specs.declared.cause.TextCause.{TextCause}
use Rattle.term_text.specs.declared.cause.TextCause.TheVariants.{BadLine}
use Rattle.graph_lines.specs.declared.line.Line.{Line}
use Rattle.graph_lines.specs.declared.line_kind.LineKind.{LineKind}
use Rattle.graph_lines.specs.declared.line_kind.LineKind.TheVariants as line_kind
use Rattle.graph_lines.specs.declared.line_kind.SiteLineKind.TheVariants as site_kind
use Rattle.graph_lines.specs.declared.line_kind.VertexLineKind.TheVariants as vertex_kind
use Rattle.graph_lines.specs.Line.{IsLine}
use Rattle.graph_lines.specs.LineKind.{dots, kind_of_letter, kind_of_bytes}
use Rattle.graph_lines.specs.Form.{Form, just, ◌before◌}
use Rattle.graph_lines.specs.Then.{or_bad_line}
use Rattle.graph_lines.specs.Steps.{restates_entry_value}
use Rattle.graph_lines.proofs.FormLemmas.{ReadsForm}
use Rattle.graph_lines.proofs.TellLemmas.{Tells}

-- ---- how bytes of a kind begin

-- they begin as the kind does; a node has as many dots as its level
abbrev pub Begins : LineKind → List ℕ → Type 0
Begins line_kind.Function bytes = bytes ≡ codes "f " ++ drop 2 bytes
Begins line_kind.Refused bytes = bytes ≡ codes "x " ++ drop 2 bytes
Begins line_kind.Site bytes = bytes ≡ codes "s " ++ drop 2 bytes
Begins line_kind.Vertex bytes = bytes ≡ codes "v " ++ drop 2 bytes
Begins (line_kind.InSite site_kind.Pair) bytes = bytes ≡ codes "p " ++ drop 2 bytes
Begins (line_kind.InSite site_kind.Fork) bytes = bytes ≡ codes "g " ++ drop 2 bytes
Begins (line_kind.InSite site_kind.Keep) bytes = bytes ≡ codes "k " ++ drop 2 bytes
Begins (line_kind.InVertex vertex_kind.Registers) bytes = bytes ≡ codes "r " ++ drop 2 bytes
Begins (line_kind.InVertex vertex_kind.Flags) bytes = bytes ≡ codes "z " ++ drop 2 bytes
Begins (line_kind.InVertex vertex_kind.Bound) bytes = bytes ≡ codes "b " ++ drop 2 bytes
Begins (line_kind.InVertex (vertex_kind.Node level)) bytes = (bytes ≡ codes "c " ++ drop 2 bytes) × (dots (drop 2 bytes) ≡ level)
Begins (line_kind.InVertex vertex_kind.Edges) bytes = bytes ≡ codes "> " ++ drop 2 bytes
Begins line_kind.End bytes = bytes ≡ codes "end"

-- with a letter and a space
letter_begins : (letter : ℕ) (rest : List ℕ) (k : LineKind) → kind_of_letter letter rest ≡ Some k → Begins k (letter ∷ 32 ∷ rest)
letter_begins letter rest k e =
    by_letter (eqb letter 102) (eqb letter 120) (eqb letter 115) (eqb letter 112) (eqb letter 103) (eqb letter 107) (eqb letter 118) (eqb letter 114) (eqb letter 122) (eqb letter 98) (eqb letter 99) (eqb letter 62)
    refl refl refl refl refl refl refl refl refl refl refl refl e
  where
    is : (c : ℕ) (x : LineKind) → eqb letter c ≡ true → Begins x (c ∷ 32 ∷ rest) → Some x ≡ Some k → Begins k (letter ∷ 32 ∷ rest)
    is c x i begins e =
        let same : x ≡ k = cc in
        subst (λ y. Begins y (letter ∷ 32 ∷ rest)) same (subst (λ (l : ℕ). Begins x (l ∷ 32 ∷ rest)) (sym (eqb-true letter c i)) begins)

    by_letter : (f x s p g k2 v r z b c n : Bool) → eqb letter 102 ≡ f → eqb letter 120 ≡ x → eqb letter 115 ≡ s → eqb letter 112 ≡ p
        → eqb letter 103 ≡ g → eqb letter 107 ≡ k2 → eqb letter 118 ≡ v → eqb letter 114 ≡ r → eqb letter 122 ≡ z → eqb letter 98 ≡ b
        → eqb letter 99 ≡ c → eqb letter 62 ≡ n
        → (if f then Some line_kind.Function else (if x then Some line_kind.Refused else (if s then Some line_kind.Site
        else (if p then Some (line_kind.InSite site_kind.Pair) else (if g then Some (line_kind.InSite site_kind.Fork)
        else (if k2 then Some (line_kind.InSite site_kind.Keep) else (if v then Some line_kind.Vertex
        else (if r then Some (line_kind.InVertex vertex_kind.Registers) else (if z then Some (line_kind.InVertex vertex_kind.Flags)
        else (if b then Some (line_kind.InVertex vertex_kind.Bound) else (if c then Some (line_kind.InVertex (vertex_kind.Node (dots rest)))
        else (if n then Some (line_kind.InVertex vertex_kind.Edges) else None)))))))))))) ≡ Some k
        → Begins k (letter ∷ 32 ∷ rest)
    by_letter true x s p g k2 v r z b c n i1 i2 i3 i4 i5 i6 i7 i8 i9 ia ib ic e = is 102 line_kind.Function i1 refl e
    by_letter false true s p g k2 v r z b c n i1 i2 i3 i4 i5 i6 i7 i8 i9 ia ib ic e = is 120 line_kind.Refused i2 refl e
    by_letter false false true p g k2 v r z b c n i1 i2 i3 i4 i5 i6 i7 i8 i9 ia ib ic e = is 115 line_kind.Site i3 refl e
    by_letter false false false true g k2 v r z b c n i1 i2 i3 i4 i5 i6 i7 i8 i9 ia ib ic e = is 112 (line_kind.InSite site_kind.Pair) i4 refl e
    by_letter false false false false true k2 v r z b c n i1 i2 i3 i4 i5 i6 i7 i8 i9 ia ib ic e = is 103 (line_kind.InSite site_kind.Fork) i5 refl e
    by_letter false false false false false true v r z b c n i1 i2 i3 i4 i5 i6 i7 i8 i9 ia ib ic e = is 107 (line_kind.InSite site_kind.Keep) i6 refl e
    by_letter false false false false false false true r z b c n i1 i2 i3 i4 i5 i6 i7 i8 i9 ia ib ic e = is 118 line_kind.Vertex i7 refl e
    by_letter false false false false false false false true z b c n i1 i2 i3 i4 i5 i6 i7 i8 i9 ia ib ic e = is 114 (line_kind.InVertex vertex_kind.Registers) i8 refl e
    by_letter false false false false false false false false true b c n i1 i2 i3 i4 i5 i6 i7 i8 i9 ia ib ic e = is 122 (line_kind.InVertex vertex_kind.Flags) i9 refl e
    by_letter false false false false false false false false false true c n i1 i2 i3 i4 i5 i6 i7 i8 i9 ia ib ic e = is 98 (line_kind.InVertex vertex_kind.Bound) ia refl e
    by_letter false false false false false false false false false false true n i1 i2 i3 i4 i5 i6 i7 i8 i9 ia ib ic e = is 99 (line_kind.InVertex (vertex_kind.Node (dots rest))) ib (refl, refl) e
    by_letter false false false false false false false false false false false true i1 i2 i3 i4 i5 i6 i7 i8 i9 ia ib ic e = is 62 (line_kind.InVertex vertex_kind.Edges) ic refl e
    by_letter false false false false false false false false false false false false i1 i2 i3 i4 i5 i6 i7 i8 i9 ia ib ic e = absurd (cc)

-- bytes of a kind
pub kind_begins_so : (bytes : List ℕ) (k : LineKind) → kind_of_bytes bytes ≡ Some k → Begins k bytes
kind_begins_so [] k e = absurd (cc)
kind_begins_so (a ∷ []) k e = absurd (cc)
kind_begins_so (a ∷ b ∷ rest) k e = by_space (eqb b 32) (bytes_eq (a ∷ b ∷ rest) (codes "end")) refl refl e
  where
    by_space : (s t : Bool) → eqb b 32 ≡ s → bytes_eq (a ∷ b ∷ rest) (codes "end") ≡ t
        → (if s then kind_of_letter a rest else (if t then Some line_kind.End else None)) ≡ Some k → Begins k (a ∷ b ∷ rest)
    by_space true t i j e = subst (λ (c : ℕ). Begins k (a ∷ c ∷ rest)) (sym (eqb-true b 32 i)) (letter_begins a rest k e)
    by_space false true i j e =
        let same : line_kind.End ≡ k = cc in
        subst (λ x. Begins x (a ∷ b ∷ rest)) same ((bytes_eq-Decides (a ∷ b ∷ rest) (codes "end")).0 j)
    by_space false false i j e = absurd (cc)

-- the dots before anything else
pub front_dots : (rest : List ℕ) → rest ≡ replicate (dots rest) 46 ++ drop (dots rest) rest
front_dots [] = refl
front_dots (b ∷ bs) = by_dot (eqb b 46) refl (front_dots bs)
  where
    by_dot : (t : Bool) → eqb b 46 ≡ t → bs ≡ replicate (dots bs) 46 ++ drop (dots bs) bs
        → b ∷ bs ≡ replicate (if t then suc (dots bs) else 0) 46 ++ drop (if t then suc (dots bs) else 0) (b ∷ bs)
    by_dot true i more = ap₂ (λ (c : ℕ) (l : List ℕ). c ∷ l) (eqb-true b 46 i) more
    by_dot false i more = refl

-- there are no more of them than bytes
pub dots_le : (rest : List ℕ) → dots rest ≤ length rest
dots_le [] = omega arith
dots_le (b ∷ bs) = by_dot (eqb b 46) (dots_le bs)
  where
    by_dot : (t : Bool) → dots bs ≤ length bs → (if t then suc (dots bs) else 0) ≤ suc (length bs)
    by_dot true le = omega (arith, le)
    by_dot false le = omega arith

-- ---- what is read after it

-- the result tells of the terms of the form, and is a line
pub record Judged (begin : List ℕ) (P : Form) (result : Result Line TextCause) (bytes : List ℕ) : Type 0 where
  pub tells : (words : List (List ℕ)) → (just begin before P) words bytes → Tells words result
  pub formed : (result ≡ Err BadLine) ⊎ ((words : List (List ℕ)) × (just begin before P) words bytes)
  pub lines : (l : Line) → result ≡ Ok l → restates_entry_value l ≡ false → IsLine l

-- what stands after the beginning is one
same_rest : (begin x y : List ℕ) → begin ++ x ≡ begin ++ y → x ≡ y
same_rest begin x y e =
    sym (drop_at begin x (length begin) refl) ∙ ap (λ (l : List ℕ). drop (length begin) l) e ∙ drop_at begin y (length begin) refl

-- where a function reads just the form, and something is made of what it gives
pub judge : {X : Type 0} (begin rest bytes : List ℕ) (P : Form) (read : List ℕ → Option X) (places : X → List (List ℕ)) (Fits : X → Type 0)
    (make : X → Result Line TextCause) (result : Result Line TextCause) → bytes ≡ begin ++ rest → result ≡ or_bad_line (read rest) make
    → ReadsForm P read places Fits → ((x : X) → Tells (places x) (make x))
    → ((x : X) (l : Line) → Fits x → make x ≡ Ok l → restates_entry_value l ≡ false → IsLine l) → Judged begin P result bytes
judge {X} begin rest bytes P read places Fits make result whole is reader told made = record {
  tells = λ words h.
      let here : h.3 ≡ rest = same_rest begin h.3 rest (ap (λ (l : List ℕ). l ++ h.3) (sym h.6.1) ∙ sym h.5 ∙ whole) in
      let x = reader.complete h.1 h.3 h.7 in
      let found : result ≡ make x.0 = is ∙ ap (λ o. or_bad_line o make) (ap read (sym here) ∙ x.1) in
      let words_are : words ≡ places x.0 = h.4 ∙ ap₂ (λ (v w : List (List ℕ)). v ++ w) h.6.0 x.2 in
      subst (λ r. Tells words r) (sym found) (subst (λ ws. Tells ws (make x.0)) (sym words_are) (told x.0));
  formed = by_form (read rest) refl;
  lines = λ l e none. by_line (read rest) refl l (sym is ∙ e) none;
}
  where
    by_form : (o : Option X) → read rest ≡ o → (result ≡ Err BadLine) ⊎ ((words : List (List ℕ)) × (just begin before P) words bytes)
    by_form None e = inl (is ∙ ap (λ o. or_bad_line o make) e)
    by_form (Some x) e = inr (places x, ([], places x, begin, rest, refl, whole, (refl, refl), (reader.sound rest x e).0))

    by_line : (o : Option X) → read rest ≡ o → (l : Line) → or_bad_line o make ≡ Ok l → restates_entry_value l ≡ false → IsLine l
    by_line None i l e none = absurd (cc)
    by_line (Some x) i l e none = made x l (reader.sound rest x i).1 e none
