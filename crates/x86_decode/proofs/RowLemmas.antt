-- The opcode map: no two rows are for the same bytes, and no opcode begins as a prefix or REX does, by tests over all rows.
use Rattle.std.proofs.Common.{◌≡◌, ℕ, zero, suc, ◌+◌, ◌<◌, ◌≤◌, Bool, true, false, cond, ltb, leb, eqb, ◌&&◌, ◌||◌, not, ◌*◌, ◌/◌, List, [], ◌∷◌, get_or, take, drop, Option, Some, None, find, refl, sym, ap, subst, ◌∙◌, arith, inl, inr}
use Rattle.std.specs.Prelude.{Contains, is_none}
use Rattle.std.specs.List.{list_all}
use Rattle.std.proofs.lemmas.Bool.{eqb-true, and_parts, or_cases, cases_Bool, leb-true, ltb-true, cases_eq, not-true, both_ways, eq-eqb, agree_below_at}
use Rattle.x86_spelling.specs.declared.encoding.Row.{Row}
use Rattle.x86_spelling.specs.Table.{table}
use Rattle.x86_spelling.specs.Rows.{is_at, wants, wants_rex, has_modrm}
use Rattle.x86_spelling.specs.Fields.{rex_w, rex_b}
use Rattle.x86_spelling.specs.Prefixes.{is_prefix}
use Rattle.x86_decode.specs.Reading.{matches}
use Rattle.x86_decode.proofs.ByteLemmas.{same_given}
use Rattle.x86_decode.proofs.StageLemmas.{is_rex}

-- one is after 0F and the other isn't
abbrev maps_differ : Bool → Bool → Bool
maps_differ true b = not b
maps_differ false b = b

-- both want a value of a field, and another one
abbrev values_differ : Option ℕ → Option ℕ → Bool
values_differ (Some m) (Some n) = not (eqb m n)
values_differ (Some m) None = false
values_differ None n = false

-- two rows are for different digits, or for different values of REX.B
abbrev fields_differ : Row → Row → Bool
fields_differ r s = values_differ r.digit s.digit || values_differ r.rex_b s.rex_b

-- two rows are for different bytes
abbrev are_apart : Row → Row → Bool
are_apart r s = maps_differ r.escaped s.escaped || (leb (r.opcode + r.span) s.opcode || (leb (s.opcode + s.span) r.opcode || fields_differ r s))

-- any two rows of a list are
abbrev all_apart : List Row → Bool
all_apart [] = true
all_apart (r ∷ rs) = list_all (are_apart r) rs && all_apart rs

-- the first part of `is_at`
abbrev pub is_map : Bool → Row → Bool
is_map escaped r = cond escaped r.escaped (cond r.escaped false true)

maps_exclude : (escaped a b : Bool) → maps_differ a b ≡ true → cond escaped a (cond a false true) ≡ true → cond escaped b (cond b false true) ≡ true → ⊥
maps_exclude true true true h p q = cc
maps_exclude true true false h p q = cc
maps_exclude true false b h p q = cc
maps_exclude false true b h p q = cc
maps_exclude false false true h p q = cc
maps_exclude false false false h p q = cc

values_exclude : (a b : Option ℕ) (n : ℕ) → values_differ a b ≡ true → wants a n ≡ true → wants b n ≡ true → ⊥
values_exclude (Some m) (Some k) n h p q =
    let same : m ≡ k = eqb-true m n p ∙ sym (eqb-true k n q) in
    both_ways (eqb m k) (not-true (eqb m k) h) (rw same (eq-eqb k k refl))
values_exclude (Some m) None n h p q = cc
values_exclude None b n h p q = cc

-- the tests that a row met, one by one
pub record Met (escaped : Bool) (opcode digit : ℕ) (rex : Option ℕ) (r : Row) : Type 0 where
  pub map : is_map escaped r ≡ true
  pub first : r.opcode ≤ opcode
  pub last : opcode < r.opcode + r.span
  pub digit_is : wants r.digit digit ≡ true
  pub rex_is : wants_rex r rex ≡ true
  pub b_is : wants r.rex_b (rex_b rex) ≡ true

-- they are the parts of `matches`
pub met : (escaped : Bool) (opcode digit : ℕ) (rex : Option ℕ) (r : Row) → matches escaped opcode digit rex r ≡ true → Met escaped opcode digit rex r
met escaped opcode digit rex r m =
    let at = and_parts (is_at escaped opcode r) (wants r.digit digit && wants_rex r rex) m in
    let map = and_parts (is_map escaped r) (leb r.opcode opcode && ltb opcode (r.opcode + r.span)) at.0 in
    let range = and_parts (leb r.opcode opcode) (ltb opcode (r.opcode + r.span)) map.1 in
    let fields = and_parts (wants r.digit digit) (wants_rex r rex) at.1 in
    record {
      map = map.0;
      first = leb-true r.opcode opcode range.0;
      last = ltb-true opcode (r.opcode + r.span) range.1;
      digit_is = fields.0;
      rex_is = fields.1;
      b_is = (and_parts (wants r.rex_b (rex_b rex)) (wants r.rex_w (rex_w rex)) fields.1).0;
    }

-- no bytes are those of two rows that are apart
rows_exclude : (escaped : Bool) (opcode digit : ℕ) (rex : Option ℕ) (r s : Row) → are_apart r s ≡ true → Met escaped opcode digit rex r → Met escaped opcode digit rex s → ⊥
rows_exclude escaped opcode digit rex r s h p q =
    elim (or_cases (maps_differ r.escaped s.escaped) (leb (r.opcode + r.span) s.opcode || (leb (s.opcode + s.span) r.opcode || fields_differ r s)) h) [
      | inl map ↦ maps_exclude escaped r.escaped s.escaped map p.map q.map
      | inr h1 ↦ elim (or_cases (leb (r.opcode + r.span) s.opcode) (leb (s.opcode + s.span) r.opcode || fields_differ r s) h1) [
        | inl before ↦ omega (arith, leb-true (r.opcode + r.span) s.opcode before, p.last, q.first)
        | inr h2 ↦ elim (or_cases (leb (s.opcode + s.span) r.opcode) (fields_differ r s) h2) [
          | inl before ↦ omega (arith, leb-true (s.opcode + s.span) r.opcode before, q.last, p.first)
          | inr h3 ↦ elim (or_cases (values_differ r.digit s.digit) (values_differ r.rex_b s.rex_b) h3) [
            | inl differ ↦ values_exclude r.digit s.digit digit differ p.digit_is q.digit_is
            | inr differ ↦ values_exclude r.rex_b s.rex_b (rex_b rex) differ p.b_is q.b_is
          ]
        ]
      ]
    ]

-- a test over all rows holds of each
pub list_all_at : (p : Row → Bool) (rows : List Row) (r : Row) → list_all p rows ≡ true → Contains rows r → p r ≡ true
list_all_at p [] r all (k, lt, e) = absurd (omega arith)
list_all_at p (x ∷ xs) r all (zero, lt, e) = subst (λ (y : Row). p y ≡ true) e (and_parts (p x) (list_all p xs) all).0
list_all_at p (x ∷ xs) r all (suc k, lt, e) = list_all_at p xs r (and_parts (p x) (list_all p xs) all).1 (k, omega arith, e)

-- what is found is in the list, and passes
pub find_takes : (p : Row → Bool) (rows : List Row) (r : Row) → find p rows ≡ Some r → Contains rows r × (p r ≡ true)
find_takes p [] r e = absurd cc
find_takes p (x ∷ xs) r e =
    elim (cases_Bool (p x)) [
      | inl passes ↦ let same : x ≡ r = same_given x r (rw passes at e) in ((0, omega arith, same), subst (λ (y : Row). p y ≡ true) same passes)
      | inr fails ↦ let rest = find_takes p xs r (rw fails at e) in ((suc rest.0.0, omega arith, rest.0.2), rest.1)
    ]

find_only : (escaped : Bool) (o d : ℕ) (rex : Option ℕ) (rows : List Row) (r : Row) → all_apart rows ≡ true → Contains rows r → matches escaped o d rex r ≡ true → find (matches escaped o d rex) rows ≡ Some r
find_only escaped o d rex [] r all (k, lt, e) m = absurd (omega arith)
find_only escaped o d rex (x ∷ xs) r all (zero, lt, e) m =
    let here : matches escaped o d rex x ≡ true = subst (λ (y : Row). matches escaped o d rex y ≡ true) (sym e) m in
    rw here (ap (λ (y : Row). Some y) e)
find_only escaped o d rex (x ∷ xs) r all (suc k, lt, e) m =
    let tests = and_parts (list_all (are_apart x) xs) (all_apart xs) all in
    let later : Contains xs r = (k, omega arith, e) in
    elim (cases_Bool (matches escaped o d rex x)) [
      | inl passes ↦ absurd (rows_exclude escaped o d rex x r (list_all_at (are_apart x) xs r tests.0 later) (met escaped o d rex x passes) (met escaped o d rex r m))
      | inr fails ↦ rw fails (find_only escaped o d rex xs r tests.1 later m)
    ]

table_apart : all_apart table ≡ true
table_apart = refl

-- a row of the table that is for the bytes is the one that is found
pub row_is_found : (escaped : Bool) (o d : ℕ) (rex : Option ℕ) (r : Row) → Contains table r → matches escaped o d rex r ≡ true → find (matches escaped o d rex) table ≡ Some r
row_is_found escaped o d rex r within m = find_only escaped o d rex table r table_apart within m

-- the bytes that a one-byte opcode may be: no prefix, no REX, not 0F
abbrev pub is_opcode : ℕ → Bool
is_opcode b = not (is_prefix b) && (not (is_rex b) && not (eqb b 0x0f))

abbrev all_opcodes : ℕ → ℕ → Bool
all_opcodes from zero = true
all_opcodes from (suc n) = is_opcode (from + n) && all_opcodes from n

abbrev has_opcodes : Row → Bool
has_opcodes r = r.escaped || all_opcodes r.opcode r.span

table_opcodes : list_all has_opcodes table ≡ true
table_opcodes = refl

opcodes_at : (from n b : ℕ) → all_opcodes from n ≡ true → from ≤ b → b < from + n → is_opcode b ≡ true
opcodes_at from zero b all le lt = absurd (omega arith)
opcodes_at from (suc n) b all le lt =
    let tests = and_parts (is_opcode (from + n)) (all_opcodes from n) all in
    elim (cases_eq b (from + n)) [
      | inl e ↦ rw e tests.0
      | inr ne ↦ opcodes_at from n b tests.1 le (omega arith)
    ]

-- a one-byte opcode of the table is such a byte
pub opcode_begins : (o : ℕ) (r : Row) → Contains table r → r.escaped ≡ false → is_at false o r ≡ true → is_opcode o ≡ true
opcode_begins o r within first at =
    let map = and_parts (is_map false r) (leb r.opcode o && ltb o (r.opcode + r.span)) at in
    let range = and_parts (leb r.opcode o) (ltb o (r.opcode + r.span)) map.1 in
    elim (or_cases r.escaped (all_opcodes r.opcode r.span) (list_all_at has_opcodes table r table_opcodes within)) [
      | inl later ↦ absurd (both_ways r.escaped first later)
      | inr all ↦ opcodes_at r.opcode r.span o all (leb-true r.opcode o range.0) (ltb-true o (r.opcode + r.span) range.1)
    ]

-- a row without a ModRM byte has no digit
abbrev has_digit_place : Row → Bool
has_digit_place r = has_modrm r.form || is_none r.digit

table_digits : list_all has_digit_place table ≡ true
table_digits = refl

none_wants_any : (o : Option ℕ) (n : ℕ) → is_none o ≡ true → wants o n ≡ true
none_wants_any None n h = refl
none_wants_any (Some m) n h = absurd cc

-- so any byte may follow its opcode
pub digit_is_free : (r : Row) (n : ℕ) → Contains table r → has_modrm r.form ≡ false → wants r.digit n ≡ true
digit_is_free r n within none =
    elim (or_cases (has_modrm r.form) (is_none r.digit) (list_all_at has_digit_place table r table_digits within)) [
      | inl there ↦ absurd (both_ways (has_modrm r.form) none there)
      | inr free ↦ none_wants_any r.digit n free
    ]

-- the row ends before a block of sixteen opcodes of a map, or is of the other map
abbrev ends_before : Bool → ℕ → Row → Bool
ends_before escaped block r = maps_differ r.escaped escaped || leb (r.opcode + r.span) (16 * block)

-- such a row is for no opcode of the block
before_is_none : (escaped : Bool) (o d : ℕ) (rex : Option ℕ) (r : Row) → ends_before escaped (o / 16) r ≡ true → matches escaped o d rex r ≡ false
before_is_none escaped o d rex r h =
    elim (cases_Bool (matches escaped o d rex r)) [
      | inl passes ↦
          let m = met escaped o d rex r passes in
          elim (or_cases (maps_differ r.escaped escaped) (leb (r.opcode + r.span) (16 * (o / 16))) h) [
            | inl differ ↦ absurd (maps_exclude escaped r.escaped escaped differ m.map (own_map escaped))
            | inr before ↦ absurd (omega (arith, leb-true (r.opcode + r.span) (16 * (o / 16)) before, m.last))
          ]
      | inr fails ↦ fails
    ]
  where
    own_map : (a : Bool) → cond a a (cond a false true) ≡ true
    own_map true = refl
    own_map false = refl

-- such rows at the start may be left out of the search
pub find_after : (escaped : Bool) (o d : ℕ) (rex : Option ℕ) (n : ℕ) (rows : List Row) → list_all (ends_before escaped (o / 16)) (take n rows) ≡ true → find (matches escaped o d rex) (drop n rows) ≡ find (matches escaped o d rex) rows
find_after escaped o d rex zero rows all = refl
find_after escaped o d rex (suc n) [] all = refl
find_after escaped o d rex (suc n) (x ∷ xs) all =
    let tests = and_parts (ends_before escaped (o / 16) x) (list_all (ends_before escaped (o / 16)) (take n xs)) all in
    rw (before_is_none escaped o d rex x tests.0) (find_after escaped o d rex n xs tests.1)

-- for each block of sixteen opcodes, of one byte and after 0F, how many rows end before it
abbrev pub starts : List ℕ
starts =
    0 ∷ 12 ∷ 24 ∷ 36 ∷ 48 ∷ 48 ∷ 50 ∷ 55 ∷ 57 ∷ 90 ∷ 95 ∷ 97 ∷ 99 ∷ 114 ∷ 134 ∷ 137
    ∷ 155 ∷ 157 ∷ 158 ∷ 158 ∷ 158 ∷ 160 ∷ 160 ∷ 160 ∷ 160 ∷ 162 ∷ 164 ∷ 165 ∷ 169 ∷ 170 ∷ 170 ∷ 170
    ∷ []

abbrev pub start : Bool → ℕ → ℕ
start escaped block = get_or starts (cond escaped 16 0 + block) 0

abbrev skips : Bool → ℕ → Bool
skips escaped block = list_all (ends_before escaped block) (take (start escaped block) table) && leb (start escaped block) 170

starts_skip : (escaped : Bool) (block : ℕ) → block < 16 → skips escaped block ≡ true
starts_skip true block lt = agree_below_at (skips true) (λ n. true) 16 block refl lt
starts_skip false block lt = agree_below_at (skips false) (λ n. true) 16 block refl lt

-- a start is a place in the table
pub start_within : (escaped : Bool) (o : ℕ) → o < 256 → start escaped (o / 16) ≤ 170
start_within escaped o lt =
    let block : o / 16 < 16 = omega arith in
    leb-true (start escaped (o / 16)) 170 (and_parts (list_all (ends_before escaped (o / 16)) (take (start escaped (o / 16)) table)) (leb (start escaped (o / 16)) 170) (starts_skip escaped (o / 16) block)).1

-- the search may begin there
pub found_after : (escaped : Bool) (o d : ℕ) (rex : Option ℕ) → o < 256 → find (matches escaped o d rex) (drop (start escaped (o / 16)) table) ≡ find (matches escaped o d rex) table
found_after escaped o d rex lt =
    let block : o / 16 < 16 = omega arith in
    let tests = and_parts (list_all (ends_before escaped (o / 16)) (take (start escaped (o / 16)) table)) (leb (start escaped (o / 16)) 170) (starts_skip escaped (o / 16) block) in
    find_after escaped o d rex (start escaped (o / 16)) table tests.0
