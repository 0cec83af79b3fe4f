-- The bits that are set are the marks, one for each covered byte.
use Rattle.std.proofs.Common.{◌≡◌, ◌<◌, ◌≤◌, ℕ, zero, suc, ◌+◌, ◌*◌, ◌/◌, ◌%◌, ◌&&◌, Bool, true, false, min, List, [], ◌∷◌, length, get_or, count_ones, nat_lt, arith, refl, ap, ◌∙◌, sym}
use lib.Count.{ones_step}
use Rattle.std.specs.Int.{bit_at}
use Rattle.std.proofs.lemmas.List.Sums.{sum_by-cons}
use Rattle.std.proofs.lemmas.Nat.{ones_le_self}
use Rattle.root_scan.specs.Bits.{bits_set}
use Rattle.graph_data.specs.declared.graph.Function.{Function}
use Rattle.report.specs.Coverage.{LookUp, covered_from, is_covered}
use Rattle.report.specs.Marks.{flag, mark_at, marked_below}

-- the bits of a byte are its ones
byte_bits : (b : ℕ) (bs : List ℕ) → b < 256 → marked_below (b ∷ bs) 8 ≡ count_ones b
byte_bits b bs small =
    let s0 : count_ones b ≡ b % 2 + count_ones (b / 2) = ones_step b in
    let s1 : count_ones (b / 2) ≡ b / 2 % 2 + count_ones (b / 2 / 2) = ones_step (b / 2) in
    let s2 : count_ones (b / 2 / 2) ≡ b / 2 / 2 % 2 + count_ones (b / 2 / 2 / 2) = ones_step (b / 2 / 2) in
    let s3 : count_ones (b / 2 / 2 / 2) ≡ b / 2 / 2 / 2 % 2 + count_ones (b / 2 / 2 / 2 / 2) = ones_step (b / 2 / 2 / 2) in
    let s4 : count_ones (b / 2 / 2 / 2 / 2) ≡ b / 2 / 2 / 2 / 2 % 2 + count_ones (b / 2 / 2 / 2 / 2 / 2) = ones_step (b / 2 / 2 / 2 / 2) in
    let s5 : count_ones (b / 2 / 2 / 2 / 2 / 2) ≡ b / 2 / 2 / 2 / 2 / 2 % 2 + count_ones (b / 2 / 2 / 2 / 2 / 2 / 2) = ones_step (b / 2 / 2 / 2 / 2 / 2) in
    let s6 : count_ones (b / 2 / 2 / 2 / 2 / 2 / 2) ≡ b / 2 / 2 / 2 / 2 / 2 / 2 % 2 + count_ones (b / 2 / 2 / 2 / 2 / 2 / 2 / 2) = ones_step (b / 2 / 2 / 2 / 2 / 2 / 2) in
    let last : b / 2 / 2 / 2 / 2 / 2 / 2 / 2 < 2 = omega arith in
    let s7 : count_ones (b / 2 / 2 / 2 / 2 / 2 / 2 / 2) ≡ b / 2 / 2 / 2 / 2 / 2 / 2 / 2 = small_ones (b / 2 / 2 / 2 / 2 / 2 / 2 / 2) last in
    omega arith
  where
    small_ones : (n : ℕ) → n < 2 → count_ones n ≡ n
    small_ones n tiny =
        let step : count_ones n ≡ n % 2 + count_ones (n / 2) = ones_step n in
        let none : count_ones (n / 2) ≤ n / 2 = ones_le_self (n / 2) in
        omega arith

-- behind the first byte, the marks are those of the others
mark_at-behind : (b : ℕ) (bs : List ℕ) (place : ℕ) → mark_at (b ∷ bs) (8 + place) ≡ mark_at bs place
mark_at-behind b bs place =
    let byte : (8 + place) / 8 ≡ suc (place / 8) = omega arith in
    let bit : (8 + place) % 8 ≡ place % 8 = omega arith in
    ap (λ n. bit_at (get_or (b ∷ bs) n 0) ((8 + place) % 8)) byte ∙ ap (λ n. bit_at (get_or bs (place / 8) 0) n) bit

marked-behind : (b : ℕ) (bs : List ℕ) (n : ℕ) → marked_below (b ∷ bs) (8 + n) ≡ marked_below (b ∷ bs) 8 + marked_below bs n
marked-behind b bs zero = let same : 8 + zero ≡ 8 = omega arith in ap (λ n. marked_below (b ∷ bs) n) same ∙ omega arith
marked-behind b bs (suc n) =
    let same : 8 + suc n ≡ suc (8 + n) = omega arith in
    let before : marked_below (b ∷ bs) (8 + n) ≡ marked_below (b ∷ bs) 8 + marked_below bs n = marked-behind b bs n in
    let here : mark_at (b ∷ bs) (8 + n) ≡ mark_at bs n = mark_at-behind b bs n in
    ap (λ m. marked_below (b ∷ bs) m) same ∙ omega arith

-- as many bits are set as places are marked
pub marked_bits : (bits : List ℕ) → ((k : ℕ) → get_or bits k 0 < 256) → bits_set bits ≡ marked_below bits (8 * length bits)
marked_bits [] fit = refl
marked_bits (b ∷ bs) fit =
    let long : 8 * length (b ∷ bs) ≡ 8 + 8 * length bs = omega arith in
    let byte : marked_below (b ∷ bs) 8 ≡ count_ones b = byte_bits b bs (fit 0) in
    let rest : bits_set bs ≡ marked_below bs (8 * length bs) = marked_bits bs (λ k. fit (suc k)) in
    let parts : marked_below (b ∷ bs) (8 + 8 * length bs) ≡ marked_below (b ∷ bs) 8 + marked_below bs (8 * length bs) = marked-behind b bs (8 * length bs) in
    sum_by-cons count_ones b bs ∙ sym (ap (λ m. marked_below (b ∷ bs) m) long ∙ omega arith)

-- where the marks of some places are those of covered bytes, and no others are set, as many are marked as covered
marked_to : (look_up : LookUp) (functions : List Function) (lo size : ℕ) (bits : List ℕ) → ((k : ℕ) → mark_at bits k ≡ flag (nat_lt k size && is_covered look_up functions (lo + k))) → (n : ℕ) → marked_below bits n ≡ covered_from look_up functions lo (min n size)
marked_to look_up functions lo size bits marks zero = let none : min zero size ≡ zero = omega arith in sym (ap (λ m. covered_from look_up functions lo m) none)
marked_to look_up functions lo size bits marks (suc n) = by (nat_lt n size) refl (marked_to look_up functions lo size bits marks n)
  where
    by : (b : Bool) → nat_lt n size ≡ b → marked_below bits n ≡ covered_from look_up functions lo (min n size) → marked_below bits (suc n) ≡ covered_from look_up functions lo (min (suc n) size)
    by true inside before =
        let below : n < size = grind (arith, inside) in
        let now : min n size ≡ n = omega arith in
        let next : min (suc n) size ≡ suc n = omega arith in
        let mark : mark_at bits n ≡ flag (is_covered look_up functions (lo + n)) = marks n ∙ ap (λ b. flag (b && is_covered look_up functions (lo + n))) inside in
        let seen : marked_below bits n ≡ covered_from look_up functions lo n = before ∙ ap (λ m. covered_from look_up functions lo m) now in
        ap (λ m. m + mark_at bits n) seen ∙ ap (λ m. covered_from look_up functions lo n + m) mark ∙ sym (ap (λ m. covered_from look_up functions lo m) next)
    by false outside before =
        let past : size ≤ n = grind (arith, outside) in
        let same : min n size ≡ min (suc n) size = omega arith in
        let mark : mark_at bits n ≡ 0 = marks n ∙ ap (λ b. flag (b && is_covered look_up functions (lo + n))) outside in
        let added : marked_below bits (suc n) ≡ marked_below bits n = omega arith in
        added ∙ before ∙ ap (λ m. covered_from look_up functions lo m) same

pub marked_covered : (look_up : LookUp) (functions : List Function) (lo size : ℕ) (bits : List ℕ) → ((k : ℕ) → mark_at bits k ≡ flag (nat_lt k size && is_covered look_up functions (lo + k))) → size ≤ 8 * length bits → marked_below bits (8 * length bits) ≡ covered_from look_up functions lo size
marked_covered look_up functions lo size bits marks room =
    let all : min (8 * length bits) size ≡ size = omega arith in
    marked_to look_up functions lo size bits marks (8 * length bits) ∙ ap (λ m. covered_from look_up functions lo m) all

-- no more are covered than there are
pub covered_le : (look_up : LookUp) (functions : List Function) (lo n : ℕ) → covered_from look_up functions lo n ≤ n
covered_le look_up functions lo zero = omega arith
covered_le look_up functions lo (suc n) =
    let before : covered_from look_up functions lo n ≤ n = covered_le look_up functions lo n in
    let here : flag (is_covered look_up functions (lo + n)) ≤ 1 = flag_le (is_covered look_up functions (lo + n)) in
    omega arith
  where
    flag_le : (b : Bool) → flag b ≤ 1
    flag_le true = omega arith
    flag_le false = omega arith
