-- A sweep that goes on past one byte.
use Rattle.std.proofs.Common.{◌≡◌, ℕ, ◌+◌, ◌<◌, ◌≤◌, List, length, drop, sym, subst, arith}
use Rattle.x86_instr.specs.declared.instr.Instr.{Instr}
use Rattle.x86_instr.specs.Fits.{InForm}
use Rattle.decode_bench.specs.declared.listing.Count.{Count}
use Rattle.decode_bench.specs.Sweep.{Begins, Sweeps}
use Rattle.decode_bench.specs.Sweep.Sweeps.{by_instruction, by_byte}

-- it has come to the next offset, at or after this one, and no more is counted than bytes were passed
abbrev pub Swept : List ℕ → ℕ → ℕ → Count → Type 0
Swept code at next count =
    (at ≤ next)
    × Sweeps code next count.instructions count.others
    × (count.instructions ≤ at)
    × (count.others ≤ at)

pub past_instruction : (code : List ℕ) (at next : ℕ) (count : Count) (i : Instr) → at < length code → at ≡ next
    → Begins at (drop at code) i → InForm i → Swept code at next count
    → Swept code (at + 1) (at + i.len) (record { instructions = count.instructions + 1; others = count.others })
past_instruction code at next count i h same found form swept =
    let here : Sweeps code at count.instructions count.others =
    subst (λ n. Sweeps code n count.instructions count.others) (sym same) swept.1 in
    let long : 1 ≤ i.len = form.long in
    let few : count.instructions ≤ at = swept.2 in
    let others : count.others ≤ at = swept.3 in
    (omega arith, by_instruction at count.instructions count.others i h found here, omega arith, omega arith)

pub past_byte : (code : List ℕ) (at next : ℕ) (count : Count) → at < length code → at ≡ next
    → ((i : Instr) → Begins at (drop at code) i → ⊥) → Swept code at next count
    → Swept code (at + 1) (at + 1) (record { instructions = count.instructions; others = count.others + 1 })
past_byte code at next count h same none swept =
    let here : Sweeps code at count.instructions count.others =
    subst (λ n. Sweeps code n count.instructions count.others) (sym same) swept.1 in
    let few : count.instructions ≤ at = swept.2 in
    let others : count.others ≤ at = swept.3 in
    (omega arith, by_byte at count.instructions count.others h none here, omega arith, omega arith)

-- inside an instruction
pub inside : (code : List ℕ) (at next : ℕ) (count : Count) → (at ≡ next → ⊥) → Swept code at next count → Swept code (at + 1) next count
inside code at next count apart swept =
    let later : at ≤ next = swept.0 in
    let few : count.instructions ≤ at = swept.2 in
    let others : count.others ≤ at = swept.3 in
    (omega arith, swept.1, omega arith, omega arith)
