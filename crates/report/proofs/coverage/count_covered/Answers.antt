-- As many places are marked as bytes are covered.
use Rattle.std.proofs.Common.{◌≡◌, ◌∙◌, ◌+◌, ◌*◌, ◌≤◌, ◌<◌, ◌^◌, ◌&&◌, ℕ, List, max, nat_lt, length, arith, sym, subst}
use Rattle.graph_data.specs.declared.graph.Function.{Function}
use Rattle.instr_at.specs.At.{instr_at}
use Rattle.report.specs.Coverage.{LookUp, covered_from, is_covered}
use Rattle.report.specs.Marks.{flag, mark_at, marked_below}
use Rattle.report.proofs.CountLemmas.{marked_covered, covered_le}
use Rattle.report.proofs.coverage.count_covered.Goals as goal

-- where no mark was set, those of covered bytes are
marks : (look_up : LookUp) (functions : List Function) (lo size : ℕ) (old new : List ℕ) → ((k : ℕ) → mark_at old k ≡ 0) → ((k : ℕ) → mark_at new k ≡ max (mark_at old k) (flag (nat_lt k size && is_covered look_up functions (lo + k)))) → size ≤ 8 * length new → marked_below new (8 * length new) ≡ covered_from look_up functions lo size
marks look_up functions lo size old new clear set room =
    marked_covered look_up functions lo size new (λ k.
    let none : mark_at old k ≡ 0 = clear k in
    let here : mark_at new k ≡ max (mark_at old k) (flag (nat_lt k size && is_covered look_up functions (lo + k))) = set k in
    omega arith) room

pub marked-requires : goal.marked-requires
marked-requires c =
    let same = marks (instr_at c.args.image.now) c.args.functions.now c.args.lo c.args.size c.args.bits.now c.mark_functions.new.bits c.requires.clear c.mark_functions.ensures (omega arith) in
    let fits : c.args.size < 2 ^ 64 = c.ranges.size.fits in
    let few : covered_from (instr_at c.args.image.now) c.args.functions.now c.args.lo c.args.size ≤ c.args.size = covered_le (instr_at c.args.image.now) c.args.functions.now c.args.lo c.args.size in
    let P : ℕ → Type 0 = λ n. n < 2 ^ 64 in
    subst P (sym same) (omega arith)

pub returns : goal.returns
returns c = c.marked.ensures ∙ marks (instr_at c.args.image.now) c.args.functions.now c.args.lo c.args.size c.args.bits.now c.mark_functions.new.bits c.requires.clear c.mark_functions.ensures (omega arith)
