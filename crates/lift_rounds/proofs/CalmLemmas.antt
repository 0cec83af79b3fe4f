-- What rounds leave, and that they end.
use Rattle.std.proofs.Common.{◌≡◌, ◌<◌, ◌+◌, ◌-◌, ◌*◌, ℕ, List, length, IsSome, sym, ◌∙◌, subst, inl, inr, arith}
use Rattle.lift_rounds.specs.Known.{Known}
use Rattle.lift_rounds.specs.Round.{Frame, IsRound, IsCalm, IsPlain, AllFormed, head_weight}
use Rattle.lift_rounds.specs.declared.data.Change.{Change}
use Rattle.lift_rounds.specs.declared.data.Change.TheVariants.{Nothing, Made as MadeChange, Head}

pub round_calm : {R : Type 0} (f : Frame R) (first made : List (Known R)) (c : Change) → IsRound f first made c → c ≡ Nothing → IsCalm f made
round_calm f first made c r e = record {
  cased = λ v l. r.cased (inl e) v l;
  merged = r.merged;
  still = λ v l. r.still e v (subst (λ n. v < n) r.same_length l);
  known = λ v l. subst (λ o. IsSome o) (sym (r.same_preds e v)) (r.known v (subst (λ n. v < n) r.same_length l));
}

-- 65 times the conjuncts of the kept vertices, and how many more rounds may change others alone
abbrev pub left_over : {R : Type 0} → Frame R → List (Known R) → ℕ → ℕ
left_over f made quiet = 65 * head_weight f made (length made) + (64 - quiet)

-- a round that weakened a kept vertex
pub left_head : {R : Type 0} (f : Frame R) (first made : List (Known R)) (c : Change) (quiet : ℕ) → IsRound f first made c → c ≡ Head → left_over f made 0 < left_over f first quiet
left_head f first made c quiet r e = let less = r.lighter e in subst (λ n. 65 * head_weight f made n + 64 < left_over f first quiet) (sym r.same_length) (omega arith)

-- a round that changed other vertices alone
pub left_made : {R : Type 0} (f : Frame R) (first made : List (Known R)) (c : Change) (quiet : ℕ) → IsRound f first made c → c ≡ MadeChange → quiet + 1 < 64 → left_over f made (quiet + 1) < left_over f first quiet
left_made f first made c quiet r e h = let same = r.held e in subst (λ n. 65 * head_weight f made n + (64 - (quiet + 1)) < left_over f first quiet) (sym r.same_length) (omega arith)

-- after such a round all is formed, where the sites are plain
pub made_formed : {R : Type 0} (f : Frame R) (first made : List (Known R)) (c : Change) → IsRound f first made c → c ≡ MadeChange → IsPlain f → AllFormed f made
made_formed f first made c r e p = record { cased = r.cased (inr (p, λ h. let z : MadeChange ≡ Head = sym e ∙ h in let w : ⊥ = cc in w)); merged = r.merged }
