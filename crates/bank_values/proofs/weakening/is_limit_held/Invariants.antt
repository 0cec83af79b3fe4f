use Rattle.std.proofs.Common.{◌≡◌, drop}
use Rattle.bank_values.specs.Weaken.{holds_limit}
use Rattle.bank_values.proofs.weakening.is_limit_held.Given as goal

abbrev pub invariant-loop-key : goal.invariant-loop-key
invariant-loop-key l = holds_limit (drop l.key-index l.held) l.limit ≡ holds_limit l.held l.limit
