-- 128 bits hold a signed number of twice the width.
use Rattle.bits_core.proofs.WideLemmas.{joined_back}
use Rattle.bits_core.proofs.wide.joined_signed.Goals as goal

pub returns : goal.returns
returns c = joined_back c.args.w c.args.high c.args.low c.mask.result c.integer.result c.integer-2.result c.from.result c.integer.ensures.value c.integer-2.ensures.value c.from.ensures c.mask.ensures
