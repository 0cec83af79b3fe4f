use Rattle.small_tests.proofs.BitLemmas.{bits_fit}
use Rattle.small_tests.proofs.words.counted.Goals as goal

pub covered-requires : goal.covered-requires
covered-requires c = bits_fit c.args.bytes.now (λ k. (c.type_inv.bytes k).fits) c.requires
