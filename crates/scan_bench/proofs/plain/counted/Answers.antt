use Rattle.scan_bench.proofs.BitLemmas.{bits_fit}
use Rattle.scan_bench.proofs.plain.counted.Goals as goal

pub covered-requires : goal.covered-requires
covered-requires c = bits_fit c.args.bytes.now (λ k. (c.type_inv.bytes k).fits) c.requires
