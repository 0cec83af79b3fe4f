use Rattle.x86_decode.proofs.DecodeLemmas.{spelled_once}
use Rattle.x86_decode.proofs.decoding.one_spelling.Goals as goal

pub returns : goal.returns
returns c = spelled_once
