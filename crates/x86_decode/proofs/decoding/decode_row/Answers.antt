-- What was read stage by stage is an encoding.
use Rattle.std.proofs.Common.{arith}
use Rattle.x86_decode.specs.Reading.{encoding}
use Rattle.x86_decode.proofs.DecodeLemmas.{stages_give, parts_fit}
use Rattle.x86_decode.proofs.decoding.decode_row.Goals as goal

pub overflow_sub-len : goal.overflow_sub-len
overflow_sub-len c =
    let f = c.in_ok-fields.fields in
    let e = encoding (record { prefixes = c.split_at.result.0.now; rex = c.rex_of-rex.result.0 }) f.row f.opcode f.modrm f.imm in
    (stages_give c.args.bytes.now c.split_at.result.0.now c.split_at.result.1.now c.rex_of-rex.result.1.now c.count_prefixes.result c.rex_of-rex.result.0 (e, c.in_ok-fields.rest.now)
    c.split_at.ensures.front c.split_at.ensures.back c.count_prefixes.ensures.value c.rex_of-rex.ensures.rex c.rex_of-rex.ensures.rest c.in_ok-fields.ensures (λ i. omega (arith, c.type_inv.bytes i))).0

pub instruction_of-requires : goal.instruction_of-requires
instruction_of-requires c =
    let f = c.in_ok-fields.fields in
    let e = encoding (record { prefixes = c.split_at.result.0.now; rex = c.rex_of-rex.result.0 }) f.row f.opcode f.modrm f.imm in
    let fits = (stages_give c.args.bytes.now c.split_at.result.0.now c.split_at.result.1.now c.rex_of-rex.result.1.now c.count_prefixes.result c.rex_of-rex.result.0 (e, c.in_ok-fields.rest.now)
    c.split_at.ensures.front c.split_at.ensures.back c.count_prefixes.ensures.value c.rex_of-rex.ensures.rex c.rex_of-rex.ensures.rest c.in_ok-fields.ensures (λ i. omega (arith, c.type_inv.bytes i))).1 in
    parts_fit _ _ _ _ _ e fits cc
