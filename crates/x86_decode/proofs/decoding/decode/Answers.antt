-- What the first 15 bytes give is what a prefix of all bytes spells.
use Rattle.std.proofs.Common.{arith, ap, ◌∙◌, sym}
use Rattle.x86_decode.specs.Reading.{instr_at}
use Rattle.x86_decode.proofs.DecodeLemmas.{all_found, all_in_form, first_read, is_only, none_is}
use Rattle.x86_decode.proofs.decoding.decode.Goals as goal

pub returns-clause-value : goal.returns-clause-value
returns-clause-value c =
    c.decode_first.ensures ∙ (ap (instr_at c.args.addr) c.first_bytes.ensures.value ∙ sym (first_read c.args.addr c.args.bytes.now (λ i. omega (arith, c.type_inv.bytes i))))

pub returns-clause-found : goal.returns-clause-found
returns-clause-found c =
    let e = c.decode_first.ensures ∙ ap (instr_at c.args.addr) c.first_bytes.ensures.value in
    all_found c.args.addr c.args.bytes.now c.decode_first.result (λ i. omega (arith, c.type_inv.bytes i)) (sym e)

pub returns-clause-only : goal.returns-clause-only
returns-clause-only c =
    let e = c.decode_first.ensures ∙ ap (instr_at c.args.addr) c.first_bytes.ensures.value in
    λ i at spells. e ∙ is_only c.args.addr c.args.bytes.now i at spells

pub returns-clause-in_form : goal.returns-clause-in_form
returns-clause-in_form c =
    let e = c.decode_first.ensures ∙ ap (instr_at c.args.addr) c.first_bytes.ensures.value in
    let found = all_found c.args.addr c.args.bytes.now c.decode_first.result (λ i. omega (arith, c.type_inv.bytes i)) (sym e) in
    all_in_form c.spelled_in_form.ensures c.args.addr c.args.bytes.now c.decode_first.result (omega (arith, c.ranges.addr)) found

pub returns-clause-none : goal.returns-clause-none
returns-clause-none c =
    let e = c.decode_first.ensures ∙ ap (instr_at c.args.addr) c.first_bytes.ensures.value in
    let found = all_found c.args.addr c.args.bytes.now c.decode_first.result (λ i. omega (arith, c.type_inv.bytes i)) (sym e) in
    none_is c.args.addr c.args.bytes.now c.decode_first.result found (λ i at spells. e ∙ is_only c.args.addr c.args.bytes.now i at spells)
