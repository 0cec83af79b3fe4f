-- At most seven bytes are left, whose number is below 2^56.
use Rattle.std.proofs.Common.{ℕ, List, length, take, drop, ◌-◌, ◌<◌, ◌^◌, ◌≤◌, arith}
use Rattle.std.proofs.lemmas.List.{length-take}
use Rattle.x86_decode.specs.Reading.{value}
use Rattle.x86_decode.proofs.ByteLemmas.{IsBytes, bytes_taken, bytes_dropped, value_small}
use Rattle.x86_decode.proofs.reading.+value_of.Goals as goal

rest_small : (bytes : List ℕ) → IsBytes bytes → length bytes ≤ 8 → value (take (length bytes - 1) (drop 1 bytes)) < 2 ^ 56
rest_small bytes fits le =
    let n = length bytes - 1 in
    value_small (take n (drop 1 bytes)) (bytes_taken n (drop 1 bytes) (bytes_dropped 1 bytes fits)) (omega (arith, length-take n (drop 1 bytes)))

pub overflow_mul-result : goal.overflow_mul-result
overflow_mul-result t c = omega (arith, rest_small c.args.bytes.now (λ i. omega (arith, c.type_inv.bytes i)) c.requires)

pub overflow_add-result : goal.overflow_add-result
overflow_add-result t c = omega (arith, c.type_inv.bytes 0, rest_small c.args.bytes.now (λ i. omega (arith, c.type_inv.bytes i)) c.requires)
