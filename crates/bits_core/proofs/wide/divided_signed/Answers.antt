-- 128 bits give the quotient and the remainder, but for 2^127, which no width holds.
use Rattle.std.proofs.Common.{◌≡◌, ◌∙◌, sym, ap, true}
use Rattle.std.specs.Prelude.{ℕ, Some, int_div}
use Rattle.bits_core.specs.Integers.{integer_of, is_in_range, residue_of}
use Rattle.bits_core.specs.Wide.{joined_of}
use Rattle.bits_core.proofs.WideLemmas.{joined_of_fits, signed_fits, quotient_range, quotient_held, remainder_back, fitting_none, fitting_some}
use Rattle.bits_core.proofs.wide.divided_signed.Goals as goal

pub returns-then-not-is_held : goal.returns-then-not-is_held
returns-then-not-is_held c =
    let w = c.args.w in
    let a = joined_of w true c.args.high c.args.low in
    let d = integer_of w true c.args.by in
    let same = quotient_range w a d c.joined_signed-dividend.result c.integer-divisor.result c.wrapping_div-quotient.result (joined_of_fits w c.args.high c.args.low) (signed_fits w c.args.by) c.joined_signed-dividend.ensures c.integer-divisor.ensures.value c.wrapping_div-quotient.ensures in
    fitting_none w true a d (sym same ∙ sym c.is_held.ensures ∙ c.if-not-is_held.true)

pub returns : goal.returns
returns c =
    let w = c.args.w in
    let a = joined_of w true c.args.high c.args.low in
    let d = integer_of w true c.args.by in
    let afits = joined_of_fits w c.args.high c.args.low in
    let dfits = signed_fits w c.args.by in
    let same = quotient_range w a d c.joined_signed-dividend.result c.integer-divisor.result c.wrapping_div-quotient.result afits dfits c.joined_signed-dividend.ensures c.integer-divisor.ensures.value c.wrapping_div-quotient.ensures in
    let held : is_in_range w true (int_div a d) ≡ true = sym same ∙ sym c.is_held.ensures ∙ c.if-not-is_held.false in
    let quotient = c.residue.ensures ∙ ap (residue_of w) (quotient_held w a d c.joined_signed-dividend.result c.integer-divisor.result c.wrapping_div-quotient.result afits dfits c.joined_signed-dividend.ensures c.integer-divisor.ensures.value c.wrapping_div-quotient.ensures held) in
    let remainder = c.residue-2.ensures ∙ ap (residue_of w) (remainder_back a d c.joined_signed-dividend.result c.integer-divisor.result c.wrapping_rem-remainder.result afits dfits c.joined_signed-dividend.ensures c.integer-divisor.ensures.value c.wrapping_rem-remainder.ensures) in
    ap (λ (n : ℕ). Some (n, c.residue-2.result)) quotient
    ∙ ap (λ (n : ℕ). Some (residue_of w (int_div a d), n)) remainder
    ∙ fitting_some w true a d held
