-- 128 bits hold two signed numbers of 64 bits and their product.
use Rattle.std.proofs.Common.{◌∙◌, sym, ap, subst, of_z, FitsSigned}
use Rattle.std.specs.Int.{w128}
use Rattle.std.proofs.lemmas.Int.{to_z-of_z}
use Rattle.bits_core.proofs.WideLemmas.{product_fits, product_back}
use Rattle.bits_core.proofs.IntegerLemmas.{back}
use Rattle.bits_core.proofs.wide.multiplied_signed.Goals as goal

pub overflow_mul-integer : goal.overflow_mul-integer
overflow_mul-integer c =
    subst (FitsSigned w128)
    (sym (product_back c.args.w c.args.a c.args.b c.integer.result c.integer-2.result c.integer.ensures.value c.integer-2.ensures.value))
    (product_fits c.args.w c.args.a c.args.b)

pub returns : goal.returns
returns c =
    c.cast_unsigned.ensures
    ∙ ap (λ n. of_z w128 (back n)) (product_back c.args.w c.args.a c.args.b c.integer.result c.integer-2.result c.integer.ensures.value c.integer-2.ensures.value)
    ∙ ap (of_z w128) (to_z-of_z w128 _ (product_fits c.args.w c.args.a c.args.b))
