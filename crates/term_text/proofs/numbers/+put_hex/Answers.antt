use Rattle.std.proofs.Common.{ap, ◌∙◌}
use Rattle.term_text.proofs.NumberLemmas.{put_last, put_only}
use Rattle.term_text.proofs.numbers.+put_hex.Goals.{then-n-ge16+in_ok-put_hex, else-n-ge16}
use Rattle.term_text.proofs.numbers.+put_hex.Goals as goal

pub returns : goal.returns
returns t c =
    c.in_ok-push.ensures.items
    ∙ elim c.if-n-ge16.branch [
      | then-n-ge16+in_ok-put_hex w ↦ put_last _ _ c.args.n _ c.ranges.n.fits w.if-n-ge16.true (ap (λ o. o.items) w.out-is ∙ w.in_ok-put_hex.ensures) c.hex_digit.ensures
      | else-n-ge16 w ↦ put_only _ _ c.args.n _ w.if-n-ge16.false (ap (λ o. o.items) w.out-is) c.hex_digit.ensures
    ]
