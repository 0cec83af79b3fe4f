use Rattle.term_text.proofs.numbers.+put_hex.Given as goal

abbrev pub decreases-put_hex : goal.decreases-put_hex
decreases-put_hex c = c.n
