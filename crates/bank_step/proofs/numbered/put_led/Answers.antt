use Rattle.std.proofs.Common.{map, ap, sym, ◌∙◌}
use Rattle.step_rules.specs.Cases.{case}
use Rattle.pred_step.specs.Led.{led_cases}
use Rattle.bank_step.proofs.CaseLemmas.{pairs_formed}
use Rattle.bank_step.proofs.numbered.put_led.Goals as goal

pub returns-in_ok-out-in-Apart-clause-formed : goal.returns-in_ok-out-in-Apart-clause-formed
returns-in_ok-out-in-Apart-clause-formed g c =
    let found = c.in_ok-out-in-Apart.ensures in
    pairs_formed (g.B.Bank.terms c.put_apart.new.bank) c.in_ok-out-in-Apart.out.items _ found.value found.formed

pub returns-in_ok-out-in-Alike-clause-value : goal.returns-in_ok-out-in-Alike-clause-value
returns-in_ok-out-in-Alike-clause-value g c =
    let found = c.in_ok-out-in-Alike.ensures in
    found.value ∙ ap (map (λ a. case a c.args.p.now)) c.as_slice-in-Alike.ensures.value ∙ sym (ap (led_cases c.args.p.now) c.in-Alike.is)
