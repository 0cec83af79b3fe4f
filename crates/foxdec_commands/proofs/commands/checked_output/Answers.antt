use Rattle.std.proofs.Common.{inl, inr, ⊎_elim}
use Rattle.foxdec_commands.proofs.commands.checked_output.Goals as goal

pub returns-in-Ok : goal.returns-in-Ok
returns-in-Ok c =
    ⊎_elim (λ says. inl (record { verdict = c.in-Ok.verdict; is = c.in-Ok.ensures.exact; says = says })) (λ none. inr none) c.conclude.ensures
