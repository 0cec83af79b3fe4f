use Rattle.x86_machine.proofs.memory.+hold.Given as goal

abbrev pub decreases-hold : goal.decreases-hold
decreases-hold l = l.n
