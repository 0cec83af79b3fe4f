use Rattle.x86_machine.proofs.memory.Memory.+load.Given as goal

abbrev pub decreases-load : goal.decreases-load
decreases-load l = l.n
