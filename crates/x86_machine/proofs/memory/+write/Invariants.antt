use Rattle.x86_machine.proofs.memory.+write.Given as goal

abbrev pub decreases-write : goal.decreases-write
decreases-write l = l.n
