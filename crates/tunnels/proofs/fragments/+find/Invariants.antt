use Rattle.tunnels.proofs.fragments.+find.Given as goal

abbrev pub decreases-find : goal.decreases-find
decreases-find l = l.most
