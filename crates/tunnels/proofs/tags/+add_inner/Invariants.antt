use Rattle.tunnels.proofs.tags.+add_inner.Given as goal

abbrev pub decreases-add_inner : goal.decreases-add_inner
decreases-add_inner l = l.most
