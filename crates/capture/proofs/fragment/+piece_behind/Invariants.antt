use Rattle.capture.proofs.fragment.+piece_behind.Given as goal

abbrev pub decreases-piece_behind : goal.decreases-piece_behind
decreases-piece_behind l = l.most
