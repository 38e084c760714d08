use Rattle.capture.proofs.ip.+headers.Given as goal

abbrev pub decreases-headers : goal.decreases-headers
decreases-headers l = l.most
