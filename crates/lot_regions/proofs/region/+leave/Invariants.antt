use Rattle.lot_regions.proofs.region.+leave.Given as goal

abbrev pub decreases-leave : goal.decreases-leave
decreases-leave g l = l.behind
