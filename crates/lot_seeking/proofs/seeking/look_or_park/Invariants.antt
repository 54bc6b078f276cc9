use Rattle.std.proofs.Common.{◌≡◌, ◌⊎◌}
use Rattle.lot_seeking.specs.declared.seeking.Seeking.TheVariants.{Waits}
use Rattle.lot_seeking.proofs.seeking.look_or_park.Given as goal

abbrev pub invariant-loop : goal.invariant-loop
invariant-loop g l = record {
  awake : g.S.Sought.seeks l.initial.pass l.key Waits l.pass;
  ran : (g.S.Sought.woken l.pass ≡ g.S.Sought.woken l.initial.pass) ⊎ g.B.BeforeSleep.ran l.before;
}
