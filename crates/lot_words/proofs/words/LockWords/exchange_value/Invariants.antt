use Rattle.std.proofs.Common.{◌≡◌}
use Rattle.lot_words.specs.Values.{place_of}
use Rattle.lot_words.specs.Calls.{placing}
use Rattle.lot_words.proofs.Moving.{Leaves}
use Rattle.lot_words.proofs.words.LockWords.exchange_value.Given as goal

abbrev pub ghosts-exchange : goal.ghosts-exchange
ghosts-exchange g a = record { slot = a.slot; mid = Leaves a.pass a.slot; back = λ own q. q ≡ placing own a.slot (place_of a.new) }
