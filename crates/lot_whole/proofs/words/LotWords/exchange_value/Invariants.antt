use Rattle.std.proofs.Common.{◌≡◌}
use Rattle.lot_words.specs.Values.{place_of}
use Rattle.lot_whole.specs.Calls.{placed_in}
use Rattle.lot_whole.proofs.Slots.{Leaves}
use Rattle.lot_whole.proofs.words.LotWords.exchange_value.Given as goal

abbrev pub ghosts-exchange : goal.ghosts-exchange
ghosts-exchange g a = record { slot = a.slot; mid = Leaves a.pass a.slot; back = λ own q. q ≡ placed_in own a.slot (place_of a.new) }
