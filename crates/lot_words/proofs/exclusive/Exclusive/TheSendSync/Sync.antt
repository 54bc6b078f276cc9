use denote.RattleType.{RattleType}
use denote.Param.Send.{IsSend, IsSync, part_keyless}
use Rattle.lot_words.specs.contracts.exclusive.Exclusive.{the_row}
use Rattle.lot_words.proofs.exclusive.Exclusive.TheSendSync.Send.{send}

pub sync : (T : RattleType) → IsSend T → IsSync (the_row T)
sync T s = record { shared = λ d b o κ q. part_keyless (the_row T) (send T s) q d b o }
