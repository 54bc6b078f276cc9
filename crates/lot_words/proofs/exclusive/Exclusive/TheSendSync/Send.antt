use denote.Exit.{Exit, unchanged, leaves, hidden, under}
use denote.RattleType.{RattleType}
use denote.Struct.Struct.{exits_of}
use denote.Struct.Owning.{shape, fields, to}
use denote.Param.Send.{IsSend, Quiet, AllSend, owning_send, struct_send}
use Rattle.lot_words.specs.contracts.exclusive.Exclusive.{the_row, the_type}

quiet : {D X : Type 0} (to : D → X) (e : Exit X) → Quiet e → Quiet (hidden (under to e))
quiet to unchanged q = λ x w. tt
quiet to (leaves L l S s r₀) q = λ d. q (to d)

pub send : (T : RattleType) → IsSend T → IsSend (the_row T)
send T s =
    let O = the_type T in let all : AllSend (fields O) = (s, tt) in
    owning_send O all (λ d. tt) (λ k. quiet (to O) (exits_of k (fields O)) ((struct_send (shape O) all).leaving k))
