-- Which histories are legal.
use Rattle.std.specs.Prelude.{◌≡◌, List, [], ◌∷◌}
use Rattle.lot_journal.specs.declared.entry.Entry.{Entry}

module _ {O C R : Type 0} (after : O → C → O) (reply : O → C → R) where
  -- A history is legal from one object to another where applying its calls in order, beginning at the first, gives each
  -- reply and ends at the other.
  abbrev pub IsLegal : O → List (Entry C R) → O → Type 0
  IsLegal first [] last = first ≡ last
  IsLegal first (entry ∷ rest) last = (reply first entry.call ≡ entry.reply) × IsLegal (after first entry.call) rest last

  -- one history is legal, and then another from where it ended
  pub record AreLegalInTurn (first : O) (history more : List (Entry C R)) (last : O) : Type 0 where
    pub middle : O
    pub before : IsLegal first history middle
    pub behind : IsLegal middle more last
