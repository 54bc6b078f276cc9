-- Accounts, and what each worker moved into them and out of them.
use Rattle.std.specs.Prelude.{◌≡◌, ◌≢◌, ℕ, ◌+◌, ◌^◌, ◌<◌, ◌≤◌, ◌⊎◌, Bool, List, length, map, sum, slice_index, slice_get, Some, MatchBool}
use mathlib.Core.Option.{some}
use lib.ListN.{get_elem?}
use Rattle.std.specs.List.{sum_by}
use Rattle.lot_sync.specs.Lot.{LotView, PassView, OwnsNone, HasSeen}
use Rattle.gallery.specs.declared.accounts.Account.{Account}
use Rattle.gallery.specs.declared.accounts.TheConstants.{ACCOUNTS, WORKERS}

abbrev pub balance_of : Account → ℕ
balance_of account = account.balance

abbrev pub opening_of : Account → ℕ
opening_of account = account.opening

-- what it opened with does not change
abbrev pub StaysOpenedAs : Account → Account → Type 0
StaysOpenedAs old new = old.opening ≡ new.opening

-- each account opened with what that of the opening says
abbrev pub AreOpenedAs : List Account → List Account → Type 0
AreOpenedAs opening accounts = (key : ℕ) (u v : Account) → get_elem? opening key ≡ some u → slice_get accounts key ≡ Some v
    → StaysOpenedAs u v

abbrev pub in_by : ℕ → Account → ℕ
in_by thread account = slice_index account.moved_in thread

abbrev pub out_by : ℕ → Account → ℕ
out_by thread account = slice_index account.moved_out thread

-- what the worker moved into the account, and what it moved out
abbrev pub moved_by : ℕ → Account → ℕ × ℕ
moved_by thread account = (in_by thread account, out_by thread account)

-- of what was moved, what was moved in, and what was moved out
abbrev pub ins : ℕ × ℕ → ℕ
ins moved = moved.0

abbrev pub outs : ℕ × ℕ → ℕ
outs moved = moved.1

-- what lies in the account is what it opened with, with what was moved in, without what was moved out
pub record IsBooked (account : Account) : Type 0 where
  pub booked : account.balance + sum account.moved_out ≡ account.opening + sum account.moved_in
  pub in_places : length account.moved_in ≡ WORKERS
  pub out_places : length account.moved_out ≡ WORKERS

-- as much as the worker moved into the accounts it moved out of them
pub record IsEven (thread : ℕ) (accounts : List Account) : Type 0 where
  pub count : length accounts ≡ ACCOUNTS
  pub even : sum_by ins (map (moved_by thread) accounts) ≡ sum_by outs (map (moved_by thread) accounts)

abbrev pub AreEven : List Account → Type 0
AreEven accounts = (thread : ℕ) → IsEven thread accounts

-- a worker's pass between two transfers, and its lot
pub record IsSettled (lot : LotView) (pass : PassView Account) : Type 0 where
  pub accounts : lot.locks ≡ ACCOUNTS
  pub is_worker : pass.thread < WORKERS
  pub free : OwnsNone pass
  pub even : IsEven pass.thread pass.seen

-- two accounts of which the worker moved as much into them as out of them
pub record Settles (thread : ℕ) (from into from' into' : Account) : Type 0 where
  pub booked_from : IsBooked from'
  pub booked_into : IsBooked into'
  pub opened_from : StaysOpenedAs from from'
  pub opened_into : StaysOpenedAs into into'
  pub others_from : (t : ℕ) → t ≢ thread → moved_by t from ≡ moved_by t from'
  pub others_into : (t : ℕ) → t ≢ thread → moved_by t into ≡ moved_by t into'
  pub even : in_by thread from' + in_by thread into' + (out_by thread from + out_by thread into) ≡ in_by thread from + in_by thread
      into + (out_by thread from' + out_by thread into')

-- the worker moved the amount from the one account into the other
pub record Moves (thread amount : ℕ) (from into from' into' : Account) : Type 0 where
  pub less : from.balance ≡ from'.balance + amount
  pub more : into'.balance ≡ into.balance + amount
  pub out : out_by thread from' ≡ out_by thread from + amount
  pub in_it : in_by thread into' ≡ in_by thread into + amount

-- the amount does not lie in the one account, or a number has no room for it
abbrev pub CantMove : ℕ → ℕ → Account → Account → Type 0
CantMove thread amount from into =
    (from.balance < amount) ⊎ (2 ^ 64 ≤ into.balance + amount) ⊎ (2 ^ 64 ≤ out_by thread from + amount)
    ⊎ (2 ^ 64 ≤ in_by thread into + amount)

-- nothing changed, since the amount could not be moved
pub record MovesNothing (thread amount : ℕ) (from into from' into' : Account) : Type 0 where
  pub same_from : from' ≡ from
  pub same_into : into' ≡ into
  pub why : CantMove thread amount from into

-- Two accounts were found, in which the worker's own numbers were as it had seen them, and two were left there, which
-- its pass has seen: the amount was moved where this is said, and else it could not be.
pub record Transfers (before : PassView Account) (from into amount : ℕ) (done : Bool) (after : PassView Account) : Type 0 where
  pub found_from : Account
  pub found_into : Account
  pub left_from : Account
  pub left_into : Account
  pub own_from : (u : Account) → HasSeen before from u → moved_by before.thread u ≡ moved_by before.thread found_from
  pub own_into : (u : Account) → HasSeen before into u → moved_by before.thread u ≡ moved_by before.thread found_into
  pub moves : MatchBool done (Moves before.thread amount found_from found_into left_from left_into)
      (MovesNothing before.thread amount found_from found_into left_from left_into)
  pub seen_from : HasSeen after from left_from
  pub seen_into : HasSeen after into left_into
