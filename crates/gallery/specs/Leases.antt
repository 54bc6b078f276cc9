-- Connections that are out.
use Rattle.std.specs.Prelude.{◌≡◌, ℕ, zero, suc, ◌%◌, ◌++◌, true, false, List, []}
use Rattle.lot_rights.specs.declared.views.Access.{Access}
use Rattle.lot_scheme.specs.Traces.{TryTrace, GetPermitTrace}
use Rattle.lot_permits.specs.Permits.{PermitView}
use Rattle.lot_sync.specs.Lot.{PassView, ◌≈◌, HeldView, Owns, owning, letting_go, one_permit_more, one_permit_less}
use Rattle.lot_sync.specs.Permits.{HasPermit}
use Rattle.gallery.specs.declared.connections.TheConstants.{CONNECTIONS}

-- so many tries of thread t in vain, at the connections in turn, from the first on
abbrev pub TriesTrace : ℕ → ℕ → List Access → Type 0
TriesTrace t zero acts = acts ≡ []
TriesTrace t (suc n) acts =
    (front last : List Access) × TriesTrace t n front × TryTrace t (n % CONNECTIONS) false last × (acts ≡ front ++ last)

-- a permit of the pool was got, and then so many connections were tried in vain
abbrev pub SoughtTrace : ℕ → ℕ → ℕ → List Access → Type 0
SoughtTrace t pool n acts =
    (permit tries : List Access) × GetPermitTrace t pool permit × TriesTrace t n tries × (acts ≡ permit ++ tries)

-- a permit was got, and then the connections were tried in turn until this one was got
abbrev pub LeaseTrace : ℕ → ℕ → ℕ → List Access → Type 0
LeaseTrace t pool key acts =
    (n : ℕ) × ((front last : List Access) × SoughtTrace t pool n front × (key ≡ n % CONNECTIONS) × TryTrace t key true last
    × (acts ≡ front ++ last))

module _ {V : Type 0} where
  -- the pass has a permit of the pool, and owns a connection
  pub record Holds (pass : PassView V) (pool : ℕ) (permit : PermitView) (connection : HeldView V) : Type 0 where
    pub of_pool : permit.key ≡ pool
    pub has : HasPermit pass permit
    pub owns : Owns pass connection.key

  -- one permit of the pool more, and one connection
  pub record Leases (before : PassView V) (pool : ℕ) (permit : PermitView) (connection : HeldView V) (after : PassView V) : Type 0 where
    pub of_pool : permit.key ≡ pool
    pub of_thread : permit.thread ≡ before.thread
    pub after_is : after ≈ owning (one_permit_more before pool) connection.key connection.value

  -- both were given back
  pub record GivesBack (before : PassView V) (permit : PermitView) (connection : HeldView V) (after : PassView V) : Type 0 where
    pub after_is : after ≈ one_permit_less (letting_go before connection.key connection.value) permit.key
