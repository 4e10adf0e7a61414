-- What a lock round the service of a table that threads share keeps.
use Rattle.std.specs.Prelude.{◌≡◌, ℕ, ◌<◌, false, List, [], length}
use Rattle.std.specs.Coded.{Coded-set, codes}
use Rattle.atomic_table.specs.Seated.{TableId}
use Rattle.trace_model.specs.Buffers.{Buffer}
use Rattle.chunk_plain.specs.Setup.{Setup}
use Rattle.chunk_words.specs.declared.host.HostTable.{HostTable}
use Rattle.chunk_words.specs.Named.{identity_of}
use Rattle.chunk_words.specs.Sits.{setup_in}
use Rattle.service_core.specs.Agreement.{first_of, is_closed}
use Rattle.session_core.specs.declared.answers.SessionState.TheVariants.{Started}
use Rattle.thread_service.specs.declared.service.Service.{Service}
use Rattle.thread_service.specs.OneProof.{serves_prop}
use Rattle.thread_service.specs.Serving.{core_of, view_in, Serves}

-- the set-up of no table
abbrev pub no_setup : Setup
no_setup = record { pages = 0; spots = []; ranges = []; sizes = []; writers = [] }

-- the table has this identity and this set-up
pub record IsNamed (id : TableId) (setup : Setup) (table : HostTable) : Type 0 where
  pub identity : identity_of table ≡ id
  pub setup_is : setup_in table ≡ setup

-- these are all parts of a ledger, of which there is one
abbrev pub IsWhole : (parts all : ℕ) → Type 0
IsWhole parts all = (all ≡ parts) × (0 < all)

-- the service is one of the table with them
abbrev pub ServesNamed : TableId → Setup → Service → Type 0
ServesNamed id setup service = (table : HostTable) → IsNamed id setup table → Serves table service

-- no sequence of a writer is closed
abbrev pub AllOpen : Setup → Service → Type 0
AllOpen setup service = (place : ℕ) → place < length setup.writers → is_closed setup (core_of service) place ≡ false

-- its buffers were these as they were made
abbrev pub BeganWith : Setup → List Buffer → Service → Type 0
BeganWith setup first service = first_of setup (core_of service) ≡ first

-- its session is started
abbrev pub IsStarted : Service → Type 0
IsStarted service = (core_of service).session.state ≡ Started

-- no image came by a commit
abbrev pub HasOwn : Service → Type 0
HasOwn service = (view_in service).commits ≡ []

-- There is at most one proof of each.
pub named_prop : (id : TableId) (setup : Setup) (table : HostTable) → IsProp (IsNamed id setup table)
named_prop id setup table = Prim.hlevel (Coded-set, codes)

-- of what the lock keeps
pub serves_named_prop : (id : TableId) (setup : Setup) (service : Service) → IsProp (ServesNamed id setup service)
serves_named_prop id setup service = Prim.hlevel serves_prop

-- and of what its buffers were
pub began_prop : (setup : Setup) (first : List Buffer) (service : Service) → IsProp (BeganWith setup first service)
began_prop setup first service = Prim.hlevel (Coded-set, codes)

-- and that its session is started
pub started_prop : (service : Service) → IsProp (IsStarted service)
started_prop service = Prim.hlevel (Coded-set, codes)

-- and that all images are the table's own
pub own_prop : (service : Service) → IsProp (HasOwn service)
own_prop service = Prim.hlevel (Coded-set, codes)
