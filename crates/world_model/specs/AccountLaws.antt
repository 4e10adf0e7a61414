-- The delivery law over tables of chunks.
use Rattle.std.specs.Prelude.{ℕ, ◌<◌, List, map, length}
use Rattle.trace_model.specs.Fragments.{drop_size}
use Rattle.trace_model.specs.Packets.{emissions_of}
use Rattle.trace_model.specs.Delivery.{IsFaithfulOf}
use Rattle.trace_model.specs.History.{records_after}
use Rattle.chunk_plain.specs.Setup.{Setup, sequence_of}
use Rattle.chunk_plain.specs.Views.{WriterView}
use Rattle.chunk_plain.specs.World.{World}
use Rattle.chunk_plain.specs.Plain.{first_world}
use Rattle.chunk_plain.specs.Histories.{history_of}
use Rattle.world_model.specs.FirstBuffers.{BufferSpec, payload_at, first_buffers}
use Rattle.world_model.specs.Accounts.{NoneCommitted, IsAccount}

-- Of any account, the records that the service's history writes are faithful to the packets that the writers emitted: each is of
-- a writer's sequence, and those of each sequence of which nothing came by a commit are emitted packets, exact, whole, once, in
-- order, and marked exactly where one is missing. What came by commits in the names of other writers does them no harm.
abbrev pub EveryAccountIsFaithful : Type 0
EveryAccountIsFaithful = (setup : Setup) (buffers : List BufferSpec) (world : World) → IsAccount setup world
    → IsFaithfulOf (λ place. NoneCommitted world.service (sequence_of place)) (map (λ (view : WriterView). emissions_of view.calls) world.writers)
    (records_after (first_buffers setup 1 buffers) (history_of world.service))

-- A table as it is made is an account, where the payloads of its chunks are smaller than the value of the drop mark: so accounts
-- begin, and of each step that is made from then on there is to show that it leads to one.
abbrev pub TablesBeginAsAccounts : Type 0
TablesBeginAsAccounts = (setup : Setup) → ((place : ℕ) → place < length setup.writers → payload_at setup place < drop_size)
    → IsAccount setup (first_world setup)
