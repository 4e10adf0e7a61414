-- What a table and a service are made for, as a session wants them.
use Rattle.std.specs.Prelude.{◌≡◌, ℕ, zero, suc, ◌+◌, ◌*◌, ◌%◌, ◌≤◌, [], ◌∷◌, length, Some, slice_get, All}
use Rattle.trace_base.specs.declared.limits.TheConstants.{BYTES_PER_KB, MAX_BUFFER_KB, MAX_PRODUCERS, MAX_PAGES, MAX_WRITERS}
use Rattle.trace_base.specs.declared.policy.FullPolicy.{FullPolicy}
use Rattle.trace_base.specs.declared.policy.FullPolicy.TheVariants.{Ring, Discard}
use Rattle.trace_base.specs.declared.policy.WriterPolicy.TheVariants.{Drops}
use Rattle.trace_base.specs.declared.policy.WriterSpec.{WriterSpec}
use Rattle.chunk_plain.specs.declared.setup.ProducerSpec.{ProducerSpec}
use Rattle.chunk_plain.specs.Laying.{setup_of}
use Rattle.service_core.specs.Agreement.{IsRouted}
use Rattle.service_core.specs.Making.{HaveSizes, RecordsFit}
use Rattle.page_geometry.specs.Sizes.{IsPageSize, IsChunkCount, payload_size, record_size}
use Rattle.tracesmb_c.specs.declared.planning.Plan.{Plan}
use Rattle.tracesmb_c.specs.declared.planning.SessionSetup.{SessionSetup}

-- the writer at this place, one of each of so many producers in turn, which drops packets, into the one buffer
abbrev pub planned_writer : (producers place : ℕ) → WriterSpec
planned_writer producers place = record { producer = place % producers + 1; buffer = 1; policy = Drops; from = 0 }

-- a table and a service can be made so, and each writer drops packets
pub record IsPlan (plan : Plan) : Type 0 where
  pub few_producers : length plan.producers.items ≤ MAX_PRODUCERS
  pub some_page : All (λ (p : ProducerSpec). 1 ≤ p.pages) plan.producers.items
  pub few_pages : All (λ (p : ProducerSpec). p.pages ≤ MAX_PAGES) plan.producers.items
  pub few_writers : length plan.writers.items ≤ MAX_WRITERS
  pub routed : IsRouted (setup_of plan.producers.items plan.writers.items) 1
  pub sizes : HaveSizes (plan.buffer ∷ [])
  pub fit : RecordsFit (setup_of plan.producers.items plan.writers.items) (plan.buffer ∷ [])
  pub drops : (place : ℕ) (spec : WriterSpec) → slice_get plan.writers.items place ≡ Some spec → spec.policy ≡ Drops

-- the numbers of a set-up are in their ranges, and a record of a chunk fits into the buffer
pub record IsSetup (setup : SessionSetup) : Type 0 where
  pub some_writer : 1 ≤ setup.writers
  pub few_writers : setup.writers ≤ MAX_WRITERS
  pub some_producer : 1 ≤ setup.producers
  pub few_producers : setup.producers ≤ MAX_PRODUCERS
  pub some_page : 1 ≤ setup.pages
  pub few_pages : setup.pages ≤ MAX_PAGES
  pub some_buffer : 1 ≤ setup.buffer_kb
  pub small_buffer : setup.buffer_kb ≤ MAX_BUFFER_KB
  pub full : setup.full ≤ 1
  pub page_size : IsPageSize setup.page_size
  pub chunks : IsChunkCount setup.chunks
  pub fit : record_size (payload_size setup.page_size setup.chunks) ≤ setup.buffer_kb * BYTES_PER_KB

-- what a full buffer does: 0 says that it takes new records in place of the oldest, 1 that it takes no more
abbrev pub policy_for : (full : ℕ) → FullPolicy
policy_for zero = Ring
policy_for (suc full) = Discard

-- so many pages of this size, each of so many chunks
pub record IsProducerFor (setup : SessionSetup) (producer : ProducerSpec) : Type 0 where
  pub pages : producer.pages ≡ setup.pages
  pub page_size : producer.geometry.page_size ≡ setup.page_size
  pub chunks : producer.geometry.chunks ≡ setup.chunks

-- So many producers as the set-up says, all alike, so many writers, and a buffer of that size and policy.
pub record IsPlanFor (setup : SessionSetup) (plan : Plan) : Type 0 where
  pub many_producers : length plan.producers.items ≡ setup.producers
  pub producers : (place : ℕ) (producer : ProducerSpec) → slice_get plan.producers.items place ≡ Some producer
      → IsProducerFor setup producer
  pub many_writers : length plan.writers.items ≡ setup.writers
  pub writers : (place : ℕ) (writer : WriterSpec) → slice_get plan.writers.items place ≡ Some writer
      → writer ≡ planned_writer setup.producers place
  pub size : plan.buffer.size ≡ setup.buffer_kb * BYTES_PER_KB
  pub policy : plan.buffer.policy ≡ policy_for setup.full
