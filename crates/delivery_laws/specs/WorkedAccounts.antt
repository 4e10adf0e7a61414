-- A worked account that meets all that the law on writers asks for: three packets in three chunks, of which the second is given
-- up while a length of it is open. A scrape brings the first packet before its chunk is complete.
use Rattle.std.specs.Prelude.{◌≡◌, ℕ, ◌≤◌, ◌==◌, true, false, List, [], ◌∷◌, ◌++◌, length, All, if◌then◌else◌}
use Rattle.trace_model.specs.Images.{first_fragments}
use Rattle.trace_model.specs.Pages.{Page, chunk_of}
use Rattle.trace_model.specs.Sequences.{Sequence, fresh}
use Rattle.trace_model.specs.Buffers.{empty_buffer}
use Rattle.trace_base.specs.declared.policy.FullPolicy.TheVariants.{Ring}
use Rattle.trace_model.specs.History.{Event, ArrivesInPart, Read, delivered_to}
use Rattle.trace_model.specs.Packets.{packets_of, bodies_of, begun_count}
use Rattle.trace_model.specs.Walks.{is_accepted}
use Rattle.trace_model.specs.WorkedWriters.{patched_calls, patched_pages, given_up_calls, given_up_pages}
use Rattle.trace_model.specs.WorkedRows.{no_limit, taken, ended}
use Rattle.delivery_laws.specs.DeliveryLaws.{IsAccountOf}
use Rattle.delivery_laws.specs.Finishing.{AllWhole, Finishes}
use Rattle.delivery_laws.specs.Room.{asked, wanted, EachBelow}

-- the first fragment of the first of these pages
abbrev pub scraped : List Page → List Event
scraped [] = []
scraped (page ∷ pages) = ArrivesInPart 2 0 (first_fragments 1 (chunk_of page)) ∷ Read 2 no_limit ∷ []

-- a part of the chunk is scraped, then all of it is taken, and then the end
abbrev pub scraped_events : List Event
scraped_events = scraped given_up_pages ++ taken 2 0 given_up_pages ++ ended

-- two sequences of which nothing has come
abbrev pub two_sequences : List Sequence
two_sequences = fresh 2 2064 0 ∷ fresh 3 2064 0 ∷ []

-- an account that meets what the delivery law asks, and what is delivered of it
pub record WorkedAccount : Type 0 where
  pub account : IsAccountOf 2036 given_up_calls given_up_pages two_sequences 2 2064 scraped_events
  -- the first packet, by the scrape, and the third one, behind the one that is missing
  pub delivered : delivered_to 2 (empty_buffer 65536 Ring two_sequences) scraped_events
      ≡ record { body = 0x40 ∷ 0x01 ∷ []; marked = true }
      ∷ record { body = 0xD0 ∷ 0x02 ∷ 0x01 ∷ 0x40 ∷ 0x02 ∷ []; marked = true } ∷ []

-- An account that comes to an end, with a buffer of just the bytes that it asks for: a packet in two chunks, of which the first
-- awaits a patch.
abbrev pub small_sequences : List Sequence
small_sequences = fresh 2 304 0 ∷ fresh 3 304 0 ∷ []

-- both pages are taken, and then the end
abbrev pub finished_events : List Event
finished_events = taken 2 0 patched_pages ++ ended

-- two chunks of the first sequence, and none of the other
abbrev pub two_chunks : ℕ → ℕ
two_chunks sequence = if sequence == 2 then 2 else 0

-- an account that meets what the law on enough bytes asks
pub record WorkedEnough : Type 0 where
  pub account : IsAccountOf 284 patched_calls patched_pages small_sequences 2 304 finished_events
  pub whole : AllWhole (packets_of patched_calls)
  pub accepted : All (λ (body : List ℕ). is_accepted body ≡ true) (bodies_of patched_calls)
  pub finishes : Finishes 2 (length patched_pages) (begun_count patched_calls) 0 false finished_events
  pub bytes : asked (empty_buffer 608 Ring small_sequences) finished_events ≤ 608
  pub below : EachBelow two_chunks small_sequences finished_events
  pub room : wanted two_chunks small_sequences ≤ 608
