-- What each act makes of a world. Looks of the service are free, and what each chunk is used for follows from the views by ownership.
use Rattle.std.specs.Prelude.{◌≡◌, ◌≢◌, ℕ, zero, suc, ◌+◌, ◌<◌, ◌==◌, Bool, true, false, None, List, [], ◌∷◌, ◌++◌, length, MatchBool, if◌then◌else◌}
use Rattle.std.specs.List.{flat_map, list_any}
use Rattle.trace_base.specs.declared.policy.WriterPolicy.{WriterPolicy}
use Rattle.trace_base.specs.declared.policy.WriterPolicy.TheVariants.{Drops, Stalls, StallsThenDrops}
use Rattle.trace_model.specs.Buffers.{Buffer}
use Rattle.trace_model.specs.Calls.{Call, Begun, Number, Bytes, Nested, Flushed}
use Rattle.trace_model.specs.History.{buffers_after}
use Rattle.trace_model.specs.Images.{Image}
use Rattle.trace_model.specs.Packets.{packets_of, account_of, is_writing}
use Rattle.chunk_plain.specs.Owned.{IsOwned}
use Rattle.chunk_plain.specs.Setup.{Setup, range_of, producer_of, sequence_of}
use Rattle.chunk_plain.specs.Steps.{notes_commit}
use Rattle.chunk_plain.specs.Views as views
use Rattle.chunk_plain.specs.Views.{Look, Noted, Closed, BegunChunk, ServiceView, WriterView}
use Rattle.chunk_plain.specs.World.{World, writer}
use Rattle.chunk_plain.specs.Histories.{completed_images, history_of}
use Rattle.scenario_text.specs.RawChunks.{AskedChunk}
use Rattle.claim_arbiter.specs.Claiming.{NoneFree, AllClaimed, ClaimsInTurn, lost_asks}
use Rattle.world_model.specs.FirstBuffers.{payload_at}
use Rattle.world_model.specs.Accounts.{HasCut}
use Rattle.trace_writer.specs.Answered.{KeepsCompleted}
use Rattle.trace_writer.specs.Asked.{begun_as, written_as}
use Rattle.trace_writer.specs.Claims.{AreOwnChunks, KeepsClaims}
use Rattle.trace_writer.specs.Core.{last_is_held, holds_newest}
use Rattle.trace_writer.specs.Helping.{loses, rounds_for}
use Rattle.trace_writer.specs.Laws.{IsHeldImage}
use Rattle.trace_writer.specs.Losing.{LosesBehind}
use Rattle.trace_writer.specs.Outcomes.{NewestIsWhole}
use Rattle.trace_writer.specs.OwnSteps.{KeepsChunks, NoneHeld}
use Rattle.service_core.specs.Agreement.{spec_at, buffer_of, AreKnownNotes}
use Rattle.service_core.specs.Closing.{TakesAndCloses}
use Rattle.service_core.specs.Reading.{reads_in, noted_read}
use Rattle.service_core.specs.Scraping.{parts_held}
use Rattle.service_core.specs.Looking.{looked}
use Rattle.service_core.specs.Taking.{Takes, places_of, noted_more}
use Rattle.service_core.specs.Told.{NoneLeft}
use Rattle.replay_model.specs.Acts.{Act, Ask, Request, Answer, Collect, Scrape, CloseProducer, ReadAll, CommitRaw}
use Rattle.replay_model.specs.Raws.{raw_commit}

-- ---- the service

-- the note closes the sequence
abbrev pub is_close_of : (sequence : ℕ) → Noted → Bool
is_close_of sequence (Closed other) = other == sequence
is_close_of sequence other = false

-- one of the notes closed the sequence
abbrev pub is_shut : (sequence : ℕ) → List Noted → Bool
is_shut sequence notes = list_any (is_close_of sequence) notes

-- no sequence of the producer's writers is closed
abbrev pub AreOpen : Setup → (producer : ℕ) → ServiceView → Type 0
AreOpen setup producer service =
    (place : ℕ) → place < length setup.writers → producer_of setup place ≡ producer → is_shut (sequence_of place) service.events ≡ false

-- The producer's complete chunks are taken, so many: writer by writer in rising number, each one's in rising position. None is complete
-- behind it.
pub record Collects (setup : Setup) (producer : ℕ) (old new : World) : Type 0 where
  pub opened : AreOpen setup producer old.service
  pub writers : new.writers ≡ old.writers
  pub taken : ℕ
  pub takes : Takes setup (places_of producer 0 setup.writers) taken old.service new.service
  pub none_left : NoneLeft setup producer new

-- The producer's complete chunks are taken, and then the finished fragments of those that its writers hold. Each part was found by a look.
pub record Scrapes (setup : Setup) (producer : ℕ) (old new : World) : Type 0 where
  pub opened : AreOpen setup producer old.service
  pub writers : new.writers ≡ old.writers
  pub taken : ℕ
  pub between : ServiceView
  pub takes : Takes setup (places_of producer 0 setup.writers) taken old.service between
  pub looks : List Look
  pub notes : new.service ≡ noted_more (looked between looks) (parts_held setup producer new)
  pub found : AreKnownNotes new.service (parts_held setup producer new)
  pub none_left : NoneLeft setup producer new

-- the producer's complete chunks are taken, and then its sequences closed
pub record Closes (setup : Setup) (producer : ℕ) (old new : World) : Type 0 where
  pub opened : AreOpen setup producer old.service
  pub writers : new.writers ≡ old.writers
  pub taken : ℕ
  pub closes : TakesAndCloses setup producer taken old.service new.service
  pub none_left : NoneLeft setup producer new

-- the buffer's sequences are read in rising id, each with what is left of the limit
pub record Reads (setup : Setup) (buffers : List Buffer) (buffer limit : ℕ) (old new : World) : Type 0 where
  pub writers : new.writers ≡ old.writers
  pub notes : new.service
      ≡ noted_more old.service (flat_map noted_read (reads_in setup (buffers_after buffers (history_of old.service)) buffer limit))

-- A chunk is committed in the name of the writer at this place, whose sequence no note closed: the service notes it, where it is for the buffer of the writer's sequence,
-- and else nothing is changed.
pub record Commits (setup : Setup) (place : ℕ) (chunk : AskedChunk) (old new : World) : Type 0 where
  pub opened : is_shut (sequence_of place) old.service.events ≡ false
  pub writers : new.writers ≡ old.writers
  pub notes : new.service ≡ (if buffer_of setup place == chunk.buffer then notes_commit old.service (raw_commit setup place chunk) else old.service)

-- ---- a writer

-- the policy of the writer at this place
abbrev pub policy_of : Setup → (place : ℕ) → WriterPolicy
policy_of setup place = (spec_at setup.writers place).policy

-- Steps of the writer at this place change nothing of the other writers and of the service, and take back none of its claims.
pub record LeavesRest (place : ℕ) (old new : World) : Type 0 where
  pub writers : (other : ℕ) → other ≢ place → writer new other ≡ writer old other
  pub service : new.service ≡ old.service
  pub more : List views.Ask
  pub asked : (writer new place).asked ≡ (writer old place).asked ++ more

-- no chunk of the producer is free
abbrev pub HasNoFreeChunk : Setup → (producer : ℕ) → World → Type 0
HasNoFreeChunk setup producer world = NoneFree world (range_of setup producer).first ((range_of setup producer).first + (range_of setup producer).count)

-- the call may need a chunk, so that its writer may ask for a help in it
abbrev pub MayNeedChunk : Call → Type 0
MayNeedChunk (Begun kept) = Unit {0}
MayNeedChunk (Number field value) = Unit {0}
MayNeedChunk (Bytes field text times) = Unit {0}
MayNeedChunk (Nested field) = Unit {0}
MayNeedChunk other = ⊥

-- A round of claims of the writer at this place was in vain, in a world in which each chunk is owned by exactly one: no chunk of its
-- producer is free, and no claim of it is out; and all that it began are chunks of its producer.
pub record IsVainIn (setup : Setup) (place : ℕ) (world : World) : Type 0 where
  pub owned : ∥ IsOwned world ∥₁
  pub none_free : HasNoFreeChunk setup (producer_of setup place) world
  pub unclaimed : (writer world place).claimed ≡ []
  pub unstamped : (writer world place).stamped ≡ None
  pub own_chunks : AreOwnChunks setup (producer_of setup place) (writer world place).begun

-- The writer at this place is out of chunks: its round of claims was in vain, and it holds none. So each chunk of its producer is another
-- writer's, or is one that it completed and that waits.
pub record IsOut (setup : Setup) (place : ℕ) (world : World) : Type 0 where
  pub vain : IsVainIn setup place world
  pub none_held : NoneHeld (writer world place).begun

-- One whole round of claims in vain: the writer at this place asks for each chunk of its producer, once each and in rising order, and finds
-- each claimed. It notes no call and begins no chunk; one that it held may be completed.
pub record GoesRound (setup : Setup) (place : ℕ) (old new : World) : Type 0 where
  pub leaves : LeavesRest place old new
  -- the page words that its claims found
  pub words : List ℕ
  pub count_is : length words ≡ (range_of setup (producer_of setup place)).count
  pub claimed : AllClaimed setup (range_of setup (producer_of setup place)).first words
  pub asked : (writer new place).asked
      ≡ (writer old place).asked ++ lost_asks (length (writer old place).calls) (range_of setup (producer_of setup place)).first words
  pub calls : (writer new place).calls ≡ (writer old place).calls
  pub chunks : KeepsChunks (writer old place).begun (writer new place).begun

-- how often a writer with this policy asks for a help, for one chunk, before it loses its packet
abbrev pub asks_for : WriterPolicy → ℕ
asks_for Drops = 0
asks_for Stalls = 0
asks_for (StallsThenDrops tries) = tries

-- at a packet's begin no chunk is held
abbrev pub HoldsNoneAt : Call → List BegunChunk → Type 0
HoldsNoneAt (Begun kept) begun = NoneHeld begun
HoldsNoneAt other begun = Unit {0}

-- The writer at this place tries for one chunk, with so many asks left: behind a round of claims in vain its producer's complete chunks
-- are taken, and it claims again, whatever that took. At a packet's begin it holds none while it asks. It gets a chunk (false), or the
-- round behind its last ask was in vain too (true).
pub data Tries (setup : Setup) (place : ℕ) (call : Call) : ℕ → Bool → World → World → Type 0 where
  Gains : (left chunk : ℕ) (old new : World) → LeavesRest place old new
      → ClaimsInTurn setup (range_of setup (producer_of setup place)).first (range_of setup (producer_of setup place)).count chunk
      (writer old place) (writer new place) → Tries setup place call left false old new
  Again : (left : ℕ) (stopped : Bool) (old asking freed new : World) → GoesRound setup place old asking → IsVainIn setup place asking
      → HoldsNoneAt call (writer old place).begun
      → Collects setup (producer_of setup place) asking freed → ∥ IsOwned freed ∥₁ → Tries setup place call left stopped freed new
      → Tries setup place call (suc left) stopped old new
  Ends : (old new : World) → GoesRound setup place old new → IsVainIn setup place new → Tries setup place call zero true old new

-- What a call is done by: steps of the writer and, where the call may need a chunk, the taking of its producer's complete chunks, each
-- behind a round of claims in vain of its own. Where the writer is one that stalls and is out of chunks, this takes some. Where it is one
-- that asks so often and then drops, it is for a chunk that it then gets, behind so many asks at most. It stops (true) where its policy is
-- to lose the packet, and all its tries for one chunk were in vain; behind them it claims no more.
pub data Works (setup : Setup) (place : ℕ) (call : Call) : Bool → World → World → Type 0 where
  Alone : (old new : World) → LeavesRest place old new → Works setup place call false old new
  Helped : (stopped : Bool) (old before asking freed new : World) → MayNeedChunk call → policy_of setup place ≡ Stalls
      → LeavesRest place old before → GoesRound setup place before asking
      → IsOut setup place asking → Collects setup (producer_of setup place) asking freed → ∥ IsOwned freed ∥₁
      → freed.service.events ≢ asking.service.events → Works setup place call stopped freed new → Works setup place call stopped old new
  Tried : (stopped : Bool) (old before gained new : World) (tries : ℕ) → MayNeedChunk call → policy_of setup place ≡ StallsThenDrops tries
      → LeavesRest place old before → Tries setup place call tries false before gained → Works setup place call stopped gained new
      → Works setup place call stopped old new
  Lost : (old before last new : World) → MayNeedChunk call → loses (policy_of setup place) ≡ true → LeavesRest place old before
      → Tries setup place call (asks_for (policy_of setup place)) true before last → LeavesRest place last new
      → (writer new place).asked ≡ (writer last place).asked → Works setup place call true old new

-- what is noted where no chunk is free: the packet is dropped at its begin, or given up
abbrev pub dropped_call : Call → List Call
dropped_call (Begun kept) = begun_as true Drops
dropped_call call = written_as true Drops call

-- The call is noted (false); or that the packet is lost (true), by a writer that drops, or that asks so often and then drops, in a call
-- that may need a chunk and only where none is free: behind one whole round of its claims in vain, or one more than it asks for helps,
-- which are the last claims of this call.
abbrev pub Notes : Setup → (place : ℕ) → Call → Bool → World → World → Type 0
Notes setup place call false old new = (writer new place).calls ≡ (writer old place).calls ++ call ∷ []
Notes setup place call true old new =
    ((writer new place).calls ≡ (writer old place).calls ++ dropped_call call)
    × MayNeedChunk call × (loses (policy_of setup place) ≡ true) × HasNoFreeChunk setup (producer_of setup place) new
    × LosesBehind setup (range_of setup (producer_of setup place)) (rounds_for (policy_of setup place)) (writer old place) (writer new place)

-- What a writer has written, between two calls: its chunks are a cut of its packets, in which all stands that it was asked to write of the
-- newest one, unless that is lost; it holds its newest chunk exactly where its newest packet isn't lost and no flush came behind it, and
-- what it holds is published but for the last fragment; and its claims are of its producer's chunks.
pub record Wrote (setup : Setup) (place : ℕ) (view : WriterView) : Type 0 where
  pub held : List Image
  pub cut : HasCut (payload_at setup place) place view held
  pub whole : NewestIsWhole (packets_of view.calls) cut.cut.pages
  pub holds : last_is_held view.begun ≡ holds_newest (account_of view.calls)
  pub begun : length view.begun ≡ length (completed_images view.begun) + length held
  pub stands : (image : Image) → held ≡ image ∷ [] → IsHeldImage view image
  pub only : (one other : Image) (others : List Image) → held ≡ one ∷ other ∷ others → ⊥
  pub claims : KeepsClaims setup place view

-- The writer at this place is asked for a call, and does it: its packet is lost exactly where it stopped for want of a chunk, and what it had
-- completed stays.
pub record Asks (setup : Setup) (place : ℕ) (call : Call) (old new : World) : Type 0 where
  pub stopped : Bool
  pub works : Works setup place call stopped old new
  pub notes : Notes setup place call stopped old new
  pub keeps : KeepsCompleted (writer old place).begun (writer new place).begun
  pub wrote : Wrote setup place (writer new place)

-- ---- all acts

-- what an act makes of a world, where the buffers were these at first
abbrev pub Does : Setup → List Buffer → Act → World → World → Type 0
Does setup buffers (Ask place call) old new = Asks setup place call old new
Does setup buffers Request old new = new ≡ old
Does setup buffers (Answer place) old new =
    MatchBool (is_writing (packets_of (writer old place).calls)) (new ≡ old) (Asks setup place Flushed old new)
Does setup buffers (Collect producer) old new = Collects setup producer old new
Does setup buffers (Scrape producer) old new = Scrapes setup producer old new
Does setup buffers (CloseProducer producer) old new = Closes setup producer old new
Does setup buffers (ReadAll buffer limit) old new = Reads setup buffers buffer limit old new
Does setup buffers (CommitRaw place chunk) old new = Commits setup place chunk old new
