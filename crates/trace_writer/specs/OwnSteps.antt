-- The steps of a writer's own: those by which it asks for no chunk, the claims until it gets one, and a full round of claims in vain.
use Rattle.std.specs.Prelude.{◌≡◌, ℕ, ◌+◌, ⊤, Bool, true, false, List, [], ◌∷◌, ◌++◌, length, Option, Some}
use Rattle.chunk_plain.specs.Views.{BegunChunk, Held, Completed}
use Rattle.chunk_plain.specs.Meaning.{Meaning, IsWriterStep}
use Rattle.chunk_plain.specs.World.{World, Unclaimed, status}
use Rattle.claim_arbiter.specs.Claiming.{ClaimsInTurn, AllClaimed, NoneFree, lost_asks}
use Rattle.trace_writer.specs.declared.route.Route.{Route}

-- The same chunks were begun. One that was held may be held still, or be completed; one that was completed has what it had.
abbrev pub KeepsChunks : List BegunChunk → List BegunChunk → Type 0
KeepsChunks [] [] = ⊤
KeepsChunks [] (one ∷ others) = ⊥
KeepsChunks (one ∷ others) [] = ⊥
KeepsChunks (Held chunk head ∷ old) (Held other next ∷ new) = (other ≡ chunk) × KeepsChunks old new
KeepsChunks (Held chunk head ∷ old) (Completed other content ∷ new) = (other ≡ chunk) × KeepsChunks old new
KeepsChunks (Completed chunk content ∷ old) (Held other head ∷ new) = ⊥
KeepsChunks (Completed chunk content ∷ old) (Completed other later ∷ new) = (other ≡ chunk) × (later ≡ content) × KeepsChunks old new

-- none of the chunks that were begun is held
abbrev pub NoneHeld : List BegunChunk → Type 0
NoneHeld [] = ⊤
NoneHeld (Held chunk head ∷ begun) = ⊥
NoneHeld (Completed chunk content ∷ begun) = NoneHeld begun

-- a table that tells its world tells it still, and no chunk came free in it
abbrev pub FreesNone : {T : Type 0} → (T → Option World) → T → T → Type 0
FreesNone told old new = (world : World) → told old ≡ Some world
    → (next : World) × (told new ≡ Some next) × ((chunk : ℕ) → status next chunk ≡ Unclaimed → status world chunk ≡ Unclaimed)

-- steps by which a writer asks for no chunk
pub record IsQuiet {T W S : Type 0} (means : Meaning T W S) (old : T) (seat : W) (new : T) (after : W) : Type 0 where
  pub step : IsWriterStep means old seat new after
  pub asked : (means.view new after).asked ≡ (means.view old seat).asked
  pub claimed : (means.view new after).claimed ≡ (means.view old seat).claimed
  pub stamped : (means.view new after).stamped ≡ (means.view old seat).stamped
  pub chunks : KeepsChunks (means.view old seat).begun (means.view new after).begun
  pub frees_none : FreesNone means.told old new

-- and notes no call
pub record IsSilent {T W S : Type 0} (means : Meaning T W S) (old : T) (seat : W) (new : T) (after : W) : Type 0 where
  pub quiet : IsQuiet means old seat new after
  pub calls : (means.view new after).calls ≡ (means.view old seat).calls

-- The writer gets a chunk: it asks for those of its producer in rising order until a claim wins, and begins that one.
pub record GetsChunk {T W S : Type 0} (means : Meaning T W S) (route : Route) (old : T) (seat : W) (new : T) (after : W) : Type 0 where
  pub step : IsWriterStep means old seat new after
  pub chunk : ℕ
  pub claims : ClaimsInTurn (means.setup old) route.arbiter.first route.arbiter.chunks chunk (means.view old seat) (means.view new after)
  pub frees_none : FreesNone means.told old new

-- A full round of claims in vain: the writer asked for each chunk of its producer, once each and each in vain, and noted no call;
-- on a table that tells its world none of them is free.
pub record IsInVain {T W S : Type 0} (means : Meaning T W S) (route : Route) (old : T) (seat : W) (now : T) (asker : W) : Type 0 where
  pub step : IsWriterStep means old seat now asker
  -- the page words that its claims found
  pub words : List ℕ
  pub count_is : length words ≡ route.arbiter.chunks
  pub all_claimed : AllClaimed (means.setup old) route.arbiter.first words
  pub asked : (means.view now asker).asked ≡ (means.view old seat).asked ++ lost_asks (length (means.view old seat).calls) route.arbiter.first words
  pub claimed : (means.view now asker).claimed ≡ (means.view old seat).claimed
  pub stamped : (means.view now asker).stamped ≡ (means.view old seat).stamped
  pub calls : (means.view now asker).calls ≡ (means.view old seat).calls
  pub chunks : KeepsChunks (means.view old seat).begun (means.view now asker).begun
  pub none_free : (world : World) → means.told old ≡ Some world
      → (next : World) × (means.told now ≡ Some next) × NoneFree next route.arbiter.first (route.arbiter.first + route.arbiter.chunks)

-- The same round, of a writer that tries for a chunk: at a packet's begin it holds none before it, since it has completed the chunk that it
-- held; in the midst of a packet it may hold one.
pub record IsVainTry {T W S : Type 0} (means : Meaning T W S) (route : Route) (begins : Bool) (old : T) (seat : W) (now : T) (asker : W) : Type 0 where
  pub vain : IsInVain means route old seat now asker
  pub none_held : begins ≡ true → NoneHeld (means.view old seat).begun

-- The writer is out of chunks, and has just found it so: its last round of claims was in vain, and it holds none.
pub record IsOutNow {T W S : Type 0} (means : Meaning T W S) (route : Route) (old : T) (seat : W) (now : T) (asker : W) : Type 0 where
  pub vain : IsInVain means route old seat now asker
  pub none_held : NoneHeld (means.view now asker).begun

-- One round of claims: the writer gets a chunk, or is out of chunks (true).
abbrev pub MakesRound : {T W S : Type 0} (means : Meaning T W S) → Route → Bool → T → W → T → W → Type 0
MakesRound {T} {W} means route false old seat new after =
    (mid : T) × (between : W) × GetsChunk means route old seat mid between
    × IsSilent means mid between new after
MakesRound means route true old seat new after =
    IsOutNow means route old seat new after
