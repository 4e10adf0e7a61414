-- What the frames of a stream commit in the name of a source, and that the service refuses none of it.
use Rattle.std.specs.Prelude.{◌≡◌, ℕ, ◌==◌, Bool, true, false, List, [], ◌∷◌, if◌then◌else◌, IsPermutation, ⊤}
use Rattle.trace_model.specs.Buffers.{Buffer}
use Rattle.trace_model.specs.Calls.{Call}
use Rattle.trace_model.specs.History.{buffers_after}
use Rattle.trace_model.specs.Pages.{Page}
use Rattle.chunk_plain.specs.Setup.{Setup, sequence_of}
use Rattle.config_text.specs.Configs.{ConfigOf}
use Rattle.stream_frames.specs.Frames.{Frame, Commits, Reads, Closes, Limits}
use Rattle.stream_frames.specs.Framing.{frames_of}
use Rattle.commit_laws.specs.Commits.{Commit, LastsComeLast, PatchesComeBehind, page_commits, patches_brought}
use Rattle.commit_laws.specs.Streams.{IsCompletedCut}
use Rattle.stream_producer.specs.History.{frame_events, image_placed, is_refused, patches_placed, source_of}
use Rattle.stream_producer.specs.Setups.{IsSetupFor, config_buffers, config_limits}
use Rattle.stream_laws.specs.Sources.{HasSource, IsSourceStream}

-- the frame is a commit in the name of the source at this place
abbrev pub is_of : ℕ → Frame → Bool
is_of place (Commits commit) = source_of commit == place
is_of place (Reads buffer) = false
is_of place Closes = false

-- the commits in its name, in their order, whatever buffer they are for
abbrev pub sent_by : Setup → Limits → (place : ℕ) → List Frame → List Commit
sent_by setup limits place [] = []
sent_by setup limits place (Commits commit ∷ frames) =
    if source_of commit == place
    then record { image = image_placed setup limits commit; patches = patches_placed setup commit } ∷ sent_by setup limits place frames
    else sent_by setup limits place frames
sent_by setup limits place (Reads buffer ∷ frames) = sent_by setup limits place frames
sent_by setup limits place (Closes ∷ frames) = sent_by setup limits place frames

-- none of them is refused, where the buffers are these
abbrev pub AllAreTaken : Setup → Limits → (place : ℕ) → List Buffer → List Frame → Type 0
AllAreTaken setup limits place buffers [] = ⊤
AllAreTaken setup limits place buffers (frame ∷ frames) =
    (is_of place frame ≡ true → is_refused setup limits buffers frame ≡ false)
    × AllAreTaken setup limits place (buffers_after buffers (frame_events setup limits buffers frame)) frames

-- The frames in the name of the source at this place commit each page once, with the patches of its body, in whatever order, and the
-- answer to none of them is a refusal.
pub record IsSentStream (config : ConfigOf) (setup : Setup) (stream : List ℕ)
    (place size : ℕ) (calls : List Call) (pages : List Page) : Type 0
  where
    pub has : HasSource config place
    pub cut : IsCompletedCut size calls pages
    pub each_once : IsPermutation (sent_by setup (config_limits config) place (frames_of (config_limits config) stream))
        (page_commits (sequence_of place) 0 pages)
    pub taken : AllAreTaken setup (config_limits config) place (config_buffers config setup) (frames_of (config_limits config) stream)
    pub behind : PatchesComeBehind [] (sent_by setup (config_limits config) place (frames_of (config_limits config) stream))
    pub lasts : LastsComeLast (patches_brought (sent_by setup (config_limits config) place (frames_of (config_limits config) stream)))

-- What is sent so is what comes: the laws of streams hold of it.
abbrev pub SentStreamsCome : Type 0
SentStreamsCome =
    (config : ConfigOf) (setup : Setup) → IsSetupFor config setup
    → (stream : List ℕ) (place size : ℕ) (calls : List Call) (pages : List Page)
    → IsSentStream config setup stream place size calls pages → IsSourceStream config setup stream place size calls pages
