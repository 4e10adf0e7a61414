-- What a call of the service does is what a frame gives.
use Rattle.std.proofs.Common.{◌≡◌, ◌≢◌, ◌∙◌, ℕ, ◌+◌, ◌-◌, ◌<◌, Bool, true, false, cond, Result, Ok, Err, List, [], ◌∷◌, ◌++◌, length, replicate, sym, ap, subst, append-nil, inl, inr, arith}
use Rattle.std.specs.Prelude.{IsOkAnd, slice_index_or, ◌⊎◌}
use Rattle.std.specs.List.{flat_map}
use Rattle.std.proofs.lemmas.Bool.{cases_eq, eq-eqb, ne_eqb}
use Rattle.std.proofs.lemmas.List.{length-append, length-replicate}
use Rattle.std.proofs.lemmas.List.Concat.{flat_map-append}
use Rattle.byte_io.specs.Bytes.{Intake, after_told}
use Rattle.byte_io.proofs.Told.{after_told_nothing}
use Rattle.trace_base.proofs.Lists.{get_seam}
use Rattle.trace_model.specs.Arrivals.{Arrived, image_arrival_of}
use Rattle.trace_model.specs.Buffers.{Buffer}
use Rattle.trace_model.specs.Counts.{raised, one_if}
use Rattle.trace_model.specs.Delivery.{trace_of}
use Rattle.trace_model.specs.History as model
use Rattle.trace_model.specs.History.{Event, buffers_after, records_after}
use Rattle.trace_model.specs.Ids.{placed_image, placed_patches}
use Rattle.trace_model.specs.Images.{Image, Patch}
use Rattle.chunk_plain.specs.Histories.{commit_of, happened, history_of}
use Rattle.chunk_plain.specs.Meaning.{Meaning, IsServiceStep}
use Rattle.chunk_plain.specs.Setup.{Setup, from_of, producer_of, size_of}
use Rattle.chunk_plain.specs.Steps.{notes_commit}
use Rattle.chunk_plain.specs.Views.{Noted, Commit, Committed, ServiceView}
use Rattle.trace_buffer.specs.Answers.{arrived_value}
use Rattle.trace_buffer.specs.declared.answers.Arrived as declared
use Rattle.service_core.specs.declared.committing.WrongTarget.{WrongTarget}
use Rattle.service_core.specs.declared.service.ServiceCore.{ServiceCore}
use Rattle.service_core.specs.Agreement.{AreKnownNotes, KeepsRest, ServiceAgrees, buffer_of, first_of, is_closed}
use Rattle.service_core.specs.Routing.{buffer_at}
use Rattle.service_core.proofs.AgreeLemmas.{first_stays}
use Rattle.service_core.proofs.CloseLemmas.{committed_grows}
use Rattle.service_core.proofs.HistoryLemmas.{history_stays}
use Rattle.service_core.proofs.RouteLemmas.{buffers_append, buffers_none}
use Rattle.stream_frames.specs.Frames as frames
use Rattle.stream_frames.specs.Frames.{Limits, IsCommit, payload_size_of}
use Rattle.stream_producer.specs.declared.player.Player.{Player}
use Rattle.stream_producer.specs.History.{image_of, image_placed, patches_placed, source_of, is_refusal, is_refusal_answer}
use Rattle.stream_producer.specs.Standing.{Serves, Stands, FitsSetup, Plays, events_for, view_of}

-- a commit that is noted is one event more
commit_happens : (view : ServiceView) (committed : Committed) → AreKnownNotes view view.events
    → history_of (notes_commit view committed) ≡ history_of view ++ model.Committed committed.image committed.patches ∷ []
commit_happens view committed known =
    let new : ServiceView = notes_commit view committed in
    let note : List Noted = Commit (length view.commits) ∷ [] in
    flat_map-append (happened new) view.events note
    ∙ ap (λ (es : List Event). es ++ flat_map (happened new) note)
    (history_stays view new view.events (committed_grows view committed) known)
    ∙ ap (λ (o : _). history_of view ++ (commit_of o ++ [])) (get_seam view.commits [] committed)

module _ {T W S : Type 0} (means : Meaning T W S) (old new : Player T S) (was : Serves means old)
    (agrees : ServiceAgrees (means.setup old.table) (view_of means new) new.service) where
  pub serves_on : IsServiceStep means old.table old.service.seat new.table new.service.seat → Serves means new
  serves_on step = record {
    serves = step.seat_stays;
    agrees = subst (λ (s : Setup). ServiceAgrees s (view_of means new) new.service) (sym step.setup_stays) agrees;
    reads = step.reads_stay was.reads;
  }

  -- the buffers are those behind what was noted
  pub buffers_on : (events : List Event) → first_of (means.setup old.table) new.service ≡ first_of (means.setup old.table) old.service
      → history_of (view_of means new) ≡ history_of (view_of means old) ++ events
      → new.service.buffers.items ≡ buffers_after old.service.buffers.items events
  buffers_on events first history =
      let bs : List Buffer = first_of (means.setup old.table) old.service in
      agrees.buffers
      ∙ ap (λ (b : List Buffer). buffers_after b (history_of (view_of means new))) first
      ∙ ap (buffers_after bs) history
      ∙ buffers_append bs (history_of (view_of means old)) events
      ∙ ap (λ (b : List Buffer). buffers_after b events) (sym was.agrees.buffers)

module _ {T W S : Type 0} (means : Meaning T W S) (old new : Player T S) (was : Stands means old)
    (agrees : ServiceAgrees (means.setup old.table) (view_of means new) new.service)
    (step : IsServiceStep means old.table old.service.seat new.table new.service.seat)
    (keeps : KeepsRest (means.setup old.table) old.service new.service) where
  pub stands_on : Stands means new
  stands_on = record {
    served = serves_on means old new was.served agrees step;
    opened = λ place below.
        let here : place < length (means.setup old.table).writers =
        subst (λ (s : Setup). place < length s.writers) step.setup_stays below in
        ap (λ (s : Setup). is_closed s new.service place) step.setup_stays ∙ keeps.closed place here ∙ was.opened place here;
  }

-- ---- commits

module _ {T W S : Type 0} (means : Meaning T W S) (limits : Limits) (commit : frames.Commit) (old new : Player T S)
    (was : Stands means old) where
  abbrev setup : Setup
  setup = means.setup old.table

  abbrev committed : Committed
  committed = record {
    image = image_placed (means.setup old.table) limits commit;
    patches = patches_placed (means.setup old.table) commit;
  }

  abbrev outcome : Arrived
  outcome = image_arrival_of (buffer_at old.service.buffers.items (commit.target - 1)) (image_placed (means.setup old.table) limits commit)

  -- a commit for the buffer of its sequence is an event
  pub commit_kept : ServiceAgrees (means.setup old.table) (view_of means new) new.service
      → IsServiceStep means old.table old.service.seat new.table new.service.seat
      → KeepsRest (means.setup old.table) old.service new.service
      → buffer_of (means.setup old.table) (source_of commit) ≡ commit.target
      → view_of means new ≡ notes_commit (view_of means old) (record {
        image = image_placed (means.setup old.table) limits commit;
        patches = patches_placed (means.setup old.table) commit;
      })
      → new.commits ≡ raised old.commits 1
      → new.refused
      ≡ raised old.refused (one_if (is_refusal (image_arrival_of (buffer_at old.service.buffers.items (commit.target - 1))
      (image_placed (means.setup old.table) limits commit))))
      → (taken : Intake) → Plays means limits (frames.Commits commit ∷ []) old new taken taken
  commit_kept agrees step keeps target noted commits refused taken =
      let bs : List Buffer = old.service.buffers.items in
      let event : List Event = model.Committed committed.image committed.patches ∷ [] in
      let on = eq-eqb (buffer_of setup (source_of commit)) commit.target target in
      let events : events_for means limits old (frames.Commits commit ∷ []) ≡ event =
      ap (λ (b : Bool). cond b event [] ++ []) on in
      let first = first_stays setup old.service new.service keeps.fields in
      let history : history_of (view_of means new) ≡ history_of (view_of means old) ++ event =
      ap history_of noted ∙ commit_happens (view_of means old) committed was.served.agrees.known in
      record {
        stands = stands_on means old new was agrees step keeps;
        setup_stays = step.setup_stays;
        first = first;
        history = history ∙ ap (λ (es : List Event). history_of (view_of means old) ++ es) (sym events);
        buffers = buffers_on means old new was.served agrees event first history ∙ ap (buffers_after bs) (sym events);
        taken = sym (ap (λ (es : List Event). after_told taken (trace_of (records_after bs es))) events ∙ after_told_nothing taken);
        commits = commits;
        refused = refused
            ∙ ap (raised old.refused) (let same : one_if (is_refusal outcome) ≡ one_if (is_refusal outcome) + 0 = omega arith in same)
            ∙ ap (λ (b : Bool). raised old.refused (one_if (cond b (is_refusal outcome) true) + 0)) (sym on);
      }

  -- and one for another buffer is none, and refused
  pub commit_refused : new.table ≡ old.table → new.service ≡ old.service
      → buffer_of (means.setup old.table) (source_of commit) ≢ commit.target
      → new.commits ≡ raised old.commits 1 → new.refused ≡ raised old.refused 1
      → (taken : Intake) → Plays means limits (frames.Commits commit ∷ []) old new taken taken
  commit_refused table service target commits refused taken =
      let bs : List Buffer = old.service.buffers.items in
      let event : List Event = model.Committed committed.image committed.patches ∷ [] in
      let off = ne_eqb (buffer_of setup (source_of commit)) commit.target target in
      let events : events_for means limits old (frames.Commits commit ∷ []) ≡ [] =
      ap (λ (b : Bool). cond b event [] ++ []) off in
      let view : view_of means new ≡ view_of means old =
      ap (λ (t : T). means.service_view t new.service.seat) table
      ∙ ap (λ (core : ServiceCore S). means.service_view old.table core.seat) service in
      record {
        stands = stays table service;
        setup_stays = ap means.setup table;
        first = ap (λ (core : ServiceCore S). first_of setup core) service;
        history = ap history_of view ∙ sym (append-nil (history_of (view_of means old)))
            ∙ ap (λ (es : List Event). history_of (view_of means old) ++ es) (sym events);
        buffers = ap (λ (core : ServiceCore S). core.buffers.items) service ∙ sym (ap (buffers_after bs) events ∙ buffers_none bs);
        taken = sym (ap (λ (es : List Event). after_told taken (trace_of (records_after bs es))) events ∙ after_told_nothing taken);
        commits = commits;
        refused = refused
            ∙ ap (λ (b : Bool). raised old.refused (one_if (cond b (is_refusal outcome) true) + 0)) (sym off);
      }
    where
      stays : new.table ≡ old.table → new.service ≡ old.service → Stands means new
      stays table service = record {
        served = record {
          serves = subst (λ (t : T). means.serves t new.service.seat) (sym table)
              (subst (λ (core : ServiceCore S). means.serves old.table core.seat) (sym service) was.served.serves);
          agrees = subst (λ (t : T). ServiceAgrees (means.setup t) (means.service_view t new.service.seat) new.service) (sym table)
              (subst (λ (core : ServiceCore S). ServiceAgrees (means.setup old.table) (means.service_view old.table core.seat) core)
              (sym service) was.served.agrees);
          reads = subst (λ (t : T). means.takes_reads t new.service.seat) (sym table)
              (subst (λ (core : ServiceCore S). means.takes_reads old.table core.seat) (sym service) was.served.reads);
        };
        opened = subst
            (λ (t : T). (place : ℕ) → place < length (means.setup t).writers → is_closed (means.setup t) new.service place ≡ false)
            (sym table)
            (subst (λ (core : ServiceCore S). (place : ℕ) → place < length (means.setup old.table).writers
            → is_closed (means.setup old.table) core place ≡ false) (sym service) was.opened);
      }

  -- ---- what the service is called with

  -- the payload has the size of its producer's chunks
  pub payload_long : FitsSetup limits (means.setup old.table) → IsCommit limits commit
      → (sizes : List ℕ) (at named : ℕ) (shown : List ℕ) → sizes ≡ limits.sizes → at ≡ commit.header.writer_id
      → named ≡ commit.header.writer_id
      → shown ≡ commit.payload ++ replicate (slice_index_or sizes (at - 1) 0 - length commit.payload) 0
      → length shown ≡ size_of (means.setup old.table) (producer_of (means.setup old.table) (named + 1 - 2))
  payload_long fits is sizes at named shown same here there filled =
      let writer : ℕ = commit.header.writer_id in
      let long = is.fits in
      let least = is.least in
      let most = is.most in
      let many = fits.many in
      let place : named + 1 - 2 ≡ writer - 1 = omega (arith, there) in
      let back : writer - 1 + 1 ≡ writer = omega (arith, least) in
      let size : slice_index_or sizes (at - 1) 0 ≡ payload_size_of limits writer =
      ap (λ (ns : List ℕ). slice_index_or ns (at - 1) 0) same ∙ ap (λ (n : ℕ). slice_index_or limits.sizes (n - 1) 0) here in
      let added : length commit.payload + (payload_size_of limits writer - length commit.payload) ≡ payload_size_of limits writer =
      omega (arith, long) in
      ap (λ (bs : List ℕ). length bs) filled
      ∙ length-append commit.payload (replicate (slice_index_or sizes (at - 1) 0 - length commit.payload) 0)
      ∙ ap (λ (n : ℕ). length commit.payload + n) (length-replicate (slice_index_or sizes (at - 1) 0 - length commit.payload) 0)
      ∙ ap (λ (n : ℕ). length commit.payload + (n - length commit.payload)) size
      ∙ added
      ∙ ap (payload_size_of limits) (sym back)
      ∙ fits.sizes (writer - 1) (omega (arith, least, most, many))
      ∙ ap (λ (p : ℕ). size_of setup (producer_of setup p)) (sym place)

  -- the image is that of the frame
  pub image_shown : (sizes : List ℕ) (at named : ℕ) (shown : List ℕ) → sizes ≡ limits.sizes → at ≡ commit.header.writer_id
      → named ≡ commit.header.writer_id
      → shown ≡ commit.payload ++ replicate (slice_index_or sizes (at - 1) 0 - length commit.payload) 0
      → ◌≡◌ {A = Image} (record {
        sequence = named + 1;
        chunk_id = commit.header.chunk_id;
        count = commit.header.count;
        flags = commit.header.flags;
        payload = shown;
      }) (image_of limits commit)
  image_shown sizes at named shown same here there filled =
      let whole : shown ≡ commit.payload ++ replicate (payload_size_of limits commit.header.writer_id - length commit.payload) 0 =
      filled ∙ ap (λ (ns : List ℕ). commit.payload ++ replicate (slice_index_or ns (at - 1) 0 - length commit.payload) 0) same
      ∙ ap (λ (n : ℕ). commit.payload ++ replicate (slice_index_or limits.sizes (n - 1) 0 - length commit.payload) 0) here in
      ap (λ (n : ℕ). record {
        sequence = n + 1;
        chunk_id = commit.header.chunk_id;
        count = commit.header.count;
        flags = commit.header.flags;
        payload = shown;
      }) there
      ∙ ap (λ (bs : List ℕ). record {
        sequence = commit.header.writer_id + 1;
        chunk_id = commit.header.chunk_id;
        count = commit.header.count;
        flags = commit.header.flags;
        payload = bs;
      }) whole

  -- what the service answers says whether the commit is refused
  refusal_is : (answer : Result declared.Arrived WrongTarget) (one : Arrived) → IsOkAnd answer (λ arrived. arrived_value arrived ≡ one)
      → is_refusal_answer answer ≡ is_refusal one
  refusal_is (Ok arrived) one is = ap is_refusal is
  refusal_is (Err wrong) one is = absurd is

  -- the call plays the frame
  pub commit_played : (answer : Result declared.Arrived WrongTarget) (refused : Bool) (place : ℕ) (image : Image) (patches : List Patch)
      → place ≡ source_of commit → image ≡ image_of limits commit → patches ≡ commit.patches
      → ServiceAgrees (means.setup old.table) (view_of means new) new.service
      → IsServiceStep means old.table old.service.seat new.table new.service.seat
      → KeepsRest (means.setup old.table) old.service new.service
      → (buffer_of (means.setup old.table) place ≢ commit.target
      → (answer ≡ Err (record { buffer = buffer_of (means.setup old.table) place })) × (new.service ≡ old.service)
      × (new.table ≡ old.table))
      → (buffer_of (means.setup old.table) place ≡ commit.target
      → IsOkAnd answer (λ arrived. arrived_value arrived ≡ image_arrival_of (buffer_at old.service.buffers.items (commit.target - 1))
      (placed_image (from_of (means.setup old.table) place) image)))
      → (buffer_of (means.setup old.table) place ≡ commit.target
      → view_of means new ≡ notes_commit (view_of means old) (record {
        image = placed_image (from_of (means.setup old.table) place) image;
        patches = placed_patches (from_of (means.setup old.table) place) patches;
      }))
      → refused ≡ is_refusal_answer answer
      → new.commits ≡ raised old.commits 1 → new.refused ≡ raised old.refused (one_if refused)
      → (taken : Intake) → Plays means limits (frames.Commits commit ∷ []) old new taken taken
  commit_played answer refused place image patches here same given agrees step keeps wrong answered noted flag commits raises taken =
      by_target (cases_eq (buffer_of setup place) commit.target)
    where
      named : buffer_of setup place ≡ buffer_of setup (source_of commit)
      named = ap (buffer_of setup) here

      is_committed : ◌≡◌ {A = Committed}
          (record { image = placed_image (from_of setup place) image; patches = placed_patches (from_of setup place) patches }) committed
      is_committed =
          ap (λ (p : ℕ). record { image = placed_image (from_of setup p) image; patches = placed_patches (from_of setup p) patches }) here
          ∙ ap (λ (i : Image). record {
            image = placed_image (from_of setup (source_of commit)) i;
            patches = placed_patches (from_of setup (source_of commit)) patches;
          }) same
          ∙ ap (λ (ps : List Patch). record {
            image = image_placed setup limits commit;
            patches = placed_patches (from_of setup (source_of commit)) ps;
          }) given

      by_target : (buffer_of setup place ≡ commit.target) ⊎ (buffer_of setup place ≡ commit.target → ⊥)
          → Plays means limits (frames.Commits commit ∷ []) old new taken taken
      by_target (inl on) =
          let one : is_refusal_answer answer ≡ is_refusal outcome =
          refusal_is answer (image_arrival_of (buffer_at old.service.buffers.items (commit.target - 1))
          (placed_image (from_of setup place) image))
          (answered on)
          ∙ ap (λ (c : Committed). is_refusal (image_arrival_of (buffer_at old.service.buffers.items (commit.target - 1)) c.image))
          is_committed in
          commit_kept agrees step keeps (sym named ∙ on) (noted on ∙ ap (notes_commit (view_of means old)) is_committed) commits
          (raises ∙ ap (λ (b : Bool). raised old.refused (one_if b)) (flag ∙ one)) taken
      by_target (inr off) =
          let none = wrong off in
          commit_refused none.2 none.1 (λ on. off (named ∙ on)) commits
          (raises ∙ ap (λ (b : Bool). raised old.refused (one_if b)) (flag ∙ ap is_refusal_answer none.0)) taken
