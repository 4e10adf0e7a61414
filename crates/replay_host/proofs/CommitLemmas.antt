-- The commit of a chunk is one act of the service.
use Rattle.std.proofs.Common.{◌≡◌, ◌≢◌, ◌∙◌, ℕ, ◌-◌, ◌<◌, Bool, false, cond, Option, Some, None, Result, Ok, Err, inl, inr, List, [], ◌∷◌, ◌++◌, length, map, replicate, get_or, refl, sym, ap, subst, arith}
use Rattle.std.specs.Prelude.{MatchOption}
use Rattle.std.proofs.lemmas.Bool.{cases_eq, eq-eqb, ne_eqb}
use Rattle.std.proofs.lemmas.List.{get_or_read}
use Rattle.byte_io.specs.Bytes.{Intake}
use Rattle.trace_base.specs.declared.policy.WriterSpec.{WriterSpec}
use Rattle.commit_body.specs.declared.body.Patch.{Patch}
use Rattle.commit_body.specs.Patches.{patch_value}
use Rattle.trace_model.specs.Arrivals.{image_arrival_of}
use Rattle.trace_model.specs.Buffers.{Buffer}
use Rattle.trace_model.specs.History.{buffers_after, records_after}
use Rattle.trace_model.specs.Images as model
use Rattle.trace_model.specs.Images.{Image}
use Rattle.trace_model.specs.Ids.{placed_image, placed_patches}
use Rattle.scenario_text.specs.RawChunks.{AskedChunk}
use Rattle.chunk_plain.specs.Histories.{history_of}
use Rattle.chunk_plain.specs.Meaning.{Meaning, IsServiceStep}
use Rattle.chunk_plain.specs.Setup.{Setup, from_of, producer_of, sequence_of, no_writer}
use Rattle.chunk_plain.specs.Steps.{notes_commit, serviced}
use Rattle.chunk_plain.specs.Views.{Commit, Committed, ServiceView}
use Rattle.chunk_plain.specs.World.{World}
use Rattle.trace_buffer.specs.declared.answers.Arrived.{Arrived}
use Rattle.world_model.specs.FirstBuffers.{payload_at}
use Rattle.service_core.specs.declared.committing.WrongTarget.{WrongTarget}
use Rattle.service_core.specs.declared.service.ServiceCore.{ServiceCore}
use Rattle.service_core.specs.Agreement.{KeepsRest, buffer_of, first_of}
use Rattle.service_core.specs.Routing.{buffer_at}
use Rattle.service_core.proofs.AgreeLemmas.{first_stays}
use Rattle.service_core.proofs.CloseLemmas.{committed_grows}
use Rattle.service_core.proofs.QuietLemmas.{Adds, adds_quiet}
use Rattle.loss_report.specs.declared.raws.RawAnswer.{RawAnswer}
use Rattle.loss_report.specs.declared.raws.RawAnswer.TheVariants as raw
use Rattle.loss_report.specs.Raws.{answer_of}
use Rattle.replay_model.specs.Acts.{CommitRaw}
use Rattle.replay_model.specs.ActNotes.{Told}
use Rattle.replay_model.specs.Does.{Commits, is_shut}
use Rattle.replay_model.specs.Plays.{Plays}
use Rattle.replay_model.specs.Raws.{raw_answer, raw_commit, raw_image, raw_patches}
use Rattle.replay_model.proofs.PlayLemmas.{plays_one}
use Rattle.replay_host.specs.declared.host.Host.{Host}
use Rattle.replay_host.specs.Playing.{HasDone, IsTraceOf}
use Rattle.replay_host.specs.Standing.{IsServed}
use Rattle.replay_host.proofs.RowLemmas.{AreLaws}
use Rattle.replay_host.proofs.ServedLemmas.{quiet_writes}

-- a commit writes no record
commit_adds : (view : ServiceView) (committed : Committed) → Adds view (notes_commit view committed)
commit_adds view committed = record {
  grows = committed_grows view committed;
  notes = Commit (length view.commits) ∷ [];
  events = refl;
  silent = tt;
}

-- what is committed of the writer at this place, by the number of its sequence
pub commit_is : (setup : Setup) (place sequence : ℕ) (chunk : AskedChunk) (image : Image) (patches : List model.Patch) → sequence ≡ place
    → image ≡ raw_image setup place chunk → patches ≡ raw_patches chunk.patch
    → ◌≡◌ {A = Committed}
    (record { image = placed_image (from_of setup sequence) image; patches = placed_patches (from_of setup sequence) patches })
    (raw_commit setup place chunk)
commit_is setup place sequence chunk image patches here same given =
    ap (λ (p : ℕ). record { image = placed_image (from_of setup p) image; patches = placed_patches (from_of setup p) patches }) here
    ∙ ap (λ (i : Image). record { image = placed_image (from_of setup place) i; patches = placed_patches (from_of setup place) patches })
    same
    ∙ ap (λ (ps : List model.Patch). record {
      image = placed_image (from_of setup place) (raw_image setup place chunk);
      patches = placed_patches (from_of setup place) ps;
    }) given

module _ {T W S : Type 0} (means : Meaning T W S) (laws : AreLaws means) (place : ℕ) (chunk : AskedChunk) (old new : Host T W S)
    (served : IsServed means old.table old.helper.service)
    (open_now : is_shut (sequence_of place) (means.service_view old.table old.helper.service.seat).events ≡ false) where
  abbrev setup : Setup
  setup = means.setup old.table

  abbrev buffers : List Buffer
  buffers = first_of (means.setup old.table) old.helper.service

  abbrev before : ServiceView
  before = means.service_view old.table old.helper.service.seat

  abbrev after : ServiceView
  after = means.service_view new.table new.helper.service.seat

  -- what the service has open no note of the world has shut
  open_in : (was : World) → means.told old.table ≡ Some was → is_shut (sequence_of place) was.service.events ≡ false
  open_in was told =
      subst (λ (v : ServiceView). is_shut (sequence_of place) v.events ≡ false)
      (laws.told_service_view old.table old.helper.service.seat was told served.serves) open_now

  -- the answer is that of the world's buffer
  answer_here : (was : World) → means.told old.table ≡ Some was → buffer_of setup place ≡ chunk.buffer
      → answer_of (image_arrival_of (buffer_at old.helper.service.buffers.items (chunk.buffer - 1)) (raw_commit setup place chunk).image)
      ≡ raw_answer setup buffers place chunk was
  answer_here was told target =
      let image : Image = (raw_commit setup place chunk).image in
      let given : List Buffer → RawAnswer = λ bs. answer_of (image_arrival_of (buffer_at bs (chunk.buffer - 1)) image) in
      ap given served.agrees.buffers
      ∙ ap (λ (v : ServiceView). given (buffers_after buffers (history_of v)))
      (laws.told_service_view old.table old.helper.service.seat was told served.serves)
      ∙ ap (λ (b : Bool). cond b (given (buffers_after buffers (history_of was.service))) (raw.WrongTarget (buffer_of setup place)))
      (sym (eq-eqb (buffer_of setup place) chunk.buffer target))

  -- or that the chunk is for another buffer
  answer_elsewhere : (was : World) → buffer_of setup place ≢ chunk.buffer
      → raw.WrongTarget (buffer_of setup place) ≡ raw_answer setup buffers place chunk was
  answer_elsewhere was target =
      ap (λ (b : Bool). cond b
      (answer_of (image_arrival_of (buffer_at (buffers_after buffers (history_of was.service)) (chunk.buffer - 1))
      (raw_commit setup place chunk).image))
      (raw.WrongTarget (buffer_of setup place)))
      (sym (ne_eqb (buffer_of setup place) chunk.buffer target))

  -- where the chunk is for the buffer of the writer's sequence it is noted
  pub committed_done : IsServiceStep means old.table old.helper.service.seat new.table new.helper.service.seat
      → KeepsRest (means.setup old.table) old.helper.service new.helper.service
      → buffer_of (means.setup old.table) place ≡ chunk.buffer
      → means.service_view new.table new.helper.service.seat
      ≡ notes_commit (means.service_view old.table old.helper.service.seat) (raw_commit (means.setup old.table) place chunk)
      → ((was : World) → means.told old.table ≡ Some was
      → means.told new.table ≡ Some (serviced was (means.service_view new.table new.helper.service.seat)))
      → (answer : RawAnswer)
      → answer
      ≡ answer_of (image_arrival_of (buffer_at old.helper.service.buffers.items (chunk.buffer - 1))
      (raw_commit (means.setup old.table) place chunk).image)
      → (taken : Intake) → HasDone means (CommitRaw place chunk ∷ []) (Told answer ∷ []) old taken new taken
  committed_done step keeps target noted told answer is taken = record {
    setup_is = step.setup_stays;
    first = first_stays setup old.helper.service new.helper.service keeps.fields;
    plays = λ was told_was.
        let now : World = serviced was after in
        let view_was = laws.told_service_view old.table old.helper.service.seat was told_was served.serves in
        let does : Commits setup place chunk was now = record {
          opened = open_in was told_was;
          writers = refl;
          notes = noted ∙ ap (λ (v : ServiceView). notes_commit v (raw_commit setup place chunk)) view_was
              ∙ ap (λ (b : Bool). cond b (notes_commit was.service (raw_commit setup place chunk)) was.service)
              (sym (eq-eqb (buffer_of setup place) chunk.buffer target));
        } in (
          now,
          told was told_was,
          subst (λ (given : RawAnswer). Plays setup buffers (CommitRaw place chunk ∷ []) was now (Told given ∷ []))
              (sym (is ∙ answer_here was told_was target))
              (plays_one setup buffers (CommitRaw place chunk) was now does (laws.told_owned new.table now (told was told_was))),
        );
    writes = λ start so. quiet_writes start taken buffers before after
        (ap (λ (v : ServiceView). records_after buffers (history_of v)) noted
        ∙ adds_quiet buffers before (notes_commit before (raw_commit setup place chunk)) served.agrees.known
        (commit_adds before (raw_commit setup place chunk))) so;
  }

  -- and where it isn't nothing is changed
  pub refused_done : new.table ≡ old.table → new.helper.service ≡ old.helper.service
      → buffer_of (means.setup old.table) place ≢ chunk.buffer
      → (answer : RawAnswer) → answer ≡ raw.WrongTarget (buffer_of (means.setup old.table) place)
      → (taken : Intake) → HasDone means (CommitRaw place chunk ∷ []) (Told answer ∷ []) old taken new taken
  refused_done table service target answer is taken = record {
    setup_is = ap means.setup table;
    first = ap (λ (core : ServiceCore S). first_of setup core) service;
    plays = λ was told_was.
        let does : Commits setup place chunk was was = record {
          opened = open_in was told_was;
          writers = refl;
          notes = ap (λ (b : Bool). cond b (notes_commit was.service (raw_commit setup place chunk)) was.service)
              (sym (ne_eqb (buffer_of setup place) chunk.buffer target));
        } in (
          was,
          ap means.told table ∙ told_was,
          subst (λ (given : RawAnswer). Plays setup buffers (CommitRaw place chunk ∷ []) was was (Told given ∷ []))
              (sym (is ∙ answer_elsewhere was target))
              (plays_one setup buffers (CommitRaw place chunk) was was does (laws.told_owned old.table was told_was)),
        );
    writes = λ start so.
        subst (λ (t : T). IsTraceOf start buffers (means.service_view t new.helper.service.seat) taken) (sym table)
        (subst (λ (core : ServiceCore S). IsTraceOf start buffers (means.service_view old.table core.seat) taken) (sym service) so);
  }

-- ---- what is committed for a line

-- the producer of the writer at this place, as its specification is read
pub named_producer : (setup : Setup) (specs : List WriterSpec) (place : ℕ) (read : WriterSpec) → specs ≡ setup.writers
    → place < length setup.writers → read ≡ get_or specs place read → read.producer ≡ producer_of setup place
named_producer setup specs place read same below is =
    let long = ap (λ (ws : List WriterSpec). length ws) same in
    ap (λ (w : WriterSpec). w.producer)
    (get_or_read specs place read (omega (arith, below, long)) is no_writer ∙ ap (λ (ws : List WriterSpec). get_or ws place no_writer) same)

-- an image with these values is that of the line
pub image_is : (setup : Setup) (place : ℕ) (chunk : AskedChunk) (sequence id count flags : ℕ) (payload : List ℕ)
    → sequence ≡ sequence_of place → id ≡ chunk.chunk_id → count ≡ chunk.count → flags ≡ chunk.flags
    → payload ≡ chunk.payload ++ replicate (payload_at setup place - length chunk.payload) 0
    → ◌≡◌ {A = Image} (record { sequence = sequence; chunk_id = id; count = count; flags = flags; payload = payload })
    (raw_image setup place chunk)
image_is setup place chunk sequence id count flags payload same_sequence same_id same_count same_flags same_payload = cc

-- the patches are that of the line, or none
pub patches_are : (given : Option Patch) (patches : List Patch) (asked : List model.Patch)
    → MatchOption given (asked ≡ []) (λ patch. asked ≡ patch_value patch ∷ [])
    → MatchOption given (patches ≡ []) (λ patch. patches ≡ patch ∷ []) → map patch_value patches ≡ asked
patches_are None patches asked none is = ap (λ (ps : List Patch). map patch_value ps) is ∙ sym none
patches_are (Some patch) patches asked one is = ap (λ (ps : List Patch). map patch_value ps) is ∙ sym one

-- the buffer that is named where it isn't
pub buffer_named : (own : ℕ) (answer : Result Arrived WrongTarget) (fault : WrongTarget) → answer ≡ Err fault
    → answer ≡ Err (record { buffer = own }) → fault.buffer ≡ own
buffer_named own answer fault is wrong = let same : fault ≡ record { buffer = own } = cc in ap (λ (w : WrongTarget). w.buffer) same

-- where a commit is answered it is for the buffer of its sequence
pub target_is : (own target : ℕ) (answer : Result Arrived WrongTarget) (arrived : Arrived) → answer ≡ Ok arrived
    → (own ≢ target → answer ≡ Err (record { buffer = own })) → own ≡ target
target_is own target answer arrived ok wrong = elim (cases_eq own target) [
  | inl same ↦ same
  | inr apart ↦ absurd (let other = sym ok ∙ wrong apart in cc)
]
