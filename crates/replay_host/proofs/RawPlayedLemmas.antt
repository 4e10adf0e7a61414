-- A line that commits a chunk, played: the commit is answered, and the answer is kept.
use Rattle.std.proofs.Common.{◌≡◌, ◌∙◌, ℕ, suc, ◌+◌, ◌-◌, ◌<◌, ◌≤◌, not, Some, List, [], ◌∷◌, ◌++◌, length, sym, ap, subst, arith, append-nil, vec_len}
use Rattle.std.specs.Prelude.{slice_get, slice_index, nat_lt, vec_capacity}
use Rattle.std.proofs.lemmas.List.{length-map}
use Rattle.std.proofs.lemmas.Option.{get_or_from_slice_get}
use Rattle.std.proofs.lemmas.Slice.Zip.{AllZip-long}
use Rattle.byte_io.specs.Bytes.{Intake}
use Rattle.trace_base.specs.declared.policy.WriterSpec.{WriterSpec}
use Rattle.page_geometry.specs.Sizes.{payload_size}
use Rattle.scenario_text.specs.declared.scenario.LineKind.TheVariants as line
use Rattle.scenario_text.specs.RawChunks.{AskedChunk}
use Rattle.scenario_text.specs.Reach.{CommitsChunk}
use Rattle.chunk_plain.specs.declared.setup.ProducerSpec.{ProducerSpec}
use Rattle.chunk_plain.specs.Meaning.{Meaning}
use Rattle.chunk_plain.specs.Setup.{Setup, no_writer, producer_of, size_of}
use Rattle.world_model.specs.FirstBuffers.{payload_at}
use Rattle.service_core.specs.Agreement.{spec_at}
use Rattle.loss_report.specs.declared.raws.RawAnswer.{RawAnswer}
use Rattle.replay_model.specs.Acts.{Act, CommitRaw}
use Rattle.replay_model.specs.ActNotes.{ActNote, Told}
use Rattle.replay_model.specs.Flushes.{requests_in}
use Rattle.replay_model.specs.Played.{IsSpecOf}
use Rattle.replay_model.proofs.RoomLemmas.{size_is}
use Rattle.replay_host.specs.declared.flushes.Flushes.{Flushes}
use Rattle.replay_host.specs.declared.host.Host.{Host}
use Rattle.replay_host.specs.Lines.{MOST_REQUESTS, IsGoing, IsKept, IsLinePlayed, Moment}
use Rattle.replay_host.specs.Playing.{IsHost, HasDone, LeavesWriters}
use Rattle.replay_host.specs.Raws.{MayCommit}
use Rattle.replay_host.specs.Serving.{ComesServing}
use Rattle.replay_host.specs.Tally.{IsTally}
use Rattle.replay_host.proofs.GoingLemmas.{keeps_served, going_still}
use Rattle.replay_host.proofs.LineLemmas.{closed_same, going_nothing, kept_more}
use Rattle.replay_host.proofs.MomentLemmas.{place_inside, writers_are, names_inside, producer_inside}
use Rattle.replay_host.proofs.RawLinesLemmas.{numbers_raw}
use Rattle.replay_host.proofs.ServedLineLemmas.{due_nothing, tally_still}

-- ---- what it takes to commit

module _ {T W S : Type 0} (means : Meaning T W S) (moment : Moment) (place : ℕ) (chunk : AskedChunk) (host : Host T W S)
    (kept : IsKept means moment.scenario moment.before moment.notes host)
    (commits : CommitsChunk moment.scenario.buffers moment.scenario.producers moment.scenario.writers moment.before (suc place) chunk) where
  below : place < length moment.scenario.writers
  below = names_inside moment.scenario.writers moment.before place commits.of_writer

  -- a chunk of the writer's producer is as large as its line says
  sized : payload_at (means.setup host.table) place ≡ payload_size commits.of_producer.page_size commits.of_producer.chunks
  sized =
      let spec : WriterSpec = commits.of_writer.spec in
      let here : suc place - 1 ≡ place = omega arith in
      let there : slice_get moment.scenario.writers place ≡ Some spec =
      subst (λ (n : ℕ). slice_get moment.scenario.writers n ≡ Some spec) here commits.of_writer.there in
      let named : producer_of (means.setup host.table) place ≡ spec.producer =
      ap (λ (w : WriterSpec). w.producer)
      (ap (λ (ws : List WriterSpec). spec_at ws place) (writers_are means moment.scenario moment.before moment.notes host kept)
      ∙ get_or_from_slice_get moment.scenario.writers place spec no_writer there) in
      ap (λ (p : ℕ). size_of (means.setup host.table) p) named ∙ ap (λ (s : Setup). size_of s spec.producer) kept.laid.laid
      ∙ size_is moment.scenario.producers kept.laid.specs (spec.producer - 1) commits.of_producer kept.laid.made commits.producer_is

  -- and there are as many sizes as producers
  many : length (means.setup host.table).sizes ≡ length moment.scenario.producers
  many = ap (λ (s : Setup). length s.sizes) kept.laid.laid
      ∙ length-map kept.laid.specs (λ (producer : ProducerSpec). payload_size producer.geometry.page_size producer.geometry.chunks)
      ∙ AllZip-long IsSpecOf moment.scenario.producers kept.laid.specs kept.laid.made

  pub may_commit : MayCommit (means.setup host.table) place chunk
  may_commit = record {
    below = place_inside means moment.scenario moment.before moment.notes host kept place below;
    sized =
        let inside = producer_inside means moment.scenario moment.before moment.notes host kept place below in
        let named : producer_of (means.setup host.table) place ≡ (spec_at moment.scenario.writers place).producer =
        ap (λ (ws : List WriterSpec). (spec_at ws place).producer)
        (writers_are means moment.scenario moment.before moment.notes host kept) in
        let low = inside.1 in
        let long = many in
        omega (arith, low, named, long);
    fits = subst (λ (n : ℕ). length chunk.payload ≤ n) (sym sized) commits.room;
    count = commits.count;
    flags = commits.flags;
  }

-- ---- what was played

module _ {T W S : Type 0} (means : Meaning T W S) (moment : Moment) (place : ℕ) (chunk : AskedChunk) (answer : RawAnswer)
    (old mid : Host T W S) (flushes : Flushes) (taken : Intake) where
  -- the same host with what is kept of the answer
  abbrev new : Host T W S
  new = record mid { flushes = flushes }

  host_told : IsHost means mid → IsHost means new
  host_told host = record { stands = host.stands; apart = host.apart; specs = host.specs; producers = host.producers; opened = host.opened }

  pub raw_played : moment.line.what ≡ line.Raw (suc place) chunk → ComesServing means moment (CommitRaw place chunk ∷ []) old
      → IsHost means mid → LeavesWriters means old mid → mid.open_producers ≡ old.open_producers
      → mid.helper.service.session ≡ old.helper.service.session
      → HasDone means (CommitRaw place chunk ∷ []) (Told answer ∷ []) old taken mid taken
      → ((notes : List ActNote) (writers : ℕ) → IsTally notes writers mid.flushes → IsTally (notes ++ Told answer ∷ []) writers flushes)
      → flushes.made ≡ mid.flushes.made → flushes.answered ≡ mid.flushes.answered → flushes.chunks ≡ mid.flushes.chunks
      → vec_len flushes.answers ≡ vec_len mid.flushes.answers + 1 → vec_capacity mid.flushes.answers ≤ vec_capacity flushes.answers
      → IsLinePlayed means moment old taken (record mid { flushes = flushes }) taken
  raw_played what comes host leaves opened session done tally made answered chunks more room =
      let scenario = moment.scenario in
      let before = moment.before in
      let keeps = keeps_served means old mid leaves done.setup_is done.first opened session in
      let still = tally_still old mid moment.notes (length scenario.writers) leaves.flushes comes.next.at.going.kept.tally in
      let going =
      going_still means scenario before (moment.line ∷ moment.rest) moment.notes [] old mid comes.next.at.going host keeps still in
      let same : moment.notes ++ [] ≡ moment.notes = append-nil moment.notes in
      let served : IsGoing means scenario (before ++ moment.line ∷ []) moment.rest moment.notes mid =
      subst (λ (ns : List ActNote). IsGoing means scenario (before ++ moment.line ∷ []) moment.rest ns mid) same
      (going_nothing means scenario before moment.line moment.rest (moment.notes ++ []) mid comes.wants
      (kept_more means scenario before moment.line (moment.notes ++ []) mid comes.closes_none going.kept) going) in
      let one = ap (λ (ns : List ℕ). length ns) (numbers_raw moment.line moment.rest (suc place) chunk what) in
      let was = going.told_room in
      record {
        later = Told answer ∷ [];
        at = record {
          going = record {
            kept = record {
              is_host = host_told host;
              laid = served.kept.laid;
              first = served.kept.first;
              few_producers = served.kept.few_producers;
              flags = served.kept.flags;
              tally = tally moment.notes (length scenario.writers) served.kept.tally;
            };
            wrote = served.wrote;
            ready = served.ready;
            room = ap (λ (n : ℕ). n + requests_in moment.rest) made ∙ served.room ∙ ap (λ (v : _). vec_len v) (sym chunks);
            few = subst (λ (v : _). vec_len v < MOST_REQUESTS) (sym chunks) served.few;
            told_room = omega (arith, one, was, more, room);
            started = served.started;
            requests = served.requests ∙ sym made;
          };
          due = λ other inside is.
              ap (λ (v : _). nat_lt (slice_index v.items other) flushes.made) answered
              ∙ ap (λ (n : ℕ). nat_lt (slice_index mid.flushes.answered.items other) n) made
              ∙ ap (λ (f : _). nat_lt (slice_index f.answered.items other) f.made) leaves.flushes
              ∙ comes.next.at.due other inside
              (ap not (sym (closed_same (spec_at scenario.writers other).producer before moment.line
              (comes.closes_none (spec_at scenario.writers other).producer))) ∙ is)
              ∙ sym (due_nothing (suc other) before moment.line comes.wants);
        };
        done = subst (λ (acts : List Act). HasDone means acts (Told answer ∷ []) old taken new taken) (sym comes.acts_are)
            (record { setup_is = done.setup_is; first = done.first; plays = done.plays; writes = done.writes });
      }
