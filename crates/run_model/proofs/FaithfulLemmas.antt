-- Every run is faithful, whole or up to a write that failed.
use Rattle.std.proofs.Common.{◌≡◌, ◌∙◌, ℕ, zero, suc, ◌+◌, ◌<◌, ◌≤◌, inl, inr, Bool, false, All, List, [], ◌∷◌, ◌++◌, length, Some, refl, sym, ap, subst, arith, append_assoc, append-nil}
use Rattle.std.specs.Prelude.{slice_get}
use Rattle.trace_base.specs.declared.policy.WriterSpec.{WriterSpec}
use Rattle.trace_model.specs.Counts.{last_count}
use Rattle.trace_model.specs.Cut.{newest_goes_on}
use Rattle.trace_model.specs.Delivery.{Delivered, IsFaithful, records_of}
use Rattle.trace_model.specs.History.{Event, Read, buffers_after, records_after, records_at}
use Rattle.trace_model.specs.Images.{Image}
use Rattle.trace_model.specs.Packets.{emissions_of, packets_of}
use Rattle.trace_model.specs.Tells.{Tells}
use Rattle.delivery_laws.specs.Orders.{InOrder}
use Rattle.delivery_laws.specs.WriterSheets.{sheets_of}
use Rattle.delivery_laws.proofs.LimitLemmas.{read_further}
use Rattle.chunk_plain.specs.Setup.{Setup}
use Rattle.chunk_plain.specs.Views.{At, BegunChunk, Held, Completed, Content, Draft}
use Rattle.chunk_plain.specs.World.{World, writer}
use Rattle.chunk_plain.specs.Histories.{completed_images, history_of}
use Rattle.chunk_plain.specs.Owned.{held_count}
use Rattle.world_model.specs.Accounts.{all_images, HasCut}
use Rattle.world_model.proofs.FaithfulLemmas.{order_events, told_by}
use Rattle.world_model.proofs.MakingLemmas.{once_or_none, only_writers}
use Rattle.world_model.proofs.ProjectLemmas.{all_mine, next_written}
use Rattle.scenario_text.specs.declared.scenario.LineKind.{LineKind}
use Rattle.scenario_text.specs.declared.scenario.LineKind.TheVariants as line
use Rattle.scenario_text.specs.declared.scenario.NumberedLine.{NumberedLine}
use Rattle.scenario_text.specs.Scenario.{Parts}
use Rattle.scenario_text.specs.Accepted.{calls_asked}
use Rattle.scenario_text.specs.Emissions.{emitted_from, emitted_in}
use Rattle.trace_writer.specs.declared.state.Writer.{Writer}
use Rattle.trace_writer.specs.Outcomes.{held_images, held_patches}
use Rattle.trace_writer.proofs.accounts.CutLaws.{agreeing_is_cut}
use Rattle.service_core.specs.OrderLaws.{HasImages}
use Rattle.service_core.proofs.ReadingLemmas.{records_append}
use Rattle.thread_service.specs.Reading.{GoesUnread}
use Rattle.thread_service.proofs.GoingOn.{same_records}
use Rattle.replay_model.specs.Played.{buffer_specs, buffers_of, records_in}
use Rattle.replay_model.proofs.CompleteLemmas.{emitted_at}
use Rattle.replay_model.proofs.OwnedLemmas.{named, learnt, finds, in_order}
use Rattle.replay_model.proofs.PlayedLemmas.{setup_writers}
use Rattle.run_model.specs.Laws.{EveryRunIsFaithful, EveryStoppedRunIsFaithful}
use Rattle.run_model.specs.Reads.{ReadsUpTo}
use Rattle.run_model.specs.Settled.{HasDoneAll}
use Rattle.run_model.proofs.RunLemmas.{there, within, shape}

-- ---- what the lines have each writer emit

emitted_long : (lines : List NumberedLine) (first : ℕ) (specs : List WriterSpec) → length (emitted_from lines first specs) ≡ length specs
emitted_long lines first [] = refl
emitted_long lines first (spec ∷ specs) = ap suc (emitted_long lines (suc first) specs)

-- ---- what a writer wrote that holds no chunk

completed_at : (begun : List BegunChunk) (held : List Image) → held_count begun ≡ 0 → (id chunk : ℕ) (content : Content) → At begun id (Completed chunk content)
    → slice_get (completed_images begun ++ held) id ≡ Some content.image
completed_at [] held none id chunk content at = absurd (cc)
completed_at (Held other draft ∷ begun) held none id chunk content at = absurd (omega (arith, none))
completed_at (Completed other one ∷ begun) held none zero chunk content at = let same : one ≡ content = cc in ap (λ (c : Content). Some c.image) same
completed_at (Completed other one ∷ begun) held none (suc id) chunk content at = completed_at begun held none id chunk content at

held_never : (begun : List BegunChunk) → held_count begun ≡ 0 → (id chunk : ℕ) (draft : Draft) → At begun id (Held chunk draft) → ⊥
held_never [] none id chunk draft at = cc
held_never (Held other one ∷ begun) none id chunk draft at = omega (arith, none)
held_never (Completed other content ∷ begun) none zero chunk draft at = cc
held_never (Completed other content ∷ begun) none (suc id) chunk draft at = held_never begun none id chunk draft at

-- ---- the law

module _ (scenario : Parts) (setup : Setup) (world : World) (closed : Bool) (done : HasDoneAll scenario setup world closed) where
  -- The cut is one into payloads of the size that the writer knows: that it is the one which the set-up says wants a chunk of its producer.
  module _ (place : ℕ) (inside : place < length setup.writers) where
    abbrev own : Writer
    own = (done.writers place inside).between.writer

    cut : HasCut own.route.payload_size place (writer world place) (held_images place own.state)
    cut =
        let agrees = (done.writers place inside).between.agrees in
        let most = agrees.writes.route.most in
        let found = agreeing_is_cut setup place (writer world place) own agrees in
        record { unsent = held_patches own.pending own.state; cut = found.cut; ends = found.ends; possible = agrees.possible; small = omega (arith, most) }

    has_images : HasImages (writer world place) (all_images (writer world place) (held_images place own.state))
    has_images =
        let none = (done.writers place inside).none_held in
        record {
          completed = λ id chunk content at. completed_at (writer world place).begun (held_images place own.state) none id chunk content at;
          held = λ id chunk draft at. absurd (held_never (writer world place).begun none id chunk draft at);
        }

  -- the chunks of each writer come in order in these events
  abbrev ComeInOrder : List Event → Type 0
  ComeInOrder events = (place : ℕ) (inside : place < length setup.writers)
      → InOrder (sheets_of (newest_goes_on (packets_of (writer world place).calls)) (cut place inside).cut.pages) (place + 2) 0 false [] events

  come_in_order : ComeInOrder (history_of world.service)
  come_in_order place inside =
      order_events (own place inside).route.payload_size place (writer world place) (held_images place (own place inside).state) (cut place inside) world.service
      (learnt world done.owned place) (named world done.owned place) (finds world done.owned place) world.service.events 0 false []
      (in_order world done.owned place (all_images (writer world place) (held_images place (own place inside).state)) (has_images place inside) _ (done.order place inside) refl)

  -- so the records that such events write are faithful
  module _ (events : List Event) (order : ComeInOrder events) where
    abbrev records : List Delivered
    records = records_after (buffers_of scenario setup) events

    known : All (λ (d : Delivered). (2 ≤ d.sequence) × (d.sequence < length (emitted_in scenario) + 2)) records
    known =
        let writers = ap (λ (specs : List WriterSpec). length specs) (setup_writers scenario setup done.setup_is) in
        let long = emitted_long scenario.lines 1 scenario.writers in
        let many : length setup.writers ≡ length (emitted_in scenario) = omega (arith, writers, long) in
        subst (λ (n : ℕ). All (λ (d : Delivered). (2 ≤ d.sequence) × (d.sequence < n + 2)) records) many
        (all_mine (λ s. (2 ≤ s) × (s < length setup.writers + 2)) events (buffers_of scenario setup) (only_writers setup 1 (buffer_specs scenario)))

    told : (place : ℕ) (packets : List (List ℕ)) → slice_get (emitted_in scenario) place ≡ Some packets
        → Tells packets (place + 2) (records_of (place + 2) records)
    told place packets get =
        let one = emitted_at scenario.lines 1 scenario.writers place packets get in
        let inside = within scenario setup world closed done place one.spec one.get in
        let at : suc place ≡ 1 + place = omega arith in
        let same : emissions_of (writer world place).calls ≡ packets =
        (shape scenario setup world closed done place inside).emitted ∙ ap (λ (n : ℕ). emissions_of (calls_asked n scenario.lines)) at ∙ sym one.is in
        subst (λ (ps : List (List ℕ)). Tells ps (place + 2) (records_of (place + 2) records)) same
        (told_by (own place inside).route.payload_size place (writer world place) (held_images place (own place inside).state) (cut place inside) world.service
        (learnt world done.owned place) (named world done.owned place) (finds world done.owned place)
        setup (buffer_specs scenario) one.spec (there scenario setup world closed done place one.spec one.get) events (order place inside))

    faithful : IsFaithful (emitted_in scenario) records
    faithful = record { known = known; told = told }

  -- Where the reads ended before a record, it is the one that a read of one packet more would have written: so it is faithful too.
  module _ (kind : LineKind) (here stopped : List Event) (next : Delivered) (reads : ReadsUpTo setup (buffers_of scenario setup) kind here stopped next)
      (goes : GoesUnread stopped (history_of world.service)) where
    abbrev early : List Event
    early = here ++ reads.firsts

    abbrev further : List Event
    further = (here ++ reads.firsts) ++ Read reads.sequence (suc reads.count) ∷ []

    history_is : history_of world.service ≡ (here ++ reads.firsts) ++ Read reads.sequence reads.count ∷ goes.others
    history_is =
        goes.goes
        ∙ ap (λ (es : List Event). es ++ goes.others) (reads.history ∙ sym (append_assoc here reads.firsts (Read reads.sequence reads.count ∷ [])))
        ∙ append_assoc (here ++ reads.firsts) (Read reads.sequence reads.count ∷ []) goes.others

    in_order_further : ComeInOrder further
    in_order_further place inside =
        let sheets = sheets_of (newest_goes_on (packets_of (writer world place).calls)) (cut place inside).cut.pages in
        read_further sheets (place + 2) reads.sequence reads.count (suc reads.count) goes.others early 0 false []
        (subst (λ (es : List Event). InOrder sheets (place + 2) 0 false [] es) history_is (come_in_order place inside))

    records_are : records_after (buffers_of scenario setup) further ≡ records_in scenario setup world ++ next ∷ []
    records_are =
        let buffers = buffers_of scenario setup in
        let before = records_after buffers early in
        let last : ℕ → Event = Read reads.sequence in
        let later = buffers_after buffers early in
        let some = records_at later (last reads.count) in
        let written : records_in scenario setup world ≡ before ++ some =
        same_records buffers stopped (history_of world.service) goes
        ∙ ap (records_after buffers) (reads.history ∙ sym (append_assoc here reads.firsts (last reads.count ∷ [])))
        ∙ records_append buffers early (last reads.count ∷ [])
        ∙ ap (λ (ds : List Delivered). before ++ ds) (append-nil some) in
        records_append buffers early (last (suc reads.count) ∷ [])
        ∙ ap (λ (ds : List Delivered). before ++ ds)
        (append-nil (records_at later (last (suc reads.count)))
        ∙ next_written reads.sequence reads.count reads.left early buffers next reads.later (once_or_none setup (buffer_specs scenario) reads.sequence) reads.due reads.many)
        ∙ sym (append_assoc before some (next ∷ []))
        ∙ ap (λ (ds : List Delivered). ds ++ next ∷ []) (sym written)

    next_is_faithful : IsFaithful (emitted_in scenario) (records_in scenario setup world ++ next ∷ [])
    next_is_faithful = subst (IsFaithful (emitted_in scenario)) records_are (faithful further in_order_further)

pub every_run_is_faithful : EveryRunIsFaithful
every_run_is_faithful scenario setup world run =
    let done = run.before.done in faithful scenario setup world _ done (history_of world.service) (come_in_order scenario setup world _ done)

pub every_stopped_run_is_faithful : EveryStoppedRunIsFaithful
every_stopped_run_is_faithful scenario setup world next (inl lines) =
    let reads = lines.reads in next_is_faithful scenario setup world _ lines.done reads.line.what reads.here lines.stopped next reads.ends lines.goes
every_stopped_run_is_faithful scenario setup world next (inr ends) =
    let reads = ends.reads in
    next_is_faithful scenario setup world _ ends.before.done (line.Read (suc reads.read) last_count) (history_of reads.between) (history_of world.service) next reads.ends
    (record { others = []; goes = sym (append-nil (history_of world.service)); unread = refl })
