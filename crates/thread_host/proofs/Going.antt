-- What a call makes of a writer that goes on: it never stalls, and what it has noted is what was asked of it.
use Rattle.std.proofs.Common.{◌≡◌, ◌∙◌, ◌⊎◌, inl, inr, ℕ, suc, ◌+◌, ◌*◌, ◌≤◌, Bool, true, false, List, [], ◌∷◌, ◌++◌, length, map, refl, sym, ap, subst, append-nil, append_assoc}
use Rattle.std.proofs.lemmas.Bool.{true≢false}
use Rattle.std.specs.Borrow.{Bor}
use Rattle.atomic_table.specs.Seated.{TableId}
use Rattle.trace_base.specs.declared.policy.WriterPolicy.{WriterPolicy}
use Rattle.trace_base.specs.declared.policy.WriterPolicy.TheVariants.{Drops, Stalls, StallsThenDrops}
use Rattle.trace_base.specs.declared.policy.WriterSpec.{WriterSpec}
use Rattle.trace_model.specs.Calls.{Call, Begun, Number, Bytes, Nested, Ended, GivenUp, Finished, Flushed}
use Rattle.trace_model.specs.Encoding.{number_field, bytes_field}
use Rattle.trace_model.specs.Packets.{Packet, packets_of, account_of, with_more, with_nested, lost_count}
use Rattle.field_tree.specs.Nodes.{Shown}
use Rattle.scenario_text.specs.Accepted.{Accepts, node_call}
use Rattle.chunk_plain.specs.declared.setup.ChunkRange.{ChunkRange}
use Rattle.chunk_plain.specs.Setup.{Setup, HasProducer, producer_of, range_of}
use Rattle.chunk_plain.specs.Owned.{won_chunks}
use Rattle.chunk_plain.specs.Views.{Letters, WriterView, chunk_of}
use Rattle.chunk_words.specs.declared.host.HostTable.{HostTable}
use Rattle.chunk_words.specs.declared.shared.Shared.{Shared}
use Rattle.chunk_words.specs.declared.seats.WriterSeat.{WriterSeat}
use Rattle.chunk_words.specs.contracts.shared.SharedWords.TheImpl.{ghosts as shared}
use Rattle.chunk_words.specs.Sits.{setup_in, known_by}
use Rattle.world_model.specs.FirstBuffers.{payload_at}
use Rattle.claim_arbiter.specs.Claiming.{range_in}
use Rattle.trace_writer.specs.declared.writer.WriterCore.{WriterCore}
use Rattle.trace_writer.specs.Asked.{begun_as, noted_as}
use Rattle.trace_writer.specs.Core.{CoreAgrees, WriterAgrees, route_of}
use Rattle.trace_writer.specs.Helping.{LeavesWriters, Works, Done, Silent, Gets, Helped, Refused, Lost, Tried, GivesUp, loses, rounds_for}
use Rattle.trace_writer.specs.Losing.{LosesBehind}
use Rattle.trace_writer.proofs.accounts.Possible.{begin_loses, field_loses, more_keeps, nested_keeps, ended_loses, finished_loses, flushed_loses}
use Rattle.service_core.specs.Agreement.{spec_at}
use Rattle.schedule_laws.specs.Resting.{IsBetweenCalls}
use Rattle.replay_model.specs.Does.{asks_for}
use Rattle.replay_host.specs.Asking.{IsReadyFor, IsCalled, IsStalledCall}
use Rattle.trace_writer.specs.Answered.{KeepsCompleted}
use Rattle.trace_writer.proofs.holding.Answering.{works_keep_completed}
use Rattle.replay_host.proofs.AskedLemmas.{route_is}
use Rattle.replay_host.proofs.FieldLemmas.{calls_before}
use Rattle.replay_host.proofs.ReadyLemmas.{NotesFor, loses_more, ready_behind, notes_begun, notes_number, notes_bytes, notes_nested}
use Rattle.replay_host.proofs.WroteLemmas.{size_is}
use Rattle.run_model.specs.Answered.{answered_out}
use Rattle.run_model.specs.Collected.{asks_help}
use Rattle.run_model.specs.Vain.{GoesOnInTurn, EndsInVain}
use Rattle.run_model.proofs.AnsweredLemmas.{out_noted}
use Rattle.run_model.proofs.InTurnLemmas.{in_turn_behind}
use Rattle.thread_writer.specs.declared.helper.Asks.{Asks}
use Rattle.thread_writer.specs.declared.writer.TraceWriter.{TraceWriter}
use Rattle.thread_writer.specs.Asking.{MayAsk, IsHelp}
use Rattle.chunk_words.specs.Named.{identity_of}
use Rattle.thread_writer.specs.Lent.{lent}
use Rattle.thread_writer.specs.Writing.{core_of, view_in, Writes}
use Rattle.thread_writer.proofs.Calls.{Stays, writes_back}
use Rattle.thread_writer.proofs.Identity.{works_stay}
use Rattle.thread_host.specs.Playing.{HelpsLosses, NeverRefuses, IsGoing, WasAsked, lost_in}
use Rattle.thread_host.proofs.Doing.{done_more, call_done}
use Rattle.thread_host.proofs.Helped.{begun_most, enough_by, works_help, written_most}
use Rattle.thread_host.proofs.InVain.{AsksOn, works_ask, ends_behind, goes_by, vain_on}

-- ---- a helper that never refuses

-- what a writer of this policy does with such a helper never ends since no chunk came free
works_on : {H : Type 0} (helps : H → ℕ → Bool → H → Type 0) (producer : ℕ) {policy : WriterPolicy} {silent last gets vain out : Shared → WriterSeat → Shared → WriterSeat → Type 0}
    {helper left : Asks H} {old new : Shared} {seat after : WriterSeat} {stopped : Bool}
    → NeverRefuses helps policy → policy ≡ Stalls
    → Works policy silent last gets vain out
    (λ asks table answer behind freed. IsHelp helps asks table producer answer behind freed × LeavesWriters shared.means table freed)
    helper old seat stopped left new after
    → stopped ≡ false
works_on helps producer never stalls (Done helper old seat new after last) = refl
works_on helps producer never stalls (Silent helper old seat next moved stopped left new after silent more) = works_on helps producer never stalls more
works_on helps producer never stalls (Gets helper old seat next moved stopped left new after gets more) = works_on helps producer never stalls more
works_on helps producer never stalls (Helped helper old seat asking asker helped freed stopped left new after waits out helped_it more) =
    works_on helps producer never stalls more
works_on helps producer never stalls (Refused helper old seat asking asker left kept new after waits out helped_it last) =
    absurd (never (ap asks_help stalls) helper.help producer left.help helped_it.0.1)
works_on helps producer never stalls (Lost helper old seat mid between new after drops out last) =
    absurd (let wrong : Drops ≡ Stalls = sym drops ∙ stalls in cc)
works_on helps producer never stalls (Tried helper old seat tries kept next moved stopped left new after trying tried more) = works_on helps producer never stalls more
works_on helps producer never stalls (GivesUp helper old seat tries left mid between new after trying tried last) =
    absurd (let wrong : StallsThenDrops tries ≡ Stalls = sym trying ∙ stalls in cc)

-- ---- what is noted

-- a call is noted for what was asked
notes_for : (packets : List Packet) (stopped : Bool) (policy : WriterPolicy) (call : Call) → Accepts packets call → (stopped ≡ true → loses policy ≡ true)
    → NotesFor call (noted_as stopped policy call)
notes_for packets stopped policy (Begun kept) accepts drops = subst (λ (k : Bool). NotesFor (Begun k) (begun_as stopped policy)) (sym accepts.0) (notes_begun stopped policy drops)
notes_for packets stopped policy (Number field value) accepts drops = notes_number stopped policy field value
notes_for packets stopped policy (Bytes field text times) accepts drops = notes_bytes stopped policy field times text
notes_for packets stopped policy (Nested field) accepts drops = notes_nested stopped policy field
notes_for packets false policy Ended accepts drops = refl
notes_for packets true Drops Ended accepts drops = refl
notes_for packets true Stalls Ended accepts drops = refl
notes_for packets true (StallsThenDrops tries) Ended accepts drops = refl
notes_for packets stopped policy GivenUp accepts drops = absurd accepts
notes_for packets false policy Finished accepts drops = refl
notes_for packets true Drops Finished accepts drops = refl
notes_for packets true Stalls Finished accepts drops = refl
notes_for packets true (StallsThenDrops tries) Finished accepts drops = refl
notes_for packets false policy Flushed accepts drops = refl
notes_for packets true Drops Flushed accepts drops = refl
notes_for packets true Stalls Flushed accepts drops = refl
notes_for packets true (StallsThenDrops tries) Flushed accepts drops = refl

-- one that didn't stop lost nothing
kept_by : {A B : Type 0} {stopped : Bool} → A ⊎ (B × (stopped ≡ true)) → stopped ≡ false → A
kept_by (inl kept) goes = kept
kept_by (inr lost) goes = absurd (let wrong : true ≡ false = sym lost.1 ∙ goes in cc)

-- and so a call that didn't stop loses no packet
loses_none : (view new : WriterView) (policy : WriterPolicy) (packets : List Packet) (call : Call) → Accepts packets call
    → new.calls ≡ view.calls ++ noted_as false policy call → lost_count (packets_of new.calls) ≡ lost_count (packets_of view.calls)
loses_none view new policy packets (Begun kept) accepts notes = kept_by (begin_loses view new policy false notes) refl
loses_none view new policy packets (Number field value) accepts notes =
    kept_by (field_loses view new (Number field value) (with_more (number_field field value)) policy false (λ account. refl) (more_keeps (number_field field value)) notes) refl
loses_none view new policy packets (Bytes field text times) accepts notes =
    kept_by (field_loses view new (Bytes field text times) (with_more (bytes_field field text times)) policy false (λ account. refl)
    (more_keeps (bytes_field field text times)) notes) refl
loses_none view new policy packets (Nested field) accepts notes =
    kept_by (field_loses view new (Nested field) (with_nested field) policy false (λ account. refl) (nested_keeps field) notes) refl
loses_none view new policy packets Ended accepts notes = ended_loses view new notes
loses_none view new policy packets GivenUp accepts notes = absurd accepts
loses_none view new policy packets Finished accepts notes = finished_loses view new notes
loses_none view new policy packets Flushed accepts notes = flushed_loses view new notes

-- one that stopped loses one packet at most
loses_most : (view new : WriterView) (policy : WriterPolicy) (packets : List Packet) (call : Call) → Accepts packets call
    → new.calls ≡ view.calls ++ noted_as true policy call → lost_count (packets_of new.calls) ≤ suc (lost_count (packets_of view.calls))
loses_most view new policy packets call accepts = by call accepts
  where
    -- the call alone
    alone : Call → WriterView
    alone one = record view { calls = view.calls ++ one ∷ [] }

    by : (call : Call) → Accepts packets call → new.calls ≡ view.calls ++ noted_as true policy call
        → lost_count (packets_of new.calls) ≤ suc (lost_count (packets_of view.calls))
    by (Begun kept) accepts notes = begun_most view new policy notes
    by (Number field value) accepts notes =
        written_most view new policy (Number field value) (loses_none view (alone (Number field value)) policy packets (Number field value) accepts refl) notes
    by (Bytes field text times) accepts notes =
        written_most view new policy (Bytes field text times) (loses_none view (alone (Bytes field text times)) policy packets (Bytes field text times) accepts refl) notes
    by (Nested field) accepts notes = written_most view new policy (Nested field) (loses_none view (alone (Nested field)) policy packets (Nested field) accepts refl) notes
    by Ended accepts notes = written_most view new policy Ended (loses_none view (alone Ended) policy packets Ended accepts refl) notes
    by GivenUp accepts notes = absurd accepts
    by Finished accepts notes = written_most view new policy Finished (loses_none view (alone Finished) policy packets Finished accepts refl) notes
    by Flushed accepts notes = written_most view new policy Flushed (loses_none view (alone Flushed) policy packets Flushed accepts refl) notes

stops_not : (policy : WriterPolicy) (stopped : Bool) → (stopped ≡ true → loses policy ≡ true) → policy ≡ Stalls → stopped ≡ false
stops_not policy false drops stalls = refl
stops_not policy true drops stalls = absurd (true≢false (sym (drops refl) ∙ ap loses stalls))

-- ---- one call

module _ (table : HostTable) (place : ℕ) (writer : TraceWriter)
    (writes : Writes table writer) (place_is : (core_of writer).seat.place ≡ place)
  where
    -- the spec of a writer of the table is that of its place
    pub spec_is : (route_of (core_of writer)).spec ≡ spec_at (setup_in table).writers place
    spec_is =
        route_is (setup_in table) (core_of writer).seat.place (route_of (core_of writer)) writes.agrees.writes.route
        ∙ ap (spec_at (setup_in table).writers) place_is

    -- and so is the size of its payloads
    pub size_here : payload_at (setup_in table) place ≡ (route_of (core_of writer)).payload_size
    size_here =
        let route = route_is (setup_in table) (core_of writer).seat.place (route_of (core_of writer)) writes.agrees.writes.route in
        let has : HasProducer (setup_in table) (producer_of (setup_in table) (core_of writer).seat.place) =
        subst (HasProducer (setup_in table)) (ap (λ (s : WriterSpec). s.producer) route) writes.agrees.writes.route.producer in
        ap (payload_at (setup_in table)) (sym place_is)
        ∙ sym (size_is (setup_in table) (core_of writer).seat.place (view_in writer) (core_of writer).writer writes.agrees table.laid has)

module _ {H : Type 0} (helps : H → ℕ → Bool → H → Type 0) (of_table : H → TableId → Type 0) (table : Bor HostTable) (place : ℕ) (asked coming : List Call)
    (call : Call) (help : Asks H) (writer : TraceWriter) (core : WriterCore WriterSeat)
    (going : IsGoing helps of_table table.now place asked (call ∷ coming) help writer) (is : core ≡ core_of writer)
  where
    -- the core is asked as the writer is
    pub core_ready : (later : List Call) × IsReadyFor (route_of core).payload_size (known_by core.seat) (call ∷ later)
    core_ready = (
      coming,
      subst (λ (c : WriterCore WriterSeat). IsReadyFor (route_of c).payload_size (known_by c.seat) (call ∷ coming)) (sym is)
          (subst (λ (n : ℕ). IsReadyFor n (view_in writer) (call ∷ coming)) (size_here table.now place writer going.writes going.place_is) going.ready),
    )

    policy_is : (route_of core).spec ≡ spec_at (setup_in table.now).writers place
    policy_is = ap (λ (c : WriterCore WriterSeat). (route_of c).spec) is ∙ spec_is table.now place writer going.writes going.place_is

    module _ (left : Asks H) (new : Shared) (after : TraceWriter) where
      -- it never stalls
      pub never_stalls : IsStalledCall shared.means (MayAsk of_table) (IsHelp helps) call help (lent table) core left new (core_of after) → ⊥
      never_stalls stalled =
          let never : NeverRefuses helps (route_of core).spec.policy = subst (λ (s : WriterSpec). NeverRefuses helps s.policy) (sym policy_is) going.never in
          let wrong : true ≡ false = works_on helps (route_of core).spec.producer never stalled.policy_is stalled.works in
          absurd cc

      module _ (policy : after.policy ≡ writer.policy) (answered : after.answered ≡ writer.answered) (called : IsCalled shared.means (MayAsk of_table) (IsHelp helps) call help (lent table) core left new (core_of after)) where
        place_stays : (core_of after).seat.place ≡ (core_of writer).seat.place
        place_stays = called.others.place_stays ∙ ap (λ (c : WriterCore WriterSeat). c.seat.place) is

        same_table : identity_of new.table.now ≡ identity_of table.now
        same_table = works_stay helps (route_of core) called.works

        agrees : CoreAgrees (setup_in table.now) (core_of writer).seat.place (view_in after) (core_of after)
        agrees = subst (λ (c : WriterCore WriterSeat). CoreAgrees (setup_in table.now) c.seat.place (view_in after) (core_of after)) is called.agrees

        same_spec : (route_of (core_of after)).spec ≡ (route_of (core_of writer)).spec
        same_spec =
            route_is (setup_in table.now) (core_of writer).seat.place (route_of (core_of after)) agrees.writes.route
            ∙ sym (route_is (setup_in table.now) (core_of writer).seat.place (route_of (core_of writer)) going.writes.agrees.writes.route)

        notes : (view_in after).calls ≡ (view_in writer).calls ++ noted_as called.stopped (route_of core).spec.policy call
        notes = called.notes ∙ ap (λ (c : WriterCore WriterSeat). (known_by c.seat).calls ++ noted_as called.stopped (route_of core).spec.policy call) is

        same_size : (route_of (core_of after)).payload_size ≡ (route_of (core_of writer)).payload_size
        same_size =
            let setup : Setup = setup_in table.now in let at = (core_of writer).seat.place in let before = going.writes.agrees in
            let has : HasProducer setup (producer_of setup at) =
            subst (HasProducer setup) (ap (λ (s : WriterSpec). s.producer) (route_is setup at (route_of (core_of writer)) before.writes.route)) before.writes.route.producer in
            size_is setup at (view_in after) (core_of after).writer agrees table.now.laid has
            ∙ sym (size_is setup at (view_in writer) (core_of writer).writer before table.now.laid has)

        -- what it completed stays, and so do its answers
        stays : Stays (view_in writer) (view_in after)
        stays = (
          noted_as called.stopped (route_of core).spec.policy call,
          notes,
          subst (λ (c : WriterCore WriterSeat). KeepsCompleted (known_by c.seat).begun (view_in after).begun) is
              (works_keep_completed shared.means (route_of core) (IsHelp helps) called.works),
        )

        same_letters : (view_in after).letters ≡ (view_in writer).letters
        same_letters = called.others.letters_stay ∙ ap (λ (c : WriterCore WriterSeat). (known_by c.seat).letters) is

        same_answers : (view_in after).letters.answers ≡ (view_in writer).letters.answers
        same_answers = ap (λ (l : Letters). l.answers) same_letters

        writes : Writes table.now after
        writes = writes_back (lent table) new writer after going.writes policy answered (ap (λ (s : WriterSpec). s.policy) same_spec) same_size same_table
            called.others.setup_stays called.others.seat_stays place_stays agrees
            same_letters stays

        notes_it : NotesFor call (noted_as called.stopped (route_of core).spec.policy call)
        notes_it = notes_for (account_of going.ready.asked).packets called.stopped (route_of core).spec.policy call going.ready.accepted.0 called.drops

        whole : (spec_at (setup_in table.now).writers place).policy ≡ Stalls → lost_count (packets_of (view_in after).calls) ≡ 0
        whole stalls =
            let goes : called.stopped ≡ false = stops_not (route_of core).spec.policy called.stopped called.drops (ap (λ (s : WriterSpec). s.policy) policy_is ∙ stalls) in
            loses_none (view_in writer) (view_in after) (route_of core).spec.policy (account_of going.ready.asked).packets call going.ready.accepted.0
            (subst (λ (b : Bool). (view_in after).calls ≡ (view_in writer).calls ++ noted_as b (route_of core).spec.policy call) goes notes)
            ∙ going.whole stalls

        -- the helper was asked as often as what was lost wants
        pub helps_losses : HelpsLosses helps help writer left after
        helps_losses =
            let policy : WriterPolicy = (route_of core).spec.policy in
            let asks = works_help helps (route_of core).spec.producer called.works in
            let accepts = going.ready.accepted.0 in
            let packets = (account_of going.ready.asked).packets in
            let enough : asks_for policy * lost_in after ≤ asks_for policy * lost_in writer + asks.0 =
            enough_by (asks_for policy) asks.0 (lost_in writer) (lost_in after) called.stopped
            (λ goes. loses_none (view_in writer) (view_in after) policy packets call accepts
            (subst (λ (b : Bool). (view_in after).calls ≡ (view_in writer).calls ++ noted_as b policy call) goes notes))
            (λ stops. loses_most (view_in writer) (view_in after) policy packets call accepts
            (subst (λ (b : Bool). (view_in after).calls ≡ (view_in writer).calls ++ noted_as b policy call) stops notes))
            asks.2 in
            record {
              policy_stays = ap (λ (s : WriterSpec). s.policy) same_spec;
              times = asks.0;
              helped = asks.1;
              enough = subst (λ (c : WriterCore WriterSeat). asks_for (route_of c).spec.policy * lost_in after ≤ asks_for (route_of c).spec.policy * lost_in writer + asks.0) is enough;
            }

        range_here : range_of (setup_in table.now) (producer_of (setup_in table.now) place) ≡ range_in (route_of core).arbiter
        range_here =
            let setup : Setup = setup_in table.now in
            subst (λ (c : WriterCore WriterSeat). range_of setup (producer_of setup place) ≡ range_in (route_of c).arbiter) (sym is)
            (subst (λ (p : ℕ). range_of setup (producer_of setup p) ≡ range_in (route_of (core_of writer)).arbiter) going.place_is going.writes.agrees.writes.route.range)

        asks_on : AsksOn (view_in writer) (view_in after)
        asks_on = subst (λ (c : WriterCore WriterSeat). AsksOn (known_by c.seat) (view_in after)) is (works_ask helps (route_of core) called.works)

        -- where it loses its packet its last claims were its rounds in vain
        ends : called.stopped ≡ true → EndsInVain (setup_in table.now) (producer_of (setup_in table.now) place)
            (rounds_for (spec_at (setup_in table.now).writers place).policy) (view_in after).asked (length (view_in writer).calls)
        ends stops =
            let setup : Setup = setup_in table.now in
            ends_behind setup (producer_of setup place) (rounds_for (spec_at setup.writers place).policy) (view_in writer) (view_in after)
            (subst (λ (r : ChunkRange). LosesBehind setup r (rounds_for (spec_at setup.writers place).policy) (view_in writer) (view_in after)) (sym range_here)
            (subst (λ (s : WriterSpec). LosesBehind setup (range_in (route_of core).arbiter) (rounds_for s.policy) (view_in writer) (view_in after)) policy_is
            (subst (λ (c : WriterCore WriterSeat). LosesBehind setup (range_in (route_of core).arbiter) (rounds_for (route_of core).spec.policy) (known_by c.seat) (view_in after)) is
            (called.lost stops))))

        goes : GoesOnInTurn (view_in writer) (view_in after)
        goes = goes_by (view_in writer) (view_in after) (noted_as called.stopped (route_of core).spec.policy call) asks_on notes

        in_turn : won_chunks (view_in after).asked ≡ map chunk_of (view_in after).begun
        in_turn = in_turn_behind (view_in writer) (view_in after) goes going.in_turn

        between : IsBetweenCalls (setup_in table.now) place (view_in after)
        between = record {
          writer = (core_of after).writer;
          agrees = subst (λ (p : ℕ). WriterAgrees (setup_in table.now) p (view_in after) (core_of after).writer) going.place_is agrees;
        }

        -- it goes on behind it
        pub goes_on : IsGoing helps of_table table.now place (asked ++ call ∷ []) coming left after
        goes_on = record {
          writes = writes;
          place_is = place_stays ∙ going.place_is;
          going = called.going;
          done = done_more asked (answered_out (view_in writer)) (answered_out (view_in after)) call (noted_as called.stopped (route_of core).spec.policy call) going.done
              (out_noted (view_in writer) (view_in after) (noted_as called.stopped (route_of core).spec.policy call) same_answers notes
              (λ n answer there. (going.writes.cuts n answer there).calls))
              (call_done (account_of going.ready.asked).packets called.stopped (route_of core).spec.policy call going.ready.accepted.0 called.drops);
          lose = loses_more asked (view_in writer) (view_in after) call (noted_as called.stopped (route_of core).spec.policy call) going.lose notes notes_it;
          in_turn = in_turn;
          vain = vain_on (setup_in table.now) place (account_of going.ready.asked).packets called.stopped (route_of core).spec.policy call
              (view_in writer) (view_in after) going.ready.accepted.0 called.drops goes notes ends between in_turn going.vain;
          whole = whole;
          ready = ready_behind (payload_at (setup_in table.now) place) (view_in writer) (view_in after) call coming (noted_as called.stopped (route_of core).spec.policy call)
              going.ready notes notes_it;
          of_this = subst (of_table left.help) same_table called.needed;
          never = going.never;
        }

-- ---- several calls

module _ {H : Type 0} (helps : H → ℕ → Bool → H → Type 0) (of_table : H → TableId → Type 0) (table : HostTable) where
  pub asked_none : (help : Asks H) (writer : TraceWriter) → WasAsked helps of_table table [] help writer help writer
  asked_none help writer place asked coming going =
      subst (λ (cs : List Call). IsGoing helps of_table table place cs coming help writer) (sym (append-nil asked)) going

  pub asked_both : (calls more : List Call) (help mid left : Asks H) (writer between after : TraceWriter)
      → WasAsked helps of_table table calls help writer mid between → WasAsked helps of_table table more mid between left after
      → WasAsked helps of_table table (calls ++ more) help writer left after
  asked_both calls more help mid left writer between after first second place asked coming going =
      subst (λ (cs : List Call). IsGoing helps of_table table place cs coming left after) (append_assoc asked calls more)
      (second place (asked ++ calls) coming
      (first place asked (more ++ coming)
      (subst (λ (cs : List Call). IsGoing helps of_table table place asked cs help writer) (append_assoc calls more coming) going)))

  -- of a packet's fields the next one is asked for, and then the others
  pub node_next : (left : List Shown) (one : Shown) (others : List Shown) (help : Asks H) (writer : TraceWriter) → left ≡ one ∷ others
      → (place : ℕ) (asked coming : List Call) → IsGoing helps of_table table place asked (map node_call left ++ coming) help writer
      → IsGoing helps of_table table place asked (node_call one ∷ (map node_call others ++ coming)) help writer
  node_next left one others help writer is place asked coming =
      subst (λ (nodes : List Shown). IsGoing helps of_table table place asked (map node_call nodes ++ coming) help writer) is

  pub nodes_more : (before : List Shown) (one : Shown) (help mid left : Asks H) (writer between after : TraceWriter)
      → WasAsked helps of_table table (map node_call before) help writer mid between → WasAsked helps of_table table (node_call one ∷ []) mid between left after
      → WasAsked helps of_table table (map node_call (before ++ one ∷ [])) help writer left after
  nodes_more before one help mid left writer between after first second =
      subst (λ (calls : List Call). WasAsked helps of_table table calls help writer left after) (sym (calls_before before one))
      (asked_both (map node_call before) (node_call one ∷ []) help mid left writer between after first second)

  -- a packet's fields are asked for behind its begin
  pub fields_next : (fields : List Call) (help : Asks H) (writer : TraceWriter) (place : ℕ) (asked coming : List Call)
      → IsGoing helps of_table table place asked ((fields ++ Finished ∷ []) ++ coming) help writer
      → IsGoing helps of_table table place asked (fields ++ (Finished ∷ coming)) help writer
  fields_next fields help writer place asked coming =
      subst (λ (calls : List Call). IsGoing helps of_table table place asked calls help writer) (append_assoc fields (Finished ∷ []) coming)
