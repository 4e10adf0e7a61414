-- Behind a front of a scenario's acts the records are faithful to what the lines have writers emit: what writers have emitted so far is a front
-- of that.
use Rattle.std.proofs.Common.{◌≡◌, ◌∙◌, ℕ, zero, suc, ◌+◌, ◌<◌, ◌≤◌, Bool, true, false, not, All, List, [], ◌∷◌, ◌++◌, length, map, get_or, Some, refl, sym, ap, subst, arith, append_assoc, append-nil}
use Rattle.std.specs.Prelude.{fold, slice_get}
use Rattle.std.specs.List.{AllZip}
use Rattle.trace_base.proofs.Lists.{get_more, some_there}
use Rattle.trace_base.specs.declared.policy.WriterSpec.{WriterSpec}
use Rattle.trace_model.specs.Calls.{Call, Begun, Number, Bytes, Nested, Ended, GivenUp, Finished, Flushed}
use Rattle.trace_model.specs.Delivery.{Delivered, IsFaithfulOf, records_of}
use Rattle.trace_model.specs.Encoding.{number_field, bytes_field}
use Rattle.trace_model.specs.Packets.{Packet, Account, begun_packet, on_newest, with_more, with_nested, with_nested_ended, finished_packet, noted, nothing_yet, is_writing, emissions_in, emissions_of}
use Rattle.trace_model.specs.Tells.{Tells, TellsFrom}
use Rattle.trace_model.proofs.PacketLemmas.{emitted_more, emitted_still}
use Rattle.model_laws.specs.Losses.{written_calls}
use Rattle.model_laws.proofs.LossLemmas.{account_with, emitted_one, losses_change_no_shape, written_append}
use Rattle.chunk_plain.specs.Plain.{first_world}
use Rattle.chunk_plain.specs.Setup.{Setup}
use Rattle.chunk_plain.specs.Views.{WriterView, newcomer}
use Rattle.chunk_plain.specs.World.{World, writer}
use Rattle.chunk_plain.proofs.MadeLemmas.{all_same, first_owned}
use Rattle.scenario_text.specs.declared.scenario.NumberedLine.{NumberedLine}
use Rattle.scenario_text.specs.Scenario.{Parts}
use Rattle.scenario_text.specs.Accepted.{AreAccepted, calls_asked}
use Rattle.scenario_text.specs.Emissions.{emitted_from, emitted_in}
use Rattle.scenario_text.specs.Raws.{HasNoRaw}
use Rattle.replay_model.specs.Acts.{Act, calls_in}
use Rattle.replay_model.specs.Enough.{IsPlayable}
use Rattle.replay_model.specs.ActNotes.{ActNote}
use Rattle.replay_model.specs.Laws.{EveryFrontIsFaithful}
use Rattle.replay_model.specs.Plays.{Plays}
use Rattle.replay_model.specs.Played.{IsSetupOf, buffer_specs, buffers_of, records_in}
use Rattle.replay_model.specs.Schedule.{schedule_of}
use Rattle.replay_model.proofs.AccountLemmas.{many_writers, standing_is_faithful}
use Rattle.replay_model.proofs.FirstLemmas.{small_payload, first_stands}
use Rattle.replay_model.proofs.LosesLemmas.{calls_append, plays_written, schedule_writes}
use Rattle.replay_model.proofs.PlayedLemmas.{plays_stand, setup_writers}
use Rattle.replay_model.proofs.RawLemmas.{front_committed_none}

-- ---- what is faithful to fronts is so to the whole

-- the packets begin with these
record IsFront (front whole : List (List ℕ)) : Type 0 where
  rest : List (List ℕ)
  is : whole ≡ front ++ rest

front_on : (front mid whole : List (List ℕ)) → IsFront front mid → IsFront mid whole → IsFront front whole
front_on front mid whole first second = record {
  rest = first.rest ++ second.rest;
  is = second.is ∙ ap (λ (ps : List (List ℕ)). ps ++ second.rest) first.is ∙ append_assoc front first.rest second.rest;
}

front_same : (front whole : List (List ℕ)) → whole ≡ front → IsFront front whole
front_same front whole same = record { rest = []; is = same ∙ sym (append-nil front) }

tells_more : (front rest : List (List ℕ)) (sequence : ℕ) (first : Bool) (next : ℕ) (records : List (List ℕ))
    → TellsFrom front sequence first next records → TellsFrom (front ++ rest) sequence first next records
tells_more front rest sequence first next [] tells = tt
tells_more front rest sequence first next (bytes ∷ records) tells = (
  tells.0,
  record {
    packet = tells.1.packet;
    emitted_there = get_more front rest tells.0 tells.1.packet tells.1.emitted_there;
    not_before = tells.1.not_before;
    front = tells.1.front;
    behind = tells.1.behind;
    exact = tells.1.exact;
    marked = tells.1.marked;
  },
  tells_more front rest sequence false (suc tells.0) records tells.2,
)

fronts_many : (fronts wholes : List (List (List ℕ))) → AllZip IsFront fronts wholes → length fronts ≡ length wholes
fronts_many [] [] all = refl
fronts_many [] (whole ∷ wholes) all = absurd all
fronts_many (front ∷ fronts) [] all = absurd all
fronts_many (front ∷ fronts) (whole ∷ wholes) all = ap suc (fronts_many fronts wholes all.1)

-- the packets at a place, and those of which they begin
record HasFront (fronts : List (List (List ℕ))) (place : ℕ) (whole : List (List ℕ)) : Type 0 where
  front : List (List ℕ)
  get : slice_get fronts place ≡ Some front
  begins : IsFront front whole

front_at : (fronts wholes : List (List (List ℕ))) (place : ℕ) (whole : List (List ℕ)) → AllZip IsFront fronts wholes
    → slice_get wholes place ≡ Some whole → HasFront fronts place whole
front_at fronts [] place whole all there = absurd (cc)
front_at [] (one ∷ wholes) place whole all there = absurd all
front_at (front ∷ fronts) (one ∷ wholes) zero whole all there =
    let same : one ≡ whole = cc in record { front = front; get = refl; begins = subst (IsFront front) same all.0 }
front_at (front ∷ fronts) (one ∷ wholes) (suc place) whole all there =
    let h = front_at fronts wholes place whole all.1 there in record { front = h.front; get = h.get; begins = h.begins }

faithful_more : (fronts wholes : List (List (List ℕ))) (delivered : List Delivered) → AllZip IsFront fronts wholes
    → (Own : ℕ → Type 0) → IsFaithfulOf Own fronts delivered → IsFaithfulOf Own wholes delivered
faithful_more fronts wholes delivered all Own faithful = record { known = known; told = told }
  where
    known : All (λ (d : Delivered). (2 ≤ d.sequence) × (d.sequence < length wholes + 2)) delivered
    known = subst (λ (n : ℕ). All (λ (d : Delivered). (2 ≤ d.sequence) × (d.sequence < n + 2)) delivered) (fronts_many fronts wholes all) faithful.known

    told : (place : ℕ) (packets : List (List ℕ)) → Own place → slice_get wholes place ≡ Some packets → Tells packets (place + 2) (records_of (place + 2) delivered)
    told place packets own there =
        let h = front_at fronts wholes place packets all there in
        subst (λ (ps : List (List ℕ)). Tells ps (place + 2) (records_of (place + 2) delivered)) (sym h.begins.is)
        (tells_more h.front h.begins.rest (place + 2) true 0 (records_of (place + 2) delivered) (faithful.told place h.front own h.get))

-- ---- later calls change no packet that was emitted

-- Calls that write: what goes into a packet comes while one is begun and not finished, as the flag says of the first one.
abbrev AreInPackets : (writing : Bool) → List Call → Type 0
AreInPackets writing [] = Unit {0}
AreInPackets writing (Begun kept ∷ calls) = AreInPackets true calls
AreInPackets writing (Number field value ∷ calls) = (writing ≡ true) × AreInPackets writing calls
AreInPackets writing (Bytes field text times ∷ calls) = (writing ≡ true) × AreInPackets writing calls
AreInPackets writing (Nested field ∷ calls) = (writing ≡ true) × AreInPackets writing calls
AreInPackets writing (Ended ∷ calls) = (writing ≡ true) × AreInPackets writing calls
AreInPackets writing (GivenUp ∷ calls) = ⊥
AreInPackets writing (Finished ∷ calls) = (writing ≡ true) × AreInPackets false calls
AreInPackets writing (Flushed ∷ calls) = ⊥

writing_still : (change : Packet → Packet) → ((packet : Packet) → (change packet).finished ≡ packet.finished) → (packets : List Packet) (flushed : Bool)
    → is_writing (on_newest change (account_with packets flushed)).packets ≡ is_writing packets
writing_still change same [] flushed = refl
writing_still change same (packet ∷ older) flushed = ap not (same packet)

writing_ended : (packets : List Packet) (flushed : Bool) → is_writing (on_newest finished_packet (account_with packets flushed)).packets ≡ false
writing_ended [] flushed = refl
writing_ended (packet ∷ older) flushed = refl

-- so are those that a writer accepts, without its flushes
accepted_write : (calls : List Call) (account : Account) → AreAccepted account calls → AreInPackets (is_writing account.packets) (written_calls calls)
accepted_write [] account accepted = tt
accepted_write (Begun kept ∷ calls) account accepted = accepted_write calls (noted account (Begun kept)) accepted.1
accepted_write (Number field value ∷ calls) account accepted = (
  accepted.0.begun,
  subst (λ (writing : Bool). AreInPackets writing (written_calls calls)) (writing_still (with_more (number_field field value)) (λ p. refl) account.packets account.flushed)
      (accepted_write calls (noted account (Number field value)) accepted.1),
)
accepted_write (Bytes field text times ∷ calls) account accepted = (
  accepted.0.begun,
  subst (λ (writing : Bool). AreInPackets writing (written_calls calls)) (writing_still (with_more (bytes_field field text times)) (λ p. refl) account.packets account.flushed)
      (accepted_write calls (noted account (Bytes field text times)) accepted.1),
)
accepted_write (Nested field ∷ calls) account accepted = (
  accepted.0.0.begun,
  subst (λ (writing : Bool). AreInPackets writing (written_calls calls)) (writing_still (with_nested field) (λ p. refl) account.packets account.flushed)
      (accepted_write calls (noted account (Nested field)) accepted.1),
)
accepted_write (Ended ∷ calls) account accepted = (
  accepted.0.0,
  subst (λ (writing : Bool). AreInPackets writing (written_calls calls)) (writing_still with_nested_ended (λ p. refl) account.packets account.flushed)
      (accepted_write calls (noted account Ended) accepted.1),
)
accepted_write (GivenUp ∷ calls) account accepted = absurd accepted.0
accepted_write (Finished ∷ calls) account accepted = (
  accepted.0.0,
  subst (λ (writing : Bool). AreInPackets writing (written_calls calls)) (writing_ended account.packets account.flushed)
      (accepted_write calls (noted account Finished) accepted.1),
)
accepted_write (Flushed ∷ calls) account accepted = accepted_write calls (noted account Flushed) accepted.1

-- the packet that is being written was not emitted yet
newest_front : (change : Packet → Packet) (packets : List Packet) (flushed : Bool) → is_writing packets ≡ true
    → IsFront (emissions_in packets) (emissions_in (on_newest change (account_with packets flushed)).packets)
newest_front change [] flushed writes = front_same [] [] refl
newest_front change (packet ∷ older) flushed writes = record {
  rest = emitted_one (change packet);
  is = emitted_more (change packet) older (change packet).finished refl
      ∙ ap (λ (ps : List (List ℕ)). ps ++ emitted_one (change packet)) (sym (emitted_still packet older (going packet.finished writes)));
}
  where
    going : (b : Bool) → not b ≡ true → b ≡ false
    going true e = absurd (cc)
    going false e = refl

call_front : (call : Call) (calls : List Call) (account : Account) → AreInPackets (is_writing account.packets) (call ∷ calls)
    → IsFront (emissions_in account.packets) (emissions_in (noted account call).packets)
call_front (Begun kept) calls account inside = front_same _ _ (emitted_still (begun_packet kept account) account.packets refl)
call_front (Number field value) calls account inside = newest_front (with_more (number_field field value)) account.packets account.flushed inside.0
call_front (Bytes field text times) calls account inside = newest_front (with_more (bytes_field field text times)) account.packets account.flushed inside.0
call_front (Nested field) calls account inside = newest_front (with_nested field) account.packets account.flushed inside.0
call_front Ended calls account inside = newest_front with_nested_ended account.packets account.flushed inside.0
call_front GivenUp calls account inside = absurd inside
call_front Finished calls account inside = newest_front finished_packet account.packets account.flushed inside.0
call_front Flushed calls account inside = absurd inside

-- the calls behind one
call_behind : (call : Call) (calls : List Call) (account : Account) → AreInPackets (is_writing account.packets) (call ∷ calls)
    → AreInPackets (is_writing (noted account call).packets) calls
call_behind (Begun kept) calls account inside = inside
call_behind (Number field value) calls account inside =
    subst (λ (writing : Bool). AreInPackets writing calls) (sym (writing_still (with_more (number_field field value)) (λ p. refl) account.packets account.flushed)) inside.1
call_behind (Bytes field text times) calls account inside =
    subst (λ (writing : Bool). AreInPackets writing calls) (sym (writing_still (with_more (bytes_field field text times)) (λ p. refl) account.packets account.flushed)) inside.1
call_behind (Nested field) calls account inside =
    subst (λ (writing : Bool). AreInPackets writing calls) (sym (writing_still (with_nested field) (λ p. refl) account.packets account.flushed)) inside.1
call_behind Ended calls account inside =
    subst (λ (writing : Bool). AreInPackets writing calls) (sym (writing_still with_nested_ended (λ p. refl) account.packets account.flushed)) inside.1
call_behind GivenUp calls account inside = absurd inside
call_behind Finished calls account inside =
    subst (λ (writing : Bool). AreInPackets writing calls) (sym (writing_ended account.packets account.flushed)) inside.1
call_behind Flushed calls account inside = absurd inside

calls_front : (calls : List Call) (account : Account) → AreInPackets (is_writing account.packets) calls
    → IsFront (emissions_in account.packets) (emissions_in (fold noted account calls).packets)
calls_front [] account inside = front_same _ _ refl
calls_front (call ∷ calls) account inside =
    front_on _ _ _ (call_front call calls account inside) (calls_front calls (noted account call) (call_behind call calls account inside))

more_front : (calls more : List Call) (account : Account) → AreInPackets (is_writing account.packets) (calls ++ more)
    → IsFront (emissions_in (fold noted account calls).packets) (emissions_in (fold noted account (calls ++ more)).packets)
more_front [] more account inside = calls_front more account inside
more_front (call ∷ calls) more account inside = more_front calls more (noted account call) (call_behind call (calls ++ more) account inside)

-- ---- a writer behind a front of the acts

written_twice : (calls : List Call) → written_calls (written_calls calls) ≡ written_calls calls
written_twice [] = refl
written_twice (Begun kept ∷ calls) = ap (λ (cs : List Call). Begun true ∷ cs) (written_twice calls)
written_twice (Number field value ∷ calls) = ap (λ (cs : List Call). Number field value ∷ cs) (written_twice calls)
written_twice (Bytes field text times ∷ calls) = ap (λ (cs : List Call). Bytes field text times ∷ cs) (written_twice calls)
written_twice (Nested field ∷ calls) = ap (λ (cs : List Call). Nested field ∷ cs) (written_twice calls)
written_twice (Ended ∷ calls) = ap (λ (cs : List Call). Ended ∷ cs) (written_twice calls)
written_twice (GivenUp ∷ calls) = written_twice calls
written_twice (Finished ∷ calls) = ap (λ (cs : List Call). Finished ∷ cs) (written_twice calls)
written_twice (Flushed ∷ calls) = written_twice calls

-- where a writer noted a front of the accepted calls, with losses and flushes, it emitted a front of what they emit
calls_emit : (asked done : List Call) (before after : List Call) → AreAccepted nothing_yet asked → written_calls asked ≡ before ++ after
    → written_calls done ≡ before → IsFront (emissions_of done) (emissions_of asked)
calls_emit asked done before after accepted cut is =
    let written : AreInPackets false (before ++ after) = subst (AreInPackets false) cut (accepted_write asked nothing_yet accepted) in
    let twice : written_calls done ≡ written_calls before = sym (written_twice done) ∙ ap written_calls is in
    let front : emissions_of done ≡ emissions_of before = (losses_change_no_shape before done twice).emitted in
    let whole : emissions_of asked ≡ emissions_of (before ++ after) =
    (losses_change_no_shape (written_calls asked) asked (sym (written_twice asked))).emitted ∙ ap emissions_of cut in
    subst (λ (ps : List (List ℕ)). IsFront ps (emissions_of asked)) (sym front)
    (subst (IsFront (emissions_of before)) (sym whole) (more_front before after nothing_yet written))

-- ---- all writers

each_front : (lines : List NumberedLine) (first : ℕ) (specs : List WriterSpec) (views : List WriterView) → length views ≡ length specs
    → ((k : ℕ) → k < length specs → IsFront (emissions_of (get_or views k newcomer).calls) (emissions_of (calls_asked (first + k) lines)))
    → AllZip IsFront (map (λ (view : WriterView). emissions_of view.calls) views) (emitted_from lines first specs)
each_front lines first [] [] many each = tt
each_front lines first [] (view ∷ views) many each = absurd (omega (arith, many))
each_front lines first (spec ∷ specs) [] many each = absurd (omega (arith, many))
each_front lines first (spec ∷ specs) (view ∷ views) many each =
    let at : first + 0 ≡ first = omega arith in (
      subst (λ (n : ℕ). IsFront (emissions_of view.calls) (emissions_of (calls_asked n lines))) at (each 0 (omega arith)),
      each_front lines (suc first) specs views (omega (arith, many))
          (λ k low. subst (λ (n : ℕ). IsFront (emissions_of (get_or views k newcomer).calls) (emissions_of (calls_asked n lines)))
          (let same : first + suc k ≡ suc first + k = omega arith in same) (each (suc k) (omega (arith, low)))),
    )

module _ (scenario : Parts) (setup : Setup) (done rest : List Act) (world : World) (notes : List ActNote) (setup_is : IsSetupOf scenario setup)
    (playable : IsPlayable scenario) (cut : schedule_of scenario ≡ done ++ rest)
    (plays : Plays setup (buffers_of scenario setup) done (first_world setup) world notes) where
  -- what the writer at this place was asked to write is a front of what the lines ask of it
  asked_cut : (place : ℕ) → written_calls (calls_asked (suc place) scenario.lines) ≡ written_calls (calls_in done place) ++ written_calls (calls_in rest place)
  asked_cut place =
      sym (schedule_writes scenario place)
      ∙ ap (λ (acts : List Act). written_calls (calls_in acts place)) cut
      ∙ ap written_calls (calls_append done rest place)
      ∙ written_append (calls_in done place) (calls_in rest place)

  noted_is : (place : ℕ) → written_calls (writer world place).calls ≡ written_calls (calls_in done place)
  noted_is place =
      plays_written setup (buffers_of scenario setup) done (first_world setup) world notes place plays
      ∙ ap (λ (view : WriterView). written_calls view.calls ++ written_calls (calls_in done place)) (all_same newcomer setup.writers place)

  emits_front : (place : ℕ) → place < length scenario.writers
      → IsFront (emissions_of (writer world place).calls) (emissions_of (calls_asked (1 + place) scenario.lines))
  emits_front place inside =
      let spec = some_there scenario.writers place inside in
      let asked : place + 1 ≡ suc place = omega arith in
      let one : suc place ≡ 1 + place = omega arith in
      let accepted = subst (λ (n : ℕ). AreAccepted nothing_yet (calls_asked n scenario.lines)) asked (playable.asks place spec.0 spec.1).accepted in
      subst (λ (n : ℕ). IsFront (emissions_of (writer world place).calls) (emissions_of (calls_asked n scenario.lines))) one
      (calls_emit (calls_asked (suc place) scenario.lines) (writer world place).calls (written_calls (calls_in done place)) (written_calls (calls_in rest place))
      accepted (asked_cut place) (noted_is place))

  front_is_faithful : IsFaithfulOf (HasNoRaw scenario.lines) (emitted_in scenario) (records_in scenario setup world)
  front_is_faithful =
      let h = plays_stand setup (buffers_of scenario setup) done (first_world setup) world notes plays
      (first_stands setup (small_payload scenario setup setup_is)) ∣ first_owned setup ∣₁ in
      let many = many_writers setup world h.1 h.0 ∙ ap (λ (specs : List WriterSpec). length specs) (setup_writers scenario setup setup_is) in
      let own = standing_is_faithful setup (buffer_specs scenario) world h.1 h.0 in
      faithful_more (map (λ (view : WriterView). emissions_of view.calls) world.writers) (emitted_in scenario) (records_in scenario setup world)
      (each_front scenario.lines 1 scenario.writers world.writers many emits_front) (HasNoRaw scenario.lines)
      (record {
        known = own.known;
        told = λ place packets none.
            own.told place packets (front_committed_none scenario setup (buffers_of scenario setup) done rest world notes place cut plays none);
      })

pub every_front_is_faithful : EveryFrontIsFaithful
every_front_is_faithful scenario setup done rest world notes setup_is playable cut plays =
    front_is_faithful scenario setup done rest world notes setup_is playable cut plays
