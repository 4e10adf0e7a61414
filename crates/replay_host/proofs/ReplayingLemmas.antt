-- What was played of a scenario, from its first world on, is its replay; or it stopped at an act.
use Rattle.std.proofs.Common.{◌≡◌, ◌∙◌, ℕ, ◌-◌, ◌≤◌, vec_len, Bool, Some, List, [], ◌∷◌, ◌++◌, length, map, refl, sym, ap, subst, append_assoc, append-nil, arith}
use Rattle.std.specs.List.{flat_map}
use Rattle.std.proofs.Math.Logic.{∥∥₁_map}
use Rattle.std.proofs.lemmas.Option.{same_Some}
use Rattle.byte_io.specs.Bytes.{Intake, after_told}
use Rattle.trace_base.specs.declared.limits.TheConstants.{MAX_BUFFERS}
use Rattle.trace_base.specs.declared.policy.WriterSpec.{WriterSpec}
use Rattle.trace_model.specs.Buffers.{Buffer}
use Rattle.trace_model.specs.Delivery.{Delivered, IsFaithfulOf, trace_of}
use Rattle.trace_model.specs.History.{buffers_after, records_after}
use Rattle.trace_buffer.specs.declared.answers.BufferCounts.{BufferCounts}
use Rattle.scenario_text.specs.declared.scenario.NumberedLine.{NumberedLine}
use Rattle.scenario_text.specs.Clones.{clones_in}
use Rattle.scenario_text.specs.declared.scenario.Scenario.{Scenario}
use Rattle.scenario_text.specs.Scenario.{Parts, IsScenario, parts_of}
use Rattle.scenario_text.specs.Emissions.{emitted_in}
use Rattle.scenario_text.specs.Raws.{HasNoRaw, raw_numbers}
use Rattle.scenario_text.proofs.AcceptedLemmas.{scenario_is_accepted}
use Rattle.scenario_text.proofs.LimitLemmas.{scenario_is_set_up}
use Rattle.scenario_text.proofs.ReachLemmas.{scenario_is_in_reach}
use Rattle.scenario_text.proofs.ShortLemmas.{scenario_is_short}
use Rattle.chunk_plain.specs.Histories.{history_of}
use Rattle.chunk_plain.specs.Meaning.{Meaning}
use Rattle.chunk_plain.specs.Owned.{IsOwned}
use Rattle.chunk_plain.specs.Plain.{first_world}
use Rattle.chunk_plain.specs.Setup.{Setup}
use Rattle.chunk_plain.specs.Steps.{serviced}
use Rattle.chunk_plain.specs.Views.{Noted, ServiceView}
use Rattle.chunk_plain.specs.World.{World}
use Rattle.chunk_plain.proofs.MadeLemmas.{first_owned}
use Rattle.chunk_plain.proofs.Owned.{serviced_owned}
use Rattle.service_core.specs.Agreement.{first_of}
use Rattle.service_core.specs.Routing.{buffer_at}
use Rattle.service_core.specs.Reading.{reads_in, noted_read}
use Rattle.service_core.specs.Taking.{noted_more}
use Rattle.loss_report.specs.declared.counts.Done.{Done}
use Rattle.loss_report.specs.declared.counts.SequenceCounts.{SequenceCounts}
use Rattle.loss_report.specs.declared.raws.RawAnswer.{RawAnswer}
use Rattle.loss_report.specs.declared.raws.RawLine.{RawLine}
use Rattle.loss_report.specs.Raws.{raw_text}
use Rattle.loss_report.specs.Report.{report_text}
use Rattle.replay_model.specs.Acts.{Act, Ask, Request, Answer, Collect, Scrape, CloseProducer, ReadAll, CommitRaw}
use Rattle.replay_model.specs.Clones.{AreMadeFor, MakeClones, ReplaysCloning}
use Rattle.replay_model.specs.Does.{Reads}
use Rattle.replay_model.specs.Enough.{IsPlayable}
use Rattle.replay_model.specs.ActNotes.{ActNote, answers_in}
use Rattle.replay_model.specs.Played.{IsSetupOf, IsPlayed, buffers_of, records_in, Replays}
use Rattle.replay_model.specs.Plays.{Plays}
use Rattle.replay_model.specs.Raws.{raw_lines}
use Rattle.replay_model.specs.Schedule.{acts_from, last_acts, schedule_of}
use Rattle.replay_model.proofs.FrontLemmas.{every_front_is_faithful}
use Rattle.replay_model.proofs.PlayLemmas.{plays_one, plays_both, plays_keep}
use Rattle.replay_model.proofs.PlayedLemmas.{setup_writers}
use Rattle.replay_model.proofs.CloneToldLemmas.{replays_cloning}
use Rattle.replay_model.proofs.ReplayLemmas.{replays_of, scenario_is_playable}
use Rattle.replay_host.specs.declared.fault.HostFault.{HostFault}
use Rattle.replay_host.specs.declared.fault.HostFault.TheVariants.{OutOfMemory, WriteFault, Stalled}
use Rattle.replay_host.specs.declared.flushes.Flushes.{Flushes}
use Rattle.replay_host.specs.declared.host.Host.{Host}
use Rattle.replay_host.specs.Cloning.{AreAsMade, HaveCloned}
use Rattle.replay_host.specs.Counting.{CountsAll}
use Rattle.replay_host.specs.Ending.{IsOver, HasEnded}
use Rattle.replay_host.specs.Making.{IsMade}
use Rattle.replay_host.specs.Playing.{IsHost, HasDone}
use Rattle.replay_host.specs.Raws.{AreMarked}
use Rattle.replay_host.specs.Replaying.{HasStopped, EndsEarly}
use Rattle.replay_host.specs.Stopping.{Halts, StopsAt, StopsIn}
use Rattle.replay_host.specs.Tally.{IsTally}
use Rattle.replay_host.specs.Whole.{Begins, HavePlayed}
use Rattle.replay_host.proofs.CountingLemmas.{report_is, specs_many}
use Rattle.replay_host.proofs.GoingLemmas.{done_both}
use Rattle.replay_host.proofs.MadeLemmas.{made_trace}
use Rattle.replay_host.proofs.RowLemmas.{AreLaws}
use Rattle.replay_host.proofs.StopLemmas.{stopped_later, stopped_more}

-- ---- a fault

-- no act halts since memory ran out
has_memory : (setup : Setup) (buffers : List Buffer) (act : Act) (world : World) (records : List Delivered)
    → Halts setup buffers act world OutOfMemory records → ⊥
has_memory setup buffers (Ask place call) world records halts = halts
has_memory setup buffers Request world records halts = halts
has_memory setup buffers (Answer place) world records halts = halts
has_memory setup buffers (Collect producer) world records halts = halts
has_memory setup buffers (Scrape producer) world records halts = halts
has_memory setup buffers (CloseProducer producer) world records halts = halts
has_memory setup buffers (ReadAll number limit) world records halts = halts
has_memory setup buffers (CommitRaw place chunk) world records halts = halts

-- acts that stopped end a replay early
ends_early : (scenario : Parts) (fault : HostFault) (old new : Intake) → HasStopped scenario fault old new
    → EndsEarly scenario fault old new
ends_early scenario OutOfMemory old new stopped =
    absurd (has_memory stopped.setup (buffers_of scenario stopped.setup) stopped.stops.act stopped.stops.world stopped.stops.records stopped.stops.halts)
ends_early scenario WriteFault old new stopped = stopped
ends_early scenario (Stalled writer) old new stopped = stopped

-- ---- what was written up to a stop

module _ (scenario : Parts) (setup : Setup) (setup_is : IsSetupOf scenario setup) (playable : IsPlayable scenario) (done more : List Act)
    (world : World) (notes : List ActNote) (plays : Plays setup (buffers_of scenario setup) done (first_world setup) world notes) where
  -- the acts before a read, and the read as if it were done whole
  read_faithful : (number limit : ℕ) (last : World) → schedule_of scenario ≡ done ++ ReadAll number limit ∷ more
      → Reads setup (buffers_of scenario setup) number limit world last → IsFaithfulOf (HasNoRaw scenario.lines) (emitted_in scenario) (records_in scenario setup last)
  read_faithful number limit last cut reads =
      subst (λ (view : ServiceView). IsFaithfulOf (HasNoRaw scenario.lines) (emitted_in scenario) (records_in scenario setup (serviced world view))) (sym reads.notes)
      (every_front_is_faithful scenario setup (done ++ ReadAll number limit ∷ []) more whole (notes ++ []) setup_is playable
      (cut ∙ sym (append_assoc done (ReadAll number limit ∷ []) more))
      (plays_both setup (buffers_of scenario setup) done (ReadAll number limit ∷ []) (first_world setup) world whole notes [] plays
      (plays_one setup (buffers_of scenario setup) (ReadAll number limit) world whole (record { writers = refl; notes = refl }) owned)))
    where
      read : List Noted
      read = flat_map noted_read (reads_in setup (buffers_after (buffers_of scenario setup) (history_of world.service)) number limit)

      whole : World
      whole = serviced world (noted_more world.service read)

      owned : ∥ IsOwned whole ∥₁
      owned = ∥∥₁_map (plays_keep setup (buffers_of scenario setup) (λ (w : World). ∥ IsOwned w ∥₁) (λ act old new does owned_new owned_old. owned_new) done
          (first_world setup) world notes plays ∣ first_owned setup ∣₁)
          (λ (is : IsOwned world). serviced_owned world (noted_more world.service read) is refl refl refl)

  -- so what is written up to a halt is faithful
  halt_faithful : (act : Act) (fault : HostFault) (records : List Delivered) → schedule_of scenario ≡ done ++ act ∷ more
      → Halts setup (buffers_of scenario setup) act world fault records → IsFaithfulOf (HasNoRaw scenario.lines) (emitted_in scenario) records
  halt_faithful (Ask place call) (Stalled writer) records cut halts =
      subst (IsFaithfulOf (HasNoRaw scenario.lines) (emitted_in scenario)) (sym halts.4)
      (every_front_is_faithful scenario setup done (Ask place call ∷ more) world notes setup_is playable cut plays)
  halt_faithful (ReadAll number limit) WriteFault records cut halts =
      subst (IsFaithfulOf (HasNoRaw scenario.lines) (emitted_in scenario)) (sym halts.2) (read_faithful number limit halts.0 cut halts.1)
  halt_faithful (Ask place call) WriteFault records cut halts = absurd halts
  halt_faithful (Ask place call) OutOfMemory records cut halts = absurd halts
  halt_faithful (ReadAll number limit) OutOfMemory records cut halts = absurd halts
  halt_faithful (ReadAll number limit) (Stalled writer) records cut halts = absurd halts
  halt_faithful Request fault records cut halts = absurd halts
  halt_faithful (Answer place) fault records cut halts = absurd halts
  halt_faithful (Collect producer) fault records cut halts = absurd halts
  halt_faithful (Scrape producer) fault records cut halts = absurd halts
  halt_faithful (CloseProducer producer) fault records cut halts = absurd halts
  halt_faithful (CommitRaw place chunk) fault records cut halts = absurd halts

-- ---- from the first line on

-- the grammar gives what can be played
pub is_playable : (scenario : Scenario) → IsScenario scenario → IsPlayable (parts_of scenario)
is_playable scenario is =
    let few = (scenario_is_short scenario is).few in
    scenario_is_playable scenario is (omega (arith, few)) scenario_is_set_up scenario_is_accepted

module _ {T W S : Type 0} (means : Meaning T W S) (scenario : Scenario) (is : IsScenario scenario) (old : Host T W S)
    (made : IsMade means (parts_of scenario) old) (taken : Intake) where
  begins : Begins means (parts_of scenario) old
  begins = record { at = made.at; reach = scenario_is_in_reach scenario is }

  abbrev line_acts : List Act
  line_acts = acts_from (parts_of scenario) [] scenario.lines

  abbrev end_acts : List Act
  end_acts = last_acts (parts_of scenario)

  -- the first buffers are the scenario's
  first : first_of (means.setup old.table) old.helper.service ≡ buffers_of (parts_of scenario) (means.setup old.table)
  first = made.at.going.kept.first

  stopped : (fault : HostFault) (left : Intake) → StopsIn means (schedule_of (parts_of scenario)) old taken fault left
      → EndsEarly (parts_of scenario) fault taken left
  stopped fault left stops = ends_early (parts_of scenario) fault taken left (record {
    setup = means.setup old.table;
    setup_is = made.at.going.kept.laid;
    stops = at;
    faithful = halt_faithful (parts_of scenario) (means.setup old.table) made.at.going.kept.laid (is_playable scenario is) at.done at.rest at.world
        at.notes at.plays at.act fault at.records at.cut at.halts;
  })
    where
      at : StopsAt (means.setup old.table) (buffers_of (parts_of scenario) (means.setup old.table)) (schedule_of (parts_of scenario))
          (first_world (means.setup old.table)) fault taken left
      at = subst (λ (buffers : List Buffer). StopsAt (means.setup old.table) buffers (schedule_of (parts_of scenario))
          (first_world (means.setup old.table)) fault taken left) first
          (stops (first_world (means.setup old.table)) made.told taken (made_trace means (parts_of scenario) old made taken))

  -- the lines as they are passed on
  module _ (lines : List NumberedLine) (seen : lines ≡ scenario.lines) where
    pub may_begin : (parts : Parts) × (parts.lines ≡ lines) × Begins means parts old
    may_begin = (parts_of scenario, sym seen, begins)

    pub lines_stopped : (fault : HostFault) (left : Intake)
        → ((parts : Parts) → parts.lines ≡ lines → Begins means parts old
        → StopsIn means (acts_from parts [] parts.lines) old taken fault left)
        → EndsEarly (parts_of scenario) fault taken left
    lines_stopped fault left stops =
        stopped fault left (stopped_more means line_acts end_acts old taken fault left (stops (parts_of scenario) (sym seen) begins))

    -- the clones are as the host's buffers are made
    pub as_made : (clones : List Buffer) → AreMadeFor (parts_of scenario) clones → AreAsMade means old lines clones
    as_made clones made_for =
        made_for (means.setup old.table) made.at.going.kept.laid
        ∙ ap (λ (bs : List Buffer). map (λ (number : ℕ). buffer_at bs (number - 1)) (clones_in scenario.lines)) (sym first)
        ∙ ap (λ (ls : List NumberedLine). map (λ (number : ℕ). buffer_at (first_of (means.setup old.table) old.helper.service) (number - 1)) (clones_in ls)) (sym seen)

    -- they were played, and so many buffers are to be read at the end
    module _ (mid : Host T W S) (between : Intake)
        (plays : (parts : Parts) → parts.lines ≡ lines → Begins means parts old → HavePlayed means parts old taken mid between)
        (count : ℕ) (many : count ≡ vec_len scenario.buffers) where
      played : HavePlayed means (parts_of scenario) old taken mid between
      played = plays (parts_of scenario) (sym seen) begins

      abbrev over : IsOver means mid
      over = record { scenario = parts_of scenario; notes = played.notes; going = played.at.going }

      all_read : length scenario.buffers.items ≡ count
      all_read = let joined = scenario.buffers.ok.0 in omega (arith, many, joined)

      pub is_over : (one : IsOver means mid) × (length one.scenario.buffers ≡ count)
      is_over = (over, all_read)

      pub few_read : count ≤ MAX_BUFFERS
      few_read = let few = (scenario_is_set_up scenario is).few_buffers in let same = all_read in omega (arith, few, same)

      pub end_stopped : (fault : HostFault) (left : Intake)
          → ((one : IsOver means mid) → length one.scenario.buffers ≡ count → StopsIn means (last_acts one.scenario) mid between fault left)
          → EndsEarly (parts_of scenario) fault taken left
      end_stopped fault left stops = stopped fault left
          (stopped_later means line_acts end_acts played.notes old mid taken between fault left played.done (stops over all_read))

      -- the end was played
      module _ (laws : AreLaws means) (new : Host T W S) (left : Intake)
          (finishes : (one : IsOver means mid) → length one.scenario.buffers ≡ count
          → HasEnded means (last_acts one.scenario) mid between new left)
        where
          ended : HasEnded means (last_acts (parts_of scenario)) mid between new left
          ended = finishes over all_read

          pub ended_host : IsHost means new
          ended_host = ended.host

          all : HasDone means (schedule_of (parts_of scenario)) played.notes old taken new left
          all = subst (λ (notes : List ActNote). HasDone means (schedule_of (parts_of scenario)) notes old taken new left)
              (append-nil played.notes)
              (done_both means line_acts end_acts played.notes [] old mid new taken between left played.done ended.done)

          same : means.setup new.table ≡ means.setup old.table
          same = all.setup_is

          reached : (world : World) × (means.told new.table ≡ Some world)
              × Plays (means.setup old.table) (first_of (means.setup old.table) old.helper.service) (schedule_of (parts_of scenario))
              (first_world (means.setup old.table)) world played.notes
          reached = all.plays (first_world (means.setup old.table)) made.told

          is_played : IsPlayed (parts_of scenario) (means.setup new.table) reached.0 played.notes
          is_played = subst (λ (setup : Setup). IsPlayed (parts_of scenario) setup reached.0 played.notes) (sym same) (record {
            setup_is = made.at.going.kept.laid;
            plays = subst (λ (buffers : List Buffer). Plays (means.setup old.table) buffers (schedule_of (parts_of scenario))
                (first_world (means.setup old.table)) reached.0 played.notes) first reached.2;
          })

          first_new : first_of (means.setup old.table) new.helper.service ≡ buffers_of (parts_of scenario) (means.setup old.table)
          first_new = all.first ∙ first

          -- the first buffers are the scenario's still
          ended_first : first_of (means.setup new.table) new.helper.service ≡ buffers_of (parts_of scenario) (means.setup new.table)
          ended_first = subst (λ (setup : Setup). first_of setup new.helper.service ≡ buffers_of (parts_of scenario) setup) (sym same)
              first_new

          -- and there are as many writers
          named : length (means.setup new.table).writers ≡ length scenario.writers.items
          named = ap (λ (specs : List WriterSpec). length specs)
              (setup_writers (parts_of scenario) (means.setup new.table) is_played.setup_is)

          -- there is room for each count
          pub sequences_room : (done : Done) → vec_len done.sequences ≡ vec_len scenario.writers
              → vec_len done.sequences ≡ length new.writers.items
          sequences_room done room =
              let joined = scenario.writers.ok.0 in
              let cores = ended.host.stands.many in
              let specs = named in
              omega (arith, room, joined, cores, specs)

          pub marks_many : (marks : List Bool) → AreMarked scenario.lines (length scenario.writers.items) marks → length marks ≡ length new.writers.items
          marks_many marks marked =
              let many = marked.many in
              let cores = ended.host.stands.many in
              let specs = named in
              omega (arith, many, cores, specs)

          pub buffers_room : (done : Done) → vec_len done.buffers ≡ vec_len scenario.buffers
              → vec_len done.buffers ≡ length new.helper.service.specs.items
          buffers_room done room =
              let joined = scenario.buffers.ok.0 in
              let specs = specs_many (parts_of scenario) (means.setup new.table) new.helper.service ended_first in
              omega (arith, room, joined, specs)

          ended_tally : IsTally played.notes (length scenario.writers.items) new.flushes
          ended_tally = subst (λ (flushes : Flushes). IsTally played.notes (length scenario.writers.items) flushes) (sym ended.flushes)
              played.at.going.kept.tally

          pub ended_noted : (notes : List ActNote) × IsTally notes (length (means.setup new.table).writers) new.flushes
          ended_noted = (played.notes, subst (λ (writers : ℕ). IsTally played.notes writers new.flushes) (sym named) ended_tally)

          -- the sink has taken the trace of the world that is reached
          traced : left ≡ after_told taken (trace_of (records_after (buffers_of (parts_of scenario) (means.setup old.table))
              (history_of reached.0.service)))
          traced =
              all.writes taken (made_trace means (parts_of scenario) old made taken)
              ∙ ap (λ (buffers : List Buffer). after_told taken (trace_of (records_after buffers
              (history_of (means.service_view new.table new.helper.service.seat))))) first
              ∙ ap (λ (view : ServiceView). after_told taken (trace_of (records_after (buffers_of (parts_of scenario) (means.setup old.table))
              (history_of view))))
              (laws.told_service_view new.table new.helper.service.seat reached.0 reached.1 ended.host.stands.served.serves)

          -- What was counted is the report of the replay.
          pub all_replayed : (marks : List Bool) → AreMarked scenario.lines (length scenario.writers.items) marks
              → (buffers : List BufferCounts) (sequences : List SequenceCounts) (flushes : Flushes) (raws : List RawLine)
              → CountsAll means new marks buffers sequences flushes → flushes.made ≡ new.flushes.made
              → vec_len flushes.chunks ≡ vec_len new.flushes.chunks → flushes.answers ≡ new.flushes.answers
              → raws ≡ raw_lines (raw_numbers scenario.lines) flushes.answers.items
              → Replays (parts_of scenario) taken left (report_text buffers sequences flushes.chunks.items ++ raw_text raws)
          all_replayed marks marked buffers sequences flushes raws counts same_made same_room same_answers raws_are =
              let parts : Parts = parts_of scenario in
              let playable = is_playable scenario is in
              let counted = counts parts played.notes reached.0 reached.1 is_played playable ended_first ended_tally marked in
              let room = played.at.going.room in
              let ended_made : new.flushes.made ≡ mid.flushes.made = ap (λ (f : Flushes). f.made) ended.flushes in
              let ended_room : vec_len new.flushes.chunks ≡ vec_len mid.flushes.chunks =
              ap (λ (f : Flushes). vec_len f.chunks) ended.flushes in
              let told : flushes.answers.items ≡ answers_in played.notes = ap (λ (v : _). v.items) same_answers ∙ ended_tally.told in
              let report = report_is parts (means.setup new.table) reached.0 played.notes buffers sequences flushes raws counted
              (omega (arith, same_made, same_room, room, ended_made, ended_room))
              (raws_are ∙ ap (λ (answers : List RawAnswer). raw_lines (raw_numbers scenario.lines) answers) told) in
              replays_of parts (means.setup new.table) reached.0 played.notes taken left
              (report_text buffers sequences flushes.chunks.items ++ raw_text raws) is_played playable
              (subst (λ (setup : Setup). left ≡ after_told taken (trace_of (records_after (buffers_of parts setup)
              (history_of reached.0.service)))) (sym same) traced)
              report

          -- And the clones that were filled are those of the replay.
          pub all_cloned : (clones : List Buffer)
              → ((parts : Parts) → parts.lines ≡ lines → Begins means parts old → HaveCloned means parts [] parts.lines old mid clones)
              → (marks : List Bool) → AreMarked scenario.lines (length scenario.writers.items) marks
              → (buffers : List BufferCounts) (sequences : List SequenceCounts) (flushes : Flushes) (raws : List RawLine)
              → CountsAll means new marks buffers sequences flushes → flushes.made ≡ new.flushes.made
              → vec_len flushes.chunks ≡ vec_len new.flushes.chunks → flushes.answers ≡ new.flushes.answers
              → raws ≡ raw_lines (raw_numbers scenario.lines) flushes.answers.items
              → ReplaysCloning (parts_of scenario) taken left (report_text buffers sequences flushes.chunks.items ++ raw_text raws) clones
          unfolding all_replayed
          all_cloned clones cloned marks marked buffers sequences flushes raws counts same_made same_room same_answers raws_are =
              let parts : Parts = parts_of scenario in
              let way = cloned parts (sym seen) begins (first_world (means.setup old.table)) made.told in
              let ending = ended.done.plays way.0 way.1 in
              let last : ending.0 ≡ reached.0 = same_Some ending.0 reached.0 (sym ending.1 ∙ reached.1) in
              replays_cloning parts taken left (report_text buffers sequences flushes.chunks.items ++ raw_text raws) clones
              (all_replayed marks marked buffers sequences flushes raws counts same_made same_room same_answers raws_are) way.0
              (subst (λ (s : Setup). MakeClones parts s [] parts.lines (first_world s) way.0 clones) (sym same) way.2)
              []
              (subst (λ (w : World). Plays (means.setup new.table) (buffers_of parts (means.setup new.table)) (last_acts parts) way.0 w []) last
              (subst (λ (s : Setup). Plays s (buffers_of parts s) (last_acts parts) way.0 ending.0 []) (played.done.setup_is ∙ sym same)
              (subst (λ (bs : List Buffer). Plays (means.setup mid.table) bs (last_acts parts) way.0 ending.0 []) played.at.going.kept.first ending.2)))
              (is_playable scenario is)
