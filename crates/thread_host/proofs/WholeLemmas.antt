-- What the jobs told, and what was read and counted behind them, is a run of the scenario, whole or up to a write that failed.
use Rattle.std.proofs.Common.{◌≡◌, ◌∙◌, inl, inr, ℕ, Option, Some, None, IfSome, List, [], ◌++◌, length, sym, ap, subst, arith}
use Rattle.std.specs.List.{flat_map}
use Rattle.std.specs.Option.{IsSomeAnd}
use Rattle.byte_io.specs.Bytes.{Intake, after_told, TakesPart}
use Rattle.byte_io.proofs.Told.{after_told_again}
use Rattle.trace_model.specs.Buffers.{Buffer}
use Rattle.trace_model.specs.Delivery.{Delivered, trace_of}
use Rattle.trace_model.specs.History as model
use Rattle.trace_model.specs.History.{records_after}
use Rattle.chunk_plain.specs.Plain.{first_world}
use Rattle.chunk_plain.specs.Setup.{Setup}
use Rattle.chunk_plain.specs.Views.{Noted, ServiceView, asked_in}
use Rattle.chunk_plain.specs.Histories.{history_of, happened}
use Rattle.chunk_plain.specs.World.{World}
use Rattle.chunk_words.specs.Sits.{setup_in, known_by_pass}
use Rattle.loss_report.specs.declared.counts.Done.{Done}
use Rattle.scenario_text.specs.declared.scenario.NumberedLine.{NumberedLine}
use Rattle.scenario_text.specs.declared.scenario.Scenario.{Scenario}
use Rattle.scenario_text.specs.Raws.{RawsNone}
use Rattle.scenario_text.specs.Scenario.{IsScenario, Parts, parts_of}
use Rattle.service_core.proofs.ReadingLemmas.{trace_append}
use Rattle.replay_model.specs.Flushes.{requests_in}
use Rattle.replay_model.specs.Played.{buffers_of, records_in}
use Rattle.replay_host.proofs.ReplayingLemmas.{is_playable}
use Rattle.thread_service.proofs.GoingOn.{same_records}
use Rattle.run_model.specs.Lines.{PlaysAll, PlaysSome}
use Rattle.run_model.specs.Laws.{EveryRunIsFaithful, EveryStoppedRunIsFaithful, EveryRunIsBalanced, EveryRunCountsPackets, EveryEnoughRunIsComplete}
use Rattle.run_model.specs.Reads.{GoesByReads, GoesUpTo}
use Rattle.run_model.specs.Runs.{FailsRun}
use Rattle.run_model.specs.Settled.{IsRun}
use Rattle.run_model.specs.Stopped.{StopsInEnd, StopsInLines}
use Rattle.thread_host.specs.Finishing.{HasFailed, HasFinished, HasLetGo, HasRun}
use Rattle.thread_service.specs.declared.service.Service.{Service}
use Rattle.thread_service.specs.Serving.{view_in}
use Rattle.thread_service.specs.Settling.{TakesAllOut}
use Rattle.thread_host.specs.Growing.{IsHearing}
use Rattle.thread_host.specs.Hosts.{HasReadAnswers, IsSettled}
use Rattle.thread_host.specs.Jobs.{FailsLines, TellsLines}
use Rattle.thread_host.specs.declared.settled.Settled.{Settled}
use Rattle.thread_host.proofs.Turning.{all_heard, some_heard}

-- from a service that knows nothing yet to the world that it marks, with what it reads of answers before
pub all_played : (setup : Setup) (buffers : List Buffer) (lines : List NumberedLine) (writers : ℕ) (one other : Option Service) (stood : ServiceView)
    → IsSomeAnd one (λ service. view_in service ≡ (first_world setup).service)
    → IfSome one (λ before. IfSome other (λ after. PlaysAll setup buffers lines (view_in before) (view_in after)))
    → IsSomeAnd other (λ service. Unit {0}) → IfSome other (λ service. IsHearing writers (view_in service) stood)
    → PlaysAll setup buffers lines (first_world setup).service stood
all_played setup buffers lines writers (Some before) (Some after) stood fresh plays there hears =
    all_heard setup buffers lines writers (first_world setup).service (view_in after) stood hears
    (subst (λ (v : ServiceView). PlaysAll setup buffers lines v (view_in after)) fresh plays)
all_played setup buffers lines writers (Some before) None stood fresh plays there hears = absurd there
all_played setup buffers lines writers None other stood fresh plays there hears = absurd fresh

pub some_played : (setup : Setup) (buffers : List Buffer) (lines : List NumberedLine) (writers : ℕ) (one other : Option Service) (stood : ServiceView)
    → IsSomeAnd one (λ service. view_in service ≡ (first_world setup).service)
    → IfSome one (λ before. IfSome other (λ after. PlaysSome setup buffers lines (view_in before) (view_in after)))
    → IsSomeAnd other (λ service. Unit {0}) → IfSome other (λ service. IsHearing writers (view_in service) stood)
    → PlaysSome setup buffers lines (first_world setup).service stood
some_played setup buffers lines writers (Some before) (Some after) stood fresh plays there hears =
    some_heard setup buffers lines writers (first_world setup).service (view_in after) stood hears
    (subst (λ (v : ServiceView). PlaysSome setup buffers lines v (view_in after)) fresh plays)
some_played setup buffers lines writers (Some before) None stood fresh plays there hears = absurd there
some_played setup buffers lines writers None other stood fresh plays there hears = absurd fresh

-- which is there
pub is_there : (P : Service → Type 0) (one : Option Service) → IsSomeAnd one P → IsSomeAnd one (λ service. Unit {0})
is_there P (Some service) holds = tt
is_there P None holds = absurd holds

module _ (faithful : EveryRunIsFaithful) (balanced : EveryRunIsBalanced) (counted : EveryRunCountsPackets) (complete : EveryEnoughRunIsComplete) where
  pub has_run : (scenario : Scenario) (settled : Settled) (settles : IsSettled (parts_of scenario) settled) (first : ServiceView) (before between after : Intake) (done : Done) → IsScenario scenario
      → RawsNone (parts_of scenario).lines
      → first.events ≡ []
      → TellsLines (setup_in settled.table) (buffers_of (parts_of scenario) (setup_in settled.table)) (parts_of scenario).lines
      first (known_by_pass settled.pass) before between
      → asked_in first.letters ≡ 0 → asked_in (view_in settled.service).letters ≡ asked_in (known_by_pass settled.pass).letters
      → HasReadAnswers settled.table (view_in settled.service)
      → PlaysAll (setup_in settled.table) (buffers_of (parts_of scenario) (setup_in settled.table)) (parts_of scenario).lines (first_world (setup_in settled.table)).service
      settles.stood.service
      → HasFinished (parts_of scenario) settled settles between after done → HasRun (parts_of scenario) before after done
  has_run scenario settled settles first before between after done is no_raws none tells unasked same_asked answered played finished =
      let setup = setup_in settled.table in
      let known = known_by_pass settled.pass in
      let playable = is_playable scenario is in
      let world = finished.ended.world in
      let unread : history_of first ≡ [] = ap (λ (notes : List Noted). flat_map (happened first) notes) none in
      let requests : asked_in (view_in settled.service).letters ≡ requests_in (parts_of scenario).lines =
      (let told = tells.requests in omega (arith, told, unasked, same_asked)) in
      let run : IsRun (parts_of scenario) setup world = finished.run
      (subst (λ (history : List model.Event). GoesByReads setup (buffers_of (parts_of scenario) setup) (parts_of scenario).lines history (history_of known))
      unread tells.reads)
      (record { requests = requests; last = answered }) played in
      let nothing : records_after (buffers_of (parts_of scenario) setup) (history_of first) ≡ [] =
      ap (λ (history : List model.Event). records_after (buffers_of (parts_of scenario) setup) history) unread in
      let records : records_in (parts_of scenario) setup world ≡ tells.tells.more ++ finished.ended.more =
      finished.ended.records
      ∙ ap (λ (records : List Delivered). records ++ finished.ended.more)
      (tells.tells.records ∙ ap (λ (records : List Delivered). records ++ tells.tells.more) nothing) in
      record {
        setup = setup;
        world = world;
        run = run;
        trace = finished.taken
            ∙ ap (λ (intake : Intake). after_told intake (trace_of finished.ended.more)) tells.tells.taken
            ∙ after_told_again before (trace_of tells.tells.more) (trace_of finished.ended.more)
            ∙ ap (after_told before) (sym (trace_append tells.tells.more finished.ended.more))
            ∙ ap (λ (records : List Delivered). after_told before (trace_of records)) (sym records);
        report = finished.report no_raws (balanced (parts_of scenario) setup world run playable.few playable.set_up) requests;
        faithful = faithful (parts_of scenario) setup world run;
        balanced = balanced (parts_of scenario) setup world run playable.few playable.set_up;
        counted = counted (parts_of scenario) setup world run playable.few playable.set_up;
        complete = complete (parts_of scenario) setup world run playable;
      }

-- ---- up to a write that failed

module _ (faithful : EveryStoppedRunIsFaithful) (scenario : Parts) (settled : Settled) (is : IsSettled scenario settled) (first : ServiceView) (none : first.events ≡ []) where
  abbrev setup : Setup
  setup = setup_in settled.table

  abbrev known : ServiceView
  known = known_by_pass settled.pass

  abbrev buffers : List Buffer
  buffers = buffers_of scenario (setup_in settled.table)

  unread : history_of first ≡ []
  unread = ap (λ (notes : List Noted). flat_map (happened first) notes) none

  -- in the reads of the lines
  pub lines_fail : (before after : Intake)
      → FailsLines (setup_in settled.table) (buffers_of scenario (setup_in settled.table)) scenario.lines first (known_by_pass settled.pass) before after
      → PlaysSome (setup_in settled.table) (buffers_of scenario (setup_in settled.table)) scenario.lines (first_world (setup_in settled.table)).service is.stood.service
      → HasLetGo scenario settled is → FailsRun scenario before after
  lines_fail before after fails played left =
      let world = left.world in
      let run : StopsInLines scenario setup world fails.next = record {
        done = left.done;
        played = subst (λ (w : World). PlaysSome setup (buffers_of scenario setup) scenario.lines (first_world setup).service w.service) (sym left.stood_is) played;
        settles = subst (λ (w : World). TakesAllOut setup (length setup.ranges) w.service world.service) (sym left.stood_is) left.settles;
        stopped = history_of known;
        reads = subst (λ (history : List model.Event). GoesUpTo setup buffers scenario.lines history (history_of known) fails.next) unread fails.reads;
        goes = left.goes;
      } in
      let records : records_in scenario setup world ≡ fails.tells.more =
      same_records buffers (history_of known) (history_of world.service) left.goes
      ∙ fails.tells.records
      ∙ ap (λ (history : List model.Event). records_after buffers history ++ fails.tells.more) unread in
      record {
        setup = setup;
        world = world;
        next = fails.next;
        run = inl run;
        trace = subst (λ (ds : List Delivered). TakesPart (after_told before (trace_of ds)) after fails.next.bytes) (sym records) fails.tells.part;
        faithful = faithful scenario setup world fails.next (inl run);
      }

  -- or in those of the end
  pub end_fails : (before between after : Intake)
      → TellsLines (setup_in settled.table) (buffers_of scenario (setup_in settled.table)) scenario.lines first (known_by_pass settled.pass) before between
      → PlaysAll (setup_in settled.table) (buffers_of scenario (setup_in settled.table)) scenario.lines (first_world (setup_in settled.table)).service is.stood.service
      → HasFailed scenario settled is between after → FailsRun scenario before after
  end_fails before between after tells played failed =
      let world = failed.ended.world in
      let run : StopsInEnd scenario setup world failed.next = failed.run
      (subst (λ (history : List model.Event). GoesByReads setup buffers scenario.lines history (history_of known)) unread tells.reads) played in
      let one = tells.tells.more in
      let records : records_in scenario setup world ≡ one ++ failed.ended.more =
      failed.ended.records
      ∙ ap (λ (ds : List Delivered). ds ++ failed.ended.more)
      (tells.tells.records ∙ ap (λ (history : List model.Event). records_after buffers history ++ one) unread) in
      record {
        setup = setup;
        world = world;
        next = failed.next;
        run = inr run;
        trace = subst (λ (intake : Intake). TakesPart intake after failed.next.bytes)
            (ap (λ (intake : Intake). after_told intake (trace_of failed.ended.more)) tells.tells.taken
            ∙ after_told_again before (trace_of one) (trace_of failed.ended.more)
            ∙ ap (after_told before) (sym (trace_append one failed.ended.more))
            ∙ ap (λ (ds : List Delivered). after_told before (trace_of ds)) (sym records))
            failed.part;
        faithful = faithful scenario setup world failed.next (inr run);
      }
