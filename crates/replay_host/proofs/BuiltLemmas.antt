-- From what the parts of a host are made with to what the host is.
use Rattle.std.proofs.Common.{◌≡◌, ◌∙◌, ℕ, suc, ◌-◌, ◌<◌, ◌≤◌, true, false, List, [], length, map, replicate, vec_len, Some, slice_get, refl, sym, ap, subst, arith}
use Rattle.std.specs.Prelude.{slice_index, slice_index_or, vec_capacity}
use Rattle.std.specs.List.{AllZip}
use Rattle.std.proofs.lemmas.List.{length-map, length-replicate}
use Rattle.std.proofs.lemmas.Option.{slice_get_within}
use Rattle.std.proofs.lemmas.Slice.Zip.{AllZip-long}
use Rattle.trace_base.specs.declared.limits.TheConstants.{MAX_PRODUCERS}
use Rattle.trace_base.specs.declared.policy.WriterSpec.{WriterSpec}
use Rattle.model_laws.specs.Losses.{written_calls}
use Rattle.session_core.specs.Sessions.{SessionValue, new_session, moved, configured}
use Rattle.session_core.specs.declared.answers.SessionState.TheVariants.{Started}
use Rattle.scenario_text.specs.Scenario.{Parts}
use Rattle.scenario_text.specs.Accepted.{AsksWell}
use Rattle.scenario_text.specs.Lengths.{AreShort}
use Rattle.chunk_plain.proofs.LayingLemmas.{producers_apart}
use Rattle.chunk_plain.specs.declared.setup.ProducerSpec.{ProducerSpec}
use Rattle.chunk_plain.specs.Laying.{setup_of}
use Rattle.chunk_plain.specs.Meaning.{Meaning}
use Rattle.chunk_plain.specs.Plain.{first_world}
use Rattle.chunk_plain.specs.Setup.{Setup, ProducersAreApart}
use Rattle.chunk_plain.specs.Views.{ServiceView, WriterView, newcomer, none_taken, Taken}
use Rattle.chunk_plain.proofs.MadeLemmas.{all_same}
use Rattle.world_model.specs.FirstBuffers.{payload_at, first_buffers}
use Rattle.trace_buffer.specs.declared.answers.BufferSpec.{BufferSpec}
use Rattle.trace_writer.specs.declared.writer.WriterCore.{WriterCore}
use Rattle.trace_writer.specs.Core.{CoreAgrees, is_stalled}
use Rattle.service_core.specs.Agreement.{ServiceAgrees, is_closed, spec_at, spec_value}
use Rattle.service_core.specs.Making.{IsUnused}
use Rattle.service_core.proofs.MakeLemmas.{ranges_long}
use Rattle.replay_model.specs.Played.{IsSpecOf}
use Rattle.loss_report.specs.declared.raws.RawAnswer.{RawAnswer}
use Rattle.replay_host.specs.declared.host.Host.{Host}
use Rattle.replay_host.specs.Asking.{IsReadyFor}
use Rattle.replay_model.specs.Flushes.{requests_in}
use Rattle.replay_host.specs.Lines.{coming_at}
use Rattle.replay_host.specs.Making.{IsMade, buffer_asked}
use Rattle.replay_host.specs.Playing.{IsHost}
use Rattle.replay_host.specs.Raws.{raws_in}
use Rattle.replay_host.specs.Standing.{IsServed, Stands}
use Rattle.replay_host.specs.Tally.{IsTally}
use Rattle.replay_host.proofs.MakingLemmas.{asked_values}
use Rattle.replay_host.proofs.MadeLemmas.{all_ready, all_open, none_due, requests_few}

-- a writer with its seat, of which nothing was asked
pub record IsSeatedNew {T W S : Type 0} (means : Meaning T W S) (setup : Setup) (table : T) (place : ℕ) (core : WriterCore W) : Type 0 where
  pub sits : means.sits table core.seat
  pub place_is : means.place core.seat ≡ place
  pub view_is : means.view table core.seat ≡ newcomer
  pub agrees : CoreAgrees setup place newcomer core
  pub going : is_stalled core ≡ false

-- the parts of a host, each as it is made
pub record IsBuilt {T W S : Type 0} (means : Meaning T W S) (scenario : Parts) (specs : List ProducerSpec)
    (host : Host T W S) : Type 0 where
  pub made : AllZip IsSpecOf scenario.producers specs
  pub setup_is : means.setup host.table ≡ setup_of specs scenario.writers
  pub told : means.told host.table ≡ Some (first_world (setup_of specs scenario.writers))
  pub service_view : means.service_view host.table host.helper.service.seat ≡ (first_world (setup_of specs scenario.writers)).service
  pub serves : means.serves host.table host.helper.service.seat
  pub reads : means.takes_reads host.table host.helper.service.seat
  pub many : length host.writers.items ≡ length scenario.writers
  pub seated : (place : ℕ) (core : WriterCore W) → slice_get host.writers.items place ≡ Some core
      → IsSeatedNew means (setup_of specs scenario.writers) host.table place core
  pub writers : host.specs.items ≡ scenario.writers
  pub few_producers : length scenario.producers ≤ MAX_PRODUCERS
  pub buffers : host.helper.service.specs.items ≡ map buffer_asked scenario.buffers
  pub agrees : (view : ServiceView) → IsUnused (length scenario.writers) view
      → ServiceAgrees (setup_of specs scenario.writers) view host.helper.service
  pub opened : (place : ℕ) → place < length scenario.writers → is_closed (setup_of specs scenario.writers) host.helper.service place ≡ false
  pub session : host.helper.service.session ≡ moved Started (configured (length scenario.writers) new_session)
  pub flags : host.open_producers.items ≡ replicate (length scenario.producers) true
  pub tally : IsTally [] (length scenario.writers) host.flushes
  pub room : vec_len host.flushes.chunks ≡ requests_in scenario.lines
  pub told_room : raws_in scenario.lines ≤ vec_capacity host.flushes.answers

-- the service of the first world is unused
pub unused : (setup : Setup) → IsUnused (length setup.writers) (first_world setup).service
unused setup = record {
  taken = length-map setup.writers (λ (_ : WriterSpec). none_taken);
  none_taken = λ place. ap (λ (t : Taken). t.count) (all_same none_taken setup.writers place);
  none_read = refl;
  none_noted = refl;
}

module _ {T W S : Type 0} (means : Meaning T W S) (scenario : Parts) (specs : List ProducerSpec) (host : Host T W S)
    (built : IsBuilt means scenario specs host) where
  built_served : IsServed means host.table host.helper.service
  built_served = record {
    serves = built.serves;
    agrees = subst (λ (s : Setup). ServiceAgrees s (means.service_view host.table host.helper.service.seat) host.helper.service)
        (sym built.setup_is)
        (subst (λ (v : ServiceView). ServiceAgrees (setup_of specs scenario.writers) v host.helper.service) (sym built.service_view)
        (built.agrees (first_world (setup_of specs scenario.writers)).service (unused (setup_of specs scenario.writers))));
    reads = built.reads;
  }

  built_stands : Stands means host.table host.writers.items host.helper.service
  built_stands = record {
    many = built.many ∙ ap (λ (s : Setup). length s.writers) (sym built.setup_is);
    seated = λ place core there.
        let new = built.seated place core there in
        record {
          sits = new.sits;
          place_is = new.place_is;
          agrees = subst (λ (s : Setup). CoreAgrees s place (means.view host.table core.seat) core) (sym built.setup_is)
              (subst (λ (v : WriterView). CoreAgrees (setup_of specs scenario.writers) place v core) (sym new.view_is) new.agrees);
          going = new.going;
        };
    served = built_served;
  }

  built_host : IsHost means host
  built_host = record {
    stands = built_stands;
    apart = subst ProducersAreApart (sym built.setup_is) (producers_apart specs scenario.writers);
    specs = built.writers ∙ ap (λ (s : Setup). s.writers) (sym built.setup_is);
    producers = ap length built.flags ∙ length-replicate (length scenario.producers) true ∙ sym
        (AllZip-long IsSpecOf scenario.producers specs built.made)
        ∙ sym (ranges_long 0 specs) ∙ ap (λ (s : Setup). length s.ranges) (sym built.setup_is);
    opened = λ producer has flag place below of_producer.
        ap (λ (s : Setup). is_closed s host.helper.service place) built.setup_is
        ∙ built.opened place (subst (λ (s : Setup). place < length s.writers) built.setup_is below);
  }

  none_made : host.flushes.made ≡ 0
  none_made = built.tally.made

  -- the host of a scenario whose writers accept what the lines ask, and whose lines are short
  pub built_is_made : ((place : ℕ) → place < length scenario.writers
      → AsksWell scenario.lines (suc place) (spec_at scenario.writers place)) → AreShort scenario.lines
      → IsMade means scenario host
  built_is_made asks short = record {
    at = record {
      going = record {
        kept = record {
          is_host = built_host;
          laid = record { specs = specs; made = built.made; laid = built.setup_is };
          first = ap (λ (xs : List BufferSpec). first_buffers (means.setup host.table) 1 (map spec_value xs)) built.buffers
              ∙ ap (first_buffers (means.setup host.table) 1) (asked_values scenario.buffers);
          few_producers = built.few_producers;
          flags = λ producer least most.
              ap (λ (xs : List _). slice_index_or xs (producer - 1) false) built.flags
              ∙ all_open (length scenario.producers) (producer - 1) (omega (arith, least, most));
          tally = built.tally;
        };
        wrote = λ place core there. ap (λ (v : WriterView). written_calls v.calls) (built.seated place core there).view_is;
        ready = λ place core there.
            let inside = slice_get_within host.writers.items place core there in
            let many = built.many in
            subst (λ (v : WriterView). IsReadyFor (payload_at (means.setup host.table) place) v (coming_at scenario scenario.lines place))
            (sym (built.seated place core there).view_is)
            (all_ready (payload_at (means.setup host.table) place) scenario place (asks place (omega (arith, inside, many))) short);
        room = let none = none_made in let room = built.room in omega (arith, none, room);
        few = let room = built.room in let requests = requests_few scenario.lines in let lines = short.few in omega
            (arith, room, requests, lines);
        told_room = let none = ap (λ (xs : List RawAnswer). length xs) built.tally.told in let joined = host.flushes.answers.ok.0 in
            let room = built.told_room in omega (arith, none, joined, room);
        started = ap (λ (s : SessionValue). s.state) built.session;
        requests = ap (λ (s : SessionValue). s.requests) built.session ∙ sym none_made;
      };
      due = λ place below opened. none_due (slice_index host.flushes.answered.items place) host.flushes.made _ none_made refl;
    };
    told = built.told ∙ ap (λ (s : Setup). Some (first_world s)) (sym built.setup_is);
    unnoted = ap (λ (v : ServiceView). v.events) built.service_view;
  }
