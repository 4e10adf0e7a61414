-- What a writer's work leaves of the service.
use Rattle.std.proofs.Common.{◌≡◌, ◌∙◌, ℕ, Bool, true, false, refl, sym, ap, subst}
use Rattle.trace_model.specs.History.{records_after}
use Rattle.chunk_plain.specs.Histories.{history_of}
use Rattle.chunk_plain.specs.Meaning.{Meaning, IsWriterStep}
use Rattle.chunk_plain.specs.Setup.{Setup}
use Rattle.chunk_plain.specs.Views.{ServiceView}
use Rattle.trace_writer.specs.declared.route.Route.{Route}
use Rattle.trace_writer.specs.Helping.{LeavesWriters, Tries, Gains, Again, Ends, Works, Done, Silent, Gets, Helped, Refused, Lost, Tried, GivesUp}
use Rattle.trace_writer.specs.OwnSteps.{IsQuiet, IsSilent, GetsChunk, IsVainTry, IsOutNow}
use Rattle.service_core.specs.declared.service.ServiceCore.{ServiceCore}
use Rattle.service_core.specs.Agreement.{KeepsRest}
use Rattle.service_core.proofs.AgreeLemmas.{keeps_same, keeps_both}
use Rattle.replay_host.specs.declared.helper.Collecting.{Collecting}
use Rattle.replay_host.specs.Asking.{KeepsService}
use Rattle.replay_host.specs.Helping.{Helps}
use Rattle.service_core.proofs.QuietLemmas.{collect_adds, adds_quiet}

pub keeps_nothing : {T W S : Type 0} (means : Meaning T W S) (table : T) (service : ServiceCore S) → KeepsService means table service table service
keeps_nothing means table service = record { setup_is = refl; keeps = keeps_same (means.setup table) service; quiet = λ buffers. refl }

pub keeps_each : {T W S : Type 0} (means : Meaning T W S) (old mid new : T) (before between after : ServiceCore S)
    → KeepsService means old before mid between → KeepsService means mid between new after → KeepsService means old before new after
keeps_each means old mid new before between after first second = record {
  setup_is = second.setup_is ∙ first.setup_is;
  keeps = keeps_both (means.setup old) before between after first.keeps (subst (λ (s : Setup). KeepsRest s between after) first.setup_is second.keeps);
  quiet = λ buffers. second.quiet buffers ∙ first.quiet buffers;
}

-- a writer's own step
keeps_step : {T W S : Type 0} (means : Meaning T W S) (old : T) (seat : W) (new : T) (after : W) (service : ServiceCore S) → IsWriterStep means old seat new after
    → means.serves old service.seat → KeepsService means old service new service
keeps_step means old seat new after service step serves = record {
  setup_is = step.setup_stays;
  keeps = keeps_same (means.setup old) service;
  quiet = λ buffers. ap (λ (v : ServiceView). records_after buffers (history_of v)) (step.service_stays service.seat serves).1;
}

still_serves : {T W S : Type 0} (means : Meaning T W S) (old : T) (seat : W) (new : T) (after : W) (service : ServiceCore S) → IsWriterStep means old seat new after
    → means.serves old service.seat → means.serves new service.seat
still_serves means old seat new after service step serves = (step.service_stays service.seat serves).0

-- a help
keeps_help : {T W S : Type 0} (means : Meaning T W S) (helper helped : Collecting S) (asking freed : T) (producer : ℕ) (answer : Bool)
    → Helps means helper asking producer answer helped freed → producer ≡ helper.producer → KeepsService means asking helper.service freed helped.service
keeps_help means helper helped asking freed producer answer helps at =
    let some = helps.collected at in
    record {
      setup_is = helps.step.setup_stays;
      keeps = some.2.keeps;
      quiet = λ buffers. adds_quiet buffers (means.service_view asking helper.service.seat) (means.service_view freed helped.service.seat) helps.may.served.agrees.known
          (collect_adds (means.setup asking) helper.service producer some.0 (means.service_view asking helper.service.seat) (means.service_view freed helped.service.seat)
          helps.may.served.agrees some.2.takes);
    }

-- what a work keeps: the helper helps the same producer, serves the table, and has noted nothing but takings
pub record Keeps {T W S : Type 0} (means : Meaning T W S) (helper : Collecting S) (old : T) (left : Collecting S) (new : T) : Type 0 where
  pub service : KeepsService means old helper.service new left.service
  pub producer : left.producer ≡ helper.producer
  pub serves : means.serves new left.service.seat

-- a writer's own step keeps all of it
step_keeps : {T W S : Type 0} (means : Meaning T W S) (helper : Collecting S) (old : T) (seat : W) (new : T) (after : W) → IsWriterStep means old seat new after
    → means.serves old helper.service.seat → Keeps means helper old helper new
step_keeps means helper old seat new after step serves = record {
  service = keeps_step means old seat new after helper.service step serves;
  producer = refl;
  serves = still_serves means old seat new after helper.service step serves;
}

-- and so does a help
help_keeps : {T W S : Type 0} (means : Meaning T W S) (helper helped : Collecting S) (asking freed : T) (producer : ℕ) (answer : Bool)
    → Helps means helper asking producer answer helped freed → producer ≡ helper.producer → Keeps means helper asking helped freed
help_keeps means helper helped asking freed producer answer helps at = record {
  service = keeps_help means helper helped asking freed producer answer helps at;
  producer = helps.producer_is;
  serves = helps.step.seat_stays;
}

keeps_then : {T W S : Type 0} (means : Meaning T W S) (helper middle left : Collecting S) (old mid new : T) → Keeps means helper old middle mid
    → Keeps means middle mid left new → Keeps means helper old left new
keeps_then means helper middle left old mid new one two = record {
  service = keeps_each means old mid new helper.service middle.service left.service one.service two.service;
  producer = two.producer ∙ one.producer;
  serves = two.serves;
}

tries_keep : {T W S : Type 0} (means : Meaning T W S) (route : Route) {begins : Bool} {left : ℕ} {helper : Collecting S} {old : T} {seat : W} {stopped : Bool} {kept : Collecting S} {new : T} {after : W}
    → Tries (GetsChunk means route) (IsVainTry means route begins)
    (λ asked table answer behind freed. Helps means asked table route.spec.producer answer behind freed × LeavesWriters means table freed)
    left helper old seat stopped kept new after
    → helper.producer ≡ route.spec.producer → means.serves old helper.service.seat → Keeps means helper old kept new
tries_keep means route (Gains left helper old seat new after gets) producer serves = step_keeps means helper old seat new after gets.step serves
tries_keep means route (Again left helper old seat asking asker answer helped freed stopped kept new after vain helps more) producer serves =
    let help = help_keeps means helper helped asking freed route.spec.producer answer helps.0 (sym producer) in
    keeps_then means helper helper kept old asking new (step_keeps means helper old seat asking asker vain.vain.step serves)
    (keeps_then means helper helped kept asking freed new help (tries_keep means route more (help.producer ∙ producer) help.serves))
tries_keep means route (Ends helper old seat new after vain) producer serves = step_keeps means helper old seat new after vain.vain.step serves

pub works_keep : {T W S : Type 0} (means : Meaning T W S) (route : Route) {begins : Bool} (last : T → W → T → W → Type 0)
    → ((old : T) (seat : W) (new : T) (after : W) → last old seat new after → IsQuiet means old seat new after)
    → {helper : Collecting S} {old : T} {seat : W} {stopped : Bool} {left : Collecting S} {new : T} {after : W}
    → Works route.spec.policy (IsSilent means) last (GetsChunk means route) (IsVainTry means route begins) (IsOutNow means route)
    (λ asked table answer behind freed. Helps means asked table route.spec.producer answer behind freed × LeavesWriters means table freed)
    helper old seat stopped left new after
    → helper.producer ≡ route.spec.producer → means.serves old helper.service.seat → Keeps means helper old left new
works_keep means route last quiet (Done helper old seat new after ends) producer serves =
    let step = (quiet old seat new after ends).step in
    record { service = keeps_step means old seat new after helper.service step serves; producer = refl; serves = still_serves means old seat new after helper.service step serves }
works_keep means route last quiet (Silent helper old seat next moved stopped left new after silent works) producer serves =
    let step = silent.quiet.step in
    let rest = works_keep means route last quiet works producer (still_serves means old seat next moved helper.service step serves) in
    record {
      service = keeps_each means old next new helper.service helper.service left.service (keeps_step means old seat next moved helper.service step serves) rest.service;
      producer = rest.producer;
      serves = rest.serves;
    }
works_keep means route last quiet (Gets helper old seat next moved stopped left new after gets works) producer serves =
    let step = gets.step in
    let rest = works_keep means route last quiet works producer (still_serves means old seat next moved helper.service step serves) in
    record {
      service = keeps_each means old next new helper.service helper.service left.service (keeps_step means old seat next moved helper.service step serves) rest.service;
      producer = rest.producer;
      serves = rest.serves;
    }
works_keep means route last quiet (Helped helper old seat asking asker helped freed stopped left new after stalls out helps works) producer serves =
    let step = out.vain.step in
    let help = keeps_help means helper helped asking freed route.spec.producer true helps.0 (sym producer) in
    let rest = works_keep means route last quiet works (helps.0.producer_is ∙ producer) helps.0.step.seat_stays in
    record {
      service = keeps_each means old asking new helper.service helper.service left.service (keeps_step means old seat asking asker helper.service step serves)
          (keeps_each means asking freed new helper.service helped.service left.service help rest.service);
      producer = rest.producer ∙ helps.0.producer_is;
      serves = rest.serves;
    }
works_keep means route last quiet (Refused helper old seat asking asker left kept new after stalls out helps ends) producer serves =
    let step = out.vain.step in
    let help = keeps_help means helper left asking kept route.spec.producer false helps.0 (sym producer) in
    let own = (quiet kept asker new after ends).step in
    record {
      service = keeps_each means old asking new helper.service helper.service left.service (keeps_step means old seat asking asker helper.service step serves)
          (keeps_each means asking kept new helper.service left.service left.service help (keeps_step means kept asker new after left.service own helps.0.step.seat_stays));
      producer = helps.0.producer_is;
      serves = still_serves means kept asker new after left.service own helps.0.step.seat_stays;
    }
works_keep means route last quiet (Lost helper old seat mid between new after drops out ends) producer serves =
    let step = out.vain.step in
    let own = (quiet mid between new after ends).step in
    let middle = still_serves means old seat mid between helper.service step serves in
    record {
      service = keeps_each means old mid new helper.service helper.service helper.service (keeps_step means old seat mid between helper.service step serves)
          (keeps_step means mid between new after helper.service own middle);
      producer = refl;
      serves = still_serves means mid between new after helper.service own middle;
    }
works_keep means route last quiet (Tried helper old seat tries kept next moved stopped left new after trying tried works) producer serves =
    let one = tries_keep means route tried producer serves in
    keeps_then means helper kept left old next new one (works_keep means route last quiet works (one.producer ∙ producer) one.serves)
works_keep means route last quiet (GivesUp helper old seat tries left mid between new after trying tried ends) producer serves =
    let one = tries_keep means route tried producer serves in
    keeps_then means helper left left old mid new one (step_keeps means left mid between new after (quiet mid between new after ends).step one.serves)
