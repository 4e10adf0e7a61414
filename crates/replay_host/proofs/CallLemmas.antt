-- What a writer's call did, in one form for all calls.
use Rattle.std.proofs.Common.{◌≡◌, ◌∙◌, ℕ, ◌+◌, ◌<◌, ◌≤◌, Bool, true, false, List, [], ◌∷◌, ◌++◌, length, refl, sym, ap, subst, arith, length-append, inl, inr}
use Rattle.trace_base.specs.declared.policy.WriterPolicy.{WriterPolicy}
use Rattle.trace_base.specs.declared.policy.WriterPolicy.TheVariants.{Drops, Stalls, StallsThenDrops}
use Rattle.trace_model.specs.Calls.{Call, Begun}
use Rattle.model_laws.proofs.ChunkCountLemmas.{every_image_is_counted}
use Rattle.model_laws.proofs.LaterCallLemmas.{more_calls_take_more}
use Rattle.chunk_plain.specs.declared.tokens.TheConstants.{POSITION_LIMIT}
use Rattle.chunk_plain.specs.Histories.{completed_images}
use Rattle.chunk_plain.specs.Meaning.{Meaning}
use Rattle.chunk_plain.specs.Setup.{Setup}
use Rattle.chunk_plain.specs.Views.{WriterView}
use Rattle.trace_writer.specs.declared.ids.TheConstants.{PACKET_IDS}
use Rattle.trace_writer.specs.declared.state.Writer.{Writer}
use Rattle.trace_writer.specs.declared.writer.WriterCore.{WriterCore}
use Rattle.trace_writer.specs.Asked.{begins_one, noted_as}
use Rattle.trace_writer.specs.Calling.{MakesCall, NotesCall, fault_at}
use Rattle.std.proofs.Common.{Option, Some, None, Result}
use Rattle.std.specs.Prelude.{if◌then◌else◌}
use Rattle.trace_writer.specs.declared.fault.CallFault.{CallFault}
use Rattle.trace_writer.specs.declared.fault.CallFault.TheVariants as fault
use Rattle.trace_writer.specs.Core.{WriterAgrees, is_stalled, refusal_of, route_of}
use Rattle.trace_writer.specs.Helping.{WorksOn, Done, refuses, loses}
use Rattle.trace_writer.specs.Outcomes.{held_images, images_so_far, patches_so_far}
use Rattle.trace_writer.specs.Moments.{CallMoment, view_at}
use Rattle.trace_writer.specs.OwnSteps.{IsQuiet}
use Rattle.trace_writer.proofs.accounts.CutLaws.{agreeing_is_cut}
use Rattle.replay_model.specs.Does.{MayNeedChunk}
use Rattle.replay_host.specs.Asking.{IsReadyFor, IsCalled, IsStalledCall}
use Rattle.replay_host.proofs.ReadyLemmas.{between_is}
use Rattle.replay_host.proofs.WroteLemmas.{begun_many}

-- a call that stopped and isn't refused is one of a writer that loses packets
loses_by : (policy : WriterPolicy) (stopped : Bool) → refuses policy stopped ≡ false → stopped ≡ true → loses policy ≡ true
loses_by Drops stopped none is = refl
loses_by Stalls stopped none is = absurd (let never : true ≡ false = sym is ∙ none in cc)
loses_by (StallsThenDrops tries) stopped none is = refl

-- a call that may have asked for chunks
pub asked_called : {A H T W S : Type 0} {means : Meaning T W S} {needs : H → T → Type 0} {helps : H → T → ℕ → Bool → H → T → Type 0}
    {stopped : Bool} {before behind : CallMoment H T W} {answer : Result A CallFault} (call : Call)
    → MayNeedChunk call → MakesCall means needs helps call stopped before answer behind → fault_at means call before ≡ None → is_stalled behind.core ≡ false
    → IsCalled means needs helps call before.helper before.table before.core behind.helper behind.table behind.core
asked_called {stopped = stopped} {before = before} call may made none going =
    let asked = made.done none in let losing = loses_by (route_of before.core).spec.policy stopped (sym asked.stalls ∙ going) in
    record {
      agrees = made.agrees;
      going = going;
      needed = made.needed;
      others = made.others;
      stopped = stopped;
      drops = losing;
      lost = λ stops. asked.lost stops (losing stops);
      asks = inl may;
      works = asked.works;
      notes = asked.notes;
    }

-- a call that stopped and is refused is one of a writer that stalls
stalls_by : (policy : WriterPolicy) (stopped : Bool) → refuses policy stopped ≡ true → (policy ≡ Stalls) × (stopped ≡ true)
stalls_by Drops stopped is = absurd (let never : false ≡ true = is in cc)
stalls_by Stalls stopped is = (refl, is)
stalls_by (StallsThenDrops tries) stopped is = absurd (let never : false ≡ true = is in cc)

-- a call in which its writer stalled
pub asked_stalled : {A H T W S : Type 0} {means : Meaning T W S} {needs : H → T → Type 0} {helps : H → T → ℕ → Bool → H → T → Type 0}
    {stopped : Bool} {before behind : CallMoment H T W} {answer : Result A CallFault} (call : Call)
    → MayNeedChunk call → MakesCall means needs helps call stopped before answer behind → fault_at means call before ≡ None → is_stalled behind.core ≡ true
    → IsStalledCall means needs helps call before.helper before.table before.core behind.helper behind.table behind.core
asked_stalled {means = means} {helps = helps} {stopped = stopped} {before = before} {behind = behind} call may made none halted =
    let asked = made.done none in let route = route_of before.core in
    let by = stalls_by route.spec.policy stopped (sym asked.stalls ∙ halted) in
    record {
      may = may;
      policy_is = by.0;
      agrees = made.agrees;
      halted = halted;
      needed = made.needed;
      others = made.others;
      works = subst (λ (b : Bool). WorksOn means helps (IsQuiet means) (begins_one call) (route_of before.core)
          before.helper before.table before.core.seat b behind.helper behind.table behind.core.seat) by.1 asked.works;
      notes = asked.notes ∙ ap (λ (cs : List Call). (view_at means before).calls ++ cs)
          (ap (λ (b : Bool). noted_as b (route_of before.core).spec.policy call) by.1 ∙ ap (λ (p : WriterPolicy). noted_as true p call) by.0);
    }

-- a call that asks for none
pub quiet_called : {H T W S : Type 0} {means : Meaning T W S} (needs : H → T → Type 0) (helps : H → T → ℕ → Bool → H → T → Type 0)
    {call : Call} (helper : H) {old : T} {core : WriterCore W} {new : T} {after : WriterCore W} → NotesCall means call old core new after
    → is_stalled core ≡ false → needs helper new → call ∷ [] ≡ noted_as false (route_of core).spec.policy call
    → IsCalled means needs helps call helper old core helper new after
quiet_called {means = means} needs helps helper {old} {core} {new} {after} made going needed is =
    let quiet = made.quiet in
    record {
      agrees = made.agrees;
      going = made.goes ∙ going;
      needed = needed;
      others = record {
        setup_stays = quiet.step.setup_stays;
        seat_stays = quiet.step.seat_stays;
        place_stays = quiet.step.place_stays;
        writers_stay = quiet.step.writers_stay;
        letters_stay = quiet.step.letters_stay;
      };
      stopped = false;
      drops = λ never. absurd (let wrong : false ≡ true = never in cc);
      lost = λ never. absurd (let wrong : false ≡ true = never in cc);
      asks = inr (refl, quiet);
      works = Done helper old core.seat new after.seat quiet;
      notes = made.notes going ∙ ap (λ (cs : List Call). (means.view old core.seat).calls ++ cs) is;
    }

-- There are ids enough for a packet that is to come.
pub ids_enough : (setup : Setup) (place : ℕ) (view : WriterView) (writer : Writer) (coming : List Call) → WriterAgrees setup place view writer
    → IsReadyFor writer.route.payload_size view (Begun true ∷ coming) → length view.begun + PACKET_IDS ≤ POSITION_LIMIT
ids_enough setup place view writer coming agrees ready =
    let size : ℕ = writer.route.payload_size in
    let cut = agreeing_is_cut setup place view writer agrees in
    let least = agrees.writes.route.least in
    let wide : 7 < size = omega arith in
    let images = every_image_is_counted size (place + 2) ready.asked view.calls (images_so_far place view writer) (patches_so_far view writer) ready.loses cut.cut
    agrees.possible (between_is ready.asked view ready.loses ready.accepted.0.1) wide in
    let more = more_calls_take_more size ready.asked (Begun true ∷ coming) ready.possible in
    let long = length-append (completed_images view.begun) (held_images place writer.state) in
    let many = begun_many setup place view writer agrees.writes writer.state refl in
    let few = ready.few in
    omega (arith, images, more, long, many, few)

-- a writer that isn't stalled refuses nothing that its packet allows
pub none_refused : {S : Type 0} (core : WriterCore S) {asked : Option CallFault} → asked ≡ None → is_stalled core ≡ false → refusal_of core asked ≡ None
none_refused core none going =
    ap (refusal_of core) none ∙ ap (λ (b : Bool). if b then Some fault.Stalled else None) going
