-- What a call in which its writer stalls makes of the service and of the world.
use Rattle.std.proofs.Common.{◌≡◌, ◌∙◌, ℕ, ◌<◌, ◌≤◌, ◌==◌, ◌⊎◌, inl, inr, Bool, true, false, not, Some, List, [], ◌++◌, length, length-set, get_or, set, refl, sym, ap, subst, arith}
use Rattle.std.specs.Prelude.{◌≢◌, slice_get, slice_index_or}
use Rattle.std.proofs.lemmas.Bool.{cases_eq, ne_eqb}
use Rattle.std.proofs.lemmas.Option.{slice_get-get_or, slice_get_within, same_Some}
use Rattle.trace_base.specs.declared.policy.WriterPolicy.TheVariants.{Drops, Stalls, StallsThenDrops}
use Rattle.trace_base.specs.declared.policy.WriterSpec.{WriterSpec}
use Rattle.trace_model.specs.Calls.{Call}
use Rattle.claim_arbiter.specs.Claiming.{range_in}
use Rattle.chunk_plain.specs.declared.tokens.TheConstants.{POSITION_LIMIT}
use Rattle.chunk_plain.specs.Histories.{completed_images}
use Rattle.chunk_plain.specs.Meaning.{Meaning}
use Rattle.chunk_plain.specs.Owned.{IsOwned}
use Rattle.chunk_plain.specs.Setup.{Setup, HasProducer, range_of, producer_of, ProducersAreApart}
use Rattle.chunk_plain.specs.Views.{WriterView, ServiceView, newcomer}
use Rattle.chunk_plain.specs.World.{World, Unclaimed, status, writer}
use Rattle.trace_writer.specs.declared.route.Route.{Route}
use Rattle.trace_writer.specs.declared.writer.WriterCore.{WriterCore}
use Rattle.trace_writer.specs.Asked.{begins_one, noted_as}
use Rattle.trace_writer.specs.Core.{CoreAgrees, route_of}
use Rattle.trace_writer.specs.Helping.{LeavesWriters, Works, Done, Silent, Gets, Helped, Refused, Lost, Tried, GivesUp}
use Rattle.trace_writer.specs.OwnSteps.{KeepsChunks, NoneHeld, IsQuiet, IsSilent, GetsChunk, IsVainTry, IsOutNow}
use Rattle.service_core.proofs.AnswerLemmas.{LeavesTaken, takes_nothing}
use Rattle.service_core.specs.Agreement.{spec_at}
use Rattle.service_core.specs.Taking.{places_of}
use Rattle.replay_model.specs.Does as acts
use Rattle.replay_model.specs.Does.{LeavesRest, GoesRound, MayNeedChunk, IsOut, Collects, policy_of}
use Rattle.replay_model.proofs.StandsLemmas.{works_others}
use Rattle.replay_host.specs.declared.helper.Collecting.{Collecting}
use Rattle.replay_host.specs.Asking.{IsStalledCall, KeepsService}
use Rattle.replay_host.specs.Helping.{MayHelp, Helps}
use Rattle.replay_host.specs.Standing.{IsSeated, Stands}
use Rattle.replay_host.specs.Stopping.{StallsIn}
use Rattle.replay_host.proofs.AskedLemmas.{all_sit, route_is, set_here, set_there}
use Rattle.replay_host.proofs.KeepLemmas.{works_keep}
use Rattle.replay_host.proofs.RowLemmas.{AreLaws, row_is}
use Rattle.replay_host.proofs.StuckLemmas.{IsTidy, tidy_is, stalled_holds_none, IsStuck, others_write, others_wrote, none_freed, none_left_still}
use Rattle.replay_host.proofs.WorkLemmas.{Begins, none_between, begins_quiet, begins_gets, begins_out, begins_helped, out_is, own_first, leaves_none, quiet_leaves, gets_leaves, round_is, helped_world, collects_world}

-- a help that takes nothing
abbrev pub TakesNothing : Setup → (producer : ℕ) → (old new : World) → Type 0
TakesNothing setup producer old new = (collects : Collects setup producer old new) × (collects.taken ≡ 0)

-- What a work in which the writer stalls comes to in the worlds that are told: behind a round in vain a last help takes nothing, and then it
-- does its own last steps.
pub record StallsTo (setup : Setup) (place : ℕ) (call : Call) (was is : World) : Type 0 where
  pub trying : World
  pub asking : World
  pub kept : World
  pub works : acts.Works setup place call false was trying
  pub round : GoesRound setup place trying asking
  pub out : IsOut setup place asking
  pub help : TakesNothing setup (producer_of setup place) asking kept
  pub own : LeavesRest place kept is
  pub asked : (writer is place).asked ≡ (writer kept place).asked
  pub frees : (chunk : ℕ) → status is chunk ≡ Unclaimed → status kept chunk ≡ Unclaimed
  pub idle : asking.service.reading ≡ []
  pub owned_kept : ∥ IsOwned kept ∥₁
  pub chunks : KeepsChunks (writer kept place).begun (writer is place).begun
  pub held : NoneHeld (writer kept place).begun

-- the same behind what came before
stalls_from : (setup : Setup) (place : ℕ) (call : Call) (was mid is : World) (to : StallsTo setup place call mid is)
    → acts.Works setup place call false was to.trying → StallsTo setup place call was is
stalls_from setup place call was mid is to works = record {
  trying = to.trying;
  asking = to.asking;
  kept = to.kept;
  works = works;
  round = to.round;
  out = to.out;
  help = to.help;
  own = to.own;
  asked = to.asked;
  frees = to.frees;
  idle = to.idle;
  owned_kept = to.owned_kept;
  chunks = to.chunks;
  held = to.held;
}

none_taken : (taken : ℕ) → false ≡ not (taken == 0) → taken ≡ 0
none_taken taken is = elim (cases_eq taken 0) [
  | inl same ↦ same
  | inr some ↦ (let never : false ≡ true = is ∙ ap not (ne_eqb taken 0 some) in absurd cc)
]

pub stalls_world : {T W S : Type 0} (means : Meaning T W S) → AreLaws means → (setup : Setup) (place : ℕ) (route : Route) (call : Call) → MayNeedChunk call
    → range_of setup (producer_of setup place) ≡ range_in route.arbiter → route.spec.producer ≡ producer_of setup place
    → route.spec.policy ≡ policy_of setup place
    → route.spec.policy ≡ Stalls
    → {helper : Collecting S} {old : T} {seat : W} {stopped : Bool} {left : Collecting S} {new : T} {after : W}
    → Works route.spec.policy (IsSilent means) (IsQuiet means) (GetsChunk means route) (IsVainTry means route (begins_one call)) (IsOutNow means route)
    (λ asked table answer behind freed. Helps means asked table route.spec.producer answer behind freed × LeavesWriters means table freed)
    helper old seat stopped left new after
    → stopped ≡ true → Begins means setup place route helper old seat
    → (was : World) → means.told old ≡ Some was → (is : World) × (means.told new ≡ Some is) × StallsTo setup place call was is
stalls_world means laws setup place route call may range producer policy stalls (Done helper old seat new after ends) halted begins was told =
    absurd (let never : false ≡ true = halted in cc)
stalls_world means laws setup place route call may range producer policy stalls
    (Silent helper old seat next moved stopped left new after silent works) halted begins was told =
    let mid = silent.quiet.frees_none was told in
    let rest = stalls_world means laws setup place route call may range producer policy stalls works halted
    (begins_quiet means setup place route helper old seat next moved silent.quiet begins) mid.0 mid.1 in (
      rest.0,
      rest.1,
      stalls_from setup place call was mid.0 rest.0 rest.2 (own_first setup place was
          (quiet_leaves means laws setup place route helper old seat next moved silent.quiet begins was mid.0 told mid.1) rest.2.works),
    )
stalls_world means laws setup place route call may range producer policy stalls (Gets helper old seat next moved stopped left new after gets works)
    halted begins was told =
    let mid = gets.frees_none was told in
    let rest = stalls_world means laws setup place route call may range producer policy stalls works halted
    (begins_gets means setup place route helper old seat next moved range gets begins) mid.0 mid.1 in (
      rest.0,
      rest.1,
      stalls_from setup place call was mid.0 rest.0 rest.2 (own_first setup place was
          (gets_leaves means laws setup place route helper old seat next moved gets begins was mid.0 told mid.1) rest.2.works),
    )
stalls_world means laws setup place route call may range producer policy stalls
    (Helped helper old seat asking asker helped freed stopped left new after waits out helps works) halted begins was told =
    let mid = out.vain.none_free was told in
    let asked = begins_out means setup place route helper old seat asking asker out.vain begins in
    let help = helped_world means laws helper helped asking freed route.spec.producer helps.0 (sym begins.producer) mid.0 mid.1 in
    let rest = stalls_world means laws setup place route call may range producer policy stalls works halted
    (begins_helped means setup place route helper helped asking freed asker true out.vain.step.seat_stays asked helps.0 helps.1) help.0 help.1 in (
      rest.0,
      rest.1,
      stalls_from setup place call was help.0 rest.0 rest.2 (acts.Helped false was was mid.0 help.0 rest.2.trying may (sym policy ∙ stalls) (leaves_none place was)
          (round_is means laws setup place route helper old seat asking asker range out.vain begins was mid.0 told mid.1)
          (out_is means laws setup place route helper old seat asking asker range out asked mid.0 mid.1 mid.2)
          (subst (λ (p : ℕ). Collects setup p mid.0 help.0) producer
          (subst (λ (s : Setup). Collects s route.spec.producer mid.0 help.0) asked.setup_is help.2))
          (laws.told_owned freed help.0 help.1) help.3 rest.2.works),
    )
stalls_world means laws setup place route call may range producer policy stalls
    (Refused helper old seat asking asker left kept new after waits out helps ends) halted begins was told =
    let mid = out.vain.none_free was told in
    let asked = begins_out means setup place route helper old seat asking asker out.vain begins in
    let help = collects_world means laws helper left asking kept route.spec.producer false helps.0 (sym begins.producer) mid.0 mid.1 in
    let behind = begins_helped means setup place route helper left asking kept asker false out.vain.step.seat_stays asked helps.0 helps.1 in
    let last = ends.frees_none help.0 help.1 in
    let stays = helps.1.writers_stay asker out.vain.step.seat_stays in
    let row_kept = row_is means laws kept help.0 help.1 place asker stays.0 asked.place_is in
    let row_new = row_is means laws new last.0 last.1 place after ends.step.seat_stays (ends.step.place_stays ∙ asked.place_is) in (
      last.0,
      last.1,
      record {
        trying = was;
        asking = mid.0;
        kept = help.0;
        works = acts.Alone was was (leaves_none place was);
        round = round_is means laws setup place route helper old seat asking asker range out.vain begins was mid.0 told mid.1;
        out = out_is means laws setup place route helper old seat asking asker range out asked mid.0 mid.1 mid.2;
        help = subst (λ (p : ℕ). TakesNothing setup p mid.0 help.0) producer
            (subst (λ (s : Setup). TakesNothing s route.spec.producer mid.0 help.0) asked.setup_is (help.2, none_taken help.2.taken help.3));
        own = quiet_leaves means laws setup place route left kept asker new after ends behind help.0 last.0 help.1 last.1;
        asked = ap (λ (v : WriterView). v.asked) row_new ∙ ends.asked ∙ ap (λ (v : WriterView). v.asked) (sym row_kept);
        frees = last.2;
        idle = ap (λ (v : ServiceView). v.reading) (sym
            (laws.told_service_view asking helper.service.seat mid.0 mid.1 helps.0.may.served.serves))
            ∙ helps.0.may.served.agrees.none_read;
        owned_kept = laws.told_owned kept help.0 help.1;
        chunks = subst (λ (v : WriterView). KeepsChunks v.begun (writer last.0 place).begun) (sym row_kept)
            (subst (λ (v : WriterView). KeepsChunks (means.view kept asker).begun v.begun) (sym row_new) ends.chunks);
        held = subst (λ (v : WriterView). NoneHeld v.begun) (sym (row_kept ∙ stays.1)) out.none_held;
      },
    )
stalls_world means laws setup place route call may range producer policy stalls (Lost helper old seat mid between new after drops out ends) halted
    begins was told =
    absurd (let never : Stalls ≡ Drops = sym stalls ∙ drops in cc)
stalls_world means laws setup place route call may range producer policy stalls (Tried helper old seat tries kept next moved stopped left new after trying tried works)
    halted begins was told =
    absurd (let never : Stalls ≡ StallsThenDrops tries = sym stalls ∙ trying in cc)
stalls_world means laws setup place route call may range producer policy stalls (GivesUp helper old seat tries left mid between new after trying tried ends)
    halted begins was told =
    absurd (let never : Stalls ≡ StallsThenDrops tries = sym stalls ∙ trying in cc)

-- each of these writers has completed at most as many chunks as there are ids
abbrev pub FitAll : {W : Type 0} → List (WriterCore W) → Type 0
FitAll {W} cores = (place : ℕ) (one : WriterCore W) → slice_get cores place ≡ Some one → (setup : Setup) (view : WriterView)
    → CoreAgrees setup place view one → length (completed_images view.begun) ≤ POSITION_LIMIT

module _ {T W S : Type 0} (means : Meaning T W S) (laws : AreLaws means) (call : Call) (place : ℕ)
    (old : T) (cores : List (WriterCore W)) (helper : Collecting S) (core : WriterCore W)
    (new : T) (left : Collecting S) (after : WriterCore W)
    (stands : Stands means old cores helper.service) (apart : ProducersAreApart (means.setup old)) (at : slice_get cores place ≡ Some core)
    (producer : helper.producer ≡ producer_of (means.setup old) place)
    (stalled : IsStalledCall means (MayHelp means) (Helps means) call helper old core left new after)
  where
    seated : IsSeated means old place core
    seated = stands.seated place core at

    spec_is : (route_of core).spec ≡ spec_at (means.setup old).writers place
    spec_is = route_is (means.setup old) place (route_of core) seated.agrees.writes.route

    producer_is : helper.producer ≡ (route_of core).spec.producer
    producer_is = producer ∙ ap (λ (s : WriterSpec). s.producer) (sym spec_is)

    -- no record was written meanwhile
    pub stalled_keeps : KeepsService means old helper.service new left.service
    stalled_keeps = (works_keep means (route_of core) _ (λ table seat next moved quiet. quiet) stalled.works producer_is
        stands.served.serves).service

    -- the writer noted what is noted of a call in which it stalls
    pub stalled_own : (was is : WriterCore W) → slice_get cores place ≡ Some was → slice_get (set cores place after) place ≡ Some is
        → (means.view new is.seat).calls ≡ (means.view old was.seat).calls ++ noted_as true Stalls call
    stalled_own was is before behind =
        ap (λ (c : WriterCore W). (means.view new c.seat).calls) (set_here cores place after place is behind refl)
        ∙ stalled.notes
        ∙ ap (λ (c : WriterCore W). (means.view old c.seat).calls ++ noted_as true Stalls call) (sym (same_Some was core (sym before ∙ at)))

    -- and the others nothing
    pub stalled_others : (other : ℕ) (was is : WriterCore W) → other ≢ place → slice_get cores other ≡ Some was
        → slice_get (set cores place after) other ≡ Some is → (means.view new is.seat).calls ≡ (means.view old was.seat).calls
    stalled_others other was is differs before behind =
        let same : is ≡ was = same_Some _ _ (sym (set_there cores place after other is behind differs) ∙ before) in
        let here = stands.seated other was before in
        let stays = stalled.others.writers_stay was.seat here.sits (λ at_own. differs (sym here.place_is ∙ at_own ∙ seated.place_is)) in
        ap (λ (c : WriterCore W). (means.view new c.seat).calls) same ∙ ap (λ (v : WriterView). v.calls) stays.1

    below : place < length (means.setup old).writers
    below = let inside = slice_get_within cores place core at in let many = stands.many in omega (arith, inside, many)

    agrees : CoreAgrees (means.setup old) place (means.view new after.seat) after
    agrees = subst (λ (p : ℕ). CoreAgrees (means.setup old) p (means.view new after.seat) after) seated.place_is stalled.agrees

    has : (number : ℕ) (one : WriterCore W) (view : WriterView) → CoreAgrees (means.setup old) number view one
        → HasProducer (means.setup old) (producer_of (means.setup old) number)
    has number one view agreed = subst (λ (p : ℕ). HasProducer (means.setup old) p)
        (ap (λ (s : WriterSpec). s.producer) (route_is (means.setup old) number (route_of one) agreed.writes.route))
        agreed.writes.route.producer

    -- each writer is between two calls
    tidy_all : FitAll (set cores place after) → (is : World) → means.told new ≡ Some is → (other : ℕ)
        → other < length (means.setup old).writers
        → IsTidy (means.setup old) other (writer is other)
    tidy_all fits is told other inside = by_place (cases_eq other place)
      where
        one : WriterCore W
        one = get_or (set cores place after) other core

        read : slice_get (set cores place after) other ≡ Some one
        read = slice_get-get_or (set cores place after) other core
            (let many = stands.many in let long = length-set cores place after in omega (arith, many, long, inside))

        by_place : (other ≡ place) ⊎ (other ≡ place → ⊥) → IsTidy (means.setup old) other (writer is other)
        by_place (inl same) =
            let agreed : CoreAgrees (means.setup old) other (means.view new after.seat) after =
            subst (λ (p : ℕ). CoreAgrees (means.setup old) p (means.view new after.seat) after) (sym same) agrees in
            let few = subst (λ (c : WriterCore W). CoreAgrees (means.setup old) other (means.view new after.seat) c → length
            (completed_images (means.view new after.seat).begun) ≤ POSITION_LIMIT)
            (set_here cores place after other one read same) (fits other one read (means.setup old) (means.view new after.seat)) in
            subst (λ (v : WriterView). IsTidy (means.setup old) other v)
            (sym (row_is means laws new is told other after.seat stalled.others.seat_stays
            (stalled.others.place_stays ∙ seated.place_is ∙ sym same)))
            (tidy_is (means.setup old) other (means.view new after.seat) after.writer agreed (few agreed)
            (has other after (means.view new after.seat) agreed))
        by_place (inr differs) =
            let was = stands.seated other one (set_there cores place after other one read differs) in
            let stays = stalled.others.writers_stay one.seat was.sits (λ same. differs (sym was.place_is ∙ same ∙ seated.place_is)) in
            subst (λ (v : WriterView). IsTidy (means.setup old) other v)
            (sym (row_is means laws new is told other one.seat stays.0 was.place_is ∙ stays.1))
            (tidy_is (means.setup old) other (means.view old one.seat) one.writer was.agrees
            (fits other one read (means.setup old) (means.view old one.seat) was.agrees) (has other one (means.view old one.seat) was.agrees))

    -- In the world that is told, each chunk of the producer is being written by another writer.
    pub stalled_told : FitAll (set cores place after) → (was : World) → means.told old ≡ Some was
        → (is : World) × (means.told new ≡ Some is) × StallsIn (means.setup old) place call was is
    stalled_told fits was told_was = (
      to.0,
      to.1,
      record {
        may = stalled.may;
        policy_is = ap (λ (s : WriterSpec). s.policy) (sym spec_is) ∙ stalled.policy_is;
        trying = to.2.trying;
        asking = to.2.asking;
        kept = to.2.kept;
        works = to.2.works;
        round = to.2.round;
        out = to.2.out;
        collects = to.2.help.0;
        none = to.2.help.1;
        owned_kept = to.2.owned_kept;
        own = to.2.own;
        asked = to.2.asked;
        owned = owned_new;
        stuck = others_write (means.setup old) (producer_of (means.setup old) place) place to.0 stuck;
        before = others_wrote (means.setup old) (producer_of (means.setup old) place) place was to.0 (laws.told_owned old was told_was) owned_new
            (λ other apart. to.2.own.writers other apart ∙ ap (λ (vs : List WriterView). slice_index_or vs other newcomer) to.2.help.0.writers
            ∙ to.2.round.leaves.writers other apart
            ∙ works_others (means.setup old) place was to.2.trying to.2.works other apart)
            (others_write (means.setup old) (producer_of (means.setup old) place) place to.0 stuck);
      },
    )
      where
        to : (is : World) × (means.told new ≡ Some is) × StallsTo (means.setup old) place call was is
        to = stalls_world means laws (means.setup old) place (route_of core) call stalled.may seated.agrees.writes.route.range
            (ap (λ (s : WriterSpec). s.producer) spec_is)
            (ap (λ (s : WriterSpec). s.policy) spec_is) stalled.policy_is stalled.works refl
            (record {
              setup_is = refl;
              place_is = seated.place_is;
              sits = seated.sits;
              sit = all_sit means old cores helper.service core stands;
              serves = stands.served.serves;
              producer = producer_is;
              none_out = none_between (means.setup old) place (means.view old core.seat) seated.agrees.claims;
            }) was told_was

        nothing : LeavesTaken to.2.asking.service to.2.kept.service
        nothing = takes_nothing (means.setup old) (places_of (producer_of (means.setup old) place) 0 (means.setup old).writers)
            to.2.help.0.taken
            to.2.asking.service to.2.kept.service to.2.help.0.takes to.2.help.1

        owned_new : ∥ IsOwned to.0 ∥₁
        owned_new = laws.told_owned new to.0 to.1

        stuck : IsStuck (means.setup old) (producer_of (means.setup old) place) place to.0
        stuck = record {
          owned = owned_new;
          many = laws.told_writers new to.0 to.1 ∙ ap (λ (s : Setup). length s.writers) stalled.others.setup_stays;
          tidy = tidy_all fits to.0 to.1;
          full = λ chunk least inside free. none_freed to.2.asking to.2.kept to.2.out.vain.owned to.2.owned_kept to.2.help.0.writers
              nothing.taken to.2.idle chunk
              (to.2.frees chunk free) (to.2.out.vain.none_free chunk least inside);
          none_left = none_left_still (means.setup old) (producer_of (means.setup old) place) place to.2.kept to.0 to.2.owned_kept owned_new
              to.2.own to.2.chunks to.2.held
              to.2.help.0.none_left;
          none_read = ap (λ (v : ServiceView). v.reading)
              (sym (laws.told_service_view new left.service.seat to.0 to.1 stalled.needed.served.serves))
              ∙ stalled.needed.served.agrees.none_read;
          own = subst (λ (v : WriterView). NoneHeld v.begun)
              (sym (row_is means laws new to.0 to.1 place after.seat stalled.others.seat_stays
              (stalled.others.place_stays ∙ seated.place_is)))
              (stalled_holds_none (means.setup old) place (means.view new after.seat) after.writer agrees.writes after.writer.state refl
              stalled.halted);
          apart = apart;
          has = has place core (means.view old core.seat) seated.agrees;
        }
