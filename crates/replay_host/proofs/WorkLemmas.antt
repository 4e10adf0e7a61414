-- A writer's work, with the helps that it asks for, as steps over worlds.
use Rattle.std.proofs.Common.{◌≡◌, ◌≢◌, ◌∙◌, ℕ, ◌+◌, refl, sym, ap, subst, arith, Bool, true, false, not, ◌==◌, Some, None, List, [], ◌∷◌, ◌++◌, length, append_assoc, append-nil}
use Rattle.trace_base.specs.declared.policy.WriterPolicy.{WriterPolicy}
use Rattle.trace_base.specs.declared.policy.WriterPolicy.TheVariants.{Drops, StallsThenDrops}
use Rattle.trace_model.specs.Calls.{Call, Begun, Number, Bytes, Nested, Ended, GivenUp, Finished, Flushed}
use Rattle.claim_arbiter.specs.Claiming.{NoneFree, AllClaimed, ClaimsInTurn, lost_asks, range_in}
use Rattle.chunk_plain.specs.declared.setup.ChunkRange.{ChunkRange}
use Rattle.chunk_plain.specs.Setup.{Setup, range_of, producer_of}
use Rattle.chunk_plain.specs.Views.{Ask, BegunChunk, WriterView, ServiceView, fresh}
use Rattle.chunk_plain.specs.Meaning.{Meaning, IsWriterStep}
use Rattle.chunk_plain.specs.World.{World, Unclaimed, status, writer}
use Rattle.trace_writer.specs.declared.route.Route.{Route}
use Rattle.trace_writer.specs.Asked.{begins_one}
use Rattle.trace_writer.specs.Claims.{AreOwnChunks, KeepsClaims}
use Rattle.trace_writer.specs.Helping.{LeavesWriters, refuses, loses, Tries, Gains, Again, Ends, Works, Done, Silent, Gets, Helped, Refused, Lost, Tried, GivesUp}
use Rattle.trace_writer.specs.OwnSteps.{KeepsChunks, NoneHeld, IsQuiet, IsSilent, GetsChunk, IsInVain, IsVainTry, IsOutNow}
use Rattle.service_core.specs.Taking.{Takes, places_of}
use Rattle.service_core.specs.Told.{LeavesNone}
use Rattle.replay_model.specs.Does as acts
use Rattle.replay_model.specs.Does.{LeavesRest, GoesRound, HasNoFreeChunk, MayNeedChunk, IsVainIn, IsOut, policy_of, asks_for, HoldsNoneAt, AreOpen, Collects}
use Rattle.replay_model.proofs.ShutLemmas.{open_is}
use Rattle.replay_host.specs.declared.helper.Collecting.{Collecting}
use Rattle.replay_host.specs.Helping.{Helps, Collected}
use Rattle.trace_writer.proofs.claims.KeepingClaims.{chunks_kept, chunks_more}
use Rattle.service_core.proofs.AnswerLemmas.{takes_something}
use Rattle.replay_host.proofs.RowLemmas.{AreLaws, AllSit, AsksMore, row_is, sit_after, sit_helped, own_step}

-- no step at all
pub leaves_none : (place : ℕ) (world : World) → LeavesRest place world world
leaves_none place world = record { writers = λ other apart. refl; service = refl; more = []; asked = sym (append-nil (writer world place).asked) }

-- own steps one behind another
pub leaves_both : (place : ℕ) (old mid new : World) → LeavesRest place old mid → LeavesRest place mid new → LeavesRest place old new
leaves_both place old mid new first second = record {
  writers = λ other apart. second.writers other apart ∙ first.writers other apart;
  service = second.service ∙ first.service;
  more = first.more ++ second.more;
  asked = second.asked ∙ ap (λ (asks : List Ask). asks ++ second.more) first.asked ∙ append_assoc (writer old place).asked first.more second.more;
}

-- own steps before a work
pub own_first : (setup : Setup) (place : ℕ) {call : Call} {stopped : Bool} (old : World) {mid new : World} → LeavesRest place old mid
    → acts.Works setup place call stopped mid new → acts.Works setup place call stopped old new
own_first setup place old first (acts.Alone mid new leaves) = acts.Alone old new (leaves_both place old mid new first leaves)
own_first setup place old first (acts.Helped stopped mid before asking freed new may stalls leaves round out collects owned some works) =
    acts.Helped stopped old before asking freed new may stalls (leaves_both place old mid before first leaves) round out collects owned some works
own_first setup place old first (acts.Tried stopped mid before gained new tries may trying leaves tried works) =
    acts.Tried stopped old before gained new tries may trying (leaves_both place old mid before first leaves) tried works
own_first setup place old first (acts.Lost mid before last new may losing leaves tried ends asked) =
    acts.Lost old before last new may losing (leaves_both place old mid before first leaves) tried ends asked

-- where no chunk comes free, none is free behind it
pub none_free_still : (first last : ℕ) (was is : World) → ((chunk : ℕ) → status is chunk ≡ Unclaimed → status was chunk ≡ Unclaimed)
    → NoneFree was first last → NoneFree is first last
none_free_still first last was is frees none chunk least below unclaimed = none chunk least below (frees chunk unclaimed)

-- the range of a route is that of its producer
pub full_is : (setup : Setup) (place : ℕ) (route : Route) (world : World) → range_of setup (producer_of setup place) ≡ range_in route.arbiter
    → NoneFree world route.arbiter.first (route.arbiter.first + route.arbiter.chunks) → HasNoFreeChunk setup (producer_of setup place) world
full_is setup place route world range none =
    subst (λ (r : ChunkRange). NoneFree world r.first (r.first + r.count)) (sym range) none

-- a help, as an act over worlds: it answers whether it took a chunk
pub collects_world : {T W S : Type 0} (means : Meaning T W S) → AreLaws means → (helper helped : Collecting S) (asking freed : T) (producer : ℕ) (answer : Bool)
    → Helps means helper asking producer answer helped freed → producer ≡ helper.producer → (was : World) → means.told asking ≡ Some was
    → (is : World) × (means.told freed ≡ Some is) × (collects : Collects (means.setup asking) producer was is) × (answer ≡ not (collects.taken == 0))
collects_world {T} {W} {S} means laws helper helped asking freed producer answer helps at was told_was = (
  told.new,
  told.told_is,
  record {
    opened = subst (λ (v : ServiceView). AreOpen (means.setup asking) producer v) view_was
        (subst (λ (p : ℕ). AreOpen (means.setup asking) p (means.service_view asking helper.service.seat)) (sym at)
        (open_is (means.setup asking) (means.service_view asking helper.service.seat) helper.service helper.producer helps.may.served.agrees helps.may.opened));
    writers = told.stands.writers;
    taken = some.0;
    takes = subst (λ (v : ServiceView). Takes (means.setup asking) (places_of producer 0 (means.setup asking).writers) some.0 v told.new.service) view_was
        (subst (λ (v : ServiceView). Takes (means.setup asking) (places_of producer 0 (means.setup asking).writers) some.0
        (means.service_view asking helper.service.seat) v) (sym told.stands.service) some.2.takes);
    none_left = told.none_left;
  },
  some.1,
)
  where
    some : (taken : ℕ) × (answer ≡ not (taken == 0)) × Collected means producer asking helper.service taken freed helped.service
    some = helps.collected at

    told : LeavesNone (means.setup asking) producer was (means.told freed) (means.service_view freed helped.service.seat)
    told = some.2.told was told_was

    view_was : means.service_view asking helper.service.seat ≡ was.service
    view_was = laws.told_service_view asking helper.service.seat was told_was helps.may.served.serves

-- one that freed a chunk
pub helped_world : {T W S : Type 0} (means : Meaning T W S) → AreLaws means → (helper helped : Collecting S) (asking freed : T) (producer : ℕ)
    → Helps means helper asking producer true helped freed → producer ≡ helper.producer → (was : World) → means.told asking ≡ Some was
    → (is : World) × (means.told freed ≡ Some is) × Collects (means.setup asking) producer was is × (is.service.events ≢ was.service.events)
helped_world means laws helper helped asking freed producer helps at was told_was =
    let help = collects_world means laws helper helped asking freed producer true helps at was told_was in (
      help.0,
      help.1,
      help.2,
      takes_something (means.setup asking) (places_of producer 0 (means.setup asking).writers) help.2.taken was.service help.0.service help.2.takes
          (λ zero_is. let never : true ≡ false = help.3 ∙ ap (λ (n : ℕ). not (n == 0)) zero_is in cc),
    )

-- what a work comes to in the worlds that are told
pub record WorksTo (setup : Setup) (place : ℕ) (call : Call) (policy : WriterPolicy) (stopped : Bool) (was is : World) : Type 0 where
  pub works : acts.Works setup place call stopped was is
  pub full : stopped ≡ true → HasNoFreeChunk setup (producer_of setup place) is

-- ---- what a writer has out

-- What its steps keep between two calls and within one: no claim is out, and all that it began are chunks of its producer.
pub record NoneOut (setup : Setup) (place : ℕ) (view : WriterView) : Type 0 where
  pub unclaimed : view.claimed ≡ []
  pub unstamped : view.stamped ≡ None
  pub own_chunks : AreOwnChunks setup (producer_of setup place) view.begun

pub none_between : (setup : Setup) (place : ℕ) (view : WriterView) → KeepsClaims setup place view → NoneOut setup place view
none_between setup place view claims = record { unclaimed = claims.unclaimed; unstamped = claims.unstamped; own_chunks = claims.own_chunks }

module _ {T W S : Type 0} (means : Meaning T W S) (setup : Setup) (place : ℕ) where
  none_quiet : (old : T) (seat : W) (new : T) (after : W) → IsQuiet means old seat new after → NoneOut setup place (means.view old seat)
      → NoneOut setup place (means.view new after)
  none_quiet old seat new after quiet none = record {
    unclaimed = quiet.claimed ∙ none.unclaimed;
    unstamped = quiet.stamped ∙ none.unstamped;
    own_chunks = chunks_kept setup (producer_of setup place) (means.view old seat).begun (means.view new after).begun quiet.chunks none.own_chunks;
  }

  none_gets : (route : Route) (old : T) (seat : W) (new : T) (after : W) → range_of setup (producer_of setup place) ≡ range_in route.arbiter
      → GetsChunk means route old seat new after → NoneOut setup place (means.view old seat) → NoneOut setup place (means.view new after)
  none_gets route old seat new after range gets none =
      let first : (range_of setup (producer_of setup place)).first ≡ route.arbiter.first = ap (λ (r : ChunkRange). r.first) range in
      let count : (range_of setup (producer_of setup place)).count ≡ route.arbiter.chunks = ap (λ (r : ChunkRange). r.count) range in
      let view = gets.claims.view in
      record {
        unclaimed = ap (λ (v : WriterView). v.claimed) view ∙ none.unclaimed;
        unstamped = ap (λ (v : WriterView). v.stamped) view ∙ none.unstamped;
        own_chunks = subst (AreOwnChunks setup (producer_of setup place)) (sym (ap (λ (v : WriterView). v.begun) view))
            (chunks_more setup (producer_of setup place) gets.chunk (fresh gets.claims.payload) (means.view old seat).begun
            (record { least = omega (arith, first, gets.claims.least); below = omega (arith, first, count, gets.claims.below) }) none.own_chunks);
      }

  none_now : (route : Route) (old : T) (seat : W) (new : T) (after : W) → IsInVain means route old seat new after → NoneOut setup place (means.view old seat)
      → NoneOut setup place (means.view new after)
  none_now route old seat new after out none = record {
    unclaimed = out.claimed ∙ none.unclaimed;
    unstamped = out.stamped ∙ none.unstamped;
    own_chunks = chunks_kept setup (producer_of setup place) (means.view old seat).begun (means.view new after).begun out.chunks none.own_chunks;
  }

-- ---- works

-- what it begins with
pub record Begins {T W S : Type 0} (means : Meaning T W S) (setup : Setup) (place : ℕ) (route : Route) (helper : Collecting S) (old : T) (seat : W) : Type 0 where
  pub setup_is : means.setup old ≡ setup
  pub place_is : means.place seat ≡ place
  pub sits : means.sits old seat
  pub sit : AllSit means old
  pub serves : means.serves old helper.service.seat
  pub producer : helper.producer ≡ route.spec.producer
  pub none_out : NoneOut setup place (means.view old seat)

begins_after : {T W S : Type 0} (means : Meaning T W S) (setup : Setup) (place : ℕ) (route : Route) (helper : Collecting S) (old : T) (seat : W) (new : T) (after : W)
    → IsWriterStep means old seat new after → Begins means setup place route helper old seat → NoneOut setup place (means.view new after)
    → Begins means setup place route helper new after
begins_after means setup place route helper old seat new after step begins none_out = record {
  setup_is = step.setup_stays ∙ begins.setup_is;
  place_is = step.place_stays ∙ begins.place_is;
  sits = step.seat_stays;
  sit = sit_after means old seat new after step begins.sit;
  serves = (step.service_stays helper.service.seat begins.serves).0;
  producer = begins.producer;
  none_out = none_out;
}

pub begins_quiet : {T W S : Type 0} (means : Meaning T W S) (setup : Setup) (place : ℕ) (route : Route) (helper : Collecting S) (old : T) (seat : W) (new : T) (after : W)
    → IsQuiet means old seat new after → Begins means setup place route helper old seat → Begins means setup place route helper new after
begins_quiet means setup place route helper old seat new after quiet begins =
    begins_after means setup place route helper old seat new after quiet.step begins (none_quiet means setup place old seat new after quiet begins.none_out)

pub begins_gets : {T W S : Type 0} (means : Meaning T W S) (setup : Setup) (place : ℕ) (route : Route) (helper : Collecting S) (old : T) (seat : W) (new : T) (after : W)
    → range_of setup (producer_of setup place) ≡ range_in route.arbiter → GetsChunk means route old seat new after
    → Begins means setup place route helper old seat → Begins means setup place route helper new after
begins_gets means setup place route helper old seat new after range gets begins =
    begins_after means setup place route helper old seat new after gets.step begins (none_gets means setup place route old seat new after range gets begins.none_out)

pub begins_out : {T W S : Type 0} (means : Meaning T W S) (setup : Setup) (place : ℕ) (route : Route) (helper : Collecting S) (old : T) (seat : W) (new : T) (after : W)
    → IsInVain means route old seat new after → Begins means setup place route helper old seat → Begins means setup place route helper new after
begins_out means setup place route helper old seat new after out begins =
    begins_after means setup place route helper old seat new after out.step begins (none_now means setup place route old seat new after out begins.none_out)

pub begins_helped : {T W S : Type 0} (means : Meaning T W S) (setup : Setup) (place : ℕ) (route : Route) (helper helped : Collecting S) (asking freed : T) (asker : W)
    (answer : Bool) → means.sits asking asker → Begins means setup place route helper asking asker
    → Helps means helper asking route.spec.producer answer helped freed → LeavesWriters means asking freed → Begins means setup place route helped freed asker
begins_helped means setup place route helper helped asking freed asker answer sits asked helps leaves = record {
  setup_is = leaves.setup_stays ∙ asked.setup_is;
  place_is = asked.place_is;
  sits = (leaves.writers_stay asker sits).0;
  sit = sit_helped means asking freed leaves asked.sit;
  serves = helps.step.seat_stays;
  producer = helps.producer_is ∙ asked.producer;
  none_out = subst (NoneOut setup place) (sym (leaves.writers_stay asker sits).1) asked.none_out;
}

-- the writer's round was in vain in the world that is told
pub vain_is : {T W S : Type 0} (means : Meaning T W S) → AreLaws means → (setup : Setup) (place : ℕ) (route : Route) (helper : Collecting S)
    (old : T) (seat : W) (asking : T) (asker : W) → range_of setup (producer_of setup place) ≡ range_in route.arbiter
    → IsInVain means route old seat asking asker → Begins means setup place route helper asking asker
    → (world : World) → means.told asking ≡ Some world → NoneFree world route.arbiter.first (route.arbiter.first + route.arbiter.chunks)
    → IsVainIn setup place world
vain_is means laws setup place route helper old seat asking asker range vain asked world told none =
    let row : writer world place ≡ means.view asking asker = row_is means laws asking world told place asker vain.step.seat_stays asked.place_is in
    record {
      owned = laws.told_owned asking world told;
      none_free = full_is setup place route world range none;
      unclaimed = ap (λ (v : WriterView). v.claimed) row ∙ asked.none_out.unclaimed;
      unstamped = ap (λ (v : WriterView). v.stamped) row ∙ asked.none_out.unstamped;
      own_chunks = subst (λ (v : WriterView). AreOwnChunks setup (producer_of setup place) v.begun) (sym row) asked.none_out.own_chunks;
    }

-- one that holds no chunk is out of chunks there
pub out_is : {T W S : Type 0} (means : Meaning T W S) → AreLaws means → (setup : Setup) (place : ℕ) (route : Route) (helper : Collecting S)
    (old : T) (seat : W) (asking : T) (asker : W) → range_of setup (producer_of setup place) ≡ range_in route.arbiter
    → IsOutNow means route old seat asking asker → Begins means setup place route helper asking asker
    → (world : World) → means.told asking ≡ Some world → NoneFree world route.arbiter.first (route.arbiter.first + route.arbiter.chunks)
    → IsOut setup place world
out_is means laws setup place route helper old seat asking asker range out asked world told none =
    let row : writer world place ≡ means.view asking asker = row_is means laws asking world told place asker out.vain.step.seat_stays asked.place_is in
    record {
      vain = vain_is means laws setup place route helper old seat asking asker range out.vain asked world told none;
      none_held = subst (λ (v : WriterView). NoneHeld v.begun) (sym row) out.none_held;
    }

-- ---- what own steps add to the claims

pub more_quiet : {T W S : Type 0} (means : Meaning T W S) (old : T) (seat : W) (new : T) (after : W) → IsQuiet means old seat new after
    → AsksMore (means.view old seat) (means.view new after)
more_quiet means old seat new after quiet = record { more = []; asked = quiet.asked ∙ sym (append-nil (means.view old seat).asked) }

pub more_gets : {T W S : Type 0} (means : Meaning T W S) (route : Route) (old : T) (seat : W) (new : T) (after : W) → GetsChunk means route old seat new after
    → AsksMore (means.view old seat) (means.view new after)
more_gets means route old seat new after gets =
    let calls : ℕ = length (means.view old seat).calls in
    let won : Ask = record { chunk = gets.chunk; found = gets.claims.found; won = true; calls = calls } in
    let lost : List Ask = lost_asks calls route.arbiter.first gets.claims.words in
    record {
      more = lost ++ won ∷ [];
      asked = ap (λ (v : WriterView). v.asked) gets.claims.view ∙ append_assoc (means.view old seat).asked lost (won ∷ []);
    }

pub more_vain : {T W S : Type 0} (means : Meaning T W S) (route : Route) (old : T) (seat : W) (new : T) (after : W) → IsInVain means route old seat new after
    → AsksMore (means.view old seat) (means.view new after)
more_vain means route old seat new after vain = record {
  more = lost_asks (length (means.view old seat).calls) route.arbiter.first vain.words;
  asked = vain.asked;
}

pub own_leaves : {T W S : Type 0} (means : Meaning T W S) → AreLaws means → (setup : Setup) (place : ℕ) (route : Route) (helper : Collecting S)
    (old : T) (seat : W) (new : T) (after : W) → IsWriterStep means old seat new after → AsksMore (means.view old seat) (means.view new after)
    → Begins means setup place route helper old seat
    → (was is : World) → means.told old ≡ Some was → means.told new ≡ Some is → LeavesRest place was is
own_leaves means laws setup place route helper old seat new after step claims begins was is told_was told_is =
    subst (λ (p : ℕ). LeavesRest p was is) begins.place_is
    (own_step means laws old seat new after helper.service.seat step begins.sits claims begins.sit begins.serves was is told_was told_is)

pub quiet_leaves : {T W S : Type 0} (means : Meaning T W S) → AreLaws means → (setup : Setup) (place : ℕ) (route : Route) (helper : Collecting S)
    (old : T) (seat : W) (new : T) (after : W) → IsQuiet means old seat new after → Begins means setup place route helper old seat
    → (was is : World) → means.told old ≡ Some was → means.told new ≡ Some is → LeavesRest place was is
quiet_leaves means laws setup place route helper old seat new after quiet begins was is told_was told_is =
    own_leaves means laws setup place route helper old seat new after quiet.step (more_quiet means old seat new after quiet) begins was is told_was told_is

pub gets_leaves : {T W S : Type 0} (means : Meaning T W S) → AreLaws means → (setup : Setup) (place : ℕ) (route : Route) (helper : Collecting S)
    (old : T) (seat : W) (new : T) (after : W) → GetsChunk means route old seat new after → Begins means setup place route helper old seat
    → (was is : World) → means.told old ≡ Some was → means.told new ≡ Some is → LeavesRest place was is
gets_leaves means laws setup place route helper old seat new after gets begins was is told_was told_is =
    own_leaves means laws setup place route helper old seat new after gets.step (more_gets means route old seat new after gets) begins was is told_was told_is

-- a round of claims in vain is one in the worlds that are told
pub round_is : {T W S : Type 0} (means : Meaning T W S) → AreLaws means → (setup : Setup) (place : ℕ) (route : Route) (helper : Collecting S)
    (old : T) (seat : W) (asking : T) (asker : W) → range_of setup (producer_of setup place) ≡ range_in route.arbiter
    → IsInVain means route old seat asking asker → Begins means setup place route helper old seat
    → (was is : World) → means.told old ≡ Some was → means.told asking ≡ Some is → GoesRound setup place was is
round_is means laws setup place route helper old seat asking asker range vain begins was is told_was told_is =
    let row_old : writer was place ≡ means.view old seat = row_is means laws old was told_was place seat begins.sits begins.place_is in
    let row_new : writer is place ≡ means.view asking asker = row_is means laws asking is told_is place asker vain.step.seat_stays (vain.step.place_stays ∙ begins.place_is) in
    record {
      leaves = own_leaves means laws setup place route helper old seat asking asker vain.step (more_vain means route old seat asking asker vain) begins was is told_was told_is;
      words = vain.words;
      count_is = vain.count_is ∙ ap (λ (r : ChunkRange). r.count) (sym range);
      claimed = subst (λ (r : ChunkRange). AllClaimed setup r.first vain.words) (sym range)
          (subst (λ (s : Setup). AllClaimed s route.arbiter.first vain.words) begins.setup_is vain.all_claimed);
      asked = ap (λ (v : WriterView). v.asked) row_new ∙ vain.asked
          ∙ ap (λ (v : WriterView). v.asked ++ lost_asks (length v.calls) route.arbiter.first vain.words) (sym row_old)
          ∙ ap (λ (r : ChunkRange). (writer was place).asked ++ lost_asks (length (writer was place).calls) r.first vain.words) (sym range);
      calls = ap (λ (v : WriterView). v.calls) row_new ∙ vain.calls ∙ ap (λ (v : WriterView). v.calls) (sym row_old);
      chunks = subst (λ (v : WriterView). KeepsChunks v.begun (writer is place).begun) (sym row_old)
          (subst (λ (v : WriterView). KeepsChunks (means.view old seat).begun v.begun) (sym row_new) vain.chunks);
    }

-- so is a chunk that it gets
gains_is : {T W S : Type 0} (means : Meaning T W S) → AreLaws means → (setup : Setup) (place : ℕ) (route : Route) (helper : Collecting S)
    (old : T) (seat : W) (new : T) (after : W) → range_of setup (producer_of setup place) ≡ range_in route.arbiter
    → (gets : GetsChunk means route old seat new after) → Begins means setup place route helper old seat
    → (was is : World) → means.told old ≡ Some was → means.told new ≡ Some is
    → ClaimsInTurn setup (range_of setup (producer_of setup place)).first (range_of setup (producer_of setup place)).count gets.chunk
    (writer was place) (writer is place)
gains_is means laws setup place route helper old seat new after range gets begins was is told_was told_is =
    let row_old : writer was place ≡ means.view old seat = row_is means laws old was told_was place seat begins.sits begins.place_is in
    let row_new : writer is place ≡ means.view new after = row_is means laws new is told_is place after gets.step.seat_stays (gets.step.place_stays ∙ begins.place_is) in
    subst (λ (v : WriterView). ClaimsInTurn setup (range_of setup (producer_of setup place)).first (range_of setup (producer_of setup place)).count gets.chunk v (writer is place)) (sym row_old)
    (subst (λ (v : WriterView). ClaimsInTurn setup (range_of setup (producer_of setup place)).first (range_of setup (producer_of setup place)).count gets.chunk (means.view old seat) v) (sym row_new)
    (subst (λ (r : ChunkRange). ClaimsInTurn setup r.first r.count gets.chunk (means.view old seat) (means.view new after)) (sym range)
    (subst (λ (s : Setup). ClaimsInTurn s route.arbiter.first route.arbiter.chunks gets.chunk (means.view old seat) (means.view new after)) begins.setup_is gets.claims)))

-- Quiet steps lead from the one told world to the other, in whatever call.
pub quiet_world : {T W S : Type 0} (means : Meaning T W S) → AreLaws means → (setup : Setup) (place : ℕ) (route : Route) (call : Call)
    (helper : Collecting S) (old : T) (seat : W) (stopped : Bool) (new : T) (after : W) → IsQuiet means old seat new after → stopped ≡ false
    → Begins means setup place route helper old seat → (was : World) → means.told old ≡ Some was
    → (is : World) × (means.told new ≡ Some is) × WorksTo setup place call route.spec.policy stopped was is
quiet_world means laws setup place route call helper old seat stopped new after quiet goes begins was told =
    let next = quiet.frees_none was told in (
      next.0,
      next.1,
      record {
        works = subst (λ (b : Bool). acts.Works setup place call b was next.0) (sym goes)
            (acts.Alone was next.0 (quiet_leaves means laws setup place route helper old seat new after quiet begins was next.0 told next.1));
        full = λ stops. absurd (let never : true ≡ false = sym stops ∙ goes in cc);
      },
    )

-- the range of a route's chunks has none free behind steps that free none
none_free_range : (setup : Setup) (place : ℕ) (route : Route) → range_of setup (producer_of setup place) ≡ range_in route.arbiter → (was is : World)
    → ((chunk : ℕ) → status is chunk ≡ Unclaimed → status was chunk ≡ Unclaimed)
    → NoneFree was route.arbiter.first (route.arbiter.first + route.arbiter.chunks) → HasNoFreeChunk setup (producer_of setup place) is
none_free_range setup place route range was is frees none =
    full_is setup place route is range (none_free_still route.arbiter.first (route.arbiter.first + route.arbiter.chunks) was is frees none)

holds_none : (call : Call) (begun : List BegunChunk) → (begins_one call ≡ true → NoneHeld begun) → HoldsNoneAt call begun
holds_none (Begun kept) begun at = at refl
holds_none (Number field value) begun at = tt
holds_none (Bytes field text times) begun at = tt
holds_none (Nested field) begun at = tt
holds_none Ended begun at = tt
holds_none GivenUp begun at = tt
holds_none Finished begun at = tt
holds_none Flushed begun at = tt

-- What tries for one chunk come to in the worlds that are told: the writer and its seat go on from there, and where all were in vain
-- no chunk of its producer is free.
record TriesTo {T W S : Type 0} (means : Meaning T W S) (setup : Setup) (place : ℕ) (call : Call) (route : Route) (left : ℕ) (stopped : Bool) (was is : World)
    (kept : Collecting S) (new : T) (after : W) : Type 0 where
  begins : Begins means setup place route kept new after
  tries : acts.Tries setup place call left stopped was is
  full : stopped ≡ true → NoneFree is route.arbiter.first (route.arbiter.first + route.arbiter.chunks)

tries_world : {T W S : Type 0} (means : Meaning T W S) → AreLaws means → (setup : Setup) (place : ℕ) (route : Route) (call : Call)
    → range_of setup (producer_of setup place) ≡ range_in route.arbiter → route.spec.producer ≡ producer_of setup place
    → {count : ℕ} {helper : Collecting S} {old : T} {seat : W} {stopped : Bool} {kept : Collecting S} {new : T} {after : W}
    → Tries (GetsChunk means route) (IsVainTry means route (begins_one call))
    (λ asked table answer behind freed. Helps means asked table route.spec.producer answer behind freed × LeavesWriters means table freed)
    count helper old seat stopped kept new after
    → Begins means setup place route helper old seat → (was : World) → means.told old ≡ Some was
    → (is : World) × (means.told new ≡ Some is) × TriesTo means setup place call route count stopped was is kept new after
tries_world means laws setup place route call range producer (Gains count helper old seat new after gets) begins was told =
    let next = gets.frees_none was told in (
      next.0,
      next.1,
      record {
        begins = begins_gets means setup place route helper old seat new after range gets begins;
        tries = acts.Gains count gets.chunk was next.0 (gets_leaves means laws setup place route helper old seat new after gets begins was next.0 told next.1)
            (gains_is means laws setup place route helper old seat new after range gets begins was next.0 told next.1);
        full = λ stops. absurd (let never : true ≡ false = sym stops in cc);
      },
    )
tries_world means laws setup place route call range producer (Again count helper old seat asking asker answer helped freed stopped kept new after vain helps more) begins was told =
    let mid = vain.vain.none_free was told in
    let asked = begins_out means setup place route helper old seat asking asker vain.vain begins in
    let help = collects_world means laws helper helped asking freed route.spec.producer answer helps.0 (sym begins.producer) mid.0 mid.1 in
    let rest = tries_world means laws setup place route call range producer more
    (begins_helped means setup place route helper helped asking freed asker answer vain.vain.step.seat_stays asked helps.0 helps.1) help.0 help.1 in (
      rest.0,
      rest.1,
      record {
        begins = rest.2.begins;
        tries = acts.Again count stopped was mid.0 help.0 rest.0
            (round_is means laws setup place route helper old seat asking asker range vain.vain begins was mid.0 told mid.1)
            (vain_is means laws setup place route helper old seat asking asker range vain.vain asked mid.0 mid.1 mid.2)
            (holds_none call (writer was place).begun (λ is. subst (λ (v : WriterView). NoneHeld v.begun)
            (sym (row_is means laws old was told place seat begins.sits begins.place_is)) (vain.none_held is)))
            (subst (λ (p : ℕ). Collects setup p mid.0 help.0) producer (subst (λ (s : Setup). Collects s route.spec.producer mid.0 help.0) asked.setup_is help.2))
            (laws.told_owned freed help.0 help.1) rest.2.tries;
        full = rest.2.full;
      },
    )
tries_world means laws setup place route call range producer (Ends helper old seat new after vain) begins was told =
    let next = vain.vain.none_free was told in
    let behind = begins_out means setup place route helper old seat new after vain.vain begins in (
      next.0,
      next.1,
      record {
        begins = behind;
        tries = acts.Ends was next.0 (round_is means laws setup place route helper old seat new after range vain.vain begins was next.0 told next.1)
            (vain_is means laws setup place route helper old seat new after range vain.vain behind next.0 next.1 next.2);
        full = λ stops. next.2;
      },
    )

-- where all tries for a chunk were in vain, the packet is lost, in quiet steps behind them
lost_is : {T W S : Type 0} (means : Meaning T W S) → AreLaws means → (setup : Setup) (place : ℕ) (route : Route) (call : Call) → MayNeedChunk call
    → (policy : WriterPolicy) → policy_of setup place ≡ policy → loses policy ≡ true → (left : Collecting S) (mid : T) (between : W) (new : T) (after : W)
    → IsQuiet means mid between new after → Begins means setup place route left mid between → (was last is : World)
    → means.told mid ≡ Some last → means.told new ≡ Some is → acts.Tries setup place call (asks_for policy) true was last
    → acts.Works setup place call true was is
lost_is means laws setup place route call may policy policy_is losing left mid between new after quiet begins was last is told_last told_is tries =
    acts.Lost was was last is may (ap loses policy_is ∙ losing) (leaves_none place was)
    (subst (λ (p : WriterPolicy). acts.Tries setup place call (asks_for p) true was last) (sym policy_is) tries)
    (quiet_leaves means laws setup place route left mid between new after quiet begins last is told_last told_is)
    (ap (λ (v : WriterView). v.asked) (row_is means laws new is told_is place after quiet.step.seat_stays (quiet.step.place_stays ∙ begins.place_is))
    ∙ quiet.asked
    ∙ ap (λ (v : WriterView). v.asked) (sym (row_is means laws mid last told_last place between begins.sits begins.place_is)))

-- A work that isn't refused, in a call that may need a chunk, leads from the one told world to the other.
pub works_world : {T W S : Type 0} (means : Meaning T W S) → AreLaws means → (setup : Setup) (place : ℕ) (route : Route) (call : Call) → MayNeedChunk call
    → range_of setup (producer_of setup place) ≡ range_in route.arbiter → route.spec.producer ≡ producer_of setup place → route.spec.policy ≡ policy_of setup place
    → (last : T → W → T → W → Type 0) → ((old : T) (seat : W) (new : T) (after : W) → last old seat new after → IsQuiet means old seat new after)
    → {helper : Collecting S} {old : T} {seat : W} {stopped : Bool} {left : Collecting S} {new : T} {after : W}
    → Works route.spec.policy (IsSilent means) last (GetsChunk means route) (IsVainTry means route (begins_one call)) (IsOutNow means route)
    (λ asked table answer behind freed. Helps means asked table route.spec.producer answer behind freed × LeavesWriters means table freed)
    helper old seat stopped left new after
    → refuses route.spec.policy stopped ≡ false → Begins means setup place route helper old seat
    → (was : World) → means.told old ≡ Some was
    → (is : World) × (means.told new ≡ Some is) × WorksTo setup place call route.spec.policy stopped was is
works_world means laws setup place route call may range producer policy last quiet (Done helper old seat new after ends) going begins was told =
    quiet_world means laws setup place route call helper old seat false new after (quiet old seat new after ends) refl begins was told
works_world means laws setup place route call may range producer policy last quiet (Silent helper old seat next moved stopped left new after silent works) going begins was told =
    let mid = silent.quiet.frees_none was told in
    let rest = works_world means laws setup place route call may range producer policy last quiet works going
    (begins_quiet means setup place route helper old seat next moved silent.quiet begins) mid.0 mid.1 in (
      rest.0,
      rest.1,
      record {
        works = own_first setup place was
            (quiet_leaves means laws setup place route helper old seat next moved silent.quiet begins was mid.0 told mid.1) rest.2.works;
        full = rest.2.full;
      },
    )
works_world means laws setup place route call may range producer policy last quiet (Gets helper old seat next moved stopped left new after gets works) going begins was told =
    let mid = gets.frees_none was told in
    let rest = works_world means laws setup place route call may range producer policy last quiet works going
    (begins_gets means setup place route helper old seat next moved range gets begins) mid.0 mid.1 in (
      rest.0,
      rest.1,
      record {
        works = own_first setup place was
            (gets_leaves means laws setup place route helper old seat next moved gets begins was mid.0 told mid.1) rest.2.works;
        full = rest.2.full;
      },
    )
works_world means laws setup place route call may range producer policy last quiet (Helped helper old seat asking asker helped freed stopped left new after stalls out helps works) going begins was told =
    let mid = out.vain.none_free was told in
    let asked = begins_out means setup place route helper old seat asking asker out.vain begins in
    let help = helped_world means laws helper helped asking freed route.spec.producer helps.0 (sym begins.producer) mid.0 mid.1 in
    let rest = works_world means laws setup place route call may range producer policy last quiet works going
    (begins_helped means setup place route helper helped asking freed asker true out.vain.step.seat_stays asked helps.0 helps.1) help.0 help.1 in (
      rest.0,
      rest.1,
      record {
        works = acts.Helped stopped was was mid.0 help.0 rest.0 may (sym policy ∙ stalls) (leaves_none place was)
            (round_is means laws setup place route helper old seat asking asker range out.vain begins was mid.0 told mid.1)
            (out_is means laws setup place route helper old seat asking asker range out asked mid.0 mid.1 mid.2)
            (subst (λ (p : ℕ). Collects setup p mid.0 help.0) producer (subst (λ (s : Setup). Collects s route.spec.producer mid.0 help.0) asked.setup_is help.2))
            (laws.told_owned freed help.0 help.1) help.3 rest.2.works;
        full = rest.2.full;
      },
    )
works_world means laws setup place route call may range producer policy last quiet (Refused helper old seat asking asker left kept new after stalls out helps ends) going begins was told =
    absurd (let never : true ≡ false = ap (λ (p : WriterPolicy). refuses p true) (sym stalls) ∙ going in cc)
works_world means laws setup place route call may range producer policy last quiet (Lost helper old seat mid between new after drops out ends) going begins was told =
    let step = quiet mid between new after ends in
    let middle = out.vain.none_free was told in
    let behind = begins_out means setup place route helper old seat mid between out.vain begins in
    let next = step.frees_none middle.0 middle.1 in (
      next.0,
      next.1,
      record {
        works = lost_is means laws setup place route call may Drops (sym policy ∙ drops) refl helper mid between new after step behind was middle.0 next.0 middle.1 next.1
            (acts.Ends was middle.0 (round_is means laws setup place route helper old seat mid between range out.vain begins was middle.0 told middle.1)
            (vain_is means laws setup place route helper old seat mid between range out.vain behind middle.0 middle.1 middle.2));
        full = λ is. none_free_range setup place route range middle.0 next.0 next.2 middle.2;
      },
    )
works_world means laws setup place route call may range producer policy last quiet (Tried helper old seat tries kept next moved stopped left new after trying tried works) going begins was told =
    let mid = tries_world means laws setup place route call range producer tried begins was told in
    let rest = works_world means laws setup place route call may range producer policy last quiet works going mid.2.begins mid.0 mid.1 in (
      rest.0,
      rest.1,
      record {
        works = acts.Tried stopped was was mid.0 rest.0 tries may (sym policy ∙ trying) (leaves_none place was) mid.2.tries rest.2.works;
        full = rest.2.full;
      },
    )
works_world means laws setup place route call may range producer policy last quiet (GivesUp helper old seat tries left mid between new after trying tried ends) going begins was told =
    let step = quiet mid between new after ends in
    let middle = tries_world means laws setup place route call range producer tried begins was told in
    let next = step.frees_none middle.0 middle.1 in (
      next.0,
      next.1,
      record {
        works = lost_is means laws setup place route call may (StallsThenDrops tries) (sym policy ∙ trying) refl left mid between new after step middle.2.begins
            was middle.0 next.0 middle.1 next.1 middle.2.tries;
        full = λ is. none_free_range setup place route range middle.0 next.0 next.2 (middle.2.full refl);
      },
    )
