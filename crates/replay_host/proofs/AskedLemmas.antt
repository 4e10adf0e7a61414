-- What asking one writer of a table makes of all writers, the service and the world.
use Rattle.std.proofs.Common.{◌≡◌, ◌≢◌, ◌∙◌, ℕ, ◌<◌, ◌⊎◌, Bool, true, false, Some, List, [], ◌∷◌, ◌++◌, length, length-set, get_or, set, refl, sym, ap, subst, arith, inl, inr, cond}
use Rattle.std.specs.Prelude.{slice_get}
use Rattle.std.proofs.lemmas.Bool.{cases_eq, eq-eqb, ne_eqb, true≢false}
use Rattle.std.proofs.lemmas.List.{get_or-set_same, get_or-set_other}
use Rattle.std.proofs.lemmas.Option.{slice_get-get_or, slice_get_within, same_Some}
use Rattle.trace_base.specs.declared.policy.WriterPolicy.{WriterPolicy}
use Rattle.trace_base.specs.declared.policy.WriterPolicy.TheVariants.{Drops, Stalls, StallsThenDrops}
use Rattle.trace_base.specs.declared.policy.WriterSpec.{WriterSpec}
use Rattle.trace_model.specs.Calls.{Call, Begun, Number, Bytes, Nested, Ended, GivenUp, Finished, Flushed}
use Rattle.trace_model.specs.Packets.{Packet}
use Rattle.scenario_text.specs.Accepted.{Accepts}
use Rattle.model_laws.specs.Losses.{Loses}
use Rattle.chunk_plain.specs.Meaning.{Meaning}
use Rattle.chunk_plain.specs.Setup.{Setup, IsLaid, HasProducer, range_of, producer_of, no_writer}
use Rattle.chunk_plain.specs.declared.setup.ChunkRange.{ChunkRange}
use Rattle.chunk_plain.specs.Views.{WriterView}
use Rattle.chunk_plain.specs.World.{World, writer}
use Rattle.world_model.specs.FirstBuffers.{payload_at}
use Rattle.trace_writer.specs.declared.route.Route.{Route}
use Rattle.trace_writer.specs.declared.writer.WriterCore.{WriterCore}
use Rattle.trace_writer.specs.Asked.{begun_as, written_as, noted_as}
use Rattle.trace_writer.specs.Core.{CoreAgrees, route_of}
use Rattle.trace_writer.specs.Helping.{refuses, loses, rounds_for}
use Rattle.trace_writer.specs.Losing.{LosesBehind}
use Rattle.trace_writer.specs.OwnSteps.{IsQuiet}
use Rattle.trace_writer.specs.Site.{IsRoute}
use Rattle.service_core.specs.declared.service.ServiceCore.{ServiceCore}
use Rattle.service_core.specs.Agreement.{spec_at}
use Rattle.trace_writer.specs.Answered.{KeepsCompleted}
use Rattle.trace_writer.proofs.holding.Answering.{works_keep_completed}
use Rattle.replay_model.specs.Does.{MayNeedChunk, Notes, Wrote, dropped_call, policy_of}
use Rattle.replay_host.specs.declared.helper.Collecting.{Collecting}
use Rattle.replay_host.specs.Asking.{IsReadyFor, AreReady, asked_at, IsCalled, KeepsService, DoesAsk}
use Rattle.replay_host.specs.Helping.{MayHelp, Helps}
use Rattle.replay_host.specs.Standing.{IsSeated, Stands}
use Rattle.replay_host.proofs.KeepLemmas.{works_keep}
use Rattle.replay_host.proofs.ReadyLemmas.{NotesFor, loses_more, ready_behind, ready_still, notes_begun, notes_number, notes_bytes, notes_nested}
use Rattle.replay_host.proofs.RowLemmas.{AreLaws, AllSit, row_is}
use Rattle.replay_host.proofs.WorkLemmas.{Begins, WorksTo, none_between, quiet_world, works_world}
use Rattle.replay_host.proofs.WroteLemmas.{wrote}

-- ---- one of a list is replaced

-- what stands in a list behind a write
pub set_here : {X : Type 0} (xs : List X) (at : ℕ) (new : X) (i : ℕ) (x : X) → slice_get (set xs at new) i ≡ Some x → i ≡ at → x ≡ new
set_here xs at new i x is same =
    let inside : i < length (set xs at new) = slice_get_within (set xs at new) i x is in
    let long = length-set xs at new in
    let below : at < length xs = omega (arith, inside, long, same) in
    let there = slice_get-get_or (set xs at new) i new inside in
    let found : x ≡ get_or (set xs at new) i new = same_Some _ _ (sym is ∙ there) in
    found ∙ ap (λ (k : ℕ). get_or (set xs at new) k new) same ∙ get_or-set_same xs at new new below

pub set_there : {X : Type 0} (xs : List X) (at : ℕ) (new : X) (i : ℕ) (x : X) → slice_get (set xs at new) i ≡ Some x → (i ≡ at → ⊥) → slice_get xs i ≡ Some x
set_there xs at new i x is apart =
    let inside : i < length (set xs at new) = slice_get_within (set xs at new) i x is in
    let long = length-set xs at new in
    let below : i < length xs = omega (arith, inside, long) in
    let there = slice_get-get_or (set xs at new) i new inside in
    slice_get-get_or xs i new below ∙ ap Some (sym (get_or-set_other xs at i new new apart)) ∙ sym there ∙ is

-- ---- seats

-- writers that stand have seats
pub all_sit : {T W S : Type 0} (means : Meaning T W S) (table : T) (cores : List (WriterCore W)) (service : ServiceCore S) (one : WriterCore W)
    → Stands means table cores service → AllSit means table
all_sit means table cores service one stands place below =
    let many = stands.many in
    let inside : place < length cores = omega (arith, many, below) in
    let seated = stands.seated place (get_or cores place one) (slice_get-get_or cores place one inside) in
    record { seat = (get_or cores place one).seat; sits = seated.sits; place_is = seated.place_is }

-- the route of a writer is that of its place
pub route_is : (setup : Setup) (place : ℕ) (route : Route) → IsRoute setup place route → route.spec ≡ spec_at setup.writers place
route_is setup place route is =
    let inside = slice_get_within setup.writers place route.spec is.spec in
    same_Some _ _ (sym is.spec ∙ slice_get-get_or setup.writers place no_writer inside)

-- ---- one call

-- the call is one that a writer can be asked for
abbrev pub IsProper : Call → Type 0
IsProper (Begun kept) = kept ≡ true
IsProper GivenUp = ⊥
IsProper call = Unit {0}

-- what is noted of a call that got its chunks
noted_whole : (policy : WriterPolicy) (call : Call) → IsProper call → noted_as false policy call ≡ call ∷ []
noted_whole policy (Begun kept) proper = ap (λ (k : Bool). Begun k ∷ []) (sym proper)
noted_whole policy (Number field value) proper = refl
noted_whole policy (Bytes field text times) proper = refl
noted_whole policy (Nested field) proper = refl
noted_whole policy Ended proper = refl
noted_whole policy GivenUp proper = absurd proper
noted_whole policy Finished proper = refl
noted_whole policy Flushed proper = refl

-- and of one whose packet was lost
written_lost : (policy : WriterPolicy) (call : Call) → loses policy ≡ true → written_as true policy call ≡ written_as true Drops call
written_lost Drops call losing = refl
written_lost Stalls call losing = absurd (true≢false (sym losing))
written_lost (StallsThenDrops tries) call losing = refl

begun_lost : (policy : WriterPolicy) → loses policy ≡ true → begun_as true policy ≡ begun_as true Drops
begun_lost Drops losing = refl
begun_lost Stalls losing = absurd (true≢false (sym losing))
begun_lost (StallsThenDrops tries) losing = refl

noted_lost : (policy : WriterPolicy) (call : Call) → loses policy ≡ true → noted_as true policy call ≡ dropped_call call
noted_lost policy (Begun kept) losing = begun_lost policy losing
noted_lost policy (Number field value) losing = written_lost policy (Number field value) losing
noted_lost policy (Bytes field text times) losing = written_lost policy (Bytes field text times) losing
noted_lost policy (Nested field) losing = written_lost policy (Nested field) losing
noted_lost policy Ended losing = written_lost policy Ended losing
noted_lost policy GivenUp losing = written_lost policy GivenUp losing
noted_lost policy Finished losing = written_lost policy Finished losing
noted_lost policy Flushed losing = written_lost policy Flushed losing

-- either way it is noted for what was asked
noted_for : (stopped : Bool) (policy : WriterPolicy) (call : Call) → IsProper call → (stopped ≡ true → loses policy ≡ true) → NotesFor call (noted_as stopped policy call)
noted_for stopped policy (Begun kept) proper drops = subst (λ (k : Bool). NotesFor (Begun k) (begun_as stopped policy)) (sym proper) (notes_begun stopped policy drops)
noted_for stopped policy (Number field value) proper drops = notes_number stopped policy field value
noted_for stopped policy (Bytes field text times) proper drops = notes_bytes stopped policy field times text
noted_for stopped policy (Nested field) proper drops = notes_nested stopped policy field
noted_for false policy Ended proper drops = refl
noted_for true policy Ended proper drops = subst (NotesFor Ended) (sym (written_lost policy Ended (drops refl))) refl
noted_for stopped policy GivenUp proper drops = absurd proper
noted_for false policy Finished proper drops = refl
noted_for true policy Finished proper drops = subst (NotesFor Finished) (sym (written_lost policy Finished (drops refl))) refl
noted_for false policy Flushed proper drops = refl
noted_for true policy Flushed proper drops = subst (NotesFor Flushed) (sym (written_lost policy Flushed (drops refl))) refl

refuses_none : (policy : WriterPolicy) (stopped : Bool) → (stopped ≡ true → loses policy ≡ true) → refuses policy stopped ≡ false
refuses_none Drops stopped drops = refl
refuses_none Stalls false drops = refl
refuses_none Stalls true drops = absurd (true≢false (sym (drops refl)))
refuses_none (StallsThenDrops tries) stopped drops = refl

module _ {T W S : Type 0} (means : Meaning T W S) (laws : AreLaws means) (call : Call) (proper : IsProper call) (place : ℕ)
    (old : T) (cores : List (WriterCore W)) (helper : Collecting S) (core : WriterCore W)
    (new : T) (left : Collecting S) (after : WriterCore W)
    (laid : IsLaid (means.setup old)) (stands : Stands means old cores helper.service) (at : slice_get cores place ≡ Some core)
    (producer : helper.producer ≡ producer_of (means.setup old) place) (called : IsCalled means (MayHelp means) (Helps means) call helper old core left new after)
  where
    seated : IsSeated means old place core
    seated = stands.seated place core at

    place_is : means.place core.seat ≡ place
    place_is = seated.place_is

    agrees : CoreAgrees (means.setup old) place (means.view new after.seat) after
    agrees = subst (λ (p : ℕ). CoreAgrees (means.setup old) p (means.view new after.seat) after) place_is called.agrees

    spec_is : (route_of core).spec ≡ spec_at (means.setup old).writers place
    spec_is = route_is (means.setup old) place (route_of core) seated.agrees.writes.route

    pub asked_stands : Stands means new (set cores place after) left.service
    asked_stands = record {
      many = length-set cores place after ∙ stands.many ∙ ap (λ (s : Setup). length s.writers) (sym called.others.setup_stays);
      seated = λ other one is. by_place other one is (cases_eq other place);
      served = called.needed.served;
    }
      where
        by_place : (other : ℕ) (one : WriterCore W) → slice_get (set cores place after) other ≡ Some one → (other ≡ place) ⊎ (other ≡ place → ⊥) → IsSeated means new other one
        by_place other one is (inl same) =
            subst (λ (c : WriterCore W). IsSeated means new other c) (sym (set_here cores place after other one is same)) (record {
              sits = called.others.seat_stays;
              place_is = called.others.place_stays ∙ place_is ∙ sym same;
              agrees = subst (λ (s : Setup). CoreAgrees s other (means.view new after.seat) after) (sym called.others.setup_stays)
                  (subst (λ (p : ℕ). CoreAgrees (means.setup old) p (means.view new after.seat) after) (sym same) agrees);
              going = called.going;
            })
        by_place other one is (inr apart) =
            let was = stands.seated other one (set_there cores place after other one is apart) in
            let stays = called.others.writers_stay one.seat was.sits (λ same. apart (sym was.place_is ∙ same ∙ place_is)) in
            record {
              sits = stays.0;
              place_is = was.place_is;
              agrees = subst (λ (s : Setup). CoreAgrees s other (means.view new one.seat) one) (sym called.others.setup_stays)
                  (subst (λ (v : WriterView). CoreAgrees (means.setup old) other v one) (sym stays.1) was.agrees);
              going = was.going;
            }

    producer_is : helper.producer ≡ (route_of core).spec.producer
    producer_is = producer ∙ ap (λ (s : WriterSpec). s.producer) (sym spec_is)

    pub asked_keeps : KeepsService means old helper.service new left.service
    asked_keeps = (works_keep means (route_of core) _ (λ table seat next moved quiet. quiet) called.works
        producer_is stands.served.serves).service

    pub asked_producer : left.producer ≡ helper.producer
    asked_producer = (works_keep means (route_of core) _ (λ table seat next moved quiet. quiet) called.works
        producer_is stands.served.serves).producer

    pub asked_ready : (coming : ℕ → List Call) → AreReady means old cores (asked_at place call coming) → AreReady means new (set cores place after) coming
    asked_ready coming ready other one is = by_place (cases_eq other place)
      where
        setup_is : (n : ℕ) → payload_at (means.setup old) n ≡ payload_at (means.setup new) n
        setup_is n = ap (λ (s : Setup). payload_at s n) (sym called.others.setup_stays)

        by_place : (other ≡ place) ⊎ (other ≡ place → ⊥) → IsReadyFor (payload_at (means.setup new) other) (means.view new one.seat) (coming other)
        by_place (inl same) =
            let here = ready place core at in
            let next : IsReadyFor (payload_at (means.setup old) place) (means.view old core.seat) (call ∷ coming place) =
            subst (λ (b : Bool). IsReadyFor (payload_at (means.setup old) place) (means.view old core.seat) (cond b (call ∷ coming place) (coming place))) (eq-eqb place place refl) here in
            let behind : IsReadyFor (payload_at (means.setup old) place) (means.view new after.seat) (coming place) =
            ready_behind (payload_at (means.setup old) place) (means.view old core.seat) (means.view new after.seat) call (coming place) _ next called.notes
            (noted_for called.stopped (route_of core).spec.policy call proper called.drops) in
            subst (λ (c : WriterCore W). IsReadyFor (payload_at (means.setup new) other) (means.view new c.seat) (coming other)) (sym (set_here cores place after other one is same))
            (subst (λ (n : ℕ). IsReadyFor (payload_at (means.setup new) n) (means.view new after.seat) (coming n)) (sym same)
            (subst (λ (n : ℕ). IsReadyFor n (means.view new after.seat) (coming place)) (setup_is place) behind))
        by_place (inr apart) =
            let there = set_there cores place after other one is apart in
            let was = stands.seated other one there in
            let stays = called.others.writers_stay one.seat was.sits (λ same. apart (sym was.place_is ∙ same ∙ place_is)) in
            let here : IsReadyFor (payload_at (means.setup old) other) (means.view old one.seat) (coming other) =
            subst (λ (b : Bool). IsReadyFor (payload_at (means.setup old) other) (means.view old one.seat) (cond b (call ∷ coming other) (coming other))) (ne_eqb other place apart) (ready other one there) in
            subst (λ (n : ℕ). IsReadyFor n (means.view new one.seat) (coming other)) (setup_is other)
            (ready_still (payload_at (means.setup old) other) (means.view old one.seat) (means.view new one.seat) (coming other) (ap (λ (v : WriterView). v.calls) stays.1) here)

    pub asked_does : DoesAsk means place call old new
    asked_does was told_was = (
      work.0,
      work.1,
      record {
        stopped = called.stopped;
        works = work.2.works;
        notes = by_stop called.stopped refl;
        keeps = subst (λ (v : WriterView). KeepsCompleted (writer was place).begun v.begun) (sym row_new)
            (subst (λ (v : WriterView). KeepsCompleted v.begun (means.view new after.seat).begun) (sym row_old)
            (works_keep_completed means (route_of core) (Helps means) called.works));
        wrote = subst (λ (v : WriterView). Wrote (means.setup old) place v) (sym row_new)
            (wrote (means.setup old) place (means.view new after.seat) after.writer agrees called.going laid
            (subst (λ (p : ℕ). HasProducer (means.setup old) p) (ap (λ (s : WriterSpec). s.producer) spec_is) seated.agrees.writes.route.producer));
      },
    )
      where
        begins : Begins means (means.setup old) place (route_of core) helper old core.seat
        begins = record {
          setup_is = refl;
          place_is = place_is;
          sits = seated.sits;
          sit = all_sit means old cores helper.service core stands;
          serves = stands.served.serves;
          producer = producer_is;
          none_out = none_between (means.setup old) place (means.view old core.seat) seated.agrees.claims;
        }

        work : (is : World) × (means.told new ≡ Some is) × WorksTo (means.setup old) place call (route_of core).spec.policy called.stopped was is
        work = elim called.asks [
          | inl may ↦
              works_world means laws (means.setup old) place (route_of core) call may seated.agrees.writes.route.range
              (ap (λ (s : WriterSpec). s.producer) spec_is) (ap (λ (s : WriterSpec). s.policy) spec_is) _ (λ table seat next moved quiet. quiet) called.works
              (refuses_none (route_of core).spec.policy called.stopped called.drops) begins was told_was
          | inr quiet ↦
              quiet_world means laws (means.setup old) place (route_of core) call helper old core.seat called.stopped new after.seat quiet.1 quiet.0
              begins was told_was
        ]

        row_old : writer was place ≡ means.view old core.seat
        row_old = row_is means laws old was told_was place core.seat seated.sits place_is

        row_new : writer work.0 place ≡ means.view new after.seat
        row_new = row_is means laws new work.0 work.1 place after.seat called.others.seat_stays (called.others.place_stays ∙ place_is)

        noted : (done : List Call) → noted_as called.stopped (route_of core).spec.policy call ≡ done → (writer work.0 place).calls ≡ (writer was place).calls ++ done
        noted done is =
            ap (λ (v : WriterView). v.calls) row_new ∙ called.notes
            ∙ ap (λ (v : WriterView). v.calls ++ noted_as called.stopped (route_of core).spec.policy call) (sym row_old)
            ∙ ap (λ (cs : List Call). (writer was place).calls ++ cs) is

        may_need : MayNeedChunk call ⊎ ((called.stopped ≡ false) × IsQuiet means old core.seat new after.seat) → called.stopped ≡ true → MayNeedChunk call
        may_need (inl may) is = may
        may_need (inr quiet) is = absurd (true≢false (sym is ∙ quiet.0))

        by_stop : (stopped : Bool) → called.stopped ≡ stopped → Notes (means.setup old) place call stopped was work.0
        by_stop false is =
            noted (call ∷ []) (ap (λ (b : Bool). noted_as b (route_of core).spec.policy call) is ∙ noted_whole (route_of core).spec.policy call proper)
        by_stop true is = (
          noted (dropped_call call) (ap (λ (b : Bool). noted_as b (route_of core).spec.policy call) is ∙ noted_lost (route_of core).spec.policy call (called.drops is)),
          may_need called.asks is,
          ap (λ (s : WriterSpec). loses s.policy) (sym spec_is) ∙ called.drops is,
          work.2.full is,
          lost_behind is,
        )
          where
            -- its last claims were rounds in vain
            lost_behind : called.stopped ≡ true
                → LosesBehind (means.setup old) (range_of (means.setup old) (producer_of (means.setup old) place)) (rounds_for (policy_of (means.setup old) place))
                (writer was place) (writer work.0 place)
            lost_behind stops =
                subst (λ (v : WriterView). LosesBehind (means.setup old) (range_of (means.setup old) (producer_of (means.setup old) place)) (rounds_for (policy_of (means.setup old) place)) (writer was place) v) (sym row_new)
                (subst (λ (v : WriterView). LosesBehind (means.setup old) (range_of (means.setup old) (producer_of (means.setup old) place)) (rounds_for (policy_of (means.setup old) place)) v (means.view new after.seat)) (sym row_old)
                (subst (λ (many : ℕ). LosesBehind (means.setup old) (range_of (means.setup old) (producer_of (means.setup old) place)) many (means.view old core.seat) (means.view new after.seat))
                (ap (λ (s : WriterSpec). rounds_for s.policy) spec_is)
                (subst (λ (range : ChunkRange). LosesBehind (means.setup old) range (rounds_for (route_of core).spec.policy) (means.view old core.seat) (means.view new after.seat))
                (sym seated.agrees.writes.route.range) (called.lost stops))))

    -- the writer has noted the call, with its packet lost or not
    pub asked_own : (was is : WriterCore W) → slice_get cores place ≡ Some was → slice_get (set cores place after) place ≡ Some is
        → (asked : List Call) → Loses asked (means.view old was.seat).calls → Loses (asked ++ call ∷ []) (means.view new is.seat).calls
    asked_own was is before behind asked loses =
        subst (λ (c : WriterCore W). Loses (asked ++ call ∷ []) (means.view new c.seat).calls) (sym (set_here cores place after place is behind refl))
        (loses_more asked (means.view old core.seat) (means.view new after.seat) call (noted_as called.stopped (route_of core).spec.policy call)
        (subst (λ (c : WriterCore W). Loses asked (means.view old c.seat).calls) (same_Some was core (sym before ∙ at)) loses) called.notes
        (noted_for called.stopped (route_of core).spec.policy call proper called.drops))

    pub asked_others : (other : ℕ) (was is : WriterCore W) → other ≢ place → slice_get cores other ≡ Some was → slice_get (set cores place after) other ≡ Some is
        → (means.view new is.seat).calls ≡ (means.view old was.seat).calls
    asked_others other was is apart before behind =
        let same : is ≡ was = same_Some _ _ (sym (set_there cores place after other is behind apart) ∙ before) in
        let here = stands.seated other was before in
        let stays = called.others.writers_stay was.seat here.sits (λ at_own. apart (sym here.place_is ∙ at_own ∙ place_is)) in
        ap (λ (c : WriterCore W). (means.view new c.seat).calls) same ∙ ap (λ (v : WriterView). v.calls) stays.1

-- a call that is accepted is one that can be asked for
pub proper_is : (packets : List Packet) (call : Call) → Accepts packets call → IsProper call
proper_is packets (Begun kept) accepts = accepts.0
proper_is packets (Number field value) accepts = tt
proper_is packets (Bytes field text times) accepts = tt
proper_is packets (Nested field) accepts = tt
proper_is packets Ended accepts = tt
proper_is packets GivenUp accepts = absurd accepts
proper_is packets Finished accepts = tt
proper_is packets Flushed accepts = tt
