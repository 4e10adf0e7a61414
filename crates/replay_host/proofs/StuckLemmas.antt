-- Why a writer stalls: each chunk of its producer is being written by another writer.
use Rattle.std.proofs.Common.{◌≡◌, ◌≢◌, ◌∙◌, ℕ, zero, suc, ◌<◌, ◌≤◌, ◌⊎◌, inl, inr, Bool, true, false, cond, None, List, [], ◌∷◌, ◌++◌, length, refl, sym, ap, subst, arith}
use Rattle.std.specs.Prelude.{slice_index_or}
use Rattle.std.proofs.lemmas.Bool.{cases_eq, cases_lt, eq-eqb}
use Rattle.std.proofs.Math.Logic.{∥∥₁_elim}
use Rattle.std.proofs.lemmas.List.{get_or_past}
use Rattle.trace_model.specs.Packets.{account_of}
use Rattle.chunk_plain.specs.declared.tokens.TheConstants.{POSITION_LIMIT}
use Rattle.chunk_plain.specs.Histories.{completed_images}
use Rattle.chunk_plain.specs.Owned.{IsOwned, times, claims_of, reads_of}
use Rattle.chunk_plain.specs.Setup.{Setup, HasProducer, IsChunkOf, producer_of, ProducersAreApart}
use Rattle.chunk_plain.specs.Views.{At, BegunChunk, chunk_of, Held, Completed, Draft, Content, Taken, WriterView, newcomer, ServiceView, none_taken, taken_of}
use Rattle.chunk_plain.specs.World.{World, Status, Unclaimed, Claimed, Stamped, Writing, Ready, Reading, status, writer}
use Rattle.chunk_plain.proofs.Lists.{at_inside, at_one}
use Rattle.trace_writer.specs.declared.state.State.{State}
use Rattle.trace_writer.specs.declared.state.State.TheVariants as state
use Rattle.trace_writer.specs.declared.state.Writer.{Writer}
use Rattle.trace_writer.specs.Agreement.{Agrees, StateAgrees}
use Rattle.trace_writer.specs.Claims.{KeepsClaims, AreOwnChunks}
use Rattle.trace_writer.specs.Core.{WriterAgrees}
use Rattle.trace_writer.specs.Empty.{is_stalled}
use Rattle.trace_writer.specs.Filled.{ShowsPages}
use Rattle.trace_writer.specs.OwnSteps.{KeepsChunks, NoneHeld}
use Rattle.trace_writer.specs.Site.{Site, site_of}
use Rattle.trace_writer.proofs.holding.KeptChunks.{shown_none_held}
use Rattle.trace_model.specs.Pages.{Page}
use Rattle.service_core.specs.Told.{NoneLeft}
use Rattle.replay_model.specs.Does.{LeavesRest, HasNoFreeChunk}
use Rattle.replay_host.specs.Stopping.{AreOthers}

-- ---- what a writer has begun

-- none is completed behind one that is held
abbrev pub CompletesFirst : List BegunChunk → Type 0
CompletesFirst [] = Unit {0}
CompletesFirst (Held chunk draft ∷ begun) = begun ≡ []
CompletesFirst (Completed chunk content ∷ begun) = CompletesFirst begun

shown_first : (site : Site) (id : ℕ) (begun : List BegunChunk) (pages : List Page) → ShowsPages site id begun pages → CompletesFirst begun
shown_first site id [] pages shown = tt
shown_first site id (Held chunk draft ∷ begun) pages shown = absurd shown
shown_first site id (Completed chunk content ∷ begun) [] shown = absurd shown
shown_first site id (Completed chunk content ∷ begun) (page ∷ pages) shown = shown_first site (suc id) begun pages shown.1

held_first : (site : Site) (id : ℕ) (begun : List BegunChunk) (pages : List Page) (chunk : ℕ) (draft : Draft) → ShowsPages site id begun pages
    → CompletesFirst (begun ++ Held chunk draft ∷ [])
held_first site id [] pages chunk draft shown = refl
held_first site id (Held other head ∷ begun) pages chunk draft shown = absurd shown
held_first site id (Completed other content ∷ begun) [] chunk draft shown = absurd shown
held_first site id (Completed other content ∷ begun) (page ∷ pages) chunk draft shown = held_first site (suc id) begun pages chunk draft
    shown.1

state_first : (setup : Setup) (place : ℕ) (view : WriterView) (one : Writer) → Agrees setup place view one → (at : State) → one.state ≡ at
    → CompletesFirst view.begun
state_first setup place view one agrees (state.Idle next_id) is =
    let idle = subst (StateAgrees (site_of setup place one.route) (account_of view.calls) view one.pending) is agrees.state in
    shown_first (site_of setup place one.route) 0 view.begun idle.1.pages idle.1.shown
state_first setup place view one agrees (state.Between chunk) is =
    let behind = subst (StateAgrees (site_of setup place one.route) (account_of view.calls) view one.pending) is agrees.state in
    subst CompletesFirst (sym behind.begun) (held_first (site_of setup place one.route) 0 behind.completed behind.pages chunk.held.chunk
    behind.draft behind.shown)
state_first setup place view one agrees (state.Writing fragment) is =
    let into = subst (StateAgrees (site_of setup place one.route) (account_of view.calls) view one.pending) is agrees.state in
    subst CompletesFirst (sym into.inside.begun)
    (held_first (site_of setup place one.route) 0 into.inside.completed into.inside.pages fragment.held.chunk into.inside.draft
    into.inside.shown)
state_first setup place view one agrees (state.Dropping next_id) is =
    let lost = subst (StateAgrees (site_of setup place one.route) (account_of view.calls) view one.pending) is agrees.state in
    shown_first (site_of setup place one.route) 0 view.begun lost.1.idle.pages lost.1.idle.shown
state_first setup place view one agrees (state.Stalled next_id) is =
    let stuck = subst (StateAgrees (site_of setup place one.route) (account_of view.calls) view one.pending) is agrees.state in
    shown_first (site_of setup place one.route) 0 view.begun stuck.1.pages stuck.1.shown

-- one that is stalled holds none
pub stalled_holds_none : (setup : Setup) (place : ℕ) (view : WriterView) (one : Writer) → Agrees setup place view one → (at : State)
    → one.state ≡ at
    → is_stalled at ≡ true → NoneHeld view.begun
stalled_holds_none setup place view one agrees (state.Idle next_id) is halted = absurd (let never : false ≡ true = halted in cc)
stalled_holds_none setup place view one agrees (state.Between chunk) is halted = absurd (let never : false ≡ true = halted in cc)
stalled_holds_none setup place view one agrees (state.Writing fragment) is halted = absurd (let never : false ≡ true = halted in cc)
stalled_holds_none setup place view one agrees (state.Dropping next_id) is halted = absurd (let never : false ≡ true = halted in cc)
stalled_holds_none setup place view one agrees (state.Stalled next_id) is halted =
    let stuck = subst (StateAgrees (site_of setup place one.route) (account_of view.calls) view one.pending) is agrees.state in
    shown_none_held (site_of setup place one.route) 0 view.begun stuck.1.pages stuck.1.shown

-- one is held or completed
not_both : (begun : List BegunChunk) (about chunk : ℕ) (draft : Draft) (content : Content)
    → At (Held about draft ∷ begun) zero (Completed chunk content) → ⊥
not_both begun about chunk draft content at =
    let never : Held about draft ≡ Completed chunk content = at_one (Held about draft ∷ begun) (Held about draft)
    (Completed chunk content) zero refl at in cc

same_chunk : (begun : List BegunChunk) (about chunk : ℕ) (other content : Content)
    → At (Completed about other ∷ begun) zero (Completed chunk content) → about ≡ chunk
same_chunk begun about chunk other content at =
    ap chunk_of (at_one (Completed about other ∷ begun) (Completed about other) (Completed chunk content) zero refl at)

-- one that is completed stands among the completed ones
completed_inside : (begun : List BegunChunk) → CompletesFirst begun → (id chunk : ℕ) (content : Content)
    → At begun id (Completed chunk content) → id < length (completed_images begun)
completed_inside [] first id chunk content at = absurd (let inside = at_inside [] (Completed chunk content) id at in omega (arith, inside))
completed_inside (Held about draft ∷ begun) first zero chunk content at = absurd (not_both begun about chunk draft content at)
completed_inside (Held about draft ∷ begun) first (suc id) chunk content at =
    absurd (let inside = at_inside begun (Completed chunk content) id at in let none = ap (λ (xs : List BegunChunk). length xs) first in omega
    (arith, inside, none))
completed_inside (Completed about other ∷ begun) first zero chunk content at = omega arith
completed_inside (Completed about other ∷ begun) first (suc id) chunk content at =
    let inside = completed_inside begun first id chunk content at in omega (arith, inside)

-- and so does each one before it
completed_before : (begun : List BegunChunk) → CompletesFirst begun → (id before chunk : ℕ) (content : Content)
    → At begun id (Completed chunk content) → before ≤ id
    → (about : ℕ) × (other : Content) × At begun before (Completed about other)
completed_before [] first id before chunk content at order = absurd
    (let inside = at_inside [] (Completed chunk content) id at in omega (arith, inside))
completed_before (Held about draft ∷ begun) first zero before chunk content at order = absurd (not_both begun about chunk draft content at)
completed_before (Held about draft ∷ begun) first (suc id) before chunk content at order =
    absurd (let inside = at_inside begun (Completed chunk content) id at in let none = ap (λ (xs : List BegunChunk). length xs) first in omega
    (arith, inside, none))
completed_before (Completed about other ∷ begun) first id zero chunk content at order = (about, other, refl)
completed_before (Completed about other ∷ begun) first zero (suc before) chunk content at order = absurd (omega (arith, order))
completed_before (Completed about other ∷ begun) first (suc id) (suc before) chunk content at order =
    completed_before begun first id before chunk content at (omega (arith, order))

-- a chunk that was completed is the producer's
own_at : (setup : Setup) (producer : ℕ) (begun : List BegunChunk) → AreOwnChunks setup producer begun → (id chunk : ℕ) (content : Content)
    → At begun id (Completed chunk content) → IsChunkOf setup producer chunk
own_at setup producer [] own id chunk content at = absurd
    (let inside = at_inside [] (Completed chunk content) id at in omega (arith, inside))
own_at setup producer (Held about draft ∷ begun) own zero chunk content at = absurd (not_both begun about chunk draft content at)
own_at setup producer (Held about draft ∷ begun) own (suc id) chunk content at = own_at setup producer begun own.1 id chunk content at
own_at setup producer (Completed about other ∷ begun) own zero chunk content at = subst (IsChunkOf setup producer)
    (same_chunk begun about chunk other content at) own.0
own_at setup producer (Completed about other ∷ begun) own (suc id) chunk content at = own_at setup producer begun own.1 id chunk content at

-- where none is held, no place has a held one
none_at : (begun : List BegunChunk) → NoneHeld begun → (id chunk : ℕ) (draft : Draft) → At begun id (Held chunk draft) → ⊥
none_at [] none id chunk draft at = let inside = at_inside [] (Held chunk draft) id at in omega (arith, inside)
none_at (Held about other ∷ begun) none id chunk draft at = none
none_at (Completed about content ∷ begun) none zero chunk draft at =
    let never : Completed about content ≡ Held chunk draft = at_one (Completed about content ∷ begun) (Completed about content)
    (Held chunk draft) zero refl at in cc
none_at (Completed about content ∷ begun) none (suc id) chunk draft at = none_at begun none id chunk draft at

-- one that is completed behind steps, where none was held, was completed before them
kept_at : (old new : List BegunChunk) → KeepsChunks old new → NoneHeld old → (id chunk : ℕ) (content : Content)
    → At new id (Completed chunk content)
    → (older : Content) × At old id (Completed chunk older)
kept_at [] [] keeps none id chunk content at = absurd (let inside = at_inside [] (Completed chunk content) id at in omega (arith, inside))
kept_at [] (one ∷ new) keeps none id chunk content at = absurd keeps
kept_at (one ∷ old) [] keeps none id chunk content at = absurd
    (let inside = at_inside [] (Completed chunk content) id at in omega (arith, inside))
kept_at (Held about draft ∷ old) (next ∷ new) keeps none id chunk content at = absurd none
kept_at (Completed about before ∷ old) (Held other draft ∷ new) keeps none id chunk content at = absurd keeps
kept_at (Completed about before ∷ old) (Completed other after ∷ new) keeps none zero chunk content at = (
  before,
  subst (λ (c : ℕ). At (Completed about before ∷ old) zero (Completed c before))
      (sym keeps.0 ∙ same_chunk new other chunk after content at) refl,
)
kept_at (Completed about before ∷ old) (Completed other after ∷ new) keeps none (suc id) chunk content at = kept_at old new keeps.2 none
    id chunk content at

-- ---- worlds

-- what a writer has between two calls
pub record IsTidy (setup : Setup) (place : ℕ) (view : WriterView) : Type 0 where
  pub claims : KeepsClaims setup place view
  pub first : CompletesFirst view.begun
  pub few : length (completed_images view.begun) ≤ POSITION_LIMIT
  pub has : HasProducer setup (producer_of setup place)

pub tidy_is : (setup : Setup) (place : ℕ) (view : WriterView) (one : Writer) → WriterAgrees setup place view one
    → length (completed_images view.begun) ≤ POSITION_LIMIT → HasProducer setup (producer_of setup place) → IsTidy setup place view
tidy_is setup place view one agrees few has = record {
  claims = agrees.claims;
  first = state_first setup place view one agrees.writes
      one.state refl;
  few = few;
  has = has;
}

-- The world behind a call in which the writer at this place stalled: no chunk of its producer is free, none is left for the service, and
-- all writers are between two calls.
pub record IsStuck (setup : Setup) (producer place : ℕ) (world : World) : Type 0 where
  pub owned : ∥ IsOwned world ∥₁
  pub many : length world.writers ≡ length setup.writers
  pub tidy : (other : ℕ) → other < length setup.writers → IsTidy setup other (writer world other)
  pub full : HasNoFreeChunk setup producer world
  pub none_left : NoneLeft setup producer world
  pub none_read : world.service.reading ≡ []
  pub own : NoneHeld (writer world place).begun
  pub apart : ProducersAreApart setup
  pub has : HasProducer setup producer

module _ (setup : Setup) (producer place : ℕ) (world : World) (stuck : IsStuck setup producer place world) where
  newcomer_is : (other : ℕ) → length setup.writers ≤ other → writer world other ≡ newcomer
  newcomer_is other beyond = get_or_past world.writers other newcomer (let many = stuck.many in omega (arith, many, beyond))

  claimed_is : (other : ℕ) → (writer world other).claimed ≡ []
  claimed_is other = elim (cases_lt other (length setup.writers)) [
    | inl inside ↦ (stuck.tidy other inside).claims.unclaimed
    | inr beyond ↦ ap (λ (v : WriterView). v.claimed) (newcomer_is other beyond)
  ]

  stamped_is : (other : ℕ) → (writer world other).stamped ≡ None
  stamped_is other = elim (cases_lt other (length setup.writers)) [
    | inl inside ↦ (stuck.tidy other inside).claims.unstamped
    | inr beyond ↦ ap (λ (v : WriterView). v.stamped) (newcomer_is other beyond)
  ]

  inside_is : (other id : ℕ) (entry : BegunChunk) → At (writer world other).begun id entry → other < length setup.writers
  inside_is other id entry at = elim (cases_lt other (length setup.writers)) [
    | inl inside ↦ inside
    | inr beyond ↦ absurd (let there = at_inside [] entry id
        (subst (λ (v : WriterView). At v.begun id entry) (newcomer_is other beyond) at) in omega (arith, there))
  ]

  none_claimed : (chunk other : ℕ) → status world chunk ≡ Claimed other → ⊥
  none_claimed chunk other is = ∥∥₁_elim stuck.owned (λ a b. absurd a) (λ owned.
      let one : 0 ≡ 1 = ap (times chunk) (sym (claimed_is other)) ∙ (owned.owns other chunk).claimed ∙ ap (claims_of other) is
      ∙ ap (λ (b : Bool). cond {A = ℕ} b 1 0) (eq-eqb other other refl) in
      omega (arith, one))

  none_stamped : (chunk other id : ℕ) → status world chunk ≡ Stamped other id → ⊥
  none_stamped chunk other id is = ∥∥₁_elim stuck.owned (λ a b. absurd a) (λ owned.
      let never = sym (stamped_is other) ∙ (owned.owns other chunk).stamped_is id is in cc)

  none_reading : (chunk other id : ℕ) (content : Content) → status world chunk ≡ Reading other id content → ⊥
  none_reading chunk other id content is = ∥∥₁_elim stuck.owned (λ a b. absurd a) (λ owned.
      let one : 0 ≡ 1 = ap (times chunk) (sym stuck.none_read) ∙ owned.reads chunk ∙ ap reads_of is in
      omega (arith, one))

  none_ready : (chunk other id : ℕ) (content : Content) → IsChunkOf setup producer chunk → status world chunk ≡ Ready other id content → ⊥
  none_ready chunk other id content of_producer is = ∥∥₁_elim stuck.owned (λ a b. absurd a) (λ owned.
      let count : ℕ = (taken_of world.service other).count in
      let view : WriterView = writer world other in
      let at = (owned.owns other chunk).ready_is id content is in
      let inside = inside_is other id (Completed chunk content) at.0 in
      let tidy = stuck.tidy other inside in
      let own = own_at setup (producer_of setup other) view.begun tidy.claims.own_chunks id chunk content at.0 in
      let named : producer_of setup other ≡ producer = stuck.apart (producer_of setup other) producer chunk tidy.has stuck.has own
      of_producer in
      let next = completed_before view.begun tidy.first id count chunk content at.0 at.1 in
      let low = completed_inside view.begun tidy.first id chunk content at.0 in
      let least = at.1 in
      let few = tidy.few in
      stuck.none_left other inside named next.0 next.1
      (own_at setup (producer_of setup other) view.begun tidy.claims.own_chunks count next.0 next.1 next.2)
      (omega (arith, low, least, few)) ((owned.owns other next.0).completed_is count next.1 next.2 (omega arith)))

  none_own : (chunk other id : ℕ) (draft : Draft) → status world chunk ≡ Writing other id draft → other ≡ place → ⊥
  none_own chunk other id draft is same = ∥∥₁_elim stuck.owned (λ a b. absurd a) (λ owned.
      none_at (writer world place).begun stuck.own id chunk draft
      (subst (λ (p : ℕ). At (writer world p).begun id (Held chunk draft)) same ((owned.owns other chunk).writing_is id draft is)))

  -- each chunk of the producer is being written by another writer
  pub others_write : AreOthers setup producer place world
  others_write chunk of_producer = by_status (status world chunk) refl
    where
      by_status : (at : Status) → status world chunk ≡ at
          → (other id : ℕ) × (draft : Draft) × (status world chunk ≡ Writing other id draft) × (other ≢ place)
      by_status Unclaimed is = absurd (stuck.full chunk of_producer.least of_producer.below is)
      by_status (Claimed other) is = absurd (none_claimed chunk other is)
      by_status (Stamped other id) is = absurd (none_stamped chunk other id is)
      by_status (Writing other id draft) is = (other, id, draft, is, λ same. none_own chunk other id draft is same)
      by_status (Ready other id content) is = absurd (none_ready chunk other id content of_producer is)
      by_status (Reading other id content) is = absurd (none_reading chunk other id content is)

-- ---- from before the call to its end

-- the writer that a chunk's status names
abbrev writer_in : Status → ℕ
writer_in (Writing other id draft) = other
writer_in status = 0

-- what others write behind steps that leave their views, they or others wrote before them
pub others_wrote : (setup : Setup) (producer place : ℕ) (was is : World) → ∥ IsOwned was ∥₁ → ∥ IsOwned is ∥₁
    → ((other : ℕ) → other ≢ place → writer is other ≡ writer was other) → AreOthers setup producer place is → AreOthers setup producer place was
others_wrote setup producer place was is owned_was owned_is same others chunk of_producer = by_status (status was chunk) refl
  where
    other : ℕ
    other = (others chunk of_producer).0

    id : ℕ
    id = (others chunk of_producer).1

    draft : Draft
    draft = (others chunk of_producer).2

    apart : other ≢ place
    apart = (others chunk of_producer).4

    only : (at : Status) → status was chunk ≡ at → (at ≡ Writing other id draft → ⊥) → ⊥
    only at here differs = ∥∥₁_elim owned_was (λ a b. absurd a) (λ owned. ∥∥₁_elim owned_is (λ a b. absurd a) (λ later.
        differs (sym here ∙ (owned.owns other chunk).held_is id draft
        (subst (λ (v : WriterView). At v.begun id (Held chunk draft)) (same other apart)
        ((later.owns other chunk).writing_is id draft (others chunk of_producer).3)))))

    by_status : (at : Status) → status was chunk ≡ at
        → (one number : ℕ) × (text : Draft) × (status was chunk ≡ Writing one number text) × (one ≢ place)
    by_status Unclaimed here = absurd (only Unclaimed here (λ never. cc))
    by_status (Claimed one) here = absurd (only (Claimed one) here (λ never. cc))
    by_status (Stamped one number) here = absurd (only (Stamped one number) here (λ never. cc))
    by_status (Writing one number text) here =
        (one, number, text, here, λ own. only (Writing one number text) here (λ alike. apart (sym (ap writer_in alike) ∙ own)))
    by_status (Ready one number content) here = absurd (only (Ready one number content) here (λ never. cc))
    by_status (Reading one number content) here = absurd (only (Reading one number content) here (λ never. cc))

-- ---- from the last help to the end of the call

-- a help that took nothing frees no chunk
pub none_freed : (asking kept : World) → ∥ IsOwned asking ∥₁ → ∥ IsOwned kept ∥₁ → kept.writers ≡ asking.writers
    → kept.service.taken ≡ asking.service.taken
    → asking.service.reading ≡ [] → (chunk : ℕ) → status kept chunk ≡ Unclaimed → (status asking chunk ≡ Unclaimed → ⊥) → ⊥
none_freed asking kept owned_asking owned_kept writers taken idle chunk free apart =
    ∥∥₁_elim owned_asking (λ a b. absurd a) (λ owned. ∥∥₁_elim owned_kept (λ a b. absurd a)
    (λ later. by_status owned later (status asking chunk) refl))
  where
    view_is : (other : ℕ) → writer asking other ≡ writer kept other
    view_is other = ap (λ (vs : List WriterView). slice_index_or vs other newcomer) (sym writers)

    count_is : (other : ℕ) → (taken_of kept.service other).count ≡ (taken_of asking.service other).count
    count_is other = ap (λ (ts : List Taken). (slice_index_or ts other none_taken).count) taken

    by_status : IsOwned asking → IsOwned kept → (at : Status) → status asking chunk ≡ at → ⊥
    by_status owned later Unclaimed is = apart is
    by_status owned later (Claimed other) is =
        let one : 1 ≡ 0 = ap (λ (b : Bool). cond {A = ℕ} b 1 0) (sym (eq-eqb other other refl)) ∙ ap (claims_of other) (sym is)
        ∙ sym (owned.owns other chunk).claimed ∙ ap (λ (v : WriterView). times chunk v.claimed) (view_is other)
        ∙ (later.owns other chunk).claimed ∙ ap (claims_of other) free in
        omega (arith, one)
    by_status owned later (Stamped other id) is =
        let never = sym free ∙ (later.owns other chunk).stamp_is id
        (ap (λ (v : WriterView). v.stamped) (sym (view_is other)) ∙ (owned.owns other chunk).stamped_is id is) in cc
    by_status owned later (Writing other id draft) is =
        let never = sym free ∙ (later.owns other chunk).held_is id draft
        (subst (λ (v : WriterView). At v.begun id (Held chunk draft)) (view_is other)
        ((owned.owns other chunk).writing_is id draft is)) in cc
    by_status owned later (Ready other id content) is =
        let at = (owned.owns other chunk).ready_is id content is in
        let least = at.1 in
        let same = count_is other in
        let never = sym free ∙ (later.owns other chunk).completed_is id content
        (subst (λ (v : WriterView). At v.begun id (Completed chunk content)) (view_is other) at.0) (omega (arith, least, same)) in cc
    by_status owned later (Reading other id content) is =
        let one : 0 ≡ 1 = ap (times chunk) (sym idle) ∙ owned.reads chunk ∙ ap reads_of is in
        omega (arith, one)

-- where none was left for the service, none is behind the writer's last steps
pub none_left_still : (setup : Setup) (producer place : ℕ) (kept is : World) → ∥ IsOwned kept ∥₁ → ∥ IsOwned is ∥₁
    → LeavesRest place kept is
    → KeepsChunks (writer kept place).begun (writer is place).begun → NoneHeld (writer kept place).begun → NoneLeft setup producer kept
    → NoneLeft setup producer is
none_left_still setup producer place kept is owned_kept owned_is leaves chunks held none other inside named chunk content own low ready =
    ∥∥₁_elim owned_kept (λ a b. absurd a) (λ owned. ∥∥₁_elim owned_is (λ a b. absurd a) (λ later.
    let at = older_at (cases_eq other place) ((later.owns other chunk).ready_is (taken_of is.service other).count content ready).0 in
    let at_kept = subst (λ (n : ℕ). At (writer kept other).begun n (Completed chunk at.0)) count_is at.1 in
    none other inside named chunk at.0 own (subst (λ (n : ℕ). n < POSITION_LIMIT) count_is low)
    ((owned.owns other chunk).completed_is (taken_of kept.service other).count at.0 at_kept (omega arith))))
  where
    count_is : (taken_of is.service other).count ≡ (taken_of kept.service other).count
    count_is = ap (λ (v : ServiceView). (taken_of v other).count) leaves.service

    older_at : (other ≡ place) ⊎ (other ≡ place → ⊥)
        → At (writer is other).begun (taken_of is.service other).count (Completed chunk content)
        → (older : Content) × At (writer kept other).begun (taken_of is.service other).count (Completed chunk older)
    older_at (inl same) at =
        let there = kept_at (writer kept place).begun (writer is place).begun chunks held (taken_of is.service other).count chunk content
        (subst (λ (p : ℕ). At (writer is p).begun (taken_of is.service other).count (Completed chunk content)) same at) in (
          there.0,
          subst (λ (p : ℕ). At (writer kept p).begun (taken_of is.service other).count (Completed chunk there.0)) (sym same)
              there.1,
        )
    older_at (inr apart) at = (
      content,
      subst (λ (v : WriterView). At v.begun (taken_of is.service other).count (Completed chunk content))
          (leaves.writers other apart) at,
    )
