-- What the close of a sequence leaves of the others.
use Rattle.std.proofs.Common.{◌≡◌, ◌≢◌, ◌∙◌, ℕ, ◌+◌, ◌-◌, ◌<◌, ◌⊎◌, Bool, true, false, List, [], ◌∷◌, ◌++◌, length, refl, sym, ap, subst, arith, inl, inr, append_assoc}
use Rattle.std.specs.Prelude.{cond}
use Rattle.std.specs.List.{flat_map}
use Rattle.std.proofs.lemmas.Bool.{cases_eq}
use Rattle.std.proofs.lemmas.List.{map-append}
use Rattle.trace_base.proofs.Lists.{get_more, get_seam}
use Rattle.trace_model.specs.Sequences.{Sequence, sequence_in, is_known}
use Rattle.trace_model.specs.Buffers.{Buffer}
use Rattle.trace_model.specs.Patches.{closed_sequence, closed_buffer}
use Rattle.trace_model.specs.History as model
use Rattle.trace_model.specs.History.{buffer_after, buffers_after}
use Rattle.trace_model.proofs.SequenceLemmas.{changed_here, changed_other}
use Rattle.chunk_plain.specs.Setup.{Setup, producer_of}
use Rattle.chunk_plain.specs.Views.{Noted, Closed, Commit, Committed, ServiceView, taken_of}
use Rattle.chunk_plain.specs.Steps.{notes_commit}
use Rattle.chunk_plain.specs.Histories.{commit_of, happened}
use Rattle.chunk_plain.proofs.ArrivedLemmas.{arrived_on}
use Rattle.service_core.specs.declared.service.ServiceCore.{ServiceCore}
use Rattle.service_core.specs.Routing.{buffer_at, is_closed_at}
use Rattle.world_model.specs.Accounts.{NoneCommitted}
use Rattle.service_core.specs.Agreement.{AreKnownNotes, ServiceAgrees, KeepsFields, buffer_of, is_closed}
use Rattle.service_core.specs.Order.{LeadTo, beginning}
use Rattle.service_core.specs.Taking.{noted_more}
use Rattle.service_core.specs.Closing.{ClosesOne, ClosesSome, closes_of}
use Rattle.service_core.proofs.HistoryLemmas.{Grows}
use Rattle.service_core.proofs.RouteLemmas.{at_after}
use Rattle.service_core.proofs.RoutedLemmas.{stands, closed_by_none}
use Rattle.service_core.proofs.AgreeLemmas.{agrees_grown, order_there}
use Rattle.service_core.proofs.OrderLemmas.{lead_both, lead_grows, lead_closed, lead_closed_other}

pub noted_grows : (view : ServiceView) (notes : List Noted) → Grows view (noted_more view notes)
noted_grows view notes = record { contents = λ s i content is. is; looks = λ p i n found is. is; commits = λ k committed is. is }

-- Notes are made of what the buffers did.
pub agrees_noted : {S : Type 0} → (setup : Setup) (old : ServiceView) (core done : ServiceCore S) (notes : List Noted) → ServiceAgrees setup old core → KeepsFields core done
    → done.buffers.items ≡ buffers_after core.buffers.items (flat_map (happened (noted_more old notes)) notes) → done.taken.items ≡ core.taken.items
    → AreKnownNotes (noted_more old notes) notes
    → ((place : ℕ) → place < length setup.writers → NoneCommitted old (place + 2)
    → LeadTo (noted_more old notes) (place + 2) (record { come = (taken_of old place).count; closed = is_closed setup core place; due = [] }) notes
    (record { come = (taken_of old place).count; closed = is_closed setup done place; due = [] }))
    → ServiceAgrees setup (noted_more old notes) done
agrees_noted setup old core done notes agrees keeps buffers_are taken_is known leads =
    let new : ServiceView = noted_more old notes in
    let grows = noted_grows old notes in
    agrees_grown setup old new core done notes agrees keeps grows refl refl refl (taken_is ∙ agrees.taken) buffers_are
    (arrived_on old notes agrees.arrived) known
    (λ place inside none.
    lead_both new (place + 2) beginning (record { come = (taken_of old place).count; closed = is_closed setup core place; due = [] })
    (record { come = (taken_of old place).count; closed = is_closed setup done place; due = [] }) old.events notes
    (lead_grows old new (place + 2) beginning (record { come = (taken_of old place).count; closed = is_closed setup core place; due = [] }) old.events grows agrees.known (agrees.order place inside none))
    (leads place inside none))

-- the sequence itself is closed, and each other one is as it was
pub closed_here : (b : Buffer) (q : ℕ) → is_known b.sequences q ≡ true → (sequence_in (buffer_after b (model.Closed q)).sequences q).closed ≡ true
closed_here b q known =
    ap (λ (x : Bool). (sequence_in (cond x (cond (sequence_in b.sequences q).closed b (closed_buffer b q)) b).sequences q).closed) known ∙ step (sequence_in b.sequences q).closed refl
  where
    step : (x : Bool) → (sequence_in b.sequences q).closed ≡ x → (sequence_in (cond x b (closed_buffer b q)).sequences q).closed ≡ true
    step true is = is
    step false is = ap (λ (s : Sequence). s.closed) (changed_here q (closed_sequence b.live) (λ s. refl) b.sequences known)

pub closed_there : (b : Buffer) (q other : ℕ) → is_known b.sequences other ≡ true → q ≢ other
    → (sequence_in (buffer_after b (model.Closed q)).sequences other).closed ≡ (sequence_in b.sequences other).closed
closed_there b q other known differs = by_known (is_known b.sequences q)
  where
    step : (x : Bool) → (sequence_in (cond x b (closed_buffer b q)).sequences other).closed ≡ (sequence_in b.sequences other).closed
    step true = refl
    step false = ap (λ (s : Sequence). s.closed) (changed_other q other (closed_sequence b.live) (λ s. refl) b.sequences known differs)

    by_known : (x : Bool) → (sequence_in (cond x (cond (sequence_in b.sequences q).closed b (closed_buffer b q)) b).sequences other).closed ≡ (sequence_in b.sequences other).closed
    by_known true = step (sequence_in b.sequences q).closed
    by_known false = refl

pub closes_here : {S : Type 0} → (setup : Setup) (view : ServiceView) (core done : ServiceCore S) (place : ℕ) → ServiceAgrees setup view core → place < length setup.writers
    → done.buffers.items ≡ buffers_after core.buffers.items (model.Closed (place + 2) ∷ []) → is_closed setup done place ≡ true
closes_here setup view core done place agrees inside buffers_are =
    let index : ℕ = buffer_of setup place - 1 in
    let at = stands setup view core place agrees inside in
    ap (λ (bs : List Buffer). is_closed_at bs index (place + 2)) buffers_are
    ∙ ap (λ (b : Buffer). (sequence_in b.sequences (place + 2)).closed) (at_after core.buffers.items index (model.Closed (place + 2) ∷ []) at.inside)
    ∙ closed_here (buffer_at core.buffers.items index) (place + 2) at.known

pub closes_there : {S : Type 0} → (setup : Setup) (view : ServiceView) (core done : ServiceCore S) (place other : ℕ) → ServiceAgrees setup view core
    → other < length setup.writers → other ≢ place
    → done.buffers.items ≡ buffers_after core.buffers.items (model.Closed (place + 2) ∷ []) → is_closed setup done other ≡ is_closed setup core other
closes_there setup view core done place other agrees inside differs buffers_are =
    let index : ℕ = buffer_of setup other - 1 in
    let at = stands setup view core other agrees inside in
    ap (λ (bs : List Buffer). is_closed_at bs index (other + 2)) buffers_are
    ∙ ap (λ (b : Buffer). (sequence_in b.sequences (other + 2)).closed) (at_after core.buffers.items index (model.Closed (place + 2) ∷ []) at.inside)
    ∙ closed_there (buffer_at core.buffers.items index) (place + 2) (other + 2) at.known (λ e. differs (let same : other ≡ place = omega (arith, e) in same))

-- Writer by writer

pub closes_skip : {S : Type 0} → (setup : Setup) (producer i : ℕ) (old new : ServiceCore S) → ClosesSome setup producer i old new → producer_of setup i ≢ producer
    → ClosesSome setup producer (i + 1) old new
closes_skip setup producer i old new some differs = record {
  fields = some.fields;
  closed = λ place low inside same. some.closed place (below place low same (cases_eq place i)) inside same;
  open_still = λ place low inside. some.open_still place (omega (arith, low)) inside;
  others = some.others;
}
  where
    below : (place : ℕ) → place < i + 1 → producer_of setup place ≡ producer → (place ≡ i) ⊎ (place ≡ i → ⊥) → place < i
    below place low same (inl is) = absurd (differs (ap (producer_of setup) (sym is) ∙ same))
    below place low same (inr other) = omega (arith, low, other)

pub closes_add : {S : Type 0} → (setup : Setup) (producer i : ℕ) (old mid new : ServiceCore S) → ClosesSome setup producer i old mid → ClosesOne setup i mid new
    → producer_of setup i ≡ producer → ClosesSome setup producer (i + 1) old new
closes_add setup producer i old mid new some one same = record {
  fields = record {
    layout = one.fields.layout ∙ some.fields.layout;
    specs = one.fields.specs ∙ some.fields.specs;
    writers = one.fields.writers ∙ some.fields.writers;
    session = one.fields.session ∙ some.fields.session;
  };
  closed = λ place low inside named. by_place place low inside named (cases_eq place i);
  open_still = λ place low inside. one.others place inside (λ e. absurd (omega (arith, low, e))) ∙ some.open_still place (omega (arith, low)) inside;
  others = λ place inside differs. one.others place inside (λ e. differs (ap (producer_of setup) e ∙ same)) ∙ some.others place inside differs;
}
  where
    by_place : (place : ℕ) → place < i + 1 → place < length setup.writers → producer_of setup place ≡ producer → (place ≡ i) ⊎ (place ≡ i → ⊥) → is_closed setup new place ≡ true
    by_place place low inside named (inl is) = ap (is_closed setup new) is ∙ one.closed
    by_place place low inside named (inr differs) = one.others place inside differs ∙ some.closed place (omega (arith, low, differs)) inside named

-- one close more was noted
pub noted_close : (between old new : ServiceView) (places : List ℕ) (place : ℕ) → old ≡ noted_more between (closes_of places) → new ≡ noted_more old (Closed (place + 2) ∷ [])
    → new ≡ noted_more between (closes_of (places ++ place ∷ []))
noted_close between old new places place before one =
    one ∙ ap (λ (v : ServiceView). noted_more v (Closed (place + 2) ∷ [])) before
    ∙ ap (λ (ns : List Noted). record between { events = ns }) (append_assoc between.events (closes_of places) (Closed (place + 2) ∷ []))
    ∙ ap (λ (ns : List Noted). noted_more between ns) (sym (map-append (λ (p : ℕ). Closed (p + 2)) places (place ∷ [])))

-- A commit is noted with what came by it.

pub committed_grows : (view : ServiceView) (committed : Committed) → Grows view (notes_commit view committed)
committed_grows view committed =
    record { contents = λ s i content is. is; looks = λ p i n found is. is; commits = λ k one is. get_more view.commits (committed ∷ []) k one is }

pub agrees_committed : {S : Type 0} → (setup : Setup) (old : ServiceView) (core done : ServiceCore S) (committed : Committed) → ServiceAgrees setup old core → KeepsFields core done
    → done.buffers.items ≡ buffers_after core.buffers.items (model.Committed committed.image committed.patches ∷ []) → done.taken.items ≡ core.taken.items
    → ServiceAgrees setup (notes_commit old committed) done
agrees_committed setup old core done committed agrees keeps buffers_are taken_is =
    let new : ServiceView = notes_commit old committed in
    let grows = committed_grows old committed in
    let notes : List Noted = Commit (length old.commits) ∷ [] in
    let event : flat_map (happened new) notes ≡ model.Committed committed.image committed.patches ∷ [] = ap (λ o. commit_of o ++ []) (get_seam old.commits [] committed) in
    agrees_grown setup old new core done notes agrees keeps grows refl refl refl (taken_is ∙ agrees.taken)
    (buffers_are ∙ ap (λ (es : List model.Event). buffers_after core.buffers.items es) (sym event)) (arrived_on old notes agrees.arrived)
    ((committed, get_seam old.commits [] committed), tt)
    (λ place inside none.
    order_there old new place notes (is_closed setup core place) (is_closed setup done place) grows agrees.known refl refl
    (sym (closed_by_none setup old core done place (model.Committed committed.image committed.patches ∷ []) agrees buffers_are (refl, tt) inside))
    (refl, none (length old.commits), refl) (agrees.order place inside (λ k one is. none k one (grows.commits k one is))))

-- the order goes on with the close of a writer's sequence
pub order_closed : {S : Type 0} → (setup : Setup) (view : ServiceView) (core done : ServiceCore S) (place : ℕ) → ServiceAgrees setup view core
    → is_closed setup core place ≡ false → done.buffers.items ≡ buffers_after core.buffers.items (model.Closed (place + 2) ∷ [])
    → (other : ℕ) → other < length setup.writers
    → LeadTo (noted_more view (Closed (place + 2) ∷ [])) (other + 2) (record { come = (taken_of view other).count; closed = is_closed setup core other; due = [] }) (Closed (place + 2) ∷ [])
    (record { come = (taken_of view other).count; closed = is_closed setup done other; due = [] })
order_closed setup view core done place agrees open_here buffers_are other inside = by_place (cases_eq other place)
  where
    by_place : (other ≡ place) ⊎ (other ≡ place → ⊥)
        → LeadTo (noted_more view (Closed (place + 2) ∷ [])) (other + 2) (record { come = (taken_of view other).count; closed = is_closed setup core other; due = [] }) (Closed (place + 2) ∷ [])
        (record { come = (taken_of view other).count; closed = is_closed setup done other; due = [] })
    by_place (inl same) =
        let v : ServiceView = noted_more view (Closed (place + 2) ∷ []) in
        let count : ℕ = (taken_of view other).count in
        let was : is_closed setup core other ≡ false = ap (is_closed setup core) same ∙ open_here in
        let low : place < length setup.writers = subst (λ (n : ℕ). n < length setup.writers) same inside in
        let is : is_closed setup done other ≡ true = ap (is_closed setup done) same ∙ closes_here setup view core done place agrees low buffers_are in
        subst (λ (b : Bool). LeadTo v (other + 2) (record { come = count; closed = is_closed setup core other; due = [] }) (Closed (place + 2) ∷ []) (record { come = count; closed = b; due = [] })) (sym is)
        (subst (λ (b : Bool). LeadTo v (other + 2) (record { come = count; closed = b; due = [] }) (Closed (place + 2) ∷ []) (record { come = count; closed = true; due = [] })) (sym was)
        (subst (λ (p : ℕ). LeadTo v (other + 2) (record { come = count; closed = false; due = [] }) (Closed (p + 2) ∷ []) (record { come = count; closed = true; due = [] })) same
        (lead_closed v (other + 2) count)))
    by_place (inr differs) =
        let v : ServiceView = noted_more view (Closed (place + 2) ∷ []) in
        let count : ℕ = (taken_of view other).count in
        subst (λ (b : Bool). LeadTo v (other + 2) (record { come = count; closed = is_closed setup core other; due = [] }) (Closed (place + 2) ∷ []) (record { come = count; closed = b; due = [] }))
        (sym (closes_there setup view core done place other agrees inside differs buffers_are))
        (lead_closed_other v (other + 2) (place + 2) count (is_closed setup core other) (λ e. differs (let is : other ≡ place = omega (arith, e) in is)))
