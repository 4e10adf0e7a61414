-- There is at most one proof that a service is one of a table. So a struct may keep that its service is.
use Rattle.std.specs.Prelude.{◌≡◌, ℕ, ◌-◌, ◌<◌, ◌==◌, Bool, false, true, Option, Some, None, List, [], ◌∷◌, length, slice_get, MatchBool}
use Rattle.std.proofs.Props.{props}
use mathlib.Core.Path.{sym, ap, ◌∙◌}
use mathlib.Core.HLevel.{Σ_prop_path}
use Rattle.std.specs.Coded.{Coded-set, codes, le_prop, ×_prop, Unit-prop}
use Rattle.atomic_table.specs.Seated.{TableId}
use Rattle.trace_base.specs.declared.limits.TheConstants.{FIRST_SEQUENCE}
use Rattle.trace_model.specs.Buffers.{Buffer}
use Rattle.trace_model.specs.Images.{Patch}
use Rattle.chunk_plain.specs.Setup.{Setup}
use Rattle.chunk_plain.specs.Views.{Content, Found, Committed, Noted, Arrive, Partial, Patched, Closed, Read, Commit, ServiceView}
use Rattle.chunk_plain.specs.Histories.{content_at, found_among}
use Rattle.world_model.specs.Accounts.{CommitsElsewhere}
use Rattle.chunk_words.specs.declared.host.HostTable.{HostTable}
use Rattle.chunk_words.specs.Moves.{Mine}
use Rattle.chunk_words.specs.Seats.{Waits}
use Rattle.service_core.specs.Agreement.{IsKnownNote, AreKnownNotes, ServiceAgrees}
use Rattle.service_core.specs.Order.{Stage, IsFoundPart, LeadTo}
use Rattle.service_core.specs.declared.service.ServiceCore.{ServiceCore}
use Rattle.thread_service.specs.declared.service.Service.{Service}
use Rattle.thread_service.specs.Serving.{Serves}

-- Sets: an equation between two values has one proof at most.
Mine-set : IsSet Mine
Mine-set = Coded-set (Prim.hlevel codes)

TableId-set : IsSet TableId
TableId-set = Coded-set (Prim.hlevel codes)

Setup-set : IsSet Setup
Setup-set = Coded-set (Prim.hlevel codes)

Buffers-set : IsSet (List Buffer)
Buffers-set = Coded-set (Prim.hlevel codes)

Stage-set : IsSet Stage
Stage-set = Coded-set (Prim.hlevel codes)

Content-set : IsSet (Option Content)
Content-set = Coded-set (Prim.hlevel codes)

Found-set : IsSet (Option Found)
Found-set = Coded-set (Prim.hlevel codes)

Committed-set : IsSet (Option Committed)
Committed-set = Coded-set (Prim.hlevel codes)

-- a choice between two facts is one of them
choice_prop : (b : Bool) {P Q : Type 0} → IsProp P → IsProp Q → IsProp (MatchBool b P Q)
choice_prop true one other = one
choice_prop false one other = other

-- a value that an option has is the only one there
abbrev held_or : {A : Type 0} → A → Option A → A
held_or other None = other
held_or other (Some value) = value

single_prop : {A : Type 0} {P : A → Type 0} → IsSet (Option A) → (o : Option A) → ((a : A) → IsProp (P a))
    → IsProp ((a : A) × ((o ≡ Some a) × P a))
single_prop {A} {P} set o prop u v = Σ_prop_path {B = λ (a : A). (o ≡ Some a) × P a} (λ a. ×_prop (set o (Some a)) (prop a)) (ap (held_or u.0) (sym u.1.0 ∙ v.1.0))

named_prop : {A : Type 0} → IsSet (Option A) → (o : Option A) → IsProp ((a : A) × (o ≡ Some a))
named_prop {A} set o u v = Σ_prop_path {B = λ (a : A). o ≡ Some a} (λ a. set o (Some a)) (ap (held_or u.0) (sym u.1 ∙ v.1))

come_prop : {A B C : Type 0} {P : C → Type 0} → IsProp A → IsProp B → IsSet (Option C) → (o : Option C) → ((c : C) → IsProp (P c))
    → IsProp (A × B × (c : C) × (o ≡ Some c) × P c)
come_prop a b set o prop u v =
    let same = single_prop set o prop (u.2, (u.3, u.4)) (v.2, (v.3, v.4)) in
    λ i. (a u.0 v.0 i, b u.1 v.1 i, (same i).0, (same i).1.0, (same i).1.1)

patched_prop : {C : Type 0} {P Q : C → Type 0} → IsSet (Option C) → (o : Option C) → ((c : C) → IsProp (P c)) → ((c : C) → IsProp (Q c))
    → IsProp ((c : C) × (o ≡ Some c) × P c × Q c)
patched_prop {C} {P} {Q} set o one other u v =
    let same = single_prop {P = λ (c : C). P c × Q c} set o (λ c. ×_prop (one c) (other c)) (u.0, (u.1, (u.2, u.3))) (v.0, (v.1, (v.2, v.3))) in
    λ i. ((same i).0, (same i).1.0, (same i).1.1.0, (same i).1.1.1)

part_prop : (view : ServiceView) (sequence position count : ℕ) → IsProp (IsFoundPart view sequence position count)
part_prop view sequence position count u v =
    let same = single_prop {P = λ (found : Found). 0 < length found.ends} Found-set (found_among (sequence - FIRST_SEQUENCE) position count view.looks) (λ found. le_prop) (u.found, (u.looked, u.some)) (v.found, (v.looked, v.some)) in
    λ i. record { found = (same i).0; looked = (same i).1.0; some = (same i).1.1 }

elsewhere_prop : (view : ServiceView) (sequence place : ℕ) → IsProp (CommitsElsewhere view sequence place)
elsewhere_prop view sequence place = Prim.hlevel props

Patches-set : IsSet (List Patch)
Patches-set = Coded-set (Prim.hlevel codes)

lead_to_prop : (view : ServiceView) (sequence : ℕ) (stage : Stage) (notes : List Noted) (last : Stage)
    → IsProp (LeadTo view sequence stage notes last)
lead_to_prop view sequence stage [] last = Stage-set stage last
lead_to_prop view sequence stage (Arrive other position ∷ notes) last =
    ×_prop (Patches-set stage.due []) (choice_prop (other == sequence)
    (come_prop (Prim.hlevel props) (Prim.hlevel props) Content-set (content_at view sequence position)
    (λ content. lead_to_prop view sequence _ notes last))
    (lead_to_prop view sequence stage notes last))
lead_to_prop view sequence stage (Partial other position count ∷ notes) last =
    ×_prop (Patches-set stage.due []) (choice_prop (other == sequence)
    (let later = lead_to_prop view sequence stage notes last in Prim.hlevel (props, part_prop, later))
    (lead_to_prop view sequence stage notes last))
lead_to_prop view sequence stage (Patched other position ∷ notes) last =
    choice_prop (other == sequence)
    (patched_prop Content-set (content_at view sequence position) (λ content. Patches-set content.patches stage.due)
    (λ content. lead_to_prop view sequence _ notes last))
    (×_prop (Patches-set stage.due []) (lead_to_prop view sequence stage notes last))
lead_to_prop view sequence stage (Closed other ∷ notes) last =
    ×_prop (Patches-set stage.due []) (choice_prop (other == sequence)
    (×_prop (Prim.hlevel props) (lead_to_prop view sequence _ notes last))
    (lead_to_prop view sequence stage notes last))
lead_to_prop view sequence stage (Read other limit ∷ notes) last = ×_prop (Patches-set stage.due []) (lead_to_prop view sequence stage notes last)
lead_to_prop view sequence stage (Commit place ∷ notes) last =
    let later = lead_to_prop view sequence stage notes last in
    Prim.hlevel (props, Patches-set, elsewhere_prop, later)

known_note_prop : (view : ServiceView) (note : Noted) → IsProp (IsKnownNote view note)
known_note_prop view (Arrive sequence position) = named_prop Content-set (content_at view sequence position)
known_note_prop view (Partial sequence position count) = named_prop Found-set (found_among (sequence - FIRST_SEQUENCE) position count view.looks)
known_note_prop view (Patched sequence position) = named_prop Content-set (content_at view sequence position)
known_note_prop view (Closed sequence) = Unit-prop
known_note_prop view (Read sequence limit) = Unit-prop
known_note_prop view (Commit place) = named_prop Committed-set (slice_get view.commits place)

known_notes_prop : (view : ServiceView) (notes : List Noted) → IsProp (AreKnownNotes view notes)
known_notes_prop view [] = Unit-prop
known_notes_prop view (note ∷ notes) = ×_prop (known_note_prop view note) (known_notes_prop view notes)

waits_prop : (setup : Setup) (me : Mine) → IsProp (Waits setup me)
waits_prop setup me = Prim.hlevel (props, Mine-set)

agrees_prop : {S : Type 0} (setup : Setup) (view : ServiceView) (core : ServiceCore S) → IsProp (ServiceAgrees setup view core)
agrees_prop setup view core = Prim.hlevel (props, Setup-set, Buffers-set, lead_to_prop, known_notes_prop)

-- the service is one of the table in one way at most
pub serves_prop : (table : HostTable) (service : Service) → IsProp (Serves table service)
serves_prop table service = Prim.hlevel (props, TableId-set, waits_prop, agrees_prop)
