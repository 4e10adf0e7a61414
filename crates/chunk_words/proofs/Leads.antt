-- Each step of a seat is one move of a schedule or none: what each move asks for.
use Rattle.std.proofs.Common.{◌≡◌, ℕ, ◌+◌, ◌≤◌, Bool, true, false, List, length, refl, ap, arith}
use Rattle.std.specs.Int.{bit_at}
use Rattle.commit_body.specs.declared.body.CommitBody.{CommitBody}
use Rattle.chunk_plain.specs.declared.notes.ServiceEvent.{ServiceEvent}
use Rattle.chunk_plain.specs.declared.notes.ServiceEvent.TheVariants as event
use Rattle.chunk_plain.specs.declared.step.Step.TheVariants.{Claim}
use Rattle.chunk_plain.specs.Setup.{Setup}
use Rattle.chunk_plain.specs.Payload.{sealed_to}
use Rattle.chunk_plain.specs.Views.{WriterView, ServiceView}
use Rattle.chunk_plain.specs.World.{World, Status, Unclaimed, Claimed, Stamped, Writing, Ready, Reading, status, writer}
use Rattle.chunk_plain.specs.Drafts.{draft_at, head_at}
use Rattle.chunk_plain.specs.Stored.{Stored}
use Rattle.chunk_plain.specs.Shows.{claim_of, content_of}
use Rattle.chunk_plain.specs.Words.{WasHad, IsReadEvent, MayNote, event_of}
use Rattle.chunk_plain.specs.Plain.{world_after, StandsWhole, IsKept}
use Rattle.chunk_schedules.specs.Moves.{MayComplete, IsPlainNote, claimed_in}

-- a claim wins exactly where nobody has the chunk
pub claim_is : (world : World) (place chunk found : ℕ) (won : Bool) (is : Status) → (won ≡ true → is ≡ Unclaimed) → (won ≡ false → is ≡ Unclaimed → ⊥)
    → claimed_in world place chunk found is ≡ world_after world (Claim place chunk found won)
claim_is world place chunk found true Unclaimed free held = refl
claim_is world place chunk found false Unclaimed free held = absurd (held refl refl)
claim_is world place chunk found true (Claimed other) free held = absurd (let clash = free refl in cc)
claim_is world place chunk found true (Stamped other position) free held = absurd (let clash = free refl in cc)
claim_is world place chunk found true (Writing other position draft) free held = absurd (let clash = free refl in cc)
claim_is world place chunk found true (Ready other position content) free held = absurd (let clash = free refl in cc)
claim_is world place chunk found true (Reading other position content) free held = absurd (let clash = free refl in cc)
claim_is world place chunk found false (Claimed other) free held = refl
claim_is world place chunk found false (Stamped other position) free held = refl
claim_is world place chunk found false (Writing other position draft) free held = refl
claim_is world place chunk found false (Ready other position content) free held = refl
claim_is world place chunk found false (Reading other position content) free held = refl

-- somebody has a chunk whose claim bit is set
pub bit_held : (word place : ℕ) (is : Status) → bit_at word (32 + place) ≡ claim_of is → bit_at word (32 + place) ≡ 1 → is ≡ Unclaimed → ⊥
bit_held word place is bit one free = let none : claim_of is ≡ 0 = ap claim_of free in absurd (omega (arith, bit, one, none))

-- it has the chunk still behind a claim in vain
pub vain_had : (world : World) (place chunk found : ℕ) (won : Bool) → won ≡ false → (status world chunk ≡ Unclaimed → ⊥)
    → status (world_after world (Claim place chunk found won)) chunk ≡ Unclaimed → ⊥
vain_had world place chunk found true lost held free = absurd cc
vain_had world place chunk found false lost held free = held free

-- what a writer knows in a world of the table in which somebody has the chunk
pub was_had : (setup : Setup) (front : List ℕ) (slots : List Stored) (world : World) (place chunk : ℕ) (view : WriterView)
    → IsKept setup front slots world → writer world place ≡ view → (status world chunk ≡ Unclaimed → ⊥) → WasHad setup place chunk view
was_had setup front slots world place chunk view kept mine had = record {
  world = world;
  may_be = record { writers = kept.writers; chunks = kept.shown.chunk_count; owned = kept.owned; own = kept.own };
  view_is = mine;
  had = had;
}

-- a chunk that stands whole may be completed
pub may_complete : (from size place position : ℕ) (view : WriterView) (body : CommitBody) → StandsWhole size view position body
    → sealed_to (draft_at view position).ends ≤ size → MayComplete place position (draft_at view position) (content_of from place position (head_at view position) body)
may_complete from size place position view body whole most =
    let many : length body.payload.items ≡ size = let size_is = whole.size_is in let same = body.payload.ok.0 in omega arith in
    record {
      position_is = refl;
      sequence_is = refl;
      head_is = refl;
      inside = omega arith;
      bytes = λ j less. whole.published j (omega arith);
    }

-- an event that the service notes alone is no commit
pub plain_note : (one : ServiceEvent) → IsPlainNote (event_of one)
plain_note (event.Arrive sequence chunk_id) = tt
plain_note (event.Partial sequence chunk_id limit) = tt
plain_note (event.Patched sequence chunk_id) = tt
plain_note (event.Closed sequence) = tt
plain_note (event.Read sequence limit) = tt

-- a read may be noted always
pub read_may_note : (one : ServiceEvent) (view : ServiceView) → IsReadEvent one → MayNote view (event_of one)
read_may_note (event.Arrive sequence chunk_id) view read = absurd read
read_may_note (event.Partial sequence chunk_id limit) view read = tt
read_may_note (event.Patched sequence chunk_id) view read = tt
read_may_note (event.Closed sequence) view read = tt
read_may_note (event.Read sequence limit) view read = tt
