-- A chunk that a writer holds, call by call.
use Rattle.std.proofs.Common.{◌≡◌, ◌∙◌, ℕ, length, vec_len, subst, sym, ap, arith}
use Rattle.chunk_plain.specs.declared.tokens.Held.{Held as HeldToken}
use Rattle.chunk_plain.specs.Setup.{spot}
use Rattle.chunk_plain.specs.Views.{Draft, WriterView}
use Rattle.chunk_plain.specs.Steps.{stamps, begins}
use Rattle.chunk_plain.specs.Drafts.{draft_at}
use Rattle.chunk_plain.specs.Words.{IsBegun, BeginsChunk, PublishesBytes, IsPublished}
use Rattle.chunk_plain.proofs.Holding.{begins_draft, begins_holds, redrafts_holds, published_draft, published_more}
use Rattle.chunk_words.specs.declared.host.HostTable.{HostTable}
use Rattle.chunk_words.specs.declared.seats.WriterSeat.{WriterSeat}
use Rattle.chunk_words.specs.Sits.{Sits, setup_in, known_by}
use Rattle.table_speed.specs.Holding.{HoldsFresh}

pub just_begun : (table : HostTable) (view : WriterView) (seat : WriterSeat) (chunk position : ℕ) (held : HeldToken) → Sits table seat → position ≡ length view.begun
    → (spot (setup_in table) chunk).payload_size ≡ 284 → IsBegun (setup_in table) chunk position held → BeginsChunk (setup_in table) chunk view (known_by seat) → HoldsFresh table seat held
just_begun table view seat chunk position held sits at_end size is begun =
    let begins_it = begins (stamps view chunk) chunk begun.words in
    let there : draft_at (known_by seat) held.position ≡ Rattle.chunk_plain.specs.Views.fresh begun.words
    = ap (λ (v : WriterView). draft_at v held.position) begun.view
    ∙ (ap (λ (i : ℕ). draft_at begins_it i) (is.position_is ∙ at_end) ∙ begins_draft view chunk begun.words) in
    record {
      sits = sits;
      holds = begins_holds (setup_in table) view (known_by seat) chunk position held.chunk held.position begun at_end is.chunk_is is.position_is;
      none_sealed = ap (λ (d : Draft). d.ends) there;
      room = ap (λ (c : ℕ). (spot (setup_in table) c).payload_size) is.chunk_is ∙ size;
      whole = is.whole ∙ size;
    }

pub just_published : (table : HostTable) (old new : WriterSeat) (held after : HeldToken) → HoldsFresh table old held → Sits table new → after ≡ held
    → PublishesBytes held.chunk held.position 0 284 held.body.payload.items (known_by old) (known_by new) → HoldsFresh table new after
just_published table old new held after was sits same bytes =
    let draft : Draft = record (draft_at (known_by old) held.position) { words = bytes.words } in
    record {
      sits = sits;
      holds = redrafts_holds (known_by old) (known_by new) held after draft bytes.view same was.holds;
      none_sealed = ap (λ (t : HeldToken). (draft_at (known_by new) t.position).ends) same
          ∙ (ap (λ (d : Draft). d.ends) (published_draft (known_by old) (known_by new) held.chunk held.position 0 284 held.body.payload.items was.holds bytes) ∙ was.none_sealed);
      room = ap (λ (t : HeldToken). (spot (setup_in table) t.chunk).payload_size) same ∙ was.room;
      whole = ap (λ (t : HeldToken). vec_len t.body.payload) same ∙ was.whole;
    }

pub all_published : (table : HostTable) (old new : WriterSeat) (held after : HeldToken) → HoldsFresh table old held → after ≡ held
    → PublishesBytes held.chunk held.position 0 284 held.body.payload.items (known_by old) (known_by new) → IsPublished (known_by new) after.position after.body.payload.items
all_published table old new held after was same bytes =
    let joined = held.body.payload.ok.0 in let whole = was.whole in let size : length held.body.payload.items ≡ 284 = omega (arith, joined, whole) in
    subst (λ (t : HeldToken). IsPublished (known_by new) t.position t.body.payload.items) (sym same)
    (λ j below. published_more (known_by old) (known_by new) held.chunk held.position 0 284 held.body.payload.items was.holds bytes (omega arith) (omega (arith, size))
    (λ i less. absurd (omega (arith, less))) j (omega (arith, below, size)))
