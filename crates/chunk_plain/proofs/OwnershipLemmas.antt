-- What a table of one thread keeps is ownership in its eight parts.
use Rattle.std.proofs.Common.{◌≡◌, ℕ, ◌<◌, ◌≤◌, ◌⊎◌, inl, inr, List, length, subst, sym, ap, ◌∙◌, arith, ⊎_elim}
use Rattle.page_geometry.specs.PageBits.{HasState}
use Rattle.chunk_plain.specs.Setup.{Setup, spot}
use Rattle.chunk_plain.specs.Payload.{byte_at}
use Rattle.chunk_plain.specs.Views.{At, BegunChunk, Held, Completed, Found, taken_of}
use Rattle.chunk_plain.specs.World.{World, Unclaimed, Claimed, Stamped, Writing, Ready, Reading, status, writer}
use Rattle.chunk_plain.specs.Owned.{times, claims_of, reads_of, IsOwned}
use Rattle.chunk_plain.specs.Drafts.{StillHas, head_of}
use Rattle.chunk_plain.specs.Stored.{Stored, stored_at}
use Rattle.chunk_plain.specs.Shows.{state_of, claim_of, ShowsHeader, ShowsSlot, page_word, header_word}
use Rattle.chunk_plain.specs.Plain.{IsKept}
use Rattle.chunk_plain.specs.Ownership.{Claims, IsNobodys, IsClaimedByOne, IsAsFound, Ownership}
use Rattle.chunk_plain.proofs.Owned.{claimed_status, claims_of-mine}
use Rattle.chunk_plain.proofs.Kept.{claim_bit_free}
use Rattle.chunk_plain.proofs.Lists.{at_inside, at_some}
use Rattle.chunk_plain.proofs.States.{claimed_free, writing_status, ready_status, reading_status}
use Rattle.chunk_plain.proofs.KeptWriter.{is_chunk}

-- a chunk that a writer has as claimed has one of these statuses
claims_status : (world : World) (place chunk : ℕ) → IsOwned world → Claims world place chunk → (status world chunk ≡ Claimed place) ⊎ ((position : ℕ) × (status world chunk ≡ Stamped place position))
claims_status world place chunk owned has =
    ⊎_elim (λ mine. inl (claimed_status place (status world chunk) (subst (λ n. 0 < n) ((owned.owns place chunk).claimed) mine)))
    (λ stamped. inr (stamped.0, (owned.owns place chunk).stamp_is stamped.0 stamped.1)) has

nobodys : (world : World) (chunk : ℕ) → IsOwned world → status world chunk ≡ Unclaimed → IsNobodys world chunk
nobodys world chunk owned free =
    record {
      claimed = λ place has. ⊎_elim (λ is. absurd cc) (λ is. let same = is.1 in absurd cc) (claims_status world place chunk owned has);
      held = λ place position head at. let is = (owned.owns place chunk).held_is position head at in absurd cc;
      read = λ has. let none : times chunk world.service.reading ≡ 0 = owned.reads chunk ∙ ap reads_of free in omega arith;
    }

claimed_one : (setup : Setup) (world : World) (chunk header place : ℕ) → IsOwned world → ShowsHeader setup header (status world chunk) → status world chunk ≡ Claimed place → IsClaimedByOne setup world chunk header
claimed_one setup world chunk header place owned shows is =
    record {
      place = place;
      claims = inl (subst (λ n. 0 < n) (sym ((owned.owns place chunk).claimed ∙ (ap (claims_of place) is ∙ claims_of-mine place))) (omega arith));
      only = λ other has. ⊎_elim (λ same. cc) (λ same. let e = same.1 in absurd cc) (claims_status world other chunk owned has);
      stored = λ position e. let same = (owned.owns place chunk).stamp_is position e in absurd cc;
    }

stamped_one : (setup : Setup) (world : World) (chunk header place position : ℕ) → IsOwned world → ShowsHeader setup header (status world chunk) → status world chunk ≡ Stamped place position → IsClaimedByOne setup world chunk header
stamped_one setup world chunk header place position owned shows is =
    record {
      place = place;
      claims = inr (position, (owned.owns place chunk).stamped_is position is);
      only = λ other has. ⊎_elim (λ same. absurd cc) (λ same. let e = same.1 in cc) (claims_status world other chunk owned has);
      stored = λ i e. subst (λ t. ShowsHeader setup header t) ((owned.owns place chunk).stamp_is i e) shows;
    }

-- what was found of a chunk whose position isn't taken, by its entry among the begun ones
pub as_found : (setup : Setup) (words : List ℕ) (slots : List Stored) (world : World) (chunk : ℕ) (found : Found) → IsKept setup words slots world
    → (taken_of world.service found.place).count ≤ found.position
    → (entry : BegunChunk) → At (writer world found.place).begun found.position entry → StillHas chunk found entry
    → IsAsFound setup world chunk (page_word setup words chunk) (header_word setup words chunk) (stored_at slots chunk) found
as_found setup words slots world chunk found kept untaken (Held other draft) at has =
    let is : status world chunk ≡ Writing found.place found.position draft = (kept.owned.owns found.place chunk).held_is found.position draft (subst (λ c. At (writer world found.place).begun found.position (Held c draft)) has.0 at) in
    let inside : chunk < length setup.spots = is_chunk setup world chunk kept.shown.chunk_count (λ free. absurd cc) in
    let slot : ShowsSlot setup (spot setup chunk).payload_size (Writing found.place found.position draft) (stored_at slots chunk) = subst (λ t. ShowsSlot setup (spot setup chunk).payload_size t (stored_at slots chunk)) is (kept.shown.slot chunk inside) in
    record {
      inside = inside;
      state = inl (subst (λ t. HasState (page_word setup words chunk) (spot setup chunk).place (state_of t)) is (kept.shown.page chunk inside).state);
      head = draft.head;
      stored = subst (λ t. ShowsHeader setup (header_word setup words chunk) t) is (kept.shown.header chunk inside);
      follows = has.1;
      bytes = λ j below. ap (λ w. byte_at w j) slot.words.0 ∙ has.3 j below;
    }
as_found setup words slots world chunk found kept untaken (Completed other content) at has =
    let is : status world chunk ≡ Ready found.place found.position content = (kept.owned.owns found.place chunk).completed_is found.position content (subst (λ c. At (writer world found.place).begun found.position (Completed c content)) has.0 at) untaken in
    let inside : chunk < length setup.spots = is_chunk setup world chunk kept.shown.chunk_count (λ free. absurd cc) in
    let slot : ShowsSlot setup (spot setup chunk).payload_size (Ready found.place found.position content) (stored_at slots chunk) = subst (λ t. ShowsSlot setup (spot setup chunk).payload_size t (stored_at slots chunk)) is (kept.shown.slot chunk inside) in
    record {
      inside = inside;
      state = inr (subst (λ t. HasState (page_word setup words chunk) (spot setup chunk).place (state_of t)) is (kept.shown.page chunk inside).state);
      head = head_of content;
      stored = subst (λ t. ShowsHeader setup (header_word setup words chunk) t) is (kept.shown.header chunk inside);
      follows = has.1;
      bytes = λ j below. slot.words.bytes j (let less = has.2 in let whole = slot.words.whole in omega arith) ∙ has.3 j below;
    }

-- its finished fragments lie inside the payload
pub found_inside : (setup : Setup) (words : List ℕ) (slots : List Stored) (world : World) (chunk : ℕ) (found : Found) → IsKept setup words slots world
    → (taken_of world.service found.place).count ≤ found.position
    → (entry : BegunChunk) → At (writer world found.place).begun found.position entry → StillHas chunk found entry → length found.sealed ≤ (spot setup chunk).payload_size
found_inside setup words slots world chunk found kept untaken (Held other draft) at has =
    let is : status world chunk ≡ Writing found.place found.position draft = (kept.owned.owns found.place chunk).held_is found.position draft (subst (λ c. At (writer world found.place).begun found.position (Held c draft)) has.0 at) in
    let inside : chunk < length setup.spots = is_chunk setup world chunk kept.shown.chunk_count (λ free. absurd cc) in
    let slot : ShowsSlot setup (spot setup chunk).payload_size (Writing found.place found.position draft) (stored_at slots chunk) = subst (λ t. ShowsSlot setup (spot setup chunk).payload_size t (stored_at slots chunk)) is (kept.shown.slot chunk inside) in
    let low = has.2 in let high = slot.words.1 in omega arith
found_inside setup words slots world chunk found kept untaken (Completed other content) at has =
    let is : status world chunk ≡ Ready found.place found.position content = (kept.owned.owns found.place chunk).completed_is found.position content (subst (λ c. At (writer world found.place).begun found.position (Completed c content)) has.0 at) untaken in
    let inside : chunk < length setup.spots = is_chunk setup world chunk kept.shown.chunk_count (λ free. absurd cc) in
    let slot : ShowsSlot setup (spot setup chunk).payload_size (Ready found.place found.position content) (stored_at slots chunk) = subst (λ t. ShowsSlot setup (spot setup chunk).payload_size t (stored_at slots chunk)) is (kept.shown.slot chunk inside) in
    let low = has.2 in let whole = slot.words.whole in omega arith

pub ownership : (setup : Setup) (words : List ℕ) (slots : List Stored) (world : World) → IsKept setup words slots world → Ownership setup words slots world
ownership setup words slots world kept =
    let shown = kept.shown in let owned = kept.owned in
    record {
      unclaimed = λ chunk inside clear.
          let page = shown.page chunk inside in
          let free : status world chunk ≡ Unclaimed = claim_bit_free (page_word setup words chunk) (spot setup chunk).place (status world chunk) page.claim (λ one. absurd (omega arith)) in
          (subst (λ t. HasState (page_word setup words chunk) (spot setup chunk).place (state_of t)) free page.state, nobodys world chunk owned free);
      claimed = λ chunk inside one free.
          let page = shown.page chunk inside in
          ⊎_elim (λ (is : (k : ℕ) × (status world chunk ≡ Claimed k)). claimed_one setup world chunk (header_word setup words chunk) is.0 owned (shown.header chunk inside) is.1)
          (λ (is : (k position : ℕ) × (status world chunk ≡ Stamped k position)). stamped_one setup world chunk (header_word setup words chunk) is.0 is.1 owned (shown.header chunk inside) is.2)
          (claimed_free (status world chunk) (page_word setup words chunk) (spot setup chunk).place page.state free (sym page.claim ∙ one));
      written = λ chunk inside has.
          let is = writing_status (status world chunk) (page_word setup words chunk) (spot setup chunk).place (shown.page chunk inside).state has in let same = is.3 in
          record {
            place = is.0;
            position = is.1;
            draft = is.2;
            holds = (owned.owns is.0 chunk).writing_is is.1 is.2 same;
            only = λ other i h at. let e : status world chunk ≡ Writing other i h = (owned.owns other chunk).held_is i h at in let both : Writing is.0 is.1 is.2 ≡ Writing other i h = sym same ∙ e in (cc, cc);
            stored = subst (λ t. ShowsHeader setup (header_word setup words chunk) t) same (shown.header chunk inside);
            words = let slot : ShowsSlot setup (spot setup chunk).payload_size (Writing is.0 is.1 is.2) (stored_at slots chunk) = subst (λ t. ShowsSlot setup (spot setup chunk).payload_size t (stored_at slots chunk)) same (shown.slot chunk inside) in slot.words.0;
          };
      drafts = λ place chunk position draft holds. (owned.counts place).drafts position chunk draft holds;
      wholes = λ place chunk position content completes. (owned.counts place).wholes position chunk content completes;
      looked = λ n look found at is untaken.
          let there = (owned.looks n look found at is).1 in
          as_found setup words slots world look.chunk found kept untaken there.entry there.at there.has;
      complete = λ chunk inside has.
          let is = ready_status (status world chunk) (page_word setup words chunk) (spot setup chunk).place (shown.page chunk inside).state has in let same = is.3 in
          let at = (owned.owns is.0 chunk).ready_is is.1 is.2 same in
          let slot : ShowsSlot setup (spot setup chunk).payload_size (Ready is.0 is.1 is.2) (stored_at slots chunk) = subst (λ t. ShowsSlot setup (spot setup chunk).payload_size t (stored_at slots chunk)) same (shown.slot chunk inside) in
          record {
            place = is.0;
            position = is.1;
            content = is.2;
            body = slot.body.0;
            completes = at.0;
            untaken = at.1;
            stored = subst (λ t. ShowsHeader setup (header_word setup words chunk) t) same (shown.header chunk inside);
            payload = slot.words;
            kept = slot.body.1;
            body_is = slot.body.2;
          };
      read = λ chunk inside has.
          let is = reading_status (status world chunk) (page_word setup words chunk) (spot setup chunk).place (shown.page chunk inside).state has in let same = is.3 in
          let at = (owned.owns is.0 chunk).reading_is is.1 is.2 same in
          let slot : ShowsSlot setup (spot setup chunk).payload_size (Reading is.0 is.1 is.2) (stored_at slots chunk) = subst (λ t. ShowsSlot setup (spot setup chunk).payload_size t (stored_at slots chunk)) same (shown.slot chunk inside) in
          record {
            once = owned.reads chunk ∙ ap reads_of same;
            unclaimed = λ place claims. ⊎_elim (λ e. absurd cc) (λ e. let f = e.1 in absurd cc) (claims_status world place chunk owned claims);
            unheld = λ place position head holds. let e = (owned.owns place chunk).held_is position head holds in absurd cc;
            place = is.0;
            position = is.1;
            content = is.2;
            completes = at.0;
            taken = at.1;
            stored = subst (λ t. ShowsHeader setup (header_word setup words chunk) t) same (shown.header chunk inside);
            payload = slot.words;
          };
      layout = λ chunk inside. (shown.page chunk inside).layout;
      spare = λ chunk inside. (shown.page chunk inside).spare;
      taken = λ place position below. (owned.counts place).completed position below;
      learnt = λ place position content at. (
        (let inside = at_inside (taken_of world.service place).contents content position at in let level = (owned.counts place).level in omega arith),
        (owned.counts place).learnt position content at,
      );
      known = λ serving place position below. at_some (taken_of world.service place).contents position (let level = serving.level place in omega arith);
      untaken = λ place chunk position content at above.
          let is = (owned.owns place chunk).completed_is position content at above in
          let inside : chunk < length setup.spots = is_chunk setup world chunk shown.chunk_count (λ free. absurd cc) in
          subst (λ t. HasState (page_word setup words chunk) (spot setup chunk).place (state_of t)) is (shown.page chunk inside).state;
      won = λ chunk inside one. owned.claimed_won chunk (λ free. absurd (let claim = (shown.page chunk inside).claim in let none : claim_of (status world chunk) ≡ 0 = ap claim_of free in omega arith));
      ordered = owned.ordered;
      wins = λ place chunk. (owned.counts place).wins chunk;
    }
