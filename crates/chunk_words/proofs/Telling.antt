-- What writers told stays true: what was completed stays so, and each look shows it.
use Rattle.std.proofs.Common.{◌≡◌, ℕ, ◌≤◌, Option, List, ◌++◌, set, get_or, subst, sym, ◌∙◌, arith, ⊎_elim, ◌+◌, ◌*◌, ◌<◌, length, lt_of_not-le}
use Rattle.std.proofs.Math.ListN.{get_or-map}
use native.Mathlib.Decide.{ℕ_discrete, dec_le}
use mathlib.Core.Logic.{dite}
use Rattle.atomic_table.proofs.Lists.{at_longer, set_else}
use Rattle.page_geometry.specs.Header.{packed}
use Rattle.page_geometry.specs.declared.chunk_state.ChunkState.TheVariants.{Complete}
use Rattle.page_geometry.specs.PageBits.{HasState}
use Rattle.chunk_plain.specs.Setup.{Setup, spot, from_of, id_at}
use Rattle.chunk_plain.specs.Views.{At, Head, Draft, Content, BegunChunk, Held, Completed, Taken, none_taken, Found, Look, taken_of, ServiceView}
use Rattle.chunk_plain.specs.World.{World, Ready, status}
use Rattle.chunk_plain.specs.Steps.{looks_at, taken_counts}
use Rattle.chunk_plain.specs.Owned.{IsOwned}
use Rattle.chunk_plain.specs.Shows.{IsHeader}
use Rattle.chunk_plain.proofs.Lists.{at_one, at_more}
use Rattle.chunk_words.specs.Knows.{Tale, Desk}
use Rattle.chunk_words.specs.Told.{StaysCompleted, ShowsComplete, ShowsTold, PassesOver}
use Rattle.chunk_words.specs.Rule.{IsTrue}
use Rattle.trace_base.proofs.IdLemmas.{id_below}

-- ---- what a writer completed

pub stays_same : (begun : List BegunChunk) → StaysCompleted begun begun
stays_same begun position chunk content at = at

pub stays_more : (begun more : List BegunChunk) → StaysCompleted begun (begun ++ more)
stays_more begun more position chunk content at = at_longer begun more position (Completed chunk content) at

-- what becomes of a held chunk is about no completed one
pub stays_set : (begun : List BegunChunk) (i about : ℕ) (draft : Draft) (next : BegunChunk) → At begun i (Held about draft) → StaysCompleted begun (set begun i next)
stays_set begun i about draft next held position chunk content at = dite (ℕ_discrete position i)
    (λ same. absurd (let clash = at_one begun (Completed chunk content) (Held about draft) i (subst (λ j. At begun j (Completed chunk content)) same at) held in cc))
    (λ differs. set_else begun i position next differs ∙ at)

-- ---- what a look shows

-- a chunk that was told complete and isn't taken is so
pub told_ready : (setup : Setup) (world : World) (tale : Tale) (position chunk : ℕ) (content : Content) → IsOwned world → IsTrue setup world tale
    → At tale.begun position (Completed chunk content) → (taken_of world.service tale.place).count ≤ position → status world chunk ≡ Ready tale.place position content
told_ready setup world tale position chunk content owned true_ at untaken = (owned.owns tale.place chunk).completed_is position content (true_.0 position chunk content at) untaken

-- the look that is made now shows what was told of its chunk
abbrev pub ShowsNow : Setup → World → Desk → (chunk word header : ℕ) → Type 0
ShowsNow setup world desk chunk word header = (i position : ℕ) (tale : Tale) (content : Content) → At desk.told i tale → At tale.begun position (Completed chunk content)
    → (taken_of world.service tale.place).count ≤ position → status world chunk ≡ Ready tale.place position content
    → HasState word (spot setup chunk).place Complete × ((head : Head) × IsHeader setup header tale.place position head)

pub look_shows : (setup : Setup) (world : World) (desk : Desk) (chunk word header : ℕ) (found : Option Found) → IsOwned world → ShowsNow setup world desk chunk word header
    → (i : ℕ) (tale : Tale) → At desk.told i tale → IsTrue setup world tale → ShowsTold setup (looks_at world.service chunk word header found) tale
look_shows setup world desk chunk word header found owned now i tale there true_ n position look content since at begun untaken =
    let new : Look = record { chunk = chunk; word = word; header = header; found = found; taken = taken_counts world.service } in
    let count = get_or-map (λ (taken : Taken). taken.count) world.service.taken tale.place none_taken in
    ⊎_elim
    (λ old. true_.1 n position look content since old begun untaken)
    (λ last. let mine : At tale.begun position (Completed chunk content) = subst (λ (l : Look). At tale.begun position (Completed l.chunk content)) (sym last.1) begun in
    let free : get_or (taken_counts world.service) tale.place 0 ≤ position = subst (λ (l : Look). get_or l.taken tale.place 0 ≤ position) (sym last.1) untaken in
    let low : (taken_of world.service tale.place).count ≤ position = omega (arith, count, free) in
    let shows = now i position tale content there mine low (told_ready setup world tale position chunk content owned true_ mine low) in
    subst (λ (l : Look). ShowsComplete setup tale.place position l) last.1 (record { complete = shows.0; head = shows.1.0; header = shows.1.1 }))
    (at_more world.service.looks new look n at)

-- ---- all that was told is taken

-- a header word has one writer and one id
one_header : (word chunk_id writer_id count flags id place number bits : ℕ) → word ≡ chunk_id + writer_id * 4294967296 + count * 281474976710656 + flags * 288230376151711744
    → word ≡ id + place * 4294967296 + number * 281474976710656 + bits * 288230376151711744
    → chunk_id < 4294967296 → writer_id < 65536 → id < 4294967296 → place < 65536 → (writer_id ≡ place) × (chunk_id ≡ id)
one_header word chunk_id writer_id count flags id place number bits one other low small few less =
    let both : chunk_id + writer_id * 4294967296 ≡ id + place * 4294967296 = omega (arith, one, other, low, small, few, less) in
    (omega (arith, both, low, few), omega (arith, both, low, few))

pub told_taken : (setup : Setup) (view : ServiceView) (tale : Tale) (count : ℕ) → ShowsTold setup view tale
    → ((position : ℕ) → position < length tale.begun → (chunk : ℕ) × (content : Content) × At tale.begun position (Completed chunk content))
    → ((chunk : ℕ) (content : Content) → At tale.begun count (Completed chunk content) → PassesOver setup view tale count chunk) → length tale.begun ≤ count
unfolding packed
told_taken setup view tale count shows completed passed = dite (dec_le (length tale.begun) count)
    (λ most. most)
    (λ more. absurd (
    let next = completed count (lt_of_not-le more) in
    let over = passed next.0 next.1 next.2 in
    let mine : At tale.begun count (Completed over.look.chunk next.1) = subst (λ c. At tale.begun count (Completed c next.1)) (sym over.chunk_is) next.2 in
    let free : get_or over.look.taken tale.place 0 ≤ count = let same = over.taken in omega arith in
    let shown = shows over.n count over.look next.1 over.since over.at mine free in
    let header = over.header in
    let same = one_header over.look.header header.chunk_id header.writer_id header.count header.flags (id_at setup tale.place count) (tale.place + 1) shown.head.count shown.head.flags
    (over.header_is) (shown.header.word_is) over.id_fits over.writer_fits (id_below (from_of setup tale.place) count) shown.header.writer_fits in
    over.other shown.complete same.0 same.1))
