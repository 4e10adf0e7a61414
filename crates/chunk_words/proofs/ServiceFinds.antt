-- What the service finds at a chunk.
use Rattle.std.proofs.Common.{◌≡◌, ◌≢◌, ℕ, ◌+◌, ◌*◌, ◌/◌, ◌%◌, ◌<◌, Option, Some, None, List, length, get_or, subst, sym, refl, ap, ◌∙◌, arith}
use Rattle.std.specs.Int.{bit_at}
use native.Mathlib.Decide.{ℕ_discrete}
use mathlib.Core.Logic.{dite}
use Rattle.page_geometry.specs.Header.{packed, unpacked}
use Rattle.page_geometry.specs.PageBits.{HasState}
use Rattle.page_geometry.specs.declared.chunk_header.ChunkHeader.{ChunkHeader}
use Rattle.page_geometry.specs.declared.chunk_state.ChunkState.TheVariants as state
use Rattle.chunk_plain.specs.Setup.{Setup, IsLaid, spot}
use Rattle.chunk_plain.specs.Payload.{byte_of, byte_at, byte_in, first_bytes, sealed_to}
use Rattle.chunk_plain.specs.Views.{Head, no_head, Content, Held, Completed, Found}
use Rattle.chunk_plain.specs.World.{World, Status, Unclaimed, Claimed, Stamped, Writing, Ready, Reading, status, writer}
use Rattle.chunk_plain.specs.Drafts.{IsFound, IsThere, StillHas, head_of}
use Rattle.chunk_plain.specs.Stored.{Stored, stored_at}
use Rattle.chunk_plain.specs.Shows.{state_of, ShowsHeader, ShowsWords, HoldsPayload, IsHeader, header_word}
use Rattle.chunk_plain.specs.Plain.{IsKept}
use Rattle.chunk_plain.specs.Words.{IsOfHeader, FindsWritten}
use Rattle.chunk_plain.proofs.Lists.{at_one}
use Rattle.chunk_plain.proofs.Sealing.{reads_same, length-first_bytes, first_byte}
use Rattle.chunk_plain.proofs.OwnershipLemmas.{as_found, found_inside}
use Rattle.chunk_plain.proofs.KeptService.{held_untaken, finished, header_reads, reading_of}
use Rattle.chunk_schedules.specs.Moves as moves
use Rattle.chunk_schedules.specs.Moves.{SaysUse}
use Rattle.chunk_words.specs.Knows.{Watch, Nothing, Lifted}
use Rattle.chunk_words.specs.Rule.{IsStarted, StaysFound, IsWatched}
use Rattle.chunk_words.specs.Moves.{Tells}

-- ---- what a page word says

bits_apart : {bit : ℕ} → bit ≡ 0 → bit ≡ 1 → ⊥
bits_apart none one = absurd (omega arith)

pub stays_found : (word place : ℕ) (is : Status) → HasState word place (state_of is) → StaysFound word place is
stays_found word place Unclaimed now = record { started = λ s. absurd (bits_apart now.low s.low); complete = λ s. absurd (bits_apart now.low s.low) }
stays_found word place (Claimed k) now = record { started = λ s. absurd (bits_apart now.low s.low); complete = λ s. absurd (bits_apart now.low s.low) }
stays_found word place (Stamped k i) now = record { started = λ s. absurd (bits_apart now.low s.low); complete = λ s. absurd (bits_apart now.low s.low) }
stays_found word place (Writing k i d) now = record { started = λ s. tt; complete = λ s. absurd (bits_apart now.high s.high) }
stays_found word place (Ready k i m) now = record { started = λ s. tt; complete = λ s. tt }
stays_found word place (Reading k i m) now = record { started = λ s. absurd (bits_apart now.low s.low); complete = λ s. absurd (bits_apart now.low s.low) }

-- ---- what a header word says of a chunk that was being written

-- the finished fragments of a chunk that was started, with its writer and position
pub record FindsStarted (setup : Setup) (world : World) (chunk header : ℕ) : Type 0 where
  pub one : Found
  pub found : IsFound one
  pub there : IsThere (writer world one.place) chunk one
  pub is_header : IsHeader setup header one.place one.position one.head
  pub of_header : IsOfHeader setup (unpacked header) world.service one

starts_of : (setup : Setup) (front : List ℕ) (slots : List Stored) (world : World) (chunk : ℕ) (is : Status) → IsKept setup front slots world → chunk < length setup.spots
    → status world chunk ≡ is → IsStarted is → FindsStarted setup world chunk (header_word setup front chunk)
starts_of setup front slots world chunk Unclaimed kept inside was started = absurd started
starts_of setup front slots world chunk (Claimed k) kept inside was started = absurd started
starts_of setup front slots world chunk (Stamped k i) kept inside was started = absurd started
starts_of setup front slots world chunk (Reading k i m) kept inside was started = absurd started
starts_of setup front slots world chunk (Writing k i draft) kept inside was started =
    let shows : IsHeader setup (header_word setup front chunk) k i draft.head = subst (λ t. ShowsHeader setup (header_word setup front chunk) t) was (kept.shown.header chunk inside) in
    let reads = header_reads setup (header_word setup front chunk) k i draft.head shows in
    let at = (kept.owned.owns k chunk).writing_is i draft was in
    let n = sealed_to draft.ends in let many = length-first_bytes (byte_at draft.words) n in
    let good = finished world k chunk i draft kept.owned at in
    record {
      one = record { place = k; position = i; head = draft.head; ends = draft.ends; sealed = first_bytes (byte_at draft.words) n };
      found = good;
      there = record {
        entry = Held chunk draft;
        at = at;
        has = (refl, record { count_grows = omega arith; front_stays = λ some. refl }, omega arith, λ j below. sym (first_byte (byte_at draft.words) n j (omega arith)));
      };
      is_header = shows;
      of_header = record {
        place_is = sym (ap (λ (h : ChunkHeader). h.writer_id) reads);
        id_is = sym (ap (λ (h : ChunkHeader). h.chunk_id) reads);
        position_fits = shows.position_fits;
        head_is = sym (ap (λ (h : ChunkHeader). let head : Head = record { count = h.count; flags = h.flags } in head) reads);
        untaken = held_untaken world k chunk i draft kept.owned at;
        finished = good;
      };
    }
starts_of setup front slots world chunk (Ready k i content) kept inside was started =
    let shows : IsHeader setup (header_word setup front chunk) k i (head_of content) = subst (λ t. ShowsHeader setup (header_word setup front chunk) t) was (kept.shown.header chunk inside) in
    let reads = header_reads setup (header_word setup front chunk) k i (head_of content) shows in
    let owns = (kept.owned.owns k chunk).ready_is i content was in
    let whole = (kept.owned.counts k).wholes i chunk content owns.0 in
    let payload = content.image.payload in
    let n = sealed_to whole.ends in let many = length-first_bytes (byte_in payload) n in let most = whole.inside in
    let good : IsFound (record { place = k; position = i; head = head_of content; ends = whole.ends; sealed = first_bytes (byte_in payload) n }) = record {
      sealed = record {
        count = whole.sealed.count;
        reads = reads_same (byte_in payload) (byte_in (first_bytes (byte_in payload) n)) whole.ends (λ j below. sym (first_byte (byte_in payload) n j below)) whole.sealed.reads;
      };
      whole = many;
    } in
    record {
      one = record { place = k; position = i; head = head_of content; ends = whole.ends; sealed = first_bytes (byte_in payload) n };
      found = good;
      there = record {
        entry = Completed chunk content;
        at = owns.0;
        has = (refl, record { count_grows = omega arith; front_stays = λ some. refl }, omega arith, λ j below. sym (first_byte (byte_in payload) n j (omega arith)));
      };
      is_header = shows;
      of_header = record {
        place_is = sym (ap (λ (h : ChunkHeader). h.writer_id) reads);
        id_is = sym (ap (λ (h : ChunkHeader). h.chunk_id) reads);
        position_fits = shows.position_fits;
        head_is = sym (ap (λ (h : ChunkHeader). let head : Head = record { count = h.count; flags = h.flags } in head) reads);
        untaken = owns.1;
        finished = good;
      };
    }

-- what a look finds, by the page word that was found and by what stands there at the header's load
pub record Finds (setup : Setup) (world : World) (chunk word header : ℕ) : Type 0 where
  pub found : Option Found
  pub there : (one : Found) → found ≡ Some one → IsFound one × IsThere (writer world one.place) chunk one
  pub written : (one : Found) → found ≡ Some one → moves.FindsWritten setup world chunk word (packed (unpacked header)) one
  pub says : FindsWritten setup chunk word (unpacked header) world.service found

-- the word is packed from its fields
pub packed_back : (setup : Setup) (word place position : ℕ) (head : Head) → IsHeader setup word place position head → packed (unpacked word) ≡ word
packed_back setup word place position head is = ap packed (header_reads setup word place position head is) ∙ sym is.word_is

-- the header word that is loaded says what the chunk is used for
pub says_use : (setup : Setup) (header : ℕ) (is : Status) → ShowsHeader setup header is → SaysUse setup (packed (unpacked header)) is
says_use setup header Unclaimed shows = tt
says_use setup header (Claimed k) shows = tt
says_use setup header (Stamped k i) shows = packed_back setup header k i no_head shows ∙ shows.word_is
says_use setup header (Writing k i draft) shows = packed_back setup header k i draft.head shows ∙ shows.word_is
says_use setup header (Ready k i content) shows = packed_back setup header k i (head_of content) shows ∙ shows.word_is
says_use setup header (Reading k i content) shows = packed_back setup header k i (head_of content) shows ∙ shows.word_is

pub finds_by : (setup : Setup) (front : List ℕ) (slots : List Stored) (world : World) (chunk word : ℕ) → IsLaid setup → IsKept setup front slots world → chunk < length setup.spots
    → StaysFound word (spot setup chunk).place (status world chunk) → Finds setup world chunk word (header_word setup front chunk)
finds_by setup front slots world chunk word laid kept inside stays =
    let low = bit_at word (2 * (spot setup chunk).place) in let high = bit_at word (2 * (spot setup chunk).place + 1) in
    dite (ℕ_discrete low 0)
    (λ zero_. record { found = None; there = λ one e. absurd cc; written = λ one e. absurd cc; says = record { some = λ (s : HasState word (spot setup chunk).place state.BeingWritten). absurd (let one : low ≡ 1 = s.low in omega arith); none = λ _. refl } })
    (λ low_set. dite (ℕ_discrete high 0)
    (λ none. let written : HasState word (spot setup chunk).place state.BeingWritten = record { low = low_one word (2 * (spot setup chunk).place) low_set; high = none } in
    let finds = starts_of setup front slots world chunk (status world chunk) kept inside refl (stays.started written) in
    record {
      found = Some finds.one;
      there = λ one e. subst (λ (f : Found). IsFound f × IsThere (writer world f.place) chunk f) (let same : finds.one ≡ one = cc in same) (finds.found, finds.there);
      written = λ one e. subst (moves.FindsWritten setup world chunk word (packed (unpacked (header_word setup front chunk)))) (let same : finds.one ≡ one = cc in same) (record {
        header_is = packed_back setup (header_word setup front chunk) finds.one.place finds.one.position finds.one.head finds.is_header ∙ finds.is_header.word_is;
        written = written;
        untaken = finds.of_header.untaken;
      });
      says = record { some = λ _. (finds.one, refl, finds.of_header); none = λ no_. absurd (no_ written) };
    })
    (λ high_set. record { found = None; there = λ one e. absurd cc; written = λ one e. absurd cc; says = record { some = λ (s : HasState word (spot setup chunk).place state.BeingWritten). absurd (high_set s.high); none = λ _. refl } }))
  where
    low_one : (word at : ℕ) → bit_at word at ≢ 0 → bit_at word at ≡ 1
    low_one word at set_ = let below = Rattle.std.proofs.lemmas.Nat.Bits.bit_at-lt word at in omega (arith, set_)

-- ---- what a payload word says

abbrev pub watch_on : ℕ → Status → Watch
watch_on chunk (Reading place position content) = Lifted chunk place position content
watch_on chunk _ = Nothing

watch_on_holds : (setup : Setup) (world : World) (chunk : ℕ) (is : Status) → status world chunk ≡ is → IsWatched setup world (watch_on chunk is)
watch_on_holds setup world chunk Unclaimed was = tt
watch_on_holds setup world chunk (Claimed k) was = tt
watch_on_holds setup world chunk (Stamped k i) was = tt
watch_on_holds setup world chunk (Writing k i d) was = tt
watch_on_holds setup world chunk (Ready k i m) was = tt
watch_on_holds setup world chunk (Reading k i m) was = was

pub watch_on_true : (setup : Setup) (world : World) (chunk : ℕ) → IsWatched setup world (watch_on chunk (status world chunk))
watch_on_true setup world chunk = watch_on_holds setup world chunk (status world chunk) refl

watch_reads : (chunk place position : ℕ) (content : Content) (is : Status) → watch_on chunk is ≡ Lifted chunk place position content → is ≡ Reading place position content
watch_reads chunk place position content Unclaimed e = absurd cc
watch_reads chunk place position content (Claimed k) e = absurd cc
watch_reads chunk place position content (Stamped k i) e = absurd cc
watch_reads chunk place position content (Writing k i d) e = absurd cc
watch_reads chunk place position content (Ready k i m) e = absurd cc
watch_reads chunk place position content (Reading k i m) e = cc

-- byte 8 * index + m of the words is byte m of the word with this index
pub word_byte : (words : List ℕ) (index m : ℕ) → m < 8 → byte_at words (8 * index + m) ≡ byte_of (get_or words index 0) m
word_byte words index m small = let q : (8 * index + m) / 8 ≡ index = omega arith in let p : (8 * index + m) % 8 ≡ m = omega arith in
    ap (λ i. byte_of (get_or words i 0) ((8 * index + m) % 8)) q ∙ ap (λ k. byte_of (get_or words index 0) k) p

pub tells_of : (setup : Setup) (front : List ℕ) (slots : List Stored) (world : World) (chunk index word : ℕ) (before : Watch) → IsKept setup front slots world
    → chunk < length setup.spots → word ≡ get_or (stored_at slots chunk).words index 0 → IsWatched setup world before
    → Tells chunk index (spot setup chunk).payload_size word before (watch_on chunk (status world chunk)) world.service
tells_of setup front slots world chunk index word before kept inside is watched =
    let words = (stored_at slots chunk).words in let slot = kept.shown.slot chunk inside in
    let byte : (m : ℕ) → m < 8 → byte_of word m ≡ byte_at words (8 * index + m) = λ m small. ap (λ w. byte_of w m) is ∙ sym (word_byte words index m small) in
    record {
      found = λ n look found at about same untaken.
          let there = (kept.owned.looks n look found at same).1 in
          let has = subst (λ c. StillHas c found there.entry) about there.has in
          let as_it_was = as_found setup front slots world chunk found kept untaken there.entry there.at has in
          (found_inside setup front slots world chunk found kept untaken there.entry there.at has, λ m small below. byte m small ∙ as_it_was.bytes (8 * index + m) below);
      stays = λ place position content same. let was : status world chunk ≡ Reading place position content = subst (λ (w : Watch). IsWatched setup world w) same watched in ap (watch_on chunk) was ∙ sym same;
      read = λ place position content same. let was = watch_reads chunk place position content (status world chunk) same in
          let holds : HoldsPayload (spot setup chunk).payload_size words content.image.payload = subst (λ t. ShowsWords (spot setup chunk).payload_size t words) was slot.words in
          (holds.whole, λ m small below. byte m small ∙ holds.bytes (8 * index + m) (let whole = holds.whole in omega arith));
      reading = λ has. let was = reading_of world chunk kept.owned has in
          let entry = (kept.owned.owns was.0 chunk).reading_is was.1 was.2 was.3 in
          ∣ (
            was.0,
            was.1,
            was.2,
            ap (watch_on chunk) was.3,
            entry.1,
            λ known at.
                let learnt = (kept.owned.counts was.0).learnt was.1 known at in
                let one : Completed learnt.0 known ≡ Completed chunk was.2 = at_one (writer world was.0).begun (Completed learnt.0 known) (Completed chunk was.2) was.1 learnt.1 entry.0 in
                let same : known ≡ was.2 = cc in same,
          ) ∣₁;
    }
