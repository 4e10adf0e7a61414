-- Each step of a writer's seat keeps the rule, and tells what it does.
use Rattle.std.proofs.Common.{◌≡◌, ◌≢◌, ℕ, ◌+◌, ◌-◌, ◌*◌, ◌^◌, ◌<◌, ◌≤◌, ◌↔◌, ◌==◌, IsTrue, Bool, true, false, Option, Some, None, List, [], ◌∷◌, length, set, get_or, subst, sym, refl, ap, ◌∙◌, arith, bit_or, length-set}
use Rattle.std.specs.Int.{bit_at}
use Rattle.std.proofs.lemmas.List.{get_or-set_same, length-append}
use Rattle.std.proofs.lemmas.Bool.Decides.{nat_tests}
use Rattle.atomic_table.specs.Table.{State, Allows, keeps, takes, gives}
use Rattle.page_geometry.specs.PageBits.{HasState, SetsState, Claims as ClaimsBit, KeepsOthers, IsClaimed}
use Rattle.page_geometry.specs.declared.chunk_state.ChunkState.TheVariants as state
use Rattle.commit_body.specs.declared.body.CommitBody.{CommitBody}
use Rattle.chunk_plain.specs.declared.step.Step.TheVariants.{Claim}
use Rattle.chunk_plain.specs.Setup.{Setup, spot, producer_of, IsChunkOf}
use Rattle.chunk_plain.specs.Payload.{byte_of, byte_at, sealed_to, HasFragments}
use Rattle.chunk_plain.specs.Views.{At, Head, no_head, fresh, Draft, Held, WriterView}
use Rattle.chunk_plain.specs.World.{World, Status, Unclaimed, Claimed, Stamped, Writing, status, writer}
use Rattle.chunk_plain.specs.Steps.{claims, stamps, begins, redrafts, with_head, with_word, with_words, drafted, moved}
use Rattle.chunk_plain.specs.Owned.{times, claims_of}
use Rattle.chunk_plain.specs.Drafts.{MayFollow, draft_at, head_at, published, ends_by, IsHolding}
use Rattle.chunk_plain.specs.Stored.{Stored, nothing_stored, stored_at}
use Rattle.chunk_plain.specs.Shows.{claim_of, IsHeader, page_word}
use Rattle.chunk_plain.specs.Plain.{world_after, IsLent, IsKept}
use Rattle.chunk_plain.proofs.Kept.{claim_kept, claim_bit_free}
use Rattle.chunk_plain.proofs.LayingLemmas.{chunk_inside as chunk_of_table}
use Rattle.chunk_plain.proofs.KeptWriter.{claimed_by, body_of_claimed, stamp_kept, begin_kept, body_kept, held_status, held_chunk, held_slot, header_kept, publish_kept}
use Rattle.chunk_plain.proofs.Sealing.{word_bytes, length-ends_from}
use Rattle.chunk_schedules.specs.Moves.{Claims as ClaimsMove, Stamps as StampsMove, Begins as BeginsMove, SetsHeader as SetsHeaderMove, Publishes as PublishesMove, MaySetHeader}
use Rattle.chunk_schedules.proofs.Leading.{led_on}
use Rattle.chunk_words.specs.Knows.{Knows, Writer, hand_with}
use Rattle.chunk_words.specs.Places.{front_place, front_count, payload_start, payload_words}
use Rattle.chunk_words.specs.Rule.{Roll, IsIn, IsOf, IsRead, IsManned, IsShared}
use Rattle.chunk_words.specs.Moves.{is_clear, Claims, Stamps, Begins, SetsHeader, Publishes}
use Rattle.chunk_words.proofs.Standing.{words_front, words_payload, words_body}
use Rattle.chunk_words.proofs.Bodies.{put_same, with_hand, in_before, bodies_stay, bodies_out, bodies_back, body_here, body_else}
use Rattle.chunk_words.proofs.Leads.{claim_is, bit_held, vain_had, was_had}
use Rattle.chunk_words.proofs.Telling.{stays_same, stays_more, stays_set}
use Rattle.chunk_words.proofs.MailWords.{KeepsLetters, mail_apart, payload_below, mail_by_writer}
use Rattle.chunk_words.proofs.Turns.{Still, IsWriterChange, moved_change, noted_change, writer_turn}

abbrev pub Table : Type 0
Table = State (Option CommitBody) Knows

-- the words in front
pub front_many : (setup : Setup) (s : Table) (r : IsShared setup s) → length r.front ≡ front_count setup
front_many setup s r = r.kept.shown.word_count

pub page_front : (setup : Setup) (s : Table) (r : IsShared setup s) (chunk : ℕ) → chunk < length setup.spots → (spot setup chunk).page < front_count setup
page_front setup s r chunk inside = let low = r.laid.page chunk inside in omega arith

pub page_is : (setup : Setup) (s : Table) (r : IsShared setup s) (chunk : ℕ) → chunk < length setup.spots → get_or s.words (front_place (spot setup chunk).page) 0 ≡ page_word setup r.front chunk
page_is setup s r chunk inside = r.words.front_is (spot setup chunk).page (page_front setup s r chunk inside)

pub writer_inside : (setup : Setup) (s : Table) (r : IsShared setup s) (seat place hand : ℕ) (view : WriterView) → At s.views seat (Writer place hand view) → place < length setup.writers
writer_inside setup s r seat place hand view at =
    let fits = r.manned.each seat (Writer place hand view) at in let most = r.manned.most in let many = r.kept.writers in let below = fits.3 in omega arith

pub world_inside : (setup : Setup) (s : Table) (r : IsShared setup s) (seat place hand : ℕ) (view : WriterView) → At s.views seat (Writer place hand view) → place < length r.world.writers
world_inside setup s r seat place hand view at = let below = writer_inside setup s r seat place hand view at in let many = r.kept.writers in omega arith

pub chunk_inside : (setup : Setup) (s : Table) (r : IsShared setup s) (chunk : ℕ) → chunk < length setup.spots → chunk < length r.world.chunks
chunk_inside setup s r chunk inside = let many = r.kept.shown.chunk_count in omega arith

-- the slot of a chunk that only this writer may have is in, where the writer's hand is empty
pub slot_in : (setup : Setup) (world : World) (roll : Roll) (views : List Knows) (place chunk : ℕ) (is : Status) → IsManned setup world roll views
    → status world chunk ≡ is → ((other : ℕ) → IsOf other is → other ≡ place) → roll.hands place ≡ 0 → (IsRead is → ⊥) → IsIn roll chunk
slot_in setup world roll views place chunk is manned was mine empty unread = record {
  with_none = λ other out. let same : other ≡ place = mine other (subst (IsOf other) was (manned.handed other chunk out)) in
      absurd (let one : roll.hands place ≡ hand_with chunk = ap roll.hands (sym same) ∙ out in omega arith);
  not_service = λ out. absurd (unread (subst IsRead was (manned.lifted chunk out)));
}

-- one writer's hand that is about a chunk is about no other
pub hand_else : (roll : Roll) (place chunk other : ℕ) → roll.hands place ≡ hand_with chunk → other ≢ chunk → roll.hands place ≢ hand_with other
hand_else roll place chunk other held differs same = differs (omega arith)

pub hand_none : (roll : Roll) (place other : ℕ) → roll.hands place ≡ 0 → roll.hands place ≢ hand_with other
hand_none roll place other none same = absurd (omega arith)

-- ---- claim

set_is : (word place : ℕ) → IsTrue (bit_at word (32 + place) == 1) ↔ IsClaimed word place
set_is word place = (λ yes_. grind (arith, nat_tests), λ one. grind (arith, nat_tests))

claim_change : (world : World) (place chunk found : ℕ) (won : Bool) → place < length world.writers → chunk < length world.chunks
    → (won ≡ true → status world chunk ≡ Unclaimed) → IsWriterChange world (world_after world (Claim place chunk found won)) place (claims (writer world place) chunk found won)
claim_change world place chunk found true inside_w inside_c free =
    moved_change world place chunk (claims (writer world place) chunk found true) (Claimed place) inside_w inside_c
    (subst (λ t. Still place t (Claimed place)) (sym (free refl)) (record { started = λ x. x; full = λ x. absurd x; read = λ x. absurd x; others = λ other differs x. absurd x }))
    (stays_same (writer world place).begun) (omega arith)
claim_change world place chunk found false inside_w inside_c free = noted_change world place (claims (writer world place) chunk found false) inside_w refl (omega arith)

-- a claim changes no letter
pub claims_keep : (view : WriterView) (chunk found : ℕ) (won : Bool) → KeepsLetters view (claims view chunk found won)
claims_keep view chunk found true = record { letters = refl; begun = omega arith; calls = omega arith }
claims_keep view chunk found false = record { letters = refl; begun = omega arith; calls = omega arith }

pub claims_allowed : (setup : Setup) (count id k chunk mask : ℕ) (v : WriterView) → IsChunkOf setup (producer_of setup k) chunk
    → ((word : ℕ) → ClaimsBit word (bit_or word mask) (spot setup chunk).place (spot setup chunk).layout) → ((word : ℕ) → KeepsOthers word (bit_or word mask) (spot setup chunk).place)
    → Allows (IsShared setup) count id (Writer k 0 v, []) (front_place (spot setup chunk).page) (λ found. bit_or found mask) (Claims setup chunk (Writer k 0 v, []))
claims_allowed setup count id k chunk mask v of sets keep s r deep at small =
    let inside = chunk_of_table setup (producer_of setup k) chunk r.laid of in
    let at_ = spot setup chunk in let found = get_or s.words (front_place at_.page) 0 in let new = bit_or found mask in
    let world = r.world in let f = r.manned.each id (Writer k 0 v) at in
    let claimed = bit_at found (32 + at_.place) == 1 in let won = is_clear found at_.place in
    let inside_w = writer_inside setup s r id k 0 v at in let w_inside = world_inside setup s r id k 0 v at in let c_inside = chunk_inside setup s r chunk inside in
    let is = page_is setup s r chunk inside in
    let next = world_after world (Claim k chunk found won) in
    let free : won ≡ true → status world chunk ≡ Unclaimed = λ yes_. claim_bit_free found at_.place (status world chunk)
    (subst (λ w. bit_at w (32 + at_.place) ≡ claim_of (status world chunk)) (sym is) (r.kept.shown.page chunk inside).claim)
    (λ one. absurd (let set_ : claimed ≡ true = (set_is found at_.place).1 one in grind (arith, nat_tests, set_, yes_))) in
    let held : won ≡ false → status world chunk ≡ Unclaimed → ⊥ = λ no_. bit_held found at_.place (status world chunk)
    (subst (λ w. bit_at w (32 + at_.place) ≡ claim_of (status world chunk)) (sym is) (r.kept.shown.page chunk inside).claim) (grind (arith, nat_tests, no_)) in
    let kept = claim_kept setup r.front r.slots world k chunk found new claimed at_ refl r.laid r.kept inside_w inside of is (sets found) (keep found) (set_is found at_.place) in
    let change = claim_change world k chunk found won w_inside c_inside free in
    let turn = writer_turn setup world next r.roll s.views id k 0 0 v (claims (writer world k) chunk found won) r.manned at
    change (λ d e. absurd (omega arith)) in (
      Writer k 0 (claims v chunk found won),
      keeps,
      tt,
      record {
        world = next;
        front = set r.front at_.page new;
        slots = r.slots;
        roll = with_hand r.roll k 0;
        laid = r.laid;
        kept = kept;
        led = led_on setup r.roll.marks world next (ClaimsMove k chunk found) r.led (w_inside, c_inside, of) (claim_is world k chunk found won (status world chunk) free held);
        words = words_front setup s.words r.front r.slots at_.page new (page_front setup s r chunk inside) (front_many setup s r) r.words;
        mail = mail_by_writer setup world next (set s.words (front_place at_.page) new) k (claims (writer world k) chunk found won)
            change (claims_keep (writer world k) chunk found won)
            (mail_apart setup world s.words (front_place at_.page) new (let low = page_front setup s r chunk inside in omega (arith, low)) r.mail);
        bodies = bodies_stay setup s.homes r.slots r.slots r.roll (with_hand r.roll k 0) r.bodies (λ d. refl) (λ d. in_before r.roll k 0 d (hand_none r.roll k d f.2));
        manned = subst (λ z. IsManned setup next (with_hand r.roll k 0) (set s.views id (Writer k 0 (claims z chunk found won)))) (sym f.0) turn;
      },
      record {
        fresh = λ yes_. ap (λ (z : WriterView). times chunk z.claimed) f.0 ∙ ((r.kept.owned.owns k chunk).claimed ∙ ap (claims_of k) (free yes_));
        had = λ no_. was_had setup (set r.front at_.page new) r.slots next k chunk (claims v chunk found won) kept
            (change.mine ∙ ap (λ z. claims z chunk found won) (sym f.0)) (vain_had world k chunk found won no_ (held no_));
        new_is = refl;
      },
    )

-- ---- begin: the header, then the state

pub stamps_allowed : (setup : Setup) (count id k chunk header : ℕ) (v : WriterView) → chunk < length setup.spots
    → 0 < times chunk v.claimed → v.stamped ≡ None → length v.begun < 2 ^ 32 - 1 → IsHeader setup header k (length v.begun) no_head
    → Allows (IsShared setup) count id (Writer k 0 v, []) (front_place (setup.pages + chunk)) (λ _. header) (λ _. Stamps chunk (spot setup chunk).payload_size (Writer k 0 v, []))
stamps_allowed setup count id k chunk header v inside mine unstamped few is_header s r deep at small =
    let world = r.world in let f = r.manned.each id (Writer k 0 v) at in let size = (spot setup chunk).payload_size in
    let inside_w = writer_inside setup s r id k 0 v at in let w_inside = world_inside setup s r id k 0 v at in let c_inside = chunk_inside setup s r chunk inside in
    let mine' = subst (λ (z : WriterView). 0 < times chunk z.claimed) f.0 mine in
    let was = claimed_by world k chunk r.kept.owned mine' in
    let n = length (writer world k).begun in let is = Stamped k n in let view = stamps (writer world k) chunk in
    let next = moved world k view chunk is in
    let now : status next chunk ≡ is = get_or-set_same world.chunks chunk is Unclaimed c_inside in
    let kept = stamp_kept setup r.front r.slots world k chunk header r.laid r.kept inside_w inside mine' (subst (λ (z : WriterView). z.stamped ≡ None) f.0 unstamped)
    (subst (λ (z : WriterView). IsHeader setup header k (length z.begun) no_head) f.0 is_header) in
    let body = body_of_claimed setup r.front r.slots world k chunk r.kept mine' in
    let in_ = slot_in setup world r.roll s.views k chunk (Claimed k) r.manned was (λ other same. sym same) f.2 (λ x. x) in
    let home = r.bodies.home_is chunk inside in_ ∙ ap (λ (b : Option CommitBody). mathlib.Core.Option.some (mathlib.Core.Option.some b)) body.1 in
    let roll = with_hand r.roll k (hand_with chunk) in
    let change = moved_change world k chunk view is w_inside c_inside
    (subst (λ t. Still k t is) (sym was) (record { started = λ x. x; full = λ x. absurd x; read = λ x. absurd x; others = λ other differs same. absurd (differs (sym same)) }))
    (stays_same (writer world k).begun) (omega arith) in
    let turn = writer_turn setup world next r.roll s.views id k 0 (hand_with chunk) v view r.manned at change
    (λ d e. let same : chunk ≡ d = omega arith in subst (λ c. IsOf k (status next c)) same (subst (IsOf k) (sym now) refl)) in (
      Writer k (hand_with chunk) (stamps v chunk),
      takes chunk (Some body.0),
      home,
      record {
        world = next;
        front = set r.front (setup.pages + chunk) header;
        slots = r.slots;
        roll = roll;
        laid = r.laid;
        kept = kept;
        led = led_on setup r.roll.marks world next (StampsMove k chunk) r.led (w_inside, c_inside, mine', subst (λ (z : WriterView). z.stamped ≡ None) f.0 unstamped, subst (λ (z : WriterView). length z.begun < 2 ^ 32 - 1) f.0 few) refl;
        words = words_front setup s.words r.front r.slots (setup.pages + chunk) header (omega arith) (front_many setup s r) r.words;
        mail = mail_by_writer setup world next (set s.words (front_place (setup.pages + chunk)) header) k view change
            (record { letters = refl; begun = omega arith; calls = omega arith })
            (mail_apart setup world s.words (front_place (setup.pages + chunk)) header (omega (arith, inside)) r.mail);
        bodies = bodies_out setup s.homes r.slots r.roll roll chunk r.bodies (λ in_now. in_now.with_none k (put_same r.roll.hands k (hand_with chunk)))
            (λ d _. in_before r.roll k (hand_with chunk) d (hand_none r.roll k d f.2));
        manned = subst (λ z. IsManned setup next roll (set s.views id (Writer k (hand_with chunk) (stamps z chunk)))) (sym f.0) turn;
      },
      record { body = body.0; whole = body.2.whole; new_is = refl },
    )

pub begins_allowed : (setup : Setup) (count id k chunk mask : ℕ) (v : WriterView) → chunk < length setup.spots
    → v.stamped ≡ Some (record { chunk = chunk; position = length v.begun })
    → ((word : ℕ) → HasState word (spot setup chunk).place state.Free → SetsState word (bit_or word mask) (spot setup chunk).place state.BeingWritten)
    → ((word : ℕ) → KeepsOthers word (bit_or word mask) (spot setup chunk).place)
    → Allows (IsShared setup) count id (Writer k (hand_with chunk) v, (chunk, None) ∷ []) (front_place (spot setup chunk).page) (λ found. bit_or found mask)
    (λ _. Begins chunk (spot setup chunk).payload_size (Writer k (hand_with chunk) v, (chunk, None) ∷ []))
begins_allowed setup count id k chunk mask v inside stamped sets keep s r deep at small =
    let at_ = spot setup chunk in let found = get_or s.words (front_place at_.page) 0 in let new = bit_or found mask in
    let world = r.world in let f = r.manned.each id (Writer k (hand_with chunk) v) at in
    let inside_w = writer_inside setup s r id k (hand_with chunk) v at in let w_inside = world_inside setup s r id k (hand_with chunk) v at in let c_inside = chunk_inside setup s r chunk inside in
    let is = page_is setup s r chunk inside in
    let v' = writer world k in let n = length v'.begun in let payload = (stored_at r.slots chunk).words in
    let stamped' = subst (λ (z : WriterView). z.stamped ≡ Some (record { chunk = chunk; position = length z.begun })) f.0 stamped in
    let was : status world chunk ≡ Stamped k n = (r.kept.owned.owns k chunk).stamp_is n stamped' in
    let view = begins v' chunk payload in let to = Writing k n (fresh payload) in let next = moved world k view chunk to in
    let now : status next chunk ≡ to = get_or-set_same world.chunks chunk to Unclaimed c_inside in
    let kept = subst (λ w. IsKept setup (set r.front at_.page (bit_or w mask)) r.slots next) (sym is)
    (begin_kept setup r.front r.slots world k chunk (bit_or (page_word setup r.front chunk) mask) r.laid r.kept inside_w inside stamped' (sets (page_word setup r.front chunk)) (keep (page_word setup r.front chunk))) in
    let front = set r.front at_.page new in
    let slots = set r.slots chunk (record (stored_at r.slots chunk) { body = None }) in
    let deep_slots : length r.slots ≡ length setup.spots = r.kept.shown.slot_count in
    let kept' = body_kept setup front r.slots next chunk None r.laid kept (subst IsLent (sym now) tt) in
    let roll = with_hand r.roll k 0 in
    let change = moved_change world k chunk view to w_inside c_inside
    (subst (λ t. Still k t to) (sym was) (record { started = λ x. tt; full = λ x. absurd x; read = λ x. absurd x; others = λ other differs same. absurd (differs (sym same)) }))
    (stays_more v'.begun (Held chunk (fresh payload) ∷ [])) (omega arith) in
    let turn = writer_turn setup world next r.roll s.views id k (hand_with chunk) 0 v view r.manned at change (λ d e. absurd (omega arith)) in
    let room = (r.kept.shown.slot chunk inside).room in (
      Writer k 0 (begins v chunk payload),
      gives,
      tt,
      record {
        world = next;
        front = front;
        slots = slots;
        roll = roll;
        laid = r.laid;
        kept = kept';
        led = led_on setup r.roll.marks world next (BeginsMove k chunk payload) r.led (w_inside, c_inside, stamped') refl;
        words = words_body setup (set s.words (front_place at_.page) new) front r.slots chunk None inside deep_slots
            (words_front setup s.words r.front r.slots at_.page new (page_front setup s r chunk inside) (front_many setup s r) r.words);
        mail = mail_by_writer setup world next (set s.words (front_place at_.page) new) k view change
            (record {
              letters = refl;
              begun = let more = length-append v'.begun (Held chunk (fresh payload) ∷ []) in omega (arith, more);
              calls = omega arith;
            })
            (mail_apart setup world s.words (front_place at_.page) new (let low = page_front setup s r chunk inside in omega (arith, low)) r.mail);
        bodies = bodies_back setup s.homes r.slots slots r.roll roll chunk None r.bodies inside (body_here r.slots chunk None (omega arith))
            (λ d differs. body_else r.slots chunk d None differs)
            (λ d differs. in_before r.roll k 0 d (hand_else r.roll k chunk d f.2 differs));
        manned = subst (λ z. IsManned setup next roll (set s.views id (Writer k 0 (begins z chunk payload)))) (sym f.0) turn;
      },
      record { words = payload; room = room; new_is = refl },
    )

-- ---- a held chunk: its header, a payload word

pub heads_allowed : (setup : Setup) (count id k chunk i header : ℕ) (head : Head) (v : WriterView)
    → IsHolding v chunk i → IsHeader setup header k i head → MayFollow (head_at v i) head
    → HasFragments (published v i) (ends_by v i head.count) → sealed_to (ends_by v i head.count) ≤ (spot setup chunk).payload_size
    → Allows (IsShared setup) count id (Writer k 0 v, []) (front_place (setup.pages + chunk)) (λ _. header) (λ _. SetsHeader chunk i head (Writer k 0 v, []))
heads_allowed setup count id k chunk i header head v holding is_header follows reads fits_in s r deep at small =
    let world = r.world in let f = r.manned.each id (Writer k 0 v) at in
    let inside_w = writer_inside setup s r id k 0 v at in let w_inside = world_inside setup s r id k 0 v at in
    let holding' = subst (λ z. IsHolding z chunk i) f.0 holding in
    let was = held_status setup r.front r.slots world k chunk i r.kept holding' in
    let inside = held_chunk setup r.front r.slots world k chunk i r.kept holding' in
    let c_inside = chunk_inside setup s r chunk inside in
    let v' = writer world k in let draft = with_head (draft_at v' i) head (ends_by v' i head.count) in let to = Writing k i draft in
    let view = redrafts v' chunk i draft in let next = moved world k view chunk to in
    let kept = header_kept setup r.front r.slots world k chunk i header head r.laid r.kept inside_w holding' is_header (subst (λ z. MayFollow (head_at z i) head) f.0 follows)
    (subst (λ z. HasFragments (published z i) (ends_by z i head.count)) f.0 reads) (subst (λ z. sealed_to (ends_by z i head.count) ≤ (spot setup chunk).payload_size) f.0 fits_in) in
    let may : MaySetHeader (draft_at v' i) head (ends_by v' i head.count) = record {
      follows = subst (λ z. MayFollow (head_at z i) head) f.0 follows;
      reads = record {
        count = length-ends_from (published v' i) 0 (head.count - 1);
        reads = subst (λ z. HasFragments (published z i) (ends_by z i head.count)) f.0 reads;
      };
    } in
    let roll = with_hand r.roll k 0 in
    let change = moved_change world k chunk view to w_inside c_inside
    (subst (λ t. Still k t to) (sym was) (record { started = λ x. tt; full = λ x. absurd x; read = λ x. absurd x; others = λ other differs same. absurd (differs (sym same)) }))
    (stays_set v'.begun i chunk (draft_at v' i) (Held chunk draft) holding') (omega arith) in
    let turn = writer_turn setup world next r.roll s.views id k 0 0 v view r.manned at change (λ d e. absurd (omega arith)) in (
      Writer k 0 (redrafts v chunk i (with_head (draft_at v i) head (ends_by v i head.count))),
      keeps,
      tt,
      record {
        world = next;
        front = set r.front (setup.pages + chunk) header;
        slots = r.slots;
        roll = roll;
        laid = r.laid;
        kept = kept;
        led = led_on setup r.roll.marks world next (SetsHeaderMove k chunk i head) r.led (w_inside, c_inside, holding', may) refl;
        words = words_front setup s.words r.front r.slots (setup.pages + chunk) header (omega arith) (front_many setup s r) r.words;
        mail = mail_by_writer setup world next (set s.words (front_place (setup.pages + chunk)) header) k view change
            (record {
              letters = refl;
              begun = let same_many = length-set v'.begun i (Held chunk draft) in omega (arith, same_many);
              calls = omega arith;
            })
            (mail_apart setup world s.words (front_place (setup.pages + chunk)) header (omega (arith, inside)) r.mail);
        bodies = bodies_stay setup s.homes r.slots r.slots r.roll roll r.bodies (λ d. refl) (λ d. in_before r.roll k 0 d (hand_none r.roll k d f.2));
        manned = subst (λ z. IsManned setup next roll (set s.views id (Writer k 0 (redrafts z chunk i (with_head (draft_at z i) head (ends_by z i head.count)))))) (sym f.0) turn;
      },
      refl,
    )

-- the body of each slot stays where the words of one change
words_else : (slots : List Stored) (chunk : ℕ) (words : List ℕ) → chunk < length slots → (other : ℕ)
    → (stored_at (set slots chunk (record (stored_at slots chunk) { words = words })) other).body ≡ (stored_at slots other).body
words_else slots chunk words inside other = Rattle.chunk_plain.proofs.Lists.changed (λ (one : Stored). one.body ≡ (stored_at slots other).body) slots chunk other (record (stored_at slots chunk) { words = words }) nothing_stored inside
    (λ same. ap (λ d. (stored_at slots d).body) (sym same)) (λ _. refl)

pub publishes_allowed : (setup : Setup) (count id k chunk i index word : ℕ) (v : WriterView)
    → IsHolding v chunk i → index < payload_words setup chunk
    → ((m : ℕ) → m < 8 → 8 * index + m < sealed_to (draft_at v i).ends → byte_of word m ≡ byte_of (get_or (draft_at v i).words index 0) m)
    → Allows (IsShared setup) count id (Writer k 0 v, []) (payload_start setup chunk + index) (λ _. word) (λ _. Publishes chunk i index word (Writer k 0 v, []))
publishes_allowed setup count id k chunk i index word v holding less same s r deep at small =
    let world = r.world in let f = r.manned.each id (Writer k 0 v) at in
    let inside_w = writer_inside setup s r id k 0 v at in let w_inside = world_inside setup s r id k 0 v at in
    let holding' = subst (λ z. IsHolding z chunk i) f.0 holding in
    let was = held_status setup r.front r.slots world k chunk i r.kept holding' in
    let inside = held_chunk setup r.front r.slots world k chunk i r.kept holding' in
    let c_inside = chunk_inside setup s r chunk inside in
    let v' = writer world k in let old = draft_at v' i in
    let same' : (m : ℕ) → m < 8 → 8 * index + m < sealed_to old.ends → byte_of word m ≡ byte_of (get_or old.words index 0) m
    = subst (λ (d : Draft). (m : ℕ) → m < 8 → 8 * index + m < sealed_to d.ends → byte_of word m ≡ byte_of (get_or d.words index 0) m) (ap (λ z. draft_at z i) f.0) same in
    let words_are : (stored_at r.slots chunk).words ≡ old.words = (held_slot setup r.front r.slots world k chunk i r.kept holding').words.0 in
    let many : index < length old.words = subst (λ (l : List ℕ). index < length l) words_are (let count = r.words.count chunk inside in omega arith) in
    let stored = set (stored_at r.slots chunk).words index word in
    let stored_is : stored ≡ set old.words index word = ap (λ (l : List ℕ). set l index word) words_are in
    let draft = with_words old stored in let to = Writing k i draft in
    let view = redrafts v' chunk i draft in let next = moved world k view chunk to in
    let bytes = word_bytes old.words index word (sealed_to old.ends) same' many in
    let kept = publish_kept setup r.front r.slots world k chunk i stored r.laid r.kept inside_w holding' (length-set (stored_at r.slots chunk).words index word)
    (λ j below. ap (λ (l : List ℕ). byte_at l j) stored_is ∙ bytes j below) in
    let roll = with_hand r.roll k 0 in
    let change = moved_change world k chunk view to w_inside c_inside
    (subst (λ t. Still k t to) (sym was) (record { started = λ x. tt; full = λ x. absurd x; read = λ x. absurd x; others = λ other differs same_. absurd (differs (sym same_)) }))
    (stays_set v'.begun i chunk old (Held chunk draft) holding') (omega arith) in
    let turn = writer_turn setup world next r.roll s.views id k 0 0 v view r.manned at change (λ d e. absurd (omega arith)) in
    let deep_slots : length r.slots ≡ length setup.spots = r.kept.shown.slot_count in (
      Writer k 0 (redrafts v chunk i (with_word (draft_at v i) index word)),
      keeps,
      tt,
      record {
        world = next;
        front = r.front;
        slots = set r.slots chunk (record (stored_at r.slots chunk) { words = stored });
        roll = roll;
        laid = r.laid;
        kept = kept;
        led = led_on setup r.roll.marks world next (PublishesMove k chunk i index word) r.led (w_inside, c_inside, holding', record { inside = many; kept = same' }) (ap (λ l. drafted world k chunk i (with_words old l)) (sym stored_is));
        words = words_payload setup s.words r.front r.slots chunk index word inside less deep_slots r.words;
        mail = mail_by_writer setup world next (set s.words (payload_start setup chunk + index) word) k view change
            (record {
              letters = refl;
              begun = let same_many = length-set v'.begun i (Held chunk draft) in omega (arith, same_many);
              calls = omega arith;
            })
            (mail_apart setup world s.words (payload_start setup chunk + index) word (payload_below setup chunk index inside less) r.mail);
        bodies = bodies_stay setup s.homes r.slots (set r.slots chunk (record (stored_at r.slots chunk) { words = stored })) r.roll roll r.bodies (words_else r.slots chunk stored (omega arith)) (λ d. in_before r.roll k 0 d (hand_none r.roll k d f.2));
        manned = subst (λ z. IsManned setup next roll (set s.views id (Writer k 0 (redrafts z chunk i (with_word (draft_at z i) index word))))) (sym f.0)
            (subst (λ (l : List ℕ). IsManned setup next roll (set s.views id (Writer k 0 (redrafts v' chunk i (with_words old l))))) stored_is turn);
      },
      record { inside = subst (λ (z : WriterView). index < length (draft_at z i).words) (sym f.0) many; new_is = refl },
    )
