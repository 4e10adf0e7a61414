-- A writer's look at a page word, which is its claim where the claim bit is set: it keeps the rule, and tells what it does.
use Rattle.std.proofs.Common.{◌≡◌, ℕ, ◌+◌, ◌<◌, Bool, true, false, List, [], length, set, get_or, if◌then◌else◌, subst, sym, refl, ap, ◌∙◌, arith}
use Rattle.std.proofs.lemmas.Bool.Decides.{nat_tests}
use Rattle.std.specs.Int.{bit_at}
use Rattle.atomic_table.specs.Table.{Allows, keeps}
use Rattle.page_geometry.specs.PageBits.{IsClaimed}
use Rattle.chunk_plain.specs.declared.step.Step.TheVariants.{Claim}
use Rattle.chunk_plain.specs.Setup.{Setup, spot, IsLaid, IsChunkOf, producer_of}
use Rattle.chunk_plain.specs.Views.{WriterView}
use Rattle.chunk_plain.specs.World.{World, Unclaimed, status, writer}
use Rattle.chunk_plain.specs.Steps.{claims}
use Rattle.chunk_plain.specs.Stored.{Stored}
use Rattle.chunk_plain.specs.Shows.{claim_of, page_word}
use Rattle.chunk_plain.specs.Plain.{world_after, IsKept}
use Rattle.chunk_plain.proofs.Kept.{claim_seen}
use Rattle.chunk_plain.proofs.LayingLemmas.{chunk_inside as chunk_of_table}
use Rattle.chunk_schedules.specs.Moves.{Claims as ClaimsMove}
use Rattle.chunk_schedules.specs.Schedules.{IsLed}
use Rattle.chunk_schedules.proofs.Leading.{led_on}
use Rattle.chunk_words.specs.Knows.{Writer, by_writer}
use Rattle.chunk_words.specs.Places.{front_place}
use Rattle.chunk_words.specs.Rule.{IsManned, IsShared}
use Rattle.chunk_words.specs.Moves.{Mine, is_clear, Asks, Claims}
use Rattle.chunk_words.proofs.Bodies.{with_hand, in_before, bodies_stay}
use Rattle.chunk_words.proofs.Turns.{IsWriterChange, noted_change, same_change, writer_turn}
use Rattle.chunk_words.proofs.Leads.{claim_is, bit_held, was_had}
use Rattle.chunk_words.proofs.MailWords.{KeepsLetters, mail_loaded, mail_by_writer}
use Rattle.chunk_words.proofs.WriterMoves.{claims_keep, page_is, writer_inside, world_inside, chunk_inside, hand_none}
use Rattle.chunk_words.proofs.WriterEnds.{words_loaded}

-- the world behind it
abbrev asked_world : World → (place chunk found : ℕ) → (clear : Bool) → World
asked_world world place chunk found true = world
asked_world world place chunk found false = world_after world (Claim place chunk found false)

abbrev asked_view : WriterView → (chunk found : ℕ) → (clear : Bool) → WriterView
asked_view view chunk found clear = if clear then view else claims view chunk found false

asked_change : (world : World) (place chunk found : ℕ) (clear : Bool) → place < length world.writers
    → IsWriterChange world (asked_world world place chunk found clear) place (asked_view (writer world place) chunk found clear)
asked_change world place chunk found true inside = same_change world place
asked_change world place chunk found false inside = noted_change world place (claims (writer world place) chunk found false) inside refl (omega arith)

asked_keep : (view : WriterView) (chunk found : ℕ) (clear : Bool) → KeepsLetters view (asked_view view chunk found clear)
asked_keep view chunk found true = record { letters = refl; begun = omega arith; calls = omega arith }
asked_keep view chunk found false = claims_keep view chunk found false

asked_kept : (setup : Setup) (words : List ℕ) (slots : List Stored) (world : World) (place chunk found : ℕ) (clear : Bool)
    → IsLaid setup → IsKept setup words slots world → place < length setup.writers → chunk < length setup.spots → IsChunkOf setup (producer_of setup place) chunk
    → found ≡ page_word setup words chunk → (clear ≡ false → IsClaimed found (spot setup chunk).place)
    → IsKept setup words slots (asked_world world place chunk found clear)
asked_kept setup words slots world place chunk found true laid kept inside_w inside of is set_ = kept
asked_kept setup words slots world place chunk found false laid kept inside_w inside of is set_ = claim_seen setup words slots world place chunk found laid kept inside_w inside of is (set_ refl)

-- where the claim bit is set the look is a claim in vain, and else it is no move
asked_led : (setup : Setup) (marks : List World) (world : World) (place chunk found : ℕ) (clear : Bool) → IsLed setup marks world
    → place < length world.writers → chunk < length world.chunks → IsChunkOf setup (producer_of setup place) chunk
    → (clear ≡ false → status world chunk ≡ Unclaimed → ⊥)
    → IsLed setup marks (asked_world world place chunk found clear)
asked_led setup marks world place chunk found true led inside_w inside_c of held = led
asked_led setup marks world place chunk found false led inside_w inside_c of held =
    led_on setup marks world (world_after world (Claim place chunk found false)) (ClaimsMove place chunk found) led (inside_w, inside_c, of)
    (claim_is world place chunk found false (status world chunk) (λ yes_. absurd cc) (λ _. held refl))

-- and somebody has the chunk behind it
asked_had : (world : World) (place chunk found : ℕ) (clear : Bool) → clear ≡ false → (status world chunk ≡ Unclaimed → ⊥)
    → status (asked_world world place chunk found clear) chunk ≡ Unclaimed → ⊥
asked_had world place chunk found true unclear held free = absurd cc
asked_had world place chunk found false unclear held free = held free

pub asks_allowed : (setup : Setup) (count id k chunk : ℕ) (v : WriterView) → IsChunkOf setup (producer_of setup k) chunk
    → Allows (IsShared setup) count id (Writer k 0 v, []) (front_place (spot setup chunk).page) (λ found. found) (Asks setup chunk (Writer k 0 v, []))
asks_allowed setup count id k chunk v of s r deep at small =
    let inside = chunk_of_table setup (producer_of setup k) chunk r.laid of in
    let at_ = spot setup chunk in let found = get_or s.words (front_place at_.page) 0 in let clear = is_clear found at_.place in
    let world = r.world in let f = r.manned.each id (Writer k 0 v) at in
    let inside_w = writer_inside setup s r id k 0 v at in let w_inside = world_inside setup s r id k 0 v at in
    let next = asked_world world k chunk found clear in let roll = with_hand r.roll k 0 in
    let c_inside = chunk_inside setup s r chunk inside in
    let set_ : clear ≡ false → IsClaimed found at_.place = λ unclear. grind (arith, nat_tests, unclear) in
    let bit = subst (λ w. bit_at w (32 + at_.place) ≡ claim_of (status world chunk)) (sym (page_is setup s r chunk inside)) (r.kept.shown.page chunk inside).claim in
    let held : clear ≡ false → status world chunk ≡ Unclaimed → ⊥ = λ unclear. bit_held found at_.place (status world chunk) bit (set_ unclear) in
    let change = asked_change world k chunk found clear w_inside in
    let turn = writer_turn setup world next r.roll s.views id k 0 0 v (asked_view (writer world k) chunk found clear) r.manned at
    change (λ d e. absurd (omega arith)) in
    let kept = asked_kept setup r.front r.slots world k chunk found clear r.laid r.kept inside_w inside of (page_is setup s r chunk inside) set_ in (
      Writer k 0 (asked_view v chunk found clear),
      keeps,
      tt,
      record {
        world = next;
        front = r.front;
        slots = r.slots;
        roll = roll;
        laid = r.laid;
        led = asked_led setup r.roll.marks world k chunk found clear r.led w_inside c_inside of held;
        kept = kept;
        words = words_loaded setup s.words r.front r.slots (front_place at_.page) r.words;
        mail = mail_by_writer setup world next (set s.words (front_place at_.page) found) k (asked_view (writer world k) chunk found clear) change
            (asked_keep (writer world k) chunk found clear) (mail_loaded setup world s.words (front_place at_.page) r.mail);
        bodies = bodies_stay setup s.homes r.slots r.slots r.roll roll r.bodies (λ d. refl) (λ d. in_before r.roll k 0 d (hand_none r.roll k d f.2));
        manned = subst (λ z. IsManned setup next roll (set s.views id (Writer k 0 (asked_view z chunk found clear)))) (sym f.0) turn;
      },
      record {
        had = λ unclear. was_had setup r.front r.slots next k chunk (asked_view v chunk found clear) kept
            (change.mine ∙ ap (λ z. asked_view z chunk found clear) (sym f.0)) (asked_had world k chunk found clear unclear (held unclear));
        new_is = refl;
      },
    )

-- a word with the claim bit set isn't clear
pub seen_claimed : (found place : ℕ) → IsClaimed found place → is_clear found place ≡ false
seen_claimed found place claimed = grind (arith, nat_tests, claimed)

-- a look that found the claim bit set was the claim
pub asked_in_vain : (setup : Setup) (chunk found : ℕ) (me new : Mine) → Asks setup chunk me found new → IsClaimed found (spot setup chunk).place
    → new ≡ (by_writer 0 (λ view. claims view chunk found false) me.0, [])
asked_in_vain setup chunk found me new asked claimed =
    asked.new_is ∙ ap (λ clear. let m : Mine = (by_writer 0 (λ view. asked_view view chunk found clear) me.0, []) in m) (seen_claimed found (spot setup chunk).place claimed)

-- a claim behind a look that found it clear is what it is without the look
pub claimed_behind : (setup : Setup) (chunk seen found : ℕ) (me asked new : Mine) → Asks setup chunk me seen asked → (IsClaimed seen (spot setup chunk).place → ⊥)
    → Claims setup chunk asked found new → new ≡ (by_writer 0 (λ view. claims view chunk found (is_clear found (spot setup chunk).place)) me.0, [])
claimed_behind setup chunk seen found me asked new looked unclaimed claimed =
    let place = (spot setup chunk).place in
    let clear : is_clear seen place ≡ true = grind (arith, nat_tests, unclaimed) in
    let kept : asked ≡ (by_writer 0 (λ view. view) me.0, []) = looked.new_is ∙ ap (λ clear. let m : Mine = (by_writer 0 (λ view. asked_view view chunk seen clear) me.0, []) in m) clear in
    claimed.new_is ∙ ap (λ (m : Mine). let m' : Mine = (by_writer 0 (λ view. claims view chunk found (is_clear found place)) m.0, []) in m') kept
