-- A table as it is made keeps the rule, and so does each seat that the service makes.
use Rattle.std.proofs.Common.{◌≡◌, ◌≢◌, ℕ, zero, suc, ◌+◌, ◌*◌, ◌<◌, ◌≤◌, Option, Some, List, [], ◌∷◌, ◌++◌, length, replicate, set, get_or, subst, sym, refl, ap, ◌∙◌, arith, ⊎_elim}
use Rattle.std.proofs.lemmas.List.{length-replicate, length-append, length-map, get_or_append_left}
use Rattle.std.proofs.Math.Seq.{get_or-append_seam}
use Rattle.std.specs.List.{All}
use Rattle.std.proofs.lemmas.List.Elements.{All-head, All-tail}
use Rattle.trace_base.specs.declared.limits.TheConstants.{MAX_PAGES}
use Rattle.chunk_plain.specs.declared.setup.ProducerSpec.{ProducerSpec}
use Rattle.chunk_plain.specs.Laying.{pages_in}
use native.Mathlib.Decide.{ℕ_discrete, dec_le}
use mathlib.Core.Logic.{dite}
use mathlib.Core.Option.{some, some-injective, some-ne-none}
use Rattle.atomic_table.specs.Table.{opening, Splits}
use Rattle.atomic_table.proofs.Lists.{at_longer, at_last, at_map, set_here, set_else, at_set}
use Rattle.commit_body.specs.declared.body.CommitBody.{CommitBody}
use Rattle.chunk_plain.specs.declared.setup.Spot.{Spot}
use Rattle.chunk_plain.specs.Setup.{Setup, spot, no_spot, IsLaid}
use Rattle.chunk_plain.specs.Views.{At, WriterView, Heard, ServiceView, newcomer, newcomer_service}
use Rattle.chunk_plain.specs.Letters.{AreAnswers}
use Rattle.chunk_plain.specs.World.{World, writer}
use Rattle.chunk_plain.specs.Stored.{Stored, stored_at}
use Rattle.chunk_plain.specs.Shows.{IsFreeBody}
use Rattle.chunk_plain.specs.Made.{HasFreeSlots}
use Rattle.chunk_plain.specs.Words.{IsAtRest}
use Rattle.chunk_plain.specs.Plain.{first_world}
use Rattle.chunk_plain.proofs.Lists.{at_inside, at_one, at_more}
use Rattle.chunk_plain.proofs.MadeLemmas.{all_same, first_kept, first_sits}
use Rattle.chunk_schedules.proofs.Leading.{led_first}
use Rattle.chunk_words.specs.Knows.{Watch, Nothing, Unmade, Desk, first_desk, Knows, Spent, Writer, Service, Pass, Report, Notice, put, view_of}
use Rattle.chunk_words.specs.Places.{words_for, words_before, front_place, front_count, payload_start, payload_words, request_place, answer_place, word_total}
use Rattle.chunk_words.specs.Rule.{Roll, IsIn, Fits, IsShared, answer_word, first_of}
use Rattle.chunk_words.specs.Made.{HasStarts, HasFreeBodies, HasWriterSeats}
use Rattle.chunk_words.specs.declared.host.HostTable.{HostTable}
use Rattle.chunk_words.specs.declared.seats.WriterSeat.{WriterSeat}
use Rattle.chunk_words.specs.Moves.{Mine}
use Rattle.chunk_words.specs.Sits.{Sits}
use Rattle.chunk_words.proofs.Bodies.{put_same, put_other}

-- ---- where the words lie

pub few_before : (setup : Setup) (n : ℕ) → IsLaid setup → n ≤ length setup.spots → words_before setup.spots n ≤ n * 8192
few_before setup zero laid inside = omega arith
few_before setup (suc n) laid inside = let low = few_before setup n laid (omega arith) in let most = laid.most n (omega arith) in omega (arith, low, most)

pub start_next : (setup : Setup) (n : ℕ) → payload_start setup (n + 1) ≡ payload_start setup n + words_for (spot setup n).payload_size
start_next setup n = let one : words_before setup.spots (n + 1) ≡ words_before setup.spots n + words_for (spot setup n).payload_size = let e : n + 1 ≡ suc n = omega arith in ap (words_before setup.spots) e in omega (arith, one)

pub starts_more : (setup : Setup) (count next : ℕ) (starts : List ℕ) → HasStarts setup count starts → next ≡ payload_start setup count → HasStarts setup (count + 1) (starts ++ next ∷ [])
starts_more setup count next starts o is = record {
  count_is = length-append starts (next ∷ []) ∙ (let many = o.count_is in omega arith);
  each = λ chunk below. dite (dec_le (chunk + 1) count)
      (λ less. get_or_append_left starts (next ∷ []) 0 chunk (let many = o.count_is in omega arith) ∙ o.each chunk (omega arith))
      (λ last. let same : chunk ≡ count = omega arith in
      ap (λ i. get_or (starts ++ next ∷ []) i 0) (same ∙ sym o.count_is) ∙ (get_or-append_seam starts next [] 0 ∙ (is ∙ ap (payload_start setup) (sym same))));
}

pub bodies_more : (spots : List Spot) (count : ℕ) (bodies : List (Option CommitBody)) (body : CommitBody) → HasFreeBodies spots count bodies → IsFreeBody (get_or spots count no_spot).payload_size body
    → HasFreeBodies spots (count + 1) (bodies ++ Some body ∷ [])
bodies_more spots count bodies body o free = record {
  count_is = length-append bodies (Some body ∷ []) ∙ (let many = o.count_is in omega arith);
  each = λ chunk below. dite (dec_le (chunk + 1) count)
      (λ less. let old = o.each chunk (omega arith) in (old.0, at_longer bodies (Some body ∷ []) chunk (Some old.0) old.1, old.2))
      (λ last. let same : count ≡ chunk = omega arith in
      (body, at_last bodies (Some body) chunk (o.count_is ∙ same), subst (λ i. IsFreeBody (get_or spots i no_spot).payload_size body) same free));
}

pub few_pages : (producers : List ProducerSpec) → All (λ producer. producer.pages ≤ MAX_PAGES) producers → pages_in producers ≤ 64 * length producers
few_pages [] few = omega arith
few_pages (producer ∷ producers) few =
    let most = All-head (λ (p : ProducerSpec). p.pages ≤ MAX_PAGES) producer producers few in
    let tail = few_pages producers (All-tail (λ (p : ProducerSpec). p.pages ≤ MAX_PAGES) producer producers few) in
    omega (arith, most, tail)

-- ---- the first state

-- what a table of one thread would keep of the chunks
abbrev pub stored_list : List Spot → List (Option CommitBody) → List Stored
stored_list [] bodies = []
stored_list (at ∷ spots) [] = []
stored_list (at ∷ spots) (body ∷ bodies) = record { words = replicate (words_for at.payload_size) 0; body = body } ∷ stored_list spots bodies

stored_count : (spots : List Spot) (bodies : List (Option CommitBody)) → length bodies ≡ length spots → length (stored_list spots bodies) ≡ length spots
stored_count [] bodies same = refl
stored_count (at ∷ spots) [] same = absurd (omega arith)
stored_count (at ∷ spots) (body ∷ bodies) same = ap suc (stored_count spots bodies (omega arith))

stored_here : (spots : List Spot) (bodies : List (Option CommitBody)) (chunk : ℕ) (body : Option CommitBody) → chunk < length spots → At bodies chunk body
    → let slot : Stored = record { words = replicate (words_for (get_or spots chunk no_spot).payload_size) 0; body = body } in stored_at (stored_list spots bodies) chunk ≡ slot
stored_here [] bodies chunk body inside at = absurd (omega arith)
stored_here (one ∷ spots) [] chunk body inside at = absurd (some-ne-none body (sym at))
stored_here (one ∷ spots) (first ∷ bodies) zero body inside at = ap (λ b. let slot : Stored = record { words = replicate (words_for one.payload_size) 0; body = b } in slot) (some-injective first body at)
stored_here (one ∷ spots) (first ∷ bodies) (suc chunk) body inside at = stored_here spots bodies chunk body (omega arith) at

zeros : (n i : ℕ) → let all : List ℕ = replicate n 0 in get_or all i 0 ≡ 0
zeros zero i = refl
zeros (suc n) zero = refl
zeros (suc n) (suc i) = zeros n i

free_list : (setup : Setup) (bodies : List (Option CommitBody)) → HasFreeBodies setup.spots (length setup.spots) bodies → HasFreeSlots setup.spots (length setup.spots) (stored_list setup.spots bodies)
free_list setup bodies o = record {
  count_is = stored_count setup.spots bodies o.count_is;
  each = λ chunk below. let one = o.each chunk below in let here = stored_here setup.spots bodies chunk (Some one.0) below one.1 in
      record { words = ap (λ (s : Stored). s.words) here; body = one.0; body_is = ap (λ (s : Stored). s.body) here; free = one.2 };
}

first_roll : Roll
first_roll = record { seats = λ _. 0; server = 0; hands = λ _. 0; hand = 0; made = 0; joined = 0; stage = Unmade; keeper = 0; passed = newcomer_service; marks = [] }

pub starts_shared : (setup : Setup) (words : List ℕ) (bodies : List (Option CommitBody)) → IsLaid setup → words ≡ replicate (word_total setup) 0 → HasFreeBodies setup.spots (length setup.spots) bodies
    → IsShared setup (opening words bodies (first_of setup))
unfolding first_roll
starts_shared setup words bodies laid zero_ o =
    let slots = stored_list setup.spots bodies in let free = free_list setup bodies o in
    let word : (i : ℕ) → get_or words i 0 ≡ 0 = λ i. ap (λ (l : List ℕ). get_or l i 0) zero_ ∙ zeros (word_total setup) i in
    let fresh : (k : ℕ) → writer (first_world setup) k ≡ newcomer = λ k. all_same newcomer setup.writers k in
    record {
      world = first_world setup;
      front = replicate (front_count setup) 0;
      slots = slots;
      roll = first_roll;
      laid = laid;
      kept = first_kept setup slots free;
      led = led_first setup;
      words = record {
        total = ap (λ (l : List ℕ). length l) zero_ ∙ length-replicate (word_total setup) 0;
        front_is = λ i below. word (front_place i) ∙ sym (zeros (front_count setup) i);
        count = λ chunk below. ap (λ (l : List ℕ). length l) (free.each chunk below).words ∙ length-replicate (payload_words setup chunk) 0;
        payload_is = λ chunk i below under. word (payload_start setup chunk + i) ∙ (sym (zeros (payload_words setup chunk) i) ∙ ap (λ (l : List ℕ). get_or l i 0) (sym (free.each chunk below).words));
      };
      mail = record {
        letters = record {
          known = λ k. subst (λ (v : WriterView). v.letters.known ≤ 0) (sym (fresh k)) (omega arith);
          answers = λ k. subst AreAnswers (sym (fresh k)) (record {
            rising = λ n m one other less at. absurd (some-ne-none one (sym at));
            each = λ n one at. absurd (some-ne-none one (sym at));
          });
          heard = λ n k flush chunks at. absurd (some-ne-none (Heard k flush chunks) (sym at));
        };
        few = omega arith;
        request = word (request_place setup);
        answer = λ k inside. word (answer_place setup k) ∙ ap (λ (v : WriterView). answer_word v.letters.answers) (sym (fresh k));
      };
      bodies = record {
        count = length-map bodies some ∙ o.count_is;
        home_is = λ chunk below in_. let one = o.each chunk below in at_map some bodies chunk (Some one.0) one.1
            ∙ ap (λ (s : Stored). some (some s.body)) (sym (stored_here setup.spots bodies chunk (Some one.0) below one.1));
      };
      manned = record {
        most = omega arith;
        least = omega arith;
        fresh = λ k high. (fresh k, refl);
        seated = λ k low below. absurd (omega arith);
        staffed = (first_desk, Nothing, refl);
        each = first_fits;
        handed = λ k chunk out. absurd (omega arith);
        lifted = λ chunk out. absurd (omega arith);
        goes_on = λ made. absurd made;
        here = λ view is. absurd cc;
      };
    }
  where
    first_fits : (seat : ℕ) (knows : Knows) → At (first_of setup ∷ []) seat knows → Fits setup (first_world setup) first_roll seat knows
    first_fits zero knows at = subst (λ k. Fits setup (first_world setup) first_roll 0 k) (some-injective (first_of setup) knows at)
        (refl, refl, refl, refl, record { count = refl; each = λ place view there. absurd (some-ne-none view (sym there)) }, tt, refl, (λ i tale there. absurd (some-ne-none tale (sym there))), refl)
    first_fits (suc seat) knows at = absurd (some-ne-none knows (sym at))

-- ---- a writer's seat is made

-- each seat is an old one that isn't the service's, the service's, or the new one
pub splits_shared : (setup : Setup) (id made : ℕ) (desk : Desk) (watch : Watch) (v : ServiceView) → made < length setup.writers
    → Splits (IsShared setup) id (Service 0 made desk watch v) (Service 0 (made + 1) desk watch v) (Writer made 0 newcomer)
splits_shared setup id made desk watch v inside s r at =
    let old = Service 0 made desk watch v in let more = Service 0 (made + 1) desk watch v in let one = Writer made 0 newcomer in
    let f = r.manned.each id old at in let world = r.world in
    let seat = length (set s.views id more) in
    let made_is : r.roll.made ≡ made = f.3 in
    let fresh = r.manned.fresh made (omega arith) in
    let in_views = at_inside s.views old id at in
    let roll : Roll = record r.roll { seats = put r.roll.seats made seat; made = made + 1 } in
    let same_in : (chunk : ℕ) → IsIn roll chunk → IsIn r.roll chunk = λ chunk in_now. record { with_none = in_now.with_none; not_service = in_now.not_service } in
    record {
      world = world;
      front = r.front;
      slots = r.slots;
      roll = roll;
      laid = r.laid;
      kept = r.kept;
      led = r.led;
      words = r.words;
      mail = r.mail;
      bodies = record { count = r.bodies.count; home_is = λ chunk below in_now. r.bodies.home_is chunk below (same_in chunk in_now) };
      manned = record {
        most = let many = r.kept.writers in omega arith;
        least = let low = r.manned.least in omega arith;
        fresh = λ k high. r.manned.fresh k (omega arith);
        seated = λ k low below. dite (ℕ_discrete k made)
            (λ same. subst (λ q. At (set s.views id more ++ one ∷ []) (put r.roll.seats made seat q) (Writer q (r.roll.hands q) (writer world q))) (sym same)
            (subst (λ j. At (set s.views id more ++ one ∷ []) j (Writer made (r.roll.hands made) (writer world made))) (sym (put_same r.roll.seats made seat))
            (subst (λ h. At (set s.views id more ++ one ∷ []) seat (Writer made h (writer world made))) (sym fresh.1)
            (subst (λ w. At (set s.views id more ++ one ∷ []) seat (Writer made 0 w)) (sym fresh.0) (at_last (set s.views id more) one seat refl)))))
            (λ differs. let was = r.manned.seated k low (omega arith) in
            let apart : r.roll.seats k ≢ id = λ same. absurd (let clash = at_one s.views (Writer k (r.roll.hands k) (writer world k)) old id (subst (λ j. At s.views j (Writer k (r.roll.hands k) (writer world k))) same was) at in cc) in
            subst (λ j. At (set s.views id more ++ one ∷ []) j (Writer k (r.roll.hands k) (writer world k))) (sym (put_other r.roll.seats made seat k differs))
            (at_longer (set s.views id more) (one ∷ []) (r.roll.seats k) (Writer k (r.roll.hands k) (writer world k)) (set_else s.views id (r.roll.seats k) more apart ∙ was)));
        staffed = (
          desk,
          watch,
          subst (λ j. At (set s.views id more ++ one ∷ []) j (Service r.roll.hand (made + 1) desk watch world.service)) (sym f.1)
              (subst (λ h. At (set s.views id more ++ one ∷ []) id (Service h (made + 1) desk watch world.service)) (sym f.2)
              (subst (λ w. At (set s.views id more ++ one ∷ []) id (Service 0 (made + 1) desk watch w)) f.0
              (at_longer (set s.views id more) (one ∷ []) id more (set_here s.views id more in_views)))),
        );
        each = λ j knows there. ⊎_elim
            (λ before. ⊎_elim
            (λ here. subst (λ i. Fits setup world roll i knows) (sym here.0) (subst (λ k. Fits setup world roll id k) here.1
            (f.0, f.1, f.2, refl, record { count = f.4.count; each = f.4.each }, f.5, f.6, f.7, f.8)))
            (λ other. still_fits setup world r.roll j made seat knows made_is (r.manned.each j knows other.1) (λ same. other.0 (sym same ∙ f.1)))
            (at_set s.views id j more knows before))
            (λ last. subst (λ i. Fits setup world roll i knows) (sym last.0) (subst (λ k. Fits setup world roll seat k) last.1
            (sym fresh.0, put_same r.roll.seats made seat, fresh.1, omega arith, let low = r.manned.least in omega arith)))
            (at_more (set s.views id more) one knows j there);
        handed = r.manned.handed;
        lifted = r.manned.lifted;
        goes_on = r.manned.goes_on;
        here = r.manned.here;
      };
    }
  where
    still_fits : (setup : Setup) (world : World) (roll : Roll) (j made seat : ℕ) (knows : Knows) → roll.made ≡ made → Fits setup world roll j knows → roll.server ≢ j
        → Fits setup world (record roll { seats = put roll.seats made seat; made = made + 1 }) j knows
    still_fits setup world roll j made seat Spent same fits apart = tt
    still_fits setup world roll j made seat (Writer k hand view) same fits apart =
        let below = fits.3 in (fits.0, put_other roll.seats made seat k (λ e. absurd (omega arith)) ∙ fits.1, fits.2, omega arith, fits.4)
    still_fits setup world roll j made seat (Pass view) same fits apart = fits
    still_fits setup world roll j made seat (Report place begun flush) same fits apart = fits
    still_fits setup world roll j made seat (Notice requests) same fits apart = fits
    still_fits setup world roll j made seat (Service hand n desk watch view) same fits apart = absurd (apart fits.1)

-- ---- the seats

pub seats_more : (table : HostTable) (count : ℕ) (seats : List WriterSeat) (seat : WriterSeat) → HasWriterSeats table count seats → seat.place ≡ count → seat.seat.table_id ≡ table.table.shared.table_id
    → seat.seat.me ≡ (Writer count 0 newcomer, []) → count < length table.layout.writers → HasWriterSeats table (count + 1) (seats ++ seat ∷ [])
seats_more table count seats seat o place_is joined me_is inside =
    let view_is : view_of seat.seat.me.0 ≡ newcomer = ap (λ (m : Mine). view_of m.0) me_is in
    let fresh : IsAtRest table.layout count newcomer = subst (IsAtRest table.layout count) (all_same newcomer table.layout.writers count) (first_sits table.layout count inside) in
    let sits : Sits table seat = record {
      joined = joined;
      rests = record {
        idle = me_is ∙ (ap (λ p. let m : Mine = (Writer p 0 newcomer, []) in m) (sym place_is) ∙ ap (λ v. let m : Mine = (Writer seat.place 0 v, []) in m) (sym view_is));
        rests = subst (λ p. IsAtRest table.layout p (view_of seat.seat.me.0)) (sym place_is) (subst (IsAtRest table.layout count) (sym view_is) fresh);
      };
    } in
    record {
      count_is = length-append seats (seat ∷ []) ∙ (let many = o.count_is in omega arith);
      each = λ place other at. ⊎_elim
          (λ old. o.each place other old)
          (λ new. subst (λ (w : WriterSeat). (w.place ≡ place) × Sits table w × (view_of w.seat.me.0 ≡ newcomer)) new.1 (place_is ∙ (sym o.count_is ∙ sym new.0), sits, view_is))
          (at_more seats seat other place at);
    }
