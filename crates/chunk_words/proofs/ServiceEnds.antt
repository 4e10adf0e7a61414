-- The steps of the service's seat on a chunk that it reads, and its notes.
use Rattle.std.proofs.Common.{◌≡◌, ◌≢◌, ℕ, ◌+◌, ◌^◌, ◌<◌, true, false, Option, Some, None, IsSome, IfSome, List, [], ◌∷◌, length, set, get_or, subst, sym, refl, ap, ◌∙◌, arith, bit_and, vec_len}
use Rattle.atomic_table.specs.Table.{Allows, keeps, takes, gives}
use Rattle.page_geometry.specs.PageBits.{HasState, Releases, KeepsOthers}
use Rattle.page_geometry.specs.declared.chunk_state.ChunkState.TheVariants as state
use Rattle.commit_body.specs.declared.body.CommitBody.{CommitBody}
use Rattle.chunk_plain.specs.Setup.{Setup, spot}
use Rattle.chunk_plain.specs.Views.{At, Content, Look, ServiceView, taken_of}
use Rattle.chunk_plain.specs.World.{World, Unclaimed, Reading, status}
use Rattle.chunk_plain.specs.Steps.{learns, lets_go, served, serviced}
use Rattle.chunk_plain.specs.Owned.{times}
use Rattle.chunk_plain.specs.Stored.{stored_at}
use Rattle.chunk_plain.specs.Shows.{page_word}
use Rattle.chunk_plain.specs.Plain.{IsLent, IsKept}
use Rattle.chunk_plain.specs.Words.{AllArrived}
use Rattle.chunk_plain.proofs.KeptWriter.{is_chunk, body_kept}
use Rattle.chunk_plain.proofs.KeptService.{serviced_kept, learn_kept, reading_of, read_chunk, release_kept}
use Rattle.chunk_schedules.specs.Moves.{Move, Learns as LearnsMove, Releases as ReleasesMove, MayMove, behind}
use Rattle.chunk_schedules.proofs.Leading.{led_on}
use Rattle.chunk_words.specs.Knows.{Watch, Desk, Nothing, Lifted, Service, hand_with}
use Rattle.chunk_words.specs.Places.{front_place}
use Rattle.chunk_words.specs.Rule.{Roll, IsIn, IsOf, IsRead, IsMade, IsManned, IsShared}
use Rattle.chunk_words.specs.GoesOn.{GoesOn}
use Rattle.chunk_words.proofs.Passing.{goes_same, goes_learn, goes_free}
use Rattle.chunk_words.specs.Moves.{Serves, Lifts}
use Rattle.chunk_words.proofs.Standing.{words_front, words_body}
use Rattle.chunk_words.proofs.Bodies.{with_service_hand, in_before_service, bodies_out, bodies_back, body_here, body_else}
use Rattle.chunk_words.proofs.MailWords.{mail_apart, mail_loaded, mail_by_service}
use Rattle.chunk_words.proofs.Turns.{served_change, serviced_change, same_service, service_turn}
use Rattle.chunk_words.proofs.WriterMoves.{front_many, page_front, page_is, chunk_inside}
use Rattle.chunk_words.proofs.WriterEnds.{words_loaded}
use Rattle.chunk_words.proofs.ServiceMoves.{no_slot, serviced_allowed}

slot_else : (roll : Roll) (chunk other : ℕ) → roll.hand ≡ hand_with chunk → other ≢ chunk → roll.hand ≢ hand_with other
slot_else roll chunk other held differs same = differs (omega arith)

module _ (setup : Setup) (count id made : ℕ) (desk : Desk) where
  -- the content of the chunk whose slot is out joins the view, and the slot goes back
  pub learns_allowed : (place chunk i index : ℕ) (content : Content) (kept_body : Option CommitBody) (v : ServiceView) → place < length setup.writers
      → (taken_of v place).count ≡ length (taken_of v place).contents + 1 → i ≡ length (taken_of v place).contents
      → Allows (IsShared setup) count id (Service (hand_with chunk) made desk (Lifted chunk place i content) v, (chunk, kept_body) ∷ []) index (λ found. found)
      (λ _. Serves (λ view. learns view place content) (Service (hand_with chunk) made desk (Lifted chunk place i content) v, (chunk, kept_body) ∷ []))
  learns_allowed place chunk i index content kept_body v inside_w last i_is s r deep at small =
      let world = r.world in let f = r.manned.each id (Service (hand_with chunk) made desk (Lifted chunk place i content) v) at in
      let was : status world chunk ≡ Reading place i content = f.5 in
      let inside : chunk < length setup.spots = is_chunk setup world chunk r.kept.shown.chunk_count (λ free. absurd cc) in
      let last' = subst (λ (z : ServiceView). (taken_of z place).count ≡ length (taken_of z place).contents + 1) f.0 last in
      let reading : status world chunk ≡ Reading place (length (taken_of world.service place).contents) content
      = was ∙ ap (λ j. Reading place j content) (i_is ∙ ap (λ (z : ServiceView). length (taken_of z place).contents) f.0) in
      let slots = set r.slots chunk (record (stored_at r.slots chunk) { body = kept_body }) in
      let deep_slots : length r.slots ≡ length setup.spots = r.kept.shown.slot_count in
      let kept = body_kept setup r.front r.slots world chunk kept_body r.laid r.kept (subst IsLent (sym was) tt) in
      let view = learns world.service place content in let next = serviced world view in
      let kept' = learn_kept setup r.front slots world place chunk content kept inside_w last' reading in
      let w_inside : place < length world.writers = let many = r.kept.writers in omega arith in
      let completed = ((r.kept.owned.owns place chunk).reading_is (length (taken_of world.service place).contents) content reading).0 in
      let roll = with_service_hand r.roll 0 in
      let turn = service_turn setup world next r.roll s.views id (hand_with chunk) 0 made desk (Lifted chunk place i content) Nothing v view r.manned at (serviced_change world view (omega arith))
      (λ _. goes_learn world.service place content) (λ i tale there true_. true_.1) (λ d e. absurd (omega arith)) tt in (
        Service 0 made desk Nothing (learns v place content),
        gives,
        tt,
        record {
          world = next;
          front = r.front;
          slots = slots;
          roll = roll;
          laid = r.laid;
          kept = kept';
          led = led_on setup r.roll.marks world next (LearnsMove place chunk content) r.led (w_inside, record { taken = omega arith; completed = completed }) refl;
          words = words_body setup (set s.words index (get_or s.words index 0)) r.front r.slots chunk kept_body inside deep_slots (words_loaded setup s.words r.front r.slots index r.words);
          mail = mail_by_service setup world next (set s.words index (get_or s.words index 0)) refl refl (mail_loaded setup world s.words index r.mail);
          bodies = bodies_back setup s.homes r.slots slots r.roll roll chunk kept_body r.bodies inside (body_here r.slots chunk kept_body (omega arith))
              (λ d differs. body_else r.slots chunk d kept_body differs)
              (λ d differs. in_before_service r.roll 0 d (slot_else r.roll chunk d f.2 differs));
          manned = subst (λ z. IsManned setup next roll (set s.views id (Service 0 made desk Nothing (learns z place content)))) (sym f.0) turn;
        },
        record { new_is = refl; seen = ∣ (next, kept'.owned, ap (λ z. learns z place content) (sym f.0)) ∣₁ },
      )

  -- ---- release: the slot comes out, then the state is set

  pub lifts_allowed : (chunk index : ℕ) (watch : Watch) (v : ServiceView) → 0 < times chunk v.reading
      → Allows (IsShared setup) count id (Service 0 made desk watch v, []) index (λ found. found) (λ _. Lifts setup chunk (Service 0 made desk watch v, []))
  lifts_allowed chunk index watch v reads s r deep at small =
      let world = r.world in let f = r.manned.each id (Service 0 made desk watch v) at in
      let reads' = subst (λ (z : ServiceView). 0 < times chunk z.reading) f.0 reads in
      let was = reading_of world chunk r.kept.owned reads' in
      let inside = read_chunk setup r.front r.slots world chunk r.kept reads' in
      let in_ : IsIn r.roll chunk = record {
        with_none = λ other out. absurd (subst (IsOf other) was.3 (r.manned.handed other chunk out));
        not_service = no_slot r.roll chunk f.2;
      } in
      let roll = with_service_hand r.roll (hand_with chunk) in
      let turn = service_turn setup world world r.roll s.views id 0 (hand_with chunk) made desk watch Nothing v world.service r.manned at
      (same_service world) (λ _. goes_same world.service) (λ i tale there true_. true_.1)
      (λ d e. let same : chunk ≡ d = omega arith in subst (λ c. IsRead (status world c)) same (subst IsRead (sym was.3) tt)) tt in (
        Service (hand_with chunk) made desk Nothing v,
        takes chunk (stored_at r.slots chunk).body,
        r.bodies.home_is chunk inside in_,
        record {
          world = world;
          front = r.front;
          slots = r.slots;
          roll = roll;
          laid = r.laid;
          kept = r.kept;
          led = r.led;
          words = words_loaded setup s.words r.front r.slots index r.words;
          mail = mail_loaded setup world s.words index r.mail;
          bodies = bodies_out setup s.homes r.slots r.roll roll chunk r.bodies (λ in_now. in_now.not_service refl)
              (λ d _. in_before_service r.roll (hand_with chunk) d (no_slot r.roll d f.2));
          manned = subst (λ z. IsManned setup world roll (set s.views id (Service (hand_with chunk) made desk Nothing z))) (sym f.0) turn;
        },
        record { inside = inside; body = (stored_at r.slots chunk).body; new_is = refl },
      )

  pub releases_allowed : (chunk mask : ℕ) (body : CommitBody) (watch : Watch) (v : ServiceView) → 0 < times chunk v.reading → AllArrived v
      → vec_len body.payload ≡ (spot setup chunk).payload_size
      → ((found : ℕ) → found < 2 ^ 64 → HasState found (spot setup chunk).place state.BeingRead → Releases found (bit_and found mask) (spot setup chunk).place)
      → ((found : ℕ) → KeepsOthers found (bit_and found mask) (spot setup chunk).place)
      → Allows (IsShared setup) count id (Service (hand_with chunk) made desk watch v, (chunk, Some body) ∷ []) (front_place (spot setup chunk).page) (λ found. bit_and found mask)
      (λ _. Serves (λ view. lets_go view chunk) (Service (hand_with chunk) made desk watch v, (chunk, Some body) ∷ []))
  releases_allowed chunk mask body watch v reads all size sets keep s r deep at small =
      let at_ = spot setup chunk in let found = get_or s.words (front_place at_.page) 0 in let new = bit_and found mask in
      let world = r.world in let f = r.manned.each id (Service (hand_with chunk) made desk watch v) at in
      let reads' = subst (λ (z : ServiceView). 0 < times chunk z.reading) f.0 reads in
      let was = reading_of world chunk r.kept.owned reads' in
      let inside = read_chunk setup r.front r.slots world chunk r.kept reads' in
      let is = page_is setup s r chunk inside in let c_inside = chunk_inside setup s r chunk inside in
      let slots = set r.slots chunk (record (stored_at r.slots chunk) { body = Some body }) in
      let deep_slots : length r.slots ≡ length setup.spots = r.kept.shown.slot_count in
      let here = body_here r.slots chunk (Some body) (omega arith) in
      let kept = body_kept setup r.front r.slots world chunk (Some body) r.laid r.kept (subst IsLent (sym was.3) tt) in
      let taken = ((r.kept.owned.owns was.0 chunk).reading_is was.1 was.2 was.3).1 in
      let arrived = subst AllArrived f.0 all was.0 was.1 taken in
      let view = lets_go world.service chunk in let next = served world view chunk Unclaimed in
      let small_page : page_word setup r.front chunk < 2 ^ 64 = subst (λ w. w < 2 ^ 64) is small in
      let kept' = subst (λ w. IsKept setup (set r.front at_.page (bit_and w mask)) slots next) (sym is)
      (release_kept setup r.front slots world chunk (bit_and (page_word setup r.front chunk) mask) body r.laid kept reads' here (record { whole = size })
      (sets (page_word setup r.front chunk) small_page) (keep (page_word setup r.front chunk))) in
      let front = set r.front at_.page new in
      let roll = with_service_hand r.roll 0 in
      let turn = service_turn setup world next r.roll s.views id (hand_with chunk) 0 made desk watch Nothing v view r.manned at
      (served_change world chunk view Unclaimed c_inside (λ other has. absurd (subst (IsOf other) was.3 has)) (omega arith)) (λ _. goes_free world.service chunk) (λ i tale there true_. true_.1) (λ d e. absurd (omega arith)) tt in (
        Service 0 made desk Nothing (lets_go v chunk),
        gives,
        tt,
        record {
          world = next;
          front = front;
          slots = slots;
          roll = roll;
          laid = r.laid;
          kept = kept';
          led = led_on setup r.roll.marks world next (ReleasesMove chunk) r.led
              (c_inside, record { place = was.0; position = was.1; content = was.2; reading = was.3; arrived = arrived }) refl;
          words = words_front setup s.words r.front slots at_.page new (page_front setup s r chunk inside) (front_many setup s r)
              (words_body setup s.words r.front r.slots chunk (Some body) inside deep_slots r.words);
          mail = mail_by_service setup world next (set s.words (front_place at_.page) new) refl refl
              (mail_apart setup world s.words (front_place at_.page) new (let low = page_front setup s r chunk inside in omega (arith, low)) r.mail);
          bodies = bodies_back setup s.homes r.slots slots r.roll roll chunk (Some body) r.bodies inside here
              (λ d differs. body_else r.slots chunk d (Some body) differs)
              (λ d differs. in_before_service r.roll 0 d (slot_else r.roll chunk d f.2 differs));
          manned = subst (λ z. IsManned setup next roll (set s.views id (Service 0 made desk Nothing (lets_go z chunk)))) (sym f.0) turn;
        },
        record { new_is = refl; seen = ∣ (next, kept'.owned, ap (λ z. lets_go z chunk) (sym f.0)) ∣₁ },
      )

  -- the same for whatever is in the slot
  pub releases_by : (chunk mask : ℕ) (kept : Option CommitBody) (watch : Watch) (v : ServiceView) → IsSome kept → 0 < times chunk v.reading → AllArrived v
      → IfSome kept (λ body. vec_len body.payload ≡ (spot setup chunk).payload_size)
      → ((found : ℕ) → found < 2 ^ 64 → HasState found (spot setup chunk).place state.BeingRead → Releases found (bit_and found mask) (spot setup chunk).place)
      → ((found : ℕ) → KeepsOthers found (bit_and found mask) (spot setup chunk).place)
      → Allows (IsShared setup) count id (Service (hand_with chunk) made desk watch v, (chunk, kept) ∷ []) (front_place (spot setup chunk).page) (λ found. bit_and found mask)
      (λ _. Serves (λ view. lets_go view chunk) (Service (hand_with chunk) made desk watch v, (chunk, kept) ∷ []))
  releases_by chunk mask None watch v there reads all size sets keep = absurd (let no_ : false ≡ true = there in cc)
  releases_by chunk mask (Some body) watch v there reads all size sets keep = releases_allowed chunk mask body watch v reads all size sets keep

  -- ---- notes

  pub notes_allowed : (index : ℕ) (step : ServiceView → ServiceView) (watch : Watch) (v : ServiceView)
      → ((view : ServiceView) → (step view).looks ≡ view.looks) → ((view : ServiceView) → (step view).taken ≡ view.taken) → ((view : ServiceView) → (step view).reading ≡ view.reading)
      → ((view : ServiceView) → (step view).letters ≡ view.letters)
      → ((view : ServiceView) → IsMade desk.stage → GoesOn view (step view))
      → ((world : World) → v ≡ world.service → (move : Move) × MayMove setup world move × (behind world move ≡ serviced world (step world.service)))
      → Allows (IsShared setup) count id (Service 0 made desk watch v, []) index (λ found. found) (λ _. Serves step (Service 0 made desk watch v, []))
  notes_allowed index step watch v looks taken reading letters goes moves s r deep at small =
      let f = r.manned.each id (Service 0 made desk watch v) at in
      let view = step r.world.service in
      let kept = serviced_kept setup r.front r.slots r.world view r.kept (looks r.world.service) (taken r.world.service) (reading r.world.service) in (
        Service 0 made desk Nothing (step v),
        keeps,
        tt,
        subst (λ z. IsShared setup (record { words = set s.words index (get_or s.words index 0); homes = s.homes; views = set s.views id (Service 0 made desk Nothing (step z)) })) (sym f.0)
            (serviced_allowed setup s r id index made desk watch Nothing v view at kept (goes r.world.service)
            (λ i tale there true_ n position look content since at_look. true_.1 n position look content since (subst (λ (l : List Look). At l n look) (looks r.world.service) at_look)) tt
            (let one = moves r.world f.0 in led_on setup r.roll.marks r.world (serviced r.world view) one.0 r.led one.1 one.2) (letters r.world.service)),
        record { new_is = refl; seen = ∣ (serviced r.world view, kept.owned, ap step (sym f.0)) ∣₁ },
      )
