-- Each step of the service's seat on a chunk that it doesn't have keeps the rule, and tells what it finds.
use Rattle.std.proofs.Common.{◌≡◌, ◌≢◌, ℕ, ◌+◌, ◌^◌, ◌<◌, ◌≤◌, Option, Some, None, List, [], length, set, get_or, subst, sym, refl, ap, ◌∙◌, arith, bit_and}
use Rattle.std.proofs.lemmas.List.{get_or-set_same}
use Rattle.atomic_table.specs.Table.{Allows, keeps, takes}
use Rattle.page_geometry.specs.Header.{packed, unpacked}
use Rattle.page_geometry.specs.PageBits.{HasState, SetsState, KeepsOthers}
use Rattle.page_geometry.specs.declared.chunk_header.ChunkHeader.{ChunkHeader}
use Rattle.page_geometry.specs.declared.chunk_state.ChunkState.TheVariants as state
use Rattle.commit_body.specs.declared.body.CommitBody.{CommitBody}
use Rattle.chunk_plain.specs.Setup.{Setup, spot, from_of, id_at}
use Rattle.chunk_plain.specs.Views.{At, Head, Content, asked_in, ServiceView, taken_of}
use Rattle.chunk_plain.specs.World.{World, Status, Unclaimed, Ready, Reading, status}
use Rattle.chunk_plain.specs.Steps.{looks_at, takes_in, served, serviced}
use Rattle.chunk_plain.specs.Drafts.{head_of}
use Rattle.chunk_plain.specs.Stored.{Stored, stored_at}
use Rattle.chunk_plain.specs.Shows.{state_of, ShowsPage, ShowsHeader, ShowsSlot, IsHeader, page_word, header_word}
use Rattle.chunk_plain.specs.Words.{FindsWritten}
use Rattle.chunk_plain.specs.Plain.{read_as, IsKept}
use Rattle.chunk_plain.proofs.Owned.{looks_owned}
use Rattle.chunk_plain.proofs.KeptService.{serviced_shown, header_reads, take_kept}
use Rattle.chunk_schedules.specs.Moves.{Looks as LooksMove, Takes as TakesMove, MayLook, SaysUse}
use Rattle.chunk_schedules.specs.Schedules.{IsLed}
use Rattle.chunk_schedules.proofs.Leading.{led_on}
use Rattle.chunk_words.specs.Knows.{Watch, Tale, Desk, Nothing, Peeked, Known, Lifted, Service, hand_with}
use Rattle.chunk_words.specs.Places.{front_place, payload_start, payload_words}
use Rattle.chunk_words.specs.Rule.{Roll, IsIn, IsOf, IsRead, IsCompleteChunk, IsWatched, HasHeader, IsMade, IsTrue, IsManned, IsShared}
use Rattle.chunk_words.specs.GoesOn.{GoesOn}
use Rattle.chunk_words.specs.Told.{ShowsTold, TellsComplete}
use Rattle.chunk_words.proofs.Telling.{told_ready, look_shows}
use Rattle.chunk_words.proofs.Passing.{goes_same, goes_further, goes_look, goes_take}
use Rattle.chunk_words.specs.Moves.{Mine, IsSeen, Peeks, ReadsHeader, Recalls, Looks, Misses, Takes, Loads}
use Rattle.chunk_words.proofs.Standing.{words_front}
use Rattle.chunk_words.proofs.Bodies.{with_service_hand, in_before_service, bodies_stay, bodies_out}
use Rattle.chunk_words.proofs.MailWords.{mail_apart, mail_loaded, mail_by_service}
use Rattle.chunk_words.proofs.Turns.{served_change, serviced_change, same_service, service_turn}
use Rattle.chunk_words.proofs.WriterMoves.{Table, front_many, page_front, page_is, chunk_inside}
use Rattle.chunk_words.proofs.WriterEnds.{words_loaded}
use Rattle.chunk_words.proofs.ServiceFinds.{Finds, stays_found, finds_by, packed_back, says_use, watch_on, watch_on_true, tells_of}
use Rattle.trace_base.proofs.IdLemmas.{same_position}

pub header_is : (setup : Setup) (s : Table) (r : IsShared setup s) (chunk : ℕ) → chunk < length setup.spots → get_or s.words (front_place (setup.pages + chunk)) 0 ≡ header_word setup r.front chunk
header_is setup s r chunk inside = r.words.front_is (setup.pages + chunk) (omega arith)

-- a service's hand that is empty has no slot
pub no_slot : (roll : Roll) (chunk : ℕ) → roll.hand ≡ 0 → roll.hand ≢ hand_with chunk
no_slot roll chunk none same = absurd (omega arith)

pub same_hand : (roll : Roll) (hand chunk : ℕ) → roll.hand ≡ hand → IsIn (with_service_hand roll hand) chunk → IsIn roll chunk
same_hand roll hand chunk same in_now = record { with_none = in_now.with_none; not_service = λ e. in_now.not_service (sym same ∙ e) }

-- A step that reads a word and changes what the service sees and watches, and no chunk.
pub serviced_allowed : (setup : Setup) (s : Table) (r : IsShared setup s) (id index made : ℕ) (desk : Desk) (watch seen : Watch) (v view : ServiceView)
    → At s.views id (Service 0 made desk watch v) → IsKept setup r.front r.slots (serviced r.world view) → (IsMade desk.stage → GoesOn r.world.service view)
    → ((i : ℕ) (tale : Tale) → At desk.told i tale → IsTrue setup r.world tale → ShowsTold setup view tale)
    → IsWatched setup (serviced r.world view) seen → IsLed setup r.roll.marks (serviced r.world view) → view.letters ≡ r.world.service.letters
    → IsShared setup (record { words = set s.words index (get_or s.words index 0); homes = s.homes; views = set s.views id (Service 0 made desk seen view) })
serviced_allowed setup s r id index made desk watch seen v view at kept goes shows watched led same =
    let f = r.manned.each id (Service 0 made desk watch v) at in let is = ap asked_in same in
    record {
      world = serviced r.world view;
      front = r.front;
      slots = r.slots;
      roll = with_service_hand r.roll 0;
      laid = r.laid;
      kept = kept;
      led = led;
      words = words_loaded setup s.words r.front r.slots index r.words;
      mail = mail_by_service setup r.world (serviced r.world view) (set s.words index (get_or s.words index 0)) same refl (mail_loaded setup r.world s.words index r.mail);
      bodies = bodies_stay setup s.homes r.slots r.slots r.roll (with_service_hand r.roll 0) r.bodies (λ d. refl) (λ d. same_hand r.roll 0 d f.2);
      manned = service_turn setup r.world (serviced r.world view) r.roll s.views id 0 0 made desk watch seen v view r.manned at (serviced_change r.world view (omega (arith, is))) goes shows (λ d e. absurd (omega arith)) watched;
    }

-- what the service sees is part of the world as it is owned now
seen_now : (setup : Setup) (front : List ℕ) (slots : List Stored) (world : World) (view : ServiceView) → IsKept setup front slots world → world.service ≡ view → IsSeen view
seen_now setup front slots world view kept same = ∣ (world, kept.owned, same) ∣₁

module _ (setup : Setup) (count id made : ℕ) (desk : Desk) where
  -- ---- look

  pub peeks_allowed : (chunk : ℕ) (watch : Watch) (v : ServiceView) → chunk < length setup.spots
      → Allows (IsShared setup) count id (Service 0 made desk watch v, []) (front_place (spot setup chunk).page) (λ found. found)
      (Peeks setup chunk (Service 0 made desk watch v, []))
  peeks_allowed chunk watch v inside s r deep at small =
      let f = r.manned.each id (Service 0 made desk watch v) at in
      let found = get_or s.words (front_place (spot setup chunk).page) 0 in
      let state = subst (λ w. HasState w (spot setup chunk).place (state_of (status r.world chunk))) (sym (page_is setup s r chunk inside)) (r.kept.shown.page chunk inside).state in
      let seen = Peeked chunk found in (
        Service 0 made desk seen v,
        keeps,
        tt,
        subst (λ z. IsShared setup (record { words = set s.words (front_place (spot setup chunk).page) found; homes = s.homes; views = set s.views id (Service 0 made desk seen z) })) (sym f.0)
            (serviced_allowed setup s r id (front_place (spot setup chunk).page) made desk watch seen v r.world.service at r.kept (λ _. goes_same r.world.service) (λ i tale there true_. true_.1) (stays_found found (spot setup chunk).place (status r.world chunk) state) r.led refl),
        record {
          seen = ∣ record {
            world = r.world;
            may_be = record { writers = r.kept.writers; chunks = r.kept.shown.chunk_count; owned = r.kept.owned; own = r.kept.own };
            view_is = sym f.0;
            shows = subst (λ w. ShowsPage setup r.world (spot setup chunk) w (status r.world chunk)) (sym (page_is setup s r chunk inside)) (r.kept.shown.page chunk inside);
          } ∣₁;
          new_is = refl;
          told = λ i position tale content there begun untaken.
              let ready = told_ready setup r.world tale position chunk content r.kept.owned (f.7 i tale there) begun (subst (λ (z : ServiceView). (taken_of z tale.place).count ≤ position) f.0 untaken) in
              subst (λ t. HasState found (spot setup chunk).place (state_of t)) ready state;
        },
      )

  pub finds_allowed : (chunk word : ℕ) (v : ServiceView) → chunk < length setup.spots → TellsComplete setup chunk word v desk
      → Allows (IsShared setup) count id (Service 0 made desk (Peeked chunk word) v, []) (front_place (setup.pages + chunk)) (λ found. found)
      (Looks setup chunk word (Service 0 made desk (Peeked chunk word) v, []))
  finds_allowed chunk word v inside told s r deep at small =
      let watch = Peeked chunk word in
      let f = r.manned.each id (Service 0 made desk watch v) at in
      let header = get_or s.words (front_place (setup.pages + chunk)) 0 in let is = header_is setup s r chunk inside in
      let finds = finds_by setup r.front r.slots r.world chunk word r.laid r.kept inside f.5 in
      let view = looks_at r.world.service chunk word (packed (unpacked header)) finds.found in
      let kept = serviced_shown setup r.front r.slots r.world view r.kept (looks_owned r.world chunk word (packed (unpacked header)) finds.found r.kept.owned finds.there) in (
        Service 0 made desk Nothing view,
        keeps,
        tt,
        serviced_allowed setup s r id (front_place (setup.pages + chunk)) made desk watch Nothing v view at kept (λ _. goes_look r.world.service chunk word (packed (unpacked header)) finds.found)
            (look_shows setup r.world desk chunk word (packed (unpacked header)) finds.found r.kept.owned (λ i position tale content there begun untaken ready.
            let shows : IsHeader setup header tale.place position (head_of content)
            = subst (λ w. IsHeader setup w tale.place position (head_of content)) (sym is) (subst (λ t. ShowsHeader setup (header_word setup r.front chunk) t) ready (r.kept.shown.header chunk inside)) in (
              told i position tale content there begun (subst (λ (z : ServiceView). (taken_of z tale.place).count ≤ position) (sym f.0) untaken),
              (head_of content, subst (λ w. IsHeader setup w tale.place position (head_of content)) (sym (packed_back setup header tale.place position (head_of content) shows)) shows),
            ))) tt
            (led_on setup r.roll.marks r.world (serviced r.world view) (LooksMove chunk word (packed (unpacked header)) finds.found) r.led (may_look finds) refl) refl,
        record {
          peeked = refl;
          found = finds.found;
          finds = subst (λ (z : ServiceView). FindsWritten setup chunk word (unpacked header) z finds.found) (sym f.0)
              (subst (λ h. FindsWritten setup chunk word (unpacked h) r.world.service finds.found) (sym is) finds.says);
          serves = record {
            new_is = ap (λ (z : ServiceView). let m : Mine = (Service 0 made desk Nothing (looks_at z chunk word (packed (unpacked header)) finds.found), []) in m) (sym f.0);
            seen = subst (λ (z : ServiceView). IsSeen (looks_at z chunk word (packed (unpacked header)) finds.found)) (sym f.0)
                (seen_now setup r.front r.slots (serviced r.world view) view kept refl);
          };
        },
      )
    where
      may_look : (finds : Finds setup r.world chunk word (header_word setup r.front chunk))
          → MayLook setup r.world chunk word (packed (unpacked (get_or s.words (front_place (setup.pages + chunk)) 0))) finds.found
      may_look finds =
          subst (λ (w : ℕ). MayLook setup r.world chunk word (packed (unpacked w)) finds.found) (sym (header_is setup s r chunk inside)) (record {
            there = finds.there;
            used = says_use setup (header_word setup r.front chunk) (status r.world chunk) (r.kept.shown.header chunk inside);
            says = finds.written;
          })

  -- ---- what was told, compared with the looks

  pub recalls_allowed : (index : ℕ) (watch : Watch) (v : ServiceView)
      → Allows (IsShared setup) count id (Service 0 made desk watch v, []) index (λ found. found) (λ _. Recalls setup (Service 0 made desk watch v, []))
  recalls_allowed index watch v s r deep at small =
      let f = r.manned.each id (Service 0 made desk watch v) at in (
        Service 0 made desk Nothing v,
        keeps,
        tt,
        subst (λ z. IsShared setup (record { words = set s.words index (get_or s.words index 0); homes = s.homes; views = set s.views id (Service 0 made desk Nothing z) })) (sym f.0)
            (serviced_allowed setup s r id index made desk watch Nothing v r.world.service at r.kept (λ _. goes_same r.world.service) (λ i tale there true_. true_.1) tt r.led refl),
        record {
          new_is = refl;
          shown = λ i tale there. subst (λ (z : ServiceView). ShowsTold setup z tale) (sym f.0) (f.7 i tale there).1;
        },
      )

  -- ---- take: the header of a complete chunk, then the state

  pub knows_allowed : (chunk word : ℕ) (v : ServiceView) → chunk < length setup.spots → HasState word (spot setup chunk).place state.Complete
      → Allows (IsShared setup) count id (Service 0 made desk (Peeked chunk word) v, []) (front_place (setup.pages + chunk)) (λ found. found)
      (ReadsHeader chunk word (Service 0 made desk (Peeked chunk word) v, []))
  knows_allowed chunk word v inside complete s r deep at small =
      let f = r.manned.each id (Service 0 made desk (Peeked chunk word) v) at in
      let header = get_or s.words (front_place (setup.pages + chunk)) 0 in
      let shows = subst (λ w. ShowsHeader setup w (status r.world chunk)) (sym (header_is setup s r chunk inside)) (r.kept.shown.header chunk inside) in (
        Service 0 made desk (Known chunk word header) v,
        keeps,
        tt,
        subst (λ z. IsShared setup (record { words = set s.words (front_place (setup.pages + chunk)) header; homes = s.homes; views = set s.views id (Service 0 made desk (Known chunk word header) z) })) (sym f.0)
            (serviced_allowed setup s r id (front_place (setup.pages + chunk)) made desk (Peeked chunk word) (Known chunk word header) v r.world.service at r.kept (λ _. goes_same r.world.service) (λ i tale there true_. true_.1) (full_header header (status r.world chunk) (f.5.complete complete) shows) r.led refl),
        record { peeked = refl; new_is = refl },
      )
    where
      full_header : (header : ℕ) (is : Status) → IsCompleteChunk is → ShowsHeader setup header is → HasHeader setup header is
      full_header header (Ready place position content) full shows = shows
      full_header header Unclaimed full shows = absurd full
      full_header header (Rattle.chunk_plain.specs.World.Claimed k) full shows = absurd full
      full_header header (Rattle.chunk_plain.specs.World.Stamped k i) full shows = absurd full
      full_header header (Rattle.chunk_plain.specs.World.Writing k i d) full shows = absurd full
      full_header header (Reading k i m) full shows = absurd full

  pub misses_allowed : (chunk word : ℕ) (header : ChunkHeader) (index : ℕ) (v : ServiceView) → HasState word (spot setup chunk).place state.Complete
      → Allows (IsShared setup) count id (Service 0 made desk (Known chunk word (packed header)) v, []) index (λ found. found)
      (λ _. Misses chunk word header (Service 0 made desk (Known chunk word (packed header)) v, []))
  misses_allowed chunk word header index v complete s r deep at small =
      let watch = Known chunk word (packed header) in let f = r.manned.each id (Service 0 made desk watch v) at in
      let view = looks_at r.world.service chunk word (packed header) None in
      let kept = serviced_shown setup r.front r.slots r.world view r.kept (looks_owned r.world chunk word (packed header) None r.kept.owned (λ one e. absurd cc)) in (
        Service 0 made desk Nothing (looks_at v chunk word (packed header) None),
        keeps,
        tt,
        subst (λ z. IsShared setup (record { words = set s.words index (get_or s.words index 0); homes = s.homes; views = set s.views id (Service 0 made desk Nothing (looks_at z chunk word (packed header) None)) })) (sym f.0)
            (serviced_allowed setup s r id index made desk watch Nothing v view at kept (λ _. goes_look r.world.service chunk word (packed header) None)
            (look_shows setup r.world desk chunk word (packed header) None r.kept.owned (λ i position tale content there begun untaken ready.
            (complete, (head_of content, subst (λ t. HasHeader setup (packed header) t) ready f.5)))) tt
            (led_on setup r.roll.marks r.world (serviced r.world view) (LooksMove chunk word (packed header) None) r.led (record {
              there = λ one e. absurd cc;
              used = used_by (status r.world chunk) f.5;
              says = λ one e. absurd cc;
            }) refl) refl),
        record { known = refl; serves = record { new_is = refl; seen = seen_now setup r.front r.slots (serviced r.world view) (looks_at v chunk word (packed header) None) kept (ap (λ z. looks_at z chunk word (packed header) None) (sym f.0)) } },
      )
    where
      used_by : (is : Status) → HasHeader setup (packed header) is → SaysUse setup (packed header) is
      used_by (Ready place position content) has = has.word_is
      used_by Unclaimed has = absurd has
      used_by (Rattle.chunk_plain.specs.World.Claimed k) has = absurd has
      used_by (Rattle.chunk_plain.specs.World.Stamped k i) has = absurd has
      used_by (Rattle.chunk_plain.specs.World.Writing k i d) has = absurd has
      used_by (Reading k i m) has = absurd has

  -- the status of a chunk that is known to be complete
  pub record IsKnown (world : World) (chunk header : ℕ) : Type 0 where
    pub place : ℕ
    pub position : ℕ
    pub content : Content
    pub ready : status world chunk ≡ Ready place position content
    pub header_is : IsHeader setup header place position (head_of content)

  shown_by : (header : ℕ) (is : Status) → HasHeader setup header is → ShowsHeader setup header is
  shown_by header (Ready place position content) has = has
  shown_by header Unclaimed has = absurd has
  shown_by header (Rattle.chunk_plain.specs.World.Claimed k) has = absurd has
  shown_by header (Rattle.chunk_plain.specs.World.Stamped k i) has = absurd has
  shown_by header (Rattle.chunk_plain.specs.World.Writing k i d) has = absurd has
  shown_by header (Reading k i m) has = absurd has

  known_by : (world : World) (chunk header : ℕ) (is : Status) → status world chunk ≡ is → HasHeader setup header is → IsKnown world chunk header
  known_by world chunk header (Ready place position content) was has = record { place = place; position = position; content = content; ready = was; header_is = has }
  known_by world chunk header Unclaimed was has = absurd has
  known_by world chunk header (Rattle.chunk_plain.specs.World.Claimed k) was has = absurd has
  known_by world chunk header (Rattle.chunk_plain.specs.World.Stamped k i) was has = absurd has
  known_by world chunk header (Rattle.chunk_plain.specs.World.Writing k i d) was has = absurd has
  known_by world chunk header (Reading k i m) was has = absurd has

  -- it is at the next position of its writer, where its header has that position's id
  known_next : (world : World) (chunk header place next : ℕ) (known : IsKnown world chunk header) → known.place ≡ place → next ≤ known.position
      → (unpacked header).chunk_id ≡ id_at setup place next → known.position ≡ next
  known_next world chunk header place next known same above id_is =
      let reads = header_reads setup header known.place known.position (head_of known.content) known.header_is in
      let fits : known.position < 2 ^ 32 = known.header_is.position_fits in
      let ids : id_at setup place known.position ≡ id_at setup place next =
      ap (λ p. id_at setup p known.position) (sym same) ∙ (sym (ap (λ (h : ChunkHeader). h.chunk_id) reads) ∙ id_is) in
      same_position (from_of setup place) known.position next fits (omega (arith, above, fits)) ids

  pub takes_allowed : (place chunk word header mask : ℕ) (v : ServiceView) → chunk < length setup.spots → place < length setup.writers → v.reading ≡ []
      → HasState word (spot setup chunk).place state.Complete → (unpacked header).writer_id ≡ place + 1 → (unpacked header).chunk_id ≡ id_at setup place (taken_of v place).count
      → ((found : ℕ) → found < 2 ^ 64 → HasState found (spot setup chunk).place state.Complete → SetsState found (bit_and found mask) (spot setup chunk).place state.BeingRead)
      → ((found : ℕ) → KeepsOthers found (bit_and found mask) (spot setup chunk).place)
      → Allows (IsShared setup) count id (Service 0 made desk (Known chunk word header) v, []) (front_place (spot setup chunk).page) (λ found. bit_and found mask)
      (λ _. Takes setup place chunk (spot setup chunk).payload_size word (unpacked header) (Service 0 made desk (Known chunk word header) v, []))
  takes_allowed place chunk word header mask v inside inside_w none complete writer_is id_is sets keep s r deep at small =
      let at_ = spot setup chunk in let found = get_or s.words (front_place at_.page) 0 in let new = bit_and found mask in
      let world = r.world in let f = r.manned.each id (Service 0 made desk (Known chunk word header) v) at in
      let is = page_is setup s r chunk inside in let c_inside = chunk_inside setup s r chunk inside in
      let w_inside : place < length world.writers = let many = r.kept.writers in omega arith in
      let known = known_by world chunk header (status world chunk) refl f.5 in let content = known.content in
      let reads = header_reads setup header known.place known.position (head_of content) known.header_is in
      let same_writer : known.place ≡ place = let one = ap (λ (h : ChunkHeader). h.writer_id) reads in omega arith in
      let n = (taken_of world.service place).count in
      let here : status world chunk ≡ Ready place known.position content = known.ready ∙ ap (λ p. Ready p known.position content) same_writer in
      let above : n ≤ known.position = ((r.kept.owned.owns place chunk).ready_is known.position content here).1 in
      let is_next = known_next world chunk header place n known same_writer above (id_is ∙ ap (λ (z : ServiceView). id_at setup place (taken_of z place).count) f.0) in
      let ready : status world chunk ≡ Ready place n content = here ∙ ap (λ i. Ready place i content) is_next in
      let view = takes_in (looks_at world.service chunk word (packed (unpacked header)) None) place chunk in
      let to = Reading place n content in let next = served world view chunk to in
      let now : status next chunk ≡ to = get_or-set_same world.chunks chunk to Unclaimed c_inside in
      let small_page : page_word setup r.front chunk < 2 ^ 64 = subst (λ w. w < 2 ^ 64) is small in
      let kept = subst (λ w. IsKept setup (set r.front at_.page (bit_and w mask)) r.slots next) (sym is)
      (take_kept setup r.front r.slots world place chunk word (packed (unpacked header)) (bit_and (page_word setup r.front chunk) mask) content r.laid r.kept inside_w inside ready
      (sets (page_word setup r.front chunk) small_page) (keep (page_word setup r.front chunk))) in
      let slot : ShowsSlot setup at_.payload_size (Ready place n content) (stored_at r.slots chunk) = subst (λ t. ShowsSlot setup at_.payload_size t (stored_at r.slots chunk)) ready (r.kept.shown.slot chunk inside) in
      let in_ : IsIn r.roll chunk = record {
        with_none = λ other out. absurd (subst (IsOf other) ready (r.manned.handed other chunk out));
        not_service = no_slot r.roll chunk f.2;
      } in
      let home = r.bodies.home_is chunk inside in_ ∙ ap (λ (b : Option CommitBody). mathlib.Core.Option.some (mathlib.Core.Option.some b)) slot.body.1 in
      let roll = with_service_hand r.roll (hand_with chunk) in
      let i = (taken_of v place).count in
      let i_is : i ≡ n = ap (λ (z : ServiceView). (taken_of z place).count) f.0 in
      let turn = service_turn setup world next r.roll s.views id 0 (hand_with chunk) made desk (Known chunk word header) (Lifted chunk place i content) v view r.manned at
      (served_change world chunk view to c_inside (λ other has. absurd (subst (IsOf other) ready has)) (omega arith))
      (λ _. goes_further world.service (looks_at world.service chunk word (packed (unpacked header)) None) view (goes_look world.service chunk word (packed (unpacked header)) None) (goes_take _ place chunk))
      (look_shows setup world desk chunk word (packed (unpacked header)) None r.kept.owned (λ i position tale content_ there begun untaken ready_.
      let shows = subst (λ t. HasHeader setup header t) ready_ f.5 in
      (complete, (head_of content_, subst (λ w. IsHeader setup w tale.place position (head_of content_)) (sym (packed_back setup header tale.place position (head_of content_) shows)) shows))))
      (λ d e. let same : chunk ≡ d = omega arith in subst (λ c. IsRead (status next c)) same (subst IsRead (sym now) tt))
      (subst (λ j. status next chunk ≡ Reading place j content) (sym i_is) now) in
      let named = (r.kept.owned.counts place).named n chunk content ((r.kept.owned.owns place chunk).ready_is n content ready).0 in (
        Service (hand_with chunk) made desk (Lifted chunk place i content) (takes_in (looks_at v chunk word (packed (unpacked header)) None) place chunk),
        takes chunk (Some slot.body.0),
        home,
        record {
          world = next;
          front = set r.front at_.page new;
          slots = r.slots;
          roll = roll;
          laid = r.laid;
          kept = kept;
          led = led_on setup r.roll.marks world next (TakesMove place chunk word (packed (unpacked header))) r.led (
            w_inside,
            c_inside,
            (content, ready),
            says_use setup header (status world chunk) (shown_by header (status world chunk) f.5),
            complete,
            subst (λ (z : ServiceView). z.reading ≡ []) f.0 none,
          )
              (ap (λ t. served world view chunk (read_as t)) ready);
          words = words_front setup s.words r.front r.slots at_.page new (page_front setup s r chunk inside) (front_many setup s r) r.words;
          mail = mail_by_service setup world next (set s.words (front_place at_.page) new) refl refl
              (mail_apart setup world s.words (front_place at_.page) new (let low = page_front setup s r chunk inside in omega (arith, low)) r.mail);
          bodies = bodies_out setup s.homes r.slots r.roll roll chunk r.bodies (λ in_now. in_now.not_service refl)
              (λ d _. in_before_service r.roll (hand_with chunk) d (no_slot r.roll d f.2));
          manned = subst (λ z. IsManned setup next roll (set s.views id (Service (hand_with chunk) made desk (Lifted chunk place i content) (takes_in (looks_at z chunk word (packed (unpacked header)) None) place chunk)))) (sym f.0) turn;
        },
        record {
          known = ap (Known chunk word) (sym (packed_back setup header known.place known.position (head_of content) known.header_is));
          content = content;
          body = slot.body.0;
          with_header = record {
            position_is = named.0 ∙ sym i_is;
            sequence_is = named.1;
            head_is = sym (ap (λ (h : ChunkHeader). let head : Head = record { count = h.count; flags = h.flags } in head) reads);
            whole = slot.words.whole;
            body_is = slot.body.2;
          };
          new_is = refl;
        },
      )

  -- ---- load

  pub loads_allowed : (hand chunk index : ℕ) (watch : Watch) (v : ServiceView) (carried : List (ℕ × Option CommitBody)) → chunk < length setup.spots → index < payload_words setup chunk
      → Allows (IsShared setup) count id (Service hand made desk watch v, carried) (payload_start setup chunk + index) (λ found. found)
      (Loads chunk index (spot setup chunk).payload_size (Service hand made desk watch v, carried))
  loads_allowed hand chunk index watch v carried inside less s r deep at small =
      let f = r.manned.each id (Service hand made desk watch v) at in
      let place = payload_start setup chunk + index in let word = get_or s.words place 0 in
      let seen = watch_on chunk (status r.world chunk) in
      let tells = tells_of setup r.front r.slots r.world chunk index word watch r.kept inside (r.words.payload_is chunk index inside less) f.5 in
      let roll = with_service_hand r.roll hand in
      let turn = service_turn setup r.world r.world r.roll s.views id hand hand made desk watch seen v r.world.service r.manned at
      (same_service r.world) (λ _. goes_same r.world.service) (λ i tale there true_. true_.1) (λ d e. r.manned.lifted d (f.2 ∙ e)) (watch_on_true setup r.world chunk) in (
        Service hand made desk seen v,
        keeps,
        tt,
        record {
          world = r.world;
          front = r.front;
          slots = r.slots;
          roll = roll;
          laid = r.laid;
          kept = r.kept;
          led = r.led;
          words = words_loaded setup s.words r.front r.slots place r.words;
          mail = mail_loaded setup r.world s.words place r.mail;
          bodies = bodies_stay setup s.homes r.slots r.slots r.roll roll r.bodies (λ d. refl) (λ d. same_hand r.roll hand d f.2);
          manned = subst (λ z. IsManned setup r.world roll (set s.views id (Service hand made desk seen z))) (sym f.0) turn;
        },
        record { watch = seen; tells = subst (λ (z : ServiceView). Rattle.chunk_words.specs.Moves.Tells chunk index (spot setup chunk).payload_size word watch seen z) (sym f.0) tells; new_is = refl },
      )
