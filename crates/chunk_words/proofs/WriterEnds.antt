-- The last steps of a writer with a chunk, which take its slot out and put it back, and its notes.
use Rattle.std.proofs.Common.{◌≡◌, ℕ, true, false, Option, Some, None, IsSome, IfSome, List, [], ◌∷◌, length, set, get_or, subst, sym, refl, arith, bit_or, length-set}
use Rattle.std.proofs.lemmas.List.{set-get_or, length-append}
use Rattle.atomic_table.specs.Table.{Allows, keeps, takes, gives}
use Rattle.trace_model.specs.Calls.{Call}
use Rattle.page_geometry.specs.PageBits.{HasState, SetsState, KeepsOthers}
use Rattle.page_geometry.specs.declared.chunk_state.ChunkState.TheVariants as state
use Rattle.commit_body.specs.declared.body.CommitBody.{CommitBody}
use Rattle.chunk_plain.specs.Setup.{Setup, spot, from_of}
use Rattle.chunk_plain.specs.Views.{Completed, WriterView}
use Rattle.chunk_plain.specs.World.{Writing, Ready, status, writer}
use Rattle.chunk_plain.specs.Steps.{completes, notes_call, moved, with_writer_view}
use Rattle.chunk_plain.specs.Drafts.{draft_at, head_at, IsHolding}
use Rattle.chunk_plain.specs.Stored.{Stored, stored_at}
use Rattle.chunk_plain.specs.Shows.{content_of, page_word}
use Rattle.chunk_plain.specs.Plain.{IsLent, StandsWhole, IsKept}
use Rattle.chunk_plain.proofs.KeptWriter.{body_kept, held_status, held_chunk, held_slot, complete_kept, call_kept}
use Rattle.chunk_schedules.specs.Moves.{Completes as CompletesMove, Calls as CallsMove}
use Rattle.chunk_schedules.proofs.Leading.{led_on}
use Rattle.chunk_words.specs.Knows.{Writer, hand_with}
use Rattle.chunk_words.specs.Places.{front_place}
use Rattle.chunk_words.specs.Rule.{IsOf, HoldsWords, IsManned, IsShared}
use Rattle.chunk_words.specs.Moves.{Fetches, Completes, Notes}
use Rattle.chunk_words.proofs.Standing.{words_front, words_body}
use Rattle.chunk_words.proofs.Bodies.{put_same, with_hand, in_before, bodies_stay, bodies_out, bodies_back, body_here, body_else}
use Rattle.chunk_words.proofs.Leads.{may_complete}
use Rattle.chunk_words.proofs.Telling.{stays_set}
use Rattle.chunk_words.proofs.MailWords.{mail_apart, mail_loaded, mail_by_writer}
use Rattle.chunk_words.proofs.Turns.{Still, moved_change, noted_change, same_change, writer_turn}
use Rattle.chunk_words.proofs.WriterMoves.{front_many, page_front, page_is, writer_inside, world_inside, chunk_inside, slot_in, hand_else, hand_none}

-- a word that is loaded stays
pub words_loaded : (setup : Setup) (words front : List ℕ) (slots : List Stored) (index : ℕ) → HoldsWords setup words front slots → HoldsWords setup (set words index (get_or words index 0)) front slots
words_loaded setup words front slots index holds = subst (λ l. HoldsWords setup l front slots) (sym (set-get_or words index 0)) holds

pub fetches_allowed : (setup : Setup) (count id k chunk i index : ℕ) (v : WriterView) → IsHolding v chunk i
    → Allows (IsShared setup) count id (Writer k 0 v, []) index (λ found. found) (λ _. Fetches chunk (Writer k 0 v, []))
fetches_allowed setup count id k chunk i index v holding s r deep at small =
    let world = r.world in let f = r.manned.each id (Writer k 0 v) at in
    let holding' = subst (λ z. IsHolding z chunk i) f.0 holding in
    let was = held_status setup r.front r.slots world k chunk i r.kept holding' in
    let inside = held_chunk setup r.front r.slots world k chunk i r.kept holding' in
    let in_ = slot_in setup world r.roll s.views k chunk (Writing k i (draft_at (writer world k) i)) r.manned was (λ other same. sym same) f.2 (λ x. x) in
    let roll = with_hand r.roll k (hand_with chunk) in
    let turn = writer_turn setup world world r.roll s.views id k 0 (hand_with chunk) v (writer world k) r.manned at (same_change world k)
    (λ d e. let same : chunk ≡ d = omega arith in subst (λ c. IsOf k (status world c)) same (subst (IsOf k) (sym was) refl)) in (
      Writer k (hand_with chunk) v,
      takes chunk (stored_at r.slots chunk).body,
      r.bodies.home_is chunk inside in_,
      record {
        world = world;
        front = r.front;
        slots = r.slots;
        roll = roll;
        laid = r.laid;
        kept = r.kept;
        led = r.led;
        words = words_loaded setup s.words r.front r.slots index r.words;
        mail = mail_loaded setup world s.words index r.mail;
        bodies = bodies_out setup s.homes r.slots r.roll roll chunk r.bodies (λ in_now. in_now.with_none k (put_same r.roll.hands k (hand_with chunk)))
            (λ d _. in_before r.roll k (hand_with chunk) d (hand_none r.roll k d f.2));
        manned = subst (λ z. IsManned setup world roll (set s.views id (Writer k (hand_with chunk) z))) (sym f.0) turn;
      },
      record { body = (stored_at r.slots chunk).body; new_is = refl },
    )

pub completes_allowed : (setup : Setup) (count id k chunk i mask : ℕ) (body : CommitBody) (v : WriterView) → IsHolding v chunk i
    → StandsWhole (spot setup chunk).payload_size v i body
    → ((word : ℕ) → HasState word (spot setup chunk).place state.BeingWritten → SetsState word (bit_or word mask) (spot setup chunk).place state.Complete)
    → ((word : ℕ) → KeepsOthers word (bit_or word mask) (spot setup chunk).place)
    → Allows (IsShared setup) count id (Writer k (hand_with chunk) v, (chunk, Some body) ∷ []) (front_place (spot setup chunk).page) (λ found. bit_or found mask)
    (λ _. Completes setup chunk i body (Writer k (hand_with chunk) v, (chunk, Some body) ∷ []))
completes_allowed setup count id k chunk i mask body v holding whole sets keep s r deep at small =
    let at_ = spot setup chunk in let found = get_or s.words (front_place at_.page) 0 in let new = bit_or found mask in
    let world = r.world in let f = r.manned.each id (Writer k (hand_with chunk) v) at in
    let inside_w = writer_inside setup s r id k (hand_with chunk) v at in let w_inside = world_inside setup s r id k (hand_with chunk) v at in
    let holding' = subst (λ z. IsHolding z chunk i) f.0 holding in
    let was = held_status setup r.front r.slots world k chunk i r.kept holding' in
    let inside = held_chunk setup r.front r.slots world k chunk i r.kept holding' in
    let c_inside = chunk_inside setup s r chunk inside in let is = page_is setup s r chunk inside in
    let v' = writer world k in let content = content_of (from_of setup k) k i (head_at v' i) body in
    let view = completes v' chunk i content in let to = Ready k i content in let next = moved world k view chunk to in
    let deep_slots : length r.slots ≡ length setup.spots = r.kept.shown.slot_count in
    let slots = set r.slots chunk (record (stored_at r.slots chunk) { body = Some body }) in
    let here = body_here r.slots chunk (Some body) (omega arith) in
    let kept = body_kept setup r.front r.slots world chunk (Some body) r.laid r.kept (subst IsLent (sym was) tt) in
    let kept' = subst (λ w. IsKept setup (set r.front at_.page (bit_or w mask)) slots next) (sym is)
    (complete_kept setup r.front slots world k chunk i (bit_or (page_word setup r.front chunk) mask) body r.laid kept inside_w holding' here
    (subst (λ z. StandsWhole at_.payload_size z i body) f.0 whole) (sets (page_word setup r.front chunk)) (keep (page_word setup r.front chunk))) in
    let may = may_complete (from_of setup k) at_.payload_size k i v' body (subst (λ z. StandsWhole at_.payload_size z i body) f.0 whole)
    (held_slot setup r.front r.slots world k chunk i r.kept holding').words.1 in
    let front = set r.front at_.page new in
    let roll = with_hand r.roll k 0 in
    let change = moved_change world k chunk view to w_inside c_inside
    (subst (λ t. Still k t to) (sym was) (record { started = λ x. tt; full = λ x. absurd x; read = λ x. absurd x; others = λ other differs same. absurd (differs (sym same)) }))
    (stays_set v'.begun i chunk (draft_at v' i) (Completed chunk content) holding') (omega arith) in
    let turn = writer_turn setup world next r.roll s.views id k (hand_with chunk) 0 v view r.manned at change (λ d e. absurd (omega arith)) in (
      Writer k 0 (completes v chunk i (content_of (from_of setup k) k i (head_at v i) body)),
      gives,
      tt,
      record {
        world = next;
        front = front;
        slots = slots;
        roll = roll;
        laid = r.laid;
        kept = kept';
        led = led_on setup r.roll.marks world next (CompletesMove k chunk i content) r.led (w_inside, c_inside, holding', may) refl;
        words = words_front setup s.words r.front slots at_.page new (page_front setup s r chunk inside) (front_many setup s r)
            (words_body setup s.words r.front r.slots chunk (Some body) inside deep_slots r.words);
        mail = mail_by_writer setup world next (set s.words (front_place at_.page) new) k view change
            (record {
              letters = refl;
              begun = let same_many = length-set v'.begun i (Completed chunk content) in omega (arith, same_many);
              calls = omega arith;
            })
            (mail_apart setup world s.words (front_place at_.page) new (let low = page_front setup s r chunk inside in omega (arith, low)) r.mail);
        bodies = bodies_back setup s.homes r.slots slots r.roll roll chunk (Some body) r.bodies inside here
            (λ d differs. body_else r.slots chunk d (Some body) differs)
            (λ d differs. in_before r.roll k 0 d (hand_else r.roll k chunk d f.2 differs));
        manned = subst (λ z. IsManned setup next roll (set s.views id (Writer k 0 (completes z chunk i (content_of (from_of setup k) k i (head_at z i) body))))) (sym f.0) turn;
      },
      refl,
    )

pub calls_allowed : (setup : Setup) (count id k index : ℕ) (call : Call) (v : WriterView)
    → Allows (IsShared setup) count id (Writer k 0 v, []) index (λ found. found) (λ _. Notes call (Writer k 0 v, []))
calls_allowed setup count id k index call v s r deep at small =
    let world = r.world in let f = r.manned.each id (Writer k 0 v) at in
    let inside_w = writer_inside setup s r id k 0 v at in let w_inside = world_inside setup s r id k 0 v at in
    let view = notes_call (writer world k) call in let next = with_writer_view world k view in
    let roll = with_hand r.roll k 0 in
    let change = noted_change world k view w_inside refl (omega arith) in
    let turn = writer_turn setup world next r.roll s.views id k 0 0 v view r.manned at change (λ d e. absurd (omega arith)) in (
      Writer k 0 (notes_call v call),
      keeps,
      tt,
      record {
        world = next;
        front = r.front;
        slots = r.slots;
        roll = roll;
        laid = r.laid;
        kept = call_kept setup r.front r.slots world k call r.kept inside_w;
        led = led_on setup r.roll.marks world next (CallsMove k call) r.led (w_inside) refl;
        words = words_loaded setup s.words r.front r.slots index r.words;
        mail = mail_by_writer setup world next (set s.words index (get_or s.words index 0)) k view change
            (record {
              letters = refl;
              begun = omega arith;
              calls = let more = length-append (writer world k).calls (call ∷ []) in omega (arith, more);
            })
            (mail_loaded setup world s.words index r.mail);
        bodies = bodies_stay setup s.homes r.slots r.slots r.roll roll r.bodies (λ d. refl) (λ d. in_before r.roll k 0 d (hand_none r.roll k d f.2));
        manned = subst (λ z. IsManned setup next roll (set s.views id (Writer k 0 (notes_call z call)))) (sym f.0) turn;
      },
      refl,
    )

-- the same for whatever is in the slot
pub completes_by : (setup : Setup) (count id k chunk i mask : ℕ) (kept : Option CommitBody) (v : WriterView) → IsSome kept → IsHolding v chunk i
    → IfSome kept (λ body. StandsWhole (spot setup chunk).payload_size v i body)
    → ((word : ℕ) → HasState word (spot setup chunk).place state.BeingWritten → SetsState word (bit_or word mask) (spot setup chunk).place state.Complete)
    → ((word : ℕ) → KeepsOthers word (bit_or word mask) (spot setup chunk).place)
    → Allows (IsShared setup) count id (Writer k (hand_with chunk) v, (chunk, kept) ∷ []) (front_place (spot setup chunk).page) (λ found. bit_or found mask)
    (λ _ new. IfSome kept (λ body. Completes setup chunk i body (Writer k (hand_with chunk) v, (chunk, kept) ∷ []) new))
completes_by setup count id k chunk i mask None v there holding whole sets keep = absurd (let no_ : false ≡ true = there in cc)
completes_by setup count id k chunk i mask (Some body) v there holding whole sets keep = completes_allowed setup count id k chunk i mask body v holding whole sets keep
