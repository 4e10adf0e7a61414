-- The steps of flush requests and their answers keep the rule, and tell what they do.
use Rattle.std.proofs.Common.{◌≡◌, ℕ, ◌+◌, ◌-◌, ◌*◌, ◌/◌, ◌%◌, ◌<◌, ◌≤◌, List, [], ◌∷◌, ◌++◌, ◌⊎◌, inl, inr, length, set, get_or, subst, sym, refl, ap, ◌∙◌, arith, ⊎_elim, length-set}
use Rattle.std.proofs.lemmas.List.{get_or-set_same, get_or-set_other, length-append}
use Rattle.std.proofs.Math.Seq.{get_or-append_seam}
use native.Mathlib.Decide.{ℕ_discrete}
use mathlib.Core.Logic.{dite}
use Rattle.atomic_table.specs.Table.{Allows, keeps}
use Rattle.atomic_table.proofs.Lists.{at_longer}
use Rattle.chunk_plain.specs.Setup.{Setup}
use Rattle.chunk_plain.specs.Views.{At, BegunChunk, Held, Completed, Reply, WriterView, Letter, Asked, Heard, asked_in, ServiceView}
use Rattle.chunk_plain.specs.World.{World, writer}
use Rattle.chunk_plain.specs.Steps.{with_writer_view, serviced}
use Rattle.chunk_plain.specs.Histories.{completed_images}
use Rattle.chunk_plain.specs.Letters.{no_reply, last_reply, last_flush, IsReply, AreAnswers, AreLetters, HasAnswered, knows_request, answers_with, requests, hears_answer}
use Rattle.chunk_plain.specs.Stored.{Stored}
use Rattle.chunk_plain.proofs.Lists.{at_more, at_inside, at_some, at_get}
use Rattle.chunk_plain.proofs.KeptWriter.{noted_kept}
use Rattle.chunk_plain.proofs.KeptService.{serviced_kept}
use Rattle.chunk_schedules.specs.Moves.{HearsOf, Answers, Requests, ReadsAnswer as ReadsAnswerMove, MayAnswer}
use Rattle.chunk_schedules.proofs.Leading.{led_on}
use Rattle.chunk_words.specs.Knows.{Watch, Desk, Nothing, Unmade, Writer, Service}
use Rattle.chunk_words.specs.Places.{front_place, payload_start, request_place, answer_place}
use Rattle.chunk_words.specs.Rule.{HoldsWords, HoldsMail, answer_word, IsMade, IsManned, IsShared}
use Rattle.chunk_words.specs.Moves.{LearnsRequest, GivesAnswer, IsLastAnswer, IsNoOlder, ReadsAnswer, Serves}
use Rattle.chunk_words.proofs.Bodies.{with_hand, with_service_hand, in_before, bodies_stay}
use Rattle.chunk_words.proofs.Turns.{IsWriterChange, noted_change, serviced_change, writer_turn, service_turn}
use Rattle.chunk_words.proofs.MailWords.{payload_below, each_behind, mail_loaded, mail_by_view}
use Rattle.chunk_words.proofs.WriterMoves.{writer_inside, world_inside, hand_none}
use Rattle.chunk_words.proofs.WriterEnds.{words_loaded}
use Rattle.chunk_words.proofs.ServiceMoves.{same_hand}
use Rattle.chunk_words.proofs.Passing.{front_same, contents_stay, goes_quietly}

-- ---- the last answer

pub last_of : (answers : List Reply) (one : Reply) → last_reply (answers ++ one ∷ []) ≡ one
last_of answers one =
    ap (λ i. get_or (answers ++ one ∷ []) i no_reply) (let many = length-append answers (one ∷ []) in let i : length (answers ++ one ∷ []) - 1 ≡ length answers = omega (arith, many) in i)
    ∙ get_or-append_seam answers one [] no_reply

-- there is one, where there is any
last_there : (answers : List Reply) → 0 < length answers → At answers (length answers - 1) (last_reply answers)
last_there answers some =
    let there = at_some answers (length answers - 1) (omega arith) in
    subst (At answers (length answers - 1)) (sym (at_get answers (length answers - 1) no_reply there.0 there.1)) there.1

some_answers : (answers : List Reply) → 0 < last_flush answers → 0 < length answers
some_answers [] some = absurd (omega arith)
some_answers (one ∷ answers) some = omega arith

-- it is among them
last_given : (answers : List Reply) → 0 < last_flush answers → HasAnswered answers (last_flush answers) (last_reply answers).chunks
last_given answers some = (length answers - 1, last_reply answers, last_there answers (some_answers answers some), refl, refl)

-- each is the last one, or to an earlier request
last_or_earlier : (view : WriterView) (n : ℕ) (one : Reply) → AreAnswers view → At view.letters.answers n one
    → (last_reply view.letters.answers ≡ one) ⊎ (one.flush < last_flush view.letters.answers)
last_or_earlier view n one are at =
    let answers = view.letters.answers in let inside = at_inside answers one n at in let last = last_there answers (omega arith) in
    dite (ℕ_discrete n (length answers - 1))
    (λ same. inl (ap (λ i. get_or answers i no_reply) (sym same) ∙ at_get answers n no_reply one at))
    (λ differs. inr (are.rising n (length answers - 1) one (last_reply answers) (omega (arith, inside, differs)) at last))

-- none is to a later request
most_last : (view : WriterView) (n : ℕ) (one : Reply) → AreAnswers view → At view.letters.answers n one → one.flush ≤ last_flush view.letters.answers
most_last view n one are at =
    ⊎_elim (λ is. let flush = ap (λ (r : Reply). r.flush) is in omega (arith, flush)) (λ less. omega (arith, less)) (last_or_earlier view n one are at)

-- one that the service read is to no later request, and to the same one where it is the last
heard_no_older : (world : World) (k : ℕ) → AreLetters world
    → IsNoOlder world.service k (last_flush (writer world k).letters.answers) (last_reply (writer world k).letters.answers).chunks
heard_no_older world k letters n number many at some =
    let mine = writer world k in let was = letters.heard n k number many at some in let is_flush = was.3 in
    let most = most_last mine was.0 was.1 (letters.answers k) was.2 in (
      omega (arith, most, is_flush),
      λ same. ⊎_elim
          (λ is. sym was.4 ∙ sym (ap (λ (r : Reply). r.chunks) is))
          (λ less. absurd (omega (arith, less, is_flush, same)))
          (last_or_earlier mine was.0 was.1 (letters.answers k) was.2),
    )

-- it is to a request that the writer knew of, and its chunks fit in their half of the word
pub last_known : (view : WriterView) → AreAnswers view → (last_flush view.letters.answers ≤ view.letters.known) × ((last_reply view.letters.answers).chunks < 4294967296)
last_known view are = by_answers view.letters.answers refl
  where
    by_answers : (answers : List Reply) → view.letters.answers ≡ answers → (last_flush view.letters.answers ≤ view.letters.known) × ((last_reply view.letters.answers).chunks < 4294967296)
    by_answers [] is =
        let last : last_reply view.letters.answers ≡ no_reply = ap last_reply is in let flush = ap (λ (r : Reply). r.flush) last in let chunks = ap (λ (r : Reply). r.chunks) last in
        (omega (arith, flush), omega (arith, chunks))
    by_answers (one ∷ answers) is =
        let many = ap (λ (l : List Reply). length l) is in
        let each = are.each (length view.letters.answers - 1) (last_reply view.letters.answers) (last_there view.letters.answers (omega (arith, many))) in
        (each.known, each.small)

-- a writer whose last answer has the number 0 gave none, and so no chunks
last_none : (view : WriterView) → AreAnswers view → last_flush view.letters.answers ≡ 0 → (last_reply view.letters.answers).chunks ≡ 0
last_none view are none = by_answers view.letters.answers refl
  where
    by_answers : (answers : List Reply) → view.letters.answers ≡ answers → (last_reply view.letters.answers).chunks ≡ 0
    by_answers [] is = ap (λ (l : List Reply). (last_reply l).chunks) is
    by_answers (one ∷ answers) is =
        let many = ap (λ (l : List Reply). length l) is in
        let each = are.each (length view.letters.answers - 1) (last_reply view.letters.answers) (last_there view.letters.answers (omega (arith, many))) in
        let some = each.some in absurd (omega (arith, some, none))

-- ---- how many requests were made

pub asked_more : (letters : List Letter) (events : ℕ) → asked_in (letters ++ Asked events ∷ []) ≡ asked_in letters + 1
asked_more [] events = refl
asked_more (Asked before ∷ letters) events = ap (λ n. n + 1) (asked_more letters events)
asked_more (Heard place flush chunks ∷ letters) events = asked_more letters events

pub asked_heard : (letters : List Letter) (place flush chunks : ℕ) → asked_in (letters ++ Heard place flush chunks ∷ []) ≡ asked_in letters
asked_heard [] place flush chunks = refl
asked_heard (Asked events ∷ letters) place flush chunks = ap (λ n. n + 1) (asked_heard letters place flush chunks)
asked_heard (Heard other flush_ chunks_ ∷ letters) place flush chunks = asked_heard letters place flush chunks

-- ---- a word behind the payload words is stored

pub words_above : (setup : Setup) (words front : List ℕ) (slots : List Stored) (index value : ℕ) → request_place setup ≤ index → HoldsWords setup words front slots
    → HoldsWords setup (set words index value) front slots
words_above setup words front slots index value high holds = record {
  total = length-set words index value ∙ holds.total;
  front_is = λ i below. get_or-set_other words index (front_place i) value 0 (omega (arith, below, high)) ∙ holds.front_is i below;
  count = holds.count;
  payload_is = λ chunk i inside below. let low = payload_below setup chunk i inside below in
      get_or-set_other words index (payload_start setup chunk + i) value 0 (omega (arith, low, high)) ∙ holds.payload_is chunk i inside below;
}

-- ---- a writer hears of requests

pub learnt_mail : (setup : Setup) (world next : World) (words : List ℕ) (k number : ℕ) → IsWriterChange world next k (knows_request (writer world k) number)
    → (writer world k).letters.known ≤ number → number ≤ asked_in world.service.letters → HoldsMail setup world words → HoldsMail setup next words
learnt_mail setup world next words k number change rises made mail =
    let was = mail.letters.answers k in
    mail_by_view setup world next words k (knows_request (writer world k) number) change refl made
    (record {
      rising = was.rising;
      each = λ n one at. let old = was.each n one at in
          record { some = old.some; known = let low = old.known in omega (arith, low, rises); small = old.small; chunks = old.chunks; calls = old.calls };
    })
    mail

pub learns_allowed : (setup : Setup) (count id k : ℕ) (v : WriterView)
    → Allows (IsShared setup) count id (Writer k 0 v, []) (request_place setup) (λ found. found) (LearnsRequest (Writer k 0 v, []))
learns_allowed setup count id k v s r deep at small =
    let world = r.world in let f = r.manned.each id (Writer k 0 v) at in let index = request_place setup in let found = get_or s.words index 0 in
    let inside_w = writer_inside setup s r id k 0 v at in let w_inside = world_inside setup s r id k 0 v at in
    let is : found ≡ asked_in world.service.letters = r.mail.request in let few = r.mail.few in
    let low = r.mail.letters.known k in
    let view = knows_request (writer world k) found in let next = with_writer_view world k view in
    let change = noted_change world k view w_inside refl (omega arith) in
    let rises : (writer world k).letters.known ≤ found = omega (arith, low, is) in
    let made : found ≤ asked_in world.service.letters = omega (arith, is) in
    let roll = with_hand r.roll k 0 in
    let turn = writer_turn setup world next r.roll s.views id k 0 0 v view r.manned at change (λ d e. absurd (omega arith)) in (
      Writer k 0 (knows_request v found),
      keeps,
      tt,
      record {
        world = next;
        front = r.front;
        slots = r.slots;
        roll = roll;
        laid = r.laid;
        kept = noted_kept setup r.front r.slots world k (writer world k).calls view.letters r.kept inside_w;
        led = led_on setup r.roll.marks world next (HearsOf k found) r.led (w_inside, record { rises = rises; made = made }) refl;
        words = words_loaded setup s.words r.front r.slots index r.words;
        mail = learnt_mail setup world next (set s.words index found) k found change rises made (mail_loaded setup world s.words index r.mail);
        bodies = bodies_stay setup s.homes r.slots r.slots r.roll roll r.bodies (λ d. refl) (λ d. in_before r.roll k 0 d (hand_none r.roll k d f.2));
        manned = subst (λ z. IsManned setup next roll (set s.views id (Writer k 0 (knows_request z found)))) (sym f.0) turn;
      },
      record {
        rises = subst (λ (z : WriterView). z.letters.known ≤ found) (sym f.0) rises;
        fits = omega (arith, is, few);
        new_is = refl;
      },
    )

-- ---- it answers

-- no more chunks are completed than were begun
some_completed : (begun : List BegunChunk) → length (completed_images begun) ≤ length begun
some_completed [] = omega arith
some_completed (Held chunk draft ∷ begun) = let some = some_completed begun in omega (arith, some)
some_completed (Completed chunk content ∷ begun) = let some = some_completed begun in omega (arith, some)

-- the answers with one more
answers_more : (view : WriterView) (flush chunks : ℕ) → AreAnswers view → MayAnswer view flush chunks → AreAnswers (answers_with view flush chunks)
answers_more view flush chunks are may =
    let answers = view.letters.answers in let reply : Reply = record { flush = flush; chunks = chunks; calls = length view.calls } in
    let newer = may.newer in let known = may.known in let completed = may.completed in let some = some_completed view.begun in
    record {
      rising = λ n m one other less at then. ⊎_elim
          (λ old_then. ⊎_elim
          (λ old. are.rising n m one other less old old_then)
          (λ new. absurd (let low = at_inside answers other m old_then in let high = new.0 in omega (arith, low, high, less)))
          (at_more answers reply one n at))
          (λ new_then. ⊎_elim
          (λ old. let most = most_last view n one are old in let same = ap (λ (x : Reply). x.flush) new_then.1 in omega (arith, most, newer, same))
          (λ new. absurd (let one_is = new.0 in let other_is = new_then.0 in omega (arith, one_is, other_is, less)))
          (at_more answers reply one n at))
          (at_more answers reply other m then);
      each = λ n one at. ⊎_elim
          (λ old. let was = are.each n one old in record { some = was.some; known = was.known; small = was.small; chunks = was.chunks; calls = was.calls })
          (λ new. subst (λ (x : Reply). IsReply (answers_with view flush chunks) x) new.1
          (record { some = omega (arith, newer); known = omega (arith, known); small = may.small; chunks = omega (arith, completed, some); calls = omega arith }))
          (at_more answers reply one n at);
    }

pub answered_mail : (setup : Setup) (world next : World) (words : List ℕ) (k flush chunks : ℕ) → IsWriterChange world next k (answers_with (writer world k) flush chunks)
    → answer_place setup k < length words → MayAnswer (writer world k) flush chunks → HoldsMail setup world words
    → HoldsMail setup next (set words (answer_place setup k) (flush * 4294967296 + chunks))
answered_mail setup world next words k flush chunks change inside may mail =
    let mine = writer world k in let view = answers_with mine flush chunks in let answers = mine.letters.answers in
    let reply : Reply = record { flush = flush; chunks = chunks; calls = length mine.calls } in
    let value = flush * 4294967296 + chunks in let here = answer_place setup k in
    record {
      letters = record {
        known = λ p. subst (λ (s : ServiceView). (writer next p).letters.known ≤ asked_in s.letters) (sym change.service)
            (each_behind (λ _ v. v.letters.known ≤ asked_in world.service.letters) world next k view change (mail.letters.known k) (λ q differs. mail.letters.known q) p);
        answers = each_behind (λ _ v. AreAnswers v) world next k view change (answers_more mine flush chunks (mail.letters.answers k) may) (λ p differs. mail.letters.answers p);
        heard = λ n p number many at some.
            let old_at = subst (λ (s : ServiceView). At s.letters n (Heard p number many)) change.service at in
            each_behind (λ q v. At world.service.letters n (Heard q number many) → HasAnswered v.letters.answers number many) world next k view change
            (λ there. let was = mail.letters.heard n k number many there some in (was.0, was.1, at_longer answers (reply ∷ []) was.0 was.1 was.2, was.3, was.4))
            (λ q differs there. mail.letters.heard n q number many there some) p old_at;
      };
      few = subst (λ (s : ServiceView). asked_in s.letters < 4294967296) (sym change.service) mail.few;
      request = get_or-set_other words here (request_place setup) value 0 (omega arith)
          ∙ subst (λ (s : ServiceView). get_or words (request_place setup) 0 ≡ asked_in s.letters) (sym change.service) mail.request;
      answer = each_behind (λ p v. p < length setup.writers → get_or (set words here value) (answer_place setup p) 0 ≡ answer_word v.letters.answers) world next k view change
          (λ _. get_or-set_same words here value 0 inside ∙ ap (λ (r : Reply). r.flush * 4294967296 + r.chunks) (sym (last_of answers reply)))
          (λ p differs within. get_or-set_other words here (answer_place setup p) value 0 (λ e. differs (omega (arith, e))) ∙ mail.answer p within);
    }

pub answer_allowed : (setup : Setup) (count id k flush chunks : ℕ) (v : WriterView) → MayAnswer v flush chunks
    → Allows (IsShared setup) count id (Writer k 0 v, []) (answer_place setup k) (λ _. flush * 4294967296 + chunks) (λ _. GivesAnswer flush chunks (Writer k 0 v, []))
answer_allowed setup count id k flush chunks v may s r deep at small =
    let world = r.world in let f = r.manned.each id (Writer k 0 v) at in let index = answer_place setup k in let value = flush * 4294967296 + chunks in
    let inside_w = writer_inside setup s r id k 0 v at in let w_inside = world_inside setup s r id k 0 v at in
    let may' = subst (λ z. MayAnswer z flush chunks) f.0 may in let newer = may'.newer in
    let view = answers_with (writer world k) flush chunks in let next = with_writer_view world k view in
    let reply : Reply = record { flush = flush; chunks = chunks; calls = length (writer world k).calls } in
    let last = ap (λ (r_ : Reply). r_.flush) (last_of (writer world k).letters.answers reply) in
    let change = noted_change world k view w_inside refl (omega (arith, last, newer)) in
    let inside : index < length s.words = let total = r.words.total in omega (arith, total, inside_w) in
    let roll = with_hand r.roll k 0 in
    let turn = writer_turn setup world next r.roll s.views id k 0 0 v view r.manned at change (λ d e. absurd (omega arith)) in (
      Writer k 0 (answers_with v flush chunks),
      keeps,
      tt,
      record {
        world = next;
        front = r.front;
        slots = r.slots;
        roll = roll;
        laid = r.laid;
        kept = noted_kept setup r.front r.slots world k (writer world k).calls view.letters r.kept inside_w;
        led = led_on setup r.roll.marks world next (Answers k flush chunks) r.led (w_inside, may') refl;
        words = words_above setup s.words r.front r.slots index value (omega arith) r.words;
        mail = answered_mail setup world next s.words k flush chunks change inside may' r.mail;
        bodies = bodies_stay setup s.homes r.slots r.slots r.roll roll r.bodies (λ d. refl) (λ d. in_before r.roll k 0 d (hand_none r.roll k d f.2));
        manned = subst (λ z. IsManned setup next roll (set s.views id (Writer k 0 (answers_with z flush chunks)))) (sym f.0) turn;
      },
      refl,
    )

-- ---- the service asks

pub requested_mail : (setup : Setup) (world : World) (words : List ℕ) (flush : ℕ) → request_place setup < length words → flush ≡ asked_in world.service.letters + 1
    → flush < 4294967296 → HoldsMail setup world words → HoldsMail setup (serviced world (requests world.service)) (set words (request_place setup) flush)
requested_mail setup world words flush inside next fits mail =
    let letters = world.service.letters in let here = request_place setup in let events = length world.service.events in let more = asked_more letters events in
    record {
      letters = record {
        known = λ k. let low = mail.letters.known k in omega (arith, low, more);
        answers = mail.letters.answers;
        heard = λ n k number many at some. ⊎_elim
            (λ old. mail.letters.heard n k number many old some)
            (λ new. absurd (let clash = new.1 in cc))
            (at_more letters (Asked events) (Heard k number many) n at);
      };
      few = omega (arith, more, next, fits);
      request = get_or-set_same words here flush 0 inside ∙ (next ∙ sym more);
      answer = λ k within. get_or-set_other words here (answer_place setup k) flush 0 (omega arith) ∙ mail.answer k within;
    }

-- ---- it reads an answer

halves : (word flush chunks : ℕ) → word ≡ flush * 4294967296 + chunks → chunks < 4294967296 → (word / 4294967296 ≡ flush) × (word % 4294967296 ≡ chunks)
halves word flush chunks is small = (omega (arith, is, small), omega (arith, is, small))

-- what was read was given
abbrev WasGiven : World → Letter → Type 0
WasGiven world (Asked events) = Unit {0}
WasGiven world (Heard place flush chunks) = 0 < flush → HasAnswered (writer world place).letters.answers flush chunks

heard_mail : (setup : Setup) (world : World) (words : List ℕ) (k flush chunks : ℕ) → WasGiven world (Heard k flush chunks) → HoldsMail setup world words
    → HoldsMail setup (serviced world (hears_answer world.service k flush chunks)) words
heard_mail setup world words k flush chunks given mail =
    let letters = world.service.letters in let same = asked_heard letters k flush chunks in
    record {
      letters = record {
        known = λ p. let low = mail.letters.known p in omega (arith, low, same);
        answers = mail.letters.answers;
        heard = λ n p number many at some. ⊎_elim
            (λ old. mail.letters.heard n p number many old some)
            (λ new. let was : WasGiven world (Heard p number many) = subst (λ (l : Letter). WasGiven world l) new.1 given in was some)
            (at_more letters (Heard k flush chunks) (Heard p number many) n at);
      };
      few = let low = mail.few in omega (arith, low, same);
      request = mail.request ∙ sym same;
      answer = mail.answer;
    }

module _ (setup : Setup) (count id made : ℕ) (desk : Desk) where
  pub request_allowed : (watch : Watch) (flush : ℕ) (v : ServiceView) → desk.stage ≡ Unmade → v.reading ≡ [] → flush ≡ asked_in v.letters + 1
      → flush < 4294967296
      → Allows (IsShared setup) count id (Service 0 made desk watch v, []) (request_place setup) (λ _. flush)
      (λ _. Serves (λ view. requests view) (Service 0 made desk watch v, []))
  request_allowed watch flush v unmade none next fits s r deep at small =
      let world = r.world in let f = r.manned.each id (Service 0 made desk watch v) at in let index = request_place setup in
      let view = requests world.service in let after = serviced world view in let more = asked_more world.service.letters (length world.service.events) in
      let next' : flush ≡ asked_in world.service.letters + 1 = subst (λ (z : ServiceView). flush ≡ asked_in z.letters + 1) f.0 next in
      let none' : world.service.reading ≡ [] = subst (λ (z : ServiceView). z.reading ≡ []) f.0 none in
      let kept = serviced_kept setup r.front r.slots world view r.kept refl refl refl in
      let inside : index < length s.words = let total = r.words.total in omega (arith, total) in
      let roll = with_service_hand r.roll 0 in
      let turn = service_turn setup world after r.roll s.views id 0 0 made desk watch Nothing v view r.manned at (serviced_change world view (omega (arith, more)))
      (λ made_. absurd (subst IsMade unmade made_)) (λ i tale there true_. true_.1) (λ d e. absurd (omega arith)) tt in (
        Service 0 made desk Nothing (requests v),
        keeps,
        tt,
        record {
          world = after;
          front = r.front;
          slots = r.slots;
          roll = roll;
          laid = r.laid;
          kept = kept;
          led = led_on setup r.roll.marks world after Requests r.led none' refl;
          words = words_above setup s.words r.front r.slots index flush (omega arith) r.words;
          mail = requested_mail setup world s.words flush inside next' fits r.mail;
          bodies = bodies_stay setup s.homes r.slots r.slots r.roll roll r.bodies (λ d. refl) (λ d. same_hand r.roll 0 d f.2);
          manned = subst (λ z. IsManned setup after roll (set s.views id (Service 0 made desk Nothing (requests z)))) (sym f.0) turn;
        },
        record { new_is = refl; seen = ∣ (after, kept.owned, ap (λ z. requests z) (sym f.0)) ∣₁ },
      )

  pub reads_answer_allowed : (watch : Watch) (k : ℕ) (v : ServiceView) → k < length setup.writers
      → Allows (IsShared setup) count id (Service 0 made desk watch v, []) (answer_place setup k) (λ found. found)
      (ReadsAnswer k (Service 0 made desk watch v, []))
  reads_answer_allowed watch k v inside s r deep at small =
      let world = r.world in let f = r.manned.each id (Service 0 made desk watch v) at in
      let index = answer_place setup k in let found = get_or s.words index 0 in
      let answers = (writer world k).letters.answers in let last = last_known (writer world k) (r.mail.letters.answers k) in
      let flush = found / 4294967296 in let chunks = found % 4294967296 in
      let split = halves found (last_flush answers) (last_reply answers).chunks (r.mail.answer k inside) last.1 in
      let flush_is : flush ≡ last_flush answers = split.0 in let chunks_is : chunks ≡ (last_reply answers).chunks = split.1 in
      let given : WasGiven world (Heard k flush chunks) = λ some. subst (λ n. HasAnswered answers n chunks) (sym flush_is)
      (subst (λ n. HasAnswered answers (last_flush answers) n) (sym chunks_is) (last_given answers (omega (arith, flush_is, some)))) in
      let view = hears_answer world.service k flush chunks in let next = serviced world view in
      let same = asked_heard world.service.letters k flush chunks in
      let mail = heard_mail setup world (set s.words index found) k flush chunks given (mail_loaded setup world s.words index r.mail) in
      let kept = serviced_kept setup r.front r.slots world view r.kept refl refl refl in
      let w_inside : k < length world.writers = let many = r.kept.writers in omega (arith, inside, many) in
      let asked : flush ≤ asked_in world.service.letters = let known = last.0 in let low = r.mail.letters.known k in omega (arith, flush_is, known, low) in
      let roll = with_service_hand r.roll 0 in
      let turn = service_turn setup world next r.roll s.views id 0 0 made desk watch Nothing v view r.manned at (serviced_change world view (omega (arith, same)))
      (λ _. goes_quietly world.service view refl (front_same world.service.looks) (contents_stay world.service) (front_same world.service.commits) same)
      (λ i tale there true_. true_.1) (λ d e. absurd (omega arith)) tt in (
        Service 0 made desk Nothing (hears_answer v k flush chunks),
        keeps,
        tt,
        record {
          world = next;
          front = r.front;
          slots = r.slots;
          roll = roll;
          laid = r.laid;
          kept = kept;
          led = led_on setup r.roll.marks world next (ReadsAnswerMove k flush chunks) r.led (w_inside, record { flush_is = flush_is; chunks_is = chunks_is }) refl;
          words = words_loaded setup s.words r.front r.slots index r.words;
          mail = mail;
          bodies = bodies_stay setup s.homes r.slots r.slots r.roll roll r.bodies (λ d. refl) (λ d. same_hand r.roll 0 d f.2);
          manned = subst (λ z. IsManned setup next roll (set s.views id (Service 0 made desk Nothing (hears_answer z k flush chunks)))) (sym f.0) turn;
        },
        record {
          answer = record {
            asked = subst (λ (z : ServiceView). flush ≤ asked_in z.letters) (sym f.0) asked;
            none = λ zero. chunks_is ∙ last_none (writer world k) (r.mail.letters.answers k) (sym flush_is ∙ zero);
            last = subst (λ (z : ServiceView). IsLastAnswer (hears_answer z k flush chunks) k flush chunks) (sym f.0)
                ∣ (next, kept.owned, mail.letters, refl, record { flush_is = flush_is; chunks_is = chunks_is }) ∣₁;
            heard = subst (λ (z : ServiceView). IsNoOlder z k flush chunks) (sym f.0)
                (subst (λ m. IsNoOlder world.service k flush m) (sym chunks_is)
                (subst (λ m. IsNoOlder world.service k m (last_reply answers).chunks) (sym flush_is) (heard_no_older world k r.mail.letters)));
            told = λ i tale there of. let low = subst (λ p. tale.flush ≤ last_flush (writer world p).letters.answers) of (f.7 i tale there).2 in omega (arith, low, flush_is);
          };
          fits = let few = r.mail.few in omega (arith, asked, few);
          serves = record { new_is = refl; seen = ∣ (next, kept.owned, ap (λ z. hears_answer z k flush chunks) (sym f.0)) ∣₁ };
        },
      )
