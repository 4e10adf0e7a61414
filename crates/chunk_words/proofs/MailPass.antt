-- A flush request is noted with the reading pass, which is compared with what the service knows; and the pass gives notice of requests to
-- writers.
use Rattle.std.proofs.Common.{◌≡◌, ℕ, ◌+◌, ◌<◌, ◌≤◌, List, [], ◌∷◌, ◌++◌, length, set, get_or, subst, sym, refl, ap, ◌∙◌, arith}
use Rattle.std.proofs.lemmas.List.{set_comm}
use Rattle.atomic_table.specs.Table.{Allows, Splits, Joins, keeps}
use Rattle.atomic_table.proofs.Lists.{set_here, set_else}
use Rattle.chunk_plain.specs.Setup.{Setup}
use Rattle.chunk_plain.specs.Views.{At, WriterView, asked_in, ServiceView}
use Rattle.chunk_plain.specs.World.{writer}
use Rattle.chunk_plain.specs.Steps.{with_writer_view, serviced}
use Rattle.chunk_plain.specs.Letters.{knows_request, requests}
use Rattle.chunk_plain.proofs.Lists.{at_inside}
use Rattle.chunk_plain.proofs.KeptWriter.{noted_kept}
use Rattle.chunk_plain.proofs.KeptService.{serviced_kept}
use Rattle.chunk_schedules.specs.Moves.{HearsOf, Requests}
use Rattle.chunk_schedules.proofs.Leading.{led_on}
use Rattle.chunk_words.specs.GoesOn.{GoesOn}
use Rattle.chunk_words.specs.Knows.{Watch, Nothing, Stage, Unmade, Here, Desk, Knows, Spent, Writer, Service, Pass, Notice, staged, with_stage, later}
use Rattle.chunk_words.specs.Places.{request_place}
use Rattle.chunk_words.specs.Rule.{IsMade, IsManned, IsShared}
use Rattle.chunk_words.specs.Moves.{NotesRequest, Compares}
use Rattle.chunk_words.proofs.Bodies.{with_hand, with_service_hand, in_before, bodies_stay}
use Rattle.chunk_words.proofs.Passing.{goes_same}
use Rattle.chunk_words.proofs.Turns.{noted_change, serviced_change, writer_turn, service_turn}
use Rattle.chunk_words.proofs.WriterMoves.{Table, writer_inside, world_inside, hand_none}
use Rattle.chunk_words.proofs.ServiceMoves.{serviced_allowed}
use Rattle.chunk_words.proofs.Staging.{IsNone, with_pass, set_twice, none_set, restage, spend, as_shared, set_at, added}
use Rattle.chunk_words.proofs.MailSteps.{asked_more, words_above, learnt_mail, requested_mail}

module _ (setup : Setup) (count id made : ℕ) (desk : Desk) (watch : Watch) (v passed : ServiceView) (here : desk.stage ≡ Here passed) where
  -- the service's view goes on from the pass's
  goes_here : (s : Table) (r : IsShared setup s) → At s.views id (Service 0 made desk watch v) → GoesOn (staged desk.stage) v
  goes_here s r at =
      let f = r.manned.each id (Service 0 made desk watch v) at in let stage = f.6 ∙ here in
      subst (λ (stage_ : Stage). GoesOn (staged stage_) v) (sym here) (subst (λ z. GoesOn z v) (sym (r.manned.here passed stage))
      (subst (GoesOn r.roll.passed) (sym f.0) (r.manned.goes_on (subst IsMade (sym stage) tt))))

  -- the request joins both views
  pub request_noted : (flush : ℕ) → v.reading ≡ [] → flush ≡ asked_in v.letters + 1 → flush < 4294967296
      → Allows (IsShared setup) count id (Service 0 made desk watch v, []) (request_place setup) (λ _. flush) (λ _. NotesRequest (Service 0 made desk watch v, []))
  request_noted flush none_read next fits s r deep at small =
      let world = r.world in let f = r.manned.each id (Service 0 made desk watch v) at in let stage = f.6 ∙ here in let index = request_place setup in
      let view = requests world.service in let after = serviced world view in let more = asked_more world.service.letters (length world.service.events) in
      let next' : flush ≡ asked_in world.service.letters + 1 = subst (λ (z : ServiceView). flush ≡ asked_in z.letters + 1) f.0 next in
      let none_read' : world.service.reading ≡ [] = subst (λ (z : ServiceView). z.reading ≡ []) f.0 none_read in
      let kept = serviced_kept setup r.front r.slots world view r.kept refl refl refl in
      let word_inside : index < length s.words = let total = r.words.total in omega (arith, total) in
      let none : IsNone s.views = λ seat known there. absurd (let clash = sym (r.manned.each seat (Pass known) there).2 ∙ stage in cc) in
      let bare = with_stage desk Unmade in let first = Service 0 made bare watch v in let second = Service 0 made bare Nothing view in
      let third = Service 0 made (with_stage desk (Here view)) Nothing view in
      let inside = at_inside s.views (Service 0 made desk watch v) id at in
      let one = restage setup world r.roll s.views id 0 made 0 desk watch v Unmade passed r.manned at none (λ m. absurd m) (λ known is. absurd cc) in
      let one_at : At (set s.views id first) id first = set_here s.views id first inside in
      let two = service_turn setup world after (with_pass r.roll Unmade 0 passed) (set s.views id first) id 0 0 made bare watch Nothing v view one one_at
      (serviced_change world view (omega (arith, more))) (λ m. absurd m) (λ i tale there true_. true_.1) (λ d e. absurd (omega arith)) tt in
      let two_at : At (set (set s.views id first) id second) id second = set_here (set s.views id first) id second (at_inside (set s.views id first) first id one_at) in
      let free : IsNone (set (set s.views id first) id second) = none_set (set s.views id first) id 0 made bare Nothing view (none_set s.views id 0 made bare watch v none) in
      let roll = with_pass (with_service_hand r.roll 0) (Here view) 0 view in
      let three = restage setup after (with_service_hand (with_pass r.roll Unmade 0 passed) 0) (set (set s.views id first) id second) id 0 made 0 bare Nothing view (Here view) view two two_at free
      (λ _. goes_same view) (λ known is. ap staged (sym is)) in
      let same : set (set (set s.views id first) id second) id third ≡ set s.views id third
      = ap (λ (l : List Knows). set l id third) (set_twice s.views id first second) ∙ set_twice s.views id second third in (
        Service 0 made (with_stage desk (Here (requests v))) Nothing (requests v),
        keeps,
        tt,
        record {
          world = after;
          front = r.front;
          slots = r.slots;
          roll = roll;
          laid = r.laid;
          kept = kept;
          led = led_on setup r.roll.marks world after Requests r.led none_read' refl;
          words = words_above setup s.words r.front r.slots index flush (omega arith) r.words;
          mail = requested_mail setup world s.words flush word_inside next' fits r.mail;
          bodies = bodies_stay setup s.homes r.slots r.slots r.roll roll r.bodies (λ d. refl)
              (λ d in_now. record { with_none = in_now.with_none; not_service = λ e. in_now.not_service (sym f.2 ∙ e) });
          manned = subst (λ z. IsManned setup after roll (set s.views id (Service 0 made (with_stage desk (Here (requests z))) Nothing (requests z)))) (sym f.0)
              (subst (λ views. IsManned setup after roll views) same three);
        },
        record { goes_on = goes_here s r at; new_is = refl; seen = ∣ (after, kept.owned, ap (λ z. requests z) (sym f.0)) ∣₁ },
      )

  -- nothing changes
  pub compares_allowed : (index : ℕ) → Allows (IsShared setup) count id (Service 0 made desk watch v, []) index (λ found. found) (λ _. Compares (Service 0 made desk watch v, []))
  compares_allowed index s r deep at small =
      let f = r.manned.each id (Service 0 made desk watch v) at in (
        Service 0 made desk Nothing v,
        keeps,
        tt,
        subst (λ z. IsShared setup (record { words = set s.words index (get_or s.words index 0); homes = s.homes; views = set s.views id (Service 0 made desk Nothing z) })) (sym f.0)
            (serviced_allowed setup s r id index made desk watch Nothing v r.world.service at r.kept (λ _. goes_same r.world.service) (λ i tale there true_. true_.1) tt r.led refl),
        record { goes_on = goes_here s r at; new_is = refl },
      )

-- the pass gives notice of the requests that it knows of, which were made
pub notice_cut : (setup : Setup) (id : ℕ) (passed : ServiceView) → Splits (IsShared setup) id (Pass passed) (Pass passed) (Notice (asked_in passed.letters))
notice_cut setup id passed s r at =
    let g = r.manned.each id (Pass passed) at in let goes = r.manned.goes_on (subst IsMade (sym g.2) tt) in let new = Notice (asked_in passed.letters) in
    let made : asked_in passed.letters ≡ asked_in r.world.service.letters = ap (λ (z : ServiceView). asked_in z.letters) g.0 ∙ sym goes.asked in
    let one = added setup r.world r.roll s.views new r.manned (λ seat. omega (arith, made)) in
    let whole : IsShared setup (record { words = s.words; homes = s.homes; views = s.views ++ new ∷ [] })
    = as_shared setup s r r.roll.stage r.roll.keeper r.roll.passed (s.views ++ new ∷ []) one in
    subst (λ views. IsShared setup (record { words = s.words; homes = s.homes; views = views ++ new ∷ [] })) (sym (set_at s.views id (Pass passed) at)) whole

-- and a writer hears it
pub notice_heard : (setup : Setup) (id k other number : ℕ) (v : WriterView)
    → Joins (IsShared setup) id (Writer k 0 v) other (Notice number) (Writer k 0 (knows_request v (later v.letters.known number))) Spent
notice_heard setup id k other number v s r at apart there =
    let world = r.world in let old = Writer k 0 v in let total = later v.letters.known number in let both = Writer k 0 (knows_request v total) in
    let mine_at : At s.views other (Notice number) = sym (set_else s.views id other both apart) ∙ there in
    let given = r.manned.each other (Notice number) mine_at in let f = r.manned.each id old at in
    let one = spend setup world r.roll s.views other (Notice number) r.manned mine_at tt in
    let old_at : At (set s.views other Spent) id old = set_else s.views other id Spent (λ e. apart (sym e)) ∙ at in
    let inside_w = writer_inside setup s r id k 0 v at in let w_inside = world_inside setup s r id k 0 v at in
    let view = knows_request (writer world k) total in let next = with_writer_view world k view in
    let low = r.mail.letters.known k in let known_is = ap (λ (z : WriterView). z.letters.known) f.0 in
    let rises : (writer world k).letters.known ≤ total = omega (arith, known_is) in
    let made : total ≤ asked_in world.service.letters = omega (arith, known_is, low, given) in
    let change = noted_change world k view w_inside refl (omega arith) in let roll = with_hand r.roll k 0 in
    let two = writer_turn setup world next r.roll (set s.views other Spent) id k 0 0 v view one old_at change (λ d e. absurd (omega arith)) in
    record {
      world = next;
      front = r.front;
      slots = r.slots;
      roll = roll;
      laid = r.laid;
      kept = noted_kept setup r.front r.slots world k (writer world k).calls view.letters r.kept inside_w;
      led = led_on setup r.roll.marks world next (HearsOf k total) r.led (w_inside, record { rises = rises; made = made }) refl;
      words = r.words;
      mail = learnt_mail setup world next s.words k total change rises made r.mail;
      bodies = bodies_stay setup s.homes r.slots r.slots r.roll roll r.bodies (λ d. refl) (λ d. in_before r.roll k 0 d (hand_none r.roll k d f.2));
      manned = subst (λ views. IsManned setup next roll views) (set_comm s.views other id Spent both apart)
          (subst (λ z. IsManned setup next roll (set (set s.views other Spent) id (Writer k 0 (knows_request z total)))) (sym f.0) two);
    }
