-- What the reading of answers leaves of a service.
use Rattle.std.proofs.Common.{◌≡◌, ◌∙◌, ℕ, zero, suc, ◌+◌, ◌-◌, ◌<◌, ◌≤◌, Bool, true, false, Option, None, List, [], ◌∷◌, ◌++◌, length, refl, sym, ap, subst, arith, append_assoc, append-nil, inl, inr}
use Rattle.std.specs.Prelude.{◌&&◌, IsTrue, nat_lt, nat_le}
use Rattle.std.proofs.lemmas.Bool.{cases_lt, lt-ltb, le-leb}
use Rattle.atomic_table.proofs.Lists.{at_longer}
use Rattle.chunk_plain.proofs.Lists.{at_seam}
use Rattle.chunk_plain.specs.Setup.{Setup, sequence_of}
use Rattle.chunk_plain.specs.Views.{At, Letter, Asked, Heard, ServiceView, asked_in}
use Rattle.chunk_words.specs.declared.seats.ServiceSeat.{ServiceSeat}
use Rattle.chunk_words.specs.Knows.{Desk, Tale}
use Rattle.chunk_words.specs.Moves.{IsLastAnswer, IsNoOlder}
use Rattle.session_core.specs.States.{Acknowledge, Flush, refusal_in}
use Rattle.session_core.specs.Sessions.{SessionValue, acknowledge_refusal, has_request, refusal_or, left_as, with_answer}
use Rattle.session_core.specs.declared.answers.Answer.{Answer}
use Rattle.session_core.specs.declared.answers.SessionFault.{SessionFault}
use Rattle.session_core.specs.declared.answers.SessionState.{SessionState}
use Rattle.session_core.specs.declared.answers.SessionState.TheVariants.{Started}
use Rattle.service_core.specs.declared.service.ServiceCore.{ServiceCore}
use Rattle.service_core.specs.Agreement.{KeepsRest, KeepsTaking, buffer_of}
use Rattle.service_core.specs.Routing.{is_closed_at}
use Rattle.thread_service.specs.Requesting.{Requests}
use Rattle.chunk_plain.specs.Letters.{hears_answer, requests}
use Rattle.thread_service.specs.Serving.{IsOnlySeat}
use Rattle.thread_host.specs.Growing.{HearsLast, IsHearing}
use Rattle.thread_host.specs.Tally.{HearsOf, KeepsServing, KeepsSession}

-- ---- letters

pub asked_both : (letters more : List Letter) → asked_in (letters ++ more) ≡ asked_in letters + asked_in more
asked_both [] more = omega arith
asked_both (Asked events ∷ letters) more = let rest = asked_both letters more in omega (arith, rest)
asked_both (Heard place flush chunks ∷ letters) more = asked_both letters more

-- answers of writers were read, and nothing else
abbrev pub HearsLetters : ServiceView → ServiceView → Type 0
HearsLetters old new = (letters : List Letter) × (asked_in letters ≡ 0) × (new ≡ record old { letters = old.letters ++ letters })

letters_none : (old new : ServiceView) → new ≡ old → HearsLetters old new
letters_none old new same = ([], refl, same ∙ ap (λ (l : List Letter). record old { letters = l }) (sym (append-nil old.letters)))

letters_both : (old mid new : ServiceView) → HearsLetters old mid → HearsLetters mid new → HearsLetters old new
letters_both old mid new one two = (
  one.0 ++ two.0,
  (let both = asked_both one.0 two.0 in let first = one.1 in let second = two.1 in omega (arith, both, first, second)),
  two.2 ∙ ap (λ (v : ServiceView). record v { letters = v.letters ++ two.0 }) one.2
      ∙ ap (λ (l : List Letter). record old { letters = l }) (append_assoc old.letters one.0 two.0),
)

pub last_letters : (place : ℕ) (old new : ServiceView) → HearsLast place old new → HearsLetters old new
last_letters place old new hears = (Heard place hears.flush hears.chunks ∷ [], refl, hears.view)

pub hears_letters : (writers : ℕ) (old new : ServiceView) → IsHearing writers old new → HearsLetters old new
hears_letters zero old new same = letters_none old new same
hears_letters (suc place) old new hears = letters_both old hears.0 new (hears_letters place old hears.0 hears.1) (last_letters place hears.0 new hears.2)

-- no request was made
letters_asked : (old new : ServiceView) → HearsLetters old new → asked_in new.letters ≡ asked_in old.letters
letters_asked old new hears =
    let both = asked_both old.letters hears.0 in let none = hears.1 in
    let same = ap (λ (v : ServiceView). asked_in v.letters) hears.2 in omega (arith, both, none, same)

pub hears_asked : (writers : ℕ) (old new : ServiceView) → IsHearing writers old new → asked_in new.letters ≡ asked_in old.letters
hears_asked writers old new hears = letters_asked old new (hears_letters writers old new hears)

-- behind those of the writers before it one writer's answer is read
pub hears_next : (place : ℕ) (first old new : ServiceView) → IsHearing place first old → HearsLast place old new → IsHearing (place + 1) first new
hears_next place first old new before last =
    let more : suc place ≡ place + 1 = omega arith in
    let all : IsHearing (suc place) first new = (old, before, last) in
    subst (λ (n : ℕ). IsHearing n first new) more all

-- what was heard of a writer stays heard behind the answer of another
pub heard_stays : (old new : ServiceView) (before desk : Desk) (place other : ℕ) → HearsLast other old new → desk ≡ before → HearsOf old before place
    → HearsOf new desk place
heard_stays old new before desk place other hears same heard =
    let letters = last_letters other old new hears in
    record {
      number = heard.number;
      flush = heard.flush;
      chunks = heard.chunks;
      there = subst (λ (v : ServiceView). At v.letters heard.number (Heard place heard.flush heard.chunks)) (sym letters.2)
          (at_longer old.letters letters.0 heard.number (Heard place heard.flush heard.chunks) heard.there);
      made = let asked = letters_asked old new letters in let low = heard.made in omega (arith, asked, low);
      told = λ i tale there here. heard.told i tale (subst (λ (d : Desk). At d.told i tale) same there) here;
    }

-- an answer that is read, and of whom
abbrev pub hears_last : (old new : ServiceView) (place writer flush chunks : ℕ) → writer ≡ place + 1 → new ≡ hears_answer old (writer - 1) flush chunks
    → flush ≤ asked_in old.letters → IsNoOlder old (writer - 1) flush chunks → IsLastAnswer new (writer - 1) flush chunks → HearsLast place old new
hears_last old new place writer flush chunks number view made older last =
    let at : writer - 1 ≡ place = omega (arith, number) in
    record {
      flush = flush;
      chunks = chunks;
      made = made;
      heard = subst (λ (p : ℕ). IsNoOlder old p flush chunks) at older;
      last = subst (λ (p : ℕ). IsLastAnswer new p flush chunks) at last;
      view = view ∙ ap (λ (p : ℕ). hears_answer old p flush chunks) at;
    }

-- and with what the writer told
pub heard_of : (old new : ServiceView) (before desk : Desk) (place writer : ℕ) (hears : HearsLast place old new) → writer ≡ place + 1 → desk ≡ before
    → ((i : ℕ) (tale : Tale) → At before.told i tale → tale.place ≡ writer - 1 → tale.flush ≤ hears.flush) → HearsOf new desk place
heard_of old new before desk place writer hears number same told =
    let at : writer - 1 ≡ place = omega (arith, number) in
    record {
      number = length old.letters;
      flush = hears.flush;
      chunks = hears.chunks;
      there = subst (λ (v : ServiceView). At v.letters (length old.letters) (Heard place hears.flush hears.chunks)) (sym hears.view)
          (at_seam old.letters [] (Heard place hears.flush hears.chunks));
      made = let asked = letters_asked old new (last_letters place old new hears) in let made = hears.made in omega (arith, made, asked);
      told = λ i tale there here. told i tale (subst (λ (d : Desk). At d.told i tale) same there) (here ∙ sym at);
    }

-- an answer that isn't newer
pub none_newer : (read flush : ℕ) (newer : Bool) → (read < flush → IsTrue newer) → newer ≡ false → flush ≤ read
none_newer read flush newer tests older = elim (cases_lt read flush) [
  | inl low ↦ absurd (let yes : newer ≡ true = tests low in cc)
  | inr high ↦ high
]

-- ---- the session

pub session_both : (old mid new : SessionValue) → KeepsSession old mid → KeepsSession mid new → KeepsSession old new
session_both old mid new one two = record { state = two.state ∙ one.state; writers = two.writers ∙ one.writers; requests = two.requests ∙ one.requests }

has_yes : (flush requests : ℕ) → 0 < flush → flush ≤ requests → (nat_lt 0 flush && nat_le flush requests) ≡ true
has_yes flush requests some low = ap (λ (b : Bool). b && nat_le flush requests) (lt-ltb 0 flush some) ∙ le-leb flush requests low

-- an answer to a request that was made is accepted while the session is started
pub accepted : (session : SessionValue) (flush : ℕ) → session.state ≡ Started → 0 < flush → flush ≤ session.requests → acknowledge_refusal session flush ≡ None
accepted session flush started some low =
    ap (λ (state : SessionState). refusal_or (refusal_in Acknowledge state) (has_request session flush) flush) started
    ∙ ap (λ (b : Bool). refusal_or None b flush) (has_yes flush session.requests some low)

-- such an answer goes to its writer's place
pub acknowledged : (old new : SessionValue) (flush place writer : ℕ) (answer : Answer) → writer ≡ place + 1 → acknowledge_refusal old flush ≡ None
    → new ≡ left_as (acknowledge_refusal old flush) old (with_answer old (writer - 1) answer) → new ≡ with_answer old place answer
acknowledged old new flush place writer answer number none after =
    let at : writer - 1 ≡ place = omega (arith, number) in
    after
    ∙ ap (λ (o : Option SessionFault). left_as o old (with_answer old (writer - 1) answer)) none
    ∙ ap (λ (p : ℕ). with_answer old p answer) at

pub session_acknowledged : (old new : SessionValue) (place : ℕ) (answer : Answer) → new ≡ with_answer old place answer → KeepsSession old new
session_acknowledged old new place answer is = record {
  state = ap (λ (s : SessionValue). s.state) is;
  writers = ap (λ (s : SessionValue). s.writers) is;
  requests = ap (λ (s : SessionValue). s.requests) is;
}

-- a request is made while the session is started
pub requested_view : (state : SessionState) (old new : ServiceView) → state ≡ Started → Requests (refusal_in Flush state) old new → new ≡ requests old
requested_view state old new started asks = subst (λ (s : SessionState). Requests (refusal_in Flush s) old new) started asks

-- ---- the rest of the service

pub only_taking : (old new : ServiceCore ServiceSeat) → IsOnlySeat old new → KeepsTaking (record old { seat = new.seat }) new
only_taking old new only = record {
  seat = refl;
  layout = ap (λ (core : ServiceCore ServiceSeat). core.layout) only;
  specs = ap (λ (core : ServiceCore ServiceSeat). core.specs.items) only;
  buffers = ap (λ (core : ServiceCore ServiceSeat). core.buffers.items) only;
  writers = ap (λ (core : ServiceCore ServiceSeat). core.writers.items) only;
  taken = ap (λ (core : ServiceCore ServiceSeat). core.taken.items) only;
  session = ap (λ (core : ServiceCore ServiceSeat). core.session.writers) only;
}

pub only_session : (old new : ServiceCore ServiceSeat) → IsOnlySeat old new → KeepsSession old.session new.session
only_session old new only = record {
  state = ap (λ (core : ServiceCore ServiceSeat). core.session.state) only;
  writers = ap (λ (core : ServiceCore ServiceSeat). core.session.writers) only;
  requests = ap (λ (core : ServiceCore ServiceSeat). core.session.requests) only;
}

pub taking_both : (old mid new : ServiceCore ServiceSeat) → KeepsTaking (record old { seat = mid.seat }) mid → KeepsTaking (record mid { seat = new.seat }) new
    → KeepsTaking (record old { seat = new.seat }) new
taking_both old mid new one two = record {
  seat = refl;
  layout = two.layout ∙ one.layout;
  specs = two.specs ∙ one.specs;
  buffers = two.buffers ∙ one.buffers;
  writers = two.writers ∙ one.writers;
  taken = two.taken ∙ one.taken;
  session = two.session ∙ one.session;
}

-- with the same seat
pub taking_on : (old mid new : ServiceCore ServiceSeat) → KeepsTaking (record old { seat = mid.seat }) mid → KeepsTaking mid new
    → KeepsTaking (record old { seat = new.seat }) new
taking_on old mid new one two = record {
  seat = refl;
  layout = two.layout ∙ one.layout;
  specs = two.specs ∙ one.specs;
  buffers = two.buffers ∙ one.buffers;
  writers = two.writers ∙ one.writers;
  taken = two.taken ∙ one.taken;
  session = two.session ∙ one.session;
}

pub taking_serving : (setup : Setup) (old new : ServiceCore ServiceSeat) → KeepsTaking (record old { seat = new.seat }) new → KeepsSession old.session new.session
    → KeepsServing setup old new
taking_serving setup old new keeps session = record {
  layout = keeps.layout;
  specs = keeps.specs;
  writers = keeps.writers;
  session = session;
  closed = λ place inside. ap (λ bs. is_closed_at bs (buffer_of setup place - 1) (sequence_of place)) keeps.buffers;
}

pub rest_serving : (setup : Setup) (old new : ServiceCore ServiceSeat) → KeepsRest setup old new → KeepsServing setup old new
rest_serving setup old new keeps = record {
  layout = keeps.fields.layout;
  specs = keeps.fields.specs;
  writers = keeps.fields.writers;
  session = record {
    state = ap (λ (s : SessionValue). s.state) keeps.fields.session;
    writers = ap (λ (s : SessionValue). s.writers) keeps.fields.session;
    requests = ap (λ (s : SessionValue). s.requests) keeps.fields.session;
  };
  closed = keeps.closed;
}

pub only_serving : (setup : Setup) (old new : ServiceCore ServiceSeat) → IsOnlySeat old new → KeepsServing setup old new
only_serving setup old new only = taking_serving setup old new (only_taking old new only) (only_session old new only)

pub serving_both : (setup : Setup) (old mid new : ServiceCore ServiceSeat) → KeepsServing setup old mid → KeepsServing setup mid new → KeepsServing setup old new
serving_both setup old mid new one two = record {
  layout = two.layout ∙ one.layout;
  specs = two.specs ∙ one.specs;
  writers = two.writers ∙ one.writers;
  session = session_both old.session mid.session new.session one.session two.session;
  closed = λ place inside. two.closed place inside ∙ one.closed place inside;
}
