-- The walk and the grammar say the same of every packet.
use Rattle.std.proofs.Common.{◌≡◌, ◌≢◌, ℕ, zero, suc, ◌+◌, ◌≤◌, true, false, List, [], ◌∷◌, ◌++◌, length, refl, sym, ap, ◌∙◌, subst, arith, inl, inr, append_assoc, length-append, All, Result, Ok, Err}
use Rattle.std.proofs.lemmas.Bool.{cases_Bool, false≢true}
use Rattle.std.proofs.lemmas.List.Elements.{All-nil, All-cons, All-head, All-tail}
use Rattle.trace_model.specs.Fields.{MessageField, Spells, SpellsAll}
use Rattle.trace_model.specs.Walks.{WalkPart, Between, InVarint, InContent, Unfit, Refused, Walk, is_refused, packet_start, field_ended, walk_over, is_between, is_accepted}
use Rattle.packet_check.specs.Answers.{IsAnswer, answer_in, answer_of}
use Rattle.packet_check.specs.Laws.{AcceptedPass, AnswersAreOfTheGrammar, PacketsHaveOneAnswer, PiecesAreJoined}
use Rattle.packet_check.specs.Messages.{NoFieldInFront, Passes, StopsAt, RefusesField}
use Rattle.packet_check.specs.declared.fault.PacketFault.{PacketFault}
use Rattle.packet_check.specs.declared.fault.PacketFault.TheVariants.{Malformed, ReservedField}
use Rattle.packet_check.proofs.RiseLemmas.{stuck_none, field_some}
use Rattle.packet_check.proofs.SplitLemmas.{IsUnended, IsStuck, BeginsField, first_split}
use Rattle.packet_check.proofs.WalkLemmas.{walk_at, walked_on, field_walk, refused_walk, ended_passed, ended_refused}

abbrev Answer : Type 0
Answer = Result (Unit {0}) PacketFault

-- a field that writers may write
abbrev IsFree : MessageField → Type 0
IsFree field = is_refused field.number ≡ false

-- ---- what is answered where the walk is stuck, and behind a field

unended_answer : (part : WalkPart) (start number : ℕ) → IsUnended part → answer_in part start number ≡ Err (Malformed start)
unended_answer Between start number unended = absurd unended
unended_answer Refused start number unended = absurd unended
unended_answer (InVarint of value count) start number unended = refl
unended_answer (InContent left) start number unended = refl
unended_answer Unfit start number unended = refl

stuck_answer : (walk : Walk) (start : ℕ) → IsStuck start walk → answer_of walk ≡ Err (Malformed start)
stuck_answer walk start stuck =
    unended_answer walk.part walk.start walk.number stuck.unended ∙ ap (λ (n : ℕ). Err (Malformed n)) stuck.start_is

-- over a field in front, and then the rest
pub over_field : (bytes : List ℕ) (h : BeginsField bytes) (at start number : ℕ)
    → walk_over (walk_at at start number Between) bytes
    ≡ walk_over (field_ended (walk_at (at + length h.front) at h.field.number Between)) h.rest
over_field bytes h at start number =
    ap (walk_over (walk_at at start number Between)) h.cut ∙ walked_on (walk_at at start number Between) h.front h.rest
    ∙ ap (λ (walk : Walk). walk_over walk h.rest) (field_walk h.field h.front at start number Between h.spells)

pub over_passed : (bytes : List ℕ) (h : BeginsField bytes) (at start number : ℕ) → is_refused h.field.number ≡ false
    → walk_over (walk_at at start number Between) bytes ≡ walk_over (walk_at (at + length h.front) at h.field.number Between) h.rest
over_passed bytes h at start number free =
    over_field bytes h at start number
    ∙ ap (λ (walk : Walk). walk_over walk h.rest) (ended_passed (at + length h.front) at h.field.number Between free)

pub refused_answer : (bytes : List ℕ) (h : BeginsField bytes) (at start number : ℕ) → is_refused h.field.number ≡ true
    → answer_of (walk_over (walk_at at start number Between) bytes) ≡ Err (ReservedField h.field.number)
refused_answer bytes h at start number refused =
    ap answer_of
    (over_field bytes h at start number
    ∙ ap (λ (walk : Walk). walk_over walk h.rest) (ended_refused (at + length h.front) at h.field.number Between refused)
    ∙ refused_walk h.rest (at + length h.front) at h.field.number)

-- ---- what the walk answers is so

pub passes_nothing : Passes []
passes_nothing = record { fields = []; spells = refl; none = All-nil IsFree }

pub passes_more : (field : MessageField) (front rest : List ℕ) → Spells field front → is_refused field.number ≡ false → Passes rest → Passes (front ++ rest)
passes_more field front rest spells free p = record {
  fields = field ∷ p.fields;
  spells = (front, rest, refl, spells, p.spells);
  none = All-cons IsFree field p.fields free p.none;
}

-- what is answered of the bytes from this place on
abbrev AnswersFrom : ℕ → List ℕ → Answer → Type 0
AnswersFrom here bytes (Ok done) = Passes bytes
AnswersFrom here bytes (Err (Malformed place)) = (at : ℕ) × (place ≡ here + at) × StopsAt bytes at
AnswersFrom here bytes (Err (ReservedField number)) = RefusesField bytes number

behind_field : (bytes : List ℕ) (h : BeginsField bytes) (here : ℕ) (answer : Answer) → is_refused h.field.number ≡ false
    → AnswersFrom (here + length h.front) h.rest answer → AnswersFrom here bytes answer
behind_field bytes h here (Ok done) free p =
    subst Passes (sym h.cut) (passes_more h.field h.front h.rest h.spells free p)
behind_field bytes h here (Err (Malformed place)) free (at, place_is, s) = (
  length h.front + at,
  omega (arith, place_is),
  record {
    front = h.front ++ s.front;
    rest = s.rest;
    cut = h.cut ∙ ap (λ (xs : List ℕ). h.front ++ xs) s.cut ∙ sym (append_assoc h.front s.front s.rest);
    passes = passes_more h.field h.front s.front h.spells free s.passes;
    at_is = omega (arith, s.at_is, length-append h.front s.front);
    more = s.more;
    no_field = s.no_field;
  },
)
behind_field bytes h here (Err (ReservedField number)) free r = record {
  front = h.front ++ r.front;
  spelled = r.spelled;
  behind = r.behind;
  cut = h.cut ∙ ap (λ (xs : List ℕ). h.front ++ xs) r.cut ∙ sym (append_assoc h.front r.front (r.spelled ++ r.behind));
  passes = passes_more h.field h.front r.front h.spells free r.passes;
  field = r.field;
  spells = r.spells;
  number_is = r.number_is;
  refused = r.refused;
}

refused_here : (bytes : List ℕ) (h : BeginsField bytes) → is_refused h.field.number ≡ true → RefusesField bytes h.field.number
refused_here bytes h refused = record {
  front = [];
  spelled = h.front;
  behind = h.rest;
  cut = h.cut;
  passes = passes_nothing;
  field = h.field;
  spells = h.spells;
  number_is = refl;
  refused = refused;
}

stops_here : (bytes : List ℕ) → bytes ≢ [] → NoFieldInFront bytes → StopsAt bytes 0
stops_here bytes more none = record {
  front = [];
  rest = bytes;
  cut = refl;
  passes = passes_nothing;
  at_is = refl;
  more = more;
  no_field = none;
}

some_more : (byte : ℕ) (bytes : List ℕ) → byte ∷ bytes ≢ []
some_more byte bytes e = omega (arith, ap length e)

answered : (most : ℕ) (bytes : List ℕ) (at start number : ℕ) → length bytes ≤ most
    → AnswersFrom at bytes (answer_of (walk_over (walk_at at start number Between) bytes))
answered most [] at start number within = passes_nothing
answered zero (byte ∷ bytes) at start number within = absurd (omega (arith, within))
answered (suc most) (byte ∷ bytes) at start number within = elim (first_split (byte ∷ bytes) at start number (some_more byte bytes)) [
  | inl h ↦ elim (cases_Bool (is_refused h.field.number)) [
    | inl is ↦
        subst (AnswersFrom at (byte ∷ bytes)) (sym (refused_answer (byte ∷ bytes) h at start number is)) (refused_here (byte ∷ bytes) h is)
    | inr free ↦
        let less : length h.rest ≤ most = omega (arith, within, ap length h.cut, length-append h.front h.rest, field_some h.field h.front h.spells) in
        subst (AnswersFrom at (byte ∷ bytes)) (sym (ap answer_of (over_passed (byte ∷ bytes) h at start number free)))
        (behind_field (byte ∷ bytes) h at (answer_of (walk_over (walk_at (at + length h.front) at h.field.number Between) h.rest)) free
        (answered most h.rest (at + length h.front) at h.field.number less))
  ]
  | inr stuck ↦
      subst (AnswersFrom at (byte ∷ bytes)) (sym (stuck_answer (walk_over (walk_at at start number Between) (byte ∷ bytes)) at stuck))
      (0, omega arith, stops_here (byte ∷ bytes) (some_more byte bytes) (stuck_none (byte ∷ bytes) at start number stuck))
]

from_start : (bytes : List ℕ) (answer : Answer) → AnswersFrom 0 bytes answer → IsAnswer bytes answer
from_start bytes (Ok done) p = p
from_start bytes (Err (Malformed place)) (at, place_is, s) = subst (StopsAt bytes) (sym (place_is ∙ omega arith)) s
from_start bytes (Err (ReservedField number)) r = r

pub answers_are_of_the_grammar : AnswersAreOfTheGrammar
answers_are_of_the_grammar bytes =
    from_start bytes (answer_of (walk_over packet_start bytes)) (answered (length bytes) bytes 0 0 0 (omega arith))

-- ---- what is so the walk answers

-- the walk has come to a field's end at this place
pub record IsBetween (at : ℕ) (walk : Walk) : Type 0 where
  pub start : ℕ
  pub number : ℕ
  pub is : walk ≡ walk_at at start number Between

passes_walk : (fields : List MessageField) (bytes : List ℕ) (at start number : ℕ) → SpellsAll fields bytes → All IsFree fields
    → IsBetween (at + length bytes) (walk_over (walk_at at start number Between) bytes)
passes_walk [] bytes at start number none free =
    subst (λ (xs : List ℕ). IsBetween (at + length xs) (walk_over (walk_at at start number Between) xs)) (sym none)
    (record { start = start; number = number; is = ap (λ (n : ℕ). walk_at n start number Between) (omega arith) })
passes_walk (field ∷ fields) bytes at start number (front, rest, cut, spells, others) free =
    let h : BeginsField bytes = record { field = field; front = front; rest = rest; cut = cut; spells = spells } in
    let behind = passes_walk fields rest (at + length front) at field.number others (All-tail IsFree field fields free) in
    let long : at + length front + length rest ≡ at + length bytes = omega (arith, ap length cut, length-append front rest) in
    record {
      start = behind.start;
      number = behind.number;
      is =
          over_passed bytes h at start number (All-head IsFree field fields free) ∙ behind.is
          ∙ ap (λ (n : ℕ). walk_at n behind.start behind.number Between) long;
    }

passed : (bytes : List ℕ) → Passes bytes → IsBetween (length bytes) (walk_over packet_start bytes)
passed bytes p =
    subst (λ (n : ℕ). IsBetween n (walk_over packet_start bytes)) (omega arith) (passes_walk p.fields bytes 0 0 0 p.spells p.none)

-- over fields in front that pass, and then the rest
over_front : (bytes front rest : List ℕ) (b : IsBetween (length front) (walk_over packet_start front)) → bytes ≡ front ++ rest
    → walk_over packet_start bytes ≡ walk_over (walk_at (length front) b.start b.number Between) rest
over_front bytes front rest b cut =
    ap (walk_over packet_start) cut ∙ walked_on packet_start front rest ∙ ap (λ (walk : Walk). walk_over walk rest) b.is

stops_answer : (bytes : List ℕ) (at : ℕ) (s : StopsAt bytes at) → Err (Malformed at) ≡ answer_of (walk_over packet_start bytes)
stops_answer bytes at s =
    let b : IsBetween (length s.front) (walk_over packet_start s.front) = passed s.front s.passes in
    elim (first_split s.rest (length s.front) b.start b.number s.more) [
      | inl h ↦ absurd (s.no_field h.field h.front h.rest h.spells h.cut)
      | inr stuck ↦
          sym
          (ap answer_of (over_front bytes s.front s.rest b s.cut)
          ∙ stuck_answer (walk_over (walk_at (length s.front) b.start b.number Between) s.rest) (length s.front) stuck
          ∙ ap (λ (n : ℕ). Err (Malformed n)) (sym s.at_is))
    ]

refuses_answer : (bytes : List ℕ) (number : ℕ) (r : RefusesField bytes number) → Err (ReservedField number) ≡ answer_of (walk_over packet_start bytes)
refuses_answer bytes number r =
    let b : IsBetween (length r.front) (walk_over packet_start r.front) = passed r.front r.passes in
    let h : BeginsField (r.spelled ++ r.behind) = record { field = r.field; front = r.spelled; rest = r.behind; cut = refl; spells = r.spells } in
    sym
    (ap answer_of (over_front bytes r.front (r.spelled ++ r.behind) b r.cut)
    ∙ refused_answer (r.spelled ++ r.behind) h (length r.front) b.start b.number r.refused
    ∙ ap (λ (n : ℕ). Err (ReservedField n)) (sym r.number_is))

pub packets_have_one_answer : PacketsHaveOneAnswer
packets_have_one_answer bytes (Ok done) p = sym (ap answer_of (passed bytes p).is)
packets_have_one_answer bytes (Err (Malformed at)) s = stops_answer bytes at s
packets_have_one_answer bytes (Err (ReservedField number)) r = refuses_answer bytes number r

-- ---- pieces, and what is accepted

pub pieces_are_joined : PiecesAreJoined
pieces_are_joined walk piece next = sym (walked_on walk piece next)

between_answer : (part : WalkPart) (start number : ℕ) → is_between part ≡ true → answer_in part start number ≡ Ok tt
between_answer Between start number is = refl
between_answer Refused start number is = absurd (false≢true is)
between_answer (InVarint of value count) start number is = absurd (false≢true is)
between_answer (InContent left) start number is = absurd (false≢true is)
between_answer Unfit start number is = absurd (false≢true is)

accepted_passes : (bytes : List ℕ) → is_accepted bytes ≡ true → Passes bytes
unfolding is_accepted
accepted_passes bytes is =
    subst (IsAnswer bytes)
    (between_answer (walk_over packet_start bytes).part (walk_over packet_start bytes).start (walk_over packet_start bytes).number is)
    (answers_are_of_the_grammar bytes)

passing_accepted : (bytes : List ℕ) → Passes bytes → is_accepted bytes ≡ true
unfolding is_accepted
passing_accepted bytes p = ap (λ (walk : Walk). is_between walk.part) (passed bytes p).is

pub accepted_pass : AcceptedPass
accepted_pass bytes = (accepted_passes bytes, passing_accepted bytes)
