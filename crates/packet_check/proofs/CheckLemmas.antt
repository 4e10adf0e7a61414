-- What the check has come to: over whole fields, over some bytes of a piece, and over all of it.
use Rattle.std.proofs.Common.{◌≡◌, ℕ, ◌+◌, ◌-◌, ◌^◌, ◌<◌, ◌≤◌, true, List, [], ◌∷◌, length, take, drop, get_or, refl, sym, ap, ◌∙◌, subst, arith, Ok, length-drop, drop-cons}
use Rattle.std.proofs.lemmas.List.{take-append-drop, length-take-le, take_all}
use Rattle.std.proofs.Math.Seq.{take-add}
use Rattle.trace_base.specs.declared.limits.TheConstants.{MAX_INPUT}
use Rattle.trace_model.specs.Fields.{MessageField}
use Rattle.trace_model.specs.Walks.{WalkPart, Between, InContent, Unfit, Refused, Walk, packet_start, field_ended, content_left, step, walk_over, is_between, is_accepted}
use Rattle.packet_check.specs.Answers.{answer_in, answer_of, walk_behind}
use Rattle.packet_check.specs.Messages.{HasField, HasFreeField, HasHead}
use Rattle.packet_check.specs.Values as values
use Rattle.packet_check.specs.declared.walk.Part.{Part}
use Rattle.packet_check.specs.declared.walk.Walk as code
use Rattle.packet_check.proofs.AnswerLemmas.{IsBetween}
use Rattle.packet_check.proofs.RiseLemmas.{begun_walk, walk_counts}
use Rattle.packet_check.proofs.WalkLemmas.{walk_at, walked_on, content_walk, field_walk, head_walk, unfit_walk, refused_walk, ended_passed}

long : (bytes : List ℕ) (at len : ℕ) → at + len ≤ length bytes → length (take len (drop at bytes)) ≡ len
long bytes at len within = length-take-le len (drop at bytes) (omega (arith, length-drop at bytes, within))

-- ---- over some bytes of a piece

-- the walk at another place
pub moved : (walk next : code.Walk) (at : ℕ) → next.at ≡ at → next.start ≡ walk.start → next.number ≡ walk.number → next.part ≡ walk.part
    → values.walk_of next ≡ walk_at at walk.start walk.number (values.part_of walk.part)
moved walk next at place start number part =
    ap (λ (n : ℕ). walk_at n next.start next.number (values.part_of next.part)) place
    ∙ ap (λ (n : ℕ). walk_at at n next.number (values.part_of next.part)) start
    ∙ ap (λ (n : ℕ). walk_at at walk.start n (values.part_of next.part)) number
    ∙ ap (λ (p : Part). walk_at at walk.start walk.number (values.part_of p)) part

pub one_taken : (walk : Walk) (bytes : List ℕ) (at : ℕ) → at < length bytes → step walk (get_or bytes at 0) ≡ walk_over walk (take 1 (drop at bytes))
one_taken walk bytes at within = rw (drop-cons bytes at 0) refl

pub field_taken : (bytes : List ℕ) (here number len at start before : ℕ) (part : WalkPart) → part ≡ Between → HasField (drop here bytes) number len
    → field_ended (walk_at (at + len) at number Between) ≡ walk_over (walk_at at start before part) (take len (drop here bytes))
field_taken bytes here number len at start before part is h =
    let field : MessageField = record { number = number; value = h.value } in
    sym
    (ap (λ (p : WalkPart). walk_over (walk_at at start before p) (take len (drop here bytes))) is
    ∙ field_walk (record { number = number; value = h.value }) (take len (drop here bytes)) at start before Between h.spells
    ∙ ap (λ (n : ℕ). field_ended (walk_at (at + n) at number Between)) (length-take-le len (drop here bytes) h.within))

pub head_taken : (bytes : List ℕ) (here number width size at start before : ℕ) (part : WalkPart) → part ≡ Between → HasHead (drop here bytes) number width size
    → content_left size (walk_at (at + width) at number Between) ≡ walk_over (walk_at at start before part) (take width (drop here bytes))
head_taken bytes here number width size at start before part is h =
    sym
    (ap (λ (p : WalkPart). walk_over (walk_at at start before p) (take width (drop here bytes))) is
    ∙ ap (walk_over (walk_at at start before Between)) h.cut
    ∙ head_walk h.tag h.low size at start before number Between h.is_tag h.numbered h.in_range h.is_size
    ∙ ap (λ (n : ℕ). content_left size (walk_at (at + n) at number Between)) (ap length (sym h.cut) ∙ length-take-le width (drop here bytes) h.within))

pub content_taken : (bytes : List ℕ) (here len left at start number : ℕ) (part : WalkPart) → part ≡ InContent left → 1 ≤ left → len ≤ left
    → here + len ≤ length bytes → content_left (left - len) (walk_at (at + len) start number part) ≡ walk_over (walk_at at start number part) (take len (drop here bytes))
content_taken bytes here len left at start number part is some most within =
    let whole : length (take len (drop here bytes)) ≡ len = long bytes here len within in
    sym
    (ap (λ (p : WalkPart). walk_over (walk_at at start number p) (take len (drop here bytes))) is
    ∙ content_walk (take len (drop here bytes)) left at start number part some (omega (arith, whole, most))
    ∙ ap (λ (n : ℕ). content_left (left - n) (walk_at (at + n) start number part)) whole)

pub unfit_taken : (bytes : List ℕ) (here len at start number : ℕ) (part : WalkPart) → part ≡ Unfit → here + len ≤ length bytes
    → walk_at (at + len) start number part ≡ walk_over (walk_at at start number part) (take len (drop here bytes))
unfit_taken bytes here len at start number part is within =
    ap (walk_at (at + len) start number) is
    ∙ sym
    (ap (λ (p : WalkPart). walk_over (walk_at at start number p) (take len (drop here bytes))) is
    ∙ unfit_walk (take len (drop here bytes)) at start number
    ∙ ap (λ (n : ℕ). walk_at (at + n) start number Unfit) (long bytes here len within))

pub refused_taken : (bytes : List ℕ) (here len at start number : ℕ) (part : WalkPart) → part ≡ Refused → here + len ≤ length bytes
    → walk_at (at + len) start number part ≡ walk_over (walk_at at start number part) (take len (drop here bytes))
refused_taken bytes here len at start number part is within =
    ap (walk_at (at + len) start number) is
    ∙ sym
    (ap (λ (p : WalkPart). walk_over (walk_at at start number p) (take len (drop here bytes))) is
    ∙ refused_walk (take len (drop here bytes)) at start number
    ∙ ap (λ (n : ℕ). walk_at (at + n) start number Refused) (long bytes here len within))

-- ---- over a piece

-- the walk has come over so many bytes of the piece
pub record IsTakenTo (walk there : code.Walk) (piece : List ℕ) (at : ℕ) : Type 0 where
  pub is : values.walk_of there ≡ walk_over (values.walk_of walk) (take at piece)
  pub part : values.IsPart there.part
  pub place : there.at ≡ walk.at + at
  pub within : at ≤ length piece

pub taken_none : (walk : code.Walk) (piece : List ℕ) → values.IsPart walk.part → IsTakenTo walk walk piece 0
taken_none walk piece part = record { is = refl; part = part; place = omega arith; within = omega arith }

pub taken_more : (walk there next : code.Walk) (piece : List ℕ) (at taken : ℕ) → IsTakenTo walk there piece at
    → values.walk_of next ≡ walk_over (values.walk_of there) (take taken (drop at piece)) → values.IsPart next.part
    → next.at ≡ there.at + taken → at + taken ≤ length piece → IsTakenTo walk next piece (at + taken)
taken_more walk there next piece at taken h is part place within = record {
  is =
      is ∙ ap (λ (w : Walk). walk_over w (take taken (drop at piece))) h.is ∙ sym (walked_on (values.walk_of walk) (take at piece) (take taken (drop at piece)))
      ∙ ap (walk_over (values.walk_of walk)) (sym (take-add at taken piece));
  part = part;
  place = omega (arith, place, h.place);
  within = within;
}

pub taken_all : (walk there : code.Walk) (piece : List ℕ) (at : ℕ) → IsTakenTo walk there piece at → length piece ≤ at
    → values.walk_of there ≡ walk_over (values.walk_of walk) piece
taken_all walk there piece at h end = h.is ∙ ap (walk_over (values.walk_of walk)) (take_all at piece end)

-- ---- over whole fields

-- so many bytes are fields that pass
pub record IsWalkedTo (bytes : List ℕ) (at : ℕ) : Type 0 where
  pub within : at ≤ length bytes
  pub between : IsBetween at (walk_over packet_start (take at bytes))

pub walked_none : (bytes : List ℕ) → IsWalkedTo bytes 0
walked_none bytes = record { within = omega arith; between = record { start = 0; number = 0; is = refl } }

-- with one field more
over_one : (bytes : List ℕ) (at number len : ℕ) → IsWalkedTo bytes at → HasField (drop at bytes) number len
    → walk_over packet_start (take (at + len) bytes) ≡ field_ended (walk_at (at + len) at number Between)
over_one bytes at number len h field =
    ap (walk_over packet_start) (take-add at len bytes)
    ∙ walked_on packet_start (take at bytes) (take len (drop at bytes))
    ∙ ap (λ (w : Walk). walk_over w (take len (drop at bytes))) h.between.is
    ∙ sym (field_taken bytes at number len at h.between.start h.between.number Between refl field)

pub walked_more : (bytes : List ℕ) (at len : ℕ) → IsWalkedTo bytes at → HasFreeField (drop at bytes) len → IsWalkedTo bytes (at + len)
walked_more bytes at len h f = record {
  within = omega (arith, f.field.within, h.within, length-drop at bytes);
  between = record {
    start = at;
    number = f.number;
    is = over_one bytes at f.number len h f.field ∙ ended_passed (at + len) at f.number Between f.free;
  };
}

-- a field's first byte says where it begins: so what comes behind a field's end says nothing of the fields before
behind_is : (bytes : List ℕ) (at start number : ℕ) → 0 < length bytes → walk_over (walk_behind at) bytes ≡ walk_over (walk_at at start number Between) bytes
behind_is [] at start number some = absurd (omega (arith, some))
behind_is (byte ∷ bytes) at start number some = refl

over_rest : (bytes : List ℕ) (at : ℕ) (h : IsWalkedTo bytes at)
    → walk_over (walk_at at h.between.start h.between.number Between) (drop at bytes) ≡ walk_over packet_start bytes
over_rest bytes at h =
    ap (λ (w : Walk). walk_over w (drop at bytes)) (sym h.between.is)
    ∙ sym (walked_on packet_start (take at bytes) (drop at bytes))
    ∙ ap (walk_over packet_start) (take-append-drop at bytes)

rest_is : (bytes : List ℕ) (at : ℕ) → IsWalkedTo bytes at → at < length bytes
    → walk_over (walk_behind at) (drop at bytes) ≡ walk_over packet_start bytes
rest_is bytes at h before =
    behind_is (drop at bytes) at h.between.start h.between.number (omega (arith, length-drop at bytes, before)) ∙ over_rest bytes at h

whole_is : (bytes : List ℕ) (at : ℕ) → IsWalkedTo bytes at → at ≡ length bytes → (walk_over packet_start bytes).part ≡ Between
whole_is bytes at h end =
    ap (λ (xs : List ℕ). (walk_over packet_start xs).part) (sym (take_all at bytes (omega (arith, end)))) ∙ ap (λ (w : Walk). w.part) h.between.is

pub front_is : (bytes : List ℕ) (at : ℕ) → IsWalkedTo bytes at → values.IsFront bytes at
front_is bytes at h = record { within = h.within; whole = whole_is bytes at h; rest = rest_is bytes at h }

-- what is answered then

part_answer : (walk : Walk) (part : WalkPart) → walk.part ≡ part → answer_of walk ≡ answer_in part walk.start walk.number
part_answer walk part is = ap (λ (p : WalkPart). answer_in p walk.start walk.number) is

pub whole_answer : (bytes : List ℕ) (at : ℕ) → values.IsFront bytes at → at ≡ length bytes → Ok tt ≡ answer_of (walk_over packet_start bytes)
whole_answer bytes at h end = sym (part_answer (walk_over packet_start bytes) Between (h.whole end))

pub rest_answer : (bytes : List ℕ) (at : ℕ) (rest : code.Walk) → values.IsFront bytes at → at < length bytes
    → values.walk_of rest ≡ walk_over (walk_behind at) (drop at bytes) → answer_of (values.walk_of rest) ≡ answer_of (walk_over packet_start bytes)
rest_answer bytes at rest h before is = ap answer_of (is ∙ h.rest before)

-- the last field begins in the packet
pub rest_few : (bytes : List ℕ) (at : ℕ) (rest : code.Walk) → length bytes ≤ MAX_INPUT → at < length bytes
    → values.walk_of rest ≡ walk_over (walk_behind at) (drop at bytes) → rest.start < 2 ^ 32
rest_few bytes at rest most before is =
    let begun = subst (λ (w : Walk). w.start ≤ w.at) (sym is) (begun_walk (drop at bytes) (walk_behind at) (omega arith)) in
    let place : rest.at ≡ at + length (drop at bytes) = ap (λ (w : Walk). w.at) is ∙ walk_counts (drop at bytes) (walk_behind at) in
    omega (arith, begun, place, most, before, length-drop at bytes)

pub accepted_is : (bytes : List ℕ) → is_accepted bytes ≡ is_between (walk_over packet_start bytes).part
unfolding is_accepted
accepted_is bytes = refl

pub whole_accepted : (bytes : List ℕ) (at : ℕ) → values.IsFront bytes at → at ≡ length bytes → true ≡ is_accepted bytes
whole_accepted bytes at h end = sym (accepted_is bytes ∙ ap is_between (h.whole end))

pub rest_accepted : (bytes : List ℕ) (at : ℕ) (rest : code.Walk) → values.IsFront bytes at → at < length bytes
    → values.walk_of rest ≡ walk_over (walk_behind at) (drop at bytes) → is_between (values.part_of rest.part) ≡ is_accepted bytes
rest_accepted bytes at rest h before is = ap (λ (w : Walk). is_between w.part) (is ∙ h.rest before) ∙ sym (accepted_is bytes)

pub ruleset piece_steps = (taken_none, taken_more, taken_all)

pub ruleset check_steps = (walked_none, walked_more, front_is)

pub ruleset front_steps = (whole_answer, rest_answer, rest_few, whole_accepted, rest_accepted)
