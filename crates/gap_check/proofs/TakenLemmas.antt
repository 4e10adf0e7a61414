-- What the tellers have taken, and what it says of the records.
use Rattle.std.proofs.Common.{◌≡◌, ◌≢◌, ℕ, zero, suc, ◌+◌, ◌-◌, ◌<◌, ◌≤◌, Bool, true, false, cond, List, [], ◌∷◌, ◌++◌, length, map, set, Option, Some, None, refl, sym, ap, ◌∙◌, subst, arith, append_assoc, length-append, inl, inr, ⊎_elim, eq-eqb}
use Rattle.std.specs.Prelude.{slice_get, ◌==◌, not, filter}
use Rattle.std.proofs.lemmas.Bool.{cases_eq, ne_eqb}
use Rattle.std.proofs.lemmas.List.{append-nil, map-append, length-set}
use Rattle.std.proofs.lemmas.List.Elements.{All-nil, All-push, filter-append}
use Rattle.std.proofs.lemmas.Option.{slice_get_within}
use Rattle.trace_base.proofs.Lists.{some_there}
use Rattle.trace_model.specs.Record.{record_of, mark_where}
use Rattle.trace_model.specs.Tells.{IsTold, TellsFrom, Tells}
use Rattle.trace_model.specs.Delivery.{Delivered, records_of, sequence_of, IsFaithful}
use Rattle.trace_file.specs.Apart.{SaysPacket, SaysOnly, SaysNone, BeginsWithMark}
use Rattle.packet_runs.specs.Runs.{Said, IsAt, StandFrom, StandIn}
use Rattle.packet_runs.specs.Tellers.{IsAfter, IsReady}
use Rattle.packet_runs.specs.declared.teller.Teller.{Teller}
use Rattle.packet_runs.proofs.RunLemmas.{is_told}
use Rattle.gap_check.specs.Taken.{AllSay, HasTaken, AllTaken, AreFew}
use Rattle.gap_check.specs.Verdicts.{AreUnmarked}

-- ---- records and what they say

-- no packet of one writer begins with the mark
abbrev pub NoneBegins : List (List ℕ) → Type 0
NoneBegins packets = (place : ℕ) (packet : List ℕ) → slice_get packets place ≡ Some packet → BeginsWithMark packet → ⊥

pub to_said : (packets : List (List ℕ)) (sequence : ℕ) (first : Bool) (next : ℕ) (records : List (List ℕ)) (said : List Said) → NoneBegins packets
    → AllSay sequence records said → TellsFrom packets sequence first next records → StandFrom packets first next said
to_said packets sequence first next [] [] clean all tells = tt
to_said packets sequence first next [] (s ∷ others) clean all tells = absurd all
to_said packets sequence first next (bytes ∷ records) [] clean all tells = absurd all
to_said packets sequence first next (bytes ∷ records) (s ∷ others) clean all tells =
    let told = tells.1 in
    let same = all.1 told.packet told.front told.behind (clean tells.0 told.packet told.emitted_there) told.exact in
    let at : IsAt packets first next tells.0 s = record {
      emitted_there = told.emitted_there ∙ ap Some same.0;
      not_before = told.not_before;
      marked = sym same.1 ∙ told.marked;
    } in
    (tells.0, at, to_said packets sequence false (suc tells.0) records others clean all.2 tells.2)

pub from_said : (packets : List (List ℕ)) (sequence : ℕ) (first : Bool) (next : ℕ) (records : List (List ℕ)) (said : List Said)
    → AllSay sequence records said → StandFrom packets first next said → TellsFrom packets sequence first next records
from_said packets sequence first next [] [] all stands = tt
from_said packets sequence first next [] (s ∷ others) all stands = absurd all
from_said packets sequence first next (bytes ∷ records) [] all stands = absurd all
from_said packets sequence first next (bytes ∷ records) (s ∷ others) all stands =
    let at = stands.1 in
    let says = all.0 in
    let told : IsTold packets sequence first next stands.0 bytes = record {
      packet = s.packet;
      emitted_there = at.emitted_there;
      not_before = at.not_before;
      front = says.front;
      behind = says.behind;
      exact = says.exact;
      marked = says.marked_is ∙ at.marked;
    } in
    (stands.0, told, from_said packets sequence false (suc stands.0) records others all.2 stands.2)

all_push : (sequence : ℕ) (records : List (List ℕ)) (said : List Said) (bytes : List ℕ) (one : Said) → AllSay sequence records said
    → SaysPacket bytes sequence one.packet one.marked → SaysOnly bytes sequence one.packet one.marked → AllSay sequence (records ++ bytes ∷ []) (said ++ one ∷ [])
all_push sequence [] [] bytes one all says only = (says, only, tt)
all_push sequence [] (s ∷ others) bytes one all says only = absurd all
all_push sequence (r ∷ records) [] bytes one all says only = absurd all
all_push sequence (r ∷ records) (s ∷ others) bytes one all says only = (all.0, all.1, all_push sequence records others bytes one all.2 says only)

-- bytes that are no record are told behind no others
nothing_told : (packets : List (List ℕ)) (sequence : ℕ) (first : Bool) (next : ℕ) (records : List (List ℕ)) (bytes : List ℕ) → SaysNone bytes sequence
    → TellsFrom packets sequence first next (records ++ bytes ∷ []) → ⊥
nothing_told packets sequence first next [] bytes none tells = none tells.1.packet tells.1.front tells.1.behind tells.1.exact
nothing_told packets sequence first next (r ∷ records) bytes none tells = nothing_told packets sequence false (suc tells.0) records bytes none tells.2

-- ---- one sequence among all

records-push : (sequence : ℕ) (delivered : List Delivered) (one : Delivered)
    → records_of sequence (delivered ++ one ∷ []) ≡ records_of sequence delivered ++ map (λ (d : Delivered). d.bytes) (cond (one.sequence == sequence) (one ∷ []) [])
records-push sequence delivered one =
    ap (map (λ (d : Delivered). d.bytes)) (filter-append (λ (d : Delivered). d.sequence == sequence) delivered (one ∷ []))
    ∙ map-append (λ (d : Delivered). d.bytes) (filter (λ (d : Delivered). d.sequence == sequence) delivered) (cond (one.sequence == sequence) (one ∷ []) [])

records_same : (sequence : ℕ) (delivered : List Delivered) (one : Delivered) → one.sequence ≡ sequence
    → records_of sequence (delivered ++ one ∷ []) ≡ records_of sequence delivered ++ one.bytes ∷ []
records_same sequence delivered one e =
    records-push sequence delivered one
    ∙ ap (λ (b : Bool). records_of sequence delivered ++ map (λ (d : Delivered). d.bytes) (cond b (one ∷ []) [])) (eq-eqb one.sequence sequence e)

records_other : (sequence : ℕ) (delivered : List Delivered) (one : Delivered) → one.sequence ≢ sequence
    → records_of sequence (delivered ++ one ∷ []) ≡ records_of sequence delivered
records_other sequence delivered one apart =
    records-push sequence delivered one
    ∙ ap (λ (b : Bool). records_of sequence delivered ++ map (λ (d : Delivered). d.bytes) (cond b (one ∷ []) [])) (ne_eqb one.sequence sequence apart)
    ∙ append-nil (records_of sequence delivered)

get_set_same : (ts : List Teller) (i : ℕ) (t : Teller) → i < length ts → slice_get (set ts i t) i ≡ Some t
get_set_same [] i t within = absurd (omega (arith, within))
get_set_same (x ∷ xs) zero t within = refl
get_set_same (x ∷ xs) (suc i) t within = get_set_same xs i t (omega (arith, within))

get_set_other : (ts : List Teller) (i j : ℕ) (t : Teller) → j ≢ i → slice_get (set ts i t) j ≡ slice_get ts j
get_set_other [] i j t apart = refl
get_set_other (x ∷ xs) zero zero t apart = absurd (apart refl)
get_set_other (x ∷ xs) zero (suc j) t apart = refl
get_set_other (x ∷ xs) (suc i) zero t apart = refl
get_set_other (x ∷ xs) (suc i) (suc j) t apart = get_set_other xs i j t (λ e. apart (ap suc e))

-- ---- all sequences

pub taken_faithful : (emitted : List (List (List ℕ))) (delivered : List Delivered) (tellers : List Teller) → AllTaken emitted delivered tellers → IsFaithful emitted delivered
taken_faithful emitted delivered tellers h = record {
  known = h.known;
  told = λ writer packets e.
      let there = some_there tellers writer (omega (arith, slice_get_within emitted writer packets e, h.many)) in
      let one = h.each writer packets there.0 e there.1 in
      from_said packets (sequence_of writer) true 0 (records_of (sequence_of writer) delivered) one.said one.all (is_told packets one.said there.0.place there.0.len one.after);
}

pub none_untold : (emitted : List (List (List ℕ))) (delivered : List Delivered) (one : Delivered) (writer : ℕ) (packets : List (List ℕ))
    → slice_get emitted writer ≡ Some packets → one.sequence ≡ sequence_of writer → SaysNone one.bytes one.sequence → IsFaithful emitted (delivered ++ one ∷ []) → ⊥
none_untold emitted delivered one writer packets e is none faithful =
    nothing_told packets (sequence_of writer) true 0 (records_of (sequence_of writer) delivered) one.bytes
    (subst (SaysNone one.bytes) is none)
    (subst (Tells packets (sequence_of writer)) (records_same (sequence_of writer) delivered one is) (faithful.told writer packets e))

pub said_untold : (emitted : List (List (List ℕ))) (delivered : List Delivered) (tellers : List Teller) (one : Delivered) (writer : ℕ) (packets : List (List ℕ)) (teller : Teller)
    (packet : List ℕ) (marked : Bool) → AllTaken emitted delivered tellers → AreUnmarked emitted → slice_get emitted writer ≡ Some packets → slice_get tellers writer ≡ Some teller
    → one.sequence ≡ sequence_of writer → SaysPacket one.bytes one.sequence packet marked → SaysOnly one.bytes one.sequence packet marked
    → ((said : List Said) → IsAfter packets said teller.place teller.len → StandIn packets (said ++ record { packet = packet; marked = marked } ∷ []) → ⊥)
    → IsFaithful emitted (delivered ++ one ∷ []) → ⊥
said_untold emitted delivered tellers one writer packets teller packet marked h clean e f is says only untold faithful =
    let taken = h.each writer packets teller e f in
    let said : Said = record { packet = packet; marked = marked } in
    let all = all_push (sequence_of writer) (records_of (sequence_of writer) delivered) taken.said one.bytes said taken.all
    (subst (λ (q : ℕ). SaysPacket one.bytes q packet marked) is says) (subst (λ (q : ℕ). SaysOnly one.bytes q packet marked) is only) in
    untold taken.said taken.after
    (to_said packets (sequence_of writer) true 0 (records_of (sequence_of writer) delivered ++ one.bytes ∷ []) (taken.said ++ said ∷ []) (clean writer packets e) all
    (subst (Tells packets (sequence_of writer)) (records_same (sequence_of writer) delivered one is) (faithful.told writer packets e)))

same_some : (x y : List (List ℕ)) → Some x ≡ Some y → x ≡ y
same_some x y e = cc

same_teller : (x y : Teller) → Some x ≡ Some y → x ≡ y
same_teller x y e = cc

pub said_told : (emitted : List (List (List ℕ))) (delivered : List Delivered) (tellers : List Teller) (one : Delivered) (writer : ℕ) (packets : List (List ℕ)) (teller new : Teller)
    (packet : List ℕ) (marked : Bool) → AllTaken emitted delivered tellers → slice_get emitted writer ≡ Some packets → slice_get tellers writer ≡ Some teller
    → one.sequence ≡ sequence_of writer → SaysPacket one.bytes one.sequence packet marked → SaysOnly one.bytes one.sequence packet marked
    → ((said : List Said) → IsAfter packets said teller.place teller.len → IsAfter packets (said ++ record { packet = packet; marked = marked } ∷ []) new.place new.len)
    → IsReady packets new.place new.len new.borders.items → AllTaken emitted (delivered ++ one ∷ []) (set tellers writer new)
said_told emitted delivered tellers one writer packets teller new packet marked h e f is says only told ready = record {
  many = length-set tellers writer new ∙ h.many;
  known = All-push (λ (d : Delivered). (2 ≤ d.sequence) × (d.sequence < sequence_of (length emitted))) delivered one h.known
      (omega (arith, is), omega (arith, is, slice_get_within emitted writer packets e));
  each = λ other those t e' f'. ⊎_elim (λ (same : other ≡ writer). here other those t same e' f') (λ (apart : other ≢ writer). there other those t apart e' f') (cases_eq other writer);
}
  where
    here : (other : ℕ) (those : List (List ℕ)) (t : Teller) → other ≡ writer → slice_get emitted other ≡ Some those → slice_get (set tellers writer new) other ≡ Some t
        → HasTaken those (sequence_of other) (records_of (sequence_of other) (delivered ++ one ∷ [])) t
    here other those t same e' f' =
        let taken = h.each writer packets teller e f in
        let said : Said = record { packet = packet; marked = marked } in
        let now : HasTaken packets (sequence_of writer) (records_of (sequence_of writer) delivered ++ one.bytes ∷ []) new = record {
          said = taken.said ++ said ∷ [];
          all = all_push (sequence_of writer) (records_of (sequence_of writer) delivered) taken.said one.bytes said taken.all
              (subst (λ (q : ℕ). SaysPacket one.bytes q packet marked) is says) (subst (λ (q : ℕ). SaysOnly one.bytes q packet marked) is only);
          after = told taken.said taken.after;
          ready = ready;
        } in
        let packets_are : Some packets ≡ Some those = sym e ∙ ap (slice_get emitted) (sym same) ∙ e' in
        let teller_is : Some new ≡ Some t = sym (get_set_same tellers writer new (slice_get_within tellers writer teller f)) ∙ ap (slice_get (set tellers writer new)) (sym same) ∙ f' in
        let p : packets ≡ those = same_some packets those packets_are in
        let q : new ≡ t = same_teller new t teller_is in
        let there : HasTaken packets (sequence_of writer) (records_of (sequence_of writer) (delivered ++ one ∷ [])) new =
        subst (λ (rs : List (List ℕ)). HasTaken packets (sequence_of writer) rs new) (sym (records_same (sequence_of writer) delivered one is)) now in
        let moved = subst (λ (w : ℕ). HasTaken packets (sequence_of w) (records_of (sequence_of w) (delivered ++ one ∷ [])) new) (sym same) there in
        subst (λ (x : Teller). HasTaken those (sequence_of other) (records_of (sequence_of other) (delivered ++ one ∷ [])) x) q
        (subst (λ (ps : List (List ℕ)). HasTaken ps (sequence_of other) (records_of (sequence_of other) (delivered ++ one ∷ [])) new) p moved)

    there : (other : ℕ) (those : List (List ℕ)) (t : Teller) → other ≢ writer → slice_get emitted other ≡ Some those → slice_get (set tellers writer new) other ≡ Some t
        → HasTaken those (sequence_of other) (records_of (sequence_of other) (delivered ++ one ∷ [])) t
    there other those t apart e' f' =
        subst (λ (rs : List (List ℕ)). HasTaken those (sequence_of other) rs t) (sym (records_other (sequence_of other) delivered one (λ same. apart (omega (arith, same, is)))))
        (h.each other those t e' (sym (get_set_other tellers writer other new apart) ∙ f'))

-- ---- tellers that are made

pub record AreMade (emitted : List (List (List ℕ))) (tellers : List Teller) (count : ℕ) : Type 0 where
  pub many : length tellers ≡ count
  pub each : (writer : ℕ) (packets : List (List ℕ)) (teller : Teller) → slice_get emitted writer ≡ Some packets → slice_get tellers writer ≡ Some teller
      → IsAfter packets [] teller.place teller.len × IsReady packets teller.place teller.len teller.borders.items

pub made_all : (emitted : List (List (List ℕ))) (tellers : List Teller) (count : ℕ) → AreMade emitted tellers count → count ≡ length emitted → AllTaken emitted [] tellers
made_all emitted tellers count h all = record {
  many = h.many ∙ all;
  known = All-nil (λ (d : Delivered). (2 ≤ d.sequence) × (d.sequence < sequence_of (length emitted)));
  each = λ writer packets teller e f. let made = h.each writer packets teller e f in record { said = []; all = tt; after = made.0; ready = made.1 };
}

get_push_last : (ts : List Teller) (t x : Teller) → slice_get (ts ++ t ∷ []) (length ts) ≡ Some x → t ≡ x
get_push_last [] t x e = cc
get_push_last (y ∷ ys) t x e = get_push_last ys t x e

get_push_first : (ts : List Teller) (t : Teller) (i : ℕ) → i < length ts → slice_get (ts ++ t ∷ []) i ≡ slice_get ts i
get_push_first [] t i within = absurd (omega (arith, within))
get_push_first (y ∷ ys) t zero within = refl
get_push_first (y ∷ ys) t (suc i) within = get_push_first ys t i (omega (arith, within))

pub made_more : (emitted : List (List (List ℕ))) (tellers : List Teller) (count : ℕ) (teller : Teller) (packets : List (List ℕ)) → AreMade emitted tellers count
    → slice_get emitted count ≡ Some packets → IsAfter packets [] teller.place teller.len → IsReady packets teller.place teller.len teller.borders.items
    → AreMade emitted (tellers ++ teller ∷ []) (count + 1)
made_more emitted tellers count teller packets h there after ready = record {
  many = length-append tellers (teller ∷ []) ∙ ap (λ (n : ℕ). n + 1) h.many;
  each = λ writer those t e f. ⊎_elim
      (λ (last : writer ≡ count).
      let packets_are : packets ≡ those = same_some packets those (sym there ∙ ap (slice_get emitted) (sym last) ∙ e) in
      let t_is : teller ≡ t = get_push_last tellers teller t (ap (slice_get (tellers ++ teller ∷ [])) (h.many ∙ sym last) ∙ f) in
      subst (λ (x : Teller). IsAfter those [] x.place x.len × IsReady those x.place x.len x.borders.items) t_is
      (subst (λ (ps : List (List ℕ)). IsAfter ps [] teller.place teller.len × IsReady ps teller.place teller.len teller.borders.items) packets_are (after, ready)))
      (λ (before : writer ≢ count).
      let within : writer < length tellers =
      omega (arith, before, slice_get_within (tellers ++ teller ∷ []) writer t f, length-append tellers (teller ∷ []), h.many) in
      h.each writer those t e (sym (get_push_first tellers teller writer within) ∙ f))
      (cases_eq writer count);
}
