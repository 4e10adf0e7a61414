-- A table as it is made keeps what a table keeps.
use Rattle.std.proofs.Common.{◌≡◌, ℕ, ◌+◌, ◌<◌, ◌≤◌, ◌/◌, List, [], ◌∷◌, ◌++◌, length, get_or, subst, sym, refl, ap, ◌∙◌, arith, length-append}
use Rattle.std.proofs.lemmas.List.{get_or_append_left}
use Rattle.std.proofs.Math.Seq.{get_or-append_seam}
use native.Mathlib.Decide.{dec_le}
use mathlib.Core.Logic.{dite}
use Rattle.chunk_plain.specs.declared.setup.Spot.{Spot}
use Rattle.chunk_plain.specs.Setup.{no_spot, no_writer}
use Rattle.chunk_plain.specs.declared.plain_seats.PlainWriter.{PlainWriter}
use Rattle.chunk_plain.specs.Made.{IsFreeSlot, HasFreeSlots, AllZero, HasSeats}
use Rattle.chunk_plain.specs.Stored.{Stored, nothing_stored, stored_at}
use Rattle.std.proofs.Common.{zero, suc, map, replicate, inr, ◌*◌}
use Rattle.std.specs.Prelude.{All}
use Rattle.std.proofs.lemmas.List.{length-map, length-replicate}
use Rattle.std.proofs.lemmas.List.Elements.{All-head, All-tail}
use Rattle.std.proofs.lemmas.Nat.Bits.{bit_at-zero}
use mathlib.Core.Option.{some-ne-none}
use Rattle.chunk_plain.specs.Setup.{Setup, spot}
use Rattle.chunk_plain.specs.Views.{At, WriterView, Taken, newcomer, none_taken, taken_of}
use Rattle.chunk_plain.specs.World.{Unclaimed, status, writer}
use Rattle.chunk_plain.specs.Owned.{reads_of, Owns, Counts, IsOwned}
use Rattle.chunk_plain.specs.Shows.{ShowsPage, ShowsHeader, ShowsSlot, header_word}
use Rattle.chunk_plain.specs.Words.{IsAtRest, IsServing}
use Rattle.chunk_plain.specs.Plain.{first_world, IsKept}
use Rattle.trace_base.specs.declared.policy.WriterSpec.{WriterSpec}

pub slots_more : (spots : List Spot) (count : ℕ) (slots : List Stored) (slot : Stored) → HasFreeSlots spots count slots
    → IsFreeSlot (get_or spots count no_spot).payload_size slot → HasFreeSlots spots (count + 1) (slots ++ slot ∷ [])
slots_more spots count slots slot o free =
    record {
      count_is = length-append slots (slot ∷ []) ∙ (let many = o.count_is in omega arith);
      each = λ chunk below. dite (dec_le (chunk + 1) count)
          (λ less. subst (IsFreeSlot (get_or spots chunk no_spot).payload_size) (sym (get_or_append_left slots (slot ∷ []) nothing_stored chunk (let many = o.count_is in omega arith))) (o.each chunk (omega arith)))
          (λ last. let same : chunk ≡ count = omega arith in
          subst (λ i. IsFreeSlot (get_or spots i no_spot).payload_size (get_or (slots ++ slot ∷ []) i nothing_stored)) (sym same)
          (subst (IsFreeSlot (get_or spots count no_spot).payload_size) (sym (ap (λ i. get_or (slots ++ slot ∷ []) i nothing_stored) (sym o.count_is) ∙ get_or-append_seam slots slot [] nothing_stored)) free));
    }

pub seats_more : (count : ℕ) (seats : List PlainWriter) → HasSeats count seats → HasSeats (count + 1) (seats ++ record { place = count } ∷ [])
seats_more count seats o =
    let new : PlainWriter = record { place = count } in let none : PlainWriter = record { place = 0 } in
    record {
      count_is = length-append seats (new ∷ []) ∙ (let many = o.count_is in omega arith);
      place_is = λ k below. dite (dec_le (k + 1) count)
          (λ less. ap (λ (seat : PlainWriter). seat.place) (get_or_append_left seats (new ∷ []) none k (let many = o.count_is in omega arith)) ∙ o.place_is k (omega arith))
          (λ last. let same : k ≡ count = omega arith in
          ap (λ (seat : PlainWriter). seat.place) (ap (λ i. get_or (seats ++ new ∷ []) i none) (same ∙ sym o.count_is) ∙ get_or-append_seam seats new [] none) ∙ sym same);
    }

-- ---- the first world

-- a list of one element, wherever it is read
pub all_same : {A B : Type 0} (d : B) (xs : List A) (i : ℕ) → get_or (map (λ (_ : A). d) xs) i d ≡ d
all_same d [] i = refl
all_same d (x ∷ xs) zero = refl
all_same d (x ∷ xs) (suc i) = all_same d xs i

-- the writer begins with the id 0
abbrev pub BeginsAtNought : WriterSpec → Type 0
BeginsAtNought spec = spec.from ≡ 0

-- where every writer does, so does the one at each place, and one that there isn't
pub from_nought : (specs : List WriterSpec) (place : ℕ) → All BeginsAtNought specs → (get_or specs place no_writer).from ≡ 0
from_nought [] place all = refl
from_nought (spec ∷ specs) zero all = All-head BeginsAtNought spec specs all
from_nought (spec ∷ specs) (suc place) all = from_nought specs place (All-tail BeginsAtNought spec specs all)

all_zero : (n i : ℕ) → let zeros : List ℕ = replicate n 0 in get_or zeros i 0 ≡ 0
all_zero zero i = refl
all_zero (suc n) zero = refl
all_zero (suc n) (suc i) = all_zero n i

nothing_owned : (place chunk : ℕ) → Owns 0 place newcomer chunk Unclaimed
nothing_owned place chunk = record {
  claimed = refl;
  stamp_is = λ position e. absurd cc;
  stamped_is = λ position e. absurd cc;
  held_is = λ position head e. absurd (some-ne-none _ (sym e));
  writing_is = λ position head e. absurd cc;
  completed_is = λ position content e above. absurd (some-ne-none _ (sym e));
  ready_is = λ position content e. absurd cc;
  reading_is = λ position content e. absurd cc;
}

nothing_counted : (place : ℕ) → Counts none_taken place newcomer
nothing_counted place = record {
  wins = λ about. refl;
  next = λ stamp e. absurd cc;
  named = λ position chunk content e. absurd (some-ne-none _ (sym e));
  drafts = λ position chunk draft e. absurd (some-ne-none _ (sym e));
  wholes = λ position chunk content e. absurd (some-ne-none _ (sym e));
  completed = λ position below. absurd (omega arith);
  learnt = λ position content e. absurd (some-ne-none _ (sym e));
  level = omega arith;
}

pub first_owned : (setup : Setup) → IsOwned (first_world setup)
first_owned setup =
    let free : (c : ℕ) → status (first_world setup) c ≡ Unclaimed = λ c. all_same Unclaimed setup.spots c in
    let fresh : (k : ℕ) → writer (first_world setup) k ≡ newcomer = λ k. all_same newcomer setup.writers k in
    let untaken : (k : ℕ) → taken_of (first_world setup).service k ≡ none_taken = λ k. all_same none_taken setup.writers k in
    record {
      owns = λ k c. subst (λ (t : Taken). Owns t.count k (writer (first_world setup) k) c (status (first_world setup) c)) (sym (untaken k))
          (subst (λ v. Owns 0 k v c (status (first_world setup) c)) (sym (fresh k)) (subst (λ t. Owns 0 k newcomer c t) (sym (free c)) (nothing_owned k c)));
      counts = λ k. subst (λ t. Counts t k (writer (first_world setup) k)) (sym (untaken k)) (subst (λ v. Counts none_taken k v) (sym (fresh k)) (nothing_counted k));
      reads = λ c. subst (λ t. 0 ≡ reads_of t) (sym (free c)) refl;
      claimed_won = λ c claimed. absurd (claimed (free c));
      ordered = record { order = []; each = λ k. ap (λ (v : WriterView). v.asked) (fresh k); won_before = λ n one at lost. absurd (some-ne-none one (sym at)) };
      looks = λ n look found at is. absurd (some-ne-none look (sym at));
      all_taken = length-map setup.writers (λ _. none_taken) ∙ sym (length-map setup.writers (λ _. newcomer));
    }

pub first_kept : (setup : Setup) (slots : List Stored) → HasFreeSlots setup.spots (length setup.spots) slots
    → IsKept setup (replicate (setup.pages + length setup.spots) 0) slots (first_world setup)
first_kept setup slots o =
    let words = replicate (setup.pages + length setup.spots) 0 in
    let free : (c : ℕ) → status (first_world setup) c ≡ Unclaimed = λ c. all_same Unclaimed setup.spots c in
    let fresh : (k : ℕ) → writer (first_world setup) k ≡ newcomer = λ k. all_same newcomer setup.writers k in
    record {
      shown = record {
        chunk_count = length-map setup.spots (λ _. Unclaimed);
        word_count = length-replicate (setup.pages + length setup.spots) 0;
        slot_count = o.count_is;
        page = λ c below. subst (λ w. ShowsPage setup (first_world setup) (spot setup c) w (status (first_world setup) c)) (sym (all_zero (setup.pages + length setup.spots) (spot setup c).page))
            (subst (λ t. ShowsPage setup (first_world setup) (spot setup c) 0 t) (sym (free c))
            record {
              state = record { low = bit_at-zero (2 * (spot setup c).place) ∙ sym (bit_at-zero 0); high = bit_at-zero (2 * (spot setup c).place + 1) ∙ sym (bit_at-zero 1) };
              claim = bit_at-zero (32 + (spot setup c).place);
              layout = inr ((λ bit below. bit_at-zero (28 + bit) ∙ sym (bit_at-zero bit)), (λ k i ask at. absurd (some-ne-none ask (sym (subst (λ (v : WriterView). At v.asked i ask) (fresh k) at)))));
              spare = λ bit _. bit_at-zero bit;
            });
        header = λ c below. subst (λ t. ShowsHeader setup (header_word setup words c) t) (sym (free c)) tt;
        slot = λ c below. let free_slot = o.each c below in
            subst (λ t. ShowsSlot setup (spot setup c).payload_size t (stored_at slots c)) (sym (free c)) (record {
              room = let many = ap (λ (l : List ℕ). length l) free_slot.words ∙ length-replicate (((spot setup c).payload_size + 7) / 8) 0 in omega arith;
              words = tt;
              body = (free_slot.body, free_slot.body_is, free_slot.free);
            });
      };
      owned = first_owned setup;
      writers = length-map setup.writers (λ _. newcomer);
      own = λ k i ask at. absurd (some-ne-none ask (sym (subst (λ (v : WriterView). At v.asked i ask) (fresh k) at)));
    }

pub all_zeros : (setup : Setup) (words : List ℕ) (slots : List Stored) → words ≡ replicate (setup.pages + length setup.spots) 0 → HasFreeSlots setup.spots (length setup.spots) slots → AllZero words slots
all_zeros setup words slots is o =
    record {
      words_are = λ i. ap (λ (l : List ℕ). get_or l i 0) is ∙ all_zero (setup.pages + length setup.spots) i;
      payloads_are = λ c i. dite (dec_le (c + 1) (length setup.spots))
          (λ inside. ap (λ (l : List ℕ). get_or l i 0) (o.each c (omega arith)).words ∙ all_zero (((spot setup c).payload_size + 7) / 8) i)
          (λ outside. ap (λ (slot : Stored). get_or slot.words i 0) (behind slots c (let many = o.count_is in omega arith)));
    }
  where
    behind : (slots : List Stored) (c : ℕ) → length slots ≤ c → stored_at slots c ≡ nothing_stored
    behind [] c above = refl
    behind (slot ∷ slots) zero above = absurd (omega arith)
    behind (slot ∷ slots) (suc c) above = behind slots c (omega arith)

-- the seats of a table as it is made

pub first_sits : (setup : Setup) (place : ℕ) → place < length setup.writers → IsAtRest setup place (writer (first_world setup) place)
first_sits setup place inside =
    subst (λ v. IsAtRest setup place v) (sym (all_same newcomer setup.writers place)) (record {
      inside = inside;
      stamped = refl;
      asked = λ i ask at. absurd (some-ne-none ask (sym at));
      behind = λ i ask at. absurd (some-ne-none ask (sym at));
      claimed = λ chunk mine. absurd (omega arith);
      begun = λ position entry at. absurd (some-ne-none entry (sym at));
    })

pub first_serves : (setup : Setup) → IsServing setup (first_world setup).service
first_serves setup = record {
  writers = length-map setup.writers (λ _. none_taken);
  level = λ place. ap (λ (t : Taken). length t.contents) (all_same none_taken setup.writers place) ∙ sym (ap (λ (t : Taken). t.count) (all_same none_taken setup.writers place));
}
