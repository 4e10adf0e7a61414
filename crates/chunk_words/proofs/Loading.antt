-- Payload words of a chunk that are loaded one behind another.
use Rattle.std.proofs.Common.{◌≡◌, ℕ, ◌+◌, ◌-◌, ◌*◌, ◌/◌, ◌<◌, ◌≤◌, Option, List, length, subst, sym, refl, ap, ◌∙◌, arith, lt_of_not-le}
use Rattle.std.proofs.Math.Logic.{∥∥₁_map}
use Rattle.std.proofs.lemmas.Bool.{cases_lt}
use Rattle.std.proofs.lemmas.Grind.{same_number_lists}
use native.Mathlib.Decide.{dec_le}
use mathlib.Core.Logic.{dite}
use Rattle.std.proofs.Common.{⊎_elim}
use Rattle.commit_body.specs.declared.body.CommitBody.{CommitBody}
use Rattle.chunk_plain.specs.Setup.{Setup}
use Rattle.chunk_plain.specs.Payload.{byte_of, byte_in}
use Rattle.chunk_plain.specs.Views.{At, ServiceView, taken_of}
use Rattle.chunk_plain.specs.Owned.{times}
use Rattle.chunk_plain.specs.Words.{IsServing, ShowsFound, IsTakenPayload}
use Rattle.chunk_plain.proofs.Lists.{at_some}
use Rattle.chunk_words.specs.Knows.{Watch, Desk, Lifted, Service, hand_of, made_of, desk_of, watch_of, service_of, by_service}
use Rattle.chunk_words.specs.Moves.{Mine, IsWordOf, Tells, Loads, ReadsOn, LoadsUpTo}
use Rattle.chunk_words.specs.Seats.{IsService}

-- bytes that a word was put behind
pub record PutsWord (index word : ℕ) (old new : List ℕ) : Type 0 where
  pub size : length new ≡ length old
  pub here : (m : ℕ) → m < 8 → 8 * index + m < length new → byte_in new (8 * index + m) ≡ byte_of word m
  pub before : (j : ℕ) → j < 8 * index → byte_in new j ≡ byte_in old j

-- one word more stands as the bytes that it has
bytes_next : (index word size : ℕ) (old new whole : List ℕ) → PutsWord index word old new → length old ≡ size → IsWordOf whole index word → length whole ≤ size
    → ((j : ℕ) → j < 8 * index → j < length whole → byte_in old j ≡ byte_in whole j) → (j : ℕ) → j < 8 * (index + 1) → j < length whole → byte_in new j ≡ byte_in whole j
bytes_next index word size old new whole puts many is inside so_far j below less =
    ⊎_elim
    (λ (early : j < 8 * index). puts.before j early ∙ so_far j early less)
    (λ (late : 8 * index ≤ j).
    let m = j - 8 * index in let same : 8 * index + m ≡ j = omega arith in let count = puts.size in
    subst (λ i. byte_in new i ≡ byte_in whole i) same (puts.here m (omega arith) (omega arith) ∙ is m (omega arith) (omega arith)))
    (cases_lt j (8 * index))

pub service_by : (m : Mine) (hand made : ℕ) (desk : Desk) (watch : Watch) (view : ServiceView) (carried : List (ℕ × Option CommitBody)) → m ≡ (Service hand made desk watch view, carried) → IsService m
service_by m hand made desk watch view carried is = subst IsService (sym is) refl

-- the seat is the service's between two loads
pub between_service : (chunk index size : ℕ) (bytes : List ℕ) (me mid : Mine) → LoadsUpTo chunk index size bytes me mid → IsService mid
between_service chunk index size bytes me mid so_far = service_by mid (hand_of me.0) (made_of me.0) (desk_of me.0) so_far.watch (service_of me.0) me.1 so_far.new_is

pub loads_none : (chunk size : ℕ) (bytes : List ℕ) (me : Mine) → IsService me → LoadsUpTo chunk 0 size bytes me me
loads_none chunk size bytes me service = record {
  watch = watch_of me.0;
  new_is = service;
  stays = λ place position content is. refl;
  found = λ n look found at about same untaken some. absurd (omega arith);
  reading = λ has some. absurd (omega arith);
}

reads_next : (chunk index size word : ℕ) (old new : List ℕ) (before after : Watch) (view : ServiceView) → PutsWord index word old new → length old ≡ size
    → Tells chunk index size word before after view → ReadsOn chunk index size old before view → ReadsOn chunk (index + 1) size new after view
reads_next chunk index size word old new before after view puts many tells on =
    let is : after ≡ Lifted chunk on.place on.position on.content = tells.stays on.place on.position on.content on.watches ∙ on.watches in
    let read = tells.read on.place on.position on.content is in
    record {
      place = on.place;
      position = on.position;
      content = on.content;
      watches = is;
      taken = on.taken;
      known = on.known;
      whole = on.whole;
      bytes_are = λ j below inside. let whole = on.whole in bytes_next index word size old new on.content.image.payload puts many read.1 (omega arith)
          (λ i early less. on.bytes_are i early (omega arith)) j below (omega arith);
    }

reads_first : (chunk size word : ℕ) (old new : List ℕ) (before after : Watch) (view : ServiceView) → PutsWord 0 word old new → length old ≡ size
    → Tells chunk 0 size word before after view → 0 < times chunk view.reading → ∥ ReadsOn chunk 1 size new after view ∥₁
reads_first chunk size word old new before after view puts many tells has =
    ∥∥₁_map (tells.reading has) (λ r.
    let read = tells.read r.0 r.1 r.2 r.3 in
    record {
      place = r.0;
      position = r.1;
      content = r.2;
      watches = r.3;
      taken = r.4;
      known = r.5;
      whole = read.0;
      bytes_are = λ j below inside. let whole = read.0 in bytes_next 0 word size old new r.2.image.payload puts many read.1 (omega arith) (λ i early less. absurd (omega arith)) j below (omega arith);
    })

pub loads_next : (chunk index size word : ℕ) (old new : List ℕ) (me mid next : Mine) → LoadsUpTo chunk index size old me mid → Loads chunk index size mid word next
    → PutsWord index word old new → length old ≡ size → LoadsUpTo chunk (index + 1) size new me next
loads_next chunk index size word old new me mid next so_far step puts many =
    let view = service_of me.0 in
    let view_is : service_of mid.0 ≡ view = ap (λ (m : Mine). service_of m.0) so_far.new_is in
    let watch_is : watch_of mid.0 ≡ so_far.watch = ap (λ (m : Mine). watch_of m.0) so_far.new_is in
    let tells : Tells chunk index size word so_far.watch step.watch view = subst (λ v. Tells chunk index size word so_far.watch step.watch v) view_is (subst (λ w. Tells chunk index size word w step.watch (service_of mid.0)) watch_is step.tells) in
    record {
      watch = step.watch;
      new_is = step.new_is ∙ ap (λ (m : Mine). let n : Mine = (by_service (hand_of m.0) step.watch (λ v. v) m.0, m.1) in n) so_far.new_is;
      stays = λ place position content is. let same = so_far.stays place position content is in tells.stays place position content (same ∙ is) ∙ same;
      found = λ n look found at about same untaken some.
          let now = tells.found n look found at about same untaken in (
            now.0,
            bytes_next index word size old new found.sealed puts many now.1 now.0
                (λ i early less. (so_far.found n look found at about same untaken (omega arith)).1 i early less),
          );
      reading = λ has some. dite (dec_le 1 index)
          (λ later. ∥∥₁_map (so_far.reading has later) (λ on. reads_next chunk index size word old new so_far.watch step.watch view puts many tells on))
          (λ first. let zero_ : index ≡ 0 = let less = lt_of_not-le first in omega arith in
          subst (λ i. ∥ ReadsOn chunk (i + 1) size new step.watch view ∥₁) (sym zero_)
          (reads_first chunk size word old new so_far.watch step.watch view (subst (λ i. PutsWord i word old new) zero_ puts) many (subst (λ i. Tells chunk i size word so_far.watch step.watch view) zero_ tells) has));
    }

-- ---- all words

pub loaded_found : (chunk size : ℕ) (bytes : List ℕ) (me new : Mine) → LoadsUpTo chunk ((size + 7) / 8) size bytes me new → length bytes ≡ size → 0 < size
    → ShowsFound (service_of me.0) chunk bytes
loaded_found chunk size bytes me new loads many some n look found at about same untaken =
    let all = loads.found n look found at about same untaken (omega arith) in
    let inside = all.0 in (omega (arith, many, inside), λ j below. all.1 j (omega (arith, inside)) below)

pub loaded_read : (setup : Setup) (chunk size : ℕ) (bytes : List ℕ) (me new : Mine) → LoadsUpTo chunk ((size + 7) / 8) size bytes me new → length bytes ≡ size → 0 < size
    → IsServing setup (service_of me.0) → 0 < times chunk (service_of me.0).reading → ∥ IsTakenPayload (service_of me.0) bytes ∥₁
loaded_read setup chunk size bytes me new loads many some serving has =
    ∥∥₁_map (loads.reading has (omega arith)) (λ on.
    let view = service_of me.0 in
    let there = at_some (taken_of view on.place).contents on.position (let level = serving.level on.place in let taken = on.taken in omega arith) in
    record {
      place = on.place;
      position = on.position;
      content = on.content;
      at = subst (λ c. At (taken_of view on.place).contents on.position c) (on.known there.0 there.1) there.1;
      bytes_are = same_number_lists bytes on.content.image.payload (many ∙ sym on.whole) (λ j below. on.bytes_are j (omega arith) (omega arith));
    })
