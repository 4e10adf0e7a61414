-- Payload words that are stored one behind another.
use Rattle.std.proofs.Common.{◌≡◌, ℕ, ◌+◌, ◌-◌, ◌*◌, ◌/◌, ◌%◌, ◌<◌, ◌≤◌, inl, inr, List, ◌++◌, length, get_or, take, drop, set, sym, refl, ap, ap₂, subst, ◌∙◌, arith, ⊎_elim, length-set, length-append}
use Rattle.std.proofs.lemmas.Bool.{cases_lt}
use Rattle.std.proofs.lemmas.List.{get_or-set_same, get_or-set_other, get_or-take, get_or-drop, get_or_append_left, get_or-append_right, length-take-le, length-drop, drop-drop, take_rest}
use native.Mathlib.Decide.{ℕ_discrete, dec_le}
use mathlib.Core.Logic.{dite}
use Rattle.chunk_plain.specs.Payload.{byte_of, byte_at, byte_in, sealed_to, StoredUpTo}
use Rattle.chunk_plain.specs.Views.{Draft, WriterView, newcomer}
use Rattle.chunk_plain.specs.World.{World, writer}
use Rattle.chunk_plain.specs.Steps.{redrafts, drafted}
use Rattle.chunk_plain.specs.Drafts.{draft_at}
use Rattle.chunk_plain.specs.Words.{KeepsSealed, StaysOutside, Publishes}
use Rattle.chunk_plain.proofs.Sealing.{byte_stored, byte_left}

pub stored_none : (copy : List ℕ) (first : ℕ) (words : List ℕ) → StoredUpTo copy first first words words
stored_none copy first words = record {
  count = refl;
  done = λ j least below inside. absurd (omega arith);
  others = λ j inside. inl refl;
  before = λ other low. refl;
  behind = λ other high. refl;
}

pub stored_next : (copy : List ℕ) (first index word : ℕ) (old new : List ℕ) → index < length new → first ≤ index
    → ((m : ℕ) → m < 8 → 8 * index + m < length copy → byte_of word m ≡ byte_in copy (8 * index + m))
    → StoredUpTo copy first index old new → StoredUpTo copy first (index + 1) old (set new index word)
stored_next copy first index word old new inside order packed so_far =
    let here : (j : ℕ) → j / 8 ≡ index → j < length copy → byte_at (set new index word) j ≡ byte_in copy j = λ j is below.
    byte_stored new index word j inside is
    ∙ (packed (j % 8) (omega arith) (omega arith) ∙ ap (λ i. byte_in copy i) (let back : 8 * index + j % 8 ≡ j = omega arith in back)) in
    record {
      count = length-set new index word ∙ so_far.count;
      done = λ j least below in_copy. dite (ℕ_discrete (j / 8) index)
          (λ is. here j is in_copy)
          (λ differs. byte_left new index word j differs ∙ so_far.done j least (omega arith) in_copy);
      others = λ j in_copy. dite (ℕ_discrete (j / 8) index)
          (λ is. inr (here j is in_copy))
          (λ differs. ⊎_elim (λ as_before. inl (byte_left new index word j differs ∙ as_before)) (λ of_copy. inr (byte_left new index word j differs ∙ of_copy)) (so_far.others j in_copy));
      before = λ other low. get_or-set_other new index other word 0 (omega arith) ∙ so_far.before other low;
      behind = λ other high. get_or-set_other new index other word 0 (omega arith) ∙ so_far.behind other (omega arith);
    }

-- words that were stored in a part of all, with bytes that begin at a place of the copy
pub stored_inside : (copy : List ℕ) (first whole : ℕ) (old new : List ℕ) → first ≤ whole → whole ≤ length old → 8 * whole ≤ length copy
    → StoredUpTo (drop (8 * first) copy) 0 (whole - first) (take (whole - first) (drop first old)) new
    → StoredUpTo copy first whole old (take first old ++ (new ++ drop whole old))
stored_inside copy first whole old new order within room so_far =
    let part : length new ≡ whole - first = so_far.count ∙ length-take-le (whole - first) (drop first old) (let behind = length-drop first old in omega arith) in
    let front : length (take first old) ≡ first = length-take-le first old (omega arith) in
    let all : List ℕ = take first old ++ (new ++ drop whole old) in
    let before : (k : ℕ) → k < first → get_or all k 0 ≡ get_or old k 0 = λ k below.
    get_or_append_left (take first old) (new ++ drop whole old) 0 k (omega arith) ∙ get_or-take first old k 0 below in
    let inside : (k : ℕ) → first ≤ k → k < whole → get_or all k 0 ≡ get_or new (k - first) 0 = λ k above below.
    get_or-append_right (take first old) (new ++ drop whole old) first k 0 front above
    ∙ get_or_append_left new (drop whole old) 0 (k - first) (omega arith) in
    let behind : (k : ℕ) → whole ≤ k → get_or all k 0 ≡ get_or old k 0 = λ k above.
    get_or-append_right (take first old) (new ++ drop whole old) first k 0 front (omega arith)
    ∙ get_or-append_right new (drop whole old) (whole - first) (k - first) 0 part (omega arith)
    ∙ get_or-drop whole old (k - first - (whole - first)) 0
    ∙ ap (λ i. get_or old i 0) (let back : whole + (k - first - (whole - first)) ≡ k = omega arith in back) in
    let done : (j : ℕ) → 8 * first ≤ j → j < 8 * whole → j < length copy → byte_at all j ≡ byte_in copy j = λ j least below in_copy.
    let place : j / 8 - first ≡ (j - 8 * first) / 8 = omega arith in
    let bit : j % 8 ≡ (j - 8 * first) % 8 = omega arith in
    ap (λ w. byte_of w (j % 8)) (inside (j / 8) (omega arith) (omega arith))
    ∙ ap₂ (λ k m. byte_of (get_or new k 0) m) place bit
    ∙ so_far.done (j - 8 * first) (omega arith) (omega arith) (let long = length-drop (8 * first) copy in omega arith)
    ∙ get_or-drop (8 * first) copy (j - 8 * first) 0
    ∙ ap (λ i. byte_in copy i) (let back : 8 * first + (j - 8 * first) ≡ j = omega arith in back) in
    record {
      count = let behind_long = length-drop whole old in let two = length-append new (drop whole old) in
          let three = length-append (take first old) (new ++ drop whole old) in omega arith;
      done = done;
      others = λ j in_copy. ⊎_elim
          (λ (low : j / 8 < first). inl (ap (λ w. byte_of w (j % 8)) (before (j / 8) low)))
          (λ (above : first ≤ j / 8). ⊎_elim
          (λ (below : j / 8 < whole). inr (done j (omega arith) (omega arith) in_copy))
          (λ (high : whole ≤ j / 8). inl (ap (λ w. byte_of w (j % 8)) (behind (j / 8) high)))
          (cases_lt (j / 8) whole))
          (cases_lt (j / 8) first);
      before = before;
      behind = behind;
    }

-- the same of slices, as code has them
pub stored_part : (copy : List ℕ) (first whole : ℕ) (old new : List ℕ) → first ≤ whole → whole ≤ length old → 8 * whole ≤ length copy
    → StoredUpTo (take (length copy - 8 * first) (drop (8 * first) copy)) 0 (length (take (whole - first) (drop first old))) (take (whole - first) (drop first old)) new
    → StoredUpTo copy first whole old (take first old ++ (new ++ drop (whole - first) (drop first old)))
stored_part copy first whole old new order within room so_far =
    let part : List ℕ = take (whole - first) (drop first old) in
    let long : length part ≡ whole - first = length-take-le (whole - first) (drop first old) (let behind = length-drop first old in omega arith) in
    let rest : drop whole old ≡ drop (whole - first) (drop first old) =
    ap (λ n. drop n old) (let back : whole ≡ first + (whole - first) = omega arith in back) ∙ sym (drop-drop (whole - first) first old) in
    subst (λ behind. StoredUpTo copy first whole old (take first old ++ (new ++ behind))) rest
    (stored_inside copy first whole old new order within room
    (subst (λ n. StoredUpTo (drop (8 * first) copy) 0 n part new) long
    (subst (λ bytes. StoredUpTo bytes 0 (length part) part new) (take_rest copy (8 * first)) so_far)))

-- the words keep the bytes of the finished fragments, whichever of them were stored
pub sealed_stays : (view : WriterView) (position first index : ℕ) (copy words : List ℕ) → KeepsSealed view position copy → StoredUpTo copy first index (draft_at view position).words words
    → (j : ℕ) → j < sealed_to (draft_at view position).ends → byte_at words j ≡ byte_at (draft_at view position).words j
sealed_stays view position first index copy words keeps stored j below =
    let kept = keeps j below in
    ⊎_elim (λ as_before. as_before) (λ of_copy. of_copy ∙ sym kept.1) (stored.others j kept.0)

-- where the writer stands then
pub drafted_view : (world next : World) (place chunk position : ℕ) (draft : Draft) → next ≡ drafted world place chunk position draft → place < length world.writers
    → writer next place ≡ redrafts (writer world place) chunk position draft
drafted_view world next place chunk position draft is inside =
    ap (λ (w : World). writer w place) is ∙ get_or-set_same world.writers place (redrafts (writer world place) chunk position draft) newcomer inside

-- the words that were stored are those with a byte of the range
pub stored_range : (from to end : ℕ) (old new : List ℕ) → (from < to → 8 * end < to + 8) → (to ≤ from → end ≡ from / 8)
    → ((other : ℕ) → other < from / 8 → get_or new other 0 ≡ get_or old other 0) → ((other : ℕ) → end ≤ other → get_or new other 0 ≡ get_or old other 0)
    → StaysOutside from to old new
stored_range from to end old new some none before behind index outside = dite (dec_le (index + 1) (from / 8))
    (λ low. before index (omega arith))
    (λ not_low. dite (dec_le end index)
    (λ high. behind index high)
    (λ not_high. absurd (dite (dec_le to from)
    (λ empty. let end_is = none empty in omega arith)
    (λ filled. let last = some (omega arith) in dite (dec_le from (8 * index))
    (λ begins. outside (8 * index) begins (omega arith) (omega arith))
    (λ begun. outside from (omega arith) (omega arith) (omega arith))))))

-- all words of a range of bytes were stored
pub published_range : (copy old new : List ℕ) (from to end : ℕ) → from ≤ to → to ≤ length copy → (from < to → to ≤ 8 * end) → 8 * end < to + 32
    → StoredUpTo copy (from / 8) end old new → Publishes copy from to old new
published_range copy old new from to end order inside ends most so_far = record {
  count = so_far.count;
  range = λ j least below. so_far.done j (omega arith) (let reaches = ends (omega arith) in omega arith) (omega arith);
  others = so_far.others;
  apart = stored_range from (to + 24) end old new (λ less. omega arith) (λ none. absurd (omega arith)) so_far.before so_far.behind;
}
