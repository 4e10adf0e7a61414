-- The words of a table that threads share, where one of them changes: in front, or a payload word.
use Rattle.std.proofs.Common.{◌≡◌, ◌≢◌, ℕ, zero, suc, ◌+◌, ◌<◌, ◌≤◌, Option, List, length, set, get_or, subst, sym, refl, ap, ◌∙◌, arith, ⊎_elim, length-set}
use Rattle.std.proofs.lemmas.List.{get_or-set_same, get_or-set_other}
use native.Mathlib.Decide.{ℕ_discrete}
use Rattle.std.proofs.lemmas.Bool.{cases_lt}
use mathlib.Core.Logic.{dite}
use Rattle.commit_body.specs.declared.body.CommitBody.{CommitBody}
use Rattle.chunk_plain.specs.declared.setup.Spot.{Spot}
use Rattle.chunk_plain.specs.Setup.{Setup, no_spot}
use Rattle.chunk_plain.specs.Stored.{Stored, nothing_stored, stored_at}
use Rattle.chunk_plain.proofs.Lists.{changed}
use Rattle.chunk_words.specs.Places.{words_for, words_before, front_place, front_count, payload_start, payload_words, word_total}
use Rattle.chunk_words.specs.Rule.{HoldsWords}

-- the payload words of a chunk end where those of a later one begin, or before
pub words_apart : (spots : List Spot) (c d : ℕ) → c < d → words_before spots c + words_for (get_or spots c no_spot).payload_size ≤ words_before spots d
words_apart spots c zero less = absurd (omega arith)
words_apart spots c (suc d) less =
    dite (ℕ_discrete c d)
    (λ same. subst (λ e. words_before spots e + words_for (get_or spots e no_spot).payload_size ≤ words_before spots (suc d)) (sym same) (omega arith))
    (λ differs. let low = words_apart spots c d (omega arith) in omega (arith, low))

-- the payload words of a chunk lie in the table
pub payload_inside : (setup : Setup) (chunk index : ℕ) → chunk < length setup.spots → index < payload_words setup chunk → payload_start setup chunk + index < word_total setup
payload_inside setup chunk index inside less = let last = words_apart setup.spots chunk (length setup.spots) inside in omega (arith, last)

-- a page word or a header word changes
pub words_front : (setup : Setup) (words front : List ℕ) (slots : List Stored) (index value : ℕ) → index < front_count setup → length front ≡ front_count setup
    → HoldsWords setup words front slots → HoldsWords setup (set words (front_place index) value) (set front index value) slots
words_front setup words front slots index value inside many holds = let place = front_place index in let total = holds.total in
    record {
      total = length-set words place value ∙ holds.total;
      front_is = λ i below. dite (ℕ_discrete i index)
          (λ same. subst (λ j. get_or (set words place value) (front_place j) 0 ≡ get_or (set front index value) j 0) (sym same)
          (get_or-set_same words place value 0 (omega arith) ∙ sym (get_or-set_same front index value 0 (omega arith))))
          (λ differs. get_or-set_other words place (front_place i) value 0 (λ e. differs (omega arith)) ∙ (holds.front_is i below ∙ sym (get_or-set_other front index i value 0 differs)));
      count = holds.count;
      payload_is = λ chunk i inside_c below. get_or-set_other words place (payload_start setup chunk + i) value 0 (omega arith) ∙ holds.payload_is chunk i inside_c below;
    }

-- a payload word changes
pub words_payload : (setup : Setup) (words front : List ℕ) (slots : List Stored) (chunk index value : ℕ) → chunk < length setup.spots → index < payload_words setup chunk
    → length slots ≡ length setup.spots → HoldsWords setup words front slots
    → HoldsWords setup (set words (payload_start setup chunk + index) value) front (set slots chunk (record (stored_at slots chunk) { words = set (stored_at slots chunk).words index value }))
words_payload setup words front slots chunk index value inside less many holds =
    let at = payload_start setup chunk + index in let total = holds.total in
    let slot : Stored = record (stored_at slots chunk) { words = set (stored_at slots chunk).words index value } in
    let at_inside = payload_inside setup chunk index inside less in
    let here : stored_at (set slots chunk slot) chunk ≡ slot = get_or-set_same slots chunk slot nothing_stored (omega arith) in
    record {
      total = length-set words at value ∙ holds.total;
      front_is = λ i below. get_or-set_other words at (front_place i) value 0 (omega arith) ∙ holds.front_is i below;
      count = λ d below. changed (λ (one : Stored). length one.words ≡ payload_words setup d) slots chunk d slot nothing_stored (omega arith)
          (λ same. length-set (stored_at slots chunk).words index value ∙ subst (λ e. length (stored_at slots chunk).words ≡ payload_words setup e) (sym same) (holds.count chunk inside))
          (λ differs. holds.count d below);
      payload_is = λ d i below under. dite (ℕ_discrete d chunk)
          (λ same. subst (λ e. get_or (set words at value) (payload_start setup e + i) 0 ≡ get_or (stored_at (set slots chunk slot) e).words i 0) (sym same)
          (ap_words (set words at value) (payload_start setup chunk + i) (stored_at (set slots chunk slot) chunk) slot i here
          (dite (ℕ_discrete i index)
          (λ same_i. subst (λ j. get_or (set words at value) (payload_start setup chunk + j) 0 ≡ get_or (set (stored_at slots chunk).words index value) j 0) (sym same_i)
          (get_or-set_same words at value 0 (omega arith) ∙ sym (get_or-set_same (stored_at slots chunk).words index value 0 (let c = holds.count chunk inside in omega arith))))
          (λ other_i. get_or-set_other words at (payload_start setup chunk + i) value 0 (λ e. other_i (omega arith))
          ∙ (holds.payload_is chunk i inside (subst (λ e. i < payload_words setup e) same under) ∙ sym (get_or-set_other (stored_at slots chunk).words index i value 0 other_i))))))
          (λ differs. get_or-set_other words at (payload_start setup d + i) value 0 (segments_apart setup d chunk i index differs under less)
          ∙ (holds.payload_is d i below under ∙ ap (λ (one : Stored). get_or one.words i 0) (sym (get_or-set_other slots chunk d slot nothing_stored differs))));
    }
  where
    ap_words : (all : List ℕ) (j : ℕ) (one other : Stored) (i : ℕ) → one ≡ other → get_or all j 0 ≡ get_or other.words i 0 → get_or all j 0 ≡ get_or one.words i 0
    ap_words all j one other i same is = is ∙ ap (λ (x : Stored). get_or x.words i 0) (sym same)

    segments_apart : (setup : Setup) (d c i j : ℕ) → d ≢ c → i < payload_words setup d → j < payload_words setup c → payload_start setup d + i ≢ payload_start setup c + j
    segments_apart setup d c i j differs less more = ⊎_elim
        (λ (low : d < c). let apart = words_apart setup.spots d c low in λ e. omega (arith, apart, e))
        (λ (high : c ≤ d). let apart = words_apart setup.spots c d (omega arith) in λ e. omega (arith, apart, e))
        (cases_lt d c)

-- the body in a slot changes
pub words_body : (setup : Setup) (words front : List ℕ) (slots : List Stored) (chunk : ℕ) (body : Option CommitBody) → chunk < length setup.spots
    → length slots ≡ length setup.spots → HoldsWords setup words front slots
    → HoldsWords setup words front (set slots chunk (record (stored_at slots chunk) { body = body }))
words_body setup words front slots chunk body inside many holds =
    let slot : Stored = record (stored_at slots chunk) { body = body } in
    let same : (d : ℕ) → (stored_at (set slots chunk slot) d).words ≡ (stored_at slots d).words
    = λ d. changed (λ (one : Stored). one.words ≡ (stored_at slots d).words) slots chunk d slot nothing_stored (omega arith) (λ is. ap (λ e. (stored_at slots e).words) (sym is)) (λ _. refl) in
    record {
      total = holds.total;
      front_is = holds.front_is;
      count = λ d below. ap (λ (l : List ℕ). length l) (same d) ∙ holds.count d below;
      payload_is = λ d i below under. holds.payload_is d i below under ∙ ap (λ (l : List ℕ). get_or l i 0) (sym (same d));
    }
