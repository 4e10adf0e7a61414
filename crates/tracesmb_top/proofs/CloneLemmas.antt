-- Clones: how many are made, and what is read and counted of them, one behind another.
use Rattle.std.proofs.Common.{◌≡◌, ◌∙◌, ℕ, zero, suc, ◌+◌, ◌<◌, List, [], ◌∷◌, ◌++◌, length, map, take, drop, get_or, set, refl, sym, ap, subst, arith, add-one}
use Rattle.std.proofs.Math.Seq.{drop-cons}
use Rattle.std.proofs.lemmas.List.{length-append, length-map}
use Rattle.byte_io.specs.Bytes.{Intake, after_told, TakesPart}
use Rattle.byte_io.proofs.Told.{part_first, part_second}
use Rattle.trace_model.specs.Buffers.{Buffer}
use Rattle.trace_model.specs.Delivery.{trace_of}
use Rattle.trace_model.specs.History.{Read}
use Rattle.scenario_text.specs.declared.scenario.NumberedLine.{NumberedLine}
use Rattle.scenario_text.specs.Clones.{clones_by, clones_in}
use Rattle.scenario_text.specs.Scenario.{Parts}
use Rattle.chunk_plain.specs.Setup.{Setup}
use Rattle.chunk_plain.specs.World.{World}
use Rattle.buffer_clone.specs.Clones.{EndsInClone, clone_records, records_by}
use Rattle.service_core.proofs.ReadingLemmas.{trace_append}
use Rattle.replay_model.specs.Clones.{MakeClones, clone_in}
use Rattle.replay_host.proofs.FillingLemmas.{take_set, drop_set}
use Rattle.tracesmb_top.specs.declared.cloning.CloneCount.{CloneCount}
use Rattle.tracesmb_top.specs.Cloned.{clone_counts, clones_trace}

-- there are as many clones as lines that ask for one
pub made_many : (scenario : Parts) (setup : Setup) (before lines : List NumberedLine) (world last : World) (clones : List Buffer)
    → MakeClones scenario setup before lines world last clones → length clones ≡ length (clones_in lines)
made_many scenario setup before [] world last clones made = ap (λ (bs : List Buffer). length bs) made.1
made_many scenario setup before (line ∷ lines) world last clones (next, notes, later, plays, are, rest) =
    let these = map (clone_in scenario setup next) (clones_by line.what) in
    let whole = ap (λ (bs : List Buffer). length bs) are in
    let both = length-append these later in
    let first = length-map (clones_by line.what) (clone_in scenario setup next) in
    let asked = length-append (clones_by line.what) (clones_in lines) in
    let others = made_many scenario setup (before ++ line ∷ []) lines next last later rest in
    omega (arith, whole, both, first, asked, others)

-- the count of no clone
abbrev pub no_count : CloneCount
no_count = record { buffer = 0; delivered = 0 }

-- the clones from one on
pub trace_next : (clones : List Buffer) (i : ℕ) (d : Buffer) → i < length clones
    → clones_trace (drop i clones) ≡ trace_of (clone_records (get_or clones i d)) ++ clones_trace (drop (i + 1) clones)
trace_next clones i d below = rw (add-one, drop-cons clones i d) refl

-- where a write failed in a clone's reading, a front part of its trace was taken
pub ends_part : (old new : Buffer) (before after : Intake) → EndsInClone old new before after → TakesPart before after (trace_of (clone_records old))
ends_part old new before after ends =
    let written = records_by old (ends.firsts ++ Read ends.sequence ends.count ∷ []) in
    subst (TakesPart before after)
    (sym (ap trace_of ends.due ∙ trace_append written (ends.failed ∷ ends.later)))
    (part_second before (after_told before (trace_of written)) after (trace_of written) (ends.failed.bytes ++ trace_of ends.later) refl
    (part_first (after_told before (trace_of written)) after ends.failed.bytes (trace_of ends.later) ends.part))

-- what stands at a place of a list stands first of the rest from there
at_drop : {A : Type 0} (xs : List A) (i : ℕ) (d : A) → get_or (drop i xs) 0 d ≡ get_or xs i d
at_drop [] zero d = refl
at_drop [] (suc i) d = refl
at_drop (x ∷ xs) zero d = refl
at_drop (x ∷ xs) (suc i) d = at_drop xs i d

-- so it is the same in two lists that have the same rest
pub same_there : {A : Type 0} (xs ys : List A) (i : ℕ) (d : A) → drop i xs ≡ drop i ys → get_or xs i d ≡ get_or ys i d
same_there {A} xs ys i d same = sym (at_drop xs i d) ∙ ap (λ (zs : List A). get_or zs 0 d) same ∙ at_drop ys i d

-- and behind it, whatever is put there
pub same_behind : {A : Type 0} (xs ys : List A) (i : ℕ) (x : A) → drop i xs ≡ drop i ys → drop (i + 1) (set xs i x) ≡ drop (i + 1) ys
same_behind xs ys i x same = rw add-one (drop_set xs i x ∙ behind xs ys i same)
  where
    tail : {A : Type 0} → List A → List A
    tail [] = []
    tail (z ∷ zs) = zs

    tail_drop : {A : Type 0} (zs : List A) (k : ℕ) → tail (drop k zs) ≡ drop (suc k) zs
    tail_drop [] zero = refl
    tail_drop [] (suc k) = refl
    tail_drop (z ∷ zs) zero = refl
    tail_drop (z ∷ zs) (suc k) = tail_drop zs k

    behind : {A : Type 0} (us vs : List A) (k : ℕ) → drop k us ≡ drop k vs → drop (suc k) us ≡ drop (suc k) vs
    behind us vs k is = sym (tail_drop us k) ∙ ap tail is ∙ tail_drop vs k

-- a clone's count, where it has delivered its records
abbrev pub count_of : CloneCount → Buffer → CloneCount
count_of count clone = record { buffer = count.buffer; delivered = length (clone_records clone) }

abbrev numbers_in : List CloneCount → List ℕ
numbers_in counts = map (λ (count : CloneCount). count.buffer) counts

counted_more : (counts : List CloneCount) (clones : List Buffer) (i : ℕ) (c : CloneCount) (b : Buffer) → i < length clones → length counts ≡ length clones
    → clone_counts (numbers_in (take (suc i) counts)) (take (suc i) clones)
    ≡ clone_counts (numbers_in (take i counts)) (take i clones) ++ count_of (get_or counts i c) (get_or clones i b) ∷ []
counted_more counts [] i c b below same = absurd (omega (arith, below))
counted_more [] (clone ∷ clones) i c b below same = absurd (omega (arith, same))
counted_more (count ∷ counts) (clone ∷ clones) zero c b below same = refl
counted_more (count ∷ counts) (clone ∷ clones) (suc i) c b below same =
    ap (λ (others : List CloneCount). count_of count clone ∷ others) (counted_more counts clones i c b (omega (arith, below)) (omega (arith, same)))

-- one clone more is counted
pub counted_next : (first now : List CloneCount) (clones : List Buffer) (i : ℕ) (one c : CloneCount) (b : Buffer) → i < length clones
    → length first ≡ length clones → length now ≡ length clones
    → take i now ≡ clone_counts (numbers_in (take i first)) (take i clones) → one ≡ count_of (get_or first i c) (get_or clones i b)
    → take (i + 1) (set now i one) ≡ clone_counts (numbers_in (take (i + 1) first)) (take (i + 1) clones)
counted_next first now clones i one c b below many many_now before is =
    rw add-one (take_set now i one (omega (arith, below, many_now))
    ∙ ap (λ (counts : List CloneCount). counts ++ one ∷ []) before
    ∙ ap (λ (count : CloneCount). clone_counts (numbers_in (take i first)) (take i clones) ++ count ∷ []) is
    ∙ sym (counted_more first clones i c b below many))
