-- The turns of the service's own lines, one behind the other.
use Rattle.std.proofs.Common.{◌≡◌, ◌∙◌, ◌⊎◌, ℕ, zero, suc, ◌+◌, Bool, true, false, Result, Ok, Err, List, [], ◌∷◌, ◌++◌, length, take, refl, sym, ap, subst, inl, inr, arith}
use Rattle.std.specs.Prelude.{MatchResult, cond, if◌then◌else◌}
use Rattle.std.specs.List.{flat_map}
use Rattle.std.proofs.lemmas.List.Elements.{filter-append}
use Rattle.std.proofs.Math.Logic.{∥∥₁_map}
use Rattle.std.proofs.Math.Seq.{take-length}
use mathlib.Core.Option.{some-injective, some-ne-none}
use Rattle.trace_model.specs.Buffers.{Buffer}
use Rattle.trace_model.specs.Delivery.{Delivered}
use Rattle.trace_model.specs.History as model
use Rattle.chunk_plain.specs.Histories.{history_of}
use Rattle.chunk_plain.specs.Setup.{Setup}
use Rattle.chunk_plain.specs.Views.{At, ServiceView}
use Rattle.chunk_plain.proofs.Lists.{at_seam}
use Rattle.scenario_text.specs.declared.scenario.LineKind.{LineKind}
use Rattle.scenario_text.specs.declared.scenario.LineKind.TheVariants.{Packet, Begin, Add, Nest, Unnest, End, Flush, Collect, Scrape, Close, Read, Request, CloneBuffer, Raw}
use Rattle.scenario_text.specs.declared.scenario.NumberedLine.{NumberedLine}
use Rattle.service_core.specs.Reading.{noted_read}
use Rattle.service_core.specs.Taking.{noted_more}
use Rattle.run_model.specs.Lines.{ComesBetween, PlaysAll, PlaysLine, PlaysLines, PlaysSome, PlaysUpTo, is_service_line, service_lines}
use Rattle.run_model.specs.Reads.{ReadsUpTo}
use Rattle.run_model.proofs.LineLemmas.{plays_between, plays_more, stopped_between}
use Rattle.thread_host.specs.Growing.{IsHearing}
use Rattle.thread_host.specs.Terms.{PlaysFar}
use Rattle.thread_host.specs.Turns.{IsNext, PlaysTurns}

-- no even number is odd
not_odd : (n m : ℕ) → n + n ≡ suc (m + m) → ⊥
not_odd zero m same = absurd (omega (arith, same))
not_odd (suc n) zero same = absurd (omega (arith, same))
not_odd (suc n) (suc m) same = not_odd n m (omega (arith, same))

-- the first of some, with the next one
take_next : {A : Type 0} (xs : List A) (n : ℕ) (x : A) → At xs n x → take (suc n) xs ≡ take n xs ++ x ∷ []
take_next [] n x at = absurd (some-ne-none x (sym at))
take_next (one ∷ xs) zero x at = ap (λ y. y ∷ []) (some-injective one x at)
take_next (one ∷ xs) (suc n) x at = ap (λ ys. one ∷ ys) (take_next xs n x at)

-- with what is behind it
take_split : {A : Type 0} (xs : List A) (n : ℕ) (x : A) → At xs n x → (later : List A) × (xs ≡ take n xs ++ x ∷ later)
take_split [] n x at = absurd (some-ne-none x (sym at))
take_split (one ∷ xs) zero x at = (xs, ap (λ y. y ∷ xs) (some-injective one x at))
take_split (one ∷ xs) (suc n) x at = let rest = take_split xs n x at in (rest.0, ap (λ ys. one ∷ ys) rest.1)

module _ (setup : Setup) (first : List Buffer) (scenario : List NumberedLine) where
  -- none yet
  pub turns_none : (view : ServiceView) → PlaysTurns setup first scenario 0 view view
  turns_none view = ∣ inl (0, refl, ([], refl)) ∣₁

  -- what comes between lines takes no turn
  pub turns_between : (turns : ℕ) (old mid new : ServiceView) → ComesBetween setup scenario mid new → PlaysTurns setup first scenario turns old mid
      → PlaysTurns setup first scenario turns old new
  turns_between turns old mid new comes played = ∥∥₁_map played by_case
    where
      by_case : ((done : ℕ) × (turns ≡ done + done) × PlaysLines setup first scenario (take done (service_lines scenario)) old mid)
          ⊎ ((done : ℕ) × (turns ≡ suc (done + done)) × PlaysUpTo setup first scenario (service_lines scenario) old mid)
          → ((done : ℕ) × (turns ≡ done + done) × PlaysLines setup first scenario (take done (service_lines scenario)) old new)
          ⊎ ((done : ℕ) × (turns ≡ suc (done + done)) × PlaysUpTo setup first scenario (service_lines scenario) old new)
      by_case (inl whole) = inl (whole.0, whole.1, plays_between setup first scenario (take whole.0 (service_lines scenario)) old mid new whole.2 comes)
      by_case (inr some) = inr (some.0, some.1, stopped_between setup first scenario (service_lines scenario) old mid new some.2 comes)

  -- an answer of each writer
  pub turns_heard : (writers turns : ℕ) (old mid new : ServiceView) → IsHearing writers mid new → PlaysTurns setup first scenario turns old mid
      → PlaysTurns setup first scenario turns old new
  turns_heard zero turns old mid new same played = subst (λ (v : ServiceView). PlaysTurns setup first scenario turns old v) (sym same) played
  turns_heard (suc place) turns old mid new hears played =
      turns_between turns old hears.0 new (inr (place, hears.2.flush, hears.2.chunks, hears.2.view)) (turns_heard place turns old mid hears.0 hears.1 played)

  -- the next line takes two
  pub turns_line : (turns more : ℕ) (kind : LineKind) (old mid new : ServiceView) → IsNext scenario turns kind → more ≡ turns + 2
      → PlaysLine setup first kind mid new → PlaysTurns setup first scenario turns old mid → PlaysTurns setup first scenario more old new
  turns_line turns more kind old mid new next is plays played = ∥∥₁_map played by_case
    where
      even : turns ≡ next.done + next.done
      even = next.turns_are

      line : PlaysLine setup first next.line.what mid new
      line = subst (λ (k : LineKind). PlaysLine setup first k mid new) (sym next.kind_is) plays

      by_case : ((done : ℕ) × (turns ≡ done + done) × PlaysLines setup first scenario (take done (service_lines scenario)) old mid)
          ⊎ ((done : ℕ) × (turns ≡ suc (done + done)) × PlaysUpTo setup first scenario (service_lines scenario) old mid)
          → ((done : ℕ) × (more ≡ done + done) × PlaysLines setup first scenario (take done (service_lines scenario)) old new)
          ⊎ ((done : ℕ) × (more ≡ suc (done + done)) × PlaysUpTo setup first scenario (service_lines scenario) old new)
      by_case (inl whole) =
          let same : whole.0 ≡ next.done = (let here = whole.1 in omega (arith, here, even)) in
          inl (
            suc next.done,
            omega (arith, is, even),
            subst (λ (ls : List NumberedLine). PlaysLines setup first scenario ls old new) (sym (take_next (service_lines scenario) next.done next.line next.there))
                (plays_more setup first scenario (take next.done (service_lines scenario)) next.line old mid new
                (subst (λ (n : ℕ). PlaysLines setup first scenario (take n (service_lines scenario)) old mid) same whole.2) line),
          )
      by_case (inr some) = absurd (not_odd next.done some.0 (sym even ∙ some.1))

  -- one whose write fails takes one, and none is next behind it
  pub turns_stop : (turns more : ℕ) (kind : LineKind) (record_due : Delivered) (old mid new : ServiceView) → IsNext scenario turns kind → more ≡ turns + 1
      → (ends : ReadsUpTo setup first kind (history_of mid) (history_of new) record_due)
      → new ≡ noted_more mid (flat_map noted_read (ends.firsts ++ model.Read ends.sequence ends.count ∷ []))
      → PlaysTurns setup first scenario turns old mid → PlaysTurns setup first scenario more old new
  turns_stop turns more kind record_due old mid new next is ends view played = ∥∥₁_map played by_case
    where
      even : turns ≡ next.done + next.done
      even = next.turns_are

      parts : (later : List NumberedLine) × (service_lines scenario ≡ take next.done (service_lines scenario) ++ next.line ∷ later)
      parts = take_split (service_lines scenario) next.done next.line next.there

      stopped : PlaysLines setup first scenario (take next.done (service_lines scenario)) old mid
          → PlaysUpTo setup first scenario (service_lines scenario) old new
      stopped plays = subst (λ (k : LineKind). (ends : ReadsUpTo setup first k (history_of mid) (history_of new) record_due)
          → new ≡ noted_more mid (flat_map noted_read (ends.firsts ++ model.Read ends.sequence ends.count ∷ []))
          → PlaysUpTo setup first scenario (service_lines scenario) old new) next.kind_is (λ here same. record {
            done = take next.done (service_lines scenario);
            line = next.line;
            later = parts.0;
            all = parts.1;
            here = mid;
            there = new;
            plays = plays;
            next = record_due;
            ends = here;
            view = same;
            views = [];
            behind = refl;
          }) ends view

      by_case : ((done : ℕ) × (turns ≡ done + done) × PlaysLines setup first scenario (take done (service_lines scenario)) old mid)
          ⊎ ((done : ℕ) × (turns ≡ suc (done + done)) × PlaysUpTo setup first scenario (service_lines scenario) old mid)
          → ((done : ℕ) × (more ≡ done + done) × PlaysLines setup first scenario (take done (service_lines scenario)) old new)
          ⊎ ((done : ℕ) × (more ≡ suc (done + done)) × PlaysUpTo setup first scenario (service_lines scenario) old new)
      by_case (inl whole) =
          let same : whole.0 ≡ next.done = (let here = whole.1 in omega (arith, here, even)) in
          inr (
            next.done,
            omega (arith, is, even),
            stopped (subst (λ (n : ℕ). PlaysLines setup first scenario (take n (service_lines scenario)) old mid) same whole.2),
          )
      by_case (inr some) = absurd (not_odd next.done some.0 (sym even ∙ some.1))

  -- ---- in all

  pub turns_all : (turns : ℕ) (old new : ServiceView) → turns ≡ length (service_lines scenario) + length (service_lines scenario)
      → PlaysTurns setup first scenario turns old new → PlaysAll setup first scenario old new
  turns_all turns old new is played = ∥∥₁_map played by_case
    where
      by_case : ((done : ℕ) × (turns ≡ done + done) × PlaysLines setup first scenario (take done (service_lines scenario)) old new)
          ⊎ ((done : ℕ) × (turns ≡ suc (done + done)) × PlaysUpTo setup first scenario (service_lines scenario) old new)
          → PlaysLines setup first scenario (service_lines scenario) old new
      by_case (inl whole) =
          let same : whole.0 ≡ length (service_lines scenario) = (let here = whole.1 in omega (arith, here, is)) in
          subst (λ (ls : List NumberedLine). PlaysLines setup first scenario ls old new)
          (ap (λ (n : ℕ). take n (service_lines scenario)) same ∙ take-length (service_lines scenario)) whole.2
      by_case (inr some) = absurd (not_odd (length (service_lines scenario)) some.0 (sym is ∙ some.1))

  pub turns_some : (turns done : ℕ) (old new : ServiceView) → turns ≡ suc (done + done) → PlaysTurns setup first scenario turns old new
      → PlaysSome setup first scenario old new
  turns_some turns done old new is played = ∥∥₁_map played by_case
    where
      by_case : ((n : ℕ) × (turns ≡ n + n) × PlaysLines setup first scenario (take n (service_lines scenario)) old new)
          ⊎ ((n : ℕ) × (turns ≡ suc (n + n)) × PlaysUpTo setup first scenario (service_lines scenario) old new)
          → PlaysUpTo setup first scenario (service_lines scenario) old new
      by_case (inl whole) = absurd (not_odd whole.0 done (sym whole.1 ∙ is))
      by_case (inr some) = some.2

-- by how the job ended
pub ended_far : {A E : Type 0} (setup : Setup) (first : List Buffer) (scenario : List NumberedLine) (turns : ℕ) (old new : ServiceView) (result : Result A E)
    → MatchResult result (λ _. turns ≡ length (service_lines scenario) + length (service_lines scenario)) (λ _. (done : ℕ) × (turns ≡ suc (done + done)))
    → PlaysTurns setup first scenario turns old new → PlaysFar setup first scenario old new result
ended_far setup first scenario turns old new (Ok value) is played = turns_all setup first scenario turns old new is played
ended_far setup first scenario turns old new (Err fault) is played = turns_some setup first scenario turns is.0 old new is.1 played

-- an answer of each writer comes behind all lines, or behind those that were played
pub all_heard : (setup : Setup) (first : List Buffer) (scenario : List NumberedLine) (writers : ℕ) (old mid new : ServiceView) → IsHearing writers mid new
    → PlaysAll setup first scenario old mid → PlaysAll setup first scenario old new
all_heard setup first scenario zero old mid new same plays = subst (λ (v : ServiceView). PlaysAll setup first scenario old v) (sym same) plays
all_heard setup first scenario (suc place) old mid new hears plays =
    ∥∥₁_map (all_heard setup first scenario place old mid hears.0 hears.1 plays) (λ (one : PlaysLines setup first scenario (service_lines scenario) old hears.0).
    plays_between setup first scenario (service_lines scenario) old hears.0 new one (inr (place, hears.2.flush, hears.2.chunks, hears.2.view)))

pub some_heard : (setup : Setup) (first : List Buffer) (scenario : List NumberedLine) (writers : ℕ) (old mid new : ServiceView) → IsHearing writers mid new
    → PlaysSome setup first scenario old mid → PlaysSome setup first scenario old new
some_heard setup first scenario zero old mid new same plays = subst (λ (v : ServiceView). PlaysSome setup first scenario old v) (sym same) plays
some_heard setup first scenario (suc place) old mid new hears plays =
    ∥∥₁_map (some_heard setup first scenario place old mid hears.0 hears.1 plays) (λ (one : PlaysUpTo setup first scenario (service_lines scenario) old hears.0).
    stopped_between setup first scenario (service_lines scenario) old hears.0 new one (inr (place, hears.2.flush, hears.2.chunks, hears.2.view)))

-- ---- which line is next

-- how many of the service's own lines stand among some, with one more
pub lines_more : (before : List NumberedLine) (line : NumberedLine)
    → length (service_lines (before ++ line ∷ [])) ≡ length (service_lines before) + length (service_lines (line ∷ []))
lines_more [] line = omega arith
lines_more (one ∷ before) line = by_test (is_service_line one.what) (lines_more before line)
  where
    by_test : (b : Bool) → length (service_lines (before ++ line ∷ [])) ≡ length (service_lines before) + length (service_lines (line ∷ []))
        → length (cond b (one ∷ service_lines (before ++ line ∷ [])) (service_lines (before ++ line ∷ [])))
        ≡ length (cond b (one ∷ service_lines before) (service_lines before)) + length (service_lines (line ∷ []))
    by_test true rest = omega (arith, rest)
    by_test false rest = rest

-- the next line that is its own, behind those that were played
pub next_line : (before later lines : List NumberedLine) (line : NumberedLine) (turns : ℕ) → before ++ line ∷ later ≡ lines
    → turns ≡ length (service_lines before) + length (service_lines before) → is_service_line line.what ≡ true → IsNext lines turns line.what
next_line before later lines line turns all is own = record {
  done = length (service_lines before);
  turns_are = is;
  line = line;
  there = subst (λ (ls : List NumberedLine). At ls (length (service_lines before)) line) whole (at_seam (service_lines before) (service_lines later) line);
  kind_is = refl;
}
  where
    whole : service_lines before ++ line ∷ service_lines later ≡ service_lines lines
    whole = ap (λ (b : Bool). service_lines before ++ cond b (line ∷ service_lines later) (service_lines later)) (sym own)
        ∙ sym (filter-append (λ (one : NumberedLine). is_service_line one.what) before (line ∷ later)) ∙ ap service_lines all

-- the turns of the lines before, and those of one more
pub turns_more : (before : List NumberedLine) (line : NumberedLine) (turns more : ℕ) → turns ≡ length (service_lines before) + length (service_lines before)
    → more ≡ turns + (if is_service_line line.what then 2 else 0)
    → more ≡ length (service_lines (before ++ line ∷ [])) + length (service_lines (before ++ line ∷ []))
turns_more before line turns more is one = by_test (is_service_line line.what) (lines_more before line) one
  where
    by_test : (b : Bool) → length (service_lines (before ++ line ∷ [])) ≡ length (service_lines before) + length (cond b (line ∷ []) [])
        → more ≡ turns + (if b then 2 else 0) → more ≡ length (service_lines (before ++ line ∷ [])) + length (service_lines (before ++ line ∷ []))
    by_test true long add = omega (arith, long, add, is)
    by_test false long add = omega (arith, long, add, is)

-- and how often answers were read
pub readings_more : (before : List NumberedLine) (line : NumberedLine) (first some more : ℕ) → some ≡ first + length (service_lines before)
    → more ≡ some + (if is_service_line line.what then 1 else 0) → more ≡ first + length (service_lines (before ++ line ∷ []))
readings_more before line first some more is one = by_test (is_service_line line.what) (lines_more before line) one
  where
    by_test : (b : Bool) → length (service_lines (before ++ line ∷ [])) ≡ length (service_lines before) + length (cond b (line ∷ []) [])
        → more ≡ some + (if b then 1 else 0) → more ≡ first + length (service_lines (before ++ line ∷ []))
    by_test true long add = omega (arith, long, add, is)
    by_test false long add = omega (arith, long, add, is)

-- any line but its own takes none
pub none_own : (line : LineKind) → ((producer : ℕ) → line ≡ Collect producer → ⊥) → ((producer : ℕ) → line ≡ Scrape producer → ⊥)
    → ((buffer limit : ℕ) → line ≡ Read buffer limit → ⊥) → (line ≡ Request → ⊥) → (turns : ℕ) → turns ≡ turns + (if is_service_line line then 2 else 0)
none_own (Collect producer) collects scrapes reads requests turns = absurd (collects producer refl)
none_own (Scrape producer) collects scrapes reads requests turns = absurd (scrapes producer refl)
none_own (Read buffer limit) collects scrapes reads requests turns = absurd (reads buffer limit refl)
none_own Request collects scrapes reads requests turns = absurd (requests refl)
none_own (Packet writer fields) collects scrapes reads requests turns = omega arith
none_own (Begin writer) collects scrapes reads requests turns = omega arith
none_own (Add writer fields) collects scrapes reads requests turns = omega arith
none_own (Nest writer field) collects scrapes reads requests turns = omega arith
none_own (Unnest writer) collects scrapes reads requests turns = omega arith
none_own (End writer) collects scrapes reads requests turns = omega arith
none_own (Flush writer) collects scrapes reads requests turns = omega arith
none_own (Close producer) collects scrapes reads requests turns = omega arith
none_own (CloneBuffer buffer) collects scrapes reads requests turns = omega arith
none_own (Raw writer chunk) collects scrapes reads requests turns = omega arith
