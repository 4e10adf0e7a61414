-- How the emitters of all writers go on with lines.
use Rattle.std.proofs.Common.{◌≡◌, ◌≢◌, ◌∙◌, ℕ, zero, suc, ◌+◌, ◌<◌, ◌≤◌, ◌⊎◌, nat_eq, Bool, true, false, cond, List, [], ◌∷◌, ◌++◌, Some, length, set, refl, sym, ap, subst, arith, inl, inr, length-append, append_assoc}
use Rattle.std.specs.Prelude.{fold, slice_get}
use Rattle.std.proofs.lemmas.Bool.{cases_eq, eq-eqb, ne_eqb}
use Rattle.std.proofs.lemmas.Grind.{flat_map-append}
use Rattle.std.proofs.lemmas.List.{append-nil}
use Rattle.std.proofs.lemmas.List.Sums.{fold-append, sum_by-append}
use Rattle.std.proofs.lemmas.Option.{slice_get_within}
use Rattle.trace_model.specs.Calls.{Call}
use Rattle.trace_model.specs.Packets.{Account, account_of, noted, nothing_yet}
use Rattle.emitted_packets.specs.declared.emitter.Emitter.{Emitter}
use Rattle.scenario_text.specs.declared.scenario.LineKind.{LineKind}
use Rattle.scenario_text.specs.declared.scenario.LineKind.TheVariants.{Packet, Begin, Add, Nest, Unnest, End, Flush, Collect, Scrape, Close, Read, Request, CloneBuffer, Raw}
use Rattle.scenario_text.specs.declared.scenario.NumberedLine.{NumberedLine}
use Rattle.scenario_text.specs.Accepted.{line_calls, named_calls, calls_asked, AreAccepted}
use Rattle.scenario_text.specs.Lengths.{line_len}
use Rattle.scenario_text.proofs.AcceptedLemmas.{calls_more}
use Rattle.scenario_text.proofs.ShortLemmas.{lines_push}
use Rattle.scenario_text.proofs.AcceptedFields.{accepted_front, accepted_back}
use Rattle.scenario_check.specs.Progress.{Holds, MayTake, Takes, named_writer, HasTaken, HaveTaken, MayCome}
use Rattle.scenario_check.proofs.AskedLemmas.{push_there}

-- ---- what a line asks

named_at : (same : Bool) (number : ℕ) (what : LineKind) → nat_eq number (named_writer what) ≡ same → line_calls number what ≡ cond same (named_calls what) []
unfolding line_calls
named_at same number (Packet writer nodes) is = ap (λ (b : Bool). cond b (named_calls (Packet writer nodes)) []) is
named_at same number (Begin writer) is = ap (λ (b : Bool). cond b (named_calls (Begin writer)) []) is
named_at same number (Add writer nodes) is = ap (λ (b : Bool). cond b (named_calls (Add writer nodes)) []) is
named_at same number (Nest writer field) is = ap (λ (b : Bool). cond b (named_calls (Nest writer field)) []) is
named_at same number (Unnest writer) is = ap (λ (b : Bool). cond b (named_calls (Unnest writer)) []) is
named_at same number (End writer) is = ap (λ (b : Bool). cond b (named_calls (End writer)) []) is
named_at same number (Flush writer) is = ap (λ (b : Bool). cond b (named_calls (Flush writer)) []) is
named_at true number (Collect producer) is = refl
named_at false number (Collect producer) is = refl
named_at true number (Scrape producer) is = refl
named_at false number (Scrape producer) is = refl
named_at true number (Close producer) is = refl
named_at false number (Close producer) is = refl
named_at true number (Read buffer limit) is = refl
named_at false number (Read buffer limit) is = refl
named_at true number Request is = refl
named_at false number Request is = refl
named_at true number (CloneBuffer buffer) is = refl
named_at false number (CloneBuffer buffer) is = refl
named_at true number (Raw writer chunk) is = refl
named_at false number (Raw writer chunk) is = refl

calls_own : (number : ℕ) (lines : List NumberedLine) (line : NumberedLine) → named_writer line.what ≡ number
    → calls_asked number (lines ++ line ∷ []) ≡ calls_asked number lines ++ named_calls line.what
calls_own number lines line is =
    calls_more number lines line
    ∙ ap (λ (calls : List Call). calls_asked number lines ++ calls)
    (named_at true number line.what (ap (λ (n : ℕ). nat_eq number n) is ∙ eq-eqb number number refl))

calls_other : (number : ℕ) (lines : List NumberedLine) (line : NumberedLine) → (number ≡ named_writer line.what → ⊥)
    → calls_asked number (lines ++ line ∷ []) ≡ calls_asked number lines
calls_other number lines line other =
    calls_more number lines line
    ∙ ap (λ (calls : List Call). calls_asked number lines ++ calls) (named_at false number line.what (ne_eqb number (named_writer line.what) other))
    ∙ append-nil (calls_asked number lines)

-- ---- one emitter

pub line_may : (place writers : ℕ) (lines : List NumberedLine) (line : NumberedLine) (old : Emitter) → named_writer line.what ≡ place + 1 → place + 1 ≤ writers
    → HasTaken (place + 1) lines old → MayCome writers (lines ++ line ∷ []) → MayTake (named_calls line.what) (line_len line.what) old
line_may place writers lines line old named inside taken may =
    let calls = calls_asked (place + 1) lines in
    let all : AreAccepted nothing_yet (calls ++ named_calls line.what) =
    subst (AreAccepted nothing_yet) (calls_own (place + 1) lines line named) (may.accepted place inside) in
    record {
      account = account_of calls;
      holds = taken.holds;
      accepted = accepted_back nothing_yet calls (named_calls line.what) all;
      short = omega (arith, may.short, lines_push lines line, taken.long);
    }

taken_own : (place writers : ℕ) (lines : List NumberedLine) (line : NumberedLine) (old new : Emitter) → named_writer line.what ≡ place + 1 → place + 1 ≤ writers
    → HasTaken (place + 1) lines old → MayCome writers (lines ++ line ∷ []) → Takes (named_calls line.what) (line_len line.what) 1 old new
    → HasTaken (place + 1) (lines ++ line ∷ []) new
taken_own place writers lines line old new named inside taken may takes =
    let calls = calls_asked (place + 1) lines in
    let own = calls_own (place + 1) lines line named in
    let all : AreAccepted nothing_yet (calls ++ named_calls line.what) = subst (AreAccepted nothing_yet) own (may.accepted place inside) in
    let after : Holds (fold noted (account_of calls) (named_calls line.what)) new =
    takes.holds (account_of calls) taken.holds (accepted_back nothing_yet calls (named_calls line.what) all) in
    record {
      holds = subst (λ (cs : List Call). Holds (account_of cs) new) (sym own)
          (subst (λ (a : Account). Holds a new) (sym (fold-append noted nothing_yet calls (named_calls line.what))) after);
      long = omega (arith, takes.long, taken.long, lines_push lines line);
      few = omega (arith, takes.few, taken.few, length-append lines (line ∷ []));
    }

taken_other : (number : ℕ) (lines : List NumberedLine) (line : NumberedLine) (emitter : Emitter) → (number ≡ named_writer line.what → ⊥)
    → HasTaken number lines emitter → HasTaken number (lines ++ line ∷ []) emitter
taken_other number lines line emitter other taken = record {
  holds = subst (λ (cs : List Call). Holds (account_of cs) emitter) (sym (calls_other number lines line other)) taken.holds;
  long = omega (arith, taken.long, lines_push lines line);
  few = omega (arith, taken.few, length-append lines (line ∷ []));
}

-- ---- all emitters

set_there : {A : Type 0} (xs : List A) (place q : ℕ) (x y : A) → slice_get (set xs place x) q ≡ Some y → (q ≢ place) → slice_get xs q ≡ Some y
set_there [] place q x y there other = there
set_there (first ∷ xs) zero zero x y there other = absurd (other refl)
set_there (first ∷ xs) zero (suc q) x y there other = there
set_there (first ∷ xs) (suc place) zero x y there other = there
set_there (first ∷ xs) (suc place) (suc q) x y there other = set_there xs place q x y there (λ same. other (ap suc same))

set_here : {A : Type 0} (xs : List A) (place : ℕ) (x y : A) → slice_get (set xs place x) place ≡ Some y → x ≡ y
set_here [] place x y there = absurd cc
set_here (first ∷ xs) zero x y there = cc
set_here (first ∷ xs) (suc place) x y there = set_here xs place x y there

-- the line is of the writer at this place
pub all_own : (place : ℕ) (lines : List NumberedLine) (line : NumberedLine) (emitters : List Emitter) (old new : Emitter) → named_writer line.what ≡ place + 1
    → slice_get emitters place ≡ Some old → HaveTaken lines emitters → MayCome (length emitters) (lines ++ line ∷ [])
    → Takes (named_calls line.what) (line_len line.what) 1 old new → HaveTaken (lines ++ line ∷ []) (set emitters place new)
all_own place lines line emitters old new named here taken may takes = λ q emitter there. by_case q emitter there (cases_eq q place)
  where
    inside : place + 1 ≤ length emitters
    inside = omega (arith, slice_get_within emitters place old here)

    by_case : (q : ℕ) (emitter : Emitter) → slice_get (set emitters place new) q ≡ Some emitter → (q ≡ place) ⊎ (q ≢ place)
        → HasTaken (q + 1) (lines ++ line ∷ []) emitter
    by_case q emitter there (inl same) =
        let there_too : slice_get (set emitters place new) place ≡ Some emitter = subst (λ (n : ℕ). slice_get (set emitters place new) n ≡ Some emitter) same there in
        let is : new ≡ emitter = set_here emitters place new emitter there_too in
        subst (λ (n : ℕ). HasTaken (n + 1) (lines ++ line ∷ []) emitter) (sym same)
        (subst (HasTaken (place + 1) (lines ++ line ∷ [])) is
        (taken_own place (length emitters) lines line old new named inside (taken place old here) may takes))
    by_case q emitter there (inr other) =
        taken_other (q + 1) lines line emitter (λ same. other (omega (arith, same, named)))
        (taken q emitter (set_there emitters place q new emitter there other))

-- the line names no writer of these
pub all_other : (lines : List NumberedLine) (line : NumberedLine) (emitters : List Emitter) → (named_writer line.what ≡ 0) ⊎ (length emitters < named_writer line.what)
    → HaveTaken lines emitters → HaveTaken (lines ++ line ∷ []) emitters
all_other lines line emitters outside taken = λ q emitter there.
    taken_other (q + 1) lines line emitter (λ same. not_one q (omega (arith, slice_get_within emitters q emitter there)) same outside) (taken q emitter there)
  where
    not_one : (q : ℕ) → q + 1 ≤ length emitters → q + 1 ≡ named_writer line.what → (named_writer line.what ≡ 0) ⊎ (length emitters < named_writer line.what) → ⊥
    not_one q low same (inl none) = omega (arith, same, none)
    not_one q low same (inr past) = omega (arith, low, same, past)

-- ---- lines one after another

pub append_first : (before : List NumberedLine) (line : NumberedLine) (rest : List NumberedLine) → (before ++ line ∷ []) ++ rest ≡ before ++ line ∷ rest
append_first before line rest = append_assoc before (line ∷ []) rest

pub may_front : (writers : ℕ) (front rest : List NumberedLine) → MayCome writers (front ++ rest) → MayCome writers front
may_front writers front rest may = record {
  accepted = λ place inside.
      accepted_front nothing_yet (calls_asked (place + 1) front) (calls_asked (place + 1) rest)
      (subst (AreAccepted nothing_yet) (flat_map-append (λ (l : NumberedLine). line_calls (place + 1) l.what) front rest) (may.accepted place inside));
  short = omega (arith, may.short, sum_by-append (λ (l : NumberedLine). line_len l.what) front rest);
}

-- ---- before the first line

none_taken : (number : ℕ) (emitter : Emitter) → Holds nothing_yet emitter → emitter.bytes.items ≡ [] → emitter.ends.items ≡ [] → HasTaken number [] emitter
none_taken number emitter holds bytes ends = record { holds = holds; long = omega (arith, ap length bytes); few = omega (arith, ap length ends) }

pub made_more : (emitters : List Emitter) (emitter : Emitter) → HaveTaken [] emitters → Holds nothing_yet emitter
    → (emitter.bytes.items ≡ []) × (emitter.ends.items ≡ []) → HaveTaken [] (emitters ++ emitter ∷ [])
made_more emitters emitter taken holds empty = λ place one there. by_place place one (push_there emitters emitter one place there)
  where
    by_place : (place : ℕ) (one : Emitter) → (slice_get emitters place ≡ Some one) ⊎ ((place ≡ length emitters) × (emitter ≡ one)) → HasTaken (place + 1) [] one
    by_place place one (inl inside) = taken place one inside
    by_place place one (inr last) = subst (HasTaken (place + 1) []) last.1 (none_taken (place + 1) emitter holds empty.0 empty.1)
