-- The service's own lines, one behind the other, and what they take at most.
use Rattle.std.proofs.Common.{◌≡◌, ◌∙◌, ℕ, suc, ◌+◌, ◌*◌, ◌<◌, ◌≤◌, ◌⊎◌, Bool, true, false, List, [], ◌∷◌, ◌++◌, length, refl, sym, ap, subst, inl, inr, append-nil, append_assoc, arith}
use Rattle.std.specs.Prelude.{◌==◌, cond, if◌then◌else◌}
use Rattle.std.specs.List.{filter, flat_map}
use Rattle.std.proofs.lemmas.Bool.{cases_eq, eq-eqb, ne_eqb, true≢false}
use Rattle.std.proofs.lemmas.List.Concat.{flat_map-append}
use Rattle.std.proofs.lemmas.Nat.{mul-le}
use Rattle.std.proofs.Math.Bridge.{le_prop}
use Rattle.std.proofs.Math.Logic.{∥∥₁_elim}
use Rattle.std.proofs.Math.Nat.{suc-mul}
use Rattle.trace_model.specs.Buffers.{Buffer}
use Rattle.chunk_plain.specs.Plain.{first_world}
use Rattle.chunk_plain.specs.Setup.{Setup, producer_of, range_of}
use Rattle.chunk_plain.specs.Views.{ServiceView, Taken, none_taken, taken_of}
use Rattle.chunk_plain.proofs.MadeLemmas.{all_same}
use Rattle.scenario_text.specs.declared.scenario.LineKind.{LineKind}
use Rattle.scenario_text.specs.declared.scenario.LineKind.TheVariants.{Packet, Begin, Add, Nest, Unnest, End, Flush, Collect, Scrape, Close, Read, Request, CloneBuffer, Raw}
use Rattle.scenario_text.specs.declared.scenario.NumberedLine.{NumberedLine}
use Rattle.service_core.specs.Scraping.{TakesAndScrapes}
use Rattle.service_core.specs.Taking.{Takes, places_of}
use Rattle.run_model.specs.Collected.{CollectedByLines, TakenAtMost, has_asker, taken_by_line, taken_by_lines, times_in}
use Rattle.run_model.specs.Laws.{LinesTakeAtMost}
use Rattle.run_model.specs.Lines.{ComesBetween, GoesBetween, PlaysAll, PlaysLine, PlaysLines, PlaysSome, PlaysUpTo, is_service_line, service_lines}
use Rattle.run_model.proofs.TakenLemmas.{each_takes_none, takes_most, takes_other}

-- ---- one behind the other

between_more : (setup : Setup) (lines : List NumberedLine) (views : List ServiceView) (old mid new : ServiceView) → GoesBetween setup lines views old mid
    → ComesBetween setup lines mid new → GoesBetween setup lines (views ++ new ∷ []) old new
between_more setup lines [] old mid new same comes = (subst (λ (v : ServiceView). ComesBetween setup lines v new) same comes, refl)
between_more setup lines (view ∷ views) old mid new before comes = (before.0, between_more setup lines views view mid new before.1 comes)

-- what comes between lines comes behind them
pub plays_between : (setup : Setup) (first : List Buffer) (scenario lines : List NumberedLine) (old mid new : ServiceView)
    → PlaysLines setup first scenario lines old mid → ComesBetween setup scenario mid new → PlaysLines setup first scenario lines old new
plays_between setup first scenario [] old mid new plays comes = (plays.0 ++ new ∷ [], between_more setup scenario plays.0 old mid new plays.1 comes)
plays_between setup first scenario (line ∷ lines) old mid new plays comes =
    (plays.0, plays.1, plays.2, plays.3, plays.4, plays_between setup first scenario lines plays.2 mid new plays.5 comes)

-- and behind one that ended before its end
pub stopped_between : (setup : Setup) (first : List Buffer) (scenario lines : List NumberedLine) (old mid new : ServiceView)
    → PlaysUpTo setup first scenario lines old mid → ComesBetween setup scenario mid new → PlaysUpTo setup first scenario lines old new
stopped_between setup first scenario lines old mid new plays comes = record {
  done = plays.done;
  line = plays.line;
  later = plays.later;
  all = plays.all;
  here = plays.here;
  there = plays.there;
  plays = plays.plays;
  next = plays.next;
  ends = plays.ends;
  view = plays.view;
  views = plays.views ++ new ∷ [];
  behind = between_more setup scenario plays.views plays.there mid new plays.behind comes;
}

-- one line more
pub plays_more : (setup : Setup) (first : List Buffer) (scenario lines : List NumberedLine) (line : NumberedLine) (old mid new : ServiceView)
    → PlaysLines setup first scenario lines old mid → PlaysLine setup first line.what mid new → PlaysLines setup first scenario (lines ++ line ∷ []) old new
plays_more setup first scenario [] line old mid new plays one = (plays.0, mid, new, plays.1, one, ([], refl))
plays_more setup first scenario (next ∷ lines) line old mid new plays one =
    (plays.0, plays.1, plays.2, plays.3, plays.4, plays_more setup first scenario lines line plays.2 mid new plays.5 one)

-- ---- how often a producer stands among some

times_both : (producer : ℕ) (ones others : List ℕ) → times_in producer (ones ++ others) ≡ times_in producer ones + times_in producer others
times_both producer [] others = omega arith
times_both producer (one ∷ ones) others = let rest = times_both producer ones others in omega (arith, rest)

-- more of them allow more
more_at_most : (setup : Setup) (lines : List NumberedLine) (ones others : List ℕ) (view : ServiceView) → TakenAtMost setup lines ones view
    → TakenAtMost setup lines (ones ++ others) view
more_at_most setup lines ones others view bounded place inside nobody =
    let own : ℕ = producer_of setup place in
    let count : ℕ = (range_of setup own).count in
    let both = times_both own ones others in
    let most = mul-le (times_in own ones) count (times_in own (ones ++ others)) count (omega (arith, both)) (omega arith) in
    let was = bounded place inside nobody in
    omega (arith, most, was)

-- ---- what is taken at most

taken_still : (setup : Setup) (lines : List NumberedLine) (producers : List ℕ) (old new : ServiceView) → new.taken ≡ old.taken
    → TakenAtMost setup lines producers old → TakenAtMost setup lines producers new
taken_still setup lines producers old new same bounded place inside nobody =
    subst (λ (ts : List Taken). (taken_of (record new { taken = ts }) place).count ≤ times_in (producer_of setup place) producers * (range_of setup (producer_of setup place)).count)
    (sym same) (bounded place inside nobody)

-- between lines, of a producer none of whose writers asks for help
between_at_most : (setup : Setup) (lines : List NumberedLine) (producers : List ℕ) (old new : ServiceView) → ComesBetween setup lines old new
    → TakenAtMost setup lines producers old → TakenAtMost setup lines producers new
between_at_most setup lines producers old new (inl taken) bounded = λ place inside nobody.
    subst (λ (t : Taken). t.count ≤ times_in (producer_of setup place) producers * (range_of setup (producer_of setup place)).count)
    (sym (takes_other setup taken.0 taken.1 old new taken.3 place (λ same. absurd (true≢false (sym taken.2 ∙ ap (has_asker setup lines) (sym same) ∙ nobody)))))
    (bounded place inside nobody)
between_at_most setup lines producers old new (inr heard) bounded =
    taken_still setup lines producers old new (ap (λ (v : ServiceView). v.taken) heard.3) bounded

goes_at_most : (setup : Setup) (lines : List NumberedLine) (producers : List ℕ) (views : List ServiceView) (old new : ServiceView)
    → GoesBetween setup lines views old new → TakenAtMost setup lines producers old → TakenAtMost setup lines producers new
goes_at_most setup lines producers [] old new same bounded = taken_still setup lines producers old new (ap (λ (v : ServiceView). v.taken) same) bounded
goes_at_most setup lines producers (view ∷ views) old new goes bounded =
    goes_at_most setup lines producers views view new goes.1 (between_at_most setup lines producers old view goes.0 bounded)

-- by one taking for a line, of each writer of the producer all that there are
taking_at_most : (setup : Setup) (lines : List NumberedLine) (producers : List ℕ) (producer taken : ℕ) (old new : ServiceView)
    → Takes setup (places_of producer 0 setup.writers) taken old new → TakenAtMost setup lines producers old
    → TakenAtMost setup lines (producers ++ producer ∷ []) new
taking_at_most setup lines producers producer taken old new takes bounded place inside nobody = by_producer (cases_eq producer own)
  where
    own : ℕ
    own = producer_of setup place

    next : times_in own (producers ++ producer ∷ []) ≡ times_in own producers + ((if producer == own then 1 else 0) + 0)
    next = times_both own producers (producer ∷ [])

    by_producer : (producer ≡ producer_of setup place) ⊎ (producer ≡ producer_of setup place → ⊥)
        → (taken_of new place).count ≤ times_in (producer_of setup place) (producers ++ producer ∷ []) * (range_of setup (producer_of setup place)).count
    by_producer (inl is) =
        let one : times_in own (producers ++ producer ∷ []) ≡ suc (times_in own producers) =
        next ∙ ap (λ (b : Bool). times_in own producers + ((if b then 1 else 0) + 0)) (eq-eqb producer own is) ∙ omega arith in
        let times : times_in own (producers ++ producer ∷ []) * (range_of setup own).count
        ≡ times_in own producers * (range_of setup own).count + (range_of setup own).count =
        ap (λ (k : ℕ). k * (range_of setup own).count) one ∙ suc-mul (times_in own producers) (range_of setup own).count in
        let most = (takes_most setup producer 0 setup.writers taken old new takes place).1 in
        let was = bounded place inside nobody in
        omega (arith, times, most, was)
    by_producer (inr apart) =
        let same = takes_other setup producer taken old new takes place (λ is. apart (sym is)) in
        let none : times_in own (producers ++ producer ∷ []) ≡ times_in own producers =
        next ∙ ap (λ (b : Bool). times_in own producers + ((if b then 1 else 0) + 0)) (ne_eqb producer own apart) ∙ omega arith in
        let was = bounded place inside nobody in
        subst (λ (k : ℕ). (taken_of new place).count ≤ k * (range_of setup own).count) (sym none)
        (subst (λ (t : Taken). t.count ≤ times_in own producers * (range_of setup own).count) (sym same) was)

-- a line that takes nothing
still_at_most : (setup : Setup) (lines : List NumberedLine) (producers : List ℕ) (old new : ServiceView) → new.taken ≡ old.taken
    → TakenAtMost setup lines producers old → TakenAtMost setup lines (producers ++ []) new
still_at_most setup lines producers old new same bounded =
    more_at_most setup lines producers [] new (taken_still setup lines producers old new same bounded)

line_at_most : (setup : Setup) (first : List Buffer) (lines : List NumberedLine) (producers : List ℕ) (kind : LineKind) (old new : ServiceView)
    → PlaysLine setup first kind old new → TakenAtMost setup lines producers old → TakenAtMost setup lines (producers ++ taken_by_line kind) new
line_at_most setup first lines producers (Collect producer) old new plays bounded = taking_at_most setup lines producers producer plays.0 old new plays.1 bounded
line_at_most setup first lines producers (Scrape producer) old new plays bounded =
    taken_still setup lines (producers ++ producer ∷ []) plays.1.between new
    (each_takes_none setup (places_of producer 0 setup.writers) plays.1.between new plays.1.scrapes)
    (taking_at_most setup lines producers producer plays.0 old plays.1.between plays.1.takes bounded)
line_at_most setup first lines producers (Read buffer limit) old new plays bounded =
    still_at_most setup lines producers old new (ap (λ (v : ServiceView). v.taken) plays) bounded
line_at_most setup first lines producers Request old new plays bounded =
    still_at_most setup lines producers old new (ap (λ (v : ServiceView). v.taken) plays) bounded
line_at_most setup first lines producers (Packet writer fields) old new plays bounded =
    still_at_most setup lines producers old new (ap (λ (v : ServiceView). v.taken) plays) bounded
line_at_most setup first lines producers (Begin writer) old new plays bounded =
    still_at_most setup lines producers old new (ap (λ (v : ServiceView). v.taken) plays) bounded
line_at_most setup first lines producers (Add writer fields) old new plays bounded =
    still_at_most setup lines producers old new (ap (λ (v : ServiceView). v.taken) plays) bounded
line_at_most setup first lines producers (Nest writer field) old new plays bounded =
    still_at_most setup lines producers old new (ap (λ (v : ServiceView). v.taken) plays) bounded
line_at_most setup first lines producers (Unnest writer) old new plays bounded =
    still_at_most setup lines producers old new (ap (λ (v : ServiceView). v.taken) plays) bounded
line_at_most setup first lines producers (End writer) old new plays bounded =
    still_at_most setup lines producers old new (ap (λ (v : ServiceView). v.taken) plays) bounded
line_at_most setup first lines producers (Flush writer) old new plays bounded =
    still_at_most setup lines producers old new (ap (λ (v : ServiceView). v.taken) plays) bounded
line_at_most setup first lines producers (Close number) old new plays bounded =
    still_at_most setup lines producers old new (ap (λ (v : ServiceView). v.taken) plays) bounded
line_at_most setup first lines producers (CloneBuffer buffer) old new plays bounded =
    still_at_most setup lines producers old new (ap (λ (v : ServiceView). v.taken) plays) bounded
line_at_most setup first lines producers (Raw writer chunk) old new plays bounded =
    still_at_most setup lines producers old new (ap (λ (v : ServiceView). v.taken) plays) bounded

lines_at_most : (setup : Setup) (first : List Buffer) (scenario lines : List NumberedLine) (producers : List ℕ) (old new : ServiceView)
    → PlaysLines setup first scenario lines old new → TakenAtMost setup scenario producers old
    → TakenAtMost setup scenario (producers ++ taken_by_lines lines) new
lines_at_most setup first scenario [] producers old new plays bounded =
    more_at_most setup scenario producers [] new (goes_at_most setup scenario producers plays.0 old new plays.1 bounded)
lines_at_most setup first scenario (line ∷ lines) producers old new plays bounded =
    subst (λ (ps : List ℕ). TakenAtMost setup scenario ps new) (append_assoc producers (taken_by_line line.what) (taken_by_lines lines))
    (lines_at_most setup first scenario lines (producers ++ taken_by_line line.what) plays.2 new plays.5
    (line_at_most setup first scenario producers line.what plays.1 plays.2 plays.4 (goes_at_most setup scenario producers plays.0 old plays.1 plays.3 bounded)))

-- ---- lines that the service doesn't play take nothing

taken_by_service : (lines : List NumberedLine) → taken_by_lines (service_lines lines) ≡ taken_by_lines lines
taken_by_service [] = refl
taken_by_service (line ∷ lines) = by_kind line.what refl (taken_by_service lines)
  where
    by_kind : (kind : LineKind) → line.what ≡ kind → taken_by_lines (service_lines lines) ≡ taken_by_lines lines
        → taken_by_lines (cond (is_service_line kind) (line ∷ service_lines lines) (service_lines lines)) ≡ taken_by_line kind ++ taken_by_lines lines
    by_kind (Collect producer) is rest =
        ap (λ (k : LineKind). taken_by_line k ++ taken_by_lines (service_lines lines)) is ∙ ap (λ (ps : List ℕ). producer ∷ ps) rest
    by_kind (Scrape producer) is rest =
        ap (λ (k : LineKind). taken_by_line k ++ taken_by_lines (service_lines lines)) is ∙ ap (λ (ps : List ℕ). producer ∷ ps) rest
    by_kind (Read buffer limit) is rest = ap (λ (k : LineKind). taken_by_line k ++ taken_by_lines (service_lines lines)) is ∙ rest
    by_kind Request is rest = ap (λ (k : LineKind). taken_by_line k ++ taken_by_lines (service_lines lines)) is ∙ rest
    by_kind (Packet writer fields) is rest = rest
    by_kind (Begin writer) is rest = rest
    by_kind (Add writer fields) is rest = rest
    by_kind (Nest writer field) is rest = rest
    by_kind (Unnest writer) is rest = rest
    by_kind (End writer) is rest = rest
    by_kind (Flush writer) is rest = rest
    by_kind (Close producer) is rest = rest
    by_kind (CloneBuffer buffer) is rest = rest
    by_kind (Raw writer chunk) is rest = rest

nothing_taken : (setup : Setup) (lines : List NumberedLine) → TakenAtMost setup lines [] (first_world setup).service
nothing_taken setup lines place inside nobody =
    let none = ap (λ (t : Taken). t.count) (all_same none_taken setup.writers place) in omega (arith, none)

-- ---- in all

pub all_at_most : (setup : Setup) (first : List Buffer) (lines : List NumberedLine) (ran : ServiceView)
    → PlaysAll setup first lines (first_world setup).service ran → CollectedByLines setup lines ran
all_at_most setup first lines ran plays place inside nobody =
    ∥∥₁_elim plays (hlevel le_prop) (λ (one : PlaysLines setup first lines (service_lines lines) (first_world setup).service ran).
    subst (λ (ps : List ℕ). TakenAtMost setup lines ps ran) (taken_by_service lines)
    (lines_at_most setup first lines (service_lines lines) [] (first_world setup).service ran one (nothing_taken setup lines)) place inside nobody)

pub some_at_most : (setup : Setup) (first : List Buffer) (lines : List NumberedLine) (ran : ServiceView)
    → PlaysSome setup first lines (first_world setup).service ran → CollectedByLines setup lines ran
some_at_most setup first lines ran plays place inside nobody = ∥∥₁_elim plays (hlevel le_prop) (λ one. up_to one place inside nobody)
  where
    up_to : PlaysUpTo setup first lines (service_lines lines) (first_world setup).service ran → TakenAtMost setup lines (taken_by_lines lines) ran
    up_to one =
        let done = lines_at_most setup first lines one.done [] (first_world setup).service one.here one.plays (nothing_taken setup lines) in
        let read = taken_still setup lines (taken_by_lines one.done) one.here one.there (ap (λ (v : ServiceView). v.taken) one.view) done in
        let all : taken_by_lines one.done ++ taken_by_lines (one.line ∷ one.later) ≡ taken_by_lines lines =
        sym (flat_map-append (λ (line : NumberedLine). taken_by_line line.what) one.done (one.line ∷ one.later))
        ∙ ap taken_by_lines (sym one.all) ∙ taken_by_service lines in
        subst (λ (ps : List ℕ). TakenAtMost setup lines ps ran) all
        (more_at_most setup lines (taken_by_lines one.done) (taken_by_lines (one.line ∷ one.later)) ran
        (goes_at_most setup lines (taken_by_lines one.done) one.views one.there ran one.behind read))

pub lines_take_at_most : LinesTakeAtMost
lines_take_at_most = record {
  run = λ scenario setup world run. all_at_most setup _ scenario.lines run.before.done.stood.service run.before.played;
  in_lines = λ scenario setup world next stops. some_at_most setup _ scenario.lines stops.done.stood.service stops.played;
  in_end = λ scenario setup world next stops. all_at_most setup _ scenario.lines stops.before.done.stood.service stops.before.played;
}
