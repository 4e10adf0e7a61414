-- Each line is played behind those before it, and its clone is filled.
use Rattle.std.proofs.Common.{◌≡◌, ◌∙◌, ℕ, suc, ◌-◌, ◌<◌, ◌≤◌, List, [], ◌∷◌, ◌++◌, length, map, take, drop, get_or, refl, ap, sym, subst, rules, arith, append-nil}
use Rattle.std.proofs.Math.Seq.{take_all}
use Rattle.std.proofs.lemmas.List.{length-drop}
use Rattle.std.specs.Prelude.{Err}
use Rattle.trace_model.specs.Buffers.{Buffer}
use Rattle.scenario_text.specs.declared.scenario.LineKind.{LineKind}
use Rattle.scenario_text.specs.declared.scenario.LineKind.TheVariants.{CloneBuffer}
use Rattle.scenario_text.specs.declared.scenario.NumberedLine.{NumberedLine}
use Rattle.scenario_text.specs.Clones.{clones_by, clones_in}
use Rattle.scenario_text.specs.Scenario.{Parts}
use Rattle.service_core.specs.Agreement.{first_of}
use Rattle.service_core.specs.Routing.{buffer_at}
use Rattle.chunk_plain.specs.Setup.{Setup}
use Rattle.replay_host.specs.Raws.{HasRoom}
use Rattle.replay_host.specs.Cloning.{HaveCloned, clone_now}
use Rattle.replay_host.proofs.CloningLemmas.{cloned_first}
use Rattle.replay_host.proofs.FieldLemmas.{if_err_is}
use Rattle.replay_host.proofs.FillingLemmas.{there_first, take_set, drop_set, no_clone, coming_next, new_host, names, few, fits, with_clones}
use Rattle.replay_host.proofs.PlayingLemmas.{played_first, moment_at, comes_at, played_next, stopped_next, played_all, line_there, none_there}
use Rattle.replay_host.proofs.ResultLemmas.{counts_stop}
use Rattle.replay_host.proofs.RowLemmas.{AreLaws}
use Rattle.replay_host.proofs.playing.Host+W+W+Writer+W+Service.play_lines.Goals as goal

pub lines-init : goal.lines-init
lines-init g c = record {
  place = 0;
  left = sym c.walk-walk.ensures;
  played = λ scenario same begins. played_first g.W.Words.means scenario c.args.self.now (g.O.Sink.taken c.args.out.now) begins;
  made = λ scenario same begins.
      let means = g.W.Words.means in
      let laws : AreLaws means = record {
        told_view = g.met.W.Words.told_view;
        told_service_view = g.met.W.Words.told_service_view;
        told_writers = g.met.W.Words.told_writers;
        told_owned = g.met.W.Words.told_owned;
      } in
      cloned_first means laws scenario c.args.self.now;
  coming = c.requires.clones;
  room = c.requires.room;
  steady = refl;
  may = c.requires.may;
}

pub play_line-requires-clause-next : goal.play_line-requires-clause-next
play_line-requires-clause-next g c =
    let means = g.W.Words.means in
    let scenario : Parts = c.requires.begins.0 in
    let same = c.requires.begins.1 in
    let begins = c.requires.begins.2 in
    let i : ℕ = c.lines.invariant.place in
    let line : NumberedLine = c.in-Some.line in
    let there = line_there c.args.lines.now c.next.new.self i line (c.lines.invariant.left ∙ c.in-Some.ensures.first) in
    let below : i < length scenario.lines = subst (λ (ls : List NumberedLine). i < length ls) (sym same) there.0 in
    let is : get_or scenario.lines i line ≡ line =
    ap (λ (ls : List NumberedLine). get_or ls i line) same ∙ there.1 in
    let so = c.lines.invariant.played scenario same begins in
    let taken = g.O.Sink.taken c.args.out.now in
    let between = g.O.Sink.taken c.lines.out in (
      moment_at means scenario c.args.self.now taken begins i line below is c.lines.self between so,
      refl,
      comes_at means scenario c.args.self.now taken begins i line below is c.lines.self between so,
    )

pub returns-in_err-play_line-clause-stops : goal.returns-in_err-play_line-clause-stops
returns-in_err-play_line-clause-stops g c =
    let means = g.W.Words.means in
    let i : ℕ = c.lines.invariant.place in
    let line : NumberedLine = c.in-Some.line in
    let there = line_there c.args.lines.now c.next.new.self i line (c.lines.invariant.left ∙ c.in-Some.ensures.first) in
    let taken = g.O.Sink.taken c.args.out.now in
    let between = g.O.Sink.taken c.lines.out in
    let found = c.in_err-play_line.field-0.0 in
    let result_is : c.from_residual.result ≡ Err found = search rules in
    if_err_is c.from_residual.result found _ result_is
    (λ scenario same begins.
    let below : i < length scenario.lines = subst (λ (ls : List NumberedLine). i < length ls) (sym same) there.0 in
    let is : get_or scenario.lines i line ≡ line = ap (λ (ls : List NumberedLine). get_or ls i line) same ∙ there.1 in
    let so = c.lines.invariant.played scenario same begins in
    stopped_next means scenario c.args.self.now taken begins i line below is c.lines.self between so found (g.O.Sink.taken c.play_line.new.out)
    (c.in_err-play_line.ensures.stops (moment_at means scenario c.args.self.now taken begins i line below is c.lines.self between so)
    refl
    (comes_at means scenario c.args.self.now taken begins i line below is c.lines.self between so)))

-- the clone that comes next is the line's, as its buffer is made
pub offered : (first : ℕ → Buffer) (lines rest : List NumberedLine) (i : ℕ) (one : NumberedLine) (buffer : ℕ) (clones : List Buffer) (filled : ℕ)
    → drop i lines ≡ one ∷ rest → one.what ≡ CloneBuffer buffer → drop filled clones ≡ map first (clones_in (drop i lines))
    → drop filled clones ≡ first buffer ∷ map first (clones_in (drop (suc i) lines))
offered first lines rest i one buffer clones filled left what coming =
    coming
    ∙ ap (map first) (coming_next lines rest i one left
    ∙ ap (λ (kind : LineKind). clones_by kind ++ clones_in (drop (suc i) lines)) what)

pub lines-preserved : goal.lines-preserved
lines-preserved g c = record {
  place = suc c.lines.invariant.place;
  left = (line_there c.args.lines.now c.next.new.self c.lines.invariant.place c.in-Some.line (c.lines.invariant.left ∙ c.in-Some.ensures.first)).2;
  played = λ scenario same begins.
      let means = g.W.Words.means in
      let i : ℕ = c.lines.invariant.place in
      let line : NumberedLine = c.in-Some.line in
      let there = line_there c.args.lines.now c.next.new.self i line (c.lines.invariant.left ∙ c.in-Some.ensures.first) in
      let taken = g.O.Sink.taken c.args.out.now in
      let between = g.O.Sink.taken c.lines.out in
      let left = g.O.Sink.taken c.play_line.new.out in
      let below : i < length scenario.lines = subst (λ (ls : List NumberedLine). i < length ls) (sym same) there.0 in
      let is : get_or scenario.lines i line ≡ line = ap (λ (ls : List NumberedLine). get_or ls i line) same ∙ there.1 in
      let so = c.lines.invariant.played scenario same begins in
      played_next means scenario c.args.self.now taken begins i line below is c.lines.self between so c.play_line.new.self left
      (c.in_ok-play_line.ensures.played (moment_at means scenario c.args.self.now taken begins i line below is c.lines.self between so)
      refl
      (comes_at means scenario c.args.self.now taken begins i line below is c.lines.self between so));
  made = λ scenario same begins.
      let means = g.W.Words.means in
      let i : ℕ = c.lines.invariant.place in
      let line : NumberedLine = c.in-Some.line in
      let there = line_there c.args.lines.now c.next.new.self i line (c.lines.invariant.left ∙ c.in-Some.ensures.first) in
      let taken = g.O.Sink.taken c.args.out.now in
      let between = g.O.Sink.taken c.lines.out in
      let left = g.O.Sink.taken c.play_line.new.out in
      let below : i < length scenario.lines = subst (λ (ls : List NumberedLine). i < length ls) (sym same) there.0 in
      let is : get_or scenario.lines i line ≡ line = ap (λ (ls : List NumberedLine). get_or ls i line) same ∙ there.1 in
      let so = c.lines.invariant.played scenario same begins in
      let played = c.in_ok-play_line.ensures.played (moment_at means scenario c.args.self.now taken begins i line below is c.lines.self between so)
      refl
      (comes_at means scenario c.args.self.now taken begins i line below is c.lines.self between so) in
      let laws : AreLaws means = record {
        told_view = g.met.W.Words.told_view;
        told_service_view = g.met.W.Words.told_service_view;
        told_writers = g.met.W.Words.told_writers;
        told_owned = g.met.W.Words.told_owned;
      } in
      let none = no_clone line.what (λ buffer same. c.in_default-what.not-CloneBuffer buffer same) in
      subst (λ (bs : List Buffer). HaveCloned means scenario [] (take (suc i) scenario.lines) c.args.self.now c.play_line.new.self bs)
      (ap (λ (numbers : List ℕ). take c.lines.filled c.lines.clones ++ map (clone_now means c.play_line.new.self) numbers) none ∙ append-nil (take c.lines.filled c.lines.clones))
      (with_clones means scenario c.args.self.now taken begins i line below is c.lines.self between so c.play_line.new.self left played laws (take c.lines.filled c.lines.clones) (c.lines.invariant.made scenario same begins));
  coming =
      let line : NumberedLine = c.in-Some.line in
      let none = no_clone line.what (λ buffer same. c.in_default-what.not-CloneBuffer buffer same) in
      c.lines.invariant.coming
      ∙ ap (map (λ (number : ℕ). buffer_at (first_of (g.W.Words.means.setup c.args.self.now.table) c.args.self.now.helper.service) (number - 1)))
      (coming_next c.args.lines.now c.next.new.self c.lines.invariant.place line (c.lines.invariant.left ∙ c.in-Some.ensures.first)
      ∙ ap (λ (numbers : List ℕ). numbers ++ clones_in (drop (suc c.lines.invariant.place) c.args.lines.now)) none);
  room =
      let begins = c.requires.begins in
      subst (λ (s : Setup). HasRoom s.sizes c.play_line.new.payloads) (c.lines.invariant.played begins.0 begins.1 begins.2).done.setup_is
      c.in_ok-play_line.ensures.room;
  steady = c.in_ok-play_line.ensures.count ∙ c.lines.invariant.steady;
  may = c.in_ok-play_line.ensures.goes_on;
}

pub lines-preserved-in-CloneBuffer : goal.lines-preserved-in-CloneBuffer
lines-preserved-in-CloneBuffer g c = record {
  place = suc c.lines.invariant.place;
  left = (line_there c.args.lines.now c.next.new.self c.lines.invariant.place c.in-Some.line (c.lines.invariant.left ∙ c.in-Some.ensures.first)).2;
  played = λ scenario same begins.
      let means = g.W.Words.means in
      let i : ℕ = c.lines.invariant.place in
      let line : NumberedLine = c.in-Some.line in
      let there = line_there c.args.lines.now c.next.new.self i line (c.lines.invariant.left ∙ c.in-Some.ensures.first) in
      let taken = g.O.Sink.taken c.args.out.now in
      let between = g.O.Sink.taken c.lines.out in
      let left = g.O.Sink.taken c.play_line.new.out in
      let below : i < length scenario.lines = subst (λ (ls : List NumberedLine). i < length ls) (sym same) there.0 in
      let is : get_or scenario.lines i line ≡ line = ap (λ (ls : List NumberedLine). get_or ls i line) same ∙ there.1 in
      let so = c.lines.invariant.played scenario same begins in
      played_next means scenario c.args.self.now taken begins i line below is c.lines.self between so c.play_line.new.self left
      (c.in_ok-play_line.ensures.played (moment_at means scenario c.args.self.now taken begins i line below is c.lines.self between so)
      refl
      (comes_at means scenario c.args.self.now taken begins i line below is c.lines.self between so));
  made = λ scenario same begins.
      let means = g.W.Words.means in
      let i : ℕ = c.lines.invariant.place in
      let line : NumberedLine = c.in-Some.line in
      let there = line_there c.args.lines.now c.next.new.self i line (c.lines.invariant.left ∙ c.in-Some.ensures.first) in
      let taken = g.O.Sink.taken c.args.out.now in
      let between = g.O.Sink.taken c.lines.out in
      let left = g.O.Sink.taken c.play_line.new.out in
      let below : i < length scenario.lines = subst (λ (ls : List NumberedLine). i < length ls) (sym same) there.0 in
      let is : get_or scenario.lines i line ≡ line = ap (λ (ls : List NumberedLine). get_or ls i line) same ∙ there.1 in
      let so = c.lines.invariant.played scenario same begins in
      let played = c.in_ok-play_line.ensures.played (moment_at means scenario c.args.self.now taken begins i line below is c.lines.self between so)
      refl
      (comes_at means scenario c.args.self.now taken begins i line below is c.lines.self between so) in
      let laws : AreLaws means = record {
        told_view = g.met.W.Words.told_view;
        told_service_view = g.met.W.Words.told_service_view;
        told_writers = g.met.W.Words.told_writers;
        told_owned = g.met.W.Words.told_owned;
      } in
      let what = c.in-CloneBuffer.is in
      let first = there_first c.lines.clones (map (λ (number : ℕ). buffer_at (first_of (means.setup c.args.self.now.table) c.args.self.now.helper.service) (number - 1))
      (clones_in (drop (suc i) c.args.lines.now))) c.lines.filled _ (offered (λ (number : ℕ). buffer_at (first_of (g.W.Words.means.setup c.args.self.now.table) c.args.self.now.helper.service) (number - 1))
      c.args.lines.now c.next.new.self c.lines.invariant.place c.in-Some.line c.in-CloneBuffer.buffer c.lines.clones c.lines.filled
      (c.lines.invariant.left ∙ c.in-Some.ensures.first) c.in-CloneBuffer.is c.lines.invariant.coming) in
      let next : c.fill_next-filled.result ≡ suc c.lines.filled = c.fill_next-filled.ensures.next ∙ (omega arith) in
      subst (λ (bs : List Buffer). HaveCloned means scenario [] (take (suc i) scenario.lines) c.args.self.now c.play_line.new.self bs)
      (ap (λ (numbers : List ℕ). take c.lines.filled c.lines.clones ++ map (clone_now means c.play_line.new.self) numbers) (ap clones_by what)
      ∙ sym (take_set c.lines.clones c.lines.filled (clone_now means c.play_line.new.self c.in-CloneBuffer.buffer) first.0)
      ∙ ap (λ (bs : List Buffer). take (suc c.lines.filled) bs) (sym c.fill_next-filled.ensures.filled)
      ∙ ap (λ (n : ℕ). take n c.fill_next-filled.new.clones) (sym next))
      (with_clones means scenario c.args.self.now taken begins i line below is c.lines.self between so c.play_line.new.self left played laws (take c.lines.filled c.lines.clones) (c.lines.invariant.made scenario same begins));
  coming =
      let means = g.W.Words.means in
      let i : ℕ = c.lines.invariant.place in
      let first = there_first c.lines.clones (map (λ (number : ℕ). buffer_at (first_of (means.setup c.args.self.now.table) c.args.self.now.helper.service) (number - 1))
      (clones_in (drop (suc i) c.args.lines.now))) c.lines.filled _ (offered (λ (number : ℕ). buffer_at (first_of (g.W.Words.means.setup c.args.self.now.table) c.args.self.now.helper.service) (number - 1))
      c.args.lines.now c.next.new.self c.lines.invariant.place c.in-Some.line c.in-CloneBuffer.buffer c.lines.clones c.lines.filled
      (c.lines.invariant.left ∙ c.in-Some.ensures.first) c.in-CloneBuffer.is c.lines.invariant.coming) in
      let next : c.fill_next-filled.result ≡ suc c.lines.filled = c.fill_next-filled.ensures.next ∙ (omega arith) in
      ap (λ (n : ℕ). drop n c.fill_next-filled.new.clones) next
      ∙ ap (λ (bs : List Buffer). drop (suc c.lines.filled) bs) c.fill_next-filled.ensures.filled
      ∙ drop_set c.lines.clones c.lines.filled (clone_now means c.play_line.new.self c.in-CloneBuffer.buffer)
      ∙ first.2;
  room =
      let begins = c.requires.begins in
      subst (λ (s : Setup). HasRoom s.sizes c.play_line.new.payloads) (c.lines.invariant.played begins.0 begins.1 begins.2).done.setup_is
      c.in_ok-play_line.ensures.room;
  steady = c.in_ok-play_line.ensures.count ∙ c.lines.invariant.steady;
  may = c.in_ok-play_line.ensures.goes_on;
}

pub returns-clause-played : goal.returns-clause-played
returns-clause-played g c scenario same begins =
    let none = rw c.in_default.is at c.next.ensures.none in
    let i : ℕ = c.lines.invariant.place in
    let most : length scenario.lines ≤ i =
    subst (λ (ls : List NumberedLine). length ls ≤ i) (sym same) (none_there c.args.lines.now i (c.lines.invariant.left ∙ none.0)) in
    played_all g.W.Words.means scenario c.args.self.now (g.O.Sink.taken c.args.out.now) i c.lines.self (g.O.Sink.taken c.lines.out)
    (c.lines.invariant.played scenario same begins) most

pub returns-in_err-play_line-clause-count : goal.returns-in_err-play_line-clause-count
returns-in_err-play_line-clause-count g c =
    let found = c.in_err-play_line.field-0.0 in
    let result_is : c.from_residual.result ≡ Err found = search rules in
    counts_stop c.from_residual.result found (g.O.Sink.faults c.args.out.now) (g.O.Sink.faults c.lines.out) (g.O.Sink.faults c.play_line.new.out) result_is
    c.lines.invariant.steady c.in_err-play_line.ensures.count.0 c.in_err-play_line.ensures.count.1

pub returns-clause-count : goal.returns-clause-count
returns-clause-count g c = c.lines.invariant.steady

pub fill_next-filled-requires-clause-host : goal.fill_next-filled-requires-clause-host
fill_next-filled-requires-clause-host g c =
    let means = g.W.Words.means in
    let scenario : Parts = c.requires.begins.0 in
    let same = c.requires.begins.1 in
    let begins = c.requires.begins.2 in
    let i : ℕ = c.lines.invariant.place in
    let line : NumberedLine = c.in-Some.line in
    let there = line_there c.args.lines.now c.next.new.self i line (c.lines.invariant.left ∙ c.in-Some.ensures.first) in
    let taken = g.O.Sink.taken c.args.out.now in
    let between = g.O.Sink.taken c.lines.out in
    let left = g.O.Sink.taken c.play_line.new.out in
    let below : i < length scenario.lines = subst (λ (ls : List NumberedLine). i < length ls) (sym same) there.0 in
    let is : get_or scenario.lines i line ≡ line = ap (λ (ls : List NumberedLine). get_or ls i line) same ∙ there.1 in
    let so = c.lines.invariant.played scenario same begins in
    let played = c.in_ok-play_line.ensures.played (moment_at means scenario c.args.self.now taken begins i line below is c.lines.self between so)
    refl
    (comes_at means scenario c.args.self.now taken begins i line below is c.lines.self between so) in
    new_host means scenario c.args.self.now taken begins i line below is c.lines.self between so c.play_line.new.self left played

pub fill_next-filled-requires-clause-least : goal.fill_next-filled-requires-clause-least
fill_next-filled-requires-clause-least g c =
    let means = g.W.Words.means in
    let scenario : Parts = c.requires.begins.0 in
    let same = c.requires.begins.1 in
    let begins = c.requires.begins.2 in
    let i : ℕ = c.lines.invariant.place in
    let line : NumberedLine = c.in-Some.line in
    let there = line_there c.args.lines.now c.next.new.self i line (c.lines.invariant.left ∙ c.in-Some.ensures.first) in
    let taken = g.O.Sink.taken c.args.out.now in
    let between = g.O.Sink.taken c.lines.out in
    let left = g.O.Sink.taken c.play_line.new.out in
    let below : i < length scenario.lines = subst (λ (ls : List NumberedLine). i < length ls) (sym same) there.0 in
    let is : get_or scenario.lines i line ≡ line = ap (λ (ls : List NumberedLine). get_or ls i line) same ∙ there.1 in
    let so = c.lines.invariant.played scenario same begins in
    let played = c.in_ok-play_line.ensures.played (moment_at means scenario c.args.self.now taken begins i line below is c.lines.self between so)
    refl
    (comes_at means scenario c.args.self.now taken begins i line below is c.lines.self between so) in
    (names means scenario c.args.self.now taken begins i line below is c.lines.self between so c.play_line.new.self left played c.in-CloneBuffer.buffer c.in-CloneBuffer.is).least

pub fill_next-filled-requires-clause-most : goal.fill_next-filled-requires-clause-most
fill_next-filled-requires-clause-most g c =
    let means = g.W.Words.means in
    let scenario : Parts = c.requires.begins.0 in
    let same = c.requires.begins.1 in
    let begins = c.requires.begins.2 in
    let i : ℕ = c.lines.invariant.place in
    let line : NumberedLine = c.in-Some.line in
    let there = line_there c.args.lines.now c.next.new.self i line (c.lines.invariant.left ∙ c.in-Some.ensures.first) in
    let taken = g.O.Sink.taken c.args.out.now in
    let between = g.O.Sink.taken c.lines.out in
    let left = g.O.Sink.taken c.play_line.new.out in
    let below : i < length scenario.lines = subst (λ (ls : List NumberedLine). i < length ls) (sym same) there.0 in
    let is : get_or scenario.lines i line ≡ line = ap (λ (ls : List NumberedLine). get_or ls i line) same ∙ there.1 in
    let so = c.lines.invariant.played scenario same begins in
    let played = c.in_ok-play_line.ensures.played (moment_at means scenario c.args.self.now taken begins i line below is c.lines.self between so)
    refl
    (comes_at means scenario c.args.self.now taken begins i line below is c.lines.self between so) in
    few means scenario c.args.self.now taken begins i line below is c.lines.self between so c.play_line.new.self left played c.in-CloneBuffer.buffer c.in-CloneBuffer.is

pub fill_next-filled-requires-clause-inside : goal.fill_next-filled-requires-clause-inside
fill_next-filled-requires-clause-inside g c =
    let first = there_first c.lines.clones _ c.lines.filled _
    (offered (λ (number : ℕ). buffer_at (first_of (g.W.Words.means.setup c.args.self.now.table) c.args.self.now.helper.service) (number - 1))
    c.args.lines.now c.next.new.self c.lines.invariant.place c.in-Some.line c.in-CloneBuffer.buffer c.lines.clones c.lines.filled
    (c.lines.invariant.left ∙ c.in-Some.ensures.first) c.in-CloneBuffer.is c.lines.invariant.coming) in
    first.0

pub fill_next-filled-requires-clause-fits : goal.fill_next-filled-requires-clause-fits
fill_next-filled-requires-clause-fits g c =
    let means = g.W.Words.means in
    let scenario : Parts = c.requires.begins.0 in
    let same = c.requires.begins.1 in
    let begins = c.requires.begins.2 in
    let i : ℕ = c.lines.invariant.place in
    let line : NumberedLine = c.in-Some.line in
    let there = line_there c.args.lines.now c.next.new.self i line (c.lines.invariant.left ∙ c.in-Some.ensures.first) in
    let taken = g.O.Sink.taken c.args.out.now in
    let between = g.O.Sink.taken c.lines.out in
    let left = g.O.Sink.taken c.play_line.new.out in
    let below : i < length scenario.lines = subst (λ (ls : List NumberedLine). i < length ls) (sym same) there.0 in
    let is : get_or scenario.lines i line ≡ line = ap (λ (ls : List NumberedLine). get_or ls i line) same ∙ there.1 in
    let so = c.lines.invariant.played scenario same begins in
    let played = c.in_ok-play_line.ensures.played (moment_at means scenario c.args.self.now taken begins i line below is c.lines.self between so)
    refl
    (comes_at means scenario c.args.self.now taken begins i line below is c.lines.self between so) in
    let first = there_first c.lines.clones _ c.lines.filled _
    (offered (λ (number : ℕ). buffer_at (first_of (g.W.Words.means.setup c.args.self.now.table) c.args.self.now.helper.service) (number - 1))
    c.args.lines.now c.next.new.self c.lines.invariant.place c.in-Some.line c.in-CloneBuffer.buffer c.lines.clones c.lines.filled
    (c.lines.invariant.left ∙ c.in-Some.ensures.first) c.in-CloneBuffer.is c.lines.invariant.coming) in
    λ any. fits means scenario c.args.self.now taken begins i line below is c.lines.self between so c.play_line.new.self left played c.in-CloneBuffer.buffer c.in-CloneBuffer.is (get_or c.lines.clones c.lines.filled any) (first.1 any)

-- all are filled where no line is left
pub returns-clause-cloned : goal.returns-clause-cloned
returns-clause-cloned g c scenario same begins =
    let means = g.W.Words.means in
    let none = rw c.in_default.is at c.next.ensures.none in
    let i : ℕ = c.lines.invariant.place in
    let ends : drop i c.args.lines.now ≡ [] = c.lines.invariant.left ∙ none.0 in
    let most : length scenario.lines ≤ i = subst (λ (ls : List NumberedLine). length ls ≤ i) (sym same) (none_there c.args.lines.now i ends) in
    let left : drop c.lines.filled c.lines.clones ≡ [] = c.lines.invariant.coming
    ∙ ap (λ (ls : List NumberedLine). map (λ (number : ℕ). buffer_at (first_of (means.setup c.args.self.now.table) c.args.self.now.helper.service) (number - 1)) (clones_in ls)) ends in
    let all : length c.lines.clones ≤ c.lines.filled = omega (arith, length-drop c.lines.filled c.lines.clones, ap (λ (bs : List Buffer). length bs) left) in
    subst (λ (ls : List NumberedLine). HaveCloned means scenario [] ls c.args.self.now c.lines.self c.lines.clones) (take_all i scenario.lines most)
    (subst (λ (bs : List Buffer). HaveCloned means scenario [] (take i scenario.lines) c.args.self.now c.lines.self bs) (take_all c.lines.filled c.lines.clones all)
    (c.lines.invariant.made scenario same begins))

pub play_line-requires-clause-room : goal.play_line-requires-clause-room
play_line-requires-clause-room g c =
    let begins = c.requires.begins in
    subst (λ (s : Setup). HasRoom s.sizes c.lines.payloads) (sym (c.lines.invariant.played begins.0 begins.1 begins.2).done.setup_is) c.lines.invariant.room
