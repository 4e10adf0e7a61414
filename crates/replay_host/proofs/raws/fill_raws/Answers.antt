-- Each line that commits a chunk takes the next answer, as long as there are any.
use Rattle.std.proofs.Common.{◌≡◌, ◌∙◌, ℕ, ◌+◌, ◌<◌, List, [], ◌∷◌, ◌++◌, length, drop, get_or, sym, ap, arith, append-nil, add-one, eqb-true}
use Rattle.std.proofs.Math.Seq.{drop-cons}
use Rattle.std.proofs.lemmas.List.{drop_all}
use Rattle.loss_report.specs.declared.raws.RawAnswer.{RawAnswer}
use Rattle.loss_report.specs.declared.raws.RawAnswer.TheVariants.{Kept}
use Rattle.loss_report.specs.declared.raws.RawLine.{RawLine}
use Rattle.scenario_text.specs.declared.scenario.NumberedLine.{NumberedLine}
use Rattle.scenario_text.specs.Raws.{raw_numbers}
use Rattle.replay_model.specs.Raws.{raw_lines}
use Rattle.replay_host.specs.Raws.{raws_in}
use Rattle.replay_host.proofs.RawLinesLemmas.{filled_more, no_answers, not_raw, numbers_raw, numbers_other}
use Rattle.replay_host.proofs.raws.fill_raws.Goals as goal

-- where there are no answers none is put
pub returns-then-is_empty : goal.returns-then-is_empty
returns-then-is_empty c =
    let answers : List RawAnswer = c.args.answers.now in
    let out : answers ≡ [] = drop_all 0 answers (omega (arith, eqb-true (length answers) 0 (sym c.is_empty.ensures ∙ c.if-is_empty.true))) in
    c.requires.none ∙ sym (ap (λ (given : List RawAnswer). raw_lines (raw_numbers c.args.lines.now) given) out
    ∙ no_answers (raw_numbers c.args.lines.now))

pub returns-then-told-answers : goal.returns-then-told-answers
returns-then-told-answers c =
    let answers : List RawAnswer = c.args.answers.now in
    let told = c.if-told-answers.true in
    let out : drop c.lines.told answers ≡ [] = drop_all c.lines.told answers (omega (arith, told)) in
    sym (ap (λ (left : List RawAnswer). c.lines.raws.items ++ raw_lines (raw_numbers c.lines.walk) left) out
    ∙ ap (λ (rs : List RawLine). c.lines.raws.items ++ rs) (no_answers (raw_numbers c.lines.walk)) ∙ append-nil c.lines.raws.items)
    ∙ c.lines.invariant.filled

pub lines-preserved-in-Ok : goal.lines-preserved-in-Ok
lines-preserved-in-Ok c =
    let answers : List RawAnswer = c.args.answers.now in
    let told : ℕ = c.lines.told in
    let first = c.in-Some.ensures.first in
    let numbers = numbers_raw c.in-Some.line c.next.new.self c.in-Raw.writer c.in-Raw.chunk c.in-Raw.is in
    let least = c.lines.invariant.told in
    let other = c.if-told-answers.false in
    let inside : told < length answers = omega (arith, least, other) in
    let next = ap (λ (ls : List NumberedLine). raw_numbers ls) first ∙ numbers in
    let left : drop told answers ≡ get_or answers told Kept ∷ drop (told + 1) answers =
    drop-cons answers told Kept inside ∙ ap (λ (n : ℕ). get_or answers told Kept ∷ drop n answers) (sym (add-one told)) in
    let long = ap (λ (ns : List ℕ). length ns) next in
    let room = c.lines.invariant.room in
    let pushed = c.in-Ok.ensures.len in
    let capacity = c.in-Ok.ensures.capacity in
    record {
      filled = filled_more c.lines.raws.items c.push.new.self.items (raw_numbers c.lines.walk) (raw_numbers c.next.new.self)
          c.in-Some.line.line (get_or answers told Kept) (drop (told + 1) answers) (raw_lines (raw_numbers c.args.lines.now) answers)
          (ap (λ (others : List RawAnswer). c.lines.raws.items ++ raw_lines (raw_numbers c.lines.walk) others) (sym left)
          ∙ c.lines.invariant.filled)
          next
          (c.in-Ok.ensures.items
          ∙ ap (λ (n : ℕ). c.lines.raws.items ++ record { line = n; answer = get_or answers told Kept } ∷ []) c.from.ensures);
      told = omega (arith, inside);
      room = omega (arith, long, room, pushed, capacity);
    }

pub unreachable-requires : goal.unreachable-requires
unreachable-requires c =
    let first = c.in-Some.ensures.first in
    let one = ap (λ (ls : List NumberedLine). raws_in ls) first in
    let next = ap (λ (ns : List _). length ns) (numbers_raw c.in-Some.line c.next.new.self c.in-Raw.writer c.in-Raw.chunk c.in-Raw.is) in
    let room = c.lines.invariant.room in
    let full = c.in-Err.ensures.full in
    omega (arith, one, next, room, full)

pub lines-preserved : goal.lines-preserved
lines-preserved c =
    let first = c.in-Some.ensures.first in
    let none = not_raw c.in-Some.line.what (λ writer chunk same. c.in_default-what.not-Raw writer chunk same) in
    let same = ap (λ (ls : List NumberedLine). raw_numbers ls) first ∙ numbers_other c.in-Some.line c.next.new.self none in
    let room = c.lines.invariant.room in
    let fewer = ap (λ (ns : List ℕ). length ns) same in
    record {
      filled = ap (λ (ns : List ℕ). c.lines.raws.items ++ raw_lines ns (drop c.lines.told c.args.answers.now)) (sym same)
          ∙ c.lines.invariant.filled;
      told = c.lines.invariant.told;
      room = omega (arith, room, fewer);
    }
