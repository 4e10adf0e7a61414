use Rattle.std.proofs.Common.{ℕ, List, ◌++◌, length, drop, refl, sym, ap, ◌∙◌, arith}
use Rattle.std.proofs.lemmas.List.{length-append, length-drop}
use Rattle.scenario_text.specs.declared.lines_reader.LinesReader.{LinesReader}
use Rattle.scenario_text.specs.Behind.{line_bound, next_line, says_after, waiting}
use Rattle.scenario_text.proofs.BehindLemmas.{lines_are_read, one_line_waits, piece_is_refused, piece_waits}
use Rattle.scenario_text.proofs.scenario_reader.ScenarioReader.take.Goals as goal

pub returns-then-is_none-clause-goes_on : goal.returns-then-is_none-clause-goes_on
returns-then-is_none-clause-goes_on c = λ more. piece_waits c.args.self.now _ c.args.piece.now more refl c.in-Ok.ensures.items

pub returns-then-is_none-clause-waits : goal.returns-then-is_none-clause-waits
returns-then-is_none-clause-waits c =
    one_line_waits c.args.self.now _ c.args.piece.now c.memchr.result c.memchr.ensures c.if-is_none.ensures c.in-Ok.ensures.items

pub returns-then-is_none-clause-bound : goal.returns-then-is_none-clause-bound
unfolding line_bound
returns-then-is_none-clause-bound c = omega (arith, ap (λ (xs : List ℕ). length xs) c.in-Ok.ensures.items, length-append c.args.self.now.pending.items c.args.piece.now)

pub read_lines-requires : goal.read_lines-requires
unfolding line_bound
read_lines-requires c = record {
  room = omega (
    arith,
    ap (λ (xs : List ℕ). length xs) c.deref.ensures.value,
    ap (λ (xs : List ℕ). length xs) c.in-Ok.ensures.items,
    length-append c.args.self.now.pending.items c.args.piece.now,
    c.requires.bound,
  );
}

pub returns-in-Err-read_lines-clause-refuses : goal.returns-in-Err-read_lines-clause-refuses
returns-in-Err-read_lines-clause-refuses c = λ more.
    piece_is_refused c.args.self.now c.deref.result.now c.args.piece.now more _ (c.deref.ensures.value ∙ c.in-Ok.ensures.items) c.in-Err-read_lines.ensures.refuses

pub returns-clause-goes_on : goal.returns-clause-goes_on
returns-clause-goes_on c = λ more.
    let bytes : List ℕ = c.deref.result.now in
    let count = c.in-Ok-read_lines.count in
    lines_are_read c.args.self.now c.pass.new.self bytes c.args.piece.now more count (c.deref.ensures.value ∙ c.in-Ok.ensures.items)
    (λ others. c.in-Ok-read_lines.ensures.goes_on others ∙ ap (λ (lines : LinesReader). says_after lines (drop count bytes ++ others)) (sym c.pass.ensures.lines))
    (c.pass.ensures.pending ∙ ap (drop count) (sym c.deref.ensures.value))

pub returns-clause-waits : goal.returns-clause-waits
unfolding waiting
returns-clause-waits c = λ one. rw (c.pass.ensures.pending ∙ ap (drop c.in-Ok-read_lines.count) (sym c.deref.ensures.value)) c.in-Ok-read_lines.ensures.whole

pub returns-clause-bound : goal.returns-clause-bound
unfolding line_bound
returns-clause-bound c =
    let count = c.in-Ok-read_lines.count in
    let all : List ℕ = c.extend_from_slice.new.self.items in
    omega (
      arith,
      c.in-Ok-read_lines.ensures.numbers,
      c.in-Ok-read_lines.ensures.inside,
      ap (λ (lines : LinesReader). next_line lines) c.pass.ensures.lines,
      ap (λ (xs : List ℕ). length xs) c.pass.ensures.pending,
      length-drop count all,
      ap (λ (xs : List ℕ). length xs) c.deref.ensures.value,
      ap (λ (xs : List ℕ). length xs) c.in-Ok.ensures.items,
      length-append c.args.self.now.pending.items c.args.piece.now,
    )
