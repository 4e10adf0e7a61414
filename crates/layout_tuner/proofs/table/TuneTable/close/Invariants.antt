use Rattle.std.proofs.Common.{◌≡◌, ℕ, ◌<◌, get_or, vec_len}
use Rattle.std.specs.Mem.Slots.{slots_items}
use Rattle.layout_tuner.specs.PageWords.{line}
use Rattle.layout_tuner.proofs.table.TuneTable.close.Given as goal

-- the words of the pages so far stand in the vector
abbrev pub invariant-loop-page : goal.invariant-loop-page
invariant-loop-page l = record {
  many : vec_len l.last ≡ vec_len l.initial.last;
  each : (p : ℕ) → p < l.page → get_or l.last.items p 0 ≡ get_or (slots_items l.closed.words) (line p) 0;
}
