-- Counts of chunks, computed.
use Rattle.std.proofs.Common.{[], refl, arith}
use Rattle.std.proofs.lemmas.List.Elements.{All-from_recursion}
use Rattle.wire_varint.specs.Varint.{varint, groups, tag, redundant}
use Rattle.trace_model.specs.Encoding.{number_field, bytes_head, bytes_field}
use Rattle.trace_model.specs.Cut.{IsWellFormedPage}
use Rattle.trace_model.specs.WorkedWriters.{empty_pages}
use Rattle.trace_model.proofs.WorkedLemmas.{worked_rows}
use Rattle.model_laws.specs.ChunkCounts.{ChunkCountsAreReached}

pub chunk_counts_are_reached : ChunkCountsAreReached
unfolding groups varint tag redundant number_field bytes_head bytes_field
chunk_counts_are_reached = record {
  runs_on = record { cut = worked_rows.long.cut; possible = refl; between = refl; reached = refl };
  drops = record { cut = worked_rows.drops.cut; possible = refl; between = refl; reached = refl };
  unfinished = record {
    full = All-from_recursion (IsWellFormedPage 284) empty_pages (
      record { some = omega arith; most = omega arith; whole = refl; dropped = λ h. absurd (cc) },
      tt,
    );
    flags = (refl, tt);
    last = λ h. absurd (cc);
    chains = (record { marked = refl; bytes = ([], refl); ends = refl; goes_on = refl; lengths = refl }, tt);
    patches = record { sent = (refl, tt); lasts = tt; awaits = (refl, tt); placed = refl; behind = (tt, tt) };
    begins = refl;
  };
  unaccounted = refl;
}
