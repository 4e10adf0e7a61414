-- The worked examples, computed.
use Rattle.std.proofs.Common.{[], ◌∷◌, refl, arith}
use Rattle.std.proofs.lemmas.List.Elements.{All-from_recursion}
use Rattle.wire_varint.specs.Varint.{varint, groups, tag, redundant}
use Rattle.trace_model.specs.Encoding.{number_field, bytes_head, bytes_field}
use Rattle.trace_model.specs.Record.{content_of, record_of}
use Rattle.trace_model.specs.Cut.{IsWellFormedPage}
use Rattle.trace_model.specs.Walks.{is_refused, is_number, is_accepted}
use Rattle.trace_model.specs.WorkedWriters.{letters, small_pages, empty_pages, long_pages, patched_pages, moved_pages, given_up_pages}
use Rattle.trace_model.specs.WorkedRows.{shared_pages, WorkedRows, SmallPacket, EmptyPacket, LongPacket, PatchedPacket, MovedLength, GivenUpPacket, OverwritesUnread, DiscardsRest, FillsBuffer, DropsAtBegin, LosesScraped, RewritesScraped, ClosesUnpatched, AwaitsPatch, RunsIntoDiscarded, halved_pages}

small : SmallPacket
unfolding groups varint tag redundant number_field bytes_head bytes_field content_of record_of is_accepted is_refused is_number
small = record {
  cut = record {
    full = All-from_recursion (IsWellFormedPage 284) small_pages (
      record { some = omega arith; most = omega arith; whole = refl; dropped = λ h. absurd (cc) },
      tt,
    );
    flags = (refl, tt);
    last = λ h. absurd (cc);
    chains = (record { marked = refl; bytes = refl; ends = refl; goes_on = refl; lengths = refl }, tt);
    patches = record { sent = (refl, tt); lasts = tt; awaits = (refl, tt); placed = refl; behind = (tt, tt) };
    begins = refl;
  };
  played = record { trace_is = refl; counts_are = refl };
  reported = refl;
}

empty : EmptyPacket
unfolding groups varint tag redundant number_field bytes_head bytes_field content_of record_of is_accepted is_refused is_number
empty = record {
  cut = record {
    full = All-from_recursion (IsWellFormedPage 284) empty_pages (
      record { some = omega arith; most = omega arith; whole = refl; dropped = λ h. absurd (cc) },
      tt,
    );
    flags = (refl, tt);
    last = λ h. absurd (cc);
    chains = (record { marked = refl; bytes = refl; ends = refl; goes_on = refl; lengths = refl }, tt);
    patches = record { sent = (refl, tt); lasts = tt; awaits = (refl, tt); placed = refl; behind = (tt, tt) };
    begins = refl;
  };
  played = record { trace_is = refl; counts_are = refl };
  reported = refl;
}

long : LongPacket
unfolding groups varint tag redundant number_field bytes_head bytes_field content_of record_of is_accepted is_refused is_number
long = record {
  cut = record {
    full = All-from_recursion (IsWellFormedPage 284) long_pages (
      record { some = omega arith; most = omega arith; whole = refl; dropped = λ h. absurd (cc) },
      (
        record { some = omega arith; most = omega arith; whole = refl; dropped = λ h. absurd (cc) },
        tt,
      ),
    );
    flags = (refl, (refl, tt));
    last = λ h. absurd (cc);
    chains = (record { marked = refl; bytes = refl; ends = refl; goes_on = refl; lengths = refl }, tt);
    patches = record { sent = (refl, (refl, tt)); lasts = tt; awaits = (refl, (refl, tt)); placed = refl; behind = (tt, (tt, tt)) };
    begins = refl;
  };
  played = record { trace_is = refl; counts_are = refl };
  reported = refl;
}

patched : PatchedPacket
unfolding groups varint tag redundant number_field bytes_head bytes_field content_of record_of is_accepted is_refused is_number
patched = record {
  cut = record {
    full = All-from_recursion (IsWellFormedPage 284) patched_pages (
      record { some = omega arith; most = omega arith; whole = refl; dropped = λ h. absurd (cc) },
      (
        record { some = omega arith; most = omega arith; whole = refl; dropped = λ h. absurd (cc) },
        tt,
      ),
    );
    flags = (refl, (refl, tt));
    last = λ h. absurd (cc);
    chains = (record { marked = refl; bytes = refl; ends = refl; goes_on = refl; lengths = refl }, tt);
    patches = record { sent = (refl, (refl, tt)); lasts = (refl, tt); awaits = (refl, (refl, tt)); placed = refl; behind = (tt, ((omega arith, tt), tt)) };
    begins = refl;
  };
  played = record { trace_is = refl; counts_are = refl };
  reported = refl;
}

moved : MovedLength
unfolding groups varint tag redundant number_field bytes_head bytes_field content_of record_of is_accepted is_refused is_number
moved = record {
  cut = record {
    full = All-from_recursion (IsWellFormedPage 284) moved_pages (
      record { some = omega arith; most = omega arith; whole = refl; dropped = λ h. absurd (cc) },
      (
        record { some = omega arith; most = omega arith; whole = refl; dropped = λ h. absurd (cc) },
        tt,
      ),
    );
    flags = (refl, (refl, tt));
    last = λ h. absurd (cc);
    chains = (record { marked = refl; bytes = refl; ends = refl; goes_on = refl; lengths = refl }, tt);
    patches = record { sent = (refl, (refl, tt)); lasts = tt; awaits = (refl, (refl, tt)); placed = refl; behind = (tt, (tt, tt)) };
    begins = refl;
  };
  played = record { trace_is = refl; counts_are = refl };
  reported = refl;
}

given_up : GivenUpPacket
unfolding groups varint tag redundant number_field bytes_head bytes_field content_of record_of is_accepted is_refused is_number
given_up = record {
  cut = record {
    full = All-from_recursion (IsWellFormedPage 2036) given_up_pages (
      record { some = omega arith; most = omega arith; whole = refl; dropped = λ h. absurd (cc) },
      (
        record { some = omega arith; most = omega arith; whole = refl; dropped = λ h. (refl, refl) },
        (
          record { some = omega arith; most = omega arith; whole = refl; dropped = λ h. absurd (cc) },
          tt,
        ),
      ),
    );
    flags = (refl, (refl, (refl, tt)));
    last = λ h. absurd (cc);
    chains = (
      record { marked = refl; bytes = refl; ends = refl; goes_on = refl; lengths = refl },
      (
        record {
          marked = refl;
          bytes = record {
            part = 0xA2 ∷ 0x38 ∷ 0x80 ∷ 0x80 ∷ 0x80 ∷ 0x00 ∷ 0x0A ∷ 0x88 ∷ 0x27 ∷ letters 4049;
            unused = [];
            lost = letters 951;
            cut = refl;
            whole = refl;
            proper = omega arith;
            few = omega arith;
            next = λ h. absurd (omega arith);
          };
          ends = refl;
          goes_on = refl;
          lengths = refl;
        },
        (record { marked = refl; bytes = refl; ends = refl; goes_on = refl; lengths = refl }, tt),
      ),
    );
    patches = record { sent = (refl, (refl, (refl, tt))); lasts = (refl, tt); awaits = (refl, (refl, (refl, tt))); placed = refl; behind = (tt, ((omega arith, tt), (tt, tt))) };
    begins = refl;
  };
  played = record { trace_is = refl; counts_are = refl };
  reported = refl;
}

overwrites : OverwritesUnread
unfolding groups varint tag redundant number_field bytes_head bytes_field content_of record_of is_accepted is_refused is_number
overwrites = record { played = record { trace_is = refl; counts_are = refl }; reported = refl }

discards : DiscardsRest
unfolding groups varint tag redundant number_field bytes_head bytes_field content_of record_of is_accepted is_refused is_number
discards = record { played = record { trace_is = refl; counts_are = refl }; reported = refl }

fills : FillsBuffer
unfolding groups varint tag redundant number_field bytes_head bytes_field content_of record_of is_accepted is_refused is_number
fills = record { trace_is = refl; counts_are = refl }

drops : DropsAtBegin
unfolding groups varint tag redundant number_field bytes_head bytes_field content_of record_of is_accepted is_refused is_number
drops = record {
  cut = record {
    full = All-from_recursion (IsWellFormedPage 4080) shared_pages (
      record { some = omega arith; most = omega arith; whole = refl; dropped = λ h. absurd (cc) },
      (
        record { some = omega arith; most = omega arith; whole = refl; dropped = λ h. absurd (cc) },
        tt,
      ),
    );
    flags = (refl, (refl, tt));
    last = λ h. absurd (cc);
    chains = (record { marked = refl; bytes = refl; ends = refl; goes_on = refl; lengths = refl }, (record { marked = refl; bytes = refl; ends = refl; goes_on = refl; lengths = refl }, tt));
    patches = record { sent = (refl, (refl, tt)); lasts = tt; awaits = (refl, (refl, tt)); placed = refl; behind = (tt, (tt, tt)) };
    begins = refl;
  };
  played = record { trace_is = refl; counts_are = refl };
  reported = refl;
}

loses : LosesScraped
unfolding groups varint tag redundant number_field bytes_head bytes_field content_of record_of is_accepted is_refused is_number
loses = record { trace_is = refl; counts_are = refl }

rewrites : RewritesScraped
unfolding groups varint tag redundant number_field bytes_head bytes_field content_of record_of is_accepted is_refused is_number
rewrites = record { trace_is = refl; counts_are = refl }

closes : ClosesUnpatched
unfolding groups varint tag redundant number_field bytes_head bytes_field content_of record_of is_accepted is_refused is_number
closes = record { played = record { trace_is = refl; counts_are = refl }; reported = refl }

awaits : AwaitsPatch
unfolding groups varint tag redundant number_field bytes_head bytes_field content_of record_of is_accepted is_refused is_number
awaits = record {
  played = record { trace_is = refl; counts_are = refl };
  waits = refl;
  due = refl;
  missing = refl;
}

halved : RunsIntoDiscarded
unfolding groups varint tag redundant number_field bytes_head bytes_field content_of record_of is_accepted is_refused is_number
halved = record {
  cut = record {
    full = All-from_recursion (IsWellFormedPage 2036) halved_pages (
      record { some = omega arith; most = omega arith; whole = refl; dropped = λ h. absurd (cc) },
      (record { some = omega arith; most = omega arith; whole = refl; dropped = λ h. absurd (cc) }, tt),
    );
    flags = (refl, (refl, tt));
    last = λ h. absurd (cc);
    chains = (record { marked = refl; bytes = refl; ends = refl; goes_on = refl; lengths = refl }, (record { marked = refl; bytes = refl; ends = refl; goes_on = refl; lengths = refl }, tt));
    patches = record { sent = (refl, (refl, tt)); lasts = tt; awaits = (refl, (refl, tt)); placed = refl; behind = (tt, (tt, tt)) };
    begins = refl;
  };
  played = record { trace_is = refl; counts_are = refl };
  reported = refl;
}

pub worked_rows : WorkedRows
worked_rows = record {
  small = small;
  empty = empty;
  long = long;
  patched = patched;
  moved = moved;
  given_up = given_up;
  overwrites = overwrites;
  discards = discards;
  fills = fills;
  drops = drops;
  loses = loses;
  rewrites = rewrites;
  closes = closes;
  awaits = awaits;
  halved = halved;
}
