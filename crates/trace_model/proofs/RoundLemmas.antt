-- The worked examples of several writers, computed.
use Rattle.std.proofs.Common.{[], ◌∷◌, refl, arith}
use Rattle.std.proofs.lemmas.List.Elements.{All-from_recursion}
use Rattle.wire_varint.specs.Varint.{varint, groups, tag, redundant}
use Rattle.trace_model.specs.Encoding.{number_field}
use Rattle.trace_model.specs.Record.{content_of, record_of}
use Rattle.trace_model.specs.Packets.{packets_of}
use Rattle.trace_model.specs.Cut.{IsWellFormedPage, CutsInto}
use Rattle.trace_model.specs.Walks.{is_refused, is_number, is_accepted}
use Rattle.trace_model.specs.WorkedWriters.{number_calls, number_page}
use Rattle.trace_model.specs.WorkedRounds.{last_calls, lost_calls, HandsOver, AnswersFlush, Races, Crowds, RefusesPackets, WorkedRounds}

flushed_cut : CutsInto 4080 (packets_of (number_calls 1)) (number_page 1 4074 ∷ [])
unfolding groups varint tag redundant number_field
flushed_cut = record {
  full = All-from_recursion (IsWellFormedPage 4080) (number_page 1 4074 ∷ []) (
    record { some = omega arith; most = omega arith; whole = refl; dropped = λ h. absurd (cc) },
    tt,
  );
  flags = (refl, tt);
  last = λ h. absurd (cc);
  chains = (record { marked = refl; bytes = refl; ends = refl; goes_on = refl; lengths = refl }, tt);
  patches = record { sent = (refl, tt); lasts = tt; awaits = (refl, tt); placed = refl; behind = (tt, tt) };
  begins = refl;
}

first_cut : CutsInto 4080 (packets_of (last_calls 1)) (number_page 1 4074 ∷ [])
unfolding groups varint tag redundant number_field
first_cut = record {
  full = All-from_recursion (IsWellFormedPage 4080) (number_page 1 4074 ∷ []) (
    record { some = omega arith; most = omega arith; whole = refl; dropped = λ h. absurd (cc) },
    tt,
  );
  flags = (refl, tt);
  last = λ h. absurd (cc);
  chains = (record { marked = refl; bytes = refl; ends = refl; goes_on = refl; lengths = refl }, tt);
  patches = record { sent = (refl, tt); lasts = tt; awaits = (refl, tt); placed = refl; behind = (tt, tt) };
  begins = refl;
}

second_cut : CutsInto 4080 (packets_of (last_calls 2)) (number_page 2 4074 ∷ [])
unfolding groups varint tag redundant number_field
second_cut = record {
  full = All-from_recursion (IsWellFormedPage 4080) (number_page 2 4074 ∷ []) (
    record { some = omega arith; most = omega arith; whole = refl; dropped = λ h. absurd (cc) },
    tt,
  );
  flags = (refl, tt);
  last = λ h. absurd (cc);
  chains = (record { marked = refl; bytes = refl; ends = refl; goes_on = refl; lengths = refl }, tt);
  patches = record { sent = (refl, tt); lasts = tt; awaits = (refl, tt); placed = refl; behind = (tt, tt) };
  begins = refl;
}

lost_cut : CutsInto 4080 (packets_of (lost_calls 2)) []
unfolding groups varint tag redundant number_field
lost_cut = record {
  full = All-from_recursion (IsWellFormedPage 4080) [] tt;
  flags = tt;
  last = λ h. absurd (cc);
  chains = tt;
  patches = record { sent = tt; lasts = tt; awaits = tt; placed = refl; behind = tt };
  begins = refl;
}

hands_over : HandsOver
unfolding groups varint tag redundant number_field content_of record_of is_accepted is_refused is_number
hands_over = record {
  first_cut = flushed_cut;
  second_cut = second_cut;
  played = record { trace_is = refl; counts_are = refl };
  first_reported = refl;
  second_reported = refl;
}

answers : AnswersFlush
unfolding groups varint tag redundant number_field content_of record_of is_accepted is_refused is_number
answers = record { played = record { trace_is = refl; counts_are = refl }; first_reported = refl; second_reported = refl }

races : Races
unfolding groups varint tag redundant number_field content_of record_of is_accepted is_refused is_number
races = record {
  kept_cut = first_cut;
  lost_cut = lost_cut;
  first_wins = record { trace_is = refl; counts_are = refl };
  first_kept = refl;
  second_lost = refl;
  second_wins = record { trace_is = refl; counts_are = refl };
  second_kept = refl;
  first_lost = refl;
}

crowds : Crowds
unfolding groups varint tag redundant number_field content_of record_of is_accepted is_refused is_number
crowds = record { begins = refl; bodies = refl; played = record { trace_is = refl; counts_are = refl }; reported = refl }

refuses : RefusesPackets
unfolding groups varint tag redundant number_field content_of record_of is_accepted is_refused is_number
refuses = record { played = record { trace_is = refl; counts_are = refl }; delivered = refl; cut = refl }

pub worked_rounds : WorkedRounds
worked_rounds = record { hands_over = hands_over; answers = answers; races = races; crowds = crowds; refuses = refuses }
