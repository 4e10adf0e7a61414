-- How long a workload is.
use Rattle.std.proofs.Common.{ℕ, zero, suc, ◌+◌, ◌*◌, ◌/◌, ◌%◌, ◌<◌, ◌≤◌, length, length-append, arith}
use Rattle.std.specs.Prelude.{codes}
use Rattle.std.specs.Fmt.{decimal}
use Rattle.std.proofs.lemmas.Fmt.{length-decimal-le}
use Rattle.trace_base.specs.declared.limits.TheConstants.{MAX_GENERATED_PACKETS, MAX_GENERATED_WRITERS, MAX_INPUT}
use Rattle.workload_gen.specs.Workload.{packet_line, packet_lines, repeated, set_up_lines, workload, drawn_of, state_after}
use Rattle.workload_laws.proofs.LineLemmas.{asked}

line_short : (packet writer turn drawn : ℕ) → packet < 6400000 → writer ≤ 64 → turn ≤ 100000 → length (packet_line packet writer turn drawn) ≤ 40
unfolding packet_line
line_short packet writer turn drawn first second third =
    let of_writer : length (decimal writer) ≤ 2 = length-decimal-le 2 writer (omega arith) (omega arith) (omega arith) in
    let of_time : length (decimal (packet * 100 + drawn % 100)) ≤ 9 =
    length-decimal-le 9 (packet * 100 + drawn % 100) (omega arith) (omega arith) (omega arith) in
    let of_times : length (decimal (drawn % 24 + 1)) ≤ 2 = length-decimal-le 2 (drawn % 24 + 1) (omega arith) (omega arith) (omega arith) in
    let of_turn : length (decimal turn) ≤ 6 = length-decimal-le 6 turn (omega arith) (omega arith) (omega arith) in
    simp length-append (omega arith)

lines_short : (number writers packets count : ℕ) → writers ≤ MAX_GENERATED_WRITERS → packets ≤ MAX_GENERATED_PACKETS → count ≤ packets * writers
    → length (packet_lines number writers count) ≤ 40 * count
unfolding packet_lines
lines_short number writers packets zero few many within = omega arith
lines_short number writers packets (suc packet) few many within =
    let is = asked writers packets packet few many (omega arith) in
    let place : packet % writers < writers = omega (arith, is.some) in
    let line = line_short packet (packet % writers + 1) (packet / writers + 1) (drawn_of (state_after number (suc packet))) is.packet_few
    (omega (arith, is.few)) (omega (arith, is.turn_few)) in
    let before = lines_short number writers packets packet few many (omega arith) in
    simp length-append (omega arith)

repeated_len : (n : ℕ) → length (repeated n (codes "writer 1 1 stall\n")) ≤ 17 * n
unfolding repeated
repeated_len zero = omega arith
repeated_len (suc n) = let before = repeated_len n in simp length-append (omega arith)

set_up_short : (writers : ℕ) → length (set_up_lines writers) ≤ 38 + 17 * writers
unfolding set_up_lines
set_up_short writers = let all = repeated_len writers in simp length-append (omega arith)

pub workload_is_short : (number writers packets : ℕ) → writers ≤ MAX_GENERATED_WRITERS → packets ≤ MAX_GENERATED_PACKETS
    → packets * writers ≤ 1600000 → length (workload number writers packets) ≤ MAX_INPUT
workload_is_short number writers packets few many short =
    let front = set_up_short writers in
    let lines = lines_short number writers packets (packets * writers) few many (omega arith) in
    simp length-append (omega arith)
