-- A host as it is made is ready for all lines, and the sink has taken the trace of what it noted: nothing.
use Rattle.std.proofs.Common.{◌≡◌, ◌∙◌, ℕ, zero, suc, ◌+◌, ◌<◌, ◌≤◌, nat_lt, Bool, true, false, not, List, [], ◌∷◌, ◌++◌, length, replicate, refl, sym, ap, subst, arith}
use Rattle.std.specs.Prelude.{if◌then◌else◌, fold, slice_index_or}
use Rattle.std.specs.List.{flat_map}
use Rattle.std.proofs.lemmas.Bool.{not-true}
use Rattle.std.proofs.lemmas.Bool.Decides.{nat_tests}
use Rattle.std.proofs.lemmas.Grind.{fold-append}
use Rattle.byte_io.specs.Bytes.{Intake, after_told}
use Rattle.byte_io.proofs.Told.{after_told_nothing}
use Rattle.trace_model.specs.Calls.{Call, Flushed}
use Rattle.trace_model.specs.Delivery.{trace_of}
use Rattle.trace_model.specs.Enough.{most_chunks}
use Rattle.trace_model.specs.History.{records_after}
use Rattle.trace_model.specs.Packets.{Account, nothing_yet, noted, packets_of, emissions_in, emissions_of, is_writing}
use Rattle.scenario_text.specs.declared.scenario.LineKind.{LineKind}
use Rattle.scenario_text.specs.declared.scenario.LineKind.TheVariants as line
use Rattle.scenario_text.specs.declared.scenario.NumberedLine.{NumberedLine}
use Rattle.scenario_text.specs.Scenario.{Parts}
use Rattle.scenario_text.specs.Accepted.{AreAccepted, AsksWell, calls_asked, is_closed_by}
use Rattle.scenario_text.specs.Lengths.{AreShort}
use Rattle.scenario_text.proofs.AcceptedFields.{accepted_both}
use Rattle.scenario_text.proofs.ChunksAskedLemmas.{chunks_asked}
use Rattle.scenario_text.proofs.PossibleLemmas.{accepted_possible}
use Rattle.chunk_plain.specs.declared.tokens.TheConstants.{POSITION_LIMIT}
use Rattle.chunk_plain.specs.Histories.{happened}
use Rattle.chunk_plain.specs.Meaning.{Meaning}
use Rattle.chunk_plain.specs.Views.{Noted, newcomer}
use Rattle.trace_writer.specs.declared.ids.TheConstants.{PACKET_IDS}
use Rattle.service_core.specs.Agreement.{first_of, spec_at}
use Rattle.replay_host.specs.declared.host.Host.{Host}
use Rattle.replay_host.specs.Asking.{IsReadyFor}
use Rattle.replay_model.specs.Flushes.{request_count, requests_in}
use Rattle.replay_host.specs.Lines.{coming_at}
use Rattle.replay_host.specs.Making.{IsMade}
use Rattle.replay_host.specs.Playing.{IsTraceOf}

-- ---- what a writer is asked for by all lines, and the flush of the end

-- the last flush, where there is one
abbrev flush_if : Bool → List Call
flush_if last = if last then Flushed ∷ [] else []

-- a flush emits nothing
flush_emits : (last : Bool) (calls : List Call) → emissions_of (calls ++ flush_if last) ≡ emissions_of calls
flush_emits last calls =
    let same : (b : Bool) → (fold noted (fold noted nothing_yet calls) (flush_if b)).packets ≡ packets_of calls = same_packets in
    ap emissions_in
    (ap (λ (account : Account). account.packets) (fold-append noted nothing_yet calls (flush_if last)) ∙ same last)
  where
    same_packets : (b : Bool) → (fold noted (fold noted nothing_yet calls) (flush_if b)).packets ≡ packets_of calls
    same_packets true = refl
    same_packets false = refl

-- a writer between two packets accepts it
flush_accepted : (last : Bool) (calls : List Call) → (last ≡ true → is_writing (packets_of calls) ≡ false)
    → AreAccepted (fold noted nothing_yet calls) (flush_if last)
flush_accepted true calls ended = (ended refl, tt)
flush_accepted false calls ended = tt

-- all that is to come for the writer at this place it accepts, and has ids enough for
pub all_ready : (size : ℕ) (scenario : Parts) (place : ℕ) → AsksWell scenario.lines (suc place) (spec_at scenario.writers place)
    → AreShort scenario.lines
    → IsReadyFor size newcomer (coming_at scenario scenario.lines place)
all_ready size scenario place asks short =
    let calls : List Call = calls_asked (suc place) scenario.lines in
    let closed : Bool = is_closed_by scenario.lines (spec_at scenario.writers place).producer in
    let accepted = accepted_both nothing_yet calls (flush_if (not closed)) asks.accepted
    (flush_accepted (not closed) calls (λ last. asks.ended (not-true closed last))) in
    let few = chunks_asked size (suc place) scenario.lines asks.accepted in
    let lines_few = short.few in
    let bytes_few = short.short in
    record {
      asked = [];
      loses = refl;
      accepted = accepted;
      possible = accepted_possible nothing_yet (calls ++ flush_if (not closed)) accepted;
      few = subst (λ (emitted : List (List ℕ)). most_chunks size emitted + PACKET_IDS ≤ POSITION_LIMIT) (sym (flush_emits (not closed) calls))
          (omega (arith, few, lines_few, bytes_few));
    }

-- ---- flush requests

kind_few : (kind : LineKind) → request_count kind ≤ 1
kind_few (line.Packet writer fields) = omega arith
kind_few (line.Begin writer) = omega arith
kind_few (line.Add writer fields) = omega arith
kind_few (line.Nest writer field) = omega arith
kind_few (line.Unnest writer) = omega arith
kind_few (line.End writer) = omega arith
kind_few (line.Flush writer) = omega arith
kind_few (line.Collect producer) = omega arith
kind_few (line.Scrape producer) = omega arith
kind_few (line.Close producer) = omega arith
kind_few (line.Read buffer limit) = omega arith
kind_few line.Request = omega arith
kind_few (line.CloneBuffer buffer) = omega arith
kind_few (line.Raw writer chunk) = omega arith

-- there are no more requests than lines
pub requests_few : (lines : List NumberedLine) → requests_in lines ≤ length lines
requests_few [] = omega arith
requests_few (one ∷ lines) = let this = kind_few one.what in let others = requests_few lines in omega (arith, this, others)

none_below : (answered made : ℕ) → made ≡ 0 → nat_lt answered made ≡ false
none_below answered made none = grind (arith, nat_tests)

-- no request waits for an answer where none was made
pub none_due : (answered : ℕ) (made : ℕ) (due : Bool) → made ≡ 0 → due ≡ false → nat_lt answered made ≡ due
none_due answered made due none is = none_below answered made none ∙ sym is

-- each producer counts as open
pub all_open : (count : ℕ) (index : ℕ) → index < count → slice_index_or (replicate count true) index false ≡ true
all_open zero index below = absurd (omega (arith, below))
all_open (suc count) zero below = refl
all_open (suc count) (suc index) below = all_open count index (omega (arith, below))

-- ---- nothing is written yet

-- Of a host as it is made the sink has taken the trace: nothing.
pub made_trace : {T W S : Type 0} (means : Meaning T W S) (scenario : Parts) (host : Host T W S) → IsMade means scenario host
    → (start : Intake)
    → IsTraceOf start (first_of (means.setup host.table) host.helper.service) (means.service_view host.table host.helper.service.seat) start
made_trace means scenario host made start =
    let view = means.service_view host.table host.helper.service.seat in
    let buffers = first_of (means.setup host.table) host.helper.service in
    sym (ap (λ (notes : List Noted). after_told start (trace_of (records_after buffers (flat_map (happened view) notes)))) made.unnoted
    ∙ after_told_nothing start)
