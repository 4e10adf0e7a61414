-- What is counted of the packets of a trace, and how it is printed.
use Rattle.std.specs.Prelude.{◌≡◌, ℕ, ◌==◌, List, [], ◌∷◌, ◌++◌, length, filter, count_by, sum_by, Option, Some, None, codes, decimal}
use Rattle.std.specs.List.{flat_map}
use Rattle.std.specs.BTreeMap.{is_at}
use Rattle.std.specs.List.Sorted.{IsStrictlySortedBy}
use Rattle.std.specs.Map.{lookup, keys_of}
use Rattle.std.specs.Ordering.{nat_cmp}
use Rattle.trace_file.specs.Traces.{TracePacket, ReadsAsTrace}
use Rattle.trace_summary.specs.declared.summary.Totals.{Totals}
use Rattle.trace_summary.specs.declared.summary.Summary.{Summary}

-- the packets of one sequence
abbrev pub of_sequence : ℕ → List TracePacket → List TracePacket
of_sequence sequence packets = filter (λ packet. packet.sequence == sequence) packets

-- how many bytes their contents have
abbrev pub content_bytes : List TracePacket → ℕ
content_bytes packets = sum_by (λ packet. length packet.content) packets

-- how many packets there are, how many bear a mark, and how many bytes they have
unfoldable pub totals_of : List TracePacket → Totals
totals_of packets = record {
  packets = length packets;
  marked = count_by (λ packet. packet.marked) packets;
  bytes = content_bytes packets;
}

-- the totals, where there is a packet
unfoldable pub totals_met : List TracePacket → Option Totals
totals_met [] = None
totals_met (packet ∷ packets) = Some (totals_of (packet ∷ packets))

-- the totals of a sequence, where it has a packet
unfoldable pub totals_at : ℕ → List TracePacket → Option Totals
totals_at sequence packets = totals_met (of_sequence sequence packets)

-- a label and a number
unfoldable pub labelled : List ℕ → ℕ → List ℕ
labelled label number = label ++ decimal number

-- `sequence Q packets N marked N bytes N`, with its line feed
unfoldable pub sequence_line : ℕ → Totals → List ℕ
sequence_line sequence totals =
    labelled (codes "sequence ") sequence ++ labelled (codes " packets ") totals.packets ++ labelled (codes " marked ") totals.marked
    ++ labelled (codes " bytes ") totals.bytes ++ codes "\n"

-- `packets N bytes N`, with its line feed
unfoldable pub last_line : ℕ → ℕ → List ℕ
last_line packets bytes = labelled (codes "packets ") packets ++ labelled (codes " bytes ") bytes ++ codes "\n"

-- the lines of some sequences
abbrev pub lines_text : List (ℕ × Totals) → List ℕ
lines_text lines = flat_map (λ line. sequence_line line.0 line.1) lines

-- the text of a summary: the lines of its sequences, and the last line
unfoldable pub summary_text : Summary → List ℕ
summary_text summary = lines_text summary.sequences.entries ++ last_line summary.packets summary.bytes

-- the text says of each sequence that has a packet what its packets come to, in rising order, and then what all do
pub record SaysAll (packets : List TracePacket) (text : List ℕ) : Type 0 where
  pub lines : List (ℕ × Totals)
  pub rising : IsStrictlySortedBy nat_cmp (keys_of lines)
  pub each : (sequence : ℕ) → lookup (is_at (nat_cmp sequence)) lines ≡ totals_at sequence packets
  pub text_is : text ≡ lines_text lines ++ last_line (length packets) (content_bytes packets)

-- the text is what the trace comes to
pub record IsSummaryOf (trace text : List ℕ) : Type 0 where
  pub packets : List TracePacket
  pub reads : ReadsAsTrace trace packets
  pub says : SaysAll packets text
