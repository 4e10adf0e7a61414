-- What was counted of the packets that were read so far.
use Rattle.std.proofs.Common.{◌≡◌, ◌≢◌, ℕ, ◌+◌, ◌≤◌, Bool, true, false, cond, List, [], ◌∷◌, ◌++◌, length, Option, Some, None, refl, sym, ap, ◌∙◌, subst, arith, append_assoc, inl, inr, length-append, eq-eqb}
use Rattle.std.specs.Prelude.{◌==◌, nat_lt, count_by, if◌then◌else◌, unwrap_or}
use Rattle.std.specs.BTreeMap.{get, is_at, IsOrdered}
use Rattle.std.specs.Ordering.{nat_cmp}
use Rattle.std.proofs.lemmas.Bool.{cases_eq, ne_eqb}
use Rattle.std.proofs.lemmas.Bool.Decides.{nat_tests}
use Rattle.std.proofs.lemmas.List.Elements.{filter-append}
use Rattle.std.proofs.lemmas.List.{append-nil}
use Rattle.std.proofs.lemmas.List.Sums.{sum_by-append, count_by-le-length, length-filter}
use Rattle.trace_file.specs.declared.fault.TraceFault.{TraceFault}
use Rattle.trace_file.specs.Readers.{ReaderView, StillReads}
use Rattle.trace_file.specs.Traces.{TracePacket, ReadsFrom}
use Rattle.trace_summary.specs.declared.summary.Totals.{Totals}
use Rattle.trace_summary.specs.declared.summary.Summary.{Summary}
use Rattle.trace_summary.specs.Added.{with_packet}
use Rattle.trace_summary.specs.Counts.{of_sequence, content_bytes, totals_of, totals_met, totals_at, lines_text, last_line, summary_text, IsSummaryOf}
use Rattle.trace_summary.specs.Tallies.{none, totals_in, totals_before}
use Rattle.trace_summary.specs.declared.tally.Tally.{Tally}

-- the packets that were read, what the reader has left, and the totals of each sequence and of all
pub record IsCounted (trace : List ℕ) (reader : ReaderView) (counts : ℕ → Option Totals) (all : Totals) : Type 0 where
  pub packets : List TracePacket
  pub reads : (others : List TracePacket) (ending : Option TraceFault) → StillReads reader others ending → ReadsFrom 0 trace (packets ++ others) ending
  pub each : (q : ℕ) → counts q ≡ totals_at q packets
  pub all_is : all ≡ totals_of packets
  pub small : all.packets + all.bytes + length reader.rest ≤ length trace

totals_nothing : totals_of [] ≡ none
unfolding totals_of
totals_nothing = refl

nothing_met : (q : ℕ) → totals_at q [] ≡ None
unfolding totals_at totals_met
nothing_met q = refl

pub count_start : (trace : List ℕ) (counts : ℕ → Option Totals) → ((q : ℕ) → counts q ≡ None)
    → IsCounted trace (record { at = 0; rest = trace; fault = None }) counts none
count_start trace counts nothing = record {
  packets = [];
  reads = λ others ending reads. reads;
  each = λ q. nothing q ∙ sym (nothing_met q);
  all_is = sym totals_nothing;
  small = omega arith;
}

-- ---- one packet more

totals-push : (packets : List TracePacket) (packet : TracePacket) → totals_of (packets ++ packet ∷ []) ≡ with_packet (totals_of packets) packet.marked (length packet.content)
unfolding totals_of with_packet
totals-push packets packet = same_totals _ _ count mark bytes
  where
    same_totals : (s t : Totals) → s.packets ≡ t.packets → s.marked ≡ t.marked → s.bytes ≡ t.bytes → s ≡ t
    same_totals s t p m b =
        let one : s ≡ record s { packets = t.packets } = ap (λ (n : ℕ). record s { packets = n }) p in
        let two : record s { packets = t.packets } ≡ record t { bytes = s.bytes } = ap (λ (n : ℕ). record s { packets = t.packets; marked = n }) m in
        let three : record t { bytes = s.bytes } ≡ t = ap (λ (n : ℕ). record t { bytes = n }) b in
        one ∙ two ∙ three

    count : length (packets ++ packet ∷ []) ≡ length packets + 1
    count = length-append packets (packet ∷ [])

    mark_of : (marked : Bool) (n : ℕ) → n + (0 + cond marked 1 0) ≡ (if marked then n + 1 else n)
    mark_of true n = omega arith
    mark_of false n = omega arith

    mark : count_by (λ p. p.marked) (packets ++ packet ∷ []) ≡ (if packet.marked then count_by (λ p. p.marked) packets + 1 else count_by (λ p. p.marked) packets)
    mark = let both : count_by (λ p. p.marked) (packets ++ packet ∷ []) ≡ count_by (λ p. p.marked) packets + (0 + cond packet.marked 1 0) = sum_by-append (λ (p : TracePacket). cond p.marked 1 0) packets (packet ∷ []) in
        both ∙ mark_of packet.marked (count_by (λ p. p.marked) packets)

    bytes : content_bytes (packets ++ packet ∷ []) ≡ content_bytes packets + length packet.content
    bytes = omega (arith, sum_by-append (λ (p : TracePacket). length p.content) packets (packet ∷ []))

totals_of_some : (packets : List TracePacket) (packet : TracePacket) → totals_met (packets ++ packet ∷ []) ≡ Some (totals_of (packets ++ packet ∷ []))
unfolding totals_met
totals_of_some [] packet = refl
totals_of_some (first ∷ packets) packet = refl

-- what was counted before, where nothing was too
pub met_before : (packets : List TracePacket) → unwrap_or (totals_met packets) none ≡ totals_of packets
unfolding totals_met
met_before [] = sym totals_nothing
met_before (packet ∷ packets) = refl

of_sequence-push : (q : ℕ) (packets : List TracePacket) (packet : TracePacket)
    → of_sequence q (packets ++ packet ∷ []) ≡ of_sequence q packets ++ cond (packet.sequence == q) (packet ∷ []) []
of_sequence-push q packets packet = filter-append (λ (p : TracePacket). p.sequence == q) packets (packet ∷ [])

at_same : (q : ℕ) (packets : List TracePacket) (packet : TracePacket) → packet.sequence ≡ q
    → totals_at q (packets ++ packet ∷ []) ≡ Some (with_packet (unwrap_or (totals_at q packets) none) packet.marked (length packet.content))
unfolding totals_at
at_same q packets packet e =
    let kept : of_sequence q (packets ++ packet ∷ []) ≡ of_sequence q packets ++ packet ∷ [] =
    of_sequence-push q packets packet ∙ ap (λ (b : Bool). of_sequence q packets ++ cond b (packet ∷ []) []) (eq-eqb packet.sequence q e) in
    ap totals_met kept ∙ totals_of_some (of_sequence q packets) packet
    ∙ ap Some (totals-push (of_sequence q packets) packet
    ∙ ap (λ (t : Totals). with_packet t packet.marked (length packet.content)) (sym (met_before (of_sequence q packets))))

at_other : (q : ℕ) (packets : List TracePacket) (packet : TracePacket) → packet.sequence ≢ q → totals_at q (packets ++ packet ∷ []) ≡ totals_at q packets
unfolding totals_at
at_other q packets packet apart =
    let kept : of_sequence q (packets ++ packet ∷ []) ≡ of_sequence q packets =
    of_sequence-push q packets packet ∙ ap (λ (b : Bool). of_sequence q packets ++ cond b (packet ∷ []) []) (ne_eqb packet.sequence q apart) ∙ append-nil (of_sequence q packets) in
    ap totals_met kept

same_key : (q : ℕ) → is_at (nat_cmp q) q ≡ true
same_key q = grind (arith, nat_tests)

other_key : (k q : ℕ) → k ≢ q → is_at (nat_cmp k) q ≡ false
other_key k q apart = grind (arith, nat_tests)

met_more : (totals : Totals) (marked : Bool) (bytes : ℕ) → nat_lt 0 (with_packet totals marked bytes).packets ≡ true
unfolding with_packet
met_more totals marked bytes = grind (arith, nat_tests)

-- where totals with a packet more are at hand, those of their sequence alone have changed
pub count_at_hand : (old new : Tally) (sequence : ℕ) (marked : Bool) (bytes : ℕ) → new.at_hand ≡ sequence
    → new.totals ≡ with_packet (totals_before old sequence) marked bytes
    → ((q : ℕ) → q ≢ sequence → get nat_cmp new.sequences q ≡ totals_in old q)
    → (q : ℕ) → totals_in new q ≡ (if is_at (nat_cmp sequence) q then Some (with_packet (totals_before old sequence) marked bytes) else totals_in old q)
count_at_hand old new sequence marked bytes at_hand totals others q =
    let met = ap (λ (t : Totals). nat_lt 0 t.packets) totals ∙ met_more (totals_before old sequence) marked bytes in
    ap (λ (b : Bool). if (if b then is_at (nat_cmp new.at_hand) q else false) then Some new.totals else get nat_cmp new.sequences q) met
    ∙ ap (λ (k : ℕ). if is_at (nat_cmp k) q then Some new.totals else get nat_cmp new.sequences q) at_hand
    ∙ ap (λ (t : Totals). if is_at (nat_cmp sequence) q then Some t else get nat_cmp new.sequences q) totals
    ∙ elsewhere (is_at (nat_cmp sequence) q) (λ away. others q (grind (arith, nat_tests)))
  where
    elsewhere : (here : Bool) → (here ≡ false → get nat_cmp new.sequences q ≡ totals_in old q)
        → (if here then Some (with_packet (totals_before old sequence) marked bytes) else get nat_cmp new.sequences q)
        ≡ (if here then Some (with_packet (totals_before old sequence) marked bytes) else totals_in old q)
    elsewhere true same = refl
    elsewhere false same = same refl

small_more : (all : Totals) (marked : Bool) (bytes new old whole : ℕ) → new + bytes + 2 ≤ old → all.packets + all.bytes + old ≤ whole
    → (with_packet all marked bytes).packets + (with_packet all marked bytes).bytes + new ≤ whole
unfolding with_packet
small_more all marked bytes new old whole shorter h = omega (arith, shorter, h)

pub count_more : (trace : List ℕ) (old new : ReaderView) (counts others : ℕ → Option Totals) (all : Totals) (packet : TracePacket)
    → IsCounted trace old counts all
    → ((packets : List TracePacket) (ending : Option TraceFault) → StillReads new packets ending → StillReads old (packet ∷ packets) ending)
    → length new.rest + length packet.content + 2 ≤ length old.rest
    → ((q : ℕ) → others q
    ≡ (if is_at (nat_cmp packet.sequence) q then Some (with_packet (unwrap_or (counts packet.sequence) none) packet.marked (length packet.content)) else counts q))
    → IsCounted trace new others (with_packet all packet.marked (length packet.content))
count_more trace old new counts others all packet h next shorter updates = record {
  packets = h.packets ++ packet ∷ [];
  reads = λ more ending reads. subst (λ (ps : List TracePacket). ReadsFrom 0 trace ps ending) (sym (append_assoc h.packets (packet ∷ []) more)) (h.reads (packet ∷ more) ending (next more ending reads));
  each = each;
  all_is = ap (λ (t : Totals). with_packet t packet.marked (length packet.content)) h.all_is ∙ sym (totals-push h.packets packet);
  small = small_more all packet.marked (length packet.content) (length new.rest) (length old.rest) (length trace) shorter h.small;
}
  where
    each : (q : ℕ) → others q ≡ totals_at q (h.packets ++ packet ∷ [])
    each q = elim (cases_eq packet.sequence q) [
      | inl e ↦
          let same : is_at (nat_cmp packet.sequence) q ≡ true = subst (λ (k : ℕ). is_at (nat_cmp packet.sequence) k ≡ true) e (same_key packet.sequence) in
          let was : unwrap_or (counts packet.sequence) none ≡ unwrap_or (totals_at q h.packets) none = ap (λ (o : Option Totals). unwrap_or o none) (h.each packet.sequence) ∙ ap (λ (k : ℕ). unwrap_or (totals_at k h.packets) none) e in
          updates q ∙ ap (λ (b : Bool). if b then Some (with_packet (unwrap_or (counts packet.sequence) none) packet.marked (length packet.content)) else counts q) same
          ∙ ap (λ (t : Totals). Some (with_packet t packet.marked (length packet.content))) was ∙ sym (at_same q h.packets packet e)
      | inr apart ↦
          updates q ∙ ap (λ (b : Bool). if b then Some (with_packet (unwrap_or (counts packet.sequence) none) packet.marked (length packet.content)) else counts q) (other_key packet.sequence q apart)
          ∙ h.each q ∙ sym (at_other q h.packets packet apart)
    ]

pub count_end : (trace : List ℕ) (reader : ReaderView) (counts : ℕ → Option Totals) (all : Totals) (summary : Summary) → IsCounted trace reader counts all
    → ((q : ℕ) → get nat_cmp summary.sequences q ≡ counts q) → IsOrdered nat_cmp summary.sequences
    → summary.packets ≡ all.packets → summary.bytes ≡ all.bytes → StillReads reader [] None → IsSummaryOf trace (summary_text summary)
unfolding summary_text totals_of
count_end trace reader counts all summary h each rising packets_is bytes_is ends = record {
  packets = h.packets;
  reads = subst (λ (ps : List TracePacket). ReadsFrom 0 trace ps None) (append-nil h.packets) (h.reads [] None ends);
  says = record {
    lines = summary.sequences.entries;
    rising = rising;
    each = λ q. each q ∙ h.each q;
    text_is = ap (λ (n : ℕ). lines_text summary.sequences.entries ++ last_line n summary.bytes) (packets_is ∙ ap (λ (t : Totals). t.packets) h.all_is)
        ∙ ap (λ (n : ℕ). lines_text summary.sequences.entries ++ last_line (length h.packets) n) (bytes_is ∙ ap (λ (t : Totals). t.bytes) h.all_is);
  };
}

-- ---- all counts fit

part_of : (q : ℕ) (packets : List TracePacket) → content_bytes (of_sequence q packets) ≤ content_bytes packets
part_of q [] = omega arith
part_of q (packet ∷ packets) = by_test (packet.sequence == q) (part_of q packets)
  where
    sum_more : (kept : List TracePacket) → content_bytes (packet ∷ kept) ≡ content_bytes kept + length packet.content
    sum_more kept = let both : content_bytes (packet ∷ kept) ≡ (0 + length packet.content) + content_bytes kept = sum_by-append (λ (p : TracePacket). length p.content) (packet ∷ []) kept in omega (arith, both)

    by_test : (b : Bool) → content_bytes (of_sequence q packets) ≤ content_bytes packets
        → content_bytes (cond b (packet ∷ of_sequence q packets) (of_sequence q packets)) ≤ content_bytes (packet ∷ packets)
    by_test true less = omega (arith, less, sum_more (of_sequence q packets), sum_more packets)
    by_test false less = omega (arith, less, sum_more packets)

few_marked : (packets : List TracePacket) → (totals_of packets).marked ≤ (totals_of packets).packets
unfolding totals_of
few_marked packets = count_by-le-length (λ (p : TracePacket). p.marked) packets

few_at : (q : ℕ) (packets : List TracePacket)
    → ((totals_of (of_sequence q packets)).packets ≤ (totals_of packets).packets) × ((totals_of (of_sequence q packets)).bytes ≤ (totals_of packets).bytes)
unfolding totals_of
few_at q packets = (
  omega (arith, length-filter (λ (p : TracePacket). p.sequence == q) packets, count_by-le-length (λ (p : TracePacket). p.sequence == q) packets),
  part_of q packets,
)

abbrev pub Fits : Totals → Totals → Type 0
Fits before all = (before.packets ≤ all.packets) × (before.marked ≤ before.packets) × (before.bytes ≤ all.bytes)

met_of : (q : ℕ) (packets : List TracePacket) → unwrap_or (totals_at q packets) none ≡ totals_of (of_sequence q packets)
unfolding totals_at
met_of q packets = met_before (of_sequence q packets)

-- the totals of one sequence are at most those of all
pub before_fits : (trace : List ℕ) (reader : ReaderView) (counts : ℕ → Option Totals) (all : Totals) (q : ℕ) → IsCounted trace reader counts all
    → Fits (unwrap_or (counts q) none) all
before_fits trace reader counts all q h =
    let was : unwrap_or (counts q) none ≡ totals_of (of_sequence q h.packets) = ap (λ (o : Option Totals). unwrap_or o none) (h.each q) ∙ met_of q h.packets in
    let few = few_at q h.packets in
    subst (λ (t : Totals). Fits (unwrap_or (counts q) none) t) (sym h.all_is) (subst (λ (t : Totals). Fits t (totals_of h.packets)) (sym was) (few.0, few_marked (of_sequence q h.packets), few.1))

pub all_fits : (trace : List ℕ) (reader : ReaderView) (counts : ℕ → Option Totals) (all : Totals) → IsCounted trace reader counts all → all.marked ≤ all.packets
all_fits trace reader counts all h = subst (λ (t : Totals). t.marked ≤ t.packets) (sym h.all_is) (few_marked h.packets)
