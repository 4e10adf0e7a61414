-- A flush between two packets: all packets before it are finished, later calls change none of them, and no length of theirs is open.
use Rattle.std.proofs.Common.{◌≡◌, ◌∙◌, Bool, true, false, not, ◌&&◌, ◌||◌, List, [], ◌∷◌, ◌++◌, length, refl, sym, ap, subst, arith, length-append}
use Rattle.std.specs.Prelude.{cond, fold, ◌==◌, is_some}
use Rattle.std.proofs.lemmas.Bool.{false≢true, and_parts}
use Rattle.std.proofs.lemmas.List.Sums.{fold-append}
use Rattle.std.proofs.lemmas.List.Elements.{filter-append}
use Rattle.trace_model.specs.Calls.{Call, Begun, Number, Bytes, Nested, Ended, GivenUp, Finished, Flushed}
use Rattle.trace_model.specs.Encoding.{number_field, bytes_field}
use Rattle.trace_model.specs.Packets.{Packet, Account, nothing_yet, account_of, noted, on_newest, begun_packet, with_more, with_nested, with_nested_ended, given_up_packet, finished_packet, packets_of, kept_of, is_lost, is_writing, newest_is_lost, open_count, is_possible, are_possible_after, AreCalls}
use Rattle.trace_model.specs.Row.{Chain}
use Rattle.trace_model.specs.Sent.{open_chunks}
use Rattle.trace_model.specs.Cut.{newest_goes_on}
use Rattle.trace_model.proofs.CursorLemmas.{Each, each-filter}
use Rattle.model_laws.proofs.TextSizes.{AllFinished}
use Rattle.delivery_laws.proofs.CallLemmas.{begun_older, older_finished}
use Rattle.delivery_laws.proofs.WholeLemmas.{FinishedFlat, flat_all, IsFlat, none_open}

-- what is possible, in two parts
pub possible_parts : (account : Account) (xs ys : List Call) → are_possible_after account (xs ++ ys) ≡ true
    → (are_possible_after account xs ≡ true) × (are_possible_after (fold noted account xs) ys ≡ true)
possible_parts account [] ys h = (refl, h)
possible_parts account (call ∷ xs) ys h =
    let parts = and_parts (is_possible account.packets call) (are_possible_after (noted account call) (xs ++ ys)) h in
    let rest = possible_parts (noted account call) xs ys parts.1 in
    (ap (λ (b : Bool). b && are_possible_after (noted account call) xs) parts.0 ∙ rest.0, rest.1)

-- packets that are newer than these
pub record AreBehind (base packets : List Packet) : Type 0 where
  pub newer : List Packet
  pub are : packets ≡ newer ++ base

-- later calls begin packets, and change those that they began
behind_changed : (base packets : List Packet) (change : Packet → Packet) (flushed : Bool) → is_writing base ≡ false → is_writing packets ≡ true → AreBehind base packets
    → AreBehind base (on_newest change (record { packets = packets; flushed = flushed })).packets
behind_changed base packets change flushed ended writing behind = by_newer behind.newer behind.are
  where
    by_newer : (newer : List Packet) → packets ≡ newer ++ base → AreBehind base (on_newest change (record { packets = packets; flushed = flushed })).packets
    by_newer [] e = absurd (false≢true (sym (ap is_writing e ∙ ended) ∙ writing))
    by_newer (packet ∷ newer) e = record { newer = change packet ∷ newer; are = ap (λ (ps : List Packet). (on_newest change (record { packets = ps; flushed = flushed })).packets) e }

behind_noted : (base : List Packet) (account : Account) (call : Call) → is_writing base ≡ false → is_possible account.packets call ≡ true → AreBehind base account.packets
    → AreBehind base (noted account call).packets
behind_noted base account (Begun kept) ended p behind =
    record { newer = begun_packet kept account ∷ behind.newer; are = ap (λ (ps : List Packet). begun_packet kept account ∷ ps) behind.are }
behind_noted base account (Number field value) ended p behind = behind_changed base account.packets (with_more (number_field field value)) account.flushed ended p behind
behind_noted base account (Bytes field text times) ended p behind = behind_changed base account.packets (with_more (bytes_field field text times)) account.flushed ended p behind
behind_noted base account (Nested field) ended p behind = behind_changed base account.packets (with_nested field) account.flushed ended p behind
behind_noted base account Ended ended p behind =
    behind_changed base account.packets with_nested_ended account.flushed ended (and_parts (is_writing account.packets) (not (open_count account.packets == 1)) p).0 behind
behind_noted base account GivenUp ended p behind =
    behind_changed base account.packets given_up_packet account.flushed ended (and_parts (is_writing account.packets) (not (newest_is_lost account.packets)) p).0 behind
behind_noted base account Finished ended p behind =
    behind_changed base account.packets finished_packet account.flushed ended (and_parts (is_writing account.packets) (open_count account.packets == 1) p).0 behind
behind_noted base account Flushed ended p behind = behind

behind_all : (base : List Packet) (calls : List Call) (account : Account) → is_writing base ≡ false → are_possible_after account calls ≡ true → AreBehind base account.packets
    → AreBehind base (fold noted account calls).packets
behind_all base [] account ended p behind = behind
behind_all base (call ∷ calls) account ended p behind =
    let parts = and_parts (is_possible account.packets call) (are_possible_after (noted account call) calls) p in
    behind_all base calls (noted account call) ended parts.1 (behind_noted base account call ended parts.0 behind)

flat_each : (packets : List Packet) → AllFinished packets → FinishedFlat packets → Each IsFlat packets
flat_each [] all flat = tt
flat_each (packet ∷ packets) all flat = (flat.0 all.0, flat_each packets all.1 flat.1)

module _ (before behind : List Call) (possible : AreCalls (before ++ Flushed ∷ behind)) where
  parts : (are_possible_after nothing_yet before ≡ true) × (are_possible_after (account_of before) (Flushed ∷ behind) ≡ true)
  parts = possible_parts nothing_yet before (Flushed ∷ behind) possible

  at_flush : (not (is_writing (packets_of before)) ≡ true) × (are_possible_after (noted (account_of before) Flushed) behind ≡ true)
  at_flush = and_parts (not (is_writing (packets_of before))) (are_possible_after (noted (account_of before) Flushed) behind) parts.1

  pub between : is_writing (packets_of before) ≡ false
  between = was (is_writing (packets_of before)) at_flush.0
    where
      was : (b : Bool) → not b ≡ true → b ≡ false
      was true e = absurd (false≢true e)
      was false e = refl

  pub all_finished : AllFinished (packets_of before)
  all_finished = begun_older (packets_of before) at_flush.0 (older_finished before parts.0)

  pub newest_ends : newest_goes_on (packets_of before) ≡ false
  newest_ends = by_packets (packets_of before) between
    where
      by_packets : (packets : List Packet) → is_writing packets ≡ false → newest_goes_on packets ≡ false
      by_packets [] h = refl
      by_packets (packet ∷ older) h = ap (λ (b : Bool). not (is_lost packet) && b) h ∙ and_false (not (is_lost packet))
        where
          and_false : (b : Bool) → (b && false) ≡ false
          and_false true = refl
          and_false false = refl

  pub packets_behind : AreBehind (packets_of before) (packets_of (before ++ Flushed ∷ behind))
  packets_behind =
      subst (λ (a : Account). AreBehind (packets_of before) a.packets) (sym (fold-append noted nothing_yet before (Flushed ∷ behind)))
      (behind_all (packets_of before) behind (noted (account_of before) Flushed) between at_flush.1 (record { newer = []; are = refl }))

  pub closed_before : (chains : List Chain) → open_chunks (kept_of (packets_of before)) chains ≡ []
  closed_before chains =
      none_open (kept_of (packets_of before)) chains
      (each-filter IsFlat (λ (packet : Packet). packet.kept) (packets_of before)
      (flat_each (packets_of before) all_finished (flat_all before nothing_yet parts.0 tt)))

  -- where no more packets are kept, the newest one goes on nowhere
  pub none_goes_on_behind : length (kept_of (packets_of (before ++ Flushed ∷ behind))) ≡ length (kept_of (packets_of before)) → newest_goes_on (packets_of (before ++ Flushed ∷ behind)) ≡ false
  none_goes_on_behind long = by_newer packets_behind.newer packets_behind.are
    where
      by_newer : (newer : List Packet) → packets_of (before ++ Flushed ∷ behind) ≡ newer ++ packets_of before → newest_goes_on (packets_of (before ++ Flushed ∷ behind)) ≡ false
      by_newer [] e = ap newest_goes_on e ∙ newest_ends
      by_newer (packet ∷ newer) e = ap newest_goes_on e ∙ by_kept packet.kept refl
        where
          lost : (kept : Bool) → packet.kept ≡ kept → kept ≡ false → (not (is_lost packet) && not packet.finished) ≡ false
          lost true k n = absurd (false≢true (sym n))
          lost false k n = ap (λ (b : Bool). not (not b || is_some packet.given_up) && not packet.finished) k

          by_kept : (kept : Bool) → packet.kept ≡ kept → (not (is_lost packet) && not packet.finished) ≡ false
          by_kept false k = lost false k refl
          by_kept true k =
              let all = ap (λ (ps : List Packet). length (kept_of ps)) e in
              let here = ap (λ (b : Bool). length (cond b (packet ∷ kept_of (newer ++ packets_of before)) (kept_of (newer ++ packets_of before)))) k in
              let more = ap (λ (ps : List Packet). length ps) (filter-append (λ (p : Packet). p.kept) newer (packets_of before)) in
              let both = length-append (kept_of newer) (kept_of (packets_of before)) in
              absurd (omega (arith, long, all, here, more, both))
