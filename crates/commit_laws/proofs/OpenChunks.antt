-- A chunk with a length that is open in the packet that its writer goes on in: no packet begins behind it, and that one isn't whole.
use Rattle.std.proofs.Common.{◌≡◌, ◌∙◌, ℕ, zero, suc, ◌+◌, ◌<◌, ◌≤◌, Bool, true, false, not, ◌&&◌, ◌||◌, List, [], ◌∷◌, ◌++◌, length, map, drop, reverse, Option, Some, None, refl, sym, ap, subst, arith, append_assoc, unwrap_or}
use Rattle.std.specs.Prelude.{cond, ◌==◌, filter, is_some, nat_le}
use Rattle.std.proofs.lemmas.Bool.{false≢true, eq-eqb, eqb-true, leb-true, or_left, or_right}
use Rattle.std.proofs.lemmas.List.{reverse-append, reverse-reverse}
use Rattle.trace_model.specs.Calls.{Call}
use Rattle.trace_model.specs.Cut.{newest_goes_on}
use Rattle.trace_model.specs.Images.{Fragment}
use Rattle.trace_model.specs.Packets.{Packet, Text, kept_of, nothing_yet, open_places, packets_of}
use Rattle.trace_model.specs.Pages.{Page}
use Rattle.trace_model.specs.Row.{Chain, Link, Joined, Gap, Stop, bytes_of}
use Rattle.trace_model.specs.Sent.{chunk_at, open_chunks, open_in}
use Rattle.trace_model.specs.Sequences.{is_among}
use Rattle.trace_model.specs.Written.{chains_in, chains_of, written_row}
use Rattle.trace_model.proofs.CursorLemmas.{Each}
use Rattle.model_laws.proofs.TextSizes.{AllFinished, OlderFinished}
use Rattle.delivery_laws.specs.Sheets.{Sheet, Part, all_parts, ends_whole, packets_in, parts_from, parts_of, tail_bytes}
use Rattle.delivery_laws.proofs.CallLemmas.{older_finished}
use Rattle.delivery_laws.proofs.RowWalks.{all_at_start}
use Rattle.delivery_laws.proofs.Walks.{Inside, parts_at}
use Rattle.delivery_laws.proofs.WholeLemmas.{FinishedFlat, each_reversed, flat_all}
use Rattle.delivery_laws.proofs.WrittenPackets.{LastGoesOn}
use Rattle.commit_laws.specs.Streams.{IsCompletedCut}
use Rattle.commit_laws.proofs.CommitMembers.{each_behind}
use Rattle.commit_laws.proofs.CutSheets.{cut_agrees, cut_last, cut_sheets}
use Rattle.commit_laws.proofs.ExactChains.{written_held}
use Rattle.commit_laws.proofs.FullRows.{Holds, StaysOpen}
use Rattle.commit_laws.proofs.LastParts.{none_ends, runs_goes}
use Rattle.commit_laws.proofs.RowPieces.{IsChainFrom, IsFrom, IsInPage, piece_at, written_from}

-- The open length

-- the newest packet, whose chain has an open length in this chunk
record HasOpen (i : ℕ) (packets : List Packet) (chains : List Chain) : Type 0 where
  packet : Packet
  more : List Packet
  packets_are : packets ≡ packet ∷ more
  chain : Chain
  others : List Chain
  chains_are : chains ≡ chain ∷ others
  kept_up : is_some packet.given_up ≡ false
  at : ℕ
  chunk : chunk_at chain.pieces at ≡ i
  fits : at + 4 ≤ length (bytes_of chain.pieces)
  opened : is_among at (open_places packet.text.levels) ≡ true

record IsMapped (f : ℕ → ℕ) (p : ℕ → Bool) (i : ℕ) (xs : List ℕ) : Type 0 where
  at : ℕ
  is : f at ≡ i
  holds : p at ≡ true
  among : is_among at xs ≡ true

among_mapped : (f : ℕ → ℕ) (p : ℕ → Bool) (i : ℕ) (xs : List ℕ) → is_among i (map f (filter p xs)) ≡ true → IsMapped f p i xs
among_mapped f p i [] h = absurd (false≢true h)
among_mapped f p i (x ∷ xs) h = by_kept (p x) refl h (λ k. behind (among_mapped f p i xs k))
  where
    behind : IsMapped f p i xs → IsMapped f p i (x ∷ xs)
    behind m = record { at = m.at; is = m.is; holds = m.holds; among = or_right (x == m.at) (is_among m.at xs) m.among }

    by_kept : (b : Bool) → p x ≡ b → is_among i (map f (cond b (x ∷ filter p xs) (filter p xs))) ≡ true → (is_among i (map f (filter p xs)) ≡ true → IsMapped f p i (x ∷ xs))
        → IsMapped f p i (x ∷ xs)
    by_kept false e h rest = rest h
    by_kept true e h rest = by_first (f x == i) refl h
      where
        by_first : (b : Bool) → (f x == i) ≡ b → (b || is_among i (map f (filter p xs))) ≡ true → IsMapped f p i (x ∷ xs)
        by_first true g h = record { at = x; is = eqb-true (f x) i g; holds = e; among = or_left (x == x) (is_among x xs) (eq-eqb x x refl) }
        by_first false g h = rest h

has_open : (i : ℕ) (packets : List Packet) (chains : List Chain) → is_among i (open_chunks packets chains) ≡ true → HasOpen i packets chains
has_open i [] chains h = absurd (false≢true h)
has_open i (packet ∷ packets) [] h = absurd (false≢true h)
has_open i (packet ∷ packets) (chain ∷ chains) h = by_given packet.given_up refl h
  where
    by_given : (given : Option Text) → packet.given_up ≡ given
        → is_among i (cond (is_some given) [] (map (chunk_at chain.pieces) (open_in chain.pieces (unwrap_or given packet.text)))) ≡ true → HasOpen i (packet ∷ packets) (chain ∷ chains)
    by_given (Some text) e h = absurd (false≢true h)
    by_given None e h =
        let at = among_mapped (chunk_at chain.pieces) (λ at. nat_le (at + 4) (length (bytes_of chain.pieces))) i (open_places packet.text.levels) h in
        record {
          packet = packet;
          more = packets;
          packets_are = refl;
          chain = chain;
          others = chains;
          chains_are = refl;
          kept_up = ap (λ (o : Option Text). is_some o) e;
          at = at.at;
          chunk = at.is;
          fits = leb-true (at.at + 4) (length (bytes_of chain.pieces)) at.holds;
          opened = at.among;
        }

-- The writer goes on in its packet

never_flat : (levels : List (List ℕ)) (at : ℕ) → is_among at (open_places levels) ≡ true → length levels ≡ 1 → ⊥
never_flat [] at h flat = false≢true h
never_flat (level ∷ []) at h flat = false≢true h
never_flat (level ∷ outer ∷ others) at h flat = omega (arith, flat)

not_older : (packets : List Packet) (packet : Packet) (more : List Packet) → AllFinished packets → FinishedFlat packets → kept_of packets ≡ packet ∷ more → length packet.text.levels ≡ 1
not_older [] packet more finished flat e = absurd (cc)
not_older (p ∷ ps) packet more finished flat e = by_kept p.kept e (not_older ps packet more finished.1 flat.1)
  where
    by_kept : (b : Bool) → cond b (p ∷ kept_of ps) (kept_of ps) ≡ packet ∷ more → (kept_of ps ≡ packet ∷ more → length packet.text.levels ≡ 1) → length packet.text.levels ≡ 1
    by_kept true e rest =
        let same : p ≡ packet = cc in
        subst (λ (one : Packet). length one.text.levels ≡ 1) same (flat.0 finished.0)
    by_kept false e rest = rest e

goes_on : (packets : List Packet) (packet : Packet) (more : List Packet) (at : ℕ) → OlderFinished packets → FinishedFlat packets → kept_of packets ≡ packet ∷ more
    → is_some packet.given_up ≡ false → is_among at (open_places packet.text.levels) ≡ true → newest_goes_on packets ≡ true
goes_on [] packet more at older flat e up opened = absurd (cc)
goes_on (p ∷ ps) packet more at older flat e up opened = by_kept p.kept refl e
  where
    by_kept : (b : Bool) → p.kept ≡ b → cond b (p ∷ kept_of ps) (kept_of ps) ≡ packet ∷ more → newest_goes_on (p ∷ ps) ≡ true
    by_kept false k e = absurd (never_flat packet.text.levels at opened (not_older ps packet more older flat.1 e))
    by_kept true k e = by_finish p.finished refl
      where
        same : p ≡ packet
        same = cc

        by_finish : (b : Bool) → p.finished ≡ b → newest_goes_on (p ∷ ps) ≡ true
        by_finish true f =
            absurd (never_flat packet.text.levels at opened (subst (λ (one : Packet). length one.text.levels ≡ 1) same (flat.0 f)))
        by_finish false f =
            ap (λ (b : Bool). not (not b || is_some p.given_up) && not p.finished) k
            ∙ ap (λ (b : Bool). not b && not p.finished) (ap (λ (one : Packet). is_some one.given_up) same ∙ up)
            ∙ ap not f

-- Behind the last chain's begin

last_begins : (sheets : List Sheet) (links : List Link) (parts : List Part) → Holds sheets false true links parts → (older : List Chain) (chain : Chain) → chains_in links ≡ older ++ chain ∷ []
    → (first : Part) × (behind : List Part) × (parts_at sheets chain.at.chunk_id chain.at.passed ≡ first ∷ behind) × Inside sheets chain.at.chunk_id chain.at.passed × (packets_in behind ≡ [])
last_begins sheets [] parts h older chain e = absurd h
last_begins sheets (Stop at why may ∷ links) parts h older chain e = absurd (none older (sym (ap chains_in h.none) ∙ e))
  where
    none : (older : List Chain) → [] ≡ older ++ chain ∷ [] → ⊥
    none [] e = cc
    none (o ∷ older) e = cc
last_begins sheets (Gap at next lost ∷ links) parts h older chain e = absurd h
last_begins sheets (Joined one ∷ links) [] h older chain e = absurd h
last_begins sheets (Joined one ∷ links) (first ∷ parts) h [] chain e =
    let same : one ≡ chain = cc in
    let none : chains_in links ≡ [] = cc in
    subst (λ (c : Chain). (f : Part) × (behind : List Part) × (parts_at sheets c.at.chunk_id c.at.passed ≡ f ∷ behind) × Inside sheets c.at.chunk_id c.at.passed × (packets_in behind ≡ [])) same
    (first, parts, h.1.here.0, h.1.here.1, h.1.after ∙ no_packets links h.0 h.2 none)
  where
    no_packets : (links : List Link) (parts : List Part) → Holds sheets false true links parts → chains_in links ≡ [] → packets_in parts ≡ []
    no_packets [] parts h e = absurd h
    no_packets (Stop at why may ∷ links) parts h e = ap packets_in (h.end refl)
    no_packets (Gap at next lost ∷ links) parts h e = absurd h
    no_packets (Joined c ∷ links) parts h e = absurd (cc)
last_begins sheets (Joined one ∷ links) (first ∷ parts) h (o ∷ older) chain e =
    let rest : chains_in links ≡ older ++ chain ∷ [] = cc in
    last_begins sheets links h.0 h.2 older chain rest

none_start : (parts : List Part) → packets_in parts ≡ [] → Each (λ (part : Part). part.starts ≡ false) parts
none_start [] e = tt
none_start (part ∷ parts) e = by_start part.starts refl e (none_start parts)
  where
    by_start : (b : Bool) → part.starts ≡ b → cond b (record { bytes = part.bytes ++ tail_bytes parts; whole = ends_whole part parts } ∷ packets_in parts) (packets_in parts) ≡ []
        → (packets_in parts ≡ [] → Each (λ (part : Part). part.starts ≡ false) parts) → (part.starts ≡ false) × Each (λ (part : Part). part.starts ≡ false) parts
    by_start true s e rest = absurd (cc)
    by_start false s e rest = (s, rest e)

-- Parts of later chunks

all_from : (sheets : List Sheet) (i : ℕ) → (front : List Part) × (all_parts sheets ≡ front ++ parts_at sheets i 0)
all_from [] i = ([], refl)
all_from (sheet ∷ sheets) zero = ([], sym (all_at_start (sheet ∷ sheets)))
all_from (sheet ∷ sheets) (suc i) =
    let rest = all_from sheets i in
    (parts_of sheet ++ rest.0, ap (λ (ps : List Part). parts_of sheet ++ ps) rest.1 ∙ sym (append_assoc (parts_of sheet) rest.0 (parts_at sheets i 0)))

later_parts : (sheets : List Sheet) (chunk_id passed i : ℕ) (first : Part) (behind : List Part) → chunk_id ≤ i → Inside sheets chunk_id passed → parts_at sheets chunk_id passed ≡ first ∷ behind
    → (front : List Part) × (behind ≡ front ++ parts_at sheets (suc i) 0)
later_parts [] chunk_id passed i first behind low inside e = absurd (cc)
later_parts (sheet ∷ sheets) (suc chunk_id) passed zero first behind low inside e = absurd (omega (arith, low))
later_parts (sheet ∷ sheets) (suc chunk_id) passed (suc i) first behind low inside e = later_parts sheets chunk_id passed i first behind (omega (arith, low)) inside e
later_parts (sheet ∷ sheets) zero passed i first behind low inside e = by_left (drop passed sheet.written) refl e
  where
    never_out : (n : ℕ) (fs : List Fragment) → drop n fs ≡ [] → n < length fs → ⊥
    never_out zero [] d low = omega (arith, low)
    never_out zero (f ∷ fs) d low = cc
    never_out (suc n) [] d low = omega (arith, low)
    never_out (suc n) (f ∷ fs) d low = never_out n fs d (omega (arith, low))

    by_left : (fs : List Fragment) → drop passed sheet.written ≡ fs → parts_from (sheet.chunk.continues && (passed == 0)) sheet.chunk.runs_on fs ++ all_parts sheets ≡ first ∷ behind
        → (front : List Part) × (behind ≡ front ++ parts_at sheets i 0)
    by_left [] d e = absurd (never_out passed sheet.written d (inside sheet refl))
    by_left (f ∷ fs) d e =
        let rest : parts_from false sheet.chunk.runs_on fs ++ all_parts sheets ≡ behind = cc in
        let all = all_from sheets i in (
          parts_from false sheet.chunk.runs_on fs ++ all.0,
          sym rest ∙ ap (λ (ps : List Part). parts_from false sheet.chunk.runs_on fs ++ ps) all.1
              ∙ sym (append_assoc (parts_from false sheet.chunk.runs_on fs) all.0 (parts_at sheets i 0)),
        )

-- The chunk stays open

module _ (size : ℕ) (calls : List Call) (pages : List Page) (cut : IsCompletedCut size calls pages) where
  abbrev sheets : List Sheet
  sheets = cut_sheets calls pages

  pub open_stays : (i : ℕ) → is_among i (open_chunks (kept_of (packets_of calls)) (chains_of pages)) ≡ true → StaysOpen sheets i
  open_stays i among = from (has_open i (kept_of (packets_of calls)) (chains_of pages) among)
    where
      from : HasOpen i (kept_of (packets_of calls)) (chains_of pages) → StaysOpen sheets i
      from is part ends =
          none_ends part (parts_at sheets (suc i) 0) ends last
          (each_behind (λ (one : Part). one.starts ≡ false) later.0 (parts_at sheets (suc i) 0)
          (subst (Each (λ (one : Part). one.starts ≡ false)) later.1 (none_start begins.1 begins.4)))
        where
          on : newest_goes_on (packets_of calls) ≡ true
          on = goes_on (packets_of calls) is.packet is.more is.at (older_finished calls cut.possible) (flat_all calls nothing_yet cut.possible tt) is.packets_are is.kept_up is.opened

          begins : (first : Part) × (behind : List Part) × (parts_at sheets is.chain.at.chunk_id is.chain.at.passed ≡ first ∷ behind)
              × Inside sheets is.chain.at.chunk_id is.chain.at.passed × (packets_in behind ≡ [])
          begins = last_begins sheets (written_row pages) (all_parts sheets) (written_held size calls pages cut) (reverse is.others) is.chain
              (sym (reverse-reverse (chains_in (written_row pages))) ∙ ap reverse is.chains_are ∙ reverse-append (is.chain ∷ []) is.others)

          from_chain : IsChainFrom (IsInPage pages) is.chain
          from_chain =
              (subst (Each (IsChainFrom (IsInPage pages))) is.chains_are (each_reversed (IsChainFrom (IsInPage pages)) (chains_in (written_row pages)) (written_from pages))).0

          low : is.chain.at.chunk_id ≤ i
          low =
              let fits = is.fits in
              let there = piece_at (IsFrom (IsInPage pages) is.chain.at.chunk_id) is.chain.pieces is.at from_chain (omega (arith, fits)) in
              let least = there.holds.1 in
              let at = sym there.chunk ∙ is.chunk in
              omega (arith, least, at)

          later : (front : List Part) × (begins.1 ≡ front ++ parts_at sheets (suc i) 0)
          later = later_parts sheets is.chain.at.chunk_id is.chain.at.passed i begins.0 begins.1 low begins.3 begins.2

          last : LastGoesOn (parts_at sheets (suc i) 0)
          last = runs_goes sheets false false (suc i) 0 (cut_agrees size calls pages cut) (cut_last size calls pages cut ∙ on)
