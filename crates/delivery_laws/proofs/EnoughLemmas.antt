-- Where all is finished and the buffer has bytes enough, each packet is delivered.
use Rattle.std.proofs.Common.{◌≡◌, ◌∙◌, ℕ, suc, ◌+◌, ◌<◌, ◌≤◌, Bool, true, false, not, ◌&&◌, List, [], ◌∷◌, ◌++◌, length, map, reverse, refl, sym, ap, subst, arith}
use Rattle.std.specs.Prelude.{cond, ◌==◌, filter}
use Rattle.std.specs.List.{AllZip}
use Rattle.std.proofs.lemmas.Bool.{false≢true}
use Rattle.std.proofs.lemmas.List.{length-reverse, length-map}
use Rattle.std.proofs.lemmas.Option.{slice_get_within}
use Rattle.trace_model.specs.Calls.{Call}
use Rattle.trace_model.specs.Images.{Fragment, Patch}
use Rattle.trace_model.specs.Packets.{Packet, packet_encoding, packets_of, kept_of, emissions_of, begun_count}
use Rattle.trace_model.specs.Pages.{Page, patches_of}
use Rattle.trace_model.specs.Sent.{open_chunks}
use Rattle.trace_model.specs.Written.{written_row, chains_in, chains_of}
use Rattle.trace_model.specs.Cut.{IsChainOf, newest_goes_on}
use Rattle.trace_model.specs.Sequences.{Sequence, Cursor, sequence_in}
use Rattle.trace_model.specs.Buffers.{empty_buffer}
use Rattle.trace_model.specs.History.{delivered_to}
use Rattle.trace_model.specs.Tells.{TellsFrom}
use Rattle.delivery_laws.specs.Sheets.{Sheet, Part, SheetsAgree, parts_from, all_parts, packets_in, sheet_patches}
use Rattle.delivery_laws.specs.Orders.{InOrder}
use Rattle.delivery_laws.specs.Finishing.{Finishes}
use Rattle.delivery_laws.specs.WriterSheets.{sheets_from, sheets_of}
use Rattle.delivery_laws.specs.EnoughLaws.{EveryPacketIsDelivered}
use Rattle.delivery_laws.proofs.Walks.{Follows, Inside, parts_at}
use Rattle.delivery_laws.proofs.RowWalks.{all_at_start, inside_first}
use Rattle.delivery_laws.proofs.HistoryLemmas.{fresh_known}
use Rattle.delivery_laws.proofs.WrittenPackets.{AreFull, are_full, IsToldBy, sheets_agree, packets_are_chains}
use Rattle.delivery_laws.proofs.EmissionLemmas.{record_bytes}
use Rattle.delivery_laws.proofs.CompleteLemmas.{EachCompletes, each_completes}
use Rattle.delivery_laws.proofs.OrderLemmas.{every_writer_is_told}
use Rattle.delivery_laws.proofs.AcceptedBodies.{sheets_accepted}
use Rattle.delivery_laws.proofs.CalmLemmas.{AreWhole, Calm}
use Rattle.delivery_laws.proofs.DeliversAll.{delivers_all}
use Rattle.delivery_laws.proofs.WholeLemmas.{none_goes_on, all_kept, sheets_are_whole}

-- records are told at rising places, so there are at most as many as packets
pub tells_few : (emitted : List (List ℕ)) (q : ℕ) (first : Bool) (next : ℕ) (records : List (List ℕ)) → TellsFrom emitted q first next records → next ≤ length emitted
    → next + length records ≤ length emitted
tells_few emitted q first next [] h low = omega (arith, low)
tells_few emitted q first next (bytes ∷ records) h low =
    let within = slice_get_within emitted h.0 h.1.packet h.1.emitted_there in
    let rest = tells_few emitted q false (suc h.0) records h.2 (omega (arith, within)) in
    let from = h.1.not_before in
    omega (arith, rest, from)

pub filter_few : (test : Packet → Bool) (xs : List Packet) → length (filter test xs) ≤ length xs
filter_few test [] = omega arith
filter_few test (x ∷ xs) = step (test x) (filter_few test xs)
  where
    step : (b : Bool) → length (filter test xs) ≤ length xs → length (cond b (x ∷ filter test xs) (filter test xs)) ≤ suc (length xs)
    step true k = omega (arith, k)
    step false k = omega (arith, k)

pub emissions_few : (calls : List Call) → length (emissions_of calls) ≤ begun_count calls
emissions_few calls =
    let mapped = length-map (filter (λ packet. packet.finished) (reverse (packets_of calls))) packet_encoding in
    let few = filter_few (λ packet. packet.finished) (reverse (packets_of calls)) in
    let turned = length-reverse (packets_of calls) in
    omega (arith, mapped, few, turned)

pub zip_long : {A B : Type 0} (R : A → B → Type 0) (xs : List A) (ys : List B) → AllZip R xs ys → length xs ≡ length ys
zip_long R [] [] h = refl
zip_long R [] (y ∷ ys) h = absurd h
zip_long R (x ∷ xs) [] h = absurd h
zip_long R (x ∷ xs) (y ∷ ys) h = let e = zip_long R xs ys h.1 in omega (arith, e)

sheets_long : (patches : List Patch) (goes : Bool) (pages : List Page) (first : ℕ) → length (sheets_from patches first goes pages) ≡ length pages
sheets_long patches goes [] first = refl
sheets_long patches goes (page ∷ []) first = refl
sheets_long patches goes (page ∷ next ∷ pages) first = let e = sheets_long patches goes (next ∷ pages) (suc first) in omega (arith, e)

follows_start : (sheets : List Sheet) → SheetsAgree false sheets → Follows true (parts_at sheets 0 0)
follows_start [] agree = tt
follows_start (sheet ∷ sheets) agree = begins sheet.written agree.1
  where
    begins : (fragments : List Fragment) → 0 < length fragments → Follows true (parts_from (sheet.chunk.continues && (0 == 0)) sheet.chunk.runs_on fragments ++ all_parts sheets)
    begins [] some = absurd (omega (arith, some))
    begins (f ∷ fs) some = ap (λ (b : Bool). not (b && (0 == 0))) agree.0

pub every_packet_is_delivered : EveryPacketIsDelivered
every_packet_is_delivered size calls pages room policy sequences q record_size events account w bodies finishes low =
    let full : AreFull size pages = are_full size pages account.cut.full in
    let goes : newest_goes_on (packets_of calls) ≡ false = none_goes_on (packets_of calls) w in
    let agree : SheetsAgree false (sheets_of false pages) = sheets_agree size false pages full account.cut.flags in
    let completes : EachCompletes (sheets_of false pages) =
    each_completes size false pages (open_chunks (kept_of (packets_of calls)) (chains_of pages)) full account.cut.patches.behind account.cut.patches.lasts account.cut.patches.placed in
    let whole : AreWhole (sheets_of false pages) = sheets_are_whole size calls pages account.possible account.cut w in
    let order : InOrder (sheets_of false pages) q 0 false [] events = subst (λ (g : Bool). InOrder (sheets_of g pages) q 0 false [] events) goes account.order in
    let long : length (sheets_of false pages) ≡ length pages = sheets_long (patches_of pages) false pages 0 in
    let told = zip_long IsToldBy (chains_in (written_row pages)) (packets_in (all_parts (sheets_of false pages))) (packets_are_chains size false pages full account.cut.flags) in
    let chains = zip_long (IsChainOf size) (kept_of (packets_of calls)) (chains_of pages) account.cut.chains in
    let kept = ap (λ (ps : List Packet). length ps) (all_kept (packets_of calls) w) in
    let turned = length-reverse (chains_in (written_row pages)) in
    let cursor : (sequence_in sequences q).cursor ≡ record { chunk_id = 0; passed = 0 } = ap (λ (s : Sequence). s.cursor) account.start in
    let ahead : length (packets_in (parts_at (sheets_of false pages) (sequence_in sequences q).cursor.chunk_id (sequence_in sequences q).cursor.passed)) ≡ length (packets_in (all_parts (sheets_of false pages))) =
    ap (λ (c : Cursor). length (packets_in (parts_at (sheets_of false pages) c.chunk_id c.passed))) cursor ∙ ap (λ (ps : List Part). length (packets_in ps)) (all_at_start (sheets_of false pages)) in
    let calm : Calm (sheets_of false pages) q 0 false (sheet_patches (sheets_of false pages)) (empty_buffer room policy sequences) =
    record {
      known = fresh_known (sheets_of false pages) q record_size room policy sequences (sheet_patches (sheets_of false pages)) account.known account.start;
      roomy = record { below = tt; unshut = refl };
      all = λ i h. absurd (omega (arith, h));
      waits = tt;
      lasts = whole.lasts;
      inside = subst (λ (c : Cursor). Inside (sheets_of false pages) c.chunk_id c.passed) (sym cursor) (inside_first (sheets_of false pages) false 0 agree);
      follows = subst (λ (c : Cursor). Follows true (parts_at (sheets_of false pages) c.chunk_id c.passed)) (sym cursor) (follows_start (sheets_of false pages) agree);
      over = λ c. absurd (false≢true c);
    } in
    let accepted = sheets_accepted size calls pages account.cut w bodies in
    let all = delivers_all (sheets_of false pages) agree completes whole accepted q (begun_count calls) events (empty_buffer room policy sequences) 0 false [] calm
    (omega (arith, low)) (omega (arith, ahead, told, chains, kept, turned)) order
    (subst (λ (n : ℕ). Finishes q n (begun_count calls) 0 false events) (sym long) finishes) in
    let most = tells_few (emissions_of calls) q true 0 (map (record_bytes q) (delivered_to q (empty_buffer room policy sequences) events))
    (every_writer_is_told size calls pages room policy sequences q record_size events account) (omega arith) in
    let mapped = length-map (delivered_to q (empty_buffer room policy sequences) events) (record_bytes q) in
    let few = emissions_few calls in
    omega (arith, all, ahead, told, chains, kept, turned, most, mapped, few)
