-- A history in which a writer's chunks come in order is legal; so the records of its sequence tell of what it emitted.
use Rattle.std.proofs.Common.{◌≡◌, ℕ, zero, suc, ◌<◌, Bool, true, false, List, [], ◌∷◌, ◌++◌, length, drop, reverse, Some, sym, ap, subst}
use Rattle.std.specs.Prelude.{◌==◌, slice_get, MatchBool}
use Rattle.trace_model.specs.Images.{Chunk, Patch}
use Rattle.trace_model.specs.Packets.{packets_of, kept_of}
use Rattle.trace_model.specs.Sent.{open_chunks}
use Rattle.trace_model.specs.Written.{chains_of}
use Rattle.trace_model.specs.Cut.{newest_goes_on}
use Rattle.trace_model.specs.Buffers.{empty_buffer}
use Rattle.trace_model.specs.History.{Event, Arrives, ArrivesInPart, Patched, Committed, Closed, Read, delivered_to}
use Rattle.delivery_laws.specs.Sheets.{Sheet, sheet_patches, all_parts, packets_in}
use Rattle.delivery_laws.specs.Histories.{Completes, IsComplete, IsPart, Legal}
use Rattle.delivery_laws.specs.Orders.{InOrder}
use Rattle.delivery_laws.specs.WriterSheets.{sheets_of}
use Rattle.delivery_laws.specs.DeliveryLaws.{EveryWriterIsTold}
use Rattle.delivery_laws.proofs.HistoryLemmas.{every_history_tells}
use Rattle.delivery_laws.proofs.WrittenPackets.{AreFull, are_full, sheets_agree}
use Rattle.delivery_laws.proofs.EmissionLemmas.{first_told}
use Rattle.delivery_laws.proofs.CallLemmas.{calls_in_turn, calls_are_paired}
use Rattle.delivery_laws.proofs.CompleteLemmas.{EachCompletes, each_completes}

-- the patches from a chunk on are its own and then the others
pub patches_next : (sheets : List Sheet) (chunk_id : ℕ) (sheet : Sheet) → slice_get sheets chunk_id ≡ Some sheet
    → sheet_patches (drop chunk_id sheets) ≡ sheet.patches ++ sheet_patches (drop (suc chunk_id) sheets)
patches_next [] chunk_id sheet get = absurd (cc)
patches_next (first ∷ sheets) zero sheet get =
    let same : first ≡ sheet = cc in
    ap (λ (s : Sheet). s.patches ++ sheet_patches sheets) same
patches_next (first ∷ sheets) (suc chunk_id) sheet get = patches_next sheets chunk_id sheet get

module _ (sheets : List Sheet) (completes : EachCompletes sheets) (q : ℕ) where
  -- while these patches are due, they and those of the chunks to come are to come
  abbrev IsLegal : ℕ → Bool → List Patch → List Event → Type 0
  IsLegal come closed due events = Legal sheets q come closed (due ++ sheet_patches (drop come sheets)) events

  none_due : (come : ℕ) (closed : Bool) (due : List Patch) (events : List Event) → due ≡ [] → IsLegal come closed [] events → IsLegal come closed due events
  none_due come closed due events e h = subst (λ (ps : List Patch). IsLegal come closed ps events) (sym e) h

  pub in_order_legal : (events : List Event) (come : ℕ) (closed : Bool) (due : List Patch) → InOrder sheets q come closed due events → IsLegal come closed due events
  in_order_legal [] come closed due order = tt
  in_order_legal (Arrives other chunk_id chunk ∷ events) come closed due order =
      none_due come closed due (Arrives other chunk_id chunk ∷ events) order.0
      (by_same (other == q) order.1 (λ sheet o. in_order_legal events (suc come) closed sheet.patches o) (λ o. in_order_legal events come closed [] o))
    where
      by_same : (x : Bool)
          → MatchBool x ((closed ≡ false) × (chunk_id ≡ come) × (sheet : Sheet) × (slice_get sheets come ≡ Some sheet) × (chunk ≡ sheet.chunk)
          × InOrder sheets q (suc come) closed sheet.patches events) (InOrder sheets q come closed [] events)
          → ((sheet : Sheet) → InOrder sheets q (suc come) closed sheet.patches events → IsLegal (suc come) closed sheet.patches events)
          → (InOrder sheets q come closed [] events → IsLegal come closed [] events)
          → MatchBool x ((closed ≡ false) × (chunk_id ≡ come) × IsComplete sheets (sheet_patches (drop come sheets)) come chunk
          × Legal sheets q (suc come) closed (sheet_patches (drop come sheets)) events) (Legal sheets q come closed (sheet_patches (drop come sheets)) events)
      by_same true h here rest =
          let is = completes come h.2 h.3 in (
            h.0,
            h.1,
            record {
              sheet = h.2;
              there = h.3;
              same = h.4;
              completes = subst (λ (c : Chunk). Completes (sheet_patches (drop come sheets)) come c.awaits c.fragments h.2.written) (sym h.4) is.completes;
              some = subst (λ (c : Chunk). 0 < length c.fragments) (sym h.4) is.some;
            },
            subst (λ (ps : List Patch). Legal sheets q (suc come) closed ps events) (sym (patches_next sheets come h.2 h.3)) (here h.2 h.5),
          )
      by_same false h here rest = rest h
  in_order_legal (ArrivesInPart other chunk_id chunk ∷ events) come closed due order =
      none_due come closed due (ArrivesInPart other chunk_id chunk ∷ events) order.0 (by_same (other == q) order.1 (λ o. in_order_legal events come closed [] o))
    where
      by_same : (x : Bool)
          → MatchBool x ((closed ≡ false) × (chunk_id ≡ come) × IsPart sheets come chunk × InOrder sheets q come closed [] events) (InOrder sheets q come closed [] events)
          → (InOrder sheets q come closed [] events → IsLegal come closed [] events)
          → MatchBool x ((closed ≡ false) × (chunk_id ≡ come) × IsPart sheets come chunk × Legal sheets q come closed (sheet_patches (drop come sheets)) events)
          (Legal sheets q come closed (sheet_patches (drop come sheets)) events)
      by_same true h rest = (h.0, h.1, h.2, rest h.3)
      by_same false h rest = rest h
  in_order_legal (Patched other patches ∷ events) come closed due order = by_same (other == q) order (λ o. in_order_legal events come closed [] o)
    where
      by_same : (x : Bool) → MatchBool x ((patches ≡ due) × InOrder sheets q come closed [] events) ((due ≡ []) × InOrder sheets q come closed [] events)
          → (InOrder sheets q come closed [] events → IsLegal come closed [] events)
          → MatchBool x ((left : List Patch) × (due ++ sheet_patches (drop come sheets) ≡ patches ++ left) × Legal sheets q come closed left events)
          (Legal sheets q come closed (due ++ sheet_patches (drop come sheets)) events)
      by_same true h rest = (sheet_patches (drop come sheets), ap (λ (ps : List Patch). ps ++ sheet_patches (drop come sheets)) (sym h.0), rest h.1)
      by_same false h rest = none_due come closed due events h.0 (rest h.1)
  in_order_legal (Committed image patches ∷ events) come closed due order =
      none_due come closed due (Committed image patches ∷ events) order.0 (order.1, in_order_legal events come closed [] order.2)
  in_order_legal (Closed other ∷ events) come closed due order =
      none_due come closed due (Closed other ∷ events) order.0
      (by_same (other == q) order.1 (λ o. in_order_legal events come true [] o) (λ o. in_order_legal events come closed [] o))
    where
      by_same : (x : Bool) → MatchBool x ((closed ≡ false) × InOrder sheets q come true [] events) (InOrder sheets q come closed [] events)
          → (InOrder sheets q come true [] events → IsLegal come true [] events) → (InOrder sheets q come closed [] events → IsLegal come closed [] events)
          → MatchBool x ((closed ≡ false) × Legal sheets q come true (sheet_patches (drop come sheets)) events) (Legal sheets q come closed (sheet_patches (drop come sheets)) events)
      by_same true h here rest = (h.0, here h.1)
      by_same false h here rest = rest h
  in_order_legal (Read other limit ∷ events) come closed due order =
      none_due come closed due (Read other limit ∷ events) order.0 (in_order_legal events come closed [] order.1)

pub every_writer_is_told : EveryWriterIsTold
every_writer_is_told size calls pages room policy sequences q record_size events account =
    let full : AreFull size pages = are_full size pages account.cut.full in
    first_told (reverse (packets_of calls)) (packets_in (all_parts (sheets_of (newest_goes_on (packets_of calls)) pages))) q
    (delivered_to q (empty_buffer room policy sequences) events)
    (calls_are_paired size calls pages account.possible account.cut)
    (calls_in_turn calls account.possible)
    (every_history_tells (sheets_of (newest_goes_on (packets_of calls)) pages) q record_size room policy sequences events
    (sheets_agree size (newest_goes_on (packets_of calls)) pages full account.cut.flags)
    account.known account.start
    (in_order_legal (sheets_of (newest_goes_on (packets_of calls)) pages)
    (each_completes size (newest_goes_on (packets_of calls)) pages (open_chunks (kept_of (packets_of calls)) (chains_of pages)) full account.cut.patches.behind account.cut.patches.lasts account.cut.patches.placed)
    q events 0 false [] account.order))
