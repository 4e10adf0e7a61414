-- The records of a clone tell of what the writers emitted: what is delivered of it is what one more read of a longer history delivers, of
-- which the first packet is marked anew.
use Rattle.std.proofs.Common.{◌≡◌, ◌∙◌, ℕ, zero, suc, ◌-◌, Bool, true, false, cond, List, [], ◌∷◌, ◌++◌, map, reverse, refl, sym, ap, subst, arith, append_assoc, append-nil, eq-eqb}
use Rattle.std.specs.Prelude.{◌||◌}
use Rattle.trace_base.specs.declared.policy.FullPolicy.{FullPolicy}
use Rattle.trace_model.specs.Calls.{Call}
use Rattle.trace_model.specs.Packets.{packets_of, kept_of, emissions_of}
use Rattle.trace_model.specs.Pages.{Page}
use Rattle.trace_model.specs.Sent.{open_chunks}
use Rattle.trace_model.specs.Written.{chains_of}
use Rattle.trace_model.specs.Cut.{newest_goes_on}
use Rattle.trace_model.specs.Record.{record_of}
use Rattle.trace_model.specs.Row.{Link, Slot, row_of, row_from_cursor, slot_of, slots_of, horizon}
use Rattle.trace_model.specs.Reads.{Delivery, delivered_by, delivered_of, delivers, is_marked, link_bytes, passed_by, turn_of}
use Rattle.trace_model.specs.Sequences.{Sequence, sequence_in}
use Rattle.trace_model.specs.Buffers.{Buffer, BufferRecord, empty_buffer}
use Rattle.trace_model.specs.History.{Event, Read, buffer_after, delivered_at, delivered_to, state_after}
use Rattle.trace_model.specs.Tells.{Tells}
use Rattle.delivery_laws.specs.DeliveryLaws.{IsAccountOf}
use Rattle.delivery_laws.specs.Histories.{AreTold}
use Rattle.delivery_laws.specs.Orders.{InOrder}
use Rattle.delivery_laws.specs.Sheets.{Sheet, WrittenPacket, all_parts, packets_in}
use Rattle.delivery_laws.specs.WriterSheets.{sheets_of}
use Rattle.delivery_laws.proofs.CallLemmas.{calls_in_turn, calls_are_paired}
use Rattle.delivery_laws.proofs.CompleteLemmas.{each_completes}
use Rattle.delivery_laws.proofs.EmissionLemmas.{first_told}
use Rattle.delivery_laws.proofs.HistoryLemmas.{every_history_tells}
use Rattle.delivery_laws.proofs.OrderLemmas.{in_order_legal}
use Rattle.delivery_laws.proofs.WrittenPackets.{AreFull, are_full, sheets_agree}
use Rattle.trace_buffer.specs.Clones.{none_delivered}

-- Of told packets the later ones are told by themselves, where the first of them is marked

abbrev pub mark_first : List Delivery → List Delivery
mark_first [] = []
mark_first (d ∷ ds) = record d { marked = true } ∷ ds

pub later_told : (packets : List WrittenPacket) (earlier later : List Delivery) (first : Bool) (next : ℕ) → AreTold packets first next (earlier ++ later) → AreTold packets true 0 (mark_first later)
later_told packets [] [] first next told = tt
later_told packets [] (d ∷ ds) first next told = (told.0, omega arith, told.2, refl, told.4)
later_told packets (e ∷ earlier) later first next told = later_told packets earlier later false (suc told.0) told.4

-- A read behind which nothing counts as delivered

-- of two buffers the same is seen of the sequence
pub record LooksSame (q : ℕ) (a b : Buffer) : Type 0 where
  pub live : a.live ≡ b.live
  pub state : sequence_in a.sequences q ≡ sequence_in b.sequences q

slots_same : (a b : Buffer) (s : Sequence) → a.live ≡ b.live → (id n : ℕ) → slots_of a s id n ≡ slots_of b s id n
slots_same a b s same id zero = refl
slots_same a b s same id (suc n) =
    ap (λ (live : List BufferRecord). slot_of (record a { live = live }) s id ∷ slots_of a s (suc id) n) same
    ∙ ap (λ (slots : List Slot). slot_of b s id ∷ slots) (slots_same a b s same (suc id) n)

row_same : (a b : Buffer) (s : Sequence) → a.live ≡ b.live → row_from_cursor a s ≡ row_from_cursor b s
row_same a b s same = ap (row_of s.closed s.cursor.chunk_id s.cursor.passed) (slots_same a b s same s.cursor.chunk_id (horizon s - s.cursor.chunk_id))

slots_reset : (b : Buffer) (s : Sequence) (id n : ℕ) → slots_of b (none_delivered s) id n ≡ slots_of b s id n
slots_reset b s id zero = refl
slots_reset b s id (suc n) = ap (λ (slots : List Slot). slot_of b s id ∷ slots) (slots_reset b s (suc id) n)

row_reset : (b : Buffer) (s : Sequence) → row_from_cursor b (none_delivered s) ≡ row_from_cursor b s
row_reset b s = ap (row_of s.closed s.cursor.chunk_id s.cursor.passed) (slots_reset b s s.cursor.chunk_id (horizon s - s.cursor.chunk_id))

pub delivered_same : (q limit : ℕ) (a b : Buffer) → LooksSame q a b → delivered_by a q limit ≡ delivered_by b q limit
delivered_same q limit a b same =
    ap (λ (s : Sequence). delivered_of (is_marked s) (passed_by limit (row_from_cursor a s))) same.state
    ∙ ap (λ (links : List Link). delivered_of (is_marked (sequence_in b.sequences q)) (passed_by limit links)) (row_same a b (sequence_in b.sequences q) same.live)

marked_first : (marked : Bool) (links : List Link) → delivered_of true links ≡ mark_first (delivered_of marked links)
marked_first marked [] = refl
marked_first marked (link ∷ links) = of (delivers (turn_of link)) (marked_first true links)
  where
    of : (x : Bool) → delivered_of true links ≡ mark_first (delivered_of true links)
        → cond x (record { body = link_bytes link; marked = true } ∷ delivered_of false links) (delivered_of true links)
        ≡ mark_first (cond x (record { body = link_bytes link; marked = marked } ∷ delivered_of false links) (delivered_of true links))
    of true rest = refl
    of false rest = rest

-- a consumer to whom nothing was delivered gets the same packets, and the first one is marked
pub reset_delivers : (q limit : ℕ) (a b : Buffer) → a.live ≡ b.live → sequence_in a.sequences q ≡ none_delivered (sequence_in b.sequences q)
    → delivered_by a q limit ≡ mark_first (delivered_by b q limit)
reset_delivers q limit a b live state =
    let s : Sequence = sequence_in b.sequences q in
    ap (λ (t : Sequence). delivered_of (is_marked t) (passed_by limit (row_from_cursor a t))) state
    ∙ ap (λ (m : Bool). delivered_of m (passed_by limit (row_from_cursor a (none_delivered s)))) (always s.missing)
    ∙ ap (λ (links : List Link). delivered_of true (passed_by limit links)) (row_reset a s ∙ row_same a b s live)
    ∙ marked_first (is_marked s) (passed_by limit (row_from_cursor b s))
  where
    always : (m : Bool) → (m || true) ≡ true
    always true = refl
    always false = refl

-- What one more read delivers

delivered_parts : (q : ℕ) (xs ys : List Event) (b : Buffer) → delivered_to q b (xs ++ ys) ≡ delivered_to q b xs ++ delivered_to q (state_after b xs) ys
delivered_parts q [] ys b = refl
delivered_parts q (x ∷ xs) ys b =
    ap (λ (ds : List Delivery). delivered_at q b x ++ ds) (delivered_parts q xs ys (buffer_after b x))
    ∙ sym (append_assoc (delivered_at q b x) (delivered_to q (buffer_after b x) xs) (delivered_to q (state_after (buffer_after b x) xs) ys))

read_here : (q limit : ℕ) (b : Buffer) → delivered_to q b (Read q limit ∷ []) ≡ delivered_by b q limit
read_here q limit b = ap (λ (x : Bool). cond x (delivered_by b q limit) [] ++ []) (eq-eqb q q refl) ∙ append-nil (delivered_by b q limit)

-- the records of deliveries of one sequence
abbrev pub told_of : ℕ → List Delivery → List (List ℕ)
told_of q deliveries = map (λ (delivery : Delivery). record_of delivery.body q delivery.marked) deliveries

-- An account's sheets, and one more read behind events in which its chunks come in order
module _ (size : ℕ) (calls : List Call) (pages : List Page) (room : ℕ) (policy : FullPolicy) (sequences : List Sequence) (q record_size : ℕ) (events : List Event)
    (account : IsAccountOf size calls pages sequences q record_size events) where
  abbrev pub sheets : List Sheet
  sheets = sheets_of (newest_goes_on (packets_of calls)) pages

  pub new_consumer : (limit : ℕ) (longer : List Event) → InOrder sheets q 0 false [] (longer ++ Read q limit ∷ [])
      → Tells (emissions_of calls) q (told_of q (mark_first (delivered_by (state_after (empty_buffer room policy sequences) longer) q limit)))
  new_consumer limit longer order =
      let start : Buffer = empty_buffer room policy sequences in
      let full : AreFull size pages = are_full size pages account.cut.full in
      let told = every_history_tells sheets q record_size room policy sequences (longer ++ Read q limit ∷ [])
      (sheets_agree size (newest_goes_on (packets_of calls)) pages full account.cut.flags)
      account.known account.start
      (in_order_legal sheets
      (each_completes size (newest_goes_on (packets_of calls)) pages (open_chunks (kept_of (packets_of calls)) (chains_of pages)) full account.cut.patches.behind account.cut.patches.lasts account.cut.patches.placed)
      q (longer ++ Read q limit ∷ []) 0 false [] order) in
      let parts : delivered_to q start (longer ++ Read q limit ∷ []) ≡ delivered_to q start longer ++ delivered_by (state_after start longer) q limit =
      delivered_parts q longer (Read q limit ∷ []) start
      ∙ ap (λ (ds : List Delivery). delivered_to q start longer ++ ds) (read_here q limit (state_after start longer)) in
      first_told (reverse (packets_of calls)) (packets_in (all_parts sheets)) q
      (mark_first (delivered_by (state_after start longer) q limit))
      (calls_are_paired size calls pages account.possible account.cut)
      (calls_in_turn calls account.possible)
      (later_told (packets_in (all_parts sheets)) (delivered_to q start longer) (delivered_by (state_after start longer) q limit) true 0
      (subst (AreTold (packets_in (all_parts sheets)) true 0) parts told))
