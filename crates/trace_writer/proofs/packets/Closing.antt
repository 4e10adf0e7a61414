-- A nested message of the packet that is written ends.
use Rattle.std.proofs.Common.{◌≡◌, ◌≢◌, ◌∙◌, ℕ, ◌+◌, ◌-◌, ◌*◌, ◌<◌, ◌≤◌, ◌==◌, cond, Bool, true, false, List, [], ◌∷◌, ◌++◌, length, map, reverse, Option, Some, refl, sym, ap, subst, arith, length-append}
use Rattle.std.specs.Prelude.{vec_len}
use Rattle.std.proofs.lemmas.List.{reverse-append}
use Rattle.wire_varint.specs.Varint.{redundant}
use Rattle.wire_varint.proofs.Lengths.{length-redundant}
use Rattle.trace_model.specs.Calls.{Ended}
use Rattle.trace_model.specs.Images as model
use Rattle.trace_model.specs.Images.{with_bytes}
use Rattle.trace_model.specs.Packets.{Packet, account_of, flat, open_length, open_places, front_of, with_nested_ended}
use Rattle.trace_model.specs.Row.{Piece, bytes_of}
use Rattle.commit_body.specs.declared.closed.Closed.{Closed}
use Rattle.commit_body.specs.declared.closed.Closed.TheVariants.{Here, Later}
use Rattle.commit_body.specs.declared.hole.Hole.{Hole}
use Rattle.commit_body.specs.Patches.{holes_outside}
use Rattle.commit_body.specs.Pending.{Pending, ClosesHole, patch_for}
use Rattle.commit_body.proofs.InnerFirst.{inner_first_closed}
use Rattle.chunk_plain.specs.Setup.{Setup, spot}
use Rattle.chunk_plain.specs.Views.{WriterView}
use Rattle.chunk_plain.specs.Steps.{notes_call}
use Rattle.cut_steps.specs.RawChains.{earlier_pieces, current_piece, offset_behind}
use Rattle.cut_steps.specs.Pending.{hole_at, patches_so_far}
use Rattle.cut_steps.specs.Growth.{HasBytes}
use Rattle.cut_steps.specs.Writing.{IsWriting}
use Rattle.cut_steps.proofs.OpenLengths.{StandsEarlier, stands_earlier}
use Rattle.cut_steps.proofs.EndingSteps.{Holes, holes_from, HasInner, writing_inner, hole_stands_here, writing_ended_here, writing_ended_later}
use Rattle.trace_writer.specs.declared.fragment.OpenFragment.{OpenFragment}
use Rattle.trace_writer.specs.declared.packet.OpenPacket.{OpenPacket}
use Rattle.trace_writer.specs.declared.state.State.{State}
use Rattle.trace_writer.specs.declared.state.State.TheVariants.{Writing, Dropping}
use Rattle.trace_writer.specs.declared.state.Writer.{Writer}
use Rattle.trace_writer.specs.Site.{Site, site_of}
use Rattle.trace_writer.specs.Filled.{frames, HasOpenFragment, HasByte}
use Rattle.trace_writer.specs.Fragment.{AnswersClose, Closes}
use Rattle.trace_writer.specs.Ids.{HasIds}
use Rattle.trace_writer.specs.States.{InFragment}
use Rattle.trace_writer.specs.Agreement.{IsMeasured, IsWritingInto, IsInPacketOf, Agrees}
use Rattle.trace_writer.proofs.holding.Holes.{outside_here, outside_later}
use Rattle.trace_writer.proofs.holding.Payloads.{written_moved, written_offset, written_put}
use Rattle.trace_writer.proofs.packets.Putting.{held_same, drafted_same}
use Rattle.trace_writer.proofs.accounts.Measuring.{Last, last_of, Innermost, innermost, long_ended, measured_ended}
use Rattle.trace_writer.proofs.accounts.Agreeing.{Grows, IsOpen, open_newest, writing_agrees, agrees_writing, agrees_dropping}
use Rattle.trace_writer.proofs.packets.RunOn.{inside_seen}

-- Where the innermost hole is

-- a chunk without earlier pieces of the packet has all its holes
pub earlier_hole : (size : ℕ) (packet : Packet) (older : List Packet) (pages : List _) (continues : Bool) (done : List (List ℕ)) (now : List ℕ)
    (unsent : List model.Patch) (hole : Hole) (holes : List Hole) (coming : List ℕ)
    → IsWriting size packet older pages continues done now unsent (hole ∷ holes) coming → hole.chunk_id ≢ length pages
    → 0 < length (bytes_of (earlier_pieces pages continues done))
earlier_hole size packet older pages continues done now unsent hole holes coming w apart =
    let inner : HasInner packet.text.levels = writing_inner size packet older pages continues done now unsent hole holes coming w in
    let earlier : List Piece = earlier_pieces pages continues done in
    let piece : Piece = current_piece pages done now in
    let same : w.level ∷ w.outer ≡ inner.level ∷ inner.outer ∷ inner.others = sym w.levels ∙ inner.is in
    let bytes : HasBytes (patches_so_far pages (hole ∷ holes) unsent) w.first earlier piece (inner.level ∷ inner.outer ∷ inner.others) =
    subst (λ (ls : List (List ℕ)). HasBytes (patches_so_far pages (hole ∷ holes) unsent) w.first earlier piece ls) same w.bytes in
    let of : Holes (earlier ++ piece ∷ []) hole holes inner.outer inner.others =
    holes_from (earlier ++ piece ∷ []) hole holes inner.level inner.outer inner.others
    (w.holes_are ∙ ap (λ (ls : List (List ℕ)). map (hole_at (earlier ++ piece ∷ [])) (open_places ls)) same) in
    let there : StandsEarlier earlier piece (length (flat open_length (inner.outer ∷ inner.others))) hole.chunk_id hole.offset =
    stands_earlier (patches_so_far pages (hole ∷ holes) unsent) w.first earlier piece inner.level inner.outer inner.others hole.chunk_id hole.offset bytes of.chunk of.offset apart in
    omega (arith, there.before)

-- then the fragment is the first of its chunk, and has a byte
pub some_now : (pages : List _) (continues : Bool) (done : List (List ℕ)) (now : List ℕ) (start at : ℕ) → 0 < length (bytes_of (earlier_pieces pages continues done))
    → start ≡ length (frames done) → at ≡ start + 4 + length now → (continues ≡ true → start ≡ 0 → 4 < at) → 0 < length now
some_now pages true [] now start at earlier start_is at_is byte = omega (arith, byte refl start_is, at_is, start_is)
some_now pages true (one ∷ done) now start at earlier start_is at_is byte = absurd (omega (arith, earlier))
some_now pages false done now start at earlier start_is at_is byte = absurd (omega (arith, earlier))

-- The step

-- the innermost message's hole is closed with its length
pub inside_ended : (site : Site) (packet : Packet) (older : List Packet) (view : WriterView) (before after : Pending) (fragment next : OpenFragment)
    (level outer : List ℕ) (others : List (List ℕ)) → packet.text.levels ≡ level ∷ outer ∷ others → HasByte fragment
    → AnswersClose fragment next before after (length level)
    → InFragment site packet older view before fragment [] → InFragment site (with_nested_ended packet) older view after next []
inside_ended site packet older view before after fragment next level outer others levels byte closed i =
    by_answer closed.answer closed.closes closed.put
  where
    by_answer : (answer : Closed) → ClosesHole before after fragment.held.position (length level) answer → Closes fragment next answer
        → InFragment site (with_nested_ended packet) older view after next []
    by_answer (Here offset bytes) closes put =
        let hole : Hole = closes.hole in
        let holes : reverse before.holes ≡ hole ∷ reverse after.holes = inner_first_closed before after fragment.held.position (length level) (Here offset bytes) closes in
        let writing : IsWriting site.size packet older i.pages fragment.continues i.done i.now before.unsent (hole ∷ reverse after.holes) [] =
        subst (λ (hs : List Hole). IsWriting site.size packet older i.pages fragment.continues i.done i.now before.unsent hs []) holes i.writing in
        let held : hole.chunk_id ≡ length i.pages = closes.outcome.0 ∙ i.position in
        let place : offset ≡ hole.offset = closes.outcome.1 in
        let unsent : after.unsent ≡ before.unsent = closes.outcome.3 in
        let four : length bytes ≡ 4 = ap length closes.outcome.2 ∙ length-redundant (length level) in
        let stands : (offset_behind 4 i.done ≤ hole.offset) × (hole.offset + 4 ≤ offset_behind 4 i.done + length i.now) =
        hole_stands_here site.size packet older i.pages fragment.continues i.done i.now before.unsent hole (reverse after.holes) [] level outer others levels held writing in
        let behind : offset_behind 4 i.done ≡ fragment.start + 4 =
        written_offset fragment.held.body.payload.items fragment.start fragment.at fragment.count i.done i.now i.written in
        let later : List ℕ = with_bytes i.now (hole.offset - offset_behind 4 i.done) (redundant (length level)) in
        let now_is : with_bytes i.now (offset - offset_behind 4 i.done) bytes ≡ later =
        ap (λ (n : ℕ). with_bytes i.now (n - offset_behind 4 i.done) bytes) place
        ∙ ap (λ (bs : List ℕ). with_bytes i.now (hole.offset - offset_behind 4 i.done) bs) closes.outcome.2 in
        let outside : holes_outside next.held.position after.holes ≡ holes_outside fragment.held.position before.holes =
        ap (λ (n : ℕ). holes_outside n after.holes) put.same.position
        ∙ sym (ap (holes_outside fragment.held.position) closes.innermost ∙ outside_here fragment.held.position after.holes hole closes.outcome.0) in
        let many : length before.holes ≡ length after.holes + 1 = ap length closes.innermost ∙ length-append after.holes (hole ∷ []) in
        record {
          pages = i.pages;
          done = i.done;
          now = later;
          completed = i.completed;
          draft = i.draft;
          begun = held_same view.begun i.completed fragment.held.chunk next.held.chunk i.draft put.same.chunk i.begun;
          drafted = drafted_same i.draft fragment.count next.count fragment.continues next.continues i.done put.same.count put.same.continues i.drafted;
          shown = i.shown;
          position = put.same.position ∙ i.position;
          sized = ap (λ (n : ℕ). (spot site.setup n).payload_size) put.same.chunk ∙ i.sized;
          whole = put.same.len ∙ i.whole;
          written = subst (λ (xs : List ℕ). HasOpenFragment next.held.body.payload.items next.start next.at next.count i.done xs) now_is
              (written_moved fragment.start next.start fragment.at next.at fragment.count next.count i.done (with_bytes i.now (offset - offset_behind 4 i.done) bytes)
              put.payload put.same.start closed.at put.same.count
              (written_put fragment.held.body.payload.items fragment.start fragment.at fragment.count i.done i.now offset bytes four
              (omega (arith, stands.0, behind, place)) (omega (arith, stands.1, behind, place, i.written.at_is)) i.written));
          few = omega (arith, i.few, many);
          room = omega (arith, i.room, outside, ap length unsent);
          writing = subst (λ (b : Bool). IsWriting site.size (with_nested_ended packet) older i.pages b i.done later after.unsent (reverse after.holes) []) (sym put.same.continues)
              (subst (λ (ps : List model.Patch). IsWriting site.size (with_nested_ended packet) older i.pages fragment.continues i.done later ps (reverse after.holes) []) (sym unsent)
              (writing_ended_here site.size packet older i.pages fragment.continues i.done i.now before.unsent hole (reverse after.holes) [] level outer others levels held writing));
        }
    by_answer Later closes put =
        let hole : Hole = closes.hole in
        let holes : reverse before.holes ≡ hole ∷ reverse after.holes = inner_first_closed before after fragment.held.position (length level) Later closes in
        let writing : IsWriting site.size packet older i.pages fragment.continues i.done i.now before.unsent (hole ∷ reverse after.holes) [] =
        subst (λ (hs : List Hole). IsWriting site.size packet older i.pages fragment.continues i.done i.now before.unsent hs []) holes i.writing in
        let apart : hole.chunk_id ≢ length i.pages = λ here. closes.outcome.0 (here ∙ sym i.position) in
        let unsent : after.unsent ≡ before.unsent ++ patch_for hole (length level) ∷ [] = closes.outcome.1 in
        let some : 0 < length i.now =
        some_now i.pages fragment.continues i.done i.now fragment.start fragment.at
        (earlier_hole site.size packet older i.pages fragment.continues i.done i.now before.unsent hole (reverse after.holes) [] writing apart)
        i.written.start_is i.written.at_is byte in
        let outside : holes_outside fragment.held.position before.holes ≡ holes_outside fragment.held.position after.holes + 1 =
        ap (holes_outside fragment.held.position) closes.innermost ∙ outside_later fragment.held.position after.holes hole closes.outcome.0 in
        let many : length before.holes ≡ length after.holes + 1 = ap length closes.innermost ∙ length-append after.holes (hole ∷ []) in
        let more : length after.unsent ≡ length before.unsent + 1 = ap length unsent ∙ length-append before.unsent (patch_for hole (length level) ∷ []) in
        subst (λ (f : OpenFragment). InFragment site (with_nested_ended packet) older view after f []) (sym put)
        (record {
          pages = i.pages;
          done = i.done;
          now = i.now;
          completed = i.completed;
          draft = i.draft;
          begun = i.begun;
          drafted = i.drafted;
          shown = i.shown;
          position = i.position;
          sized = i.sized;
          whole = i.whole;
          written = i.written;
          few = omega (arith, i.few, many);
          room = omega (arith, i.room, outside, more);
          writing = subst (λ (ps : List model.Patch). IsWriting site.size (with_nested_ended packet) older i.pages fragment.continues i.done i.now ps (reverse after.holes) []) (sym unsent)
              (writing_ended_later site.size packet older i.pages fragment.continues i.done i.now before.unsent hole (reverse after.holes) [] level outer others levels apart some writing);
        })

-- what a hole's closing needs of its place
pub hole_within : (site : Site) (packet : Packet) (older : List Packet) (view : WriterView) (pending : Pending) (fragment : OpenFragment) (hole : Hole) (outer : List Hole)
    → pending.holes ≡ outer ++ hole ∷ [] → hole.chunk_id ≡ fragment.held.position → InFragment site packet older view pending fragment []
    → hole.offset + 4 ≤ vec_len fragment.held.body.payload
hole_within site packet older view pending fragment hole outer holes held i =
    let turned : reverse pending.holes ≡ hole ∷ reverse outer = ap reverse holes ∙ reverse-append outer (hole ∷ []) in
    let writing : IsWriting site.size packet older i.pages fragment.continues i.done i.now pending.unsent (hole ∷ reverse outer) [] =
    subst (λ (hs : List Hole). IsWriting site.size packet older i.pages fragment.continues i.done i.now pending.unsent hs []) turned i.writing in
    let inner : HasInner packet.text.levels = writing_inner site.size packet older i.pages fragment.continues i.done i.now pending.unsent hole (reverse outer) [] writing in
    let stands : (offset_behind 4 i.done ≤ hole.offset) × (hole.offset + 4 ≤ offset_behind 4 i.done + length i.now) =
    hole_stands_here site.size packet older i.pages fragment.continues i.done i.now pending.unsent hole (reverse outer) [] inner.level inner.outer inner.others inner.is
    (held ∙ i.position) writing in
    let behind : offset_behind 4 i.done ≡ fragment.start + 4 =
    written_offset fragment.held.body.payload.items fragment.start fragment.at fragment.count i.done i.now i.written in
    omega (arith, stands.1, behind, i.written.at_is, fragment.within)

-- the closing moves nothing
record IsUnmoved (old new : OpenFragment) : Type 0 where
  start : new.start ≡ old.start
  at : new.at ≡ old.at
  continues : new.continues ≡ old.continues
  position : new.held.position ≡ old.held.position

unmoved : (fragment next : OpenFragment) (before after : Pending) (value : ℕ) → AnswersClose fragment next before after value → IsUnmoved fragment next
unmoved fragment next before after value closed = by_answer closed.answer closed.put
  where
    by_answer : (answer : Closed) → Closes fragment next answer → IsUnmoved fragment next
    by_answer (Here offset bytes) put = record { start = put.same.start; at = closed.at; continues = put.same.continues; position = put.same.position }
    by_answer Later put = record {
      start = ap (λ (f : OpenFragment). f.start) put;
      at = closed.at;
      continues = ap (λ (f : OpenFragment). f.continues) put;
      position = ap (λ (f : OpenFragment). f.held.position) put;
    }

-- The writer

grows_ended : Grows with_nested_ended 0
grows_ended = record {
  kept = λ packet. refl;
  follows_loss = λ packet. refl;
  follows_flush = λ packet. refl;
  given_up = λ packet. refl;
  finished = λ packet. refl;
  long = λ packet some. long_ended packet.text.levels packet.text.closed ∙ omega arith;
}

-- what ends the innermost message answers its length
pub record Pops (open_one later : OpenPacket) (value : ℕ) : Type 0 where
  pub some : 0 < length open_one.starts.items
  pub len : later.len ≡ open_one.len
  pub starts : (start : ℕ) (outs : List ℕ) → open_one.starts.items ≡ outs ++ start ∷ [] → (later.starts.items ≡ outs) × (value ≡ open_one.len - start)

pops_measured : (open_one later : OpenPacket) (value : ℕ) (packet : Packet) → Pops open_one later value → IsMeasured open_one packet
    → IsMeasured later (with_nested_ended packet)
pops_measured open_one later value packet pops m =
    let last : Last open_one.starts.items = last_of open_one.starts.items pops.some in
    measured_ended open_one later packet last.front last.last last.is pops.len (pops.starts last.last last.front last.is).0 m

pub pops_few : (open_one later : OpenPacket) (value : ℕ) → Pops open_one later value → value < 268435456
pops_few open_one later value pops =
    let last : Last open_one.starts.items = last_of open_one.starts.items pops.some in
    omega (arith, (pops.starts last.last last.front last.is).1, open_one.most)

-- each message starts within the packet
pub start_within : (packets : List Packet) (one : Option OpenPacket) (open_one : OpenPacket) → one ≡ Some open_one → IsInPacketOf packets one
    → (start : ℕ) (outs : List ℕ) → open_one.starts.items ≡ outs ++ start ∷ [] → start ≤ open_one.len
start_within packets one open_one is inside start outs starts_are =
    within packets (subst (λ (o : Option OpenPacket). IsInPacketOf packets o) is inside)
  where
    within : (ps : List Packet) → IsInPacketOf ps (Some open_one) → start ≤ open_one.len
    within [] h = absurd h
    within (packet ∷ older) h =
        let inner : Innermost packet.text.levels outs start (length (front_of packet)) =
        innermost packet.text.levels open_one.starts.items outs start (length (front_of packet)) starts_are h.1.starts in
        omega (arith, inner.long, h.1.len)

-- the message of a packet that is written ends
pub agrees_ended : (setup : Setup) (place : ℕ) (view new : WriterView) (before : Writer) (state : State) (fragment next : OpenFragment) (pending : Pending)
    (open_one later : OpenPacket) (value : ℕ) → Agrees setup place view before → before.state ≡ Writing fragment → state ≡ Writing next
    → before.packet ≡ Some open_one → Pops open_one later value → AnswersClose fragment next before.pending pending value → new ≡ notes_call view Ended
    → Agrees setup place new (record before { state = state; packet = Some later; pending = pending })
agrees_ended setup place view new before state fragment next pending open_one later value a was state_is packet_is pops closed new_is =
    let site : Site = site_of setup place before.route in
    let w : IsWritingInto site (account_of view.calls) view before.pending fragment = writing_agrees setup place view before fragment a was in
    let is : IsOpen view open_one w.packet = open_newest setup place view before open_one w.packet w.older a packet_is w.packets in
    let last : Last open_one.starts.items = last_of open_one.starts.items pops.some in
    let inner : Innermost w.packet.text.levels last.front last.last (length (front_of w.packet)) =
    innermost w.packet.text.levels open_one.starts.items last.front last.last (length (front_of w.packet)) last.is is.measured.starts in
    let value_is : value ≡ length inner.level = (pops.starts last.last last.front last.is).1 ∙ omega (arith, inner.long, is.measured.len) in
    let same : IsUnmoved fragment next = unmoved fragment next before.pending pending value closed in
    let inside : InFragment site (with_nested_ended w.packet) w.older view pending next [] =
    inside_ended site w.packet w.older view before.pending pending fragment next inner.level inner.outer inner.others inner.levels_are w.byte
    (subst (λ (n : ℕ). AnswersClose fragment next before.pending pending n) value_is closed) w.inside in
    subst (λ (s : State). Agrees setup place new (record before { state = s; packet = Some later; pending = pending })) (sym state_is)
    (agrees_writing setup place view new before fragment next pending open_one later w.packet w.older 0 with_nested_ended Ended a packet_is w.packets w.unflushed grows_ended
    (pops_measured open_one later value w.packet pops is.measured) (omega (arith, open_one.most)) (λ account. refl)
    (ap (λ (v : WriterView). v.calls) new_is)
    (inside_seen site (with_nested_ended w.packet) w.older view new pending next [] (ap (λ (v : WriterView). v.begun) new_is) inside)
    (λ continues first. subst (λ (n : ℕ). 4 < n) (sym same.at) (w.byte (sym same.continues ∙ continues) (sym same.start ∙ first)))
    w.ids
    (λ further h.
    subst (λ (n : ℕ). further + cond (next.start == 0) (n - 4) 277 ≤ (4294967294 - next.held.position) * 277) (sym same.at)
    (subst (λ (n : ℕ). further + cond (n == 0) (fragment.at - 4) 277 ≤ (4294967294 - next.held.position) * 277) (sym same.start)
    (subst (λ (n : ℕ). further + cond (fragment.start == 0) (fragment.at - 4) 277 ≤ (4294967294 - n) * 277) (sym same.position)
    (subst (λ (n : ℕ). HasIds fragment n) (omega arith) h)))))

-- and of one that is thrown away
pub agrees_ended_dropping : (setup : Setup) (place : ℕ) (view new : WriterView) (before : Writer) (state : State) (next_position : ℕ)
    (open_one later : OpenPacket) (value : ℕ) → Agrees setup place view before → before.state ≡ Dropping next_position → state ≡ Dropping next_position
    → before.packet ≡ Some open_one → Pops open_one later value → new ≡ notes_call view Ended
    → Agrees setup place new (record before { state = state; packet = Some later })
agrees_ended_dropping setup place view new before state next_position open_one later value a was state_is packet_is pops new_is =
    agrees_dropping setup place view new before state next_position open_one later 0 with_nested_ended Ended a was state_is packet_is grows_ended
    (λ packet some m. pops_measured open_one later value packet pops m) (λ account. refl) new_is
