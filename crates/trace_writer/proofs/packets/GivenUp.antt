-- A packet is given up: its holes are closed with 0 one after another, and then its chunk is completed with the drop mark.
use Rattle.std.proofs.Common.{◌≡◌, ◌≢◌, ◌∙◌, ℕ, ◌+◌, ◌-◌, ◌<◌, ◌≤◌, not, ◌||◌, Bool, true, false, Option, Some, List, [], ◌∷◌, ◌++◌, length, reverse, vec_len, refl, sym, ap, subst, arith, length-append}
use Rattle.std.specs.Prelude.{IsTrue, is_some}
use Rattle.std.proofs.lemmas.List.{reverse-append}
use Rattle.std.proofs.lemmas.Bool.{false≢true, eq-eqb}
use Rattle.trace_base.specs.declared.limits.TheConstants.{MAX_OPEN_HOLES}
use Rattle.wire_varint.specs.Varint.{redundant}
use Rattle.trace_model.specs.Images.{Patch, with_bytes}
use Rattle.trace_model.specs.Fragments.{drop_mark}
use Rattle.trace_model.specs.Packets.{Packet, Text, flat, open_length, open_places, body_of, with_more, given_up_packet}
use Rattle.trace_model.specs.Pages.{Page, laid}
use Rattle.trace_model.specs.Sequences.{is_among}
use Rattle.trace_model.specs.Row.{bytes_of, Piece, Chain}
use Rattle.trace_model.specs.Cut.{IsWellFormedPage, is_fresh, is_end, newest_piece}
use Rattle.wire_varint.proofs.Lengths.{length-redundant}
use Rattle.commit_body.specs.declared.hole.Hole.{Hole}
use Rattle.commit_body.specs.declared.closed.Closed.{Closed}
use Rattle.commit_body.specs.declared.closed.Closed.TheVariants.{Here, Later}
use Rattle.commit_body.specs.Patches.{hole_chunks, holes_outside, with_lasts}
use Rattle.commit_body.specs.Pending.{Pending, ClosesHole, patch_for}
use Rattle.commit_body.proofs.InnerFirst.{inner_first_closed}
use Rattle.chunk_plain.specs.declared.tokens.Held.{Held as HeldToken}
use Rattle.chunk_plain.specs.Setup.{spot}
use Rattle.chunk_plain.specs.Views.{BegunChunk, Held, Completed, WriterView, Draft}
use Rattle.chunk_plain.specs.Drafts.{head_at}
use Rattle.chunk_plain.specs.Steps.{completes}
use Rattle.cut_steps.specs.RawChains.{raw_chains, earlier_pieces, current_piece, offset_behind}
use Rattle.cut_steps.specs.Pending.{patches_so_far}
use Rattle.cut_steps.specs.GivingUp.{GivesUp}
use Rattle.cut_steps.specs.Writing.{with_open}
use Rattle.cut_steps.proofs.Growing.{long_bytes}
use Rattle.cut_steps.proofs.WritingSteps.{with_more-none}
use Rattle.cut_steps.proofs.GrowingPlaces.{length_bytes-one}
use Rattle.cut_steps.proofs.StepLemmas.{last_runs_on-one}
use Rattle.cut_steps.proofs.GivesUpSteps.{gives_up, gives_up_nested, gives_up_stands_here, gives_up_here, gives_up_later, gave_up}
use Rattle.cut_steps.proofs.Places.{with_bytes_right}
use Rattle.trace_writer.specs.declared.chunk.HeldChunk.{HeldChunk}
use Rattle.trace_writer.specs.declared.fragment.OpenFragment.{OpenFragment}
use Rattle.trace_writer.specs.Fragment.{IsSameChunk, IsPutInto, AnswersClose, Closes}
use Rattle.trace_writer.specs.Headers.{completed_chunk, flags_value, held_head}
use Rattle.trace_writer.specs.Site.{Site}
use Rattle.trace_writer.specs.Filled.{frames, HasOpenFragment, ShowsPages}
use Rattle.trace_writer.specs.Drafted.{IsFit}
use Rattle.trace_base.specs.declared.policy.WriterPolicy.{WriterPolicy}
use Rattle.trace_base.specs.declared.policy.WriterPolicy.TheVariants.{Drops, Stalls, StallsThenDrops}
use Rattle.trace_writer.specs.Flows.{StopsAs, StopsHere, with_loss}
use Rattle.trace_writer.specs.Helping.{loses}
use Rattle.trace_writer.specs.States.{InFragment, IsIdle}
use Rattle.trace_writer.proofs.holding.Holes.{outside_here, outside_later}
use Rattle.trace_writer.proofs.holding.Payloads.{written_moved, written_offset, written_long, written_put, written_dropped, lost_page, full_lost}
use Rattle.trace_writer.proofs.holding.Seats.{shows_long, content_is, shows_one, completed_here, draft_here}
use Rattle.trace_writer.proofs.holding.Publishing.{fits}
use Rattle.trace_writer.proofs.packets.InPlace.{same_both}

-- The packet, of which this text was to be written, is being given up in the fragment.
pub record GivesIn (site : Site) (packet : Packet) (older : List Packet) (pages : List Page) (done : List (List ℕ)) (pending : Pending) (fragment : OpenFragment) (text : Text) : Type 0 where
  pub now : List ℕ
  pub written : HasOpenFragment fragment.held.body.payload.items fragment.start fragment.at fragment.count done now
  pub giving : GivesUp site.size packet older pages fragment.continues done now pending.unsent (reverse pending.holes) text

-- So it is for each packet that was written in it, whatever was to be written, once some of its holes are closed.
pub record ClosesIn (site : Site) (view : WriterView) (before pending : Pending) (first fragment : OpenFragment) : Type 0 where
  pub same : IsSameChunk first fragment
  pub at : fragment.at ≡ first.at
  pub room : length pending.unsent + holes_outside first.held.position pending.holes ≤ MAX_OPEN_HOLES
  pub gives : (packet : Packet) (older : List Packet) (text : Text) (w : InFragment site packet older view before first [])
      → GivesUp site.size packet older w.pages first.continues w.done w.now before.unsent (reverse before.holes) text
      → GivesIn site packet older w.pages w.done pending fragment text

pub closes_none : (site : Site) (packet : Packet) (older : List Packet) (view : WriterView) (pending : Pending) (fragment : OpenFragment)
    → InFragment site packet older view pending fragment [] → ClosesIn site view pending pending fragment fragment
closes_none site packet older view pending fragment inside = record {
  same = record { chunk = refl; position = refl; patches = refl; start = refl; count = refl; continues = refl; len = refl };
  at = refl;
  room = inside.room;
  gives = λ packet older text w giving. record { now = w.now; written = w.written; giving = giving };
}

-- One hole

-- it is in the held chunk
gives_here : (site : Site) (packet : Packet) (older : List Packet) (pages : List Page) (done : List (List ℕ)) (old new : Pending) (fragment next : OpenFragment) (text : Text)
    (offset : ℕ) (bytes : List ℕ) → ClosesHole old new fragment.held.position 0 (Here offset bytes) → IsPutInto fragment next offset bytes → next.at ≡ fragment.at
    → fragment.held.position ≡ length pages → GivesIn site packet older pages done old fragment text → GivesIn site packet older pages done new next text
gives_here site packet older pages done old new fragment next text offset bytes closes put at position g =
    let hole : Hole = closes.hole in
    let rest : List Hole = reverse new.holes in
    let held : hole.chunk_id ≡ length pages = closes.outcome.0 ∙ position in
    let giving : GivesUp site.size packet older pages fragment.continues done g.now old.unsent (hole ∷ rest) text =
    subst (λ (hs : List Hole). GivesUp site.size packet older pages fragment.continues done g.now old.unsent hs text)
    (inner_first_closed old new fragment.held.position 0 (Here offset bytes) closes) g.giving in
    let stands : (offset_behind 4 done ≤ hole.offset) × (hole.offset + 4 ≤ offset_behind 4 done + length g.now) =
    gives_up_stands_here site.size packet older pages fragment.continues done g.now old.unsent hole rest text held giving in
    let begins : offset_behind 4 done ≡ fragment.start + 4 =
    written_offset fragment.held.body.payload.items fragment.start fragment.at fragment.count done g.now g.written in
    let put_in : List ℕ = with_bytes g.now (hole.offset - offset_behind 4 done) (redundant 0) in
    let closed : GivesUp site.size packet older pages fragment.continues done put_in old.unsent rest text =
    gives_up_here site.size packet older pages fragment.continues done g.now old.unsent hole rest text held giving in
    let written : HasOpenFragment (with_bytes fragment.held.body.payload.items hole.offset (redundant 0)) fragment.start fragment.at fragment.count done put_in =
    written_put fragment.held.body.payload.items fragment.start fragment.at fragment.count done g.now hole.offset (redundant 0) (length-redundant 0)
    (omega (arith, stands.0, begins)) (omega (arith, stands.1, begins, g.written.at_is)) g.written in
    let payload : next.held.body.payload.items ≡ with_bytes fragment.held.body.payload.items hole.offset (redundant 0) =
    put.payload
    ∙ ap (λ (n : ℕ). with_bytes fragment.held.body.payload.items n bytes) closes.outcome.1
    ∙ ap (λ (four : List ℕ). with_bytes fragment.held.body.payload.items hole.offset four) closes.outcome.2 in
    record {
      now = put_in;
      written = written_moved fragment.start next.start fragment.at next.at fragment.count next.count done put_in payload put.same.start at put.same.count written;
      giving = subst (λ (c : Bool). GivesUp site.size packet older pages c done put_in new.unsent rest text) (sym put.same.continues)
          (subst (λ (unsent : List Patch). GivesUp site.size packet older pages fragment.continues done put_in unsent rest text) (sym closes.outcome.3) closed);
    }

-- it is in an earlier one
gives_later : (site : Site) (packet : Packet) (older : List Packet) (pages : List Page) (done : List (List ℕ)) (old new : Pending) (fragment : OpenFragment) (text : Text)
    → ClosesHole old new fragment.held.position 0 Later → fragment.held.position ≡ length pages
    → GivesIn site packet older pages done old fragment text → GivesIn site packet older pages done new fragment text
gives_later site packet older pages done old new fragment text closes position g =
    let hole : Hole = closes.hole in
    let giving : GivesUp site.size packet older pages fragment.continues done g.now old.unsent (hole ∷ reverse new.holes) text =
    subst (λ (hs : List Hole). GivesUp site.size packet older pages fragment.continues done g.now old.unsent hs text)
    (inner_first_closed old new fragment.held.position 0 Later closes) g.giving in
    record {
      now = g.now;
      written = g.written;
      giving = subst (λ (unsent : List Patch). GivesUp site.size packet older pages fragment.continues done g.now unsent (reverse new.holes) text) (sym closes.outcome.1)
          (gives_up_later site.size packet older pages fragment.continues done g.now old.unsent hole (reverse new.holes) text
          (λ same. closes.outcome.0 (same ∙ sym position)) giving);
    }

closes_one : (site : Site) (view : WriterView) (before old new : Pending) (first fragment next : OpenFragment) (answer : Closed)
    → ClosesHole old new fragment.held.position 0 answer → Closes fragment next answer → next.at ≡ fragment.at
    → ClosesIn site view before old first fragment → ClosesIn site view before new first next
closes_one site view before old new first fragment next (Here offset bytes) closes put at h =
    let held : closes.hole.chunk_id ≡ first.held.position = closes.outcome.0 ∙ h.same.position in
    let outside : holes_outside first.held.position old.holes ≡ holes_outside first.held.position new.holes =
    ap (holes_outside first.held.position) closes.innermost ∙ outside_here first.held.position new.holes closes.hole held in
    let unsent : length new.unsent ≡ length old.unsent = ap length closes.outcome.3 in
    record {
      same = same_both first fragment next h.same put.same;
      at = at ∙ h.at;
      room = omega (arith, h.room, outside, unsent);
      gives = λ packet older text w giving.
          gives_here site packet older w.pages w.done old new fragment next text offset bytes closes put at (h.same.position ∙ w.position) (h.gives packet older text w giving);
    }
closes_one site view before old new first fragment next Later closes put at h =
    let apart : closes.hole.chunk_id ≢ first.held.position = λ same. closes.outcome.0 (same ∙ sym h.same.position) in
    let outside : holes_outside first.held.position old.holes ≡ holes_outside first.held.position new.holes + 1 =
    ap (holes_outside first.held.position) closes.innermost ∙ outside_later first.held.position new.holes closes.hole apart in
    let unsent : length new.unsent ≡ length old.unsent + 1 = ap length closes.outcome.1 ∙ length-append old.unsent (patch_for closes.hole 0 ∷ []) in
    subst (ClosesIn site view before new first) (sym put) (record {
      same = h.same;
      at = h.at;
      room = omega (arith, h.room, outside, unsent);
      gives = λ packet older text w giving.
          gives_later site packet older w.pages w.done old new fragment text closes (h.same.position ∙ w.position) (h.gives packet older text w giving);
    })

pub closes_further : (site : Site) (view : WriterView) (before old new : Pending) (first fragment next : OpenFragment) → AnswersClose fragment next old new 0
    → ClosesIn site view before old first fragment → ClosesIn site view before new first next
closes_further site view before old new first fragment next answers h =
    closes_one site view before old new first fragment next answers.answer answers.closes answers.put answers.at h

-- What there is to close

-- a nested length behind what stands
given_nested : (site : Site) (packet : Packet) (older : List Packet) (view : WriterView) (pending : Pending) (fragment : OpenFragment)
    (w : InFragment site packet older view pending fragment [])
    → GivesUp site.size packet older w.pages fragment.continues w.done w.now pending.unsent (reverse pending.holes) (with_open (with_more [] packet)).text
given_nested site packet older view pending fragment w =
    gives_up_nested site.size packet older w.pages fragment.continues w.done w.now [] pending.unsent (reverse pending.holes) [] (λ n none. absurd (false≢true none)) w.writing

-- a hole of the held chunk is inside its payload
pub closes_within : (site : Site) (packet : Packet) (older : List Packet) (view : WriterView) (before pending : Pending) (first fragment : OpenFragment)
    (w : InFragment site packet older view before first []) → ClosesIn site view before pending first fragment
    → (hole : Hole) (outer : List Hole) → pending.holes ≡ outer ++ hole ∷ [] → hole.chunk_id ≡ fragment.held.position
    → hole.offset + 4 ≤ vec_len fragment.held.body.payload
closes_within site packet older view before pending first fragment w h hole outer innermost here =
    let g : GivesIn site packet older w.pages w.done pending fragment (with_open (with_more [] packet)).text =
    h.gives packet older (with_open (with_more [] packet)).text w (given_nested site packet older view before first w) in
    let holes : reverse pending.holes ≡ hole ∷ reverse outer = ap reverse innermost ∙ reverse-append outer (hole ∷ []) in
    let stands : (offset_behind 4 w.done ≤ hole.offset) × (hole.offset + 4 ≤ offset_behind 4 w.done + length g.now) =
    gives_up_stands_here site.size packet older w.pages fragment.continues w.done g.now pending.unsent hole (reverse outer) (with_open (with_more [] packet)).text
    (here ∙ h.same.position ∙ w.position)
    (subst (λ (hs : List Hole). GivesUp site.size packet older w.pages fragment.continues w.done g.now pending.unsent hs (with_open (with_more [] packet)).text) holes g.giving) in
    let begins : offset_behind 4 w.done ≡ fragment.start + 4 =
    written_offset fragment.held.body.payload.items fragment.start fragment.at fragment.count w.done g.now g.written in
    let within : fragment.at ≤ vec_len fragment.held.body.payload = fragment.within in
    omega (arith, stands.1, begins, g.written.at_is, within)

-- The end

pub length_body : (site : Site) (packet : Packet) (older : List Packet) (view : WriterView) (pending : Pending) (fragment : OpenFragment) (coming : List ℕ)
    (w : InFragment site packet older view pending fragment coming)
    → length (body_of packet) ≡ length (bytes_of (earlier_pieces w.pages fragment.continues w.done)) + length w.now
length_body site packet older view pending fragment coming w =
    let earlier : List Piece = earlier_pieces w.pages fragment.continues w.done in
    let piece : Piece = current_piece w.pages w.done w.now in
    ap (λ (levels : List (List ℕ)). length (flat open_length levels)) w.writing.levels
    ∙ sym (long_bytes (patches_so_far w.pages (reverse pending.holes) pending.unsent) w.writing.first earlier piece (w.writing.level ∷ w.writing.outer) w.writing.bytes)
    ∙ length_bytes-one earlier piece

-- the chunk in which a packet was given up, as it is completed
pub record EndsGivenUp (site : Site) (old new : WriterView) (before after : Pending) (first : OpenFragment) : Type 0 where
  pub pending : Pending
  pub last : OpenFragment
  pub closes : ClosesIn site old before pending first last
  pub none_open : pending.holes ≡ []
  pub calls : new.calls ≡ old.calls
  pub none_left : after ≡ record pending { unsent = [] }
  pub payload : List ℕ
  pub payload_is : payload ≡ with_bytes last.held.body.payload.items last.start drop_mark
  pub begun : (completed : List BegunChunk) (draft : Draft) → old.begun ≡ completed ++ Held first.held.chunk draft ∷ [] → first.held.position ≡ length completed
      → new.begun ≡ completed ++ Completed first.held.chunk (completed_chunk site.place first.held.position first.count (flags_value first.continues false false) payload (with_lasts [] pending.unsent) site.buffer) ∷ []

fresh_lost : (size : ℕ) (packet : Packet) (older : List Packet) (text : Text) (chains : List Chain) → packet.kept ≡ true → packet.given_up ≡ Some text
    → is_fresh size false (packet ∷ older) chains ≡ true
fresh_lost size packet older text chains kept given =
    ap (λ (k : Bool). (not k || is_some packet.given_up) || is_end size (newest_piece chains)) kept
    ∙ ap (λ (t : Option Text). is_some t || is_end size (newest_piece chains)) given

pub given_idle : (site : Site) (packet next : Packet) (older : List Packet) (old new : WriterView) (before after : Pending) (first : OpenFragment) (text : Text)
    → next.kept ≡ packet.kept → next.follows_flush ≡ packet.follows_flush → next.given_up ≡ Some text
    → vec_len first.held.body.payload < first.at + 4
    → (first.at < site.size → IsTrue (is_among (length (body_of packet)) (open_places text.levels)))
    → (w : InFragment site packet older old before first [])
    → GivesUp site.size packet older w.pages first.continues w.done w.now before.unsent (reverse before.holes) text
    → EndsGivenUp site old new before after first → IsIdle site (record { packets = next ∷ older; flushed = false }) new after
given_idle site packet next older old new before after first text kept_is flush given filled comes w giving e =
    let g : GivesIn site packet older w.pages w.done e.pending e.last text = e.closes.gives packet older text w giving in
    let same : IsSameChunk first e.last = e.closes.same in
    let written : HasOpenFragment e.last.held.body.payload.items first.start first.at first.count w.done g.now =
    written_moved e.last.start first.start e.last.at first.at e.last.count first.count w.done g.now refl (sym same.start) (sym e.closes.at) (sym same.count) g.written in
    let long : length e.last.held.body.payload.items ≡ site.size = let whole = e.last.held.body.payload.ok.0 in omega (arith, same.len, w.whole, whole) in
    let few : first.count ≤ 1023 = first.few in
    let fragments : List (List ℕ) = w.done ++ (g.now ++ written.rest) ∷ [] in
    let page : Page = lost_page first.continues fragments (with_lasts [] e.pending.unsent) in
    let pages : List Page = w.pages ++ page ∷ [] in
    let full : IsWellFormedPage site.size page =
    full_lost e.last.held.body.payload.items first.start first.at first.count site.size w.done g.now first.continues (with_lasts [] e.pending.unsent) written long few in
    let unused : length written.rest + first.at ≡ site.size =
    let all : length e.last.held.body.payload.items ≡ first.at + length written.rest =
    written_long e.last.held.body.payload.items first.start first.at first.count w.done g.now written in omega (arith, long) in
    let size_is : vec_len first.held.body.payload ≡ site.size = w.whole in
    let now_long : length g.now ≡ length w.now = omega (arith, written.at_is, w.written.at_is) in
    let place : length (bytes_of (earlier_pieces w.pages first.continues w.done)) + length g.now ≡ length (body_of packet) =
    ap (λ (n : ℕ). length (bytes_of (earlier_pieces w.pages first.continues w.done)) + n) now_long
    ∙ sym (length_body site packet older old before first [] w) in
    let gives : GivesUp site.size packet older w.pages first.continues w.done g.now e.pending.unsent [] text =
    subst (λ (hs : List Hole). GivesUp site.size packet older w.pages first.continues w.done g.now e.pending.unsent (reverse hs) text) e.none_open
    (subst (λ (c : Bool). GivesUp site.size packet older w.pages c w.done g.now e.pending.unsent (reverse e.pending.holes) text) same.continues g.giving) in
    let kept : next.kept ≡ true = kept_is ∙ w.writing.kept in
    let last_is : first.held.position ≡ 0 + length w.pages = omega (arith, w.position) in
    let count : first.count ≡ length fragments = written.count_is ∙ sym (length-append w.done ((g.now ++ written.rest) ∷ [])) in
    let laid_is : e.payload ≡ laid true fragments [] =
    e.payload_is
    ∙ ap (λ (n : ℕ). with_bytes e.last.held.body.payload.items n drop_mark) same.start
    ∙ written_dropped e.last.held.body.payload.items first.start first.at first.count w.done g.now written in
    record {
      pages = pages;
      shown = subst (λ (begun : List BegunChunk). ShowsPages site 0 begun pages)
          (sym (e.begun w.completed w.draft w.begun (w.position ∙ sym (shows_long site 0 w.completed w.pages w.shown))))
          (shows_one site 0 first.held.position first.held.chunk w.completed w.pages _ page w.shown last_is (content_is site first.held.position first.count e.payload page count laid_is));
      holes = ap (λ (p : Pending). p.holes) e.none_left ∙ e.none_open;
      unsent = ap (λ (p : Pending). p.unsent) e.none_left;
      ended = last_runs_on-one w.pages false page;
      between = gave_up site.size packet next older w.pages page w.done g.now written.rest e.pending.unsent text refl refl refl refl full
          (omega (arith, unused, filled, size_is))
          (λ some. subst (λ (n : ℕ). IsTrue (is_among n (open_places text.levels))) (sym place) (comes (omega (arith, unused, some))))
          kept flush given gives;
      fresh = fresh_lost site.size next older text (raw_chains pages) kept given;
    }

-- the view of the writer once the chunk is completed
abbrev completion : Site → WriterView → List ℕ → List Patch → ℕ → ℕ → ℕ → Bool → List Hole → WriterView
completion site old payload unsent chunk position count continues holes =
    completes old chunk position
    (completed_chunk site.place position count (flags_value continues false false) payload (with_lasts (hole_chunks holes) unsent) site.buffer)

none_open : (holes : List Hole) → length holes ≤ 0 → holes ≡ []
none_open [] none = refl
none_open (hole ∷ holes) none = absurd (omega arith)

pub ends_given_up : (site : Site) (old new : WriterView) (before mid after : Pending) (first last : OpenFragment) (chunk : HeldChunk)
    → ClosesIn site old before mid first last → length mid.holes ≤ 0
    → chunk.held ≡ record last.held { body = record last.held.body { payload = chunk.held.body.payload } }
    → chunk.held.body.payload.items ≡ with_bytes last.held.body.payload.items last.start drop_mark
    → chunk.count ≡ last.count → chunk.continues ≡ last.continues
    → after ≡ record mid { unsent = [] }
    → new ≡ completion site old chunk.held.body.payload.items mid.unsent chunk.held.chunk chunk.held.position chunk.count chunk.continues mid.holes
    → EndsGivenUp site old new before after first
ends_given_up site old new before mid after first last chunk closes none held bytes count_is continues_is after_is view =
    let holes : mid.holes ≡ [] = none_open mid.holes none in
    let payload : List ℕ = chunk.held.body.payload.items in
    let chunk_is : chunk.held.chunk ≡ first.held.chunk = ap (λ (h : HeldToken). h.chunk) held ∙ closes.same.chunk in
    let position_is : chunk.held.position ≡ first.held.position = ap (λ (h : HeldToken). h.position) held ∙ closes.same.position in
    let is : new ≡ completion site old payload mid.unsent first.held.chunk first.held.position first.count first.continues [] =
    view
    ∙ ap (λ (c : ℕ). completion site old payload mid.unsent c chunk.held.position chunk.count chunk.continues mid.holes) chunk_is
    ∙ ap (λ (i : ℕ). completion site old payload mid.unsent first.held.chunk i chunk.count chunk.continues mid.holes) position_is
    ∙ ap (λ (n : ℕ). completion site old payload mid.unsent first.held.chunk first.held.position n chunk.continues mid.holes) (count_is ∙ closes.same.count)
    ∙ ap (λ (c : Bool). completion site old payload mid.unsent first.held.chunk first.held.position first.count c mid.holes) (continues_is ∙ closes.same.continues)
    ∙ ap (λ (hs : List Hole). completion site old payload mid.unsent first.held.chunk first.held.position first.count first.continues hs) holes in
    record {
      pending = mid;
      last = last;
      closes = closes;
      none_open = holes;
      calls = ap (λ (v : WriterView). v.calls) view;
      none_left = after_is;
      payload = payload;
      payload_is = bytes;
      begun = λ completed draft begun at. completed_here old new completed [] first.held.chunk first.held.position draft _ begun at is;
    }

-- What is lost of the packet

next_among : (packet : Packet) (level : List ℕ) (outer : List (List ℕ)) → packet.text.levels ≡ level ∷ outer
    → IsTrue (is_among (length (body_of packet)) (open_places ([] ∷ packet.text.levels)))
next_among packet level outer levels =
    subst (λ (ls : List (List ℕ)). IsTrue (is_among (length (flat open_length ls)) (open_places ([] ∷ ls)))) (sym levels)
    (ap (λ (b : Bool). b || is_among (length (flat open_length (level ∷ outer))) (open_places (level ∷ outer)))
    (eq-eqb (length (flat open_length (level ∷ outer))) (length (flat open_length (level ∷ outer))) refl))

-- a writer that loses packets stops by giving its own up
stops_lost : (policy : WriterPolicy) (site : Site) (packet : Packet) (older : List Packet) (view : WriterView) (pending : Pending) → loses policy ≡ true
    → IsIdle site (with_loss packet older) view pending → StopsAs policy site packet older view pending
stops_lost Drops site packet older view pending losing idle = idle
stops_lost Stalls site packet older view pending losing idle = absurd (false≢true losing)
stops_lost (StallsThenDrops tries) site packet older view pending losing idle = idle

pub loses_rest : (site : Site) (old new : WriterView) (before after : Pending) (first : OpenFragment) → loses site.policy ≡ true
    → vec_len first.held.body.payload < first.at + 4 → EndsGivenUp site old new before after first → StopsHere site old new before after first
loses_rest site old new before after first losing filled e = record {
  calls = e.calls;
  full = λ ends packet older rest some w.
      stops_lost site.policy site (with_more rest packet) older new after losing
      (given_idle site packet (given_up_packet (with_more rest packet)) older old new before after first (with_more rest packet).text refl refl refl filled
      (λ less. absurd (omega (arith, ends, less))) w
      (gives_up site.size packet older w.pages first.continues w.done w.now rest before.unsent (reverse before.holes) some w.writing) e);
  full_nested = λ ends packet older rest w.
      stops_lost site.policy site (with_open (with_more rest packet)) older new after losing
      (given_idle site packet (given_up_packet (with_open (with_more rest packet))) older old new before after first (with_open (with_more rest packet)).text refl refl refl filled
      (λ less. absurd (omega (arith, ends, less))) w
      (gives_up_nested site.size packet older w.pages first.continues w.done w.now rest before.unsent (reverse before.holes) [] (λ n none. absurd (false≢true none)) w.writing) e);
  length_next = λ packet older w.
      stops_lost site.policy site (with_open packet) older new after losing
      (given_idle site packet (given_up_packet (with_open packet)) older old new before after first (with_open packet).text refl refl refl filled
      (λ less. next_among packet w.writing.level w.writing.outer w.writing.levels) w
      (subst (λ (p : Packet). GivesUp site.size packet older w.pages first.continues w.done w.now before.unsent (reverse before.holes) (with_open p).text) (with_more-none packet)
      (given_nested site packet older old before first w)) e);
}

-- The chunk that is to be completed

pub dropped_fits : (site : Site) (packet : Packet) (older : List Packet) (view : WriterView) (before mid : Pending) (first last : OpenFragment) (chunk : HeldChunk)
    → InFragment site packet older view before first [] → ClosesIn site view before mid first last
    → chunk.held ≡ record last.held { body = record last.held.body { payload = chunk.held.body.payload } }
    → chunk.held.body.payload.items ≡ with_bytes last.held.body.payload.items last.start drop_mark
    → vec_len chunk.held.body.payload ≡ vec_len last.held.body.payload → chunk.sealed ≡ last.start → chunk.count ≡ last.count
    → IsFit site.setup view chunk (chunk.count - 1) (vec_len chunk.held.body.payload)
dropped_fits site packet older view before mid first last chunk w h held bytes len sealed count_is =
    let position : chunk.held.position ≡ first.held.position = ap (λ (t : HeldToken). t.position) held ∙ h.same.position in
    let chunk_is : chunk.held.chunk ≡ first.held.chunk = ap (λ (t : HeldToken). t.chunk) held ∙ h.same.chunk in
    let start : last.start ≡ length (frames w.done) = h.same.start ∙ w.written.start_is in
    let g : GivesIn site packet older w.pages w.done mid last (with_open (with_more [] packet)).text =
    h.gives packet older (with_open (with_more [] packet)).text w (given_nested site packet older view before first w) in
    let behind : List ℕ = g.written.four ++ (g.now ++ g.written.rest) in
    let payload : chunk.held.body.payload.items ≡ frames w.done ++ with_bytes behind 0 drop_mark =
    bytes ∙ ap (λ (xs : List ℕ). with_bytes xs last.start drop_mark) g.written.payload_is
    ∙ ap (λ (n : ℕ). with_bytes (frames w.done ++ behind) n drop_mark) (omega (arith, start))
    ∙ with_bytes_right (frames w.done) behind drop_mark 0 in
    let long : length chunk.held.body.payload.items ≡ vec_len chunk.held.body.payload = sym chunk.held.body.payload.ok.0 in
    fits site.setup view chunk w.draft first.continues w.completed [] (chunk.count - 1) first.count (vec_len chunk.held.body.payload) w.done w.done
    (with_bytes behind 0 drop_mark) (with_bytes behind 0 drop_mark)
    (w.begun ∙ ap (λ (c : ℕ). w.completed ++ Held c w.draft ∷ []) (sym chunk_is))
    (position ∙ w.position ∙ sym (shows_long site 0 w.completed w.pages w.shown))
    (len ∙ h.same.len ∙ w.whole ∙ sym w.sized ∙ ap (λ (c : ℕ). (spot site.setup c).payload_size) (sym chunk_is))
    payload (omega (arith, count_is, h.same.count, w.written.count_is)) (omega (arith, long, ap length payload, length-append (frames w.done) (with_bytes behind 0 drop_mark)))
    payload (sealed ∙ start) w.drafted

pub dropped_head : (site : Site) (packet : Packet) (older : List Packet) (view : WriterView) (before mid : Pending) (first last : OpenFragment) (chunk : HeldChunk)
    → InFragment site packet older view before first [] → ClosesIn site view before mid first last
    → chunk.held ≡ record last.held { body = record last.held.body { payload = chunk.held.body.payload } }
    → chunk.count ≡ last.count → chunk.continues ≡ last.continues → head_at view chunk.held.position ≡ held_head chunk.count chunk.continues
dropped_head site packet older view before mid first last chunk w h held count_is continues_is =
    let position : chunk.held.position ≡ first.held.position = ap (λ (t : HeldToken). t.position) held ∙ h.same.position in
    ap (λ (d : Draft). d.head) (draft_here view w.completed [] first.held.chunk chunk.held.position w.draft w.begun (position ∙ w.position ∙ sym (shows_long site 0 w.completed w.pages w.shown)))
    ∙ w.drafted.head
    ∙ ap (λ (n : ℕ). held_head n first.continues) (sym (count_is ∙ h.same.count))
    ∙ ap (λ (c : Bool). held_head chunk.count c) (sym (continues_is ∙ h.same.continues))
