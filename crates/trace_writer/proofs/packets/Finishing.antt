-- A packet ends in the held chunk.
use Rattle.std.proofs.Common.{◌≡◌, ◌∙◌, ℕ, ◌+◌, ◌-◌, ◌≤◌, Bool, true, false, not, ◌&&◌, ◌||◌, ◌==◌, nat_lt, nat_le, Option, None, Some, is_some, List, [], ◌∷◌, ◌++◌, length, map, reverse, vec_len, refl, sym, ap, subst, arith, append_assoc, append-nil, length-append}
use Rattle.std.proofs.lemmas.Bool.Decides.{nat_tests}
use Rattle.std.proofs.lemmas.List.{length-reverse}
use Rattle.wire_varint.specs.Varint.{redundant}
use Rattle.trace_base.specs.declared.limits.TheConstants.{MAX_FRAGMENTS}
use Rattle.trace_model.specs.Calls.{Finished}
use Rattle.trace_model.specs.Images.{with_bytes}
use Rattle.trace_model.specs.Packets.{Packet, Text, Account, account_of, finished_packet, open_places, is_lost, is_writing, newest_is_lost}
use Rattle.trace_model.specs.Pages.{Page, framed, laid}
use Rattle.trace_model.specs.Row.{Piece, Chain}
use Rattle.trace_model.specs.Cut.{is_fresh, is_end, newest_piece, last_piece, left_behind}
use Rattle.commit_body.specs.declared.hole.Hole.{Hole}
use Rattle.commit_body.specs.Pending.{Pending}
use Rattle.chunk_plain.specs.Setup.{spot}
use Rattle.chunk_plain.specs.Setup.{Setup}
use Rattle.chunk_plain.specs.Views.{Held, WriterView}
use Rattle.chunk_plain.specs.Steps.{notes_call}
use Rattle.cut_steps.specs.RawChains.{raw_chains, page_with, offset_behind, current_piece, current_pieces, current_chain, chains_before, earlier_pieces}
use Rattle.cut_steps.specs.Pending.{hole_at}
use Rattle.cut_steps.specs.Writing.{IsWriting}
use Rattle.cut_steps.specs.Between.{IsBetween}
use Rattle.wire_varint.proofs.Lengths.{length-redundant}
use Rattle.cut_steps.proofs.ChainLemmas.{chains_end}
use Rattle.cut_steps.proofs.BetweenCuts.{between_finished}
use Rattle.trace_writer.specs.declared.chunk.HeldChunk.{HeldChunk}
use Rattle.trace_writer.specs.declared.fragment.OpenFragment.{OpenFragment}
use Rattle.trace_writer.specs.declared.state.State.TheVariants.{Between, Writing}
use Rattle.trace_writer.specs.declared.state.Writer.{Writer}
use Rattle.trace_writer.specs.Drafted.{IsDrafted}
use Rattle.trace_writer.specs.Site.{Site, site_of}
use Rattle.trace_writer.specs.Agreement.{Agrees, StateAgrees, IsWritingInto, IsInPacketOf, is_begun, open_message_count, counted}
use Rattle.trace_writer.proofs.accounts.Accounts.{dropped_in, dropped-changed, account_one, on_newest-packets, begun_is, none_open as no_places_open}
use Rattle.trace_writer.specs.Filled.{frames, IsFilled, HasByte}
use Rattle.trace_writer.specs.States.{InFragment, IsBehind, has_room}
use Rattle.trace_writer.proofs.holding.Payloads.{written_ended, written_offset, continues_with_byte}

-- A list that ends with this element has a first one.
pub record HasFirst {A : Type 0} (xs : List A) : Type 0 where
  pub first : A
  pub others : List A
  pub is : xs ≡ first ∷ others

pub has_first : {A : Type 0} (done : List A) (now : A) → HasFirst (done ++ now ∷ [])
has_first [] now = record { first = now; others = []; is = refl }
has_first (first ∷ done) now = record { first = first; others = done ++ now ∷ []; is = refl }

last_of : (pieces : List Piece) (piece : Piece) → last_piece (pieces ++ piece ∷ []) ≡ Some piece
last_of [] piece = refl
last_of (first ∷ []) piece = refl
last_of (first ∷ next ∷ pieces) piece = last_of (next ∷ pieces) piece

-- whether room is left is said alike of the fragment and of the chunk
room_is : (size at count : ℕ) → at ≤ size → count ≤ 1023
    → (nat_lt (size - at) 12 || (count == 1023)) ≡ not (nat_le (at + 12) size && nat_lt count MAX_FRAGMENTS)
room_is size at count within few = grind (arith, nat_tests)

-- what the chunk has once the fragment's size is put in
pub record IsEnded (fragment : OpenFragment) (chunk : HeldChunk) : Type 0 where
  pub chunk_is : chunk.held.chunk ≡ fragment.held.chunk
  pub position : chunk.held.position ≡ fragment.held.position
  pub bytes : chunk.held.body.payload.items ≡ with_bytes fragment.held.body.payload.items fragment.start (redundant (fragment.at - fragment.start - 4))
  pub len : vec_len chunk.held.body.payload ≡ vec_len fragment.held.body.payload
  pub sealed : chunk.sealed ≡ fragment.start
  pub at : chunk.at ≡ fragment.at
  pub count : chunk.count ≡ fragment.count
  pub continues : chunk.continues ≡ fragment.continues

-- no length is open in a packet's own level
none_open : (holes : List Hole) → reverse holes ≡ [] → holes ≡ []
none_open holes e = nothing holes (sym (length-reverse holes) ∙ ap length e)
  where
    nothing : (xs : List Hole) → length xs ≡ 0 → xs ≡ []
    nothing [] n = refl
    nothing (x ∷ xs) n = absurd (omega (arith, n))

pub kept_is : (packet : Packet) → packet.kept ≡ true → packet.given_up ≡ None → is_lost (finished_packet packet) ≡ false
kept_is packet kept given = ap (λ (b : Bool). not b || is_some packet.given_up) kept ∙ ap (λ (o : Option Text). is_some o) given

-- Fragments in a payload

frames_behind : (done : List (List ℕ)) (now rest : List ℕ) → frames (done ++ now ∷ []) ++ rest ≡ frames done ++ (redundant (length now) ++ (now ++ rest))
frames_behind [] now rest = ap (λ (xs : List ℕ). xs ++ rest) (append-nil (framed now)) ∙ append_assoc (redundant (length now)) now rest
frames_behind (bytes ∷ done) now rest =
    append_assoc (framed bytes) (frames (done ++ now ∷ [])) rest
    ∙ ap (λ (xs : List ℕ). framed bytes ++ xs) (frames_behind done now rest)
    ∙ sym (append_assoc (framed bytes) (frames done) (redundant (length now) ++ (now ++ rest)))

-- fragments of a page without the drop mark
pub laid_all : (fragments : List (List ℕ)) (rest : List ℕ) → laid false fragments rest ≡ frames fragments ++ rest
laid_all [] rest = refl
laid_all (bytes ∷ []) rest = ap (λ (xs : List ℕ). xs ++ rest) (sym (append-nil (framed bytes)))
laid_all (bytes ∷ next ∷ others) rest =
    ap (λ (xs : List ℕ). framed bytes ++ xs) (laid_all (next ∷ others) rest) ∙ sym (append_assoc (framed bytes) (frames (next ∷ others)) rest)

-- Packet p is finished, and the chunk is as it was left with its last fragment's size put in.
pub finished_behind : (site : Site) (packet : Packet) (older : List Packet) (view new : WriterView) (pending : Pending) (fragment : OpenFragment) (chunk : HeldChunk)
    → fragment.at ≤ vec_len fragment.held.body.payload → fragment.count ≤ 1023
    → open_places packet.text.levels ≡ [] → new.begun ≡ view.begun → IsEnded fragment chunk
    → InFragment site packet older view pending fragment [] → HasByte fragment
    → IsBehind site (record { packets = finished_packet packet ∷ older; flushed = false }) new pending chunk
finished_behind site packet older view new pending fragment chunk within few no_lengths same ended inside byte =
    let pages : List Page = inside.pages in
    let done : List (List ℕ) = inside.done in
    let now : List ℕ = inside.now in
    let fragments : List (List ℕ) = done ++ now ∷ [] in
    let page : Page = page_with fragment.continues fragments in
    let w = inside.writing in
    let holes_none : reverse pending.holes ≡ [] =
    w.holes_are ∙ ap (λ (ls : List (List ℕ)). map (hole_at (current_pieces pages fragment.continues done now)) (open_places ls)) (sym w.levels)
    ∙ ap (map (hole_at (current_pieces pages fragment.continues done now))) no_lengths in
    let writing : IsWriting site.size packet older pages fragment.continues done now pending.unsent [] [] =
    subst (λ (holes : List Hole). IsWriting site.size packet older pages fragment.continues done now pending.unsent holes []) holes_none w in
    let between : IsBetween site.size (finished_packet packet ∷ older) pages (raw_chains (pages ++ page ∷ [])) pending.unsent (offset_behind 4 fragments) =
    between_finished site.size packet older pages page done now pending.unsent writing refl refl refl
    (continues_with_byte fragment fragment.held.body.payload.items done now inside.written byte) in
    let chains : raw_chains (pages ++ page ∷ []) ≡ current_chain pages fragment.continues done now ∷ chains_before pages fragment.continues done =
    chains_end site.size pages page done now w.full w.flags refl w.continues_is (λ e. absurd (cc)) in
    let newest : newest_piece (raw_chains (pages ++ page ∷ [])) ≡ Some (current_piece pages done now) =
    ap newest_piece chains ∙ last_of (earlier_pieces pages fragment.continues done) (current_piece pages done now) in
    let written = inside.written in
    let size_is : vec_len fragment.held.body.payload ≡ site.size = inside.whole in
    let offset : offset_behind 4 done ≡ fragment.start + 4 = written_offset fragment.held.body.payload.items fragment.start fragment.at fragment.count done now written in
    let left : left_behind site.size (current_piece pages done now) ≡ site.size - chunk.at =
    ap (λ (n : ℕ). site.size - n) (omega (arith, offset, written.at_is, ended.at)) in
    let count : length done + 1 ≡ chunk.count = omega (arith, written.count_is, ended.count) in
    let fresh : is_fresh site.size false (finished_packet packet ∷ older) (raw_chains (pages ++ page ∷ [])) ≡ not (has_room site.size chunk) =
    fresh_is (finished_packet packet) (raw_chains (pages ++ page ∷ [])) (kept_is packet w.kept w.given_up)
    ∙ ap (is_end site.size) newest
    ∙ ap (λ (n : ℕ). nat_lt n 12 || (length done + 1 == 1023)) left
    ∙ ap (λ (n : ℕ). nat_lt (site.size - chunk.at) 12 || (n == 1023)) count
    ∙ room_is site.size chunk.at chunk.count (omega (arith, within, size_is, ended.at)) (omega (arith, few, ended.count)) in
    let parts : HasFirst fragments = has_first done now in
    record {
      pages = pages;
      first = parts.first;
      others = parts.others;
      completed = inside.completed;
      draft = inside.draft;
      begun = same ∙ inside.begun ∙ ap (λ (n : ℕ). inside.completed ++ Held n inside.draft ∷ []) (sym ended.chunk_is);
      before = done;
      last = now;
      parts = sym parts.is;
      sealed = ended.sealed ∙ written.start_is;
      drafted = subst (λ (n : ℕ). IsDrafted inside.draft n chunk.continues done) (sym ended.count)
          (subst (λ (b : Bool). IsDrafted inside.draft fragment.count b done) (sym ended.continues) inside.drafted);
      shown = inside.shown;
      position = ended.position ∙ inside.position;
      sized = ap (λ (n : ℕ). (spot site.setup n).payload_size) ended.chunk_is ∙ inside.sized;
      whole = ended.len ∙ inside.whole;
      filled = subst (IsFilled chunk.held.body.payload.items chunk.at chunk.count) parts.is (record {
        rest = written.rest;
        payload_is = ended.bytes ∙ written_ended fragment.held.body.payload.items fragment.start fragment.at fragment.count done now written
            ∙ laid_all fragments written.rest;
        at_is = ended.at ∙ written.at_is ∙ omega (arith, written.start_is, frames_long done now);
        count_is = sym count ∙ omega (arith, length-append done (now ∷ []));
      });
      holes = none_open pending.holes holes_none;
      few = omega (arith, inside.room);
      continues_is = ended.continues ∙ w.continues_is;
      between = subst (λ (b : Bool). IsBetween site.size (finished_packet packet ∷ older) pages (raw_chains (pages ++ page_with b (parts.first ∷ parts.others) ∷ [])) pending.unsent (offset_behind 4 (parts.first ∷ parts.others))) (sym ended.continues)
          (subst (λ (fs : List (List ℕ)). IsBetween site.size (finished_packet packet ∷ older) pages (raw_chains (pages ++ page_with fragment.continues fs ∷ [])) pending.unsent (offset_behind 4 fs)) parts.is between);
      fresh = subst (λ (b : Bool). is_fresh site.size false (finished_packet packet ∷ older) (raw_chains (pages ++ page_with b (parts.first ∷ parts.others) ∷ [])) ≡ not (has_room site.size chunk)) (sym ended.continues)
          (subst (λ (fs : List (List ℕ)). is_fresh site.size false (finished_packet packet ∷ older) (raw_chains (pages ++ page_with fragment.continues fs ∷ [])) ≡ not (has_room site.size chunk)) parts.is fresh);
    }
  where
    fresh_is : (finished : Packet) (chains : List Chain) → is_lost finished ≡ false
        → is_fresh site.size false (finished ∷ older) chains ≡ is_end site.size (newest_piece chains)
    fresh_is finished chains e = ap (λ (b : Bool). b || is_end site.size (newest_piece chains)) e

    frames_long : (done : List (List ℕ)) (now : List ℕ) → length (frames (done ++ now ∷ [])) ≡ length (frames done) + 4 + length now
    frames_long done now =
        ap length (sym (append-nil (frames (done ++ now ∷ []))) ∙ frames_behind done now [])
        ∙ length-append (frames done) (redundant (length now) ++ (now ++ []))
        ∙ omega (arith, length-append (redundant (length now)) (now ++ []), length-redundant (length now), length-append now [])

-- A writer that agrees with its view finishes the packet that it writes.
pub finish_writing : (setup : Setup) (place : ℕ) (view new : WriterView) (writer after : Writer) (fragment : OpenFragment) (chunk : HeldChunk)
    → fragment.at ≤ vec_len fragment.held.body.payload → fragment.count ≤ 1023
    → writer.state ≡ Writing fragment → is_begun writer.packet ≡ true → open_message_count writer.packet ≡ 0 → new ≡ notes_call view Finished → IsEnded fragment chunk
    → after ≡ record writer { state = Between chunk; packet = None; follows_loss = false }
    → Agrees setup place view writer → Agrees setup place new after
finish_writing setup place view new writer after fragment chunk within few state begun depth notes ended is agrees =
    let site : Site = site_of setup place writer.route in
    let account : Account = account_of view.calls in
    let w : IsWritingInto site account view writer.pending fragment = subst (StateAgrees site account view writer.pending) state agrees.state in
    let open_one = begun_is writer.packet begun in
    let in_packet : IsInPacketOf (w.packet ∷ w.older) (Some open_one.value) =
    subst (λ (ps : List Packet). IsInPacketOf ps (Some open_one.value)) w.packets (subst (IsInPacketOf account.packets) open_one.is agrees.packet) in
    let no_lengths : open_places w.packet.text.levels ≡ [] = no_places_open open_one.value w.packet in_packet.1 (sym (ap open_message_count open_one.is) ∙ depth) in
    let later : Account = record { packets = finished_packet w.packet ∷ w.older; flushed = false } in
    let calls : account_of new.calls ≡ later =
    ap (λ (v : WriterView). account_of v.calls) notes ∙ account_one view.calls Finished ∙ on_newest-packets finished_packet account w.packet w.older w.packets w.unflushed in
    let behind : IsBehind site later new writer.pending chunk =
    finished_behind site w.packet w.older view new writer.pending fragment chunk within few no_lengths (ap (λ (v : WriterView). v.begun) notes) ended w.inside w.byte in
    subst (Agrees setup place new) (sym is) (record {
      route = agrees.route;
      state = subst (λ (a : Account). IsBehind site a new writer.pending chunk) (sym calls) behind;
      packet = ap (λ (a : Account). is_writing a.packets) calls;
      inside = refl;
      follows = λ e. sym (ap (λ (a : Account). newest_is_lost a.packets) calls ∙ kept_is w.packet w.inside.writing.kept w.inside.writing.given_up);
      begun = agrees.begun ∙ ap counted (ap (λ (ps : List Packet). length ps) w.packets ∙ sym (ap (λ (a : Account). length a.packets) calls));
      dropped = agrees.dropped ∙ ap counted (ap dropped_in w.packets ∙ sym (dropped-changed w.packet (finished_packet w.packet) w.older refl) ∙ sym (ap (λ (a : Account). dropped_in a.packets) calls));
    })
