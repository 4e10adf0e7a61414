-- A writer that agrees with its view ends a lost packet, or its held chunk.
use Rattle.std.proofs.Common.{◌≡◌, ◌∙◌, ℕ, ◌+◌, ◌≤◌, true, false, inl, Option, None, List, [], ◌∷◌, ◌++◌, length, vec_len, ◌-◌, refl, sym, ap, subst, arith, append_assoc, length-append}
use Rattle.std.proofs.lemmas.List.Concat.{flat_map-append}
use Rattle.trace_model.specs.Calls.{Finished, Flushed}
use Rattle.trace_model.specs.Pages.{framed}
use Rattle.trace_model.specs.Packets.{Packet, Account, account_of, finished_packet, is_writing, newest_is_lost}
use Rattle.commit_body.specs.Pending.{Pending}
use Rattle.chunk_plain.specs.Setup.{Setup}
use Rattle.chunk_plain.specs.Views.{Draft, Held, WriterView}
use Rattle.chunk_plain.specs.Drafts.{head_at}
use Rattle.chunk_plain.specs.Steps.{completes, notes_call}
use Rattle.trace_writer.specs.declared.chunk.HeldChunk.{HeldChunk}
use Rattle.trace_writer.specs.declared.packet.OpenPacket.{OpenPacket}
use Rattle.trace_writer.specs.declared.route.Route.{Route}
use Rattle.trace_writer.specs.declared.state.State.{State}
use Rattle.trace_writer.specs.declared.state.State.TheVariants.{Idle, Between, Dropping}
use Rattle.trace_writer.specs.declared.state.Writer.{Writer}
use Rattle.trace_writer.specs.Headers.{held_head}
use Rattle.trace_writer.specs.Filled.{frames}
use Rattle.trace_writer.specs.Drafted.{IsFit}
use Rattle.trace_writer.specs.Site.{Site, IsRoute, site_of}
use Rattle.trace_writer.specs.States.{IsIdle, IsBehind}
use Rattle.trace_writer.specs.Agreement.{Agrees, StateAgrees, IsThrownAway, IsInPacketOf, is_begun, is_inside, counted}
use Rattle.trace_writer.proofs.accounts.Accounts.{dropped_in, dropped-changed, account_one, on_newest-packets, account_is}
use Rattle.trace_writer.proofs.holding.Seats.{draft_here, shows_long}
use Rattle.trace_writer.proofs.holding.Publishing.{fits}
use Rattle.trace_writer.proofs.stops.Idling.{newest_of, changed_idle, flushed_idle, completed_idle, behind_content, begun_one_more, flushed_fresh}

-- a lost packet is finished
pub finish_lost : (setup : Setup) (place : ℕ) (view new : WriterView) (writer after : Writer) (next_position : ℕ)
    → writer.state ≡ Dropping next_position → new ≡ notes_call view Finished
    → after ≡ record writer { state = Idle next_position; packet = None; follows_loss = true }
    → Agrees setup place view writer → Agrees setup place new after
finish_lost setup place view new writer after next_position state notes is agrees =
    let site : Site = site_of setup place writer.route in
    let account : Account = account_of view.calls in
    let w : (next_position ≡ length view.begun) × IsThrownAway site account view writer.pending = subst (StateAgrees site account view writer.pending) state agrees.state in
    let thrown : IsThrownAway site account view writer.pending = w.1 in
    let later : Packet = finished_packet thrown.packet in
    let calls : account_of new.calls ≡ newest_of later thrown.older =
    ap (λ (v : WriterView). account_of v.calls) notes ∙ account_one view.calls Finished
    ∙ on_newest-packets finished_packet account thrown.packet thrown.older thrown.packets thrown.unflushed in
    let begun : new.begun ≡ view.begun = ap (λ (v : WriterView). v.begun) notes in
    let before : IsIdle site (newest_of thrown.packet thrown.older) view writer.pending =
    subst (λ (a : Account). IsIdle site a view writer.pending) (account_is account thrown.packet thrown.older thrown.packets thrown.unflushed) thrown.idle in
    let idle : IsIdle site (newest_of later thrown.older) new writer.pending =
    changed_idle site thrown.packet later thrown.older view new writer.pending thrown.lost refl refl refl begun before in
    subst (Agrees setup place new) (sym is) (record {
      route = agrees.route;
      state = (w.0 ∙ sym (ap length begun), subst (λ (a : Account). IsIdle site a new writer.pending) (sym calls) idle);
      packet = ap (λ (a : Account). is_writing a.packets) calls;
      inside = refl;
      follows = λ e. sym (ap (λ (a : Account). newest_is_lost a.packets) calls ∙ thrown.lost);
      begun = agrees.begun ∙ ap counted (ap (λ (ps : List Packet). length ps) thrown.packets ∙ sym (ap (λ (a : Account). length a.packets) calls));
      dropped = agrees.dropped ∙ ap counted (ap dropped_in thrown.packets ∙ sym (dropped-changed thrown.packet later thrown.older refl) ∙ sym (ap (λ (a : Account). dropped_in a.packets) calls));
    })

-- what a flush leaves of all but the state: the packets, and what is counted of them
flushed_agrees : (setup : Setup) (place : ℕ) (view new : WriterView) (writer after : Writer) (next_position : ℕ) (pending : Pending)
    → is_begun writer.packet ≡ false → new.calls ≡ view.calls ++ Flushed ∷ [] → after.route ≡ writer.route → after.pending ≡ pending
    → after.state ≡ Idle next_position → after.packet ≡ writer.packet → after.follows_loss ≡ writer.follows_loss → after.begun ≡ writer.begun → after.dropped ≡ writer.dropped
    → next_position ≡ length new.begun → IsIdle (site_of setup place writer.route) (record (account_of view.calls) { flushed = true }) new pending
    → Agrees setup place view writer → Agrees setup place new after
flushed_agrees setup place view new writer after next_position pending none notes route pending_is state packet follows begun dropped next idle agrees =
    let calls : account_of new.calls ≡ record (account_of view.calls) { flushed = true } = ap account_of notes ∙ account_one view.calls Flushed in
    let packets : (account_of new.calls).packets ≡ (account_of view.calls).packets = ap (λ (a : Account). a.packets) calls in
    record {
      route = subst (λ (r : Route). IsRoute setup place r) (sym route) agrees.route;
      state = subst (λ (r : Route). StateAgrees (site_of setup place r) (account_of new.calls) new after.pending after.state) (sym route)
          (subst (λ (p : Pending). StateAgrees (site_of setup place writer.route) (account_of new.calls) new p after.state) (sym pending_is)
          (subst (λ (s : State). StateAgrees (site_of setup place writer.route) (account_of new.calls) new pending s) (sym state)
          (next, subst (λ (a : Account). IsIdle (site_of setup place writer.route) a new pending) (sym calls) idle)));
      packet = subst (λ (o : Option OpenPacket). IsInPacketOf (account_of new.calls).packets o) (sym packet)
          (subst (λ (ps : List Packet). IsInPacketOf ps writer.packet) (sym packets) agrees.packet);
      inside = ap (is_inside after.packet) state ∙ sym (ap is_begun packet ∙ none);
      follows = λ e. follows ∙ agrees.follows none ∙ sym (ap newest_is_lost packets);
      begun = begun ∙ agrees.begun ∙ sym (ap (λ (ps : List Packet). counted (length ps)) packets);
      dropped = dropped ∙ agrees.dropped ∙ sym (ap (λ (ps : List Packet). counted (dropped_in ps)) packets);
    }

pub flush_idle : (setup : Setup) (place : ℕ) (view new : WriterView) (writer after : Writer) (next_position : ℕ)
    → writer.state ≡ Idle next_position → is_begun writer.packet ≡ false → new ≡ notes_call view Flushed → after ≡ record writer { state = Idle next_position }
    → Agrees setup place view writer → Agrees setup place new after
flush_idle setup place view new writer after next_position state none notes is agrees =
    let site : Site = site_of setup place writer.route in
    let w : (next_position ≡ length view.begun) × IsIdle site (account_of view.calls) view writer.pending = subst (StateAgrees site (account_of view.calls) view writer.pending) state agrees.state in
    let begun : new.begun ≡ view.begun = ap (λ (v : WriterView). v.begun) notes in
    subst (Agrees setup place new) (sym is)
    (flushed_agrees setup place view new writer (record writer { state = Idle next_position }) next_position writer.pending none (ap (λ (v : WriterView). v.calls) notes) refl refl refl refl refl refl refl
    (w.0 ∙ sym (ap length begun)) (flushed_idle site (account_of view.calls) view new writer.pending begun w.1) agrees)

pub flush_held : (setup : Setup) (place : ℕ) (view between new : WriterView) (writer after : Writer) (pending : Pending) (chunk : HeldChunk) (next_position : ℕ)
    → writer.state ≡ Between chunk → is_begun writer.packet ≡ false → chunk.count ≤ 1023 → next_position ≡ chunk.held.position + 1
    → pending ≡ record writer.pending { unsent = [] }
    → between ≡ completes view chunk.held.chunk chunk.held.position (behind_content (site_of setup place writer.route) writer.pending chunk)
    → new ≡ notes_call between Flushed
    → after ≡ record writer { state = Idle next_position; pending = pending }
    → Agrees setup place view writer → Agrees setup place new after
flush_held setup place view between new writer after pending chunk next_position state none few next pending_is completes_it notes is agrees =
    let site : Site = site_of setup place writer.route in
    let behind : IsBehind site (account_of view.calls) view writer.pending chunk = subst (StateAgrees site (account_of view.calls) view writer.pending) state agrees.state in
    let begun : new.begun ≡ between.begun = ap (λ (v : WriterView). v.begun) notes in
    let idle : IsIdle site (record (account_of view.calls) { flushed = true }) new pending =
    completed_idle site (account_of view.calls) true view between new writer.pending pending chunk few pending_is completes_it begun (λ chains e. flushed_fresh site.size (account_of view.calls).packets chains) (inl refl) behind in
    let calls : new.calls ≡ view.calls ++ Flushed ∷ [] =
    ap (λ (v : WriterView). v.calls) notes ∙ ap (λ (v : WriterView). v.calls ++ Flushed ∷ []) completes_it in
    subst (Agrees setup place new) (sym is)
    (flushed_agrees setup place view new writer (record writer { state = Idle next_position; pending = pending }) next_position pending none calls refl refl refl refl refl refl refl
    (next ∙ sym (ap length begun ∙ begun_one_more site (account_of view.calls) view between writer.pending chunk (behind_content site writer.pending chunk) completes_it behind)) idle agrees)

pub idle_of : (setup : Setup) (place : ℕ) (view : WriterView) (writer : Writer) (next_position : ℕ) → writer.state ≡ Idle next_position → Agrees setup place view writer
    → IsIdle (site_of setup place writer.route) (account_of view.calls) view writer.pending
idle_of setup place view writer next_position state agrees =
    (subst (StateAgrees (site_of setup place writer.route) (account_of view.calls) view writer.pending) state agrees.state).1

pub idle_position : (setup : Setup) (place : ℕ) (view : WriterView) (writer : Writer) (next_position : ℕ) → writer.state ≡ Idle next_position → Agrees setup place view writer
    → next_position ≡ length view.begun
idle_position setup place view writer next_position state agrees =
    (subst (StateAgrees (site_of setup place writer.route) (account_of view.calls) view writer.pending) state agrees.state).0

-- What the completion of a held chunk asks.

pub behind_of : (setup : Setup) (place : ℕ) (view : WriterView) (writer : Writer) (chunk : HeldChunk) → writer.state ≡ Between chunk → Agrees setup place view writer
    → IsBehind (site_of setup place writer.route) (account_of view.calls) view writer.pending chunk
behind_of setup place view writer chunk state agrees = subst (StateAgrees (site_of setup place writer.route) (account_of view.calls) view writer.pending) state agrees.state

-- its payload begins with the fragments before the last one
pub behind_payload : (site : Site) (account : Account) (view : WriterView) (pending : Pending) (chunk : HeldChunk) (behind : IsBehind site account view pending chunk)
    → chunk.held.body.payload.items ≡ frames behind.before ++ (frames (behind.last ∷ []) ++ behind.filled.rest)
behind_payload site account view pending chunk behind =
    behind.filled.payload_is
    ∙ ap (λ (xs : List (List ℕ)). frames xs ++ behind.filled.rest) behind.parts
    ∙ ap (λ (xs : List ℕ). xs ++ behind.filled.rest) (flat_map-append framed behind.before (behind.last ∷ []))
    ∙ append_assoc (frames behind.before) (frames (behind.last ∷ [])) behind.filled.rest

pub behind_fits : (site : Site) (account : Account) (view : WriterView) (pending : Pending) (chunk : HeldChunk) → IsBehind site account view pending chunk
    → IsFit site.setup view chunk (chunk.count - 1) (vec_len chunk.held.body.payload)
behind_fits site account view pending chunk behind =
    let rest : List ℕ = frames (behind.last ∷ []) ++ behind.filled.rest in
    let payload : chunk.held.body.payload.items ≡ frames behind.before ++ rest = behind_payload site account view pending chunk behind in
    let long : length chunk.held.body.payload.items ≡ vec_len chunk.held.body.payload = sym chunk.held.body.payload.ok.0 in
    let many = ap (λ (xs : List (List ℕ)). length xs) behind.parts in
    fits site.setup view chunk behind.draft chunk.continues behind.completed [] (chunk.count - 1) chunk.count (vec_len chunk.held.body.payload) behind.before behind.before rest rest
    behind.begun (behind.position ∙ sym (shows_long site 0 behind.completed behind.pages behind.shown)) (behind.whole ∙ sym behind.sized) payload
    (omega (arith, behind.filled.count_is, many, length-append behind.before (behind.last ∷ []))) (omega (arith, long, ap length payload, length-append (frames behind.before) rest))
    payload behind.sealed behind.drafted

pub behind_fits_next : (site : Site) (account : Account) (view : WriterView) (pending : Pending) (chunk : HeldChunk) → IsBehind site account view pending chunk
    → IsFit site.setup view chunk chunk.count chunk.at
behind_fits_next site account view pending chunk behind =
    let all : List (List ℕ) = behind.first ∷ behind.others in
    let rest : List ℕ = frames (behind.last ∷ []) ++ behind.filled.rest in
    let payload : chunk.held.body.payload.items ≡ frames behind.before ++ rest = behind_payload site account view pending chunk behind in
    fits site.setup view chunk behind.draft chunk.continues behind.completed [] chunk.count chunk.count chunk.at all behind.before behind.filled.rest rest
    behind.begun (behind.position ∙ sym (shows_long site 0 behind.completed behind.pages behind.shown)) (behind.whole ∙ sym behind.sized) behind.filled.payload_is
    behind.filled.count_is (omega (arith, behind.filled.at_is)) payload behind.sealed behind.drafted

pub behind_head : (site : Site) (account : Account) (view : WriterView) (pending : Pending) (chunk : HeldChunk) → IsBehind site account view pending chunk
    → head_at view chunk.held.position ≡ held_head chunk.count chunk.continues
behind_head site account view pending chunk behind =
    ap (λ (d : Draft). d.head) (draft_here view behind.completed [] chunk.held.chunk chunk.held.position behind.draft behind.begun
    (behind.position ∙ sym (shows_long site 0 behind.completed behind.pages behind.shown)))
    ∙ behind.drafted.head

pub behind_position : (site : Site) (account : Account) (view : WriterView) (pending : Pending) (chunk : HeldChunk) → IsBehind site account view pending chunk
    → chunk.held.position + 1 ≡ length view.begun
behind_position site account view pending chunk behind =
    let many : length view.begun ≡ length behind.completed + 1 = ap length behind.begun ∙ length-append behind.completed (Held chunk.held.chunk behind.draft ∷ []) in
    omega (arith, many, shows_long site 0 behind.completed behind.pages behind.shown, behind.position)
