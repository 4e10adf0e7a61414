-- Which chunk a writer holds, by the view of its seat, and the calls by which it asks for none.
use Rattle.std.proofs.Common.{◌≡◌, ◌∙◌, ℕ, ◌<◌, ◌||◌, Bool, true, false, not, List, [], ◌∷◌, ◌++◌, Option, refl, sym, ap, subst, true≢false}
use Rattle.std.proofs.Math.Bool.{or-false, or-true}
use Rattle.trace_model.specs.Calls.{Call, Ended, Finished, Flushed}
use Rattle.trace_model.specs.Packets.{Packet, Account, account_of, packets_of, on_newest, finished_packet, newest_is_lost, is_lost, is_writing}
use Rattle.commit_body.specs.Pending.{Pending}
use Rattle.chunk_plain.specs.Views.{WriterView}
use Rattle.chunk_plain.specs.Meaning.{Meaning}
use Rattle.chunk_plain.specs.Setup.{Setup}
use Rattle.trace_writer.specs.declared.packet.OpenPacket.{OpenPacket}
use Rattle.trace_writer.specs.declared.state.State.{State}
use Rattle.trace_writer.specs.declared.state.State.TheVariants.{Idle, Between, Writing, Dropping, Stalled}
use Rattle.trace_writer.specs.declared.state.Writer.{Writer}
use Rattle.trace_writer.specs.declared.writer.WriterCore.{WriterCore}
use Rattle.trace_writer.specs.Agreement.{Agrees, StateAgrees, is_inside}
use Rattle.trace_writer.specs.AtWork.{NotesUnlessStalled}
use Rattle.trace_writer.specs.Calling.{Stands, NotesCall}
use Rattle.trace_writer.specs.Core.{CoreAgrees, in_packet, open_depth, is_stalled, holds_newest}
use Rattle.trace_writer.specs.Empty.{is_empty, is_stalled as is_stalled_state}
use Rattle.trace_writer.specs.OwnSteps.{IsQuiet}
use Rattle.trace_writer.specs.Site.{Site, site_of}
use Rattle.trace_writer.proofs.accounts.Accounts.{account_is, account_one}
use Rattle.trace_writer.proofs.accounts.Agreeing.{not_lost}
use Rattle.trace_writer.proofs.seat_calls.CoreCalls.{ended_in, deep_writing, finished_out}
use Rattle.trace_writer.proofs.seat_calls.CoreLemmas.{begun_is_writing}
use Rattle.trace_writer.proofs.claims.KeepingClaims.{claims_quiet}
use Rattle.trace_writer.proofs.stops.Stopping.{either_way}
use Rattle.trace_writer.proofs.accounts.Possible.{ended_possible, finished_possible, flushed_possible, ended_loses, finished_loses, flushed_loses}

-- inside a packet the writer holds a chunk where the packet isn't lost
inside_is : (site : Site) (account : Account) (view : WriterView) (pending : Pending) (packet : Option OpenPacket) (state : State) → StateAgrees site account view pending state
    → is_inside packet state ≡ true → is_stalled_state state ≡ false → not (is_empty state) ≡ holds_newest account
inside_is site account view pending packet (Idle next_position) agrees inside goes = absurd (true≢false (sym inside))
inside_is site account view pending packet (Between chunk) agrees inside goes = absurd (true≢false (sym inside))
inside_is site account view pending packet (Writing fragment) agrees inside goes =
    let lost : is_lost agrees.packet ≡ false = not_lost agrees.packet agrees.inside.writing.kept agrees.inside.writing.given_up in
    sym (ap holds_newest (account_is account agrees.packet agrees.older agrees.packets agrees.unflushed) ∙ ap (λ (b : Bool). not (b || false)) lost)
inside_is site account view pending packet (Dropping next_position) agrees inside goes =
    sym (ap holds_newest (account_is account agrees.1.packet agrees.1.older agrees.1.packets agrees.1.unflushed) ∙ ap (λ (b : Bool). not (b || false)) agrees.1.lost)
inside_is site account view pending packet (Stalled next_position) agrees inside goes = absurd (true≢false goes)

pub inside_holds : (setup : Setup) (place : ℕ) (view : WriterView) (writer : Writer) → Agrees setup place view writer → in_packet view ≡ true → is_stalled_state writer.state ≡ false
    → not (is_empty writer.state) ≡ holds_newest (account_of view.calls)
inside_holds setup place view writer agrees writes goes =
    inside_is (site_of setup place writer.route) (account_of view.calls) view writer.pending writer.packet writer.state agrees.state
    (agrees.inside ∙ begun_is_writing setup place view writer agrees ∙ writes) goes

-- no flush came behind the begin of a packet
unflushed_is : (site : Site) (account : Account) (view : WriterView) (pending : Pending) (packet : Option OpenPacket) (state : State) → StateAgrees site account view pending state
    → is_inside packet state ≡ true → is_stalled_state state ≡ false → account.flushed ≡ false
unflushed_is site account view pending packet (Idle next_position) agrees inside goes = absurd (true≢false (sym inside))
unflushed_is site account view pending packet (Between chunk) agrees inside goes = absurd (true≢false (sym inside))
unflushed_is site account view pending packet (Writing fragment) agrees inside goes = agrees.unflushed
unflushed_is site account view pending packet (Dropping next_position) agrees inside goes = agrees.1.unflushed
unflushed_is site account view pending packet (Stalled next_position) agrees inside goes = absurd (true≢false goes)

finished_holds : (packets : List Packet) (flushed empty : Bool) → flushed ≡ false → is_writing packets ≡ true
    → empty ≡ newest_is_lost (on_newest finished_packet (record { packets = packets; flushed = flushed })).packets
    → not empty ≡ holds_newest (on_newest finished_packet (record { packets = packets; flushed = flushed }))
finished_holds [] flushed empty none writes is = absurd (true≢false (sym writes))
finished_holds (packet ∷ older) flushed empty none writes is =
    ap not (is ∙ sym (or-false (is_lost packet)) ∙ ap (λ (b : Bool). is_lost packet || b) (sym none))

flushed_holds : (account : Account) → holds_newest (record account { flushed = true }) ≡ false
flushed_holds account = by account.packets
  where
    by : (packets : List Packet) → holds_newest (record { packets = packets; flushed = true }) ≡ false
    by [] = refl
    by (packet ∷ older) = ap not (or-true (is_lost packet))

-- a writer and its seat that are the same ones
pub core_stays : {S : Type 0} (core after : WriterCore S) → after.writer ≡ core.writer → after.seat ≡ core.seat → after ≡ core
core_stays {S} core after writer seat =
    ap (λ writer. let one : WriterCore S = record { seat = after.seat; writer = writer } in one) writer
    ∙ ap (λ seat. let one : WriterCore S = record { seat = seat; writer = core.writer } in one) seat

module _ {T W S : Type 0} (means : Meaning T W S) where
  -- a call that asks for no chunk: where the writer has stalled it leaves all
  pub core_notes : {call : Call} {table : T} {core : WriterCore W} {left : T} {after : WriterCore W} → Stands means table core
      → NotesUnlessStalled means call table core.seat core.writer left after.seat after.writer
      → (is_stalled core ≡ false → CoreAgrees (means.setup table) (means.place core.seat) (means.view left after.seat) after)
      → NotesCall means call table core left after
  core_notes {call} {table} {core} {left} {after} stands notes agrees = record {
    agrees = either_way (is_stalled core) agrees (λ halted. let same = stays halted in
        subst (λ (t : T). CoreAgrees (means.setup table) (means.place core.seat) (means.view t after.seat) after) (sym same.1)
        (subst (λ (c : WriterCore W). CoreAgrees (means.setup table) (means.place core.seat) (means.view table c.seat) c) (sym same.0) stands.agrees));
    stalled = stays;
    goes = notes.goes;
    notes = notes.calls;
    route = notes.route_stays;
    quiet = notes.quiet;
  }
    where
      stays : is_stalled core ≡ true → (after ≡ core) × (left ≡ table)
      stays halted = let is = notes.stays halted in (core_stays core after is.0 is.2, is.1)

  pub core_ended : (old : T) (core : WriterCore W) (new : T) (after : WriterCore W) → CoreAgrees (means.setup old) (means.place core.seat) (means.view old core.seat) core
      → 0 < open_depth (means.view old core.seat) → IsQuiet means old core.seat new after.seat
      → Agrees (means.setup old) (means.place core.seat) (means.view new after.seat) after.writer → (means.view new after.seat).calls ≡ (means.view old core.seat).calls ++ Ended ∷ []
      → CoreAgrees (means.setup old) (means.place core.seat) (means.view new after.seat) after
  core_ended old core new after ok deep quiet agrees notes =
      let was = means.view old core.seat in let is = means.view new after.seat in record {
        writes = agrees;
        claims = claims_quiet means (means.setup old) (means.place core.seat) old core.seat new after.seat quiet (ended_loses was is notes) ok.claims;
        possible = ended_possible was is notes (deep_writing was deep) deep ok.possible;
        holds = inside_holds (means.setup old) (means.place core.seat) is after.writer agrees (ended_in was is notes deep).0;
      }

  pub core_finished : (old : T) (core : WriterCore W) (new : T) (after : WriterCore W) → CoreAgrees (means.setup old) (means.place core.seat) (means.view old core.seat) core
      → in_packet (means.view old core.seat) ≡ true → open_depth (means.view old core.seat) ≡ 0 → is_stalled core ≡ false
      → IsQuiet means old core.seat new after.seat
      → Agrees (means.setup old) (means.place core.seat) (means.view new after.seat) after.writer → (means.view new after.seat).calls ≡ (means.view old core.seat).calls ++ Finished ∷ []
      → is_empty after.writer.state ≡ after.writer.follows_loss → CoreAgrees (means.setup old) (means.place core.seat) (means.view new after.seat) after
  core_finished old core new after ok writes shallow goes quiet agrees notes held =
      let was = means.view old core.seat in let is = means.view new after.seat in
      let account : account_of is.calls ≡ on_newest finished_packet (account_of was.calls) = ap account_of notes ∙ account_one was.calls Finished in
      record {
        writes = agrees;
        claims = claims_quiet means (means.setup old) (means.place core.seat) old core.seat new after.seat quiet (finished_loses was is notes) ok.claims;
        possible = finished_possible was is notes writes shallow ok.possible;
        holds = λ still. finished_holds (packets_of was.calls) (account_of was.calls).flushed (is_empty after.writer.state)
            (unflushed_is (site_of (means.setup old) (means.place core.seat) core.writer.route) (account_of was.calls) was core.writer.pending core.writer.packet core.writer.state ok.writes.state
            (ok.writes.inside ∙ begun_is_writing (means.setup old) (means.place core.seat) was core.writer ok.writes ∙ writes) goes) writes
            (held ∙ agrees.follows (begun_is_writing (means.setup old) (means.place core.seat) is after.writer agrees ∙ finished_out was is notes) ∙ ap (λ (a : Account). newest_is_lost a.packets) account)
            ∙ sym (ap holds_newest account);
      }

  pub core_flushed : (old : T) (core : WriterCore W) (new : T) (after : WriterCore W) → CoreAgrees (means.setup old) (means.place core.seat) (means.view old core.seat) core
      → in_packet (means.view old core.seat) ≡ false → IsQuiet means old core.seat new after.seat
      → Agrees (means.setup old) (means.place core.seat) (means.view new after.seat) after.writer → (means.view new after.seat).calls ≡ (means.view old core.seat).calls ++ Flushed ∷ []
      → is_empty after.writer.state ≡ true → CoreAgrees (means.setup old) (means.place core.seat) (means.view new after.seat) after
  core_flushed old core new after ok none quiet agrees notes empty =
      let was = means.view old core.seat in let is = means.view new after.seat in record {
        writes = agrees;
        claims = claims_quiet means (means.setup old) (means.place core.seat) old core.seat new after.seat quiet (flushed_loses was is notes) ok.claims;
        possible = flushed_possible was is notes none ok.possible;
        holds = λ still. ap not empty ∙ sym (ap holds_newest (ap account_of notes ∙ account_one was.calls Flushed) ∙ flushed_holds (account_of was.calls));
      }
