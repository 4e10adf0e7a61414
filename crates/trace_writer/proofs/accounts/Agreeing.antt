-- A writer agrees with its view behind a call that changes the packet that is begun.
use Rattle.std.proofs.Common.{◌≡◌, ◌∙◌, ℕ, ◌+◌, ◌-◌, ◌<◌, ◌≤◌, Bool, true, false, not, ◌||◌, ◌&&◌, List, [], ◌∷◌, ◌++◌, length, map, reverse, Option, Some, None, is_some, refl, sym, ap, subst, arith, append_assoc}
use Rattle.std.proofs.lemmas.Bool.{true≢false}
use Rattle.std.proofs.lemmas.List.{length-map, length-reverse}
use Rattle.std.proofs.Math.Bool.{or-true}
use Rattle.trace_base.specs.declared.policy.WriterPolicy.{WriterPolicy}
use Rattle.trace_base.specs.declared.policy.WriterPolicy.TheVariants.{Drops, Stalls, StallsThenDrops}
use Rattle.trace_model.specs.Calls.{Call, GivenUp}
use Rattle.trace_model.specs.Packets.{Packet, Text, Account, account_of, noted, on_newest, is_lost, front_of, body_of, given_up_packet, open_places, with_more, newest_is_lost}
use Rattle.trace_model.specs.Record.{mark_where}
use Rattle.cut_steps.specs.RawChains.{current_pieces}
use Rattle.cut_steps.specs.Pending.{hole_at}
use Rattle.cut_steps.specs.Writing.{with_open}
use Rattle.cut_steps.proofs.WritingSteps.{writing_holes}
use Rattle.commit_body.specs.Pending.{Pending}
use Rattle.chunk_plain.specs.Setup.{Setup}
use Rattle.chunk_plain.specs.Views.{WriterView}
use Rattle.chunk_plain.specs.Steps.{notes_call}
use Rattle.trace_writer.specs.declared.flow.Flow.{Flow}
use Rattle.trace_writer.specs.declared.flow.Flow.TheVariants as flow
use Rattle.trace_writer.specs.declared.fragment.OpenFragment.{OpenFragment}
use Rattle.trace_writer.specs.declared.packet.OpenPacket.{OpenPacket}
use Rattle.trace_writer.specs.declared.route.Route.{Route}
use Rattle.trace_writer.specs.declared.state.State.{State}
use Rattle.trace_writer.specs.declared.state.State.TheVariants.{Writing, Dropping, Stalled}
use Rattle.trace_writer.specs.declared.state.Writer.{Writer}
use Rattle.trace_writer.specs.Site.{Site, site_of, IsRoute}
use Rattle.trace_writer.specs.Filled.{ShowsPages, HasByte}
use Rattle.trace_writer.specs.Ids.{HasIds}
use Rattle.trace_writer.specs.States.{InFragment, IsIdle, IsStuck}
use Rattle.trace_writer.specs.Empty.{is_stalled}
use Rattle.trace_writer.specs.Asked.{written_as}
use Rattle.trace_writer.specs.Helping.{refuses}
use Rattle.trace_writer.specs.Flows.{StopsAs, Writes, is_stopped, with_loss}
use Rattle.trace_writer.specs.Agreement.{IsMeasured, IsWritingInto, IsThrownAway, StateAgrees, IsInPacketOf, is_inside, is_begun, counted, Agrees}
use Rattle.trace_writer.specs.Outcomes.{StopsBehind, GoesBehind}
use Rattle.trace_writer.proofs.accounts.Accounts.{dropped_in, dropped-changed, account_is as newest_account}
use Rattle.trace_writer.proofs.stops.Idling.{changed_idle}
use Rattle.trace_writer.proofs.accounts.Changes.{account_changed, account_lost, newest_open}
use Rattle.trace_writer.proofs.accounts.Measuring.{long_written, long_opened}
use Rattle.trace_writer.proofs.packets.RunOn.{inside_seen}
use Rattle.trace_writer.proofs.stops.Stopping.{refuses_none}

-- Views that show the same chunks

pub idle_seen : (site : Site) (account : Account) (view new : WriterView) (pending : Pending) → new.begun ≡ view.begun
    → IsIdle site account view pending → IsIdle site account new pending
idle_seen site account view new pending begun i = record {
  pages = i.pages;
  shown = subst (λ (xs : List _). ShowsPages site 0 xs i.pages) (sym begun) i.shown;
  holes = i.holes;
  unsent = i.unsent;
  ended = i.ended;
  between = i.between;
  fresh = i.fresh;
}

lost_alike : (packet later : Packet) → later.kept ≡ packet.kept → later.given_up ≡ packet.given_up → is_lost later ≡ is_lost packet
lost_alike packet later kept given =
    ap (λ (b : Bool). not b || is_some later.given_up) kept ∙ ap (λ (o : Option Text). not packet.kept || is_some o) given

-- The writer

-- a call changes the newest packet, and whatever else is kept between two calls agrees
pub agrees_changed : (setup : Setup) (place : ℕ) (view new : WriterView) (before after : Writer) (open_one later_one : OpenPacket) (packet later : Packet)
    (older : List Packet) → Agrees setup place view before → (account_of view.calls).packets ≡ packet ∷ older → (account_of new.calls).packets ≡ later ∷ older
    → later.kept ≡ packet.kept → later.finished ≡ false → after.route ≡ before.route → after.begun ≡ before.begun → after.dropped ≡ before.dropped
    → after.packet ≡ Some later_one → IsMeasured later_one later → is_inside after.packet after.state ≡ true
    → StateAgrees (site_of setup place after.route) (account_of new.calls) new after.pending after.state
    → Agrees setup place new after
agrees_changed setup place view new before after open_one later_one packet later older a newest newer kept unfinished route_is begun_is dropped_is packet_is measured inside state = record {
  route = subst (IsRoute setup place) (sym route_is) a.route;
  state = state;
  packet = subst (λ (packets : List Packet). IsInPacketOf packets after.packet) (sym newer)
      (subst (λ (o : Option OpenPacket). IsInPacketOf (later ∷ older) o) (sym packet_is) (unfinished, measured));
  inside = inside ∙ sym (ap is_begun packet_is);
  follows = λ none. absurd (true≢false (sym (ap is_begun packet_is) ∙ none));
  begun = begun_is ∙ a.begun ∙ ap (λ (packets : List Packet). counted (length packets)) newest
      ∙ sym (ap (λ (packets : List Packet). counted (length packets)) newer);
  dropped = dropped_is ∙ a.dropped ∙ ap (λ (packets : List Packet). counted (dropped_in packets)) newest
      ∙ ap counted (sym (dropped-changed packet later older kept))
      ∙ sym (ap (λ (packets : List Packet). counted (dropped_in packets)) newer);
}

-- What a call adds to the packet: so many bytes.
pub record Grows (change : Packet → Packet) (count : ℕ) : Type 0 where
  pub kept : (packet : Packet) → (change packet).kept ≡ packet.kept
  pub follows_loss : (packet : Packet) → (change packet).follows_loss ≡ packet.follows_loss
  pub follows_flush : (packet : Packet) → (change packet).follows_flush ≡ packet.follows_flush
  pub given_up : (packet : Packet) → (change packet).given_up ≡ packet.given_up
  pub finished : (packet : Packet) → (change packet).finished ≡ packet.finished
  pub long : (packet : Packet) → 0 < length packet.text.levels → length (body_of (change packet)) ≡ length (body_of packet) + count

pub grows_more : (bytes : List ℕ) (count : ℕ) → length bytes ≡ count → Grows (with_more bytes) count
grows_more bytes count count_is = record {
  kept = λ packet. refl;
  follows_loss = λ packet. refl;
  follows_flush = λ packet. refl;
  given_up = λ packet. refl;
  finished = λ packet. refl;
  long = λ packet some. long_written bytes packet.text.levels some ∙ ap (λ (n : ℕ). length (body_of packet) + n) count_is;
}

pub grows_nested : (tag : List ℕ) → Grows (λ (packet : Packet). with_open (with_more tag packet)) (length tag + 4)
grows_nested tag = record {
  kept = λ packet. refl;
  follows_loss = λ packet. refl;
  follows_flush = λ packet. refl;
  given_up = λ packet. refl;
  finished = λ packet. refl;
  long = λ packet some. long_opened tag packet.text.levels some;
}

front_alike : (change : Packet → Packet) (count : ℕ) (packet : Packet) → Grows change count → front_of (change packet) ≡ front_of packet
front_alike change count packet grows =
    ap (λ (b : Bool). mark_where (b && (change packet).follows_loss)) (grows.kept packet)
    ∙ ap (λ (b : Bool). mark_where (packet.kept && b)) (grows.follows_loss packet)

-- the newest packet is begun and measured
pub record IsOpen (view : WriterView) (open_one : OpenPacket) (packet : Packet) : Type 0 where
  pub some : 0 < length packet.text.levels
  pub unfinished : packet.finished ≡ false
  pub measured : IsMeasured open_one packet

pub open_newest : (setup : Setup) (place : ℕ) (view : WriterView) (writer : Writer) (open_one : OpenPacket) (packet : Packet) (older : List Packet)
    → Agrees setup place view writer → writer.packet ≡ Some open_one → (account_of view.calls).packets ≡ packet ∷ older → IsOpen view open_one packet
open_newest setup place view writer open_one packet older a packet_is newest =
    let both : IsInPacketOf (packet ∷ older) (Some open_one) =
    subst (λ (o : Option OpenPacket). IsInPacketOf (packet ∷ older) o) packet_is
    (subst (λ (packets : List Packet). IsInPacketOf packets writer.packet) newest a.packet) in
    record { some = newest_open view.calls packet older newest; unfinished = both.0; measured = both.1 }

-- the writer's packet is written into this fragment
pub writing_agrees : (setup : Setup) (place : ℕ) (view : WriterView) (writer : Writer) (fragment : OpenFragment) → Agrees setup place view writer
    → writer.state ≡ Writing fragment → IsWritingInto (site_of setup place writer.route) (account_of view.calls) view writer.pending fragment
writing_agrees setup place view writer fragment a state_is =
    subst (λ (s : State). StateAgrees (site_of setup place writer.route) (account_of view.calls) view writer.pending s) state_is a.state

pub dropping_agrees : (setup : Setup) (place : ℕ) (view : WriterView) (writer : Writer) (next_position : ℕ) → Agrees setup place view writer
    → writer.state ≡ Dropping next_position
    → (next_position ≡ length view.begun) × IsThrownAway (site_of setup place writer.route) (account_of view.calls) view writer.pending
dropping_agrees setup place view writer next_position a state_is =
    subst (λ (s : State). StateAgrees (site_of setup place writer.route) (account_of view.calls) view writer.pending s) state_is a.state

-- a call went on in this fragment
pub agrees_writing : (setup : Setup) (place : ℕ) (view new : WriterView) (before : Writer) (fragment next : OpenFragment) (pending : Pending)
    (open_one later_one : OpenPacket) (packet : Packet) (older : List Packet) (count : ℕ) (change : Packet → Packet) (call : Call)
    → Agrees setup place view before → before.packet ≡ Some open_one
    → (account_of view.calls).packets ≡ packet ∷ older → (account_of view.calls).flushed ≡ false → Grows change count
    → IsMeasured later_one (change packet) → open_one.len + count ≤ 1048576 → ((account : Account) → noted account call ≡ on_newest change account)
    → new.calls ≡ view.calls ++ call ∷ []
    → InFragment (site_of setup place before.route) (change packet) older new pending next [] → HasByte next
    → HasIds fragment (1048576 + length (front_of packet) - length (body_of packet))
    → ((further : ℕ) → HasIds fragment (count + further) → HasIds next further)
    → Agrees setup place new (record before { state = Writing next; packet = Some later_one; pending = pending })
agrees_writing setup place view new before fragment next pending open_one later_one packet older count change call a packet_is newest unflushed grows measured fits noted_is calls inside byte enough ids =
    let is : IsOpen view open_one packet = open_newest setup place view before open_one packet older a packet_is newest in
    let account_is : account_of new.calls ≡ record { packets = change packet ∷ older; flushed = false } =
    account_changed view new call packet older change calls newest unflushed noted_is in
    let front : length (front_of (change packet)) ≡ length (front_of packet) = ap length (front_alike change count packet grows) in
    agrees_changed setup place view new before (record before { state = Writing next; packet = Some later_one; pending = pending }) open_one later_one packet (change packet)
    older a newest (ap (λ (account : Account). account.packets) account_is) (grows.kept packet) (grows.finished packet ∙ is.unfinished) refl refl refl refl measured refl
    (record {
      packet = change packet;
      older = older;
      packets = ap (λ (account : Account). account.packets) account_is;
      unflushed = ap (λ (account : Account). account.flushed) account_is;
      inside = inside;
      byte = byte;
      ids = ids (1048576 + length (front_of (change packet)) - length (body_of (change packet)))
          (subst (λ (n : ℕ). HasIds fragment n) (omega (arith, front, grows.long packet is.some, is.measured.len, fits)) enough);
    })

-- a call of a packet that is thrown away
pub agrees_dropping : (setup : Setup) (place : ℕ) (view new : WriterView) (before : Writer) (state : State) (next_position : ℕ)
    (open_one later_one : OpenPacket) (count : ℕ) (change : Packet → Packet) (call : Call)
    → Agrees setup place view before → before.state ≡ Dropping next_position → state ≡ Dropping next_position → before.packet ≡ Some open_one → Grows change count
    → ((packet : Packet) → 0 < length packet.text.levels → IsMeasured open_one packet → IsMeasured later_one (change packet))
    → ((account : Account) → noted account call ≡ on_newest change account) → new ≡ notes_call view call
    → Agrees setup place new (record before { state = state; packet = Some later_one })
agrees_dropping setup place view new before state next_position open_one later_one count change call a was state_is packet_is grows measures noted_is new_is =
    let site : Site = site_of setup place before.route in
    let both : (next_position ≡ length view.begun) × IsThrownAway site (account_of view.calls) view before.pending = dropping_agrees setup place view before next_position a was in
    let thrown : IsThrownAway site (account_of view.calls) view before.pending = both.1 in
    let packet : Packet = thrown.packet in
    let is : IsOpen view open_one packet = open_newest setup place view before open_one packet thrown.older a packet_is thrown.packets in
    let account_is : account_of new.calls ≡ record { packets = change packet ∷ thrown.older; flushed = false } =
    account_changed view new call packet thrown.older change (ap (λ (v : WriterView). v.calls) new_is) thrown.packets thrown.unflushed noted_is in
    let begun : new.begun ≡ view.begun = ap (λ (v : WriterView). v.begun) new_is in
    agrees_changed setup place view new before (record before { state = state; packet = Some later_one }) open_one later_one packet (change packet)
    thrown.older a thrown.packets (ap (λ (account : Account). account.packets) account_is) (grows.kept packet) (grows.finished packet ∙ is.unfinished) refl refl refl refl
    (measures packet is.some is.measured) (ap (is_inside (Some later_one)) state_is)
    (subst (λ (s : State). StateAgrees site (account_of new.calls) new before.pending s) (sym state_is) (
      both.0 ∙ sym (ap length begun),
      record {
        packet = change packet;
        older = thrown.older;
        packets = ap (λ (account : Account). account.packets) account_is;
        unflushed = ap (λ (account : Account). account.flushed) account_is;
        lost = lost_alike packet (change packet) (grows.kept packet) (grows.given_up packet) ∙ thrown.lost;
        idle = subst (λ (account : Account). IsIdle site account new before.pending) (sym account_is)
            (changed_idle site packet (change packet) thrown.older view new before.pending thrown.lost (grows.kept packet) (grows.follows_flush packet) (grows.given_up packet) begun
            (subst (λ (account : Account). IsIdle site account view before.pending)
            (newest_account (account_of view.calls) packet thrown.older thrown.packets thrown.unflushed) thrown.idle));
      },
    ))

-- Behind what was written for a call

pub stuck_seen : (site : Site) (packets : List Packet) (view new : WriterView) → new.begun ≡ view.begun → IsStuck site packets view → IsStuck site packets new
stuck_seen site packets view new begun stuck = record {
  stalls = stuck.stalls;
  pages = stuck.pages;
  shown = subst (λ (xs : List _). ShowsPages site 0 xs stuck.pages) (sym begun) stuck.shown;
  cut = stuck.cut;
  runs = stuck.runs;
}

-- a call stopped, and its writer gave the packet up
agrees_lost : (setup : Setup) (place : ℕ) (view mid new : WriterView) (before after : Writer) (state : State) (pending : Pending)
    (next_position : ℕ) (open_one later_one : OpenPacket) (packet : Packet) (older : List Packet) (count : ℕ) (change : Packet → Packet) (call : Call)
    → Agrees setup place view before → before.packet ≡ Some open_one
    → (account_of view.calls).packets ≡ packet ∷ older → (account_of view.calls).flushed ≡ false → Grows change count
    → IsMeasured later_one (change packet) → ((account : Account) → noted account call ≡ on_newest change account)
    → mid.calls ≡ view.calls → next_position ≡ length mid.begun → StopsAs Drops (site_of setup place before.route) (change packet) older mid pending
    → StopsBehind Drops (record before { state = state; packet = Some later_one; pending = pending }) after mid new call next_position → Agrees setup place new after
agrees_lost setup place view mid new before after state pending next_position open_one later_one packet older count change call a packet_is newest unflushed grows measured noted_is calls position stops goes =
    let site : Site = site_of setup place before.route in
    let is : IsOpen view open_one packet = open_newest setup place view before open_one packet older a packet_is newest in
    let later : Packet = given_up_packet (change packet) in
    let account_is : account_of new.calls ≡ with_loss (change packet) older =
    account_lost view new call packet older change
    (ap (λ (v : WriterView). v.calls) goes.1 ∙ ap (λ (before_calls : List Call). (before_calls ++ call ∷ []) ++ GivenUp ∷ []) calls) newest unflushed noted_is in
    let begun : new.begun ≡ mid.begun = ap (λ (v : WriterView). v.begun) goes.1 in
    subst (λ (one : Writer). Agrees setup place new one) (sym goes.0)
    (agrees_changed setup place view new before (record before { state = Dropping next_position; packet = Some later_one; pending = pending }) open_one later_one packet later
    older a newest (ap (λ (account : Account). account.packets) account_is) (grows.kept packet) (grows.finished packet ∙ is.unfinished) refl refl refl refl
    (record { len = measured.len; starts = measured.starts }) refl (
      position ∙ sym (ap length begun),
      record {
        packet = later;
        older = older;
        packets = ap (λ (account : Account). account.packets) account_is;
        unflushed = ap (λ (account : Account). account.flushed) account_is;
        lost = or-true (not (change packet).kept);
        idle = subst (λ (account : Account). IsIdle site account new pending) (sym account_is)
            (idle_seen site (with_loss (change packet) older) mid new pending begun stops);
      },
    ))

-- a call stopped: its writer gave the packet up, or stalls
agrees_stopped : (policy : WriterPolicy) (setup : Setup) (place : ℕ) (view mid new : WriterView) (before after : Writer) (state : State) (pending : Pending)
    (next_position : ℕ) (open_one later_one : OpenPacket) (packet : Packet) (older : List Packet) (count : ℕ) (change : Packet → Packet) (call : Call)
    → Agrees setup place view before → before.packet ≡ Some open_one
    → (account_of view.calls).packets ≡ packet ∷ older → (account_of view.calls).flushed ≡ false → Grows change count
    → IsMeasured later_one (change packet) → ((account : Account) → noted account call ≡ on_newest change account)
    → mid.calls ≡ view.calls → next_position ≡ length mid.begun → StopsAs policy (site_of setup place before.route) (change packet) older mid pending
    → StopsBehind policy (record before { state = state; packet = Some later_one; pending = pending }) after mid new call next_position → Agrees setup place new after
agrees_stopped Drops setup place view mid new before after state pending next_position open_one later_one packet older count change call a packet_is newest unflushed grows measured noted_is calls position stops goes =
    agrees_lost setup place view mid new before after state pending next_position open_one later_one packet older count change call a packet_is newest unflushed grows measured noted_is calls position stops goes
agrees_stopped Stalls setup place view mid new before after state pending next_position open_one later_one packet older count change call a packet_is newest unflushed grows measured noted_is calls position stops goes =
    let site : Site = site_of setup place before.route in
    let is : IsOpen view open_one packet = open_newest setup place view before open_one packet older a packet_is newest in
    let account_is : account_of new.calls ≡ record { packets = change packet ∷ older; flushed = false } =
    account_changed view new call packet older change
    (ap (λ (v : WriterView). v.calls) goes.1 ∙ ap (λ (before_calls : List Call). before_calls ++ call ∷ []) calls) newest unflushed noted_is in
    let begun : new.begun ≡ mid.begun = ap (λ (v : WriterView). v.begun) goes.1 in
    let newer : (account_of new.calls).packets ≡ change packet ∷ older = ap (λ (account : Account). account.packets) account_is in
    subst (λ (one : Writer). Agrees setup place new one) (sym goes.0)
    (agrees_changed setup place view new before (record before { state = Stalled next_position; packet = Some later_one; pending = pending }) open_one later_one packet (change packet)
    older a newest newer (grows.kept packet) (grows.finished packet ∙ is.unfinished) refl refl refl refl measured refl (
      position ∙ sym (ap length begun),
      subst (λ (packets : List Packet). IsStuck site packets new) (sym newer) (stuck_seen site (change packet ∷ older) mid new begun stops),
    ))
agrees_stopped (StallsThenDrops tries) setup place view mid new before after state pending next_position open_one later_one packet older count change call a packet_is newest unflushed grows measured noted_is calls position stops goes =
    agrees_lost setup place view mid new before after state pending next_position open_one later_one packet older count change call a packet_is newest unflushed grows measured noted_is calls position stops goes

pub agrees_behind : (setup : Setup) (place : ℕ) (view mid new : WriterView) (before after : Writer) (state : State) (pending : Pending) (fragment : OpenFragment)
    (open_one later_one : OpenPacket) (count : ℕ) (change : Packet → Packet) (call : Call) (way : Flow)
    → Agrees setup place view before → before.state ≡ Writing fragment → before.packet ≡ Some open_one → Grows change count
    → ((packet : Packet) → 0 < length packet.text.levels → IsMeasured open_one packet → IsMeasured later_one (change packet))
    → open_one.len + count ≤ 1048576 → ((account : Account) → noted account call ≡ on_newest change account)
    → Writes setup place before.route view mid before.pending pending fragment count change way
    → GoesBehind (record before { state = state; packet = Some later_one; pending = pending }) after mid new call way
    → Agrees setup place new after
agrees_behind setup place view mid new before after state pending fragment open_one later_one count change call (flow.Going next) a was packet_is grows measures fits noted_is writes goes =
    let site : Site = site_of setup place before.route in
    let w : IsWritingInto site (account_of view.calls) view before.pending fragment = writing_agrees setup place view before fragment a was in
    let is : IsOpen view open_one w.packet = open_newest setup place view before open_one w.packet w.older a packet_is w.packets in
    subst (λ (one : Writer). Agrees setup place new one) (sym goes.0)
    (agrees_writing setup place view new before fragment next pending open_one later_one w.packet w.older count change call a packet_is w.packets w.unflushed grows
    (measures w.packet is.some is.measured) fits noted_is
    (ap (λ (v : WriterView). v.calls) goes.1 ∙ ap (λ (calls : List Call). calls ++ call ∷ []) writes.calls)
    (inside_seen site (change w.packet) w.older mid new pending next [] (ap (λ (v : WriterView). v.begun) goes.1) (writes.keeps w.packet w.older w.inside))
    (writes.byte w.byte) w.ids writes.ids)
agrees_behind setup place view mid new before after state pending fragment open_one later_one count change call (flow.Stopped next_position) a was packet_is grows measures fits noted_is writes goes =
    let site : Site = site_of setup place before.route in
    let w : IsWritingInto site (account_of view.calls) view before.pending fragment = writing_agrees setup place view before fragment a was in
    let is : IsOpen view open_one w.packet = open_newest setup place view before open_one w.packet w.older a packet_is w.packets in
    agrees_stopped before.route.spec.policy setup place view mid new before after state pending next_position open_one later_one w.packet w.older count change call a packet_is
    w.packets w.unflushed grows (measures w.packet is.some is.measured) noted_is writes.0.calls writes.1 (writes.0.stopped w.packet w.older w.inside) goes

noted_lost : (old after : Writer) (mid new : WriterView) (call : Call) (next_position : ℕ) → StopsBehind Drops old after mid new call next_position
    → (new.calls ≡ mid.calls ++ written_as true Drops call) × (is_stalled after.state ≡ false)
noted_lost old after mid new call next_position stops =
    (ap (λ (v : WriterView). v.calls) stops.1 ∙ append_assoc mid.calls (call ∷ []) (GivenUp ∷ []), ap (λ (one : Writer). is_stalled one.state) stops.0)

-- what is noted, and whether the writer stalls
noted_behind : (policy : WriterPolicy) (old after : Writer) (mid new : WriterView) (call : Call) (way : Flow) → old.route.spec.policy ≡ policy → GoesBehind old after mid new call way
    → (new.calls ≡ mid.calls ++ written_as (is_stopped way) policy call) × (is_stalled after.state ≡ refuses policy (is_stopped way))
noted_behind policy old after mid new call (flow.Going next) is goes =
    (ap (λ (v : WriterView). v.calls) goes.1, ap (λ (one : Writer). is_stalled one.state) goes.0 ∙ sym (refuses_none policy))
noted_behind Drops old after mid new call (flow.Stopped next_position) is goes =
    noted_lost old after mid new call next_position (subst (λ (policy : WriterPolicy). StopsBehind policy old after mid new call next_position) is goes)
noted_behind Stalls old after mid new call (flow.Stopped next_position) is goes =
    let stops : StopsBehind Stalls old after mid new call next_position = subst (λ (policy : WriterPolicy). StopsBehind policy old after mid new call next_position) is goes in
    (ap (λ (v : WriterView). v.calls) stops.1, ap (λ (one : Writer). is_stalled one.state) stops.0)
noted_behind (StallsThenDrops tries) old after mid new call (flow.Stopped next_position) is goes =
    noted_lost old after mid new call next_position (subst (λ (policy : WriterPolicy). StopsBehind policy old after mid new call next_position) is goes)

writes_calls : (setup : Setup) (place : ℕ) (route : Route) (view mid : WriterView) (before pending : Pending) (fragment : OpenFragment)
    (count : ℕ) (change : Packet → Packet) (way : Flow) → Writes setup place route view mid before pending fragment count change way → mid.calls ≡ view.calls
writes_calls setup place route view mid before pending fragment count change (flow.Going next) writes = writes.calls
writes_calls setup place route view mid before pending fragment count change (flow.Stopped next_position) writes = writes.0.calls

pub notes_behind : (setup : Setup) (place : ℕ) (view mid new : WriterView) (before : Writer) (old after : Writer) (pending : Pending) (fragment : OpenFragment)
    (count : ℕ) (change : Packet → Packet) (call : Call) (way : Flow) → old.route ≡ before.route
    → Writes setup place before.route view mid before.pending pending fragment count change way → GoesBehind old after mid new call way
    → (new.calls ≡ view.calls ++ written_as (is_stopped way) before.route.spec.policy call) × (is_stalled after.state ≡ refuses before.route.spec.policy (is_stopped way))
notes_behind setup place view mid new before old after pending fragment count change call way route_is writes goes =
    let noted = noted_behind before.route.spec.policy old after mid new call way (ap (λ (route : Route). route.spec.policy) route_is) goes in (
      noted.0 ∙ ap (λ (calls : List Call). calls ++ written_as (is_stopped way) before.route.spec.policy call)
          (writes_calls setup place before.route view mid before.pending pending fragment count change way writes),
      noted.1,
    )

-- a packet that is written isn't lost
pub not_lost : (packet : Packet) → packet.kept ≡ true → packet.given_up ≡ None → is_lost packet ≡ false
not_lost packet kept none = ap (λ (b : Bool). not b || is_some packet.given_up) kept ∙ ap (λ (o : Option Text). is_some o) none

pub writing_not_lost : (setup : Setup) (place : ℕ) (view : WriterView) (writer : Writer) (fragment : OpenFragment) → Agrees setup place view writer → writer.state ≡ Writing fragment
    → newest_is_lost (account_of view.calls).packets ≡ false
writing_not_lost setup place view writer fragment a was =
    let w : IsWritingInto (site_of setup place writer.route) (account_of view.calls) view writer.pending fragment = writing_agrees setup place view writer fragment a was in
    ap newest_is_lost w.packets ∙ not_lost w.packet w.inside.writing.kept w.inside.writing.given_up

-- as many holes are open as messages
pub as_many_holes : (setup : Setup) (place : ℕ) (view : WriterView) (writer : Writer) (fragment : OpenFragment) (open_one : OpenPacket)
    → Agrees setup place view writer → writer.state ≡ Writing fragment → writer.packet ≡ Some open_one
    → length writer.pending.holes ≡ length open_one.starts.items
as_many_holes setup place view writer fragment open_one a was packet_is =
    let w : IsWritingInto (site_of setup place writer.route) (account_of view.calls) view writer.pending fragment = writing_agrees setup place view writer fragment a was in
    let is : IsOpen view open_one w.packet = open_newest setup place view writer open_one w.packet w.older a packet_is w.packets in
    let i : InFragment (site_of setup place writer.route) w.packet w.older view writer.pending fragment [] = w.inside in
    let holes : reverse writer.pending.holes ≡ map (hole_at (current_pieces i.pages fragment.continues i.done i.now)) (open_places w.packet.text.levels) =
    writing_holes (site_of setup place writer.route).size w.packet w.older i.pages fragment.continues i.done i.now writer.pending.unsent (reverse writer.pending.holes) [] i.writing in
    sym (length-reverse writer.pending.holes)
    ∙ ap length holes
    ∙ length-map (open_places w.packet.text.levels) (hole_at (current_pieces i.pages fragment.continues i.done i.now))
    ∙ sym (length-map (open_places w.packet.text.levels) (λ (at : ℕ). at + 4))
    ∙ sym (length-reverse (map (λ (at : ℕ). at + 4) (open_places w.packet.text.levels)))
    ∙ sym (ap length is.measured.starts)
    ∙ length-map open_one.starts.items (λ (start : ℕ). start + length (front_of w.packet))
