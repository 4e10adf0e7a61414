-- What the callers of a writer know of its packet, by the view of its seat.
use Rattle.std.proofs.Common.{◌≡◌, ◌∙◌, ℕ, suc, ◌+◌, ◌*◌, ◌<◌, ◌≤◌, min, Bool, true, false, not, ◌&&◌, ◌==◌, nat_lt, nat_le, if◌then◌else◌, Option, None, Some, List, [], ◌∷◌, ◌++◌, length, refl, sym, ap, subst, arith, length-append}
use Rattle.std.proofs.lemmas.Bool.Decides.{nat_tests}
use Rattle.std.proofs.lemmas.List.{length-drop}
use Rattle.std.proofs.Math.Nat.{min-eq_left}
use Rattle.std.specs.List.{repeat}
use Rattle.trace_base.specs.declared.limits.TheConstants.{MAX_NESTING, MAX_PACKET_LEN}
use Rattle.trace_base.specs.Reserved.{is_reserved}
use Rattle.trace_model.specs.Encoding.{bytes_head, bytes_field, nested_tag}
use Rattle.trace_model.specs.Pages.{Page}
use Rattle.trace_model.specs.Packets.{Packet, Account, account_of, on_newest, with_more, packets_of, body_of, front_of, is_writing, newest_length}
use Rattle.chunk_plain.specs.Setup.{Setup}
use Rattle.chunk_plain.specs.Views.{BegunChunk, Held, Completed, WriterView, Draft}
use Rattle.trace_writer.specs.declared.fault.CallFault.{CallFault}
use Rattle.trace_writer.specs.declared.fault.CallFault.TheVariants.{Reserved, TooDeep, PacketTooLong}
use Rattle.trace_writer.specs.declared.chunk.HeldChunk.{HeldChunk}
use Rattle.trace_writer.specs.declared.fragment.OpenFragment.{OpenFragment}
use Rattle.trace_writer.specs.declared.packet.OpenPacket.{OpenPacket}
use Rattle.trace_writer.specs.declared.state.State.TheVariants.{Idle, Between, Writing, Dropping, Stalled}
use Rattle.trace_writer.specs.declared.state.Writer.{Writer}
use Rattle.trace_writer.specs.Refusals.{field_refusal, nested_refusal}
use Rattle.trace_writer.specs.Agreement.{Agrees, StateAgrees, IsInPacketOf, is_begun, len_of, open_message_count}
use Rattle.trace_writer.specs.Core.{in_packet, newest_depth, open_depth, field_fault, nested_fault}
use Rattle.chunk_plain.specs.Histories.{completed_images}
use Rattle.trace_writer.specs.Filled.{ShowsPages}
use Rattle.trace_writer.specs.Site.{Site, site_of}
use Rattle.trace_writer.proofs.accounts.Accounts.{measured_depth}
use Rattle.trace_writer.proofs.accounts.CutLaws.{images_held}
use Rattle.trace_writer.proofs.holding.Seats.{shows_long}

-- The packet that is begun

in_packet_of : (packets : List Packet) (open_one : Option OpenPacket) → IsInPacketOf packets open_one → is_begun open_one ≡ is_writing packets
in_packet_of packets None e = sym e
in_packet_of [] (Some open_packet) e = absurd e
in_packet_of (packet ∷ older) (Some open_packet) e = ap not (sym e.0)

pub begun_is_writing : (setup : Setup) (place : ℕ) (view : WriterView) (writer : Writer) → Agrees setup place view writer → is_begun writer.packet ≡ in_packet view
begun_is_writing setup place view writer agrees = in_packet_of (packets_of view.calls) writer.packet agrees.packet

newest_depth_of : (packets : List Packet) (open_one : Option OpenPacket) → IsInPacketOf packets open_one → is_begun open_one ≡ true
    → open_message_count open_one ≡ newest_depth packets
newest_depth_of packets None e begun = absurd (cc)
newest_depth_of [] (Some open_packet) e begun = absurd e
newest_depth_of (packet ∷ older) (Some open_packet) e begun = measured_depth open_packet packet e.1

newest_len_of : (packets : List Packet) (open_one : Option OpenPacket) → IsInPacketOf packets open_one → is_begun open_one ≡ true
    → len_of open_one ≡ newest_length packets
newest_len_of packets None e begun = absurd (cc)
newest_len_of [] (Some open_packet) e begun = absurd e
newest_len_of (packet ∷ older) (Some open_packet) e begun =
    omega (arith, e.1.len, length-drop (length (front_of packet)) (body_of packet))

pub begun_depth : (setup : Setup) (place : ℕ) (view : WriterView) (writer : Writer) → Agrees setup place view writer → in_packet view ≡ true
    → open_message_count writer.packet ≡ newest_depth (packets_of view.calls)
begun_depth setup place view writer agrees writes =
    newest_depth_of (packets_of view.calls) writer.packet agrees.packet (begun_is_writing setup place view writer agrees ∙ writes)

pub begun_len : (setup : Setup) (place : ℕ) (view : WriterView) (writer : Writer) → Agrees setup place view writer → in_packet view ≡ true
    → len_of writer.packet ≡ newest_length (packets_of view.calls)
begun_len setup place view writer agrees writes =
    newest_len_of (packets_of view.calls) writer.packet agrees.packet (begun_is_writing setup place view writer agrees ∙ writes)

open_depth_of : (packets : List Packet) (open_one : Option OpenPacket) → IsInPacketOf packets open_one
    → open_message_count open_one ≡ (if is_writing packets then newest_depth packets else 0)
open_depth_of packets None e = sym (ap (λ (b : Bool). if b then newest_depth packets else 0) e)
open_depth_of [] (Some open_packet) e = absurd e
open_depth_of (packet ∷ older) (Some open_packet) e =
    measured_depth open_packet packet e.1 ∙ sym (ap (λ (b : Bool). if not b then newest_depth (packet ∷ older) else 0) e.0)

pub depth_is : (setup : Setup) (place : ℕ) (view : WriterView) (writer : Writer) → Agrees setup place view writer → open_message_count writer.packet ≡ open_depth view
depth_is setup place view writer agrees = open_depth_of (packets_of view.calls) writer.packet agrees.packet

-- Refusals

none_of : (a b : Bool) (first second : CallFault) → (if a then Some first else (if b then Some second else None)) ≡ None → b ≡ false
none_of true b first second e = absurd (cc)
none_of false true first second e = absurd (cc)
none_of false false first second e = refl

within_limit : (n : ℕ) → nat_lt MAX_PACKET_LEN n ≡ false → n ≤ MAX_PACKET_LEN
within_limit n e = grind (arith, nat_tests)

pub field_fits : (depth len field more : ℕ) → field_refusal depth len field more ≡ None → len + more ≤ MAX_PACKET_LEN
field_fits depth len field more e =
    within_limit (len + more) (none_of ((depth == 0) && is_reserved field) (nat_lt MAX_PACKET_LEN (len + more)) (Reserved field) PacketTooLong e)

none_of_three : (a b c : Bool) (first second third : CallFault)
    → (if a then Some first else (if b then Some second else (if c then Some third else None))) ≡ None → c ≡ false
none_of_three true b c first second third e = absurd (cc)
none_of_three false true c first second third e = absurd (cc)
none_of_three false false true first second third e = absurd (cc)
none_of_three false false false first second third e = refl

pub nested_fits : (depth len field tag_len : ℕ) → nested_refusal depth len field tag_len ≡ None → len + (tag_len + 4) ≤ MAX_PACKET_LEN
nested_fits depth len field tag_len e =
    within_limit (len + (tag_len + 4))
    (none_of_three ((depth == 0) && is_reserved field) (depth == MAX_NESTING) (nat_lt MAX_PACKET_LEN (len + (tag_len + 4))) (Reserved field) TooDeep PacketTooLong e)

-- any two fields that are too long are refused alike
pub field_long : (depth len field more other : ℕ) → MAX_PACKET_LEN < more → MAX_PACKET_LEN < other
    → field_refusal depth len field more ≡ field_refusal depth len field other
field_long depth len field more other long longer =
    ap (λ (b : Bool). if (depth == 0) && is_reserved field then Some (Reserved field) else (if b then Some PacketTooLong else None))
    (past (len + more) (omega (arith, long)) ∙ sym (past (len + other) (omega (arith, longer))))
  where
    past : (n : ℕ) → MAX_PACKET_LEN < n → nat_lt MAX_PACKET_LEN n ≡ true
    past n more_than = grind (arith, nat_tests)

-- the refusals by the writer's packet are those by the view
pub field_fault_is : (setup : Setup) (place : ℕ) (view : WriterView) (writer : Writer) (field more : ℕ) → Agrees setup place view writer → in_packet view ≡ true
    → field_refusal (open_message_count writer.packet) (len_of writer.packet) field more ≡ field_fault view field more
field_fault_is setup place view writer field more agrees writes =
    ap (λ (depth : ℕ). field_refusal depth (len_of writer.packet) field more) (begun_depth setup place view writer agrees writes)
    ∙ ap (λ (len : ℕ). field_refusal (newest_depth (packets_of view.calls)) len field more) (begun_len setup place view writer agrees writes)

pub nested_fault_is : (setup : Setup) (place : ℕ) (view : WriterView) (writer : Writer) (field : ℕ) (tag : List ℕ) → Agrees setup place view writer → in_packet view ≡ true
    → tag ≡ nested_tag field → nested_refusal (open_message_count writer.packet) (len_of writer.packet) field (length tag) ≡ nested_fault view field
nested_fault_is setup place view writer field tag agrees writes tag_is =
    ap (λ (depth : ℕ). nested_refusal depth (len_of writer.packet) field (length tag)) (begun_depth setup place view writer agrees writes)
    ∙ ap (λ (len : ℕ). nested_refusal (newest_depth (packets_of view.calls)) len field (length tag)) (begun_len setup place view writer agrees writes)
    ∙ ap (λ (bytes : List ℕ). nested_refusal (newest_depth (packets_of view.calls)) (newest_length (packets_of view.calls)) field (length bytes)) tag_is

-- What stands before a text that is too long is not asked for: the head then says the greatest length that is not.
head_is : (field total count : ℕ) (head : List ℕ) → head ≡ bytes_head field count → count ≡ min total MAX_PACKET_LEN → total ≤ MAX_PACKET_LEN → head ≡ bytes_head field total
head_is field total count head is count_is few = is ∙ ap (bytes_head field) (count_is ∙ min-eq_left few)

pub bytes_fault : (depth len field total count : ℕ) (head : List ℕ) → head ≡ bytes_head field count → count ≡ min total MAX_PACKET_LEN
    → field_refusal depth len field (length head + total) ≡ field_refusal depth len field (length (bytes_head field total) + total)
bytes_fault depth len field total count head is count_is = by (nat_le total MAX_PACKET_LEN) refl
  where
    by : (b : Bool) → nat_le total MAX_PACKET_LEN ≡ b
        → field_refusal depth len field (length head + total) ≡ field_refusal depth len field (length (bytes_head field total) + total)
    by true e = ap (λ (bytes : List ℕ). field_refusal depth len field (length bytes + total)) (head_is field total count head is count_is (few e))
      where
        few : nat_le total MAX_PACKET_LEN ≡ true → total ≤ MAX_PACKET_LEN
        few e = grind (arith, nat_tests)
    by false e = field_long depth len field (length head + total) (length (bytes_head field total) + total) (omega (arith, many e)) (omega (arith, many e))
      where
        many : nat_le total MAX_PACKET_LEN ≡ false → MAX_PACKET_LEN < total
        many e = grind (arith, nat_tests)

-- a text that was accepted has the head that its length asks for
pub accepted_head : (depth len field total count : ℕ) (head : List ℕ) → head ≡ bytes_head field count → count ≡ min total MAX_PACKET_LEN
    → field_refusal depth len field (length head + total) ≡ None → head ≡ bytes_head field total
accepted_head depth len field total count head is count_is accepted =
    head_is field total count head is count_is (omega (arith, field_fits depth len field (length head + total) accepted))

pub bytes_call : (field times : ℕ) (text head : List ℕ) (account : Account) → head ≡ bytes_head field (times * length text)
    → on_newest (with_more (bytes_field field text times)) account ≡ on_newest (with_more (head ++ repeat times text)) account
unfolding bytes_field
bytes_call field times text head account is = ap (λ (bytes : List ℕ). on_newest (with_more (bytes ++ repeat times text)) account) (sym is)

-- Chunks

many_images : (site : Site) (position : ℕ) (begun : List BegunChunk) (pages : List Page) → ShowsPages site position begun pages → length (completed_images begun) ≡ length begun
many_images site position [] pages shown = refl
many_images site position (Held chunk head ∷ begun) pages shown = absurd shown
many_images site position (Completed chunk content ∷ begun) [] shown = absurd shown
many_images site position (Completed chunk content ∷ begun) (page ∷ pages) shown = ap suc (many_images site (suc position) begun pages shown.1)

-- so many chunks were begun, and so many of them completed, where one is held
pub record CountsHeld (position : ℕ) (begun : List BegunChunk) : Type 0 where
  pub begun_is : length begun ≡ position + 1
  pub completed_is : position ≡ length (completed_images begun)

counts_held : (site : Site) (position chunk : ℕ) (head : Draft) (begun completed : List BegunChunk) (pages : List Page) → begun ≡ completed ++ Held chunk head ∷ []
    → ShowsPages site 0 completed pages → position ≡ length pages → CountsHeld position begun
counts_held site position chunk head begun completed pages is shown position_is =
    let long : length completed ≡ length pages = shows_long site 0 completed pages shown in
    record {
      begun_is = ap length is ∙ length-append completed (Held chunk head ∷ []) ∙ omega (arith, long, position_is);
      completed_is = position_is ∙ sym long ∙ sym (many_images site 0 completed pages shown)
          ∙ sym (ap length (ap completed_images is ∙ images_held completed chunk head));
    }

pub between_counts : (setup : Setup) (place : ℕ) (view : WriterView) (writer : Writer) (chunk : HeldChunk) → writer.state ≡ Between chunk
    → Agrees setup place view writer → CountsHeld chunk.held.position view.begun
between_counts setup place view writer chunk state agrees =
    let behind = subst (StateAgrees (site_of setup place writer.route) (account_of view.calls) view writer.pending) state agrees.state in
    counts_held (site_of setup place writer.route) chunk.held.position chunk.held.chunk behind.draft view.begun behind.completed behind.pages behind.begun behind.shown behind.position

pub writing_counts : (setup : Setup) (place : ℕ) (view : WriterView) (writer : Writer) (fragment : OpenFragment) → writer.state ≡ Writing fragment
    → Agrees setup place view writer → CountsHeld fragment.held.position view.begun
writing_counts setup place view writer fragment state agrees =
    let into = subst (StateAgrees (site_of setup place writer.route) (account_of view.calls) view writer.pending) state agrees.state in
    counts_held (site_of setup place writer.route) fragment.held.position fragment.held.chunk into.inside.draft view.begun into.inside.completed into.inside.pages
    into.inside.begun into.inside.shown into.inside.position

-- and where none is held
pub record CountsIdle (next_position : ℕ) (begun : List BegunChunk) : Type 0 where
  pub begun_is : length begun ≡ next_position
  pub completed_is : next_position ≡ length (completed_images begun)

counts_idle : (site : Site) (next_position : ℕ) (begun : List BegunChunk) (pages : List Page) → next_position ≡ length begun → ShowsPages site 0 begun pages → CountsIdle next_position begun
counts_idle site next_position begun pages next shown = record { begun_is = sym next; completed_is = next ∙ sym (many_images site 0 begun pages shown) }

pub idle_counts : (setup : Setup) (place : ℕ) (view : WriterView) (writer : Writer) (next_position : ℕ) → writer.state ≡ Idle next_position
    → Agrees setup place view writer → CountsIdle next_position view.begun
idle_counts setup place view writer next_position state agrees =
    let idle = subst (StateAgrees (site_of setup place writer.route) (account_of view.calls) view writer.pending) state agrees.state in
    counts_idle (site_of setup place writer.route) next_position view.begun idle.1.pages idle.0 idle.1.shown

pub dropping_counts : (setup : Setup) (place : ℕ) (view : WriterView) (writer : Writer) (next_position : ℕ) → writer.state ≡ Dropping next_position
    → Agrees setup place view writer → CountsIdle next_position view.begun
dropping_counts setup place view writer next_position state agrees =
    let lost = subst (StateAgrees (site_of setup place writer.route) (account_of view.calls) view writer.pending) state agrees.state in
    counts_idle (site_of setup place writer.route) next_position view.begun lost.1.idle.pages lost.0 lost.1.idle.shown

pub stalled_counts : (setup : Setup) (place : ℕ) (view : WriterView) (writer : Writer) (next_position : ℕ) → writer.state ≡ Stalled next_position
    → Agrees setup place view writer → CountsIdle next_position view.begun
stalled_counts setup place view writer next_position state agrees =
    let stuck = subst (StateAgrees (site_of setup place writer.route) (account_of view.calls) view writer.pending) state agrees.state in
    counts_idle (site_of setup place writer.route) next_position view.begun stuck.1.pages stuck.0 stuck.1.shown
