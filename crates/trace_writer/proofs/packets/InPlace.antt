-- What a call adds to the packet, put into the fragment that is written without moving it.
use Rattle.std.proofs.Common.{◌≡◌, ◌∙◌, ℕ, ◌+◌, ◌-◌, ◌*◌, ◌<◌, ◌≤◌, true, min, List, [], ◌++◌, length, Option, Some, None, take, drop, refl, sym, ap, subst, arith, append_assoc, length-append, add-one}
use Rattle.std.proofs.Math.Nat.{suc-mul, mul-le-mul_right}
use Rattle.std.specs.Prelude.{vec_len}
use Rattle.std.specs.List.{repeat}
use Rattle.std.proofs.lemmas.Grind.{common_steps}
use Rattle.std.proofs.lemmas.Bool.{true≢false}
use Rattle.std.proofs.lemmas.List.{take-append-drop, length-take, take_all, drop-drop}
use Rattle.trace_model.specs.Calls.{Call, Nested}
use Rattle.trace_model.specs.Encoding.{nested_tag}
use Rattle.trace_model.specs.Images.{with_bytes}
use Rattle.trace_model.specs.Packets.{Packet, Account, account_of, noted, on_newest, with_more}
use Rattle.trace_model.proofs.EncodingLemmas.{length-repeat}
use Rattle.chunk_plain.specs.Setup.{Setup}
use Rattle.chunk_plain.specs.Views.{WriterView}
use Rattle.chunk_plain.specs.Steps.{notes_call}
use Rattle.cut_steps.specs.Writing.{with_open}
use Rattle.cut_steps.proofs.Places.{with_bytes_mid}
use Rattle.trace_writer.specs.declared.fragment.OpenFragment.{OpenFragment}
use Rattle.trace_writer.specs.declared.packet.OpenPacket.{OpenPacket}
use Rattle.trace_writer.specs.declared.state.State.{State}
use Rattle.trace_writer.specs.declared.state.State.TheVariants.{Idle, Between, Writing, Dropping, Stalled}
use Rattle.trace_writer.specs.Empty.{is_empty}
use Rattle.trace_writer.specs.declared.state.Writer.{Writer}
use Rattle.trace_writer.specs.Site.{Site, site_of}
use Rattle.trace_writer.specs.Filled.{HasByte}
use Rattle.trace_writer.specs.Fragment.{IsSameChunk, IsPutInto, OpensMessage}
use Rattle.trace_writer.specs.Flows.{SetsAside}
use Rattle.trace_writer.specs.Ids.{HasIds}
use Rattle.trace_writer.specs.InPlace.{PutsField, PutsNested}
use Rattle.trace_writer.specs.Agreement.{IsWritingInto, Agrees, NeedsNoChunk, is_begun, len_of, open_message_count}
use Rattle.trace_writer.proofs.packets.Putting.{inside_more, ids_behind, repeat-next}
use Rattle.trace_writer.proofs.packets.SettingAside.{sets_here}
use Rattle.trace_writer.proofs.accounts.Measuring.{measured_more, measured_nested}
use Rattle.trace_writer.proofs.accounts.Agreeing.{IsOpen, open_newest, writing_agrees, agrees_writing, as_many_holes, grows_more, grows_nested}
use Rattle.trace_writer.proofs.packets.RunOn.{inside_seen}

-- Bytes behind bytes

pub with_bytes_both : (old one two : List ℕ) (at : ℕ) → at + length one + length two ≤ length old
    → with_bytes (with_bytes old at one) (at + length one) two ≡ with_bytes old at (one ++ two)
with_bytes_both old one two at fits =
    let rest : List ℕ = drop (at + length one) old in
    let front : List ℕ = take at old ++ one in
    let place : at + length one ≡ length front = omega (arith, length-append (take at old) one, length-take at old) in
    let long : length (take (length two) rest) ≡ length two = grind (arith, common_steps) in
    let more : at + length one + length two ≡ at + length (one ++ two) = omega (arith, length-append one two) in
    ap (λ (xs : List ℕ). with_bytes xs (at + length one) two)
    (ap (λ (xs : List ℕ). front ++ xs) (sym (take-append-drop (length two) rest)) ∙ sym (append_assoc front (take (length two) rest) (drop (length two) rest)))
    ∙ ap (λ (n : ℕ). with_bytes (front ++ take (length two) rest ++ drop (length two) rest) n two) place
    ∙ with_bytes_mid front (take (length two) rest) (drop (length two) rest) two long
    ∙ ap (λ (xs : List ℕ). front ++ two ++ xs) (drop-drop (length two) (at + length one) old ∙ ap (λ (n : ℕ). drop n old) more)
    ∙ ap (λ (xs : List ℕ). xs ++ drop (at + length (one ++ two)) old) (append_assoc (take at old) one two)

pub same_both : (old mid new : OpenFragment) → IsSameChunk old mid → IsSameChunk mid new → IsSameChunk old new
same_both old mid new first second = record {
  chunk = second.chunk ∙ first.chunk;
  position = second.position ∙ first.position;
  patches = second.patches ∙ first.patches;
  start = second.start ∙ first.start;
  count = second.count ∙ first.count;
  continues = second.continues ∙ first.continues;
  len = second.len ∙ first.len;
}

-- a piece that fits is put in whole
pub put_all : (now next : OpenFragment) (piece : List ℕ) (count : ℕ) → count ≡ min (length piece) (vec_len now.held.body.payload - now.at)
    → now.at + length piece ≤ vec_len now.held.body.payload → IsPutInto now next now.at (take count piece) → IsPutInto now next now.at piece
put_all now next piece count count_is fits put =
    subst (λ (xs : List ℕ). IsPutInto now next now.at xs) (take_all count piece (omega (arith, count_is, fits))) put

-- and another behind it
pub put_both : (old mid new : OpenFragment) (one two : List ℕ) → old.at + length one + length two ≤ vec_len old.held.body.payload
    → mid.at ≡ old.at + length one → IsPutInto old mid old.at one → IsPutInto mid new mid.at two → IsPutInto old new old.at (one ++ two)
put_both old mid new one two fits at_is first second = record {
  same = same_both old mid new first.same second.same;
  payload = second.payload
      ∙ ap (λ (xs : List ℕ). with_bytes xs mid.at two) first.payload
      ∙ ap (λ (n : ℕ). with_bytes (with_bytes old.held.body.payload.items old.at one) n two) at_is
      ∙ with_bytes_both old.held.body.payload.items one two old.at (omega (arith, fits, old.held.body.payload.ok.0));
}

-- and once more behind so many
pub put_again : (old mid new : OpenFragment) (piece : List ℕ) (turn : ℕ) → old.at + turn * length piece + length piece ≤ vec_len old.held.body.payload
    → mid.at ≡ old.at + turn * length piece → IsPutInto old mid old.at (repeat turn piece) → IsPutInto mid new mid.at piece
    → IsPutInto old new old.at (repeat (turn + 1) piece)
put_again old mid new piece turn fits at_is first second =
    subst (λ (xs : List ℕ). IsPutInto old new old.at xs) (sym (repeat-next turn piece))
    (put_both old mid new (repeat turn piece) piece (omega (arith, length-repeat turn piece)) (omega (arith, at_is, length-repeat turn piece)) first second)

pub turn_next : (turn long : ℕ) → (turn + 1) * long ≡ turn * long + long
turn_next turn long = ap (λ (n : ℕ). n * long) (add-one turn) ∙ suc-mul turn long

pub turn_fits : (at turn times long end : ℕ) → turn < times → at + times * long ≤ end → at + turn * long + long ≤ end
turn_fits at turn times long end earlier fits =
    let least : turn + 1 ≤ times = omega (arith, earlier) in
    let most : (turn + 1) * long ≤ times * long = mul-le-mul_right long least in
    omega (arith, turn_next turn long, most, fits)

-- The writer

-- a fragment that had a byte has one with more behind it
byte_behind : (fragment next : OpenFragment) (at count : ℕ) (bytes : List ℕ) → IsPutInto fragment next at bytes → next.at ≡ fragment.at + count → HasByte fragment
    → HasByte next
byte_behind fragment next at count bytes put at_is byte continues first =
    omega (arith, at_is, byte (sym put.same.continues ∙ continues) (sym put.same.start ∙ first))

-- a field was put into the fragment that is written
pub agrees_put : (setup : Setup) (place : ℕ) (view new : WriterView) (before after : Writer) (bytes : List ℕ) (call : Call) → Agrees setup place view before
    → PutsField before after bytes → len_of before.packet + length bytes ≤ 1048576 → ((account : Account) → noted account call ≡ on_newest (with_more bytes) account)
    → new ≡ notes_call view call → Agrees setup place new after
agrees_put setup place view new before after bytes call a puts fits noted_is new_is =
    let site : Site = site_of setup place before.route in
    let w : IsWritingInto site (account_of view.calls) view before.pending puts.fragment = writing_agrees setup place view before puts.fragment a puts.was in
    let is : IsOpen view puts.open_one w.packet = open_newest setup place view before puts.open_one w.packet w.older a puts.packet_was w.packets in
    subst (λ (one : Writer). Agrees setup place new one) (sym puts.new_is)
    (agrees_writing setup place view new before puts.fragment puts.next before.pending puts.open_one puts.later w.packet w.older (length bytes) (with_more bytes) call a
    puts.packet_was w.packets w.unflushed (grows_more bytes (length bytes) refl)
    (measured_more puts.open_one puts.later w.packet bytes (length bytes) refl puts.len puts.starts is.some is.measured)
    (subst (λ (o : Option OpenPacket). len_of o + length bytes ≤ 1048576) puts.packet_was fits) noted_is (ap (λ (v : WriterView). v.calls) new_is)
    (inside_seen site (with_more bytes w.packet) w.older view new before.pending puts.next [] (ap (λ (v : WriterView). v.begun) new_is)
    (inside_more site w.packet w.older view before.pending puts.fragment puts.next bytes puts.put puts.at w.inside))
    (byte_behind puts.fragment puts.next puts.fragment.at (length bytes) bytes puts.put puts.at w.byte) w.ids
    (λ further. ids_behind puts.fragment puts.next puts.fragment.at bytes (length bytes) further puts.put puts.at))

-- there is room for one more hole where there is for one more message
pub few_holes : (setup : Setup) (place : ℕ) (view : WriterView) (writer : Writer) (packet : Option OpenPacket) (fragment : OpenFragment) → writer.packet ≡ packet
    → Agrees setup place view writer → writer.state ≡ Writing fragment → is_begun packet ≡ true → open_message_count packet < 16 → length writer.pending.holes < 16
few_holes setup place view writer None fragment is a was begun depth = absurd (true≢false (sym begun))
few_holes setup place view writer (Some open_one) fragment is a was begun depth =
    subst (λ (n : ℕ). n < 16) (sym (as_many_holes setup place view writer fragment open_one a was is)) depth

-- a nested message was begun in it
pub agrees_opened : (setup : Setup) (place : ℕ) (view new : WriterView) (before after : Writer) (field : ℕ) (tag : List ℕ) → Agrees setup place view before
    → PutsNested before after tag → len_of before.packet + (length tag + 4) ≤ 1048576 → length before.pending.holes < 16 → tag ≡ nested_tag field
    → new ≡ notes_call view (Nested field) → Agrees setup place new after
agrees_opened setup place view new before after field tag a puts fits few tag_is new_is =
    let site : Site = site_of setup place before.route in
    let w : IsWritingInto site (account_of view.calls) view before.pending puts.fragment = writing_agrees setup place view before puts.fragment a puts.was in
    let is : IsOpen view puts.open_one w.packet = open_newest setup place view before puts.open_one w.packet w.older a puts.packet_was w.packets in
    let opens : OpensMessage puts.fragment puts.next before.pending after.pending tag = puts.opens in
    let sets : SetsAside site view view before.pending after.pending opens.tagged puts.next =
    sets_here site view before.pending after.pending opens.tagged puts.next opens.put_length opens.length_at opens.adds few in
    subst (λ (one : Writer). Agrees setup place new one) (sym puts.new_is)
    (agrees_writing setup place view new before puts.fragment puts.next after.pending puts.open_one puts.later w.packet w.older (length tag + 4)
    (λ (packet : Packet). with_open (with_more tag packet)) (Nested field) a
    puts.packet_was w.packets w.unflushed (grows_nested tag)
    (measured_nested puts.open_one puts.later w.packet tag (length tag) refl puts.len puts.starts is.some is.measured)
    (subst (λ (o : Option OpenPacket). len_of o + (length tag + 4) ≤ 1048576) puts.packet_was fits)
    (λ account. ap (λ (t : List ℕ). on_newest (λ (packet : Packet). with_open (with_more t packet)) account) (sym tag_is))
    (ap (λ (v : WriterView). v.calls) new_is)
    (inside_seen site (with_open (with_more tag w.packet)) w.older view new after.pending puts.next [] (ap (λ (v : WriterView). v.begun) new_is)
    (sets.keeps (with_more tag w.packet) w.older (inside_more site w.packet w.older view before.pending puts.fragment opens.tagged tag opens.put opens.at w.inside)))
    sets.byte w.ids
    (λ further h. sets.ids further (ids_behind puts.fragment opens.tagged puts.fragment.at tag (length tag) (4 + further) opens.put opens.at
    (subst (λ (n : ℕ). HasIds puts.fragment n) (omega arith) h))))

-- where no further chunk is needed and nothing fits into a fragment, none is held
pub needs_empty : (state : State) (more : ℕ) → NeedsNoChunk state more
    → ((fragment : OpenFragment) → state ≡ Writing fragment → fragment.at + more ≤ vec_len fragment.held.body.payload → ⊥) → is_empty state ≡ true
needs_empty (Idle next_position) more needs none = absurd needs
needs_empty (Between chunk) more needs none = absurd needs
needs_empty (Writing fragment) more needs none = absurd (none fragment refl needs)
needs_empty (Dropping next_position) more needs none = refl
needs_empty (Stalled next_position) more needs none = refl
