-- What a call leaves of the packet that is begun, by the view of the writer's seat.
use Rattle.std.proofs.Common.{◌≡◌, ◌∙◌, ℕ, ◌+◌, ◌<◌, Bool, true, false, not, true≢false, if◌then◌else◌, List, [], ◌∷◌, ◌++◌, length, refl, sym, ap, arith}
use Rattle.std.proofs.lemmas.List.Sums.{fold-append}
use Rattle.trace_model.specs.Calls.{Call, Begun, Ended, GivenUp, Finished}
use Rattle.trace_model.specs.Packets.{Packet, Account, account_of, noted, nothing_yet, on_newest, with_more, with_nested_ended, given_up_packet, finished_packet, written, closed_levels, open_places, is_writing}
use Rattle.trace_base.specs.declared.policy.WriterPolicy.{WriterPolicy}
use Rattle.trace_base.specs.declared.policy.WriterPolicy.TheVariants.{Drops, Stalls, StallsThenDrops}
use Rattle.chunk_plain.specs.Views.{WriterView}
use Rattle.trace_writer.specs.Asked.{written_as, begun_as}
use Rattle.trace_writer.specs.Helping.{refuses}
use Rattle.trace_writer.specs.Core.{in_packet, newest_depth, open_depth}
use Rattle.trace_writer.proofs.accounts.Accounts.{account_one}

-- whether a packet is begun, and how deep it is, by an account
abbrev depth_in : List Packet → ℕ
depth_in packets = if is_writing packets then newest_depth packets else 0

account_two : (calls : List Call) (first second : Call) → account_of (calls ++ first ∷ second ∷ []) ≡ noted (noted (account_of calls) first) second
account_two calls first second = fold-append noted nothing_yet calls (first ∷ second ∷ [])

-- A change to the newest packet that neither finishes it nor opens or closes a message in it

pub record KeepsOpen (change : Packet → Packet) : Type 0 where
  pub finished : (packet : Packet) → (change packet).finished ≡ packet.finished
  pub depth : (packet : Packet) → length (open_places (change packet).text.levels) ≡ length (open_places packet.text.levels)

writing_changed : (change : Packet → Packet) (packets : List Packet) (flushed : Bool) → ((packet : Packet) → (change packet).finished ≡ packet.finished)
    → is_writing (on_newest change (record { packets = packets; flushed = flushed })).packets ≡ is_writing packets
writing_changed change [] flushed same = refl
writing_changed change (packet ∷ older) flushed same = ap not (same packet)

depth_changed : (change : Packet → Packet) (packets : List Packet) (flushed : Bool) → KeepsOpen change
    → depth_in (on_newest change (record { packets = packets; flushed = flushed })).packets ≡ depth_in packets
depth_changed change [] flushed keeps = refl
depth_changed change (packet ∷ older) flushed keeps =
    ap (λ (b : Bool). if not b then length (open_places (change packet).text.levels) else 0) (keeps.finished packet)
    ∙ ap (λ (n : ℕ). if not packet.finished then n else 0) (keeps.depth packet)

given_up_keeps : KeepsOpen given_up_packet
given_up_keeps = record { finished = λ packet. refl; depth = λ packet. refl }

pub more_keeps : (bytes : List ℕ) → KeepsOpen (with_more bytes)
more_keeps bytes = record { finished = λ packet. refl; depth = λ packet. same packet.text.levels }
  where
    same : (levels : List (List ℕ)) → length (open_places (written bytes levels)) ≡ length (open_places levels)
    same [] = refl
    same (level ∷ []) = refl
    same (level ∷ outer ∷ others) = refl

-- Calls

-- a packet is begun
pub begun_in : (view new : WriterView) (kept : Bool) → new.calls ≡ view.calls ++ Begun kept ∷ [] → (in_packet new ≡ true) × (open_depth new ≡ 0)
begun_in view new kept notes =
    let account : account_of new.calls ≡ noted (account_of view.calls) (Begun kept) = ap account_of notes ∙ account_one view.calls (Begun kept) in
    (ap (λ (a : Account). is_writing a.packets) account, ap (λ (a : Account). depth_in a.packets) account)

pub begins_in : (view new : WriterView) (policy : WriterPolicy) (stopped stalled : Bool) → new.calls ≡ view.calls ++ begun_as stopped policy
    → stalled ≡ refuses policy stopped → stalled ≡ false → (in_packet new ≡ true) × (open_depth new ≡ 0)
begins_in view new policy false stalled notes is goes = begun_in view new true notes
begins_in view new Drops true stalled notes is goes = begun_in view new false notes
begins_in view new Stalls true stalled notes is goes = absurd (true≢false (sym is ∙ goes))
begins_in view new (StallsThenDrops tries) true stalled notes is goes = begun_in view new false notes

-- a field call leaves it begun, whether it is given up or not, and as deep where it opens no message
written_one : (view new : WriterView) (call : Call) (change : Packet → Packet) → ((account : Account) → noted account call ≡ on_newest change account)
    → ((packet : Packet) → (change packet).finished ≡ packet.finished) → new.calls ≡ view.calls ++ call ∷ [] → in_packet new ≡ in_packet view
written_one view new call change is same notes =
    ap (λ (a : Account). is_writing a.packets) (ap account_of notes ∙ account_one view.calls call ∙ is (account_of view.calls))
    ∙ writing_changed change (account_of view.calls).packets (account_of view.calls).flushed same

written_lost : (view new : WriterView) (call : Call) (change : Packet → Packet) → ((account : Account) → noted account call ≡ on_newest change account)
    → ((packet : Packet) → (change packet).finished ≡ packet.finished) → new.calls ≡ view.calls ++ written_as true Drops call → in_packet new ≡ in_packet view
written_lost view new call change is same notes =
    ap (λ (a : Account). is_writing a.packets) (ap account_of notes ∙ account_two view.calls call GivenUp)
    ∙ writing_changed given_up_packet (noted (account_of view.calls) call).packets (noted (account_of view.calls) call).flushed (λ packet. refl)
    ∙ ap (λ (a : Account). is_writing a.packets) (is (account_of view.calls))
    ∙ writing_changed change (account_of view.calls).packets (account_of view.calls).flushed same

pub written_in : (view new : WriterView) (call : Call) (change : Packet → Packet) (policy : WriterPolicy) (stopped : Bool)
    → ((account : Account) → noted account call ≡ on_newest change account) → ((packet : Packet) → (change packet).finished ≡ packet.finished)
    → new.calls ≡ view.calls ++ written_as stopped policy call → in_packet new ≡ in_packet view
written_in view new call change policy false is same notes = written_one view new call change is same notes
written_in view new call change Drops true is same notes = written_lost view new call change is same notes
written_in view new call change Stalls true is same notes = written_one view new call change is same notes
written_in view new call change (StallsThenDrops tries) true is same notes = written_lost view new call change is same notes

deep_one : (view new : WriterView) (call : Call) (change : Packet → Packet) → ((account : Account) → noted account call ≡ on_newest change account) → KeepsOpen change
    → new.calls ≡ view.calls ++ call ∷ [] → open_depth new ≡ open_depth view
deep_one view new call change is keeps notes =
    ap (λ (a : Account). depth_in a.packets) (ap account_of notes ∙ account_one view.calls call ∙ is (account_of view.calls))
    ∙ depth_changed change (account_of view.calls).packets (account_of view.calls).flushed keeps

deep_lost : (view new : WriterView) (call : Call) (change : Packet → Packet) → ((account : Account) → noted account call ≡ on_newest change account) → KeepsOpen change
    → new.calls ≡ view.calls ++ written_as true Drops call → open_depth new ≡ open_depth view
deep_lost view new call change is keeps notes =
    ap (λ (a : Account). depth_in a.packets) (ap account_of notes ∙ account_two view.calls call GivenUp)
    ∙ depth_changed given_up_packet (noted (account_of view.calls) call).packets (noted (account_of view.calls) call).flushed given_up_keeps
    ∙ ap (λ (a : Account). depth_in a.packets) (is (account_of view.calls))
    ∙ depth_changed change (account_of view.calls).packets (account_of view.calls).flushed keeps

pub written_deep : (view new : WriterView) (call : Call) (change : Packet → Packet) (policy : WriterPolicy) (stopped : Bool)
    → ((account : Account) → noted account call ≡ on_newest change account) → KeepsOpen change
    → new.calls ≡ view.calls ++ written_as stopped policy call → open_depth new ≡ open_depth view
written_deep view new call change policy false is keeps notes = deep_one view new call change is keeps notes
written_deep view new call change Drops true is keeps notes = deep_lost view new call change is keeps notes
written_deep view new call change Stalls true is keeps notes = deep_one view new call change is keeps notes
written_deep view new call change (StallsThenDrops tries) true is keeps notes = deep_lost view new call change is keeps notes

-- the innermost message ends
ended_depth : (packets : List Packet) (flushed : Bool) → 0 < depth_in packets
    → (is_writing (on_newest with_nested_ended (record { packets = packets; flushed = flushed })).packets ≡ true)
    × (depth_in (on_newest with_nested_ended (record { packets = packets; flushed = flushed })).packets + 1 ≡ depth_in packets)
ended_depth [] flushed deep = absurd (omega (arith, deep))
ended_depth (packet ∷ older) flushed deep = by packet.finished refl
  where
    levels_end : (levels : List (List ℕ)) (closed : _) → 0 < length (open_places levels)
        → length (open_places (closed_levels levels closed).levels) + 1 ≡ length (open_places levels)
    levels_end [] closed some = absurd (omega (arith, some))
    levels_end (level ∷ []) closed some = absurd (omega (arith, some))
    levels_end (level ∷ outer ∷ []) closed some = refl
    levels_end (level ∷ outer ∷ next ∷ others) closed some = omega arith

    depth_of_one : (b : Bool) → packet.finished ≡ b → depth_in (packet ∷ older) ≡ (if not b then length (open_places packet.text.levels) else 0)
    depth_of_one b e = ap (λ (x : Bool). if not x then length (open_places packet.text.levels) else 0) e

    by : (b : Bool) → packet.finished ≡ b
        → (is_writing (on_newest with_nested_ended (record { packets = packet ∷ older; flushed = flushed })).packets ≡ true)
        × (depth_in (on_newest with_nested_ended (record { packets = packet ∷ older; flushed = flushed })).packets + 1 ≡ depth_in (packet ∷ older))
    by true e = absurd (omega (arith, deep, depth_of_one true e))
    by false e = (
      ap not e,
      ap (λ (x : Bool). (if not x then length (open_places (closed_levels packet.text.levels packet.text.closed).levels) else 0) + 1) e
          ∙ levels_end packet.text.levels packet.text.closed (omega (arith, deep, depth_of_one false e))
          ∙ sym (depth_of_one false e),
    )

pub ended_in : (view new : WriterView) → new.calls ≡ view.calls ++ Ended ∷ [] → 0 < open_depth view → (in_packet new ≡ true) × (open_depth new + 1 ≡ open_depth view)
ended_in view new notes deep =
    let account : account_of new.calls ≡ noted (account_of view.calls) Ended = ap account_of notes ∙ account_one view.calls Ended in
    let after = ended_depth (account_of view.calls).packets (account_of view.calls).flushed deep in
    (ap (λ (a : Account). is_writing a.packets) account ∙ after.0, ap (λ (a : Account). depth_in a.packets + 1) account ∙ after.1)

-- where a message is open a packet is begun
pub deep_writing : (view : WriterView) → 0 < open_depth view → in_packet view ≡ true
deep_writing view deep = by (in_packet view) refl
  where
    by : (b : Bool) → in_packet view ≡ b → in_packet view ≡ true
    by true e = e
    by false e = absurd (omega (arith, deep, ap (λ (b : Bool). if b then newest_depth (account_of view.calls).packets else 0) e))

-- the packet is finished
finished_writing : (packets : List Packet) (flushed : Bool) → is_writing (on_newest finished_packet (record { packets = packets; flushed = flushed })).packets ≡ false
finished_writing [] flushed = refl
finished_writing (packet ∷ older) flushed = refl

pub finished_out : (view new : WriterView) → new.calls ≡ view.calls ++ Finished ∷ [] → in_packet new ≡ false
finished_out view new notes =
    ap (λ (a : Account). is_writing a.packets) (ap account_of notes ∙ account_one view.calls Finished)
    ∙ finished_writing (account_of view.calls).packets (account_of view.calls).flushed
