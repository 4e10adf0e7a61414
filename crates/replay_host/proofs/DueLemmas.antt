-- What each kind of line asks of its writer, and that a request is due behind it where one was before.
use Rattle.std.proofs.Common.{◌≡◌, ◌≢◌, ◌∙◌, ℕ, zero, suc, ◌-◌, ◌≤◌, ◌&&◌, Bool, true, false, not, cond, List, [], ◌∷◌, ◌++◌, map, fold, refl, sym, ap, arith}
use Rattle.std.proofs.lemmas.Grind.{fold-append}
use Rattle.std.proofs.lemmas.Bool.{eq-eqb, ne_eqb, and_left}
use Rattle.trace_model.specs.Calls.{Call, Begun, Nested, Ended, Finished, Flushed}
use Rattle.trace_model.specs.Encoding.{number_field, bytes_field}
use Rattle.trace_model.specs.Packets.{Account, Packet, noted, is_writing, on_newest, with_more, with_nested, with_nested_ended, finished_packet}
use Rattle.field_tree.specs.Nodes.{Shown}
use Rattle.field_tree.specs.declared.node.FieldNode.TheVariants as node
use Rattle.scenario_text.specs.declared.scenario.LineKind.{LineKind}
use Rattle.scenario_text.specs.declared.scenario.LineKind.TheVariants as line
use Rattle.scenario_text.specs.declared.scenario.NumberedLine.{NumberedLine}
use Rattle.scenario_text.specs.Scenario.{Parts}
use Rattle.scenario_text.specs.Accepted.{node_call, if_own, line_calls, closes, AreAccepted}
use Rattle.replay_model.specs.Acts.{asks}
use Rattle.replay_model.specs.Schedule.{acts_of, asked_of, is_due_after}
use Rattle.replay_host.specs.Asks.{AsksFor, LeavesDue}
use Rattle.replay_model.specs.Flushes.{request_count}

-- ---- whether a packet is begun

-- a change to the newest packet that doesn't finish it leaves it begun or not
writing_change : (change : Packet → Packet) → ((packet : Packet) → (change packet).finished ≡ packet.finished) → (flushed : Bool) (packets : List Packet)
    → is_writing (on_newest change (record { packets = packets; flushed = flushed })).packets ≡ is_writing packets
writing_change change same flushed [] = refl
writing_change change same flushed (packet ∷ older) = ap not (same packet)

pub writing_finished : (account : Account) → is_writing (noted account Finished).packets ≡ false
writing_finished account = by_packets account.packets
  where
    by_packets : (packets : List Packet) → is_writing (on_newest finished_packet (record { packets = packets; flushed = account.flushed })).packets ≡ false
    by_packets [] = refl
    by_packets (packet ∷ older) = refl

writing_node : (account : Account) (shown : Shown) → is_writing (noted account (node_call shown)).packets ≡ is_writing account.packets
unfolding node_call
writing_node account (node.Number field value, text) =
    writing_change (with_more (number_field field value)) (λ packet. refl) account.flushed account.packets
writing_node account (node.Bytes field times, text) =
    writing_change (with_more (bytes_field field text times)) (λ packet. refl) account.flushed account.packets
writing_node account (node.Begin field, text) = writing_change (with_nested field) (λ packet. refl) account.flushed account.packets
writing_node account (node.End, text) = writing_change with_nested_ended (λ packet. refl) account.flushed account.packets

writing_fields : (account : Account) (fields : List Shown) → is_writing (fold noted account (map node_call fields)).packets ≡ is_writing account.packets
writing_fields account [] = refl
writing_fields account (shown ∷ fields) = writing_fields (noted account (node_call shown)) fields ∙ writing_node account shown

-- ---- what a line asks

pub own_is : (number : ℕ) (calls : List Call) → if_own number number calls ≡ calls
own_is number calls = ap (λ (b : Bool). cond b calls []) (eq-eqb number number refl)

pub other_is : (number writer : ℕ) (calls : List Call) → number ≢ writer → if_own number writer calls ≡ []
other_is number writer calls apart = ap (λ (b : Bool). cond b calls []) (ne_eqb number writer apart)

-- a line of the writer with this number
pub asks_for : (kind : LineKind) (writer : ℕ) (calls : List Call) → 1 ≤ writer → ((number : ℕ) → line_calls number kind ≡ if_own number writer calls)
    → request_count kind ≡ 0 → ((producer : ℕ) → closes producer kind ≡ false) → AsksFor kind (writer - 1) calls
asks_for kind writer calls least asked no_request none =
    let next : suc (writer - 1) ≡ writer = omega (arith, least) in
    record {
      own = asked (suc (writer - 1)) ∙ ap (λ (n : ℕ). if_own n writer calls) next ∙ own_is writer calls;
      others = λ number apart. asked number ∙ other_is number writer calls (λ same. apart (same ∙ sym next));
      no_request = no_request;
      closes_none = none;
    }

-- and its acts
pub acts_asked : (kind : LineKind) (writer : ℕ) (calls : List Call) (scenario : Parts) (before : List NumberedLine) → 1 ≤ writer
    → acts_of scenario before kind ≡ asked_of writer (line_calls writer kind) → line_calls writer kind ≡ if_own writer writer calls
    → acts_of scenario before kind ≡ asks (writer - 1) calls
acts_asked kind writer calls scenario before least acts asked =
    acts ∙ ap (asked_of writer) (asked ∙ own_is writer calls) ∙ by_number writer least
  where
    by_number : (n : ℕ) → 1 ≤ n → asked_of n calls ≡ asks (n - 1) calls
    by_number zero most = absurd (omega (arith, most))
    by_number (suc place) most = ap (λ (n : ℕ). asks n calls) (let same : place ≡ suc place - 1 = omega arith in same)

-- ---- where a request is due

-- the calls leave whether a packet is begun
due_same : (kind : LineKind) (place : ℕ) (calls : List Call) → ((number : ℕ) (due : Bool) → is_due_after number due kind ≡ due)
    → ((account : Account) → AreAccepted account calls → is_writing (fold noted account calls).packets ≡ is_writing account.packets) → LeavesDue kind place calls
due_same kind place calls same writing = record {
  others = λ number due apart. same number due;
  own = λ account accepted due.
      ap (λ (d : Bool). is_writing (fold noted account calls).packets && d) (same (suc place) due) ∙ ap (λ (b : Bool). b && due) (writing account accepted);
}

pub due_fields : (writer place : ℕ) (fields : List Shown) → LeavesDue (line.Add writer fields) place (map node_call fields)
due_fields writer place fields = due_same (line.Add writer fields) place (map node_call fields) (λ number due. refl) (λ account accepted. writing_fields account fields)

pub due_nest : (writer place field : ℕ) → LeavesDue (line.Nest writer field) place (Nested field ∷ [])
due_nest writer place field = due_same (line.Nest writer field) place (Nested field ∷ []) (λ number due. refl) (λ account accepted. writing_change (with_nested field) (λ packet. refl) account.flushed account.packets)

pub due_unnest : (writer place : ℕ) → LeavesDue (line.Unnest writer) place (Ended ∷ [])
due_unnest writer place = due_same (line.Unnest writer) place (Ended ∷ []) (λ number due. refl) (λ account accepted. writing_change with_nested_ended (λ packet. refl) account.flushed account.packets)

pub due_flush : (writer place : ℕ) → LeavesDue (line.Flush writer) place (Flushed ∷ [])
due_flush writer place = due_same (line.Flush writer) place (Flushed ∷ []) (λ number due. refl) (λ account accepted. refl)

pub due_packet : (writer place : ℕ) (fields : List Shown) → LeavesDue (line.Packet writer fields) place (Begun true ∷ map node_call fields ++ Finished ∷ [])
due_packet writer place fields =
    due_same (line.Packet writer fields) place (Begun true ∷ map node_call fields ++ Finished ∷ []) (λ number due. refl)
    (λ account accepted.
    ap (λ (a : Account). is_writing a.packets) (fold-append noted (noted account (Begun true)) (map node_call fields) (Finished ∷ []))
    ∙ writing_finished (fold noted (noted account (Begun true)) (map node_call fields)) ∙ sym accepted.0.1)

-- a packet that begins now has no request to answer
pub due_begin : (writer : ℕ) → 1 ≤ writer → LeavesDue (line.Begin writer) (writer - 1) (Begun true ∷ [])
due_begin writer least =
    let next : suc (writer - 1) ≡ writer = omega (arith, least) in
    record {
      others = λ number due apart. ap (λ (b : Bool). cond b false due) (ne_eqb writer number (λ same. apart (sym same ∙ sym next)));
      own = λ account accepted due.
          ap (λ (b : Bool). cond b false due) (eq-eqb writer (suc (writer - 1)) (sym next)) ∙ sym (and_left (is_writing account.packets) due accepted.0.1);
    }
