-- How an emitter takes calls, one after another.
use Rattle.std.proofs.Common.{◌≡◌, ◌≢◌, ◌∙◌, ℕ, zero, suc, ◌+◌, ◌*◌, ◌^◌, ◌<◌, ◌≤◌, Bool, true, false, List, [], ◌∷◌, ◌++◌, Some, Result, Ok, Err, OnOk, length, map, take, drop, refl, sym, ap, subst, arith, append_assoc, length-append}
use Rattle.std.specs.Prelude.{fold, not, slice_get}
use Rattle.std.specs.List.{repeat}
use Rattle.std.proofs.lemmas.Bool.{false≢true}
use Rattle.std.proofs.lemmas.List.{append-nil, map-append, length-map, length-reverse}
use Rattle.std.proofs.lemmas.List.Sums.{fold-append, sum_by-append, sum_by-cons, sum_by_push}
use Rattle.trace_base.specs.declared.limits.TheConstants.{MAX_OPEN_HOLES, MAX_PACKET_LEN}
use Rattle.trace_model.specs.Calls.{Call}
use Rattle.trace_model.specs.Calls as call
use Rattle.trace_model.specs.Encoding.{bytes_field, bytes_head, nested_tag, number_field}
use Rattle.trace_model.specs.Packets.{Account, Packet, is_writing, noted, open_count, open_places}
use Rattle.trace_model.proofs.EncodingLemmas.{length-repeat}
use Rattle.field_tree.specs.declared.node.FieldNode.{FieldNode}
use Rattle.field_tree.specs.declared.node.FieldNode.TheVariants as node
use Rattle.field_tree.specs.Judged.{node_len, node_len_at, nodes_len}
use Rattle.field_tree.specs.Nodes.{Shown, IsField}
use Rattle.emitted_packets.specs.declared.emitter.Emitter.{Emitter}
use Rattle.emitted_packets.proofs.EmitLemmas.{begun_on, flushed_on}
use Rattle.scenario_text.specs.Accepted.{node_call, Accepts, AreAccepted}
use Rattle.scenario_text.proofs.AcceptedFields.{accepted_front, accepted_back}
use Rattle.scenario_check.specs.Progress.{Holds, MayTake, Takes}

-- ---- one call behind another

pub may_front : (calls more : List Call) (some others : ℕ) (old : Emitter) → MayTake (calls ++ more) (some + others) old → MayTake calls some old
may_front calls more some others old may = record {
  account = may.account;
  holds = may.holds;
  accepted = accepted_front may.account calls more may.accepted;
  short = omega (arith, may.short);
}

pub may_back : (calls more : List Call) (some others packets : ℕ) (old mid : Emitter) → MayTake (calls ++ more) (some + others) old
    → Takes calls some packets old mid → MayTake more others mid
may_back calls more some others packets old mid may takes = record {
  account = fold noted may.account calls;
  holds = takes.holds may.account may.holds (accepted_front may.account calls more may.accepted);
  accepted = accepted_back may.account calls more may.accepted;
  short = omega (arith, may.short, takes.long);
}

pub takes_on : (calls more : List Call) (some others packets last : ℕ) (old mid new : Emitter) → Takes calls some packets old mid
    → Takes more others last mid new → Takes (calls ++ more) (some + others) (packets + last) old new
takes_on calls more some others packets last old mid new first then = record {
  holds = λ account holds accepted.
      subst (λ (a : Account). Holds a new) (sym (fold-append noted account calls more))
      (then.holds (fold noted account calls) (first.holds account holds (accepted_front account calls more accepted))
      (accepted_back account calls more accepted));
  long = omega (arith, first.long, then.long);
  few = omega (arith, first.few, then.few);
}

pub takes_none : (old : Emitter) → Takes [] 0 0 old old
takes_none old = record { holds = λ account holds accepted. holds; long = omega arith; few = omega arith }

pub takes_fewer : (calls : List Call) (more packets most : ℕ) (old new : Emitter) → packets ≤ most → Takes calls more packets old new → Takes calls more most old new
takes_fewer calls more packets most old new low takes = record { holds = takes.holds; long = takes.long; few = omega (arith, takes.few, low) }

-- ---- single calls

pub begun_takes : (old : Emitter) → Takes (call.Begun true ∷ []) 0 0 old old
begun_takes old = record {
  holds = λ account holds accepted. begun_on account old.bytes.items old.ends.items old.opens.items holds accepted.0.1;
  long = omega arith;
  few = omega arith;
}

pub flushed_takes : (old : Emitter) → Takes (call.Flushed ∷ []) 0 0 old old
flushed_takes old = record {
  holds = λ account holds accepted. flushed_on account old.bytes.items old.ends.items old.opens.items holds;
  long = omega arith;
  few = omega arith;
}

-- how many lengths are open
places_many : (level : List ℕ) (outer : List (List ℕ)) → length (open_places (level ∷ outer)) ≡ length outer
places_many level [] = refl
places_many level (next ∷ others) = ap suc (places_many next others)

pub opens_many : (account : Account) (emitter : Emitter) → Holds account emitter → is_writing account.packets ≡ true
    → length emitter.opens.items + 1 ≡ open_count account.packets
opens_many account emitter h writing = by_packets account.packets account.flushed h writing
  where
    unfinished : (b : Bool) → not b ≡ true → b ≡ false
    unfinished true e = absurd (false≢true e)
    unfinished false e = refl

    by_packets : (packets : List Packet) (flushed : Bool) → Holds (record { packets = packets; flushed = flushed }) emitter → is_writing packets ≡ true
        → length emitter.opens.items + 1 ≡ open_count packets
    by_packets [] flushed h writing = absurd (false≢true writing)
    by_packets (packet ∷ older) flushed h writing =
        let w = h.goes_on.1 (unfinished packet.finished writing) in
        let place = λ (place : ℕ). length h.done + place in
        omega (
          arith,
          ap length w.levels,
          places_many w.level w.outer,
          ap length w.places,
          length-map (open_places (w.level ∷ w.outer)) place,
          length-reverse emitter.opens.items,
        )

-- ---- nodes

pub number_field_of : (n : FieldNode) (field value : ℕ) (text : List ℕ) (more : ℕ) (old : Emitter) → n ≡ node.Number field value
    → MayTake (node_call (n, text) ∷ []) more old → IsField field
unfolding node_call
number_field_of n field value text more old is may =
    (subst (λ (m : FieldNode). AreAccepted may.account (node_call (m, text) ∷ [])) is may.accepted).0.numbered

pub bytes_field_of : (n : FieldNode) (field times : ℕ) (text : List ℕ) (more : ℕ) (old : Emitter) → n ≡ node.Bytes field times
    → MayTake (node_call (n, text) ∷ []) more old → IsField field × (times * length text ≤ MAX_PACKET_LEN)
unfolding node_call
bytes_field_of n field times text more old is may =
    let accepts = (subst (λ (m : FieldNode). AreAccepted may.account (node_call (m, text) ∷ [])) is may.accepted).0 in
    (accepts.numbered, omega (arith, accepts.short))

-- what holds where a nested message begins
pub record MayNest (field : ℕ) (old : Emitter) : Type 0 where
  pub numbered : IsField field
  pub short : length old.bytes.items ≤ 2 ^ 28
  pub room : length old.opens.items < MAX_OPEN_HOLES

pub may_nest : (n : FieldNode) (field : ℕ) (text : List ℕ) (more : ℕ) (old : Emitter) → n ≡ node.Begin field
    → MayTake (node_call (n, text) ∷ []) more old → MayNest field old
unfolding node_call
may_nest n field text more old is may =
    let accepts = (subst (λ (m : FieldNode). AreAccepted may.account (node_call (m, text) ∷ [])) is may.accepted).0 in
    record {
      numbered = accepts.0.numbered;
      short = omega (arith, may.short);
      room = omega (arith, accepts.1, opens_many may.account old may.holds accepts.0.begun);
    }

-- what holds where one ends
pub record MayEnd (old : Emitter) : Type 0 where
  pub short : length old.bytes.items ≤ 2 ^ 28
  pub nested : old.opens.items ≢ []
  pub account : Account
  pub holds : Holds account old
  pub writing : is_writing account.packets ≡ true

pub may_end : (n : FieldNode) (text : List ℕ) (more : ℕ) (old : Emitter) → n ≡ node.End → MayTake (node_call (n, text) ∷ []) more old → MayEnd old
unfolding node_call
may_end n text more old is may =
    let accepts = (subst (λ (m : FieldNode). AreAccepted may.account (node_call (m, text) ∷ [])) is may.accepted).0 in
    record {
      short = omega (arith, may.short);
      nested = λ none. absurd (omega (arith, accepts.1, opens_many may.account old may.holds accepts.0, ap length none));
      account = may.account;
      holds = may.holds;
      writing = accepts.0;
    }

-- a call that was noted as its node asks
pub node_takes : (n : FieldNode) (text : List ℕ) (c : Call) (len : ℕ) (old new : Emitter) → node_call (n, text) ≡ c → node_len (n, text) ≡ len
    → ((account : Account) → Holds account old → Accepts account.packets c → Holds (noted account c) new)
    → length new.bytes.items ≡ length old.bytes.items + len → new.ends.items ≡ old.ends.items
    → Takes (node_call (n, text) ∷ []) (node_len (n, text)) 0 old new
node_takes n text c len old new call_is len_is holds long same =
    let takes : Takes (c ∷ []) len 0 old new = record {
      holds = λ account before accepted. holds account before accepted.0;
      long = long;
      few = omega (arith, ap length same);
    } in
    subst (λ (d : Call). Takes (d ∷ []) (node_len (n, text)) 0 old new) (sym call_is) (subst (λ (m : ℕ). Takes (c ∷ []) m 0 old new) (sym len_is) takes)

pub number_call : (n : FieldNode) (field value : ℕ) (text : List ℕ) → n ≡ node.Number field value
    → (node_call (n, text) ≡ call.Number field value) × (node_len (n, text) ≡ length (number_field field value))
unfolding node_call node_len_at
number_call n field value text is =
    (ap (λ (m : FieldNode). node_call (m, text)) is, ap (λ (m : FieldNode). node_len (m, text)) is)

pub bytes_call : (n : FieldNode) (field times : ℕ) (text : List ℕ) → n ≡ node.Bytes field times
    → (node_call (n, text) ≡ call.Bytes field text times) × (node_len (n, text) ≡ length (bytes_field field text times))
unfolding node_call node_len_at bytes_field
bytes_call n field times text is = (
  ap (λ (m : FieldNode). node_call (m, text)) is,
  ap (λ (m : FieldNode). node_len (m, text)) is
      ∙ omega (arith, length-append (bytes_head field (times * length text)) (repeat times text), length-repeat times text),
)

pub begin_call : (n : FieldNode) (field : ℕ) (text : List ℕ) → n ≡ node.Begin field
    → (node_call (n, text) ≡ call.Nested field) × (node_len (n, text) ≡ length (nested_tag field) + 4)
unfolding node_call node_len_at
begin_call n field text is = (ap (λ (m : FieldNode). node_call (m, text)) is, ap (λ (m : FieldNode). node_len (m, text)) is)

pub end_call : (n : FieldNode) (text : List ℕ) → n ≡ node.End → (node_call (n, text) ≡ call.Ended) × (node_len (n, text) ≡ 0)
unfolding node_call node_len_at
end_call n text is = (ap (λ (m : FieldNode). node_call (m, text)) is, ap (λ (m : FieldNode). node_len (m, text)) is)

pub number_takes : {A E : Type 0} (r : Result A E) (n : FieldNode) (field value : ℕ) (text : List ℕ) (old new : Emitter) → n ≡ node.Number field value
    → OnOk r ((account : Account) → Holds account old → is_writing account.packets ≡ true → Holds (noted account (call.Number field value)) new)
    → OnOk r (length new.bytes.items ≡ length old.bytes.items + length (number_field field value)) → OnOk r (new.ends.items ≡ old.ends.items)
    → OnOk r (Takes (node_call (n, text) ∷ []) (node_len (n, text)) 0 old new)
number_takes (Ok done) n field value text old new is holds long ends =
    let call_is = number_call n field value text is in
    node_takes n text (call.Number field value) _ old new call_is.0 call_is.1 (λ account before accepts. holds account before accepts.begun) long ends
number_takes (Err fault) n field value text old new is holds long ends = tt

pub bytes_takes : {A E : Type 0} (r : Result A E) (n : FieldNode) (field times : ℕ) (text : List ℕ) (old new : Emitter) → n ≡ node.Bytes field times
    → OnOk r ((account : Account) → Holds account old → is_writing account.packets ≡ true → Holds (noted account (call.Bytes field text times)) new)
    → OnOk r (length new.bytes.items ≡ length old.bytes.items + length (bytes_field field text times)) → OnOk r (new.ends.items ≡ old.ends.items)
    → OnOk r (Takes (node_call (n, text) ∷ []) (node_len (n, text)) 0 old new)
bytes_takes (Ok done) n field times text old new is holds long ends =
    let call_is = bytes_call n field times text is in
    node_takes n text (call.Bytes field text times) _ old new call_is.0 call_is.1 (λ account before accepts. holds account before accepts.begun) long ends
bytes_takes (Err fault) n field times text old new is holds long ends = tt

pub nested_takes : {A E : Type 0} (r : Result A E) (n : FieldNode) (field : ℕ) (text : List ℕ) (old new : Emitter) → n ≡ node.Begin field
    → OnOk r ((account : Account) → Holds account old → is_writing account.packets ≡ true → Holds (noted account (call.Nested field)) new)
    → OnOk r (length new.bytes.items ≡ length old.bytes.items + (length (nested_tag field) + 4)) → OnOk r (new.ends.items ≡ old.ends.items)
    → OnOk r (Takes (node_call (n, text) ∷ []) (node_len (n, text)) 0 old new)
nested_takes (Ok done) n field text old new is holds long ends =
    let call_is = begin_call n field text is in
    node_takes n text (call.Nested field) _ old new call_is.0 call_is.1 (λ account before accepts. holds account before accepts.0.begun) long ends
nested_takes (Err fault) n field text old new is holds long ends = tt

-- ---- the nodes of FIELDS

pub split_there : {A : Type 0} (xs : List A) (i : ℕ) (x : A) → slice_get xs i ≡ Some x
    → (take (suc i) xs ≡ take i xs ++ x ∷ []) × (xs ≡ take i xs ++ x ∷ drop (suc i) xs)
split_there [] i x there = absurd cc
split_there (first ∷ xs) zero x there =
    let same : first ≡ x = cc in (ap (λ y. y ∷ []) same, ap (λ y. y ∷ xs) same)
split_there (first ∷ xs) (suc i) x there =
    let more = split_there xs i x there in (ap (λ ys. first ∷ ys) more.0, ap (λ ys. first ∷ ys) more.1)

-- the emitter has taken the nodes in front of those that are still to come
pub record HasTakenNodes (nodes coming : List Shown) (old new : Emitter) : Type 0 where
  pub before : List Shown
  pub cut : nodes ≡ before ++ coming
  pub takes : Takes (map node_call before) (nodes_len before) 0 old new

pub no_node : (nodes : List Shown) (old : Emitter) → HasTakenNodes nodes nodes old old
no_node nodes old = record {
  before = [];
  cut = refl;
  takes = record { holds = λ account holds accepts. holds; long = omega arith; few = omega arith };
}

pub node_may : (nodes coming : List Shown) (one : Shown) (old mid : Emitter) → HasTakenNodes nodes (one ∷ coming) old mid
    → MayTake (map node_call nodes) (nodes_len nodes) old → MayTake (node_call one ∷ []) (node_len one) mid
node_may nodes coming one old mid so_far may =
    let before = so_far.before in
    let back : List Shown = one ∷ coming in
    let calls : map node_call nodes ≡ map node_call before ++ map node_call back =
    ap (map node_call) so_far.cut ∙ map-append node_call before back in
    let len : nodes_len nodes ≡ nodes_len before + nodes_len back =
    ap nodes_len so_far.cut ∙ sum_by-append node_len before back in
    let whole : MayTake (map node_call before ++ map node_call back) (nodes_len before + nodes_len back) old =
    subst (λ (cs : List Call). MayTake cs (nodes_len before + nodes_len back) old) calls
    (subst (λ (m : ℕ). MayTake (map node_call nodes) m old) len may) in
    let rest = may_back (map node_call before) (map node_call back) (nodes_len before) (nodes_len back) 0 old mid whole so_far.takes in
    let sum : nodes_len back ≡ node_len one + nodes_len coming = sum_by-cons node_len one coming in
    may_front (node_call one ∷ []) (map node_call coming) (node_len one) (nodes_len coming) mid
    (subst (λ (m : ℕ). MayTake (map node_call back) m mid) sum rest)

pub node_more : (nodes coming : List Shown) (one : Shown) (old mid new : Emitter) → HasTakenNodes nodes (one ∷ coming) old mid
    → Takes (node_call one ∷ []) (node_len one) 0 mid new → HasTakenNodes nodes coming old new
node_more nodes coming one old mid new so_far takes =
    let before = so_far.before in
    let both = takes_on (map node_call before) (node_call one ∷ []) (nodes_len before) (node_len one) 0 0 old mid new so_far.takes takes in
    let calls : map node_call (before ++ one ∷ []) ≡ map node_call before ++ node_call one ∷ [] = map-append node_call before (one ∷ []) in
    let len : nodes_len (before ++ one ∷ []) ≡ nodes_len before + node_len one = sum_by_push node_len before one in
    record {
      before = before ++ one ∷ [];
      cut = so_far.cut ∙ sym (append_assoc before (one ∷ []) coming);
      takes = subst (λ (cs : List Call). Takes cs (nodes_len (before ++ one ∷ [])) 0 old new) (sym calls)
          (subst (λ (m : ℕ). Takes (map node_call before ++ node_call one ∷ []) m 0 old new) (sym len) both);
    }

pub nodes_all : (nodes : List Shown) (old new : Emitter) → HasTakenNodes nodes [] old new → Takes (map node_call nodes) (nodes_len nodes) 0 old new
nodes_all nodes old new so_far =
    subst (λ (ns : List Shown). Takes (map node_call ns) (nodes_len ns) 0 old new) (sym (so_far.cut ∙ append-nil so_far.before)) so_far.takes

-- ---- a whole packet

abbrev pub packet_calls : List Shown → List Call
packet_calls nodes = call.Begun true ∷ map node_call nodes ++ call.Finished ∷ []

pub packet_may : (nodes : List Shown) (old : Emitter) → MayTake (packet_calls nodes) (nodes_len nodes) old → MayTake (map node_call nodes) (nodes_len nodes) old
packet_may nodes old may =
    let front : MayTake (call.Begun true ∷ map node_call nodes) (nodes_len nodes) old =
    may_front (call.Begun true ∷ map node_call nodes) (call.Finished ∷ []) (nodes_len nodes) 0 old
    (subst (λ (m : ℕ). MayTake (packet_calls nodes) m old) (omega arith) may) in
    may_back (call.Begun true ∷ []) (map node_call nodes) 0 (nodes_len nodes) 0 old old
    (subst (λ (m : ℕ). MayTake (call.Begun true ∷ map node_call nodes) m old) (omega arith) front) (begun_takes old)

fields_take : (nodes : List Shown) (old mid : Emitter) → Takes (map node_call nodes) (nodes_len nodes) 0 old mid
    → Takes (call.Begun true ∷ map node_call nodes) (nodes_len nodes) 0 old mid
fields_take nodes old mid takes =
    subst (λ (m : ℕ). Takes (call.Begun true ∷ map node_call nodes) m 0 old mid) (omega arith)
    (takes_on (call.Begun true ∷ []) (map node_call nodes) 0 (nodes_len nodes) 0 0 old old mid (begun_takes old) takes)

pub packet_ends : (nodes : List Shown) (old mid : Emitter) → MayTake (packet_calls nodes) (nodes_len nodes) old
    → Takes (map node_call nodes) (nodes_len nodes) 0 old mid → MayTake (call.Finished ∷ []) 0 mid
packet_ends nodes old mid may takes =
    may_back (call.Begun true ∷ map node_call nodes) (call.Finished ∷ []) (nodes_len nodes) 0 0 old mid
    (subst (λ (m : ℕ). MayTake (packet_calls nodes) m old) (omega arith) may) (fields_take nodes old mid takes)

pub packet_takes : (nodes : List Shown) (old mid new : Emitter) → Takes (map node_call nodes) (nodes_len nodes) 0 old mid
    → Takes (call.Finished ∷ []) 0 1 mid new → Takes (packet_calls nodes) (nodes_len nodes) 1 old new
packet_takes nodes old mid new takes ends =
    subst (λ (m : ℕ). Takes (packet_calls nodes) m 1 old new) (omega arith)
    (takes_on (call.Begun true ∷ map node_call nodes) (call.Finished ∷ []) (nodes_len nodes) 0 0 1 old mid new (fields_take nodes old mid takes) ends)
