-- The calls that a writer accepts write trees of fields, one packet behind another, whose encodings the packet check accepts.
use Rattle.std.proofs.Common.{◌≡◌, ◌∙◌, ℕ, ◌+◌, ◌*◌, ◌^◌, ◌<◌, ◌≤◌, All, length, Bool, true, false, cond, not, ◌||◌, List, [], ◌∷◌, ◌++◌, Option, Some, None, map, refl, sym, subst, ap, length-append, arith}
use Rattle.std.specs.Prelude.{fold}
use Rattle.std.specs.List.{filter, flat_map, list_any}
use Rattle.std.proofs.lemmas.Bool.{false≢true, eq-eqb}
use Rattle.std.proofs.lemmas.List.{append-nil, append_assoc}
use Rattle.std.proofs.lemmas.List.Elements.{All-nil, All-cons}
use Rattle.std.proofs.lemmas.List.Folds.{list_any-append}
use Rattle.trace_base.specs.declared.limits.TheConstants.{MAX_PACKET_LEN}
use Rattle.trace_base.specs.Reserved.{is_reserved}
use Rattle.wire_varint.specs.Varint.{redundant}
use Rattle.trace_model.specs.Calls.{Call, Begun, Number, Bytes, Nested, Ended, GivenUp, Finished, Flushed}
use Rattle.trace_model.specs.Encoding.{Fields, NoFields, NumberField, BytesField, NestedField, number_field, bytes_head, bytes_field, nested_tag, encoding_of, calls_of}
use Rattle.trace_model.specs.Packets.{Packet, Account, open_length, flat, nothing_yet, noted, on_newest, begun_packet, with_more, with_nested, with_nested_ended, finished_packet, is_lost, is_writing, open_count, newest_is_lost, front_of, packet_encoding, emissions_of, newest_length, closed_levels, emissions_in}
use Rattle.trace_model.specs.PacketLaws.{packet_calls}
use Rattle.trace_model.specs.Walks.{is_refused, is_accepted}
use Rattle.trace_model.proofs.CallLemmas.{calls_give_encodings}
use Rattle.trace_model.proofs.EncodingLemmas.{length-bytes_field}
use Rattle.trace_model.proofs.PacketLemmas.{emitted_more, emitted_still}
use Rattle.packet_check.specs.Writers.{IsAllowed, AreAllowed}
use Rattle.packet_check.proofs.PassLemmas.{writers_packets_pass}
use Rattle.field_tree.specs.Nodes.{nodes_of}
use Rattle.scenario_text.specs.declared.scenario.LineKind.TheVariants as line
use Rattle.scenario_text.specs.Accepted.{node_call, line_calls, AcceptsField, AreAccepted}
use Rattle.scenario_text.specs.Spelled.{ends_packet, is_flush, whole, SpellsTrees, LinesSpellTrees}
use Rattle.scenario_text.proofs.AcceptedFields.{AreWords, called_as, longer, begun_len}
use Rattle.scenario_text.proofs.AcceptedCalls.{ended_len}

-- ---- one tree behind another

abbrev joined : Fields → Fields → Fields
joined NoFields more = more
joined (NumberField field value others) more = NumberField field value (joined others more)
joined (BytesField field text times others) more = BytesField field text times (joined others more)
joined (NestedField field inner others) more = NestedField field inner (joined others more)

calls_joined : (tree more : Fields) → calls_of (joined tree more) ≡ calls_of tree ++ calls_of more
calls_joined NoFields more = refl
calls_joined (NumberField field value others) more = ap (λ (cs : List Call). Number field value ∷ cs) (calls_joined others more)
calls_joined (BytesField field text times others) more = ap (λ (cs : List Call). Bytes field text times ∷ cs) (calls_joined others more)
calls_joined (NestedField field inner others) more =
    ap (λ (cs : List Call). Nested field ∷ calls_of inner ++ Ended ∷ cs) (calls_joined others more)
    ∙ ap (λ (cs : List Call). Nested field ∷ cs) (sym (append_assoc (calls_of inner) (Ended ∷ calls_of others) (calls_of more)))

encoding_joined : (tree more : Fields) → encoding_of (joined tree more) ≡ encoding_of tree ++ encoding_of more
encoding_joined NoFields more = refl
encoding_joined (NumberField field value others) more =
    ap (λ (xs : List ℕ). number_field field value ++ xs) (encoding_joined others more)
    ∙ sym (append_assoc (number_field field value) (encoding_of others) (encoding_of more))
encoding_joined (BytesField field text times others) more =
    ap (λ (xs : List ℕ). bytes_field field text times ++ xs) (encoding_joined others more)
    ∙ sym (append_assoc (bytes_field field text times) (encoding_of others) (encoding_of more))
encoding_joined (NestedField field inner others) more =
    let four : List ℕ = redundant (length (encoding_of inner)) in
    ap (λ (xs : List ℕ). nested_tag field ++ four ++ encoding_of inner ++ xs) (encoding_joined others more)
    ∙ sym (append_assoc (nested_tag field ++ four ++ encoding_of inner) (encoding_of others) (encoding_of more))

allowed_joined : (tree more : Fields) → AreAllowed tree → AreAllowed more → AreAllowed (joined tree more)
allowed_joined NoFields more allowed then = then
allowed_joined (NumberField field value others) more allowed then = (allowed.0, allowed.1, allowed_joined others more allowed.2 then)
allowed_joined (BytesField field text times others) more allowed then = (allowed.0, allowed.1, allowed_joined others more allowed.2 then)
allowed_joined (NestedField field inner others) more allowed then = (allowed.0, allowed.1, allowed_joined others more allowed.2 then)

-- ---- what is open of a packet

-- the trees around the innermost one, each with the field of the message that is open in it
abbrev Around : Type 0
Around = List (Fields × ℕ)

-- the calls that were made since the packet's begin
abbrev calls_so_far : Fields → Around → List Call
calls_so_far tree [] = calls_of tree
calls_so_far tree ((outer, field) ∷ around) = calls_so_far outer around ++ Nested field ∷ calls_of tree

-- the bytes around the innermost message
abbrev levels_around : Around → List (List ℕ)
levels_around [] = []
levels_around ((outer, field) ∷ around) = (encoding_of outer ++ nested_tag field) ∷ levels_around around

more_calls : (tree more : Fields) (around : Around) → calls_so_far (joined tree more) around ≡ calls_so_far tree around ++ calls_of more
more_calls tree more [] = calls_joined tree more
more_calls tree more ((outer, field) ∷ around) =
    ap (λ (cs : List Call). calls_so_far outer around ++ Nested field ∷ cs) (calls_joined tree more)
    ∙ sym (append_assoc (calls_so_far outer around) (Nested field ∷ calls_of tree) (calls_of more))

no_end : (tree : Fields) → list_any ends_packet (calls_of tree) ≡ false
no_end NoFields = refl
no_end (NumberField field value others) = no_end others
no_end (BytesField field text times others) = no_end others
no_end (NestedField field inner others) =
    list_any-append ends_packet (calls_of inner) (Ended ∷ calls_of others)
    ∙ ap (λ (b : Bool). b || list_any ends_packet (calls_of others)) (no_end inner)
    ∙ no_end others

no_end_so_far : (tree : Fields) (around : Around) → list_any ends_packet (calls_so_far tree around) ≡ false
no_end_so_far tree [] = no_end tree
no_end_so_far tree ((outer, field) ∷ around) =
    list_any-append ends_packet (calls_so_far outer around) (Nested field ∷ calls_of tree)
    ∙ ap (λ (b : Bool). b || list_any ends_packet (calls_of tree)) (no_end_so_far outer around)
    ∙ no_end tree

-- Writers may write what stands at the top level, the message that is open there among it. What is inside a message is free.
abbrev IsTop : Fields → Around → Type 0
IsTop tree [] = AreAllowed tree
IsTop tree ((outer, field) ∷ []) = AreAllowed outer × IsAllowed field
IsTop tree ((outer, field) ∷ next ∷ around) = IsTop outer (next ∷ around)

top_more : (tree more : Fields) (around : Around) → IsTop tree around → (around ≡ [] → AreAllowed more) → IsTop (joined tree more) around
top_more tree more [] top then = allowed_joined tree more top (then refl)
top_more tree more ((outer, field) ∷ []) top then = top
top_more tree more ((outer, field) ∷ next ∷ around) top then = top

top_nested : (tree : Fields) (field : ℕ) (around : Around) → IsTop tree around → (around ≡ [] → IsAllowed field) → IsTop NoFields ((tree, field) ∷ around)
top_nested tree field [] top then = (top, then refl)
top_nested tree field (next ∷ around) top then = top

top_ended : (tree outer : Fields) (field : ℕ) (around : Around) → IsTop tree ((outer, field) ∷ around) → length (encoding_of tree) < 2 ^ 28
    → IsTop (joined outer (NestedField field tree NoFields)) around
top_ended tree outer field [] top short = allowed_joined outer (NestedField field tree NoFields) top.0 (top.1, short, tt)
top_ended tree outer field (next ∷ around) top short = top_more outer (NestedField field tree NoFields) (next ∷ around) top (λ none. cc)

-- how long all of it is so far
abbrev text_len : Fields → Around → ℕ
text_len tree around = length (flat open_length (encoding_of tree ∷ levels_around around))

joined_len : (tree more : Fields) (around : Around) → text_len (joined tree more) around ≡ text_len tree around + length (encoding_of more)
joined_len tree more around =
    ap (λ (xs : List ℕ). length (flat open_length (xs ∷ levels_around around))) (encoding_joined tree more)
    ∙ longer (encoding_of tree) (encoding_of more) (levels_around around)

inner_len : (tree outer : Fields) (field : ℕ) (around : Around) → length (encoding_of tree) ≤ text_len tree ((outer, field) ∷ around)
inner_len tree outer field around =
    let behind = flat open_length ((encoding_of outer ++ nested_tag field) ∷ levels_around around) ++ open_length in
    omega (arith, length-append behind (encoding_of tree))

message_joined : (tree outer : Fields) (field : ℕ)
    → ((encoding_of outer ++ nested_tag field) ++ redundant (length (encoding_of tree))) ++ encoding_of tree
    ≡ encoding_of (joined outer (NestedField field tree NoFields))
message_joined tree outer field =
    message (encoding_of outer) (nested_tag field) (redundant (length (encoding_of tree))) (encoding_of tree)
    ∙ sym (encoding_joined outer (NestedField field tree NoFields))
  where
    message : (a b c d : List ℕ) → ((a ++ b) ++ c) ++ d ≡ a ++ (((b ++ c) ++ d) ++ [])
    message a b c d =
        ap (λ (xs : List ℕ). xs ++ d) (append_assoc a b c) ∙ append_assoc a (b ++ c) d ∙ ap (λ (xs : List ℕ). a ++ xs) (sym (append-nil ((b ++ c) ++ d)))

ended_text : (tree outer : Fields) (field : ℕ) (around : Around)
    → text_len (joined outer (NestedField field tree NoFields)) around ≡ text_len tree ((outer, field) ∷ around)
ended_text tree outer field around =
    ap (λ (xs : List ℕ). length (flat open_length (xs ∷ levels_around around))) (sym (message_joined tree outer field))
    ∙ ended_len (encoding_of tree) (encoding_of outer ++ nested_tag field) (levels_around around)

-- a packet is being written, whose bytes are those of these trees
record IsWritten (account : Account) (tree : Fields) (around : Around) : Type 0 where
  newest : Packet
  older : List Packet
  packets_are : account.packets ≡ newest ∷ older
  going : newest.finished ≡ false
  kept : is_lost newest ≡ false
  plain : front_of newest ≡ []
  levels_are : newest.text.levels ≡ encoding_of tree ∷ levels_around around
  top : IsTop tree around
  short : text_len tree around ≤ MAX_PACKET_LEN

record IsAtRest (account : Account) : Type 0 where
  ended : is_writing account.packets ≡ false
  kept : newest_is_lost account.packets ≡ false

-- what is open: nothing, or a packet
abbrev Holds : Account → Option (Fields × Around) → Type 0
Holds account None = IsAtRest account
Holds account (Some (tree, around)) = IsWritten account tree around

abbrev open_calls : Option (Fields × Around) → List Call
open_calls None = []
open_calls (Some (tree, around)) = Begun true ∷ calls_so_far tree around

-- ---- what is emitted

-- the packet check accepts the packet
abbrev pub PassesCheck : List ℕ → Type 0
PassesCheck packet = is_accepted packet ≡ true

-- what the calls from here on make of what is open, and what they emit
record Spells (account : Account) (open_ones : Option (Fields × Around)) (calls : List Call) : Type 0 where
  trees : List Fields
  rest : List Call
  calls_are : open_calls open_ones ++ filter (λ (call : Call). not (is_flush call)) calls ≡ flat_map (λ (tree : Fields). packet_calls (whole tree)) trees ++ rest
  unended : list_any ends_packet rest ≡ false
  emitted : emissions_in (fold noted account calls).packets ≡ emissions_in account.packets ++ map encoding_of trees
  passes : All PassesCheck (map encoding_of trees)

-- ---- one call after another

abbrev unflushed : List Call → List Call
unflushed calls = filter (λ (call : Call). not (is_flush call)) calls

-- a call that goes on with the packet
goes_on : (account : Account) (call : Call) (calls : List Call) (before behind : Fields × Around) → is_flush call ≡ false
    → open_calls (Some before) ++ call ∷ [] ≡ open_calls (Some behind) → emissions_in (noted account call).packets ≡ emissions_in account.packets
    → Spells (noted account call) (Some behind) calls → Spells account (Some before) (call ∷ calls)
goes_on account call calls before behind no_flush same emits then = record {
  trees = then.trees;
  rest = then.rest;
  calls_are = ap (λ (b : Bool). open_calls (Some before) ++ cond (not b) (call ∷ unflushed calls) (unflushed calls)) no_flush
      ∙ sym (append_assoc (open_calls (Some before)) (call ∷ []) (unflushed calls))
      ∙ ap (λ (cs : List Call). cs ++ unflushed calls) same
      ∙ then.calls_are;
  unended = then.unended;
  emitted = then.emitted ∙ ap (λ (xs : List (List ℕ)). xs ++ map encoding_of then.trees) emits;
  passes = then.passes;
}

not_writing : {A : Type 0} (account : Account) → IsAtRest account → is_writing account.packets ≡ true → A
not_writing account rests writes = absurd (false≢true (sym rests.ended ∙ writes))

is_going : (account : Account) (tree : Fields) (around : Around) → IsWritten account tree around → is_writing account.packets ≡ true
is_going account tree around is = ap is_writing is.packets_are ∙ ap not is.going

not_refused : (field : ℕ) → is_reserved field ≡ false → is_refused field ≡ false
unfolding is_refused
not_refused field is = rw is refl

-- a change to the newest packet's levels
module _ (account : Account) (tree : Fields) (around : Around) (is : IsWritten account tree around) where
  changed : (f : Packet → Packet) → (on_newest f account).packets ≡ f is.newest ∷ is.older
  changed f = ap (λ (ps : List Packet). (on_newest f (record { packets = ps; flushed = account.flushed })).packets) is.packets_are

  same_emitted : (f : Packet → Packet) → (f is.newest).finished ≡ false → emissions_in (on_newest f account).packets ≡ emissions_in account.packets
  same_emitted f going =
      ap emissions_in (changed f)
      ∙ emitted_still (f is.newest) is.older going
      ∙ sym (ap emissions_in is.packets_are ∙ emitted_still is.newest is.older is.going)

  long_is : newest_length account.packets ≡ text_len tree around
  long_is =
      let long : length (packet_encoding is.newest) ≡ text_len tree around = rw (is.plain, is.levels_are) refl in
      ap newest_length is.packets_are ∙ long

  -- a field that is accepted at the top level is one that writers may write
  is_allowed : (field more : ℕ) → AcceptsField account.packets field more → around ≡ [] → IsAllowed field
  is_allowed field more accepts none = record {
    numbered = accepts.numbered.0;
    in_range = accepts.numbered.1;
    free = not_refused field (accepts.free (ap open_count is.packets_are ∙ ap length is.levels_are ∙ ap (λ (rest : Around). length (encoding_of tree ∷ levels_around rest)) none));
  }

  writes_more : (bytes : List ℕ) (more : Fields) → encoding_of more ≡ bytes → (around ≡ [] → AreAllowed more)
      → newest_length account.packets + length bytes ≤ MAX_PACKET_LEN → IsWritten (on_newest (with_more bytes) account) (joined tree more) around
  writes_more bytes more same allowed short = record {
    newest = with_more bytes is.newest;
    older = is.older;
    packets_are = changed (with_more bytes);
    going = is.going;
    kept = is.kept;
    plain = is.plain;
    levels_are = rw is.levels_are
        (ap (λ (xs : List ℕ). xs ∷ levels_around around) (ap (λ (xs : List ℕ). encoding_of tree ++ xs) (sym same) ∙ sym (encoding_joined tree more)));
    top = top_more tree more around is.top allowed;
    short = omega (arith, short, long_is, joined_len tree more around, ap (λ (xs : List ℕ). length xs) same);
  }

  nests_in : (field : ℕ) → AcceptsField account.packets field (length (nested_tag field) + 4)
      → IsWritten (on_newest (with_nested field) account) NoFields ((tree, field) ∷ around)
  nests_in field accepts = record {
    newest = with_nested field is.newest;
    older = is.older;
    packets_are = changed (with_nested field);
    going = is.going;
    kept = is.kept;
    plain = is.plain;
    levels_are = rw is.levels_are refl;
    top = top_nested tree field around is.top (is_allowed field (length (nested_tag field) + 4) accepts);
    short =
        let begun = begun_len (encoding_of tree ++ nested_tag field) (levels_around around) in
        omega (arith, accepts.short, long_is, begun, longer (encoding_of tree) (nested_tag field) (levels_around around));
  }

ends_in : (account : Account) (tree outer : Fields) (field : ℕ) (around : Around) → IsWritten account tree ((outer, field) ∷ around)
    → IsWritten (on_newest with_nested_ended account) (joined outer (NestedField field tree NoFields)) around
ends_in account tree outer field around is = record {
  newest = with_nested_ended is.newest;
  older = is.older;
  packets_are = changed account tree ((outer, field) ∷ around) is with_nested_ended;
  going = is.going;
  kept = is.kept;
  plain = is.plain;
  levels_are = ap (λ (ls : List (List ℕ)). (closed_levels ls is.newest.text.closed).levels) is.levels_are
      ∙ ap (λ (xs : List ℕ). xs ∷ levels_around around) (message_joined tree outer field);
  top = top_ended tree outer field around is.top (omega (arith, is.short, inner_len tree outer field around));
  short = omega (arith, is.short, ended_text tree outer field around);
}

spells : (calls : List Call) (account : Account) (open_ones : Option (Fields × Around)) → Holds account open_ones → AreAccepted account calls
    → AreWords calls → Spells account open_ones calls
spells [] account None is accepted words = record {
  trees = [];
  rest = [];
  calls_are = refl;
  unended = refl;
  emitted = sym (append-nil (emissions_in account.packets));
  passes = All-nil PassesCheck;
}
spells [] account (Some (tree, around)) is accepted words = record {
  trees = [];
  rest = Begun true ∷ calls_so_far tree around;
  calls_are = append-nil (Begun true ∷ calls_so_far tree around);
  unended = no_end_so_far tree around;
  emitted = sym (append-nil (emissions_in account.packets));
  passes = All-nil PassesCheck;
}
spells (Begun false ∷ calls) account None is accepted words = absurd (false≢true accepted.0.0)
spells (Begun true ∷ calls) account None is accepted words =
    let then = spells calls (noted account (Begun true)) (Some (NoFields, [])) (record {
      newest = begun_packet true account;
      older = account.packets;
      packets_are = refl;
      going = refl;
      kept = refl;
      plain = rw is.kept refl;
      levels_are = rw is.kept refl;
      top = tt;
      short = omega arith;
    }) accepted.1 words in
    record {
      trees = then.trees;
      rest = then.rest;
      calls_are = then.calls_are;
      unended = then.unended;
      emitted = then.emitted ∙ ap (λ (xs : List (List ℕ)). xs ++ map encoding_of then.trees) (emitted_still (begun_packet true account) account.packets refl);
      passes = then.passes;
    }
spells (Begun kept ∷ calls) account (Some (tree, around)) is accepted words = absurd (false≢true (sym accepted.0.1 ∙ is_going account tree around is))
spells (Number field value ∷ calls) account None is accepted words = not_writing account is accepted.0.begun
spells (Number field value ∷ calls) account (Some (tree, around)) is accepted words =
    let more : Fields = NumberField field value NoFields in
    goes_on account (Number field value) calls (tree, around) (joined tree more, around) refl
    (ap (λ (cs : List Call). Begun true ∷ cs) (sym (more_calls tree more around)))
    (same_emitted account tree around is (with_more (number_field field value)) is.going)
    (spells calls (noted account (Number field value)) (Some (joined tree more, around))
    (writes_more account tree around is (number_field field value) more (append-nil (number_field field value))
    (λ none. (is_allowed account tree around is field (length (number_field field value)) accepted.0 none, words.0, tt)) accepted.0.short) accepted.1 words.1)
spells (Bytes field text times ∷ calls) account None is accepted words = not_writing account is accepted.0.begun
spells (Bytes field text times ∷ calls) account (Some (tree, around)) is accepted words =
    let more : Fields = BytesField field text times NoFields in
    let long = length-bytes_field field text times in
    let short = accepted.0.short in
    let few : times * length text < 2 ^ 64 = omega (arith, short) in
    goes_on account (Bytes field text times) calls (tree, around) (joined tree more, around) refl
    (ap (λ (cs : List Call). Begun true ∷ cs) (sym (more_calls tree more around)))
    (same_emitted account tree around is (with_more (bytes_field field text times)) is.going)
    (spells calls (noted account (Bytes field text times)) (Some (joined tree more, around))
    (writes_more account tree around is (bytes_field field text times) more (append-nil (bytes_field field text times))
    (λ none. (is_allowed account tree around is field (length (bytes_head field (times * length text)) + times * length text) accepted.0 none, few, tt))
    (omega (arith, long, short))) accepted.1 words)
spells (Nested field ∷ calls) account None is accepted words = not_writing account is accepted.0.0.begun
spells (Nested field ∷ calls) account (Some (tree, around)) is accepted words =
    goes_on account (Nested field) calls (tree, around) (NoFields, (tree, field) ∷ around) refl refl
    (same_emitted account tree around is (with_nested field) is.going)
    (spells calls (noted account (Nested field)) (Some (NoFields, (tree, field) ∷ around)) (nests_in account tree around is field accepted.0.0) accepted.1 words)
spells (Ended ∷ calls) account None is accepted words = not_writing account is accepted.0.0
spells (Ended ∷ calls) account (Some (tree, [])) is accepted words =
    let depth : open_count account.packets ≡ 1 = ap open_count is.packets_are ∙ ap length is.levels_are in
    let more = accepted.0.1 in
    absurd (omega (arith, depth, more))
spells (Ended ∷ calls) account (Some (tree, (outer, field) ∷ around)) is accepted words =
    let message : Fields = NestedField field tree NoFields in
    goes_on account Ended calls (tree, (outer, field) ∷ around) (joined outer message, around) refl
    (ap (λ (cs : List Call). Begun true ∷ cs) (append_assoc (calls_so_far outer around) (Nested field ∷ calls_of tree) (Ended ∷ []) ∙ sym (more_calls outer message around)))
    (same_emitted account tree ((outer, field) ∷ around) is with_nested_ended is.going)
    (spells calls (noted account Ended) (Some (joined outer message, around)) (ends_in account tree outer field around is) accepted.1 words)
spells (GivenUp ∷ calls) account open_ones is accepted words = absurd accepted.0
spells (Finished ∷ calls) account None is accepted words = not_writing account is accepted.0.0
spells (Finished ∷ calls) account (Some (tree, (outer, field) ∷ around)) is accepted words =
    let depth : open_count account.packets ≡ length (encoding_of tree ∷ levels_around ((outer, field) ∷ around)) = ap open_count is.packets_are ∙ ap length is.levels_are in
    let one = accepted.0.1 in
    absurd (omega (arith, depth, one))
spells (Finished ∷ calls) account (Some (tree, [])) is accepted words =
    let ended : (noted account Finished).packets ≡ finished_packet is.newest ∷ is.older = changed account tree [] is finished_packet in
    let then = spells calls (noted account Finished) None (record {
      ended = ap is_writing ended;
      kept = ap newest_is_lost ended ∙ is.kept;
    }) accepted.1 words in
    let encoding : packet_encoding (finished_packet is.newest) ≡ encoding_of tree = rw (is.plain, is.levels_are) refl in
    record {
      trees = tree ∷ then.trees;
      rest = then.rest;
      calls_are = ap (λ (cs : List Call). Begun true ∷ calls_of tree ++ Finished ∷ cs) then.calls_are
          ∙ ap (λ (cs : List Call). Begun true ∷ cs)
          (sym (append_assoc (calls_of tree) (Finished ∷ []) (flat_map (λ (other : Fields). packet_calls (whole other)) then.trees ++ then.rest)))
          ∙ sym (append_assoc (packet_calls (whole tree)) (flat_map (λ (other : Fields). packet_calls (whole other)) then.trees) then.rest);
      unended = then.unended;
      emitted = then.emitted
          ∙ ap (λ (xs : List (List ℕ)). xs ++ map encoding_of then.trees)
          (ap emissions_in ended
          ∙ emitted_more (finished_packet is.newest) is.older true refl
          ∙ ap (λ (xs : List ℕ). emissions_in is.older ++ xs ∷ []) encoding
          ∙ ap (λ (xs : List (List ℕ)). xs ++ encoding_of tree ∷ []) (sym (ap emissions_in is.packets_are ∙ emitted_still is.newest is.older is.going)))
          ∙ append_assoc (emissions_in account.packets) (encoding_of tree ∷ []) (map encoding_of then.trees);
      passes = All-cons PassesCheck (encoding_of tree) (map encoding_of then.trees) (writers_packets_pass false tree is.top) then.passes;
    }
spells (Flushed ∷ calls) account (Some (tree, around)) is accepted words = absurd (false≢true (sym accepted.0 ∙ is_going account tree around is))
spells (Flushed ∷ calls) account None is accepted words =
    let then = spells calls (noted account Flushed) None (record { ended = is.ended; kept = is.kept }) accepted.1 words in
    record { trees = then.trees; rest = then.rest; calls_are = then.calls_are; unended = then.unended; emitted = then.emitted; passes = then.passes }

-- ---- from the first call on

all_spelled : (calls : List Call) → AreAccepted nothing_yet calls → AreWords calls → Spells nothing_yet None calls
all_spelled calls accepted words = spells calls nothing_yet None (record { ended = refl; kept = refl }) accepted words

pub accepted_spells : (calls : List Call) → AreAccepted nothing_yet calls → AreWords calls → SpellsTrees calls
accepted_spells calls accepted words =
    let all = all_spelled calls accepted words in
    record { trees = all.trees; rest = all.rest; calls_are = all.calls_are; unended = all.unended; emitted = all.emitted }

pub accepted_passes : (calls : List Call) → AreAccepted nothing_yet calls → AreWords calls → All PassesCheck (emissions_of calls)
accepted_passes calls accepted words =
    let all = all_spelled calls accepted words in
    subst (All PassesCheck) (sym all.emitted) all.passes

-- ---- one line

packet_line : (number : ℕ) (tree : Fields) → line_calls number (line.Packet number (nodes_of tree)) ≡ packet_calls (whole tree)
unfolding line_calls
packet_line number tree =
    ap (λ (b : Bool). cond b (Begun true ∷ map node_call (nodes_of tree) ++ Finished ∷ []) []) (eq-eqb number number refl)
    ∙ ap (λ (cs : List Call). Begun true ∷ cs ++ Finished ∷ []) (called_as tree)

pub lines_spell_trees : LinesSpellTrees
lines_spell_trees = record {
  nodes = called_as;
  packet = packet_line;
  emits = λ number tree. ap emissions_of (packet_line number tree ∙ sym (append-nil (packet_calls (whole tree)))) ∙ (calls_give_encodings (whole tree ∷ [])).0;
}
