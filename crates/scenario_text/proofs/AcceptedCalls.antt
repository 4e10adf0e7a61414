-- A writer's packet stands as the grammar's state has it, call after call.
use Rattle.std.proofs.Common.{◌≡◌, ◌≢◌, ◌∙◌, ℕ, ◌+◌, ◌-◌, ◌<◌, ◌≤◌, length, Bool, true, false, ◌&&◌, List, [], ◌∷◌, ◌++◌, Option, Some, None, refl, sym, subst, ap, length-append, arith}
use Rattle.std.specs.Prelude.{fold}
use Rattle.std.proofs.lemmas.List.Sums.{fold-append}
use Rattle.trace_base.specs.declared.limits.TheConstants.{MAX_NESTING, MAX_PACKET_LEN}
use Rattle.trace_base.specs.Reserved.{is_reserved}
use Rattle.wire_varint.specs.Varint.{redundant}
use Rattle.trace_model.specs.Calls.{Call, Begun, Nested, Ended, Finished, Flushed}
use Rattle.trace_model.specs.Encoding.{Fields, nested_tag, encoding_of, encoding_len, calls_of}
use Rattle.trace_model.specs.Packets.{Packet, NestedLength, Account, open_length, flat, noted, begun_packet, is_lost, is_writing, newest_is_lost, front_of}
use Rattle.trace_model.specs.Record.{mark_where}
use Rattle.trace_model.proofs.CallLemmas.{at_text, Writes, writes_fields}
use Rattle.trace_model.proofs.EncodingLemmas.{encoding_as_long}
use Rattle.wire_varint.proofs.Lengths.{length-redundant}
use Rattle.field_tree.specs.Nodes.{IsField}
use Rattle.scenario_text.specs.declared.open_packet.OpenPacket.{OpenPacket}
use Rattle.scenario_text.specs.Effects.{grown}
use Rattle.scenario_text.specs.Accepted.{AreAccepted}
use Rattle.scenario_text.proofs.AcceptedFields.{MayFollow, AreWords, accepted_both, words_both, accepts_fields, begun_len, len_is, longer}

-- a packet is begun, of which the grammar's state has the depth and the length; no packet was lost
pub record IsBegun (account : Account) (packet : OpenPacket) : Type 0 where
  pub newest : Packet
  pub older : List Packet
  pub flushed : Bool
  pub level : List ℕ
  pub outer : List (List ℕ)
  pub closed : List NestedLength
  pub account_is : account ≡ at_text newest older flushed (level ∷ outer) closed
  pub going : newest.finished ≡ false
  pub whole : is_lost newest ≡ false
  pub plain : front_of newest ≡ []
  pub depth_is : length outer ≡ packet.depth
  pub len_is : length (flat open_length (level ∷ outer)) ≡ packet.len

-- no packet is begun, and none was lost
pub record IsResting (account : Account) : Type 0 where
  pub ended : is_writing account.packets ≡ false
  pub whole : newest_is_lost account.packets ≡ false

abbrev pub Stands : Account → Option OpenPacket → Type 0
Stands account None = IsResting account
Stands account (Some packet) = IsBegun account packet

-- the calls are accepted, their numbers are of 64 bits, and they lead where the packet stands so
pub record LeadTo (account : Account) (calls : List Call) (packet : Option OpenPacket) : Type 0 where
  pub accepted : AreAccepted account calls
  pub words : AreWords calls
  pub stands : Stands (fold noted account calls) packet

pub lead_on : (account : Account) (calls more : List Call) (between packet : Option OpenPacket) → LeadTo account calls between
    → LeadTo (fold noted account calls) more packet → LeadTo account (calls ++ more) packet
lead_on account calls more between packet first then = record {
  accepted = accepted_both account calls more first.accepted then.accepted;
  words = words_both calls more first.words then.words;
  stands = subst (λ (a : Account). Stands a packet) (sym (fold-append noted account calls more)) then.stands;
}

pub leads_nowhere : (account : Account) (packet : Option OpenPacket) → Stands account packet → LeadTo account [] packet
leads_nowhere account packet stands = record { accepted = tt; words = tt; stands = stands }

-- ---- one call after another

pub begins : (account : Account) (line : ℕ) → IsResting account
    → LeadTo account (Begun true ∷ []) (Some (record { line = line; depth = 0; len = 0 }))
begins account line rests = record {
  accepted = ((refl, rests.ended), tt);
  words = tt;
  stands = record {
    newest = begun_packet true account;
    older = account.packets;
    flushed = false;
    level = mark_where (true && newest_is_lost account.packets);
    outer = [];
    closed = [];
    account_is = refl;
    going = refl;
    whole = refl;
    plain = rw rests.whole refl;
    depth_is = refl;
    len_is = rw rests.whole refl;
  };
}

pub writes : (account : Account) (packet : OpenPacket) (fields : Fields) → IsBegun account packet → MayFollow packet.depth packet.len fields
    → AreWords (calls_of fields) → LeadTo account (calls_of fields) (Some (grown packet 0 (encoding_len fields)))
writes account packet fields b may words =
    let w : Writes b.newest b.older b.flushed (calls_of fields) b.level (b.level ++ encoding_of fields) b.outer b.closed =
    writes_fields b.newest b.older b.flushed fields b.level b.outer b.closed in
    let here : MayFollow (length b.outer) (length (flat open_length (b.level ∷ b.outer))) fields = rw (b.depth_is, b.len_is) may in
    let accepted = accepts_fields b.newest b.older b.flushed b.going b.plain fields b.level b.outer b.closed here in
    record {
      accepted = subst (λ (a : Account). AreAccepted a (calls_of fields)) (sym b.account_is) accepted;
      words = words;
      stands = record {
        newest = b.newest;
        older = b.older;
        flushed = b.flushed;
        level = b.level ++ encoding_of fields;
        outer = b.outer;
        closed = w.more;
        account_is = ap (λ (a : Account). fold noted a (calls_of fields)) b.account_is ∙ w.is;
        going = b.going;
        whole = b.whole;
        plain = b.plain;
        depth_is = omega (arith, b.depth_is);
        len_is = omega (arith, b.len_is, longer b.level (encoding_of fields) b.outer, encoding_as_long fields);
      };
    }

-- nothing speaks against a nested message in such a packet
pub record MayNest (packet : OpenPacket) (field : ℕ) : Type 0 where
  pub numbered : IsField field
  pub free : packet.depth ≡ 0 → is_reserved field ≡ false
  pub shallow : packet.depth < MAX_NESTING
  pub short : packet.len + (length (nested_tag field) + 4) ≤ MAX_PACKET_LEN

pub nests : (account : Account) (packet : OpenPacket) (field : ℕ) → IsBegun account packet → MayNest packet field
    → LeadTo account (Nested field ∷ []) (Some (grown packet 1 (length (nested_tag field) + 4)))
nests account packet field b may =
    let before = at_text b.newest b.older b.flushed (b.level ∷ b.outer) b.closed in
    let long = len_is b.newest b.older b.flushed b.going b.plain (b.level ∷ b.outer) b.closed in
    let accepted : AreAccepted before (Nested field ∷ []) = (
      (
        record {
          begun = rw b.going refl;
          numbered = may.numbered;
          free = λ one. may.free (omega (arith, one, b.depth_is));
          short = omega (arith, long, b.len_is, may.short);
        },
        omega (arith, may.shallow, b.depth_is),
      ),
      tt,
    ) in
    record {
      accepted = subst (λ (a : Account). AreAccepted a (Nested field ∷ [])) (sym b.account_is) accepted;
      words = tt;
      stands = record {
        newest = b.newest;
        older = b.older;
        flushed = b.flushed;
        level = [];
        outer = (b.level ++ nested_tag field) ∷ b.outer;
        closed = b.closed;
        account_is = ap (λ (a : Account). noted a (Nested field)) b.account_is;
        going = b.going;
        whole = b.whole;
        plain = b.plain;
        depth_is = omega (arith, b.depth_is);
        len_is = omega (arith, b.len_is, begun_len (b.level ++ nested_tag field) b.outer, longer b.level (nested_tag field) b.outer);
      };
    }

-- a message that ends leaves the length as it was
pub ended_len : (level outer : List ℕ) (others : List (List ℕ))
    → length (flat open_length ((outer ++ redundant (length level) ++ level) ∷ others)) ≡ length (flat open_length (level ∷ outer ∷ others))
ended_len level outer others =
    let four = redundant (length level) in
    let front = flat open_length (outer ∷ others) in
    longer (outer ++ four) level others
    ∙ omega (arith, longer outer four others, length-redundant (length level), length-append (front ++ open_length) level, length-append front open_length)

unnests_at : (account : Account) (packet : OpenPacket) (b : IsBegun account packet) (outer : List (List ℕ)) → b.outer ≡ outer → packet.depth ≢ 0
    → LeadTo account (Ended ∷ []) (Some (record packet { depth = packet.depth - 1 }))
unnests_at account packet b [] is some = absurd (some (sym b.depth_is ∙ ap length is))
unnests_at account packet b (message ∷ others) is some =
    let same : account ≡ at_text b.newest b.older b.flushed (b.level ∷ message ∷ others) b.closed =
    b.account_is ∙ ap (λ (outer : List (List ℕ)). at_text b.newest b.older b.flushed (b.level ∷ outer) b.closed) is in
    let long : length (flat open_length (b.level ∷ message ∷ others)) ≡ packet.len =
    subst (λ (outer : List (List ℕ)). length (flat open_length (b.level ∷ outer)) ≡ packet.len) is b.len_is in
    let deep : length (message ∷ others) ≡ packet.depth = subst (λ (outer : List (List ℕ)). length outer ≡ packet.depth) is b.depth_is in
    let accepted : AreAccepted (at_text b.newest b.older b.flushed (b.level ∷ message ∷ others) b.closed) (Ended ∷ []) =
    ((rw b.going refl, omega arith), tt) in
    record {
      accepted = subst (λ (a : Account). AreAccepted a (Ended ∷ [])) (sym same) accepted;
      words = tt;
      stands = record {
        newest = b.newest;
        older = b.older;
        flushed = b.flushed;
        level = message ++ redundant (length b.level) ++ b.level;
        outer = others;
        closed = b.closed ++ record { at = length (flat open_length (message ∷ others)); size = length b.level } ∷ [];
        account_is = ap (λ (a : Account). noted a Ended) same;
        going = b.going;
        whole = b.whole;
        plain = b.plain;
        depth_is = omega (arith, deep);
        len_is = ended_len b.level message others ∙ long;
      };
    }

pub unnests : (account : Account) (packet : OpenPacket) → IsBegun account packet → packet.depth ≢ 0
    → LeadTo account (Ended ∷ []) (Some (record packet { depth = packet.depth - 1 }))
unnests account packet b some = unnests_at account packet b b.outer refl some

finishes_at : (account : Account) (packet : OpenPacket) (b : IsBegun account packet) (outer : List (List ℕ)) → b.outer ≡ outer → packet.depth ≡ 0
    → LeadTo account (Finished ∷ []) None
finishes_at account packet b [] is none =
    let same : account ≡ at_text b.newest b.older b.flushed (b.level ∷ []) b.closed =
    b.account_is ∙ ap (λ (outer : List (List ℕ)). at_text b.newest b.older b.flushed (b.level ∷ outer) b.closed) is in
    let accepted : AreAccepted (at_text b.newest b.older b.flushed (b.level ∷ []) b.closed) (Finished ∷ []) = ((rw b.going refl, refl), tt) in
    let rests : IsResting (noted (at_text b.newest b.older b.flushed (b.level ∷ []) b.closed) Finished) = record { ended = refl; whole = b.whole } in
    record {
      accepted = subst (λ (a : Account). AreAccepted a (Finished ∷ [])) (sym same) accepted;
      words = tt;
      stands = subst (λ (a : Account). IsResting (noted a Finished)) (sym same) rests;
    }
finishes_at account packet b (message ∷ others) is none = absurd (omega (arith, none, b.depth_is, ap length is))

pub finishes : (account : Account) (packet : OpenPacket) → IsBegun account packet → packet.depth ≡ 0 → LeadTo account (Finished ∷ []) None
finishes account packet b none = finishes_at account packet b b.outer refl none

pub flushes : (account : Account) → IsResting account → LeadTo account (Flushed ∷ []) None
flushes account rests = record { accepted = (rests.ended, tt); words = tt; stands = record { ended = rests.ended; whole = rests.whole } }

-- a packet that one line gives whole
pub writes_whole : (account : Account) (fields : Fields) → IsResting account → MayFollow 0 0 fields → AreWords (calls_of fields)
    → LeadTo account (Begun true ∷ calls_of fields ++ Finished ∷ []) None
writes_whole account fields rests may words =
    let begun = begins account 0 rests in
    let packet : OpenPacket = record { line = 0; depth = 0; len = 0 } in
    let written = writes (noted account (Begun true)) packet fields begun.stands may words in
    let ended = finishes (fold noted (noted account (Begun true)) (calls_of fields)) (grown packet 0 (encoding_len fields)) written.stands refl in
    let more = lead_on (noted account (Begun true)) (calls_of fields) (Finished ∷ []) (Some (grown packet 0 (encoding_len fields))) None written ended in
    record { accepted = (begun.accepted.0, more.accepted); words = more.words; stands = more.stands }
