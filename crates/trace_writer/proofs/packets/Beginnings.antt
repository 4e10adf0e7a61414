-- A writer that agrees with its view begins a packet, at a place that was found or at none.
use Rattle.std.proofs.Common.{◌++◌, ◌≡◌, ◌∙◌, ℕ, ◌+◌, ◌-◌, ◌*◌, ◌≤◌, ◌==◌, cond, min, Bool, true, false, Some, List, [], ◌∷◌, length, take, vec_len, refl, sym, ap, subst, arith, map, true≢false, eqb-true, Option, None}
use Rattle.trace_base.specs.declared.limits.TheConstants.{MAX_PACKET_LEN}
use Rattle.trace_base.specs.declared.policy.WriterPolicy.TheVariants.{Stalls}
use Rattle.trace_model.specs.Calls as call
use Rattle.trace_model.specs.Record.{mark_where}
use Rattle.trace_model.specs.Packets.{Packet, Account, account_of, begun_packet, with_more, front_of, body_of, newest_is_lost}
use Rattle.commit_body.specs.Pending.{Pending}
use Rattle.chunk_plain.specs.declared.tokens.Held.{Held as HeldToken}
use Rattle.chunk_plain.specs.Setup.{Setup}
use Rattle.chunk_plain.specs.Views.{BegunChunk, WriterView}
use Rattle.chunk_plain.specs.Steps.{notes_call}
use Rattle.cut_steps.specs.RawChains.{raw_chains}
use Rattle.cut_steps.proofs.Beginning.{between_lost}
use Rattle.cut_steps.proofs.StateLaws.{states_are_cuts}
use Rattle.trace_writer.specs.declared.chunk.HeldChunk.{HeldChunk}
use Rattle.trace_writer.specs.declared.fragment.OpenFragment.{OpenFragment}
use Rattle.trace_writer.specs.declared.packet.OpenPacket.{OpenPacket}
use Rattle.trace_writer.specs.declared.state.State.TheVariants.{Writing, Dropping, Stalled}
use Rattle.trace_writer.specs.declared.state.Writer.{Writer}
use Rattle.trace_writer.specs.Drafted.{CountsNext}
use Rattle.trace_writer.specs.Site.{Site, site_of}
use Rattle.trace_writer.specs.Filled.{ShowsPages}
use Rattle.trace_writer.specs.Ids.{HasIds, last_position, least_filled}
use Rattle.trace_writer.specs.Fragment.{IsPutInto}
use Rattle.trace_writer.specs.States.{InFragment, IsIdle}
use Rattle.trace_writer.specs.Placing.{IsStarted, IsRoomy}
use Rattle.trace_writer.specs.Agreement.{Agrees, AgreesBetween, IsInPacketOf, IsMeasured, is_begun, counted}
use Rattle.trace_writer.proofs.accounts.Accounts.{account_one, dropped_in}
use Rattle.trace_writer.proofs.packets.Putting.{inside_more}

counted_one : (n before : ℕ) → before ≡ counted n → min (before + 1) 18446744073709551615 ≡ counted (n + 1)
counted_one n before is = ap (λ (m : ℕ). min (m + 1) 18446744073709551615) is ∙ omega arith

-- what is open of a packet that was just begun
fresh_measured : (kept : Bool) (account : Account) (open_one : OpenPacket) → open_one.len ≡ 0 → open_one.starts.items ≡ [] → IsMeasured open_one (begun_packet kept account)
fresh_measured kept account open_one len starts = record {
  len = ap (λ (n : ℕ). n + length (front_of (begun_packet kept account))) len ∙ omega arith;
  starts = ap (map (λ (start : ℕ). start + length (front_of (begun_packet kept account)))) starts;
}

-- It is dropped as a whole.
pub begin_nowhere : (setup : Setup) (place : ℕ) (view new : WriterView) (writer after : Writer) (next_position : ℕ) (open_one : OpenPacket)
    → open_one.len ≡ 0 → open_one.starts.items ≡ [] → new ≡ notes_call view (call.Begun false)
    → after ≡ record writer { state = Dropping next_position; packet = Some open_one; begun = min (writer.begun + 1) 18446744073709551615; dropped = min (writer.dropped + 1) 18446744073709551615 }
    → next_position ≡ length view.begun → IsIdle (site_of setup place writer.route) (account_of view.calls) view writer.pending
    → AgreesBetween setup place view writer → Agrees setup place new after
begin_nowhere setup place view new writer after next_position open_one len starts notes is next idle agrees =
    let site : Site = site_of setup place writer.route in
    let account : Account = account_of view.calls in
    let packet : Packet = begun_packet false account in
    let later : Account = record { packets = packet ∷ account.packets; flushed = false } in
    let calls : account_of new.calls ≡ later = ap (λ (v : WriterView). account_of v.calls) notes ∙ account_one view.calls (call.Begun false) in
    let begun : new.begun ≡ view.begun = ap (λ (v : WriterView). v.begun) notes in
    let lost : IsIdle site later new writer.pending = record {
      pages = idle.pages;
      shown = subst (λ (xs : List BegunChunk). ShowsPages site 0 xs idle.pages) (sym begun) idle.shown;
      holes = idle.holes;
      unsent = idle.unsent;
      ended = idle.ended;
      between = between_lost site.size packet account.packets idle.pages (raw_chains idle.pages) [] 4 idle.between refl idle.fresh;
      fresh = refl;
    } in
    subst (Agrees setup place new) (sym is) (record {
      route = agrees.route;
      state = (
        next ∙ sym (ap length begun),
        record {
          packet = packet;
          older = account.packets;
          packets = ap (λ (a : Account). a.packets) calls;
          unflushed = ap (λ (a : Account). a.flushed) calls;
          lost = refl;
          idle = subst (λ (a : Account). IsIdle site a new writer.pending) (sym calls) lost;
        },
      );
      packet = subst (λ (a : Account). IsInPacketOf a.packets (Some open_one)) (sym calls) (refl, fresh_measured false account open_one len starts);
      inside = refl;
      follows = λ e. absurd (true≢false e);
      begun = counted_one (length account.packets) writer.begun agrees.begun ∙ ap counted (omega arith) ∙ sym (ap (λ (a : Account). counted (length a.packets)) calls);
      dropped = counted_one (dropped_in account.packets) writer.dropped agrees.dropped ∙ ap counted (omega arith) ∙ sym (ap (λ (a : Account). counted (dropped_in a.packets)) calls);
    })

-- It is not begun: the writer stalls.
pub stall_nowhere : (setup : Setup) (place : ℕ) (view : WriterView) (writer after : Writer) (next_position : ℕ)
    → after ≡ record writer { state = Stalled next_position } → writer.route.spec.policy ≡ Stalls
    → next_position ≡ length view.begun → IsIdle (site_of setup place writer.route) (account_of view.calls) view writer.pending
    → AgreesBetween setup place view writer → Agrees setup place view after
stall_nowhere setup place view writer after next_position is stalls next idle agrees =
    let site : Site = site_of setup place writer.route in
    let packets : List Packet = (account_of view.calls).packets in
    subst (Agrees setup place view) (sym is) (record {
      route = agrees.route;
      state = (
        next,
        record {
          stalls = stalls;
          pages = idle.pages;
          shown = idle.shown;
          cut = states_are_cuts.idle site.size packets idle.pages 4 idle.between idle.ended;
          runs = states_are_cuts.stalled_between packets idle.pages agrees.between idle.ended;
        },
      );
      packet = none_in writer.packet agrees.none_begun;
      inside = refl;
      follows = λ e. agrees.follows;
      begun = agrees.begun;
      dropped = agrees.dropped;
    })
  where
    none_in : (open_one : Option OpenPacket) → is_begun open_one ≡ false → IsInPacketOf (account_of view.calls).packets open_one
    none_in None e = agrees.between
    none_in (Some one) e = absurd (true≢false e)

-- the mark is put in front where the packet before was lost
pub record IsFronted (follows : Bool) (first fragment : OpenFragment) : Type 0 where
  pub put : follows ≡ true → IsPutInto first fragment first.at (mark_where true)
  pub at : follows ≡ true → fragment.at ≡ first.at + 3
  pub none : follows ≡ false → fragment ≡ first

bare_of : Account → Packet
bare_of account = record (begun_packet true account) { text = record { levels = [] ∷ []; closed = [] } }

fronted_inside : (site : Site) (account : Account) (view new : WriterView) (pending : Pending) (chunk : HeldChunk) (first fragment : OpenFragment) (follows : Bool) (counted : WriterView)
    → follows ≡ newest_is_lost account.packets → IsFronted follows first fragment → IsStarted chunk first → IsRoomy site account view pending chunk
    → CountsNext chunk view counted → new.begun ≡ counted.begun
    → InFragment site (begun_packet true account) account.packets new pending fragment []
unfolding bare_of
fronted_inside site account view new pending chunk first fragment true counted follows fronted started roomy counts begun =
    let bare : InFragment site (bare_of account) account.packets new pending first [] =
    roomy.begins (bare_of account) counted new first (record { kept = refl; given_up = refl; finished = refl; follows_flush = refl; levels = refl; closed = refl }) started counts begun in
    let marked : InFragment site (with_more (mark_where true) (bare_of account)) account.packets new pending fragment [] =
    inside_more site (bare_of account) account.packets new pending first fragment (mark_where true) (fronted.put refl) (fronted.at refl) bare in
    subst (λ (b : Bool). InFragment site (record (begun_packet true account) { text = record { levels = mark_where b ∷ []; closed = [] } }) account.packets new pending fragment []) follows marked
fronted_inside site account view new pending chunk first fragment false counted follows fronted started roomy counts begun =
    let bare : InFragment site (bare_of account) account.packets new pending first [] =
    roomy.begins (bare_of account) counted new first (record { kept = refl; given_up = refl; finished = refl; follows_flush = refl; levels = refl; closed = refl }) started counts begun in
    let same : InFragment site (bare_of account) account.packets new pending fragment [] =
    subst (λ (f : OpenFragment). InFragment site (bare_of account) account.packets new pending f []) (sym (fronted.none refl)) bare in
    subst (λ (b : Bool). InFragment site (record (begun_packet true account) { text = record { levels = mark_where b ∷ []; closed = [] } }) account.packets new pending fragment []) follows same

-- where the fragment is then
record IsPlaced (chunk : HeldChunk) (fragment : OpenFragment) : Type 0 where
  position : fragment.held.position ≡ chunk.held.position
  start : fragment.start ≡ chunk.at
  high : fragment.at ≤ chunk.at + 7
  continues : fragment.continues ≡ chunk.continues

placed : (chunk : HeldChunk) (first fragment : OpenFragment) (follows : Bool) → IsFronted follows first fragment → IsStarted chunk first → IsPlaced chunk fragment
placed chunk first fragment true fronted started =
    let put = fronted.put refl in
    record {
      position = put.same.position ∙ ap (λ (held : HeldToken). held.position) started.held;
      start = put.same.start ∙ started.start;
      high = omega (arith, fronted.at refl, started.at);
      continues = put.same.continues ∙ started.continues;
    }
placed chunk first fragment false fronted started =
    let same : fragment ≡ first = fronted.none refl in
    record {
      position = ap (λ (f : OpenFragment). f.held.position) same ∙ ap (λ (held : HeldToken). held.position) started.held;
      start = ap (λ (f : OpenFragment). f.start) same ∙ started.start;
      high = omega (arith, ap (λ (f : OpenFragment). f.at) same, started.at);
      continues = ap (λ (f : OpenFragment). f.continues) same ∙ started.continues;
    }

-- there are ids for all that the packet may have
placed_ids : (chunk : HeldChunk) (fragment : OpenFragment) → IsPlaced chunk fragment → MAX_PACKET_LEN + least_filled ≤ (last_position - chunk.held.position) * least_filled
    → HasIds fragment MAX_PACKET_LEN
placed_ids chunk fragment at ids =
    subst (λ (n : ℕ). MAX_PACKET_LEN + cond (fragment.start == 0) (fragment.at - 4) 277 ≤ (4294967294 - n) * 277) (sym at.position)
    (either (fragment.start == 0) refl)
  where
    either : (b : Bool) → (fragment.start == 0) ≡ b → MAX_PACKET_LEN + cond b (fragment.at - 4) 277 ≤ (4294967294 - chunk.held.position) * 277
    either true e = let zero_start : fragment.start ≡ 0 = eqb-true fragment.start 0 e in omega (arith, zero_start, at.start, at.high, ids)
    either false e = ids

-- It begins in the chunk that was found.
pub begin_behind : (setup : Setup) (place : ℕ) (view mid new : WriterView) (writer after : Writer) (chunk : HeldChunk) (first fragment : OpenFragment) (open_one : OpenPacket)
    → open_one.len ≡ 0 → open_one.starts.items ≡ []
    → IsStarted chunk first → IsFronted writer.follows_loss first fragment
    → CountsNext chunk view mid → new ≡ notes_call mid (call.Begun true)
    → after ≡ record writer { state = Writing fragment; packet = Some open_one; begun = min (writer.begun + 1) 18446744073709551615 }
    → IsRoomy (site_of setup place writer.route) (account_of view.calls) view writer.pending chunk
    → AgreesBetween setup place view writer → Agrees setup place new after
begin_behind setup place view mid new writer after chunk first fragment open_one len starts started fronted counts notes is roomy agrees =
    let site : Site = site_of setup place writer.route in
    let account : Account = account_of view.calls in
    let packet : Packet = begun_packet true account in
    let later : Account = record { packets = packet ∷ account.packets; flushed = false } in
    let calls : account_of new.calls ≡ later = ap (λ (v : WriterView). account_of v.calls) notes ∙ ap (λ (v : WriterView). account_of (v.calls ++ call.Begun true ∷ [])) counts.view ∙ account_one view.calls (call.Begun true) in
    let at : IsPlaced chunk fragment = placed chunk first fragment writer.follows_loss fronted started in
    let ids : HasIds fragment MAX_PACKET_LEN = placed_ids chunk fragment at roomy.ids in
    let length_same : MAX_PACKET_LEN + length (front_of packet) - length (body_of packet) ≡ MAX_PACKET_LEN = omega arith in
    subst (Agrees setup place new) (sym is) (record {
      route = agrees.route;
      state = record {
        packet = packet;
        older = account.packets;
        packets = ap (λ (a : Account). a.packets) calls;
        unflushed = ap (λ (a : Account). a.flushed) calls;
        inside = fronted_inside site account view new writer.pending chunk first fragment writer.follows_loss mid agrees.follows fronted started roomy counts (ap (λ (v : WriterView). v.begun) notes);
        byte = λ goes begins. absurd (let some = roomy.apart (sym at.continues ∙ goes) in omega (arith, some, at.start, begins));
        ids = subst (HasIds fragment) (sym length_same) ids;
      };
      packet = subst (λ (a : Account). IsInPacketOf a.packets (Some open_one)) (sym calls) (refl, fresh_measured true account open_one len starts);
      inside = refl;
      follows = λ e. absurd (true≢false e);
      begun = counted_one (length account.packets) writer.begun agrees.begun ∙ ap counted (omega arith) ∙ sym (ap (λ (a : Account). counted (length a.packets)) calls);
      dropped = agrees.dropped ∙ sym (ap (λ (a : Account). counted (dropped_in a.packets)) calls);
    })

-- the mark fits behind the fragment's size
pub fronted_put : (site : Site) (account : Account) (view : WriterView) (pending : Pending) (chunk : HeldChunk) (first next fragment : OpenFragment) (follows : Bool) (count : ℕ)
    → follows ≡ true → IsStarted chunk first → IsRoomy site account view pending chunk → count ≡ min 3 (vec_len first.held.body.payload - first.at)
    → IsPutInto first next first.at (take count (mark_where true)) → next.at ≡ first.at + count → fragment ≡ next → IsFronted follows first fragment
fronted_put site account view pending chunk first next fragment follows count lost started roomy count_is put at is =
    let long : vec_len first.held.body.payload ≡ vec_len chunk.held.body.payload = ap (λ (held : HeldToken). vec_len held.body.payload) started.held in
    let three : count ≡ 3 = omega (arith, long, roomy.room, started.at, count_is) in
    subst (λ (f : OpenFragment). IsFronted follows first f) (sym is) (record {
      put = λ e. subst (λ (n : ℕ). IsPutInto first next first.at (take n (mark_where true))) three put;
      at = λ e. omega (arith, at, three);
      none = λ e. absurd (true≢false (sym lost ∙ e));
    })

pub fronted_not : (first fragment : OpenFragment) (follows : Bool) → follows ≡ false → fragment ≡ first → IsFronted follows first fragment
fronted_not first fragment follows kept is = record {
  put = λ e. absurd (true≢false (sym e ∙ kept));
  at = λ e. absurd (true≢false (sym e ∙ kept));
  none = λ e. is;
}
