-- A packet begins in a chunk: behind what the held one holds, or first in a new one.
use Rattle.std.proofs.Common.{◌≡◌, ◌∙◌, ℕ, ◌+◌, ◌%◌, ◌<◌, ◌≤◌, Bool, true, false, not, ◌==◌, ◌&&◌, nat_le, nat_lt, List, [], ◌∷◌, ◌++◌, length, reverse, take, drop, vec_len, refl, sym, ap, subst, arith, true≢false, inr, Result}
use Rattle.std.proofs.lemmas.Bool.{ne_eqb}
use Rattle.std.proofs.lemmas.Bool.Decides.{nat_tests}
use Rattle.std.proofs.lemmas.List.{take-append-drop, length-take, length-append}
use Rattle.trace_base.specs.declared.limits.TheConstants.{MAX_FRAGMENTS, MAX_OPEN_HOLES}
use Rattle.chunk_plain.specs.declared.tokens.TheConstants.{POSITION_LIMIT}
use Rattle.trace_writer.specs.declared.ids.TheConstants.{PACKET_IDS}
use Rattle.trace_model.specs.Calls.{Call}
use Rattle.trace_model.specs.Images.{Patch}
use Rattle.trace_model.specs.Row.{Chain}
use Rattle.trace_model.specs.Packets.{Packet, Account, account_of}
use Rattle.trace_model.specs.Pages.{Page, framed}
use Rattle.trace_model.specs.Cut.{is_fresh}
use Rattle.commit_body.specs.declared.hole.Hole.{Hole}
use Rattle.commit_body.specs.Patches.{holes_outside}
use Rattle.commit_body.specs.Pending.{Pending}
use Rattle.chunk_plain.specs.Payload.{byte_in}
use Rattle.chunk_plain.specs.Views.{BegunChunk, Held, Head, Draft, fresh, WriterView}
use Rattle.chunk_plain.specs.Drafts.{head_at}
use Rattle.chunk_plain.specs.Steps.{completes}
use Rattle.chunk_plain.specs.Meaning.{Meaning, IsWriterStep}
use Rattle.chunk_plain.specs.Words.{IsBegun}
use Rattle.chunk_plain.specs.declared.tokens.Held.{Held as HeldToken}
use Rattle.chunk_plain.specs.declared.setup.ChunkRange.{ChunkRange}
use Rattle.chunk_plain.specs.Setup.{Setup, spot}
use Rattle.cut_steps.specs.RawChains.{raw_chains, page_with}
use Rattle.cut_steps.specs.Writing.{IsWriting}
use Rattle.cut_steps.proofs.Beginning.{writing_begun, writing_begun_new, begins_well-begun}
use Rattle.cut_steps.proofs.ChainLemmas.{chains_before-more, earlier_pieces-more}
use Rattle.trace_writer.specs.declared.begin.Place.{Place}
use Rattle.trace_writer.specs.declared.chunk.HeldChunk.{HeldChunk}
use Rattle.trace_writer.specs.declared.fault.Begun.{Begun as BegunPacket}
use Rattle.trace_writer.specs.declared.fault.CallFault.{CallFault}
use Rattle.trace_writer.specs.declared.fragment.OpenFragment.{OpenFragment}
use Rattle.trace_writer.specs.declared.route.Route.{Route}
use Rattle.trace_writer.specs.declared.state.State.{State}
use Rattle.trace_writer.specs.declared.state.State.TheVariants.{Idle, Between, Writing, Dropping, Stalled}
use Rattle.trace_writer.specs.declared.state.Writer.{Writer}
use Rattle.trace_writer.specs.Empty.{is_stalled}
use Rattle.trace_writer.specs.Headers.{held_head}
use Rattle.trace_writer.specs.Site.{Site, IsRoute, site_of}
use Rattle.trace_writer.specs.Filled.{frames, IsFilled, HasOpenFragment, ShowsPages}
use Rattle.trace_writer.specs.Drafted.{CountsNext}
use Rattle.trace_writer.specs.States.{InFragment, IsIdle, IsBehind, has_room}
use Rattle.trace_writer.specs.Claims.{Wins}
use Rattle.trace_writer.specs.Asked.{IsAsked, begun_as, stops_with}
use Rattle.trace_writer.specs.Helping.{IsWork}
use Rattle.trace_writer.specs.Moments.{at_step, moment}
use Rattle.trace_writer.specs.OwnSteps.{IsQuiet}
use Rattle.trace_writer.specs.Placing.{IsStarted, IsRoomy, IsPlace, BeginsAt, is_behind, is_roomy}
use Rattle.trace_writer.proofs.stops.Idling.{completed_idle, behind_content}
use Rattle.trace_writer.proofs.holding.Payloads.{length-framed}
use Rattle.trace_writer.proofs.holding.Seats.{redrafted_here, shows_long}
use Rattle.trace_writer.proofs.packets.Ending.{behind_head, behind_fits_next}
use Rattle.trace_writer.proofs.holding.Publishing.{byte_front, fits_new, heads_new}
use Rattle.trace_writer.proofs.claims.Working.{asked_of}

-- four bytes are set aside for the size of a fragment behind these
pub started_written : (payload : List ℕ) (at count : ℕ) (done : List (List ℕ)) → at + 4 ≤ length payload → IsFilled payload at count done
    → HasOpenFragment payload at (at + 4) (count + 1) done []
started_written payload at count done room filled =
    let long : length payload ≡ length (frames done) + length filled.rest = ap length filled.payload_is ∙ length-append (frames done) filled.rest in
    record {
      four = take 4 filled.rest;
      rest = drop 4 filled.rest;
      four_is = omega (arith, length-take 4 filled.rest, long, room, filled.at_is);
      payload_is = filled.payload_is ∙ ap (λ (xs : List ℕ). frames done ++ xs) (sym (take-append-drop 4 filled.rest));
      start_is = filled.at_is;
      at_is = omega arith;
      count_is = omega (arith, filled.count_is);
    }

-- The writer is inside the packet that begins there.
pub started_inside : (site : Site) (account : Account) (packet : Packet) (view new : WriterView) (pending : Pending) (chunk : HeldChunk) (fragment : OpenFragment)
    (pages : List Page) (completed : List BegunChunk) (draft : Draft) (done : List (List ℕ)) (counted : WriterView)
    → chunk.at + 12 ≤ vec_len chunk.held.body.payload → IsFilled chunk.held.body.payload.items chunk.at chunk.count done
    → view.begun ≡ completed ++ Held chunk.held.chunk draft ∷ [] → ShowsPages site 0 completed pages → chunk.held.position ≡ length pages
    → (spot site.setup chunk.held.chunk).payload_size ≡ site.size → vec_len chunk.held.body.payload ≡ site.size
    → pending.holes ≡ [] → length pending.unsent ≤ MAX_OPEN_HOLES
    → IsWriting site.size packet account.packets pages chunk.continues done [] pending.unsent [] []
    → IsStarted chunk fragment → CountsNext chunk view counted → new.begun ≡ counted.begun
    → InFragment site packet account.packets new pending fragment []
started_inside site account packet view new pending chunk fragment pages completed draft done counted room filled begun shown position sized whole holes few writing started counts same =
    let long : length completed ≡ length pages = shows_long site 0 completed pages shown in
    let here : new.begun ≡ completed ++ Held chunk.held.chunk counts.draft ∷ [] =
    same ∙ redrafted_here view counted completed [] chunk.held.chunk chunk.held.position draft counts.draft begun (position ∙ sym long) counts.view in
    let payload_long : length chunk.held.body.payload.items ≡ vec_len chunk.held.body.payload = sym chunk.held.body.payload.ok.0 in
    let written : HasOpenFragment chunk.held.body.payload.items chunk.at (chunk.at + 4) (chunk.count + 1) done [] =
    started_written chunk.held.body.payload.items chunk.at chunk.count done (omega (arith, room, payload_long)) filled in
    record {
      pages = pages;
      done = done;
      now = [];
      completed = completed;
      draft = counts.draft;
      begun = here ∙ ap (λ (h : HeldToken). completed ++ Held h.chunk counts.draft ∷ []) (sym started.held);
      drafted = record {
        head = counts.head
            ∙ ap (λ (n : ℕ). held_head n chunk.continues) (sym started.count)
            ∙ ap (λ (b : Bool). held_head fragment.count b) (sym started.continues);
        bytes = λ j below.
            counts.bytes j (omega (arith, below, filled.at_is)) ∙ ap (λ (xs : List ℕ). byte_in xs j) filled.payload_is ∙ byte_front (frames done) filled.rest j below;
        sealed = let most = counts.sealed in omega (arith, most, filled.at_is);
      };
      shown = shown;
      position = ap (λ (h : HeldToken). h.position) started.held ∙ position;
      sized = ap (λ (h : HeldToken). (spot site.setup h.chunk).payload_size) started.held ∙ sized;
      whole = ap (λ (h : HeldToken). vec_len h.body.payload) started.held ∙ whole;
      written = subst (λ (h : HeldToken). HasOpenFragment h.body.payload.items fragment.start fragment.at fragment.count done []) (sym started.held)
          (subst (λ (n : ℕ). HasOpenFragment chunk.held.body.payload.items n fragment.at fragment.count done []) (sym started.start)
          (subst (λ (n : ℕ). HasOpenFragment chunk.held.body.payload.items chunk.at n fragment.count done []) (sym started.at)
          (subst (λ (n : ℕ). HasOpenFragment chunk.held.body.payload.items chunk.at (chunk.at + 4) n done []) (sym started.count) written)));
      few = subst (λ (xs : List Hole). length xs ≤ MAX_OPEN_HOLES) (sym holes) (omega arith);
      room = subst (λ (xs : List Hole). length pending.unsent + holes_outside fragment.held.position xs ≤ MAX_OPEN_HOLES) (sym holes) (omega (arith, few));
      writing = subst (λ (b : Bool). IsWriting site.size packet account.packets pages b done [] pending.unsent (reverse pending.holes) []) (sym started.continues)
          (subst (λ (xs : List Hole). IsWriting site.size packet account.packets pages chunk.continues done [] pending.unsent (reverse xs) []) (sym holes) writing);
    }

-- In a new chunk

pub new_roomy : (setup : Setup) (place : ℕ) (route : Route) (account : Account) (view new : WriterView) (pending : Pending) (held : HeldToken) (chunk : HeldChunk) (position : ℕ)
    → IsRoute setup place route → chunk.held ≡ held → chunk.sealed ≡ 0 → chunk.at ≡ 0 → chunk.count ≡ 0 → chunk.continues ≡ false
    → position ≡ length view.begun → position + PACKET_IDS ≤ POSITION_LIMIT
    → Wins route held.chunk view new → IsBegun setup held.chunk position held
    → IsIdle (site_of setup place route) account view pending → IsRoomy (site_of setup place route) account new pending chunk
new_roomy setup place route account view new pending held chunk position is_route held_is sealed_is at_is count_is continues_is position_is ids claims begun idle =
    let site : Site = site_of setup place route in
    let chunk_is : chunk.held.chunk ≡ held.chunk = ap (λ (h : HeldToken). h.chunk) held_is in
    let chunk_id : chunk.held.position ≡ position = ap (λ (h : HeldToken). h.position) held_is ∙ begun.position_is in
    let listed : new.begun ≡ view.begun ++ Held chunk.held.chunk (fresh claims.words) ∷ [] =
    claims.begun ∙ ap (λ (n : ℕ). view.begun ++ Held n (fresh claims.words) ∷ []) (sym chunk_is) in
    let long : length view.begun ≡ length idle.pages = shows_long site 0 view.begun idle.pages idle.shown in
    let sized : (spot setup held.chunk).payload_size ≡ route.payload_size =
    is_route.sizes held.chunk (record { least = subst (λ (range : ChunkRange). range.first ≤ held.chunk) (sym is_route.range) claims.least; below = subst (λ (range : ChunkRange). held.chunk < range.first + range.count) (sym is_route.range) claims.below }) in
    let whole : vec_len chunk.held.body.payload ≡ route.payload_size = ap (λ (h : HeldToken). vec_len h.body.payload) held_is ∙ begun.whole ∙ sized in
    let room : chunk.at + 12 ≤ vec_len chunk.held.body.payload = omega (arith, at_is, whole, is_route.least) in
    let filled : IsFilled chunk.held.body.payload.items chunk.at chunk.count [] = record { rest = chunk.held.body.payload.items; payload_is = refl; at_is = at_is; count_is = count_is } in
    record {
      fit = fits_new setup new chunk claims.words view.begun [] listed (chunk_id ∙ position_is) (whole ∙ sym (ap (λ (n : ℕ). (spot setup n).payload_size) chunk_is ∙ sized))
          sealed_is at_is count_is;
      follows = heads_new new chunk.held.chunk chunk.held.position claims.words view.begun [] (held_head (chunk.count + 1) chunk.continues) listed (chunk_id ∙ position_is);
      room = room;
      few = omega (arith, count_is);
      ids = omega (arith, chunk_id, ids);
      apart = λ goes. absurd (true≢false (sym goes ∙ continues_is));
      begins = λ packet counted later fragment bare started counts same.
          started_inside site account packet new later pending chunk fragment idle.pages view.begun (fresh claims.words) [] counted room filled listed idle.shown (chunk_id ∙ position_is ∙ long)
          (ap (λ (n : ℕ). (spot setup n).payload_size) chunk_is ∙ sized) whole idle.holes (omega (arith, ap length idle.unsent))
          (subst (λ (b : Bool). IsWriting site.size packet account.packets idle.pages b [] [] pending.unsent [] []) (sym continues_is)
          (subst (λ (xs : List Patch). IsWriting site.size packet account.packets idle.pages false [] [] xs [] []) (sym idle.unsent)
          (writing_begun_new site.size packet account.packets idle.pages [] idle.between idle.ended bare.kept bare.given_up bare.finished bare.levels bare.closed
          (ap (λ (b : Bool). is_fresh site.size b account.packets (raw_chains idle.pages)) bare.follows_flush ∙ idle.fresh))))
          started counts same;
    }

-- Behind what the held chunk holds

none_empty : (first : List ℕ) (others : List (List ℕ)) → (length (first ∷ others) == 0) ≡ false
none_empty first others = ne_eqb (length (first ∷ others)) 0 (λ e. omega (arith, e))

pub behind_roomy : (site : Site) (account : Account) (view : WriterView) (pending : Pending) (chunk : HeldChunk)
    → chunk.held.position + 1 + PACKET_IDS ≤ POSITION_LIMIT → has_room site.size chunk ≡ true
    → IsBehind site account view pending chunk → IsRoomy site account view pending chunk
behind_roomy site account view pending chunk ids roomy behind =
    let done : List (List ℕ) = behind.first ∷ behind.others in
    let long : length behind.completed ≡ length behind.pages = shows_long site 0 behind.completed behind.pages behind.shown in
    let stored : head_at view chunk.held.position ≡ held_head chunk.count chunk.continues = behind_head site account view pending chunk behind in
    let parts = room_parts chunk.at site.size chunk.count roomy in
    let room : chunk.at + 12 ≤ vec_len chunk.held.body.payload = omega (arith, parts.0, behind.whole) in
    let chains : List Chain = raw_chains (behind.pages ++ page_with chunk.continues done ∷ []) in
    record {
      fit = behind_fits_next site account view pending chunk behind;
      follows = record {
        count_grows = omega (arith, ap (λ (h : Head). h.count) stored);
        front_stays = λ some. sym (ap (λ (h : Head). h.flags % 2) stored);
      };
      room = room;
      few = parts.1;
      ids = omega (arith, ids);
      apart = λ goes. omega (arith, behind.filled.at_is, length-append (framed behind.first) (frames behind.others), length-framed behind.first);
      begins = λ packet counted later fragment bare started counts same.
          started_inside site account packet view later pending chunk fragment behind.pages behind.completed behind.draft done counted room behind.filled behind.begun behind.shown behind.position
          behind.sized behind.whole behind.holes behind.few
          (writing_begun site.size packet account.packets behind.pages chunk.continues done [] chains pending.unsent behind.between
          (earlier_pieces-more behind.pages chunk.continues behind.first behind.others) (chains_before-more behind.pages chunk.continues behind.first behind.others) behind.continues_is
          bare.kept bare.given_up bare.finished bare.levels bare.closed
          (begins_well-begun site.size packet account.packets behind.pages chunk.continues done [] chains bare.kept (earlier_pieces-more behind.pages chunk.continues behind.first behind.others)
          (none_empty behind.first behind.others ∙ sym (ap (λ (b : Bool). is_fresh site.size b account.packets chains) bare.follows_flush ∙ behind.fresh ∙ ap not roomy))))
          started counts same;
    }
  where
    room_parts : (at size count : ℕ) → (nat_le (at + 12) size && nat_lt count MAX_FRAGMENTS) ≡ true → (at + 12 ≤ size) × (count < MAX_FRAGMENTS)
    room_parts at size count e = (grind (arith, nat_tests), grind (arith, nat_tests))

-- The held chunk was completed, since it has no room.
pub behind_idle : (site : Site) (account : Account) (view new : WriterView) (pending after : Pending) (chunk : HeldChunk)
    → chunk.count ≤ 1023 → after ≡ record pending { unsent = [] }
    → new ≡ completes view chunk.held.chunk chunk.held.position (behind_content site pending chunk)
    → has_room site.size chunk ≡ false → IsBehind site account view pending chunk → IsIdle site account new after
behind_idle site account view new pending after chunk few pending_is is full behind =
    completed_idle site account account.flushed view new new pending after chunk few pending_is is refl (λ chains e. e) (inr full) behind

pub room_of : (site : Site) (chunk : HeldChunk) (answer : Bool) → vec_len chunk.held.body.payload ≡ site.size
    → answer ≡ (nat_le (chunk.at + 12) (vec_len chunk.held.body.payload) && nat_lt chunk.count MAX_FRAGMENTS) → has_room site.size chunk ≡ answer
room_of site chunk answer whole is = sym (is ∙ ap (λ (n : ℕ). nat_le (chunk.at + 12) n && nat_lt chunk.count MAX_FRAGMENTS) whole)

-- a writer that holds a chunk with room hasn't stalled
pub roomy_goes : (state : State) → is_roomy state ≡ true → is_stalled state ≡ false
roomy_goes (Idle next_position) roomy = refl
roomy_goes (Between chunk) roomy = refl
roomy_goes (Writing fragment) roomy = refl
roomy_goes (Dropping next_position) roomy = refl
roomy_goes (Stalled next_position) roomy = absurd (true≢false (sym roomy))

-- The set-up and the seat's place are the same throughout.

pub idle_there : (setup there : Setup) (place moved : ℕ) (route : Route) (account : Account) (view : WriterView) (pending : Pending)
    → there ≡ setup → moved ≡ place → IsIdle (site_of setup place route) account view pending → IsIdle (site_of there moved route) account view pending
idle_there setup there place moved route account view pending setup_is place_is idle =
    subst (λ (s : Setup). IsIdle (site_of s moved route) account view pending) (sym setup_is)
    (subst (λ (n : ℕ). IsIdle (site_of setup n route) account view pending) (sym place_is) idle)

pub place_here : (setup there : Setup) (place moved : ℕ) (route : Route) (account : Account) (view : WriterView) (pending : Pending) (found : Place)
    → there ≡ setup → moved ≡ place → IsPlace (site_of there moved route) account view pending found → IsPlace (site_of setup place route) account view pending found
place_here setup there place moved route account view pending found setup_is place_is is =
    subst (λ (s : Setup). IsPlace (site_of s place route) account view pending found) setup_is
    (subst (λ (n : ℕ). IsPlace (site_of there n route) account view pending found) place_is is)

-- A place was found for the writer's next packet, and nothing else was noted.
pub record HasFound {H T W S : Type 0} (means : Meaning T W S) (needs : H → T → Type 0) (helps : H → T → ℕ → Bool → H → T → Type 0)
    (before : Writer) (helper : H) (old : T) (seat : W) (steps : ℕ) (writer : Writer) (left : H) (new : T) (after : W) (later : ℕ) (found : Place) : Type 0 where
  pub route_is : writer.route ≡ before.route
  pub calls : (means.view new after).calls ≡ (means.view old seat).calls
  pub at : IsPlace (site_of (means.setup old) (means.place seat) before.route) (account_of (means.view old seat).calls) (means.view new after) writer.pending found
  pub work : IsWork means needs helps true before.route (at_step helper old seat steps) (not (is_behind found)) (at_step left new after later)

module _ {H T W S : Type 0} {means : Meaning T W S} {needs : H → T → Type 0} {helps : H → T → ℕ → Bool → H → T → Type 0}
    {before : Writer} {helper : H} {old : T} {seat : W} {steps : ℕ} where
  -- the same under other names
  pub found_there : {writer same_writer : Writer} {left same_left : H} {new same_new : T} {after same_after : W} {later same_later : ℕ} {found same_found : Place}
      → writer ≡ same_writer → left ≡ same_left → new ≡ same_new → after ≡ same_after → later ≡ same_later → found ≡ same_found
      → HasFound means needs helps before helper old seat steps same_writer same_left same_new same_after same_later same_found
      → HasFound means needs helps before helper old seat steps writer left new after later found
  found_there {writer} {same_writer} {left} {same_left} {new} {same_new} {after} {same_after} {later} {same_later} {found} {same_found} writer_is left_is new_is after_is later_is found_is has =
      subst (λ (w : Writer). HasFound means needs helps before helper old seat steps w left new after later found) (sym writer_is)
      (subst (λ (h : H). HasFound means needs helps before helper old seat steps same_writer h new after later found) (sym left_is)
      (subst (λ (t : T). HasFound means needs helps before helper old seat steps same_writer same_left t after later found) (sym new_is)
      (subst (λ (w : W). HasFound means needs helps before helper old seat steps same_writer same_left same_new w later found) (sym after_is)
      (subst (λ (n : ℕ). HasFound means needs helps before helper old seat steps same_writer same_left same_new same_after n found) (sym later_is)
      (subst (λ (p : Place). HasFound means needs helps before helper old seat steps same_writer same_left same_new same_after same_later p) (sym found_is)
      has)))))

  module _ {writer : Writer} {left : H} {mid : T} {between : W} {later : ℕ} {found : Place} where
    pub found_place : HasFound means needs helps before helper old seat steps writer left mid between later found
        → IsPlace (site_of (means.setup mid) (means.place between) writer.route) (account_of (means.view mid between).calls) (means.view mid between) writer.pending found
    found_place has =
        subst (λ (s : Setup). IsPlace (site_of s (means.place between) writer.route) (account_of (means.view mid between).calls) (means.view mid between) writer.pending found) (sym has.work.others.setup_stays)
        (subst (λ (n : ℕ). IsPlace (site_of (means.setup old) n writer.route) (account_of (means.view mid between).calls) (means.view mid between) writer.pending found) (sym has.work.others.place_stays)
        (subst (λ (r : Route). IsPlace (site_of (means.setup old) (means.place seat) r) (account_of (means.view mid between).calls) (means.view mid between) writer.pending found) (sym has.route_is)
        (subst (λ (noted : List Call). IsPlace (site_of (means.setup old) (means.place seat) before.route) (account_of noted) (means.view mid between) writer.pending found) (sym has.calls) has.at)))

    -- What became of the packet that was begun there.
    pub found_asked : (new : T) (after : W) (behind : Writer) (result : Result BegunPacket CallFault)
        → ((helper : H) (old new : T) (seat after : W) → IsWriterStep means old seat new after → needs helper old → needs helper new)
        → HasFound means needs helps before helper old seat steps writer left mid between later found
        → BeginsAt writer.route.spec.policy found result (means.view mid between).calls (means.view new after).calls behind.state
        → IsQuiet means mid between new after
        → IsAsked means needs helps true (stops_with result) (begun_as (stops_with result) before.route.spec.policy)
        (moment before helper old seat steps) (moment behind left new after later)
    found_asked new after behind result keeps has at quiet =
        let begins = subst (λ (r : Route). BeginsAt r.spec.policy found result (means.view mid between).calls (means.view new after).calls behind.state) has.route_is at in
        subst (λ (stopped : Bool). IsAsked means needs helps true stopped (begun_as stopped before.route.spec.policy)
        (moment before helper old seat steps) (moment behind left new after later)) (sym begins.stops)
        (asked_of means needs helps before helper old seat steps (not (is_behind found)) (begun_as (not (is_behind found)) before.route.spec.policy)
        behind left mid between later new after keeps has.work quiet
        (begins.calls ∙ ap (λ (calls : List Call). calls ++ begun_as (not (is_behind found)) before.route.spec.policy) has.calls) begins.stalls)
