-- A packet runs on: the next chunk is begun, the held one is completed, and the packet's next fragment is started.
use Rattle.std.proofs.Common.{◌≡◌, ◌∙◌, ℕ, ◌+◌, ◌-◌, ◌<◌, ◌≤◌, ◌||◌, Bool, true, false, List, [], ◌∷◌, ◌++◌, length, reverse, vec_len, refl, sym, ap, subst, arith, length-append, append_assoc, inl, inr}
use Rattle.std.specs.Prelude.{◌⊎◌, IsTrue}
use Rattle.std.proofs.lemmas.Bool.{eq-eqb}
use Rattle.trace_base.specs.declared.policy.WriterPolicy.{WriterPolicy}
use Rattle.trace_base.specs.declared.policy.WriterPolicy.TheVariants.{Drops, Stalls, StallsThenDrops}
use Rattle.wire_varint.specs.Varint.{redundant}
use Rattle.trace_model.specs.Images.{with_bytes}
use Rattle.trace_model.specs.Packets.{Packet, body_of}
use Rattle.trace_model.specs.Pages.{Page, laid}
use Rattle.trace_model.specs.Sequences.{is_among}
use Rattle.trace_model.specs.Cut.{IsWellFormedPage, left_behind, length_places}
use Rattle.commit_body.specs.Patches.{hole_chunks, with_lasts}
use Rattle.commit_body.specs.Pending.{Pending}
use Rattle.chunk_plain.specs.declared.setup.ChunkRange.{ChunkRange}
use Rattle.chunk_plain.specs.declared.tokens.Held.{Held as HeldToken}
use Rattle.chunk_plain.specs.declared.tokens.TheConstants.{MAX_HELD}
use Rattle.chunk_plain.specs.Owned.{held_count}
use Rattle.chunk_plain.specs.Setup.{Setup, spot}
use Rattle.chunk_plain.specs.Views.{BegunChunk, Held, Completed, Head, Draft, fresh, Content, WriterView}
use Rattle.chunk_plain.specs.Drafts.{MayFollow, head_at}
use Rattle.chunk_plain.specs.Steps.{redrafts, completes}
use Rattle.cut_steps.specs.RawChains.{current_piece, offset_behind}
use Rattle.cut_steps.specs.Writing.{IsWriting, with_open}
use Rattle.cut_steps.proofs.WritingSteps.{writing_coming}
use Rattle.cut_steps.proofs.RunningOn.{writing_run_on}
use Rattle.trace_writer.specs.declared.chunk.HeldChunk.{HeldChunk}
use Rattle.trace_writer.specs.declared.fragment.OpenFragment.{OpenFragment}
use Rattle.trace_writer.specs.declared.route.Route.{Route}
use Rattle.trace_writer.specs.Headers.{completed_chunk, flags_value, held_head}
use Rattle.trace_writer.specs.Site.{Site, IsRoute, site_of}
use Rattle.trace_writer.specs.Filled.{frames, ShowsPages}
use Rattle.trace_writer.specs.Drafted.{IsDrafted, IsFit, CountsNext}
use Rattle.trace_writer.specs.States.{InFragment}
use Rattle.trace_writer.specs.OwnSteps.{NoneHeld}
use Rattle.trace_writer.specs.Claims.{Wins, FindsNone}
use Rattle.trace_writer.specs.Placing.{IsStarted}
use Rattle.trace_writer.specs.Flows.{RunsOn, StopsHere, StopsAs}
use Rattle.trace_writer.proofs.holding.KeptChunks.{shown_none_held, none_counted, one_held}
use Rattle.trace_writer.proofs.holding.Holes.{outside_most, among_reverse, lasts_reverse}
use Rattle.trace_writer.proofs.holding.Payloads.{laid_behind, written_moved, written_offset, written_ended, written_first, run_page, full_run}
use Rattle.trace_writer.proofs.holding.Seats.{shows_long, content_is, shows_one, completed_here, redrafted_here, draft_here}
use Rattle.trace_writer.proofs.holding.Publishing.{fits, fits_new, heads_new}

-- Ids

pub next_position : (site : Site) (packet : Packet) (older : List Packet) (view : WriterView) (pending : Pending) (fragment : OpenFragment)
    → InFragment site packet older view pending fragment [] → fragment.held.position + 1 ≡ length view.begun
next_position site packet older view pending fragment w =
    let entry : BegunChunk = Held fragment.held.chunk w.draft in
    let many : length view.begun ≡ length w.completed + 1 = ap length w.begun ∙ length-append w.completed (entry ∷ []) in
    omega (arith, many, shows_long site 0 w.completed w.pages w.shown, w.position)

-- it holds one chunk, so it may begin another
pub few_inside : (site : Site) (packet : Packet) (older : List Packet) (view : WriterView) (pending : Pending) (fragment : OpenFragment)
    → InFragment site packet older view pending fragment [] → held_count view.begun < MAX_HELD
few_inside site packet older view pending fragment w =
    let one = one_held w.completed fragment.held.chunk w.draft in let none = none_counted w.completed (shown_none_held site 0 w.completed w.pages w.shown) in
    subst (λ (begun : List BegunChunk). held_count begun < MAX_HELD) (sym w.begun) (omega (arith, one, none))

-- The view while the packet runs on

-- the held chunk's patches and flags as it is completed
abbrev pub run_content : Site → Pending → List ℕ → ℕ → ℕ → Bool → Content
run_content site before payload position count continues =
    completed_chunk site.place position count (flags_value continues true (is_among position (hole_chunks before.holes))) payload
    (with_lasts (hole_chunks before.holes) before.unsent) site.buffer

abbrev pub run_completion : ℕ → ℕ → Pending → WriterView → List ℕ → ℕ → ℕ → ℕ → Bool → WriterView
run_completion place buffer before view payload chunk position count continues =
    completes view chunk position
    (completed_chunk place position count (flags_value continues true (is_among position (hole_chunks before.holes))) payload (with_lasts (hole_chunks before.holes) before.unsent) buffer)

-- the chunk as it ends is that of the fragment
pub record Ends (fragment : OpenFragment) (ended : HeldChunk) : Type 0 where
  pub chunk : ended.held.chunk ≡ fragment.held.chunk
  pub position : ended.held.position ≡ fragment.held.position
  pub sealed : ended.sealed ≡ fragment.start
  pub count : ended.count ≡ fragment.count
  pub continues : ended.continues ≡ fragment.continues
  pub payload : ended.held.body.payload.items ≡ with_bytes fragment.held.body.payload.items fragment.start (redundant (fragment.at - fragment.start - 4))

pub ends_as : (fragment : OpenFragment) (ended : HeldChunk) → ended.held ≡ record fragment.held { body = record fragment.held.body { payload = ended.held.body.payload } }
    → ended.held.body.payload.items ≡ with_bytes fragment.held.body.payload.items fragment.start (redundant (fragment.at - fragment.start - 4))
    → ended.sealed ≡ fragment.start → ended.count ≡ fragment.count → ended.continues ≡ fragment.continues → Ends fragment ended
ends_as fragment ended held bytes sealed count continues = record {
  chunk = ap (λ (h : HeldToken). h.chunk) held;
  position = ap (λ (h : HeldToken). h.position) held;
  sealed = sealed;
  count = count;
  continues = continues;
  payload = bytes;
}

-- a further chunk is begun behind the held one
pub claimed_behind : (route : Route) (chunk : ℕ) (old new : WriterView) (completed : List BegunChunk) (entry : BegunChunk) (wins : Wins route chunk old new)
    → old.begun ≡ completed ++ entry ∷ [] → new.begun ≡ completed ++ entry ∷ Held chunk (fresh wins.words) ∷ []
claimed_behind route chunk old new completed entry wins begun =
    wins.begun
    ∙ ap (λ (xs : List BegunChunk). xs ++ Held chunk (fresh wins.words) ∷ []) begun
    ∙ append_assoc completed (entry ∷ []) (Held chunk (fresh wins.words) ∷ [])

-- the fragment's chunk is held in this view too, before these
pub record IsHeldStill (site : Site) (packet : Packet) (older : List Packet) (old : WriterView) (pending : Pending) (fragment : OpenFragment) (one : WriterView) : Type 0 where
  pub inside : InFragment site packet older old pending fragment []
  pub later : List BegunChunk
  pub begun : one.begun ≡ inside.completed ++ Held fragment.held.chunk inside.draft ∷ later

pub held_first : (site : Site) (packet : Packet) (older : List Packet) (old : WriterView) (pending : Pending) (fragment : OpenFragment)
    → InFragment site packet older old pending fragment [] → IsHeldStill site packet older old pending fragment old
held_first site packet older old pending fragment w = record { inside = w; later = []; begun = w.begun }

pub held_behind : (route : Route) (chunk : ℕ) (site : Site) (packet : Packet) (older : List Packet) (old one : WriterView) (pending : Pending) (fragment : OpenFragment)
    → Wins route chunk old one → InFragment site packet older old pending fragment [] → IsHeldStill site packet older old pending fragment one
held_behind route chunk site packet older old one pending fragment wins w = record {
  inside = w;
  later = Held chunk (fresh wins.words) ∷ [];
  begun = claimed_behind route chunk old one w.completed (Held fragment.held.chunk w.draft) wins w.begun;
}

-- what its completion asks
pub ended_fits : (site : Site) (packet : Packet) (older : List Packet) (old one : WriterView) (pending : Pending) (fragment : OpenFragment) (ended : HeldChunk)
    → IsHeldStill site packet older old pending fragment one → Ends fragment ended → vec_len ended.held.body.payload ≡ vec_len fragment.held.body.payload
    → IsFit site.setup one ended (ended.count - 1) (vec_len ended.held.body.payload)
ended_fits site packet older old one pending fragment ended h e len =
    let w : InFragment site packet older old pending fragment [] = h.inside in
    let items : List ℕ = fragment.held.body.payload.items in
    let rest : List ℕ = redundant (length w.now) ++ (w.now ++ w.written.rest) in
    let payload : ended.held.body.payload.items ≡ frames w.done ++ rest =
    e.payload ∙ written_ended items fragment.start fragment.at fragment.count w.done w.now w.written ∙ laid_behind w.done w.now w.written.rest in
    let long : length ended.held.body.payload.items ≡ vec_len ended.held.body.payload = sym ended.held.body.payload.ok.0 in
    fits site.setup one ended w.draft fragment.continues w.completed h.later (ended.count - 1) fragment.count (vec_len ended.held.body.payload) w.done w.done rest rest
    (h.begun ∙ ap (λ (c : ℕ). w.completed ++ Held c w.draft ∷ h.later) (sym e.chunk))
    (e.position ∙ w.position ∙ sym (shows_long site 0 w.completed w.pages w.shown))
    (len ∙ w.whole ∙ sym w.sized ∙ ap (λ (c : ℕ). (spot site.setup c).payload_size) (sym e.chunk))
    payload (omega (arith, e.count, w.written.count_is)) (omega (arith, long, ap length payload, length-append (frames w.done) rest))
    payload (e.sealed ∙ w.written.start_is) w.drafted

pub ended_head : (site : Site) (packet : Packet) (older : List Packet) (old one : WriterView) (pending : Pending) (fragment : OpenFragment) (ended : HeldChunk)
    → IsHeldStill site packet older old pending fragment one → Ends fragment ended → head_at one ended.held.position ≡ held_head ended.count ended.continues
ended_head site packet older old one pending fragment ended h e =
    let w : InFragment site packet older old pending fragment [] = h.inside in
    ap (λ (d : Draft). d.head) (draft_here one w.completed h.later fragment.held.chunk ended.held.position w.draft h.begun
    (e.position ∙ w.position ∙ sym (shows_long site 0 w.completed w.pages w.shown)))
    ∙ w.drafted.head
    ∙ ap (λ (n : ℕ). held_head n fragment.continues) (sym e.count)
    ∙ ap (λ (c : Bool). held_head ended.count c) (sym e.continues)

-- the held chunk is completed
pub completed_before : (place : ℕ) (site : Site) (one two : WriterView) (before : Pending) (fragment : OpenFragment) (ended : HeldChunk)
    (completed later : List BegunChunk) (draft : Draft) → Ends fragment ended → place ≡ site.place
    → two ≡ run_completion place site.buffer before one ended.held.body.payload.items ended.held.chunk ended.held.position ended.count ended.continues
    → one.begun ≡ completed ++ Held fragment.held.chunk draft ∷ later → fragment.held.position ≡ length completed
    → two.begun ≡ completed ++ Completed fragment.held.chunk (run_content site before ended.held.body.payload.items fragment.held.position fragment.count fragment.continues) ∷ later
completed_before place site one two before fragment ended completed later draft e place_is view begun position =
    let payload : List ℕ = ended.held.body.payload.items in
    let buffer : ℕ = site.buffer in
    let content : Content = run_content site before payload fragment.held.position fragment.count fragment.continues in
    let is : two ≡ run_completion site.place buffer before one payload fragment.held.chunk fragment.held.position fragment.count fragment.continues =
    view
    ∙ ap (λ (p : ℕ). run_completion p buffer before one payload ended.held.chunk ended.held.position ended.count ended.continues) place_is
    ∙ ap (λ (c : ℕ). run_completion site.place buffer before one payload c ended.held.position ended.count ended.continues) e.chunk
    ∙ ap (λ (i : ℕ). run_completion site.place buffer before one payload fragment.held.chunk i ended.count ended.continues) e.position
    ∙ ap (λ (n : ℕ). run_completion site.place buffer before one payload fragment.held.chunk fragment.held.position n ended.continues) e.count
    ∙ ap (λ (c : Bool). run_completion site.place buffer before one payload fragment.held.chunk fragment.held.position fragment.count c) e.continues in
    completed_here one two completed later fragment.held.chunk fragment.held.position draft content begun position is

-- The held chunk is completed, and this chunk is begun behind it.
pub record BeginsNext (site : Site) (before : Pending) (fragment : OpenFragment) (payload : List ℕ) (chunk : ℕ) (old two : WriterView) : Type 0 where
  -- what stands in it
  pub words : List ℕ
  pub begun : (completed : List BegunChunk) (draft : Draft) → old.begun ≡ completed ++ Held fragment.held.chunk draft ∷ []
      → fragment.held.position ≡ length completed
      → two.begun ≡ (completed ++ Completed fragment.held.chunk (run_content site before payload fragment.held.position fragment.count fragment.continues) ∷ []) ++ Held chunk (fresh words) ∷ []
  pub calls : two.calls ≡ old.calls
  pub sized : (spot site.setup chunk).payload_size ≡ site.size

-- the chunk that was claimed has the payload size of all of the writer's
claimed_size : (setup : Setup) (place chunk : ℕ) (route : Route) (old new : WriterView) → IsRoute setup place route
    → Wins route chunk old new → (spot setup chunk).payload_size ≡ route.payload_size
claimed_size setup place chunk route old new r wins =
    r.sizes chunk (record {
      least = subst (λ (range : ChunkRange). range.first ≤ chunk) (sym r.range) wins.least;
      below = subst (λ (range : ChunkRange). chunk < range.first + range.count) (sym r.range) wins.below;
    })

-- a writer that drops claims first
pub next_first : (setup : Setup) (place now_place chunk : ℕ) (route : Route) (old one two : WriterView) (before : Pending) (fragment : OpenFragment) (ended : HeldChunk)
    → IsRoute setup place route → Wins route chunk old one → Ends fragment ended → now_place ≡ place
    → two ≡ run_completion now_place route.spec.buffer before one ended.held.body.payload.items ended.held.chunk ended.held.position ended.count ended.continues
    → BeginsNext (site_of setup place route) before fragment ended.held.body.payload.items chunk old two
next_first setup place now_place chunk route old one two before fragment ended r wins e place_is view =
    let site : Site = site_of setup place route in
    let content : Content = run_content site before ended.held.body.payload.items fragment.held.position fragment.count fragment.continues in
    record {
      words = wins.words;
      begun = λ completed draft begun position.
          completed_before now_place site one two before fragment ended completed (Held chunk (fresh wins.words) ∷ []) draft e place_is view
          (claimed_behind route chunk old one completed (Held fragment.held.chunk draft) wins begun) position
          ∙ sym (append_assoc completed (Completed fragment.held.chunk content ∷ []) (Held chunk (fresh wins.words) ∷ []));
      calls = ap (λ (v : WriterView). v.calls) view ∙ wins.calls;
      sized = claimed_size setup place chunk route old one r wins;
    }

-- one that stalls completes first
pub next_last : (setup : Setup) (place chunk : ℕ) (route : Route) (old one two : WriterView) (before : Pending) (fragment : OpenFragment) (ended : HeldChunk)
    → IsRoute setup place route → Wins route chunk one two → Ends fragment ended
    → one ≡ run_completion place route.spec.buffer before old ended.held.body.payload.items ended.held.chunk ended.held.position ended.count ended.continues
    → BeginsNext (site_of setup place route) before fragment ended.held.body.payload.items chunk old two
next_last setup place chunk route old one two before fragment ended r wins e view =
    let site : Site = site_of setup place route in record {
      words = wins.words;
      begun = λ completed draft begun position.
          wins.begun
          ∙ ap (λ (xs : List BegunChunk). xs ++ Held chunk (fresh wins.words) ∷ []) (completed_before place site old one before fragment ended completed [] draft e refl view begun position);
      calls = wins.calls ∙ ap (λ (v : WriterView). v.calls) view;
      sized = claimed_size setup place chunk route one two r wins;
    }

-- The next chunk

-- the chunk that is begun, behind the completed ones
pub record Starts (site : Site) (fragment : OpenFragment) (token : HeldToken) (started : HeldChunk) : Type 0 where
  pub held : started.held ≡ token
  pub sealed : started.sealed ≡ 0
  pub at : started.at ≡ 0
  pub count : started.count ≡ 0
  pub continues : started.continues ≡ true
  pub position : token.position ≡ fragment.held.position + 1
  pub whole : vec_len token.body.payload ≡ (spot site.setup token.chunk).payload_size

-- The packet in the next chunk

-- the held chunk is completed, and a fragment is started in the next one
pub record GoesOnIn (site : Site) (old new : WriterView) (before after : Pending) (fragment next : OpenFragment) : Type 0 where
  pub calls : new.calls ≡ old.calls
  pub none_left : after ≡ record before { unsent = [] }
  pub payload : List ℕ
  pub payload_is : payload ≡ with_bytes fragment.held.body.payload.items fragment.start (redundant (fragment.at - fragment.start - 4))
  pub draft : Draft
  pub begun : (completed : List BegunChunk) (last : Draft) → old.begun ≡ completed ++ Held fragment.held.chunk last ∷ [] → fragment.held.position ≡ length completed
      → new.begun ≡ (completed ++ Completed fragment.held.chunk (run_content site before payload fragment.held.position fragment.count fragment.continues) ∷ [])
      ++ Held next.held.chunk draft ∷ []
  pub drafted : IsDrafted draft next.count next.continues []
  pub position : next.held.position ≡ fragment.held.position + 1
  pub start : next.start ≡ 0
  pub at : next.at ≡ 4
  pub count : next.count ≡ 1
  pub continues : next.continues ≡ true
  pub whole : vec_len next.held.body.payload ≡ site.size
  pub sized : (spot site.setup next.held.chunk).payload_size ≡ site.size

-- the page of the chunk that is completed
abbrev pub page_run : (site : Site) (packet : Packet) (older : List Packet) (old : WriterView) (before : Pending) (fragment : OpenFragment)
    → InFragment site packet older old before fragment [] → Page
page_run site packet older old before fragment w =
    run_page fragment.continues (is_among fragment.held.position (hole_chunks before.holes)) (w.done ++ w.now ∷ []) w.written.rest
    (with_lasts (hole_chunks before.holes) before.unsent)

pub page_full : (site : Site) (packet : Packet) (older : List Packet) (old : WriterView) (before : Pending) (fragment : OpenFragment)
    (w : InFragment site packet older old before fragment []) → IsWellFormedPage site.size (page_run site packet older old before fragment w)
page_full site packet older old before fragment w =
    let items : List ℕ = fragment.held.body.payload.items in
    let long : length items ≡ site.size = let all = fragment.held.body.payload.ok.0 in omega (arith, w.whole, all) in
    let few : fragment.count ≤ 1023 = fragment.few in
    full_run items fragment.start fragment.at fragment.count site.size w.done w.now fragment.continues (is_among fragment.held.position (hole_chunks before.holes))
    (with_lasts (hole_chunks before.holes) before.unsent) w.written long few

pub page_shown : (site : Site) (packet : Packet) (older : List Packet) (old : WriterView) (before : Pending) (fragment : OpenFragment) (payload : List ℕ)
    (w : InFragment site packet older old before fragment [])
    → payload ≡ with_bytes fragment.held.body.payload.items fragment.start (redundant (fragment.at - fragment.start - 4))
    → ShowsPages site 0 (w.completed ++ Completed fragment.held.chunk (run_content site before payload fragment.held.position fragment.count fragment.continues) ∷ [])
    (w.pages ++ page_run site packet older old before fragment w ∷ [])
page_shown site packet older old before fragment payload w payload_is =
    let page : Page = page_run site packet older old before fragment w in
    let laid_is : payload ≡ laid false (w.done ++ w.now ∷ []) w.written.rest =
    payload_is ∙ written_ended fragment.held.body.payload.items fragment.start fragment.at fragment.count w.done w.now w.written in
    shows_one site 0 fragment.held.position fragment.held.chunk w.completed w.pages
    (run_content site before payload fragment.held.position fragment.count fragment.continues) page w.shown (omega (arith, w.position))
    (content_is site fragment.held.position fragment.count payload page (w.written.count_is ∙ sym (length-append w.done (w.now ∷ []))) laid_is)

in_next : (site : Site) (packet : Packet) (older : List Packet) (old new : WriterView) (before after : Pending) (fragment next : OpenFragment) (coming : List ℕ)
    (w : InFragment site packet older old before fragment []) → 284 ≤ site.size
    → (left_behind site.size (current_piece w.pages w.done w.now) ≡ 0)
    ⊎ ((left_behind site.size (current_piece w.pages w.done w.now) < 4) × IsTrue (is_among (length (body_of packet)) (coming ++ length_places packet.text)))
    → IsWriting site.size packet older w.pages fragment.continues w.done w.now before.unsent (reverse before.holes) coming
    → GoesOnIn site old new before after fragment next → InFragment site packet older new after next coming
in_next site packet older old new before after fragment next coming w least left writing e =
    let page : Page = page_run site packet older old before fragment w in
    let pages : List Page = w.pages ++ page ∷ [] in
    let content : Content = run_content site before e.payload fragment.held.position fragment.count fragment.continues in
    let runs : IsWriting site.size packet older pages true [] [] [] (reverse before.holes) coming =
    writing_run_on site.size packet older w.pages page w.done w.now before.unsent (reverse before.holes) coming refl refl (page_full site packet older old before fragment w)
    (sym (lasts_reverse before.holes before.unsent))
    (ap (λ (i : ℕ). is_among i (hole_chunks before.holes)) w.position ∙ sym (among_reverse (length w.pages) before.holes))
    left writing in
    let next_long : 4 ≤ length next.held.body.payload.items = let all = next.held.body.payload.ok.0 in omega (arith, e.whole, all, least) in
    let same_holes : length after.holes ≡ length before.holes = ap (λ (p : Pending). length p.holes) e.none_left in
    let none : length after.unsent ≡ 0 = ap (λ (p : Pending). length p.unsent) e.none_left in
    record {
      pages = pages;
      done = [];
      now = [];
      completed = w.completed ++ Completed fragment.held.chunk content ∷ [];
      draft = e.draft;
      begun = e.begun w.completed w.draft w.begun (w.position ∙ sym (shows_long site 0 w.completed w.pages w.shown));
      drafted = e.drafted;
      shown = page_shown site packet older old before fragment e.payload w e.payload_is;
      position = e.position ∙ ap (λ (n : ℕ). n + 1) w.position ∙ sym (length-append w.pages (page ∷ []));
      sized = e.sized;
      whole = e.whole;
      written = written_moved 0 next.start 4 next.at 1 next.count [] [] refl e.start e.at e.count (written_first next.held.body.payload.items next_long);
      few = omega (arith, w.few, same_holes);
      room = omega (arith, w.few, same_holes, none, outside_most next.held.position after.holes);
      writing = subst (λ (p : Pending). IsWriting site.size packet older pages next.continues [] [] p.unsent (reverse p.holes) coming) (sym e.none_left)
          (subst (λ (c : Bool). IsWriting site.size packet older pages c [] [] [] (reverse before.holes) coming) (sym e.continues) runs);
    }

pub left_is : (site : Site) (packet : Packet) (older : List Packet) (view : WriterView) (pending : Pending) (fragment : OpenFragment)
    (w : InFragment site packet older view pending fragment [])
    → left_behind site.size (current_piece w.pages w.done w.now) ≡ site.size - fragment.at
left_is site packet older view pending fragment w =
    let begins : offset_behind 4 w.done ≡ fragment.start + 4 =
    written_offset fragment.held.body.payload.items fragment.start fragment.at fragment.count w.done w.now w.written in
    let ends : offset_behind 4 w.done + length w.now ≡ fragment.at = omega (arith, begins, w.written.at_is) in
    ap (λ (n : ℕ). site.size - n) ends

pub runs_on : (site : Site) (old new : WriterView) (before after : Pending) (fragment next : OpenFragment) → 284 ≤ site.size
    → vec_len fragment.held.body.payload < fragment.at + 4 → GoesOnIn site old new before after fragment next → RunsOn site old new before after fragment next
runs_on site old new before after fragment next least filled e = record {
  calls = e.calls;
  holes = ap (λ (p : Pending). p.holes) e.none_left;
  start = e.start;
  at = e.at;
  continues = e.continues;
  position = e.position;
  size = e.whole;
  full = λ ends packet older w.
      let none : left_behind site.size (current_piece w.pages w.done w.now) ≡ 0 = left_is site packet older old before fragment w ∙ omega (arith, ends) in
      in_next site packet older old new before after fragment next [] w least (inl none) w.writing e;
  length_next = λ packet older w.
      let n : ℕ = length (body_of packet) in
      let coming : List ℕ = n ∷ [] in
      let few : left_behind site.size (current_piece w.pages w.done w.now) < 4 =
      let left = left_is site packet older old before fragment w in let whole = w.whole in omega (arith, left, whole, filled) in
      let comes : IsTrue (is_among n (coming ++ length_places packet.text)) = ap (λ (b : Bool). b || is_among n (length_places packet.text)) (eq-eqb n n refl) in
      in_next site packet older old new before after fragment next coming w least (inr (few, comes))
      (writing_coming site.size packet older w.pages fragment.continues w.done w.now before.unsent (reverse before.holes) coming w.writing) e;
}

-- the started chunk is held behind those that are completed, and has no fragment yet
pub run_begun : (site : Site) (packet : Packet) (older : List Packet) (old two : WriterView) (before : Pending) (fragment : OpenFragment)
    (payload : List ℕ) (started : HeldChunk) (token : HeldToken) (w : InFragment site packet older old before fragment [])
    (begins : BeginsNext site before fragment payload token.chunk old two) → Starts site fragment token started
    → (two.begun ≡ (w.completed ++ Completed fragment.held.chunk (run_content site before payload fragment.held.position fragment.count fragment.continues) ∷ [])
    ++ Held started.held.chunk (fresh begins.words) ∷ [])
    × (started.held.position ≡ length (w.completed ++ Completed fragment.held.chunk (run_content site before payload fragment.held.position fragment.count fragment.continues) ∷ []))
run_begun site packet older old two before fragment payload started token w begins s =
    let position : fragment.held.position ≡ length w.completed = w.position ∙ sym (shows_long site 0 w.completed w.pages w.shown) in
    let entry : BegunChunk = Completed fragment.held.chunk (run_content site before payload fragment.held.position fragment.count fragment.continues) in (
      begins.begun w.completed w.draft w.begun position ∙ ap (λ (t : HeldToken). (w.completed ++ entry ∷ []) ++ Held t.chunk (fresh begins.words) ∷ []) (sym s.held),
      ap (λ (t : HeldToken). t.position) s.held ∙ s.position ∙ ap (λ (n : ℕ). n + 1) position ∙ sym (length-append w.completed (entry ∷ [])),
    )

pub run_fits : (site : Site) (packet : Packet) (older : List Packet) (old two : WriterView) (before : Pending) (fragment : OpenFragment)
    (payload : List ℕ) (started : HeldChunk) (token : HeldToken) → InFragment site packet older old before fragment []
    → BeginsNext site before fragment payload token.chunk old two → Starts site fragment token started → IsFit site.setup two started started.count started.at
run_fits site packet older old two before fragment payload started token w begins s =
    let entry : BegunChunk = Completed fragment.held.chunk (run_content site before payload fragment.held.position fragment.count fragment.continues) in
    let there = run_begun site packet older old two before fragment payload started token w begins s in
    fits_new site.setup two started begins.words (w.completed ++ entry ∷ []) [] there.0 there.1
    (ap (λ (t : HeldToken). vec_len t.body.payload) s.held ∙ s.whole ∙ ap (λ (t : HeldToken). (spot site.setup t.chunk).payload_size) (sym s.held)) s.sealed s.at s.count

pub run_follows : (site : Site) (packet : Packet) (older : List Packet) (old two : WriterView) (before : Pending) (fragment : OpenFragment)
    (payload : List ℕ) (started : HeldChunk) (token : HeldToken) (head : Head) → InFragment site packet older old before fragment []
    → BeginsNext site before fragment payload token.chunk old two → Starts site fragment token started → MayFollow (head_at two started.held.position) head
run_follows site packet older old two before fragment payload started token head w begins s =
    let entry : BegunChunk = Completed fragment.held.chunk (run_content site before payload fragment.held.position fragment.count fragment.continues) in
    let there = run_begun site packet older old two before fragment payload started token w begins s in
    heads_new two started.held.chunk started.held.position begins.words (w.completed ++ entry ∷ []) [] head there.0 there.1

pub goes_on_in : (site : Site) (old two new : WriterView) (before after : Pending) (fragment : OpenFragment)
    (ended started : HeldChunk) (token : HeldToken) (next : OpenFragment)
    → BeginsNext site before fragment ended.held.body.payload.items token.chunk old two → Ends fragment ended
    → after ≡ record before { unsent = [] }
    → Starts site fragment token started → IsStarted started next
    → CountsNext started two new
    → GoesOnIn site old new before after fragment next
goes_on_in site old two new before after fragment ended started token next begins e after_is s n counts =
    let payload : List ℕ = ended.held.body.payload.items in
    let held : next.held ≡ token = n.held ∙ s.held in
    let chunk_is : next.held.chunk ≡ token.chunk = ap (λ (t : HeldToken). t.chunk) held in
    let drafted : new ≡ redrafts two token.chunk token.position counts.draft = counts.view ∙ ap (λ (t : HeldToken). redrafts two t.chunk t.position counts.draft) s.held in
    record {
      calls = ap (λ (v : WriterView). v.calls) counts.view ∙ begins.calls;
      none_left = after_is;
      payload = payload;
      payload_is = e.payload;
      draft = counts.draft;
      begun = λ completed last begun position.
          let content : Content = run_content site before payload fragment.held.position fragment.count fragment.continues in
          let entry : BegunChunk = Completed fragment.held.chunk content in
          let last_is : token.position ≡ length (completed ++ entry ∷ []) = s.position ∙ ap (λ (m : ℕ). m + 1) position ∙ sym (length-append completed (entry ∷ [])) in
          redrafted_here two new (completed ++ entry ∷ []) [] token.chunk token.position (fresh begins.words) counts.draft (begins.begun completed last begun position) last_is drafted
          ∙ ap (λ (c : ℕ). (completed ++ entry ∷ []) ++ Held c counts.draft ∷ []) (sym chunk_is);
      drafted = record {
        head = counts.head
            ∙ ap (λ (m : ℕ). held_head m started.continues) (sym n.count)
            ∙ ap (λ (c : Bool). held_head next.count c) (sym n.continues);
        bytes = λ j below. absurd (omega (arith, below));
        sealed = let most = counts.sealed in omega (arith, most, s.at);
      };
      position = ap (λ (t : HeldToken). t.position) held ∙ s.position;
      start = n.start ∙ s.at;
      at = n.at ∙ ap (λ (m : ℕ). m + 4) s.at;
      count = n.count ∙ ap (λ (m : ℕ). m + 1) s.count;
      continues = n.continues ∙ s.continues;
      whole = ap (λ (t : HeldToken). vec_len t.body.payload) held ∙ s.whole ∙ begins.sized;
      sized = ap (λ (c : ℕ). (spot site.setup c).payload_size) chunk_is ∙ begins.sized;
    }

-- No chunk was free

-- views that show the same chunks
pub inside_seen : (site : Site) (packet : Packet) (older : List Packet) (view other : WriterView) (pending : Pending) (fragment : OpenFragment) (coming : List ℕ)
    → other.begun ≡ view.begun → InFragment site packet older view pending fragment coming → InFragment site packet older other pending fragment coming
inside_seen site packet older view other pending fragment coming same w = record {
  pages = w.pages;
  done = w.done;
  now = w.now;
  completed = w.completed;
  draft = w.draft;
  begun = same ∙ w.begun;
  drafted = w.drafted;
  shown = w.shown;
  position = w.position;
  sized = w.sized;
  whole = w.whole;
  written = w.written;
  few = w.few;
  room = w.room;
  writing = w.writing;
}

stops_from : (site other : Site) (old mid new : WriterView) (before after : Pending) (fragment : OpenFragment) → other ≡ site → mid.begun ≡ old.begun → mid.calls ≡ old.calls
    → StopsHere other mid new before after fragment → StopsHere site old new before after fragment
stops_from site other old mid new before after fragment site_is begun calls other_stops =
    let stops : StopsHere site mid new before after fragment = subst (λ (s : Site). StopsHere s mid new before after fragment) site_is other_stops in
    record {
      calls = stops.calls ∙ calls;
      full = λ ends packet older rest some w. stops.full ends packet older rest some (inside_seen site packet older old mid before fragment [] begun w);
      full_nested = λ ends packet older rest w. stops.full_nested ends packet older rest (inside_seen site packet older old mid before fragment [] begun w);
      length_next = λ packet older w. stops.length_next packet older (inside_seen site packet older old mid before fragment [] begun w);
    }

pub cannot_run_on : (setup now_setup : Setup) (place now_place : ℕ) (route : Route) (old mid new : WriterView) (before after : Pending) (fragment : OpenFragment)
    → now_setup ≡ setup → now_place ≡ place → FindsNone old mid
    → StopsHere (site_of now_setup now_place route) mid new before after fragment → StopsHere (site_of setup place route) old new before after fragment
cannot_run_on setup now_setup place now_place route old mid new before after fragment setup_is place_is none stops =
    stops_from (site_of setup place route) (site_of now_setup now_place route) old mid new before after fragment
    (ap (λ (x : Setup). site_of x now_place route) setup_is ∙ ap (λ (n : ℕ). site_of setup n route) place_is)
    none.begun none.calls stops

-- where a packet stops its writer holds no chunk
stopped_as : (policy : WriterPolicy) (site : Site) (packet : Packet) (older : List Packet) (view : WriterView) (pending : Pending) → StopsAs policy site packet older view pending
    → NoneHeld view.begun
stopped_as Drops site packet older view pending idle = shown_none_held site 0 view.begun idle.pages idle.shown
stopped_as Stalls site packet older view pending stuck = shown_none_held site 0 view.begun stuck.pages stuck.shown
stopped_as (StallsThenDrops tries) site packet older view pending idle = shown_none_held site 0 view.begun idle.pages idle.shown

pub stopped_holds_none : (site : Site) (packet : Packet) (older : List Packet) (old new : WriterView) (before after : Pending) (fragment : OpenFragment)
    → InFragment site packet older old before fragment [] → StopsHere site old new before after fragment → NoneHeld new.begun
stopped_holds_none site packet older old new before after fragment w stops =
    stopped_as site.policy site (with_open packet) older new after (stops.length_next packet older w)

pub next_position_after : (site : Site) (packet : Packet) (older : List Packet) (old mid new : WriterView) (pending : Pending) (fragment : OpenFragment)
    → InFragment site packet older old pending fragment [] → FindsNone old mid → length new.begun ≡ length mid.begun
    → fragment.held.position + 1 ≡ length new.begun
next_position_after site packet older old mid new pending fragment w none same =
    next_position site packet older old pending fragment w ∙ sym (same ∙ ap length none.begun)
