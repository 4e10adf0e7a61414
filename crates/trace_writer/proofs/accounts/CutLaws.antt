-- The chunks of a writer that agrees with its view are a cut of its packets.
use Rattle.std.proofs.Common.{◌≡◌, ◌∙◌, ℕ, suc, ◌+◌, Bool, true, false, not, ◌&&◌, Option, Some, None, List, [], ◌∷◌, ◌++◌, length, map, reverse, is_some, MatchOption, MatchBool, cond, refl, sym, ap, subst, arith, append-nil, length-append, ◌||◌}
use Rattle.std.specs.List.{AllZip}
use Rattle.std.proofs.lemmas.Bool.{and_right, false≢true, not-false}
use Rattle.std.proofs.lemmas.List.{map-append}
use Rattle.trace_model.specs.Images.{Image, Patch}
use Rattle.trace_model.specs.Packets.{Packet, Text, account_of, body_of, finished_packet, is_lost, kept_of}
use Rattle.trace_model.specs.Pages.{Page, laid, image_of, images_from}
use Rattle.trace_model.specs.Row.{Chain, bytes_of}
use Rattle.trace_model.specs.Cut.{IsWellFormedPage, IsChainOf, IsGivenUp, Begins, CutsInto, newest_goes_on}
use Rattle.trace_model.specs.Written.{chains_of}
use Rattle.trace_model.proofs.NamingLemmas.{cut_named}
use Rattle.commit_body.specs.declared.hole.Hole.{Hole}
use Rattle.commit_body.specs.Patches.{hole_chunks, with_lasts}
use Rattle.commit_body.specs.Pending.{Pending}
use Rattle.chunk_plain.specs.Setup.{Setup, from_of}
use Rattle.chunk_plain.specs.Views.{BegunChunk, Held, Completed, Content, WriterView, Draft}
use Rattle.cut_steps.specs.RawChains.{raw_chains, page_with, offset_behind}
use Rattle.cut_steps.specs.Between.{IsBetween}
use Rattle.cut_steps.proofs.RawCutLemmas.{raw_cut_is_cut}
use Rattle.cut_steps.proofs.ChainLemmas.{raw_chains-one}
use Rattle.cut_steps.proofs.BetweenCuts.{between_cut, between_held_cut}
use Rattle.cut_steps.proofs.Sealing.{writing_cut}
use Rattle.trace_writer.specs.declared.chunk.HeldChunk.{HeldChunk}
use Rattle.trace_writer.specs.declared.fragment.OpenFragment.{OpenFragment}
use Rattle.trace_writer.specs.declared.packet.OpenPacket.{OpenPacket}
use Rattle.trace_writer.specs.declared.route.Route.{Route}
use Rattle.trace_writer.specs.declared.state.State.{State}
use Rattle.trace_writer.specs.declared.state.State.TheVariants.{Idle, Between, Writing, Dropping, Stalled}
use Rattle.trace_writer.specs.Site.{Site, site_of}
use Rattle.trace_writer.specs.Filled.{ShowsPages, HasByte}
use Rattle.trace_writer.specs.States.{InFragment, IsIdle, IsBehind, IsStuck}
use Rattle.trace_writer.specs.Agreement.{StateAgrees, IsInPacketOf, is_begun, is_inside}
use Rattle.trace_writer.specs.Laws.{AgreeingIsCut, NothingIsKeptBack, AgreeingIsCutFrom}
use Rattle.trace_writer.specs.Empty.{is_stalled}
use Rattle.chunk_plain.specs.Histories.{completed_images, completed_patches}
use Rattle.trace_writer.specs.Outcomes.{held_image, fragment_payload, held_images, held_patches, images_so_far, patches_so_far, newest_bytes, HasCut, NewestIsWhole}
use Rattle.trace_writer.proofs.packets.Finishing.{laid_all}
use Rattle.trace_writer.proofs.holding.Holes.{lasts_reverse}
use Rattle.trace_writer.proofs.stops.Idling.{ended_page}
use Rattle.trace_writer.proofs.holding.Payloads.{written_ended, full_run, continues_with_byte}
use Rattle.trace_writer.proofs.holding.Seats.{content_is}

abbrev patches_in : List Page → List (List Patch)
patches_in pages = map (λ (page : Page). page.patches) pages

-- Completed chunks

shown_images : (site : Site) (position : ℕ) (begun : List BegunChunk) (pages : List Page) → ShowsPages site position begun pages
    → completed_images begun ≡ images_from (site.place + 2) position pages
shown_images site position [] [] shown = refl
shown_images site position [] (page ∷ pages) shown = absurd shown
shown_images site position (Held chunk head ∷ begun) pages shown = absurd shown
shown_images site position (Completed chunk content ∷ begun) [] shown = absurd shown
shown_images site position (Completed chunk content ∷ begun) (page ∷ pages) shown =
    ap (λ (c : Content). c.image ∷ completed_images begun) shown.0
    ∙ ap (λ (images : List Image). image_of (site.place + 2) position page ∷ images) (shown_images site (suc position) begun pages shown.1)

shown_patches : (site : Site) (position : ℕ) (begun : List BegunChunk) (pages : List Page) → ShowsPages site position begun pages
    → completed_patches begun ≡ patches_in pages
shown_patches site position [] [] shown = refl
shown_patches site position [] (page ∷ pages) shown = absurd shown
shown_patches site position (Held chunk head ∷ begun) pages shown = absurd shown
shown_patches site position (Completed chunk content ∷ begun) [] shown = absurd shown
shown_patches site position (Completed chunk content ∷ begun) (page ∷ pages) shown =
    ap (λ (c : Content). c.patches ∷ completed_patches begun) shown.0
    ∙ ap (λ (lists : List (List Patch)). page.patches ∷ lists) (shown_patches site (suc position) begun pages shown.1)

-- a held chunk behind them is none of them
pub images_held : (completed : List BegunChunk) (chunk : ℕ) (head : Draft) → completed_images (completed ++ Held chunk head ∷ []) ≡ completed_images completed
images_held [] chunk head = refl
images_held (Held c h ∷ begun) chunk head = images_held begun chunk head
images_held (Completed c content ∷ begun) chunk head = ap (λ (images : List Image). content.image ∷ images) (images_held begun chunk head)

patches_held : (completed : List BegunChunk) (chunk : ℕ) (head : Draft) → completed_patches (completed ++ Held chunk head ∷ []) ≡ completed_patches completed
patches_held [] chunk head = refl
patches_held (Held c h ∷ begun) chunk head = patches_held begun chunk head
patches_held (Completed c content ∷ begun) chunk head = ap (λ (lists : List (List Patch)). content.patches ∷ lists) (patches_held begun chunk head)

images_one : (sequence position : ℕ) (pages : List Page) (page : Page)
    → images_from sequence position (pages ++ page ∷ []) ≡ images_from sequence position pages ++ image_of sequence (position + length pages) page ∷ []
images_one sequence position [] page = ap (λ (i : ℕ). image_of sequence i page ∷ []) (omega arith)
images_one sequence position (one ∷ pages) page =
    ap (λ (images : List Image). image_of sequence position one ∷ images)
    (images_one sequence (suc position) pages page
    ∙ ap (λ (i : ℕ). images_from sequence (suc position) pages ++ image_of sequence i page ∷ []) (omega arith))

-- No chunk is held

idle_cut : (site : Site) (view : WriterView) (pending : Pending) → newest_goes_on (account_of view.calls).packets ≡ false → IsIdle site (account_of view.calls) view pending
    → HasCut site.size (site.place + 2) view.calls (completed_images view.begun ++ []) (completed_patches view.begun ++ []) []
idle_cut site view pending ended idle = record {
  cut = record {
    pages = idle.pages;
    images_are = append-nil (completed_images view.begun) ∙ shown_images site 0 view.begun idle.pages idle.shown;
    patches_are = append-nil (completed_patches view.begun) ∙ shown_patches site 0 view.begun idle.pages idle.shown;
    cut = raw_cut_is_cut site.size (account_of view.calls).packets idle.pages
        (between_cut site.size (account_of view.calls).packets idle.pages 4 idle.between idle.ended);
  };
  ends = λ none. idle.ended ∙ sym ended;
}

stuck_cut : (site : Site) (view : WriterView) → IsStuck site (account_of view.calls).packets view
    → HasCut site.size (site.place + 2) view.calls (completed_images view.begun ++ []) (completed_patches view.begun ++ []) []
stuck_cut site view stuck = record {
  cut = record {
    pages = stuck.pages;
    images_are = append-nil (completed_images view.begun) ∙ shown_images site 0 view.begun stuck.pages stuck.shown;
    patches_are = append-nil (completed_patches view.begun) ∙ shown_patches site 0 view.begun stuck.pages stuck.shown;
    cut = stuck.cut;
  };
  ends = λ none. stuck.runs;
}

-- A chunk is held: it is the last page

held_cut : (site : Site) (view : WriterView) (completed : List BegunChunk) (pages : List Page) (page : Page) (chunk position : ℕ) (head : Draft) (image : Image)
    → view.begun ≡ completed ++ Held chunk head ∷ [] → ShowsPages site 0 completed pages → position ≡ length pages → image ≡ image_of (site.place + 2) position page
    → CutsInto site.size (account_of view.calls).packets (pages ++ page ∷ [])
    → HasCut site.size (site.place + 2) view.calls (completed_images view.begun ++ image ∷ []) (completed_patches view.begun ++ page.patches ∷ []) (image ∷ [])
held_cut site view completed pages page chunk position head image begun shown position_is image_is cut = record {
  cut = record {
    pages = pages ++ page ∷ [];
    images_are = ap (λ (xs : List BegunChunk). completed_images xs ++ image ∷ []) begun
        ∙ ap (λ (images : List Image). images ++ image ∷ []) (images_held completed chunk head ∙ shown_images site 0 completed pages shown)
        ∙ ap (λ (i : Image). images_from (site.place + 2) 0 pages ++ i ∷ []) (image_is ∙ ap (λ (i : ℕ). image_of (site.place + 2) i page) (omega (arith, position_is)))
        ∙ sym (images_one (site.place + 2) 0 pages page);
    patches_are = ap (λ (xs : List BegunChunk). completed_patches xs ++ page.patches ∷ []) begun
        ∙ ap (λ (lists : List (List Patch)). lists ++ page.patches ∷ []) (patches_held completed chunk head ∙ shown_patches site 0 completed pages shown)
        ∙ sym (map-append (λ (p : Page). p.patches) pages (page ∷ []));
    cut = cut;
  };
  ends = λ none. absurd (cc);
}

-- its image, by what the page has
held_image_is : (site : Site) (position count : ℕ) (payload : List ℕ) (continues : Bool) (fragments : List (List ℕ)) (rest : List ℕ) (patches : List Patch)
    → count ≡ length fragments → payload ≡ laid false fragments rest
    → held_image site.place position count continues payload ≡ image_of (site.place + 2) position (ended_page continues fragments rest patches)
held_image_is site position count payload continues fragments rest patches count_is payload_is =
    ap (λ (c : Content). c.image) (content_is site position count payload (ended_page continues fragments rest patches) count_is payload_is)

between_is_cut : (site : Site) (view : WriterView) (pending : Pending) (chunk : HeldChunk) → IsBehind site (account_of view.calls) view pending chunk
    → HasCut site.size (site.place + 2) view.calls
    (completed_images view.begun ++ held_image site.place chunk.held.position chunk.count chunk.continues chunk.held.body.payload.items ∷ [])
    (completed_patches view.begun ++ with_lasts (hole_chunks pending.holes) pending.unsent ∷ [])
    (held_image site.place chunk.held.position chunk.count chunk.continues chunk.held.body.payload.items ∷ [])
between_is_cut site view pending chunk behind =
    let fragments : List (List ℕ) = behind.first ∷ behind.others in
    let patches : List Patch = with_lasts (hole_chunks pending.holes) pending.unsent in
    let page : Page = ended_page chunk.continues fragments behind.filled.rest patches in
    let packets : List Packet = (account_of view.calls).packets in
    let payload_is : chunk.held.body.payload.items ≡ laid false fragments behind.filled.rest =
    behind.filled.payload_is ∙ sym (laid_all fragments behind.filled.rest) in
    let same_chains : raw_chains (behind.pages ++ page_with chunk.continues fragments ∷ []) ≡ raw_chains (behind.pages ++ page ∷ []) =
    raw_chains-one behind.pages (page_with chunk.continues fragments) page refl refl refl refl in
    let brings : page.patches ≡ with_lasts [] pending.unsent = ap (λ (holes : List Hole). with_lasts (hole_chunks holes) pending.unsent) behind.holes in
    let full : IsWellFormedPage site.size page = record {
      some = omega arith;
      most = omega (arith, behind.filled.count_is, chunk.few);
      whole = ap length (sym payload_is) ∙ sym chunk.held.body.payload.ok.0 ∙ behind.whole;
      dropped = λ marked. absurd (cc);
    } in
    held_cut site view behind.completed behind.pages page chunk.held.chunk chunk.held.position behind.draft
    (held_image site.place chunk.held.position chunk.count chunk.continues chunk.held.body.payload.items) behind.begun behind.shown behind.position
    (held_image_is site chunk.held.position chunk.count chunk.held.body.payload.items chunk.continues fragments behind.filled.rest patches behind.filled.count_is payload_is)
    (raw_cut_is_cut site.size packets (behind.pages ++ page ∷ [])
    (between_held_cut site.size packets behind.pages page pending.unsent (offset_behind 4 fragments)
    (subst (λ (chains : List Chain). IsBetween site.size packets behind.pages chains pending.unsent (offset_behind 4 fragments)) same_chains behind.between)
    behind.continues_is refl refl brings full))

-- the page of the fragment that is being written, as it stands
abbrev page_so_far : (site : Site) (view : WriterView) (pending : Pending) (fragment : OpenFragment) (packet : Packet) (older : List Packet)
    → InFragment site packet older view pending fragment [] → Page
page_so_far site view pending fragment packet older inside =
    ended_page fragment.continues (inside.done ++ inside.now ∷ []) inside.written.rest (with_lasts (hole_chunks pending.holes) pending.unsent)

-- With that page the pages are a cut of the packet as it stands, and they would be if the packet ended here.
writing_pages : (site : Site) (view : WriterView) (pending : Pending) (fragment : OpenFragment) (packet later : Packet) (older : List Packet)
    (inside : InFragment site packet older view pending fragment []) → HasByte fragment
    → later.kept ≡ packet.kept → later.follows_flush ≡ packet.follows_flush → later.text ≡ packet.text → later.given_up ≡ None
    → CutsInto site.size (later ∷ older) (inside.pages ++ page_so_far site view pending fragment packet older inside ∷ [])
writing_pages site view pending fragment packet later older inside byte kept flush text given =
    let patches : List Patch = with_lasts (hole_chunks pending.holes) pending.unsent in
    let page : Page = page_so_far site view pending fragment packet older inside in
    let payload : List ℕ = fragment.held.body.payload.items in
    let run = full_run payload fragment.start fragment.at fragment.count site.size inside.done inside.now fragment.continues false patches inside.written
    (sym fragment.held.body.payload.ok.0 ∙ inside.whole) fragment.few in
    let full : IsWellFormedPage site.size page = record { some = run.some; most = run.most; whole = run.whole; dropped = λ marked. absurd (cc) } in
    raw_cut_is_cut site.size (later ∷ older) (inside.pages ++ page ∷ [])
    (writing_cut site.size packet later older inside.pages page inside.done inside.now pending.unsent (reverse pending.holes) inside.writing
    refl refl refl refl (continues_with_byte fragment payload inside.done inside.now inside.written byte)
    (sym (lasts_reverse pending.holes pending.unsent)) full kept flush text given)

writing_is_cut : (site : Site) (view : WriterView) (pending : Pending) (fragment : OpenFragment) (packet : Packet) (older : List Packet)
    → (account_of view.calls).packets ≡ packet ∷ older → InFragment site packet older view pending fragment [] → HasByte fragment
    → HasCut site.size (site.place + 2) view.calls
    (completed_images view.begun ++ held_image site.place fragment.held.position fragment.count fragment.continues (fragment_payload fragment) ∷ [])
    (completed_patches view.begun ++ with_lasts (hole_chunks pending.holes) pending.unsent ∷ [])
    (held_image site.place fragment.held.position fragment.count fragment.continues (fragment_payload fragment) ∷ [])
writing_is_cut site view pending fragment packet older packets inside byte =
    let fragments : List (List ℕ) = inside.done ++ inside.now ∷ [] in
    let patches : List Patch = with_lasts (hole_chunks pending.holes) pending.unsent in
    let page : Page = page_so_far site view pending fragment packet older inside in
    let payload : List ℕ = fragment.held.body.payload.items in
    let payload_is : fragment_payload fragment ≡ laid false fragments inside.written.rest =
    written_ended payload fragment.start fragment.at fragment.count inside.done inside.now inside.written in
    let count_is : fragment.count ≡ length fragments = inside.written.count_is ∙ sym (length-append inside.done (inside.now ∷ [])) in
    held_cut site view inside.completed inside.pages page fragment.held.chunk fragment.held.position inside.draft
    (held_image site.place fragment.held.position fragment.count fragment.continues (fragment_payload fragment)) inside.begun inside.shown inside.position
    (held_image_is site fragment.held.position fragment.count (fragment_payload fragment) fragment.continues fragments inside.written.rest patches count_is payload_is)
    (subst (λ (ps : List Packet). CutsInto site.size ps (inside.pages ++ page ∷ [])) (sym packets)
    (writing_pages site view pending fragment packet packet older inside byte refl refl refl inside.writing.given_up))

-- Each state

-- a writer that holds no chunk between two packets has none that goes on
none_goes_on : (packets : List Packet) (packet : Option OpenPacket) → IsInPacketOf packets packet → is_begun packet ≡ false → newest_goes_on packets ≡ false
none_goes_on [] packet inside none = refl
none_goes_on (newest ∷ older) None inside none = and_right (not (is_lost newest)) (not newest.finished) inside
none_goes_on (newest ∷ older) (Some open_one) inside none = absurd (false≢true (sym none))

lost_goes_on : (packets : List Packet) (packet : Packet) (older : List Packet) → packets ≡ packet ∷ older → is_lost packet ≡ true → newest_goes_on packets ≡ false
lost_goes_on packets packet older are lost = ap newest_goes_on are ∙ ap (λ (b : Bool). not b && not packet.finished) lost

state_is_cut : (setup : Setup) (place : ℕ) (route : Route) (view : WriterView) (pending : Pending) (packet : Option OpenPacket) (state : State)
    → IsInPacketOf (account_of view.calls).packets packet → is_inside packet state ≡ is_begun packet
    → StateAgrees (site_of setup place route) (account_of view.calls) view pending state
    → HasCut route.payload_size (place + 2) view.calls (completed_images view.begun ++ held_images place state) (completed_patches view.begun ++ held_patches pending state) (held_images place state)
state_is_cut setup place route view pending packet (Idle next_position) inside same w =
    idle_cut (site_of setup place route) view pending (none_goes_on (account_of view.calls).packets packet inside (sym same)) w.1
state_is_cut setup place route view pending packet (Between chunk) inside same w = between_is_cut (site_of setup place route) view pending chunk w
state_is_cut setup place route view pending packet (Writing fragment) inside same w =
    writing_is_cut (site_of setup place route) view pending fragment w.packet w.older w.packets w.inside w.byte
state_is_cut setup place route view pending packet (Dropping next_position) inside same w =
    idle_cut (site_of setup place route) view pending (lost_goes_on (account_of view.calls).packets w.1.packet w.1.older w.1.packets w.1.lost) w.1.idle
state_is_cut setup place route view pending packet (Stalled next_position) inside same w = stuck_cut (site_of setup place route) view w.1

pub agreeing_is_cut : AgreeingIsCut
agreeing_is_cut setup place view writer agrees =
    state_is_cut setup place writer.route view writer.pending writer.packet writer.state agrees.writes.packet agrees.writes.inside agrees.writes.state

-- Nothing is kept back

-- of a finished packet that isn't given up the newest chain has all bytes
finished_whole : (size : ℕ) (packet : Packet) (packets : List Packet) (chains : List Chain) → packet.given_up ≡ None → packet.finished ≡ true
    → AllZip (IsChainOf size) (packet ∷ packets) chains → newest_bytes chains ≡ body_of packet
finished_whole size packet packets [] kept finished are = absurd are
finished_whole size packet packets (chain ∷ chains) kept finished are =
    subst (λ (b : Bool). MatchBool b (bytes_of chain.pieces ≡ body_of packet) (Begins (bytes_of chain.pieces) (body_of packet))) finished
    (subst (λ (o : Option Text). MatchOption o (MatchBool packet.finished (bytes_of chain.pieces ≡ body_of packet) (Begins (bytes_of chain.pieces) (body_of packet)))
    (IsGivenUp (bytes_of chain.pieces))) kept are.0.bytes)

kept_if : (kept : Bool) (given : Option Text) → (not kept || is_some given) ≡ false → (kept ≡ true) × (given ≡ None)
kept_if true None is = (refl, refl)
kept_if true (Some text) is = absurd (cc)
kept_if false given is = absurd (cc)

-- so the newest one stands there whole, where it is finished
cut_whole : (size : ℕ) (packets : List Packet) (pages : List Page) → CutsInto size packets pages → newest_goes_on packets ≡ false → NewestIsWhole packets pages
cut_whole size [] pages cut ended = tt
cut_whole size (packet ∷ older) pages cut ended = λ kept.
    let both : (packet.kept ≡ true) × (packet.given_up ≡ None) = kept_if packet.kept packet.given_up kept in
    let open_end : not packet.finished ≡ false = sym (ap (λ (b : Bool). not b && not packet.finished) kept) ∙ ended in
    finished_whole size packet (kept_of older) (chains_of pages) both.1 (not-false packet.finished open_end)
    (subst (λ (b : Bool). AllZip (IsChainOf size) (cond b (packet ∷ kept_of older) (kept_of older)) (chains_of pages)) both.0 cut.chains)

state_is_whole : (setup : Setup) (place : ℕ) (route : Route) (view : WriterView) (pending : Pending) (packet : Option OpenPacket) (state : State)
    (inside : IsInPacketOf (account_of view.calls).packets packet) (same : is_inside packet state ≡ is_begun packet)
    (w : StateAgrees (site_of setup place route) (account_of view.calls) view pending state) → is_stalled state ≡ false
    → NewestIsWhole (account_of view.calls).packets (state_is_cut setup place route view pending packet state inside same w).cut.pages
unfolding state_is_cut writing_is_cut held_cut
state_is_whole setup place route view pending packet (Idle next_position) inside same w goes =
    let ended = none_goes_on (account_of view.calls).packets packet inside (sym same) in
    cut_whole route.payload_size (account_of view.calls).packets _ (state_is_cut setup place route view pending packet (Idle next_position) inside same w).cut.cut ended
state_is_whole setup place route view pending packet (Between chunk) inside same w goes =
    let ended = none_goes_on (account_of view.calls).packets packet inside (sym same) in
    cut_whole route.payload_size (account_of view.calls).packets _ (state_is_cut setup place route view pending packet (Between chunk) inside same w).cut.cut ended
state_is_whole setup place route view pending packet (Writing fragment) inside same w goes =
    subst (λ (ps : List Packet). NewestIsWhole ps (state_is_cut setup place route view pending packet (Writing fragment) inside same w).cut.pages) (sym w.packets)
    (cut_whole route.payload_size (finished_packet w.packet ∷ w.older) (state_is_cut setup place route view pending packet (Writing fragment) inside same w).cut.pages
    (writing_pages (site_of setup place route) view pending fragment w.packet (finished_packet w.packet) w.older w.inside w.byte refl refl refl w.inside.writing.given_up)
    (and_right (not (is_lost w.packet)) false refl))
state_is_whole setup place route view pending packet (Dropping next_position) inside same w goes =
    let ended = lost_goes_on (account_of view.calls).packets w.1.packet w.1.older w.1.packets w.1.lost in
    cut_whole route.payload_size (account_of view.calls).packets _ (state_is_cut setup place route view pending packet (Dropping next_position) inside same w).cut.cut ended
state_is_whole setup place route view pending packet (Stalled next_position) inside same w goes = absurd (cc)

pub nothing_is_kept_back : NothingIsKeptBack
nothing_is_kept_back setup place view writer agrees goes = (
  state_is_cut setup place writer.route view writer.pending writer.packet writer.state agrees.writes.packet agrees.writes.inside agrees.writes.state,
  state_is_whole setup place writer.route view writer.pending writer.packet writer.state agrees.writes.packet agrees.writes.inside agrees.writes.state goes,
)

pub agreeing_is_cut_from : AgreeingIsCutFrom
agreeing_is_cut_from setup place view writer agrees =
    cut_named writer.route.payload_size (place + 2) (from_of setup place) view.calls (images_so_far place view writer) (patches_so_far view writer)
    (agreeing_is_cut setup place view writer agrees).cut
