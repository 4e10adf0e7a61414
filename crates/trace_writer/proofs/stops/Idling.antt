-- A writer without a chunk: after a lost packet, and once its held chunk is completed.
use Rattle.std.proofs.Common.{◌≡◌, ◌∙◌, ℕ, ◌+◌, ◌≤◌, Bool, true, false, not, ◌||◌, ◌⊎◌, inl, inr, Option, is_some, List, [], ◌∷◌, ◌++◌, length, vec_len, refl, sym, ap, subst, arith, length-append}
use Rattle.trace_model.specs.Images.{Patch}
use Rattle.trace_model.specs.Packets.{Packet, Text, Account, is_lost}
use Rattle.trace_model.specs.Pages.{Page}
use Rattle.trace_model.specs.Row.{Chain}
use Rattle.trace_model.specs.Cut.{IsWellFormedPage, is_fresh, is_end, newest_piece}
use Rattle.commit_body.specs.declared.hole.Hole.{Hole}
use Rattle.commit_body.specs.Patches.{hole_chunks, with_lasts}
use Rattle.commit_body.specs.Pending.{Pending}
use Rattle.chunk_plain.specs.Views.{BegunChunk, Completed, Content, WriterView}
use Rattle.chunk_plain.specs.Steps.{completes}
use Rattle.cut_steps.specs.RawChains.{raw_chains, page_with, offset_behind}
use Rattle.cut_steps.specs.Between.{IsBetween}
use Rattle.cut_steps.proofs.StepLemmas.{last_runs_on-one}
use Rattle.cut_steps.proofs.ChainLemmas.{raw_chains-one}
use Rattle.cut_steps.proofs.Beginning.{between_changed}
use Rattle.cut_steps.proofs.BetweenCuts.{between_completed}
use Rattle.trace_writer.specs.declared.chunk.HeldChunk.{HeldChunk}
use Rattle.trace_writer.specs.Headers.{flags_value, completed_chunk}
use Rattle.trace_writer.specs.Site.{Site}
use Rattle.trace_writer.specs.Filled.{ShowsPages}
use Rattle.trace_writer.specs.States.{IsIdle, IsBehind, has_room}
use Rattle.trace_writer.proofs.packets.Finishing.{laid_all}
use Rattle.trace_writer.proofs.holding.Seats.{completed_here, shows_long, content_with, content_is, shows_one}

-- a change to the newest packet
abbrev pub newest_of : Packet → List Packet → Account
newest_of packet older = record { packets = packet ∷ older; flushed = false }

-- The calls of a lost packet leave the writer as it was.
pub changed_idle : (site : Site) (packet later : Packet) (older : List Packet) (view new : WriterView) (pending : Pending)
    → is_lost packet ≡ true → later.kept ≡ packet.kept → later.follows_flush ≡ packet.follows_flush → later.given_up ≡ packet.given_up
    → new.begun ≡ view.begun → IsIdle site (newest_of packet older) view pending → IsIdle site (newest_of later older) new pending
changed_idle site packet later older view new pending lost kept flush given same idle = record {
  pages = idle.pages;
  shown = subst (λ (begun : List BegunChunk). ShowsPages site 0 begun idle.pages) (sym same) idle.shown;
  holes = idle.holes;
  unsent = idle.unsent;
  ended = idle.ended;
  between = between_changed site.size packet later older idle.pages (raw_chains idle.pages) [] 4 lost kept flush given idle.between;
  fresh = lost_fresh later (still_lost packet later lost kept given);
}
  where
    still_lost : (packet later : Packet) → is_lost packet ≡ true → later.kept ≡ packet.kept → later.given_up ≡ packet.given_up → is_lost later ≡ true
    still_lost packet later lost kept given = ap (λ (b : Bool). not b || is_some later.given_up) kept ∙ ap (λ (o : Option Text). not packet.kept || is_some o) given ∙ lost

    lost_fresh : (later : Packet) → is_lost later ≡ true → is_fresh site.size false (later ∷ older) (raw_chains idle.pages) ≡ true
    lost_fresh later e = ap (λ (b : Bool). b || is_end site.size (newest_piece (raw_chains idle.pages))) e

-- behind a flush a packet is to begin in a new chunk
pub flushed_fresh : (size : ℕ) (packets : List Packet) (chains : List Chain) → is_fresh size true packets chains ≡ true
flushed_fresh size [] chains = refl
flushed_fresh size (packet ∷ older) chains = either (is_lost packet)
  where
    either : (b : Bool) → (b || true) ≡ true
    either true = refl
    either false = refl

pub flushed_idle : (site : Site) (account : Account) (view new : WriterView) (pending : Pending) → new.begun ≡ view.begun
    → IsIdle site account view pending → IsIdle site (record account { flushed = true }) new pending
flushed_idle site account view new pending same idle = record {
  pages = idle.pages;
  shown = subst (λ (begun : List BegunChunk). ShowsPages site 0 begun idle.pages) (sym same) idle.shown;
  holes = idle.holes;
  unsent = idle.unsent;
  ended = idle.ended;
  between = idle.between;
  fresh = flushed_fresh site.size account.packets (raw_chains idle.pages);
}

-- the held chunk as it is completed between two packets
abbrev pub ended_page : Bool → List (List ℕ) → List ℕ → List Patch → Page
ended_page continues fragments rest patches = record {
  continues = continues;
  runs_on = false;
  awaits = false;
  fragments = fragments;
  dropped = false;
  rest = rest;
  patches = patches;
}

-- what the completed chunk has
abbrev pub behind_content : Site → Pending → HeldChunk → Content
behind_content site pending chunk =
    completed_chunk site.place chunk.held.position chunk.count (flags_value chunk.continues false false) chunk.held.body.payload.items
    (with_lasts (hole_chunks pending.holes) pending.unsent) site.buffer

-- The held chunk is completed, and a packet is to begin in a new one.
pub completed_idle : (site : Site) (account : Account) (flushed : Bool) (view new later : WriterView) (pending after : Pending) (chunk : HeldChunk)
    → chunk.count ≤ 1023 → after ≡ record pending { unsent = [] }
    → new ≡ completes view chunk.held.chunk chunk.held.position (behind_content site pending chunk)
    → later.begun ≡ new.begun
    → ((chains : List Chain) → is_fresh site.size account.flushed account.packets chains ≡ true → is_fresh site.size flushed account.packets chains ≡ true)
    → (flushed ≡ true) ⊎ (has_room site.size chunk ≡ false)
    → IsBehind site account view pending chunk → IsIdle site (record account { flushed = flushed }) later after
completed_idle site account flushed view new later pending after chunk few pending_is is same keeps why behind =
    let fragments : List (List ℕ) = behind.first ∷ behind.others in
    let patches : List Patch = with_lasts (hole_chunks pending.holes) pending.unsent in
    let page : Page = ended_page chunk.continues fragments behind.filled.rest patches in
    let pages : List Page = behind.pages ++ page ∷ [] in
    let long : length behind.completed ≡ length behind.pages = shows_long site 0 behind.completed behind.pages behind.shown in
    let content : behind_content site pending chunk ≡ content_with site chunk.held.position page =
    content_is site chunk.held.position chunk.count chunk.held.body.payload.items page behind.filled.count_is
    (behind.filled.payload_is ∙ sym (laid_all fragments behind.filled.rest)) in
    let begun : new.begun ≡ behind.completed ++ Completed chunk.held.chunk (behind_content site pending chunk) ∷ [] =
    completed_here view new behind.completed [] chunk.held.chunk chunk.held.position behind.draft (behind_content site pending chunk) behind.begun
    (behind.position ∙ sym long) is in
    let same_chains : raw_chains pages ≡ raw_chains (behind.pages ++ page_with chunk.continues fragments ∷ []) =
    raw_chains-one behind.pages page (page_with chunk.continues fragments) refl refl refl refl in
    let brings : page.patches ≡ with_lasts [] pending.unsent = ap (λ (holes : List Hole). with_lasts (hole_chunks holes) pending.unsent) behind.holes in
    let full : IsWellFormedPage site.size page = record {
      some = omega arith;
      most = omega (arith, behind.filled.count_is, few);
      whole = ap length (laid_all fragments behind.filled.rest ∙ sym behind.filled.payload_is) ∙ sized chunk ∙ behind.whole;
      dropped = λ e. absurd (cc);
    } in
    record {
      pages = pages;
      shown = subst (λ (xs : List BegunChunk). ShowsPages site 0 xs pages) (sym (same ∙ begun))
          (shows_one site 0 chunk.held.position chunk.held.chunk behind.completed behind.pages (behind_content site pending chunk) page behind.shown (omega (arith, behind.position)) content);
      holes = ap (λ (p : Pending). p.holes) pending_is ∙ behind.holes;
      unsent = ap (λ (p : Pending). p.unsent) pending_is;
      ended = last_runs_on-one behind.pages false page;
      between = subst (λ (chains : List Chain). IsBetween site.size account.packets pages chains [] 4) (sym same_chains)
          (between_completed site.size account.packets behind.pages page (raw_chains (behind.pages ++ page_with chunk.continues fragments ∷ [])) pending.unsent (offset_behind 4 fragments)
          behind.between behind.continues_is refl refl brings full);
      fresh = ap (is_fresh site.size flushed account.packets) same_chains ∙ why_fresh (raw_chains (behind.pages ++ page_with chunk.continues fragments ∷ [])) behind.fresh why;
    }
  where
    sized : (chunk : HeldChunk) → length chunk.held.body.payload.items ≡ vec_len chunk.held.body.payload
    sized chunk = sym chunk.held.body.payload.ok.0

    why_fresh : (chains : List Chain) → is_fresh site.size account.flushed account.packets chains ≡ not (has_room site.size chunk)
        → (flushed ≡ true) ⊎ (has_room site.size chunk ≡ false) → is_fresh site.size flushed account.packets chains ≡ true
    why_fresh chains fresh (inl e) = ap (λ (b : Bool). is_fresh site.size b account.packets chains) e ∙ flushed_fresh site.size account.packets chains
    why_fresh chains fresh (inr e) = keeps chains (fresh ∙ ap not e)

-- the held chunk stays the last one that was begun
pub begun_one_more : (site : Site) (account : Account) (view new : WriterView) (pending : Pending) (chunk : HeldChunk) (content : Content)
    → new ≡ completes view chunk.held.chunk chunk.held.position content
    → IsBehind site account view pending chunk → length new.begun ≡ chunk.held.position + 1
begun_one_more site account view new pending chunk content is behind =
    let long : length behind.completed ≡ length behind.pages = shows_long site 0 behind.completed behind.pages behind.shown in
    ap length (completed_here view new behind.completed [] chunk.held.chunk chunk.held.position behind.draft content behind.begun (behind.position ∙ sym long) is)
    ∙ length-append behind.completed (Completed chunk.held.chunk content ∷ [])
    ∙ omega (arith, long, behind.position)
