-- A writer that stalls: its chunk is completed with a packet that runs on, and no chunk is begun behind it.
use Rattle.std.proofs.Common.{◌≡◌, ◌∙◌, ℕ, ◌+◌, ◌-◌, ◌<◌, ◌||◌, Bool, List, [], ◌∷◌, ◌++◌, length, reverse, vec_len, refl, sym, ap, subst, arith, append-nil, inl, inr}
use Rattle.std.specs.Prelude.{◌⊎◌, IsTrue}
use Rattle.std.proofs.lemmas.Bool.{eq-eqb, true≢false}
use Rattle.std.proofs.lemmas.List.{length-set}
use Rattle.trace_base.specs.declared.policy.WriterPolicy.{WriterPolicy}
use Rattle.trace_base.specs.declared.policy.WriterPolicy.TheVariants.{Stalls}
use Rattle.wire_varint.specs.Varint.{redundant}
use Rattle.trace_model.specs.Images.{with_bytes}
use Rattle.trace_model.specs.Packets.{Packet, written, with_more, flat, open_length, body_of}
use Rattle.trace_model.specs.Pages.{Page}
use Rattle.trace_model.specs.Sequences.{is_among}
use Rattle.trace_model.specs.Cut.{left_behind, length_places}
use Rattle.commit_body.specs.Patches.{hole_chunks}
use Rattle.commit_body.specs.Pending.{Pending}
use Rattle.chunk_plain.specs.Setup.{Setup}
use Rattle.chunk_plain.specs.Views.{BegunChunk, Held, Completed, Content, WriterView, Draft}
use Rattle.chunk_plain.specs.Steps.{completes}
use Rattle.cut_steps.specs.RawChains.{current_piece}
use Rattle.cut_steps.specs.GoesOn.{GoesOn}
use Rattle.cut_steps.specs.Writing.{IsWriting, with_open}
use Rattle.cut_steps.proofs.GoingOn.{goes_on-more, goes_on-nested}
use Rattle.cut_steps.proofs.RawCutLemmas.{raw_cut_is_cut}
use Rattle.cut_steps.proofs.StalledCuts.{writing_stalled_cut, writing_stalled_runs}
use Rattle.cut_steps.proofs.WritingSteps.{writing_coming}
use Rattle.trace_writer.specs.declared.chunk.HeldChunk.{HeldChunk}
use Rattle.trace_writer.specs.declared.fragment.OpenFragment.{OpenFragment}
use Rattle.trace_writer.specs.declared.route.Route.{Route}
use Rattle.trace_writer.specs.Filled.{ShowsPages}
use Rattle.trace_writer.specs.Flows.{StopsAs, StopsHere}
use Rattle.trace_writer.specs.Site.{Site, site_of}
use Rattle.trace_writer.specs.States.{InFragment, IsStuck}
use Rattle.trace_writer.proofs.holding.Holes.{among_reverse, lasts_reverse}
use Rattle.trace_writer.proofs.packets.RunOn.{Ends, run_content, run_completion, completed_before, page_run, page_full, page_shown, left_is}
use Rattle.trace_writer.proofs.holding.Seats.{shows_long}
use Rattle.trace_writer.proofs.packets.SettingAside.{only_one}

-- the chunk is completed, and none is begun
pub record EndsStuck (site : Site) (old new : WriterView) (before : Pending) (fragment : OpenFragment) : Type 0 where
  pub stalls : site.policy ≡ Stalls
  pub payload : List ℕ
  pub payload_is : payload ≡ with_bytes fragment.held.body.payload.items fragment.start (redundant (fragment.at - fragment.start - 4))
  pub calls : new.calls ≡ old.calls
  pub begun : (completed : List BegunChunk) (draft : Draft) → old.begun ≡ completed ++ Held fragment.held.chunk draft ∷ [] → fragment.held.position ≡ length completed
      → new.begun ≡ completed ++ Completed fragment.held.chunk (run_content site before payload fragment.held.position fragment.count fragment.continues) ∷ []

-- the pages are a cut of the packet with all that its writer was asked to write
stuck_with : (site : Site) (packet later : Packet) (older : List Packet) (old new : WriterView) (before : Pending) (fragment : OpenFragment) (coming : List ℕ)
    (w : InFragment site packet older old before fragment [])
    → (left_behind site.size (current_piece w.pages w.done w.now) ≡ 0)
    ⊎ ((left_behind site.size (current_piece w.pages w.done w.now) < 4) × IsTrue (is_among (length (body_of packet)) (coming ++ length_places packet.text)))
    → IsWriting site.size packet older w.pages fragment.continues w.done w.now before.unsent (reverse before.holes) coming
    → GoesOn packet later coming → EndsStuck site old new before fragment → IsStuck site (later ∷ older) new
stuck_with site packet later older old new before fragment coming w left writing goes e =
    let page : Page = page_run site packet older old before fragment w in
    record {
      stalls = e.stalls;
      pages = w.pages ++ page ∷ [];
      shown = subst (λ (begun : List BegunChunk). ShowsPages site 0 begun (w.pages ++ page ∷ []))
          (sym (e.begun w.completed w.draft w.begun (w.position ∙ sym (shows_long site 0 w.completed w.pages w.shown))))
          (page_shown site packet older old before fragment e.payload w e.payload_is);
      cut = raw_cut_is_cut site.size (later ∷ older) (w.pages ++ page ∷ [])
          (writing_stalled_cut site.size packet later older w.pages page w.done w.now before.unsent (reverse before.holes) coming refl refl
          (page_full site packet older old before fragment w) (sym (lasts_reverse before.holes before.unsent))
          (ap (λ (i : ℕ). is_among i (hole_chunks before.holes)) w.position ∙ sym (among_reverse (length w.pages) before.holes))
          left writing goes);
      runs = writing_stalled_runs site.size packet later older w.pages page w.done w.now before.unsent (reverse before.holes) coming refl writing goes;
    }

-- What was to come of the packet

levels_more : (packet : Packet) (level rest : List ℕ) (outer : List (List ℕ)) → packet.text.levels ≡ level ∷ outer
    → (with_more rest packet).text.levels ≡ (level ++ rest) ∷ outer
levels_more packet level rest outer is = ap (written rest) is

pub stops_stuck : (site : Site) (old new : WriterView) (before after : Pending) (fragment : OpenFragment)
    → vec_len fragment.held.body.payload < fragment.at + 4 → EndsStuck site old new before fragment → StopsHere site old new before after fragment
stops_stuck site old new before after fragment filled e =
    let none_left : (packet : Packet) (older : List Packet) (w : InFragment site packet older old before fragment []) → fragment.at ≡ site.size
    → left_behind site.size (current_piece w.pages w.done w.now) ≡ 0 =
    λ packet older w ends. left_is site packet older old before fragment w ∙ omega (arith, ends) in
    record {
      calls = e.calls;
      full = λ ends packet older rest some w.
          subst (λ (policy : WriterPolicy). StopsAs policy site (with_more rest packet) older new after) (sym e.stalls)
          (stuck_with site packet (with_more rest packet) older old new before fragment [] w (inl (none_left packet older w ends)) w.writing
          (goes_on-more packet (with_more rest packet) w.writing.level rest w.writing.outer refl refl w.writing.given_up w.writing.finished refl w.writing.levels
          (levels_more packet w.writing.level rest w.writing.outer w.writing.levels)) e);
      full_nested = λ ends packet older rest w.
          subst (λ (policy : WriterPolicy). StopsAs policy site (with_open (with_more rest packet)) older new after) (sym e.stalls)
          (stuck_with site packet (with_open (with_more rest packet)) older old new before fragment [] w (inl (none_left packet older w ends)) w.writing
          (goes_on-nested packet (with_open (with_more rest packet)) w.writing.level rest w.writing.outer [] refl refl w.writing.given_up w.writing.finished refl w.writing.levels
          (ap (λ (levels : List (List ℕ)). [] ∷ levels) (levels_more packet w.writing.level rest w.writing.outer w.writing.levels))
          (λ n none. absurd (true≢false (sym none)))) e);
      length_next = λ packet older w.
          subst (λ (policy : WriterPolicy). StopsAs policy site (with_open packet) older new after) (sym e.stalls)
          (stuck_length site packet older old new before fragment w filled e);
    }
  where
    stuck_length : (site : Site) (packet : Packet) (older : List Packet) (old new : WriterView) (before : Pending) (fragment : OpenFragment)
        (w : InFragment site packet older old before fragment []) → vec_len fragment.held.body.payload < fragment.at + 4
        → EndsStuck site old new before fragment → IsStuck site (with_open packet ∷ older) new
    stuck_length site packet older old new before fragment w filled e =
        let n : ℕ = length (body_of packet) in
        let coming : List ℕ = n ∷ [] in
        let level : List ℕ = w.writing.level in
        let outer : List (List ℕ) = w.writing.outer in
        let same : packet.text.levels ≡ (level ++ []) ∷ outer = w.writing.levels ∙ ap (λ (bytes : List ℕ). bytes ∷ outer) (sym (append-nil level)) in
        let few : left_behind site.size (current_piece w.pages w.done w.now) < 4 =
        let left = left_is site packet older old before fragment w in let whole = w.whole in omega (arith, left, whole, filled) in
        let comes : IsTrue (is_among n (coming ++ length_places packet.text)) = ap (λ (b : Bool). b || is_among n (length_places packet.text)) (eq-eqb n n refl) in
        stuck_with site packet (with_open packet) older old new before fragment coming w (inr (few, comes))
        (writing_coming site.size packet older w.pages fragment.continues w.done w.now before.unsent (reverse before.holes) coming w.writing)
        (goes_on-nested packet (with_open packet) level [] outer coming refl refl w.writing.given_up w.writing.finished refl w.writing.levels
        (ap (λ (levels : List (List ℕ)). [] ∷ levels) same)
        (λ m among. only_one m n among ∙ ap (λ (levels : List (List ℕ)). length (flat open_length levels)) same)) e

-- as many chunks are begun once one of them is completed
pub begun_many : (old new : WriterView) (chunk position : ℕ) (content : Content) → new ≡ completes old chunk position content → length new.begun ≡ length old.begun
begun_many old new chunk position content is =
    ap (λ (v : WriterView). length v.begun) is ∙ length-set old.begun position (Completed chunk content)

pub ends_stuck : (setup : Setup) (place : ℕ) (route : Route) (old one new : WriterView) (before : Pending) (fragment : OpenFragment) (ended : HeldChunk)
    → route.spec.policy ≡ Stalls → Ends fragment ended
    → one ≡ run_completion place route.spec.buffer before old ended.held.body.payload.items ended.held.chunk ended.held.position ended.count ended.continues
    → new.begun ≡ one.begun → new.calls ≡ one.calls → EndsStuck (site_of setup place route) old new before fragment
ends_stuck setup place route old one new before fragment ended stalls e view begun_is calls_is = record {
  stalls = stalls;
  payload = ended.held.body.payload.items;
  payload_is = e.payload;
  calls = calls_is ∙ ap (λ (v : WriterView). v.calls) view;
  begun = λ completed draft begun position. begun_is ∙ completed_before place (site_of setup place route) old one before fragment ended completed [] draft e refl view begun position;
}
