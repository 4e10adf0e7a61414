-- Giving up a packet, from its start over each of its holes to its end, whatever levels are still open.
use Rattle.std.proofs.Common.{◌≡◌, ◌≢◌, ℕ, ◌+◌, ◌-◌, ◌<◌, ◌≤◌, Bool, true, false, Some, List, [], ◌∷◌, ◌++◌, length, subst}
use Rattle.std.specs.Prelude.{IsTrue}
use Rattle.wire_varint.specs.Varint.{redundant}
use Rattle.trace_model.specs.Images.{Patch, with_bytes}
use Rattle.trace_model.specs.Packets.{Packet, Text, open_places, with_more, body_of}
use Rattle.trace_model.specs.Pages.{Page}
use Rattle.trace_model.specs.Sequences.{is_among}
use Rattle.trace_model.specs.Row.{bytes_of}
use Rattle.trace_model.specs.Cut.{IsWellFormedPage}
use Rattle.commit_body.specs.declared.hole.Hole.{Hole}
use Rattle.commit_body.specs.Patches.{with_lasts}
use Rattle.commit_body.specs.Pending.{patch_for}
use Rattle.cut_steps.specs.RawChains.{raw_chains, earlier_pieces, current_pieces, offset_behind}
use Rattle.cut_steps.specs.RawCut.{CutsRaw}
use Rattle.cut_steps.specs.Writing.{with_open, IsWriting}
use Rattle.cut_steps.specs.Between.{IsBetween}
use Rattle.cut_steps.specs.GivingUp.{IsGivingUp, GivesUp}
use Rattle.cut_steps.proofs.EndingSteps.{Inner, inner_of, none_left}
use Rattle.cut_steps.proofs.GivingStart.{giving_started, giving_started_nested}
use Rattle.cut_steps.proofs.GivingSteps.{giving_stands_here, giving_here, giving_later}
use Rattle.cut_steps.proofs.GivenCut.{given_between, given_cut}

-- these bytes of the packet are lost
pub gives_up : (size : ℕ) (packet : Packet) (older : List Packet) (pages : List Page) (continues : Bool) (done : List (List ℕ)) (now rest : List ℕ)
    (unsent : List Patch) (holes : List Hole) → 0 < length rest
    → IsWriting size packet older pages continues done now unsent holes []
    → GivesUp size packet older pages continues done now unsent holes (with_more rest packet).text
gives_up size packet older pages continues done now rest unsent holes some w =
    record { level = w.level; outer = w.outer; giving = giving_started size packet older pages continues done now rest unsent holes some w }

-- these bytes, and a nested length behind them
pub gives_up_nested : (size : ℕ) (packet : Packet) (older : List Packet) (pages : List Page) (continues : Bool) (done : List (List ℕ)) (now rest : List ℕ)
    (unsent : List Patch) (holes : List Hole) (coming : List ℕ)
    → ((n : ℕ) → IsTrue (is_among n coming) → n ≡ length (body_of (with_more rest packet)))
    → IsWriting size packet older pages continues done now unsent holes coming
    → GivesUp size packet older pages continues done now unsent holes (with_open (with_more rest packet)).text
gives_up_nested size packet older pages continues done now rest unsent holes coming only w =
    record { level = w.level; outer = w.outer; giving = giving_started_nested size packet older pages continues done now rest unsent holes coming only w }

-- the hole in the held chunk lies in its fragment
pub gives_up_stands_here : (size : ℕ) (packet : Packet) (older : List Packet) (pages : List Page) (continues : Bool) (done : List (List ℕ)) (now : List ℕ)
    (unsent : List Patch) (hole : Hole) (holes : List Hole) (text : Text) → hole.chunk_id ≡ length pages
    → GivesUp size packet older pages continues done now unsent (hole ∷ holes) text
    → (offset_behind 4 done ≤ hole.offset) × (hole.offset + 4 ≤ offset_behind 4 done + length now)
gives_up_stands_here size packet older pages continues done now unsent hole holes text held g =
    let inner : Inner g.outer = inner_of (current_pieces pages continues done now) g.level g.outer hole holes g.giving.holes_are in
    giving_stands_here size packet older pages continues done now unsent hole holes text g.level inner.next inner.others held
    (subst (λ (outer : List (List ℕ)). IsGivingUp size packet older pages continues done now unsent (hole ∷ holes) text g.level outer) inner.is g.giving)

-- the innermost hole is in the held chunk
pub gives_up_here : (size : ℕ) (packet : Packet) (older : List Packet) (pages : List Page) (continues : Bool) (done : List (List ℕ)) (now : List ℕ)
    (unsent : List Patch) (hole : Hole) (holes : List Hole) (text : Text) → hole.chunk_id ≡ length pages
    → GivesUp size packet older pages continues done now unsent (hole ∷ holes) text
    → GivesUp size packet older pages continues done (with_bytes now (hole.offset - offset_behind 4 done) (redundant 0)) unsent holes text
gives_up_here size packet older pages continues done now unsent hole holes text held g =
    let inner : Inner g.outer = inner_of (current_pieces pages continues done now) g.level g.outer hole holes g.giving.holes_are in
    record {
      level = inner.next ++ redundant 0 ++ g.level;
      outer = inner.others;
      giving = giving_here size packet older pages continues done now unsent hole holes text g.level inner.next inner.others held
          (subst (λ (outer : List (List ℕ)). IsGivingUp size packet older pages continues done now unsent (hole ∷ holes) text g.level outer) inner.is g.giving);
    }

-- it is in an earlier chunk
pub gives_up_later : (size : ℕ) (packet : Packet) (older : List Packet) (pages : List Page) (continues : Bool) (done : List (List ℕ)) (now : List ℕ)
    (unsent : List Patch) (hole : Hole) (holes : List Hole) (text : Text) → hole.chunk_id ≢ length pages
    → GivesUp size packet older pages continues done now unsent (hole ∷ holes) text
    → GivesUp size packet older pages continues done now (unsent ++ patch_for hole 0 ∷ []) holes text
gives_up_later size packet older pages continues done now unsent hole holes text apart g =
    let inner : Inner g.outer = inner_of (current_pieces pages continues done now) g.level g.outer hole holes g.giving.holes_are in
    record {
      level = inner.next ++ redundant 0 ++ g.level;
      outer = inner.others;
      giving = giving_later size packet older pages continues done now unsent hole holes text g.level inner.next inner.others apart
          (subst (λ (outer : List (List ℕ)). IsGivingUp size packet older pages continues done now unsent (hole ∷ holes) text g.level outer) inner.is g.giving);
    }

-- No hole is left: the drop mark is put in, and what is left of the payload is unused.
pub gave_up : (size : ℕ) (packet next : Packet) (older : List Packet) (pages : List Page) (page : Page) (done : List (List ℕ)) (now unused : List ℕ)
    (unsent : List Patch) (text : Text)
    → page.fragments ≡ done ++ (now ++ unused) ∷ [] → page.dropped ≡ true → page.awaits ≡ false → page.patches ≡ with_lasts [] unsent → IsWellFormedPage size page
    → length unused ≤ 3
    → (0 < length unused → IsTrue (is_among (length (bytes_of (earlier_pieces pages page.continues done)) + length now) (open_places text.levels)))
    → next.kept ≡ true → next.follows_flush ≡ packet.follows_flush → next.given_up ≡ Some text
    → GivesUp size packet older pages page.continues done now unsent [] text
    → IsBetween size (next ∷ older) (pages ++ page ∷ []) (raw_chains (pages ++ page ∷ [])) [] 4
gave_up size packet next older pages page done now unused unsent text holds dropped awaits brings full few lies kept flush given g =
    let none : g.outer ≡ [] = none_left (current_pieces pages page.continues done now) g.level g.outer g.giving.holes_are in
    given_between size packet next older pages page done now unused unsent text g.level holds dropped awaits brings full few lies kept flush given
    (subst (λ (outer : List (List ℕ)). IsGivingUp size packet older pages page.continues done now unsent [] text g.level outer) none g.giving)

pub gave_up_cut : (size : ℕ) (packet next : Packet) (older : List Packet) (pages : List Page) (page : Page) (done : List (List ℕ)) (now unused : List ℕ)
    (unsent : List Patch) (text : Text)
    → page.fragments ≡ done ++ (now ++ unused) ∷ [] → page.dropped ≡ true → page.awaits ≡ false → page.patches ≡ with_lasts [] unsent → IsWellFormedPage size page
    → length unused ≤ 3
    → (0 < length unused → IsTrue (is_among (length (bytes_of (earlier_pieces pages page.continues done)) + length now) (open_places text.levels)))
    → next.kept ≡ true → next.follows_flush ≡ packet.follows_flush → next.given_up ≡ Some text
    → GivesUp size packet older pages page.continues done now unsent [] text
    → CutsRaw size (next ∷ older) (pages ++ page ∷ [])
gave_up_cut size packet next older pages page done now unused unsent text holds dropped awaits brings full few lies kept flush given g =
    let none : g.outer ≡ [] = none_left (current_pieces pages page.continues done now) g.level g.outer g.giving.holes_are in
    given_cut size packet next older pages page done now unused unsent text g.level holds dropped awaits brings full few lies kept flush given
    (subst (λ (outer : List (List ℕ)). IsGivingUp size packet older pages page.continues done now unsent [] text g.level outer) none g.giving)
