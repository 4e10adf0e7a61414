-- A nested length that is set aside, in the held chunk or in the next one.
use Rattle.std.proofs.Common.{◌≡◌, ◌∙◌, ℕ, ◌+◌, ◌<◌, ◌≤◌, Bool, true, false, List, [], ◌∷◌, ◌++◌, length, reverse, refl, sym, ap, subst, arith, length-append}
use Rattle.std.specs.Prelude.{IsTrue, ◌==◌, ◌||◌}
use Rattle.std.proofs.lemmas.Bool.{eqb-true}
use Rattle.trace_model.specs.Images as model
use Rattle.trace_model.specs.Packets.{Packet, open_length, body_of}
use Rattle.trace_model.specs.Sequences.{is_among}
use Rattle.commit_body.specs.declared.hole.Hole.{Hole}
use Rattle.commit_body.specs.Patches.{holes_outside}
use Rattle.commit_body.specs.Pending.{Pending, AddsHole}
use Rattle.commit_body.proofs.InnerFirst.{inner_first_added}
use Rattle.chunk_plain.specs.Setup.{spot}
use Rattle.chunk_plain.specs.Views.{WriterView}
use Rattle.cut_steps.specs.RawChains.{offset_behind}
use Rattle.cut_steps.specs.Writing.{with_open, IsWriting}
use Rattle.cut_steps.proofs.WritingSteps.{writing_nested}
use Rattle.trace_writer.specs.declared.fragment.OpenFragment.{OpenFragment}
use Rattle.trace_writer.specs.Site.{Site}
use Rattle.trace_writer.specs.Fragment.{IsPutInto}
use Rattle.trace_writer.specs.States.{InFragment}
use Rattle.trace_writer.specs.Flows.{RunsOn, SetsAside}
use Rattle.trace_writer.proofs.holding.Holes.{outside_here}
use Rattle.trace_writer.proofs.holding.Payloads.{written_moved, written_offset}
use Rattle.trace_writer.proofs.packets.Putting.{written_more, held_same, drafted_same, ids_behind, ids_next}

pub only_one : (n at : ℕ) → IsTrue (is_among n (at ∷ [])) → n ≡ at
only_one n at among = either (at == n) refl among
  where
    either : (same : Bool) → (at == n) ≡ same → IsTrue (same || false) → n ≡ at
    either true is among = sym (eqb-true at n is)
    either false is among = absurd (cc)

-- Further lengths may come where the packet ends so far, or nowhere.
pub inside_nested : (site : Site) (packet : Packet) (older : List Packet) (view : WriterView) (before after : Pending) (fragment next : OpenFragment) (coming : List ℕ)
    → ((n : ℕ) → IsTrue (is_among n coming) → n ≡ length (body_of packet))
    → IsPutInto fragment next fragment.at open_length → next.at ≡ fragment.at + 4 → AddsHole before after fragment.held.position fragment.at → length before.holes < 16
    → InFragment site packet older view before fragment coming → InFragment site (with_open packet) older view after next []
inside_nested site packet older view before after fragment next coming only put at_is adds few i =
    let hole : Hole = record { chunk_id = fragment.held.position; offset = fragment.at } in
    let holes : after.holes ≡ before.holes ++ hole ∷ [] = ap (λ (p : Pending). p.holes) adds in
    let unsent : after.unsent ≡ before.unsent = ap (λ (p : Pending). p.unsent) adds in
    let offset : fragment.at ≡ offset_behind 4 i.done + length i.now =
    i.written.at_is ∙ ap (λ (n : ℕ). n + length i.now)
    (sym (written_offset fragment.held.body.payload.items fragment.start fragment.at fragment.count i.done i.now i.written)) in
    let hole_is : hole ≡ record { chunk_id = length i.pages; offset = offset_behind 4 i.done + length i.now } =
    ap (λ (n : ℕ). record { chunk_id = n; offset = fragment.at }) i.position ∙ ap (λ (n : ℕ). record { chunk_id = length i.pages; offset = n }) offset in
    let inner : reverse after.holes ≡ record { chunk_id = length i.pages; offset = offset_behind 4 i.done + length i.now } ∷ reverse before.holes =
    inner_first_added before after fragment.held.position fragment.at adds ∙ ap (λ (h : Hole). h ∷ reverse before.holes) hole_is in
    let many : length after.holes ≡ length before.holes + 1 = ap length holes ∙ length-append before.holes (hole ∷ []) in
    let outside : holes_outside next.held.position after.holes ≡ holes_outside fragment.held.position before.holes =
    ap (λ (n : ℕ). holes_outside n after.holes) put.same.position
    ∙ ap (holes_outside fragment.held.position) holes
    ∙ outside_here fragment.held.position before.holes hole refl in
    record {
      pages = i.pages;
      done = i.done;
      now = i.now ++ open_length;
      completed = i.completed;
      draft = i.draft;
      begun = held_same view.begun i.completed fragment.held.chunk next.held.chunk i.draft put.same.chunk i.begun;
      drafted = drafted_same i.draft fragment.count next.count fragment.continues next.continues i.done put.same.count put.same.continues i.drafted;
      shown = i.shown;
      position = put.same.position ∙ i.position;
      sized = ap (λ (n : ℕ). (spot site.setup n).payload_size) put.same.chunk ∙ i.sized;
      whole = put.same.len ∙ i.whole;
      written = written_moved fragment.start next.start (fragment.at + 4) next.at fragment.count next.count i.done (i.now ++ open_length)
          put.payload put.same.start at_is put.same.count
          (written_more fragment.held.body.payload.items fragment.start fragment.at fragment.count i.done i.now open_length i.written);
      few = omega (arith, many, few);
      room = omega (arith, i.room, outside, ap length unsent);
      writing = subst (λ (b : Bool). IsWriting site.size (with_open packet) older i.pages b i.done (i.now ++ open_length) after.unsent (reverse after.holes) [])
          (sym put.same.continues)
          (subst (λ (hs : List Hole). IsWriting site.size (with_open packet) older i.pages fragment.continues i.done (i.now ++ open_length) after.unsent hs []) (sym inner)
          (subst (λ (ps : List model.Patch). IsWriting site.size (with_open packet) older i.pages fragment.continues i.done (i.now ++ open_length) ps
          (record { chunk_id = length i.pages; offset = offset_behind 4 i.done + length i.now } ∷ reverse before.holes) []) (sym unsent)
          (writing_nested site.size packet older i.pages fragment.continues i.done i.now before.unsent (reverse before.holes) coming only i.writing)));
    }

more_holes : (before after : Pending) (chunk_id offset : ℕ) → AddsHole before after chunk_id offset → length after.holes ≡ length before.holes + 1
more_holes before after chunk_id offset adds =
    ap (λ (p : Pending). length p.holes) adds ∙ length-append before.holes (record { chunk_id = chunk_id; offset = offset } ∷ [])

-- the length fits into the held chunk
pub sets_here : (site : Site) (view : WriterView) (before after : Pending) (fragment next : OpenFragment)
    → IsPutInto fragment next fragment.at open_length → next.at ≡ fragment.at + 4 → AddsHole before after fragment.held.position fragment.at → length before.holes < 16
    → SetsAside site view view before after fragment next
sets_here site view before after fragment next put at_is adds few = record {
  calls = refl;
  holes = more_holes before after fragment.held.position fragment.at adds;
  keeps = λ packet older i. inside_nested site packet older view before after fragment next [] (λ n among. absurd (cc)) put at_is adds few i;
  ids = λ further h. ids_behind fragment next fragment.at open_length 4 further put at_is h;
  byte = λ continues first. omega (arith, at_is, fragment.behind);
}

-- it stands in the next one
pub sets_behind : (site : Site) (old new : WriterView) (before between after : Pending) (fragment now next : OpenFragment)
    → RunsOn site old new before between fragment now → 281 ≤ fragment.at
    → IsPutInto now next now.at open_length → next.at ≡ now.at + 4 → AddsHole between after now.held.position now.at → length before.holes < 16
    → SetsAside site old new before after fragment next
sets_behind site old new before between after fragment now next runs low put at_is adds few = record {
  calls = runs.calls;
  holes = more_holes between after now.held.position now.at adds ∙ ap (λ (n : ℕ). n + 1) (ap length runs.holes);
  keeps = λ packet older i.
      inside_nested site packet older new between after now next (length (body_of packet) ∷ []) (λ n among. only_one n (length (body_of packet)) among) put at_is adds
      (omega (arith, few, ap length runs.holes)) (runs.length_next packet older i);
  ids = λ further h. ids_behind now next now.at open_length 4 further put at_is (ids_next fragment now (4 + further) runs.start runs.at runs.position low h);
  byte = λ continues first. omega (arith, at_is, now.behind);
}
