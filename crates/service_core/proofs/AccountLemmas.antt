-- Notes that lead from the beginning to a stage are in order, as an account asks it.
use Rattle.std.proofs.Common.{◌≡◌, ◌∙◌, ℕ, suc, ◌+◌, ◌-◌, Bool, true, false, List, [], ◌∷◌, Some, ap, subst, arith}
use Rattle.std.specs.Prelude.{◌==◌}
use Rattle.trace_base.proofs.Choices.{match_map}
use Rattle.trace_model.specs.Images.{Image, Patch}
use Rattle.chunk_plain.specs.Views.{At, BegunChunk, Held, Completed, Noted, Arrive, Partial, Patched, Closed, Read, Commit, ServiceView}
use Rattle.chunk_plain.specs.World.{World, writer}
use Rattle.chunk_plain.specs.Owned.{IsOwned}
use Rattle.chunk_plain.specs.Drafts.{IsFound, StillHas}
use Rattle.chunk_plain.specs.Histories.{content_at}
use Rattle.world_model.specs.Accounts.{IsScraped, InOrder}
use Rattle.world_model.proofs.FrontLemmas.{finds_are_fronts}
use Rattle.world_model.proofs.PartLemmas.{looked}
use Rattle.service_core.specs.Order.{Stage, IsFoundPart, LeadTo}
use Rattle.service_core.specs.OrderLaws.{HasImages, LeadsAreInOrder}

-- a part that was found is a front of its chunk's image
scraped : (world : World) (place q position count : ℕ) (images : List Image) → q - 2 ≡ place → IsOwned world → HasImages (writer world place) images
    → IsFoundPart world.service q position count → IsScraped images world.service q position count
scraped world place q position count images place_is owned has part =
    let l = looked (q - 2) position count world.service.looks part.found part.looked in
    let is = owned.looks l.number l.look part.found l.at l.found_is in
    let at : At (writer world place).begun position is.1.entry =
    subst (λ (p : ℕ). At (writer world p).begun position is.1.entry) (l.place_is ∙ place_is) (subst (λ (i : ℕ). At (writer world part.found.place).begun i is.1.entry) l.position_is is.1.at) in
    by_entry is.1.entry at l.look.chunk is.0 is.1.has
  where
    by_entry : (entry : BegunChunk) → At (writer world place).begun position entry → (about : ℕ) → IsFound part.found → StillHas about part.found entry → IsScraped images world.service q position count
    by_entry (Completed chunk content) at about is has_it = record {
      found = part.found;
      looked = part.looked;
      image = content.image;
      there = has.completed position chunk content at;
      front = finds_are_fronts.completed about chunk part.found content is has_it part.some;
    }
    by_entry (Held chunk draft) at about is has_it =
        let image = has.held position chunk draft at in
        record {
          found = part.found;
          looked = part.looked;
          image = image.0;
          there = image.1;
          front = finds_are_fronts.held about chunk part.found draft image.0 is has_it ((owned.counts place).drafts position chunk draft at) image.2 image.3 part.some;
        }

-- where no patches are due, none are due
none_due : (images : List Image) (view : ServiceView) (q come : ℕ) (closed : Bool) (due : List Patch) (notes : List Noted) → due ≡ [] → InOrder images view q come closed due notes
    → InOrder images view q come closed [] notes
none_due images view q come closed due notes none order = subst (λ (ps : List Patch). InOrder images view q come closed ps notes) none order

pub order_from : (images : List Image) (view : ServiceView) (q : ℕ) → ((position count : ℕ) → IsFoundPart view q position count → IsScraped images view q position count)
    → (notes : List Noted) (stage last : Stage) → LeadTo view q stage notes last → last.due ≡ [] → InOrder images view q stage.come stage.closed stage.due notes
order_from images view q parts [] stage last lead none = ap (λ (s : Stage). s.due) lead ∙ none
order_from images view q parts (Arrive other position ∷ notes) stage last lead none = (
  lead.0,
  match_map (other == q) _ _ _ _ lead.1
      (λ h. (
        h.0,
        h.1,
        h.2,
        subst (λ (i : ℕ). content_at view q i ≡ Some h.2) h.1 h.3,
        order_from images view q parts notes (record { come = suc stage.come; closed = stage.closed; due = h.2.patches }) last h.4 none,
      ))
      (λ h. none_due images view q stage.come stage.closed stage.due notes lead.0 (order_from images view q parts notes stage last h none)),
)
order_from images view q parts (Partial other position count ∷ notes) stage last lead none = (
  lead.0,
  match_map (other == q) _ _ _ _ lead.1
      (λ h. (
        h.0,
        h.1,
        subst (λ (i : ℕ). IsScraped images view q i count) h.1 (parts position count h.2),
        none_due images view q stage.come stage.closed stage.due notes lead.0 (order_from images view q parts notes stage last h.3 none),
      ))
      (λ h. none_due images view q stage.come stage.closed stage.due notes lead.0 (order_from images view q parts notes stage last h none)),
)
order_from images view q parts (Patched other position ∷ notes) stage last lead none =
    match_map (other == q) _ _ _ _ lead
    (λ h. (h.0, h.1, h.2, order_from images view q parts notes (record stage { due = [] }) last h.3 none))
    (λ h. (h.0, none_due images view q stage.come stage.closed stage.due notes h.0 (order_from images view q parts notes stage last h.1 none)))
order_from images view q parts (Closed other ∷ notes) stage last lead none = (
  lead.0,
  match_map (other == q) _ _ _ _ lead.1
      (λ h. (h.0, none_due images view q stage.come true stage.due notes lead.0 (order_from images view q parts notes (record stage { closed = true }) last h.1 none)))
      (λ h. none_due images view q stage.come stage.closed stage.due notes lead.0 (order_from images view q parts notes stage last h none)),
)
order_from images view q parts (Read other limit ∷ notes) stage last lead none =
    (lead.0, none_due images view q stage.come stage.closed stage.due notes lead.0 (order_from images view q parts notes stage last lead.1 none))
order_from images view q parts (Commit at ∷ notes) stage last lead none =
    (lead.0, lead.1, none_due images view q stage.come stage.closed stage.due notes lead.0 (order_from images view q parts notes stage last lead.2 none))

pub leads_are_in_order : LeadsAreInOrder
leads_are_in_order world place images last owned has lead none =
    order_from images world.service (place + 2) (λ position count part. scraped world place (place + 2) position count images (let back : place + 2 - 2 ≡ place = omega arith in back) owned has part)
    world.service.events (record { come = 0; closed = false; due = [] }) last lead none
