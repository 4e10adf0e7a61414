-- What views keep that are those of some owned world: the notes on each sequence are in order, as an account asks it.
use Rattle.std.proofs.Common.{◌≡◌, ◌∙◌, ℕ, ◌+◌, ◌-◌, ◌<◌, false, List, [], length, Some, refl, subst, arith}
use Rattle.std.proofs.Math.Logic.{∥∥₁_elim, ∥∥₁_map}
use Rattle.std.proofs.Math.Nat.{ℕ_set}
use Rattle.std.proofs.Math.Bool.{Bool-set}
use mathlib.Core.Sum.{⊎_set}
use mathlib.Core.List.{is_set as list_set}
use Rattle.std.proofs.Math.Option.{is_set as option_set}
use Rattle.std.specs.Coded.{le_prop}
use Rattle.trace_model.specs.Images.{Image}
use Rattle.chunk_plain.specs.Setup.{sequence_of}
use Rattle.chunk_plain.specs.Drafts.{IsDraft, IsFound, IsThere, StillHas}
use Rattle.chunk_plain.specs.Views.{At, BegunChunk, Held, Completed, Content, Found, Look, ServiceView, WriterView, taken_of}
use Rattle.chunk_plain.specs.World.{World, Status, writer}
use Rattle.chunk_plain.specs.Owned.{IsOwned}
use Rattle.chunk_plain.proofs.Lists.{at_inside, at_one, at_some}
use Rattle.world_model.specs.Accounts.{IsScraped, InOrder}
use Rattle.world_model.proofs.FrontLemmas.{finds_are_fronts}
use Rattle.world_model.proofs.PartLemmas.{IsLooked, looked}
use Rattle.service_core.specs.Order.{Stage, IsFoundPart, LeadTo, beginning}
use Rattle.service_core.specs.OrderLaws.{HasImages}
use Rattle.service_core.proofs.AccountLemmas.{order_from}

content_set : IsSet Content
content_set = hlevel (ℕ_set, Bool-set, ⊎_set, list_set, option_set)

-- ---- some owned world has these views

-- the world with other states of its chunks
abbrev pub with_chunks : World → List Status → World
with_chunks world chunks = record { chunks = chunks; writers = world.writers; service = world.service }

-- some owned world has the views of this one
abbrev pub HasOwned : World → Type 0
HasOwned world = ∥ ((other : World) × IsOwned other × (other.writers ≡ world.writers) × (other.service ≡ world.service)) ∥₁

-- it is this one but for the chunks
owned_with : (world other : World) → IsOwned other → other.writers ≡ world.writers → other.service ≡ world.service → IsOwned (with_chunks world other.chunks)
owned_with world other owned writers_are service_is =
    subst (λ (service : ServiceView). IsOwned (record { chunks = other.chunks; writers = world.writers; service = service })) service_is
    (subst (λ (writers : List WriterView). IsOwned (record { chunks = other.chunks; writers = writers; service = other.service })) writers_are owned)

-- so a fact of which there is one proof follows from ownership
pub by_owned : (world : World) (P : Type 0) → HasOwned world → IsProp P → ((chunks : List Status) → IsOwned (with_chunks world chunks) → P) → P
by_owned world P owned one_proof follows = ∥∥₁_elim owned one_proof (λ h. follows h.0.chunks (owned_with world h.0 h.1 h.2 h.3))

-- an owned world is such a one itself
pub owned_itself : (world : World) → ∥ IsOwned world ∥₁ → HasOwned world
owned_itself world owned = ∥∥₁_map owned (λ (is : IsOwned world). (world, is, refl, refl))

-- ---- one writer

module _ (world : World) (owned : HasOwned world) (place : ℕ) where
  abbrev begun : List BegunChunk
  begun = (writer world place).begun

  pub named : (n chunk : ℕ) (content : Content) → At begun n (Completed chunk content) → content.image.chunk_id ≡ n
  named n chunk content at =
      by_owned world (content.image.chunk_id ≡ n) owned (ℕ_set _ _) (λ chunks is. ((is.counts place).named n chunk content at).0)

  -- what the service learnt was completed
  pub learnt : (n : ℕ) (content : Content) → At (taken_of world.service place).contents n content → (chunk : ℕ) × At begun n (Completed chunk content)
  learnt n content at = by_entry some.0 some.1
    where
      inside : n < length begun
      inside = by_owned world (n < length begun) owned (hlevel le_prop)
          (λ chunks is. let l = (is.counts place).learnt n content at in at_inside begun (Completed l.0 content) n l.1)

      some : (one : BegunChunk) × At begun n one
      some = at_some begun n inside

      by_entry : (one : BegunChunk) → At begun n one → (chunk : ℕ) × At begun n (Completed chunk content)
      by_entry (Held chunk draft) there =
          absurd (by_owned world ⊥ owned (hlevel le_prop) (λ chunks is.
          let l = (is.counts place).learnt n content at in
          let same = at_one begun (Held chunk draft) (Completed l.0 content) n there l.1 in
          let never : ⊥ = cc in never))
      by_entry (Completed chunk one) there =
          let same : one ≡ content = by_owned world (one ≡ content) owned (content_set _ _) (λ chunks is.
          let l = (is.counts place).learnt n content at in
          let equal = at_one begun (Completed chunk one) (Completed l.0 content) n there l.1 in
          let contents : one ≡ content = cc in contents) in
          (chunk, subst (λ (c : Content). At begun n (Completed chunk c)) same there)

  pub finds : (n : ℕ) (look : Look) (found : Found) → At world.service.looks n look → look.found ≡ Some found → IsFound found
  finds n look found at is = by_owned world (IsFound found) owned (hlevel (ℕ_set, le_prop)) (λ chunks o. (o.looks n look found at is).0)

  -- what a look found of a chunk is there still
  still : (id : ℕ) (one : BegunChunk) → At begun id one → (n : ℕ) (look : Look) (found : Found) → At world.service.looks n look → look.found ≡ Some found
      → found.place ≡ place → found.position ≡ id → (chunks : List Status) → IsOwned (with_chunks world chunks) → StillHas look.chunk found one
  still id one at n look found there is place_is id_is chunks owns =
      let thing : IsThere (writer world place) look.chunk found = subst (λ (p : ℕ). IsThere (writer world p) look.chunk found) place_is (owns.looks n look found there is).1 in
      let entry_at : At begun id thing.entry = subst (λ (i : ℕ). At begun i thing.entry) id_is thing.at in
      subst (StillHas look.chunk found) (at_one begun thing.entry one id entry_at at) thing.has

  module _ (images : List Image) (has : HasImages (writer world place) images) where
    -- a part that a look found is a front of its chunk's image
    scraped : (id count : ℕ) → IsFoundPart world.service (sequence_of place) id count → IsScraped images world.service (sequence_of place) id count
    scraped id count part = by_entry some.0 some.1
      where
        looked_at : IsLooked (place + 2 - 2) id count world.service.looks part.found
        looked_at = looked (place + 2 - 2) id count world.service.looks part.found part.looked

        named_so : (part.found.place ≡ place) × (part.found.position ≡ id)
        named_so = let back : place + 2 - 2 ≡ place = omega arith in (looked_at.place_is ∙ back, looked_at.position_is)

        inside : id < length begun
        inside = by_owned world (id < length begun) owned (hlevel le_prop) (λ chunks is.
            let thing : IsThere (writer world place) looked_at.look.chunk part.found =
            subst (λ (p : ℕ). IsThere (writer world p) looked_at.look.chunk part.found) named_so.0 (is.looks looked_at.number looked_at.look part.found looked_at.at looked_at.found_is).1 in
            at_inside begun thing.entry id (subst (λ (i : ℕ). At begun i thing.entry) named_so.1 thing.at))

        some : (one : BegunChunk) × At begun id one
        some = at_some begun id inside

        found_so : IsFound part.found
        found_so = finds looked_at.number looked_at.look part.found looked_at.at looked_at.found_is

        by_entry : (one : BegunChunk) → At begun id one → IsScraped images world.service (sequence_of place) id count
        by_entry (Completed chunk content) at = record {
          found = part.found;
          looked = part.looked;
          image = content.image;
          there = has.completed id chunk content at;
          front = finds_are_fronts.completed looked_at.look.chunk chunk part.found content found_so
              (by_owned world (StillHas looked_at.look.chunk part.found (Completed chunk content)) owned (hlevel (ℕ_set, le_prop))
              (still id (Completed chunk content) at looked_at.number looked_at.look part.found looked_at.at looked_at.found_is named_so.0 named_so.1))
              part.some;
        }
        by_entry (Held chunk draft) at =
            let image = has.held id chunk draft at in
            record {
              found = part.found;
              looked = part.looked;
              image = image.0;
              there = image.1;
              front = finds_are_fronts.held looked_at.look.chunk chunk part.found draft image.0 found_so
                  (by_owned world (StillHas looked_at.look.chunk part.found (Held chunk draft)) owned (hlevel (ℕ_set, le_prop))
                  (still id (Held chunk draft) at looked_at.number looked_at.look part.found looked_at.at looked_at.found_is named_so.0 named_so.1))
                  (by_owned world (IsDraft draft) owned (hlevel (ℕ_set, le_prop)) (λ chunks is. (is.counts place).drafts id chunk draft at))
                  image.2 image.3 part.some;
            }

    -- notes that lead on to where no patches are due are in order
    pub in_order : (last : Stage) → LeadTo world.service (sequence_of place) beginning world.service.events last → last.due ≡ []
        → InOrder images world.service (sequence_of place) 0 false [] world.service.events
    in_order last lead none = order_from images world.service (sequence_of place) scraped world.service.events beginning last lead none
