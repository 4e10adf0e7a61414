-- The ids that a writer asks for: those that its route's specification gives to its positions.
use Rattle.std.proofs.Common.{◌≡◌, ℕ, ◌+◌, ◌-◌, ◌^◌, ◌<◌, get_or, sym, ap, ◌∙◌, arith}
use Rattle.std.proofs.lemmas.Option.{same_Some, slice_get-get_or, slice_get_within}
use Rattle.trace_base.specs.declared.policy.WriterSpec.{WriterSpec}
use Rattle.trace_base.specs.Ids.{id_of}
use Rattle.chunk_plain.specs.declared.tokens.Held.{Held as HeldToken}
use Rattle.chunk_plain.specs.Setup.{Setup, spot, no_writer, from_of, id_at}
use Rattle.chunk_plain.specs.Words.{IsBegun}
use Rattle.trace_writer.specs.declared.route.Route.{Route}
use Rattle.trace_writer.specs.Ids.{HasIds}
use Rattle.trace_writer.specs.Site.{IsRoute}
use Rattle.trace_writer.specs.declared.fragment.OpenFragment.{OpenFragment}

-- the route has the id of the writer's first chunk
pub route_from : (setup : Setup) (place : ℕ) (route : Route) → IsRoute setup place route → route.spec.from ≡ from_of setup place
route_from setup place route is =
    let inside = slice_get_within setup.writers place route.spec is.spec in
    let there = slice_get-get_or setup.writers place no_writer inside in
    let same : get_or setup.writers place no_writer ≡ route.spec = same_Some (get_or setup.writers place no_writer) route.spec (sym there ∙ is.spec) in
    ap (λ (spec : WriterSpec). spec.from) (sym same)

-- the same of a table whose set-up and whose writer's place stayed
pub route_from_now : (setup now : Setup) (place there : ℕ) (route : Route) → IsRoute setup place route → now ≡ setup → there ≡ place → route.spec.from ≡ from_of now there
route_from_now setup now place there route is setup_is place_is =
    route_from setup place route is ∙ (ap (λ (s : Setup). from_of s place) (sym setup_is) ∙ ap (λ (p : ℕ). from_of now p) (sym place_is))

-- the id that is asked for is that of the writer's next position
pub next_id : (setup now : Setup) (place there : ℕ) (route : Route) (position count id : ℕ) → IsRoute setup place route → now ≡ setup → there ≡ place
    → position ≡ count → id ≡ id_of route.spec.from position → id ≡ id_at now there count
next_id setup now place there route position count id is setup_is place_is same id_is =
    id_is
    ∙ (ap (λ (n : ℕ). id_of n position) (route_from_now setup now place there route is setup_is place_is) ∙ ap (λ (n : ℕ). id_at now there n) same)

-- what was begun, by the set-up and the position as they were before
pub begun_as : (setup now : Setup) (chunk position count : ℕ) (held : HeldToken) → now ≡ setup → position ≡ count → IsBegun now chunk count held → IsBegun setup chunk position held
begun_as setup now chunk position count held setup_is same begun = record {
  chunk_is = begun.chunk_is;
  position_is = begun.position_is ∙ sym same;
  whole = begun.whole ∙ ap (λ (s : Setup). (spot s chunk).payload_size) setup_is;
  empty = begun.empty;
}

-- a packet that has ids for one byte more has one for its next chunk
pub next_fits : (fragment : OpenFragment) → HasIds fragment 1 → fragment.held.position + 1 < 2 ^ 32 - 1
next_fits fragment ids = omega (arith, ids)
