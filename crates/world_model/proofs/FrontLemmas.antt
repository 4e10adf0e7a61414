-- What a look found of a chunk is a front of its image.
use Rattle.std.proofs.Common.{◌≡◌, ◌∙◌, ℕ, ◌+◌, ◌%◌, ◌^◌, ◌<◌, ◌≤◌, List, length, refl, sym, ap, arith, length-append}
use Rattle.std.specs.List.{flat_map}
use Rattle.std.proofs.lemmas.List.{get_or_append_left}
use Rattle.trace_base.proofs.Lists.{begins}
use Rattle.trace_model.specs.Fragments.{drop_size}
use Rattle.trace_model.specs.Cut.{Begins}
use Rattle.trace_model.specs.Images.{Image}
use Rattle.trace_model.specs.Pages.{framed}
use Rattle.chunk_plain.specs.Payload.{byte_at, byte_in, ends_from}
use Rattle.chunk_plain.specs.Views.{Head, Content, Draft, Found, Held, Completed}
use Rattle.chunk_plain.specs.Drafts.{IsDraft, IsFound, MayFollow, StillHas}
use Rattle.chunk_plain.proofs.Frames.{frames_read}
use Rattle.chunk_plain.proofs.Sealing.{ends_grow, length-ends_from}
use Rattle.world_model.specs.Accounts.{IsFrontOf}
use Rattle.world_model.specs.FrontLaws.{StandsInWords, FindsAreFronts}
use Rattle.world_model.proofs.PartLemmas.{all_small}

-- the header has more fragments than were finished
front_of : (found : Found) (new : Head) (image : Image) → IsFound found → MayFollow found.head new → new ≡ record { count = image.count; flags = image.flags }
    → 0 < length found.ends → Begins found.sealed image.payload → IsFrontOf found image
front_of found new image is follows same least bytes =
    let count = ap (λ (h : Head). h.count) same in
    let flags = ap (λ (h : Head). h.flags) same in
    let many = is.sealed.count in
    let grows = follows.count_grows in
    record {
      continues = sym (follows.front_stays (λ e. omega (arith, e, many, least))) ∙ ap (λ (n : ℕ). n % 2) flags;
      rest = bytes.0;
      begins = bytes.1;
      some = least;
      more = omega (arith, many, grows, count, least);
    }

completed : (about chunk : ℕ) (found : Found) (content : Content) → IsFound found → StillHas about found (Completed chunk content) → 0 < length found.ends → IsFrontOf found content.image
completed about chunk found content is has least =
    front_of found (record { count = content.image.count; flags = content.image.flags }) content.image is has.1 refl least
    (begins 0 found.sealed content.image.payload has.2 has.3)

held : (about chunk : ℕ) (found : Found) (draft : Draft) (image : Image) → IsFound found → StillHas about found (Held chunk draft) → IsDraft draft → StandsInWords draft image
    → length image.payload < drop_size → 0 < length found.ends → IsFrontOf found image
held about chunk found draft image is has sealed stands small least =
    let frames : List ℕ = flat_map framed stands.before in
    let long : length image.payload ≡ length frames + length stands.rest = ap (λ (xs : List ℕ). length xs) stands.payload ∙ length-append frames stands.rest in
    let below : length frames < 2 ^ 28 = omega (arith, small, long) in
    let frames_are = frames_read (byte_at draft.words) stands.before (all_small stands.before below) stands.bytes in
    let other : List ℕ = ends_from (byte_at draft.words) 0 (length stands.before) in
    let many = length-ends_from (byte_at draft.words) 0 (length stands.before) in
    let head = ap (λ (h : Head). h.count) stands.head in
    let count = stands.count in
    let drafted = sealed.count in
    let grows = ends_grow (byte_at draft.words) draft.ends other sealed.reads frames_are.0 (omega (arith, many, head, count, drafted)) in
    let end = frames_are.1 in
    let within = has.2 in
    let inside : length found.sealed ≤ length frames = omega (arith, grows, end, within) in
    let bytes = begins 0 found.sealed image.payload (omega (arith, inside, long))
    (λ j low. ap (λ (xs : List ℕ). byte_in xs j) stands.payload
    ∙ get_or_append_left frames stands.rest 0 j (omega (arith, inside, low))
    ∙ sym (stands.bytes j (omega (arith, inside, low)))
    ∙ has.3 j low) in
    front_of found draft.head image is has.1 stands.head least bytes

pub finds_are_fronts : FindsAreFronts
finds_are_fronts = record { completed = completed; held = held }
