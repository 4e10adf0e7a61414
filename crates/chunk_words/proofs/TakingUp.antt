-- A take from its step on the state to its last note.
use Rattle.std.proofs.Common.{◌≡◌, ℕ, ◌+◌, ◌/◌, ◌<◌, Some, None, List, [], ◌∷◌, map, vec_len, length, subst, sym, ap, ◌∙◌, arith}
use Rattle.std.proofs.Math.Logic.{∥∥₁_elim}
use Rattle.std.proofs.Math.Nat.{ℕ_set}
use Rattle.std.proofs.lemmas.Grind.{same_number_lists}
use Rattle.page_geometry.specs.declared.chunk_header.ChunkHeader.{ChunkHeader}
use Rattle.page_geometry.specs.Header.{packed}
use Rattle.commit_body.specs.declared.body.CommitBody.{CommitBody}
use Rattle.commit_body.specs.Patches.{patch_value}
use Rattle.chunk_plain.specs.Payload.{byte_in}
use Rattle.chunk_plain.specs.Views.{Head, Content, ServiceView, taken_of}
use Rattle.chunk_plain.specs.Steps.{looks_at, takes_in, learns}
use Rattle.chunk_plain.specs.Owned.{times}
use Rattle.chunk_plain.specs.Shows.{content_of, patches_in}
use Rattle.chunk_plain.proofs.Lists.{times-here}
use Rattle.chunk_plain.proofs.Taking.{content_by}
use Rattle.chunk_plain.specs.Setup.{Setup, from_of}
use Rattle.chunk_words.specs.Knows.{Nothing, Lifted, Knows, hand_with, hand_of, watch_of, service_of, by_service}
use Rattle.chunk_words.specs.Moves.{Mine, body_in, watched, IsSeen, Serves, Takes, LoadsUpTo}
use Rattle.trace_model.specs.Ids.{placed_patches}

-- the seat after the step on the state, after the body came out, and after the loads
module _ (setup : Setup) (place chunk size word : ℕ) (header : ChunkHeader) (me out empty loaded : Mine) (taken full : CommitBody) (bytes : List ℕ)
    (takes : Takes setup place chunk size word header me out) (there : body_in out.1 ≡ Some taken) (emptied : empty ≡ (out.0, (chunk, None) ∷ []))
    (loads : LoadsUpTo chunk ((length bytes + 7) / 8) (length bytes) bytes empty loaded) (many : length bytes ≡ vec_len taken.payload) (some : 0 < size)
    (items_are : full.payload.items ≡ bytes) (patches_are : full.patches ≡ taken.patches) (target_is : full.target ≡ taken.target) where
  abbrev position : ℕ
  position = (taken_of (service_of me.0) place).count

  abbrev head : Head
  head = record { count = header.count; flags = header.flags }

  taken_is : takes.body ≡ taken
  taken_is = let same : Some takes.body ≡ Some taken = sym (ap (λ (m : Mine). body_in m.1) takes.new_is) ∙ there in cc

  empty_known : empty.0 ≡ by_service (hand_with chunk) (Lifted chunk place position takes.content) (λ view. takes_in (looks_at view chunk word (packed header) None) place chunk) me.0
  empty_known = ap (λ (m : Mine). m.0) emptied ∙ ap (λ (m : Mine). m.0) takes.new_is

  watch_is : watch_of empty.0 ≡ Lifted chunk place position takes.content
  watch_is = ap watch_of empty_known

  loads_watch : loads.watch ≡ Lifted chunk place position takes.content
  loads_watch = loads.stays place position takes.content watch_is ∙ watch_is

  size_is : length bytes ≡ size
  size_is = many ∙ (ap (λ (b : CommitBody). vec_len b.payload) (sym taken_is) ∙ takes.with_header.body_is.whole)

  view_is : service_of empty.0 ≡ takes_in (looks_at (service_of me.0) chunk word (packed header) None) place chunk
  view_is = ap service_of empty_known

  reads : 0 < times chunk (service_of empty.0).reading
  reads = let here = times-here chunk (service_of me.0).reading in subst (λ (v : ServiceView). 0 < times chunk v.reading) (sym view_is) (omega (arith, here))

  bytes_are : bytes ≡ takes.content.image.payload
  bytes_are = let size_is' = size_is in let whole = takes.with_header.whole in same_number_lists bytes takes.content.image.payload (size_is ∙ sym takes.with_header.whole) (λ j below.
      ∥∥₁_elim (loads.reading reads (omega arith)) (ℕ_set _ _) (λ on.
      let same : Lifted chunk on.place on.position on.content ≡ Lifted chunk place position takes.content = sym on.watches ∙ loads_watch in
      let content_is : on.content ≡ takes.content = cc in
      on.bytes_are j (omega arith) below ∙ ap (λ (c : Content). byte_in c.image.payload j) content_is))

  content_is : takes.content ≡ content_of (from_of setup place) place position head full
  content_is = content_by takes.content (from_of setup place) place position head full (takes.with_header.position_is, takes.with_header.sequence_is) takes.with_header.head_is (items_are ∙ bytes_are)
      (ap (λ p. placed_patches (from_of setup place) (map patch_value p.value.items)) patches_are ∙ (ap (λ (b : CommitBody). patches_in (from_of setup place) b) (sym taken_is) ∙ takes.with_header.body_is.patches_are))
      (target_is ∙ (ap (λ (b : CommitBody). b.target) (sym taken_is) ∙ takes.with_header.body_is.target_is))

  loaded_known : loaded.0 ≡ by_service (hand_of empty.0) loads.watch (λ view. view) empty.0
  loaded_known = ap (λ (m : Mine). m.0) loads.new_is

  watched_is : watched (watch_of loaded.0) ≡ content_of (from_of setup place) place position head full
  watched_is = ap (λ k. watched (watch_of k)) loaded_known ∙ (ap watched loads_watch ∙ content_is)

  pub take_done : (new : Mine) → Serves (λ view. learns view place (watched (watch_of loaded.0))) loaded new
      → Serves (λ view. learns (takes_in (looks_at view chunk word (packed header) None) place chunk) place (content_of (from_of setup place) place position (record { count = header.count; flags = header.flags }) full)) me new
  take_done new serves =
      let known = loaded_known ∙ ap (λ (k : Knows). by_service (hand_of k) loads.watch (λ view. view) k) empty_known in
      let view = ap service_of loaded_known ∙ view_is in
      record {
        new_is = serves.new_is ∙ (ap (λ c. let m : Mine = (by_service 0 Nothing (λ v. learns v place c) loaded.0, []) in m) watched_is
            ∙ ap (λ (k : Knows). let m : Mine = (by_service 0 Nothing (λ v. learns v place (content_of (from_of setup place) place position head full)) k, []) in m) known);
        seen = subst (λ c. IsSeen (learns (takes_in (looks_at (service_of me.0) chunk word (packed header) None) place chunk) place c)) watched_is
            (subst (λ (v : ServiceView). IsSeen (learns v place (watched (watch_of loaded.0)))) view serves.seen);
      }
