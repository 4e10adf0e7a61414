-- Where chunks and bytes are enough, and all has come and was read, no packet is missing.
use Rattle.std.proofs.Common.{◌≡◌, ◌∙◌, ℕ, suc, ◌+◌, ◌-◌, ◌*◌, ◌<◌, ◌≤◌, All, Bool, true, false, List, [], ◌∷◌, length, Some, refl, sym, ap, subst, arith, cond}
use Rattle.std.specs.Prelude.{◌==◌, slice_get}
use Rattle.std.proofs.Math.Nat.{mul-le-mul_right}
use Rattle.std.proofs.lemmas.Bool.{eq-eqb}
use Rattle.std.proofs.lemmas.List.{length-map}
use Rattle.std.proofs.lemmas.Option.{slice_get_within}
use Rattle.trace_base.specs.declared.policy.WriterSpec.{WriterSpec}
use Rattle.page_geometry.specs.Sizes.{record_size}
use Rattle.trace_model.specs.Buffers.{Buffer, empty_buffer}
use Rattle.trace_model.specs.Calls.{Call}
use Rattle.trace_model.specs.Cut.{newest_goes_on}
use Rattle.trace_model.specs.Enough.{most_chunks}
use Rattle.trace_model.specs.History.{Event, delivered_to}
use Rattle.trace_model.specs.Packets.{packets_of, bodies_of, emissions_of, begun_count}
use Rattle.trace_model.specs.Pages.{patches_of}
use Rattle.trace_model.specs.Reads.{Delivery}
use Rattle.trace_model.specs.Record.{record_of}
use Rattle.trace_model.specs.Sequences.{Sequence, fresh, is_known}
use Rattle.trace_model.specs.Walks.{is_accepted}
use Rattle.model_laws.proofs.TextSizes.{all_finished}
use Rattle.delivery_laws.specs.Finishing.{Finishes}
use Rattle.delivery_laws.specs.Room.{asked, wanted}
use Rattle.delivery_laws.proofs.EnoughLemmas.{every_packet_is_delivered}
use Rattle.delivery_laws.proofs.AskLemmas.{every_ask_is_counted}
use Rattle.chunk_plain.specs.Setup.{Setup, IsLaid, size_of}
use Rattle.chunk_plain.specs.World.{World, writer}
use Rattle.chunk_plain.specs.Histories.{history_of}
use Rattle.chunk_plain.specs.Owned.{IsOwned}
use Rattle.world_model.specs.FirstBuffers.{BufferSpec, payload_at, sequences_from, first_buffers}
use Rattle.world_model.proofs.FaithfulLemmas.{order_events}
use Rattle.world_model.proofs.MakingLemmas.{set_at, known_range}
use Rattle.world_model.proofs.ProjectLemmas.{once_writes}
use Rattle.service_core.specs.Agreement.{spec_at}
use Rattle.replay_model.specs.Written.{HasWritten}
use Rattle.replay_model.proofs.AccountLemmas.{pages_begun}
use Rattle.replay_model.proofs.BytesLemmas.{BelowAt, order_below, sheets_long, each_below, begun_of}
use Rattle.replay_model.proofs.CompleteLemmas.{once_here}
use Rattle.replay_model.proofs.LostLemmas.{all_whole}
use Rattle.schedule_laws.specs.Resting.{AreBetweenCalls, AreNotedInOrder}
use Rattle.schedule_laws.specs.EnoughLaws.{HasChunksEnough, IsReadOut, EnoughMissesNothing, bytes_from}
use Rattle.schedule_laws.proofs.AccountLemmas.{owned_behind, many_behind, in_order}
use Rattle.schedule_laws.proofs.BetweenLemmas.{has_written}
use Rattle.schedule_laws.proofs.EnoughLemmas.{begun_few, none_is_lost}
use Rattle.schedule_laws.proofs.ReportLemmas.{account_in}

-- ---- the bytes of what writers began

wanted_few : (setup : Setup) (world : World) (buffer place : ℕ) (specs : List WriterSpec)
    → ((j : ℕ) → j < length specs → length (writer world (place + j)).begun ≤ most_chunks (size_of setup (spec_at specs j).producer) (emissions_of (writer world (place + j)).calls))
    → wanted (begun_of world) (sequences_from setup buffer place specs) ≤ bytes_from setup world buffer place specs
wanted_few setup world buffer place [] few = omega arith
wanted_few setup world buffer place (spec ∷ specs) few =
    step (spec.buffer == buffer)
    (wanted_few setup world buffer (suc place) specs
    (λ j low. subst (λ (p : ℕ). length (writer world p).begun ≤ most_chunks (size_of setup (spec_at specs j).producer) (emissions_of (writer world p).calls))
    (let at : place + suc j ≡ suc place + j = omega arith in at) (few (suc j) (omega (arith, low)))))
  where
    here : length (writer world (place + 2 - 2)).begun * record_size (size_of setup spec.producer)
        ≤ most_chunks (size_of setup spec.producer) (emissions_of (writer world place).calls) * record_size (size_of setup spec.producer)
    here =
        let first = few 0 (omega arith) in
        let at : place + 0 ≡ place = omega arith in
        let back : place + 2 - 2 ≡ place = omega arith in
        let one : length (writer world place).begun ≤ most_chunks (size_of setup spec.producer) (emissions_of (writer world place).calls) =
        subst (λ (p : ℕ). length (writer world p).begun ≤ most_chunks (size_of setup spec.producer) (emissions_of (writer world p).calls)) at first in
        let moved : length (writer world (place + 2 - 2)).begun ≤ most_chunks (size_of setup spec.producer) (emissions_of (writer world place).calls) =
        subst (λ (p : ℕ). length (writer world p).begun ≤ most_chunks (size_of setup spec.producer) (emissions_of (writer world place).calls)) (sym back) one in
        mul-le-mul_right (record_size (size_of setup spec.producer)) moved

    step : (b : Bool) → wanted (begun_of world) (sequences_from setup buffer (suc place) specs) ≤ bytes_from setup world buffer (suc place) specs
        → wanted (begun_of world)
        (cond b (fresh (place + 2) (record_size (size_of setup spec.producer)) spec.from ∷ sequences_from setup buffer (suc place) specs) (sequences_from setup buffer (suc place) specs))
        ≤ cond b (most_chunks (size_of setup spec.producer) (emissions_of (writer world place).calls) * record_size (size_of setup spec.producer)) 0
        + bytes_from setup world buffer (suc place) specs
    step true rest = let one = here in omega (arith, one, rest)
    step false rest = omega (arith, rest)

-- ---- one writer

module _ (setup : Setup) (buffers : List BufferSpec) (world : World) (laid : IsLaid setup) (owned : IsOwned world) (many : length world.writers ≡ length setup.writers)
    (between : AreBetweenCalls setup world) (noted : AreNotedInOrder setup world.service) (enough : HasChunksEnough setup world)
    (place : ℕ) (spec : WriterSpec) (get : slice_get setup.writers place ≡ Some spec)
    (accepted : All (λ (body : List ℕ). is_accepted body ≡ true) (bodies_of (writer world place).calls)) (out : IsReadOut setup buffers world place spec) where
  abbrev sequences : List Sequence
  sequences = sequences_from setup spec.buffer 0 setup.writers

  abbrev first : Buffer
  first = empty_buffer out.buffer.size out.buffer.policy (sequences_from setup spec.buffer 0 setup.writers)

  abbrev history : List Event
  history = history_of world.service

  abbrev calls : List Call
  calls = (writer world place).calls

  inside : place < length setup.writers
  inside = slice_get_within setup.writers place spec get

  wrote : (p : ℕ) → p < length setup.writers → HasWritten setup p (writer world p)
  wrote p low = has_written setup p (writer world p) laid (between p low)

  -- of each sequence no more chunks come than its writer began
  below : (q : ℕ) → is_known (sequences_from setup spec.buffer 0 setup.writers) q ≡ true → BelowAt q (begun_of world q) (history_of world.service)
  below q known =
      let range = known_range setup spec.buffer 0 setup.writers q known in
      let least = range.0 in
      let most = range.1 in
      let low : q - 2 < length setup.writers = omega (arith, least, most) in
      let one = wrote (q - 2) low in
      let counts = owned.counts (q - 2) in
      let order = order_events (payload_at setup (q - 2)) (q - 2) (writer world (q - 2)) one.held one.cut world.service counts.learnt
      (λ n chunk content at. (counts.named n chunk content at).0) (λ n look found at is. (owned.looks n look found at is).0)
      world.service.events 0 false [] (in_order setup world (q - 2) owned one (noted (q - 2) low)) in
      let long = sheets_long (patches_of one.cut.cut.pages) 0 (newest_goes_on (packets_of (writer world (q - 2)).calls)) one.cut.cut.pages in
      let pages = pages_begun setup (q - 2) (writer world (q - 2)) one in
      let back : q - 2 + 2 ≡ q = omega (arith, least) in
      subst (λ (s : ℕ). BelowAt s (length (writer world (q - 2)).begun) (history_of world.service)) back
      (order_below _ (q - 2 + 2) (length (writer world (q - 2)).begun) (omega (arith, long, pages)) (history_of world.service) 0 false [] order)

  fits : asked (empty_buffer out.buffer.size out.buffer.policy (sequences_from setup spec.buffer 0 setup.writers)) (history_of world.service) ≤ out.buffer.size
  fits =
      let few = wanted_few setup world spec.buffer 0 setup.writers
      (λ j low.
      let at : j ≡ 0 + j = omega arith in
      let both = begun_few setup world laid owned many between enough j low in
      subst (λ (p : ℕ). length (writer world p).begun ≤ most_chunks (size_of setup (spec_at setup.writers j).producer) (emissions_of (writer world p).calls)) at (omega (arith, both))) in
      let room = out.room in
      let one = every_ask_is_counted out.buffer.size out.buffer.policy sequences (begun_of world) history (each_below (begun_of world) sequences history below)
      (omega (arith, few, room)) in
      omega (arith, few, room, one)

  pub delivered_all : length (delivered_to (place + 2) (empty_buffer out.buffer.size out.buffer.policy (sequences_from setup spec.buffer 0 setup.writers)) (history_of world.service))
      ≡ length (emissions_of (writer world place).calls)
  delivered_all =
      let one = wrote place inside in
      let set = set_at setup place spec get spec.buffer in
      let named = eq-eqb spec.buffer spec.buffer refl in
      let account = account_in setup world place owned one (noted place inside) sequences (record_size (size_of setup spec.producer)) (set.known ∙ named) (set.start named) in
      let none = none_is_lost setup world laid owned many between enough place inside in
      let whole = all_whole (packets_of calls) none (all_finished calls one.cut.possible (enough.between place inside)) in
      let finishes : Finishes (place + 2) (length one.cut.cut.pages) (begun_count calls) 0 false history =
      subst (λ (n : ℕ). Finishes (place + 2) n (begun_count calls) 0 false history) (pages_begun setup place (writer world place) one) out.finishes in
      every_packet_is_delivered (payload_at setup place) calls one.cut.cut.pages out.buffer.size out.buffer.policy sequences (place + 2)
      (record_size (size_of setup spec.producer)) history account whole accepted finishes fits

pub enough_misses_nothing : EnoughMissesNothing
enough_misses_nothing setup buffers moves world laid schedule between noted enough place spec get accepted out =
    let owned = owned_behind setup moves world schedule in
    let many = many_behind setup moves world schedule in
    let least = out.least in
    let all = delivered_all setup buffers world laid owned many between noted enough place spec get accepted out in
    let first : Buffer = empty_buffer out.buffer.size out.buffer.policy (sequences_from setup spec.buffer 0 setup.writers) in
    let once = once_here setup place spec get 1 buffers (spec.buffer - 1) out.buffer out.named (omega (arith, least)) in
    let records = ap (λ (xs : List (List ℕ)). length xs) (once_writes (place + 2) (history_of world.service) first (first_buffers setup 1 buffers) once) in
    let long = length-map (delivered_to (place + 2) first (history_of world.service)) (λ (delivery : Delivery). record_of delivery.body (place + 2) delivery.marked) in
    omega (arith, records, long, all)
