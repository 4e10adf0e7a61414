-- What a history asks of a buffer is no more than the lines say.
use Rattle.std.proofs.Common.{◌≡◌, ◌∙◌, ℕ, zero, suc, ◌+◌, ◌-◌, ◌*◌, ◌<◌, ◌≤◌, Bool, true, false, List, [], ◌∷◌, length, Some, refl, sym, ap, subst, arith, cond}
use Rattle.std.specs.Prelude.{◌==◌, slice_get}
use Rattle.std.proofs.Math.Nat.{le-mul_of_pos_right, mul-le-mul_right}
use Rattle.std.proofs.lemmas.Bool.{eq-eqb, false≢true}
use Rattle.std.proofs.lemmas.Option.{slice_get_within}
use Rattle.trace_base.specs.declared.policy.WriterSpec.{WriterSpec}
use Rattle.trace_base.proofs.Choices.{match_either}
use Rattle.page_geometry.specs.Sizes.{record_size}
use Rattle.trace_model.specs.Enough.{most_chunks}
use Rattle.trace_model.specs.Images.{Patch}
use Rattle.trace_model.specs.Pages.{Page}
use Rattle.trace_model.specs.Packets.{emissions_of}
use Rattle.trace_model.specs.History.{Event, Arrives, ArrivesInPart, Patched, Committed, Closed, Read}
use Rattle.trace_model.specs.Sequences.{Sequence, fresh, is_known}
use Rattle.delivery_laws.specs.Orders as orders
use Rattle.delivery_laws.specs.Room.{wanted, EachBelow}
use Rattle.delivery_laws.specs.Sheets.{Sheet}
use Rattle.delivery_laws.specs.WriterSheets.{sheets_from}
use Rattle.chunk_plain.specs.Setup.{Setup, size_of}
use Rattle.chunk_plain.specs.World.{World, writer}
use Rattle.world_model.specs.FirstBuffers.{sequences_from}
use Rattle.scenario_text.specs.declared.scenario.ProducerLine.{ProducerLine}
use Rattle.scenario_text.specs.declared.scenario.NumberedLine.{NumberedLine}
use Rattle.scenario_text.specs.Accepted.{calls_asked}
use Rattle.service_core.specs.Agreement.{spec_at}
use Rattle.replay_model.proofs.RoomLemmas.{payload_for, bytes_from}

-- ---- only so many chunks of each sequence come

-- of this sequence no chunk comes but the first so many
abbrev pub BelowAt : (q n : ℕ) → List Event → Type 0
BelowAt q n [] = Unit {0}
BelowAt q n (Arrives sequence chunk_id chunk ∷ events) = (sequence ≡ q → chunk_id < n) × BelowAt q n events
BelowAt q n (ArrivesInPart sequence chunk_id chunk ∷ events) = (sequence ≡ q → chunk_id < n) × BelowAt q n events
BelowAt q n (Committed image patches ∷ events) = (image.sequence ≡ q → image.chunk_id < n) × BelowAt q n events
BelowAt q n (Patched sequence patches ∷ events) = BelowAt q n events
BelowAt q n (Closed sequence ∷ events) = BelowAt q n events
BelowAt q n (Read sequence limit ∷ events) = BelowAt q n events

never : (one other : ℕ) → (one == other) ≡ false → one ≡ other → ⊥
never one other apart same = false≢true (sym apart ∙ eq-eqb one other same)

pub order_below : (sheets : List Sheet) (q n : ℕ) → length sheets ≤ n → (events : List Event) (come : ℕ) (closed : Bool) (due : List Patch)
    → orders.InOrder sheets q come closed due events → BelowAt q n events
order_below sheets q n few [] come closed due order = tt
order_below sheets q n few (Arrives other id chunk ∷ events) come closed due order =
    match_either (other == q) _ _ _ order.1
    (λ same h. (
      (λ e. let low = slice_get_within sheets come h.2 h.3 in let at = h.1 in omega (arith, low, few, at)),
      order_below sheets q n few events (suc come) closed h.2.patches h.5,
    ))
    (λ apart h. ((λ e. absurd (never other q apart e)), order_below sheets q n few events come closed [] h))
order_below sheets q n few (ArrivesInPart other id chunk ∷ events) come closed due order =
    match_either (other == q) _ _ _ order.1
    (λ same h. (
      (λ e. let low = slice_get_within sheets come h.2.sheet h.2.there in let at = h.1 in omega (arith, low, few, at)),
      order_below sheets q n few events come closed [] h.3,
    ))
    (λ apart h. ((λ e. absurd (never other q apart e)), order_below sheets q n few events come closed [] h))
order_below sheets q n few (Patched other patches ∷ events) come closed due order =
    match_either (other == q) _ _ (BelowAt q n events) order
    (λ same h. order_below sheets q n few events come closed [] h.1) (λ apart h. order_below sheets q n few events come closed [] h.1)
order_below sheets q n few (Committed image patches ∷ events) come closed due order =
    ((λ e. absurd (never image.sequence q order.1 e)), order_below sheets q n few events come closed [] order.2)
order_below sheets q n few (Closed other ∷ events) come closed due order =
    match_either (other == q) _ _ (BelowAt q n events) order.1
    (λ same h. order_below sheets q n few events come true [] h.1) (λ apart h. order_below sheets q n few events come closed [] h)
order_below sheets q n few (Read other limit ∷ events) come closed due order = order_below sheets q n few events come closed [] order.1

pub sheets_long : (patches : List Patch) (id : ℕ) (goes : Bool) (pages : List Page) → length (sheets_from patches id goes pages) ≡ length pages
sheets_long patches id goes [] = refl
sheets_long patches id goes (page ∷ []) = refl
sheets_long patches id goes (page ∷ next ∷ pages) = ap suc (sheets_long patches (suc id) goes (next ∷ pages))

pub each_below : (chunks : ℕ → ℕ) (sequences : List Sequence) (events : List Event) → ((q : ℕ) → is_known sequences q ≡ true → BelowAt q (chunks q) events)
    → EachBelow chunks sequences events
each_below chunks sequences [] below = tt
each_below chunks sequences (Arrives other id chunk ∷ events) below =
    ((λ known. (below other known).0 refl), each_below chunks sequences events (λ q known. (below q known).1))
each_below chunks sequences (ArrivesInPart other id chunk ∷ events) below =
    ((λ known. (below other known).0 refl), each_below chunks sequences events (λ q known. (below q known).1))
each_below chunks sequences (Committed image patches ∷ events) below =
    ((λ known. (below image.sequence known).0 refl), each_below chunks sequences events (λ q known. (below q known).1))
each_below chunks sequences (Patched other patches ∷ events) below = each_below chunks sequences events below
each_below chunks sequences (Closed other ∷ events) below = each_below chunks sequences events below
each_below chunks sequences (Read other limit ∷ events) below = each_below chunks sequences events below

-- ---- the bytes

-- how many chunks of a sequence a writer has begun
abbrev pub begun_of : World → ℕ → ℕ
begun_of world sequence = length (writer world (sequence - 2)).begun

pub wanted_few : (lines : List NumberedLine) (producers : List ProducerLine) (setup : Setup) (world : World) (buffer place : ℕ) (specs : List WriterSpec)
    → ((j : ℕ) → j < length specs → (size_of setup (spec_at specs j).producer ≡ payload_for producers (spec_at specs j))
    × (length (writer world (place + j)).begun ≤ most_chunks (payload_for producers (spec_at specs j)) (emissions_of (calls_asked (suc (place + j)) lines))))
    → wanted (begun_of world) (sequences_from setup buffer place specs) ≤ bytes_from lines producers buffer (suc place) specs
wanted_few lines producers setup world buffer place [] fits = omega arith
wanted_few lines producers setup world buffer place (spec ∷ specs) fits =
    step (spec.buffer == buffer)
    (wanted_few lines producers setup world buffer (suc place) specs
    (λ j low. subst (λ (p : ℕ). (size_of setup (spec_at specs j).producer ≡ payload_for producers (spec_at specs j))
    × (length (writer world p).begun ≤ most_chunks (payload_for producers (spec_at specs j)) (emissions_of (calls_asked (suc p) lines))))
    (let at : place + suc j ≡ suc place + j = omega arith in at) (fits (suc j) (omega (arith, low)))))
  where
    here : length (writer world (place + 2 - 2)).begun * record_size (size_of setup spec.producer)
        ≤ most_chunks (payload_for producers spec) (emissions_of (calls_asked (suc place) lines)) * record_size (payload_for producers spec)
    here =
        let first = fits 0 (omega arith) in
        let at : place + 0 ≡ place = omega arith in
        let back : place + 2 - 2 ≡ place + 0 = omega arith in
        let few : length (writer world (place + 2 - 2)).begun ≤ most_chunks (payload_for producers spec) (emissions_of (calls_asked (suc place) lines)) =
        subst (λ (p : ℕ). length (writer world p).begun ≤ most_chunks (payload_for producers spec) (emissions_of (calls_asked (suc place) lines))) (sym back)
        (subst (λ (p : ℕ). length (writer world (place + 0)).begun ≤ most_chunks (payload_for producers spec) (emissions_of (calls_asked (suc p) lines))) at first.1) in
        subst (λ (size : ℕ). length (writer world (place + 2 - 2)).begun * record_size size
        ≤ most_chunks (payload_for producers spec) (emissions_of (calls_asked (suc place) lines)) * record_size (payload_for producers spec)) (sym first.0)
        (mul-le-mul_right (record_size (payload_for producers spec)) few)

    step : (b : Bool) → wanted (begun_of world) (sequences_from setup buffer (suc place) specs) ≤ bytes_from lines producers buffer (suc (suc place)) specs
        → wanted (begun_of world)
        (cond b (fresh (place + 2) (record_size (size_of setup spec.producer)) spec.from ∷ sequences_from setup buffer (suc place) specs) (sequences_from setup buffer (suc place) specs))
        ≤ cond b (most_chunks (payload_for producers spec) (emissions_of (calls_asked (suc place) lines)) * record_size (payload_for producers spec)) 0
        + bytes_from lines producers buffer (suc (suc place)) specs
    step true rest = let one = here in omega (arith, one, rest)
    step false rest = omega (arith, rest)

-- one writer alone
pub bytes_least : (lines : List NumberedLine) (producers : List ProducerLine) (buffer number : ℕ) (specs : List WriterSpec) (i : ℕ) (spec : WriterSpec) → slice_get specs i ≡ Some spec
    → spec.buffer ≡ buffer
    → most_chunks (payload_for producers spec) (emissions_of (calls_asked (number + i) lines)) * record_size (payload_for producers spec)
    ≤ bytes_from lines producers buffer number specs
bytes_least lines producers buffer number [] i spec get own = absurd (cc)
bytes_least lines producers buffer number (one ∷ specs) zero spec get own =
    let same : one ≡ spec = cc in
    let at : number + 0 ≡ number = omega arith in
    let bytes : ℕ = most_chunks (payload_for producers one) (emissions_of (calls_asked number lines)) * record_size (payload_for producers one) in
    let is : cond (one.buffer == buffer) bytes 0 ≡ bytes = ap (λ (b : Bool). cond b bytes 0) (eq-eqb one.buffer buffer (ap (λ (s : WriterSpec). s.buffer) same ∙ own)) in
    let equal : most_chunks (payload_for producers spec) (emissions_of (calls_asked (number + 0) lines)) * record_size (payload_for producers spec) ≡ bytes =
    ap (λ (n : ℕ). most_chunks (payload_for producers spec) (emissions_of (calls_asked n lines)) * record_size (payload_for producers spec)) at
    ∙ ap (λ (s : WriterSpec). most_chunks (payload_for producers s) (emissions_of (calls_asked number lines)) * record_size (payload_for producers s)) (sym same) in
    omega (arith, is, equal)
bytes_least lines producers buffer number (one ∷ specs) (suc i) spec get own =
    let rest = bytes_least lines producers buffer (suc number) specs i spec get own in
    let at : number + suc i ≡ suc number + i = omega arith in
    let equal : most_chunks (payload_for producers spec) (emissions_of (calls_asked (number + suc i) lines)) * record_size (payload_for producers spec)
    ≡ most_chunks (payload_for producers spec) (emissions_of (calls_asked (suc number + i) lines)) * record_size (payload_for producers spec) =
    ap (λ (n : ℕ). most_chunks (payload_for producers spec) (emissions_of (calls_asked n lines)) * record_size (payload_for producers spec)) at in
    omega (arith, rest, equal)

some_bytes : (payload : ℕ) → 0 < record_size payload
some_bytes payload = omega arith

pub chunks_few : (n payload bytes : ℕ) → n * record_size payload ≤ bytes → n ≤ bytes
chunks_few n payload bytes few = let more = le-mul_of_pos_right n (some_bytes payload) in omega (arith, more, few)
