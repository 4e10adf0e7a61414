-- What the end of a schedule leaves: all chunks are taken, all sequences closed.
use Rattle.std.proofs.Common.{◌≡◌, ◌∙◌, ℕ, zero, suc, ◌+◌, ◌<◌, ◌≤◌, ◌⊎◌, Bool, true, false, not, ◌||◌, List, [], ◌∷◌, ◌++◌, length, map, get_or, Some, refl, sym, ap, subst, arith, inl, inr, cond}
use Rattle.std.specs.Prelude.{◌==◌, slice_get}
use Rattle.std.proofs.Math.Logic.{∥∥₁_elim}
use Rattle.std.specs.Coded.{le_prop}
use Rattle.std.proofs.lemmas.Bool.{cases_eq, cases_lt, eq-eqb, false≢true}
use Rattle.std.proofs.Math.Bool.{or-true}
use Rattle.std.proofs.lemmas.List.Sums.{fold-append}
use Rattle.trace_base.specs.declared.policy.WriterSpec.{WriterSpec}
use Rattle.trace_model.specs.Buffers.{Buffer}
use Rattle.trace_model.specs.Calls.{Call, Flushed}
use Rattle.trace_model.specs.Images.{Image}
use Rattle.trace_model.specs.Packets.{Packet, Account, noted, nothing_yet, account_of, is_lost}
use Rattle.chunk_plain.specs.declared.tokens.TheConstants.{POSITION_LIMIT}
use Rattle.chunk_plain.specs.Setup.{Setup, producer_of, sequence_of, IsChunkOf}
use Rattle.chunk_plain.specs.Views.{At, BegunChunk, Held, Completed, Content, Draft, ServiceView, taken_of, WriterView, newcomer}
use Rattle.chunk_plain.specs.World.{World, writer}
use Rattle.chunk_plain.specs.Owned.{IsOwned, held_count}
use Rattle.chunk_plain.proofs.Lists.{at_some}
use Rattle.scenario_text.specs.declared.scenario.ProducerLine.{ProducerLine}
use Rattle.scenario_text.specs.declared.scenario.NumberedLine.{NumberedLine}
use Rattle.scenario_text.specs.Accepted.{is_closed_by}
use Rattle.trace_writer.specs.Claims.{AreOwnChunks}
use Rattle.trace_writer.specs.Core.{last_is_held, holds_newest}
use Rattle.trace_writer.proofs.holding.HeldLaws.{held_last}
use Rattle.service_core.specs.Agreement.{spec_at}
use Rattle.service_core.specs.Closing.{closes_of}
use Rattle.service_core.specs.Taking.{TakesOf, Takes, places_of}
use Rattle.service_core.proofs.TakingLemmas.{taken_here, taken_other}
use Rattle.replay_model.specs.Acts.{Act, Ask}
use Rattle.service_core.specs.Told.{NoneLeft}
use Rattle.replay_model.specs.Does.{Collects, Closes, Asks, Notes, Wrote, is_shut}
use Rattle.replay_model.specs.ActNotes.{ActNote, act_notes}
use Rattle.replay_model.specs.Plays.{Plays}
use Rattle.replay_model.specs.Schedule.{open_places, open_producers}
use Rattle.replay_model.proofs.ScrapedLemmas.{counted, one_held}
use Rattle.replay_model.proofs.SortedLemmas.{IsSorted, Among, shut_append, sorted_took, sorted_takes, open_places_fit, shut_took}
use Rattle.replay_model.proofs.StandsLemmas.{Stands, works_others}

-- ---- parts of a list of acts

pub record IsSplit (setup : Setup) (buffers : List Buffer) (acts others : List Act) (old new : World) : Type 0 where
  pub mid : World
  pub notes : List ActNote
  pub more : List ActNote
  pub first : Plays setup buffers acts old mid notes
  pub second : Plays setup buffers others mid new more

pub plays_split : (setup : Setup) (buffers : List Buffer) (acts others : List Act) (old new : World) (notes : List ActNote)
    → Plays setup buffers (acts ++ others) old new notes → IsSplit setup buffers acts others old new
plays_split setup buffers [] others old new notes plays = record { mid = old; notes = []; more = notes; first = (refl, refl); second = plays }
plays_split setup buffers (act ∷ acts) others old new notes plays =
    let rest = plays_split setup buffers acts others plays.0 new plays.1 plays.5 in
    record {
      mid = rest.mid;
      notes = act_notes setup buffers act old plays.0 ++ rest.notes;
      more = rest.more;
      first = (plays.0, rest.notes, plays.2, plays.3, refl, rest.first);
      second = rest.second;
    }

-- ---- flushes

holds_none : (packets : List Packet) (flushed : Bool) → flushed ≡ true → holds_newest (record { packets = packets; flushed = flushed }) ≡ false
holds_none [] flushed is = refl
holds_none (packet ∷ older) flushed is = ap (λ (b : Bool). not (is_lost packet || b)) is ∙ ap not (or-true (is_lost packet))

flushed_now : (setup : Setup) (place : ℕ) (stopped : Bool) (old new : World) → Notes setup place Flushed stopped old new → (account_of (writer new place).calls).flushed ≡ true
flushed_now setup place false old new is =
    ap (λ (calls : List Call). (account_of calls).flushed) is
    ∙ ap (λ (a : Account). a.flushed) (fold-append noted nothing_yet (writer old place).calls (Flushed ∷ []))
flushed_now setup place true old new h = absurd h.1

none_held : (setup : Setup) (place : ℕ) (view : WriterView) → Wrote setup place view → last_is_held view.begun ≡ false → held_count view.begun ≡ 0
none_held setup place view wrote none = by_held wrote.held refl
  where
    by_held : (held : List Image) → wrote.held ≡ held → held_count view.begun ≡ 0
    by_held [] is =
        let all = counted view.begun in let begun = wrote.begun in let long = ap (λ (xs : List Image). length xs) is in omega (arith, all, begun, long)
    by_held (image ∷ []) is =
        let h = wrote.stands image is in
        absurd (false≢true (sym none ∙ ap last_is_held h.begun ∙ held_last h.completed h.chunk h.draft))
    by_held (one ∷ other ∷ others) is = absurd (wrote.only one other others is)

pub flush_done : (setup : Setup) (place : ℕ) (old new : World) → Asks setup place Flushed old new → held_count (writer new place).begun ≡ 0
flush_done setup place old new asks =
    let view : WriterView = writer new place in
    none_held setup place view asks.wrote (asks.wrote.holds ∙ holds_none (account_of view.calls).packets (account_of view.calls).flushed (flushed_now setup place asks.stopped old new asks.notes))

flush_keeps : (setup : Setup) (place other : ℕ) (old new : World) → Asks setup place Flushed old new → held_count (writer old other).begun ≡ 0 → held_count (writer new other).begun ≡ 0
flush_keeps setup place other old new asks none = by_place (cases_eq other place)
  where
    by_place : (other ≡ place) ⊎ (other ≡ place → ⊥) → held_count (writer new other).begun ≡ 0
    by_place (inl same) = subst (λ (p : ℕ). held_count (writer new p).begun ≡ 0) (sym same) (flush_done setup place old new asks)
    by_place (inr differs) = ap (λ (view : WriterView). held_count view.begun) (works_others setup place old new asks.works other differs) ∙ none

flushes_keep : (setup : Setup) (buffers : List Buffer) (places : List ℕ) (other : ℕ) (old new : World) (notes : List ActNote)
    → Plays setup buffers (map (λ place. Ask place Flushed) places) old new notes → held_count (writer old other).begun ≡ 0 → held_count (writer new other).begun ≡ 0
flushes_keep setup buffers [] other old new notes plays none = ap (λ (w : World). held_count (writer w other).begun) plays.0 ∙ none
flushes_keep setup buffers (place ∷ places) other old new notes plays none =
    flushes_keep setup buffers places other plays.0 new plays.1 plays.5 (flush_keeps setup place other old plays.0 plays.2 none)

pub flushes_done : (setup : Setup) (buffers : List Buffer) (places : List ℕ) (place : ℕ) (old new : World) (notes : List ActNote)
    → Plays setup buffers (map (λ p. Ask p Flushed) places) old new notes → Among place places → held_count (writer new place).begun ≡ 0
flushes_done setup buffers [] place old new notes plays among = absurd among
flushes_done setup buffers (first ∷ places) place old new notes plays (inl same) =
    flushes_keep setup buffers places place plays.0 new plays.1 plays.5
    (subst (λ (p : ℕ). held_count (writer plays.0 p).begun ≡ 0) same (flush_done setup first old plays.0 plays.2))
flushes_done setup buffers (first ∷ places) place old new notes plays (inr among) = flushes_done setup buffers places place plays.0 new plays.1 plays.5 among

pub place_open : (lines : List NumberedLine) (first : ℕ) (specs : List WriterSpec) (i : ℕ) (spec : WriterSpec) → slice_get specs i ≡ Some spec
    → is_closed_by lines spec.producer ≡ false → Among (first + i) (open_places lines first specs)
place_open lines first [] i spec get opened = absurd (cc)
place_open lines first (one ∷ specs) zero spec get opened =
    let same : one ≡ spec = cc in
    let none : is_closed_by lines one.producer ≡ false = ap (λ (s : WriterSpec). is_closed_by lines s.producer) same ∙ opened in
    subst (λ (b : Bool). Among (first + 0) (cond b (open_places lines (suc first) specs) (first ∷ open_places lines (suc first) specs))) (sym none)
    (inl (let at : first ≡ first + 0 = omega arith in at))
place_open lines first (one ∷ specs) (suc i) spec get opened =
    step (is_closed_by lines one.producer)
    (subst (λ (n : ℕ). Among n (open_places lines (suc first) specs)) (let at : suc first + i ≡ first + suc i = omega arith in at) (place_open lines (suc first) specs i spec get opened))
  where
    step : (b : Bool) → Among (first + suc i) (open_places lines (suc first) specs)
        → Among (first + suc i) (cond b (open_places lines (suc first) specs) (first ∷ open_places lines (suc first) specs))
    step true h = h
    step false h = inr h

pub producer_open : (lines : List NumberedLine) (first : ℕ) (producers : List ProducerLine) (i : ℕ) → i < length producers → is_closed_by lines (first + i) ≡ false
    → Among (first + i) (open_producers lines first producers)
producer_open lines first [] i low opened = absurd (omega (arith, low))
producer_open lines first (one ∷ producers) zero low opened =
    let at : first + 0 ≡ first = omega arith in
    let none : is_closed_by lines first ≡ false = ap (is_closed_by lines) (sym at) ∙ opened in
    subst (λ (b : Bool). Among (first + 0) (cond b (open_producers lines (suc first) producers) (first ∷ open_producers lines (suc first) producers))) (sym none) (inl (sym at))
producer_open lines first (one ∷ producers) (suc i) low opened =
    let at : suc first + i ≡ first + suc i = omega arith in
    step (is_closed_by lines first)
    (subst (λ (n : ℕ). Among n (open_producers lines (suc first) producers)) at
    (producer_open lines (suc first) producers i (omega (arith, low)) (ap (is_closed_by lines) at ∙ opened)))
  where
    step : (b : Bool) → Among (first + suc i) (open_producers lines (suc first) producers)
        → Among (first + suc i) (cond b (open_producers lines (suc first) producers) (first ∷ open_producers lines (suc first) producers))
    step true h = h
    step false h = inr h

-- ---- takings

takes_grow : (setup : Setup) (places : List ℕ) (taken : ℕ) (old new : ServiceView) → IsSorted setup old
    → ((p : ℕ) → Among p places → (p < length setup.writers) × (is_shut (sequence_of p) old.events ≡ false)) → Takes setup places taken old new
    → (p : ℕ) → (taken_of old p).count ≤ (taken_of new p).count
takes_grow setup [] taken old new sorted fits takes p = subst (λ (v : ServiceView). (taken_of old p).count ≤ (taken_of v p).count) (sym takes.1) (omega arith)
takes_grow setup (place ∷ places) taken old new sorted fits takes p =
    let mid : ServiceView = takes.2 in
    let of : TakesOf setup place takes.0 old mid = takes.4 in
    let here = fits place (inl refl) in
    let next : IsSorted setup mid = subst (IsSorted setup) (sym of.view) (sorted_took setup old place of.looks of.contents sorted here.0 here.1) in
    let same : (q : ℕ) → is_shut q mid.events ≡ is_shut q old.events =
    λ q. ap (λ (v : ServiceView). is_shut q v.events) of.view ∙ shut_took q old place of.looks of.contents in
    let rest = takes_grow setup places takes.1 mid new next (λ other among. let f = fits other (inr among) in (f.0, same (sequence_of other) ∙ f.1)) takes.5 p in
    let many = sorted.many in
    let low : place < length old.taken = let within = here.0 in omega (arith, within, many) in
    let one = by_place of low (cases_eq p place) in
    omega (arith, rest, one)
  where
    by_place : TakesOf setup place takes.0 old takes.2 → place < length old.taken → (p ≡ place) ⊎ (p ≡ place → ⊥)
        → (taken_of old p).count ≤ (taken_of takes.2 p).count
    by_place of low (inl same) =
        let more : (taken_of takes.2 place).count ≡ (taken_of old place).count + length of.contents =
        ap (λ (v : ServiceView). (taken_of v place).count) of.view ∙ ap (λ t. t.count) (taken_here old place of.looks of.contents low) in
        let before : (taken_of old p).count ≡ (taken_of old place).count = ap (λ (i : ℕ). (taken_of old i).count) same in
        let after : (taken_of takes.2 p).count ≡ (taken_of takes.2 place).count = ap (λ (i : ℕ). (taken_of takes.2 i).count) same in
        omega (arith, more, before, after)
    by_place of low (inr differs) =
        let kept : (taken_of takes.2 p).count ≡ (taken_of old p).count =
        ap (λ (v : ServiceView). (taken_of v p).count) of.view ∙ ap (λ t. t.count) (taken_other old place p of.looks of.contents differs) in
        omega (arith, kept)

pub own_at : (setup : Setup) (producer : ℕ) (begun : List BegunChunk) (i chunk : ℕ) (content : Content) → AreOwnChunks setup producer begun → At begun i (Completed chunk content)
    → IsChunkOf setup producer chunk
own_at setup producer [] i chunk content own at = absurd (cc)
own_at setup producer (Held other draft ∷ begun) zero chunk content own at = absurd (cc)
own_at setup producer (Held other draft ∷ begun) (suc i) chunk content own at = own_at setup producer begun i chunk content own.1 at
own_at setup producer (Completed other one ∷ begun) zero chunk content own at = let same : other ≡ chunk = cc in subst (IsChunkOf setup producer) same own.0
own_at setup producer (Completed other one ∷ begun) (suc i) chunk content own at = own_at setup producer begun i chunk content own.1 at

held_or_completed : (begun : List BegunChunk) (i : ℕ) (one : BegunChunk) → At begun i one
    → ((chunk : ℕ) × (draft : Draft) × At begun i (Held chunk draft)) ⊎ ((chunk : ℕ) × (content : Content) × At begun i (Completed chunk content))
held_or_completed begun i (Held chunk draft) at = inl (chunk, draft, at)
held_or_completed begun i (Completed chunk content) at = inr (chunk, content, at)

-- where a writer holds nothing and nothing of it is complete, all its chunks are taken
all_taken : (setup : Setup) (place : ℕ) (world : World) → IsOwned world → place < length setup.writers → NoneLeft setup (producer_of setup place) world
    → Wrote setup place (writer world place) → held_count (writer world place).begun ≡ 0 → length (writer world place).begun ≤ POSITION_LIMIT
    → length (writer world place).begun ≤ (taken_of world.service place).count
all_taken setup place world owned inside none wrote empty few = by_order (cases_lt (taken_of world.service place).count (length (writer world place).begun))
  where
    by_entry : (taken_of world.service place).count < length (writer world place).begun
        → ((chunk : ℕ) × (draft : Draft) × At (writer world place).begun (taken_of world.service place).count (Held chunk draft))
        ⊎ ((chunk : ℕ) × (content : Content) × At (writer world place).begun (taken_of world.service place).count (Completed chunk content)) → ⊥
    by_entry below (inl h) = let some = one_held (writer world place).begun (taken_of world.service place).count h.0 h.1 h.2 in absurd (omega (arith, some, empty))
    by_entry below (inr h) =
        none place inside refl h.0 h.1 (own_at setup (producer_of setup place) (writer world place).begun (taken_of world.service place).count h.0 h.1 wrote.claims.own_chunks h.2)
        (omega (arith, below, few))
        ((owned.owns place h.0).completed_is (taken_of world.service place).count h.1 h.2 (omega arith))

    by_order : ((taken_of world.service place).count < length (writer world place).begun) ⊎ (length (writer world place).begun ≤ (taken_of world.service place).count)
        → length (writer world place).begun ≤ (taken_of world.service place).count
    by_order (inl below) =
        let some = at_some (writer world place).begun (taken_of world.service place).count below in
        absurd (by_entry below (held_or_completed (writer world place).begun (taken_of world.service place).count some.0 some.1))
    by_order (inr done) = done

-- the writer holds nothing, and all its chunks are taken
pub record IsTakenWhole (world : World) (place : ℕ) : Type 0 where
  pub empty : held_count (writer world place).begun ≡ 0
  pub most : length (writer world place).begun ≤ (taken_of world.service place).count

pub begun_same : (old new : World) (place : ℕ) → new.writers ≡ old.writers → (writer new place).begun ≡ (writer old place).begun
begun_same old new place is = ap (λ (ws : List WriterView). (get_or ws place newcomer).begun) is

whole_still : (old new : World) (place : ℕ) → new.writers ≡ old.writers → (taken_of old.service place).count ≤ (taken_of new.service place).count
    → IsTakenWhole old place → IsTakenWhole new place
whole_still old new place is grows whole =
    let same = begun_same old new place is in
    let long = ap (λ (xs : List BegunChunk). length xs) same in
    let most = whole.most in
    record { empty = ap held_count same ∙ whole.empty; most = omega (arith, long, grows, most) }

pub collects_whole : (setup : Setup) (producer place : ℕ) (old new : World) → Stands setup old → Collects setup producer old new → IsTakenWhole old place → IsTakenWhole new place
collects_whole setup producer place old new stands collects whole =
    whole_still old new place collects.writers
    (takes_grow setup (places_of producer 0 setup.writers) collects.taken old.service new.service stands.sorted (open_places_fit setup producer old.service collects.opened) collects.takes place) whole

pub closes_whole : (setup : Setup) (producer place : ℕ) (old new : World) → Stands setup old → Closes setup producer old new → IsTakenWhole old place → IsTakenWhole new place
closes_whole setup producer place old new stands closes whole =
    let grows = takes_grow setup (places_of producer 0 setup.writers) closes.taken old.service closes.closes.between stands.sorted
    (open_places_fit setup producer old.service closes.opened) closes.closes.takes place in
    let same : (taken_of new.service place).count ≡ (taken_of closes.closes.between place).count = ap (λ (v : ServiceView). (taken_of v place).count) closes.closes.view in
    whole_still old new place closes.writers (omega (arith, grows, same)) whole

-- the taking of its producer takes all of a writer that holds nothing
pub collect_takes : (setup : Setup) (place : ℕ) (old new : World) → Stands setup new → ∥ IsOwned new ∥₁ → place < length setup.writers
    → Collects setup (producer_of setup place) old new → held_count (writer new place).begun ≡ 0 → length (writer new place).begun ≤ POSITION_LIMIT → IsTakenWhole new place
collect_takes setup place old new stands owned inside collects empty few = record {
  empty = empty;
  most = ∥∥₁_elim owned (hlevel le_prop) (λ (is : IsOwned new). all_taken setup place new is inside collects.none_left (stands.wrote place inside) empty few);
}

-- ---- closes

pub place_of_producer : (producer first : ℕ) (specs : List WriterSpec) (i : ℕ) → i < length specs → (spec_at specs i).producer ≡ producer
    → Among (first + i) (places_of producer first specs)
place_of_producer producer first [] i low mine = absurd (omega (arith, low))
place_of_producer producer first (spec ∷ specs) zero low mine =
    let own : (spec.producer == producer) ≡ true = eq-eqb spec.producer producer mine in
    subst (λ (b : Bool). Among (first + 0) (cond b (first ∷ places_of producer (suc first) specs) (places_of producer (suc first) specs))) (sym own)
    (inl (let at : first ≡ first + 0 = omega arith in at))
place_of_producer producer first (spec ∷ specs) (suc i) low mine =
    step (spec.producer == producer)
    (subst (λ (n : ℕ). Among n (places_of producer (suc first) specs)) (let at : suc first + i ≡ first + suc i = omega arith in at)
    (place_of_producer producer (suc first) specs i (omega (arith, low)) mine))
  where
    step : (b : Bool) → Among (first + suc i) (places_of producer (suc first) specs)
        → Among (first + suc i) (cond b (first ∷ places_of producer (suc first) specs) (places_of producer (suc first) specs))
    step true h = inr h
    step false h = h

shut_among : (place : ℕ) (places : List ℕ) → Among place places → is_shut (sequence_of place) (closes_of places) ≡ true
shut_among place [] among = absurd among
shut_among place (first ∷ places) (inl same) =
    ap (λ (b : Bool). b || is_shut (sequence_of place) (closes_of places)) (eq-eqb (sequence_of first) (sequence_of place) (ap sequence_of same))
shut_among place (first ∷ places) (inr among) =
    ap (λ (b : Bool). (sequence_of first == sequence_of place) || b) (shut_among place places among) ∙ or-true (sequence_of first == sequence_of place)

pub closes_shut : (setup : Setup) (place : ℕ) (old new : World) → place < length setup.writers → Closes setup (producer_of setup place) old new
    → is_shut (sequence_of place) new.service.events ≡ true
closes_shut setup place old new inside closes =
    let places : List ℕ = places_of (producer_of setup place) 0 setup.writers in
    let at : 0 + place ≡ place = omega arith in
    let among : Among place places = subst (λ (n : ℕ). Among n places) at (place_of_producer (producer_of setup place) 0 setup.writers place inside refl) in
    ap (λ (v : ServiceView). is_shut (sequence_of place) v.events) closes.closes.view
    ∙ shut_append (sequence_of place) closes.closes.between.events (closes_of places)
    ∙ ap (λ (b : Bool). is_shut (sequence_of place) closes.closes.between.events || b) (shut_among place places among)
    ∙ or-true (is_shut (sequence_of place) closes.closes.between.events)

-- what is closed stays so
pub closes_shut_still : (setup : Setup) (producer q : ℕ) (old new : World) → Stands setup old → Closes setup producer old new
    → is_shut q old.service.events ≡ true → is_shut q new.service.events ≡ true
closes_shut_still setup producer q old new stands closes shut =
    let mid = sorted_takes setup (places_of producer 0 setup.writers) closes.taken old.service closes.closes.between stands.sorted (open_places_fit setup producer old.service closes.opened) closes.closes.takes in
    ap (λ (v : ServiceView). is_shut q v.events) closes.closes.view
    ∙ shut_append q closes.closes.between.events (closes_of (places_of producer 0 setup.writers))
    ∙ ap (λ (b : Bool). b || is_shut q (closes_of (places_of producer 0 setup.writers))) (mid.1 q ∙ shut)
