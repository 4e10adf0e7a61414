-- A line that makes a flush request, and later one that reads the writer's buffer without limit, are a flush that is taken and read.
use Rattle.std.proofs.Common.{◌≡◌, ◌≢◌, ◌∙◌, ℕ, zero, suc, ◌+◌, ◌-◌, ◌<◌, ◌≤◌, Bool, true, false, List, [], ◌∷◌, ◌++◌, length, map, Some, refl, sym, ap, subst, arith, inl, inr, cond, append_assoc, append-nil, length-append}
use Rattle.std.specs.Prelude.{slice_get, MatchBool}
use Rattle.std.proofs.lemmas.Bool.{false≢true}
use Rattle.std.proofs.lemmas.Option.{slice_get_within, slice_get-get_or}
use Rattle.trace_base.specs.declared.policy.WriterSpec.{WriterSpec}
use Rattle.trace_model.specs.Buffers.{Buffer}
use Rattle.trace_model.specs.Calls.{Call, Flushed}
use Rattle.trace_model.specs.Causes.{fixed_after}
use Rattle.trace_model.specs.Counts.{last_count}
use Rattle.trace_model.specs.Delivery.{Delivered, records_of}
use Rattle.trace_model.specs.Pages.{Page}
use Rattle.trace_model.specs.Written.{chains_of}
use Rattle.delivery_laws.specs.FlushLaws.{IsFlushed, AreSettled}
use Rattle.trace_model.specs.Enough.{most_chunks}
use Rattle.trace_model.specs.Images.{Image}
use Rattle.trace_model.specs.Packets.{Packet, packets_of, is_writing, emissions_in, emissions_of, begun_count}
use Rattle.trace_model.proofs.PageLemmas.{images_long}
use Rattle.model_laws.specs.Losses.{HasShapeOf}
use Rattle.model_laws.proofs.ChunkCountLemmas.{every_page_is_counted}
use Rattle.model_laws.proofs.LossLemmas.{losses_change_no_shape}
use Rattle.chunk_plain.specs.declared.tokens.TheConstants.{POSITION_LIMIT}
use Rattle.chunk_plain.specs.Plain.{first_world}
use Rattle.chunk_plain.specs.Setup.{Setup, producer_of, size_of, sequence_of, no_writer}
use Rattle.chunk_plain.specs.Views.{WriterView, taken_of}
use Rattle.chunk_plain.specs.World.{World, writer}
use Rattle.chunk_plain.specs.Owned.{IsOwned, held_count}
use Rattle.chunk_plain.specs.Histories.{completed_images, history_of}
use Rattle.chunk_plain.proofs.MadeLemmas.{first_owned}
use Rattle.world_model.specs.Accounts.{NoneCommitted}
use Rattle.world_model.specs.FirstBuffers.{payload_at}
use Rattle.scenario_text.specs.declared.scenario.NumberedLine.{NumberedLine}
use Rattle.scenario_text.specs.declared.scenario.LineKind.{LineKind}
use Rattle.scenario_text.specs.declared.scenario.LineKind.TheVariants as line
use Rattle.scenario_text.specs.Scenario.{Parts}
use Rattle.scenario_text.specs.Accepted.{calls_asked, is_closed_by}
use Rattle.scenario_text.specs.Limits.{IsSetUp, IsWriter}
use Rattle.scenario_text.specs.Raws.{HasNoRaw, has_raw}
use Rattle.service_core.specs.Agreement.{spec_at}
use Rattle.replay_model.specs.Acts.{Act, Ask, Request, Answer, Collect, ReadAll}
use Rattle.replay_model.specs.Does.{Asks}
use Rattle.replay_model.specs.ActNotes.{ActNote}
use Rattle.replay_model.specs.FlushLaws.{AreFew, has_committed, known_in, raw_records, IsFlushRead, HasSettled, EveryRequestIsSettled}
use Rattle.replay_model.specs.Plays.{Plays}
use Rattle.replay_model.specs.Played.{IsSetupOf, buffers_of, first_buffer, records_in}
use Rattle.replay_model.specs.Schedule.{open_producers, open_places, acts_of, acts_from}
use Rattle.replay_model.proofs.AccountLemmas.{many_writers}
use Rattle.replay_model.proofs.BalanceLemmas.{each_is}
use Rattle.replay_model.proofs.EndLemmas.{IsSplit, plays_split, flush_done, producer_open}
use Rattle.replay_model.proofs.FirstLemmas.{small_payload, first_stands}
use Rattle.replay_model.proofs.FlushLemmas.{known_at, sum_known, every_flush_is_settled}
use Rattle.replay_model.proofs.LosesLemmas.{lines_lose}
use Rattle.replay_model.proofs.RawLemmas.{none_is_committed, lines_committed_none}
use Rattle.replay_model.proofs.ReadOutLemmas.{sum_all, sum_both, sum_less, begun_sum}
use Rattle.replay_model.proofs.NoneLostLemmas.{large_sizes, as_many}
use Rattle.replay_model.proofs.PhaseLemmas.{collect_phase}
use Rattle.replay_model.proofs.PlayLemmas.{plays_both}
use Rattle.replay_model.proofs.PlayedLemmas.{plays_stand, setup_writers}
use Rattle.replay_model.proofs.PlayedOnLemmas.{LeaveAlone, flush_packets, flush_calls, plays_alone}
use Rattle.replay_model.proofs.ScrapedLemmas.{counted}
use Rattle.replay_model.proofs.SortedLemmas.{Among}
use Rattle.replay_model.proofs.StandsLemmas.{Stands, stands_does}

-- ---- records of writers in whose names lines commit chunks

abbrev raw_at : List NumberedLine → List Delivered → (place : ℕ) → ℕ
raw_at lines records place = cond (has_raw (suc place) lines) (length (records_of (sequence_of place) records)) 0

sum_raw : (lines : List NumberedLine) (records : List Delivered) (place : ℕ) (specs : List WriterSpec)
    → sum_all (raw_at lines records) place specs ≡ raw_records lines records place specs
sum_raw lines records place [] = refl
sum_raw lines records place (spec ∷ specs) = ap (λ (n : ℕ). raw_at lines records place + n) (sum_raw lines records (suc place) specs)

-- ---- the acts of lines, in parts

pub lines_split : (scenario : Parts) (before xs ys : List NumberedLine) → acts_from scenario before (xs ++ ys) ≡ acts_from scenario before xs ++ acts_from scenario (before ++ xs) ys
lines_split scenario before [] ys = ap (λ (ls : List NumberedLine). acts_from scenario ls ys) (sym (append-nil before))
lines_split scenario before (l ∷ xs) ys =
    ap (λ (acts : List Act). acts_of scenario before l.what ++ acts)
    (lines_split scenario (before ++ l ∷ []) xs ys ∙ ap (λ (ls : List NumberedLine). acts_from scenario (before ++ l ∷ []) xs ++ acts_from scenario ls ys) (append_assoc before (l ∷ []) xs))
    ∙ sym (append_assoc (acts_of scenario before l.what) (acts_from scenario (before ++ l ∷ []) xs) (acts_from scenario (before ++ l ∷ xs) ys))

-- ---- the places of open producers

-- the writer at this place is among these, once
record IsPlaceIn (place : ℕ) (places : List ℕ) : Type 0 where
  first : List ℕ
  others : List ℕ
  is : places ≡ first ++ place ∷ others
  below : (p : ℕ) → Among p first → p < place
  above : (p : ℕ) → Among p others → place < p

open_from : (lines : List NumberedLine) (first : ℕ) (specs : List WriterSpec) (p : ℕ) → Among p (open_places lines first specs) → first ≤ p
open_from lines first [] p among = absurd among
open_from lines first (spec ∷ specs) p among = step (is_closed_by lines spec.producer) among (open_from lines (suc first) specs p)
  where
    step : (b : Bool) → Among p (cond b (open_places lines (suc first) specs) (first ∷ open_places lines (suc first) specs))
        → (Among p (open_places lines (suc first) specs) → suc first ≤ p) → first ≤ p
    step true among later = let low = later among in omega (arith, low)
    step false (inl same) later = omega (arith, same)
    step false (inr among) later = let low = later among in omega (arith, low)

open_place : (lines : List NumberedLine) (first : ℕ) (specs : List WriterSpec) (i : ℕ) (spec : WriterSpec) → slice_get specs i ≡ Some spec
    → is_closed_by lines spec.producer ≡ false → IsPlaceIn (first + i) (open_places lines first specs)
open_place lines first [] i spec get opened = absurd (cc)
open_place lines first (one ∷ specs) zero spec get opened =
    let same : one ≡ spec = cc in
    let at : first + 0 ≡ first = omega arith in
    let open_here : is_closed_by lines one.producer ≡ false = ap (λ (s : WriterSpec). is_closed_by lines s.producer) same ∙ opened in
    subst (λ (p : ℕ). IsPlaceIn p (open_places lines first (one ∷ specs))) (sym at)
    (record {
      first = [];
      others = open_places lines (suc first) specs;
      is = ap (λ (b : Bool). cond b (open_places lines (suc first) specs) (first ∷ open_places lines (suc first) specs)) open_here;
      below = λ p among. absurd among;
      above = λ p among. open_from lines (suc first) specs p among;
    })
open_place lines first (one ∷ specs) (suc i) spec get opened =
    let at : suc first + i ≡ first + suc i = omega arith in
    step (is_closed_by lines one.producer) (subst (λ (p : ℕ). IsPlaceIn p (open_places lines (suc first) specs)) at (open_place lines (suc first) specs i spec get opened))
  where
    step : (b : Bool) → IsPlaceIn (first + suc i) (open_places lines (suc first) specs)
        → IsPlaceIn (first + suc i) (cond b (open_places lines (suc first) specs) (first ∷ open_places lines (suc first) specs))
    step true rest = rest
    step false rest = record {
      first = first ∷ rest.first;
      others = rest.others;
      is = ap (λ (ps : List ℕ). first ∷ ps) rest.is;
      below = λ p among. by_first p among;
      above = rest.above;
    }
      where
        by_first : (p : ℕ) → Among p (first ∷ rest.first) → p < first + suc i
        by_first p (inl same) = omega (arith, same)
        by_first p (inr among) = rest.below p among

-- answers of others leave the writer alone, and so do takings
answers_alone : (place : ℕ) (places : List ℕ) (more : List Act) → ((p : ℕ) → Among p places → p ≢ place) → LeaveAlone place more → LeaveAlone place (map Answer places ++ more)
answers_alone place [] more differs alone = alone
answers_alone place (p ∷ places) more differs alone = (differs p (inl refl), answers_alone place places more (λ q among. differs q (inr among)) alone)

collects_alone : (place : ℕ) (producers : List ℕ) → LeaveAlone place (map Collect producers)
collects_alone place [] = tt
collects_alone place (producer ∷ producers) = collects_alone place producers

map_split : (f : ℕ → Act) (xs ys : List ℕ) → map f (xs ++ ys) ≡ map f xs ++ map f ys
map_split f [] ys = refl
map_split f (x ∷ xs) ys = ap (λ (acts : List Act). f x ∷ acts) (map_split f xs ys)

-- ---- a writer that flushes

pub match_false : (P Q : Type 0) (b : Bool) → b ≡ false → MatchBool b P Q → Q
match_false P Q true e h = absurd (cc)
match_false P Q false e h = h

-- what is settled is said of the calls alone
settled_same : (scenario : Parts) (setup : Setup) (place : ℕ) (asked other read : World) → writer other place ≡ writer asked place
    → HasSettled scenario setup place other read → HasSettled scenario setup place asked read
settled_same scenario setup place asked other read same settled =
    let calls : (writer other place).calls ≡ (writer asked place).calls = ap (λ (v : WriterView). v.calls) same in
    record {
      wrote = settled.wrote;
      pages = settled.pages;
      flushed = subst (λ (cs : List Call). IsFlushed (payload_at setup place) (writer read place).calls settled.wrote.cut.cut.pages cs settled.pages) calls settled.flushed;
      settled = subst (λ (cs : List Call). AreSettled (fixed_after (sequence_of place) (first_buffer scenario setup place) (history_of read.service)) (packets_of cs) (chains_of settled.pages))
          calls settled.settled;
    }

-- what a flushed writer has begun is what its packets take at most
pub flushed_few : (setup : Setup) (place : ℕ) (old new : World) → Asks setup place Flushed old new → is_writing (packets_of (writer old place).calls) ≡ false → 7 < payload_at setup place
    → length (writer new place).begun ≤ most_chunks (payload_at setup place) (emissions_of (writer old place).calls)
flushed_few setup place old new asks ended large =
    let size : ℕ = payload_at setup place in
    let calls = flush_calls setup place old new asks in
    let packets : packets_of (writer new place).calls ≡ packets_of (writer old place).calls = ap packets_of calls ∙ flush_packets (writer old place).calls in
    let pages : List Page = asks.wrote.cut.cut.pages in
    let counted = every_page_is_counted size (writer new place).calls pages asks.wrote.cut.cut.cut asks.wrote.cut.possible (ap is_writing packets ∙ ended) large in
    let emitted : most_chunks size (emissions_of (writer new place).calls) ≡ most_chunks size (emissions_of (writer old place).calls) =
    ap (λ (ps : List Packet). most_chunks size (emissions_in ps)) packets in
    let begun = asks.wrote.begun in
    let images = ap (λ (xs : List Image). length xs) asks.wrote.cut.cut.images_are in
    let both = length-append (completed_images (writer new place).begun) asks.wrote.held in
    let long = images_long (sequence_of place) 0 pages in
    omega (arith, counted, emitted, begun, images, both, long)

module _ (scenario : Parts) (setup : Setup) (is_setup : IsSetupOf scenario setup) (set_up : IsSetUp scenario.buffers scenario.producers scenario.writers)
    (place : ℕ) (inside : place < length setup.writers) where
  abbrev buffers : List Buffer
  buffers = buffers_of scenario setup

  writer_there : slice_get scenario.writers place ≡ Some (spec_at setup.writers place)
  writer_there =
      sym (ap (λ (specs : List WriterSpec). slice_get specs place) (setup_writers scenario setup is_setup)) ∙ slice_get-get_or setup.writers place no_writer inside

  is_writer : IsWriter scenario.buffers scenario.producers (spec_at setup.writers place)
  is_writer = each_is (IsWriter scenario.buffers scenario.producers) scenario.writers place (spec_at setup.writers place) set_up.are_writers writer_there

  pub large : 7 < payload_at setup place
  large =
      let least = large_sizes is_setup.specs ((spec_at setup.writers place).producer - 1)
      (as_many scenario.producers is_setup.specs ((spec_at setup.writers place).producer - 1) is_writer.of_producer is_setup.made is_writer.producer_is) in
      let same = ap (λ (s : Setup). size_of s (spec_at setup.writers place).producer) is_setup.laid in
      omega (arith, least, same)

  among_open : (before : List NumberedLine) → is_closed_by before (producer_of setup place) ≡ false → Among (producer_of setup place) (open_producers before 1 scenario.producers)
  among_open before opened =
      let least = is_writer.counts_producer in
      let at : 1 + ((spec_at setup.writers place).producer - 1) ≡ (spec_at setup.writers place).producer = omega (arith, least) in
      let low = slice_get_within scenario.producers ((spec_at setup.writers place).producer - 1) is_writer.of_producer is_writer.producer_is in
      subst (λ (n : ℕ). Among n (open_producers before 1 scenario.producers)) at
      (producer_open before 1 scenario.producers ((spec_at setup.writers place).producer - 1) low (ap (is_closed_by before) at ∙ opened))

  -- no more packets are known than there are lines, and records of writers in whose names lines commit chunks
  pub known_few : (lines : List NumberedLine) (world : World) (notes : List ActNote) → Plays setup (buffers_of scenario setup) (acts_from scenario [] lines) (first_world setup) world notes
      → known_in world.service (records_in scenario setup world) 0 world.writers ≤ length lines + raw_records lines (records_in scenario setup world) 0 scenario.writers
  known_few lines world notes plays =
      let stands = plays_stand setup buffers (acts_from scenario [] lines) (first_world setup) world notes plays (first_stands setup (small_payload scenario setup is_setup)) ∣ first_owned setup ∣₁ in
      let sum = sum_known world (records_in scenario setup world) setup.writers (many_writers setup world stands.1 stands.0) in
      let less = sum_less (known_at world (records_in scenario setup world)) (λ p. begun_count (calls_asked (suc p) lines) + raw_at lines (records_in scenario setup world) p) 0 setup.writers
      (λ p. each_few p (has_raw (suc p) lines) refl) in
      let both = sum_both (λ p. begun_count (calls_asked (suc p) lines)) (raw_at lines (records_in scenario setup world)) 0 setup.writers in
      let most = begun_sum lines setup.writers in
      let raws = sum_raw lines (records_in scenario setup world) 0 setup.writers in
      let specs = ap (raw_records lines (records_in scenario setup world) 0) (setup_writers scenario setup is_setup) in
      omega (arith, sum, less, both, most, raws, specs)
    where
      each_few : (p : ℕ) (raw : Bool) → has_raw (suc p) lines ≡ raw
          → known_at world (records_in scenario setup world) p ≤ begun_count (calls_asked (suc p) lines) + raw_at lines (records_in scenario setup world) p
      each_few p raw is = by_raw raw is (has_committed world.service (sequence_of p)) refl
        where
          begun : begun_count (writer world p).calls ≡ begun_count (calls_asked (suc p) lines)
          begun = (losses_change_no_shape (calls_asked (suc p) lines) (writer world p).calls (lines_lose scenario setup buffers lines world notes plays p)).begun

          by_raw : (raw : Bool) → has_raw (suc p) lines ≡ raw → (committed : Bool) → has_committed world.service (sequence_of p) ≡ committed
              → known_at world (records_in scenario setup world) p ≤ begun_count (calls_asked (suc p) lines) + raw_at lines (records_in scenario setup world) p
          by_raw raw is false none =
              let here : known_at world (records_in scenario setup world) p ≡ begun_count (writer world p).calls =
              ap (λ (b : Bool). cond b (length (records_of (sequence_of p) (records_in scenario setup world))) (begun_count (writer world p).calls)) none in
              let same = begun in
              omega (arith, here, same)
          by_raw true is true some =
              let here : known_at world (records_in scenario setup world) p ≡ length (records_of (sequence_of p) (records_in scenario setup world)) =
              ap (λ (b : Bool). cond b (length (records_of (sequence_of p) (records_in scenario setup world))) (begun_count (writer world p).calls)) some in
              let there : raw_at lines (records_in scenario setup world) p ≡ length (records_of (sequence_of p) (records_in scenario setup world)) =
              ap (λ (b : Bool). cond b (length (records_of (sequence_of p) (records_in scenario setup world))) 0) is in
              omega (arith, here, there)
          by_raw false is true some =
              absurd (false≢true
              (sym (none_is_committed world.service (sequence_of p) (lines_committed_none scenario setup buffers lines world notes p plays is)) ∙ some))

  module _ (acts : List Act) (asked : World) (notes : List ActNote) (plays : Plays setup buffers acts (first_world setup) asked notes) where
    at_asked : Stands setup asked × ∥ IsOwned asked ∥₁
    at_asked = plays_stand setup buffers acts (first_world setup) asked notes plays (first_stands setup (small_payload scenario setup is_setup)) ∣ first_owned setup ∣₁

    -- the writer flushes, others answer, and the open producers' chunks are taken
    taken_met : (answered taken : World) (others producers : List ℕ) (more : List ActNote) → Asks setup place Flushed asked answered → ∥ IsOwned answered ∥₁
        → is_writing (packets_of (writer asked place).calls) ≡ false
        → most_chunks (payload_at setup place) (emissions_of (writer asked place).calls) ≤ POSITION_LIMIT
        → ((p : ℕ) → Among p others → p ≢ place) → Among (producer_of setup place) producers
        → Plays setup buffers (map Answer others ++ map Collect producers) answered taken more
        → length (completed_images (writer answered place).begun) ≤ (taken_of taken.service place).count
    taken_met answered taken others producers more asks owned ended few apart among on =
        let split = plays_split setup buffers (map Answer others) (map Collect producers) answered taken more on in
        let stands : Stands setup answered = stands_does setup buffers (Ask place Flushed) asked answered asks owned at_asked.0 in
        let mid = plays_stand setup buffers (map Answer others) answered split.mid split.notes split.first stands owned in
        let same : writer split.mid place ≡ writer answered place =
        plays_alone setup buffers (map Answer others) answered split.mid split.notes place split.first
        (subst (LeaveAlone place) (append-nil (map Answer others)) (answers_alone place others [] apart tt)) in
        let long = ap (λ (v : WriterView). length v.begun) same in
        let begun = flushed_few setup place asked answered asks ended large in
        let none = flush_done setup place asked answered asks in
        let whole = collect_phase setup buffers producers place split.mid taken split.more split.second mid.0 inside among
        (ap (λ (v : WriterView). held_count v.begun) same ∙ none) (omega (arith, long, begun, few)) in
        let still : writer taken place ≡ writer split.mid place =
        plays_alone setup buffers (map Collect producers) split.mid taken split.more place split.second (collects_alone place producers) in
        let last = ap (λ (v : WriterView). length v.begun) still in
        let most = whole.most in
        let all = counted (writer answered place).begun in
        omega (arith, long, last, most, all)

  module _ (before between : List NumberedLine) (request last : NumberedLine) (world : World) (notes : List ActNote)
      (plays : Plays setup buffers (acts_from scenario [] (before ++ (request ∷ (between ++ (last ∷ []))))) (first_world setup) world notes)
      (opened : is_closed_by before (producer_of setup place) ≡ false) (request_is : request.what ≡ line.Request)
      (last_is : last.what ≡ line.Read (spec_at setup.writers place).buffer last_count) where
    producers : List ℕ
    producers = open_producers before 1 scenario.producers

    among : IsPlaceIn place (open_places before 0 scenario.writers)
    among =
        let at : 0 + place ≡ place = omega arith in
        subst (λ (p : ℕ). IsPlaceIn p (open_places before 0 scenario.writers)) at (open_place before 0 scenario.writers place (spec_at setup.writers place) writer_there opened)

    abbrev reading : Act
    reading = ReadAll (spec_at setup.writers place).buffer last_count

    abbrev onward : List Act
    onward = acts_from scenario (before ++ request ∷ []) between

    -- what the line of the request does, at this writer's answer
    request_acts : acts_of scenario before request.what
        ≡ Request ∷ (map Answer among.first ++ (Answer place ∷ (map Answer among.others ++ map Collect (open_producers before 1 scenario.producers))))
    request_acts =
        ap (acts_of scenario before) request_is
        ∙ ap (λ (ps : List ℕ). Request ∷ (map Answer ps ++ map Collect (open_producers before 1 scenario.producers))) among.is
        ∙ ap (λ (acts : List Act). Request ∷ (acts ++ map Collect (open_producers before 1 scenario.producers))) (map_split Answer among.first (place ∷ among.others))
        ∙ ap (λ (acts : List Act). Request ∷ acts) (append_assoc (map Answer among.first) (map Answer (place ∷ among.others)) (map Collect (open_producers before 1 scenario.producers)))

    rest_acts : acts_from scenario (before ++ request ∷ []) (between ++ last ∷ []) ≡ onward ++ reading ∷ []
    rest_acts =
        lines_split scenario (before ++ request ∷ []) between (last ∷ [])
        ∙ ap (λ (kind : LineKind). onward ++ (acts_of scenario ((before ++ request ∷ []) ++ between) kind ++ [])) last_is

    all_acts : acts_from scenario [] (before ++ (request ∷ (between ++ (last ∷ []))))
        ≡ acts_from scenario [] before
        ++ (Request ∷ (map Answer among.first ++ (Answer place ∷ ((map Answer among.others ++ map Collect (open_producers before 1 scenario.producers)) ++ (onward ++ (reading ∷ []))))))
    all_acts =
        lines_split scenario [] before (request ∷ (between ++ (last ∷ [])))
        ∙ ap (λ (acts : List Act). acts_from scenario [] before ++ (acts ++ acts_from scenario (before ++ request ∷ []) (between ++ last ∷ []))) request_acts
        ∙ ap (λ (acts : List Act). acts_from scenario [] before
        ++ ((Request ∷ (map Answer among.first ++ (Answer place ∷ (map Answer among.others ++ map Collect (open_producers before 1 scenario.producers))))) ++ acts)) rest_acts
        ∙ ap (λ (acts : List Act). acts_from scenario [] before ++ (Request ∷ acts))
        (append_assoc (map Answer among.first) (Answer place ∷ (map Answer among.others ++ map Collect (open_producers before 1 scenario.producers))) (onward ++ reading ∷ []))

    whole : IsSplit setup buffers (acts_from scenario [] before)
        (Request ∷ (map Answer among.first ++ (Answer place ∷ ((map Answer among.others ++ map Collect (open_producers before 1 scenario.producers)) ++ (onward ++ (reading ∷ []))))))
        (first_world setup) world
    whole = plays_split setup buffers (acts_from scenario [] before) _ (first_world setup) world notes
        (subst (λ (acts : List Act). Plays setup buffers acts (first_world setup) world notes) all_acts plays)

    few_known : known_in world.service (records_in scenario setup world) 0 world.writers
        ≤ length (before ++ (request ∷ (between ++ (last ∷ []))))
        + raw_records (before ++ (request ∷ (between ++ (last ∷ [])))) (records_in scenario setup world) 0 scenario.writers
    few_known = known_few (before ++ (request ∷ (between ++ (last ∷ [])))) world notes plays

    pub settled : AreFew scenario (before ++ (request ∷ (between ++ (last ∷ [])))) (records_in scenario setup world)
        → HasNoRaw (before ++ (request ∷ (between ++ (last ∷ [])))) place → is_writing (packets_of (calls_asked (suc place) before)) ≡ false
        → most_chunks (payload_at setup place) (emissions_of (calls_asked (suc place) before)) ≤ POSITION_LIMIT
        → (asked : World) × (earlier : List ActNote) × Plays setup buffers (acts_from scenario [] before) (first_world setup) asked earlier
        × HasSettled scenario setup place asked world
    settled few_lines none ended_by_lines few_ids = (whole.mid, whole.notes, whole.first, by_request (shape.writing ∙ ended_by_lines) few_chunks)
      where
        few : known_in world.service (records_in scenario setup world) 0 world.writers ≤ last_count
        few = let known = few_known in omega (arith, known, few_lines)

        free : NoneCommitted world.service (sequence_of place)
        free = lines_committed_none scenario setup buffers (before ++ (request ∷ (between ++ (last ∷ [])))) world notes place plays none

        shape : HasShapeOf (calls_asked (suc place) before) (writer whole.mid place).calls
        shape = losses_change_no_shape (calls_asked (suc place) before) (writer whole.mid place).calls (lines_lose scenario setup buffers before whole.mid whole.notes whole.first place)

        few_chunks : most_chunks (payload_at setup place) (emissions_of (writer whole.mid place).calls) ≤ POSITION_LIMIT
        few_chunks = subst (λ (es : List (List ℕ)). most_chunks (payload_at setup place) es ≤ POSITION_LIMIT) (sym shape.emitted) few_ids

        by_request : is_writing (packets_of (writer whole.mid place).calls) ≡ false
            → most_chunks (payload_at setup place) (emissions_of (writer whole.mid place).calls) ≤ POSITION_LIMIT → HasSettled scenario setup place whole.mid world
        by_request ended ids =
            let made : World = whole.second.0 in
            let firsts = plays_split setup buffers (map Answer among.first) _ whole.second.0 world whole.second.1 whole.second.5 in
            let asked : World = firsts.mid in
            let same : writer firsts.mid place ≡ writer whole.mid place =
            plays_alone setup buffers (map Answer among.first) whole.second.0 firsts.mid firsts.notes place firsts.first
            (subst (LeaveAlone place) (append-nil (map Answer among.first))
            (answers_alone place among.first [] (λ p is e. let low = among.below p is in absurd (omega (arith, low, e))) tt))
            ∙ ap (λ (w : World). writer w place) whole.second.2 in
            let ended_now : is_writing (packets_of (writer firsts.mid place).calls) ≡ false = ap (λ (v : WriterView). is_writing (packets_of v.calls)) same ∙ ended in
            let ids_now : most_chunks (payload_at setup place) (emissions_of (writer firsts.mid place).calls) ≤ POSITION_LIMIT =
            subst (λ (v : WriterView). most_chunks (payload_at setup place) (emissions_of v.calls) ≤ POSITION_LIMIT) (sym same) ids in
            let asks : Asks setup place Flushed firsts.mid firsts.second.0 =
            match_false (firsts.second.0 ≡ firsts.mid) (Asks setup place Flushed firsts.mid firsts.second.0) (is_writing (packets_of (writer firsts.mid place).calls)) ended_now firsts.second.2 in
            let taking = plays_split setup buffers (map Answer among.others ++ map Collect (open_producers before 1 scenario.producers)) (onward ++ reading ∷ [])
            firsts.second.0 world firsts.second.1 firsts.second.5 in
            let going = plays_split setup buffers onward (reading ∷ []) taking.mid world taking.more taking.second in
            let up_to : Plays setup buffers (acts_from scenario [] before ++ (Request ∷ map Answer among.first)) (first_world setup) firsts.mid _ =
            plays_both setup buffers (acts_from scenario [] before) (Request ∷ map Answer among.first) (first_world setup) whole.mid firsts.mid whole.notes _ whole.first
            (whole.second.0, firsts.notes, whole.second.2, whole.second.3, refl, firsts.first) in
            let apart : (p : ℕ) → Among p among.others → p ≢ place = λ p is e. let high = among.above p is in absurd (omega (arith, high, e)) in
            let flush : IsFlushRead setup buffers place firsts.mid going.second.0 = record {
              answered = firsts.second.0;
              taken = taking.mid;
              reading = going.mid;
              ended = ended_now;
              answers = asks;
              owned_then = firsts.second.3;
              between = map Answer among.others ++ map Collect (open_producers before 1 scenario.producers);
              notes = taking.notes;
              takes = taking.first;
              met = taken_met (acts_from scenario [] before ++ (Request ∷ map Answer among.first)) firsts.mid _ up_to firsts.second.0 taking.mid among.others
                  (open_producers before 1 scenario.producers) taking.notes asks firsts.second.3 ended_now ids_now apart (among_open before opened) taking.first;
              onward = onward;
              later = going.notes;
              goes_on = going.first;
              reads = going.second.2;
              owned_now = going.second.3;
            } in
            let end : world ≡ going.second.0 = going.second.5.0 in
            let few_now : known_in going.second.0.service (records_in scenario setup going.second.0) 0 going.second.0.writers ≤ last_count =
            subst (λ (w : World). known_in w.service (records_in scenario setup w) 0 w.writers ≤ last_count) end few in
            let free_now : NoneCommitted going.second.0.service (sequence_of place) = subst (λ (w : World). NoneCommitted w.service (sequence_of place)) end free in
            subst (HasSettled scenario setup place whole.mid) (sym end)
            (settled_same scenario setup place whole.mid firsts.mid going.second.0 same
            (every_flush_is_settled scenario setup is_setup set_up (acts_from scenario [] before ++ (Request ∷ map Answer among.first)) firsts.mid going.second.0 _ up_to place inside flush free_now few_now))

pub every_request_is_settled : EveryRequestIsSettled
every_request_is_settled scenario setup is_setup set_up before between request last world notes plays place inside opened request_is last_is few none ended ids =
    settled scenario setup is_setup set_up place inside before between request last world notes plays opened request_is last_is few none ended ids
