-- What acts keep: what the service has of chunks, the calls that writers have noted, and a writer that is left alone.
use Rattle.std.proofs.Common.{◌≡◌, ◌≢◌, ◌∙◌, ℕ, suc, ◌+◌, ◌-◌, ◌<◌, ◌⊎◌, Bool, true, false, List, [], ◌∷◌, ◌++◌, length, get_or, Option, Some, None, refl, sym, ap, subst, arith, inl, inr, cond, append_assoc, append-nil}
use Rattle.std.specs.Prelude.{◌==◌, slice_get, MatchBool}
use Rattle.std.specs.List.{flat_map}
use Rattle.std.proofs.lemmas.Bool.{cases_eq, eq-eqb, eqb-true}
use Rattle.std.proofs.lemmas.List.Sums.{fold-append}
use Rattle.trace_base.proofs.Choices.{match_either}
use Rattle.trace_model.specs.Buffers.{Buffer}
use Rattle.trace_model.specs.Calls.{Call, Flushed}
use Rattle.trace_model.specs.Packets.{Account, packets_of, nothing_yet, noted, is_writing}
use Rattle.trace_model.specs.Reading.{Reading, Fragments, Unreadable, reading_of}
use Rattle.trace_model.specs.History as model
use Rattle.trace_model.specs.History.{Event, buffers_after}
use Rattle.delivery_laws.specs.FlushLaws.{arrivals_of}
use Rattle.chunk_plain.specs.Setup.{Setup, sequence_of}
use Rattle.chunk_plain.specs.Steps.{notes_commit}
use Rattle.chunk_plain.specs.Views.{Content, Committed, Found, Noted, Arrive, Partial, Patched, Closed, Read, Commit, ServiceView, WriterView, newcomer}
use Rattle.chunk_plain.specs.World.{World, writer}
use Rattle.chunk_plain.specs.Histories as histories
use Rattle.chunk_plain.specs.Histories.{content_at, found_among, once_read, happened, history_of}
use Rattle.chunk_plain.specs.Owned.{IsOwned}
use Rattle.world_model.specs.FirstBuffers.{payload_at}
use Rattle.service_core.specs.Agreement.{buffer_of}
use Rattle.service_core.specs.Order.{Stage, LeadTo}
use Rattle.service_core.specs.Reading.{noted_read, reads_in}
use Rattle.service_core.specs.Closing.{closes_of}
use Rattle.service_core.specs.Scraping.{parts_held}
use Rattle.service_core.specs.Looking.{looked}
use Rattle.service_core.specs.Taking.{Takes, TakesOf, places_of}
use Rattle.service_core.proofs.CloseLemmas.{noted_grows, committed_grows}
use Rattle.service_core.proofs.HistoryLemmas.{Grows}
use Rattle.service_core.proofs.TakingLemmas.{took_grows, looked_grows}
use Rattle.service_core.proofs.QuietLemmas.{grow_both}
use Rattle.replay_model.specs.Acts.{Act, Ask, Request, Answer, Collect, Scrape, CloseProducer, ReadAll, CommitRaw}
use Rattle.replay_model.specs.Does.{Does, LeavesRest, Collects, Tries, Gains, Again, Ends, Works, Alone, Helped, Tried, Lost, Asks, Notes, Wrote, dropped_call, is_shut}
use Rattle.replay_model.specs.ActNotes.{ActNote}
use Rattle.replay_model.specs.Plays.{Plays}
use Rattle.replay_model.specs.Raws.{raw_commit}
use Rattle.replay_model.proofs.FinishLemmas.{arrives_one}
use Rattle.replay_model.proofs.OwnedLemmas.{owned_itself, named, learnt}
use Rattle.replay_model.proofs.SortedLemmas.{IsSorted, Among, sorted_took, shut_took, open_places_fit}
use Rattle.replay_model.proofs.StandsLemmas.{Stands, stands_does, sorted_collects, own_sorted, tries_sorted, works_others}

-- ---- what the service has

grows_same : (view : ServiceView) → Grows view view
grows_same view = record { contents = λ s i content is. is; looks = λ p i n found is. is; commits = λ k committed is. is }

takes_grow : (setup : Setup) (places : List ℕ) (taken : ℕ) (old new : ServiceView) → IsSorted setup old
    → ((p : ℕ) → Among p places → (p < length setup.writers) × (is_shut (sequence_of p) old.events ≡ false)) → Takes setup places taken old new → Grows old new
takes_grow setup [] taken old new sorted fits takes = subst (Grows old) (sym takes.1) (grows_same old)
takes_grow setup (place ∷ places) taken old new sorted fits takes =
    let mid : ServiceView = takes.2 in
    let of : TakesOf setup place takes.0 old mid = takes.4 in
    let here = fits place (inl refl) in
    let next : IsSorted setup mid = subst (IsSorted setup) (sym of.view) (sorted_took setup old place of.looks of.contents sorted here.0 here.1) in
    let same : (q : ℕ) → is_shut q mid.events ≡ is_shut q old.events =
    λ q. ap (λ (v : ServiceView). is_shut q v.events) of.view ∙ shut_took q old place of.looks of.contents in
    let rest = takes_grow setup places takes.1 mid new next (λ other among. let f = fits other (inr among) in (f.0, same (sequence_of other) ∙ f.1)) takes.5 in
    let many = sorted.many in
    let low : place < length old.taken = let within = here.0 in omega (arith, within, many) in
    grow_both old mid new (subst (Grows old) (sym of.view) (took_grows old place of.looks of.contents low)) rest

collects_grow : (setup : Setup) (producer : ℕ) (old new : World) → IsSorted setup old.service → Collects setup producer old new → Grows old.service new.service
collects_grow setup producer old new sorted collects =
    takes_grow setup (places_of producer 0 setup.writers) collects.taken old.service new.service sorted (open_places_fit setup producer old.service collects.opened) collects.takes

own_grows : {place : ℕ} (old new : World) → LeavesRest place old new → Grows old.service new.service
own_grows old new leaves = subst (Grows old.service) (sym leaves.service) (grows_same old.service)

-- own steps, and a taking behind them
own_collects : (setup : Setup) (producer : ℕ) {place : ℕ} (old asking freed : World) → LeavesRest place old asking → IsSorted setup old.service
    → Collects setup producer asking freed → Grows old.service freed.service
own_collects setup producer old asking freed leaves sorted collects =
    grow_both old.service asking.service freed.service (own_grows old asking leaves)
    (collects_grow setup producer asking freed (own_sorted setup old asking leaves sorted) collects)

tries_grow : (setup : Setup) (place : ℕ) {call : Call} {left : ℕ} {stopped : Bool} (old new : World) → Tries setup place call left stopped old new → IsSorted setup old.service
    → Grows old.service new.service
tries_grow setup place old new (Gains left chunk _ _ leaves claims) sorted = own_grows old new leaves
tries_grow setup place old new (Again left stopped _ asking freed _ round vain holds collects owned rest) sorted =
    grow_both old.service freed.service new.service (own_collects setup _ old asking freed round.leaves sorted collects)
    (tries_grow setup place freed new rest (sorted_collects setup _ asking freed (own_sorted setup old asking round.leaves sorted) collects))
tries_grow setup place old new (Ends _ _ round vain) sorted = own_grows old new round.leaves

works_grow : (setup : Setup) (place : ℕ) {call : Call} {stopped : Bool} (old new : World) → Works setup place call stopped old new → IsSorted setup old.service
    → Grows old.service new.service
works_grow setup place old new (Alone _ _ leaves) sorted = own_grows old new leaves
works_grow setup place old new (Helped stopped _ before asking freed _ may stalls leaves round out collects owned some rest) sorted =
    let here : IsSorted setup before.service = own_sorted setup old before leaves sorted in
    grow_both old.service before.service new.service (own_grows old before leaves)
    (grow_both before.service freed.service new.service (own_collects setup _ before asking freed round.leaves here collects)
    (works_grow setup place freed new rest (sorted_collects setup _ asking freed (own_sorted setup before asking round.leaves here) collects)))
works_grow setup place old new (Tried stopped _ before gained _ tries may policy leaves tried rest) sorted =
    let here : IsSorted setup before.service = own_sorted setup old before leaves sorted in
    grow_both old.service before.service new.service (own_grows old before leaves)
    (grow_both before.service gained.service new.service (tries_grow setup place before gained tried here)
    (works_grow setup place gained new rest (tries_sorted setup place before gained tried here)))
works_grow setup place old new (Lost _ before last _ may losing leaves tried ends asked) sorted =
    grow_both old.service before.service new.service (own_grows old before leaves)
    (grow_both before.service last.service new.service (tries_grow setup place before last tried (own_sorted setup old before leaves sorted))
    (own_grows last new ends))

answer_grows : (setup : Setup) (place : ℕ) (old new : World) (b : Bool) → MatchBool b (new ≡ old) (Asks setup place Flushed old new) → IsSorted setup old.service
    → Grows old.service new.service
answer_grows setup place old new true same sorted = subst (λ (w : World). Grows old.service w.service) (sym same) (grows_same old.service)
answer_grows setup place old new false asks sorted = works_grow setup place old new asks.works sorted

does_grows : (setup : Setup) (buffers : List Buffer) (act : Act) (old new : World) → Does setup buffers act old new → IsSorted setup old.service → Grows old.service new.service
does_grows setup buffers (Ask place call) old new does sorted = works_grow setup place old new does.works sorted
does_grows setup buffers Request old new does sorted = subst (λ (w : World). Grows old.service w.service) (sym does) (grows_same old.service)
does_grows setup buffers (Answer place) old new does sorted = answer_grows setup place old new (is_writing (packets_of (writer old place).calls)) does sorted
does_grows setup buffers (Collect producer) old new does sorted = collects_grow setup producer old new sorted does
does_grows setup buffers (Scrape producer) old new does sorted =
    let first = takes_grow setup (places_of producer 0 setup.writers) does.taken old.service does.between sorted (open_places_fit setup producer old.service does.opened) does.takes in
    let then = looked_grows does.between does.looks in
    let last = noted_grows (looked does.between does.looks) (parts_held setup producer new) in
    subst (Grows old.service) (sym does.notes)
    (grow_both old.service does.between _ first (grow_both does.between (looked does.between does.looks) _ then last))
does_grows setup buffers (CloseProducer producer) old new does sorted =
    let first = takes_grow setup (places_of producer 0 setup.writers) does.taken old.service does.closes.between sorted (open_places_fit setup producer old.service does.opened) does.closes.takes in
    subst (Grows old.service) (sym does.closes.view)
    (grow_both old.service does.closes.between _ first (noted_grows does.closes.between (closes_of (places_of producer 0 setup.writers))))
does_grows setup buffers (ReadAll buffer limit) old new does sorted =
    subst (Grows old.service) (sym does.notes)
    (noted_grows old.service (flat_map noted_read (reads_in setup (buffers_after buffers (history_of old.service)) buffer limit)))
does_grows setup buffers (CommitRaw place chunk) old new does sorted =
    subst (Grows old.service) (sym does.notes) (by_target (buffer_of setup place == chunk.buffer))
  where
    by_target : (own : Bool) → Grows old.service (cond own (notes_commit old.service (raw_commit setup place chunk)) old.service)
    by_target true = committed_grows old.service (raw_commit setup place chunk)
    by_target false = grows_same old.service

pub plays_grow : (setup : Setup) (buffers : List Buffer) (acts : List Act) (old new : World) (notes : List ActNote) → Plays setup buffers acts old new notes → Stands setup old
    → Grows old.service new.service
plays_grow setup buffers [] old new notes plays stands = subst (λ (w : World). Grows old.service w.service) (sym plays.0) (grows_same old.service)
plays_grow setup buffers (act ∷ acts) old new notes plays stands =
    grow_both old.service plays.0.service new.service (does_grows setup buffers act old plays.0 plays.2 stands.sorted)
    (plays_grow setup buffers acts plays.0 new plays.1 plays.5 (stands_does setup buffers act old plays.0 plays.2 plays.3 stands))

pub reads_grow : (setup : Setup) (buffers : List Buffer) (buffer limit : ℕ) (old new : World) → Does setup buffers (ReadAll buffer limit) old new → Stands setup old
    → Grows old.service new.service
reads_grow setup buffers buffer limit old new does stands = does_grows setup buffers (ReadAll buffer limit) old new does stands.sorted

-- ---- what writers have noted

-- calls and more
abbrev pub HasMore : List Call → List Call → Type 0
HasMore old new = (more : List Call) × (new ≡ old ++ more)

no_more : (old new : List Call) → new ≡ old → HasMore old new
no_more old new same = ([], same ∙ sym (append-nil old))

pub more_both : (old mid new : List Call) → HasMore old mid → HasMore mid new → HasMore old new
more_both old mid new one two =
    (one.0 ++ two.0, two.1 ∙ ap (λ (cs : List Call). cs ++ two.0) one.1 ∙ append_assoc old one.0 two.0)

notes_more : (setup : Setup) (place : ℕ) (call : Call) (stopped : Bool) (old new : World) → Notes setup place call stopped old new
    → HasMore (writer old place).calls (writer new place).calls
notes_more setup place call false old new is = (call ∷ [], is)
notes_more setup place call true old new is = (dropped_call call, is.0)

-- a writer that flushes notes that alone
pub flush_calls : (setup : Setup) (place : ℕ) (old new : World) → Asks setup place Flushed old new
    → (writer new place).calls ≡ (writer old place).calls ++ Flushed ∷ []
flush_calls setup place old new asks = by_notes asks.stopped asks.notes
  where
    by_notes : (stopped : Bool) → Notes setup place Flushed stopped old new → (writer new place).calls ≡ (writer old place).calls ++ Flushed ∷ []
    by_notes false is = is
    by_notes true is = absurd is.1

-- a flush changes no packet
pub flush_packets : (calls : List Call) → packets_of (calls ++ Flushed ∷ []) ≡ packets_of calls
flush_packets calls = ap (λ (a : Account). a.packets) (fold-append noted nothing_yet calls (Flushed ∷ []))

asks_more : (setup : Setup) (place p : ℕ) (call : Call) (old new : World) → Asks setup place call old new → HasMore (writer old p).calls (writer new p).calls
asks_more setup place p call old new asks = by_place (cases_eq p place)
  where
    by_place : (p ≡ place) ⊎ (p ≡ place → ⊥) → HasMore (writer old p).calls (writer new p).calls
    by_place (inl same) =
        subst (λ (n : ℕ). HasMore (writer old n).calls (writer new n).calls) (sym same) (notes_more setup place call asks.stopped old new asks.notes)
    by_place (inr differs) =
        no_more (writer old p).calls (writer new p).calls (ap (λ (v : WriterView). v.calls) (works_others setup place old new asks.works p differs))

same_calls : (old new : World) (p : ℕ) → new.writers ≡ old.writers → HasMore (writer old p).calls (writer new p).calls
same_calls old new p same = no_more (writer old p).calls (writer new p).calls (ap (λ (ws : List WriterView). (get_or ws p newcomer).calls) same)

answer_more : (setup : Setup) (place p : ℕ) (old new : World) (b : Bool) → MatchBool b (new ≡ old) (Asks setup place Flushed old new)
    → HasMore (writer old p).calls (writer new p).calls
answer_more setup place p old new true same = same_calls old new p (ap (λ (w : World). w.writers) same)
answer_more setup place p old new false asks = asks_more setup place p Flushed old new asks

does_more : (setup : Setup) (buffers : List Buffer) (act : Act) (old new : World) (p : ℕ) → Does setup buffers act old new → HasMore (writer old p).calls (writer new p).calls
does_more setup buffers (Ask place call) old new p does = asks_more setup place p call old new does
does_more setup buffers Request old new p does = same_calls old new p (ap (λ (w : World). w.writers) does)
does_more setup buffers (Answer place) old new p does = answer_more setup place p old new (is_writing (packets_of (writer old place).calls)) does
does_more setup buffers (Collect producer) old new p does = same_calls old new p does.writers
does_more setup buffers (Scrape producer) old new p does = same_calls old new p does.writers
does_more setup buffers (CloseProducer producer) old new p does = same_calls old new p does.writers
does_more setup buffers (ReadAll buffer limit) old new p does = same_calls old new p does.writers
does_more setup buffers (CommitRaw place chunk) old new p does = same_calls old new p does.writers

pub plays_more : (setup : Setup) (buffers : List Buffer) (acts : List Act) (old new : World) (notes : List ActNote) (p : ℕ) → Plays setup buffers acts old new notes
    → HasMore (writer old p).calls (writer new p).calls
plays_more setup buffers [] old new notes p plays = same_calls old new p (ap (λ (w : World). w.writers) plays.0)
plays_more setup buffers (act ∷ acts) old new notes p plays =
    more_both (writer old p).calls (writer plays.0 p).calls (writer new p).calls (does_more setup buffers act old plays.0 p plays.2)
    (plays_more setup buffers acts plays.0 new plays.1 p plays.5)

-- ---- a writer that is left alone

-- the acts ask nothing of the writer at this place
abbrev pub LeaveAlone : (place : ℕ) → List Act → Type 0
LeaveAlone place [] = Unit {0}
LeaveAlone place (Ask other call ∷ acts) = (other ≢ place) × LeaveAlone place acts
LeaveAlone place (Answer other ∷ acts) = (other ≢ place) × LeaveAlone place acts
LeaveAlone place (act ∷ acts) = LeaveAlone place acts

same_view : (old new : World) (p : ℕ) → new.writers ≡ old.writers → writer new p ≡ writer old p
same_view old new p same = ap (λ (ws : List WriterView). get_or ws p newcomer) same

answer_alone : (setup : Setup) (other place : ℕ) (old new : World) (b : Bool) → MatchBool b (new ≡ old) (Asks setup other Flushed old new) → other ≢ place
    → writer new place ≡ writer old place
answer_alone setup other place old new true same differs = ap (λ (w : World). writer w place) same
answer_alone setup other place old new false asks differs = works_others setup other old new asks.works place (λ e. differs (sym e))

pub plays_alone : (setup : Setup) (buffers : List Buffer) (acts : List Act) (old new : World) (notes : List ActNote) (place : ℕ) → Plays setup buffers acts old new notes
    → LeaveAlone place acts → writer new place ≡ writer old place
plays_alone setup buffers [] old new notes place plays alone = ap (λ (w : World). writer w place) plays.0
plays_alone setup buffers (Ask other call ∷ acts) old new notes place plays alone =
    plays_alone setup buffers acts plays.0 new plays.1 place plays.5 alone.1 ∙ works_others setup other old plays.0 plays.2.works place (λ e. alone.0 (sym e))
plays_alone setup buffers (Request ∷ acts) old new notes place plays alone =
    plays_alone setup buffers acts plays.0 new plays.1 place plays.5 alone ∙ ap (λ (w : World). writer w place) plays.2
plays_alone setup buffers (Answer other ∷ acts) old new notes place plays alone =
    plays_alone setup buffers acts plays.0 new plays.1 place plays.5 alone.1
    ∙ answer_alone setup other place old plays.0 (is_writing (packets_of (writer old other).calls)) plays.2 alone.0
plays_alone setup buffers (Collect producer ∷ acts) old new notes place plays alone =
    plays_alone setup buffers acts plays.0 new plays.1 place plays.5 alone ∙ same_view old plays.0 place plays.2.writers
plays_alone setup buffers (Scrape producer ∷ acts) old new notes place plays alone =
    plays_alone setup buffers acts plays.0 new plays.1 place plays.5 alone ∙ same_view old plays.0 place plays.2.writers
plays_alone setup buffers (CloseProducer producer ∷ acts) old new notes place plays alone =
    plays_alone setup buffers acts plays.0 new plays.1 place plays.5 alone ∙ same_view old plays.0 place plays.2.writers
plays_alone setup buffers (ReadAll buffer limit ∷ acts) old new notes place plays alone =
    plays_alone setup buffers acts plays.0 new plays.1 place plays.5 alone ∙ same_view old plays.0 place plays.2.writers
plays_alone setup buffers (CommitRaw other chunk ∷ acts) old new notes place plays alone =
    plays_alone setup buffers acts plays.0 new plays.1 place plays.5 alone ∙ same_view old plays.0 place plays.2.writers

-- ---- chunks that came

pub arrivals_parts : (q : ℕ) (xs ys : List Event) → arrivals_of q (xs ++ ys) ≡ arrivals_of q xs + arrivals_of q ys
arrivals_parts q [] ys = omega arith
arrivals_parts q (model.Arrives other i chunk ∷ xs) ys = step (other == q) (arrivals_parts q xs ys)
  where
    step : (b : Bool) → arrivals_of q (xs ++ ys) ≡ arrivals_of q xs + arrivals_of q ys
        → cond b (suc (arrivals_of q (xs ++ ys))) (arrivals_of q (xs ++ ys)) ≡ cond b (suc (arrivals_of q xs)) (arrivals_of q xs) + arrivals_of q ys
    step true h = omega (arith, h)
    step false h = h
arrivals_parts q (model.ArrivesInPart other i chunk ∷ xs) ys = arrivals_parts q xs ys
arrivals_parts q (model.Patched other patches ∷ xs) ys = arrivals_parts q xs ys
arrivals_parts q (model.Committed image patches ∷ xs) ys = arrivals_parts q xs ys
arrivals_parts q (model.Closed other ∷ xs) ys = arrivals_parts q xs ys
arrivals_parts q (model.Read other limit ∷ xs) ys = arrivals_parts q xs ys

none_of_other : (q other id : ℕ) (content : Option Content) → (other == q) ≡ false → arrivals_of q (histories.arrival_of other id content) ≡ 0
none_of_other q other id None apart = refl
none_of_other q other id (Some content) apart = by_reading (reading_of content.image.count content.image.payload)
  where
    by_reading : (reading : Reading) → arrivals_of q (once_read (λ chunk. model.Arrives other id chunk) content.image.flags reading) ≡ 0
    by_reading (Fragments fragments) = ap (λ (b : Bool). cond b 1 0) apart
    by_reading (Unreadable number) = refl

none_of_part : (q other id count : ℕ) (found : Option Found) → arrivals_of q (histories.part_of other id count found) ≡ 0
none_of_part q other id count None = refl
none_of_part q other id count (Some found) = by_reading (reading_of count found.sealed)
  where
    by_reading : (reading : Reading) → arrivals_of q (once_read (λ chunk. model.ArrivesInPart other id chunk) found.head.flags reading) ≡ 0
    by_reading (Fragments fragments) = refl
    by_reading (Unreadable number) = refl

none_of_patches : (q other : ℕ) (content : Option Content) → arrivals_of q (histories.patches_of other content) ≡ 0
none_of_patches q other None = refl
none_of_patches q other (Some content) = refl

none_of_commit : (q : ℕ) (commit : Option Committed) → arrivals_of q (histories.commit_of commit) ≡ 0
none_of_commit q None = refl
none_of_commit q (Some one) = refl

module _ (setup : Setup) (world : World) (owned : ∥ IsOwned world ∥₁) (place : ℕ) (wrote : Wrote setup place (writer world place)) where
  abbrev behind : Noted → List Noted → List Event
  behind note notes = happened world.service note ++ flat_map (happened world.service) notes

  -- as many chunks come as the notes lead on by
  pub lead_arrivals : (notes : List Noted) (stage last : Stage) → LeadTo world.service (place + 2) stage notes last
      → stage.come + arrivals_of (place + 2) (flat_map (happened world.service) notes) ≡ last.come
  lead_arrivals [] stage last lead = let same = ap (λ (s : Stage). s.come) lead in omega (arith, same)
  lead_arrivals (Arrive other id ∷ notes) stage last lead =
      match_either (other == (place + 2)) _ _ (stage.come + arrivals_of (place + 2) (behind (Arrive other id) notes) ≡ last.come) lead.1
      (λ same h.
      let one = arrives_one (payload_at setup place) place (writer world place) wrote.held wrote.cut world.service (learnt world (owned_itself world owned) place)
      (named world (owned_itself world owned) place) id h.2 h.3 in
      let is : happened world.service (Arrive other id) ≡ model.Arrives (place + 2) id one.chunk ∷ [] =
      ap (λ (s : ℕ). happened world.service (Arrive s id)) (eqb-true other (place + 2) same) ∙ one.is in
      let both = arrivals_parts (place + 2) (happened world.service (Arrive other id)) (flat_map (happened world.service) notes) in
      let here : arrivals_of (place + 2) (happened world.service (Arrive other id)) ≡ 1 =
      ap (arrivals_of (place + 2)) is ∙ ap (λ (b : Bool). cond {A = ℕ} b 1 0) (eq-eqb (place + 2) (place + 2) refl) in
      let rest = lead_arrivals notes (record { come = suc stage.come; closed = stage.closed; due = h.2.patches }) last h.4 in
      omega (arith, both, here, rest))
      (λ apart h.
      let both = arrivals_parts (place + 2) (happened world.service (Arrive other id)) (flat_map (happened world.service) notes) in
      let none = none_of_other (place + 2) other id (content_at world.service other id) apart in
      let rest = lead_arrivals notes stage last h in
      omega (arith, both, none, rest))
  lead_arrivals (Partial other id count ∷ notes) stage last lead =
      let both = arrivals_parts (place + 2) (happened world.service (Partial other id count)) (flat_map (happened world.service) notes) in
      let none = none_of_part (place + 2) other id count (found_among (other - 2) id count world.service.looks) in
      let rest = match_either (other == (place + 2)) _ _ (stage.come + arrivals_of (place + 2) (flat_map (happened world.service) notes) ≡ last.come) lead.1
      (λ same h. lead_arrivals notes stage last h.3) (λ apart h. lead_arrivals notes stage last h) in
      omega (arith, both, none, rest)
  lead_arrivals (Patched other id ∷ notes) stage last lead =
      let both = arrivals_parts (place + 2) (happened world.service (Patched other id)) (flat_map (happened world.service) notes) in
      let none = none_of_patches (place + 2) other (content_at world.service other id) in
      let rest = match_either (other == (place + 2)) _ _ (stage.come + arrivals_of (place + 2) (flat_map (happened world.service) notes) ≡ last.come) lead
      (λ same h. lead_arrivals notes (record stage { due = [] }) last h.3) (λ apart h. lead_arrivals notes stage last h.1) in
      omega (arith, both, none, rest)
  lead_arrivals (Closed other ∷ notes) stage last lead =
      match_either (other == (place + 2)) _ _ (stage.come + arrivals_of (place + 2) (flat_map (happened world.service) notes) ≡ last.come) lead.1
      (λ same h. lead_arrivals notes (record stage { closed = true }) last h.1) (λ apart h. lead_arrivals notes stage last h)
  lead_arrivals (Read other limit ∷ notes) stage last lead = lead_arrivals notes stage last lead.1
  lead_arrivals (Commit at ∷ notes) stage last lead =
      let both = arrivals_parts (place + 2) (happened world.service (Commit at)) (flat_map (happened world.service) notes) in
      let none = none_of_commit (place + 2) (slice_get world.service.commits at) in
      let rest = lead_arrivals notes stage last lead.2 in
      omega (arith, both, none, rest)
