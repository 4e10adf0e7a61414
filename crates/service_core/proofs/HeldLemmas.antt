-- In a told world a scrape notes what the writers hold.
use Rattle.std.proofs.Common.{◌≡◌, ◌∙◌, ℕ, zero, suc, ◌+◌, ◌-◌, ◌^◌, ◌<◌, ◌≤◌, nat_lt, Bool, true, false, List, [], ◌∷◌, ◌++◌, length, get_or, Option, Some, refl, sym, ap, subst, arith, inl, append_assoc, append-nil, lt_of_not-le}
use Rattle.std.specs.Prelude.{cond}
use Rattle.std.specs.List.{flat_map}
use Rattle.std.specs.Coded.{le_prop}
use Rattle.std.proofs.Math.Logic.{∥∥₁_elim}
use Rattle.std.proofs.Math.Nat.{ℕ_set}
use Rattle.std.proofs.lemmas.Bool.{lt-ltb}
use Rattle.std.proofs.lemmas.Bool.Decides.{nat_tests}
use Rattle.std.proofs.lemmas.Grind.{flat_map-append}
use mathlib.Core.List.{is_set as list_set}
use mathlib.Core.Sum.{⊎_set}
use mathlib.Core.Option.{some-injective, some-ne-none}
use native.Mathlib.Decide.{dec_le}
use mathlib.Core.Logic.{dite}
use Rattle.chunk_plain.proofs.Lists.{at_some}
use Rattle.trace_base.specs.declared.limits.TheConstants.{MAX_FRAGMENTS}
use Rattle.trace_base.specs.declared.policy.WriterSpec.{WriterSpec}
use Rattle.trace_base.proofs.IdLemmas.{same_position}
use Rattle.page_geometry.specs.declared.chunk_header.TheConstants.{MAX_FLAGS}
use Rattle.page_geometry.specs.declared.chunk_header.ChunkHeader.{ChunkHeader}
use Rattle.page_geometry.specs.declared.chunk_state.ChunkState.TheVariants.{BeingWritten}
use Rattle.page_geometry.specs.PageBits.{HasState}
use Rattle.page_geometry.specs.Header.{packed}
use Rattle.page_geometry.proofs.HeaderLemmas.{unpacked-packed}
use Rattle.chunk_plain.specs.declared.tokens.Seen.{Seen}
use Rattle.chunk_plain.specs.Setup.{Setup, spot, range_of, producer_of, IsChunkOf, from_of, id_at}
use Rattle.chunk_plain.specs.Views.{At, Draft, no_draft, BegunChunk, Held, Completed, WriterView, newcomer, Noted, Partial, ServiceView, Taken, none_taken, taken_of}
use Rattle.chunk_plain.specs.World.{World, Status, Writing, status, writer}
use Rattle.chunk_plain.specs.Steps.{serviced}
use Rattle.chunk_plain.specs.Owned.{IsOwned}
use Rattle.chunk_plain.specs.Shows.{ShowsPage, ShowsHeader, IsHeader}
use Rattle.chunk_plain.proofs.States.{writing_status}
use Rattle.chunk_plain.proofs.KeptService.{header_reads}
use Rattle.service_core.specs.Looking.{IsAmong}
use Rattle.service_core.specs.Taking.{IsRange, Takes, places_of}
use Rattle.service_core.specs.Told.{LeavesNone}
use Rattle.service_core.specs.Scraping.{IsPart, FitsWord, ScrapesOne, ScrapesEach, part_of_entry, part_held, HoldsOwn, IsntPart, FindsNoPartOf, NotesPart, ScrapesWorld, ScrapesWorldYet}
use Rattle.service_core.proofs.LookLemmas.{among_range}
use Rattle.service_core.proofs.PartLemmas.{scrapes_add, scrape_takes_none}
use Rattle.service_core.proofs.ToldLemmas.{behind_serviced, none_stays}

noted_set : IsSet (List Noted)
noted_set = hlevel (ℕ_set, ⊎_set, list_set)

-- a header as it lies in a word
pub record HasRanges (header : ChunkHeader) : Type 0 where
  pub word : FitsWord header
  pub count : header.count < 2 ^ 10
  pub flags : header.flags < 2 ^ 6

-- as each look finds one
pub has_ranges : (header : ChunkHeader) → FitsWord header → header.count ≤ MAX_FRAGMENTS → header.flags ≤ MAX_FLAGS → HasRanges header
has_ranges header word count flags = record { word = word; count = omega (arith, count); flags = omega (arith, flags) }

-- an element by its place
at_get : {A : Type 0} (xs : List A) (x d : A) (i : ℕ) → At xs i x → get_or xs i d ≡ x
at_get [] x d i at = absurd (some-ne-none x (sym at))
at_get (y ∷ xs) x d zero at = some-injective y x at
at_get (y ∷ xs) x d (suc i) at = at_get xs x d i at

past_get : {A : Type 0} (xs : List A) (d : A) (i : ℕ) → length xs ≤ i → get_or xs i d ≡ d
past_get [] d i past = refl
past_get (x ∷ xs) d zero past = absurd (omega (arith, past))
past_get (x ∷ xs) d (suc i) past = past_get xs d i (omega (arith, past))

header_is : (setup : Setup) (header : ChunkHeader) (place position : ℕ) (draft : Draft) → HasRanges header → IsHeader setup (packed header) place position draft.head
    → header ≡ record { chunk_id = id_at setup place position; writer_id = place + 1; count = draft.head.count; flags = draft.head.flags }
header_is setup header place position draft ranges is =
    sym (unpacked-packed header ranges.word.id ranges.word.writer ranges.count ranges.flags) ∙ header_reads setup (packed header) place position draft.head is

lt_is : (m n : ℕ) → nat_lt m n ≡ true → m < n
lt_is m n test = grind (arith, nat_tests)

entry_notes : (place position finished chunk : ℕ) (draft : Draft) → draft.head.count ≡ finished + 1 → 1 ≤ finished
    → part_of_entry place position (Held chunk draft) ≡ Partial (place + 2) position finished ∷ []
entry_notes place position finished chunk draft count some =
    ap (λ (b : Bool). cond b (Partial (place + 2) position (draft.head.count - 1) ∷ []) []) (lt-ltb 1 draft.head.count (omega (arith, count, some)))
    ∙ ap (λ (n : ℕ). Partial (place + 2) position n ∷ []) (let one : draft.head.count - 1 ≡ finished = omega (arith, count) in one)

-- what a look found of the writer's next chunk is what it holds
pub part_is : (setup : Setup) (world : World) (place chunk at writer_id id position finished : ℕ) (seen : Seen) → ∥ IsOwned world ∥₁
    → ∥ (ShowsPage setup world (spot setup chunk) seen.word.0 (status world chunk) × ShowsHeader setup (packed seen.header) (status world chunk)) ∥₁
    → at ≡ (spot setup chunk).place → writer_id ≡ place + 1 → id ≡ id_at setup place position → position < 2 ^ 32 → IsPart seen at writer_id id finished
    → position ≡ (taken_of world.service place).count → HasRanges seen.header
    → part_held world place ≡ Partial (place + 2) position finished ∷ []
part_is setup world place chunk at writer_id id position finished seen owned shown at_is writer_is id_is small part next ranges =
    ∥∥₁_elim owned (noted_set _ _) (λ o. ∥∥₁_elim shown (noted_set _ _) (λ s.
    let was = writing_status (status world chunk) seen.word.0 (spot setup chunk).place s.0.state (subst (λ (p : ℕ). HasState seen.word.0 p BeingWritten) at_is part.written) in
    let is : IsHeader setup (packed seen.header) was.0 was.1 was.2.head = subst (λ (t : Status). ShowsHeader setup (packed seen.header) t) was.3 s.1 in
    let reads = header_is setup seen.header was.0 was.1 was.2 ranges is in
    let named = part.writer_is in
    let number = ap (λ (h : ChunkHeader). h.writer_id) reads in
    let place_is : was.0 ≡ place = omega (arith, number, named, writer_is) in
    let same : id_at setup place was.1 ≡ id_at setup place position =
    ap (λ (p : ℕ). id_at setup p was.1) (sym place_is) ∙ sym (ap (λ (h : ChunkHeader). h.chunk_id) reads) ∙ part.id_is ∙ id_is in
    let position_is : was.1 ≡ position = same_position (from_of setup place) was.1 position is.position_fits small same in
    let count : was.2.head.count ≡ finished + 1 = sym (ap (λ (h : ChunkHeader). h.count) reads) ∙ part.count in
    let begun = (o.owns was.0 chunk).writing_is was.1 was.2 was.3 in
    let here : At (writer world place).begun position (Held chunk was.2) =
    subst (λ (i : ℕ). At (writer world place).begun i (Held chunk was.2)) position_is (subst (λ (p : ℕ). At (writer world p).begun was.1 (Held chunk was.2)) place_is begun) in
    ap (λ (n : ℕ). part_of_entry place n (get_or (writer world place).begun n (Held 0 no_draft))) (sym next)
    ∙ ap (part_of_entry place position) (at_get (writer world place).begun (Held chunk was.2) (Held 0 no_draft) position here) ∙ entry_notes place position finished chunk was.2 count part.some))

-- where the look found no part, the writer holds none there
pub isnt_part : (setup : Setup) (world : World) (place chunk at writer_id id position : ℕ) (seen : Seen)
    → ∥ (ShowsPage setup world (spot setup chunk) seen.word.0 (status world chunk) × ShowsHeader setup (packed seen.header) (status world chunk)) ∥₁
    → at ≡ (spot setup chunk).place → writer_id ≡ place + 1 → id ≡ id_at setup place position → HasRanges seen.header
    → (HasState seen.word.0 at BeingWritten → seen.header.writer_id ≡ writer_id → seen.header.chunk_id ≡ id → seen.header.count < 2) → IsntPart place position (status world chunk)
isnt_part setup world place chunk at writer_id id position seen shown at_is writer_is id_is ranges none draft writing =
    ∥∥₁_elim shown (hlevel le_prop) (λ s.
    let page : ShowsPage setup world (spot setup chunk) seen.word.0 (Writing place position draft) = subst (λ (t : Status). ShowsPage setup world (spot setup chunk) seen.word.0 t) writing s.0 in
    let is : IsHeader setup (packed seen.header) place position draft.head = subst (λ (t : Status). ShowsHeader setup (packed seen.header) t) writing s.1 in
    let reads = header_is setup seen.header place position draft ranges is in
    let low = none (subst (λ (p : ℕ). HasState seen.word.0 p BeingWritten) (sym at_is) page.state) (ap (λ (h : ChunkHeader). h.writer_id) reads ∙ sym writer_is) (ap (λ (h : ChunkHeader). h.chunk_id) reads ∙ sym id_is) in
    let count = ap (λ (h : ChunkHeader). h.count) reads in
    omega (arith, low, count))

-- where no look found a part, the writer holds none
pub holds_none : (setup : Setup) (world : World) (place first count last : ℕ) → ∥ IsOwned world ∥₁ → HoldsOwn setup place world
    → IsRange (range_of setup (producer_of setup place)) first count → first + count ≤ last
    → ((chunk : ℕ) → IsAmong first last chunk → IsntPart place (taken_of world.service place).count (status world chunk)) → part_held world place ≡ []
holds_none setup world place first count last owned own range all isnt =
    dite (dec_le (length (writer world place).begun) (taken_of world.service place).count)
    (λ past. ap (part_of_entry place (taken_of world.service place).count) (past_get (writer world place).begun (Held 0 no_draft) (taken_of world.service place).count past))
    (λ within. let here = at_some (writer world place).begun (taken_of world.service place).count (lt_of_not-le within) in
    ap (part_of_entry place (taken_of world.service place).count) (at_get (writer world place).begun here.0 (Held 0 no_draft) (taken_of world.service place).count here.1)
    ∙ by_entry here.0 here.1)
  where
    by_count : (chunk : ℕ) (draft : Draft) → At (writer world place).begun (taken_of world.service place).count (Held chunk draft)
        → (b : Bool) → nat_lt 1 draft.head.count ≡ b
        → cond b (Partial (place + 2) (taken_of world.service place).count (draft.head.count - 1) ∷ []) [] ≡ []
    by_count chunk draft at false test = refl
    by_count chunk draft at true test =
        absurd (∥∥₁_elim owned (λ a b. absurd a) (λ o.
        let writing = (o.owns place chunk).held_is (taken_of world.service place).count draft at in
        let is = own (taken_of world.service place).count chunk draft at in
        let few = isnt chunk (among_range setup (producer_of setup place) first count last chunk range all is) draft writing in
        let many = lt_is 1 draft.head.count test in
        omega (arith, few, many)))

    by_entry : (entry : BegunChunk) → At (writer world place).begun (taken_of world.service place).count entry → part_of_entry place (taken_of world.service place).count entry ≡ []
    by_entry (Completed chunk content) at = refl
    by_entry (Held chunk draft) at = by_count chunk draft at (nat_lt 1 draft.head.count) refl

-- what is held is told by the writers' views and by what was taken of them
pub part_same : (world next : World) (place : ℕ) → next.writers ≡ world.writers → next.service.taken ≡ world.service.taken → part_held next place ≡ part_held world place
part_same world next place writers taken =
    let now : (taken_of next.service place).count ≡ (taken_of world.service place).count = ap (λ (ts : List Taken). (get_or ts place none_taken).count) taken in
    ap (λ (n : ℕ). part_of_entry place n (get_or (writer next place).begun n (Held 0 no_draft))) now
    ∙ ap (λ (l : List WriterView). part_of_entry place (taken_of world.service place).count (get_or (get_or l place newcomer).begun (taken_of world.service place).count (Held 0 no_draft))) writers

parts_same : (world next : World) (places : List ℕ) → next.writers ≡ world.writers → next.service.taken ≡ world.service.taken → flat_map (part_held next) places ≡ flat_map (part_held world) places
parts_same world next [] writers taken = refl
parts_same world next (place ∷ places) writers taken =
    ap (λ (l : List Noted). l ++ flat_map (part_held next) places) (part_same world next place writers taken)
    ∙ ap (λ (l : List Noted). part_held world place ++ l) (parts_same world next places writers taken)

-- Behind looks

-- a part was noted behind looks that found none
pub notes_behind : (place position first chunk : ℕ) (old : World) (mid told : Option World) (start before view : ServiceView) → FindsNoPartOf place position first chunk old mid before
    → before.events ≡ start.events → before.taken ≡ old.service.taken
    → ((world : World) → mid ≡ Some world → NotesPart place world told before view) → NotesPart place old told start view
notes_behind place position first chunk old mid told start before view none events taken more =
    let note = more (serviced old before) none.told_is in
    record {
      told_is = note.told_is;
      events = note.events ∙ (ap (λ (l : List Noted). l ++ part_held (serviced old before) place) events ∙ ap (λ (l : List Noted). start.events ++ l) (part_same old (serviced old before) place refl taken));
    }

-- no part was noted
pub notes_none : (setup : Setup) (place first count last : ℕ) (old : World) (told : Option World) (start view : ServiceView) → ∥ IsOwned old ∥₁ → HoldsOwn setup place old
    → IsRange (range_of setup (producer_of setup place)) first count → first + count ≤ last → FindsNoPartOf place (taken_of old.service place).count first last old told view
    → view.events ≡ start.events → NotesPart place old told start view
notes_none setup place first count last old told start view owned own range all none events = record {
  told_is = none.told_is;
  events = events ∙ (sym (append-nil start.events) ∙ ap (λ (l : List Noted). start.events ++ l) (sym (holds_none setup old place first count last owned own range all none.each)));
}

-- Writer by writer

pub world_yet : (setup : Setup) (producer taken : ℕ) (old : World) (before : ServiceView) (told : Option World) (view : ServiceView) → LeavesNone setup producer old told view
    → Takes setup (places_of producer 0 setup.writers) taken before view → ScrapesWorldYet setup producer taken [] old before told view
world_yet setup producer taken old before told view leaves takes = record {
  between = view;
  takes = takes;
  each = refl;
  new = leaves.new;
  told_is = leaves.told_is;
  stands = leaves.stands;
  none_left = leaves.none_left;
  events = sym (append-nil view.events);
}

pub world_skip : (setup : Setup) (producer taken : ℕ) (writers more : List WriterSpec) (old : World) (before : ServiceView) (told : Option World) (view : ServiceView)
    → places_of producer 0 more ≡ places_of producer 0 writers → ScrapesWorldYet setup producer taken writers old before told view
    → ScrapesWorldYet setup producer taken more old before told view
world_skip setup producer taken writers more old before told view places yet = record {
  between = yet.between;
  takes = yet.takes;
  each = subst (λ (ps : List ℕ). ScrapesEach setup ps yet.between view) (sym places) yet.each;
  new = yet.new;
  told_is = yet.told_is;
  stands = yet.stands;
  none_left = yet.none_left;
  events = yet.events ∙ ap (λ (ps : List ℕ). yet.between.events ++ flat_map (part_held yet.new) ps) (sym places);
}

-- what the writer holds stays where the writers' views do
own_stays : (setup : Setup) (place : ℕ) (old new : World) → new.writers ≡ old.writers → HoldsOwn setup place old → HoldsOwn setup place new
own_stays setup place old new writers own = subst (λ (l : List WriterView). (position chunk : ℕ) (draft : Draft) → At (get_or l place newcomer).begun position (Held chunk draft) → IsChunkOf setup (producer_of setup place) chunk) (sym writers) own

pub world_add : (setup : Setup) (producer taken place : ℕ) (writers more : List WriterSpec) (old : World) (before mid_view view : ServiceView) (mid told : Option World)
    → places_of producer 0 more ≡ places_of producer 0 writers ++ place ∷ [] → ScrapesWorldYet setup producer taken writers old before mid mid_view → HoldsOwn setup place old
    → ScrapesOne setup place mid_view view → ((world : World) → mid ≡ Some world → HoldsOwn setup place world → NotesPart place world told mid_view view)
    → ScrapesWorldYet setup producer taken more old before told view
world_add setup producer taken place writers more old before mid_view view mid told places yet own one notes =
    let note = notes yet.new yet.told_is (own_stays setup place old yet.new yet.stands.writers own) in
    let new : World = serviced yet.new view in
    let taken_is : new.service.taken ≡ yet.new.service.taken = scrape_takes_none setup place mid_view view one ∙ sym (ap (λ (v : ServiceView). v.taken) yet.stands.service) in
    record {
      between = yet.between;
      takes = yet.takes;
      each = subst (λ (ps : List ℕ). ScrapesEach setup ps yet.between view) (sym places)
          (scrapes_add setup (places_of producer 0 writers) place yet.between mid_view view yet.each one);
      new = new;
      told_is = note.told_is;
      stands = behind_serviced old yet.new mid_view view yet.stands;
      none_left = λ p inside named.
          none_stays setup p yet.new new view (yet.none_left p inside named) (record { writers = refl; service = refl; chunks = λ chunk. inl refl })
          (ap (λ (ts : List Taken). (get_or ts p none_taken).count) taken_is);
      events = note.events
          ∙ (ap (λ (l : List Noted). l ++ part_held yet.new place) yet.events
          ∙ (append_assoc yet.between.events (flat_map (part_held yet.new) (places_of producer 0 writers)) (part_held yet.new place)
          ∙ ap (λ (l : List Noted). yet.between.events ++ l)
          (ap (λ (l : List Noted). flat_map (part_held yet.new) (places_of producer 0 writers) ++ l) (sym (append-nil (part_held yet.new place)))
          ∙ (sym (flat_map-append (part_held yet.new) (places_of producer 0 writers) (place ∷ []))
          ∙ (ap (flat_map (part_held yet.new)) (sym places) ∙ sym (parts_same yet.new new (places_of producer 0 more) refl taken_is))))));
    }

pub world_all : (setup : Setup) (producer taken : ℕ) (writers : List WriterSpec) (old : World) (before : ServiceView) (told : Option World) (view : ServiceView) → writers ≡ setup.writers
    → ScrapesWorldYet setup producer taken writers old before told view → ScrapesWorld setup producer taken old before told view
world_all setup producer taken writers old before told view all yet = record {
  between = yet.between;
  takes = yet.takes;
  each = subst (λ (ws : List WriterSpec). ScrapesEach setup (places_of producer 0 ws) yet.between view) all yet.each;
  new = yet.new;
  told_is = yet.told_is;
  stands = yet.stands;
  none_left = yet.none_left;
  events = yet.events ∙ ap (λ (ws : List WriterSpec). yet.between.events ++ flat_map (part_held yet.new) (places_of producer 0 ws)) all;
}
