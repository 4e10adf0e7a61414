-- A scrape is one act of the service.
use Rattle.std.proofs.Common.{◌≡◌, ◌∙◌, ℕ, zero, suc, ◌<◌, Option, Some, List, [], ◌∷◌, ◌++◌, length, refl, sym, ap, subst, inl, inr, append_assoc, append-nil}
use Rattle.trace_base.proofs.Lists.{some_there}
use Rattle.byte_io.specs.Bytes.{Intake}
use Rattle.chunk_plain.specs.Meaning.{Meaning, IsServiceStep}
use Rattle.chunk_plain.specs.Setup.{Setup, IsChunkOf, producer_of, sequence_of}
use Rattle.chunk_plain.specs.Views.{At, BegunChunk, Held, Completed, Draft, Look, Noted, Partial, ServiceView, WriterView, taken_of}
use Rattle.chunk_plain.specs.World.{World}
use Rattle.trace_writer.specs.declared.writer.WriterCore.{WriterCore}
use Rattle.trace_writer.specs.Claims.{AreOwnChunks}
use Rattle.service_core.specs.declared.service.ServiceCore.{ServiceCore}
use Rattle.service_core.specs.Agreement.{AreKnownNotes, KeepsRest, ServiceAgrees, first_of}
use Rattle.service_core.specs.Scraping.{HoldsOwn, ScrapesEach, ScrapesOne, ScrapesWorld, TakesAndScrapes, parts_held}
use Rattle.service_core.specs.Looking.{looked}
use Rattle.service_core.specs.Taking.{Takes, noted_more, places_of}
use Rattle.service_core.proofs.AgreeLemmas.{first_stays}
use Rattle.service_core.proofs.CloseLemmas.{noted_grows}
use Rattle.service_core.proofs.TakingLemmas.{looked_grows}
use Rattle.replay_model.specs.Acts.{Scrape}
use Rattle.replay_model.specs.Does.{AreOpen, Scrapes}
use Rattle.replay_model.proofs.PlayLemmas.{plays_one}
use Rattle.replay_model.proofs.ScrapedLemmas.{known_right}
use Rattle.replay_host.specs.declared.host.Host.{Host}
use Rattle.replay_host.specs.Playing.{HasDone}
use Rattle.replay_host.specs.Standing.{Stands}
use Rattle.service_core.proofs.QuietLemmas.{Adds, AreSilent, adds_both, adds_quiet, collect_adds, grow_both, silent_append}
use Rattle.service_core.proofs.AnswerLemmas.{takes_own}
use Rattle.replay_host.proofs.RowLemmas.{AreLaws, row_is}
use Rattle.replay_host.proofs.ServedLemmas.{quiet_writes}

-- ---- the notes of parts

-- the view has these looks more, and these notes, none of them a read
record NotesParts (old new : ServiceView) : Type 0 where
  pub looks : List Look
  pub notes : List Noted
  pub view : new ≡ noted_more (looked old looks) notes
  pub silent : AreSilent notes

parts_none : (view : ServiceView) → NotesParts view view
parts_none view = record {
  looks = [];
  notes = [];
  view = ap (λ (ls : List Look). record view { looks = ls }) (sym (append-nil view.looks))
      ∙ ap (λ (ns : List Noted). record (looked view []) { events = ns }) (sym (append-nil view.events));
  silent = tt;
}

parts_both : (old mid new : ServiceView) → NotesParts old mid → NotesParts mid new → NotesParts old new
parts_both old mid new first second = record {
  looks = first.looks ++ second.looks;
  notes = first.notes ++ second.notes;
  view = second.view
      ∙ ap (λ (v : ServiceView). noted_more (looked v second.looks) second.notes) first.view
      ∙ ap (λ (ls : List Look). record old { looks = ls; events = (old.events ++ first.notes) ++ second.notes })
      (append_assoc old.looks first.looks second.looks)
      ∙ ap (λ (ns : List Noted). record (looked old (first.looks ++ second.looks)) { events = ns })
      (append_assoc old.events first.notes second.notes);
  silent = silent_append first.notes second.notes first.silent second.silent;
}

one_parts : (setup : Setup) (place : ℕ) (old new : ServiceView) → ScrapesOne setup place old new → NotesParts old new
one_parts setup place old new (inl part) = record {
  looks = part.looks;
  notes = Partial (sequence_of place) (taken_of old place).count part.count ∷ [];
  view = part.view;
  silent = tt;
}
one_parts setup place old new (inr none) = record {
  looks = none.looks;
  notes = [];
  view = none.view ∙ ap (λ (ns : List Noted). record (looked old none.looks) { events = ns }) (sym (append-nil old.events));
  silent = tt;
}

each_parts : (setup : Setup) (places : List ℕ) (old new : ServiceView) → ScrapesEach setup places old new → NotesParts old new
each_parts setup [] old new each = subst (λ (v : ServiceView). NotesParts old v) (sym each) (parts_none old)
each_parts setup (place ∷ places) old new each =
    parts_both old each.0 new (one_parts setup place old each.0 each.1) (each_parts setup places each.0 new each.2)

parts_adds : (old new : ServiceView) → NotesParts old new → Adds old new
parts_adds old new parts =
    let seen : ServiceView = looked old parts.looks in
    subst (λ (v : ServiceView). Adds old v) (sym parts.view) (record {
      grows = grow_both old seen (noted_more seen parts.notes) (looked_grows old parts.looks) (noted_grows seen parts.notes);
      notes = parts.notes;
      events = refl;
      silent = parts.silent;
    })

-- a scrape adds notes that write no record
pub scrape_adds : {S : Type 0} (setup : Setup) (service : ServiceCore S) (producer taken : ℕ) (old new : ServiceView)
    → ServiceAgrees setup old service → TakesAndScrapes setup producer taken old new → Adds old new
scrape_adds setup service producer taken old new agrees scrapes =
    adds_both old scrapes.between new (collect_adds setup service producer taken old scrapes.between agrees scrapes.takes)
    (parts_adds scrapes.between new (each_parts setup (places_of producer 0 setup.writers) scrapes.between new scrapes.scrapes))

-- no image comes by a commit in it
pub scrapes_own : (setup : Setup) (producer taken : ℕ) (old new : ServiceView) → TakesAndScrapes setup producer taken old new
    → new.commits ≡ old.commits
scrapes_own setup producer taken old new scrapes =
    ap (λ (v : ServiceView). v.commits) (each_parts setup (places_of producer 0 setup.writers) scrapes.between new scrapes.scrapes).view
    ∙ takes_own setup (places_of producer 0 setup.writers) taken old scrapes.between scrapes.takes

-- ---- what writers hold

own_at : (setup : Setup) (producer : ℕ) (begun : List BegunChunk) → AreOwnChunks setup producer begun → (id chunk : ℕ) (draft : Draft)
    → At begun id (Held chunk draft) → IsChunkOf setup producer chunk
own_at setup producer [] own id chunk draft at = absurd (cc)
own_at setup producer (Held one head ∷ begun) own zero chunk draft at =
    subst (λ (c : ℕ). IsChunkOf setup producer c) (let same : one ≡ chunk = cc in same) own.0
own_at setup producer (Held one head ∷ begun) own (suc id) chunk draft at =
    own_at setup producer begun own.1 id chunk draft at
own_at setup producer (Completed one content ∷ begun) own zero chunk draft at = absurd (cc)
own_at setup producer (Completed one content ∷ begun) own (suc id) chunk draft at =
    own_at setup producer begun own.1 id chunk draft at

-- what a writer that stands holds are chunks of its producer
pub stands_own : {T W S : Type 0} (means : Meaning T W S) → AreLaws means
    → (table : T) (cores : List (WriterCore W)) (service : ServiceCore S)
    → Stands means table cores service → (world : World) → means.told table ≡ Some world
    → (place : ℕ) → place < length (means.setup table).writers → HoldsOwn (means.setup table) place world
stands_own means laws table cores service stands world told place below id chunk draft at =
    let setup : Setup = means.setup table in
    let core = some_there cores place (subst (λ (n : ℕ). place < n) (sym stands.many) below) in
    let seated = stands.seated place core.0 core.1 in
    own_at setup (producer_of setup place) (means.view table core.0.seat).begun seated.agrees.claims.own_chunks id chunk draft
    (subst (λ (v : WriterView). At v.begun id (Held chunk draft))
    (row_is means laws table world told place core.0.seat seated.sits seated.place_is) at)

-- ---- the act

-- in a told world
scrape_does : (setup : Setup) (producer taken : ℕ) (was : World) (old view : ServiceView) (told : Option World)
    → AreOpen setup producer old → old ≡ was.service
    → AreKnownNotes view view.events → (scraped : ScrapesWorld setup producer taken was old told view)
    → Scrapes setup producer was scraped.new
scrape_does setup producer taken was old view told opened view_was known scraped =
    let places : List ℕ = places_of producer 0 setup.writers in
    let between : ServiceView = scraped.between in
    let held : List Noted = parts_held setup producer scraped.new in
    let parts = each_parts setup places between view scraped.each in
    record {
      opened = subst (λ (v : ServiceView). AreOpen setup producer v) view_was opened;
      writers = scraped.stands.writers;
      taken = taken;
      between = between;
      takes = subst (λ (v : ServiceView). Takes setup places taken v between) view_was scraped.takes;
      looks = parts.looks;
      notes = scraped.stands.service
          ∙ parts.view
          ∙ ap (λ (ns : List Noted). record (looked between parts.looks) { events = ns })
          (sym (ap (λ (v : ServiceView). v.events) parts.view) ∙ scraped.events);
      found = subst (λ (v : ServiceView). AreKnownNotes v held) (sym scraped.stands.service)
          (known_right view between.events held (subst (λ (ns : List Noted). AreKnownNotes view ns) scraped.events known));
      none_left = scraped.none_left;
    }

pub scrape_done : {T W S : Type 0} (means : Meaning T W S) → AreLaws means → (producer taken : ℕ) (old new : Host T W S)
    → Stands means old.table old.writers.items old.helper.service
    → IsServiceStep means old.table old.helper.service.seat new.table new.helper.service.seat
    → KeepsRest (means.setup old.table) old.helper.service new.helper.service
    → ServiceAgrees (means.setup old.table) (means.service_view new.table new.helper.service.seat) new.helper.service
    → AreOpen (means.setup old.table) producer (means.service_view old.table old.helper.service.seat)
    → TakesAndScrapes (means.setup old.table) producer taken
    (means.service_view old.table old.helper.service.seat) (means.service_view new.table new.helper.service.seat)
    → ((was : World) → means.told old.table ≡ Some was
    → ((place : ℕ) → place < length (means.setup old.table).writers → producer_of (means.setup old.table) place ≡ producer
    → HoldsOwn (means.setup old.table) place was)
    → ScrapesWorld (means.setup old.table) producer taken was (means.service_view old.table old.helper.service.seat)
    (means.told new.table) (means.service_view new.table new.helper.service.seat))
    → (intake : Intake) → HasDone means (Scrape producer ∷ []) [] old intake new intake
scrape_done means laws producer taken old new stands step keeps agrees opened scrapes told intake =
    let setup : Setup = means.setup old.table in
    let before : ServiceView = means.service_view old.table old.helper.service.seat in
    let view : ServiceView = means.service_view new.table new.helper.service.seat in
    record {
      setup_is = step.setup_stays;
      first = first_stays setup old.helper.service new.helper.service keeps.fields;
      plays = λ was told_was.
          let scraped = told was told_was
          (λ place below named. stands_own means laws old.table old.writers.items old.helper.service stands was told_was place below) in
          let view_was = laws.told_service_view old.table old.helper.service.seat was told_was stands.served.serves in
          let does = scrape_does setup producer taken was before view (means.told new.table) opened view_was agrees.known scraped in (
            scraped.new,
            scraped.told_is,
            plays_one setup (first_of setup old.helper.service) (Scrape producer) was scraped.new does
                (laws.told_owned new.table scraped.new scraped.told_is),
          );
      writes = λ start is. quiet_writes start intake (first_of setup old.helper.service) before view
          (adds_quiet (first_of setup old.helper.service) before view stands.served.agrees.known
          (scrape_adds setup old.helper.service producer taken before view stands.served.agrees scrapes)) is;
    }
