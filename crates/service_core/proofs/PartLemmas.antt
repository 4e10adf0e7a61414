-- Looks for parts of chunks, one after another.
use Rattle.std.proofs.Common.{◌≡◌, ◌∙◌, ℕ, ◌+◌, ◌%◌, ◌^◌, ◌<◌, List, [], ◌∷◌, ◌++◌, length, Option, Some, refl, sym, ap, subst, arith, inl, inr, append_assoc}
use Rattle.trace_base.proofs.Lists.{get_behind}
use Rattle.trace_base.proofs.IdLemmas.{same_position}
use Rattle.page_geometry.specs.declared.chunk_state.ChunkState.TheVariants.{BeingWritten}
use Rattle.page_geometry.specs.PageBits.{HasState}
use Rattle.page_geometry.specs.Header.{packed}
use Rattle.chunk_plain.specs.declared.tokens.Seen.{Seen}
use Rattle.chunk_plain.specs.Setup.{Setup, spot, from_of, id_at}
use Rattle.chunk_plain.specs.Views.{At, Found, Head, Look, Noted, Partial, ServiceView, taken_of}
use Rattle.chunk_plain.specs.Drafts.{IsFound}
use Rattle.chunk_plain.specs.Histories.{found_among}
use Rattle.chunk_plain.specs.Steps.{taken_counts}
use Rattle.chunk_plain.specs.Words.{LooksAt}
use Rattle.chunk_plain.proofs.Lists.{at_seam}
use Rattle.service_core.specs.Order.{IsFoundPart}
use Rattle.service_core.specs.Looking.{looked}
use Rattle.service_core.specs.Taking.{noted_more}
use Rattle.service_core.specs.Scraping.{SeesNoPart, TakesPart, TakesNoPartOf, ScrapesOne, ScrapesEach, IsPart, FitsWord, PartLooked}
use Rattle.service_core.proofs.TakingLemmas.{counts_at}

-- What one look found

-- it found so many finished fragments of a chunk that the writer at this place writes at this position, with this flag 1
pub record IsSeenPart (seen : Option Found) (place position count flags : ℕ) : Type 0 where
  pub found : Found
  pub found_is : seen ≡ Some found
  pub place_is : found.place ≡ place
  pub position_is : found.position ≡ position
  pub count_is : length found.ends ≡ count
  pub front : found.head.flags % 2 ≡ flags % 2
  pub is : IsFound found

pub seen_part : (setup : Setup) (old new : ServiceView) (place chunk : ℕ) (seen : Seen) (at writer id position finished : ℕ) (looks : LooksAt setup chunk seen.word.0 seen.header old new)
    → at ≡ (spot setup chunk).place → writer ≡ place + 1 → id ≡ id_at setup place position → position < 2 ^ 32 → IsPart seen at writer id finished
    → IsSeenPart looks.found place position finished seen.header.flags
seen_part setup old new place chunk seen at writer id position finished looks at_is writer_is id_is small part =
    let one = looks.finds.some (subst (λ (p : ℕ). HasState seen.word.0 p BeingWritten) at_is part.written) in
    let of = one.2 in
    let count = ap (λ (h : Head). h.count) of.head_is in
    let ends = of.finished.sealed.count in
    let named = part.writer_is in
    let counted = part.count in
    let number = of.place_is in
    let place_is : one.0.place ≡ place = omega (arith, number, named, writer_is) in
    let same : id_at setup place one.0.position ≡ id_at setup place position = ap (λ (p : ℕ). id_at setup p one.0.position) (sym place_is) ∙ of.id_is ∙ part.id_is ∙ id_is in
    record {
      found = one.0;
      found_is = one.1;
      place_is = place_is;
      position_is = same_position (from_of setup place) one.0.position position of.position_fits small same;
      count_is = omega (arith, ends, count, counted);
      front = ap (λ (h : Head). h.flags % 2) of.head_is;
      is = of.finished;
    }

pub part_looked : (setup : Setup) (old new : ServiceView) (place chunk : ℕ) (seen : Seen) (at writer id position finished : ℕ) → LooksAt setup chunk seen.word.0 seen.header old new
    → at ≡ (spot setup chunk).place → writer ≡ place + 1 → id ≡ id_at setup place position → position < 2 ^ 32 → IsPart seen at writer id finished
    → PartLooked new chunk place position finished seen.header.flags
part_looked setup old new place chunk seen at writer id position finished looks at_is writer_is id_is small part =
    let one = seen_part setup old new place chunk seen at writer id position finished looks at_is writer_is id_is small part in
    let look : Look = record { chunk = chunk; word = seen.word.0; header = packed seen.header; found = looks.found; taken = taken_counts old } in
    record {
      found = one.found;
      number = length old.looks;
      look = look;
      at = subst (λ (v : ServiceView). At v.looks (length old.looks) look) (sym looks.view) (at_seam old.looks [] look);
      chunk_is = refl;
      found_is = one.found_is;
      place_is = one.place_is;
      position_is = one.position_is;
      count_is = one.count_is;
      front = one.front;
      is = one.is;
    }

pub no_part_seen : (setup : Setup) (old new : ServiceView) (place chunk : ℕ) (seen : Seen) (at writer id : ℕ) → LooksAt setup chunk seen.word.0 seen.header old new
    → at ≡ (spot setup chunk).place → writer ≡ place + 1 → id ≡ id_at setup place (taken_of old place).count → FitsWord seen.header → seen.header.count < 2 ^ 10
    → (HasState seen.word.0 at BeingWritten → seen.header.writer_id ≡ writer → seen.header.chunk_id ≡ id → seen.header.count < 2) → SeesNoPart setup place chunk old new
no_part_seen setup old new place chunk seen at writer id looks at_is writer_is next fits count_fits none = record {
  look = record { chunk = chunk; word = seen.word.0; header = packed seen.header; found = looks.found; taken = taken_counts old };
  view = looks.view;
  chunk_is = refl;
  since = counts_at old place;
  shows = record {
    header = seen.header;
    header_is = refl;
    id_fits = fits.id;
    writer_fits = fits.writer;
    count_fits = count_fits;
    none = λ written named id_is. none (subst (λ (p : ℕ). HasState seen.word.0 p BeingWritten) (sym at_is) written) (named ∙ sym writer_is) (id_is ∙ sym next);
  };
}

-- Behind looks that found none

pub part_behind : (setup : Setup) (place first chunk : ℕ) (old mid new : ServiceView) → TakesNoPartOf setup place first chunk old mid → TakesPart setup place mid new
    → TakesPart setup place old new
part_behind setup place first chunk old mid new seen part =
    let count_is : (taken_of mid place).count ≡ (taken_of old place).count = ap (λ (v : ServiceView). (taken_of v place).count) seen.view in
    let notes : List Noted = Partial (place + 2) (taken_of old place).count part.count ∷ [] in
    record {
      looks = seen.looks ++ part.looks;
      count = part.count;
      some = part.some;
      shows = record {
        n = length seen.looks + part.shows.n;
        look = part.shows.look;
        at = get_behind seen.looks part.looks part.shows.n part.shows.look part.shows.at;
        own = part.shows.own;
        since = part.shows.since ∙ count_is;
        found = part.shows.found;
        found_is = part.shows.found_is;
        place_is = part.shows.place_is;
        position_is = part.shows.position_is ∙ count_is;
        count_is = part.shows.count_is;
      };
      view = part.view ∙ ap (λ (n : ℕ). noted_more (looked mid part.looks) (Partial (place + 2) n part.count ∷ [])) count_is
          ∙ ap (λ (v : ServiceView). noted_more (looked v part.looks) notes) seen.view
          ∙ ap (λ (l : List Look). noted_more (record old { looks = l }) notes) (append_assoc old.looks seen.looks part.looks);
      found = subst (λ (n : ℕ). IsFoundPart new (place + 2) n part.count) count_is part.found;
      same = λ first is. part.same first (subst (λ (n : ℕ). found_among place n part.count new.looks ≡ Some first) (sym count_is) is);
    }

-- Writer by writer

pub scrapes_add : (setup : Setup) (places : List ℕ) (place : ℕ) (old mid new : ServiceView) → ScrapesEach setup places old mid → ScrapesOne setup place mid new
    → ScrapesEach setup (places ++ place ∷ []) old new
scrapes_add setup [] place old mid new before one = (new, subst (λ (v : ServiceView). ScrapesOne setup place v new) before one, refl)
scrapes_add setup (p ∷ places) place old mid new before one = (before.0, before.1, scrapes_add setup places place before.0 mid new before.2 one)

-- what was taken stays
pub scrape_takes_none : (setup : Setup) (place : ℕ) (old new : ServiceView) → ScrapesOne setup place old new → new.taken ≡ old.taken
scrape_takes_none setup place old new (inl part) = ap (λ (v : ServiceView). v.taken) part.view
scrape_takes_none setup place old new (inr none) = ap (λ (v : ServiceView). v.taken) none.view
