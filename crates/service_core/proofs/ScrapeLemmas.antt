-- The service agrees with its seat's view again once finished fragments of a chunk arrived.
use Rattle.std.proofs.Common.{◌≡◌, ◌∙◌, ℕ, zero, suc, ◌+◌, ◌-◌, ◌%◌, ◌^◌, ◌<◌, ◌≤◌, ◌⊎◌, Bool, true, false, ◌&&◌, List, [], ◌∷◌, length, Option, Some, None, refl, sym, ap, subst, arith, inl, inr, append-nil}
use Rattle.std.specs.Prelude.{cond, ◌==◌}
use Rattle.std.specs.List.{flat_map}
use Rattle.std.proofs.lemmas.Bool.{cases_eq, eq-eqb, false≢true}
use Rattle.std.proofs.lemmas.Option.{same_Some}
use mathlib.Core.Option.{some-injective}
use Rattle.trace_base.proofs.Lists.{begins}
use Rattle.page_geometry.specs.Header.{packed}
use Rattle.trace_model.specs.Fragments.{drop_size}
use Rattle.trace_model.specs.Images.{Image, Fragment, whole_chunk}
use Rattle.trace_model.specs.Reading.{Reading, Fragments, Unreadable, reading_of}
use Rattle.trace_model.specs.Sequences.{is_known}
use Rattle.trace_model.specs.Buffers.{Buffer}
use Rattle.trace_model.specs.Arrivals.{partial_arrival_of, settled}
use Rattle.trace_model.specs.History as model
use Rattle.trace_model.specs.History.{buffer_after, buffers_after}
use Rattle.chunk_plain.specs.declared.tokens.Seen.{Seen}
use Rattle.chunk_plain.specs.Setup.{Setup, spot, producer_of, IsChunkOf, id_at}
use Rattle.chunk_plain.specs.Payload.{byte_in}
use Rattle.chunk_plain.specs.Views.{At, Found, Look, Noted, Partial, ServiceView, taken_of}
use Rattle.chunk_plain.specs.Drafts.{IsFound}
use Rattle.chunk_plain.specs.Histories.{is_scraped, found_among, once_read, part_of, happened}
use Rattle.chunk_plain.specs.Steps.{taken_counts}
use Rattle.chunk_plain.specs.Words.{LooksAt, LooksAgree, FoundAlike, ShowsFound}
use Rattle.chunk_plain.proofs.Lists.{at_seam}
use Rattle.chunk_plain.proofs.Agreeing.{found_alike}
use Rattle.world_model.proofs.PartLemmas.{IsLooked, looked as as_looked}
use Rattle.service_core.specs.declared.service.ServiceCore.{ServiceCore}
use Rattle.service_core.specs.Routing.{partial_arrivals_of}
use Rattle.service_core.specs.Agreement.{ServiceAgrees, KeepsFields, is_closed}
use Rattle.service_core.specs.Order.{LeadTo, IsFoundPart}
use Rattle.service_core.specs.Looking.{looked}
use Rattle.service_core.specs.Taking.{noted_more}
use Rattle.service_core.specs.Scraping.{IsPart, PartLooked, TakesPart}
use Rattle.service_core.proofs.PartLemmas.{seen_part}
use Rattle.service_core.proofs.TakingLemmas.{counts_at}
use Rattle.service_core.proofs.RouteLemmas.{NoCloses, closes_none}
use Rattle.service_core.proofs.RoutedLemmas.{closed_by_none}
use Rattle.service_core.proofs.OrderLemmas.{lead_part, lead_part_other}
use Rattle.service_core.proofs.CloseLemmas.{agrees_noted}
use Rattle.service_core.proofs.FrontReading.{front_reads}

-- The first look that found so much

-- where a look among these found so many fragments, there is a first one that did
first_there : (place position count : ℕ) (looks : List Look) (n : ℕ) (look : Look) (found : Found) → At looks n look → look.found ≡ Some found
    → found.place ≡ place → found.position ≡ position → length found.ends ≡ count → (first : Found) × (found_among place position count looks ≡ Some first)
first_there place position count [] n look found at is place_is position_is count_is = absurd (cc)
first_there place position count (first ∷ looks) zero look found at is place_is position_is count_is =
    let same : first ≡ look = some-injective first look at in
    let here : first.found ≡ Some found = ap (λ (l : Look). l.found) same ∙ is in
    let test : is_scraped place position count first.found ≡ true =
    ap (is_scraped place position count) here
    ∙ (ap (λ (a : Bool). (a && (found.position == position)) && (length found.ends == count)) (eq-eqb found.place place place_is)
    ∙ (ap (λ (b : Bool). (true && b) && (length found.ends == count)) (eq-eqb found.position position position_is)
    ∙ ap (λ (c : Bool). (true && true) && c) (eq-eqb (length found.ends) count count_is))) in
    (found, ap (λ (b : Bool). cond b first.found (found_among place position count looks)) test ∙ here)
first_there place position count (first ∷ looks) (suc n) look found at is place_is position_is count_is =
    step (is_scraped place position count first.found) refl first.found refl (first_there place position count looks n look found at is place_is position_is count_is)
  where
    step : (b : Bool) → is_scraped place position count first.found ≡ b → (o : Option Found) → first.found ≡ o → (later : Found) × (found_among place position count looks ≡ Some later)
        → (one : Found) × (found_among place position count (first ∷ looks) ≡ Some one)
    step false test o here rest = (rest.0, ap (λ (b : Bool). cond b first.found (found_among place position count looks)) test ∙ rest.1)
    step true test None here rest = absurd (false≢true (sym (ap (is_scraped place position count) here) ∙ test))
    step true test (Some one) here rest = (one, ap (λ (b : Bool). cond b first.found (found_among place position count looks)) test ∙ here)

pub record FirstFound (place position count : ℕ) (looks : List Look) : Type 0 where
  pub found : Found
  pub looked : found_among place position count looks ≡ Some found
  pub is : IsLooked place position count looks found

pub first_found : (place position count : ℕ) (looks : List Look) (n : ℕ) (look : Look) (found : Found) → At looks n look → look.found ≡ Some found
    → found.place ≡ place → found.position ≡ position → length found.ends ≡ count → FirstFound place position count looks
first_found place position count looks n look found at is place_is position_is count_is =
    let one = first_there place position count looks n look found at is place_is position_is count_is in
    record { found = one.0; looked = one.1; is = as_looked place position count looks one.0 one.1 }

-- it found what this one did
part_same : (view : ServiceView) (place position count n : ℕ) (look : Look) (found first : Found) → LooksAgree view → At view.looks n look → look.found ≡ Some found
    → found.place ≡ place → found.position ≡ position → length found.ends ≡ count → found_among place position count view.looks ≡ Some first → FoundAlike first found
part_same view place position count n look found first alike at is place_is position_is count_is among =
    let one = first_found place position count view.looks n look found at is place_is position_is count_is in
    subst (λ (f : Found). FoundAlike f found) (same_Some one.found first (sym one.looked ∙ among))
    (found_alike view alike one.is.number n one.is.look look one.found found one.is.at one.is.found_is at is (one.is.place_is ∙ sym place_is) (one.is.position_is ∙ sym position_is) (one.is.count_is ∙ sym count_is))

-- A part that was noted stands on the look before it.
pub part_shown : (setup : Setup) (old mid new : ServiceView) (place chunk : ℕ) (seen : Seen) (at writer id position finished : ℕ) → LooksAt setup chunk seen.word.0 seen.header old mid
    → LooksAgree mid → at ≡ (spot setup chunk).place → writer ≡ place + 1 → id ≡ id_at setup place position → position < 2 ^ 32 → position ≡ (taken_of old place).count
    → IsPart seen at writer id finished
    → IsChunkOf setup (producer_of setup place) chunk → new ≡ noted_more mid (Partial (place + 2) position finished ∷ [])
    → IsFoundPart new (place + 2) position finished → TakesPart setup place old new
part_shown setup old mid new place chunk seen at writer id position finished looks alike at_is writer_is id_is small next part own view found =
    let one = seen_part setup old mid place chunk seen at writer id position finished looks at_is writer_is id_is small part in
    let look : Look = record { chunk = chunk; word = seen.word.0; header = packed seen.header; found = looks.found; taken = taken_counts old } in
    let position_is : one.found.position ≡ (taken_of old place).count = one.position_is ∙ next in
    let seam : At mid.looks (length old.looks) look = subst (λ (v : ServiceView). At v.looks (length old.looks) look) (sym looks.view) (at_seam old.looks [] look) in
    let stays : new.looks ≡ mid.looks = ap (λ (v : ServiceView). v.looks) view in
    record {
      looks = look ∷ [];
      count = finished;
      some = part.some;
      shows = record {
        n = 0;
        look = look;
        at = refl;
        own = own;
        since = counts_at old place;
        found = one.found;
        found_is = one.found_is;
        place_is = one.place_is;
        position_is = position_is;
        count_is = one.count_is;
      };
      view = view ∙ ap (λ (v : ServiceView). noted_more v (Partial (place + 2) position finished ∷ [])) looks.view
          ∙ ap (λ (i : ℕ). noted_more (looked old (look ∷ [])) (Partial (place + 2) i finished ∷ [])) next;
      found = subst (λ (i : ℕ). IsFoundPart new (place + 2) i finished) next found;
      same = λ first is.
          part_same mid place (taken_of old place).count finished (length old.looks) look one.found first alike seam one.found_is one.place_is position_is one.count_is
          (subst (λ (ls : List Look). found_among place (taken_of old place).count finished ls ≡ Some first) stays is);
    }

-- What arrives

-- of a part only flag 1 is looked at
same_part : (b : Buffer) (q position one other : ℕ) (fragments : List Fragment) → one % 2 ≡ other % 2
    → buffer_after b (model.ArrivesInPart q position (whole_chunk one fragments)) ≡ buffer_after b (model.ArrivesInPart q position (whole_chunk other fragments))
same_part b q position one other fragments same =
    ap (λ (n : ℕ). cond (is_known b.sequences q)
    (settled (partial_arrival_of b q position (length fragments)) b q position (record { continues = n == 1; runs_on = false; awaits = false; partial = true; fragments = fragments })) b) same

same_parts : (bs : List Buffer) (q position one other : ℕ) (reading : Reading) → one % 2 ≡ other % 2
    → buffers_after bs (once_read (λ chunk. model.ArrivesInPart q position chunk) one reading) ≡ buffers_after bs (once_read (λ chunk. model.ArrivesInPart q position chunk) other reading)
same_parts bs q position one other (Unreadable number) same = refl
same_parts [] q position one other (Fragments fragments) same = refl
same_parts (b ∷ bs) q position one other (Fragments fragments) same =
    ap (λ (x : Buffer). x ∷ buffers_after bs (model.ArrivesInPart q position (whole_chunk one fragments) ∷ [])) (same_part b q position one other fragments same)
    ∙ ap (λ (rest : List Buffer). buffer_after b (model.ArrivesInPart q position (whole_chunk other fragments)) ∷ rest) (same_parts bs q position one other (Fragments fragments) same)

-- a loaded payload reads as the fragments that were found
loaded_reads : (found : Found) (count : ℕ) (payload : List ℕ) → IsFound found → length found.ends ≡ count → length found.sealed ≤ length payload
    → ((j : ℕ) → j < length found.sealed → byte_in payload j ≡ byte_in found.sealed j) → length payload < drop_size → reading_of count payload ≡ reading_of count found.sealed
loaded_reads found count payload is count_is long same small =
    let front = begins 0 found.sealed payload long same in
    let whole = is.whole in
    ap (λ (n : ℕ). reading_of n payload) (sym count_is)
    ∙ ap (reading_of (length found.ends)) front.1
    ∙ front_reads found.sealed front.0 found.ends is.sealed.reads (omega (arith, whole)) (omega (arith, long, small))
    ∙ ap (λ (n : ℕ). reading_of n found.sealed) count_is

pub no_closes : (image : Image) → NoCloses (partial_arrivals_of image)
no_closes image = closes_none (λ chunk. model.ArrivesInPart image.sequence image.chunk_id chunk) (λ chunk. refl) image.flags (reading_of image.count image.payload)

-- Finished fragments of a chunk arrived, of which a look found so many, and are noted.
module _ {S : Type 0} (setup : Setup) (old : ServiceView) (core done : ServiceCore S) (place chunk position count flags front : ℕ) (payload : List ℕ)
    (agrees : ServiceAgrees setup old core) (alike : LooksAgree old) (looked : PartLooked old chunk place position count flags) where
  first : FirstFound (place + 2 - 2) position count old.looks
  first = first_found (place + 2 - 2) position count old.looks looked.number looked.look looked.found looked.at looked.found_is (looked.place_is ∙ (let back : place ≡ place + 2 - 2 = omega arith in back)) looked.position_is looked.count_is

  same : FoundAlike first.found looked.found
  same = found_alike old alike first.is.number looked.number first.is.look looked.look first.found looked.found first.is.at first.is.found_is looked.at looked.found_is
      (first.is.place_is ∙ (let back : place + 2 - 2 ≡ place = omega arith in back) ∙ sym looked.place_is) (first.is.position_is ∙ sym looked.position_is) (first.is.count_is ∙ sym looked.count_is)

  pub part_found : 0 < count → IsFoundPart (noted_more old (Partial (place + 2) position count ∷ [])) (place + 2) position count
  part_found some = record { found = first.found; looked = first.looked; some = let many = first.is.count_is in omega (arith, many, some) }

  module _ (keeps : KeepsFields core done) (open_here : is_closed setup core place ≡ false) (next : position ≡ (taken_of old place).count) (some : 0 < count)
      (front_is : front % 2 ≡ flags % 2) (shows : ShowsFound old chunk payload) (small : length payload < drop_size)
      (buffers_are : let image : Image = record { sequence = place + 2; chunk_id = position; count = count; flags = front; payload = payload } in done.buffers.items ≡ buffers_after core.buffers.items (partial_arrivals_of image))
      (taken_is : done.taken.items ≡ core.taken.items) where
    -- what arrived is what the note says
    part_happened : let image : Image = record { sequence = place + 2; chunk_id = position; count = count; flags = front; payload = payload } in
        buffers_after core.buffers.items (partial_arrivals_of image)
        ≡ buffers_after core.buffers.items (flat_map (happened (noted_more old (Partial (place + 2) position count ∷ []))) (Partial (place + 2) position count ∷ []))
    part_happened =
        let bs : List Buffer = core.buffers.items in
        let found = looked.found in
        let untaken : (taken_of old found.place).count ≤ found.position =
        let counts : (taken_of old found.place).count ≡ (taken_of old place).count = ap (λ (p : ℕ). (taken_of old p).count) looked.place_is in
        let is = looked.position_is in omega (arith, counts, is, next) in
        let loaded = shows looked.number looked.look found looked.at looked.chunk_is looked.found_is untaken in
        let reads = loaded_reads found count payload looked.is looked.count_is loaded.0 loaded.1 small in
        let flag_is : front % 2 ≡ first.found.head.flags % 2 = front_is ∙ sym looked.front ∙ sym (same.front (let many = first.is.count_is in omega (arith, many, some))) in
        ap (λ (r : Reading). buffers_after bs (once_read (λ chunk. model.ArrivesInPart (place + 2) position chunk) front r)) (reads ∙ ap (reading_of count) (sym same.sealed))
        ∙ same_parts bs (place + 2) position front first.found.head.flags (reading_of count first.found.sealed) flag_is
        ∙ ap (λ (o : Option Found). buffers_after bs (part_of (place + 2) position count o)) (sym first.looked)
        ∙ ap (buffers_after bs) (sym (append-nil (part_of (place + 2) position count (found_among (place + 2 - 2) position count old.looks))))

    stays : (other : ℕ) → other < length setup.writers → is_closed setup done other ≡ is_closed setup core other
    stays other inside =
        let image : Image = record { sequence = place + 2; chunk_id = position; count = count; flags = front; payload = payload } in
        closed_by_none setup old core done other (partial_arrivals_of image) agrees buffers_are (no_closes image) inside

    leads : (other : ℕ) → other < length setup.writers → (other ≡ place) ⊎ (other ≡ place → ⊥)
        → LeadTo (noted_more old (Partial (place + 2) position count ∷ [])) (other + 2) (record { come = (taken_of old other).count; closed = is_closed setup core other; due = [] }) (Partial (place + 2) position count ∷ [])
        (record { come = (taken_of old other).count; closed = is_closed setup done other; due = [] })
    leads other inside (inl is) =
        let v : ServiceView = noted_more old (Partial (place + 2) position count ∷ []) in
        let notes : List Noted = Partial (place + 2) position count ∷ [] in
        let was : is_closed setup core other ≡ false = ap (is_closed setup core) is ∙ open_here in
        let now : is_closed setup done other ≡ false = stays other inside ∙ was in
        let counts : position ≡ (taken_of old other).count = next ∙ ap (λ (p : ℕ). (taken_of old p).count) (sym is) in
        subst (λ (b : Bool). LeadTo v (other + 2) (record { come = (taken_of old other).count; closed = is_closed setup core other; due = [] }) notes (record { come = (taken_of old other).count; closed = b; due = [] })) (sym now)
        (subst (λ (b : Bool). LeadTo v (other + 2) (record { come = (taken_of old other).count; closed = b; due = [] }) notes (record { come = (taken_of old other).count; closed = false; due = [] })) (sym was)
        (subst (λ (n : ℕ). LeadTo v (other + 2) (record { come = n; closed = false; due = [] }) notes (record { come = n; closed = false; due = [] })) counts
        (subst (λ (p : ℕ). LeadTo v (p + 2) (record { come = position; closed = false; due = [] }) notes (record { come = position; closed = false; due = [] })) (sym is)
        (lead_part v (place + 2) position count (part_found some)))))
    leads other inside (inr differs) =
        let v : ServiceView = noted_more old (Partial (place + 2) position count ∷ []) in
        subst (λ (b : Bool). LeadTo v (other + 2) (record { come = (taken_of old other).count; closed = is_closed setup core other; due = [] }) (Partial (place + 2) position count ∷ []) (record { come = (taken_of old other).count; closed = b; due = [] }))
        (sym (stays other inside))
        (lead_part_other v (other + 2) (place + 2) position count (taken_of old other).count (is_closed setup core other) (λ e. differs (let is : other ≡ place = omega (arith, e) in is)))

    pub agrees_part : ServiceAgrees setup (noted_more old (Partial (place + 2) position count ∷ [])) done
    agrees_part =
        agrees_noted setup old core done (Partial (place + 2) position count ∷ []) agrees keeps (buffers_are ∙ part_happened) taken_is ((first.found, first.looked), tt)
        (λ other inside none. leads other inside (cases_eq other place))
