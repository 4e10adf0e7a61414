-- What a view has once chunks of a writer were taken.
use Rattle.std.proofs.Common.{◌≡◌, ◌≢◌, ◌∙◌, ℕ, ◌+◌, ◌-◌, ◌<◌, ◌⊎◌, Bool, List, [], ◌∷◌, ◌++◌, length, Some, get_or, set, refl, sym, ap, subst, arith, length-append, inl, inr}
use Rattle.std.specs.Prelude.{slice_get, cond, None, ◌^◌}
use Rattle.std.proofs.Math.ListN.{get_or-map}
use Rattle.std.proofs.lemmas.List.{get_or-set_same, get_or-set_other, set-set}
use Rattle.std.proofs.Math.Seq.{get_or-append_seam}
use Rattle.std.proofs.lemmas.Option.{slice_get-get_or}
use Rattle.std.proofs.lemmas.Bool.{cases_eq, eq-eqb}
use Rattle.trace_base.proofs.Lists.{get_more}
use Rattle.page_geometry.specs.Header.{packed}
use Rattle.chunk_plain.specs.declared.tokens.Taken.{Taken as TakenToken}
use Rattle.chunk_plain.specs.declared.tokens.NotComplete.{NotComplete}
use Rattle.chunk_plain.specs.Setup.{Setup, id_at}
use Rattle.chunk_plain.specs.Words.{taken_content, TakesChunk, FindsOther, AllArrived, LacksArrival}
use Rattle.chunk_plain.specs.Views.{Content, Look, Taken, none_taken, ServiceView, taken_of}
use Rattle.chunk_plain.specs.Steps.{without, taken_counts, looks_at, takes_in, learns, lets_go}
use Rattle.chunk_plain.specs.Histories.{content_at}
use Rattle.chunk_plain.proofs.ArrivedLemmas.{takes_lacks}
use Rattle.service_core.specs.Looking.{looked}
use Rattle.service_core.specs.Taking.{takings, noted_more, taken_more, took, SeesOther}
use Rattle.service_core.proofs.HistoryLemmas.{Grows, found_more}

-- of this writer, and of each other one
pub taken_here : (view : ServiceView) (place : ℕ) (looks : List Look) (contents : List Content) → place < length view.taken
    → taken_of (took view place looks contents) place ≡ taken_more (taken_of view place) contents
taken_here view place looks contents inside = get_or-set_same view.taken place (taken_more (taken_of view place) contents) none_taken inside

pub taken_other : (view : ServiceView) (place other : ℕ) (looks : List Look) (contents : List Content) → other ≢ place
    → taken_of (took view place looks contents) other ≡ taken_of view other
taken_other view place other looks contents differs = get_or-set_other view.taken place other (taken_more (taken_of view place) contents) none_taken differs

pub took_grows : (view : ServiceView) (place : ℕ) (looks : List Look) (contents : List Content) → place < length view.taken → Grows view (took view place looks contents)
took_grows view place looks contents inside = record {
  contents = λ sequence position content is. by_place sequence position content is (cases_eq (sequence - 2) place);
  looks = λ p position count found is. found_more p position count view.looks looks found is;
  commits = λ k committed is. is;
}
  where
    by_place : (sequence position : ℕ) (content : Content) → content_at view sequence position ≡ Some content
        → (sequence - 2 ≡ place) ⊎ (sequence - 2 ≡ place → ⊥) → content_at (took view place looks contents) sequence position ≡ Some content
    by_place sequence position content is (inl same) =
        let before : slice_get (taken_of view place).contents position ≡ Some content = subst (λ p. slice_get (taken_of view p).contents position ≡ Some content) same is in
        ap (λ (p : ℕ). slice_get (taken_of (took view place looks contents) p).contents position) same
        ∙ ap (λ (t : Taken). slice_get t.contents position) (taken_here view place looks contents inside)
        ∙ get_more (taken_of view place).contents contents position content before
    by_place sequence position content is (inr differs) =
        ap (λ (t : Taken). slice_get t.contents position) (taken_other view place (sequence - 2) looks contents differs) ∙ is

pub looked_grows : (view : ServiceView) (looks : List Look) → Grows view (looked view looks)
looked_grows view looks = record {
  contents = λ sequence position content is. is;
  looks = λ p position count found is. found_more p position count view.looks looks found is;
  commits = λ k committed is. is;
}

-- the content of the chunk that was taken last
pub last_content : (view : ServiceView) (place : ℕ) (looks : List Look) (content : Content) → place < length view.taken
    → length (taken_of view place).contents ≡ (taken_of view place).count
    → content_at (took view place looks (content ∷ [])) (place + 2) (taken_of view place).count ≡ Some content
last_content view place looks content inside level =
    let t : Taken = taken_of view place in
    let back : place + 2 - 2 ≡ place = omega arith in
    let long = length-append t.contents (content ∷ []) in
    ap (λ (p : ℕ). slice_get (taken_of (took view place looks (content ∷ [])) p).contents t.count) back
    ∙ ap (λ (x : Taken). slice_get x.contents t.count) (taken_here view place looks (content ∷ []) inside)
    ∙ ap (λ (i : ℕ). slice_get (t.contents ++ content ∷ []) i) (sym level)
    ∙ slice_get-get_or (t.contents ++ content ∷ []) (length t.contents) content (omega (arith, long))
    ∙ ap (λ (c : Content). Some c) (get_or-append_seam t.contents content [] content)

-- the steps by which one chunk is taken, and its notes
pub took_is : (old : ServiceView) (place chunk word header position : ℕ) (content : Content) → old.reading ≡ [] → place < length old.taken → position ≡ (taken_of old place).count
    → lets_go (noted_more (learns (takes_in (looks_at old chunk word header None) place chunk) place content) (takings (place + 2) position (content ∷ []))) chunk
    ≡ took old place (record { chunk = chunk; word = word; header = header; found = None; taken = taken_counts old } ∷ []) (content ∷ [])
took_is old place chunk word header position content none inside is =
    let t : Taken = taken_of old place in
    let counted : Taken = record t { count = t.count + 1 } in
    let look : Look = record { chunk = chunk; word = word; header = header; found = None; taken = taken_counts old } in
    let mid : List Taken = set old.taken place counted in
    let same = get_or-set_same old.taken place counted none_taken inside in
    let taken_is : set mid place (record (get_or mid place none_taken) { contents = (get_or mid place none_taken).contents ++ content ∷ [] }) ≡ set old.taken place (taken_more t (content ∷ [])) =
    ap (λ (x : Taken). set mid place (record x { contents = x.contents ++ content ∷ [] })) same ∙ set-set old.taken place counted (taken_more t (content ∷ [])) in
    let reading_is : without chunk (old.reading ++ chunk ∷ []) ≡ old.reading =
    ap (λ (r : List ℕ). without chunk (r ++ chunk ∷ [])) none ∙ ap (λ (b : Bool). cond b [] (chunk ∷ [])) (eq-eqb chunk chunk refl) ∙ sym none in
    ap (λ (ts : List Taken). record old { looks = old.looks ++ look ∷ []; taken = ts; reading = without chunk (old.reading ++ chunk ∷ []); events = old.events ++ takings (place + 2) position (content ∷ []) }) taken_is
    ∙ ap (λ (r : List ℕ). record old { looks = old.looks ++ look ∷ []; taken = set old.taken place (taken_more t (content ∷ [])); reading = r; events = old.events ++ takings (place + 2) position (content ∷ []) }) reading_is
    ∙ ap (λ (i : ℕ). record old { looks = old.looks ++ look ∷ []; taken = set old.taken place (taken_more t (content ∷ [])); events = old.events ++ takings (place + 2) i (content ∷ []) }) is

-- how many were taken of a writer, as a look keeps it
pub counts_at : (view : ServiceView) (place : ℕ) → get_or (taken_counts view) place 0 ≡ (taken_of view place).count
counts_at view place = get_or-map (λ (t : Taken). t.count) view.taken place none_taken

-- a chunk that was taken, noted and given back is one taken of its writer
pub one_of : (setup : Setup) (old mid new : ServiceView) (place chunk id position : ℕ) (taken : TakenToken) → old.reading ≡ [] → place < length old.taken
    → position ≡ (taken_of old place).count → TakesChunk setup chunk (place + 1) id taken old mid
    → new ≡ lets_go (noted_more mid (takings (place + 2) position (taken_content setup place position taken ∷ []))) taken.chunk
    → (look : Look) × (new ≡ took old place (look ∷ []) (taken_content setup place position taken ∷ []))
one_of setup old mid new place chunk id position taken none inside is takes after =
    let content : Content = taken_content setup place position taken in
    let back : place + 1 - 1 ≡ place = omega arith in
    let mid_is : mid ≡ learns (takes_in (looks_at old chunk takes.word (packed taken.header) None) place chunk) place content =
    takes.view
    ∙ ap (λ (p : ℕ). learns (takes_in (looks_at old chunk takes.word (packed taken.header) None) p chunk) p (taken_content setup p (taken_of old p).count taken)) back
    ∙ ap (λ (n : ℕ). learns (takes_in (looks_at old chunk takes.word (packed taken.header) None) place chunk) place (taken_content setup place n taken)) (sym is) in (
      record { chunk = chunk; word = takes.word; header = packed taken.header; found = None; taken = taken_counts old },
      after
          ∙ ap (λ (v : ServiceView). lets_go (noted_more v (takings (place + 2) position (content ∷ []))) taken.chunk) mid_is
          ∙ ap (λ (c : ℕ). lets_go (noted_more (learns (takes_in (looks_at old chunk takes.word (packed taken.header) None) place chunk) place content) (takings (place + 2) position (content ∷ []))) c) takes.chunk_is
          ∙ took_is old place chunk takes.word (packed taken.header) position content none inside is,
    )

-- a chunk that wasn't the next one was looked at
pub other_of : (setup : Setup) (old new : ServiceView) (place chunk id : ℕ) (found : NotComplete) → id ≡ id_at setup place (taken_of old place).count
    → found.header.chunk_id < 2 ^ 32 → found.header.writer_id < 2 ^ 16 → FindsOther setup chunk (place + 1) id found old new → SeesOther setup place chunk old new
other_of setup old new place chunk id found is id_fits writer_fits finds = record {
  look = record { chunk = chunk; word = found.word.0; header = packed found.header; found = finds.look.found; taken = taken_counts old };
  view = finds.look.view;
  chunk_is = refl;
  since = counts_at old place;
  shows = record { header = found.header; header_is = refl; id_fits = id_fits; writer_fits = writer_fits; other = λ complete writer id_is. finds.other complete writer (id_is ∙ sym is) };
}

-- behind the taking of a chunk all else that was taken has arrived
pub lacks_of : (setup : Setup) (old mid : ServiceView) (place chunk id position : ℕ) (taken : TakenToken) → place < length old.taken
    → position ≡ (taken_of old place).count → TakesChunk setup chunk (place + 1) id taken old mid → AllArrived old
    → LacksArrival mid place position
lacks_of setup old mid place chunk id position taken inside is takes all =
    let back : place + 1 - 1 ≡ place = omega arith in
    let lacks = takes_lacks setup old mid chunk (place + 1) id taken takes (omega (arith, inside)) all in
    subst (λ (n : ℕ). LacksArrival mid place n) (sym is) (subst (λ (p : ℕ). LacksArrival mid p (taken_of old p).count) back lacks)
