-- Which of the chunks that were taken have arrived, behind more notes and where one more is taken.
use Rattle.std.proofs.Common.{◌≡◌, ◌≢◌, ℕ, ◌+◌, ◌-◌, ◌<◌, inl, inr, Bool, true, ◌&&◌, ◌||◌, List, [], ◌∷◌, ◌++◌, length, get_or, set, None, subst, sym, refl, ap, ◌∙◌, arith, ⊎_elim, length-set}
use Rattle.std.specs.Prelude.{◌==◌}
use Rattle.std.proofs.Math.Bool.{or-true}
use Rattle.std.proofs.lemmas.Bool.{eq-eqb}
use Rattle.std.proofs.lemmas.List.{get_or-set_same, get_or-set_other}
use Rattle.std.proofs.lemmas.List.Folds.{list_any-append}
use native.Mathlib.Decide.{ℕ_discrete}
use mathlib.Core.Logic.{dite}
use Rattle.page_geometry.specs.Header.{packed}
use Rattle.chunk_plain.specs.declared.tokens.Taken.{Taken as TakenToken}
use Rattle.chunk_plain.specs.Setup.{Setup, sequence_of}
use Rattle.chunk_plain.specs.Views.{Content, Taken, none_taken, Noted, Arrive, ServiceView, taken_of}
use Rattle.chunk_plain.specs.Steps.{looks_at, takes_in, learns}
use Rattle.chunk_plain.specs.Words.{is_arrival_note, is_arrival_noted, AllArrived, OthersArrived, LacksArrival, taken_content, TakesChunk}
use Rattle.chunk_plain.specs.Plain.{first_world}
use Rattle.chunk_plain.proofs.MadeLemmas.{all_same}

-- where nothing was taken nothing lacks
pub none_lacks : (view : ServiceView) → ((place : ℕ) → (taken_of view place).count ≡ 0) → AllArrived view
none_lacks view none place position low = absurd (let nothing = none place in omega (arith, low, nothing))

-- as at a table that nobody has used
pub first_arrived : (setup : Setup) → AllArrived (first_world setup).service
first_arrived setup = none_lacks (first_world setup).service (λ place. ap (λ (t : Taken). t.count) (all_same none_taken setup.writers place))

-- what has arrived has so behind more notes
pub arrival_stays : (sequence position : ℕ) (notes more : List Noted) → is_arrival_noted sequence position notes ≡ true
    → is_arrival_noted sequence position (notes ++ more) ≡ true
arrival_stays sequence position notes more has =
    list_any-append (is_arrival_note sequence position) notes more ∙ ap (λ (b : Bool). b || is_arrival_noted sequence position more) has

-- an arrival that is noted has been
here : (sequence position : ℕ) (notes more : List Noted)
    → is_arrival_noted sequence position (notes ++ Arrive sequence position ∷ more) ≡ true
here sequence position notes more =
    let same : ((sequence == sequence) && (position == position)) ≡ true =
    ap (λ (b : Bool). b && (position == position)) (eq-eqb sequence sequence refl) ∙ eq-eqb position position refl in
    list_any-append (is_arrival_note sequence position) notes (Arrive sequence position ∷ more)
    ∙ ap (λ (b : Bool). is_arrival_noted sequence position notes || (b || is_arrival_noted sequence position more)) same
    ∙ or-true (is_arrival_noted sequence position notes)

-- behind more notes all have arrived still
pub arrived_on : (view : ServiceView) (more : List Noted) → AllArrived view → AllArrived (record view { events = view.events ++ more })
arrived_on view more all place position low = arrival_stays (sequence_of place) position view.events more (all place position low)

-- and where the same is taken and noted
pub arrived_alike : (old new : ServiceView) → new.taken ≡ old.taken → new.events ≡ old.events → AllArrived old → AllArrived new
arrived_alike old new taken events all place position low =
    subst (λ (notes : List Noted). is_arrival_noted (sequence_of place) position notes ≡ true) (sym events)
    (all place position (subst (λ (rows : List Taken). position < (get_or rows place none_taken).count) taken low))

-- where all but one have, and the arrival of that one is noted, all have
pub all_arrived : (view : ServiceView) (place position : ℕ) (more : List Noted) → OthersArrived view place position
    → AllArrived (record view { events = view.events ++ Arrive (sequence_of place) position ∷ more })
all_arrived view place position more others other number low =
    let notes : List Noted = view.events ++ Arrive (sequence_of place) position ∷ more in
    ⊎_elim
    (λ before. arrival_stays (sequence_of other) number view.events (Arrive (sequence_of place) position ∷ more) before)
    (λ this. subst (λ (p : ℕ). is_arrival_noted (sequence_of p) number notes ≡ true) (sym this.0)
    (subst (λ (n : ℕ). is_arrival_noted (sequence_of place) n notes ≡ true) (sym this.1)
    (here (sequence_of place) position view.events more)))
    (others other number low)

-- one chunk more is taken of a writer: all but that one have
pub others_arrived : (old new : ServiceView) (place : ℕ) → new.events ≡ old.events
    → (taken_of new place).count ≡ (taken_of old place).count + 1
    → ((other : ℕ) → other ≢ place → (taken_of new other).count ≡ (taken_of old other).count) → AllArrived old
    → OthersArrived new place (taken_of old place).count
others_arrived old new place events count counts all other number low =
    dite (ℕ_discrete other place)
    (λ same.
    let below : number < (taken_of new place).count = subst (λ (p : ℕ). number < (taken_of new p).count) same low in
    dite (ℕ_discrete number (taken_of old place).count)
    (λ last. inr (same, last))
    (λ earlier. inl (subst (λ (notes : List Noted). is_arrival_noted (sequence_of other) number notes ≡ true) (sym events)
    (subst (λ (p : ℕ). is_arrival_noted (sequence_of p) number old.events ≡ true) (sym same)
    (all place number (omega (arith, below, count, earlier)))))))
    (λ differs. inl (subst (λ (notes : List Noted). is_arrival_noted (sequence_of other) number notes ≡ true) (sym events)
    (all other number (let same = counts other differs in omega (arith, low, same)))))

-- so it is behind the steps by which the service takes a chunk
next_lacks : (old : ServiceView) (place chunk word header : ℕ) (content : Content) → place < length old.taken → AllArrived old
    → LacksArrival (learns (takes_in (looks_at old chunk word header None) place chunk) place content) place (taken_of old place).count
next_lacks old place chunk word header content inside all =
    let counted : Taken = record (taken_of old place) { count = (taken_of old place).count + 1 } in
    let mid : List Taken = set old.taken place counted in
    let between : ServiceView = takes_in (looks_at old chunk word header None) place chunk in
    let learnt : Taken = record (taken_of between place) { contents = (taken_of between place).contents ++ content ∷ [] } in
    let within : place < length mid = let long = length-set old.taken place counted in omega (arith, long, inside) in
    let new : ServiceView = learns between place content in
    let count : (taken_of new place).count ≡ (taken_of old place).count + 1 =
    ap (λ (t : Taken). t.count) (get_or-set_same mid place learnt none_taken within)
    ∙ ap (λ (t : Taken). t.count) (get_or-set_same old.taken place counted none_taken inside) in
    record {
      taken = omega (arith, count);
      others = others_arrived old new place refl count
          (λ other differs. ap (λ (t : Taken). t.count) (get_or-set_other mid place other learnt none_taken differs)
          ∙ ap (λ (t : Taken). t.count) (get_or-set_other old.taken place other counted none_taken differs))
          all;
    }

-- and behind a call that took it
pub takes_lacks : (setup : Setup) (old new : ServiceView) (chunk writer id : ℕ) (taken : TakenToken)
    → TakesChunk setup chunk writer id taken old new → writer - 1 < length old.taken → AllArrived old
    → LacksArrival new (writer - 1) (taken_of old (writer - 1)).count
takes_lacks setup old new chunk writer id taken takes inside all =
    let content : Content = taken_content setup (writer - 1) (taken_of old (writer - 1)).count taken in
    subst (λ (view : ServiceView). LacksArrival view (writer - 1) (taken_of old (writer - 1)).count) (sym takes.view)
    (next_lacks old (writer - 1) chunk takes.word (packed taken.header) content inside all)
