-- What the seats of the table of one thread have between two calls stays through each of them.
use Rattle.std.proofs.Common.{◌≡◌, ◌≢◌, ℕ, ◌+◌, ◌<◌, ◌≤◌, Bool, true, false, List, [], ◌∷◌, ◌++◌, length, set, get_or, subst, sym, refl, ap, ◌∙◌, arith, ⊎_elim, length-set, length-append}
use Rattle.std.proofs.lemmas.List.{get_or-set_same, get_or-set_other, set-set}
use native.Mathlib.Decide.{ℕ_discrete}
use mathlib.Core.Logic.{dite}
use Rattle.atomic_table.proofs.Lists.{at_set}
use Rattle.trace_model.specs.Calls.{Call}
use Rattle.chunk_plain.specs.Setup.{Setup, producer_of, IsChunkOf}
use Rattle.chunk_plain.specs.Views.{Ask, Draft, fresh, Content, BegunChunk, chunk_of, Held, Letters, WriterView, ServiceView, Taken, none_taken, taken_of, newcomer}
use Rattle.chunk_plain.specs.World.{World, Stamped, Writing, writer}
use Rattle.chunk_plain.specs.Steps.{claims, stamps, begins, redrafts, notes_call, takes_in, learns, moved}
use Rattle.chunk_plain.specs.Owned.{times}
use Rattle.chunk_plain.specs.Drafts.{draft_at, IsHolding}
use Rattle.chunk_plain.specs.Words.{IsAtRest, IsServing, HasClaimed}
use Rattle.chunk_plain.proofs.Lists.{changed, at_more, times-other, times-without_other}
use Rattle.chunk_plain.proofs.Holding.{redrafts_draft}

-- another writer's seat, where one writer's view changes
pub others_stay : (setup after : Setup) (world next : World) (place : ℕ) (view : WriterView) (other : ℕ) → after ≡ setup → next.writers ≡ set world.writers place view
    → IsAtRest setup other (writer world other) → other ≢ place → IsAtRest after other (writer next other) × (writer next other ≡ writer world other)
others_stay setup after world next place view other same is rests differs =
    let view_is : writer next other ≡ writer world other = ap (λ l. get_or l other newcomer) is ∙ get_or-set_other world.writers place other view newcomer differs in
    (subst (λ s. IsAtRest s other (writer next other)) (sym same) (subst (λ v. IsAtRest setup other v) (sym view_is) rests), view_is)

-- each writer's seat, where no writer's view changes
pub all_stay : (setup after : Setup) (world next : World) (other : ℕ) → after ≡ setup → next.writers ≡ world.writers
    → IsAtRest setup other (writer world other) → IsAtRest after other (writer next other) × (writer next other ≡ writer world other)
all_stay setup after world next other same is rests =
    let view_is : writer next other ≡ writer world other = ap (λ l. get_or l other newcomer) is in
    (subst (λ s. IsAtRest s other (writer next other)) (sym same) (subst (λ v. IsAtRest setup other v) (sym view_is) rests), view_is)

-- the service's seat, where its view stays
pub serving_stays : (setup after : Setup) (service next : ServiceView) → after ≡ setup → next ≡ service → IsServing setup service → IsServing after next × (next ≡ service)
serving_stays setup after service next same is serving =
    (subst (λ s. IsServing s next) (sym same) (subst (λ v. IsServing setup v) (sym is) serving), is)

-- the seat that makes the step, by what its view is then
pub seat_stays : (setup after : Setup) (place : ℕ) (view now : WriterView) → after ≡ setup → now ≡ view → IsAtRest setup place view → IsAtRest after place now
seat_stays setup after place view now same is rests = subst (λ s. IsAtRest s place now) (sym same) (subst (λ v. IsAtRest setup place v) (sym is) rests)

pub serves_stays : (setup after : Setup) (view now : ServiceView) → after ≡ setup → now ≡ view → IsServing setup view → IsServing after now
serves_stays setup after view now same is serving = (serving_stays setup after view now same is serving).0

module _ (setup : Setup) (place : ℕ) (view : WriterView) (rests : IsAtRest setup place view) where
  pub claims_rest : (chunk found : ℕ) (won : Bool) → IsChunkOf setup (producer_of setup place) chunk → IsAtRest setup place (claims view chunk found won)
  claims_rest chunk found true own = record {
    inside = rests.inside;
    stamped = rests.stamped;
    asked = λ i ask at. ⊎_elim (λ old. rests.asked i ask old) (λ new. subst (λ (a : Ask). IsChunkOf setup (producer_of setup place) a.chunk) new.1 own) (at_more view.asked _ ask i at);
    behind = λ i ask at. ⊎_elim (λ old. rests.behind i ask old) (λ new. subst (λ (a : Ask). a.calls ≤ length view.calls) new.1 (omega arith)) (at_more view.asked _ ask i at);
    claimed = λ other mine. dite (ℕ_discrete other chunk)
        (λ same. subst (IsChunkOf setup (producer_of setup place)) (sym same) own)
        (λ differs. rests.claimed other (let fewer = times-other other chunk view.claimed differs in omega arith));
    begun = rests.begun;
  }
  claims_rest chunk found false own = record {
    inside = rests.inside;
    stamped = rests.stamped;
    asked = λ i ask at. ⊎_elim (λ old. rests.asked i ask old) (λ new. subst (λ (a : Ask). IsChunkOf setup (producer_of setup place) a.chunk) new.1 own) (at_more view.asked _ ask i at);
    behind = λ i ask at. ⊎_elim (λ old. rests.behind i ask old) (λ new. subst (λ (a : Ask). a.calls ≤ length view.calls) new.1 (omega arith)) (at_more view.asked _ ask i at);
    claimed = rests.claimed;
    begun = rests.begun;
  }

  pub begins_rest : (chunk : ℕ) (words : List ℕ) → HasClaimed view chunk → IsAtRest setup place (begins (stamps view chunk) chunk words)
  begins_rest chunk words mine = record {
    inside = rests.inside;
    stamped = refl;
    asked = rests.asked;
    behind = rests.behind;
    claimed = λ other has. rests.claimed other (dite (ℕ_discrete other chunk)
        (λ same. subst (λ d. 0 < times d view.claimed) (sym same) mine)
        (λ differs. let fewer = times-without_other other chunk view.claimed differs in omega arith));
    begun = λ position entry at. ⊎_elim
        (λ old. rests.begun position entry old)
        (λ new. subst (λ (e : BegunChunk). IsChunkOf setup (producer_of setup place) (chunk_of e)) new.1 (rests.claimed chunk mine))
        (at_more view.begun (Held chunk (fresh words)) entry position at);
  }

  -- another entry for a held chunk
  pub entry_rest : (chunk position : ℕ) (entry : BegunChunk) → IsHolding view chunk position → chunk_of entry ≡ chunk → IsAtRest setup place (record view { begun = set view.begun position entry })
  entry_rest chunk position entry holding same = record {
    inside = rests.inside;
    stamped = rests.stamped;
    asked = rests.asked;
    behind = rests.behind;
    claimed = rests.claimed;
    begun = λ i other at. ⊎_elim
        (λ new. subst (λ (e : BegunChunk). IsChunkOf setup (producer_of setup place) (chunk_of e)) new.1 (subst (IsChunkOf setup (producer_of setup place)) (sym same) (rests.begun position (Held chunk (draft_at view position)) holding)))
        (λ old. rests.begun i other old.1)
        (at_set view.begun position i entry other at);
  }

  pub noted_rest : (calls : List Call) (letters : Letters) → length view.calls ≤ length calls → IsAtRest setup place (record view { calls = calls; letters = letters })
  noted_rest calls letters more = record {
    inside = rests.inside;
    stamped = rests.stamped;
    asked = rests.asked;
    behind = λ i ask at. let was = rests.behind i ask at in omega (arith, was, more);
    claimed = rests.claimed;
    begun = rests.begun;
  }

  pub notes_rest : (call : Call) → IsAtRest setup place (notes_call view call)
  notes_rest call = noted_rest (view.calls ++ call ∷ []) view.letters (let one = length-append view.calls (call ∷ []) in omega (arith, one))

-- the service has the content of the chunk that it took, when its take ends
pub takes_serving : (setup : Setup) (view : ServiceView) (place chunk : ℕ) (content : Content) → IsServing setup view → place < length setup.writers
    → IsServing setup (learns (takes_in view place chunk) place content)
takes_serving setup view place chunk content serving inside =
    let taken = taken_of view place in
    let within : place < length view.taken = let many = serving.writers in omega arith in
    let more : Taken = record taken { count = taken.count + 1 } in
    let middle = takes_in view place chunk in
    let read : taken_of middle place ≡ more = get_or-set_same view.taken place more none_taken within in
    let full : Taken = record (taken_of middle place) { contents = (taken_of middle place).contents ++ content ∷ [] } in
    record {
      writers = length-set middle.taken place full ∙ (length-set view.taken place more ∙ serving.writers);
      level = λ other. changed (λ (t : Taken). length t.contents ≡ t.count) middle.taken place other full none_taken (let same = length-set view.taken place more in omega arith)
          (λ _. subst (λ (t : Taken). length (t.contents ++ content ∷ []) ≡ t.count) (sym read) (let level = serving.level place in length-append taken.contents (content ∷ []) ∙ (let one : length taken.contents + 1 ≡ taken.count + 1 = omega arith in one)))
          (λ differs. subst (λ (t : Taken). length t.contents ≡ t.count) (sym (get_or-set_other view.taken place other more none_taken differs)) (serving.level other));
    }

-- the view and what stands in the chunk, as a table tells them after a step on a held chunk
pub told_drafted : (world next : World) (place chunk position : ℕ) (draft : Draft) → place < length world.writers → IsHolding (writer world place) chunk position
    → next ≡ moved world place (redrafts (writer world place) chunk position draft) chunk (Writing place position draft)
    → next ≡ moved world place (writer next place) chunk (Writing place position (draft_at (writer next place) position))
told_drafted world next place chunk position draft inside holding is =
    let view = redrafts (writer world place) chunk position draft in
    let view_is : writer next place ≡ view = ap (λ (w : World). writer w place) is ∙ get_or-set_same world.writers place view newcomer inside in
    let draft_is : draft_at (writer next place) position ≡ draft = ap (λ v. draft_at v position) view_is ∙ redrafts_draft (writer world place) chunk position draft holding in
    is ∙ (ap (λ d. moved world place view chunk (Writing place position d)) (sym draft_is) ∙ ap (λ v. moved world place v chunk (Writing place position (draft_at (writer next place) position))) (sym view_is))

-- the two steps of a begin, as one
pub begun_world : (world middle next : World) (place chunk : ℕ) (words : List ℕ) → place < length world.writers
    → middle ≡ moved world place (stamps (writer world place) chunk) chunk (Stamped place (length (writer world place).begun))
    → next ≡ moved middle place (begins (writer middle place) chunk words) chunk (Writing place (length (writer middle place).begun) (fresh words))
    → next ≡ moved world place (begins (stamps (writer world place) chunk) chunk words) chunk (Writing place (length (writer world place).begun) (fresh words))
begun_world world middle next place chunk words inside stamped begun =
    let v = writer world place in let stamp = stamps v chunk in let n = length v.begun in
    let first = moved world place stamp chunk (Stamped place n) in
    let view_is : writer first place ≡ stamp = get_or-set_same world.writers place stamp newcomer inside in
    let later = begins stamp chunk words in let to = Writing place n (fresh words) in
    let one = ap (λ (w : World). moved w place (begins (writer w place) chunk words) chunk (Writing place (length (writer w place).begun) (fresh words))) stamped in
    let two = ap (λ (x : WriterView). moved first place (begins x chunk words) chunk (Writing place (length x.begun) (fresh words))) view_is in
    begun ∙ (one ∙ (two
    ∙ (ap (λ l. record { chunks = l; writers = set (set world.writers place stamp) place later; service = world.service }) (set-set world.chunks chunk (Stamped place n) to)
    ∙ ap (λ l. record { chunks = set world.chunks chunk to; writers = l; service = world.service }) (set-set world.writers place stamp later))))
