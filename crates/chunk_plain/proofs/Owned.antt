-- A world that is owned stays owned where one writer's view and one chunk change, and where the service's view and one chunk do.
use Rattle.std.proofs.Common.{◌≡◌, ◌≢◌, ℕ, ◌+◌, ◌<◌, Option, Some, List, [], ◌++◌, length, map, length-append, set, get_or, subst, sym, refl, ap, ◌∙◌, arith, ⊎_elim, length-set}
use Rattle.std.proofs.lemmas.List.{get_or-set_other, length-map}
use Rattle.std.proofs.lemmas.Bool.Decides.{nat_tests}
use native.Mathlib.Decide.{ℕ_discrete}
use mathlib.Core.Logic.{dite}
use Rattle.chunk_plain.specs.Views.{At, Ask, chunk_of, Look, Found, WriterView, ServiceView, Taken, newcomer, taken_of}
use Rattle.chunk_plain.specs.World.{World, Status, Unclaimed, Claimed, Stamped, Writing, Ready, Reading, status, writer}
use Rattle.chunk_plain.specs.Steps.{looks_at, taken_counts, moved, served, with_writer_view, serviced}
use Rattle.chunk_plain.specs.Owned.{times, claims_of, reads_of, stamped_chunks, won_chunks, Owns, Counts, Won, AreInOrder, IsOwned}
use Rattle.chunk_plain.specs.Drafts.{IsFound, IsThere}
use Rattle.chunk_plain.proofs.Lists.{at_more, changed, matrix, times-both, same_many}

-- the status isn't one of this writer's
abbrev pub Foreign : ℕ → Status → Type 0
Foreign place Unclaimed = Unit {0}
Foreign place (Claimed other) = other ≢ place
Foreign place (Stamped other position) = other ≢ place
Foreign place (Writing other position head) = other ≢ place
Foreign place (Ready other position content) = other ≢ place
Foreign place (Reading other position content) = other ≢ place

pub claims_of-foreign : (place : ℕ) (is : Status) → Foreign place is → claims_of place is ≡ 0
claims_of-foreign place Unclaimed other = refl
claims_of-foreign place (Claimed mine) other = grind (arith, nat_tests)
claims_of-foreign place (Stamped mine position) other = refl
claims_of-foreign place (Writing mine position head) other = refl
claims_of-foreign place (Ready mine position content) other = refl
claims_of-foreign place (Reading mine position content) other = refl

pub claims_of-mine : (place : ℕ) → claims_of place (Claimed place) ≡ 1
claims_of-mine place = grind (arith, nat_tests)

-- a chunk that the writer's view has as claimed is claimed by it
pub claimed_status : (place : ℕ) (is : Status) → 0 < claims_of place is → is ≡ Claimed place
claimed_status place Unclaimed has = absurd (omega arith)
claimed_status place (Claimed other) has =
    dite (ℕ_discrete other place)
    (λ same. ap (λ k. Claimed k) same)
    (λ differs. let none : claims_of place (Claimed other) ≡ 0 = claims_of-foreign place (Claimed other) differs in absurd (omega arith))
claimed_status place (Stamped other position) has = absurd (omega arith)
claimed_status place (Writing other position head) has = absurd (omega arith)
claimed_status place (Ready other position content) has = absurd (omega arith)
claimed_status place (Reading other position content) has = absurd (omega arith)

-- another writer's facts on a chunk stay where the chunk was, and is, none of its own
pub foreign_stays : (count place : ℕ) (view : WriterView) (chunk : ℕ) (was is : Status) → Foreign place was → Foreign place is → Owns count place view chunk was → Owns count place view chunk is
foreign_stays count place view chunk was is before after o =
    record {
      claimed = o.claimed ∙ (claims_of-foreign place was before ∙ sym (claims_of-foreign place is after));
      stamp_is = λ position e. absurd (subst (Foreign place) (o.stamp_is position e) before refl);
      stamped_is = λ position e. absurd (subst (Foreign place) e after refl);
      held_is = λ position head e. absurd (subst (Foreign place) (o.held_is position head e) before refl);
      writing_is = λ position head e. absurd (subst (Foreign place) e after refl);
      completed_is = λ position content e above. absurd (subst (Foreign place) (o.completed_is position content e above) before refl);
      ready_is = λ position content e. absurd (subst (Foreign place) e after refl);
      reading_is = λ position content e. absurd (subst (Foreign place) e after refl);
    }

-- a won claim stays where the writer's claims are there still
pub won_stays : (world : World) (place chunk about : ℕ) (view : WriterView) (is : Status) → place < length world.writers
    → ((i : ℕ) (ask : Ask) → At (writer world place).asked i ask → At view.asked i ask)
    → Won world about → Won (moved world place view chunk is) about
won_stays world place chunk about view is inside grows won = (
  won.0,
  won.1,
  won.2,
  changed (λ (v : WriterView). At v.asked won.1 won.2) world.writers place won.0 view newcomer inside
      (λ same. grows won.1 won.2 (subst (λ u. At (writer world u).asked won.1 won.2) same won.3))
      (λ _. won.3),
  won.4,
  won.5,
)

-- what was found is there still, where one writer's view changes and has of its begun chunks what was found
looks_stay : (world : World) (place : ℕ) (view : WriterView) → IsOwned world → place < length world.writers
    → ((about : ℕ) (found : Found) → IsThere (writer world place) about found → IsThere view about found)
    → (n : ℕ) (look : Look) (found : Found) → At world.service.looks n look → look.found ≡ Some found → IsFound found × IsThere (get_or (set world.writers place view) found.place newcomer) look.chunk found
looks_stay world place view o inside still n look found at is =
    let old = o.looks n look found at is in (
      old.0,
      changed (λ (v : WriterView). IsThere v look.chunk found) world.writers place found.place view newcomer inside
          (λ same. still look.chunk found (subst (λ k. IsThere (writer world k) look.chunk found) same old.1))
          (λ _. old.1),
    )

-- the step of a writer
pub writer_step : (world : World) (place chunk : ℕ) (view : WriterView) (is : Status) → IsOwned world → place < length world.writers → chunk < length world.chunks
    → Owns (taken_of world.service place).count place view chunk is
    → ((other : ℕ) → other ≢ chunk → Owns (taken_of world.service place).count place (writer world place) other (status world other)
    → Owns (taken_of world.service place).count place view other (status world other))
    → ((other : ℕ) → other ≢ place → Foreign other (status world chunk)) → ((other : ℕ) → other ≢ place → Foreign other is)
    → reads_of is ≡ reads_of (status world chunk)
    → Counts (taken_of world.service place) place view
    → ((i : ℕ) (ask : Ask) → At (writer world place).asked i ask → At view.asked i ask)
    → AreInOrder (set world.writers place view)
    → Won (moved world place view chunk is) chunk
    → ((about : ℕ) (found : Found) → IsThere (writer world place) about found → IsThere view about found)
    → IsOwned (moved world place view chunk is)
writer_step world place chunk view is o inside_w inside_c cell row was_mine is_mine same_reads counts grows ordered won still =
    record {
      owns = matrix
          (λ u v d t. Owns (taken_of world.service u).count u v d t)
          world.writers
          world.chunks
          newcomer
          Unclaimed
          place
          chunk
          view
          is
          inside_w
          inside_c
          o.owns
          cell
          row
          (λ u differs p. foreign_stays (taken_of world.service u).count u (writer world u) chunk (status world chunk) is (was_mine u differs) (is_mine u differs) p);
      counts = λ u. changed (λ v. Counts (taken_of world.service u) u v) world.writers place u view newcomer inside_w
          (λ same. subst (λ k. Counts (taken_of world.service k) k view) (sym same) counts)
          (λ _. o.counts u);
      reads = λ d. changed (λ t. times d world.service.reading ≡ reads_of t) world.chunks chunk d is Unclaimed inside_c
          (λ same. subst (λ e. times e world.service.reading ≡ reads_of is) (sym same) (o.reads chunk ∙ sym same_reads))
          (λ _. o.reads d);
      claimed_won = λ d claimed.
          dite (ℕ_discrete d chunk)
          (λ same. subst (Won (moved world place view chunk is)) (sym same) won)
          (λ differs. won_stays world place chunk d view is inside_w grows
          (o.claimed_won d (λ free. claimed (get_or-set_other world.chunks chunk d is Unclaimed differs ∙ free))));
      ordered = ordered;
      looks = looks_stay world place view o inside_w still;
      all_taken = o.all_taken ∙ sym (length-set world.writers place view);
    }

-- a step by which a writer has as many chunks as before
pub noted_owned : (world : World) (place : ℕ) (view : WriterView) → IsOwned world → place < length world.writers
    → ((chunk : ℕ) → Owns (taken_of world.service place).count place (writer world place) chunk (status world chunk)
    → Owns (taken_of world.service place).count place view chunk (status world chunk))
    → Counts (taken_of world.service place) place view
    → ((i : ℕ) (ask : Ask) → At (writer world place).asked i ask → At view.asked i ask)
    → AreInOrder (set world.writers place view)
    → ((about : ℕ) (found : Found) → IsThere (writer world place) about found → IsThere view about found)
    → IsOwned (with_writer_view world place view)
noted_owned world place view o inside row counts grows ordered still =
    record {
      owns = λ u chunk. changed (λ v. Owns (taken_of world.service u).count u v chunk (status world chunk)) world.writers place u view newcomer inside
          (λ same. subst (λ k. Owns (taken_of world.service k).count k view chunk (status world chunk)) (sym same) (row chunk (o.owns place chunk)))
          (λ _. o.owns u chunk);
      counts = λ u. changed (λ v. Counts (taken_of world.service u) u v) world.writers place u view newcomer inside
          (λ same. subst (λ k. Counts (taken_of world.service k) k view) (sym same) counts)
          (λ _. o.counts u);
      reads = o.reads;
      claimed_won = λ chunk claimed. won_stays world place chunk chunk view Unclaimed inside grows (o.claimed_won chunk claimed);
      ordered = ordered;
      looks = looks_stay world place view o inside still;
      all_taken = o.all_taken ∙ sym (length-set world.writers place view);
    }

-- the step of the service
pub service_step : (world : World) (service : ServiceView) (chunk : ℕ) (is : Status) → IsOwned world → chunk < length world.chunks
    → ((place about : ℕ) → Owns (taken_of service place).count place (writer world place) about (status (served world service chunk is) about))
    → ((place : ℕ) → Counts (taken_of service place) place (writer world place))
    → ((about : ℕ) → times about service.reading ≡ reads_of (status (served world service chunk is) about))
    → (status world chunk ≡ Unclaimed → ⊥)
    → length service.taken ≡ length world.service.taken → service.looks ≡ world.service.looks
    → IsOwned (served world service chunk is)
service_step world service chunk is o inside owns counts reads had taken looks =
    record {
      owns = owns;
      counts = counts;
      reads = reads;
      claimed_won = λ d claimed.
          dite (ℕ_discrete d chunk)
          (λ same. subst (Won world) (sym same) (o.claimed_won chunk had))
          (λ differs. o.claimed_won d (λ free. claimed (get_or-set_other world.chunks chunk d is Unclaimed differs ∙ free)));
      ordered = o.ordered;
      looks = λ n look found at is. o.looks n look found (subst (λ (l : List Look). At l n look) looks at) is;
      all_taken = taken ∙ o.all_taken;
    }

-- a step of the service that neither takes nor releases
serviced_with : (world : World) (service : ServiceView) → IsOwned world → service.taken ≡ world.service.taken → service.reading ≡ world.service.reading
    → ((n : ℕ) (look : Look) (found : Found) → At service.looks n look → look.found ≡ Some found → IsFound found × IsThere (writer world found.place) look.chunk found)
    → IsOwned (serviced world service)
serviced_with world service o taken reading looks =
    record {
      owns = λ place chunk. subst (λ (l : List Taken). Owns (get_or l place (record { count = 0; contents = [] })).count place (writer world place) chunk (status world chunk)) (sym taken) (o.owns place chunk);
      counts = λ place. subst (λ (l : List Taken). Counts (get_or l place (record { count = 0; contents = [] })) place (writer world place)) (sym taken) (o.counts place);
      reads = λ chunk. subst (λ (l : List ℕ). times chunk l ≡ reads_of (status world chunk)) (sym reading) (o.reads chunk);
      claimed_won = o.claimed_won;
      ordered = o.ordered;
      looks = looks;
      all_taken = subst (λ (l : List Taken). length l ≡ length world.writers) (sym taken) o.all_taken;
    }

-- nor looks
pub serviced_owned : (world : World) (service : ServiceView) → IsOwned world → service.looks ≡ world.service.looks → service.taken ≡ world.service.taken → service.reading ≡ world.service.reading
    → IsOwned (serviced world service)
serviced_owned world service o looks taken reading =
    serviced_with world service o taken reading (λ n look found at is. o.looks n look found (subst (λ (l : List Look). At l n look) looks at) is)

-- the service looks at a chunk: what it finds there of a chunk that is written is there
pub looks_owned : (world : World) (chunk word header : ℕ) (found : Option Found) → IsOwned world
    → ((one : Found) → found ≡ Some one → IsFound one × IsThere (writer world one.place) chunk one)
    → IsOwned (serviced world (looks_at world.service chunk word header found))
looks_owned world chunk word header found o finds =
    let new : Look = record { chunk = chunk; word = word; header = header; found = found; taken = taken_counts world.service } in
    serviced_with world (looks_at world.service chunk word header found) o refl refl
    (λ n look one at is. ⊎_elim
    (λ old. o.looks n look one old is)
    (λ (last : (n ≡ length world.service.looks) × (new ≡ look)).
    subst (λ (l : Look). l.found ≡ Some one → IsFound one × IsThere (writer world one.place) l.chunk one) last.1 (finds one) is)
    (at_more world.service.looks new look n at))

-- a writer won as many claims as it has chunks claimed, its header stored or not, and begun
pub won_as_many : (taken : Taken) (place : ℕ) (view : WriterView) → Counts taken place view
    → length (won_chunks view.asked) ≡ length view.claimed + length (stamped_chunks view.stamped) + length view.begun
won_as_many taken place view counts =
    let own : List ℕ = view.claimed ++ (stamped_chunks view.stamped ++ map chunk_of view.begun) in
    let many : length (won_chunks view.asked) ≡ length own = same_many (won_chunks view.asked) own (λ chunk.
    let first = times-both chunk view.claimed (stamped_chunks view.stamped ++ map chunk_of view.begun) in
    let rest = times-both chunk (stamped_chunks view.stamped) (map chunk_of view.begun) in
    let wins = counts.wins chunk in omega (arith, first, rest, wins)) in
    let first = length-append view.claimed (stamped_chunks view.stamped ++ map chunk_of view.begun) in
    let rest = length-append (stamped_chunks view.stamped) (map chunk_of view.begun) in
    let begun = length-map view.begun chunk_of in omega (arith, many, first, rest, begun)
