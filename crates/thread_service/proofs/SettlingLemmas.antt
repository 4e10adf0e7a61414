-- What the rounds of a service show of its writers' chunks, and what this says of what they told.
use Rattle.std.proofs.Common.{◌≡◌, ◌≢◌, ◌∙◌, ℕ, zero, suc, ◌+◌, ◌<◌, ◌≤◌, ◌⊎◌, Bool, true, false, List, [], ◌∷◌, ◌++◌, length, get_or, refl, sym, ap, subst, arith, inl, inr, append-nil, append_assoc, length-append}
use Rattle.std.specs.Prelude.{cond, ◌==◌}
use Rattle.std.specs.List.{All}
use Rattle.std.proofs.lemmas.Bool.{cases_eq, eq-eqb, ne_eqb}
use Rattle.std.proofs.lemmas.List.Elements.{All-nil, All-cons, All-append}
use Rattle.trace_base.proofs.Lists.{get_behind}
use Rattle.trace_base.specs.declared.policy.WriterSpec.{WriterSpec}
use Rattle.chunk_plain.specs.declared.tokens.TheConstants.{POSITION_LIMIT}
use Rattle.chunk_plain.specs.Setup.{Setup, range_of, producer_of, IsChunkOf}
use Rattle.chunk_plain.specs.Views.{At, Completed, Content, Look, Taken, none_taken, ServiceView, taken_of}
use Rattle.chunk_words.specs.Knows.{Desk, Tale}
use Rattle.chunk_words.specs.Told.{ShowsAllTold}
use Rattle.chunk_words.proofs.Telling.{told_taken}
use Rattle.world_model.proofs.OwnLemmas.{elem_at}
use Rattle.service_core.specs.Agreement.{spec_at}
use Rattle.service_core.specs.Taking.{IsOther, ShowsOther, ShowNone, Leaves, TakesOf, Takes, places_of}
use Rattle.service_core.proofs.AnswerLemmas.{takes_nothing, takes_own}
use Rattle.service_core.proofs.LookLemmas.{shows_left}
use Rattle.service_core.proofs.QuietLemmas.{AllBelow}
use Rattle.service_core.proofs.TakingLemmas.{taken_other}
use Rattle.thread_service.specs.Settling.{AreSeenOut, IsSeenOut, TakesRounds, TakesOut, TakesAllOut}

-- ---- which writers a round is for

-- the place is one of these, or none of them
abbrev IsIn : ℕ → List ℕ → Type 0
IsIn place [] = ⊥
IsIn place (one ∷ places) = (place ≡ one) ⊎ IsIn place places

abbrev IsApart : ℕ → List ℕ → Type 0
IsApart place [] = Unit {0}
IsApart place (one ∷ places) = (place ≢ one) × IsApart place places

is_in : (producer first : ℕ) (specs : List WriterSpec) (i place : ℕ) → i < length specs → place ≡ first + i → (spec_at specs i).producer ≡ producer
    → IsIn place (places_of producer first specs)
is_in producer first [] i place inside is own = absurd (omega (arith, inside))
is_in producer first (spec ∷ specs) zero place inside is own =
    subst (λ (b : Bool). IsIn place (cond b (first ∷ places_of producer (suc first) specs) (places_of producer (suc first) specs))) (sym (eq-eqb spec.producer producer own))
    (inl (omega (arith, is)))
is_in producer first (spec ∷ specs) (suc i) place inside is own =
    by_test (spec.producer == producer) (is_in producer (suc first) specs i place (omega (arith, inside)) (omega (arith, is)) own)
  where
    by_test : (b : Bool) → IsIn place (places_of producer (suc first) specs)
        → IsIn place (cond b (first ∷ places_of producer (suc first) specs) (places_of producer (suc first) specs))
    by_test true rest = inr rest
    by_test false rest = rest

is_apart : (producer first : ℕ) (specs : List WriterSpec) (place : ℕ) → ((i : ℕ) → place ≡ first + i → (spec_at specs i).producer ≢ producer)
    → IsApart place (places_of producer first specs)
is_apart producer first [] place differs = tt
is_apart producer first (spec ∷ specs) place differs =
    let rest = is_apart producer (suc first) specs place (λ i is own. differs (suc i) (omega (arith, is)) own) in
    by_case (cases_eq spec.producer producer) rest
  where
    by_case : (spec.producer ≡ producer) ⊎ (spec.producer ≡ producer → ⊥) → IsApart place (places_of producer (suc first) specs)
        → IsApart place (cond (spec.producer == producer) (first ∷ places_of producer (suc first) specs) (places_of producer (suc first) specs))
    by_case (inl own) rest =
        subst (λ (b : Bool). IsApart place (cond b (first ∷ places_of producer (suc first) specs) (places_of producer (suc first) specs))) (sym (eq-eqb spec.producer producer own))
        ((λ here. differs 0 (omega (arith, here)) own), rest)
    by_case (inr other) rest =
        subst (λ (b : Bool). IsApart place (cond b (first ∷ places_of producer (suc first) specs) (places_of producer (suc first) specs))) (sym (ne_eqb spec.producer producer other))
        rest

-- ---- what a round leaves

takes_looks : (setup : Setup) (places : List ℕ) (taken : ℕ) (old new : ServiceView) → Takes setup places taken old new → (looks : List Look) × (new.looks ≡ old.looks ++ looks)
takes_looks setup [] taken old new takes = ([], ap (λ (v : ServiceView). v.looks) takes.1 ∙ sym (append-nil old.looks))
takes_looks setup (place ∷ places) taken old new takes =
    let rest = takes_looks setup places takes.1 takes.2 new takes.5 in (
      takes.4.looks ++ rest.0,
      rest.1 ∙ ap (λ (v : ServiceView). v.looks ++ rest.0) takes.4.view ∙ append_assoc old.looks takes.4.looks rest.0,
    )

takes_apart : (setup : Setup) (places : List ℕ) (taken : ℕ) (old new : ServiceView) → Takes setup places taken old new → (place : ℕ) → IsApart place places
    → taken_of new place ≡ taken_of old place
takes_apart setup [] taken old new takes place apart = ap (λ (v : ServiceView). taken_of v place) takes.1
takes_apart setup (one ∷ places) taken old new takes place apart =
    takes_apart setup places takes.1 takes.2 new takes.5 place apart.1
    ∙ ap (λ (v : ServiceView). taken_of v place) takes.4.view
    ∙ taken_other old one place takes.4.looks takes.4.contents apart.0

-- Further looks were made, nothing was taken of the writers of other producers, and no image came by a commit.
pub record LooksOn (setup : Setup) (producer : ℕ) (old new : ServiceView) : Type 0 where
  pub looks : List Look
  pub more : new.looks ≡ old.looks ++ looks
  pub others : (place : ℕ) → (producer_of setup place ≡ producer → ⊥) → taken_of new place ≡ taken_of old place
  pub own : new.commits ≡ old.commits

round_looks : (setup : Setup) (producer taken : ℕ) (old new : ServiceView) → Takes setup (places_of producer 0 setup.writers) taken old new → LooksOn setup producer old new
round_looks setup producer taken old new takes =
    let more = takes_looks setup (places_of producer 0 setup.writers) taken old new takes in
    record {
      looks = more.0;
      more = more.1;
      others = λ place other. takes_apart setup (places_of producer 0 setup.writers) taken old new takes place
          (is_apart producer 0 setup.writers place (λ i is own. let here : place ≡ i = omega (arith, is) in other (ap (λ (k : ℕ). (spec_at setup.writers k).producer) here ∙ own)));
      own = takes_own setup (places_of producer 0 setup.writers) taken old new takes;
    }

looks_both : (setup : Setup) (producer : ℕ) (old mid new : ServiceView) → LooksOn setup producer old mid → LooksOn setup producer mid new → LooksOn setup producer old new
looks_both setup producer old mid new first second = record {
  looks = first.looks ++ second.looks;
  more = second.more ∙ ap (λ (ls : List Look). ls ++ second.looks) first.more ∙ append_assoc old.looks first.looks second.looks;
  others = λ place other. second.others place other ∙ first.others place other;
  own = second.own ∙ first.own;
}

pub rounds_look : (setup : Setup) (producer : ℕ) (rounds : List ℕ) (old new : ServiceView) → TakesRounds setup producer rounds old new → LooksOn setup producer old new
rounds_look setup producer [] old new same = record {
  looks = [];
  more = ap (λ (v : ServiceView). v.looks) same ∙ sym (append-nil old.looks);
  others = λ place other. ap (λ (v : ServiceView). taken_of v place) same;
  own = ap (λ (v : ServiceView). v.commits) same;
}
rounds_look setup producer (taken ∷ rounds) old new takes =
    looks_both setup producer old takes.0 new (round_looks setup producer taken old takes.0 takes.1) (rounds_look setup producer rounds takes.0 new takes.2)

-- one round more
pub rounds_more : (setup : Setup) (producer : ℕ) (rounds : List ℕ) (taken : ℕ) (old mid new : ServiceView) → TakesRounds setup producer rounds old mid
    → Takes setup (places_of producer 0 setup.writers) taken mid new → TakesRounds setup producer (rounds ++ taken ∷ []) old new
rounds_more setup producer [] taken old mid new same takes =
    (new, subst (λ (v : ServiceView). Takes setup (places_of producer 0 setup.writers) taken v new) same takes, refl)
rounds_more setup producer (one ∷ rounds) taken old mid new before takes = (before.0, before.1, rounds_more setup producer rounds taken before.0 mid new before.2 takes)

-- as one that took some
pub some_more : (rounds : List ℕ) (taken : ℕ) → All (λ n. 0 < n) rounds → 0 < taken → All (λ n. 0 < n) (rounds ++ taken ∷ [])
some_more rounds taken before some = All-append (λ n. 0 < n) rounds (taken ∷ []) before (All-cons (λ n. 0 < n) taken [] some (All-nil (λ n. 0 < n)))

-- one producer more
pub all_out_more : (setup : Setup) (number : ℕ) (old mid new : ServiceView) → TakesAllOut setup number old mid → TakesOut setup (number + 1) mid new
    → TakesAllOut setup (number + 1) old new
all_out_more setup number old mid new before takes =
    let more : suc number ≡ number + 1 = omega arith in
    let all : TakesAllOut setup (suc number) old new = (mid, before, subst (λ (n : ℕ). TakesOut setup n mid new) (sym more) takes) in
    subst (λ (n : ℕ). TakesAllOut setup n old new) more all

pub all_out_own : (setup : Setup) (number : ℕ) (old new : ServiceView) → TakesAllOut setup number old new → new.commits ≡ old.commits
all_out_own setup zero old new same = ap (λ (v : ServiceView). v.commits) same
all_out_own setup (suc number) old new takes =
    (rounds_look setup (suc number) (takes.2.rounds ++ 0 ∷ []) takes.0 new takes.2.takes).own ∙ all_out_own setup number old takes.0 takes.1

-- ---- what a round that takes nothing shows

seen_one : (setup : Setup) (place taken : ℕ) (old new : ServiceView) → TakesOf setup place taken old new → taken ≡ 0
    → 0 < (range_of setup (producer_of setup place)).count → IsSeenOut setup (length old.looks) place new
seen_one setup place taken old new one none some = record {
  before = old.looks;
  looks = one.looks;
  all = ap (λ (v : ServiceView). v.looks) one.view;
  late = omega arith;
  none = by_leave one.leaves;
}
  where
    by_leave : Leaves setup place (taken_of new place).count taken one.looks
        → ShowNone setup (producer_of setup place) place (taken_of new place).count one.looks ⊎ (POSITION_LIMIT ≤ (taken_of new place).count)
    by_leave (inl full) = absurd (omega (arith, full, none, some))
    by_leave (inr rest) = rest

-- what was seen stays, as long as nothing is taken of the writer
pub seen_more : (setup : Setup) (since place : ℕ) (old new : ServiceView) (more : List Look) → IsSeenOut setup since place old → new.looks ≡ old.looks ++ more
    → taken_of new place ≡ taken_of old place → IsSeenOut setup since place new
seen_more setup since place old new more seen grown same = record {
  before = seen.before;
  looks = seen.looks ++ more;
  all = grown ∙ ap (λ (ls : List Look). ls ++ more) seen.all ∙ append_assoc seen.before seen.looks more;
  late = seen.late;
  none = by_case seen.none;
}
  where
    count_is : (taken_of new place).count ≡ (taken_of old place).count
    count_is = ap (λ (t : Taken). t.count) same

    by_case : ShowNone setup (producer_of setup place) place (taken_of old place).count seen.looks ⊎ (POSITION_LIMIT ≤ (taken_of old place).count)
        → ShowNone setup (producer_of setup place) place (taken_of new place).count (seen.looks ++ more) ⊎ (POSITION_LIMIT ≤ (taken_of new place).count)
    by_case (inl shown) =
        inl (λ chunk is. subst (λ (n : ℕ). ShowsOther setup place n chunk (seen.looks ++ more)) (sym count_is)
        (shows_left IsOther setup place (taken_of old place).count chunk seen.looks more (shown chunk is)))
    by_case (inr out) = inr (omega (arith, out, count_is))

pub seen_since : (setup : Setup) (earlier since place : ℕ) (view : ServiceView) → earlier ≤ since → IsSeenOut setup since place view → IsSeenOut setup earlier place view
seen_since setup earlier since place view order seen =
    let late = seen.late in
    record { before = seen.before; looks = seen.looks; all = seen.all; late = omega (arith, order, late); none = seen.none }

seen_each : (setup : Setup) (places : List ℕ) (taken : ℕ) (old new : ServiceView) → Takes setup places taken old new → taken ≡ 0
    → ((place : ℕ) → place < length setup.writers → 0 < (range_of setup (producer_of setup place)).count) → AllBelow (length setup.writers) places
    → (place : ℕ) → IsIn place places → IsSeenOut setup (length old.looks) place new
seen_each setup [] taken old new takes none some below place inside = absurd inside
seen_each setup (one ∷ places) taken old new takes none some below place inside =
    let sum = takes.3 in
    let none_later : takes.1 ≡ 0 = omega (arith, sum, none) in
    by_case inside (omega (arith, sum, none)) none_later (λ later. seen_each setup places takes.1 takes.2 new takes.5 none_later some below.1 place later)
  where
    by_case : (place ≡ one) ⊎ IsIn place places → takes.0 ≡ 0 → takes.1 ≡ 0 → (IsIn place places → IsSeenOut setup (length takes.2.looks) place new)
        → IsSeenOut setup (length old.looks) place new
    by_case (inl here) none_here none_later rest =
        let still = takes_nothing setup places takes.1 takes.2 new takes.5 none_later in
        let more = takes_looks setup places takes.1 takes.2 new takes.5 in
        let first = seen_one setup one takes.0 old takes.2 takes.4 none_here (some one below.0) in
        seen_more setup (length old.looks) place takes.2 new more.0 (subst (λ (p : ℕ). IsSeenOut setup (length old.looks) p takes.2) (sym here) first) more.1
        (ap (λ (ts : List Taken). get_or ts place none_taken) still.taken)
    by_case (inr later) none_here none_later rest =
        let grown = ap (λ (v : ServiceView). length v.looks) takes.4.view ∙ length-append old.looks takes.4.looks in
        seen_since setup (length old.looks) (length takes.2.looks) place new (omega (arith, grown)) (rest later)

-- of each writer of the producer
pub round_shows : (setup : Setup) (producer : ℕ) (old new : ServiceView) → Takes setup (places_of producer 0 setup.writers) 0 old new
    → ((place : ℕ) → place < length setup.writers → 0 < (range_of setup (producer_of setup place)).count)
    → AllBelow (length setup.writers) (places_of producer 0 setup.writers)
    → (place : ℕ) → place < length setup.writers → producer_of setup place ≡ producer → IsSeenOut setup (length old.looks) place new
round_shows setup producer old new takes some below place inside own =
    seen_each setup (places_of producer 0 setup.writers) 0 old new takes refl some below place (is_in producer 0 setup.writers place place inside (omega arith) own)

-- of the writers of one producer more, where its chunks were taken
pub seen_next : (setup : Setup) (since number : ℕ) (old new : ServiceView) → since ≤ length old.looks → AreSeenOut setup since number old
    → LooksOn setup (number + 1) old new
    → ((place : ℕ) → place < length setup.writers → producer_of setup place ≡ number + 1 → IsSeenOut setup (length old.looks) place new)
    → AreSeenOut setup since (number + 1) new
seen_next setup since number old new order before takes seen place inside below = by_case (cases_eq (producer_of setup place) (number + 1))
  where
    by_case : (producer_of setup place ≡ number + 1) ⊎ (producer_of setup place ≡ number + 1 → ⊥) → IsSeenOut setup since place new
    by_case (inl same) = seen_since setup since (length old.looks) place new order (seen place inside same)
    by_case (inr other) =
        seen_more setup since place old new takes.looks (before place inside (omega (arith, below, other))) takes.more (takes.others place other)

-- ---- what writers told

-- All that a writer told of is taken, where looks since show that none of it is left.
pub told_out : (setup : Setup) (since i : ℕ) (view : ServiceView) (desk : Desk) (tale : Tale) → ShowsAllTold setup view desk → At desk.told i tale
    → tale.looks ≤ since → IsSeenOut setup since tale.place view
    → ((position : ℕ) → position < length tale.begun → (chunk : ℕ) × (content : Content) × At tale.begun position (Completed chunk content))
    → ((chunk : ℕ) (content : Content) → At tale.begun (taken_of view tale.place).count (Completed chunk content) → IsChunkOf setup (producer_of setup tale.place) chunk)
    → length tale.begun ≤ POSITION_LIMIT → length tale.begun ≤ (taken_of view tale.place).count
told_out setup since i view desk tale shows told heard seen complete own few = by_case seen.none
  where
    by_case : ShowNone setup (producer_of setup tale.place) tale.place (taken_of view tale.place).count seen.looks ⊎ (POSITION_LIMIT ≤ (taken_of view tale.place).count)
        → length tale.begun ≤ (taken_of view tale.place).count
    by_case (inr out) = omega (arith, out, few)
    by_case (inl shown) =
        told_taken setup view tale (taken_of view tale.place).count (shows i tale told) complete
        (λ chunk content at.
        let one = shown chunk (own chunk content at) in
        let late = seen.late in
        record {
          n = length seen.before + one.n;
          look = one.look;
          header = one.shows.header;
          since = omega (arith, heard, late);
          at = subst (λ (ls : List Look). At ls (length seen.before + one.n) one.look) (sym seen.all)
              (elem_at (seen.before ++ seen.looks) (length seen.before + one.n) one.look (get_behind seen.before seen.looks one.n one.look one.at));
          chunk_is = one.chunk_is;
          taken = one.since;
          header_is = one.shows.header_is;
          id_fits = one.shows.id_fits;
          writer_fits = one.shows.writer_fits;
          other = one.shows.other;
        })
