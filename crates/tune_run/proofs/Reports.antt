-- The jobs of users, what they told, and what a run comes to.
use Rattle.std.proofs.Common.{◌≡◌, ◌≢◌, ℕ, zero, suc, ◌+◌, ◌<◌, ◌≤◌, List, [], ◌∷◌, ◌++◌, length, get_or, subst, sym, refl, ap, ◌∙◌, arith, ⊎_elim, eq-eqb, ne_eqb, length-append}
use Rattle.std.specs.Prelude.{if◌then◌else◌}
use Rattle.std.proofs.lemmas.List.{get_or_append_left}
use Rattle.std.proofs.Math.Seq.{get_or-append_seam}
use native.Mathlib.Decide.{dec_le}
use mathlib.Core.Logic.{dite}
use mathlib.Core.Option.{some-injective}
use Rattle.chunk_plain.specs.Views.{At}
use Rattle.chunk_plain.proofs.Lists.{at_seam, at_inside, at_more, at_some}
use Rattle.layout_tuner.specs.declared.table.TuneTable.{TuneTable}
use Rattle.layout_tuner.specs.declared.seats.TuneSeat.{TuneSeat}
use Rattle.layout_tuner.specs.Knows.{UserView, newcomer, CollectView, told_by, hears}
use Rattle.layout_tuner.specs.World.{total}
use Rattle.layout_tuner.specs.Closed.{HasNewSeats, HasAllSeats, view_at}
use Rattle.layout_tuner.specs.Sits.{Sits, known_by}
use Rattle.layout_tuner.proofs.Puts.{total-same}
use Rattle.tune_run.specs.declared.counts.UserCounts.{UserCounts}
use Rattle.tune_run.specs.declared.jobs.UserJob.{UserJob}
use Rattle.tune_run.specs.Counts.{no_counts}
use Rattle.tune_run.specs.Turns.{IsFree, TakesTurns, AddsUp}
use Rattle.tune_run.specs.Jobs.{IsReady, IsPlayed, AreReady, count_at}
use Rattle.tune_run.specs.Told.{HasToldAll, HaveTold}
use Rattle.tune_run.proofs.Sums.{turns_add_up}

-- ---- jobs are made

pub jobs_more : (table : TuneTable) (count : ℕ) (seats yielded rest : List TuneSeat) (jobs : List UserJob) (seat : TuneSeat) (counts : UserCounts) → HasNewSeats table count seats → count ≤ 8
    → yielded ++ seat ∷ rest ≡ seats → length jobs ≡ length yielded → AreReady table jobs → AreReady table (jobs ++ record { seat = seat; counts = counts } ∷ [])
jobs_more table count seats yielded rest jobs seat counts all few same many ready user d below =
    let job : UserJob = record { seat = seat; counts = counts } in
    let longer = length-append jobs (job ∷ []) in
    dite (dec_le (user + 1) (length jobs))
    (λ less. subst (IsReady table user) (sym (get_or_append_left jobs (job ∷ []) d user (omega (arith, less)))) (ready user d (omega (arith, less))))
    (λ last. let here : user ≡ length jobs = omega (arith, below, last, longer) in
    let at : At seats (length yielded) seat = subst (λ l. At l (length yielded) seat) same (at_seam yielded rest seat) in
    let is = all.each (length yielded) seat at in
    let inside = at_inside seats seat (length yielded) at in let size = all.count_is in
    subst (λ u. IsReady table u (get_or (jobs ++ job ∷ []) u d)) (sym here)
    (subst (IsReady table (length jobs)) (sym (get_or-append_seam jobs job [] d))
    (record { few = omega (arith, many, inside, size, few); number = is.0 ∙ sym many; sits = is.1; fresh = is.2 })))

-- ---- a user tells

told_before : (user : ℕ) (view : CollectView) (number : ℕ) (completed : List ℕ) → user ≢ number → told_by user (hears view number completed).told ≡ told_by user view.told
told_before user view number completed differs = ap (λ b. if b then completed else told_by user view.told) (ne_eqb number user (λ e. differs (sym e)))

told_now : (user : ℕ) (view : CollectView) (number : ℕ) (completed : List ℕ) → number ≡ user → told_by user (hears view number completed).told ≡ completed
told_now user view number completed same = ap (λ b. if b then completed else told_by user view.told) (eq-eqb number user same)

pub told_none : (table : TuneTable) (turns : ℕ) (collector : CollectView) → HaveTold table turns 0 collector [] []
told_none table turns collector = record { seats_are = refl; counts_are = refl; each = λ user seat at. absurd (omega (arith, at_inside [] seat user at)) }

pub told_more : (table : TuneTable) (turns count : ℕ) (collector later : CollectView) (counts : List UserCounts) (seats : List TuneSeat) (job : UserJob) (seat : TuneSeat)
    → HaveTold table turns count collector counts seats → IsPlayed table turns count job → later ≡ hears collector job.seat.number (known_by job.seat).completed
    → known_by seat ≡ known_by job.seat → seat.number ≡ job.seat.number → Sits table seat
    → HaveTold table turns (count + 1) later (counts ++ job.counts ∷ []) (seats ++ seat ∷ [])
told_more table turns count collector later counts seats job seat so_far played is view number sits =
    let named = played.number in
    record {
      seats_are = length-append seats (seat ∷ []) ∙ (let many = so_far.seats_are in omega (arith, many));
      counts_are = length-append counts (job.counts ∷ []) ∙ (let many = so_far.counts_are in omega (arith, many));
      each = λ user other at. ⊎_elim
          (λ old. let was = so_far.each user other old in
          let inside : user < count = let below = at_inside seats other user old in let many = so_far.seats_are in omega (arith, below, many) in
          let many = so_far.counts_are in
          let same : count_at (counts ++ job.counts ∷ []) user ≡ count_at counts user = get_or_append_left counts (job.counts ∷ []) no_counts user (omega (arith, inside, many)) in
          record {
            number = was.number;
            sits = was.sits;
            free = was.free;
            turns_are = subst (TakesTurns table.shape.pages (user + 1) turns newcomer (known_by other)) (sym same) was.turns_are;
            told = ap (λ (c : CollectView). told_by user c.told) is ∙ (told_before user collector job.seat.number (known_by job.seat).completed (λ e. absurd (omega (arith, e, named, inside))) ∙ was.told);
          })
          (λ new. let here : count ≡ user = sym so_far.seats_are ∙ sym new.0 in
          let size : length counts ≡ user = so_far.counts_are ∙ here in
          let same : count_at (counts ++ job.counts ∷ []) user ≡ job.counts = ap (λ u. get_or (counts ++ job.counts ∷ []) u no_counts) (sym size) ∙ get_or-append_seam counts job.counts [] no_counts in
          subst (HasToldAll table turns user later (count_at (counts ++ job.counts ∷ []) user)) new.1
          (record {
            number = number ∙ (named ∙ here);
            sits = sits;
            free = subst IsFree (sym view) played.free;
            turns_are = subst (λ u. TakesTurns table.shape.pages (u + 1) turns newcomer (known_by seat) (count_at (counts ++ job.counts ∷ []) user)) here
                (subst (λ (v : UserView). TakesTurns table.shape.pages (count + 1) turns newcomer v (count_at (counts ++ job.counts ∷ []) user)) (sym view)
                (subst (TakesTurns table.shape.pages (count + 1) turns newcomer (known_by job.seat)) (sym same) played.turns_are));
            told = ap (λ (c : CollectView). told_by user c.told) is ∙ (told_now user collector job.seat.number (known_by job.seat).completed (named ∙ here) ∙ ap (λ (v : UserView). v.completed) (sym view));
          }))
          (at_more seats seat other user at);
    }

-- ---- the end of a run

pub all_seats : (table : TuneTable) (turns : ℕ) (collector later : CollectView) (counts : List UserCounts) (seats : List TuneSeat) → HaveTold table turns table.shape.users collector counts seats
    → later.told ≡ collector.told → HasAllSeats table later seats
all_seats table turns collector later counts seats all same = record {
  count_is = all.seats_are;
  each = λ user seat at. let is = all.each user seat at in
      (is.number, is.sits, record { claimed = is.free.claimed; held = is.free.held; told = ap (told_by user) same ∙ is.told });
}

view_at-is : (seats : List TuneSeat) (user : ℕ) (seat : TuneSeat) → At seats user seat → view_at seats user ≡ known_by seat
view_at-is [] user seat at = absurd (omega (arith, at_inside [] seat user at))
view_at-is (one ∷ seats) zero seat at = ap known_by (some-injective one seat at)
view_at-is (one ∷ seats) (suc user) seat at = view_at-is seats user seat at

-- the counts of one user
pub one_adds_up : (table : TuneTable) (turns : ℕ) (collector : CollectView) (counts : List UserCounts) (seats : List TuneSeat) (user : ℕ) → HaveTold table turns table.shape.users collector counts seats
    → user < table.shape.users → AddsUp (user + 1) turns (count_at counts user) newcomer (view_at seats user)
one_adds_up table turns collector counts seats user all below =
    let there = at_some seats user (let many = all.seats_are in omega (arith, below, many)) in
    let is = all.each user there.0 there.1 in
    subst (AddsUp (user + 1) turns (count_at counts user) newcomer) (sym (view_at-is seats user there.0 there.1))
    (turns_add_up table.shape.pages (user + 1) turns (count_at counts user) newcomer (known_by there.0) (record { claimed = refl; held = refl }) is.turns_are)

pub all_claimed : (table : TuneTable) (turns : ℕ) (collector : CollectView) (counts : List UserCounts) (seats : List TuneSeat) → HaveTold table turns table.shape.users collector counts seats
    → total table.shape.users (λ user. length (view_at seats user).completed) ≡ total table.shape.users (λ user. (count_at counts user).claimed)
all_claimed table turns collector counts seats all = total-same table.shape.users (λ user. length (view_at seats user).completed) (λ user. (count_at counts user).claimed)
    (λ user below. let is = (one_adds_up table turns collector counts seats user all below).leaves.completed_is in omega (arith, is))

pub all_retiled : (table : TuneTable) (turns : ℕ) (collector : CollectView) (counts : List UserCounts) (seats : List TuneSeat) → HaveTold table turns table.shape.users collector counts seats
    → total table.shape.users (λ user. length (view_at seats user).retiled) ≡ total table.shape.users (λ user. (count_at counts user).retiled)
all_retiled table turns collector counts seats all = total-same table.shape.users (λ user. length (view_at seats user).retiled) (λ user. (count_at counts user).retiled)
    (λ user below. let is = (one_adds_up table turns collector counts seats user all below).leaves.retiled_is in omega (arith, is))
