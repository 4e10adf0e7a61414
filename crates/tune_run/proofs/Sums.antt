-- What turns leave of a user's view, and what their counts add up to.
use Rattle.std.proofs.Common.{◌≡◌, ℕ, zero, suc, ◌+◌, ◌*◌, ◌%◌, ◌==◌, Bool, true, false, List, [], ◌∷◌, ◌++◌, length, subst, sym, refl, ap, ◌∙◌, arith, eq-eqb}
use Rattle.std.specs.Prelude.{if◌then◌else◌, MatchBool}
use Rattle.std.proofs.lemmas.List.{length-append}
use Rattle.chunk_plain.specs.Steps.{without}
use Rattle.layout_tuner.specs.PageWords.{spot}
use Rattle.layout_tuner.specs.Knows.{UserView, claims, begins, completes}
use Rattle.layout_tuner.specs.Claiming.{AsksInVain}
use Rattle.layout_tuner.specs.Retiling.{Refuses, GivesBack}
use Rattle.layout_tuner.specs.declared.tokens.TuneFault.{TuneFault}
use Rattle.layout_tuner.specs.declared.tokens.TuneFault.TheVariants.{Busy, Worn}
use Rattle.tune_run.specs.declared.counts.Deed.{Deed}
use Rattle.tune_run.specs.declared.counts.Deed.TheVariants.{Completed, FoundNone, Partitioned, Refused}
use Rattle.tune_run.specs.declared.counts.UserCounts.{UserCounts}
use Rattle.tune_run.specs.Counts.{counted}
use Rattle.tune_run.specs.Turns.{IsFree, CompletesOne, PartitionsOne, RefusesOne, DoesClaim, DoesRetile, TakesTurns, Leaves, AddsUp, retile_turns}

-- the only one is taken out
without-one : (at : ℕ) → without at (at ∷ []) ≡ []
without-one at = ap (λ b. if b then [] else at ∷ []) (eq-eqb at at refl)

pub completes_one : (old new : UserView) → IsFree old → CompletesOne old new → Leaves 1 0 old new
completes_one old new free one =
    let at = spot one.page one.place in
    let asked = one.claims.vain.new_is in
    let all = one.new_is ∙ (ap (λ (v : UserView). completes (begins v at) at) one.claims.new_is
    ∙ ap (λ (v : UserView). completes (begins (claims v one.page one.place one.claims.found true) at) at) asked) in
    record {
      free = record {
        claimed = ap (λ (v : UserView). v.claimed) all ∙ (ap (λ l. without at (l ++ at ∷ [])) free.claimed ∙ without-one at);
        held = ap (λ (v : UserView). v.held) all ∙ (ap (λ l. without at (l ++ at ∷ [])) free.held ∙ without-one at);
      };
      completed_is = ap (λ (v : UserView). length v.completed) all ∙ length-append old.completed (at ∷ []);
      retiled_is = ap (λ (v : UserView). length v.retiled) all ∙ omega arith;
    }

pub asks_none : (count : ℕ) (old new : UserView) → IsFree old → AsksInVain count old new → Leaves 0 0 old new
asks_none count old new free vain = record {
  free = record { claimed = ap (λ (v : UserView). v.claimed) vain.new_is ∙ free.claimed; held = ap (λ (v : UserView). v.held) vain.new_is ∙ free.held };
  completed_is = ap (λ (v : UserView). length v.completed) vain.new_is ∙ omega arith;
  retiled_is = ap (λ (v : UserView). length v.retiled) vain.new_is ∙ omega arith;
}

pub partitions_one : (page layout : ℕ) (old new : UserView) → IsFree old → PartitionsOne page layout old new → Leaves 0 1 old new
partitions_one page layout old new free one =
    let wins = one.partitions.wins in
    let view = one.partitions.new_is in
    record {
      free = record {
        claimed = ap (λ (v : UserView). v.claimed) one.new_is;
        held = ap (λ (v : UserView). v.held) one.new_is ∙ (ap (λ (v : UserView). v.held) view ∙ (wins.held ∙ free.held));
      };
      completed_is = ap (λ (v : UserView). length v.completed) one.new_is ∙ (ap (λ (v : UserView). length v.completed) view ∙ (ap (λ (l : List ℕ). length l) wins.completed ∙ omega arith));
      retiled_is = ap (λ (v : UserView). length v.retiled) one.new_is
          ∙ (ap (λ (v : UserView). length v.retiled) view ∙ (length-append one.partitions.between.retiled (page ∷ []) ∙ ap (λ (l : List ℕ). length l + 1) wins.retiled));
    }

gives_back : (old new : UserView) → IsFree old → GivesBack old new → Leaves 0 0 old new
gives_back old new free back = record {
  free = record { claimed = back.claimed ∙ free.claimed; held = back.held ∙ free.held };
  completed_is = ap (λ (l : List ℕ). length l) back.completed ∙ omega arith;
  retiled_is = ap (λ (l : List ℕ). length l) back.retiled ∙ omega arith;
}

refused : (page : ℕ) (fault : TuneFault) (old new : UserView) → Refuses page fault old new → GivesBack old new
refused page (Busy word) old new refuses = refuses.back
refused page Worn old new refuses = refuses.back

pub refuses_one : (page : ℕ) (old new : UserView) → IsFree old → RefusesOne page old new → Leaves 0 0 old new
refuses_one page old new free one = gives_back old new free (refused page one.fault old new one.refuses)

-- ---- all turns

-- one turn more
adds_claim : (pages user turns : ℕ) (deed : Deed) (before : UserCounts) (old between new : UserView) → AddsUp user turns before old between → DoesClaim pages deed between new
    → Leaves (counted before deed).claimed (counted before deed).retiled old new
    × ((counted before deed).claimed + (counted before deed).none ≡ before.claimed + before.none + 1) × ((counted before deed).retiled + (counted before deed).refused ≡ before.retiled + before.refused)
adds_claim pages user turns Completed before old between new so_far does =
    let one = completes_one between new so_far.leaves.free does in let was = so_far.leaves in
    let completed = one.completed_is in let retiled = one.retiled_is in let had = was.completed_is in let were = was.retiled_is in
    (record { free = one.free; completed_is = omega (arith, completed, had); retiled_is = omega (arith, retiled, were) }, omega arith, refl)
adds_claim pages user turns FoundNone before old between new so_far does =
    let one = asks_none (14 * pages) between new so_far.leaves.free does in let was = so_far.leaves in
    let completed = one.completed_is in let retiled = one.retiled_is in let had = was.completed_is in let were = was.retiled_is in
    (record { free = one.free; completed_is = omega (arith, completed, had); retiled_is = omega (arith, retiled, were) }, omega arith, refl)
adds_claim pages user turns Partitioned before old between new so_far does = absurd does
adds_claim pages user turns Refused before old between new so_far does = absurd does

adds_retile : (page layout user turns : ℕ) (deed : Deed) (before : UserCounts) (old between new : UserView) → AddsUp user turns before old between → DoesRetile page layout deed between new
    → Leaves (counted before deed).claimed (counted before deed).retiled old new
    × ((counted before deed).claimed + (counted before deed).none ≡ before.claimed + before.none) × ((counted before deed).retiled + (counted before deed).refused ≡ before.retiled + before.refused + 1)
adds_retile page layout user turns Completed before old between new so_far does = absurd does
adds_retile page layout user turns FoundNone before old between new so_far does = absurd does
adds_retile page layout user turns Partitioned before old between new so_far does =
    let one = partitions_one page layout between new so_far.leaves.free does in let was = so_far.leaves in
    let completed = one.completed_is in let retiled = one.retiled_is in let had = was.completed_is in let were = was.retiled_is in
    (record { free = one.free; completed_is = omega (arith, completed, had); retiled_is = omega (arith, retiled, were) }, refl, omega arith)
adds_retile page layout user turns Refused before old between new so_far does =
    let one = refuses_one page between new so_far.leaves.free does in let was = so_far.leaves in
    let completed = one.completed_is in let retiled = one.retiled_is in let had = was.completed_is in let were = was.retiled_is in
    (record { free = one.free; completed_is = omega (arith, completed, had); retiled_is = omega (arith, retiled, were) }, refl, omega arith)

adds_turn : (pages user turns : ℕ) (test : Bool) (deed : Deed) (before : UserCounts) (old between new : UserView) → AddsUp user turns before old between
    → MatchBool test (DoesRetile ((turns + 1) % 4) ((turns + 1 + user) % 5 + 1) deed between new) (DoesClaim pages deed between new)
    → Leaves (counted before deed).claimed (counted before deed).retiled old new
    × ((counted before deed).claimed + (counted before deed).none + (if test then retile_turns user turns + 1 else retile_turns user turns) ≡ turns + 1)
    × ((counted before deed).retiled + (counted before deed).refused ≡ (if test then retile_turns user turns + 1 else retile_turns user turns))
adds_turn pages user turns true deed before old between new so_far does =
    let all = adds_retile ((turns + 1) % 4) ((turns + 1 + user) % 5 + 1) user turns deed before old between new so_far does in
    let claimed = all.1 in let retiled = all.2 in let claims_ = so_far.claims in let retiles_ = so_far.retiles in
    (all.0, omega (arith, claimed, claims_), omega (arith, retiled, retiles_))
adds_turn pages user turns false deed before old between new so_far does =
    let all = adds_claim pages user turns deed before old between new so_far does in
    let claimed = all.1 in let retiled = all.2 in let claims_ = so_far.claims in let retiles_ = so_far.retiles in
    (all.0, omega (arith, claimed, claims_), omega (arith, retiled, retiles_))

pub turns_add_up : (pages user turns : ℕ) (counts : UserCounts) (old new : UserView) → IsFree old → TakesTurns pages user turns old new counts → AddsUp user turns counts old new
turns_add_up pages user zero counts old new free takes =
    let counts_is = takes.1 in
    let claimed : counts.claimed ≡ 0 = ap (λ (c : UserCounts). c.claimed) counts_is in let none : counts.none ≡ 0 = ap (λ (c : UserCounts). c.none) counts_is in
    let retiled : counts.retiled ≡ 0 = ap (λ (c : UserCounts). c.retiled) counts_is in let refused_ : counts.refused ≡ 0 = ap (λ (c : UserCounts). c.refused) counts_is in
    let same = ap (λ (v : UserView). length v.completed) takes.0 in let also = ap (λ (v : UserView). length v.retiled) takes.0 in
    record {
      leaves = record { free = subst IsFree (sym takes.0) free; completed_is = omega (arith, same, claimed); retiled_is = omega (arith, also, retiled) };
      claims = omega (arith, claimed, none);
      retiles = omega (arith, retiled, refused_);
    }
turns_add_up pages user (suc turns) counts old new free (between, before, deed, takes, does, counts_is) =
    let so_far = turns_add_up pages user turns before old between free takes in
    let all = adds_turn pages user turns ((user + (turns + 1)) % 3 == 0) deed before old between new so_far does in
    subst (λ (c : UserCounts). AddsUp user (suc turns) c old new) (sym counts_is)
    (record { leaves = all.0; claims = all.1 ∙ (let e : turns + 1 ≡ suc turns = omega arith in e); retiles = all.2 })
