-- Each step of the service keeps a world owned.
use Rattle.std.proofs.Common.{◌≡◌, ℕ, ◌+◌, ◌<◌, ◌≤◌, [], ◌∷◌, ◌++◌, length, subst, sym, refl, ap, ◌∙◌, arith, ⊎_elim, length-set, length-append}
use native.Mathlib.Decide.{ℕ_discrete}
use mathlib.Core.Logic.{dite}
use Rattle.chunk_plain.specs.Views.{At, Content, BegunChunk, Held, Completed, WriterView, Taken, none_taken, taken_of}
use Rattle.chunk_plain.specs.World.{World, Status, Unclaimed, Ready, Reading, status, writer}
use Rattle.chunk_plain.specs.Steps.{takes_in, learns, lets_go, served, serviced, without}
use Rattle.chunk_plain.specs.Owned.{times, claims_of, reads_of, Owns, Counts, IsOwned}
use Rattle.chunk_plain.proofs.Lists.{changed, matrix, times-here, times-other, times-without_same, times-without_other, at_more, at_one}
use Rattle.chunk_plain.proofs.Owned.{Foreign, foreign_stays, service_step}

abbrev completed_chunk : BegunChunk → ℕ
completed_chunk (Held chunk head) = chunk
completed_chunk (Completed chunk content) = chunk

-- the next complete chunk of a writer is taken
pub takes_owned : (world : World) (place chunk : ℕ) (content : Content) → IsOwned world → place < length world.writers → chunk < length world.chunks
    → status world chunk ≡ Ready place (taken_of world.service place).count content
    → IsOwned (served world (takes_in world.service place chunk) chunk (Reading place (taken_of world.service place).count content))
takes_owned world place chunk content o inside_w inside_c was =
    let v = writer world place in let s = world.service in let taken = taken_of s place in let count = taken.count in let w = o.owns place chunk in let q = o.counts place in
    let is = Reading place count content in
    let more : Taken = record taken { count = count + 1 } in
    let inside_t : place < length s.taken = omega (arith, o.all_taken) in
    let at : At v.begun count (Completed chunk content) = (w.ready_is count content was).0 in
    service_step world (takes_in s place chunk) chunk is o inside_c
    (matrix (λ u (x : Taken) d t. Owns x.count u (writer world u) d t) s.taken world.chunks none_taken Unclaimed place chunk more is inside_t inside_c o.owns
    record {
      claimed = w.claimed ∙ ap (claims_of place) was;
      stamp_is = λ position e. let before = w.stamp_is position e in absurd cc;
      stamped_is = λ position e. absurd cc;
      held_is = λ position head e. let before = w.held_is position head e in absurd cc;
      writing_is = λ position head e. absurd cc;
      completed_is = λ position other e above. absurd (let below : count ≤ position = omega arith in let before = w.completed_is position other e below in let same : count ≡ position = cc in omega arith);
      ready_is = λ position other e. absurd cc;
      reading_is = λ position other e. let same : count ≡ position = cc in let entry : content ≡ other = cc in
          (subst (λ (m : Content). At v.begun position (Completed chunk m)) entry (subst (λ (i : ℕ). At v.begun i (Completed chunk content)) same at), omega arith);
    }
    (λ other differs p. record {
      claimed = p.claimed;
      stamp_is = p.stamp_is;
      stamped_is = p.stamped_is;
      held_is = p.held_is;
      writing_is = p.writing_is;
      completed_is = λ position m e above. p.completed_is position m e (omega arith);
      ready_is = λ position m e. let r = p.ready_is position m e in (
        r.0,
        dite (ℕ_discrete position count)
            (λ same. absurd (differs (sym (ap completed_chunk (at_one v.begun (Completed chunk content) (Completed other m) count at (subst (λ (i : ℕ). At v.begun i (Completed other m)) same r.0))))))
            (λ apart. let least = r.1 in omega arith),
      );
      reading_is = λ position m e. let r = p.reading_is position m e in (r.0, (let below = r.1 in omega arith));
    })
    (λ other differs p. foreign_stays (taken_of s other).count other (writer world other) chunk (status world chunk) is (subst (Foreign other) (sym was) (λ e. differs (sym e))) (λ e. differs (sym e)) p))
    (λ other. changed (λ (x : Taken). Counts x other (writer world other)) s.taken place other more none_taken inside_t
    (λ same. subst (λ (u : ℕ). Counts more u (writer world u)) (sym same)
    record {
      wins = q.wins;
      next = q.next;
      named = q.named;
      drafts = q.drafts;
      wholes = q.wholes;
      learnt = q.learnt;
      completed = λ position below. dite (ℕ_discrete position count) (λ is_last. (chunk, content, subst (λ (i : ℕ). At v.begun i (Completed chunk content)) (sym is_last) at)) (λ apart. q.completed position (omega arith));
      level = let level = q.level in omega arith;
    })
    (λ _. o.counts other))
    (λ other. changed (λ t. times other (s.reading ++ chunk ∷ []) ≡ reads_of t) world.chunks chunk other is Unclaimed inside_c
    (λ same. subst (λ (d : ℕ). times d (s.reading ++ chunk ∷ []) ≡ 1) (sym same) (times-here chunk s.reading ∙ ap (λ n. n + 1) (o.reads chunk ∙ ap reads_of was)))
    (λ differs. times-other other chunk s.reading differs ∙ o.reads other))
    (λ free. absurd cc)
    (length-set s.taken place more)
    refl

-- the content of the chunk that was taken last of a writer joins the service's view
pub learns_owned : (world : World) (place chunk : ℕ) (content : Content) → IsOwned world → place < length world.writers
    → length (taken_of world.service place).contents < (taken_of world.service place).count
    → At (writer world place).begun (length (taken_of world.service place).contents) (Completed chunk content)
    → IsOwned (serviced world (learns world.service place content))
learns_owned world place chunk content o inside_w room at =
    let v = writer world place in let s = world.service in let taken = taken_of s place in let q = o.counts place in
    let more : Taken = record taken { contents = taken.contents ++ content ∷ [] } in
    let inside_t : place < length s.taken = omega (arith, o.all_taken) in
    record {
      owns = λ u d. changed (λ (x : Taken). Owns x.count u (writer world u) d (status world d)) s.taken place u more none_taken inside_t
          (λ same. subst (λ (k : ℕ). Owns taken.count k (writer world k) d (status world d)) (sym same) (o.owns place d))
          (λ _. o.owns u d);
      counts = λ u. changed (λ (x : Taken). Counts x u (writer world u)) s.taken place u more none_taken inside_t
          (λ same. subst (λ (k : ℕ). Counts more k (writer world k)) (sym same)
          record {
            wins = q.wins;
            next = q.next;
            named = q.named;
            drafts = q.drafts;
            wholes = q.wholes;
            completed = q.completed;
            learnt = λ position m e. ⊎_elim
                (λ old. q.learnt position m old)
                (λ (new : (position ≡ length taken.contents) × (content ≡ m)). (chunk, subst (λ (c : Content). At v.begun position (Completed chunk c)) new.1 (subst (λ (i : ℕ). At v.begun i (Completed chunk content)) (sym new.0) at)))
                (at_more taken.contents content m position e);
            level = omega (arith, length-append taken.contents (content ∷ []));
          })
          (λ _. o.counts u);
      reads = o.reads;
      claimed_won = o.claimed_won;
      ordered = o.ordered;
      looks = o.looks;
      all_taken = length-set s.taken place more ∙ o.all_taken;
    }

-- a chunk that is free again is nobody's, where the service had it
emptied : (count place : ℕ) (view : WriterView) (chunk : ℕ) (was : Status) (of position : ℕ) (content : Content) → was ≡ Reading of position content → Owns count place view chunk was → Owns count place view chunk Unclaimed
emptied count place view chunk was of position content reading p =
    record {
      claimed = p.claimed ∙ ap (claims_of place) reading;
      stamp_is = λ i e. let before = p.stamp_is i e in absurd cc;
      stamped_is = λ i e. absurd cc;
      held_is = λ i head e. let before = p.held_is i head e in absurd cc;
      writing_is = λ i head e. absurd cc;
      completed_is = λ i m e above. let before = p.completed_is i m e above in absurd cc;
      ready_is = λ i m e. absurd cc;
      reading_is = λ i m e. absurd cc;
    }

-- the service gives a chunk back
pub lets_go_owned : (world : World) (chunk place position : ℕ) (content : Content) → IsOwned world → chunk < length world.chunks → status world chunk ≡ Reading place position content
    → IsOwned (served world (lets_go world.service chunk) chunk Unclaimed)
lets_go_owned world chunk place position content o inside was =
    let s = world.service in
    let once : times chunk s.reading ≡ 1 = o.reads chunk ∙ ap reads_of was in
    service_step world (lets_go s chunk) chunk Unclaimed o inside
    (λ u d. changed (λ t. Owns (taken_of s u).count u (writer world u) d t) world.chunks chunk d Unclaimed Unclaimed inside
    (λ same. subst (λ (c : ℕ). Owns (taken_of s u).count u (writer world u) c Unclaimed) (sym same) (emptied (taken_of s u).count u (writer world u) chunk (status world chunk) place position content was (o.owns u chunk)))
    (λ _. o.owns u d))
    o.counts
    (λ d. changed (λ t. times d (without chunk s.reading) ≡ reads_of t) world.chunks chunk d Unclaimed Unclaimed inside
    (λ same. subst (λ (c : ℕ). times c (without chunk s.reading) ≡ 0) (sym same) (let less = times-without_same chunk s.reading (omega arith) in omega (arith, less, once)))
    (λ differs. times-without_other d chunk s.reading differs ∙ o.reads d))
    (λ free. absurd cc)
    refl
    refl
