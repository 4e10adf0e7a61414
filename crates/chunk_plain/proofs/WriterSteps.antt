-- Each step of a writer keeps a world owned.
use Rattle.std.proofs.Common.{◌≡◌, ℕ, ◌+◌, ◌<◌, Bool, true, false, cond, Option, Some, None, List, [], ◌∷◌, ◌++◌, length, map, subst, sym, refl, ap, ◌∙◌, arith, ⊎_elim}
use Rattle.std.proofs.lemmas.Bool.Decides.{nat_tests}
use Rattle.std.proofs.lemmas.List.{get_or-set_same, map-append}
use native.Mathlib.Decide.{ℕ_discrete}
use mathlib.Core.Logic.{dite}
use Rattle.atomic_table.proofs.Lists.{at_longer, at_last}
use Rattle.trace_model.specs.Calls.{Call}
use Rattle.chunk_plain.specs.Views.{At, Ask, fresh, BegunChunk, chunk_of, Held, Completed, Letters, Stamp, WriterView, newcomer}
use Rattle.chunk_plain.specs.World.{World, Status, Unclaimed, Claimed, Stamped, Writing, status, writer}
use Rattle.chunk_plain.specs.Steps.{without, claims, stamps, begins, notes_call, moved, with_writer_view}
use Rattle.chunk_plain.specs.Drafts.{IsDraft}
use Rattle.chunk_plain.specs.Owned.{times, claims_of, reads_of, stamped_chunks, won_chunks, Won, IsOwned}
use Rattle.chunk_plain.proofs.Lists.{times-append, times-here, times-other, times-without_same, times-without_other, at_more}
use Rattle.chunk_plain.proofs.AskOrder.{order_stays, order_grows}
use Rattle.chunk_plain.proofs.Owned.{Foreign, claims_of-mine, claimed_status, writer_step, noted_owned, won_stays}

-- a stamp's chunk and position, where there is one
abbrev chunk_in : ℕ → Option Stamp → ℕ
chunk_in default None = default
chunk_in default (Some stamp) = stamp.chunk

abbrev position_in : ℕ → Option Stamp → ℕ
position_in default None = default
position_in default (Some stamp) = stamp.position

won_by : (b : Bool) (x y : ℕ) (more less : List ℕ) → more ≡ less ++ y ∷ [] → cond b (x ∷ more) more ≡ cond b (x ∷ less) less ++ y ∷ []
won_by true x y more less e = ap (λ (l : List ℕ). x ∷ l) e
won_by false x y more less e = e

-- a claim that won joins the won chunks, and one in vain doesn't
won_chunks-won : (asks : List Ask) (ask : Ask) → ask.won ≡ true → won_chunks (asks ++ ask ∷ []) ≡ won_chunks asks ++ ask.chunk ∷ []
won_chunks-won [] ask won = ap (λ b. cond b (ask.chunk ∷ []) []) won
won_chunks-won (first ∷ asks) ask won = won_by first.won first.chunk ask.chunk (won_chunks (asks ++ ask ∷ [])) (won_chunks asks) (won_chunks-won asks ask won)

won_chunks-lost : (asks : List Ask) (ask : Ask) → ask.won ≡ false → won_chunks (asks ++ ask ∷ []) ≡ won_chunks asks
won_chunks-lost [] ask lost = ap (λ b. cond b (ask.chunk ∷ []) []) lost
won_chunks-lost (first ∷ asks) ask lost = ap (λ (l : List ℕ). cond first.won (first.chunk ∷ l) l) (won_chunks-lost asks ask lost)

-- a chunk that leaves the claimed ones is one there less
claimed_moves : (about chunk : ℕ) (claimed : List ℕ) → 0 < times chunk claimed → times about (without chunk claimed) + times about (chunk ∷ []) ≡ times about claimed
claimed_moves about chunk claimed mine =
    dite (ℕ_discrete about chunk)
    (λ same. subst (λ (x : ℕ). times x (without chunk claimed) + times x (chunk ∷ []) ≡ times x claimed) (sym same)
    (let less = times-without_same chunk claimed mine in grind (arith, nat_tests, less)))
    (λ differs. let stays = times-without_other about chunk claimed differs in grind (arith, nat_tests, stays))

-- a claim of this writer that won is one of the world after the step
won_here : (world : World) (place chunk i : ℕ) (view : WriterView) (is : Status) (ask : Ask) → place < length world.writers → At view.asked i ask → ask.won ≡ true
    → Won (moved world place view chunk is) ask.chunk
won_here world place chunk i view is ask inside at won =
    (place, i, ask, subst (λ (v : WriterView). At v.asked i ask) (sym (get_or-set_same world.writers place view newcomer inside)) at, won, refl)

-- a claim wins
pub claims_owned : (world : World) (place chunk found : ℕ) → IsOwned world → place < length world.writers → chunk < length world.chunks → status world chunk ≡ Unclaimed
    → IsOwned (moved world place (claims (writer world place) chunk found true) chunk (Claimed place))
claims_owned world place chunk found o inside_w inside_c free =
    let v = writer world place in let w = o.owns place chunk in let q = o.counts place in
    let ask : Ask = record { chunk = chunk; found = found; won = true; calls = length v.calls } in
    let none : times chunk v.claimed ≡ 0 = w.claimed ∙ ap (claims_of place) free in
    writer_step world place chunk (claims v chunk found true) (Claimed place) o inside_w inside_c
    record {
      claimed = times-here chunk v.claimed ∙ (ap (λ n. n + 1) none ∙ sym (claims_of-mine place));
      stamp_is = λ position e. let was = w.stamp_is position e in absurd cc;
      stamped_is = λ position e. absurd cc;
      held_is = λ position head e. let was = w.held_is position head e in absurd cc;
      writing_is = λ position head e. absurd cc;
      completed_is = λ position content e above. let was = w.completed_is position content e above in absurd cc;
      ready_is = λ position content e. absurd cc;
      reading_is = λ position content e. absurd cc;
    }
    (λ other differs p. record { claimed = times-other other chunk v.claimed differs ∙ p.claimed; stamp_is = p.stamp_is; stamped_is = p.stamped_is; held_is = p.held_is; writing_is = p.writing_is; completed_is = p.completed_is; ready_is = p.ready_is; reading_is = p.reading_is })
    (λ other _. subst (Foreign other) (sym free) tt)
    (λ other differs e. differs (sym e))
    (ap reads_of (sym free))
    record {
      wins = λ about. ap (times about) (won_chunks-won v.asked ask refl)
          ∙ omega (arith, times-append about chunk (won_chunks v.asked), times-append about chunk v.claimed, q.wins about);
      next = q.next;
      named = q.named;
      drafts = q.drafts;
      wholes = q.wholes;
      completed = q.completed;
      learnt = q.learnt;
      level = q.level;
    }
    (λ i old at. at_longer v.asked (ask ∷ []) i old at)
    (order_grows world place (claims v chunk found true) ask o.ordered inside_w refl (λ lost. absurd cc))
    (won_here world place chunk (length v.asked) (claims v chunk found true) (Claimed place) ask inside_w (at_last v.asked ask (length v.asked) refl) refl)
    (λ about found there. record { entry = there.entry; at = there.at; has = there.has })

-- a claim finds the chunk claimed
pub misses_owned : (world : World) (place chunk found : ℕ) → IsOwned world → place < length world.writers → (status world chunk ≡ Unclaimed → ⊥)
    → IsOwned (with_writer_view world place (claims (writer world place) chunk found false))
misses_owned world place chunk found o inside taken =
    let v = writer world place in let q = o.counts place in
    let ask : Ask = record { chunk = chunk; found = found; won = false; calls = length v.calls } in
    noted_owned world place (claims v chunk found false) o inside
    (λ other p. record { claimed = p.claimed; stamp_is = p.stamp_is; stamped_is = p.stamped_is; held_is = p.held_is; writing_is = p.writing_is; completed_is = p.completed_is; ready_is = p.ready_is; reading_is = p.reading_is })
    record { wins = λ about. ap (times about) (won_chunks-lost v.asked ask refl) ∙ q.wins about; next = q.next; named = q.named; drafts = q.drafts; wholes = q.wholes; completed = q.completed; learnt = q.learnt; level = q.level }
    (λ i old at. at_longer v.asked (ask ∷ []) i old at)
    (order_grows world place (claims v chunk found false) ask o.ordered inside refl (λ _. o.claimed_won chunk taken))
    (λ about found there. record { entry = there.entry; at = there.at; has = there.has })

-- calls and letters are noted
pub notes_owned : (world : World) (place : ℕ) (calls : List Call) (letters : Letters) → IsOwned world → place < length world.writers
    → IsOwned (with_writer_view world place (record (writer world place) { calls = calls; letters = letters }))
notes_owned world place calls letters o inside =
    let q = o.counts place in
    let view : WriterView = record (writer world place) { calls = calls; letters = letters } in
    noted_owned world place view o inside
    (λ other p. record { claimed = p.claimed; stamp_is = p.stamp_is; stamped_is = p.stamped_is; held_is = p.held_is; writing_is = p.writing_is; completed_is = p.completed_is; ready_is = p.ready_is; reading_is = p.reading_is })
    record { wins = q.wins; next = q.next; named = q.named; drafts = q.drafts; wholes = q.wholes; completed = q.completed; learnt = q.learnt; level = q.level }
    (λ i old at. at)
    (order_stays world.writers place view o.ordered inside refl)
    (λ about found there. record { entry = there.entry; at = there.at; has = there.has })

-- a call is noted
pub notes_call_owned : (world : World) (place : ℕ) (call : Call) → IsOwned world → place < length world.writers → IsOwned (with_writer_view world place (notes_call (writer world place) call))
notes_call_owned world place call o inside = notes_owned world place ((writer world place).calls ++ call ∷ []) (writer world place).letters o inside

-- the header of a claimed chunk is stored
pub stamps_owned : (world : World) (place chunk : ℕ) → IsOwned world → place < length world.writers → chunk < length world.chunks
    → 0 < times chunk (writer world place).claimed → (writer world place).stamped ≡ None
    → IsOwned (moved world place (stamps (writer world place) chunk) chunk (Stamped place (length (writer world place).begun)))
stamps_owned world place chunk o inside_w inside_c mine unstamped =
    let v = writer world place in let w = o.owns place chunk in let q = o.counts place in let n = length v.begun in
    let was : status world chunk ≡ Claimed place = claimed_status place (status world chunk) (subst (λ x. 0 < x) w.claimed mine) in
    let once : times chunk v.claimed ≡ 1 = w.claimed ∙ (ap (claims_of place) was ∙ claims_of-mine place) in
    writer_step world place chunk (stamps v chunk) (Stamped place n) o inside_w inside_c
    record {
      claimed = omega (arith, times-without_same chunk v.claimed mine);
      stamp_is = λ position e. ap (λ (i : ℕ). Stamped place i) (ap (position_in n) e);
      stamped_is = λ position e. let same : n ≡ position = cc in ap (λ (i : ℕ). let x : Option Stamp = Some (record { chunk = chunk; position = i }) in x) same;
      held_is = λ position head e. let before = w.held_is position head e in absurd cc;
      writing_is = λ position head e. absurd cc;
      completed_is = λ position content e above. let before = w.completed_is position content e above in absurd cc;
      ready_is = λ position content e. absurd cc;
      reading_is = λ position content e. absurd cc;
    }
    (λ other differs p. record {
      claimed = times-without_other other chunk v.claimed differs ∙ p.claimed;
      stamp_is = λ position e. absurd (differs (sym (ap (chunk_in chunk) e)));
      stamped_is = λ position e. let before : v.stamped ≡ Some (record { chunk = other; position = position }) = p.stamped_is position e in absurd cc;
      held_is = p.held_is;
      writing_is = p.writing_is;
      completed_is = p.completed_is;
      ready_is = p.ready_is;
      reading_is = p.reading_is;
    })
    (λ other differs. subst (Foreign other) (sym was) (λ e. differs (sym e)))
    (λ other differs e. differs (sym e))
    (ap reads_of (sym was))
    record {
      wins = λ about. let none : times about (stamped_chunks v.stamped) ≡ 0 = ap (λ (s : Option Stamp). times about (stamped_chunks s)) unstamped in
          let moves = claimed_moves about chunk v.claimed mine in omega (arith, moves, none, q.wins about);
      next = λ stamp e. sym (ap (position_in n) e);
      named = q.named;
      drafts = q.drafts;
      wholes = q.wholes;
      completed = q.completed;
      learnt = q.learnt;
      level = q.level;
    }
    (λ i ask at. at)
    (order_stays world.writers place (stamps v chunk) o.ordered inside_w refl)
    (won_stays world place chunk chunk (stamps v chunk) (Stamped place n) inside_w (λ i ask at. at) (o.claimed_won chunk (λ free. absurd cc)))
    (λ about found there. record { entry = there.entry; at = there.at; has = there.has })

-- the chunk whose header was stored is begun
pub begins_owned : (world : World) (place chunk : ℕ) (words : List ℕ) → IsOwned world → place < length world.writers → chunk < length world.chunks
    → (writer world place).stamped ≡ Some (record { chunk = chunk; position = length (writer world place).begun })
    → IsOwned (moved world place (begins (writer world place) chunk words) chunk (Writing place (length (writer world place).begun) (fresh words)))
begins_owned world place chunk words o inside_w inside_c stamped =
    let v = writer world place in let w = o.owns place chunk in let q = o.counts place in let n = length v.begun in
    let was : status world chunk ≡ Stamped place n = w.stamp_is n stamped in
    writer_step world place chunk (begins v chunk words) (Writing place n (fresh words)) o inside_w inside_c
    record {
      claimed = w.claimed ∙ ap (claims_of place) was;
      stamp_is = λ position e. absurd cc;
      stamped_is = λ position e. absurd cc;
      held_is = λ position head e. ⊎_elim
          (λ old. let before = w.held_is position head old in absurd cc)
          (λ new. let same = new.0 in let entry = new.1 in cc)
          (at_more v.begun (Held chunk (fresh words)) (Held chunk head) position e);
      writing_is = λ position head e. let same : n ≡ position = cc in let entry : Held chunk (fresh words) ≡ Held chunk head = cc in subst (λ (b : BegunChunk). At (v.begun ++ Held chunk (fresh words) ∷ []) position b) entry (at_last v.begun (Held chunk (fresh words)) position same);
      completed_is = λ position content e above. ⊎_elim
          (λ old. let before = w.completed_is position content old above in absurd cc)
          (λ new. let entry = new.1 in absurd cc)
          (at_more v.begun (Held chunk (fresh words)) (Completed chunk content) position e);
      ready_is = λ position content e. absurd cc;
      reading_is = λ position content e. absurd cc;
    }
    (λ other differs p. record {
      claimed = p.claimed;
      stamp_is = λ position e. absurd cc;
      stamped_is = λ position e. absurd (differs (ap (chunk_in chunk) (sym (p.stamped_is position e) ∙ stamped)));
      held_is = λ position head e. ⊎_elim (λ old. p.held_is position head old) (λ new. let entry = new.1 in absurd (differs cc)) (at_more v.begun (Held chunk (fresh words)) (Held other head) position e);
      writing_is = λ position head e. at_longer v.begun (Held chunk (fresh words) ∷ []) position (Held other head) (p.writing_is position head e);
      completed_is = λ position content e above. ⊎_elim (λ old. p.completed_is position content old above) (λ new. let entry = new.1 in absurd cc) (at_more v.begun (Held chunk (fresh words)) (Completed other content) position e);
      ready_is = λ position content e. let r = p.ready_is position content e in (at_longer v.begun (Held chunk (fresh words) ∷ []) position (Completed other content) r.0, r.1);
      reading_is = λ position content e. let r = p.reading_is position content e in (at_longer v.begun (Held chunk (fresh words) ∷ []) position (Completed other content) r.0, r.1);
    })
    (λ other differs. subst (Foreign other) (sym was) (λ e. differs (sym e)))
    (λ other differs e. differs (sym e))
    (ap reads_of (sym was))
    record {
      wins = λ about. let one : times about (stamped_chunks v.stamped) ≡ times about (chunk ∷ []) = ap (λ (s : Option Stamp). times about (stamped_chunks s)) stamped in
          let more = ap (times about) (map-append chunk_of v.begun (Held chunk (fresh words) ∷ [])) ∙ times-append about chunk (map chunk_of v.begun) in
          omega (arith, one, more, q.wins about);
      next = λ stamp e. absurd cc;
      named = λ position c content e. ⊎_elim (λ old. q.named position c content old) (λ new. let entry = new.1 in absurd cc) (at_more v.begun (Held chunk (fresh words)) (Completed c content) position e);
      drafts = λ position c draft e. ⊎_elim
          (λ old. q.drafts position c draft old)
          (λ new. let same : fresh words ≡ draft = cc in subst IsDraft same (record { count = refl; reads = λ k below. absurd (omega arith) }))
          (at_more v.begun (Held chunk (fresh words)) (Held c draft) position e);
      wholes = λ position c content e. ⊎_elim (λ old. q.wholes position c content old) (λ new. let entry = new.1 in absurd cc) (at_more v.begun (Held chunk (fresh words)) (Completed c content) position e);
      completed = λ position below. let r = q.completed position below in (r.0, r.1, at_longer v.begun (Held chunk (fresh words) ∷ []) position (Completed r.0 r.1) r.2);
      learnt = λ position content e. let r = q.learnt position content e in (r.0, at_longer v.begun (Held chunk (fresh words) ∷ []) position (Completed r.0 content) r.1);
      level = q.level;
    }
    (λ i ask at. at)
    (order_stays world.writers place (begins v chunk words) o.ordered inside_w refl)
    (won_stays world place chunk chunk (begins v chunk words) (Writing place n (fresh words)) inside_w (λ i ask at. at) (o.claimed_won chunk (λ free. absurd cc)))
    (λ about found there. record { entry = there.entry; at = at_longer v.begun (Held chunk (fresh words) ∷ []) found.position there.entry there.at; has = there.has })
