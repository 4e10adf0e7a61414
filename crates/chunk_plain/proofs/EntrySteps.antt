-- A step of a writer that changes the entry of a chunk that it holds: its header or a payload word is stored, or it is completed.
use Rattle.std.proofs.Common.{◌≡◌, ◌≢◌, ℕ, ◌+◌, ◌-◌, ◌*◌, ◌<◌, ◌≤◌, zero, suc, List, [], ◌∷◌, length, map, set, get_or, subst, sym, refl, ap, ◌∙◌, arith, ⊎_elim, length-set, lt_of_not-le}
use native.Mathlib.Decide.{dec_le, ℕ_discrete}
use mathlib.Core.Logic.{dite}
use mathlib.Core.Option.{some-injective, some-ne-none}
use Rattle.atomic_table.proofs.Lists.{at_set, set_here, set_else}
use Rattle.chunk_plain.specs.Setup.{sequence_of}
use Rattle.chunk_plain.specs.Payload.{byte_of, byte_at, byte_in, sealed_to}
use Rattle.chunk_plain.specs.Views.{At, Head, Draft, Content, BegunChunk, chunk_of, Held, Completed, Found, taken_of}
use Rattle.chunk_plain.specs.World.{World, Status, Writing, Ready, status, writer}
use Rattle.chunk_plain.specs.Steps.{redrafts, with_head, with_word, with_words, completes, drafted, moved}
use Rattle.chunk_plain.specs.Owned.{times, claims_of, reads_of, stamped_chunks, IsOwned}
use Rattle.chunk_plain.specs.Drafts.{MayFollow, IsDraft, HasFinished, head_of, StillHas, IsThere}
use Rattle.chunk_plain.proofs.Lists.{at_inside, at_one}
use Rattle.chunk_plain.proofs.AskOrder.{order_stays}
use Rattle.chunk_plain.proofs.Owned.{Foreign, writer_step, won_stays}
use Rattle.chunk_plain.proofs.Sealing.{reads_same, ends_grow, word_bytes}

-- the status of a chunk with this entry, as long as it isn't taken
abbrev status_by : ℕ → ℕ → BegunChunk → Status
status_by place position (Held chunk head) = Writing place position head
status_by place position (Completed chunk content) = Ready place position content

abbrev IsEntered : Status → Type 0
IsEntered (Writing place position head) = Unit {0}
IsEntered (Ready place position content) = Unit {0}
IsEntered _ = ⊥

entered : (place position : ℕ) (entry : BegunChunk) → IsEntered (status_by place position entry)
entered place position (Held chunk head) = tt
entered place position (Completed chunk content) = tt

writing_entry : (place position i : ℕ) (head : Draft) (entry : BegunChunk) → status_by place position entry ≡ Writing place i head → (position ≡ i) × (entry ≡ Held (chunk_of entry) head)
writing_entry place position i head (Held chunk other) e = (cc, cc)
writing_entry place position i head (Completed chunk content) e = absurd cc

ready_entry : (place position i : ℕ) (content : Content) (entry : BegunChunk) → status_by place position entry ≡ Ready place i content → (position ≡ i) × (entry ≡ Completed (chunk_of entry) content)
ready_entry place position i content (Held chunk head) e = absurd cc
ready_entry place position i content (Completed chunk other) e = (cc, cc)

foreign_entry : (other place position : ℕ) (entry : BegunChunk) → place ≢ other → Foreign other (status_by place position entry)
foreign_entry other place position (Held chunk head) differs = differs
foreign_entry other place position (Completed chunk content) differs = differs

quiet_entry : (place position : ℕ) (entry : BegunChunk) → (claims_of place (status_by place position entry) ≡ 0) × (reads_of (status_by place position entry) ≡ 0)
quiet_entry place position (Held chunk head) = (refl, refl)
quiet_entry place position (Completed chunk content) = (refl, refl)

-- an entry that isn't the changed one is there still
kept : (begun : List BegunChunk) (position i : ℕ) (was entry other : BegunChunk) → At begun position was → At begun i other → (was ≡ other → ⊥) → At (set begun position entry) i other
kept begun position i was entry other changed at apart =
    dite (ℕ_discrete i position)
    (λ same. absurd (apart (at_one begun was other position changed (subst (λ j. At begun j other) same at))))
    (λ differs. set_else begun position i entry differs ∙ at)

-- an entry of the same chunk changes none of the begun chunks
same_chunks : (begun : List BegunChunk) (position : ℕ) (was entry : BegunChunk) → At begun position was → chunk_of entry ≡ chunk_of was
    → map chunk_of (set begun position entry) ≡ map chunk_of begun
same_chunks [] position was entry at same = absurd (some-ne-none was (sym at))
same_chunks (first ∷ begun) zero was entry at same = ap (λ (c : ℕ). c ∷ map chunk_of begun) (same ∙ ap chunk_of (sym (some-injective first was at)))
same_chunks (first ∷ begun) (suc position) was entry at same = ap (λ (l : List ℕ). chunk_of first ∷ l) (same_chunks begun position was entry at same)

entry_owned : (world : World) (place chunk position : ℕ) (head : Draft) (entry : BegunChunk) → IsOwned world → place < length world.writers → chunk < length world.chunks
    → At (writer world place).begun position (Held chunk head) → chunk_of entry ≡ chunk
    → ((content : Content) → entry ≡ Completed chunk content → (content.image.chunk_id ≡ position) × (content.image.sequence ≡ sequence_of place))
    → ((draft : Draft) → entry ≡ Held chunk draft → IsDraft draft)
    → ((content : Content) → entry ≡ Completed chunk content → HasFinished content)
    → ((about : ℕ) (found : Found) → StillHas about found (Held chunk head) → StillHas about found entry)
    → IsOwned (moved world place (record (writer world place) { begun = set (writer world place).begun position entry }) chunk (status_by place position entry))
entry_owned world place chunk position head entry o inside_w inside_c at same_chunk named good whole carries =
    let v = writer world place in let w = o.owns place chunk in let q = o.counts place in
    let count = (taken_of world.service place).count in
    let is = status_by place position entry in
    let was : status world chunk ≡ Writing place position head = w.held_is position head at in
    let inside : position < length v.begun = at_inside v.begun (Held chunk head) position at in
    let here : At (set v.begun position entry) position entry = set_here v.begun position entry inside in
    let above : count ≤ position = dite (dec_le count position) (λ le. le) (λ below. absurd (let r = q.completed position (lt_of_not-le below) in let one : Held chunk head ≡ Completed r.0 r.1 = at_one v.begun (Held chunk head) (Completed r.0 r.1) position at r.2 in cc)) in
    let done : (i d : ℕ) (m : Content) → At v.begun i (Completed d m) → At (set v.begun position entry) i (Completed d m) = λ i d m e. kept v.begun position i (Held chunk head) entry (Completed d m) at e (λ same. absurd cc) in
    writer_step world place chunk (record v { begun = set v.begun position entry }) is o inside_w inside_c
    record {
      claimed = w.claimed ∙ (ap (claims_of place) was ∙ sym (quiet_entry place position entry).0);
      stamp_is = λ i e. let before = w.stamp_is i e in absurd cc;
      stamped_is = λ i e. absurd (subst IsEntered e (entered place position entry));
      held_is = λ i other e. ⊎_elim
          (λ (new : (i ≡ position) × (entry ≡ Held chunk other)). subst (λ (j : ℕ). is ≡ Writing place j other) (sym new.0) (ap (status_by place position) new.1))
          (λ (old : (i ≢ position) × At v.begun i (Held chunk other)). let before = w.held_is i other old.1 in absurd (old.0 cc))
          (at_set v.begun position i entry (Held chunk other) e);
      writing_is = λ i other e. let r = writing_entry place position i other entry e in
          subst (λ (j : ℕ). At (set v.begun position entry) j (Held chunk other)) r.0 (subst (λ (b : BegunChunk). At (set v.begun position entry) position b) (r.1 ∙ ap (λ (d : ℕ). Held d other) same_chunk) here);
      completed_is = λ i content e over. ⊎_elim
          (λ (new : (i ≡ position) × (entry ≡ Completed chunk content)). subst (λ (j : ℕ). is ≡ Ready place j content) (sym new.0) (ap (status_by place position) new.1))
          (λ (old : (i ≢ position) × At v.begun i (Completed chunk content)). let before = w.completed_is i content old.1 over in absurd cc)
          (at_set v.begun position i entry (Completed chunk content) e);
      ready_is = λ i content e. let r = ready_entry place position i content entry e in
          subst (λ (j : ℕ). At (set v.begun position entry) j (Completed chunk content) × (count ≤ j)) r.0 (subst (λ (b : BegunChunk). At (set v.begun position entry) position b) (r.1 ∙ ap (λ (d : ℕ). Completed d content) same_chunk) here, above);
      reading_is = λ i content e. absurd (subst IsEntered e (entered place position entry));
    }
    (λ other differs p. record {
      claimed = p.claimed;
      stamp_is = p.stamp_is;
      stamped_is = p.stamped_is;
      held_is = λ i h e. ⊎_elim
          (λ (new : (i ≡ position) × (entry ≡ Held other h)). absurd (differs (sym (ap chunk_of new.1) ∙ same_chunk)))
          (λ (old : (i ≢ position) × At v.begun i (Held other h)). p.held_is i h old.1)
          (at_set v.begun position i entry (Held other h) e);
      writing_is = λ i h e. kept v.begun position i (Held chunk head) entry (Held other h) at (p.writing_is i h e) (λ same. differs (sym (ap chunk_of same)));
      completed_is = λ i content e over. ⊎_elim
          (λ (new : (i ≡ position) × (entry ≡ Completed other content)). absurd (differs (sym (ap chunk_of new.1) ∙ same_chunk)))
          (λ (old : (i ≢ position) × At v.begun i (Completed other content)). p.completed_is i content old.1 over)
          (at_set v.begun position i entry (Completed other content) e);
      ready_is = λ i content e. let r = p.ready_is i content e in (done i other content r.0, r.1);
      reading_is = λ i content e. let r = p.reading_is i content e in (done i other content r.0, r.1);
    })
    (λ other differs. subst (Foreign other) (sym was) (λ e. differs (sym e)))
    (λ other differs. foreign_entry other place position entry (λ e. differs (sym e)))
    ((quiet_entry place position entry).1 ∙ ap reads_of (sym was))
    record {
      wins = λ about. q.wins about ∙ ap (λ (l : List ℕ). times about v.claimed + times about (stamped_chunks v.stamped) + times about l)
          (sym (same_chunks v.begun position (Held chunk head) entry at same_chunk));
      next = λ stamp e. q.next stamp e ∙ sym (length-set v.begun position entry);
      named = λ i d content e. ⊎_elim
          (λ (new : (i ≡ position) × (entry ≡ Completed d content)). subst (λ (j : ℕ). (content.image.chunk_id ≡ j) × (content.image.sequence ≡ sequence_of place)) (sym new.0)
          (named content (new.1 ∙ ap (λ (c : ℕ). Completed c content) (sym (ap chunk_of new.1) ∙ same_chunk))))
          (λ (old : (i ≢ position) × At v.begun i (Completed d content)). q.named i d content old.1)
          (at_set v.begun position i entry (Completed d content) e);
      drafts = λ i d draft e. ⊎_elim
          (λ (new : (i ≡ position) × (entry ≡ Held d draft)). good draft (new.1 ∙ ap (λ (c : ℕ). Held c draft) (sym (ap chunk_of new.1) ∙ same_chunk)))
          (λ (old : (i ≢ position) × At v.begun i (Held d draft)). q.drafts i d draft old.1)
          (at_set v.begun position i entry (Held d draft) e);
      wholes = λ i d content e. ⊎_elim
          (λ (new : (i ≡ position) × (entry ≡ Completed d content)). whole content (new.1 ∙ ap (λ (c : ℕ). Completed c content) (sym (ap chunk_of new.1) ∙ same_chunk)))
          (λ (old : (i ≢ position) × At v.begun i (Completed d content)). q.wholes i d content old.1)
          (at_set v.begun position i entry (Completed d content) e);
      completed = λ i below. let r = q.completed i below in (r.0, r.1, done i r.0 r.1 r.2);
      learnt = λ i content e. let r = q.learnt i content e in (r.0, done i r.0 content r.1);
      level = q.level;
    }
    (λ i ask e. e)
    (order_stays world.writers place (record v { begun = set v.begun position entry }) o.ordered inside_w refl)
    (won_stays world place chunk chunk (record v { begun = set v.begun position entry }) is inside_w (λ i ask e. e) (o.claimed_won chunk (λ free. absurd cc)))
    (λ about found there. there_still v.begun chunk position head entry about found at inside carries there)
  where
    there_still : (begun : List BegunChunk) (chunk position : ℕ) (head : Draft) (entry : BegunChunk) (about : ℕ) (found : Found) → At begun position (Held chunk head) → position < length begun
        → ((about : ℕ) (found : Found) → StillHas about found (Held chunk head) → StillHas about found entry)
        → (there : IsThere (record (writer world place) { begun = begun }) about found) → IsThere (record (writer world place) { begun = set begun position entry }) about found
    there_still begun chunk position head entry about found at inside carries there =
        dite (ℕ_discrete found.position position)
        (λ same. record {
          entry = entry;
          at = subst (λ i. At (set begun position entry) i entry) (sym same) (set_here begun position entry inside);
          has = carries about found (subst (StillHas about found) (at_one begun there.entry (Held chunk head) position (subst (λ i. At begun i there.entry) same there.at) at) there.has);
        })
        (λ differs. record { entry = there.entry; at = set_else begun position found.position entry differs ∙ there.at; has = there.has })

follows_on : (first second third : Head) → MayFollow first second → MayFollow second third → MayFollow first third
follows_on first second third a b = record {
  count_grows = let low = a.count_grows in let high = b.count_grows in omega arith;
  front_stays = λ some. b.front_stays (λ none. some (let low = a.count_grows in omega arith)) ∙ a.front_stays some;
}

redrafts_owned : (world : World) (place chunk position : ℕ) (old new : Draft) → IsOwned world → place < length world.writers → chunk < length world.chunks
    → At (writer world place).begun position (Held chunk old) → IsDraft new
    → ((about : ℕ) (found : Found) → StillHas about found (Held chunk old) → StillHas about found (Held chunk new))
    → IsOwned (moved world place (redrafts (writer world place) chunk position new) chunk (Writing place position new))
redrafts_owned world place chunk position old new o inside_w inside_c at good carries =
    entry_owned world place chunk position old (Held chunk new) o inside_w inside_c at refl (λ content e. absurd cc)
    (λ draft e. let same : new ≡ draft = cc in subst IsDraft same good) (λ content e. absurd cc) carries

-- the header of a held chunk is stored anew
pub heads_owned : (world : World) (place chunk position : ℕ) (draft : Draft) (head : Head) (ends : List ℕ) → IsOwned world → place < length world.writers → chunk < length world.chunks
    → At (writer world place).begun position (Held chunk draft) → MayFollow draft.head head → IsDraft (with_head draft head ends)
    → IsOwned (moved world place (redrafts (writer world place) chunk position (with_head draft head ends)) chunk (Writing place position (with_head draft head ends)))
heads_owned world place chunk position draft head ends o inside_w inside_c at follows good =
    let before = (o.counts place).drafts position chunk draft at in
    let more : length draft.ends ≤ length ends = let low = before.count in let high = good.count in let grows = follows.count_grows in omega arith in
    let grown = ends_grow (byte_at draft.words) draft.ends ends before.reads good.reads more in
    redrafts_owned world place chunk position draft (with_head draft head ends) o inside_w inside_c at good
    (λ about found has. (has.0, follows_on found.head draft.head head has.1 follows, (let less = has.2 in omega arith), has.3))

-- other payload words stand in a held chunk, with the bytes of the finished fragments
pub stores_owned : (world : World) (place chunk position : ℕ) (draft : Draft) (words : List ℕ) → IsOwned world → place < length world.writers → chunk < length world.chunks
    → At (writer world place).begun position (Held chunk draft) → ((j : ℕ) → j < sealed_to draft.ends → byte_at words j ≡ byte_at draft.words j)
    → IsOwned (drafted world place chunk position (with_words draft words))
stores_owned world place chunk position draft words o inside_w inside_c at bytes =
    let good = (o.counts place).drafts position chunk draft at in
    redrafts_owned world place chunk position draft (with_words draft words) o inside_w inside_c at
    record { count = good.count; reads = reads_same (byte_at draft.words) (byte_at words) draft.ends (λ j below. sym (bytes j below)) good.reads }
    (λ about found has. (has.0, has.1, has.2, λ j below. bytes j (let most = has.2 in omega arith) ∙ has.3 j below))

-- a payload word of a held chunk is stored, which keeps the bytes of the finished fragments
pub publishes_owned : (world : World) (place chunk position index word : ℕ) (draft : Draft) → IsOwned world → place < length world.writers → chunk < length world.chunks
    → At (writer world place).begun position (Held chunk draft) → index < length draft.words
    → ((m : ℕ) → m < 8 → 8 * index + m < sealed_to draft.ends → byte_of word m ≡ byte_of (get_or draft.words index 0) m)
    → IsOwned (moved world place (redrafts (writer world place) chunk position (with_word draft index word)) chunk (Writing place position (with_word draft index word)))
publishes_owned world place chunk position index word draft o inside_w inside_c at inside same =
    stores_owned world place chunk position draft (set draft.words index word) o inside_w inside_c at
    (word_bytes draft.words index word (sealed_to draft.ends) same inside)

-- a held chunk is completed, whose content has the finished fragments
pub completes_owned : (world : World) (place chunk position : ℕ) (draft : Draft) (content : Content) → IsOwned world → place < length world.writers → chunk < length world.chunks
    → At (writer world place).begun position (Held chunk draft) → content.image.chunk_id ≡ position → content.image.sequence ≡ sequence_of place
    → head_of content ≡ draft.head → sealed_to draft.ends ≤ length content.image.payload
    → ((j : ℕ) → j < sealed_to draft.ends → byte_at draft.words j ≡ byte_in content.image.payload j)
    → IsOwned (moved world place (completes (writer world place) chunk position content) chunk (Ready place position content))
completes_owned world place chunk position draft content o inside_w inside_c at position_is sequence_is head_is inside same =
    let good = (o.counts place).drafts position chunk draft at in
    let finished : HasFinished content = record {
      ends = draft.ends;
      sealed = record {
        count = good.count ∙ ap (λ (h : Head). h.count - 1) (sym head_is);
        reads = reads_same (byte_at draft.words) (byte_in content.image.payload) draft.ends same good.reads;
      };
      inside = inside;
    } in
    entry_owned world place chunk position draft (Completed chunk content) o inside_w inside_c at refl
    (λ other e. let one : content ≡ other = cc in subst (λ (m : Content). (m.image.chunk_id ≡ position) × (m.image.sequence ≡ sequence_of place)) one (position_is, sequence_is))
    (λ other e. absurd cc)
    (λ other e. let one : content ≡ other = cc in subst HasFinished one finished)
    (λ about found has. (
      has.0,
      subst (λ h. MayFollow found.head h) (sym head_is) has.1,
      (let less = has.2 in omega arith),
      λ j below. sym (same j (let less = has.2 in omega arith)) ∙ has.3 j below,
    ))
