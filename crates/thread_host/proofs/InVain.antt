-- Where a call loses a packet, its writer has just claimed each chunk of its producer in vain, round for round.
use Rattle.std.proofs.Common.{◌≡◌, ◌∙◌, ℕ, suc, ◌+◌, ◌⊎◌, inl, inr, ⊎_elim, Bool, true, false, List, [], ◌∷◌, ◌++◌, length, map, refl, sym, ap, subst, arith, append-nil, append_assoc, length-append}
use Rattle.std.specs.List.{All}
use Rattle.std.proofs.lemmas.Bool.{true≢false}
use Rattle.std.proofs.lemmas.List.{map-append}
use Rattle.std.proofs.lemmas.List.Elements.{All-nil, All-cons, All-append}
use Rattle.trace_base.specs.declared.policy.WriterPolicy.{WriterPolicy}
use Rattle.trace_base.specs.declared.policy.WriterPolicy.TheVariants.{Drops, Stalls, StallsThenDrops}
use Rattle.trace_model.specs.Calls.{Call, Begun, Number, Bytes, Nested, Ended, GivenUp, Finished, Flushed}
use Rattle.trace_model.specs.Packets.{Packet}
use Rattle.scenario_text.specs.Accepted.{Accepts}
use Rattle.chunk_plain.specs.Owned.{won_chunks}
use Rattle.chunk_plain.specs.Setup.{Setup, producer_of, range_of}
use Rattle.chunk_plain.specs.Views.{Ask, At, BegunChunk, Held, Completed, WriterView, chunk_of, fresh, newcomer}
use Rattle.chunk_plain.proofs.Lists.{at_more, at_inside}
use Rattle.chunk_words.specs.declared.shared.Shared.{Shared}
use Rattle.chunk_words.specs.declared.seats.WriterSeat.{WriterSeat}
use Rattle.chunk_words.specs.contracts.shared.SharedWords.TheImpl.{ghosts as shared}
use Rattle.chunk_words.specs.Sits.{known_by}
use Rattle.claim_arbiter.specs.Claiming.{ClaimsInTurn, lost_asks}
use Rattle.trace_writer.specs.declared.route.Route.{Route}
use Rattle.trace_writer.specs.Asked.{noted_as}
use Rattle.trace_writer.specs.Helping.{LeavesWriters, Tries, Gains, Again, Ends, Works, Done, Silent, Gets, Helped, Refused, Lost, Tried, GivesUp, loses, rounds_for}
use Rattle.trace_writer.specs.Losing.{LosesBehind}
use Rattle.trace_writer.specs.OwnSteps.{KeepsChunks, IsQuiet, IsSilent, GetsChunk, IsVainTry, IsOutNow}
use Rattle.run_model.specs.Vain.{GoesOnInTurn, EndsInVain, HasVainRounds, LosesInVain}
use Rattle.run_model.proofs.InTurnLemmas.{won_append, lost_won, goes_none, goes_both}
use Rattle.service_core.specs.Agreement.{spec_at}
use Rattle.schedule_laws.specs.Resting.{IsBetweenCalls}
use Rattle.thread_writer.specs.declared.helper.Asks.{Asks}
use Rattle.thread_writer.specs.Asking.{IsHelp}
use Rattle.replay_host.proofs.AskedLemmas.{IsProper}

-- ---- claims

-- so many calls were noted when each of these claims was made
abbrev pub AllNow : ℕ → List Ask → Type 0
AllNow calls asks = All (λ (ask : Ask). ask.calls ≡ calls) asks

none_now : (calls : ℕ) → AllNow calls []
none_now calls = All-nil (λ (ask : Ask). ask.calls ≡ calls)

lost_now : (calls first : ℕ) (words : List ℕ) → AllNow calls (lost_asks calls first words)
lost_now calls first [] = none_now calls
lost_now calls first (word ∷ words) =
    All-cons (λ (ask : Ask). ask.calls ≡ calls) (record { chunk = first; found = word; won = false; calls = calls }) (lost_asks calls (first + 1) words)
    refl (lost_now calls (first + 1) words)

-- ---- chunks

-- the chunks that were begun are the same
pub chunks_kept : (old new : List BegunChunk) → KeepsChunks old new → map chunk_of new ≡ map chunk_of old
chunks_kept [] [] keeps = refl
chunks_kept [] (y ∷ new) keeps = absurd keeps
chunks_kept (Held chunk head ∷ old) [] keeps = absurd keeps
chunks_kept (Completed chunk content ∷ old) [] keeps = absurd keeps
chunks_kept (Held chunk head ∷ old) (Held other next ∷ new) keeps =
    ap (λ (k : ℕ). k ∷ map chunk_of new) keeps.0 ∙ ap (λ (l : List ℕ). chunk ∷ l) (chunks_kept old new keeps.1)
chunks_kept (Held chunk head ∷ old) (Completed other content ∷ new) keeps =
    ap (λ (k : ℕ). k ∷ map chunk_of new) keeps.0 ∙ ap (λ (l : List ℕ). chunk ∷ l) (chunks_kept old new keeps.1)
chunks_kept (Completed chunk content ∷ old) (Held other next ∷ new) keeps = absurd keeps
chunks_kept (Completed chunk content ∷ old) (Completed other later ∷ new) keeps =
    ap (λ (k : ℕ). k ∷ map chunk_of new) keeps.0 ∙ ap (λ (l : List ℕ). chunk ∷ l) (chunks_kept old new keeps.2)

-- and so where no claim won
none_won : (old new : List BegunChunk) (asks : List Ask) → KeepsChunks old new → won_chunks asks ≡ [] → map chunk_of new ≡ map chunk_of old ++ won_chunks asks
none_won old new asks keeps none =
    chunks_kept old new keeps ∙ sym (append-nil (map chunk_of old)) ∙ ap (λ (l : List ℕ). map chunk_of old ++ l) (sym none)

-- ---- what is noted

not_dropped : (call : Call) → IsProper call → call ≡ Begun false → ⊥
not_dropped call plain is = true≢false (sym (subst IsProper is plain))

not_given_up : (call : Call) → IsProper call → call ≡ GivenUp → ⊥
not_given_up call plain is = subst IsProper is plain

-- Where these calls are noted behind others, a loss among all of them was noted before, or it is that of a call that stopped, and stands last.
pub record NotesLosses (calls noted : List Call) (stopped : Bool) : Type 0 where
  pub dropped : (index : ℕ) → At (calls ++ noted) index (Begun false)
      → At calls index (Begun false) ⊎ ((stopped ≡ true) × (index ≡ length calls) × (length noted ≡ 1))
  pub given_up : (index : ℕ) → At (calls ++ noted) index GivenUp
      → At calls index GivenUp ⊎ ((stopped ≡ true) × (index ≡ suc (length calls)) × (length noted ≡ 2))

pub notes_plain : (calls : List Call) (call : Call) (stopped : Bool) → IsProper call → NotesLosses calls (call ∷ []) stopped
notes_plain calls call stopped plain = record {
  dropped = λ index there. ⊎_elim inl (λ new. absurd (not_dropped call plain new.1)) (at_more calls call (Begun false) index there);
  given_up = λ index there. ⊎_elim inl (λ new. absurd (not_given_up call plain new.1)) (at_more calls call GivenUp index there);
}

notes_dropped : (calls : List Call) → NotesLosses calls (Begun false ∷ []) true
notes_dropped calls = record {
  dropped = λ index there. ⊎_elim inl (λ new. inr (refl, new.0, refl)) (at_more calls (Begun false) (Begun false) index there);
  given_up = λ index there. ⊎_elim inl (λ new. absurd (let wrong : Begun false ≡ GivenUp = new.1 in cc)) (at_more calls (Begun false) GivenUp index there);
}

notes_written : (calls : List Call) (call : Call) → IsProper call → NotesLosses calls (call ∷ GivenUp ∷ []) true
notes_written calls call plain = record {
  dropped = λ index there. ⊎_elim
      (λ old. ⊎_elim inl (λ new. absurd (not_dropped call plain new.1)) (at_more calls call (Begun false) index old))
      (λ new. absurd (let wrong : GivenUp ≡ Begun false = new.1 in cc))
      (at_more (calls ++ call ∷ []) GivenUp (Begun false) index (behind_two index (Begun false) there));
  given_up = λ index there. ⊎_elim
      (λ old. ⊎_elim inl (λ new. absurd (not_given_up call plain new.1)) (at_more calls call GivenUp index old))
      (λ new. inr (refl, new.0 ∙ (let many = length-append calls (call ∷ []) in omega (arith, many)), refl))
      (at_more (calls ++ call ∷ []) GivenUp GivenUp index (behind_two index GivenUp there));
}
  where
    behind_two : (index : ℕ) (one : Call) → At (calls ++ call ∷ GivenUp ∷ []) index one → At ((calls ++ call ∷ []) ++ GivenUp ∷ []) index one
    behind_two index one there = subst (λ (l : List Call). At l index one) (sym (append_assoc calls (call ∷ []) (GivenUp ∷ []))) there

-- so it is with what each call notes
pub noted_losses : (packets : List Packet) (calls : List Call) (stopped : Bool) (policy : WriterPolicy) (call : Call) → Accepts packets call
    → (stopped ≡ true → loses policy ≡ true) → NotesLosses calls (noted_as stopped policy call) stopped
noted_losses packets calls false policy (Begun kept) accepts only = notes_plain calls (Begun true) false refl
noted_losses packets calls true Drops (Begun kept) accepts only = notes_dropped calls
noted_losses packets calls true Stalls (Begun kept) accepts only = absurd (true≢false (sym (only refl)))
noted_losses packets calls true (StallsThenDrops tries) (Begun kept) accepts only = notes_dropped calls
noted_losses packets calls stopped policy GivenUp accepts only = absurd accepts
noted_losses packets calls false policy (Number field value) accepts only = notes_plain calls (Number field value) false tt
noted_losses packets calls true Drops (Number field value) accepts only = notes_written calls (Number field value) tt
noted_losses packets calls true (StallsThenDrops tries) (Number field value) accepts only = notes_written calls (Number field value) tt
noted_losses packets calls true Stalls (Number field value) accepts only = notes_plain calls (Number field value) true tt
noted_losses packets calls false policy (Bytes field text times) accepts only = notes_plain calls (Bytes field text times) false tt
noted_losses packets calls true Drops (Bytes field text times) accepts only = notes_written calls (Bytes field text times) tt
noted_losses packets calls true (StallsThenDrops tries) (Bytes field text times) accepts only = notes_written calls (Bytes field text times) tt
noted_losses packets calls true Stalls (Bytes field text times) accepts only = notes_plain calls (Bytes field text times) true tt
noted_losses packets calls false policy (Nested field) accepts only = notes_plain calls (Nested field) false tt
noted_losses packets calls true Drops (Nested field) accepts only = notes_written calls (Nested field) tt
noted_losses packets calls true (StallsThenDrops tries) (Nested field) accepts only = notes_written calls (Nested field) tt
noted_losses packets calls true Stalls (Nested field) accepts only = notes_plain calls (Nested field) true tt
noted_losses packets calls false policy Ended accepts only = notes_plain calls Ended false tt
noted_losses packets calls true Drops Ended accepts only = notes_written calls Ended tt
noted_losses packets calls true (StallsThenDrops tries) Ended accepts only = notes_written calls Ended tt
noted_losses packets calls true Stalls Ended accepts only = notes_plain calls Ended true tt
noted_losses packets calls false policy Finished accepts only = notes_plain calls Finished false tt
noted_losses packets calls true Drops Finished accepts only = notes_written calls Finished tt
noted_losses packets calls true (StallsThenDrops tries) Finished accepts only = notes_written calls Finished tt
noted_losses packets calls true Stalls Finished accepts only = notes_plain calls Finished true tt
noted_losses packets calls false policy Flushed accepts only = notes_plain calls Flushed false tt
noted_losses packets calls true Drops Flushed accepts only = notes_written calls Flushed tt
noted_losses packets calls true (StallsThenDrops tries) Flushed accepts only = notes_written calls Flushed tt
noted_losses packets calls true Stalls Flushed accepts only = notes_plain calls Flushed true tt

-- ---- going on

round_on : (setup : Setup) (place : ℕ) (old new : WriterView) (calls behind : ℕ) → GoesOnInTurn old new → HasVainRounds setup place old calls behind
    → HasVainRounds setup place new calls behind
round_on setup place old new calls behind on round = record {
  front = round.front;
  noted = round.noted;
  between = round.between;
  in_turn = round.in_turn;
  rounds = round.rounds;
  goes_on = goes_both round.front old new round.goes_on on;
}

-- what was lost is lost in vain still behind more calls, and so is the packet of one that stops, where its last claims were its rounds in vain
pub vain_more : (setup : Setup) (place : ℕ) (old new : WriterView) (noted : List Call) (stopped : Bool) → NotesLosses old.calls noted stopped → GoesOnInTurn old new
    → new.calls ≡ old.calls ++ noted → (stopped ≡ true → EndsInVain setup (producer_of setup place) (rounds_for (spec_at setup.writers place).policy) new.asked (length old.calls))
    → IsBetweenCalls setup place new → won_chunks new.asked ≡ map chunk_of new.begun
    → LosesInVain setup place old → LosesInVain setup place new
vain_more setup place old new noted stopped losses on notes ends between in_turn before = record {
  dropped = λ index there. ⊎_elim
      (λ stood. round_on setup place old new index (suc index) on (before.dropped index stood))
      (λ fresh. record {
        front = new;
        noted = let many = ap length notes in let both = length-append old.calls noted in let one = fresh.1 in let more = fresh.2 in omega (arith, many, both, one, more);
        between = between;
        in_turn = in_turn;
        rounds = subst (EndsInVain setup (producer_of setup place) (rounds_for (spec_at setup.writers place).policy) new.asked) (sym fresh.1) (ends fresh.0);
        goes_on = goes_none new;
      })
      (losses.dropped index (subst (λ (l : List Call). At l index (Begun false)) notes there));
  given_up = λ index there. ⊎_elim
      (λ stood. let was = before.given_up index stood in (was.0, was.1, round_on setup place old new was.0 (suc index) on was.2))
      (λ fresh. (
        length old.calls,
        fresh.1,
        record {
          front = new;
          noted = let many = ap length notes in let both = length-append old.calls noted in let one = fresh.1 in let more = fresh.2 in omega (arith, many, both, one, more);
          between = between;
          in_turn = in_turn;
          rounds = ends fresh.0;
          goes_on = goes_none new;
        },
      ))
      (losses.given_up index (subst (λ (l : List Call). At l index GivenUp) notes there));
}

-- ---- before the first call

pub vain_none : (setup : Setup) (place : ℕ) → LosesInVain setup place newcomer
vain_none setup place = record {
  dropped = λ index there. absurd (let inside = at_inside [] (Begun false) index there in omega (arith, inside));
  given_up = λ index there. absurd (let inside = at_inside [] GivenUp index there in omega (arith, inside));
}

-- ---- what a call does

-- what is added to the claims, while no further call is noted, and which chunks are begun
pub record AsksOn (old new : WriterView) : Type 0 where
  pub more : List Ask
  pub asked : new.asked ≡ old.asked ++ more
  pub chunks : map chunk_of new.begun ≡ map chunk_of old.begun ++ won_chunks more
  pub now : AllNow (length old.calls) more

asks_then : (old mid new : WriterView) → AsksOn old mid → mid.calls ≡ old.calls → AsksOn mid new → AsksOn old new
asks_then old mid new one same two = record {
  more = one.more ++ two.more;
  asked = two.asked ∙ ap (λ (l : List Ask). l ++ two.more) one.asked ∙ append_assoc old.asked one.more two.more;
  chunks = two.chunks ∙ ap (λ (l : List ℕ). l ++ won_chunks two.more) one.chunks
      ∙ append_assoc (map chunk_of old.begun) (won_chunks one.more) (won_chunks two.more)
      ∙ ap (λ (l : List ℕ). map chunk_of old.begun ++ l) (sym (won_append one.more two.more));
  now = All-append (λ (ask : Ask). ask.calls ≡ length old.calls) one.more two.more one.now
      (subst (λ (calls : List Call). AllNow (length calls) two.more) same two.now);
}

asks_none : (old new : WriterView) → new.asked ≡ old.asked → KeepsChunks old.begun new.begun → AsksOn old new
asks_none old new same keeps = record {
  more = [];
  asked = same ∙ sym (append-nil old.asked);
  chunks = none_won old.begun new.begun [] keeps refl;
  now = none_now (length old.calls);
}

-- a round in vain
asks_vain : (first : ℕ) (words : List ℕ) (old new : WriterView) → new.asked ≡ old.asked ++ lost_asks (length old.calls) first words → KeepsChunks old.begun new.begun
    → AsksOn old new
asks_vain first words old new asked keeps = record {
  more = lost_asks (length old.calls) first words;
  asked = asked;
  chunks = none_won old.begun new.begun (lost_asks (length old.calls) first words) keeps (lost_won (length old.calls) first words);
  now = lost_now (length old.calls) first words;
}

-- the claims until one wins
asks_gets : (setup : Setup) (first count chunk : ℕ) (old new : WriterView) → ClaimsInTurn setup first count chunk old new → AsksOn old new
asks_gets setup first count chunk old new claims =
    let calls : ℕ = length old.calls in
    let lost : List Ask = lost_asks calls first claims.words in
    let won : Ask = record { chunk = chunk; found = claims.found; won = true; calls = calls } in
    record {
      more = lost ++ won ∷ [];
      asked = ap (λ (v : WriterView). v.asked) claims.view ∙ append_assoc old.asked lost (won ∷ []);
      chunks = ap (λ (v : WriterView). map chunk_of v.begun) claims.view ∙ map-append chunk_of old.begun (Held chunk (fresh claims.payload) ∷ [])
          ∙ ap (λ (l : List ℕ). map chunk_of old.begun ++ l)
          (sym (won_append lost (won ∷ []) ∙ ap (λ (l : List ℕ). l ++ chunk ∷ []) (lost_won calls first claims.words)));
      now = All-append (λ (ask : Ask). ask.calls ≡ calls) lost (won ∷ []) (lost_now calls first claims.words)
          (All-cons (λ (ask : Ask). ask.calls ≡ calls) won [] refl (none_now calls));
    }

module _ {H : Type 0} (helps : H → ℕ → Bool → H → Type 0) (route : Route) where
  tries_ask : {begins : Bool} {left : ℕ} {helper kept : Asks H} {old new : Shared} {seat after : WriterSeat} {stopped : Bool}
      → Tries (GetsChunk shared.means route) (IsVainTry shared.means route begins)
      (λ asks table answer behind freed. IsHelp helps asks table route.spec.producer answer behind freed × LeavesWriters shared.means table freed)
      left helper old seat stopped kept new after
      → AsksOn (known_by seat) (known_by after) × ((known_by after).calls ≡ (known_by seat).calls)
  tries_ask (Gains left helper old seat new after gets) = (
    asks_gets (shared.means.setup old) route.arbiter.first route.arbiter.chunks gets.chunk (known_by seat) (known_by after) gets.claims,
    ap (λ (v : WriterView). v.calls) gets.claims.view,
  )
  tries_ask (Again left helper old seat asking asker answer helped freed stopped kept new after vain helped_it more) =
      let on = tries_ask more in (
        asks_then (known_by seat) (known_by asker) (known_by after) (asks_vain route.arbiter.first vain.vain.words (known_by seat) (known_by asker) vain.vain.asked vain.vain.chunks) vain.vain.calls on.0,
        on.1 ∙ vain.vain.calls,
      )
  tries_ask (Ends helper old seat new after vain) = (asks_vain route.arbiter.first vain.vain.words (known_by seat) (known_by after) vain.vain.asked vain.vain.chunks, vain.vain.calls)

  -- what a writer does for a call adds to its claims, before it notes the call
  pub works_ask : {begins : Bool} {policy : WriterPolicy} {helper left : Asks H} {old new : Shared} {seat after : WriterSeat} {stopped : Bool}
      → Works policy (IsSilent shared.means) (IsQuiet shared.means) (GetsChunk shared.means route) (IsVainTry shared.means route begins) (IsOutNow shared.means route)
      (λ asks table answer behind freed. IsHelp helps asks table route.spec.producer answer behind freed × LeavesWriters shared.means table freed)
      helper old seat stopped left new after
      → AsksOn (known_by seat) (known_by after)
  works_ask (Done helper old seat new after last) = asks_none (known_by seat) (known_by after) last.asked last.chunks
  works_ask (Silent helper old seat next moved stopped left new after silent more) =
      asks_then (known_by seat) (known_by moved) (known_by after) (asks_none (known_by seat) (known_by moved) silent.quiet.asked silent.quiet.chunks) silent.calls (works_ask more)
  works_ask (Gets helper old seat next moved stopped left new after gets more) =
      asks_then (known_by seat) (known_by moved) (known_by after)
      (asks_gets (shared.means.setup old) route.arbiter.first route.arbiter.chunks gets.chunk (known_by seat) (known_by moved) gets.claims)
      (ap (λ (v : WriterView). v.calls) gets.claims.view) (works_ask more)
  works_ask (Helped helper old seat asking asker helped freed stopped left new after stalls out helped_it more) =
      asks_then (known_by seat) (known_by asker) (known_by after)
      (asks_vain route.arbiter.first out.vain.words (known_by seat) (known_by asker) out.vain.asked out.vain.chunks) out.vain.calls (works_ask more)
  works_ask (Refused helper old seat asking asker left kept new after stalls out helped_it last) =
      asks_then (known_by seat) (known_by asker) (known_by after)
      (asks_vain route.arbiter.first out.vain.words (known_by seat) (known_by asker) out.vain.asked out.vain.chunks) out.vain.calls
      (asks_none (known_by asker) (known_by after) last.asked last.chunks)
  works_ask (Lost helper old seat mid between new after drops out last) =
      asks_then (known_by seat) (known_by between) (known_by after)
      (asks_vain route.arbiter.first out.vain.words (known_by seat) (known_by between) out.vain.asked out.vain.chunks) out.vain.calls
      (asks_none (known_by between) (known_by after) last.asked last.chunks)
  works_ask (Tried helper old seat tries kept next moved stopped left new after trying tried more) =
      let on = tries_ask tried in asks_then (known_by seat) (known_by moved) (known_by after) on.0 on.1 (works_ask more)
  works_ask (GivesUp helper old seat tries left mid between new after trying tried last) =
      let on = tries_ask tried in
      asks_then (known_by seat) (known_by between) (known_by after) on.0 on.1 (asks_none (known_by between) (known_by after) last.asked last.chunks)

-- the rounds that a loss has behind it
pub ends_behind : (setup : Setup) (producer many : ℕ) (old new : WriterView) → LosesBehind setup (range_of setup producer) many old new
    → EndsInVain setup producer many new.asked (length old.calls)
ends_behind setup producer many old new loss = record {
  before = old.asked ++ loss.before;
  rounds = loss.rounds;
  count_is = loss.count_is;
  each = loss.each;
  asks_are = loss.asked;
}

-- ---- one call

-- what a writer has done goes on by a call
pub goes_by : (old new : WriterView) (noted : List Call) → AsksOn old new → new.calls ≡ old.calls ++ noted → GoesOnInTurn old new
goes_by old new noted on notes = record {
  calls = noted;
  asks = on.more;
  calls_are = notes;
  asks_are = on.asked;
  chunks_are = on.chunks;
  later = λ k d inside. let now = on.now k d inside in omega (arith, now);
}

-- what it lost is lost in vain behind its next call too
pub vain_on : (setup : Setup) (place : ℕ) (packets : List Packet) (stopped : Bool) (policy : WriterPolicy) (call : Call) (old new : WriterView)
    → Accepts packets call → (stopped ≡ true → loses policy ≡ true) → GoesOnInTurn old new → new.calls ≡ old.calls ++ noted_as stopped policy call
    → (stopped ≡ true → EndsInVain setup (producer_of setup place) (rounds_for (spec_at setup.writers place).policy) new.asked (length old.calls))
    → IsBetweenCalls setup place new → won_chunks new.asked ≡ map chunk_of new.begun
    → LosesInVain setup place old → LosesInVain setup place new
vain_on setup place packets stopped policy call old new accepts only on notes ends between in_turn before =
    vain_more setup place old new (noted_as stopped policy call) stopped (noted_losses packets old.calls stopped policy call accepts only) on notes ends between in_turn before

-- and behind a flush by which it asks for no chunk
pub vain_flushed : (setup : Setup) (place : ℕ) (old new : WriterView) → new.asked ≡ old.asked → KeepsChunks old.begun new.begun → new.calls ≡ old.calls ++ Flushed ∷ []
    → IsBetweenCalls setup place new → won_chunks new.asked ≡ map chunk_of new.begun
    → LosesInVain setup place old → LosesInVain setup place new
vain_flushed setup place old new asked keeps notes between in_turn before =
    vain_more setup place old new (Flushed ∷ []) false (notes_plain old.calls Flushed false tt)
    (goes_by old new (Flushed ∷ []) (asks_none old new asked keeps) notes)
    notes (λ stops. absurd (true≢false (sym stops))) between in_turn before
