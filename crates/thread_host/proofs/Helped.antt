-- How often a writer's calls ask its helper, at least, for the packets that they lose.
use Rattle.std.proofs.Common.{◌≡◌, ◌∙◌, ℕ, zero, suc, ◌+◌, ◌*◌, ◌≤◌, Option, Some, None, Bool, true, false, if◌then◌else◌, List, [], ◌∷◌, ◌++◌, length, filter, refl, sym, ap, subst, arith, append-nil, append_assoc}
use Rattle.std.proofs.lemmas.Bool.{true≢false}
use Rattle.trace_base.specs.declared.policy.WriterPolicy.{WriterPolicy}
use Rattle.trace_base.specs.declared.policy.WriterPolicy.TheVariants.{Drops, Stalls, StallsThenDrops}
use Rattle.trace_model.specs.Calls.{Call, Begun, GivenUp, Flushed}
use Rattle.trace_model.specs.Packets.{Packet, Account, account_of, given_up_packet, is_lost, lost_count, on_newest, packets_of}
use Rattle.chunk_plain.specs.Views.{WriterView}
use Rattle.chunk_words.specs.declared.shared.Shared.{Shared}
use Rattle.chunk_words.specs.declared.seats.WriterSeat.{WriterSeat}
use Rattle.chunk_words.specs.contracts.shared.SharedWords.TheImpl.{ghosts as shared}
use Rattle.trace_writer.specs.declared.state.Writer.{Writer}
use Rattle.trace_writer.specs.declared.route.Route.{Route}
use Rattle.trace_writer.specs.Asked.{written_as, begun_as}
use Rattle.trace_writer.specs.Core.{is_stalled}
use Rattle.trace_writer.specs.Helping.{LeavesWriters, Tries, Gains, Again, Ends, Works, Done, Silent, Gets, Helped, Refused, Lost, Tried, GivesUp}
use Rattle.trace_writer.proofs.accounts.Accounts.{account_one}
use Rattle.trace_writer.proofs.accounts.Possible.{flushed_loses}
use Rattle.replay_model.specs.Does.{asks_for}
use Rattle.run_model.specs.Collected.{asks_help}
use Rattle.thread_writer.specs.declared.helper.Asks.{Asks}
use Rattle.thread_writer.specs.declared.writer.TraceWriter.{TraceWriter}
use Rattle.thread_writer.specs.Asking.{IsHelp}
use Rattle.thread_writer.specs.Polling.{Polls}
use Rattle.thread_writer.specs.Writing.{core_of, view_in, IsQuietCall}
use Rattle.thread_host.specs.Playing.{HelpsLosses, IsHelped, lost_in, policy_in}

-- ---- asks in a row

pub helped_both : {H : Type 0} (helps : H → ℕ → Bool → H → Type 0) (times more : ℕ) (old mid new : H) → IsHelped helps times old mid → IsHelped helps more mid new
    → IsHelped helps (times + more) old new
helped_both helps zero more old mid new none second =
    let same : more ≡ 0 + more = omega arith in
    subst (λ (n : ℕ). IsHelped helps n old new) same (subst (λ (h : _). IsHelped helps more h new) none second)
helped_both helps (suc times) more old mid new first second =
    let same : suc (times + more) ≡ suc times + more = omega arith in
    subst (λ (n : ℕ). IsHelped helps n old new) same
    (first.0, first.1, first.2, first.3, helped_both helps times more first.2 mid new first.4 second)

-- by a count that each ask raises, so many more were counted
pub helped_counts : {H : Type 0} (helps : H → ℕ → Bool → H → Type 0) (count : H → ℕ)
    → ((helper : H) (producer : ℕ) (answer : Bool) (after : H) → helps helper producer answer after → count after ≡ suc (count helper))
    → (times : ℕ) (old new : H) → IsHelped helps times old new → count new ≡ count old + times
helped_counts helps count raises zero old new same = let is = ap count same in omega (arith, is)
helped_counts helps count raises (suc times) old new helped =
    let one = raises old helped.0 helped.1 helped.2 helped.3 in
    let rest = helped_counts helps count raises times helped.2 new helped.4 in
    omega (arith, one, rest)

-- one that never answers wasn't asked
pub never_helped : {H : Type 0} (helps : H → ℕ → Bool → H → Type 0)
    → ((helper : H) (producer : ℕ) (answer : Bool) (after : H) → helps helper producer answer after → ⊥)
    → (times : ℕ) (old new : H) → IsHelped helps times old new → times ≡ 0
never_helped helps never zero old new same = refl
never_helped helps never (suc times) old new helped = absurd (never old helped.0 helped.1 helped.2 helped.3)

-- ---- what a call asks for

module _ {H : Type 0} (helps : H → ℕ → Bool → H → Type 0) (producer : ℕ) where
  tries_help : {gets vain : Shared → WriterSeat → Shared → WriterSeat → Type 0} {tries : ℕ} {helper kept : Asks H} {old new : Shared} {seat after : WriterSeat} {stopped : Bool}
      → Tries gets vain (λ asks table answer behind freed. IsHelp helps asks table producer answer behind freed × LeavesWriters shared.means table freed)
      tries helper old seat stopped kept new after
      → (times : ℕ) × IsHelped helps times helper.help kept.help × (stopped ≡ true → tries ≤ times)
  tries_help (Gains left helper old seat new after gets) = (0, refl, λ stops. absurd (true≢false (sym stops)))
  tries_help (Again left helper old seat asking asker answer helped freed stopped kept new after vain helped_it more) =
      let rest = tries_help more in (
        suc rest.0,
        (producer, answer, helped.help, helped_it.0.1, rest.1),
        λ stops. let enough = rest.2 stops in omega (arith, enough),
      )
  tries_help (Ends helper old seat new after vain) = (0, refl, λ stops. omega arith)

  pub works_help : {silent last gets vain out : Shared → WriterSeat → Shared → WriterSeat → Type 0} {policy : WriterPolicy} {helper left : Asks H} {old new : Shared}
      {seat after : WriterSeat} {stopped : Bool}
      → Works policy silent last gets vain out (λ asks table answer behind freed. IsHelp helps asks table producer answer behind freed × LeavesWriters shared.means table freed)
      helper old seat stopped left new after
      → (times : ℕ) × IsHelped helps times helper.help left.help × (stopped ≡ true → asks_for policy ≤ times)
  works_help (Done helper old seat new after last) = (0, refl, λ stops. absurd (true≢false (sym stops)))
  works_help (Silent helper old seat next moved stopped left new after silent more) = works_help more
  works_help (Gets helper old seat next moved stopped left new after gets more) = works_help more
  works_help (Helped helper old seat asking asker helped freed stopped left new after stalls out helped_it more) =
      let rest = works_help more in
      (suc rest.0, (producer, true, helped.help, helped_it.0.1, rest.1), λ stops. let enough = rest.2 stops in omega (arith, enough))
  works_help (Refused helper old seat asking asker left kept new after stalls out helped_it last) =
      (1, (producer, false, left.help, helped_it.0.1, refl), λ stops. let none = ap asks_for stalls in omega (arith, none))
  works_help (Lost helper old seat mid between new after drops out last) = (0, refl, λ stops. let none = ap asks_for drops in omega (arith, none))
  works_help (Tried helper old seat tries kept next moved stopped left new after trying tried more) =
      let one = tries_help tried in
      let rest = works_help more in (
        one.0 + rest.0,
        helped_both helps one.0 rest.0 helper.help kept.help left.help one.1 rest.1,
        λ stops. let enough = rest.2 stops in omega (arith, enough),
      )
  works_help (GivesUp helper old seat tries left mid between new after trying tried last) =
      let one = tries_help tried in
      (one.0, one.1, λ stops. let most = ap asks_for trying in let enough = one.2 refl in omega (arith, most, enough))

-- ---- what it loses

lost_more : (lost : Bool) (packet : Packet) (older : List Packet) → length older ≤ length (if lost then packet ∷ older else older)
    × (length (if lost then packet ∷ older else older) ≤ suc (length older))
lost_more true packet older = (omega arith, omega arith)
lost_more false packet older = (omega arith, omega arith)

given_up_most : (packets : List Packet) (flushed : Bool)
    → lost_count (on_newest given_up_packet (record { packets = packets; flushed = flushed })).packets ≤ suc (lost_count packets)
given_up_most [] flushed = omega arith
given_up_most (packet ∷ older) flushed =
    let new = (lost_more (is_lost (given_up_packet packet)) (given_up_packet packet) (filter is_lost older)).1 in
    let old = (lost_more (is_lost packet) packet (filter is_lost older)).0 in
    omega (arith, new, old)

-- a packet that is given up, or begun
given_up_more : (calls : List Call) → lost_count (packets_of (calls ++ GivenUp ∷ [])) ≤ suc (lost_count (packets_of calls))
given_up_more calls =
    subst (λ (a : Account). lost_count a.packets ≤ suc (lost_count (packets_of calls))) (sym (account_one calls GivenUp))
    (given_up_most (packets_of calls) (account_of calls).flushed)

begun_more : (calls : List Call) (kept : Bool) → lost_count (packets_of (calls ++ Begun kept ∷ [])) ≤ suc (lost_count (packets_of calls))
begun_more calls kept =
    subst (λ (a : Account). lost_count a.packets ≤ suc (lost_count (packets_of calls))) (sym (account_one calls (Begun kept)))
    (lost_more _ _ (filter is_lost (packets_of calls))).1

-- one packet at most, where a call without the loss loses none
pub begun_most : (old new : WriterView) (policy : WriterPolicy) → new.calls ≡ old.calls ++ begun_as true policy
    → lost_count (packets_of new.calls) ≤ suc (lost_count (packets_of old.calls))
begun_most old new Drops notes = subst (λ (cs : List Call). lost_count (packets_of cs) ≤ suc (lost_count (packets_of old.calls))) (sym notes) (begun_more old.calls false)
begun_most old new Stalls notes =
    let same = ap (λ (cs : List Call). lost_count (packets_of cs)) (notes ∙ append-nil old.calls) in omega (arith, same)
begun_most old new (StallsThenDrops tries) notes =
    subst (λ (cs : List Call). lost_count (packets_of cs) ≤ suc (lost_count (packets_of old.calls))) (sym notes) (begun_more old.calls false)

pub written_most : (old new : WriterView) (policy : WriterPolicy) (call : Call) → lost_count (packets_of (old.calls ++ call ∷ [])) ≡ lost_count (packets_of old.calls)
    → new.calls ≡ old.calls ++ written_as true policy call → lost_count (packets_of new.calls) ≤ suc (lost_count (packets_of old.calls))
written_most old new policy call none = by policy
  where
    lost : new.calls ≡ old.calls ++ call ∷ GivenUp ∷ [] → lost_count (packets_of new.calls) ≤ suc (lost_count (packets_of old.calls))
    lost notes =
        let same = ap (λ (cs : List Call). lost_count (packets_of cs)) (notes ∙ sym (append_assoc old.calls (call ∷ []) (GivenUp ∷ []))) in
        let more = given_up_more (old.calls ++ call ∷ []) in
        omega (arith, same, more, none)

    by : (policy : WriterPolicy) → new.calls ≡ old.calls ++ written_as true policy call → lost_count (packets_of new.calls) ≤ suc (lost_count (packets_of old.calls))
    by Drops notes = lost notes
    by Stalls notes = let same = ap (λ (cs : List Call). lost_count (packets_of cs)) notes in omega (arith, same, none)
    by (StallsThenDrops tries) notes = lost notes

-- ---- asks against losses

times_most : (tries new old : ℕ) → new ≤ suc old → tries * new ≤ tries * old + tries
times_most zero new old most = omega arith
times_most (suc tries) new old most = let rest = times_most tries new old most in omega (arith, rest, most)

pub enough_by : (tries times old new : ℕ) (stopped : Bool) → (stopped ≡ false → new ≡ old) → (stopped ≡ true → new ≤ suc old) → (stopped ≡ true → tries ≤ times)
    → tries * new ≤ tries * old + times
enough_by tries times old new false same most enough = let is = ap (λ (n : ℕ). tries * n) (same refl) in omega (arith, is)
enough_by tries times old new true same most enough =
    let more = times_most tries new old (most refl) in let many = enough refl in omega (arith, more, many)

-- where nothing is lost nobody needs to be asked
helps_same : {H : Type 0} (helps : H → ℕ → Bool → H → Type 0) (help : Asks H) (writer after : TraceWriter) → policy_in after ≡ policy_in writer
    → lost_in after ≡ lost_in writer → HelpsLosses helps help writer help after
helps_same helps help writer after policy same = record {
  policy_stays = policy;
  times = 0;
  helped = refl;
  enough = let is = ap (λ (n : ℕ). asks_for (policy_in writer) * n) same in omega (arith, is);
}

pub helps_none : {H : Type 0} (helps : H → ℕ → Bool → H → Type 0) (help : Asks H) (writer : TraceWriter) → HelpsLosses helps help writer help writer
helps_none helps help writer = helps_same helps help writer writer refl refl

pub helps_both : {H : Type 0} (helps : H → ℕ → Bool → H → Type 0) (help mid left : Asks H) (writer between after : TraceWriter)
    → HelpsLosses helps help writer mid between → HelpsLosses helps mid between left after → HelpsLosses helps help writer left after
helps_both helps help mid left writer between after first second = record {
  policy_stays = second.policy_stays ∙ first.policy_stays;
  times = first.times + second.times;
  helped = helped_both helps first.times second.times help.help mid.help left.help first.helped second.helped;
  enough = enough (subst (λ (p : WriterPolicy). asks_for p * lost_in after ≤ asks_for p * lost_in between + second.times) first.policy_stays second.enough);
}
  where
    enough : asks_for (policy_in writer) * lost_in after ≤ asks_for (policy_in writer) * lost_in between + second.times
        → asks_for (policy_in writer) * lost_in after ≤ asks_for (policy_in writer) * lost_in writer + (first.times + second.times)
    enough more = let before = first.enough in omega (arith, before, more)

-- an answer to a flush request, and a flush
pub helps_polled : {H : Type 0} (helps : H → ℕ → Bool → H → Type 0) (help : Asks H) (writer after : TraceWriter) (answer : Option (ℕ × ℕ))
    → Polls answer (core_of writer) (core_of after) → HelpsLosses helps help writer help after
helps_polled helps help writer after None none =
    helps_same helps help writer after (ap (λ (w : Writer). w.route.spec.policy) none.hears.writer)
    (ap (λ (v : WriterView). lost_count (packets_of v.calls)) none.hears.rest)
helps_polled helps help writer after (Some answer) gave =
    helps_same helps help writer after (ap (λ (r : Route). r.spec.policy) gave.route) (flushed_loses (view_in writer) (view_in after) gave.calls)

pub helps_flushed : {H : Type 0} (helps : H → ℕ → Bool → H → Type 0) (help : Asks H) (writer after : TraceWriter) (table : Shared)
    → is_stalled (core_of writer) ≡ false → IsQuietCall table (core_of writer) (core_of after) (Flushed ∷ []) → HelpsLosses helps help writer help after
helps_flushed helps help writer after table going flushed =
    helps_same helps help writer after (ap (λ (r : Route). r.spec.policy) flushed.route)
    (flushed_loses (view_in writer) (view_in after) (flushed.notes going))

-- ---- the whole job

pub asks_none : (policy : WriterPolicy) → asks_help policy ≡ false → asks_for policy ≡ 0
asks_none Drops never = refl
asks_none Stalls never = absurd (true≢false never)
asks_none (StallsThenDrops tries) never = absurd (true≢false never)

-- a writer whose policy is to ask for none wants none
pub none_wanted : (count lost : ℕ) (policy : WriterPolicy) → asks_help policy ≡ false → count + asks_for policy * lost ≤ count
none_wanted count lost policy never = let none = ap (λ (n : ℕ). n * lost) (asks_none policy never) in omega (arith, none)

module _ {H : Type 0} (helps : H → ℕ → Bool → H → Type 0) (help : Asks H) (writer : TraceWriter) (left : Asks H) (after : TraceWriter)
    (helped : HelpsLosses helps help writer left after) (fresh : lost_in writer ≡ 0) (policy : WriterPolicy) (policy_is : policy_in writer ≡ policy) where
  -- of one that had lost nothing the helps are as many as its losses want
  enough_helps : asks_for policy * lost_in after ≤ helped.times
  enough_helps = subst (λ (p : WriterPolicy). asks_for p * lost_in after ≤ helped.times) policy_is enough
    where
      enough : asks_for (policy_in writer) * lost_in after ≤ helped.times
      enough = let most = helped.enough in let none = ap (λ (n : ℕ). asks_for (policy_in writer) * n) fresh in omega (arith, most, none)

  -- with a helper that counts its helps
  pub counted_helps : (count : H → ℕ) → ((helper : H) (producer : ℕ) (answer : Bool) (next : H) → helps helper producer answer next → count next ≡ suc (count helper))
      → count help.help + asks_for policy * lost_in after ≤ count left.help
  counted_helps count raises =
      let many = helped_counts helps count raises helped.times help.help left.help helped.helped in
      let enough = enough_helps in
      omega (arith, many, enough)

  -- and with one that never answers
  pub idle_helps : (count : ℕ) → ((helper : H) (producer : ℕ) (answer : Bool) (next : H) → helps helper producer answer next → ⊥)
      → count + asks_for policy * lost_in after ≤ count
  idle_helps count never =
      let none = never_helped helps never helped.times help.help left.help helped.helped in
      let enough = enough_helps in
      omega (arith, none, enough)
