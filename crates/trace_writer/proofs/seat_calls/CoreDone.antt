-- What a call of a writer with its seat leaves, by what it was asked for.
use Rattle.std.proofs.Common.{◌≡◌, ◌∙◌, ℕ, Bool, true, false, List, if◌then◌else◌, Option, Some, None, Result, Ok, Err, IfOk, refl, sym, ap, subst}
use Rattle.trace_base.specs.declared.policy.WriterPolicy.{WriterPolicy}
use Rattle.trace_base.specs.declared.policy.WriterPolicy.TheVariants.{Drops}
use Rattle.trace_model.specs.Calls.{Call, Begun, Number, Bytes, Nested, Ended, GivenUp, Finished, Flushed}
use Rattle.trace_model.specs.Packets.{Packet, Account, packets_of, noted, on_newest, newest_is_lost, is_possible}
use Rattle.chunk_plain.specs.Meaning.{Meaning, IsWriterStep}
use Rattle.chunk_plain.proofs.SeatSteps.{stays}
use Rattle.trace_writer.specs.declared.fault.Begun.{Begun as BegunPacket}
use Rattle.trace_writer.specs.declared.fault.CallFault.{CallFault}
use Rattle.trace_writer.specs.declared.fault.CallFault.TheVariants as fault_of
use Rattle.trace_writer.specs.declared.writer.WriterCore.{WriterCore}
use Rattle.trace_writer.specs.Asked.{IsAsked, LeavesAll, begins_one, noted_as, written_as, stops_with}
use Rattle.trace_writer.specs.Calling.{MayCall, MakesCall, packet_fault, fault_at}
use Rattle.trace_writer.specs.Core.{CoreAgrees, in_packet, open_depth, is_stalled, route_of, refusal_of}
use Rattle.trace_writer.specs.Helping.{LeavesOthers}
use Rattle.trace_writer.specs.Moments.{CallMoment, at_call, view_at}
use Rattle.trace_writer.specs.Written.{IsWritten, TriesToBegin}
use Rattle.trace_writer.proofs.seat_calls.CoreCalls.{KeepsOpen, written_in, written_deep, begins_in}
use Rattle.trace_writer.proofs.seat_calls.CoreHolding.{inside_holds, core_stays}
use Rattle.trace_writer.proofs.claims.KeepingClaims.{claims_kept}
use Rattle.trace_writer.proofs.accounts.Possible.{KeepsFate, field_possible, field_loses, begin_possible, begin_loses}
use Rattle.trace_writer.proofs.stops.Stopping.{either_way}
use Rattle.trace_writer.proofs.claims.Working.{asked_drops}

-- Refusals

pub record IsStalledNow (stalled : Bool) (fault : CallFault) : Type 0 where
  pub stalled_is : stalled ≡ true
  pub fault_is : fault ≡ fault_of.Stalled

-- a call that its packet allows is refused by a writer that is stalled alone
pub refused_stalled : {S : Type 0} (core : WriterCore S) (asked : Option CallFault) (fault : CallFault) → asked ≡ None → refusal_of core asked ≡ Some fault
    → IsStalledNow (is_stalled core) fault
refused_stalled core asked fault none is =
    by (is_stalled core) (sym (ap (λ (o : Option CallFault). refusal_of core o) none) ∙ is)
  where
    by : (b : Bool) → (if b then Some fault_of.Stalled else None) ≡ Some fault → IsStalledNow b fault
    by true e = record { stalled_is = refl; fault_is = (let same : Some fault_of.Stalled ≡ Some fault = e in cc) }
    by false e = absurd (let wrong : None ≡ Some fault = e in cc)

pub none_stalled : {S : Type 0} (core : WriterCore S) (asked : Option CallFault) → asked ≡ None → refusal_of core asked ≡ None → is_stalled core ≡ false
none_stalled core asked none is = by (is_stalled core) (sym (ap (λ (o : Option CallFault). refusal_of core o) none) ∙ is)
  where
    by : (b : Bool) → (if b then Some fault_of.Stalled else None) ≡ None → b ≡ false
    by true e = absurd (let wrong : Some fault_of.Stalled ≡ None = e in cc)
    by false e = refl

-- and one that its packet refuses for that
pub refused_so : {S : Type 0} (core : WriterCore S) (asked : Option CallFault) (found fault : CallFault) → asked ≡ Some found → refusal_of core asked ≡ Some fault → found ≡ fault
refused_so core asked found fault some is = let same : Some found ≡ Some fault = sym (ap (λ (o : Option CallFault). refusal_of core o) some) ∙ is in cc

pub never_none : {S : Type 0} (core : WriterCore S) (asked : Option CallFault) (found : CallFault) → asked ≡ Some found → refusal_of core asked ≡ None → ⊥
never_none core asked found some is = absurd (let wrong : Some found ≡ None = sym (ap (λ (o : Option CallFault). refusal_of core o) some) ∙ is in cc)

-- Calls that claim

-- a field call notes itself, and a packet's begin that
noted_plain : (stopped : Bool) (policy : WriterPolicy) (call : Call) → begins_one call ≡ false → written_as stopped policy call ≡ noted_as stopped policy call
noted_plain stopped policy (Begun kept) plain = absurd (cc)
noted_plain stopped policy (Number field value) plain = refl
noted_plain stopped policy (Bytes field text times) plain = refl
noted_plain stopped policy (Nested field) plain = refl
noted_plain stopped policy Ended plain = refl
noted_plain stopped policy GivenUp plain = refl
noted_plain stopped policy Finished plain = refl
noted_plain stopped policy Flushed plain = refl

-- What a call leaves beside its own contract: the writer agrees, the helper has what it needs, and the others are as they were.
record CoreLeft {H T W S : Type 0} (means : Meaning T W S) (needs : H → T → Type 0) (before behind : CallMoment H T W) : Type 0 where
  pub agrees : CoreAgrees (means.setup before.table) (means.place before.core.seat) (view_at means behind) behind.core
  pub needed : needs behind.helper behind.table
  pub others : LeavesOthers means before.table before.core.seat behind.table behind.core.seat
  pub alone : (route_of before.core).spec.policy ≡ Drops
      → (behind.helper ≡ before.helper) × IsWriterStep means before.table before.core.seat behind.table behind.core.seat

-- a moment that is the same one
moment_stays : {H T W : Type 0} (before behind : CallMoment H T W) → behind.core.writer ≡ before.core.writer → behind.table ≡ before.table → behind.core.seat ≡ before.core.seat
    → behind.helper ≡ before.helper → behind.steps ≡ before.steps → behind ≡ before
moment_stays {H} {T} {W} before behind writer table seat helper steps =
    ap (λ core. let one : CallMoment H T W = at_call core behind.helper behind.table behind.steps in one) (core_stays before.core behind.core writer seat)
    ∙ ap (λ helper. let one : CallMoment H T W = at_call before.core helper behind.table behind.steps in one) helper
    ∙ ap (λ table. let one : CallMoment H T W = at_call before.core before.helper table behind.steps in one) table
    ∙ ap (λ steps. let one : CallMoment H T W = at_call before.core before.helper before.table steps in one) steps

module _ {H T W S : Type 0} {means : Meaning T W S} {needs : H → T → Type 0} {before : CallMoment H T W} where
  -- nothing was done
  left_same : MayCall means needs before → CoreLeft means needs before before
  left_same may = record {
    agrees = may.agrees;
    needed = may.needed;
    others = record { setup_stays = refl; seat_stays = may.seat; place_stays = refl; writers_stay = λ other stood differs. (stood, refl); letters_stay = refl };
    alone = λ drops. (refl, stays means before.table before.core.seat may.seat);
  }

  left_stays : {behind : CallMoment H T W} → MayCall means needs before → behind ≡ before → CoreLeft means needs before behind
  left_stays may same = subst (λ (now : CallMoment H T W). CoreLeft means needs before now) (sym same) (left_same may)

  -- a call that its packet refuses
  pub makes_none : {A : Type 0} {helps : H → T → ℕ → Bool → H → T → Type 0} {answer : Result A CallFault} (call : Call) (found : CallFault) → MayCall means needs before
      → packet_fault (view_at means before) call ≡ Some found → answer ≡ Err found
      → (stopped : Bool) × MakesCall means needs helps call stopped before answer before
  makes_none call found may asked answer_is =
      let left = left_same may in (
        false,
        record {
          agrees = left.agrees;
          needed = left.needed;
          others = left.others;
          refused = λ fault is. record {
            answer_is = answer_is ∙ ap Err (refused_so before.core (packet_fault (view_at means before) call) found fault asked is);
            writer_stays = refl;
            table_stays = refl;
            helper_stays = refl;
            steps_stay = refl;
          };
          answers = λ none. absurd (never_none before.core (packet_fault (view_at means before) call) found asked none);
          done = λ none. absurd (never_none before.core (packet_fault (view_at means before) call) found asked none);
          route = refl;
          alone = left.alone;
        },
      )

module _ {H T W S A : Type 0} (means : Meaning T W S) (needs : H → T → Type 0) (helps : H → T → ℕ → Bool → H → T → Type 0)
    {before behind : CallMoment H T W} where
  -- one that is refused though its packet allows it: the writer is stalled
  refused_stays : {answer : Result A CallFault} (call : Call) (fault : CallFault) → packet_fault (view_at means before) call ≡ None → fault_at means call before ≡ Some fault
      → (is_stalled before.core ≡ true → (answer ≡ Err fault_of.Stalled) × (behind ≡ before)) → LeavesAll fault before answer behind
  refused_stays call fault none is waits =
      let now = refused_stalled before.core (packet_fault (view_at means before) call) fault none is in let stays = waits now.stalled_is in
      record {
        answer_is = stays.0 ∙ ap Err (sym now.fault_is);
        writer_stays = ap (λ (m : CallMoment H T W). m.core) stays.1;
        table_stays = ap (λ (m : CallMoment H T W). m.table) stays.1;
        helper_stays = ap (λ (m : CallMoment H T W). m.helper) stays.1;
        steps_stay = ap (λ (m : CallMoment H T W). m.steps) stays.1;
      }

  -- a field call of a writer that is stalled
  written_stays : {answer : Result A CallFault} {call : Call} → IsWritten means needs helps call before answer behind
      → is_stalled before.core ≡ true → (answer ≡ Err fault_of.Stalled) × (behind ≡ before)
  written_stays written stalled = let is = written.stays stalled in (is.0, moment_stays before behind is.1 is.2 is.3 is.4 is.5)

  -- a field call leaves the packet begun
  pub inside_written : {answer : Result A CallFault} (call : Call) (change : Packet → Packet) → in_packet (view_at means before) ≡ true
      → ((account : Account) → noted account call ≡ on_newest change account) → KeepsFate change
      → IsWritten means needs helps call before answer behind → in_packet (view_at means behind) ≡ true
  inside_written call change writes noted_is keeps written = either_way (is_stalled before.core)
      (λ goes. let d = written.done goes in
      written_in (view_at means before) (view_at means behind) call change (route_of before.core).spec.policy d.0 noted_is keeps.finished d.1.notes ∙ writes)
      (λ stalled. ap (λ (now : CallMoment H T W). in_packet (view_at means now)) (written_stays written stalled).1 ∙ writes)

  -- and as deep where it opens no message
  pub deep_written : {answer : Result A CallFault} (call : Call) (change : Packet → Packet) → ((account : Account) → noted account call ≡ on_newest change account) → KeepsOpen change
      → IsWritten means needs helps call before answer behind → open_depth (view_at means behind) ≡ open_depth (view_at means before)
  deep_written call change noted_is keeps written = either_way (is_stalled before.core)
      (λ goes. let d = written.done goes in
      written_deep (view_at means before) (view_at means behind) call change (route_of before.core).spec.policy d.0 noted_is keeps d.1.notes)
      (λ stalled. ap (λ (now : CallMoment H T W). open_depth (view_at means now)) (written_stays written stalled).1)

  -- a field call that its packet allows
  pub makes_written : {answer : Result A CallFault} (call : Call) (change : Packet → Packet) → MayCall means needs before → in_packet (view_at means before) ≡ true
      → begins_one call ≡ false → ((account : Account) → noted account call ≡ on_newest change account) → KeepsFate change
      → is_possible (packets_of (view_at means before).calls) call ≡ true → packet_fault (view_at means before) call ≡ None
      → IsWritten means needs helps call before answer behind → (stopped : Bool) × MakesCall means needs helps call stopped before answer behind
  makes_written {answer} call change may writes plain noted_is keeps possible allowed written = either_way (is_stalled before.core)
      (λ goes. let d = written.done goes in (d.0, made d.0 (goes_on d) (λ _. as_call d.0 d.1)))
      (λ stalled. (
        false,
        made false (left_stays may (written_stays written stalled).1)
            (λ none. absurd (let never : true ≡ false = sym stalled ∙ none_stalled before.core (packet_fault (view_at means before) call) allowed none in cc)),
      ))
    where
      as_call : (stopped : Bool) → IsAsked means needs helps false stopped (written_as stopped (route_of before.core).spec.policy call) before behind
          → IsAsked means needs helps (begins_one call) stopped (noted_as stopped (route_of before.core).spec.policy call) before behind
      as_call stopped asked =
          subst (λ (calls : List Call). IsAsked means needs helps (begins_one call) stopped calls before behind) (noted_plain stopped (route_of before.core).spec.policy call plain)
          (subst (λ (begins : Bool). IsAsked means needs helps begins stopped (written_as stopped (route_of before.core).spec.policy call) before behind) (sym plain) asked)

      goes_on : (stopped : Bool) × IsAsked means needs helps false stopped (written_as stopped (route_of before.core).spec.policy call) before behind
          × (stopped ≡ true → newest_is_lost (packets_of (view_at means before).calls) ≡ false) → CoreLeft means needs before behind
      goes_on d =
          let was = view_at means before in let is = view_at means behind in
          record {
            agrees = record {
              writes = written.agrees;
              claims = claims_kept means needs helps (means.setup before.table) (means.place before.core.seat) may.agrees.writes.route.range may.agrees.writes.route.spec d.1
                  (field_loses was is call change (route_of before.core).spec.policy d.0 noted_is keeps d.1.notes) may.agrees.claims;
              possible = field_possible was is call change (route_of before.core).spec.policy d.0 noted_is keeps possible writes d.1.notes d.2 may.agrees.possible;
              holds = inside_holds (means.setup before.table) (means.place before.core.seat) is behind.core.writer written.agrees
                  (inside_written call change writes noted_is keeps written);
            };
            needed = d.1.needed;
            others = d.1.others;
            alone = asked_drops means needs helps may.seat d.1;
          }

      made : (stopped : Bool) → CoreLeft means needs before behind
          → (fault_at means call before ≡ None → IsAsked means needs helps (begins_one call) stopped (noted_as stopped (route_of before.core).spec.policy call) before behind)
          → MakesCall means needs helps call stopped before answer behind
      made stopped left done = record {
        agrees = left.agrees;
        needed = left.needed;
        others = left.others;
        refused = λ fault is. refused_stays call fault allowed is (written_stays written);
        answers = λ none. written.answers (none_stalled before.core (packet_fault (view_at means before) call) allowed none);
        done = done;
        route = written.route_stays;
        alone = left.alone;
      }

module _ {H T W S : Type 0} (means : Meaning T W S) (needs : H → T → Type 0) (helps : H → T → ℕ → Bool → H → T → Type 0)
    {before behind : CallMoment H T W} where
  -- a packet's begin
  pub makes_begun : {answer : Result BegunPacket CallFault} → MayCall means needs before → in_packet (view_at means before) ≡ false
      → TriesToBegin means needs helps before answer behind → MakesCall means needs helps (Begun true) (stops_with answer) before answer behind
  makes_begun {answer} may none begins =
      let left = either_way (is_stalled before.core) (λ goes. goes_on (begins.done goes)) (λ stalled. left_stays may (waits stalled).1) in
      record {
        agrees = left.agrees;
        needed = left.needed;
        others = left.others;
        refused = λ fault is. refused_stays means needs helps (Begun true) fault refl is waits;
        answers = λ asked. begins.answers (none_stalled before.core None refl asked);
        done = λ asked. begins.done (none_stalled before.core None refl asked);
        route = begins.route_stays;
        alone = left.alone;
      }
    where
      waits : is_stalled before.core ≡ true → (answer ≡ Err fault_of.Stalled) × (behind ≡ before)
      waits stalled = let is = begins.stays stalled in (is.0, moment_stays before behind is.1 is.2 is.3 is.4 is.5)

      goes_on : IsAsked means needs helps true (stops_with answer) (noted_as (stops_with answer) (route_of before.core).spec.policy (Begun true)) before behind
          → CoreLeft means needs before behind
      goes_on d =
          let was = view_at means before in let is = view_at means behind in let policy = (route_of before.core).spec.policy in
          record {
            agrees = record {
              writes = begins.agrees;
              claims = claims_kept means needs helps (means.setup before.table) (means.place before.core.seat) may.agrees.writes.route.range may.agrees.writes.route.spec d
                  (begin_loses was is policy (stops_with answer) d.notes) may.agrees.claims;
              possible = begin_possible was is policy (stops_with answer) none d.notes may.agrees.possible;
              holds = λ goes. inside_holds (means.setup before.table) (means.place before.core.seat) is behind.core.writer begins.agrees
                  (begins_in was is policy (stops_with answer) (is_stalled behind.core) d.notes d.stalls goes).0 goes;
            };
            needed = d.needed;
            others = d.others;
            alone = asked_drops means needs helps may.seat d;
          }

  -- a packet that was begun is inside, and no message is open in it
  pub begun_inside : (answer : Result BegunPacket CallFault) → TriesToBegin means needs helps before answer behind
      → IfOk answer (λ _. in_packet (view_at means behind) ≡ true) × IfOk answer (λ _. open_depth (view_at means behind) ≡ 0)
  begun_inside (Err fault) begins = (tt, tt)
  begun_inside (Ok begun) begins = either_way (is_stalled before.core)
      (λ goes. let d = begins.done goes in
      begins_in (view_at means before) (view_at means behind) (route_of before.core).spec.policy (stops_with (Ok begun)) (is_stalled behind.core) d.notes d.stalls (begins.answers goes))
      (λ stalled. absurd (let wrong : Ok begun ≡ Err fault_of.Stalled = (begins.stays stalled).0 in cc))
