-- What a writer does for a call: parts of it in a row are one.
use Rattle.std.proofs.Common.{◌≡◌, ◌∙◌, ℕ, ◌+◌, Bool, true, false, length, refl, sym, ap, subst, arith, List, ◌++◌}
use Rattle.std.proofs.lemmas.Bool.{true≢false}
use Rattle.trace_base.specs.declared.policy.WriterPolicy.{WriterPolicy}
use Rattle.trace_base.specs.declared.policy.WriterPolicy.TheVariants.{Drops, Stalls, StallsThenDrops}
use Rattle.trace_model.specs.Calls.{Call}
use Rattle.chunk_plain.specs.Views.{WriterView}
use Rattle.chunk_plain.specs.Meaning.{Meaning, IsWriterStep}
use Rattle.chunk_plain.proofs.SeatSteps.{stays, steps_follow}
use Rattle.trace_writer.specs.declared.route.Route.{Route}
use Rattle.trace_writer.specs.declared.state.Writer.{Writer}
use Rattle.trace_writer.specs.OwnSteps.{IsQuiet, IsSilent, GetsChunk, IsVainTry, IsOutNow}
use Rattle.trace_writer.specs.Asked.{IsAsked}
use Rattle.trace_writer.specs.Empty.{is_stalled}
use Rattle.trace_writer.specs.Helping.{LeavesWriters, LeavesOthers, Works, Done, Silent, Gets, Helped, Refused, Lost, Tried, GivesUp, IsWork, refuses}
use Rattle.trace_writer.specs.Moments.{CallMoment, at_step, moment}
use Rattle.trace_writer.proofs.claims.FewSteps.{works_few}
use Rattle.trace_writer.proofs.claims.Losses.{works_lose}
use Rattle.trace_writer.proofs.holding.KeptChunks.{keeps_long}
use Rattle.trace_writer.proofs.claims.QuietRows.{quiet_both, silent_none, silent_both}

module _ {H T W S : Type 0} (means : Meaning T W S) (needs : H → T → Type 0) (helps : H → T → ℕ → Bool → H → T → Type 0) where
  pub leaves_own : (old : T) (seat : W) (new : T) (after : W) → IsWriterStep means old seat new after
      → LeavesOthers means old seat new after
  leaves_own old seat new after step =
      record { setup_stays = step.setup_stays; seat_stays = step.seat_stays; place_stays = step.place_stays; writers_stay = step.writers_stay; letters_stay = step.letters_stay }

  pub leaves_both : (old : T) (before : W) (mid : T) (between : W) (new : T) (after : W) → LeavesOthers means old before mid between
      → LeavesOthers means mid between new after → LeavesOthers means old before new after
  leaves_both old before mid between new after one two = record {
    setup_stays = two.setup_stays ∙ one.setup_stays;
    seat_stays = two.seat_stays;
    place_stays = two.place_stays ∙ one.place_stays;
    writers_stay = λ other there differs.
        let first = one.writers_stay other there differs in
        let second = two.writers_stay other first.0 (λ same. differs (same ∙ one.place_stays)) in
        (second.0, second.1 ∙ first.1);
    letters_stay = two.letters_stay ∙ one.letters_stay;
  }

  -- a help leaves the writer's own view too
  pub leaves_help : (old : T) (seat : W) (new : T) → means.sits old seat → LeavesWriters means old new → LeavesOthers means old seat new seat
  leaves_help old seat new there leaves = record {
    setup_stays = leaves.setup_stays;
    seat_stays = (leaves.writers_stay seat there).0;
    place_stays = refl;
    writers_stay = λ other stood differs. leaves.writers_stay other stood;
    letters_stay = ap (λ (v : WriterView). v.letters) (leaves.writers_stay seat there).1;
  }

  -- Parts in a row

  module _ (policy : WriterPolicy) (route : Route) (asks : H → T → Bool → H → T → Type 0) where
    works_both : {begins : Bool} {helper middle : H} {old mid : T} {before between : W} {first : Bool} (stopped : Bool) (left : H) (new : T) (after : W)
        → Works policy (IsSilent means) (IsSilent means) (GetsChunk means route) (IsVainTry means route begins) (IsOutNow means route) asks helper old before first middle mid between
        → first ≡ false
        → Works policy (IsSilent means) (IsSilent means) (GetsChunk means route) (IsVainTry means route begins) (IsOutNow means route) asks middle mid between stopped left new after
        → Works policy (IsSilent means) (IsSilent means) (GetsChunk means route) (IsVainTry means route begins) (IsOutNow means route) asks helper old before stopped left new after
    works_both stopped left new after (Done helper old before mid between last) none rest = Silent helper old before mid between stopped left new after last rest
    works_both stopped left new after (Silent helper old before next moved first middle mid between silent more) none rest =
        Silent helper old before next moved stopped left new after silent (works_both stopped left new after more none rest)
    works_both stopped left new after (Gets helper old before next moved first middle mid between gets more) none rest =
        Gets helper old before next moved stopped left new after gets (works_both stopped left new after more none rest)
    works_both stopped left new after (Helped helper old before asking asker helped freed first middle mid between stalls out helps_ more) none rest =
        Helped helper old before asking asker helped freed stopped left new after stalls out helps_ (works_both stopped left new after more none rest)
    works_both stopped left new after (Refused helper old before asking asker middle kept mid between stalls out helps_ last) none rest = absurd (true≢false none)
    works_both stopped left new after (Lost helper old before out_table out_seat mid between drops out last) none rest = absurd (true≢false none)
    works_both stopped left new after (Tried helper old before tries kept next moved first middle mid between trying tried more) none rest =
        Tried helper old before tries kept next moved stopped left new after trying tried (works_both stopped left new after more none rest)
    works_both stopped left new after (GivesUp helper old before tries middle out_table out_seat mid between trying tried last) none rest = absurd (true≢false none)

    -- silent steps come last
    works_then : {begins : Bool} {helper left : H} {old mid : T} {before between : W} {stopped : Bool} (new : T) (after : W)
        → Works policy (IsSilent means) (IsSilent means) (GetsChunk means route) (IsVainTry means route begins) (IsOutNow means route) asks helper old before stopped left mid between
        → IsSilent means mid between new after
        → Works policy (IsSilent means) (IsSilent means) (GetsChunk means route) (IsVainTry means route begins) (IsOutNow means route) asks helper old before stopped left new after
    works_then new after (Done helper old before mid between last) silent =
        Done helper old before new after (silent_both means old before mid between new after last silent)
    works_then new after (Silent helper old before next moved stopped left mid between first more) silent =
        Silent helper old before next moved stopped left new after first (works_then new after more silent)
    works_then new after (Gets helper old before next moved stopped left mid between gets more) silent =
        Gets helper old before next moved stopped left new after gets (works_then new after more silent)
    works_then new after (Helped helper old before asking asker helped freed stopped left mid between stalls out helps_ more) silent =
        Helped helper old before asking asker helped freed stopped left new after stalls out helps_ (works_then new after more silent)
    works_then new after (Refused helper old before asking asker left kept mid between stalls out helps_ last) silent =
        Refused helper old before asking asker left kept new after stalls out helps_ (silent_both means kept asker mid between new after last silent)
    works_then new after (Lost helper old before out_table out_seat mid between drops out last) silent =
        Lost helper old before out_table out_seat new after drops out (silent_both means out_table out_seat mid between new after last silent)
    works_then new after (Tried helper old before tries kept next moved stopped left mid between trying tried more) silent =
        Tried helper old before tries kept next moved stopped left new after trying tried (works_then new after more silent)
    works_then new after (GivesUp helper old before tries left out_table out_seat mid between trying tried last) silent =
        GivesUp helper old before tries left out_table out_seat new after trying tried (silent_both means out_table out_seat mid between new after last silent)

    -- or those that note the call
    works_last : {begins : Bool} {helper left : H} {old mid : T} {before between : W} {stopped : Bool} (new : T) (after : W)
        → Works policy (IsSilent means) (IsSilent means) (GetsChunk means route) (IsVainTry means route begins) (IsOutNow means route) asks helper old before stopped left mid between
        → IsQuiet means mid between new after
        → Works policy (IsSilent means) (IsQuiet means) (GetsChunk means route) (IsVainTry means route begins) (IsOutNow means route) asks helper old before stopped left new after
    works_last new after (Done helper old before mid between last) quiet =
        Done helper old before new after (quiet_both means old before mid between new after last.quiet quiet)
    works_last new after (Silent helper old before next moved stopped left mid between first more) quiet =
        Silent helper old before next moved stopped left new after first (works_last new after more quiet)
    works_last new after (Gets helper old before next moved stopped left mid between gets more) quiet =
        Gets helper old before next moved stopped left new after gets (works_last new after more quiet)
    works_last new after (Helped helper old before asking asker helped freed stopped left mid between stalls out helps_ more) quiet =
        Helped helper old before asking asker helped freed stopped left new after stalls out helps_ (works_last new after more quiet)
    works_last new after (Refused helper old before asking asker left kept mid between stalls out helps_ last) quiet =
        Refused helper old before asking asker left kept new after stalls out helps_ (quiet_both means kept asker mid between new after last.quiet quiet)
    works_last new after (Lost helper old before out_table out_seat mid between drops out last) quiet =
        Lost helper old before out_table out_seat new after drops out (quiet_both means out_table out_seat mid between new after last.quiet quiet)
    works_last new after (Tried helper old before tries kept next moved stopped left mid between trying tried more) quiet =
        Tried helper old before tries kept next moved stopped left new after trying tried (works_last new after more quiet)
    works_last new after (GivesUp helper old before tries left out_table out_seat mid between trying tried last) quiet =
        GivesUp helper old before tries left out_table out_seat new after trying tried (quiet_both means out_table out_seat mid between new after last.quiet quiet)

  quiet_counts : (old : T) (seat : W) (new : T) (after : W) → IsQuiet means old seat new after
      → length (means.view new after).asked + length (means.view new after).begun ≡ length (means.view old seat).asked + length (means.view old seat).begun
  quiet_counts old seat new after quiet =
      let asks = ap length quiet.asked in let chunks = keeps_long (means.view old seat).begun (means.view new after).begun quiet.chunks in omega (arith, asks, chunks)

  -- nothing was done
  pub work_none : {begins : Bool} (route : Route) (helper : H) (table : T) (seat : W) (steps : ℕ) → means.sits table seat → needs helper table
      → IsWork means needs helps begins route (at_step helper table seat steps) false (at_step helper table seat steps)
  work_none route helper table seat steps there needed = record {
    others = leaves_own table seat table seat (stays means table seat there);
    works = Done helper table seat table seat (silent_none means table seat there);
    needed = needed;
    counts = refl;
  }

  pub work_behind : {begins : Bool} (route : Route) (helper : H) (old : T) (before : W) (steps : ℕ) (middle : H) (mid : T) (between : W) (half : ℕ) (stopped : Bool) (left : H) (new : T) (after : W) (later : ℕ)
      → IsWork means needs helps begins route (at_step helper old before steps) false (at_step middle mid between half)
      → IsWork means needs helps begins route (at_step middle mid between half) stopped (at_step left new after later)
      → IsWork means needs helps begins route (at_step helper old before steps) stopped (at_step left new after later)
  work_behind route helper old before steps middle mid between half stopped left new after later one two = record {
    others = leaves_both old before mid between new after one.others two.others;
    works = works_both route.spec.policy route (λ asked table answer behind freed. helps asked table route.spec.producer answer behind freed × LeavesWriters means table freed)
        stopped left new after one.works refl two.works;
    needed = two.needed;
    counts = let first = one.counts in let second = two.counts in omega (arith, first, second);
  }

  -- silent steps come first
  pub work_before : {begins : Bool} (route : Route) (helper : H) (old : T) (before : W) (steps : ℕ) (mid : T) (between : W) (stopped : Bool) (left : H) (new : T) (after : W) (later : ℕ)
      → IsSilent means old before mid between
      → IsWork means needs helps begins route (at_step helper mid between steps) stopped (at_step left new after later)
      → IsWork means needs helps begins route (at_step helper old before steps) stopped (at_step left new after later)
  work_before route helper old before steps mid between stopped left new after later silent two = record {
    others = leaves_both old before mid between new after (leaves_own old before mid between silent.quiet.step) two.others;
    works = Silent helper old before mid between stopped left new after silent two.works;
    needed = two.needed;
    counts = let first = quiet_counts old before mid between silent.quiet in let second = two.counts in omega (arith, first, second);
  }

  -- or last
  pub work_then : {begins : Bool} (route : Route) (helper : H) (old : T) (before : W) (steps : ℕ) (stopped : Bool) (left : H) (mid : T) (between : W) (later : ℕ) (new : T) (after : W)
      → ((helper : H) (old new : T) (seat after : W) → IsWriterStep means old seat new after → needs helper old → needs helper new)
      → IsWork means needs helps begins route (at_step helper old before steps) stopped (at_step left mid between later)
      → IsSilent means mid between new after
      → IsWork means needs helps begins route (at_step helper old before steps) stopped (at_step left new after later)
  work_then route helper old before steps stopped left mid between later new after keeps one silent = record {
    others = leaves_both old before mid between new after one.others (leaves_own mid between new after silent.quiet.step);
    works = works_then route.spec.policy route (λ asked table answer behind freed. helps asked table route.spec.producer answer behind freed × LeavesWriters means table freed)
        new after one.works silent;
    needed = keeps left mid new between after silent.quiet.step one.needed;
    counts = let first = quiet_counts mid between new after silent.quiet in let second = one.counts in omega (arith, first, second);
  }

  -- a chunk was claimed and begun
  pub work_gets : {begins : Bool} (route : Route) (helper : H) (old : T) (seat : W) (steps : ℕ) (new : T) (after : W) (later : ℕ)
      → ((helper : H) (old new : T) (seat after : W) → IsWriterStep means old seat new after → needs helper old → needs helper new)
      → needs helper old → GetsChunk means route old seat new after
      → later + (length (means.view old seat).asked + length (means.view old seat).begun) ≡ steps + (length (means.view new after).asked + length (means.view new after).begun)
      → IsWork means needs helps begins route (at_step helper old seat steps) false (at_step helper new after later)
  work_gets route helper old seat steps new after later keeps needed gets counts = record {
    others = leaves_own old seat new after gets.step;
    works = Gets helper old seat new after false helper new after gets (Done helper new after new after (silent_none means new after gets.step.seat_stays));
    needed = keeps helper old new seat after gets.step needed;
    counts = counts;
  }

  -- the writer asked for a help that freed a chunk
  pub work_helped : {begins : Bool} (route : Route) (helper : H) (old : T) (seat : W) (steps : ℕ) (asking : T) (asker : W) (later : ℕ) (helped : H) (freed : T)
      → route.spec.policy ≡ Stalls → IsOutNow means route old seat asking asker
      → helps helper asking route.spec.producer true helped freed → LeavesWriters means asking freed → needs helped freed
      → later + (length (means.view old seat).asked + length (means.view old seat).begun) ≡ steps + (length (means.view asking asker).asked + length (means.view asking asker).begun)
      → IsWork means needs helps begins route (at_step helper old seat steps) false (at_step helped freed asker later)
  work_helped route helper old seat steps asking asker later helped freed stalls out helps_ leaves needed counts = record {
    others = leaves_both old seat asking asker freed asker (leaves_own old seat asking asker out.vain.step) (leaves_help asking asker freed out.vain.step.seat_stays leaves);
    works = Helped helper old seat asking asker helped freed false helped freed asker stalls out (helps_, leaves)
        (Done helped freed asker freed asker (silent_none means freed asker (leaves.writers_stay asker out.vain.step.seat_stays).0));
    needed = needed;
    counts = subst (λ (v : WriterView). later + (length (means.view old seat).asked + length (means.view old seat).begun) ≡ steps + (length v.asked + length v.begun))
        (sym (leaves.writers_stay asker out.vain.step.seat_stays).1) counts;
  }

  -- or for one that freed none
  pub work_refused : {begins : Bool} (route : Route) (helper : H) (old : T) (seat : W) (steps : ℕ) (asking : T) (asker : W) (later : ℕ) (left : H) (new : T)
      → route.spec.policy ≡ Stalls → IsOutNow means route old seat asking asker
      → helps helper asking route.spec.producer false left new → LeavesWriters means asking new → needs left new
      → later + (length (means.view old seat).asked + length (means.view old seat).begun) ≡ steps + (length (means.view asking asker).asked + length (means.view asking asker).begun)
      → IsWork means needs helps begins route (at_step helper old seat steps) true (at_step left new asker later)
  work_refused route helper old seat steps asking asker later left new stalls out helps_ leaves needed counts = record {
    others = leaves_both old seat asking asker new asker (leaves_own old seat asking asker out.vain.step) (leaves_help asking asker new out.vain.step.seat_stays leaves);
    works = Refused helper old seat asking asker left new new asker stalls out (helps_, leaves) (silent_none means new asker (leaves.writers_stay asker out.vain.step.seat_stays).0);
    needed = needed;
    counts = subst (λ (v : WriterView). later + (length (means.view old seat).asked + length (means.view old seat).begun) ≡ steps + (length v.asked + length v.begun))
        (sym (leaves.writers_stay asker out.vain.step.seat_stays).1) counts;
  }

  -- a writer that drops has lost its packet
  pub work_lost : {begins : Bool} (route : Route) (helper : H) (old : T) (seat : W) (steps : ℕ) (new : T) (after : W) (later : ℕ)
      → ((helper : H) (old new : T) (seat after : W) → IsWriterStep means old seat new after → needs helper old → needs helper new)
      → needs helper old → route.spec.policy ≡ Drops → IsOutNow means route old seat new after
      → later + (length (means.view old seat).asked + length (means.view old seat).begun) ≡ steps + (length (means.view new after).asked + length (means.view new after).begun)
      → IsWork means needs helps begins route (at_step helper old seat steps) true (at_step helper new after later)
  work_lost route helper old seat steps new after later keeps needed drops out counts = record {
    others = leaves_own old seat new after out.vain.step;
    works = Lost helper old seat new after new after drops out (silent_none means new after out.vain.step.seat_stays);
    needed = keeps helper old new seat after out.vain.step needed;
    counts = counts;
  }

  -- A call, behind which it is noted

  pub asked_of : {begins : Bool} (writer : Writer) (helper : H) (old : T) (before : W) (steps : ℕ) (stopped : Bool) (noted : List Call) (behind : Writer) (left : H) (mid : T) (between : W) (later : ℕ) (new : T) (after : W)
      → ((helper : H) (old new : T) (seat after : W) → IsWriterStep means old seat new after → needs helper old → needs helper new)
      → IsWork means needs helps begins writer.route (at_step helper old before steps) stopped (at_step left mid between later)
      → IsQuiet means mid between new after
      → (means.view new after).calls ≡ (means.view old before).calls ++ noted → is_stalled behind.state ≡ refuses writer.route.spec.policy stopped
      → IsAsked means needs helps begins stopped noted (moment writer helper old before steps) (moment behind left new after later)
  asked_of writer helper old before steps stopped noted behind left mid between later new after keeps one quiet notes stalls =
      let route = writer.route in
      let works = works_last route.spec.policy route (λ asked table answer behind freed. helps asked table route.spec.producer answer behind freed × LeavesWriters means table freed)
      new after one.works quiet in
      let first = quiet_counts mid between new after quiet in let second = one.counts in
      record {
        others = leaves_both old before mid between new after one.others (leaves_own mid between new after quiet.step);
        works = works;
        needed = keeps left mid new between after quiet.step one.needed;
        counts = omega (arith, first, second);
        notes = notes;
        stalls = stalls;
        lost = works_lose means route works;
        few_steps = works_few means route.spec.policy route _ helper old before steps stopped left new after later works (omega (arith, first, second));
      }

  -- the call was noted alone
  pub asked_alone : {begins : Bool} (writer : Writer) (helper : H) (old : T) (seat : W) (steps : ℕ) (noted : List Call) (behind : Writer) (new : T) (after : W) → means.sits old seat
      → ((helper : H) (old new : T) (seat after : W) → IsWriterStep means old seat new after → needs helper old → needs helper new)
      → needs helper old → IsQuiet means old seat new after
      → (means.view new after).calls ≡ (means.view old seat).calls ++ noted → is_stalled behind.state ≡ refuses writer.route.spec.policy false
      → IsAsked means needs helps begins false noted (moment writer helper old seat steps) (moment behind helper new after steps)
  asked_alone writer helper old seat steps noted behind new after there keeps needed quiet notes stalls =
      asked_of writer helper old seat steps false noted behind helper old seat steps new after keeps (work_none writer.route helper old seat steps there needed) quiet notes stalls

  -- a writer that drops asks for no help
  drops_alone : (route : Route) → route.spec.policy ≡ Drops → {begins : Bool} {helper left : H} {old new : T} {seat after : W} {stopped : Bool} → means.sits old seat
      → Works route.spec.policy (IsSilent means) (IsQuiet means) (GetsChunk means route) (IsVainTry means route begins) (IsOutNow means route)
      (λ asked table answer behind freed. helps asked table route.spec.producer answer behind freed × LeavesWriters means table freed)
      helper old seat stopped left new after
      → (left ≡ helper) × IsWriterStep means old seat new after
  drops_alone route drops there (Done helper old seat new after last) = (refl, last.step)
  drops_alone route drops there (Silent helper old seat next moved stopped left new after silent more) =
      let rest = drops_alone route drops silent.quiet.step.seat_stays more in
      (rest.0, steps_follow means old seat next moved new after silent.quiet.step rest.1)
  drops_alone route drops there (Gets helper old seat next moved stopped left new after gets more) =
      let rest = drops_alone route drops gets.step.seat_stays more in
      (rest.0, steps_follow means old seat next moved new after gets.step rest.1)
  drops_alone route drops there (Helped helper old seat asking asker helped freed stopped left new after stalls out helps_ more) = absurd (let same : Drops ≡ Stalls = sym drops ∙ stalls in cc)
  drops_alone route drops there (Refused helper old seat asking asker left kept new after stalls out helps_ last) = absurd (let same : Drops ≡ Stalls = sym drops ∙ stalls in cc)
  drops_alone route drops there (Lost helper old seat mid between new after lost out last) =
      (refl, steps_follow means old seat mid between new after out.vain.step last.step)
  drops_alone route drops there (Tried helper old seat tries kept next moved stopped left new after trying tried more) = absurd (let same : Drops ≡ StallsThenDrops tries = sym drops ∙ trying in cc)
  drops_alone route drops there (GivesUp helper old seat tries left mid between new after trying tried last) = absurd (let same : Drops ≡ StallsThenDrops tries = sym drops ∙ trying in cc)

  pub asked_drops : {begins stopped : Bool} {noted : List Call} {before behind : CallMoment H T W} → means.sits before.table before.core.seat
      → IsAsked means needs helps begins stopped noted before behind → before.core.writer.route.spec.policy ≡ Drops
      → (behind.helper ≡ before.helper) × IsWriterStep means before.table before.core.seat behind.table behind.core.seat
  asked_drops {before = before} there asked drops = drops_alone before.core.writer.route drops there asked.works
