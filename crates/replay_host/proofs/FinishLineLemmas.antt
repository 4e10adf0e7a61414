-- A line that ends a packet: its writer answers a request that came since the packet began.
use Rattle.std.proofs.Common.{◌≡◌, ◌≢◌, ◌∙◌, ℕ, suc, ◌<◌, ◌&&◌, Bool, true, false, not, List, [], ◌∷◌, ◌++◌, length, vec_len, get_or, inl, inr, refl, sym, ap, subst, arith, append-nil}
use Rattle.std.specs.Prelude.{slice_index, nat_lt}
use Rattle.std.proofs.lemmas.Bool.{cases_eq, and_left, le-ltb}
use Rattle.std.proofs.lemmas.Grind.{fold-append}
use Rattle.std.proofs.lemmas.List.{get_or-set_same, get_or-set_other}
use Rattle.byte_io.specs.Bytes.{Intake}
use Rattle.trace_model.specs.Calls.{Call, Finished}
use Rattle.trace_model.specs.Packets.{Account, account_of, packets_of, noted, nothing_yet, is_writing}
use Rattle.scenario_text.specs.declared.scenario.LineKind.{LineKind}
use Rattle.scenario_text.specs.declared.scenario.LineKind.TheVariants as line
use Rattle.scenario_text.specs.declared.scenario.NumberedLine.{NumberedLine}
use Rattle.scenario_text.specs.Scenario.{Parts}
use Rattle.scenario_text.specs.Accepted.{line_calls, calls_asked, closes}
use Rattle.scenario_text.specs.Reach.{IsInReach, NamesWriter}
use Rattle.scenario_text.proofs.AcceptedLemmas.{calls_more}
use Rattle.chunk_plain.specs.Meaning.{Meaning}
use Rattle.service_core.specs.Agreement.{spec_at}
use Rattle.replay_model.specs.Acts.{Act, Answer, asks}
use Rattle.replay_model.specs.ActNotes.{ActNote, Answered}
use Rattle.replay_model.specs.Schedule.{acts_of, asked_of, answers_late, is_due, is_due_after}
use Rattle.replay_host.specs.declared.host.Host.{Host}
use Rattle.replay_host.specs.Answering.{HasAnswered, MayAnswer}
use Rattle.replay_host.specs.Asks.{AsksFor}
use Rattle.replay_host.specs.Lines.{IsGoing, IsAt, IsDueAt, IsLinePlayed, Moment, ComesNext, coming_at, is_open_at}
use Rattle.replay_host.specs.Asking.{AreReady}
use Rattle.replay_host.specs.Playing.{IsHost, IsOpenAt, HasAsked, HasDone, asked_all}
use Rattle.replay_host.proofs.DueLemmas.{own_is, other_is, writing_finished}
use Rattle.replay_host.proofs.GoingLemmas.{done_both, goes_still}
use Rattle.replay_host.proofs.LineLemmas.{closed_same, due_more, ready_line, going_asked}
use Rattle.replay_host.proofs.MomentLemmas.{place_inside, flag_is, names_inside, names_open, calls_accepted}
use Rattle.replay_host.proofs.StopLemmas.{asked_done}

-- ---- what the line is

pub end_asks : (place : ℕ) → AsksFor (line.End (suc place)) place (Finished ∷ [])
unfolding line_calls closes
end_asks place = record {
  own = own_is (suc place) (Finished ∷ []);
  others = λ number apart. other_is number (suc place) (Finished ∷ []) apart;
  no_request = refl;
  closes_none = λ producer. refl;
}

pub end_acts : (scenario : Parts) (before : List NumberedLine) (place : ℕ)
    → acts_of scenario before (line.End (suc place)) ≡ asks place (Finished ∷ []) ++ answers_late (suc place) (is_due (suc place) before)
unfolding line_calls
end_acts scenario before place = ap (λ (cs : List Call). asked_of (suc place) cs ++ answers_late (suc place) (is_due (suc place) before)) (own_is (suc place) (Finished ∷ []))

module _ {T W S : Type 0} (means : Meaning T W S) (moment : Moment) (place : ℕ) (old : Host T W S) (what : moment.line.what ≡ line.End (suc place))
    (next : ComesNext means moment old)
  where
    names : NamesWriter moment.scenario.writers moment.before (suc place)
    names = subst (λ (kind : LineKind). IsInReach moment.scenario.buffers moment.scenario.producers moment.scenario.writers moment.before kind) what next.reach

    wants : AsksFor moment.line.what place (Finished ∷ [])
    wants = subst (λ (kind : LineKind). AsksFor kind place (Finished ∷ [])) (sym what) (end_asks place)

    below : place < length moment.scenario.writers
    below = names_inside moment.scenario.writers moment.before place names

    pub finish_place : place < length (means.setup old.table).writers
    finish_place = place_inside means moment.scenario moment.before moment.notes old next.at.going.kept place below

    pub finish_open : IsOpenAt means old place
    finish_open = flag_is means moment.scenario moment.before moment.notes old next.at.going.kept place below ∙ names_open moment.scenario moment.before place names

    pub finish_ready : (coming : ℕ → List Call) × AreReady means old.table old.writers.items (asked_all place (Finished ∷ []) coming)
    finish_ready = (
      coming_at moment.scenario moment.rest,
      ready_line means old.table old.writers.items moment.scenario moment.line moment.rest place (Finished ∷ []) wants next.at.going.ready,
    )

    pub finish_counted : (mid : Host T W S) → HasAsked means place (Finished ∷ []) old mid → place < vec_len mid.flushes.answered
    finish_counted mid asked =
        let many = next.at.going.kept.tally.many in
        let same : vec_len mid.flushes.answered ≡ vec_len old.flushes.answered = ap (λ (f : _). vec_len f.answered) asked.books.flushes in
        let inside = below in omega (arith, many, same, inside)

module _ {T W S : Type 0} (means : Meaning T W S) (moment : Moment) (place : ℕ) (old mid : Host T W S)
    (what : moment.line.what ≡ line.End (suc place)) (next : ComesNext means moment old) (host : IsHost means mid)
    (asked : HasAsked means place (Finished ∷ []) old mid)
  where
    abbrev pub behind : List NumberedLine
    behind = moment.before ++ moment.line ∷ []

    pub finish_going : IsGoing means moment.scenario (moment.before ++ moment.line ∷ []) moment.rest moment.notes mid
    finish_going = going_asked means moment.scenario moment.before moment.line moment.rest moment.notes place (Finished ∷ []) old mid (wants means moment place old what next) next.at.going host asked

    pub finish_may : MayAnswer means place mid
    finish_may = record {
      amid = record { scenario = moment.scenario; before = moment.before ++ moment.line ∷ []; rest = moment.rest; notes = moment.notes; going = finish_going };
      below = (below means moment place old what next);
      opened = ap not (closed_same (spec_at moment.scenario.writers place).producer moment.before moment.line ((wants means moment place old what next).closes_none (spec_at moment.scenario.writers place).producer))
          ∙ names_open moment.scenario moment.before place (names means moment place old what next);
    }

    -- no packet is begun behind the line, and one was before it
    pub finish_between : is_writing (packets_of (calls_asked (suc place) (moment.before ++ moment.line ∷ []))) ≡ false
    finish_between =
        ap (λ (cs : List Call). is_writing (packets_of cs))
        (calls_more (suc place) moment.before moment.line ∙ ap (λ (cs : List Call). calls_asked (suc place) moment.before ++ cs) (wants means moment place old what next).own)
        ∙ ap (λ (a : Account). is_writing a.packets) (fold-append noted nothing_yet (calls_asked (suc place) moment.before) (Finished ∷ []))
        ∙ writing_finished (account_of (calls_asked (suc place) moment.before))

    -- so it may answer
    pub finish_answer : (may : MayAnswer means place mid) × (is_writing (packets_of (calls_asked (suc place) may.amid.before)) ≡ false)
    unfolding finish_may
    finish_answer = (finish_may, finish_between)

    written : is_writing (packets_of (calls_asked (suc place) moment.before)) ≡ true
    written = (calls_accepted means moment.scenario moment.before moment.line moment.rest moment.notes old place (Finished ∷ []) next.at.going (wants means moment place old what next) (below means moment place old what next)).0.0

    -- so a request is due exactly where one came since the packet began
    due_is : nat_lt (slice_index mid.flushes.answered.items place) mid.flushes.made ≡ is_due (suc place) moment.before
    due_is =
        ap (λ (f : _). nat_lt (slice_index f.answered.items place) f.made) asked.books.flushes
        ∙ next.at.due place (below means moment place old what next) (names_open moment.scenario moment.before place (names means moment place old what next))
        ∙ ap (λ (b : Bool). b && is_due (suc place) moment.before) written

    -- of the other writers nothing has changed
    due_other : (other : ℕ) → other ≢ place → other < length moment.scenario.writers → is_open_at moment.scenario (moment.before ++ moment.line ∷ []) other ≡ true
        → IsDueAt moment.scenario (moment.before ++ moment.line ∷ []) other mid
    due_other other apart inside opened =
        let away : suc other ≢ suc place = λ same. apart (omega (arith, same)) in
        ap (λ (f : _). nat_lt (slice_index f.answered.items other) f.made) asked.books.flushes
        ∙ next.at.due other inside
        (ap not (sym (closed_same (spec_at moment.scenario.writers other).producer moment.before moment.line ((wants means moment place old what next).closes_none (spec_at moment.scenario.writers other).producer))) ∙ opened)
        ∙ sym (ap (λ (cs : List Call). is_writing (packets_of cs) && is_due (suc other) behind)
        (calls_more (suc other) moment.before moment.line ∙ ap (λ (cs : List Call). calls_asked (suc other) moment.before ++ cs) ((wants means moment place old what next).others (suc other) away)
        ∙ append-nil (calls_asked (suc other) moment.before))
        ∙ ap (λ (d : Bool). is_writing (packets_of (calls_asked (suc other) moment.before)) && d)
        (due_more (suc other) moment.before moment.line ∙ ap (λ (kind : LineKind). is_due_after (suc other) (is_due (suc other) moment.before) kind) what))

    -- where the writer has nothing more to answer, none is due
    due_own : (now : Host T W S) → nat_lt (slice_index now.flushes.answered.items place) now.flushes.made ≡ false
        → IsDueAt moment.scenario (moment.before ++ moment.line ∷ []) place now
    due_own now none = none ∙ sym (and_left (is_writing (packets_of (calls_asked (suc place) behind))) (is_due (suc place) behind) finish_between)

    pub finish_waits : nat_lt (slice_index mid.flushes.answered.items place) mid.flushes.made ≡ false → (taken : Intake) → IsLinePlayed means moment old taken mid taken
    finish_waits none taken = record {
      later = [];
      at = subst (λ (ns : List ActNote). IsAt means moment.scenario behind moment.rest ns mid) (sym (append-nil moment.notes)) (record {
        going = finish_going;
        due = λ other inside opened. elim (cases_eq other place) [
          | inl same ↦ subst (λ (n : ℕ). IsDueAt moment.scenario behind n mid) (sym same) (due_own mid none)
          | inr apart ↦ due_other other apart inside opened
        ];
      });
      done = subst (λ (acts : List Act). HasDone means acts [] old taken mid taken)
          (sym (ap (acts_of moment.scenario moment.before) what ∙ end_acts moment.scenario moment.before place
          ∙ ap (λ (b : Bool). asks place (Finished ∷ []) ++ answers_late (suc place) b) (sym due_is ∙ none)))
          (asked_done means place (Finished ∷ []) old mid asked taken);
    }

    pub finish_answers : (new : Host T W S) → HasAnswered means place mid new → nat_lt (slice_index mid.flushes.answered.items place) mid.flushes.made ≡ true
        → place < length mid.flushes.answered.items → (taken : Intake) → IsLinePlayed means moment old taken new taken
    finish_answers new answered some inside_list taken = record {
      later = Answered place answered.chunks ∷ [];
      at = record {
        going = goes_still means moment.scenario behind moment.rest moment.notes (Answered place answered.chunks ∷ []) (Answer place ∷ []) mid new finish_going answered.goes;
        due = λ other inside opened. elim (cases_eq other place) [
          | inl same ↦ subst (λ (n : ℕ). IsDueAt moment.scenario behind n new) (sym same) (due_own new all_answered)
          | inr apart ↦
              ap (λ (n : ℕ). nat_lt n new.flushes.made) (ap (λ (xs : List ℕ). get_or xs other 0) answered.answered
              ∙ get_or-set_other mid.flushes.answered.items place other mid.flushes.made 0 apart)
              ∙ ap (λ (n : ℕ). nat_lt (slice_index mid.flushes.answered.items other) n) answered.goes.keeps.made
              ∙ due_other other apart inside opened
        ];
      };
      done = subst (λ (acts : List Act). HasDone means acts (Answered place answered.chunks ∷ []) old taken new taken)
          (sym (ap (acts_of moment.scenario moment.before) what ∙ end_acts moment.scenario moment.before place
          ∙ ap (λ (b : Bool). asks place (Finished ∷ []) ++ answers_late (suc place) b) (sym due_is ∙ some)))
          (done_both means (asks place (Finished ∷ [])) (Answer place ∷ []) [] (Answered place answered.chunks ∷ []) old mid new taken taken taken
          (asked_done means place (Finished ∷ []) old mid asked taken) (answered.goes.done taken));
    }
      where
        same_not_less : (n : ℕ) → nat_lt n n ≡ false
        same_not_less n = le-ltb n n (omega arith)

        all_answered : nat_lt (slice_index new.flushes.answered.items place) new.flushes.made ≡ false
        all_answered =
            ap (λ (n : ℕ). nat_lt n new.flushes.made) (ap (λ (xs : List ℕ). get_or xs place 0) answered.answered
            ∙ get_or-set_same mid.flushes.answered.items place mid.flushes.made 0 inside_list)
            ∙ ap (λ (n : ℕ). nat_lt mid.flushes.made n) answered.goes.keeps.made ∙ same_not_less mid.flushes.made
