-- What was done between two lines, one act behind another.
use Rattle.std.proofs.Common.{◌≡◌, ◌∙◌, ℕ, suc, ◌+◌, ◌-◌, ◌<◌, ◌≤◌, false, Some, List, [], ◌++◌, length, vec_len, get_or, refl, sym, ap, subst, arith, append_assoc, append-nil}
use Rattle.std.specs.Prelude.{slice_get, slice_index_or, vec_capacity}
use Rattle.std.proofs.lemmas.Option.{slice_get-get_or, slice_get_within, same_Some}
use Rattle.byte_io.specs.Bytes.{Intake}
use Rattle.trace_model.specs.Buffers.{Buffer}
use Rattle.model_laws.specs.Losses.{Loses}
use Rattle.scenario_text.specs.declared.scenario.NumberedLine.{NumberedLine}
use Rattle.scenario_text.specs.Scenario.{Parts}
use Rattle.scenario_text.specs.Accepted.{calls_asked}
use Rattle.chunk_plain.specs.Meaning.{Meaning}
use Rattle.chunk_plain.specs.Setup.{Setup}
use Rattle.chunk_plain.specs.Views.{WriterView}
use Rattle.session_core.specs.Sessions.{SessionValue}
use Rattle.trace_writer.specs.declared.writer.WriterCore.{WriterCore}
use Rattle.service_core.specs.Agreement.{first_of}
use Rattle.world_model.specs.FirstBuffers.{payload_at}
use Rattle.replay_model.specs.Acts.{Act}
use Rattle.replay_model.specs.ActNotes.{ActNote}
use Rattle.replay_model.specs.Flushes.{requests_in}
use Rattle.replay_model.specs.Played.{IsSetupOf, buffers_of}
use Rattle.replay_host.specs.declared.host.Host.{Host}
use Rattle.replay_host.specs.Answering.{KeepsGoing, GoesOn}
use Rattle.replay_host.specs.Asking.{IsReadyFor}
use Rattle.replay_host.specs.Lines.{MOST_REQUESTS, IsKept, IsGoing}
use Rattle.replay_host.specs.Playing.{IsHost, HasDone, HasPlayed, IsTraceOf, LeavesWriters}
use Rattle.replay_host.specs.Raws.{raws_in}
use Rattle.replay_host.specs.Tally.{IsTally}
use Rattle.replay_host.proofs.HostLemmas.{played_none, played_both}
use Rattle.replay_host.proofs.ReadyLemmas.{ready_still}

-- ---- acts that were done

pub done_none : {T W S : Type 0} (means : Meaning T W S) (host : Host T W S) (taken : Intake) → HasDone means [] [] host taken host taken
done_none means host taken = record {
  setup_is = refl;
  first = refl;
  plays = played_none means (first_of (means.setup host.table) host.helper.service) host.table;
  writes = λ start is. is;
}

-- the first buffers of a host stay through acts
first_is : {T W S : Type 0} (means : Meaning T W S) (old mid : Host T W S) → means.setup mid.table ≡ means.setup old.table
    → first_of (means.setup old.table) mid.helper.service ≡ first_of (means.setup old.table) old.helper.service
    → first_of (means.setup mid.table) mid.helper.service ≡ first_of (means.setup old.table) old.helper.service
first_is means old mid same first = ap (λ (s : Setup). first_of s mid.helper.service) same ∙ first

pub done_both : {T W S : Type 0} (means : Meaning T W S) (acts others : List Act) (notes more : List ActNote) (old mid new : Host T W S) (taken between left : Intake)
    → HasDone means acts notes old taken mid between → HasDone means others more mid between new left → HasDone means (acts ++ others) (notes ++ more) old taken new left
done_both means acts others notes more old mid new taken between left one two =
    let same = one.setup_is in
    let first = first_is means old mid same one.first in
    record {
      setup_is = two.setup_is ∙ same;
      first = subst (λ (s : Setup). first_of s new.helper.service ≡ first_of s mid.helper.service) same two.first ∙ one.first;
      plays = played_both means (first_of (means.setup old.table) old.helper.service) acts others old.table mid.table new.table notes more same one.plays
          (subst (λ (bs : List Buffer). HasPlayed means bs others mid.table new.table more) first two.plays);
      writes = λ start is.
          subst (λ (bs : List Buffer). IsTraceOf start bs (means.service_view new.table new.helper.service.seat) left) first
          (two.writes start (subst (λ (bs : List Buffer). IsTraceOf start bs (means.service_view mid.table mid.helper.service.seat) between) (sym first) (one.writes start is)));
    }

-- ---- what goes on

-- a writer that is there behind a step was there before it
pub writer_was : {W : Type 0} (old new : List (WriterCore W)) (place : ℕ) (is : WriterCore W) → length new ≡ length old → slice_get new place ≡ Some is
    → (was : WriterCore W) × (slice_get old place ≡ Some was)
writer_was old new place is many at =
    let inside = slice_get_within new place is at in
    let there : place < length old = omega (arith, inside, many) in
    (get_or old place is, slice_get-get_or old place is there)

pub keeps_going_none : {T W S : Type 0} (means : Meaning T W S) (host : Host T W S) → KeepsGoing means host host
keeps_going_none {T} {W} {S} means host = record {
  setup_is = refl;
  first = refl;
  opened = refl;
  many = refl;
  wrote = λ place was is before behind asked loses.
      subst (λ (c : WriterCore W). Loses asked (means.view host.table c.seat).calls) (same_Some was is (sym before ∙ behind)) loses;
  ready = λ coming ready. ready;
  made = refl;
  room = refl;
  told = refl;
  state = refl;
  requests = refl;
}

pub keeps_going_both : {T W S : Type 0} (means : Meaning T W S) (old mid new : Host T W S) → KeepsGoing means old mid → KeepsGoing means mid new → KeepsGoing means old new
keeps_going_both {T} {W} {S} means old mid new one two = record {
  setup_is = two.setup_is ∙ one.setup_is;
  first = subst (λ (s : Setup). first_of s new.helper.service ≡ first_of s mid.helper.service) one.setup_is two.first ∙ one.first;
  opened = two.opened ∙ one.opened;
  many = two.many ∙ one.many;
  wrote = λ place was is before behind asked loses.
      let middle = writer_was mid.writers.items new.writers.items place is two.many behind in
      two.wrote place middle.0 is middle.1 behind asked (one.wrote place was middle.0 before middle.1 asked loses);
  ready = λ coming ready. two.ready coming (one.ready coming ready);
  made = two.made ∙ one.made;
  room = two.room ∙ one.room;
  told = two.told ∙ one.told;
  state = two.state ∙ one.state;
  requests = two.requests ∙ one.requests;
}

-- an act of the service leaves what goes on
pub keeps_served : {T W S : Type 0} (means : Meaning T W S) (old new : Host T W S) → LeavesWriters means old new → means.setup new.table ≡ means.setup old.table
    → first_of (means.setup old.table) new.helper.service ≡ first_of (means.setup old.table) old.helper.service
    → new.open_producers ≡ old.open_producers → new.helper.service.session ≡ old.helper.service.session → KeepsGoing means old new
keeps_served {T} {W} {S} means old new leaves same first opened session = record {
  setup_is = same;
  first = first;
  opened = opened;
  many = ap (λ (v : _). length v.items) leaves.writers;
  wrote = λ place was is before behind asked loses.
      let here : slice_get old.writers.items place ≡ Some is = ap (λ (v : _). slice_get v.items place) (sym leaves.writers) ∙ behind in
      subst (λ (v : WriterView). Loses asked v.calls) (sym (leaves.views place is here))
      (subst (λ (c : WriterCore W). Loses asked (means.view old.table c.seat).calls) (same_Some was is (sym before ∙ here)) loses);
  ready = λ coming ready place core at.
      let here : slice_get old.writers.items place ≡ Some core = ap (λ (v : _). slice_get v.items place) (sym leaves.writers) ∙ at in
      subst (λ (s : Setup). IsReadyFor (payload_at s place) (means.view new.table core.seat) (coming place)) (sym same)
      (ready_still (payload_at (means.setup old.table) place) (means.view old.table core.seat) (means.view new.table core.seat) (coming place)
      (ap (λ (v : WriterView). v.calls) (leaves.views place core here)) (ready place core here));
  made = ap (λ (f : _). f.made) leaves.flushes;
  room = ap (λ (f : _). vec_len f.chunks) leaves.flushes;
  told = ap (λ (f : _). f.answers) leaves.flushes;
  state = ap (λ (s : SessionValue). s.state) session;
  requests = ap (λ (s : SessionValue). s.requests) session;
}

-- Behind the same lines: what is kept of the set-up and of flush requests is right.
pub kept_still : {T W S : Type 0} (means : Meaning T W S) (scenario : Parts) (before : List NumberedLine) (notes later : List ActNote) (old new : Host T W S)
    → IsKept means scenario before notes old → IsHost means new → means.setup new.table ≡ means.setup old.table
    → first_of (means.setup old.table) new.helper.service ≡ first_of (means.setup old.table) old.helper.service
    → new.open_producers ≡ old.open_producers → IsTally (notes ++ later) (length scenario.writers) new.flushes → IsKept means scenario before (notes ++ later) new
kept_still means scenario before notes later old new kept host same first opened tally = record {
  is_host = host;
  laid = subst (λ (s : Setup). IsSetupOf scenario s) (sym same) kept.laid;
  first = subst (λ (s : Setup). first_of s new.helper.service ≡ buffers_of scenario s) (sym same) (first ∙ kept.first);
  few_producers = kept.few_producers;
  flags = λ producer least most. ap (λ (v : _). slice_index_or v.items (producer - 1) false) opened ∙ kept.flags producer least most;
  tally = tally;
}

pub going_still : {T W S : Type 0} (means : Meaning T W S) (scenario : Parts) (before rest : List NumberedLine) (notes later : List ActNote) (old new : Host T W S)
    → IsGoing means scenario before rest notes old → IsHost means new → KeepsGoing means old new
    → IsTally (notes ++ later) (length scenario.writers) new.flushes → IsGoing means scenario before rest (notes ++ later) new
going_still means scenario before rest notes later old new going host keeps tally = record {
  kept = kept_still means scenario before notes later old new going.kept host keeps.setup_is keeps.first keeps.opened tally;
  wrote = λ place core at.
      let was = writer_was old.writers.items new.writers.items place core keeps.many at in
      keeps.wrote place was.0 core was.1 at (calls_asked (suc place) before) (going.wrote place was.0 was.1);
  ready = keeps.ready _ going.ready;
  room = ap (λ (n : ℕ). n + requests_in rest) keeps.made ∙ going.room ∙ sym keeps.room;
  few = subst (λ (n : ℕ). n < MOST_REQUESTS) (sym keeps.room) going.few;
  told_room = subst (λ (v : _). vec_len v + raws_in rest ≤ vec_capacity v) (sym keeps.told) going.told_room;
  started = keeps.state ∙ going.started;
  requests = keeps.requests ∙ going.requests ∙ sym keeps.made;
}

-- ---- acts with their notes

pub goes_none : {T W S : Type 0} (means : Meaning T W S) (host : Host T W S) → IsHost means host → GoesOn means [] [] host host
goes_none means host is = record {
  host = is;
  keeps = keeps_going_none means host;
  tally = λ notes writers tally. subst (λ (ns : List ActNote). IsTally ns writers host.flushes) (sym (append-nil notes)) tally;
  done = λ taken. done_none means host taken;
}

pub goes_both : {T W S : Type 0} (means : Meaning T W S) (acts others : List Act) (later more : List ActNote) (old mid new : Host T W S)
    → GoesOn means acts later old mid → GoesOn means others more mid new → GoesOn means (acts ++ others) (later ++ more) old new
goes_both means acts others later more old mid new one two = record {
  host = two.host;
  keeps = keeps_going_both means old mid new one.keeps two.keeps;
  tally = λ notes writers tally.
      subst (λ (ns : List ActNote). IsTally ns writers new.flushes) (append_assoc notes later more) (two.tally (notes ++ later) writers (one.tally notes writers tally));
  done = λ taken. done_both means acts others later more old mid new taken taken taken (one.done taken) (two.done taken);
}

-- where it goes on, the lines that are played stay so
pub goes_still : {T W S : Type 0} (means : Meaning T W S) (scenario : Parts) (before rest : List NumberedLine) (notes later : List ActNote) (acts : List Act) (old new : Host T W S)
    → IsGoing means scenario before rest notes old → GoesOn means acts later old new → IsGoing means scenario before rest (notes ++ later) new
goes_still means scenario before rest notes later acts old new going goes =
    going_still means scenario before rest notes later old new going goes.host goes.keeps (goes.tally notes (length scenario.writers) going.kept.tally)
