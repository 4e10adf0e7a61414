-- What lines tell, one behind another.
use Rattle.std.proofs.Common.{◌≡◌, ◌⊎◌, inl, inr, ℕ, ◌+◌, ◌-◌, Result, Ok, Err, IfOk, OnErr, List, [], ◌∷◌, ◌++◌, length, refl, sym, ap, ◌∙◌, subst, append_assoc, append-nil, length-append, arith}
use Rattle.std.specs.List.{flat_map}
use Rattle.std.proofs.lemmas.List.Concat.{flat_map-append}
use Rattle.byte_io.specs.Bytes.{Intake, told, untold, after_told, TakesPart}
use Rattle.byte_io.specs.declared.put.WriteFault.{WriteFault}
use Rattle.byte_io.proofs.Told.{after_told_again, after_told_nothing}
use Rattle.trace_model.specs.Buffers.{Buffer}
use Rattle.trace_model.specs.Delivery.{Delivered, trace_of}
use Rattle.trace_model.specs.History as model
use Rattle.trace_model.specs.History.{buffers_after, records_at, records_after, reads_of}
use Rattle.chunk_plain.specs.Histories.{history_of}
use Rattle.chunk_plain.specs.Setup.{Setup}
use Rattle.chunk_plain.specs.Views.{Noted, ServiceView, asked_in}
use Rattle.scenario_text.specs.declared.scenario.LineKind.{LineKind}
use Rattle.scenario_text.specs.declared.scenario.LineKind.TheVariants.{Packet, Begin, Add, Nest, Unnest, End, Flush, Collect, Scrape, Close, Read, Request, CloneBuffer, Raw}
use Rattle.scenario_text.specs.declared.scenario.NumberedLine.{NumberedLine}
use Rattle.service_core.specs.declared.service.ServiceCore.{ServiceCore}
use Rattle.service_core.specs.Agreement.{first_of}
use Rattle.service_core.specs.Reading.{FailsAmong, NotesReads, ReadsAll, noted_read, reads_in, sequences_to, read_moment}
use Rattle.service_core.specs.Routing.{buffer_at}
use Rattle.service_core.proofs.ReadingLemmas.{records_append, trace_append}
use Rattle.service_core.proofs.RouteLemmas.{buffers_append}
use Rattle.thread_service.specs.Reading.{GoesUnread, PassReads}
use Rattle.thread_service.proofs.GoingOn.{unread_both}
use Rattle.run_model.specs.Reads.{reads_by, GoesByReads, ReadsUpTo}
use Rattle.replay_model.specs.Flushes.{request_count}
use Rattle.thread_host.proofs.Counted.{none_requested, requests_more}
use Rattle.thread_host.specs.Jobs.{loans_of, KeepsLoans, FailsLine, FailsLines, TellsMore, TellsReads, TellsLine, TellsLines, TellsUpTo}

-- ---- histories that go on

pub unread_none : (old : List model.Event) → GoesUnread old old
unread_none old = record { others = []; goes = sym (append-nil old); unread = refl }

pub unread_further : (old mid new : List model.Event) → GoesUnread old mid → GoesUnread mid new → GoesUnread old new
unread_further old mid new one other = record {
  others = one.others ++ other.others;
  goes = other.goes ∙ ap (λ (es : List model.Event). es ++ other.others) one.goes ∙ append_assoc old one.others other.others;
  unread = unread_both one.others other.others one.unread other.unread;
}

-- behind the reads of some lines
pub reads_further : (setup : Setup) (first : List Buffer) (lines : List NumberedLine) (old mid new : List model.Event) → GoesByReads setup first lines old mid
    → GoesUnread mid new → GoesByReads setup first lines old new
reads_further setup first [] old mid new none goes = unread_further old mid new none goes
reads_further setup first (next ∷ lines) old mid new some goes =
    (some.0, some.1, reads_further setup first lines (some.0 ++ reads_by setup (buffers_after first some.0) next.what) mid new some.2 goes)

-- those of one line more
reads_behind : (setup : Setup) (first : List Buffer) (lines : List NumberedLine) (line : NumberedLine) (old mid here new : List model.Event)
    → GoesByReads setup first lines old mid → GoesUnread mid here → new ≡ here ++ reads_by setup (buffers_after first here) line.what
    → GoesByReads setup first (lines ++ line ∷ []) old new
reads_behind setup first [] line old mid here new none goes is = (
  here,
  unread_further old mid here none goes,
  subst (λ (es : List model.Event). GoesUnread (here ++ reads_by setup (buffers_after first here) line.what) es) (sym is)
      (unread_none (here ++ reads_by setup (buffers_after first here) line.what)),
)
reads_behind setup first (next ∷ lines) line old mid here new some goes is = (
  some.0,
  some.1,
  reads_behind setup first lines line (some.0 ++ reads_by setup (buffers_after first some.0) next.what) mid here new some.2 goes is,
)

-- ---- what the sink took

tells_nothing : (first : List Buffer) (view : ServiceView) (taken : Intake) → TellsMore first view view taken taken
tells_nothing first view taken = record {
  more = [];
  records = sym (append-nil (records_after first (history_of view)));
  taken = sym (after_told_nothing taken);
}

tells_again : (first : List Buffer) (old mid new : ServiceView) (before between after : Intake) → TellsMore first old mid before between
    → TellsMore first mid new between after → TellsMore first old new before after
tells_again first old mid new before between after one other = record {
  more = one.more ++ other.more;
  records = other.records
      ∙ ap (λ (records : List Delivered). records ++ other.more) one.records
      ∙ append_assoc (records_after first (history_of old)) one.more other.more;
  taken = other.taken
      ∙ ap (λ (intake : Intake). after_told intake (trace_of other.more)) one.taken
      ∙ after_told_again before (trace_of one.more) (trace_of other.more)
      ∙ ap (after_told before) (sym (trace_append one.more other.more));
}

-- nothing was read
pub none_tells : (first : List Buffer) (view : ServiceView) (taken : Intake) → TellsReads first [] view view taken taken
none_tells first view taken = record {
  since = [];
  history = sym (append-nil (history_of view));
  reads = refl;
  tells = tells_nothing first view taken;
}

-- one behind another
pub tells_both : (first : List Buffer) (firsts others : List model.Event) (old mid new : ServiceView) (before between after : Intake)
    → TellsReads first firsts old mid before between → TellsReads first others mid new between after
    → TellsReads first (firsts ++ others) old new before after
tells_both first firsts others old mid new before between after one other = record {
  since = one.since ++ other.since;
  history = other.history
      ∙ ap (λ (es : List model.Event). es ++ other.since) one.history
      ∙ append_assoc (history_of old) one.since other.since;
  reads = flat_map-append noted_read one.since other.since
      ∙ ap (λ (notes : List Noted). notes ++ flat_map noted_read other.since) one.reads
      ∙ ap (λ (notes : List Noted). flat_map noted_read firsts ++ notes) other.reads
      ∙ sym (flat_map-append noted_read firsts others);
  tells = tells_again first old mid new before between after one.tells other.tells;
}

-- no line tells nothing
pub tells_none : (setup : Setup) (first : List Buffer) (view : ServiceView) (taken : Intake) → TellsLines setup first [] view view taken taken
tells_none setup first view taken = record { reads = unread_none (history_of view); requests = omega arith; tells = tells_nothing first view taken }

-- one line more
pub tells_more : (setup : Setup) (first : List Buffer) (lines : List NumberedLine) (line : NumberedLine) (old mid new : ServiceView) (before between after : Intake)
    → TellsLines setup first lines old mid before between → TellsLine setup first line.what mid new between after
    → TellsLines setup first (lines ++ line ∷ []) old new before after
tells_more setup first lines line old mid new before between after one other = record {
  reads = reads_behind setup first lines line (history_of old) (history_of mid) other.here (history_of new) one.reads other.goes other.reads;
  requests =
      let before = one.requests in let last = other.requests in let both = requests_more lines line in
      omega (arith, before, last, both);
  tells = tells_again first old mid new before between after one.tells other.tells;
}

-- ---- the reading of a buffer

-- a buffer without sequences has no reads, whatever the buffers hold
no_reads : (sequences : List ℕ) (limit : ℕ) (buffer other : Buffer) → reads_of limit buffer sequences ≡ [] → reads_of limit other sequences ≡ []
no_reads [] limit buffer other none = refl
no_reads (sequence ∷ sequences) limit buffer other none =
    let long = ap (λ (es : List model.Event). length es) none in absurd (omega (arith, long))

same_reads : (setup : Setup) (buffers others : List Buffer) (number limit : ℕ) → (reads_in setup buffers number limit ≡ []) ⊎ (buffers ≡ others)
    → reads_in setup buffers number limit ≡ reads_in setup others number limit
same_reads setup buffers others number limit (inl none) =
    none ∙ sym (no_reads (sequences_to number 0 setup.writers) limit (buffer_at buffers (number - 1)) (buffer_at others (number - 1)) none)
same_reads setup buffers others number limit (inr same) = ap (λ (bs : List Buffer). reads_in setup bs number limit) same

-- it was read with the pass
module _ {S : Type 0} (setup : Setup) (core : ServiceCore S) (number limit delivered : ℕ) (old new passed pass : ServiceView) (before after : Intake)
    (reads : ReadsAll setup core number limit delivered (read_moment old before) (read_moment new after))
    (passes : (events : List model.Event) → NotesReads setup core events old new → PassReads setup core events passed pass) where
  abbrev events : List model.Event
  events = reads_in setup core.buffers.items number limit

  known : PassReads setup core (reads_in setup core.buffers.items number limit) passed pass
  known = passes events reads.notes

  taken_more : TellsMore (first_of setup core) passed pass before after
  taken_more = record { more = records_after core.buffers.items events; records = known.records; taken = reads.taken }

  pub read_tells : TellsReads (first_of setup core) (reads_in setup core.buffers.items number limit) passed pass before after
  read_tells = record {
    since = known.goes.others ++ events;
    history = known.history ∙ ap (λ (es : List model.Event). es ++ events) known.goes.goes ∙ append_assoc (history_of passed) known.goes.others events;
    reads = flat_map-append noted_read known.goes.others events ∙ ap (λ (notes : List Noted). notes ++ flat_map noted_read events) known.goes.unread;
    tells = taken_more;
  }

  pub line_read_tells : (first : List Buffer) → first_of setup core ≡ first → asked_in pass.letters ≡ asked_in passed.letters
      → TellsLine setup first (Read number limit) passed pass before after
  line_read_tells first same asked = subst (λ (bs : List Buffer). TellsLine setup bs (Read number limit) passed pass before after) same (record {
    here = known.before;
    goes = known.goes;
    reads = known.history
        ∙ ap (λ (es : List model.Event). known.before ++ es)
        (same_reads setup core.buffers.items (buffers_after (first_of setup core) known.before) number limit known.buffers);
    requests = omega (arith, asked);
    tells = taken_more;
  })

-- behind the lock, where no write failed
pub locked_tells : {S : Type 0} (setup : Setup) (core : ServiceCore S) (number limit : ℕ) (old new passed pass : ServiceView) (before after : Intake) (first : List Buffer)
    → first_of setup core ≡ first → (result : Result ℕ WriteFault) → IfOk result (λ delivered. ReadsAll setup core number limit delivered (read_moment old before) (read_moment new after))
    → ((events : List model.Event) → NotesReads setup core events old new → PassReads setup core events passed pass)
    → asked_in pass.letters ≡ asked_in passed.letters → IfOk result (λ _. TellsLine setup first (Read number limit) passed pass before after)
locked_tells setup core number limit old new passed pass before after first same (Ok delivered) reads passes asked =
    line_read_tells setup core number limit delivered old new passed pass before after reads passes first same asked
locked_tells setup core number limit old new passed pass before after first same (Err fault) reads passes asked = tt

-- ---- where a write failed

some_read : (firsts : List model.Event) (event : model.Event) → firsts ++ event ∷ [] ≡ [] → ⊥
some_read firsts event none =
    let long = ap (λ (es : List model.Event). length es) none in
    let both = length-append firsts (event ∷ []) in
    omega (arith, long, both)

-- the reads went as far as the record whose write failed, behind any history that leads to what the buffers held
unfoldable pub reads_up_to : {S : Type 0} (setup : Setup) (core : ServiceCore S) (number shown limit : ℕ) (old new : ServiceView) (before after : Intake)
    (fails : FailsAmong setup core number limit (read_moment old before) (read_moment new after)) (first : List Buffer) (here stopped : List model.Event) → number ≡ shown
    → core.buffers.items ≡ buffers_after first here → stopped ≡ here ++ (fails.firsts ++ model.Read fails.sequence fails.count ∷ [])
    → ReadsUpTo setup first (Read shown limit) here stopped fails.fails.failed
reads_up_to setup core number shown limit old new before after fails first here stopped same held is =
    let buffers : buffers_after core.buffers.items fails.firsts ≡ buffers_after first (here ++ fails.firsts) =
    ap (λ (bs : List Buffer). buffers_after bs fails.firsts) held ∙ sym (buffers_append first here fails.firsts) in
    record {
      firsts = fails.firsts;
      sequence = fails.sequence;
      left = fails.left;
      count = fails.count;
      others = fails.others;
      cut = ap (λ (n : ℕ). reads_in setup (buffers_after first here) n limit) (sym same)
          ∙ ap (λ (bs : List Buffer). reads_in setup bs number limit) (sym held) ∙ fails.cut;
      history = is;
      later = fails.fails.later;
      due = subst (λ (bs : List Buffer). records_at bs (model.Read fails.sequence fails.left)
          ≡ records_at bs (model.Read fails.sequence fails.count) ++ fails.fails.failed ∷ fails.fails.later) buffers fails.fails.due;
      many = subst (λ (bs : List Buffer). length (records_at bs (model.Read fails.sequence fails.count)) ≡ fails.count) buffers fails.fails.many;
    }

module _ {S : Type 0} (setup : Setup) (core : ServiceCore S) (number limit : ℕ) (old new passed pass : ServiceView) (before after : Intake)
    (fails : FailsAmong setup core number limit (read_moment old before) (read_moment new after))
    (passes : (events : List model.Event) → NotesReads setup core events old new → PassReads setup core events passed pass) where
  pub some_known : PassReads setup core (fails.firsts ++ model.Read fails.sequence fails.count ∷ []) passed pass
  some_known = passes (fails.firsts ++ model.Read fails.sequence fails.count ∷ []) fails.notes

  held : core.buffers.items ≡ buffers_after (first_of setup core) some_known.before
  held = elim some_known.buffers [ inl none ↦ absurd (some_read fails.firsts (model.Read fails.sequence fails.count) none) | inr is ↦ is ]

  pub taken_up_to : TellsUpTo (first_of setup core) passed pass fails.fails.failed before after
  taken_up_to =
      let items = core.buffers.items in
      let event = model.Read fails.sequence fails.count in
      let wrote = records_after items fails.firsts in
      let whole = records_at (buffers_after items fails.firsts) event in
      let more : wrote ++ whole ≡ records_after items (fails.firsts ++ event ∷ []) =
      ap (λ (ds : List Delivered). wrote ++ ds) (sym (append-nil whole)) ∙ sym (records_append items fails.firsts (event ∷ [])) in
      record {
        more = records_after items (fails.firsts ++ event ∷ []);
        records = some_known.records;
        part = subst (λ (intake : Intake). TakesPart intake after fails.fails.failed.bytes)
            (after_told_again before (trace_of wrote) (trace_of whole)
            ∙ ap (after_told before) (sym (trace_append wrote whole))
            ∙ ap (λ (ds : List Delivered). after_told before (trace_of ds)) more)
            fails.fails.part;
      }

  -- what the pass knows more are the reads that were done
  abbrev pub since : List model.Event
  since = some_known.goes.others ++ (fails.firsts ++ model.Read fails.sequence fails.count ∷ [])

  pub since_goes : history_of pass ≡ history_of passed ++ (some_known.goes.others ++ (fails.firsts ++ model.Read fails.sequence fails.count ∷ []))
  since_goes =
      let events = fails.firsts ++ model.Read fails.sequence fails.count ∷ [] in
      some_known.history
      ∙ ap (λ (es : List model.Event). es ++ events) some_known.goes.goes ∙ append_assoc (history_of passed) some_known.goes.others events

  pub since_noted : flat_map noted_read (some_known.goes.others ++ (fails.firsts ++ model.Read fails.sequence fails.count ∷ []))
      ≡ flat_map noted_read (fails.firsts ++ model.Read fails.sequence fails.count ∷ [])
  since_noted =
      let events = fails.firsts ++ model.Read fails.sequence fails.count ∷ [] in
      flat_map-append noted_read some_known.goes.others events
      ∙ ap (λ (notes : List Noted). notes ++ flat_map noted_read events) some_known.goes.unread

  pub line_read_fails : (first : List Buffer) → first_of setup core ≡ first
      → FailsLine setup first (Read number limit) passed pass before after
  line_read_fails first same =
      subst (λ (bs : List Buffer). FailsLine setup bs (Read number limit) passed pass before after) same (record {
        next = fails.fails.failed;
        here = some_known.before;
        goes = some_known.goes;
        reads = reads_up_to setup core number number limit old new before after fails (first_of setup core) some_known.before (history_of pass) refl held
            some_known.history;
        tells = taken_up_to;
      })

-- behind the lock
pub locked_fails : {S : Type 0} (setup : Setup) (core : ServiceCore S) (number limit : ℕ) (old new passed pass : ServiceView) (before after : Intake) (first : List Buffer)
    → first_of setup core ≡ first → (result : Result ℕ WriteFault) → OnErr result (FailsAmong setup core number limit (read_moment old before) (read_moment new after))
    → ((events : List model.Event) → NotesReads setup core events old new → PassReads setup core events passed pass)
    → OnErr result (FailsLine setup first (Read number limit) passed pass before after)
locked_fails setup core number limit old new passed pass before after first same (Ok delivered) fails passes = tt
locked_fails setup core number limit old new passed pass before after first same (Err fault) fails passes =
    line_read_fails setup core number limit old new passed pass before after fails passes first same

-- behind records that the sink had taken
pub up_to_behind : (first : List Buffer) (old mid new : ServiceView) (next : Delivered) (before between after : Intake)
    → TellsMore first old mid before between → TellsUpTo first mid new next between after → TellsUpTo first old new next before after
up_to_behind first old mid new next before between after was at = record {
  more = was.more ++ at.more;
  records = at.records ∙ ap (λ (ds : List Delivered). ds ++ at.more) was.records ∙ append_assoc (records_after first (history_of old)) was.more at.more;
  part = subst (λ (intake : Intake). TakesPart intake after next.bytes)
      (ap (λ (intake : Intake). after_told intake (trace_of at.more)) was.taken
      ∙ after_told_again before (trace_of was.more) (trace_of at.more)
      ∙ ap (after_told before) (sym (trace_append was.more at.more)))
      at.part;
}

-- behind lines that were done
pub fails_behind : (setup : Setup) (first : List Buffer) (done : List NumberedLine) (line : NumberedLine) (later : List NumberedLine) (old mid new : ServiceView)
    (before between after : Intake) → TellsLines setup first done old mid before between
    → FailsLine setup first line.what mid new between after → FailsLines setup first (done ++ line ∷ later) old new before after
fails_behind setup first done line later old mid new before between after tells one = record {
  next = one.next;
  reads = record {
    done = done;
    line = line;
    later = later;
    all = refl;
    here = one.here;
    reads = reads_further setup first done (history_of old) (history_of mid) one.here tells.reads one.goes;
    ends = one.reads;
  };
  tells = up_to_behind first old mid new one.next before between after tells.tells one.tells;
}

-- ---- a line that is no read tells nothing
line_tells : (setup : Setup) (first : List Buffer) (line : LineKind) (view : ServiceView) (taken : Intake) → ((buffers : List Buffer) → reads_by setup buffers line ≡ [])
    → request_count line ≡ 0 → TellsLine setup first line view view taken taken
line_tells setup first line view taken none asks = record {
  here = history_of view;
  goes = unread_none (history_of view);
  reads = sym (append-nil (history_of view)) ∙ ap (λ (es : List model.Event). history_of view ++ es) (sym (none (buffers_after first (history_of view))));
  requests = omega (arith, asks);
  tells = tells_nothing first view taken;
}

none_read : (setup : Setup) (line : LineKind) → ((buffer limit : ℕ) → line ≡ Read buffer limit → ⊥) → (buffers : List Buffer) → reads_by setup buffers line ≡ []
none_read setup (Packet writer fields) not buffers = refl
none_read setup (Begin writer) not buffers = refl
none_read setup (Add writer fields) not buffers = refl
none_read setup (Nest writer field) not buffers = refl
none_read setup (Unnest writer) not buffers = refl
none_read setup (End writer) not buffers = refl
none_read setup (Flush writer) not buffers = refl
none_read setup (Collect producer) not buffers = refl
none_read setup (Scrape producer) not buffers = refl
none_read setup (Close producer) not buffers = refl
none_read setup (Read buffer limit) not buffers = absurd (not buffer limit refl)
none_read setup Request not buffers = refl
none_read setup (CloneBuffer buffer) not buffers = refl
none_read setup (Raw writer chunk) not buffers = refl

pub unread_tells : (setup : Setup) (first : List Buffer) (line : LineKind) (view : ServiceView) (taken : Intake)
    → ((buffer limit : ℕ) → line ≡ Read buffer limit → ⊥) → (line ≡ Request → ⊥) → TellsLine setup first line view view taken taken
unread_tells setup first line view taken not apart = line_tells setup first line view taken (none_read setup line not) (none_requested line apart)

pub collect_tells : (setup : Setup) (first : List Buffer) (line : LineKind) (producer : ℕ) (view : ServiceView) (taken : Intake) → line ≡ Collect producer
    → TellsLine setup first line view view taken taken
collect_tells setup first line producer view taken is =
    line_tells setup first line view taken (λ buffers. ap (λ (l : LineKind). reads_by setup buffers l) is) (ap request_count is)

pub scrape_tells : (setup : Setup) (first : List Buffer) (line : LineKind) (producer : ℕ) (view : ServiceView) (taken : Intake) → line ≡ Scrape producer
    → TellsLine setup first line view view taken taken
scrape_tells setup first line producer view taken is =
    line_tells setup first line view taken (λ buffers. ap (λ (l : LineKind). reads_by setup buffers l) is) (ap request_count is)

-- ---- a flush request with the pass, which knows all that was noted by then
pub request_tells : {S : Type 0} (setup : Setup) (core : ServiceCore S) (first : List Buffer) (passed pass : ServiceView) (taken : Intake) → first_of setup core ≡ first
    → PassReads setup core [] passed pass → asked_in pass.letters ≡ asked_in passed.letters + 1 → TellsLine setup first Request passed pass taken taken
request_tells setup core first passed pass taken same passes asked =
    subst (λ (bs : List Buffer). TellsLine setup bs Request passed pass taken taken) same (record {
      here = passes.before;
      goes = passes.goes;
      reads = passes.history;
      requests = asked;
      tells = record { more = []; records = passes.records; taken = sym (after_told_nothing taken) };
    })

-- ---- a sink hands its bytes on as before, whatever it took

pub loans_kept : (before after : Intake) (bytes : List ℕ) → after ≡ after_told before bytes → KeepsLoans before after
loans_kept (told taken loans) after bytes is = ap loans_of is
loans_kept (untold loans) after bytes is = ap loans_of is
