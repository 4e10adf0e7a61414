-- What the end of a run leaves of what the service knew before, and what is read there.
use Rattle.std.proofs.Common.{◌≡◌, ◌∙◌, ℕ, zero, suc, ◌-◌, ◌≤◌, List, [], ◌∷◌, ◌++◌, length, refl, sym, ap, subst, append_assoc, append-nil, arith}
use Rattle.std.specs.List.{All, flat_map}
use Rattle.std.proofs.lemmas.List.{append_cancel_right}
use Rattle.std.proofs.lemmas.List.Concat.{flat_map-append}
use Rattle.std.proofs.lemmas.List.Elements.{All-nil, All-cons, All-append, All-head, All-tail}
use Rattle.byte_io.specs.Bytes.{Intake}
use Rattle.trace_model.specs.Buffers.{Buffer}
use Rattle.trace_model.specs.Counts.{last_count}
use Rattle.trace_model.specs.Delivery.{Delivered}
use Rattle.trace_model.specs.History as model
use Rattle.trace_model.specs.History.{buffers_after, reads_of}
use Rattle.chunk_plain.specs.Histories.{history_of}
use Rattle.chunk_plain.specs.Setup.{Setup}
use Rattle.chunk_plain.specs.Views.{Noted, ServiceView, taken_of}
use Rattle.service_core.specs.declared.service.ServiceCore.{ServiceCore}
use Rattle.service_core.specs.Agreement.{first_of}
use Rattle.service_core.specs.Reading.{NotesReads, ReadsAll, noted_read, reads_in, sequences_to, read_moment}
use Rattle.service_core.specs.Routing.{buffer_at}
use Rattle.service_core.specs.Taking.{Takes, places_of, noted_more}
use Rattle.service_core.proofs.QuietLemmas.{places_below, long_still}
use Rattle.service_core.proofs.RoomLemmas.{takes_grow}
use Rattle.service_core.proofs.AnswerLemmas.{takes_own}
use Rattle.run_model.specs.Settled.{ClosesTo, ReadsTo}
use Rattle.run_model.specs.Stopped.{ReadsSomeTo}
use Rattle.thread_service.specs.Reading.{GoesUnread, PassReads}
use Rattle.thread_host.specs.Finishing.{ReadsOut}
use Rattle.thread_host.specs.Jobs.{TellsReads}
use Rattle.thread_host.proofs.Ordered.{takes_letters}
use Rattle.thread_host.proofs.Telling.{none_tells, tells_both, read_tells}

-- ---- no count falls

takes_long : (setup : Setup) (places : List ℕ) (taken : ℕ) (old new : ServiceView) → Takes setup places taken old new → length new.taken ≡ length old.taken
takes_long setup [] taken old new takes = ap (λ (v : ServiceView). length v.taken) takes.1
takes_long setup (place ∷ places) taken old new takes =
    takes_long setup places takes.1 takes.2 new takes.5 ∙ long_still setup place takes.0 old takes.2 takes.4

-- ---- all producers are closed

pub closes_long : (setup : Setup) (number : ℕ) (old new : ServiceView) → ClosesTo setup number old new → length new.taken ≡ length old.taken
closes_long setup zero old new closes = ap (λ (v : ServiceView). length v.taken) closes
closes_long setup (suc number) old new closes =
    let last = closes.3 in
    ap (λ (v : ServiceView). length v.taken) last.view
    ∙ takes_long setup (places_of (suc number) 0 setup.writers) closes.1 closes.0 last.between last.takes ∙ closes_long setup number old closes.0 closes.2

pub closes_own : (setup : Setup) (number : ℕ) (old new : ServiceView) → ClosesTo setup number old new → new.commits ≡ old.commits
closes_own setup zero old new closes = ap (λ (v : ServiceView). v.commits) closes
closes_own setup (suc number) old new closes =
    let last = closes.3 in
    ap (λ (v : ServiceView). v.commits) last.view
    ∙ takes_own setup (places_of (suc number) 0 setup.writers) closes.1 closes.0 last.between last.takes ∙ closes_own setup number old closes.0 closes.2

-- no flush request is made, and no answer read
pub closes_letters : (setup : Setup) (number : ℕ) (old new : ServiceView) → ClosesTo setup number old new → new.letters ≡ old.letters
closes_letters setup zero old new closes = ap (λ (v : ServiceView). v.letters) closes
closes_letters setup (suc number) old new closes =
    let last = closes.3 in
    ap (λ (v : ServiceView). v.letters) last.view
    ∙ takes_letters setup (places_of (suc number) 0 setup.writers) closes.1 closes.0 last.between last.takes ∙ closes_letters setup number old closes.0 closes.2

pub reads_letters : (setup : Setup) (first : List Buffer) (number : ℕ) (reads : List model.Event) (old new : ServiceView) → ReadsTo setup first number reads old new
    → new.letters ≡ old.letters
reads_letters setup first zero reads old new is = ap (λ (v : ServiceView). v.letters) is.1
reads_letters setup first (suc number) reads old new is =
    ap (λ (v : ServiceView). v.letters) is.3.1 ∙ reads_letters setup first number is.1 old is.0 is.2

pub closes_rise : (setup : Setup) (number : ℕ) (old new : ServiceView) → length old.taken ≡ length setup.writers → ClosesTo setup number old new
    → (place : ℕ) → (taken_of old place).count ≤ (taken_of new place).count
closes_rise setup zero old new many closes place =
    let same : (taken_of new place).count ≡ (taken_of old place).count = ap (λ (v : ServiceView). (taken_of v place).count) closes in omega (arith, same)
closes_rise setup (suc number) old new many closes place =
    let last = closes.3 in
    let before = closes_rise setup number old closes.0 many closes.2 place in
    let long = closes_long setup number old closes.0 closes.2 in
    let rises = takes_grow setup (places_of (suc number) 0 setup.writers) closes.1 closes.0 last.between
    (places_below (suc number) 0 setup.writers (length closes.0.taken) (omega (arith, long, many))) last.takes place in
    let same : (taken_of new place).count ≡ (taken_of last.between place).count = ap (λ (v : ServiceView). (taken_of v place).count) last.view in
    omega (arith, before, rises, same)

-- ---- all buffers are read

pub reads_taken : (setup : Setup) (first : List Buffer) (number : ℕ) (reads : List model.Event) (old new : ServiceView) → ReadsTo setup first number reads old new
    → new.taken ≡ old.taken
reads_taken setup first zero reads old new is = ap (λ (v : ServiceView). v.taken) is.1
reads_taken setup first (suc number) reads old new is =
    ap (λ (v : ServiceView). v.taken) is.3.1 ∙ reads_taken setup first number is.1 old is.0 is.2

pub reads_own : (setup : Setup) (first : List Buffer) (number : ℕ) (reads : List model.Event) (old new : ServiceView) → ReadsTo setup first number reads old new
    → new.commits ≡ old.commits
reads_own setup first zero reads old new is = ap (λ (v : ServiceView). v.commits) is.1
reads_own setup first (suc number) reads old new is =
    ap (λ (v : ServiceView). v.commits) is.3.1 ∙ reads_own setup first number is.1 old is.0 is.2

-- an event that is noted as a read
abbrev pub IsNotedRead : model.Event → Type 0
IsNotedRead event = noted_read event ≡ [] → ⊥

all_noted : (sequences : List ℕ) (limit : ℕ) (buffer : Buffer) → All IsNotedRead (reads_of limit buffer sequences)
all_noted [] limit buffer = All-nil IsNotedRead
all_noted (sequence ∷ sequences) limit buffer =
    All-cons IsNotedRead (model.Read sequence limit) (reads_of _ _ sequences)
    (λ none. let long = ap (λ (notes : List Noted). length notes) none in absurd (omega (arith, long)))
    (all_noted sequences _ _)

pub reads_noted : (setup : Setup) (first : List Buffer) (number : ℕ) (reads : List model.Event) (old new : ServiceView) → ReadsTo setup first number reads old new
    → All IsNotedRead reads
reads_noted setup first zero reads old new is = subst (λ (es : List model.Event). All IsNotedRead es) (sym is.0) (All-nil IsNotedRead)
reads_noted setup first (suc number) reads old new is =
    let here = reads_in setup (buffers_after first (history_of is.0)) (suc number) last_count in
    subst (λ (es : List model.Event). All IsNotedRead es) (sym is.3.0)
    (All-append IsNotedRead is.1 here (reads_noted setup first number is.1 old is.0 is.2)
    (all_noted (sequences_to (suc number) 0 setup.writers) last_count (buffer_at (buffers_after first (history_of is.0)) (suc number - 1))))

all_before : (reads others : List model.Event) → All IsNotedRead (reads ++ others) → All IsNotedRead reads
all_before [] others all = All-nil IsNotedRead
all_before (event ∷ reads) others all = All-cons IsNotedRead event reads (All-head IsNotedRead event (reads ++ others) all)
    (all_before reads others (All-tail IsNotedRead event (reads ++ others) all))

-- those that went as far as a record too
pub some_noted : (setup : Setup) (first : List Buffer) (number : ℕ) (old new : ServiceView) (next : Delivered) (some : ReadsSomeTo setup first number old new next)
    → All IsNotedRead (some.earlier ++ (some.ends.firsts ++ model.Read some.ends.sequence some.ends.count ∷ []))
some_noted setup first number old new next some =
    let ends = some.ends in
    let here = buffers_after first (history_of some.between) in
    let whole : All IsNotedRead (ends.firsts ++ model.Read ends.sequence ends.left ∷ ends.others) =
    subst (λ (es : List model.Event). All IsNotedRead es) ends.cut
    (all_noted (sequences_to (suc some.read) 0 setup.writers) last_count (buffer_at here (suc some.read - 1))) in
    All-append IsNotedRead some.earlier (ends.firsts ++ model.Read ends.sequence ends.count ∷ [])
    (reads_noted setup first some.read some.earlier old some.between some.reads)
    (All-append IsNotedRead ends.firsts (model.Read ends.sequence ends.count ∷ [])
    (all_before ends.firsts (model.Read ends.sequence ends.left ∷ ends.others) whole)
    (All-cons IsNotedRead (model.Read ends.sequence ends.count) []
    (λ none. let long = ap (λ (notes : List Noted). length notes) none in absurd (omega (arith, long)))
    (All-nil IsNotedRead)))

abbrev tail_of : List model.Event → List model.Event
tail_of [] = []
tail_of (event ∷ events) = events

abbrev head_or : model.Event → List model.Event → model.Event
head_or other [] = other
head_or other (event ∷ events) = event

-- Two fronts of one history: where the same reads come behind both, and nothing else behind the second one, the first one goes on to the second one
-- without a read.
pub unread_front : (one behind other reads : List model.Event) → one ++ behind ≡ other ++ reads → All IsNotedRead reads
    → flat_map noted_read behind ≡ flat_map noted_read reads → GoesUnread one other
unread_front [] behind other reads same all noted = record {
  others = other;
  goes = refl;
  unread = append_cancel_right (flat_map noted_read other) [] (flat_map noted_read reads)
      (sym (flat_map-append noted_read other reads) ∙ ap (λ (es : List model.Event). flat_map noted_read es) (sym same) ∙ noted);
}
unread_front (event ∷ one) behind [] reads same all noted =
    let front : List Noted = flat_map noted_read (event ∷ one) in
    let none : front ≡ [] = append_cancel_right front [] (flat_map noted_read behind)
    (sym (flat_map-append noted_read (event ∷ one) behind) ∙ ap (λ (es : List model.Event). flat_map noted_read es) same ∙ sym noted) in
    let first : IsNotedRead event = All-head IsNotedRead event (one ++ behind) (subst (λ (es : List model.Event). All IsNotedRead es) (sym same) all) in
    absurd (first (none_before (noted_read event) (flat_map noted_read one) none))
  where
    none_before : (xs ys : List Noted) → xs ++ ys ≡ [] → xs ≡ []
    none_before [] ys none = refl
    none_before (x ∷ xs) ys none = let long = ap (λ (notes : List Noted). length notes) none in absurd (omega (arith, long))
unread_front (event ∷ one) behind (next ∷ other) reads same all noted =
    let rest = unread_front one behind other reads (ap tail_of same) all noted in
    record {
      others = rest.others;
      goes = ap (λ (e : model.Event). e ∷ other) (sym (ap (head_or event) same)) ∙ ap (λ (es : List model.Event). event ∷ es) rest.goes;
      unread = rest.unread;
    }

-- nothing was read between what the pass knew and these reads of the service, where the pass knows nothing more than them
pub none_between : (passed pass old new : ServiceView) (since last : List model.Event) → history_of new ≡ history_of old ++ last
    → history_of pass ≡ history_of passed ++ since → flat_map noted_read since ≡ flat_map noted_read last → All IsNotedRead last
    → GoesUnread (history_of pass) (history_of new) → GoesUnread (history_of passed) (history_of old)
none_between passed pass old new since last history goes noted all behind =
    unread_front (history_of passed) (since ++ behind.others) (history_of old) last
    (sym (append_assoc (history_of passed) since behind.others)
    ∙ ap (λ (es : List model.Event). es ++ behind.others) (sym goes)
    ∙ sym behind.goes ∙ history)
    all
    (flat_map-append noted_read since behind.others
    ∙ ap (λ (notes : List Noted). flat_map noted_read since ++ notes) behind.unread
    ∙ append-nil (flat_map noted_read since) ∙ noted)

-- none is read yet
pub out_none : (setup : Setup) (first : List Buffer) (view pass : ServiceView) (taken : Intake) → ReadsOut setup first zero view view pass pass taken taken
out_none setup first view pass taken = record { last = []; reads = (refl, refl); history = sym (append-nil (history_of view)); tells = none_tells first pass taken }

-- the reading of one more
pub out_more : {S : Type 0} (setup : Setup) (core : ServiceCore S) (first : List Buffer) (index number delivered : ℕ) (start old new passed between pass : ServiceView)
    (before mid after : Intake) → number ≡ suc index → first_of setup core ≡ first
    → core.buffers.items ≡ buffers_after (first_of setup core) (history_of old)
    → ReadsOut setup first index start old passed between before mid → ReadsAll setup core number last_count delivered (read_moment old mid) (read_moment new after)
    → ((events : List model.Event) → NotesReads setup core events old new → PassReads setup core events between pass)
    → ReadsOut setup first number start new passed pass before after
out_more setup core first index number delivered start old new passed between pass before mid after next same buffers some reads passes =
    let here : List model.Event = reads_in setup core.buffers.items number last_count in
    let told = read_tells setup core number last_count delivered old new between pass mid after reads passes in
    let is : core.buffers.items ≡ buffers_after first (history_of old) = buffers ∙ ap (λ (bs : List Buffer). buffers_after bs (history_of old)) same in
    let here_is : here ≡ reads_in setup (buffers_after first (history_of old)) (suc index) last_count =
    ap (λ (bs : List Buffer). reads_in setup bs number last_count) is
    ∙ ap (λ (n : ℕ). reads_in setup (buffers_after first (history_of old)) n last_count) next in
    let done : ReadsTo setup first (suc index) (some.last ++ here) start new = (
      old,
      some.last,
      some.reads,
      (
        ap (λ (es : List model.Event). some.last ++ es) here_is,
        reads.notes.view ∙ ap (λ (es : List model.Event). noted_more old (flat_map noted_read es)) here_is,
      ),
    ) in
    record {
      last = some.last ++ here;
      reads = subst (λ (n : ℕ). ReadsTo setup first n (some.last ++ here) start new) (sym next) done;
      history = reads.notes.history
          ∙ ap (λ (es : List model.Event). es ++ here) some.history
          ∙ append_assoc (history_of start) some.last here;
      tells = tells_both first some.last here passed between pass before mid after some.tells
          (subst (λ (bs : List Buffer). TellsReads bs here between pass mid after) same told);
    }
