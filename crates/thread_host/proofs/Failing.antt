-- A write that failed in the reads of the end of a run.
use Rattle.std.proofs.Common.{◌≡◌, ◌∙◌, ℕ, suc, ◌<◌, List, [], ◌∷◌, ◌++◌, refl, sym, ap, subst, append_assoc}
use Rattle.std.specs.List.{flat_map}
use Rattle.std.proofs.lemmas.List.Concat.{flat_map-append}
use Rattle.byte_io.specs.Bytes.{Intake}
use Rattle.trace_model.specs.Buffers.{Buffer}
use Rattle.trace_model.specs.Counts.{last_count}
use Rattle.trace_model.specs.History as model
use Rattle.trace_model.specs.History.{buffers_after}
use Rattle.chunk_plain.specs.Histories.{history_of}
use Rattle.chunk_plain.specs.Setup.{Setup}
use Rattle.chunk_plain.specs.Views.{Noted, ServiceView}
use Rattle.service_core.specs.declared.service.ServiceCore.{ServiceCore}
use Rattle.service_core.specs.Agreement.{first_of}
use Rattle.service_core.specs.Reading.{FailsAmong, NotesReads, noted_read, read_moment}
use Rattle.thread_service.specs.Reading.{PassReads}
use Rattle.thread_host.specs.Finishing.{FailsOut, ReadsOut}
use Rattle.thread_host.specs.Jobs.{TellsUpTo}
use Rattle.thread_host.proofs.Telling.{reads_up_to, since, since_goes, since_noted, taken_up_to, up_to_behind}

-- one failed in the reading of the next buffer
pub out_fails : {S : Type 0} (setup : Setup) (core : ServiceCore S) (first : List Buffer) (index number count : ℕ) (start old new passed between pass : ServiceView)
    (before mid after : Intake) → number ≡ suc index → index < count → first_of setup core ≡ first
    → core.buffers.items ≡ buffers_after (first_of setup core) (history_of old)
    → ReadsOut setup first index start old passed between before mid → (fails : FailsAmong setup core number last_count (read_moment old mid) (read_moment new after))
    → ((events : List model.Event) → NotesReads setup core events old new → PassReads setup core events between pass)
    → FailsOut setup first count start new passed pass before after
unfolding reads_up_to
out_fails setup core first index number count start old new passed between pass before mid after next below same buffers some fails passes =
    let here : List model.Event = fails.firsts ++ model.Read fails.sequence fails.count ∷ [] in
    let held : core.buffers.items ≡ buffers_after first (history_of old) = buffers ∙ ap (λ (bs : List Buffer). buffers_after bs (history_of old)) same in
    let mine : List model.Event = since setup core number last_count old new between pass mid after fails passes in
    let failed = fails.fails.failed in
    record {
      next = failed;
      reads = record {
        read = index;
        fewer = below;
        earlier = some.last;
        between = old;
        reads = some.reads;
        ends = reads_up_to setup core number (suc index) last_count old new mid after fails first (history_of old) (history_of new) next held
            fails.notes.history;
        view = fails.notes.view;
      };
      last = some.last ++ here;
      last_is = refl;
      history = fails.notes.history ∙ ap (λ (es : List model.Event). es ++ here) some.history ∙ append_assoc (history_of start) some.last here;
      since = some.tells.since ++ mine;
      goes = since_goes setup core number last_count old new between pass mid after fails passes
          ∙ ap (λ (es : List model.Event). es ++ mine) some.tells.history
          ∙ append_assoc (history_of passed) some.tells.since mine;
      noted = flat_map-append noted_read some.tells.since mine
          ∙ ap (λ (notes : List Noted). notes ++ flat_map noted_read mine) some.tells.reads
          ∙ ap (λ (notes : List Noted). flat_map noted_read some.last ++ notes)
          (since_noted setup core number last_count old new between pass mid after fails passes)
          ∙ sym (flat_map-append noted_read some.last here);
      tells = up_to_behind first passed between pass failed before mid after some.tells.tells
          (subst (λ (bs : List Buffer). TellsUpTo bs between pass failed mid after) same
          (taken_up_to setup core number last_count old new between pass mid after fails passes));
    }
