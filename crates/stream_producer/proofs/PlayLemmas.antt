-- Frames that are played one after another.
use Rattle.std.proofs.Common.{◌≡◌, ℕ, ◌+◌, List, [], ◌∷◌, ◌++◌, refl, sym, ap, ◌∙◌, append_assoc, add_assoc, arith}
use Rattle.std.proofs.lemmas.List.{append-nil}
use Rattle.byte_io.specs.Bytes.{Intake, after_told, TakesPart}
use Rattle.byte_io.proofs.Told.{after_told_again, after_told_nothing, part_second}
use Rattle.trace_model.specs.Buffers.{Buffer}
use Rattle.trace_model.specs.Counts.{raised}
use Rattle.trace_model.proofs.CountedLemmas.{raised-none, raised-raised}
use Rattle.trace_model.specs.Delivery.{trace_of}
use Rattle.trace_model.specs.History.{Event, buffers_after, records_after}
use Rattle.chunk_plain.specs.Histories.{history_of}
use Rattle.chunk_plain.specs.Meaning.{Meaning}
use Rattle.chunk_plain.specs.Setup.{Setup}
use Rattle.service_core.proofs.ReadingLemmas.{records_append, trace_append}
use Rattle.service_core.proofs.RouteLemmas.{buffers_append, buffers_none}
use Rattle.stream_frames.specs.Frames as frames
use Rattle.stream_frames.specs.Frames.{Frame, Limits}
use Rattle.stream_producer.specs.declared.player.Player.{Player}
use Rattle.stream_producer.specs.History.{frame_events, played, is_commit, is_refused, commits_in, refused_in}
use Rattle.stream_producer.specs.Standing.{Stands, Plays, events_for, due_of, view_of}
use Rattle.trace_model.specs.Counts.{one_if}

module _ (setup : Setup) (limits : Limits) where
  pub played_append : (bs : List Buffer) (a b : List Frame)
      → played setup limits bs (a ++ b) ≡ played setup limits bs a ++ played setup limits (buffers_after bs (played setup limits bs a)) b
  played_append bs [] b = ap (λ (buffers : List Buffer). played setup limits buffers b) (sym (buffers_none bs))
  played_append bs (frame ∷ a) b =
      let events = frame_events setup limits bs frame in
      let next = buffers_after bs events in
      ap (λ (rest : List Event). events ++ rest) (played_append next a b)
      ∙ sym (append_assoc events (played setup limits next a) (played setup limits (buffers_after next (played setup limits next a)) b))
      ∙ ap (λ (buffers : List Buffer). (events ++ played setup limits next a) ++ played setup limits buffers b)
      (sym (buffers_append bs events (played setup limits next a)))

  pub refused_append : (bs : List Buffer) (a b : List Frame)
      → refused_in setup limits bs (a ++ b) ≡ refused_in setup limits bs a
      + refused_in setup limits (buffers_after bs (played setup limits bs a)) b
  refused_append bs [] b =
      ap (λ (buffers : List Buffer). refused_in setup limits buffers b) (sym (buffers_none bs)) ∙ omega arith
  refused_append bs (frame ∷ a) b =
      let events = frame_events setup limits bs frame in
      let next = buffers_after bs events in
      ap (λ (n : ℕ). one_if (is_refused setup limits bs frame) + n) (refused_append next a b)
      ∙ sym (add_assoc (one_if (is_refused setup limits bs frame)) (refused_in setup limits next a)
      (refused_in setup limits (buffers_after next (played setup limits next a)) b))
      ∙ ap (λ (buffers : List Buffer). (one_if (is_refused setup limits bs frame) + refused_in setup limits next a)
      + refused_in setup limits buffers b) (sym (buffers_append bs events (played setup limits next a)))

pub commits_append : (a b : List Frame) → commits_in (a ++ b) ≡ commits_in a + commits_in b
commits_append [] b = omega arith
commits_append (frame ∷ a) b =
    ap (λ (n : ℕ). one_if (is_commit frame) + n) (commits_append a b)
    ∙ sym (add_assoc (one_if (is_commit frame)) (commits_in a) (commits_in b))

module _ {T W S : Type 0} (means : Meaning T W S) (limits : Limits) where
  -- no frames play nothing
  pub plays_none : (player : Player T S) (taken : Intake) → Stands means player → Plays means limits [] player player taken taken
  plays_none player taken stands = record {
    stands = stands;
    setup_stays = refl;
    first = refl;
    history = sym (append-nil (history_of (view_of means player)));
    buffers = sym (buffers_none player.service.buffers.items);
    taken = sym (after_told_nothing taken);
    commits = sym (raised-none player.commits);
    refused = sym (raised-none player.refused);
  }

  -- nor does a close by itself
  pub plays_close : (player : Player T S) (taken : Intake) → Stands means player
      → Plays means limits (frames.Closes ∷ []) player player taken taken
  plays_close player taken stands = record {
    stands = stands;
    setup_stays = refl;
    first = refl;
    history = sym (append-nil (history_of (view_of means player)));
    buffers = sym (buffers_none player.service.buffers.items);
    taken = sym (after_told_nothing taken);
    commits = sym (raised-none player.commits);
    refused = sym (raised-none player.refused);
  }

  -- what is due of more frames
  pub due_append : (a b : List Frame) (old mid : Player T S) (x y : Intake) → Plays means limits a old mid x y
      → due_of means limits old (a ++ b) ≡ due_of means limits old a ++ due_of means limits mid b
  due_append a b old mid x y plays =
      let setup = means.setup old.table in
      let bs = old.service.buffers.items in
      ap (λ (events : List Event). trace_of (records_after bs events)) (played_append setup limits bs a b)
      ∙ ap trace_of (records_append bs (played setup limits bs a) (played setup limits (buffers_after bs (played setup limits bs a)) b))
      ∙ trace_append (records_after bs (played setup limits bs a))
      (records_after (buffers_after bs (played setup limits bs a))
      (played setup limits (buffers_after bs (played setup limits bs a)) b))
      ∙ ap (λ (buffers : List Buffer). due_of means limits old a ++ trace_of (records_after buffers (played setup limits buffers b)))
      (sym plays.buffers)
      ∙ ap (λ (s : Setup). due_of means limits old a
      ++ trace_of (records_after mid.service.buffers.items (played s limits mid.service.buffers.items b))) (sym plays.setup_stays)

  -- what more frames give
  pub events_append : (a b : List Frame) (old mid : Player T S) (x y : Intake) → Plays means limits a old mid x y
      → events_for means limits old (a ++ b) ≡ events_for means limits old a ++ events_for means limits mid b
  events_append a b old mid x y plays =
      let setup = means.setup old.table in
      let bs = old.service.buffers.items in
      played_append setup limits bs a b
      ∙ ap (λ (buffers : List Buffer). played setup limits bs a ++ played setup limits buffers b) (sym plays.buffers)
      ∙ ap (λ (s : Setup). played setup limits bs a ++ played s limits mid.service.buffers.items b) (sym plays.setup_stays)

  pub plays_both : (a b : List Frame) (old mid new : Player T S) (x y z : Intake) → Plays means limits a old mid x y
      → Plays means limits b mid new y z
      → Plays means limits (a ++ b) old new x z
  plays_both a b old mid new x y z p q =
      let setup = means.setup old.table in
      let bs = old.service.buffers.items in
      let events = events_append a b old mid x y p in
      record {
        stands = q.stands;
        setup_stays = q.setup_stays ∙ p.setup_stays;
        first = rw p.setup_stays at q.first ∙ p.first;
        history = q.history
            ∙ ap (λ (h : List Event). h ++ events_for means limits mid b) p.history
            ∙ append_assoc (history_of (view_of means old)) (events_for means limits old a) (events_for means limits mid b)
            ∙ ap (λ (h : List Event). history_of (view_of means old) ++ h) (sym events);
        buffers = q.buffers
            ∙ ap (λ (buffers : List Buffer). buffers_after buffers (events_for means limits mid b)) p.buffers
            ∙ sym (buffers_append bs (events_for means limits old a) (events_for means limits mid b))
            ∙ ap (buffers_after bs) (sym events);
        taken = q.taken
            ∙ ap (λ (t : Intake). after_told t (due_of means limits mid b)) p.taken
            ∙ after_told_again x (due_of means limits old a) (due_of means limits mid b)
            ∙ ap (after_told x) (sym (due_append a b old mid x y p));
        commits = q.commits
            ∙ ap (λ (n : ℕ). raised n (commits_in b)) p.commits
            ∙ raised-raised old.commits (commits_in a) (commits_in b)
            ∙ ap (raised old.commits) (sym (commits_append a b));
        refused = q.refused
            ∙ ap (λ (s : Setup). raised mid.refused (refused_in s limits mid.service.buffers.items b)) p.setup_stays
            ∙ ap (λ (buffers : List Buffer). raised mid.refused (refused_in setup limits buffers b)) p.buffers
            ∙ ap (λ (n : ℕ). raised n (refused_in setup limits (buffers_after bs (played setup limits bs a)) b)) p.refused
            ∙ raised-raised old.refused (refused_in setup limits bs a)
            (refused_in setup limits (buffers_after bs (played setup limits bs a)) b)
            ∙ ap (raised old.refused) (sym (refused_append setup limits bs a b));
      }

  -- a part of what is due first, and of what is due behind it
  pub due_first : (a b : List Frame) (old mid : Player T S) (x y z : Intake) → Plays means limits a old mid x y
      → TakesPart y z (due_of means limits mid b) → TakesPart x z (due_of means limits old (a ++ b))
  due_first a b old mid x y z p part =
      rw (due_append a b old mid x y p) (part_second x y z (due_of means limits old a) (due_of means limits mid b) p.taken part)
