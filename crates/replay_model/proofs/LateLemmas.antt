-- A writer that answers behind its packet's end, and writes on, is settled too: what it had completed then is taken by the next collect.
use Rattle.std.proofs.Common.{◌≡◌, ◌∙◌, ℕ, suc, ◌<◌, ◌≤◌, ◌⊎◌, inl, inr, Bool, true, false, List, [], ◌∷◌, ◌++◌, length, refl, sym, ap, subst, arith, append_assoc, append-nil}
use Rattle.std.specs.Prelude.{MatchBool}
use Rattle.std.specs.Coded.{le_prop}
use Rattle.std.proofs.lemmas.Bool.{cases_lt, true≢false}
use Rattle.std.proofs.Math.Logic.{∥∥₁_elim}
use Rattle.trace_model.specs.Buffers.{Buffer}
use Rattle.trace_model.specs.Calls.{Flushed}
use Rattle.trace_model.specs.Counts.{last_count}
use Rattle.trace_model.specs.Enough.{most_chunks}
use Rattle.trace_model.specs.Packets.{Packet, packets_of, is_writing, emissions_in, emissions_of}
use Rattle.model_laws.specs.Losses.{HasShapeOf}
use Rattle.model_laws.proofs.LossLemmas.{losses_change_no_shape}
use Rattle.chunk_plain.specs.declared.tokens.TheConstants.{POSITION_LIMIT}
use Rattle.chunk_plain.specs.Plain.{first_world}
use Rattle.chunk_plain.specs.Setup.{Setup, producer_of, sequence_of}
use Rattle.chunk_plain.specs.Views.{At, Completed, Content, taken_of}
use Rattle.chunk_plain.specs.World.{World, writer}
use Rattle.chunk_plain.specs.Owned.{IsOwned}
use Rattle.chunk_plain.specs.Histories.{completed_images}
use Rattle.chunk_plain.proofs.MadeLemmas.{first_owned}
use Rattle.world_model.specs.Accounts.{NoneCommitted}
use Rattle.world_model.specs.FirstBuffers.{payload_at}
use Rattle.scenario_text.specs.declared.scenario.NumberedLine.{NumberedLine}
use Rattle.scenario_text.specs.declared.scenario.LineKind.{LineKind}
use Rattle.scenario_text.specs.declared.scenario.LineKind.TheVariants as line
use Rattle.scenario_text.specs.Scenario.{Parts}
use Rattle.scenario_text.specs.Accepted.{calls_asked, line_calls}
use Rattle.scenario_text.specs.Limits.{IsSetUp}
use Rattle.scenario_text.specs.Raws.{HasNoRaw}
use Rattle.service_core.specs.Agreement.{spec_at}
use Rattle.replay_model.specs.Acts.{Act, Answer, Collect, ReadAll, asks}
use Rattle.replay_model.specs.Does.{Asks, Collects, Wrote}
use Rattle.replay_model.specs.ActNotes.{ActNote}
use Rattle.replay_model.specs.FlushLaws.{AreFew, known_in, IsFlushRead, HasSettled, EveryLateAnswerIsSettled}
use Rattle.replay_model.specs.Plays.{Plays}
use Rattle.replay_model.specs.Played.{IsSetupOf, buffers_of, records_in}
use Rattle.replay_model.specs.Schedule.{acts_of, acts_from, answers_late, is_due}
use Rattle.replay_model.proofs.EndLemmas.{IsSplit, plays_split, flush_done, own_at}
use Rattle.replay_model.proofs.FlushLemmas.{every_flush_is_settled}
use Rattle.replay_model.proofs.FirstLemmas.{small_payload, first_stands}
use Rattle.replay_model.proofs.LosesLemmas.{lines_lose}
use Rattle.replay_model.proofs.PlayLemmas.{plays_both}
use Rattle.replay_model.proofs.PlayedLemmas.{plays_stand}
use Rattle.replay_model.proofs.PlayedOnLemmas.{flush_packets, flush_calls}
use Rattle.replay_model.proofs.RawLemmas.{lines_committed_none}
use Rattle.replay_model.proofs.RequestLemmas.{lines_split, flushed_few, large, known_few}
use Rattle.replay_model.proofs.ScrapedLemmas.{counted}
use Rattle.replay_model.proofs.StaysLemmas.{completed_at, plays_keeps}

-- ---- a collect behind a flush

-- The taking of its producer takes all that a writer had completed at some time before, whatever it holds by now.
collect_meets : (setup : Setup) (place many : ℕ) (old new : World) → ∥ IsOwned new ∥₁ → place < length setup.writers → Wrote setup place (writer new place)
    → Collects setup (producer_of setup place) old new
    → ((i : ℕ) → i < many → (chunk : ℕ) × (content : Content) × At (writer new place).begun i (Completed chunk content)) → many ≤ POSITION_LIMIT
    → many ≤ (taken_of new.service place).count
collect_meets setup place many old new owned inside wrote collects there few =
    ∥∥₁_elim owned (hlevel le_prop) (λ (is : IsOwned new). by_order is (cases_lt (taken_of new.service place).count many))
  where
    by_order : IsOwned new → ((taken_of new.service place).count < many) ⊎ (many ≤ (taken_of new.service place).count) → many ≤ (taken_of new.service place).count
    by_order is (inr done) = done
    by_order is (inl below) =
        let next = there (taken_of new.service place).count below in
        absurd (collects.none_left place inside refl next.0 next.1
        (own_at setup (producer_of setup place) (writer new place).begun (taken_of new.service place).count next.0 next.1 wrote.claims.own_chunks next.2)
        (omega (arith, below, few))
        ((is.owns place next.0).completed_is (taken_of new.service place).count next.1 next.2 (omega arith)))

-- ---- the lines

module _ (scenario : Parts) (setup : Setup) (is_setup : IsSetupOf scenario setup) (set_up : IsSetUp scenario.buffers scenario.producers scenario.writers)
    (before between onward : List NumberedLine) (end collect last : NumberedLine) (world : World) (notes : List ActNote)
    (plays : Plays setup (buffers_of scenario setup) (acts_from scenario [] (before ++ (end ∷ (between ++ (collect ∷ (onward ++ (last ∷ []))))))) (first_world setup) world notes)
    (place : ℕ) (inside : place < length setup.writers) (end_is : end.what ≡ line.End (suc place)) (due : is_due (suc place) before ≡ true)
    (collect_is : collect.what ≡ line.Collect (producer_of setup place)) (last_is : last.what ≡ line.Read (spec_at setup.writers place).buffer last_count) where
  abbrev buffers : List Buffer
  buffers = buffers_of scenario setup

  abbrev so_far : List NumberedLine
  so_far = before ++ end ∷ []

  -- what the lines up to the end do before the answer
  abbrev first_acts : List Act
  first_acts = acts_from scenario [] before ++ asks place (line_calls (suc place) (line.End (suc place)))

  abbrev mid_acts : List Act
  mid_acts = acts_from scenario (before ++ end ∷ []) between ++ Collect (producer_of setup place) ∷ []

  abbrev last_acts : List Act
  last_acts = acts_from scenario (((before ++ end ∷ []) ++ between) ++ collect ∷ []) onward

  abbrev reading : Act
  reading = ReadAll (spec_at setup.writers place).buffer last_count

  end_acts : acts_of scenario before end.what ≡ asks place (line_calls (suc place) (line.End (suc place))) ++ Answer place ∷ []
  end_acts =
      ap (acts_of scenario before) end_is
      ∙ ap (λ (b : Bool). asks place (line_calls (suc place) (line.End (suc place))) ++ answers_late (suc place) b) due

  -- up to the end and its answer
  up_to_end : acts_from scenario [] (before ++ end ∷ []) ≡ first_acts ++ Answer place ∷ []
  up_to_end =
      lines_split scenario [] before (end ∷ [])
      ∙ ap (λ (acts : List Act). acts_from scenario [] before ++ (acts ++ [])) end_acts
      ∙ ap (λ (acts : List Act). acts_from scenario [] before ++ acts) (append-nil (asks place (line_calls (suc place) (line.End (suc place))) ++ Answer place ∷ []))
      ∙ sym (append_assoc (acts_from scenario [] before) (asks place (line_calls (suc place) (line.End (suc place)))) (Answer place ∷ []))

  -- and behind it
  behind_end : acts_from scenario (before ++ end ∷ []) (between ++ (collect ∷ (onward ++ (last ∷ [])))) ≡ mid_acts ++ (last_acts ++ reading ∷ [])
  behind_end =
      lines_split scenario so_far between (collect ∷ (onward ++ (last ∷ [])))
      ∙ ap (λ (acts : List Act). acts_from scenario so_far between ++ acts)
      (ap (λ (kind : LineKind). acts_of scenario (so_far ++ between) kind ++ acts_from scenario ((so_far ++ between) ++ collect ∷ []) (onward ++ (last ∷ []))) collect_is
      ∙ ap (λ (acts : List Act). Collect (producer_of setup place) ∷ acts)
      (lines_split scenario ((so_far ++ between) ++ collect ∷ []) onward (last ∷ [])
      ∙ ap (λ (kind : LineKind). last_acts ++ (acts_of scenario (((so_far ++ between) ++ collect ∷ []) ++ onward) kind ++ [])) last_is))
      ∙ sym (append_assoc (acts_from scenario so_far between) (Collect (producer_of setup place) ∷ []) (last_acts ++ reading ∷ []))

  all_acts : acts_from scenario [] (before ++ (end ∷ (between ++ (collect ∷ (onward ++ (last ∷ []))))))
      ≡ (first_acts ++ Answer place ∷ []) ++ (mid_acts ++ (last_acts ++ reading ∷ []))
  all_acts =
      ap (acts_from scenario []) (sym (append_assoc before (end ∷ []) (between ++ (collect ∷ (onward ++ (last ∷ []))))))
      ∙ lines_split scenario [] (before ++ end ∷ []) (between ++ (collect ∷ (onward ++ (last ∷ []))))
      ∙ ap (λ (acts : List Act). acts ++ acts_from scenario (before ++ end ∷ []) (between ++ (collect ∷ (onward ++ (last ∷ []))))) up_to_end
      ∙ ap (λ (acts : List Act). (first_acts ++ Answer place ∷ []) ++ acts) behind_end

  whole : IsSplit setup buffers (first_acts ++ Answer place ∷ []) (mid_acts ++ (last_acts ++ reading ∷ [])) (first_world setup) world
  whole = plays_split setup buffers _ _ (first_world setup) world notes
      (subst (λ (acts : List Act). Plays setup buffers acts (first_world setup) world notes) all_acts plays)

  answer : IsSplit setup buffers first_acts (Answer place ∷ []) (first_world setup) whole.mid
  answer = plays_split setup buffers first_acts (Answer place ∷ []) (first_world setup) whole.mid whole.notes whole.first

  taking : IsSplit setup buffers mid_acts (last_acts ++ reading ∷ []) whole.mid world
  taking = plays_split setup buffers mid_acts (last_acts ++ reading ∷ []) whole.mid world whole.more whole.second

  collecting : IsSplit setup buffers (acts_from scenario (before ++ end ∷ []) between) (Collect (producer_of setup place) ∷ []) whole.mid taking.mid
  collecting = plays_split setup buffers _ (Collect (producer_of setup place) ∷ []) whole.mid taking.mid taking.notes taking.first

  going : IsSplit setup buffers last_acts (reading ∷ []) taking.mid world
  going = plays_split setup buffers last_acts (reading ∷ []) taking.mid world taking.more taking.second

  -- what the writer was asked for by its answer
  shape : HasShapeOf (calls_asked (suc place) (before ++ end ∷ [])) (writer whole.mid place).calls
  shape = losses_change_no_shape (calls_asked (suc place) (before ++ end ∷ [])) (writer whole.mid place).calls
      (lines_lose scenario setup buffers (before ++ end ∷ []) whole.mid whole.notes
      (subst (λ (acts : List Act). Plays setup buffers acts (first_world setup) whole.mid whole.notes) (sym up_to_end) whole.first) place)

  module _ (ended_by_lines : is_writing (packets_of (calls_asked (suc place) (before ++ end ∷ []))) ≡ false)
      (few_ids : most_chunks (payload_at setup place) (emissions_of (calls_asked (suc place) (before ++ end ∷ []))) ≤ POSITION_LIMIT) where
    abbrev asked : World
    asked = answer.mid

    abbrev answered : World
    answered = answer.second.0

    same_end : whole.mid ≡ answer.second.0
    same_end = answer.second.5.0

    -- so it has no packet begun at its answer, and flushes
    flushes : (b : Bool) → is_writing (packets_of (writer asked place).calls) ≡ b → MatchBool b (answered ≡ asked) (Asks setup place Flushed asked answered)
        → (is_writing (packets_of (writer asked place).calls) ≡ false) × Asks setup place Flushed asked answered
    flushes false ended asks_it = (ended, asks_it)
    flushes true writes same =
        let there : is_writing (packets_of (writer whole.mid place).calls) ≡ true =
        ap (λ (w : World). is_writing (packets_of (writer w place).calls)) (same_end ∙ same) ∙ writes in
        absurd (true≢false (sym there ∙ shape.writing ∙ ended_by_lines))

    flushed : (is_writing (packets_of (writer asked place).calls) ≡ false) × Asks setup place Flushed asked answered
    flushed = flushes (is_writing (packets_of (writer asked place).calls)) refl answer.second.2

    packets_same : packets_of (writer answered place).calls ≡ packets_of (writer asked place).calls
    packets_same = ap packets_of (flush_calls setup place asked answered flushed.1) ∙ flush_packets (writer asked place).calls

    few_chunks : most_chunks (payload_at setup place) (emissions_of (writer asked place).calls) ≤ POSITION_LIMIT
    few_chunks =
        subst (λ (es : List (List ℕ)). most_chunks (payload_at setup place) es ≤ POSITION_LIMIT)
        (sym shape.emitted ∙ ap (λ (w : World). emissions_of (writer w place).calls) same_end ∙ ap (λ (ps : List Packet). emissions_in ps) packets_same) few_ids

    abbrev many : ℕ
    many = length (completed_images (writer answered place).begun)

    -- what it had completed is completed still where the collect is done
    there_still : (i : ℕ) → i < length (completed_images (writer answered place).begun)
        → (chunk : ℕ) × (content : Content) × At (writer taking.mid place).begun i (Completed chunk content)
    there_still i low =
        let all = counted (writer answered place).begun in
        let entry = completed_at (writer answered place).begun (flush_done setup place asked answered flushed.1) i (omega (arith, low, all)) in
        let kept = plays_keeps setup buffers mid_acts whole.mid taking.mid taking.notes place taking.first in
        (entry.0, entry.1, kept i entry.0 entry.1 (subst (λ (w : World). At (writer w place).begun i (Completed entry.0 entry.1)) (sym same_end) entry.2))

    met : length (completed_images (writer answered place).begun) ≤ (taken_of taking.mid.service place).count
    met =
        let begun = flushed_few setup place asked answered flushed.1 flushed.0 (large scenario setup is_setup set_up place inside) in
        let all = counted (writer answered place).begun in
        let few = few_chunks in
        let end_of = collecting.second.5.0 in
        subst (λ (w : World). many ≤ (taken_of w.service place).count) (sym end_of)
        (collect_meets setup place many collecting.mid collecting.second.0 collecting.second.3 inside
        (subst (λ (w : World). Wrote setup place (writer w place)) end_of wrote_there) collecting.second.2
        (subst (λ (w : World). (i : ℕ) → i < many → (chunk : ℕ) × (content : Content) × At (writer w place).begun i (Completed chunk content)) end_of there_still)
        (omega (arith, begun, all, few)))
      where
        wrote_there : Wrote setup place (writer taking.mid place)
        wrote_there =
            (plays_stand setup buffers _ (first_world setup) taking.mid _
            (plays_both setup buffers (first_acts ++ Answer place ∷ []) mid_acts (first_world setup) whole.mid taking.mid whole.notes taking.notes whole.first taking.first)
            (first_stands setup (small_payload scenario setup is_setup)) ∣ first_owned setup ∣₁).0.wrote place inside

    flush : IsFlushRead setup (buffers_of scenario setup) place asked going.second.0
    flush = record {
      answered = answered;
      taken = taking.mid;
      reading = going.mid;
      ended = flushed.0;
      answers = flushed.1;
      owned_then = answer.second.3;
      between = mid_acts;
      notes = taking.notes;
      takes = subst (λ (w : World). Plays setup buffers mid_acts w taking.mid taking.notes) same_end taking.first;
      met = met;
      onward = last_acts;
      later = going.notes;
      goes_on = going.first;
      reads = going.second.2;
      owned_now = going.second.3;
    }

    pub late_settled : AreFew scenario (before ++ (end ∷ (between ++ (collect ∷ (onward ++ (last ∷ [])))))) (records_in scenario setup world)
        → HasNoRaw (before ++ (end ∷ (between ++ (collect ∷ (onward ++ (last ∷ [])))))) place
        → (at : World) × (earlier : List ActNote)
        × Plays setup (buffers_of scenario setup) (acts_from scenario [] before ++ asks place (line_calls (suc place) (line.End (suc place)))) (first_world setup) at earlier
        × HasSettled scenario setup place at world
    late_settled few_lines none =
        let known = known_few scenario setup is_setup set_up place inside (before ++ (end ∷ (between ++ (collect ∷ (onward ++ (last ∷ [])))))) world notes plays in
        let is : world ≡ going.second.0 = going.second.5.0 in
        let free : NoneCommitted going.second.0.service (sequence_of place) =
        subst (λ (w : World). NoneCommitted w.service (sequence_of place)) is
        (lines_committed_none scenario setup buffers (before ++ (end ∷ (between ++ (collect ∷ (onward ++ (last ∷ [])))))) world notes place plays none) in
        let few : known_in going.second.0.service (records_in scenario setup going.second.0) 0 going.second.0.writers ≤ last_count =
        subst (λ (w : World). known_in w.service (records_in scenario setup w) 0 w.writers ≤ last_count) is (omega (arith, known, few_lines)) in (
          answer.mid,
          answer.notes,
          answer.first,
          subst (HasSettled scenario setup place answer.mid) (sym is)
              (every_flush_is_settled scenario setup is_setup set_up first_acts answer.mid going.second.0 answer.notes answer.first place inside flush free few),
        )

pub every_late_answer_is_settled : EveryLateAnswerIsSettled
every_late_answer_is_settled scenario setup is_setup set_up before between onward end collect last world notes plays place inside end_is due collect_is last_is few_lines none ended few_ids =
    late_settled scenario setup is_setup set_up before between onward end collect last world notes plays place inside end_is due collect_is last_is ended few_ids few_lines none
