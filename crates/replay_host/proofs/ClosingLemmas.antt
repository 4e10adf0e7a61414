-- What closes all producers, one behind another.
use Rattle.std.proofs.Common.{◌≡◌, ◌∙◌, ℕ, zero, suc, ◌+◌, ◌-◌, ◌<◌, ◌≤◌, ◌^◌, Bool, true, false, not, List, [], ◌∷◌, ◌++◌, length, length-set, map, drop, refl, ap, subst, arith}
use Rattle.std.specs.Prelude.{slice_index_or, slice_set}
use Rattle.std.proofs.lemmas.List.{get_or-set_other}
use Rattle.byte_io.specs.Bytes.{Intake}
use Rattle.scenario_text.specs.Accepted.{is_closed_by}
use Rattle.chunk_plain.specs.Meaning.{Meaning}
use Rattle.chunk_plain.specs.Setup.{HasProducer}
use Rattle.replay_model.specs.Acts.{Act, CloseProducer}
use Rattle.replay_model.specs.Schedule.{open_producers}
use Rattle.replay_host.specs.declared.host.Host.{Host}
use Rattle.replay_host.specs.Playing.{IsHost, HasDone, LeavesWriters}
use Rattle.replay_host.specs.Serving.{HasFlags, HaveClosed, HaveClosedTo}
use Rattle.replay_host.proofs.GoingLemmas.{done_none, done_both}
use Rattle.replay_host.proofs.MomentLemmas.{ranges_many}
use Rattle.replay_host.proofs.OpenLemmas.{producers_open, producers_closed, producers_none, rest_more, rest_same, rest_none}
use Rattle.replay_host.proofs.CollectedLemmas.{leaves_none, leaves_both}

module _ {T W S : Type 0} (means : Meaning T W S) (old : Host T W S) (flags : HasFlags means old) where
  -- the flags are as many as the scenario's producers
  pub flags_many : length old.open_producers.items ≡ length flags.scenario.producers
  flags_many = flags.kept.is_host.producers ∙ ranges_many flags.scenario (means.setup old.table) flags.kept.laid

  pub flags_inside : (index : ℕ) → index < length old.open_producers.items → index < length flags.scenario.producers
  flags_inside index below = subst (λ (n : ℕ). index < n) flags_many below

  -- a producer's number is one of few
  pub flags_few : (index : ℕ) → index < length old.open_producers.items → index + 1 < 2 ^ 16
  flags_few index below =
      let inside = flags_inside index below in
      let few = flags.kept.few_producers in
      omega (arith, inside, few)

  -- none is closed
  pub closed_first : HaveClosedTo means flags.scenario flags.before zero old old
  closed_first = record {
    acts = [];
    rest = refl;
    closed = record {
      host = flags.kept.is_host;
      writers = leaves_none means old;
      done = λ taken. done_none means old taken;
    };
    many = refl;
    others = λ index above. refl;
  }

  -- the producer with the next number is one of the table's
  pub closed_there : (index : ℕ) (mid : Host T W S) → HaveClosedTo means flags.scenario flags.before index old mid → index < length old.open_producers.items
      → HasProducer (means.setup mid.table) (index + 1)
  closed_there index mid so below = record {
    least = omega arith;
    most =
        let many = so.many in
        let ranges = so.closed.host.producers in
        let most : index + 1 ≤ length (means.setup mid.table).ranges = omega (arith, many, ranges, below) in
        most;
  }

  -- its flag says whether a line has closed it
  pub closed_flag : (index : ℕ) (mid : Host T W S) → HaveClosedTo means flags.scenario flags.before index old mid → index < length old.open_producers.items
      → slice_index_or mid.open_producers.items index false ≡ not (is_closed_by flags.before (suc index))
  closed_flag index mid so below =
      so.others index (omega arith)
      ∙ ap (λ (n : ℕ). slice_index_or old.open_producers.items n false) (let same : index ≡ suc index - 1 = omega arith in same)
      ∙ flags.kept.flags (suc index) (omega arith) (let inside = flags_inside index below in omega (arith, inside))

  -- one more is closed
  pub closed_next : (index : ℕ) (mid new : Host T W S) → HaveClosedTo means flags.scenario flags.before index old mid → index < length old.open_producers.items
      → not (is_closed_by flags.before (suc index)) ≡ true → IsHost means new → LeavesWriters means mid new
      → new.open_producers.items ≡ slice_set mid.open_producers.items index false
      → ((taken : Intake) → HasDone means (CloseProducer (suc index) ∷ []) [] mid taken new taken)
      → HaveClosedTo means flags.scenario flags.before (suc index) old new
  closed_next index mid new so below opened host leaves set done = record {
    acts = so.acts ++ CloseProducer (suc index) ∷ [];
    rest = rest_more (map CloseProducer (open_producers flags.before 1 flags.scenario.producers)) so.acts
        (map CloseProducer (open_producers flags.before (suc index) (drop index flags.scenario.producers)))
        (map CloseProducer (open_producers flags.before (suc (suc index)) (drop (suc index) flags.scenario.producers)))
        (CloseProducer (suc index)) so.rest (producers_open CloseProducer flags.before flags.scenario.producers index (flags_inside index below) opened);
    closed = record {
      host = host;
      writers = leaves_both means old mid new so.closed.writers leaves;
      done = λ taken. done_both means so.acts (CloseProducer (suc index) ∷ []) [] [] old mid new taken taken taken (so.closed.done taken) (done taken);
    };
    many = ap (λ (fs : List Bool). length fs) set ∙ length-set mid.open_producers.items index false ∙ so.many;
    others = λ other above.
        ap (λ (fs : List Bool). slice_index_or fs other false) set
        ∙ get_or-set_other mid.open_producers.items index other false false (λ same. absurd (omega (arith, same, above)))
        ∙ so.others other (omega (arith, above));
  }

  -- one is passed over
  pub closed_past : (index : ℕ) (mid : Host T W S) → HaveClosedTo means flags.scenario flags.before index old mid → index < length old.open_producers.items
      → not (is_closed_by flags.before (suc index)) ≡ false → HaveClosedTo means flags.scenario flags.before (suc index) old mid
  closed_past index mid so below closed = record {
    acts = so.acts;
    rest = rest_same (map CloseProducer (open_producers flags.before 1 flags.scenario.producers)) so.acts
        (map CloseProducer (open_producers flags.before (suc index) (drop index flags.scenario.producers)))
        (map CloseProducer (open_producers flags.before (suc (suc index)) (drop (suc index) flags.scenario.producers)))
        so.rest (producers_closed CloseProducer flags.before flags.scenario.producers index (flags_inside index below) closed);
    closed = so.closed;
    many = so.many;
    others = λ other above. so.others other (omega (arith, above));
  }

  -- all are
  pub closed_all : (end : ℕ) (new : Host T W S) → HaveClosedTo means flags.scenario flags.before end old new → length flags.scenario.producers ≤ end
      → HaveClosed means (map CloseProducer (open_producers flags.before 1 flags.scenario.producers)) old new
  closed_all end new so most =
      subst (λ (acts : List Act). HaveClosed means acts old new)
      (rest_none (map CloseProducer (open_producers flags.before 1 flags.scenario.producers)) so.acts
      (map CloseProducer (open_producers flags.before (suc end) (drop end flags.scenario.producers))) so.rest
      (producers_none CloseProducer flags.before flags.scenario.producers end most)) so.closed
