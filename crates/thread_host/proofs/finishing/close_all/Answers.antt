-- One producer is closed behind another.
use Rattle.std.proofs.Common.{◌≡◌, ◌∙◌, ℕ, suc, ◌+◌, ◌⊎◌, true, List, map, ◌-◌, inl, inr, sym, ap, subst, arith}
use Rattle.std.proofs.lemmas.Bool.{cases_eq}
use Rattle.chunk_plain.specs.Setup.{Setup, producer_of, sequence_of}
use Rattle.chunk_plain.specs.Views.{ServiceView}
use Rattle.chunk_words.specs.Sits.{setup_in, known_by_service, desk_by_service}
use Rattle.trace_buffer.specs.declared.answers.BufferSpec.{BufferSpec}
use Rattle.world_model.specs.FirstBuffers as first
use Rattle.service_core.specs.Agreement.{is_closed, buffer_of, spec_value}
use Rattle.service_core.specs.Closing.{ClosesAll, TakesAndCloses}
use Rattle.service_core.specs.Routing.{is_closed_at}
use Rattle.service_core.proofs.AgreeLemmas.{first_stays}
use Rattle.run_model.specs.Settled.{ClosesTo}
use Rattle.thread_service.specs.declared.service.Service.{Service}
use Rattle.thread_service.specs.Serving.{core_of, view_in}
use Rattle.thread_host.specs.Finishing.{AreClosedTo}
use Rattle.thread_host.proofs.finishing.close_all.Goals as goal

pub close_producer-taken-requires-clause-open : goal.close_producer-taken-requires-clause-open
close_producer-taken-requires-clause-open c place inside same = c.producers.invariant.opened place inside (omega (arith, same))

pub producers-init : goal.producers-init
producers-init c =
    let setup = setup_in c.args.table.now in
    let old : Service = c.args.service.now in
    let keeps = c.stop-stopped.ensures.keeps in
    record {
      serves = c.stop-stopped.ensures.serves c.args.table.now c.requires.serves;
      first = ap (λ (specs : List BufferSpec). first.first_buffers setup 1 (map spec_value specs)) keeps.specs;
      closes = ap known_by_service keeps.seat;
      desk = ap desk_by_service keeps.seat;
      closed = λ place inside none.
          let least = (c.requires.serves.agrees.routed.producers place inside).least in
          absurd (omega (arith, least, none));
      opened = λ place inside some.
          ap (λ bs. is_closed_at bs (buffer_of setup place - 1) (sequence_of place)) keeps.buffers ∙ c.requires.opened place inside;
    }

module _ (setup : Setup) (index : ℕ) (start : ServiceView) (mid new : Service) (closes : ClosesAll setup (index + 1) (core_of mid) (core_of new)) where
  closed_next : AreClosedTo setup index mid → AreClosedTo setup (index + 1) new
  closed_next before place inside below = by_case (cases_eq (producer_of setup place) (index + 1))
    where
      by_case : (producer_of setup place ≡ index + 1) ⊎ (producer_of setup place ≡ index + 1 → ⊥) → is_closed setup (core_of new) place ≡ true
      by_case (inl same) = closes.closed place inside same
      by_case (inr apart) = closes.others place inside apart ∙ before place inside (omega (arith, below, apart))

  closes_next : (taken : ℕ) → ClosesTo setup index start (view_in mid) → TakesAndCloses setup (index + 1) taken (view_in mid) (view_in new)
      → ClosesTo setup (index + 1) start (view_in new)
  closes_next taken before takes =
      let more : suc index ≡ index + 1 = omega arith in
      let last : TakesAndCloses setup (suc index) taken (view_in mid) (view_in new) =
      subst (λ (n : ℕ). TakesAndCloses setup n taken (view_in mid) (view_in new)) (sym more) takes in
      let all : ClosesTo setup (suc index) start (view_in new) = (view_in mid, taken, before, last) in
      subst (λ (n : ℕ). ClosesTo setup n start (view_in new)) more all

pub producers-preserved : goal.producers-preserved
producers-preserved c =
    let setup = setup_in c.args.table.now in
    let i = c.producers.invariant in
    let index : ℕ = c.producers.index in
    let mid : Service = c.producers.service in
    let new : Service = c.close_producer-taken.new.self in
    let closes = c.close_producer-taken.ensures.closes in
    record {
      serves = c.close_producer-taken.ensures.stays.serves;
      first = first_stays setup (core_of mid) (core_of new) closes.fields ∙ i.first;
      closes = closes_next setup index (view_in c.args.service.now) mid new closes c.close_producer-taken.result i.closes c.close_producer-taken.ensures.takes;
      desk = c.close_producer-taken.ensures.stays.desk ∙ i.desk;
      closed = closed_next setup index (view_in c.args.service.now) mid new closes i.closed;
      opened = λ place inside above.
          closes.others place inside (λ same. absurd (omega (arith, same, above))) ∙ i.opened place inside (omega (arith, above));
    }
