-- The numbers were tested, and a record of a chunk is no longer than the buffer.
use Rattle.std.proofs.Common.{◌≡◌, ◌≢◌, ◌∙◌, ℕ, zero, suc, ◌*◌, ◌≤◌, refl, sym, ap, subst, arith}
use Rattle.std.proofs.Math.Logic.{∥∥₁_map}
use Rattle.trace_base.specs.declared.policy.FullPolicy.TheVariants.{Ring, Discard}
use Rattle.page_geometry.specs.declared.geometry.Geometry.{Geometry}
use Rattle.page_geometry.specs.Sizes.{IsPageSize, IsChunkCount, payload_size, record_size}
use Rattle.chunk_plain.specs.declared.setup.ProducerSpec.{ProducerSpec}
use Rattle.tracesmb_c.specs.declared.planning.Plan.{Plan}
use Rattle.tracesmb_c.specs.Planning.{IsProducerFor, policy_for}
use Rattle.tracesmb_c.proofs.PlanLemmas.{is_plan}
use Rattle.tracesmb_c.proofs.planning.SessionSetup.plan.Goals as goal
use Rattle.tracesmb_c.proofs.planning.SessionSetup.plan.Goals.{then-self-eq0, else-self-eq0}

-- the policy is as it is named
policy_ring : (full : ℕ) → full ≡ 0 → policy_for full ≡ Ring
policy_ring full is = ap policy_for is

policy_discard : (full : ℕ) → full ≢ 0 → policy_for full ≡ Discard
policy_discard zero not = absurd (not refl)
policy_discard (suc full) not = refl

pub returns-clause-plan : goal.returns-clause-plan
returns-clause-plan c =
    let setup = c.args.self.now in
    let spec : ProducerSpec = record { pages = setup.pages; geometry = c.in-Ok-new.geometry } in
    let plan : Plan = record {
      producers = c.in-Ok-producers_of.producers;
      writers = c.in-Ok-writers_of.writers;
      buffer = record { size = setup.buffer_kb * 1024; policy = c.if-self-eq0.policy };
    } in
    let fits = c.if-record_size-size.false in
    let many = c.in-Ok-writers_of.ensures.many in
    is_plan plan setup.producers spec setup.buffer_kb c.in-Ok-producers_of.ensures.many c.in-Ok-producers_of.ensures.each
    (omega arith) (omega arith) (omega arith) (omega arith) (omega (arith, many)) c.in-Ok-writers_of.ensures.each refl (omega arith)
    (omega arith)
    (subst (λ (n : ℕ). n ≤ setup.buffer_kb * 1024) c.record_size.ensures.value fits)

pub returns-clause-made_for : goal.returns-clause-made_for
returns-clause-made_for c =
    let setup = c.args.self.now in
    let policy : c.if-self-eq0.policy ≡ policy_for setup.full = elim c.if-self-eq0.branch [
      | then-self-eq0 w ↦ w.policy-is ∙ sym (policy_ring setup.full w.if-self-eq0.true)
      | else-self-eq0 w ↦ w.policy-is ∙ sym (policy_discard setup.full w.if-self-eq0.false)
    ] in
    record {
      many_producers = c.in-Ok-producers_of.ensures.many;
      producers = λ place one there.
          subst (IsProducerFor setup) (sym (c.in-Ok-producers_of.ensures.each place one there)) (record {
            pages = refl;
            page_size = c.in-Ok-new.ensures.page_size;
            chunks = c.in-Ok-new.ensures.chunks ∙ c.in-Ok.ensures.1;
          });
      many_writers = c.in-Ok-writers_of.ensures.many;
      writers = c.in-Ok-writers_of.ensures.each;
      size = refl;
      policy = policy;
    }

pub returns-clause-setup : goal.returns-clause-setup
returns-clause-setup c =
    let setup = c.args.self.now in
    let geometry : Geometry = c.in-Ok-new.geometry in
    let pages : geometry.page_size ≡ setup.page_size = c.in-Ok-new.ensures.page_size in
    let chunks : geometry.chunks ≡ setup.chunks = c.in-Ok-new.ensures.chunks ∙ c.in-Ok.ensures.1 in
    let fits = c.if-record_size-size.false in
    ∥∥₁_map geometry.counted (λ (counted : IsChunkCount geometry.chunks). record {
      some_writer = omega arith;
      few_writers = omega arith;
      some_producer = omega arith;
      few_producers = omega arith;
      some_page = omega arith;
      few_pages = omega arith;
      some_buffer = omega arith;
      small_buffer = omega arith;
      full = omega arith;
      page_size = subst IsPageSize pages geometry.sized;
      chunks = subst IsChunkCount chunks counted;
      fit =
          subst (λ (n : ℕ). record_size (payload_size n setup.chunks) ≤ setup.buffer_kb * 1024) pages
          (subst (λ (n : ℕ). record_size (payload_size geometry.page_size n) ≤ setup.buffer_kb * 1024) chunks
          (subst (λ (n : ℕ). n ≤ setup.buffer_kb * 1024) c.record_size.ensures.value fits));
    })
