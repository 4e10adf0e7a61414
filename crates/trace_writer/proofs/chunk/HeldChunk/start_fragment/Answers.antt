use Rattle.std.proofs.Common.{◌+◌, ◌∙◌, ◌≤◌, rules, ℕ, sym, ap, subst, arith}
use Rattle.chunk_plain.specs.declared.tokens.Held.{Held}
use Rattle.chunk_plain.specs.Payload.{sealed_to, HasFragments}
use Rattle.chunk_plain.specs.Setup.{Setup, spot}
use Rattle.chunk_plain.specs.Views.{Head}
use Rattle.chunk_plain.specs.Drafts.{MayFollow, head_at, published, ends_by}
use Rattle.trace_writer.specs.Headers.{held_head}
use Rattle.trace_writer.proofs.holding.Publishing.{keeps_sealed, reads_so, head_stays, holds_still, counts_next}
use Rattle.trace_writer.proofs.claims.QuietRows.{quiet_both}
use Rattle.trace_writer.proofs.claims.QuietSteps.{quiet_redrafted}
use Rattle.trace_writer.proofs.chunk.HeldChunk.start_fragment.Goals as goal

pub publish-requires-clause-may : goal.publish-requires-clause-may
publish-requires-clause-may g c = record {
  held = c.requires.fit.holds;
  size = c.requires.fit.size;
  order = search rules;
  inside = search rules;
  kept = let chunk = c.args.self in
      keeps_sealed (g.W.Words.means.setup c.args.table.now) (g.W.Words.means.view c.args.table.now c.args.seat.now) chunk chunk.count chunk.at c.requires.fit;
}

pub set_header-requires-clause-may : goal.set_header-requires-clause-may
set_header-requires-clause-may g c = record {
  held = let chunk = c.args.self in
      holds_still (g.W.Words.means.setup c.args.table.now) (g.W.Words.means.view c.args.table.now c.args.seat.now) (g.W.Words.means.view c.publish.new.self c.publish.new.seat) chunk chunk.count chunk.at c.requires.fit
      chunk.order chunk.within c.publish.ensures.view c.publish.new.held c.publish.ensures.held;
  count_fits = search rules;
  flags_fit = search rules;
  follows = let chunk = c.args.self in let mid = g.W.Words.means.view c.publish.new.self c.publish.new.seat in
      let head = head_stays (g.W.Words.means.setup c.args.table.now) (g.W.Words.means.view c.args.table.now c.args.seat.now) mid chunk chunk.count chunk.at c.requires.fit
      chunk.order chunk.within c.publish.ensures.view in
      subst (λ (n : ℕ). MayFollow (head_at mid c.publish.new.held.position) (record { count = chunk.count + 1; flags = n })) (sym c.flags_of.ensures.value)
      (subst (λ (h : Held). MayFollow (head_at mid h.position) (held_head (chunk.count + 1) chunk.continues)) (sym c.publish.ensures.held)
      (subst (λ (h : Head). MayFollow h (held_head (chunk.count + 1) chunk.continues)) (sym head) c.requires.head));
  reads = let chunk = c.args.self in let mid = g.W.Words.means.view c.publish.new.self c.publish.new.seat in
      let reads = reads_so (g.W.Words.means.setup c.args.table.now) (g.W.Words.means.view c.args.table.now c.args.seat.now) mid chunk chunk.count chunk.at c.requires.fit
      chunk.order chunk.within c.publish.ensures.view (chunk.count + 1) (omega arith) in
      subst (λ (h : Held). HasFragments (published mid h.position) (ends_by mid h.position (chunk.count + 1))) (sym c.publish.ensures.held) reads.0;
  inside = let chunk = c.args.self in let mid = g.W.Words.means.view c.publish.new.self c.publish.new.seat in
      let fit = c.requires.fit in
      let reads = (reads_so (g.W.Words.means.setup c.args.table.now) (g.W.Words.means.view c.args.table.now c.args.seat.now) mid chunk chunk.count chunk.at fit
      chunk.order chunk.within c.publish.ensures.view (chunk.count + 1) (omega arith)).1 in
      let inside = fit.inside in let within = chunk.within in let size = fit.size in
      subst (λ (s : Setup). sealed_to (ends_by mid c.publish.new.held.position (chunk.count + 1)) ≤ (spot s c.publish.new.held.chunk).payload_size) (sym c.publish.ensures.step.setup_stays)
      (subst (λ (h : Held). sealed_to (ends_by mid h.position (chunk.count + 1)) ≤ (spot (g.W.Words.means.setup c.args.table.now) h.chunk).payload_size) (sym c.publish.ensures.held)
      (omega (arith, reads, inside, within, size)));
}

pub returns-clause-view : goal.returns-clause-view
returns-clause-view g c =
    let chunk = c.args.self in
    counts_next (g.W.Words.means.setup c.args.table.now) (g.W.Words.means.view c.args.table.now c.args.seat.now) (g.W.Words.means.view c.publish.new.self c.publish.new.seat)
    (g.W.Words.means.view c.set_header.new.self c.set_header.new.seat) chunk c.requires.fit c.publish.new.held c.flags_of.result c.publish.ensures.view c.publish.ensures.held
    (ap (λ (n : ℕ). record { count = chunk.count + 1; flags = n }) c.flags_of.ensures.value) c.set_header.ensures.view

pub returns-clause-quiet : goal.returns-clause-quiet
returns-clause-quiet g c =
    quiet_both g.W.Words.means
    c.args.table.now c.args.seat.now c.publish.new.self c.publish.new.seat c.set_header.new.self c.set_header.new.seat
    (quiet_redrafted g.W.Words.means
    c.args.table.now c.args.seat.now c.publish.new.self c.publish.new.seat _ _ _ _ _ c.publish.ensures.step c.publish.ensures.view.view c.requires.fit.holds c.publish.ensures.told)
    (quiet_redrafted g.W.Words.means
    c.publish.new.self c.publish.new.seat c.set_header.new.self c.set_header.new.seat _ _ _ _ _ c.set_header.ensures.step c.set_header.ensures.view
    (holds_still (g.W.Words.means.setup c.args.table.now) (g.W.Words.means.view c.args.table.now c.args.seat.now) (g.W.Words.means.view c.publish.new.self c.publish.new.seat) c.args.self c.args.self.count c.args.self.at c.requires.fit
    c.args.self.order c.args.self.within c.publish.ensures.view c.publish.new.held c.publish.ensures.held) c.set_header.ensures.told)

pub returns-clause-started : goal.returns-clause-started
returns-clause-started g c = record {
  held = c.set_header.ensures.held ∙ c.publish.ensures.held;
  start = search rules;
  at = search rules;
  count = search rules;
  continues = search rules;
}
