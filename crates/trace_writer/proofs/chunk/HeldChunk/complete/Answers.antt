use Rattle.std.proofs.Common.{◌≡◌, ◌∙◌, ◌-◌, ◌≤◌, ◌&&◌, ℕ, vec_len, refl, sym, ap, subst, arith, rules}
use Rattle.trace_model.specs.Sequences.{is_among}
use Rattle.commit_body.specs.declared.body.CommitBody.{CommitBody}
use Rattle.commit_body.specs.Patches.{hole_chunks}
use Rattle.trace_writer.specs.Headers.{flags_value}
use Rattle.chunk_plain.specs.declared.tokens.Held.{Held}
use Rattle.chunk_plain.specs.Payload.{sealed_to, HasFragments}
use Rattle.chunk_plain.specs.Setup.{Setup, spot, from_of}
use Rattle.chunk_plain.specs.Drafts.{published, ends_by, head_at}
use Rattle.chunk_plain.specs.Steps.{completes}
use Rattle.chunk_plain.specs.Words.{PublishesBytes}
use Rattle.chunk_plain.proofs.Holding.{redrafts_holds}
use Rattle.chunk_plain.specs.Shows.{patches_in}
use Rattle.trace_writer.proofs.holding.Publishing.{keeps_sealed, heads_last, head_stays, reads_so, holds_still, completes_all, published_all, content_made, heads_as}
use Rattle.trace_writer.proofs.claims.QuietRows.{quiet_both}
use Rattle.trace_writer.proofs.claims.QuietSteps.{quiet_redrafted, quiet_completed}
use Rattle.trace_writer.proofs.chunk.HeldChunk.complete.Goals as goal

pub publish-requires-clause-may : goal.publish-requires-clause-may
publish-requires-clause-may g c = record {
  held = c.requires.fit.holds;
  size = c.requires.fit.size;
  order = search rules;
  inside = search rules;
  kept = keeps_sealed (g.W.Words.means.setup c.args.table.now) (g.W.Words.means.view c.args.table.now c.args.seat.now) c.args.self (c.args.self.count - 1) (vec_len c.args.self.held.body.payload) c.requires.fit;
}

pub set_header-requires-clause-may : goal.set_header-requires-clause-may
set_header-requires-clause-may g c = record {
  held = let chunk = c.args.self in
      let publishes : PublishesBytes chunk.held.chunk chunk.held.position chunk.sealed (vec_len chunk.held.body.payload) chunk.held.body.payload.items
      (g.W.Words.means.view c.args.table.now c.args.seat.now) (g.W.Words.means.view c.publish.new.self c.publish.new.seat) =
      subst (λ (n : ℕ). PublishesBytes chunk.held.chunk chunk.held.position chunk.sealed n chunk.held.body.payload.items
      (g.W.Words.means.view c.args.table.now c.args.seat.now) (g.W.Words.means.view c.publish.new.self c.publish.new.seat)) c.len-size.ensures c.publish.ensures.view in
      let less = chunk.order in let within = chunk.within in
      holds_still (g.W.Words.means.setup c.args.table.now) (g.W.Words.means.view c.args.table.now c.args.seat.now) (g.W.Words.means.view c.publish.new.self c.publish.new.seat) chunk (chunk.count - 1) (vec_len chunk.held.body.payload) c.requires.fit
      (omega (arith, less, within)) (omega arith) publishes c.publish.new.held c.publish.ensures.held;
  count_fits = search rules;
  flags_fit = search rules;
  follows = let chunk = c.args.self in
      let publishes : PublishesBytes chunk.held.chunk chunk.held.position chunk.sealed (vec_len chunk.held.body.payload) chunk.held.body.payload.items
      (g.W.Words.means.view c.args.table.now c.args.seat.now) (g.W.Words.means.view c.publish.new.self c.publish.new.seat) =
      subst (λ (n : ℕ). PublishesBytes chunk.held.chunk chunk.held.position chunk.sealed n chunk.held.body.payload.items
      (g.W.Words.means.view c.args.table.now c.args.seat.now) (g.W.Words.means.view c.publish.new.self c.publish.new.seat)) c.len-size.ensures c.publish.ensures.view in
      let view = g.W.Words.means.view c.args.table.now c.args.seat.now in let mid = g.W.Words.means.view c.publish.new.self c.publish.new.seat in
      let less = chunk.order in let within = chunk.within in
      heads_last view mid chunk c.publish.new.held c.flags_of-flags.result c.args.runs_on c.is_awaiting.result
      (head_stays (g.W.Words.means.setup c.args.table.now) view mid chunk (chunk.count - 1) (vec_len chunk.held.body.payload) c.requires.fit
      (omega (arith, less, within)) (omega arith) publishes)
      c.publish.ensures.held c.requires.head c.flags_of-flags.ensures.value;
  reads = let chunk = c.args.self in
      let publishes : PublishesBytes chunk.held.chunk chunk.held.position chunk.sealed (vec_len chunk.held.body.payload) chunk.held.body.payload.items
      (g.W.Words.means.view c.args.table.now c.args.seat.now) (g.W.Words.means.view c.publish.new.self c.publish.new.seat) =
      subst (λ (n : ℕ). PublishesBytes chunk.held.chunk chunk.held.position chunk.sealed n chunk.held.body.payload.items
      (g.W.Words.means.view c.args.table.now c.args.seat.now) (g.W.Words.means.view c.publish.new.self c.publish.new.seat)) c.len-size.ensures c.publish.ensures.view in
      let mid = g.W.Words.means.view c.publish.new.self c.publish.new.seat in let less = chunk.order in let within = chunk.within in
      let reads = reads_so (g.W.Words.means.setup c.args.table.now) (g.W.Words.means.view c.args.table.now c.args.seat.now) mid chunk (chunk.count - 1) (vec_len chunk.held.body.payload) c.requires.fit
      (omega (arith, less, within)) (omega arith) publishes chunk.count refl in
      subst (λ (h : Held). HasFragments (published mid h.position) (ends_by mid h.position chunk.count)) (sym c.publish.ensures.held) reads.0;
  inside = let chunk = c.args.self in
      let publishes : PublishesBytes chunk.held.chunk chunk.held.position chunk.sealed (vec_len chunk.held.body.payload) chunk.held.body.payload.items
      (g.W.Words.means.view c.args.table.now c.args.seat.now) (g.W.Words.means.view c.publish.new.self c.publish.new.seat) =
      subst (λ (n : ℕ). PublishesBytes chunk.held.chunk chunk.held.position chunk.sealed n chunk.held.body.payload.items
      (g.W.Words.means.view c.args.table.now c.args.seat.now) (g.W.Words.means.view c.publish.new.self c.publish.new.seat)) c.len-size.ensures c.publish.ensures.view in
      let mid = g.W.Words.means.view c.publish.new.self c.publish.new.seat in let less = chunk.order in let within = chunk.within in
      let fit = c.requires.fit in
      let reads = (reads_so (g.W.Words.means.setup c.args.table.now) (g.W.Words.means.view c.args.table.now c.args.seat.now) mid chunk (chunk.count - 1) (vec_len chunk.held.body.payload) fit
      (omega (arith, less, within)) (omega arith) publishes chunk.count refl).1 in
      let inside = fit.inside in let size = fit.size in
      subst (λ (s : Setup). sealed_to (ends_by mid c.publish.new.held.position chunk.count) ≤ (spot s c.publish.new.held.chunk).payload_size) (sym c.publish.ensures.step.setup_stays)
      (subst (λ (h : Held). sealed_to (ends_by mid h.position chunk.count) ≤ (spot (g.W.Words.means.setup c.args.table.now) h.chunk).payload_size) (sym c.publish.ensures.held)
      (omega (arith, reads, inside, size)));
}

pub complete-requires-clause-held : goal.complete-requires-clause-held
complete-requires-clause-held g c =
    let chunk = c.args.self in
    let publishes : PublishesBytes chunk.held.chunk chunk.held.position chunk.sealed (vec_len chunk.held.body.payload) chunk.held.body.payload.items
    (g.W.Words.means.view c.args.table.now c.args.seat.now) (g.W.Words.means.view c.publish.new.self c.publish.new.seat) =
    subst (λ (n : ℕ). PublishesBytes chunk.held.chunk chunk.held.position chunk.sealed n chunk.held.body.payload.items
    (g.W.Words.means.view c.args.table.now c.args.seat.now) (g.W.Words.means.view c.publish.new.self c.publish.new.seat)) c.len-size.ensures c.publish.ensures.view in
    let less = chunk.order in let within = chunk.within in
    redrafts_holds (g.W.Words.means.view c.publish.new.self c.publish.new.seat) (g.W.Words.means.view c.set_header.new.self c.set_header.new.seat) _ c.set_header.new.held _
    c.set_header.ensures.view c.set_header.ensures.held
    (holds_still (g.W.Words.means.setup c.args.table.now) (g.W.Words.means.view c.args.table.now c.args.seat.now) (g.W.Words.means.view c.publish.new.self c.publish.new.seat) chunk (chunk.count - 1) (vec_len chunk.held.body.payload) c.requires.fit
    (omega (arith, less, within)) (omega arith) publishes c.publish.new.held c.publish.ensures.held)

pub complete-requires-clause-published : goal.complete-requires-clause-published
complete-requires-clause-published g c =
    let chunk = c.args.self in
    let publishes : PublishesBytes chunk.held.chunk chunk.held.position chunk.sealed (vec_len chunk.held.body.payload) chunk.held.body.payload.items
    (g.W.Words.means.view c.args.table.now c.args.seat.now) (g.W.Words.means.view c.publish.new.self c.publish.new.seat) =
    subst (λ (n : ℕ). PublishesBytes chunk.held.chunk chunk.held.position chunk.sealed n chunk.held.body.payload.items
    (g.W.Words.means.view c.args.table.now c.args.seat.now) (g.W.Words.means.view c.publish.new.self c.publish.new.seat)) c.len-size.ensures c.publish.ensures.view in
    published_all (g.W.Words.means.setup c.args.table.now) (g.W.Words.means.view c.args.table.now c.args.seat.now) (g.W.Words.means.view c.publish.new.self c.publish.new.seat)
    (g.W.Words.means.view c.set_header.new.self c.set_header.new.seat) chunk (chunk.count - 1) c.requires.fit publishes _ c.set_header.new.held _ _
    (ap (λ (h : Held). h.chunk) c.publish.ensures.held) (ap (λ (h : Held). h.position) c.publish.ensures.held)
    (ap (λ (b : CommitBody). b.payload.items) c.drain_into.ensures.others ∙ ap (λ (h : Held). h.body.payload.items) c.publish.ensures.held)
    c.set_header.ensures.held c.set_header.ensures.view

pub returns-clause-view : goal.returns-clause-view
returns-clause-view g c =
    let chunk = c.args.self in
    let publishes : PublishesBytes chunk.held.chunk chunk.held.position chunk.sealed (vec_len chunk.held.body.payload) chunk.held.body.payload.items
    (g.W.Words.means.view c.args.table.now c.args.seat.now) (g.W.Words.means.view c.publish.new.self c.publish.new.seat) =
    subst (λ (n : ℕ). PublishesBytes chunk.held.chunk chunk.held.position chunk.sealed n chunk.held.body.payload.items
    (g.W.Words.means.view c.args.table.now c.args.seat.now) (g.W.Words.means.view c.publish.new.self c.publish.new.seat)) c.len-size.ensures c.publish.ensures.view in
    let less = chunk.order in let within = chunk.within in
    let from_is : c.args.spec.from ≡ from_of (g.W.Words.means.setup c.set_header.new.self) (g.W.Words.means.place c.set_header.new.seat) =
    c.requires.from ∙ (ap (λ (s : Setup). from_of s (g.W.Words.means.place c.args.seat.now)) (sym (c.set_header.ensures.step.setup_stays ∙ c.publish.ensures.step.setup_stays))
    ∙ ap (λ (n : ℕ). from_of (g.W.Words.means.setup c.set_header.new.self) n) (sym (c.set_header.ensures.step.place_stays ∙ c.publish.ensures.step.place_stays))) in
    let view = g.W.Words.means.view c.args.table.now c.args.seat.now in let mid = g.W.Words.means.view c.publish.new.self c.publish.new.seat in
    let two = g.W.Words.means.view c.set_header.new.self c.set_header.new.seat in
    let held = ap (λ (h : Held). h.chunk) c.publish.ensures.held in let position = ap (λ (h : Held). h.position) c.publish.ensures.held in
    let still = holds_still (g.W.Words.means.setup c.args.table.now) view mid chunk (chunk.count - 1) (vec_len chunk.held.body.payload) c.requires.fit
    (omega (arith, less, within)) (omega arith) publishes c.publish.new.held c.publish.ensures.held in
    let head : head_at two c.set_header.new.held.position ≡ record { count = chunk.count; flags = c.flags_of-flags.result } =
    ap (λ (h : Held). head_at two h.position) c.set_header.ensures.held ∙ heads_as mid two c.publish.new.held _ _ still c.set_header.ensures.view in
    completes_all view mid two (g.W.Words.means.view c.complete.new.self c.complete.new.seat) chunk c.publish.new.held c.set_header.new.held c.publish.ensures.view.words _ _
    c.publish.ensures.view.view held position c.set_header.ensures.view
    (ap (λ (h : Held). h.chunk) c.set_header.ensures.held ∙ held) (ap (λ (h : Held). h.position) c.set_header.ensures.held ∙ position) c.complete.ensures.view
    ∙ ap (completes view chunk.held.chunk chunk.held.position)
    (content_made (from_of (g.W.Words.means.setup c.set_header.new.self) (g.W.Words.means.place c.set_header.new.seat)) (g.W.Words.means.place c.args.seat.now) (g.W.Words.means.place c.set_header.new.seat) chunk.held.position c.set_header.new.held.position _ _ c.set_header.new.held.body chunk.held.body.payload.items _ _
    (c.set_header.ensures.step.place_stays ∙ c.publish.ensures.step.place_stays) (ap (λ (h : Held). h.position) c.set_header.ensures.held ∙ position)
    (head ∙ ap (λ (n : ℕ). record { count = chunk.count; flags = n }) (c.flags_of-flags.ensures.value ∙ ap (flags_value chunk.continues c.args.runs_on) (c.is_awaiting.ensures ∙ ap (λ (i : ℕ). c.args.runs_on && is_among i (hole_chunks c.args.pending.now.holes)) position)))
    (ap (λ (h : Held). h.body.payload.items) c.set_header.ensures.held ∙ ap (λ (b : CommitBody). b.payload.items) c.drain_into.ensures.others ∙ ap (λ (h : Held). h.body.payload.items) c.publish.ensures.held)
    (ap (λ (f : ℕ). patches_in f c.set_header.new.held.body) (sym from_is)
    ∙ (ap (λ (h : Held). patches_in c.args.spec.from h.body) c.set_header.ensures.held ∙ c.drain_into.ensures.sent))
    (ap (λ (h : Held). h.body.target) c.set_header.ensures.held))

pub returns-clause-quiet : goal.returns-clause-quiet
returns-clause-quiet g c =
    let chunk = c.args.self in
    let publishes : PublishesBytes chunk.held.chunk chunk.held.position chunk.sealed (vec_len chunk.held.body.payload) chunk.held.body.payload.items
    (g.W.Words.means.view c.args.table.now c.args.seat.now) (g.W.Words.means.view c.publish.new.self c.publish.new.seat) =
    subst (λ (n : ℕ). PublishesBytes chunk.held.chunk chunk.held.position chunk.sealed n chunk.held.body.payload.items
    (g.W.Words.means.view c.args.table.now c.args.seat.now) (g.W.Words.means.view c.publish.new.self c.publish.new.seat)) c.len-size.ensures c.publish.ensures.view in
    let less = chunk.order in let within = chunk.within in
    let still = holds_still (g.W.Words.means.setup c.args.table.now) (g.W.Words.means.view c.args.table.now c.args.seat.now) (g.W.Words.means.view c.publish.new.self c.publish.new.seat) chunk (chunk.count - 1) (vec_len chunk.held.body.payload) c.requires.fit
    (omega (arith, less, within)) (omega arith) publishes c.publish.new.held c.publish.ensures.held in
    quiet_both g.W.Words.means
    c.args.table.now c.args.seat.now c.publish.new.self c.publish.new.seat c.complete.new.self c.complete.new.seat
    (quiet_redrafted g.W.Words.means
    c.args.table.now c.args.seat.now c.publish.new.self c.publish.new.seat _ _ _ _ _ c.publish.ensures.step c.publish.ensures.view.view c.requires.fit.holds c.publish.ensures.told)
    (quiet_both g.W.Words.means
    c.publish.new.self c.publish.new.seat c.set_header.new.self c.set_header.new.seat c.complete.new.self c.complete.new.seat
    (quiet_redrafted g.W.Words.means
    c.publish.new.self c.publish.new.seat c.set_header.new.self c.set_header.new.seat _ _ _ _ _ c.set_header.ensures.step c.set_header.ensures.view still c.set_header.ensures.told)
    (quiet_completed g.W.Words.means
    c.set_header.new.self c.set_header.new.seat c.complete.new.self c.complete.new.seat _ _ _ _ c.complete.ensures.step c.complete.ensures.view
    (redrafts_holds (g.W.Words.means.view c.publish.new.self c.publish.new.seat) (g.W.Words.means.view c.set_header.new.self c.set_header.new.seat) _ c.set_header.new.held _
    c.set_header.ensures.view c.set_header.ensures.held still) c.complete.ensures.told))
