use Rattle.trace_base.specs.Ids.{position_of}
use Rattle.trace_buffer.specs.Calls.{from_in}
use Rattle.trace_buffer.proofs.ReadyLemmas.{after_image, after_partial, after_advance, after_close}
use Rattle.trace_buffer_rows.proofs.play.acts.Goals as goal

pub returns-after-count-le-MAX_FRAGMENTS : goal.returns-after-count-le-MAX_FRAGMENTS
returns-after-count-le-MAX_FRAGMENTS g c =
    after_image c.args.buffer.now c.arrive.new.self c.args.sequence (position_of (from_in c.args.buffer.now c.args.sequence) c.id_at.result) c.in-Arrive.flags _ c.arrive.ensures.after

pub returns-after-is_open-2 : goal.returns-after-is_open-2
returns-after-is_open-2 g c =
    after_partial c.args.buffer.now c.arrive_partial.new.self c.args.sequence (position_of (from_in c.args.buffer.now c.args.sequence) c.id_at-in-Part.result) 0 _ c.arrive_partial.ensures.after

pub returns-in-Advance : goal.returns-in-Advance
returns-in-Advance g c = after_advance c.args.buffer.now c.advance.new.self _ _ _ c.advance.ensures

pub returns-in-Close : goal.returns-in-Close
returns-in-Close g c = after_close c.args.buffer.now c.close_sequence.new.self _ c.close_sequence.ensures
