use Rattle.std.proofs.Common.{◌∙◌, ℕ, ◌+◌, refl, ap}
use Rattle.trace_writer.proofs.here.put_nested_here.Goals as goal

pub returns-clause-puts : goal.returns-clause-puts
returns-clause-puts c = λ _. record {
  fragment = c.in-Writing.fragment;
  next = c.put_message.new.self;
  open_one = c.in-Some.packet;
  later = c.add_nested.new.self;
  was = c.in-Writing.is;
  packet_was = c.in-Some.is;
  new_is = refl;
  opens = c.if-not-put_message.ensures.opens refl;
  len = c.add_nested.ensures.len ∙ ap (λ (n : ℕ). c.in-Some.packet.len + (n + 4)) c.requires.size;
  starts = c.add_nested.ensures.starts;
}
