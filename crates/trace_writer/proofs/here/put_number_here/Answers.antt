use Rattle.std.proofs.Common.{◌∙◌, ℕ, ◌+◌, refl, ap}
use Rattle.trace_writer.proofs.here.put_number_here.Goals as goal

pub returns-clause-puts : goal.returns-clause-puts
returns-clause-puts c = λ _. record {
  fragment = c.in-Writing.fragment;
  next = c.put_number.new.self;
  open_one = c.in-Some.packet;
  later = c.add_field.new.self;
  was = c.in-Writing.is;
  packet_was = c.in-Some.is;
  new_is = refl;
  put = c.if-not-put_number.ensures.bytes refl;
  at = c.if-not-put_number.ensures.at refl;
  len = c.add_field.ensures.len ∙ ap (λ (n : ℕ). c.in-Some.packet.len + n) (c.from.ensures ∙ c.requires.size);
  starts = c.add_field.ensures.starts;
}
