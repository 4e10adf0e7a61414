use Rattle.std.proofs.Common.{◌∙◌, ℕ, ◌+◌, ◌*◌, length, refl, sym, ap, arith}
use Rattle.trace_model.specs.Encoding.{bytes_head}
use Rattle.trace_writer.proofs.accounts.Calling.{field_long}
use Rattle.trace_writer.proofs.here.put_text_here.Goals as goal

pub returns-clause-puts : goal.returns-clause-puts
returns-clause-puts c = λ _.
    let long = field_long (bytes_head c.args.field c.args.len) c.args.text.now c.args.times in
    record {
      fragment = c.in-Writing.fragment;
      next = c.put_whole.new.self;
      open_one = c.in-Some.packet;
      later = c.add_field.new.self;
      was = c.in-Writing.is;
      packet_was = c.in-Some.is;
      new_is = refl;
      put = c.if-not-put_whole.ensures.bytes refl;
      at = omega (arith, c.if-not-put_whole.ensures.at refl, c.requires.size, long);
      len = c.add_field.ensures.len
          ∙ ap (λ (n : ℕ). c.in-Some.packet.len + (n + c.from-2.result * length c.args.text.now)) (c.from.ensures ∙ c.requires.size)
          ∙ ap (λ (n : ℕ). c.in-Some.packet.len + (length (bytes_head c.args.field c.args.len) + n * length c.args.text.now)) c.from-2.ensures
          ∙ ap (λ (n : ℕ). c.in-Some.packet.len + n) (sym long);
      starts = c.add_field.ensures.starts;
    }
