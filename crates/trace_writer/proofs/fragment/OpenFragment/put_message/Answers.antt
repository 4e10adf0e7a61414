use Rattle.std.proofs.Common.{◌∙◌, ℕ, ◌+◌, ap}
use Rattle.trace_writer.proofs.fragment.OpenFragment.put_message.Goals as goal

pub returns-clause-opens : goal.returns-clause-opens
returns-clause-opens c = λ fits. record {
  tagged = c.put_tag.new.self;
  put = c.put_tag.ensures.bytes;
  at = c.put_tag.ensures.at ∙ ap (λ (n : ℕ). c.args.self.now.at + n) c.requires.size;
  put_length = c.put_hole.ensures.bytes fits;
  length_at = c.put_hole.ensures.at fits;
  adds = c.put_hole.ensures.added fits;
}
