use Rattle.std.proofs.Common.{◌∙◌, arith}
use Rattle.std.proofs.lemmas.Grind.{get_or_default_zero}
use Rattle.chunk_words.proofs.host.HostTable.first_index.Goals as goal

pub returns : goal.returns
returns c =
    let self = c.args.self.now in let chunk = c.args.chunk in
    c.index.ensures ∙ (get_or_default_zero self.starts.items chunk c.index.result.now (let many = self.start_count in let same = self.starts.ok.0 in let inside = c.requires in omega arith) ∙ self.start_is chunk c.requires)
