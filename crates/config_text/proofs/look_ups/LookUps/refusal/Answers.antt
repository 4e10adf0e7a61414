-- What a block of each kind is refused for, once its fields have their kinds.
use Rattle.std.proofs.Common.{◌≡◌, ◌∙◌, ap, rules, true}
use Rattle.std.proofs.lemmas.Result.{MatchResult-weaker}
use Rattle.config_text.specs.declared.kept.KeptWhat.TheVariants as kept
use Rattle.config_text.specs.Looking.{known_of}
use Rattle.config_text.specs.Reasons.{refusal_of}
use Rattle.config_text.proofs.JudgeLemmas.{fit_what}
use Rattle.config_text.proofs.look_ups.LookUps.refusal.Goals as goal

pub returns-in-Buffer : goal.returns-in-Buffer
returns-in-Buffer c = λ blocks has.
    let fits : c.args.block.fits ≡ true = search rules in
    c.buffer_refusal.ensures (known_of c.args.self.now) blocks c.args.block.line has.buffers
    ∙ ap (refusal_of (known_of c.args.self.now) blocks) (fit_what c.args.entries.now c.args.block (kept.Buffer c.in-Buffer.said) fits c.in-Buffer.is)

pub returns-in-Producer : goal.returns-in-Producer
returns-in-Producer c = λ blocks has.
    let fits : c.args.block.fits ≡ true = search rules in
    c.producer_refusal.ensures (known_of c.args.self.now) blocks c.args.block.line has.producers
    ∙ ap (refusal_of (known_of c.args.self.now) blocks) (fit_what c.args.entries.now c.args.block (kept.Producer c.in-Producer.said) fits c.in-Producer.is)

pub returns-in-Source : goal.returns-in-Source
returns-in-Source c =
    let fits : c.args.block.fits ≡ true = search rules in
    MatchResult-weaker c.source_refusal.result c.source_refusal.ensures
    (λ found is blocks has. is blocks c.args.block.line has.sources
    ∙ ap (refusal_of (known_of c.args.self.now) blocks) (fit_what c.args.entries.now c.args.block (kept.Source c.in-Source.said) fits c.in-Source.is))
    (λ fault nothing. nothing)
