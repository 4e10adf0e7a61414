use Rattle.std.proofs.Common.{ap, ap₂, ◌∙◌}
use Rattle.std.proofs.lemmas.Result.{IfOk-weaker}
use Rattle.clap.specs.Words.{App, with_subcommand}
use Rattle.command_words.proofs.program.program.Goals as goal

pub returns : goal.returns
returns c =
    let first = c.in_ok-subcommand.ensures.shape c.plain.ensures.local ∙ ap₂ with_subcommand c.bare.ensures (ap (λ (a : App). a.top) c.plain.ensures.app) in
    let second = c.in_ok-subcommand-2.ensures.shape c.plain-2.ensures.local ∙ ap₂ with_subcommand first (ap (λ (a : App). a.top) c.plain-2.ensures.app) in
    let third = c.in_ok-subcommand-3.ensures.shape c.plain-3.ensures.local ∙ ap₂ with_subcommand second (ap (λ (a : App). a.top) c.plain-3.ensures.app) in
    let fourth = c.in_ok-subcommand-4.ensures.shape c.plain-4.ensures.local ∙ ap₂ with_subcommand third (ap (λ (a : App). a.top) c.plain-4.ensures.app) in
    let fifth = c.in_ok-subcommand-5.ensures.shape c.in_ok-generator.ensures.local ∙ ap₂ with_subcommand fourth (ap (λ (a : App). a.top) c.in_ok-generator.ensures.app) in
    let sixth = c.in_ok-subcommand-6.ensures.shape c.plain-5.ensures.local ∙ ap₂ with_subcommand fifth (ap (λ (a : App). a.top) c.plain-5.ensures.app) in
    let seventh = c.in_ok-subcommand-7.ensures.shape c.plain-6.ensures.local ∙ ap₂ with_subcommand sixth (ap (λ (a : App). a.top) c.plain-6.ensures.app) in
    IfOk-weaker c.subcommand-8.result _ _ (λ command added. added.shape c.in_ok-tuner.ensures.local
    ∙ ap₂ with_subcommand seventh (ap (λ (a : App). a.top) c.in_ok-tuner.ensures.app)) c.subcommand-8.ensures
