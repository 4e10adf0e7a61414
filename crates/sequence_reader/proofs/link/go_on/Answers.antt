use Rattle.std.proofs.Common.{sym, ap, ◌∙◌, subst}
use Rattle.sequence_reader.specs.Links.{IsWalked}
use Rattle.sequence_reader.proofs.ChainLemmas.{longer_chain, ended_chain, walked_longer, walked_to_start, walked_to_gap, walked_to_stop}
use Rattle.sequence_reader.proofs.link.go_on.Goals as goal

pub returns-then-not-piece-clause-chain : goal.returns-then-not-piece-clause-chain
returns-then-not-piece-clause-chain c =
    subst (IsWalked c.args.buffer.now c.args.bounds) (sym c.ended-then-not-piece.ensures)
    (walked_to_start c.args.buffer.now c.args.bounds c.args.chain c.in-Fragment.piece c.requires.chain c.requires.on c.in-Fragment.ensures.shows c.if-not-piece.true)

pub returns-else-not-piece-clause-chain : goal.returns-else-not-piece-clause-chain
returns-else-not-piece-clause-chain c =
    subst (IsWalked c.args.buffer.now c.args.bounds)
    (λ i. record (longer_chain c.args.buffer.now c.args.bounds c.args.chain c.in-Fragment.piece) { awaits = sym c.either.ensures i; goes_on = sym c.both.ensures i; fate = sym c.end_of.ensures i })
    (walked_longer c.args.buffer.now c.args.bounds c.args.chain c.in-Fragment.piece c.requires.chain c.requires.on c.in-Fragment.ensures.shows c.if-not-piece.false)

pub returns-in-Stop-clause-chain : goal.returns-in-Stop-clause-chain
returns-in-Stop-clause-chain c =
    subst (IsWalked c.args.buffer.now c.args.bounds)
    (sym (c.ended.ensures ∙ ap (ended_chain c.args.buffer.now c.args.bounds c.args.chain) c.end_at_stop.ensures))
    (walked_to_stop c.args.buffer.now c.args.bounds c.args.chain c.in-Stop.why c.in-Stop.may c.requires.chain c.requires.on c.in-Stop.ensures.shows)

pub returns-in-Gap-clause-chain : goal.returns-in-Gap-clause-chain
returns-in-Gap-clause-chain c =
    subst (IsWalked c.args.buffer.now c.args.bounds)
    (sym (c.ended-in-Gap.ensures ∙ ap (ended_chain c.args.buffer.now c.args.bounds c.args.chain) c.end_at_gap.ensures))
    (walked_to_gap c.args.buffer.now c.args.bounds c.args.chain c.in-Gap.lost c.requires.chain c.requires.on c.in-Gap.ensures.shows)
