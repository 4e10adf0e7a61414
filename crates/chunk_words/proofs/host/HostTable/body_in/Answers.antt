use Rattle.std.proofs.Common.{ℕ, ◌∙◌, Option, List, ◌∷◌, ap, sym}
use Rattle.commit_body.specs.declared.body.CommitBody.{CommitBody}
use Rattle.atomic_table.specs.Table.{rest}
use Rattle.chunk_words.specs.Moves.{body_in}
use Rattle.chunk_words.proofs.host.HostTable.body_in.Goals as goal

pub exchange-requires : goal.exchange-requires
exchange-requires c =
    let me = c.args.seat.now.me in let slot = c.requires.slot in
    (c.requires.seat, (body_in me.1, slot ∙ ap (λ (l : List (ℕ × Option CommitBody)). (c.args.chunk, body_in me.1) ∷ l) (sym (ap (λ (l : List (ℕ × Option CommitBody)). rest l) slot))))
