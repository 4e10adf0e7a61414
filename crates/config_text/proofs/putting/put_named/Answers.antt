use Rattle.std.proofs.Common.{List, ℕ, ◌++◌, rules}
use Rattle.std.specs.Prelude.{codes}
use Rattle.byte_io.proofs.Told.{part_first, part_second}
use Rattle.config_text.proofs.putting.put_named.Goals as goal

pub returns-in_err-put_all-2-clause-part : goal.returns-in_err-put_all-2-clause-part
returns-in_err-put_all-2-clause-part g c =
    let taken = g.O.Sink.taken in
    let rest : List ℕ = c.args.middle.now ++ (c.args.owner.now ++ codes "\" }\n") in
    let part = part_second (taken c.args.out.now) (taken c.put_all.new.out) (taken c.put_all-2.new.out) c.args.head.now (c.args.name.now ++ rest) c.in_ok-put_all.ensures.all
    (part_first (taken c.put_all.new.out) (taken c.put_all-2.new.out) c.args.name.now rest c.in_err-put_all-2.ensures.part) in
    search (rules, part)
