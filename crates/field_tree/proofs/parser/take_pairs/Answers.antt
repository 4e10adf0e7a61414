use Rattle.std.proofs.Common.{◌≡◌, ◌+◌, [], ◌∷◌, ◌++◌, length, arith, ap, ◌∙◌}
use Rattle.field_tree.specs.declared.mode.Mode.TheVariants.{Pairs}
use Rattle.field_tree.specs.Scanning.{reading_with}
use Rattle.field_tree.proofs.ScanLemmas.{stays_here, reads_on_pairs, over_pair}
use Rattle.field_tree.proofs.parser.take_pairs.Goals as goal

pub pairs-init : goal.pairs-init
pairs-init c = ((λ nodes depth field. stays_here (reading_with nodes depth c.args.text.now.items (Pairs field)) c.args.bytes.now), c.requires)

pub pairs-preserved : goal.pairs-preserved
pairs-preserved c =
    let behind = c.in-Some.behind.now in
    let cut : length c.pairs.rest.now ≡ length behind + 2 = ap length c.in-Some.ensures.cut ∙ (omega arith) in (
      rw c.push_reserved.ensures.items
          (reads_on_pairs c.args.text.now.items c.pairs.text.items (c.pairs.text.items ++ c.in-Some.byte ∷ []) c.args.bytes.now c.pairs.rest.now behind c.pairs.invariant.0
          (λ nodes depth field. over_pair nodes depth field c.in-Some.byte c.pairs.text.items c.pairs.rest.now behind c.in-Some.ensures)),
      omega (arith, c.pairs.invariant.1, c.push_reserved.ensures.len, c.push_reserved.ensures.capacity, cut),
    )
