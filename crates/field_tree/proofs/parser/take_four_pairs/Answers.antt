use Rattle.std.proofs.Common.{◌≡◌, [], ◌∷◌, ◌++◌, arith}
use Rattle.field_tree.specs.declared.mode.Mode.TheVariants.{Pairs}
use Rattle.field_tree.specs.Scanning.{reading_with}
use Rattle.field_tree.proofs.ScanLemmas.{stays_here, reads_on_pairs, over_pairs, four_pushed, pairs_length}
use Rattle.field_tree.proofs.parser.take_four_pairs.Goals as goal

pub pairs-init : goal.pairs-init
pairs-init c = ((λ nodes depth field. stays_here (reading_with nodes depth c.args.text.now.items (Pairs field)) c.args.bytes.now), c.requires)

pub pairs-preserved : goal.pairs-preserved
pairs-preserved c =
    let four = c.in-Some.four in
    let behind = four.behind.now in
    let said = four.first ∷ four.second ∷ four.third ∷ four.fourth ∷ [] in
    let text = c.pairs.text.items in
    let items : c.push_reserved-in-Some-3.new.self.items ≡ text ++ said = four_pushed text four.first four.second four.third four.fourth
    c.push_reserved.ensures.items c.push_reserved-in-Some.ensures.items c.push_reserved-in-Some-2.ensures.items c.push_reserved-in-Some-3.ensures.items in
    let cut = pairs_length c.pairs.rest.now said behind c.in-Some.ensures in (
      rw items
          (reads_on_pairs c.args.text.now.items text (text ++ said) c.args.bytes.now c.pairs.rest.now behind c.pairs.invariant.0
          (λ nodes depth field. over_pairs nodes depth field text c.pairs.rest.now said behind c.in-Some.ensures)),
      omega (arith, c.pairs.invariant.1, c.push_reserved.ensures.len, c.push_reserved.ensures.capacity, c.push_reserved-in-Some.ensures.len, c.push_reserved-in-Some.ensures.capacity, c.push_reserved-in-Some-2.ensures.len, c.push_reserved-in-Some-2.ensures.capacity, c.push_reserved-in-Some-3.ensures.len, c.push_reserved-in-Some-3.ensures.capacity, cut),
    )
