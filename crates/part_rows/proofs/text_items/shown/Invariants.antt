use Rattle.part_rows.proofs.text_items.shown.Given as goal

abbrev pub decreases-items : goal.decreases-items
decreases-items l = l.reader.left
