use Rattle.part_rows.proofs.claims.claims_in_rising_order.Given as goal

abbrev pub ghosts-filled_by_five : goal.ghosts-filled_by_five
ghosts-filled_by_five g a = record { name = a.blank.name; parts = a.blank.parts }
