use Rattle.std.proofs.Common.{length, ap, refl, arith}
use Rattle.tune_lines.specs.Lines.{user_line}
use Rattle.tune_lines.proofs.lines.user_line.Goals as goal

pub push_end-requires : goal.push_end-requires
push_end-requires c =
    let none = ap length c.new-line.ensures in
    let one = c.push_field.ensures.room in let two = c.push_field-2.ensures.room in let three = c.push_field-3.ensures.room in let four = c.push_field-4.ensures.room in let five = c.push_field-5.ensures.room in
    omega (arith, none, one, two, three, four, five)

pub returns : goal.returns
unfolding user_line
returns c =
    rw (c.push_end.ensures, c.push_field-5.ensures.items, c.push_field-4.ensures.items, c.push_field-3.ensures.items, c.push_field-2.ensures.items, c.push_field.ensures.items, c.new-line.ensures) refl
