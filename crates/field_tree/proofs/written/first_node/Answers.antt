use Rattle.std.proofs.Common.{arith, refl}
use Rattle.field_tree.proofs.FirstLemmas.{tag_read, number_first, text_read, text_within, text_first, begin_first, end_first, IsFirst_as}
use Rattle.field_tree.proofs.written.first_node.Goals as goal

pub overflow_cast-field : goal.overflow_cast-field
overflow_cast-field c =
    let has = tag_read c.requires.0 c.requires.1 c.args.bytes.now c.split_number-tag.result.0 c.split_number-tag.result.1.now c.requires.2 c.requires.3 c.split_number-tag.ensures in
    omega (arith, has.small)

pub overflow_cast-result : goal.overflow_cast-result
overflow_cast-result c =
    let has =
    (text_read c.requires.0 c.requires.1 c.split_number-tag.result.0 c.split_number-times.result.0 c.split_number-len.result.0 c.split_number-tag.result.1.now
    c.split_number-times.result.1.now c.split_number-len.result.1.now c.requires.2
    (tag_read c.requires.0 c.requires.1 c.args.bytes.now c.split_number-tag.result.0 c.split_number-tag.result.1.now c.requires.2 c.requires.3 c.split_number-tag.ensures)
    c.in-1.is c.split_number-times.ensures c.split_number-len.ensures) in
    omega (arith, has.times_fit)

pub split_at-requires : goal.split_at-requires
split_at-requires c = text_within _ _ _ _ _ _
    (text_read c.requires.0 c.requires.1 c.split_number-tag.result.0 c.split_number-times.result.0 c.split_number-len.result.0 c.split_number-tag.result.1.now
    c.split_number-times.result.1.now c.split_number-len.result.1.now c.requires.2
    (tag_read c.requires.0 c.requires.1 c.args.bytes.now c.split_number-tag.result.0 c.split_number-tag.result.1.now c.requires.2 c.requires.3 c.split_number-tag.ensures)
    c.in-1.is c.split_number-times.ensures c.split_number-len.ensures)

pub returns-in-0 : goal.returns-in-0
returns-in-0 c node rest is cut =
    number_first node rest _ _ _ _ _ is (tag_read node rest c.args.bytes.now _ _ is cut c.split_number-tag.ensures) c.in-0.is c.split_number-value.ensures refl

pub returns-in-1 : goal.returns-in-1
returns-in-1 c node rest is cut =
    IsFirst_as node rest _ _ _ _ _ c.split_at.ensures.front c.split_at.ensures.back
    (text_first node rest _ _ _ _
    (text_read node rest _ _ _ _ _ _ is (tag_read node rest c.args.bytes.now _ _ is cut c.split_number-tag.ensures) c.in-1.is
    c.split_number-times.ensures c.split_number-len.ensures))

pub returns-in-2 : goal.returns-in-2
returns-in-2 c node rest is cut =
    begin_first node rest _ _ _ is (tag_read node rest c.args.bytes.now _ _ is cut c.split_number-tag.ensures) c.in-2.is refl

pub returns-in_default : goal.returns-in_default
returns-in_default c node rest is cut =
    end_first node rest _ _ _ is (tag_read node rest c.args.bytes.now _ _ is cut c.split_number-tag.ensures)
    (omega (arith, c.in_default)) refl
