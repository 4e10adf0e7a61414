use Rattle.std.proofs.Common.{arith}
use Rattle.scenario_check.proofs.CallLemmas.{number_field_of, bytes_field_of, may_nest, may_end, node_takes, number_takes, bytes_takes, nested_takes, end_call}
use Rattle.scenario_check.proofs.emit.emit_node.Goals as goal

pub number-requires : goal.number-requires
number-requires c = record { field = number_field_of c.args.node c.in-Number.field c.in-Number.value c.args.text.now _ c.args.emitter.now c.in-Number.is c.requires }

pub bytes-requires-clause-field : goal.bytes-requires-clause-field
bytes-requires-clause-field c = (bytes_field_of c.args.node c.in-Bytes.field c.in-Bytes.times c.args.text.now _ c.args.emitter.now c.in-Bytes.is c.requires).0

pub bytes-requires-clause-most : goal.bytes-requires-clause-most
bytes-requires-clause-most c = (bytes_field_of c.args.node c.in-Bytes.field c.in-Bytes.times c.args.text.now _ c.args.emitter.now c.in-Bytes.is c.requires).1

pub nested-requires-clause-field : goal.nested-requires-clause-field
nested-requires-clause-field c = (may_nest c.args.node c.in-Begin.field c.args.text.now _ c.args.emitter.now c.in-Begin.is c.requires).numbered

pub nested-requires-clause-room : goal.nested-requires-clause-room
nested-requires-clause-room c = (may_nest c.args.node c.in-Begin.field c.args.text.now _ c.args.emitter.now c.in-Begin.is c.requires).room

pub ended-requires-clause-nested : goal.ended-requires-clause-nested
ended-requires-clause-nested c = (may_end c.args.node c.args.text.now _ c.args.emitter.now c.in-End.is c.requires).nested

pub ended-requires-clause-writing : goal.ended-requires-clause-writing
ended-requires-clause-writing c =
    let may = may_end c.args.node c.args.text.now _ c.args.emitter.now c.in-End.is c.requires in
    (may.account, may.holds, may.writing)

pub returns-in-Number : goal.returns-in-Number
returns-in-Number c =
    number_takes c.number.result c.args.node c.in-Number.field c.in-Number.value c.args.text.now c.args.emitter.now c.number.new.self c.in-Number.is
    c.number.ensures.emitting c.number.ensures.long c.number.ensures.ends

pub returns-in-Bytes : goal.returns-in-Bytes
returns-in-Bytes c =
    bytes_takes c.bytes.result c.args.node c.in-Bytes.field c.in-Bytes.times c.args.text.now c.args.emitter.now c.bytes.new.self c.in-Bytes.is
    c.bytes.ensures.emitting c.bytes.ensures.long c.bytes.ensures.ends

pub returns-in-Begin : goal.returns-in-Begin
returns-in-Begin c =
    nested_takes c.nested.result c.args.node c.in-Begin.field c.args.text.now c.args.emitter.now c.nested.new.self c.in-Begin.is
    c.nested.ensures.emitting c.nested.ensures.long c.nested.ensures.ends

pub returns-in-End : goal.returns-in-End
returns-in-End c =
    let is = end_call c.args.node c.args.text.now c.in-End.is in
    node_takes c.args.node c.args.text.now _ 0 c.args.emitter.now c.ended.new.self is.0 is.1
    (λ account holds accepts. c.ended.ensures.emitting account holds accepts.0) (omega (arith, c.ended.ensures.long)) c.ended.ensures.ends
