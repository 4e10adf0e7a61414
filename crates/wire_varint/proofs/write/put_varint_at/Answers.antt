use Rattle.wire_varint.proofs.Writing.{put_nothing, put_room, put_more, put_last, put_end}
use Rattle.wire_varint.proofs.write.put_varint_at.Goals as goal

pub loop-rest-init : goal.loop-rest-init
loop-rest-init c = put_nothing c.args.out.now c.args.value c.args.at c.ranges.value.fits

pub bounds-out-here : goal.bounds-out-here
bounds-out-here c = put_room _ _ _ _ _ _ c.loop-rest.invariant c.requires

pub bounds-out-here-2 : goal.bounds-out-here-2
bounds-out-here-2 c = put_room _ _ _ _ _ _ c.loop-rest.invariant c.requires

pub loop-rest-preserved : goal.loop-rest-preserved
loop-rest-preserved c = put_more _ _ _ _ _ _ c.loop-rest.invariant c.requires c.loop-rest-test.true

pub returns-clause-bytes : goal.returns-clause-bytes
returns-clause-bytes c = put_last _ _ _ _ _ _ c.loop-rest.invariant c.requires c.loop-rest-test.false

pub returns-clause-behind : goal.returns-clause-behind
returns-clause-behind c = put_end _ _ _ _ _ _ c.loop-rest.invariant c.loop-rest-test.false
