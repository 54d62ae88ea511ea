use Rattle.std.proofs.Common.{refl, arith, rules}
use Rattle.populate.proofs.Puts.{written_kept}
use Rattle.populate.proofs.WalkWays.{gives_nothing, lone_room, lone_put, again_before, again_room, again_put}
use Rattle.populate.proofs.WalkWays.{walked_below, walked_room, walked_start, walked_put, walked_written}
use Rattle.populate.proofs.WalkWays.{member_falls, member_in, below_on, more_asks, more_room, more_put, put_keeps}
use Rattle.populate.proofs.walk.+populate.Goals as goal

pub returns-then-note-eq0-clause-given : goal.returns-then-note-eq0-clause-given
returns-then-note-eq0-clause-given t c = search gives_nothing

pub put_lone-requires-clause-room : goal.put_lone-requires-clause-room
put_lone-requires-clause-room t c = search lone_room

pub returns-then-not-is_struct-clause-given : goal.returns-then-not-is_struct-clause-given
returns-then-not-is_struct-clause-given t c = search lone_put

pub returns-then-not-is_struct-clause-after : goal.returns-then-not-is_struct-clause-after
returns-then-not-is_struct-clause-after t c = search written_kept

pub put_again-requires : goal.put_again-requires
put_again-requires t c = (search again_before, search again_room)

pub returns-in-Some-clause-given : goal.returns-in-Some-clause-given
returns-in-Some-clause-given t c = search again_put

pub returns-in-Some-clause-after : goal.returns-in-Some-clause-after
returns-in-Some-clause-after t c = search written_kept

pub loop-k-init : goal.loop-k-init
loop-k-init t c = record {
  near = omega arith;
  out_len = refl;
  written_len = search rules;
  below = search walked_below;
  room = search walked_room;
  given = search walked_start;
  stands = search rules;
}

pub populate-next-requires : goal.populate-next-requires
populate-next-requires t c = (search member_falls, ((search member_in, search rules), (search rules, more_asks _ c.args.types.now.table.words.now _ _ c.loop-k.i _ _ _ c.loop-k-test.true c.member_type-m.ensures c.at-member.ensures.0 c.at-member.ensures.1 _ _ c.loop-k.invariant.room)))

pub loop-k-preserved : goal.loop-k-preserved
loop-k-preserved t c =
    let before = c.loop-k.invariant in
    let after = c.populate-next.ensures.given in
    let member = c.at-member.ensures in
    record {
      near = omega arith;
      out_len = search put_keeps;
      written_len = search rules;
      below = search below_on;
      room = more_room _ _ _ _ _ _ _ _ c.loop-k-test.true c.member_type-m.ensures member.0 member.1 _ _ _ _ _ after c.member_width-i.ensures.width before.room;
      given = more_put _ _ _ _ _ _ _ _ c.loop-k-test.true c.member_type-m.ensures member.0 member.1 _ _ _ _ _ after c.member_width-i.ensures.width _ before.given;
      stands = search rules;
    }

pub returns-clause-given : goal.returns-clause-given
returns-clause-given t c = search (walked_put, c.loop-k.invariant.given)

pub returns-clause-after : goal.returns-clause-after
returns-clause-after t c = search (walked_written, c.loop-k.invariant.given)
