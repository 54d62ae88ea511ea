use Rattle.std.proofs.Common.{◌≡◌, ◌+◌, ◌-◌, ◌*◌, ◌^◌, ◌<◌, ◌≤◌, true, length, drop}
use Rattle.type_check.specs.Inner.Positions.{earlier_of, members_at, members_below}
use Rattle.populate.specs.Inner.Written.{put, room, members_words, Written}
use Rattle.populate.proofs.walk.+populate.Given as goal

abbrev pub decreases-populate : goal.decreases-populate
decreases-populate l = l.n

abbrev pub invariant-loop-k : goal.invariant-loop-k
invariant-loop-k l = record {
  near : l.i + 3 * (l._k-end - l._k) < 2 ^ 60;
  out_len : length l.out ≡ length l.initial.out;
  written_len : length l.written ≡ 256;
  below : members_below l.n (members_at (l._k-end - l._k) (drop l.i l.types.table.words.now)) ≡ true;
  room : l.next + length (members_words (earlier_of l.types.table.words.now l.types.count) (l._k-end - l._k) (drop l.i l.types.table.words.now)) ≤ room l.out;
  given : put l.initial.out l.to (members_words (earlier_of l.types.table.words.now l.types.count) l._k-end (drop (l.start + 1) l.types.table.words.now))
      ≡ put l.out l.next (members_words (earlier_of l.types.table.words.now l.types.count) (l._k-end - l._k) (drop l.i l.types.table.words.now));
  stands : Written (earlier_of l.types.table.words.now l.types.count) l.written l.out l.next;
}
