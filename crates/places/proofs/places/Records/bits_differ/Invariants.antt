use Rattle.std.proofs.Common.{◌≡◌, true, ◌-◌, ◌*◌, drop}
use Rattle.places.specs.Places.{distinct_places, places}
use Rattle.word.specs.Lists.{every}
use Rattle.places.specs.Inner.Marks.{taken}
use Rattle.places.proofs.places.Records.bits_differ.Given as goal

abbrev pub invariant-loop-i : goal.invariant-loop-i
invariant-loop-i g l =
    (every (taken l.mask) (places g.row.WIDTH (l.self.n - l.i) (drop (g.row.WIDTH * l.i) l.self.words.now)) ≡ true)
    × (distinct_places (places g.row.WIDTH (l.self.n - l.i) (drop (g.row.WIDTH * l.i) l.self.words.now)) ≡ true)
