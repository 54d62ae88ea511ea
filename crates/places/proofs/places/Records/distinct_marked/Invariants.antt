use Rattle.std.proofs.Common.{◌≡◌, true, ◌-◌, ◌*◌, length, drop}
use Rattle.places.specs.Places.{distinct_places, places}
use Rattle.word.specs.Lists.{every}
use Rattle.places.specs.Inner.Marks.{marked}
use Rattle.places.proofs.places.Records.distinct_marked.Given as goal

abbrev pub invariant-loop-i : goal.invariant-loop-i
invariant-loop-i g l =
    (length l.marks ≡ 1024) × (every (marked l.marks) (places g.row.WIDTH (l.self.n - l.i) (drop (g.row.WIDTH * l.i) l.self.words.now)) ≡ true)
    × (distinct_places (places g.row.WIDTH (l.self.n - l.i) (drop (g.row.WIDTH * l.i) l.self.words.now)) ≡ true)
