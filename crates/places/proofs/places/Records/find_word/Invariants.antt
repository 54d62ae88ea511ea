use Rattle.std.proofs.Common.{◌≡◌, true, ◌-◌, ◌*◌, drop}
use Rattle.bindings.specs.Format.{place_of}
use Rattle.places.specs.Places.{place_from, places}
use Rattle.places.specs.Records.{each}
use Rattle.places.specs.Inner.Begins.{place_first}
use Rattle.places.proofs.places.Records.find_word.Given as goal

abbrev pub invariant-loop-i : goal.invariant-loop-i
invariant-loop-i g l =
    (each g.row.WIDTH place_first (l.self.n - l.i) (drop (g.row.WIDTH * l.i) l.self.words.now) ≡ true)
    × (place_from (place_of l.place) (places g.row.WIDTH l.self.n l.self.words.now) 0 ≡ place_from (place_of l.place) (places g.row.WIDTH (l.self.n - l.i) (drop (g.row.WIDTH * l.i) l.self.words.now)) l.i)
