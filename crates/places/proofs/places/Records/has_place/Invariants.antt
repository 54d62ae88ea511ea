use Rattle.std.proofs.Common.{◌≡◌}
use Rattle.bindings.specs.Format.{place_of}
use Rattle.places.specs.Places.{place_in, places}
use Rattle.places.proofs.places.Records.has_place.Given as goal

abbrev pub invariant-loop-i : goal.invariant-loop-i
invariant-loop-i g l = place_in (place_of l.content) (places g.row.WIDTH l.self.n l.self.words.now) ≡ place_in (place_of l.content) (places g.row.WIDTH l.i l.self.words.now)
