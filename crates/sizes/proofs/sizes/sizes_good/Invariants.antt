use Rattle.std.proofs.Common.{◌≡◌, ◌-◌, ◌*◌, drop}
use Rattle.places.specs.Records.{each}
use Rattle.sizes.specs.Format.{size_good}
use Rattle.sizes.proofs.sizes.sizes_good.Given as goal

abbrev pub invariant-loop-i : goal.invariant-loop-i
invariant-loop-i l = each 2 size_good l.records.n l.records.words.now ≡ each 2 size_good (l.records.n - l.i) (drop (2 * l.i) l.records.words.now)
