use Rattle.std.proofs.Common.{◌≡◌, length, take}
use Rattle.places.specs.Records.{put}
use Rattle.places.proofs.stores.store.Given as goal

abbrev pub invariant-loop-i : goal.invariant-loop-i
invariant-loop-i g l = (length l.l ≡ length l.initial.l) × (l.l ≡ put l.initial.l l.at (take l.i l.words))
