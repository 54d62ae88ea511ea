use Rattle.std.proofs.Common.{arith}
use Rattle.std.proofs.lemmas.Nat.{pow_below}
use Rattle.test_bindings.proofs.bits.Goals as goal

pub content-requires : goal.content-requires
content-requires g c = let below = pow_below c.loop-place.place 23 c.loop-place-test.true in omega arith
