-- What a branch's test says, as an equation of the test's value: `search tests` rewrites by these and finds the premises.
use Rattle.std.proofs.Common.{◌≡◌, Bool, true, false, le-ltb, lt-ltb, eq-eqb, ne_eqb, le-leb}
use borrow.Author.Tests.{lt-leb}
use Rattle.word.specs.Choice.{yes}

pub yes_true : (b : Bool) → b ≡ true → yes b ≡ true
unfolding yes
yes_true b e = e

pub yes_false : (b : Bool) → b ≡ false → yes b ≡ false
unfolding yes
yes_false b e = e

pub ruleset tests = (eq-eqb, ne_eqb, lt-ltb, le-ltb, le-leb, lt-leb, yes_true, yes_false)
