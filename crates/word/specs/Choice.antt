-- How a definition goes by a test.
use Rattle.std.specs.Prelude.{Bool, true, false}

-- the first where the test holds, else the second
abbrev pub pick : {A : Type 0} → Bool → A → A → A
pick true a b = a
pick false a b = b

-- a truth value that a definition tests; it is shut, so that an equation of the value rewrites the test
unfoldable pub yes : Bool → Bool
yes b = b
