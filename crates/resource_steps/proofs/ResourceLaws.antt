-- Positions that were found.
use Rattle.std.proofs.Common.{Option, Some, None}
use Prim.Native.Nat.{ℕ}
use native.Mathlib.Omega.{arith}
use mathlib.Core.Path.{◌≡◌, refl}
use mathlib.Core.Bool.{true}
use mathlib.Core.List.{List}
use lib.ListN.{length}
use borrow.Author.Tests.{lt-ltb, ltb-true}
use Rattle.places.specs.Places.{found_below}
use Rattle.layouts.specs.Format.{layout_well_formed, decode_layout}
use Rattle.layouts.proofs.LayoutStores.{layout_few}

-- the position that was found fits into a byte
pub found_few : (l : List ℕ) (f : Option ℕ) → layout_well_formed l ≡ true → found_below (length (decode_layout l).entries) f ≡ true → found_below 256 f ≡ true
found_few l (Some i) h b = lt-ltb i 256 (omega (arith, layout_few l h, ltb-true i (length (decode_layout l).entries) b))
found_few l None h b = refl
