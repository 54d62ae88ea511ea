-- The list out that takes another variable.
use Rattle.std.specs.Prelude.{ℕ, ◌+◌, ◌*◌, Bool, ◌&&◌, List, leb, ltb, length}
use Rattle.places.specs.Records.{count_of}
use Rattle.stage_lists.specs.Format.{out_well_formed}

-- well formed, with less than 63 variables and two words behind them
unfoldable pub has_room : List ℕ → Bool
has_room ws = out_well_formed ws && (ltb (count_of ws) 63 && leb (2 + 2 * count_of ws + 2) (length ws))
