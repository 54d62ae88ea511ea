-- What the words of a texture mean.
use Rattle.std.specs.Prelude.{ℕ, Bool, ◌==◌}
use Rattle.word.specs.Choice.{pick}
use Rattle.word.specs.Words.{bits}
use Rattle.bindings.specs.Rules.{view_fits}
use Rattle.bindings.specs.Format.{type_code, bit_set, dimension_at, sample_kind_at, view_at}
use Rattle.bindings.specs.declared.types.ImageClass.{ImageClass}
use Rattle.bindings.specs.declared.types.ImageClass.TheVariants as Class

-- the class that a texture's type word means
abbrev pub class_at : ℕ → ImageClass
class_at w =
    pick (type_code w == 2) (Class.Sampled (sample_kind_at (bits 5 4 w)) (bit_set 3 w))
    (pick (type_code w == 3) (Class.Depth (bit_set 3 w)) (pick (type_code w == 4) (Class.Storage (bits 14 8 w) (bits 18 16 w)) Class.External))

-- whether a texture stands in the view of a code
abbrev pub stands : ℕ → ℕ → Bool
stands w view = view_fits (dimension_at (bits 1 0 w)) (bit_set 2 w) (view_at view)
