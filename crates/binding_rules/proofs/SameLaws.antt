-- What the derived equality of each type says.
use Rattle.std.proofs.Common.{◌≡◌, Bool, true, false, refl}
use mathlib.Core.Bool.{beq}
use Rattle.word.specs.Choice.{yes}
use Rattle.bindings.specs.Rules.{same_bool, same_space, class_of, sampled_fits}
use Rattle.bindings.specs.declared.types.AddressSpace.{AddressSpace}
use Rattle.bindings.specs.declared.types.AddressSpace.TheVariants as Space
use Rattle.bindings.specs.declared.types.SampleKind.TheVariants as Kind
use Rattle.bindings.specs.declared.types.ImageClass.{ImageClass}
use Rattle.bindings.specs.declared.types.ImageClass.TheVariants as Class
use Rattle.bindings.specs.declared.types.TextureSampleType.{TextureSampleType}
use Rattle.bindings.specs.declared.types.TextureSampleType.TheVariants as Sample
use Rattle.bindings.specs.contracts.types.AddressSpacePartialEq.TheImpl.{ghosts as spaces}
use Rattle.bindings.specs.contracts.types.ImageClassPartialEq.TheImpl.{ghosts as classes}

-- equality of truth values
flag_same : (a b : Bool) → beq a b ≡ same_bool a b
unfolding yes
flag_same true true = refl
flag_same true false = refl
flag_same false true = refl
flag_same false false = refl

-- address spaces
pub space_same : (a b : AddressSpace) → spaces.eq a b ≡ same_space a b
unfolding same_space
space_same Space.Uniform Space.Uniform = refl
space_same Space.Uniform (Space.Storage y) = refl
space_same Space.Uniform Space.Other = refl
space_same (Space.Storage x) Space.Uniform = refl
space_same (Space.Storage x) (Space.Storage y) = refl
space_same (Space.Storage x) Space.Other = refl
space_same Space.Other Space.Uniform = refl
space_same Space.Other (Space.Storage y) = refl
space_same Space.Other Space.Other = refl

-- a shader's class and that of a sampled entry
pub class_same : (class : ImageClass) (sample : TextureSampleType) (multi : Bool) → classes.eq class (class_of sample multi) ≡ sampled_fits class (class_of sample multi)
unfolding sampled_fits yes
class_same (Class.Sampled Kind.Float m) (Sample.Float f) multi = flag_same m multi
class_same (Class.Sampled Kind.Sint m) (Sample.Float f) multi = refl
class_same (Class.Sampled Kind.Uint m) (Sample.Float f) multi = refl
class_same (Class.Sampled Kind.Float m) Sample.Sint multi = refl
class_same (Class.Sampled Kind.Sint m) Sample.Sint multi = flag_same m multi
class_same (Class.Sampled Kind.Uint m) Sample.Sint multi = refl
class_same (Class.Sampled Kind.Float m) Sample.Uint multi = refl
class_same (Class.Sampled Kind.Sint m) Sample.Uint multi = refl
class_same (Class.Sampled Kind.Uint m) Sample.Uint multi = flag_same m multi
class_same (Class.Sampled kind m) Sample.Depth multi = refl
class_same (Class.Depth m) (Sample.Float f) multi = refl
class_same (Class.Depth m) Sample.Depth multi = flag_same m multi
class_same (Class.Depth m) Sample.Sint multi = refl
class_same (Class.Depth m) Sample.Uint multi = refl
class_same (Class.Storage format access) (Sample.Float f) multi = refl
class_same (Class.Storage format access) Sample.Depth multi = refl
class_same (Class.Storage format access) Sample.Sint multi = refl
class_same (Class.Storage format access) Sample.Uint multi = refl
class_same Class.External (Sample.Float f) multi = refl
class_same Class.External Sample.Depth multi = refl
class_same Class.External Sample.Sint multi = refl
class_same Class.External Sample.Uint multi = refl
