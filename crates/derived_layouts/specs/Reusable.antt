-- Demand 3's conditions on a resource, under which the entry that it derives serves it.
use Rattle.std.specs.Prelude.{Bool, true, false, not, ◌&&◌, ◌||◌, eqb, ltb}
use Rattle.bindings.specs.declared.types.AddressSpace.{AddressSpace}
use Rattle.bindings.specs.declared.types.AddressSpace.TheVariants as Space
use Rattle.bindings.specs.declared.types.ImageDimension.{ImageDimension}
use Rattle.bindings.specs.declared.types.ImageDimension.TheVariants as Dim
use Rattle.bindings.specs.declared.types.ImageClass.{ImageClass}
use Rattle.bindings.specs.declared.types.ImageClass.TheVariants as Class
use Rattle.bindings.specs.declared.types.ResourceType.{ResourceType}
use Rattle.bindings.specs.declared.types.ResourceType.TheVariants as Res

-- 'storage buffers are load or load with store'
abbrev pub space_reusable : AddressSpace → Bool
space_reusable Space.Uniform = true
space_reusable (Space.Storage access) = eqb access 1 || eqb access 3
space_reusable Space.Other = true

-- 'its arrayed textures 2D or cube'
abbrev pub array_reusable : ImageDimension → Bool → Bool
array_reusable Dim.D1 arrayed = not arrayed
array_reusable Dim.D2 arrayed = true
array_reusable Dim.D3 arrayed = not arrayed
array_reusable Dim.Cube arrayed = true

-- 'its external textures 2D and not arrayed'
abbrev pub plain_2d : ImageDimension → Bool → Bool
plain_2d Dim.D1 arrayed = false
plain_2d Dim.D2 arrayed = not arrayed
plain_2d Dim.D3 arrayed = false
plain_2d Dim.Cube arrayed = false

-- 'its atomic storage textures also load and store'
abbrev pub class_reusable : ImageDimension → Bool → ImageClass → Bool
class_reusable dim arrayed (Class.Sampled kind multi) = true
class_reusable dim arrayed (Class.Depth multi) = true
class_reusable dim arrayed (Class.Storage format access) = ltb access 4 || eqb access 7
class_reusable dim arrayed Class.External = plain_2d dim arrayed

-- the four together
unfoldable pub resource_reusable : ResourceType → Bool
resource_reusable (Res.Buffer size space) = space_reusable space
resource_reusable (Res.Sampler comparison) = true
resource_reusable (Res.Texture dim arrayed class) = array_reusable dim arrayed && class_reusable dim arrayed class
resource_reusable (Res.AccelerationStructure returns) = true
