-- Kinds and sizes by their numbers.
use Rattle.std.proofs.Common.{◌≡◌, refl, ◌+◌, eqb, arith}
use Rattle.std.proofs.lemmas.Bool.Decides.{nat_tests}
use denote.Enum.Bare.{sameb}
use denote.Enum.Declared.{tag_of}
use Rattle.numeric.specs.Types.{kind_code, size_code}
use Rattle.numeric.specs.contracts.types.ScalarKind.{the_type as kind_type}
use Rattle.numeric.specs.contracts.types.VectorSize.{the_type as size_type}
use Rattle.numeric.specs.declared.types.ScalarKind.{ScalarKind}
use Rattle.numeric.specs.declared.types.ScalarKind.TheVariants as K
use Rattle.numeric.specs.declared.types.VectorSize.{VectorSize}
use Rattle.numeric.specs.declared.types.VectorSize.TheVariants.{Bi, Tri, Quad}

pub kind_tag : (k : ScalarKind) → kind_code k ≡ tag_of kind_type k
kind_tag K.Sint = refl
kind_tag K.Uint = refl
kind_tag K.Float = refl
kind_tag K.Bool = refl

pub kinds_compared : (k l : ScalarKind) → sameb kind_type k l ≡ eqb (kind_code k) (kind_code l)
kinds_compared k l = rw (kind_tag k, kind_tag l)

pub size_tag : (m : VectorSize) → size_code m ≡ tag_of size_type m + 2
size_tag Bi = refl
size_tag Tri = refl
size_tag Quad = refl

pub sizes_compared : (m n : VectorSize) → sameb size_type m n ≡ eqb (size_code m) (size_code n)
sizes_compared m n = rw (size_tag m, size_tag n) (grind (arith, nat_tests))
