-- What the definitions say of what a mesh stage hands on: a primitive index, a payload of 16 bytes, and a scalar f32 at location 3.
use Rattle.std.proofs.Common.{Some}
use Prim.Native.Nat.{ℕ}
use mathlib.Core.Path.{◌≡◌, refl}
use mathlib.Core.List.{List, [], ◌∷◌}
use Rattle.word.specs.Choice.{yes}
use Rattle.numeric.specs.TypeWords.{type_of, type_word}
use Rattle.varying.specs.Format.{var_of, var_word, payload_of, payload_word}
use Rattle.places.specs.Records.{count_of, past, records}
use Rattle.word.specs.Lists.{flat}
use Rattle.stage_lists.specs.Format.{decode_stage, encode_stage}

abbrev handed : List ℕ
handed = 0x5C000001 ∷ 0x4C000010 ∷ 0x60000003 ∷ 0x68000120 ∷ []

pub handed_payload : (decode_stage handed).payload ≡ Some 16
unfolding decode_stage payload_of
handed_payload = refl

pub handed_back : encode_stage (decode_stage handed) ≡ handed
unfolding encode_stage decode_stage count_of records past flat var_of var_word payload_of payload_word type_of type_word yes
handed_back = refl
