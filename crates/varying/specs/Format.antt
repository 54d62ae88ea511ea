-- How words carry a variable, a location and a payload (document 01, 'Varying' and 'kind 9 payload').
use Rattle.std.specs.Prelude.{ℕ, ◌+◌, ◌*◌, ◌^◌, Bool, true, ◌&&◌, ◌||◌, List, [], ◌∷◌, eqb, ltb, Option, Some, None}
use Rattle.word.specs.Choice.{pick, yes}
use Rattle.word.specs.Words.{kind_of, content_of, content, bits, bit, of_kind}
use Rattle.numeric.specs.TypeWords.{type_well_formed, type_of, type_word, width_known}
use Rattle.varying.specs.declared.InterfaceVar.{InterfaceVar}
use Rattle.varying.specs.declared.Located.{Located}

-- 'kind 12 location'
abbrev pub location_well_formed : ℕ → Bool
location_well_formed w = eqb (kind_of w) 12

-- 'kind 13 (shape 3–0 …; interpolation 14–12: 0 none, 4 per vertex, 1–3 others; sampling 17–15, 0 none, 1–5; bit 18 per primitive)'
unfoldable pub var_well_formed : ℕ → Bool
var_well_formed w =
    eqb (kind_of w) 13 && (eqb (bits 11 10 w) 0 && (eqb (bits 26 19 w) 0
    && (ltb (bits 14 12 w) 5 && (ltb (bits 17 15 w) 6 && type_well_formed w))))

unfoldable pub var_of : ℕ → InterfaceVar
var_of w = record { ty = type_of w; interpolation = bits 14 12 w; sampling = bits 17 15 w; per_primitive = eqb (bit 18 w) 1 }

unfoldable pub var_word : InterfaceVar → ℕ
var_word v = type_word v.ty + (2 ^ 12 * v.interpolation + (2 ^ 15 * v.sampling + 2 ^ 18 * pick (yes v.per_primitive) 1 0))

-- what a word can hold of a variable
abbrev pub var_encodable : InterfaceVar → Bool
var_encodable v = width_known v.ty.scalar.width && (ltb v.interpolation 5 && ltb v.sampling 6)

abbrev pub located_of : ℕ → ℕ → Located
located_of location var = record { location = content_of location; var = var_of var }

-- a location and its variable in two words
abbrev pub located_words : Located → List ℕ
located_words v = of_kind 12 v.location ∷ var_word v.var ∷ []

abbrev pub located_encodable : Located → Bool
located_encodable v = content v.location && var_encodable v.var

-- 'kind 9 payload (bit 26 present, size 25–0, 0 when absent)'
unfoldable pub payload_well_formed : ℕ → Bool
payload_well_formed w = eqb (kind_of w) 9 && (eqb (bit 26 w) 1 || eqb (bits 25 0 w) 0)

unfoldable pub payload_of : ℕ → Option ℕ
payload_of w = pick (eqb (bit 26 w) 1) (Some (bits 25 0 w)) None

unfoldable pub payload_word : Option ℕ → ℕ
payload_word None = of_kind 9 0
payload_word (Some bytes) = of_kind 9 (2 ^ 26 + bytes)

abbrev pub payload_encodable : Option ℕ → Bool
payload_encodable None = true
payload_encodable (Some bytes) = ltb bytes (2 ^ 26)
