-- Readers and writers of a variable, a location and a payload belong together.
use Rattle.std.proofs.Common.{Option, Some, None}
use Prim.Native.Nat.{ℕ, ◌+◌, ◌*◌, ◌/◌, ◌^◌, ◌<◌}
use native.Mathlib.Omega.{arith}
use native.Mathlib.Nat.{div-div-eq-div-mul}
use mathlib.Core.Path.{◌≡◌, refl, ◌∙◌}
use mathlib.Core.Bool.{Bool, true, false, ◌||◌}
use lib.Dec.{eqb}
use borrow.Author.Tests.{eqb-true, eqb-false, ltb-true, lt-ltb}
use Rattle.word.specs.Choice.{pick, yes}
use Rattle.word.specs.Words.{kind_of, content_of, bits, bit, of_kind}
use Rattle.numeric.specs.Types.{kind_code}
use Rattle.numeric.specs.TypeWords.{width_known, type_well_formed, type_of, shape_code, type_word}
use Rattle.varying.specs.Format.{location_well_formed, var_well_formed, var_of, var_word, var_encodable, payload_well_formed, payload_of, payload_word, payload_encodable}
use Rattle.varying.specs.declared.InterfaceVar.{InterfaceVar}
use Rattle.word.proofs.Truth.{first, second, codes_back}
use Rattle.numeric.proofs.Joined.{kind_back, shape_back, kind_again, shape_again, kind_below, shape_below, width_below}

-- ---- variables

record VarBits (w : ℕ) : Type 0 where
  kind : kind_of w ≡ 13
  low : bits 11 10 w ≡ 0
  high : bits 26 19 w ≡ 0
  interpolation : bits 14 12 w < 5
  sampling : bits 17 15 w < 6
  shape : bits 3 0 w < 13
  width : width_known (bits 9 6 w) ≡ true

var_bits : (w : ℕ) → var_well_formed w ≡ true → VarBits w
unfolding var_well_formed type_well_formed
var_bits w h =
    record {
      kind = search (eqb-true, first) depth 9;
      low = search (eqb-true, first, second) depth 9;
      high = search (eqb-true, first, second) depth 9;
      interpolation = search (ltb-true, first, second) depth 9;
      sampling = search (ltb-true, first, second) depth 9;
      shape = search (ltb-true, first, second) depth 9;
      width = search (first, second) depth 9;
    }

pub flag_back : (b : ℕ) → b < 2 → pick (yes (eqb b 1)) 1 0 ≡ b
unfolding yes
flag_back = codes_back 2 (λ c. pick (eqb c 1) 1 0) refl

-- a word from its fields, one after the other
glue : (w a b c d e f g q₁ q₂ q₃ q₄ q₅ : ℕ) → w ≡ a + 2 ^ 4 * q₁ → q₁ ≡ b + 2 ^ 2 * q₂ → q₂ ≡ c + 2 ^ 6 * q₃ → q₃ ≡ d + 2 ^ 3 * q₄ → q₄ ≡ e + 2 ^ 3 * q₅
    → q₅ ≡ f + 2 ^ 9 * g → g ≡ 13 → 2 ^ 27 * 13 + (a + 16 * b + 64 * c) + (2 ^ 12 * d + (2 ^ 15 * e + 2 ^ 18 * f)) ≡ w
glue w a b c d e f g q₁ q₂ q₃ q₄ q₅ h₁ h₂ h₃ h₄ h₅ h₆ h₇ = omega arith

high_bits : (w : ℕ) → w / 2 ^ 19 ≡ 2 ^ 8 * (w / 2 ^ 27) → w / 2 ^ 18 ≡ bit 18 w + 2 * (w / 2 ^ 19) → w / 2 ^ 18 ≡ bit 18 w + 2 ^ 9 * kind_of w
high_bits w m n = n ∙ rw m (omega arith)

pub var_written : (w : ℕ) → var_well_formed w ≡ true → var_word (var_of w) ≡ w
unfolding var_word var_of type_word type_of
var_written w h =
    let v : VarBits w = var_bits w h in
    let m : w / 2 ^ 19 ≡ 2 ^ 8 * (w / 2 ^ 27) = rw (← div-div-eq-div-mul w (2 ^ 19) (2 ^ 8)) (omega arith) in
    let n : w / 2 ^ 18 ≡ bit 18 w + 2 * (w / 2 ^ 19) = omega arith in
    rw (shape_back (bits 3 0 w) v.shape, kind_back (bits 5 4 w) (omega arith), flag_back (bit 18 w) (omega arith))
    (glue w (bits 3 0 w) (bits 5 4 w) (bits 9 6 w) (bits 14 12 w) (bits 17 15 w) (bit 18 w) (kind_of w)
    (w / 2 ^ 4) (w / 2 ^ 6) (w / 2 ^ 12) (w / 2 ^ 15) (w / 2 ^ 18)
    (omega arith) (omega arith) (omega arith) (omega arith) (omega arith) (high_bits w m n) v.kind)

pub var_encodable_lem : (w : ℕ) → var_well_formed w ≡ true → var_encodable (var_of w) ≡ true
unfolding var_of type_of
var_encodable_lem w h =
    let v : VarBits w = var_bits w h in
    rw (v.width, lt-ltb (bits 14 12 w) 5 v.interpolation, lt-ltb (bits 17 15 w) 6 v.sampling)

flag_below : (b : Bool) → pick (yes b) 1 0 < 2
unfolding yes
flag_below true = omega arith
flag_below false = omega arith

flag_again : (b : Bool) → eqb (pick (yes b) 1 0) 1 ≡ b
unfolding yes
flag_again true = refl
flag_again false = refl

-- what stands in a variable's word
record WordBits (v : InterfaceVar) (w : ℕ) : Type 0 where
  kind : kind_of w ≡ 13
  low : bits 11 10 w ≡ 0
  high : bits 26 19 w ≡ 0
  shape : bits 3 0 w ≡ shape_code v.ty.dim
  scalar : bits 5 4 w ≡ kind_code v.ty.scalar.kind
  width : bits 9 6 w ≡ v.ty.scalar.width
  interpolation : bits 14 12 w ≡ v.interpolation
  sampling : bits 17 15 w ≡ v.sampling
  primitive : bit 18 w ≡ pick (yes v.per_primitive) 1 0

word_bits : (v : InterfaceVar) → var_encodable v ≡ true → WordBits v (var_word v)
unfolding var_word type_word
word_bits v h =
    let a : v.ty.scalar.width < 16 = search (width_below, first) depth 5 in
    let b : v.interpolation < 5 = search (ltb-true, first, second) depth 5 in
    let c : v.sampling < 6 = search (ltb-true, first, second) depth 5 in
    let d = shape_below v.ty.dim in
    let e = kind_below v.ty.scalar.kind in
    let f = flag_below v.per_primitive in
    record {
      kind = omega arith;
      low = omega arith;
      high = omega arith;
      shape = omega arith;
      scalar = omega arith;
      width = omega arith;
      interpolation = omega arith;
      sampling = omega arith;
      primitive = omega arith;
    }

pub var_well_formed_lem : (v : InterfaceVar) → var_encodable v ≡ true → var_well_formed (var_word v) ≡ true
unfolding var_well_formed type_well_formed
var_well_formed_lem v h =
    let w = var_word v in
    let f : WordBits v w = word_bits v h in
    let b : v.interpolation < 5 = search (ltb-true, first, second) depth 5 in
    let c : v.sampling < 6 = search (ltb-true, first, second) depth 5 in
    let d : width_known v.ty.scalar.width ≡ true = search (first) in
    rw (
      f.kind,
      f.low,
      f.high,
      f.interpolation,
      f.sampling,
      f.shape,
      f.width,
      lt-ltb v.interpolation 5 b,
      lt-ltb v.sampling 6 c,
      lt-ltb (shape_code v.ty.dim) 13 (shape_below v.ty.dim),
      d,
    )

pub var_read : (v : InterfaceVar) → var_encodable v ≡ true → var_of (var_word v) ≡ v
unfolding var_of type_of
var_read v h =
    let f : WordBits v (var_word v) = word_bits v h in
    rw (f.shape, f.scalar, f.width, f.interpolation, f.sampling, f.primitive, shape_again v.ty.dim, kind_again v.ty.scalar.kind, flag_again v.per_primitive)

-- ---- locations and payloads

pub location_written : (w : ℕ) → location_well_formed w ≡ true → of_kind 12 (content_of w) ≡ w
location_written w h = let k : kind_of w ≡ 12 = eqb-true (kind_of w) 12 h in omega arith

module _ (location : ℕ) (h : location < 2 ^ 27) where
  pub location_well_formed_lem : location_well_formed (of_kind 12 location) ≡ true
  location_well_formed_lem = let k : kind_of (of_kind 12 location) ≡ 12 = omega arith in rw k

  pub location_read : content_of (of_kind 12 location) ≡ location
  location_read = omega arith

pub payload_written : (w : ℕ) → payload_well_formed w ≡ true → payload_word (payload_of w) ≡ w
unfolding payload_well_formed payload_of payload_word
payload_written w h =
    let k : kind_of w ≡ 9 = search (eqb-true, first) in
    go k (second (eqb (kind_of w) 9) (eqb (bit 26 w) 1 || eqb (bits 25 0 w) 0) h) (eqb (bit 26 w) 1) refl
  where
    go : kind_of w ≡ 9 → (eqb (bit 26 w) 1 || eqb (bits 25 0 w) 0) ≡ true → (b : Bool) → eqb (bit 26 w) 1 ≡ b → payload_word (pick b (Some (bits 25 0 w)) None) ≡ w
    go k z true e = omega (arith, eqb-true (bit 26 w) 1 e)
    go k z false e = omega (arith, eqb-false (bit 26 w) 1 e, eqb-true (bits 25 0 w) 0 (rw e at z))

pub payload_encodable_lem : (w : ℕ) → payload_encodable (payload_of w) ≡ true
unfolding payload_of
payload_encodable_lem w = go (eqb (bit 26 w) 1)
  where
    go : (b : Bool) → payload_encodable (pick b (Some (bits 25 0 w)) None) ≡ true
    go true = lt-ltb (bits 25 0 w) (2 ^ 26) (omega arith)
    go false = refl

pub payload_well_formed_lem : (p : Option ℕ) → payload_encodable p ≡ true → payload_well_formed (payload_word p) ≡ true
unfolding payload_well_formed payload_word
payload_well_formed_lem None h = refl
payload_well_formed_lem (Some bytes) h =
    let l : bytes < 2 ^ 26 = ltb-true bytes (2 ^ 26) h in
    let k : kind_of (of_kind 9 (2 ^ 26 + bytes)) ≡ 9 = omega arith in
    let b : bit 26 (of_kind 9 (2 ^ 26 + bytes)) ≡ 1 = omega arith in
    rw (k, b)

pub payload_read : (p : Option ℕ) → payload_encodable p ≡ true → payload_of (payload_word p) ≡ p
unfolding payload_of payload_word
payload_read None h = refl
payload_read (Some bytes) h =
    let l : bytes < 2 ^ 26 = ltb-true bytes (2 ^ 26) h in
    let b : bit 26 (of_kind 9 (2 ^ 26 + bytes)) ≡ 1 = omega arith in
    let c : bits 25 0 (of_kind 9 (2 ^ 26 + bytes)) ≡ bytes = omega arith in
    rw (b, c)
