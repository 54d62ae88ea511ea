-- A varying that was written is read.
use Prim.Native.Nat.{ℕ, ◌+◌, ◌*◌, ◌^◌, ◌<◌, ◌≤◌}
use native.Mathlib.Omega.{arith}
use mathlib.Core.Path.{◌≡◌}
use mathlib.Core.Bool.{true}
use mathlib.Core.List.{List, ◌∷◌, ◌++◌}
use borrow.Author.Tests.{ltb-true, lt-ltb}
use lib.Dec.{ltb}
use Rattle.word.specs.Words.{kind_of, bits, of_kind, content}
use Rattle.word.specs.Parse.{got}
use Rattle.varying.specs.Format.{var_encodable}
use Rattle.word.proofs.Truth.{first, second}
use Rattle.varying.proofs.Joined.{var_well_formed_lem, var_read, location_well_formed_lem, location_read}
use Rattle.interface.specs.Format.{read_varying, varying_words, built_in_of}
use Rattle.interface.specs.Encodable.{built_in_encodable, varying_encodable}
use Rattle.interface.specs.declared.types.BuiltIn.{BuiltIn}
use Rattle.interface.specs.declared.types.BuiltIn.TheVariants as In
use Rattle.interface.specs.declared.types.Varying.{Varying}
use Rattle.interface.specs.declared.types.Varying.TheVariants as Var

-- a built-in's word, field by field
pub record BuiltInWord (w c n : ℕ) : Type 0 where
  pub kind : kind_of w ≡ 14
  pub code : bits 26 24 w ≡ c
  pub none : bits 23 8 w ≡ 0
  pub slots : bits 7 0 w ≡ n

module _ (codes : ℕ) (few : 4 ≤ codes) (rest : List ℕ) where
  as_built_in : (w code slots : ℕ) (b : BuiltIn) → BuiltInWord w code slots → code < codes → built_in_of w ≡ b → read_varying codes (w ∷ rest) ≡ got (Var.BuiltIn b) rest
  unfolding read_varying
  as_built_in w code slots b f h e = rw (e, f.kind, f.code, f.none, lt-ltb code codes h)

  built_in_got : (b : BuiltIn) → built_in_encodable codes b ≡ true → read_varying codes (varying_words (Var.BuiltIn b) ++ rest) ≡ got (Var.BuiltIn b) rest
  built_in_got (In.Other slots) h =
      let p : slots < 256 = ltb-true slots 256 h in
      let f : BuiltInWord (of_kind 14 slots) 0 slots = omega arith in
      as_built_in _ 0 slots (In.Other slots) f (omega arith) (rw (f.code, f.slots))
  built_in_got (In.PrimitiveIndex slots) h =
      let p : slots < 256 = ltb-true slots 256 h in
      let f : BuiltInWord (of_kind 14 (2 ^ 24 * 1 + slots)) 1 slots = omega arith in
      as_built_in _ 1 slots (In.PrimitiveIndex slots) f (omega arith) (rw (f.code, f.slots))
  built_in_got (In.DrawIndex slots) h =
      let p : slots < 256 = ltb-true slots 256 h in
      let f : BuiltInWord (of_kind 14 (2 ^ 24 * 2 + slots)) 2 slots = omega arith in
      as_built_in _ 2 slots (In.DrawIndex slots) f (omega arith) (rw (f.code, f.slots))
  built_in_got (In.FragDepth slots) h =
      let p : slots < 256 = ltb-true slots 256 h in
      let f : BuiltInWord (of_kind 14 (2 ^ 24 * 3 + slots)) 3 slots = omega arith in
      as_built_in _ 3 slots (In.FragDepth slots) f (omega arith) (rw (f.code, f.slots))
  built_in_got (In.ClipDistances size) h =
      let p : size < 256 = ltb-true size 256 (second (ltb 4 codes) (ltb size 256) h) in
      let f : BuiltInWord (of_kind 14 (2 ^ 24 * 4 + size)) 4 size = omega arith in
      as_built_in _ 4 size (In.ClipDistances size) f (ltb-true 4 codes (first (ltb 4 codes) (ltb size 256) h)) (rw (f.code, f.slots))

  pub varying_got : (v : Varying) → varying_encodable codes v ≡ true → read_varying codes (varying_words v ++ rest) ≡ got v rest
  unfolding read_varying
  varying_got (Var.Local location iv) h =
      let p : location < 2 ^ 27 = ltb-true location (2 ^ 27) (first (content location) (var_encodable iv) h) in
      let v : var_encodable iv ≡ true = second (content location) (var_encodable iv) h in
      rw (location_well_formed_lem location p, var_well_formed_lem iv v, location_read location p, var_read iv v)
  varying_got (Var.BuiltIn b) h = built_in_got b h
