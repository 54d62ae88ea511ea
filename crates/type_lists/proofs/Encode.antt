-- What was written is read: bindings, types, and a list with words behind it.
use Prim.Native.Nat.{ℕ, ◌+◌, ◌*◌, ◌^◌, ◌<◌, ◌≤◌}
use native.Mathlib.Omega.{arith}
use native.Mathlib.Numerals.{add-one}
use mathlib.Core.Path.{◌≡◌, refl, ◌∙◌}
use mathlib.Core.Bool.{Bool, true, false, ◌||◌}
use mathlib.Core.List.{List, [], ◌∷◌, ◌++◌, append_assoc}
use borrow.Author.Tests.{eqb-true, ltb-true, lt-ltb, leb-true, le-leb}
use lib.Dec.{eqb, ltb, leb}
use lib.ListN.{length}
use Rattle.word.specs.Choice.{yes}
use Rattle.word.specs.Words.{kind_of, content_of, bits, bit, of_kind}
use Rattle.word.specs.Lists.{every}
use Rattle.word.specs.Parse.{got}
use Rattle.word.proofs.Truth.{first, second}
use Rattle.word.proofs.ParseReads.{picked}
use Rattle.bindings.specs.Format.{flag}
use Rattle.numeric.specs.Types.{kind_code}
use Rattle.numeric.specs.TypeWords.{shape_code, width_known, type_well_formed, type_of, type_word}
use Rattle.numeric.specs.declared.types.NumericDimension.TheVariants as D
use Rattle.numeric.specs.declared.types.NumericType.{NumericType}
use Rattle.numeric.proofs.Joined.{kind_again, shape_again, kind_below, shape_below, width_below}
use Rattle.varying.specs.Format.{location_well_formed}
use Rattle.varying.proofs.Joined.{location_well_formed_lem, location_read}
use Rattle.interface.specs.Format.{index_well_formed, built_in_well_formed, built_in_of, built_in_code, read_varying}
use Rattle.interface.specs.Encodable as Pack
use Rattle.interface.specs.declared.types.BuiltIn as Interface
use Rattle.interface.specs.declared.types.BuiltIn.TheVariants as In
use Rattle.interface.specs.declared.types.Varying.TheVariants as Var
use Rattle.interface.proofs.EncodeRecords.{records_got}
use Rattle.interface.proofs.EncodeVaryings.{varying_got}
use Rattle.type_lists.specs.Meaning.{Binding, Unbound, Location, BuiltIn, StructMember, TypeInner, Scalar, Vector, Matrix, Array, Struct}
use Rattle.type_lists.specs.Format.{bound_well_formed, read_binding, binding_good, read_member, head_well_formed, numeric_type}
use Rattle.type_lists.specs.Format.{read_type, read_types, count_well_formed, read_list, decode, most_types, most_words, binding_words, member_words, numeric_words, type_words, types_words, encode}
use Rattle.type_lists.specs.Encodable.{built_in_encodable, binding_encodable, member_encodable, type_encodable, types_encodable, list_encodable}
use Rattle.type_lists.proofs.Numbered.{types_one}

-- ---- bindings

flag_below : (b : Bool) → flag b < 2
unfolding yes
flag_below true = omega arith
flag_below false = omega arith

flag_again : (b : Bool) → eqb (flag b) 1 ≡ b
unfolding yes
flag_again true = refl
flag_again false = refl

-- a location's second word, field by field
record BoundWord (w i s p : ℕ) : Type 0 where
  kind : kind_of w ≡ 13
  low : bits 11 0 w ≡ 0
  high : bits 26 19 w ≡ 0
  interpolation : bits 14 12 w ≡ i
  sampling : bits 17 15 w ≡ s
  primitive : bit 18 w ≡ p

bound_word : (i s p : ℕ) → i < 5 → s < 6 → p < 2 → BoundWord (of_kind 13 (2 ^ 12 * i + (2 ^ 15 * s + 2 ^ 18 * p))) i s p
bound_word i s p h k l =
    record { kind = omega arith; low = omega arith; high = omega arith; interpolation = omega arith; sampling = omega arith; primitive = omega arith }

as_varying : (b : Interface.BuiltIn) → built_in_encodable b ≡ true → Pack.built_in_encodable 5 b ≡ true
as_varying (In.Other slots) h = h
as_varying (In.PrimitiveIndex slots) h = h
as_varying (In.DrawIndex slots) h = h
as_varying (In.FragDepth slots) h = h
as_varying (In.ClipDistances size) h = rw (eqb-true size 0 h)

-- clip distances have no number
no_size : (b : Interface.BuiltIn) → built_in_encodable b ≡ true → ltb (bits 26 24 (of_kind 14 (built_in_code b))) 4 || eqb (bits 7 0 (of_kind 14 (built_in_code b))) 0 ≡ true
no_size (In.Other slots) h =
    let p : slots < 256 = ltb-true slots 256 h in let c : bits 26 24 (of_kind 14 slots) ≡ 0 = omega arith in rw c
no_size (In.PrimitiveIndex slots) h =
    let p : slots < 256 = ltb-true slots 256 h in let c : bits 26 24 (of_kind 14 (2 ^ 24 * 1 + slots)) ≡ 1 = omega arith in rw c
no_size (In.DrawIndex slots) h =
    let p : slots < 256 = ltb-true slots 256 h in let c : bits 26 24 (of_kind 14 (2 ^ 24 * 2 + slots)) ≡ 2 = omega arith in rw c
no_size (In.FragDepth slots) h =
    let p : slots < 256 = ltb-true slots 256 h in let c : bits 26 24 (of_kind 14 (2 ^ 24 * 3 + slots)) ≡ 3 = omega arith in rw c
no_size (In.ClipDistances size) h = rw (eqb-true size 0 h)

built_in_kind : (b : Interface.BuiltIn) → built_in_encodable b ≡ true → kind_of (of_kind 14 (built_in_code b)) ≡ 14
built_in_kind (In.Other slots) h = let p : slots < 256 = ltb-true slots 256 h in omega arith
built_in_kind (In.PrimitiveIndex slots) h = let p : slots < 256 = ltb-true slots 256 h in omega arith
built_in_kind (In.DrawIndex slots) h = let p : slots < 256 = ltb-true slots 256 h in omega arith
built_in_kind (In.FragDepth slots) h = let p : slots < 256 = ltb-true slots 256 h in omega arith
built_in_kind (In.ClipDistances size) h = rw (eqb-true size 0 h)

built_in_got : (b : Interface.BuiltIn) (rest : List ℕ) → built_in_encodable b ≡ true → read_binding (of_kind 14 (built_in_code b) ∷ rest) ≡ got (BuiltIn b) rest
unfolding read_binding read_varying
built_in_got b rest h =
    let n : location_well_formed (of_kind 14 (built_in_code b)) ≡ false = rw (built_in_kind b h) in
    let (f, g) = picked (built_in_well_formed 5 (of_kind 14 (built_in_code b))) _ (Var.BuiltIn b) rest (rw n at (varying_got 5 (omega arith) rest (Var.BuiltIn b) (as_varying b h))) in
    let o : built_in_of (of_kind 14 (built_in_code b)) ≡ b = cc in
    rw (n, f, no_size b h, o)

bound_well_formed_lem : (w i s p : ℕ) → BoundWord w i s p → i < 5 → s < 6 → bound_well_formed w ≡ true
unfolding bound_well_formed
bound_well_formed_lem w i s p f h k = rw (f.kind, f.low, f.high, f.interpolation, f.sampling, lt-ltb i 5 h, lt-ltb s 6 k)

pub binding_got : (b : Binding) (rest : List ℕ) → binding_encodable b ≡ true → read_binding (binding_words b ++ rest) ≡ got b rest
unfolding read_binding
binding_got Unbound rest h = refl
binding_got (Location location i s p) rest h =
    let l : location < 2 ^ 27 = search (ltb-true, first) in
    let a : i < 5 = search (ltb-true, first, second) depth 5 in
    let b : s < 6 = search (ltb-true, second) depth 5 in
    let f : BoundWord (of_kind 13 (2 ^ 12 * i + (2 ^ 15 * s + 2 ^ 18 * flag p))) i s (flag p) = bound_word i s (flag p) a b (flag_below p) in
    let g = bound_well_formed_lem (of_kind 13 (2 ^ 12 * i + (2 ^ 15 * s + 2 ^ 18 * flag p))) i s (flag p) f a b in
    rw (location_well_formed_lem location l, g) (rw (location_read location l, f.interpolation, f.sampling, f.primitive, flag_again p))
binding_got (BuiltIn b) rest h = built_in_got b rest h

-- ---- types

member_got : (earlier : List TypeInner) → length earlier ≤ most_types → (m : StructMember) (rest : List ℕ) → member_encodable earlier m ≡ true
    → read_member earlier (member_words m ++ rest) ≡ got m rest
unfolding read_member
member_got earlier few m rest h =
    let l : m.ty < length earlier = search (ltb-true, first) in
    let e : binding_encodable m.binding ≡ true = search (first, second) in
    let g : binding_good earlier m.ty m.binding ≡ true = search (second) in
    let k : kind_of (of_kind 5 m.ty) ≡ 5 = omega arith in
    let c : content_of (of_kind 5 m.ty) ≡ m.ty = omega arith in
    let i : index_well_formed (length earlier) (of_kind 5 m.ty) ≡ true = rw (k, c, lt-ltb m.ty (length earlier) l) in
    rw (i, binding_got m.binding rest e) (rw (c, g))

record NumericWord (w d k n : ℕ) : Type 0 where
  kind : kind_of w ≡ 22
  high : bits 26 10 w ≡ 0
  shape : bits 3 0 w ≡ d
  scalar : bits 5 4 w ≡ k
  width : bits 9 6 w ≡ n

numeric_word : (d k n : ℕ) → d < 13 → k < 4 → n < 16 → NumericWord (of_kind 22 (content_of (of_kind 13 (d + 16 * k + 64 * n)))) d k n
numeric_word d k n h i j =
    let c : content_of (of_kind 13 (d + 16 * k + 64 * n)) ≡ d + 16 * k + 64 * n = omega arith in
    rw c (record { kind = omega arith; high = omega arith; shape = omega arith; scalar = omega arith; width = omega arith })

module _ (t : NumericType) (h : width_known t.scalar.width ≡ true) where
  numeric_bits : NumericWord (of_kind 22 (content_of (type_word t))) (shape_code t.dim) (kind_code t.scalar.kind) t.scalar.width
  unfolding type_word
  numeric_bits =
      numeric_word (shape_code t.dim) (kind_code t.scalar.kind) t.scalar.width (shape_below t.dim) (kind_below t.scalar.kind) (width_below t.scalar.width h)

  numeric_head : (count : ℕ) → head_well_formed count (of_kind 22 (content_of (type_word t))) ≡ true
  unfolding type_well_formed
  numeric_head count =
      let f = numeric_bits in
      rw (f.kind, f.high, f.shape, f.width, lt-ltb (shape_code t.dim) 13 (shape_below t.dim), h)

  numeric_read : type_of (of_kind 22 (content_of (type_word t))) ≡ t
  unfolding type_of
  numeric_read = let f = numeric_bits in rw (f.shape, f.scalar, f.width, shape_again t.dim, kind_again t.scalar.kind)

  numeric_got : (earlier : List TypeInner) (rest : List ℕ) → read_type earlier (numeric_words t ++ rest) ≡ got (numeric_type t) rest
  unfolding read_type
  numeric_got earlier rest = rw (numeric_head (length earlier)) (rw (numeric_bits.kind, numeric_read))

type_got : (earlier : List TypeInner) → length earlier ≤ most_types → (t : TypeInner) (rest : List ℕ) → type_encodable earlier t ≡ true
    → read_type earlier (type_words t ++ rest) ≡ got t rest
unfolding read_type type_words
type_got earlier few (Scalar s) rest h = numeric_got (record { dim = D.Scalar; scalar = s }) h earlier rest
type_got earlier few (Vector n s) rest h = numeric_got (record { dim = D.Vector n; scalar = s }) h earlier rest
type_got earlier few (Matrix c r s) rest h = numeric_got (record { dim = D.Matrix c r; scalar = s }) h earlier rest
type_got earlier few (Array base size) rest h =
    let l : base < length earlier = search (ltb-true, first) in
    let z : size < 2 ^ 27 = search (ltb-true, second) in
    let k : kind_of (of_kind 23 base) ≡ 23 = omega arith in
    let u : bits 26 16 (of_kind 23 base) ≡ 0 = omega arith in
    let c : bits 15 0 (of_kind 23 base) ≡ base = omega arith in
    let q : kind_of (of_kind 6 size) ≡ 6 = omega arith in
    let d : content_of (of_kind 6 size) ≡ size = omega arith in
    let i : head_well_formed (length earlier) (of_kind 23 base) ≡ true = rw (k, u, c, lt-ltb base (length earlier) l) in
    rw i (rw (k, q) (rw (c, d)))
type_got earlier few (Struct members) rest h =
    let l : length members < 2 ^ 16 = search (ltb-true, first) in
    let e : every (member_encodable earlier) members ≡ true = search (second) in
    let k : kind_of (of_kind 24 (length members)) ≡ 24 = omega arith in
    let u : bits 26 16 (of_kind 24 (length members)) ≡ 0 = omega arith in
    let c : bits 15 0 (of_kind 24 (length members)) ≡ length members = omega arith in
    let i : head_well_formed (length earlier) (of_kind 24 (length members)) ≡ true = rw (k, u) in
    rw i (rw (k, c, records_got (read_member earlier) member_words (member_encodable earlier) (member_got earlier few) members rest e))

types_got : (types : List TypeInner) (rest : List ℕ) → length types ≤ most_types → types_encodable types ≡ true
    → read_types (length types) [] (types_words types ++ rest) ≡ got types rest
unfolding read_types types_words types_encodable
types_got [] rest few h = refl
types_got (t ∷ earlier) rest few h =
    let a : type_encodable earlier t ≡ true = first (type_encodable earlier t) (types_encodable earlier) h in
    let b : types_encodable earlier ≡ true = second (type_encodable earlier t) (types_encodable earlier) h in
    let g : read_types (length earlier + 1) [] (types_words earlier ++ (type_words t ++ rest)) ≡ got (t ∷ earlier) rest =
    types_one (length earlier) [] (types_words earlier ++ (type_words t ++ rest))
    ∙ rw (types_got earlier (type_words t ++ rest) (omega arith) b) (rw (type_got earlier (omega arith) t rest a)) in
    rw (append_assoc (types_words earlier) (type_words t) rest) (rw (add-one (length earlier)) at g)

list_got : (types : List TypeInner) (rest : List ℕ) → length types ≤ most_types → types_encodable types ≡ true → read_list (encode types ++ rest) ≡ got types rest
unfolding read_list encode
list_got types rest few h =
    let k : kind_of (of_kind 21 (length types)) ≡ 21 = omega arith in
    let c : content_of (of_kind 21 (length types)) ≡ length types = omega arith in
    let i : count_well_formed (of_kind 21 (length types)) ≡ true = rw (k, c, le-leb (length types) most_types few) in
    rw i (rw (c, types_got types rest few h))

-- a list that was written is read, with the free room behind it
pub decode_encode : (types : List TypeInner) (room : List ℕ) → list_encodable types ≡ true → length (encode types ++ room) ≤ most_words
    → decode (encode types ++ room) ≡ got types room
unfolding decode
decode_encode types room h few =
    rw (le-leb (length (encode types ++ room)) most_words few)
    (list_got types room (leb-true (length types) most_types (first (leb (length types) most_types) (types_encodable types) h)) (second (leb (length types) most_types) (types_encodable types) h))
