-- What was read, written again, is what stood there: bindings, types, and a list before its free room.
use Prim.Native.Nat.{ℕ, zero, suc, ◌+◌, ◌*◌, ◌/◌, ◌^◌, ◌<◌}
use native.Mathlib.Omega.{arith}
use native.Mathlib.Nat.{zero-add}
use mathlib.Core.Path.{◌≡◌, refl, sym, ◌∙◌}
use mathlib.Core.Bool.{true, false, ◌&&◌, ◌||◌}
use mathlib.Core.List.{List, [], ◌∷◌, ◌++◌, append_assoc}
use borrow.Author.Tests.{eqb-true, ltb-true}
use lib.Dec.{eqb, ltb, leb}
use lib.ListN.{length}
use Rattle.word.specs.Words.{kind_of, content_of, bits, bit, of_kind}
use Rattle.word.specs.Parse.{got}
use Rattle.word.proofs.Truth.{first, second, by_test}
use Rattle.word.proofs.Lists.{every_any}
use Rattle.word.proofs.ParseReads.{next_then, picked}
use Rattle.bindings.specs.Format.{flag}
use Rattle.numeric.specs.TypeWords.{type_well_formed, type_of, type_word}
use Rattle.numeric.specs.declared.types.Scalar as Numeric
use Rattle.numeric.specs.declared.types.NumericDimension.{NumericDimension}
use Rattle.numeric.specs.declared.types.NumericDimension.TheVariants as D
use Rattle.numeric.proofs.Joined.{kind_back, shape_back}
use Rattle.varying.specs.Format.{location_well_formed}
use Rattle.varying.proofs.Joined.{flag_back, location_written}
use Rattle.interface.specs.Format.{of_word, index_well_formed, built_in_well_formed, built_in_of, built_in_code, read_varying}
use Rattle.interface.specs.declared.types.Varying.TheVariants as Var
use Rattle.interface.proofs.RestoreRecords.{Restores, got_as, one_then, several_then}
use Rattle.interface.proofs.RestoreVaryings.{varying_back}
use Rattle.type_lists.specs.Meaning.{Unbound, BuiltIn, TypeInner, Array, Struct}
use Rattle.type_lists.specs.Format.{bound_well_formed, built_in_bound, located, read_binding, binding_good, read_member, head_well_formed, shaped, numeric_type}
use Rattle.type_lists.specs.Format.{read_type, read_types, count_well_formed, read_list, decode, most_words, binding_words, member_words, numeric_words, type_words, types_words, encode}
use Rattle.type_lists.proofs.Numbered.{types_length}

-- ---- bindings

-- a word from its fields, one after the other
glue : (w a b c g q₁ q₂ q₃ : ℕ) → w ≡ 2 ^ 12 * q₁ → q₁ ≡ a + 2 ^ 3 * q₂ → q₂ ≡ b + 2 ^ 3 * q₃ → q₃ ≡ c + 2 ^ 9 * g → g ≡ 13
    → 2 ^ 27 * 13 + (2 ^ 12 * a + (2 ^ 15 * b + 2 ^ 18 * c)) ≡ w
glue w a b c g q₁ q₂ q₃ h₁ h₂ h₃ h₄ h₅ = omega arith

bound_back : (w : ℕ) → bound_well_formed w ≡ true → of_kind 13 (2 ^ 12 * bits 14 12 w + (2 ^ 15 * bits 17 15 w + 2 ^ 18 * flag (eqb (bit 18 w) 1))) ≡ w
unfolding bound_well_formed
bound_back w h =
    let k : kind_of w ≡ 13 = search (eqb-true, first) in
    let l : bits 11 0 w ≡ 0 = search (eqb-true, first, second) in
    let m : bits 26 19 w ≡ 0 = search (eqb-true, first, second) depth 9 in
    let a : w / 2 ^ 19 ≡ 2 ^ 8 * (w / 2 ^ 27) = omega arith in
    let b : w / 2 ^ 18 ≡ bit 18 w + 2 * (w / 2 ^ 19) = omega arith in
    let c : w / 2 ^ 18 ≡ bit 18 w + 2 ^ 9 * kind_of w = omega arith in
    rw (flag_back (bit 18 w) (omega arith))
    (glue w (bits 14 12 w) (bits 17 15 w) (bit 18 w) (kind_of w) (w / 2 ^ 12) (w / 2 ^ 15) (w / 2 ^ 18) (omega arith) (omega arith) (omega arith) c k)

built_in_back : (w : ℕ) (ws : List ℕ) → location_well_formed w ≡ false → built_in_well_formed 5 w ≡ true → w ∷ ws ≡ of_kind 14 (built_in_code (built_in_of w)) ∷ ws
unfolding read_varying
built_in_back w ws n h = varying_back 5 (omega arith) (w ∷ ws) (Var.BuiltIn (built_in_of w)) ws (every_any (w ∷ ws)) (rw (n, h))

pub binding_back : Restores (λ w. true) binding_words read_binding
unfolding read_binding
binding_back [] b rest h e = let z : ◌≡◌ {A = ℕ} 0 1 = cc in absurd (omega arith)
binding_back (w ∷ ws) b rest h e =
    by_test (location_well_formed w)
    (λ t. one_then bound_well_formed ws _ b rest (rw t at e) λ var behind f q g.
    got_as (λ b rest. w ∷ ws ≡ binding_words b ++ rest) (located w var) b behind rest g (rw (q, location_written w t, bound_back var f)))
    λ n. by_test (built_in_bound w)
    (λ t. got_as (λ b rest. w ∷ ws ≡ binding_words b ++ rest) (BuiltIn (built_in_of w)) b ws rest (rw (n, t) at e)
    (built_in_back w ws n (first (built_in_well_formed 5 w) (ltb (bits 26 24 w) 4 || eqb (bits 7 0 w) 0) t)))
    (λ o. let (t, g) = picked (eqb w (of_kind 6 0)) (got Unbound ws) b rest (rw (n, o) at e) in
    got_as (λ b rest. w ∷ ws ≡ binding_words b ++ rest) Unbound b ws rest g (rw (eqb-true w (of_kind 6 0) t)))

-- ---- types

member_back : (earlier : List TypeInner) → Restores (λ w. true) member_words (read_member earlier)
unfolding read_member
member_back earlier ws m rest h e =
    one_then (index_well_formed (length earlier)) ws _ m rest e λ named r f q g.
    next_then (read_binding r) _ m rest g λ binding s i j.
    let (t, u) = picked (binding_good earlier (content_of named) binding) _ m rest j in
    let k : kind_of named ≡ 5 = search (eqb-true, first) in
    let n : of_kind 5 (content_of named) ≡ named = omega arith in
    got_as (λ m rest. ws ≡ member_words m ++ rest) (record { ty = content_of named; binding = binding }) m s rest u
    (rw (n, q) (rw (← binding_back r binding s (every_any r) i)))

shaped_words : (d : NumericDimension) (s : Numeric.Scalar) → type_words (shaped d s) ≡ numeric_words (record { dim = d; scalar = s })
unfolding type_words
shaped_words D.Scalar s = refl
shaped_words (D.Vector n) s = refl
shaped_words (D.Matrix c r) s = refl

content_sum : (a b c : ℕ) → a < 16 → b < 4 → c < 16 → content_of (2 ^ 27 * 13 + (a + 16 * b + 64 * c)) ≡ a + 16 * b + 64 * c
content_sum a b c h k l = omega arith

numeric_back : (w : ℕ) → kind_of w ≡ 22 → bits 26 10 w ≡ 0 → type_well_formed w ≡ true → of_kind 22 (content_of (type_word (type_of w))) ≡ w
unfolding type_word type_of type_well_formed
numeric_back w e z h =
    let l : bits 3 0 w < 13 = search (ltb-true, first) in
    let a : w / 2 ^ 4 / 4 ≡ w / 2 ^ 6 = omega arith in
    let b : w / 2 ^ 6 / 16 ≡ w / 2 ^ 10 = omega arith in
    let c : w / 2 ^ 10 / 2 ^ 17 ≡ w / 2 ^ 27 = omega arith in
    let s : 2 ^ 27 * 22 + (bits 3 0 w + 16 * bits 5 4 w + 64 * bits 9 6 w) ≡ w = omega arith in
    rw (shape_back (bits 3 0 w) l, kind_back (bits 5 4 w) (omega arith), content_sum (bits 3 0 w) (bits 5 4 w) (bits 9 6 w) (omega arith) (omega arith) (omega arith)) s

type_back : (earlier : List TypeInner) → Restores (λ w. true) type_words (read_type earlier)
unfolding read_type type_words
type_back earlier ws t rest h e =
    one_then (head_well_formed (length earlier)) ws _ t rest e λ w r f q g.
    by_test (eqb (kind_of w) 22)
    (λ k. got_as (λ t rest. ws ≡ type_words t ++ rest) (numeric_type (type_of w)) t r rest (rw k at g)
    (let v : eqb (bits 26 10 w) 0 && type_well_formed w ≡ true = rw k at f in
    rw (
      q,
      shaped_words (type_of w).dim (type_of w).scalar,
      numeric_back w (eqb-true (kind_of w) 22 k) (eqb-true (bits 26 10 w) 0 (first (eqb (bits 26 10 w) 0) (type_well_formed w) v)) (second (eqb (bits 26 10 w) 0) (type_well_formed w) v),
    )))
    λ n. by_test (eqb (kind_of w) 23)
    (λ k. let v : eqb (bits 26 16 w) 0 && ltb (bits 15 0 w) (length earlier) ≡ true = rw (n, k) at f in
    let a : kind_of w ≡ 23 = eqb-true (kind_of w) 23 k in
    let z : bits 26 16 w ≡ 0 = eqb-true (bits 26 16 w) 0 (first (eqb (bits 26 16 w) 0) (ltb (bits 15 0 w) (length earlier)) v) in
    one_then (of_word 6) r _ t rest (rw (n, k) at g) λ size s i j o.
    let y : kind_of size ≡ 6 = eqb-true (kind_of size) 6 i in
    let x : of_kind 6 (content_of size) ≡ size = omega arith in
    let u : of_kind 23 (bits 15 0 w) ≡ w = omega arith in
    got_as (λ t rest. ws ≡ type_words t ++ rest) (Array (bits 15 0 w) (content_of size)) t s rest o (rw (q, u, x, j)))
    (λ o. let v : eqb (kind_of w) 24 && eqb (bits 26 16 w) 0 ≡ true = rw (n, o) at f in
    let a : kind_of w ≡ 24 = eqb-true (kind_of w) 24 (first (eqb (kind_of w) 24) (eqb (bits 26 16 w) 0) v) in
    let z : bits 26 16 w ≡ 0 = eqb-true (bits 26 16 w) 0 (second (eqb (kind_of w) 24) (eqb (bits 26 16 w) 0) v) in
    several_then (λ w. true) member_words (read_member earlier) (member_back earlier) (bits 15 0 w) r _ t rest (every_any r) (rw (n, o) at g) λ members s l j u.
    let x : of_kind 24 (bits 15 0 w) ≡ w = omega arith in
    got_as (λ t rest. ws ≡ type_words t ++ rest) (Struct members) t s rest u (rw (q, l, x, j)))

types_back : (n : ℕ) (earlier : List TypeInner) (ws : List ℕ) (types : List TypeInner) (rest : List ℕ) → read_types n earlier ws ≡ got types rest
    → types_words earlier ++ ws ≡ types_words types ++ rest
unfolding read_types types_words
types_back zero earlier ws types rest e = got_as (λ types rest. types_words earlier ++ ws ≡ types_words types ++ rest) earlier types ws rest e refl
types_back (suc n) earlier ws types rest e =
    next_then (read_type earlier ws) _ types rest e λ t r f g.
    let q : ws ≡ type_words t ++ r = type_back earlier ws t r (every_any ws) f in
    rw q (sym (append_assoc (types_words earlier) (type_words t) r) ∙ types_back n (t ∷ earlier) r types rest g)

list_back : (ws : List ℕ) (types : List TypeInner) (rest : List ℕ) → read_list ws ≡ got types rest → ws ≡ encode types ++ rest
unfolding read_list encode types_words
list_back ws types rest e =
    one_then count_well_formed ws _ types rest e λ count r f q g.
    let k : kind_of count ≡ 21 = search (eqb-true, first) in
    let l : length types ≡ content_of count = types_length (content_of count) [] r types rest g ∙ zero-add (content_of count) in
    let n : of_kind 21 (content_of count) ≡ count = omega arith in
    let b : r ≡ types_words types ++ rest = types_back (content_of count) [] r types rest g in
    rw (q, l, n, ← b)

-- a list that is read is the words of what it holds, and its free room
pub encode_decode : (ws : List ℕ) (types : List TypeInner) (room : List ℕ) → decode ws ≡ got types room → ws ≡ encode types ++ room
unfolding decode
encode_decode ws types room e = list_back ws types room (picked (leb (length ws) most_words) (read_list ws) types room e).1
