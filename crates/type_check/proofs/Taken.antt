-- What the grammar of a type list reads is what stands at positions, and each type names earlier ones only.
use Prim.Native.Nat.{ℕ, zero, suc}
use native.Mathlib.Omega.{arith}
use mathlib.Core.Path.{◌≡◌, refl}
use mathlib.Core.Bool.{true, ◌&&◌}
use mathlib.Core.List.{List, [], ◌∷◌}
use borrow.Author.Tests.{eqb-true}
use lib.Dec.{eqb, ltb}
use lib.ListN.{length, drop}
use Rattle.word.specs.Words.{kind_of, content_of, bits, of_kind}
use Rattle.word.specs.Lists.{every}
use Rattle.word.specs.Parse.{got, several}
use Rattle.word.proofs.Truth.{first, second, by_test}
use Rattle.word.proofs.ParseReads.{next_then, picked}
use Rattle.numeric.specs.TypeWords.{type_of}
use Rattle.numeric.specs.declared.types.Scalar as Numeric
use Rattle.numeric.specs.declared.types.NumericDimension.{NumericDimension}
use Rattle.numeric.specs.declared.types.NumericDimension.TheVariants as D
use Rattle.varying.specs.Format.{location_well_formed}
use Rattle.interface.specs.Format.{of_word, index_well_formed, built_in_of}
use Rattle.interface.proofs.RestoreRecords.{got_as, one_then}
use Rattle.type_lists.specs.Meaning.{Binding, Unbound, BuiltIn, StructMember, TypeInner, Array, Struct}
use Rattle.type_lists.specs.Format.{bound_well_formed, built_in_bound, located, read_binding, binding_good, read_member, head_well_formed, shaped, numeric_type, read_type}
use Rattle.type_check.specs.Inner.Positions.{binding_at, binding_of, member_width, member_at, members_at, type_at, members_below, names_below}

-- what a binding is, and where the words behind it begin
abbrev Bound : ℕ → List ℕ → Binding → List ℕ → Type 0
Bound w ws b rest = (b ≡ binding_at ws) × (drop (member_width (w ∷ ws)) (w ∷ ws) ≡ rest)

pub binding_took : (w : ℕ) (ws : List ℕ) (b : Binding) (rest : List ℕ) → read_binding ws ≡ got b rest → (b ≡ binding_at ws) × (drop (member_width (w ∷ ws)) (w ∷ ws) ≡ rest)
unfolding read_binding binding_of
binding_took w [] b rest e = let z : ◌≡◌ {A = ℕ} 0 1 = cc in absurd (omega arith)
binding_took w (x ∷ ws) b rest e =
    by_test (location_well_formed x)
    (λ t. one_then bound_well_formed ws _ b rest (rw t at e) λ var behind f q g.
    got_as (Bound w (x ∷ ws)) (located x var) b behind rest g (rw (t, q), rw (t, q)))
    λ n. by_test (built_in_bound x)
    (λ t. let k : eqb (kind_of x) 14 ≡ true = search (first) in
    got_as (Bound w (x ∷ ws)) (BuiltIn (built_in_of x)) b ws rest (rw (n, t) at e) (rw (n, k), rw n))
    (λ o. let (t, g) = picked (eqb x (of_kind 6 0)) (got Unbound ws) b rest (rw (n, o) at e) in
    let s : x ≡ of_kind 6 0 = eqb-true x (of_kind 6 0) t in
    got_as (Bound w (x ∷ ws)) Unbound b ws rest g (rw s, rw n))

pub member_took : (earlier : List TypeInner) (ws : List ℕ) (m : StructMember) (rest : List ℕ) → read_member earlier ws ≡ got m rest
    → (m ≡ member_at ws) × (drop (member_width ws) ws ≡ rest) × (ltb m.ty (length earlier) ≡ true)
unfolding read_member
member_took earlier ws m rest e =
    one_then (index_well_formed (length earlier)) ws _ m rest e λ named r f q g.
    next_then (read_binding r) _ m rest g λ binding s i j.
    let (t, u) = picked (binding_good earlier (content_of named) binding) _ m rest j in
    let (c, d) = binding_took named r binding s i in
    let l : ltb (content_of named) (length earlier) ≡ true = second (eqb (kind_of named) 5) (ltb (content_of named) (length earlier)) f in
    got_as (λ m rest. (m ≡ member_at ws) × (drop (member_width ws) ws ≡ rest) × (ltb m.ty (length earlier) ≡ true))
    (record { ty = content_of named; binding = binding }) m s rest u (rw (q, c), rw q d, l)

pub members_took : (earlier : List TypeInner) (n : ℕ) (ws : List ℕ) (members : List StructMember) (rest : List ℕ) → several n (read_member earlier) ws ≡ got members rest
    → (members ≡ members_at n ws) × (members_below (length earlier) members ≡ true)
unfolding several members_at every
members_took earlier zero ws members rest e =
    got_as (λ members rest. (members ≡ members_at zero ws) × (members_below (length earlier) members ≡ true)) [] members ws rest e (refl, refl)
members_took earlier (suc n) ws members rest e =
    next_then (read_member earlier ws) _ members rest e λ m r f g.
    next_then (several n (read_member earlier) r) _ members rest g λ others s i j.
    let (a, b, c) = member_took earlier ws m r f in
    let (o, p) = members_took earlier n r others s i in
    got_as (λ members rest. (members ≡ members_at (suc n) ws) × (members_below (length earlier) members ≡ true)) (m ∷ others) members s rest j
    (rw (b, ← a, ← o), rw (c, p))

-- neither names a type
shaped_below : (n : ℕ) (d : NumericDimension) (s : Numeric.Scalar) → names_below n (shaped d s) ≡ true
shaped_below n D.Scalar s = refl
shaped_below n (D.Vector size) s = refl
shaped_below n (D.Matrix columns rows) s = refl

pub type_took : (earlier : List TypeInner) (ws : List ℕ) (t : TypeInner) (rest : List ℕ) → read_type earlier ws ≡ got t rest
    → (t ≡ type_at ws) × (names_below (length earlier) t ≡ true)
unfolding read_type type_at
type_took earlier ws t rest e =
    one_then (head_well_formed (length earlier)) ws _ t rest e λ w r f q g.
    by_test (eqb (kind_of w) 22)
    (λ k. got_as (λ t rest. (t ≡ type_at ws) × (names_below (length earlier) t ≡ true)) (numeric_type (type_of w)) t r rest (rw k at g)
    (rw (q, k), shaped_below (length earlier) (type_of w).dim (type_of w).scalar))
    λ n. by_test (eqb (kind_of w) 23)
    (λ k. let v : eqb (bits 26 16 w) 0 && ltb (bits 15 0 w) (length earlier) ≡ true = rw (n, k) at f in
    one_then (of_word 6) r _ t rest (rw (n, k) at g) λ size s i j o.
    got_as (λ t rest. (t ≡ type_at ws) × (names_below (length earlier) t ≡ true)) (Array (bits 15 0 w) (content_of size)) t s rest o
    (rw (q, n, k, j), second (eqb (bits 26 16 w) 0) (ltb (bits 15 0 w) (length earlier)) v))
    (λ o. next_then (several (bits 15 0 w) (read_member earlier) r) _ t rest (rw (n, o) at g) λ members s i j.
    let (a, b) = members_took earlier (bits 15 0 w) r members s i in
    got_as (λ t rest. (t ≡ type_at ws) × (names_below (length earlier) t ≡ true)) (Struct members) t s rest j (rw (q, n, o, ← a), b))
