-- What a type gives, by what it is: one that is no struct by its binding, a struct by its members.
use Prim.Native.Nat.{ℕ, ◌<◌, ◌≤◌}
use native.Mathlib.Omega.{arith}
use mathlib.Core.Path.{◌≡◌, refl, sym, ap, ◌∙◌}
use mathlib.Core.Bool.{true, false, false≢true}
use mathlib.Core.List.{List, [], ◌∷◌}
use borrow.Author.Tests.{eqb-true, eqb-false, ltb-true}
use lib.Dec.{eqb, ltb}
use lib.ListN.{length}
use Rattle.word.proofs.Truth.{by_test}
use Rattle.word.proofs.Lists.{every_first, every_others}
use Rattle.interface.specs.declared.types.Varying.{Varying}
use Rattle.type_lists.specs.Meaning.{Binding, StructMember, TypeInner, Scalar, Vector, Matrix, Array, Struct, type_numbered}
use Rattle.type_lists.specs.Rules.{members_give, type_gives, populate}
use Rattle.type_lists.proofs.Numbered.{numbered_last, numbered_earlier, by_last, by_earlier}
use Rattle.type_check.specs.Inner.Positions.{members_below, names_below}
use Rattle.type_check.specs.Inner.Notes.{is_struct}

-- what is given of the last type, and of an earlier one
module _ (t : TypeInner) (earlier : List TypeInner) (binding : Binding) where
  pub gives_last : populate (t ∷ earlier) (length earlier) binding ≡ type_gives (populate earlier) t binding
  gives_last = ap (λ (f : Binding → List Varying). f binding) (by_last t earlier type_gives (λ binding. []))

  pub gives_earlier : (n : ℕ) → n < length earlier → populate (t ∷ earlier) n binding ≡ populate earlier n binding
  gives_earlier n h = ap (λ (f : Binding → List Varying). f binding) (by_earlier t earlier type_gives (λ binding. []) n h)

-- a type that is no struct asks for no other
lone_type : (given : ℕ → Binding → List Varying) (t : TypeInner) (binding : Binding) → is_struct t ≡ false → type_gives given t binding ≡ type_gives (λ n binding. []) t binding
lone_type given (Scalar scalar) binding h = refl
lone_type given (Vector size scalar) binding h = refl
lone_type given (Matrix columns rows scalar) binding h = refl
lone_type given (Array base size) binding h = refl
lone_type given (Struct members) binding h = absurd (false≢true (sym h))

pub lone_gives : (types : List TypeInner) (n : ℕ) (binding : Binding) → n < length types → is_struct (type_numbered types n) ≡ false
    → populate types n binding ≡ type_gives (λ n binding. []) (type_numbered types n) binding
lone_gives [] n binding h k = absurd (omega arith)
lone_gives (t ∷ earlier) n binding h k =
    by_test (eqb n (length earlier))
    (λ e. let q : n ≡ length earlier = eqb-true n (length earlier) e in
    let p : is_struct t ≡ false = rw (q, numbered_last t earlier) at k in
    rw (q, numbered_last t earlier) (gives_last t earlier binding ∙ lone_type (populate earlier) t binding p))
    (λ f. let d : n ≡ length earlier → ⊥ = eqb-false n (length earlier) f in
    let l : n < length earlier = omega arith in
    let p : is_struct (type_numbered earlier n) ≡ false = rw (numbered_earlier t earlier n l) at k in
    rw (numbered_earlier t earlier n l) (gives_earlier t earlier binding n l ∙ lone_gives earlier n binding l p))

-- a struct's own binding is ignored
struct_type : (given : ℕ → Binding → List Varying) (t : TypeInner) (a b : Binding) → is_struct t ≡ true → type_gives given t a ≡ type_gives given t b
struct_type given (Scalar scalar) a b h = absurd (false≢true h)
struct_type given (Vector size scalar) a b h = absurd (false≢true h)
struct_type given (Matrix columns rows scalar) a b h = absurd (false≢true h)
struct_type given (Array base size) a b h = absurd (false≢true h)
struct_type given (Struct members) a b h = refl

pub struct_ignores : (types : List TypeInner) (n : ℕ) (a b : Binding) → n < length types → is_struct (type_numbered types n) ≡ true
    → populate types n a ≡ populate types n b
struct_ignores [] n a b h k = absurd (omega arith)
struct_ignores (t ∷ earlier) n a b h k =
    by_test (eqb n (length earlier))
    (λ e. let q : n ≡ length earlier = eqb-true n (length earlier) e in
    let p : is_struct t ≡ true = rw (q, numbered_last t earlier) at k in
    rw q (gives_last t earlier a ∙ struct_type (populate earlier) t a b p ∙ sym (gives_last t earlier b)))
    (λ f. let d : n ≡ length earlier → ⊥ = eqb-false n (length earlier) f in
    let l : n < length earlier = omega arith in
    let p : is_struct (type_numbered earlier n) ≡ true = rw (numbered_earlier t earlier n l) at k in
    gives_earlier t earlier a n l ∙ struct_ignores earlier n a b l p ∙ sym (gives_earlier t earlier b n l))

-- members that name earlier types give the same when a type more is read
members_same : (t : TypeInner) (earlier : List TypeInner) (k : ℕ) → k ≤ length earlier → (members : List StructMember) → members_below k members ≡ true
    → members_give (populate (t ∷ earlier)) members ≡ members_give (populate earlier) members
unfolding members_give
members_same t earlier k few [] h = refl
members_same t earlier k few (m ∷ members) h =
    let l : m.ty < k = ltb-true m.ty k (every_first (λ m. ltb m.ty k) m members h) in
    rw (gives_earlier t earlier m.binding m.ty (omega arith), members_same t earlier k few members (every_others (λ m. ltb m.ty k) m members h))

-- a struct gives what its members give, by the same list
pub struct_gives : (types : List TypeInner) → ((k : ℕ) → k < length types → names_below k (type_numbered types k) ≡ true)
    → (n : ℕ) → n < length types → (members : List StructMember) → type_numbered types n ≡ Struct members → (binding : Binding)
    → populate types n binding ≡ members_give (populate types) members
struct_gives [] below n h members e binding = absurd (omega arith)
struct_gives (t ∷ earlier) below n h members e binding =
    by_test (eqb n (length earlier))
    (λ z. let q : n ≡ length earlier = eqb-true n (length earlier) z in
    let p : t ≡ Struct members = sym (numbered_last t earlier) ∙ rw q at e in
    let b : members_below n members ≡ true = rw e at (below n h) in
    let r : type_gives (populate earlier) t binding ≡ members_give (populate earlier) members = rw p in
    rw q (gives_last t earlier binding ∙ r) ∙ sym (members_same t earlier n (omega arith) members b))
    (λ f. let d : n ≡ length earlier → ⊥ = eqb-false n (length earlier) f in
    let l : n < length earlier = omega arith in
    let b : members_below n members ≡ true = rw e at (below n h) in
    let p : type_numbered earlier n ≡ Struct members = sym (numbered_earlier t earlier n l) ∙ e in
    gives_earlier t earlier binding n l
    ∙ struct_gives earlier (λ k i. rw (numbered_earlier t earlier k i) at (below k (omega arith))) n l members p binding
    ∙ sym (members_same t earlier n (omega arith) members b))
