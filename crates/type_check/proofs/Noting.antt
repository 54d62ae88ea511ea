-- Notes of what follows each other.
use Prim.Native.Nat.{ℕ, ◌+◌, ◌≤◌, min, max}
use native.Mathlib.Omega.{arith}
use mathlib.Core.Path.{◌≡◌, refl, sym}
use mathlib.Core.List.{List, [], ◌∷◌, ◌++◌, append_assoc}
use lib.ListN.{length, length-append}
use Rattle.word.specs.Lists.{flat}
use Rattle.interface.specs.Format.{varying_words}
use Rattle.interface.specs.declared.types.Varying.{Varying}
use Rattle.type_lists.specs.Meaning.{StructMember, TypeInner}
use Rattle.type_lists.specs.Rules.{populate, members_give, nesting, deepest}
use Rattle.type_check.specs.declared.notes.Note.{Note}
use Rattle.type_check.specs.Inner.Notes.{words_of, note, note_of, both, member_note, members_note}

-- ---- sums that stop at a bound

pub words_append : (xs ys : List Varying) → words_of (xs ++ ys) ≡ words_of xs ++ words_of ys
unfolding flat
words_append [] ys = refl
words_append (x ∷ xs) ys = rw (words_append xs ys) (sym (append_assoc (varying_words x) (words_of xs) (words_of ys)))

-- a sum is below its bounds
pub record Bounded (n : Note) : Type 0 where
  pub count : n.count ≤ 64
  pub words : n.words ≤ 128

-- what is noted is below the bounds at which sums stop
pub of_bounded : (d : ℕ) (vs : List Varying) → ((note_of d vs).depth ≤ 9) × Bounded (note_of d vs)
unfolding note_of
of_bounded d vs = (omega arith, record { count = omega arith; words = omega arith })

module _ (a b r : Note) (e : r ≡ both a b) where
  pub both_depth : a.depth ≤ 9 → b.depth ≤ 9 → r.depth ≤ 9
  unfolding both
  both_depth h k = rw e (omega arith)

  pub both_count : r.count ≤ 64
  unfolding both
  both_count = rw e (omega arith)

  pub both_words : r.words ≤ 128
  unfolding both
  both_words = rw e (omega arith)

both_none : (d : ℕ) (vs : List Varying) → both (note 0 0 0) (note_of d vs) ≡ note_of d vs
unfolding both note_of
both_none d vs =
    let p : max 0 (min d 9) ≡ min d 9 = omega arith in
    let q : min (0 + min (length vs) 64) 64 ≡ min (length vs) 64 = omega arith in
    let r : min (0 + min (length (words_of vs)) 128) 128 ≡ min (length (words_of vs)) 128 = omega arith in
    rw (p, q, r)

none_both : (n : Note) → Bounded n → both n (note 0 0 0) ≡ n
unfolding both
none_both n b =
    let p : max n.depth 0 ≡ n.depth = omega arith in
    let q : min (n.count + 0) 64 ≡ n.count = omega (arith, b.count) in
    let r : min (n.words + 0) 128 ≡ n.words = omega (arith, b.words) in
    rw (p, q, r)

min_over : (a b : ℕ) → min (max a b) 9 ≡ max (min a 9) (min b 9)
min_over a b = omega arith

max_over : (d x y : ℕ) → max d (max x y) ≡ max (max d x) y
max_over d x y = omega arith

depth_by : (d a b : ℕ) → max d (min (max a b) 9) ≡ max (max d (min a 9)) (min b 9)
depth_by d a b = rw (min_over a b) (max_over d (min a 9) (min b 9))

both_append : (n : Note) (a b : ℕ) (xs ys : List Varying) → both n (note_of (max a b) (xs ++ ys)) ≡ both (both n (note_of a xs)) (note_of b ys)
unfolding both note_of
both_append n a b xs ys =
    let q : min (n.count + min (length xs + length ys) 64) 64 ≡ min (min (n.count + min (length xs) 64) 64 + min (length ys) 64) 64 = omega arith in
    let r : min (n.words + min (length (words_of xs) + length (words_of ys)) 128) 128
    ≡ min (min (n.words + min (length (words_of xs)) 128) 128 + min (length (words_of ys)) 128) 128 = omega arith in
    rw (length-append xs ys, words_append xs ys, length-append (words_of xs) (words_of ys), depth_by n.depth a b, q, r)

pub members_more : (types : List TypeInner) (total : Note) (m : StructMember) (members : List StructMember)
    → both total (members_note types (m ∷ members)) ≡ both (both total (member_note types m)) (members_note types members)
unfolding deepest members_give
members_more types total m members =
    both_append total (nesting types m.ty) (deepest (nesting types) members) (populate types m.ty m.binding) (members_give (populate types) members)

pub members_first : (types : List TypeInner) (members : List StructMember) → both (note 0 0 0) (members_note types members) ≡ members_note types members
members_first types members = both_none (deepest (nesting types) members) (members_give (populate types) members)

pub members_end : (types : List TypeInner) (total : Note) → Bounded total → both total (members_note types []) ≡ total
unfolding deepest members_give note_of flat
members_end types total b = none_both total b
