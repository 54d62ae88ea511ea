-- What a type gives with a binding, by words and notes, is what the definition gives.
use Prim.Native.Nat.{ℕ, ◌+◌, ◌<◌, min}
use mathlib.Core.Path.{◌≡◌, refl, ap, ◌∙◌}
use mathlib.Core.Bool.{true, false}
use mathlib.Core.List.{List, []}
use borrow.Author.Tests.{eqb-true, eqb-false}
use lib.Dec.{eqb}
use lib.ListN.{length, drop}
use Rattle.word.specs.Choice.{pick, yes}
use Rattle.word.specs.Words.{word_at, kind_of, content_of, bits}
use Rattle.word.specs.Lists.{flat}
use Rattle.word.proofs.Truth.{by_test}
use Rattle.numeric.specs.TypeWords.{type_of}
use Rattle.numeric.specs.declared.types.Scalar as Numeric
use Rattle.numeric.specs.declared.types.NumericDimension.{NumericDimension}
use Rattle.numeric.specs.declared.types.NumericDimension.TheVariants as D
use Rattle.numeric.specs.declared.types.NumericType.{NumericType}
use Rattle.interface.specs.declared.types.BuiltIn.TheVariants as In
use Rattle.type_lists.specs.Meaning.{Binding, Unbound, Location, BuiltIn, TypeInner, Array, Struct, type_numbered}
use Rattle.type_lists.specs.Format.{is_clip, shaped, numeric_type}
use Rattle.type_lists.specs.Rules.{numeric_gives, array_gives, type_gives, populate, nesting}
use Rattle.type_check.specs.declared.notes.Note.{Note}
use Rattle.type_check.specs.declared.notes.TypeNote.{TypeNote}
use Rattle.type_check.specs.Inner.Positions.{binding_at, binding_of, members_at, type_at, struct_at}
use Rattle.type_check.specs.Inner.Notes.{note, note_of, is_struct, number_note, start_at, note_at, bound_note, given_note, Noted}
use Rattle.type_check.proofs.Gives.{lone_gives, struct_ignores}
use Rattle.type_check.proofs.ClipWays.{type_22, type_23, type_24, clip_bound}

-- ---- what the definition gives

numeric_note : (d : ℕ) (t : NumericType) (l : List ℕ) → note_of d (numeric_gives t (binding_at l)) ≡ bound_note (min d 9) (word_at l 0)
unfolding note_of binding_of flat
numeric_note d t l =
    by_test (eqb (kind_of (word_at l 0)) 12) (λ a. rw a) λ b.
    by_test (eqb (kind_of (word_at l 0)) 14) (λ a. rw (b, a)) (λ c. rw (b, c))

array_by : (d size : ℕ) (b : Binding) → note_of d (array_gives size b) ≡ pick (yes (is_clip b)) (note (min d 9) 1 1) (note (min d 9) 0 0)
unfolding note_of flat yes
array_by d size Unbound = refl
array_by d size (Location a i s p) = refl
array_by d size (BuiltIn (In.Other slots)) = refl
array_by d size (BuiltIn (In.PrimitiveIndex slots)) = refl
array_by d size (BuiltIn (In.DrawIndex slots)) = refl
array_by d size (BuiltIn (In.FragDepth slots)) = refl
array_by d size (BuiltIn (In.ClipDistances none)) = refl

pub shaped_gives : (d : NumericDimension) (s : Numeric.Scalar) (b : Binding) → type_gives (λ n binding. []) (shaped d s) b ≡ numeric_gives (record { dim = d; scalar = s }) b
shaped_gives D.Scalar s b = refl
shaped_gives (D.Vector size) s b = refl
shaped_gives (D.Matrix columns rows) s b = refl

pub shaped_lone : (d : NumericDimension) (s : Numeric.Scalar) → is_struct (shaped d s) ≡ false
shaped_lone D.Scalar s = refl
shaped_lone (D.Vector size) s = refl
shaped_lone (D.Matrix columns rows) s = refl

module _ (types : List TypeInner) (ws : List ℕ) (notes : List TypeNote) (s : Noted types ws notes) (n : ℕ) (h : n < length types) where
  now_is : type_numbered types n ≡ type_at (drop (start_at notes n) ws)
  now_is = (s.each n h).is

  -- by what stands there
  pub by_kind : {G : Type 0}
      → (kind_of (word_at ws (start_at notes n)) ≡ 22 → type_numbered types n ≡ numeric_type (type_of (word_at ws (start_at notes n))) → G)
      → (kind_of (word_at ws (start_at notes n)) ≡ 23
      → type_numbered types n ≡ Array (bits 15 0 (word_at ws (start_at notes n))) (content_of (word_at ws (start_at notes n + 1))) → G)
      → (struct_at ws (start_at notes n) ≡ true
      → type_numbered types n ≡ Struct (members_at (bits 15 0 (word_at ws (start_at notes n))) (drop (start_at notes n + 1) ws)) → G)
      → G
  by_kind f g i =
      by_test (eqb (kind_of (word_at ws (start_at notes n))) 22)
      (λ t. let k = eqb-true (kind_of (word_at ws (start_at notes n))) 22 t in f k (now_is ∙ type_22 ws (start_at notes n) k))
      λ a. by_test (eqb (kind_of (word_at ws (start_at notes n))) 23)
      (λ t. let k = eqb-true (kind_of (word_at ws (start_at notes n))) 23 t in g k (now_is ∙ type_23 ws (start_at notes n) k))
      (λ b. i (rw (a, b)) (now_is ∙ type_24 ws (start_at notes n) (eqb-false (kind_of (word_at ws (start_at notes n))) 22 a) (eqb-false (kind_of (word_at ws (start_at notes n))) 23 b)))

  -- how deep structs nest in it
  pub depth_noted : (note_at notes n).depth ≡ min (nesting types n) 9
  unfolding number_note note_of
  depth_noted =
      ap (λ (x : Note). x.depth) (s.each n h).noted
      ∙ by_test (is_struct (type_numbered types n)) (λ t. rw t) (λ f. rw f)

  struct_noted : (b : Binding) → is_struct (type_numbered types n) ≡ true → number_note types n ≡ note_of (nesting types n) (populate types n b)
  unfolding number_note
  struct_noted b o = rw (o, struct_ignores types n b Unbound h o)

  pub given_is : (l : List ℕ) → given_note ws notes n (word_at l 0) ≡ note_of (nesting types n) (populate types n (binding_at l))
  unfolding given_note
  given_is l =
      by_kind
      (λ k e. let o : is_struct (type_numbered types n) ≡ false = rw e (shaped_lone (type_of (word_at ws (start_at notes n))).dim (type_of (word_at ws (start_at notes n))).scalar) in
      let p : populate types n (binding_at l) ≡ numeric_gives (type_of (word_at ws (start_at notes n))) (binding_at l) =
      lone_gives types n (binding_at l) h o
      ∙ rw e (shaped_gives (type_of (word_at ws (start_at notes n))).dim (type_of (word_at ws (start_at notes n))).scalar (binding_at l)) in
      rw (k, p, numeric_note (nesting types n) (type_of (word_at ws (start_at notes n))) l, depth_noted))
      (λ k e. let o : is_struct (type_numbered types n) ≡ false = rw e in
      let p : populate types n (binding_at l) ≡ array_gives (content_of (word_at ws (start_at notes n + 1))) (binding_at l) = lone_gives types n (binding_at l) h o ∙ rw e in
      rw (k, p, array_by (nesting types n) (content_of (word_at ws (start_at notes n + 1))) (binding_at l), clip_bound l, depth_noted))
      (λ t e. let o : is_struct (type_numbered types n) ≡ true = rw e in
      rw (t, (s.each n h).noted) (struct_noted (binding_at l) o))
