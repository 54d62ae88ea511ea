-- The code's ways through one type.
use Prim.Native.Nat.{ℕ, suc, ◌+◌, ◌%◌, ◌^◌, ◌<◌, min}
use native.Mathlib.Omega.{arith}
use mathlib.Core.Path.{◌≡◌, refl, sym, ap, ◌∙◌}
use mathlib.Core.Bool.{Bool, true, false, not, ◌&&◌}
use mathlib.Core.List.{List, ◌∷◌}
use borrow.Author.Tests.{eq-eqb, ne_eqb, ltb-true, not-true, not-false}
use lib.Dec.{eqb, ltb}
use lib.ListN.{length, drop}
use Rattle.word.specs.Choice.{pick}
use Rattle.word.specs.Words.{word_at, kind_of, content_of, bits}
use Rattle.word.specs.Parse.{Parsed, got, next, one, several}
use Rattle.word.proofs.Parse.{one_fault, one_got}
use Rattle.word.proofs.Truth.{second}
use Rattle.numeric.specs.TypeWords.{type_of}
use Rattle.numeric.specs.declared.types.Scalar as Numeric
use Rattle.numeric.specs.declared.types.NumericDimension.{NumericDimension}
use Rattle.numeric.specs.declared.types.NumericDimension.TheVariants as D
use Rattle.interface.specs.Format.{of_word}
use Rattle.type_lists.specs.Meaning.{Unbound, StructMember, TypeInner, Array, Struct}
use Rattle.type_lists.specs.Format.{read_member, head_well_formed, shaped, numeric_type, read_type}
use Rattle.type_lists.specs.Rules.{populate, members_give, type_nests, nesting, deepest}
use Rattle.type_lists.proofs.Numbered.{numbered_last, numbered_earlier, by_last, by_earlier}
use Rattle.type_check.specs.declared.notes.Note.{Note}
use Rattle.type_check.specs.declared.notes.TypeNote.{TypeNote}
use Rattle.type_check.specs.Inner.Notes as N
use Rattle.type_check.specs.Inner.Notes.{note, note_of, members_note, is_struct, lone_note, number_note, note_at, Noted, Reached, upto, members_reached, struct_of, type_reached}
use Rattle.type_check.proofs.Gives.{gives_last, gives_earlier}
use Rattle.type_check.proofs.GivenWays.{shaped_lone, depth_noted}
use Rattle.type_check.proofs.MemberWays.{reached_got, reached_fault}

-- ---- what is noted of the last type

module _ (types : List TypeInner) where
  pub number_earlier : (t : TypeInner) (n : ℕ) → n < length types → number_note (t ∷ types) n ≡ number_note types n
  unfolding number_note
  number_earlier t n h = rw (numbered_earlier t types n h, by_earlier t types type_nests 0 n h, gives_earlier t types Unbound n h)

  struct_last : (members : List StructMember) → number_note (Struct members ∷ types) (length types) ≡ note_of (suc (deepest (nesting types) members)) (members_give (populate types) members)
  unfolding number_note
  struct_last members = rw (numbered_last (Struct members) types, by_last (Struct members) types type_nests 0, gives_last (Struct members) types Unbound)

  lone_last : (t : TypeInner) → is_struct t ≡ false → number_note (t ∷ types) (length types) ≡ lone_note (type_nests (nesting types) t)
  unfolding number_note
  lone_last t h = rw (numbered_last t types, h, by_last t types type_nests 0)

  shaped_nests : (d : NumericDimension) (s : Numeric.Scalar) → type_nests (nesting types) (shaped d s) ≡ 0
  shaped_nests D.Scalar s = refl
  shaped_nests (D.Vector size) s = refl
  shaped_nests (D.Matrix columns rows) s = refl

  -- ---- a struct

  pub struct_stops : (p : Parsed (List StructMember)) → N.nowhere ≡ members_reached types p → N.nowhere ≡ type_reached types (struct_of p)
  struct_stops p e = rw (reached_fault (members_note types) p e)

  pub struct_went : (l : List ℕ) (p : Parsed (List StructMember)) (t d : Note) → upto l t ≡ members_reached types p → d ≡ note (min (t.depth + 1) 9) t.count t.words
      → upto l d ≡ type_reached types (struct_of p)
  unfolding note_of
  struct_went l p t d e f =
      reached_got (members_note types) l t p e λ members q b.
      let g : min (min (deepest (nesting types) members) 9 + 1) 9 ≡ min (suc (deepest (nesting types) members)) 9 = omega arith in
      rw (q, f, b, struct_last members, g)

-- ---- a type, by its head

head_zero : (n : ℕ) → head_well_formed n 0 ≡ false
head_zero n = refl

module _ (types : List TypeInner) (ws : List ℕ) (n at w : ℕ) (l : length types ≡ n) (e : w ≡ word_at ws at) (b : Bool) (f : b ≡ head_well_formed n w) where
  head_now : b ≡ head_well_formed (length types) w
  head_now = rw l f

  pub type_malformed : not b ≡ true → N.nowhere ≡ type_reached types (read_type types (drop at ws))
  unfolding read_type
  type_malformed o = rw (one_fault (head_well_formed (length types)) ws at w b e head_now (not-true b o))

  module _ (o : not b ≡ false) where
    type_headed : read_type types (drop at ws) ≡ (pick (eqb (kind_of w) 22) (got (numeric_type (type_of w)) (drop (at + 1) ws))
        (pick (eqb (kind_of w) 23) (next (one (of_word 6) (drop (at + 1) ws)) λ size rest. got (Array (bits 15 0 w) (content_of size)) rest)
        (struct_of (several (bits 15 0 w) (read_member types) (drop (at + 1) ws)))))
    unfolding read_type
    type_headed = rw (one_got (head_well_formed (length types)) ws at w b e head_now (not-false b o) (head_zero (length types)))

    module _ (x : ℕ) (k : x ≡ kind_of w) where
      pub type_numeric : (t : Note) → x ≡ 22 → t ≡ note 0 1 1 → upto (drop (at + 1) ws) t ≡ type_reached types (read_type types (drop at ws))
      type_numeric t z q =
          rw (
            type_headed,
            ← k,
            z,
            q,
            lone_last types (numeric_type (type_of w)) (shaped_lone (type_of w).dim (type_of w).scalar),
            shaped_nests types (type_of w).dim (type_of w).scalar,
          )

      module _ (z : x ≡ 23) where
        pub element_below : w % 2 ^ 16 < n
        element_below =
            let q : eqb (bits 26 16 w) 0 && ltb (bits 15 0 w) n ≡ true = rw (← k, z) at (sym f ∙ not-false b o) in
            ltb-true (bits 15 0 w) n (second (eqb (bits 26 16 w) 0) (ltb (bits 15 0 w) n) q)

        module _ (v m : ℕ) (g : v ≡ word_at ws (at + 1)) (u : m ≡ kind_of v) where
          word_now : eqb m 6 ≡ of_word 6 v
          word_now = rw u

          pub array_malformed : (m ≡ 6 → ⊥) → N.nowhere ≡ type_reached types (read_type types (drop at ws))
          array_malformed q = rw (type_headed, ← k, z, one_fault (of_word 6) ws (at + 1) v (eqb m 6) g word_now (ne_eqb m 6 q))

          pub array_well_formed : (notes : List TypeNote) (t r : Note) → Noted types ws notes → m ≡ 6 → t ≡ note_at notes (w % 2 ^ 16) → r ≡ note t.depth 1 1
              → upto (drop (at + 2) ws) r ≡ type_reached types (read_type types (drop at ws))
          array_well_formed notes t r s q d i =
              let j : t.depth ≡ min (nesting types (bits 15 0 w)) 9 = ap (λ (x : Note). x.depth) d ∙ depth_noted types ws notes s (w % 2 ^ 16) (omega (arith, element_below)) in
              let c : at + 1 + 1 ≡ at + 2 = omega arith in
              rw (type_headed, ← k, z, one_got (of_word 6) ws (at + 1) v (eqb m 6) g word_now (eq-eqb m 6 q) refl, c)
              (rw (lone_last types (Array (bits 15 0 w) (content_of v)) refl, i, j))

      pub type_struct : (r : Reached) → (x ≡ 22 → ⊥) → (x ≡ 23 → ⊥) → r ≡ type_reached types (struct_of (several (w % 2 ^ 16) (read_member types) (drop (at + 1) ws)))
          → r ≡ type_reached types (read_type types (drop at ws))
      type_struct r y z i = i ∙ rw (type_headed, ← k, ne_eqb x 22 y, ne_eqb x 23 z)
