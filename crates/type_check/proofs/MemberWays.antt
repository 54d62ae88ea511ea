-- The code's ways through the members of a struct.
use Prim.Native.Nat.{ℕ, suc, ◌+◌, ◌-◌, ◌<◌, ◌≤◌}
use native.Mathlib.Omega.{arith}
use mathlib.Core.Path.{◌≡◌, refl, sym, ap, ◌∙◌}
use mathlib.Core.Bool.{Bool, true, false, not}
use mathlib.Core.List.{List, ◌∷◌}
use borrow.Author.Tests.{ltb-true, not-true, not-false}
use lib.Dec.{eqb, ltb}
use lib.ListN.{length, drop}
use Rattle.word.specs.Choice.{pick}
use Rattle.word.specs.Words.{word_at, kind_of, content_of, bits}
use Rattle.word.specs.Parse.{Parsed, fault, got, next, several, nowhere, from, behind}
use Rattle.word.proofs.Parse.{first_of, others_of, one_fault, one_got}
use Rattle.word.proofs.Truth.{second}
use Rattle.interface.specs.Format.{index_well_formed}
use Rattle.type_lists.specs.Meaning.{StructMember, TypeInner}
use Rattle.type_lists.specs.Format.{read_binding, binding_good, read_member}
use Rattle.type_lists.specs.Rules.{populate, nesting}
use Rattle.type_check.specs.declared.notes.Note.{Note}
use Rattle.type_check.specs.declared.notes.TypeNote.{TypeNote}
use Rattle.type_check.specs.Inner.Positions.{binding_at, member_at}
use Rattle.type_check.specs.Inner.Notes as N
use Rattle.type_check.specs.Inner.Notes.{note, note_of, start_at, both, member_note, members_note, given_note, Noted, Reached, upto, reached, member_reached, members_reached, onward}
use Rattle.type_check.specs.Inner.Clips.{binding_good_at}
use Rattle.type_check.proofs.Taken.{binding_took, member_took}
use Rattle.type_check.proofs.Noting.{members_more, members_first, members_end, of_bounded}
use Rattle.type_check.proofs.ClipWays.{element_noted, good_is}
use Rattle.type_check.proofs.GivenWays.{given_is}

-- a reader that stopped at words has got something, with them behind it, and one that stopped nowhere has found a fault
pub went_on : {A G : Type 0} (p : Parsed A) (l : List ℕ) → from l ≡ behind p → ((a : A) → p ≡ got a l → G) → G
went_on fault l e f = absurd (let y : ◌≡◌ {A = ℕ} 0 1 = cc in omega arith)
went_on (got a rest) l e f = f a (let y : rest ≡ l = cc in rw y)

pub stopped : {A : Type 0} (p : Parsed A) → nowhere ≡ behind p → p ≡ fault
stopped fault e = refl
stopped (got a rest) e = absurd (let y : ◌≡◌ {A = ℕ} 0 1 = cc in omega arith)

-- ---- where a member ends

index_zero : (n : ℕ) → index_well_formed n 0 ≡ false
index_zero n = refl

module _ (types : List TypeInner) (ws : List ℕ) (n at w : ℕ) (l : length types ≡ n) (e : w ≡ word_at ws at) (b : Bool) (f : b ≡ index_well_formed n w) where
  index_now : b ≡ index_well_formed (length types) w
  index_now = rw l f

  pub member_unnamed : not b ≡ true → nowhere ≡ behind (read_member types (drop at ws))
  unfolding read_member
  member_unnamed o = rw (one_fault (index_well_formed (length types)) ws at w b e index_now (not-true b o))

  module _ (o : not b ≡ false) where
    pub named_below : content_of w < n
    named_below = ltb-true (content_of w) n (second (eqb (kind_of w) 5) (ltb (content_of w) n) (sym f ∙ not-false b o))

    -- the element of an array has an entry in the table
    pub element_there : (notes : List TypeNote) (m : ℕ) → Noted types ws notes → m ≡ content_of w → kind_of (word_at ws (start_at notes m)) ≡ 23 → bits 15 0 (word_at ws (start_at notes m)) < 256
    element_there notes m s c k = element_noted types ws notes s m n l (rw c named_below) k

    member_reads : read_member types (drop at ws) ≡ (next (read_binding (drop (at + 1) ws)) λ binding rest.
        pick (binding_good types (content_of w) binding) (got (record { ty = content_of w; binding = binding }) rest) fault)
    unfolding read_member
    member_reads = rw (one_got (index_well_formed (length types)) ws at w b e index_now (not-false b o) (index_zero (length types)))

    module _ (notes : List TypeNote) (s : Noted types ws notes) (m : ℕ) (c : m ≡ content_of w) (r v : ℕ) (g : Bool) (i : from (drop r ws) ≡ behind (read_binding (drop (at + 1) ws)))
        (u : v ≡ word_at ws (at + 1)) (k : g ≡ binding_good_at ws notes m v) where
      member_known : read_member types (drop at ws) ≡ pick g (got (record { ty = content_of w; binding = binding_at (drop (at + 1) ws) }) (drop r ws)) fault
      member_known =
          went_on (read_binding (drop (at + 1) ws)) (drop r ws) i λ a q.
          let (y, z) = binding_took 0 (drop (at + 1) ws) a (drop r ws) q in
          let h : binding_good types m (binding_at (drop (at + 1) ws)) ≡ g =
          good_is types ws notes s m (drop (at + 1) ws) (omega (arith, named_below)) ∙ rw (first_of ws (at + 1), ← u) (sym k) in
          member_reads ∙ rw (q, y, ← c, h)

      pub member_bad : not g ≡ true → nowhere ≡ behind (read_member types (drop at ws))
      member_bad z = rw (member_known, not-true g z)

      pub member_good : not g ≡ false → from (drop r ws) ≡ behind (read_member types (drop at ws))
      member_good z = rw (member_known, not-false g z)

    pub member_unbound : nowhere ≡ behind (read_binding (drop (at + 1) ws)) → nowhere ≡ behind (read_member types (drop at ws))
    member_unbound i = rw (member_reads, stopped (read_binding (drop (at + 1) ws)) i)

-- ---- a member and its note

pub member_stops : (types : List TypeInner) (p : Parsed StructMember) → nowhere ≡ behind p → N.nowhere ≡ member_reached types p
member_stops types p e = rw (stopped p e)

module _ (types : List TypeInner) (ws : List ℕ) (at r : ℕ) (e : from (drop r ws) ≡ behind (read_member types (drop at ws))) (m : ℕ) (c : m ≡ content_of (word_at ws at)) where
  member_below : m < length types
  member_below =
      went_on (read_member types (drop at ws)) (drop r ws) e λ a q.
      let (y, p, l) = member_took types (drop at ws) a (drop r ws) q in
      let o : a.ty ≡ m = ap (λ (x : StructMember). x.ty) y ∙ rw (first_of ws at) (sym c) in
      ltb-true m (length types) (rw o at l)

  pub member_there : (notes : List TypeNote) → Noted types ws notes → m < 256
  member_there notes s = omega (arith, member_below, s.few)

  module _ (notes : List TypeNote) (s : Noted types ws notes) (w : ℕ) (f : w ≡ word_at ws (at + 1)) (t : Note) (g : t ≡ given_note ws notes m w) where
    note_is : t ≡ member_note types (member_at (drop at ws))
    note_is =
        let a : given_note ws notes m w ≡ note_of (nesting types m) (populate types m (binding_at (drop (at + 1) ws))) =
        rw (f, ← first_of ws (at + 1)) (given_is types ws notes s m member_below (drop (at + 1) ws)) in
        let b : note_of (nesting types m) (populate types m (binding_at (drop (at + 1) ws))) ≡ member_note types (member_at (drop at ws)) = rw (first_of ws at, ← c, others_of ws at) in
        g ∙ a ∙ b

    pub member_went : upto (drop r ws) t ≡ member_reached types (read_member types (drop at ws))
    member_went =
        went_on (read_member types (drop at ws)) (drop r ws) e λ a q.
        let (y, p, l) = member_took types (drop at ws) a (drop r ws) q in
        rw (q, y, note_is)

    pub member_depth : t.depth ≤ 9
    member_depth = rw note_is (of_bounded _ _).0

    pub member_count : t.count ≤ 64
    member_count = rw note_is (of_bounded _ _).1.count

    pub member_words_lem : t.words ≤ 128
    member_words_lem = rw note_is (of_bounded _ _).1.words

-- ---- the walk over members

-- with what was noted before: its start, one member more, its ways out
first_members : (types : List TypeInner) (p : Parsed (List StructMember)) → members_reached types p ≡ onward (note 0 0 0) (members_reached types p)
first_members types fault = refl
first_members types (got members rest) = rw (members_first types members)

pub members_begin : (types : List TypeInner) (read : List ℕ → Parsed StructMember) (l : List ℕ) (count : ℕ)
    → members_reached types (several count read l) ≡ onward (note 0 0 0) (members_reached types (several (count - 0) read l))
members_begin types read l count = let z : count - 0 ≡ count = omega arith in rw z (first_members types (several count read l))

onward_on : (types : List TypeInner) (p : Parsed (List StructMember)) (total : Note) (m : StructMember)
    → onward total (members_reached types (next p λ others rest. got (m ∷ others) rest)) ≡ onward (both total (member_note types m)) (members_reached types p)
onward_on types fault total m = refl
onward_on types (got members rest) total m = rw (members_more types total m members)

-- a reader whose note was noted where it stopped has got something, and one that stopped nowhere has found a fault
pub reached_got : {A G : Type 0} (note_by : A → Note) (l : List ℕ) (n : Note) (p : Parsed A) → upto l n ≡ reached note_by p → ((a : A) → p ≡ got a l → n ≡ note_by a → G) → G
reached_got note_by l n fault e f = absurd (let z : ◌≡◌ {A = ℕ} 0 1 = cc in omega arith)
reached_got note_by l n (got a rest) e f =
    let b : rest ≡ l = cc in
    let c : n ≡ note_by a = cc in
    f a (rw b) c

pub reached_fault : {A : Type 0} (note_by : A → Note) (p : Parsed A) → N.nowhere ≡ reached note_by p → p ≡ fault
reached_fault note_by fault e = refl
reached_fault note_by (got a rest) e = absurd (let q : ◌≡◌ {A = ℕ} 0 1 = cc in omega arith)

module _ (types : List TypeInner) (ws : List ℕ) (count k at : ℕ) (total : Note) (goal : Reached)
    (inv : goal ≡ onward total (members_reached types (several (count - k) (read_member types) (drop at ws)))) where
  module _ (h : k < count) where
    several_on : several (count - k) (read_member types) (drop at ws)
        ≡ next (read_member types (drop at ws)) λ m rest. next (several (count - (k + 1)) (read_member types) rest) λ others rest. got (m ∷ others) rest
    unfolding several
    several_on = let z : count - k ≡ suc (count - (k + 1)) = omega arith in rw z

    pub members_stop : N.nowhere ≡ member_reached types (read_member types (drop at ws)) → N.nowhere ≡ goal
    members_stop e = sym (inv ∙ rw (several_on, reached_fault (member_note types) (read_member types (drop at ws)) e))

    pub members_on : (r : ℕ) (t later : Note) → upto (drop r ws) t ≡ member_reached types (read_member types (drop at ws)) → later ≡ both total t
        → goal ≡ onward later (members_reached types (several (count - (k + 1)) (read_member types) (drop r ws)))
    members_on r t later e f =
        reached_got (member_note types) (drop r ws) t (read_member types (drop at ws)) e λ m q n.
        inv ∙ rw (several_on, q) (onward_on types (several (count - (k + 1)) (read_member types) (drop r ws)) total m ∙ rw (← n, ← f))

  pub members_done : count ≤ k → total.count ≤ 64 → total.words ≤ 128 → upto (drop at ws) total ≡ goal
  unfolding several
  members_done h b c = let z : count - k ≡ 0 = omega arith in sym (inv ∙ rw (z, members_end types total (record { count = b; words = c })))
