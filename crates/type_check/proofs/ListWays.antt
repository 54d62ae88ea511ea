-- The code's ways through a list of types.
use Prim.Native.Nat.{ℕ, suc, ◌+◌, ◌-◌, ◌<◌, ◌≤◌}
use native.Mathlib.Omega.{arith}
use native.Mathlib.Nat.{zero-add}
use mathlib.Core.Path.{◌≡◌, refl, sym, ◌∙◌}
use mathlib.Core.Bool.{Bool, true, false, not, false≢true}
use mathlib.Core.List.{List, [], ◌∷◌}
use borrow.Author.Tests.{eqb-true, eqb-false, lt-leb, le-leb, not-true, not-false}
use lib.Dec.{eqb}
use lib.ListN.{get_or, set, length, drop, length-drop}
use lib.Seq.{get_or-set_same, get_or-set_other}
use Rattle.std.specs.Prelude.{Option, Some, None, is_some}
use Rattle.word.specs.Words.{word_at, content_of}
use Rattle.word.specs.Parse.{Parsed, fault, got, one, nowhere, from, behind, rest_of}
use Rattle.word.proofs.Parse.{one_fault, one_got}
use Rattle.word.proofs.Truth.{by_test}
use Rattle.type_lists.specs.Meaning.{TypeInner}
use Rattle.type_lists.specs.Format.{head_well_formed, read_type, read_types, count_well_formed, read_list, decode}
use Rattle.type_lists.proofs.Numbered.{types_add, types_one, types_length, numbered_last, numbered_earlier}
use Rattle.interface.proofs.RestoreRecords.{one_then}
use Rattle.type_check.specs.declared.notes.Note.{Note}
use Rattle.type_check.specs.declared.notes.TypeNote.{TypeNote}
use Rattle.type_check.specs.Inner.Positions.{types_of, earlier_of, declared, accepted, listed}
use Rattle.type_check.specs.Inner.Notes as N
use Rattle.type_check.specs.Inner.Notes.{number_note, unnoted, Stands, Noted, upto, type_reached}
use Rattle.type_check.proofs.Taken.{type_took}
use Rattle.type_check.proofs.MemberWays.{reached_got, reached_fault}
use Rattle.type_check.proofs.TypeWays.{number_earlier}

-- ---- one type more

-- a type has a word
some_word : (types : List TypeInner) (l : List ℕ) (t : TypeInner) (rest : List ℕ) → read_type types l ≡ got t rest → 1 ≤ length l
unfolding read_type
some_word types l t rest e = one_then (head_well_formed (length types)) l _ t rest e λ w r f q g. rw q (omega arith)

-- a type that was read, noted behind the earlier ones
noted_more : (types : List TypeInner) (ws : List ℕ) (notes : List TypeNote) (h : TypeNote) (t : TypeInner) (rest : List ℕ) → Noted types ws notes → read_type types (drop h.start ws) ≡ got t rest
    → h.note ≡ number_note (t ∷ types) (length types) → length types < length notes → length types < 256 → Noted (t ∷ types) ws (set notes (length types) h)
noted_more types ws notes h t rest s e g k few = record { each = each; few = omega arith }
  where
    last : Stands (t ∷ types) ws (length types) h
    last =
        let (a, c) = type_took types (drop h.start ws) t rest e in
        record {
          is = rw (numbered_last t types) a;
          below = rw (numbered_last t types) c;
          noted = g;
        }

    before : (j : ℕ) → j < length types → Stands (t ∷ types) ws j (get_or notes j unnoted)
    before j q =
        record {
          is = rw (numbered_earlier t types j q) (s.each j q).is;
          below = rw (numbered_earlier t types j q) (s.each j q).below;
          noted = rw (number_earlier types t j q) (s.each j q).noted;
        }

    each : (j : ℕ) → j < length (t ∷ types) → Stands (t ∷ types) ws j (get_or (set notes (length types) h) j unnoted)
    each j q =
        by_test (eqb j (length types))
        (λ y. let p : j ≡ length types = eqb-true j (length types) y in rw (p, get_or-set_same notes (length types) h unnoted k) last)
        (λ y. let d : j ≡ length types → ⊥ = eqb-false j (length types) y in rw (get_or-set_other notes (length types) j h unnoted d) (before j (omega arith)))

-- ---- the walk over types

pub types_begin : (ws : List ℕ) → read_types 0 [] (drop 1 ws) ≡ got (earlier_of ws 0) (drop 1 ws)
unfolding earlier_of read_types
types_begin ws = refl

pub none_noted : (ws : List ℕ) (notes : List TypeNote) → Noted (earlier_of ws 0) ws notes
unfolding earlier_of read_types
none_noted ws notes = record { each = λ k h. absurd (omega arith); few = omega arith }

module _ (ws : List ℕ) (i at : ℕ) (e : read_types i [] (drop 1 ws) ≡ got (earlier_of ws i) (drop at ws)) where
  pub earlier_length : length (earlier_of ws i) ≡ i
  earlier_length = types_length i [] (drop 1 ws) (earlier_of ws i) (drop at ws) e ∙ zero-add i

  pub types_stop : (count : ℕ) → N.nowhere ≡ type_reached (earlier_of ws i) (read_type (earlier_of ws i) (drop at ws)) → i < count → nowhere ≡ behind (read_types count [] (drop 1 ws))
  unfolding read_types
  types_stop count g k =
      let c : count ≡ i + suc (count - i - 1) = omega arith in
      rw (c, types_add i (suc (count - i - 1)) [] (drop 1 ws), e, reached_fault (λ t. number_note (t ∷ earlier_of ws i) (length (earlier_of ws i))) (read_type (earlier_of ws i) (drop at ws)) g)

  module _ (r : ℕ) (n : Note) (g : upto (drop r ws) n ≡ type_reached (earlier_of ws i) (read_type (earlier_of ws i) (drop at ws))) where
    pub type_inside : length ws ≤ 1024 → at < 1024
    type_inside few =
        reached_got (λ t. number_note (t ∷ earlier_of ws i) (length (earlier_of ws i))) (drop r ws) n (read_type (earlier_of ws i) (drop at ws)) g λ t q y.
        omega (arith, some_word (earlier_of ws i) (drop at ws) t (drop r ws) q, length-drop at ws)

    more_read : {G : Type 0} → ((t : TypeInner) → read_type (earlier_of ws i) (drop at ws) ≡ got t (drop r ws) → n ≡ number_note (t ∷ earlier_of ws i) (length (earlier_of ws i))
        → read_types (i + 1) [] (drop 1 ws) ≡ got (t ∷ earlier_of ws i) (drop r ws) → earlier_of ws (i + 1) ≡ t ∷ earlier_of ws i → G) → G
    unfolding earlier_of
    more_read f =
        reached_got (λ t. number_note (t ∷ earlier_of ws i) (length (earlier_of ws i))) (drop r ws) n (read_type (earlier_of ws i) (drop at ws)) g λ t q y.
        let z : read_types (i + 1) [] (drop 1 ws) ≡ got (t ∷ earlier_of ws i) (drop r ws) = types_one i [] (drop 1 ws) ∙ rw e (rw q) in
        f t q y z (rw z)

    pub types_on : read_types (i + 1) [] (drop 1 ws) ≡ got (earlier_of ws (i + 1)) (drop r ws)
    types_on = more_read λ t q y z p. rw (p, z)

    pub noted_on : (notes : List TypeNote) (count : ℕ) (near : at < 1024) → Noted (earlier_of ws i) ws notes → i < count → count ≤ 256 → length notes ≡ 256
        → Noted (earlier_of ws (i + 1)) ws (set notes i (record { start = at; note = n; near = near }))
    noted_on notes count near s k m l =
        more_read λ v q y z p.
        let d : Noted (v ∷ earlier_of ws i) ws (set notes (length (earlier_of ws i)) (record { start = at; note = n; near = near })) =
        noted_more (earlier_of ws i) ws notes (record { start = at; note = n; near = near }) v (drop r ws) s q y (omega (arith, earlier_length)) (omega (arith, earlier_length)) in
        rw p (rw earlier_length at d)

-- ---- the list

by_option : {G : Type 0} (p : Option ℕ) → (p ≡ None → G) → ((r : ℕ) → p ≡ Some r → G) → G
by_option None f g = f refl
by_option (Some r) f g = g r refl

count_zero : count_well_formed 0 ≡ false
count_zero = refl

pub list_long : (ws : List ℕ) → 1024 < length ws → false ≡ listed ws
unfolding listed decode
list_long ws h = sym (rw (lt-leb (length ws) 1024 h))

module _ (ws : List ℕ) (w : ℕ) (b : Bool) (h : length ws ≤ 1024) (e : w ≡ word_at ws 0) (f : b ≡ count_well_formed w) where
  pub list_uncounted : not b ≡ true → false ≡ listed ws
  unfolding listed decode read_list
  list_uncounted o = let q : one count_well_formed ws ≡ fault = one_fault count_well_formed ws 0 w b e f (not-true b o) in sym (rw (le-leb (length ws) 1024 h, q))

  module _ (o : not b ≡ false) where
    list_read : decode ws ≡ read_types (content_of w) [] (drop 1 ws)
    unfolding decode read_list
    list_read = let q : one count_well_formed ws ≡ got w (drop 1 ws) = one_got count_well_formed ws 0 w b e f (not-false b o) count_zero in rw (le-leb (length ws) 1024 h, q)

    module _ (c : ℕ) (p : Option ℕ) (g : c ≡ content_of w) (i : rest_of ws p ≡ behind (read_types c [] (drop 1 ws))) where
      accepts : (q : Parsed (List TypeInner)) → rest_of ws p ≡ behind q → is_some p ≡ accepted q
      accepts fault e = by_option p (λ n. rw n) (λ r s. absurd (let y : from (drop r ws) ≡ nowhere = rw s at e in let z : ◌≡◌ {A = ℕ} 0 1 = cc in omega arith))
      accepts (got a rest) e = by_option p (λ n. absurd (let y : nowhere ≡ from rest = rw n at e in let z : ◌≡◌ {A = ℕ} 0 1 = cc in omega arith)) (λ r s. rw s)

      pub list_told : (b : Bool) → b ≡ is_some p → b ≡ listed ws
      unfolding listed
      list_told b q = q ∙ rw list_read (rw g at (accepts (read_types c [] (drop 1 ws)) i))

      pub all_read : declared ws ≡ earlier_of ws (content_of (word_at ws 0))
      unfolding declared earlier_of
      all_read = rw (list_read, e)

      all_read_here : declared ws ≡ earlier_of ws c
      all_read_here = rw (g, e) all_read

      pub list_noted : (notes : List TypeNote) (b : Bool) → b ≡ is_some p → (is_some p ≡ true → Noted (earlier_of ws c) ws notes) → b ≡ true → Noted (declared ws) ws notes
      list_noted notes b q s t = rw all_read_here (s (sym q ∙ t))

      counted : (q : Parsed (List TypeInner)) → read_types c [] (drop 1 ws) ≡ q → accepted q ≡ true → length (types_of q) ≡ c
      counted fault z k = absurd (false≢true k)
      counted (got a rest) z k = types_length c [] (drop 1 ws) a rest z ∙ zero-add c

      pub list_count : (b : Bool) → b ≡ is_some p → b ≡ true → length (declared ws) ≡ content_of (word_at ws 0)
      unfolding earlier_of
      list_count b q t =
          rw all_read_here (counted (read_types c [] (drop 1 ws)) refl (sym (accepts (read_types c [] (drop 1 ws)) i) ∙ sym q ∙ t) ∙ rw (g, e))
