-- The code's ways through the answer.
use Prim.Native.Nat.{ℕ, zero, suc, ◌+◌, ◌*◌, ◌<◌, ◌≤◌, min}
use native.Mathlib.Omega.{arith}
use mathlib.Core.Path.{◌≡◌, refl, sym, ap, ◌∙◌}
use mathlib.Core.Bool.{Bool, true, false, not, false≢true}
use mathlib.Core.List.{List, [], ◌∷◌, ◌++◌}
use borrow.Author.Tests.{eqb-true, eqb-false, lt-ltb, le-ltb, not-true, not-false}
use lib.Dec.{eqb, ltb}
use lib.ListN.{get_or, length, drop, length-drop, replicate}
use Rattle.std.specs.Prelude.{Option, Some, None, IfSome}
use Rattle.std.specs.Option.{option_eq}
use Rattle.word.specs.Choice.{pick}
use Rattle.word.specs.Words.{word_at, content_of}
use Rattle.word.specs.Lists.{flat}
use Rattle.word.specs.Numbers as Number
use Rattle.word.specs.Answers.{answer, refused}
use Rattle.word.specs.Parse.{Parsed, fault, got, behind, rest_of}
use Rattle.word.specs.declared.answer.Answer.{Answer}
use Rattle.interface.specs.declared.types.Varying.{Varying}
use Rattle.interface.specs.declared.types.Varying.TheVariants as Var
use Rattle.type_lists.specs.Meaning.{TypeInner}
use Rattle.type_lists.specs.Rules.{populate, nesting}
use Rattle.type_lists.specs.Format.{read_binding, binding_good, decode}
use Rattle.type_check.specs.declared.notes.Note.{Note}
use Rattle.type_check.specs.declared.notes.TypeNote.{TypeNote}
use Rattle.type_check.specs.Inner.Positions.{binding_at, binding_of, types_of, earlier_of, declared, accepted, listed}
use Rattle.type_check.specs.Inner.Notes.{words_of, note_of, given_note, Noted}
use Rattle.type_check.specs.Inner.Clips.{binding_good_at}
use Rattle.type_check.proofs.Taken.{binding_took}
use Rattle.type_check.proofs.ClipWays.{good_is}
use Rattle.type_check.proofs.GivenWays.{given_is}
use Rattle.type_check.proofs.MemberWays.{went_on, stopped}
use Rattle.populate.specs.Populate.{populated, bound_on, asked_on, populate_call}
use Rattle.populate.specs.Inner.Written.{put, room, Written}
use Rattle.populate.proofs.Puts.{put_first}

-- ---- varyings written

none_at : (n i : ℕ) → ◌≡◌ {A = Option ℕ} (get_or (replicate n None) i None) None
none_at zero i = refl
none_at (suc n) zero = refl
none_at (suc n) (suc i) = none_at n i

pub written_none : (types : List TypeInner) (out : List ℕ) (to : ℕ) → Written types (replicate 256 None) out to
written_none types out to = record { each = λ n from h e. absurd (let z : ◌≡◌ {A = Option ℕ} None (Some from) = sym (none_at 256 n) ∙ e in let y : ◌≡◌ {A = ℕ} 0 1 = cc in omega arith) }

-- ---- the asked type

words_few : (vs : List Varying) → length (words_of vs) ≤ 2 * length vs
unfolding flat
words_few [] = omega arith
words_few (Var.Local location iv ∷ vs) = omega (arith, words_few vs)
words_few (Var.BuiltIn b ∷ vs) = omega (arith, words_few vs)

module _ (types : List TypeInner) (ws : List ℕ) (notes : List TypeNote) (s : Noted types ws notes) (n size : ℕ) (sized : length types ≡ size) (inside : n < size) (w v : ℕ)
    (t : Note) (f : t ≡ given_note ws notes n w) where
  h : n < length types
  h = omega arith

  note_is : t ≡ note_of (nesting types n) (populate types n (binding_of w v))
  note_is = f ∙ given_is types ws notes s n h (w ∷ v ∷ [])

  depth_is : t.depth ≡ min (nesting types n) 9
  unfolding note_of
  depth_is = ap (λ (x : Note). x.depth) note_is

  count_is : t.count ≡ min (length (populate types n (binding_of w v))) 64
  unfolding note_of
  count_is = ap (λ (x : Note). x.count) note_is

  words_is : t.words ≡ min (length (words_of (populate types n (binding_of w v)))) 128
  unfolding note_of
  words_is = ap (λ (x : Note). x.words) note_is

  module _ (l : List ℕ) (r : Answer) where
    pub too_deep : 8 < t.depth → r ≡ refused Number.nested_too_deep → (r, l) ≡ populated types n (binding_of w v) l
    unfolding populated
    too_deep k q = rw (lt-ltb 8 (nesting types n) (omega (arith, depth_is)), q)

    module _ (a : t.depth ≤ 8) where
      flat_enough : ltb 8 (nesting types n) ≡ false
      flat_enough = le-ltb 8 (nesting types n) (omega (arith, depth_is))

      pub too_many : 63 < t.count → r ≡ refused Number.too_many_varyings → (r, l) ≡ populated types n (binding_of w v) l
      unfolding populated
      too_many k q = rw (flat_enough, lt-ltb 63 (length (populate types n (binding_of w v))) (omega (arith, count_is)), q)

      module _ (b : t.count ≤ 63) where
        few : length (populate types n (binding_of w v)) ≤ 63
        few = omega (arith, count_is)

        words_are : t.words ≡ length (words_of (populate types n (binding_of w v)))
        words_are = omega (arith, words_is, few, words_few (populate types n (binding_of w v)))

        pub too_short : (m : ℕ) → m ≡ t.words → length l < m → r ≡ refused Number.short_out → (r, l) ≡ populated types n (binding_of w v) l
        unfolding populated
        too_short m i k q =
            rw (
              flat_enough,
              le-ltb 63 (length (populate types n (binding_of w v))) few,
              lt-ltb (length l) (length (words_of (populate types n (binding_of w v)))) (omega (arith, words_are)),
              q,
            )

        module _ (m : ℕ) (i : m ≡ t.words) (k : m ≤ length l) where
          pub enough : 0 + length (words_of (populate types n (binding_of w v))) ≤ room l
          enough = omega (arith, words_are, few, words_few (populate types n (binding_of w v)))

          pub all_put : (later : List ℕ) (d : ℕ) → d ≡ t.count → later ≡ (put l 0 (words_of (populate types n (binding_of w v)))).1 → r ≡ answer 0 d 0 0
              → (r, later) ≡ populated types n (binding_of w v) l
          unfolding populated
          all_put later d j g q =
              let c : t.count ≡ length (populate types n (binding_of w v)) = omega (arith, count_is, few) in
              let o : length (words_of (populate types n (binding_of w v))) ≤ length l = omega (arith, words_are) in
              let p : later ≡ words_of (populate types n (binding_of w v)) ++ drop (length (words_of (populate types n (binding_of w v)))) l =
              g ∙ put_first l (words_of (populate types n (binding_of w v))) o in
              rw (flat_enough, le-ltb 63 (length (populate types n (binding_of w v))) few, le-ltb (length l) (length (words_of (populate types n (binding_of w v)))) o, q, j, c, p)

-- ---- the binding

by_option : {G : Type 0} (p : Option ℕ) → (p ≡ None → G) → ((end : ℕ) → p ≡ Some end → G) → G
by_option None f g = f refl
by_option (Some end) f g = g end refl

same_end : (p : Option ℕ) (n : ℕ) → not (option_eq eqb p (Some n)) ≡ false → p ≡ Some n
same_end None n e = absurd (false≢true (sym e))
same_end (Some m) n e = rw (eqb-true m n (not-false (eqb m n) e))

other_end : (p : Option ℕ) (n : ℕ) → not (option_eq eqb p (Some n)) ≡ true → p ≡ Some n → ⊥
other_end None n e f = let y : ◌≡◌ {A = ℕ} 0 1 = cc in omega arith
other_end (Some m) n e f = let d : m ≡ n → ⊥ = eqb-false m n (not-true (eqb m n) e) in d cc

module _ (types : List TypeInner) (n : ℕ) (bs out : List ℕ) (p : Option ℕ) (e : rest_of bs p ≡ behind (read_binding (drop 0 bs))) where
  binding_read : (end : ℕ) → p ≡ Some end → read_binding bs ≡ got (binding_at bs) (drop end bs)
  binding_read end i =
      went_on (read_binding bs) (drop end bs) (rw i at e) λ b q.
      let (a, c) = binding_took 0 bs b (drop end bs) q in
      rw (← a) q

  pub not_whole : (r : Answer) (b : Bool) → b ≡ not (option_eq eqb p (Some (length bs))) → b ≡ true → IfSome p (λ end. end ≤ length bs) → r ≡ refused Number.bad_types
      → (r, out) ≡ bound_on types n (read_binding bs) out
  not_whole r b j k i q =
      let y : p ≡ Some (length bs) → ⊥ = other_end p (length bs) (sym j ∙ k) in
      by_option p
      (λ z. let f : read_binding bs ≡ fault = stopped (read_binding bs) (rw z at e) in rw (f, q))
      (λ end z. let l : end ≤ length bs = rw z at i in
      let d : end ≡ length bs → ⊥ = λ g. y (rw (z, g)) in
      rw (binding_read end z) (over (drop end bs) (λ f. d (omega (arith, length-drop end bs)))))
    where
      over : (rest : List ℕ) → (length rest ≡ 0 → ⊥) → (r, out) ≡ bound_on types n (got (binding_at bs) rest) out
      over [] y = absurd (y refl)
      over (w ∷ rest) y = rw q

  module _ (b : Bool) (j : b ≡ not (option_eq eqb p (Some (length bs)))) (z : b ≡ false) (ws : List ℕ) (notes : List TypeNote) (s : Noted types ws notes) (size : ℕ) (sized : length types ≡ size) (inside : n < size) (w : ℕ) (g : Bool) (f : w ≡ word_at bs 0) (k : g ≡ binding_good_at ws notes n w) where
    bound_in : n < length types
    bound_in = omega arith

    y : p ≡ Some (length bs)
    y = same_end p (length bs) (sym j ∙ z)

    good_now : binding_good types n (binding_at bs) ≡ g
    good_now = good_is types ws notes s n bs bound_in ∙ rw (← f) (sym k)

    whole : (later : List ℕ) → bound_on types n (read_binding bs) later ≡ pick g (populated types n (binding_at bs) later) (refused Number.bad_types, later)
    whole later = rw (binding_read (length bs) y, ← good_now) (over (drop (length bs) bs) (omega (arith, length-drop (length bs) bs)))
      where
        over : (rest : List ℕ) → length rest ≡ 0
            → bound_on types n (got (binding_at bs) rest) later ≡ pick (binding_good types n (binding_at bs)) (populated types n (binding_at bs) later) (refused Number.bad_types, later)
        over [] y = refl
        over (w ∷ rest) y = absurd (omega arith)

    pub binding_bad : (r : Answer) → not g ≡ true → r ≡ refused Number.bad_types → (r, out) ≡ bound_on types n (read_binding bs) out
    binding_bad r o q = rw (whole out, not-true g o, q)

    pub binding_well_formed : (r : Answer) (v : ℕ) (later : List ℕ) → v ≡ word_at bs 1 → not g ≡ false → (r, later) ≡ populated types n (binding_of w v) out
        → (r, later) ≡ bound_on types n (read_binding bs) out
    binding_well_formed r v later i o q = rw (whole out, not-false g o) (rw (f, i) at q)

    pub binding_good_lem : (r : Answer) (later : List ℕ) → not g ≡ false → (r, later) ≡ populated types n (binding_at bs) out
        → (r, later) ≡ bound_on types n (read_binding bs) out
    binding_good_lem r later o q = rw (whole out, not-false g o) q

-- ---- the list

module _ (ws : List ℕ) (asked : ℕ) (bs out : List ℕ) (x : Bool) (e : x ≡ listed ws) where
  pub list_refused : (r : Answer) → not x ≡ true → r ≡ refused Number.bad_types → (r, out) ≡ populate_call ws asked bs out
  unfolding listed populate_call
  list_refused r o q = over (decode ws) (sym e ∙ not-true x o)
    where
      over : (p : Parsed (List TypeInner)) → accepted p ≡ false → (r, out) ≡ asked_on p asked (read_binding bs) out
      over fault h = rw q
      over (got types room) h = absurd (false≢true (sym h))

  call_types : not x ≡ false → populate_call ws asked bs out ≡ pick (ltb asked (length (declared ws))) (bound_on (declared ws) asked (read_binding bs) out) (refused Number.bad_types, out)
  unfolding listed populate_call declared
  call_types o = over (decode ws) (sym e ∙ not-false x o)
    where
      over : (p : Parsed (List TypeInner)) → accepted p ≡ true
          → asked_on p asked (read_binding bs) out ≡ pick (ltb asked (length (types_of p))) (bound_on (types_of p) asked (read_binding bs) out) (refused Number.bad_types, out)
      over fault h = absurd (false≢true h)
      over (got types room) h = refl

  module _ (o : not x ≡ false) (w c : ℕ) (f : w ≡ word_at ws 0) (g : c ≡ content_of w) (l : x ≡ true → length (declared ws) ≡ content_of (word_at ws 0)) where
    counted : length (declared ws) ≡ c
    counted = l (not-false x o) ∙ rw (← f, ← g)

    pub asked_outside : (r : Answer) → c ≤ asked → r ≡ refused Number.bad_types → (r, out) ≡ populate_call ws asked bs out
    asked_outside r h q = rw (call_types o, le-ltb asked (length (declared ws)) (omega (arith, counted)), q)

    module _ (j : x ≡ true → declared ws ≡ earlier_of ws (content_of (word_at ws 0))) where
      all_read : declared ws ≡ earlier_of ws c
      all_read = j (not-false x o) ∙ rw (← f, ← g)

      pub asked_inside : (later : List ℕ) (r : Answer) → asked < c → (r, later) ≡ bound_on (earlier_of ws c) asked (read_binding bs) out → (r, later) ≡ populate_call ws asked bs out
      asked_inside later r h q = rw (call_types o, lt-ltb asked (length (declared ws)) (omega (arith, counted)), all_read) q
