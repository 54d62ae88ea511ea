-- The code's ways through the walk.
use Prim.Native.Nat.{ℕ, suc, ◌+◌, ◌-◌, ◌<◌, ◌≤◌, min}
use native.Mathlib.Omega.{arith}
use mathlib.Core.Path.{◌≡◌, refl, sym, ap, ◌∙◌}
use mathlib.Core.Bool.{Bool, true, false, false≢true}
use mathlib.Core.List.{List, [], ◌∷◌, ◌++◌}
use borrow.Author.Tests.{eqb-true, eqb-false, ltb-true}
use lib.Dec.{eqb, ltb}
use lib.ListN.{get_or, length, drop, set, length-append}
use lib.Seq.{drop-drop, get_or-drop, get_or-set_same, get_or-set_other}
use Rattle.word.specs.Words.{word_at, content_of, bits}
use Rattle.word.specs.Lists.{every, flat}
use Rattle.word.proofs.Parse.{first_of, others_of}
use Rattle.word.proofs.Truth.{by_test}
use Rattle.word.proofs.Lists.{every_first, every_others}
use Rattle.numeric.specs.TypeWords.{type_of}
use Rattle.interface.specs.declared.types.Varying.{Varying}
use Rattle.interface.specs.declared.types.Varying.TheVariants as Var
use Rattle.type_lists.specs.Meaning.{Binding, Unbound, TypeInner, Struct, type_numbered}
use Rattle.type_lists.specs.Rules.{members_give, type_gives, populate}
use Rattle.std.specs.Prelude.{Option, Some, None, take}
use Rattle.type_check.specs.declared.notes.Note.{Note}
use Rattle.type_check.specs.declared.notes.TypeNote.{TypeNote}
use Rattle.type_check.specs.Inner.Positions.{binding_of, member_width, member_at, members_at, type_at, struct_at, members_below}
use Rattle.type_check.specs.Inner.Notes.{words_of, note_of, is_struct, number_note, start_at, note_at, Noted}
use Rattle.type_check.proofs.Gives.{lone_gives, struct_gives, struct_ignores}
use Rattle.type_check.proofs.Noting.{words_append}
use Rattle.type_check.proofs.GivenWays.{by_kind, shaped_lone}
use Rattle.populate.specs.Inner.Written.{put, room, nothing, members_words, Stood, Written}
use Rattle.populate.proofs.Puts.{put_append, put_length, put_to, put_holds, stands_as}

-- ---- what a type that is not walked over gives

nothing_of : (vs : List Varying) → length (words_of vs) ≡ 0 → words_of vs ≡ []
unfolding flat
nothing_of [] h = refl
nothing_of (Var.Local location iv ∷ vs) h = absurd (omega arith)
nothing_of (Var.BuiltIn b ∷ vs) h = absurd (omega arith)

module _ (types : List TypeInner) (ws : List ℕ) (notes : List TypeNote) (s : Noted types ws notes) (n size : ℕ) (sized : length types ≡ size) (inside : n < size) where
  h : n < length types
  h = omega arith

  struct_words : is_struct (type_numbered types n) ≡ true → (note_at notes n).words ≡ min (length (words_of (populate types n Unbound))) 128
  unfolding number_note note_of
  struct_words o = ap (λ (x : Note). x.words) (s.each n h).noted ∙ rw o

  lone_words : is_struct (type_numbered types n) ≡ false → (note_at notes n).words ≡ 1
  unfolding number_note
  lone_words o = ap (λ (x : Note). x.words) (s.each n h).noted ∙ rw o

  module _ (t : Note) (e : t ≡ note_at notes n) where
    pub gives_nothing : (b : Binding) (l : List ℕ) (to : ℕ) → t.words ≡ 0 → (to, l) ≡ put l to (words_of (populate types n b))
    unfolding put
    gives_nothing b l to z =
        by_test (is_struct (type_numbered types n))
        (λ o. let k : min (length (words_of (populate types n Unbound))) 128 ≡ 0 = sym (struct_words o) ∙ ap (λ (x : Note). x.words) (sym e) ∙ z in
        let q : words_of (populate types n Unbound) ≡ [] = nothing_of (populate types n Unbound) (omega arith) in
        rw (struct_ignores types n b Unbound h o, q))
        (λ o. absurd (let k : 1 ≡ 0 = sym (lone_words o) ∙ ap (λ (x : Note). x.words) (sym e) ∙ z in omega arith))

    module _ (x : Bool) (g : x ≡ struct_at ws (start_at notes n)) where
      pub struct_there : x ≡ true → is_struct (type_numbered types n) ≡ true
      struct_there o =
          let q : struct_at ws (start_at notes n) ≡ true = sym g ∙ o in
          by_kind types ws notes s n h
          (λ k y. absurd (false≢true (rw k at q)))
          (λ k y. absurd (false≢true (rw k at q)))
          (λ k y. rw y)

      pub lone_there : x ≡ false → is_struct (type_numbered types n) ≡ false
      lone_there o =
          let q : struct_at ws (start_at notes n) ≡ false = sym g ∙ o in
          by_kind types ws notes s n h
          (λ k y. rw y (shaped_lone (type_of (word_at ws (start_at notes n))).dim (type_of (word_at ws (start_at notes n))).scalar))
          (λ k y. rw y)
          (λ k y. absurd (false≢true (sym q ∙ k)))

      -- a struct that was written before
      module _ (o : x ≡ true) (written : List (Option ℕ)) (l : List ℕ) (to from : ℕ) (w : Written types written l to) (i : get_or written n None ≡ Some from) where
        stood : Stood l from (words_of (populate types n Unbound)) to
        stood = w.each n from h i

        module _ (b : Binding) (k : to + length (words_of (populate types n b)) ≤ room l) where
          fits : to + length (words_of (populate types n Unbound)) ≤ room l
          fits = rw (struct_ignores types n b Unbound h (struct_there o)) at k

          all : t.words ≡ length (words_of (populate types n Unbound))
          all = ap (λ (y : Note). y.words) e ∙ struct_words (struct_there o) ∙ omega (arith, fits)

          module _ (first count : ℕ) (p : first ≡ from) (q : count ≡ t.words) where
            pub again_before : first + count ≤ to
            again_before = rw (p, q, all) stood.inside

            pub again_room : to + count ≤ length l
            again_room = omega (arith, fits, all)

            pub again_put : (r : ℕ) (later : List ℕ) → (r, later) ≡ put l to (take count (drop first l)) → (r, later) ≡ put l to (words_of (populate types n b))
            again_put r later y =
                y ∙ rw (p, q, all, struct_ignores types n b Unbound h (struct_there o), stands_as l (words_of (populate types n Unbound)) from (omega (arith, stood.inside, fits)) stood.same)

      -- a type that is no struct
      module _ (o : x ≡ false) (b : Binding) (l : List ℕ) (to : ℕ) where
        lone_now : populate types n b ≡ type_gives nothing (type_at (drop (start_at notes n) ws)) b
        lone_now = lone_gives types n b h (lone_there o) ∙ rw (s.each n h).is

        pub lone_room : to + length (words_of (populate types n b)) ≤ room l → to + length (words_of (type_gives nothing (type_at (drop (start_at notes n) ws)) b)) ≤ length l
        lone_room k = let q : to + length (words_of (type_gives nothing (type_at (drop (start_at notes n) ws)) b)) ≤ room l = rw lone_now at k in omega arith

        pub lone_put : (r : ℕ) (later : List ℕ) → (r, later) ≡ put l to (words_of (type_gives nothing (type_at (drop (start_at notes n) ws)) b)) → (r, later) ≡ put l to (words_of (populate types n b))
        lone_put r later q = rw lone_now q

-- ---- members, one after the other

members_left : (ws : List ℕ) (i count k : ℕ) → k < count → members_at (count - k) (drop i ws) ≡ member_at (drop i ws) ∷ members_at (count - (k + 1)) (drop (i + member_width (drop i ws)) ws)
unfolding members_at
members_left ws i count k h = let z : count - k ≡ suc (count - (k + 1)) = omega arith in rw (z, drop-drop (member_width (drop i ws)) i ws)

module _ (n : ℕ) (ws : List ℕ) (count k i : ℕ) (f : members_below n (members_at (count - k) (drop i ws)) ≡ true) (h : k < count) where
  below_now : every (λ m. ltb m.ty n) (member_at (drop i ws) ∷ members_at (count - (k + 1)) (drop (i + member_width (drop i ws)) ws)) ≡ true
  below_now = rw (members_left ws i count k h) at f

  pub below_on : (d : ℕ) → d ≡ member_width (drop i ws) → members_below n (members_at (count - (k + 1)) (drop (i + d) ws)) ≡ true
  below_on d e = rw e (every_others (λ m. ltb m.ty n) (member_at (drop i ws)) (members_at (count - (k + 1)) (drop (i + member_width (drop i ws)) ws)) below_now)

  module _ (m : ℕ) (c : m ≡ content_of (word_at ws i)) where
    member_lower : m < n
    member_lower =
        ltb-true m n (rw (first_of ws i, ← c) at (every_first (λ m. ltb m.ty n) (member_at (drop i ws)) (members_at (count - (k + 1)) (drop (i + member_width (drop i ws)) ws)) below_now))

    pub member_falls : (t : ℕ) → n ≡ t → m < t
    member_falls t g = omega (arith, member_lower)

    pub member_in : (size : ℕ) → n < size → m < size
    member_in size g = omega (arith, member_lower)

module _ (types : List TypeInner) (ws : List ℕ) (count k i m w v : ℕ) (h : k < count) (c : m ≡ content_of (word_at ws i)) (e : w ≡ word_at ws (i + 1)) (f : v ≡ word_at ws (i + 1 + 1)) where
  more_words : members_words types (count - k) (drop i ws) ≡ words_of (populate types m (binding_of w v)) ++ members_words types (count - (k + 1)) (drop (i + member_width (drop i ws)) ws)
  unfolding members_words members_give
  more_words =
      let a : word_at (drop 1 (drop i ws)) 0 ≡ w = rw (others_of ws i) (first_of ws (i + 1)) ∙ sym e in
      let b : word_at (drop 1 (drop i ws)) 1 ≡ v = rw (others_of ws i) (get_or-drop (i + 1) ws 1 0) ∙ sym f in
      rw (members_left ws i count k h, first_of ws i, ← c, a, b)
      (words_append (populate types m (binding_of w v)) (members_give (populate types) (members_at (count - (k + 1)) (drop (i + member_width (drop i ws)) ws))))

  pub more_asks : (l : List ℕ) (next : ℕ) → next + length (members_words types (count - k) (drop i ws)) ≤ room l → next + length (words_of (populate types m (binding_of w v))) ≤ room l
  more_asks l next r = omega (arith, ap length more_words, length-append (words_of (populate types m (binding_of w v))) (members_words types (count - (k + 1)) (drop (i + member_width (drop i ws)) ws)))

  module _ (l later : List ℕ) (next r d : ℕ) (g : (r, later) ≡ put l next (words_of (populate types m (binding_of w v)))) (j : d ≡ member_width (drop i ws)) where
    pub more_put : (goal : ℕ × List ℕ) → goal ≡ put l next (members_words types (count - k) (drop i ws)) → goal ≡ put later r (members_words types (count - (k + 1)) (drop (i + d) ws))
    more_put goal inv =
        inv ∙ rw (more_words, put_append l next (words_of (populate types m (binding_of w v))) (members_words types (count - (k + 1)) (drop (i + member_width (drop i ws)) ws)), ← g, ← j)

    pub more_room : next + length (members_words types (count - k) (drop i ws)) ≤ room l → r + length (members_words types (count - (k + 1)) (drop (i + d) ws)) ≤ room later
    more_room q =
        let a : r ≡ next + length (words_of (populate types m (binding_of w v))) = ap (λ (p : ℕ × List ℕ). p.0) g ∙ put_to l next (words_of (populate types m (binding_of w v))) in
        let o : length later ≡ length l = ap (λ (p : ℕ × List ℕ). length p.1) g ∙ put_length l next (words_of (populate types m (binding_of w v))) in
        rw j (omega (arith, ap length more_words, length-append (words_of (populate types m (binding_of w v))) (members_words types (count - (k + 1)) (drop (i + member_width (drop i ws)) ws))))

pub put_keeps : (l later first ws : List ℕ) (next r : ℕ) → (r, later) ≡ put l next ws → length l ≡ length first → length later ≡ length first
put_keeps l later first ws next r g q = ap (λ (p : ℕ × List ℕ). length p.1) g ∙ put_length l next ws ∙ q

-- ---- a struct that is walked over

module _ (types : List TypeInner) (ws : List ℕ) (notes : List TypeNote) (s : Noted types ws notes) (n start count size : ℕ) (sized : length types ≡ size) (inside : n < size) (x : Bool)
    (e : x ≡ struct_at ws (start_at notes n)) (o : x ≡ true) (p : start ≡ start_at notes n) (c : count ≡ bits 15 0 (word_at ws start)) where
  walked_in : n < length types
  walked_in = omega arith

  walked_is : type_numbered types n ≡ Struct (members_at count (drop (start + 1) ws))
  walked_is =
      let q : struct_at ws (start_at notes n) ≡ true = sym e ∙ o in
      by_kind types ws notes s n walked_in
      (λ k y. absurd (false≢true (rw k at q)))
      (λ k y. absurd (false≢true (rw k at q)))
      (λ k y. rw (c, p) y)

  walked_names : members_below n (members_at count (drop (start + 1) ws)) ≡ true
  walked_names = rw walked_is at (s.each n walked_in).below

  pub walked_below : members_below n (members_at (count - 0) (drop (start + 1) ws)) ≡ true
  walked_below = let z : count - 0 ≡ count = omega arith in rw z walked_names

  walked_gives : (b : Binding) → populate types n b ≡ members_give (populate types) (members_at count (drop (start + 1) ws))
  walked_gives b = struct_gives types (λ k i. (s.each k i).below) n walked_in (members_at count (drop (start + 1) ws)) walked_is b

  pub walked_room : (b : Binding) (l : List ℕ) (to : ℕ) → to + length (words_of (populate types n b)) ≤ room l → to + length (members_words types (count - 0) (drop (start + 1) ws)) ≤ room l
  unfolding members_words
  walked_room b l to q = let z : count - 0 ≡ count = omega arith in rw z (rw (walked_gives b) at q)

  pub walked_start : (l : List ℕ) (to : ℕ) → put l to (members_words types count (drop (start + 1) ws)) ≡ put l to (members_words types (count - 0) (drop (start + 1) ws))
  walked_start l to = let z : count - 0 ≡ count = omega arith in rw z

  module _ (b : Binding) (l later : List ℕ) (to next i k : ℕ) (inv : put l to (members_words types count (drop (start + 1) ws)) ≡ put later next (members_words types (count - k) (drop i ws)))
      (z : count ≤ k) where
    pub walked_put : (next, later) ≡ put l to (words_of (populate types n b))
    unfolding members_words put flat members_at members_give
    walked_put = let y : count - k ≡ 0 = omega arith in rw (walked_gives b) (sym (inv ∙ rw y))

    pub walked_written : (table : List (Option ℕ)) → to + length (words_of (populate types n b)) ≤ room l → Written types table later next → length table ≡ 256
        → Written types (set table n (Some to)) later next
    walked_written table q w t = record { each = each }
      where
        here : Stood later to (words_of (populate types n Unbound)) next
        here =
            let g : populate types n Unbound ≡ populate types n b = walked_gives Unbound ∙ sym (walked_gives b) in
            let a : next ≡ to + length (words_of (populate types n b)) = ap (λ (y : ℕ × List ℕ). y.0) walked_put ∙ put_to l to (words_of (populate types n b)) in
            let d : later ≡ (put l to (words_of (populate types n b))).1 = ap (λ (y : ℕ × List ℕ). y.1) walked_put in
            rw g (record { inside = omega arith; same = λ k y. rw d (put_holds l to (words_of (populate types n b)) (omega arith) k y) })

        each : (m from : ℕ) → m < length types → get_or (set table n (Some to)) m None ≡ Some from → Stood later from (words_of (populate types m Unbound)) next
        each m from y f =
            by_test (eqb m n)
            (λ v. let u : m ≡ n = eqb-true m n v in
            let j : Some to ≡ Some from = sym (get_or-set_same table n (Some to) None (omega (arith, s.few))) ∙ rw u at f in
            let r : to ≡ from = cc in
            rw (u, ← r) here)
            (λ v. let u : m ≡ n → ⊥ = eqb-false m n v in w.each m from y (sym (get_or-set_other table n m (Some to) None u) ∙ f))
