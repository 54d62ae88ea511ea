-- Laws of the list of entry points' positions.
use Prim.{tt}
use Prim.Native.Nat.{ℕ, zero, suc, ◌+◌, ◌<◌, ◌≤◌}
use native.Mathlib.Omega.{arith}
use native.Mathlib.Numerals.{add-one}
use mathlib.Core.Path.{◌≡◌, refl}
use mathlib.Core.Bool.{true}
use mathlib.Core.List.{List, [], ◌∷◌, ◌++◌}
use lib.Dec.{eqb, leb, ltb}
use borrow.Author.Tests.{ltb-true}
use lib.ListN.{get_or, length, take, drop, set}
use lib.Seq.{take-suc-set}
use Rattle.word.specs.Words.{word_at, kind_of, bits, bit}
use Rattle.word.specs.Parse.{Parsed, fault, got, one, several, from, behind}
use Rattle.word.proofs.Parse.{Yields, yields_next, yields_pick, first_of, others_of}
use Rattle.word.proofs.Truth.{first, second, codes_back}
use Rattle.varying.specs.Format.{payload_well_formed}
use Rattle.bindings.specs.declared.types.Resource.{Resource}
use Rattle.interface.specs.Meaning.{EntryPoint}
use Rattle.interface.specs.Format.{head_well_formed, bytes_of, name_well_formed, name_words, read_name, read_workgroup, read_mesh, counts_well_formed, index_well_formed, contents, pair_well_formed, read_varying, clips, stage_at, stage_code, named, has_name, distinct_names, read_entry_point}
use Rattle.entry_check.specs.Inner.Walks.{listed, first_words, name_of, same_head, has_head, distinct_heads}
use Rattle.pack_check.specs.Inner.Records.{HeadAt, Headed, none, more}
use Rattle.pack_check.proofs.CheckRecords.{listed_more}
use Rattle.interface.proofs.Passing.{yields_word, yields_known}
use Rattle.entry_check.proofs.CheckCases.{yields_cons}

-- ---- the name that is read

words_first : (n : ℕ) (l : List ℕ) → Yields (λ xs. xs ≡ first_words n l) (several n (one (λ w. true)) l)
unfolding several first_words
words_first zero l = refl
words_first (suc n) [] = tt
words_first (suc n) (w ∷ l) = yields_cons w (first_words n l) (several n (one (λ w. true)) l) (words_first n l)

name_read : (n : ℕ) (l : List ℕ) → Yields (λ name. name ≡ name_of n l) (read_name n l)
unfolding read_name name_of
name_read n l =
    yields_known (λ xs. xs ≡ first_words (name_words n) l) (λ name. name ≡ take n (bytes_of (first_words (name_words n) l))) (several (name_words n) (one (λ w. true)) l) _
    (words_first (name_words n) l)
    (λ words rest e. yields_pick (λ name. name ≡ take n (bytes_of (first_words (name_words n) l))) (name_well_formed n (bytes_of words)) _ _ (rw e) tt)

-- ---- the stage and the name of an entry point that is read

record HeadOf (l : List ℕ) (e : EntryPoint) : Type 0 where
  known : bits 26 24 (get_or l 0 0) < 5
  stage : e.stage ≡ stage_at (bits 26 24 (get_or l 0 0))
  name : e.name ≡ name_of (bits 22 16 (get_or l 0 0)) (drop 1 l)

stage_known : (w : ℕ) → head_well_formed w ≡ true → bits 26 24 w < 5
stage_known w f = ltb-true (bits 26 24 w) 5 (first (ltb (bits 26 24 w) 5) _ (second (eqb (kind_of w) 7) _ f))

head_read : (rs : List Resource) (l : List ℕ) → Yields (HeadOf l) (read_entry_point rs l)
unfolding read_entry_point
head_read rs [] = tt
head_read rs (w ∷ l) =
    yields_word (HeadOf (w ∷ l)) head_well_formed w l _ λ f.
    yields_known (λ name. name ≡ name_of (bits 22 16 w) l) (HeadOf (w ∷ l)) (read_name (bits 22 16 w) l) _ (name_read (bits 22 16 w) l) λ name rest e.
    yields_next (HeadOf (w ∷ l)) (read_workgroup rest) _ λ workgroup rest.
    yields_next (HeadOf (w ∷ l)) (one payload_well_formed rest) _ λ payload rest.
    yields_next (HeadOf (w ∷ l)) (read_mesh (eqb (bit 1 w) 1) rest) _ λ mesh rest.
    yields_next (HeadOf (w ∷ l)) (one counts_well_formed rest) _ λ counts rest.
    yields_next (HeadOf (w ∷ l)) (several (bits 23 18 counts) (one (index_well_formed (length rs))) rest) _ λ indexes rest.
    yields_next (HeadOf (w ∷ l)) (several (bits 17 12 counts) (one (pair_well_formed rs (contents indexes))) rest) _ λ pairs rest.
    yields_next (HeadOf (w ∷ l)) (several (bits 11 6 counts) (read_varying 4) rest) _ λ inputs rest.
    yields_next (HeadOf (w ∷ l)) (several (bits 5 0 counts) (read_varying 5) rest) _ λ outputs rest.
    yields_pick (HeadOf (w ∷ l)) (leb (clips outputs) 1) _ _ (record { known = stage_known w f; stage = refl; name = e }) tt

head_at_lem : (rs : List Resource) (ws : List ℕ) (at : ℕ) → Yields (HeadAt ws at) (read_entry_point rs (drop at ws))
head_at_lem rs ws at = moved (read_entry_point rs (drop at ws)) (head_read rs (drop at ws))
  where
    moved : (p : Parsed EntryPoint) → Yields (HeadOf (drop at ws)) p → Yields (HeadAt ws at) p
    moved fault y = tt
    moved (got e rest) y =
        record {
          known = rw (first_of ws at) at y.known;
          stage = rw (first_of ws at) at y.stage;
          name = rw (first_of ws at, others_of ws at) at y.name;
        }

-- ---- the list

headed_append : (ws hs : List ℕ) (es : List EntryPoint) (h : ℕ) (e : EntryPoint) → Headed ws hs es → HeadAt ws h e → Headed ws (hs ++ (h ∷ [])) (es ++ (e ∷ []))
headed_append ws [] [] h e none y = more y none
headed_append ws [] (d ∷ es) h e k y = elim k [ ]
headed_append ws (g ∷ hs) [] h e k y = elim k [ ]
headed_append ws (g ∷ hs) (d ∷ es) h e (more x k) y = more x (headed_append ws hs es h e k y)

pub heads_begin : (ws l heads : List ℕ) (rs : List Resource) → Headed ws (take 0 heads) (listed (several 0 (read_entry_point rs) l))
unfolding several
heads_begin ws l heads rs = none

module _ (ws l heads : List ℕ) (rs : List Resource) (i at r n : ℕ) (m : Headed ws (take i heads) (listed (several i (read_entry_point rs) l)))
    (e : from (drop at ws) ≡ behind (several i (read_entry_point rs) l)) (f : from (drop r ws) ≡ behind (read_entry_point rs (drop at ws)))
    (q : i < n) (u : n ≤ 16) (s : 16 ≤ length heads) where
  pub heads_go : Headed ws (take (i + 1) (set heads i at)) (listed (several (i + 1) (read_entry_point rs) l))
  heads_go =
      let x : take (i + 1) (set heads i at) ≡ take i heads ++ (at ∷ []) = rw (add-one i) (take-suc-set heads i at (omega arith)) in
      listed_more (read_entry_point rs) l i (drop at ws) e (drop r ws) (HeadAt ws at) (λ es. Headed ws (take (i + 1) (set heads i at)) es) f (head_at_lem rs ws at)
      (λ a y. rw x (headed_append ws (take i heads) (listed (several i (read_entry_point rs) l)) at a m y))

-- ---- stages and names compared at those positions

stage_code_lem : (c : ℕ) → c < 5 → stage_code (stage_at c) ≡ c
stage_code_lem = codes_back 5 (λ c. stage_code (stage_at c)) refl

module _ (ws : List ℕ) (h : ℕ) (f : EntryPoint) (y : HeadAt ws h f) where
  same_named : (g : ℕ) (e : EntryPoint) → HeadAt ws g e → same_head ws g h ≡ named f.stage f.name e
  unfolding same_head
  same_named g e x =
      rw (x.stage, y.stage, stage_code_lem (bits 26 24 (word_at ws g)) x.known, stage_code_lem (bits 26 24 (word_at ws h)) y.known, x.name, y.name)

  has_named : (hs : List ℕ) (es : List EntryPoint) → Headed ws hs es → has_head ws h hs ≡ has_name f.stage f.name es
  unfolding has_head has_name
  has_named [] [] none = refl
  has_named [] (e ∷ es) k = elim k [ ]
  has_named (g ∷ hs) [] k = elim k [ ]
  has_named (g ∷ hs) (e ∷ es) (more x k) = rw (same_named g e x, has_named hs es k)

pub distinct_named : (ws hs : List ℕ) (es : List EntryPoint) → Headed ws hs es → distinct_heads ws hs ≡ distinct_names es
unfolding distinct_heads distinct_names
distinct_named ws [] [] none = refl
distinct_named ws [] (e ∷ es) k = elim k [ ]
distinct_named ws (h ∷ hs) [] k = elim k [ ]
distinct_named ws (h ∷ hs) (e ∷ es) (more x k) = rw (has_named ws h e x hs es k, distinct_named ws hs es k)
