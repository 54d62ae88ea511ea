-- The words that an entry point's lists take, and the resources at a table of positions.
use Prim.Native.Nat.{ℕ, zero, suc, ◌+◌, ◌<◌, ◌≤◌}
use native.Mathlib.Omega.{arith}
use native.Mathlib.Numerals.{add-one}
use mathlib.Core.Path.{ap, ◌≡◌, refl, sym, ◌∙◌}
use mathlib.Core.Bool.{true}
use mathlib.Core.List.{List, [], ◌∷◌}
use lib.ListN.{length, take, drop, length-take}
use lib.Seq.{drop-cons, get_or-take}
use Rattle.std.proofs.lemmas.List.{drop_all}
use Rattle.word.proofs.Lists.{first_passes, rest_passes}
use Rattle.word.proofs.Truth.{second}
use Rattle.word.specs.Words.{word_at, content_of}
use Rattle.word.specs.Lists.{every}
use Rattle.bindings.specs.Format.{resource, resource_at, resource_encodable, place_of, place_encodable, resource_type_of, type_encodable, resource_width, size_standing}
use Rattle.bindings.specs.declared.types.Resource.{Resource}
use Rattle.interface.specs.Format.{contents, pair_of, pairs_of}
use Rattle.interface.specs.Inner.Reads.{resources_at}
use Rattle.interface.specs.Inner.Parts.{resource_count}
use Rattle.resource_steps.specs.Inner.Given.{resource_table, Inside, each_encodable}
use Rattle.resource_steps.specs.Resources.{resource_nth}

-- the words from a position on
taken : (ws : List ℕ) (k : ℕ) → k < length ws → drop k ws ≡ word_at ws k ∷ drop (k + 1) ws
taken ws k h = rw (add-one, drop-cons ws k 0 h)

module _ (ws : List ℕ) (k : ℕ) (h : k < length ws) where
  pub contents_cons : contents (drop k ws) ≡ content_of (word_at ws k) ∷ contents (drop (k + 1) ws)
  unfolding contents
  contents_cons = rw (taken ws k h)

  pub pairs_cons : pairs_of (drop k ws) ≡ pair_of (word_at ws k) ∷ pairs_of (drop (k + 1) ws)
  unfolding pairs_of
  pairs_cons = rw (taken ws k h)

module _ (ws : List ℕ) (k : ℕ) (h : length ws ≤ k) where
  pub contents_none : contents (drop k ws) ≡ []
  unfolding contents
  contents_none = rw (drop_all k ws h)

  pub pairs_none : pairs_of (drop k ws) ≡ []
  unfolding pairs_of
  pairs_none = rw (drop_all k ws h)

-- the resource of an index stands at the position of that index
table_length : (ws offsets : List ℕ) → length (resources_at ws offsets) ≡ length offsets
unfolding resources_at
table_length ws [] = refl
table_length ws (o ∷ offsets) = rw (table_length ws offsets)

listed_at : (ws offsets : List ℕ) (i : ℕ) → i < length offsets → resource_nth (resources_at ws offsets) i ≡ resource_at ws (word_at offsets i)
unfolding resource_nth resources_at
listed_at ws [] i h = absurd (omega arith)
listed_at ws (o ∷ offsets) zero h = refl
listed_at ws (o ∷ offsets) (suc i) h = listed_at ws offsets i (omega arith)

pub listed_encodable : (rs : List Resource) (i : ℕ) → each_encodable rs ≡ true → resource_encodable (resource_nth rs i) ≡ true
unfolding every resource_nth type_encodable
listed_encodable [] i h = refl
listed_encodable (r ∷ rs) zero h = first_passes (resource_encodable r) (each_encodable rs) h
listed_encodable (r ∷ rs) (suc i) h = listed_encodable rs i (rest_passes (resource_encodable r) (each_encodable rs) h)

module _ (ws offsets : List ℕ) (i : ℕ) (h : i < length (resource_table ws offsets)) where
  pub counted : (i < resource_count ws) × (i < length (take (resource_count ws) offsets))
  unfolding resource_table
  counted =
      let l = table_length ws (take (resource_count ws) offsets) in
      (omega (arith, l, length-take (resource_count ws) offsets), omega (arith, l))

  there : i < length offsets
  there = omega (arith, counted.1, length-take (resource_count ws) offsets)

  nth_at : resource_nth (resource_table ws offsets) i ≡ resource_at ws (word_at offsets i)
  unfolding resource_table
  nth_at = listed_at ws (take (resource_count ws) offsets) i counted.1 ∙ rw (get_or-take (resource_count ws) offsets i 0 counted.0)

-- the resource of an index, among those that a table gives
module _ (ws offsets : List ℕ) (rs : List Resource) (v : resource_table ws offsets ≡ rs) (t : Inside ws offsets) (i : ℕ) (h : i < length rs) where
  below : i < length (resource_table ws offsets)
  below = rw v h

  pub position_there : i < length offsets
  position_there = there ws offsets i below

  pub words_there : word_at offsets i + resource_width ≤ length ws
  words_there = t.words i below

  nth_there : resource_at ws (word_at offsets i) ≡ resource_nth rs i
  nth_there = sym (nth_at ws offsets i below) ∙ rw v

  encodable_there : resource_encodable (resource_nth rs i) ≡ true
      → type_encodable (resource_type_of (word_at ws (word_at offsets i + 1)) (size_standing ws (word_at offsets i + 2))) ≡ true
  encodable_there e =
      second (place_encodable (place_of (word_at ws (word_at offsets i))))
      (type_encodable (resource_type_of (word_at ws (word_at offsets i + 1)) (size_standing ws (word_at offsets i + 2))))
      (ap resource_encodable nth_there ∙ e)

  module _ (o : ℕ) (q : o ≡ word_at offsets i) where
    pub place_there : place_of (word_at ws o) ≡ (resource_nth rs i).bind
    place_there = rw (q, ← nth_there)

    module _ (size : ℕ) (z : size ≡ size_standing ws (o + 2)) where
      pub words_listed : resource (word_at ws o) (word_at ws (o + 1)) size ≡ resource_nth rs i
      words_listed = rw (z, q, ← nth_there)

      pub words_encodable : resource_encodable (resource_nth rs i) ≡ true → type_encodable (resource_type_of (word_at ws (o + 1)) size) ≡ true
      words_encodable e = rw (z, q) (encodable_there e)
