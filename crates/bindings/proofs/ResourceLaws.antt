-- The code's ways through the reader of resources.
use Rattle.std.proofs.Common.{◌≡◌, ℕ, suc, ◌+◌, ◌-◌, ◌<◌, ◌≤◌, Bool, true, false, not, ltb, List, [], ◌∷◌, length, drop, refl, ◌∙◌, add-one, arith, drop_of_length-le, drop-cons, ltb-false, ltb-true}
use native.Mathlib.Numerals.{add-two}
use lib.ListN.{get_or-eq_default}
use borrow.Author.Tests.{not-true, not-false}
use Rattle.word.specs.Choice.{pick}
use Rattle.word.specs.Words.{word_at, content_of}
use Rattle.word.specs.Parse.{Parsed, fault, got, next, one, Rest, nowhere, from, behind}
use Rattle.bindings.specs.Format.{place_well_formed, place_of, resource_word_well_formed}
use Rattle.bindings.specs.Format.{size_well_formed, resource_type_of, is_buffer_word, resource, read_resource, resource_at}
use Rattle.bindings.specs.declared.types.ResourceBinding.{ResourceBinding}
use Rattle.bindings.specs.declared.types.ResourceType.{ResourceType}
use Rattle.bindings.specs.declared.types.Resource.{Resource}
use Rattle.word.proofs.Truth.{by_test}

-- ---- the words of a resource at a position

-- where a reader stops, whatever it makes of the words
sized : (b : Bool) (size : Parsed ℕ) (rest : List ℕ) (k : ℕ → Resource) (r : Resource)
    → pick b (behind size) (from rest) ≡ behind (pick b (next size λ s rest. got (k s) rest) (got r rest))
sized true fault rest k r = refl
sized true (got s rest') rest k r = refl
sized false size rest k r = refl

-- the size that a buffer has, where its word is one
module _ (ws : List ℕ) (at w : ℕ) (b : Bool) (be : b ≡ is_buffer_word w) (s : ℕ) (g : Bool) (n : not b ≡ false) (h : at < length ws) (se : s ≡ word_at ws at) (ge : g ≡ size_well_formed s) where
  pub size_good_lem : not g ≡ false → from (drop (at + 1) ws) ≡ pick (is_buffer_word w) (behind (one size_well_formed (drop at ws))) (from (drop at ws))
  size_good_lem m = rw (← be, not-false b n, drop-cons ws at 0 h, ← se, ← ge, not-false g m, add-one)

module _ (ws : List ℕ) (at : ℕ) where
  none_left : length ws ≤ at → drop at ws ≡ []
  none_left h = drop_of_length-le ws h

  one_left : at < length ws → length ws - at < 2 → drop at ws ≡ word_at ws at ∷ []
  one_left h k = rw (drop-cons ws at 0 h, drop_of_length-le ws {i = suc at} (omega arith))

  two_left : 2 ≤ length ws - at → drop at ws ≡ word_at ws at ∷ word_at ws (at + 1) ∷ drop (at + 2) ws
  two_left h = rw (add-one, add-two, drop-cons ws at 0 (omega arith), drop-cons ws (suc at) 0 (omega arith))

  pub next_few : length ws - at < 2 → nowhere ≡ behind (read_resource (drop at ws))
  unfolding read_resource
  next_few k =
      by_test (ltb at (length ws))
      (λ t. rw (one_left (ltb-true at (length ws) t) k) (by_test (place_well_formed (word_at ws at)) (λ e. rw e) (λ e. rw e)))
      (λ f. rw (none_left (ltb-false at (length ws) f)))

  module _ (p : ℕ) (b : Bool) (h : 2 ≤ length ws - at) (pe : p ≡ word_at ws at) (be : b ≡ place_well_formed p) where
    pub next_no_place : not b ≡ true → nowhere ≡ behind (read_resource (drop at ws))
    unfolding read_resource
    next_no_place n = rw (two_left h, ← pe, ← be, not-true b n)

    module _ (t : ℕ) (c : Bool) (bt : not b ≡ false) (te : t ≡ word_at ws (at + 1)) (ce : c ≡ resource_word_well_formed t) where
      pub next_no_type : not c ≡ true → nowhere ≡ behind (read_resource (drop at ws))
      unfolding read_resource
      next_no_type n = rw (two_left h, ← pe, ← be, not-false b bt, ← te, ← ce, not-true c n)

      pub next_sized : (r : Rest) → not c ≡ false
          → r ≡ pick (is_buffer_word t) (behind (one size_well_formed (drop (at + 2) ws))) (from (drop (at + 2) ws))
          → r ≡ behind (read_resource (drop at ws))
      unfolding read_resource
      next_sized r n e =
          let behind_size = sized (is_buffer_word t) (one size_well_formed (drop (at + 2) ws)) (drop (at + 2) ws) (λ s. resource p t (content_of s)) (resource p t 0) in
          rw (two_left h, ← pe, ← be, not-false b bt, ← te, ← ce, not-false c n) (e ∙ behind_size)

pub resource_parts : (place w size : ℕ) (bind : ResourceBinding) (ty : ResourceType) → bind ≡ place_of place → ty ≡ resource_type_of w size
    → record { bind = bind; ty = ty } ≡ resource place w size
resource_parts place w size bind ty p e = rw (p, e)

-- past the end every word is 0
pub resource_past : (ws : List ℕ) (at : ℕ) (x : Resource) → length ws ≤ at → x ≡ resource 0 0 0 → x ≡ resource_at ws at
resource_past ws at x h e =
    rw (get_or-eq_default ws 0 {n = at} h, get_or-eq_default ws 0 {n = at + 1} (omega arith), get_or-eq_default ws 0 {n = at + 2} (omega arith)) e

pub resource_there_lem : (ws : List ℕ) (at p t s size : ℕ) (x : Resource) → p ≡ word_at ws at → t ≡ word_at ws (at + 1) → s ≡ word_at ws (at + 2) → size ≡ content_of s
    → x ≡ resource p t size → x ≡ resource_at ws at
resource_there_lem ws at p t s size x pe te se ze e = rw (← pe, ← te, ← se, ← ze) e
