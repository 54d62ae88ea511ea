-- The ways through an entry point's pairs of textures and samplers.
use Rattle.std.proofs.Common.{Result, Ok, Err, Option, Some}
use Prim.Native.Nat.{ℕ, ◌+◌, ◌<◌, ◌≤◌}
use mathlib.Core.Path.{◌≡◌, refl, sym, ◌∙◌}
use mathlib.Core.Bool.{true}
use mathlib.Core.List.{List, ◌∷◌}
use lib.Dec.{eqb}
use lib.ListN.{length, drop}
use Rattle.word.specs.Words.{word_at, bits}
use Rattle.word.specs.Answers.{accepted}
use Rattle.word.specs.declared.answer.Answer.{Answer}
use Rattle.word.specs.Lists.{every}
use Rattle.bindings.specs.Format.{place_of, binding_type_of, least_size_of}
use Rattle.bindings.specs.declared.types.Resource.{Resource}
use Rattle.bindings.specs.declared.types.BindingType.{BindingType}
use Rattle.bindings.specs.declared.types.BindingType.TheVariants as Bind
use Rattle.word.proofs.Truth.{by_test}
use Rattle.word.proofs.Lists.{first_passes, rest_passes}
use Rattle.layouts.specs.Meaning.{Layout, find_entry, entry_nth}
use Rattle.interface.specs.Format.{pair_of, pairs_of}
use Rattle.word.specs.Refusals.{answer_of, refusal_answer, number_or_none}
use Rattle.word.specs.declared.refusal.Number.{Number}
use Rattle.word.specs.declared.refusal.Refusal.{Refusal}
use Rattle.word.proofs.Both.{number_nonzero}
use Rattle.resource_steps.specs.Inner.Given.{pair_below, pairs_below, WordMeans}
use Rattle.resource_steps.specs.Resources.{filtering, pair_number, type_at, pair_use, pair_uses}
use Rattle.resource_steps.proofs.ResourceParts.{pairs_cons, pairs_none}
use Rattle.layouts.specs.Format.{decode_layout}

-- ---- type words

-- the least size of a type does not matter to a pair
filtering_any : (w least : ℕ) → filtering (binding_type_of w least) ≡ filtering (binding_type_of w 0)
unfolding binding_type_of
filtering_any w least = by_test (eqb (bits 26 23 w) 0) (λ t. rw t) (λ f. rw f)

number_sampler : (texture : BindingType) (w least : ℕ) → pair_number texture (binding_type_of w least) ≡ pair_number texture (binding_type_of w 0)
unfolding pair_number
number_sampler (Bind.Texture sample view multi) w least = rw (filtering_any w least)
number_sampler Bind.ExternalTexture w least = refl
number_sampler (Bind.Buffer ty dynamic size) w least = refl
number_sampler (Bind.Sampler ty) w least = refl
number_sampler (Bind.StorageTexture access format view) w least = refl
number_sampler (Bind.AccelerationStructure returns) w least = refl

number_texture : (w least : ℕ) (sampler : BindingType) → pair_number (binding_type_of w least) sampler ≡ pair_number (binding_type_of w 0) sampler
unfolding pair_number binding_type_of
number_texture w least sampler = by_test (eqb (bits 26 23 w) 0) (λ t. rw t) (λ f. rw f)

-- the word of an entry that is found at a place means the type there
pub type_found_lem : (l : List ℕ) (place : ℕ) (f : Option ℕ) (i w : ℕ) → f ≡ Some i → f ≡ find_entry (place_of place) (decode_layout l)
    → binding_type_of w (least_size_of (entry_nth (decode_layout l).entries i).ty) ≡ (entry_nth (decode_layout l).entries i).ty
    → WordMeans w (type_at (decode_layout l) (place_of place))
type_found_lem l place f i w n q m = (least_size_of (entry_nth (decode_layout l).entries i).ty, rw (← q, n) (sym m))

-- ---- one pair

module _ (L : Layout) (t s x y : ℕ) (o : Result Unit Number) (p : WordMeans x (type_at L (place_of t))) (q : WordMeans y (type_at L (place_of s)))
    (n : number_or_none o ≡ pair_number (binding_type_of x 0) (binding_type_of y 0)) where
  pub judged : number_or_none o ≡ pair_number (type_at L (place_of t)) (type_at L (place_of s))
  judged = n ∙ rw (p.1, q.1, number_texture x p.0 (binding_type_of y q.0), number_sampler (binding_type_of x 0) y q.0)

-- ---- one after the other

module _ (ws : List ℕ) (count k : ℕ) (b : pairs_below count (pairs_of (drop k ws)) ≡ true) (h : k < length ws) where
  paired : pairs_below count (pair_of (word_at ws k) ∷ pairs_of (drop (k + 1) ws)) ≡ true
  paired = rw (pairs_cons ws k h) at b

  pub pair_below_lem : pair_below count (pair_of (word_at ws k)) ≡ true
  unfolding every
  pair_below_lem = first_passes (pair_below count (pair_of (word_at ws k))) (pairs_below count (pairs_of (drop (k + 1) ws))) paired

  pub pairs_rest : pairs_below count (pairs_of (drop (k + 1) ws)) ≡ true
  unfolding every
  pairs_rest = rest_passes (pair_below count (pair_of (word_at ws k))) (pairs_below count (pairs_of (drop (k + 1) ws))) paired

module _ (ws : List ℕ) (L : Layout) (rs : List Resource) (k : ℕ) (goal : Answer) (inv : goal ≡ pair_uses L rs (pairs_of (drop k ws))) where
  module _ (o : Result Unit Refusal) (h : k < length ws) (e : answer_of o ≡ pair_use L rs (pair_of (word_at ws k))) where
    pub pairs_refused : (r : Refusal) → o ≡ Err r → refusal_answer r ≡ goal
    unfolding pair_uses
    pairs_refused r z = sym (inv ∙ rw (pairs_cons ws k h, ← e, z, number_nonzero r.number))

    pub pairs_onward : (v : Unit) → o ≡ Ok v → goal ≡ pair_uses L rs (pairs_of (drop (k + 1) ws))
    unfolding pair_uses
    pairs_onward v z = inv ∙ rw (pairs_cons ws k h, ← e, z)

  pub pairs_ended : length ws ≤ k → k ≤ length ws → accepted ≡ goal
  unfolding pair_uses
  pairs_ended h l = sym (inv ∙ rw (pairs_none ws k h))
