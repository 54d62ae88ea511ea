-- Laws of the positions of entries that resources note.
use Rattle.std.proofs.Common.{Result, Ok, Err}
use Prim.Native.Nat.{ℕ, ◌+◌, ◌<◌, ◌≤◌}
use mathlib.Core.Path.{◌≡◌, sym, ◌∙◌}
use mathlib.Core.List.{List}
use lib.ListN.{length, drop}
use Rattle.word.specs.Words.{word_at, content_of}
use Rattle.word.specs.Refusals.{answer_of}
use Rattle.word.specs.declared.refusal.Refusal.{Refusal}
use Rattle.word.proofs.Both.{number_nonzero}
use Rattle.bindings.specs.declared.types.Resource.{Resource}
use Rattle.layouts.specs.Meaning.{Layout}
use Rattle.sizes.specs.Meaning.{Sizes}
use Rattle.interface.specs.Format.{contents}
use Rattle.interface.specs.declared.types.ShaderStage.{ShaderStage}
use Rattle.resource_steps.specs.Inner.Notes.{step_notes, provide_notes}
use Rattle.resource_steps.specs.Resources.{resource_nth, sizes_after, provide_step}
use Rattle.resource_steps.proofs.ResourceParts.{contents_cons, contents_none}

-- ---- one after the other

module _ (ws : List ℕ) (stage : ShaderStage) (L : Layout) (rs : List Resource) (k : ℕ) (S : Sizes) (table goal : List ℕ)
    (inv : goal ≡ provide_notes stage L rs (contents (drop k ws)) S table) where
  module _ (i : ℕ) (T : Sizes) (o : Result Unit Refusal) (m : List ℕ) (h : k < length ws) (q : i ≡ content_of (word_at ws k))
      (e : sizes_after (answer_of o) T ≡ provide_step stage L (resource_nth rs i) S) (f : m ≡ step_notes L (resource_nth rs i) i S table) where
    -- a resource that is refused is the last that notes
    pub notes_refused : (r : Refusal) → o ≡ Err r → m ≡ goal
    unfolding provide_notes
    notes_refused r z = sym (inv ∙ rw (contents_cons ws k h, ← q, ← e, z, number_nonzero r.number, ← f))

    pub notes_onward : (v : Unit) → o ≡ Ok v → goal ≡ provide_notes stage L rs (contents (drop (k + 1) ws)) T m
    unfolding provide_notes
    notes_onward v z = inv ∙ rw (contents_cons ws k h, ← q, ← e, z, ← f)

  pub notes_done : length ws ≤ k → k ≤ length ws → table ≡ goal
  unfolding provide_notes
  notes_done h l = sym (inv ∙ rw (contents_none ws k h))
