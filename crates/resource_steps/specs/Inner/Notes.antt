-- The positions of entries that resources note: at a resource's index stands where its entry was found.
use Rattle.std.specs.Prelude.{ℕ, List, [], ◌∷◌, eqb, ltb, set, Option, Some, None}
use Rattle.word.specs.Choice.{pick}
use Rattle.bindings.specs.declared.types.Resource.{Resource}
use Rattle.layouts.specs.Meaning.{Layout, find_entry}
use Rattle.sizes.specs.Meaning.{Sizes}
use Rattle.interface.specs.Format.{most_resources}
use Rattle.interface.specs.declared.types.ShaderStage.{ShaderStage}
use Rattle.resource_steps.specs.Resources.{resource_nth, record_size, provide_step}

-- the position of a resource's entry noted at the resource's index, where it has one; a table has as many as a pack has resources at most
abbrev pub note_at : ℕ → Option ℕ → List ℕ → List ℕ
note_at i (Some index) table = pick (ltb i most_resources) (set table i index) table
note_at i None table = table

-- what one resource notes: one whose size finds no room looks for no entry
unfoldable pub step_notes : Layout → Resource → ℕ → Sizes → List ℕ → List ℕ
step_notes L r i S table = pick (eqb (record_size r.bind r.ty S).answer.number 0) (note_at i (find_entry r.bind L) table) table

-- what resources note, in list order, up to the first that is refused
unfoldable pub provide_notes : ShaderStage → Layout → List Resource → List ℕ → Sizes → List ℕ → List ℕ
provide_notes stage L resources [] S table = table
provide_notes stage L resources (i ∷ is) S table =
    let x = provide_step stage L (resource_nth resources i) S in
    let noted = step_notes L (resource_nth resources i) i S table in
    let rest = provide_notes stage L resources is x.sizes noted in
    pick (eqb x.answer.number 0) rest noted
