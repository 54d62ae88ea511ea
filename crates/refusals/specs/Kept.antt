-- Demand 1, third sentence: any refusal other than 1 to 4 and 10 to 12 'keeps exactly the layout and size records made by the steps before it'.
use Rattle.std.specs.Prelude.{ℕ, ◌≡◌, Bool, true, false, not, ◌&&◌, List, [], ◌∷◌, ◌++◌, eqb, length, Some}
use Rattle.word.specs.Choice.{pick, yes}
use Rattle.word.specs.Answers.{accepted}
use Rattle.word.specs.Lists.{among}
use Rattle.word.specs.declared.answer.Answer.{Answer}
use Rattle.bindings.specs.declared.types.ResourceBinding.{ResourceBinding}
use Rattle.bindings.specs.declared.types.Resource.{Resource}
use Rattle.layouts.specs.Format.{decode_layout, encode_layout}
use Rattle.sizes.specs.Format.{decode_sizes, encode_sizes}
use Rattle.interface.specs.Meaning.{EntryPoint, Interface, entry_point_nth}
use Rattle.interface.specs.Format.{Pack, decode}
use Rattle.interface.specs.declared.types.ShaderStage.{ShaderStage}
use Rattle.entry_points.specs.Rules.{find_entry_point}
use Rattle.resource_steps.specs.Kept.{entered_all, sizes_entered}
use Rattle.resource_steps.specs.Resources.{resource_nth, resource_steps}
use Rattle.stage.specs.Meaning.{Call, Lent}
use Rattle.stage.specs.Stage.{request_of, derived_of, check_stage}
use Rattle.refusals.specs.Table.{resource_numbers}

-- an answer is on the resource at a place: 5 or 20 to 30, with group and binding
abbrev pub refuses_at : ResourceBinding → Answer → Bool
refuses_at bind a = among resource_numbers a.number && (eqb a.first bind.group && (eqb a.second bind.binding && eqb a.third 0))

-- at most one resource was refused, and then the answer is on it; where none was, none is left and the answer is not on a resource
abbrev pub refuses_one : List Resource → List ℕ → List ℕ → Answer → Bool
refuses_one resources [] left a = not (among resource_numbers a.number) && eqb (length left) 0
refuses_one resources (i ∷ []) left a = refuses_at (resource_nth resources i).bind a
refuses_one resources (i ∷ j ∷ is) left a = false

-- the layout at exit: where it is derived, what was lent with what the resources done entered; where it is provided, what was lent
abbrev pub layout_kept : Bool → ShaderStage → Interface → EntryPoint → List ℕ → Lent → List ℕ
layout_kept derived stage i e done t =
    pick (yes derived) (encode_layout (entered_all stage i.resources e.pairs done (decode_layout t.layout))) t.layout

-- the sizes at exit: where the layout is derived, what was lent; where it is provided, with those of the resources done and of the one refused
abbrev pub sizes_kept : Bool → Interface → List ℕ → Lent → List ℕ
sizes_kept derived i recording t = pick (yes derived) t.sizes (encode_sizes (sizes_entered i.resources recording (decode_sizes t.sizes)))

-- what a call that came to its steps leaves
pub record Kept (c : Call) : Type 0 where
  -- the decoded pack and the chosen entry point
  pub interface : Interface
  pub position : ℕ
  pub decoded : decode c.pack ≡ Pack interface
  pub chosen : find_entry_point (request_of c.codes).stage c.name interface.entries ≡ Some position
  -- its resources: those done, the one refused, if it was a resource, and those left
  pub done : List ℕ
  pub refused : List ℕ
  pub left : List ℕ
  pub split : (entry_point_nth interface.entries position).resources ≡ done ++ (refused ++ left)
  pub passed : (resource_steps (request_of c.codes).stage (derived_of c.codes) interface.resources (entry_point_nth interface.entries position).pairs
      done (decode_layout c.lent.layout) (decode_sizes c.lent.sizes)).answer ≡ accepted
  pub ended : refuses_one interface.resources refused left (check_stage c).answer ≡ true
  -- the lists at exit
  pub layout : (check_stage c).layout
      ≡ layout_kept (derived_of c.codes) (request_of c.codes).stage interface (entry_point_nth interface.entries position) done c.lent
  pub sizes : (check_stage c).sizes ≡ sizes_kept (derived_of c.codes) interface (done ++ refused) c.lent
