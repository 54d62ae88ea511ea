-- What one pass over varyings gathers.
use Rattle.std.specs.Prelude.{ℕ, ◌+◌, max, false, ◌||◌, List, [], ◌∷◌}
use Rattle.interface.specs.declared.types.Varying.{Varying}
use Rattle.interface.specs.declared.types.Varying.TheVariants as Var
use Rattle.output_steps.specs.declared.types.Summary.{Summary}
use Rattle.output_steps.specs.Outputs.{any_of, built_in_slot_count, clip_slot_count, is_depth, is_primitive, local_count}

abbrev pub reach_part : Varying → ℕ
reach_part (Var.Local location iv) = location + 1
reach_part (Var.BuiltIn b) = 0

-- the highest location plus 1 among local varyings, 0 where there is none
unfoldable pub reach_of : List Varying → ℕ
reach_of [] = 0
reach_of (v ∷ vs) = max (reach_part v) (reach_of vs)

-- what one pass over varyings gathers
unfoldable pub summary_of : List Varying → Summary
summary_of vs =
    record {
      locals = local_count vs;
      clip_slots = clip_slot_count vs;
      built_in_slots = built_in_slot_count vs;
      reach = reach_of vs;
      depth = any_of is_depth vs;
      primitive = any_of is_primitive vs;
    }

abbrev pub nothing : Summary
nothing = record { locals = 0; clip_slots = 0; built_in_slots = 0; reach = 0; depth = false; primitive = false }

-- what two passes gather together
abbrev pub plus : Summary → Summary → Summary
plus a b =
    record {
      locals = a.locals + b.locals;
      clip_slots = a.clip_slots + b.clip_slots;
      built_in_slots = a.built_in_slots + b.built_in_slots;
      reach = max a.reach b.reach;
      depth = a.depth || b.depth;
      primitive = a.primitive || b.primitive;
    }
