-- Demand 3: derived stage checks over a layout list, and their calls put again as provided over the finished list.
use Rattle.std.specs.Prelude.{ℕ, suc, ◌+◌, ◌*◌, ◌<◌, ◌≡◌, Bool, true, false, not, ◌&&◌, List, [], ◌∷◌, ◌++◌, ltb, length, take, Option, Some, None}
use Rattle.word.specs.Choice.{pick}
use Rattle.word.specs.Answers.{accepted}
use Rattle.derived_layouts.specs.Reusable.{resource_reusable}
use Rattle.bindings.specs.declared.types.Resource.{Resource}
use Rattle.bindings.specs.declared.types.ResourceType.{ResourceType}
use Rattle.bindings.specs.declared.types.ResourceType.TheVariants as Res
use Rattle.bindings.specs.declared.types.ImageClass.TheVariants as Class
use Rattle.bindings.specs.declared.types.SampleKind.TheVariants as Kind
use Rattle.layouts.specs.Meaning.{Layout, entry_nth, sees_bit}
use Rattle.sizes.specs.Meaning.{size_has, size_record, room_for_sizes}
use Rattle.layouts.specs.Format.{layout_well_formed, decode_layout}
use Rattle.sizes.specs.Format.{sizes_well_formed, decode_sizes}
use Rattle.places.specs.Records.{count_of}
use Rattle.sizes.specs.declared.size_record.SizeRecord.{SizeRecord}
use Rattle.interface.specs.Meaning.{EntryPoint, Interface}
use Rattle.interface.specs.Format.{decode, interface_of}
use Rattle.interface.specs.Meaning as Packs
use Rattle.entry_points.specs.Rules.{find_entry_point}
use Rattle.interface.specs.declared.types.SamplingPair.{SamplingPair}
use Rattle.stage.specs.Meaning.{codes, lent, Call, call, Outcome}
use Rattle.resource_steps.specs.Resources.{resource_nth}
use Rattle.stage.specs.Stage.{request_of, check_stage, out_words}
use Rattle.word.specs.Lists.{every}

-- ---- running and putting again

-- a call in a mode over a layout list, with a size list and a list out
abbrev pub over_layout : ℕ → List ℕ → List ℕ → List ℕ → Call → Call
over_layout mode layout sizes out c =
    call c.pack c.name (codes c.codes.stage c.codes.topology mode c.codes.dual_source c.codes.depth)
    (lent layout sizes c.lent.inputs out)

-- a call in derived mode over a layout list
abbrev pub derived_over : List ℕ → Call → Call
derived_over layout c = over_layout 1 layout c.lent.sizes c.lent.out c

-- 'run over it any list of stage checks in derived mode …, each … with the layout list as the one before left it'
unfoldable pub run_over : List ℕ → List Call → List ℕ
run_over layout [] = layout
run_over layout (c ∷ cs) = let next = (check_stage (derived_over layout c)).layout in run_over next cs

-- 'Put again is the call as made, but in mode 0 over the finished list', with room enough: a size list and a list out of its own
abbrev pub put_again : List ℕ → List ℕ → List ℕ → Call → Call
put_again layout sizes out c = over_layout 0 layout sizes out c

-- ---- what stands

-- the entry at a position of one layout stands at that position of another, 'with its place, its type, least size included, and every
-- visibility bit it had'
pub record StandsAt (L M : Layout) (k : ℕ) : Type 0 where
  pub there : k < length M.entries
  pub place : (entry_nth M.entries k).bind ≡ (entry_nth L.entries k).bind
  pub type : (entry_nth M.entries k).ty ≡ (entry_nth L.entries k).ty
  pub seen : (s : ℕ) → s < 5 → sees_bit s (entry_nth L.entries k).visibility ≡ true → sees_bit s (entry_nth M.entries k).visibility ≡ true

-- every entry of one list still stands in another
abbrev pub Stands : List ℕ → List ℕ → Type 0
Stands before after = (k : ℕ) → k < length (decode_layout before).entries → StandsAt (decode_layout before) (decode_layout after) k

-- ---- conditions on a pack

abbrev pub integer : ResourceType → Bool
integer (Res.Texture dim arrayed (Class.Sampled Kind.Float multi)) = false
integer (Res.Texture dim arrayed (Class.Sampled Kind.Sint multi)) = true
integer (Res.Texture dim arrayed (Class.Sampled Kind.Uint multi)) = true
integer (Res.Texture dim arrayed (Class.Depth multi)) = false
integer (Res.Texture dim arrayed (Class.Storage format access)) = false
integer (Res.Texture dim arrayed Class.External) = false
integer (Res.Buffer size space) = false
integer (Res.Sampler comparison) = false
integer (Res.AccelerationStructure returns) = false

abbrev pub comparison : ResourceType → Bool
comparison (Res.Sampler c) = c
comparison (Res.Buffer size space) = false
comparison (Res.Texture dim arrayed class) = false
comparison (Res.AccelerationStructure returns) = false

-- 'its pairs never join a sint or uint texture to a non-comparison sampler'
abbrev pub pair_reusable : List Resource → SamplingPair → Bool
pair_reusable resources p =
    not (integer (resource_nth resources p.texture).ty && not (comparison (resource_nth resources p.sampler).ty))

abbrev pub pairs_reusable : List Resource → List SamplingPair → Bool
pairs_reusable resources ps = every (pair_reusable resources) ps

abbrev pub entry_points_reusable : List Resource → List EntryPoint → Bool
entry_points_reusable resources es = every (λ e. pairs_reusable resources e.pairs) es

abbrev pub resources_reusable : List Resource → Bool
resources_reusable rs = every (λ r. resource_reusable r.ty) rs

-- the five conditions of demand 3
abbrev pub pack_reusable : Interface → Bool
pack_reusable i = resources_reusable i.resources && entry_points_reusable i.resources i.entries

-- ---- room enough

abbrev pub interface_of_call : Call → Interface
interface_of_call c = interface_of (decode c.pack)

abbrev pub chosen_entry : Interface → Option ℕ → EntryPoint
chosen_entry i (Some position) = Packs.entry_point_nth i.entries position
chosen_entry i None = Packs.empty_entry_point

-- the entry point that a call means
abbrev pub entry_of_call : Call → EntryPoint
entry_of_call c = chosen_entry (interface_of_call c) (find_entry_point (request_of c.codes).stage c.name (interface_of_call c).entries)

abbrev pub is_buffer : ResourceType → Bool
is_buffer (Res.Buffer size space) = true
is_buffer (Res.Sampler c) = false
is_buffer (Res.Texture dim arrayed class) = false
is_buffer (Res.AccelerationStructure returns) = false

-- how many buffer places among resources a size list lacks
unfoldable pub lacking : List Resource → List ℕ → List SizeRecord → ℕ
lacking resources [] records = 0
lacking resources (i ∷ is) records =
    let new = suc (lacking resources is (records ++ (size_record (resource_nth resources i).bind 1 ∷ []))) in
    let rest = lacking resources is records in
    pick (is_buffer (resource_nth resources i).ty && not (size_has (resource_nth resources i).bind records)) new rest

-- 'room enough is a list out that 4 passes and any size list that 3 passes, with free words for a record of each buffer place among the
-- entry point's resources that the size list lacks'
pub record RoomEnough (c : Call) (sizes out : List ℕ) : Type 0 where
  pub passes4 : ltb (length out) (out_words (entry_of_call c)) ≡ false
  pub passes3 : sizes_well_formed sizes ≡ true
  pub free : room_for_sizes (lacking (interface_of_call c).resources (entry_of_call c).resources (decode_sizes sizes).records) (decode_sizes sizes) ≡ true

-- ---- the same list out

-- the words of a list out that are no free room
abbrev pub used : List ℕ → List ℕ
used out = take (2 + 2 * count_of out) out

pub record Again (first again : Outcome) : Type 0 where
  pub passes : again.answer ≡ accepted
  pub same : used again.out ≡ used first.out

-- ---- demand 3, one claim about a list of calls

pub record DerivedServes (layout : List ℕ) (calls : List Call) : Type 0 where
  -- 'After them the layout list is well formed'
  pub well_formed : layout_well_formed (run_over layout calls) ≡ true
  -- 'every entry that stood in it at the start or after any of them still stands'
  pub stands : (before after : List Call) → before ++ after ≡ calls → Stands (run_over layout before) (run_over layout calls)
  -- 'each call that was accepted, put again as provided over the finished list with room enough, is accepted with the same list out'
  pub again :
      (before after : List Call) (c : Call) → before ++ (c ∷ after) ≡ calls
      → (check_stage (derived_over (run_over layout before) c)).answer ≡ accepted
      → pack_reusable (interface_of_call c) ≡ true
      → (sizes out : List ℕ) → RoomEnough c sizes out
      → Again (check_stage (derived_over (run_over layout before) c)) (check_stage (put_again (run_over layout calls) sizes out c))
