-- A judgement, and a second one where it accepted.
use Rattle.std.proofs.Common.{◌≡◌, false, refl, eqb, eq-eqb, ne_eqb, Result, Ok, Err}
use Rattle.word.specs.declared.answer.Answer.{Answer}
use Rattle.word.specs.Answers.{both}
use Rattle.word.specs.Numbers.{number_of}
use Rattle.word.specs.Refusals.{answer_of, refusal_answer}
use Rattle.word.specs.declared.refusal.Number.{Number}
use Rattle.word.specs.declared.refusal.Refusal.{Refusal}

module _ (a b r : Answer) (e : r ≡ a) where
  pub both_ended : (r.number ≡ 0 → ⊥) → r ≡ both a b
  both_ended n = rw (← e, ne_eqb r.number 0 n)

  pub both_went : (x : Answer) → r.number ≡ 0 → x ≡ b → x ≡ both a b
  both_went x z h = rw (← e, eq-eqb r.number 0 z) h

pub ruleset sequence = (both_ended, both_went)

-- no refusal has the number of acceptance
pub number_nonzero : (n : Number) → eqb (number_of n) 0 ≡ false
number_nonzero Number.DamagedPack = refl
number_nonzero Number.MalformedPack = refl
number_nonzero Number.BadCall = refl
number_nonzero Number.ShortOut = refl
number_nonzero Number.FullList = refl
number_nonzero Number.EntryAbsent = refl
number_nonzero Number.EntryNone = refl
number_nonzero Number.EntrySeveral = refl
number_nonzero Number.Missing = refl
number_nonzero Number.Invisible = refl
number_nonzero Number.WrongType = refl
number_nonzero Number.WrongAddressSpace = refl
number_nonzero Number.WrongBufferAddressSpace = refl
number_nonzero Number.WrongBufferSize = refl
number_nonzero Number.WrongTextureViewDimension = refl
number_nonzero Number.WrongTextureClass = refl
number_nonzero Number.WrongSamplerComparison = refl
number_nonzero Number.InconsistentlyDerivedType = refl
number_nonzero Number.BadStorageFormat = refl
number_nonzero Number.FilteringFloat = refl
number_nonzero Number.FilteringInteger = refl
number_nonzero Number.PairNoTexture = refl
number_nonzero Number.WorkgroupTooLarge = refl
number_nonzero Number.WorkgroupZero = refl
number_nonzero Number.InputMissing = refl
number_nonzero Number.InputType = refl
number_nonzero Number.InputInterpolation = refl
number_nonzero Number.InputSampling = refl
number_nonzero Number.InputPerPrimitive = refl
number_nonzero Number.VertexLocation = refl
number_nonzero Number.VertexCount = refl
number_nonzero Number.FragmentLocation = refl
number_nonzero Number.FragmentCount = refl
number_nonzero Number.ColourLocation = refl
number_nonzero Number.SlotsUsedUp = refl
number_nonzero Number.DualSource = refl
number_nonzero Number.DepthAttachment = refl
number_nonzero Number.MeshVertices = refl
number_nonzero Number.MeshPrimitives = refl
number_nonzero Number.MeshTopology = refl
number_nonzero Number.PayloadLarge = refl
number_nonzero Number.PayloadMismatch = refl
number_nonzero Number.InvalidPrimitiveIndex = refl
number_nonzero Number.MissingPrimitiveIndex = refl
number_nonzero Number.DrawIndex = refl
number_nonzero Number.PerVertexNotTriangles = refl
number_nonzero Number.NoColourType = refl
number_nonzero Number.FormatMismatch = refl
number_nonzero Number.UnknownCode = refl
number_nonzero Number.BadTypes = refl
number_nonzero Number.NestedTooDeep = refl
number_nonzero Number.TooManyVaryings = refl

-- a step that refused ends the judgement, and one that passed leaves it to what follows
pub refused_ends : {A : Type 0} → (r : Refusal) (o : Result A Refusal) (a b : Answer) → answer_of o ≡ a → o ≡ Err r → refusal_answer r ≡ both a b
refused_ends r o a b e h = rw (← e, h, number_nonzero r.number)

pub passed_on : {A : Type 0} → (v : A) (o : Result A Refusal) (a b x : Answer) → answer_of o ≡ a → o ≡ Ok v → x ≡ b → x ≡ both a b
passed_on v o a b x e h g = rw (← e, h) g
