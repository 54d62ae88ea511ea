-- Worked examples, from words to the answer and the destination at exit.
use Prim.Native.Nat.{ℕ}
use mathlib.Core.Path.{◌≡◌, refl}
use mathlib.Core.List.{List, [], ◌∷◌, ◌++◌}
use Rattle.word.specs.Choice.{yes}
use Rattle.word.specs.Words.{of_kind}
use Rattle.word.specs.Lists.{flat}
use Rattle.word.specs.Parse.{several}
use Rattle.word.specs.Answers.{answer, refused}
use Rattle.numeric.specs.TypeWords.{type_well_formed, type_of, type_word}
use Rattle.varying.specs.Format.{var_word}
use Rattle.type_lists.specs.Meaning.{type_numbered, by_number}
use Rattle.type_lists.specs.Rules.{members_give, deepest}
use Rattle.type_lists.specs.Format.{bound_well_formed, read_binding, binding_good, read_member, read_type, read_types, read_list, decode}
use Rattle.populate.specs.Populate.{populated, populate_call}

none : List ℕ
none = of_kind 6 0 ∷ []

-- f32, five f32, a struct of an f32 at location 3 and an unbound one, and a struct of it, with a location that is ignored, clip distances and a built-in
shader : List ℕ
shader =
    of_kind 21 4 ∷ of_kind 22 0x120 ∷ of_kind 23 0 ∷ of_kind 6 5
    ∷ of_kind 24 2 ∷ of_kind 5 0 ∷ of_kind 12 3 ∷ of_kind 13 0x51000 ∷ of_kind 5 0 ∷ of_kind 6 0
    ∷ of_kind 24 3 ∷ of_kind 5 2 ∷ of_kind 12 7 ∷ of_kind 13 0 ∷ of_kind 5 1 ∷ of_kind 14 0x400_0000 ∷ of_kind 5 0 ∷ of_kind 14 2 ∷ []

-- three varyings in member order, and the word behind them kept
written : populate_call shader 3 none (0 ∷ 0 ∷ 0 ∷ 0 ∷ 9 ∷ []) ≡ (answer 0 3 0 0, of_kind 12 3 ∷ of_kind 13 0x51120 ∷ of_kind 14 0x400_0005 ∷ of_kind 14 2 ∷ 9 ∷ [])
unfolding populate_call populated decode read_list read_types read_type read_member read_binding several binding_good type_numbered by_number members_give deepest bound_well_formed type_well_formed type_of type_word var_word flat yes shader none
written = refl

-- one word too few
short : populate_call shader 3 none (0 ∷ 0 ∷ 0 ∷ []) ≡ (refused 4, 0 ∷ 0 ∷ 0 ∷ [])
unfolding populate_call populated decode read_list read_types read_type read_member read_binding several binding_good type_numbered by_number members_give deepest bound_well_formed type_well_formed type_of type_word var_word flat yes shader none
short = refl

-- no such type; a word behind the binding; clip distances on a scalar, and on five floats
outside : populate_call shader 4 none (7 ∷ []) ≡ (refused 90, 7 ∷ [])
unfolding populate_call decode read_list read_types read_type read_member read_binding several binding_good type_numbered bound_well_formed type_well_formed type_of shader none
outside = refl

left_over : populate_call shader 3 (none ++ none) (7 ∷ []) ≡ (refused 90, 7 ∷ [])
unfolding populate_call decode read_list read_types read_type read_member read_binding several binding_good type_numbered bound_well_formed type_well_formed type_of shader none
left_over = refl

on_scalar : populate_call shader 0 (of_kind 14 0x400_0000 ∷ []) (7 ∷ []) ≡ (refused 90, 7 ∷ [])
unfolding populate_call decode read_list read_types read_type read_member read_binding several binding_good type_numbered bound_well_formed type_well_formed type_of shader
on_scalar = refl

on_array : populate_call shader 1 (of_kind 14 0x400_0000 ∷ []) (7 ∷ []) ≡ (answer 0 1 0 0, of_kind 14 0x400_0005 ∷ [])
unfolding populate_call populated decode read_list read_types read_type read_member read_binding several binding_good type_numbered by_number members_give deepest bound_well_formed type_well_formed type_of flat shader
on_array = refl

-- two of the struct before, and so on: the seventh gives 64 varyings, the ninth nests nine deep
twice : ℕ → List ℕ
twice n = of_kind 24 2 ∷ of_kind 5 n ∷ of_kind 6 0 ∷ of_kind 5 n ∷ of_kind 6 0 ∷ []

doubled : List ℕ
doubled =
    of_kind 21 10 ∷ of_kind 22 0x120 ∷ of_kind 24 1 ∷ of_kind 5 0 ∷ of_kind 14 0
    ∷ (twice 1 ++ (twice 2 ++ (twice 3 ++ (twice 4 ++ (twice 5 ++ (twice 6 ++ (twice 7 ++ twice 8)))))))

-- 92 before 4
many : populate_call doubled 7 none [] ≡ (refused 92, [])
unfolding populate_call populated decode read_list read_types read_type read_member read_binding several binding_good type_numbered by_number members_give deepest bound_well_formed type_well_formed type_of flat doubled twice none
many = refl

-- 91 before 92
deep : populate_call doubled 9 none [] ≡ (refused 91, [])
unfolding populate_call populated decode read_list read_types read_type read_member read_binding several binding_good type_numbered by_number members_give deepest bound_well_formed type_well_formed type_of flat doubled twice none
deep = refl
