-- Demand 1 for the varyings of a declared type: always a number of the table, and a refusal writes nothing.
use Prim.Native.Nat.{ℕ}
use mathlib.Core.Path.{◌≡◌, refl}
use mathlib.Core.Bool.{Bool, true, false}
use mathlib.Core.List.{List, [], ◌∷◌}
use lib.Dec.{ltb}
use lib.ListN.{length}
use Rattle.word.specs.Choice.{pick}
use Rattle.word.specs.Lists.{every, among}
use Rattle.word.specs.Parse.{Parsed, fault, got}
use Rattle.word.specs.declared.answer.Answer.{Answer}
use Rattle.type_lists.specs.Meaning.{Binding, TypeInner}
use Rattle.type_lists.specs.Rules.{populate, nesting}
use Rattle.type_lists.specs.Format.{read_binding, binding_good, decode}
use Rattle.populate.specs.Populate.{most_nested, most_varyings, given_words, populated, bound_on, asked_on, populate_call}
use Rattle.refusals.specs.Table.{populate_numbers, answered}

-- what holds of an answer and the destination at exit, where the destination at entry was another list
abbrev Sound : List ℕ → Answer × List ℕ → Type 0
Sound out x = (answered populate_numbers 1 x.0 ≡ true) × ((x.0.number ≡ 0 → ⊥) → x.1 ≡ out)

either : (out : List ℕ) (test : Bool) (x y : Answer × List ℕ) → Sound out x → Sound out y → Sound out (pick test x y)
either out true x y h k = h
either out false x y h k = k

module _ (types : List TypeInner) (asked : ℕ) (out : List ℕ) where
  populated_sound : (binding : Binding) → Sound out (populated types asked binding out)
  unfolding populated answered every among
  populated_sound binding =
      either out (ltb most_nested (nesting types asked)) _ _ (refl, λ n. refl)
      (either out (ltb most_varyings (length (populate types asked binding))) _ _ (refl, λ n. refl)
      (either out (ltb (length out) (length (given_words types asked binding))) _ _ (refl, λ n. refl) (refl, λ n. absurd (n refl))))

  bound_sound : (p : Parsed Binding) → Sound out (bound_on types asked p out)
  unfolding answered every among
  bound_sound fault = (refl, λ n. refl)
  bound_sound (got binding []) = either out (binding_good types asked binding) _ _ (populated_sound binding) (refl, λ n. refl)
  bound_sound (got binding (w ∷ ws)) = (refl, λ n. refl)

asked_sound : (p : Parsed (List TypeInner)) (asked : ℕ) (binding : Parsed Binding) (out : List ℕ) → Sound out (asked_on p asked binding out)
unfolding answered every among
asked_sound fault asked binding out = (refl, λ n. refl)
asked_sound (got types room) asked binding out = either out (ltb asked (length types)) _ _ (bound_sound types asked out binding) (refl, λ n. refl)

-- one of its numbers, and on acceptance no detail but the count
pub populate_answered : (types : List ℕ) (asked : ℕ) (binding out : List ℕ) → answered populate_numbers 1 (populate_call types asked binding out).0 ≡ true
unfolding populate_call
populate_answered types asked binding out = (asked_sound (decode types) asked (read_binding binding) out).0

-- 'a refusal writes nothing'
pub populate_unchanged : (types : List ℕ) (asked : ℕ) (binding out : List ℕ) → ((populate_call types asked binding out).0.number ≡ 0 → ⊥) → (populate_call types asked binding out).1 ≡ out
unfolding populate_call
populate_unchanged types asked binding out = (asked_sound (decode types) asked (read_binding binding) out).1
