-- The varyings of an asked type: what is answered, and what is written.
use Rattle.std.specs.Prelude.{ℕ, List, [], ◌∷◌, ◌++◌, ltb, length, drop}
use Rattle.word.specs.Choice.{pick}
use Rattle.word.specs.Lists.{flat}
use Rattle.word.specs.Numbers as Number
use Rattle.word.specs.Answers.{answer, refused}
use Rattle.word.specs.Parse.{Parsed, fault, got}
use Rattle.word.specs.declared.answer.Answer.{Answer}
use Rattle.interface.specs.Format.{varying_words}
use Rattle.type_lists.specs.Meaning.{Binding, TypeInner}
use Rattle.type_lists.specs.Rules.{populate, nesting}
use Rattle.type_lists.specs.Format.{read_binding, binding_good, decode}

-- 'structs nested at most 8 deep'
abbrev pub most_nested : ℕ
most_nested = 8

-- 'a sixty-fourth varying is 92'
abbrev pub most_varyings : ℕ
most_varyings = 63

-- the words of the varyings, one behind the other
abbrev pub given_words : List TypeInner → ℕ → Binding → List ℕ
given_words types asked binding = flat varying_words (populate types asked binding)

-- 'nesting past 8 is 91 and a sixty-fourth varying is 92, in that order …; then a destination too short is 4, and a refusal writes nothing';
-- 'varyings come out in member order, their count the first detail'
unfoldable pub populated : List TypeInner → ℕ → Binding → List ℕ → Answer × List ℕ
populated types asked binding out =
    pick (ltb most_nested (nesting types asked)) (refused Number.nested_too_deep, out)
    (pick (ltb most_varyings (length (populate types asked binding))) (refused Number.too_many_varyings, out)
    (pick (ltb (length out) (length (given_words types asked binding))) (refused Number.short_out, out)
    (answer 0 (length (populate types asked binding)) 0 0, given_words types asked binding ++ drop (length (given_words types asked binding)) out)))

-- 90 for a binding that is malformed or not all of the words lent, and for clip distances where they cannot stand on the asked type
abbrev pub bound_on : List TypeInner → ℕ → Parsed Binding → List ℕ → Answer × List ℕ
bound_on types asked fault out = (refused Number.bad_types, out)
bound_on types asked (got binding []) out = pick (binding_good types asked binding) (populated types asked binding out) (refused Number.bad_types, out)
bound_on types asked (got binding (w ∷ ws)) out = (refused Number.bad_types, out)

-- 90 for a list that is malformed, and for 'an asked type outside it'
abbrev pub asked_on : Parsed (List TypeInner) → ℕ → Parsed Binding → List ℕ → Answer × List ℕ
asked_on fault asked binding out = (refused Number.bad_types, out)
asked_on (got types room) asked binding out = pick (ltb asked (length types)) (bound_on types asked binding out) (refused Number.bad_types, out)

-- the answer, and the destination at exit, of a type list, an asked type and its binding
unfoldable pub populate_call : List ℕ → ℕ → List ℕ → List ℕ → Answer × List ℕ
populate_call types asked binding out = asked_on (decode types) asked (read_binding binding) out
