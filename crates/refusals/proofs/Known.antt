-- Answers that are acceptance, or have a number of a list.
use Prim.Native.Nat.{ℕ}
use mathlib.Core.Path.{◌≡◌, refl}
use mathlib.Core.Bool.{Bool, true, false, not, ◌&&◌, false≢true}
use mathlib.Core.List.{List, [], ◌∷◌, ◌++◌}
use lib.Dec.{eqb}
use borrow.Author.Tests.{eqb-true, not-true}
use Rattle.word.specs.Choice.{pick}
use Rattle.word.specs.Answers.{answer, accepted, both}
use Rattle.word.specs.Lists.{among, every}
use Rattle.word.specs.declared.answer.Answer.{Answer}
use Rattle.word.proofs.Truth.{first, second, by_test}
use Rattle.word.proofs.Lists.{every_first, every_others}
use Rattle.refusals.specs.Table.{answered}

-- a number is 0 or one of a list
pub data NumberOf (ns : List ℕ) (n : ℕ) : Type 0 where
  none : n ≡ 0 → NumberOf ns n
  one : among ns n ≡ true → NumberOf ns n

-- an answer is acceptance or has one of them
pub data AnswerOf (ns : List ℕ) (a : Answer) : Type 0 where
  passes : a ≡ accepted → AnswerOf ns a
  fails : among ns a.number ≡ true → AnswerOf ns a

-- either way of a test
pub either : {A : Type 0} (P : A → Type 0) (b : Bool) (x y : A) → P x → P y → P (pick b x y)
either P true x y p q = p
either P false x y p q = q

-- a refusal where the number is one, else acceptance
pub numbered : (ns : List ℕ) (n a b c : ℕ) → NumberOf ns n → AnswerOf ns (pick (eqb n 0) accepted (answer n a b c))
numbered ns n a b c (none e) = rw e (passes refl)
numbered ns n a b c (one h) = either (AnswerOf ns) (eqb n 0) accepted (answer n a b c) (passes refl) (fails h)

-- one of the list, where a test has shown that it is not 0
pub not_none : (ns : List ℕ) (n : ℕ) → NumberOf ns n → (n ≡ 0 → ⊥) → among ns n ≡ true
not_none ns n (none e) z = absurd (z e)
not_none ns n (one h) z = h

pub step_both : (ns : List ℕ) (a b : Answer) → AnswerOf ns a → AnswerOf ns b → AnswerOf ns (both a b)
step_both ns a b p q = either (AnswerOf ns) (eqb a.number 0) b a q p

-- a test that each of a list passes
pub every_among : (f : ℕ → Bool) (ms : List ℕ) (n : ℕ) → every f ms ≡ true → among ms n ≡ true → f n ≡ true
unfolding every among
every_among f [] n e h = absurd (false≢true h)
every_among f (m ∷ ms) n e h =
    by_test (eqb n m) (λ t. rw (eqb-true n m t) (every_first f m ms e)) (λ k. every_among f ms n (every_others f m ms e) (rw k at h))

-- one of a list is one of it with others
pub among_left : (ms ns : List ℕ) (n : ℕ) → among ms n ≡ true → among (ms ++ ns) n ≡ true
unfolding among
among_left [] ns n h = absurd (false≢true h)
among_left (m ∷ ms) ns n h = by_test (eqb n m) (λ t. rw t) (λ f. rw f (among_left ms ns n (rw f at h)))

pub among_right : (ms ns : List ℕ) (n : ℕ) → among ns n ≡ true → among (ms ++ ns) n ≡ true
unfolding among
among_right [] ns n h = h
among_right (m ∷ ms) ns n h = by_test (eqb n m) (λ t. rw t) (λ f. rw f (among_right ms ns n h))

-- an answer of one list is one of a longer list
pub answer_left : (ms ns : List ℕ) (a : Answer) → AnswerOf ms a → AnswerOf (ms ++ ns) a
answer_left ms ns a (passes e) = passes e
answer_left ms ns a (fails h) = fails (among_left ms ns a.number h)

pub answer_right : (ms ns : List ℕ) (a : Answer) → AnswerOf ns a → AnswerOf (ms ++ ns) a
answer_right ms ns a (passes e) = passes e
answer_right ms ns a (fails h) = fails (among_right ms ns a.number h)

-- a refusal of a function, and no 0
abbrev pub refusal_of : List ℕ → ℕ → Bool
refusal_of numbers n = among numbers n && not (eqb n 0)

-- a function whose answers are acceptance or of such a list names no details of acceptance
pub answered_by : (numbers ns : List ℕ) (a : Answer) → among numbers 0 ≡ true → every (refusal_of numbers) ns ≡ true → AnswerOf ns a → answered numbers 0 a ≡ true
unfolding answered every
answered_by numbers ns a z h (passes e) = rw (e, z)
answered_by numbers ns a z h (fails k) =
    let r = every_among (refusal_of numbers) ns a.number h k in
    rw (first (among numbers a.number) (not (eqb a.number 0)) r, not-true (eqb a.number 0) (second (among numbers a.number) (not (eqb a.number 0)) r))
