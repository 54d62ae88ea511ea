-- What was written is read: one word, words, records.
use Prim.Native.Nat.{ℕ}
use mathlib.Core.Path.{◌≡◌, refl}
use mathlib.Core.Bool.{Bool, true}
use mathlib.Core.List.{List, [], ◌∷◌, ◌++◌, append_assoc}
use lib.ListN.{length}
use Rattle.word.specs.Parse.{Parsed, got, next, one, several}
use Rattle.word.specs.Lists.{flat, every}
use Rattle.word.proofs.Lists.{every_first, every_others}

pub next_got : {A B : Type 0} (p : Parsed A) (k : A → List ℕ → Parsed B) (a : A) (r : List ℕ) (b : Parsed B) → p ≡ got a r → k a r ≡ b → next p k ≡ b
next_got p k a r b e g = rw e g

pub words_got : (test : ℕ → Bool) (words rest : List ℕ) → every test words ≡ true → several (length words) (one test) (words ++ rest) ≡ got words rest
unfolding several
words_got test [] rest h = refl
words_got test (w ∷ words) rest h = rw (every_first test w words h, words_got test words rest (every_others test w words h))

pub records_got : {A : Type 0} (read : List ℕ → Parsed A) (words : A → List ℕ) (encodable : A → Bool)
    → ((a : A) (rest : List ℕ) → encodable a ≡ true → read (words a ++ rest) ≡ got a rest)
    → (all : List A) (rest : List ℕ) → every encodable all ≡ true → several (length all) read (flat words all ++ rest) ≡ got all rest
unfolding several flat
records_got read words encodable reads [] rest h = refl
records_got read words encodable reads (a ∷ others) rest h =
    rw (
      append_assoc (words a) (flat words others) rest,
      reads a (flat words others ++ rest) (every_first encodable a others h),
      records_got read words encodable reads others rest (every_others encodable a others h),
    )
