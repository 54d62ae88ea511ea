-- Types by their numbers: earlier ones stay as they are when more are read.
use Prim.Native.Nat.{ℕ, zero, suc, ◌+◌, ◌<◌}
use native.Mathlib.Omega.{arith}
use native.Mathlib.Nat.{add-zero, zero-add, suc-add}
use mathlib.Core.Path.{◌≡◌, refl, sym, ◌∙◌}
use mathlib.Core.List.{List, ◌∷◌}
use borrow.Author.Tests.{eq-eqb, ne_eqb}
use lib.ListN.{length}
use Rattle.word.specs.Parse.{Parsed, fault, got, next}
use Rattle.word.proofs.ParseReads.{next_then}
use Rattle.type_lists.specs.Meaning.{TypeInner, type_numbered, by_number}
use Rattle.type_lists.specs.Format.{read_type, read_types}

module _ (t : TypeInner) (earlier : List TypeInner) where
  pub numbered_last : type_numbered (t ∷ earlier) (length earlier) ≡ t
  unfolding type_numbered
  numbered_last = rw (eq-eqb (length earlier) (length earlier) refl)

  pub numbered_earlier : (n : ℕ) → n < length earlier → type_numbered (t ∷ earlier) n ≡ type_numbered earlier n
  unfolding type_numbered
  numbered_earlier n h = rw (ne_eqb n (length earlier) (λ z. omega arith))

  module _ {A : Type 0} (of_type : (ℕ → A) → TypeInner → A) (none : A) where
    pub by_last : by_number of_type none (t ∷ earlier) (length earlier) ≡ of_type (by_number of_type none earlier) t
    unfolding by_number
    by_last = rw (eq-eqb (length earlier) (length earlier) refl)

    pub by_earlier : (n : ℕ) → n < length earlier → by_number of_type none (t ∷ earlier) n ≡ by_number of_type none earlier n
    unfolding by_number
    by_earlier n h = rw (ne_eqb n (length earlier) (λ z. omega arith))

-- ---- lists of types

-- some types, and then some more
pub types_add : (i m : ℕ) (earlier : List TypeInner) (ws : List ℕ) → read_types (i + m) earlier ws ≡ next (read_types i earlier ws) λ types rest. read_types m types rest
unfolding read_types
types_add zero m earlier ws = rw zero-add
types_add (suc i) m earlier ws = rw suc-add (over (read_type earlier ws) (λ t rest. types_add i m (t ∷ earlier) rest))
  where
    over : (p : Parsed TypeInner)
        → ((t : TypeInner) (rest : List ℕ) → read_types (i + m) (t ∷ earlier) rest ≡ next (read_types i (t ∷ earlier) rest) λ types rest. read_types m types rest)
        → (next p λ t rest. read_types (i + m) (t ∷ earlier) rest) ≡ (next (next p λ t rest. read_types i (t ∷ earlier) rest) λ types rest. read_types m types rest)
    over fault f = refl
    over (got t rest) f = f t rest

-- one type more
pub types_one : (i : ℕ) (earlier : List TypeInner) (ws : List ℕ) → read_types (i + 1) earlier ws
    ≡ next (read_types i earlier ws) λ types rest. next (read_type types rest) λ t rest. got (t ∷ types) rest
unfolding read_types
types_one i earlier ws = types_add i 1 earlier ws

pub types_length : (n : ℕ) (earlier : List TypeInner) (ws : List ℕ) (types : List TypeInner) (rest : List ℕ) → read_types n earlier ws ≡ got types rest
    → length types ≡ length earlier + n
unfolding read_types
types_length zero earlier ws types rest e = let m : earlier ≡ types = cc in rw (← m) (sym (add-zero (length earlier)))
types_length (suc n) earlier ws types rest e =
    next_then (read_type earlier ws) _ types rest e λ t r f g.
    types_length n (t ∷ earlier) r types rest g ∙ omega arith
