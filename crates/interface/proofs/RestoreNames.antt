-- A name that was read, written again, is what stood there.
use Prim.Native.Nat.{ℕ, zero, suc, ◌+◌, ◌*◌, ◌^◌}
use native.Mathlib.Omega.{arith}
use mathlib.Core.Path.{◌≡◌, refl, sym}
use mathlib.Core.Bool.{true}
use mathlib.Core.List.{List, [], ◌∷◌, ◌++◌}
use borrow.Author.Tests.{eqb-true, ltb-true}
use lib.Dec.{eqb}
use lib.ListN.{length, take, drop}
use lib.Seq.{length-take-le}
use Rattle.word.specs.Words.{bits, is_word}
use Rattle.word.specs.Parse.{got, one}
use Rattle.word.specs.Lists.{flat, every}
use Rattle.word.proofs.Truth.{second}
use Rattle.word.proofs.Lists.{first_passes, rest_passes, every_first, every_others, every_any, every_before}
use Rattle.word.proofs.ParseReads.{picked}
use Rattle.bindings.proofs.EntryFormat.{field}
use Rattle.interface.specs.Format.{bytes_of, no_zero, all_zero, name_words, name_well_formed, read_name, pack_name}
use Rattle.interface.proofs.EncodeNames.{bytes_long}
use Rattle.interface.proofs.RestoreRecords.{got_as, one_restores, several_then}

-- bytes that are all zero: the first, and the others
module _ (b : ℕ) (bs : List ℕ) (h : all_zero (b ∷ bs) ≡ true) where
  zero_first : b ≡ 0
  unfolding all_zero
  zero_first = eqb-true b 0 (first_passes (eqb b 0) (all_zero bs) h)

  zero_others : all_zero bs ≡ true
  unfolding all_zero
  zero_others = rest_passes (eqb b 0) (all_zero bs) h

-- a list of length 0
none : (ws : List ℕ) → length ws ≡ 0 → ws ≡ []
none [] e = refl
none (w ∷ ws) e = absurd (omega arith)

-- a word that 32 bits hold is its four bytes
four : (w : ℕ) (ws : List ℕ) → every is_word (w ∷ ws) ≡ true → bits 7 0 w + 2 ^ 8 * bits 15 8 w + 2 ^ 16 * bits 23 16 w + 2 ^ 24 * bits 31 24 w ≡ w
four w ws h = omega (arith, ltb-true w (2 ^ 32) (every_first is_word w ws h), field w (2 ^ 8) (2 ^ 8), field w (2 ^ 16) (2 ^ 8))

-- as many words as a name takes, with nothing but zeros behind the name, are the words of the name
packed_back : (n : ℕ) (ws : List ℕ) → every is_word ws ≡ true → length ws ≡ name_words n → all_zero (drop n (bytes_of ws)) ≡ true → pack_name (take n (bytes_of ws)) ≡ ws
unfolding pack_name bytes_of
packed_back zero ws h l z = sym (none ws l)
packed_back (suc n) [] h l z = absurd (omega arith)
packed_back (suc zero) (w ∷ ws) h l z =
    let y = zero_others _ _ z in
    let q : bits 7 0 w ≡ w = omega (arith, four w ws h, zero_first _ _ z, zero_first _ _ y, zero_first _ _ (zero_others _ _ y)) in
    rw (q, none ws (omega arith))
packed_back (suc (suc zero)) (w ∷ ws) h l z =
    let q : bits 7 0 w + 2 ^ 8 * bits 15 8 w ≡ w = omega (arith, four w ws h, zero_first _ _ z, zero_first _ _ (zero_others _ _ z)) in
    rw (q, none ws (omega arith))
packed_back (suc (suc (suc zero))) (w ∷ ws) h l z =
    let q : bits 7 0 w + 2 ^ 8 * bits 15 8 w + 2 ^ 16 * bits 23 16 w ≡ w = omega (arith, four w ws h, zero_first _ _ z) in
    rw (q, none ws (omega arith))
packed_back (suc (suc (suc (suc n)))) (w ∷ ws) h l z = rw (four w ws h, packed_back n ws (every_others is_word w ws h) (omega arith) z)

-- words are written as themselves
abbrev self : ℕ → List ℕ
self w = w ∷ []

flat_self : (ws : List ℕ) → flat self ws ≡ ws
unfolding flat
flat_self [] = refl
flat_self (w ∷ ws) = rw (flat_self ws)

-- a name that was read has as many bytes as were asked for, and stood before the words behind
pub name_back : (n : ℕ) (ws name rest : List ℕ) → every is_word ws ≡ true → read_name n ws ≡ got name rest → (length name ≡ n) × (ws ≡ pack_name name ++ rest)
unfolding read_name
name_back n ws name rest h e =
    several_then (λ w. true) self (one (λ w. true)) (one_restores (λ w. true) self (λ w t. refl)) (name_words n) ws _ name rest (every_any ws) e λ words behind l q g.
    let (f, m) = picked (name_well_formed n (bytes_of words)) (got (take n (bytes_of words)) behind) name rest g in
    let s : ws ≡ words ++ behind = rw (flat_self words) at q in
    got_as (λ name rest. (length name ≡ n) × (ws ≡ pack_name name ++ rest)) (take n (bytes_of words)) name behind rest m (
      length-take-le n (bytes_of words) (omega (arith, bytes_long words)),
      rw (packed_back n words (every_before is_word words behind (rw s at h)) l (second (no_zero (take n (bytes_of words))) (all_zero (drop n (bytes_of words))) f)) s,
    )
