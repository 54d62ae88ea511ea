-- A varying that was read, written again, is what stood there.
use Prim.Native.Nat.{ℕ, ◌+◌, ◌*◌, ◌^◌, ◌<◌, ◌≤◌}
use native.Mathlib.Omega.{arith}
use mathlib.Core.Path.{◌≡◌}
use mathlib.Core.Bool.{true}
use mathlib.Core.List.{[], ◌∷◌, ◌++◌}
use borrow.Author.Tests.{eqb-true, eqb-false, ltb-true}
use lib.Dec.{eqb}
use Rattle.word.specs.Choice.{pick}
use Rattle.word.specs.Words.{kind_of, bits, of_kind}
use Rattle.word.specs.Parse.{got}
use Rattle.word.proofs.Truth.{first, second, by_test}
use Rattle.word.proofs.ParseReads.{picked}
use Rattle.varying.specs.Format.{location_well_formed, var_well_formed}
use Rattle.varying.proofs.Joined.{location_written, var_written}
use Rattle.interface.specs.Format.{read_varying, varying_words, built_in_of, built_in_code, built_in_well_formed, local}
use Rattle.interface.specs.declared.types.BuiltIn.TheVariants as In
use Rattle.interface.specs.declared.types.Varying.TheVariants as Var
use Rattle.interface.proofs.RestoreRecords.{Restores, got_as, one_then}

-- a built-in's code and number are written again
pub code_back : (c n : ℕ) → c < 5
    → built_in_code (pick (eqb c 0) (In.Other n) (pick (eqb c 1) (In.PrimitiveIndex n) (pick (eqb c 2) (In.DrawIndex n) (pick (eqb c 3) (In.FragDepth n) (In.ClipDistances n)))))
    ≡ 2 ^ 24 * c + n
code_back c n l =
    by_test (eqb c 0) (λ t. rw (eqb-true c 0 t) (omega arith)) λ a.
    by_test (eqb c 1) (λ t. rw (eqb-true c 1 t)) λ b.
    by_test (eqb c 2) (λ t. rw (eqb-true c 2 t)) λ d.
    by_test (eqb c 3) (λ t. rw (eqb-true c 3 t)) λ e.
    let q : c ≡ 4 = omega (arith, eqb-false c 0 a, eqb-false c 1 b, eqb-false c 2 d, eqb-false c 3 e) in rw q

-- a built-in's word is written again
built_in_back : (codes w : ℕ) → codes ≤ 5 → built_in_well_formed codes w ≡ true → of_kind 14 (built_in_code (built_in_of w)) ≡ w
built_in_back codes w few h =
    let k : kind_of w ≡ 14 = search (eqb-true, first) in
    let l : bits 26 24 w < codes = search (ltb-true, first, second) in
    let z : bits 23 8 w ≡ 0 = search (eqb-true, second) in
    rw (code_back (bits 26 24 w) (bits 7 0 w) (omega arith)) (omega arith)

-- a varying, of a location or built in
pub varying_back : (codes : ℕ) → codes ≤ 5 → Restores (λ w. true) varying_words (read_varying codes)
unfolding read_varying
varying_back codes few [] v rest h e = let z : ◌≡◌ {A = ℕ} 0 1 = cc in absurd (omega arith)
varying_back codes few (w ∷ ws) v rest h e =
    by_test (location_well_formed w)
    (λ t. one_then var_well_formed ws _ v rest (rw t at e) λ var behind f q g.
    got_as (λ v rest. w ∷ ws ≡ varying_words v ++ rest) (local w var) v behind rest g (rw (q, location_written w t, var_written var f)))
    (λ n. let (b, g) = picked (built_in_well_formed codes w) (got (Var.BuiltIn (built_in_of w)) ws) v rest (rw n at e) in
    got_as (λ v rest. w ∷ ws ≡ varying_words v ++ rest) (Var.BuiltIn (built_in_of w)) v ws rest g (rw (built_in_back codes w few b)))
