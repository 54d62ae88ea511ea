-- The walk over varyings joined to their readers.
use Rattle.std.proofs.Common.{◌≡◌, ℕ, zero, suc, ◌+◌, ◌-◌, ◌<◌, ◌≤◌, Bool, true, false, ◌&&◌, eqb, ltb, leb, List, [], ◌∷◌, sym, refl, ◌∙◌, zero-add, one-add, arith, ltb-false, ltb-true, le-ltb, lt-ltb}
use mathlib.Core.Bool.{and-false}
use lib.Dec.{leb-suc-suc}
use borrow.Author.Tests.{lt-leb}
use Rattle.word.specs.Choice.{pick}
use Rattle.word.specs.Words.{kind_of, bits}
use Rattle.word.specs.Parse.{Parsed, fault, got, next, one, several, nowhere, behind}
use Rattle.word.proofs.Parse.{Yields}
use Rattle.varying.specs.Format.{location_well_formed, var_well_formed}
use Rattle.interface.specs.Format.{built_in_well_formed, built_in_of, read_varying, local, is_clip, clips}
use Rattle.entry_check.specs.Inner.Walks.{thence, varyings_behind}
use Rattle.entry_check.proofs.CheckVaryings.{Below, below, other_code, code_clip}
use Rattle.interface.specs.declared.types.BuiltIn.TheVariants as In
use Rattle.interface.specs.declared.types.Varying.{Varying}
use Rattle.interface.specs.declared.types.Varying.TheVariants as Var
use Rattle.entry_check.proofs.CheckCases.{by_test, cons_behind, same_behind}

-- ---- inputs, where no clip distances stand

input_step_lem : (n : ℕ) (p : Parsed Varying) → Yields (Below 4) p → ((l : List ℕ) → varyings_behind n 4 l ≡ behind (several n (read_varying 4) l))
    → thence p (λ v rest. varyings_behind n (4 - is_clip v) rest) ≡ behind (next p λ v rest. next (several n (read_varying 4) rest) λ others rest. got (v ∷ others) rest)
input_step_lem n fault y more = refl
input_step_lem n (got v rest) y more =
    let x : is_clip v ≡ 0 = omega (arith, y) in
    rw x (more rest ∙ sym (cons_behind v (several n (read_varying 4) rest)))

pub inputs_walk : (n : ℕ) (l : List ℕ) → varyings_behind n 4 l ≡ behind (several n (read_varying 4) l)
unfolding varyings_behind several
inputs_walk zero l = refl
inputs_walk (suc n) l = input_step_lem n (read_varying 4 l) (below 4 l (omega arith)) (inputs_walk n)

-- ---- outputs, among which they stand at most once

clip_either : (P : ℕ → Type 0) (v : Varying) → P 0 → P 1 → P (is_clip v)
clip_either P (Var.Local location iv) z o = z
clip_either P (Var.BuiltIn (In.Other slots)) z o = z
clip_either P (Var.BuiltIn (In.PrimitiveIndex slots)) z o = z
clip_either P (Var.BuiltIn (In.DrawIndex slots)) z o = z
clip_either P (Var.BuiltIn (In.FragDepth slots)) z o = z
clip_either P (Var.BuiltIn (In.ClipDistances size)) z o = o

abbrev unclipped : Parsed Varying → Parsed Varying
unclipped p = next p λ v rest. pick (eqb (is_clip v) 0) (got v rest) fault

-- below the code 4 all is read but clip distances
below_4 : (l : List ℕ) → read_varying 4 l ≡ unclipped (read_varying 5 l)
unfolding read_varying
below_4 [] = refl
below_4 (w ∷ l) =
    by_test (location_well_formed w)
    (λ t. pick t (next (one var_well_formed l) λ var rest. got (local w var) rest) (pick (built_in_well_formed 4 w) (got (Var.BuiltIn (built_in_of w)) l) fault)
    ≡ unclipped (pick t (next (one var_well_formed l) λ var rest. got (local w var) rest) (pick (built_in_well_formed 5 w) (got (Var.BuiltIn (built_in_of w)) l) fault)))
    (λ e. locals (one var_well_formed l))
    (λ e. by_test (ltb (bits 26 24 w) 4) (λ t. pick (built_in_well_formed 4 w) (got (Var.BuiltIn (built_in_of w)) l) fault ≡ unclipped (pick (built_in_well_formed 5 w) (got (Var.BuiltIn (built_in_of w)) l) fault))
    (λ f. let h : bits 26 24 w < 4 = ltb-true (bits 26 24 w) 4 f in
    rw (lt-ltb (bits 26 24 w) 4 h, lt-ltb (bits 26 24 w) 5 (omega arith)) (small (eqb (kind_of w) 14 && eqb (bits 23 8 w) 0) h))
    (λ f. let h : 4 ≤ bits 26 24 w = ltb-false (bits 26 24 w) 4 f in
    rw (le-ltb (bits 26 24 w) 4 h, and-false (eqb (kind_of w) 14)) (large (built_in_well_formed 5 w) h)))
  where
    locals : (p : Parsed ℕ) → next p (λ var rest. got (local w var) rest) ≡ unclipped (next p λ var rest. got (local w var) rest)
    locals fault = refl
    locals (got var rest) = refl

    small : (t : Bool) → bits 26 24 w < 4 → pick t (got (Var.BuiltIn (built_in_of w)) l) fault ≡ unclipped (pick t (got (Var.BuiltIn (built_in_of w)) l) fault)
    small true h = rw (other_code (bits 26 24 w) (bits 7 0 w) h)
    small false h = refl

    large : (t : Bool) → 4 ≤ bits 26 24 w → fault ≡ unclipped (pick t (got (Var.BuiltIn (built_in_of w)) l) fault)
    large true h = rw (code_clip w h)
    large false h = refl

abbrev at_most : ℕ → Parsed (List Varying) → Parsed (List Varying)
at_most m p = next p λ o rest. pick (leb (clips o) m) (got o rest) fault

abbrev more : ℕ → Parsed Varying → Parsed (List Varying)
more n p = next p λ v rest. next (several n (read_varying 5) rest) λ others rest. got (v ∷ others) rest

-- one varying before the others
one_before : (q : Parsed (List Varying)) (v : Varying) (a b : ℕ) → ((o : List Varying) → leb (clips o) a ≡ leb (is_clip v + clips o) b)
    → behind (at_most a q) ≡ behind (at_most b (next q λ others rest. got (v ∷ others) rest))
unfolding clips
one_before fault v a b h = refl
one_before (got o rest) v a b h = rw (h o) (same_behind (leb (is_clip v + clips o) b) o (v ∷ o) rest)

one_too_many : (q : Parsed (List Varying)) (v : Varying) → is_clip v ≡ 1 → nowhere ≡ behind (at_most 0 (next q λ others rest. got (v ∷ others) rest))
unfolding clips
one_too_many fault v e = refl
one_too_many (got o rest) v e = rw (e, lt-leb (1 + clips o) 0 (omega arith))

-- none yet, and one
module _ (n : ℕ) (none : (l : List ℕ) → varyings_behind n 4 l ≡ behind (at_most 0 (several n (read_varying 5) l)))
    (once : (l : List ℕ) → varyings_behind n 5 l ≡ behind (at_most 1 (several n (read_varying 5) l))) where
  output_none : (p : Parsed Varying) → thence (unclipped p) (λ v rest. varyings_behind n (4 - is_clip v) rest) ≡ behind (at_most 0 (more n p))
  output_none fault = refl
  output_none (got v rest) =
      clip_either (λ c. is_clip v ≡ c → thence (unclipped (got v rest)) (λ v rest. varyings_behind n (4 - is_clip v) rest) ≡ behind (at_most 0 (more n (got v rest)))) v
      (λ e. rw (e, e) (none rest ∙ one_before (several n (read_varying 5) rest) v 0 0 (λ o. rw (e, zero-add))))
      (λ e. rw e (one_too_many (several n (read_varying 5) rest) v e)) refl

  output_once : (p : Parsed Varying) → thence p (λ v rest. varyings_behind n (5 - is_clip v) rest) ≡ behind (at_most 1 (more n p))
  output_once fault = refl
  output_once (got v rest) =
      clip_either (λ c. is_clip v ≡ c → varyings_behind n (5 - is_clip v) rest ≡ behind (at_most 1 (more n (got v rest)))) v
      (λ e. rw e (once rest ∙ one_before (several n (read_varying 5) rest) v 1 1 (λ o. rw (e, zero-add))))
      (λ e. rw e (none rest ∙ one_before (several n (read_varying 5) rest) v 0 1 (λ o. rw (e, one-add, leb-suc-suc (clips o) 0)))) refl

both_walks : (n : ℕ) → ((l : List ℕ) → varyings_behind n 4 l ≡ behind (at_most 0 (several n (read_varying 5) l)))
    × ((l : List ℕ) → varyings_behind n 5 l ≡ behind (at_most 1 (several n (read_varying 5) l)))
unfolding varyings_behind several clips
both_walks zero = (λ l. refl, λ l. refl)
both_walks (suc n) = (
  λ l. rw (below_4 l) (output_none n (both_walks n).0 (both_walks n).1 (read_varying 5 l)),
  λ l. output_once n (both_walks n).0 (both_walks n).1 (read_varying 5 l),
)

pub outputs_walk : (n : ℕ) (l : List ℕ) → varyings_behind n 5 l ≡ behind (next (several n (read_varying 5) l) λ o rest. pick (leb (clips o) 1) (got o rest) fault)
outputs_walk n l = (both_walks n).1 l
