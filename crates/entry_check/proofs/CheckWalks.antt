-- The walk over an entry point joined to its reader.
use Prim.{tt}
use Rattle.std.proofs.Common.{◌≡◌, ℕ, zero, suc, Bool, true, false, not, eqb, leb, List, [], ◌∷◌, length, take, drop, sym, refl, ◌∙◌}
use borrow.Author.Tests.{not-true, not-false}
use Rattle.word.specs.Choice.{pick}
use Rattle.word.specs.Words.{bits, bit}
use Rattle.word.specs.Parse.{Parsed, fault, got, next, one, several, Rest, nowhere, from, behind}
use Rattle.word.proofs.Parse.{Yields}
use Rattle.bindings.specs.declared.types.Resource.{Resource}
use Rattle.varying.specs.Format.{payload_well_formed}
use Rattle.interface.specs.Format.{of_word, topology_well_formed, read_varying, clips, read_name, head_well_formed, read_workgroup, read_mesh, counts_well_formed, index_well_formed, contents, pair_well_formed, read_entry_point}
use Rattle.entry_check.specs.Inner.Walks.{onward, word, lists_behind, parts_behind, entry_behind}
use Rattle.entry_check.proofs.CheckOutputs.{inputs_walk, outputs_walk}
use Rattle.interface.specs.declared.types.Varying.{Varying}
use Rattle.interface.proofs.Passing.{yields_word}
use Rattle.entry_check.proofs.CheckCases.{same_behind, cons_behind, yields_cons}

-- ---- a reader's next step, what it read forgotten

pub on_word : {B : Type 0} (test : ℕ → Bool) (l : List ℕ) (k : ℕ → List ℕ → Parsed B) (h : ℕ → List ℕ → Rest)
    → ((w : ℕ) (rest : List ℕ) → behind (k w rest) ≡ h w rest) → behind (next (one test l) k) ≡ word test l h
on_word test [] k h f = refl
on_word test (w ∷ l) k h f = tested (test w)
  where
    tested : (t : Bool) → behind (next (pick t (got w l) fault) k) ≡ pick t (h w l) nowhere
    tested true = f w l
    tested false = refl

pub on_step : {A B : Type 0} (p : Parsed A) (k : A → List ℕ → Parsed B) (h : List ℕ → Rest)
    → ((a : A) (rest : List ℕ) → behind (k a rest) ≡ h rest) → behind (next p k) ≡ onward (behind p) h
on_step fault k h f = refl
on_step (got a rest) k h f = f a rest

-- ---- several words of a kind, and the records that are made of them

first_onward : {A : Type 0} (p : Parsed A) (q : List ℕ → Parsed (List A)) (k : List ℕ → Rest)
    → onward (behind (next p λ a rest. next (q rest) λ others rest. got (a ∷ others) rest)) k ≡ onward (behind p) λ rest. onward (behind (q rest)) k
first_onward fault q k = refl
first_onward (got a rest) q k = rw (cons_behind a (q rest))

several_onward : {A : Type 0} (n : ℕ) (read : List ℕ → Parsed A) (l : List ℕ) (k : List ℕ → Rest)
    → onward (behind (several (suc n) read l)) k ≡ onward (behind (read l)) λ rest. onward (behind (several n read rest)) k
unfolding several
several_onward n read l k = first_onward (read l) (several n read) k

workgroup_walk : (l : List ℕ) → behind (several 3 (one (of_word 8)) l) ≡ behind (read_workgroup l)
unfolding read_workgroup several
workgroup_walk l =
    (on_step (one (of_word 8) l) _ (λ rest. onward (behind (one (of_word 8) rest)) λ rest. onward (behind (one (of_word 8) rest)) from) λ a rest.
    cons_behind a (several 2 (one (of_word 8)) rest) ∙ (on_step (one (of_word 8) rest) _ _ λ b rest.
    cons_behind b (several 1 (one (of_word 8)) rest) ∙ (on_step (one (of_word 8) rest) _ _ λ c rest. refl)))
    ∙ sym (on_step (one (of_word 8) l) _ _ λ x rest. on_step (one (of_word 8) rest) _ _ λ y rest. on_step (one (of_word 8) rest) _ _ λ z rest. refl)

pub workgroup_is : (x : Rest) (l : List ℕ) → x ≡ behind (several 3 (one (of_word 8)) l) → x ≡ behind (read_workgroup l)
workgroup_is x l e = e ∙ workgroup_walk l

mesh_walk : (l : List ℕ) → behind (read_mesh true l) ≡ onward (behind (several 2 (one (of_word 10)) l)) λ rest. word topology_well_formed rest λ topology rest. from rest
unfolding read_mesh several
mesh_walk l =
    (on_step (one (of_word 10) l) _ _ λ vertices rest. on_step (one (of_word 10) rest) _ _ λ primitives rest. on_word topology_well_formed rest _ _ λ topology rest. refl)
    ∙ sym (simp (several_onward 1 (one (of_word 10)), several_onward 0 (one (of_word 10))))

-- the code's ways: no record is marked, one is
module _ (ws : List ℕ) (at : ℕ) (m : Bool) where
  pub mesh_absent : not m ≡ true → from (drop at ws) ≡ behind (read_mesh m (drop at ws))
  unfolding read_mesh
  mesh_absent t = rw (not-true m t)

  pub mesh_present : (x : Rest) → not m ≡ false → x ≡ onward (behind (several 2 (one (of_word 10)) (drop at ws))) (λ rest. word topology_well_formed rest λ topology rest. from rest)
      → x ≡ behind (read_mesh m (drop at ws))
  mesh_present x t e = rw (not-false m t) (e ∙ sym (mesh_walk (drop at ws)))

on_known : {A B : Type 0} (P : A → Type 0) (p : Parsed A) (k : A → List ℕ → Parsed B) (h : List ℕ → Rest) → Yields P p
    → ((a : A) (rest : List ℕ) → P a → behind (k a rest) ≡ h rest) → behind (next p k) ≡ onward (behind p) h
on_known P fault k h y f = refl
on_known P (got a rest) k h y f = f a rest y

-- single words are read as they stand
pub words_taken : (test : ℕ → Bool) (n : ℕ) (l : List ℕ) → Yields (λ xs. xs ≡ take n l) (several n (one test) l)
unfolding several
words_taken test zero l = refl
words_taken test (suc n) [] = tt
words_taken test (suc n) (w ∷ l) =
    yields_word (λ xs. xs ≡ w ∷ take n l) test w l _ λ e. yields_cons w (take n l) (several n (one test) l) (words_taken test n l)

outputs_end_lem : {B : Type 0} (p : Parsed (List Varying)) (make : List Varying → B)
    → behind (next p λ o rest. pick (leb (clips o) 1) (got (make o) rest) fault) ≡ behind (next p λ o rest. pick (leb (clips o) 1) (got o rest) fault)
outputs_end_lem fault make = refl
outputs_end_lem (got o rest) make = same_behind (leb (clips o) 1) (make o) o rest

entry_walk : (rs : List Resource) (ws : List ℕ) → behind (read_entry_point rs ws) ≡ entry_behind rs ws
unfolding read_entry_point entry_behind parts_behind lists_behind
entry_walk rs ws =
    on_word head_well_formed ws _ _ λ head rest.
    on_step (read_name (bits 22 16 head) rest) _ _ λ name rest.
    on_step (read_workgroup rest) _ _ λ workgroup rest.
    on_word payload_well_formed rest _ _ λ payload rest.
    on_step (read_mesh (eqb (bit 1 head) 1) rest) _ _ λ mesh rest.
    on_word counts_well_formed rest _ _ λ counts rest.
    on_known (λ xs. xs ≡ take (bits 23 18 counts) rest) (several (bits 23 18 counts) (one (index_well_formed (length rs))) rest) _ _
    (words_taken (index_well_formed (length rs)) (bits 23 18 counts) rest) λ indexes rest e.
    rw e
    (on_step (several (bits 17 12 counts) (one (pair_well_formed rs (contents _))) rest) _ _ λ pairs rest.
    rw (inputs_walk (bits 11 6 counts) rest)
    (on_step (several (bits 11 6 counts) (read_varying 4) rest) _ _ λ inputs rest.
    rw (outputs_walk (bits 5 0 counts) rest)
    (outputs_end_lem (several (bits 5 0 counts) (read_varying 5) rest) _)))

-- the code's ways on, into an entry point and into its parts
pub entry_is : (x : Rest) (rs : List Resource) (l : List ℕ)
    → x ≡ word head_well_formed l (λ head rest. onward (behind (read_name (bits 22 16 head) rest)) λ rest. onward (behind (read_workgroup rest)) λ rest. parts_behind rs head rest)
    → x ≡ behind (read_entry_point rs l)
unfolding entry_behind
entry_is x rs l e = e ∙ sym (entry_walk rs l)

pub parts_are : (x : Rest) (rs : List Resource) (head : ℕ) (l : List ℕ)
    → x ≡ word payload_well_formed l (λ payload rest. onward (behind (read_mesh (eqb (bit 1 head) 1) rest)) λ rest. word counts_well_formed rest λ counts rest. lists_behind rs counts rest)
    → x ≡ parts_behind rs head l
unfolding parts_behind
parts_are x rs head l e = e

pub payload_zero : payload_well_formed 0 ≡ false
unfolding payload_well_formed
payload_zero = refl
