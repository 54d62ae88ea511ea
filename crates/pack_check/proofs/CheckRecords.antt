-- Laws of resources and entry points, one after the other, and of the tables that are filled on the way.
use Prim.{tt}
use Prim.Native.Nat.{ℕ, zero, suc, ◌+◌, ◌<◌, ◌≤◌}
use native.Mathlib.Omega.{arith}
use native.Mathlib.Numerals.{add-one}
use mathlib.Core.Path.{◌≡◌, refl, sym, subst, ◌∙◌}
use mathlib.Core.List.{List, [], ◌∷◌, ◌++◌, append_assoc}
use lib.Dec.{eqb}
use borrow.Author.Tests.{ne_eqb}
use lib.ListN.{get_or, length, drop, set}
use lib.Seq.{drop-cons, set_at}
use Rattle.word.specs.Choice.{pick}
use Rattle.word.specs.Words.{word_at, content_of, bits}
use Rattle.word.specs.Parse.{Parsed, got, next, one, several, from, behind}
use Rattle.word.proofs.Rests.{got_from}
use Rattle.word.proofs.Parse.{several_add, Yields, yields_next, yields_pick, first_of, others_of}
use Rattle.bindings.specs.Format.{place_well_formed, resource_word_well_formed, size_well_formed, is_buffer_word, resource_type_of, read_resource, type_code, texture, bit_set, space_at, sample_kind_at}
use Rattle.bindings.specs.declared.types.Resource.{Resource}
use Rattle.bindings.specs.declared.types.ResourceType.TheVariants as Res
use Rattle.bindings.specs.declared.types.ImageClass.TheVariants as Class
use Rattle.entry_check.specs.Inner.Walks.{listed, pair_role, pair_roles}
use Rattle.entry_check.specs.declared.role.Role.{Role}
use Rattle.entry_check.specs.declared.role.Role.TheVariants.{Other, Sampler, Texture}
use Rattle.pack_check.specs.Inner.Records.{role_of}
use Rattle.entry_check.proofs.CheckPairs.{roles_long}
use Rattle.interface.proofs.Passing.{yields_word, all_read}

-- ---- what several readers list

module _ {A : Type 0} (read : List ℕ → Parsed A) (l : List ℕ) (i : ℕ) (m : List ℕ) (e : from m ≡ behind (several i read l)) where
  pub listed_long : length (listed (several i read l)) ≡ i
  listed_long = got_from (several i read l) m (λ p. Yields (λ xs. length xs ≡ i) p → length (listed p) ≡ i) e (λ xs y. y) (all_read i read l)

  -- one more behind them
  pub listed_more : (r : List ℕ) (P : A → Type 0) (Q : List A → Type 0) → from r ≡ behind (read m) → Yields P (read m)
      → ((a : A) → P a → Q (listed (several i read l) ++ (a ∷ []))) → Q (listed (several (i + 1) read l))
  unfolding several
  listed_more r P Q f y g =
      rw (several_add i 1 read l)
      (got_from (several i read l) m
      (λ p. ((a : A) → P a → Q (listed p ++ (a ∷ []))) → Q (listed (next p λ xs rest. next (several 1 read rest) λ ys rest. got (xs ++ ys) rest))) e
      (λ xs. got_from (read m) r
      (λ p. Yields P p → ((a : A) → P a → Q (xs ++ (a ∷ [])))
      → Q (listed (next (next p λ a rest. next (several 0 read rest) λ others rest. got (a ∷ others) rest) λ ys rest. got (xs ++ ys) rest))) f
      (λ a z k. k a z) y) g)

-- ---- resources

role_code : (c w size : ℕ)
    → pair_role (pick (eqb c 0) (Res.Buffer size (space_at (bits 4 3 w) (bits 2 0 w))) (pick (eqb c 1) (Res.Sampler (bit_set 0 w))
    (pick (eqb c 2) (texture w (Class.Sampled (sample_kind_at (bits 5 4 w)) (bit_set 3 w))) (pick (eqb c 3) (texture w (Class.Depth (bit_set 3 w)))
    (pick (eqb c 4) (texture w (Class.Storage (bits 14 8 w) (bits 18 16 w))) (pick (eqb c 5) (texture w Class.External) (Res.AccelerationStructure (bit_set 0 w))))))))
    ≡ pick (eqb c 1) Sampler (pick (eqb c 2) Texture (pick (eqb c 3) Texture (pick (eqb c 5) Texture Other)))
role_code zero w size = refl
role_code (suc zero) w size = refl
role_code (suc (suc zero)) w size = refl
role_code (suc (suc (suc zero))) w size = refl
role_code (suc (suc (suc (suc zero)))) w size = refl
role_code (suc (suc (suc (suc (suc zero))))) w size = refl
role_code (suc (suc (suc (suc (suc (suc c)))))) w size =
    let m = suc (suc (suc (suc (suc (suc c))))) in
    rw (
      ne_eqb m 0 (λ e. omega arith),
      ne_eqb m 1 (λ e. omega arith),
      ne_eqb m 2 (λ e. omega arith),
      ne_eqb m 3 (λ e. omega arith),
      ne_eqb m 4 (λ e. omega arith),
      ne_eqb m 5 (λ e. omega arith),
    )

role_type : (w size : ℕ) → pair_role (resource_type_of w size) ≡ role_of w
unfolding resource_type_of
role_type w size = role_code (type_code w) w size

-- the role of a resource that is read, by its second word
abbrev RoleOf : List ℕ → Resource → Type 0
RoleOf l r = pair_role r.ty ≡ role_of (get_or (drop 1 l) 0 0)

role_read : (l : List ℕ) → Yields (RoleOf l) (read_resource l)
unfolding read_resource
role_read [] = tt
role_read (p ∷ []) = yields_word (RoleOf (p ∷ [])) place_well_formed p [] _ (λ e. tt)
role_read (p ∷ t ∷ l) =
    yields_word (RoleOf (p ∷ t ∷ l)) place_well_formed p (t ∷ l) _ λ e.
    yields_word (RoleOf (p ∷ t ∷ l)) resource_word_well_formed t l _ λ f.
    yields_pick (RoleOf (p ∷ t ∷ l)) (is_buffer_word t) _ _
    (yields_next (RoleOf (p ∷ t ∷ l)) (one size_well_formed l) _ (λ size rest. role_type t (content_of size)))
    (role_type t 0)

roles_append : (rs : List Resource) (r : Resource) → pair_roles (rs ++ (r ∷ [])) ≡ pair_roles rs ++ (pair_role r.ty ∷ [])
unfolding pair_roles
roles_append [] r = refl
roles_append (s ∷ rs) r = rw (roles_append rs r)

pub roles_begin : (l : List ℕ) (table : List Role) → table ≡ pair_roles (listed (several 0 read_resource l)) ++ drop 0 table
unfolding pair_roles several
roles_begin l table = refl

module _ (ws l : List ℕ) (table start : List Role) (i at r w c : ℕ) (v : Role) (m : table ≡ pair_roles (listed (several i read_resource l)) ++ drop i start)
    (e : from (drop at ws) ≡ behind (several i read_resource l)) (f : from (drop r ws) ≡ behind (read_resource (drop at ws)))
    (g : w ≡ word_at ws (at + 1)) (k : v ≡ role_of w) (q : i < c) (u : c ≤ 128) (s : length start ≡ 128) where
  role_here : Yields (λ r. pair_role r.ty ≡ v) (read_resource (drop at ws))
  role_here =
      let x : role_of (get_or (drop 1 (drop at ws)) 0 0) ≡ v = rw (others_of ws at, first_of ws (at + 1), ← g) (sym k) in
      subst (λ (y : Role). Yields (λ r. pair_role r.ty ≡ y) (read_resource (drop at ws))) x (role_read (drop at ws))

  pub roles_go : set table i v ≡ pair_roles (listed (several (i + 1) read_resource l)) ++ drop (i + 1) start
  roles_go =
      listed_more read_resource l i (drop at ws) e (drop r ws) (λ a. pair_role a.ty ≡ v) (λ xs. set table i v ≡ pair_roles xs ++ drop (i + 1) start) f role_here
      (λ a y. rw (m, drop-cons start i Other (omega arith), roles_append, y, add-one i)
      (set_at (pair_roles (listed (several i read_resource l))) (get_or start i Other) (drop (suc i) start) v i (roles_long (listed (several i read_resource l)) ∙ listed_long read_resource l i (drop at ws) e)
      ∙ sym (append_assoc (pair_roles (listed (several i read_resource l))) (v ∷ []) (drop (suc i) start))))
