-- Laws of the table of listed resources, and of pairs told by it.
use Rattle.std.proofs.Common.{◌≡◌, ℕ, zero, suc, ◌+◌, ◌-◌, ◌<◌, ◌≤◌, Bool, true, false, ◌&&◌, eqb, Some, None, List, [], ◌∷◌, ◌++◌, length, get_or, take, drop, set, replicate, sym, refl, ap, ◌∙◌, subst, add-one, arith, length-set, get_or-drop, get_or-set_other, take-suc, take_all, get_or-set_same, get_or-append-add}
use Rattle.std.specs.Bool.{then_some}
use mathlib.Core.Path.{fun_ext}
use lib.ListN.{get_or-eq_default, get_or-append}
use Rattle.word.specs.Choice.{pick}
use Rattle.word.specs.Words.{content_of, bits}
use Rattle.word.specs.Parse.{one, several, Rest, nowhere, from, behind}
use Rattle.word.specs.Lists.{among}
use Rattle.interface.specs.Format.{of_word, index_well_formed, contents, is_texture, is_sampler, of_type, pair_well_formed}
use Rattle.entry_check.proofs.CheckSteps.{Part, step_stop, steps}
use Rattle.entry_check.specs.Inner.Walks.{roles_of, pair_role, pair_roles, role_table, texture_role, sampler_role, pair_by_roles, varying_lists_behind, lists_behind}
use Rattle.entry_check.specs.declared.role.Role.{Role}
use Rattle.entry_check.specs.declared.role.Role.TheVariants.{Other}
use Rattle.bindings.specs.declared.types.Resource.{Resource}
use Rattle.bindings.specs.declared.types.ResourceType.{ResourceType}
use Rattle.bindings.specs.declared.types.ResourceType.TheVariants as Res
use Rattle.bindings.specs.declared.types.ImageClass.TheVariants as Class
use Rattle.entry_check.proofs.CheckCases.{decided, split_at}

contents_append : (xs : List ℕ) (w : ℕ) → contents (xs ++ (w ∷ [])) ≡ contents xs ++ (content_of w ∷ [])
unfolding contents
contents_append [] w = refl
contents_append (x ∷ xs) w = rw (contents_append xs w)

marked_append : (roles : List Role) (is : List ℕ) (j : ℕ) (table : List Role) → roles_of roles (is ++ (j ∷ [])) table ≡ set (roles_of roles is table) j (get_or roles j Other)
unfolding roles_of
marked_append roles [] j table = refl
marked_append roles (i ∷ is) j table = marked_append roles is j (set table i (get_or roles i Other))

pub marks_begin : (roles : List Role) (words : List ℕ) (table : List Role) → table ≡ roles_of roles (contents (take 0 words)) table
unfolding roles_of contents
marks_begin roles words table = refl

-- what is there where a test holds, as the index of a word that holds one
pub not_held : (t : Bool) (i : ℕ) → None ≡ then_some t i → t ≡ false
not_held true i e = cc
not_held false i e = refl

pub held : (t : Bool) (i v : ℕ) → Some v ≡ then_some t i → t ≡ true
held true i v e = refl
held false i v e = cc

held_is : (t : Bool) (i v : ℕ) → Some v ≡ then_some t i → i ≡ v
held_is true i v e = cc
held_is false i v e = cc

pub marks_go : (count w v : ℕ) (words : List ℕ) (roles table start : List Role) (i : ℕ) → Some v ≡ then_some (index_well_formed count w) (content_of w)
    → table ≡ roles_of roles (contents (take i words)) start → i < length words
    → w ≡ get_or words i 0 → set table v (get_or roles v Other) ≡ roles_of roles (contents (take (i + 1) words)) start
marks_go count w v words roles table start i e m k g =
    sym (rw (add-one i, take-suc words i 0 k, ← g, contents_append, marked_append, held_is (index_well_formed count w) (content_of w) v e, ← m))

pub marks_end : (ws words : List ℕ) (roles table start : List Role) (at n i : ℕ) → table ≡ roles_of roles (contents (take i words)) start → length words ≤ i
    → Part ws words at (at + n) → table ≡ roles_of roles (contents (take n (drop at ws))) start
marks_end ws words roles table start at n i m h (o, q, f, l) =
    let z : at + n - at ≡ n = omega arith in
    rw (← z, ← f, ← take_all i words h) m

-- ---- what the table tells of a pair

marked_long : (roles : List Role) (is : List ℕ) (table : List Role) → length (roles_of roles is table) ≡ length table
unfolding roles_of
marked_long roles [] table = refl
marked_long roles (i ∷ is) table = marked_long roles is (set table i (get_or roles i Other)) ∙ simp length-set

picked_same : {A : Type 0} (t : Bool) (a : A) → pick t a a ≡ a
picked_same true a = refl
picked_same false a = refl

marked_at : (roles : List Role) (is : List ℕ) (table : List Role) (j : ℕ) → j < length table
    → get_or (roles_of roles is table) j Other ≡ pick (among is j) (get_or roles j Other) (get_or table j Other)
unfolding roles_of among
marked_at roles [] table j h = refl
marked_at roles (i ∷ is) table j h =
    marked_at roles is (set table i (get_or roles i Other)) j (simp length-set h)
    ∙ decided j i (λ t. pick (among is j) (get_or roles j Other) (get_or (set table i (get_or roles i Other)) j Other) ≡ pick (pick t true (among is j)) (get_or roles j Other) (get_or table j Other))
    (λ e. rw (← e, get_or-set_same table j (get_or roles j Other) Other h) (picked_same (among is j) (get_or roles j Other)))
    (λ n. rw (get_or-set_other table i j (get_or roles i Other) Other n))

-- ---- roles

role_texture : (ty : ResourceType) → is_texture ty ≡ texture_role (pair_role ty)
role_texture (Res.Buffer size space) = refl
role_texture (Res.Sampler comparison) = refl
role_texture (Res.Texture dim arrayed (Class.Sampled kind multi)) = refl
role_texture (Res.Texture dim arrayed (Class.Depth multi)) = refl
role_texture (Res.Texture dim arrayed (Class.Storage format access)) = refl
role_texture (Res.Texture dim arrayed Class.External) = refl
role_texture (Res.AccelerationStructure returns) = refl

role_sampler : (ty : ResourceType) → is_sampler ty ≡ sampler_role (pair_role ty)
role_sampler (Res.Buffer size space) = refl
role_sampler (Res.Sampler comparison) = refl
role_sampler (Res.Texture dim arrayed (Class.Sampled kind multi)) = refl
role_sampler (Res.Texture dim arrayed (Class.Depth multi)) = refl
role_sampler (Res.Texture dim arrayed (Class.Storage format access)) = refl
role_sampler (Res.Texture dim arrayed Class.External) = refl
role_sampler (Res.AccelerationStructure returns) = refl

role_of_lem : (test : ResourceType → Bool) (is : Role → Bool) → is Other ≡ false → ((ty : ResourceType) → test ty ≡ is (pair_role ty))
    → (rs : List Resource) (i : ℕ) → of_type test rs i ≡ is (get_or (pair_roles rs) i Other)
unfolding of_type pair_roles
role_of_lem test is z e [] i = sym z
role_of_lem test is z e (r ∷ rs) zero = e r.ty
role_of_lem test is z e (r ∷ rs) (suc i) = role_of_lem test is z e rs i

pub roles_long : (rs : List Resource) → length (pair_roles rs) ≡ length rs
unfolding pair_roles
roles_long [] = refl
roles_long (r ∷ rs) = ap suc (roles_long rs)

-- the table has no role behind theirs
others_at : (n i : ℕ) → get_or (replicate n Other) i Other ≡ Other
others_at zero i = refl
others_at (suc n) zero = refl
others_at (suc n) (suc i) = others_at n i

past_at : (rs : List Resource) (k : ℕ) → get_or (pair_roles rs ++ drop (length rs) (replicate 128 Other)) (length (pair_roles rs) + k) Other ≡ Other
past_at rs k =
    get_or-append-add (pair_roles rs) (drop (length rs) (replicate 128 Other)) k Other ∙ get_or-drop (length rs) (replicate 128 Other) k Other
    ∙ others_at 128 (length rs + k)

table_at : (rs : List Resource) (i : ℕ) → get_or (role_table rs) i Other ≡ get_or (pair_roles rs) i Other
unfolding role_table
table_at rs i =
    split_at (length (pair_roles rs)) i (get_or (pair_roles rs ++ drop (length rs) (replicate 128 Other)) i Other ≡ get_or (pair_roles rs) i Other)
    (λ h. let x : i ≡ length (pair_roles rs) + (i - length (pair_roles rs)) = omega arith in
    subst (λ (j : ℕ). get_or (pair_roles rs ++ drop (length rs) (replicate 128 Other)) j Other ≡ get_or (pair_roles rs) i Other) (sym x)
    (past_at rs (i - length (pair_roles rs)) ∙ sym (get_or-eq_default (pair_roles rs) Other h)))
    (λ h. get_or-append (pair_roles rs) (drop (length rs) (replicate 128 Other)) Other i h)

-- ---- pairs, told by the table of listed resources

module _ (rs : List Resource) (listed : List ℕ) (h : length rs ≤ 128) where
  abbrev table : List Role
  table = roles_of (role_table rs) listed (replicate 128 Other)

  told_at : (i : ℕ) → get_or table i Other ≡ pick (among listed i) (get_or (pair_roles rs) i Other) Other
  told_at i =
      split_at 128 i (get_or table i Other ≡ pick (among listed i) (get_or (pair_roles rs) i Other) Other)
      (λ k. let x : length table ≤ i = omega (arith, marked_long (role_table rs) listed (replicate 128 Other)) in
      let y : length (pair_roles rs) ≤ i = omega (arith, roles_long rs) in
      get_or-eq_default table Other x ∙ sym (rw (get_or-eq_default (pair_roles rs) Other y) (picked_same (among listed i) Other)))
      (λ k. marked_at (role_table rs) listed (replicate 128 Other) i k ∙ rw (table_at rs i, others_at 128 i))

  told : (test : ResourceType → Bool) (is : Role → Bool) (i : ℕ) → is Other ≡ false → ((ty : ResourceType) → test ty ≡ is (pair_role ty))
      → is (get_or table i Other) ≡ (among listed i && of_type test rs i)
  told test is i z e = rw (told_at i, role_of_lem test is z e rs i) (picked (among listed i))
    where
      picked : (t : Bool) → is (pick t (get_or (pair_roles rs) i Other) Other) ≡ (t && is (get_or (pair_roles rs) i Other))
      picked true = refl
      picked false = z

  pair_told : (w : ℕ) → pair_by_roles table w ≡ pair_well_formed rs listed w
  pair_told w =
      rw (told is_texture texture_role (bits 15 8 w) refl role_texture, told is_sampler sampler_role (bits 7 0 w) refl role_sampler)
      (ap (λ t. of_word 5 w && (eqb (bits 26 16 w) 0 && t))
      (joined (among listed (bits 15 8 w)) (of_type is_texture rs (bits 15 8 w)) (among listed (bits 7 0 w) && of_type is_sampler rs (bits 7 0 w))))
    where
      joined : (a b c : Bool) → ((a && b) && c) ≡ (a && (b && c))
      joined true b c = refl
      joined false b c = refl

  pub pairs_told : (n : ℕ) (l : List ℕ) → several n (one (pair_by_roles table)) l ≡ several n (one (pair_well_formed rs listed)) l
  pairs_told n l = ap (λ test. several n (one test) l) (fun_ext pair_told)

-- the code's ways through the lists of an entry point
module _ (ws : List ℕ) (rs : List Resource) (counts count at : ℕ) (k : length rs ≡ count) where
  pub lists_stop : nowhere ≡ behind (several (bits 23 18 counts) (one (index_well_formed count)) (drop at ws)) → nowhere ≡ lists_behind rs counts (drop at ws)
  unfolding lists_behind
  lists_stop e = rw k (search (step_stop, e))

  module _ (p : ℕ) (e : from (drop p ws) ≡ behind (several (bits 23 18 counts) (one (index_well_formed count)) (drop at ws))) (roles marks : List Role)
      (h : count ≤ 128) (r : roles ≡ role_table rs) (m : marks ≡ roles_of roles (contents (take (bits 23 18 counts) (drop at ws))) (replicate 128 Other)) where
    pairs_here : (x : Rest) → x ≡ behind (several (bits 17 12 counts) (one (pair_by_roles marks)) (drop p ws))
        → x ≡ behind (several (bits 17 12 counts) (one (pair_well_formed rs (contents (take (bits 23 18 counts) (drop at ws))))) (drop p ws))
    pairs_here x f =
        f ∙ rw (m, r)
        (ap behind (pairs_told rs (contents (take (bits 23 18 counts) (drop at ws))) (omega arith) (bits 17 12 counts) (drop p ws)))

    pub pairs_stop : nowhere ≡ behind (several (bits 17 12 counts) (one (pair_by_roles marks)) (drop p ws)) → nowhere ≡ lists_behind rs counts (drop at ws)
    unfolding lists_behind
    pairs_stop f = rw k (search (steps, e, pairs_here nowhere f))

    pub lists_go : (x : Rest) (q : ℕ) → from (drop q ws) ≡ behind (several (bits 17 12 counts) (one (pair_by_roles marks)) (drop p ws))
        → x ≡ varying_lists_behind counts (drop q ws) → x ≡ lists_behind rs counts (drop at ws)
    unfolding lists_behind
    lists_go x q f g = rw k (search (steps, e, pairs_here (from (drop q ws)) f, g))
