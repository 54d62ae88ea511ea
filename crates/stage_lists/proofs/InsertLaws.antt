-- A variable put into a stage list by its location, over its meaning.
use Rattle.std.proofs.Common.{Some, None}
use Prim.Native.Nat.{ℕ, zero, suc, ◌+◌, ◌*◌, ◌<◌, ◌≤◌}
use native.Mathlib.Omega.{arith}
use mathlib.Core.Path.{◌≡◌, refl, sym, ap, ◌∙◌}
use mathlib.Core.Bool.{Bool, true, false}
use mathlib.Core.List.{List, [], ◌∷◌, ◌++◌}
use lib.Dec.{eqb, ltb}
use lib.ListN.{length, get_or}
use borrow.Author.Tests.{eqb-true, eqb-false, ltb-true, ltb-false, eq-eqb, ne_eqb, lt-ltb, le-ltb}
use Rattle.word.specs.Choice.{pick}
use Rattle.word.specs.Lists.{every}
use Rattle.varying.specs.Format.{located_encodable}
use Rattle.varying.specs.declared.Located.{Located}
use Rattle.word.proofs.Truth.{by_test}
use Rattle.stage_lists.specs.Meaning.{StageIo, rising, varying_at, is_provided, insert, inserted}
use Rattle.stage_lists.specs.Format.{out_good}
use Rattle.stage_lists.specs.Inner.Found.{location_from}
use Rattle.word.proofs.Lists.{first_passes, rest_passes}
use Rattle.stage_lists.proofs.StageLists.{Good, good, is_good}

-- ---- the three places of a variable

module _ (v w : Located) (vs : List Located) where
  pub insert_before : v.location < w.location → insert v (w ∷ vs) ≡ v ∷ w ∷ vs
  unfolding insert
  insert_before h = rw (lt-ltb v.location w.location h)

  pub insert_over : v.location ≡ w.location → insert v (w ∷ vs) ≡ v ∷ vs
  unfolding insert
  insert_over h = rw (le-ltb v.location w.location (omega arith), eq-eqb v.location w.location h)

  pub insert_behind : w.location ≤ v.location → (v.location ≡ w.location → ⊥) → insert v (w ∷ vs) ≡ w ∷ insert v vs
  unfolding insert
  insert_behind h n = rw (le-ltb v.location w.location h, ne_eqb v.location w.location n)

  -- what holds of the list in each of them holds of it
  insert_cases : (P : List Located → Type 0) → (v.location < w.location → P (v ∷ w ∷ vs)) → (v.location ≡ w.location → P (v ∷ vs))
      → (w.location < v.location → P (w ∷ insert v vs)) → P (insert v (w ∷ vs))
  insert_cases P below equal above =
      by_test (ltb v.location w.location)
      (λ t. let h = ltb-true v.location w.location t in rw (insert_before h) (below h))
      (λ f. by_test (eqb v.location w.location)
      (λ t. let h = eqb-true v.location w.location t in rw (insert_over h) (equal h))
      (λ g.
      let h : w.location < v.location = omega (arith, ltb-false v.location w.location f, eqb-false v.location w.location g) in
      rw (insert_behind (omega arith) (λ e. omega arith)) (above h)))

-- ---- the order stays

abbrev starts : ℕ → List Located → Bool
starts n [] = true
starts n (w ∷ vs) = ltb n w.location

rising_cons : (v : Located) (vs : List Located) → rising (v ∷ vs) ≡ pick (starts v.location vs) (rising vs) false
unfolding rising
rising_cons v [] = refl
rising_cons v (w ∷ vs) = refl

module _ (w : Located) (vs : List Located) (h : rising (w ∷ vs) ≡ true) where
  rising_first : starts w.location vs ≡ true
  rising_first = first_passes (starts w.location vs) (rising vs) (sym (rising_cons w vs) ∙ h)

  rising_rest : rising vs ≡ true
  rising_rest = rest_passes (starts w.location vs) (rising vs) (sym (rising_cons w vs) ∙ h)

starts_insert : (n : ℕ) (v : Located) (vs : List Located) → starts n vs ≡ true → n < v.location → starts n (insert v vs) ≡ true
unfolding insert
starts_insert n v [] h k = lt-ltb n v.location k
starts_insert n v (w ∷ vs) h k =
    insert_cases v w vs (λ l. starts n l ≡ true) (λ b. lt-ltb n v.location k) (λ e. lt-ltb n v.location k) (λ a. h)

pub rising_insert : (v : Located) (vs : List Located) → rising vs ≡ true → rising (insert v vs) ≡ true
unfolding insert
rising_insert v [] h = rising_cons v [] ∙ h
rising_insert v (w ∷ vs) h =
    insert_cases v w vs (λ l. rising l ≡ true)
    (λ b. rising_cons v (w ∷ vs) ∙ rw (lt-ltb v.location w.location b, h))
    (λ e. rising_cons v vs ∙ rw (e, rising_first w vs h, rising_rest w vs h))
    (λ a. rising_cons w (insert v vs) ∙ rw (starts_insert w.location v vs (rising_first w vs h) a, rising_insert v vs (rising_rest w vs h)))

-- ---- a location above the last goes to the end

-- the last location, or a number where there is none
unfoldable pub last_from : ℕ → List Located → ℕ
last_from n [] = n
last_from n (w ∷ vs) = last_from w.location vs

last_above : (w : Located) (vs : List Located) → rising (w ∷ vs) ≡ true → w.location ≤ last_from w.location vs
unfolding last_from
last_above w [] h = omega arith
last_above w (x ∷ vs) h =
    omega (arith, ltb-true w.location x.location (rising_first w (x ∷ vs) h), last_above x vs (rising_rest w (x ∷ vs) h))

pub insert_last : (v : Located) (vs : List Located) (n : ℕ) → rising vs ≡ true → last_from n vs < v.location → insert v vs ≡ vs ++ (v ∷ [])
unfolding insert last_from
insert_last v [] n h k = refl
insert_last v (w ∷ vs) n h k =
    let a = last_above w vs h in
    rw (insert_behind v w vs (omega arith) (λ e. omega arith), insert_last v vs w.location (rising_rest w vs h) k)

-- ---- a new location makes the list longer

missing_below : (n : ℕ) (w : Located) (vs : List Located) → rising (w ∷ vs) ≡ true → n < w.location → varying_at n vs ≡ None
unfolding varying_at
missing_below n w [] h k = refl
missing_below n w (x ∷ vs) h k =
    let l : w.location < x.location = ltb-true w.location x.location (rising_first w (x ∷ vs) h) in
    let m : n < x.location = omega arith in
    rw (ne_eqb x.location n (λ e. omega arith)) (missing_below n x vs (rising_rest w (x ∷ vs) h) m)

abbrev pub longer : Bool → ℕ → ℕ
longer b n = pick b n (suc n)

longer_over : (b : Bool) (n : ℕ) → suc (longer b n) ≡ longer b (suc n)
longer_over true n = refl
longer_over false n = refl

pub insert_length : (v : Located) (vs : List Located) → rising vs ≡ true
    → length (insert v vs) ≡ longer (is_provided (varying_at v.location vs)) (length vs)
unfolding insert varying_at
insert_length v [] h = refl
insert_length v (w ∷ vs) h =
    insert_cases v w vs (λ l. length l ≡ longer (is_provided (varying_at v.location (w ∷ vs))) (suc (length vs)))
    (λ b. rw (ne_eqb w.location v.location (λ e. omega arith), missing_below v.location w vs h b))
    (λ e. rw (eq-eqb w.location v.location (sym e)))
    (λ a. rw (ne_eqb w.location v.location (λ e. omega arith))
    (ap suc (insert_length v vs (rising_rest w vs h)) ∙ longer_over (is_provided (varying_at v.location vs)) (length vs)))

longer_most : (b : Bool) (n : ℕ) → longer b n ≤ n + 1
longer_most true n = omega arith
longer_most false n = omega arith

-- ---- a look at the location finds the variable; other locations are as before

pub insert_found : (v : Located) (vs : List Located) → varying_at v.location (insert v vs) ≡ Some v.var
unfolding insert varying_at
insert_found v [] = rw (eq-eqb v.location v.location refl)
insert_found v (w ∷ vs) =
    let same = eq-eqb v.location v.location refl in
    insert_cases v w vs (λ l. varying_at v.location l ≡ Some v.var)
    (λ b. rw same)
    (λ e. rw same)
    (λ a. rw (ne_eqb w.location v.location (λ e. omega arith)) (insert_found v vs))

pub insert_beside : (v : Located) (location : ℕ) (vs : List Located) → (v.location ≡ location → ⊥)
    → varying_at location (insert v vs) ≡ varying_at location vs
unfolding insert varying_at
insert_beside v location [] n = rw (ne_eqb v.location location n)
insert_beside v location (w ∷ vs) n =
    let other = ne_eqb v.location location n in
    insert_cases v w vs (λ l. varying_at location l ≡ varying_at location (w ∷ vs))
    (λ b. rw other)
    (λ e. rw (other, ne_eqb w.location location (λ q. n (e ∙ q))))
    (λ a. rw (insert_beside v location vs n))

-- ---- of rising locations, each is found at its position

nth_above : (v : Located) (vs : List Located) (i : ℕ) (d : Located) → rising (v ∷ vs) ≡ true → i < length vs → v.location < (get_or vs i d).location
nth_above v [] i d h k = absurd (omega arith)
nth_above v (w ∷ vs) zero d h k = ltb-true v.location w.location (rising_first v (w ∷ vs) h)
nth_above v (w ∷ vs) (suc i) d h k =
    omega (arith, ltb-true v.location w.location (rising_first v (w ∷ vs) h), nth_above w vs i d (rising_rest v (w ∷ vs) h) (omega arith))

pub location_nth : (vs : List Located) (i at : ℕ) (d : Located) → rising vs ≡ true → i < length vs
    → location_from (get_or vs i d).location vs at ≡ Some (at + 2 * i)
unfolding location_from
location_nth [] i at d h k = absurd (omega arith)
location_nth (v ∷ vs) zero at d h k = let z : at + 2 * 0 ≡ at = omega arith in rw (eq-eqb v.location v.location refl, z)
location_nth (v ∷ vs) (suc i) at d h k =
    let m : i < length vs = omega arith in
    let z : at + 2 + 2 * i ≡ at + 2 * suc i = omega arith in
    let a = nth_above v vs i d h m in
    rw (ne_eqb v.location (get_or vs i d).location (λ e. omega arith), location_nth vs i (at + 2) d (rising_rest v vs h) m, z)

-- ---- the rules stay

every_insert : (test : Located → Bool) (v : Located) (vs : List Located) → test v ≡ true → every test vs ≡ true → every test (insert v vs) ≡ true
unfolding insert every
every_insert test v [] t h = rw t
every_insert test v (w ∷ vs) t h =
    let p = first_passes (test w) (every test vs) h in
    let q = rest_passes (test w) (every test vs) h in
    insert_cases v w vs (λ l. every test l ≡ true) (λ b. rw (t, p, q)) (λ e. rw (t, q)) (λ a. rw (p, every_insert test v vs t q))

pub good_inserted : (v : Located) (S : StageIo) → out_good S ≡ true → located_encodable v ≡ true → length S.varyings < 63 → out_good (inserted v S) ≡ true
unfolding inserted
good_inserted v S h t few =
    let g : Good S = good S h in
    let n = insert_length v S.varyings g.rises in
    let m = longer_most (is_provided (varying_at v.location S.varyings)) (length S.varyings) in
    is_good (inserted v S)
    (record {
      few = rw n (omega (arith, m));
      payload = g.payload;
      encodable = every_insert located_encodable v S.varyings t g.encodable;
      rises = rising_insert v S.varyings g.rises;
    })
