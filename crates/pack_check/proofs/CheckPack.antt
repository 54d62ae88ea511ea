-- The code's ways through a pack.
use Rattle.std.proofs.lemmas.Bool.{or_parts}
use Prim.Native.Nat.{ℕ, ◌-◌, ◌%◌, ◌<◌, ◌≤◌}
use native.Mathlib.Omega.{arith}
use mathlib.Core.Path.{◌≡◌, refl, sym, ◌∙◌}
use mathlib.Core.Bool.{Bool, true, false, not, ◌&&◌}
use mathlib.Core.List.{List, ◌++◌}
use lib.Dec.{eqb, leb, ltb}
use borrow.Author.Tests.{eq-eqb, ne_eqb, lt-ltb, le-ltb, ltb-false, leb-true, eqb-true, eqb-false, not-true, not-false}
use lib.ListN.{length, take, drop, replicate, drop_of_length-le}
use lib.Seq.{length-take-le, drop-cons}
use Rattle.word.specs.Choice.{pick}
use Rattle.word.specs.Words.{word_at, bits, closing_sum}
use Rattle.word.specs.Parse.{Parsed, fault, got, next, one, several, Rest, nowhere, from, behind, rest_of}
use Rattle.std.specs.Prelude.{Option, Some, None, IfSome}
use Rattle.std.specs.Option.{option_eq}
use Rattle.word.proofs.Rests.{faulted, got_from}
use Rattle.bindings.specs.declared.types.Resource.{Resource}
use Rattle.bindings.specs.Format.{read_resource}
use Rattle.interface.specs.Meaning.{Interface}
use Rattle.interface.specs.Format.{of_word, edition_well_formed, totals_well_formed, distinct_names, read_entry_point, read_pack, damaged, decode, decoded_number, whole, body}
use Rattle.entry_check.specs.Inner.Walks.{onward, word, thence, listed, pack_resources, pair_roles, role_table, distinct_heads}
use Rattle.entry_check.specs.declared.role.Role.{Role}
use Rattle.entry_check.specs.declared.role.Role.TheVariants.{Other}
use Rattle.pack_check.specs.Inner.Records.{Headed, entries_behind, records_behind}
use Rattle.pack_check.proofs.CheckRecords.{listed_long}
use Rattle.word.proofs.Truth.{first, second, never}
use Rattle.entry_check.proofs.CheckSteps.{step_stop, step_go, word_stop, word_go}
use Rattle.entry_check.proofs.CheckWalks.{on_word, on_step}
use Rattle.pack_check.proofs.CheckEntries.{distinct_named}
use Rattle.entry_check.proofs.CheckCases.{test_behind}

-- ---- entry points

module _ (ws l heads : List ℕ) (rs : List Resource) (n : ℕ) where
  pub entries_stop : nowhere ≡ behind (several n (read_entry_point rs) l) → nowhere ≡ entries_behind rs n l
  unfolding entries_behind
  entries_stop e = rw (faulted (several n (read_entry_point rs) l) e)

  module _ (r : List ℕ) (e : from r ≡ behind (several n (read_entry_point rs) l)) (b : Bool) (m : Headed ws (take n heads) (listed (several n (read_entry_point rs) l)))
      (f : b ≡ distinct_heads ws (take n heads)) where
    entries_by : entries_behind rs n l ≡ pick b (from r) nowhere
    unfolding entries_behind
    entries_by =
        got_from (several n (read_entry_point rs) l) r
        (λ p. b ≡ distinct_names (listed p) → thence p (λ entries rest. pick (distinct_names entries) (from rest) nowhere) ≡ pick b (from r) nowhere) e
        (λ es g. rw g) (f ∙ distinct_named ws (take n heads) (listed (several n (read_entry_point rs) l)) m)

    pub entries_twice : not b ≡ true → nowhere ≡ entries_behind rs n l
    entries_twice t = sym (entries_by ∙ rw (not-true b t))

    pub entries_go : not b ≡ false → from r ≡ entries_behind rs n l
    entries_go t = sym (entries_by ∙ rw (not-false b t))

-- ---- resources and entry points

module _ (ws : List ℕ) (count p : ℕ) (e : from (drop p ws) ≡ behind (several count read_resource (drop 15 ws))) where
  pub resources_long : length (pack_resources count ws) ≡ count
  resources_long = listed_long read_resource (drop 15 ws) count (drop p ws) e

  pub roles_tabled : (roles : List Role) → roles ≡ pair_roles (listed (several count read_resource (drop 15 ws))) ++ drop count (replicate 128 Other)
      → roles ≡ role_table (pack_resources count ws)
  unfolding role_table
  roles_tabled roles m = m ∙ rw resources_long

module _ (ws : List ℕ) (totals : ℕ) where
  pub records_stop : nowhere ≡ behind (several (bits 26 16 totals) read_resource (drop 15 ws)) → nowhere ≡ records_behind totals (drop 15 ws)
  unfolding records_behind
  records_stop e = rw (faulted (several (bits 26 16 totals) read_resource (drop 15 ws)) e)

  pub records_go : (x : Rest) (p : ℕ) → from (drop p ws) ≡ behind (several (bits 26 16 totals) read_resource (drop 15 ws))
      → x ≡ entries_behind (pack_resources (bits 26 16 totals) ws) (bits 15 0 totals) (drop p ws) → x ≡ records_behind totals (drop 15 ws)
  unfolding records_behind
  records_go x p e f =
      f ∙ got_from (several (bits 26 16 totals) read_resource (drop 15 ws)) (drop p ws)
      (λ q. entries_behind (listed q) (bits 15 0 totals) (drop p ws) ≡ thence q λ resources rest. entries_behind resources (bits 15 0 totals) rest) e (λ rs. refl)

-- ---- the whole pack

on_thence : {A B : Type 0} (p : Parsed A) (k : A → List ℕ → Parsed B) (h : A → List ℕ → Rest)
    → ((a : A) (rest : List ℕ) → behind (k a rest) ≡ h a rest) → behind (next p k) ≡ thence p h
on_thence fault k h f = refl
on_thence (got a rest) k h f = f a rest

pack_walk : (ws : List ℕ) → behind (read_pack ws)
    ≡ word edition_well_formed ws λ edition rest. word totals_well_formed rest λ totals rest. onward (behind (several 13 (one (of_word 3)) rest)) λ rest. records_behind totals rest
unfolding read_pack records_behind entries_behind
pack_walk ws =
    on_word edition_well_formed ws _ _ λ edition rest.
    on_word totals_well_formed rest _ _ λ totals rest.
    on_step (several 13 (one (of_word 3)) rest) _ _ λ limits rest.
    on_thence (several (bits 26 16 totals) read_resource rest) _ _ λ resources rest.
    on_thence (several (bits 15 0 totals) (read_entry_point resources) rest) _ _ λ entries rest.
    test_behind (distinct_names entries) _ rest

module _ (ws : List ℕ) (w : ℕ) (b : Bool) (e : w ≡ word_at ws 0) (f : b ≡ edition_well_formed w) where
  pub edition_stop : not b ≡ true → nowhere ≡ behind (read_pack ws)
  edition_stop t = word_stop edition_well_formed ws 0 w b _ e f t ∙ sym (pack_walk ws)

  module _ (totals : ℕ) (c : Bool) (t : not b ≡ false) (g : totals ≡ word_at ws 1) (h : c ≡ totals_well_formed totals) where
    edition_go : (x : Rest) → x ≡ word totals_well_formed (drop 1 ws) (λ totals rest. onward (behind (several 13 (one (of_word 3)) rest)) λ rest. records_behind totals rest)
        → x ≡ behind (read_pack ws)
    edition_go x y = word_go edition_well_formed ws 0 w b _ e f x t refl y ∙ sym (pack_walk ws)

    pub totals_stop : not c ≡ true → nowhere ≡ behind (read_pack ws)
    totals_stop u = edition_go nowhere (word_stop totals_well_formed ws 1 totals c _ g h u)

    module _ (u : not c ≡ false) where
      totals_go : (x : Rest) → x ≡ onward (behind (several 13 (one (of_word 3)) (drop 2 ws))) (λ rest. records_behind totals rest) → x ≡ behind (read_pack ws)
      totals_go x y = edition_go x (word_go totals_well_formed ws 1 totals c _ g h x u refl y)

      pub limits_stop : nowhere ≡ behind (several 13 (one (of_word 3)) (drop 2 ws)) → nowhere ≡ behind (read_pack ws)
      limits_stop k = totals_go nowhere (step_stop _ _ k)

      pub pack_go : (x : Rest) (r : ℕ) → from (drop r ws) ≡ behind (several 13 (one (of_word 3)) (drop 2 ws)) → r ≡ 15 → x ≡ records_behind totals (drop 15 ws)
          → x ≡ behind (read_pack ws)
      pack_go x r k m y = totals_go x (step_go (drop r ws) _ _ x k (rw m y))

-- what the head words bound

module _ (totals : ℕ) (c : Bool) (h : c ≡ totals_well_formed totals) (u : not c ≡ false) where
  bounds : (leb (bits 26 16 totals) 128 && leb (bits 15 0 totals) 16) ≡ true
  bounds = second (of_word 2 totals) _ (sym h ∙ not-false c u)

  pub few_resources : bits 26 16 totals ≤ 128
  few_resources = leb-true (bits 26 16 totals) 128 (first (leb (bits 26 16 totals) 128) (leb (bits 15 0 totals) 16) bounds)

  pub few_entries : bits 15 0 totals ≤ 16
  few_entries = leb-true (bits 15 0 totals) 16 (second (leb (bits 26 16 totals) 128) (leb (bits 15 0 totals) 16) bounds)

-- ---- damaged or not

pub damaged_short : (ws : List ℕ) → length ws < 16 → true ≡ damaged ws
unfolding damaged
damaged_short ws h = rw (lt-ltb (length ws) 16 h)

module _ (ws : List ℕ) (s : 16 ≤ length ws) where
  pub damaged_long : 4096 < length ws → true ≡ damaged ws
  unfolding damaged
  damaged_long h = rw (le-ltb (length ws) 16 s, lt-ltb 4096 (length ws) h)

  module _ (w : ℕ) (l : length ws ≤ 4096) (e : w ≡ word_at ws 0) where
    pub damaged_total : (w % 65536 ≡ length ws → ⊥) → true ≡ damaged ws
    unfolding damaged
    damaged_total n = rw (le-ltb (length ws) 16 s, le-ltb 4096 (length ws) l, ← e, ne_eqb (w % 65536) (length ws) n)

    pub damaged_sum : (v x : ℕ) → w % 65536 ≡ length ws → v ≡ word_at ws (length ws - 1) → x ≡ closing_sum ws → not (eqb v x) ≡ damaged ws
    unfolding damaged
    damaged_sum v x t f g = rw (le-ltb (length ws) 16 s, le-ltb 4096 (length ws) l, ← e, eq-eqb (w % 65536) (length ws) t, ← f, ← g)

pub body_long : (ws : List ℕ) → length ws - 1 ≡ length (body ws)
body_long ws = sym (length-take-le (length ws - 1) ws (omega arith))

module _ (ws : List ℕ) (b : Bool) (e : b ≡ damaged ws) where
  pub pack_damaged : b ≡ true → 1 ≡ decoded_number (decode ws)
  unfolding decode
  pack_damaged t = rw (← e, t)

  module _ (t : b ≡ false) where
    pub low : 16 ≤ length ws
    unfolding damaged
    low = ltb-false (length ws) 16 (or_parts (ltb (length ws) 16) _ (sym e ∙ t)).0

    high : length ws ≤ 4096
    unfolding damaged
    high = ltb-false 4096 (length ws) (or_parts (ltb 4096 (length ws)) _ (or_parts (ltb (length ws) 16) _ (sym e ∙ t)).1).0

    pub pack_some : 1 ≤ length ws
    pack_some = omega (arith, low)

    pub body_enough : 2 ≤ length (body ws)
    body_enough = omega (arith, low, body_long ws)

    pub body_few : length (body ws) ≤ 4096
    body_few = omega (arith, high, body_long ws)

    whole_at : (n m : ℕ) → from (drop n (body ws)) ≡ behind (read_pack (body ws)) → ((i : Interface) → decoded_number (whole (got i (drop n (body ws)))) ≡ m)
        → decoded_number (decode ws) ≡ m
    unfolding decode
    whole_at n m f h = rw (← e, t) (got_from (read_pack (body ws)) (drop n (body ws)) (λ p. decoded_number (whole p) ≡ m) f h)

    unread : nowhere ≡ behind (read_pack (body ws)) → decoded_number (decode ws) ≡ 2
    unfolding decode
    unread f = rw (← e, t, faulted (read_pack (body ws)) f)

    -- the words end behind the records, or do not
    pub pack_well_formed : (r : Option ℕ) → rest_of (body ws) r ≡ behind (read_pack (body ws)) → option_eq eqb r (Some (length ws - 1)) ≡ true
        → 0 ≡ decoded_number (decode ws)
    pack_well_formed None f g = never false g refl
    pack_well_formed (Some n) f g =
        let z : n ≡ length ws - 1 = eqb-true n (length ws - 1) g in
        let x : length (body ws) ≤ n = omega (arith, body_long ws) in
        sym (whole_at n 0 f (λ i. rw (drop_of_length-le (body ws) x)))

    pub pack_malformed : (r : Option ℕ) → rest_of (body ws) r ≡ behind (read_pack (body ws)) → IfSome r (λ n. n ≤ length (body ws))
        → option_eq eqb r (Some (length ws - 1)) ≡ false → 2 ≡ decoded_number (decode ws)
    pack_malformed None f h g = sym (unread f)
    pack_malformed (Some n) f h g =
        let z : n ≡ length ws - 1 → ⊥ = eqb-false n (length ws - 1) g in
        sym (whole_at n 2 f (λ i. rw (drop-cons (body ws) n 0 (omega (arith, body_long ws)))))

-- what a reader's end holds, where it is a position
pub held : (P : Type 0) (r : Option ℕ) (n : ℕ) → option_eq eqb r (Some n) ≡ true → IfSome r (λ _. P) → P
held P None n g h = never false g refl
held P (Some m) n g h = h
