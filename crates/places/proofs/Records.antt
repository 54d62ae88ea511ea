-- Records of a width, whatever they hold: how many, one more, what lies behind, read back and written back.
use Prim.Native.Nat.{ℕ, zero, suc, ◌+◌, ◌-◌, ◌*◌, ◌<◌, ◌≤◌}
use native.Mathlib.Omega.{arith}
use native.Mathlib.Nat.{mul-suc, mul-zero}
use native.Mathlib.Numerals.{sub-one}
use mathlib.Core.Path.{◌≡◌, refl, sym, ap, ◌∙◌}
use mathlib.Core.Bool.{Bool, true, false}
use mathlib.Core.List.{List, [], ◌∷◌, ◌++◌, append_assoc, append-nil, map}
use lib.ListN.{length, take, drop, get_or, set, length-drop, length-append, take-append-drop}
use lib.Seq.{drop-drop, take_at, take_all, drop_at, set-append_left, length-take-le}
use Rattle.std.proofs.lemmas.List.{take_more}
use borrow.Author.Tests.{le-leb, lt-leb}
use Rattle.word.specs.Choice.{pick}
use Rattle.word.specs.Words.{word_at}
use Rattle.places.specs.Records.{room_for, past, each, put, count_of, records}
use Rattle.word.specs.Lists.{every, flat}
use Rattle.places.proofs.Words.{stored_one, put_put, put_next, set_behind}
use Rattle.word.proofs.Lists.{first_passes, rest_passes}

-- ---- positions

-- ---- a reader alone

module _ {A : Type 0} (width : ℕ) (read : List ℕ → A) where
  pub read_length : (n : ℕ) (ws : List ℕ) → length (records width read n ws) ≡ n
  unfolding records
  read_length zero ws = refl
  read_length (suc n) ws = ap suc (read_length n (drop width ws))

  pub read_mapped : {B : Type 0} (f : A → B) (n : ℕ) (ws : List ℕ) → map f (records width read n ws) ≡ records width (λ l. f (read l)) n ws
  unfolding records
  read_mapped f zero ws = refl
  read_mapped f (suc n) ws = ap (λ l. f (read ws) ∷ l) (read_mapped f n (drop width ws))

  -- of those left at a position: the first, and the rest
  pub left_cons : (l : List ℕ) (k at : ℕ) → (k ≡ 0 → ⊥) → records width read k (drop at l) ≡ read (drop at l) ∷ records width read (k - 1) (drop (at + width) l)
  unfolding records
  left_cons l zero at h = absurd (h refl)
  left_cons l (suc k) at h = rw (sub-one, drop-drop width at l)

  pub nth_record : (n i : ℕ) (ws : List ℕ) (d : A) → i < n → get_or (records width read n ws) i d ≡ read (drop (width * i) ws)
  unfolding records
  nth_record zero i ws d h = absurd (omega arith)
  nth_record (suc n) zero ws d h = rw mul-zero
  nth_record (suc n) (suc i) ws d h =
      let e : width + width * i ≡ width * suc i = rw mul-suc (omega arith) in
      nth_record n i (drop width ws) d (omega arith) ∙ rw (drop-drop (width * i) width ws, e)

  pub left_none : (k : ℕ) (ws : List ℕ) → k ≡ 0 → records width read k ws ≡ []
  unfolding records
  left_none k ws h = rw h

-- of those from one on: that one, and the others
module _ (width n i : ℕ) (h : i < n) where
  next_at : width * (i + 1) ≡ width * i + width
  next_at = let e : i + 1 ≡ suc i = omega arith in rw e (mul-suc width i)

  pub records_at : {A : Type 0} (read : List ℕ → A) (l : List ℕ)
      → records width read (n - i) (drop (width * i) l) ≡ read (drop (width * i) l) ∷ records width read (n - (i + 1)) (drop (width * (i + 1)) l)
  records_at read l =
      let k : n - i - 1 ≡ n - (i + 1) = omega arith in
      left_cons width read l (n - i) (width * i) (λ z. omega arith) ∙ rw (k, next_at)

pub past_drop : (width n : ℕ) (ws : List ℕ) → past width n ws ≡ drop (width * n) ws
unfolding past
past_drop width zero ws = rw mul-zero
past_drop width (suc n) ws =
    let e : width + width * n ≡ width * suc n = rw mul-suc (omega arith) in
    past_drop width n (drop width ws) ∙ rw (drop-drop (width * n) width ws, e)

pub room_length : (width n : ℕ) (ws : List ℕ) → length (past width n ws) ≡ length ws - width * n
room_length width n ws = ap length (past_drop width n ws) ∙ length-drop (width * n) ws

-- the free room behind records that begin at a position
module _ (first width n : ℕ) (ws : List ℕ) (h : first + width * n ≤ length ws) where
  pub room_left : first + width * n + length (past width n (drop first ws)) ≡ length ws
  room_left = omega (arith, room_length width n (drop first ws), length-drop first ws)

  pub room_lacks : length ws < first + width * n + width → room_for width (past width n (drop first ws)) ≡ false
  room_lacks k = lt-leb width (length (past width n (drop first ws))) (omega (arith, room_left))

  pub room_fits : first + width * n + width ≤ length ws → room_for width (past width n (drop first ws)) ≡ true
  room_fits k = le-leb width (length (past width n (drop first ws))) (omega (arith, room_left))

module _ (width : ℕ) (test : List ℕ → Bool) where
  pub each_cons : (l : List ℕ) (k at : ℕ) → (k ≡ 0 → ⊥) → each width test k (drop at l) ≡ pick (test (drop at l)) (each width test (k - 1) (drop (at + width) l)) false
  unfolding each
  each_cons l zero at h = absurd (h refl)
  each_cons l (suc k) at h = rw (sub-one, drop-drop width at l)

  pub each_nth : (n i : ℕ) (ws : List ℕ) → each width test n ws ≡ true → i < n → test (drop (width * i) ws) ≡ true
  unfolding each
  each_nth zero i ws t h = absurd (omega arith)
  each_nth (suc n) zero ws t h = rw mul-zero (first_passes (test ws) (each width test n (drop width ws)) t)
  each_nth (suc n) (suc i) ws t h =
      let e : width + width * i ≡ width * suc i = rw mul-suc (omega arith) in
      rw (← e, ← drop-drop (width * i) width ws)
      (each_nth n i (drop width ws) (rest_passes (test ws) (each width test n (drop width ws)) t) (omega arith))

  pub each_weaker : (other : List ℕ → Bool) → ((ws : List ℕ) → test ws ≡ true → other ws ≡ true) → (n : ℕ) (ws : List ℕ) → each width test n ws ≡ true
      → each width other n ws ≡ true
  unfolding each
  each_weaker other w zero ws t = refl
  each_weaker other w (suc n) ws t =
      rw (w ws (first_passes (test ws) (each width test n (drop width ws)) t))
      (each_weaker other w n (drop width ws) (rest_passes (test ws) (each width test n (drop width ws)) t))

  pub each_none : (k : ℕ) (ws : List ℕ) → k ≡ 0 → each width test k ws ≡ true
  unfolding each
  each_none k ws h = rw h

-- of those from one on: that one passes, and the others
module _ (width n i : ℕ) (test : List ℕ → Bool) (l : List ℕ) (h : i < n) where
  pub each_at : each width test (n - i) (drop (width * i) l) ≡ pick (test (drop (width * i) l)) (each width test (n - (i + 1)) (drop (width * (i + 1)) l)) false
  each_at =
      let k : n - i - 1 ≡ n - (i + 1) = omega arith in
      each_cons width test l (n - i) (width * i) (λ z. omega arith) ∙ rw (k, next_at width n i h)

-- ---- a test of each

module _ {A : Type 0} (test : A → Bool) where
  pub every_more : (p : List A) (a : A) → every test p ≡ true → test a ≡ true → every test (p ++ (a ∷ [])) ≡ true
  unfolding every
  every_more [] a h t = rw t
  every_more (x ∷ p) a h t = rw (first_passes (test x) (every test p) h, every_more p a (rest_passes (test x) (every test p) h) t)

  pub every_set : (p : List A) (i : ℕ) (a : A) → every test p ≡ true → test a ≡ true → every test (set p i a) ≡ true
  unfolding every
  every_set [] i a h t = refl
  every_set (x ∷ p) zero a h t = rw t (rest_passes (test x) (every test p) h)
  every_set (x ∷ p) (suc i) a h t = rw (first_passes (test x) (every test p) h, every_set p i a (rest_passes (test x) (every test p) h) t)

  pub every_nth : (p : List A) (i : ℕ) (d : A) → every test p ≡ true → i < length p → test (get_or p i d) ≡ true
  unfolding every
  every_nth [] i d h k = absurd (omega arith)
  every_nth (x ∷ p) zero d h k = first_passes (test x) (every test p) h
  every_nth (x ∷ p) (suc i) d h k = every_nth p i d (rest_passes (test x) (every test p) h) (omega arith)

-- ---- a reader and a writer that belong together

pub record Joined {A : Type 0} (width : ℕ) (read : List ℕ → A) (words : A → List ℕ) (test : List ℕ → Bool) (encodable : A → Bool) : Type 0 where
  pub wide : (a : A) → length (words a) ≡ width
  pub written : (ws : List ℕ) → width ≤ length ws → test ws ≡ true → words (read ws) ++ drop width ws ≡ ws
  pub kept : (ws : List ℕ) → test ws ≡ true → encodable (read ws) ≡ true
  pub again : (a : A) (ws : List ℕ) → encodable a ≡ true → read (words a ++ ws) ≡ a
  pub passed : (a : A) (ws : List ℕ) → encodable a ≡ true → test (words a ++ ws) ≡ true

-- words that carry records, with free room behind them
pub record Carried {A : Type 0} (width : ℕ) (read : List ℕ → A) (test : List ℕ → Bool) (p : List A) (r ws : List ℕ) : Type 0 where
  pub again : records width read (length p) ws ≡ p
  pub rest : past width (length p) ws ≡ r
  pub pass : each width test (length p) ws ≡ true
  pub long : length ws ≡ width * length p + length r

pub flat_append : {A : Type 0} (words : A → List ℕ) (p q : List A) → flat words (p ++ q) ≡ flat words p ++ flat words q
unfolding flat
flat_append words [] q = refl
flat_append words (a ∷ p) q = rw (flat_append words p q) (sym (append_assoc (words a) (flat words p) (flat words q)))

module _ {A : Type 0} {width : ℕ} {read : List ℕ → A} {words : A → List ℕ} {test : List ℕ → Bool} {encodable : A → Bool} (J : Joined width read words test encodable) where
  pub flat_length : (p : List A) → length (flat words p) ≡ width * length p
  unfolding flat
  flat_length [] = sym (mul-zero width)
  flat_length (a ∷ p) = length-append (words a) (flat words p) ∙ rw (J.wide a, flat_length p, mul-suc width (length p)) (omega arith)

  -- what was read, with what lies behind it, is what there was
  pub flat_read : (n : ℕ) (ws : List ℕ) → width * n ≤ length ws → each width test n ws ≡ true → flat words (records width read n ws) ++ past width n ws ≡ ws
  unfolding flat records past each
  flat_read zero ws h t = refl
  flat_read (suc n) ws h t =
      let m : width * n + width ≤ length ws = rw mul-suc at h in
      let k : width * n ≤ length (drop width ws) = omega (arith, length-drop width ws) in
      let e = flat_read n (drop width ws) k (rest_passes (test ws) (each width test n (drop width ws)) t) in
      append_assoc (words (read ws)) (flat words (records width read n (drop width ws))) (past width n (drop width ws))
      ∙ rw e (J.written ws (omega arith) (first_passes (test ws) (each width test n (drop width ws)) t))

  pub every_read : (n : ℕ) (ws : List ℕ) → each width test n ws ≡ true → every encodable (records width read n ws) ≡ true
  unfolding records each every
  every_read zero ws t = refl
  every_read (suc n) ws t =
      rw (
        J.kept ws (first_passes (test ws) (each width test n (drop width ws)) t),
        every_read n (drop width ws) (rest_passes (test ws) (each width test n (drop width ws)) t),
      )

  behind_words : (a : A) (ws : List ℕ) → drop width (words a ++ ws) ≡ ws
  behind_words a ws = drop_at (words a) ws width (J.wide a)

  -- what was written is read again, and the rest lies behind it
  read_flat : (p : List A) (r : List ℕ) → every encodable p ≡ true → records width read (length p) (flat words p ++ r) ≡ p
  unfolding flat records every
  read_flat [] r t = refl
  read_flat (a ∷ p) r t =
      let e = append_assoc (words a) (flat words p) r in
      rw (
        e,
        J.again a (flat words p ++ r) (first_passes (encodable a) (every encodable p) t),
        behind_words a (flat words p ++ r),
        read_flat p r (rest_passes (encodable a) (every encodable p) t),
      )

  past_flat : (p : List A) (r : List ℕ) → past width (length p) (flat words p ++ r) ≡ r
  unfolding flat past
  past_flat [] r = refl
  past_flat (a ∷ p) r =
      ap (λ l. past width (length p) (drop width l)) (append_assoc (words a) (flat words p) r)
      ∙ (ap (past width (length p)) (behind_words a (flat words p ++ r)) ∙ past_flat p r)

  each_flat : (p : List A) (r : List ℕ) → every encodable p ≡ true → each width test (length p) (flat words p ++ r) ≡ true
  unfolding flat each every
  each_flat [] r t = refl
  each_flat (a ∷ p) r t =
      rw (
        append_assoc (words a) (flat words p) r,
        J.passed a (flat words p ++ r) (first_passes (encodable a) (every encodable p) t),
        behind_words a (flat words p ++ r),
      )
      (each_flat p r (rest_passes (encodable a) (every encodable p) t))

  pub carried : (p : List A) (r : List ℕ) → every encodable p ≡ true → Carried width read test p r (flat words p ++ r)
  carried p r t =
      record {
        again = read_flat p r t;
        rest = past_flat p r;
        pass = each_flat p r t;
        long = length-append (flat words p) r ∙ rw (flat_length p);
      }

  -- ---- written over

  module _ (n : ℕ) (ws : List ℕ) (h : width * n ≤ length ws) (t : each width test n ws ≡ true) where
    pub take_read : take (width * n) ws ≡ flat words (records width read n ws)
    take_read =
        let e : length (flat words (records width read n ws)) ≡ width * n = flat_length (records width read n ws) ∙ rw (read_length width read n ws) in
        ap (take (width * n)) (sym (flat_read n ws h t)) ∙ take_at (flat words (records width read n ws)) (past width n ws) (width * n) e

    -- one more record behind the others
    put_last : (a : A) → put ws (width * n) (words a) ≡ flat words (records width read n ws ++ (a ∷ [])) ++ drop width (past width n ws)
    unfolding put flat
    put_last a =
        let b : drop (width * n + width) ws ≡ drop width (past width n ws)
        = sym (drop-drop width (width * n) ws) ∙ ap (drop width) (sym (past_drop width n ws)) in
        rw (
          take_read,
          J.wide a,
          b,
          flat_append words (records width read n ws) (a ∷ []),
          append-nil (words a),
          append_assoc (flat words (records width read n ws)) (words a) (drop width (past width n ws)),
        )

    -- under a head that counts it
    pub put_more : (w v : ℕ) (a : A) → set (put (w ∷ ws) (1 + width * n) (words a)) 0 v ≡ v ∷ (flat words (records width read n ws ++ (a ∷ [])) ++ drop width (past width n ws))
    put_more w v a = rw (put_next w ws (width * n) (words a), put_last a)

    pub count_more : (a : A) → length (records width read n ws ++ (a ∷ [])) ≡ n + 1
    count_more a = length-append (records width read n ws) (a ∷ []) ∙ rw (read_length width read n ws)

  -- one word of a record
  set_flat : (p : List A) (r : List ℕ) (i j v : ℕ) (a d : A) → i < length p → j < width → words a ≡ set (words (get_or p i d)) j v
      → set (flat words p ++ r) (width * i + j) v ≡ flat words (set p i a) ++ r
  unfolding flat
  set_flat [] r i j v a d h k e = absurd (omega arith)
  set_flat (x ∷ p) r zero j v a d h k e =
      let z : width * 0 + j ≡ j = rw mul-zero (omega arith) in
      rw (z, append_assoc (words x) (flat words p) r, set-append_left (words x) (flat words p ++ r) j v (omega (arith, J.wide x)), ← e)
      (sym (append_assoc (words a) (flat words p) r))
  set_flat (x ∷ p) r (suc i) j v a d h k e =
      let z : width * suc i + j ≡ length (words x) + (width * i + j) = rw (mul-suc, J.wide x) (omega arith) in
      rw (z, append_assoc (words x) (flat words p) r, set_behind (words x) (flat words p ++ r) (width * i + j) v, set_flat p r i j v a d (omega arith) k e)
      (sym (append_assoc (words x) (flat words (set p i a)) r))

  pub set_read : (n i j v : ℕ) (ws : List ℕ) (a d : A) → width * n ≤ length ws → each width test n ws ≡ true → i < n → j < width
      → words a ≡ set (words (get_or (records width read n ws) i d)) j v
      → set ws (width * i + j) v ≡ flat words (set (records width read n ws) i a) ++ past width n ws
  set_read n i j v ws a d h t k m e =
      let b : i < length (records width read n ws) = omega (arith, read_length width read n ws) in
      ap (λ l. set l (width * i + j) v) (sym (flat_read n ws h t)) ∙ set_flat (records width read n ws) (past width n ws) i j v a d b m e

-- ---- a record at the end

module _ (l : List ℕ) (width n : ℕ) (en : n ≡ count_of l) (h : 1 + width * count_of l ≤ length l) where
  pub record_refused : length l < 1 + width * n + width → false ≡ room_for width (past width (count_of l) (drop 1 l))
  record_refused k = sym (room_lacks 1 width (count_of l) l h (rw en at k))

  pub record_fits : 1 + width * n + width ≤ length l → true ≡ room_for width (past width (count_of l) (drop 1 l))
  record_fits k = sym (room_fits 1 width (count_of l) l h (rw en at k))

-- its words one after the other: the start, one word more, the end
pub push_start : (l ws : List ℕ) (at : ℕ) → l ≡ put l at (take 0 ws)
unfolding put
push_start l ws at = let e : at + 0 ≡ at = omega arith in sym (rw (e, take-append-drop at l))

module _ (l m ws : List ℕ) (at i : ℕ) (inv : m ≡ put l at (take i ws)) (same : length m ≡ length l) (fits : at + length ws ≤ length l) where
  pub push_onward : i < length ws → set m (at + i) (get_or ws i 0) ≡ put l at (take (i + 1) ws)
  push_onward h =
      let k : length (take i ws) ≡ i = length-take-le i ws (omega arith) in
      let w = get_or ws i 0 in
      let s : set m (at + i) w ≡ put m (at + i) (w ∷ []) = stored_one m (at + i) w (omega arith) in
      let p : put (put l at (take i ws)) (at + length (take i ws)) (w ∷ []) ≡ put l at (take i ws ++ (w ∷ [])) = put_put l at (take i ws) (w ∷ []) (omega (arith, k)) in
      s ∙ rw (take_more ws i 0 h, inv) (rw k at p)

pub all_stored : (l m ws : List ℕ) (at n i : ℕ) → length ws ≡ n → n ≤ i → m ≡ put l at (take i ws) → m ≡ put l at ws
all_stored l m ws at n i e h k = let t : take i ws ≡ ws = take_all i ws (omega arith) in rw t at k

-- and under a head that counts it
pub record_pushed : (l m ws : List ℕ) (width n w : ℕ) → n ≡ count_of l → m ≡ put l (1 + width * n) ws → w ≡ word_at l 0
    → set m 0 (w + 1) ≡ set (put l (1 + width * count_of l) ws) 0 (word_at l 0 + 1)
record_pushed l m ws width n w en em ew = rw (em, en, ew)
