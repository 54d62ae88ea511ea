-- What the code's stores into the list out make of it.
use Rattle.std.proofs.Common.{Option}
use Prim.Native.Nat.{ℕ, zero, suc, ◌+◌, ◌-◌, ◌*◌, ◌%◌, ◌^◌, ◌<◌, ◌≤◌}
use native.Mathlib.Omega.{arith}
use mathlib.Core.Path.{◌≡◌, refl, sym, ap, ◌∙◌}
use mir.Val.{bool_byte}
use mathlib.Core.Bool.{Bool, true, false}
use mathlib.Core.List.{List, [], ◌∷◌, ◌++◌}
use lib.ListN.{length, take, drop, set, length-append, length-drop, length-set}
use lib.Seq.{drop-drop, length-take-le, get_or-set_same}
use borrow.Author.Tests.{eqb-true}
use Rattle.word.specs.Choice.{pick}
use Rattle.word.specs.Words.{word_at, kind_of, content_of, bits, of_kind}
use Rattle.word.specs.Lists.{every, flat}
use Rattle.varying.specs.Format.{located_words, located_encodable, var_well_formed, var_of, var_word, payload_encodable, payload_word}
use Rattle.varying.specs.declared.Located.{Located}
use Rattle.word.proofs.Truth.{first, second}
use Rattle.word.proofs.Lists.{first_passes, rest_passes}
use Rattle.varying.proofs.Joined.{payload_written, location_written, var_written, var_well_formed_lem, var_read}
use Rattle.stage_lists.specs.Meaning.{StageIo, rising, insert, inserted, varying_at, is_provided}
use Rattle.places.specs.Records.{put, past, each, count_of, records}
use Rattle.stage_lists.specs.Format.{primitive_code, read_located, located_good, read_varyings, out_well_formed, decode_stage, encode_stage, out_good}
use Rattle.places.proofs.Words.{there, two_at, drop_put, put_put, put_after, put_own, put_kept}
use Rattle.word.proofs.Parse.{first_of}
use Rattle.places.proofs.Records.{read_length, room_left, left_none, each_cons, each_nth, past_drop, flat_append, flat_length, take_read}
use Rattle.stage_lists.proofs.StageLists.{located_form, WellFormed, well_formed, is_good, code_back, decode_encode, well_formed_encode, good_decode}
use Rattle.stage_lists.proofs.StageWays.{varyings_from}
use Rattle.stage_lists.proofs.InsertLaws.{last_from, insert_last, insert_before, insert_over, insert_behind, insert_length, longer, good_inserted}

-- a truth value counted
pub counted_once : (b : Bool) (r : ℕ) → r ≡ bool_byte b → r ≤ 1
counted_once true r e = omega arith
counted_once false r e = omega arith

pub counted_as : (n m : ℕ) (b : Bool) (r : ℕ) → r ≡ bool_byte b → m ≡ n + bool_byte b → m ≡ n + r
counted_as n m b r e h = rw e h

-- ---- records moved up

module _ (l goal : List ℕ) (from n i a b : ℕ) (inv : goal ≡ put l (from + 2 * i) (a ∷ b ∷ take (2 * (n - i)) (drop (from + 2 * i) l))) where
  pub shift_onward : (m : List ℕ) (c d : ℕ) → i < n → from + 2 * n + 2 ≤ length l → c ≡ word_at l (from + 2 * i) → d ≡ word_at l (from + 2 * i + 1)
      → m ≡ put l (from + 2 * i) (a ∷ b ∷ []) → goal ≡ put m (from + 2 * (i + 1)) (c ∷ d ∷ take (2 * (n - (i + 1))) (drop (from + 2 * (i + 1)) m))
  shift_onward m c d z h ec ed em =
      let at = from + 2 * i in
      let j = 2 * (n - (i + 1)) in
      let e : 2 * (n - i) ≡ suc (suc j) = omega arith in
      let f : from + 2 * (i + 1) ≡ at + 2 = omega arith in
      let q = word_at l at ∷ word_at l (at + 1) ∷ take j (drop (at + 2) l) in
      let k : length (take j (drop (at + 2) l)) ≡ j = length-take-le j (drop (at + 2) l) (omega (arith, length-drop (at + 2) l)) in
      let p : put (put l at (a ∷ b ∷ [])) (at + 2) q ≡ put l at (a ∷ b ∷ q) = put_put l at (a ∷ b ∷ []) q (omega (arith, k)) in
      let r : drop (at + 2) (put l at (a ∷ b ∷ [])) ≡ drop (at + 2) l = drop_put l at (a ∷ b ∷ []) (omega arith) in
      inv ∙ rw (e, two_at l at (omega arith), em, ec, ed, f, r) (sym p)

  pub shift_ended : (m : List ℕ) → i ≤ n → n ≤ i → m ≡ put l (from + 2 * n) (a ∷ b ∷ []) → m ≡ goal
  shift_ended m y z em =
      let k : n - i ≡ 0 = omega arith in
      let e : n ≡ i = omega arith in
      em ∙ sym (inv ∙ rw (k, e))

-- ---- a variable put into its place

module _ (l : List ℕ) (n i : ℕ) (good : each 2 located_good (n - i) (drop (2 + 2 * i) l) ≡ true) (z : i < n) where
  abbrev good_others : Bool
  good_others = each 2 located_good (n - (i + 1)) (drop (2 + 2 * (i + 1)) l)

  goods_here : each 2 located_good (n - i) (drop (2 + 2 * i) l) ≡ pick (located_good (drop (2 + 2 * i) l)) good_others false
  goods_here =
      let k : n - i - 1 ≡ n - (i + 1) = omega arith in
      let a : 2 + 2 * (i + 1) ≡ 2 + 2 * i + 2 = omega arith in
      each_cons 2 located_good l (n - i) (2 + 2 * i) (λ e. omega arith) ∙ rw (k, a)

  pub good_onward : good_others ≡ true
  good_onward = rest_passes (located_good (drop (2 + 2 * i) l)) good_others (sym goods_here ∙ good)

  good_here : located_good (drop (2 + 2 * i) l) ≡ true
  good_here = first_passes (located_good (drop (2 + 2 * i) l)) good_others (sym goods_here ∙ good)

rest_flat : (l : List ℕ) (k at : ℕ) → each 2 located_good k (drop at l) ≡ true → at + 2 * k ≤ length l → flat located_words (read_varyings k (drop at l)) ≡ take (2 * k) (drop at l)
rest_flat l k at good h = sym (take_read located_form k (drop at l) (omega (arith, length-drop at l)) good)

-- where it goes, by the location that stands at a position
module _ (l : List ℕ) (n i c : ℕ) (v : Located) (z : i < n) (ec : c ≡ content_of (word_at l (2 + 2 * i))) where
  abbrev others : List Located
  others = read_varyings (n - (i + 1)) (drop (2 + 2 * (i + 1)) l)

  abbrev this : Located
  this = read_located (drop (2 + 2 * i) l)

  there_location : this.location ≡ c
  there_location = rw (first_of l (2 + 2 * i)) (sym ec)

  goes_before : v.location < c → insert v (read_varyings (n - i) (drop (2 + 2 * i) l)) ≡ v ∷ read_varyings (n - i) (drop (2 + 2 * i) l)
  goes_before h = rw (varyings_from l n i z) (insert_before v this others (rw there_location h))

  goes_over : v.location ≡ c → insert v (read_varyings (n - i) (drop (2 + 2 * i) l)) ≡ v ∷ others
  goes_over h = rw (varyings_from l n i z) (insert_over v this others (rw there_location h))

  goes_behind : c ≤ v.location → (v.location ≡ c → ⊥) → insert v (read_varyings (n - i) (drop (2 + 2 * i) l)) ≡ this ∷ insert v others
  goes_behind h o = rw (varyings_from l n i z) (insert_behind v this others (rw there_location h) (λ e. o (e ∙ there_location)))

-- the words after it
module _ (l goal : List ℕ) (n i : ℕ) (v : Located) (inv : goal ≡ put l (2 + 2 * i) (flat located_words (insert v (read_varyings (n - i) (drop (2 + 2 * i) l)))))
    (h : 2 + 2 * n + 2 ≤ length l) where
  pub place_ended : (m : List ℕ) (b : ℕ) → i ≤ n → n ≤ i → b ≡ var_word v.var → m ≡ put l (2 + 2 * n) ((0x60000000 + v.location) ∷ b ∷ []) → m ≡ goal
  unfolding insert flat
  place_ended m b f z eb em =
      let k : n - i ≡ 0 = omega arith in
      let e : n ≡ i = omega arith in
      em ∙ sym (inv ∙ rw (left_none 2 read_located (n - i) (drop (2 + 2 * i) l) k, eb, e))

  module _ (c : ℕ) (good : each 2 located_good (n - i) (drop (2 + 2 * i) l) ≡ true) (z : i < n) (ec : c ≡ content_of (word_at l (2 + 2 * i))) where
    module _ (m : List ℕ) (b : ℕ) (eb : b ≡ var_word v.var) where
      pub place_before : v.location < c → m ≡ put l (2 + 2 * i) ((0x60000000 + v.location) ∷ b ∷ take (2 * (n - i)) (drop (2 + 2 * i) l)) → m ≡ goal
      unfolding flat
      place_before q em = em ∙ sym (inv ∙ rw (goes_before l n i c v z ec q, rest_flat l (n - i) (2 + 2 * i) good (omega arith), eb))

      pub place_over : v.location ≡ c → m ≡ put l (2 + 2 * i) ((0x60000000 + v.location) ∷ b ∷ []) → m ≡ goal
      unfolding flat
      place_over q em =
          let a : 2 + 2 * (i + 1) ≡ 2 + 2 * i + 2 = omega arith in
          let r = rest_flat l (n - (i + 1)) (2 + 2 * (i + 1)) (good_onward l n i good z) (omega arith) in
          let w = put_kept l (2 + 2 * i) (2 * (n - (i + 1))) (0x60000000 + v.location) (var_word v.var) (omega arith) in
          em ∙ sym (inv ∙ rw (goes_over l n i c v z ec q, r, a, w, eb))

    pub place_onward : c ≤ v.location → (v.location ≡ c → ⊥) → goal ≡ put l (2 + 2 * (i + 1)) (flat located_words (insert v (others l n i c v z ec)))
    unfolding flat
    place_onward q o =
        let g = good_here l n i good z in
        let a : 2 + 2 * (i + 1) ≡ 2 + 2 * i + 2 = omega arith in
        inv ∙ rw (
          goes_behind l n i c v z ec q o,
          location_written (word_at (drop (2 + 2 * i) l) 0) (search first),
          var_written (word_at (drop (2 + 2 * i) l) 1) (search second),
          first_of l (2 + 2 * i),
          there l (2 + 2 * i) 1,
          a,
        )
        (put_own l (flat located_words (insert v (read_varyings (n - (i + 1)) (drop (2 + 2 * i + 2) l)))) (2 + 2 * i) (omega arith))

-- how many there are after it
module _ (l : List ℕ) (n i total : ℕ) (v : Located) (inv : total + (n - i) ≡ n + length (insert v (read_varyings (n - i) (drop (2 + 2 * i) l)))) where
  pub count_ended : n ≤ i → total ≡ n + 1
  unfolding insert
  count_ended z =
      let k : n - i ≡ 0 = omega arith in
      let e : length (insert v (read_varyings (n - i) (drop (2 + 2 * i) l))) ≡ 1 = rw (left_none 2 read_located (n - i) (drop (2 + 2 * i) l) k) in
      omega arith

  module _ (c : ℕ) (z : i < n) (ec : c ≡ content_of (word_at l (2 + 2 * i))) where
    pub count_before : v.location < c → total ≡ n + 1
    count_before q =
        let e = ap length (goes_before l n i c v z ec q) in
        omega (arith, e, read_length 2 read_located (n - i) (drop (2 + 2 * i) l))

    pub count_over : v.location ≡ c → total ≡ n + 0
    count_over q =
        let e = ap length (goes_over l n i c v z ec q) in
        omega (arith, e, read_length 2 read_located (n - (i + 1)) (drop (2 + 2 * (i + 1)) l))

    pub count_onward : c ≤ v.location → (v.location ≡ c → ⊥) → total + (n - (i + 1)) ≡ n + length (insert v (read_varyings (n - (i + 1)) (drop (2 + 2 * (i + 1)) l)))
    count_onward q m =
        let e = ap length (goes_behind l n i c v z ec q m) in
        omega arith

-- ---- a variable put behind the last

last_read : (k n : ℕ) (ws : List ℕ) → last_from n (read_varyings (suc k) ws) ≡ content_of (word_at ws (2 * k))
unfolding last_from records
last_read zero n ws = refl
last_read (suc k) n ws =
    let e : 2 + 2 * k ≡ 2 * suc k = omega arith in
    last_read k (content_of (word_at ws 0)) (drop 2 ws) ∙ rw (there ws 2 (2 * k), e)

last_goes : (s : List ℕ) (n a : ℕ) (v : Located) → kind_of a ≡ 12 → v.location ≡ content_of a → each 2 located_good n (drop 2 s) ≡ true
    → rising (read_varyings n (drop 2 s)) ≡ true → word_at s (2 * n) < a → insert v (read_varyings n (drop 2 s)) ≡ read_varyings n (drop 2 s) ++ (v ∷ [])
unfolding insert records
last_goes s zero a v k l good up above = refl
last_goes s (suc n) a v k l good up above =
    let e : 2 + 2 * n ≡ 2 * suc n = omega arith in
    let w : word_at (drop 2 s) (2 * n) ≡ word_at s (2 * suc n) = there s 2 (2 * n) ∙ rw e in
    let g : located_good (drop (2 * n) (drop 2 s)) ≡ true = each_nth 2 located_good (suc n) n (drop 2 s) good (omega arith) in
    let q : kind_of (word_at s (2 * suc n)) ≡ 12 = rw (first_of (drop 2 s) (2 * n), w) at (eqb-true (kind_of (word_at (drop (2 * n) (drop 2 s)) 0)) 12 (search first)) in
    insert_last v (read_varyings (suc n) (drop 2 s)) 0 up (rw (last_read n 0 (drop 2 s), w) (omega (arith, q)))

module _ (s : List ℕ) (n a : ℕ) (v : Located) (k : kind_of a ≡ 12) (l : v.location ≡ content_of a) (good : each 2 located_good n (drop 2 s) ≡ true)
    (up : rising (read_varyings n (drop 2 s)) ≡ true) (above : word_at s (2 * n) < a) where
  pub last_counted : length (insert v (read_varyings n (drop 2 s))) ≡ n + 1
  last_counted = rw (last_goes s n a v k l good up above, length-append (read_varyings n (drop 2 s)) (v ∷ []), read_length 2 read_located n (drop 2 s))

  pub last_placed : (m : List ℕ) (b : ℕ) → 2 + 2 * n + 2 ≤ length s → b ≡ var_word v.var
      → m ≡ put s (2 + 2 * n) (a ∷ b ∷ []) → m ≡ put s 2 (flat located_words (insert v (read_varyings n (drop 2 s))))
  unfolding flat
  last_placed m b h eb em =
      let f : a ≡ 0x60000000 + v.location = omega arith in
      em ∙ rw (
        f,
        last_goes s n a v k l good up above,
        flat_append located_words (read_varyings n (drop 2 s)) (v ∷ []),
        rest_flat s n 2 good (omega arith),
        eb,
      )
      (sym (put_after s (located_words v) 2 (2 * n) (omega arith)))

-- ---- the list with a variable more

pub var_again : (w : ℕ) → var_well_formed w ≡ true → w ≡ var_word (var_of w)
var_again w h = sym (var_written w h)

pub located_well_formed : (v : Located) (w : ℕ) → located_encodable v ≡ true → w ≡ var_word v.var → var_well_formed w ≡ true
located_well_formed v w h e = rw e (var_well_formed_lem v.var (search second))

located_again : (v : Located) (w : ℕ) → located_encodable v ≡ true → w ≡ var_word v.var → record { location = v.location; var = var_of w } ≡ v
located_again v w h e = rw (e, var_read v.var (search second))

-- what is known of a list under a head that it does not have yet
module _ (s : List ℕ) (head : ℕ) where
  behind_head : drop 2 (set s 0 head) ≡ drop 2 s
  behind_head = go s
    where
      go : (s : List ℕ) → drop 2 (set s 0 head) ≡ drop 2 s
      go [] = refl
      go (w ∷ ws) = refl

module _ (s : List ℕ) (head : ℕ) (f : out_well_formed (set s 0 head) ≡ true) where
  there_head : word_at (set s 0 head) 0 ≡ head
  there_head = get_or-set_same s 0 head 0 (omega (arith, (well_formed (set s 0 head) f).holds, length-set s 0 head))

  count_under : count_of (set s 0 head) ≡ head % 0x10000
  unfolding count_of
  count_under = rw there_head

  pub head_sum : (r : ℕ) → r ≤ 1 → head + r < 2 ^ 32
  head_sum r h = let k : kind_of head ≡ 11 = rw there_head at (well_formed (set s 0 head) f).kind in omega arith

  module _ (n : ℕ) (en : n ≡ head % 0x10000) where
    count_is : n ≡ count_of (set s 0 head)
    count_is = en ∙ sym count_under

    pub out_good_lem : each 2 located_good n (drop 2 s) ≡ true
    out_good_lem = rw (count_is, ← behind_head s head) (well_formed (set s 0 head) f).good

    pub out_rises : rising (read_varyings n (drop 2 s)) ≡ true
    out_rises = rw (count_is, ← behind_head s head) (well_formed (set s 0 head) f).rises

    pub out_fits : 2 ≤ length (decode_stage (set s 0 head)).room → 2 + 2 * n + 2 ≤ length s
    unfolding decode_stage
    out_fits h = omega (arith, count_is, room_left 2 2 (count_of (set s 0 head)) (set s 0 head) (well_formed (set s 0 head) f).holds, length-set s 0 head)

room_after : (b : Bool) (n r : ℕ) (ws : List ℕ) → longer b n ≡ n + r → drop (2 * (n + r)) ws ≡ pick b (past 2 n ws) (drop 2 (past 2 n ws))
room_after true n r ws e = let z : 2 * (n + r) ≡ 2 * n = omega arith in rw (z, past_drop 2 n ws)
room_after false n r ws e =
    let z : 2 * (n + r) ≡ 2 * n + 2 = omega arith in
    rw (z, past_drop 2 n ws, drop-drop 2 (2 * n) ws)

inserted_words : (s : List ℕ) (v : Located) (r : ℕ) → out_well_formed s ≡ true → length (insert v (read_varyings (count_of s) (drop 2 s))) ≡ count_of s + r → count_of s + r ≤ 63
    → set (put s 2 (flat located_words (insert v (read_varyings (count_of s) (drop 2 s))))) 0 (word_at s 0 + r) ≡ encode_stage (inserted v (decode_stage s))
unfolding encode_stage decode_stage inserted count_of put
inserted_words [] v r f e few = absurd (omega (arith, (well_formed [] f).kind))
inserted_words (w ∷ []) v r f e few = absurd (omega (arith, (well_formed (w ∷ []) f).holds))
inserted_words (w ∷ p ∷ ws) v r f e few =
    let t : WellFormed (w ∷ p ∷ ws) = well_formed (w ∷ p ∷ ws) f in
    let n = bits 15 0 w in
    let vs = insert v (read_varyings n ws) in
    let k : kind_of w ≡ 11 = t.kind in
    let y : bits 24 16 w ≡ 0 = t.rest in
    let head : of_kind 11 (2 ^ 25 * bits 26 25 w + (n + r)) ≡ w + r = omega arith in
    let q : length (flat located_words vs) ≡ 2 * (n + r) = flat_length located_form vs ∙ rw e in
    let a : 2 + length (flat located_words vs) ≡ suc (suc (2 * (n + r))) = omega (arith, q) in
    let b : longer (is_provided (varying_at v.location (read_varyings n ws))) n ≡ n + r
    = ap (longer (is_provided (varying_at v.location (read_varyings n ws)))) (sym (read_length 2 read_located n ws))
    ∙ (sym (insert_length v (read_varyings n ws) t.rises) ∙ e) in
    rw (
      code_back (bits 26 25 w) t.primitive,
      payload_written p t.payload,
      e,
      head,
      a,
      room_after (is_provided (varying_at v.location (read_varyings n ws))) n r ws b,
    )

count_read : (s : List ℕ) → length (decode_stage s).varyings ≡ count_of s
unfolding decode_stage
count_read s = read_length 2 read_located (count_of s) (drop 2 s)

put_head : (s xs : List ℕ) (head r : ℕ) → set (put (set s 0 head) 2 xs) 0 r ≡ set (put s 2 xs) 0 r
unfolding put
put_head [] xs head r = refl
put_head (w ∷ []) xs head r = let e : 2 + length xs ≡ suc (suc (length xs)) = omega arith in rw e
put_head (w ∷ p ∷ ws) xs head r = let e : 2 + length xs ≡ suc (suc (length xs)) = omega arith in rw e

-- words from the third on stored and a head set: the first word put back, and the head read
module _ (xs : List ℕ) (r : ℕ) where
  head_back : (s : List ℕ) → 1 ≤ length s → put s 2 xs ≡ set (set (put s 2 xs) 0 r) 0 (word_at s 0)
  unfolding put
  head_back [] h = absurd (omega arith)
  head_back (w ∷ ws) h = refl

  head_read : (s : List ℕ) → 1 ≤ length s → r ≡ word_at (set (put s 2 xs) 0 r) 0
  unfolding put
  head_read [] h = absurd (omega arith)
  head_read (w ∷ ws) h = refl

module _ (s m : List ℕ) (v : Located) (head n b r : ℕ) (f : out_well_formed (set s 0 head) ≡ true) (h : located_encodable v ≡ true)
    (few : length (decode_stage (set s 0 head)).varyings < 63) (en : n ≡ head % 0x10000) (eb : b ≡ var_word v.var)
    (em : m ≡ put s 2 (flat located_words (insert (record { location = v.location; var = var_of b }) (read_varyings n (drop 2 s)))))
    (e : length (insert (record { location = v.location; var = var_of b }) (read_varyings n (drop 2 s))) ≡ n + r) (o : r ≤ 1) where
  -- the words under the new head
  pub out_inserted : set m 0 (head + r) ≡ encode_stage (inserted v (decode_stage (set s 0 head)))
  out_inserted =
      let t = set s 0 head in
      let c : n ≡ count_of t = count_is s head f n en in
      let vs = insert v (read_varyings (count_of t) (drop 2 t)) in
      let k : length vs ≡ count_of t + r = rw (located_again v b h eb, c, ← behind_head s head) at e in
      let m_is : m ≡ put s 2 (flat located_words vs) = em ∙ rw (located_again v b h eb, c, ← behind_head s head) in
      rw m_is (sym (put_head s (flat located_words vs) head (head + r)) ∙ rw (there_head s head f) at (inserted_words t v r f k (omega (arith, count_read t))))

  out_there : 1 ≤ length s
  out_there = omega (arith, (well_formed (set s 0 head) f).holds, length-set s 0 head)

  -- the words but for the head, which stays as it was
  pub out_words_lem : m ≡ set (encode_stage (inserted v (decode_stage (set s 0 head)))) 0 (word_at s 0)
  out_words_lem = rw (← out_inserted, em) (head_back _ (head + r) s out_there)

  -- and the head that they need
  pub out_head : head + r ≡ word_at (encode_stage (inserted v (decode_stage (set s 0 head)))) 0
  out_head = rw (← out_inserted, em) (head_read _ (head + r) s out_there)

module _ (s m : List ℕ) (v : Located) (f : out_well_formed s ≡ true) (t : located_encodable v ≡ true) (few : length (decode_stage s).varyings < 63)
    (e : m ≡ encode_stage (inserted v (decode_stage s))) where
  pub inserted_decoded : decode_stage m ≡ inserted v (decode_stage s)
  inserted_decoded = rw e (decode_encode (inserted v (decode_stage s)) (good_inserted v (decode_stage s) (good_decode s f) t few))

  pub inserted_well_formed : out_well_formed m ≡ true
  inserted_well_formed = rw e (well_formed_encode (inserted v (decode_stage s)) (good_inserted v (decode_stage s) (good_decode s f) t few))

-- ---- a list without variables

abbrev bare : Option Bool → Option ℕ → List ℕ → StageIo
bare primitive payload ws = record { primitive = primitive; payload = payload; varyings = []; room = drop 2 ws }

good_bare : (primitive : Option Bool) (payload : Option ℕ) (ws : List ℕ) → payload_encodable payload ≡ true → out_good (bare primitive payload ws) ≡ true
unfolding every rising
good_bare primitive payload ws h = is_good (bare primitive payload ws) (record { few = omega arith; payload = h; encodable = refl; rises = refl })

module _ (l m : List ℕ) (primitive : Option Bool) (payload : Option ℕ) (a b : ℕ) (ea : a ≡ of_kind 11 (2 ^ 25 * primitive_code primitive))
    (eb : b ≡ payload_word payload) (em : m ≡ put l 0 (a ∷ b ∷ [])) where
  pub begun_words : m ≡ encode_stage (bare primitive payload l)
  unfolding encode_stage put flat
  begun_words = let z : 2 ^ 25 * primitive_code primitive + 0 ≡ 2 ^ 25 * primitive_code primitive = omega arith in em ∙ rw (z, ea, eb)

  -- the head that was stored is the first word
  pub begun_first : a ≡ word_at m 0
  unfolding put
  begun_first = rw em

  begun_head : set m 0 a ≡ m
  unfolding put
  begun_head = rw em

  module _ (h : payload_encodable payload ≡ true) where
    pub begun_decoded : decode_stage (set m 0 a) ≡ bare primitive payload l
    begun_decoded = rw (begun_head, begun_words) (decode_encode (bare primitive payload l) (good_bare primitive payload l h))

    pub begun_well_formed : out_well_formed (set m 0 a) ≡ true
    begun_well_formed = rw (begun_head, begun_words) (well_formed_encode (bare primitive payload l) (good_bare primitive payload l h))
