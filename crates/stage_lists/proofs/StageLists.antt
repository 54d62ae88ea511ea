-- A stage list and its words: what is well formed is exactly what the writer makes.
use Rattle.std.proofs.Common.{Option, Some, None, Bool, false}
use Rattle.std.proofs.lemmas.Bool.{and_from}
use Prim.Native.Nat.{ℕ, ◌+◌, ◌*◌, ◌^◌, ◌<◌, ◌≤◌}
use native.Mathlib.Omega.{arith}
use mathlib.Core.Path.{◌≡◌, refl, ap, sym}
use mathlib.Core.Bool.{true}
use mathlib.Core.List.{List, [], ◌∷◌}
use lib.Dec.{eqb, leb, ltb}
use lib.ListN.{length, drop}
use borrow.Author.Tests.{eqb-true, leb-true, ltb-true, le-leb, lt-ltb}
use Rattle.word.specs.Words.{word_at, kind_of, bits, of_kind, content_of}
use Rattle.varying.specs.Format.{located_words, located_encodable, payload_well_formed, payload_word, payload_encodable, var_well_formed, var_of, var_word, var_encodable, location_well_formed}
use Rattle.word.proofs.Truth.{first, second, below_all}
use Rattle.varying.proofs.Joined.{payload_written, payload_encodable_lem, payload_well_formed_lem, payload_read}
use Rattle.stage_lists.specs.Meaning.{StageIo, rising}
use Rattle.word.specs.Lists.{every}
use Rattle.places.specs.Records.{each, count_of}
use Rattle.stage_lists.specs.Format.{primitive_at, primitive_code, read_located, located_good, read_varyings, stage_head, out_well_formed, stage_well_formed, decode_stage}
use Rattle.stage_lists.specs.Format.{encode_stage, out_good, stage_good}
use Rattle.places.proofs.Records.{Joined, Carried, read_length, flat_read, every_read, carried}
use Rattle.places.proofs.Words.{two}
use Rattle.varying.proofs.Joined.{var_written, var_encodable_lem, var_well_formed_lem, var_read, location_written, location_well_formed_lem, location_read}

-- ---- the two words of a variable

pub located_form : Joined 2 read_located located_words located_good located_encodable
located_form =
    record {
      wide = λ v. refl;
      written = λ ws h t. rw (location_written (word_at ws 0) (search first), var_written (word_at ws 1) (search second)) (sym (two ws h));
      kept = λ ws t. and_from (ltb (content_of (word_at ws 0)) (2 ^ 27)) (var_encodable (var_of (word_at ws 1)))
          (lt-ltb (content_of (word_at ws 0)) (2 ^ 27) (omega arith)) (var_encodable_lem (word_at ws 1) (search second));
      again = λ v ws t. rw (location_read v.location (search (ltb-true, first)), var_read v.var (search second));
      passed = λ v ws t. and_from (location_well_formed (of_kind 12 v.location)) (var_well_formed (var_word v.var))
          (location_well_formed_lem v.location (search (ltb-true, first))) (var_well_formed_lem v.var (search second));
    }

-- ---- what well-formed words say

pub record WellFormed (ws : List ℕ) : Type 0 where
  pub kind : kind_of (word_at ws 0) ≡ 11
  pub primitive : bits 26 25 (word_at ws 0) < 3
  pub rest : bits 24 16 (word_at ws 0) ≡ 0
  pub few : count_of ws ≤ 63
  pub holds : 2 + 2 * count_of ws ≤ length ws
  pub payload : payload_well_formed (word_at ws 1) ≡ true
  pub good : each 2 located_good (count_of ws) (drop 2 ws) ≡ true
  pub rises : rising (read_varyings (count_of ws) (drop 2 ws)) ≡ true

pub well_formed : (ws : List ℕ) → out_well_formed ws ≡ true → WellFormed ws
unfolding out_well_formed stage_head
well_formed ws h =
    record {
      kind = search (eqb-true, first);
      primitive = search (ltb-true, first, second);
      rest = search (eqb-true, first, second);
      few = search (leb-true, first, second) depth 6;
      holds = search (leb-true, first, second) depth 7;
      payload = search (first, second) depth 8;
      good = search (first, second) depth 9;
      rises = search second depth 9;
    }

pub record Good (S : StageIo) : Type 0 where
  pub few : length S.varyings ≤ 63
  pub payload : payload_encodable S.payload ≡ true
  pub encodable : every located_encodable S.varyings ≡ true
  pub rises : rising S.varyings ≡ true

pub good : (S : StageIo) → out_good S ≡ true → Good S
unfolding out_good
good S h = record { few = search (leb-true, first); payload = search (first, second); encodable = search (first, second); rises = search second }

pub is_good : (S : StageIo) → Good S → out_good S ≡ true
unfolding out_good
is_good S g = rw (le-leb (length S.varyings) 63 g.few, g.payload, g.encodable, g.rises)

-- ---- codes of the primitive index, both ways

pub code_back : (code : ℕ) → code < 3 → primitive_code (primitive_at code) ≡ code
code_back code h = eqb-true (primitive_code (primitive_at code)) code (below_all 3 (λ c. eqb (primitive_code (primitive_at c)) c) refl code h)

code_again : (p : Option Bool) → primitive_at (primitive_code p) ≡ p
code_again None = refl
code_again (Some false) = refl
code_again (Some true) = refl

pub code_below : (p : Option Bool) → primitive_code p < 3
code_below None = omega arith
code_below (Some false) = omega arith
code_below (Some true) = omega arith

-- ---- there and back

pub encode_decode : (ws : List ℕ) → out_well_formed ws ≡ true → encode_stage (decode_stage ws) ≡ ws
unfolding encode_stage decode_stage count_of
encode_decode [] h = absurd (omega (arith, (well_formed [] h).kind))
encode_decode (w ∷ []) h = absurd (omega (arith, (well_formed (w ∷ []) h).holds))
encode_decode (w ∷ p ∷ ws) h =
    let f : WellFormed (w ∷ p ∷ ws) = well_formed (w ∷ p ∷ ws) h in
    let k : kind_of w ≡ 11 = f.kind in
    let z : bits 24 16 w ≡ 0 = f.rest in
    let head : of_kind 11 (2 ^ 25 * bits 26 25 w + bits 15 0 w) ≡ w = omega arith in
    rw (
      code_back (bits 26 25 w) f.primitive,
      read_length 2 read_located (bits 15 0 w) ws,
      head,
      payload_written p f.payload,
      flat_read located_form (bits 15 0 w) ws (omega (arith, f.holds)) f.good,
    )

pub good_decode : (ws : List ℕ) → out_well_formed ws ≡ true → out_good (decode_stage ws) ≡ true
unfolding decode_stage
good_decode ws h =
    let f : WellFormed ws = well_formed ws h in
    is_good (decode_stage ws)
    (record {
      few = omega (arith, f.few, read_length 2 read_located (count_of ws) (drop 2 ws));
      payload = payload_encodable_lem (word_at ws 1);
      encodable = every_read located_form (count_of ws) (drop 2 ws) f.good;
      rises = f.rises;
    })

module _ (S : StageIo) (h : out_good S ≡ true) where
  head_kind : kind_of (word_at (encode_stage S) 0) ≡ 11
  unfolding encode_stage
  head_kind = omega (arith, (good S h).few, code_below S.primitive)

  head_primitive : bits 26 25 (word_at (encode_stage S) 0) ≡ primitive_code S.primitive
  unfolding encode_stage
  head_primitive = omega (arith, (good S h).few, code_below S.primitive)

  head_rest : bits 24 16 (word_at (encode_stage S) 0) ≡ 0
  unfolding encode_stage
  head_rest = omega (arith, (good S h).few, code_below S.primitive)

  pub head_count : count_of (encode_stage S) ≡ length S.varyings
  unfolding encode_stage count_of
  head_count = omega (arith, (good S h).few, code_below S.primitive)

  second_word : word_at (encode_stage S) 1 ≡ payload_word S.payload
  unfolding encode_stage
  second_word = refl

  tail : Carried 2 read_located located_good S.varyings S.room (drop 2 (encode_stage S))
  unfolding encode_stage
  tail = carried located_form S.varyings S.room (good S h).encodable

  words_length : length (encode_stage S) ≡ 2 + 2 * length S.varyings + length S.room
  unfolding encode_stage
  words_length = omega (arith, tail.long)

  pub decode_encode : decode_stage (encode_stage S) ≡ S
  unfolding decode_stage
  decode_encode =
      rw (head_count, head_primitive, second_word, payload_read S.payload (good S h).payload, code_again S.primitive, tail.again, tail.rest)

  pub well_formed_encode : out_well_formed (encode_stage S) ≡ true
  unfolding out_well_formed stage_head
  well_formed_encode =
      let g : Good S = good S h in
      rw (
        head_count,
        head_primitive,
        head_rest,
        head_kind,
        second_word,
        lt-ltb (primitive_code S.primitive) 3 (code_below S.primitive),
        le-leb (length S.varyings) 63 g.few,
        le-leb (2 + 2 * length S.varyings) (length (encode_stage S)) (omega (arith, words_length)),
        payload_well_formed_lem S.payload g.payload,
        tail.again,
        tail.pass,
        g.rises,
      )

-- the same of a list of at most 1,024 words
pub stage_good_decode : (ws : List ℕ) → stage_well_formed ws ≡ true → stage_good (decode_stage ws) ≡ true
stage_good_decode ws h =
    let o : out_well_formed ws ≡ true = search second in
    let s : length ws ≤ 1024 = search (leb-true, first) in
    let g = good_decode ws o in
    let n = 2 + 2 * length (decode_stage ws).varyings + length (decode_stage ws).room in
    and_from (leb n 1024) (out_good (decode_stage ws)) (le-leb n 1024 (omega (arith, words_length (decode_stage ws) g, ap length (encode_decode ws o)))) g

pub stage_well_formed_encode : (S : StageIo) → stage_good S ≡ true → stage_well_formed (encode_stage S) ≡ true
stage_well_formed_encode S h =
    let g : out_good S ≡ true = search second in
    let s : 2 + 2 * length S.varyings + length S.room ≤ 1024 = search (leb-true, first) in
    and_from (leb (length (encode_stage S)) 1024) (out_well_formed (encode_stage S))
    (le-leb (length (encode_stage S)) 1024 (omega (arith, words_length S g))) (well_formed_encode S g)
