-- A size list and its words: what is well formed is exactly what the writer makes.
use Prim.Native.Nat.{ℕ, ◌+◌, ◌*◌, ◌≤◌, ◌^◌, ◌<◌}
use native.Mathlib.Omega.{arith}
use mathlib.Core.Path.{◌≡◌, refl, sym}
use mathlib.Core.Bool.{true, not}
use mathlib.Core.List.{List, [], ◌∷◌, ◌++◌}
use lib.ListN.{length, drop}
use borrow.Author.Tests.{eqb-true, leb-true, le-leb, ltb-true, lt-ltb}
use Rattle.word.specs.Words.{word_at, kind_of, bits, of_kind, content_of}
use Rattle.word.proofs.Truth.{first, second}
use Rattle.sizes.specs.Meaning.{Sizes, distinct_sizes}
use Rattle.word.specs.Lists.{every}
use Rattle.places.specs.Records.{each, count_of}
use Rattle.sizes.specs.Format.{read_size, size_good, size_record_words, size_encodable, read_sizes, sizes_head, sizes_well_formed, decode_sizes, encode_sizes, sizes_good}
use Rattle.places.proofs.Records.{Joined, Carried, read_length, room_length, flat_read, every_read, carried}
use Rattle.places.proofs.Words.{two}
use lib.Dec.{eqb}
use Rattle.bindings.specs.Format.{place_encodable}
use Rattle.bindings.proofs.ResourceFormat.{size_word_lem}
use Rattle.bindings.proofs.ReadLaws.{place_encodable_lem}
use Rattle.bindings.proofs.EntryFormat.{place_well_formed_lem, place_read, place_back}
use Rattle.sizes.specs.declared.size_record.SizeRecord.{SizeRecord}

-- ---- the two words of a record

size_kept : (ws : List ℕ) → size_good ws ≡ true → size_encodable (read_size ws) ≡ true
size_kept ws h =
    let n : not (eqb (content_of (word_at ws 1)) 0) ≡ true = search second in
    rw (place_encodable_lem (word_at ws 0), lt-ltb (content_of (word_at ws 1)) (2 ^ 27) (omega arith), n)

size_again : (s : SizeRecord) (ws : List ℕ) → size_encodable s ≡ true → read_size (size_record_words s ++ ws) ≡ s
size_again s ws h =
    let p : place_encodable s.bind ≡ true = search first in
    let l : s.size < 2 ^ 27 = search (ltb-true, first, second) in
    let c : content_of (of_kind 6 s.size) ≡ s.size = omega arith in
    rw (place_read s.bind p, c)

size_passed : (s : SizeRecord) (ws : List ℕ) → size_encodable s ≡ true → size_good (size_record_words s ++ ws) ≡ true
size_passed s ws h =
    let p : place_encodable s.bind ≡ true = search first in
    let l : s.size < 2 ^ 27 = search (ltb-true, first, second) in
    let n : not (eqb s.size 0) ≡ true = search second in
    let c : content_of (of_kind 6 s.size) ≡ s.size = omega arith in
    let k : kind_of (of_kind 6 s.size) ≡ 6 = omega arith in
    rw (place_well_formed_lem s.bind p, k, c, n)

pub size_form : Joined 2 read_size size_record_words size_good size_encodable
size_form =
    record {
      wide = λ s. refl;
      written = λ ws h t. rw (place_back (word_at ws 0) (search first), size_word_lem (word_at ws 1) (search second)) (sym (two ws h));
      kept = size_kept;
      again = size_again;
      passed = size_passed;
    }

-- ---- what well-formed words say

pub record WellFormed (ws : List ℕ) : Type 0 where
  pub short : length ws ≤ 1024
  pub kind : kind_of (word_at ws 0) ≡ 20
  pub rest : bits 26 16 (word_at ws 0) ≡ 0
  pub holds : 1 + 2 * count_of ws ≤ length ws
  pub good : each 2 size_good (count_of ws) (drop 1 ws) ≡ true
  pub distinct : distinct_sizes (read_sizes (count_of ws) (drop 1 ws)) ≡ true

pub well_formed : (ws : List ℕ) → sizes_well_formed ws ≡ true → WellFormed ws
unfolding sizes_well_formed sizes_head
well_formed ws h =
    record {
      short = search (leb-true, first);
      kind = search (eqb-true, first, second);
      rest = search (eqb-true, first, second);
      holds = search (leb-true, first, second) depth 6;
      good = search (first, second) depth 7;
      distinct = search second depth 7;
    }

pub record Good (S : Sizes) : Type 0 where
  pub short : 1 + 2 * length S.records + length S.room ≤ 1024
  pub encodable : every size_encodable S.records ≡ true
  pub distinct : distinct_sizes S.records ≡ true

pub good : (S : Sizes) → sizes_good S ≡ true → Good S
unfolding sizes_good
good S h = record { short = search (leb-true, first); encodable = search (first, second); distinct = search second }

pub is_good : (S : Sizes) → Good S → sizes_good S ≡ true
unfolding sizes_good
is_good S g = rw (le-leb (1 + 2 * length S.records + length S.room) 1024 g.short, g.encodable, g.distinct)

-- ---- there and back

pub encode_decode : (ws : List ℕ) → sizes_well_formed ws ≡ true → encode_sizes (decode_sizes ws) ≡ ws
unfolding encode_sizes decode_sizes count_of
encode_decode [] h = absurd (omega (arith, (well_formed [] h).kind))
encode_decode (w ∷ ws) h =
    let f : WellFormed (w ∷ ws) = well_formed (w ∷ ws) h in
    let k : kind_of w ≡ 20 = f.kind in
    let z : bits 26 16 w ≡ 0 = f.rest in
    let head : of_kind 20 (bits 15 0 w) ≡ w = omega arith in
    rw (read_length 2 read_size (bits 15 0 w) ws, head, flat_read size_form (bits 15 0 w) ws (omega (arith, f.holds)) f.good)

pub good_decode : (ws : List ℕ) → sizes_well_formed ws ≡ true → sizes_good (decode_sizes ws) ≡ true
unfolding decode_sizes count_of
good_decode [] h = absurd (omega (arith, (well_formed [] h).kind))
good_decode (w ∷ ws) h =
    let f : WellFormed (w ∷ ws) = well_formed (w ∷ ws) h in
    let n = bits 15 0 w in
    is_good (decode_sizes (w ∷ ws))
    (record {
      short = omega (arith, f.short, f.holds, read_length 2 read_size n ws, room_length 2 n ws);
      encodable = every_read size_form n ws f.good;
      distinct = f.distinct;
    })

module _ (S : Sizes) (h : sizes_good S ≡ true) where
  head_kind : kind_of (word_at (encode_sizes S) 0) ≡ 20
  unfolding encode_sizes
  head_kind = omega (arith, (good S h).short)

  head_rest : bits 26 16 (word_at (encode_sizes S) 0) ≡ 0
  unfolding encode_sizes
  head_rest = omega (arith, (good S h).short)

  head_count : count_of (encode_sizes S) ≡ length S.records
  unfolding encode_sizes count_of
  head_count = omega (arith, (good S h).short)

  tail : Carried 2 read_size size_good S.records S.room (drop 1 (encode_sizes S))
  unfolding encode_sizes
  tail = carried size_form S.records S.room (good S h).encodable

  words_length : length (encode_sizes S) ≡ 1 + 2 * length S.records + length S.room
  unfolding encode_sizes
  words_length = omega (arith, tail.long)

  pub decode_encode : decode_sizes (encode_sizes S) ≡ S
  unfolding decode_sizes
  decode_encode = rw (head_count, tail.again, tail.rest)

  pub well_formed_encode : sizes_well_formed (encode_sizes S) ≡ true
  unfolding sizes_well_formed sizes_head
  well_formed_encode =
      let g : Good S = good S h in
      rw (
        head_count,
        head_rest,
        head_kind,
        tail.again,
        tail.pass,
        le-leb (length (encode_sizes S)) 1024 (omega (arith, words_length, g.short)),
        le-leb (1 + 2 * length S.records) (length (encode_sizes S)) (omega (arith, words_length)),
        g.distinct,
      )
