-- A pack that was written is accepted, and read as what was written.
use Prim.Native.Nat.{ℕ, suc, ◌+◌, ◌-◌, ◌*◌, ◌%◌, ◌^◌, ◌<◌, ◌≤◌}
use native.Mathlib.Omega.{arith}
use mathlib.Core.Path.{◌≡◌, refl, ap}
use mathlib.Core.Bool.{true, false}
use mathlib.Core.List.{List, [], ◌∷◌, ◌++◌, append_assoc, append-nil}
use borrow.Author.Tests.{leb-true, le-leb, le-ltb, eq-eqb}
use lib.ListN.{length, length-append}
use lib.Seq.{take_at, get_or_at}
use Rattle.word.specs.Words.{word_at, kind_of, bits, of_kind, sum_of, closing_sum, content}
use Rattle.word.specs.Parse.{got, one, several}
use Rattle.word.specs.Lists.{flat, every}
use Rattle.bindings.specs.Format.{read_resource, resource_words, resource_encodable}
use Rattle.bindings.proofs.ResourceFormat.{words_read}
use Rattle.word.proofs.Lists.{every_first, every_others}
use Rattle.interface.specs.Meaning.{Interface}
use Rattle.interface.specs.Format.{most_words, most_resources, most_entries, of_word, contents, entry_point_words, read_entry_point, limits_by, limits_of, limit_word, limit_words, record_words, open_words, read_pack, distinct_names, encode, body, damaged, decode, Pack}
use Rattle.interface.specs.Format.{limit_numbers}
use Rattle.interface.specs.Encodable.{entry_point_encodable, interface_encodable}
use Rattle.interface.specs.declared.types.Limits.{Limits}
use Rattle.interface.proofs.EncodeRecords.{words_got, records_got}
use Rattle.interface.proofs.EncodeEntry.{Of, of_kind_lem, Listed, both_then, entry_got}

-- ---- the limits

numbers : (ns : List ℕ) → every content ns ≡ true → Listed (of_word 3) contents ns (flat limit_word ns)
unfolding every contents flat
numbers [] h = record { well_formed = refl; again = refl; counted = refl }
numbers (n ∷ ns) h =
    let w : Of 3 n (of_kind 3 n) = of_kind_lem 3 n (every_first content n ns h) in
    let l : Listed (of_word 3) contents ns (flat limit_word ns) = numbers ns (every_others content n ns h) in
    record { well_formed = rw w.is l.well_formed; again = rw (w.holds, l.again); counted = ap suc l.counted }

limits_got : (l : Limits) (rest : List ℕ) → every content (limit_numbers l) ≡ true → several 13 (one (of_word 3)) (limit_words l ++ rest) ≡ got (limit_words l) rest
unfolding flat
limits_got l rest h = words_got (of_word 3) (limit_words l) rest (numbers (limit_numbers l) h).well_formed

abbrev limits_from : List ℕ → Limits
limits_from ns =
    limits_by (word_at ns 0) (word_at ns 1) (word_at ns 2) (word_at ns 3) (word_at ns 4) (word_at ns 5) (word_at ns 6)
    (word_at ns 7) (word_at ns 8) (word_at ns 9) (word_at ns 10) (word_at ns 11) (word_at ns 12)

limits_again : (l : Limits) → every content (limit_numbers l) ≡ true → limits_of (limit_words l) ≡ l
unfolding contents flat
limits_again l h = ap limits_from (numbers (limit_numbers l) h).again

-- ---- the records

pub record EncodablePack (i : Interface) : Type 0 where
  pub limits : every content (limit_numbers i.limits) ≡ true
  pub few_resources : length i.resources ≤ most_resources
  pub few_entries : length i.entries ≤ most_entries
  pub resources : every resource_encodable i.resources ≡ true
  pub entries : every (entry_point_encodable i.resources) i.entries ≡ true
  pub distinct : distinct_names i.entries ≡ true
  pub short : length (encode i) ≤ most_words

encodable_pack : (i : Interface) → interface_encodable i ≡ true → EncodablePack i
unfolding interface_encodable
encodable_pack i h =
    both_then _ _ h λ limits h.
    both_then _ _ h λ few_resources h.
    both_then _ _ h λ few_entries h.
    both_then _ _ h λ resources h.
    both_then _ _ h λ entries h.
    both_then _ _ h λ distinct short.
    record {
      limits = limits;
      few_resources = leb-true (length i.resources) most_resources few_resources;
      few_entries = leb-true (length i.entries) most_entries few_entries;
      resources = resources;
      entries = entries;
      distinct = distinct;
      short = leb-true (length (encode i)) most_words short;
    }

-- a word of two numbers
pub record Two (kind high low w : ℕ) : Type 0 where
  pub is : kind_of w ≡ kind
  pub upper : bits 26 16 w ≡ high
  pub lower : bits 15 0 w ≡ low

two : (kind high low : ℕ) → high < 2 ^ 11 → low < 2 ^ 16 → Two kind high low (of_kind kind (2 ^ 16 * high + low))
two kind high low h l = omega arith

-- the records with what stands behind them
abbrev pub records_on : Interface → List ℕ → List ℕ
records_on i rest =
    of_kind 2 (2 ^ 16 * length i.resources + length i.entries)
    ∷ (limit_words i.limits ++ (flat resource_words i.resources ++ (flat entry_point_words i.entries ++ rest)))

pub laid : (i : Interface) (rest : List ℕ) → record_words i ++ rest ≡ records_on i rest
unfolding record_words
laid i rest = simp append_assoc

module _ (i : Interface) (h : EncodablePack i) where
  written : length (encode i) ≡ length (record_words i) + 2
  unfolding encode
  written = simp length-append (omega arith)

  long : 14 ≤ length (record_words i)
  unfolding record_words flat
  long = simp length-append (omega arith)

  edition : Two 1 1 (length (record_words i) + 2) (of_kind 1 (2 ^ 16 * 1 + (length (record_words i) + 2)))
  edition = two 1 1 (length (record_words i) + 2) (omega arith) (omega (arith, written, h.short))

  totals : Two 2 (length i.resources) (length i.entries) (of_kind 2 (2 ^ 16 * length i.resources + length i.entries))
  totals = two 2 (length i.resources) (length i.entries) (omega (arith, h.few_resources)) (omega (arith, h.few_entries))

  records_read : (rest : List ℕ) → read_pack (open_words i ++ rest) ≡ got i rest
  unfolding read_pack
  records_read rest =
      let entries_on : List ℕ = flat entry_point_words i.entries ++ rest in
      rw (
        edition.is,
        edition.upper,
        laid i rest,
        totals.is,
        totals.upper,
        totals.lower,
        le-leb (length i.resources) most_resources h.few_resources,
        le-leb (length i.entries) most_entries h.few_entries,
        limits_got i.limits (flat resource_words i.resources ++ entries_on) h.limits,
        limits_again i.limits h.limits,
        totals.upper,
        records_got read_resource resource_words resource_encodable words_read i.resources entries_on h.resources,
        totals.lower,
        records_got (read_entry_point i.resources) entry_point_words (entry_point_encodable i.resources) (entry_got i.resources h.few_resources) i.entries rest h.entries,
        h.distinct,
      )

  -- ---- the pack

  abbrev sum : ℕ
  sum = sum_of (open_words i) % 2 ^ 32

  before_last : length (open_words i) ≡ length (encode i) - 1
  before_last = omega (arith, written)

  body_is : body (encode i) ≡ open_words i
  unfolding encode
  body_is = take_at (open_words i) (sum ∷ []) (length (encode i) - 1) before_last

  last_is : word_at (encode i) (length (encode i) - 1) ≡ sum
  unfolding encode
  last_is = get_or_at (open_words i) sum [] 0 (length (encode i) - 1) before_last

  sum_is : closing_sum (encode i) ≡ sum
  unfolding closing_sum
  sum_is = rw body_is

  first_lower : bits 15 0 (word_at (encode i) 0) ≡ length (record_words i) + 2
  unfolding encode
  first_lower = edition.lower

  total : bits 15 0 (word_at (encode i) 0) ≡ length (encode i)
  total = rw written first_lower

  whole_pack : damaged (encode i) ≡ false
  unfolding damaged
  whole_pack =
      let n : ℕ = length (encode i) in
      rw (le-ltb n 16 (omega (arith, written, long)), le-ltb most_words n h.short, total, eq-eqb n n refl, last_is, sum_is, eq-eqb sum sum refl)

  decoded : decode (encode i) ≡ Pack i
  unfolding decode
  decoded = rw (whole_pack, body_is, ← append-nil (open_words i), records_read [])

-- decoding what was encoded gives the meaning back
pub decode_encode : (i : Interface) → interface_encodable i ≡ true → decode (encode i) ≡ Pack i
decode_encode i h = decoded i (encodable_pack i h)
