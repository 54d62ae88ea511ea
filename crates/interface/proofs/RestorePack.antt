-- A pack that decodes is the encoding of what it decodes to, word for word.
use Prim.Native.Nat.{ℕ, zero, suc, ◌+◌, ◌-◌, ◌*◌, ◌^◌}
use native.Mathlib.Omega.{arith}
use mathlib.Core.Path.{◌≡◌, refl, sym, ap, ◌∙◌}
use mathlib.Core.Bool.{true}
use mathlib.Core.List.{List, [], ◌∷◌, ◌++◌, append-nil}
use borrow.Author.Tests.{eqb-true}
use lib.ListN.{length, drop, length-map, take-append-drop, drop_of_length-le}
use lib.Seq.{length-take-le, split_at}
use Rattle.word.specs.Words.{word_at, kind_of, content_of, bits, of_kind, is_word, closing_sum}
use Rattle.word.specs.Parse.{got}
use Rattle.word.specs.Lists.{flat, every}
use Rattle.word.proofs.Truth.{first, second}
use Rattle.word.proofs.Lists.{every_any, every_others, every_before, every_behind}
use Rattle.word.proofs.ParseReads.{picked}
use Rattle.bindings.specs.Format.{read_resource, resource_words}
use Rattle.bindings.proofs.ResourceFormat.{read_back}
use Rattle.interface.specs.Meaning.{Interface}
use Rattle.interface.specs.Format.{of_word, contents, limits_of, limit_numbers, limit_word, entry_point_words, read_entry_point, edition_well_formed, totals_well_formed, distinct_names, read_pack}
use Rattle.interface.specs.Format.{record_words, open_words, encode, body, Pack, decode}
use Rattle.interface.proofs.EncodePack.{records_on, laid}
use Rattle.interface.proofs.ReadsPack.{Sound, decoded}
use Rattle.interface.proofs.RestoreRecords.{got_as, one_then, several_then, words_then}
use Rattle.interface.proofs.RestoreEntry.{kind_back, contents_map, entry_back}

-- ---- the limits

-- words by their positions, from one on
abbrev standing : ℕ → ℕ → List ℕ → List ℕ
standing zero at ws = []
standing (suc n) at ws = word_at ws at ∷ standing n (suc at) ws

-- behind a first word, each word stands one position on
standing_behind : (n at w : ℕ) (ws : List ℕ) → standing n (suc at) (w ∷ ws) ≡ standing n at ws
standing_behind zero at w ws = refl
standing_behind (suc n) at w ws = rw (standing_behind n (suc at) w ws)

-- the words from the first position on are all the words
standing_whole : (ws : List ℕ) → standing (length ws) 0 ws ≡ ws
standing_whole [] = refl
standing_whole (w ∷ ws) = rw (standing_behind (length ws) 0 w ws, standing_whole ws)

-- the limits of thirteen words are the contents of the words
limits_back : (ws : List ℕ) → length (contents ws) ≡ 13 → limit_numbers (limits_of ws) ≡ contents ws
unfolding contents
limits_back ws l =
    let n : length ws ≡ 13 = rw (contents_map ws, length-map ws content_of) at l in
    rw n at (ap contents (standing_whole ws))

-- ---- the records

-- a pack's words before the closing one: the first, and those of the records
record Opened (ws : List ℕ) (i : Interface) (rest : List ℕ) : Type 0 where
  edition : ℕ
  well_formed : edition_well_formed edition ≡ true
  words : ws ≡ edition ∷ records_on i rest

-- the second word, from its kind and its two counts
totals_back : (w a b : ℕ) → totals_well_formed w ≡ true → a ≡ bits 26 16 w → b ≡ bits 15 0 w → of_kind 2 (2 ^ 16 * a + b) ≡ w
totals_back w a b h p q = let k : kind_of w ≡ 2 = search (eqb-true, first) in omega arith

-- the records that were read, written again, are what stood there
records_back : (ws : List ℕ) (i : Interface) (rest : List ℕ) → every is_word ws ≡ true → read_pack ws ≡ got i rest → Opened ws i rest
unfolding read_pack
records_back ws i rest h g =
    one_then edition_well_formed ws _ i rest g λ edition r₁ f₁ q₁ g₁.
    one_then totals_well_formed r₁ _ i rest g₁ λ totals r₂ f₂ q₂ g₂.
    words_then (of_word 3) content_of limit_word (λ w t. rw (kind_back 3 w t)) contents contents_map 13 r₂ _ i rest g₂ λ limits r₃ l₃ q₃ g₃.
    several_then (λ w. true) resource_words read_resource (λ ws r rest h e. read_back ws r rest e) (bits 26 16 totals) r₃ _ i rest (every_any r₃) g₃ λ resources r₄ l₄ q₄ g₄.
    let h₁ : every is_word r₁ ≡ true = every_others is_word edition r₁ (rw q₁ at h) in
    let h₂ : every is_word r₂ ≡ true = every_others is_word totals r₂ (rw q₂ at h₁) in
    let h₃ : every is_word r₃ ≡ true = every_behind is_word (flat limit_word (contents limits)) r₃ (rw q₃ at h₂) in
    let h₄ : every is_word r₄ ≡ true = every_behind is_word (flat resource_words resources) r₄ (rw q₄ at h₃) in
    several_then is_word entry_point_words (read_entry_point resources) (entry_back resources) (bits 15 0 totals) r₄ _ i rest h₄ g₄ λ entries r₅ l₅ q₅ g₅.
    let (d, g₆) = picked (distinct_names entries) _ i rest g₅ in
    got_as (λ i rest. Opened ws i rest) _ i r₅ rest g₆
    (record {
      edition = edition;
      well_formed = f₁;
      words = rw (q₁, q₂, q₃, q₄, q₅, totals_back totals (length resources) (length entries) f₂ l₄ l₅, limits_back limits l₃);
    })

-- ---- the pack

-- the first word, from its kind, its edition and the count of words
edition_back : (w n : ℕ) → edition_well_formed w ≡ true → bits 15 0 w ≡ n → w ≡ of_kind 1 (2 ^ 16 * 1 + n)
edition_back w n h e =
    let k : kind_of w ≡ 1 = search (eqb-true, first) in
    let b : bits 26 16 w ≡ 1 = search (eqb-true, second) in
    omega arith

module _ (ws : List ℕ) (i : Interface) (h : every is_word ws ≡ true) (e : decode ws ≡ Pack i) where
  abbrev last : ℕ
  last = word_at ws (length ws - 1)

  sound : Sound ws
  sound = (decoded ws i e).0

  -- the words before the last, and the last
  closed : ws ≡ body ws ++ (last ∷ [])
  closed = split_at ws (length ws - 1) 0 (omega (arith, sound.long)) ∙ rw (drop_of_length-le ws {i = suc (length ws - 1)} (omega arith))

  -- the words before the last, as they were read
  before : every is_word (body ws) ≡ true
  before = every_before is_word (body ws) (drop (length ws - 1) ws) (rw (take-append-drop (length ws - 1) ws) h)

  opened : Opened (body ws) i []
  opened = records_back (body ws) i [] before (decoded ws i e).1

  listed : body ws ≡ opened.edition ∷ record_words i
  listed = opened.words ∙ rw (← laid i [], append-nil (record_words i))

  -- the count of words, and the first word
  written : length ws ≡ length (record_words i) + 2
  written = omega (arith, sound.long, ap length listed, length-take-le (length ws - 1) ws (omega arith))

  first_word : word_at ws 0 ≡ opened.edition
  first_word = let s : ws ≡ opened.edition ∷ (record_words i ++ (last ∷ [])) = rw listed at closed in ap (λ (l : List ℕ). word_at l 0) s

  -- the words before the last, and the pack, as they are written
  open_words_lem : open_words i ≡ body ws
  open_words_lem =
      let f : opened.edition ≡ of_kind 1 (2 ^ 16 * 1 + (length (record_words i) + 2)) =
      edition_back opened.edition (length (record_words i) + 2) opened.well_formed (rw (← first_word, sound.counted) written) in
      rw (listed, f)

  encoded : encode i ≡ ws
  unfolding encode closing_sum
  encoded = rw (open_words_lem, ← sound.summed) (rw (← open_words_lem) at (sym closed))

-- a pack that decodes is the encoding of what it decodes to
pub encode_decode : (ws : List ℕ) (i : Interface) → every is_word ws ≡ true → decode ws ≡ Pack i → encode i ≡ ws
encode_decode ws i h e = encoded ws i h e
