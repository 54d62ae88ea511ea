-- Records of a width, one after the other in the words of a list.
use Rattle.std.specs.Prelude.{ℕ, zero, suc, ◌+◌, Bool, true, false, List, [], ◌∷◌, ◌++◌, leb, length, drop, take}
use Rattle.word.specs.Choice.{pick}
use Rattle.word.specs.Words.{word_at, bits}

-- 'Lists have at most 1,024 words'
abbrev pub most_list_words : ℕ
most_list_words = 1024

-- free room included
abbrev pub short_enough : List ℕ → Bool
short_enough ws = leb (length ws) most_list_words

-- how many records a list counts: 'entries 15–0', 'count 15–0', 'varyings 15–0' of its first word
unfoldable pub count_of : List ℕ → ℕ
count_of ws = bits 15 0 (word_at ws 0)

-- the words behind as many records of some width
unfoldable pub past : ℕ → ℕ → List ℕ → List ℕ
past width zero ws = ws
past width (suc n) ws = past width n (drop width ws)

-- the records of a width from the start of the words, each read at its first word
unfoldable pub records : {A : Type 0} → ℕ → (List ℕ → A) → ℕ → List ℕ → List A
records width read zero ws = []
records width read (suc n) ws = let rest = records width read n (drop width ws) in read ws ∷ rest

-- whether each of them passes a test
unfoldable pub each : ℕ → (List ℕ → Bool) → ℕ → List ℕ → Bool
each width test zero ws = true
each width test (suc n) ws = let rest = each width test n (drop width ws) in pick (test ws) rest false

-- words written over those from a position on
unfoldable pub put : List ℕ → ℕ → List ℕ → List ℕ
put l at ws = take at l ++ (ws ++ drop (at + length ws) l)

-- a new record of some words into the free room
abbrev pub room_for : ℕ → List ℕ → Bool
room_for words room = leb words (length room)
