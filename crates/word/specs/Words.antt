-- Words of 32 bits (document 01, 'Packs and lists').
use Rattle.std.specs.Prelude.{ℕ, zero, suc, ◌+◌, ◌-◌, ◌*◌, ◌/◌, ◌%◌, ◌^◌, Bool, List, [], ◌∷◌, length, take, nat_lt, slice_index}

-- the word at a position, 0 past the end
abbrev pub word_at : List ℕ → ℕ → ℕ
word_at ws at = slice_index ws at

-- 'bits 31–27 are the kind'
abbrev pub kind_of : ℕ → ℕ
kind_of w = w / 2 ^ 27

-- 'the rest its content'
abbrev pub content_of : ℕ → ℕ
content_of w = w % 2 ^ 27

-- a number that the content can hold
abbrev pub content : ℕ → Bool
content n = nat_lt n (2 ^ 27)

-- a number that 32 bits hold
abbrev pub is_word : ℕ → Bool
is_word w = nat_lt w (2 ^ 32)

-- bits HIGH–LOW of a word, as document 01 writes them
abbrev pub bits : ℕ → ℕ → ℕ → ℕ
bits high zero w = w % 2 ^ suc high
bits high (suc low) w = w / 2 ^ suc low % 2 ^ (high - low)

-- one bit of a word
abbrev pub bit : ℕ → ℕ → ℕ
bit n w = bits n n w

-- a word of a kind and a content
abbrev pub of_kind : ℕ → ℕ → ℕ
of_kind kind n = 2 ^ 27 * kind + n

-- 'the sum'
unfoldable pub sum_of : List ℕ → ℕ
sum_of [] = 0
sum_of (w ∷ ws) = w + sum_of ws

-- 'the sum of all before it, with carries past bit 31 dropped': of all words before the last
unfoldable pub closing_sum : List ℕ → ℕ
closing_sum ws = sum_of (take (length ws - 1) ws) % 2 ^ 32
