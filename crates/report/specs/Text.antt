-- Bytes to words, and numbers to text.
use Rattle.std.specs.Prelude.{ℕ, zero, suc, ◌+◌, ◌*◌, ◌/◌, ◌%◌, ◌^◌, List, [], ◌∷◌, ◌++◌, ltb}
use Rattle.word.specs.Choice.{pick}
use Rattle.word.specs.declared.answer.Answer.{Answer}

-- a word of four bytes, low byte first
abbrev pub word_of : ℕ → ℕ → ℕ → ℕ → ℕ
word_of a b c d = a + 2 ^ 8 * b + 2 ^ 16 * c + 2 ^ 24 * d

-- 'a pack's bytes, low byte first'; what is left over at the end is no word
unfoldable pub words_of : List ℕ → List ℕ
words_of [] = []
words_of (a ∷ []) = []
words_of (a ∷ b ∷ []) = []
words_of (a ∷ b ∷ c ∷ []) = []
words_of (a ∷ b ∷ c ∷ d ∷ bytes) = word_of a b c d ∷ words_of bytes

-- the byte between two numbers
abbrev pub space : ℕ
space = 32

-- the byte that ends a line
abbrev pub newline : ℕ
newline = 10

-- the decimal digits of a number of at most so many digits, none before the first that is not 0
unfoldable pub digits : ℕ → ℕ → List ℕ
digits zero n = []
digits (suc k) n = let rest = digits k (n / 10) in pick (ltb n 10) ((48 + n) ∷ []) (rest ++ ((48 + n % 10) ∷ []))

-- a 32-bit number in decimal
abbrev pub decimal : ℕ → List ℕ
decimal n = digits 10 n

-- a hex digit, lower case
abbrev pub hex_digit : ℕ → ℕ
hex_digit d = pick (ltb d 10) (48 + d) (87 + d)

-- the four digits of half a word
unfoldable pub hex_half : ℕ → List ℕ
hex_half h = hex_digit (h / 2 ^ 12 % 16) ∷ hex_digit (h / 2 ^ 8 % 16) ∷ hex_digit (h / 2 ^ 4 % 16) ∷ hex_digit (h % 16) ∷ []

-- 'lower-case hex', eight digits and a new line
unfoldable pub hex_line : ℕ → List ℕ
hex_line w = hex_half (w / 2 ^ 16) ++ (hex_half (w % 2 ^ 16) ++ (newline ∷ []))

-- a line for each word
unfoldable pub hex_lines : List ℕ → List ℕ
hex_lines [] = []
hex_lines (w ∷ ws) = hex_line w ++ hex_lines ws

-- 'number, three details, in decimal', and a new line
unfoldable pub answer_text : Answer → List ℕ
answer_text a =
    decimal a.number ++ (space ∷ (decimal a.first ++ (space ∷ (decimal a.second ++ (space ∷ (decimal a.third ++ (newline ∷ [])))))))

-- 'Per stage a line: stage code, number, three details'
unfoldable pub line : ℕ → Answer → List ℕ
line stage a = decimal stage ++ (space ∷ answer_text a)
