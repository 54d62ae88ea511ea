-- Clip distances on the type at a position, by its words.
use Rattle.std.specs.Prelude.{ℕ, ◌+◌, ◌%◌, Bool, true, false, ◌&&◌, List, eqb, leb}
use Rattle.word.specs.Choice.{pick}
use Rattle.word.specs.Words.{word_at, kind_of, content_of, bits}
use Rattle.type_check.specs.Inner.Notes.{start_at, clip_word}
use Rattle.type_check.specs.declared.notes.TypeNote.{TypeNote}

abbrev pub f32_at : List ℕ → ℕ → Bool
f32_at ws at = eqb (kind_of (word_at ws at)) 22 && eqb (word_at ws at % 1024) 288

unfoldable pub clip_good_at : List ℕ → List TypeNote → ℕ → Bool
clip_good_at ws notes at =
    pick (eqb (kind_of (word_at ws at)) 22) false
    (pick (eqb (kind_of (word_at ws at)) 23)
    (f32_at ws (start_at notes (bits 15 0 (word_at ws at))) && (leb 1 (content_of (word_at ws (at + 1))) && leb (content_of (word_at ws (at + 1))) 255))
    true)

-- the type of a number with a binding that begins with a word
unfoldable pub binding_good_at : List ℕ → List TypeNote → ℕ → ℕ → Bool
binding_good_at ws notes n w = pick (clip_word w) (clip_good_at ws notes (start_at notes n)) true
