use Rattle.std.proofs.Common.{◌≡◌, true, ◌+◌, ◌-◌, ◌*◌, ◌≤◌, length, drop}
use Rattle.word.specs.Lists.{flat}
use Rattle.varying.specs.Format.{var_of, located_words}
use Rattle.places.specs.Records.{put, each}
use Rattle.stage_lists.specs.Meaning.{insert}
use Rattle.stage_lists.specs.Format.{located_good, read_varyings}
use Rattle.stage_lists.proofs.list_out.place.Given as goal

abbrev pub invariant-loop-i : goal.invariant-loop-i
invariant-loop-i l =
    (2 + 2 * l.n + 2 ≤ length l.out) × (each 2 located_good (l.n - l.i) (drop (2 + 2 * l.i) l.out) ≡ true)
    × (put l.initial.out 2 (flat located_words (insert (record { location = l.location; var = var_of l.var }) (read_varyings l.n (drop 2 l.initial.out)))) ≡ put l.out (2 + 2 * l.i) (flat located_words (insert (record { location = l.location; var = var_of l.var }) (read_varyings (l.n - l.i) (drop (2 + 2 * l.i) l.out)))))
    × (length (insert (record { location = l.location; var = var_of l.var }) (read_varyings l.n (drop 2 l.initial.out))) + (l.n - l.i) ≡ l.n + length (insert (record { location = l.location; var = var_of l.var }) (read_varyings (l.n - l.i) (drop (2 + 2 * l.i) l.out))))
