use Rattle.std.proofs.Common.{◌≡◌, ◌∷◌, ◌+◌, ◌-◌, ◌*◌, length, take, drop}
use Rattle.places.specs.Records.{put}
use Rattle.stage_lists.proofs.list_out.shift.Given as goal

abbrev pub invariant-loop-i : goal.invariant-loop-i
invariant-loop-i l =
    (length l.out ≡ length l.initial.out)
    × (put l.initial.out l.from (l.first ∷ l.second ∷ take (2 * l.n) (drop l.from l.initial.out)) ≡ put l.out (l.from + 2 * l.i) (l.a ∷ l.b ∷ take (2 * (l.n - l.i)) (drop (l.from + 2 * l.i) l.out)))
