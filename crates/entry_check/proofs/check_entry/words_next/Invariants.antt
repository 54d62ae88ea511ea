use Rattle.std.proofs.Common.{◌≡◌, ℕ, Bool, true, ◌<◌, ◌^◌, take}
use Rattle.std.specs.List.{list_all}
use Rattle.entry_check.proofs.check_entry.words_next.Given as goal

abbrev pub invariant-loop-w : goal.invariant-loop-w
invariant-loop-w g l =
    (passes : ℕ → Bool) → ((w : ℕ) (b : Bool) → w < 2 ^ 32 → goal.F-post g l.test w b → b ≡ passes w) → list_all passes (take l.w-index l.words) ≡ true
