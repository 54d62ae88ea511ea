use Rattle.std.proofs.Common.{ne_eqb}
use Rattle.pack_check.proofs.CheckPack.{damaged_short, damaged_long, damaged_total, damaged_sum}
use Rattle.pack_check.proofs.check_pack.is_damaged.Goals as goal
use Rattle.pack_check.proofs.check_pack.is_damaged.Goals.{then-n-lt16-via-then-n-lt16, then-n-lt16-via-else-n-lt16+then-n-gt4096}

pub returns-then-n-lt16 : goal.returns-then-n-lt16
returns-then-n-lt16 c =
    elim c.then-n-lt16.branch [ then-n-lt16-via-then-n-lt16 w ↦ search damaged_short | then-n-lt16-via-else-n-lt16+then-n-gt4096 w ↦ search damaged_long ]

pub returns-then-word-n : goal.returns-then-word-n
returns-then-word-n c = rw (ne_eqb _ _ c.if-word-n.true) (search damaged_total)

pub returns-else-word-n : goal.returns-else-word-n
returns-else-word-n c = search damaged_sum
