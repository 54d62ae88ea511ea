-- What a pack is refused for, by number.
use Rattle.std.specs.Prelude.{ℕ, Result, Ok, Err}
use Rattle.word.specs.Numbers as Number
use Rattle.word.specs.Refusals.{refusal}
use Rattle.word.specs.declared.refusal.Refusal.{Refusal}
use Rattle.word.specs.declared.refusal.Number.TheVariants.{DamagedPack, MalformedPack}
use Rattle.pack_check.specs.declared.check_pack.PackError.{PackError}
use Rattle.pack_check.specs.declared.check_pack.PackError.TheVariants.{Damaged, Malformed}

abbrev pub error_number : PackError → ℕ
error_number Damaged = Number.damaged_pack
error_number Malformed = Number.malformed_pack

-- 0 where the pack is accepted
abbrev pub pack_number : Result (Unit {0}) PackError → ℕ
pack_number (Ok _) = 0
pack_number (Err error) = error_number error

-- its refusal, with no details
abbrev pub pack_refusal : PackError → Refusal
pack_refusal Damaged = refusal DamagedPack 0 0 0
pack_refusal Malformed = refusal MalformedPack 0 0 0
