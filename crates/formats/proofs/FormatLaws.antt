-- A format that has no type, as a refusal.
use Rattle.std.proofs.Common.{◌≡◌, refl, Err}
use Rattle.word.specs.Refusals.{refusal_answer}
use Rattle.formats.specs.Formats.{FormatType, format_answer, format_refusal}
use Rattle.formats.specs.declared.formats.FormatError.{FormatError}
use Rattle.formats.specs.declared.formats.FormatError.TheVariants.{NoColour, Unknown}

refused_by : (e : FormatError) → refusal_answer (format_refusal e) ≡ format_answer (Err e)
refused_by NoColour = refl
refused_by Unknown = refl

pub format_refused : (e : FormatError) (d t : FormatType) → d ≡ t → d ≡ Err e → refusal_answer (format_refusal e) ≡ format_answer t
format_refused e d t h k = rw (← h, k) (refused_by e)
