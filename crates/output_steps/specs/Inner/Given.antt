-- What the steps that look at outputs are given.
use Rattle.std.specs.Prelude.{ℕ, ◌*◌, ◌≤◌, ◌≡◌, List}
use Rattle.interface.specs.Inner.Reads.{standing}
use Rattle.interface.specs.declared.types.EntryParts.{EntryParts}
use Rattle.output_steps.specs.Inner.Summary.{summary_of}
use Rattle.output_steps.specs.declared.types.Summary.{Summary}

-- what stands among the outputs of the entry point at these parts
pub record Summed (ws : List ℕ) (p : EntryParts) (s : Summary) : Type 0 where
  pub outputs : s ≡ summary_of (standing ws p).outputs
  pub locals : s.locals ≤ 63
  pub clip : s.clip_slots ≤ 63 * 64
