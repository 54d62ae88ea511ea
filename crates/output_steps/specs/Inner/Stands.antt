-- The entry point that the code's words mean.
use Rattle.interface.specs.Inner.Reads.{standing}
use Rattle.interface.specs.Meaning as Meaning
use Rattle.output_steps.specs.declared.types.EntryPoint.{EntryPoint}

abbrev pub meant : EntryPoint → Meaning.EntryPoint
meant e = standing e.pack.now e.parts
