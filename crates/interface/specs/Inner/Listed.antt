-- The varyings that the code's words mean.
use Rattle.std.specs.Prelude.{List, drop}
use Rattle.interface.specs.Inner.Reads.{varyings}
use Rattle.interface.specs.declared.types.Varying.{Varying}
use Rattle.interface.specs.declared.varyings.Varyings.{Varyings}

abbrev pub listed : Varyings → List Varying
listed v = varyings v.n (drop v.from v.pack.now)
