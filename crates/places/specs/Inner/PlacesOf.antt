-- The places of records that are lent.
use Rattle.std.specs.Prelude.{ℕ, List}
use Rattle.bindings.specs.declared.types.ResourceBinding.{ResourceBinding}
use Rattle.places.specs.declared.places.Records.{Records}
use Rattle.places.specs.Places.{places}

abbrev pub places_of : {width : ℕ} → Records width → List ResourceBinding
places_of {width} r = places width r.n r.words.now
