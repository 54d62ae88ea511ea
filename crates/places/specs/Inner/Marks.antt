-- Marks of places: places with different marks or bits differ, so most need not be compared.
use Rattle.std.specs.Prelude.{ℕ, ◌+◌, ◌*◌, ◌/◌, ◌%◌, ◌^◌, Bool, List, eqb, get_or}
use Rattle.bindings.specs.declared.types.ResourceBinding.{ResourceBinding}

-- which of 1,024 marks a place has: bindings below 128 in 8 groups have marks of their own, and so have those below 1,024 in one group
abbrev pub slot : ResourceBinding → ℕ
slot p = (p.binding % 1024 + 128 * (p.group % 8)) % 1024

-- a place has its mark
unfoldable pub marked : List ℕ → ResourceBinding → Bool
marked marks p = eqb (get_or marks (slot p) 0) 1

-- which of 64 bits a place has: bindings below 8 in 8 groups have bits of their own, and so have those below 64 in one group
abbrev pub bit_of : ResourceBinding → ℕ
bit_of p = (p.binding % 64 + (8 * p.group + p.binding / 2 ^ 20)) % 64

-- a place has its bit
unfoldable pub taken : ℕ → ResourceBinding → Bool
taken mask p = eqb (mask / 2 ^ bit_of p % 2) 1
