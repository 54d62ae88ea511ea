-- Payloads compared.
use Rattle.std.specs.Prelude.{Bool, true, false, eqb, Option, Some, None, ℕ}

-- present with size 0 differs from absent
unfoldable pub same_payload : Option ℕ → Option ℕ → Bool
same_payload None None = true
same_payload None (Some b) = false
same_payload (Some a) None = false
same_payload (Some a) (Some b) = eqb a b

abbrev pub payload_present : Option ℕ → Bool
payload_present None = false
payload_present (Some bytes) = true
