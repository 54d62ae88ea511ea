-- What the reader of resources reads: the resource that stands at the start, within the ranges that words can hold.
use Rattle.std.proofs.Common.{◌≡◌, ℕ, ◌^◌, ◌<◌, ◌≤◌, true, false, not, ◌&&◌, eqb, ltb, List, [], ◌∷◌, refl, ◌∙◌, arith, lt-ltb, eqb-true}
use borrow.Author.Tests.{eqb-false}
use Rattle.word.specs.Words.{word_at, kind_of, content_of, bits, bit}
use Rattle.word.specs.Parse.{fault, got}
use Rattle.bindings.specs.Rules.{storable}
use Rattle.bindings.specs.Format.{place_well_formed, place_of, place_encodable, type_code, bit_set, sample_kind_at, texture, space_at, space_encodable, buffer_well_formed, storage_well_formed, resource_type_well_formed, resource_word_well_formed}
use Rattle.bindings.specs.Format.{size_well_formed, is_buffer_word, resource, resource_type_of, read_resource, resource_at, type_encodable, resource_encodable, size_limit}
use Rattle.bindings.specs.declared.types.ImageClass.TheVariants as Class
use Rattle.bindings.specs.declared.types.ResourceType.{ResourceType}
use Rattle.bindings.specs.declared.types.ResourceType.TheVariants as Res
use Rattle.bindings.specs.declared.types.Resource.{Resource}
use Rattle.word.proofs.Truth.{first, second, by_test, never}

-- a fault is no resource
no_fault : {P : Type 0} (r : Resource) (rest : List ℕ) → fault ≡ got r rest → P
no_fault r rest h = let z : ◌≡◌ {A = ℕ} 0 1 = cc in absurd (omega arith)

-- a resource was read from two words, or from three
pub read_cases : {P : Type 0} (ws : List ℕ) (r : Resource) (rest : List ℕ) → read_resource ws ≡ got r rest
    → ((p t : ℕ) → place_well_formed p ≡ true → resource_word_well_formed t ≡ true → is_buffer_word t ≡ false → ws ≡ p ∷ t ∷ rest → r ≡ resource p t 0 → P)
    → ((p t s : ℕ) → place_well_formed p ≡ true → resource_word_well_formed t ≡ true → is_buffer_word t ≡ true → size_well_formed s ≡ true → ws ≡ p ∷ t ∷ s ∷ rest
    → r ≡ resource p t (content_of s) → P)
    → P
unfolding read_resource
read_cases [] r rest h two three = no_fault r rest h
read_cases (p ∷ []) r rest h two three = by_test (place_well_formed p) (λ e. no_fault r rest (rw e at h)) (λ e. no_fault r rest (rw e at h))
read_cases (p ∷ t ∷ []) r rest h two three =
    by_test (place_well_formed p)
    (λ e. by_test (resource_word_well_formed t)
    (λ f. by_test (is_buffer_word t) (λ g. no_fault r rest (rw (e, f, g) at h))
    (λ g. let k : got (resource p t 0) [] ≡ got r rest = rw (e, f, g) at h in two p t e f g (cc) (cc)))
    (λ f. no_fault r rest (rw (e, f) at h)))
    (λ e. no_fault r rest (rw e at h))
read_cases (p ∷ t ∷ s ∷ ws) r rest h two three =
    by_test (place_well_formed p)
    (λ e. by_test (resource_word_well_formed t)
    (λ f. by_test (is_buffer_word t)
    (λ g. by_test (size_well_formed s)
    (λ d. let k : got (resource p t (content_of s)) ws ≡ got r rest = rw (e, f, g, d) at h in three p t s e f g d (cc) (cc))
    (λ d. no_fault r rest (rw (e, f, g, d) at h)))
    (λ g. let k : got (resource p t 0) (s ∷ ws) ≡ got r rest = rw (e, f, g) at h in two p t e f g (cc) (cc)))
    (λ f. no_fault r rest (rw (e, f) at h)))
    (λ e. no_fault r rest (rw e at h))

-- only a buffer's type asks for the size
pub type_sizeless : (t a b : ℕ) → is_buffer_word t ≡ false → resource_type_of t a ≡ resource_type_of t b
unfolding resource_type_of
type_sizeless t a b g = rw g

-- the resource that was read is the one that stands there
pub read_at : (ws : List ℕ) (r : Resource) (rest : List ℕ) → read_resource ws ≡ got r rest → r ≡ resource_at ws 0
read_at ws r rest h =
    read_cases ws r rest h
    (λ p t e f g w q. q ∙ rw (w, type_sizeless t 0 (content_of (word_at rest 0)) g))
    (λ p t s e f g d w q. q ∙ rw w)

-- ---- ranges

pub place_encodable_lem : (w : ℕ) → place_encodable (place_of w) ≡ true
place_encodable_lem w = rw (lt-ltb (bits 26 23 w) 16 (omega arith), lt-ltb (bits 22 0 w) (2 ^ 23) (omega arith))

-- codes that differ from the first ones
pub past_two : (c : ℕ) → (c ≡ 0 → ⊥) → (c ≡ 1 → ⊥) → (c ≡ 2 → ⊥) → 3 ≤ c
past_two c n0 n1 n2 = omega arith

pub past_five : (c : ℕ) → 3 ≤ c → (c ≡ 3 → ⊥) → (c ≡ 4 → ⊥) → (c ≡ 5 → ⊥) → 6 ≤ c
past_five c l n3 n4 n5 = omega arith

-- what a type word of a resource means, by its code
pub by_resource : (P : ResourceType → Type 0) (w size : ℕ) → (type_code w ≡ 0 → P (Res.Buffer size (space_at (bits 4 3 w) (bits 2 0 w))))
    → (type_code w ≡ 1 → P (Res.Sampler (bit_set 0 w))) → (type_code w ≡ 2 → P (texture w (Class.Sampled (sample_kind_at (bits 5 4 w)) (bit_set 3 w))))
    → (type_code w ≡ 3 → P (texture w (Class.Depth (bit_set 3 w)))) → (type_code w ≡ 4 → P (texture w (Class.Storage (bits 14 8 w) (bits 18 16 w))))
    → (type_code w ≡ 5 → P (texture w Class.External)) → (6 ≤ type_code w → P (Res.AccelerationStructure (bit_set 0 w))) → P (resource_type_of w size)
unfolding resource_type_of
by_resource P w size c0 c1 c2 c3 c4 c5 c6 =
    by_test (eqb (type_code w) 0) (λ t. rw t (c0 (eqb-true (type_code w) 0 t))) λ n0.
    by_test (eqb (type_code w) 1) (λ t. rw (n0, t) (c1 (eqb-true (type_code w) 1 t))) λ n1.
    by_test (eqb (type_code w) 2) (λ t. rw (n0, n1, t) (c2 (eqb-true (type_code w) 2 t))) λ n2.
    by_test (eqb (type_code w) 3) (λ t. rw (n0, n1, n2, t) (c3 (eqb-true (type_code w) 3 t))) λ n3.
    by_test (eqb (type_code w) 4) (λ t. rw (n0, n1, n2, n3, t) (c4 (eqb-true (type_code w) 4 t))) λ n4.
    by_test (eqb (type_code w) 5) (λ t. rw (n0, n1, n2, n3, n4, t) (c5 (eqb-true (type_code w) 5 t))) λ n5.
    let below : 3 ≤ type_code w = past_two (type_code w) (eqb-false (type_code w) 0 n0) (eqb-false (type_code w) 1 n1) (eqb-false (type_code w) 2 n2) in
    rw (n0, n1, n2, n3, n4, n5)
    (c6 (past_five (type_code w) below (eqb-false (type_code w) 3 n3) (eqb-false (type_code w) 4 n4) (eqb-false (type_code w) 5 n5)))

-- a well formed type by its code
pub type_cases : {P : Type 0} (w : ℕ) → resource_type_well_formed w ≡ true
    → (type_code w ≡ 0 → buffer_well_formed w ≡ true → P) → (type_code w ≡ 1 → eqb (bits 22 1 w) 0 ≡ true → P)
    → (type_code w ≡ 2 → eqb (bits 22 6 w) 0 && ltb (bits 5 4 w) 3 ≡ true → P) → (type_code w ≡ 3 → eqb (bits 22 4 w) 0 ≡ true → P)
    → (type_code w ≡ 4 → storage_well_formed w ≡ true → P) → (type_code w ≡ 5 → eqb (bits 22 3 w) 0 ≡ true → P)
    → (type_code w ≡ 6 → eqb (bits 22 1 w) 0 ≡ true → P) → P
unfolding resource_type_well_formed
type_cases w h c0 c1 c2 c3 c4 c5 c6 =
    by_test (eqb (type_code w) 0) (λ e. c0 (eqb-true (type_code w) 0 e) (rw e at h)) (λ n0.
    by_test (eqb (type_code w) 1) (λ e. c1 (eqb-true (type_code w) 1 e) (rw (n0, e) at h)) (λ n1.
    by_test (eqb (type_code w) 2) (λ e. c2 (eqb-true (type_code w) 2 e) (rw (n0, n1, e) at h)) (λ n2.
    by_test (eqb (type_code w) 3) (λ e. c3 (eqb-true (type_code w) 3 e) (rw (n0, n1, n2, e) at h)) (λ n3.
    by_test (eqb (type_code w) 4) (λ e. c4 (eqb-true (type_code w) 4 e) (rw (n0, n1, n2, n3, e) at h)) (λ n4.
    by_test (eqb (type_code w) 5) (λ e. c5 (eqb-true (type_code w) 5 e) (rw (n0, n1, n2, n3, n4, e) at h)) (λ n5.
    by_test (eqb (type_code w) 6) (λ e. c6 (eqb-true (type_code w) 6 e) (rw (n0, n1, n2, n3, n4, n5, e) at h)) (λ n6.
    never false (rw (n0, n1, n2, n3, n4, n5, n6) at h) refl)))))))

pub storage_parts : (w : ℕ) → storage_well_formed w ≡ true
    → (bits 22 19 w ≡ 0) × (bit 15 w ≡ 0) × (bits 7 3 w ≡ 0) × (storable (bits 14 8 w) && not (eqb (bits 18 16 w) 0) ≡ true)
storage_parts w h =
    (search (eqb-true, first), search (eqb-true, first, second), search (eqb-true, first, second), search second)

space_encodable_lem : (code access : ℕ) → access < 8 → space_encodable (space_at code access) ≡ true
space_encodable_lem code access h =
    by_test (eqb code 0) (λ e. rw e) (λ n. by_test (eqb code 1) (λ e. rw (n, e, lt-ltb access 8 h)) (λ m. rw (n, m)))

pub type_encodable_lem : (w size : ℕ) → resource_type_well_formed w ≡ true → (is_buffer_word w ≡ true → ltb size size_limit && not (eqb size 0) ≡ true)
    → type_encodable (resource_type_of w size) ≡ true
unfolding resource_type_of type_encodable
type_encodable_lem w size h s =
    type_cases w h
    (λ e f. rw (e, space_encodable_lem (bits 4 3 w) (bits 2 0 w) (omega arith)) (s (rw e)))
    (λ e f. rw e)
    (λ e f. rw e)
    (λ e f. rw e)
    (λ e f. rw (e, lt-ltb (bits 18 16 w) 8 (omega arith)) (storage_parts w f).3)
    (λ e f. rw e)
    (λ e f. rw e)

-- what was read can be encoded
pub read_encodable : (ws : List ℕ) (r : Resource) (rest : List ℕ) → read_resource ws ≡ got r rest → resource_encodable r ≡ true
read_encodable ws r rest h =
    read_cases ws r rest h
    (λ p t e f g w q. rw (q, place_encodable_lem p) (type_encodable_lem t 0 (second (eqb (kind_of t) 16) (resource_type_well_formed t) f) (λ y. never (is_buffer_word t) y g)))
    (λ p t s e f g d w q. rw (q, place_encodable_lem p)
    (type_encodable_lem t (content_of s) (second (eqb (kind_of t) 16) (resource_type_well_formed t) f)
    (λ y. rw (lt-ltb (content_of s) size_limit (omega arith)) (second (eqb (kind_of s) 6) (not (eqb (content_of s) 0)) d))))
