-- Reader and writer of resources belong together.
use Rattle.std.proofs.Common.{◌≡◌, ℕ, ◌+◌, ◌*◌, ◌/◌, ◌^◌, ◌<◌, ◌≤◌, Bool, true, false, not, ◌&&◌, ◌||◌, eqb, ltb, List, [], ◌∷◌, ◌++◌, sym, refl, ◌∙◌, arith, ltb-true, lt-ltb, ne_eqb, eqb-true}
use borrow.Author.Tests.{eqb-false, not-true}
use Rattle.word.specs.Choice.{pick, yes}
use Rattle.word.specs.Words.{kind_of, content_of, bits, bit, of_kind}
use Rattle.word.specs.Parse.{got}
use Rattle.bindings.specs.Rules.{sample_kind_code, storable}
use Rattle.bindings.specs.Format.{flag, bit_set, type_code, is_buffer_word, dimension_at, dimension_code, sample_kind_at, space_at, space_code, space_encodable, resource_type_well_formed}
use Rattle.bindings.specs.Format.{resource_word_well_formed, size_well_formed, resource_type_of, read_resource, resource_code, size_words, resource_words, place_word, place_encodable, type_encodable, resource_encodable}
use Rattle.bindings.specs.declared.types.ResourceBinding.{ResourceBinding}
use Rattle.bindings.specs.declared.types.AddressSpace.TheVariants as Space
use Rattle.bindings.specs.declared.types.ImageDimension.{ImageDimension}
use Rattle.bindings.specs.declared.types.ImageDimension.TheVariants as Dim
use Rattle.bindings.specs.declared.types.SampleKind.{SampleKind}
use Rattle.bindings.specs.declared.types.SampleKind.TheVariants as Kind
use Rattle.bindings.specs.declared.types.ImageClass.TheVariants as Class
use Rattle.bindings.specs.declared.types.ResourceType.{ResourceType}
use Rattle.bindings.specs.declared.types.ResourceType.TheVariants as Res
use Rattle.bindings.specs.declared.types.Resource.{Resource}
use Rattle.bindings.specs.Format.{size_limit}
use Rattle.word.proofs.Truth.{first, second, by_test, codes_back}
use Rattle.bindings.proofs.CodeLaws.{flag_most}
use Rattle.bindings.proofs.ReadLaws.{read_cases, by_resource, type_cases, storage_parts}
use Rattle.bindings.proofs.EntryFormat.{field, code_sum, flag_read, flag_back, place_well_formed_lem, place_read, place_back}

-- ---- codes

dimension_back : (c : ℕ) → c < 4 → dimension_code (dimension_at c) ≡ c
dimension_back = codes_back 4 (λ c. dimension_code (dimension_at c)) refl

kind_back : (c : ℕ) → c < 3 → sample_kind_code (sample_kind_at c) ≡ c
kind_back = codes_back 3 (λ c. sample_kind_code (sample_kind_at c)) refl

space_back : (c a : ℕ) → c < 3 → eqb c 1 || eqb a 0 ≡ true → space_code (space_at c a) ≡ 8 * c + a
space_back c a l h =
    by_test (eqb c 1) (λ t. rw (eqb-true c 1 t)) λ n.
    let z : a ≡ 0 = eqb-true a 0 (rw n at h) in
    by_test (eqb c 0) (λ t. rw (eqb-true c 0 t, z)) λ m.
    let e : c ≡ 2 = omega (arith, eqb-false c 0 m, eqb-false c 1 n) in rw (e, z)

texture_back : (w : ℕ) → dimension_code (dimension_at (bits 1 0 w)) + 4 * flag (bit_set 2 w) ≡ bits 2 0 w
texture_back w = rw (dimension_back (bits 1 0 w) (omega arith), flag_back (bit 2 w) (omega arith)) (omega (arith, field w 4 2))

-- ---- a well formed type's word is written again

code_back : (w size : ℕ) → resource_type_well_formed w ≡ true → resource_code (resource_type_of w size) ≡ content_of w
unfolding resource_type_of
code_back w size h =
    let high = field w (2 ^ 23) 16 in
    type_cases w h
    (λ e f. rw (e, space_back (bits 4 3 w) (bits 2 0 w) (search (ltb-true, first, second)) (search second))
    (let z : bits 22 5 w ≡ 0 = search (eqb-true, first) in omega (arith, field w 8 4, field w 32 (2 ^ 18), high)))
    (λ e f. rw (e, flag_back (bit 0 w) (omega arith)) (let z : bits 22 1 w ≡ 0 = eqb-true (bits 22 1 w) 0 f in omega (arith, field w 2 (2 ^ 22), high)))
    (λ e f. rw (e, kind_back (bits 5 4 w) (search (ltb-true, second)), flag_back (bit 3 w) (omega arith), texture_back w)
    (let z : bits 22 6 w ≡ 0 = search (eqb-true, first) in omega (arith, field w 8 2, field w 16 4, field w 64 (2 ^ 17), high)))
    (λ e f. rw (e, flag_back (bit 3 w) (omega arith), texture_back w)
    (let z : bits 22 4 w ≡ 0 = eqb-true (bits 22 4 w) 0 f in omega (arith, field w 8 2, field w 16 (2 ^ 19), high)))
    (λ e f. rw (e, texture_back w)
    (let s = storage_parts w f in
    let above : w / 2 ^ 16 ≡ 2 ^ 7 * (w / 2 ^ 23) + bits 18 16 w = omega (arith, field w (2 ^ 16) 8, field w (2 ^ 19) 16) in
    let below : w / 8 ≡ 2 ^ 13 * (w / 2 ^ 16) + 2 ^ 5 * bits 14 8 w = omega (arith, field w 8 32, field w 256 128, field w (2 ^ 15) 2) in
    omega (arith, code_sum w (bits 18 16 w) (bits 14 8 w) e above below)))
    (λ e f. rw (e, texture_back w) (let z : bits 22 3 w ≡ 0 = eqb-true (bits 22 3 w) 0 f in omega (arith, field w 8 (2 ^ 20), high)))
    (λ e f. rw (e, flag_back (bit 0 w) (omega arith)) (let z : bits 22 1 w ≡ 0 = eqb-true (bits 22 1 w) 0 f in omega (arith, field w 2 (2 ^ 22), high)))

sizes_back : (w size : ℕ) → size_words (resource_type_of w size) ≡ pick (is_buffer_word w) (of_kind 6 size ∷ []) []
sizes_back w size =
    by_resource (λ r. size_words r ≡ pick (is_buffer_word w) (of_kind 6 size ∷ []) []) w size
    (λ e. rw e) (λ e. rw e) (λ e. rw e) (λ e. rw e) (λ e. rw e) (λ e. rw e) (λ l. rw (ne_eqb (type_code w) 0 (λ e. omega arith)))

type_word_lem : (t size : ℕ) → resource_word_well_formed t ≡ true → of_kind 16 (resource_code (resource_type_of t size)) ≡ t
type_word_lem t size h =
    let k : kind_of t ≡ 16 = search (eqb-true, first) in
    rw (code_back t size (second (eqb (kind_of t) 16) (resource_type_well_formed t) h)) (omega arith)

pub size_word_lem : (s : ℕ) → size_well_formed s ≡ true → of_kind 6 (content_of s) ≡ s
size_word_lem s h = let k : kind_of s ≡ 6 = search (eqb-true, first) in omega arith

-- the words of what was read, with those behind it, are those that were there
pub read_back : (ws : List ℕ) (r : Resource) (rest : List ℕ) → read_resource ws ≡ got r rest → ws ≡ resource_words r ++ rest
unfolding resource_words
read_back ws r rest h =
    read_cases ws r rest h
    (λ p t e f g w q. w ∙ rw (q, place_back p e, type_word_lem t 0 f, sizes_back t 0, g))
    (λ p t s e f g d w q. w ∙ rw (q, place_back p e, type_word_lem t (content_of s) f, sizes_back t (content_of s), g, size_word_lem s d))

-- ---- a type's word is read again

dimension_read : (d : ImageDimension) → dimension_at (dimension_code d) ≡ d
dimension_read Dim.D1 = refl
dimension_read Dim.D2 = refl
dimension_read Dim.D3 = refl
dimension_read Dim.Cube = refl

dimension_most : (d : ImageDimension) → dimension_code d ≤ 3
dimension_most Dim.D1 = omega arith
dimension_most Dim.D2 = omega arith
dimension_most Dim.D3 = omega arith
dimension_most Dim.Cube = omega arith

kind_read : (k : SampleKind) → sample_kind_at (sample_kind_code k) ≡ k
kind_read Kind.Float = refl
kind_read Kind.Sint = refl
kind_read Kind.Uint = refl

kind_most : (k : SampleKind) → sample_kind_code k ≤ 2
kind_most Kind.Float = omega arith
kind_most Kind.Sint = omega arith
kind_most Kind.Uint = omega arith

abbrev word_of : ResourceType → ℕ
word_of ty = of_kind 16 (resource_code ty)

abbrev size_of : ResourceType → ℕ
size_of (Res.Buffer size space) = size
size_of (Res.Sampler comparison) = 0
size_of (Res.Texture dim arrayed class) = 0
size_of (Res.AccelerationStructure returns) = 0

abbrev Again : ResourceType → Type 0
Again ty = (resource_word_well_formed (word_of ty) ≡ true) × (resource_type_of (word_of ty) (size_of ty) ≡ ty)

storage_buffer : (size access : ℕ) → access < 8 → Again (Res.Buffer size (Space.Storage access))
unfolding resource_type_well_formed resource_type_of
storage_buffer size access l =
    let w = word_of (Res.Buffer size (Space.Storage access)) in
    let b : (kind_of w ≡ 16) × (type_code w ≡ 0) × (bits 22 5 w ≡ 0) × (bits 4 3 w ≡ 1) × (bits 2 0 w ≡ access) = omega arith in
    (rw (b.0, b.1, b.2, b.3), rw (b.1, b.3, b.4))

module _ (dim : ImageDimension) (arrayed : Bool) where
  sampled_again : (kind : SampleKind) (multi : Bool) → Again (Res.Texture dim arrayed (Class.Sampled kind multi))
  unfolding resource_type_well_formed resource_type_of
  sampled_again kind multi =
      let w = word_of (Res.Texture dim arrayed (Class.Sampled kind multi)) in
      let b : (kind_of w ≡ 16) × (type_code w ≡ 2) × (bits 22 6 w ≡ 0) × (bits 5 4 w ≡ sample_kind_code kind) × (bit 3 w ≡ flag multi) × (bit 2 w ≡ flag arrayed)
      × (bits 1 0 w ≡ dimension_code dim) = omega (arith, dimension_most dim, flag_most arrayed, kind_most kind, flag_most multi) in (
        rw (b.0, b.1, b.2, b.3, lt-ltb (sample_kind_code kind) 3 (omega (arith, kind_most kind))),
        rw (b.1, b.3, b.4, b.5, b.6, kind_read kind, flag_read multi, flag_read arrayed, dimension_read dim),
      )

  depth_again : (multi : Bool) → Again (Res.Texture dim arrayed (Class.Depth multi))
  unfolding resource_type_well_formed resource_type_of
  depth_again multi =
      let w = word_of (Res.Texture dim arrayed (Class.Depth multi)) in
      let b : (kind_of w ≡ 16) × (type_code w ≡ 3) × (bits 22 4 w ≡ 0) × (bit 3 w ≡ flag multi) × (bit 2 w ≡ flag arrayed)
      × (bits 1 0 w ≡ dimension_code dim) = omega (arith, dimension_most dim, flag_most arrayed, flag_most multi) in
      (rw (b.0, b.1, b.2), rw (b.1, b.3, b.4, b.5, flag_read multi, flag_read arrayed, dimension_read dim))

  stored_again : (format access : ℕ) → storable format ≡ true → format < 43 → access < 8 → not (eqb access 0) ≡ true
      → Again (Res.Texture dim arrayed (Class.Storage format access))
  unfolding resource_type_well_formed resource_type_of
  stored_again format access s f a n =
      let w = word_of (Res.Texture dim arrayed (Class.Storage format access)) in
      let b : (kind_of w ≡ 16) × (type_code w ≡ 4) × (bits 22 19 w ≡ 0) × (bit 15 w ≡ 0) × (bits 7 3 w ≡ 0) × (bits 14 8 w ≡ format)
      × (bits 18 16 w ≡ access) × (bit 2 w ≡ flag arrayed) × (bits 1 0 w ≡ dimension_code dim) = omega (arith, dimension_most dim, flag_most arrayed) in
      (rw (b.0, b.1, b.2, b.3, b.4, b.5, b.6, s, n), rw (b.1, b.5, b.6, b.7, b.8, flag_read arrayed, dimension_read dim))

  external_again : Again (Res.Texture dim arrayed Class.External)
  unfolding resource_type_well_formed resource_type_of
  external_again =
      let w = word_of (Res.Texture dim arrayed Class.External) in
      let b : (kind_of w ≡ 16) × (type_code w ≡ 5) × (bits 22 3 w ≡ 0) × (bit 2 w ≡ flag arrayed) × (bits 1 0 w ≡ dimension_code dim)
      = omega (arith, dimension_most dim, flag_most arrayed) in
      (rw (b.0, b.1, b.2), rw (b.1, b.3, b.4, flag_read arrayed, dimension_read dim))

type_again : (ty : ResourceType) → type_encodable ty ≡ true → Again ty
unfolding resource_type_well_formed resource_type_of type_encodable yes
type_again (Res.Buffer size Space.Uniform) h = (refl, refl)
type_again (Res.Buffer size (Space.Storage access)) h =
    storage_buffer size access (ltb-true access 8 (first (ltb access 8) (ltb size size_limit && not (eqb size 0)) h))
type_again (Res.Buffer size Space.Other) h = (refl, refl)
type_again (Res.Sampler true) h = (refl, refl)
type_again (Res.Sampler false) h = (refl, refl)
type_again (Res.Texture dim arrayed (Class.Sampled kind multi)) h = sampled_again dim arrayed kind multi
type_again (Res.Texture dim arrayed (Class.Depth multi)) h = depth_again dim arrayed multi
type_again (Res.Texture dim arrayed (Class.Storage format access)) h =
    let s : storable format ≡ true = first (storable format) (ltb access 8 && not (eqb access 0)) h in
    let a : ltb access 8 && not (eqb access 0) ≡ true = second (storable format) (ltb access 8 && not (eqb access 0)) h in
    stored_again dim arrayed format access s (search (ltb-true, first)) (search (ltb-true, first)) (search second)
type_again (Res.Texture dim arrayed Class.External) h = external_again dim arrayed
type_again (Res.AccelerationStructure true) h = (refl, refl)
type_again (Res.AccelerationStructure false) h = (refl, refl)

unlike : {P : Type 0} (w : ℕ) → w ∷ [] ≡ [] → P
unlike w e = let z : ◌≡◌ {A = ℕ} 0 1 = cc in absurd (omega arith)

-- the words of a resource within the ranges are read as it, whatever stands behind
module _ (bind : ResourceBinding) (ty : ResourceType) (rest : List ℕ) (p : place_encodable bind ≡ true) (h : type_encodable ty ≡ true) where
  sizes : size_words ty ≡ pick (is_buffer_word (word_of ty)) (of_kind 6 (size_of ty) ∷ []) []
  sizes = rw (type_again ty h).1 at (sizes_back (word_of ty) (size_of ty))

  sized_read : is_buffer_word (word_of ty) ≡ true → size_of ty < size_limit → (size_of ty ≡ 0 → ⊥)
      → read_resource (place_word bind ∷ word_of ty ∷ of_kind 6 (size_of ty) ∷ rest) ≡ got (record { bind = bind; ty = ty }) rest
  unfolding read_resource
  sized_read g l n =
      let k : kind_of (of_kind 6 (size_of ty)) ≡ 6 = omega arith in
      let c : content_of (of_kind 6 (size_of ty)) ≡ size_of ty = omega arith in
      rw (place_well_formed_lem bind p, (type_again ty h).0, g, k, c, ne_eqb (size_of ty) 0 n, c, place_read bind p, (type_again ty h).1)

  bare_read : size_words ty ≡ [] → size_of ty ≡ 0 → read_resource (place_word bind ∷ word_of ty ∷ rest) ≡ got (record { bind = bind; ty = ty }) rest
  unfolding read_resource
  bare_read e z =
      let t : resource_type_of (word_of ty) 0 ≡ ty = rw z at (type_again ty h).1 in
      by_test (is_buffer_word (word_of ty)) (λ g. unlike (of_kind 6 (size_of ty)) (sym (rw g at sizes) ∙ e))
      (λ n. rw (place_well_formed_lem bind p, (type_again ty h).0, n, place_read bind p, t))

read_parts : (bind : ResourceBinding) (ty : ResourceType) (rest : List ℕ) → place_encodable bind ≡ true → type_encodable ty ≡ true
    → read_resource (place_word bind ∷ word_of ty ∷ (size_words ty ++ rest)) ≡ got (record { bind = bind; ty = ty }) rest
unfolding type_encodable
read_parts bind (Res.Buffer size space) rest p h =
    let s : ltb size size_limit && not (eqb size 0) ≡ true = second (space_encodable space) (ltb size size_limit && not (eqb size 0)) h in
    by_test (is_buffer_word (word_of (Res.Buffer size space)))
    (λ g. sized_read bind (Res.Buffer size space) rest p h g (search (ltb-true, first)) (eqb-false size 0 (search (not-true, second))))
    (λ n. unlike (of_kind 6 size) (rw n at (sizes bind (Res.Buffer size space) rest p h)))
read_parts bind (Res.Sampler comparison) rest p h = bare_read bind (Res.Sampler comparison) rest p h refl refl
read_parts bind (Res.Texture dim arrayed class) rest p h = bare_read bind (Res.Texture dim arrayed class) rest p h refl refl
read_parts bind (Res.AccelerationStructure returns) rest p h = bare_read bind (Res.AccelerationStructure returns) rest p h refl refl

pub words_read : (r : Resource) (rest : List ℕ) → resource_encodable r ≡ true → read_resource (resource_words r ++ rest) ≡ got r rest
unfolding resource_words
words_read r rest h = read_parts r.bind r.ty rest (first (place_encodable r.bind) (type_encodable r.ty) h) (second (place_encodable r.bind) (type_encodable r.ty) h)
