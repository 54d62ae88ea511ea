-- Reader and writer of layout entries belong together.
use Rattle.std.proofs.Common.{◌≡◌, ℕ, ◌+◌, ◌*◌, ◌/◌, ◌%◌, ◌^◌, ◌<◌, Bool, true, false, ◌&&◌, ◌||◌, eqb, ltb, [], ◌∷◌, sym, refl, ◌∙◌, arith, ltb-true, lt-ltb, eq-eqb, ne_eqb, eqb-true}
use Rattle.std.proofs.lemmas.Bool.{or_right}
use native.Mathlib.Nat.{div-add-mod, div-div-eq-div-mul}
use borrow.Author.Tests.{eqb-false}
use Rattle.word.specs.Choice.{yes}
use Rattle.word.specs.Words.{kind_of, content_of, bits, bit, of_kind}
use Rattle.bindings.specs.Rules.{view_code}
use Rattle.bindings.specs.Format.{flag, bit_set, type_code, is_buffer_word, view_at, sample_at, sample_code, access_at, access_code, sampler_at, sampler_code, buffer_at, buffer_code}
use Rattle.bindings.specs.Format.{binding_type_well_formed, binding_type_of, binding_code, least_size_of, format_encodable, place_well_formed, place_of, place_word, place_encodable}
use Rattle.bindings.specs.Format.{entry_well_formed, entry_of, entry_words, entry_encodable, size_limit}
use Rattle.bindings.specs.declared.types.ResourceBinding.{ResourceBinding}
use Rattle.bindings.specs.declared.types.BufferBindingType.TheVariants as Buf
use Rattle.bindings.specs.declared.types.SamplerBindingType.TheVariants as Samp
use Rattle.bindings.specs.declared.types.TextureSampleType.{TextureSampleType}
use Rattle.bindings.specs.declared.types.TextureSampleType.TheVariants as Sample
use Rattle.bindings.specs.declared.types.TextureViewDimension.{TextureViewDimension}
use Rattle.bindings.specs.declared.types.TextureViewDimension.TheVariants as View
use Rattle.bindings.specs.declared.types.StorageTextureAccess.{StorageTextureAccess}
use Rattle.bindings.specs.declared.types.StorageTextureAccess.TheVariants as Acc
use Rattle.bindings.specs.declared.types.BindingType.{BindingType}
use Rattle.bindings.specs.declared.types.BindingType.TheVariants as Bind
use Rattle.bindings.specs.declared.types.BindGroupLayoutEntry.{BindGroupLayoutEntry}
use Rattle.word.proofs.Truth.{first, second, by_test, never, codes_back}
use Rattle.bindings.proofs.CodeLaws.{flag_most, sample_most, view_most, access_most, buffer_most, code_fits, least_fits}
use Rattle.bindings.proofs.ReadLaws.{place_encodable_lem}

-- a field of a word and what stands above it
pub field : (w a b : ℕ) → w / a ≡ b * (w / (a * b)) + w / a % b
field w a b = sym (div-add-mod (w / a) b) ∙ rw (div-div-eq-div-mul w a b)

-- ---- places

module _ (place : ResourceBinding) (h : place_encodable place ≡ true) where
  group_encodable : place.group < 16
  group_encodable = search (ltb-true, first)

  binding_encodable_lem : place.binding < 2 ^ 23
  binding_encodable_lem = search (ltb-true, second)

  pub place_well_formed_lem : place_well_formed (place_word place) ≡ true
  place_well_formed_lem = let k : kind_of (place_word place) ≡ 4 = omega (arith, group_encodable, binding_encodable_lem) in rw k

  pub place_read : place_of (place_word place) ≡ place
  place_read =
      let g : bits 26 23 (place_word place) ≡ place.group = omega (arith, group_encodable, binding_encodable_lem) in
      let b : bits 22 0 (place_word place) ≡ place.binding = omega (arith, group_encodable, binding_encodable_lem) in
      rw (g, b)

pub place_back : (w : ℕ) → place_well_formed w ≡ true → place_word (place_of w) ≡ w
place_back w h = let k : kind_of w ≡ 4 = eqb-true (kind_of w) 4 h in omega arith

-- ---- codes

pub flag_read : (b : Bool) → eqb (flag b) 1 ≡ b
unfolding yes
flag_read true = refl
flag_read false = refl

pub flag_back : (x : ℕ) → x < 2 → flag (eqb x 1) ≡ x
unfolding yes
flag_back = codes_back 2 (λ x. flag (eqb x 1)) refl

pub view_read : (v : TextureViewDimension) → view_at (view_code v) ≡ v
view_read View.D1 = refl
view_read View.D2 = refl
view_read View.D2Array = refl
view_read View.Cube = refl
view_read View.CubeArray = refl
view_read View.D3 = refl

pub view_back : (c : ℕ) → c < 6 → view_code (view_at c) ≡ c
view_back = codes_back 6 (λ c. view_code (view_at c)) refl

sample_read : (s : TextureSampleType) → sample_at (sample_code s) ≡ s
unfolding yes
sample_read (Sample.Float true) = refl
sample_read (Sample.Float false) = refl
sample_read Sample.Depth = refl
sample_read Sample.Sint = refl
sample_read Sample.Uint = refl

sample_back : (c : ℕ) → c < 5 → sample_code (sample_at c) ≡ c
unfolding yes
sample_back = codes_back 5 (λ c. sample_code (sample_at c)) refl

access_read : (a : StorageTextureAccess) → access_at (access_code a) ≡ a
access_read Acc.ReadOnly = refl
access_read Acc.WriteOnly = refl
access_read Acc.ReadWrite = refl
access_read Acc.Atomic = refl

access_back : (c : ℕ) → c < 4 → access_code (access_at c) ≡ c
access_back = codes_back 4 (λ c. access_code (access_at c)) refl

sampler_back : (c : ℕ) → c < 3 → sampler_code (sampler_at c) ≡ c
sampler_back = codes_back 3 (λ c. sampler_code (sampler_at c)) refl

-- ---- a type's word is read again

module _ (sample : TextureSampleType) (view : TextureViewDimension) (multi : Bool) where
  abbrev sampled : ℕ
  sampled = of_kind 18 (binding_code (Bind.Texture sample view multi))

  sampled_bits : (type_code sampled ≡ 2) × (bits 6 4 sampled ≡ sample_code sample) × (bits 2 0 sampled ≡ view_code view)
      × (bit 3 sampled ≡ flag multi) × (bits 22 7 sampled ≡ 0)
  unfolding binding_code
  sampled_bits = omega (arith, sample_most sample, view_most view, flag_most multi)

module _ (access : StorageTextureAccess) (format : ℕ) (view : TextureViewDimension) (h : format < 77) where
  abbrev stored : ℕ
  stored = of_kind 18 (binding_code (Bind.StorageTexture access format view))

  stored_bits : (type_code stored ≡ 4) × (bits 17 16 stored ≡ access_code access) × (bits 14 8 stored ≡ format) × (bits 2 0 stored ≡ view_code view)
      × (bits 22 18 stored ≡ 0) × (bit 15 stored ≡ 0) × (bits 7 3 stored ≡ 0)
  unfolding binding_code
  stored_bits = omega (arith, access_most access, view_most view)

abbrev Again : BindingType → Type 0
Again ty = (binding_type_well_formed (of_kind 18 (binding_code ty)) ≡ true) × (binding_type_of (of_kind 18 (binding_code ty)) (least_size_of ty) ≡ ty)

type_again : (ty : BindingType) → format_encodable ty ≡ true → Again ty
unfolding binding_type_well_formed binding_type_of yes
type_again (Bind.Buffer Buf.Uniform true least) h = unfold binding_code in (refl, refl)
type_again (Bind.Buffer Buf.Uniform false least) h = unfold binding_code in (refl, refl)
type_again (Bind.Buffer (Buf.Storage true) true least) h = unfold binding_code in (refl, refl)
type_again (Bind.Buffer (Buf.Storage true) false least) h = unfold binding_code in (refl, refl)
type_again (Bind.Buffer (Buf.Storage false) true least) h = unfold binding_code in (refl, refl)
type_again (Bind.Buffer (Buf.Storage false) false least) h = unfold binding_code in (refl, refl)
type_again (Bind.Sampler Samp.Filtering) h = unfold binding_code in (refl, refl)
type_again (Bind.Sampler Samp.NonFiltering) h = unfold binding_code in (refl, refl)
type_again (Bind.Sampler Samp.Comparison) h = unfold binding_code in (refl, refl)
type_again (Bind.Texture sample view multi) h =
    let b = sampled_bits sample view multi in (
      rw (b.0, b.4, b.1, b.2, lt-ltb (view_code view) 6 (omega (arith, view_most view)), lt-ltb (sample_code sample) 5 (omega (arith, sample_most sample))),
      rw (b.0, b.1, b.2, b.3, sample_read sample, view_read view, flag_read multi),
    )
type_again (Bind.StorageTexture access format view) h =
    let b = stored_bits access format view (ltb-true format 77 h) in (
      rw (b.0, b.4, b.5, b.6, b.3, b.2, lt-ltb (view_code view) 6 (omega (arith, view_most view)), h),
      rw (b.0, b.1, b.2, b.3, access_read access, view_read view),
    )
type_again Bind.ExternalTexture h = unfold binding_code in (refl, refl)
type_again (Bind.AccelerationStructure true) h = unfold binding_code in (refl, refl)
type_again (Bind.AccelerationStructure false) h = unfold binding_code in (refl, refl)

module _ (ty : BindingType) (h : format_encodable ty ≡ true) where
  pub type_well_formed_lem : binding_type_well_formed (of_kind 18 (binding_code ty)) ≡ true
  type_well_formed_lem = (type_again ty h).0

  pub type_read : binding_type_of (of_kind 18 (binding_code ty)) (least_size_of ty) ≡ ty
  type_read = (type_again ty h).1

-- what a type word of an entry means, by its code
pub by_binding : (P : BindingType → Type 0) (w least : ℕ) → (type_code w ≡ 0 → P (Bind.Buffer (buffer_at w) (bit_set 2 w) least))
    → (type_code w ≡ 1 → P (Bind.Sampler (sampler_at (bits 22 0 w)))) → (type_code w ≡ 2 → P (Bind.Texture (sample_at (bits 6 4 w)) (view_at (bits 2 0 w)) (bit_set 3 w)))
    → (type_code w ≡ 4 → P (Bind.StorageTexture (access_at (bits 17 16 w)) (bits 14 8 w) (view_at (bits 2 0 w)))) → (type_code w ≡ 5 → P Bind.ExternalTexture)
    → ((type_code w ≡ 0 → ⊥) → (type_code w ≡ 1 → ⊥) → (type_code w ≡ 2 → ⊥) → (type_code w ≡ 4 → ⊥) → (type_code w ≡ 5 → ⊥)
    → P (Bind.AccelerationStructure (bit_set 0 w))) → P (binding_type_of w least)
unfolding binding_type_of
by_binding P w least c0 c1 c2 c4 c5 c6 =
    by_test (eqb (type_code w) 0) (λ t. rw t (c0 (eqb-true (type_code w) 0 t))) λ n0.
    by_test (eqb (type_code w) 1) (λ t. rw (n0, t) (c1 (eqb-true (type_code w) 1 t))) λ n1.
    by_test (eqb (type_code w) 2) (λ t. rw (n0, n1, t) (c2 (eqb-true (type_code w) 2 t))) λ n2.
    by_test (eqb (type_code w) 4) (λ t. rw (n0, n1, n2, t) (c4 (eqb-true (type_code w) 4 t))) λ n4.
    by_test (eqb (type_code w) 5) (λ t. rw (n0, n1, n2, n4, t) (c5 (eqb-true (type_code w) 5 t))) λ n5.
    rw (n0, n1, n2, n4, n5)
    (c6 (eqb-false (type_code w) 0 n0) (eqb-false (type_code w) 1 n1) (eqb-false (type_code w) 2 n2) (eqb-false (type_code w) 4 n4) (eqb-false (type_code w) 5 n5))

-- ---- a well formed type's word is written again

binding_cases : {P : Type 0} (w : ℕ) → binding_type_well_formed w ≡ true
    → (type_code w ≡ 0 → eqb (bits 22 3 w) 0 && (eqb (bit 1 w) 0 || eqb (bit 0 w) 1) ≡ true → P)
    → (type_code w ≡ 1 → ltb (bits 22 0 w) 3 ≡ true → P)
    → (type_code w ≡ 2 → eqb (bits 22 7 w) 0 && (ltb (bits 2 0 w) 6 && ltb (bits 6 4 w) 5) ≡ true → P)
    → (type_code w ≡ 4 → eqb (bits 22 18 w) 0 && (eqb (bit 15 w) 0 && (eqb (bits 7 3 w) 0 && (ltb (bits 2 0 w) 6 && ltb (bits 14 8 w) 77))) ≡ true → P)
    → (type_code w ≡ 5 → eqb (bits 22 0 w) 0 ≡ true → P) → (type_code w ≡ 6 → eqb (bits 22 1 w) 0 ≡ true → P) → P
unfolding binding_type_well_formed
binding_cases w h c0 c1 c2 c4 c5 c6 =
    by_test (eqb (type_code w) 0) (λ e. c0 (eqb-true (type_code w) 0 e) (rw e at h)) λ n0.
    by_test (eqb (type_code w) 1) (λ e. c1 (eqb-true (type_code w) 1 e) (rw (n0, e) at h)) λ n1.
    by_test (eqb (type_code w) 2) (λ e. c2 (eqb-true (type_code w) 2 e) (rw (n0, n1, e) at h)) λ n2.
    by_test (eqb (type_code w) 4) (λ e. c4 (eqb-true (type_code w) 4 e) (rw (n0, n1, n2, e) at h)) λ n4.
    by_test (eqb (type_code w) 5) (λ e. c5 (eqb-true (type_code w) 5 e) (rw (n0, n1, n2, n4, e) at h)) λ n5.
    by_test (eqb (type_code w) 6) (λ e. c6 (eqb-true (type_code w) 6 e) (rw (n0, n1, n2, n4, n5, e) at h)) λ n6.
    never false (rw (n0, n1, n2, n4, n5, n6) at h) refl

buffer_back : (w : ℕ) → eqb (bit 1 w) 0 || eqb (bit 0 w) 1 ≡ true → buffer_code (buffer_at w) ≡ bit 0 w + 2 * bit 1 w
buffer_back w h =
    by_test (bit_set 0 w)
    (λ t. let e : bit 0 w ≡ 1 = eqb-true (bit 0 w) 1 t in rw (t, flag_back (bit 1 w) (omega arith)) (omega arith))
    (λ f.
    let z : bit 1 w ≡ 0 = by_test (eqb (bit 1 w) 0) (eqb-true (bit 1 w) 0) (λ n. never (bit_set 0 w) (rw n at h) f) in
    let o : bit 0 w ≡ 1 → ⊥ = eqb-false (bit 0 w) 1 f in
    rw f (omega arith))

pub code_sum : (w a f : ℕ) → type_code w ≡ 4 → w / 2 ^ 16 ≡ 2 ^ 7 * (w / 2 ^ 23) + a → w / 8 ≡ 2 ^ 13 * (w / 2 ^ 16) + 2 ^ 5 * f
    → 2 ^ 23 * 4 + (2 ^ 16 * a + 2 ^ 8 * f + bits 2 0 w) ≡ content_of w
code_sum w a f e p q = omega (arith, field w (2 ^ 23) 16)

stored_sum : (w : ℕ) → type_code w ≡ 4 → bits 22 18 w ≡ 0 → bit 15 w ≡ 0 → bits 7 3 w ≡ 0
    → 2 ^ 23 * 4 + (2 ^ 16 * bits 17 16 w + 2 ^ 8 * bits 14 8 w + bits 2 0 w) ≡ content_of w
stored_sum w e z y x =
    let above : w / 2 ^ 16 ≡ 2 ^ 7 * (w / 2 ^ 23) + bits 17 16 w = omega (arith, field w (2 ^ 16) 4, field w (2 ^ 18) 32) in
    let below : w / 8 ≡ 2 ^ 13 * (w / 2 ^ 16) + 2 ^ 5 * bits 14 8 w = omega (arith, field w 8 32, field w 256 128, field w (2 ^ 15) 2) in
    code_sum w (bits 17 16 w) (bits 14 8 w) e above below

pub type_back : (w least : ℕ) → binding_type_well_formed w ≡ true → binding_code (binding_type_of w least) ≡ content_of w
unfolding binding_type_of binding_code
type_back w least h =
    let high = field w (2 ^ 23) 16 in
    binding_cases w h
    (λ e f. rw (e, buffer_back w (search second), flag_back (bit 2 w) (omega arith))
    (let z : bits 22 3 w ≡ 0 = search (eqb-true, first) in omega (arith, field w 2 2, field w 4 2, field w 8 (2 ^ 20), high)))
    (λ e f. rw (e, sampler_back (bits 22 0 w) (ltb-true (bits 22 0 w) 3 f)) (omega (arith, high)))
    (λ e f. rw (e, sample_back (bits 6 4 w) (search (ltb-true, second)), view_back (bits 2 0 w) (search (ltb-true, first, second)), flag_back (bit 3 w) (omega arith))
    (let z : bits 22 7 w ≡ 0 = search (eqb-true, first) in omega (arith, field w 8 2, field w 16 8, field w 128 (2 ^ 16), high)))
    (λ e f. rw (e, access_back (bits 17 16 w) (omega arith), view_back (bits 2 0 w) (search (ltb-true, first, second)))
    (stored_sum w e (search (eqb-true, first)) (search (eqb-true, first, second)) (search (eqb-true, first, second))))
    (λ e f. rw e (let z : bits 22 0 w ≡ 0 = eqb-true (bits 22 0 w) 0 f in omega (arith, high)))
    (λ e f. rw (e, flag_back (bit 0 w) (omega arith)) (let z : bits 22 1 w ≡ 0 = eqb-true (bits 22 1 w) 0 f in omega (arith, field w 2 (2 ^ 22), high)))

-- only a buffer has a least size
least_well_formed : (ty : BindingType) → is_buffer_word (of_kind 18 (binding_code ty)) || eqb (least_size_of ty) 0 ≡ true
unfolding binding_code
least_well_formed (Bind.Buffer b dynamic least) =
    let w = of_kind 18 (buffer_code b + 4 * flag dynamic) in
    rw (eq-eqb (type_code w) 0 (omega (arith, buffer_most b, flag_most dynamic)))
least_well_formed (Bind.Sampler s) = or_right (is_buffer_word (of_kind 18 (binding_code (Bind.Sampler s)))) true refl
least_well_formed (Bind.Texture sample view multi) = or_right (is_buffer_word (of_kind 18 (binding_code (Bind.Texture sample view multi)))) true refl
least_well_formed (Bind.StorageTexture access format view) = or_right (is_buffer_word (of_kind 18 (binding_code (Bind.StorageTexture access format view)))) true refl
least_well_formed Bind.ExternalTexture = refl
least_well_formed (Bind.AccelerationStructure returns) = or_right (is_buffer_word (of_kind 18 (binding_code (Bind.AccelerationStructure returns)))) true refl

pub least_back : (w least : ℕ) → is_buffer_word w || eqb least 0 ≡ true → least_size_of (binding_type_of w least) ≡ least
least_back w least h =
    let z : (type_code w ≡ 0 → ⊥) → 0 ≡ least = λ n. sym (eqb-true least 0 (rw (ne_eqb (type_code w) 0 n) at h)) in
    by_binding (λ t. least_size_of t ≡ least) w least
    (λ e. refl) (λ e. z (λ y. omega arith)) (λ e. z (λ y. omega arith)) (λ e. z (λ y. omega arith)) (λ e. z (λ y. omega arith)) (λ n0 n1 n2 n4 n5. z n0)

-- words can hold what a well formed type word means
pub type_encodable_lem : (w least : ℕ) → least < size_limit → binding_type_well_formed w ≡ true → format_encodable (binding_type_of w least) ≡ true
unfolding binding_type_of
type_encodable_lem w least l h =
    binding_cases w h
    (λ e f. rw e (lt-ltb least size_limit l))
    (λ e f. rw e)
    (λ e f. rw e)
    (λ e f. rw e (search second))
    (λ e f. rw e)
    (λ e f. rw e)

-- ---- entries

-- the words of an entry within the ranges are well formed, and mean it
module _ (e : BindGroupLayoutEntry) (h : entry_encodable e ≡ true) where
  place_word_lem : place_encodable e.bind ≡ true
  place_word_lem = search first

  format_word : format_encodable e.ty ≡ true
  format_word = search (first, second)

  visible_word : e.visibility < 32
  visible_word = search (ltb-true, second)

  least_content : content_of (of_kind 6 (least_size_of e.ty)) ≡ least_size_of e.ty
  least_content = omega (arith, least_fits e.ty format_word)

  visible_content : content_of (of_kind 19 e.visibility) ≡ e.visibility
  visible_content = omega (arith, visible_word)

  pub entry_well_formed_lem : entry_well_formed (place_word e.bind) (of_kind 18 (binding_code e.ty)) (of_kind 6 (least_size_of e.ty)) (of_kind 19 e.visibility) ≡ true
  unfolding entry_well_formed
  entry_well_formed_lem =
      let kt : kind_of (of_kind 18 (binding_code e.ty)) ≡ 18 = omega (arith, code_fits e.ty format_word) in
      let ks : kind_of (of_kind 6 (least_size_of e.ty)) ≡ 6 = omega (arith, least_fits e.ty format_word) in
      let kv : kind_of (of_kind 19 e.visibility) ≡ 19 = omega (arith, visible_word) in
      rw (
        place_well_formed_lem e.bind place_word_lem,
        kt,
        type_well_formed_lem e.ty format_word,
        ks,
        least_content,
        least_well_formed e.ty,
        kv,
        visible_content,
        lt-ltb e.visibility 32 visible_word,
      )

  pub entry_read : entry_of (place_word e.bind) (of_kind 18 (binding_code e.ty)) (of_kind 6 (least_size_of e.ty)) (of_kind 19 e.visibility) ≡ e
  unfolding entry_of
  entry_read = rw (place_read e.bind place_word_lem, least_content, type_read e.ty format_word, visible_content)

-- well formed words mean an entry within the ranges, and are its words
module _ (p t l v : ℕ) (h : entry_well_formed p t l v ≡ true) where
  typed : binding_type_well_formed t ≡ true
  unfolding entry_well_formed
  typed = search (first, second)

  pub entry_encodable_lem : entry_encodable (entry_of p t l v) ≡ true
  unfolding entry_well_formed entry_of
  entry_encodable_lem = let s : ltb (content_of v) 32 ≡ true = search (first, second) depth 8 in rw (place_encodable_lem p, type_encodable_lem t (content_of l) (omega arith) typed, s)

  pub entry_back : entry_words (entry_of p t l v) ≡ p ∷ t ∷ l ∷ v ∷ []
  unfolding entry_well_formed entry_of entry_words
  entry_back =
      let kt : kind_of t ≡ 18 = search (eqb-true, first, second) in
      let kl : kind_of l ≡ 6 = search (eqb-true, first, second) depth 8 in
      let kv : kind_of v ≡ 19 = search (eqb-true, first, second) depth 9 in
      let s : is_buffer_word t || eqb (content_of l) 0 ≡ true = search (first, second) depth 8 in
      let t' : of_kind 18 (content_of t) ≡ t = omega arith in
      let l' : of_kind 6 (content_of l) ≡ l = omega arith in
      let v' : of_kind 19 (content_of v) ≡ v = omega arith in
      rw (place_back p (search first), type_back t (content_of l) typed, t', least_back t (content_of l) s, l', v')
