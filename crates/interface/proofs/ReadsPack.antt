-- What an accepted pack holds stands at the positions that its words give.
use Rattle.std.proofs.lemmas.Bool.{or_parts}
use Prim.Native.Nat.{ℕ, ◌+◌, ◌-◌, ◌<◌, ◌≤◌}
use native.Mathlib.Omega.{arith}
use mathlib.Core.Path.{◌≡◌, refl, sym, ap, ◌∙◌}
use mathlib.Core.Bool.{Bool, true, false, not, ◌&&◌}
use mathlib.Core.List.{List, [], ◌∷◌}
use borrow.Author.Tests.{eqb-true, leb-true, ltb-false, not-false}
use lib.Dec.{eqb, leb, ltb, lit<}
use lib.ListN.{length, take, drop, take-append-drop, length-drop}
use lib.Seq.{get_or-take}
use Rattle.word.specs.Choice.{pick}
use Rattle.word.specs.Words.{word_at, content_of, bits, closing_sum}
use Rattle.word.specs.Parse.{Parsed, fault, got, next, one}
use Rattle.word.proofs.ParseReads.{Stands, next_then, next_reads, picked, one_stands, one_reads, several_words}
use Rattle.bindings.specs.Format.{read_resource, resource, resource_at, is_buffer_word, place_well_formed, resource_word_well_formed, size_well_formed}
use Rattle.bindings.specs.declared.types.Resource.{Resource}
use Rattle.bindings.proofs.ReadLaws.{type_sizeless}
use Rattle.word.proofs.Truth.{first, second, by_test}
use Rattle.interface.specs.Meaning.{Interface}
use Rattle.interface.specs.Format.{read_pack, read_entry_point, edition_well_formed, totals_well_formed, of_word, limits_of, distinct_names, Decoded, Damaged, Malformed, Pack, damaged, whole, body, decode, decoded_number}
use Rattle.interface.specs.Format.{interface_of}
use Rattle.interface.specs.Inner.Parts.{end_from, resource_end, entry_end, entry_point_at, resource_count, entry_count, resources_of, entries_at, entries_of}
use Rattle.interface.proofs.ReadsRecords.{ReadsAt, several_records}
use Rattle.interface.proofs.ReadsEntry.{entry_stands}

pub resource_stands : (P t : List ℕ) → ReadsAt P t read_resource (resource_at P) (resource_end P)
unfolding read_resource
resource_stands P t = record { reads = λ at ws s r rest. behind at ws s r rest }
  where
    by : (at : ℕ) (ws : List ℕ) → Stands P t (at + 1 + 1) ws → (r : Resource) (rest : List ℕ) (b : Bool) → is_buffer_word (word_at P (at + 1)) ≡ b
        → pick b (next (one size_well_formed ws) λ size rest. got (resource (word_at P at) (word_at P (at + 1)) (content_of size)) rest)
        (got (resource (word_at P at) (word_at P (at + 1)) 0) ws) ≡ got r rest
        → (r ≡ resource_at P at) × Stands P t (at + pick b 3 2) rest
    by at ws s r rest true h e =
        let m : at + 1 + 1 ≡ at + 2 = omega arith in
        let n : at + 2 + 1 ≡ at + 3 = omega arith in
        next_reads P t _ _ r rest _ _ e (one_reads P t (at + 2) size_well_formed ws (rw m at s)) λ r₁ s₁ g₁.
        let wr : r₁ ≡ rest = cc in
        (cc, rw (← wr, ← n) s₁)
    by at ws s r rest false h e =
        let m : at + 1 + 1 ≡ at + 2 = omega arith in
        let wr : ws ≡ rest = cc in
        (cc (type_sizeless (word_at P (at + 1)) 0 (content_of (word_at P (at + 2))) h), rw (← wr, ← m) s)

    behind : (at : ℕ) (ws : List ℕ) → Stands P t at ws → (r : Resource) (rest : List ℕ) → read_resource ws ≡ got r rest
        → (r ≡ resource_at P at) × Stands P t (resource_end P at) rest
    behind at ws s r rest e =
        next_reads P t _ _ r rest _ _ e (one_reads P t at place_well_formed ws s) λ r₁ s₁ g₁.
        next_reads P t _ _ r rest _ _ g₁ (one_reads P t _ resource_word_well_formed r₁ s₁) λ r₂ s₂ g₂.
        by at r₂ s₂ r rest (is_buffer_word (word_at P (at + 1))) refl g₂

abbrev read_from : List ℕ → Interface
read_from P = record { limits = limits_of (take 13 (drop 2 P)); resources = resources_of P; entries = entries_of P }

pack_stands : (P t ws : List ℕ) → Stands P t 0 ws → (i : Interface) (rest : List ℕ) → read_pack ws ≡ got i rest
    → (i ≡ read_from P)
    × Stands P t (end_from (entry_end P) (entry_count P) (entries_at P)) rest
    × (totals_well_formed (word_at P 1) ≡ true)
unfolding read_pack
pack_stands P t ws s i rest e =
    next_reads P t _ _ i rest _ _ e (one_reads P t 0 edition_well_formed ws s) λ r₁ s₁ g₁.
    next_then _ _ i rest g₁ λ w r₂ e₂ g₂.
    let (f, q, s₂) = one_stands P t 1 totals_well_formed w r₁ r₂ s₁ e₂ in
    next_reads P t _ _ i rest _ _ (rw (← q) at g₂) (several_words P t 2 13 (of_word 3) r₂ s₂) λ r₃ s₃ g₃.
    next_reads P t _ _ i rest _ _ g₃ (several_records P t read_resource (resource_at P) (resource_end P) (resource_stands P t) _ 15 r₃ s₃) λ r₄ s₄ g₄.
    next_reads P t _ _ i rest _ _ g₄ (several_records P t (read_entry_point _) (entry_point_at P) (entry_end P) (entry_stands P t _) _ _ r₄ s₄) λ r₅ s₅ g₅.
    let (d, h) = picked (distinct_names (entries_of P)) (got (read_from P) r₅) i rest g₅ in
    let wr : r₅ ≡ rest = cc in
    (cc, rw (← wr) s₅, rw (← q) at f)

-- the words before the last, and the last
split : (ws : List ℕ) → Stands ws (drop (length ws - 1) ws) 0 (body ws)
split ws = record { here = sym (take-append-drop (length ws - 1) ws); within = omega arith }

before_closing : (ws : List ℕ) (end : ℕ) → 16 ≤ length ws → Stands ws (drop (length ws - 1) ws) end [] → end < length ws
before_closing ws end l s =
    let n : length (drop end ws) ≡ length (drop (length ws - 1) ws) = ap length s.here in
    omega (arith, length-drop end ws, length-drop (length ws - 1) ws)

limits_taken : (l : List ℕ) → limits_of (take 13 l) ≡ limits_of l
limits_taken l =
    let t : (k : ℕ) → k < 13 → word_at (take 13 l) k ≡ word_at l k = λ k h. get_or-take 13 l k 0 h in
    rw (
      t 0 (lit< tt),
      t 1 (lit< tt),
      t 2 (lit< tt),
      t 3 (lit< tt),
      t 4 (lit< tt),
      t 5 (lit< tt),
      t 6 (lit< tt),
      t 7 (lit< tt),
      t 8 (lit< tt),
      t 9 (lit< tt),
      t 10 (lit< tt),
      t 11 (lit< tt),
      t 12 (lit< tt),
    )

-- what holds of an accepted pack
pub record Accepted (ws : List ℕ) (i : Interface) : Type 0 where
  pub limits : i.limits ≡ limits_of (drop 2 ws)
  pub resources : i.resources ≡ resources_of ws
  pub entries : i.entries ≡ entries_of ws
  pub ends : end_from (entry_end ws) (entry_count ws) (entries_at ws) < length ws
  pub few_resources : resource_count ws ≤ 128
  pub few_entries : entry_count ws ≤ 16
  pub long : 16 ≤ length ws
  pub short : length ws ≤ 4096

whole_got : (p : Parsed Interface) (i : Interface) → whole p ≡ Pack i → p ≡ got i []
whole_got fault i e = cc
whole_got (got j []) i e = cc
whole_got (got j (w ∷ ws)) i e = cc

-- what holds of words that are not damaged
pub record Sound (ws : List ℕ) : Type 0 where
  pub long : 16 ≤ length ws
  pub short : length ws ≤ 4096
  pub counted : bits 15 0 (word_at ws 0) ≡ length ws
  pub summed : word_at ws (length ws - 1) ≡ closing_sum ws

sound : (ws : List ℕ) → damaged ws ≡ false → Sound ws
unfolding damaged
sound ws h =
    let (a, b) = or_parts (ltb (length ws) 16) _ h in
    let (c, d) = or_parts (ltb 4096 (length ws)) _ b in
    let (f, g) = or_parts (not (eqb (bits 15 0 (word_at ws 0)) (length ws))) _ d in
    record {
      long = ltb-false (length ws) 16 a;
      short = ltb-false 4096 (length ws) c;
      counted = eqb-true (bits 15 0 (word_at ws 0)) (length ws) (not-false _ f);
      summed = eqb-true (word_at ws (length ws - 1)) (closing_sum ws) (not-false _ g);
    }

-- a pack that decodes is not damaged, and its records end at the closing word
pub decoded : (ws : List ℕ) (i : Interface) → decode ws ≡ Pack i → Sound ws × (read_pack (body ws) ≡ got i [])
unfolding decode
decoded ws i e =
    by_test (damaged ws) (λ t. let f = rw t at e in let z : ◌≡◌ {A = ℕ} 0 1 = cc in absurd (omega arith))
    (λ n. (sound ws n, whole_got (read_pack (body ws)) i (rw n at e)))

pack_accepted : (ws : List ℕ) (i : Interface) → decode ws ≡ Pack i → Accepted ws i
pack_accepted ws i e =
    let (k, g) = decoded ws i e in
    let (p, s, f) = pack_stands ws (drop (length ws - 1) ws) (body ws) (split ws) i [] g in
    let u : leb (resource_count ws) 128 && leb (entry_count ws) 16 ≡ true = second (of_word 2 (word_at ws 1)) _ f in
    record {
      limits = ap (λ (i : Interface). i.limits) p ∙ limits_taken (drop 2 ws);
      resources = ap (λ (i : Interface). i.resources) p;
      entries = ap (λ (i : Interface). i.entries) p;
      ends = before_closing ws (end_from (entry_end ws) (entry_count ws) (entries_at ws)) k.long s;
      few_resources = leb-true (resource_count ws) 128 (first (leb (resource_count ws) 128) (leb (entry_count ws) 16) u);
      few_entries = leb-true (entry_count ws) 16 (second (leb (resource_count ws) 128) (leb (entry_count ws) 16) u);
      long = k.long;
      short = k.short;
    }

pub accepted : (ws : List ℕ) → decoded_number (decode ws) ≡ 0 → Accepted ws (interface_of (decode ws))
accepted ws h = by (decode ws) refl h
  where
    by : (d : Decoded) → decode ws ≡ d → decoded_number d ≡ 0 → Accepted ws (interface_of d)
    by Damaged e z = absurd (omega arith)
    by Malformed e z = absurd (omega arith)
    by (Pack i) e z = pack_accepted ws i e
