-- Laws of the tables of positions: one more position, and what stands there in the pack.
use Prim.Native.Nat.{ℕ, zero, suc, ◌+◌, ◌-◌, ◌<◌, ◌≤◌}
use native.Mathlib.Omega.{arith}
use mathlib.Core.Path.{◌≡◌, refl, sym, ap, ◌∙◌}
use mathlib.Core.Bool.{Bool, true, false}
use mathlib.Core.List.{List, [], ◌∷◌, ◌++◌, append-nil}
use borrow.Author.Tests.{eqb-true, eqb-false}
use lib.Dec.{eqb}
use lib.ListN.{length, take, drop, set, length-append, length-drop, take-append-drop}
use lib.Seq.{drop-append-le, get_or-take, get_or-set_same, get_or-set_other}
use Rattle.word.specs.Choice.{pick}
use Rattle.word.specs.Words.{word_at}
use Rattle.word.specs.Parse.{Parsed, several, from, behind}
use Rattle.word.proofs.Rests.{got_from}
use Rattle.word.proofs.ParseReads.{Stands}
use Rattle.bindings.specs.Format.{read_resource, resource_at, is_buffer_word}
use Rattle.bindings.specs.declared.types.Resource.{Resource}
use Rattle.interface.specs.Format.{read_entry_point, damaged, decode, decoded_number, body}
use Rattle.interface.specs.Inner.Reads.{resources_at}
use Rattle.entry_check.specs.Inner.Walks.{pack_resources}
use Rattle.pack_check.specs.Inner.Records.{Stop, Stops, EntryStops}
use Rattle.interface.specs.Inner.Parts.{records_from, end_from, resource_end, entry_end, entry_point_at, resource_count, entry_count, entries_at, Offsets, Heads}
use Rattle.interface.proofs.ReadsRecords.{ReadsAt, several_records}
use Rattle.interface.proofs.ReadsEntry.{entry_stands}
use Rattle.interface.proofs.ReadsPack.{resource_stands, accepted}
use Rattle.interface.proofs.ReadsParts.{past, within, head_past}
use Rattle.pack_check.proofs.CheckPack.{body_long, low}

-- ---- one more position

pub stops_none : {A : Type 0} (read : List ℕ → Parsed A) (ws table : List ℕ) (start : ℕ) → Stops read ws start 0 table
stops_none read ws table start = record { each = λ k h. absurd (omega arith) }

module _ {A : Type 0} (read : List ℕ → Parsed A) (ws table : List ℕ) (start i n room at : ℕ) (s : Stops read ws start i table) (h : i < n) (few : n ≤ room)
    (l : room ≤ length table) (p : 1 ≤ at) (w : at ≤ length ws) (r : from (drop at ws) ≡ behind (several i read (drop start ws))) where
  pub stops_more : Stops read ws start (i + 1) (set table i at)
  stops_more = record { each = λ k j. by k j (eqb k i) refl }
    where
      by : (k : ℕ) → k < i + 1 → (t : Bool) → eqb k i ≡ t → Stop (several k read (drop start ws)) ws (word_at (set table i at) k)
      by k j true e = rw (eqb-true k i e, get_or-set_same table i at 0 (omega arith)) (record { some = p; within = w; rest = r })
      by k j false e =
          let d : k ≡ i → ⊥ = eqb-false k i e in
          rw (get_or-set_other table i k at 0 d) (s.each k (omega arith))

-- ---- where readers stop, in the words that theirs begin

module _ (P t ws : List ℕ) (e : P ≡ ws ++ t) where
  stands_at : (at : ℕ) → at ≤ length ws → Stands P t at (drop at ws)
  stands_at at h = record { here = rw e (drop-append-le at ws t h); within = rw e (omega (arith, length-append ws t)) }

  module _ {A : Type 0} (read : List ℕ → Parsed A) (record_at : ℕ → A) (after : ℕ → ℕ) (h : ReadsAt P t read record_at after) where
    -- as many words are left behind either position
    same_end : (r end : ℕ) → r ≤ length ws → Stands P t end (drop r ws) → r ≡ end
    same_end r end w s =
        let x : length (drop end P) ≡ length (drop r ws ++ t) = ap length s.here in
        let y : length P ≡ length ws + length t = ap length e ∙ length-append ws t in
        omega (arith, length-drop end P, length-append (drop r ws) t, length-drop r ws, s.within)

    stop_at_lem : (at r : ℕ) → at ≤ length ws → r ≤ length ws → from (drop r ws) ≡ behind (read (drop at ws)) → r ≡ after at
    stop_at_lem at r w v s =
        got_from (read (drop at ws)) (drop r ws) (λ p. read (drop at ws) ≡ p → r ≡ after at) s
        (λ a g. same_end r (after at) v (h.reads at (drop at ws) (stands_at at w) a (drop r ws) g).1) refl

  several_stop : {A : Type 0} (read : List ℕ → Parsed A) (record_at : ℕ → A) (after : ℕ → ℕ) → ReadsAt P t read record_at after
      → (n at r : ℕ) → at ≤ length ws → r ≤ length ws → from (drop r ws) ≡ behind (several n read (drop at ws)) → r ≡ end_from after n at
  several_stop read record_at after h n at r w v s =
      stop_at_lem (several n read) (records_from record_at after n) (end_from after n)
      (record { reads = λ at ws s all rest. several_records P t read record_at after h n at ws s all rest }) at r w v s

-- no reader stops before it began, so that none stops at the first word but where it begins there
module _ (ws : List ℕ) (n start at : ℕ) (b : 1 ≤ start) (w : start ≤ length ws) (v : at ≤ length ws) where
  some_stop : {A : Type 0} (read : List ℕ → Parsed A) (record_at : ℕ → A) (after : ℕ → ℕ) → ReadsAt ws [] read record_at after → ((at : ℕ) → at ≤ after at)
      → from (drop at ws) ≡ behind (several n read (drop start ws)) → 1 ≤ at
  some_stop read record_at after h rises r =
      omega (arith, several_stop ws [] ws (sym (append-nil ws)) read record_at after h n start at w v r, past after rises n start)

  pub resources_some : from (drop at ws) ≡ behind (several n read_resource (drop start ws)) → 1 ≤ at
  resources_some r = some_stop read_resource (resource_at ws) (resource_end ws) (resource_stands ws []) (λ at. omega arith) r

  pub entries_some : (rs : List Resource) → from (drop at ws) ≡ behind (several n (read_entry_point rs) (drop start ws)) → 1 ≤ at
  entries_some rs r = some_stop (read_entry_point rs) (entry_point_at ws) (entry_end ws) (entry_stands ws [] rs) (head_past ws) r

-- ---- the resources at positions

resources_from : (ws l : List ℕ) (n at : ℕ) → 1 ≤ at → ((k : ℕ) → k < n → word_at l k ≡ end_from (resource_end ws) k at)
    → resources_at ws (take n l) ≡ records_from (resource_at ws) (resource_end ws) n at
unfolding resources_at records_from end_from
resources_from ws l zero at h e = refl
resources_from ws [] (suc n) at h e = absurd (let z : 0 ≡ at = e 0 (omega arith) in omega arith)
resources_from ws (x ∷ l) (suc n) at h e =
    let z : x ≡ at = e 0 (omega arith) in
    rw (z, resources_from ws l n (resource_end ws at) (omega arith) (λ k j. e (suc k) (omega arith)))

-- ---- the tables of an accepted pack

two_words : (b : Bool) → 2 ≤ pick b 3 2
two_words true = omega arith
two_words false = omega arith

module _ (ws table : List ℕ) (n : ℕ) (e : suc n ≡ decoded_number (decode ws)) where
  pub no_offsets : Offsets ws table
  no_offsets = record { resources = λ z. absurd (omega arith); within = λ z. absurd (omega arith) }

  pub no_heads : Heads ws table
  no_heads = record { entries = λ z. absurd (omega arith) }

module _ (ws table : List ℕ) (b : Bool) (e : b ≡ damaged ws) (t : b ≡ false) where
  abbrev closing : List ℕ
  closing = drop (length ws - 1) ws

  split : ws ≡ body ws ++ closing
  split = sym (take-append-drop (length ws - 1) ws)

  head_in : 15 ≤ length (body ws)
  head_in = omega (arith, body_long ws, low ws b e t)

  totals_kept : word_at (body ws) 1 ≡ word_at ws 1
  totals_kept = get_or-take (length ws - 1) ws 1 0 (omega (arith, low ws b e t))

  stop_resources : (n at : ℕ) → Stop (several n read_resource (drop 15 (body ws))) (body ws) at → at ≡ end_from (resource_end ws) n 15
  stop_resources n at s = several_stop ws closing (body ws) split read_resource (resource_at ws) (resource_end ws) (resource_stands ws closing) n 15 at head_in s.within s.rest

  module _ (m : Stops read_resource (body ws) 15 (resource_count (body ws)) table) where
    offset_at : (k : ℕ) → k < resource_count ws → word_at table k ≡ end_from (resource_end ws) k 15
    offset_at k j = stop_resources k (word_at table k) (m.each k (rw totals_kept j))

    words_in : decoded_number (decode ws) ≡ 0 → (k : ℕ) → k < resource_count ws → word_at table k + 3 ≤ length ws
    words_in z k j =
        let at = end_from (resource_end ws) k 15 in
        omega (
          arith,
          offset_at k j,
          two_words (is_buffer_word (word_at ws (at + 1))),
          within (resource_end ws) (λ at. omega arith) k (resource_count ws) 15 j,
          past (entry_end ws) (head_past ws) (entry_count ws) (entries_at ws),
          (accepted ws z).ends,
        )

    pub offsets_found : Offsets ws table
    offsets_found =
        record {
          resources = λ z. resources_from ws table (resource_count ws) 15 (omega arith) offset_at ∙ sym (accepted ws z).resources;
          within = words_in;
        }

  module _ (m : EntryStops (body ws) (word_at (body ws) 1) table) where
    stops_at : EntryStops (body ws) (word_at ws 1) table
    stops_at = rw totals_kept at m

    start_at : stops_at.start ≡ entries_at ws
    start_at = stop_resources (resource_count ws) stops_at.start stops_at.begin

    head_at_lem : (k : ℕ) → k < entry_count ws → word_at table k ≡ end_from (entry_end ws) k stops_at.start
    head_at_lem k j =
        let rs = pack_resources (resource_count ws) (body ws) in
        let s = stops_at.stops.each k j in
        several_stop ws closing (body ws) split (read_entry_point rs) (entry_point_at ws) (entry_end ws) (entry_stands ws closing rs) k stops_at.start (word_at table k)
        stops_at.begin.within s.within s.rest

    pub heads_found : Heads ws table
    heads_found = record { entries = λ z k j. rw (← start_at) (head_at_lem k j) }
