use Rattle.std.proofs.Common.{rules, sym, ◌∙◌}
use borrow.Author.Tests.{not-true, not-false}
use Rattle.pack_check.proofs.CheckPack.{pack_damaged, pack_some, body_enough, body_few, pack_well_formed, pack_malformed, held}
use Rattle.pack_check.proofs.CheckPositions.{no_offsets, no_heads, offsets_found, heads_found}
use Rattle.pack_check.proofs.CheckTables.{no_resource_positions, no_entry_positions, resource_positions_lem, entry_positions_lem}
use Rattle.pack_check.proofs.check_pack.index_pack.Goals as goal

pub returns-then-is_damaged-clause-number : goal.returns-then-is_damaged-clause-number
returns-then-is_damaged-clause-number c = search pack_damaged

pub returns-then-is_damaged-clause-offsets : goal.returns-then-is_damaged-clause-offsets
returns-then-is_damaged-clause-offsets c = no_offsets _ _ 0 (search pack_damaged)

pub returns-then-is_damaged-clause-heads : goal.returns-then-is_damaged-clause-heads
returns-then-is_damaged-clause-heads c = no_heads _ _ 0 (search pack_damaged)

pub returns-then-is_damaged-clause-offsets_after : goal.returns-then-is_damaged-clause-offsets_after
returns-then-is_damaged-clause-offsets_after c = search no_resource_positions

pub returns-then-is_damaged-clause-heads_after : goal.returns-then-is_damaged-clause-heads_after
returns-then-is_damaged-clause-heads_after c = search no_entry_positions

pub overflow_sub-last : goal.overflow_sub-last
overflow_sub-last c = search pack_some

pub pack_next-requires : goal.pack_next-requires
pack_next-requires c = (search body_enough, search body_few, search rules, search rules)

pub returns-then-ne-clause-number : goal.returns-then-ne-clause-number
returns-then-ne-clause-number c = let other = not-true _ (sym c.ne.ensures ∙ c.if-ne.true) in search (pack_malformed, other)

pub returns-then-ne-clause-offsets : goal.returns-then-ne-clause-offsets
returns-then-ne-clause-offsets c = let other = not-true _ (sym c.ne.ensures ∙ c.if-ne.true) in no_offsets _ _ 1 (search (pack_malformed, other))

pub returns-then-ne-clause-heads : goal.returns-then-ne-clause-heads
returns-then-ne-clause-heads c = let other = not-true _ (sym c.ne.ensures ∙ c.if-ne.true) in no_heads _ _ 1 (search (pack_malformed, other))

pub returns-then-ne-clause-offsets_after : goal.returns-then-ne-clause-offsets_after
returns-then-ne-clause-offsets_after c = search resource_positions_lem

pub returns-then-ne-clause-heads_after : goal.returns-then-ne-clause-heads_after
returns-then-ne-clause-heads_after c = search entry_positions_lem

pub returns-clause-number : goal.returns-clause-number
returns-clause-number c = let end = not-false _ (sym c.ne.ensures ∙ c.if-ne.false) in search (pack_well_formed, end)

pub returns-clause-offsets : goal.returns-clause-offsets
returns-clause-offsets c =
    let end = not-false _ (sym c.ne.ensures ∙ c.if-ne.false) in
    offsets_found _ _ _ c.is_damaged.ensures c.if-is_damaged.false (held _ _ _ end c.pack_next.ensures.stops)

pub returns-clause-heads : goal.returns-clause-heads
returns-clause-heads c =
    let end = not-false _ (sym c.ne.ensures ∙ c.if-ne.false) in
    heads_found _ _ _ c.is_damaged.ensures c.if-is_damaged.false (held _ _ _ end c.pack_next.ensures.entry_stops)

pub returns-clause-offsets_after : goal.returns-clause-offsets_after
returns-clause-offsets_after c = search resource_positions_lem

pub returns-clause-heads_after : goal.returns-clause-heads_after
returns-clause-heads_after c = search entry_positions_lem
