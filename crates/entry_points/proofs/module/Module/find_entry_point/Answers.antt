use Rattle.std.proofs.Common.{◌≡◌, true, false, rules}
use Rattle.std.proofs.lemmas.Iterator.{first_from_Range}
use Rattle.entry_points.specs.Rules.{entries_in}
use Rattle.entry_points.proofs.ReadsChoice.{named_at, first_named}
use Rattle.entry_points.proofs.module.Module.find_entry_point.Goals as goal

pub returns-clause-value : goal.returns-clause-value
returns-clause-value c =
    let es = entries_in c.args.self.now.pack.now in
    let at = named_at c.args.stage c.args.name.now es in
    first_named _ _ _ c.find.result
    (rw c.entry_count.ensures.value at (first_from_Range _ _ _ c.find.result (λ i. at i ≡ true) (λ i. at i ≡ false) c.find.ensures.ran (λ x q k. search rules) (λ x q k. search rules)))
