use borrow.Author.Rules.{rules}
use Rattle.layouts.specs.Format.{decode_layout}
use Rattle.resource_steps.proofs.PairLaws.{judged}
use Rattle.resource_steps.proofs.pairs.places_use.Goals as goal

pub returns : goal.returns
returns c =
    let e = judged (decode_layout c.args.layout.now.words.now) c.args.texture c.args.sampler _ _ c.types_use.result c.type_word_at-texture_type.ensures c.type_word_at-sampler_type.ensures c.types_use.ensures in
    rw (← e) (search rules)
