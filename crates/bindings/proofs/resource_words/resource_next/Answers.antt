use Rattle.bindings.proofs.ResourceLaws.{next_few, next_no_place, next_no_type, next_sized}
use Rattle.bindings.proofs.resource_words.resource_next.Goals as goal
use Rattle.bindings.proofs.resource_words.resource_next.Goals.{then-body-at-lt2-via-then-body-at-lt2, then-body-at-lt2-via-else-body-at-lt2+then-not-place_well_formed}

pub returns-then-body-at-lt2-clause-rest : goal.returns-then-body-at-lt2-clause-rest
returns-then-body-at-lt2-clause-rest c =
    elim c.then-body-at-lt2.branch [
      | then-body-at-lt2-via-then-body-at-lt2 w ↦ search next_few
      | then-body-at-lt2-via-else-body-at-lt2+then-not-place_well_formed w ↦ search next_no_place
    ]

pub returns-then-not-resource_word_well_formed-clause-rest : goal.returns-then-not-resource_word_well_formed-clause-rest
returns-then-not-resource_word_well_formed-clause-rest c = search next_no_type

pub returns-clause-rest : goal.returns-clause-rest
returns-clause-rest c = search next_sized
