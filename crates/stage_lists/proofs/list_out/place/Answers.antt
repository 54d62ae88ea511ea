use borrow.Author.Rules.{rules}
use Rattle.stage_lists.proofs.OutStores.{place_before, place_over, place_onward, place_ended, count_before, count_over, count_onward, count_ended, good_onward, var_again}
use Rattle.stage_lists.proofs.list_out.place.Goals as goal

pub returns-then-location-here-clause-words : goal.returns-then-location-here-clause-words
returns-then-location-here-clause-words c = search (place_before, var_again)

pub returns-then-location-here-clause-count : goal.returns-then-location-here-clause-count
returns-then-location-here-clause-count c = search count_before

pub returns-then-location-here-2-clause-words : goal.returns-then-location-here-2-clause-words
returns-then-location-here-2-clause-words c = search (place_over, var_again)

pub returns-then-location-here-2-clause-count : goal.returns-then-location-here-2-clause-count
returns-then-location-here-2-clause-count c = search count_over

pub loop-i-preserved : goal.loop-i-preserved
loop-i-preserved c = (search rules, search good_onward, search place_onward, search count_onward)

pub returns-clause-words : goal.returns-clause-words
returns-clause-words c = search (place_ended, var_again)

pub returns-clause-count : goal.returns-clause-count
returns-clause-count c = search count_ended
