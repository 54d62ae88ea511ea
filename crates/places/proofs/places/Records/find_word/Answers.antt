use Rattle.places.proofs.PlaceWays.{word_nowhere, word_found, word_onward, places_onward}
use Rattle.places.proofs.places.Records.find_word.Goals as goal

pub returns-then-self-index-clause-position : goal.returns-then-self-index-clause-position
returns-then-self-index-clause-position g c = search word_found

pub loop-i-preserved : goal.loop-i-preserved
loop-i-preserved g c = (search places_onward, search word_onward)

pub returns-clause-position : goal.returns-clause-position
returns-clause-position g c = search word_nowhere
