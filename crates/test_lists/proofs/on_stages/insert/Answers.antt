use Rattle.test_lists.proofs.Tested.{located_fits, head_there, head_stays, list_out, variables_few, room_enough}
use borrow.Author.Rules.{rules}
use Rattle.test_lists.proofs.on_stages.insert.Goals as goal

pub bounds-l-0 : goal.bounds-l-0
bounds-l-0 g c = search head_there

pub insert_words-requires-clause-well_formed : goal.insert_words-requires-clause-well_formed
insert_words-requires-clause-well_formed g c = search list_out

pub insert_words-requires-clause-variable : goal.insert_words-requires-clause-variable
insert_words-requires-clause-variable g c = (search rules, search located_fits)

pub insert_words-requires-clause-room : goal.insert_words-requires-clause-room
insert_words-requires-clause-room g c = (search variables_few, search room_enough)

pub bounds-l-0-2 : goal.bounds-l-0-2
bounds-l-0-2 g c = search head_stays
