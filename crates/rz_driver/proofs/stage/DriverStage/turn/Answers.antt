use Rattle.rz_driver.proofs.stage.DriverStage.turn.Goals as goal

pub take_turn-requires-clause-ready : goal.take_turn-requires-clause-ready
take_turn-requires-clause-ready g c = c.requires.ready

pub take_turn-requires-clause-few : goal.take_turn-requires-clause-few
take_turn-requires-clause-few g c = c.requires.few

pub returns-clause-volume : goal.returns-clause-volume
returns-clause-volume g c = c.take_turn.ensures.volume

pub returns-clause-journal : goal.returns-clause-journal
returns-clause-journal g c = c.take_turn.ensures.journal

pub returns-clause-faults : goal.returns-clause-faults
returns-clause-faults g c = c.take_turn.ensures.faults

pub returns-clause-ready : goal.returns-clause-ready
returns-clause-ready g c = c.take_turn.ensures.ready

pub returns-clause-counted : goal.returns-clause-counted
returns-clause-counted g c = c.take_turn.ensures.counted

pub returns-clause-taken : goal.returns-clause-taken
returns-clause-taken g c = c.take_turn.ensures.taken

pub returns-clause-lost : goal.returns-clause-lost
returns-clause-lost g c = c.take_turn.ensures.link

pub returns-clause-held : goal.returns-clause-held
returns-clause-held g c = c.take_turn.ensures.held

pub returns-clause-left : goal.returns-clause-left
returns-clause-left g c = c.take_turn.ensures.left
