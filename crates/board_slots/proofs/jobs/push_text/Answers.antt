use Rattle.board_slots.proofs.CycleTexts.{none_there}
use Rattle.board_slots.proofs.jobs.push_text.Goals as goal

pub returns-in-None : goal.returns-in-None
returns-in-None g c =
    none_there (g.W.Work.meaning c.args.work.now).text c.args.texts.now.items c.args.slots.now
    c.args.place c.in-None.ensures.lookup.0
