-- Six ways, a law each: differed before, the stored list ends, code differs, it ends after the code, class differs, both are the same.
use Rattle.entries.proofs.Laws.Meeting as meeting
use Rattle.entries.proofs.list.meet.Goals as goal

pub returns-then-m-i : goal.returns-then-m-i
returns-then-m-i c = λ p l e. meeting.meet_off _ _ _ _ _ p l e c.if-m-i.true

pub returns-then-i-stored : goal.returns-then-i-stored
returns-then-i-stored c = λ p l e. meeting.meet_short _ _ _ _ _ p l e c.if-m-i.false c.if-i-stored.true

pub returns-then-stored-i : goal.returns-then-stored-i
returns-then-stored-i c = λ p l e. meeting.meet_code _ _ _ _ _ p l e c.if-m-i.false c.if-stored-i.true

pub returns-then-i-stored-2 : goal.returns-then-i-stored-2
returns-then-i-stored-2 c = λ p l e. meeting.meet_odd _ _ _ _ _ p l e c.if-m-i.false c.if-i-stored.false c.if-stored-i.false c.if-i-stored-2.true

pub returns-then-stored-i-2 : goal.returns-then-stored-i-2
returns-then-stored-i-2 c = λ p l e. meeting.meet_class _ _ _ _ _ p l e c.if-m-i.false c.if-i-stored.false c.if-stored-i.false c.if-stored-i-2.true

pub returns : goal.returns
returns c = λ p l e. meeting.meet_all _ _ _ _ _ p l e c.if-m-i.false c.if-i-stored.false c.if-stored-i.false c.if-i-stored-2.false c.if-stored-i-2.false
