use Rattle.records.proofs.little.put_little.Goals as goal

-- `put_little` meets its contract.
pub put8-requires : goal.put8-requires
put8-requires c = (c.is_whole.ensures c.if-is_whole.true).1

pub returns-then-is_whole : goal.returns-then-is_whole
returns-then-is_whole c = rw (c.is_whole.ensures c.if-is_whole.true).0 c.put8.ensures

pub put4-requires : goal.put4-requires
put4-requires c = (c.is_whole-2.ensures c.if-is_whole-2.true).1

pub returns-then-is_whole-2 : goal.returns-then-is_whole-2
returns-then-is_whole-2 c = rw (c.is_whole-2.ensures c.if-is_whole-2.true).0 c.put4.ensures
