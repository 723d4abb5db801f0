-- Definitions. What the C functions for two queues at one table answer.
use Rattle.std.specs.Prelude.{ℕ, cond, List, eqb}
use Rattle.reply.specs.Read.{Read}
use Rattle.records.specs.declared.Sheet.TheVariants.{Six}
use Rattle.queues.specs.declared.Queue.{Queue}
use Rattle.queues.specs.declared.Queue.TheVariants.{Day, Night}
use Rattle.queues.specs.Queues.{look_told}
use Rattle.calls.specs.Blocks.{fields_list}

-- 0 is the day queue, anything else counts as the night queue
abbrev pub queue_for : ℕ → Queue
queue_for which = cond (eqb which 0) Day Night

-- the six fields of a block that a queue holds
abbrev pub look_list : List ℕ → Queue → ℕ → Read (List ℕ)
look_list t q x = fields_list Six (look_told t q x)
