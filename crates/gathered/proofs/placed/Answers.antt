use Prim.Native.Nat.{ℕ}
use mathlib.Core.List.{List}
use mathlib.Core.Path.{◌≡◌, sym, ◌∙◌, ap}
use native.Mathlib.Omega.{arith}
use Rattle.reply.specs.Read.{Read, as_result}
use Rattle.block.specs.declared.Indices.{Indices}
use Rattle.records.specs.Records.{payload_at}
use Rattle.queues.specs.Queues.{compose_told}
use Rattle.gathered.proofs.Answers.{placed_refused, placed_read}
use Rattle.gathered.proofs.Places.{told_few}
use Rattle.gathered.proofs.placed.Goals as goal
use Rattle.gathered.proofs.placed.Goals.{After-compose, Start}
use Rattle.reply.specs.Chain.{read_back}

-- `gathered::placed` meets its contract. Assumes nothing.
-- what the payload is told
abbrev answer : Start → Read Indices
answer s = compose_told s.args.table.now s.args.queue (payload_at s.args.d.now 0)

abbrev answer-in-After-compose : After-compose → Read Indices
answer-in-After-compose s = compose_told s.args.table.now s.args.queue (payload_at s.args.d.now 0)

told_is : (c : After-compose) → c.compose.result ≡ as_result (answer-in-After-compose c)
told_is c =
    let a = c.args in
    c.compose.ensures ∙ ap (λ (xs : List ℕ). as_result (compose_told a.table.now a.queue xs)) c.payload_at.ensures.bytes

pub overflow_mul-result : goal.overflow_mul-result
overflow_mul-result c =
    omega (arith, told_few c.args.table.now c.args.queue (payload_at c.args.d.now 0) c.in-Err.r (sym (read_back _ (answer (goal.at.overflow_mul-result c).Start) (sym c.in-Err.is ∙ told_is (goal.at.overflow_mul-result c).After-compose))))

pub returns-in-Err : goal.returns-in-Err
returns-in-Err c =
    placed_refused (answer (goal.at.returns-in-Err c).Start) c.in-Err.r (sym (read_back _ (answer (goal.at.returns-in-Err c).Start) (sym c.in-Err.is ∙ told_is (goal.at.returns-in-Err c).After-compose)))

pub returns-in-Ok : goal.returns-in-Ok
returns-in-Ok c =
    placed_read (answer (goal.at.returns-in-Ok c).Start) c.in-Ok.all (sym (read_back _ (answer (goal.at.returns-in-Ok c).Start) (sym c.in-Ok.is ∙ told_is (goal.at.returns-in-Ok c).After-compose)))
