use Prim.Native.Nat.{◌-◌}
use mathlib.Core.Path.{refl, sym, ◌∙◌}
use native.Mathlib.Omega.{arith}
use lib.ListN.{length-set}
use Rattle.queues.proofs.Steps.{clear_start, clear_one, clear_none}
use Rattle.queues.specs.Table.{table_bytes, zeroed}
use Rattle.summary.specs.Layout.{summary_bytes}
use Rattle.queues.proofs.places.clear.Goals as goal

pub loop-k-init : goal.loop-k-init
loop-k-init c = let a = c.args in (refl, c.requires, clear_start a.t.now (table_bytes summary_bytes))

pub loop-k-preserved : goal.loop-k-preserved
loop-k-preserved c = let s = c.loop-k in (length-set s.t s.k 0 ∙ s.invariant.0, s.invariant.1, s.invariant.2 ∙ clear_one s.t s.k _ c.loop-k-test.true)

pub returns : goal.returns
unfolding zeroed
returns c = let s = c.loop-k in sym (s.invariant.2 ∙ clear_none s.t s.k _ (omega arith))
