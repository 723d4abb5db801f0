use Prim.Native.Nat.{ℕ, ◌+◌, ◌-◌, ◌*◌, ◌/◌, ◌<◌}
use mathlib.Core.List.{List}
use mathlib.Core.Path.{◌≡◌, ◌∙◌}
use native.Mathlib.Omega.{arith}
use lib.ListN.{length, get_or}
use Rattle.graph.specs.Graph.{Within}
use Rattle.reply.specs.Read.{read}
use Rattle.block.specs.Block.{most_atoms, drawn_reply}
use Rattle.block.specs.Numbered.{drawn_within}
use Rattle.block.specs.Told.{drawn_atoms}
use Rattle.reach.proofs.Spreading.{took_none, took_next, took_all}
use Rattle.reach.proofs.spread.Goals as goal

pub loop-k-init : goal.loop-k-init
loop-k-init c = took_none _ _ _ _

-- the ends of a bond are atoms
ends : (n : ℕ) (xs : List ℕ) → drawn_reply n xs ≡ read tt → (k : ℕ) → k < length xs / 2 → Within most_atoms (get_or xs (2 * k) 0) × Within most_atoms (get_or xs (2 * k + 1) 0)
ends n xs f k l = let (a, b) = drawn_within n xs f k l in let s = drawn_atoms n xs f in (omega arith, omega arith)

pub exchange-requires : goal.exchange-requires
exchange-requires c =
    let l = c.loop-k in
    let p = c.requires in
    let (a, b) = ends _ _ p.0 l.k (omega (arith, c.loop-k-test.true)) in
    (a, b, p.1, l.invariant.size ∙ p.2)

pub exchange-requires-in-loop-k : goal.exchange-requires-in-loop-k
exchange-requires-in-loop-k c =
    let l = c.loop-k in
    let (p, q) = ends _ _ c.requires.0 (l.k + length c.args.bonds.now / 2 / 2) (omega (arith, c.loop-k-test.true)) in
    (p, q, c.requires.1, c.sets-1.given ∙ l.invariant.size ∙ c.requires.2)

pub loop-k-preserved : goal.loop-k-preserved
loop-k-preserved c =
    let l = c.loop-k in
    let p = c.requires in
    rw (c.exchange-in-loop-k.ensures, c.exchange.ensures) (took_next _ _ p.0 p.2 l.k (omega (arith, c.loop-k-test.true)) l.invariant)

pub together-requires : goal.together-requires
together-requires c =
    let p = c.requires in
    let few = (drawn_atoms _ _ p.0).high in
    (few, omega (arith, p.2, c.loop-k.invariant.size))

pub shape_of-sets : goal.shape_of-sets
shape_of-sets c = c.loop-k.invariant.size

pub returns : goal.returns
returns c =
    record {
      wider = took_all _ _ c.requires.0 c.loop-k.k (omega (arith, c.loop-k-test.false)) c.loop-k.invariant;
      met_is = c.together.ensures;
    }
