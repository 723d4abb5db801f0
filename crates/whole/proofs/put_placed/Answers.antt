use Prim.Native.Nat.{ℕ}
use mathlib.Core.Path.{sym, ◌∙◌, ap}
use native.Mathlib.Omega.{arith}
use lib.ListN.{length}
use lib.Seq.{sets}
use Rattle.block.specs.Block.{bonds_of}
use Rattle.deck.specs.Molecule.{graph_at, join_at}
use Rattle.deck.specs.Placed.{deck_of}
use Rattle.whole.specs.Work.{block_numbers}
use Rattle.whole.specs.Joins.{start_few, bonds_few, bonds_are, brought_numbers, brought-length, joining_few}
use Rattle.whole.proofs.put_placed.Goals as goal

-- `whole::put_placed` meets its contract: the block's bonds, and behind them its join.
pub overflow_cast-k : goal.overflow_cast-k
overflow_cast-k c = omega (arith, c.requires.1, c.requires.0.count.high)

pub put_block-requires : goal.put_block-requires
put_block-requires c =
    let b = c.block_at-b in
    let n = c.requires.0.count.high in
    let few = bonds_few c.requires.0 c.args.k c.requires.1 b.result b.ensures in
    let x = start_few c.requires.0 c.args.k (omega (arith, c.requires.1)) in
    (omega (arith, c.start_of-start.ensures, x, n, c.requires.1), c.requires.2, omega (arith, ap length c.bonds_part-bonds.ensures.bytes, few))

pub put_join-requires : goal.put_join-requires
put_join-requires c =
    let b = c.block_at-b in
    let few = bonds_few c.requires.0 c.args.k c.requires.1 b.result b.ensures in
    (c.requires.0, c.requires.1, omega (arith, ap length c.bonds_part-bonds.ensures.bytes, few, c.requires.2))

pub returns : goal.returns
returns c =
    let a = c.args in
    let b = c.block_at-b in
    let xs = c.bonds_part-bonds.result.now in
    let blocks = graph_at a.d.now (deck_of a.deck) in
    let joins = join_at a.d.now (deck_of a.deck) in
    let same = c.bonds_part-bonds.ensures.bytes in
    let e = bonds_are c.requires.0 a.k c.requires.1 b.result b.ensures ∙ ap bonds_of (sym same) in
    let few = bonds_few c.requires.0 a.k c.requires.1 b.result b.ensures in
    let len = brought-length blocks joins a.k xs e in
    let put = c.put_block in
    let join = c.put_join in
    let first = put.ensures ∙ ap (λ (n : ℕ). sets a.out.now a.at (block_numbers n xs)) c.start_of-start.ensures.0 in record { numbers = brought_numbers blocks joins a.k xs a.out.now put.new.out join.new.out a.at e first join.ensures.numbers; end = (omega (arith, join.ensures.end, len), omega (arith, join.ensures.end, joining_few blocks joins a.k, ap length same, few)) }
