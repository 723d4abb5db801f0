use mathlib.Core.Path.{◌≡◌, sym, ◌∙◌, ap}
use native.Mathlib.Omega.{arith}
use lib.ListN.{length, take}
use Rattle.adjacency.specs.Neighbours.{bond_list_bytes}
use Rattle.adjacency.specs.Work.{steps_at, until}
use Rattle.adjacency.proofs.Blocks.{bytes_length, front, fits, in_size, kept_is}
use Rattle.block.specs.Block.{said_molecule}
use Rattle.neighbours.proofs.bonds_of.Goals as goal
use Rattle.neighbours.proofs.bonds_of.Goals.{After-fill-reach}

-- `bonds_of` meets its contract: the bonds up to a label above n are kept. Assumes nothing.
pub fill-reach-requires : goal.fill-reach-requires
fill-reach-requires c = (c.requires.0, fits _ _ 0 c.requires.1)

-- the bytes that are kept
bytes-are : (c : After-fill-reach) → let a = c.args in take c.fill-reach.result.bytes c.fill-reach.new.out ≡ bond_list_bytes (until a.n (steps_at 0 a.text.now a.at))
bytes-are c = rw c.fill-reach.ensures.bytes (front _ _ _ (fits _ _ 0 c.requires.1) c.fill-reach.ensures.counted)

pub slice_bounds-bytes-end : goal.slice_bounds-bytes-end
slice_bounds-bytes-end c = omega (arith, fits _ _ 0 c.requires.1, c.fill-reach.ensures.counted, c.fill-reach.ensures.same)

pub slice_bounds-kept-end : goal.slice_bounds-kept-end
slice_bounds-kept-end c = sym (rw (bytes-are (goal.at.slice_bounds-kept-end c).After-fill-reach) (bytes_length _ ∙ sym c.fill-reach.ensures.counted))

pub kept-requires : goal.kept-requires
kept-requires c = rw (bytes-are (goal.at.kept-requires c).After-fill-reach) (in_size _ _ 0 c.requires.1)

pub returns : goal.returns
returns c =
    let a = c.args in
    let e = rw (sym (bytes-are (goal.at.returns c).After-fill-reach), sym c.fill-reach.ensures.stopped) at (kept_is a.n (steps_at 0 a.text.now a.at) (length a.out.now) c.requires.1) in
    record { reply = c.kept.ensures.reply ∙ ap said_molecule e; bytes = c.kept.ensures.bytes ∙ rw e }
