use Prim.Native.Nat.{◌≤◌}
use mathlib.Core.Path.{◌≡◌, sym, ◌∙◌}
use lib.ListN.{length, take}
use lib.Seq.{length-take-le}
use Rattle.adjacency.specs.Written.{text_by}
use Rattle.adjacency.specs.Work.{joined_in}
use Rattle.adjacency.specs.Writing.{front_within, front_is}
use Rattle.neighbours.proofs.write_fine.Goals as goal
use Rattle.neighbours.proofs.write_fine.Goals.{After-text-len}

-- `write_fine` meets its contract: the text is put into bytes that have room for it, and given out. Assumes nothing.
pub text-len-requires : goal.text-len-requires
text-len-requires c = c.requires.0

-- what is put is the text
front : (c : After-text-len) → let a = c.args in (c.text-len.result ≤ length c.text-len.new.out) × (take c.text-len.result c.text-len.new.out ≡ text_by (joined_in a.near.now) a.n)
front c = let h = c.requires.1 in (front_within c.text-len.ensures h, front_is c.text-len.ensures h)

pub slice_bounds-bytes-end : goal.slice_bounds-bytes-end
slice_bounds-bytes-end c = (front (goal.at.slice_bounds-bytes-end c).After-text-len).0

pub slice_bounds-given-end : goal.slice_bounds-given-end
slice_bounds-given-end c = sym (length-take-le c.text-len.result c.text-len.new.out (front (goal.at.slice_bounds-given-end c).After-text-len).0)

pub returns : goal.returns
returns c = let f = sym (front (goal.at.returns c).After-text-len).1 in record { reply = c.given.ensures.reply ∙ rw f; bytes = c.given.ensures.bytes ∙ rw f }
