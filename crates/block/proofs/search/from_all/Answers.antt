use Prim.Native.Nat.{ℕ, ◌-◌}
use mathlib.Core.Path.{◌≡◌, refl, sym, ap, ◌∙◌}
use native.Mathlib.Numerals.{add-one}
use native.Mathlib.Omega.{arith}
use lib.ListN.{length, length-replicate}
use Rattle.half.specs.Half.{all_pairs}
use Rattle.block.specs.Block.{graph_of}
use Rattle.block.specs.Told.{passed}
use Rattle.block.proofs.Filling.{rows_start, rows_next, rows_end}
use Rattle.block.proofs.search.from_all.Goals as goal

pub loop-i-init : goal.loop-i-init
loop-i-init c = (omega arith, c.requires.0.1.shown.small, λ xs R. rw c.requires.1 (rows_start _ xs))

pub from_atom-ended-requires : goal.from_atom-ended-requires
from_atom-ended-requires c =
    let (xs, R) = c.requires.0 in
    ((graph_of c.args.n xs, record { shown = R.shown; size = refl; start = omega arith }), refl)

pub put_row-requires : goal.put_row-requires
put_row-requires c = tt

pub loop-i-preserved : goal.loop-i-preserved
loop-i-preserved c =
    let l = c.loop-i in (
      omega arith,
      l.invariant.1,
      λ xs R.
          let S = c.from_atom-ended.ensures _ (record { shown = R.shown; size = refl; start = omega arith }) in
          let w = (passed _ xs R.fine).whole in
          rw (c.put_row.ensures, add-one l.i) (rows_next _ xs _ _ l.i _ _ (omega arith) (l.invariant.2 xs R) (rw (add-one l.i) at (S.far w)) (rw (add-one l.i) at (S.deep w))),
    )

pub shape_of-half : goal.shape_of-half
shape_of-half c =
    let (xs, R) = c.requires.0 in
    (c.loop-i.invariant.2 xs R).size ∙ sym (ap length c.requires.1 ∙ length-replicate {A = ℕ} all_pairs 0)

pub returns : goal.returns
returns c =
    let e : c.loop-i.i ≡ c.args.n = omega arith in
    record { half = λ xs R. (rows_end _ xs R.fine _ _ (rw e at (c.loop-i.invariant.2 xs R))).0; far = λ xs R. (rows_end _ xs R.fine _ _ (rw e at (c.loop-i.invariant.2 xs R))).1 }
