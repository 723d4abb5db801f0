use mathlib.Core.List.{map}
use mathlib.Core.Path.{◌≡◌, refl, sym, ap, ◌∙◌}
use Prim.Native.Nat.{◌+◌, ◌≤◌}
use lib.ListN.{length, take, replicate}
use native.Mathlib.Omega.{arith}
use Rattle.block.specs.Block.{most_bytes, block_reply}
use Rattle.molfile.proofs.Fronts.{Front, front, reads_refused, reads_kept, alike}
use Rattle.blockfile.specs.Bytes.{low}
use Rattle.blockfile.proofs.Lows.{narrowed, cut_same}
use Rattle.blockfile.proofs.read.Goals as goal
use Rattle.blockfile.proofs.read.Goals.{After-narrow, In_ok-k}
use Rattle.std.proofs.lemmas.Result.{err_from_is_err_and}

-- what was kept stands at the front
kept-front : (c : In_ok-k) → Front c.args.text.now c.kept_bonds.new.out (most_bytes + 1) c.in_ok-k.k
kept-front c =
    front _ (replicate (most_bytes + 1) 0) refl (sym c.in_ok-k.ensures.reply) c.in_ok-k.ensures.numbers

kept-front-in-After-narrow : (c : After-narrow) → Front c.args.text.now c.kept_bonds.new.out (most_bytes + 1) c.in_ok-k.k
kept-front-in-After-narrow c =
    front _ (replicate (most_bytes + 1) 0) refl (sym c.in_ok-k.ensures.reply) c.in_ok-k.ensures.numbers

pub slice_bounds-pairs-end : goal.slice_bounds-pairs-end
slice_bounds-pairs-end c = (kept-front (goal.at.slice_bounds-pairs-end c).In_ok-k).few.1

pub slice_bounds-narrow-end : goal.slice_bounds-narrow-end
slice_bounds-narrow-end c = sym (kept-front (goal.at.slice_bounds-narrow-end c).In_ok-k).taken

pub narrow-requires : goal.narrow-requires
narrow-requires c = let F = kept-front (goal.at.narrow-requires c).In_ok-k in omega (arith, F.taken, F.few)

-- and then as bytes
bytes-front : (c : After-narrow) → let n = c.in_ok-k.k.numbers in let bytes = c.narrow.new.out in
    (n ≤ length bytes) × (length (take n bytes) ≡ n) × (take n bytes ≡ map low (take n c.kept_bonds.new.out))
bytes-front c =
    let F = kept-front-in-After-narrow c in
    narrowed (take c.in_ok-k.k.numbers c.kept_bonds.new.out) (replicate (most_bytes + 1) 0) F.taken F.few.0 c.narrow.ensures

pub slice_bounds-bytes-end : goal.slice_bounds-bytes-end
slice_bounds-bytes-end c = (bytes-front (goal.at.slice_bounds-bytes-end c).After-narrow).0

pub slice_bounds-answer-end : goal.slice_bounds-answer-end
slice_bounds-answer-end c = sym (bytes-front (goal.at.slice_bounds-answer-end c).After-narrow).1

pub returns-in_err-k : goal.returns-in_err-k
returns-in_err-k c = let w = let a = c.args in
    reads_refused block_reply a.text.now a.out.now (most_bytes + 1) (sym c.in_err-k.ensures.reply) in
    let p = err_from_is_err_and c.from_residual.result c.from_residual.ensures.1 in
    record { reply = rw (p.1, p.2) w.0; bytes = w.1 }

pub returns : goal.returns
returns c = let w = let F = kept-front (goal.at.returns c).In_ok-k in
    let a = c.args in
    let A = alike block_reply a.out.now F.atoms_are ((bytes-front (goal.at.returns c).After-narrow).2 ∙ ap (map low) F.numbers_are) (c.answer.ensures.reply, c.answer.ensures.bytes) in
    reads_kept block_reply a.text.now a.out.now F.fine (cut_same a.text.now a.out.now F.fine A) in record { reply = w.0; bytes = w.1 }
