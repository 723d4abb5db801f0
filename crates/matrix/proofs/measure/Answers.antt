use Prim.Native.Nat.{ℕ, min}
use mathlib.Core.List.{List}
use mathlib.Core.Path.{◌≡◌, sym, ap, ap₂, ◌∙◌}
use Rattle.reply.specs.Read.{refused, read, as_result}
use Rattle.std.proofs.lemmas.Result.{err_from_is_err_and}
use Rattle.reply.specs.Chain.{fine_read, refused_read}
use Rattle.reply.specs.declared.Refusal.{Refusal}
use Rattle.block.specs.Block.{most_atoms, block_reply, graph_of}
use Rattle.block.specs.Rows.{rows_of}
use Rattle.block.specs.Index.{indices_reply, indices_of}
use Rattle.block.specs.Measures.{all_atoms}
use Rattle.block.specs.declared.Indices.{Indices}
use Rattle.matrix.specs.Matrix.{matrix_indices}
use Rattle.matrix.specs.Told.{matrix_is}
use Rattle.matrix.proofs.measure.Goals as goal
use Rattle.std.specs.Prelude.{Ok}

told-refused : (n : ℕ) (xs : List ℕ) (r : Refusal) → block_reply n xs ≡ refused r → indices_reply n xs ≡ refused r
unfolding indices_reply
told-refused n xs r e = rw e

told-fine : (n : ℕ) (xs : List ℕ) → block_reply n xs ≡ read tt → indices_reply n xs ≡ read (indices_of (graph_of n xs))
unfolding indices_reply
told-fine n xs e = rw e

of : (n : ℕ) (xs : List ℕ) → block_reply n xs ≡ read tt → (rows : List (List ℕ)) (x : Indices) → rows ≡ rows_of n xs → x ≡ matrix_indices rows (min n most_atoms)
    → Ok x ≡ as_result (indices_reply n xs)
of n xs f rows x p q =
    ap Ok (q ∙ ap₂ matrix_indices p (all_atoms n xs f) ∙ matrix_is n xs f) ∙ sym (ap as_result (told-fine n xs f))

pub returns-in_err-check : goal.returns-in_err-check
returns-in_err-check c =
    let a = c.args in
    let p = err_from_is_err_and c.from_residual.result c.from_residual.ensures.1 in
    rw (p.1, p.2) (sym (ap as_result (told-refused a.n a.bonds.now _ (refused_read _ _ (sym c.check.ensures ∙ c.in_err-check.was)))))

pub returns : goal.returns
returns c =
    let a = c.args in
    let f = fine_read (block_reply a.n a.bonds.now) (sym c.check.ensures ∙ c.in_ok-check.was) in
    of a.n a.bonds.now f c.rows-matrix.result c.sums.result c.rows-matrix.ensures.rows c.sums.ensures
