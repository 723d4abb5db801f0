use Prim.Native.Nat.{ℕ, ◌<◌, ◌≤◌}
use mathlib.Core.List.{List}
use mathlib.Core.Path.{◌≡◌, sym, ◌∙◌, ap}
use native.Mathlib.Omega.{arith}
use lib.ListN.{length, take}
use lib.Seq.{length-take-le, get_or-take}
use Rattle.catalogue.proofs.Fine.{few_products}
use Rattle.library.specs.Values.{value_at}
use Rattle.placing.specs.Ranked.{Entry, coming}
use Rattle.placing.specs.Entries.{laid, value_in, ranked_in}
use Rattle.ranking.specs.Best.{said_best, best_out}
use Rattle.ranking.specs.Held.{best_stops, values_told, row_holds, best_no_room, best_held}
use Rattle.ranking.proofs.best_through.Goals as goal
use Rattle.ranking.proofs.best_through.Goals.{Else-n-eq0}
use Rattle.std.specs.Prelude.{Ok, Err}
use Rattle.std.proofs.lemmas.Result.{err_from_is_err_and}

-- `ranking::best_through` meets its contract. Assumes nothing.
-- all products are in the row
short : (c : Else-n-eq0) → c.in_ok-count.count ≤ length c.values.new.row
short c =
    let a = c.args in
    let t = values_told a.d.now a.field (length a.row.now) _ c.requires (sym c.values.ensures.reply ∙ c.in_ok-count.was) in
    omega (arith, t.all, (few_products a.d.now t.library t.reads).1, c.requires, c.values.auto.row)

pub returns-then-n-eq0 : goal.returns-then-n-eq0
returns-then-n-eq0 c =
    let a = c.args in
    let t = values_told a.d.now a.field (length a.row.now) _ c.requires (sym c.values.ensures.reply ∙ c.in_ok-count.was) in
    let e = best_no_room a.d.now a.field (length a.row.now) t a.greatest a.tag a.entries.now a.held c.if-n-eq0.true in
    record { reply = ap Err c.at.ensures ∙ sym (ap said_best e); numbers = sym (ap (best_out a.entries.now) e) }

pub slice_bounds-put_row-end : goal.slice_bounds-put_row-end
slice_bounds-put_row-end c = short (goal.at.slice_bounds-put_row-end c).Else-n-eq0

pub returns-in_err-count : goal.returns-in_err-count
returns-in_err-count c =
    let a = c.args in
    let p = err_from_is_err_and c.from_residual.result c.from_residual.ensures.1 in
    let e = best_stops a.d.now a.field (length a.row.now) a.greatest a.tag a.entries.now a.held _ (sym c.values.ensures.reply ∙ c.in_err-count.was) in
    record { reply = rw (p.1, p.2) (sym (ap said_best e)); numbers = sym (ap (best_out a.entries.now) e) }

pub returns : goal.returns
returns c =
    let a = c.args in
    let t = values_told a.d.now a.field (length a.row.now) _ c.requires (sym c.values.ensures.reply ∙ c.in_ok-count.was) in
    let after = c.values.new.row in
    let count = c.in_ok-count.count in
    let holds = row_holds a.d.now a.field (length a.row.now) t a.row.now after c.values.ensures.numbers in
    let front : (i : ℕ) → i < count → value_in (take count after) i ≡ value_at a.d.now t.library a.field i = λ i h. get_or-take count after i 0 h ∙ holds i h in
    let e = best_held a.d.now a.field (length a.row.now) t a.greatest a.tag a.entries.now a.held c.if-n-eq0.false (value_in (take count after)) front in
    let s = ap (λ (k : ℕ). ranked_in a.greatest (coming (value_in (take count after)) a.tag k) a.entries.now a.held) (length-take-le count after (short (goal.at.returns c).Else-n-eq0)) in
    let p = c.put_row-many.ensures in
    record { reply = ap Ok (p.count ∙ ap length s) ∙ sym (ap said_best e); numbers = p.numbers ∙ ap (λ (l : List Entry). laid l a.entries.now) s ∙ sym (ap (best_out a.entries.now) e) }
