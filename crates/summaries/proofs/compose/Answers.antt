use mathlib.Core.Path.{◌≡◌, sym, ◌∙◌, ap, subst}
use native.Mathlib.Omega.{arith}
use Rattle.std.specs.Prelude.{Ok}
use Rattle.std.proofs.lemmas.Result.{err_from_is_err_and}
use Rattle.graph.specs.Graph.{Within}
use Rattle.reply.specs.Read.{read, as_result}
use Rattle.reply.specs.Chain.{fine_read, refused_read}
use Rattle.assembly.specs.Placements.{most_placements, placement_at, shelf_reply}
use Rattle.assembly.specs.Sound.{PlacedRight}
use Rattle.shelf.specs.Shelf.{shelf_in}
use Rattle.summaries.specs.Ready.{LentBytes}
use Rattle.summaries.proofs.Linking.{six_linked, ready, reply-refused, reply_read, fine_count, fine_right}
use Rattle.summaries.proofs.compose.Goals as goal
use Rattle.summaries.proofs.compose.Goals.{After-le16_at-count, After-shared_slice_known-1, In_ok-check}

-- `summaries::compose` meets its contract. Assumes nothing.
lent : (c : After-shared_slice_known-1) → LentBytes c.args.book.now
lent c = record { byte = λ i. omega (arith, c.type_inv.book i) }

-- nothing is refused
fine : (c : In_ok-check) → shelf_reply (shelf_in c.args.book.now) c.args.xs.now ≡ read tt
fine c = fine_read (shelf_reply (shelf_in c.args.book.now) c.args.xs.now) (sym c.check.ensures ∙ c.in_ok-check.was)

fine-in-After-le16_at-count : (c : After-le16_at-count) → shelf_reply (shelf_in c.args.book.now) c.args.xs.now ≡ read tt
fine-in-After-le16_at-count c = fine_read (shelf_reply (shelf_in c.args.book.now) c.args.xs.now) (sym c.check.ensures ∙ c.in_ok-check.was)

few : (c : After-le16_at-count) → Within most_placements c.le16_at-count.result
few c = subst (Within most_placements) (sym c.le16_at-count.ensures) (fine_count c.args.book.now c.args.xs.now (fine-in-After-le16_at-count c))

pub links_of-links-requires : goal.links_of-links-requires
links_of-links-requires c = (few (goal.at.links_of-links-requires c).After-le16_at-count).high

pub placed-requires : goal.placed-requires
placed-requires c =
    ready c.args.book.now c.links_of-links.ensures (lent (goal.at.placed-requires c).After-shared_slice_known-1) (few (goal.at.placed-requires c).After-le16_at-count)
    (subst (PlacedRight (shelf_in c.args.book.now) (placement_at c.args.xs.now)) (sym c.le16_at-count.ensures) (fine_right c.args.book.now c.args.xs.now (fine (goal.at.placed-requires c).In_ok-check)))

pub returns-in_err-check : goal.returns-in_err-check
returns-in_err-check c =
    let a = c.args in
    let p = err_from_is_err_and c.from_residual.result c.from_residual.ensures.1 in
    rw (p.1, p.2) (ap as_result (sym (reply-refused a.book.now a.xs.now (refused_read (shelf_reply (shelf_in a.book.now) a.xs.now) _ (sym c.check.ensures ∙ c.in_err-check.was)))))

pub returns : goal.returns
returns c =
    let a = c.args in
    ap Ok (c.placed.ensures ∙ six_linked a.book.now c.links_of-links.ensures (few (goal.at.returns c).After-le16_at-count).low c.le16_at-count.ensures)
    ∙ ap as_result (sym (reply_read a.book.now a.xs.now (fine (goal.at.returns c).In_ok-check)))
