-- Work. What is wrong with a placement, in the rules' words: refusal 19 counts earlier joins at both atoms of a join.
use Rattle.std.specs.Prelude.{ℕ, suc, ◌-◌, ◌||◌, not, cond, eqb}
use Rattle.reply.specs.Read.{is_outside}
use Rattle.assembly.specs.Placements.{Shelf, join_on, is_full, first_fault, parent_fault, sites_on}
use Rattle.assembly.specs.declared.Placement.{Placement}

-- 16; of the first placement 17; of a later one 23 or 24, 18, 19; or 0
unfoldable pub ruled_fault : (shelf : Shelf) (placed : ℕ → Placement) → ℕ → ℕ
ruled_fault shelf placed k =
    let q = placed k in
    let there = sites_on shelf placed (q.parent - 1) in
    let here = sites_on shelf placed k in
    cond (not (shelf.has q.block)) 16
    (cond (eqb k 0) (first_fault q)
    (cond (is_outside k q.parent) (parent_fault q.parent)
    (cond (is_outside there.atoms q.site || is_outside here.atoms q.own) 18
    (cond (is_full (there.ends q.site) (join_on placed) k q.parent q.site || is_full (here.ends q.own) (join_on placed) k (suc k) q.own) 19 0))))
