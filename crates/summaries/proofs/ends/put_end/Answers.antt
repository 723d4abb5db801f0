use Prim.Native.Nat.{ℕ, ◌/◌, ◌<◌}
use mathlib.Core.List.{[]}
use mathlib.Core.Path.{◌≡◌, sym, ◌∙◌, subst}
use native.Mathlib.Omega.{arith}
use lib.ListN.{length, get_or}
use Rattle.summaries.specs.Ends.{Stepped}
use Rattle.summaries.proofs.Storing.{put_other, put_here, has_home}
use Rattle.summaries.proofs.ends.put_end.Goals as goal
use Rattle.summaries.proofs.ends.put_end.Goals.{Else-end_at-x}

-- `summaries::ends::put_end` meets its contract. Assumes nothing.
pub end_at-requires : goal.end_at-requires
end_at-requires c = let p = c.requires in omega (arith, p.1.high, p.0.few)

pub returns-then-end_at-x : goal.returns-then-end_at-x
returns-then-end_at-x c = let a = c.args in put_other a.f (λ e. omega (arith, c.if-end_at-x.true, c.end_at.ensures.0, e))

same : (c : Else-end_at-x) → c.end_at.result ≡ c.args.x
same c = omega (arith, c.if-end_at-x.false)

row : (c : Else-end_at-x) → c.args.f / 2 < length c.args.rows.now
row c = let p = c.requires in omega (arith, p.1.high, p.2)

pub offset_bounds-rows-k : goal.offset_bounds-rows-k
offset_bounds-rows-k c = let p = c.requires in omega (arith, p.1.high, p.0.few)

pub slice_copy_out-old : goal.slice_copy_out-old
slice_copy_out-old c = row (goal.at.slice_copy_out-old c).Else-end_at-x

pub home_of-requires : goal.home_of-requires
home_of-requires c = let p = c.requires in omega (arith, p.1.high, p.0.few)

pub stepped-requires : goal.stepped-requires
stepped-requires c =
    (c.requires.0, omega (arith, c.home_of.ensures, has_home c.requires.0 c.args.f c.requires.1))

pub offset_bounds-rows-k-2 : goal.offset_bounds-rows-k-2
offset_bounds-rows-k-2 c = let p = c.requires in omega (arith, p.1.high, p.0.few)

pub bounds-rows-k : goal.bounds-rows-k
bounds-rows-k c = row (goal.at.bounds-rows-k c).Else-end_at-x

pub offset_bounds-counts-f : goal.offset_bounds-counts-f
offset_bounds-counts-f c = let p = c.requires in omega (arith, p.1.high, p.0.few)

pub bounds-counts-f : goal.bounds-counts-f
bounds-counts-f c = let p = c.requires in omega (arith, p.1.high, p.3)

pub returns : goal.returns
returns c =
    let a = c.args in
    let p = c.requires in
    put_here p.0 a.x a.f a.from.now a.sight _ p.1 p.2 p.3 p.4 p.5 (sym c.end_at.ensures.0 ∙ same (goal.at.returns c).Else-end_at-x)
    (subst (λ (h : ℕ). Stepped a.links.now a.count a.from.now h (get_or a.rows.now (a.f / 2) []) c.stepped.result) c.home_of.ensures c.stepped.ensures)
