use Prim.Native.Nat.{suc, ◌-◌, ◌≤◌, ◌<◌, min}
use mathlib.Core.Path.{◌≡◌, ◌∙◌, ap}
use native.Mathlib.Omega.{arith}
use lib.ListN.{length, get_or}
use mathlib.Core.List.{List}
use Rattle.arms.specs.Arms.{most_arms, no_arm, stem_of}
use Rattle.arms.specs.declared.Arm.{Arm}
use Rattle.catalogue.specs.Library.{most_sites, most_candidates}
use Rattle.catalogue.specs.Said.{no_site}
use Rattle.stock.specs.Stands.{among_there}
use Rattle.library.specs.Chosen.{Picked}
use Rattle.library.specs.Held.{few, one, many, digits_low}
use Rattle.library.specs.Turning.{staying}
use borrow.Author.Rules.{rules}
use Rattle.library.proofs.last.staying_at.Goals as goal
use Rattle.library.proofs.last.staying_at.Goals.{After-choose-digits}

-- `library::last::staying_at` meets its contract. Assumes nothing.
pub choose-digits-requires : goal.choose-digits-requires
choose-digits-requires c = let h = c.requires.4.held in (few h, λ k i. (many h k i).low)

-- the last digit is below its site's candidates
low : (c : After-choose-digits) → let k = c.args.n - 1 in (get_or c.choose-digits.result k 0 < (get_or c.args.sites k no_site).many) × ((get_or c.args.sites k no_site).many ≤ most_candidates)
low c =
    let h = c.requires.4.held in
    let i : c.args.n - 1 < c.args.n = omega (arith, one h) in
    (digits_low h c.args.position c.requires.5 c.choose-digits.result c.choose-digits.ensures (c.args.n - 1) i, (many h (c.args.n - 1) i).high)

pub overflow_sub-k : goal.overflow_sub-k
overflow_sub-k c = one c.requires.4.held

pub offset_bounds-sites-k : goal.offset_bounds-sites-k
offset_bounds-sites-k c = let h = c.requires.4.held in omega (arith, few h, one h)

pub bounds-sites-k : goal.bounds-sites-k
bounds-sites-k c = let h = c.requires.4.held in omega (arith, few h, one h)

pub offset_bounds-digits-k : goal.offset_bounds-digits-k
offset_bounds-digits-k c = let h = c.requires.4.held in omega (arith, few h, one h)

pub bounds-digits-k : goal.bounds-digits-k
bounds-digits-k c = let h = c.requires.4.held in omega (arith, few h, one h)

pub overflow_mul-place : goal.overflow_mul-place
overflow_mul-place c = let h = c.requires.4.held in omega (arith, few h, one h)

pub overflow_add-place : goal.overflow_add-place
overflow_add-place c = let h = c.requires.4.held in omega (arith, few h, low (goal.at.overflow_add-place c).After-choose-digits)

pub overflow_sub-left : goal.overflow_sub-left
overflow_sub-left c = omega (arith, low (goal.at.overflow_sub-left c).After-choose-digits)

pub returns : goal.returns
returns c d l bs xs t h =
    let a = c.args in
    let chosen = c.choose-digits in
    let found = c.arms_among-arms in
    let e : a.n ≡ suc (a.n - 1) = omega (arith, one t.held) in
    let z : min (a.n - 1) (most_arms - 1) ≡ a.n - 1 = omega (arith, few t.held) in
    let long : length chosen.result ≡ most_sites = search rules in
    let wide : length found.result ≡ most_sites = search rules in
    let picked : Picked a.all.now chosen.result (a.n - 1) found.result = record {
      arm = λ k i.
          let j : k < a.n = omega (arith, i) in
          ap (λ (all : List Arm). get_or all k no_arm) found.ensures
          ∙ among_there a.all.now chosen.result k (omega (arith, j, few t.held)) (omega (arith, digits_low t.held a.position h chosen.result chosen.ensures k j, (many t.held k j).high));
    } in
    staying e t a.position h chosen.result long chosen.ensures found.result wide picked _ (c.stem_of-stem.ensures ∙ ap (stem_of a.core found.result) z)
