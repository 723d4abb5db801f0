-- Laws. What is kept of a site that stands in the payload. Assumes nothing.
use Rattle.std.specs.Prelude.{ℕ, ◌+◌, ◌*◌, ◌/◌, ◌%◌, ◌≤◌, ◌<◌, ◌≡◌, length, get_or}
use mathlib.Core.List.{List, []}
use Rattle.std.proofs.Math.Path.{refl, ap}
use Rattle.std.proofs.Common.{◌∙◌, lit<}
use Rattle.std.proofs.Math.Nat.{mul-add-div_right, mul-add-mod_self_right, div-eq_of_lt, mod-eq_of_lt}
use native.Mathlib.Omega.{arith}
use borrow.Author.Tests.{le-ltb, lt-leb}
use Rattle.block.specs.Tables.{get_or-table}
use Rattle.assembly.specs.declared.BlockAt.{BlockAt}
use Rattle.arms.specs.Arms.{no_arm, arm_row, row_arm}
use Rattle.catalogue.specs.Library.{most_sites, most_candidates, candidate_at}
use Rattle.catalogue.specs.declared.Site.{Site}
use Rattle.catalogue.specs.Said.{no_site}
use Rattle.stock.specs.Stock.{candidate_arm, arm_at, arms_at, all_places, all_arms, arm_among, arms_among}

module _ (d : List ℕ) (bs : List BlockAt) (xs : List ℕ) where
  pub arm_stands : (s : Site) (j : ℕ) → s.first ≤ length xs → j < s.many → arm_at d bs xs s j ≡ candidate_arm d bs xs (candidate_at s j)
  unfolding arm_at
  arm_stands s j h l = rw (le-ltb (length xs) s.first h, lt-leb s.many j l)

  module _ (sites : List Site) where
    pub arms_there : (digits : List ℕ) (k : ℕ) → k < most_sites → get_or (arms_at d bs xs sites digits) k no_arm ≡ arm_at d bs xs (get_or sites k no_site) (get_or digits k 0)
    unfolding arms_at
    arms_there digits k h = get_or-table most_sites (λ i. arm_at d bs xs (get_or sites i no_site) (get_or digits i 0)) k no_arm h

    -- in the row at the place of a site and an index
    pub row_there : (k j : ℕ) → k < most_sites → j < most_candidates → row_arm (get_or (all_arms d bs xs sites) (most_candidates * k + j) []) ≡ arm_at d bs xs (get_or sites k no_site) j
    unfolding all_arms
    row_there k j h l =
        let z : most_candidates * k + j ≡ k * most_candidates + j = omega arith in
        let a : (most_candidates * k + j) / most_candidates ≡ k = ap (λ (x : ℕ). x / most_candidates) z ∙ mul-add-div_right (lit< tt) k j ∙ omega (arith, div-eq_of_lt {n = j} {m = most_candidates} l) in
        let b : (most_candidates * k + j) % most_candidates ≡ j = ap (λ (x : ℕ). x % most_candidates) z ∙ mul-add-mod_self_right k most_candidates j ∙ mod-eq_of_lt l in
        ap row_arm (get_or-table all_places (λ i. arm_row (arm_at d bs xs (get_or sites (i / most_candidates) no_site) (i % most_candidates))) (most_candidates * k + j) [] (omega arith)) ∙ rw (a, b) refl

pub among_there : (all : List (List ℕ)) (digits : List ℕ) (k : ℕ) → k < most_sites → get_or digits k 0 < most_candidates
    → get_or (arms_among all digits) k no_arm ≡ row_arm (get_or all (most_candidates * k + get_or digits k 0) [])
unfolding arms_among arm_among
among_there all digits k h l = get_or-table most_sites (λ i. arm_among all i (get_or digits i 0)) k no_arm h ∙ rw (lt-leb most_candidates (get_or digits k 0) l) refl
