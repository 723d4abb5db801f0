-- Definitions. What is kept of a library's core and candidates, whatever the blocks are.
use Rattle.std.specs.Prelude.{ℕ, ◌+◌, ◌*◌, ◌/◌, ◌%◌, ◌<◌, ◌||◌, cond, List, [], ◌≡◌, leb, ltb, length, get_or}
use Rattle.block.specs.Rows.{table}
use Rattle.assembly.specs.declared.BlockAt.{BlockAt}
use Rattle.arms.specs.Arms.{no_arm, arm_row, row_arm, opened_of, arm_in, core_in}
use Rattle.arms.specs.declared.Arm.{Arm}
use Rattle.arms.specs.declared.Core.{Core}
use Rattle.catalogue.specs.Library.{most_sites, most_candidates, core_number, candidate_number, candidate_atom, candidate_at}
use Rattle.catalogue.specs.declared.Site.{Site}
use Rattle.catalogue.specs.Said.{no_site}

-- a place that holds the block of a number, or none: no block's number has more than 16 bits
abbrev pub no_number : ℕ
no_number = 65536

abbrev pub Holds : List ℕ → List BlockAt → ℕ → List ℕ → Type 0
Holds d bs x place = x < no_number → place ≡ opened_of d bs x

-- of the core, with the sites' atoms
unfoldable pub atoms_of : List Site → List ℕ
atoms_of sites = table most_sites (λ k. (get_or sites k no_site).atom)

unfoldable pub core_at : List ℕ → List BlockAt → List ℕ → List Site → Core
core_at d bs xs sites = core_in (opened_of d bs (core_number xs)) (atoms_of sites)

-- of the candidate at a place of the payload, and of a site's candidate of an index: none where the site stands past the payload or has no such candidate
unfoldable pub candidate_arm : List ℕ → List BlockAt → List ℕ → ℕ → Arm
candidate_arm d bs xs p = arm_in (opened_of d bs (candidate_number xs p)) (candidate_atom xs p)

unfoldable pub arm_at : List ℕ → List BlockAt → List ℕ → Site → ℕ → Arm
arm_at d bs xs s j = cond (ltb (length xs) s.first || leb s.many j) no_arm (candidate_arm d bs xs (candidate_at s j))

-- the arms of a choice, one for each site
unfoldable pub arms_at : List ℕ → List BlockAt → List ℕ → List Site → List ℕ → List Arm
arms_at d bs xs sites digits = table most_sites (λ k. arm_at d bs xs (get_or sites k no_site) (get_or digits k 0))

-- all arms: those of each site one after the other, as many places each as a site may have candidates
abbrev pub all_places : ℕ
all_places = most_sites * most_candidates

unfoldable pub all_arms : List ℕ → List BlockAt → List ℕ → List Site → List (List ℕ)
all_arms d bs xs sites = table all_places (λ i. arm_row (arm_at d bs xs (get_or sites (i / most_candidates) no_site) (i % most_candidates)))

-- the arms of a choice among them
unfoldable pub arm_among : List (List ℕ) → ℕ → ℕ → Arm
arm_among all k j = cond (leb most_candidates j) no_arm (row_arm (get_or all (most_candidates * k + j) []))

unfoldable pub arms_among : List (List ℕ) → List ℕ → List Arm
arms_among all digits = table most_sites (λ k. arm_among all k (get_or digits k 0))
