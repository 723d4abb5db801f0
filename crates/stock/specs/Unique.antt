-- Laws. Each promise determines the reply: two replies that satisfy it are equal. Assumes nothing.
use Rattle.std.specs.Prelude.{ℕ, List, ◌≡◌}
use Rattle.reply.specs.Chain.{unique}
use Rattle.assembly.specs.declared.BlockAt.{BlockAt}
use Rattle.arms.specs.declared.Arm.{Arm}
use Rattle.arms.specs.declared.Core.{Core}
use Rattle.catalogue.specs.declared.Site.{Site}
use Rattle.stock.specs.Stock.{atoms_of, core_at, arms_at, all_arms, arms_among}

pub unique-atoms_of : (sites : List Site) (r s : List ℕ) → r ≡ atoms_of sites → s ≡ atoms_of sites → r ≡ s
unique-atoms_of sites r s = unique

module _ (d : List ℕ) (bs : List BlockAt) (xs : List ℕ) (sites : List Site) where
  pub unique-core_at : (r s : Core) → r ≡ core_at d bs xs sites → s ≡ core_at d bs xs sites → r ≡ s
  unique-core_at r s = unique

  pub unique-arms_at : (digits : List ℕ) (r s : List Arm) → r ≡ arms_at d bs xs sites digits → s ≡ arms_at d bs xs sites digits → r ≡ s
  unique-arms_at digits r s = unique

  pub unique-all_arms : (r s : List (List ℕ)) → r ≡ all_arms d bs xs sites → s ≡ all_arms d bs xs sites → r ≡ s
  unique-all_arms r s = unique

pub unique-arms_among : (all : List (List ℕ)) (digits : List ℕ) (r s : List Arm) → r ≡ arms_among all digits → s ≡ arms_among all digits → r ≡ s
unique-arms_among all digits r s = unique
