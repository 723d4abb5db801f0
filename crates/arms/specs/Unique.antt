-- Laws. Each promise determines the reply: two replies that satisfy it are equal. Assumes nothing.
use Rattle.std.specs.Prelude.{ℕ, ◌-◌, min, List, ◌≡◌}
use Rattle.reply.specs.Chain.{unique}
use Rattle.block.specs.declared.Indices.{Indices}
use Rattle.arms.specs.Arms.{most_arms, arm_row, row_arm, opened, arm_in, core_in, stem_of, joined_to}
use Rattle.arms.specs.declared.Arm.{Arm}
use Rattle.arms.specs.declared.Core.{Core}
use Rattle.arms.specs.declared.Stem.{Stem}

pub unique-open_in : (number n : ℕ) (bonds r s : List ℕ) → r ≡ opened number n bonds → s ≡ opened number n bonds → r ≡ s
unique-open_in number n bonds r s = unique

pub unique-arm_in : (place : List ℕ) (a : ℕ) (r s : Arm) → r ≡ arm_in place a → s ≡ arm_in place a → r ≡ s
unique-arm_in place a r s = unique

pub unique-core_in : (place atoms : List ℕ) (r s : Core) → r ≡ core_in place atoms → s ≡ core_in place atoms → r ≡ s
unique-core_in place atoms r s = unique

pub unique-arm_row : (arm : Arm) (r s : List ℕ) → r ≡ arm_row arm → s ≡ arm_row arm → r ≡ s
unique-arm_row arm r s = unique

pub unique-row_arm : (row : List ℕ) (r s : Arm) → r ≡ row_arm row → s ≡ row_arm row → r ≡ s
unique-row_arm row r s = unique

pub unique-stem : (core : Core) (arms : List Arm) (m : ℕ) (r s : Stem) → r ≡ stem_of core arms (min m (most_arms - 1)) → s ≡ stem_of core arms (min m (most_arms - 1)) → r ≡ s
unique-stem core arms m r s = unique

pub unique-joined : (stem : Stem) (arm : Arm) (r s : Indices) → r ≡ joined_to stem arm → s ≡ joined_to stem arm → r ≡ s
unique-joined stem arm r s = unique
