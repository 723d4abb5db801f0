-- Laws. With the faults in the rules' words the reply is the same, since no earlier join is on a placement that is being joined. Assumes nothing.
use Rattle.std.specs.Prelude.{ℕ, zero, suc, ◌+◌, ◌-◌, ◌<◌, List, ◌≡◌}
use Rattle.std.proofs.Common.{arith}
use Rattle.reply.specs.Read.{◌then◌, refuse_if, is_outside}
use Rattle.assembly.specs.Placements.{most_placements, placement_count, placement_at, Shelf, join_of, join_on, joins_on, join_fault, sites_on, later_fault, fault, placements_reply, shelf_reply}
use Rattle.assembly.specs.Degrees.{joins_zero, joins_none}
use Rattle.assembly.specs.Sound.{wrong_same, well}
use Rattle.assembly.specs.Rules.{ruled_fault}
use Rattle.assembly.specs.declared.Placement.{Placement}

module _ (shelf : Shelf) (placed : ℕ → Placement) where
  -- none of the earlier joins is on a placement that is being joined
  none_earlier : (k a : ℕ) → ((m : ℕ) → m < k → fault shelf placed m ≡ 0) → joins_on (join_on placed) (k - 1) (suc k) a ≡ 0
  none_earlier zero a before = joins_zero (join_on placed) 1 a
  none_earlier (suc k) a before =
      let e : suc k - 1 ≡ k = omega arith in
      rw e (joins_none (join_on placed) k (suc (suc k)) a (λ i l h. ((well shelf placed i (before i (omega arith))).1 l).parent) (omega arith))

  ruled : (k : ℕ) → ((m : ℕ) → m < k → fault shelf placed m ≡ 0) → ruled_fault shelf placed k ≡ fault shelf placed k
  unfolding ruled_fault fault later_fault join_fault join_of
  ruled k before =
      let ends = (sites_on shelf placed k).ends (placed k).own in
      let e : ends + joins_on (join_on placed) (k - 1) (suc k) (placed k).own ≡ ends = omega (arith, none_earlier k (placed k).own before) in
      rw e

-- whatever the shelf and the bytes
pub in_the_rules_words : (shelf : Shelf) (xs : List ℕ) → shelf_reply shelf xs
    ≡ (refuse_if (is_outside most_placements (placement_count xs)) 15 0 then λ _. placements_reply (ruled_fault shelf (placement_at xs)) 0 (placement_count xs))
in_the_rules_words shelf xs = rw (wrong_same _ _ (ruled shelf (placement_at xs)) (placement_count xs) 0 (λ m h. absurd (omega arith)))
