-- An opened block by what is found, and no arm where a site or an index has none. Assumes nothing.
use Prim.Native.Nat.{ℕ, ◌+◌, ◌*◌, ◌≤◌, ◌<◌}
use mathlib.Core.List.{List, []}
use mathlib.Core.Path.{◌≡◌}
use borrow.Author.Tests.{lt-ltb, le-ltb, le-leb, lt-leb}
use lib.ListN.{length, get_or}
use Rattle.assembly.specs.Book.{find, bond_bytes}
use Rattle.assembly.specs.declared.BlockAt.{BlockAt}
use Rattle.arms.specs.Arms.{no_arm, opened, opened_of, row_arm}
use Rattle.arms.specs.declared.Arm.{Arm}
use Rattle.catalogue.specs.Library.{most_candidates}
use Rattle.catalogue.specs.declared.Site.{Site}
use Rattle.stock.specs.Stock.{arm_at, arm_among}

pub opened_said : (d : List ℕ) (bs : List BlockAt) (x : ℕ) (b : BlockAt) (bonds : List ℕ) → b ≡ find bs x → bonds ≡ bond_bytes d b → opened b.number b.atoms bonds ≡ opened_of d bs x
opened_said d bs x b bonds e h = rw (h, e)

module _ (d : List ℕ) (bs : List BlockAt) (xs : List ℕ) (s : Site) (j : ℕ) where
  pub site_past : length xs < s.first → no_arm ≡ arm_at d bs xs s j
  unfolding arm_at
  site_past h = rw (lt-ltb (length xs) s.first h)

  pub index_past : s.first ≤ length xs → s.many ≤ j → no_arm ≡ arm_at d bs xs s j
  unfolding arm_at
  index_past w h = rw (le-ltb (length xs) s.first w, le-leb s.many j h)

module _ (all : List (List ℕ)) (k j : ℕ) where
  pub none_among : most_candidates ≤ j → no_arm ≡ arm_among all k j
  unfolding arm_among
  none_among h = rw (le-leb most_candidates j h)

  pub one_among : j < most_candidates → (r : Arm) → r ≡ row_arm (get_or all (most_candidates * k + j) []) → r ≡ arm_among all k j
  unfolding arm_among
  one_among h r e = rw (lt-leb most_candidates j h) e
