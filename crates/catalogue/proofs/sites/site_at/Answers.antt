use Prim.Native.Nat.{ℕ, ◌+◌}
use mathlib.Core.Path.{ap₂}
use Rattle.catalogue.specs.declared.Site.{Site}
use Rattle.catalogue.proofs.sites.site_at.Goals as goal

-- `catalogue::sites::site_at` meets its contract. Assumes nothing.
pub returns : goal.returns
returns c = let a = c.args in ap₂ {C = Site} (λ (x y : ℕ). record { atom = x; many = y; first = a.p + 2 }) c.byte_at.ensures c.byte_at-2.ensures
